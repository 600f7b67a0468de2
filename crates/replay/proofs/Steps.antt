-- One step of a run.
use Rattle.std.proofs.Common.{◌≡◌, ℕ, Bool, true, false, cond, List, [], ◌∷◌, ◌++◌, length, IfOk, Some, None, Ok, Err, Option, Result, ControlFlow, Continue, Break, Bor, sym, ap, ◌∙◌, subst, append_assoc, append-nil, arith}
use Rattle.sheet.specs.declared.calls.Call.{Call}
use Rattle.sheet.specs.Book.{Book, after, blank, ended, out}
use Rattle.sheet.specs.Sets.{EdgeSets, laid}
use Rattle.replay.specs.declared.outcome.Standing.{Standing}
use Rattle.replay.specs.declared.outcome.Stop.{Stop}
use Rattle.replay.specs.Outcomes.{with_standing}
use Rattle.replay.specs.Runs.{Answer, Run, answer, place, run, told}
use Rattle.replay.specs.Phases.{Goes, Halts, Stopped, Turned}

told_told : (xs ys : List Answer) (r : Run) → told xs (told ys r) ≡ told (xs ++ ys) r
told_told xs ys r = ap {B = Run} (λ l. record { answers = l; book = r.book; whole = r.whole }) (sym (append_assoc xs ys r.answers))

told_end : (xs : List Answer) (b : Book) (w : Bool) → told xs (record { answers = []; book = b; whole = w }) ≡ record { answers = xs; book = b; whole = w }
told_end xs b w = ap {B = Run} (λ l. record { answers = l; book = b; whole = w }) (append-nil xs)

-- a call in its place
pub goes_one : (cs : List Call) (b : Book) (xs : List Answer) (k : Call) (a : Answer) (b' : Book)
    → place b k ≡ true → a ≡ answer b k → b' ≡ after b k → Goes (k ∷ cs) b xs cs b' (xs ++ a ∷ [])
unfolding run
goes_one cs b xs k a b' p q r =
    ap (λ t. told xs (cond t (told (answer b k ∷ []) (run (after b k) cs)) (record { answers = []; book = b; whole = false }))) p
    ∙ told_told xs (answer b k ∷ []) (run (after b k) cs)
    ∙ ap (λ z. told (xs ++ z ∷ []) (run (after b k) cs)) (sym q)
    ∙ ap (λ z. told (xs ++ a ∷ []) (run z cs)) (sym r)

-- a call out of its place
pub halts_out : (cs : List Call) (b : Book) (xs : List Answer) (k : Call) → place b k ≡ false → Halts (k ∷ cs) b xs b xs false
unfolding run
halts_out cs b xs k p =
    ap (λ t. told xs (cond t (told (answer b k ∷ []) (run (after b k) cs)) (record { answers = []; book = b; whole = false }))) p ∙ told_end xs b false

-- no call is left
pub halts_end : (cs : List Call) (b : Book) (xs : List Answer) → length cs ≡ 0 → Halts cs b xs b xs true
unfolding run
halts_end [] b xs l = told_end xs b true
halts_end (c ∷ cs) b xs l = absurd (omega (arith, l))

-- ---- the end of a trial

-- a book in which no trial stands
pub ended_idle : (b : Book) → b.trial ≡ None → ended b ≡ b
unfolding ended
ended_idle b h = ap {B = Book} (λ (o : Option (ℕ × ℕ)). record { threads = b.threads; events = b.events; edges = out b.edges o; closed = b.closed; trial = None }) h
    ∙ ap {B = Book} (λ (o : Option (ℕ × ℕ)). record { threads = b.threads; events = b.events; edges = b.edges; closed = b.closed; trial = o }) (sym h)

-- what a standing trial shows puts it back in place
pub shown : (b : Book) (s : Standing) → laid s.edges ≡ b.edges → Some (s.first, s.second) ≡ b.trial → with_standing (ended b) (Some s) ≡ b
unfolding ended
shown b s e f =
    ap {B = Book} (λ (x : EdgeSets). record { threads = b.threads; events = b.events; edges = x; closed = b.closed; trial = Some (s.first, s.second) }) e
    ∙ ap {B = Book} (λ (o : Option (ℕ × ℕ)). record { threads = b.threads; events = b.events; edges = b.edges; closed = b.closed; trial = o }) f

-- the calls stop while a trial stands
pub stops_shown : (cs : List Call) (b : Book) (xs : List Answer) (s : Standing) (w : Bool) → laid s.edges ≡ b.edges → Some (s.first, s.second) ≡ b.trial
    → Halts cs b xs b xs w → Stopped cs b xs (ended b) xs (record { whole = w; standing = Some s })
stops_shown cs b xs s w e f h =
    let p : with_standing (ended b) (Some s) ≡ b = shown b s e f in
    (subst (λ z. Halts cs b xs z xs w) (sym p) h, ap ended (sym p))

-- ---- turns

-- a turn after what went before
pub turned_after : (m : ℕ) (cs ds : List Call) (b b₁ b₂ : Book) (xs ys zs : List Answer) (t : ControlFlow Stop (Bor (List Call))) → Goes cs b xs ds b₁ ys
    → Turned m ds b₁ ys b₂ zs t → Turned m cs b xs b₂ zs t
turned_after m cs ds b b₁ b₂ xs ys zs (Continue r) g h = (h.0, g ∙ h.1)
turned_after m cs ds b b₁ b₂ xs ys zs (Break s) g h = (g ∙ h.0, h.1)

-- a whole trial after its try
pub try_turn : {E : Type 0} (m : ℕ) (cs ds : List Call) (b b₁ b₂ b₃ : Book) (xs ys zs : List Answer) (r : Result (ControlFlow Stop (Bor (List Call))) E)
    → Goes cs b xs ds b₁ ys → b₃ ≡ b₂ → IfOk r (λ t. Turned m ds b₁ ys b₂ zs t) → IfOk r (λ t. Turned m cs b xs b₃ zs t)
try_turn m cs ds b b₁ b₂ b₃ xs ys zs (Ok t) g e h = subst (λ z. Turned m cs b xs z zs t) (sym e) (turned_after m cs ds b b₁ b₂ xs ys zs t g h)
try_turn m cs ds b b₁ b₂ b₃ xs ys zs (Err x) g e h = tt

-- the same turn at the same books
pub turned_as : (m : ℕ) (cs : List Call) (xs ys : List Answer) (t : ControlFlow Stop (Bor (List Call))) (b b' e e' : Book) → b ≡ b' → e ≡ e' → Turned m cs b xs e ys t → Turned m cs b' xs e' ys t
turned_as m cs xs ys t b b' e e' p q h = subst (λ z. Turned m cs z xs e' ys t) p (subst (λ z. Turned m cs b xs z ys t) q h)

-- a run from the blank book, in two parts
pub begin : (cs ds : List Call) (b b₁ : Book) (xs ys : List Answer) (r : Run) → b ≡ blank → xs ≡ [] → Goes cs b xs ds b₁ ys
    → told ys (run b₁ ds) ≡ r → r ≡ run blank cs
begin cs ds b b₁ xs ys r p q g h = sym (g ∙ h) ∙ ap (λ z. told z (run b cs)) q ∙ ap (λ z. run z cs) p
