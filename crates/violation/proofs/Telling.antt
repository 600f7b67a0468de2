-- The witness is unique, and what the rules spell out for each kind.
use Rattle.std.proofs.Common.{◌≡◌, ℕ, ◌<◌, ◌≤◌, Bool, true, false, List, [], ◌∷◌, length, take, drop, set, is_some, Some, None, Decides, Option, sym, refl, ◌∙◌, subst, inl, inr, ⊎_elim, arith}
use Rattle.std.proofs.lemmas.Bool.{cases_lt, false≢true}
use Rattle.relation.specs.Algebra.{Rel}
use Rattle.relation.specs.Reading.{LowestLoop as LoopFound, LowestPair as PairFound}
use Rattle.cycles.specs.Cycles.{NotAfter, Witness as CycleWitness}
use Rattle.cycles.proofs.Reading.{both_ways, stepwise}
use Rattle.model.specs.declared.axiom_kind.AxiomKind.TheVariants.{Acyclic, Irreflexive, Empty}
use Rattle.violation.specs.Violations.{Loop, Related, Breaks, Witness, Shown, Unique, LowestLoop, LowestPair, SpelledOut}

pub unique : Unique
unique k R v w p q =
    let a = p.shortest w q.violation in
    let b = q.shortest v p.violation in
    both_ways v w (p.first w q.violation (omega arith)) (q.first v p.violation (omega arith))

-- ---- cycles

to_cycle : (R : Rel) (ws : List ℕ) → Witness Acyclic R ws → CycleWitness R ws
to_cycle R ws p =
    record {
      shortest = record { cycle = p.violation; least = p.shortest };
      first = λ vs s. let a = p.shortest vs s.cycle in let b = s.least ws p.violation in p.first vs s.cycle (omega arith);
    }

of_cycle : (R : Rel) (ws : List ℕ) → CycleWitness R ws → Witness Acyclic R ws
of_cycle R ws p =
    record {
      violation = p.shortest.cycle;
      shortest = p.shortest.least;
      first = λ vs c e. p.first vs (record { cycle = c; least = λ us u. let a = p.shortest.least us u in omega arith });
    }

-- ---- loops

no_lower : (R : Rel) (a c : ℕ) → ((ws : List ℕ) → Loop R ws → length ws ≡ 1 → NotAfter (a ∷ []) ws) → c < a → (t : Bool) → R c c ≡ t → t ≡ false
no_lower R a c f l false e = refl
no_lower R a c f l true e = ⊎_elim (λ (h : a < c). absurd (omega arith)) (λ h. absurd (omega (arith, h.0))) (f (c ∷ []) e refl)

to_loop : (R : Rel) (ws : List ℕ) → Witness Irreflexive R ws → LowestLoop R ws
to_loop R [] p = p.violation
to_loop R (a ∷ []) p = (p.violation, λ c l. no_lower R a c p.first l (R c c) refl)
to_loop R (a ∷ (b ∷ vs)) p = p.violation

first_loop : (R : Rel) (a : ℕ) → ((c : ℕ) → c < a → R c c ≡ false) → (vs : List ℕ) → Loop R vs → (1 ≤ length vs) × NotAfter (a ∷ []) vs
first_loop R a f [] v = absurd v
first_loop R a f (c ∷ []) v =
    (omega arith, ⊎_elim (λ (h : c < a). absurd (false≢true (sym (f c h) ∙ v))) (λ (h : a ≤ c). ⊎_elim (λ (k : a < c). inl k) (λ (k : c ≤ a). inr (omega arith, tt)) (cases_lt a c)) (cases_lt c a))
first_loop R a f (c ∷ (d ∷ vs)) v = absurd v

of_loop : (R : Rel) (ws : List ℕ) → LowestLoop R ws → Witness Irreflexive R ws
of_loop R [] p = absurd p
of_loop R (a ∷ []) p =
    record { violation = p.0; shortest = λ vs v. (first_loop R a p.1 vs v).0; first = λ vs v e. (first_loop R a p.1 vs v).1 }
of_loop R (a ∷ (b ∷ vs)) p = absurd p

-- ---- pairs

no_first : (R : Rel) (a b c d : ℕ) → ((ws : List ℕ) → Related R ws → length ws ≡ 2 → NotAfter (a ∷ (b ∷ [])) ws) → c < a → (t : Bool) → R c d ≡ t → t ≡ false
no_first R a b c d f l false e = refl
no_first R a b c d f l true e = ⊎_elim (λ (h : a < c). absurd (omega arith)) (λ h. absurd (omega (arith, h.0))) (f (c ∷ (d ∷ [])) e refl)

no_second : (R : Rel) (a b d : ℕ) → ((ws : List ℕ) → Related R ws → length ws ≡ 2 → NotAfter (a ∷ (b ∷ [])) ws) → d < b → (t : Bool) → R a d ≡ t → t ≡ false
no_second R a b d f l false e = refl
no_second R a b d f l true e =
    ⊎_elim (λ (h : a < a). absurd (omega arith))
    (λ h. ⊎_elim (λ (k : b < d). absurd (omega arith)) (λ k. absurd (omega (arith, k.0))) h.1) (f (a ∷ (d ∷ [])) e refl)

to_pair : (R : Rel) (ws : List ℕ) → Witness Empty R ws → LowestPair R ws
to_pair R [] p = p.violation
to_pair R (a ∷ []) p = p.violation
to_pair R (a ∷ (b ∷ [])) p =
    (p.violation, λ c d l. no_first R a b c d p.first l (R c d) refl, λ d l. no_second R a b d p.first l (R a d) refl)
to_pair R (a ∷ (b ∷ (c ∷ vs))) p = p.violation

first_pair : (R : Rel) (a b : ℕ) → ((c d : ℕ) → c < a → R c d ≡ false) → ((d : ℕ) → d < b → R a d ≡ false) → (vs : List ℕ) → Related R vs
    → (2 ≤ length vs) × NotAfter (a ∷ (b ∷ [])) vs
first_pair R a b f g [] v = absurd v
first_pair R a b f g (c ∷ []) v = absurd v
first_pair R a b f g (c ∷ (d ∷ [])) v = (
  omega arith,
  ⊎_elim (λ (h : c < a). absurd (false≢true (sym (f c d h) ∙ v)))
      (λ (h : a ≤ c). ⊎_elim (λ (k : a < c). inl k)
      (λ (k : c ≤ a).
      let e : a ≡ c = omega arith in
      inr (
        e,
        ⊎_elim (λ (i : d < b). absurd (false≢true (sym (g d i) ∙ subst (λ (n : ℕ). R n d ≡ true) (sym e) v)))
            (λ (i : b ≤ d). ⊎_elim (λ (j : b < d). inl j) (λ (j : d ≤ b). inr (omega arith, tt)) (cases_lt b d)) (cases_lt d b),
      ))
      (cases_lt a c)) (cases_lt c a),
)
first_pair R a b f g (c ∷ (d ∷ (x ∷ vs))) v = absurd v

of_pair : (R : Rel) (ws : List ℕ) → LowestPair R ws → Witness Empty R ws
of_pair R [] p = absurd p
of_pair R (a ∷ []) p = absurd p
of_pair R (a ∷ (b ∷ [])) p =
    record {
      violation = p.0;
      shortest = λ vs v. (first_pair R a b p.1 p.2 vs v).0;
      first = λ vs v e. (first_pair R a b p.1 p.2 vs v).1;
    }
of_pair R (a ∷ (b ∷ (c ∷ vs))) p = absurd p

pub spelled_out : SpelledOut
spelled_out Acyclic R ws = (λ p. (stepwise R ws).0 (to_cycle R ws p), λ t. of_cycle R ws ((stepwise R ws).1 t))
spelled_out Irreflexive R ws = (to_loop R ws, of_loop R ws)
spelled_out Empty R ws = (to_pair R ws, of_pair R ws)

-- ---- what the relation's own search finds

pub loop_decides : (R : Rel) (o : Option ℕ) → LoopFound R o → Decides (is_some o) (Breaks Irreflexive R)
loop_decides R (Some i) h = (λ e. (i ∷ [], h.0), λ b. refl)
loop_decides R None h = (λ e. absurd (false≢true e), λ b. absurd (no b.0 b.1))
  where
    no : (ws : List ℕ) → Loop R ws → ⊥
    no [] v = v
    no (a ∷ []) v = false≢true (sym (h a) ∙ v)
    no (a ∷ (b ∷ vs)) v = v

pub pair_decides : (R : Rel) (o : Option (ℕ × ℕ)) → PairFound R o → Decides (is_some o) (Breaks Empty R)
pair_decides R (Some p) h = (λ e. (p.0 ∷ (p.1 ∷ []), h.0), λ b. refl)
pair_decides R None h = (λ e. absurd (false≢true e), λ b. absurd (no b.0 b.1))
  where
    no : (ws : List ℕ) → Related R ws → ⊥
    no [] v = v
    no (a ∷ []) v = v
    no (a ∷ (b ∷ [])) v = false≢true (sym (h a b) ∙ v)
    no (a ∷ (b ∷ (c ∷ vs))) v = v

-- ---- one and two bytes written

take_one : (m : List ℕ) (a : ℕ) → 0 < length m → (take 1 (set m 0 a) ≡ a ∷ []) × (drop 1 (set m 0 a) ≡ drop 1 m)
take_one [] a h = absurd (omega arith)
take_one (x ∷ m) a h = (refl, refl)

take_two : (m : List ℕ) (a b : ℕ) → 1 < length m → (take 2 (set (set m 0 a) 1 b) ≡ a ∷ (b ∷ [])) × (drop 2 (set (set m 0 a) 1 b) ≡ drop 2 m)
take_two [] a b h = absurd (omega arith)
take_two (x ∷ []) a b h = absurd (omega arith)
take_two (x ∷ (y ∷ m)) a b h = (refl, refl)

pub loop_shown : (R : Rel) (m : List ℕ) (a : ℕ) → 0 < length m → LoopFound R (Some a) → Shown Irreflexive R m (set m 0 a) 1
loop_shown R m a l h =
    let t = take_one m a l in
    record { few = omega arith; witness = subst (Witness Irreflexive R) (sym t.0) (of_loop R (a ∷ []) h); rest = t.1 }

pub pair_shown : (R : Rel) (m : List ℕ) (a b : ℕ) → 1 < length m → PairFound R (Some (a, b)) → Shown Empty R m (set (set m 0 a) 1 b) 2
pair_shown R m a b l h =
    let t = take_two m a b l in
    record { few = omega arith; witness = subst (Witness Empty R) (sym t.0) (of_pair R (a ∷ (b ∷ [])) h); rest = t.1 }
