-- The walk by the rule, from a table of counts. Assumes nothing.
use Rattle.std.proofs.Common.{◌≡◌, ℕ, zero, suc, ◌+◌, ◌-◌, ◌<◌, ◌≤◌, true, ◌≢◌, List, [], ◌∷◌, length, get_or, take, drop, set, sym, refl, ap, ◌∙◌, subst, ap₂, inl, inr, ⊎_elim, Some, None, Option, IsSome, arith, length-set, get_or-set_other, get_or-set_same}
use Rattle.std.proofs.lemmas.List.{length-take-le}
use Rattle.std.proofs.lemmas.Bool.{cases_eq}
use Rattle.relation.specs.Algebra.{Rel}
use Rattle.cycles.specs.Cycles.{Inside, Path, Cycle, Shortest, NotAfter, Witness, Greedy}
use Rattle.cycles.specs.Counts.{Counted, Shorter, Found, Walked}
use Rattle.cycles.proofs.Reading.{split, greedy_first, greedy_path}
use Rattle.cycles.proofs.Tables.{path_inside}

pub same_behind : (l : ℕ) (a b : List ℕ) → length a ≡ length b → ((k : ℕ) → l ≤ k → get_or a k 0 ≡ get_or b k 0) → drop l a ≡ drop l b
same_behind zero [] [] e f = refl
same_behind zero [] (y ∷ b) e f = absurd (omega arith)
same_behind zero (x ∷ a) [] e f = absurd (omega arith)
same_behind zero (x ∷ a) (y ∷ b) e f = ap₂ ◌∷◌ (f 0 (omega arith)) (same_behind zero a b (omega arith) (λ k l. f (suc k) (omega arith)))
same_behind (suc l) [] [] e f = refl
same_behind (suc l) [] (y ∷ b) e f = absurd (omega arith)
same_behind (suc l) (x ∷ a) [] e f = absurd (omega arith)
same_behind (suc l) (x ∷ a) (y ∷ b) e f = same_behind l a b (omega arith) (λ k m. f (suc k) (omega arith))

module _ (R : Rel) (n : Inside R) (D : ℕ → ℕ → Option ℕ) (counts : Counted R D) where
  -- a path is at least one step
  pub positive : (i j d : ℕ) → i < 64 → j < 64 → D i j ≡ Some d → 0 < d
  positive i j d k l e = let t = counts.path i j d k l e in omega (arith, t.2)

  -- the first step of a shortest path leads one step nearer
  back : (c h t : ℕ) (vs : List ℕ) → R c t ≡ true → Path R t vs h → D c h ≡ Some (suc (suc (length vs))) → D t h ≡ Some (suc (length vs))
  back c h t vs r p e =
      let i = path_inside R n t h vs p in
      let a = counts.least t h vs p in
      let q = counts.path t h a.0 i.0 i.1 a.1 in
      let b = counts.least c h (t ∷ q.0) (r, q.1) in
      let same : b.0 ≡ suc (suc (length vs)) = cc (b.1, e) in
      let nearer : a.0 ≡ suc (length vs) = omega (arith, a.2, q.2, b.2) in
      a.1 ∙ ap Some nearer

  onward : (c h m : ℕ) → c < 64 → h < 64 → D c h ≡ Some (suc (suc m)) → (t : ℕ) × (R c t ≡ true) × (D t h ≡ Some (suc m))
  onward c h m k l e = let t = counts.path c h (suc (suc m)) k l e in go t.0 t.1 t.2
    where
      go : (vs : List ℕ) → Path R c vs h → suc (length vs) ≡ suc (suc m) → (t : ℕ) × (R c t ≡ true) × (D t h ≡ Some (suc m))
      go [] p q = absurd (omega arith)
      go (v ∷ vs) p q =
          let z : suc (suc m) ≡ suc (suc (length vs)) = omega arith in
          (v, p.0, back c h v vs p.0 p.1 (e ∙ ap Some z) ∙ ap Some (omega arith))

  closes : (c h : ℕ) → c < 64 → h < 64 → D c h ≡ Some 1 → R c h ≡ true
  closes c h k l e = let t = counts.path c h 1 k l e in go t.0 t.1 t.2
    where
      go : (vs : List ℕ) → Path R c vs h → suc (length vs) ≡ 1 → R c h ≡ true
      go [] p q = p
      go (v ∷ vs) p q = absurd (omega arith)

  -- a list whose every place is one step nearer, by the lowest such event, goes by the rule
  greedy_by : (h : ℕ) → h < 64 → (m : ℕ) → (c : ℕ) (ws : List ℕ) → m ≤ length ws
      → ((k : ℕ) → k ≤ m → (get_or (c ∷ ws) k 0 < 64) × (D (get_or (c ∷ ws) k 0) h ≡ Some (suc m - k)))
      → ((k : ℕ) → k < m → R (get_or (c ∷ ws) k 0) (get_or ws k 0) ≡ true)
      → ((k t : ℕ) → k < m → R (get_or (c ∷ ws) k 0) t ≡ true → D t h ≡ Some (suc m - suc k) → get_or ws k 0 ≤ t)
      → Greedy R h c (take m ws)
  greedy_by h b zero c ws l at steps low = let a = at 0 (omega arith) in closes c h a.0 b (a.1 ∙ ap Some (omega arith))
  greedy_by h b (suc m) c [] l at steps low = absurd (omega arith)
  greedy_by h b (suc m) c (w ∷ ws) l at steps low =
      let len : length (take m ws) ≡ m = length-take-le m ws (omega arith) in
      let a = at 0 (omega arith) in
      let a1 = at 1 (omega arith) in (
        record {
          step = steps 0 (omega arith);
          closes = let t = counts.path w h _ a1.0 b a1.1 in (t.0, t.1, omega (arith, t.2));
          lowest = λ t vs r p e.
              let here : suc (suc m) - 0 ≡ suc (suc (length vs)) = omega arith in
              let there : suc (length vs) ≡ suc (suc m) - 1 = omega arith in
              low 0 t (omega arith) r (back c h t vs r p (a.1 ∙ ap Some here) ∙ ap Some there);
        },
        greedy_by h b m w ws (omega arith)
            (λ k q. let z = at (suc k) (omega arith) in (z.0, z.1 ∙ ap Some (omega arith)))
            (λ k q. steps (suc k) (omega arith))
            (λ k t q r e. low (suc k) t (omega arith) r (e ∙ ap Some (omega arith))),
      )

  -- such a list from the lowest start is the witness
  module _ (h m : ℕ) (ws : List ℕ) (len : length ws ≡ m)
      (shorter : Shorter D (Some (suc m))) (found : (t : ℕ) → t < 64 → D t t ≡ Some (suc m) → h ≤ t) (greedy : Greedy R h h ws) where
    -- a cycle through v has a count there, which is not below the least
    at_cycle : (v : ℕ) (vs : List ℕ) → Path R v vs v → (d : ℕ) × (D v v ≡ Some d) × (suc m ≤ d) × (d ≤ suc (length vs))
    at_cycle v vs c =
        let i = path_inside R n v v vs c in
        let d = counts.least v v vs c in
        let b = shorter.under v d.0 i.0 d.1 in
        let same : suc m ≡ b.0 = cc b.1 in
        (d.0, d.1, omega (arith, b.2), d.2)

    least : (vs : List ℕ) → Cycle R vs → suc (length ws) ≤ length vs
    least [] c = absurd c
    least (v ∷ vs) c = let d = at_cycle v vs c in omega (arith, d.2, d.3)

    shortest : Shortest R (h ∷ ws)
    shortest = record { cycle = greedy_path R h h ws greedy; least = least }

    first : (vs : List ℕ) → Shortest R vs → NotAfter (h ∷ ws) vs
    first [] s = absurd s.cycle
    first (v ∷ vs) s =
        let i = path_inside R n v v vs s.cycle in
        let a : suc (length vs) ≤ suc (length ws) = s.least (h ∷ ws) shortest.cycle in
        let d = at_cycle v vs s.cycle in
        let e : d.0 ≡ suc m = omega (arith, d.2, d.3) in
        ⊎_elim inl (λ (q : h ≡ v). inr (q, greedy_first R h h ws vs greedy (subst (λ x. Path R x vs x) (sym q) s.cycle) (omega (arith, d.2, d.3))))
        (split h v (found v i.0 (d.1 ∙ ap Some e)))

    best : Witness R (h ∷ ws)
    best = record { shortest = shortest; first = first }

  pub witnessed : (l : ℕ) (before m : List ℕ) (h : ℕ) → h < 64 → D h h ≡ Some l → l ≤ length m → Shorter D (Some l)
      → ((t : ℕ) → t < 64 → D t t ≡ Some l → h ≤ t) → Walked R D h l before m l → Witness R (take l m)
  witnessed zero before m h hb e mb s f w = absurd (omega (arith, positive h h 0 hb hb e))
  witnessed (suc l) before [] h hb e mb s f w = absurd (omega arith)
  witnessed (suc l) before (c ∷ m) h hb e mb s f w =
      let z : h ≡ c = sym w.start in
      let v : Walked R D c (suc l) before (c ∷ m) (suc l) = subst (λ x. Walked R D x (suc l) before (c ∷ m) (suc l)) z w in
      best c l (take l m) (length-take-le l m (omega arith)) s (λ t p q. subst (λ x. x ≤ t) z (f t p q))
      (greedy_by c (subst (λ x. x < 64) z hb) l c m (omega arith)
      (λ k q. v.at k (omega arith)) (λ k q. v.steps k (omega arith)) (λ k t q r z. v.lowest k t (omega arith) r z))

  -- no cycle where no event is any number of steps from itself
  pub no_cycle : Shorter D None → (ws : List ℕ) → Cycle R ws → ⊥
  no_cycle s [] c = c
  no_cycle s (w ∷ ws) c =
      let i = path_inside R n w w ws c in
      let d = counts.least w w ws c in
      let b = s.under w d.0 i.0 d.1 in cc b.1

  -- there is a start
  pub start_found : (l : ℕ) (r : Option ℕ) → Shorter D (Some l) → Found (λ i. D i i ≡ Some l) r → IsSome r
  start_found l None s f = let t = s.some l refl in absurd (f t.0 t.1 t.2)
  start_found l (Some h) s f = refl

  -- a shortest cycle has few events
  pub few : (l : ℕ) → Shorter D (Some l) → l ≤ 64
  few l s = let t = s.some l refl in counts.small t.0 t.0 l t.1 t.1 t.2

  -- ---- the loop

  -- the loop starts when the first event stands
  pub walked_one : (h l : ℕ) (before : List ℕ) → h < 64 → 0 < length before → D h h ≡ Some l → Walked R D h l (set before 0 h) (set before 0 h) 1
  walked_one h l before b z e =
      let s : get_or (set before 0 h) 0 0 ≡ h = get_or-set_same before 0 h 0 z in
      record {
        start = s;
        at = λ k q. let k0 : 0 ≡ k = omega arith in
            subst (λ k. (get_or (set before 0 h) k 0 < 64) × (D (get_or (set before 0 h) k 0) h ≡ Some (l - k))) k0
            (subst (λ x. (x < 64) × (D x h ≡ Some (l - 0))) (sym s) (b, e ∙ ap Some (omega arith)));
        steps = λ k q. absurd (omega arith);
        lowest = λ k t q. absurd (omega arith);
        rest = λ k q. refl;
        long = refl;
      }

  -- the same since before the first event stood
  pub walked_since : (h l : ℕ) (before m : List ℕ) (i : ℕ) → 0 < i → Walked R D h l (set before 0 h) m i → Walked R D h l before m i
  walked_since h l before m i z w =
      record {
        start = w.start;
        at = w.at;
        steps = w.steps;
        lowest = w.lowest;
        rest = λ k q. let ne : k ≢ 0 = omega arith in w.rest k q ∙ get_or-set_other before 0 k h 0 ne;
        long = w.long ∙ length-set before 0 h;
      }

  module _ (h l : ℕ) (before m : List ℕ) (i : ℕ) (hb : h < 64) (i1 : 0 < i) (il : i < l) (im : i < length m)
      (w : Walked R D h l before m i) where
    -- there is a next event
    pub next_found : (r : Option ℕ) → Found (λ t. (R (get_or m (i - 1) 0) t ≡ true) × (D t h ≡ Some (l - i))) r → IsSome r
    next_found None f =
        let a = w.at (i - 1) (omega arith) in
        let steps : l - (i - 1) ≡ suc (suc (l - i - 1)) = omega arith in
        let t = onward (get_or m (i - 1) 0) h (l - i - 1) a.0 hb (a.1 ∙ ap Some steps) in
        absurd (f t.0 (n (get_or m (i - 1) 0) t.0 t.1).1 (t.1, t.2 ∙ ap Some (omega arith)))
    next_found (Some s) f = refl

    module _ (s : ℕ) (f : Found (λ t. (R (get_or m (i - 1) 0) t ≡ true) × (D t h ≡ Some (l - i))) (Some s)) where
      old : (k : ℕ) → k ≢ i → get_or (set m i s) k 0 ≡ get_or m k 0
      old k ne = rw get_or-set_other

      new : get_or (set m i s) i 0 ≡ s
      new = get_or-set_same m i s 0 im

      before_i : (k : ℕ) → suc k ≡ i → get_or m (i - 1) 0 ≡ get_or m k 0
      before_i k e = ap (λ x. get_or m x 0) (omega arith)

      pub walked_more : Walked R D h l before (set m i s) (i + 1)
      walked_more =
          record {
            start = old 0 (omega arith) ∙ w.start;
            at = λ k q. ⊎_elim
                (λ (e : k ≡ i). subst (λ x. (get_or (set m i s) x 0 < 64) × (D (get_or (set m i s) x 0) h ≡ Some (l - x))) (sym e)
                (subst (λ x. (x < 64) × (D x h ≡ Some (l - i))) (sym new) (f.0, f.1.1)))
                (λ (ne : k ≢ i). subst (λ x. (x < 64) × (D x h ≡ Some (l - k))) (sym (old k ne)) (w.at k (omega arith)))
                (cases_eq k i);
            steps = λ k q. ⊎_elim
                (λ (e : suc k ≡ i). ap₂ R (old k (omega arith) ∙ sym (before_i k e)) (ap (λ x. get_or (set m i s) x 0) e ∙ new) ∙ f.1.0)
                (λ (ne : suc k ≢ i). ap₂ R (old k (omega arith)) (old (suc k) ne) ∙ w.steps k (omega arith))
                (cases_eq (suc k) i);
            lowest = λ k t q r d. ⊎_elim
                (λ (e : suc k ≡ i).
                let r2 : R (get_or m (i - 1) 0) t ≡ true = ap (λ x. R x t) (before_i k e ∙ sym (old k (omega arith))) ∙ r in
                let u : s ≤ t = f.2 t (n (get_or m (i - 1) 0) t r2).1 (r2, d ∙ ap Some (omega arith)) in
                subst (λ x. x ≤ t) (sym (ap (λ x. get_or (set m i s) x 0) e ∙ new)) u)
                (λ (ne : suc k ≢ i).
                subst (λ x. x ≤ t) (sym (old (suc k) ne))
                (w.lowest k t (omega arith) (ap (λ x. R x t) (sym (old k (omega arith))) ∙ r) d))
                (cases_eq (suc k) i);
            rest = λ k q. old k (omega arith) ∙ w.rest k (omega arith);
            long = length-set m i s ∙ w.long;
          }
