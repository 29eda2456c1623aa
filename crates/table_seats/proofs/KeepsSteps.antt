-- The first seat, and each step of an actor, keep the rule of the table.
use Rattle.std.proofs.Common.{◌≡◌, ℕ, ◌<◌, ◌≢◌, Bool, true, false, List, [], ◌∷◌, ◌++◌, length, get_or, set, sym, refl, ap, ◌∙◌, ⊎_elim, subst, arith}
use Rattle.std.proofs.Common.{Some, length-set, if◌then◌else◌}
use mathlib.Core.Option.{some, some-injective}
use mathlib.Core.Logic.{dite}
use native.Mathlib.Decide.{ℕ_discrete}
use lib.ListN.{get_elem?}
use Rattle.atomic_table.specs.Table.{State, Me, keeps, Allows}
use Rattle.atomic_table.proofs.Lists.{at_set, set_here, set_else, at_map}
use Rattle.mmu_core.specs.machine.Machine.{Core, World, Step, Leads, May, effect, run, Legal}
use Rattle.table_seats.specs.Rule.{View, Holds, Reached, at_past, stepped, world, step_of, first_view, Kept, moved, Acted}
use Rattle.table_seats.proofs.Runs.{run-snoc, legal-snoc, effect-is, may_of, leads_of, reached-words}
use Rattle.table_seats.proofs.HandLists.{at_below, at_one, put_held, all_held, map-some}

module _ {H K : Type 0} (C : Core H K) where
  abbrev V : Type 0
  V = View H K

  module _ (start : World H) (words : List ℕ) (views : List V) (r : Kept C start words views) (id : ℕ) (v : V) (at : get_elem? views id ≡ some v)
      (live : v.live ≡ true)
      (a : ℕ) (h : H) (has : Holds v.held a h) (k : K) (may : C.Enabled h k) (inside : C.word k < length start.words) where
    abbrev n : ℕ
    n = get_or words (C.word k) 0

    abbrev m : ℕ
    m = C.answer k n

    abbrev words' : List ℕ
    words' = set words (C.word k) (C.after k n)

    abbrev hands' : List H
    hands' = set r.hands a (C.next h k m)

    abbrev v' : V
    v' = moved C a h k m v

    abbrev there : get_elem? r.hands a ≡ some h
    there = r.owns id v a h at has

    abbrev mayed : May C (world words r.hands) (step_of a k)
    mayed = may_of C (world words r.hands) a h k there may (let e = reached-words C r.reached in omega (arith, e, inside))

    -- no other view is alone
    lone : (i : ℕ) (w : V) → get_elem? views i ≡ some w → w.alone ≡ true → i ≡ id
    lone i w e al = let one = (r.alone i w e al).2 in let p = at_below views i w e in let q = at_below views id v at in omega (arith, one, p, q)

    step_reached : (b : Bool) → v.alone ≡ b → Reached C start (if b then v.past ++ step_of a k ∷ [] else v.past) (world words' hands')
    step_reached true e =
        let t = r.alone id v at e in let p = (r.keeps id v at live).0 in
        let m : May C (run C start v.past) (step_of a k) = subst (λ (w : World H). May C w (step_of a k)) (t.0 ∙ ap (run C start) (sym p)) mayed in
        let legal : Legal C start (v.past ++ step_of a k ∷ []) = legal-snoc C start v.past (step_of a k) (subst (Legal C start) (sym p) t.1) m in
        let is : run C start (v.past ++ step_of a k ∷ []) ≡ world words' hands' =
        run-snoc C start v.past (step_of a k) ∙ (ap (λ (w : World H). effect C w (step_of a k)) (ap (run C start) p ∙ sym t.0)
        ∙ effect-is C words r.hands a h k there) in
        subst (Reached C start (v.past ++ step_of a k ∷ [])) is (at_past legal)
    step_reached false e =
        let p = (r.keeps id v at live).0 in
        subst (Reached C start v.past) (effect-is C words r.hands a h k there)
        (stepped (step_of a k) (subst (λ (ss : List (Step K)). Reached C start ss (world words r.hands)) (sym p) r.reached) mayed)

    step_alone : (b : Bool) → v.alone ≡ b → b ≡ true
        → (world words' hands' ≡ run C start (if b then v.past ++ step_of a k ∷ [] else v.past)) × Legal C start
        (if b then v.past ++ step_of a k ∷ [] else v.past)
    step_alone true e _ =
        let t = r.alone id v at e in let p = (r.keeps id v at live).0 in
        let m : May C (run C start v.past) (step_of a k) = subst (λ (w : World H). May C w (step_of a k)) (t.0 ∙ ap (run C start) (sym p)) mayed in (
          sym (run-snoc C start v.past (step_of a k) ∙ (ap (λ (w : World H). effect C w (step_of a k)) (ap (run C start) p ∙ sym t.0)
              ∙ effect-is C words r.hands a h k there)),
          legal-snoc C start v.past (step_of a k) (subst (Legal C start) (sym p) t.1) m,
        )
    step_alone false e f = cc

    others : (b : Bool) → v.alone ≡ b → (i : ℕ) → i ≢ id → (w : V) → get_elem? views i ≡ some w → r.past ≡ (if b then v.past ++ step_of a k ∷ [] else v.past)
    others true e i ne w f = let one = (r.alone id v at e).2 in let p = at_below views i w f in let q = at_below views id v at in absurd (ne (omega arith))
    others false e i ne w f = sym (r.keeps id v at live).0

    -- who holds a hand after the step held one before
    held_before : (i : ℕ) (w : V) (b : ℕ) (g : H) → get_elem? (set views id v') i ≡ some w → Holds w.held b g
        → (w₀ : V) × (g₀ : H) × (get_elem? views i ≡ some w₀) × Holds w₀.held b g₀
    held_before i w b g e hold = ⊎_elim
        (λ t. let hold' : Holds v'.held b g = subst (λ (x : V). Holds x.held b g) (sym t.1) hold in
        let at' : get_elem? views i ≡ some v = ap (get_elem? views) t.0 ∙ at in
        ⊎_elim (λ s. (v, h, at', subst (λ (c : ℕ). Holds v.held c h) (sym s.0) has)) (λ s. (v, g, at', s.1)) (put_held v.held a b (C.next h k m) g hold'))
        (λ t. (w, g, t.1, hold)) (at_set views id i v' w e)

    step_owns : (i : ℕ) (w : V) (b : ℕ) (g : H) → get_elem? (set views id v') i ≡ some w → Holds w.held b g → get_elem? hands' b ≡ some g
    step_owns i w b g e hold = ⊎_elim
        (λ t. let hold' : Holds v'.held b g = subst (λ (x : V). Holds x.held b g) (sym t.1) hold in
        ⊎_elim (λ s. ap (get_elem? hands') s.0 ∙ (set_here r.hands a (C.next h k m) (at_below r.hands a h there) ∙ ap some s.1))
        (λ s. set_else r.hands a b (C.next h k m) s.0 ∙ r.owns id v b g at s.1) (put_held v.held a b (C.next h k m) g hold'))
        (λ t. let ne : b ≢ a = λ q. t.0 (r.once i id w v a g h t.1 at (subst (λ (c : ℕ). Holds w.held c g) q hold) has) in
        set_else r.hands a b (C.next h k m) ne ∙ r.owns i w b g t.1 hold)
        (at_set views id i v' w e)

    step_somewhere : (b : ℕ) (g : H) → get_elem? hands' b ≡ some g → (i : ℕ) × (w : V) × (get_elem? (set views id v') i ≡ some w) × Holds w.held b g
    step_somewhere b g e =
        let here : get_elem? (set views id v') id ≡ some v' = set_here views id v' (at_below views id v at) in
        ⊎_elim
        (λ t. (
          id,
          v',
          here,
          ap (get_elem? v'.held) t.0 ∙ (set_here v.held a (Some (C.next h k m)) (at_below v.held a (Some h) has)
              ∙ ap (λ (x : H). some (Some x)) t.1),
        ))
        (λ t. let s = r.somewhere b g t.1 in dite (ℕ_discrete s.0 id)
        (λ same. let is : s.1 ≡ v = some-injective s.1 v (sym s.2 ∙ (ap (get_elem? views) same ∙ at)) in
        (id, v', here, set_else v.held a b (Some (C.next h k m)) t.0 ∙ subst (λ (x : V). Holds x.held b g) is s.3))
        (λ ne. (s.0, s.1, set_else views id s.0 v' ne ∙ s.2, s.3)))
        (at_set r.hands a b (C.next h k m) g e)

    pub step_keeps : Kept C start words' (set views id v')
    step_keeps = record {
      past = v'.past;
      hands = hands';
      reached = step_reached v.alone refl;
      alone = λ i w e al. ⊎_elim
          (λ t. let al' : v.alone ≡ true = ap (λ (x : V). x.alone) t.1
          ∙ al in let s = step_alone v.alone refl al' in (s.0, s.1, length-set views id v' ∙ (r.alone id v at al').2))
          (λ t. absurd (t.0 (lone i w t.1 al))) (at_set views id i v' w e);
      keeps = λ i w e l. ⊎_elim
          (λ t. let s = r.keeps id v at live in (
            ap (λ (x : V). x.past) (sym t.1),
            ap (λ (x : V). x.start) (sym t.1)
                ∙ s.1,
            ap (λ (x : V). length x.held) (sym t.1) ∙ (length-set v.held a _ ∙ s.2),
          ))
          (λ t. let s = r.keeps i w t.1 l in (s.0 ∙ others v.alone refl i t.0 w t.1, s.1, s.2)) (at_set views id i v' w e);
      owns = step_owns;
      once = λ i j x y b f g e e' p q. let s = held_before i x b f e p in let t = held_before j y b g e' q in r.once i j s.0 t.0 b s.1 t.1 s.2 t.2 s.3 t.3;
      somewhere = step_somewhere;
    }

  module _ (start : World H) (slots id : ℕ) (me : Me (Unit {0}) V) (live : me.0.live ≡ true) (a : ℕ) (h : H) (has : Holds me.0.held a h) (k : K)
      (may : C.Enabled h k) (inside : C.word k < length start.words) where
    abbrev v : V
    v = me.0

    -- Each call of the table whose word goes from n to `after k n`, and that answers `answer k n`, may be made
    pub steps : (f t : ℕ → ℕ) → ((n : ℕ) → f n ≡ C.after k n) → ((n : ℕ) → t n ≡ C.answer k n)
        → Allows (λ (s : State (Unit {0}) V). Kept C start s.words s.views) slots id me (C.word k) f (λ n m. Acted C a h k me.0 (t n) m.0 × (m.1 ≡ me.1))
    steps f t is says s r homes at fits =
        let n : ℕ = get_or s.words (C.word k) 0 in
        let p = r.keeps id v at live in (
          moved C a h k (C.answer k n) v,
          keeps,
          tt,
          subst (λ (z : ℕ). Kept C start (set s.words (C.word k) z) (set s.views id (moved C a h k (C.answer k n) v))) (sym (is n))
              (step_keeps start s.words s.views r id v at live a h has k may inside),
          (
            record {
              view = ap (λ (z : ℕ). moved C a h k z v) (sym (says n));
              at = world s.words r.hands;
              leads = subst (λ (z : World H). Leads C z (world s.words r.hands)) (sym p.1) (leads_of C r.reached);
              has = r.owns id v a h at has;
              may = may_of C (world s.words r.hands) a h k (r.owns id v a h at has) may (let w = reached-words C r.reached in omega (arith, w, inside));
              answers = sym (says n);
              told = λ al. let u = r.alone id v at al in u.0 ∙ (λ i. run C (sym p.1 i) (sym p.0 i));
            },
            refl,
          ),
        )

  pub opens : (start : World H) → Kept C start start.words (first_view start ∷ [])
  opens start = record {
    past = [];
    hands = start.hands;
    reached = at_past tt;
    alone = λ i w e al. (refl, tt, refl);
    keeps = λ i w e l. let is = at_one (first_view start) i w e in
        (ap (λ (x : V). x.past) (sym is), ap (λ (x : V). x.start) (sym is), ap (λ (x : V). length x.held) (sym is) ∙ map-some start.hands);
    owns = λ i w a h e hold. all_held start.hands a h (subst (λ (x : V). Holds x.held a h) (sym (at_one (first_view start) i w e)) hold);
    once = λ i j v w a g h e e' _ _. let p = at_below (first_view start ∷ []) i v e in let q = at_below (first_view start ∷ []) j w e' in omega arith;
    somewhere = λ a h e. (0, first_view start, refl, at_map Some start.hands a h e);
  }
