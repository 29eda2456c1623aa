-- A split keeps the rule of the table.
use Rattle.std.proofs.Common.{◌≡◌, ℕ, ◌≢◌, ◌⊎◌, true, false, List, [], ◌∷◌, ◌++◌, length, set, sym, refl, ap, ◌∙◌, inl, inr, ⊎_elim, subst, arith}
use Rattle.std.proofs.Common.{None, length-set}
use mathlib.Core.Option.{some, some-injective}
use mathlib.Core.Logic.{dite}
use native.Mathlib.Decide.{ℕ_discrete}
use lib.ListN.{get_elem?}
use Rattle.atomic_table.specs.Table.{State, Splits}
use Rattle.atomic_table.proofs.Lists.{at_set, set_here, set_else, at_longer, at_last}
use Rattle.mmu_core.specs.machine.Machine.{Core, World}
use Rattle.table_seats.specs.Rule.{View, Holds, only, without, with_only, Kept}
use Rattle.table_seats.proofs.HandLists.{at_below, at_end, cut_held, only_held, only_here, only-length}

module _ {H K : Type 0} (C : Core H K) where
  abbrev V : Type 0
  V = View H K

  module _ (start : World H) (words : List ℕ) (views : List V) (r : Kept C start words views) (id : ℕ) (v : V) (at : get_elem? views id ≡ some v)
      (live : v.live ≡ true) (a : ℕ) where
    abbrev left : V
    left = without a v

    abbrev right : V
    right = with_only a v

    abbrev cut : List V
    cut = set views id left ++ right ∷ []

    -- a view after the split: the left one, another one, or the right one
    data Cut (i : ℕ) (w : V) : Type 0 where
      is_left : i ≡ id → left ≡ w → Cut i w
      is_other : i ≢ id → get_elem? views i ≡ some w → Cut i w
      is_right : i ≡ length views → right ≡ w → Cut i w

    cut_at : (i : ℕ) (w : V) → get_elem? cut i ≡ some w → Cut i w
    cut_at i w e = ⊎_elim
        (λ t. ⊎_elim (λ s. is_left s.0 s.1) (λ s. is_other s.0 s.1) (at_set views id i left w t.1))
        (λ t. is_right (t.0 ∙ length-set views id left) t.1) (at_end (set views id left) right w i e)

    lone_cut : (i : ℕ) (w : V) → get_elem? views i ≡ some w → w.alone ≡ true → i ≡ id
    lone_cut i w e al = let one = (r.alone i w e al).2 in let p = at_below views i w e in let q = at_below views id v at in omega (arith, one, p, q)

    cut_alone : (i : ℕ) (w : V) → Cut i w → ¬ (w.alone ≡ true)
    cut_alone i w (is_left e f) al = let x : false ≡ true = ap (λ (z : V). z.alone) f ∙ al in cc
    cut_alone i w (is_other ne e) al = ne (lone_cut i w e al)
    cut_alone i w (is_right e f) al = let x : false ≡ true = ap (λ (z : V). z.alone) f ∙ al in cc

    cut_keeps : (i : ℕ) (w : V) → Cut i w → w.live ≡ true → (w.past ≡ r.past) × (w.start ≡ start) × (length w.held ≡ length start.hands)
    cut_keeps i w (is_left e f) l =
        let s = r.keeps id v at live in
        (ap (λ (x : V). x.past) (sym f) ∙ s.0, ap (λ (x : V). x.start) (sym f) ∙ s.1, ap (λ (x : V). length x.held) (sym f) ∙ (length-set v.held a None ∙ s.2))
    cut_keeps i w (is_other ne e) l = r.keeps i w e l
    cut_keeps i w (is_right e f) l =
        let s = r.keeps id v at live in
        (ap (λ (x : V). x.past) (sym f) ∙ s.0, ap (λ (x : V). x.start) (sym f) ∙ s.1, ap (λ (x : V). length x.held) (sym f) ∙ (only-length v.held a ∙ s.2))

    -- the seat that held before what a view holds now, and where that is the right one it is the actor's
    cut_before : (i : ℕ) (w : V) (b : ℕ) (g : H) → Cut i w → Holds w.held b g
        → (i₀ : ℕ) × (w₀ : V) × (get_elem? views i₀ ≡ some w₀) × Holds w₀.held b g ×
        (((i ≡ i₀) × (i₀ ≡ id → b ≢ a)) ⊎ ((i ≡ length views) × (i₀ ≡ id) × (b ≡ a)))
    cut_before i w b g (is_left e f) hold =
        let c = cut_held v.held a b g (subst (λ (x : V). Holds x.held b g) (sym f) hold) in (id, v, at, c.1, inl (e, λ _. c.0))
    cut_before i w b g (is_other ne e) hold = (i, w, e, hold, inl (refl, λ q. absurd (ne q)))
    cut_before i w b g (is_right e f) hold =
        let o = only_held v.held a b g (subst (λ (x : V). Holds x.held b g) (sym f) hold) in
        (id, v, at, subst (λ (c : ℕ). Holds v.held c g) (sym o.0) o.1, inr (e, refl, o.0))

    cut_once : (i j : ℕ) (x y : V) (b : ℕ) (f g : H) → get_elem? cut i ≡ some x → get_elem? cut j ≡ some y → Holds x.held b f → Holds y.held b g → i ≡ j
    cut_once i j x y b f g e e' p q =
        let s = cut_before i x b f (cut_at i x e) p in let t = cut_before j y b g (cut_at j y e') q in
        let one : s.0 ≡ t.0 = r.once s.0 t.0 s.1 t.1 b f g s.2 t.2 s.3 t.3 in
        ⊎_elim
        (λ m. ⊎_elim (λ n. m.0 ∙ (one ∙ sym n.0)) (λ n. absurd (m.1 (one ∙ n.1) n.2)) t.4)
        (λ m. ⊎_elim (λ n. absurd (n.1 (sym one ∙ m.1) m.2)) (λ n. m.0 ∙ sym n.0) t.4) s.4

    cut_length : length (set views id left) ≡ length views
    cut_length = length-set views id left

    at_left : get_elem? cut id ≡ some left
    at_left = at_longer (set views id left) (right ∷ []) id left (set_here views id left (at_below views id v at))

    cut_somewhere : (b : ℕ) (g : H) → get_elem? r.hands b ≡ some g → (i : ℕ) × (w : V) × (get_elem? cut i ≡ some w) × Holds w.held b g
    cut_somewhere b g e = let s = r.somewhere b g e in dite (ℕ_discrete s.0 id)
        (λ same. let is : s.1 ≡ v = some-injective s.1 v (sym s.2 ∙ (ap (get_elem? views) same ∙ at)) in
        let hold : Holds v.held b g = subst (λ (x : V). Holds x.held b g) is s.3 in
        dite (ℕ_discrete b a)
        (λ own. (
          length views,
          right,
          at_last (set views id left) right (length views) cut_length,
          subst (λ (c : ℕ). Holds (only v.held a) c g) (sym own)
              (only_here v.held a g (subst (λ (c : ℕ). Holds v.held c g) own hold)),
        ))
        (λ ne. (id, left, at_left, set_else v.held a b None ne ∙ hold)))
        (λ ne. (s.0, s.1, at_longer (set views id left) (right ∷ []) s.0 s.1 (set_else views id s.0 left ne ∙ s.2), s.3))

    pub cut_kept : Kept C start words cut
    cut_kept = record {
      past = r.past;
      hands = r.hands;
      reached = r.reached;
      alone = λ i w e al. absurd (cut_alone i w (cut_at i w e) al);
      keeps = λ i w e l. cut_keeps i w (cut_at i w e) l;
      owns = λ i w b g e hold. let s = cut_before i w b g (cut_at i w e) hold in r.owns s.0 s.1 b g s.2 s.3;
      once = cut_once;
      somewhere = cut_somewhere;
    }

  pub splits : (start : World H) (id : ℕ) (v : V) → v.live ≡ true → (a : ℕ)
      → Splits (λ (s : State (Unit {0}) V). Kept C start s.words s.views) id v (without a v) (with_only a v)
  splits start id v live a s r at = cut_kept start s.words s.views r id v at live a
