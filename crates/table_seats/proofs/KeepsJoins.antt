-- A join keeps the rule of the table.
use Rattle.std.proofs.Common.{◌≡◌, ℕ, ◌<◌, ◌≢◌, ◌⊎◌, true, false, List, [], length, set, sym, refl, ap, ◌∙◌, inl, inr, ⊎_elim, subst, arith, Option, Some}
use mathlib.Core.Option.{some, some-injective, some-ne-none}
use mathlib.Core.Logic.{dite}
use native.Mathlib.Decide.{ℕ_discrete}
use lib.ListN.{get_elem?}
use Rattle.atomic_table.specs.Table.{State, Joins}
use Rattle.atomic_table.proofs.Lists.{at_set, set_here, set_else}
use Rattle.mmu_core.specs.machine.Machine.{Core, World}
use Rattle.table_seats.specs.Rule.{View, Holds, joined, spent, Kept}
use Rattle.table_seats.proofs.Runs.{reached-hands}
use Rattle.table_seats.proofs.HandLists.{at_below, overlay_held, overlay_that, overlay_this, overlay-length}

module _ {H K : Type 0} (C : Core H K) where
  abbrev V : Type 0
  V = View H K

  module _ (start : World H) (words : List ℕ) (views : List V) (r : Kept C start words views) (id : ℕ) (v : V) (at : get_elem? views id ≡ some v)
      (live : v.live ≡ true)
      (other : ℕ) (w : V) (apart : ¬ (other ≡ id)) (at' : get_elem? views other ≡ some w) where
    abbrev both : V
    both = joined v w

    abbrev met : List V
    met = set (set views id both) other spent

    data Met (i : ℕ) (x : V) : Type 0 where
      is_spent : i ≡ other → spent ≡ x → Met i x
      is_both : i ≡ id → both ≡ x → Met i x
      is_third : i ≢ id → i ≢ other → get_elem? views i ≡ some x → Met i x

    met_at : (i : ℕ) (x : V) → get_elem? met i ≡ some x → Met i x
    met_at i x e =
        ⊎_elim (λ t. is_spent t.0 t.1) (λ t. ⊎_elim (λ s. is_both s.0 s.1) (λ s. is_third s.0 t.0 s.1) (at_set views id i both x t.1))
        (at_set (set views id both) other i spent x e)

    lone_met : (i : ℕ) (x : V) → get_elem? views i ≡ some x → x.alone ≡ true → i ≡ id
    lone_met i x e al = let one = (r.alone i x e al).2 in let p = at_below views i x e in let q = at_below views id v at in omega (arith, one, p, q)

    met_alone : (i : ℕ) (x : V) → Met i x → ¬ (x.alone ≡ true)
    met_alone i x (is_spent e f) al = let y : false ≡ true = ap (λ (z : V). z.alone) f ∙ al in cc
    met_alone i x (is_both e f) al = let y : false ≡ true = ap (λ (z : V). z.alone) f ∙ al in cc
    met_alone i x (is_third ne ne' e) al = ne (lone_met i x e al)

    met_keeps : (i : ℕ) (x : V) → Met i x → x.live ≡ true → (x.past ≡ r.past) × (x.start ≡ start) × (length x.held ≡ length start.hands)
    met_keeps i x (is_spent e f) l = let y : false ≡ true = ap (λ (z : V). z.live) f ∙ l in cc
    met_keeps i x (is_both e f) l =
        let s = r.keeps id v at live in (
          ap (λ (z : V). z.past) (sym f) ∙ s.0,
          ap (λ (z : V). z.start) (sym f) ∙ s.1,
          ap (λ (z : V). length z.held) (sym f)
              ∙ (overlay-length v.held w.held ∙ s.2),
        )
    met_keeps i x (is_third ne ne' e) l = r.keeps i x e l

    -- the seat that held before what a view holds now: the same, or the other one
    met_before : (i : ℕ) (x : V) (b : ℕ) (g : H) → Met i x → Holds x.held b g
        → (i₀ : ℕ) × (x₀ : V) × (get_elem? views i₀ ≡ some x₀) × Holds x₀.held b g × (((i₀ ≡ i) × (i ≢ other)) ⊎ ((i₀ ≡ other) × (i ≡ id)))
    met_before i x b g (is_spent e f) hold =
        let y : get_elem? {A = Option H} [] b ≡ some (Some g) = subst (λ (z : V). Holds z.held b g) (sym f) hold in absurd (some-ne-none (Some g) (sym y))
    met_before i x b g (is_both e f) hold =
        ⊎_elim (λ t. (id, v, at, t, inl (sym e, λ q. apart (sym q ∙ e)))) (λ t. (other, w, at', t, inr (refl, e)))
        (overlay_held v.held w.held b g (subst (λ (z : V). Holds z.held b g) (sym f) hold))
    met_before i x b g (is_third ne ne' e) hold = (i, x, e, hold, inl (refl, ne'))

    met_once : (i j : ℕ) (x y : V) (b : ℕ) (f g : H) → get_elem? met i ≡ some x → get_elem? met j ≡ some y → Holds x.held b f → Holds y.held b g → i ≡ j
    met_once i j x y b f g e e' p q =
        let s = met_before i x b f (met_at i x e) p in let t = met_before j y b g (met_at j y e') q in
        let one : s.0 ≡ t.0 = r.once s.0 t.0 s.1 t.1 b f g s.2 t.2 s.3 t.3 in
        ⊎_elim
        (λ m. ⊎_elim (λ n. sym m.0 ∙ (one ∙ n.0)) (λ n. absurd (m.1 (sym m.0 ∙ (one ∙ n.0)))) t.4)
        (λ m. ⊎_elim (λ n. absurd (n.1 (sym n.0 ∙ (sym one ∙ m.0)))) (λ n. m.1 ∙ sym n.1) t.4) s.4

    at_both : get_elem? met id ≡ some both
    at_both = set_else (set views id both) other id spent (λ e. apart (sym e)) ∙ set_here views id both (at_below views id v at)

    met_somewhere : (b : ℕ) (g : H) → get_elem? r.hands b ≡ some g → (i : ℕ) × (x : V) × (get_elem? met i ≡ some x) × Holds x.held b g
    met_somewhere b g e = let s = r.somewhere b g e in dite (ℕ_discrete s.0 other)
        (λ same. let is : s.1 ≡ w = some-injective s.1 w (sym s.2 ∙ (ap (get_elem? views) same ∙ at')) in
        let below : b < length v.held = let p = at_below r.hands b g e in let q = (r.keeps id v at live).2 in let u = reached-hands C r.reached in
        omega (arith, p, q, u) in
        (id, both, at_both, overlay_that v.held w.held b g below (subst (λ (x : V). Holds x.held b g) is s.3)))
        (λ ne. dite (ℕ_discrete s.0 id)
        (λ same. let is : s.1 ≡ v = some-injective s.1 v (sym s.2 ∙ (ap (get_elem? views) same ∙ at)) in (
          id,
          both,
          at_both,
          overlay_this v.held w.held b g (subst (λ (x : V). Holds x.held b g) is s.3)
              (λ f hold. ne (r.once s.0 other s.1 w b g f s.2 at' s.3 hold)),
        ))
        (λ ne'. (s.0, s.1, set_else (set views id both) other s.0 spent ne ∙ (set_else views id s.0 both ne' ∙ s.2), s.3)))

    pub met_kept : Kept C start words met
    met_kept = record {
      past = r.past;
      hands = r.hands;
      reached = r.reached;
      alone = λ i x e al. absurd (met_alone i x (met_at i x e) al);
      keeps = λ i x e l. met_keeps i x (met_at i x e) l;
      owns = λ i x b g e hold. let s = met_before i x b g (met_at i x e) hold in r.owns s.0 s.1 b g s.2 s.3;
      once = met_once;
      somewhere = met_somewhere;
    }

  pub joins : (start : World H) (id : ℕ) (v : V) → v.live ≡ true → (other : ℕ) (w : V)
      → Joins (λ (s : State (Unit {0}) V). Kept C start s.words s.views) id v other w (joined v w) spent
  joins start id v live other w s r at apart at' =
      met_kept start s.words s.views r id v at live other w apart (sym (set_else s.views id other (joined v w) apart) ∙ at')
