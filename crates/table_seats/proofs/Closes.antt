-- What the last state of a table shows, where one seat holds every hand.
use Rattle.std.proofs.Common.{◌≡◌, ℕ, suc, true, List, [], ◌∷◌, map, length, sym, refl, ap, ◌∙◌, subst, arith, Some}
use mathlib.Core.Option.{some, some-injective, some-ne-none}
use lib.ListN.{get_elem?}
use Rattle.atomic_table.specs.Table.{Final, Seen, State}
use Rattle.mmu_core.specs.machine.Machine.{Core, Step, World, run}
use Rattle.table_seats.specs.Rule.{Holds, Kept, Reached, View, world}
use Rattle.table_seats.proofs.HandLists.{map-some}
use Rattle.table_seats.proofs.Runs.{reached-hands}

-- a list that has each element of another, where both are as long
pub same_hands : {H : Type 0} (xs ys : List H) → length xs ≡ length ys → ((a : ℕ) (h : H) → Holds (map Some ys) a h → get_elem? xs a ≡ some h) → xs ≡ ys
same_hands [] [] l f = refl
same_hands [] (y ∷ ys) l f = absurd (some-ne-none y (sym (f 0 y refl)))
same_hands (x ∷ xs) [] l f = absurd (omega arith)
same_hands {H} (x ∷ xs) (y ∷ ys) l f =
    let e = some-injective x y (f 0 y refl) in let t = same_hands xs ys (omega arith) (λ a h hold. f (suc a) h hold) in λ i. e i ∷ t i

module _ {H K : Type 0} (C : Core H K) where
  -- the words and the hands are reached, and before the first split they are where the past leads
  pub closes : (start : World H) (words : List ℕ) (slots : List (Unit {0})) (id : ℕ) (v : View H K) (hs : List H) → v.live ≡ true → v.held ≡ map Some hs
      → Final (Seen (λ (s : State (Unit {0}) (View H K)). Kept C start s.words s.views) id v) words slots
      → Reached C start v.past (world words hs) × (v.alone ≡ true → run C start v.past ≡ world words hs)
  closes start words slots id v hs live all (s, (r, at), same, _, _) =
      let k = r.keeps id v at live in
      let n : length r.hands ≡ length hs = reached-hands C r.reached ∙ (sym k.2 ∙ (ap (λ l. length l) all ∙ map-some hs)) in
      let is : r.hands ≡ hs = same_hands r.hands hs n (λ a h hold. r.owns id v a h at (subst (λ l. Holds l a h) (sym all) hold)) in
      let w : world s.words r.hands ≡ world words hs = λ i. world (same i) (is i) in (
        subst (λ (z : List (Step K) × World H). Reached C start z.0 z.1) (λ i. (sym k.0 i, w i)) r.reached,
        λ al. let t = r.alone id v at al in ap (run C start) k.0 ∙ (sym t.0 ∙ w),
      )
