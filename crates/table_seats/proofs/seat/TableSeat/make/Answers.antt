use Rattle.std.proofs.Common.{◌≡◌, ◌<◌, ◌∙◌, ◌∷◌, [], ℕ, List, Option, Some, ap, length, map, subst, sym}
use Rattle.core_views.specs.Held.{Handful}
use Rattle.mmu_core.specs.machine.Enabled.{mmu}
use Rattle.table_seats.specs.Boards.{begun}
use Rattle.table_seats.specs.Rule.{Kept, first_view}
use Rattle.table_seats.specs.Passes.{IsPass, Known}
use Rattle.table_seats.proofs.KeepsSteps.{opens}
use Rattle.table_seats.proofs.Opening.{begins, first_pass, some_words}
use Rattle.table_seats.proofs.seat.TableSeat.make.Goals as goal

pub of_words-requires : goal.of_words-requires
of_words-requires c =
    subst (λ (ws : List ℕ). Kept mmu (begun c.into_closing-start.result) ws (first_view (begun c.into_closing-start.result) ∷ [])) (sym c.as_slice.ensures)
    (opens mmu (begun c.into_closing-start.result))

pub invariant_of-result : goal.invariant_of-result
invariant_of-result c =
    let t = c.in_ok-table.ensures {u = tt} in
    let start = c.into_closing-start.result in
    let before = c.in_ok-machine.machine in
    let m = begins before.sizes before.words before.hands start c.holds.ensures c.into_closing-start.ensures.words
    c.into_closing-start.ensures.hands in
    let words : c.in_ok-table.table.shared.table_id.words ≡ length start.words = t.0 ∙ ap (λ (ws : List ℕ). length ws) c.as_slice.ensures in
    record {
      words = words ∙ ap (λ k. length k.words) (sym t.5);
      some = subst (λ n. 0 < n) (sym words) (some_words c.in_ok-machine.machine.sizes start.words start.hands m);
      slots = t.1;
    }

pub invariant_of-result-2 : goal.invariant_of-result-2
invariant_of-result-2 c =
    let t = c.in_ok-table.ensures {u = tt} in
    let start = c.into_closing-start.result in
    let before = c.in_ok-machine.machine in
    let m = begins before.sizes before.words before.hands start c.holds.ensures c.into_closing-start.ensures.words
    c.into_closing-start.ensures.hands in
    let hands : c.in_ok-hands.hands.items ≡ map Some start.hands =
    c.in_ok-hands.ensures {u = tt} ∙ ap (λ (l : List Handful). map Some l) c.into_vec.ensures in (
      ap (λ x. x.1) t.4,
      subst (λ (x : Known × List (Option Handful)). IsPass x.0 x.1) (λ i. (sym (ap (λ x. x.0) t.4) i, sym hands i))
          (first_pass c.in_ok-machine.machine.sizes start.words start.hands m),
    )
