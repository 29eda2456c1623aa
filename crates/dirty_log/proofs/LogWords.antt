-- The word of a dirty log from which bits are taken, or which is loaded.
use Rattle.std.proofs.Common.{◌≡◌, ℕ, ap, sym, ◌∙◌, bit_and}
use Rattle.core_views.specs.Held.{Held}
use Rattle.spte_words.specs.declared.area.Area.TheVariants as area
use Rattle.part_steps.specs.declared.part_step.PartStep.TheVariants as part
use Rattle.part_steps.specs.PartSteps.{PartNeeds}
use Rattle.part_steps.specs.PartTasks.{all_but, own_index, part_task}
use Rattle.mmu_core.specs.machine.Machine.{World}
use Rattle.mmu_core.specs.machine.View.{word_in}
use Rattle.mmu_core.proofs.machine.Columns.{upd_other, upd_same}
use Rattle.step_seats.specs.PartTurns.{MadePart}
use Rattle.step_seats.specs.Seats.{Seat}
use Rattle.step_seats.proofs.ToldWords.{StepsTo, told_both}
use Rattle.step_seats.proofs.Where.{ToldBoth}
use Rattle.dirty_log.specs.LogWords.{TakesBits}

pub taken_word : (word mask note found : ℕ) (before after : Seat) → PartNeeds (part.Take word mask) before.hand
    → MadePart (part.Take word mask) note found before after → ToldBoth before.tells.world after.tells.world (TakesBits word mask found before.hand)
taken_word word mask note found before after needs made =
    told_both before.tells.world after.tells.world before.actor note found (part.Take word mask) before.hand (TakesBits word mask found before.hand) needs
    made.has made.world each
  where
    each : (w u : World Held) → StepsTo before.hand.state.sizes (part_task (part.Take word mask) (own_index before.hand) before.hand.topics note) found w u
        → TakesBits word mask found before.hand w u
    each w u S =
        let words = word_in before.hand.state.sizes w area.Log in
        let kept = bit_and (words word) (all_but mask) in
        record {
          was = sym S.finds;
          loses = S.leaves area.Log word ∙ upd_same words word kept ∙ ap (λ x. bit_and x (all_but mask)) (sym S.finds);
          others = λ i apart. S.leaves area.Log i ∙ upd_other words word i kept apart;
        }

pub loaded_word : (word note found : ℕ) (before after : Seat) → PartNeeds (part.Peek word) before.hand
    → MadePart (part.Peek word) note found before after
    → ToldBoth before.tells.world after.tells.world (λ w u. word_in before.hand.state.sizes w area.Log word ≡ found)
loaded_word word note found before after needs made =
    told_both before.tells.world after.tells.world before.actor note found (part.Peek word) before.hand
    (λ w u. word_in before.hand.state.sizes w area.Log word ≡ found) needs made.has made.world (λ w u S. sym S.finds)
