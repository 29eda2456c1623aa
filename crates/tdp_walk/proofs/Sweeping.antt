-- The entry that a sweep loads, that a zap leaves absent, and that a write protection leaves without its Writable bit.
use Rattle.std.proofs.Common.{ℕ, ap, sym, ◌∙◌, bit_and}
use Rattle.core_views.specs.Held.{Held}
use Rattle.spte_words.specs.declared.area.Area.TheVariants as area
use Rattle.spte_words.specs.Entries.{write_bit}
use Rattle.part_steps.specs.PartSteps.{PartNeeds}
use Rattle.part_steps.specs.PartTasks.{all_but, own_index, part_task}
use Rattle.part_steps.specs.declared.part_step.PartStep.TheVariants as part
use Rattle.mmu_core.specs.machine.Machine.{World}
use Rattle.mmu_core.specs.machine.View.{word_in}
use Rattle.mmu_core.proofs.machine.Columns.{upd_other, upd_same}
use Rattle.step_seats.specs.PartTurns.{MadePart}
use Rattle.step_seats.specs.Seats.{Seat}
use Rattle.step_seats.proofs.ToldWords.{StepsTo, told_both}
use Rattle.step_seats.proofs.Where.{ToldBoth}
use Rattle.tdp_walk.specs.Sweeps.{LoadsEntry, ProtectsEntry, ZapsEntry, entry_at}
use Rattle.tdp_walk.specs.Walks.{LoadsRootEntry}

pub zapped_word : (gfn note found : ℕ) (before after : Seat) → PartNeeds (part.Zap gfn) before.hand → MadePart (part.Zap gfn) note found before after
    → ToldBoth before.tells.world after.tells.world (ZapsEntry gfn found before.hand)
zapped_word gfn note found before after needs made =
    told_both before.tells.world after.tells.world before.actor note found (part.Zap gfn) before.hand (ZapsEntry gfn found before.hand) needs made.has
    made.world each
  where
    each : (w u : World Held) → StepsTo before.hand.state.sizes (part_task (part.Zap gfn) (own_index before.hand) before.hand.topics note) found w u
        → ZapsEntry gfn found before.hand w u
    each w u S =
        let words = word_in before.hand.state.sizes w area.Pool in
        let at = entry_at gfn before.hand.topics in
        record {
          was = sym S.finds;
          absent = S.leaves area.Pool at ∙ upd_same words at 0;
          others = λ i apart. S.leaves area.Pool i ∙ upd_other words at i 0 apart;
        }

pub protected_word : (gfn note found : ℕ) (before after : Seat) → PartNeeds (part.Protect gfn) before.hand
    → MadePart (part.Protect gfn) note found before after → ToldBoth before.tells.world after.tells.world (ProtectsEntry gfn found before.hand)
protected_word gfn note found before after needs made =
    told_both before.tells.world after.tells.world before.actor note found (part.Protect gfn) before.hand (ProtectsEntry gfn found before.hand) needs made.has
    made.world each
  where
    each : (w u : World Held) → StepsTo before.hand.state.sizes (part_task (part.Protect gfn) (own_index before.hand) before.hand.topics note) found w u
        → ProtectsEntry gfn found before.hand w u
    each w u S =
        let words = word_in before.hand.state.sizes w area.Pool in
        let at = entry_at gfn before.hand.topics in
        let kept = bit_and (words at) (all_but write_bit) in
        record {
          was = sym S.finds;
          loses = S.leaves area.Pool at ∙ upd_same words at kept ∙ ap (λ x. bit_and x (all_but write_bit)) (sym S.finds);
          others = λ i apart. S.leaves area.Pool i ∙ upd_other words at i kept apart;
        }

pub swept_word : (gfn note found : ℕ) (before after : Seat) → PartNeeds (part.Sweep gfn) before.hand → MadePart (part.Sweep gfn) note found before after
    → ToldBoth before.tells.world after.tells.world (λ w u. LoadsEntry gfn found before.hand w)
swept_word gfn note found before after needs made =
    told_both before.tells.world after.tells.world before.actor note found (part.Sweep gfn) before.hand (λ w u. LoadsEntry gfn found before.hand w) needs
    made.has made.world (λ w u S. sym S.finds)

pub anew_word : (gfn note found : ℕ) (before after : Seat) → PartNeeds (part.WalkAnew gfn) before.hand
    → MadePart (part.WalkAnew gfn) note found before after → ToldBoth before.tells.world after.tells.world (λ w u. LoadsRootEntry gfn found before.hand w)
anew_word gfn note found before after needs made =
    told_both before.tells.world after.tells.world before.actor note found (part.WalkAnew gfn) before.hand (λ w u. LoadsRootEntry gfn found before.hand w)
    needs made.has made.world (λ w u S. sym S.finds)
