-- The state words of virtual processors that are asked for a flush, and awaited.
use Rattle.std.proofs.Common.{◌≡◌, ℕ, ap, ◌∙◌, arith, bit_or, w64}
use Rattle.std.specs.Prelude.{◌==◌, Bool, true, false, if◌then◌else◌}
use Rattle.std.proofs.lemmas.Nat.Bits.{bit_at_set_same, bit_at_set_other}
use Rattle.core_views.specs.declared.sizes.Sizes.{Sizes}
use Rattle.core_views.specs.Held.{Held}
use Rattle.spte_words.specs.declared.area.Area.TheVariants as area
use Rattle.part_steps.specs.ControlBits.{has_to_flush}
use Rattle.part_steps.specs.PartSteps.{PartNeeds}
use Rattle.part_steps.specs.PartTasks.{own_index, part_task}
use Rattle.part_steps.specs.declared.part_step.PartStep.TheVariants as part
use Rattle.mmu_core.specs.machine.Machine.{World}
use Rattle.mmu_core.specs.machine.View.{word_in}
use Rattle.mmu_core.proofs.machine.Columns.{upd_same}
use Rattle.step_seats.specs.PartTurns.{MadePart}
use Rattle.step_seats.specs.Seats.{Seat}
use Rattle.step_seats.proofs.ToldWords.{StepsTo, told_both}
use Rattle.step_seats.proofs.Where.{ToldBoth}
use Rattle.vcpu_tlb.specs.declared.flush.Awaited.TheVariants.{Flushed, Waits}
use Rattle.vcpu_tlb.specs.Flushing.{IsAsked, awaited_by, state_word_of}

-- Setting bit 2 asks for a flush, and keeps bits 0 and 1.
sets_request : (n : ℕ) → IsAsked n (bit_or n 4)
sets_request n = record {
  asks = ap (λ b. b == 1) (bit_at_set_same w64 n 2 (omega arith));
  guest = ap (λ b. b == 1) (bit_at_set_other w64 n 2 (omega arith) 0 (λ e. absurd (omega arith)));
  section = ap (λ b. b == 1) (bit_at_set_other w64 n 2 (omega arith) 1 (λ e. absurd (omega arith)));
}

pub asked_word : (index note found : ℕ) (before after : Seat) → PartNeeds (part.Ask index) before.hand → MadePart (part.Ask index) note found before after
    → ToldBoth before.tells.world after.tells.world
    (λ w v. IsAsked (state_word_of before.hand.state.sizes index w) (state_word_of before.hand.state.sizes index v))
asked_word index note found before after needs made =
    told_both before.tells.world after.tells.world before.actor note found (part.Ask index) before.hand
    (λ w v. IsAsked (state_word_of before.hand.state.sizes index w) (state_word_of before.hand.state.sizes index v)) needs made.has made.world each
  where
    z : Sizes
    z = before.hand.state.sizes

    each : (w u : World Held) → StepsTo z (part_task (part.Ask index) (own_index before.hand) before.hand.topics note) found w u
        → IsAsked (state_word_of z index w) (state_word_of z index u)
    each w u S =
        let is : state_word_of z index u ≡ bit_or (state_word_of z index w) 4 =
        S.leaves area.State index ∙ upd_same (word_in z w area.State) index (bit_or (state_word_of z index w) 4) in
        rw is (sets_request (state_word_of z index w))

-- the answer by what was found
pub has_yet : (v : ℕ) → has_to_flush v ≡ true → awaited_by v ≡ Waits v
has_yet v is = ap (λ (b : Bool). if b then Waits v else Flushed) is

pub has_not : (v : ℕ) → has_to_flush v ≡ false → awaited_by v ≡ Flushed
has_not v is = ap (λ (b : Bool). if b then Waits v else Flushed) is
