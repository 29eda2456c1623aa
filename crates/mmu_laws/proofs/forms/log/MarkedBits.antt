-- A take clears each bit of its mask.
use Rattle.std.proofs.Common.{◌≡◌, ◌-◌, ◌/◌, ◌%◌, ◌^◌, ◌<◌, ℕ, min, ap, ◌∙◌, arith, w64, bit_and}
use Rattle.std.proofs.lemmas.Bool.Decides.{nat_tests}
use Rattle.std.proofs.lemmas.Nat.Bits.{bit_at_and, bit_at_not}
use Rattle.std.specs.Int.{bit_at}
use Rattle.std.specs.Prelude.{true, false, ◌==◌}
use Rattle.core_views.specs.declared.topics.Topics.{Topics}
use Rattle.spte_words.specs.Bits.{has_bit}
use Rattle.spte_words.specs.declared.area.Area.{Area}
use Rattle.spte_words.specs.declared.area.Area.TheVariants as area
use Rattle.part_steps.specs.declared.part_step.PartStep.TheVariants as part
use Rattle.part_steps.specs.PartTasks.{all_but, part_task}
use Rattle.mmu_core.specs.machine.View.{words_after}
use Rattle.mmu_core.proofs.machine.Columns.{upd_same}
use Rattle.log_invariant.specs.Covered.{is_marked}

-- A bit of the mask is clear after it.
bit_cleared : (word mask i : ℕ) → mask < 2 ^ 64 → i < 64 → has_bit i mask ≡ true → has_bit i (bit_and word (all_but mask)) ≡ false
bit_cleared word mask i small low is =
    ap (λ b. b == 1) (bit_at_and word (all_but mask) i ∙ ap (λ m. min (bit_at word i) m) (bit_at_not w64 mask i small low))
    ∙ by (bit_at word i) (bit_at mask i) is
  where
    by : (m n : ℕ) → (n == 1) ≡ true → (min m (1 - n) == 1) ≡ false
    by m n e = let one : n ≡ 1 = grind (arith, nat_tests) in let none : min m (1 - n) ≡ 0 = omega (arith, one) in grind (arith, nat_tests)

pub take_clears : (own : ℕ) (t : Topics) (note : ℕ) (words : Area → ℕ → ℕ) (word mask page : ℕ) → mask < 2 ^ 64 → page / 64 ≡ word
    → has_bit (page % 64) mask ≡ true → is_marked (words_after (part_task (part.Take word mask) own t note) words area.Log) page ≡ false
take_clears own t note words word mask page small here is =
    ap (λ k. has_bit (page % 64) (words_after (part_task (part.Take word mask) own t note) words area.Log k)) here
    ∙ ap (has_bit (page % 64)) (upd_same (words area.Log) word _)
    ∙ bit_cleared (words area.Log word) mask (page % 64) small (omega arith) is
