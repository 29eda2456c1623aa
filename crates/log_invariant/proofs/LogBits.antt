-- The pages whose bits are set in the log, after a mark and after a take of bits; and the bits that a take clears.
use Rattle.core_views.specs.declared.topics.Topics.{Topics}
use Rattle.log_invariant.specs.Covered.{is_marked}
use Rattle.mmu_core.proofs.machine.Columns.{at_upd, same_or, upd_other, upd_same}
use Rattle.mmu_core.proofs.words.PoolBits.{free_given}
use Rattle.mmu_core.specs.machine.View.{upd, words_after}
use Rattle.core_views.specs.LogCommands.{low_bits}
use Rattle.part_steps.specs.PartTasks.{all_but, page_owed, part_task}
use Rattle.part_steps.specs.declared.part_step.PartStep.TheVariants as part
use Rattle.spte_words.specs.Bits.{has_bit}
use Rattle.spte_words.specs.declared.area.Area.TheVariants as area
use Rattle.spte_words.specs.declared.area.Area.{Area}
use Rattle.std.proofs.Common.{ap, arith, bit_and, inl, inr, min, refl, subst, sym, w64, ℕ, ◌%◌, ◌-◌, ◌/◌, ◌<◌, ◌^◌, ◌∙◌, ◌≡◌, ◌≢◌, ◌≤◌, ◌⊎◌}
use Rattle.std.proofs.lemmas.Bool.Decides.{nat_tests}
use Rattle.std.proofs.lemmas.Nat.{and_comm}
use Rattle.std.proofs.lemmas.Nat.Bits.{bit_at-lt, bit_at_and, bit_at_not, bit_at_ones_above}
use Rattle.std.specs.Int.{bit_at}
use Rattle.std.specs.Prelude.{Bool, false, true, nat_le, if◌then◌else◌, ◌==◌}

-- A mark sets the bit of its page, and no other.
pub mark_bits : (own : ℕ) (t : Topics) (note : ℕ) (words : Area → ℕ → ℕ) (page : ℕ)
    → is_marked (words_after (part_task part.Mark own t note) words area.Log) page ≡ upd (is_marked (words area.Log)) (page_owed t) true page
mark_bits own t note words page =
    free_given (words area.Log) (page_owed t / 64) (page_owed t % 64) (page_owed t) (omega arith) (omega arith) page

-- So what is marked then was so, or is its page.
pub was_marked : (own : ℕ) (t : Topics) (note : ℕ) (words : Area → ℕ → ℕ) (page : ℕ)
    → is_marked (words_after (part_task part.Mark own t note) words area.Log) page ≡ true → (page ≡ page_owed t) ⊎ (is_marked (words area.Log) page ≡ true)
was_marked own t note words page is =
    at_upd (λ k b. b ≡ true → (k ≡ page_owed t) ⊎ (is_marked (words area.Log) k ≡ true)) (is_marked (words area.Log)) (page_owed t) true
    (λ e. inl refl) (λ k ne e. inr e) page (sym (mark_bits own t note words page) ∙ is)

-- A bit of a conjunction is one of the word.
pub bit_of_both : (word mask i : ℕ) → has_bit i (bit_and word mask) ≡ true → has_bit i word ≡ true
bit_of_both word mask i is = by (bit_at word i) (bit_at mask i) (omega arith) (sym (ap (λ b. b == 1) (bit_at_and word mask i)) ∙ is)
  where
    by : (m n : ℕ) → m < 2 → (min m n == 1) ≡ true → (m == 1) ≡ true
    by m n lt e = grind (arith, nat_tests)

-- A take sets none.
pub was_there : (own : ℕ) (t : Topics) (note : ℕ) (words : Area → ℕ → ℕ) (word mask page : ℕ)
    → is_marked (words_after (part_task (part.Take word mask) own t note) words area.Log) page ≡ true → is_marked (words area.Log) page ≡ true
was_there own t note words word mask page is =
    at_upd (λ k w. k ≡ page / 64 → has_bit (page % 64) w ≡ true → is_marked (words area.Log) page ≡ true) (words area.Log) word _
    (λ e bit. subst (λ k. has_bit (page % 64) (words area.Log k) ≡ true) e (bit_of_both (words area.Log word) _ (page % 64) bit))
    (λ k ne e bit. subst (λ k. has_bit (page % 64) (words area.Log k) ≡ true) e bit)
    (page / 64) refl is

-- A bit of both is one of the conjunction.
pub both_bits : (word mask i : ℕ) → has_bit i word ≡ true → has_bit i mask ≡ true → has_bit i (bit_and word mask) ≡ true
both_bits word mask i is too = ap (λ b. b == 1) (bit_at_and word mask i) ∙ by (bit_at word i) (bit_at mask i) is too
  where
    by : (m n : ℕ) → (m == 1) ≡ true → (n == 1) ≡ true → (min m n == 1) ≡ true
    by m n e f = grind (arith, nat_tests)

-- So is each bit that isn't cleared.
bit_left : (word mask i : ℕ) → mask < 2 ^ 64 → i < 64 → has_bit i mask ≡ false → has_bit i word ≡ true → has_bit i (bit_and word (all_but mask)) ≡ true
bit_left word mask i small low out is =
    both_bits word (all_but mask) i is (ap (λ b. b == 1) (bit_at_not w64 mask i small low) ∙ by (bit_at mask i) (bit_at-lt mask i) out)
  where
    by : (m : ℕ) → m < 2 → (m == 1) ≡ false → (1 - m == 1) ≡ true
    by m lt e = grind (arith, nat_tests)

-- A page that was marked is marked after a take, or the take has cleared its bit.
pub left_or_taken : (own : ℕ) (t : Topics) (note : ℕ) (words : Area → ℕ → ℕ) (word mask page : ℕ) → mask < 2 ^ 64 → is_marked (words area.Log) page ≡ true
    → (is_marked (words_after (part_task (part.Take word mask) own t note) words area.Log) page ≡ true)
    ⊎ ((page / 64 ≡ word) × (has_bit (page % 64) mask ≡ true))
left_or_taken own t note words word mask page small is = by (same_or (page / 64) word)
  where
    after : ℕ → ℕ
    after = words_after (part_task (part.Take word mask) own t note) words area.Log

    by : (page / 64 ≡ word) ⊎ (page / 64 ≢ word) → (is_marked after page ≡ true) ⊎ ((page / 64 ≡ word) × (has_bit (page % 64) mask ≡ true))
    by (inr ne) = inl (ap (has_bit (page % 64)) (upd_other (words area.Log) word (page / 64) _ ne) ∙ is)
    by (inl e) = bit (has_bit (page % 64) mask) refl
      where
        bit : (b : Bool) → has_bit (page % 64) mask ≡ b → (is_marked after page ≡ true) ⊎ ((page / 64 ≡ word) × (has_bit (page % 64) mask ≡ true))
        bit true set = inr (e, set)
        bit false out =
            inl (ap (λ k. has_bit (page % 64) (after k)) e ∙ ap (has_bit (page % 64)) (upd_same (words area.Log) word _)
            ∙ bit_left (words area.Log word) mask (page % 64) small (omega arith) out (ap (λ k. has_bit (page % 64) (words area.Log k)) (sym e) ∙ is))

-- A bit of a mask with so many low bits is one of these; and one of a conjunction is one of the mask.
pub low_bit_below : (n i : ℕ) → i < 64 → has_bit i (low_bits n) ≡ true → i < n
low_bit_below n i low is = by (nat_le 64 n) refl is
  where
    by : (b : Bool) → nat_le 64 n ≡ b → has_bit i (if b then 2 ^ 64 - 1 else 2 ^ n - 1) ≡ true → i < n
    by true many set = let le : 64 ≤ n = grind (arith, nat_tests) in omega (arith, le, low)
    by false few set = test (nat_le n i) refl
      where
        test : (b : Bool) → nat_le n i ≡ b → i < n
        test false less = grind (arith, nat_tests)
        test true above =
            let le : n ≤ i = grind (arith, nat_tests) in
            let none : has_bit i (2 ^ n - 1) ≡ false = ap (λ b. b == 1) (bit_at_ones_above n i le) in
            absurd (cc (none, set))

pub bit_of_mask : (word mask i : ℕ) → has_bit i (bit_and word mask) ≡ true → has_bit i mask ≡ true
bit_of_mask word mask i is = bit_of_both mask word i (ap (has_bit i) (and_comm mask word) ∙ is)
