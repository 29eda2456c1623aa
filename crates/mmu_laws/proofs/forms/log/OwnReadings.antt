-- What a line has read of a dirty log after each of its steps; and what it has read in the end it may read.
use Rattle.std.proofs.Common.{◌≡◌, ◌<◌, ◌+◌, ◌/◌, ◌%◌, ◌^◌, [], ℕ, min, w64, arith}
use Rattle.std.proofs.Common.{refl, ap, ◌∙◌}
use Rattle.std.proofs.lemmas.Nat.Bits.{bit_at_and, bit_at_not}
use Rattle.std.specs.Int.{bit_at}
use Rattle.std.specs.Prelude.{◌==◌, Bool, true, false, if◌then◌else◌}
use Rattle.core_views.specs.declared.trace.Command.{Command}
use Rattle.core_views.specs.declared.trace.Slot.{Slot as SlotOf}
use Rattle.core_views.specs.declared.topics.Topics.{Topics}
use Rattle.core_views.specs.Held.{Held}
use Rattle.core_views.specs.Past.{Past}
use Rattle.core_views.specs.Slots.{contains}
use Rattle.spte_words.specs.declared.area.Area.{Area}
use Rattle.spte_words.specs.declared.area.Area.TheVariants as area
use Rattle.part_steps.specs.declared.part_step.PartStep.TheVariants as part
use Rattle.part_steps.specs.PartTasks.{all_but, part_task}
use Rattle.part_steps.specs.SlotWords.{page_of}
use Rattle.mmu_core.specs.forms.log.LogKnows.{IsReading}
use Rattle.mmu_core.specs.forms.log.LogSteps.{first_word, mask_read, read_more, word_read}
use Rattle.mmu_core.specs.machine.View.{words_after}
use Rattle.mmu_core.proofs.forms.log.LogNeeds.{mask_small}
use Rattle.mmu_core.proofs.machine.Columns.{upd_other, upd_same}
use Rattle.log_invariant.specs.Covered.{is_marked}
use Rattle.mmu_laws.specs.forms.log.ReadSoFar.{HasReadTo}
use Rattle.mmu_laws.proofs.forms.log.Readings.{IsWhole, ReadsWord, word_is_read}

-- ---- the words of the log after the step

-- A take clears the bits of its mask, and changes no other word.
pub take_reads : (slot : SlotOf) (command : Command) (W : IsWhole slot command) (own : ℕ) (t : Topics) (note : ℕ) (words : Area → ℕ → ℕ) (word : ℕ)
    → ReadsWord slot command W (words area.Log) (words_after (part_task (part.Take word (mask_read slot command word)) own t note) words area.Log) true word
take_reads slot command W own t note words word = record {
  others = λ page apart. ap (λ w. w / 2 ^ (page % 64) % 2 == 1) (upd_other (words area.Log) word (page / 64) _ apart);
  cleared = λ takes page here masked.
      ap (λ k. bit_at (after k) (page % 64) == 1) here ∙ ap (λ w. bit_at w (page % 64) == 1) (upd_same (words area.Log) word _)
      ∙ ap (λ b. b == 1) (bit_at_and (words area.Log word) (all_but mask) (page % 64) ∙ none (page % 64) (omega arith) masked);
}
  where
    mask : ℕ
    mask = mask_read slot command word

    after : ℕ → ℕ
    after = words_after (part_task (part.Take word mask) own t note) words area.Log

    none : (bit : ℕ) → bit < 64 → bit_at mask bit ≡ 1 → min (bit_at (words area.Log word) bit) (bit_at (all_but mask) bit) ≡ 0
    none bit low masked =
        let cleared = bit_at_not w64 mask bit (mask_small command slot _) low in
        omega (arith, cleared, masked)

-- A load changes nothing.
pub peek_reads : (slot : SlotOf) (command : Command) (W : IsWhole slot command) (log : ℕ → ℕ) (word : ℕ) → ReadsWord slot command W log log false word
peek_reads slot command W log word = record { others = λ page apart. refl; cleared = λ takes. absurd (cc takes) }

-- ---- one word more

pub reads_more : (begun : Bool) (slot : SlotOf) (command : Command) (W : IsWhole slot command) (h : Held) (log after : ℕ → ℕ) (out : Bool) (past : Past)
    → IsReading begun slot command h → ReadsWord slot command W log after out (word_read begun slot command h.topics)
    → ((gfn : ℕ) → contains gfn slot ≡ true → is_marked log (page_of slot gfn) ≡ true → past.causes gfn ≡ true)
    → HasReadTo log slot command out (if begun then h.harvest else []) (word_read begun slot command h.topics) past
    → HasReadTo after slot command out (read_more begun slot command h (log (word_read begun slot command h.topics)))
    (word_read begun slot command h.topics + 1) past
reads_more true slot command W h log after out past K D caused H =
    word_is_read slot command W log after out h.harvest h.topics.next_log_word past
    (let from = K.from refl in let read = K.read refl in omega (arith, from, read)) H D caused
reads_more false slot command W h log after out past K D caused H =
    word_is_read slot command W log after out [] (first_word slot command) past (omega arith) H D caused
