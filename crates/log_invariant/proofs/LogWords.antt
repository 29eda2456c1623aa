-- What a step makes of the words of the dirty log, and of the mark that is owed.
use Rattle.std.proofs.Common.{◌≡◌, ◌≢◌, ◌⊎◌, inl, inr, ◌+◌, ◌-◌, ◌*◌, ◌/◌, ◌%◌, ◌^◌, ◌<◌, ◌≤◌, ℕ, refl, sym, ap, ◌∙◌, arith}
use Rattle.std.specs.Int.Bits.{bit_or}
use Rattle.std.proofs.lemmas.Bool.Decides.{nat_tests}
use Rattle.std.specs.Prelude.{Bool, true, false, Some}
use Rattle.core_views.specs.declared.sizes.Sizes.{Sizes}
use Rattle.core_views.specs.declared.topics.Topics.{Topics}
use Rattle.core_views.specs.declared.trace.Op.{Op}
use Rattle.core_views.specs.declared.trace.Op.TheVariants.{Read}
use Rattle.core_views.specs.declared.trace.Slot.{Slot as SlotOf}
use Rattle.core_views.specs.Held.{Held}
use Rattle.core_views.specs.Slots.{contains}
use Rattle.core_views.specs.SlotSets.{slot_of_id}
use Rattle.spte_words.specs.Bits.{has_bit}
use Rattle.spte_words.specs.declared.area.Area.{Area}
use Rattle.spte_words.specs.declared.area.Area.TheVariants as area
use Rattle.part_steps.specs.declared.part_step.PartStep.{PartStep}
use Rattle.part_steps.specs.declared.part_step.PartStep.TheVariants as part
use Rattle.part_steps.specs.LogHoldings.{is_in_log}
use Rattle.part_steps.specs.PartSteps.{needs_line}
use Rattle.part_steps.specs.PartTasks.{own_index, page_owed, part_task}
use Rattle.part_steps.specs.SlotWords.{page_of}
use Rattle.mmu_core.specs.invariant.Invariant.{Invariant, OwnLines, RecordPart}
use Rattle.mmu_core.specs.forms.access.AccessSteps.{touch_of}
use Rattle.mmu_core.specs.machine.View.{View, upd, words_after}
use Rattle.mmu_core.proofs.machine.Columns.{same_or, upd_other, upd_same}
use Rattle.mmu_core.proofs.machine.PartStepping.{IsPart}
use Rattle.mmu_core.proofs.words.PoolBits.{free_set}
use Rattle.mmu_core.proofs.words.SmallSlots.{aligned, record_is_so}
use Rattle.log_invariant.specs.Covered.{is_marked}
use Rattle.log_invariant.proofs.HeldLogs.{IsLoggedNow}
use Rattle.log_invariant.proofs.PublishedLogs.{logged_recorded}
use Rattle.log_invariant.proofs.StepPlaces.{takes_bits}
use Rattle.mmu_core.proofs.held.OwedKept.{is_mark}

-- ---- a mark

-- Where the bit of a page is set, it is marked; and each that was marked is marked still.
pub marked_now : (log : ℕ → ℕ) (page : ℕ) → is_marked (upd log (page / 64) (bit_or (log (page / 64)) (2 ^ (page % 64)))) page ≡ true
marked_now log page =
    free_set log (page / 64) (page % 64) (omega arith) page ∙ ap (λ k. upd (is_marked log) k true page) (whole page) ∙ upd_same (is_marked log) page true
  where
    whole : (n : ℕ) → 64 * (n / 64) + n % 64 ≡ n
    whole n = omega arith

pub marked_still : (log : ℕ → ℕ) (other page : ℕ) → is_marked log page ≡ true
    → is_marked (upd log (other / 64) (bit_or (log (other / 64)) (2 ^ (other % 64)))) page ≡ true
marked_still log other page marked =
    free_set log (other / 64) (other % 64) (omega arith) page ∙ by (same_or page (64 * (other / 64) + other % 64))
  where
    by : (page ≡ 64 * (other / 64) + other % 64) ⊎ (page ≢ 64 * (other / 64) + other % 64)
        → upd (is_marked log) (64 * (other / 64) + other % 64) true page ≡ true
    by (inl e) = ap (upd (is_marked log) (64 * (other / 64) + other % 64) true) e ∙ upd_same (is_marked log) (64 * (other / 64) + other % 64) true
    by (inr ne) = upd_other (is_marked log) (64 * (other / 64) + other % 64) page true ne ∙ marked

-- ---- words of a slot's log

-- The page of a guest frame of the slot has its bit in a word of the slot's log.
first_word : (host base gfn : ℕ) → host / 64 ≤ (host + (gfn - base)) / 64
first_word host base gfn = omega arith

last_word : (host base pages gfn : ℕ) → host % 64 ≡ 0 → base ≤ gfn → gfn < base + pages → (host + (gfn - base)) / 64 < host / 64 + (pages + 63) / 64
last_word host base pages gfn even from to = omega (arith, even, from, to)

pub page_in_log : (slot : SlotOf) (gfn : ℕ) → slot.host % 64 ≡ 0 → contains gfn slot ≡ true → is_in_log (page_of slot gfn / 64) slot ≡ true
page_in_log slot gfn even holds =
    let from : slot.base ≤ gfn = grind (arith, nat_tests) in
    let to : gfn < slot.base + slot.pages = grind (arith, nat_tests) in
    let first = first_word slot.host slot.base gfn in
    let last = last_word slot.host slot.base slot.pages gfn even from to in
    grind (arith, nat_tests)

-- The manager's word is of no log that has begun, so none of a published slot with a log.
pub armed_apart : (z : Sizes) (v : View) (a word bits : ℕ) → IsPart z v a (part.Arm word bits) → Invariant z v → (id gfn : ℕ) (slot : SlotOf)
    → IsLoggedNow v id slot → contains gfn slot ≡ true → page_of slot gfn / 64 ≢ word
armed_apart z v a word bits S I id gfn slot logged holds e =
    let none = S.needs.of_no_log id (record { slot = slot; logged = true }) has refl in
    let in_log : is_in_log word slot ≡ true = ap (λ w. is_in_log w slot) (sym e) ∙ page_in_log slot gfn even holds in
    cc (none, in_log)
  where
    h : Held
    h = v.hand a

    R : RecordPart (v.words area.Pool) (v.words area.Slots 0) h.slots
    R = I.recorded a S.there S.needs.reads.manager

    has : slot_of_id id h.slots ≡ Some (record { slot = slot; logged = true })
    has = logged_recorded (v.words area.Pool) (v.words area.Slots 0) id h.slots slot R logged

    O : OwnLines z a h
    O = I.lines a S.there

    even : slot.host % 64 ≡ 0
    even = record_is_so (λ s. s.host % 64 ≡ 0) aligned z h.lines h.slots O.allowed O.set id (record { slot = slot; logged = true }) has

-- ---- the words after a step

-- The step is on a word of the log, and changes it.
abbrev pub is_on_log : PartStep → Bool
is_on_log part.Mark = true
is_on_log (part.Take word mask) = true
is_on_log (part.Arm word bits) = true
is_on_log _ = false

pub log_same : (step : PartStep) (own : ℕ) (t : Topics) (note : ℕ) (words : Area → ℕ → ℕ) → is_on_log step ≡ false
    → words_after (part_task step own t note) words area.Log ≡ words area.Log
log_same part.Mark own t note words other = absurd (cc other)
log_same (part.Take word mask) own t note words other = absurd (cc other)
log_same (part.Arm word bits) own t note words other = absurd (cc other)
log_same _ own t note words other = refl

pub touch_leaves_log : (words : Area → ℕ → ℕ) (op : Op) (index : ℕ) → words_after (touch_of op index) words area.Log ≡ words area.Log
touch_leaves_log words Read index = refl
touch_leaves_log words _ index = refl

-- The page that a published slot with a log gives a guest frame stays marked, unless bits are taken.
pub marked_kept : (z : Sizes) (v : View) (a : ℕ) (step : PartStep) (note : ℕ) → IsPart z v a step → takes_bits step ≡ false → Invariant z v
    → (id gfn : ℕ) (slot : SlotOf) → IsLoggedNow v id slot → contains gfn slot ≡ true → is_marked (v.words area.Log) (page_of slot gfn) ≡ true
    → is_marked (words_after (part_task step (own_index (v.hand a)) (v.hand a).topics note) v.words area.Log) (page_of slot gfn) ≡ true
marked_kept z v a part.Mark note S keeps I id gfn slot logged holds marked =
    marked_still (v.words area.Log) (page_owed (v.hand a).topics) (page_of slot gfn) marked
marked_kept z v a (part.Take word mask) note S keeps I id gfn slot logged holds marked = absurd (cc keeps)
marked_kept z v a (part.Arm word bits) note S keeps I id gfn slot logged holds marked =
    ap (has_bit (page_of slot gfn % 64))
    (upd_other (v.words area.Log) word (page_of slot gfn / 64) bits (armed_apart z v a word bits S I id gfn slot logged holds))
    ∙ marked
marked_kept z v a _ note S keeps I id gfn slot logged holds marked = marked

-- A step that isn't one of lines alone changes no word of the log, and marks nothing.
pub idle_off_log : (step : PartStep) → needs_line step ≡ false → is_on_log step ≡ false
idle_off_log part.Mark free = absurd (cc free)
idle_off_log (part.Take word mask) free = absurd (cc free)
idle_off_log (part.Arm word bits) free = absurd (cc free)
idle_off_log _ free = refl

pub idle_no_mark : (step : PartStep) → needs_line step ≡ false → is_mark step ≡ false
idle_no_mark part.Mark free = absurd (cc free)
idle_no_mark _ free = refl
