-- A line that reads a dirty log and takes out what it reads: a page of a published log that its step clears is one that it has read then.
use Rattle.std.proofs.Common.{◌≡◌, ◌≢◌, ◌⊎◌, inl, inr, ◌+◌, ◌-◌, ◌*◌, ◌/◌, ◌%◌, ◌<◌, ◌≤◌, ℕ, List, [], length, refl, sym, subst, ap, ◌∙◌, arith}
use Rattle.std.proofs.lemmas.Bool.Decides.{nat_tests}
use Rattle.std.specs.Prelude.{Bool, true, false, Option, Some, None, if◌then◌else◌, option_map}
use Rattle.core_views.specs.declared.actor.Actor.TheVariants.{Manager}
use Rattle.core_views.specs.declared.place.LogPlace.TheVariants as log
use Rattle.core_views.specs.declared.place.Place.{Place}
use Rattle.core_views.specs.declared.sizes.Sizes.{Sizes}
use Rattle.core_views.specs.declared.memory_slot.MemorySlot.{MemorySlot}
use Rattle.core_views.specs.declared.trace.Command.{Command}
use Rattle.core_views.specs.declared.trace.Line.{Line}
use Rattle.core_views.specs.declared.trace.Slot.{Slot as SlotOf}
use Rattle.core_views.specs.Harvests.{slot_at as slot_named, slot_read}
use Rattle.core_views.specs.Held.{Held}
use Rattle.core_views.specs.LogCommands.{count_asked, first_asked, log_read, low_bits, word_given}
use Rattle.core_views.specs.Slots.{contains}
use Rattle.spte_words.specs.Bits.{has_bit}
use Rattle.spte_words.specs.declared.area.Area.TheVariants as area
use Rattle.part_steps.specs.PartTasks.{own_index, part_task}
use Rattle.part_steps.specs.SlotWords.{page_of, slot_at}
use Rattle.mmu_core.specs.invariant.Invariant.{Invariant, RecordPart}
use Rattle.mmu_core.specs.forms.slot_change.ArmKnows.{IsInLog}
use Rattle.mmu_core.specs.forms.log.LogKnows.{IsReading, LogKnows}
use Rattle.mmu_core.specs.forms.log.LogSteps.{first_word, frame_asked, mask_read, read_more, slot_asked, word_read}
use Rattle.mmu_core.specs.forms.slot_change.SlotTargets.{slot_or_none}
use Rattle.mmu_core.specs.machine.View.{View, answer_in, hand_after, stepped, words_after}
use Rattle.mmu_core.proofs.lines.KnowsKept.{step_knows}
use Rattle.mmu_core.proofs.forms.log.ReadingPlaces.{GoesOnReading, IsOfReading, reading_goes, reading_is}
use Rattle.mmu_core.specs.forms.log.Readings.{Reading, reading_at}
use Rattle.mmu_core.specs.forms.access.AccessSteps.{task_by}
use Rattle.mmu_core.specs.lines.Forms.{note_at, outcome_at}
use Rattle.mmu_core.specs.lines.PartAt.{task_at, touch_at}
use Rattle.mmu_core.specs.machine.Outcomes.{place_after}
use Rattle.part_steps.specs.declared.part_step.PartStep.{PartStep}
use Rattle.part_steps.specs.declared.part_step.PartStep.TheVariants as part
use Rattle.part_steps.specs.declared.task.Task.{Task}
use Rattle.mmu_core.proofs.forms.log.LogNeeds.{ReadsSlot, mask_small, reads_slot}
use Rattle.mmu_core.proofs.machine.Columns.{same_or}
use Rattle.mmu_core.proofs.machine.Stepping.{IsStep}
use Rattle.log_invariant.specs.Covered.{is_marked}
use Rattle.log_invariant.specs.forms.log.LogReads.{HasTakenOut, IsRead, taken_at, taken_of}
use Rattle.log_invariant.proofs.forms.log.LogExcuse.{at_hand}
use Rattle.log_invariant.proofs.forms.log.ReadingExcuses.{TakesOn, takes_on}
use Rattle.log_invariant.proofs.ArmBits.{word_within}
use Rattle.log_invariant.proofs.HeldLogs.{IsLoggedNow}
use Rattle.log_invariant.proofs.LogBits.{bit_of_mask, both_bits, left_or_taken, low_bit_below}
use Rattle.log_invariant.proofs.LogWords.{page_in_log}
use Rattle.log_invariant.proofs.PublishedLogs.{recorded_logged}
use Rattle.log_invariant.proofs.forms.log.ReadFrames.{newly_read, page_bit, page_word}
use Rattle.log_invariant.proofs.WordsApart.{live_aligned, words_apart}

-- ---- numbers

-- The guest frame's page has its bit in a word from the first one on that is asked for: so the frame is from the first one on.
frame_from : (host base first gfn word : ℕ) → host % 64 ≡ 0 → first % 64 ≡ 0 → base ≤ gfn → (host + (gfn - base)) / 64 ≡ word
    → host / 64 + first / 64 ≤ word → base + (first + 0) ≤ gfn
frame_from host base first gfn word even whole from is low = omega (arith, even, whole, from, is, low)

-- The words that are asked for are words of the slot's log.
asked_within : (host pages first count word : ℕ) → first % 64 ≡ 0 → first + count ≤ pages → word < host / 64 + first / 64 + (count + 63) / 64
    → word < host / 64 + (pages + 63) / 64
asked_within host pages first count word whole inside lt = omega (arith, whole, inside, lt)

-- The bit is one of so many.
frame_below : (base first count bit k gfn : ℕ) → gfn - (base + (first + 0)) ≡ bit → base + (first + 0) ≤ gfn → bit / 64 ≡ k → bit % 64 < count - 64 * k
    → gfn < base + (first + count)
frame_below base first count bit k gfn is from word low = omega (arith, is, from, word, low)

-- ---- the step

module _ (z : Sizes) (v : View) (a : ℕ) (line : Line) (own_command : Command) (p : Place) (command : Command) (begun : Bool)
    (at : reading_at p own_command (v.hand a) ≡ Some (record { place = log.Take begun; command = command })) (S : IsStep z v a line own_command p)
    (I : Invariant z v) where
  abbrev h : Held
  h = v.hand a

  -- the slot whose log is read, what was read of it, and the word that comes next
  abbrev slot : SlotOf
  slot = slot_asked h command

  abbrev words : List ℕ
  words = if begun then h.harvest else []

  abbrev word : ℕ
  word = word_read begun slot command h.topics

  abbrev before : ℕ → ℕ
  before = v.words area.Log

  abbrev after : ℕ → ℕ
  after = (stepped a line own_command p v).words area.Log

  there : IsOfReading p own_command h (record { place = log.Take begun; command = command })
  there = reading_is p own_command h _ at

  K : LogKnows (log.Take begun) command h
  K = there.knows (step_knows z v a line own_command p S I)

  task_is : task_at p own_command h ≡ part_task (part.Take word (mask_read slot command word)) (own_index h) h.topics (note_at p own_command h)
  task_is = ap (λ (s : Option PartStep). task_by s h (note_at p own_command h) (touch_at own_command h)) there.part

  -- what it finds in the word
  abbrev found : ℕ
  found = answer_in (task_at p own_command h) v.words

  found_is : found ≡ before word
  found_is = ap (λ (task : Task). answer_in task v.words) task_is

  manager : h.state.actor ≡ Manager
  manager = sym S.own ∙ there.managers z line.actor (step_knows z v a line own_command p S I) S.allowed

  asked : ReadsSlot (slot_read h.slots command) (first_asked command) (count_asked command slot)
  asked = reads_slot command h K.2.0

  slot_is : slot ≡ asked.slot.slot
  slot_is = ap (λ (o : Option MemorySlot). slot_or_none (option_map (λ m. m.slot) o)) asked.is

  inside : first_asked command + count_asked command slot ≤ slot.pages
  inside = subst (λ (s : SlotOf). first_asked command + count_asked command slot ≤ s.pages) (sym slot_is) asked.inside

  -- The slot has its log in the published set.
  pub read_logged : (id : ℕ) × IsLoggedNow v id slot
  read_logged = by (log_read command) asked.is
    where
      R : RecordPart (v.words area.Pool) (v.words area.Slots 0) h.slots
      R = I.recorded a S.there manager

      by : (o : Option ℕ) → slot_named h.slots o ≡ Some asked.slot → (id : ℕ) × IsLoggedNow v id slot
      by None is = absurd (cc is)
      by (Some id) is = (
        id,
        subst (λ s. IsLoggedNow v id s) (sym slot_is)
            (recorded_logged (v.words area.Pool) (v.words area.Slots 0) id h.slots asked.slot.slot R
            (is ∙ (λ t. Some (record { slot = asked.slot.slot; logged = asked.logged t })))),
      )

  even : (id : ℕ) (s : SlotOf) → IsLoggedNow v id s → s.host % 64 ≡ 0
  even id s logged = live_aligned z v a I S.there manager id s logged.live

  -- The word is one of those that are asked for, after those that were read.
  from_first : first_word slot command ≤ word
  from_first = by begun K.3
    where
      by : (b : Bool) → IsReading b slot command h → first_word slot command ≤ word_read b slot command h.topics
      by true R = R.from refl
      by false R = omega arith

  so_many : length words ≡ word - first_word slot command
  so_many = by begun K.3
    where
      by : (b : Bool) → IsReading b slot command h
          → length (if b then h.harvest else []) ≡ word_read b slot command h.topics - first_word slot command
      by true R = R.read refl
      by false R = omega arith

  in_log : IsInLog slot word
  in_log =
      let from = from_first in
      (omega (arith, from), asked_within slot.host slot.pages (first_asked command) (count_asked command slot) word asked.whole inside K.3.left)

  -- ---- what it clears

  -- A page whose bit is among those for which it asks in this word is read with it.
  asked_read : (gfn : ℕ) → contains gfn slot ≡ true → page_of slot gfn / 64 ≡ word → has_bit (page_of slot gfn % 64) (mask_read slot command word) ≡ true
      → is_marked before (page_of slot gfn) ≡ true → IsRead slot command (read_more begun slot command h (before word)) gfn
  asked_read gfn holds here masked marked =
      newly_read slot command words _ gfn (word - first_word slot command) so_many from
      (frame_below slot.base (first_asked command) (count_asked command slot) bit (word - first_word slot command) gfn refl from in_word
      (low_bit_below (count_asked command slot - 64 * (word - first_word slot command)) (bit % 64) (omega arith)
      (bit_of_mask (word_given command (word - first_word slot command)) (low_bits (count_asked command slot - 64 * (word - first_word slot command)))
      (bit % 64) mask)))
      in_word (both_bits (before word) (mask_read slot command word) (bit % 64) set mask)
    where
      bit : ℕ
      bit = gfn - frame_asked slot command 0

      aligned : slot.host % 64 ≡ 0
      aligned = even read_logged.0 slot read_logged.1

      least : slot.base ≤ gfn
      least = grind (arith, nat_tests)

      from : frame_asked slot command 0 ≤ gfn
      from = frame_from slot.host slot.base (first_asked command) gfn word aligned asked.whole least here from_first

      in_word : bit / 64 ≡ word - first_word slot command
      in_word = let at = page_word slot command gfn aligned asked.whole from in omega (arith, at, here)

      place_in : page_of slot gfn % 64 ≡ bit % 64
      place_in = page_bit slot command gfn aligned asked.whole from

      mask : has_bit (bit % 64) (mask_read slot command word) ≡ true
      mask = ap (λ i. has_bit i (mask_read slot command word)) (sym place_in) ∙ masked

      set : has_bit (bit % 64) (before word) ≡ true
      set = ap (λ i. has_bit i (before word)) (sym place_in) ∙ ap (λ w. has_bit (page_of slot gfn % 64) (before w)) (sym here) ∙ marked

  -- A page of a published log stays marked, or is read.
  pub left_or_read : (id gfn : ℕ) (s : SlotOf) → IsLoggedNow v id s → contains gfn s ≡ true → is_marked before (page_of s gfn) ≡ true
      → (is_marked after (page_of s gfn) ≡ true) ⊎ IsRead slot command (read_more begun slot command h found) gfn
  left_or_read id gfn s logged holds marked =
      by (subst (λ (task : Task). (is_marked (words_after task v.words area.Log) (page_of s gfn) ≡ true)
      ⊎ ((page_of s gfn / 64 ≡ word) × (has_bit (page_of s gfn % 64) (mask_read slot command word) ≡ true))) (sym task_is)
      (left_or_taken (own_index h) h.topics (note_at p own_command h) v.words word (mask_read slot command word) (page_of s gfn) (mask_small command slot _)
      marked))
    where
      Read : Type 0
      Read = IsRead slot command (read_more begun slot command h found) gfn

      one : page_of s gfn / 64 ≡ word → (id ≡ read_logged.0) ⊎ (id ≢ read_logged.0) → s ≡ slot
      one here (inl same) = sym logged.live.is ∙ ap (slot_at (v.words area.Pool) (v.words area.Slots 0)) same ∙ read_logged.1.live.is
      one here (inr apart) =
          absurd (words_apart z v a I S.there manager id read_logged.0 s slot apart logged.live read_logged.1.live word
          (subst (IsInLog s) here (word_within (page_of s gfn / 64) s (page_in_log s gfn (even id s logged) holds))) in_log)

      by : (is_marked after (page_of s gfn) ≡ true) ⊎ ((page_of s gfn / 64 ≡ word) × (has_bit (page_of s gfn % 64) (mask_read slot command word) ≡ true))
          → (is_marked after (page_of s gfn) ≡ true) ⊎ IsRead slot command (read_more begun slot command h found) gfn
      by (inl still) = inl still
      by (inr cleared) =
          let same : s ≡ slot = one cleared.0 (same_or id read_logged.0) in
          inr (subst (λ y. IsRead slot command (read_more begun slot command h y) gfn) (sym found_is) (asked_read gfn (ap (contains gfn) (sym same) ∙ holds)
          (ap (λ (k : SlotOf). page_of k gfn / 64) (sym same) ∙ cleared.0)
          (ap (λ (k : SlotOf). has_bit (page_of k gfn % 64) (mask_read slot command word)) (sym same) ∙ cleared.1)
          (ap (λ (k : SlotOf). is_marked before (page_of k gfn)) (sym same) ∙ marked)))

-- What it has read then it has taken.
pub read_taken : (line : Line) (own_command : Command) (p : Place) (h : Held) (x : ℕ) (command : Command) (begun : Bool)
    → reading_at p own_command h ≡ Some (record { place = log.Take begun; command = command }) → (gfn : ℕ)
    → IsRead (slot_asked h command) command (read_more begun (slot_asked h command) command h x) gfn → line.command ≡ own_command
    → HasTakenOut (hand_after line own_command p h x) gfn
read_taken line own_command p h x command begun at gfn R said =
    subst (λ c. (taken_at (place_after (outcome_at p own_command h x)) c g).Has gfn) (sym said)
    (subst (λ (o : Option Reading). (taken_of o g).Has gfn) (sym (goes.stands g)) (
      T.taken,
      at_hand g h.slots (read_more begun (slot_asked h command) command h x) (reading_is p own_command h _ at).slots goes.reads
          (λ y. IsRead (slot_asked y command) command y.harvest gfn) R,
    ))
  where
    g : Held
    g = hand_after line own_command p h x

    T : TakesOn (log.Take begun) command h x
    T = takes_on (log.Take begun) command h x refl

    goes : GoesOnReading p own_command h x (record { place = log.Take begun; command = command }) T.to
    goes = reading_goes p own_command h x _ T.to at T.goes
