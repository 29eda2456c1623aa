-- The pages that a line has read of a dirty log, by the words that it has read: they are of guest frames of its slot, which is a published one with a log; and
-- one more word adds those whose bits were set in the log.
use Rattle.std.proofs.Common.{◌≡◌, ◌⊎◌, inl, inr, ◌+◌, ◌-◌, ◌/◌, ◌%◌, ◌≤◌, ◌++◌, ◌∷◌, [], List, ℕ, refl, sym, subst, ap, ◌∙◌, arith, length, bit_and}
use Rattle.std.specs.Option.{option_map}
use Rattle.std.specs.Prelude.{Bool, true, false, Option, Some}
use Rattle.core_views.specs.declared.actor.Actor.TheVariants.{Manager}
use Rattle.core_views.specs.declared.place.LogPlace.{LogPlace}
use Rattle.core_views.specs.declared.sizes.Sizes.{Sizes}
use Rattle.core_views.specs.declared.memory_slot.MemorySlot.{MemorySlot}
use Rattle.core_views.specs.declared.trace.Command.{Command}
use Rattle.core_views.specs.declared.trace.Line.{Line}
use Rattle.core_views.specs.declared.trace.Slot.{Slot as SlotOf}
use Rattle.core_views.specs.Harvests.{slot_at, slot_read}
use Rattle.core_views.specs.Held.{Held}
use Rattle.core_views.specs.LogCommands.{count_asked, first_asked, log_read}
use Rattle.core_views.specs.SlotSets.{slot_of_id}
use Rattle.spte_words.specs.Bits.{has_bit}
use Rattle.spte_words.specs.declared.area.Area.TheVariants as area
use Rattle.part_steps.specs.SlotWords.{page_of}
use Rattle.mmu_core.specs.invariant.Invariant.{Invariant, RecordPart}
use Rattle.mmu_core.specs.forms.log.LogKnows.{IsReading, Reads}
use Rattle.mmu_core.specs.forms.log.LogSteps.{first_word, frame_asked, mask_read, read_more, slot_asked, word_read}
use Rattle.mmu_core.specs.forms.slot_change.SlotTargets.{slot_or_none}
use Rattle.mmu_core.specs.machine.View.{View}
use Rattle.mmu_core.proofs.lines.KnowsKept.{step_knows}
use Rattle.mmu_core.proofs.forms.log.LogNeeds.{ReadsSlot, reads_slot}
use Rattle.mmu_core.proofs.machine.ColumnsTell.{some_is}
use Rattle.mmu_core.proofs.machine.Stepping.{IsStep}
use Rattle.log_invariant.specs.Covered.{is_marked}
use Rattle.log_invariant.specs.forms.log.LogReads.{IsRead}
use Rattle.log_invariant.proofs.HeldLogs.{IsLoggedNow}
use Rattle.log_invariant.proofs.LogBits.{bit_of_both, bit_of_mask}
use Rattle.log_invariant.proofs.forms.log.ReadFrames.{page_bit, page_word, read_was}
use Rattle.log_invariant.proofs.PublishedLogs.{recorded_logged}
use Rattle.log_invariant.proofs.LogRecords.{with_log}
use Rattle.log_invariant.proofs.WordsApart.{live_aligned}
use Rattle.mmu_laws.proofs.forms.log.AskedPages.{bit_within}
use Rattle.mmu_core.proofs.forms.log.ReadingPlaces.{reading_is}
use Rattle.mmu_core.specs.forms.log.Readings.{reading_at}
use Rattle.core_views.specs.declared.place.Place.{Place}

-- ---- the slot

-- The slot whose log the hand's line reads is a published one with a log; its host pages, and the pages for which the line asks, begin with a word.
pub record ReadsLogged (v : View) (command : Command) (h : Held) : Type 0 where
  pub id : ℕ
  pub logged : IsLoggedNow v id (slot_asked h command)
  pub even : (slot_asked h command).host % 64 ≡ 0
  pub whole : first_asked command % 64 ≡ 0
  pub inside : first_asked command + count_asked command (slot_asked h command) ≤ (slot_asked h command).pages

module _ (z : Sizes) (v : View) (a : ℕ) (line : Line) (own_command : Command) (p : Place) (q : LogPlace) (command : Command)
    (at : reading_at p own_command (v.hand a) ≡ Some (record { place = q; command = command })) (S : IsStep z v a line own_command p) (I : Invariant z v)
    (K : Reads command (v.hand a)) where
  abbrev h : Held
  h = v.hand a

  manager : h.state.actor ≡ Manager
  manager = sym S.own ∙ (reading_is p own_command h _ at).managers z line.actor (step_knows z v a line own_command p S I) S.allowed

  record_is : RecordPart (v.words area.Pool) (v.words area.Slots 0) h.slots
  record_is = I.recorded a S.there manager

  found : ReadsSlot (slot_read h.slots command) (first_asked command) (count_asked command (slot_asked h command))
  found = reads_slot command h K

  pub reads_logged : ReadsLogged v command h
  reads_logged =
      let id = some_is (log_read command) K.reads in
      let slot_is : slot_asked h command ≡ found.slot.slot = ap (λ (o : Option MemorySlot). slot_or_none (option_map (λ m. m.slot) o)) found.is in
      let there : slot_of_id id.0 h.slots ≡ Some (with_log true (slot_asked h command)) =
      ap (slot_at h.slots) (sym id.1) ∙ found.is ∙ (λ t. Some (record { slot = sym slot_is t; logged = found.logged t })) in
      let logged = recorded_logged (v.words area.Pool) (v.words area.Slots 0) id.0 h.slots (slot_asked h command) record_is there in
      record {
        id = id.0;
        logged = logged;
        even = live_aligned z v a I S.there manager id.0 (slot_asked h command) logged.live;
        whole = found.whole;
        inside = subst (λ (s : SlotOf). first_asked command + count_asked command (slot_asked h command) ≤ s.pages) (sym slot_is) found.inside;
      }

-- ---- its guest frames

module _ (slot : SlotOf) (command : Command) (gfn : ℕ) (even : slot.host % 64 ≡ 0) (whole : first_asked command % 64 ≡ 0)
    (inside : first_asked command + count_asked command slot ≤ slot.pages) where
  -- the page that it is, counted from the first one for which the line asks
  abbrev asked : ℕ
  asked = gfn - frame_asked slot command 0

  -- What is read with one more word was read before, or its bit is set in this word of the log, and in what the line asks of it.
  pub record IsNewlyRead (log : ℕ → ℕ) (word mask : ℕ) : Type 0 where
    pub here : page_of slot gfn / 64 ≡ word
    pub marked : is_marked log (page_of slot gfn) ≡ true
    pub asked_for : has_bit (page_of slot gfn % 64) mask ≡ true

  word_more : (words : List ℕ) (log : ℕ → ℕ) (word mask : ℕ) → first_word slot command + length words ≡ word
      → IsRead slot command (words ++ bit_and (log word) mask ∷ []) gfn → IsRead slot command words gfn ⊎ IsNewlyRead log word mask
  word_more words log word mask long R = by (read_was slot command words (bit_and (log word) mask) gfn R)
    where
      by : IsRead slot command words gfn ⊎ ((asked / 64 ≡ length words) × (has_bit (asked % 64) (bit_and (log word) mask) ≡ true))
          → IsRead slot command words gfn ⊎ IsNewlyRead log word mask
      by (inl was) = inl was
      by (inr (at, set)) =
          let w = page_word slot command gfn even whole R.from in
          let b = page_bit slot command gfn even whole R.from in
          let here : page_of slot gfn / 64 ≡ word = omega (arith, w, at, long) in
          inr (record {
            here = here;
            marked = ap (λ k. has_bit (page_of slot gfn % 64) (log k)) here ∙ ap (λ i. has_bit i (log word)) b ∙ bit_of_both (log word) mask (asked % 64) set;
            asked_for = ap (λ i. has_bit i mask) b ∙ bit_of_mask (log word) mask (asked % 64) set;
          })

  pub none_read : IsRead slot command [] gfn → ⊥
  none_read R = let some = bit_within [] asked R.bit in omega (arith, some)

-- ---- one more word

-- The word that comes next, and what the line asks of it.
abbrev pub next_word : Bool → Command → Held → ℕ
next_word begun command h = word_read begun (slot_asked h command) command h.topics

abbrev pub next_mask : Bool → Command → Held → ℕ
next_mask begun command h = mask_read (slot_asked h command) command (next_word begun command h)

module _ (v : View) (h : Held) (command : Command) (gfn : ℕ) (L : ReadsLogged v command h) where
  abbrev slot : SlotOf
  slot = slot_asked h command

  abbrev pub IsNew : Bool → Type 0
  IsNew begun = IsNewlyRead slot command gfn L.even L.whole L.inside (v.words area.Log) (next_word begun command h) (next_mask begun command h)

  -- What the line has read with it.
  pub read_now : (begun : Bool) → IsReading begun slot command h
      → IsRead slot command (read_more begun slot command h (v.words area.Log (next_word begun command h))) gfn
      → ((begun ≡ true) × IsRead slot command h.harvest gfn) ⊎ IsNew begun
  read_now true R is =
      let from = R.from refl in
      let read = R.read refl in
      by (word_more slot command gfn L.even L.whole L.inside h.harvest (v.words area.Log) (next_word true command h) (next_mask true command h)
      (omega (arith, from, read)) is)
    where
      by : IsRead slot command h.harvest gfn ⊎ IsNew true → ((true ≡ true) × IsRead slot command h.harvest gfn) ⊎ IsNew true
      by (inl was) = inl (refl, was)
      by (inr new_) = inr new_
  read_now false R is =
      by (word_more slot command gfn L.even L.whole L.inside [] (v.words area.Log) (next_word false command h) (next_mask false command h) (omega arith) is)
    where
      by : IsRead slot command [] gfn ⊎ IsNew false → ((false ≡ true) × IsRead slot command h.harvest gfn) ⊎ IsNew false
      by (inl was) = absurd (none_read slot command gfn L.even L.whole L.inside was)
      by (inr new_) = inr new_
