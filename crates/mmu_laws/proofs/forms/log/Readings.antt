-- What a line that reads a dirty log has read of it so far: what it must not leave out is read, or its word is yet to come; and what it has read has a cause.
use Rattle.std.proofs.lemmas.Bool.{eq-eqb, eqb-true}
use Rattle.std.proofs.Common.{◌≡◌, ◌≢◌, ◌⊎◌, inl, inr, ◌+◌, ◌-◌, ◌/◌, ◌%◌, ◌<◌, ◌≤◌, ◌++◌, ◌==◌, ℕ, Bool, true, false, arith, length}
use Rattle.std.proofs.Common.{ap, refl, subst, sym, ◌∙◌}
use Rattle.std.specs.Int.{bit_at}
use Rattle.std.specs.Int.Bits.{bit_and}
use Rattle.std.specs.Prelude.{List, [], ◌∷◌, Some, is_some}
use Rattle.core_views.specs.declared.memory_slot.MemorySlot.{MemorySlot}
use Rattle.core_views.specs.declared.trace.Command.{Command}
use Rattle.core_views.specs.declared.trace.Slot.{Slot as SlotOf}
use Rattle.core_views.specs.Flat.{Facts}
use Rattle.core_views.specs.Harvests.{IsHarvest}
use Rattle.core_views.specs.LogCommands.{asks_for, count_asked, first_asked, log_read, mask_asked}
use Rattle.core_views.specs.Past.{Past}
use Rattle.core_views.specs.Slots.{contains}
use Rattle.core_views.specs.SlotSets.{slot_of_id}
use Rattle.spte_words.specs.Bits.{has_bit}
use Rattle.part_steps.specs.SlotWords.{page_of}
use Rattle.mmu_core.specs.forms.log.LogKnows.{AreAsked}
use Rattle.mmu_core.specs.forms.log.LogSteps.{first_word, frame_asked, frames_read, mask_read, word_end}
use Rattle.mmu_core.proofs.machine.Columns.{same_or}
use Rattle.log_invariant.specs.Covered.{is_marked}
use Rattle.log_invariant.specs.forms.log.LogReads.{IsRead}
use Rattle.log_invariant.proofs.LogBits.{bit_of_both, bit_of_mask, both_bits}
use Rattle.log_invariant.proofs.forms.log.ReadFrames.{newly_read, read_still, read_was}
use Rattle.mmu_laws.specs.forms.log.ReadSoFar.{HasReadTo}
use Rattle.mmu_laws.proofs.forms.log.AskedPages.{IsAskedFrame, IsReadPage, asked_frame, bit_is_at, bit_within, frame_inside, mask_has}
use Rattle.mmu_laws.proofs.forms.log.AskedPages.{read_asked, read_inside, read_page}
use Rattle.mmu_laws.proofs.forms.log.HarvestFrames.{among_read, frames_rise, read_among}

-- ---- the words and the slot

-- The slot and what is asked of it begin with a word of the log, and the pages asked for are the slot's.
pub record IsWhole (slot : SlotOf) (command : Command) : Type 0 where
  pub reads : is_some (log_read command) ≡ true
  pub even : slot.host % 64 ≡ 0
  pub whole : first_asked command % 64 ≡ 0
  pub inside : first_asked command + count_asked command slot ≤ slot.pages

module _ (slot : SlotOf) (command : Command) (W : IsWhole slot command) where
  -- The word of a frame's page.
  frame_word : (gfn page : ℕ) → gfn ≡ frame_asked slot command page → page_of slot gfn / 64 ≡ first_word slot command + page / 64
  frame_word gfn page is = ap (λ g. page_of slot g / 64) is ∙ (bit_is_at slot command page W.even W.whole).word

  frame_bit : (gfn page : ℕ) → gfn ≡ frame_asked slot command page → page_of slot gfn % 64 ≡ page % 64
  frame_bit gfn page is = ap (λ g. page_of slot g % 64) is ∙ (bit_is_at slot command page W.even W.whole).bit

  -- The word of a frame for which the line asks is one of those that it reads.
  pub asked_from : (gfn : ℕ) → contains gfn slot ≡ true → asks_for command (gfn - slot.base) ≡ true → first_word slot command ≤ page_of slot gfn / 64
  asked_from gfn has asks =
      let A = asked_frame slot command gfn has asks in
      let at = frame_word gfn A.page A.is in
      omega (arith, at)

  asked_below : (gfn : ℕ) → contains gfn slot ≡ true → asks_for command (gfn - slot.base) ≡ true → page_of slot gfn / 64 < word_end slot command
  asked_below gfn has asks =
      let A = asked_frame slot command gfn has asks in
      let at = frame_word gfn A.page A.is in
      let low = A.asked.low in
      omega (arith, at, low)

  -- ---- a word is read

  -- The bits for which it asks are read of this word; and where they are taken out, they are cleared. No other word changes.
  pub record ReadsWord (log after : ℕ → ℕ) (out : Bool) (to : ℕ) : Type 0 where
    pub others : (page : ℕ) → page / 64 ≢ to → is_marked after page ≡ is_marked log page
    pub cleared : out ≡ true → (page : ℕ) → page / 64 ≡ to → bit_at (mask_read slot command to) (page % 64) ≡ 1 → is_marked after page ≡ false

  module _ (log after : ℕ → ℕ) (out : Bool) (words : List ℕ) (to : ℕ) (past : Past) (count : to ≡ first_word slot command + length words)
      (H : HasReadTo log slot command out words to past) (D : ReadsWord log after out to)
      (caused : (gfn : ℕ) → contains gfn slot ≡ true → is_marked log (page_of slot gfn) ≡ true → past.causes gfn ≡ true) where
    abbrev mask : ℕ
    mask = mask_read slot command to

    abbrev now_ : ℕ
    now_ = bit_and (log to) mask

    -- A page that is marked, and for which it asks, is read with its word.
    new_read : (gfn : ℕ) → contains gfn slot ≡ true → asks_for command (gfn - slot.base) ≡ true → is_marked log (page_of slot gfn) ≡ true
        → page_of slot gfn / 64 ≡ to → IsRead slot command (words ++ now_ ∷ []) gfn
    new_read gfn has asks marked here =
        newly_read slot command words now_ gfn (length words) refl (let is = A.is in omega (arith, is))
        (let is = A.is in let low = A.asked.low in omega (arith, is, low)) place_is
        (both_bits (log to) mask bit set (eq-eqb _ 1 masked))
      where
        A : IsAskedFrame slot command gfn
        A = asked_frame slot command gfn has asks

        same : gfn - frame_asked slot command 0 ≡ A.page
        same = let is = A.is in omega (arith, is)

        place_is : (gfn - frame_asked slot command 0) / 64 ≡ length words
        place_is = let at = frame_word gfn A.page A.is in ap (λ n. n / 64) same ∙ omega (arith, at, here, count)

        bit : ℕ
        bit = (gfn - frame_asked slot command 0) % 64

        set : has_bit bit (log to) ≡ true
        set =
            ap (λ k. has_bit (k % 64) (log to)) same ∙ ap (λ k. has_bit k (log to)) (sym (frame_bit gfn A.page A.is))
            ∙ ap (λ k. has_bit (page_of slot gfn % 64) (log k)) (sym here) ∙ marked

        masked : bit_at mask bit ≡ 1
        masked =
            ap (λ k. bit_at mask (k % 64)) same
            ∙ ap (λ k. bit_at (mask_asked command slot k) (A.page % 64)) (let at = frame_word gfn A.page A.is in omega (arith, at, here))
            ∙ mask_has slot command A.page A.asked

    -- What is read then and wasn't before is marked in this word.
    new_bit : (gfn : ℕ) → IsRead slot command (words ++ now_ ∷ []) gfn
        → IsRead slot command words gfn
        ⊎ ((page_of slot gfn / 64 ≡ to) × (is_marked log (page_of slot gfn) ≡ true) × (bit_at mask (page_of slot gfn % 64) ≡ 1))
    new_bit gfn R = by (read_was slot command words now_ gfn R)
      where
        Q : IsReadPage slot command (words ++ now_ ∷ []) gfn
        Q = read_page slot command (words ++ now_ ∷ []) gfn R

        same : gfn - frame_asked slot command 0 ≡ Q.page
        same = let is = Q.is in omega (arith, is)

        by : IsRead slot command words gfn
            ⊎ (((gfn - frame_asked slot command 0) / 64 ≡ length words) × ((bit_at now_ ((gfn - frame_asked slot command 0) % 64) == 1) ≡ true))
            → IsRead slot command words gfn
            ⊎ ((page_of slot gfn / 64 ≡ to) × (is_marked log (page_of slot gfn) ≡ true) × (bit_at mask (page_of slot gfn % 64) ≡ 1))
        by (inl was) = inl was
        by (inr (at, set)) =
            let bit : ℕ = page_of slot gfn % 64 in
            let word : page_of slot gfn / 64 ≡ to =
            frame_word gfn Q.page Q.is ∙ ap (λ n. first_word slot command + n / 64) (sym same) ∙ ap (λ n. first_word slot command + n) at ∙ sym count in
            let bits : has_bit bit now_ ≡ true =
            ap (λ k. has_bit k now_) (frame_bit gfn Q.page Q.is ∙ ap (λ n. n % 64) (sym same)) ∙ set in
            inr (word, ap (λ k. has_bit bit (log k)) word ∙ bit_of_both (log to) mask bit bits, eqb-true _ 1 (bit_of_mask (log to) mask bit bits))

    -- What is read then.
    pub word_is_read : HasReadTo after slot command out (words ++ now_ ∷ []) (to + 1) past
    word_is_read = record {
      due = λ gfn has asks due. by_due gfn has asks (H.due gfn has asks due);
      caused = λ gfn R. by_caused gfn R (new_bit gfn R);
      recent = λ takes gfn R marked. by_recent takes gfn marked (new_bit gfn R);
    }
      where
        by_due : (gfn : ℕ) → contains gfn slot ≡ true → asks_for command (gfn - slot.base) ≡ true
            → IsRead slot command words gfn ⊎ ((is_marked log (page_of slot gfn) ≡ true) × (to ≤ page_of slot gfn / 64))
            → IsRead slot command (words ++ now_ ∷ []) gfn ⊎ ((is_marked after (page_of slot gfn) ≡ true) × (to + 1 ≤ page_of slot gfn / 64))
        by_due gfn has asks (inl was) = inl (read_still slot command words now_ gfn was)
        by_due gfn has asks (inr (marked, later)) = either (same_or (page_of slot gfn / 64) to)
          where
            either : (page_of slot gfn / 64 ≡ to) ⊎ (page_of slot gfn / 64 ≢ to)
                → IsRead slot command (words ++ now_ ∷ []) gfn ⊎ ((is_marked after (page_of slot gfn) ≡ true) × (to + 1 ≤ page_of slot gfn / 64))
            either (inl here) = inl (new_read gfn has asks marked here)
            either (inr apart) = inr (D.others (page_of slot gfn) apart ∙ marked, omega (arith, later, apart))

        by_caused : (gfn : ℕ) → IsRead slot command (words ++ now_ ∷ []) gfn → IsRead slot command words gfn
            ⊎ ((page_of slot gfn / 64 ≡ to) × (is_marked log (page_of slot gfn) ≡ true) × (bit_at mask (page_of slot gfn % 64) ≡ 1))
            → past.causes gfn ≡ true
        by_caused gfn R (inl was) = H.caused gfn was
        by_caused gfn R (inr new_) = caused gfn (read_inside slot command (words ++ now_ ∷ []) gfn W.inside R) new_.1

        by_recent : out ≡ true → (gfn : ℕ) → is_marked after (page_of slot gfn) ≡ true → IsRead slot command words gfn
            ⊎ ((page_of slot gfn / 64 ≡ to) × (is_marked log (page_of slot gfn) ≡ true) × (bit_at mask (page_of slot gfn % 64) ≡ 1))
            → past.recent gfn ≡ true
        by_recent takes gfn marked (inl was) =
            let Q = read_page slot command words gfn was in
            let low = bit_within words Q.page Q.bit in
            let at = frame_word gfn Q.page Q.is in
            H.recent takes gfn was (sym (D.others (page_of slot gfn) (omega (arith, low, at, count))) ∙ marked)
        by_recent takes gfn marked (inr new_) =
            let none = D.cleared takes (page_of slot gfn) new_.0 new_.2 in absurd (cc (none, marked))

  -- ---- all words are read

  -- Then the frames that they say are what may be read.
  pub may_harvest : (log : ℕ → ℕ) (out : Bool) (words : List ℕ) (past : Past) (f : Facts) (id : ℕ) (m : MemorySlot) → m.slot ≡ slot
      → slot_of_id id f.slots ≡ Some m → AreAsked slot command words → HasReadTo log slot command out words (word_end slot command) past
      → IsHarvest f past command id (frames_read slot command words)
  may_harvest log out words past f id m same there asked H = record {
    slot = m;
    there = there;
    rising = frames_rise slot command words;
    asked = λ gfn among.
        subst (λ s. (contains gfn s ≡ true) × (asks_for command (gfn - s.base) ≡ true)) (sym same) (by_asked gfn (among_read slot command words gfn among));
    complete = λ gfn has asks due. read_among slot command words gfn
        (by_due gfn (subst (λ s. contains gfn s ≡ true) same has) (subst (λ s. asks_for command (gfn - s.base) ≡ true) same asks) due);
    caused = λ gfn among. H.caused gfn (among_read slot command words gfn among);
  }
    where
      by_asked : (gfn : ℕ) → IsRead slot command words gfn → (contains gfn slot ≡ true) × (asks_for command (gfn - slot.base) ≡ true)
      by_asked gfn R =
          let Q = read_page slot command words gfn R in
          subst (λ g. (contains g slot ≡ true) × (asks_for command (g - slot.base) ≡ true)) (sym Q.is)
          (frame_inside slot command Q.page W.inside (read_asked slot command words Q.page W.reads asked Q.bit))

      by_due : (gfn : ℕ) → contains gfn slot ≡ true → asks_for command (gfn - slot.base) ≡ true → past.due gfn ≡ true → IsRead slot command words gfn
      by_due gfn has asks due = by (H.due gfn has asks due)
        where
          by : IsRead slot command words gfn ⊎ ((is_marked log (page_of slot gfn) ≡ true) × (word_end slot command ≤ page_of slot gfn / 64))
              → IsRead slot command words gfn
          by (inl R) = R
          by (inr (marked, later)) = let below = asked_below gfn has asks in absurd (omega (arith, later, below))

  -- ---- what others do

  -- Where no bit of the slot is cleared, and each that is set anew is of a frame that was written, it has read what it had.
  pub still_read : (log after : ℕ → ℕ) (out : Bool) (words : List ℕ) (to : ℕ) (past : Past)
      → ((gfn : ℕ) → contains gfn slot ≡ true → is_marked log (page_of slot gfn) ≡ true → is_marked after (page_of slot gfn) ≡ true)
      → ((gfn : ℕ) → contains gfn slot ≡ true → is_marked after (page_of slot gfn) ≡ true
      → (is_marked log (page_of slot gfn) ≡ true) ⊎ (past.recent gfn ≡ true))
      → HasReadTo log slot command out words to past → HasReadTo after slot command out words to past
  still_read log after out words to past stays was H = record {
    due = λ gfn has asks due. by_due gfn has (H.due gfn has asks due);
    caused = H.caused;
    recent = λ takes gfn R marked. by_recent takes gfn R (was gfn (read_inside slot command words gfn W.inside R) marked);
  }
    where
      by_due : (gfn : ℕ) → contains gfn slot ≡ true
          → IsRead slot command words gfn ⊎ ((is_marked log (page_of slot gfn) ≡ true) × (to ≤ page_of slot gfn / 64))
          → IsRead slot command words gfn ⊎ ((is_marked after (page_of slot gfn) ≡ true) × (to ≤ page_of slot gfn / 64))
      by_due gfn has (inl R) = inl R
      by_due gfn has (inr (marked, later)) = inr (stays gfn has marked, later)

      by_recent : out ≡ true → (gfn : ℕ) → IsRead slot command words gfn → (is_marked log (page_of slot gfn) ≡ true) ⊎ (past.recent gfn ≡ true)
          → past.recent gfn ≡ true
      by_recent takes gfn R (inl had) = H.recent takes gfn R had
      by_recent takes gfn R (inr lately) = lately

-- No frame is read before the first word.
pub none_read : (slot : SlotOf) (command : Command) (gfn : ℕ) → IsRead slot command [] gfn → ⊥
none_read slot command gfn R =
    let Q = read_page slot command [] gfn R in let low = bit_within [] Q.page Q.bit in omega (arith, low)

-- The past may say less that must not be left out, and more that was written, or has a cause.
pub read_by : (log : ℕ → ℕ) (slot : SlotOf) (command : Command) (out : Bool) (words : List ℕ) (to : ℕ) (past next : Past)
    → ((gfn : ℕ) → next.due gfn ≡ true → past.due gfn ≡ true) → ((gfn : ℕ) → past.causes gfn ≡ true → next.causes gfn ≡ true)
    → ((gfn : ℕ) → past.recent gfn ≡ true → next.recent gfn ≡ true) → HasReadTo log slot command out words to past
    → HasReadTo log slot command out words to next
read_by log slot command out words to past next due causes recent H = record {
  due = λ gfn has asks is. H.due gfn has asks (due gfn is);
  caused = λ gfn R. causes gfn (H.caused gfn R);
  recent = λ takes gfn R marked. recent gfn (H.recent takes gfn R marked);
}
