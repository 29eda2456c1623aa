-- The page of a slot set that is filled: which slots are live in it, and that it has those of the published one, with one put at its ID or taken away.
use Rattle.std.proofs.Common.{◌≡◌, ◌≢◌, ◌⊎◌, inl, inr, ◌<◌, ◌≤◌, ◌+◌, ◌*◌, ◌/◌, ◌%◌, ℕ, zero, suc, [], ◌∷◌, ◌++◌, refl, sym, ap, ◌∙◌, arith}
use Rattle.std.proofs.lemmas.Bool.Decides.{nat_tests}
use Rattle.std.specs.Prelude.{Bool, true, false, ◌==◌, nat_le, if◌then◌else◌, Option, Some, None}
use Rattle.std.specs.Option.{option_map}
use Rattle.core_views.specs.declared.place.SlotField.{SlotField}
use Rattle.core_views.specs.declared.place.SlotField.TheVariants as field
use Rattle.core_views.specs.declared.memory_slot.MemorySlot.{MemorySlot}
use Rattle.core_views.specs.declared.topics.Topics.{Topics}
use Rattle.core_views.specs.declared.trace.Slot.{Slot}
use Rattle.core_views.proofs.SlotLines.{taken_at}
use Rattle.core_views.specs.declared.trace.Command.TheVariants.{SetLog}
use Rattle.core_views.specs.Refusals.{after_set, is_logged}
use Rattle.core_views.specs.SlotCommands.{slots_after}
use Rattle.core_views.proofs.SlotLines.{log_elsewhere}
use Rattle.core_views.specs.SlotSets.{MemorySlots, slot_of_id as recorded_at, with_slot_at, without_slot_at}
use Rattle.spte_words.specs.Areas.{pool_index}
use Rattle.spte_words.specs.Flags.{flags_live, flags_logged, flags_read_only}
use Rattle.spte_words.proofs.ReadsFlags.{flags_are_live, flags_are_logged, flags_are_read_only}
use Rattle.mmu_core.specs.invariant.Invariant.{IsLiveIn, RecordPart}
use Rattle.part_steps.specs.PartTasks.{page_owned}
use Rattle.part_steps.specs.SetHoldings.{OwnsSet}
use Rattle.mmu_core.proofs.pages.Owned.{set_owned}
use Rattle.part_steps.specs.SetWords.{IsFilledWith, set_word, word_of_slot}
use Rattle.part_steps.specs.SlotWords.{field_number, live_at, memory_slot_at, memory_slots_below, slot_at, slot_index}
use Rattle.mmu_core.proofs.machine.Columns.{same_or}
use Rattle.mmu_core.proofs.machine.PartStepping.{AreAlikeBut}
use Rattle.part_steps.proofs.SetWords.{set_at}
use Rattle.mmu_core.proofs.words.SlotFields.{is_number, same_slot}
use Rattle.mmu_core.proofs.words.SlotLists.{one_gone_live, one_put_live}

-- ---- The record has a slot where the published set has it live.

-- where an ID isn't that of the last slot of a list, or the slot there isn't live
not_last : (n id : ℕ) (m : MemorySlot) (xs : MemorySlots) (b : Bool) → n ≢ id → recorded_at id (xs ++ (if b then (n, m) ∷ [] else [])) ≡ recorded_at id xs
not_last n id m [] true apart = grind (arith, nat_tests)
not_last n id m [] false apart = refl
not_last n id m (x ∷ xs) b apart = ap (λ (rest : Option MemorySlot). if x.0 == id then Some x.1 else rest) (not_last n id m xs b apart)

-- the slot with an ID, of those that are live
abbrev live_slot : (ℕ → ℕ) → ℕ → ℕ → Option MemorySlot
live_slot pool set id = if live_at pool set id then Some (memory_slot_at pool set id) else None

none_from : (pool : ℕ → ℕ) (set n id : ℕ) → n ≤ id → recorded_at id (memory_slots_below pool set n) ≡ None
none_from pool set zero id le = refl
none_from pool set (suc n) id le =
    not_last n id (memory_slot_at pool set n) (memory_slots_below pool set n) (live_at pool set n) (λ e. absurd (omega arith))
    ∙ none_from pool set n id (omega arith)

-- the last slot of a list, where the others have other IDs
is_last : (id : ℕ) (m : MemorySlot) (xs : MemorySlots) (b : Bool) → recorded_at id xs ≡ None
    → recorded_at id (xs ++ (if b then (id, m) ∷ [] else [])) ≡ (if b then Some m else None)
is_last id m [] true none = grind (arith, nat_tests)
is_last id m [] false none = refl
is_last id m (x ∷ xs) b none = by (x.0 == id) none (is_last id m xs b)
  where
    by : (here : Bool) → (if here then Some x.1 else recorded_at id xs) ≡ None
        → (recorded_at id xs ≡ None → recorded_at id (xs ++ (if b then (id, m) ∷ [] else [])) ≡ (if b then Some m else None))
        → (if here then Some x.1 else recorded_at id (xs ++ (if b then (id, m) ∷ [] else []))) ≡ (if b then Some m else None)
    by true none rest = absurd (cc none)
    by false none rest = rest none

listed_at : (pool : ℕ → ℕ) (set n id : ℕ) → id < n → recorded_at id (memory_slots_below pool set n) ≡ live_slot pool set id
listed_at pool set zero id lt = absurd (omega arith)
listed_at pool set (suc n) id lt = case (same_or n id) (λ less. listed_at pool set n id less)
  where
    case : (n ≡ id) ⊎ (n ≢ id) → (id < n → recorded_at id (memory_slots_below pool set n) ≡ live_slot pool set id)
        → recorded_at id (memory_slots_below pool set (suc n)) ≡ live_slot pool set id
    case (inl e) before =
        ap (λ k. recorded_at id (memory_slots_below pool set (suc k))) e
        ∙ is_last id (memory_slot_at pool set id) (memory_slots_below pool set id) (live_at pool set id) (none_from pool set id id (omega arith))
    case (inr apart) before = not_last n id (memory_slot_at pool set n) (memory_slots_below pool set n) (live_at pool set n) apart ∙ before (omega arith)

-- the record's slot with an ID
pub record_at : (pool : ℕ → ℕ) (set id : ℕ) (slots : MemorySlots) → RecordPart pool set slots → id ≤ 31 → recorded_at id slots ≡ live_slot pool set id
record_at pool set id slots R low = ap (recorded_at id) R.same ∙ listed_at pool set 32 id (omega arith)

-- A slot of the record is live, and the same.
pub recorded_live : (pool : ℕ → ℕ) (set id : ℕ) (slots : MemorySlots) (was : MemorySlot) → RecordPart pool set slots → recorded_at id slots ≡ Some was
    → IsLiveIn pool set id was.slot
recorded_live pool set id slots was R is = low (nat_le id 31) refl
  where
    same : {x y : MemorySlot} → Some x ≡ Some y → x ≡ y
    same e = cc e

    by : id ≤ 31 → (live : Bool) → live_at pool set id ≡ live → (if live then Some (memory_slot_at pool set id) else None) ≡ Some was
        → IsLiveIn pool set id was.slot
    by below true live e = record { low = below; live = live; is = ap (λ (m : MemorySlot). m.slot) (same e) }
    by below false live e = absurd (cc e)

    low : (b : Bool) → nat_le id 31 ≡ b → IsLiveIn pool set id was.slot
    low true le =
        let below : id ≤ 31 = grind (arith, nat_tests) in by below (live_at pool set id) refl (sym (record_at pool set id slots R below) ∙ is)
    low false le =
        let above : 32 ≤ id = grind (arith, nat_tests) in
        let none : recorded_at id slots ≡ None = ap (recorded_at id) R.same ∙ none_from pool set 32 id above in
        absurd (cc (none, is))

-- ---- The page that is filled has the record's slots.

four : (id n : ℕ) → n ≤ 3 → ((4 * id + n) / 4 ≡ id) × ((4 * id + n) % 4 ≡ n)
four id n low = (omega arith, omega arith)

-- the slot that four words of a page make
none_is_live : flags_live 0 ≡ false
unfolding flags_live
none_is_live = refl

module _ (pool : ℕ → ℕ) (page : ℕ) (slots : MemorySlots) (filled : (j : ℕ) → j < 512 → pool (pool_index page j) ≡ set_word slots j) (id : ℕ)
    (low : id ≤ 31) where
  field_is : (f : SlotField) → pool (slot_index page id f) ≡ word_of_slot (recorded_at id slots) (field_number f)
  field_is f =
      let n = is_number f in
      let parts = four id (field_number f) n in
      filled (4 * id + field_number f) (omega (arith, n, low))
      ∙ ap (λ k. word_of_slot (recorded_at k slots) ((4 * id + field_number f) % 4)) parts.0
      ∙ ap (word_of_slot (recorded_at id slots)) parts.1

  -- no slot of the record has the ID
  pub none_live : recorded_at id slots ≡ None → live_at pool page id ≡ false
  none_live none = ap flags_live (field_is field.Flags ∙ ap (λ m. word_of_slot m 3) none) ∙ none_is_live

  -- this one has it
  pub some_live : (m : MemorySlot) → recorded_at id slots ≡ Some m → live_at pool page id ≡ true
  some_live m some = ap flags_live (field_is field.Flags ∙ ap (λ x. word_of_slot x 3) some) ∙ flags_are_live true m.slot.read_only m.logged

  pub some_slot : (m : MemorySlot) → recorded_at id slots ≡ Some m → slot_at pool page id ≡ m.slot
  some_slot m some =
      same_slot (slot_at pool page id) m.slot
      (field_is field.Base ∙ ap (λ x. word_of_slot x 0) some) (field_is field.Pages ∙ ap (λ x. word_of_slot x 1) some)
      (field_is field.Host ∙ ap (λ x. word_of_slot x 2) some)
      (ap flags_read_only (field_is field.Flags ∙ ap (λ x. word_of_slot x 3) some) ∙ flags_are_read_only true m.slot.read_only m.logged)

  pub some_memory_slot : (m : MemorySlot) → recorded_at id slots ≡ Some m → memory_slot_at pool page id ≡ m
  some_memory_slot m some =
      ap (λ (s : Slot). record { slot = s; logged = flags_logged (pool (slot_index page id field.Flags)) }) (some_slot m some)
      ∙ ap (λ logged. record { slot = m.slot; logged = logged })
      (ap flags_logged (field_is field.Flags ∙ ap (λ x. word_of_slot x 3) some) ∙ flags_are_logged true m.slot.read_only m.logged)

-- ---- The page has the slots of the published set, but for the one with this ID.

module _ (pool : ℕ → ℕ) (set page id : ℕ) (slots next : MemorySlots) (R : RecordPart pool set slots)
    (filled : (j : ℕ) → j < 512 → pool (pool_index page j) ≡ set_word next j) (at_other : (i : ℕ) → i ≢ id → recorded_at i next ≡ recorded_at i slots) where
  -- another one is live where it was, and the same
  pub as_before : (i : ℕ) → i ≤ 31 → i ≢ id
      → (live_at pool page i ≡ live_at pool set i) × (live_at pool set i ≡ true → memory_slot_at pool page i ≡ memory_slot_at pool set i)
  as_before i below apart = by (recorded_at i slots) refl (live_at pool set i) refl (record_at pool set i slots R below)
    where
      same : {x y : MemorySlot} → Some x ≡ Some y → x ≡ y
      same e = cc e

      by : (m : Option MemorySlot) → recorded_at i slots ≡ m → (live : Bool) → live_at pool set i ≡ live → recorded_at i slots ≡ live_slot pool set i
          → (live_at pool page i ≡ live_at pool set i) × (live_at pool set i ≡ true → memory_slot_at pool page i ≡ memory_slot_at pool set i)
      by None none true live is = let bad : None ≡ Some (memory_slot_at pool set i) = rw (none, live) at is in absurd (cc bad)
      by None none false live is = (none_live pool page next filled i below (at_other i apart ∙ none) ∙ sym live, λ on. absurd (cc (on, live)))
      by (Some m) some true live is =
          let one : Some m ≡ Some (memory_slot_at pool set i) = rw (some, live) at is in (
            some_live pool page next filled i below m (at_other i apart ∙ some) ∙ sym live,
            λ on. some_memory_slot pool page next filled i below m (at_other i apart ∙ some) ∙ same one,
          )
      by (Some m) some false live is = let bad : Some m ≡ None = rw (some, live) at is in absurd (cc bad)

  pub others_live : (i : ℕ) → i ≤ 31 → i ≢ id → live_at pool page i ≡ live_at pool set i
  others_live i below apart = (as_before i below apart).0

  pub others_same : (i : ℕ) → i ≤ 31 → i ≢ id → live_at pool set i ≡ true → slot_at pool page i ≡ slot_at pool set i
  others_same i below apart live = ap (λ (m : MemorySlot). m.slot) ((as_before i below apart).1 live)

  pub alike_but : AreAlikeBut pool set page id
  alike_but i slot apart = (
    λ L. record { low = L.low; live = others_live i L.low apart ∙ L.live; is = others_same i L.low apart L.live ∙ L.is },
    λ L.
        let was = sym (others_live i L.low apart) ∙ L.live in
        record { low = L.low; live = was; is = sym (others_same i L.low apart was) ∙ L.is },
  )

  -- Each slot of the published set is live in the page, and the same; or it is the record's slot with the ID.
  pub has_others : (i : ℕ) (s : Slot) → IsLiveIn pool set i s → IsLiveIn pool page i s ⊎ (option_map (λ was. was.slot) (recorded_at id slots) ≡ Some s)
  has_others i s L = by (same_or i id)
    where
      by : (i ≡ id) ⊎ (i ≢ id) → IsLiveIn pool page i s ⊎ (option_map (λ was. was.slot) (recorded_at id slots) ≡ Some s)
      by (inl e) = inr (
          ap (λ k. option_map (λ (was : MemorySlot). was.slot) (recorded_at k slots)) (sym e)
          ∙ ap (option_map (λ (was : MemorySlot). was.slot)) (record_at pool set i slots R L.low)
          ∙ ap (λ (b : Bool). option_map (λ (was : MemorySlot). was.slot) (if b then Some (memory_slot_at pool set i) else None)) L.live
          ∙ ap Some L.is)
      by (inr apart) = inl ((alike_but i s apart).0 L)

-- ---- This slot is put at its ID.

pub set_other : (id : ℕ) (slot : Slot) (slots : MemorySlots) (i : ℕ) → i ≢ id → recorded_at i (after_set id slot slots) ≡ recorded_at i slots
set_other id slot slots i apart = set_at i id slot slots ∙ by (id == i) (grind (arith, nat_tests))
  where
    by : (b : Bool) → b ≡ false → (if b then Some (record { slot = slot; logged = is_logged id slots }) else recorded_at i slots) ≡ recorded_at i slots
    by true e = absurd (cc e)
    by false e = refl

pub log_other : (id : ℕ) (on : Bool) (slots : MemorySlots) (i : ℕ) → i ≢ id → recorded_at i (slots_after (SetLog id on) slots) ≡ recorded_at i slots
log_other id on slots i apart = log_elsewhere id i on slots apart

module _ (pool : ℕ → ℕ) (set page id : ℕ) (m : MemorySlot) (slots next : MemorySlots) (R : RecordPart pool set slots) (low : id ≤ 31)
    (filled : (j : ℕ) → j < 512 → pool (pool_index page j) ≡ set_word next j) (at_id : recorded_at id next ≡ Some m)
    (at_other : (i : ℕ) → i ≢ id → recorded_at i next ≡ recorded_at i slots) where
  -- this slot is live
  pub new_live : live_at pool page id ≡ true
  new_live = some_live pool page next filled id low m at_id

  pub new_slot : slot_at pool page id ≡ m.slot
  new_slot = some_slot pool page next filled id low m at_id

  new_memory_slot : memory_slot_at pool page id ≡ m
  new_memory_slot = some_memory_slot pool page next filled id low m at_id

  -- The list of the page's slots has it at its ID.
  pub list_with : memory_slots_below pool page 32 ≡ with_slot_at id m (memory_slots_below pool set 32)
  list_with =
      one_put_live (live_at pool set) (live_at pool page) (memory_slot_at pool set) (memory_slot_at pool page) id 32 (omega (arith, low)) new_live
      (λ i lt apart. (B i (omega arith) apart).0) (λ i lt apart live. (B i (omega arith) apart).1 live)
      ∙ ap (λ x. with_slot_at id x (memory_slots_below pool set 32)) new_memory_slot
    where
      B : (i : ℕ) → i ≤ 31 → i ≢ id
          → (live_at pool page i ≡ live_at pool set i) × (live_at pool set i ≡ true → memory_slot_at pool page i ≡ memory_slot_at pool set i)
      B = as_before pool set page id slots next R filled at_other

-- ---- The slot with this ID is taken away.

pub taken_other : (id : ℕ) (slots : MemorySlots) (i : ℕ) → i ≢ id → recorded_at i (without_slot_at id slots) ≡ recorded_at i slots
taken_other id slots i apart = taken_at i id slots ∙ by (id == i) (grind (arith, nat_tests))
  where
    by : (b : Bool) → b ≡ false → (if b then None else recorded_at i slots) ≡ recorded_at i slots
    by true e = absurd (cc e)
    by false e = refl

module _ (pool : ℕ → ℕ) (set page id : ℕ) (slots : MemorySlots) (R : RecordPart pool set slots) (low : id ≤ 31)
    (filled : (j : ℕ) → j < 512 → pool (pool_index page j) ≡ set_word (without_slot_at id slots) j) where
  -- no slot with the ID is live
  pub none_at_id : live_at pool page id ≡ false
  none_at_id = none_live pool page (without_slot_at id slots) filled id low (taken_at id id slots ∙ by (id == id) (grind (arith, nat_tests)))
    where
      by : (b : Bool) → b ≡ true → (if b then None else recorded_at id slots) ≡ None
      by true e = refl
      by false e = absurd (cc e)

  -- The list of its slots is without the one with the ID.
  pub list_without : memory_slots_below pool page 32 ≡ without_slot_at id (memory_slots_below pool set 32)
  list_without =
      one_gone_live (live_at pool set) (live_at pool page) (memory_slot_at pool set) (memory_slot_at pool page) id 32 none_at_id
      (λ i lt apart. (B i (omega arith) apart).0) (λ i lt apart live. (B i (omega arith) apart).1 live)
    where
      B : (i : ℕ) → i ≤ 31 → i ≢ id
          → (live_at pool page i ≡ live_at pool set i) × (live_at pool set i ≡ true → memory_slot_at pool page i ≡ memory_slot_at pool set i)
      B = as_before pool set page id slots (without_slot_at id slots) R filled (taken_other id slots)

-- ---- A line that is to publish its page.

-- The words of the page that is owned and filled whole.
pub filled_page : (pool : ℕ → ℕ) (slots : MemorySlots) (t : Topics) → OwnsSet t → IsFilledWith pool slots t.owned → (j : ℕ) → j < 512
    → pool (pool_index (page_owned t.owned) j) ≡ set_word slots j
filled_page pool slots t O filled j lt =
    let owns = set_owned t O in
    ap (λ k. pool (pool_index k j)) (ap page_owned owns.is) ∙ filled owns.owned owns.is j (omega (arith, owns.whole, lt)) lt
