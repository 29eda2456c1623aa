-- The words of a slot set that is filled.
use Rattle.std.proofs.Common.{◌≡◌, ◌<◌, ◌^◌, ◌/◌, ◌%◌, ◌==◌, ℕ, [], ◌∷◌, refl, sym, subst, ap, ◌∙◌, arith}
use Rattle.std.specs.Prelude.{Bool, true, false, if◌then◌else◌, Option, Some, None}
use Rattle.std.specs.Ordering.{match_ordering, nat_cmp}
use Rattle.std.specs.declared.cmp.Ordering.{Ordering}
use Rattle.std.specs.declared.cmp.Ordering.TheVariants.{Less, Equal, Greater}
use Rattle.std.proofs.lemmas.Bool.Decides.{nat_tests}
use Rattle.std.proofs.lemmas.Option.{same_Some}
use Rattle.core_views.specs.declared.memory_slot.MemorySlot.{MemorySlot}
use Rattle.core_views.specs.declared.trace.Slot.{Slot}
use Rattle.core_views.proofs.SlotLines.{taken_at}
use Rattle.core_views.specs.Refusals.{after_set, is_logged}
use Rattle.core_views.specs.declared.trace.Command.TheVariants.{SetLog}
use Rattle.core_views.specs.SlotCommands.{slots_after}
use Rattle.core_views.specs.SlotSets.{MemorySlots, changed_slots, slot_of_id, with_slot_at, without_slot_at}
use Rattle.std.specs.Option.{option_map}
use Rattle.spte_words.specs.Flags.{flags_word}
use Rattle.part_steps.specs.SetWords.{set_word, word_of_slot}

-- A set with one more slot has this one at its ID, and else what it had.
pub put_at : (i id : ℕ) (m : MemorySlot) (slots : MemorySlots) → slot_of_id i (with_slot_at id m slots) ≡ (if id == i then Some m else slot_of_id i slots)
put_at i id m [] = refl
put_at i id m ((k, n) ∷ es) = by (nat_cmp id k) refl (put_at i id m es)
  where
    equal : (b : Bool) → (if b then Some m else slot_of_id i es) ≡ (if b then Some m else if b then Some n else slot_of_id i es)
    equal true = refl
    equal false = refl

    greater : (here it : Bool) → (here ≡ true → it ≡ false) → slot_of_id i (with_slot_at id m es) ≡ (if it then Some m else slot_of_id i es)
        → (if here then Some n else slot_of_id i (with_slot_at id m es)) ≡ (if it then Some m else if here then Some n else slot_of_id i es)
    greater true true apart rest = let no = apart refl in absurd (cc no)
    greater true false apart rest = refl
    greater false it apart rest = rest

    by : (o : Ordering) → nat_cmp id k ≡ o → slot_of_id i (with_slot_at id m es) ≡ (if id == i then Some m else slot_of_id i es)
        → slot_of_id i (match_ordering o ((id, m) ∷ (k, n) ∷ es) ((k, m) ∷ es) ((k, n) ∷ with_slot_at id m es))
        ≡ (if id == i then Some m else if k == i then Some n else slot_of_id i es)
    by Less e rest = refl
    by Equal e rest =
        let same : id ≡ k = grind (arith, nat_tests) in
        equal (k == i) ∙ ap (λ j. if j == i then Some m else if k == i then Some n else slot_of_id i es) (sym same)
    by Greater e rest = greater (k == i) (id == i) (λ here. grind (arith, nat_tests)) rest

pub set_at : (i id : ℕ) (slot : Slot) (slots : MemorySlots)
    → slot_of_id i (after_set id slot slots) ≡ (if id == i then Some (record { slot = slot; logged = is_logged id slots }) else slot_of_id i slots)
set_at i id slot slots = put_at i id (record { slot = slot; logged = is_logged id slots }) slots

-- The word of a slot has 64 bits, where the slot's numbers have.
pub record IsSmall (slot : Slot) : Type 0 where
  pub base : slot.base < 2 ^ 64
  pub pages : slot.pages < 2 ^ 64
  pub host : slot.host < 2 ^ 64

flags_small : (read_only logged : Bool) → flags_word true read_only logged < 2 ^ 64
unfolding flags_word
flags_small true true = omega arith
flags_small true false = omega arith
flags_small false true = omega arith
flags_small false false = omega arith

word_small : (m : Option MemorySlot) (i : ℕ) → ((s : MemorySlot) → m ≡ Some s → IsSmall s.slot) → word_of_slot m i < 2 ^ 64
word_small None i small = omega arith
word_small (Some m) i small = by (i == 0) (i == 1) (i == 2)
  where
    S : IsSmall m.slot
    S = small m refl

    by : (a b c : Bool) → (if a then m.slot.base else if b then m.slot.pages else if c then m.slot.host else flags_word true m.slot.read_only m.logged) < 2 ^ 64
    by true b c = S.base
    by false true c = S.pages
    by false false true = S.host
    by false false false = flags_small m.slot.read_only m.logged

pub set_word_small : (id : ℕ) (slot : Slot) (slots : MemorySlots) (j : ℕ) → IsSmall slot
    → ((i : ℕ) (m : MemorySlot) → slot_of_id i slots ≡ Some m → IsSmall m.slot) → set_word (after_set id slot slots) j < 2 ^ 64
set_word_small id slot slots j new_ old_ =
    word_small (slot_of_id at (after_set id slot slots)) (j % 4)
    (λ m e. each (id == at) m (sym (put_at at id (record { slot = slot; logged = is_logged id slots }) slots) ∙ e))
  where
    at : ℕ
    at = j / 4

    each : (here : Bool) (m : MemorySlot) → (if here then Some (record { slot = slot; logged = is_logged id slots }) else slot_of_id at slots) ≡ Some m
        → IsSmall m.slot
    each true m e = subst (λ (s : MemorySlot). IsSmall s.slot) (some_slot e) new_
      where
        some_slot : {x y : MemorySlot} → Some x ≡ Some y → x ≡ y
        some_slot e = cc e
    each false m e = old_ at m e

-- So has the word of a set without one of the slots.
pub set_word_fewer : (id : ℕ) (slots : MemorySlots) (j : ℕ) → ((i : ℕ) (m : MemorySlot) → slot_of_id i slots ≡ Some m → IsSmall m.slot)
    → set_word (without_slot_at id slots) j < 2 ^ 64
set_word_fewer id slots j old_ =
    word_small (slot_of_id (j / 4) (without_slot_at id slots)) (j % 4) (λ m e. each (id == j / 4) m (sym (taken_at (j / 4) id slots) ∙ e))
  where
    each : (here : Bool) (m : MemorySlot) → (if here then None else slot_of_id (j / 4) slots) ≡ Some m → IsSmall m.slot
    each true m e = absurd (cc e)
    each false m e = old_ (j / 4) m e

-- A set in which the slot with an ID was given a dirty log, or lost it, has that slot so, and else what it had.
pub log_at : (i id : ℕ) (on : Bool) (slots : MemorySlots) → slot_of_id i (slots_after (SetLog id on) slots)
    ≡ (if id == i then option_map (λ was. record { slot = was.slot; logged = on }) (slot_of_id id slots) else slot_of_id i slots)
log_at i id on slots = by (slot_of_id id slots)
  where
    by : (was : Option MemorySlot) → slot_of_id i (changed_slots id (option_map (λ was. record { slot = was.slot; logged = on }) was) slots)
        ≡ (if id == i then option_map (λ was. record { slot = was.slot; logged = on }) was else slot_of_id i slots)
    by None = taken_at i id slots
    by (Some was) = put_at i id (record { slot = was.slot; logged = on }) slots

pub set_word_logged : (id : ℕ) (on : Bool) (slots : MemorySlots) (j : ℕ)
    → ((i : ℕ) (m : MemorySlot) → slot_of_id i slots ≡ Some m → IsSmall m.slot) → set_word (slots_after (SetLog id on) slots) j < 2 ^ 64
set_word_logged id on slots j old_ =
    word_small (slot_of_id (j / 4) (slots_after (SetLog id on) slots)) (j % 4)
    (λ m e. each (id == j / 4) (slot_of_id id slots) refl m (sym (log_at (j / 4) id on slots) ∙ e))
  where
    each : (here : Bool) (was : Option MemorySlot) → slot_of_id id slots ≡ was → (m : MemorySlot)
        → (if here then option_map (λ was. record { slot = was.slot; logged = on }) was else slot_of_id (j / 4) slots) ≡ Some m → IsSmall m.slot
    each true None at m e = absurd (cc e)
    each true (Some was) at m e = subst (λ (x : MemorySlot). IsSmall x.slot) (same_Some _ m e) (old_ id was at)
    each false was at m e = old_ (j / 4) m e
