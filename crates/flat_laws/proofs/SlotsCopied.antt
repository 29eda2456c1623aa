-- The guest frames that a migration copies are those of slots.
use Rattle.std.proofs.Common.{◌≡◌, ◌⊎◌, inl, inr, ℕ, List, [], ◌∷◌, ◌++◌, ◌||◌, ◌+◌, ◌-◌, ◌==◌, Bool, true, false, cond, refl, sym, ap, ◌∙◌, arith}
use Rattle.std.specs.Prelude.{Option, Some, None, filter, is_some}
use Rattle.std.specs.Option.{option_map}
use Rattle.std.specs.List.{range_with_len}
use Rattle.std.specs.Map.{keys_of}
use Rattle.std.proofs.lemmas.Bool.{or_right}
use Rattle.std.proofs.lemmas.Bool.Decides.{nat_tests}
use Rattle.core_views.specs.declared.memory_slot.MemorySlot.{MemorySlot}
use Rattle.core_views.specs.declared.trace.Command.TheVariants.{GetLog}
use Rattle.core_views.specs.declared.trace.Op.TheVariants.{Read}
use Rattle.core_views.specs.LogCommands.{is_among}
use Rattle.core_views.specs.Migrations.{frames_in, frames_to_copy}
use Rattle.core_views.specs.Past.{FrameSet}
use Rattle.core_views.specs.Slots.{contains, page_behind, page_in, slot_of}
use Rattle.core_views.specs.SlotSets.{MemorySlots, flat_slots, slot_holding, slot_of_id}
use Rattle.core_views.proofs.AskedFrames.{asked_has, asked_is, in_range}
use Rattle.core_views.proofs.FlatSlots.{flat_holding}

-- Some slot has each of the frames.
abbrev pub HaveSlots : MemorySlots → List ℕ → Type 0
HaveSlots slots frames = (gfn : ℕ) → is_among gfn frames ≡ true → is_some (slot_holding gfn slots) ≡ true

among_front : (gfn : ℕ) (xs ys : List ℕ) → is_among gfn (xs ++ ys) ≡ true → (is_among gfn xs ≡ true) ⊎ (is_among gfn ys ≡ true)
among_front gfn [] ys is = inr is
among_front gfn (x ∷ xs) ys is = by (x == gfn) is (among_front gfn xs ys)
  where
    by : (b : Bool) → (b || is_among gfn (xs ++ ys)) ≡ true
        → (is_among gfn (xs ++ ys) ≡ true → (is_among gfn xs ≡ true) ⊎ (is_among gfn ys ≡ true)) → ((b || is_among gfn xs) ≡ true) ⊎ (is_among gfn ys ≡ true)
    by true e rest = inl refl
    by false e rest = rest e

among_filtered : (test : ℕ → Bool) (gfn : ℕ) (xs : List ℕ) → is_among gfn (filter test xs) ≡ true → is_among gfn xs ≡ true
among_filtered test gfn [] is = is
among_filtered test gfn (x ∷ xs) is = by (test x) (x == gfn) is refl (among_filtered test gfn xs)
  where
    by : (passes here : Bool) → is_among gfn (cond passes (x ∷ filter test xs) (filter test xs)) ≡ true → (x == gfn) ≡ here
        → (is_among gfn (filter test xs) ≡ true → is_among gfn xs ≡ true) → (here || is_among gfn xs) ≡ true
    by true true e same rest = refl
    by true false e same rest = rest (ap (λ (b : Bool). b || is_among gfn (filter test xs)) (sym same) ∙ e)
    by false here e same rest = or_right here (is_among gfn xs) (rest e)

held_by : (b : Bool) (e : ℕ × MemorySlot) (rest : Option (ℕ × MemorySlot)) → (b ≡ true) ⊎ (is_some rest ≡ true) → is_some (cond b (Some e) rest) ≡ true
held_by true e rest is = refl
held_by false e rest (inl is) = absurd (cc is)
held_by false e rest (inr is) = is

pub frames_have_slots : (frames : FrameSet) (slots : MemorySlots) → HaveSlots slots (frames_to_copy frames slots)
frames_have_slots frames [] gfn is = absurd (cc is)
frames_have_slots frames (e ∷ slots) gfn is =
    by (among_front gfn (frames_in frames e.1) (frames_to_copy frames slots) is) (frames_have_slots frames slots gfn)
  where
    by : (is_among gfn (frames_in frames e.1) ≡ true) ⊎ (is_among gfn (frames_to_copy frames slots) ≡ true)
        → (is_among gfn (frames_to_copy frames slots) ≡ true → is_some (slot_holding gfn slots) ≡ true) → is_some (slot_holding gfn (e ∷ slots)) ≡ true
    by (inl here) rest =
        let within = in_range e.1.slot.base e.1.slot.pages gfn (among_filtered frames gfn (range_with_len e.1.slot.base e.1.slot.pages) here) in
        let has : contains gfn e.1.slot ≡ true = grind (arith, nat_tests, within.0, within.1) in
        held_by (contains gfn e.1.slot) e (slot_holding gfn slots) (inl has)
    by (inr later) rest = held_by (contains gfn e.1.slot) e (slot_holding gfn slots) (inr (rest later))

-- And each is in the set.
pub copied_are_held : (frames : FrameSet) (slots : MemorySlots) (gfn : ℕ) → is_among gfn (frames_to_copy frames slots) ≡ true → frames gfn ≡ true
copied_are_held frames [] gfn is = absurd (cc is)
copied_are_held frames (e ∷ slots) gfn is =
    by (among_front gfn (frames_in frames e.1) (frames_to_copy frames slots) is) (copied_are_held frames slots gfn)
  where
    by : (is_among gfn (frames_in frames e.1) ≡ true) ⊎ (is_among gfn (frames_to_copy frames slots) ≡ true)
        → (is_among gfn (frames_to_copy frames slots) ≡ true → frames gfn ≡ true) → frames gfn ≡ true
    by (inl here) rest = (asked_is frames (GetLog 0) e.1 gfn here).held
    by (inr later) rest = rest later

-- Such a frame has a page behind it.
pub record HasPage (slots : MemorySlots) (gfn : ℕ) : Type 0 where
  pub page : ℕ
  pub behind : page_behind (flat_slots slots) gfn Read ≡ Some page

pub has_page : (slots : MemorySlots) (gfn : ℕ) → is_some (slot_holding gfn slots) ≡ true → HasPage slots gfn
has_page slots gfn is = by (slot_holding gfn slots) refl is
  where
    by : (found : Option (ℕ × MemorySlot)) → slot_holding gfn slots ≡ found → is_some found ≡ true → HasPage slots gfn
    by None at is_there = absurd (cc is_there)
    by (Some entry) at is_there =
        let slot_is : slot_of (flat_slots slots) gfn ≡ Some entry.1.slot =
        sym (flat_holding gfn slots) ∙ ap (λ (x : Option (ℕ × MemorySlot)). option_map (λ (y : ℕ × MemorySlot). y.1.slot) x) at in
        record { page = entry.1.slot.host + (gfn - entry.1.slot.base); behind = ap (page_in gfn Read) slot_is }

-- Those of slots that are in the set are among those that are copied.
among_left : (gfn : ℕ) (xs ys : List ℕ) → is_among gfn xs ≡ true → is_among gfn (xs ++ ys) ≡ true
among_left gfn [] ys is = absurd (cc is)
among_left gfn (x ∷ xs) ys is = by (x == gfn) is (among_left gfn xs ys)
  where
    by : (b : Bool) → (b || is_among gfn xs) ≡ true → (is_among gfn xs ≡ true → is_among gfn (xs ++ ys) ≡ true) → (b || is_among gfn (xs ++ ys)) ≡ true
    by true e rest = refl
    by false e rest = rest e

among_right : (gfn : ℕ) (xs ys : List ℕ) → is_among gfn ys ≡ true → is_among gfn (xs ++ ys) ≡ true
among_right gfn [] ys is = is
among_right gfn (x ∷ xs) ys is = or_right (x == gfn) (is_among gfn (xs ++ ys)) (among_right gfn xs ys is)

pub slots_are_copied : (frames : FrameSet) (slots : MemorySlots) (gfn : ℕ) → frames gfn ≡ true → is_some (slot_holding gfn slots) ≡ true
    → is_among gfn (frames_to_copy frames slots) ≡ true
slots_are_copied frames [] gfn held there = absurd (cc there)
slots_are_copied frames (e ∷ slots) gfn held there = by (contains gfn e.1.slot) refl there (slots_are_copied frames slots gfn held)
  where
    by : (b : Bool) → contains gfn e.1.slot ≡ b → is_some (cond b (Some e) (slot_holding gfn slots)) ≡ true
        → (is_some (slot_holding gfn slots) ≡ true → is_among gfn (frames_to_copy frames slots) ≡ true)
        → is_among gfn (frames_to_copy frames (e ∷ slots)) ≡ true
    by true has is rest =
        among_left gfn (frames_in frames e.1) (frames_to_copy frames slots)
        (asked_has frames (GetLog 0) e.1 gfn (record { inside = has; asked = refl; held = held }))
    by false has is rest = among_right gfn (frames_in frames e.1) (frames_to_copy frames slots) (rest is)

pub page_held : (slots : MemorySlots) (gfn page : ℕ) → page_behind (flat_slots slots) gfn Read ≡ Some page → is_some (slot_holding gfn slots) ≡ true
page_held slots gfn page behind = by (slot_holding gfn slots) refl
  where
    by : (o : Option (ℕ × MemorySlot)) → slot_holding gfn slots ≡ o → is_some o ≡ true
    by None at =
        let none : page_behind (flat_slots slots) gfn Read ≡ None =
        ap (page_in gfn Read) (sym (flat_holding gfn slots) ∙ ap (λ (x : Option (ℕ × MemorySlot)). option_map (λ (y : ℕ × MemorySlot). y.1.slot) x) at) in
        absurd (cc (none, behind))
    by (Some e) at = refl

pub key_among : (id : ℕ) (slot : MemorySlot) (slots : MemorySlots) → slot_of_id id slots ≡ Some slot → is_among id (keys_of slots) ≡ true
key_among id slot [] at = absurd (cc at)
key_among id slot ((k, m) ∷ slots) at = by (k == id) at (key_among id slot slots)
  where
    by : (b : Bool) → cond b (Some m) (slot_of_id id slots) ≡ Some slot → (slot_of_id id slots ≡ Some slot → is_among id (keys_of slots) ≡ true)
        → (b || is_among id (keys_of slots)) ≡ true
    by true e rest = refl
    by false e rest = rest e
