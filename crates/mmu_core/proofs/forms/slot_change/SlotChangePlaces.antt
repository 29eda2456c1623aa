-- A line that changes a slot at its places: where it begins and goes on to, what it has loaded, and what the record accepts.
use Rattle.std.proofs.Common.{◌≡◌, ℕ, ◌∙◌, refl}
use Rattle.std.proofs.Props.{props}
use Rattle.std.specs.Prelude.{true, Option, Some, None, Bool, false, List, [], ◌∷◌, is_none, nat_lt, not}
use Rattle.core_views.specs.declared.answer.Answer.TheVariants.{Starved}
use Rattle.core_views.specs.declared.answer.Refusal.{Refusal}
use Rattle.core_views.specs.declared.answer.Refusal.TheVariants.{BadId, TooLarge, Missing, Logged, NoLog, Resize, Fixed, Overlap, HostOverlap}
use Rattle.core_views.specs.Refusals.{is_logged, moves_logged}
use Rattle.core_views.specs.Slots.{changes_fixed, first_of, is_some_and, is_too_large, meets_guest_frames, meets_host_pages, resizes, slot_with_id}
use Rattle.core_views.specs.declared.place.BeginPlace.TheVariants as begins
use Rattle.core_views.specs.declared.place.EndPlace.TheVariants as ends
use Rattle.core_views.specs.declared.place.WriteProtectPlace.TheVariants as protect
use Rattle.core_views.specs.declared.place.Place.TheVariants as place
use Rattle.core_views.specs.declared.place.SlotChangePlace.{SlotChangePlace}
use Rattle.core_views.specs.declared.place.SlotChangePlace.TheVariants.{AtOnce, Claim, Fill, Begin, Publish, Release, End, Watch, WriteProtect, Clear, Give}
use Rattle.core_views.specs.declared.sizes.Sizes.{Sizes}
use Rattle.core_views.specs.declared.trace.Command.{Command}
use Rattle.core_views.specs.declared.trace.Command.TheVariants.{Access, ChangeHost, ChangeRun, ClearLog, DeleteSlot, GetLog, Migrate, SetLog, SetSlot, Split}
use Rattle.core_views.specs.Held.{Held}
use Rattle.core_views.specs.SlotCommands.{at_once, change_at_once, changes_slot, is_unchanged}
use Rattle.core_views.specs.SlotSets.{MemorySlots, flat_slots, slot_of_id}
use Rattle.part_steps.specs.PartSteps.{IsAtRest}
use Rattle.mmu_core.specs.orders.ClaimSteps.{Pages, claim_next}
use Rattle.mmu_core.specs.lines.Forms.{Holds}
use Rattle.mmu_core.specs.forms.slot_change.SlotChangeForm.{slot_change_is_first}
use Rattle.mmu_core.specs.forms.slot_change.SlotChangeKnows.{FillsSet, SlotChangeHolds, RecordAccepts, SlotChangeKnows, SlotChangeRests, is_of_frames}
use Rattle.mmu_core.specs.forms.slot_change.SlotChangeSteps.{slot_change_first, slot_change_outcome}
use Rattle.mmu_core.specs.forms.slot_change.SlotChangeSteps.{slot_change_part, slot_target}
use Rattle.mmu_core.proofs.orders.ProtectPlaces.{protect_plain}
use Rattle.mmu_core.proofs.orders.ClaimMade.{claim_is}
use Rattle.mmu_core.proofs.lines.EitherPlace.{each_claim}
use Rattle.mmu_core.proofs.orders.InvalidatePlaces.{begin_plain, end_plain}
use Rattle.mmu_core.proofs.machine.GoesOn.{GoesUnderWay, GoesWithin}
use Rattle.mmu_core.proofs.machine.PartStepping.{is_publish, changes_word}
use Rattle.mmu_core.proofs.slots.LiveStays.{OwnedStays}

-- It publishes at one place alone.
abbrev pub is_publication : SlotChangePlace → Bool
is_publication Publish = true
is_publication _ = false

-- At any other place it publishes nothing, and changes no host word.
change_plain : (p : SlotChangePlace) (h : Held) (command : Command) → is_publication p ≡ false
    → (is_publish (slot_change_part p h command) ≡ false) × (changes_word (slot_change_part p h command) ≡ false)
change_plain Publish h command other = absurd (cc other)
change_plain (Claim begun) h command other =
    claim_is (λ s. (is_publish s ≡ false) × (changes_word s ≡ false)) Pages begun h.topics.claim (refl, refl) (λ word. (refl, refl))
change_plain (Begin p) h command other = let P = begin_plain p (slot_target h command) h.topics in (P.never, P.quiet)
change_plain (End p) h command other = let P = end_plain p h.topics in (P.never, P.quiet)
change_plain (WriteProtect range p) h command other = let P = protect_plain p range h.topics in (P.never, P.quiet)
change_plain _ h command other = (refl, refl)

pub change_never : (p : SlotChangePlace) (h : Held) (command : Command) → is_publication p ≡ false → is_publish (slot_change_part p h command) ≡ false
change_never p h command other = (change_plain p h command other).0

pub change_quiet : (p : SlotChangePlace) (h : Held) (command : Command) → is_publication p ≡ false → changes_word (slot_change_part p h command) ≡ false
change_quiet p h command other = (change_plain p h command other).1

-- ---- where it goes on to

pub slot_change_goes : (p : SlotChangePlace) (command : Command) (h : Held) (v : ℕ)
    → GoesUnderWay (slot_change_outcome p command h v) × GoesWithin (place.SlotChange p) (slot_change_outcome p command h v)
slot_change_goes (Claim begun) command h v =
    each_claim (λ o. GoesUnderWay o × GoesWithin (place.SlotChange (Claim begun)) o) (claim_next Pages begun h.state.sizes h.topics.claim v)
    (place.SlotChange (Claim true)) (place.SlotChange Fill) Starved (tt, λ c. refl) (tt, λ c. refl) (tt, tt)
slot_change_goes (AtOnce refusal) command h v = (tt, tt)
slot_change_goes Give command h v = (tt, tt)
slot_change_goes _ command h v = (tt, λ c. refl)

-- ---- what it has loaded

-- Where it begins it has loaded nothing.
pub slot_change_begins : (z : Sizes) (pool : ℕ → ℕ) (set : ℕ) (command : Command) (h : Held) (r : Option (Option Refusal))
    → change_at_once z command h.slots ≡ r → Holds z pool set (place.SlotChange (slot_change_first r)) command h
slot_change_begins z pool set command h None is = is
slot_change_begins z pool set command h (Some refusal) is = is

-- What it has stored stays where the words of its own page do.
module _ (z : Sizes) (before after : ℕ → ℕ) (h : Held) (own : OwnedStays before after h) where
  fills_stay : (command : Command) → FillsSet z before command h.slots h.topics.owned → FillsSet z after command h.slots h.topics.owned
  fills_stay command F = record { works = F.works; filled = λ o is j lt word. own o is j word ∙ F.filled o is j lt word }

  pub slot_change_stays : (p : SlotChangePlace) (command : Command) → SlotChangeHolds z before p command h → SlotChangeHolds z after p command h
  slot_change_stays (AtOnce refusal) command e = e
  slot_change_stays (Claim begun) command e = e
  slot_change_stays Release command e = e
  slot_change_stays (End p) command e = e
  slot_change_stays Watch command e = e
  slot_change_stays (WriteProtect range p) command e = e
  slot_change_stays Clear command e = e
  slot_change_stays Give command e = e
  slot_change_stays _ command e = fills_stay command e

-- ---- what the record accepts

pub change_accepts : (p : SlotChangePlace) (command : Command) (z : Sizes) (pool : ℕ → ℕ) (h : Held) → SlotChangeHolds z pool p command h
    → RecordAccepts p z command h.slots
change_accepts Publish command z pool h e = e.works
change_accepts _ command z pool h e = tt

pub accepts_prop : (p : SlotChangePlace) (z : Sizes) (command : Command) (slots : MemorySlots) → IsProp (RecordAccepts p z command slots)
accepts_prop Publish z command slots = hlevel props
accepts_prop _ z command slots = hlevel props

-- ---- where it begins

pub change_begins : (r : Option (Option Refusal)) → slot_change_is_first (slot_change_first r) ≡ true
change_begins None = refl
change_begins (Some refusal) = refl

-- It isn't answered at once for want of a frame.
abbrev for_frames : Option (Option Refusal) → Bool
for_frames None = false
for_frames (Some refusal) = is_some_and is_of_frames refusal

abbrev AreOfSlots : List (Bool × Refusal) → Type 0
AreOfSlots [] = Unit {0}
AreOfSlots ((holds, refusal) ∷ rows) = (is_of_frames refusal ≡ false) × AreOfSlots rows

none_for_frames : (rows : List (Bool × Refusal)) (same : Bool) → AreOfSlots rows → for_frames (at_once (first_of rows) same) ≡ false
none_for_frames [] true S = refl
none_for_frames [] false S = refl
none_for_frames ((true, refusal) ∷ rows) same S = S.0
none_for_frames ((false, refusal) ∷ rows) same S = none_for_frames rows same S.1

never_for_frames : (z : Sizes) (command : Command) (slots : MemorySlots) → for_frames (change_at_once z command slots) ≡ false
never_for_frames z (Access gfn word op) slots = refl
never_for_frames z (ChangeHost page change) slots = refl
never_for_frames z (ChangeRun page change) slots = refl
never_for_frames z (SetSlot id slot) slots = none_for_frames (
    (nat_lt 31 id, BadId)
    ∷ (is_too_large z.pages slot, TooLarge)
    ∷ (is_some_and (resizes slot) (slot_with_id id (flat_slots slots)), Resize)
    ∷ (is_some_and (changes_fixed slot) (slot_with_id id (flat_slots slots)), Fixed)
    ∷ (is_some_and (moves_logged slot) (slot_of_id id slots), Logged)
    ∷ (meets_guest_frames id slot (flat_slots slots), Overlap)
    ∷ (meets_host_pages id slot (flat_slots slots), HostOverlap)
    ∷ []) (is_unchanged (SetSlot id slot) slots) (refl, (refl, (refl, (refl, (refl, (refl, (refl, tt)))))))
never_for_frames z (DeleteSlot id) slots = none_for_frames (
    (nat_lt 31 id, BadId)
    ∷ (is_none (slot_of_id id slots), Missing)
    ∷ (is_logged id slots, Logged)
    ∷ []) false (refl, (refl, (refl, tt)))
never_for_frames z (SetLog id true) slots =
    none_for_frames ((is_none (slot_of_id id slots), Missing) ∷ (is_logged id slots, Logged) ∷ []) false (refl, (refl, tt))
never_for_frames z (SetLog id false) slots =
    none_for_frames ((is_none (slot_of_id id slots), Missing) ∷ (not (is_logged id slots), NoLog) ∷ []) false (refl, (refl, tt))
never_for_frames z (GetLog id) slots = refl
never_for_frames z (Migrate call) slots = refl
never_for_frames z (Split gfn) slots = refl
never_for_frames z (ClearLog id first count words) slots = refl

-- It knows what its first place asks, where its actor is at rest.
pub slot_change_begins_known : (z : Sizes) (command : Command) (h : Held) → IsAtRest h.topics
    → SlotChangeKnows (slot_change_first (change_at_once z command h.slots)) command h
slot_change_begins_known z command h R = by (change_at_once z command h.slots) (never_for_frames z command h.slots)
  where
    by : (r : Option (Option Refusal)) → for_frames r ≡ false → SlotChangeKnows (slot_change_first r) command h
    by None never = (R, λ e. absurd (cc e))
    by (Some refusal) never = (R, never)

-- ---- what it knows is a proposition

pub slot_change_knows_prop : (p : SlotChangePlace) (command : Command) (h : Held) → IsProp ((changes_slot command ≡ true) × SlotChangeKnows p command h)
slot_change_knows_prop (AtOnce refusal) command h = hlevel props
slot_change_knows_prop (Begin begins.Exclude) command h = hlevel props
slot_change_knows_prop (Begin (begins.Find begun)) command h = hlevel props
slot_change_knows_prop (Begin (begins.Walk rooted)) command h = hlevel props
slot_change_knows_prop (Begin _) command h = hlevel props
slot_change_knows_prop (WriteProtect range protect.Exclude) command h = hlevel props
slot_change_knows_prop (WriteProtect range (protect.Walk rooted)) command h = hlevel props
slot_change_knows_prop (WriteProtect range _) command h = hlevel props
slot_change_knows_prop (End ends.Exclude) command h = hlevel props
slot_change_knows_prop (End _) command h = hlevel props
slot_change_knows_prop _ command h = hlevel props

-- So is what its step asks besides its needs.
pub slot_change_rests_prop : (p : SlotChangePlace) (command : Command) (h : Held) → IsProp (SlotChangeRests p command h)
slot_change_rests_prop (Begin p) command h = hlevel props
slot_change_rests_prop _ command h = hlevel props
