-- How many steps a line that changes a slot has left at each of its places.
use Rattle.std.proofs.Common.{◌≡◌, ◌<◌, ◌≤◌, ℕ, ◌+◌, ◌*◌, ap, arith, refl}
use Rattle.std.specs.Prelude.{true, Bool, false, if◌then◌else◌, is_some}
use Rattle.core_views.specs.declared.place.SlotChangePlace.{SlotChangePlace}
use Rattle.core_views.specs.declared.place.SlotChangePlace.TheVariants.{AtOnce, Claim, Arm, Begin, End, WriteProtect}
use Rattle.core_views.specs.declared.sizes.Sizes.{Sizes}
use Rattle.core_views.specs.declared.topics.Topics.{Topics}
use Rattle.core_views.specs.declared.trace.Slot.{Slot}
use Rattle.core_views.specs.declared.trace.Command.{Command}
use Rattle.core_views.specs.declared.trace.Command.TheVariants.{Access, ChangeHost, ChangeRun, ClearLog, DeleteSlot, GetLog, Migrate, SetLog, SetSlot, Split}
use Rattle.core_views.specs.Held.{Held}
use Rattle.core_views.specs.Sizes.{AreSizes, actors_of}
use Rattle.core_views.specs.SlotCommands.{arms, changes_slot, slot_invalidated}
use Rattle.core_views.specs.SlotSets.{MemorySlots}
use Rattle.spte_words.specs.Areas.{words_of_bits}
use Rattle.part_steps.specs.declared.invalidations.Target.TheVariants as aim
use Rattle.mmu_core.specs.lines.Bounds.{most_steps}
use Rattle.mmu_core.specs.orders.ClaimSteps.{Pages}
use Rattle.mmu_core.specs.forms.slot_change.SlotChangeKnows.{SlotChangeKnows}
use Rattle.mmu_core.specs.forms.slot_change.SlotChangeLeft.{arms_left, begins_left, protects_left, slot_change_left}
use Rattle.mmu_core.specs.forms.slot_change.SlotChangeSteps.{slot_or_none}
use Rattle.mmu_core.proofs.orders.ProtectPlaces.{protect_few}
use Rattle.mmu_core.proofs.orders.ClaimMade.{claim_few}
use Rattle.mmu_core.proofs.orders.InvalidatePlaces.{begin_few, end_few}

-- No line that invalidates a slot begins its dirty log, and no other invalidates any.
none_armed : (slots : MemorySlots) (command : Command) (z : Sizes) → is_some (slot_invalidated slots command) ≡ true → protects_left command z ≡ 0
none_armed slots (SetLog id on) z some = absurd (cc some)
none_armed slots (Access gfn word op) z some = refl
none_armed slots (ChangeHost page change) z some = refl
none_armed slots (ChangeRun page change) z some = refl
none_armed slots (SetSlot id slot) z some = refl
none_armed slots (DeleteSlot id) z some = refl
none_armed slots (GetLog id) z some = refl
none_armed slots (Migrate call) z some = refl
none_armed slots (Split gfn) z some = refl
none_armed slots (ClearLog id first count words) z some = refl

-- What a command has at most, besides the claim and the set.
abbrev besides : Command → Sizes → ℕ
besides (SetLog id true) z = 2 * z.vcpus + 5 * z.pages + words_of_bits z.pages
besides (SetLog id false) z = 0
besides _ z = 2 * z.vcpus + 5 * z.pages

besides_few : (c : Command) (z : Sizes) → begins_left c z + arms_left c z + protects_left c z ≤ besides c z + 138
besides_few (SetLog id true) z = omega arith
besides_few (SetLog id false) z = omega arith
besides_few (Access gfn word op) z = omega arith
besides_few (ChangeHost page change) z = omega arith
besides_few (ChangeRun page change) z = omega arith
besides_few (SetSlot id slot) z = omega arith
besides_few (DeleteSlot id) z = omega arith
besides_few (GetLog id) z = omega arith
besides_few (Migrate call) z = omega arith
besides_few (Split gfn) z = omega arith
besides_few (ClearLog id first count words) z = omega arith

-- What a line that begins a dirty log has at most, for its words and to forbid writes.
armed_most : (c : Command) (z : Sizes) → arms c ≡ true → 2 * z.vcpus + 5 * z.pages + words_of_bits z.pages ≤ besides c z
armed_most (SetLog id true) z is = omega arith
armed_most (SetLog id false) z is = absurd (cc is)
armed_most (Access gfn word op) z is = absurd (cc is)
armed_most (ChangeHost page change) z is = absurd (cc is)
armed_most (ChangeRun page change) z is = absurd (cc is)
armed_most (SetSlot id slot) z is = absurd (cc is)
armed_most (DeleteSlot id) z is = absurd (cc is)
armed_most (GetLog id) z is = absurd (cc is)
armed_most (Migrate call) z is = absurd (cc is)
armed_most (Split gfn) z is = absurd (cc is)
armed_most (ClearLog id first count words) z is = absurd (cc is)

-- Where it invalidates a slot it has as many as any.
invalidated_most : (slots : MemorySlots) (c : Command) (z : Sizes) → is_some (slot_invalidated slots c) ≡ true → 2 * z.vcpus + 5 * z.pages ≤ besides c z
invalidated_most slots (SetLog id on) z some = absurd (cc some)
invalidated_most slots (Access gfn word op) z some = omega arith
invalidated_most slots (ChangeHost page change) z some = omega arith
invalidated_most slots (ChangeRun page change) z some = omega arith
invalidated_most slots (SetSlot id slot) z some = omega arith
invalidated_most slots (DeleteSlot id) z some = omega arith
invalidated_most slots (GetLog id) z some = omega arith
invalidated_most slots (Migrate call) z some = omega arith
invalidated_most slots (Split gfn) z some = omega arith
invalidated_most slots (ClearLog id first count words) z some = omega arith

-- Few beside those of a claim, of 64 pages a word, of the invalidation of a slot, of five for each of its frames, or of its dirty log, and other actors.
pub slot_change_few : (p : SlotChangePlace) (command : Command) (h : Held) → h.topics.walk.level ≤ 4 → SlotChangeKnows p command h
    → slot_change_left p command h.state.sizes h.topics ≤ 665 + actors_of h.state.sizes + besides command h.state.sizes + words_of_bits h.state.sizes.pool
slot_change_few (Claim begun) command h most K =
    let few = claim_few Pages begun h.state.sizes h.topics.claim in
    let more = besides_few command h.state.sizes in
    omega (arith, few, more)
slot_change_few (Arm true) command h most K =
    let more = besides_few command h.state.sizes in
    let words = ap (λ (b : Bool). if b then words_of_bits h.state.sizes.pages else 0) K.3.arms in
    omega (arith, more, words)
slot_change_few (Arm false) command h most K =
    let more = besides_few command h.state.sizes in
    let words = ap (λ (b : Bool). if b then words_of_bits h.state.sizes.pages else 0) K.3.arms in
    omega (arith, more, words)
slot_change_few (WriteProtect range p) command h most K =
    let few = protect_few p h.state.sizes h.state.sizes range h.topics most K.1 in
    let pages = K.2.few in
    let arms_ = armed_most command h.state.sizes K.3 in
    omega (arith, few, pages, arms_)
slot_change_few (Begin p) command h most K =
    let z : Sizes = h.state.sizes in
    let own_ = h.topics.invalidations.own in
    let slot : Slot = slot_or_none (slot_invalidated h.slots command) in
    let pages = K.3.pages in
    let few = begin_few p z z (aim.Slot slot) z.pages h.topics most (λ F. let first = F.0 in let last = F.1 in omega (arith, first, last, pages)) K.1 in
    let none = none_armed h.slots command z K.2 in
    let all = invalidated_most h.slots command z K.2 in
    omega (arith, few, none, all)
slot_change_few (End p) command h most K =
    let few = end_few p in let more = besides_few command h.state.sizes in omega (arith, few, more)
slot_change_few _ command h most K = let more = besides_few command h.state.sizes in omega (arith, more)

-- So its command allows.
pub slot_change_allowed : (p : SlotChangePlace) (c : Command) (h : Held) → changes_slot c ≡ true → SlotChangeKnows p c h → AreSizes h.state.sizes
    → h.topics.walk.level ≤ 4 → slot_change_left p c h.state.sizes h.topics ≤ most_steps h.state.sizes c
slot_change_allowed p (Access gfn word op) h is K S most = absurd (cc is)
slot_change_allowed p (ChangeHost page change) h is K S most = absurd (cc is)
slot_change_allowed p (ChangeRun page change) h is K S most = absurd (cc is)
slot_change_allowed p (GetLog id) h is K S most = absurd (cc is)
slot_change_allowed p (ClearLog id first count words) h is K S most = absurd (cc is)
slot_change_allowed p (Split gfn) h is K S most = absurd (cc is)
slot_change_allowed p (SetLog id true) h is K S most =
    let few = slot_change_few p (SetLog id true) h most K in let actors = S.actors in omega (arith, few, actors)
slot_change_allowed p (SetLog id false) h is K S most =
    let few = slot_change_few p (SetLog id false) h most K in let actors = S.actors in omega (arith, few, actors)
slot_change_allowed p command h is K S most =
    let few = slot_change_few p command h most K in let actors = S.actors in omega (arith, few, actors)

pub some_change_left : (p : SlotChangePlace) (c : Command) (z : Sizes) (t : Topics) → 0 < slot_change_left p c z t
some_change_left (AtOnce refusal) c z t = omega arith
some_change_left (Begin p) c z t = omega arith
some_change_left (End p) c z t = omega arith
some_change_left (Arm true) c z t = omega arith
some_change_left (Arm false) c z t = omega arith
some_change_left _ c z t = omega arith
