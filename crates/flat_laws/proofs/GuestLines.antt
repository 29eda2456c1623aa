-- Lines of guests and host threads: which events they tell.
use Rattle.std.proofs.Common.{◌≡◌, ◌⊎◌, inl, inr, ℕ, Bool, true, false, ◌∷◌, refl, ap, ◌∙◌}
use Rattle.std.specs.Prelude.{Option, Some}
use Rattle.core_views.specs.declared.actor.Actor.{Actor}
use Rattle.core_views.specs.declared.event.EventKind.{EventKind}
use Rattle.core_views.specs.declared.event.EventKind.TheVariants.{Begun, LookedAtPause, LookedAtSlots, LookedAtHost, BroughtIn, Accessed, Exited, SlotChanged}
use Rattle.core_views.specs.declared.event.EventKind.TheVariants.{HostChanged, Armed, Taken, Harvested, Shown, Answered}
use Rattle.core_views.specs.declared.event.EventKind.TheVariants.{GuestStopped, MigrationStarted, PauseSet, Resumed, WordCopied}
use Rattle.core_views.specs.declared.sizes.Sizes.{Sizes}
use Rattle.core_views.specs.declared.memory_slot.MemorySlot.{MemorySlot}
use Rattle.core_views.specs.declared.trace.Command.{Command}
use Rattle.core_views.specs.declared.trace.Command.TheVariants.{Access, ChangeHost, ChangeRun, Migrate, Split}
use Rattle.core_views.specs.declared.trace.MigrationCall.TheVariants.{Start, Finish, Resume}
use Rattle.core_views.specs.Events.{under_after}
use Rattle.core_views.specs.Flat.{Facts, Idle, Fresh, HasAccessed, HasChanged, HasChangedHost, HasToSet, HasLeft, HasSetPause, HasTaken, HasTakenNext}
use Rattle.core_views.specs.Flat.{HasToCopy, LineUnderWay, Stage}
use Rattle.core_views.specs.Lawful.{IsAllowed}
use Rattle.core_views.specs.LogCommands.{log_read}
use Rattle.core_views.specs.Past.{Past}
use Rattle.core_views.specs.SlotCommands.{slot_change}
use Rattle.core_views.specs.SlotSets.{MemorySlots}
use Rattle.flat_laws.specs.Images.{LeavesManaging, manages}
use Rattle.flat_laws.proofs.StagesGoOn.{was_busy}
use Rattle.core_views.proofs.RunStages.{each_change}

-- A stage of such a line; no line is under way, or one of these.
abbrev pub is_guests : Stage → Bool
is_guests Fresh = true
is_guests (HasAccessed frame value) = true
is_guests (HasLeft answer) = true
is_guests (HasChangedHost entry) = true
is_guests (HasToSet page left level) = true
is_guests _ = false

abbrev pub IsGuests : LineUnderWay → Type 0
IsGuests u = (u.stage ≡ Idle) ⊎ ((manages u.line.command ≡ false) × (is_guests u.stage ≡ true))

-- An event of such a line.
abbrev pub IsOfGuests : EventKind → Type 0
IsOfGuests (Begun line) = Unit {0}
IsOfGuests LookedAtPause = Unit {0}
IsOfGuests LookedAtSlots = Unit {0}
IsOfGuests (LookedAtHost page) = Unit {0}
IsOfGuests (BroughtIn page) = Unit {0}
IsOfGuests (Accessed gfn word op frame before) = Unit {0}
IsOfGuests (Exited answer) = Unit {0}
IsOfGuests (HostChanged page entry) = Unit {0}
IsOfGuests (Answered number answer) = Unit {0}
IsOfGuests _ = ⊥

at_none : {X : Type 0} (s t : Stage) → s ≡ t → is_guests t ≡ false → is_guests s ≡ true → X
at_none s t is none guests = let not_ : is_guests s ≡ false = ap is_guests is ∙ none in absurd (cc (not_, guests))

not_managed : {X : Type 0} (command other : Command) → command ≡ other → manages other ≡ true → manages command ≡ false → X
not_managed command other is does none = let does_so : manages command ≡ true = ap manages is ∙ does in absurd (cc (does_so, none))

changes_none : (slots : MemorySlots) (command : Command) (id : ℕ) (slot : Option MemorySlot) → manages command ≡ false
    → slot_change slots command ≡ Some (id, slot) → ⊥
changes_none slots (Access gfn word op) id slot none is = cc is
changes_none slots (ChangeHost page change) id slot none is = cc is
changes_none slots (ChangeRun page change) id slot none is = cc is
changes_none slots (Split gfn) id slot none is = cc is
changes_none slots _ id slot none is = cc none

reads_none : (command : Command) (id : ℕ) → manages command ≡ false → log_read command ≡ Some id → ⊥
reads_none (Access gfn word op) id none is = cc is
reads_none (ChangeHost page change) id none is = cc is
reads_none (ChangeRun page change) id none is = cc is
reads_none (Split gfn) id none is = cc is
reads_none _ id none is = cc none

pub guests_tell : (z : Sizes) (f : Facts) (past : Past) (a : Actor) (v : LineUnderWay) (kind : EventKind) → IsAllowed z f past a v kind → IsGuests v
    → IsOfGuests kind
guests_tell z f past a v (Begun line) may G = tt
guests_tell z f past a v (Answered number answer) may G = tt
guests_tell z f past a v kind may (inl idle) = by kind may
  where
    by : (k : EventKind) → IsAllowed z f past a v k → IsOfGuests k
    by (Begun line) m = tt
    by (Answered number answer) m = tt
    by k m = absurd (was_busy z f past a v k tt m idle)
guests_tell z f past a v (SlotChanged id slot) may (inr G) = changes_none f.slots v.line.command id slot G.0 may.2
guests_tell z f past a v (Armed id all) may (inr G) = at_none v.stage HasChanged may.0 refl G.1
guests_tell z f past a v (Taken id) (inl may) (inr G) = reads_none v.line.command id G.0 may.2
guests_tell z f past a v (Taken id) (inr may) (inr G) = not_managed v.line.command (Migrate may.call) may.asked refl G.0
guests_tell z f past a v (Harvested id frames) (inl may) (inr G) = at_none v.stage (HasTaken id) may.begun refl G.1
guests_tell z f past a v (Harvested id frames) (inr may) (inr G) = at_none v.stage (HasTakenNext id may.ids) may.begun refl G.1
guests_tell z f past a v (Shown id frames) may (inr G) = at_none v.stage (HasTaken id) may.begun refl G.1
guests_tell z f past a v MigrationStarted may (inr G) = not_managed v.line.command (Migrate Start) may.2 refl G.0
guests_tell z f past a v PauseSet may (inr G) = not_managed v.line.command (Migrate Finish) may.2 refl G.0
guests_tell z f past a v Resumed may (inr G) = not_managed v.line.command (Migrate Resume) may.2 refl G.0
guests_tell z f past a v GuestStopped may (inr G) = at_none v.stage HasSetPause may refl G.1
guests_tell z f past a v (WordCopied gfn page word value whole) may (inr G) =
    at_none v.stage (HasToCopy (gfn ∷ may.frames) may.count word) may.left refl G.1
guests_tell z f past a v _ may (inr G) = tt

-- The line stays one.
on : (z : Sizes) (f : Facts) (past : Past) (migrator a : Actor) (v : LineUnderWay) (kind : EventKind) → IsOfGuests kind → IsAllowed z f past a v kind
    → LeavesManaging migrator a kind → (a ≡ migrator → ⊥) → IsGuests v → IsGuests (under_after kind f v)
on z f past migrator a v (Begun line) of may (inl mine) other G = absurd (other mine)
on z f past migrator a v (Begun line) of may (inr none) other G = inr (none, refl)
on z f past migrator a v (Answered number answer) of may leaves other G = inl refl
on z f past migrator a v LookedAtPause of may leaves other G = G
on z f past migrator a v LookedAtSlots of may leaves other G = G
on z f past migrator a v (LookedAtHost page) of may leaves other G = G
on z f past migrator a v (BroughtIn page) of may leaves other G = G
on z f past migrator a v (Accessed gfn word op frame before) of may leaves other (inl idle) = let is = may.0 in absurd (cc (is, idle))
on z f past migrator a v (Accessed gfn word op frame before) of may leaves other (inr G) = inr (G.0, refl)
on z f past migrator a v (Exited answer) of may leaves other (inl idle) = let is = may.0 in absurd (cc (is, idle))
on z f past migrator a v (Exited answer) of may leaves other (inr G) = inr (G.0, refl)
on z f past migrator a v (HostChanged page entry) of may leaves other (inl idle) = absurd (was_busy z f past a v (HostChanged page entry) tt may idle)
on z f past migrator a v (HostChanged page entry) of may leaves other (inr G) =
    inr (G.0, each_change (λ s. is_guests s ≡ true) (λ e. refl) (λ p l n. refl) v.line.command f.host v.stage page entry)
on z f past migrator a v _ of may leaves other G = absurd of

pub stays_guests : (z : Sizes) (f : Facts) (past : Past) (migrator a : Actor) (v : LineUnderWay) (kind : EventKind) → IsAllowed z f past a v kind
    → LeavesManaging migrator a kind → (a ≡ migrator → ⊥) → IsGuests v → IsGuests (under_after kind f v)
stays_guests z f past migrator a v kind may leaves other G = on z f past migrator a v kind (guests_tell z f past a v kind may G) may leaves other G
