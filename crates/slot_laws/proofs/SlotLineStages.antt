-- What a slot line can't do at its stages.
use Rattle.std.proofs.Common.{◌≡◌, ◌≢◌, ◌⊎◌, inl, inr, ℕ, Bool, true, false, List, ◌∷◌, ap, ◌∙◌}
use Rattle.std.specs.Prelude.{Some}
use Rattle.core_views.specs.declared.actor.Actor.{Actor}
use Rattle.core_views.specs.declared.answer.Answer.{Answer}
use Rattle.core_views.specs.declared.answer.Answer.TheVariants.{Bits, Copied, Done, HostFault, Image, Mmio, Moved, Paused, Reached, Refused, Starved}
use Rattle.core_views.specs.declared.trace.MigrationCall.{MigrationCall}
use Rattle.core_views.specs.declared.sizes.Sizes.{Sizes}
use Rattle.core_views.specs.declared.trace.Command.{Command}
use Rattle.core_views.specs.declared.trace.Command.TheVariants.{Access, ChangeHost, ChangeRun, ClearLog, DeleteSlot, GetLog, Migrate, SetLog, SetSlot, Split}
use Rattle.core_views.specs.Events.{logs_left}
use Rattle.core_views.specs.Flat.{Facts, Fresh, HasArmed, HasChanged, HasLeft, HasTaken, HasToCopy, HasToRead}
use Rattle.core_views.specs.Flat.{LineUnderWay, Notes, Stage}
use Rattle.core_views.specs.Lawful.{MayLeave, may_look}
use Rattle.core_views.specs.LogCommands.{log_read}
use Rattle.core_views.specs.SlotCommands.{changes_slot}
use Rattle.core_views.specs.SlotSets.{MemorySlots}

-- Only for want of a page a slot line is given up.
pub not_done : (z : Sizes) (f : Facts) (actor : Actor) (command : Command) (notes : Notes) (answer : Answer) → changes_slot command ≡ true
    → MayLeave z f actor command notes answer → answer ≢ Done
not_done z f actor (SetSlot id slot) notes Done is may = absurd may
not_done z f actor (DeleteSlot id) notes Done is may = absurd may
not_done z f actor (SetLog id on) notes Done is may = absurd may
not_done z f actor (Access gfn word op) notes answer is may = absurd (cc is)
not_done z f actor (ChangeHost page change) notes answer is may = absurd (cc is)
not_done z f actor (ChangeRun page change) notes answer is may = absurd (cc is)
not_done z f actor (GetLog id) notes answer is may = absurd (cc is)
not_done z f actor (ClearLog id first count words) notes answer is may = absurd (cc is)
not_done z f actor (Migrate call) notes answer is may = absurd (cc is)
not_done z f actor (Split gfn) notes answer is may = absurd (cc is)
not_done z f actor command notes Starved is may = λ e. cc e
not_done z f actor command notes Mmio is may = λ e. cc e
not_done z f actor command notes HostFault is may = λ e. cc e
not_done z f actor command notes (Reached frame value) is may = λ e. cc e
not_done z f actor command notes (Moved frame) is may = λ e. cc e
not_done z f actor command notes (Bits words) is may = λ e. cc e
not_done z f actor command notes Paused is may = λ e. cc e
not_done z f actor command notes (Copied pages) is may = λ e. cc e
not_done z f actor command notes (Image words) is may = λ e. cc e
not_done z f actor command notes (Refused refusal) is may = λ e. cc e

-- A line that has changed its slot isn't fresh, and reads no log.
pub not_fresh : (u : LineUnderWay) → (u.stage ≡ HasChanged) ⊎ (u.stage ≡ HasArmed) → u.stage ≡ Fresh → ⊥
not_fresh u (inl changed) fresh = cc (changed, fresh)
not_fresh u (inr armed) fresh = cc (armed, fresh)

pub not_taken : (u : LineUnderWay) (id : ℕ) → (u.stage ≡ HasChanged) ⊎ (u.stage ≡ HasArmed) → u.stage ≡ HasTaken id → ⊥
not_taken u id (inl changed) taken = cc (changed, taken)
not_taken u id (inr armed) taken = cc (armed, taken)

-- It reads no log.
pub reads_none : (command : Command) (id : ℕ) → changes_slot command ≡ true → log_read command ≡ Some id → ⊥
reads_none (GetLog i) id is reads = cc is
reads_none (ClearLog i first count words) id is reads = cc is
reads_none (SetSlot i slot) id is reads = cc reads
reads_none (DeleteSlot i) id is reads = cc reads
reads_none (SetLog i on) id is reads = cc reads
reads_none (Access gfn word op) id is reads = cc is
reads_none (ChangeHost page change) id is reads = cc is
reads_none (ChangeRun page change) id is reads = cc is
reads_none (Migrate call) id is reads = cc is
reads_none (Split gfn) id is reads = cc is

-- Nor is it one of a migration.
pub no_call : (command other : Command) (call : MigrationCall) → command ≡ other → other ≡ Migrate call → changes_slot command ≡ true → ⊥
no_call command other call same is changes = let not_ : changes_slot command ≡ false = ap changes_slot (same ∙ is) in cc (not_, changes)

-- Where it has changed its slot, or is given up, it looks at nothing, and reads nothing next.
abbrev pub is_over : Stage → Bool
is_over HasChanged = true
is_over HasArmed = true
is_over (HasLeft how) = true
is_over _ = false

pub no_look : (s : Stage) → is_over s ≡ true → may_look s ≡ true → ⊥
no_look Fresh over may = cc over
no_look (HasToCopy frames count word) over may = cc over
no_look _ over may = cc may

pub none_left : (slots : MemorySlots) (command : Command) (s : Stage) (id : ℕ) (ids : List ℕ) → is_over s ≡ true → logs_left slots command s ≡ id ∷ ids → ⊥
none_left slots command Fresh id ids over left = cc over
none_left slots command (HasToRead xs) id ids over left = cc over
none_left slots command _ id ids over left = cc left

pub is_past : (u : LineUnderWay) → (u.stage ≡ HasChanged) ⊎ (u.stage ≡ HasArmed) → is_over u.stage ≡ true
is_past u (inl changed) = ap is_over changed
is_past u (inr armed) = ap is_over armed

pub not_at : (s t : Stage) → is_over s ≡ true → s ≡ t → is_over t ≡ false → ⊥
not_at s t over is none = let not_ : is_over s ≡ false = ap is_over is ∙ none in cc (not_, over)
