-- Which histories flat guest memory allows.
use Rattle.std.specs.Prelude.{◌≡◌, ◌⊎◌, ℕ, Bool, List, [], ◌∷◌, Some, true, false}
use Rattle.core_views.specs.declared.actor.Actor.{Actor}
use Rattle.core_views.specs.declared.answer.Answer.{Answer}
use Rattle.core_views.specs.declared.answer.Answer.TheVariants.{Reached, Mmio, HostFault, Starved, Paused, Done, Bits, Refused}
use Rattle.core_views.specs.declared.answer.Refusal.TheVariants.{IsHuge, NotAligned, NoFrame}
use Rattle.core_views.specs.declared.event.Event.{Event}
use Rattle.core_views.specs.declared.event.EventKind.{EventKind}
use Rattle.core_views.specs.declared.event.EventKind.TheVariants.{Begun, LookedAtPause, LookedAtSlots, LookedAtHost, BroughtIn, Accessed, Exited, SlotChanged}
use Rattle.core_views.specs.declared.event.EventKind.TheVariants.{HostChanged, Armed, Taken, Harvested, Shown, Answered}
use Rattle.core_views.specs.declared.event.EventKind.TheVariants.{GuestStopped, MigrationStarted, PauseSet, Resumed, WordCopied}
use Rattle.core_views.specs.declared.trace.MigrationCall.TheVariants.{Start, Finish, Resume}
use Rattle.core_views.specs.Migrations.{is_stopped}
use Rattle.core_views.specs.declared.trace.Command.{Command}
use Rattle.core_views.specs.declared.trace.Command.TheVariants.{Access, ChangeHost, ChangeRun, DeleteSlot, Migrate, SetLog, SetSlot, Split}
use Rattle.core_views.specs.declared.trace.HostChange.{HostChange}
use Rattle.core_views.specs.declared.trace.HostChange.TheVariants.{Move}
use Rattle.core_views.specs.declared.host.HostEntry.{HostEntry}
use Rattle.core_views.specs.declared.sizes.Sizes.{Sizes}
use Rattle.core_views.specs.declared.trace.Op.{Op}
use Rattle.core_views.specs.Slots.{page_behind}
use Rattle.core_views.specs.SlotSets.{flat_slots}
use Rattle.core_views.specs.SlotCommands.{arms}
use Rattle.core_views.specs.LogCommands.{bits_for, is_all_set, log_read}
use Rattle.core_views.specs.Host.{is_huge}
use Rattle.core_views.specs.HostChanges.{Agree, Changes, host_answer}
use Rattle.core_views.specs.Names.{named_frame}
use Rattle.core_views.specs.Past.{Past}
use Rattle.core_views.specs.Flat.{Facts, Notes, LineUnderWay, Flat, Stage, Idle, Fresh, HasAccessed, HasLeft, HasChanged, HasArmed, HasTaken, HasRead}
use Rattle.core_views.specs.Flat.{HasCalled, HasChangedHost, HasSetPause, HasTakenNext, HasToCopy, HasToRead, HasToSet}
use Rattle.core_views.specs.Events.{after}
pub use Rattle.core_views.specs.Harvests.{IsHarvest, MayRead, slot_at, slot_read}
pub use Rattle.core_views.specs.Seen.{SawAbsent, SawForbidden, SawHuge, SawNoPage, SawPage, SawSmall}
pub use Rattle.core_views.specs.SeenRuns.{MaySetNext, MaySetRun, SawHugeOne, SawRun, SawUnaligned}
pub use Rattle.core_views.specs.SlotCommands.{slot_change}
pub use Rattle.core_views.specs.AtOnce.{answer_unbarred, answer_at_once, HasWork}
pub use Rattle.core_views.specs.Copies.{CopiesNext, MayHarvest, MayReadNext, copied_answer}

-- The access reaches the frame that slots and host name now, at a word that holds `before`, while the guest isn't stopped.
pub record Reaches (f : Facts) (gfn word : ℕ) (op : Op) (frame before : ℕ) : Type 0 where
  pub named : named_frame (flat_slots f.slots) f.host gfn op ≡ Some frame
  pub page : ℕ
  pub behind : page_behind (flat_slots f.slots) gfn op ≡ Some page
  pub value_is : f.memory page word ≡ before
  pub goes : is_stopped f.migration ≡ false

-- The line under way may bring this host page in.
abbrev pub BringsIn : Facts → Command → Notes → ℕ → Type 0
BringsIn f (Access gfn word op) notes page = SawAbsent f notes gfn op page
BringsIn _ _ _ _ = ⊥

-- The line is one of the page's owner and asks for this change of it, has something to do, and looked at the page, which was small, and has since been
-- brought in at most.
pub record MayChangeHost (z : Sizes) (f : Facts) (actor : Actor) (command : Command) (notes : Notes) (page : ℕ) (entry : HostEntry) : Type 0 where
  pub change : HostChange
  pub asked : command ≡ ChangeHost page change
  pub works : HasWork z f actor command
  pub seen : HostEntry
  pub looked : notes.host page ≡ Some seen
  pub small : is_huge seen ≡ false
  pub agrees : Agree seen (f.host page)
  pub changes : Changes z f.host page change entry

-- The actor's line under way may be given up with this answer. That no pool page was free is no fact of flat memory, nor that no free frame was found for
-- a move. But a line that has nothing to do wants none, a split aside, an access wants a pool page, for a table, only once it has seen its page, and a move a
-- frame once it has seen that its page is small.
abbrev pub MayLeave : Sizes → Facts → Actor → Command → Notes → Answer → Type 0
MayLeave z f actor (Access gfn word op) notes Paused = notes.paused ≡ Some true
MayLeave z f actor (Access gfn word op) notes Mmio = SawNoPage notes gfn op
MayLeave z f actor (Access gfn word op) notes HostFault = SawForbidden notes gfn op
MayLeave z f actor (Access gfn word op) notes Starved = HasWork z f actor (Access gfn word op) × SawPage notes gfn op
MayLeave z f actor (SetSlot id slot) notes Starved = HasWork z f actor (SetSlot id slot)
MayLeave z f actor (DeleteSlot id) notes Starved = HasWork z f actor (DeleteSlot id)
MayLeave z f actor (SetLog id on) notes Starved = HasWork z f actor (SetLog id on)
MayLeave z f actor (ChangeHost page change) notes (Refused IsHuge) = HasWork z f actor (ChangeHost page change) × SawHuge notes page
MayLeave z f actor (ChangeRun page change) notes (Refused IsHuge) = HasWork z f actor (ChangeRun page change) × SawHugeOne notes page change
MayLeave z f actor (ChangeRun page change) notes (Refused NotAligned) = HasWork z f actor (ChangeRun page change) × SawUnaligned notes page change
MayLeave z f actor (ChangeHost page Move) notes (Refused NoFrame) = HasWork z f actor (ChangeHost page Move) × SawSmall notes page
MayLeave z f actor (Split gfn) notes Starved = Unit {0}
MayLeave _ _ _ _ _ _ = ⊥

-- The line's own events tell this answer, or it has none, and is answered so at once.
abbrev pub Tells : Sizes → Facts → Actor → Command → Stage → Answer → Type 0
Tells z f actor command (HasAccessed frame value) answer = answer ≡ Reached frame value
Tells z f actor command (HasLeft how) answer = answer ≡ how
Tells z f actor command HasChanged answer = (answer ≡ Done) × (arms command ≡ false)
Tells z f actor command HasArmed answer = answer ≡ Done
Tells z f actor command (HasTaken id) answer = ⊥
Tells z f actor command (HasRead frames) answer = answer ≡ Bits (bits_for command (slot_read f.slots command) frames)
Tells z f actor command (HasChangedHost entry) answer = answer ≡ host_answer command entry
Tells z f actor command (HasToSet page left level) answer = (left ≡ 0) × (answer ≡ Done)
Tells z f actor command HasCalled answer = answer ≡ Done
Tells z f actor command HasSetPause answer = ⊥
Tells z f actor command (HasToRead ids) answer = ⊥
Tells z f actor command (HasTakenNext id ids) answer = ⊥
Tells z f actor command (HasToCopy frames count word) answer = (frames ≡ []) × (answer ≡ copied_answer z command count f)
Tells z f actor command Idle answer = ⊥
Tells z f actor command Fresh answer = answer_at_once z f.slots f.migration actor command ≡ Some answer

-- A line looks at host pages before it has done anything, and one of a migration while it copies.
abbrev pub may_look : Stage → Bool
may_look Fresh = true
may_look (HasToCopy frames count word) = true
may_look _ = false

-- The actor, with this line under way, may do this next. Of the past a reading of a log depends alone.
abbrev pub IsAllowed : Sizes → Facts → Past → Actor → LineUnderWay → EventKind → Type 0
IsAllowed z f past actor u (Begun line) = (u.stage ≡ Idle) × (line.actor ≡ actor)
IsAllowed z f past actor u LookedAtPause = u.stage ≡ Fresh
IsAllowed z f past actor u LookedAtSlots = u.stage ≡ Fresh
IsAllowed z f past actor u (LookedAtHost page) = may_look u.stage ≡ true
IsAllowed z f past actor u (BroughtIn page) = (u.stage ≡ Fresh) × BringsIn f u.line.command u.notes page
IsAllowed z f past actor u (Accessed gfn word op frame before) =
    (u.stage ≡ Fresh) × (u.line.command ≡ Access gfn word op) × (u.notes.paused ≡ Some false) × Reaches f gfn word op frame before
IsAllowed z f past actor u (Exited answer) = (u.stage ≡ Fresh) × MayLeave z f actor u.line.command u.notes answer
IsAllowed z f past actor u (SlotChanged id slot) =
    (u.stage ≡ Fresh) × HasWork z f actor u.line.command × (slot_change f.slots u.line.command ≡ Some (id, slot))
IsAllowed z f past actor u (Armed id all) = (u.stage ≡ HasChanged) × (u.line.command ≡ SetLog id true) × (all ≡ is_all_set z.mode)
IsAllowed z f past actor u (Taken id) =
    ((u.stage ≡ Fresh) × HasWork z f actor u.line.command × (log_read u.line.command ≡ Some id)) ⊎ MayReadNext z f actor u id
IsAllowed z f past actor u (Harvested id frames) =
    MayRead z f past u.line.command u.stage id frames true ⊎ MayHarvest f past u.line.command u.stage id frames
IsAllowed z f past actor u (Shown id frames) = MayRead z f past u.line.command u.stage id frames false
IsAllowed z f past actor u (HostChanged page entry) =
    ((u.stage ≡ Fresh) × MayChangeHost z f actor u.line.command u.notes page entry)
    ⊎ (((u.stage ≡ Fresh) × MaySetRun z f actor u.line.command u.notes page entry) ⊎ MaySetNext f u.line.command u.stage page entry)
IsAllowed z f past actor u MigrationStarted = (u.stage ≡ Fresh) × HasWork z f actor u.line.command × (u.line.command ≡ Migrate Start)
IsAllowed z f past actor u PauseSet = (u.stage ≡ Fresh) × HasWork z f actor u.line.command × (u.line.command ≡ Migrate Finish)
IsAllowed z f past actor u GuestStopped = u.stage ≡ HasSetPause
IsAllowed z f past actor u (WordCopied gfn page word value whole) = CopiesNext z f u.stage gfn page word value whole
IsAllowed z f past actor u Resumed = (u.stage ≡ Fresh) × HasWork z f actor u.line.command × (u.line.command ≡ Migrate Resume)
IsAllowed z f past actor u (Answered line answer) = (line ≡ u.line.number) × Tells z f actor u.line.command u.stage answer

-- Each event of the history is allowed in the state that the events before it give.
abbrev pub IsLawful : Sizes → Flat → List Event → Type 0
IsLawful z f [] = Unit {0}
IsLawful z f (e ∷ es) = IsAllowed z f.facts f.past e.actor (f.under e.actor) e.kind × IsLawful z (after e f) es
