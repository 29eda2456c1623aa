-- The flat history of a trace: each line runs alone, in file order.
use Rattle.std.specs.Prelude.{ℕ, List, [], ◌∷◌, ◌++◌, Bool, true, false, Option, Some, None, if◌then◌else◌}
use Rattle.core_views.specs.declared.answer.Answer.{Answer}
use Rattle.core_views.specs.declared.answer.Answer.TheVariants.{Reached, Mmio, HostFault, Paused, Done, Bits}
use Rattle.core_views.specs.declared.event.Event.{Event}
use Rattle.core_views.specs.declared.event.EventKind.{EventKind}
use Rattle.core_views.specs.declared.event.EventKind.TheVariants.{Begun, LookedAtPause, LookedAtSlots, LookedAtHost, BroughtIn, Accessed, Exited, SlotChanged}
use Rattle.core_views.specs.declared.event.EventKind.TheVariants.{Armed, Taken, Harvested, Shown}
use Rattle.core_views.specs.Migrations.{is_paused}
use Rattle.core_views.specs.declared.trace.Command.{Command}
use Rattle.core_views.specs.declared.trace.Command.TheVariants.{Access, ChangeHost, ChangeRun, ClearLog, GetLog, Migrate, SetLog}
use Rattle.core_views.specs.declared.sizes.Sizes.{Sizes}
use Rattle.core_views.specs.Sizes.{sizes_of}
use Rattle.core_views.specs.declared.trace.Line.{Line}
use Rattle.core_views.specs.declared.trace.Op.{Op}
use Rattle.core_views.specs.declared.memory_slot.MemorySlot.{MemorySlot}
use Rattle.core_views.specs.declared.trace.Trace.{Trace}
use Rattle.core_views.specs.Host.{is_denied, is_huge}
use Rattle.core_views.specs.HostChanges.{host_answer, is_own}
use Rattle.core_views.specs.HostRuns.{level_set, owns_run, run_count, run_first, run_refusal}
use Rattle.core_views.specs.Slots.{page_behind}
use Rattle.core_views.specs.SlotSets.{flat_slots}
use Rattle.core_views.specs.Flat.{Facts, Stage, Idle, Fresh, HasAccessed, HasLeft, HasChanged, HasArmed, HasTaken, HasRead, HasChangedHost, first_facts}
use Rattle.core_views.specs.Flat.{HasCalled, HasSetPause, HasTakenNext, HasToCopy, HasToRead, HasToSet}
use Rattle.core_views.specs.LogCommands.{asked_frames, bits_for, is_all_set, takes_out}
use Rattle.core_views.specs.Events.{facts_after_all}
use Rattle.core_views.specs.Lawful.{answer_at_once, slot_change, slot_read}
pub use Rattle.core_views.specs.FlatMigrations.{by, answers, copying_page, page_copied, words_copied, copying}
pub use Rattle.core_views.specs.FlatRuns.{changing_host, moving, unless_huge}
pub use Rattle.core_views.specs.FlatRuns.{looking_around, looking_at_run, looking_on, setting_kind, setting_run, unless_refused}
pub use Rattle.core_views.specs.FlatMigrations.{dirty_read, reading_logs, reading_next, stopping, migrating}

-- An access brings its page in that isn't present.
abbrev pub bringing : Line → ℕ → Bool → List Event
bringing line page true = []
bringing line page false = by line (BroughtIn page) ∷ []

-- An access of a page leaves the guest where the host forbids it, and else reaches the page's word, once the page is present.
abbrev pub reaching : Line → ℕ → ℕ → Op → Facts → ℕ → Bool → List Event
reaching line gfn word op f page true = by line (Exited HostFault) ∷ answers line HostFault
reaching line gfn word op f page false =
    bringing line page (f.host page).present
    ++ (by line (Accessed gfn word op (f.host page).frame (f.memory page word)) ∷ answers line (Reached (f.host page).frame (f.memory page word)))

-- An access leaves the guest where no page is behind its frame.
abbrev pub accessing : Line → ℕ → ℕ → Op → Facts → Option ℕ → List Event
accessing line gfn word op f None = by line (Exited Mmio) ∷ answers line Mmio
accessing line gfn word op f (Some page) = reaching line gfn word op f page (is_denied op (f.host page))

-- While the guest is paused an access isn't made.
abbrev pub unless_paused : Line → Bool → List Event → List Event
unless_paused line true rest = by line (Exited Paused) ∷ answers line Paused
unless_paused line false rest = rest

-- A line that has changed a slot is done, and one that has given the slot a dirty log arms it before.
abbrev pub arming : Sizes → Line → Command → List Event
arming z line (SetLog id true) = by line (Armed id (is_all_set z.mode)) ∷ answers line Done
arming z line _ = answers line Done

-- A line that changes the slot at an ID makes this change, and goes on so.
abbrev pub changing : Line → Option (ℕ × Option MemorySlot) → List Event → List Event
changing line None rest = []
changing line (Some change) rest = by line (SlotChanged change.0 change.1) ∷ rest

-- A line that reads a log reads all dirty frames for which it asks, and takes them out of the log, or doesn't.
abbrev pub harvest : Bool → ℕ → List ℕ → EventKind
harvest true id frames = Harvested id frames
harvest false id frames = Shown id frames

abbrev pub reading : Sizes → Line → Command → ℕ → Facts → List Event
reading z line command id f =
    let frames : List ℕ = asked_frames f.pending command (slot_read f.slots command) in
    by line (harvest (takes_out z.mode command) id frames) ∷ answers line (Bits (bits_for command (slot_read f.slots command) frames))

-- what a line does that has something to do
abbrev pub working : Sizes → Line → Command → Facts → List Event
working z line (Access gfn word op) f =
    unless_paused line (is_paused f.migration) (accessing line gfn word op f (page_behind (flat_slots f.slots) gfn op))
working z line (ChangeHost page change) f = unless_huge line (is_huge (f.host page)) (changing_host z line page change f)
working z line (ChangeRun page change) f =
    unless_refused line (run_refusal f.host page change)
    (setting_run line (run_first change page (f.host page)) (run_count change (f.host page)) (level_set change) f)
working z line (GetLog id) f = by line (Taken id) ∷ reading z line (GetLog id) id f
working z line (ClearLog id first count words) f = by line (Taken id) ∷ reading z line (ClearLog id first count words) id f
working z line (Migrate call) f = migrating z line call f
working z line command f = changing line (slot_change f.slots command) (arming z line command)

-- A line that has nothing to do is answered at once, and changes nothing.
abbrev pub doing_by : Sizes → Line → Command → Facts → Option Answer → List Event
doing_by z line command f None = working z line command f
doing_by z line command f (Some answer) = answers line answer

abbrev pub doing : Sizes → Line → Command → Facts → List Event
doing z line command f = doing_by z line command f (answer_at_once z f.slots f.migration line.actor command)

-- what is left of a line, from each stage on
abbrev pub rest_of : Sizes → Line → Stage → Facts → List Event
rest_of z line Idle f = []
rest_of z line Fresh f = doing z line line.command f
rest_of z line (HasAccessed frame value) f = answers line (Reached frame value)
rest_of z line (HasLeft answer) f = answers line answer
rest_of z line HasChanged f = arming z line line.command
rest_of z line HasArmed f = answers line Done
rest_of z line (HasTaken id) f = reading z line line.command id f
rest_of z line (HasRead frames) f = answers line (Bits (bits_for line.command (slot_read f.slots line.command) frames))
rest_of z line HasCalled f = answers line Done
rest_of z line HasSetPause f = stopping z line line.command f
rest_of z line (HasToRead ids) f = reading_logs z line line.command ids f
rest_of z line (HasTakenNext id ids) f = reading_next z line line.command id ids f
rest_of z line (HasToCopy frames count word) f = copying z line line.command frames count word f
rest_of z line (HasChangedHost entry) f = answers line (host_answer line.command entry)
rest_of z line (HasToSet page left level) f = setting_run line page left level f

-- what a line looks at before it does anything: an access at the pause, at the slots, and at the host page that they give it; a host line at its page,
-- where it is the actor's own
abbrev pub looks_behind : Line → Option ℕ → List Event
looks_behind line None = []
looks_behind line (Some page) = by line (LookedAtHost page) ∷ []

abbrev pub looks : Sizes → Line → Command → Facts → List Event
looks z line (Access gfn word op) f = by line LookedAtPause ∷ by line LookedAtSlots ∷ looks_behind line (page_behind (flat_slots f.slots) gfn op)
looks z line (ChangeHost page change) f = if is_own z line.actor page then by line (LookedAtHost page) ∷ [] else []
looks z line (ChangeRun page change) f = if owns_run z line.actor page change then looking_at_run line page change f.host else []
looks z line _ f = []

-- the whole line, alone
abbrev pub alone : Sizes → Line → Facts → List Event
alone z line f = by line (Begun line) ∷ (looks z line line.command f ++ rest_of z line Fresh f)

-- the lines one after another, each alone
abbrev pub one_by_one : Sizes → List Line → Facts → List Event
one_by_one z [] f = []
one_by_one z (line ∷ lines) f = alone z line f ++ one_by_one z lines (facts_after_all (alone z line f) f)

abbrev pub flat_history : Trace → List Event
flat_history trace = one_by_one (sizes_of trace.header) trace.lines first_facts
