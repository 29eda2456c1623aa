-- What is so of the lines of every form: a form of line writes a clause in `laws_at`, and in each of those that are told by the command.
use Rattle.mmu_core.specs.forms.host.HostKnows.{is_move}
use Rattle.mmu_core.proofs.forms.host.HostPlaces.{host_fed}
use Rattle.core_views.specs.declared.trace.HostChange.{HostChange}
use Rattle.core_views.specs.declared.trace.RunChange.{RunChange}
use Rattle.core_views.specs.declared.trace.HostChange.TheVariants.{Move, Evict, Protect, Allow}
use Rattle.std.proofs.Common.{◌≡◌, ◌⊎◌, ℕ, refl, ◌≢◌}
use Rattle.std.specs.Prelude.{Bool, List, None, true, false}
use Rattle.core_views.specs.declared.answer.Answer.{Answer}
use Rattle.core_views.specs.declared.answer.Answer.TheVariants.{Starved}
use Rattle.core_views.specs.declared.place.HostRunPlace.TheVariants.{Look}
use Rattle.core_views.specs.declared.place.Place.{Place}
use Rattle.core_views.specs.declared.place.Place.TheVariants as place
use Rattle.core_views.specs.declared.sizes.Sizes.{Sizes}
use Rattle.core_views.specs.declared.topics.Topics.{Topics}
use Rattle.core_views.specs.declared.trace.Command.{Command}
use Rattle.core_views.specs.declared.actor.Actor.{Actor}
use Rattle.core_views.specs.declared.actor.Actor.TheVariants.{Vcpu, Host, Manager, Worker}
use Rattle.core_views.specs.declared.trace.Command.TheVariants.{Access, ChangeHost, ChangeRun, ClearLog, DeleteSlot, GetLog, Migrate, SetLog, SetSlot, Split}
use Rattle.core_views.specs.declared.trace.MigrationCall.{MigrationCall}
use Rattle.core_views.specs.Traces.{IsCommandFor, IsRunChange}
use Rattle.core_views.specs.LogCommands.{read_refusal, takes_out}
use Rattle.core_views.specs.declared.trace.Op.{Op}
use Rattle.core_views.specs.declared.trace.Op.TheVariants.{Read}
use Rattle.mmu_core.specs.declared.outcome.Outcome.{Outcome}
use Rattle.core_views.specs.Held.{Held}
use Rattle.core_views.specs.HostChanges.{moves_page}
use Rattle.core_views.specs.SlotCommands.{change_at_once, changes_slot}
use Rattle.core_views.specs.SlotSets.{MemorySlots}
use Rattle.part_steps.specs.PartSteps.{IsAtRest}
use Rattle.mmu_core.specs.lines.Forms.{KnowsPart, Holds, AcceptsAt, RestsAt, first_place, is_first, is_for, outcome_at, tells_at}
use Rattle.spte_words.specs.declared.area.Area.{Area}
use Rattle.mmu_core.specs.alone.AloneKnows.{FormAlone}
use Rattle.mmu_core.specs.declared.outcome.Outcome.TheVariants.{Ends, Goes}
use Rattle.mmu_core.specs.lines.Delays.{line_waits, begins_anew}
use Rattle.mmu_core.specs.lines.Rests.{IsUnderWay}
use Rattle.mmu_core.proofs.machine.GoesOn.{GoesToNoAccess, GoesToSimple, GoesUnderWay, GoesWithin, IsNoAccess, IsSimple}
use Rattle.mmu_core.proofs.slots.LiveStays.{OwnedStays}
use Rattle.mmu_core.proofs.forms.slot_change.SlotChangePlaces.{change_begins, slot_change_begins, slot_change_begins_known}
use Rattle.mmu_core.proofs.forms.slot_change.SlotChangeClaims.{begins_without_scan}
use Rattle.mmu_core.proofs.forms.host.HostClaims.{host_begins_without}
use Rattle.mmu_core.proofs.forms.log.LogFirst.{HavePages, log_begins, log_first_known}
use Rattle.mmu_core.proofs.forms.log.LogTold.{log_fed, log_scans_none}
use Rattle.mmu_core.specs.forms.log.LogSteps.{log_first}
use Rattle.mmu_core.proofs.forms.access.AccessEnds.{access_laws}
use Rattle.mmu_core.proofs.forms.host.HostPlaces.{host_laws}
use Rattle.mmu_core.proofs.forms.host_run.HostRunPlaces.{host_run_fed}
use Rattle.mmu_core.proofs.forms.host_run.HostRunTold.{host_run_laws, run_scans_none}
use Rattle.mmu_core.proofs.forms.log.LogTold.{log_laws}
use Rattle.mmu_core.proofs.forms.slot_change.SlotChangeTold.{slot_change_laws}
use Rattle.mmu_core.proofs.forms.split.SplitClaims.{split_begins_without}
use Rattle.mmu_core.proofs.forms.split.SplitTold.{split_laws}
pub use Rattle.mmu_core.proofs.lines.FormLaws.{RestsOnPart}
use Rattle.mmu_core.proofs.lines.FormLaws.{FormLaws, between_laws}
use Rattle.mmu_core.proofs.lines.SimplePlaces.{SimplePlace, Told, Nothing, Arms, ArmsClean, Exit, Change, OfAccess, OfHost, OfHostRun, OfLog}
use Rattle.mmu_core.proofs.forms.access.AccessEnds.{AreFed, access_fed, exit_fed}
use Rattle.mmu_core.specs.orders.ClaimSteps.{FreeMap, Pages, Frames}
use Rattle.mmu_core.specs.lines.ScanPlaces.{HasScan}
use Rattle.core_views.specs.declared.event.EventKind.{EventKind}

-- ---- by its place

-- what laws ask of each place
pub laws_at : (p : Place) (c : Command) → FormLaws p c
laws_at place.Between c = between_laws c
laws_at (place.Access p) c = access_laws p c
laws_at (place.SlotChange p) c = slot_change_laws p c
laws_at (place.Host p) c = host_laws p c
laws_at (place.HostRun p) c = host_run_laws p c
laws_at (place.Log p) c = log_laws p c
laws_at (place.Split p) c = split_laws p c

-- A place of a simple form: its one row of all that laws ask of it.
pub simple_place : (p : Place) (command : Command) (h : Held) (v : ℕ) → IsSimple p → SimplePlace p command h v
simple_place p command h v simple = (laws_at p command).simple h v simple

pub outcome_goes : (p : Place) (command : Command) (h : Held) (v : ℕ) → IsUnderWay p → GoesUnderWay (outcome_at p command h v)
outcome_goes p command h v begun = (laws_at p command).goes h v begun

-- It goes on to places of its form: so one that is no access to no place of one, and a simple one to simple ones.
pub outcome_within : (p : Place) (command : Command) (h : Held) (v : ℕ) → GoesWithin p (outcome_at p command h v)
outcome_within p command h v = (laws_at p command).within h v

pub outcome_apart : (p : Place) (command : Command) (h : Held) (v : ℕ) → IsNoAccess p → GoesToNoAccess (outcome_at p command h v)
outcome_apart p command h v other = by (outcome_at p command h v) (outcome_within p command h v)
  where
    none : (p : Place) → IsNoAccess p → true ≡ is_for p (Access 0 0 Read) → ⊥
    none (place.Access p) other e = other
    none p other e = cc e

    by : (o : Outcome) → GoesWithin p o → GoesToNoAccess o
    by (Goes (place.Access q)) within = none p other (within (Access 0 0 Read))
    by (Goes q) within = tt
    by (Ends answer) within = tt

pub outcome_simple : (p : Place) (command : Command) (h : Held) (v : ℕ) → IsSimple p → GoesToSimple (outcome_at p command h v)
outcome_simple p command h v simple = by (outcome_at p command h v) (outcome_within p command h v)
  where
    none : (p : Place) → IsSimple p → true ≡ is_for p (Access 0 0 Read) → ⊥
    none (place.Access p) simple e = simple
    none p simple e = cc e

    no_host : (p : Place) → IsSimple p → true ≡ is_for p (ChangeHost 0 Move) → ⊥
    no_host (place.Host p) simple e = simple
    no_host p simple e = cc e

    by : (o : Outcome) → GoesWithin p o → GoesToSimple o
    by (Goes (place.Access q)) within = none p simple (within (Access 0 0 Read))
    by (Goes (place.Host q)) within = no_host p simple (within (ChangeHost 0 Move))
    by (Goes q) within = tt
    by (Ends answer) within = tt

-- What its step needs; or the place is one of another form than the line's.
pub other_rests : (p : Place) (command : Command) (h : Held) → IsNoAccess p → (RestsAt p command h → ⊥) ⊎ RestsOnPart p command h
other_rests p command h other = (laws_at p command).rests h other

-- At a place of another form than an access what it knows is a proposition.
pub knows_prop : (p : Place) (command : Command) (h : Held) → IsNoAccess p → IsProp (KnowsPart p command h)
knows_prop p command h other = (laws_at p command).knows_prop h other

-- The place is one of lines with its command, as it knows, and as its step rests on.
pub knows_for : (p : Place) (command : Command) (h : Held) → IsUnderWay p → KnowsPart p command h → is_for p command ≡ true
knows_for p command h begun K = (laws_at p command).knows_for h begun K

pub rests_for : (p : Place) (command : Command) (h : Held) → IsUnderWay p → RestsAt p command h → is_for p command ≡ true
rests_for p command h begun R = (laws_at p command).rests_for h begun R

-- A line of another form than those that change slots changes none.
abbrev pub is_slot_change : Place → Bool
is_slot_change (place.SlotChange p) = true
is_slot_change _ = false

pub changes_no_slot : (p : Place) (command : Command) → is_slot_change p ≡ false → is_for p command ≡ true → changes_slot command ≡ false
changes_no_slot (place.SlotChange p) command other mine = absurd (cc other)
changes_no_slot p (SetSlot id slot) other mine = absurd (cc mine)
changes_no_slot p (DeleteSlot id) other mine = absurd (cc mine)
changes_no_slot p (SetLog id on) other mine = absurd (cc mine)
changes_no_slot _ _ other mine = refl

-- No access stands at the place of another form.
pub other_knows : (p : Place) (gfn word : ℕ) (op : Op) (h : Held) → IsNoAccess p → IsUnderWay p → KnowsPart p (Access gfn word op) h → ⊥
other_knows place.Between gfn word op h other begun K = begun
other_knows (place.Access p) gfn word op h other begun K = other
other_knows p gfn word op h other begun K = let mine = knows_for p (Access gfn word op) h begun K in cc mine

-- What it has loaded or stored stays, where the words of the line's own page do.
pub loads_stay : (z : Sizes) (before : ℕ → ℕ) (set : ℕ) (after : ℕ → ℕ) (other : ℕ) (h : Held) → OwnedStays before after h → (p : Place) (command : Command)
    → Holds z before set p command h → Holds z after other p command h
loads_stay z before set after other h own p command e = (laws_at p command).stays z before set after other h own e

-- What the manager's record accepts.
pub accepts_at : (p : Place) (command : Command) (z : Sizes) (pool : ℕ → ℕ) (set : ℕ) (h : Held) → Holds z pool set p command h
    → AcceptsAt p command z h.slots
accepts_at p command z pool set h e = (laws_at p command).accepts z pool set h e

pub accepts_at_prop : (p : Place) (command : Command) (z : Sizes) (slots : MemorySlots) → IsProp (AcceptsAt p command z slots)
accepts_at_prop p command z slots = (laws_at p command).accepts_prop z slots

-- The step that ends it doesn't wait.
pub ends_free : (p : Place) (command : Command) (h : Held) (v : ℕ) (answer : Answer) → RestsAt p command h → outcome_at p command h v ≡ Ends answer
    → line_waits p command h v ≡ false
ends_free p command h v answer R e = (laws_at p command).free h v answer R e

-- What it tells is of one of a few shapes.
pub place_tells : (p : Place) (command : Command) (h : Held) (v : ℕ) → Told h v p command (tells_at p command h v)
place_tells p command h v = (laws_at p command).told h v

-- So it tells an exit for want of a page only where it is answered so.
pub tells_fed : (p : Place) (command : Command) (h : Held) (v : ℕ) → outcome_at p command h v ≢ Ends Starved → AreFed (tells_at p command h v)
tells_fed p command h v = by p command (tells_at p command h v) (place_tells p command h v)
  where
    by : (q : Place) (c : Command) (kinds : List EventKind) → Told h v q c kinds → outcome_at q c h v ≢ Ends Starved → AreFed kinds
    by _ _ _ Nothing other = tt
    by q c _ (Exit not_) other = exit_fed (outcome_at q c h v) other
    by _ _ _ (Arms id at) other = (λ e. absurd (cc e), tt)
    by _ _ _ (ArmsClean range id seen last) other = (λ e. absurd (cc e), tt)
    by q c _ (Change id slot at more) other = (λ e. absurd (cc e), by q c _ more other)
    by _ _ _ (OfAccess q gfn word op) other = access_fed q h gfn word op v other
    by _ c _ (OfLog q) other = log_fed q c h v
    by _ _ _ (OfHost q page change) other = host_fed q page change h v
    by _ _ _ (OfHostRun q page change) other = host_run_fed q page change h v

-- A line of another form than a slot line goes on to no place of one.
abbrev pub GoesElsewhere : Outcome → Type 0
GoesElsewhere (Goes (place.SlotChange p)) = ⊥
GoesElsewhere _ = Unit {0}

pub outcome_elsewhere : (p : Place) (command : Command) (h : Held) (v : ℕ) → is_slot_change p ≡ false → GoesElsewhere (outcome_at p command h v)
outcome_elsewhere p command h v other = by (outcome_at p command h v) (outcome_within p command h v)
  where
    none : (p : Place) → is_slot_change p ≡ false → true ≡ is_for p (DeleteSlot 0) → ⊥
    none (place.SlotChange p) other e = cc other
    none p other e = cc e

    by : (o : Outcome) → GoesWithin p o → GoesElsewhere o
    by (Goes (place.SlotChange q)) within = none p other (within (DeleteSlot 0))
    by _ within = tt

-- ---- where it begins

-- A line begins there.
pub begins_first : (z : Sizes) (slots : MemorySlots) (command : Command) → is_first (first_place z slots command) ≡ true
begins_first z slots (Access gfn word op) = refl
begins_first z slots (ChangeHost page change) = refl
begins_first z slots (ChangeRun page change) = refl
begins_first z slots (GetLog id) = log_begins (read_refusal (GetLog id) slots) (takes_out z.mode (GetLog id))
begins_first z slots (ClearLog id first count words) =
    let c : Command = ClearLog id first count words in log_begins (read_refusal c slots) (takes_out z.mode c)
begins_first z slots (Split gfn) = refl
begins_first z slots command = change_begins (change_at_once z command slots)

-- Its first step is no end of a fault that begins anew.
pub first_no_end : (z : Sizes) (slots : MemorySlots) (command : Command) → begins_anew (first_place z slots command) ≡ true → ⊥
first_no_end z slots (Access gfn word op) is = cc is
first_no_end z slots (ChangeHost page change) is = cc is
first_no_end z slots (ChangeRun page change) is = cc is
first_no_end z slots (GetLog id) is = cc is
first_no_end z slots (ClearLog id first count words) is = cc is
first_no_end z slots (Split gfn) is = cc is
first_no_end z slots _ is = cc is

-- A line that moves its page says so where it begins.
says_move : (page : ℕ) (change : HostChange) → moves_page (ChangeHost page change) ≡ is_move change
says_move page Move = refl
says_move page Evict = refl
says_move page Protect = refl
says_move page Allow = refl

-- No line of a machine is one of a migration.
pub no_migration : (z : Sizes) (actor : Actor) (call : MigrationCall) → IsCommandFor z actor (Migrate call) → ⊥
no_migration z (Vcpu n) call may = may
no_migration z (Host n) call may = may
no_migration z Manager call may = may
no_migration z (Worker n) call may = may

-- One that sets a run of host pages asks for a level that runs of several pages have.
run_in_range : (z : Sizes) (actor : Actor) (page : ℕ) (change : RunChange) → IsCommandFor z actor (ChangeRun page change) → IsRunChange change
run_in_range z (Host n) page change may = may.1
run_in_range z _ page change may = absurd may

-- Its actor, which was at rest and owned no frame, knows what its first place asks; each slot of its record has a page.
pub first_known : (z : Sizes) (actor : Actor) (command : Command) (h : Held) → IsCommandFor z actor command → IsAtRest h.topics
    → h.topics.frames.owned ≡ None → HavePages h.slots → KnowsPart (first_place h.state.sizes h.slots command) command h
first_known z actor (Access gfn word op) h may R none some = R
first_known z actor (ChangeHost page change) h may R none some = (R, says_move page change, none)
first_known z actor (GetLog id) h may R none some = log_first_known (GetLog id) h refl R some
first_known z actor (ClearLog id first count words) h may R none some = log_first_known (ClearLog id first count words) h refl R some
first_known z actor (SetSlot id slot) h may R none some = (refl, slot_change_begins_known h.state.sizes (SetSlot id slot) h R)
first_known z actor (DeleteSlot id) h may R none some = (refl, slot_change_begins_known h.state.sizes (DeleteSlot id) h R)
first_known z actor (SetLog id on) h may R none some = (refl, slot_change_begins_known h.state.sizes (SetLog id on) h R)
first_known z actor (Split gfn) h may R none some = R
first_known z actor (Migrate call) h may R none some = absurd (no_migration z actor call may)
first_known z actor (ChangeRun page change) h may R none some = (R, none, run_in_range z actor page change may)

-- Alone, it knows what its first place asks of the words.
pub first_alone : (z : Sizes) (slots : MemorySlots) (command : Command) (words : Area → ℕ → ℕ) (t : Topics)
    → FormAlone (first_place z slots command) command words t
first_alone z slots (Access gfn word op) words t = λ e. absurd (cc e)
first_alone z slots (ChangeHost page change) words t = tt
first_alone z slots (ChangeRun page change) words t = tt
first_alone z slots (GetLog id) words t = tt
first_alone z slots (ClearLog id first count words_) words t = tt
first_alone z slots (Split gfn) words t = tt
first_alone z slots _ words t = tt

-- It begins with no scan.
pub begins_without : (z : Sizes) (slots : MemorySlots) (command : Command) (map : FreeMap) → HasScan (first_place z slots command) map → ⊥
begins_without z slots (Access gfn word op) Pages S = S
begins_without z slots (Access gfn word op) Frames S = S
begins_without z slots (ChangeHost page change) map S = host_begins_without (moves_page (ChangeHost page change)) map S
begins_without z slots (ChangeRun page change) map S = run_scans_none Look map S
begins_without z slots (GetLog id) map S = log_scans_none (log_first (read_refusal (GetLog id) slots) (takes_out z.mode (GetLog id))) map S
begins_without z slots (ClearLog id first count words) map S =
    log_scans_none (log_first (read_refusal (ClearLog id first count words) slots) (takes_out z.mode (ClearLog id first count words))) map S
begins_without z slots (Split gfn) map S = split_begins_without map S
begins_without z slots command map S = begins_without_scan (change_at_once z command slots) map S

-- It has loaded and stored nothing.
pub first_holds : (z : Sizes) (pool : ℕ → ℕ) (set : ℕ) (command : Command) (h : Held) → Holds z pool set (first_place z h.slots command) command h
first_holds z pool set (Access gfn word op) h = tt
first_holds z pool set (ChangeHost page change) h = tt
first_holds z pool set (ChangeRun page change) h = tt
first_holds z pool set (GetLog id) h = tt
first_holds z pool set (ClearLog id first count words) h = tt
first_holds z pool set (Split gfn) h = tt
first_holds z pool set command h = slot_change_begins z pool set command h (change_at_once z command h.slots) refl
