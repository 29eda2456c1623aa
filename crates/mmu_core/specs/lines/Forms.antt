-- What each form of line says at its places: a clause a form in `form_at`, of which each table is a field. The form's own files fill it in.
use Rattle.core_views.specs.declared.place.HostPlace.TheVariants as host
use Rattle.std.specs.Prelude.{◌≡◌, ℕ, Bool, List, Option, None, true, false}
use Rattle.circular_buffer.specs.Buffer.{Buffer}
use Rattle.core_views.specs.declared.cache.Translation.{Translation}
use Rattle.core_views.specs.declared.event.EventKind.{EventKind}
use Rattle.core_views.specs.declared.place.AccessPlace.TheVariants.{Enter}
use Rattle.core_views.specs.declared.place.Place.{Place}
use Rattle.core_views.specs.declared.place.Place.TheVariants as place
use Rattle.core_views.specs.declared.place.SplitPlace.TheVariants as split
use Rattle.core_views.specs.declared.sizes.Sizes.{Sizes}
use Rattle.core_views.specs.declared.topics.Topics.{Topics}
use Rattle.core_views.specs.declared.trace.Command.{Command}
use Rattle.core_views.specs.declared.place.HostRunPlace.TheVariants as run_place
use Rattle.core_views.specs.declared.trace.Command.TheVariants.{Access, ChangeHost, ChangeRun, ClearLog, GetLog, Split}
use Rattle.core_views.specs.Held.{Held, State}
use Rattle.core_views.specs.HostChanges.{moves_page}
use Rattle.core_views.specs.LogCommands.{read_refusal, takes_out}
use Rattle.core_views.specs.SlotCommands.{change_at_once}
use Rattle.core_views.specs.SlotSets.{MemorySlots}
use Rattle.part_steps.specs.declared.part_step.PartStep.{PartStep}
use Rattle.part_steps.specs.PartSteps.{IsAtRest, has_line}
use Rattle.mmu_core.specs.declared.outcome.Outcome.{Outcome}
use Rattle.mmu_core.specs.forms.access.AccessForm.{access_form}
use Rattle.mmu_core.specs.forms.host.HostForm.{host_form}
use Rattle.mmu_core.specs.forms.host_run.HostRunForm.{host_run_form}
use Rattle.mmu_core.specs.forms.log.LogForm.{log_form}
use Rattle.mmu_core.specs.forms.log.LogSteps.{log_first}
use Rattle.mmu_core.specs.forms.slot_change.SlotChangeForm.{slot_change_form}
use Rattle.mmu_core.specs.forms.slot_change.SlotChangeSteps.{slot_change_first}
use Rattle.mmu_core.specs.forms.split.SplitForm.{split_form}
use Rattle.mmu_core.specs.lines.Form.{Form, plain_form}

-- ---- the order of its steps

-- where a line begins
abbrev pub first_place : Sizes → MemorySlots → Command → Place
first_place z slots (Access gfn word op) = place.Access (Enter false)
first_place z slots (ChangeHost page change) = place.Host (host.Look (moves_page (ChangeHost page change)))
first_place z slots (ChangeRun page change) = place.HostRun run_place.Look
first_place z slots (GetLog id) = place.Log (log_first (read_refusal (GetLog id) slots) (takes_out z.mode (GetLog id)))
first_place z slots (ClearLog id first count words) =
    place.Log (log_first (read_refusal (ClearLog id first count words) slots) (takes_out z.mode (ClearLog id first count words)))
first_place z slots (Split gfn) = place.Split split.Begin
first_place z slots command = place.SlotChange (slot_change_first (change_at_once z command slots))

-- between lines
abbrev between_form : Form
between_form = record (plain_form place.Between) {
  Rests = λ command h. Unit {0};
  Knows = λ command h. has_line h ≡ true → IsAtRest h.topics;
  Holds = λ z pool command h. Unit {0};
}

-- what its form says at each place
abbrev pub form_at : Place → Form
form_at place.Between = between_form
form_at (place.Access p) = access_form p
form_at (place.SlotChange p) = slot_change_form p
form_at (place.Host p) = host_form p
form_at (place.HostRun p) = host_run_form p
form_at (place.Log p) = log_form p
form_at (place.Split p) = split_form p

-- The place is one of lines with this command; and a line begins there.
abbrev pub is_for : Place → Command → Bool
is_for p command = (form_at p).is_for command

abbrev pub is_first : Place → Bool
is_first p = (form_at p).is_first

-- the step of a part at each place; none where the guest touches
abbrev pub part_at : Place → Command → Held → Option PartStep
part_at p command h = (form_at p).part command h

-- 1 where the line may end with it
abbrev pub note_at : Place → Command → Held → ℕ
note_at p command h = (form_at p).note command h

-- where the line stands after it
abbrev pub outcome_at : Place → Command → Held → ℕ → Outcome
outcome_at p command h v = (form_at p).outcome command h v

-- the most steps that a line has left where it stands, where nobody is in its way
abbrev pub steps_left : Place → Command → Sizes → Topics → ℕ
steps_left p c z t = (form_at p).left c z t

-- ---- what a step makes besides

-- what the state has loaded after it
abbrev pub loads_at : Place → Command → Held → ℕ → State
loads_at p command h v = (form_at p).loads command h v

-- what is cached after it
abbrev pub caches_at : Place → Command → Held → ℕ → Buffer Translation
caches_at p command h v = (form_at p).caches command h v

-- the manager's own record of the slots after it
abbrev pub records_at : Place → Command → MemorySlots → MemorySlots
records_at p command slots = (form_at p).records command slots

-- what the line has read of a dirty log after it
abbrev pub reads_at : Place → Command → Held → ℕ → List ℕ
reads_at p command h v = (form_at p).reads command h v

-- what it tells of the line, besides its begin and its answer
abbrev pub tells_at : Place → Command → Held → ℕ → List EventKind
tells_at p command h v = (form_at p).tells command h v

-- ---- what its actor knows there

-- what the step needs: a step of a part its needs, and the touch its own
abbrev pub RestsAt : Place → Command → Held → Type 0
RestsAt p command h = (form_at p).Rests command h

-- what the manager's own record accepts
abbrev pub AcceptsAt : Place → Command → Sizes → MemorySlots → Type 0
AcceptsAt p command z slots = (form_at p).Accepts command z slots

-- What an actor holds at each place of its line, from its hand alone. Between lines, where one is left, it holds nothing.
abbrev pub KnowsPart : Place → Command → Held → Type 0
KnowsPart p command h = (form_at p).Knows command h

-- Loads: what the line under way has loaded or stored agrees with the words of the pool, and with the published set.
abbrev pub Holds : Sizes → (ℕ → ℕ) → ℕ → Place → Command → Held → Type 0
Holds z pool set p command h = (form_at p).Holds z pool command h

-- ---- what its actor may have

-- Its actor may have a page that is retired, an open invalidation, or a frame.
abbrev pub may_retire : Place → Bool
may_retire p = (form_at p).retires

abbrev pub may_open : Place → Bool
may_open p = (form_at p).opens

abbrev pub may_own_frame : Place → Bool
may_own_frame p = (form_at p).owns_frame

-- It has them at no other place.
pub record RetiresPart (p : Place) (t : Topics) : Type 0 where
  pub leaves : may_retire p ≡ false → t.retired ≡ None
  pub opens : may_open p ≡ false → t.invalidations.opened ≡ false
  pub frames : may_own_frame p ≡ false → t.frames.owned ≡ None
