-- The order of steps of a guest access (mmu.rst, "Page fault"; vcpu-requests.rst): a stay in the guest, in which the newest cached
-- translation that allows it is used, or a walk from the root finds one; and where none is found a fault, and another stay.
use Rattle.std.specs.Prelude.{ℕ, Bool, true, false, List, [], ◌∷◌, ◌==◌, if◌then◌else◌, Option, Some, None}
use Rattle.circular_buffer.specs.Buffer.{Buffer}
use Rattle.core_views.specs.declared.answer.Answer.TheVariants.{Mmio, HostFault, Starved, Reached}
use Rattle.core_views.specs.declared.cache.Translation.{Translation}
use Rattle.core_views.specs.declared.event.EventKind.{EventKind}
use Rattle.core_views.specs.declared.event.EventKind.TheVariants.{Accessed, BroughtIn, Exited, LookedAtHost, LookedAtPause, LookedAtSlots}
use Rattle.core_views.specs.declared.kind.StepKind.TheVariants as kind
use Rattle.core_views.specs.declared.place.AccessPlace.{AccessPlace}
use Rattle.core_views.specs.declared.place.AccessPlace.TheVariants.{Enter, Pause, Root, Walk, Touch, Leave, Fault}
use Rattle.core_views.specs.declared.place.FaultEnd.{FaultEnd}
use Rattle.core_views.specs.declared.place.FaultEnd.TheVariants as end_of
use Rattle.core_views.specs.declared.place.FaultNext.{FaultNext}
use Rattle.core_views.specs.declared.place.FaultNext.TheVariants as next_of
use Rattle.core_views.specs.declared.place.FaultPlace.TheVariants as fault
use Rattle.core_views.specs.declared.place.Leaving.TheVariants as leaving
use Rattle.core_views.specs.declared.place.Place.TheVariants.{Access}
use Rattle.core_views.specs.declared.topics.Topics.{Topics}
use Rattle.core_views.specs.declared.trace.Op.{Op}
use Rattle.core_views.specs.declared.trace.Op.TheVariants.{Read, Write, Add}
use Rattle.core_views.specs.Held.{Held, State}
use Rattle.core_views.specs.Slots.{is_write}
use Rattle.spte_words.specs.declared.area.Area.TheVariants as area
use Rattle.spte_words.specs.declared.spte_kind.SpteKind.{SpteKind}
use Rattle.spte_words.specs.declared.spte_kind.SpteKind.TheVariants as entry_kind
use Rattle.spte_words.specs.Areas.{content_index}
use Rattle.spte_words.specs.Entries.{kind_of}
use Rattle.mmu_core.specs.declared.outcome.Outcome.{Outcome}
use Rattle.mmu_core.specs.declared.outcome.Outcome.TheVariants.{Goes, Ends}
use Rattle.part_steps.specs.declared.task.Task.{Task}
use Rattle.part_steps.specs.declared.part_step.PartStep.{PartStep}
use Rattle.part_steps.specs.declared.part_step.PartStep.TheVariants as part
use Rattle.mmu_core.specs.forms.access.Cached.{first_usable, frame_used, with_leaf}
use Rattle.mmu_core.specs.forms.access.FaultSteps.{allows_access, fault_next, fault_part}
use Rattle.part_steps.specs.PartTasks.{own_index, page_looked, part_task, word_looked}
use Rattle.part_steps.specs.SlotWords.{page_of}
use Rattle.part_steps.specs.Tasks.{loads, map_of}

-- the step of each place, but for the touch, which is the guest's own
abbrev pub access_part : AccessPlace → ℕ → Topics → Option PartStep
access_part (Enter again) gfn t = Some part.Enter
access_part (Pause again) gfn t = Some part.Pause
access_part (Root again) gfn t = Some part.Root
access_part (Walk again) gfn t = Some (part.Walk gfn)
access_part Touch gfn t = None
access_part (Leave how) gfn t = Some part.Leave
access_part (Fault p) gfn t = Some (fault_part p gfn t)

-- the touch of a content word: a load, a swap or an add
abbrev pub touch_of : Op → ℕ → Task
touch_of Read index = loads kind.Read area.Content index 0
touch_of (Write x) index = record { kind = kind.Write; area = area.Content; index = index; expected = 0; written = x; may_end = 0 }
touch_of (Add x) index = record { kind = kind.Add; area = area.Content; index = index; expected = 0; written = x; may_end = 0 }

-- what becomes of the access after its fault: an exit, or another stay in the guest
abbrev pub fault_over : FaultEnd → Outcome
fault_over end_of.Installed = Goes (Access (Enter true))
fault_over (end_of.Fixed marked) = Goes (Access (Enter true))
fault_over end_of.Mmio = Ends Mmio
fault_over end_of.HostFault = Ends HostFault
fault_over end_of.Starved = Ends Starved
fault_over (end_of.NotFast word) = Goes (Access (Fault fault.Begin))
fault_over (end_of.Retry fast cause) = Goes (Access (Enter false))

-- 1 where the line may end with the step
abbrev pub ends_with : Outcome → ℕ
ends_with (Goes p) = 0
ends_with (Ends answer) = 1

abbrev pub access_note : AccessPlace → ℕ
access_note (Leave (leaving.Reached frame value)) = 1
access_note (Fault (fault.End e)) = ends_with (fault_over e)
access_note _ = 0

abbrev pub task_by : Option PartStep → Held → ℕ → Task → Task
task_by None h note touch = touch
task_by (Some step) h note touch = part_task step (own_index h) h.topics note

abbrev pub access_task : AccessPlace → Held → ℕ → ℕ → Op → Task
access_task p h gfn word op = task_by (access_part p gfn h.topics) h (access_note p)
    (touch_of op (content_index (map_of h.state.sizes) (frame_used gfn h.state) word))

-- after the pause: the touch through a cached translation, or a walk
abbrev pub pause_next : Bool → Option Translation → AccessPlace
pause_next again None = Root again
pause_next again (Some t) = Touch

-- after an entry: a link leads down, a leaf that allows the access is used, and else the access leaves and faults: fast, where it met a leaf
abbrev pub stay_next : Bool → SpteKind → Bool → AccessPlace
stay_next again (entry_kind.Table page) allowed = Walk again
stay_next again entry_kind.Leaf allowed = if allowed then Touch else Leave (leaving.Faults true)
stay_next again entry_kind.Absent allowed = Leave (leaving.Faults false)
stay_next again entry_kind.Frozen allowed = Leave (leaving.Faults false)

abbrev pub behind_fault : FaultNext → Outcome
behind_fault (next_of.Goes p) = Goes (Access (Fault p))
behind_fault (next_of.Ends e) = fault_over e

abbrev pub access_outcome : AccessPlace → Held → ℕ → Op → ℕ → Outcome
access_outcome (Enter again) h gfn op v = Goes (Access (Pause again))
access_outcome (Pause again) h gfn op v = Goes (Access (pause_next again (first_usable gfn (is_write op) h.cached.items)))
access_outcome (Root again) h gfn op v = Goes (Access (Walk again))
access_outcome (Walk again) h gfn op v = Goes (Access (stay_next again (kind_of h.topics.walk.level v) (allows_access (is_write op) v)))
access_outcome Touch h gfn op v = Goes (Access (Leave (leaving.Reached (frame_used gfn h.state) v)))
access_outcome (Leave (leaving.Reached frame value)) h gfn op v = Ends (Reached frame value)
access_outcome (Leave (leaving.Faults fast)) h gfn op v = Goes (Access (Fault (if fast then fault.FastBegin else fault.Begin)))
access_outcome (Fault p) h gfn op v = behind_fault (fault_next p h.state.sizes gfn (is_write op) h.topics v)

-- the translation that the access uses: the one that was found, where one was
abbrev pub use_found : Option Translation → Translation → Translation
use_found None used = used
use_found (Some t) used = t

abbrev pub access_loads : AccessPlace → Held → ℕ → Op → ℕ → State
access_loads (Pause again) h gfn op v = record h.state { used = use_found (first_usable gfn (is_write op) h.cached.items) h.state.used }
access_loads (Walk again) h gfn op v = record h.state { used = record { gfn = gfn; level = h.topics.walk.level; leaf = v } }
access_loads _ h gfn op v = h.state

-- A leaf that the walk of a stay finds is cached, where it allows the access.
abbrev pub is_found : SpteKind → Bool → Bool
is_found entry_kind.Leaf allowed = allowed
is_found _ allowed = false

abbrev pub access_caches : AccessPlace → Held → ℕ → Op → ℕ → Buffer Translation
access_caches (Walk again) h gfn op v =
    if is_found (kind_of h.topics.walk.level v) (allows_access (is_write op) v) then with_leaf gfn h.topics.walk.level v h.cached else h.cached
access_caches _ h gfn op v = h.cached

-- the exit of a line that ends with its fault
abbrev pub exiting : Outcome → List EventKind
exiting (Goes p) = []
exiting (Ends answer) = Exited answer ∷ []

-- what a step tells, besides that its line begins or is answered
abbrev pub access_tells : AccessPlace → Held → ℕ → ℕ → Op → ℕ → List EventKind
access_tells (Pause again) h gfn word op v = LookedAtPause ∷ []
access_tells Touch h gfn word op v = Accessed gfn word op (frame_used gfn h.state) v ∷ []
access_tells (Fault (fault.Find begun)) h gfn word op v = if begun then [] else LookedAtSlots ∷ []
access_tells (Fault (fault.FastFind begun)) h gfn word op v = if begun then [] else LookedAtSlots ∷ []
access_tells (Fault fault.Host) h gfn word op v = LookedAtHost (page_of h.topics.search.slot gfn) ∷ []
access_tells (Fault fault.Bring) h gfn word op v = if v == word_looked h.topics.host then BroughtIn (page_looked h.topics.host) ∷ [] else []
access_tells (Fault (fault.End e)) h gfn word op v = exiting (fault_over e)
access_tells _ h gfn word op v = []
