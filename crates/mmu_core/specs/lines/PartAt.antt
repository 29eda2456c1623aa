-- The step of a line at a place: a step of a part, or the touch of a content word.
use Rattle.core_views.specs.declared.place.Place.{Place}
use Rattle.core_views.specs.declared.trace.Command.{Command}
use Rattle.core_views.specs.declared.trace.Command.TheVariants.{Access}
use Rattle.core_views.specs.Held.{Held}
use Rattle.spte_words.specs.Areas.{content_index}
use Rattle.part_steps.specs.declared.task.Task.{Task}
use Rattle.part_steps.specs.Tasks.{map_of, no_task}
use Rattle.mmu_core.specs.forms.access.AccessSteps.{task_by, touch_of}
use Rattle.mmu_core.specs.forms.access.Cached.{frame_used}
use Rattle.mmu_core.specs.lines.Forms.{note_at, part_at}

-- what the guest touches for the command, through the leaf that its access uses
abbrev pub touch_at : Command → Held → Task
touch_at (Access gfn word op) h = touch_of op (content_index (map_of h.state.sizes) (frame_used gfn h.state) word)
touch_at _ h = no_task

-- what the step of a place is to do for the command
abbrev pub task_at : Place → Command → Held → Task
task_at p command h = task_by (part_at p command h) h (note_at p command h) (touch_at command h)
