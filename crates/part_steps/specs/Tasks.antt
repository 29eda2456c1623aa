-- What a step is to do: its kind, its word, and what it expects and writes.
use Rattle.std.specs.Prelude.{ℕ}
use Rattle.core_views.specs.declared.kind.Kind.{Kind}
use Rattle.core_views.specs.declared.kind.StepKind.{StepKind}
use Rattle.core_views.specs.declared.kind.StepKind.TheVariants as kind
use Rattle.core_views.specs.declared.sizes.Sizes.{Sizes}
use Rattle.core_views.specs.Kinds.{step_of}
use Rattle.core_views.specs.Sizes.{actors_of}
use Rattle.spte_words.specs.declared.area.Area.{Area}
use Rattle.spte_words.specs.declared.area.Area.TheVariants as area
use Rattle.spte_words.specs.declared.word_map.WordMap.{WordMap}
use Rattle.spte_words.specs.Areas.{place}
use Rattle.part_steps.specs.declared.task.Task.{Task}

-- where the words of a machine of these sizes stand
abbrev pub map_of : Sizes → WordMap
map_of z = record { pages = z.pages; frames = z.frames; words = z.words; pool = z.pool; actors = actors_of z }

-- a load of a word, with which the line may end or not
abbrev pub loads : StepKind → Area → ℕ → ℕ → Task
loads kind area index may_end = record { kind = kind; area = area; index = index; expected = 0; written = 0; may_end = may_end }

-- stands where there is no step
abbrev pub no_task : Task
no_task = loads kind.Control area.Seq 0 0

-- the step as the words of the machine see it
abbrev pub kind_of_task : Sizes → Task → Kind
kind_of_task z t = step_of t.kind (place (map_of z) t.area t.index) t.expected t.written t.may_end
