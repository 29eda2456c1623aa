-- The tasks of the steps that change host pages of a run one after another, or look at them in a row (mmu.rst, "Large pages").
use Rattle.std.specs.Prelude.{ℕ, Option, Some, None}
use Rattle.core_views.specs.declared.kind.StepKind.TheVariants as kind
use Rattle.core_views.specs.declared.topics.PageRun.{PageRun}
use Rattle.spte_words.specs.declared.area.Area.TheVariants as area
use Rattle.part_steps.specs.declared.task.Task.{Task}
use Rattle.part_steps.specs.PageRuns.{page_next, word_given, word_seen}

-- of the pages that an open invalidation is of: the one that is changed next, its word as it was seen, and the word that is put in its place
abbrev pub page_to_change : Option PageRun → ℕ
page_to_change None = 0
page_to_change (Some run) = page_next run

abbrev pub word_next : Option PageRun → ℕ
word_next None = 0
word_next (Some run) = word_seen run (page_next run)

abbrev pub word_to_give : Option PageRun → ℕ
word_to_give None = 0
word_to_give (Some run) = word_given run (page_next run)

-- an exchange of the word of this page
abbrev pub changes_next : Option PageRun → ℕ → Task
changes_next pages note = record {
  kind = kind.Change;
  area = area.Host;
  index = page_to_change pages;
  expected = word_next pages;
  written = word_to_give pages;
  may_end = note;
}

-- a load of the word of a host page that comes after those in a row which were looked at
abbrev pub looks_on : ℕ → ℕ → Task
looks_on page note = record { kind = kind.Host; area = area.Host; index = page; expected = 0; written = 1; may_end = note }
