-- How many steps a line has left that maps a run of host pages as one, or its pages by themselves, in each of its places.
use Rattle.std.specs.Prelude.{◌+◌, ◌-◌, ◌^◌, ℕ, Option, Some, None, if◌then◌else◌}
use Rattle.core_views.specs.declared.place.BeginPlace.TheVariants as begins
use Rattle.core_views.specs.declared.place.HostRunPlace.{HostRunPlace}
use Rattle.core_views.specs.declared.place.HostRunPlace.TheVariants.{Look, LookOn, Begin, Change, End}
use Rattle.core_views.specs.declared.sizes.Sizes.{Sizes}
use Rattle.core_views.specs.declared.topics.PageRun.{PageRun}
use Rattle.core_views.specs.declared.topics.Topics.{Topics}
use Rattle.spte_words.specs.Entries.{level_span}
use Rattle.spte_words.specs.HostWords.{host_present}
use Rattle.part_steps.specs.PageRuns.{is_several}
use Rattle.part_steps.specs.PartTasks.{word_looked}
use Rattle.mmu_core.specs.orders.InvalidateLeft.{begin_left, end_left}

-- The guest frames that slots give to a run lie anywhere, so its invalidation sweeps as many as there are.
abbrev pub most_frames : ℕ
most_frames = 2 ^ 36

-- how many pages of the run are yet to be changed; and, of one page that was seen absent, once more where an access has brought it in
abbrev pub pages_left : Option PageRun → ℕ
pages_left None = 0
pages_left (Some run) = level_span run.level - run.changed

abbrev pub changes_left : Topics → ℕ
changes_left t = if is_several t.invalidations.own.pages then pages_left t.invalidations.own.pages else 1 + (if host_present (word_looked t.host) then 0 else 1)

-- The most steps that it has left. The largest run has 262,144 pages.
abbrev pub host_run_left : HostRunPlace → Sizes → Topics → ℕ
host_run_left Look z t = 1 + 262144 + begin_left begins.Exclude z most_frames t + 262144 + 8
host_run_left LookOn z t = (262144 - t.row.looked) + begin_left begins.Exclude z most_frames t + 262144 + 8 + 1
host_run_left (Begin p) z t = begin_left p z most_frames t + 262144 + 8
host_run_left Change z t = changes_left t + 6
host_run_left (End p) z t = end_left p
