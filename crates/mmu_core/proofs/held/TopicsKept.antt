-- Each step keeps what holds of the machine's parts.
use Rattle.std.proofs.Common.{◌≡◌, ℕ, refl}
use Rattle.std.specs.Prelude.{Bool, true, false, ◌==◌, if◌then◌else◌}
use Rattle.core_views.specs.declared.place.Place.{Place}
use Rattle.core_views.specs.declared.sizes.Sizes.{Sizes}
use Rattle.core_views.specs.declared.trace.Command.{Command}
use Rattle.core_views.specs.declared.trace.Line.{Line}
use Rattle.core_views.specs.declared.trace.Op.{Op}
use Rattle.core_views.specs.declared.trace.Op.TheVariants.{Read}
use Rattle.core_views.specs.Held.{Held}
use Rattle.part_steps.specs.declared.task.Task.{Task}
use Rattle.part_steps.specs.declared.part_step.PartStep.{PartStep}
use Rattle.mmu_core.specs.forms.access.AccessSteps.{touch_of}
use Rattle.mmu_core.specs.invariant.Invariant.{Invariant}
use Rattle.mmu_core.specs.machine.Steps.{idle_after, task_at}
use Rattle.part_steps.specs.Tasks.{kind_of_task}
use Rattle.part_steps.specs.TopicSteps.{topics_after}
use Rattle.mmu_core.specs.invariant.TopicsInvariant.{TopicsInvariant}
use Rattle.mmu_core.specs.machine.View.{View, answer_in, hand_after, part_stepped, stepped, upd, words_after}
use Rattle.mmu_core.proofs.forms.access.AccessParts.{AreSmall}
use Rattle.mmu_core.proofs.pages.FilledKept.{filled_kept}
use Rattle.mmu_core.proofs.pages.FramesKept.{frames_kept, use_after}
use Rattle.mmu_core.proofs.held.CountersKept.{counters_kept}
use Rattle.mmu_core.proofs.held.HeldKept.{held_kept}
use Rattle.mmu_core.proofs.held.InvalidationsKept.{checks_kept, counts_kept, few_kept}
use Rattle.mmu_core.proofs.pages.LoadedKept.{loaded_kept}
use Rattle.mmu_core.proofs.held.LockKept.{lock_kept}
use Rattle.mmu_core.proofs.pages.LeavesOver.{leaves_kept}
use Rattle.mmu_core.proofs.pages.LinkedKept.{linked_kept}
use Rattle.mmu_core.proofs.held.ReachKept.{reach_flushed_kept, reach_kept}
use Rattle.mmu_core.proofs.pages.Paths.{paths_kept}
use Rattle.mmu_core.proofs.pages.PoolKept.{uses_kept}
use Rattle.mmu_core.proofs.machine.SameTopics.{same_topics}
use Rattle.mmu_core.proofs.held.OwedKept.{owed_kept}
use Rattle.mmu_core.proofs.held.SawWriterKept.{saw_kept}
use Rattle.mmu_core.proofs.held.LookedFrames.{looked_frames_kept}
use Rattle.mmu_core.proofs.held.LooksKept.{looks_kept}
use Rattle.mmu_core.proofs.held.OwnLooksKept.{own_looks_kept}
use Rattle.mmu_core.proofs.held.SearchKept.{searches_kept}
use Rattle.mmu_core.proofs.words.HostStays.{hosts_kept}
use Rattle.mmu_core.proofs.pages.Standing.{spot_after, up_after}
use Rattle.mmu_core.proofs.held.StatesKept.{states_kept}
use Rattle.mmu_core.proofs.machine.SumsBelow.{column}
use Rattle.mmu_core.proofs.pages.TreeKept.{tree_kept}
use Rattle.mmu_core.proofs.machine.PartStepping.{IsPart}
use Rattle.mmu_core.proofs.lines.StepIn.{StepIn, step_in, Makes, Touches}
use Rattle.mmu_core.proofs.machine.Stepping.{IsStep}
use Rattle.mmu_core.proofs.held.HeldSlotsKept.{held_slots_kept}
use Rattle.mmu_core.proofs.held.OldSets.{old_sets_kept}
use Rattle.mmu_core.proofs.held.SetsKept.{sets_kept}
use Rattle.mmu_core.proofs.held.KnownRange.{known_range_kept}
use Rattle.mmu_core.proofs.held.OpenFrames.{ranges_kept}
use Rattle.mmu_core.proofs.pages.SweptKept.{swept_kept}
use Rattle.mmu_core.proofs.pages.ZappedKept.{zapped_kept}
use Rattle.mmu_core.proofs.held.PassedKept.{passed_kept}
use Rattle.mmu_core.proofs.held.ScopesKept.{scopes_kept}
use Rattle.mmu_core.proofs.held.SlotScopesKept.{slot_scopes_kept}
use Rattle.mmu_core.proofs.held.RunsKept.{runs_kept}
use Rattle.mmu_core.proofs.held.ChangesKept.{changes_kept, own_pages_kept}
use Rattle.mmu_core.proofs.held.CollectedKept.{collected_kept}
use Rattle.mmu_core.proofs.held.LowRowsKept.{low_rows_kept}
use Rattle.mmu_core.proofs.held.OwnRowsKept.{own_rows_kept}

-- Each step of a part does.
pub topics_part_kept : (z : Sizes) (v : View) (a : ℕ) (step : PartStep) (note : ℕ) → IsPart z v a step → TopicsInvariant z v
    → TopicsInvariant z (part_stepped a step note v)
topics_part_kept z v a step note S I = record {
  up = up_after step a (v.hand a).topics v I.up;
  spot = spot_after step (v.hand a).topics v I.spot;
  use_of = use_after step a (v.hand a).topics v I.use_of;
  lock_part = lock_kept z v a step note S I;
  saw_writer = saw_kept z v a step note S I;
  states_part = states_kept z v a step note S I;
  uses = uses_kept z v a step note S I;
  leaves = leaves_kept z v a step note S I;
  filled = filled_kept z v a step note S I;
  tree = tree_kept z v a step note S I;
  held = held_kept z v a step note S I;
  paths = paths_kept z v a step note S I;
  linked = linked_kept z v a step note S I;
  reach = reach_kept z v a step note S I;
  reach_flushed = reach_flushed_kept z v a step note S I;
  owed = owed_kept z v a step note S I;
  sets = sets_kept z v a step note S I;
  old_sets = old_sets_kept z v a step note S I;
  held_slots = held_slots_kept z v a step note S I;
  searches = searches_kept z v a step note S I;
  hosts = hosts_kept z v a step note S I;
  frames = frames_kept z v a step note S I;
  looked_frames = looked_frames_kept z v a step note S I;
  looks = looks_kept z v a step note S I;
  own_looks = own_looks_kept z v a step note S I;
  counts = counts_kept z v a step note S I;
  checks = checks_kept z v a step note S I;
  known = known_range_kept z v a step note S I I.known;
  loaded = loaded_kept z v a step note S I;
  ranges = ranges_kept z v a step note S I;
  passed = passed_kept z v a step note S I;
  scopes = scopes_kept z v a step note S I;
  slot_scopes = slot_scopes_kept z v a step note S I;
  runs = runs_kept z v a step note S I;
  own_pages = own_pages_kept z v a step note S I;
  changes = changes_kept z v a step note S I;
  own_rows = own_rows_kept z v a step note S I;
  collected = collected_kept z v a step note S I;
  low_rows = low_rows_kept z v a step note S I;
  swept = swept_kept z v a step note S I;
  zapped = zapped_kept z v a step note S I;
  few_ended = few_kept z v a step note S I;
  counters = counters_kept z v a step note S I;
}

-- The words after a task of a line, and the hands with what its actor holds then.
abbrev topics_behind : View → ℕ → Task → View
topics_behind v a task = record {
  words = words_after task v.words;
  hand = upd v.hand a (idle_after (v.hand a) (kind_of_task (v.hand a).state.sizes task) (answer_in task v.words));
}

-- A touch stores in content alone, and leaves what actors hold.
touch_kept : (z : Sizes) (v : View) (a : ℕ) (op : Op) (index : ℕ) → TopicsInvariant z v → TopicsInvariant z (topics_behind v a (touch_of op index))
unfolding topics_after
touch_kept z v a Read index P =
    same_topics z _ _ _ _ _ _ _ _ _ _ _ _ _ v.hand _ (column (λ (h : Held). h.topics) v.hand a _ refl) P
touch_kept z v a op index P =
    same_topics z _ _ _ _ _ _ _ _ _ _ _ _ _ v.hand _ (column (λ (h : Held). h.topics) v.hand a _ refl) P

kept_by : (z : Sizes) (v : View) (a : ℕ) (task : Task) → StepIn z v a task → TopicsInvariant z v → TopicsInvariant z (topics_behind v a task)
kept_by z v a _ (Makes step note S) P = topics_part_kept z v a step note S P
kept_by z v a _ (Touches op index) P = touch_kept z v a op index P

-- Each step of a line keeps it.
pub topics_line_kept : (z : Sizes) (v : View) (a : ℕ) (line : Line) (command : Command) (p : Place) → AreSmall v → IsStep z v a line command p
    → Invariant z v → TopicsInvariant z v → TopicsInvariant z (stepped a line command p v)
topics_line_kept z v a line command p small S I P =
    same_topics z _ _ _ _ _ _ _ _ _ _ _ _ _ behind.hand (upd v.hand a after) (λ t i. same i t) (kept_by z v a task (step_in z v a line command p small S I P) P)
  where
    h : Held
    h = v.hand a

    task : Task
    task = task_at p command h

    behind : View
    behind = topics_behind v a task

    after : Held
    after = hand_after line command p h (answer_in task v.words)

    idle : Held
    idle = idle_after h (kind_of_task h.state.sizes task) (answer_in task v.words)

    same : (i : ℕ) → (upd v.hand a after i).topics ≡ (upd v.hand a idle i).topics
    same i = either (i == a)
      where
        either : (b : Bool) → (if b then after else v.hand i).topics ≡ (if b then idle else v.hand i).topics
        either true = refl
        either false = refl
