-- Each step keeps what is said of dirty logs, and so does each list of steps.
use Rattle.std.proofs.Common.{[], inl, inr, subst, sym, ℕ, ◌∷◌, ◌≡◌, ◌⊎◌}
use Rattle.std.specs.Prelude.{List, false}
use Rattle.core_views.specs.declared.kind.Kind.{Kind}
use Rattle.core_views.specs.declared.place.Place.{Place}
use Rattle.core_views.specs.declared.sizes.Sizes.{Sizes}
use Rattle.core_views.specs.declared.trace.Command.{Command}
use Rattle.core_views.specs.declared.trace.Line.{Line}
use Rattle.core_views.specs.Held.{Held}
use Rattle.part_steps.specs.declared.part_step.PartStep.{PartStep}
use Rattle.part_steps.specs.PartSteps.{needs_line}
use Rattle.mmu_core.specs.invariant.Invariant.{Invariant}
use Rattle.mmu_core.specs.invariant.Laws.{IsSound}
use Rattle.mmu_core.specs.invariant.TopicsInvariant.{TopicsInvariant}
use Rattle.mmu_core.specs.machine.Enabled.{mmu}
use Rattle.mmu_core.specs.machine.Machine.{Legal, May, Step, World, effect, hand_in, run}
use Rattle.mmu_core.specs.machine.Steps.{has_line, line_at, place_at}
use Rattle.mmu_core.specs.machine.View.{View, part_stepped, stepped, view}
use Rattle.mmu_core.proofs.forms.access.AccessParts.{AreSmall}
use Rattle.mmu_core.proofs.machine.PartStepping.{IsPart}
use Rattle.mmu_core.proofs.machine.Stepping.{IsStep}
use Rattle.mmu_core.proofs.machine.Worlds.{Takes, TakesPart, are_small, good_run, good_step, takes}
use Rattle.mmu_core.proofs.start.Starts.{start_good}
use Rattle.log_invariant.specs.Laws.{WritesAreCovered}
use Rattle.log_invariant.specs.LogInvariant.{LogInvariant}
use Rattle.log_invariant.proofs.AllSetKept.{all_set_kept, idle_all_set_kept}
use Rattle.log_invariant.proofs.CachedKept.{line_cached_kept, part_cached_kept}
use Rattle.log_invariant.proofs.CoveredKept.{found_same}
use Rattle.log_invariant.proofs.FastKept.{fast_kept, idle_fast_kept}
use Rattle.log_invariant.proofs.LeavesKept.{line_leaves_kept, part_leaves_kept}
use Rattle.log_invariant.proofs.LogsBegun.{AllSetNow}
use Rattle.log_invariant.proofs.MarksKept.{idle_marks_kept, marks_kept}
use Rattle.log_invariant.proofs.OldLogsKept.{idle_old_logs_kept, old_logs_kept}
use Rattle.log_invariant.proofs.ReachKept.{line_reach_kept, part_reach_kept}
use Rattle.log_invariant.proofs.SetWordsKept.{idle_set_words_kept, set_words_kept}
use Rattle.log_invariant.proofs.StartLogs.{start_logs}
use Rattle.log_invariant.proofs.WithinKept.{idle_manager_kept, idle_within_kept, manager_kept, within_kept}

-- ---- one step

-- A step of a line.
line_log_kept : (z : Sizes) (v : View) (a : ℕ) (line : Line) (command : Command) (p : Place) → AreSmall v → IsStep z v a line command p → Invariant z v
    → TopicsInvariant z v → LogInvariant z v → LogInvariant z (stepped a line command p v)
line_log_kept z v a line command p small S I P G =
    let set : AllSetNow z (stepped a line command p v) = all_set_kept z v a line command p small S I P G in
    record {
      manager = manager_kept z v a line command p G;
      marks = marks_kept z v a line command p small S I P G;
      fast = fast_kept z v a line command p S G.fast;
      old_logs = old_logs_kept z v a line command p small S I P G.old_logs;
      armed_words = set_words_kept z v a line command p small S I P G;
      all_marked = set;
      within = within_kept z v a line command p small S I P G;
      leaves = line_leaves_kept z v a line command p small S I P G set;
      cached = line_cached_kept z v a line command p small S I P G set;
      reach = line_reach_kept z v a line command p small S I P G set;
    }

-- A step of an actor with no line left.
part_log_kept : (z : Sizes) (v : View) (a : ℕ) (step : PartStep) (note : ℕ) → IsPart z v a step → needs_line step ≡ false → has_line (v.hand a) ≡ false
    → Invariant z v → TopicsInvariant z v → LogInvariant z v → LogInvariant z (part_stepped a step note v)
part_log_kept z v a step note S free none I P G = record {
  manager = idle_manager_kept z v a step note G;
  marks = idle_marks_kept z v a step note S free G.marks;
  fast = idle_fast_kept z v a step note G.fast;
  old_logs = idle_old_logs_kept z v a step note S free P G.old_logs;
  armed_words = idle_set_words_kept z v a step note S free none I G;
  all_marked = idle_all_set_kept z v a step note free none I G;
  within = idle_within_kept z v a step note S free P G;
  leaves = part_leaves_kept z v a step note S free none I P G;
  cached = part_cached_kept z v a step note S free none I P G;
  reach = part_reach_kept z v a step note S free none I P G;
}

-- Each step that may be made.
pub log_step : (z : Sizes) (w : World Held) (s : Step Kind) → IsSound z w → LogInvariant z (view z w) → May mmu w s → LogInvariant z (view z (effect mmu w s))
log_step z w s G L may = by (takes z w s G may)
  where
    h : Held
    h = hand_in mmu w s.actor

    by : Takes z w s h ⊎ TakesPart z w s h → LogInvariant z (view z (effect mmu w s))
    by (inl T) = subst (LogInvariant z) (sym T.leads)
        (line_log_kept z (view z w) s.actor (line_at h.state.place h) (line_at h.state.place h).command (place_at h.state.place h) (are_small z w G) T.is_step
        G.holds G.topics L)
    by (inr T) = subst (LogInvariant z) (sym T.leads)
        (part_log_kept z (view z w) s.actor T.step T.note T.is_part T.free T.none_left G.holds G.topics L)

-- ---- all of a list

pub log_run : (z : Sizes) (w : World Held) (ss : List (Step Kind)) → IsSound z w → LogInvariant z (view z w) → Legal mmu w ss
    → LogInvariant z (view z (run mmu w ss))
log_run z w [] G L legal = L
log_run z w (s ∷ ss) G L legal = log_run z (effect mmu w s) ss (good_step z w s G legal.0) (log_step z w s G L legal.0) legal.1

pub writes_are_covered : WritesAreCovered
writes_are_covered z lines w ss start legal =
    let first : IsSound z w = start_good z lines w start in
    let G : IsSound z (run mmu w ss) = good_run z w ss first legal in
    let L = log_run z w ss first (start_logs z lines w start) legal in
    record {
      holds = L;
      marks = λ i id gfn slot lt logged has owed. found_same z (view z (run mmu w ss)) i id gfn slot lt G.holds G.topics L logged has owed;
    }
