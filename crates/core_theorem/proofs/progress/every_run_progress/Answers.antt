use Rattle.std.proofs.Common.{[], ◌∷◌, ◌++◌}
use Rattle.mmu_laws.proofs.causes.Causes.{faults_begin_anew_by_cause}
use Rattle.mmu_laws.proofs.causes.StarvedScan.{legal_parts, starved_lines_scan}
use Rattle.mmu_core.proofs.start.Starts.{start_good}
use Rattle.core_theorem.proofs.Begins.{lines_are_open}
use Rattle.core_theorem.proofs.DelayCauses.{between_lines_see_nothing, delays_have_causes, starts_saw_nothing, waits_have_causes, waits_see_another}
use Rattle.core_theorem.proofs.LineTurns.{lines_make_few_steps}
use Rattle.core_theorem.proofs.AllTurns.{all_steps_are_few}
use Rattle.core_theorem.proofs.Turns.{counts_are_few, steps_are_few}
use Rattle.core_theorem.proofs.Runs.{before, sound, starts_between}
use Rattle.core_theorem.proofs.progress.every_run_progress.Goals as goal

pub returns-clause-begins_anew : goal.returns-clause-begins_anew
returns-clause-begins_anew c z lines w ss s fast cause gfn word op R stands command =
    faults_begin_anew_by_cause z w ss s.actor gfn word op fast cause (start_good z lines w R.start) (before z lines w ss s R).legal
    (starts_between z lines w ss s R) stands command

pub returns-clause-waits : goal.returns-clause-waits
returns-clause-waits c = waits_have_causes

pub returns-clause-starved : goal.returns-clause-starved
returns-clause-starved c z map lines w ss ts s R idle starved =
    let parts = legal_parts w ss (ts ++ s ∷ []) R.legal in
    starved_lines_scan z map _ ts s (sound z lines w ss (record { start = R.start; legal = parts.0 })) parts.1 idle starved

pub returns-clause-delays : goal.returns-clause-delays
returns-clause-delays c = delays_have_causes

pub returns-clause-sees : goal.returns-clause-sees
returns-clause-sees c = waits_see_another

pub returns-clause-at_start : goal.returns-clause-at_start
returns-clause-at_start c = starts_saw_nothing

pub returns-clause-between_lines : goal.returns-clause-between_lines
returns-clause-between_lines c = between_lines_see_nothing

pub returns-clause-counts : goal.returns-clause-counts
returns-clause-counts c = counts_are_few

pub returns-clause-line_turns : goal.returns-clause-line_turns
returns-clause-line_turns c = lines_make_few_steps

pub returns-clause-turns : goal.returns-clause-turns
returns-clause-turns c = steps_are_few

pub returns-clause-all_turns : goal.returns-clause-all_turns
returns-clause-all_turns c = all_steps_are_few

pub returns-clause-open_lines : goal.returns-clause-open_lines
returns-clause-open_lines c = lines_are_open
