use Rattle.mmu_core.specs.machine.Enabled.{mmu}
use Rattle.mmu_core.specs.machine.Machine.{run}
use Rattle.mmu_laws.proofs.turns.AnsweredRest.{answered_rests}
use Rattle.core_theorem.proofs.Holdings.{held_sets_are_known, none_holds_free_pages, watched_hold_no_old_set}
use Rattle.core_theorem.proofs.PauseSeen.{pause_is_seen_in_stay}
use Rattle.core_theorem.proofs.Runs.{before, may_last, sound}
use Rattle.core_theorem.proofs.sections.every_run_sections.Goals as goal

pub returns-clause-lock : goal.returns-clause-lock
returns-clause-lock c z lines w ss R = (sound z lines w ss R).topics.lock_part

pub returns-clause-grace : goal.returns-clause-grace
returns-clause-grace c = none_holds_free_pages

pub returns-clause-sets : goal.returns-clause-sets
returns-clause-sets c = held_sets_are_known

pub returns-clause-watched : goal.returns-clause-watched
returns-clause-watched c = watched_hold_no_old_set

pub returns-clause-rest : goal.returns-clause-rest
returns-clause-rest c z lines w ss s answer R has ends =
    answered_rests z (run mmu w ss) s (sound z lines w ss (before z lines w ss s R)) (may_last z lines w ss s R) has answer ends

pub returns-clause-pause : goal.returns-clause-pause
returns-clause-pause c = pause_is_seen_in_stay
