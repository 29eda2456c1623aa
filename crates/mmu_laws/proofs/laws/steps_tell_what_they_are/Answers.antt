use Rattle.mmu_laws.proofs.steps.LogKinds.{allowed_writes_are_owed, marks_are_of_owed_pages, marks_stay_owed, sections_end_with_none_owed}
use Rattle.mmu_laws.proofs.steps.LogKinds.{words_are_set_before_their_log, writes_are_forbidden_in_leaves}
use Rattle.mmu_laws.proofs.steps.InvalidationLaws.{invalidations_are_counted, sequence_is_raised}
use Rattle.mmu_laws.proofs.steps.PublicationLaws.{others_leave_slots, publications_are_invalidated}
use Rattle.mmu_laws.proofs.steps.EventLaws.{events_are_of_their_steps}
use Rattle.mmu_laws.proofs.steps.AllowedWords.{words_tell}
use Rattle.mmu_laws.proofs.steps.Notes.{notes_tell_ends}
use Rattle.mmu_laws.proofs.steps.StepLaws.{entering_flushes, others_cache_one, steps_are_on_their_areas}
use Rattle.mmu_laws.proofs.steps.TouchLaws.{touches_are_told}
use Rattle.mmu_laws.proofs.laws.steps_tell_what_they_are.Goals as goal
use Rattle.mmu_laws.proofs.steps.ChangeLaws.{changes_are_invalidated}
use Rattle.mmu_laws.proofs.steps.KindLaws.{brings_are_of_absent_pages, releases_leave_nothing, zaps_are_of_open_invalidations}

pub returns-clause-areas : goal.returns-clause-areas
returns-clause-areas c = steps_are_on_their_areas

pub returns-clause-notes : goal.returns-clause-notes
returns-clause-notes c = notes_tell_ends

pub returns-clause-flushes : goal.returns-clause-flushes
returns-clause-flushes c = entering_flushes

pub returns-clause-caches : goal.returns-clause-caches
returns-clause-caches c = others_cache_one

pub returns-clause-revised : goal.returns-clause-revised
returns-clause-revised c = words_tell

pub returns-clause-events : goal.returns-clause-events
returns-clause-events c = events_are_of_their_steps

pub returns-clause-raised : goal.returns-clause-raised
returns-clause-raised c = sequence_is_raised

pub returns-clause-counted : goal.returns-clause-counted
returns-clause-counted c = invalidations_are_counted

pub returns-clause-zaps : goal.returns-clause-zaps
returns-clause-zaps c = zaps_are_of_open_invalidations

pub returns-clause-changes : goal.returns-clause-changes
returns-clause-changes c = changes_are_invalidated

pub returns-clause-brings : goal.returns-clause-brings
returns-clause-brings c = brings_are_of_absent_pages

pub returns-clause-releases : goal.returns-clause-releases
returns-clause-releases c = releases_leave_nothing

pub returns-clause-published : goal.returns-clause-published
returns-clause-published c = publications_are_invalidated

pub returns-clause-kept_slots : goal.returns-clause-kept_slots
returns-clause-kept_slots c = others_leave_slots

pub returns-clause-forbids : goal.returns-clause-forbids
returns-clause-forbids c = writes_are_forbidden_in_leaves

pub returns-clause-marks : goal.returns-clause-marks
returns-clause-marks c = marks_are_of_owed_pages

pub returns-clause-arms : goal.returns-clause-arms
returns-clause-arms c = words_are_set_before_their_log

pub returns-clause-owes : goal.returns-clause-owes
returns-clause-owes c = allowed_writes_are_owed

pub returns-clause-stays_owed : goal.returns-clause-stays_owed
returns-clause-stays_owed c = marks_stay_owed

pub returns-clause-paid : goal.returns-clause-paid
returns-clause-paid c = sections_end_with_none_owed

pub returns-clause-touches : goal.returns-clause-touches
returns-clause-touches c = touches_are_told
