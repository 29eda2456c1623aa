use Rattle.slot_laws.proofs.SlotRules.{deletions_are_of_slots, done_changes_none, keeps_shapes, work_changes_one}
use Rattle.slot_laws.proofs.laws.slot_lines_keep_shapes.Goals as goal

pub returns-clause-shapes : goal.returns-clause-shapes
returns-clause-shapes c = keeps_shapes

pub returns-clause-deletions : goal.returns-clause-deletions
returns-clause-deletions c = deletions_are_of_slots

pub returns-clause-none : goal.returns-clause-none
returns-clause-none c = done_changes_none

pub returns-clause-some : goal.returns-clause-some
returns-clause-some c = work_changes_one
