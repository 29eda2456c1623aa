use Rattle.std.proofs.Common.{sym, ◌∙◌}
use Rattle.mmu_core.proofs.lines.ByStep.{step_needs}
use Rattle.mmu_steps.proofs.step.task.Goals as goal

pub part_task-requires-clause-needs : goal.part_task-requires-clause-needs
part_task-requires-clause-needs c =
    step_needs c.args.place c.args.line.now.command c.args.hand.now.core c.in-Some.step c.requires.rests (sym c.part_of.ensures.step ∙ c.in-Some.is)
