use Rattle.std.proofs.Common.{◌≡◌}
use Rattle.mmu_core.specs.machine.Turns.{IsSameHand}
use Rattle.live_workers.proofs.lines.run_lines.Given as goal

abbrev pub invariant-loop : goal.invariant-loop
invariant-loop g l = record {
  next : (goal.iterator-loop g).can_next l.iterator';
  finite : (goal.iterator-loop g).is_finite l.iterator';
  hand : IsSameHand (g.S.Stepper.seat l.fn.s).hand (g.S.Stepper.seat l.s).hand;
  actor : (g.S.Stepper.seat l.s).actor ≡ (g.S.Stepper.seat l.fn.s).actor;
  frame : g.S.Stepper.frame l.s ≡ g.S.Stepper.frame l.fn.s;
}
