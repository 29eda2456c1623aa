use Rattle.std.proofs.Common.{◌≡◌, ◌<◌, length}
use Rattle.mmu_core.specs.alone.LineAlone.{hand_left}
use Rattle.turn_loops.proofs.PartRuns.{PartRun}
use Rattle.turn_loops.proofs.alone.run_line.Given as goal

abbrev pub invariant-loop : goal.invariant-loop
invariant-loop g l = record {
  part : PartRun l.line (g.S.Stepper.seat l.fn.s).actor (g.S.Stepper.seat l.fn.s) (g.S.Stepper.seat l.s);
  reserved : 0 < (g.S.Stepper.seat l.s).room;
  left : length (g.S.Stepper.seat l.s).hand.answers < length (g.S.Stepper.seat l.s).hand.lines;
  actor : (g.S.Stepper.seat l.s).actor ≡ (g.S.Stepper.seat l.fn.s).actor;
  frame : g.S.Stepper.frame l.s ≡ g.S.Stepper.frame l.fn.s;
}

abbrev pub decreases-loop : goal.decreases-loop
decreases-loop g l = hand_left (g.S.Stepper.seat l.s).hand
