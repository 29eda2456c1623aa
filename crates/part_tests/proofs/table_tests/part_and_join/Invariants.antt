use Rattle.table_seats.specs.Boards.{Fits}
use Rattle.part_tests.proofs.table_tests.part_and_join.Given as goal

abbrev pub invariant-loop-step : goal.invariant-loop-step
invariant-loop-step l = Fits l.board l.pass

abbrev pub invariant-loop-turn : goal.invariant-loop-turn
invariant-loop-turn l = Fits l.board l.pass × Fits l.board l.own
