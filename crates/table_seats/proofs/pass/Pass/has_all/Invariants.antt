use Rattle.std.proofs.Common.{take}
use Rattle.table_seats.specs.Boards.{AllHands}
use Rattle.table_seats.proofs.pass.Pass.has_all.Given as goal

abbrev pub invariant-loop-place : goal.invariant-loop-place
invariant-loop-place l = AllHands (take l.place-index l.self.hands)
