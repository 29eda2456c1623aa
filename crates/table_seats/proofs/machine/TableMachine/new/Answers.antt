use Rattle.table_seats.specs.Owners.{OwnerView}
use Rattle.table_seats.proofs.Owners.{owns_first, starts}
use Rattle.table_seats.proofs.machine.TableMachine.new.Goals as goal

pub invariant_of-result : goal.invariant_of-result
invariant_of-result c =
    let made = c.in_ok-board.ensures {u = tt} in
    let m : OwnerView = record { sizes = c.of.result; board = c.in_ok-board.board; pass = c.in_ok-board.pass } in
    (owns_first c.args.trace.now m c.of.ensures made.start made.first c.holds.ensures, c.in_ok-room.ensures {u = tt})

pub returns-clause-start : goal.returns-clause-start
returns-clause-start c =
    let made = c.in_ok-board.ensures {u = tt} in
    let m : OwnerView = record { sizes = c.of.result; board = c.in_ok-board.board; pass = c.in_ok-board.pass } in
    starts c.args.trace.now m c.of.ensures made.start made.first c.holds.ensures
