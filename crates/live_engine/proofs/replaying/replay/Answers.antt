use Rattle.std.proofs.lemmas.Result.{err_from_is_err_and}
use Rattle.step_seats.specs.Machines.{world_in}
use Rattle.table_seats.specs.Owners.{machine_of}
use Rattle.weave_engine.proofs.AnswersWritten.{nothing_replayed}
use Rattle.live_engine.proofs.replaying.replay.Goals as goal

pub returns-in_err-machine-clause-writes : goal.returns-in_err-machine-clause-writes
returns-in_err-machine-clause-writes g c =
    let p = err_from_is_err_and c.from_residual.result c.from_residual.ensures.1 in
    rw p.1 (nothing_replayed c.args.trace.now c.requires.trace (g.K.Sink.written c.args.out.now))

pub returns-in_err-how-clause-writes : goal.returns-in_err-how-clause-writes
returns-in_err-how-clause-writes g c =
    let p = err_from_is_err_and c.from_residual-in_err-how.result c.from_residual-in_err-how.ensures.1 in
    rw p.1 (world_in (machine_of c.replay_answers_on.new.machine), c.in_err-how.ensures.writes)

pub returns-clause-writes : goal.returns-clause-writes
returns-clause-writes g c = rw c.into_closing.ensures c.in_ok-how.ensures.writes
