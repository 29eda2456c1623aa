use Rattle.tdpmmu.proofs.Runs.{check_writes}
use Rattle.tdpmmu.proofs.Lived.{live_writes}
use Rattle.tdpmmu.proofs.Woven.{replay_writes, weave_writes}
use Rattle.tdpmmu.proofs.program.run_trace.Goals as goal

pub returns-in-Weave-clause-written : goal.returns-in-Weave-clause-written
returns-in-Weave-clause-written g c =
    rw (c.in-Weave.is, c.status_of-in-Weave.ensures)
    (weave_writes c.args.trace.now (g.K.Sink.written c.args.out.now) (g.K.Sink.written c.weave.new.out) c.weave.result c.weave.ensures.writes)

pub returns-in-Check-clause-written : goal.returns-in-Check-clause-written
returns-in-Check-clause-written g c =
    rw (c.in-Check.is, c.ended.ensures)
    (check_writes c.args.trace.now (g.K.Sink.written c.args.out.now) (g.K.Sink.written c.check.new.out) c.check.result c.check.ensures.bytes)

pub returns-in-Live-clause-written : goal.returns-in-Live-clause-written
returns-in-Live-clause-written g c =
    rw (c.in-Live.is, c.ended-in-Live.ensures)
    (live_writes c.args.trace.now (g.K.Sink.written c.args.out.now) (g.K.Sink.written c.run_live.new.out) c.run_live.result c.run_live.ensures.bytes)

pub returns-in-Replay-clause-written : goal.returns-in-Replay-clause-written
returns-in-Replay-clause-written g c =
    rw (c.in-Replay.is, c.status_of.ensures)
    (replay_writes c.args.trace.now (g.K.Sink.written c.args.out.now) (g.K.Sink.written c.replay.new.out) c.replay.result c.replay.ensures.writes)
