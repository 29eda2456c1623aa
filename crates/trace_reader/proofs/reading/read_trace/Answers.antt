use Rattle.std.proofs.Common.{◌≡◌, true}
use Rattle.trace_reader.proofs.Begin.{told}
use Rattle.trace_reader.proofs.reading.read_trace.Goals as goal

pub returns-in-Ok-clause-told : goal.returns-in-Ok-clause-told
returns-in-Ok-clause-told g c =
    told (g.S.Source.left c.args.src.now) (g.S.Source.left c.read_all.new.src) c.in-Bytes.bytes.items c.deref.result.now
    (g.S.Source.ended c.read_all.new.src ≡ true) _ (rw c.in-Bytes.is at c.in_ok-read_all.ensures.bytes) c.deref.ensures.value c.in-Ok.ensures.read

pub returns-in-Err-Refused-clause-told : goal.returns-in-Err-Refused-clause-told
returns-in-Err-Refused-clause-told g c =
    told (g.S.Source.left c.args.src.now) (g.S.Source.left c.read_all.new.src) c.in-Bytes.bytes.items c.deref.result.now
    (g.S.Source.ended c.read_all.new.src ≡ true) _ (rw c.in-Bytes.is at c.in_ok-read_all.ensures.bytes) c.deref.ensures.value
    (rw c.in-Err-Refused.field-0-is at c.in-Err-Refused.ensures.read)
