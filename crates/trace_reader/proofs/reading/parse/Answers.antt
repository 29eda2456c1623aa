use Rattle.std.proofs.Common.{arith}
use Rattle.std.proofs.lemmas.Result.{err_from_is_err_and}
use Rattle.trace_reader.proofs.Begin.{begun, bad_head, bad_line, all_read}
use Rattle.trace_reader.proofs.Ranges.{head_in_range}
use Rattle.trace_reader.proofs.Rising.{read_few, read_rising}
use Rattle.trace_reader.proofs.reading.parse.Goals as goal

pub returns-in_err-header-clause-read : goal.returns-in_err-header-clause-read
returns-in_err-header-clause-read c =
    let p = err_from_is_err_and c.from_residual.result c.from_residual.ensures.1 in
    let f = c.first_line-ended.ensures in
    rw (p.1, p.2) (bad_head c.in_err-header.field-0.0 _ _ _ (begun c.taken-size.result c.args.bytes.now c.first_line-ended.result.0.now
    c.first_line-ended.result.2.now c.first_line-ended.result.1 f.parts f.ended c.taken-size.ensures) c.in_err-header.ensures.read)

pub returns-in_err-body-clause-read : goal.returns-in_err-body-clause-read
returns-in_err-body-clause-read c =
    let p = err_from_is_err_and c.from_residual-in_err-body.result c.from_residual-in_err-body.ensures.1 in
    let f = c.first_line-ended.ensures in
    rw (p.1, p.2) (bad_line c.in_err-body.field-0.0 _ _ c.in_ok-header.header _ (begun c.taken-size.result c.args.bytes.now
    c.first_line-ended.result.0.now c.first_line-ended.result.2.now c.first_line-ended.result.1 f.parts f.ended c.taken-size.ensures)
    c.in_ok-header.ensures.read c.in_err-body.ensures.read)

pub returns-clause-read : goal.returns-clause-read
returns-clause-read c =
    let f = c.first_line-ended.ensures in
    rw c.under.ensures (all_read _ _ _ c.in_ok-header.header _ (begun c.taken-size.result c.args.bytes.now c.first_line-ended.result.0.now
    c.first_line-ended.result.2.now c.first_line-ended.result.1 f.parts f.ended c.taken-size.ensures) c.in_ok-header.ensures.read
    c.in_ok-body.ensures.read)

pub returns-clause-in_range : goal.returns-clause-in_range
returns-clause-in_range c =
    let b = c.in_ok-body.ensures.allowed in
    let h = c.in_ok-header.header in
    let said = c.in_ok-body.ensures.read in
    rw c.under.ensures (record {
      header = head_in_range _ h c.in_ok-header.ensures.read;
      lines = b.lines;
      rising = read_rising h 2 c.taken-size.result _ _ said;
      few = read_few h 2 c.taken-size.result _ _ (omega arith) said;
      go = b.go;
      items = b.items;
    })
