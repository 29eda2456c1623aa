use Rattle.std.proofs.Common.{arith}
use Rattle.std.specs.Prelude.{is_some}
use Rattle.std.proofs.lemmas.Grind.{common_steps}
use Rattle.std.proofs.lemmas.Result.{err_from_is_err_and}
use Rattle.trace_reader.proofs.Bytes.{line_first}
use Rattle.trace_reader.proofs.Loop.{all_read, goes_on, is_done, moves, none_read, one_line, starts, stops, unrolled}
use Rattle.trace_reader.proofs.lines.lines.Goals as goal

pub loop-rest-init : goal.loop-rest-init
loop-rest-init c =
    let e = c.new-body.ensures in
    record {
      so_far = starts c.args.header.now c.new-body.result c.args.number c.args.at _ e.lines e.items e.go;
      room = omega arith;
      small = omega arith;
      allowed = none_read c.args.header.now c.new-body.result e.lines e.items e.go;
      counted = omega arith;
      few = rw e.lines (omega arith);
    }

pub returns-in_err-found-clause-read : goal.returns-in_err-found-clause-read
returns-in_err-found-clause-read c =
    let p = err_from_is_err_and c.from_residual.result c.from_residual.ensures.1 in
    let f = c.first_line-ended.ensures in
    rw (p.1, p.2) (stops c.args.header.now c.loop-rest.body c.loop-rest.number _ c.in_err-found.field-0.0 _ _ _
    (unrolled c.args.header.now c.loop-rest.number c.loop-rest.at c.taken-at.result (is_some c.loop-rest.body.go) c.loop-rest.rest.now
    c.first_line-ended.result.0.now c.first_line-ended.result.2.now c.first_line-ended.result.1 (grind (arith, common_steps)) f.parts f.ended f.length
    c.taken-at.ensures)
    (rw c.is_some-go_seen.ensures at c.in_err-found.ensures.read) c.loop-rest.invariant.so_far)

pub loop-rest-preserved : goal.loop-rest-preserved
loop-rest-preserved c =
    let f = c.first_line-ended.ensures in
    let m =
    moves c.taken-at.result c.loop-rest.rest.now c.first_line-ended.result.0.now c.first_line-ended.result.2.now c.first_line-ended.result.1
    (grind (arith, common_steps)) f.ended f.length c.taken-at.ensures in
    let longer = one_line c.loop-rest.body c.put.new.self c.loop-rest.number c.in_ok-found.found c.in_ok-put.ensures in
    record {
      so_far = goes_on c.args.header.now c.loop-rest.body c.put.new.self c.loop-rest.number _ c.in_ok-found.found _ _ _
          (unrolled c.args.header.now c.loop-rest.number c.loop-rest.at c.taken-at.result (is_some c.loop-rest.body.go) c.loop-rest.rest.now
          c.first_line-ended.result.0.now c.first_line-ended.result.2.now c.first_line-ended.result.1 (grind (arith, common_steps)) f.parts f.ended
          f.length c.taken-at.ensures)
          (line_first c.args.header.now (is_some c.loop-rest.body.go) _) (rw c.is_some-go_seen.ensures at c.in_ok-found.ensures.read)
          c.in_ok-put.ensures c.loop-rest.invariant.so_far;
      room = omega arith;
      small = c.in_ok-found.ensures.small;
      allowed =
          all_read c.args.header.now c.loop-rest.body c.put.new.self c.loop-rest.number c.in_ok-found.found c.loop-rest.invariant.allowed
          c.in_ok-found.ensures.allowed c.in_ok-put.ensures;
      counted = omega arith;
      few = omega (arith, m, longer, c.loop-rest.invariant.few);
    }

pub returns-clause-read : goal.returns-clause-read
returns-clause-read c =
    is_done c.args.header.now c.loop-rest.body c.loop-rest.number c.loop-rest.at (is_some c.loop-rest.body.go) c.loop-rest.rest.now _
    (grind (arith, common_steps)) c.loop-rest.invariant.so_far
