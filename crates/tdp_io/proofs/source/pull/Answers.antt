use Rattle.std.proofs.Common.{arith, take}
use Rattle.std.proofs.lemmas.Grind.{common_steps}
use Rattle.std.proofs.lemmas.Result.{err_from_is_err_and}
use Rattle.tdp_io.proofs.Prefixes.{still_takes_some}
use Rattle.tdp_io.proofs.source.pull.Goals as goal

pub returns-in_err-extend_from_slice-clause-bytes :
    goal.returns-in_err-extend_from_slice-clause-bytes
returns-in_err-extend_from_slice-clause-bytes g c =
    let failed = err_from_is_err_and c.from_residual.result c.from_residual.ensures.1 in
    rw failed.1
    (still_takes_some _ _ c.args.bytes.now.items (take c.in-Got.count c.read-pulled.new.buf) _ c.in-Got.ensures.bytes.2 (grind (arith, common_steps)))
