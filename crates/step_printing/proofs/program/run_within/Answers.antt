use Rattle.std.proofs.Common.{◌≡◌, Ok, arith, map, string_bytes}
use Rattle.std.proofs.lemmas.Grind.{common_steps}
use Rattle.show_options.specs.Asked.{asked_by}
use Rattle.step_printing.proofs.Runs.{run_prints}
use Rattle.step_printing.proofs.program.run_within.Goals as goal

pub returns-else-asked-clause-prints : goal.returns-else-asked-clause-prints
returns-else-asked-clause-prints g c =
    let asked : asked_by (map string_bytes c.args.words.now) ≡ Ok c.in-Ok.asked = grind (arith, common_steps) in
    run_prints (map string_bytes c.args.words.now) c.args.limit (g.K.Sink.written c.args.out.now) (g.K.Sink.written c.run_asked.new.out)
    c.run_asked.result (g.S.Source.left c.args.src.now) c.in-Ok.asked asked c.if-asked.false
    c.run_asked.ensures.prints
