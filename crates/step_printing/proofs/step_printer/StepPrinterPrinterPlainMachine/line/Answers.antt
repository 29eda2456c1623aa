use Rattle.step_printing.specs.PutLaws.{stopped_at_more}
use Rattle.step_printing.proofs.step_printer.StepPrinterPrinterPlainMachine.line.Goals as goal

pub run_by_turns-requires-clause-part : goal.run_by_turns-requires-clause-part
run_by_turns-requires-clause-part g c = λ p q marks more stop stopped. (stopped_at_more _ _ marks more stop stopped.0, stopped.1)
