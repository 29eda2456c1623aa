use Rattle.std.proofs.Common.{map, string_bytes, subst, sym}
use Rattle.core_views.specs.Sizes.{AreSizes}
use Rattle.core_views.proofs.HeaderSizes.{header_sizes}
use Rattle.step_printing.proofs.Runs.{lack_written}
use Rattle.step_printing.proofs.program.run_trace.Goals as goal

pub view_of-requires : goal.view_of-requires
view_of-requires g c = subst AreSizes (sym c.of.ensures) (header_sizes c.args.trace.now.header c.requires.trace.header)

pub returns-in-Ok-Err-clause-written : goal.returns-in-Ok-Err-clause-written
returns-in-Ok-Err-clause-written g c =
    lack_written (map string_bytes c.args.words.now) c.args.asked.now c.args.trace.now c.args.limit (g.K.Sink.written c.args.out.now)
    (g.K.Sink.written c.refuse_words.new.out) c.in-Ok-Err.fault c.refuse_words.result (rw (c.of.ensures, c.in-Ok-Err.field-0-is) at c.in-Ok-Err.ensures) c.refuse_words.ensures.written
