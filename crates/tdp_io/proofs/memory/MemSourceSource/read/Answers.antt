use Rattle.std.proofs.Common.{arith, ap, sym, ◌∙◌}
use Rattle.std.proofs.lemmas.Grind.{common_steps}
use Rattle.tdp_io.proofs.Prefixes.{prefix_given}
use Rattle.tdp_io.proofs.memory.MemSourceSource.read.Goals as goal

pub returns-clause-bytes : goal.returns-clause-bytes
returns-clause-bytes c = (
  grind (arith, common_steps),
  grind (arith, common_steps),
  ap (λ supply. supply.left) (sym c.self.view_is)
      ∙ prefix_given c.copy_from_slice.new.self c.args.buf.now c.self.inside.bytes.items c.min-count.result c.self.inside.at
      (grind (arith, common_steps)) (grind (arith, common_steps)),
)
