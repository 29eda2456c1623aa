use Rattle.std.proofs.Common.{ap, subst, sym, ◌∙◌}
use Rattle.core_views.specs.Sizes.{AreSizes}
use Rattle.core_views.proofs.HeaderSizes.{header_sizes}
use Rattle.step_printing.specs.declared.lines.Lines.{Lines}
use Rattle.step_printing.proofs.program.show_trace.Goals as goal

pub print_steps-requires-clause-ready : goal.print_steps-requires-clause-ready
print_steps-requires-clause-ready g c = record {
  sizes = subst AreSizes (sym (ap (λ (l : Lines). l.sizes) c.first.ensures ∙ c.of.ensures)) (header_sizes c.args.trace.now.header c.requires.trace.header);
  unfailed = c.requires.unfailed;
}
