use Rattle.std.proofs.Common.{◌∙◌, ap, sym}
use Rattle.core_views.specs.declared.progress.Progress.{Progress}
use Rattle.core_views.specs.declared.place.AccessPlace.{AccessPlace}
use Rattle.core_views.specs.declared.place.Place.TheVariants.{Access}
use Rattle.core_views.specs.declared.trace.Line.{Line}
use Rattle.part_tests.proofs.InFault.{in_fault, is_same}
use Rattle.part_tests.proofs.turns.fault_of.Goals as goal

pub returns : goal.returns
unfolding in_fault
returns c = record {
  fault =
      in_fault c.args.hand.now.core c.in-Fault.place c.in-Access-command.gfn c.in-Access-command.word c.in-Access-command.op c.is_write.result
      (sym c.has_line.ensures ∙ c.if-not-has_line.false)
      (ap (λ (x : Progress). x.place) (sym c.progress.ensures) ∙ c.in-Access.is ∙ ap (λ (a : AccessPlace). Access a) c.in-Fault.is)
      (ap (λ (l : Line). l.command) (sym c.line.ensures.line) ∙ c.in-Access-command.is) (sym c.is_write.ensures);
  kind = sym c.is_fast_place.ensures ∙ is_same c.is_fast_place.result c.args.fast c.if-is_fast_place-fast.false;
}
