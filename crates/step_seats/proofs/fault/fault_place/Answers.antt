use Rattle.std.proofs.Common.{◌∙◌, ap, sym}
use Rattle.core_views.specs.declared.progress.Progress.{Progress}
use Rattle.core_views.specs.declared.place.AccessPlace.{AccessPlace}
use Rattle.core_views.specs.declared.place.Place.{Place}
use Rattle.core_views.specs.declared.place.Place.TheVariants.{Access}
use Rattle.mmu_core.specs.machine.Steps.{place_at}
use Rattle.step_seats.proofs.FaultTurns.{is_at}
use Rattle.step_seats.proofs.fault.fault_place.Goals as goal

pub returns-clause-is_at : goal.returns-clause-is_at
returns-clause-is_at c =
    let h = c.args.hand.now.core in
    is_at c.in-Fault.place c.args.gfn c.args.write h c.requires.reached c.requires.stands
    (ap (λ (q : Place). place_at q h)
    (ap (λ (x : Progress). x.place) (sym c.progress.ensures) ∙ c.in-Access.is ∙ ap (λ (a : AccessPlace). Access a) c.in-Fault.is))
