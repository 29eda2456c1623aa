use Rattle.std.proofs.Common.{refl}
use Rattle.core_views.specs.Flat.{first_flat}
use Rattle.flat_laws.proofs.AloneIsFlat.{goes_as_flat}
use Rattle.flat_laws.proofs.AloneIsWhole.{stands_whole}
use Rattle.flat_laws.proofs.laws.alone_is_flat.Goals as goal

pub returns-clause-flat : goal.returns-clause-flat
returns-clause-flat c z lines h lawful stands falls = (goes_as_flat z lines h first_flat (λ i. refl) lawful stands falls).shown

pub returns-clause-answers : goal.returns-clause-answers
returns-clause-answers c z lines h lawful stands falls = let is = goes_as_flat z lines h first_flat (λ i. refl) lawful stands falls in (is.answers, is.prints)

pub returns-clause-whole : goal.returns-clause-whole
returns-clause-whole c lines h stands = stands_whole lines h stands
