use Rattle.std.proofs.Common.{◌≡◌, Bool, refl, ap, ◌∙◌}
use Rattle.std.proofs.lemmas.Option.{same_Some}
use Rattle.std.specs.Prelude.{Some}
use Rattle.std.specs.Fmt.{digits}
use Rattle.core_views.specs.declared.host.HostEntry.{HostEntry}
use Rattle.core_views.specs.Host.{is_huge}
use Rattle.core_views.specs.Text.{line_text}
use Rattle.core_views.proofs.RunStages.{only_one}
use Rattle.flat_laws.proofs.RunsTogether.{stands_together}
use Rattle.flat_laws.proofs.laws.large_pages_stay.Goals as goal

-- What was noted is as it was looked at.
size_is : (now_ noted : HostEntry) (huge : Bool) → Some now_ ≡ Some noted → is_huge noted ≡ huge → is_huge now_ ≡ huge
size_is now_ noted huge same is = ap is_huge (same_Some now_ noted same) ∙ is

pub returns-clause-prints : goal.returns-clause-prints
unfolding line_text digits
returns-clause-prints c = refl

pub returns-clause-runs : goal.returns-clause-runs
unfolding line_text digits
returns-clause-runs c = refl

pub returns-clause-large : goal.returns-clause-large
unfolding line_text digits
returns-clause-large c = refl

pub returns-clause-changed : goal.returns-clause-changed
returns-clause-changed c lawful =
    only_one lawful.1.1.0 (λ may. let not_ = size_is _ may.1.seen _ may.1.looked may.1.small in cc not_)
    (λ may. let asked = may.1.asked in cc asked) (λ may. let is = may.stands in cc is)

pub returns-clause-frame : goal.returns-clause-frame
returns-clause-frame c lawful = let saw = lawful.1.1.0.1.1 in absurd (cc (size_is _ saw.entry _ saw.looked saw.small))

pub returns-clause-small : goal.returns-clause-small
returns-clause-small c lawful = let saw = lawful.1.1.0.1.1 in absurd (cc (size_is _ saw.entry _ saw.looked saw.huge))

pub returns-clause-looks : goal.returns-clause-looks
returns-clause-looks c lawful = let saw = lawful.1.0.1.1 in absurd (cc saw.looked)

pub returns-clause-together : goal.returns-clause-together
returns-clause-together c = stands_together
