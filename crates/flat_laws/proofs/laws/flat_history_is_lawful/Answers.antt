use Rattle.std.proofs.Common.{refl}
use Rattle.std.specs.Fmt.{digits}
use Rattle.core_views.specs.Flat.{first_facts, first_flat}
use Rattle.core_views.specs.FlatHistory.{one_by_one}
use Rattle.core_views.specs.Text.{line_text}
use Rattle.flat_laws.proofs.AloneIsLawful.{one_by_one_lawful}
use Rattle.flat_laws.proofs.Caused.{first_caused}
use Rattle.flat_laws.proofs.Writes.{first_of_lines}
use Rattle.flat_laws.proofs.AloneIsWhole.{stands_whole}
use Rattle.flat_laws.proofs.StandsAlone.{one_by_one_stands}
use Rattle.flat_laws.proofs.laws.flat_history_is_lawful.Goals as goal

pub returns-clause-lawful : goal.returns-clause-lawful
returns-clause-lawful c h lines = one_by_one_lawful h lines first_flat (λ i. refl) (record { lines = first_of_lines; caused = first_caused })

pub returns-clause-whole : goal.returns-clause-whole
returns-clause-whole c h lines = stands_whole lines (one_by_one h lines first_facts) (one_by_one_stands h lines first_facts)

pub returns-clause-alone : goal.returns-clause-alone
returns-clause-alone c h lines = one_by_one_stands h lines first_facts

-- Of the examples the bytes are computed.

pub returns-clause-prints : goal.returns-clause-prints
unfolding line_text digits
returns-clause-prints c = refl

pub returns-clause-hosts : goal.returns-clause-hosts
unfolding line_text digits
returns-clause-hosts c = refl

pub returns-clause-full : goal.returns-clause-full
unfolding line_text digits
returns-clause-full c = refl
