use Rattle.std.proofs.Common.{◌∙◌, rules}
use Rattle.std.specs.List.{each_same}
use Rattle.core_views.proofs.sequence.SequenceU64Clone.clone.Goals as goal

pub returns : goal.returns
returns c = record { cases = c.from_vec.ensures ∙ each_same _ _ (search rules) }
