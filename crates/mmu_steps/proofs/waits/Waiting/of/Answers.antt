use Rattle.std.proofs.Common.{ap, ◌∙◌}
use Rattle.core_views.specs.declared.kind.StepKind.{StepKind}
use Rattle.mmu_steps.specs.Waits.{waiting_at}
use Rattle.mmu_steps.proofs.Advancing.{enabled_sizes}
use Rattle.mmu_steps.proofs.KindWaits.{has_tried, waits_as_line}
use Rattle.mmu_steps.proofs.waits.Waiting.of.Goals as goal

pub by_kind-requires : goal.by_kind-requires
by_kind-requires c = enabled_sizes c.args.hand.now.core c.args.kind c.requires.enabled

pub returns-clause-tried : goal.returns-clause-tried
returns-clause-tried c =
    has_tried c.args.hand.now.core c.args.kind c.requires.left c.requires.enabled c.by_kind.result
    (c.by_kind.ensures ∙ ap (λ (k : StepKind). waiting_at k c.args.hand.now.core) c.named.ensures)

pub returns-clause-waits : goal.returns-clause-waits
returns-clause-waits c =
    waits_as_line c.args.hand.now.core c.args.kind c.requires.left c.requires.enabled c.by_kind.result
    (c.by_kind.ensures ∙ ap (λ (k : StepKind). waiting_at k c.args.hand.now.core) c.named.ensures)
