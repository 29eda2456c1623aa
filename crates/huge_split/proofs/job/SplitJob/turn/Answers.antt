use Rattle.std.proofs.Common.{subst, sym, ap, ◌∙◌}
use Rattle.core_views.specs.declared.progress.Progress.{Progress}
use Rattle.core_views.specs.Held.{Held, progress_of}
use Rattle.huge_split.specs.Splits.{IsEndOf}
use Rattle.huge_split.proofs.LastSteps.{ends_of}
use Rattle.huge_split.proofs.job.SplitJob.turn.Goals as goal

-- The place that it had looked at is the one before the turn.
pub end_of-requires : goal.end_of-requires
end_of-requires g c =
    subst IsEndOf
    (sym (ap (λ (p : Progress). p.place) c.progress.ensures ∙ ap (λ (h : Held). (progress_of h.state).place) c.hand.ensures.hand))
    (ends_of _ _ _ c.in-Done.ensures.turns c.requires.left c.requires.splits)
