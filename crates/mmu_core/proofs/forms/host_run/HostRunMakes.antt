-- A line that maps a run of host pages as one, or its pages by themselves, makes at each place a step of a part that its actor may make.
use Rattle.std.proofs.Common.{◌<◌, ℕ, sym, ap, ◌∙◌}
use Rattle.std.specs.Prelude.{Option, is_some}
use Rattle.core_views.specs.declared.place.BeginPlace.TheVariants as begins
use Rattle.core_views.specs.declared.place.EndPlace.TheVariants as ends
use Rattle.core_views.specs.declared.place.HostRunPlace.{HostRunPlace}
use Rattle.core_views.specs.declared.place.HostRunPlace.TheVariants.{Look, LookOn, Begin, Change, End}
use Rattle.core_views.specs.declared.place.Place.TheVariants as place
use Rattle.core_views.specs.declared.sizes.Sizes.{Sizes}
use Rattle.core_views.specs.declared.topics.Invalidated.{Invalidated}
use Rattle.core_views.specs.declared.topics.PageRun.{PageRun}
use Rattle.core_views.specs.declared.trace.Command.TheVariants.{ChangeRun}
use Rattle.core_views.specs.declared.trace.Line.{Line}
use Rattle.core_views.specs.declared.trace.RunChange.{RunChange}
use Rattle.core_views.specs.HostRuns.{owns_run}
use Rattle.core_views.specs.Sizes.{actors_of}
use Rattle.spte_words.specs.declared.area.Area.TheVariants as area
use Rattle.part_steps.specs.declared.part_step.PartStep.{PartStep}
use Rattle.part_steps.specs.declared.part_step.PartStep.TheVariants as part
use Rattle.part_steps.specs.PageRuns.{is_several}
use Rattle.mmu_core.specs.forms.host_run.HostRunKnows.{HostRunKnows}
use Rattle.mmu_core.specs.forms.host_run.HostRunSteps.{host_run_part}
use Rattle.mmu_core.specs.invariant.Invariant.{Invariant}
use Rattle.mmu_core.specs.invariant.TopicsInvariant.{TopicsInvariant}
use Rattle.mmu_core.specs.machine.View.{View}
use Rattle.mmu_core.proofs.forms.access.AccessParts.{AreSmall, may_make}
use Rattle.mmu_core.proofs.forms.host.HostMakes.{closes_own, slots_apart}
use Rattle.mmu_core.proofs.forms.host_run.HostRunNeeds.{host_run_needs}
use Rattle.mmu_core.proofs.forms.host_run.RunTargets.{target_has_pages}
use Rattle.mmu_core.proofs.invariant.PartBounded.{part_rests_at}
use Rattle.mmu_core.proofs.lines.EitherPlace.{either_place}
use Rattle.mmu_core.proofs.lines.KnowsKept.{step_knows}
use Rattle.mmu_core.proofs.lines.Raised.{few_raised}
use Rattle.mmu_core.proofs.machine.PartStepping.{IsPart, Replaces}
use Rattle.mmu_core.proofs.machine.Stepping.{IsStep}

module _ (z : Sizes) (v : View) (a : ℕ) (page : ℕ) (change : RunChange) where
  abbrev Says : PartStep → Type 0
  Says step = Replaces z step (v.words area.Pool) (v.words area.Slots 0) (v.hand a).topics

  host_run_says : (p : HostRunPlace) → AreSmall v → Invariant z v → TopicsInvariant z v → a < actors_of z → HostRunKnows p page change (v.hand a)
      → Says (host_run_part p page change (v.hand a))
  host_run_says Look small I P there K =
      either_place Says (owns_run (v.hand a).state.sizes (v.hand a).state.actor page change) (part.Host page) part.Seq tt tt
  host_run_says LookOn small I P there K = tt
  host_run_says (Begin (begins.Find begun)) small I P there K = either_place Says begun part.Slot part.Slots tt tt
  host_run_says (Begin (begins.Walk rooted)) small I P there K = either_place Says rooted (part.Sweep _) part.Root tt tt
  host_run_says (Begin begins.SetCount) small I P there K = record {
    apart = slots_apart z (v.words area.Slots 0) (v.words area.Role) (v.words area.Pool) I.set_part;
    of_slot = λ closed of_none.
        let is = ap (λ (n : Invalidated). n.pages) K.1.2 in
        let some = target_has_pages page (v.hand a).topics in
        let none = ap (λ (o : Option PageRun). is_some o) (sym is ∙ of_none) in
        absurd (cc (some, none));
  }
  host_run_says (Begin _) small I P there K = tt
  host_run_says Change small I P there K =
      either_place Says (is_several (v.hand a).topics.invalidations.own.pages) part.ChangeNext (part.Change _) tt tt
  host_run_says (End ends.SetCount) small I P there K =
      closes_own (v.words area.Pool) (v.words area.Slots 0) (v.hand a).topics
      (slots_apart z (v.words area.Slots 0) (v.words area.Role) (v.words area.Pool) I.set_part) K.0.0.is
  host_run_says (End ends.SetSeq) small I P there K = few_raised z v a small P there K.0.0.alone.alone K.0.1
  host_run_says (End ends.Exclude) small I P there K = tt
  host_run_says (End _) small I P there K = tt

pub makes_host_run : (z : Sizes) (v : View) (a : ℕ) (line : Line) (p : HostRunPlace) (page : ℕ) (change : RunChange) → AreSmall v
    → IsStep z v a line (ChangeRun page change) (place.HostRun p) → Invariant z v → TopicsInvariant z v
    → IsPart z v a (host_run_part p page change (v.hand a))
makes_host_run z v a line p page change small S I P =
    let K = step_knows z v a line (ChangeRun page change) (place.HostRun p) S I in
    may_make z v a (host_run_part p page change (v.hand a)) small I P S.there
    (host_run_needs p (v.hand a) page change (part_rests_at z v a I P S.there) K).0 (host_run_says z v a page change p small I P S.there K)
