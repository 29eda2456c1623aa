-- The steps of a line that splits a large leaf keep the invariant.
use Rattle.std.proofs.Common.{◌≡◌, ◌^◌, ◌<◌, ℕ, false, refl, ◌∙◌}
use Rattle.core_views.specs.declared.actor.Actor.{Actor}
use Rattle.core_views.specs.declared.actor.Actor.TheVariants.{Worker}
use Rattle.core_views.specs.declared.place.Place.TheVariants as place
use Rattle.core_views.specs.declared.place.SplitPlace.{SplitPlace}
use Rattle.core_views.specs.declared.place.SplitPlace.TheVariants.{End}
use Rattle.core_views.specs.declared.sizes.Sizes.{Sizes}
use Rattle.core_views.specs.declared.trace.Command.{Command}
use Rattle.core_views.specs.declared.trace.Command.TheVariants as command
use Rattle.core_views.specs.declared.trace.Line.{Line}
use Rattle.core_views.specs.Held.{Held}
use Rattle.core_views.specs.Traces.{IsCommandFor}
use Rattle.spte_words.specs.declared.area.Area.TheVariants as area
use Rattle.part_steps.specs.PartBounds.{PartRests}
use Rattle.part_steps.specs.PartTasks.{own_index, part_task}
use Rattle.mmu_core.specs.forms.split.SplitKnows.{SplitKnows}
use Rattle.mmu_core.specs.forms.split.SplitSteps.{split_note, split_outcome, split_part}
use Rattle.mmu_core.specs.invariant.Invariant.{Holds, Invariant}
use Rattle.mmu_core.specs.invariant.TopicsInvariant.{TopicsInvariant}
use Rattle.mmu_core.specs.machine.Outcomes.{place_after}
use Rattle.mmu_core.specs.machine.View.{View, answer_in, stepped}
use Rattle.mmu_core.proofs.forms.access.AccessParts.{AreSmall, may_make}
use Rattle.mmu_core.proofs.forms.access.FaultKnown.{parts_answer}
use Rattle.mmu_core.proofs.forms.split.SplitKnown.{split_known}
use Rattle.mmu_core.proofs.forms.split.SplitPlaces.{split_needs, split_retires, split_untold}
use Rattle.mmu_core.proofs.invariant.FormKept.{FormKept}
use Rattle.mmu_core.proofs.invariant.PartBounded.{part_rests_at}
use Rattle.mmu_core.proofs.invariant.QuietHand.{one_step, quiet_hand}
use Rattle.mmu_core.proofs.invariant.QuietKept.{MakesAt}
use Rattle.mmu_core.proofs.lines.KnowsKept.{KnowsAfter, step_knows, step_leaves}
use Rattle.mmu_core.proofs.lines.OpenedStays.{frame_untold, opened_untold}
use Rattle.mmu_core.proofs.lines.StepTopics.{knows_by}
use Rattle.mmu_core.proofs.machine.PartStepping.{IsPart, is_publish, never_told, replaces_none}
use Rattle.mmu_core.proofs.machine.Stepping.{IsStep}
use Rattle.mmu_core.proofs.slots.SlotsStay.{AllKnow}

-- Its guest frame is one of a machine.
pub frame_low : (z : Sizes) (actor : Actor) (gfn : ℕ) → IsCommandFor z actor (command.Split gfn) → gfn < 2 ^ 36
frame_low z (Worker n) gfn may = may.1
frame_low z _ gfn may = absurd may

-- It has loaded nothing that its places speak of.
split_holds : (p : SplitPlace) (gfn : ℕ) (h g : Held) (x : ℕ) (z : Sizes) (pool : ℕ → ℕ) (set : ℕ)
    → Holds z pool set (place_after (split_outcome p h.state.sizes h.topics x)) (command.Split gfn) g
split_holds (End e) gfn h g x z pool set = tt
split_holds _ gfn h g x z pool set = tt

module _ (z : Sizes) (v : View) (a : ℕ) (line : Line) (p : SplitPlace) (gfn : ℕ) (S : IsStep z v a line (command.Split gfn) (place.Split p))
    (I : Invariant z v) (P : TopicsInvariant z v) where
  abbrev h : Held
  h = v.hand a

  R : PartRests h
  R = part_rests_at z v a I P S.there

  K : SplitKnows p h.state.sizes gfn h.topics
  K = step_knows z v a line (command.Split gfn) (place.Split p) S I

  pub split_kept : MakesAt z v a (place.Split p) (command.Split gfn) → AllKnow z (stepped a line (command.Split gfn) (place.Split p) v).hand
      → Invariant z (stepped a line (command.Split gfn) (place.Split p) v)
  split_kept makes knows =
      let x : ℕ = answer_in (part_task (split_part p gfn h.topics) (own_index h) h.topics (split_note p)) v.words in
      let L = step_leaves z v a line (command.Split gfn) (place.Split p) S I in
      let untold = split_untold p gfn h.topics in
      quiet_hand z v a line (command.Split gfn) (place.Split p) S I P makes (split_needs p h gfn R K) (record {
        never = one_step (λ s. is_publish s ≡ false) (split_part p gfn h.topics) (never_told (split_part p gfn h.topics) untold);
        same = refl;
        caches = refl;
        leaves = record {
          leaves = λ may. split_retires p h.state.sizes gfn h.topics x (L.leaves refl);
          opens = λ may. opened_untold (split_part p gfn h.topics) h.topics x untold ∙ L.opens refl;
          frames = λ may. frame_untold (split_part p gfn h.topics) h.topics x untold ∙ L.frames refl;
        };
        holds = λ cached. split_holds p gfn h _ x z _ (v.words area.Slots 0);
      }) knows

  pub own_split : KnowsAfter line (command.Split gfn) (place.Split p) h
      (answer_in (part_task (split_part p gfn h.topics) (own_index h) h.topics (split_note p)) v.words)
  own_split =
      let x : ℕ = answer_in (part_task (split_part p gfn h.topics) (own_index h) h.topics (split_note p)) v.words in
      let A = parts_answer (split_part p gfn h.topics) (own_index h) h.topics (split_note p) v.words in
      let small = frame_low z line.actor gfn S.allowed in
      knows_by (place.Split p) line (command.Split gfn) h x (split_needs p h gfn R K) (λ cached. split_known p line h gfn cached x small R K A)

  pub makes_split : AreSmall v → IsPart z v a (split_part p gfn h.topics)
  makes_split small =
      may_make z v a (split_part p gfn h.topics) small I P S.there (split_needs p h gfn R K)
      (replaces_none z (split_part p gfn h.topics) (v.words area.Pool) (v.words area.Slots 0) h.topics (split_untold p gfn h.topics))

-- ---- all of it

pub split_keeps : (p : SplitPlace) (c : Command) → FormKept (place.Split p) c
split_keeps p (command.Split gfn) = record {
  needs = λ z v a line S I P. split_needs p (v.hand a) gfn (part_rests_at z v a I P S.there) (step_knows z v a line (command.Split gfn) (place.Split p) S I);
  knows = λ z v a line S I P there. own_split z v a line p gfn S I P;
  makes = λ z v a line small S I P. one_step (IsPart z v a) (split_part p gfn (v.hand a).topics) (makes_split z v a line p gfn S I P small);
  kept = λ z v a line S I P makes knows. split_kept z v a line p gfn S I P makes knows;
}
split_keeps p _ = record {
  needs = λ z v a line S I P. absurd S.holds;
  knows = λ z v a line S I P there. absurd S.holds;
  makes = λ z v a line small S I P. absurd S.holds;
  kept = λ z v a line S I P makes knows. absurd S.holds;
}
