-- A step of a part that publishes nothing, of a line that caches nothing, keeps the invariant: a form says of it what its hand holds after it.
use Rattle.std.proofs.Common.{◌≡◌, ℕ, sym, subst, ap}
use Rattle.std.specs.Prelude.{Some}
use Rattle.circular_buffer.specs.Buffer.{Buffer}
use Rattle.core_views.specs.declared.cache.Translation.{Translation}
use Rattle.core_views.specs.declared.kind.Kind.{Kind}
use Rattle.core_views.specs.declared.place.Place.{Place}
use Rattle.core_views.specs.declared.sizes.Sizes.{Sizes}
use Rattle.core_views.specs.declared.topics.Topics.{Topics}
use Rattle.core_views.specs.declared.trace.Command.{Command}
use Rattle.core_views.specs.declared.trace.Line.{Line}
use Rattle.core_views.specs.Held.{Held}
use Rattle.spte_words.specs.declared.area.Area.{Area}
use Rattle.spte_words.specs.declared.area.Area.TheVariants as area
use Rattle.part_steps.specs.declared.part_step.PartStep.{PartStep}
use Rattle.part_steps.specs.Tasks.{kind_of_task}
use Rattle.part_steps.specs.TopicSteps.{topics_after}
use Rattle.mmu_core.specs.declared.outcome.Outcome.{Outcome}
use Rattle.mmu_core.specs.invariant.Invariant.{CachedPart, Holds, Invariant, RetiresPart}
use Rattle.mmu_core.specs.invariant.TopicsInvariant.{TopicsInvariant}
use Rattle.mmu_core.specs.forms.access.Cached.{flushed}
use Rattle.mmu_core.specs.lines.Forms.{RestsAt, caches_at, outcome_at, part_at, records_at}
use Rattle.mmu_core.specs.lines.PartAt.{task_at}
use Rattle.mmu_core.specs.machine.Outcomes.{place_after}
use Rattle.mmu_core.specs.machine.View.{View, answer_in, stepped, words_after}
use Rattle.mmu_core.proofs.invariant.QuietKept.{MakesAt, NeverPublishes, SetsStay, quiet_kept, sets_stay}
use Rattle.mmu_core.proofs.forms.access.CachedKept.{flushed_kept}
use Rattle.mmu_core.proofs.machine.PartStepping.{behind_part}
use Rattle.mmu_core.proofs.lines.StepTopics.{topics_of_step}
use Rattle.mmu_core.proofs.machine.HandWith.{hand_with}
use Rattle.mmu_core.proofs.machine.Stepping.{IsStep}
use Rattle.mmu_core.proofs.slots.SlotsStay.{AllKnow}
use Rattle.mmu_core.specs.invariant.CachedPart.{FitsMachine}

same_step : {s step : PartStep} → Some s ≡ Some step → s ≡ step
same_step e = cc e

-- A place names one step of a part: what holds of this one holds of each.
pub one_step : (P : PartStep → Type 0) (step : PartStep) → P step → (s : PartStep) → Some step ≡ Some s → P s
one_step P step so s is = subst P (same_step is) so

-- What is cached stays, or is flushed.
pub still_cached : (z : Sizes) (k : Kind) (c : Buffer Translation) (x : ℕ) → CachedPart z c.items → CachedPart z (flushed k c x).items
still_cached z k c x each = flushed_kept (FitsMachine z) k c x each

-- ---- the step

-- What a form says of a step that answered x, of the hand that holds after it what the step of the part says.
pub record OfHand (z : Sizes) (v : View) (a : ℕ) (line : Line) (command : Command) (p : Place) (x : ℕ) : Type 0 where
  pub never : NeverPublishes v a p command
  pub same : records_at p command (v.hand a).slots ≡ (v.hand a).slots
  pub caches : caches_at p command (v.hand a) x ≡ (v.hand a).cached
  pub leaves : RetiresPart (place_after (outcome_at p command (v.hand a) x)) (behind_part (part_at p command (v.hand a)) (v.hand a).topics x)
  pub holds : (cached : Buffer Translation)
      → Holds z (words_after (task_at p command (v.hand a)) v.words area.Pool) (v.words area.Slots 0)
      (place_after (outcome_at p command (v.hand a) x)) command
      (hand_with line command p (v.hand a) (behind_part (part_at p command (v.hand a)) (v.hand a).topics x) cached x)

pub quiet_hand : (z : Sizes) (v : View) (a : ℕ) (line : Line) (command : Command) (p : Place) → IsStep z v a line command p → Invariant z v
    → TopicsInvariant z v → MakesAt z v a p command → RestsAt p command (v.hand a)
    → OfHand z v a line command p (answer_in (task_at p command (v.hand a)) v.words) → AllKnow z (stepped a line command p v).hand
    → Invariant z (stepped a line command p v)
quiet_hand z v a line command p S I P makes R Q knows =
    quiet_kept z v a line command p S I W (record {
      same = Q.same;
      room = ap (λ (c : Buffer Translation). c.capacity) Q.caches;
      leaves = subst (RetiresPart (place_after o)) (sym held) Q.leaves;
      holds =
          subst (λ (t : Topics). Holds z (words area.Pool) set (place_after o) command (hand_with line command p h t cached x))
          (sym held) (Q.holds cached);
      cached =
          still_cached z kind_ (caches_at p command h x) x
          (subst (λ (c : Buffer Translation). CachedPart z c.items) (sym Q.caches) (I.cached a S.there));
    }) knows
  where
    h : Held
    h = v.hand a

    set : ℕ
    set = v.words area.Slots 0

    x : ℕ
    x = answer_in (task_at p command h) v.words

    o : Outcome
    o = outcome_at p command h x

    words : Area → ℕ → ℕ
    words = words_after (task_at p command h) v.words

    kind_ : Kind
    kind_ = kind_of_task h.state.sizes (task_at p command h)

    cached : Buffer Translation
    cached = flushed kind_ (caches_at p command h x) x

    held : topics_after h.state.sizes kind_ h.topics x ≡ behind_part (part_at p command h) h.topics x
    held = topics_of_step p command h x R

    W : SetsStay z v a words
    W = sets_stay z v a p command makes Q.never P
