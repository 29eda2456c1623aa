-- What an actor's line excuses before its step, it excuses after it, or has passed it with the step.
use Rattle.core_views.specs.Held.{Held}
use Rattle.core_views.specs.declared.place.Place.TheVariants as place
use Rattle.core_views.specs.declared.place.Place.{Place}
use Rattle.core_views.specs.declared.sizes.Sizes.{Sizes}
use Rattle.core_views.specs.declared.topics.Topics.{Topics}
use Rattle.core_views.specs.declared.trace.Command.{Command}
use Rattle.core_views.specs.declared.trace.Line.{Line}
use Rattle.log_invariant.proofs.OwnExcuse.{AllowsAt, PassesAt, PassesOf, change_excuse, passed_there}
use Rattle.log_invariant.proofs.forms.log.PassedFrames.{topics_made, topics_then}
use Rattle.log_invariant.proofs.forms.log.LogExcuse.{log_excuse, taken_next}
use Rattle.log_invariant.proofs.forms.log.ReadingExcuses.{said_next}
use Rattle.mmu_core.proofs.forms.log.ReadingPlaces.{IsOfReading, after_reading, reading_is}
use Rattle.mmu_core.specs.forms.log.Readings.{Reading, reading_at}
use Rattle.log_invariant.specs.Forbidding.{ForbidsLater}
use Rattle.log_invariant.specs.forms.log.LogReads.{taken_of}
use Rattle.mmu_core.proofs.invariant.QuietKept.{MakesAt}
use Rattle.mmu_core.proofs.lines.KnowsKept.{step_knows, step_leaves}
use Rattle.mmu_core.proofs.machine.Stepping.{IsStep}
use Rattle.mmu_core.specs.invariant.Invariant.{Invariant}
use Rattle.mmu_core.specs.lines.Forms.{RetiresPart, outcome_at}
use Rattle.mmu_core.specs.forms.log.LogSteps.{log_next, log_part}
use Rattle.mmu_core.specs.lines.PartAt.{task_at}
use Rattle.mmu_core.specs.forms.slot_change.SlotChangeSteps.{slot_change_part}
use Rattle.mmu_core.specs.machine.Outcomes.{place_after}
use Rattle.mmu_core.specs.machine.View.{View, answer_in, hand_after}
use Rattle.std.proofs.Common.{◌≡◌, ◌⊎◌, ap, inl, inr, refl, ℕ}
use Rattle.std.specs.Prelude.{None, Option, Some}

-- The actor's line excuses the guest frame after its step, or has passed it.
abbrev ExcusesOrPasses : View → ℕ → Line → Command → Place → ℕ → Type 0
ExcusesOrPasses v a line command p gfn =
    let x : ℕ = answer_in (task_at p command (v.hand a)) v.words in
    AllowsAt (place_after (outcome_at p command (v.hand a) x)) command (hand_after line command p (v.hand a) x) gfn
    ⊎ PassesAt p command (v.hand a) (hand_after line command p (v.hand a) x).topics.walk gfn

-- What the reading under way excuses before the step, it excuses after it, or passes it.
reading_excuse : (z : Sizes) (v : View) (a : ℕ) (line : Line) (command : Command) (p : Place) → IsStep z v a line command p → Invariant z v
    → MakesAt z v a p command → (gfn : ℕ) (o : Option Reading) → reading_at p command (v.hand a) ≡ o → ForbidsLater (taken_of o (v.hand a)) gfn
    → ExcusesOrPasses v a line command p gfn
reading_excuse z v a line command p S I makes gfn None is W = absurd W.0
reading_excuse z v a line command p S I makes gfn (Some r) is W =
    by (log_excuse r.command h x g gfn r.place (after_reading line p command h x r is)
    (ap (λ (t : Topics). t.walk) (topics_then v a line command p (log_part r.place h r.command) there.part (makes _ there.part).needs))
    (there.knows (step_knows z v a line command p S I)) (has.leaves there.retires_none) (has.opens there.opens_none) W)
  where
    h : Held
    h = v.hand a

    x : ℕ
    x = answer_in (task_at p command h) v.words

    g : Held
    g = hand_after line command p h x

    there : IsOfReading p command h r
    there = reading_is p command h r is

    has : RetiresPart p h.topics
    has = step_leaves z v a line command p S I

    by : ForbidsLater (taken_next (log_next r.place r.command h x) r.command g) gfn ⊎ PassesOf (Some r) h g.topics.walk gfn
        → ExcusesOrPasses v a line command p gfn
    by (inl forbids) = inl (inr (said_next (λ f. ForbidsLater f gfn) p command h x r is g (log_next r.place r.command h x) refl forbids (λ none. none.0)))
    by (inr passes) = inr (passed_there p command h r g.topics.walk gfn is passes)

-- What it excuses before its step, it excuses after it, or passes it.
pub own_excuse : (z : Sizes) (v : View) (a : ℕ) (line : Line) (command : Command) (p : Place) → IsStep z v a line command p → Invariant z v
    → MakesAt z v a p command → (gfn : ℕ) → AllowsAt p command (v.hand a) gfn → ExcusesOrPasses v a line command p gfn
own_excuse z v a line command (place.SlotChange q) S I makes gfn excuse =
    change_excuse q command (v.hand a) (answer_in (task_at (place.SlotChange q) command (v.hand a)) v.words) _ gfn (record {
      slots = refl;
      sizes = refl;
      walk = ap (λ (t : Topics). t.walk) (topics_made v a line command (place.SlotChange q) (slot_change_part q (v.hand a) command) refl (makes _ refl).needs);
    }) excuse
own_excuse z v a line command p S I makes gfn (inl O) = absurd O.0
own_excuse z v a line command p S I makes gfn (inr W) = reading_excuse z v a line command p S I makes gfn (reading_at p command (v.hand a)) refl W
