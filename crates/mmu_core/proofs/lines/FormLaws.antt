-- What laws ask of a form of line, at one of its places and with one command, in one record, of which each form has one value.
use Rattle.std.proofs.Common.{◌≡◌, ◌⊎◌, ◌<◌, ◌≤◌, inl, inr, ℕ, arith, refl}
use Rattle.std.proofs.Props.{props}
use Rattle.std.specs.Prelude.{Bool, Some, false, true}
use Rattle.core_views.specs.declared.answer.Answer.{Answer}
use Rattle.core_views.specs.declared.place.Place.{Place}
use Rattle.core_views.specs.declared.place.Place.TheVariants as place
use Rattle.core_views.specs.declared.sizes.Sizes.{Sizes}
use Rattle.core_views.specs.declared.trace.Command.{Command}
use Rattle.core_views.specs.declared.topics.Topics.{Topics}
use Rattle.core_views.specs.Sizes.{AreSizes}
use Rattle.core_views.specs.Held.{Held}
use Rattle.core_views.specs.SlotSets.{MemorySlots}
use Rattle.part_steps.specs.declared.part_step.PartStep.{PartStep}
use Rattle.part_steps.specs.declared.part_step.PartStep.TheVariants as part
use Rattle.part_steps.specs.PartSteps.{PartNeeds}
use Rattle.mmu_core.specs.declared.outcome.Outcome.TheVariants.{Ends}
use Rattle.mmu_core.specs.lines.Delays.{line_waits}
use Rattle.mmu_core.specs.lines.Bounds.{most_steps}
use Rattle.mmu_core.specs.lines.Forms.{AcceptsAt, Holds, KnowsPart, RestsAt, is_for, outcome_at, part_at, steps_left, tells_at}
use Rattle.mmu_core.specs.lines.Rests.{IsUnderWay}
use Rattle.mmu_core.proofs.lines.SimplePlaces.{Nothing, SimplePlace, Told, between_simple}
use Rattle.mmu_core.proofs.machine.GoesOn.{GoesUnderWay, GoesWithin, IsNoAccess, IsSimple}
use Rattle.mmu_core.proofs.slots.LiveStays.{OwnedStays}

-- At a place of another form than an access a line rests on what the step of a part needs, and maybe on something more, which is a proposition.
pub record RestsOnPart (p : Place) (command : Command) (h : Held) : Type 1 where
  pub step : PartStep
  pub at : part_at p command h ≡ Some step
  pub more : Type 0
  pub more_prop : IsProp more
  pub needs : RestsAt p command h → PartNeeds step h × more
  pub rests : PartNeeds step h → more → RestsAt p command h

-- So does a line of the place's own form, and one of another form can't stand there.
pub rests_on : (p : Place) (command : Command) (h : Held) (mine : Bool) (step : PartStep) (More : Type 0) → part_at p command h ≡ Some step → IsProp More
    → (RestsAt p command h → (mine ≡ true) × PartNeeds step h × More) → ((mine ≡ true) × PartNeeds step h × More → RestsAt p command h)
    → (RestsAt p command h → ⊥) ⊎ RestsOnPart p command h
rests_on p command h true step More at prop to from =
    inr (record { step = step; at = at; more = More; more_prop = prop; needs = λ R. let N = to R in (N.1, N.2); rests = λ N M. from (refl, N, M) })
rests_on p command h false step More at prop to from = inl (λ R. let mine = (to R).0 in cc mine)

pub record FormLaws (p : Place) (c : Command) : Type 1 where
  -- it goes on to places where a line is under way, and which are of its form
  pub goes : (h : Held) (v : ℕ) → IsUnderWay p → GoesUnderWay (outcome_at p c h v)
  pub within : (h : Held) (v : ℕ) → GoesWithin p (outcome_at p c h v)
  -- the place is one of lines with its command, as it knows, and as its step rests on
  pub knows_for : (h : Held) → IsUnderWay p → KnowsPart p c h → is_for p c ≡ true
  pub rests_for : (h : Held) → IsUnderWay p → RestsAt p c h → is_for p c ≡ true
  -- all that laws ask of a simple form
  pub simple : (h : Held) (v : ℕ) → IsSimple p → SimplePlace p c h v
  -- what it rests on, or the place is one of another form than the line's
  pub rests : (h : Held) → IsNoAccess p → (RestsAt p c h → ⊥) ⊎ RestsOnPart p c h
  -- what it knows is a proposition
  pub knows_prop : (h : Held) → IsNoAccess p → IsProp (KnowsPart p c h)
  -- what it has loaded or stored stays, where the words of the line's own page do; and so the manager's record accepts it
  pub stays : (z : Sizes) (before : ℕ → ℕ) (set : ℕ) (after : ℕ → ℕ) (other : ℕ) (h : Held) → OwnedStays before after h → Holds z before set p c h
      → Holds z after other p c h
  pub accepts : (z : Sizes) (pool : ℕ → ℕ) (set : ℕ) (h : Held) → Holds z pool set p c h → AcceptsAt p c z h.slots
  pub accepts_prop : (z : Sizes) (slots : MemorySlots) → IsProp (AcceptsAt p c z slots)
  -- the step that ends it doesn't wait
  pub free : (h : Held) (v : ℕ) (answer : Answer) → RestsAt p c h → outcome_at p c h v ≡ Ends answer → line_waits p c h v ≡ false
  -- what it tells is of one of a few shapes
  pub told : (h : Held) (v : ℕ) → Told h v p c (tells_at p c h v)
  -- it has no more steps left than its command allows, and at each place one
  pub few : (z : Sizes) (pool : ℕ → ℕ) (set : ℕ) (h : Held) → Holds z pool set p c h → KnowsPart p c h → AreSizes h.state.sizes → h.topics.walk.level ≤ 4
      → steps_left p c h.state.sizes h.topics ≤ most_steps h.state.sizes c
  pub some : (z : Sizes) (t : Topics) → IsUnderWay p → 0 < steps_left p c z t

-- So it is between lines.
pub between_laws : (c : Command) → FormLaws place.Between c
between_laws c = record {
  goes = λ h v begun. absurd begun;
  within = λ h v command. refl;
  knows_for = λ h begun K. absurd begun;
  rests_for = λ h begun R. absurd begun;
  simple = λ h v is. between_simple c h v;
  rests = λ h other.
      inr (record { step = part.Seq; at = refl; more = Unit {0}; more_prop = hlevel props; needs = λ R. (tt, tt); rests = λ N M. tt });
  knows_prop = λ h other. hlevel props;
  stays = λ z before set after other h own e. tt;
  accepts = λ z pool set h e. tt;
  accepts_prop = λ z slots. hlevel props;
  free = λ h v answer R e. absurd (cc e);
  told = λ h v. Nothing;
  few = λ z pool set h holds K S most. omega arith;
  some = λ z t begun. absurd begun;
}
