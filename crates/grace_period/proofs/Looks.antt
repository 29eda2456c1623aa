-- What a look finds, and what the state word tells after the begin and the end of a section.
use Rattle.std.proofs.Common.{◌≡◌, ◌≢◌, inl, inr, refl, ◌<◌, ◌≤◌, ◌+◌, ◌-◌, ℕ, Option, Some, None, sym, subst, ap, ◌∙◌, arith}
use Rattle.std.specs.Prelude.{Bool, true, false, ◌==◌, IfSome, not, if◌then◌else◌}
use Rattle.std.proofs.lemmas.Bool.Decides.{nat_tests}
use Rattle.core_views.specs.declared.actor.Actor.{Actor}
use Rattle.core_views.specs.declared.kind.Kind.{Kind}
use Rattle.core_views.specs.declared.sizes.Sizes.{Sizes}
use Rattle.core_views.specs.declared.topics.Stay.{Stay}
use Rattle.core_views.specs.declared.topics.Stay.TheVariants.{Outside, Section}
use Rattle.core_views.specs.Held.{Held}
use Rattle.core_views.specs.Sizes.{actors_of, index_of}
use Rattle.spte_words.specs.declared.area.Area.TheVariants.{State}
use Rattle.part_steps.specs.declared.part_step.PartStep.TheVariants as part
use Rattle.mmu_core.specs.machine.Machine.{World}
use Rattle.mmu_core.specs.alone.OthersRest.{OthersRest}
use Rattle.part_steps.specs.PartBounds.{PartRests}
use Rattle.part_steps.specs.PartTasks.{own_index, part_kind}
use Rattle.part_steps.specs.PartHoldings.{next_watched}
use Rattle.part_steps.specs.PartSteps.{PartNeeds}
use Rattle.mmu_core.specs.machine.Steps.{next}
use Rattle.part_steps.specs.StayTopics.{is_outside}
use Rattle.part_steps.specs.ControlBits.{in_section}
use Rattle.mmu_core.specs.machine.View.{word_in}
use Rattle.mmu_core.proofs.machine.HandAfter.{next_same}
use Rattle.mmu_core.proofs.held.StateTells.{own_place, state_tells}
use Rattle.step_seats.specs.Moves.{ToldBy}
use Rattle.step_seats.specs.Where.{HasHand}
use Rattle.step_seats.specs.declared.turn.Turn.{Turn}
use Rattle.step_seats.specs.declared.turn.Turn.TheVariants.{Done}
use Rattle.step_seats.proofs.AloneTold.{watch_free}
use Rattle.grace_period.specs.Sections.{IsTold, IsUntold}
use Rattle.grace_period.specs.Watches.{is_done, watched_next}

-- the own state word of a hand of a told world
own_tells : (w : World Held) (actor : ℕ) (h : Held) → HasHand actor h w → in_section (word_in h.state.sizes w State actor) ≡ not (is_outside h.topics.stay)
own_tells w actor h has =
    subst (λ (x : Held). in_section (word_in x.state.sizes w State actor) ≡ not (is_outside x.topics.stay)) has.is
    (state_tells w actor has.reached has.there)

pub told_in : (told : Option (World Held)) (actor : ℕ) (h : Held) → IfSome told (HasHand actor h) → h.topics.stay ≡ Section
    → IfSome told (IsTold h.state.sizes actor)
told_in None actor h has stay = tt
told_in (Some w) actor h has stay = own_tells w actor h has ∙ ap (λ (s : Stay). not (is_outside s)) stay

pub told_out : (told : Option (World Held)) (actor : ℕ) (h : Held) → IfSome told (HasHand actor h) → h.topics.stay ≡ Outside
    → IfSome told (IsUntold h.state.sizes actor)
told_out None actor h has stay = tt
told_out (Some w) actor h has stay = own_tells w actor h has ∙ ap (λ (s : Stay). not (is_outside s)) stay

-- Where the others hold nothing, the actor that is looked at is found outside.
pub look_free : (told tells : Option (World Held)) (actor index note found : ℕ) (h : Held) → IfSome told (HasHand actor h)
    → ToldBy told actor (part_kind h (part.Watch index) note) found tells → PartNeeds (part.Watch index) h
    → IfSome told (λ w. OthersRest actor w → in_section found ≡ false)
look_free None tells actor index note found h has moves needs = tt
look_free (Some w) tells actor index note found h has moves needs =
    let own : own_index h ≡ actor = subst (λ (x : Held). own_index x ≡ actor) has.is (own_place w actor has.reached has.there) in
    watch_free (Some w) tells actor index note found h has moves (λ e. needs.1 (e ∙ sym own)) needs

next_from : (own_ seen : ℕ) → seen ≤ next_watched own_ seen
next_from own_ seen = by (seen == own_)
  where
    by : (b : Bool) → seen ≤ (if b then seen + 1 else seen)
    by true = omega arith
    by false = omega arith

-- Behind a look that found its actor outside fewer are left.
pub fewer_left : (h g : Held) (k : Kind) (index found : ℕ) → index < actors_of h.state.sizes → g ≡ next h k found → g.topics.watched ≡ index + 1
    → actors_of g.state.sizes - next_watched (own_index g) g.topics.watched < actors_of h.state.sizes - index
fewer_left h g k index found lt is watched =
    let same : g.state.sizes ≡ h.state.sizes = ap (λ (x : Held). x.state.sizes) is ∙ (next_same h k found).sizes in
    let count : actors_of g.state.sizes ≡ actors_of h.state.sizes = ap (λ (z : Sizes). actors_of z) same in
    let from = next_from (own_index g) g.topics.watched in
    omega (arith, count, from, watched, lt)

never_own : (own_ seen : ℕ) → next_watched own_ seen ≢ own_
never_own own_ seen e = by (seen == own_) (λ e. grind (arith, nat_tests)) (λ e. grind (arith, nat_tests)) e
  where
    by : (b : Bool) → (b ≡ true → seen ≡ own_) → (b ≡ false → seen ≢ own_) → (if b then seen + 1 else seen) ≡ own_ → ⊥
    by true is not_ e = let at = is refl in absurd (omega (arith, e, at))
    by false is not_ e = not_ refl e

-- The first look of a watch may be made: there are always two actors.
pub first_needs : (h : Held) → PartRests h → PartNeeds (part.Watch (watched_next (record { has_looked = false }) h)) h
first_needs h R = (by (0 == own_index h), never_own (own_index h) 0, inl refl)
  where
    by : (b : Bool) → (if b then 0 + 1 else 0) < actors_of h.state.sizes
    by true = omega (arith, R.sizes.some)
    by false = omega (arith, R.sizes.some)

-- the hand after a step is of the same actor and machine
same_place : (h g : Held) (k : Kind) (found : ℕ) → g ≡ next h k found → (own_index g ≡ own_index h) × (actors_of g.state.sizes ≡ actors_of h.state.sizes)
same_place h g k found is =
    let same = next_same h k found in
    let sizes : g.state.sizes ≡ h.state.sizes = ap (λ (x : Held). x.state.sizes) is ∙ same.sizes in
    let actor : g.state.actor ≡ h.state.actor = ap (λ (x : Held). x.state.actor) is ∙ same.actor in
    (ap (λ (z : Sizes). index_of z g.state.actor) sizes ∙ ap (λ (a : Actor). index_of h.state.sizes a) actor, ap (λ (z : Sizes). actors_of z) sizes)

-- Behind a look that isn't the last, the next one may be made.
needs_behind : (h g : Held) (k : Kind) (seen found : ℕ) → g ≡ next h k found → g.topics.watched ≡ seen
    → next_watched (own_index h) seen < actors_of h.state.sizes → PartNeeds (part.Watch (watched_next (record { has_looked = true }) g)) g
needs_behind h g k seen found is watched lt =
    let same = same_place h g k found is in
    let at : next_watched (own_index g) g.topics.watched ≡ next_watched (own_index h) seen =
    ap (λ n. next_watched n g.topics.watched) same.0 ∙ ap (next_watched (own_index h)) watched in
    (omega (arith, at, same.1, lt), never_own (own_index g) g.topics.watched, inr refl)

pub more_needs : (h g : Held) (k : Kind) (index found : ℕ) → g ≡ next h k found → g.topics.watched ≡ index + 1
    → next_watched (own_index h) (index + 1) < actors_of h.state.sizes → PartNeeds (part.Watch (watched_next (record { has_looked = true }) g)) g
more_needs h g k index found is watched lt = needs_behind h g k (index + 1) found is watched lt

pub wait_needs : (h g : Held) (k : Kind) (index found : ℕ) → g ≡ next h k found → g.topics.watched ≡ index → PartNeeds (part.Watch index) h
    → PartNeeds (part.Watch (watched_next (record { has_looked = true }) g)) g
wait_needs h g k index found is watched needs =
    needs_behind h g k index found is watched (rw same_index needs.0)
  where
    same_index : next_watched (own_index h) index ≡ index
    same_index = by (index == own_index h) (λ e. grind (arith, nat_tests))
      where
        by : (b : Bool) → (b ≡ true → index ≡ own_index h) → (if b then index + 1 else index) ≡ index
        by true is = absurd (needs.1 (is refl))
        by false is = refl

-- What is done doesn't go on.
pub not_done : (turn : Turn (Unit {0})) (answer : Unit {0}) → turn ≡ Done answer → is_done turn ≡ false → ⊥
not_done turn answer is again = let e : true ≡ false = sym (ap is_done is) ∙ again in cc e
