-- A line that raises the sequence number does so once: what its places say of how many lines have raised it.
use Rattle.std.proofs.Common.{◌≡◌, ◌+◌, ◌^◌, ◌<◌, ◌≤◌, ℕ, length, refl, ap, arith}
use Rattle.std.specs.Prelude.{Bool, true, false, Option, Some, None}
use Rattle.core_views.specs.declared.answer.Answer.TheVariants.{Done, Moved}
use Rattle.core_views.specs.declared.place.AccessPlace.{AccessPlace}
use Rattle.core_views.specs.declared.place.BeginPlace.{BeginPlace}
use Rattle.core_views.specs.declared.place.BeginPlace.TheVariants as begins
use Rattle.core_views.specs.declared.place.EndPlace.TheVariants as ends
use Rattle.core_views.specs.declared.place.HostPlace.TheVariants as host
use Rattle.core_views.specs.declared.place.Place.{Place}
use Rattle.core_views.specs.declared.place.Place.TheVariants as place
use Rattle.core_views.specs.declared.sizes.Sizes.{Sizes}
use Rattle.core_views.specs.declared.topics.Checked.TheVariants as checked
use Rattle.core_views.specs.declared.topics.Hold.TheVariants.{Exclusive}
use Rattle.core_views.specs.declared.topics.Topics.{Topics}
use Rattle.core_views.specs.declared.trace.Command.{Command}
use Rattle.core_views.specs.declared.trace.Command.TheVariants.{Access, ChangeHost}
use Rattle.core_views.specs.declared.trace.Line.{Line}
use Rattle.core_views.specs.Held.{Held}
use Rattle.core_views.specs.Sizes.{actors_of}
use Rattle.core_views.specs.SlotSets.{MemorySlots}
use Rattle.part_steps.specs.declared.invalidations.Target.{Target}
use Rattle.part_steps.specs.declared.invalidations.Target.TheVariants as aim
use Rattle.part_steps.specs.declared.part_step.PartStep.{PartStep}
use Rattle.part_steps.specs.declared.part_step.PartStep.TheVariants as part
use Rattle.part_steps.specs.StayTopics.{has_lock}
use Rattle.mmu_core.specs.invariant.InvalidationsPart.{has_raised, knows_seq}
use Rattle.mmu_core.specs.invariant.TopicsInvariant.{TopicsInvariant}
use Rattle.mmu_core.specs.forms.access.AccessSteps.{access_part}
use Rattle.mmu_core.specs.lines.Forms.{outcome_at, part_at}
use Rattle.mmu_core.specs.orders.InvalidateSteps.{begin_part}
use Rattle.mmu_core.specs.lines.Rests.{IsUnderWay}
use Rattle.mmu_core.specs.machine.Outcomes.{answers_after, place_after}
use Rattle.mmu_core.specs.machine.Steps.{standing}
use Rattle.mmu_core.specs.machine.Sums.{one_if}
use Rattle.mmu_core.specs.machine.View.{View}
use Rattle.mmu_core.proofs.forms.access.AccessParts.{AreSmall}
use Rattle.mmu_core.proofs.orders.ClaimMade.{claim_is}
use Rattle.mmu_core.proofs.lines.EitherPlace.{each_watch, either_place}
use Rattle.mmu_core.specs.declared.invalidate.EndNext.TheVariants as ends_next
use Rattle.mmu_core.specs.orders.ClaimSteps.{Frames}
use Rattle.mmu_core.specs.forms.host.HostSteps.{after_end, moves}
use Rattle.mmu_core.specs.orders.WatchSteps.{watch_next}
use Rattle.part_steps.specs.PartTasks.{word_looked}
use Rattle.spte_words.specs.HostWords.{host_frame}
use Rattle.mmu_core.proofs.lines.LinesKept.{answers_length}
use Rattle.mmu_core.proofs.lines.Forms.{simple_place}
use Rattle.mmu_core.proofs.lines.SimplePlaces.{none_raised}
use Rattle.mmu_core.proofs.machine.PartStepping.{is_told, raises, rises, untold_rises}
use Rattle.mmu_core.proofs.slots.LiveStays.{access_untold}

-- ---- Each form.

access_raises : (p : AccessPlace) (gfn : ℕ) (t : Topics) → raises (access_part p gfn t) ≡ 0
access_raises p gfn t = by (access_part p gfn t) (λ step is. access_untold p gfn t step is)
  where
    by : (o : Option PartStep) → ((step : PartStep) → o ≡ Some step → is_told step ≡ false) → raises o ≡ 0
    by None untold = refl
    by (Some step) untold = untold_rises step (untold step refl)

begin_rises : (p : BeginPlace) (target : Target) (t : Topics) → rises (begin_part p target t) ≡ 0
begin_rises (begins.Find begun) target t = either_place (λ step. rises step ≡ 0) begun part.Slot part.Slots refl refl
begin_rises (begins.Walk rooted) target t = either_place (λ step. rises step ≡ 0) rooted (part.Sweep _) part.Root refl refl
begin_rises _ target t = refl

-- What a step adds to the lines that have raised the sequence number is no less than what it adds to the number.
pub raised_on : (p : Place) (command : Command) (h : Held) (v : ℕ) (line : Line) → IsUnderWay p
    → length h.answers + one_if (has_raised p) + raises (part_at p command h)
    ≤ length (answers_after (outcome_at p command h v) line h.answers) + one_if (has_raised (place_after (outcome_at p command h v)))
raised_on place.Between command h v line begun = absurd begun
raised_on (place.Access p) (Access gfn word op) h v line begun = none_raised (outcome_at (place.Access p) (Access gfn word op) h v) line h.answers _
    (access_raises p gfn h.topics)
raised_on (place.Host (host.Look moving)) (ChangeHost page c) h v line begun =
    none_raised (outcome_at (place.Host (host.Look moving)) (ChangeHost page c) h v) line h.answers _
    (either_place (λ step. rises step ≡ 0) _ (part.Host page) part.Seq refl refl)
raised_on (place.Host (host.Claim going)) (ChangeHost page c) h v line begun =
    none_raised (outcome_at (place.Host (host.Claim going)) (ChangeHost page c) h v) line h.answers _
    (claim_is (λ step. rises step ≡ 0) Frames going h.topics.frames.claim refl (λ word. refl))
raised_on (place.Host (host.Begin p)) (ChangeHost page c) h v line begun = none_raised
    (outcome_at (place.Host (host.Begin p)) (ChangeHost page c) h v) line h.answers _ (begin_rises p (aim.Page page) h.topics)
raised_on (place.Host host.Copy) (ChangeHost page c) h v line begun =
    none_raised (outcome_at (place.Host host.Copy) (ChangeHost page c) h v) line h.answers _ refl
raised_on (place.Host host.Store) (ChangeHost page c) h v line begun =
    none_raised (outcome_at (place.Host host.Store) (ChangeHost page c) h v) line h.answers _ refl
raised_on (place.Host host.Change) (ChangeHost page c) h v line begun = none_raised
    (outcome_at (place.Host host.Change) (ChangeHost page c) h v) line h.answers _ refl
raised_on (place.Host (host.End ends.Exclude)) (ChangeHost page c) h v line begun = omega arith
raised_on (place.Host (host.End ends.Seq)) (ChangeHost page c) h v line begun = omega arith
raised_on (place.Host (host.End ends.SetSeq)) (ChangeHost page c) h v line begun = omega arith
raised_on (place.Host (host.End ends.Count)) (ChangeHost page c) h v line begun = omega arith
raised_on (place.Host (host.End ends.SetCount)) (ChangeHost page c) h v line begun = omega arith
raised_on (place.Host (host.End ends.Release)) (ChangeHost page c) h v line begun = by (moves h.topics)
  where
    by : (moving : Bool) → length h.answers + 1 + 0
        ≤ length (answers_after (after_end moving ends_next.Ended) line h.answers) + one_if (has_raised (place_after (after_end moving ends_next.Ended)))
    by true = omega arith
    by false = let more = answers_length h.answers (record { number = line.number; actor = line.actor; answer = Done }) in omega (arith, more)
raised_on (place.Host host.Watch) (ChangeHost page c) h v line begun =
    each_watch (λ q. length h.answers + 1 + 0 ≤ length h.answers + one_if (has_raised (place.Host q))) (watch_next h v) host.Watch host.Free (omega arith)
    (omega arith)
raised_on (place.Host host.Free) (ChangeHost page c) h v line begun =
    let more = answers_length h.answers (record { number = line.number; actor = line.actor; answer = Moved (host_frame (word_looked h.topics.host)) }) in
    omega (arith, more)
raised_on (place.Access p) _ h v line begun = omega arith
raised_on (place.Host p) _ h v line begun = omega arith
raised_on p command h v line begun = (simple_place p command h v tt).raises line

-- A line that begins has raised nothing yet.
pub raised_before : (q : Place) (z : Sizes) (slots : MemorySlots) (command : Command) (p : Place) → standing q z slots command ≡ p
    → one_if (has_raised q) ≤ one_if (has_raised p)
raised_before place.Between z slots command p is = omega arith
raised_before q z slots command p is = let same = ap (λ x. one_if (has_raised x)) is in omega (arith, same)

-- ---- The next sequence number.

-- What an actor stores that has loaded the number under the lock alone is far below 2 ^ 64.
pub few_raised : (z : Sizes) (v : View) (a : ℕ) → AreSmall v → TopicsInvariant z v → a < actors_of z → (v.hand a).topics.hold ≡ Exclusive
    → (v.hand a).topics.invalidations.checked ≡ checked.Seq → (v.hand a).topics.invalidations.seq + 1 < 2 ^ 40
few_raised z v a small I there alone loaded =
    let is = (I.checks a there).numbered (ap has_lock alone) (ap knows_seq loaded) in
    let few = small.next_seq in
    omega (arith, is, few)
