-- Who has copied something of a page: an actor that moves it, by the place of its line.
use Rattle.std.proofs.Common.{◌≡◌, ◌⊎◌, inl, inr, ◌<◌, ℕ, length, refl, ap}
use Rattle.std.specs.Prelude.{Bool, true, false, Some}
use Rattle.core_views.specs.declared.place.HostPlace.{HostPlace}
use Rattle.core_views.specs.declared.place.HostPlace.TheVariants as host
use Rattle.core_views.specs.declared.place.Place.{Place}
use Rattle.core_views.specs.declared.place.Place.TheVariants as place
use Rattle.core_views.specs.declared.sizes.Sizes.{Sizes}
use Rattle.core_views.specs.declared.trace.Command.{Command}
use Rattle.core_views.specs.declared.trace.Command.TheVariants.{ChangeHost}
use Rattle.core_views.specs.declared.trace.HostChange.{HostChange}
use Rattle.core_views.specs.Held.{Held}
use Rattle.spte_words.specs.declared.area.Area.TheVariants as area
use Rattle.part_steps.specs.declared.part_step.PartStep.{PartStep}
use Rattle.part_steps.specs.declared.part_step.PartStep.TheVariants as part
use Rattle.part_steps.specs.FrameTopics.{is_uncopied}
use Rattle.part_steps.specs.InvalidationHoldings.{MayChange}
use Rattle.mmu_core.specs.invariant.Invariant.{Invariant, KnowsPart, RetiresPart, UnderWay}
use Rattle.mmu_core.specs.invariant.TopicsInvariant.{TopicsInvariant}
use Rattle.mmu_core.specs.lines.Forms.{part_at}
use Rattle.mmu_core.specs.forms.host.HostKnows.{HostKnows}
use Rattle.mmu_core.specs.machine.View.{View}
use Rattle.mmu_core.proofs.held.CopiedSteps.{Movers, MovesPage, moves_on, moves_page}
use Rattle.mmu_core.proofs.invariant.QuietHand.{one_step}
use Rattle.mmu_core.proofs.forms.host.HostNeeds.{may_change}

-- The line is at a place of a copy, or of a change.
abbrev pub is_moving : Place → Bool
is_moving (place.Host host.Copy) = true
is_moving (place.Host host.Store) = true
is_moving (place.Host host.Change) = true
is_moving _ = false

-- What an actor whose invalidation is open has copied: nothing, or it may change its page.
abbrev pub CopiesAt : Place → Held → Type 0
CopiesAt p h = (is_uncopied h.topics.frames.owned ≡ true) ⊎ ((is_moving p ≡ true) × MayChange h)

host_copies : (p : HostPlace) (page : ℕ) (change : HostChange) (h : Held) → HostKnows p page change h → h.topics.invalidations.opened ≡ true
    → CopiesAt (place.Host p) h
host_copies (host.Look moves) page change h K opened = inl (ap is_uncopied K.2)
host_copies (host.Claim begun) page change h K opened = inl (ap is_uncopied K.2.owns_none)
host_copies (host.Begin p) page change h K opened = inl K.2.uncopied
host_copies host.Copy page change h K opened = inr (refl, may_change page h K.0 K.1)
host_copies host.Store page change h K opened = inr (refl, may_change page h K.0 K.1)
host_copies host.Change page change h K opened = inr (refl, may_change page h K.0 K.1)
host_copies (host.End p) page change h K opened = inl K.2.uncopied
host_copies host.Watch page change h K opened = let closed = K.2.closed in absurd (cc (closed, opened))
host_copies host.Free page change h K opened = let closed = K.2.closed in absurd (cc (closed, opened))

pub copies_at : (p : Place) (command : Command) (h : Held) → KnowsPart p command h → RetiresPart p h.topics → h.topics.invalidations.opened ≡ true
    → CopiesAt p h
copies_at (place.Host p) (ChangeHost page change) h K L opened = host_copies p page change h K opened
copies_at (place.Host p) _ h K L opened = absurd K
copies_at _ command h K L opened = inl (ap is_uncopied (L.frames refl))

pub movers : (z : Sizes) (v : View) → Invariant z v → TopicsInvariant z v → Movers z v
movers z v I P i lt opened =
    by (copies_at (v.hand i).state.place (v.hand i).state.line.command (v.hand i) (I.knows i lt) (I.leaves i lt) opened)
  where
    by : CopiesAt (v.hand i).state.place (v.hand i) → (is_uncopied (v.hand i).topics.frames.owned ≡ true) ⊎ MovesPage z (v.words area.Host) (v.hand i).topics
    by (inl none) = inl none
    by (inr M) = inr (moves_page z v i P lt (I.lines i lt).sizes (I.lines i lt).index M.1)

-- A step of a place of a copy, or of a change, is one.
pub moving_step : (p : Place) (command : Command) (h : Held) → KnowsPart p command h → is_moving p ≡ true → (step : PartStep) → part_at p command h ≡ Some step
    → moves_on step ≡ true
moving_step (place.Host host.Copy) (ChangeHost page change) h K moving step is = one_step (λ s. moves_on s ≡ true) (part.Copy _) refl step is
moving_step (place.Host host.Store) (ChangeHost page change) h K moving step is = one_step (λ s. moves_on s ≡ true) (part.Store _) refl step is
moving_step (place.Host host.Change) (ChangeHost page change) h K moving step is = one_step (λ s. moves_on s ≡ true) (part.Change _) refl step is
moving_step (place.Host host.Copy) _ h K moving step is = absurd K
moving_step (place.Host host.Store) _ h K moving step is = absurd K
moving_step (place.Host host.Change) _ h K moving step is = absurd K
moving_step _ command h K moving step is = absurd (cc moving)

-- And a line is under way there.
pub moving_left : (p : Place) (h : Held) → is_moving p ≡ true → UnderWay p h → length h.answers < length h.lines
moving_left place.Between h moving under = absurd (cc moving)
moving_left _ h moving under = under.1
