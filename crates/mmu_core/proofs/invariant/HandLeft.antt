-- How many steps a hand's line has left: those of its place while it is under way, always one at least, and no more than its command allows.
use Rattle.std.proofs.Common.{◌≡◌, ◌<◌, ◌≤◌, ℕ, length, refl, ap, ◌∙◌}
use Rattle.core_views.specs.declared.place.Place.{Place}
use Rattle.core_views.specs.declared.place.Place.TheVariants as place
use Rattle.core_views.specs.declared.sizes.Sizes.{Sizes}
use Rattle.core_views.specs.declared.trace.Command.{Command}
use Rattle.core_views.specs.declared.trace.Line.{Line}
use Rattle.core_views.specs.Held.{Held, line_at}
use Rattle.core_views.specs.Sizes.{actors_of}
use Rattle.spte_words.specs.declared.area.Area.TheVariants as area
use Rattle.part_steps.specs.PartBounds.{PartRests}
use Rattle.mmu_core.specs.alone.LineAlone.{hand_left}
use Rattle.mmu_core.specs.invariant.Invariant.{Invariant}
use Rattle.mmu_core.specs.invariant.TopicsInvariant.{TopicsInvariant}
use Rattle.mmu_core.specs.lines.Bounds.{most_steps}
use Rattle.mmu_core.specs.lines.Forms.{steps_left}
use Rattle.mmu_core.specs.lines.Rests.{IsUnderWay}
use Rattle.mmu_core.specs.machine.Steps.{place_at}
use Rattle.mmu_core.specs.machine.Turns.{line_of}
use Rattle.mmu_core.specs.machine.View.{View}
use Rattle.mmu_core.proofs.invariant.PartBounded.{part_rests_at}
use Rattle.mmu_core.proofs.lines.StepsFew.{place_few, some_left}
use Rattle.mmu_core.proofs.lines.KnowsKept.{knows_at}
use Rattle.mmu_core.proofs.machine.Stepping.{is_begun, is_step}

stands_there : (q : Place) (h : Held) → IsUnderWay q → place_at q h ≡ q
stands_there place.Between h under = absurd under
stands_there _ h under = refl

pub left_there : (q : Place) (h : Held) → h.state.place ≡ q → IsUnderWay q → hand_left h ≡ steps_left q (line_of h).command h.state.sizes h.topics
left_there q h stands under =
    ap (λ p. steps_left (place_at p h) (line_of h).command h.state.sizes h.topics) stands
    ∙ ap (λ p. steps_left p (line_of h).command h.state.sizes h.topics) (stands_there q h under)

-- So it is by the command of the line under way.
under_line : (q : Place) (h : Held) → IsUnderWay q → line_at q h ≡ h.state.line
under_line place.Between h under = absurd under
under_line _ h under = refl

pub left_of : (q : Place) (h : Held) (c : Command) → h.state.place ≡ q → IsUnderWay q → h.state.line.command ≡ c
    → hand_left h ≡ steps_left q c h.state.sizes h.topics
left_of q h c stands under is =
    left_there q h stands under
    ∙ ap (λ x. steps_left q x h.state.sizes h.topics)
    (ap (λ (l : Line). l.command) (ap (λ p. line_at p h) stands ∙ under_line q h under) ∙ is)

pub hand_some : (h : Held) → 0 < hand_left h
hand_some h = some_left (place_at h.state.place h) (line_of h).command h.state.sizes h.topics (is_begun h.state.place h.state.sizes h.slots (line_of h).command)

pub hand_few : (z : Sizes) (v : View) (a : ℕ) → Invariant z v → TopicsInvariant z v → a < actors_of z
    → length (v.hand a).answers < length (v.hand a).lines → hand_left (v.hand a) ≤ most_steps (v.hand a).state.sizes (line_of (v.hand a)).command
hand_few z v a I P there left =
    let h : Held = v.hand a in
    let R : PartRests h = part_rests_at z v a I P there in
    place_few (place_at h.state.place h) (line_of h).command z (v.words area.Pool) (v.words area.Slots 0) h (is_step z v a I there left).holds
    (knows_at z v a I there left) R.sizes R.level
