-- A turn that answers a split is the one of its last step.
use Rattle.std.proofs.Common.{◌≡◌, ◌<◌, ℕ, true, length, refl}
use Rattle.core_views.specs.declared.answer.Answer.{Answer}
use Rattle.core_views.specs.declared.place.Place.{Place}
use Rattle.core_views.specs.declared.place.Place.TheVariants as place
use Rattle.core_views.specs.declared.place.SplitPlace.TheVariants.{End}
use Rattle.core_views.specs.declared.trace.Command.{Command}
use Rattle.core_views.specs.declared.trace.Command.TheVariants.{Split}
use Rattle.core_views.specs.Held.{Held}
use Rattle.core_views.specs.declared.sizes.Sizes.{Sizes}
use Rattle.core_views.specs.SlotSets.{MemorySlots}
use Rattle.mmu_core.specs.lines.Forms.{RestsAt, first_place}
use Rattle.mmu_core.specs.machine.Enabled.{IsNext}
use Rattle.mmu_core.specs.machine.Steps.{line_at, place_at}
use Rattle.mmu_core.specs.machine.Turns.{line_of}
use Rattle.mmu_core.proofs.lines.Forms.{rests_for}
use Rattle.mmu_core.proofs.machine.Which.{has_line_is, is_next}
use Rattle.step_seats.specs.LineTurns.{TurnsLine, line_turn}
use Rattle.step_seats.specs.Seats.{Seat}
use Rattle.step_seats.specs.declared.turn.Turn.TheVariants.{Done}
use Rattle.huge_split.specs.Splits.{IsEndOf, splits}

last_place : (p : Place) (c : Command) (h : Held) (v : ℕ) (answer : Answer) → splits c ≡ true → RestsAt p c h → Done answer ≡ line_turn p c h v → IsEndOf p
last_place (place.Split (End e)) (Split gfn) h v answer is R told = (e, refl)
last_place (place.Split q) (Split gfn) h v answer is R told = absurd (cc told)
last_place place.Between (Split gfn) h v answer is R told = absurd (cc told)
last_place p (Split gfn) h v answer is R told = absurd (let mine = rests_for p (Split gfn) h tt R in cc mine)
last_place _ _ h v answer is R told = absurd (cc is)

-- Where the line begins with the step it doesn't end with it.
under_way : (q : Place) (h : Held) → splits (line_at q h).command ≡ true → IsEndOf (place_at q h) → IsEndOf q
under_way place.Between h is (e, at) = absurd (first h.state.sizes h.slots (line_at place.Between h).command is at)
  where
    first : (z : Sizes) (slots : MemorySlots) (c : Command) → splits c ≡ true → first_place z slots c ≡ place.Split (End e) → ⊥
    first z slots (Split gfn) is at = cc at
    first z slots _ is at = cc is
under_way _ h is at = at

pub ends_of : (before after : Seat) (answer : Answer) → TurnsLine (Done answer) before after → length before.hand.answers < length before.hand.lines
    → splits (line_of before.hand).command ≡ true → IsEndOf before.hand.state.place
ends_of before after answer T left is =
    let h : Held = before.hand in
    let N : IsNext h T.makes.kind = is_next h T.makes.kind T.makes.enabled (has_line_is h left) in
    under_way h.state.place h is (last_place (place_at h.state.place h) (line_of h).command h T.makes.found answer is N.rests.at T.gives.1)
