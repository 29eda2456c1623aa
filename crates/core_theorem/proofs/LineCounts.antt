-- The counts of one line, a step longer.
use Rattle.std.proofs.Common.{◌≡◌, ◌+◌, ◌*◌, ◌≤◌, ℕ, refl, ap, arith}
use Rattle.std.specs.Prelude.{Bool, true, false, ◌&&◌}
use Rattle.core_views.specs.declared.place.Place.{Place}
use Rattle.core_views.specs.declared.place.Place.TheVariants as place
use Rattle.core_views.specs.declared.sizes.Sizes.{Sizes}
use Rattle.core_views.specs.Held.{Held}
use Rattle.mmu_core.specs.lines.Bounds.{most_steps}
use Rattle.mmu_core.specs.lines.Delays.{counted}
use Rattle.mmu_core.specs.machine.Steps.{line_at}
use Rattle.mmu_core.specs.machine.Sums.{one_if}
use Rattle.core_theorem.proofs.Turns.{CountsGoing, counted_in}

pub one_if_false : (b : Bool) → b ≡ false → one_if b ≡ 0
one_if_false b no_ = ap one_if no_

pub and_false : (b c : Bool) → b ≡ false → one_if (b && c) ≡ 0
and_false true c no_ = absurd (cc no_)
and_false false c no_ = refl

pub own_few : (z : Sizes) (p : Place) (h : Held) → h.state.steps ≤ most_steps z h.state.line.command
    → counted p h.state.steps ≤ most_steps z (line_at p h).command
own_few z place.Between h few = omega arith
own_few z _ h few = few

pub one_few : (b : Bool) → one_if b ≤ 1
one_few true = omega arith
one_few false = omega arith

-- what a step takes that is a delay or none
pub going_takes : (most : ℕ) (delay : Bool) (h g : Held) → counted_in h + 1 ≤ most → CountsGoing delay h g
    → counted_in h + 1 ≤ counted_in g + most * one_if delay
going_takes most true h g room G = omega (arith, room)
going_takes most false h g room G = let more = G.one_more refl in omega (arith, more)

-- One step more of the line itself: it goes on, or it is answered and makes no more.
pub line_goes : (most steps delays delay before behind : ℕ) → steps + behind ≤ most * (delays + 1) → before + 1 ≤ behind + most * delay
    → (1 + steps) + before ≤ most * ((delay + delays) + 1)
line_goes most steps delays delay before behind fits takes_ =
    let a : most * (delays + 1) ≡ most * delays + most = omega arith in
    let b : most * ((delay + delays) + 1) ≡ most * delay + most * delays + most = omega arith in
    omega (arith, fits, takes_, a, b)

pub line_ends : (most steps delays before : ℕ) → steps ≡ 0 → before + 1 ≤ most → (1 + steps) + before ≤ most * (delays + 1)
line_ends most steps delays before none room = let b : most * (delays + 1) ≡ most * delays + most = omega arith in omega (arith, none, room, b)

-- A step that is none of the line's.
pub line_stays : (most steps delays one delay before behind : ℕ) → one ≡ 0 → delay ≡ 0 → behind ≡ before → steps + behind ≤ most * (delays + 1)
    → (one + steps) + before ≤ most * ((delay + delays) + 1)
line_stays most steps delays one delay before behind none no_delay same fits =
    let a : most * (delays + 1) ≡ most * delays + most = omega arith in
    let b : most * ((delay + delays) + 1) ≡ most * delay + most * delays + most = omega arith in
    omega (arith, none, no_delay, same, fits, a, b)
