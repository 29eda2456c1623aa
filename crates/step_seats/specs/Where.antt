-- The world in which a step is made, as far as a seat tells it: what holds there, and in the world after the step.
use Rattle.std.specs.Prelude.{◌≡◌, ◌<◌, ℕ, Option, Some, None, length}
use Rattle.core_views.specs.declared.kind.Kind.{Kind}
use Rattle.core_views.specs.Held.{Held}
use Rattle.mmu_core.specs.machine.Enabled.{mmu}
use Rattle.mmu_core.specs.machine.Machine.{May, World, answered, effect, hand_in}
use Rattle.mmu_core.specs.machine.Steps.{next}
use Rattle.mmu_core.specs.machine.Worlds.{Reachable}
use Rattle.step_seats.specs.Moves.{step_by}
use Rattle.step_seats.specs.Seats.{Seat}

-- The world is one that steps lead to from a start, and this is its hand of the actor at this place.
pub record HasHand (actor : ℕ) (hand : Held) (w : World Held) : Type 0 where
  pub reached : ∥ Reachable w ∥₁
  pub there : actor < length w.hands
  pub is : hand_in mmu w actor ≡ hand

-- The step may have been made in this world: steps lead to it from a start, the actor has the hand `before` there, it may make the
-- step, and what the step answers there makes its hand `after`.
pub record IsMadeIn (kind : Kind) (actor : ℕ) (before after : Held) (w : World Held) : Type 0 where
  pub has : HasHand actor before w
  pub may : May mmu w (step_by actor kind)
  pub hand : after ≡ next before kind (answered mmu w kind)

-- It holds of the world that is told, and where none is told, of some world.
abbrev pub OfWorld : Option (World Held) → (World Held → Type 0) → Type 0
OfWorld (Some w) P = P w
OfWorld None P = ∥ ((w : World Held) × P w) ∥₁

-- The step answered this where it was made: in the world that the seat told before the step, or in some world in which the step may
-- have been made.
abbrev pub AnsweredThere : Kind → ℕ → Seat → Seat → Type 0
AnsweredThere kind found before after =
    OfWorld before.tells.world (λ w. IsMadeIn kind before.actor before.hand after.hand w × (answered mmu w kind ≡ found))

-- The step was made in a world that isn't told. There is an answer that it gives in some world in which it may have been made, and of each
-- such world in which it gives this answer this holds.
pub record OfEachWorld (kind : Kind) (actor : ℕ) (before after : Held) (P : World Held → Type 0) : Type 0 where
  pub found : ℕ
  pub some : ∥ ((w : World Held) × (IsMadeIn kind actor before after w × (answered mmu w kind ≡ found))) ∥₁
  pub each : (w : World Held) → IsMadeIn kind actor before after w → answered mmu w kind ≡ found → P w

-- It holds of the world that the seat told before the step, in which the step may have been made; and where none was told, of each world in
-- which it may have been made with this answer.
abbrev pub OfMade : Option (World Held) → Kind → ℕ → Held → Held → (World Held → Type 0) → Type 0
OfMade (Some w) kind actor before after P = IsMadeIn kind actor before after w × P w
OfMade None kind actor before after P = OfEachWorld kind actor before after P

-- It holds where the step was made, of the world before the step and the world that the step leads to.
abbrev pub WhereMade : Kind → Seat → Seat → (World Held → World Held → Type 0) → Type 0
WhereMade kind before after P =
    OfMade before.tells.world kind before.actor before.hand after.hand (λ w. P w (effect mmu w (step_by before.actor kind)))
