-- What contracts see of a seat.
use Rattle.std.specs.Prelude.{ℕ, List, Option}
use Rattle.core_views.specs.declared.kind.Kind.{Kind}
use Rattle.core_views.specs.Held.{Held}
use Rattle.mmu_core.specs.machine.Machine.{Step, World}

-- all that a seat tells, as far as it does: all words and hands, and the steps made so far
pub record Told : Type 0 where
  pub world : Option (World Held)
  pub steps : Option (List (Step Kind))

-- the place of its actor among all actors, this actor's hand with the room in it for answers, and what the seat tells
pub record Seat : Type 0 where
  pub actor : ℕ
  pub hand : Held
  pub room : ℕ
  pub tells : Told
