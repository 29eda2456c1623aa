-- The machine: its sizes, words and hands, which some steps of its actors lead to from a start.
use Rattle.std.specs.Prelude.{◌≡◌, ℕ, List, Option, Some, length}
use Rattle.core_views.specs.declared.kind.Kind.{Kind}
use Rattle.core_views.specs.declared.sizes.Sizes.{Sizes}
use Rattle.core_views.specs.Held.{Held, Handful}
use Rattle.mmu_core.specs.machine.Machine.{Step, World}
use Rattle.mmu_core.specs.machine.Worlds.{Reachable}
use Rattle.step_seats.specs.Moves.{EachHasRoom, handful_in, world_of}
use Rattle.step_seats.specs.Seats.{Seat}

pub record Machine : Type 0 where
  pub sizes : Sizes
  pub words : List ℕ
  pub hands : List Handful

-- the world of a machine
abbrev pub world_in : Machine → World Held
world_in m = world_of m.words m.hands

-- The machine after it has the sizes that it had before, and as many hands.
abbrev pub KeepsSizes : Machine → Machine → Type 0
KeepsSizes before after = (after.sizes ≡ before.sizes) × (length after.hands ≡ length before.hands)

-- the seat of the actor at a place: it tells the machine's world, and these steps
abbrev pub seat_in : Machine → Option (List (Step Kind)) → ℕ → Seat
seat_in m steps actor =
    record {
      actor = actor;
      hand = (handful_in m.hands actor).core;
      room = (handful_in m.hands actor).room;
      tells = record { world = Some (world_in m); steps = steps };
    }

-- Some list of steps leads from a start of these sizes to these words and hands, and what a line under way needs was taken as it began.
pub record IsMachine (z : Sizes) (words : List ℕ) (hands : List Handful) : Type 0 where
  pub reached : Reachable (world_of words hands)
  pub sizes : reached.sizes ≡ z
  pub room : EachHasRoom hands
