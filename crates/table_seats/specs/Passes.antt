-- What contracts see of a pass: whose table it is for, what its seat knows, and the hands that it keeps.
use Rattle.std.specs.Prelude.{◌≡◌, ℕ, true, List, Option, Some, None, map, slice_set, if◌then◌else◌, is_some, unwrap_or, slice_index_or}
use Rattle.atomic_table.specs.Seated.{TableId}
use Rattle.core_views.specs.declared.kind.Kind.{Kind}
use Rattle.core_views.specs.Held.{Held, Handful}
use Rattle.mmu_core.specs.machine.Enabled.{mmu}
use Rattle.mmu_core.specs.machine.Machine.{Step, World, run}
use Rattle.mmu_core.specs.machine.Worlds.{Reachable}
use Rattle.step_seats.specs.Moves.{HasItsRoom, no_hand}
use Rattle.step_seats.specs.Seats.{Seat}
use Rattle.table_seats.specs.Rule.{Holds, Sits, View}

-- what a seat of the machine's table knows
abbrev pub Known : Type 0
Known = View Held Kind

-- a hand without its room
abbrev pub core_in : Option Handful → Option Held
core_in None = None
core_in (Some h) = Some h.core

-- The hands stand at the places of their actors.
pub record PassView : Type 0 where
  pub table : TableId
  pub knows : Known
  pub hands : List (Option Handful)

-- The pass keeps the actor's hand.
abbrev pub Keeps : PassView → ℕ → Type 0
Keeps t actor = is_some (slice_index_or t.hands actor None) ≡ true

-- what stands in a hand's place, where a hand stands there
abbrev pub hand_in_place : Option Handful → Handful
hand_in_place place = unwrap_or place no_hand

-- the actor's hand among those that a pass keeps
abbrev pub hand_at : List (Option Handful) → ℕ → Handful
hand_at hands actor = hand_in_place (slice_index_or hands actor None)

-- the world after the steps made so far
abbrev pub world_after : Known → World Held
world_after v = run mmu v.start v.past

-- this world and these steps, where the seat is alone; once hands were split off it tells neither
abbrev pub world_told : Known → Option (World Held)
world_told v = if v.alone then Some (world_after v) else None

abbrev pub steps_told : Known → Option (List (Step Kind))
steps_told v = if v.alone then Some v.past else None

-- the steps made before the first hand was split off, once one was
abbrev pub steps_before_split : Known → Option (List (Step Kind))
steps_before_split v = if v.alone then None else Some v.past

-- the seat of an actor whose hand the pass keeps
abbrev pub seat_of : PassView → ℕ → Seat
seat_of t actor =
    record {
      actor = actor;
      hand = (hand_at t.hands actor).core;
      room = (hand_at t.hands actor).room;
      tells = record { world = world_told t.knows; steps = steps_told t.knows };
    }

-- The seat was not joined to another, the hands in its view are the cores of the pass's, and each of those has the room that its line needs. What
-- the view tells is so, and steps lead to its start from a start of the machine.
pub record IsPass (v : Known) (hands : List (Option Handful)) : Type 0 where
  pub live : v.live ≡ true
  pub cores : map core_in hands ≡ v.held
  pub sits : Sits mmu v
  pub start : Reachable v.start
  pub rooms : (actor : ℕ) (h : Handful) → Holds hands actor h → HasItsRoom h.core h.room

-- The pass has some hand in the actor's place, and the hands that it had in all others, and it is one of the same table with the same start.
pub record PutsHand (before after : PassView) (actor : ℕ) : Type 0 where
  pub table : after.table ≡ before.table
  pub start : after.knows.start ≡ before.knows.start
  pub hands : after.hands ≡ slice_set before.hands actor (Some (hand_at after.hands actor))
