-- A board with its first pass, as the owner of all words and hands of a machine.
use Rattle.std.specs.Prelude.{◌≡◌, map, true}
use Rattle.core_views.specs.declared.sizes.Sizes.{Sizes}
use Rattle.core_views.specs.Held.{Held}
use Rattle.mmu_core.specs.machine.Machine.{World}
use Rattle.mmu_core.specs.machine.Worlds.{Reachable}
use Rattle.step_seats.specs.Machines.{Machine}
use Rattle.table_seats.specs.Boards.{AllHands, BoardView, Fits}
use Rattle.table_seats.specs.Passes.{IsPass, PassView, hand_in_place, world_after}

-- the sizes of the machine, the board and its first pass
pub record OwnerView : Type 0 where
  pub sizes : Sizes
  pub board : BoardView
  pub pass : PassView

-- the machine of these sizes whose words and hands a pass tells
abbrev pub machine_of : OwnerView → Machine
machine_of m = record { sizes = m.sizes; words = (world_after m.pass.knows).words; hands = map hand_in_place m.pass.hands }

-- Some steps lead from a start of these sizes to the world.
pub record ReachedFrom (z : Sizes) (w : World Held) : Type 0 where
  pub reached : Reachable w
  pub sizes : reached.sizes ≡ z

-- The pass is one of the board, and no hand was split off: it keeps all hands, and tells all words and steps. The machine has these sizes.
pub record OwnsAll (m : OwnerView) : Type 0 where
  pub fits : Fits m.board m.pass
  pub alone : m.pass.knows.alone ≡ true
  pub all : AllHands m.pass.hands
  pub is : IsPass m.pass.knows m.pass.hands
  pub began : ReachedFrom m.sizes m.pass.knows.start
