-- What contracts see of a board: its table, and the words and hands with which it began.
use Rattle.std.specs.Prelude.{◌≡◌, ◌<◌, ◌++◌, [], ℕ, List, Option, None, Some, length, map, slice_set}
use Rattle.atomic_table.specs.Seated.{TableId}
use Rattle.hands.specs.declared.hand.Closing.{Closing}
use Rattle.core_views.specs.declared.kind.Kind.{Kind}
use Rattle.core_views.specs.Held.{Held, Handful}
use Rattle.mmu_core.specs.machine.Enabled.{mmu}
use Rattle.mmu_core.specs.machine.Machine.{Legal, Step, World, run}
use Rattle.step_seats.specs.Moves.{world_of}
use Rattle.table_seats.specs.Passes.{PassView, hand_in_place, steps_before_split}
use Rattle.table_seats.specs.Rule.{first_view}

-- the world of these words and hands
abbrev pub begun : Closing → World Held
begun c = world_of c.words c.hands

pub record BoardView : Type 0 where
  pub table : TableId
  pub start : Closing

-- The table has a word for each of the start, at least one, and nothing beside its words.
pub record IsBoard (id : TableId) (start : Closing) : Type 0 where
  pub words : id.words ≡ length start.words
  pub some : 0 < id.words
  pub slots : id.slots ≡ 0

-- The pass is one of this board.
pub record Fits (b : BoardView) (t : PassView) : Type 0 where
  pub table : t.table ≡ b.table
  pub start : t.knows.start ≡ begun b.start
  pub wide : length t.hands ≡ length b.start.hands

-- The pass is the board's first one: it keeps every hand of the start, it is alone, and no step was made.
pub record IsFirst (b : BoardView) (t : PassView) : Type 0 where
  pub fits : Fits b t
  pub knows : t.knows ≡ first_view (begun b.start)
  pub hands : t.hands ≡ map Some b.start.hands

-- A hand stands in each of these places.
abbrev pub AllHands : List (Option Handful) → Type 0
AllHands hands = hands ≡ map Some (map hand_in_place hands)

-- These words and hands are those of one list of enabled steps, which begins with the steps of `past`.
pub record Explained (start : World Held) (past : List (Step Kind)) (words : List ℕ) (hands : List Handful) : Type 0 where
  pub more : List (Step Kind)
  pub legal : Legal mmu start (past ++ more)
  pub ends : run mmu start (past ++ more) ≡ world_of words hands

-- what the steps of a seat leave as it is: the board, the other hands of the pass, and the steps that were made before a hand was split off, once one was;
-- nothing stands in the own place
pub record Around : Type 0 where
  pub board : BoardView
  pub others : List (Option Handful)
  pub split : Option (List (Step Kind))

abbrev pub around : BoardView → PassView → ℕ → Around
around b t actor = record { board = b; others = slice_set t.hands actor None; split = steps_before_split t.knows }

-- the frame of no seat
abbrev pub nowhere : Around
nowhere = record {
  board =
      record {
        table = record { words = 0; slots = 0; views_name = 0; atom = 0; block = 0; offset = 0; slot_names = [] };
        start = record { words = []; hands = [] };
      };
  others = [];
  split = None;
}
