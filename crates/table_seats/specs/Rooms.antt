-- Room for the words and hands that a board leaves.
use Rattle.std.specs.Prelude.{◌≡◌, ◌≤◌, [], length, vec_capacity}
use Rattle.table_seats.specs.Boards.{BoardView}
use Rattle.table_seats.specs.declared.room.Room.{Room}

-- Nothing is in the room yet, and it takes all words of the board, and as many hands as it began with.
pub record HasRoom (b : BoardView) (r : Room) : Type 0 where
  pub no_words : r.words.items ≡ []
  pub words : b.table.words ≤ vec_capacity r.words
  pub no_hands : r.hands.items ≡ []
  pub hands : length b.start.hands ≤ vec_capacity r.hands
