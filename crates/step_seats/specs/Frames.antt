-- What the steps of one seat at a machine leave as it is.
use Rattle.std.specs.Prelude.{ℕ, List, [], map, slice_set}
use Rattle.core_views.specs.declared.sizes.Sizes.{Sizes}
use Rattle.core_views.specs.Held.{Handful}
use Rattle.core_views.specs.Sizes.{no_sizes}
use Rattle.step_seats.specs.Machines.{Machine}

-- Which machine it borrows, its sizes, and the room that was taken in each of the other hands; 0 stands at its own place.
pub record Frame : Type 0 where
  pub borrowed : ℕ
  pub sizes : Sizes
  pub rooms : List ℕ

abbrev pub room_of : Handful → ℕ
room_of h = h.room

-- the room in each hand but one
abbrev pub other_rooms : List Handful → ℕ → List ℕ
other_rooms hands own_place = slice_set (map room_of hands) own_place 0

abbrev pub frame_of : ℕ → Machine → ℕ → Frame
frame_of name m own_place = record { borrowed = name; sizes = m.sizes; rooms = other_rooms m.hands own_place }

-- the frame of no machine
abbrev pub no_frame : Frame
no_frame = record { borrowed = 0; sizes = no_sizes; rooms = [] }
