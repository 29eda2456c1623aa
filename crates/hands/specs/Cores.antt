-- Hands without the room that they have for answers.
use Rattle.std.specs.Prelude.{List, map}
use Rattle.core_views.specs.Held.{Held, Handful}

-- a hand without its room
abbrev pub core_of : Handful → Held
core_of h = h.core

abbrev pub cores_of : List Handful → List Held
cores_of hands = map core_of hands
