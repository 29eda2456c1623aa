-- What single words name: actors, and places in the order of turns.
use Rattle.std.specs.Prelude.{ℕ, List, [], ◌∷◌, ◌==◌, ◌&&◌, codes, nat_le, if◌then◌else◌, Option, Some, None}
use Rattle.std.specs.Str.{bytes_eq}
use Rattle.core_views.specs.declared.actor.Actor.{Actor}
use Rattle.core_views.specs.declared.actor.Actor.TheVariants.{Vcpu, Host, Manager, Worker}
use Rattle.trace_reader.specs.Numbers.{decimal_number}
use Rattle.show_options.specs.declared.asked.Bound.{Bound}
use Rattle.show_options.specs.declared.asked.Bound.TheVariants.{Go, Turn, Line}

-- the actor with a number, of those that the letter begins: v0 to v15, h0 to h3, w0 to w3
abbrev pub numbered : ℕ → Option ℕ → Option Actor
numbered letter None = None
numbered letter (Some n) =
    if (letter == 118) && nat_le n 15 then Some (Vcpu n) else
    if (letter == 104) && nat_le n 3 then Some (Host n) else
    if (letter == 119) && nat_le n 3 then Some (Worker n) else None

abbrev pub by_letter : List ℕ → Option Actor
by_letter [] = None
by_letter (letter ∷ digits) = numbered letter (decimal_number digits)

-- the actor that a word names
abbrev pub actor_named : List ℕ → Option Actor
actor_named w = if bytes_eq w (codes "vm") then Some Manager else by_letter w

-- turns are counted from 1
abbrev pub turn_numbered : Option ℕ → Option Bound
turn_numbered None = None
turn_numbered (Some n) = if nat_le 1 n then Some (Turn n) else None

-- `go`, or the number of a turn
abbrev pub bound_named : List ℕ → Option Bound
bound_named w = if bytes_eq w (codes "go") then Some Go else turn_numbered (decimal_number w)

abbrev pub line_numbered : Option ℕ → Option Bound
line_numbered None = None
line_numbered (Some n) = Some (Line n)
