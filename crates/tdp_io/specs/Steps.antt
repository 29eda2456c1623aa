-- What one step of reading a whole input takes.
use Rattle.std.specs.Prelude.{◌≡◌, ◌≤◌, ◌+◌, ℕ, List, length, Result, Ok, Err}
use Rattle.std.specs.Io.KnownBytes.{Consumes, Keeps, IsAtEnd}
use Rattle.std.specs.declared.option.Option.{Option}
use Rattle.core_views.specs.declared.no_memory.NoMemory.{NoMemory}
use Rattle.tdp_io.specs.declared.source.Pulled.{Pulled}
use Rattle.tdp_io.specs.declared.source.Pulled.TheVariants.{Got, End, Failed as ReadFailed}
use Rattle.tdp_io.specs.Ends.{TakesSome}

-- Whoever took these bytes up to `before` has taken at most so many more bytes up to `after`.
abbrev pub StillTakesSome : Option (List ℕ) → Option (List ℕ) → List ℕ → ℕ → Type 0
StillTakesSome before after old room = (start : Option (List ℕ)) → Consumes start before old → TakesSome start after (length old + room)

-- One read into a room of so many bytes, whose bytes were put after the old ones: if the old ones were all that was
-- taken from some start on, so are the new ones. A read that failed took nothing, and where memory was refused at most
-- the room is gone.
abbrev pub Gains : Option (List ℕ) → Option (List ℕ) → ℕ → List ℕ → List ℕ → Result Pulled NoMemory → Type 0
Gains before after room old new (Ok (Got n)) =
    (1 ≤ n) × (n ≤ room) × (length new ≡ length old + n) × ((start : Option (List ℕ)) → Consumes start before old → Consumes start after new)
Gains before after room old new (Ok End) = (new ≡ old) × Keeps before after × IsAtEnd after
Gains before after room old new (Ok ReadFailed) = StillTakesSome before after old 0
Gains before after room old new (Err e) = StillTakesSome before after old room
