-- Sources and sinks that are kept in memory, and whose calls fail where they are told to.
use Rattle.std.specs.Prelude.{◌≡◌, ℕ, ◌+◌, ◌-◌, ◌^◌, ◌==◌, min, List, length, Bool, true, false}
use Rattle.std.specs.List.{list_any}
use Rattle.tdp_io.specs.declared.source.Pulled.{Pulled}
use Rattle.tdp_io.specs.declared.source.Pulled.TheVariants.{Got, End, Failed as ReadFailed}
use Rattle.tdp_io.specs.declared.sink.Output.{Output}
use Rattle.tdp_io.specs.declared.sink.Output.TheVariants.{Took, Failed as WriteFailed, NoMemory as SinkIsFull}

-- a source in memory: the bytes that are left, the numbers of the calls that fail, how many calls were made and how
-- many of them failed, and whether the last call found the end
pub record Supply : Type 0 where
  pub left : List ℕ
  pub failing : List ℕ
  pub calls : ℕ
  pub faults : ℕ
  pub ended : Bool

-- a sink in memory: the bytes that it was given, the numbers of the calls that fail, how many calls were made, how
-- many of them failed, and whether one has
pub record Store : Type 0 where
  pub bytes : List ℕ
  pub failing : List ℕ
  pub calls : ℕ
  pub faults : ℕ
  pub failed : Bool

-- The call with this number is among those that fail.
abbrev pub is_failing : List ℕ → ℕ → Bool
is_failing failing call = list_any (λ number. number == call) failing

-- The number of calls after one more. It stays at the last number of 64 bits.
abbrev pub next_call : ℕ → ℕ
next_call calls = min (calls + 1) (2 ^ 64 - 1)

-- The read failed.
abbrev pub is_read_fault : Pulled → Bool
is_read_fault (Got n) = false
is_read_fault End = false
is_read_fault ReadFailed = true

-- A read that gets bytes gets as many as are left and fit into so much room.
abbrev pub FillsRoom : List ℕ → ℕ → Pulled → Type 0
FillsRoom left room (Got n) = n ≡ min (length left) room
FillsRoom left room End = Unit {0}
FillsRoom left room ReadFailed = Unit {0}

-- A write that takes bytes takes the whole piece.
abbrev pub TakesWhole : List ℕ → Output → Type 0
TakesWhole piece (Took n) = n ≡ length piece
TakesWhole piece WriteFailed = Unit {0}
TakesWhole piece SinkIsFull = Unit {0}
