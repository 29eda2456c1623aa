-- Readers and writers of std.
use Rattle.std.specs.Prelude.{ℕ, List, Bool}
use Rattle.std.specs.declared.option.Option.{Option}
use Rattle.tdp_io.specs.declared.sink.Output.{Output}
use Rattle.tdp_io.specs.declared.sink.Output.TheVariants.{Took, Failed as WriteFailed, NoMemory as SinkIsFull}

-- a reader of std: the bytes that it has left, where it tells them, how many of its calls failed, and whether the last
-- one found the end
pub record ReaderState : Type 0 where
  pub remaining : Option (List ℕ)
  pub faults : ℕ
  pub ended : Bool

-- a writer of std: the bytes that it holds, where it tells them, and how many of its calls failed, and whether one has
pub record WriterState : Type 0 where
  pub contents : Option (List ℕ)
  pub faults : ℕ
  pub failed : Bool

-- The write took some bytes or failed: it is not answered that memory was refused.
abbrev pub NeedsNoMemory : Output → Type 0
NeedsNoMemory (Took n) = Unit {0}
NeedsNoMemory WriteFailed = Unit {0}
NeedsNoMemory SinkIsFull = ⊥
