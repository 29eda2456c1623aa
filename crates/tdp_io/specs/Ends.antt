-- What passes at the two ends of a program: bytes that a source gives and a sink takes, and the counts of calls that failed.
-- `before` and `after` are the bytes that the source has left, or that the sink was given, before and after a call, where these are told.
use Rattle.std.specs.Prelude.{◌≡◌, ◌≤◌, ◌<◌, ◌^◌, ◌-◌, ℕ, List, length, take, Bool, true, false, ◌⊎◌, Result, Ok, Err}
use Rattle.std.specs.Io.KnownBytes.{Consumes, Keeps, Appends, IsAtEnd}
use Rattle.std.specs.declared.option.Option.{Option}
use Rattle.core_views.specs.declared.no_memory.NoMemory.{NoMemory}
use Rattle.tdp_io.specs.declared.source.Pulled.{Pulled}
use Rattle.tdp_io.specs.declared.source.Pulled.TheVariants.{Got, End, Failed as ReadFailed}
use Rattle.tdp_io.specs.declared.source.Input.{Input}
use Rattle.tdp_io.specs.declared.source.Input.TheVariants.{Bytes, Fault}
use Rattle.tdp_io.specs.declared.sink.Output.{Output}
use Rattle.tdp_io.specs.declared.sink.Output.TheVariants.{Took, Failed as WriteFailed, NoMemory as SinkIsFull}
use Rattle.tdp_io.specs.declared.sink.Stop.{Stop}
use Rattle.tdp_io.specs.declared.sink.Stop.TheVariants.{Failed as StopFailed, NoMemory as StopFull}

-- The count is greater than it was, or it stood at the last number of 64 bits before and did not fall.
abbrev pub Rose : ℕ → ℕ → Type 0
Rose before now = (before ≤ now) × ((before ≡ 2 ^ 64 - 1 → ⊥) → before < now)

-- What one read took, where that is told. `Got(n)`: at least one byte and no more than fit, and a prefix of the buffer holds them.
-- `End`: none was left, and none is left now. A read that failed took nothing.
abbrev pub Pulls : Option (List ℕ) → Option (List ℕ) → Pulled → List ℕ → Type 0
Pulls before after (Got n) buffer = (1 ≤ n) × (n ≤ length buffer) × Consumes before after (take n buffer)
Pulls before after End buffer = IsAtEnd before × Keeps before after × IsAtEnd after
Pulls before after ReadFailed buffer = Keeps before after

-- The count of failed reads rises with a read that failed, and stays at any other.
abbrev pub PullFaults : ℕ → ℕ → Pulled → Type 0
PullFaults before now (Got n) = now ≡ before
PullFaults before now End = now ≡ before
PullFaults before now ReadFailed = Rose before now

-- The read found the end of the input.
abbrev pub is_end : Pulled → Bool
is_end (Got n) = false
is_end End = true
is_end ReadFailed = false

-- What one write added, where that is told. `Took(n)`: the first n bytes of the piece, at least one. Any other answer added nothing.
abbrev pub Puts : Option (List ℕ) → Option (List ℕ) → Output → List ℕ → Type 0
Puts before after (Took n) piece = (1 ≤ n) × (n ≤ length piece) × Appends before after (take n piece)
Puts before after WriteFailed piece = Keeps before after
Puts before after SinkIsFull piece = Keeps before after

-- The count of failed writes rises with a write that failed, and stays at any other: want of memory is no fault.
abbrev pub PutFaults : ℕ → ℕ → Output → Type 0
PutFaults before now (Took n) = now ≡ before
PutFaults before now WriteFailed = Rose before now
PutFaults before now SinkIsFull = now ≡ before

-- The write failed.
abbrev pub is_write_fault : Output → Bool
is_write_fault (Took n) = false
is_write_fault WriteFailed = true
is_write_fault SinkIsFull = false

-- A prefix of the text was added: all of it, none of it, or something between.
abbrev pub AppendsPrefix : Option (List ℕ) → Option (List ℕ) → List ℕ → Type 0
AppendsPrefix before after text = (n : ℕ) × (n ≤ length text) × Appends before after (take n text)

-- What writing a whole text added: all of it, or a prefix of it where the writing stopped early.
abbrev pub Wrote : {A : Type 0} → Option (List ℕ) → Option (List ℕ) → Result A Stop → List ℕ → Type 0
Wrote {A} before after (Ok x) text = Appends before after text
Wrote {A} before after (Err e) text = AppendsPrefix before after text

-- The writing says that the sink failed only where the count of failed writes rose, and any other answer leaves the count.
abbrev pub WroteFaults : {A : Type 0} → ℕ → ℕ → Result A Stop → Type 0
WroteFaults {A} before now (Ok x) = now ≡ before
WroteFaults {A} before now (Err StopFailed) = Rose before now
WroteFaults {A} before now (Err StopFull) = now ≡ before

-- The writing stopped because a write failed.
abbrev pub is_failed : {A : Type 0} → Result A Stop → Bool
is_failed {A} (Ok x) = false
is_failed {A} (Err StopFailed) = true
is_failed {A} (Err StopFull) = false

-- A prefix of what the source had left was taken, at most so many bytes and maybe none, and the rest is left now.
abbrev pub TakesSome : Option (List ℕ) → Option (List ℕ) → ℕ → Type 0
TakesSome before after most = (taken : List ℕ) × Consumes before after taken × (length taken ≤ most)

-- What reading the whole input took. Bytes that are answered are those taken, and at most 16777217; if fewer,
-- the source has ended and nothing is left. After a fault, or where memory was refused, some bytes may be gone: at most
-- 16777216 of them after a fault, which comes before the last byte, and 16777217 where memory was refused.
abbrev pub Read : Option (List ℕ) → Option (List ℕ) → Bool → Result Input NoMemory → Type 0
Read before after ended (Ok (Bytes bytes)) =
    Consumes before after bytes.items × (length bytes.items ≤ 16777217) × ((length bytes.items ≡ 16777217) ⊎ ((ended ≡ true) × IsAtEnd after))
Read before after ended (Ok Fault) = TakesSome before after 16777216
Read before after ended (Err e) = TakesSome before after 16777217

-- The reading answers a fault only where the count of failed reads rose, and any other answer leaves the count.
abbrev pub ReadFaults : ℕ → ℕ → Result Input NoMemory → Type 0
ReadFaults before now (Ok (Bytes bytes)) = now ≡ before
ReadFaults before now (Ok Fault) = Rose before now
ReadFaults before now (Err e) = now ≡ before
