-- The kinds of step: the operation of each on its word.
use Rattle.std.specs.Prelude.{◌+◌, ◌-◌, ◌%◌, ◌^◌, ℕ, ◌==◌, if◌then◌else◌}
use Rattle.std.specs.Int.Bits.{bit_and, bit_or}
use Rattle.core_views.specs.declared.kind.Kind.{Kind}
use Rattle.core_views.specs.declared.kind.Operation.{Operation}
use Rattle.core_views.specs.declared.kind.Operation.TheVariants as operation
use Rattle.core_views.specs.declared.kind.StepKind.{StepKind}
use Rattle.core_views.specs.declared.kind.StepKind.TheVariants.{Enter, Leave, Walk, Read, Write, Add, Begin, End, Control, Slot, Host, Bring, Swap, Mark, Share}
use Rattle.core_views.specs.declared.kind.StepKind.TheVariants.{Unshare, Exclude, Release, Claim, Fill, Give, Set, Zap, Ask, Await, Change}
use Rattle.core_views.specs.declared.kind.StepKind.TheVariants.{Copy, Frame, Unframe, Publish, Watch, Take, Protect, Peek, Arm}
pub use Rattle.core_views.specs.StepCodes.{code_of, kind_named}

-- the operation of a kind
abbrev pub operation_of : StepKind → Operation
operation_of Enter = operation.Swap
operation_of Leave = operation.FetchAnd
operation_of Walk = operation.Load
operation_of Read = operation.Load
operation_of Write = operation.Swap
operation_of Add = operation.FetchAdd
operation_of Begin = operation.FetchOr
operation_of End = operation.FetchAnd
operation_of Control = operation.Load
operation_of Slot = operation.Load
operation_of Host = operation.Load
operation_of Bring = operation.CompareExchange
operation_of Swap = operation.CompareExchange
operation_of Mark = operation.FetchOr
operation_of Share = operation.FetchAdd
operation_of Unshare = operation.FetchSub
operation_of Exclude = operation.CompareExchange
operation_of Release = operation.FetchAnd
operation_of Claim = operation.FetchAnd
operation_of Fill = operation.Store
operation_of Give = operation.FetchOr
operation_of Set = operation.Store
operation_of Zap = operation.Swap
operation_of Ask = operation.FetchOr
operation_of Await = operation.Load
operation_of Change = operation.CompareExchange
operation_of Copy = operation.Load
operation_of Frame = operation.FetchAnd
operation_of Unframe = operation.FetchOr
operation_of Publish = operation.Swap
operation_of Watch = operation.Load
operation_of Take = operation.FetchAnd
operation_of Protect = operation.FetchAnd
operation_of Peek = operation.Load
operation_of Arm = operation.Store

-- the operation of the kind with this number
abbrev pub operation_of_code : ℕ → Operation
operation_of_code code = operation_of (kind_named code)

-- what a word holds after an operation with these numbers that found n
abbrev pub word_after : Operation → ℕ → ℕ → ℕ → ℕ
word_after operation.Load old_ new_ n = n
word_after operation.Store old_ new_ n = new_
word_after operation.Swap old_ new_ n = new_
word_after operation.FetchAdd old_ new_ n = (n + new_) % 2 ^ 64
word_after operation.FetchSub old_ new_ n = (n + (2 ^ 64 - new_)) % 2 ^ 64
word_after operation.FetchAnd old_ new_ n = bit_and n new_
word_after operation.FetchOr old_ new_ n = bit_or n new_
word_after operation.CompareExchange old_ new_ n = if n == old_ then new_ else n

-- what an operation answers that found n: a store finds nothing, and answers what it wrote
abbrev pub word_answered : Operation → ℕ → ℕ → ℕ
word_answered operation.Load new_ n = n
word_answered operation.Store new_ n = new_
word_answered operation.Swap new_ n = n
word_answered operation.FetchAdd new_ n = n
word_answered operation.FetchSub new_ n = n
word_answered operation.FetchAnd new_ n = n
word_answered operation.FetchOr new_ n = n
word_answered operation.CompareExchange new_ n = n

-- what the step's word holds after it, and what it answers
unfoldable pub after : Kind → ℕ → ℕ
after k n = word_after (operation_of_code k.code) k.old k.new n

unfoldable pub answer : Kind → ℕ → ℕ
answer k n = word_answered (operation_of_code k.code) k.new n

-- a step of a kind, its word, the numbers expected and written, and whether the line may end with it
abbrev pub step_of : StepKind → ℕ → ℕ → ℕ → ℕ → Kind
step_of kind word old_ new_ note = record { code = code_of kind; word = word; old = old_; new = new_; note = note }
