-- What one word of an actor's line spells: a number, an address, a level, the index in the actor's name.
use Rattle.std.specs.Prelude.{◌+◌, ◌*◌, ◌/◌, ◌%◌, ◌^◌, ℕ, List, [], ◌∷◌, Bool, true, ◌&&◌, nat_lt, nat_le, ◌==◌, if◌then◌else◌, length, Result, Ok, Err}
use Rattle.std.specs.declared.option.Option.{Option}
use Rattle.std.specs.declared.option.Option.TheVariants.{Some, None}
use Rattle.core_views.specs.declared.actor.Actor.{Actor}
use Rattle.core_views.specs.declared.trace.Command.{Command}
use Rattle.core_views.specs.declared.trace.Header.{Header}
use Rattle.trace_reader.specs.declared.reason.Reason.{Reason}
use Rattle.trace_reader.specs.declared.reason.Reason.TheVariants as reason
use Rattle.trace_reader.specs.Numbers.{spelled_number, decimal_number}

-- an actor and its command, or why there is none
abbrev pub Said : Type 0
Said = Result (Actor × Command) Reason

infixl 10 ◌>>=◌
-- the first refusal, or what the second step gives
abbrev pub ◌>>=◌ : {A B : Type 0} → Result A Reason → (A → Result B Reason) → Result B Reason
(Ok x) >>= f = f x
(Err e) >>= f = Err e

-- the value, or `number` where there is none
abbrev pub or_number : {A : Type 0} → Option A → Result A Reason
or_number None = Err reason.Number
or_number (Some x) = Ok x

-- the number that the word spells
unfoldable pub number : List ℕ → Result ℕ Reason
number w = or_number (spelled_number w)

-- the numbers that the words spell
unfoldable pub numbers : List (List ℕ) → Result (List ℕ) Reason
numbers [] = Ok []
numbers (w ∷ ws) = number w >>= λ n. numbers ws >>= λ ns. Ok (n ∷ ns)

-- a level of large pages
abbrev pub is_large_level : ℕ → Bool
is_large_level level = nat_le 2 level && nat_le level 3

-- the level of large pages that the word spells
unfoldable pub large_level : List ℕ → Result ℕ Reason
large_level w = number w >>= λ level. if is_large_level level then Ok level else Err reason.Number

-- There is a word for each 64 of so many pages; where their count is no number, there may be any words.
abbrev pub are_counted : Option ℕ → List (List ℕ) → Bool
are_counted None ws = true
are_counted (Some count) ws = length ws == (count + 63) / 64

-- the address of a content word, where each page has this many
abbrev pub is_address : ℕ → ℕ → Bool
is_address words a = nat_lt a (2 ^ 48) && (a % 8 == 0) && nat_lt (a % 4096) (8 * words)

-- the guest frame and the content word of an address
abbrev pub access_at : ℕ → Option ℕ → Result (ℕ × ℕ) Reason
access_at words None = Err reason.Number
access_at words (Some a) = if is_address words a then Ok (a / 4096, a % 4096 / 8) else Err reason.Number

-- the guest frame and the content word of the address that the word spells
unfoldable pub address : Header → List ℕ → Result (ℕ × ℕ) Reason
address h w = access_at h.words (spelled_number w)

-- the guest frame with this number
abbrev pub frame_at : Option ℕ → Result ℕ Reason
frame_at None = Err reason.Number
frame_at (Some n) = if nat_lt n (2 ^ 36) then Ok n else Err reason.Number

-- the guest frame whose number the word spells
unfoldable pub guest_frame : List ℕ → Result ℕ Reason
guest_frame w = frame_at (spelled_number w)

-- an index that an actor's name may have, below the count of those that are declared
abbrev pub declared : ℕ → ℕ → Option ℕ → Result ℕ Reason
declared most count None = Err reason.Word
declared most count (Some n) = if nat_le n most then (if nat_lt n count then Ok n else Err reason.Actor) else Err reason.Word

-- the index in a name: the letter, and an index in decimal
unfoldable pub indexed : ℕ → ℕ → ℕ → List ℕ → Result ℕ Reason
indexed letter most count [] = Err reason.Word
indexed letter most count (c ∷ ds) = if c == letter then declared most count (decimal_number ds) else Err reason.Word

-- the virtual processor that the word names: `v` and its index
unfoldable pub vcpu : Header → List ℕ → Result ℕ Reason
vcpu h w = indexed 118 15 h.vcpus w

-- the host thread that the word names: `h` and its index
unfoldable pub host_thread : Header → List ℕ → Result ℕ Reason
host_thread h w = indexed 104 3 (length h.hosts) w

-- the worker that the word names: `w` and its index
unfoldable pub worker : Header → List ℕ → Result ℕ Reason
worker h w = indexed 119 3 h.workers w
