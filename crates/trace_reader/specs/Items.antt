-- What the words of a schedule item say: whose turns are next, and until when.
use Rattle.std.specs.Prelude.{◌+◌, ℕ, List, [], ◌∷◌, Bool, false, ◌&&◌, nat_le, ◌==◌, if◌then◌else◌, codes, length, slice_index_or, Result, Ok, Err}
use Rattle.std.specs.Str.{bytes_eq}
use Rattle.std.specs.declared.option.Option.{Option}
use Rattle.std.specs.declared.option.Option.TheVariants.{Some, None}
use Rattle.core_views.specs.declared.actor.Actor.{Actor}
use Rattle.core_views.specs.declared.actor.Actor.TheVariants.{Vcpu, Host, Manager, Worker}
use Rattle.core_views.specs.declared.trace.Header.{Header}
use Rattle.core_views.specs.declared.trace.Item.{Item}
use Rattle.core_views.specs.declared.trace.Until.{Until}
use Rattle.core_views.specs.declared.trace.Until.TheVariants.{Turns, Answered, Made}
use Rattle.trace_reader.specs.declared.reason.Reason.{Reason}
use Rattle.trace_reader.specs.declared.reason.Reason.TheVariants as reason
use Rattle.trace_reader.specs.Numbers.{is_digit, spelled_number}
use Rattle.trace_reader.specs.Operands.{◌>>=◌, indexed}

-- the names of the kinds of step, in the order of their numbers, from 1
abbrev pub kind_names : List (List ℕ)
kind_names =
    codes "enter" ∷ codes "leave" ∷ codes "walk" ∷ codes "read" ∷ codes "write" ∷ codes "add"
    ∷ codes "begin" ∷ codes "end" ∷ codes "control" ∷ codes "slot" ∷ codes "host" ∷ codes "bring" ∷ codes "swap" ∷ codes "mark"
    ∷ codes "share" ∷ codes "unshare" ∷ codes "exclude" ∷ codes "release" ∷ codes "claim" ∷ codes "fill" ∷ codes "give"
    ∷ codes "set" ∷ codes "zap" ∷ codes "ask" ∷ codes "await"
    ∷ codes "change" ∷ codes "copy" ∷ codes "frame" ∷ codes "unframe"
    ∷ codes "publish" ∷ codes "watch" ∷ codes "freeze" ∷ codes "child" ∷ codes "thaw" ∷ codes "reroot"
    ∷ codes "take" ∷ codes "protect" ∷ codes "pause" ∷ codes "page" ∷ codes "peek" ∷ codes "arm"
    ∷ []

-- the number of a name among these, of which the first has number n
abbrev pub number_among : ℕ → List (List ℕ) → List ℕ → Option ℕ
number_among n [] w = None
number_among n (name ∷ names) w = if bytes_eq w name then Some n else number_among (n + 1) names w

-- the number of the kind of step that the word names
unfoldable pub kind_number : List ℕ → Option ℕ
kind_number w = number_among 1 kind_names w

-- the name of the kind with a number, from 1; number 0 and the numbers above 41 have no letters
unfoldable pub kind_name : ℕ → List ℕ
kind_name code = slice_index_or ([] ∷ kind_names) code []

-- It has a first byte, which passes the test.
abbrev pub begins : (ℕ → Bool) → List ℕ → Bool
begins test [] = false
begins test (c ∷ cs) = test c

-- so many turns, from 1 to 10,000,000
abbrev pub turns : Option ℕ → Result Until Reason
turns None = Err reason.Number
turns (Some n) = if nat_le 1 n && nat_le n 10000000 then Ok (Turns n) else Err reason.Number

-- the kind of step with this number, if there is one
abbrev pub made : Option ℕ → Result Until Reason
made None = Err reason.Word
made (Some code) = Ok (Made code)

-- until when the turns go on, by the last word: a number of turns, `end`, or the name of a kind of step
unfoldable pub until_said : List ℕ → Result Until Reason
until_said w =
    if begins is_digit w then turns (spelled_number w) else
    if bytes_eq w (codes "end") then Ok Answered else
    made (kind_number w)

-- the actor that the word names, where the header declares it
unfoldable pub actor_said : Header → List ℕ → Result Actor Reason
actor_said h w =
    if bytes_eq w (codes "vm") then Ok Manager else
    if begins (λ c. c == 118) w then (indexed 118 15 h.vcpus w >>= λ n. Ok (Vcpu n)) else
    if begins (λ c. c == 104) w then (indexed 104 3 (length h.hosts) w >>= λ n. Ok (Host n)) else
    (indexed 119 3 h.workers w >>= λ n. Ok (Worker n))

-- the item of an actor; a last word of no form is told before the actor is judged, and a number out of its range after
abbrev pub item_by : Result Actor Reason → Result Until Reason → Result Item Reason
item_by who (Ok u) = who >>= λ a. Ok (record { actor = a; until = u })
item_by who (Err reason.Word) = Err reason.Word
item_by who (Err r) = who >>= λ a. Err r

-- `ACTOR N`, `ACTOR end` and `ACTOR KIND`
unfoldable pub item_said : Header → List ℕ → List ℕ → Result Item Reason
item_said h who last = item_by (actor_said h who) (until_said last)
