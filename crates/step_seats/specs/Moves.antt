-- What one act of a seat does to the world that it tells, and to the steps that it tells.
use Rattle.std.specs.Prelude.{◌≡◌, ◌<◌, ◌+◌, ℕ, List, [], ◌∷◌, ◌++◌, length, slice_index_or, Option, Some, None}
use Rattle.core_views.specs.declared.kind.Kind.{Kind}
use Rattle.core_views.specs.Held.{Held, Handful}
use Rattle.mmu_core.specs.machine.Machine.{Step, World, May, answered, effect}
use Rattle.mmu_core.specs.machine.Enabled.{mmu}
use Rattle.mmu_core.specs.machine.Steps.{nobody}
use Rattle.mmu_core.specs.lines.Rests.{IsUnderWay}
pub use Rattle.hands.specs.Cores.{core_of, cores_of}
use Rattle.step_seats.specs.Seats.{Seat}

abbrev pub step_by : ℕ → Kind → Step Kind
step_by actor kind = record { actor = actor; kind = kind }

-- Where the world was told, the actor may make this step there, which answers so, and the world after it is told. Where none was told,
-- none is told after the step.
abbrev pub ToldBy : Option (World Held) → ℕ → Kind → ℕ → Option (World Held) → Type 0
ToldBy (Some w) actor kind answer after =
    May mmu w (step_by actor kind) × (answered mmu w kind ≡ answer) × (after ≡ Some (effect mmu w (step_by actor kind)))
ToldBy None actor kind answer after = after ≡ None

-- Where the steps so far were told, they are told with this one. Where none were told, none are told after the step.
abbrev pub Adds : Option (List (Step Kind)) → ℕ → Kind → Option (List (Step Kind)) → Type 0
Adds (Some ss) actor kind after = after ≡ Some (ss ++ step_by actor kind ∷ [])
Adds None actor kind after = after ≡ None

-- An answer takes the room of one.
abbrev pub KeepsRoom : Seat → Seat → Type 0
KeepsRoom before after = length after.hand.answers + after.room ≡ length before.hand.answers + before.room

-- A step leaves the seat's actor and its frame as they were, and an answer takes the room of one.
pub record KeepsSeat {F : Type 0} (before after : Seat) (frame_before frame_after : F) : Type 0 where
  pub room : KeepsRoom before after
  pub actor : after.actor ≡ before.actor
  pub frame : frame_after ≡ frame_before

-- A line that is under way has the room for its answer.
abbrev pub HasItsRoom : Held → ℕ → Type 0
HasItsRoom hand room = IsUnderWay hand.state.place → 0 < room

-- the world of these words and hands
abbrev pub world_of : List ℕ → List Handful → World Held
world_of words hands = record { words = words; hands = cores_of hands }

abbrev pub no_hand : Handful
no_hand = record { core = nobody; room = 0 }

-- the hand of the actor at a place
abbrev pub handful_in : List Handful → ℕ → Handful
handful_in hands actor = slice_index_or hands actor no_hand

-- Each hand has the room for the answer of the line that it has under way.
abbrev pub EachHasRoom : List Handful → Type 0
EachHasRoom hands = (i : ℕ) → i < length hands → HasItsRoom (handful_in hands i).core (handful_in hands i).room
