-- What contracts see of a worker: the pass with the hand of its actor, and whether its lines could all be run.
use Rattle.std.specs.Prelude.{◌≡◌, ◌<◌, ℕ, Bool, false, List, [], Option, Some, None, length, slice_index_or}
use Rattle.core_views.specs.declared.kind.Kind.{Kind}
use Rattle.core_views.specs.Held.{Handful}
use Rattle.mmu_core.specs.machine.Enabled.{mmu}
use Rattle.mmu_core.specs.machine.Machine.{Step, hand_in, run}
use Rattle.mmu_core.specs.machine.Steps.{has_line}
use Rattle.table_seats.specs.Boards.{BoardView, Fits, begun}
use Rattle.table_seats.specs.Passes.{PassView, steps_before_split}
use Rattle.table_seats.specs.Rule.{Holds, spent}

pub record Post : Type 0 where
  pub pass : PassView
  pub actor : ℕ
  pub failed : Bool

-- the pass of no board, and that of a worker
abbrev pub no_pass : PassView
no_pass = record { table = record { words = 0; slots = 0; views_name = 0; atom = 0; block = 0; offset = 0; slot_names = [] }; knows = spent; hands = [] }

abbrev pub pass_of : Option PassView → PassView
pass_of None = no_pass
pass_of (Some pass) = pass

-- The pass is one of this board, whose first hand was split off after these steps. It keeps the actor's hand, of which this holds, and no other.
pub record IsPosted (b : BoardView) (past : List (Step Kind)) (t : PassView) (actor : ℕ) (P : Handful → Type 0) : Type 0 where
  pub fits : Fits b t
  pub split : steps_before_split t.knows ≡ Some past
  pub hand : Handful
  pub holds : Holds t.hands actor hand
  pub meets : P hand
  pub alone : (other : ℕ) (h : Handful) → Holds t.hands other h → other ≡ actor

abbrev pub AnyHand : Handful → Type 0
AnyHand h = Unit {0}

-- Where the worker didn't fail, all lines of the hand are answered.
abbrev pub HasRun : Bool → Handful → Type 0
HasRun failed h = failed ≡ false → has_line h.core ≡ false

-- Each worker is posted at the board, for the actor of its place.
abbrev pub AllPosted : BoardView → List (Step Kind) → List Post → Type 0
AllPosted b past posts = (i : ℕ) (d : Post) → i < length posts
    → ((slice_index_or posts i d).actor ≡ i) × IsPosted b past (slice_index_or posts i d).pass i AnyHand

-- Each worker's hand is the one that its actor had in the world in which the first hand was split off.
abbrev pub AllAsSplit : BoardView → List (Step Kind) → List Post → Type 0
AllAsSplit b past posts = (i : ℕ) (d : Post) → i < length posts → (h : Handful) → Holds (slice_index_or posts i d).pass.hands i h
    → h.core ≡ hand_in mmu (run mmu (begun b.start) past) i

-- The workers are posted with such hands.
abbrev pub AreReady : BoardView → List (Step Kind) → List Post → Type 0
AreReady b past posts = AllPosted b past posts × AllAsSplit b past posts

-- Each worker has a hand, and it is among these, in its actor's place.
abbrev pub BringHands : List Post → List (Option Handful) → Type 0
BringHands posts hands = (i : ℕ) (d : Post) → i < length posts → (h : Handful) × Holds (slice_index_or posts i d).pass.hands i h × Holds hands i h

-- The same of workers that have run their lines.
abbrev pub AllHaveRun : BoardView → List (Step Kind) → List Post → Type 0
AllHaveRun b past posts = (i : ℕ) (d : Post) → i < length posts
    → ((slice_index_or posts i d).actor ≡ i)
    × IsPosted b past (slice_index_or posts i d).pass i (HasRun (slice_index_or posts i d).failed)
