-- Turns of the actors: each is one step, and may be the last one of a schedule's item.
use Rattle.std.specs.Prelude.{◌≡◌, ◌≤◌, ◌⊎◌, ℕ, List, [], ◌∷◌, ◌++◌, length, Bool, true, false, ◌==◌, ◌||◌}
use Rattle.core_views.specs.declared.kind.Kind.{Kind}
use Rattle.core_views.specs.declared.sizes.Sizes.{Sizes}
use Rattle.core_views.specs.declared.trace.Item.{Item}
use Rattle.core_views.specs.declared.trace.Until.{Until}
use Rattle.core_views.specs.declared.trace.Until.TheVariants.{Turns, Made}
use Rattle.core_views.specs.Held.{Held}
use Rattle.core_views.specs.Sizes.{index_of}
use Rattle.mmu_core.specs.declared.outcome.Outcome.{Outcome}
use Rattle.mmu_core.specs.declared.outcome.Outcome.TheVariants.{Goes, Ends}
pub use Rattle.mmu_laws.specs.turns.TurnLaws.{begins_anew}
use Rattle.mmu_core.specs.machine.Enabled.{mmu}
use Rattle.mmu_core.specs.alone.LineAlone.{line_waits}
use Rattle.mmu_core.specs.machine.Machine.{Step, World, answered, effect, hand_in, run}
use Rattle.mmu_core.specs.machine.Steps.{has_line, place_at}
use Rattle.mmu_core.specs.machine.Turns.{line_of, outcome_of}
use Rattle.tdp_io.specs.declared.sink.Stop.{Stop}
use Rattle.tdp_io.specs.declared.sink.Stop.TheVariants.{Failed, NoMemory}
use Rattle.turn_loops.specs.Marks.{Mark, Begins, turns_from}

-- The actor has a line that has no answer.
abbrev pub HasLineLeft : ℕ → World Held → Type 0
HasLineLeft actor w = has_line (hand_in mmu w actor) ≡ true

abbrev pub HasNoLineLeft : ℕ → World Held → Type 0
HasNoLineLeft actor w = has_line (hand_in mmu w actor) ≡ false

abbrev pub is_ended : Outcome → Bool
is_ended (Goes p) = false
is_ended (Ends answer) = true

-- The turn answers its line, waits for another actor, or begins anew.
abbrev pub hand_stops : Held → ℕ → Bool
hand_stops h v = line_waits (place_at h.state.place h) (line_of h).command h v || (begins_anew (place_at h.state.place h) || is_ended (outcome_of h v))

abbrev pub stops : World Held → Step Kind → Bool
stops w s = hand_stops (hand_in mmu w s.actor) (answered mmu w s.kind)

-- The step answers its actor's line.
pub record AnswersLine (w : World Held) (s : Step Kind) : Type 0 where
  pub left : HasLineLeft s.actor w
  pub ends : is_ended (outcome_of (hand_in mmu w s.actor) (answered mmu w s.kind)) ≡ true

-- The last of these steps answers its actor's line.
pub record EndsWithAnswer (w : World Held) (ss : List (Step Kind)) : Type 0 where
  pub before : List (Step Kind)
  pub last : Step Kind
  pub are : ss ≡ before ++ last ∷ []
  pub answers : AnswersLine (run mmu w before) last

-- Why a run stops after these steps: a write fails only where one is tried, after an answer; memory may be refused anywhere.
abbrev pub MayStop : Stop → World Held → List (Step Kind) → Type 0
MayStop Failed w ss = EndsWithAnswer w ss
MayStop NoMemory w ss = Unit {0}

-- The item names no count of turns.
abbrev pub IsOpenEnded : Until → Type 0
IsOpenEnded (Turns count) = ⊥
IsOpenEnded _ = Unit {0}

-- The item names this kind of step.
abbrev pub names_kind : Until → ℕ → Bool
names_kind (Made code) made = made == code
names_kind _ made = false

-- The turn is the last one of an item that goes on until so.
abbrev pub ends_item : Until → World Held → Step Kind → Bool
ends_item (Turns count) w s = false
ends_item until w s = names_kind until s.kind.code || stops w s

-- The step is a turn of this actor, which has a line left.
pub record IsTurn (actor : ℕ) (w : World Held) (s : Step Kind) : Type 0 where
  pub own : s.actor ≡ actor
  pub left : HasLineLeft actor w

-- All steps are turns of this actor.
abbrev pub AreTurns : ℕ → World Held → List (Step Kind) → Type 0
AreTurns actor w [] = Unit {0}
AreTurns actor w (s ∷ ss) = IsTurn actor w s × AreTurns actor (effect mmu w s) ss

-- The item ends with none of the turns but perhaps the last one.
abbrev pub NoneEndsBefore : Until → World Held → List (Step Kind) → Type 0
NoneEndsBefore until w [] = Unit {0}
NoneEndsBefore until w (s ∷ ss) = (ends_item until w s ≡ true → ss ≡ []) × NoneEndsBefore until (effect mmu w s) ss

-- The item ends with the last one.
abbrev pub LastEnds : Until → World Held → List (Step Kind) → Type 0
LastEnds until w [] = ⊥
LastEnds until w (s ∷ []) = ends_item until w s ≡ true
LastEnds until w (s ∷ t ∷ ss) = LastEnds until (effect mmu w s) (t ∷ ss)

-- As many turns were made as the item says, or one that ends it; or the actor has no line left.
abbrev pub ItemOver : Until → ℕ → World Held → List (Step Kind) → Type 0
ItemOver (Turns count) actor w ss = (length ss ≡ count) ⊎ HasNoLineLeft actor (run mmu w ss)
ItemOver until actor w ss = LastEnds until w ss ⊎ HasNoLineLeft actor (run mmu w ss)

-- The item doesn't allow more turns than these.
abbrev pub ItemFits : Until → List (Step Kind) → Type 0
ItemFits (Turns count) ss = length ss ≤ count
ItemFits _ ss = Unit {0}

-- These are turns of an actor that go on until so, as far as they have come.
pub record RunsBySoFar (until : Until) (actor : ℕ) (w : World Held) (ss : List (Step Kind)) : Type 0 where
  pub turns : AreTurns actor w ss
  pub none_ends : NoneEndsBefore until w ss
  pub within : ItemFits until ss

-- These are all of them.
pub record RunsBy (until : Until) (actor : ℕ) (w : World Held) (ss : List (Step Kind)) : Type 0 where
  pub so_far : RunsBySoFar until actor w ss
  pub over : ItemOver until actor w ss

-- an item's turns, and those of one that may have more to come
abbrev pub RunsItem : Sizes → Item → World Held → List (Step Kind) → Type 0
RunsItem z item w ss = RunsBy item.until (index_of z item.actor) w ss

abbrev pub RunsItemSoFar : Sizes → Item → World Held → List (Step Kind) → Type 0
RunsItemSoFar z item w ss = RunsBySoFar item.until (index_of z item.actor) w ss

-- This holds of the steps, and the marks are these first ones and then the turns.
abbrev pub AreMarkedFrom : List Mark → (World Held → List (Step Kind) → Type 0) → World Held → List (Step Kind) → List Mark → Type 0
AreMarkedFrom front P w ss marks = P w ss × (marks ≡ front ++ turns_from w ss)

-- the turns alone, or the turns after one mark
abbrev pub AreMarked : (World Held → List (Step Kind) → Type 0) → World Held → List (Step Kind) → List Mark → Type 0
AreMarked P = AreMarkedFrom [] P

abbrev pub AreMarkedAfter : Mark → (World Held → List (Step Kind) → Type 0) → World Held → List (Step Kind) → List Mark → Type 0
AreMarkedAfter mark P = AreMarkedFrom (mark ∷ []) P

-- The items of a schedule have their turns one after another, those of each after the mark that says that they begin.
abbrev pub RunsItems : Sizes → List Item → World Held → List (Step Kind) → List Mark → Type 0
RunsItems z [] w ss marks = (ss ≡ []) × (marks ≡ [])
RunsItems z (item ∷ items) w ss marks =
    (own : List (Step Kind)) × (rest : List (Step Kind)) × (first : List Mark) × (later : List Mark) × (ss ≡ own ++ rest) × (marks ≡ first ++ later)
    × AreMarkedAfter (Begins item) (RunsItem z item) w own first × RunsItems z items (run mmu w own) rest later

-- So they have had, up to some turn of one of them.
abbrev pub RunsItemsSoFar : Sizes → List Item → World Held → List (Step Kind) → List Mark → Type 0
RunsItemsSoFar z [] w ss marks = (ss ≡ []) × (marks ≡ [])
RunsItemsSoFar z (item ∷ items) w ss marks =
    ((ss ≡ []) × (marks ≡ [])) ⊎ (AreMarkedAfter (Begins item) (RunsItemSoFar z item) w ss marks
    ⊎ ((own : List (Step Kind)) × (rest : List (Step Kind)) × (first : List Mark) × (later : List Mark) × (ss ≡ own ++ rest) × (marks ≡ first ++ later)
    × AreMarkedAfter (Begins item) (RunsItem z item) w own first × RunsItemsSoFar z items (run mmu w own) rest later))
