-- Grace periods (locking.rst): whom a watch has passed was seen outside, and who comes from outside holds nothing that was loaded before.
use Rattle.std.specs.Prelude.{◌≡◌, ◌≢◌, ◌<◌, ℕ, List, [], ◌∷◌, ◌++◌, length, false, None}
use Rattle.core_views.specs.declared.kind.Kind.{Kind}
use Rattle.core_views.specs.declared.kind.StepKind.TheVariants as kind
use Rattle.core_views.specs.declared.sizes.Sizes.{Sizes}
use Rattle.core_views.specs.declared.topics.Stay.TheVariants.{Outside}
use Rattle.core_views.specs.declared.topics.Topics.{Topics}
use Rattle.core_views.specs.declared.trace.Line.{Line}
use Rattle.core_views.specs.Held.{Held}
use Rattle.core_views.specs.Kinds.{code_of}
use Rattle.core_views.specs.Sizes.{actors_of}
use Rattle.spte_words.specs.declared.area.Area.TheVariants.{State}
use Rattle.spte_words.specs.Areas.{place}
use Rattle.mmu_core.specs.machine.Enabled.{mmu}
use Rattle.mmu_core.specs.machine.Machine.{Legal, Step, World, effect, hand_in, run}
use Rattle.part_steps.specs.PartHoldings.{next_watched}
use Rattle.part_steps.specs.Tasks.{map_of}
use Rattle.part_steps.specs.StayTopics.{is_outside}
use Rattle.mmu_core.specs.machine.Worlds.{IsStart, Reachable}

-- what the actor at a place holds in a world
abbrev pub topics_in : World Held → ℕ → Topics
topics_in w actor = (hand_in mmu w actor).topics

-- The step is this actor's look at the state word of actor i.
pub record IsLook (z : Sizes) (actor i : ℕ) (s : Step Kind) : Type 0 where
  pub by : s.actor ≡ actor
  pub watch : s.kind.code ≡ code_of kind.Watch
  pub word : s.kind.word ≡ place (map_of z) State i

-- None of these steps is the actor's look at the first other actor, with which each of its watches begins.
abbrev pub BeginNoWatch : Sizes → ℕ → List (Step Kind) → Type 0
BeginNoWatch z actor [] = Unit {0}
BeginNoWatch z actor (s ∷ ss) = (IsLook z actor (next_watched actor 0) s → ⊥) × BeginNoWatch z actor ss

-- One of these steps, made from this world on, is the actor's look at actor i, which was outside at that moment; and after
-- this look the actor began no other watch.
pub record SawOutside (z : Sizes) (w : World Held) (actor i : ℕ) (ss : List (Step Kind)) : Type 0 where
  pub before : List (Step Kind)
  pub look : Step Kind
  pub later : List (Step Kind)
  pub split : ss ≡ before ++ look ∷ later
  pub looks : IsLook z actor i look
  pub outside : (topics_in (run mmu w before) i).stay ≡ Outside
  pub same_watch : BeginNoWatch z actor later

-- After every list of steps from a start, each other actor that a watch has passed was seen outside in this very watch.
abbrev pub WatchedWasOutside : Type 0
WatchedWasOutside =
    (z : Sizes) (lines : List Line) (w : World Held) (ss : List (Step Kind)) (actor i : ℕ) → IsStart z lines w → Legal mmu w ss → actor < actors_of z
    → i < (topics_in (run mmu w ss) actor).watched → i ≢ actor → SawOutside z w actor i ss

-- One of these steps, made from this world on, is the actor's own: right before it the actor was outside, and right after it the actor is in
-- the guest or in a section, and holds no table and no slot set.
pub record BeganEmpty (w : World Held) (actor : ℕ) (ss : List (Step Kind)) : Type 0 where
  pub before : List (Step Kind)
  pub begin : Step Kind
  pub later : List (Step Kind)
  pub split : ss ≡ before ++ begin ∷ later
  pub by : begin.actor ≡ actor
  pub outside : (topics_in (run mmu w before) actor).stay ≡ Outside
  pub inside : is_outside (topics_in (effect mmu (run mmu w before) begin) actor).stay ≡ false
  pub no_table : (topics_in (effect mmu (run mmu w before) begin) actor).walk.level ≡ 0
  pub no_set : (topics_in (effect mmu (run mmu w before) begin) actor).search.set ≡ None

-- Whoever is outside at some moment, and is in the guest or in a section later, held nothing of tables and slot sets at a moment in between:
-- what it holds then was loaded since.
abbrev pub SectionsBeginEmpty : Type 0
SectionsBeginEmpty = (w : World Held) (ss : List (Step Kind)) (actor : ℕ) → ∥ Reachable w ∥₁ → Legal mmu w ss → actor < length w.hands
    → (topics_in w actor).stay ≡ Outside → (topics_in (run mmu w ss) actor).stay ≢ Outside → BeganEmpty w actor ss
