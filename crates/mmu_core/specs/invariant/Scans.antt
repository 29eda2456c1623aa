-- What a claim has seen of the map of what is free, in every list of steps.
use Rattle.std.specs.Prelude.{◌≡◌, ◌<◌, ◌⊎◌, ℕ, List, [], ◌∷◌, ◌++◌, All, None}
use Rattle.core_views.specs.declared.kind.Kind.{Kind}
use Rattle.core_views.specs.declared.kind.StepKind.TheVariants as kind
use Rattle.core_views.specs.declared.place.Place.TheVariants.{Between}
use Rattle.core_views.specs.declared.sizes.Sizes.{Sizes}
use Rattle.core_views.specs.declared.trace.Line.{Line}
use Rattle.core_views.specs.Held.{Held}
use Rattle.core_views.specs.Kinds.{code_of}
use Rattle.core_views.specs.Sizes.{actors_of}
use Rattle.core_views.specs.declared.topics.Topics.{Topics}
use Rattle.spte_words.specs.Areas.{place}
use Rattle.mmu_core.specs.orders.ClaimSteps.{FreeMap, Pages, Frames, claim_over, map_area, map_words}
use Rattle.mmu_core.specs.lines.ScanPlaces.{answer_without}
use Rattle.mmu_core.specs.declared.outcome.Outcome.TheVariants.{Ends}
use Rattle.mmu_core.specs.machine.Enabled.{mmu}
use Rattle.mmu_core.specs.invariant.Laws.{IsSound}
use Rattle.mmu_core.specs.machine.Machine.{Legal, Step, World, answered, effect, hand_in, run}
use Rattle.part_steps.specs.Tasks.{map_of}
use Rattle.mmu_core.specs.machine.Turns.{outcome_of}
use Rattle.mmu_core.specs.machine.Worlds.{IsStart}

-- The step is this actor's load of this word of the map.
pub record LoadsMap (z : Sizes) (map : FreeMap) (actor word : ℕ) (s : Step Kind) : Type 0 where
  pub by_actor : s.actor ≡ actor
  pub loads : s.kind.code ≡ code_of kind.Control
  pub at : s.kind.word ≡ place (map_of z) (map_area map) word

-- The actor owns no page, or no frame.
abbrev pub OwnsNone : FreeMap → Topics → Type 0
OwnsNone Pages t = t.owned ≡ None
OwnsNone Frames t = t.frames.owned ≡ None

-- The step is this load, made in this world, and finds the word 0: nothing is free in it. The actor owns none of them then.
pub record FindsNoneFree (z : Sizes) (map : FreeMap) (actor word : ℕ) (w : World Held) (s : Step Kind) : Type 0 where
  pub load : LoadsMap z map actor word s
  pub none_free : answered mmu w s.kind ≡ 0
  pub owns_none : OwnsNone map (hand_in mmu w actor).topics

-- One of the steps, made from this world on, is this actor's load of this word of the map, and finds nothing free in it.
abbrev pub SawNoneFree : Sizes → FreeMap → ℕ → ℕ → World Held → List (Step Kind) → Type 0
SawNoneFree z map actor word w [] = ⊥
SawNoneFree z map actor word w (s ∷ ss) = FindsNoneFree z map actor word w s ⊎ SawNoneFree z map actor word (effect mmu w s) ss

-- The steps end with a scan by the actor: it begins with the actor's latest load of word 0 of the map, and from there on each word before
-- this one was loaded by the actor, which owned no page or frame of it, and found 0.
pub record EndsWithScan (z : Sizes) (map : FreeMap) (actor at : ℕ) (w : World Held) (ss : List (Step Kind)) : Type 0 where
  pub earlier : List (Step Kind)
  pub first : Step Kind
  pub later : List (Step Kind)
  pub are : ss ≡ earlier ++ first ∷ later
  pub begins : LoadsMap z map actor 0 first
  pub latest : All (λ s. LoadsMap z map actor 0 s → ⊥) later
  pub each : (word : ℕ) → word < at → SawNoneFree z map actor word (run mmu w earlier) (first ∷ later)

-- In every list of steps from every start: a claim that has come to a word of the map has seen each word before it with nothing free.
-- One that is over with none free has come after the last word, and so has seen each.
abbrev pub ClaimsSeeEachWord : Type 0
ClaimsSeeEachWord =
    (z : Sizes) (lines : List Line) (w : World Held) (ss : List (Step Kind)) → IsStart z lines w → Legal mmu w ss → (map : FreeMap) (actor : ℕ)
    → actor < actors_of z → (word : ℕ) → word < (claim_over map (hand_in mmu (run mmu w ss) actor).topics).at → SawNoneFree z map actor word w ss

-- All of this it has seen since it began at word 0.
abbrev pub ClaimsScanOnce : Type 0
ClaimsScanOnce =
    (z : Sizes) (lines : List Line) (w : World Held) (ss : List (Step Kind)) → IsStart z lines w → Legal mmu w ss → (map : FreeMap) (actor : ℕ)
    → actor < actors_of z → 0 < (claim_over map (hand_in mmu (run mmu w ss) actor).topics).at
    → EndsWithScan z map actor (claim_over map (hand_in mmu (run mmu w ss) actor).topics).at w ss

-- From every sound world in which no line of the actor is under way, whatever steps of whatever actors follow: where the last of them
-- answers the actor's line starved, or refuses it a frame, they end with a scan of the whole map by the actor. So the line's own claim found each word of it 0.
abbrev pub StarvedLinesScan : Type 0
StarvedLinesScan =
    (z : Sizes) (map : FreeMap) (w : World Held) (ss : List (Step Kind)) (s : Step Kind) → IsSound z w → Legal mmu w (ss ++ s ∷ [])
    → (hand_in mmu w s.actor).state.place ≡ Between
    → outcome_of (hand_in mmu (run mmu w ss) s.actor) (answered mmu (run mmu w ss) s.kind) ≡ Ends (answer_without map)
    → EndsWithScan z map s.actor (map_words map z) w (ss ++ s ∷ [])
