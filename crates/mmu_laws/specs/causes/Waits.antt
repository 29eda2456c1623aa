-- Which steps of the parts wait for another actor, and why, in every list of steps: what the step finds, or what its actor found before it, since
-- any world in which it had seen nothing that a step waits for.
pub use Rattle.mmu_laws.specs.causes.FindsOthers.{FindsLockTaken, FindsOtherInside, FindsToFlush, lock_word}
use Rattle.std.specs.Prelude.{◌≡◌, ◌≢◌, ◌<◌, ℕ, true, false, List, [], ◌∷◌, ◌++◌, length}
use Rattle.core_views.specs.declared.kind.Kind.{Kind}
use Rattle.core_views.specs.declared.kind.StepKind.TheVariants as kind
use Rattle.core_views.specs.declared.place.Place.TheVariants.{Between}
use Rattle.core_views.specs.declared.sizes.Sizes.{Sizes}
use Rattle.core_views.specs.declared.topics.Hold.{Hold}
use Rattle.core_views.specs.declared.topics.Hold.TheVariants.{Exclusive}
use Rattle.core_views.specs.declared.topics.Invalidations.{Invalidations}
use Rattle.core_views.specs.declared.topics.MapClaim.{MapClaim}
use Rattle.core_views.specs.declared.topics.Topics.{Topics}
use Rattle.core_views.specs.declared.trace.Line.{Line}
use Rattle.core_views.specs.Held.{Held}
use Rattle.core_views.specs.Kinds.{code_of}
use Rattle.core_views.specs.Sizes.{actors_of}
use Rattle.spte_words.specs.declared.area.Area.TheVariants as area
use Rattle.spte_words.specs.Areas.{place}
use Rattle.spte_words.specs.Bits.{has_bit}
use Rattle.part_steps.specs.declared.part_step.PartStep.{PartStep}
use Rattle.part_steps.specs.declared.part_step.PartStep.TheVariants as part
use Rattle.part_steps.specs.SetHoldings.{own_open}
use Rattle.part_steps.specs.PartTasks.{part_kind}
use Rattle.part_steps.specs.PartSteps.{PartNeeds}
use Rattle.part_steps.specs.Tasks.{map_of}
use Rattle.part_steps.specs.PageTopics.{tried_bit}
use Rattle.part_steps.specs.ControlBits.{has_writer}
use Rattle.mmu_laws.specs.causes.Causes.{Finds, HasMade, WasChanged}
use Rattle.mmu_core.specs.declared.claim.FreeMap.{FreeMap}
use Rattle.mmu_core.specs.declared.claim.FreeMap.TheVariants.{Frames, Pages}
use Rattle.mmu_core.specs.orders.ClaimSteps.{claim_over, map_area}
use Rattle.mmu_core.specs.machine.Enabled.{mmu}
use Rattle.mmu_core.specs.invariant.Laws.{IsSound}
use Rattle.mmu_core.specs.machine.Machine.{Legal, Step, World, answered, hand_in, run}
use Rattle.mmu_core.specs.lines.PartWaits.{is_owing, part_waits, saw_open, word_owed}
use Rattle.mmu_core.specs.machine.Steps.{has_line}
use Rattle.mmu_core.specs.machine.Worlds.{IsStart, Reachable}

-- the other words that steps wait at: that of the open invalidations' count, and word i of a map of what is free
abbrev pub count_word : Sizes → ℕ
count_word z = place (map_of z) area.Count 0

abbrev pub word_of_map : Sizes → FreeMap → ℕ → ℕ
word_of_map z map i = place (map_of z) (map_area map) i

-- The step is none of this actor's on this word.
abbrev pub IsOffWord : ℕ → ℕ → Step Kind → Type 0
IsOffWord actor word s = s.actor ≡ actor → s.kind.word ≢ word

-- It is this actor's try to share the lock, and finds a writer in this word of the lock: in this world another actor of the machine has the
-- lock alone.
pub record FindsWriter (z : Sizes) (actor word : ℕ) (w : World Held) (s : Step Kind) : Type 0 where
  pub shares : s.kind.code ≡ code_of kind.Share
  pub finds : Finds actor (lock_word z) word w s
  pub tells : has_writer word ≡ true
  pub other : ℕ
  pub there : other < actors_of z
  pub is_other : other ≢ actor
  pub alone : (hand_in mmu w other).topics.hold ≡ Exclusive

-- With its last step on the lock the actor tried to share it, and found a writer in this word of it.
abbrev pub FoundWriter : Sizes → ℕ → ℕ → World Held → List (Step Kind) → Type 0
FoundWriter z actor word w ss = HasMade (FindsWriter z actor word) (IsOffWord actor (lock_word z)) w ss

-- It is this actor's load of the count of open invalidations, and finds this number. In this world the actor has this hold on the lock.
pub record LoadsCount (z : Sizes) (actor : ℕ) (hold : Hold) (count : ℕ) (w : World Held) (s : Step Kind) : Type 0 where
  pub loads : s.kind.code ≡ code_of kind.Control
  pub finds : Finds actor (count_word z) count w s
  pub under : (hand_in mmu w actor).topics.hold ≡ hold

-- The step is none of this actor's on the lock, and none on the count.
abbrev pub IsOffLockAndCount : Sizes → ℕ → Step Kind → Type 0
IsOffLockAndCount z actor s = IsOffWord actor (lock_word z) s × IsOffWord actor (count_word z) s

-- The actor found this number under the lock that it still has: it loaded the count with this hold on the lock, and made no step on the lock or on the
-- count since.
abbrev pub FoundCount : Sizes → ℕ → Hold → ℕ → World Held → List (Step Kind) → Type 0
FoundCount z actor hold count w ss = HasMade (LoadsCount z actor hold count) (IsOffLockAndCount z actor) w ss

-- The page or frame that the actor's claim tries was free where its last step on this word of the map found it, another actor's step changed the word
-- since, and it isn't free now, where v is found.
abbrev pub IsTaken : Sizes → FreeMap → ℕ → MapClaim → ℕ → World Held → List (Step Kind) → Type 0
IsTaken z map actor claim v w ss =
    WasChanged (IsOffWord actor (word_of_map z map claim.at)) actor (word_of_map z map claim.at) claim.seen w ss
    × (has_bit (tried_bit claim) claim.seen ≡ true)
    × (has_bit (tried_bit claim) v ≡ false)

-- More invalidations are open than the actor's own, as it has counted them.
abbrev pub HasOthersOpen : Invalidations → Type 0
HasOthersOpen n = own_open n < n.count

-- Why a step of a part waits, that is made after these steps: its actor found a writer with the try for the lock that it takes back; the page or frame
-- that it tries was taken; it finds the lock taken; it gives the lock back, under which its actor found invalidations of others open; it finds another actor in
-- the guest or in a section; or it finds a virtual processor that has yet to flush.
abbrev pub StepWaitIsCaused : PartStep → Sizes → World Held → List (Step Kind) → Step Kind → Type 0
StepWaitIsCaused part.Unshare z w ss s = FoundWriter z s.actor (word_owed (hand_in mmu (run mmu w ss) s.actor).topics.hold) w ss
StepWaitIsCaused part.Claim z w ss s =
    IsTaken z Pages s.actor (hand_in mmu (run mmu w ss) s.actor).topics.claim (answered mmu (run mmu w ss) s.kind) w ss
StepWaitIsCaused part.Frame z w ss s =
    IsTaken z Frames s.actor (hand_in mmu (run mmu w ss) s.actor).topics.frames.claim (answered mmu (run mmu w ss) s.kind) w ss
StepWaitIsCaused part.Exclude z w ss s = FindsLockTaken z (run mmu w ss) s
StepWaitIsCaused part.Release z w ss s =
    FoundCount z s.actor Exclusive (hand_in mmu (run mmu w ss) s.actor).topics.invalidations.count w ss
    × HasOthersOpen (hand_in mmu (run mmu w ss) s.actor).topics.invalidations
StepWaitIsCaused (part.Watch index) z w ss s = FindsOtherInside z (run mmu w ss) s
StepWaitIsCaused (part.Await index) z w ss s = FindsToFlush z (run mmu w ss) s
StepWaitIsCaused _ z w ss s = ⊥

-- The actor has seen nothing that a step waits for: it owes the lock no reader, it saw no invalidation of others open under the lock, and its claims have seen
-- nothing free.
pub record SawNothing (t : Topics) : Type 0 where
  pub owes : is_owing t.hold ≡ false
  pub closed : saw_open t.invalidations ≡ false
  pub claims : (map : FreeMap) → (claim_over map t).seen ≡ 0

-- From every sound world in which its actor has seen nothing that a step waits for: each step of a part that waits, whoever makes it, has its cause in the
-- steps since then, or in what another actor holds as it is made.
abbrev pub StepWaitsAreByCause : Type 0
StepWaitsAreByCause =
    (z : Sizes) (w : World Held) (ss : List (Step Kind)) (s : Step Kind) (step : PartStep) (note : ℕ)
    → IsSound z w → Legal mmu w (ss ++ s ∷ []) → SawNothing (hand_in mmu w s.actor).topics
    → s.kind ≡ part_kind (hand_in mmu (run mmu w ss) s.actor) step note → PartNeeds step (hand_in mmu (run mmu w ss) s.actor)
    → part_waits step (hand_in mmu (run mmu w ss) s.actor).topics (answered mmu (run mmu w ss) s.kind) ≡ true
    → StepWaitIsCaused step z w ss s

-- So it is with each actor at a start.
abbrev pub StartsSawNothing : Type 0
StartsSawNothing =
    (z : Sizes) (lines : List Line) (w : World Held) (actor : ℕ) → IsStart z lines w → actor < actors_of z → SawNothing (hand_in mmu w actor).topics

-- And with each actor that has a line left, while none of its lines is under way: so at the moment at which a line begins.
abbrev pub BetweenLinesSawNothing : Type 0
BetweenLinesSawNothing =
    (w : World Held) (actor : ℕ) → Reachable w → actor < length w.hands → has_line (hand_in mmu w actor) ≡ true → (hand_in mmu w actor).state.place ≡ Between
    → SawNothing (hand_in mmu w actor).topics
