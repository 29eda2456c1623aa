-- What actors hold of pool pages after a run: nothing that is free, no slot set that was taken out of use by an actor whose watch has
-- passed them since, and nothing that another actor takes or gives back.
use Rattle.std.specs.Prelude.{◌≡◌, ◌≢◌, ◌⊎◌, ◌<◌, ℕ, List, [], ◌∷◌, ◌++◌, false, true, Some}
use Rattle.core_views.specs.declared.answer.Answer.{Answer}
use Rattle.core_views.specs.declared.kind.Kind.{Kind}
use Rattle.core_views.specs.declared.kind.StepKind.TheVariants as kind
use Rattle.core_views.specs.declared.sizes.Sizes.{Sizes}
use Rattle.core_views.specs.declared.topics.OwnedPage.{OwnedPage}
use Rattle.core_views.specs.declared.topics.Topics.{Topics}
use Rattle.core_views.specs.declared.trace.Line.{Line}
use Rattle.core_views.specs.Held.{Held}
use Rattle.core_views.specs.Kinds.{code_of}
use Rattle.core_views.specs.Sizes.{actors_of}
use Rattle.spte_words.specs.declared.area.Area.TheVariants as area
use Rattle.mmu_core.specs.declared.outcome.Outcome.TheVariants.{Ends}
use Rattle.mmu_core.specs.machine.Enabled.{mmu}
use Rattle.mmu_core.specs.machine.Machine.{Step, World, answered, effect, hand_in, run}
use Rattle.mmu_core.specs.alone.OthersRest.{HoldsNothing}
use Rattle.mmu_core.specs.invariant.PoolPart.{is_free}
use Rattle.mmu_core.specs.machine.Steps.{has_line}
use Rattle.mmu_core.specs.machine.Turns.{outcome_of}
use Rattle.mmu_core.specs.machine.View.{word_in}
use Rattle.mmu_core.specs.invariant.HeldPart.{SetsPart}
use Rattle.core_theorem.specs.Pages.{Owns}
use Rattle.core_theorem.specs.Runs.{AfterEveryRun, IsRun}
use Rattle.core_theorem.specs.Walks.{HoldsAt, table_at}

-- What is so of each page that an actor holds: of the tables that its walk has gone through and the one that it has come to, of the slot
-- set that it searches, and of the page that it owns.
pub record OfEachHeld (IsSo : ℕ → Type 0) (t : Topics) : Type 0 where
  pub tables : (level : ℕ) → HoldsAt level t.walk → IsSo (table_at level t.walk)
  pub set : (page : ℕ) → t.search.set ≡ Some page → IsSo page
  pub owned : (o : OwnedPage) → t.owned ≡ Some o → IsSo o.page

-- No page that an actor holds is free.
abbrev pub NoneHoldsFreePages : Type 0
NoneHoldsFreePages = AfterEveryRun (λ z w.
    (actor : ℕ) → actor < actors_of z
    → OfEachHeld (λ page. is_free (word_in z w area.PoolMap) page ≡ false) (hand_in mmu w actor).topics)

-- The slot set that an actor holds is the published one; or it is an old one, which the actor holds in a section, and which is retired by
-- another actor, whose watch hasn't passed this one since.
abbrev pub HeldSetsAreKnown : Type 0
HeldSetsAreKnown = AfterEveryRun (λ z w. SetsPart (actors_of z) (word_in z w area.Slots 0) (λ i. (hand_in mmu w i).topics))

-- So whom a watch has passed holds no slot set that the watcher has taken out of use.
abbrev pub WatchedHoldNoOldSet : Type 0
WatchedHoldNoOldSet = AfterEveryRun (λ z w.
    (watcher other page : ℕ) → watcher < actors_of z
    → other < actors_of z
    → (hand_in mmu w watcher).topics.retired ≡ Some page → other < (hand_in mmu w watcher).topics.watched
    → (hand_in mmu w other).topics.search.set ≢ Some page)

-- The step, made in this world, is a claim that wins this page.
pub record Wins (page : ℕ) (w : World Held) (s : Step Kind) : Type 0 where
  pub claims : s.kind.code ≡ code_of kind.Claim
  pub owns : Owns page (hand_in mmu (effect mmu w s) s.actor)

-- It gives this page back to the pool: one that its actor owns, or the old slot set that is retired by it.
pub record GivesBack (page : ℕ) (w : World Held) (s : Step Kind) : Type 0 where
  pub gives : s.kind.code ≡ code_of kind.Give
  pub had : Owns page (hand_in mmu w s.actor) ⊎ ((hand_in mmu w s.actor).topics.retired ≡ Some page)

-- No other actor holds this page.
abbrev pub NoOtherHolds : Sizes → ℕ → ℕ → World Held → Type 0
NoOtherHolds z actor page w = (other : ℕ) → other < actors_of z → other ≢ actor → OfEachHeld (λ held. held ≢ page) (hand_in mmu w other).topics

-- Where a page is claimed from the pool, and where it is given back, no other actor holds it.
abbrev pub PagesAreReusedAlone : Type 0
PagesAreReusedAlone =
    (z : Sizes) (lines : List Line) (w : World Held) (ss : List (Step Kind)) (s : Step Kind) → IsRun z lines w (ss ++ s ∷ []) → (page : ℕ)
    → (Wins page (run mmu w ss) s → NoOtherHolds z s.actor page (run mmu w ss))
    × (GivesBack page (run mmu w ss) s → NoOtherHolds z s.actor page (run mmu w ss))

-- Where an old slot set is given back to the pool, the role word of its page is 0.
abbrev pub ReturnedSetsAreCleared : Type 0
ReturnedSetsAreCleared =
    (z : Sizes) (lines : List Line) (w : World Held) (ss : List (Step Kind)) (s : Step Kind) → IsRun z lines w (ss ++ s ∷ []) → (page : ℕ)
    → GivesBack page (run mmu w ss) s → (hand_in mmu (run mmu w ss) s.actor).topics.retired ≡ Some page → word_in z (run mmu w ss) area.Role page ≡ 0

-- Where a step answers a line, also its actor's last one, the actor holds nothing after it: it is out of the guest and of every section,
-- has no lock, no page, no frame and no slot set, no page is retired by it, and no invalidation of its own is open.
abbrev pub AnsweredLinesRest : Type 0
AnsweredLinesRest =
    (z : Sizes) (lines : List Line) (w : World Held) (ss : List (Step Kind)) (s : Step Kind) (answer : Answer) → IsRun z lines w (ss ++ s ∷ [])
    → has_line (hand_in mmu (run mmu w ss) s.actor) ≡ true
    → outcome_of (hand_in mmu (run mmu w ss) s.actor) (answered mmu (run mmu w ss) s.kind) ≡ Ends answer
    → HoldsNothing (hand_in mmu (effect mmu (run mmu w ss) s) s.actor).topics
