-- What a fast fault has done which ends with its write allowed: in the section that it is about to end its own exchange has allowed writes in the very word
-- that it had read, and where its slot has a dirty log it has marked the page; and what another one has seen (locking.rst, "Fast page fault").
use Rattle.std.specs.Prelude.{◌≡◌, ◌⊎◌, ◌<◌, ℕ, Bool, Some, true}
use Rattle.core_views.specs.declared.kind.Kind.{Kind}
use Rattle.core_views.specs.declared.kind.StepKind.TheVariants as kind
use Rattle.core_views.specs.declared.place.AccessPlace.TheVariants.{Fault}
use Rattle.core_views.specs.declared.place.FaultEnd.TheVariants.{Fixed, NotFast}
use Rattle.core_views.specs.declared.place.FaultPlace.TheVariants.{End}
use Rattle.core_views.specs.declared.place.Place.TheVariants as place
use Rattle.core_views.specs.declared.sizes.Sizes.{Sizes}
use Rattle.core_views.specs.declared.topics.SlotSearch.{SlotSearch}
use Rattle.core_views.specs.declared.topics.TableWalk.{TableWalk}
use Rattle.core_views.specs.declared.trace.Command.TheVariants.{Access}
use Rattle.core_views.specs.declared.trace.Op.{Op}
use Rattle.core_views.specs.Held.{Held}
use Rattle.core_views.specs.Kinds.{code_of}
use Rattle.core_views.specs.Sizes.{actors_of}
use Rattle.core_views.specs.Slots.{contains}
use Rattle.spte_words.specs.declared.spte_kind.SpteKind.TheVariants.{Leaf}
use Rattle.spte_words.specs.Entries.{kind_of, with_write}
use Rattle.part_steps.specs.PartHoldings.{SawEntry, is_fixable}
use Rattle.mmu_core.specs.forms.access.FaultSteps.{entry_word}
use Rattle.mmu_core.specs.machine.Enabled.{mmu}
use Rattle.mmu_core.specs.machine.Machine.{Step, World, hand_in, run}
use Rattle.mmu_laws.specs.causes.Causes.{Finds, HasMade, Leaves, StaysInSection}
use Rattle.core_theorem.specs.Runs.{AfterEveryRun, InEveryRun}

-- what the actor's walk has come to in this world
abbrev pub walk_in : World Held → ℕ → TableWalk
walk_in w actor = (hand_in mmu w actor).topics.walk

-- The leaf to which the walk has come isn't a large one in a slot with a dirty log, by what the search has loaded of the slot.
abbrev pub IsToldByOneMark : SlotSearch → TableWalk → Type 0
IsToldByOneMark search walk = search.logged ≡ true → walk.level ≡ 1

-- The step, made in this world, is this actor's exchange of the guest frame's entry to which its walk has come. It finds what the walk has loaded there, a leaf
-- that forbids nothing but the write, and no large one in a slot with a dirty log; and it leaves this leaf with write permission.
pub record AllowsWrite (z : Sizes) (actor gfn : ℕ) (w : World Held) (s : Step Kind) : Type 0 where
  pub exchanges : s.kind.code ≡ code_of kind.Swap
  pub is_entry : SawEntry gfn (walk_in w actor)
  pub told : IsToldByOneMark (hand_in mmu w actor).topics.search (walk_in w actor)
  pub forbids : is_fixable (walk_in w actor).entry ≡ true
  pub finds : Finds actor (entry_word z gfn (walk_in w actor)) (walk_in w actor).entry w s
  pub leaves : Leaves actor (entry_word z gfn (walk_in w actor)) (with_write (walk_in w actor).entry) w s

-- The step is this actor's mark of the guest frame's page, which it owes.
pub record MarksFrame (actor gfn : ℕ) (w : World Held) (s : Step Kind) : Type 0 where
  pub by_actor : s.actor ≡ actor
  pub marks : s.kind.code ≡ code_of kind.Mark
  pub owed : (hand_in mmu w actor).topics.owed ≡ Some gfn

-- Where a fault is about to end its section with its write allowed, and the page marked or not, its actor has allowed it in this very section, and marked it.
abbrev pub FixedFaultsHaveAllowed : Type 0
FixedFaultsHaveAllowed = InEveryRun (λ z w ss.
    (actor : ℕ) → actor < actors_of z
    → (gfn word : ℕ) (op : Op) (marked : Bool) → (hand_in mmu (run mmu w ss) actor).state.place ≡ place.Access (Fault (End (Fixed marked)))
    → (hand_in mmu (run mmu w ss) actor).state.line.command ≡ Access gfn word op
    → HasMade (AllowsWrite z actor gfn) (StaysInSection actor) w ss × (marked ≡ true → HasMade (MarksFrame actor gfn) (StaysInSection actor) w ss))

-- The search has come after the last slot, and the slot that it has loaded last isn't the guest frame's either.
pub record IsSearchedInVain (gfn : ℕ) (search : SlotSearch) : Type 0 where
  pub over : search.id ≡ 32
  pub not_found : search.whole ≡ true → contains gfn search.slot ≡ true → ⊥

-- The walk has loaded this word as the guest frame's entry, and it is no leaf that forbids nothing but the write, or a large one in a slot with a dirty log.
pub record SawNothingToAllow (entry gfn : ℕ) (search : SlotSearch) (walk : TableWalk) : Type 0 where
  pub is_entry : SawEntry gfn walk
  pub loaded : walk.entry ≡ entry
  pub stays : kind_of walk.level entry ≡ Leaf → IsToldByOneMark search walk → is_fixable entry ≡ true → ⊥

-- Where a fast fault is about to give up, its search of the slots was in vain, and the word that it tells is 0; or this word is the guest
-- frame's entry, in which a fast fault can't allow the write.
abbrev pub OtherFastFaultsSawWhy : Type 0
OtherFastFaultsSawWhy = AfterEveryRun (λ z w.
    (actor : ℕ) → actor < actors_of z
    → (gfn word : ℕ) (op : Op) (entry : ℕ) → (hand_in mmu w actor).state.place ≡ place.Access (Fault (End (NotFast entry)))
    → (hand_in mmu w actor).state.line.command ≡ Access gfn word op
    → ((entry ≡ 0) × IsSearchedInVain gfn (hand_in mmu w actor).topics.search)
    ⊎ SawNothingToAllow entry gfn (hand_in mmu w actor).topics.search (walk_in w actor))
