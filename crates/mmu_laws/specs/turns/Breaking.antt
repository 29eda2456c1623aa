-- Which steps take entries of the tables away, and what such a step does.
use Rattle.std.specs.Prelude.{◌≡◌, ◌≢◌, ℕ, Bool, true, List, ◌∷◌, ◌++◌}
use Rattle.core_views.specs.declared.kind.Kind.{Kind}
use Rattle.core_views.specs.declared.kind.StepKind.{StepKind}
use Rattle.core_views.specs.declared.kind.StepKind.TheVariants as kind
use Rattle.core_views.specs.declared.sizes.Sizes.{Sizes}
use Rattle.core_views.specs.Held.{Held}
use Rattle.core_views.specs.Kinds.{after, kind_named}
use Rattle.spte_words.specs.declared.spte_kind.SpteKind.TheVariants.{Absent, Leaf}
use Rattle.spte_words.specs.Entries.{absent_word, can_write, kind_of, without_write}
use Rattle.mmu_core.specs.machine.Enabled.{mmu}
use Rattle.mmu_core.specs.invariant.Laws.{IsSound}
use Rattle.mmu_core.specs.machine.Machine.{May, Step, World, found, run}
use Rattle.mmu_laws.specs.causes.Causes.{IsEntryOf}

-- The step is on the word of an entry of the guest frame. It finds a leaf there, and leaves none.
pub record TakesLeaf (z : Sizes) (gfn : ℕ) (w : World Held) (s : Step Kind) : Type 0 where
  pub entry : IsEntryOf z gfn s.kind.word
  pub was : kind_of entry.level (found mmu w s.kind) ≡ Leaf
  pub is_gone : after s.kind (found mmu w s.kind) ≡ absent_word

-- It finds a leaf there that allows writes, and leaves the same one, which forbids them.
pub record ForbidsWrites (z : Sizes) (gfn : ℕ) (w : World Held) (s : Step Kind) : Type 0 where
  pub entry : IsEntryOf z gfn s.kind.word
  pub was : kind_of entry.level (found mmu w s.kind) ≡ Leaf
  pub allowed : can_write (found mmu w s.kind) ≡ true
  pub leaves : after s.kind (found mmu w s.kind) ≡ without_write (found mmu w s.kind)

-- A step of this kind takes from an access, which is a write or none, an entry of its guest frame. Two kinds do so: one zaps a leaf, and the other forbids
-- writes in one, which takes nothing from a reader. Another kind that freezes entries has a row here.
abbrev pub TakesAway : StepKind → Sizes → ℕ → Bool → World Held → Step Kind → Type 0
TakesAway kind.Zap z gfn write w s = TakesLeaf z gfn w s
TakesAway kind.Protect z gfn write w s = (write ≡ true) × ForbidsWrites z gfn w s
TakesAway _ z gfn write w s = ⊥

abbrev pub Breaks : Sizes → ℕ → Bool → World Held → Step Kind → Type 0
Breaks z gfn write w s = TakesAway (kind_named s.kind.code) z gfn write w s

-- The step is on the word of an entry of the guest frame. It finds an entry there that isn't absent, and leaves another number.
pub record ChangesEntry (z : Sizes) (gfn : ℕ) (w : World Held) (s : Step Kind) : Type 0 where
  pub entry : IsEntryOf z gfn s.kind.word
  pub is_there : kind_of entry.level (found mmu w s.kind) ≢ Absent
  pub changes : after s.kind (found mmu w s.kind) ≢ found mmu w s.kind

-- A step that may be made, and takes an entry of the guest frame away, changes such an entry.
abbrev pub BreakingChangesEntries : Type 0
BreakingChangesEntries =
    (z : Sizes) (gfn : ℕ) (write : Bool) (w : World Held) (s : Step Kind) → IsSound z w → May mmu w s → Breaks z gfn write w s → ChangesEntry z gfn w s

-- One of the steps, made from this world on, is such a step in its turn.
pub record WasBroken (IsSuch : World Held → Step Kind → Type 0) (w : World Held) (ss : List (Step Kind)) : Type 0 where
  pub earlier : List (Step Kind)
  pub breaks : Step Kind
  pub later : List (Step Kind)
  pub are : ss ≡ earlier ++ breaks ∷ later
  pub is : IsSuch (run mmu w earlier) breaks
