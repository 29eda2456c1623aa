-- What is said of the guest frames of leaves that allow writes is so after each step, if it is so of the leaf that it puts: below each table below which leaves
-- are those that slots and host give; and below the root, in each account of the tables.
use Rattle.std.proofs.Common.{◌≡◌, ◌-◌, ◌∙◌, ap, refl, subst, sym, ℕ}
use Rattle.std.specs.Prelude.{true}
use Rattle.core_views.specs.declared.sizes.Sizes.{Sizes}
use Rattle.core_views.specs.declared.topics.Topics.{Topics}
use Rattle.core_views.specs.declared.trace.Op.{Op}
use Rattle.core_views.specs.declared.trace.Op.TheVariants.{Read}
use Rattle.spte_words.proofs.ChildEntries.{child_can_write}
use Rattle.spte_words.proofs.ProtectedEntries.{protected_denies}
use Rattle.spte_words.proofs.ReadsEntries.{kind_of_absent, kind_of_table}
use Rattle.spte_words.specs.Entries.{can_write}
use Rattle.spte_words.specs.declared.area.Area.{Area}
use Rattle.spte_words.specs.declared.area.Area.TheVariants as area
use Rattle.part_steps.specs.PartTasks.{entry_index, leaf_fixed, leaf_written}
use Rattle.part_steps.specs.declared.part_step.PartStep.{PartStep}
use Rattle.part_steps.specs.declared.part_step.PartStep.TheVariants as part
use Rattle.mmu_core.proofs.machine.PartStepping.{IsPart}
use Rattle.mmu_core.proofs.pages.AllOver.{IsInherited, IsLight, over_weaker}
use Rattle.mmu_core.proofs.pages.LeavesOver.{leaves_light, new_leaf}
use Rattle.mmu_core.proofs.pages.OverSteps.{OfNewLeaf, over_step}
use Rattle.mmu_core.proofs.pages.SplitLeaves.{leaves_inherited}
use Rattle.mmu_core.proofs.pages.Standing.{entry_now, spot_after, up_after}
use Rattle.mmu_core.proofs.pages.TreeKept.{tree_kept}
use Rattle.mmu_core.proofs.words.PartWords.{areas_stay}
use Rattle.mmu_core.specs.invariant.AllOver.{AllOver, LeafIsFor}
use Rattle.mmu_core.specs.invariant.CachedPart.{IsLeafFor}
use Rattle.mmu_core.specs.invariant.RunsPart.{IsInRun}
use Rattle.mmu_core.specs.invariant.TopicsInvariant.{TopicsInvariant}
use Rattle.mmu_core.specs.invariant.TreePart.{Position, TreePart, Use, is_table}
use Rattle.mmu_core.specs.forms.access.AccessSteps.{touch_of}
use Rattle.mmu_core.specs.machine.View.{View, part_stepped, words_after}
use Rattle.log_invariant.proofs.Accounts.{all_accounts}
use Rattle.log_invariant.specs.LogInvariant.{LeafIsGuarded}

-- It says nothing of what is no leaf.
guarded_light : (IsSo : ℕ → Type 0) → IsLight (LeafIsGuarded IsSo)
guarded_light IsSo = record {
  absent = λ level gfn leaf. absurd (let none = kind_of_absent level in cc (none, leaf));
  link = λ level gfn page upper small leaf. absurd (let links = kind_of_table level page upper small in cc (links, leaf));
}

-- A child allows writes where its leaf does.
pub guarded_inherited : (IsSo : ℕ → Type 0) → IsInherited (LeafIsGuarded IsSo)
guarded_inherited IsSo level gfn leaf upper most is so child writes = so is (sym (child_can_write level leaf (entry_index gfn (level - 1))) ∙ writes)

-- ---- below a table

-- What is owed of a leaf that allows writes and is put by an exchange that is won: of each guest frame that it is over; where it was there without the write
-- permission, slots and host gave it.
abbrev pub OfNewWrites : PartStep → Topics → View → (ℕ → Type 0) → Type 0
OfNewWrites (part.Leaf gfn write) t v IsSo =
    entry_now gfn t v ≡ t.walk.entry → can_write (leaf_written gfn write t) ≡ true → (other : ℕ) → IsInRun t.walk.level gfn other → IsSo other
OfNewWrites (part.Fix gfn) t v IsSo =
    entry_now gfn t v ≡ t.walk.entry → can_write (leaf_fixed t) ≡ true → (other : ℕ) → IsInRun t.walk.level gfn other
    → IsLeafFor (v.words area.Pool) (v.words area.Host) (v.words area.Slots 0) t.walk.level other t.walk.entry → IsSo other
OfNewWrites _ t v IsSo = Unit {0}

-- An entry that is a leaf is the one that slots and host give, and it is said of its guest frame if it allows writes.
abbrev pub GivenAndGuarded : View → (ℕ → Type 0) → ℕ → ℕ → ℕ → Type 0
GivenAndGuarded v IsSo level gfn w =
    LeafIsFor (v.words area.Pool) (v.words area.Host) (v.words area.Slots 0) level gfn w × LeafIsGuarded IsSo level gfn w

given_light : (v : View) (IsSo : ℕ → Type 0) → IsLight (GivenAndGuarded v IsSo)
given_light v IsSo =
    let given : IsLight (LeafIsFor (v.words area.Pool) (v.words area.Host) (v.words area.Slots 0)) =
    leaves_light (v.words area.Pool) (v.words area.Host) (v.words area.Slots 0) in
    let guarded : IsLight (LeafIsGuarded IsSo) = guarded_light IsSo in
    record {
      absent = λ level gfn. (given.absent level gfn, guarded.absent level gfn);
      link = λ level gfn page upper small. (given.link level gfn page upper small, guarded.link level gfn page upper small);
    }

given_inherited : (v : View) (IsSo : ℕ → Type 0) → IsInherited (GivenAndGuarded v IsSo)
given_inherited v IsSo level gfn leaf upper most is so = (
  leaves_inherited (v.words area.Pool) (v.words area.Host) (v.words area.Slots 0) level gfn leaf upper most is so.0,
  guarded_inherited IsSo level gfn leaf upper most is so.1,
)

-- So it is of the leaf that is put, or left.
new_given : (z : Sizes) (v : View) (a : ℕ) (step : PartStep) → IsPart z v a step → TopicsInvariant z v → (IsSo : ℕ → Type 0)
    → OfNewWrites step (v.hand a).topics v IsSo → OfNewLeaf step (v.hand a).topics v (GivenAndGuarded v IsSo)
new_given z v a (part.Leaf gfn write) S P IsSo new_ = λ won other over.
    (new_leaf z v a (part.Leaf gfn write) S P won other over, λ leaf writes. new_ won writes other over)
new_given z v a (part.Fix gfn) S P IsSo new_ = λ won other over was.
    (new_leaf z v a (part.Fix gfn) S P won other over was.0, λ leaf writes. new_ won writes other over (was.0 S.needs.leaf))
new_given z v a (part.Protect gfn) S P IsSo new_ = λ found other leaf was.
    (new_leaf z v a (part.Protect gfn) S P found other leaf was.0, λ left writes. absurd (let denies = protected_denies found in cc (denies, writes)))
new_given z v a _ S P IsSo new_ = tt

-- And of all below a table, after the step of a part.
pub given_step : (z : Sizes) (v : View) (a : ℕ) (step : PartStep) (note : ℕ) → IsPart z v a step → (P : TopicsInvariant z v) → (IsSo : ℕ → Type 0)
    → OfNewWrites step (v.hand a).topics v IsSo → (m : ℕ) → is_table (P.up m) ≡ true
    → AllOver P.up P.spot (v.words area.Pool) m (GivenAndGuarded v IsSo)
    → AllOver (up_after step a (v.hand a).topics v P.up) (spot_after step (v.hand a).topics v P.spot) ((part_stepped a step note v).words area.Pool) m
    (GivenAndGuarded v IsSo)
given_step z v a step note S P IsSo new_ m table =
    over_step z v a step note S P m (GivenAndGuarded v IsSo) table (given_light v IsSo) (given_inherited v IsSo) (new_given z v a step S P IsSo new_)

-- ---- below the root

-- It is said of each leaf that allows writes, of these words.
abbrev pub LeavesAre : Sizes → (Area → ℕ → ℕ) → (ℕ → Type 0) → Type 0
LeavesAre z words IsSo =
    (up : ℕ → Use) (spot : ℕ → Position) → TreePart z.pool (words area.Root 0) (words area.Role) (words area.Pool) up spot
    → AllOver up spot (words area.Pool) (words area.Root 0) (LeafIsGuarded IsSo)

pub leaves_weaker : (z : Sizes) (words : Area → ℕ → ℕ) (IsSo IsThen : ℕ → Type 0) → ((gfn : ℕ) → IsSo gfn → IsThen gfn) → LeavesAre z words IsSo
    → LeavesAre z words IsThen
leaves_weaker z words IsSo IsThen weaker A up spot T =
    over_weaker up spot (words area.Pool) (words area.Root 0) (LeafIsGuarded IsSo) (LeafIsGuarded IsThen)
    (λ level gfn word so leaf writes. weaker gfn (so leaf writes)) (A up spot T)

-- So it is after the step of a part.
pub part_leaves : (z : Sizes) (v : View) (a : ℕ) (step : PartStep) (note : ℕ) → IsPart z v a step → TopicsInvariant z v → (IsSo : ℕ → Type 0)
    → OfNewWrites step (v.hand a).topics v IsSo → LeavesAre z v.words IsSo → LeavesAre z (part_stepped a step note v).words IsSo
part_leaves z v a step note S P IsSo new_ A up spot T =
    all_accounts (tree_kept z v a step note S P) T (LeafIsGuarded IsSo)
    (subst (λ (r : ℕ → ℕ). AllOver (up_after step a (v.hand a).topics v P.up) (spot_after step (v.hand a).topics v P.spot)
    ((part_stepped a step note v).words area.Pool) (r 0) (LeafIsGuarded IsSo)) (sym (areas_stay v a step note area.Root refl))
    (over_weaker (up_after step a (v.hand a).topics v P.up) (spot_after step (v.hand a).topics v P.spot) ((part_stepped a step note v).words area.Pool)
    (v.words area.Root 0) (GivenAndGuarded v IsSo) (LeafIsGuarded IsSo) (λ level gfn word so. so.1)
    (given_step z v a step note S P IsSo new_ (v.words area.Root 0) (ap is_table P.tree.top)
    (λ table entry gfn R O. (P.leaves table entry gfn R O, A P.up P.spot P.tree table entry gfn R O)))))

-- A touch leaves the tables.
pub touch_leaves : (z : Sizes) (words : Area → ℕ → ℕ) (op : Op) (index : ℕ) (IsSo : ℕ → Type 0) → LeavesAre z words IsSo
    → LeavesAre z (words_after (touch_of op index) words) IsSo
touch_leaves z words Read index IsSo A = A
touch_leaves z words _ index IsSo A = A
