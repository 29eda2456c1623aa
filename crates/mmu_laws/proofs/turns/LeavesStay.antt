-- Where links lead from the root to a leaf, they lead to one that allows as much after each step that takes no entry away: an entry of a table that isn't
-- absent stays as it is, but that a leaf may allow writes from then on.
use Rattle.std.proofs.Common.{◌≡◌, ◌≢◌, ◌⊎◌, inl, inr, ℕ, refl, sym, subst, ap, arith}
use Rattle.std.specs.Prelude.{Bool, true, false, Option}
use Rattle.core_views.specs.declared.sizes.Sizes.{Sizes}
use Rattle.core_views.specs.declared.trace.Op.{Op}
use Rattle.core_views.specs.declared.trace.Op.TheVariants.{Read}
use Rattle.core_views.specs.Held.{Held}
use Rattle.spte_words.specs.declared.area.Area.{Area}
use Rattle.spte_words.specs.declared.area.Area.TheVariants as area
use Rattle.spte_words.specs.Areas.{pool_index}
use Rattle.spte_words.specs.Entries.{can_write}
use Rattle.mmu_core.proofs.pages.ProtectedLeaf.{pool_protected}
use Rattle.part_steps.specs.declared.part_step.PartStep.{PartStep}
use Rattle.part_steps.specs.declared.part_step.PartStep.TheVariants as part
use Rattle.mmu_core.specs.forms.access.AccessSteps.{touch_of}
use Rattle.mmu_core.specs.alone.FaultAlone.{LeadsTo, LeadsToLeaf}
use Rattle.mmu_core.specs.invariant.Invariant.{Invariant}
use Rattle.mmu_core.specs.invariant.Laws.{IsSound}
use Rattle.mmu_core.specs.machine.Machine.{World}
use Rattle.mmu_laws.specs.turns.Removal.{LeadsFromRoot}
use Rattle.part_steps.specs.PartTasks.{leaf_written, part_task, own_index, leaf_fixed}
use Rattle.mmu_core.specs.invariant.TopicsInvariant.{TopicsInvariant}
use Rattle.mmu_core.specs.invariant.TreePart.{Position, stands}
use Rattle.mmu_core.proofs.pages.TreePlaces.{root_stands}
use Rattle.mmu_core.specs.machine.View.{View, part_stepped, view, word_in, words_after}
use Rattle.mmu_core.proofs.machine.Columns.{same_or, upd_other}
use Rattle.mmu_core.proofs.machine.PartStepping.{IsPart}
use Rattle.mmu_core.proofs.words.PartWords.{areas_stay, page_stays}
use Rattle.mmu_core.proofs.pages.PoolPages.{table_not_owned}
use Rattle.part_steps.specs.declared.task.Task.{Task}
use Rattle.mmu_core.proofs.lines.StepIn.{StepIn, Makes, Touches}
use Rattle.mmu_core.specs.forms.access.FaultSteps.{allows_access}
pub use Rattle.mmu_laws.proofs.turns.LeadsStay.{EntriesStay, EntryStays, IsLeafStill, IsProtected, IsSplit, IsTakenAway, IsZapped, LinksStay, TakesEntry}
pub use Rattle.mmu_laws.proofs.turns.LeadsStay.{taken_kind}
pub use Rattle.mmu_laws.proofs.turns.LeadsStay.{takes_entries}
use Rattle.mmu_laws.proofs.turns.LeadsStay.{LeadsOn, leads_stay}
use Rattle.mmu_laws.proofs.turns.EntriesLeft.{fix_was, here, leaf_was, link_stays, protected_stays, put_stays, zapped}

-- a step of a part
abbrev task_in : View → ℕ → PartStep → ℕ → Task
task_in v a step note = part_task step (own_index (v.hand a)) (v.hand a).topics note

part_entries_stay : (access : Bool) (z : Sizes) (v : View) (a : ℕ) (step : PartStep) (note : ℕ) → IsPart z v a step → Invariant z v → (I : TopicsInvariant z v)
    → EntriesStay access (task_in v a step note) (stands I.up I.spot) (v.words area.Pool) ((part_stepped a step note v).words area.Pool)
part_entries_stay access z v a (part.Link gfn) note S J I k p is j low =
    link_stays access z v a gfn J I S (task_in v a (part.Link gfn) note) k p j low is
part_entries_stay access z v a (part.Leaf gfn write) note S J I k p is j low =
    put_stays access z v a gfn J I (task_in v a (part.Leaf gfn write) note) (leaf_written gfn write (v.hand a).topics) S.there S.needs.0.saw.over.there
    (leaf_was access z v a gfn J I write S) k p is j low
part_entries_stay access z v a (part.Fix gfn) note S J I k p is j low =
    put_stays access z v a gfn J I (task_in v a (part.Fix gfn) note) (leaf_fixed (v.hand a).topics) S.there S.needs.saw.over.there
    (fix_was access z v a gfn J I S) k p is j low
part_entries_stay access z v a (part.Zap gfn) note S J I k p is j low = by (same_or (pool_index k j) (here access z v a gfn J I))
  where
    by : (pool_index k j ≡ here access z v a gfn J I) ⊎ (pool_index k j ≢ here access z v a gfn J I)
        → EntryStays access (task_in v a (part.Zap gfn) note) (v.words area.Pool) ((part_stepped a (part.Zap gfn) note v).words area.Pool) k p j
    by (inl e) = inr (inr (inl (inl (zapped access z v a gfn J I S (own_index (v.hand a)) note k p j low is e))))
    by (inr ne) = inl (upd_other (v.words area.Pool) (here access z v a gfn J I) (pool_index k j) 0 ne)
part_entries_stay access z v a (part.Protect gfn) note S J I k p is j low =
    subst (λ (pool : ℕ → ℕ). EntryStays access (task_in v a (part.Protect gfn) note) (v.words area.Pool) pool k p j) (sym (pool_protected z v a gfn S note))
    (protected_stays access z v a gfn J I S (own_index (v.hand a)) note k p j low is)
part_entries_stay access z v a (part.Fill value) note S J I k p is j low =
    inl (page_stays z v a (part.Fill value) note S k (λ o owns. table_not_owned I.uses I.spot k p is a o S.there owns) j low)
part_entries_stay access z v a step note S J I k p is j low = inl (page_stays z v a step note S k tt j low)

part_links_stay : (access : Bool) (z : Sizes) (v : View) (a : ℕ) (step : PartStep) (note : ℕ) → IsPart z v a step → Invariant z v → (I : TopicsInvariant z v)
    → LinksStay access (task_in v a step note) (stands I.up I.spot) v.words (part_stepped a step note v).words
part_links_stay access z v a step note S J I =
    record { entries = part_entries_stay access z v a step note S J I; root = ap (λ (f : ℕ → ℕ). f 0) (areas_stay v a step note area.Root refl) }

-- a touch
touch_links_stay : (access : Bool) (stands : ℕ → Option Position) (words : Area → ℕ → ℕ) (op : Op) (i : ℕ)
    → LinksStay access (touch_of op i) stands words (words_after (touch_of op i) words)
touch_links_stay access stands words Read i = record { entries = λ k p is j low. inl refl; root = refl }
touch_links_stay access stands words _ i = record { entries = λ k p is j low. inl refl; root = refl }

-- a step of a line
pub links_by : (access : Bool) (z : Sizes) (v : View) (a : ℕ) (task : Task) → StepIn z v a task → Invariant z v → (I : TopicsInvariant z v)
    → LinksStay access task (stands I.up I.spot) v.words (words_after task v.words)
links_by access z v a _ (Makes step note S) J I = part_links_stay access z v a step note S J I
links_by access z v a _ (Touches op index) J I = touch_links_stay access (stands I.up I.spot) v.words op index

-- Where links lead from the root to a leaf that allows the access, they do so after the step, or it takes an entry of the guest frame from the access.
pub leads_or_takes : (z : Sizes) (w : World Held) (G : IsSound z w) (task : Task) (after : Area → ℕ → ℕ) (gfn : ℕ) (write : Bool)
    → LinksStay write task (stands G.topics.up G.topics.spot) (word_in z w) after → LeadsFromRoot z w gfn write
    → LeadsToLeaf (after area.Pool) 4 (after area.Root 0) gfn write ⊎ TakesEntry write task (stands G.topics.up G.topics.spot) (word_in z w area.Pool) gfn
leads_or_takes z w G task after gfn write S L =
    by (leads_stay I.tree (after area.Pool) (let most = G.holds.sizes.pool.1 in omega (arith, most)) write task S.entries gfn L.at L.entry 4 0
    (word_in z w area.Root 0) L.leaf (root_stands I.tree) L.leads)
  where
    I : TopicsInvariant z (view z w)
    I = G.topics

    allows : (leaf : ℕ) (b : Bool) → (b ≡ true → can_write L.entry ≡ true → can_write leaf ≡ true) → allows_access b L.entry ≡ true
        → allows_access b leaf ≡ true
    allows leaf true writes may = writes refl may
    allows leaf false writes may = refl

    by : LeadsOn I.tree (after area.Pool) (let most = G.holds.sizes.pool.1 in omega (arith, most)) write task S.entries gfn L.at L.entry 4
        (word_in z w area.Root 0)
        ⊎ TakesEntry write task (stands I.up I.spot) (word_in z w area.Pool) gfn
        → LeadsToLeaf (after area.Pool) 4 (after area.Root 0) gfn write ⊎ TakesEntry write task (stands I.up I.spot) (word_in z w area.Pool) gfn
    by (inl on) = inl (record {
      at = on.at_level;
      entry = on.leaf;
      leads = subst (λ k. LeadsTo (after area.Pool) 4 k gfn on.at_level on.leaf) (sym S.root) on.leads;
      leaf = on.is_leaf;
      allows = allows on.leaf write on.writes L.allows;
    })
    by (inr Z) = inr Z
