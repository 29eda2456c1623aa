-- What is cached: a leaf that a walk finds is the one that slots and host give; and each stays of a level that has leaves, at frames of the machine.
use Rattle.std.proofs.Common.{◌≡◌, ◌/◌, ◌<◌, ℕ, List, [], ◌∷◌, refl, sym, subst, ap, ◌∙◌, arith}
use Rattle.std.proofs.lemmas.Bool.Decides.{nat_tests}
use Rattle.std.proofs.lemmas.List.Elements.{All-cons, All-head, All-nil, All-tail, All-take}
use Rattle.std.specs.Prelude.{All, Bool, true, false, ◌≢◌, ◌==◌, ◌&&◌, find, if◌then◌else◌, Some}
use Rattle.circular_buffer.specs.Buffer.{Buffer, buffer}
use Rattle.core_views.specs.declared.actor.Actor.{Actor}
use Rattle.core_views.specs.declared.actor.Actor.TheVariants.{Vcpu}
use Rattle.core_views.specs.declared.cache.Translation.{Translation}
use Rattle.core_views.specs.declared.kind.Kind.{Kind}
use Rattle.core_views.specs.declared.kind.StepKind.{StepKind}
use Rattle.core_views.specs.declared.kind.StepKind.TheVariants as kind
use Rattle.core_views.specs.declared.place.AccessPlace.{AccessPlace}
use Rattle.core_views.specs.declared.place.AccessPlace.TheVariants.{Walk}
use Rattle.core_views.specs.declared.place.Place.TheVariants as place
use Rattle.core_views.specs.declared.sizes.Sizes.{Sizes}
use Rattle.core_views.specs.declared.topics.Stay.TheVariants.{Guest}
use Rattle.core_views.specs.declared.topics.TableWalk.{TableWalk}
use Rattle.core_views.specs.declared.trace.Command.TheVariants.{Access}
use Rattle.core_views.specs.declared.trace.Line.{Line}
use Rattle.core_views.specs.declared.trace.Op.{Op}
use Rattle.core_views.specs.Held.{Held}
use Rattle.core_views.specs.Kinds.{kind_named}
use Rattle.core_views.specs.Sizes.{actors_of, index_of}
use Rattle.core_views.specs.Slots.{is_write}
use Rattle.core_views.specs.Traces.{IsCommandFor}
use Rattle.spte_words.specs.declared.area.Area.TheVariants as area
use Rattle.spte_words.specs.declared.spte_kind.SpteKind.{SpteKind}
use Rattle.spte_words.specs.declared.spte_kind.SpteKind.TheVariants as entry_kind
use Rattle.spte_words.specs.Areas.{pool_index}
use Rattle.spte_words.specs.Entries.{kind_of, level_span}
use Rattle.spte_words.proofs.ProtectedEntries.{leaf_level}
use Rattle.spte_words.proofs.Spans.{span_1}
use Rattle.part_steps.specs.declared.task.Task.{Task}
use Rattle.mmu_core.specs.forms.access.AccessSteps.{access_caches, access_task, is_found}
use Rattle.mmu_core.specs.forms.access.Cached.{allows, asks_flush, covers, first_usable, flushed, flushed_by, is_usable, with_leaf}
use Rattle.mmu_core.specs.forms.access.FaultSteps.{allows_access}
use Rattle.mmu_core.specs.invariant.CachedPart.{FitsMachine, IsTranslationFor}
use Rattle.mmu_core.specs.invariant.Invariant.{CachedPart, Invariant}
use Rattle.mmu_core.specs.forms.access.AccessKnows.{AccessKnows}
use Rattle.part_steps.specs.PartTasks.{entry_index, table_page}
use Rattle.part_steps.specs.PartHoldings.{IsOver}
use Rattle.part_steps.specs.Tasks.{kind_of_task}
use Rattle.mmu_core.specs.invariant.TopicsInvariant.{TopicsInvariant}
use Rattle.mmu_core.proofs.pages.LeavesOver.{leaf_below}
use Rattle.mmu_core.specs.machine.View.{View, answer_in, hand_after}
pub use Rattle.mmu_core.proofs.slots.LiveStay.{leaf_stays, translations_stay}
use Rattle.mmu_core.proofs.words.HostFrames.{leaf_there}

-- A step leaves what is cached, or flushes it.
pub flushed_kept : (P : Translation → Type 0) (k : Kind) (c : Buffer Translation) (v : ℕ) → All P c.items → All P (flushed k c v).items
unfolding flushed
flushed_kept P k c v all = by (kind_named k.code)
  where
    cleared : (b : Bool) → All P (if b then buffer [] c.capacity else c).items
    cleared true = All-nil P
    cleared false = all

    by : (n : StepKind) → All P (flushed_by n c v).items
    by kind.Enter = cleared (asks_flush v)
    by _ = all

-- ---- a leaf that a walk finds

-- A leaf in the table of a walk in the guest, at the guest frame's entry, is each one's that this entry is over.
pub leaf_found : (z : Sizes) (v : View) (a gfn : ℕ) → a < z.vcpus → (v.hand a).topics.stay ≡ Guest → TopicsInvariant z v → IsOver gfn (v.hand a).topics.walk
    → kind_of (v.hand a).topics.walk.level
    (v.words area.Pool (pool_index (table_page (v.hand a).topics.walk) (entry_index gfn (v.hand a).topics.walk.level))) ≡ entry_kind.Leaf
    → IsTranslationFor (v.words area.Pool) (v.words area.Host) (v.words area.Slots 0) (record {
      gfn = gfn;
      level = (v.hand a).topics.walk.level;
      leaf = v.words area.Pool (pool_index (table_page (v.hand a).topics.walk) (entry_index gfn (v.hand a).topics.walk.level));
    })
leaf_found z v a gfn low guest P over leaf other covered =
    let walk : TableWalk = (v.hand a).topics.walk in
    let span = over.span in
    let same : other / level_span walk.level ≡ gfn / level_span walk.level = grind (arith, nat_tests) in
    leaf_below z v P (table_page walk) (table_page walk) walk.level walk.prefix (entry_index gfn walk.level) other
    (P.reach a low guest walk.level over.there (omega arith) (P.tree.there _ _ ((P.held a (omega (arith, low))).table over.there)).2) (0, refl)
    ((P.held a (omega (arith, low))).table over.there) (omega arith)
    (omega (arith, span, same)) leaf

-- What a stay caches is a leaf.
pub found_is_leaf : (k : SpteKind) (allowed : Bool) → is_found k allowed ≡ true → k ≡ entry_kind.Leaf
found_is_leaf entry_kind.Leaf allowed is = refl
found_is_leaf _ allowed is = absurd (cc is)

-- A virtual processor makes it.
pub vcpu_below : (z : Sizes) (actor : Actor) (gfn word : ℕ) (op : Op) → IsCommandFor z actor (Access gfn word op) → index_of z actor < z.vcpus
vcpu_below z (Vcpu n) gfn word op may = may.0
vcpu_below z _ gfn word op may = absurd may

-- What holds of a new translation and of those before holds of all after it is cached.
pub with_leaf_all : (P : Translation → Type 0) (gfn level leaf : ℕ) (c : Buffer Translation) → P (record { gfn = gfn; level = level; leaf = leaf })
    → All P c.items → All P (with_leaf gfn level leaf c).items
with_leaf_all P gfn level leaf c new_ each =
    All-take P c.capacity (record { gfn = gfn; level = level; leaf = leaf } ∷ c.items)
    (All-cons P (record { gfn = gfn; level = level; leaf = leaf }) c.items new_ each)

-- ---- a translation that is used

first_of : (a b : Bool) → (a && b) ≡ true → a ≡ true
first_of true b e = refl
first_of false b e = absurd (cc e)

-- What is found in a list passes the test, and has what all have.
pub found_has : {X : Type 0} (P : X → Type 0) (test : X → Bool) (ts : List X) (t : X) → All P ts → find test ts ≡ Some t → P t × (test t ≡ true)
found_has P test [] t all is = absurd (cc is)
found_has P test (x ∷ xs) t all is = by (test x) refl (found_has P test xs t (All-tail P x xs all)) is
  where
    by : (b : Bool) → test x ≡ b → (find test xs ≡ Some t → P t × (test t ≡ true)) → (if b then Some x else find test xs) ≡ Some t → P t × (test t ≡ true)
    by true passes rest here = let same : x ≡ t = cc here in (subst P same (All-head P x xs all), ap test (sym same) ∙ passes)
    by false fails rest there = rest there

-- The one that is used covers the guest frame.
pub used_covers : (P : Translation → Type 0) (gfn : ℕ) (write : Bool) (ts : List Translation) (t : Translation) → All P ts
    → first_usable gfn write ts ≡ Some t → P t × (covers gfn t ≡ true)
used_covers P gfn write ts t each is =
    let F = found_has P (is_usable gfn write) ts t each is in (F.0, first_of (covers gfn t) (allows write t) F.1)

-- Translations of the lowest level cover their own guest frame alone.
covers_one : (gfn other level : ℕ) → level ≡ 1 → (gfn / level_span level == other / level_span level) ≡ true → other ≡ gfn
covers_one gfn other level lowest is =
    let span : level_span level ≡ 1 = ap level_span lowest ∙ span_1 in
    let same : gfn / level_span level ≡ other / level_span level = grind (arith, nat_tests) in
    let own : gfn / level_span level ≡ gfn = ap (λ n. gfn / n) span ∙ omega arith in
    let its : other / level_span level ≡ other = ap (λ n. other / n) span ∙ omega arith in
    omega (arith, same, own, its)

pub covers_not : (gfn : ℕ) (t : Translation) → t.level ≡ 1 → gfn ≢ t.gfn → false ≡ covers gfn t
covers_not gfn t lowest apart = by (covers gfn t) refl
  where
    by : (b : Bool) → covers gfn t ≡ b → false ≡ covers gfn t
    by true is = absurd (apart (sym (covers_one gfn t.gfn t.level lowest is)))
    by false is = sym is

-- ---- after a step of an access

-- What an access caches is a leaf that its walk found, before what was cached.
pub caches_kept : (z : Sizes) (v : View) (a : ℕ) (p : AccessPlace) (gfn word : ℕ) (op : Op) → a < z.vcpus → Invariant z v → TopicsInvariant z v
    → AccessKnows p gfn (is_write op) (v.hand a)
    → CachedPart z (access_caches p (v.hand a) gfn op (answer_in (access_task p (v.hand a) gfn word op) v.words)).items
caches_kept z v a (Walk again) gfn word op lt I P K =
    by (is_found (kind_of level w) (allows_access (is_write op) w)) (λ e. found_is_leaf (kind_of level w) (allows_access (is_write op) w) e)
  where
    there : a < actors_of z
    there = omega (arith, lt)

    h : Held
    h = v.hand a

    level : ℕ
    level = h.topics.walk.level

    w : ℕ
    w = v.words area.Pool (pool_index (table_page h.topics.walk) (entry_index gfn level))

    by : (b : Bool) → (b ≡ true → kind_of level w ≡ entry_kind.Leaf) → CachedPart z (if b then with_leaf gfn level w h.cached else h.cached).items
    by true leaf =
        let found = leaf_found z v a gfn lt K.0.guest P K.1 (leaf refl) in
        let fits : FitsMachine z (record { gfn = gfn; level = level; leaf = w }) = record {
          level = (K.1.there, leaf_level level w (leaf refl));
          there = λ other covered. leaf_there z (v.words area.Slots 0) (v.words area.Role) (v.words area.Pool) (v.words area.Host) level other w I.sizes
              I.set_part P.hosts (found other covered);
        } in
        with_leaf_all (FitsMachine z) gfn level w h.cached fits (I.cached a there)
    by false leaf = I.cached a there
caches_kept z v a _ gfn word op lt I P K = I.cached a (omega (arith, lt))

-- All that the actor has cached after its step is of such a level, at frames of the machine.
pub cached_kept : (z : Sizes) (v : View) (a : ℕ) (line : Line) (p : AccessPlace) (gfn word : ℕ) (op : Op) → a < z.vcpus → Invariant z v
    → TopicsInvariant z v → AccessKnows p gfn (is_write op) (v.hand a)
    → CachedPart z (hand_after line (Access gfn word op) (place.Access p) (v.hand a) (answer_in (access_task p (v.hand a) gfn word op) v.words)).cached.items
cached_kept z v a line p gfn word op lt I P K =
    let h : Held = v.hand a in
    let t : Task = access_task p h gfn word op in
    let x : ℕ = answer_in t v.words in
    flushed_kept (FitsMachine z) (kind_of_task h.state.sizes t) (access_caches p h gfn op x) x (caches_kept z v a p gfn word op lt I P K)
