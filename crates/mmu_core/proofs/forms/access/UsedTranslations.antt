-- The cached translation that an access uses: what it allows, and how the look-up and the walk of a stay come to it.
use Rattle.std.proofs.Common.{◌≡◌, ◌≤◌, ℕ, zero, suc, List, [], ◌∷◌, take, refl, sym, ap, ◌∙◌, arith}
use Rattle.std.proofs.Props.{props}
use Rattle.std.proofs.Math.Logic.{∥∥₁_elim}
use Rattle.std.proofs.lemmas.Bool.Decides.{nat_tests}
use Rattle.std.specs.Prelude.{Bool, true, false, ◌/◌, ◌==◌, ◌&&◌, Option, Some, None, IfSome, if◌then◌else◌}
use Rattle.circular_buffer.specs.Buffer.{Buffer, buffer}
use Rattle.core_views.specs.declared.cache.Translation.{Translation}
use Rattle.core_views.specs.declared.kind.Kind.{Kind}
use Rattle.core_views.specs.declared.kind.StepKind.{StepKind}
use Rattle.core_views.specs.declared.kind.StepKind.TheVariants as kind
use Rattle.core_views.specs.declared.place.AccessPlace.{AccessPlace}
use Rattle.core_views.specs.declared.place.AccessPlace.TheVariants.{Pause, Walk}
use Rattle.core_views.specs.declared.trace.Op.{Op}
use Rattle.core_views.specs.Held.{Held}
use Rattle.core_views.specs.Kinds.{kind_named}
use Rattle.core_views.specs.Slots.{is_write}
use Rattle.spte_words.specs.Entries.{kind_of, level_span}
use Rattle.mmu_core.specs.forms.access.AccessSteps.{access_caches, access_task, is_found}
use Rattle.mmu_core.specs.forms.access.Cached.{UsesTranslation, allows, asks_flush, covers, first_usable, flushed, flushed_by, is_usable, with_leaf}
use Rattle.mmu_core.specs.forms.access.FaultSteps.{allows_access}
use Rattle.mmu_core.specs.forms.access.AccessKnows.{RestsOn}
use Rattle.part_steps.specs.declared.part_step.PartStep.{PartStep}
use Rattle.part_steps.specs.PartSteps.{PartNeeds}
use Rattle.part_steps.specs.Tasks.{kind_of_task}

one : {a b : Translation} → Some a ≡ Some b → a ≡ b
one e = cc e

last : (a b : Bool) → (a && b) ≡ true → b ≡ true
last true b e = e
last false b e = absurd (cc e)

-- ---- The translation that is used allows the access.

pub found_allows : (gfn : ℕ) (write : Bool) (ts : List Translation) (t : Translation) → first_usable gfn write ts ≡ Some t → allows_access write t.leaf ≡ true
found_allows gfn write [] t is = absurd (cc is)
found_allows gfn write (x ∷ xs) t is = by (is_usable gfn write x) (found_allows gfn write xs t) refl is
  where
    by : (b : Bool) → (first_usable gfn write xs ≡ Some t → allows_access write t.leaf ≡ true) → is_usable gfn write x ≡ b
        → (if b then Some x else first_usable gfn write xs) ≡ Some t → allows_access write t.leaf ≡ true
    by true rest usable e = ap (λ (y : Translation). allows_access write y.leaf) (sym (one e)) ∙ last (covers gfn x) (allows write x) usable
    by false rest usable e = rest e

pub uses_allows : (gfn : ℕ) (write : Bool) (h : Held) → UsesTranslation gfn write h → allows_access write h.state.used.leaf ≡ true
uses_allows gfn write h U = found_allows gfn write h.cached.items h.state.used U

pub uses_stays : (gfn : ℕ) (write : Bool) (h : Held) → ∥ UsesTranslation gfn write h ∥₁ → UsesTranslation gfn write h
uses_stays gfn write h x = ∥∥₁_elim x (hlevel props) (λ U. U)

-- ---- A leaf that a walk finds, which is cached before all others, is the newest.

same_run : (n : ℕ) → (n == n) ≡ true
same_run n = grind (arith, nat_tests)

own_usable : (gfn level leaf : ℕ) (write : Bool) → allows_access write leaf ≡ true
    → is_usable gfn write (record { gfn = gfn; level = level; leaf = leaf }) ≡ true
own_usable gfn level leaf write may = ap (λ (b : Bool). b && allows_access write leaf) (same_run (gfn / level_span level)) ∙ may

first_fits : (gfn : ℕ) (write : Bool) (room : ℕ) (t : Translation) (ts : List Translation) → 1 ≤ room → is_usable gfn write t ≡ true
    → first_usable gfn write (take room (t ∷ ts)) ≡ Some t
first_fits gfn write zero t ts some usable = absurd (omega (arith, some))
first_fits gfn write (suc n) t ts some usable = ap (λ (b : Bool). if b then Some t else first_usable gfn write (take n ts)) usable

pub newest_filled : (gfn level leaf : ℕ) (write : Bool) (c : Buffer Translation) → 1 ≤ c.capacity → allows_access write leaf ≡ true
    → first_usable gfn write (with_leaf gfn level leaf c).items ≡ Some (record { gfn = gfn; level = level; leaf = leaf })
newest_filled gfn level leaf write c some may =
    first_fits gfn write c.capacity (record { gfn = gfn; level = level; leaf = leaf }) c.items some (own_usable gfn level leaf write may)

-- ---- What is cached where the access is to touch: after the pause what was cached before, and after the walk's last entry the leaf, too.

abbrev pub CachesBehind : AccessPlace → Held → ℕ → Op → ℕ → Buffer Translation → Type 0
CachesBehind (Pause again) h gfn op v c = c ≡ h.cached
CachesBehind (Walk again) h gfn op v c = c ≡ access_caches (Walk again) h gfn op v
CachesBehind _ h gfn op v c = Unit {0}

pub filled_behind : (p : AccessPlace) (h : Held) (gfn : ℕ) (op : Op) (v : ℕ) → CachesBehind p h gfn op v (access_caches p h gfn op v)
filled_behind (Pause again) h gfn op v = refl
filled_behind (Walk again) h gfn op v = refl
filled_behind _ h gfn op v = tt

pub flushed_behind : (p : AccessPlace) (h : Held) (gfn word : ℕ) (op : Op) (v : ℕ)
    → CachesBehind p h gfn op v (flushed (kind_of_task h.state.sizes (access_task p h gfn word op)) (access_caches p h gfn op v) v)
unfolding flushed
flushed_behind (Pause again) h gfn word op v = refl
flushed_behind (Walk again) h gfn word op v = refl
flushed_behind _ h gfn word op v = tt

-- ---- How many translations may be cached stays the same.

pub flushed_room : (k : Kind) (c : Buffer Translation) (v : ℕ) → (flushed k c v).capacity ≡ c.capacity
unfolding flushed
flushed_room k c v = by (kind_named k.code)
  where
    cleared : (b : Bool) → (if b then buffer [] c.capacity else c).capacity ≡ c.capacity
    cleared true = refl
    cleared false = refl

    by : (n : StepKind) → (flushed_by n c v).capacity ≡ c.capacity
    by kind.Enter = cleared (asks_flush v)
    by _ = refl

pub caches_room : (p : AccessPlace) (h : Held) (gfn : ℕ) (op : Op) (v : ℕ) → (access_caches p h gfn op v).capacity ≡ h.cached.capacity
caches_room (Walk again) h gfn op v = by (is_found (kind_of h.topics.walk.level v) (allows_access (is_write op) v))
  where
    by : (b : Bool) → (if b then with_leaf gfn h.topics.walk.level v h.cached else h.cached).capacity ≡ h.cached.capacity
    by true = refl
    by false = refl
caches_room _ h gfn op v = refl

-- ---- What the next step of an access needs is, but at the touch, what the step of a part needs.

pub part_needs : (s : Option PartStep) (gfn : ℕ) (write : Bool) (h : Held) → RestsOn s gfn write h → IfSome s (λ step. PartNeeds step h)
part_needs None gfn write h N = tt
part_needs (Some step) gfn write h N = N
