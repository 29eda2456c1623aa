-- What a look of a watch comes to, in each of its cases: the exit, and what is held after it.
use Rattle.std.proofs.Common.{◌≡◌, ◌≢◌, ◌+◌, ◌-◌, ◌<◌, ◌≤◌, ℕ, refl, sym, subst, ap, ◌∙◌, arith}
use Rattle.std.specs.Prelude.{Bool, true, false, ◌==◌, nat_lt, if◌then◌else◌}
use Rattle.std.proofs.lemmas.Bool.Decides.{nat_tests}
use Rattle.core_views.specs.declared.sizes.Sizes.{Sizes}
use Rattle.core_views.specs.declared.topics.Topics.{Topics}
use Rattle.core_views.specs.Held.{Held}
use Rattle.core_views.specs.Sizes.{AreSizes, actors_of}
use Rattle.part_steps.specs.declared.part_step.PartStep.TheVariants as part
use Rattle.part_steps.specs.PartTasks.{own_index}
use Rattle.part_steps.specs.PartHoldings.{next_watched}
use Rattle.part_steps.specs.PartTopics.{part_topics}
use Rattle.part_steps.specs.ControlBits.{in_section}
use Rattle.mmu_core.specs.declared.watch.WatchNext.{WatchNext}
use Rattle.mmu_core.specs.declared.watch.WatchNext.TheVariants as watches
use Rattle.mmu_core.specs.orders.WatchSteps.{looked_at, watch_next}

pub data WatchMade (own n : ℕ) (t : Topics) (v : ℕ) : WatchNext → Topics → Type 0 where
  Again : in_section v ≡ true → WatchMade own n t v watches.Again (record t { watched = next_watched own t.watched + 0 })
  Next : in_section v ≡ false → next_watched own (next_watched own t.watched + 1) < n
      → WatchMade own n t v watches.Next (record t { watched = next_watched own t.watched + 1 })
  Last : in_section v ≡ false → n ≤ next_watched own (next_watched own t.watched + 1)
      → WatchMade own n t v watches.Last (record t { watched = next_watched own t.watched + 1 })

pub watch_made : (h : Held) (v : ℕ)
    → WatchMade (own_index h) (actors_of h.state.sizes) h.topics v (watch_next h v) (part_topics (part.Watch (looked_at h)) h.topics v)
watch_made h v = by (in_section v) (nat_lt (next_watched (own_index h) (looked_at h + 1)) (actors_of h.state.sizes)) refl refl
  where
    by : (inside more : Bool) → in_section v ≡ inside → nat_lt (next_watched (own_index h) (looked_at h + 1)) (actors_of h.state.sizes) ≡ more
        → WatchMade (own_index h) (actors_of h.state.sizes) h.topics v (if inside then watches.Again else if more then watches.Next else watches.Last)
        (record h.topics { watched = looked_at h + (if inside then 0 else 1) })
    by true more is lt = Again is
    by false true is lt = Next is (grind (arith, nat_tests))
    by false false is le = Last is (grind (arith, nat_tests))

pub never_own : (own seen : ℕ) → next_watched own seen ≢ own
never_own own seen e = by (seen == own) (λ t. grind (arith, nat_tests)) (λ t. grind (arith, nat_tests)) e
  where
    by : (b : Bool) → (b ≡ true → seen ≡ own) → (b ≡ false → seen ≢ own) → (if b then seen + 1 else seen) ≡ own → ⊥
    by true is other e = let same = is refl in absurd (omega (arith, e, same))
    by false is other e = other refl e

-- The actor that is looked at again is the next one still.
still : (own seen : ℕ) → seen ≢ own → next_watched own (seen + 0) ≡ seen
still own seen ne = let no : (seen + 0 == own) ≡ false = grind (arith, nat_tests) in ap (λ (b : Bool). if b then seen + 0 + 1 else seen + 0) no ∙ omega arith

-- There is another actor to look at, or all have been.
abbrev pub WatchComes : WatchNext → ℕ → ℕ → Topics → Type 0
WatchComes watches.Last own n u = n ≤ next_watched own u.watched
WatchComes _ own n u = next_watched own u.watched < n

pub watch_comes : (own n : ℕ) (t : Topics) (v : ℕ) (next : WatchNext) (u : Topics) → WatchMade own n t v next u → next_watched own t.watched < n
    → WatchComes next own n u
watch_comes own n t v _ _ (Again is) low = omega (arith, low, still own (next_watched own t.watched) (never_own own t.watched))
watch_comes own n t v _ _ (Next is lt) low = lt
watch_comes own n t v _ _ (Last is le) low = le

-- the most looks that are left after it
abbrev pub watch_left_after : WatchNext → ℕ → Topics → ℕ
watch_left_after watches.Last n u = 0
watch_left_after _ n u = n - u.watched

from_there : (own seen : ℕ) → seen ≤ next_watched own seen
from_there own seen = by (seen == own)
  where
    by : (b : Bool) → seen ≤ (if b then seen + 1 else seen)
    by true = omega arith
    by false = omega arith

-- A look that doesn't wait leaves fewer.
pub watch_falls : (own n : ℕ) (t : Topics) (v : ℕ) (next : WatchNext) (u : Topics) → WatchMade own n t v next u → in_section v ≡ false
    → next_watched own t.watched < n → watch_left_after next n u < n - t.watched
watch_falls own n t v _ _ (Again is) goes low = absurd (cc (is, goes))
watch_falls own n t v _ _ (Next is lt) goes low = omega (arith, low, from_there own t.watched)
watch_falls own n t v _ _ (Last is le) goes low = omega (arith, low, from_there own t.watched)

-- There is another actor to look at first, where the watch begins.
first_watched : (own : ℕ) (z : Sizes) → AreSizes z → next_watched own 0 < actors_of z
first_watched own z S = by (0 == own)
  where
    by : (b : Bool) → (if b then 0 + 1 else 0) < actors_of z
    by true = omega (arith, S.some)
    by false = omega (arith, S.some)

pub watch_begins : (h : Held) → h.topics.watched ≡ 0 → AreSizes h.state.sizes → looked_at h < actors_of h.state.sizes
watch_begins h none S = subst (λ seen. next_watched (own_index h) seen < actors_of h.state.sizes) (sym none) (first_watched (own_index h) h.state.sizes S)
