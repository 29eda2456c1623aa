-- Who holds a slot set while another actor has the lock alone is in a section, and a watch comes past nobody who is in one.
use Rattle.std.proofs.Common.{◌≡◌, ◌≢◌, ◌⊎◌, inl, inr, ◌<◌, ◌≤◌, ℕ, refl, subst, ap, ◌∙◌, arith, ◌+◌, ◌%◌}
use Rattle.std.specs.Prelude.{Bool, true, false, ◌==◌, if◌then◌else◌, Some}
use Rattle.std.proofs.lemmas.Bool.Decides.{nat_tests}
use Rattle.core_views.specs.declared.sizes.Sizes.{Sizes}
use Rattle.core_views.specs.declared.topics.Hold.{Hold}
use Rattle.core_views.specs.declared.topics.Hold.TheVariants.{Exclusive}
use Rattle.core_views.specs.declared.topics.Stay.{Stay}
use Rattle.core_views.specs.declared.topics.Stay.TheVariants.{Guest, Outside, Section}
use Rattle.core_views.specs.declared.topics.Topics.{Topics}
use Rattle.core_views.specs.Held.{Held}
use Rattle.core_views.specs.Sizes.{actors_of}
use Rattle.spte_words.specs.declared.area.Area.TheVariants as area
use Rattle.part_steps.specs.declared.part_step.PartStep.TheVariants as part
use Rattle.part_steps.specs.PartHoldings.{next_watched}
use Rattle.part_steps.specs.PartTasks.{own_index}
use Rattle.mmu_core.specs.invariant.StatesPart.{stay_bits}
use Rattle.mmu_core.specs.invariant.TopicsInvariant.{TopicsInvariant}
use Rattle.part_steps.specs.StayTopics.{may_search, is_alone, is_outside}
use Rattle.part_steps.specs.ControlBits.{in_section}
use Rattle.mmu_core.specs.machine.View.{View}
use Rattle.mmu_core.proofs.machine.Columns.{same_or}
use Rattle.mmu_core.proofs.machine.PartStepping.{IsPart}
use Rattle.mmu_core.proofs.machine.SumsBelow.{sum_two}
use Rattle.mmu_core.specs.machine.Sums.{one_if}
use Rattle.mmu_core.specs.invariant.LockPart.{LockPart}

in_section_by : (stay : Stay) (hold : Hold) → may_search stay hold ≡ true → is_alone hold ≡ false → stay ≡ Section
in_section_by Section hold may alone = refl
in_section_by _ hold may alone = absurd (cc (may, alone))

one_alone : (n lock : ℕ) (hold : ℕ → Hold) (a i : ℕ) → a < n → i < n → i ≢ a → LockPart n lock hold → hold a ≡ Exclusive → is_alone (hold i) ≡ false
one_alone n lock hold a i there lt ne L alone = by (is_alone (hold i)) refl
  where
    by : (b : Bool) → is_alone (hold i) ≡ b → is_alone (hold i) ≡ false
    by false e = e
    by true e =
        let mine : one_if (is_alone (hold a)) ≡ 1 = ap (λ x. one_if (is_alone x)) alone in
        let its : one_if (is_alone (hold i)) ≡ 1 = ap one_if e in
        absurd (omega (arith, L.one, sum_two n (λ j. one_if (is_alone (hold j))) i a lt there ne, mine, its))

pub holder_in_section : (z : Sizes) (v : View) (a i k : ℕ) → a < actors_of z → i < actors_of z → i ≢ a → TopicsInvariant z v
    → (v.hand a).topics.hold ≡ Exclusive → (v.hand i).topics.search.set ≡ Some k → (v.hand i).topics.stay ≡ Section
holder_in_section z v a i k there lt ne I alone held =
    in_section_by t.stay t.hold (by (may_search t.stay t.hold) refl)
    (one_alone (actors_of z) (v.words area.Lock 0) (λ j. (v.hand j).topics.hold) a i there lt ne I.lock_part alone)
  where
    t : Topics
    t = (v.hand i).topics

    by : (b : Bool) → may_search t.stay t.hold ≡ b → may_search t.stay t.hold ≡ true
    by true e = e
    by false e = absurd (let none = (I.held i lt).no_set e in cc (held, none))

-- ---- A watch comes past nobody who is in the guest or in a section.

next_before : (own w i : ℕ) → w ≤ i → i ≢ own → next_watched own w ≤ i
next_before own w i le ne = by (w == own) (λ e. grind (arith, nat_tests))
  where
    by : (b : Bool) → (b ≡ true → w ≡ own) → (if b then w + 1 else w) ≤ i
    by true is = let e = is refl in omega (arith, le, ne, e)
    by false is = le

inside_shows : (stay : Stay) (x : ℕ) → x < 8 → x % 4 ≡ stay_bits stay → is_outside stay ≡ false → in_section x ≡ true
inside_shows Guest x lt is inside = grind (arith, nat_tests)
inside_shows Section x lt is inside = grind (arith, nat_tests)
inside_shows Outside x lt is inside = absurd (cc inside)

passed_not : (b : Bool) (index i : ℕ) → index ≤ i → (index ≡ i → b ≡ true) → index + (if b then 0 else 1) ≤ i
passed_not true index i le here = omega (arith, le)
passed_not false index i le here = by (same_or index i)
  where
    by : (index ≡ i) ⊎ (index ≢ i) → index + 1 ≤ i
    by (inl e) = let is = here e in absurd (cc is)
    by (inr ne) = omega (arith, le, ne)

-- A watch passes nobody who is in the guest or in a section.
pub watch_passes_nobody : (z : Sizes) (v : View) (a index : ℕ) → IsPart z v a (part.Watch index) → TopicsInvariant z v → (i : ℕ) → i ≢ a → i < actors_of z
    → is_outside (v.hand i).topics.stay ≡ false → (v.hand a).topics.watched ≤ i
    → index + (if in_section (v.words area.State index) then 0 else 1) ≤ i
watch_passes_nobody z v a index S I i ne lt inside unwatched =
    let W = I.states_part i lt in
    passed_not (in_section (v.words area.State index)) index i (reached S.needs.2)
    (λ same. ap (λ j. in_section (v.words area.State j)) same ∙ inside_shows (v.hand i).topics.stay (v.words area.State i) W.0 W.1 inside)
  where
    own : ℕ
    own = own_index (v.hand a)

    -- It is of nobody after him.
    by : (w : ℕ) → w ≤ i → index ≡ next_watched own w → index ≤ i
    by w le e =
        let next = next_before a w i le ne in
        let same : next_watched own w ≡ next_watched a w = ap (λ o. next_watched o w) S.own_place in
        omega (arith, e, next, same)

    reached : (index ≡ next_watched own 0) ⊎ (index ≡ next_watched own (v.hand a).topics.watched) → index ≤ i
    reached (inl e) = by 0 (omega arith) e
    reached (inr e) = by (v.hand a).topics.watched unwatched e

-- Who has watched all others has passed each of them.
pub all_passed : (z : Sizes) (h : Held) (a i : ℕ) → h.state.sizes ≡ z → own_index h ≡ a → actors_of h.state.sizes ≤ next_watched (own_index h) h.topics.watched
    → i < actors_of z → i ≢ a → h.topics.watched ≤ i → ⊥
all_passed z h a i sizes own all lt ne unwatched =
    let next = next_before a h.topics.watched i unwatched ne in
    let over : actors_of z ≤ next_watched a h.topics.watched =
    subst (λ (y : Sizes). actors_of y ≤ next_watched a h.topics.watched) sizes
    (subst (λ o. actors_of h.state.sizes ≤ next_watched o h.topics.watched) own all) in
    omega (arith, over, lt, next)
