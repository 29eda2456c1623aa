-- What a step of a part finds where the others hold nothing; and who has the lock.
use Rattle.std.proofs.Common.{◌≡◌, ◌≢◌, ◌⊎◌, inl, inr, ◌+◌, ◌*◌, ◌^◌, ◌<◌, ◌≤◌, ◌%◌, ℕ, length, refl, sym, subst, ap, ◌∙◌, arith}
use Rattle.std.specs.Prelude.{true, false}
use Rattle.std.proofs.Math.Logic.{∥∥₁_elim}
use Rattle.std.proofs.Props.{props}
use Rattle.std.proofs.lemmas.Bool.Decides.{nat_tests}
use Rattle.core_views.specs.declared.sizes.Sizes.{Sizes}
use Rattle.core_views.specs.declared.topics.Hold.{Hold}
use Rattle.core_views.specs.declared.topics.Hold.TheVariants.{Loose, Shared, Exclusive}
use Rattle.core_views.specs.Held.{Held}
use Rattle.core_views.specs.Sizes.{actors_of}
use Rattle.spte_words.specs.declared.area.Area.TheVariants as area
use Rattle.spte_words.specs.Areas.{size_of}
use Rattle.part_steps.specs.declared.task.Task.{Task}
use Rattle.part_steps.specs.declared.part_step.PartStep.{PartStep}
use Rattle.part_steps.specs.declared.part_step.PartStep.TheVariants as part
use Rattle.mmu_core.specs.machine.Enabled.{mmu}
use Rattle.mmu_core.specs.invariant.Laws.{IsSound}
use Rattle.mmu_core.specs.invariant.LockPart.{is_shared}
use Rattle.mmu_core.specs.machine.Machine.{World, answered, hand_in}
use Rattle.mmu_core.specs.alone.OthersRest.{NoOtherHasLock, NoneHasLockAlone, OthersRest}
use Rattle.part_steps.specs.PartTasks.{own_index, part_kind, part_task}
use Rattle.part_steps.specs.PartSteps.{PartNeeds, counts}
use Rattle.mmu_core.specs.invariant.StatesPart.{stay_bits}
use Rattle.mmu_core.specs.machine.Sums.{one_if, sum_below}
use Rattle.part_steps.specs.Tasks.{kind_of_task, map_of}
use Rattle.part_steps.specs.StayTopics.{has_lock, is_alone}
use Rattle.part_steps.specs.ControlBits.{in_section}
use Rattle.mmu_core.specs.machine.View.{answer_in, word_in}
use Rattle.mmu_core.specs.machine.Worlds.{Reachable}
use Rattle.mmu_core.proofs.machine.Columns.{same_or}
use Rattle.mmu_core.proofs.words.PartIndex.{index_same}
use Rattle.mmu_core.proofs.invariant.PartRested.{part_within, rests_in}
use Rattle.mmu_core.proofs.start.Starts.{reached_good}
use Rattle.mmu_core.proofs.machine.SumsBelow.{sum_ge, sum_none, sum_two}
use Rattle.mmu_core.proofs.machine.Views.{answered_is}

-- What a step of a part answers is what it answers in the view.
pub part_found : (z : Sizes) (w : World Held) (a : ℕ) (step : PartStep) (note : ℕ) → IsSound z w → a < actors_of z → PartNeeds step (hand_in mmu w a)
    → answered mmu w (part_kind (hand_in mmu w a) step note)
    ≡ answer_in (part_task step (own_index (hand_in mmu w a)) (hand_in mmu w a).topics note) (word_in z w)
part_found z w a step note G there N =
    let h : Held = hand_in mmu w a in
    let same : h.state.sizes ≡ z = (G.holds.lines a there).sizes in
    let t : Task = part_task step (own_index h) h.topics note in
    let at = index_same step (own_index h) h.topics note in
    let inside = part_within step h N (rests_in z w a G there) in
    let within : t.index < size_of (map_of z) t.area =
    subst (λ y. t.index < size_of (map_of y) t.area) same (subst (λ b. t.index < size_of (map_of h.state.sizes) b) (sym at.1)
    (subst (λ i. i < size_of (map_of h.state.sizes) (part_task step (own_index h) h.topics 0).area) (sym at.0) inside)) in
    ap (λ y. answered mmu w (kind_of_task y t)) same ∙ answered_is z w t within

-- the lock, where nobody holds it
pub lock_free : (z : Sizes) (w : World Held) (a : ℕ) → IsSound z w → a < actors_of z → OthersRest a w → (hand_in mmu w a).topics.hold ≡ Loose
    → word_in z w area.Lock 0 ≡ 0
lock_free z w a G there others loose =
    G.topics.lock_part.word
    ∙ ap (λ n. n + 2 ^ 63 * sum_below (actors_of z) (λ i. one_if (is_alone (hand_in mmu w i).topics.hold)))
    (sum_none (actors_of z) (λ i. one_if (counts (hand_in mmu w i).topics.hold)) (λ i lt. ap (λ (x : Hold). one_if (counts x)) (all_loose i lt)))
    ∙ ap (λ n. 0 + 2 ^ 63 * n)
    (sum_none (actors_of z) (λ i. one_if (is_alone (hand_in mmu w i).topics.hold)) (λ i lt. ap (λ (x : Hold). one_if (is_alone x)) (all_loose i lt)))
  where
    all_loose : (i : ℕ) → i < actors_of z → (hand_in mmu w i).topics.hold ≡ Loose
    all_loose i lt = by (same_or i a)
      where
        by : (i ≡ a) ⊎ (i ≢ a) → (hand_in mmu w i).topics.hold ≡ Loose
        by (inl e) = ap (λ j. (hand_in mmu w j).topics.hold) e ∙ loose
        by (inr ne) = (others i (subst (λ n. i < n) (sym G.hands) lt) ne).rests.loose

share_in : (w : World Held) (a note : ℕ) → Reachable w → a < length w.hands → OthersRest a w → (hand_in mmu w a).topics.hold ≡ Loose
    → answered mmu w (part_kind (hand_in mmu w a) part.Share note) ≡ 0
share_in w a note r there others loose =
    let G = reached_good w r in
    let lt = subst (λ n. a < n) G.hands there in
    part_found r.sizes w a part.Share note G lt loose ∙ lock_free r.sizes w a G lt others loose

pub share_alone : (w : World Held) (a note : ℕ) → ∥ Reachable w ∥₁ → a < length w.hands → OthersRest a w → (hand_in mmu w a).topics.hold ≡ Loose
    → answered mmu w (part_kind (hand_in mmu w a) part.Share note) ≡ 0
share_alone w a note reached there others loose = ∥∥₁_elim reached (hlevel props) (λ r. share_in w a note r there others loose)

exclude_in : (w : World Held) (a note : ℕ) → Reachable w → a < length w.hands → OthersRest a w → (hand_in mmu w a).topics.hold ≡ Loose
    → answered mmu w (part_kind (hand_in mmu w a) part.Exclude note) ≡ 0
exclude_in w a note r there others loose =
    let G = reached_good w r in
    let lt = subst (λ n. a < n) G.hands there in
    part_found r.sizes w a part.Exclude note G lt loose ∙ lock_free r.sizes w a G lt others loose

pub exclude_alone : (w : World Held) (a note : ℕ) → ∥ Reachable w ∥₁ → a < length w.hands → OthersRest a w → (hand_in mmu w a).topics.hold ≡ Loose
    → answered mmu w (part_kind (hand_in mmu w a) part.Exclude note) ≡ 0
exclude_alone w a note reached there others loose = ∥∥₁_elim reached (hlevel props) (λ r. exclude_in w a note r there others loose)

-- another actor's state word, where it is outside
outside_bit : (w : ℕ) → w < 8 → w % 4 ≡ 0 → in_section w ≡ false
outside_bit w lt is = grind (arith, nat_tests)

pub outside_word : (z : Sizes) (w : World Held) (a index : ℕ) → IsSound z w → OthersRest a w → index < actors_of z → index ≢ a
    → in_section (word_in z w area.State index) ≡ false
outside_word z w a index G others index_in ne =
    let S = G.topics.states_part index index_in in
    let outside = (others index (subst (λ n. index < n) (sym G.hands) index_in) ne).rests.outside in
    outside_bit (word_in z w area.State index) S.0 (S.1 ∙ ap stay_bits outside)

watch_in : (w : World Held) (a index note : ℕ) → Reachable w → a < length w.hands → OthersRest a w → index ≢ a
    → PartNeeds (part.Watch index) (hand_in mmu w a) → in_section (answered mmu w (part_kind (hand_in mmu w a) (part.Watch index) note)) ≡ false
watch_in w a index note r there others ne N =
    let G = reached_good w r in
    let lt = subst (λ n. a < n) G.hands there in
    let index_in : index < actors_of r.sizes = subst (λ (y : Sizes). index < actors_of y) (G.holds.lines a lt).sizes N.0 in
    ap in_section (part_found r.sizes w a (part.Watch index) note G lt N) ∙ outside_word r.sizes w a index G others index_in ne

pub watch_alone : (w : World Held) (a index note : ℕ) → ∥ Reachable w ∥₁ → a < length w.hands → OthersRest a w → index ≢ a
    → PartNeeds (part.Watch index) (hand_in mmu w a) → in_section (answered mmu w (part_kind (hand_in mmu w a) (part.Watch index) note)) ≡ false
watch_alone w a index note reached there others ne N = ∥∥₁_elim reached (hlevel props) (λ r. watch_in w a index note r there others ne N)

-- Who has the lock alone has it alone, and who has it as a reader shares it with readers.
one_and_one : (hold : ℕ → Hold) (n a i : ℕ) → a < n → i < n → i ≢ a → sum_below n (λ j. one_if (is_alone (hold j))) ≤ 1 → hold a ≡ Exclusive
    → is_alone (hold i) ≡ true → ⊥
one_and_one hold n a i a_in i_in ne one mine its =
    let two = sum_two n (λ j. one_if (is_alone (hold j))) i a i_in a_in ne in
    let x : one_if (is_alone (hold a)) ≡ 1 = ap (λ (h : Hold). one_if (is_alone h)) mine in
    let y : one_if (is_alone (hold i)) ≡ 1 = ap one_if its in
    absurd (omega (arith, two, x, y, one))

sole_in : (w : World Held) (a : ℕ) → Reachable w → a < length w.hands → (hand_in mmu w a).topics.hold ≡ Exclusive → NoOtherHasLock a w
sole_in w a r there mine i i_in ne = by (hand_in mmu w i).topics.hold refl
  where
    G : IsSound r.sizes w
    G = reached_good w r

    hold : ℕ → Hold
    hold j = (hand_in mmu w j).topics.hold

    a_in : a < actors_of r.sizes
    a_in = subst (λ n. a < n) G.hands there

    i_lt : i < actors_of r.sizes
    i_lt = subst (λ n. i < n) G.hands i_in

    some : 1 ≤ sum_below (actors_of r.sizes) (λ j. one_if (is_alone (hold j)))
    some =
        let ge = sum_ge (actors_of r.sizes) (λ j. one_if (is_alone (hold j))) a a_in in
        let x : one_if (is_alone (hold a)) ≡ 1 = ap (λ (h : Hold). one_if (is_alone h)) mine in
        omega (arith, ge, x)

    none : sum_below (actors_of r.sizes) (λ j. one_if (is_shared (hold j))) ≡ 0
    none = G.topics.lock_part.alone some

    by : (h : Hold) → (hand_in mmu w i).topics.hold ≡ h → has_lock h ≡ false
    by Shared is =
        let ge = sum_ge (actors_of r.sizes) (λ j. one_if (is_shared (hold j))) i i_lt in
        let x : one_if (is_shared (hold i)) ≡ 1 = ap (λ (h : Hold). one_if (is_shared h)) is in
        absurd (omega (arith, ge, x, none))
    by Exclusive is = absurd (one_and_one hold (actors_of r.sizes) a i a_in i_lt ne G.topics.lock_part.one mine (ap is_alone is))
    by _ is = refl

sole_prop : (w : World Held) (a : ℕ) → IsProp (NoOtherHasLock a w)
sole_prop w a = hlevel props

pub exclusive_is_sole : (w : World Held) (a : ℕ) → ∥ Reachable w ∥₁ → a < length w.hands → (hand_in mmu w a).topics.hold ≡ Exclusive → NoOtherHasLock a w
exclusive_is_sole w a reached there mine = ∥∥₁_elim reached (sole_prop w a) (λ r. sole_in w a r there mine)

shared_in : (w : World Held) (a : ℕ) → Reachable w → a < length w.hands → (hand_in mmu w a).topics.hold ≡ Shared → NoneHasLockAlone w
shared_in w a r there mine i i_in = by (hand_in mmu w i).topics.hold refl
  where
    G : IsSound r.sizes w
    G = reached_good w r

    hold : ℕ → Hold
    hold j = (hand_in mmu w j).topics.hold

    by : (h : Hold) → (hand_in mmu w i).topics.hold ≡ h → is_alone h ≡ false
    by Exclusive is =
        let a_in : a < actors_of r.sizes = subst (λ n. a < n) G.hands there in
        let i_lt : i < actors_of r.sizes = subst (λ n. i < n) G.hands i_in in
        let ge = sum_ge (actors_of r.sizes) (λ j. one_if (is_alone (hold j))) i i_lt in
        let x : one_if (is_alone (hold i)) ≡ 1 = ap (λ (h : Hold). one_if (is_alone h)) is in
        let none = G.topics.lock_part.alone (omega (arith, ge, x)) in
        let more = sum_ge (actors_of r.sizes) (λ j. one_if (is_shared (hold j))) a a_in in
        let y : one_if (is_shared (hold a)) ≡ 1 = ap (λ (h : Hold). one_if (is_shared h)) mine in
        absurd (omega (arith, more, y, none))
    by _ is = refl

none_prop : (w : World Held) → IsProp (NoneHasLockAlone w)
none_prop w = hlevel props

pub shared_has_no_writer : (w : World Held) (a : ℕ) → ∥ Reachable w ∥₁ → a < length w.hands → (hand_in mmu w a).topics.hold ≡ Shared → NoneHasLockAlone w
shared_has_no_writer w a reached there mine = ∥∥₁_elim reached (none_prop w) (λ r. shared_in w a r there mine)
