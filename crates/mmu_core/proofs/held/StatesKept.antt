-- Each step of a part keeps the state words' part of the invariant.
use Rattle.std.proofs.Common.{◌≡◌, ◌≢◌, ◌⊎◌, inl, inr, ◌*◌, ◌/◌, ◌%◌, ◌^◌, ◌<◌, ℕ, zero, suc, refl, sym, subst, arith, suc, ap, ◌∙◌}
use Rattle.std.specs.Int.Bits.{bit_and, bit_or}
use Rattle.std.proofs.lemmas.Nat.Bits.{and_high_mask}
use Rattle.core_views.specs.declared.sizes.Sizes.{Sizes}
use Rattle.core_views.specs.declared.topics.Stay.{Stay}
use Rattle.core_views.specs.declared.topics.Stay.TheVariants.{Outside, Guest, Section}
use Rattle.core_views.specs.Held.{Held}
use Rattle.core_views.specs.Sizes.{actors_of}
use Rattle.spte_words.specs.declared.area.Area.TheVariants as area
use Rattle.part_steps.specs.declared.part_step.PartStep.{PartStep}
use Rattle.part_steps.specs.declared.part_step.PartStep.TheVariants as part
use Rattle.part_steps.specs.PartTasks.{all_but}
use Rattle.mmu_core.specs.invariant.StatesPart.{StatesPart, stay_bits}
use Rattle.mmu_core.specs.invariant.TopicsInvariant.{TopicsInvariant}
use Rattle.mmu_core.specs.machine.View.{View, part_stepped, upd}
use Rattle.part_steps.specs.ControlBits.{request_bit}
use Rattle.mmu_core.proofs.machine.Columns.{at_upd, same_or, upd_other, upd_same}
use Rattle.mmu_core.proofs.machine.PartStepping.{IsPart}
use Rattle.mmu_core.proofs.words.PartTopics.{behind_step, part_behind}
use Rattle.mmu_core.proofs.machine.SumsBelow.{framed}

-- the state words' part, of a view
abbrev pub StatesAt : Sizes → View → Type 0
StatesAt z v = StatesPart (actors_of z) (v.words area.State) (λ i. (v.hand i).topics.stay)

-- The word tells this stay.
abbrev Tells : ℕ → Stay → Type 0
Tells w stay = (w < 8) × (w % 4 ≡ stay_bits stay)

-- the state word after each step on it
left_word : (w : ℕ) → Tells w Guest → Tells (bit_and w (all_but 3)) Outside
left_word w is =
    let e : bit_and w (all_but 3) ≡ w / 2 ^ 2 * 2 ^ 2 = and_high_mask 64 2 (omega arith) w (omega (arith, is.0)) in
    (omega (arith, e, is.0, is.1), omega (arith, e, is.0, is.1))

begun_word : (w : ℕ) → Tells w Outside → Tells (bit_or w 2) Section
begun_word w is = by (same_or w 0)
  where
    by : (w ≡ 0) ⊎ (w ≢ 0) → Tells (bit_or w 2) Section
    by (inl e) = subst (λ n. Tells (bit_or n 2) Section) (sym e) (omega arith, refl)
    by (inr ne) = let e : w ≡ 4 = omega (arith, is.0, is.1) in subst (λ n. Tells (bit_or n 2) Section) (sym e) (omega arith, refl)

ended_word : (w : ℕ) → Tells w Section → Tells (bit_and w (all_but 2)) Outside
ended_word w is = by (same_or w 2)
  where
    by : (w ≡ 2) ⊎ (w ≢ 2) → Tells (bit_and w (all_but 2)) Outside
    by (inl e) = subst (λ n. Tells (bit_and n (all_but 2)) Outside) (sym e) (omega arith, refl)
    by (inr ne) = let e : w ≡ 6 = omega (arith, is.0, is.1) in subst (λ n. Tells (bit_and n (all_but 2)) Outside) (sym e) (omega arith, refl)

-- a word that tells where its actor is now
told : (n : ℕ) (states : ℕ → ℕ) (hand : ℕ → Held) (a x : ℕ) (h : Held) → Tells x h.topics.stay → StatesPart n states (λ i. (hand i).topics.stay)
    → StatesPart n (upd states a x) (λ i. (upd hand a h i).topics.stay)
told n states hand a x h is I = at_upd (λ i (k : Held). i < n → Tells (upd states a x i) k.topics.stay) hand a h (λ lt. here) (λ i ne lt. there i ne lt)
  where
    here : Tells (upd states a x a) h.topics.stay
    here = subst (λ w. Tells w h.topics.stay) (sym (upd_same states a x)) is

    there : (i : ℕ) → i ≢ a → i < n → Tells (upd states a x i) (hand i).topics.stay
    there i ne lt = subst (λ w. Tells w (hand i).topics.stay) (sym (upd_other states a i x ne)) (I i lt)

-- A flush is asked for: the word tells where its actor is, as before.
request_word : (w : ℕ) → w < 8 → (bit_or w request_bit < 8) × (bit_or w request_bit % 4 ≡ w % 4)
request_word zero lt = (omega arith, refl)
request_word (suc zero) lt = (omega arith, refl)
request_word (suc (suc zero)) lt = (omega arith, refl)
request_word (suc (suc (suc zero))) lt = (omega arith, refl)
request_word (suc (suc (suc (suc zero)))) lt = (omega arith, refl)
request_word (suc (suc (suc (suc (suc zero))))) lt = (omega arith, refl)
request_word (suc (suc (suc (suc (suc (suc zero)))))) lt = (omega arith, refl)
request_word (suc (suc (suc (suc (suc (suc (suc zero))))))) lt = (omega arith, refl)
request_word (suc (suc (suc (suc (suc (suc (suc (suc n)))))))) lt = absurd (omega (arith, lt))

asked : (n : ℕ) (states : ℕ → ℕ) (hand : ℕ → Held) (index : ℕ) → StatesPart n states (λ i. (hand i).topics.stay)
    → StatesPart n (upd states index (bit_or (states index) request_bit)) (λ i. (hand i).topics.stay)
asked n states hand index I i lt = by (same_or i index)
  where
    by : (i ≡ index) ⊎ (i ≢ index) → Tells (upd states index (bit_or (states index) request_bit) i) (hand i).topics.stay
    by (inl e) =
        let is = I i lt in
        let more = request_word (states i) is.0 in
        subst (λ w. Tells w (hand i).topics.stay) (sym (ap (upd states index (bit_or (states index) request_bit)) e
        ∙ upd_same states index (bit_or (states index) request_bit) ∙ ap (λ j. bit_or (states j) request_bit) (sym e)))
        (more.0, more.1 ∙ is.1)
    by (inr ne) = subst (λ w. Tells w (hand i).topics.stay) (sym (upd_other states index i (bit_or (states index) request_bit) ne)) (I i lt)

-- a stay that is kept
pub states_frame : (n : ℕ) (states : ℕ → ℕ) (hand : ℕ → Held) (a : ℕ) (h : Held) → h.topics.stay ≡ (hand a).topics.stay
    → StatesPart n states (λ i. (hand i).topics.stay) → StatesPart n states (λ i. (upd hand a h i).topics.stay)
states_frame n states hand a h e I = framed (λ (c : ℕ → Stay). StatesPart n states c) (λ (k : Held). k.topics.stay) hand a h e I

abbrev StatesBehind : Sizes → View → ℕ → ℕ → PartStep → Type 0
StatesBehind z v a note step = IsPart z v a step → TopicsInvariant z v → StatesAt z (part_behind a step note v)

-- what the own word tells
own_word : (z : Sizes) (v : View) (a : ℕ) (step : PartStep) (stay : Stay) → IsPart z v a step → TopicsInvariant z v → (v.hand a).topics.stay ≡ stay
    → Tells (v.words area.State a) stay
own_word z v a step stay S I is = subst (Tells (v.words area.State a)) is (I.states_part a S.there)

states_behind : (z : Sizes) (v : View) (a note : ℕ) (step : PartStep) → StatesBehind z v a note step
states_behind z v a note part.Enter = λ S I. told (actors_of z) (v.words area.State) v.hand a 3 _ (omega arith, refl) I.states_part
states_behind z v a note part.Leave =
    λ S I. told (actors_of z) (v.words area.State) v.hand a _ _ (left_word (v.words area.State a) (own_word z v a part.Leave Guest S I S.needs))
    I.states_part
states_behind z v a note part.Begin =
    λ S I. told (actors_of z) (v.words area.State) v.hand a _ _ (begun_word (v.words area.State a) (own_word z v a part.Begin Outside S I S.needs))
    I.states_part
states_behind z v a note part.End =
    λ S I. told (actors_of z) (v.words area.State) v.hand a _ _ (ended_word (v.words area.State a) (own_word z v a part.End Section S I S.needs.0))
    I.states_part
states_behind z v a note (part.Ask index) = λ S I. states_frame (actors_of z)
    (upd (v.words area.State) index (bit_or (v.words area.State index) request_bit)) v.hand a _ refl
    (asked (actors_of z) (v.words area.State) v.hand index I.states_part)
states_behind z v a note _ = λ S I. states_frame (actors_of z) (v.words area.State) v.hand a _ refl I.states_part

pub states_kept : (z : Sizes) (v : View) (a : ℕ) (step : PartStep) (note : ℕ) → IsPart z v a step → TopicsInvariant z v
    → StatesAt z (part_stepped a step note v)
states_kept z v a step note S I = behind_step (StatesAt z) z v a step note S (states_behind z v a note step S I)
