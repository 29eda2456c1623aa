-- What an actor finds of open invalidations, and of other actors' flushes, while all others rest.
use Rattle.std.proofs.Common.{◌≡◌, ◌⊎◌, inl, inr, ◌≢◌, ◌%◌, ◌<◌, ◌≤◌, ℕ, refl, sym, subst, ap, ◌∙◌, arith}
use Rattle.std.specs.Prelude.{Bool, true, false, ◌&&◌, nat_lt}
use Rattle.std.proofs.lemmas.Bool.Decides.{nat_tests}
use Rattle.core_views.specs.declared.sizes.Sizes.{Sizes}
use Rattle.core_views.specs.declared.topics.Invalidations.{Invalidations}
use Rattle.core_views.specs.declared.topics.Stay.TheVariants.{Outside}
use Rattle.core_views.specs.Held.{Held}
use Rattle.core_views.specs.Sizes.{actors_of}
use Rattle.spte_words.specs.declared.area.Area.TheVariants as area
use Rattle.part_steps.specs.ControlBits.{has_to_flush}
use Rattle.mmu_core.specs.alone.OthersRest.{OthersRest}
use Rattle.mmu_core.specs.invariant.Laws.{IsSound}
use Rattle.mmu_core.specs.invariant.StatesPart.{stay_bits}
use Rattle.mmu_core.specs.lines.PartWaits.{own_open, saw_open, was_counted}
use Rattle.mmu_core.specs.machine.Enabled.{mmu}
use Rattle.mmu_core.specs.machine.Machine.{World, hand_in}
use Rattle.mmu_core.specs.machine.Sums.{one_if}
use Rattle.mmu_core.specs.machine.View.{word_in}
use Rattle.mmu_core.proofs.machine.Columns.{same_or}
use Rattle.mmu_core.proofs.machine.SumsBelow.{sum_only}

-- It sees none of others open, where no more are open than its own.
pub none_more : (n : Invalidations) → n.count ≤ own_open n → saw_open n ≡ false
none_more n few = by (was_counted n.checked)
  where
    by : (b : Bool) → (b && nat_lt (own_open n) n.count) ≡ false
    by true = grind (arith, few, nat_tests)
    by false = refl

-- Outside the guest there is nothing to flush.
outside_word : (v : ℕ) → v < 8 → v % 4 ≡ 0 → has_to_flush v ≡ false
outside_word v lt is = grind (arith, nat_tests)

module _ (z : Sizes) (w : World Held) (a : ℕ) (sound : IsSound z w) (others : OthersRest a w) where
  -- No more are open than its own.
  pub own_alone : word_in z w area.Count 0 ≤ one_if (hand_in mmu w a).topics.invalidations.opened
  own_alone =
      subst (λ n. n ≤ one_if (hand_in mmu w a).topics.invalidations.opened) (sym sound.topics.counts)
      (sum_only (actors_of z) (λ i. one_if (hand_in mmu w i).topics.invalidations.opened) a
      (λ i lt ne. ap one_if (others i (subst (λ n. i < n) (sym sound.hands) lt) ne).opens_none))

  -- So none is, where it has none open.
  pub none_alone : (hand_in mmu w a).topics.invalidations.opened ≡ false → word_in z w area.Count 0 ≡ 0
  none_alone none =
      let few = own_alone in
      let zero_ : one_if (hand_in mmu w a).topics.invalidations.opened ≡ 0 = ap one_if none in
      omega (arith, few, zero_)

  -- No actor has a flush to make, where it is outside itself.
  pub flushed_alone : (index : ℕ) → index < actors_of z → (hand_in mmu w a).topics.stay ≡ Outside → has_to_flush (word_in z w area.State index) ≡ false
  flushed_alone index there outside =
      let S = sound.topics.states_part index there in
      outside_word (word_in z w area.State index) S.0 (S.1 ∙ ap stay_bits (by (same_or index a)))
    where
      by : (index ≡ a) ⊎ (index ≢ a) → (hand_in mmu w index).topics.stay ≡ Outside
      by (inl e) = ap (λ i. (hand_in mmu w i).topics.stay) e ∙ outside
      by (inr ne) = (others index (subst (λ n. index < n) (sym sound.hands) there) ne).rests.outside
