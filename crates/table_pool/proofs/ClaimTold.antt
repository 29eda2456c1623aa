-- What a step of a claim says of the words where it was made: what was tried was free, and what was seen stands in the map.
use Rattle.std.proofs.Common.{◌≡◌, ◌+◌, ◌^◌, ◌<◌, ℕ, Some, None, refl, sym, subst, ap, ◌∙◌, arith, bit_and, w64}
use Rattle.std.specs.Prelude.{Bool, true, false, ◌==◌, IfSome, if◌then◌else◌}
use Rattle.std.specs.Int.{bit_not}
use Rattle.std.proofs.lemmas.Bool.Decides.{nat_tests}
use Rattle.core_views.specs.declared.progress.Seen.{Seen}
use Rattle.core_views.specs.declared.sizes.Sizes.{Sizes}
use Rattle.core_views.specs.declared.topics.MapClaim.{MapClaim}
use Rattle.core_views.specs.declared.topics.Topics.{Topics}
use Rattle.core_views.specs.Held.{Held}
use Rattle.spte_words.specs.Bits.{has_bit}
use Rattle.mmu_core.specs.machine.Machine.{World}
use Rattle.part_steps.specs.PartTasks.{own_index, part_task}
use Rattle.part_steps.specs.PartSteps.{PartNeeds}
use Rattle.mmu_core.specs.declared.claim.FreeMap.{FreeMap}
use Rattle.mmu_core.specs.invariant.PoolPart.{is_free}
use Rattle.mmu_core.specs.orders.ClaimSteps.{claim_over, load_part, map_area, try_part}
use Rattle.part_steps.specs.PageTopics.{is_won, tried, tried_bit}
use Rattle.mmu_core.specs.machine.View.{answer_in, word_in}
use Rattle.mmu_core.proofs.words.PoolBits.{page_free}
use Rattle.step_seats.specs.Seats.{Seat}
use Rattle.step_seats.specs.PartTurns.{MadePart}
use Rattle.table_pool.proofs.ClaimTurns.{takes_it}
use Rattle.table_pool.specs.Claims.{LosesOne, SawStands, TakesOne, claim_of, claim_step, next_word, sees_free}
use Rattle.table_pool.specs.Maps.{IsFreeIn, got_in}
use Rattle.table_pool.specs.declared.claim.Claim.{Claim}
use Rattle.step_seats.proofs.ToldWords.{StepsTo, told_before, told_both}
use Rattle.step_seats.proofs.Where.{ToldBoth}
use Rattle.table_pool.proofs.Claiming.{lost_if, low_bit, saw_bit, step_if, still, tries_it, won_if}
use Rattle.table_pool.proofs.EitherMap.{claim_held, load_finds, load_holds, load_leaves, none_held, try_claims, try_finds, try_gets, try_leaves, try_seen}

-- A try was made.
module _ (map : FreeMap) (note found : ℕ) (before after : Seat) (N : PartNeeds (try_part map) before.hand)
    (small : (claim_over map before.hand.topics).seen < 2 ^ 64) (M : MadePart (try_part map) note found before after) where
  abbrev z : Sizes
  z = before.hand.state.sizes

  abbrev claim : MapClaim
  claim = claim_over map before.hand.topics

  abbrev words_in : World Held → ℕ → ℕ
  words_in w = word_in z w (map_area map)

  some : 0 < claim.seen
  some = try_seen map before.hand N

  low : tried_bit claim < 64
  low = low_bit claim some small

  finds_it : (w : World Held) → found ≡ answer_in (part_task (try_part map) (own_index before.hand) before.hand.topics note) (word_in z w)
      → found ≡ words_in w claim.at
  finds_it w is = is ∙ try_finds map (own_index before.hand) note before.hand.topics (word_in z w)

  -- What was claimed stood free in the world.
  claimed_free : (one : ℕ) → got_in map after.hand.topics ≡ Some one → IfSome before.tells.world (IsFreeIn map z one)
  claimed_free one is =
      let won = won_if claim found one (sym (try_gets map before.hand.topics found) ∙ ap (got_in map) (sym M.topics) ∙ is) in
      told_before before.tells.world after.tells.world before.actor note found (try_part map) before.hand (IsFreeIn map z one) N M.has M.world
      (λ w finds. ap (is_free (words_in w)) won.1 ∙ page_free (words_in w) claim.at (tried_bit claim) low
      ∙ ap (has_bit (tried_bit claim)) (sym (finds_it w finds)) ∙ won.0)

  -- Where what the claim saw stands in the world, the claim is won.
  claim_alone : got_in map after.hand.topics ≡ None → IfSome before.tells.world (λ w. SawStands map z claim w → ⊥)
  claim_alone is =
      let lost : has_bit (tried_bit claim) found ≡ false =
      lost_if claim found (sym (try_gets map before.hand.topics found) ∙ ap (got_in map) (sym M.topics) ∙ is) in
      told_before before.tells.world after.tells.world before.actor note found (try_part map) before.hand (λ w. SawStands map z claim w → ⊥) N M.has M.world
      (λ w finds stands. let seen : found ≡ claim.seen = finds_it w finds ∙ stands some in let bit = saw_bit claim some small in
      let clear = ap (has_bit (tried_bit claim)) (sym seen) ∙ lost in cc (bit, clear))

  -- After a claim that was lost, what was seen stands in the world.
  claim_stands : found < 2 ^ 64 → ToldBoth before.tells.world after.tells.world (λ w t. SawStands map z (claim_over map after.hand.topics) t)
  claim_stands fits = told_both before.tells.world after.tells.world before.actor note found (try_part map) before.hand
      (λ w t. SawStands map z (claim_over map after.hand.topics) t) N M.has M.world each
    where
      is : claim_over map after.hand.topics ≡ tried claim found
      is = ap (claim_over map) M.topics ∙ try_claims map before.hand.topics found

      each : (w u : World Held) → StepsTo z (part_task (try_part map) (own_index before.hand) before.hand.topics note) found w u
          → SawStands map z (claim_over map after.hand.topics) u
      each w u moved = subst (λ (c : MapClaim). SawStands map z c u) (sym is) (by (is_won claim found) refl)
        where
          by : (b : Bool) → is_won claim found ≡ b
              → SawStands map z (record { at = if b then 0 else claim.at; seen = if b then 0 else found }) u
          by true won some = absurd (omega (arith, some))
          by false lost some =
              moved.leaves (map_area map) claim.at ∙ try_leaves map (own_index before.hand) note before.hand.topics (word_in z w)
              ∙ ap (λ n. bit_and n (bit_not w64 (2 ^ tried_bit claim))) (sym (finds_it w moved.finds)) ∙ still found (tried_bit claim) low fits lost

-- A word that was loaded stands in the world.
load_stands : (map : FreeMap) (word note found : ℕ) (before after : Seat) → PartNeeds (load_part map word) before.hand
    → MadePart (load_part map word) note found before after
    → ToldBoth before.tells.world after.tells.world (λ w t. SawStands map before.hand.state.sizes (claim_over map after.hand.topics) t)
load_stands map word note found before after N M =
    told_both before.tells.world after.tells.world before.actor note found (load_part map word) before.hand
    (λ w t. SawStands map z (claim_over map after.hand.topics) t) N M.has M.world each
  where
    z : Sizes
    z = before.hand.state.sizes

    t : Topics
    t = before.hand.topics

    is : claim_over map after.hand.topics ≡ record { at = word + (if found == 0 then 1 else 0); seen = found }
    is = ap (claim_over map) (M.topics ∙ load_holds map word t found) ∙ claim_held map _ t

    each : (w u : World Held) → StepsTo z (part_task (load_part map word) (own_index before.hand) t note) found w u
        → SawStands map z (claim_over map after.hand.topics) u
    each w u moved = subst (λ (c : MapClaim). SawStands map z c u) (sym is) (by (found == 0) (λ e. grind (arith, nat_tests)))
      where
        by : (b : Bool) → (b ≡ true → found ≡ 0) → SawStands map z (record { at = word + (if b then 1 else 0); seen = found }) u
        by true none some = let zero_ = none refl in absurd (omega (arith, some, zero_))
        by false none some =
            ap (word_in z u (map_area map)) (omega arith)
            ∙ (moved.leaves (map_area map) word ∙ load_leaves map word (own_index before.hand) note t (word_in z w) (map_area map) word
            ∙ sym (moved.finds ∙ load_finds map word (own_index before.hand) note t (word_in z w)))

-- The step of a claim was made, whichever of the two it is.
module _ (job : Claim) (note found : ℕ) (before after : Seat) (small : (claim_of job before.hand.topics).seen < 2 ^ 64)
    (needs : PartNeeds (claim_step job before.hand.topics) before.hand) (made : MadePart (claim_step job before.hand.topics) note found before after) where
  try_needs : sees_free job (claim_of job before.hand.topics) ≡ true → PartNeeds (try_part job.map) before.hand
  try_needs tries = subst (λ s. PartNeeds s before.hand) (tries_it job before.hand.topics tries) needs

  tried_it : sees_free job (claim_of job before.hand.topics) ≡ true → MadePart (try_part job.map) note found before after
  tried_it tries = subst (λ s. MadePart s note found before after) (tries_it job before.hand.topics tries) made

  pub taken_was_free : (one : ℕ) → TakesOne job one before.hand.topics after.hand.topics
      → IfSome before.tells.world (IsFreeIn job.map before.hand.state.sizes one)
  taken_was_free one taken =
      claimed_free job.map note found before after (try_needs taken.tries) small (tried_it taken.tries) one (takes_it job one _ _ taken)

  pub lost_never_stood : (seen : Seen) → LosesOne before.hand.state.sizes job seen before.hand.topics after.hand.topics
      → IfSome before.tells.world (λ w. SawStands job.map before.hand.state.sizes (claim_of job before.hand.topics) w → ⊥)
  lost_never_stood seen lost =
      claim_alone job.map note found before after (try_needs lost.tries) small (tried_it lost.tries) (none_held job.map after.hand.topics lost.owns_none)

  pub seen_stands : found < 2 ^ 64
      → ToldBoth before.tells.world after.tells.world (λ w t. SawStands job.map before.hand.state.sizes (claim_of job after.hand.topics) t)
  seen_stands fits = by (sees_free job (claim_of job before.hand.topics)) needs made
    where
      by : (tries : Bool) → PartNeeds (step_if job before.hand.topics tries) before.hand
          → MadePart (step_if job before.hand.topics tries) note found before after
          → ToldBoth before.tells.world after.tells.world (λ w t. SawStands job.map before.hand.state.sizes (claim_of job after.hand.topics) t)
      by true N M = claim_stands job.map note found before after N small M fits
      by false N M = load_stands job.map (next_word job (claim_of job before.hand.topics)) note found before after N M
