-- What a claim wins is the first one that it saw free.
use Rattle.std.proofs.Common.{◌≡◌, ◌+◌, ◌*◌, ◌%◌, ◌^◌, ◌<◌, ℕ, subst, ap, ◌∙◌, arith, w64}
use Rattle.std.specs.Prelude.{◌==◌}
use Rattle.std.proofs.lemmas.Nat.Bits.{bit_at-trailing_zeros}
use Rattle.core_views.specs.declared.topics.MapClaim.{MapClaim}
use Rattle.spte_words.specs.Bits.{has_bit}
use Rattle.part_steps.specs.PageTopics.{tried_bit}
use Rattle.table_pool.specs.Claims.{IsFirstSeen}

pub first_seen : (claim : MapClaim) (one : ℕ) → 0 < claim.seen → claim.seen < 2 ^ 64 → one ≡ 64 * claim.at + tried_bit claim → IsFirstSeen one claim
first_seen claim one some small is =
    let B = bit_at-trailing_zeros w64 claim.seen some small in
    let low : tried_bit claim < 64 = B.0 in
    let bit : one % 64 ≡ tried_bit claim = omega (arith, is, low) in
    record {
      of_word = omega (arith, is, low);
      free = ap (λ b. has_bit b claim.seen) bit ∙ ap (λ b. b == 1) B.1;
      none_before = λ i lt. ap (λ b. b == 1) (B.2 i (subst (λ b. i < b) bit lt));
    }
