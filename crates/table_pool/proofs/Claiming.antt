-- What a claim's step says of the worlds that are told before it and after it.
use Rattle.std.proofs.Common.{◌≡◌, inl, inr, ◌+◌, ◌*◌, ◌/◌, ◌%◌, ◌^◌, ◌<◌, ℕ, Option, Some, None, refl, sym, subst, ap, ◌∙◌, arith, bit_and, w64}
use Rattle.std.specs.Prelude.{Bool, true, false, ◌==◌, ◌&&◌, nat_lt, if◌then◌else◌}
use Rattle.std.specs.Int.{bit_not}
use Rattle.std.proofs.lemmas.Bool.Decides.{nat_tests}
use Rattle.std.proofs.lemmas.Nat.{and-not, and_comm}
use Rattle.std.proofs.lemmas.Nat.Bits.{and_pow, bit_at-trailing_zeros}
use Rattle.std.proofs.Math.Pow.{pow-lt}
use Rattle.core_views.specs.declared.topics.MapClaim.{MapClaim}
use Rattle.core_views.specs.declared.topics.Topics.{Topics}
use Rattle.core_views.specs.Held.{Held}
use Rattle.spte_words.specs.Areas.{size_of, words_of_bits}
use Rattle.spte_words.specs.Bits.{has_bit}
use Rattle.part_steps.specs.declared.part_step.PartStep.{PartStep}
use Rattle.part_steps.specs.declared.part_step.PartStep.TheVariants as part
use Rattle.mmu_core.specs.machine.MayMake.{MayMake}
use Rattle.part_steps.specs.PartBounds.{PartRests}
use Rattle.part_steps.specs.PartSteps.{PartNeeds, needs_line}
use Rattle.core_views.specs.declared.sizes.Sizes.{Sizes}
use Rattle.part_steps.specs.Tasks.{map_of}
use Rattle.mmu_core.specs.declared.claim.FreeMap.{FreeMap}
use Rattle.mmu_core.specs.declared.claim.FreeMap.TheVariants.{Pages, Frames}
use Rattle.mmu_core.specs.invariant.Scans.{OwnsNone}
use Rattle.mmu_core.specs.orders.ClaimSteps.{claim_over, load_part, map_area, map_word, map_words, try_part}
use Rattle.mmu_core.specs.machine.Steps.{has_line}
use Rattle.part_steps.specs.PageTopics.{is_won, tried_bit}
use Rattle.mmu_core.specs.machine.Worlds.{HandReached}
use Rattle.mmu_core.proofs.invariant.PartRested.{may_make, reached_part_rests}
use Rattle.table_pool.specs.Claims.{claim_of, claim_step, next_word, sees_free}
use Rattle.table_pool.specs.declared.claim.Claim.{Claim}
use Rattle.table_pool.proofs.EitherMap.{got_by, load_owns_none, load_within, try_owns_none, try_within}

-- The bit that a claim tries is one of the word's, and stands in what it saw.
pub low_bit : (claim : MapClaim) → 0 < claim.seen → claim.seen < 2 ^ 64 → tried_bit claim < 64
low_bit claim some small = (bit_at-trailing_zeros w64 claim.seen some small).0

pub saw_bit : (claim : MapClaim) → 0 < claim.seen → claim.seen < 2 ^ 64 → has_bit (tried_bit claim) claim.seen ≡ true
saw_bit claim some small = ap (λ b. b == 1) (bit_at-trailing_zeros w64 claim.seen some small).1

-- Clearing a bit that is clear leaves the number.
pub still : (n j : ℕ) → j < 64 → n < 2 ^ 64 → has_bit j n ≡ false → bit_and n (bit_not w64 (2 ^ j)) ≡ n
still n j low small clear =
    let power : 2 ^ j < 2 ^ 64 = pow-lt low in
    let none : n / 2 ^ j % 2 ≡ 0 = grind (arith, nat_tests, clear) in
    let parts = and-not 64 (2 ^ j) n power small in
    let shared : bit_and (2 ^ j) n ≡ 0 = and_comm (2 ^ j) n ∙ and_pow n j ∙ (ap (λ b. b * 2 ^ j) none ∙ omega arith) in
    and_comm n (bit_not w64 (2 ^ j)) ∙ omega (arith, parts, shared)

-- A claim's step is a try, or the load of its next word.
module _ (job : Claim) (t : Topics) where
  abbrev pub step_if : Bool → PartStep
  step_if tries = if tries then try_part job.map else load_part job.map (next_word job (claim_of job t))

  pub tries_it : sees_free job (claim_of job t) ≡ true → claim_step job t ≡ try_part job.map
  tries_it tries = ap step_if tries

  pub loads_it : sees_free job (claim_of job t) ≡ false → claim_step job t ≡ load_part job.map (next_word job (claim_of job t))
  loads_it loads = ap step_if loads

-- It tries where it saw something free.
pub saw_some : (job : Claim) (claim : MapClaim) → sees_free job claim ≡ true → 0 < claim.seen
saw_some job claim tries = by job.begun tries
  where
    by : (begun : Bool) → begun && nat_lt 0 claim.seen ≡ true → 0 < claim.seen
    by true saw = grind (arith, nat_tests, saw)
    by false saw = absurd (cc saw)

-- Either step needs a word of the map, and that nothing of the map is owned.
pub claim_owns_none : (job : Claim) (h : Held) → PartNeeds (claim_step job h.topics) h → OwnsNone job.map h.topics
claim_owns_none job h needs = by (sees_free job (claim_of job h.topics)) needs
  where
    by : (tries : Bool) → PartNeeds (step_if job h.topics tries) h → OwnsNone job.map h.topics
    by true N = try_owns_none job.map h N
    by false N = load_owns_none job.map (next_word job (claim_of job h.topics)) h N

pub claim_inside : (job : Claim) (h : Held) → PartNeeds (claim_step job h.topics) h → next_word job (claim_of job h.topics) < map_words job.map h.state.sizes
claim_inside job h needs = by job.begun (nat_lt 0 (claim_of job h.topics).seen) needs
  where
    by : (begun saw : Bool) → PartNeeds (if begun && saw then try_part job.map else load_part job.map (map_word begun (claim_of job h.topics))) h
        → map_word begun (claim_of job h.topics) < map_words job.map h.state.sizes
    by true true N = try_within job.map h N
    by true false N = load_within job.map (claim_of job h.topics).at h N
    by false saw N = load_within job.map 0 h N

-- Where it tries, the word that it has come to is one of the map.
pub tries_inside : (job : Claim) (claim : MapClaim) (z : Sizes) → sees_free job claim ≡ true → next_word job claim < map_words job.map z
    → claim.at < size_of (map_of z) (map_area job.map)
tries_inside job claim z tries inside = by job.map job.begun tries inside
  where
    by : (map : FreeMap) (begun : Bool) → begun && nat_lt 0 claim.seen ≡ true → map_word begun claim < map_words map z
        → claim.at < size_of (map_of z) (map_area map)
    by Pages true saw within = within
    by Frames true saw within = within
    by map false saw within = absurd (cc saw)

-- Whether a try got something says whether it was won, and what it is.
pub won_if : (claim : MapClaim) (found one : ℕ) → got_by claim found ≡ Some one → (is_won claim found ≡ true) × (one ≡ 64 * claim.at + tried_bit claim)
won_if claim found one is = by (is_won claim found) refl is
  where
    by : (b : Bool) → is_won claim found ≡ b → ◌≡◌ {A = Option ℕ} (if b then Some (64 * claim.at + tried_bit claim) else None) (Some one)
        → (is_won claim found ≡ true) × (one ≡ 64 * claim.at + tried_bit claim)
    by true won e = (won, let same : 64 * claim.at + tried_bit claim ≡ one = cc e in sym same)
    by false lost e = absurd (cc e)

pub lost_if : (claim : MapClaim) (found : ℕ) → got_by claim found ≡ None → is_won claim found ≡ false
lost_if claim found is = by (is_won claim found) is
  where
    by : (b : Bool) → ◌≡◌ {A = Option ℕ} (if b then Some (64 * claim.at + tried_bit claim) else None) None → b ≡ false
    by true e = absurd (cc e)
    by false e = refl

-- A claim of a page that isn't over may go on.
going : (begun : Bool) (h : Held) → PartRests h → h.topics.owned ≡ None → (begun ≡ true → h.topics.claim.at < words_of_bits h.state.sizes.pool)
    → PartNeeds (claim_step (record { map = Pages; begun = begun }) h.topics) h
going begun h R none before = by begun refl (nat_lt 0 claim.seen) (λ e. grind (arith, nat_tests)) (λ e. grind (arith, nat_tests))
  where
    claim : MapClaim
    claim = h.topics.claim

    words : 0 < words_of_bits h.state.sizes.pool
    words = let pool = R.sizes.pool.0 in omega (arith, pool)

    by : (b : Bool) → begun ≡ b → (saw : Bool) → (saw ≡ true → 0 < claim.seen) → (saw ≡ false → claim.seen ≡ 0)
        → PartNeeds (if b && saw then part.Claim else part.Map (if b then claim.at else 0)) h
    by true is true some zero_ = (none, some refl, before is)
    by true is false some zero_ = (none, before is, inr (refl, zero_ refl))
    by false is saw some zero_ = (none, words, inl refl)

-- A step of a claim of a page isn't one of lines alone.
claims_free : (tries : Bool) (word : ℕ) → needs_line (if tries then part.Claim else part.Map word) ≡ false
claims_free true word = refl
claims_free false word = refl

may_claim_page : (begun : Bool) (note : ℕ) (h : Held) → ∥ HandReached h ∥₁ → has_line h ≡ false → h.topics.owned ≡ None
    → (begun ≡ true → h.topics.claim.at < words_of_bits h.state.sizes.pool) → MayMake (claim_step (record { map = Pages; begun = begun }) h.topics) note h
may_claim_page begun note h reached idle none before =
    let job : Claim = record { map = Pages; begun = begun } in
    let R : PartRests h = reached_part_rests h reached in
    may_make h (claim_step job h.topics) note R idle (claims_free (sees_free job h.topics.claim) (next_word job h.topics.claim)) (going begun h R none before)

pub may_claim : (job : Claim) (note : ℕ) (h : Held) → job.map ≡ Pages → ∥ HandReached h ∥₁ → has_line h ≡ false → OwnsNone job.map h.topics
    → (job.begun ≡ true → (claim_of job h.topics).at < map_words job.map h.state.sizes) → MayMake (claim_step job h.topics) note h
may_claim job note h is reached idle none before =
    subst (λ m. MayMake (claim_step (record { map = m; begun = job.begun }) h.topics) note h) (sym is)
    (may_claim_page job.begun note h reached idle (subst (λ m. OwnsNone m h.topics) is none)
    (subst (λ m. job.begun ≡ true → (claim_over m h.topics).at < map_words m h.state.sizes) is before))
