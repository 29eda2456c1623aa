-- Claims of pool pages and of frames of the host: what comes next, and what each answer says.
use Rattle.std.specs.Prelude.{◌≡◌, ◌≢◌, ◌+◌, ◌*◌, ◌/◌, ◌%◌, ◌<◌, ◌⊎◌, ℕ, Bool, true, false}
use Rattle.core_views.specs.declared.progress.Seen.{Seen}
use Rattle.core_views.specs.declared.sizes.Sizes.{Sizes}
use Rattle.core_views.specs.declared.topics.MapClaim.{MapClaim}
use Rattle.core_views.specs.declared.topics.Topics.{Topics}
use Rattle.core_views.specs.Held.{Held}
use Rattle.spte_words.specs.Areas.{place}
use Rattle.spte_words.specs.Bits.{has_bit}
use Rattle.part_steps.specs.declared.part_step.PartStep.{PartStep}
use Rattle.mmu_core.specs.machine.Machine.{World}
use Rattle.part_steps.specs.PartTopics.{part_topics}
use Rattle.mmu_core.specs.declared.claim.FreeMap.{FreeMap}
use Rattle.mmu_core.specs.orders.ClaimSteps.{claim_left, claim_over, claim_part, map_area, map_word, map_words, tries_one, try_part}
use Rattle.mmu_core.specs.invariant.Scans.{OwnsNone}
use Rattle.part_steps.specs.Tasks.{map_of}
use Rattle.part_steps.specs.PageTopics.{tried_bit}
use Rattle.mmu_core.specs.machine.View.{word_in}
use Rattle.step_seats.specs.declared.turn.Turn.{Turn}
use Rattle.step_seats.specs.declared.turn.Turn.TheVariants.{More, Wait, Retry, Done}
use Rattle.table_pool.specs.ClaimedAlone.{IsClaimersAlone}
use Rattle.table_pool.specs.Maps.{IsFreeIn, with_claim, with_got}
use Rattle.table_pool.specs.declared.claim.Claim.{Claim}
use Rattle.table_pool.specs.declared.claim.Claimed.{Claimed}
use Rattle.table_pool.specs.declared.claim.Claimed.TheVariants.{Got, Empty}
use Rattle.step_seats.specs.PartTurns.{WherePartMade}
use Rattle.step_seats.specs.Seats.{Seat}

-- what is held of the claim
abbrev pub claim_of : Claim → Topics → MapClaim
claim_of job t = claim_over job.map t

-- The claim has begun, and saw something free in the word that it has come to.
abbrev pub sees_free : Claim → MapClaim → Bool
sees_free job claim = tries_one job.begun claim

-- the word of the map that a claim loads next: the first one, where it hasn't begun
abbrev pub next_word : Claim → MapClaim → ℕ
next_word job claim = map_word job.begun claim

-- A claim tries the lowest page or frame of those that it saw, and loads the next word where it saw none.
abbrev pub claim_step : Claim → Topics → PartStep
claim_step job t = claim_part job.map job.begun (claim_of job t)

-- The claim has come to this word, and saw something free in it.
abbrev pub SawFree : ℕ → MapClaim → Type 0
SawFree word claim = (claim.at ≡ word) × (0 < claim.seen)

-- It saw none in this word, and goes on to the one after it.
abbrev pub SawNone : ℕ → MapClaim → Type 0
SawNone word claim = (claim.at ≡ word + 1) × (claim.seen ≡ 0)

-- The next word was loaded, and there is more to do: something free was seen in it, or nothing was, and it isn't the last one. Nothing else
-- that the actor holds has changed.
pub record LooksOn (z : Sizes) (job : Claim) (before after : Topics) : Type 0 where
  pub loads : sees_free job (claim_of job before) ≡ false
  pub saw : SawFree (next_word job (claim_of job before)) (claim_of job after) ⊎ SawNone (next_word job (claim_of job before)) (claim_of job after)
  pub within : (claim_of job after).at < map_words job.map z
  pub owns_none : OwnsNone job.map after
  pub only : after ≡ with_claim job.map (claim_of job after) before

-- The page or frame is the first one of those that were seen free in the word of the map that the claim has come to.
pub record IsFirstSeen (one : ℕ) (claim : MapClaim) : Type 0 where
  pub of_word : one / 64 ≡ claim.at
  pub free : has_bit (one % 64) claim.seen ≡ true
  pub none_before : (i : ℕ) → i < one % 64 → has_bit i claim.seen ≡ false

-- The claim tried this page or frame, and its bit stood in the word that was found. The actor owns it, with nothing filled, and its claim is over. Nothing
-- else that it holds has changed.
pub record TakesOne (job : Claim) (one : ℕ) (before after : Topics) : Type 0 where
  pub tries : sees_free job (claim_of job before) ≡ true
  pub tried : one ≡ 64 * (claim_of job before).at + tried_bit (claim_of job before)
  pub found : ℕ
  pub leads : after ≡ part_topics (try_part job.map) before found
  pub stood : has_bit (one % 64) found ≡ true
  pub behind : after ≡ with_got job.map one before

-- The lowest page or frame of those seen was taken meanwhile: what was seen is the word of the map with its bit clear. The actor owns none, and
-- its claim goes on with what was seen. Nothing else that it holds has changed.
pub record LosesOne (z : Sizes) (job : Claim) (seen : Seen) (before after : Topics) : Type 0 where
  pub tries : sees_free job (claim_of job before) ≡ true
  pub word : seen.word ≡ place (map_of z) (map_area job.map) (claim_of job before).at
  pub taken : has_bit (tried_bit (claim_of job before)) seen.value ≡ false
  pub owns_none : OwnsNone job.map after
  pub behind : after ≡ with_claim job.map (record { at = (claim_of job before).at; seen = seen.value }) before

-- The last word of the map was loaded, and nothing free was seen in it: the claim has come after all words. Nothing else that the
-- actor holds has changed.
pub record FindsNone (z : Sizes) (job : Claim) (before after : Topics) : Type 0 where
  pub loads : sees_free job (claim_of job before) ≡ false
  pub last : next_word job (claim_of job before) + 1 ≡ map_words job.map z
  pub owns_none : OwnsNone job.map after
  pub behind : after ≡ with_claim job.map (record { at = map_words job.map z; seen = 0 }) before

-- what each answer of a claim's turn says of what the actor held before and holds after it
abbrev pub ClaimTurn : Sizes → Claim → Turn Claimed → Topics → Topics → Type 0
ClaimTurn z job More before after = LooksOn z job before after
ClaimTurn z job (Wait seen) before after = LosesOne z job seen before after
ClaimTurn z job (Retry cause) before after = ⊥
ClaimTurn z job (Done (Got one)) before after = TakesOne job one before after
ClaimTurn z job (Done Empty) before after = FindsNone z job before after

-- Where the claim saw something free, what it saw is what stands in the map.
abbrev pub SawStands : FreeMap → Sizes → MapClaim → World Held → Type 0
SawStands map z claim w = 0 < claim.seen → word_in z w (map_area map) claim.at ≡ claim.seen

-- at most so many turns until a claim is over, where none of them waits
abbrev pub claim_turns : Sizes → Claim → Topics → ℕ
claim_turns z job t = claim_left job.map job.begun z (claim_of job t)

-- It holds where the next step of the claim was made.
abbrev pub WhereClaimed : Claim → ℕ → Seat → Seat → (World Held → World Held → Type 0) → Type 0
WhereClaimed job note before after P = WherePartMade (claim_step job before.hand.topics) note before after P

-- A page or frame that the turn answers was free where its claim was made.
abbrev pub WasFree : Turn Claimed → Claim → ℕ → Seat → Seat → Type 0
WasFree turn job note before after =
    (one : ℕ) → turn ≡ Done (Got one) → WhereClaimed job note before after (λ w v. IsFreeIn job.map before.hand.state.sizes one w)

-- It is the claimer's alone then.
abbrev pub IsItsAlone : Turn Claimed → Claim → ℕ → Seat → Seat → Type 0
IsItsAlone turn job note before after =
    (one : ℕ) → turn ≡ Done (Got one)
    → WhereClaimed job note before after (λ w v. IsClaimersAlone job.map before.hand.state.sizes before.actor one v)

-- Where the step was made, what the claim saw stands in the map then.
abbrev pub SawWhatStands : Claim → ℕ → Seat → Seat → Type 0
SawWhatStands job note before after =
    WhereClaimed job note before after (λ w v. SawStands job.map before.hand.state.sizes (claim_of job after.hand.topics) v)

-- Where the step was made while what the claim saw stood in the map, the turn doesn't wait.
abbrev pub GoesOnWhereSawStands : Turn Claimed → Claim → ℕ → Seat → Seat → Type 0
GoesOnWhereSawStands turn job note before after =
    WhereClaimed job note before after
    (λ w v. SawStands job.map before.hand.state.sizes (claim_of job before.hand.topics) w → (seen : Seen) → turn ≢ Wait seen)

-- Fewer turns are left than before.
abbrev pub IsNearer : Claim → Claim → Seat → Seat → Type 0
IsNearer job next before after = claim_turns before.hand.state.sizes next after.hand.topics < claim_turns before.hand.state.sizes job before.hand.topics
