-- What each answer of a claim's turn says of what its actor holds.
use Rattle.std.proofs.Common.{◌≡◌, ◌%◌, ◌^◌, ◌<◌, ℕ, Some, sym, ap, ◌∙◌, arith}
use Rattle.std.specs.Prelude.{Bool, true, false, not}
use Rattle.core_views.specs.declared.sizes.Sizes.{Sizes}
use Rattle.core_views.specs.declared.topics.Topics.{Topics}
use Rattle.spte_words.specs.Bits.{has_bit}
use Rattle.part_steps.specs.PageTopics.{is_won, tried_bit}
use Rattle.part_steps.specs.PartTopics.{part_topics}
use Rattle.mmu_core.specs.orders.ClaimSteps.{try_part}
use Rattle.mmu_core.specs.lines.PartWaits.{part_waits}
use Rattle.step_seats.specs.PartTurns.{waits}
use Rattle.step_seats.specs.declared.turn.Turn.{Turn}
use Rattle.step_seats.specs.declared.turn.Turn.TheVariants.{More, Wait, Retry, Done}
use Rattle.table_pool.specs.Claims.{ClaimTurn, TakesOne, claim_of, claim_step, next_word, sees_free}
use Rattle.table_pool.specs.Maps.{got_in, with_got}
use Rattle.table_pool.specs.declared.claim.Claim.{Claim}
use Rattle.table_pool.specs.declared.claim.Claimed.{Claimed}
use Rattle.table_pool.specs.declared.claim.Claimed.TheVariants.{Got, Empty}
use Rattle.table_pool.proofs.Claiming.{loads_it, lost_if, low_bit, saw_some, tries_it, won_if}
use Rattle.table_pool.proofs.EitherMap.{got_by, got_held, load_goes, none_held, try_gets, try_waits, won_holds}

-- A turn that took one owns it.
pub takes_it : (job : Claim) (one : ℕ) (t after : Topics) → TakesOne job one t after → got_in job.map after ≡ Some one
takes_it job one t after taken = ap (got_in job.map) taken.behind ∙ got_held job.map one t

-- A turn's step was made.
module _ (job : Claim) (t after : Topics) (found : ℕ) (stepped : after ≡ part_topics (claim_step job t) t found) where
  -- A try gets what it got by what it found.
  got_by_it : sees_free job (claim_of job t) ≡ true → got_by (claim_of job t) found ≡ got_in job.map after
  got_by_it tries =
      sym (try_gets job.map t found) ∙ ap (λ s. got_in job.map (part_topics s t found)) (sym (tries_it job t tries)) ∙ ap (got_in job.map) (sym stepped)

  pub takes_one : (one : ℕ) → sees_free job (claim_of job t) ≡ true → (claim_of job t).seen < 2 ^ 64 → got_in job.map after ≡ Some one
      → TakesOne job one t after
  takes_one one tries small got =
      let won = won_if (claim_of job t) found one (got_by_it tries ∙ got) in
      let low = low_bit (claim_of job t) (saw_some job (claim_of job t) tries) small in
      let bit : one % 64 ≡ tried_bit (claim_of job t) = omega (arith, won.1, low) in
      let leads : after ≡ part_topics (try_part job.map) t found = stepped ∙ ap (λ s. part_topics s t found) (tries_it job t tries) in
      record {
        tries = tries;
        tried = won.1;
        found = found;
        leads = leads;
        stood = ap (λ b. has_bit b found) bit ∙ won.0;
        behind = leads ∙ won_holds job.map t found won.0 ∙ ap (λ k. with_got job.map k t) (sym won.1);
      }

  -- The turn waits where its step does.
  loads_on : sees_free job (claim_of job t) ≡ false → part_waits (claim_step job t) t found ≡ false
  loads_on loads = ap (λ s. part_waits s t found) (loads_it job t loads) ∙ load_goes job.map (next_word job (claim_of job t)) t found

  tries_on : (won : Bool) → sees_free job (claim_of job t) ≡ true → is_won (claim_of job t) found ≡ won → part_waits (claim_step job t) t found ≡ not won
  tries_on won tries is = ap (λ s. part_waits s t found) (tries_it job t tries) ∙ try_waits job.map t found ∙ ap not is

  pub waits_so : (z : Sizes) (turn : Turn Claimed) → ClaimTurn z job turn t after → waits turn ≡ part_waits (claim_step job t) t found
  waits_so z More turned = sym (loads_on turned.loads)
  waits_so z (Wait seen) turned =
      sym (tries_on false turned.tries (lost_if (claim_of job t) found (got_by_it turned.tries ∙ none_held job.map after turned.owns_none)))
  waits_so z (Retry cause) turned = absurd turned
  waits_so z (Done (Got one)) turned =
      sym (tries_on true turned.tries (won_if (claim_of job t) found one (got_by_it turned.tries ∙ takes_it job one t after turned)).0)
  waits_so z (Done Empty) turned = sym (loads_on turned.loads)
