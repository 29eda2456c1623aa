use Rattle.std.proofs.Common.{◌≡◌, ◌<◌, ◌^◌, ℕ, rules, subst}
use Rattle.step_seats.proofs.Where.{telling, where_made}
use Rattle.step_seats.specs.PartTurns.{MadePart}
use Rattle.step_seats.specs.Seats.{Seat}
use Rattle.step_seats.specs.declared.turn.Turn.TheVariants.{Done}
use Rattle.table_pool.specs.Claims.{ClaimTurn, TakesOne, claim_of, claim_step}
use Rattle.table_pool.specs.declared.claim.Claimed.TheVariants.{Got}
use Rattle.table_pool.proofs.ClaimTold.{lost_never_stood, seen_stands, taken_was_free}
use Rattle.table_pool.proofs.ClaimTurns.{takes_it, waits_so}
use Rattle.table_pool.proofs.ClaimedAlone.{claimed_alone}
use Rattle.table_pool.proofs.Claiming.{claim_inside, claim_owns_none, saw_some}
use Rattle.table_pool.proofs.EitherMap.{seen_small}
use Rattle.table_pool.proofs.FirstSeen.{first_seen}
use Rattle.table_pool.proofs.claim.Claim.turn.Goals.{After-answer-turn}
use Rattle.table_pool.proofs.claim.Claim.turn.Goals as goal

pub answer-turn-requires-clause-owns_none : goal.answer-turn-requires-clause-owns_none
answer-turn-requires-clause-owns_none g c =
    rw (c.topics.ensures, c.hand-3.ensures.hand) (claim_owns_none c.args.self.now (g.S.Stepper.seat c.args.s.now).hand c.requires.may.needs)

pub answer-turn-requires-clause-inside : goal.answer-turn-requires-clause-inside
answer-turn-requires-clause-inside g c =
    rw (c.topics.ensures, c.hand-3.ensures.hand, c.progress.ensures, c.hand-2.ensures.hand)
    (claim_inside c.args.self.now (g.S.Stepper.seat c.args.s.now).hand c.requires.may.needs)

-- the seat before the step, and after it
abbrev before : (g : _) → After-answer-turn g → Seat
before g c = g.S.Stepper.seat c.args.s.now

abbrev after : (g : _) → After-answer-turn g → Seat
after g c = g.S.Stepper.seat c.make_part-found.new.s

-- The claim's step was made, from a word of 64 bits that was seen, and the turn's answer says what it came to.
small : (g : _) (c : After-answer-turn g) → (claim_of c.args.self.now (before g c).hand.topics).seen < 2 ^ 64
small g c = seen_small c.args.self.now.map (before g c).hand (rw c.hand.ensures.hand at c.part_rests.ensures)

made : (g : _) (c : After-answer-turn g)
    → MadePart (claim_step c.args.self.now (before g c).hand.topics) c.args.note c.make_part-found.result (before g c) (after g c)
made g c = rw (c.step.ensures, c.topics.ensures, c.hand-3.ensures.hand) at c.make_part-found.ensures.made

turned : (g : _) (c : After-answer-turn g)
    → ClaimTurn (before g c).hand.state.sizes c.args.self.now c.answer-turn.result (before g c).hand.topics (after g c).hand.topics
turned g c = search rules

taken : (g : _) (c : After-answer-turn g) (one : ℕ) → c.answer-turn.result ≡ Done (Got one)
    → TakesOne c.args.self.now one (before g c).hand.topics (after g c).hand.topics
taken g c one is =
    subst (λ r. ClaimTurn (before g c).hand.state.sizes c.args.self.now r (before g c).hand.topics (after g c).hand.topics) is (turned g c)

pub returns-clause-step : goal.returns-clause-step
returns-clause-step g c =
    let C = (goal.at.returns-clause-step g c).After-answer-turn in
    record {
      found = c.make_part-found.result;
      made = made g C;
      waits_as = waits_so c.args.self.now _ _ c.make_part-found.result (made g C).topics _ c.answer-turn.result (turned g C);
    }

pub returns-clause-first : goal.returns-clause-first
returns-clause-first g c one is =
    let C = (goal.at.returns-clause-first g c).After-answer-turn in
    let claim = claim_of c.args.self.now (before g C).hand.topics in
    first_seen claim one (saw_some c.args.self.now claim (taken g C one is).tries) (small g C) (taken g C one is).tried

pub returns-clause-free : goal.returns-clause-free
returns-clause-free g c one is =
    let C = (goal.at.returns-clause-free g c).After-answer-turn in
    where_made (made g C)
    (λ w at has. taken_was_free c.args.self.now _ _ (telling w (before g C)) _ (small g C) c.requires.may.needs at one (taken g C one is))

pub returns-clause-sole : goal.returns-clause-sole
returns-clause-sole g c one is =
    let C = (goal.at.returns-clause-sole g c).After-answer-turn in
    let job = c.args.self.now in
    where_made (made g C)
    (λ w at has. claimed_alone job.map _ _ _ (telling w (before g C)) _ (before g C).actor one at has (takes_it job one _ _ (taken g C one is)))

pub returns-clause-stands : goal.returns-clause-stands
returns-clause-stands g c =
    let C = (goal.at.returns-clause-stands g c).After-answer-turn in
    where_made (made g C)
    (λ w at has. seen_stands c.args.self.now _ _ (telling w (before g C)) _ (small g C) c.requires.may.needs at c.make_part-found.type_inv)

pub returns-clause-alone : goal.returns-clause-alone
returns-clause-alone g c =
    let C = (goal.at.returns-clause-alone g c).After-answer-turn in
    where_made (made g C)
    (λ w at has stands seen is. lost_never_stood c.args.self.now _ _ (telling w (before g C)) _ (small g C) c.requires.may.needs at seen
    (subst (λ r. ClaimTurn (before g C).hand.state.sizes c.args.self.now r (before g C).hand.topics (after g C).hand.topics) is (turned g C)) stands)
