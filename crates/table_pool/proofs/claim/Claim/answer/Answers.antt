use Rattle.std.proofs.Common.{◌≡◌, ◌^◌, ◌<◌, true, sym, ◌∙◌, arith}
use Rattle.table_pool.specs.Claims.{claim_of, sees_free}
use Rattle.table_pool.proofs.ClaimTurns.{takes_one}
use Rattle.table_pool.proofs.Claiming.{tries_inside}
use Rattle.table_pool.proofs.claim.Claim.answer.Goals as goal

pub word_of-word-requires-clause-within : goal.word_of-word-requires-clause-within
word_of-word-requires-clause-within c =
    let tries : sees_free c.args.self (claim_of c.args.self c.args.before.now) ≡ true =
    rw c.claim_of-claim.ensures at (sym c.tries.ensures ∙ c.if-tries.true) in
    rw (c.map_of.ensures.is, c.area.ensures, c.claim_of-claim.ensures) (tries_inside c.args.self _ c.args.sizes.now tries c.requires.inside)

pub returns-in-Some : goal.returns-in-Some
returns-in-Some c =
    let tries : sees_free c.args.self (claim_of c.args.self c.args.before.now) ≡ true =
    rw c.claim_of-claim.ensures at (sym c.tries.ensures ∙ c.if-tries.true) in
    let small : c.claim_of-claim.result.seen < 2 ^ 64 = omega arith in
    takes_one c.args.self c.args.before.now c.args.after.now c.args.found c.requires.stepped c.in-Some.one tries
    (rw c.claim_of-claim.ensures at small) (sym c.got_in.ensures ∙ c.in-Some.is)
