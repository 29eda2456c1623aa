use Rattle.table_pool.proofs.Claiming.{may_claim}
use Rattle.table_pool.proofs.claim.Claim.may_turn.Goals as goal

pub returns : goal.returns
returns c =
    may_claim c.args.self.now c.args.note c.args.hand.now.core c.requires.pages c.requires.reached c.requires.idle c.requires.owns_none c.requires.not_over
