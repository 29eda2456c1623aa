use Rattle.std.proofs.Common.{◌<◌, arith, length, subst, sym}
use Rattle.core_views.specs.Held.{Handful, next_line}
use Rattle.core_views.specs.LogCommands.{most_words}
use Rattle.hands.proofs.hand.Hand.add_word.Goals as goal

-- The words that its line may read fit where it has room for them.
pub unreachable-requires : goal.unreachable-requires
unreachable-requires c =
    let more = subst (λ (h : Handful). length h.core.harvest < most_words h.core.state.sizes (next_line h.core).command) (sym c.self.view_is) c.requires.more in
    let most = c.self.invariant.2 (subst (λ (h : Handful). 0 < h.room) (sym c.self.view_is) c.requires.room) in
    let full = c.in-Err.ensures.full in
    let len = c.self.inside.harvest.ok.0 in
    omega (arith, more, most, full, len)
