use Rattle.std.proofs.Common.{arith}
use Rattle.flat_model.proofs.HostLines.{below_first, given_up, no_frame, put, same_frame, to_lowest, undone}
use Rattle.flat_model.proofs.host_pages.HostPages.move_page.Goals as goal

pub returns-then-frame-self-clause-changes : goal.returns-then-frame-self-clause-changes
returns-then-frame-self-clause-changes c =
    rw (← c.self.view_is) (no_frame c.self.inside.sizes c.args.page c.lowest-frame.result c.self.inside.changed.entries c.self.inside.free
    c.self.invariant c.lowest-frame.ensures.lowest c.if-frame-self.true)

pub invariant_of-self-then-page-self : goal.invariant_of-self-then-page-self
invariant_of-self-then-page-self c =
    same_frame c.self.inside.sizes.pages c.args.page _ c.self.inside.changed.entries c.insert.new.self.entries c.self.inside.free
    (λ lt. absurd (omega (arith, lt, c.if-page-self.true)))
    (put c.args.page _ c.self.inside.changed.entries c.insert.new.self.entries c.in_ok-insert.ensures.updates.0) c.self.invariant

pub returns-then-page-self-clause-changes : goal.returns-then-page-self-clause-changes
returns-then-page-self-clause-changes c =
    rw (← c.self.view_is) (to_lowest c.self.inside.sizes c.args.page c.lowest-frame.result c.args.was c.self.inside.changed.entries
    c.insert.new.self.entries c.self.inside.free
    (rw (← c.self.view_is) at c.requires) c.self.invariant c.lowest-frame.ensures.free c.lowest-frame.ensures.lowest c.if-frame-self.false
    (put c.args.page _ c.self.inside.changed.entries c.insert.new.self.entries c.in_ok-insert.ensures.updates.0))

pub give-requires : goal.give-requires
give-requires c =
    below_first c.self.inside.sizes.pages c.args.page c.args.was c.self.inside.changed.entries c.self.inside.free
    (record { below = c.if-page-self.false; was_is = rw (← c.self.view_is) at c.requires; is = c.self.invariant })

pub take-requires-in-Err-clause-bound : goal.take-requires-in-Err-clause-bound
take-requires-in-Err-clause-bound c =
    let below = below_first c.self.inside.sizes.pages c.args.page c.args.was c.self.inside.changed.entries c.self.inside.free
    (record { below = c.if-page-self.false; was_is = rw (← c.self.view_is) at c.requires; is = c.self.invariant }) in
    omega (arith, below, c.in_ok-give.ensures.unused)

pub invariant_of-self-in-Err : goal.invariant_of-self-in-Err
invariant_of-self-in-Err c =
    undone c.self.inside.sizes.pages c.args.page c.args.was c.self.inside.changed.entries c.self.inside.free
    (record { below = c.if-page-self.false; was_is = rw (← c.self.view_is) at c.requires; is = c.self.invariant })
    c.give.new.self c.take-in-Err.new.self c.in_ok-give.ensures.free c.insert-2.new.self.entries c.in-Err.ensures.err c.take-in-Err.ensures

pub invariant_of-self-in-Ok : goal.invariant_of-self-in-Ok
invariant_of-self-in-Ok c =
    given_up c.self.inside.sizes.pages c.args.page c.args.was c.self.inside.changed.entries c.self.inside.free
    (record { below = c.if-page-self.false; was_is = rw (← c.self.view_is) at c.requires; is = c.self.invariant })
    c.give.new.self c.take.new.self c.in_ok-give.ensures.free c.lowest-frame.result c.insert-2.new.self.entries c.lowest-frame.ensures.free
    (put c.args.page _ c.self.inside.changed.entries c.insert-2.new.self.entries c.in-Ok.ensures.updates.0) c.take.ensures

pub returns-in-Ok-clause-changes : goal.returns-in-Ok-clause-changes
returns-in-Ok-clause-changes c =
    rw (← c.self.view_is) (to_lowest c.self.inside.sizes c.args.page c.lowest-frame.result c.args.was c.self.inside.changed.entries
    c.insert-2.new.self.entries c.self.inside.free
    (rw (← c.self.view_is) at c.requires) c.self.invariant c.lowest-frame.ensures.free c.lowest-frame.ensures.lowest c.if-frame-self.false
    (put c.args.page _ c.self.inside.changed.entries c.insert-2.new.self.entries c.in-Ok.ensures.updates.0))
