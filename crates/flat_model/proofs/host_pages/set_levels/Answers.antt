use Rattle.std.proofs.Common.{◌<◌, ◌≤◌, ◌+◌, ◌∙◌, ap, arith}
use Rattle.std.specs.HashMap.{spare}
use Rattle.flat_model.specs.HostPages.{at_level, host_of, with_levels}
use Rattle.flat_model.proofs.HostLines.{put}
use Rattle.flat_model.proofs.HostRuns.{level_first, level_next, levels_set, same_map}
use Rattle.flat_model.proofs.host_pages.set_levels.Goals as goal

pub loop-done-init : goal.loop-done-init
loop-done-init c =
    (level_first c.args.first c.args.count c.args.level (host_of c.reserve.new.self.entries), omega (arith, c.in_ok-reserve.ensures.ok))

pub loop-done-preserved : goal.loop-done-preserved
loop-done-preserved c =
    let first = c.args.first in
    let count = c.args.count in
    let level = c.args.level in
    let done = c.loop-done.done in
    let before = c.loop-done.changed.entries in
    let after = c.insert.new.self.entries in
    let was = c.entry_in-was.result in
    let lt : done < count = omega (arith, c.loop-done-test.true) in
    let room = c.loop-done.invariant.1 in
    let used = c.in_ok-insert.ensures.spare in (
      level_next first count done level _ was before after lt c.entry_in-was.ensures
          (put (first + done) (at_level level was) before after c.in_ok-insert.ensures.updates.0) c.loop-done.invariant.0,
      omega (arith, room, used, lt),
    )

-- There is room for each.
pub returns-in_err-insert-clause-kept : goal.returns-in_err-insert-clause-kept
returns-in_err-insert-clause-kept c =
    let lt : c.loop-done.done < c.args.count = omega (arith, c.loop-done-test.true) in
    let room : 0 < spare c.loop-done.changed = omega (arith, c.loop-done.invariant.1, lt) in
    absurd (cc (c.in_err-insert.ensures.succeeds room))

pub returns-clause-set : goal.returns-clause-set
returns-clause-set c =
    let first = c.args.first in
    let count = c.args.count in
    let level = c.args.level in
    let le : count ≤ c.loop-done.done = omega arith in
    levels_set first count c.loop-done.done level _ (host_of c.loop-done.changed.entries) le c.loop-done.invariant.0
    ∙ ap (with_levels first count level) (same_map c.args.changed.now.entries c.reserve.new.self.entries c.in_ok-reserve.ensures.entries.2)
