use Rattle.std.proofs.Common.{◌≡◌, ◌<◌, ◌∙◌, ℕ, List, [], ◌++◌, arith, get_or, length, refl, subst, take}
use Rattle.std.proofs.lemmas.List.{get_or_read_under}
use Rattle.core_views.specs.declared.trace.Line.{Line}
use Rattle.core_views.specs.Flat.{no_line}
use Rattle.core_views.specs.Sizes.{index_of}
use Rattle.core_views.specs.Text.{line_text}
use Rattle.step_seats.specs.Machines.{world_in}
use Rattle.turn_loops.specs.Given.{given_in}
use Rattle.turn_loops.specs.Replays.{RunsLines}
use Rattle.turn_loops.proofs.LinesRun.{between_at_start, between_more}
use Rattle.turn_loops.proofs.ReadyLines.{ready_between}
use Rattle.turn_loops.proofs.lines.run_alone.Goals as goal

pub loop-index-init : goal.loop-index-init
loop-index-init g c =
    let M = g.M.MachineOwner in
    record {
      printed = [];
      between = between_at_start (M.machine c.args.machine.now).sizes c.args.lines.now (world_in (M.machine c.args.machine.now)) c.requires.start;
      within = omega arith;
      sizes = refl;
      count = refl;
    }

-- the line of the loop
read : (lines : List Line) (i : ℕ) (line : Line) → line ≡ get_or lines i line → i < length lines → line ≡ get_or lines i no_line
read lines i line is lt = get_or_read_under lines i (length lines) line no_line is lt refl

pub run_on-requires-clause-there : goal.run_on-requires-clause-there
run_on-requires-clause-there g c =
    let M = g.M.MachineOwner in
    let i = c.loop-index.invariant in
    let lt : c.loop-index.index < length c.args.lines.now = omega (arith, c.loop-index-test.true, c.requires.count) in
    rw (read c.args.lines.now c.loop-index.index c.index-lines-index.result c.index-lines-index.is lt)
    ((ready_between (M.machine c.args.machine.now).sizes c.args.lines.now c.loop-index.index (M.machine c.args.machine.now) (M.machine c.loop-index.machine)
    i.printed c.requires.start i.sizes i.count lt i.between).there)

pub run_on-requires-clause-idle : goal.run_on-requires-clause-idle
run_on-requires-clause-idle g c =
    let M = g.M.MachineOwner in
    let i = c.loop-index.invariant in
    let lt : c.loop-index.index < length c.args.lines.now = omega (arith, c.loop-index-test.true, c.requires.count) in
    rw (read c.args.lines.now c.loop-index.index c.index-lines-index.result c.index-lines-index.is lt)
    ((ready_between (M.machine c.args.machine.now).sizes c.args.lines.now c.loop-index.index (M.machine c.args.machine.now) (M.machine c.loop-index.machine)
    i.printed c.requires.start i.sizes i.count lt i.between).idle)

pub run_on-requires-clause-next : goal.run_on-requires-clause-next
run_on-requires-clause-next g c =
    let M = g.M.MachineOwner in
    let i = c.loop-index.invariant in
    let lt : c.loop-index.index < length c.args.lines.now = omega (arith, c.loop-index-test.true, c.requires.count) in
    rw (read c.args.lines.now c.loop-index.index c.index-lines-index.result c.index-lines-index.is lt)
    ((ready_between (M.machine c.args.machine.now).sizes c.args.lines.now c.loop-index.index (M.machine c.args.machine.now) (M.machine c.loop-index.machine)
    i.printed c.requires.start i.sizes i.count lt i.between).next)

pub run_on-requires-clause-own : goal.run_on-requires-clause-own
run_on-requires-clause-own g c =
    let M = g.M.MachineOwner in
    let i = c.loop-index.invariant in
    let lt : c.loop-index.index < length c.args.lines.now = omega (arith, c.loop-index-test.true, c.requires.count) in
    rw (read c.args.lines.now c.loop-index.index c.index-lines-index.result c.index-lines-index.is lt)
    ((ready_between (M.machine c.args.machine.now).sizes c.args.lines.now c.loop-index.index (M.machine c.args.machine.now) (M.machine c.loop-index.machine)
    i.printed c.requires.start i.sizes i.count lt i.between).own)

pub run_on-requires-clause-alone : goal.run_on-requires-clause-alone
run_on-requires-clause-alone g c =
    let M = g.M.MachineOwner in
    let i = c.loop-index.invariant in
    let lt : c.loop-index.index < length c.args.lines.now = omega (arith, c.loop-index-test.true, c.requires.count) in
    rw (read c.args.lines.now c.loop-index.index c.index-lines-index.result c.index-lines-index.is lt)
    ((ready_between (M.machine c.args.machine.now).sizes c.args.lines.now c.loop-index.index (M.machine c.args.machine.now) (M.machine c.loop-index.machine)
    i.printed c.requires.start i.sizes i.count lt i.between).alone)

pub loop-index-preserved : goal.loop-index-preserved
loop-index-preserved g c =
    let M = g.M.MachineOwner in
    let z = (M.machine c.args.machine.now).sizes in
    let start = world_in (M.machine c.args.machine.now) in
    let here = world_in (M.machine c.loop-index.machine) in
    let after_line = world_in (M.machine c.run_on.new.machine) in
    let i = c.loop-index.invariant in
    let lt : c.loop-index.index < length c.args.lines.now = omega (arith, c.loop-index-test.true, c.requires.count) in
    let line = read c.args.lines.now c.loop-index.index c.index-lines-index.result c.index-lines-index.is lt in
    let ran = rw (i.sizes, line) at c.in_ok-run_on.ensures.ran in
    let answer = given_in (index_of z (get_or c.args.lines.now c.loop-index.index no_line).actor) here after_line in
    record {
      printed =
          i.printed
          ++ line_text (get_or c.args.lines.now c.loop-index.index no_line).number (get_or c.args.lines.now c.loop-index.index no_line).actor answer;
      between =
          (between_more z c.args.lines.now c.loop-index.index start here after_line i.printed answer lt
          (c.requires.start.allowed c.loop-index.index no_line lt) ran i.between).0;
      within = omega (arith, c.loop-index-test.true);
      sizes = c.run_on.ensures.same.0 ∙ i.sizes;
      count = c.run_on.ensures.same.1 ∙ i.count;
    }

pub returns-clause-ran : goal.returns-clause-ran
returns-clause-ran g c =
    let M = g.M.MachineOwner in
    let i = c.loop-index.invariant in
    let end_ : c.loop-index.index ≡ c.args.count = omega (arith, i.within, c.loop-index-test.false) in
    subst (λ (n : ℕ). RunsLines (M.machine c.args.machine.now).sizes (world_in (M.machine c.args.machine.now)) (take n c.args.lines.now)
    (world_in (M.machine c.loop-index.machine))) end_ i.between.ran
