use Rattle.std.proofs.Common.{◌≡◌, ◌<◌, ◌∙◌, ℕ, List, [], arith, get_or, length, refl, subst, sym}
use Rattle.std.proofs.lemmas.List.{get_or_read_under}
use Rattle.std.proofs.lemmas.Result.{err_from_is_err_and}
use Rattle.core_views.specs.declared.kind.Kind.{Kind}
use Rattle.core_views.specs.declared.trace.Line.{Line}
use Rattle.core_views.specs.Flat.{no_line}
use Rattle.mmu_core.specs.machine.Machine.{Step}
use Rattle.step_seats.specs.Machines.{world_in}
use Rattle.turn_loops.specs.Marks.{turns_from}
use Rattle.turn_loops.proofs.Coming.{Printing}
use Rattle.turn_loops.proofs.LinesPut.{lines_end, lines_stop, one_line_put}
use Rattle.turn_loops.proofs.LinesRun.{between_at_start, none_ran}
use Rattle.turn_loops.proofs.ReadyLines.{ready_between}
use Rattle.turn_loops.proofs.lines.run_lines.Goals as goal

pub loop-index-init : goal.loop-index-init
loop-index-init g c =
    let M = g.M.MachineOwner in
    let z = (M.machine c.args.machine.now).sizes in
    let start = world_in (M.machine c.args.machine.now) in
    record {
      so_far = record {
        printed = [];
        between = between_at_start z c.args.lines.now start c.requires.start;
        put =
            subst (λ (ss : List (Step Kind)). g.P.TurnPrinter.prints c.args.printer.now (turns_from start ss) c.args.printer.now)
            (sym (none_ran z c.args.lines.now start c.requires.start))
            (g.met.P.TurnPrinter.nothing c.args.printer.now c.requires.ready);
      };
      within = omega arith;
      sizes = refl;
      count = refl;
    }

-- the line of the loop
read : (lines : List Line) (i : ℕ) (line : Line) → line ≡ get_or lines i line → i < length lines → line ≡ get_or lines i no_line
read lines i line is lt = get_or_read_under lines i (length lines) line no_line is lt refl

pub line-requires-clause-there : goal.line-requires-clause-there
line-requires-clause-there g c =
    let M = g.M.MachineOwner in
    let i = c.loop-index.invariant in
    let lt : c.loop-index.index < length c.args.lines.now = omega (arith, c.loop-index-test.true, c.requires.count) in
    rw (read c.args.lines.now c.loop-index.index c.index-lines-index.result c.index-lines-index.is lt)
    ((ready_between (M.machine c.args.machine.now).sizes c.args.lines.now c.loop-index.index (M.machine c.args.machine.now) (M.machine c.loop-index.machine)
    i.so_far.printed c.requires.start i.sizes i.count lt i.so_far.between).there)

pub line-requires-clause-idle : goal.line-requires-clause-idle
line-requires-clause-idle g c =
    let M = g.M.MachineOwner in
    let i = c.loop-index.invariant in
    let lt : c.loop-index.index < length c.args.lines.now = omega (arith, c.loop-index-test.true, c.requires.count) in
    rw (read c.args.lines.now c.loop-index.index c.index-lines-index.result c.index-lines-index.is lt)
    ((ready_between (M.machine c.args.machine.now).sizes c.args.lines.now c.loop-index.index (M.machine c.args.machine.now) (M.machine c.loop-index.machine)
    i.so_far.printed c.requires.start i.sizes i.count lt i.so_far.between).idle)

pub line-requires-clause-next : goal.line-requires-clause-next
line-requires-clause-next g c =
    let M = g.M.MachineOwner in
    let i = c.loop-index.invariant in
    let lt : c.loop-index.index < length c.args.lines.now = omega (arith, c.loop-index-test.true, c.requires.count) in
    rw (read c.args.lines.now c.loop-index.index c.index-lines-index.result c.index-lines-index.is lt)
    ((ready_between (M.machine c.args.machine.now).sizes c.args.lines.now c.loop-index.index (M.machine c.args.machine.now) (M.machine c.loop-index.machine)
    i.so_far.printed c.requires.start i.sizes i.count lt i.so_far.between).next)

pub line-requires-clause-own : goal.line-requires-clause-own
line-requires-clause-own g c =
    let M = g.M.MachineOwner in
    let i = c.loop-index.invariant in
    let lt : c.loop-index.index < length c.args.lines.now = omega (arith, c.loop-index-test.true, c.requires.count) in
    rw (read c.args.lines.now c.loop-index.index c.index-lines-index.result c.index-lines-index.is lt)
    ((ready_between (M.machine c.args.machine.now).sizes c.args.lines.now c.loop-index.index (M.machine c.args.machine.now) (M.machine c.loop-index.machine)
    i.so_far.printed c.requires.start i.sizes i.count lt i.so_far.between).own)

pub line-requires-clause-alone : goal.line-requires-clause-alone
line-requires-clause-alone g c =
    let M = g.M.MachineOwner in
    let i = c.loop-index.invariant in
    let lt : c.loop-index.index < length c.args.lines.now = omega (arith, c.loop-index-test.true, c.requires.count) in
    rw (read c.args.lines.now c.loop-index.index c.index-lines-index.result c.index-lines-index.is lt)
    ((ready_between (M.machine c.args.machine.now).sizes c.args.lines.now c.loop-index.index (M.machine c.args.machine.now) (M.machine c.loop-index.machine)
    i.so_far.printed c.requires.start i.sizes i.count lt i.so_far.between).alone)

pub line-requires-clause-ready : goal.line-requires-clause-ready
line-requires-clause-ready g c =
    let M = g.M.MachineOwner in
    let start = world_in (M.machine c.args.machine.now) in
    let F = c.loop-index.invariant.so_far in
    g.met.P.TurnPrinter.goes_on c.args.printer.now c.loop-index.printer (turns_from start F.between.ran.steps) F.put

pub returns-in_err-line-clause-prints : goal.returns-in_err-line-clause-prints
returns-in_err-line-clause-prints g c =
    let M = g.M.MachineOwner in
    let z = (M.machine c.args.machine.now).sizes in
    let start = world_in (M.machine c.args.machine.now) in
    let here = world_in (M.machine c.loop-index.machine) in
    let after_line = world_in (M.machine c.line.new.machine) in
    let i = c.loop-index.invariant in
    let p = err_from_is_err_and c.from_residual.result c.from_residual.ensures.1 in
    let L : Printing g.P.TurnPrinter.prints g.P.TurnPrinter.stops = record { both = g.met.P.TurnPrinter.then; stopped = g.met.P.TurnPrinter.stopped } in
    let line =
    read c.args.lines.now c.loop-index.index c.index-lines-index.result c.index-lines-index.is (omega (arith, c.loop-index-test.true, c.requires.count)) in
    let ran = rw (i.sizes, line) at c.in_err-line.ensures.ran in
    rw (p.1, p.2) (lines_stop g.P.TurnPrinter.prints g.P.TurnPrinter.stops L z c.args.lines.now c.loop-index.index
    start here after_line c.args.printer.now c.loop-index.printer
    c.line.new.self i.so_far (omega (arith, c.loop-index-test.true, c.requires.count))
    (c.requires.start.allowed c.loop-index.index no_line (omega (arith, c.loop-index-test.true, c.requires.count))) c.args.count
    c.in_err-line.field-0.0 c.loop-index-test.true ran)

pub loop-index-preserved : goal.loop-index-preserved
loop-index-preserved g c =
    let M = g.M.MachineOwner in
    let z = (M.machine c.args.machine.now).sizes in
    let start = world_in (M.machine c.args.machine.now) in
    let here = world_in (M.machine c.loop-index.machine) in
    let after_line = world_in (M.machine c.line.new.machine) in
    let i = c.loop-index.invariant in
    let L : Printing g.P.TurnPrinter.prints g.P.TurnPrinter.stops = record { both = g.met.P.TurnPrinter.then; stopped = g.met.P.TurnPrinter.stopped } in
    let line =
    read c.args.lines.now c.loop-index.index c.index-lines-index.result c.index-lines-index.is (omega (arith, c.loop-index-test.true, c.requires.count)) in
    let ran = rw (i.sizes, line) at c.in_ok-line.ensures.ran in
    record {
      so_far =
          one_line_put g.P.TurnPrinter.prints g.P.TurnPrinter.stops L z c.args.lines.now c.loop-index.index
          start here after_line c.args.printer.now c.loop-index.printer
          c.line.new.self i.so_far (omega (arith, c.loop-index-test.true, c.requires.count))
          (c.requires.start.allowed c.loop-index.index no_line (omega (arith, c.loop-index-test.true, c.requires.count))) ran;
      within = omega (arith, c.loop-index-test.true);
      sizes = c.line.ensures.same.0 ∙ i.sizes;
      count = c.line.ensures.same.1 ∙ i.count;
    }

pub returns-clause-prints : goal.returns-clause-prints
returns-clause-prints g c =
    let M = g.M.MachineOwner in
    let z = (M.machine c.args.machine.now).sizes in
    let start = world_in (M.machine c.args.machine.now) in
    let here = world_in (M.machine c.loop-index.machine) in
    let i = c.loop-index.invariant in
    let L : Printing g.P.TurnPrinter.prints g.P.TurnPrinter.stops = record { both = g.met.P.TurnPrinter.then; stopped = g.met.P.TurnPrinter.stopped } in
    lines_end g.P.TurnPrinter.prints g.P.TurnPrinter.stops L z c.args.lines.now c.loop-index.index c.args.count
    start here c.args.printer.now c.loop-index.printer
    (omega (arith, i.within, c.loop-index-test.false)) i.so_far
