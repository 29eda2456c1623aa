use Rattle.std.proofs.Common.{List, length, ap, subst, ◌∙◌, arith}
use Rattle.std.proofs.lemmas.Option.{slice_get_within}
use Rattle.std.specs.Prelude.{Option, unwrap_or}
use Rattle.core_views.specs.declared.answer.Answer.{Answer}
use Rattle.core_views.specs.declared.answer.AnsweredLine.{AnsweredLine}
use Rattle.core_views.specs.declared.place.Place.{Place}
use Rattle.core_views.specs.declared.trace.Line.{Line}
use Rattle.core_views.specs.Flat.{no_line}
use Rattle.core_views.specs.Held.{line_at}
use Rattle.step_seats.specs.LineTurns.{answer_given, turn_told}
use Rattle.turn_loops.specs.Turns.{RanAlone}
use Rattle.turn_loops.proofs.PartEnds.{answered_since, given_since, part_ends, part_goes_on, part_goes_through, stops_told}
use Rattle.turn_loops.proofs.PartRuns.{part_starts}
use Rattle.turn_loops.proofs.alone.run_line.Goals as goal

pub loop-init : goal.loop-init
loop-init g c =
    let e = c.reserve.ensures in
    let below = slice_get_within (g.S.Stepper.seat c.args.s.now).hand.lines (length (g.S.Stepper.seat c.args.s.now).hand.answers) c.args.line.now
    c.requires.next in
    record {
      part = (part_starts c.args.line.now (g.S.Stepper.seat c.args.s.now) _ e.hand e.told
          c.requires.idle c.requires.next c.requires.alone).0;
      reserved = c.in_ok-reserve.ensures.room;
      left = rw e.hand below;
      actor = e.same.0;
      frame = e.same.1;
    }

pub loop-preserved : goal.loop-preserved
loop-preserved g c =
    let i = c.loop.invariant in
    let e = c.in-More.ensures in
    record {
      part = (part_goes_on c.args.line.now (g.S.Stepper.seat c.args.s.now) (g.S.Stepper.seat c.loop.s) (g.S.Stepper.seat c.turn_line.new.s)
          i.actor i.left c.requires.own i.part e.turns e.says e.hand).0;
      reserved = omega (arith, e.keeps.room, ap (λ (xs : List AnsweredLine). length xs) e.says.answers, i.reserved);
      left = rw (e.says.answers, e.hand.lines) i.left;
      actor = e.keeps.actor ∙ i.actor;
      frame = e.keeps.frame ∙ i.frame;
    }

pub returns-in-Done-clause-alone : goal.returns-in-Done-clause-alone
returns-in-Done-clause-alone g c =
    let i = c.loop.invariant in
    let e = c.in-Done.ensures in
    subst (λ (a : Answer). RanAlone c.args.line.now a (g.S.Stepper.seat c.args.s.now) (g.S.Stepper.seat c.turn_line.new.s))
    (given_since (g.S.Stepper.seat c.args.s.now).hand (g.S.Stepper.seat c.loop.s).hand (g.S.Stepper.seat c.turn_line.new.s).hand i.part.answers)
    (part_ends c.args.line.now (g.S.Stepper.seat c.args.s.now) (g.S.Stepper.seat c.loop.s) (g.S.Stepper.seat c.turn_line.new.s)
    i.actor i.left c.requires.own i.part (answer_given (g.S.Stepper.seat c.loop.s).hand (g.S.Stepper.seat c.turn_line.new.s).hand) e.turns)

pub returns-in-Done-clause-answered : goal.returns-in-Done-clause-answered
returns-in-Done-clause-answered g c =
    let i = c.loop.invariant in
    answered_since c.args.line.now (g.S.Stepper.seat c.args.s.now).hand (g.S.Stepper.seat c.loop.s).hand (g.S.Stepper.seat c.turn_line.new.s).hand
    i.part.line_is i.part.answers c.in-Done.ensures.says

pub loop-smaller : goal.loop-smaller
loop-smaller g c =
    let i = c.loop.invariant in
    let e = c.in-More.ensures in
    (part_goes_on c.args.line.now (g.S.Stepper.seat c.args.s.now) (g.S.Stepper.seat c.loop.s) (g.S.Stepper.seat c.turn_line.new.s)
    i.actor i.left c.requires.own i.part e.turns e.says e.hand).1

pub unreachable-requires : goal.unreachable-requires
unreachable-requires g c =
    let i = c.loop.invariant in
    part_goes_through c.args.line.now (g.S.Stepper.seat c.args.s.now) (g.S.Stepper.seat c.loop.s) (g.S.Stepper.seat c.turn_line.new.s)
    i.actor i.left c.requires.own i.part
    (turn_told c.turn_line.result (g.S.Stepper.seat c.loop.s).hand (g.S.Stepper.seat c.turn_line.new.s).hand) c.turn_line.ensures.turns
    (stops_told c.turn_line.result (g.S.Stepper.seat c.loop.s).hand (g.S.Stepper.seat c.turn_line.new.s).hand c.in-Wait.is)
