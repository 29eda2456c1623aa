use Rattle.std.proofs.Common.{rules}
use Rattle.memslots.specs.Finding.{Searches, is_sought}
use Rattle.memslots.proofs.ToldSearch.{now_found, set_published, begins_found}
use Rattle.memslots.proofs.find.Find.turn.Goals as goal

pub returns-then-not-self-clause-published : goal.returns-then-not-self-clause-published
returns-then-not-self-clause-published g c not_yet =
    set_published c.args.self.now c.args.note c.make_part.result (g.S.Stepper.seat c.args.s.now) (g.S.Stepper.seat c.make_part.new.s)
    not_yet (c.requires.held not_yet) c.make_part.ensures.made

pub returns-clause-now : goal.returns-clause-now
returns-clause-now g c =
    let looks : Searches (is_sought c.args.self.now.sought) c.look.result (g.S.Stepper.seat c.args.s.now).hand.topics.search
    (g.S.Stepper.seat c.make_part-2.new.s).hand.topics.search = search rules in
    now_found c.args.self.now c.args.note c.make_part-2.result (g.S.Stepper.seat c.args.s.now) (g.S.Stepper.seat c.make_part-2.new.s)
    c.look.result c.if-not-self.false c.requires.may.needs c.make_part-2.ensures.made looks

pub returns-then-not-self-clause-now : goal.returns-then-not-self-clause-now
returns-then-not-self-clause-now g c =
    begins_found c.args.self.now c.args.note c.make_part.result (g.S.Stepper.seat c.args.s.now) (g.S.Stepper.seat c.make_part.new.s)
    c.if-not-self.true (c.requires.held c.if-not-self.true) c.make_part.ensures.made
