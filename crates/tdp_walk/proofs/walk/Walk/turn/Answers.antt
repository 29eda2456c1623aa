use Rattle.std.proofs.Common.{refl, rules}
use Rattle.spte_words.specs.declared.spte_kind.SpteKind.TheVariants.{Absent, Frozen, Leaf}
use Rattle.tdp_walk.proofs.Walking.{entry_found, goes_down, is_over, root_found, stands_at_root, stops_at}
use Rattle.tdp_walk.proofs.walk.Walk.turn.Goals as goal

pub returns-then-not-self-clause-word : goal.returns-then-not-self-clause-word
returns-then-not-self-clause-word g c =
    root_found c.args.self.now c.args.note c.make_part.result (g.S.Stepper.seat c.args.s.now) (g.S.Stepper.seat c.make_part.new.s)
    c.if-not-self.true c.make_part.ensures.made

pub returns-then-not-self-clause-root : goal.returns-then-not-self-clause-root
returns-then-not-self-clause-root g c not_yet =
    stands_at_root (g.S.Stepper.seat c.args.s.now).hand.topics (g.S.Stepper.seat c.make_part.new.s).hand.topics c.args.self.now.gfn c.make_part.result
    c.requires.gfn (c.requires.held not_yet) c.make_part.ensures.made.topics

pub returns-in-Table-clause-entry : goal.returns-in-Table-clause-entry
returns-in-Table-clause-entry g c already =
    goes_down (g.S.Stepper.seat c.args.s.now).hand.topics (g.S.Stepper.seat c.make_part-word.new.s).hand.topics c.args.self.now.gfn c.make_part-word.result
    c.in-Table.field-0
    (is_over c.args.self.now (g.S.Stepper.seat c.args.s.now).hand already c.requires.may.needs) (search rules) (search rules)
    c.make_part-word.ensures.made.topics

pub returns-in-Leaf-clause-entry : goal.returns-in-Leaf-clause-entry
returns-in-Leaf-clause-entry g c already =
    (stops_at Leaf (g.S.Stepper.seat c.args.s.now).hand.topics (g.S.Stepper.seat c.make_part-word.new.s).hand.topics c.args.self.now.gfn
    c.make_part-word.result c.topics.result.now.walk.level refl
    (is_over c.args.self.now (g.S.Stepper.seat c.args.s.now).hand already c.requires.may.needs) (search rules) (search rules)
    c.make_part-word.ensures.made.topics)

pub returns-in-Absent-clause-entry : goal.returns-in-Absent-clause-entry
returns-in-Absent-clause-entry g c already =
    (stops_at Absent (g.S.Stepper.seat c.args.s.now).hand.topics (g.S.Stepper.seat c.make_part-word.new.s).hand.topics c.args.self.now.gfn
    c.make_part-word.result c.topics.result.now.walk.level refl
    (is_over c.args.self.now (g.S.Stepper.seat c.args.s.now).hand already c.requires.may.needs) (search rules) (search rules)
    c.make_part-word.ensures.made.topics).1

pub returns-in-Frozen-clause-entry : goal.returns-in-Frozen-clause-entry
returns-in-Frozen-clause-entry g c already =
    (stops_at Frozen (g.S.Stepper.seat c.args.s.now).hand.topics (g.S.Stepper.seat c.make_part-word.new.s).hand.topics c.args.self.now.gfn
    c.make_part-word.result c.topics.result.now.walk.level refl
    (is_over c.args.self.now (g.S.Stepper.seat c.args.s.now).hand already c.requires.may.needs) (search rules) (search rules)
    c.make_part-word.ensures.made.topics).1

pub returns-in-Table-clause-word : goal.returns-in-Table-clause-word
returns-in-Table-clause-word g c =
    entry_found c.args.self.now c.args.note c.make_part-word.result (g.S.Stepper.seat c.args.s.now) (g.S.Stepper.seat c.make_part-word.new.s)
    c.if-not-self.false c.requires.may.needs c.make_part-word.ensures.made

pub returns-in-Leaf-clause-word : goal.returns-in-Leaf-clause-word
returns-in-Leaf-clause-word g c =
    entry_found c.args.self.now c.args.note c.make_part-word.result (g.S.Stepper.seat c.args.s.now) (g.S.Stepper.seat c.make_part-word.new.s)
    c.if-not-self.false c.requires.may.needs c.make_part-word.ensures.made

pub returns-in-Absent-clause-word : goal.returns-in-Absent-clause-word
returns-in-Absent-clause-word g c =
    entry_found c.args.self.now c.args.note c.make_part-word.result (g.S.Stepper.seat c.args.s.now) (g.S.Stepper.seat c.make_part-word.new.s)
    c.if-not-self.false c.requires.may.needs c.make_part-word.ensures.made

pub returns-in-Frozen-clause-word : goal.returns-in-Frozen-clause-word
returns-in-Frozen-clause-word g c =
    entry_found c.args.self.now c.args.note c.make_part-word.result (g.S.Stepper.seat c.args.s.now) (g.S.Stepper.seat c.make_part-word.new.s)
    c.if-not-self.false c.requires.may.needs c.make_part-word.ensures.made
