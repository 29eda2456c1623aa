use Rattle.std.proofs.Common.{refl, ◌∙◌}
use Rattle.step_seats.proofs.Where.{telling, where_made}
use Rattle.host_map.specs.declared.host.Changed.TheVariants.{Set, Lost}
use Rattle.host_map.proofs.Changing.{changed_word, holding}
use Rattle.host_map.proofs.host.exchange.Goals as goal

pub returns-then-seen-looked-clause-host : goal.returns-then-seen-looked-clause-host
returns-then-seen-looked-clause-host g c =
    let looked = rw (c.topics.ensures, c.hand.ensures.hand) at c.word_looked-looked.ensures in
    let same = rw looked at c.if-seen-looked.true in
    c.make_part-seen.ensures.made.topics ∙ holding c.args.step _ Set (g.S.Stepper.seat c.args.s.now).hand.topics c.requires.exchange same tt

pub returns-else-seen-looked-clause-host : goal.returns-else-seen-looked-clause-host
returns-else-seen-looked-clause-host g c =
    let looked = rw (c.topics.ensures, c.hand.ensures.hand) at c.word_looked-looked.ensures in
    let apart = rw looked at c.if-seen-looked.false in
    c.make_part-seen.ensures.made.topics
    ∙ holding c.args.step _ (Lost c.make_part-seen.result) (g.S.Stepper.seat c.args.s.now).hand.topics c.requires.exchange refl apart

pub returns-then-seen-looked-clause-told : goal.returns-then-seen-looked-clause-told
returns-then-seen-looked-clause-told g c =
    let looked = rw (c.topics.ensures, c.hand.ensures.hand) at c.word_looked-looked.ensures in
    let same = rw looked at c.if-seen-looked.true in
    where_made c.make_part-seen.ensures.made
    (λ w at has. changed_word c.args.step _ _ Set (telling w (g.S.Stepper.seat c.args.s.now)) (telling _ (g.S.Stepper.seat c.make_part-seen.new.s))
    c.requires.exchange c.requires.may.needs at same tt)

pub returns-else-seen-looked-clause-told : goal.returns-else-seen-looked-clause-told
returns-else-seen-looked-clause-told g c =
    let looked = rw (c.topics.ensures, c.hand.ensures.hand) at c.word_looked-looked.ensures in
    let apart = rw looked at c.if-seen-looked.false in
    where_made c.make_part-seen.ensures.made
    (λ w at has. changed_word c.args.step _ _ (Lost c.make_part-seen.result) (telling w (g.S.Stepper.seat c.args.s.now))
    (telling _ (g.S.Stepper.seat c.make_part-seen.new.s)) c.requires.exchange c.requires.may.needs at refl apart)
