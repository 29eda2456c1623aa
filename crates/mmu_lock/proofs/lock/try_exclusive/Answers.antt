use Rattle.std.proofs.Common.{Some, ◌≢◌, ap, refl, ◌∙◌}
use Rattle.std.specs.Prelude.{◌==◌, if◌then◌else◌}
use Rattle.core_views.specs.declared.topics.Hold.TheVariants.{Exclusive}
use Rattle.core_views.specs.declared.topics.Topics.{Topics}
use Rattle.step_seats.proofs.AloneTold.{exclude_free, sole_told}
use Rattle.mmu_lock.proofs.Locked.{excludes_behind, keeps_behind}
use Rattle.step_seats.proofs.Where.{where_made}
use Rattle.mmu_lock.proofs.lock.try_exclusive.Goals as goal

pub returns-then-word-eq0-clause-sole : goal.returns-then-word-eq0-clause-sole
returns-then-word-eq0-clause-sole g c = λ e.
    let made = c.make_part-word.ensures.made in
    let alone = ap (λ (t : Topics). t.hold) made.topics
    ∙ ap (λ n. if n == 0 then Exclusive else (g.S.Stepper.seat c.args.s.now).hand.topics.hold) c.if-word-eq0.true in
    where_made made (λ w at has. sole_told (Some _) _ _ has alone)

pub returns-then-word-eq0-clause-tried : goal.returns-then-word-eq0-clause-tried
returns-then-word-eq0-clause-tried g c =
    excludes_behind (g.S.Stepper.seat c.args.s.now).hand.topics (g.S.Stepper.seat c.make_part-word.new.s).hand.topics c.make_part-word.result
    c.make_part-word.ensures.made.topics c.if-word-eq0.true

pub returns-else-word-eq0-clause-tried : goal.returns-else-word-eq0-clause-tried
returns-else-word-eq0-clause-tried g c = (
  c.if-word-eq0.false,
  keeps_behind (g.S.Stepper.seat c.args.s.now).hand.topics (g.S.Stepper.seat c.make_part-word.new.s).hand.topics
      c.make_part-word.result c.make_part-word.ensures.made.topics c.if-word-eq0.false,
)

pub returns-else-word-eq0-clause-alone : goal.returns-else-word-eq0-clause-alone
returns-else-word-eq0-clause-alone g c =
    let some : c.make_part-word.result ≢ 0 = c.if-word-eq0.false in
    where_made c.make_part-word.ensures.made
    (λ w at has others. absurd (some (exclude_free (Some _) (Some _) _ _ _ _ at.has at.world c.requires.may.needs others)))

pub returns-then-word-eq0-clause-alone : goal.returns-then-word-eq0-clause-alone
returns-then-word-eq0-clause-alone g c = where_made c.make_part-word.ensures.made (λ w at has others. refl)
