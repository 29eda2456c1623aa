use Rattle.std.specs.Prelude.{true}
use Rattle.part_steps.specs.ControlBits.{has_writer}
use Rattle.std.proofs.Common.{Some, ◌≡◌, ℕ, refl, sym, subst, ap, ◌∙◌}
use Rattle.core_views.specs.declared.topics.Hold.TheVariants.{Owing}
use Rattle.core_views.specs.declared.topics.Topics.{Topics}
use Rattle.core_views.specs.Held.{Held}
use Rattle.part_steps.specs.declared.part_step.PartStep.{PartStep}
use Rattle.step_seats.specs.PartTurns.{MadePart}
use Rattle.step_seats.proofs.AloneTold.{shared_told}
use Rattle.mmu_lock.proofs.Locked.{fewer_left, free_where, not_free, owes_behind, shares_behind, wants_share}
use Rattle.step_seats.proofs.Where.{telling, where_made}
use Rattle.mmu_lock.proofs.lock.try_shared.Goals as goal

pub returns-in-Owing-clause-tried : goal.returns-in-Owing-clause-tried
returns-in-Owing-clause-tried g c =
    let is : c.hand-hand.result.now.core.topics.hold ≡ Owing c.in-Owing.word = ap (λ (t : Topics). t.hold) (sym c.topics.ensures) ∙ c.in-Owing.is in
    (ap (λ (h : Held). h.topics.hold) (sym c.hand-hand.ensures.hand) ∙ is, c.part_rests.ensures.saw_writer c.in-Owing.word is, c.make_part.ensures.made.topics)

pub returns-then-has_writer : goal.returns-then-has_writer
returns-then-has_writer g c =
    let never : (w : ℕ) → (g.S.Stepper.seat c.args.s.now).hand.topics.hold ≡ Owing w → ⊥ =
    λ w e. c.in_default.not-Owing w (ap (λ (t : Topics). t.hold) (c.topics.ensures ∙ ap (λ (h : Held). h.topics) c.hand-hand.ensures.hand) ∙ e) in
    let wants = wants_share (g.S.Stepper.seat c.args.s.now).hand c.args.note never c.requires.may in
    let made = c.make_part-2.ensures.made in
    let shares = subst (λ (x : PartStep). MadePart x c.args.note c.make_part-2.result (g.S.Stepper.seat c.args.s.now) (g.S.Stepper.seat c.make_part-2.new.s))
    (sym wants.0) made in
    let seen : has_writer c.make_part-2.result ≡ true = sym c.has_writer.ensures ∙ c.if-has_writer.true in
    record {
      step = record {
        found = c.make_part-2.result;
        made = shares;
      };
      tried = (
        c.make_part-2.result,
        seen,
        wants.1,
        owes_behind (g.S.Stepper.seat c.args.s.now).hand.topics (g.S.Stepper.seat c.make_part-2.new.s).hand.topics
            c.make_part-2.result made.topics seen,
      );
      nearer = λ e. fewer_left (g.S.Stepper.seat c.args.s.now).hand.topics.hold (g.S.Stepper.seat c.make_part-2.new.s).hand.topics.hold c.make_part-2.result
          wants.1 (ap (λ (t : Topics). t.hold)
          (owes_behind (g.S.Stepper.seat c.args.s.now).hand.topics (g.S.Stepper.seat c.make_part-2.new.s).hand.topics c.make_part-2.result made.topics seen));
      shared = λ e. absurd (cc e);
      alone = λ loose. where_made shares
          (λ w at has others. absurd
          (not_free c.make_part-2.result seen (free_where _ _ _ (telling w (g.S.Stepper.seat c.args.s.now)) _ wants.0 at loose others)));
      keeps = c.make_part-2.ensures.keeps;
    }

pub returns-else-has_writer : goal.returns-else-has_writer
returns-else-has_writer g c =
    let never : (w : ℕ) → (g.S.Stepper.seat c.args.s.now).hand.topics.hold ≡ Owing w → ⊥ =
    λ w e. c.in_default.not-Owing w (ap (λ (t : Topics). t.hold) (c.topics.ensures ∙ ap (λ (h : Held). h.topics) c.hand-hand.ensures.hand) ∙ e) in
    let wants = wants_share (g.S.Stepper.seat c.args.s.now).hand c.args.note never c.requires.may in
    let made = c.make_part-2.ensures.made in
    let shares = subst (λ (x : PartStep). MadePart x c.args.note c.make_part-2.result (g.S.Stepper.seat c.args.s.now) (g.S.Stepper.seat c.make_part-2.new.s))
    (sym wants.0) made in
    let is = shares_behind (g.S.Stepper.seat c.args.s.now).hand.topics (g.S.Stepper.seat c.make_part-2.new.s).hand.topics c.make_part-2.result made.topics
    (sym c.has_writer.ensures ∙ c.if-has_writer.false) in
    record {
      step = record {
        found = c.make_part-2.result;
        made = shares;
      };
      tried = (wants.1, is);
      nearer = λ e. absurd (cc e);
      shared = λ e. where_made shares (λ w at has. shared_told (Some _) _ _ has (ap (λ (t : Topics). t.hold) is));
      alone = λ loose. where_made shares (λ w at has others. refl);
      keeps = c.make_part-2.ensures.keeps;
    }
