use Rattle.std.proofs.Common.{ap, sym, ◌∙◌, Some}
use Rattle.part_steps.specs.declared.part_step.PartStep.TheVariants.{Enter}
use Rattle.step_seats.proofs.Found.{found_told}
use Rattle.vcpu_tlb.specs.Entering.{answer_to}
use Rattle.vcpu_tlb.specs.Entering.{cached_behind}
use Rattle.vcpu_tlb.proofs.CachedBehind.{entered_cached}
use Rattle.vcpu_tlb.proofs.GuestWords.{entered_word, found_flush, found_none}
use Rattle.step_seats.proofs.Where.{telling, where_made}
use Rattle.vcpu_tlb.proofs.guest.enter.Goals as goal

pub returns-then-asks_flush-clause-asked : goal.returns-then-asks_flush-clause-asked
returns-then-asks_flush-clause-asked g c =
    where_made c.make_part-state.ensures.made
    (λ w at has. sym (found_flush c.make_part-state.result (sym c.asks_flush.ensures ∙ c.if-asks_flush.true))
    ∙ ap answer_to (found_told Enter _ _ (telling w (g.S.Stepper.seat c.args.s.now)) _ at c.requires.may.needs))

pub returns-then-asks_flush-clause-state : goal.returns-then-asks_flush-clause-state
returns-then-asks_flush-clause-state g c =
    where_made c.make_part-state.ensures.made (λ w at has. entered_word (Some w) (Some _) _ _ _ _ _ at.has at.world has)

pub returns-else-asks_flush-clause-asked : goal.returns-else-asks_flush-clause-asked
returns-else-asks_flush-clause-asked g c =
    where_made c.make_part-state.ensures.made
    (λ w at has. sym (found_none c.make_part-state.result (sym c.asks_flush.ensures ∙ c.if-asks_flush.false))
    ∙ ap answer_to (found_told Enter _ _ (telling w (g.S.Stepper.seat c.args.s.now)) _ at c.requires.may.needs))

pub returns-else-asks_flush-clause-state : goal.returns-else-asks_flush-clause-state
returns-else-asks_flush-clause-state g c =
    where_made c.make_part-state.ensures.made (λ w at has. entered_word (Some w) (Some _) _ _ _ _ _ at.has at.world has)

pub returns-then-asks_flush-clause-cached : goal.returns-then-asks_flush-clause-cached
returns-then-asks_flush-clause-cached g c =
    entered_cached (g.S.Stepper.seat c.args.s.now).hand (g.S.Stepper.seat c.make_part-state.new.s).hand c.args.note c.make_part-state.result c.requires.may
    c.make_part-state.ensures.made.hand
    ∙ ap (λ a. cached_behind a (g.S.Stepper.seat c.args.s.now).hand.cached)
    (found_flush c.make_part-state.result (sym c.asks_flush.ensures ∙ c.if-asks_flush.true))

pub returns-else-asks_flush-clause-cached : goal.returns-else-asks_flush-clause-cached
returns-else-asks_flush-clause-cached g c =
    entered_cached (g.S.Stepper.seat c.args.s.now).hand (g.S.Stepper.seat c.make_part-state.new.s).hand c.args.note c.make_part-state.result c.requires.may
    c.make_part-state.ensures.made.hand
    ∙ ap (λ a. cached_behind a (g.S.Stepper.seat c.args.s.now).hand.cached)
    (found_none c.make_part-state.result (sym c.asks_flush.ensures ∙ c.if-asks_flush.false))
