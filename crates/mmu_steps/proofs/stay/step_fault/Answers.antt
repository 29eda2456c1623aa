use Rattle.std.proofs.Common.{length, ◌+◌, ap, refl, sym, ◌∙◌}
use Rattle.core_views.specs.declared.place.AccessPlace.TheVariants.{Fault}
use Rattle.core_views.specs.declared.place.Place.TheVariants as at
use Rattle.core_views.specs.declared.trace.Command.{Command}
use Rattle.core_views.specs.declared.trace.Command.TheVariants.{Access}
use Rattle.core_views.specs.Slots.{is_write}
use Rattle.core_views.specs.Held.{Held}
use Rattle.mmu_core.specs.declared.outcome.Outcome.TheVariants.{Goes}
use Rattle.mmu_core.specs.forms.access.AccessSteps.{behind_fault}
use Rattle.mmu_core.specs.forms.access.FaultSteps.{fault_next}
use Rattle.mmu_core.specs.lines.Delays.{line_waits}
use Rattle.mmu_steps.proofs.StayMade.{fault_delay, goes}
use Rattle.mmu_steps.proofs.stay.step_fault.Goals as goal

pub returns : goal.returns
returns c =
    let h : Held = c.args.hand.now.core in
    let next =
    ap (λ write. fault_next c.args.place h.state.sizes c.in-Access.gfn write h.topics c.args.found) (sym c.is_write.ensures)
    ∙ sym c.next.ensures ∙ c.in-Goes.is in
    record {
      core = goes h c.line.result.now c.in-Access.gfn c.in-Access.word c.in-Access.op c.args.found c.line.ensures.next c.in-Access.is (Fault c.args.place)
          (Fault c.in-Goes.next) h.state.used h.cached c.args.waits c.go_on.new.hand.core (ap behind_fault next) refl refl
          (fault_delay c.args.place (Access c.in-Access.gfn c.in-Access.word c.in-Access.op) h c.in-Access.gfn (is_write c.in-Access.op) c.args.found
          c.in-Goes.next (Goes (at.Access (Fault c.in-Goes.next))) c.args.waits
          (c.requires.waits ∙ ap (λ (command : Command). line_waits (at.Access (Fault c.args.place)) command h c.args.found)
          (sym (ap (λ l. l.command) c.line.ensures.next) ∙ c.in-Access.is)) next) c.go_on.ensures.core;
      room = ap (λ (x : Held). length x.answers + c.go_on.new.hand.room) c.go_on.ensures.core ∙ ap (λ n. length h.answers + n) c.go_on.ensures.room;
    }
