use Rattle.std.proofs.Common.{◌≡◌, ◌∙◌, ◌+◌, ap, arith, subst, sym}
use Rattle.std.specs.Option.{option_copied}
use Rattle.core_views.specs.Held.{Handful, Held}
use Rattle.core_views.specs.Sizes.{actors_of}
use Rattle.mmu_core.specs.machine.Enabled.{mmu}
use Rattle.mmu_core.specs.machine.Machine.{hand_in}
use Rattle.step_seats.specs.Machines.{world_in}
use Rattle.turn_loops.specs.FirstOpen.{earlier_of}
use Rattle.turn_loops.proofs.FirstLines.{FirstBefore, looks_at, open_next}
use Rattle.turn_loops.proofs.rounds.first_open.Goals as goal

pub loop-index-preserved : goal.loop-index-preserved
loop-index-preserved g c =
    let M = g.M.MachineOwner in
    let w = world_in (M.machine c.args.machine.now) in
    let i = c.loop-index.index in
    let count : c.actors-index-end.result ≡ actors_of (M.machine c.args.machine.now).sizes = rw c.sizes.ensures.is at c.actors-index-end.ensures in
    let next : option_copied c.next_line.result ≡ open_next (hand_in mmu w i) = c.next_line.ensures
    ∙ ap (λ (x : Handful). open_next x.core) c.hand.ensures.hand ∙ ap (λ (x : Held). open_next x) (sym c.hand.ensures.has.is) in
    record {
      first = subst (FirstBefore w (i + 1)) (sym (c.earlier-first.ensures ∙ ap (earlier_of (option_copied c.loop-index.first)) next))
          (looks_at w i (option_copied c.loop-index.first) c.loop-index.invariant.first);
      within = omega (arith, count, c.loop-index-test.true);
    }
