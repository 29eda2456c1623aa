use Rattle.std.proofs.Common.{◌≡◌, ◌≤◌, ◌∙◌, ℕ, List, ap, length, subst, sym, take}
use Rattle.core_views.specs.declared.sizes.Sizes.{Sizes}
use Rattle.core_views.specs.declared.trace.Line.{Line}
use Rattle.core_views.specs.Sizes.{actors_of, sizes_of}
use Rattle.mmu_core.specs.machine.Worlds.{IsStart}
use Rattle.step_seats.specs.Machines.{world_in}
use Rattle.table_seats.specs.Owners.{machine_of}
use Rattle.turn_loops.specs.Replays.{RunsLines}
use Rattle.live_workers.proofs.Mustering.{above_fits, as_in_world, begun_by, wide_as}
use Rattle.live_workers.proofs.crew.muster.Goals as goal

pub run_alone-requires-clause-start : goal.run_alone-requires-clause-start
run_alone-requires-clause-start c =
    let made = c.in_ok-machine.ensures {u = tt} in
    subst (λ (x : Sizes × List Line). IsStart x.0 x.1 (world_in (machine_of c.in_ok-machine.machine))) (λ i. (sym made.sizes i, sym c.as_slice.ensures i))
    made.start

pub run_alone-requires-clause-count : goal.run_alone-requires-clause-count
run_alone-requires-clause-count c =
    subst (λ (x : ℕ × List Line). x.0 ≤ length x.1) (λ i. (sym c.unwrap_or-above.ensures i, sym c.as_slice.ensures i))
    (above_fits c.args.trace.now.go (length c.args.trace.now.lines) c.requires.trace.go)

pub post_all-requires-clause-wide : goal.post_all-requires-clause-wide
post_all-requires-clause-wide c =
    let parts = c.into_parts-board.ensures in
    let count = c.sizes.ensures.count ∙ sym (c.actors-actors.ensures ∙ ap actors_of c.sizes.ensures.is) in
    wide_as c.run_alone.new.machine c.into_parts-board.result.0 c.into_parts-board.result.1 parts.fits _ parts.parts.1 count

pub post_all-requires-clause-world : goal.post_all-requires-clause-world
post_all-requires-clause-world c =
    let parts = c.into_parts-board.ensures in
    as_in_world c.run_alone.new.machine c.into_parts-board.result.0 c.into_parts-board.result.1 parts.fits parts.parts.1 parts.world

pub returns : goal.returns
returns c =
    let made = c.in_ok-machine.ensures {u = tt} in
    let parts = c.into_parts-board.ensures in
    let posted = c.in_ok-workers.ensures {u = tt} in
    let m = c.run_alone.new.machine in
    let pass = c.into_parts-board.result.1 in
    let sizes : m.sizes ≡ sizes_of c.args.trace.now.header = c.run_alone.ensures.same.0 ∙ made.sizes in
    let wide : length (machine_of m).hands ≡ actors_of (sizes_of c.args.trace.now.header) = c.sizes.ensures.count ∙ ap actors_of sizes in
    let start = world_in (machine_of c.in_ok-machine.machine) in
    let ran = subst (λ (x : ℕ × List Line). RunsLines c.in_ok-machine.machine.sizes start (take x.0 x.1) (world_in (machine_of m)))
    (λ i. (c.unwrap_or-above.ensures i, c.as_slice.ensures i)) c.in_ok-run_alone.ensures.ran in
    record {
      mustered =
          record {
            past = pass.knows.past;
            begun =
                begun_by m c.into_parts-board.result.0 pass parts.fits c.args.trace.now c.in_ok-machine.machine.sizes start made.sizes made.start ran
                parts.world;
            first = posted.first;
            count = posted.workers.0 ∙ (c.actors-actors.ensures ∙ (ap actors_of c.sizes.ensures.is ∙ ap actors_of sizes));
            wide = wide_as m c.into_parts-board.result.0 pass parts.fits _ parts.parts.1 wide;
            workers = (posted.workers.1, posted.as_split);
          };
    }
