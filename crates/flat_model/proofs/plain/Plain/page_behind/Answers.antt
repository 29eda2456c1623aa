use Rattle.std.proofs.Common.{sym, arith}
use Rattle.core_views.specs.SlotSets.{flat_slots}
use Rattle.flat_model.proofs.Finds.{in_bounds}
use Rattle.flat_model.proofs.plain.Plain.page_behind.Goals as goal

pub overflow_sub-result : goal.overflow_sub-result
overflow_sub-result c =
    (in_bounds c.args.gfn c.self.inside.host.sizes.pages (flat_slots c.self.inside.slots) c.in_ok-found.found.1.slot (sym c.in_ok-found.ensures.flat)
    c.self.invariant.1).0

pub overflow_add-result : goal.overflow_add-result
overflow_add-result c =
    let b =
    in_bounds c.args.gfn c.self.inside.host.sizes.pages (flat_slots c.self.inside.slots) c.in_ok-found.found.1.slot (sym c.in_ok-found.ensures.flat)
    c.self.invariant.1 in
    omega (arith, b.1, c.self.invariant.0)
