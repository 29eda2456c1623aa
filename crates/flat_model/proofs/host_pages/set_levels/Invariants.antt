use Rattle.std.proofs.Common.{◌≡◌, ◌+◌, ◌-◌, ◌≤◌}
use Rattle.std.specs.HashMap.{spare}
use Rattle.flat_model.specs.HostPages.{host_of, with_levels}
use Rattle.flat_model.proofs.host_pages.set_levels.Given as goal

abbrev pub invariant-loop-done : goal.invariant-loop-done
invariant-loop-done l =
    (with_levels (l.first + l.done) (l.count - l.done) l.level (host_of l.changed.entries)
    ≡ with_levels l.first l.count l.level (host_of l.initial.changed.entries))
    × (l.count - l.done ≤ spare l.changed)
