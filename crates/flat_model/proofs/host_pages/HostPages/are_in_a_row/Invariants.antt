use Rattle.std.proofs.Common.{◌≡◌, ◌+◌, ◌-◌}
use Rattle.core_views.specs.HostRuns.{are_in_a_row}
use Rattle.flat_model.specs.HostPages.{host_of}
use Rattle.flat_model.proofs.host_pages.HostPages.are_in_a_row.Given as goal

abbrev pub invariant-loop-done : goal.invariant-loop-done
invariant-loop-done l =
    are_in_a_row (host_of l.self.changed) (l.first.frame + l.done) l.first.writable (l.page + l.done) (l.count - l.done)
    ≡ are_in_a_row (host_of l.self.changed) l.first.frame l.first.writable l.page l.count
