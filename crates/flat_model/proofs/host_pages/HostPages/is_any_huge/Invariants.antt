use Rattle.std.proofs.Common.{◌≡◌, ◌+◌, ◌-◌}
use Rattle.core_views.specs.HostRuns.{is_any_huge}
use Rattle.flat_model.specs.HostPages.{host_of}
use Rattle.flat_model.proofs.host_pages.HostPages.is_any_huge.Given as goal

abbrev pub invariant-loop-done : goal.invariant-loop-done
invariant-loop-done l =
    is_any_huge (host_of l.self.changed) (l.first + l.done) (l.count - l.done) ≡ is_any_huge (host_of l.self.changed) l.first l.count
