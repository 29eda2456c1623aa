use Rattle.std.proofs.Common.{◌≡◌, ◌++◌, List, Some, length}
use Rattle.core_views.specs.declared.kind.Kind.{Kind}
use Rattle.mmu_core.specs.machine.Machine.{Step}
use Rattle.table_seats.specs.Boards.{Fits}
use Rattle.table_seats.specs.Passes.{steps_before_split}
use Rattle.live_workers.proofs.Joining.{AreJoined}
use Rattle.live_workers.proofs.crew.join_all.Given as goal

abbrev pub invariant-loop-worker : goal.invariant-loop-worker
invariant-loop-worker l = record {
  fits : Fits l.board l.pass;
  split : (past : List (Step Kind)) → steps_before_split l.initial.pass.knows ≡ Some past → steps_before_split l.pass.knows ≡ Some past;
  rest : l.yielded ++ l.worker-iterator.rest.items ≡ l.fn.workers.items;
  joined : AreJoined l.fn.workers.items l.pass.hands (length l.yielded) l.failed;
}
