use Rattle.std.proofs.Common.{◌≡◌}
use Rattle.mmu_core.specs.machine.Worlds.{start_hands}
use Rattle.hands.specs.Cores.{cores_of}
use Rattle.machine_start.proofs.start.start_hands.Given as goal

-- The hands of the actors before this one are made.
abbrev pub invariant-loop-index : goal.invariant-loop-index
invariant-loop-index l = cores_of l.hands.items ≡ start_hands l.sizes l.lines l.index
