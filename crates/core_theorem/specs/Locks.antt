-- The MMU lock after a run.
use Rattle.core_views.specs.Sizes.{actors_of}
use Rattle.spte_words.specs.declared.area.Area.TheVariants as area
use Rattle.mmu_core.specs.machine.Enabled.{mmu}
use Rattle.mmu_core.specs.invariant.LockPart.{LockPart}
use Rattle.mmu_core.specs.machine.Machine.{hand_in}
use Rattle.mmu_core.specs.machine.View.{word_in}
use Rattle.core_theorem.specs.Runs.{AfterEveryRun}

-- The lock's word counts the readers, and has bit 63 where one actor has the lock alone, beside whom none has it as a reader.
abbrev pub LockIsKept : Type 0
LockIsKept = AfterEveryRun (λ z w. LockPart (actors_of z) (word_in z w area.Lock 0) (λ i. (hand_in mmu w i).topics.hold))
