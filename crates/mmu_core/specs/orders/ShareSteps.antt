-- The order of steps by which a line comes to share the lock: a try, and where this found a writer another step that takes it back, before the next try.
use Rattle.std.specs.Prelude.{ℕ, Bool, true, false, if◌then◌else◌}
use Rattle.core_views.specs.declared.topics.Hold.{Hold}
use Rattle.core_views.specs.declared.topics.Hold.TheVariants.{Loose, Shared, Owing, Exclusive}
use Rattle.part_steps.specs.declared.part_step.PartStep.{PartStep}
use Rattle.part_steps.specs.declared.part_step.PartStep.TheVariants as part
use Rattle.part_steps.specs.ControlBits.{has_writer}
use Rattle.mmu_core.specs.declared.share.ShareNext.{ShareNext}
use Rattle.mmu_core.specs.declared.share.ShareNext.TheVariants.{Tries, Shares}

-- The lock isn't shared yet: nothing was done, or the line is to take itself out of its readers.
abbrev pub is_trying : Hold → Bool
is_trying Loose = true
is_trying Shared = false
is_trying (Owing word) = true
is_trying Exclusive = false

abbrev pub share_part : Hold → PartStep
share_part (Owing word) = part.Unshare
share_part _ = part.Share

-- after a step that found v
abbrev pub share_next : Hold → ℕ → ShareNext
share_next (Owing word) v = Tries
share_next _ v = if has_writer v then Tries else Shares

-- the most steps that are left of it, where no other actor is in the way
abbrev pub share_left : Hold → ℕ
share_left (Owing word) = 1
share_left _ = 2
