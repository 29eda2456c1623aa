-- How many steps a line that changes a slot has left.
use Rattle.std.specs.Prelude.{ℕ, ◌+◌, ◌-◌, ◌*◌, true, false, if◌then◌else◌}
use Rattle.core_views.specs.declared.place.SlotChangePlace.{SlotChangePlace}
use Rattle.core_views.specs.declared.place.SlotChangePlace.TheVariants.{AtOnce, Claim, Fill, Role, Arm, Begin, Exclude, Count, Close, Publish}
use Rattle.core_views.specs.declared.place.SlotChangePlace.TheVariants.{Release, End, Watch, WriteProtect, Clear, Give}
use Rattle.core_views.specs.declared.sizes.Sizes.{Sizes}
use Rattle.core_views.specs.declared.topics.Topics.{Topics}
use Rattle.core_views.specs.declared.trace.Command.{Command}
use Rattle.core_views.specs.declared.trace.Command.TheVariants.{SetLog}
use Rattle.core_views.specs.Sizes.{actors_of}
use Rattle.core_views.specs.SlotCommands.{arms}
use Rattle.spte_words.specs.Areas.{words_of_bits}
use Rattle.part_steps.specs.PartTasks.{words_filled}
use Rattle.mmu_core.specs.orders.ClaimSteps.{Pages, claim_left}
use Rattle.mmu_core.specs.orders.InvalidateLeft.{begin_left, end_left}
use Rattle.mmu_core.specs.orders.WriteProtectSteps.{protect_left}

-- Of the begin of an invalidation of as many guest frames as there are host pages, where the line may invalidate any; of setting the words of a dirty log; and
-- of forbidding writes to as many guest frames.
abbrev pub begins_left : Command → Sizes → ℕ
begins_left (SetLog id on) z = 0
begins_left _ z = 2 * z.vcpus + 138 + 5 * z.pages

abbrev pub arms_left : Command → Sizes → ℕ
arms_left command z = if arms command then words_of_bits z.pages else 0

abbrev pub protects_left : Command → Sizes → ℕ
protects_left command z = if arms command then 2 * z.vcpus + 4 + 5 * z.pages else 0

-- How many steps it has left: the words of the map, those of the new set's page and its role, those of the log, the invalidation, the lock, the publication,
-- the invalidation's end, each other actor, what forbids writes, and the old page. What follows a step that waits, as the one that gives the lock back with an
-- invalidation open, isn't counted there.
abbrev pub slot_change_left : SlotChangePlace → Command → Sizes → Topics → ℕ
slot_change_left (AtOnce refusal) c z t = 1
slot_change_left (Claim begun) c z t =
    526 + actors_of z + begins_left c z + arms_left c z + protects_left c z + claim_left Pages begun z t.claim
slot_change_left Fill c z t = 13 + actors_of z + begins_left c z + arms_left c z + protects_left c z + (513 - words_filled t.owned)
slot_change_left Role c z t = 14 + actors_of z + begins_left c z + arms_left c z + protects_left c z
slot_change_left (Arm true) c z t = 13 + actors_of z + protects_left c z + (words_of_bits z.pages - t.next_log_word)
slot_change_left (Arm false) c z t = 13 + actors_of z + protects_left c z + words_of_bits z.pages
slot_change_left (Begin p) c z t = 13 + actors_of z + protects_left c z + begin_left p z z.pages t
slot_change_left Close c z t = 11 + actors_of z + protects_left c z
slot_change_left Exclude c z t = 13 + actors_of z + protects_left c z
slot_change_left Count c z t = 12 + actors_of z + protects_left c z
slot_change_left Publish c z t = 11 + actors_of z + protects_left c z
slot_change_left Release c z t = 10 + actors_of z + protects_left c z
slot_change_left (End p) c z t = 3 + actors_of z + protects_left c z + end_left p
slot_change_left Watch c z t = 3 + protects_left c z + (actors_of z - t.watched)
slot_change_left (WriteProtect range p) c z t = 2 + protect_left p z range t
slot_change_left Clear c z t = 2
slot_change_left Give c z t = 1
