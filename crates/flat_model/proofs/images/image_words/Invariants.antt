use Rattle.std.proofs.Common.{◌≡◌, ◌-◌, ◌^◌, ◌++◌, length}
use Rattle.std.specs.List.{flat_map}
use Rattle.std.specs.Prelude.{All, filter}
use Rattle.core_views.specs.Migrations.{slot_words}
use Rattle.flat_model.specs.Copying.{FitsIn, is_printed}
use Rattle.flat_model.specs.Kept.{memory_of}
use Rattle.flat_model.proofs.images.image_words.Given as goal

abbrev pub invariant-loop-entry : goal.invariant-loop-entry
invariant-loop-entry l =
    All (FitsIn (2 ^ 64 - 1)) l.rest
    × (l.found.items ++ filter is_printed (flat_map (λ entry. slot_words l.words (memory_of l.image.entries) entry.0 entry.1.slot) l.rest)
    ≡ filter is_printed (flat_map (λ entry. slot_words l.words (memory_of l.image.entries) entry.0 entry.1.slot) l.slots))

abbrev pub decreases-loop-entry : goal.decreases-loop-entry
decreases-loop-entry l = length l.rest
