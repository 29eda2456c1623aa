use Rattle.std.proofs.Common.{◌≡◌, ◌+◌, ◌-◌, ◌++◌}
use Rattle.std.specs.List.{flat_map, range_with_len}
use Rattle.std.specs.Prelude.{filter}
use Rattle.core_views.specs.Migrations.{page_words, slot_words}
use Rattle.flat_model.specs.Copying.{is_printed}
use Rattle.flat_model.specs.Kept.{memory_of}
use Rattle.flat_model.proofs.images.push_slot.Given as goal

abbrev pub invariant-loop-page : goal.invariant-loop-page
invariant-loop-page l =
    l.found.items ++ filter is_printed (flat_map (λ page. page_words l.words l.id page (memory_of l.image.entries (l.slot.host + page)))
    (range_with_len l.page (l.slot.pages - l.page)))
    ≡ l.initial.found.items ++ filter is_printed (slot_words l.words (memory_of l.image.entries) l.entry.0 l.entry.1.slot)
