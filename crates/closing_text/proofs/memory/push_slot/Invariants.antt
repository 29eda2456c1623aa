use Rattle.std.proofs.Common.{◌≡◌, ◌+◌, ◌++◌, string_bytes}
use Rattle.std.specs.List.{flat_map, range_with_len}
use Rattle.std.specs.Prelude.{filter}
use Rattle.core_views.specs.Migrations.{page_words}
use Rattle.core_views.specs.Text.{image_text}
use Rattle.flat_model.specs.Copying.{is_printed}
use Rattle.closing_text.specs.MemoryText.{memory_in}
use Rattle.closing_text.proofs.memory.push_slot.Given as goal

abbrev pub invariant-loop-page : goal.invariant-loop-page
invariant-loop-page l =
    string_bytes l.text ≡ string_bytes l.initial.text ++ image_text (filter is_printed
    (flat_map (λ page. page_words l.sizes.words l.id page (memory_in l.sizes l.words (l.slot.host + page))) (range_with_len 0 l.page)))
