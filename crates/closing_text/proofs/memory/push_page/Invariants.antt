use Rattle.std.proofs.Common.{◌≡◌, ◌++◌, string_bytes}
use Rattle.std.specs.Prelude.{filter}
use Rattle.core_views.specs.Migrations.{page_words}
use Rattle.core_views.specs.Text.{image_text}
use Rattle.flat_model.specs.Copying.{is_printed}
use Rattle.closing_text.specs.MemoryText.{content_in}
use Rattle.closing_text.proofs.memory.push_page.Given as goal

abbrev pub invariant-loop-word : goal.invariant-loop-word
invariant-loop-word l =
    string_bytes l.text ≡ string_bytes l.initial.text ++ image_text (filter is_printed (page_words l.word l.id l.page (content_in l.sizes l.words l.frame)))
