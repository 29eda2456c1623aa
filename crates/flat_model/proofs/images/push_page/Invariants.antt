use Rattle.std.proofs.Common.{◌≡◌, ◌++◌}
use Rattle.std.specs.Prelude.{filter}
use Rattle.core_views.specs.Migrations.{page_words}
use Rattle.flat_model.specs.Copying.{is_printed}
use Rattle.flat_model.specs.Kept.{memory_of}
use Rattle.flat_model.proofs.images.push_page.Given as goal

abbrev pub invariant-loop-word : goal.invariant-loop-word
invariant-loop-word l =
    l.found.items ≡ l.initial.found.items ++ filter is_printed (page_words l.word l.id l.page (memory_of l.image.entries l.host_page))
