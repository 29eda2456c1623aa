use Rattle.std.proofs.Common.{◌≡◌}
use Rattle.flat_model.specs.Copying.{with_words}
use Rattle.flat_model.specs.Kept.{memory_of}
use Rattle.flat_model.proofs.plain.Plain.copy_page.Given as goal

abbrev pub invariant-loop-word : goal.invariant-loop-word
invariant-loop-word l =
    memory_of l.image.entries ≡ with_words l.word l.page (memory_of l.self.words) (memory_of l.initial.image.entries)
