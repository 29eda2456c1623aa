use Rattle.std.proofs.Common.{◌≡◌, length}
use Rattle.flat_model.specs.Copying.{with_pages}
use Rattle.flat_model.specs.Kept.{memory_of}
use Rattle.flat_model.proofs.plain.Plain.image_with.Given as goal

abbrev pub invariant-loop-rest : goal.invariant-loop-rest
invariant-loop-rest l =
    with_pages l.self.sizes.words l.self.slots l.rest (memory_of l.self.words) (memory_of l.image.entries)
    ≡ with_pages l.self.sizes.words l.self.slots l.frames (memory_of l.self.words) (memory_of l.self.copies.image)

abbrev pub decreases-loop-rest : goal.decreases-loop-rest
decreases-loop-rest l = length l.rest
