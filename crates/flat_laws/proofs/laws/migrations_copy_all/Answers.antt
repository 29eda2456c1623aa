use Rattle.flat_laws.proofs.AnsweredImages.{none_is_left_to_copy}
use Rattle.flat_laws.proofs.CopyCounts.{copied_tells_pages}
use Rattle.flat_laws.proofs.laws.migrations_copy_all.Goals as goal

pub returns-clause-left : goal.returns-clause-left
returns-clause-left c = none_is_left_to_copy

pub returns-clause-count : goal.returns-clause-count
returns-clause-count c = copied_tells_pages
