use Rattle.std.proofs.Common.{refl}
use Rattle.std.specs.Fmt.{digits}
use Rattle.core_views.specs.Text.{line_text}
use Rattle.core_views.specs.Migrations.{image_words}
use Rattle.core_views.specs.LogCommands.{words_of}
use Rattle.flat_laws.proofs.LateWrites.{late_write_lawful, left_out_lawful, paused_lawful}
use Rattle.flat_laws.proofs.laws.migrations_copy_memory.Goals as goal

pub returns-clause-migration : goal.returns-clause-migration
unfolding line_text digits image_words words_of
returns-clause-migration c = (refl, refl)

pub returns-clause-rounds : goal.returns-clause-rounds
unfolding line_text digits image_words words_of
returns-clause-rounds c = refl

pub returns-clause-first : goal.returns-clause-first
unfolding line_text digits image_words words_of
returns-clause-first c = refl

pub returns-clause-refusals : goal.returns-clause-refusals
unfolding line_text digits image_words words_of
returns-clause-refusals c = refl

pub returns-clause-empty : goal.returns-clause-empty
unfolding line_text digits image_words words_of
returns-clause-empty c = refl

pub returns-clause-beside : goal.returns-clause-beside
unfolding line_text digits image_words words_of
returns-clause-beside c = (late_write_lawful, refl)

pub returns-clause-paused : goal.returns-clause-paused
unfolding line_text digits
returns-clause-paused c = (paused_lawful, refl)

pub returns-clause-round : goal.returns-clause-round
unfolding line_text digits
returns-clause-round c = (left_out_lawful, refl)
