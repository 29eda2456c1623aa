use Rattle.std.proofs.Common.{refl}
use Rattle.std.specs.Fmt.{digits}
use Rattle.core_views.specs.LogCommands.{words_of}
use Rattle.core_views.specs.Text.{line_text}
use Rattle.log_laws.proofs.laws.more_log_lines_print.Goals as goal

pub returns-clause-words : goal.returns-clause-words
unfolding line_text digits words_of
returns-clause-words c = refl

pub returns-clause-whole : goal.returns-clause-whole
unfolding line_text digits words_of
returns-clause-whole c = refl

pub returns-clause-first : goal.returns-clause-first
unfolding line_text digits words_of
returns-clause-first c = refl

pub returns-clause-other : goal.returns-clause-other
unfolding line_text digits words_of
returns-clause-other c = refl

pub returns-clause-each : goal.returns-clause-each
unfolding line_text digits words_of
returns-clause-each c = refl

pub returns-clause-modes : goal.returns-clause-modes
returns-clause-modes c = (refl, refl, refl)
