use Rattle.std.proofs.Common.{refl}
use Rattle.std.specs.Fmt.{digits}
use Rattle.core_views.specs.LogCommands.{words_of}
use Rattle.core_views.specs.Text.{line_text}
use Rattle.log_laws.proofs.laws.log_lines_print.Goals as goal

-- Of the traces the bytes are computed.

pub returns-clause-get : goal.returns-clause-get
unfolding line_text digits words_of
returns-clause-get c = refl

pub returns-clause-read : goal.returns-clause-read
unfolding line_text digits words_of
returns-clause-read c = refl

pub returns-clause-words : goal.returns-clause-words
unfolding line_text digits words_of
returns-clause-words c = refl

pub returns-clause-ranges : goal.returns-clause-ranges
unfolding line_text digits words_of
returns-clause-ranges c = refl

pub returns-clause-ends : goal.returns-clause-ends
unfolding line_text digits words_of
returns-clause-ends c = refl

pub returns-clause-manual : goal.returns-clause-manual
unfolding line_text digits words_of
returns-clause-manual c = refl

pub returns-clause-all_set : goal.returns-clause-all_set
unfolding line_text digits words_of
returns-clause-all_set c = refl

pub returns-clause-refusals : goal.returns-clause-refusals
unfolding line_text digits words_of
returns-clause-refusals c = refl
