use Rattle.std.proofs.Common.{arith}
use Rattle.spte_words.specs.HostWords.{host_word}
use Rattle.spte_words.proofs.ReadsHost.{host_fits, host_is_present, host_is_writable, host_has_level, host_has_frame}
use Rattle.spte_words.proofs.ReadsFlags.{flags_fit, flags_are_live, flags_are_read_only, flags_are_logged}
use Rattle.spte_words.proofs.laws.host_words_and_flags_tell_what_they_are.Goals as goal

pub returns-clause-host : goal.returns-clause-host
returns-clause-host c frame present writable level small within = (
  host_has_frame frame present writable level within,
  host_is_present frame present writable level,
  host_is_writable frame present writable level,
  host_has_level frame present writable level within,
  host_fits frame present writable level small within,
)

pub returns-clause-first : goal.returns-clause-first
unfolding host_word
returns-clause-first c p = omega arith

pub returns-clause-flags : goal.returns-clause-flags
returns-clause-flags c live read_only logged = (
  flags_are_live live read_only logged,
  flags_are_read_only live read_only logged,
  flags_are_logged live read_only logged,
  flags_fit live read_only logged,
)
