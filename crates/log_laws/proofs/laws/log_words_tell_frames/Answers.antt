use Rattle.std.proofs.Common.{◌≡◌, ◌+◌, ℕ, Bool, subst, arith}
use Rattle.core_views.specs.LogCommands.{is_among, words_of}
use Rattle.log_laws.specs.LogWords.{TellBits}
use Rattle.log_laws.proofs.LogWords.{words_tell}
use Rattle.log_laws.proofs.Rules.{ranges}
use Rattle.log_laws.proofs.laws.log_words_tell_frames.Goals as goal

none_before : (n : ℕ) → 0 + n ≡ n
none_before n = omega arith

-- The first page of a get is page 0.
pub returns-clause-get : goal.returns-clause-get
returns-clause-get c id slot frames =
    let from_page : ℕ → ℕ → Bool = λ first page. is_among (slot.slot.base + (first + page)) frames in
    subst (λ (bits : ℕ → Bool). TellBits (words_of slot.slot.pages (from_page 0)) slot.slot.pages bits)
    (λ i page. is_among (slot.slot.base + none_before page i) frames) (words_tell slot.slot.pages (from_page 0))

pub returns-clause-clear : goal.returns-clause-clear
returns-clause-clear c id first count asked slot frames = words_tell count (λ bit. is_among (slot.slot.base + (first + bit)) frames)

pub returns-clause-ranges : goal.returns-clause-ranges
returns-clause-ranges c = ranges
