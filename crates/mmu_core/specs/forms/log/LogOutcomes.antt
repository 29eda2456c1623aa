-- What a step of a line that reads a dirty log comes to: where the line stands, and what it has read.
use Rattle.std.specs.Prelude.{ℕ, List, []}
use Rattle.core_views.specs.declared.answer.Answer.TheVariants.{Bits, Refused}
use Rattle.core_views.specs.declared.place.Place.TheVariants as place
use Rattle.mmu_core.specs.declared.log_next.LogNext.{LogNext}
use Rattle.mmu_core.specs.declared.log_next.LogNext.TheVariants as next
use Rattle.mmu_core.specs.declared.outcome.Outcome.{Outcome}
use Rattle.mmu_core.specs.declared.outcome.Outcome.TheVariants.{Ends, Goes}

-- It goes on, is refused, or is answered with the words that it has read.
abbrev pub after_log : LogNext → List ℕ → Outcome
after_log (next.Goes q) words = Goes (place.Log q)
after_log (next.Refused refusal) words = Ends (Refused refusal)
after_log next.Reads words = Ends (Bits words)

-- What it has read it keeps where it goes on.
abbrev pub harvest_after : LogNext → List ℕ → List ℕ
harvest_after (next.Goes q) words = words
harvest_after _ words = []
