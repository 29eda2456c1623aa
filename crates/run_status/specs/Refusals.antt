-- The line of a refused input, and the most turns of a weave.
use Rattle.std.specs.Prelude.{ℕ, List, [], ◌∷◌, ◌++◌, codes}
use Rattle.std.specs.Fmt.{decimal}
use Rattle.trace_reader.specs.declared.reason.Reason.{Reason}
use Rattle.trace_reader.specs.Reasons.{reason_name}

-- the first refused line, by its number and the reason
unfoldable pub refusal_text : ℕ → Reason → List ℕ
refusal_text line reason = codes "refused " ++ (decimal line ++ (codes " " ++ (reason_name reason ++ 10 ∷ [])))

-- the most turns in rounds that a weave makes
abbrev pub rounds_limit : ℕ
rounds_limit = 10000000
