-- What the program writes besides answers, and what a line of its output is.
use Rattle.std.specs.Prelude.{◌≡◌, ◌⊎◌, ℕ, List, [], ◌∷◌, ◌++◌, codes}
use Rattle.std.specs.Fmt.{decimal}
use Rattle.trace_reader.specs.declared.reason.Reason.{Reason}
use Rattle.run_status.specs.Refusals.{refusal_text}
use Rattle.weave_engine.specs.Pieces.{IsPrintedLine}

abbrev pub usage_text : List ℕ
usage_text = codes "usage: tdpmmu check | replay | weave | live | gen N\n"

-- how many lines of the trace belong to an actor, and how many pool pages it needs
unfoldable pub check_text : ℕ → ℕ → List ℕ
check_text lines need = codes "ok " ++ (decimal lines ++ (codes " need " ++ (decimal need ++ 10 ∷ [])))

-- a line that the program writes: a line of a replay or a weave, or all that there is to say
abbrev pub IsWrittenLine : List ℕ → Type 0
IsWrittenLine bytes =
    IsPrintedLine bytes ⊎ ((bytes ≡ usage_text)
    ⊎ (((line : ℕ) × (reason : Reason) × (bytes ≡ refusal_text line reason)) ⊎ ((lines : ℕ) × (need : ℕ) × (bytes ≡ check_text lines need))))
