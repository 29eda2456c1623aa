-- What is written where the words of a call ask for nothing that there is.
use Rattle.std.specs.Prelude.{ℕ, List, [], ◌∷◌, ◌++◌, codes, slice_index_or}
use Rattle.show_options.specs.declared.fault.Fault.{Fault}
use Rattle.show_options.specs.declared.fault.Wrong.{Wrong}
use Rattle.show_options.specs.declared.fault.Wrong.TheVariants.{NoText, Unknown, Second, NoValue, NoBound, NoActor, NoKind, NoWord}

abbrev pub wrong_text : Wrong → List ℕ
wrong_text NoText = codes "no text"
wrong_text Unknown = codes "no form, run or option"
wrong_text Second = codes "named before"
wrong_text NoValue = codes "no value"
wrong_text NoBound = codes "no turn"
wrong_text NoActor = codes "no actor"
wrong_text NoKind = codes "no kind of step"
wrong_text NoWord = codes "no word of the machine"

unfoldable pub usage_text : List ℕ
usage_text =
    codes "usage: show_steps [steps] [weave | replay] [--from AT] [--to AT] [--actor ACTOR] [--kind KIND] [--word WORD] [--changes] [--help]\n"
    ++ codes "AT is go, the number of a turn, or line and its number\n"

-- the word of a call with this number, and no letters where there is none
abbrev pub word_at : List (List ℕ) → ℕ → List ℕ
word_at words at = slice_index_or words at []

-- what is wrong, the word, and the usage
abbrev pub fault_text : List (List ℕ) → Fault → List ℕ
fault_text words fault = wrong_text fault.wrong ++ (codes ": " ++ (word_at words fault.at ++ 10 ∷ usage_text))
