-- The words that are printed for the reasons.
use Rattle.std.specs.Prelude.{ℕ, List, codes}
use Rattle.trace_reader.specs.declared.reason.Reason.{Reason}
use Rattle.trace_reader.specs.declared.reason.Reason.TheVariants.{Size, Lines, Cut, Long, Byte, Header, Word, Actor, Number}

-- the word that is printed for the reason
abbrev pub reason_name : Reason → List ℕ
reason_name Size = codes "size"
reason_name Lines = codes "lines"
reason_name Cut = codes "cut"
reason_name Long = codes "long"
reason_name Byte = codes "byte"
reason_name Header = codes "header"
reason_name Word = codes "word"
reason_name Actor = codes "actor"
reason_name Number = codes "number"
