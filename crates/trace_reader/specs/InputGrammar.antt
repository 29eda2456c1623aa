-- What an input says, over its bytes, or at which line and why it says nothing; and that the reader takes just this.
use Rattle.std.specs.Prelude.{◌≡◌, ◌≤◌, ◌+◌, ◌⊎◌, ◌++◌, ℕ, List, [], ◌∷◌, codes, Bool, true, false, length, if◌then◌else◌, is_some, All, Ok, Err}
use Rattle.core_views.specs.declared.trace.Header.{Header}
use Rattle.core_views.specs.declared.trace.Trace.{Trace}
use Rattle.trace_reader.specs.declared.reason.Reason.{Reason}
use Rattle.trace_reader.specs.declared.reason.Reason.TheVariants as reason
use Rattle.trace_reader.specs.declared.saying.Saying.{Saying}
use Rattle.trace_reader.specs.Lines.{Raw, LineSaid, seen_with}
use Rattle.trace_reader.specs.Gathered.{Gathers}
use Rattle.trace_reader.specs.Reading.{reading}
use Rattle.trace_reader.specs.GrammarRefusals.{SaysNothingFor}
use Rattle.trace_reader.specs.Grammar.{spaced}
use Rattle.trace_reader.specs.LineGrammar.{SaysLine}
use Rattle.trace_reader.specs.HeaderGrammar.{IsHeaderSaid}

-- the bytes of lines with these texts: LF stands after each
abbrev pub with_ends : List (List ℕ) → List ℕ
with_ends [] = []
with_ends (text ∷ texts) = text ++ 10 ∷ with_ends texts

-- Each byte is one of 0x20 to 0x7e.
abbrev pub ArePlain : List ℕ → Type 0
ArePlain bytes = All (λ b. (32 ≤ b) × (b ≤ 126)) bytes

-- The text of a line is no longer than it may be, and plain.
abbrev pub IsText : List ℕ → Type 0
IsText text = (length text ≤ 65536) × ArePlain text

-- The text of a line is empty, or a comment.
abbrev pub IsSkipped : List ℕ → Type 0
IsSkipped text = (text ≡ []) ⊎ ((comment : List ℕ) × (text ≡ codes "#" ++ comment))

-- The text of line 1 says this header.
abbrev pub SaysHeader : List ℕ → Header → Type 0
SaysHeader text h = (words : List (List ℕ)) × (text ≡ spaced words) × IsHeaderSaid words h

-- The texts of the lines from line n on say this: a skipped one says nothing, and each other one says something.
-- `go_seen`: whether `go` stands on a line before them.
abbrev pub SayLines : Header → ℕ → Bool → List (List ℕ) → List LineSaid → Type 0
SayLines h n go_seen [] told = told ≡ []
SayLines h n go_seen (text ∷ texts) told =
    IsText text × ((IsSkipped text × SayLines h (n + 1) go_seen texts told) ⊎ ((IsSkipped text → ⊥)
    × ((s : Saying) × (more : List LineSaid) × (told ≡ (n, s) ∷ more) × SaysLine h go_seen text s × SayLines h (n + 1) (seen_with go_seen s) texts more)))

-- The texts of an input's lines say the trace: the first its header, the others its lines, `go` and its items.
abbrev pub SayTrace : List (List ℕ) → Trace → Type 0
SayTrace [] t = ⊥
SayTrace (first ∷ texts) t =
    (length (with_ends (first ∷ texts)) ≤ 16777216) × (length (first ∷ texts) ≤ 1000000) × IsText first × SaysHeader first t.header
    × ((told : List LineSaid) × SayLines t.header 2 false texts told × Gathers t told)

-- The bytes of an input say the trace.
abbrev pub SaysTrace : List ℕ → Trace → Type 0
SaysTrace input t = (texts : List (List ℕ)) × (input ≡ with_ends texts) × SayTrace texts t

-- The line passes the check of this reason, where it is one of those that look at no words.
abbrev pub Passes : Raw → Reason → Type 0
Passes line reason.Size = line.end ≤ 16777216
Passes line reason.Lines = line.number ≤ 1000000
Passes line reason.Cut = (line.ended_by_lf ≡ true) ⊎ (line.bytes ≡ [])
Passes line reason.Long = length line.bytes ≤ 65536
Passes line reason.Byte = ArePlain line.bytes
Passes line _ = Unit {0}

-- It passes all of these checks.
abbrev pub PassesAll : Raw → Type 0
PassesAll line = Passes line reason.Size × Passes line reason.Lines × Passes line reason.Cut × Passes line reason.Long × Passes line reason.Byte

-- The check of this reason is the first of them that it fails.
abbrev pub FailsFirst : Raw → Reason → Type 0
FailsFirst line reason.Size = Passes line reason.Size → ⊥
FailsFirst line reason.Lines = Passes line reason.Size × (Passes line reason.Lines → ⊥)
FailsFirst line reason.Cut = Passes line reason.Size × Passes line reason.Lines × (Passes line reason.Cut → ⊥)
FailsFirst line reason.Long = Passes line reason.Size × Passes line reason.Lines × Passes line reason.Cut × (Passes line reason.Long → ⊥)
FailsFirst line reason.Byte =
    Passes line reason.Size × Passes line reason.Lines × Passes line reason.Cut × Passes line reason.Long × (Passes line reason.Byte → ⊥)
FailsFirst line _ = ⊥

-- Line 1 fails for this reason.
abbrev pub HeaderFails : Raw → Reason → Type 0
HeaderFails line r = FailsFirst line r ⊎ (PassesAll line × (r ≡ reason.Header) × ((h : Header) → SaysHeader line.bytes h → ⊥))

-- A line behind the header fails for this reason; `go_seen`: whether `go` stands on a line before.
abbrev pub LineFails : Header → Bool → Raw → Reason → Type 0
LineFails h go_seen line r = FailsFirst line r ⊎ (PassesAll line × (IsSkipped line.bytes → ⊥) × SaysNothingFor h go_seen line.bytes r)

-- the line with this text that stands after lines with these texts
abbrev pub line_behind : List (List ℕ) → List ℕ → Bool → Raw
line_behind before text ended = record {
  number = length before + 1;
  end = length (with_ends before) + (length text + (if ended then 1 else 0));
  ended_by_lf = ended;
  bytes = text;
}

-- After lines with these texts a line with this text stands in the input: LF ends it, or nothing stands after it.
abbrev pub HasLine : List ℕ → List (List ℕ) → List ℕ → Bool → Type 0
HasLine input before text true = All (λ b. b ≡ 10 → ⊥) text × ((behind : List ℕ) × (input ≡ with_ends before ++ (text ++ 10 ∷ behind)))
HasLine input before text false = All (λ b. b ≡ 10 → ⊥) text × (input ≡ with_ends before ++ text)

-- Line 1 of the input fails for this reason. In an empty input it is empty.
abbrev pub FirstLineFails : List ℕ → Reason → Type 0
FirstLineFails input r = (text : List ℕ) × (ended : Bool) × HasLine input [] text ended × HeaderFails (line_behind [] text ended) r

-- Line n of the input is a later one, and fails for this reason; the lines before it say a trace by themselves.
abbrev pub LaterLineFails : List ℕ → ℕ → Reason → Type 0
LaterLineFails input n r =
    (before : List (List ℕ)) × (t : Trace) × SayTrace before t × (n ≡ length before + 1) × ((text : List ℕ) × (ended : Bool)
    × HasLine input before text ended × (ended ≡ false → text ≡ [] → ⊥) × LineFails t.header (is_some t.go) (line_behind before text ended) r)

-- Line n is the first of the input that fails, and fails for this reason.
abbrev pub FailsAt : List ℕ → ℕ → Reason → Type 0
FailsAt input n r = ((n ≡ 1) × FirstLineFails input r) ⊎ LaterLineFails input n r

-- The trace that the bytes say is read.
abbrev pub ReadsTheTrace : Type 0
ReadsTheTrace = (input : List ℕ) (t : Trace) → SaysTrace input t → reading input ≡ Ok t

-- Only the trace that the bytes say is read.
abbrev pub ReadsNoOtherTrace : Type 0
ReadsNoOtherTrace = (input : List ℕ) (t : Trace) → reading input ≡ Ok t → SaysTrace input t

-- An input is refused at the first line that fails, for its reason.
abbrev pub RefusesWhereItFails : Type 0
RefusesWhereItFails = (input : List ℕ) (n : ℕ) (r : Reason) → FailsAt input n r → reading input ≡ Err (n, r)

-- An input is refused at no other line, and for no other reason.
abbrev pub RefusesNowhereElse : Type 0
RefusesNowhereElse = (input : List ℕ) (n : ℕ) (r : Reason) → reading input ≡ Err (n, r) → FailsAt input n r
