-- What a line after the header says, with no order of checks; and that the reader takes just this.
use Rattle.std.specs.Prelude.{◌≡◌, ◌+◌, ◌⊎◌, ◌++◌, ℕ, List, [], ◌∷◌, codes, Bool, true, false, length, Ok}
use Rattle.core_views.specs.Text.{actor_name}
use Rattle.core_views.specs.Traces.{IsHeader}
use Rattle.core_views.specs.declared.actor.Actor.{Actor}
use Rattle.core_views.specs.declared.trace.Header.{Header}
use Rattle.core_views.specs.declared.trace.Until.{Until}
use Rattle.core_views.specs.declared.trace.Until.TheVariants.{Turns, Answered, Made}
use Rattle.trace_reader.specs.declared.saying.Saying.{Saying}
use Rattle.trace_reader.specs.declared.saying.Saying.TheVariants.{Does, Go, Schedules}
use Rattle.trace_reader.specs.Numbers.{is_digit}
use Rattle.trace_reader.specs.Items.{begins, kind_names}
use Rattle.trace_reader.specs.Sayings.{IsSayingOf, said}
use Rattle.trace_reader.specs.Grammar.{AreCommandWords, AreWords, IsActor, IsCommandForm, Spells, spaced}

-- the words of `> ACTOR N`, `> ACTOR end` and `> ACTOR KIND`
abbrev pub item_words : Actor → List ℕ → List (List ℕ)
item_words actor last = codes ">" ∷ actor_name actor ∷ last ∷ []

-- The word is the name of the kind of step with this number, from 1: the list of their names has it there.
abbrev pub IsKindNamed : List ℕ → ℕ → Type 0
IsKindNamed w code = (before after : List (List ℕ)) × (kind_names ≡ before ++ w ∷ after) × (code ≡ length before + 1)

-- The last word of an item says until when the turns go on. The kind of step that is named `end` can't be meant.
abbrev pub SaysUntil : List ℕ → Until → Type 0
SaysUntil w (Turns count) = Spells w count
SaysUntil w Answered = w ≡ codes "end"
SaysUntil w (Made code) = (w ≡ codes "end" → ⊥) × IsKindNamed w code

-- The words are those of this saying. A second `go` is none; `go_seen`: whether `go` stands on a line before.
abbrev pub AreWordsOf : Bool → List (List ℕ) → Saying → Type 0
AreWordsOf go_seen words (Does actor command) = AreCommandWords words actor command
AreWordsOf go_seen words Go = (go_seen ≡ false) × (words ≡ codes "go" ∷ [])
AreWordsOf go_seen words (Schedules item) = (last : List ℕ) × (words ≡ item_words item.actor last) × SaysUntil last item.until

-- The bytes of a line say this: they are words of its form, its actor is declared, and its numbers are in their ranges.
-- `go_seen`: whether `go` stands on a line before.
abbrev pub SaysLine : Header → Bool → List ℕ → Saying → Type 0
SaysLine h go_seen bytes s = IsSayingOf h s × ((words : List (List ℕ)) × (bytes ≡ spaced words) × AreWordsOf go_seen words s)

-- What a line says is read.
abbrev pub ReadsWhatIsSaid : Type 0
ReadsWhatIsSaid = (h : Header) (go_seen : Bool) (bytes : List ℕ) (s : Saying) → IsHeader h → SaysLine h go_seen bytes s → said h go_seen bytes ≡ Ok s

-- Only what a line says is read.
abbrev pub ReadsNothingElse : Type 0
ReadsNothingElse = (h : Header) (go_seen : Bool) (bytes : List ℕ) (s : Saying) → said h go_seen bytes ≡ Ok s → SaysLine h go_seen bytes s

-- The last word of an item is of a form: it begins with a digit, is `end`, or names a kind of step.
abbrev pub IsUntilForm : List ℕ → Type 0
IsUntilForm w = (begins is_digit w ≡ true) ⊎ (w ≡ codes "end") ⊎ ((code : ℕ) × IsKindNamed w code)

-- The words are those of an item of this actor, whatever number stands in it.
abbrev pub IsItemForm : List (List ℕ) → Actor → Type 0
IsItemForm words actor = (last : List ℕ) × (words ≡ item_words actor last) × IsUntilForm last

-- The words are of a form that names the actor.
abbrev pub HasForm : List (List ℕ) → Actor → Type 0
HasForm words actor = IsCommandForm words actor ⊎ IsItemForm words actor

-- The bytes of a line are words of a form that names this actor; neither its being declared nor the numbers are judged.
abbrev pub IsOfForm : List ℕ → Actor → Type 0
IsOfForm bytes actor = IsActor actor × ((words : List (List ℕ)) × (bytes ≡ spaced words) × AreWords words × HasForm words actor)

-- The line is `go`, which wasn't there before.
abbrev pub IsFirstGo : Bool → List ℕ → Type 0
IsFirstGo go_seen bytes = (go_seen ≡ false) × (bytes ≡ codes "go")
