-- The words of a line, and its bytes.
use Rattle.std.proofs.Common.{◌≡◌, inl, inr, ℕ, List, [], ◌∷◌, length, refl, sym, subst, arith, ◌==◌, ◌&&◌, nat_lt, not, Bool, true, false, Result, Ok, Err}
use Rattle.std.proofs.Common.{◌∙◌}
use Rattle.std.specs.Prelude.{codes, if◌then◌else◌}
use Rattle.std.specs.List.{list_all, list_any}
use Rattle.std.proofs.lemmas.Bool.Decides.{nat_tests}
use Rattle.std.proofs.lemmas.List.Splits.{join_with_byte-slice_split}
use Rattle.std.specs.declared.option.Option.{Option}
use Rattle.std.specs.declared.option.Option.TheVariants.{Some, None}
use Rattle.core_views.specs.Traces.{IsHeader}
use Rattle.core_views.specs.declared.actor.Actor.{Actor}
use Rattle.core_views.specs.declared.trace.Header.{Header}
use Rattle.core_views.specs.declared.trace.Until.{Until}
use Rattle.core_views.specs.declared.trace.Until.TheVariants.{Turns, Answered, Made}
use Rattle.trace_reader.specs.declared.reason.Reason.{Reason}
use Rattle.trace_reader.specs.declared.saying.Saying.{Saying}
use Rattle.trace_reader.specs.declared.saying.Saying.TheVariants.{Does, Go, Schedules}
use Rattle.trace_reader.specs.Operands.{◌>>=◌}
use Rattle.trace_reader.specs.Lines.{Raw, after_checks, content, fault_of, is_skipped, line_of}
use Rattle.trace_reader.specs.Forms.{is_empty, words_of}
use Rattle.trace_reader.specs.Sayings.{IsSayingOf, by_first, by_words, said}
use Rattle.trace_reader.specs.Grammar.{spaced, IsWord, AreWords}
use Rattle.trace_reader.specs.LineGrammar.{AreWordsOf, SaysLine, SaysUntil, HasForm}
use Rattle.trace_reader.proofs.Items.{has_declared, kind_passes, kind_read}
use Rattle.trace_reader.proofs.Results.{branch, both}
use Rattle.trace_reader.proofs.Commands.{command_first, command_form, command_words, commanding}
use Rattle.trace_reader.proofs.PlainWords.{actor_word, none_empty, spelled_word, text_word, words_spaced}
use Rattle.trace_reader.proofs.Words.{WordsJudged, words_judged, words_read}

until_word : (w : List ℕ) (u : Until) → SaysUntil w u → IsWord w
until_word w (Turns n) s = spelled_word w n s
until_word w Answered e = rw e (text_word (codes "end") (omega arith) refl)
until_word w (Made code) (never, named) =
    let t =
    both (nat_lt 0 (length w)) (list_all (λ b. not (b == 32)) w)
    (kind_passes (λ v. nat_lt 0 (length v) && list_all (λ b. not (b == 32)) v) w code refl (kind_read w code named)) in
    record { filled = grind (arith, nat_tests, t.0); plain = t.1 }

pub say_words : (h : Header) (go_seen : Bool) (words : List (List ℕ)) (s : Saying) → IsHeader h → IsSayingOf h s → AreWordsOf go_seen words s → AreWords words
say_words h go_seen words (Does a c) header range are = command_words words a c (commanding h a c header range).0 are
say_words h go_seen words Go header range (first, e) = rw e (text_word (codes "go") (omega arith) refl, tt)
say_words h go_seen words (Schedules item) header range (last, e, says) =
    rw e (
      text_word (codes ">") (omega arith) refl,
      (actor_word item.actor (has_declared h item.actor header range.actor).0, (until_word last item.until says, tt)),
    )

no_words : (a : Actor) → HasForm [] a → ⊥
no_words a (inl form) = let (rest, e) = command_first [] a form in cc
no_words a (inr (last, e, form)) = cc

cut : (bytes : List ℕ) (words : List (List ℕ)) → bytes ≡ spaced words → AreWords words → (words ≡ [] → ⊥) → words_of bytes ≡ words
cut bytes [] e are some = absurd (some refl)
cut bytes (w ∷ ws) e are some = rw e (words_spaced w ws are)

-- The words of a form are what stands between the spaces of its line.
pub cut_words : (bytes : List ℕ) (words : List (List ℕ)) (a : Actor) → bytes ≡ spaced words → AreWords words → HasForm words a → words_of bytes ≡ words
cut_words bytes words a e are form = cut bytes words e are (λ none. no_words a (rw none at form))

-- What a line says has words.
say_some : (h : Header) (go_seen : Bool) (words : List (List ℕ)) (s : Saying) → IsSayingOf h s → AreWordsOf go_seen words s → words ≡ [] → ⊥
say_some h go_seen words (Does a c) range are none = let (rest, e) = command_first words a (command_form h words a c range are) in cc
say_some h go_seen words Go range (first, e) none = cc
say_some h go_seen words (Schedules item) range (last, e, says) none = cc

-- What a line says is read.
pub says : (h : Header) (go_seen : Bool) (bytes : List ℕ) (s : Saying) → IsHeader h → SaysLine h go_seen bytes s → said h go_seen bytes ≡ Ok s
unfolding said by_words
says h go_seen bytes s header (range, (words, e, are)) =
    let each = say_words h go_seen words s header range are in
    let same = cut bytes words e each (say_some h go_seen words s range are) in
    rw (same, none_empty words each) (words_read h go_seen words s header range are)

-- Only what a line says is read.
by_words_ok : (h : Header) (go_seen : Bool) (words : List (List ℕ)) (s : Saying) → by_words h go_seen words ≡ Ok s → by_first h go_seen words ≡ Ok s
unfolding by_words
by_words_ok h go_seen words s e = elim (branch (list_any is_empty words) _ _ (Ok s) e) [
  | inl q ↦ absurd (let no : ⊥ = cc in no)
  | inr q ↦ q.1
]

pub only_said : (h : Header) (go_seen : Bool) (bytes : List ℕ) (s : Saying) → said h go_seen bytes ≡ Ok s → SaysLine h go_seen bytes s
unfolding said
only_said h go_seen bytes s e =
    let f = subst (WordsJudged h go_seen (words_of bytes)) (by_words_ok h go_seen (words_of bytes) s e) (words_judged h go_seen (words_of bytes)) in
    (f.0, (words_of bytes, sym (join_with_byte-slice_split 32 bytes), f.1))

-- What a line says is `go` only where that wasn't seen before.
abbrev pub IsFirst : Bool → Result (Option Saying) Reason → Type 0
IsFirst go_seen read = read ≡ Ok (Some Go) → go_seen ≡ false

go_first : (h : Header) (go_seen : Bool) (bytes : List ℕ) → said h go_seen bytes ≡ Ok Go → go_seen ≡ false
go_first h go_seen bytes is = let (range, (words, e, (first, same))) = only_said h go_seen bytes Go is in first

content_first : (h : Header) (go_seen : Bool) (bytes : List ℕ) → IsFirst go_seen (content h go_seen bytes)
unfolding content
content_first h go_seen bytes = by (is_skipped bytes) (said h go_seen bytes) refl
  where
    by : (b : Bool) (x : Result Saying Reason) → said h go_seen bytes ≡ x → IsFirst go_seen (if b then Ok None else (x >>= λ s. Ok (Some s)))
    by true x is go = cc
    by false (Err r) is go = cc
    by false (Ok s) is go = go_first h go_seen bytes (let same : Ok s ≡ Ok Go = cc in is ∙ same)

pub line_first : (h : Header) (go_seen : Bool) (line : Raw) → IsFirst go_seen (line_of h go_seen line)
unfolding line_of
line_first h go_seen line = by (fault_of line)
  where
    by : (fault : Option Reason) → IsFirst go_seen (after_checks fault (content h go_seen line.bytes))
    by (Some r) go = cc
    by None go = content_first h go_seen line.bytes go
