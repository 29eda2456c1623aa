-- The answers and the text of two histories, one after the other.
use Rattle.std.proofs.Common.{◌≡◌, ◌<◌, ◌+◌, ℕ, List, [], ◌∷◌, ◌++◌, false, codes, drop, get_or, length, refl, sym, ap, ◌∙◌, append_assoc}
use Rattle.std.proofs.lemmas.List.{drop_more}
use Rattle.std.specs.Fmt.{digits}
use Rattle.core_views.specs.declared.actor.Actor.{Actor}
use Rattle.core_views.specs.declared.answer.AnsweredLine.{AnsweredLine}
use Rattle.core_views.specs.declared.event.Event.{Event}
use Rattle.core_views.specs.declared.event.EventKind.{EventKind}
use Rattle.core_views.specs.declared.event.EventKind.TheVariants.{Answered}
use Rattle.core_views.specs.declared.migration.ImageWord.{ImageWord}
use Rattle.core_views.specs.Text.{answers_of, bits_text, image_text, image_word_text, or_answered, line_text, lines_text, text}

or_answered_append : (actor : Actor) (kind : EventKind) (xs ys : List AnsweredLine) → or_answered actor kind (xs ++ ys) ≡ or_answered actor kind xs ++ ys
or_answered_append actor (Answered line answer) xs ys = refl
or_answered_append actor _ xs ys = refl

pub answers_append : (xs ys : List Event) → answers_of (xs ++ ys) ≡ answers_of xs ++ answers_of ys
answers_append [] ys = refl
answers_append (x ∷ xs) ys = ap (or_answered x.actor x.kind) (answers_append xs ys) ∙ or_answered_append x.actor x.kind (answers_of xs) (answers_of ys)

pub lines_text_append : (xs ys : List AnsweredLine) → lines_text (xs ++ ys) ≡ lines_text xs ++ lines_text ys
lines_text_append [] ys = refl
lines_text_append (x ∷ xs) ys =
    ap (λ (t : List ℕ). line_text x.number x.actor x.answer ++ t) (lines_text_append xs ys)
    ∙ sym (append_assoc (line_text x.number x.actor x.answer) (lines_text xs) (lines_text ys))

pub text_append : (xs ys : List Event) → text (xs ++ ys) ≡ text xs ++ text ys
text_append xs ys = ap lines_text (answers_append xs ys) ∙ lines_text_append (answers_of xs) (answers_of ys)

-- Words of a dirty log, as far as they are written: one more.
pub bits_more : (done words : List ℕ) (i : ℕ) → i < length words
    → (done ++ (codes " 0x" ++ digits 16 false (get_or words i 0))) ++ bits_text (drop (i + 1) words) ≡ done ++ bits_text (drop i words)
bits_more done words i lt =
    append_assoc done (codes " 0x" ++ digits 16 false (get_or words i 0)) (bits_text (drop (i + 1) words))
    ∙ ap (λ (rest : List ℕ). done ++ bits_text rest) (sym (drop_more words i 0 lt))

-- Words of an image, as far as they are written: one more.
pub image_more : (done : List ℕ) (word : ImageWord) (more rest : List ImageWord) → rest ≡ word ∷ more
    → (done ++ (codes " " ++ image_word_text word)) ++ image_text more ≡ done ++ image_text rest
image_more done word more rest is =
    append_assoc done (codes " " ++ image_word_text word) (image_text more)
    ∙ (ap (λ (xs : List ℕ). done ++ xs) (append_assoc (codes " ") (image_word_text word) (image_text more))
    ∙ ap (λ (xs : List ImageWord). done ++ image_text xs) (sym is))
