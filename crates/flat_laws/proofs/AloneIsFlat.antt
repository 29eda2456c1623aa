-- A lawful history in which each line stands alone, and the open choices fall as the flat history's do, is the flat history, but for what the lines looked at.
use Rattle.std.proofs.Common.{◌≡◌, List, [], ◌∷◌, ◌++◌, refl, sym, ap, ◌∙◌, subst}
use Rattle.core_views.specs.declared.answer.Answer.{Answer}
use Rattle.core_views.specs.declared.event.Event.{Event}
use Rattle.core_views.specs.declared.event.EventKind.TheVariants.{Begun}
use Rattle.core_views.specs.declared.event.EventKind.TheVariants.{Answered}
use Rattle.core_views.specs.declared.trace.Line.{Line}
use Rattle.core_views.specs.declared.sizes.Sizes.{Sizes}
use Rattle.core_views.specs.Flat.{Facts, Flat, Fresh}
use Rattle.core_views.specs.Flat.{no_notes}
use Rattle.core_views.specs.Events.{after, after_all, facts_after_all}
use Rattle.core_views.specs.Lawful.{IsLawful}
use Rattle.core_views.specs.FlatHistory.{by, rest_of, one_by_one}
use Rattle.core_views.specs.Text.{answers_of, lines_text, text}
use Rattle.core_views.specs.Alone.{without_looks, AreWithin, FallAsFlat, StandsAlone, StandsFirst}
use Rattle.flat_laws.proofs.AloneSteps.{AllIdle, IsAt, step}
use Rattle.flat_laws.proofs.Looks.{facts_without_looks, answers_without_looks, facts_behind}
use Rattle.flat_laws.proofs.FlatShows.{flat_shows}
use Rattle.flat_laws.proofs.Exact.{IsAlone}
use Rattle.flat_laws.proofs.LinesAsFlat.{whole_line}

-- from this state the history shows what the flat one does, and leaves no line under way
record Shows (z : Sizes) (lines : List Line) (f : Flat) (h : List Event) : Type 0 where
  shown : without_looks h ≡ without_looks (one_by_one z lines f.facts)
  idle : AllIdle (after_all h f)

line_shows : (z : Sizes) (line : Line) (lines : List Line) (within rest : List Event) (answer : Answer) (f : Flat) → AllIdle f → AreWithin line within
    → ((g : Flat) → AllIdle g → IsLawful z g rest → FallAsFlat z g rest → Shows z lines g rest)
    → IsLawful z f (by line (Begun line) ∷ (within ++ (by line (Answered line.number answer) ∷ rest)))
    → FallAsFlat z f (by line (Begun line) ∷ (within ++ (by line (Answered line.number answer) ∷ rest)))
    → Shows z (line ∷ lines) f (by line (Begun line) ∷ (within ++ (by line (Answered line.number answer) ∷ rest)))
line_shows z line lines within rest answer f idle are further lawful falls =
    let start : IsAt line.actor f.facts (f.under line.actor) f = record { facts_are = refl; line_is = refl; others = λ i apart. idle i } in
    let begun : IsAlone line Fresh no_notes (after (by line (Begun line)) f) =
    record {
      at = step line.actor (Begun line) f.facts (f.under line.actor) f start;
      exact = λ fresh. record {
        pause = λ paused noted. absurd (cc noted);
        slots = λ slots noted. absurd (cc noted);
        host = λ page entry noted. absurd (cc noted);
        whole = λ page entry noted none. absurd (cc noted);
      };
    } in
    let ends = whole_line z line within rest answer are Fresh no_notes (after (by line (Begun line)) f) begun lawful.1 falls.1 in
    let behind = further ends.behind ends.idle ends.lawful ends.falls in
    record {
      shown =
          ap (λ (es : List Event). by line (Begun line) ∷ es) (ends.shown ∙ ap (λ (es : List Event). rest_of z line Fresh f.facts ++ es)
          (behind.shown ∙ ap (λ (g : Facts). without_looks (one_by_one z lines g)) ends.facts_are)) ∙ sym (flat_shows z line lines f.facts);
      idle = subst (λ (g : Flat). AllIdle g) (sym ends.reaches) behind.idle;
    }

shows : (z : Sizes) (lines : List Line) (h : List Event) (f : Flat) → AllIdle f → IsLawful z f h → StandsAlone h lines → FallAsFlat z f h → Shows z lines f h
shows z [] h f idle lawful stands falls =
    record { shown = ap without_looks stands; idle = subst (λ (es : List Event). AllIdle (after_all es f)) (sym stands) idle }
shows z (line ∷ lines) h f idle lawful stands falls =
    let first : StandsFirst line h stands.0 = stands.1 in
    subst (λ (es : List Event). IsLawful z f es → FallAsFlat z f es → Shows z (line ∷ lines) f es) (sym first.history_is)
    (line_shows z line lines first.within stands.0 first.answer f idle first.are_within
    (λ g idle_then lawful_then falls_then. shows z lines stands.0 g idle_then lawful_then stands.2 falls_then)) lawful falls

-- From this state on, the history is the flat one of these lines: in what it shows, answers and prints, in the facts after it, and in that no line
-- is under way then.
pub record GoesAsFlat (z : Sizes) (lines : List Line) (f : Flat) (h : List Event) : Type 0 where
  pub shown : without_looks h ≡ without_looks (one_by_one z lines f.facts)
  pub facts_are : (after_all h f).facts ≡ facts_after_all (one_by_one z lines f.facts) f.facts
  pub idle : AllIdle (after_all h f)
  pub answers : answers_of h ≡ answers_of (one_by_one z lines f.facts)
  pub prints : text h ≡ text (one_by_one z lines f.facts)

-- The law, from any state in which no line is under way.
pub goes_as_flat : (z : Sizes) (lines : List Line) (h : List Event) (f : Flat) → AllIdle f → IsLawful z f h → StandsAlone h lines → FallAsFlat z f h
    → GoesAsFlat z lines f h
goes_as_flat z lines h f idle lawful stands falls =
    let flat : List Event = one_by_one z lines f.facts in
    let is = shows z lines h f idle lawful stands falls in
    let answered : answers_of h ≡ answers_of flat = answers_without_looks h ∙ (ap answers_of is.shown ∙ sym (answers_without_looks flat)) in
    record {
      shown = is.shown;
      facts_are =
          facts_behind h f ∙ (facts_without_looks h f.facts
          ∙ (ap (λ (es : List Event). facts_after_all es f.facts) is.shown ∙ sym (facts_without_looks flat f.facts)));
      idle = is.idle;
      answers = answered;
      prints = ap lines_text answered;
    }
