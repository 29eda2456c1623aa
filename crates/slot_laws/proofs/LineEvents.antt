-- What holds over the events between a line's begin and its answer: it holds over all of them, where it goes on over each of the line's own and over each of
-- another actor's.
use Rattle.std.proofs.Common.{◌≡◌, Bool, true, false, List, [], ◌∷◌, refl, ap, ◌∙◌, subst}
use Rattle.core_views.specs.declared.actor.Actor.{Actor}
use Rattle.core_views.specs.declared.event.Event.{Event}
use Rattle.core_views.specs.declared.sizes.Sizes.{Sizes}
use Rattle.core_views.specs.declared.trace.Line.{Line}
use Rattle.core_views.specs.Actors.{is_same}
use Rattle.core_views.specs.Alone.{IsInside}
use Rattle.core_views.specs.Events.{after, after_all, under_after}
use Rattle.core_views.specs.Flat.{Flat, LineUnderWay}
use Rattle.core_views.specs.Lawful.{IsAllowed, IsLawful}
use Rattle.core_views.proofs.SameActor.{same_is}
use Rattle.flat_laws.specs.Writes.{StaysWithin}
use Rattle.flat_laws.proofs.Writes.{apart_actors}
use Rattle.slot_laws.proofs.BegunLines.{here, same_line, there}

-- It goes on over an event of another actor, which leaves the line under way as it was.
abbrev pub OverOthers : Line → (Flat → List Event → Type 0) → Type 0
OverOthers line P =
    (e : Event) (f : Flat) (es : List Event) → (e.actor ≡ line.actor → ⊥) → (after e f).under line.actor ≡ f.under line.actor → P (after e f) es
    → P f (e ∷ es)

-- It goes on over an event of the line's own, which the line allows.
abbrev pub OverOwn : Sizes → Line → (Flat → List Event → Type 0) → Type 0
OverOwn z line P =
    (e : Event) (f : Flat) (es : List Event) → e.actor ≡ line.actor → IsInside e.kind → (f.under line.actor).line ≡ line
    → IsAllowed z f.facts f.past line.actor (f.under line.actor) e.kind
    → (after e f).under line.actor ≡ under_after e.kind f.facts (f.under line.actor) → P (after e f) es → P f (e ∷ es)

module _ (z : Sizes) (line : Line) where
  pub over_line : (P : Flat → List Event → Type 0) → ((f : Flat) → (f.under line.actor).line ≡ line → P f []) → OverOthers line P → OverOwn z line P
      → (es : List Event) (f : Flat) → IsLawful z f es → StaysWithin line.actor es → (f.under line.actor).line ≡ line → P f es
  over_line P none others own [] f lawful within is = none f is
  over_line P none others own (e ∷ es) f lawful within is =
      by (is_same e.actor line.actor) refl (λ more. over_line P none others own es (after e f) lawful.1 within.1 more)
    where
      by : (b : Bool) → is_same e.actor line.actor ≡ b → (((after e f).under line.actor).line ≡ line → P (after e f) es) → P f (e ∷ es)
      by true same more =
          let mine : e.actor ≡ line.actor = same_is e.actor line.actor same in
          let inside : IsInside e.kind = within.0 mine in
          let now_ = here z line.actor e f mine in
          own e f es mine inside is (subst (λ (x : Actor). IsAllowed z f.facts f.past x (f.under x) e.kind) mine lawful.0) now_
          (more (ap (λ (u : LineUnderWay). u.line) now_ ∙ same_line e.kind f.facts (f.under line.actor) inside ∙ is))
      by false apart more =
          let still = there z line.actor e f apart in
          others e f es (apart_actors e.actor line.actor apart) still (more (ap (λ (u : LineUnderWay). u.line) still ∙ is))

  -- The line under way stays this one.
  pub line_stays : (es : List Event) (f : Flat) → IsLawful z f es → StaysWithin line.actor es → (f.under line.actor).line ≡ line
      → ((after_all es f).under line.actor).line ≡ line
  line_stays es f lawful within is =
      over_line (λ g xs. ((after_all xs g).under line.actor).line ≡ line) (λ g same. same) (λ e g xs apart still more. more)
      (λ e g xs mine inside same may now_ more. more) es f lawful within is
