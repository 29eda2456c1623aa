-- Which histories answer a trace: each actor's lines, in its order, each once.
use Rattle.std.specs.Prelude.{◌≡◌, ◌+◌, ◌≤◌, ℕ, List, [], ◌∷◌, map, filter, take}
use Rattle.core_views.specs.declared.actor.Actor.{Actor}
use Rattle.core_views.specs.declared.event.Event.{Event}
use Rattle.core_views.specs.declared.event.EventKind.{EventKind}
use Rattle.core_views.specs.declared.event.EventKind.TheVariants.{Begun}
use Rattle.core_views.specs.declared.trace.Line.{Line}
use Rattle.core_views.specs.Actors.{is_same}
use Rattle.core_views.specs.Text.{answers_of}

abbrev pub or_begun : EventKind → List Line → List Line
or_begun (Begun line) lines = line ∷ lines
or_begun _ lines = lines

-- the lines that the history begins, in its order
abbrev pub lines_begun : List Event → List Line
lines_begun [] = []
lines_begun (e ∷ es) = or_begun e.kind (lines_begun es)

abbrev pub lines_of : Actor → List Line → List Line
lines_of actor lines = filter (λ line. is_same actor line.actor) lines

-- Each actor begins its lines of the trace, in their order, and answers them, each once.
pub record IsWhole (history : List Event) (lines : List Line) : Type 0 where
  pub begun : (actor : Actor) → lines_of actor (lines_begun history) ≡ lines_of actor lines
  pub answered : (actor : Actor)
      → map (λ x. x.number) (filter (λ x. is_same actor x.actor) (answers_of history)) ≡ map (λ line. line.number) (lines_of actor lines)

-- Each actor begins so many of its lines of the trace, the first ones in their order, and answers so many of them, each once: all that it
-- has begun, but for perhaps the last.
pub record IsWholeSoFar (history : List Event) (lines : List Line) (begun_count answered_count : Actor → ℕ) : Type 0 where
  pub begun : (actor : Actor) → lines_of actor (lines_begun history) ≡ take (begun_count actor) (lines_of actor lines)
  pub answered : (actor : Actor) → map (λ x. x.number) (filter (λ x. is_same actor x.actor) (answers_of history))
      ≡ map (λ line. line.number) (take (answered_count actor) (lines_of actor lines))
  pub before : (actor : Actor) → answered_count actor ≤ begun_count actor
  pub but_one : (actor : Actor) → begun_count actor ≤ answered_count actor + 1
