-- The answers that hands have, in file order.
use Rattle.std.specs.Prelude.{◌≡◌, ◌<◌, ℕ, List, All, Some, map, filter, length, slice_get, slice_index}
use Rattle.core_views.specs.declared.actor.Actor.{Actor}
use Rattle.core_views.specs.declared.answer.AnsweredLine.{AnsweredLine}
use Rattle.core_views.specs.declared.sizes.Sizes.{Sizes}
use Rattle.core_views.specs.declared.trace.Line.{Line}
use Rattle.core_views.specs.Actors.{is_same}
use Rattle.core_views.specs.Held.{Handful}
use Rattle.core_views.specs.Sizes.{AreFewActors, actor_at, actors_of}
use Rattle.core_views.specs.Traces.{HasActor}
use Rattle.core_views.specs.Whole.{lines_of}

-- The actor has answered each of its lines, in their order.
pub record HasAnsweredAll (actor : Actor) (lines : List Line) (answers : List AnsweredLine) : Type 0 where
  pub numbers : map (λ x. x.number) answers ≡ map (λ line. line.number) (lines_of actor lines)
  pub own : All (λ x. x.actor ≡ actor) answers

-- There is a hand for each actor, each line is one of these actors, and each hand has answered all its lines.
pub record AllHaveAnswered (z : Sizes) (lines : List Line) (hands : List Handful) : Type 0 where
  pub few : AreFewActors z
  pub count : length hands ≡ actors_of z
  pub actors : All (λ line. HasActor z line.actor) lines
  pub each : (i : ℕ) (h : Handful) → slice_get hands i ≡ Some h → HasAnsweredAll (actor_at z i) lines h.core.answers

-- The answers are those of these lines, in their order: each has its line's number and actor, and each actor's are those of its hand, in its order.
pub record AreByLine (z : Sizes) (lines : List Line) (hands : List Handful) (answers : List AnsweredLine) : Type 0 where
  pub numbers : map (λ x. x.number) answers ≡ map (λ line. line.number) lines
  pub actors : map (λ x. x.actor) answers ≡ map (λ line. line.actor) lines
  pub each : (i : ℕ) (h : Handful) → slice_get hands i ≡ Some h → filter (λ x. is_same (actor_at z i) x.actor) answers ≡ h.core.answers

-- This is the first answer of the hand at this place that isn't put, where so many of each hand's are put.
pub record IsAnswerAt (hands : List Handful) (put : List ℕ) (place : ℕ) (told : AnsweredLine) : Type 0 where
  pub hand : Handful
  pub there : slice_get hands place ≡ Some hand
  pub is : slice_get hand.core.answers (slice_index put place) ≡ Some told

-- The hand at this place has an answer that isn't put.
pub record IsToPut (hands : List Handful) (put : List ℕ) (place : ℕ) : Type 0 where
  pub counted : place < length put
  pub hand : place < length hands
  pub left : (h : Handful) → slice_get hands place ≡ Some h → slice_index put place < length h.core.answers
