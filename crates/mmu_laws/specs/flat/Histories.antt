-- What the history of a list of steps says beside what the hands hold after it.
use Rattle.std.specs.Prelude.{◌≡◌, ◌<◌, ℕ, suc, List, filter, length}
use Rattle.core_views.specs.declared.actor.Actor.{Actor}
use Rattle.core_views.specs.declared.answer.AnsweredLine.{AnsweredLine}
use Rattle.core_views.specs.declared.event.Event.{Event}
use Rattle.core_views.specs.declared.kind.Kind.{Kind}
use Rattle.core_views.specs.declared.place.Place.{Place}
use Rattle.core_views.specs.declared.place.Place.TheVariants as place
use Rattle.core_views.specs.declared.sizes.Sizes.{Sizes}
use Rattle.core_views.specs.declared.trace.Line.{Line}
use Rattle.core_views.specs.Actors.{is_same}
use Rattle.core_views.specs.Held.{Held}
use Rattle.core_views.specs.Sizes.{actor_at, actors_of, index_of}
use Rattle.core_views.specs.Text.{answers_of}
use Rattle.core_views.specs.Whole.{IsWhole, IsWholeSoFar}
use Rattle.mmu_core.specs.machine.Enabled.{mmu}
use Rattle.mmu_core.specs.machine.Machine.{Legal, Step, World, hand_in, run}
use Rattle.mmu_core.specs.machine.Worlds.{IsStart, history}

-- the lines of the actor that the history answers, in its order
abbrev pub answers_by : Actor → List Event → List AnsweredLine
answers_by actor h = filter (λ x. is_same actor x.actor) (answers_of h)

-- Each hand has answered what the history answers of its actor: the same lines, with the same answers, in the same order.
abbrev pub AnswersAreTold : Type 0
AnswersAreTold =
    (z : Sizes) (lines : List Line) (w : World Held) (ss : List (Step Kind)) (i : ℕ) → IsStart z lines w → Legal mmu w ss → i < actors_of z
    → (hand_in mmu (run mmu w ss) i).answers ≡ answers_by (actor_at z i) (history w ss)

-- Where each hand has answered all its lines, the history answers the trace: each actor's lines, in its order, each once.
abbrev pub EndsWhole : Type 0
EndsWhole =
    (z : Sizes) (lines : List Line) (w : World Held) (ss : List (Step Kind)) → IsStart z lines w → Legal mmu w ss
    → ((i : ℕ) → i < actors_of z → length (hand_in mmu (run mmu w ss) i).answers ≡ length (hand_in mmu (run mmu w ss) i).lines)
    → IsWhole (history w ss) lines

-- how many lines a hand has begun that stands there and has answered n: one more than it has answered, where a line is under way
abbrev pub begun_count : Place → ℕ → ℕ
begun_count place.Between n = n
begun_count _ n = suc n

abbrev pub begun_lines : Held → ℕ
begun_lines h = begun_count h.state.place (length h.answers)

-- how many lines the actor's hand has begun, and how many it has answered
abbrev pub begun_in : Sizes → World Held → Actor → ℕ
begun_in z w actor = begun_lines (hand_in mmu w (index_of z actor))

abbrev pub answered_in : Sizes → World Held → Actor → ℕ
answered_in z w actor = length (hand_in mmu w (index_of z actor)).answers

-- Wherever the steps have come, the history answers the trace so far: the lines that the hands have answered.
abbrev pub StaysWhole : Type 0
StaysWhole =
    (z : Sizes) (lines : List Line) (w : World Held) (ss : List (Step Kind)) → IsStart z lines w → Legal mmu w ss
    → IsWholeSoFar (history w ss) lines (begun_in z (run mmu w ss)) (answered_in z (run mmu w ss))
