-- A step that doesn't end its line starved tells no exit for want of a pool page.
use Rattle.std.proofs.Common.{◌≡◌, ◌≢◌, ℕ, List, [], ◌∷◌, ◌++◌, map, sym, subst}
use Rattle.std.specs.Prelude.{true}
use Rattle.core_views.specs.declared.actor.Actor.{Actor}
use Rattle.core_views.specs.declared.answer.Answer.TheVariants.{Starved}
use Rattle.core_views.specs.declared.event.Event.{Event}
use Rattle.core_views.specs.declared.event.EventKind.{EventKind}
use Rattle.core_views.specs.declared.place.Place.{Place}
use Rattle.core_views.specs.declared.place.Place.TheVariants as place
use Rattle.core_views.specs.declared.trace.Line.{Line}
use Rattle.core_views.specs.Alone.{NoneStarved}
use Rattle.core_views.specs.Held.{Held}
use Rattle.mmu_core.specs.declared.outcome.Outcome.{Outcome}
use Rattle.mmu_core.specs.declared.outcome.Outcome.TheVariants.{Goes, Ends}
use Rattle.mmu_core.specs.machine.Steps.{beginning, event_kinds, events_by, events_of, has_line, line_at, place_at}
use Rattle.mmu_core.specs.lines.Forms.{outcome_at, tells_at}
use Rattle.mmu_core.specs.machine.Outcomes.{answering}
use Rattle.mmu_core.specs.machine.Turns.{outcome_of}
use Rattle.mmu_core.proofs.forms.access.AccessEnds.{AreFed}
use Rattle.mmu_core.proofs.lines.Forms.{tells_fed}

fed_both : (xs ys : List EventKind) → AreFed xs → AreFed ys → AreFed (xs ++ ys)
fed_both [] ys front back = back
fed_both (x ∷ xs) ys front back = (front.0, fed_both xs ys front.1 back)

pub fed_append : (xs ys : List Event) → NoneStarved xs → NoneStarved ys → NoneStarved (xs ++ ys)
fed_append [] ys front back = back
fed_append (x ∷ xs) ys front back = (front.0, fed_append xs ys front.1 back)

fed_events : (actor : Actor) (kinds : List EventKind) → AreFed kinds → NoneStarved (map (λ kind. record { actor = actor; kind = kind }) kinds)
fed_events actor [] fed = tt
fed_events actor (k ∷ ks) fed = (fed.0, fed_events actor ks fed.1)

begin_fed : (p : Place) (line : Line) → AreFed (beginning p line)
begin_fed place.Between line = (λ e. absurd (cc e), tt)
begin_fed _ line = tt

answer_fed : (o : Outcome) (line : Line) → AreFed (answering o line)
answer_fed (Goes p) line = tt
answer_fed (Ends answer) line = (λ e. absurd (cc e), tt)

pub step_fed : (h : Held) (v : ℕ) → has_line h ≡ true → outcome_of h v ≢ Ends Starved → NoneStarved (events_of h v)
unfolding events_of
step_fed h v left other =
    let line : Line = line_at h.state.place h in
    let p : Place = place_at h.state.place h in
    subst (λ b. NoneStarved (events_by b h v)) (sym left) (fed_events h.state.actor (event_kinds h.state.place line p h v)
    (fed_both (beginning h.state.place line) (tells_at p line.command h v ++ answering (outcome_at p line.command h v) line) (begin_fed h.state.place line)
    (fed_both (tells_at p line.command h v) (answering (outcome_at p line.command h v) line) (tells_fed p line.command h v other)
    (answer_fed (outcome_at p line.command h v) line))))
