-- What the turn of any line answers, by how its step goes.
use Rattle.std.proofs.Common.{◌≡◌, ◌≤◌, ◌<◌, ℕ, List, length, get_or, refl, sym, ap, ◌∙◌}
use Rattle.std.specs.Prelude.{Bool, true, false, Option, Some, None}
use Rattle.core_views.specs.declared.answer.AnsweredLine.{AnsweredLine}
use Rattle.core_views.specs.declared.progress.Seen.{Seen}
use Rattle.core_views.specs.declared.kind.Kind.{Kind}
use Rattle.core_views.specs.declared.place.AccessPlace.TheVariants.{Fault}
use Rattle.core_views.specs.declared.place.Cause.{Cause}
use Rattle.core_views.specs.declared.place.FaultEnd.{FaultEnd}
use Rattle.core_views.specs.declared.place.FaultEnd.TheVariants as end_of
use Rattle.core_views.specs.declared.place.FaultNext.TheVariants.{Ends}
use Rattle.core_views.specs.declared.place.FaultPlace.{FaultPlace}
use Rattle.core_views.specs.declared.place.FaultPlace.TheVariants as fault
use Rattle.core_views.specs.declared.place.Place.{Place}
use Rattle.core_views.specs.declared.place.Place.TheVariants as place
use Rattle.core_views.specs.declared.sizes.Sizes.{Sizes}
use Rattle.core_views.specs.declared.trace.Command.{Command}
use Rattle.core_views.specs.declared.trace.Command.TheVariants.{Access}
use Rattle.core_views.specs.Held.{Held}
use Rattle.core_views.specs.Slots.{is_write}
use Rattle.core_views.specs.SlotSets.{MemorySlots}
use Rattle.mmu_core.specs.alone.LineAlone.{line_waits}
use Rattle.mmu_core.specs.forms.access.AccessSteps.{behind_fault}
use Rattle.mmu_core.specs.forms.access.FaultSteps.{fault_next}
use Rattle.mmu_core.specs.lines.Forms.{RestsAt, first_place, outcome_at}
use Rattle.mmu_core.specs.lines.Rests.{Rests}
use Rattle.mmu_core.specs.machine.Enabled.{Enabled}
use Rattle.mmu_core.specs.machine.Steps.{place_at, standing}
use Rattle.mmu_core.specs.machine.Turns.{line_of}
use Rattle.mmu_steps.specs.declared.waits.Waiting.{Waiting}
use Rattle.mmu_steps.specs.Waits.{WaitsAsLine, seen_in, waits}
use Rattle.step_seats.specs.Acts.{Acts}
use Rattle.step_seats.specs.Seats.{Seat}
use Rattle.step_seats.specs.declared.turn.Turn.TheVariants.{More, Wait, Retry, Done}
use Rattle.step_seats.specs.LineTurns.{MakesLine, TurnsLine, cause_at, fault_turn, line_turn, turn_of, turn_told}
use Rattle.step_seats.proofs.Answering.{turn_is_done, turn_is_more}
use Rattle.step_seats.proofs.LineTurns.{turns_told}

-- ---- which places begin an access anew

-- No line begins so.
first_plain : (z : Sizes) (slots : MemorySlots) (c : Command) → cause_at (first_place z slots c) ≡ None
first_plain z slots (Access gfn word op) = refl
first_plain z slots _ = refl

cause_standing : (p : Place) (z : Sizes) (slots : MemorySlots) (c : Command) → cause_at (standing p z slots c) ≡ cause_at p
cause_standing place.Between z slots c = first_plain z slots c
cause_standing _ z slots c = refl

anew_ends : (e : FaultEnd) (cause : Cause) → cause_at (place.Access (Fault (fault.End e))) ≡ Some cause → fault_turn (Ends e) ≡ Retry cause
anew_ends (end_of.Retry fast why) cause is = let same : why ≡ cause = cc is in ap (λ (x : Cause). Retry x) same
anew_ends _ cause is = absurd (cc is)

anew_fault : (p : FaultPlace) (z : Sizes) (gfn : ℕ) (write : Bool) (h : Held) (v : ℕ) (cause : Cause) → cause_at (place.Access (Fault p)) ≡ Some cause
    → fault_turn (fault_next p z gfn write h.topics v) ≡ Retry cause
anew_fault (fault.End e) z gfn write h v cause is = anew_ends e cause is
anew_fault _ z gfn write h v cause is = absurd (cc is)

anew_turn : (p : Place) (c : Command) (h : Held) (v : ℕ) (cause : Cause) → RestsAt p c h → cause_at p ≡ Some cause → line_turn p c h v ≡ Retry cause
anew_turn (place.Access (Fault p)) (Access gfn word op) h v cause R is = anew_fault p h.state.sizes gfn (is_write op) h v cause is
anew_turn (place.Access (Fault p)) _ h v cause R is = absurd R
anew_turn _ c h v cause R is = absurd (cc is)

plain_ends : (e : FaultEnd) → cause_at (place.Access (Fault (fault.End e))) ≡ None → fault_turn (Ends e) ≡ turn_of (behind_fault (Ends e))
plain_ends (end_of.Retry fast why) is = absurd (cc is)
plain_ends _ is = refl

plain_fault : (p : FaultPlace) (z : Sizes) (gfn : ℕ) (write : Bool) (h : Held) (v : ℕ) → cause_at (place.Access (Fault p)) ≡ None
    → fault_turn (fault_next p z gfn write h.topics v) ≡ turn_of (behind_fault (fault_next p z gfn write h.topics v))
plain_fault (fault.End e) z gfn write h v is = plain_ends e is
plain_fault _ z gfn write h v is = refl

plain_turn : (p : Place) (c : Command) (h : Held) (v : ℕ) → cause_at p ≡ None → line_turn p c h v ≡ turn_of (outcome_at p c h v)
plain_turn (place.Access (Fault p)) (Access gfn word op) h v is = plain_fault p h.state.sizes gfn (is_write op) h v is
plain_turn _ c h v is = refl

-- ---- one step of the hand's next line

module _ (before after : Seat) (k : Kind) (v : ℕ) (left : length before.hand.answers < length before.hand.lines) (rests : Rests before.hand)
    (enabled : Enabled before.hand k) (acts : Acts k v before after) where
  abbrev h : Held
  h = before.hand

  abbrev p : Place
  p = place_at h.state.place h

  abbrev c : Command
  c = (line_of h).command

  abbrev makes : MakesLine before after
  makes = record { kind = k; found = v; enabled = enabled; hand = acts.hand; world = acts.world; steps = acts.steps; answers = acts.answers }

  pub turn_waits : (w : Waiting) (b : Bool) (seen : Seen) → WaitsAsLine w k h → b ≡ waits w v → b ≡ true → seen ≡ seen_in w k v
      → TurnsLine (Wait seen) before after
  turn_waits w b seen W is waiting saw =
      let waits_now : waits w v ≡ true = sym is ∙ waiting in
      record { makes = makes; gives = (sym (W.waits_as v) ∙ waits_now, saw ∙ W.seen_as v waits_now) }

  free : (w : Waiting) (b : Bool) → WaitsAsLine w k h → b ≡ waits w v → b ≡ false → line_waits p c h v ≡ false
  free w b W is none = sym (W.waits_as v) ∙ sym is ∙ none

  here : (q : Place) → q ≡ h.state.place → cause_at p ≡ cause_at q
  here q is = cause_standing h.state.place h.state.sizes h.slots (line_of h).command ∙ ap cause_at (sym is)

  pub turn_anew : (w : Waiting) (b : Bool) (q : Place) (anew : Option Cause) (cause : Cause) → WaitsAsLine w k h → b ≡ waits w v → b ≡ false
      → q ≡ h.state.place → anew ≡ cause_at q → anew ≡ Some cause → TurnsLine (Retry cause) before after
  turn_anew w b q anew cause W is none at anew_is some =
      record {
        makes = makes;
        gives = (free w b W is none, sym (anew_turn p c h v cause rests.at (here q at ∙ sym anew_is ∙ some)));
      }

  pub turn_done : (w : Waiting) (b : Bool) (q : Place) (anew : Option Cause) (i : ℕ) (seen : List AnsweredLine) (x : AnsweredLine) → WaitsAsLine w k h
      → b ≡ waits w v → b ≡ false → q ≡ h.state.place → anew ≡ cause_at q → anew ≡ None → i ≡ length h.answers → seen ≡ after.hand.answers
      → i < length seen → x ≡ get_or seen i x → TurnsLine (turn_told (Done tt) h after.hand) before after
  turn_done w b q anew i seen x W is none at anew_is plain many answers below got =
      turns_told (Done x.answer) before after left
      (record {
        makes = makes;
        gives = (
          free w b W is none,
          turn_is_done h after.hand k v i seen x left acts.hand answers many below got
              ∙ sym (plain_turn p c h v (here q at ∙ sym anew_is ∙ plain)),
        );
      })

  pub turn_more : (w : Waiting) (b : Bool) (q : Place) (anew : Option Cause) (i : ℕ) (seen : List AnsweredLine) → WaitsAsLine w k h
      → b ≡ waits w v → b ≡ false → q ≡ h.state.place → anew ≡ cause_at q → anew ≡ None → i ≡ length h.answers → seen ≡ after.hand.answers
      → length seen ≤ i → TurnsLine More before after
  turn_more w b q anew i seen W is none at anew_is plain many answers few =
      record {
        makes = makes;
        gives = (
          free w b W is none,
          turn_is_more h after.hand k v i seen left acts.hand answers many few ∙ sym (plain_turn p c h v (here q at ∙ sym anew_is ∙ plain)),
        );
      }
