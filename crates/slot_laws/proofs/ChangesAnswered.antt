-- What a slot line and a host line are answered says whether they have made their change.
use Rattle.std.proofs.Common.{◌≡◌, ◌≢◌, ℕ, true, false, List, [], ◌∷◌, ◌++◌, refl, sym, ap, ◌∙◌, subst}
use Rattle.std.specs.Prelude.{Option, Some, None}
use Rattle.std.specs.Option.{option_map}
use Rattle.core_views.specs.declared.actor.Actor.{Actor}
use Rattle.core_views.specs.declared.answer.Answer.{Answer}
use Rattle.core_views.specs.declared.answer.Answer.TheVariants.{Done, Refused}
use Rattle.core_views.specs.declared.answer.Refusal.{Refusal}
use Rattle.core_views.specs.declared.event.Event.{Event}
use Rattle.core_views.specs.declared.event.EventKind.{EventKind}
use Rattle.core_views.specs.declared.event.EventKind.TheVariants.{Begun, SlotChanged}
use Rattle.core_views.specs.declared.event.EventKind.TheVariants.{HostChanged, Answered}
use Rattle.core_views.specs.declared.host.HostEntry.{HostEntry}
use Rattle.core_views.specs.declared.sizes.Sizes.{Sizes}
use Rattle.core_views.specs.declared.trace.Command.{Command}
use Rattle.core_views.specs.declared.trace.Command.TheVariants.{ChangeHost, ChangeRun}
use Rattle.core_views.specs.declared.trace.HostChange.{HostChange}
use Rattle.core_views.specs.declared.trace.HostChange.TheVariants.{Allow, Evict, Move, Protect}
use Rattle.core_views.specs.declared.trace.Line.{Line}
use Rattle.core_views.specs.Events.{after_all, under_after}
use Rattle.core_views.specs.Flat.{Facts, Flat, Fresh, HasArmed, HasChanged, HasChangedHost, HasLeft, HasToSet}
use Rattle.core_views.specs.Flat.{LineUnderWay, Stage, first_flat}
use Rattle.core_views.specs.HostChanges.{changes_host, host_answer, host_refusal}
use Rattle.core_views.specs.Lawful.{IsLawful, Tells}
use Rattle.core_views.specs.SlotCommands.{changes_slot}
use Rattle.core_views.proofs.SameActor.{changed_here}
use Rattle.flat_laws.specs.Writes.{StaysWithin}
use Rattle.flat_laws.proofs.AloneIsLawful.{lawful_parts}
use Rattle.slot_laws.specs.DoneLines.{begins_after, by}
use Rattle.slot_laws.specs.OneChange.{TellsNoChange, HostLineTells, HostLinesTell, SlotLineTells, SlotLinesTell, TellsOne, is_refused}
use Rattle.slot_laws.proofs.HostLineStages.{FitsHost, fits_all}
use Rattle.slot_laws.proofs.LineEvents.{line_stays}
use Rattle.slot_laws.proofs.OneChange.{None_, One_, Walked, entry_told, made, walked}
use Rattle.slot_laws.proofs.DoneLines.{done_comes_of_one_change}
use Rattle.core_views.specs.HostRuns.{is_of_host, sets_run}

-- ---- what its answer says

-- A slot line that has made its change is answered done.
answered_done : (z : Sizes) (f : Facts) (actor : Actor) (command : Command) (s : Stage) (answer : Answer) → changes_slot command ≡ true
    → (made s ≡ None → ⊥) → Tells z f actor command s answer → answer ≡ Done
answered_done z f actor command HasChanged answer is some told = told.0
answered_done z f actor command HasArmed answer is some told = told
answered_done z f actor command (HasChangedHost entry) answer is some told = by command is told
  where
    by : (c : Command) → changes_slot c ≡ true → answer ≡ host_answer c entry → answer ≡ Done
    by (ChangeHost page change) slot_line same = absurd (cc slot_line)
    by _ slot_line same = same
answered_done z f actor command _ answer is some told = absurd (some refl)

pub refused_at_once : (o : Option Refusal) (answer : Answer) → option_map (λ refusal. Refused refusal) o ≡ Some answer → is_refused answer ≡ true
refused_at_once None answer e = absurd (cc e)
refused_at_once (Some refusal) answer e = let same : Refused refusal ≡ answer = cc e in ap is_refused (sym same)

module _ (z : Sizes) (page : ℕ) (change : HostChange) where
  -- A host line that has changed nothing is refused; and else it is answered what its change says.
  unchanged_refused : (f : Facts) (actor : Actor) (s : Stage) (answer : Answer) → FitsHost (ChangeHost page change) s → made s ≡ None
      → Tells z f actor (ChangeHost page change) s answer → is_refused answer ≡ true
  unchanged_refused f actor Fresh answer fits none told = refused_at_once (host_refusal z actor page) answer told
  unchanged_refused f actor (HasLeft how) answer fits none told = ap is_refused told ∙ fits
  unchanged_refused f actor (HasChangedHost entry) answer fits none told = absurd (cc none)
  unchanged_refused f actor (HasToSet other left level) answer fits none told = absurd (cc fits)
  unchanged_refused f actor _ answer fits none told = absurd fits

  changed_answer : (f : Facts) (actor : Actor) (s : Stage) (answer : Answer) (entry : HostEntry) → made s ≡ Some (Some entry)
      → Tells z f actor (ChangeHost page change) s answer → answer ≡ host_answer (ChangeHost page change) entry
  changed_answer f actor (HasChangedHost other) answer entry some told =
      let same : other ≡ entry = cc some in told ∙ ap (host_answer (ChangeHost page change)) same
  changed_answer f actor HasChanged answer entry some told = absurd (cc some)
  changed_answer f actor HasArmed answer entry some told = absurd (cc some)
  changed_answer f actor _ answer entry some told = absurd (cc some)

not_refused : (change : HostChange) (page : ℕ) (entry : HostEntry) → is_refused (host_answer (ChangeHost page change) entry) ≡ false
not_refused Move page entry = refl
not_refused Evict page entry = refl
not_refused Protect page entry = refl
not_refused Allow page entry = refl

-- A slot line sets no run.
sets_none : (c : Command) → changes_slot c ≡ true → sets_run c ≡ false
sets_none (ChangeRun page change) is = absurd (cc is)
sets_none _ is = refl

-- ---- from its begin to its answer

module _ (z : Sizes) (before between : List Event) (line : Line) (answer : Answer)
    (lawful : IsLawful z first_flat (before ++ (by line (Begun line) ∷ (between ++ (by line (Answered line.number answer) ∷ [])))))
    (within : StaysWithin line.actor between) where
  abbrev pub start : Flat
  start = begins_after line before

  begun : start.under line.actor ≡ under_after (Begun line) (after_all before first_flat).facts ((after_all before first_flat).under line.actor)
  begun =
      changed_here line.actor (under_after (Begun line) (after_all before first_flat).facts ((after_all before first_flat).under line.actor))
      (after_all before first_flat).under

  pub begun_line : (start.under line.actor).line ≡ line
  begun_line = ap (λ (u : LineUnderWay). u.line) begun

  pub begun_stage : (start.under line.actor).stage ≡ Fresh
  begun_stage = ap (λ (u : LineUnderWay). u.stage) begun

  pub parts : IsLawful z start between × IsLawful z (after_all between start) (by line (Answered line.number answer) ∷ [])
  parts =
      lawful_parts z between (by line (Answered line.number answer) ∷ []) start
      (lawful_parts z before (by line (Begun line) ∷ (between ++ (by line (Answered line.number answer) ∷ []))) first_flat lawful).1.1

  pub tells : Tells z (after_all between start).facts line.actor line.command ((after_all between start).under line.actor).stage answer
  tells =
      subst (λ (l : Line). Tells z (after_all between start).facts line.actor l.command ((after_all between start).under line.actor).stage answer)
      (line_stays z line between start parts.0 within begun_line) parts.1.0.1

  -- A line of a host thread ends at one of its stages.
  pub host_fits : is_of_host line.command ≡ true → FitsHost line.command ((after_all between start).under line.actor).stage
  host_fits of_host = fits_all z line of_host between start parts.0 within begun_line (subst (FitsHost line.command) (sym begun_stage) tt)

  walk : sets_run line.command ≡ false → Walked z line start between
  walk one = walked z line between start one parts.0 within begun_line

  slot_line_tells : changes_slot line.command ≡ true → SlotLineTells z line answer start between
  slot_line_tells is = record {
    done = λ e. done_comes_of_one_change z before between line is
        (subst (λ (a : Answer). IsLawful z first_flat (before ++ (by line (Begun line) ∷ (between ++ (by line (Answered line.number a) ∷ []))))) e lawful)
        within;
    other = λ ne. none ne (walk (sets_none line.command is));
  }
    where
      none : answer ≢ Done → Walked z line start between → TellsNoChange line.actor between
      none ne (None_ leaves end_) = leaves
      none ne (One_ kind T unmade end_) =
          absurd (ne (answered_done z (after_all between start).facts line.actor line.command ((after_all between start).under line.actor).stage answer is
          (λ still. cc (still, end_)) tells))

  host_line_tells : (page : ℕ) (change : HostChange) → line.command ≡ ChangeHost page change → HostLineTells z line answer start between
  host_line_tells page change is = record { done = λ e. one e (walk (ap sets_run is)); refused = λ e. none e (walk (ap sets_run is)) }
    where
      end_stage : Stage
      end_stage = ((after_all between start).under line.actor).stage

      host_tells : Tells z (after_all between start).facts line.actor (ChangeHost page change) end_stage answer
      host_tells = subst (λ (c : Command). Tells z (after_all between start).facts line.actor c end_stage answer) is tells

      fits : FitsHost (ChangeHost page change) end_stage
      fits = subst (λ (c : Command). FitsHost c end_stage) is (host_fits (ap is_of_host is))

      answer_is : (entry : HostEntry) → made end_stage ≡ Some (Some entry) → answer ≡ host_answer line.command entry
      answer_is entry made_ =
          changed_answer z page change (after_all between start).facts line.actor end_stage answer entry made_ host_tells
          ∙ ap (λ (c : Command). host_answer c entry) (sym is)

      One : Type 0
      One = (other : ℕ) × (entry : HostEntry) × TellsOne z line (HostChanged other entry) start between × (answer ≡ host_answer line.command entry)

      one_of : (kind : EventKind) → TellsOne z line kind start between → made end_stage ≡ Some (entry_told kind) → One
      one_of (HostChanged other entry) T end_ = (other, entry, T, answer_is entry end_)
      one_of (SlotChanged id slot) T end_ = absurd (let asked = T.asked in cc (is, asked))
      one_of _ T end_ = absurd T.asked

      one : is_refused answer ≡ false → Walked z line start between → One
      one e (None_ leaves end_) =
          absurd (let refused =
          unchanged_refused z page change (after_all between start).facts line.actor end_stage answer fits (end_ ∙ ap made begun_stage) host_tells
          in cc (e, refused))
      one e (One_ kind T unmade end_) = one_of kind T end_

      none : is_refused answer ≡ true → Walked z line start between → TellsNoChange line.actor between
      none e (None_ leaves end_) = leaves
      none e (One_ kind T unmade end_) =
          let O = one_of kind T end_ in
          absurd (let not_ = not_refused change page O.1 in
          let same = ap is_refused (O.3 ∙ ap (λ (c : Command). host_answer c O.1) is) in cc (e, same, not_))

pub slot_lines_tell : SlotLinesTell
slot_lines_tell z before between line answer is lawful within = slot_line_tells z before between line answer lawful within is

changes_of : (c : Command) → changes_host c ≡ true → (page : ℕ) × (change : HostChange) × (c ≡ ChangeHost page change)
changes_of (ChangeHost page change) is = (page, change, refl)
changes_of _ is = absurd (cc is)

pub host_lines_tell : HostLinesTell
host_lines_tell z before between line answer is lawful within =
    let C = changes_of line.command is in
    host_line_tells z before between line answer lawful within C.0 C.1 C.2
