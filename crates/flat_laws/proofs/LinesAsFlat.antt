-- A line that stands alone in a lawful history, and whose open choices fall as the flat history's do, ends as the flat history's line does.
use Rattle.std.proofs.Common.{◌≡◌, ℕ, List, [], ◌∷◌, ◌++◌, false, refl, sym, ap, ◌∙◌, subst}
use Rattle.std.specs.Prelude.{None, Option, Some, Bool, true, ◌==◌, cond}
use Rattle.std.proofs.lemmas.Bool.{eqb-true}
use Rattle.std.proofs.lemmas.Option.{same_Some}
use Rattle.core_views.specs.declared.actor.Actor.{Actor}
use Rattle.core_views.specs.declared.answer.Answer.{Answer}
use Rattle.core_views.specs.declared.event.Event.{Event}
use Rattle.core_views.specs.declared.event.EventKind.{EventKind}
use Rattle.core_views.specs.declared.event.EventKind.TheVariants.{Begun, LookedAtPause, LookedAtSlots, LookedAtHost, BroughtIn, Accessed, Exited, SlotChanged}
use Rattle.core_views.specs.declared.event.EventKind.TheVariants.{HostChanged, Armed, Taken, Harvested, Shown, Answered}
use Rattle.core_views.specs.declared.event.EventKind.TheVariants.{GuestStopped, MigrationStarted, PauseSet, Resumed, WordCopied}
use Rattle.core_views.specs.declared.trace.Line.{Line}
use Rattle.core_views.specs.declared.sizes.Sizes.{Sizes}
use Rattle.core_views.specs.declared.host.HostEntry.{HostEntry}
use Rattle.core_views.specs.Actors.{is_same}
use Rattle.core_views.specs.Host.{HostNotes, with_entry}
use Rattle.core_views.specs.SlotSets.{flat_slots}
use Rattle.core_views.specs.Flat.{Facts, Notes, LineUnderWay, Flat, Stage, Fresh, HasAccessed, HasLeft, HasChanged, HasArmed, HasRead}
use Rattle.core_views.specs.Flat.{HasCalled, HasSetPause, HasTakenNext, HasToCopy}
use Rattle.core_views.specs.Migrations.{is_paused}
use Rattle.std.specs.Map.{keys_of}
use Rattle.core_views.specs.Events.{after, after_all, facts_after, facts_after_all, stage_copied, stage_read, stage_taken, to_read_or_copy, under_after}
use Rattle.core_views.specs.Lawful.{IsLawful, IsAllowed}
use Rattle.core_views.specs.FlatHistory.{by, answers, rest_of}
use Rattle.core_views.specs.Alone.{is_look, without_looks, IsInside, AreWithin, FallAsFlat, FallsAsFlat}
use Rattle.flat_laws.proofs.AloneSteps.{AllIdle, IsAt, step, at_end}
use Rattle.flat_laws.proofs.Exact.{AreExact, IsAlone, IsNext, only_brings, under_way}
use Rattle.flat_laws.proofs.NextAlone.{access_is_next, arming_is_next, bringing_is_next, exit_is_next, harvest_is_next, told}
use Rattle.flat_laws.proofs.NextAlone.{host_change_is_next, showing_is_next, slot_change_is_next, taking_is_next}
use Rattle.flat_laws.proofs.NextMigrations.{copying_is_next, pausing_is_next, resuming_is_next, starting_is_next, stopping_is_next}
use Rattle.core_views.proofs.HostLines.{IsAlike, still_alike}
use Rattle.core_views.proofs.RunStages.{each_change}

-- From this stage the events end the line as the flat history does; `rest` comes behind its answer.
pub record Ends (z : Sizes) (line : Line) (rest : List Event) (stage : Stage) (f : Flat) (es : List Event) : Type 0 where
  pub behind : Flat
  pub reaches : after_all es f ≡ after_all rest behind
  pub shown : without_looks es ≡ rest_of z line stage f.facts ++ without_looks rest
  pub facts_are : behind.facts ≡ facts_after_all (rest_of z line stage f.facts) f.facts
  pub idle : AllIdle behind
  pub lawful : IsLawful z behind rest
  pub falls : FallAsFlat z behind rest

-- So they do from each stage in which they are lawful.
abbrev pub Leads : Sizes → Line → List Event → List Event → Type 0
Leads z line rest es =
    (stage : Stage) (notes : Notes) (f : Flat) → IsAlone line stage notes f → IsLawful z f es → FallAsFlat z f es → Ends z line rest stage f es

allowed : (z : Sizes) (line : Line) (stage : Stage) (notes : Notes) (f : Flat) (kind : EventKind) → IsAlone line stage notes f
    → IsAllowed z f.facts f.past line.actor (f.under line.actor) kind → IsAllowed z f.facts f.past line.actor (under_way line stage notes) kind
allowed z line stage notes f kind is may = subst (λ (u : LineUnderWay). IsAllowed z f.facts f.past line.actor u kind) is.at.line_is may

falls_at : (z : Sizes) (line : Line) (stage : Stage) (notes : Notes) (f : Flat) (kind : EventKind) → IsAlone line stage notes f
    → FallsAsFlat z f.facts (f.under line.actor).line.command kind → FallsAsFlat z f.facts line.command kind
falls_at z line stage notes f kind is falls = subst (λ (u : LineUnderWay). FallsAsFlat z f.facts u.line.command kind) is.at.line_is falls

next_at : (line : Line) (stage : Stage) (notes : Notes) (f : Flat) (kind : EventKind) → IsAlone line stage notes f
    → IsAt line.actor (facts_after kind f.facts) (under_after kind f.facts (under_way line stage notes)) (after (by line kind) f)
next_at line stage notes f kind is = step line.actor kind f.facts (under_way line stage notes) f is.at

-- an event that is shown, and the rest of the line
shown_event : (z : Sizes) (line : Line) (rest es : List Event) (stage : Stage) (notes : Notes) (f : Flat) (kind : EventKind) → is_look kind ≡ false
    → IsNext z f.facts (under_way line stage notes) kind
    → Ends z line rest (under_after kind f.facts (under_way line stage notes)).stage (after (by line kind) f) es → Ends z line rest stage f (by line kind ∷ es)
shown_event z line rest es stage notes f kind is_shown is ends = record {
  behind = ends.behind;
  reaches = ends.reaches;
  shown = rw (is_shown, is) (ap (λ (xs : List Event). by line kind ∷ xs) ends.shown);
  facts_are = ends.facts_are ∙ sym (ap (λ (xs : List Event). facts_after_all xs f.facts) is);
  idle = ends.idle;
  lawful = ends.lawful;
  falls = ends.falls;
}

-- Where one more host page was looked at, each that was is so still.
noted_host : (R : HostEntry → HostEntry → Type 0) → ((e : HostEntry) → R e e) → (f : Facts) (page : ℕ) (host : HostNotes) (other : ℕ) (entry : HostEntry)
    → (host other ≡ Some entry → R entry (f.host other)) → with_entry page (f.host page) host other ≡ Some entry → R entry (f.host other)
noted_host R same_so f page host other entry before noted = by_page (page == other) (eqb-true page other) noted
  where
    by_page : (b : Bool) → (b ≡ true → page ≡ other) → cond b (Some (f.host page)) (host other) ≡ Some entry → R entry (f.host other)
    by_page true same is =
        let now_ : entry ≡ f.host other = sym (same_Some (f.host page) entry is) ∙ ap f.host (same refl) in
        subst (λ (e : HostEntry). R e (f.host other)) (sym now_) (same_so (f.host other))
    by_page false same is = before is

-- A line that has done something of a migration isn't fresh.
taken_apart : (read : Option ℕ) (left : List ℕ) (id : ℕ) → stage_taken read left id ≡ Fresh → ⊥
taken_apart None left id fresh = cc fresh
taken_apart (Some other) left id fresh = cc fresh

left_apart : (ids : List ℕ) (f : Facts) → to_read_or_copy ids f ≡ Fresh → ⊥
left_apart [] f fresh = cc fresh
left_apart (id ∷ ids) f fresh = cc fresh

read_apart : (stage : Stage) (frames : List ℕ) (f : Facts) → stage_read stage frames f ≡ Fresh → ⊥
read_apart (HasTakenNext id ids) frames f fresh = left_apart ids f fresh
read_apart _ frames f fresh = cc fresh

copied_apart : (whole : Bool) (gfn : ℕ) (frames : List ℕ) (count word : ℕ) → stage_copied whole (HasToCopy (gfn ∷ frames) count word) ≡ Fresh → ⊥
copied_apart true gfn frames count word fresh = cc fresh
copied_apart false gfn frames count word fresh = cc fresh

-- one event within the line: a clause for each kind
one_event : (z : Sizes) (line : Line) (rest es : List Event) (kind : EventKind) → IsInside kind → Leads z line rest es → Leads z line rest (by line kind ∷ es)
one_event z line rest es (Begun other) within leads stage notes f is lawful falls = absurd within
one_event z line rest es LookedAtPause within leads stage notes f is lawful falls =
    let ends = leads stage (record notes { paused = Some (is_paused f.facts.migration) }) (after (by line LookedAtPause) f) (record {
      at =
          next_at line stage notes f LookedAtPause is;
      exact = λ fresh. record {
        pause = λ paused noted. same_Some (is_paused f.facts.migration) paused noted;
        slots = (is.exact fresh).slots;
        host = (is.exact fresh).host;
        whole = (is.exact fresh).whole;
      };
    }) lawful.1 falls.1 in
    record {
      behind = ends.behind;
      reaches = ends.reaches;
      shown = ends.shown;
      facts_are = ends.facts_are;
      idle = ends.idle;
      lawful = ends.lawful;
      falls =
          ends.falls;
    }
one_event z line rest es LookedAtSlots within leads stage notes f is lawful falls =
    let ends = leads stage (record notes { slots = Some (flat_slots f.facts.slots) }) (after (by line LookedAtSlots) f) (record {
      at =
          next_at line stage notes f LookedAtSlots is;
      exact = λ fresh. record {
        pause = (is.exact fresh).pause;
        slots = λ slots noted. cc noted;
        host = (is.exact fresh).host;
        whole = (is.exact fresh).whole;
      };
    }) lawful.1 falls.1 in
    record {
      behind = ends.behind;
      reaches = ends.reaches;
      shown = ends.shown;
      facts_are = ends.facts_are;
      idle = ends.idle;
      lawful = ends.lawful;
      falls =
          ends.falls;
    }
one_event z line rest es (LookedAtHost page) within leads stage notes f is lawful falls =
    let kind : EventKind = LookedAtHost page in
    let ends = leads stage (record notes { host = with_entry page (f.facts.host page) notes.host }) (after (by line kind) f) (record {
      at =
          next_at line stage notes f kind is;
      exact = λ fresh. record {
        pause = (is.exact fresh).pause;
        slots = (is.exact fresh).slots;
        host = λ other entry noted.
            noted_host IsAlike (λ e. (refl, refl)) f.facts page notes.host other entry ((is.exact fresh).host other entry) noted;
        whole = λ other entry noted none.
            noted_host (λ x y. x ≡ y) (λ e. refl) f.facts page notes.host other entry (λ was. (is.exact fresh).whole other entry was none) noted;
      };
    }) lawful.1 falls.1 in
    record {
      behind = ends.behind;
      reaches = ends.reaches;
      shown = ends.shown;
      facts_are = ends.facts_are;
      idle = ends.idle;
      lawful = ends.lawful;
      falls =
          ends.falls;
    }
one_event z line rest es (BroughtIn page) within leads stage notes f is lawful falls =
    let kind : EventKind = BroughtIn page in
    let exact_then : stage ≡ Fresh → AreExact (facts_after kind f.facts) line.command notes = λ fresh. record {
      pause = (is.exact fresh).pause;
      slots = (is.exact fresh).slots;
      host = λ other entry noted.
          let was = (is.exact fresh).host other entry noted in
          let still = still_alike f.facts.host page other in
          (was.0 ∙ still.0, was.1 ∙ still.1);
      whole = λ other entry noted none.
          let may = allowed z line stage notes f kind is lawful.0 in
          let does = only_brings f.facts line.command notes page may.1 in
          absurd (cc (none, does));
    } in
    shown_event z line rest es stage notes f kind refl
    (bringing_is_next z f.facts f.past (under_way line stage notes) page is.exact (allowed z line stage notes f kind is lawful.0))
    (leads stage notes (after (by line kind) f) (record { at = next_at line stage notes f kind is; exact = exact_then }) lawful.1 falls.1)
one_event z line rest es (Accessed gfn word op frame before) within leads stage notes f is lawful falls =
    let kind : EventKind = Accessed gfn word op frame before in
    shown_event z line rest es stage notes f kind refl
    (access_is_next z f.facts f.past (under_way line stage notes) gfn word op frame before is.exact (allowed z line stage notes f kind is lawful.0))
    (leads (HasAccessed frame before) notes (after (by line kind) f)
    (record { at = next_at line stage notes f kind is; exact = λ fresh. absurd (cc fresh) }) lawful.1 falls.1)
one_event z line rest es (Exited answer) within leads stage notes f is lawful falls =
    let kind : EventKind = Exited answer in
    shown_event z line rest es stage notes f kind refl
    (exit_is_next z f.facts f.past (under_way line stage notes) answer is.exact (falls_at z line stage notes f kind is falls.0)
    (allowed z line stage notes f kind is lawful.0))
    (leads (HasLeft answer) notes (after (by line kind) f)
    (record { at = next_at line stage notes f kind is; exact = λ fresh. absurd (cc fresh) }) lawful.1 falls.1)
one_event z line rest es (SlotChanged id slot) within leads stage notes f is lawful falls =
    let kind : EventKind = SlotChanged id slot in
    shown_event z line rest es stage notes f kind refl
    (slot_change_is_next z f.facts f.past (under_way line stage notes) id slot (allowed z line stage notes f kind is lawful.0))
    (leads HasChanged notes (after (by line kind) f) (record { at = next_at line stage notes f kind is; exact = λ fresh. absurd (cc fresh) }) lawful.1 falls.1)
one_event z line rest es (HostChanged page entry) within leads stage notes f is lawful falls =
    let kind : EventKind = HostChanged page entry in
    shown_event z line rest es stage notes f kind refl
    (host_change_is_next z f.facts f.past (under_way line stage notes) page entry (falls_at z line stage notes f kind is falls.0)
    (allowed z line stage notes f kind is lawful.0))
    (leads _ notes (after (by line kind) f)
    (record {
      at = next_at line stage notes f kind is;
      exact = λ fresh. absurd (each_change (λ s. s ≡ Fresh → ⊥) (λ e at. cc at) (λ p l n at. cc at) line.command f.facts.host stage page entry fresh);
    }) lawful.1 falls.1)
one_event z line rest es (Armed id all) within leads stage notes f is lawful falls =
    let kind : EventKind = Armed id all in
    shown_event z line rest es stage notes f kind refl
    (arming_is_next z f.facts f.past (under_way line stage notes) id all (allowed z line stage notes f kind is lawful.0))
    (leads HasArmed notes (after (by line kind) f) (record { at = next_at line stage notes f kind is; exact = λ fresh. absurd (cc fresh) }) lawful.1 falls.1)
one_event z line rest es (Taken id) within leads stage notes f is lawful falls =
    let kind : EventKind = Taken id in
    shown_event z line rest es stage notes f kind refl
    (taking_is_next z f.facts f.past (under_way line stage notes) id (allowed z line stage notes f kind is lawful.0))
    (leads _ notes (after (by line kind) f)
    (record { at = next_at line stage notes f kind is; exact = λ fresh. absurd (taken_apart _ _ id fresh) }) lawful.1 falls.1)
one_event z line rest es (Harvested id frames) within leads stage notes f is lawful falls =
    let kind : EventKind = Harvested id frames in
    shown_event z line rest es stage notes f kind refl
    (harvest_is_next z f.facts f.past (under_way line stage notes) id frames (falls_at z line stage notes f kind is falls.0)
    (allowed z line stage notes f kind is lawful.0))
    (leads _ notes (after (by line kind) f)
    (record { at = next_at line stage notes f kind is; exact = λ fresh. absurd (read_apart stage frames _ fresh) }) lawful.1 falls.1)
one_event z line rest es (Shown id frames) within leads stage notes f is lawful falls =
    let kind : EventKind = Shown id frames in
    shown_event z line rest es stage notes f kind refl
    (showing_is_next z f.facts f.past (under_way line stage notes) id frames (falls_at z line stage notes f kind is falls.0)
    (allowed z line stage notes f kind is lawful.0))
    (leads (HasRead frames) notes (after (by line kind) f)
    (record { at = next_at line stage notes f kind is; exact = λ fresh. absurd (cc fresh) }) lawful.1 falls.1)
one_event z line rest es MigrationStarted within leads stage notes f is lawful falls =
    let kind : EventKind = MigrationStarted in
    shown_event z line rest es stage notes f kind refl
    (starting_is_next z f.facts f.past (under_way line stage notes) (allowed z line stage notes f kind is lawful.0))
    (leads HasCalled notes (after (by line kind) f) (record { at = next_at line stage notes f kind is; exact = λ fresh. absurd (cc fresh) }) lawful.1 falls.1)
one_event z line rest es PauseSet within leads stage notes f is lawful falls =
    let kind : EventKind = PauseSet in
    shown_event z line rest es stage notes f kind refl
    (pausing_is_next z f.facts f.past (under_way line stage notes) (allowed z line stage notes f kind is lawful.0))
    (leads HasSetPause notes (after (by line kind) f) (record { at = next_at line stage notes f kind is; exact = λ fresh. absurd (cc fresh) }) lawful.1 falls.1)
one_event z line rest es GuestStopped within leads stage notes f is lawful falls =
    let kind : EventKind = GuestStopped in
    shown_event z line rest es stage notes f kind refl
    (stopping_is_next z f.facts f.past (under_way line stage notes) (allowed z line stage notes f kind is lawful.0))
    (leads _ notes (after (by line kind) f)
    (record { at = next_at line stage notes f kind is; exact = λ fresh. absurd (left_apart (keys_of f.facts.slots) _ fresh) }) lawful.1 falls.1)
one_event z line rest es (WordCopied gfn page word value whole) within leads stage notes f is lawful falls =
    let kind : EventKind = WordCopied gfn page word value whole in
    let may = allowed z line stage notes f kind is lawful.0 in
    shown_event z line rest es stage notes f kind refl
    (copying_is_next z f.facts f.past (under_way line stage notes) gfn page word value whole may)
    (leads _ notes (after (by line kind) f)
    (record {
      at = next_at line stage notes f kind is;
      exact = λ fresh. absurd (copied_apart whole gfn may.frames may.count word (ap (stage_copied whole) (sym may.left) ∙ fresh));
    }) lawful.1 falls.1)
one_event z line rest es Resumed within leads stage notes f is lawful falls =
    let kind : EventKind = Resumed in
    shown_event z line rest es stage notes f kind refl
    (resuming_is_next z f.facts f.past (under_way line stage notes) (allowed z line stage notes f kind is lawful.0))
    (leads HasCalled notes (after (by line kind) f) (record { at = next_at line stage notes f kind is; exact = λ fresh. absurd (cc fresh) }) lawful.1 falls.1)
one_event z line rest es (Answered number answer) within leads stage notes f is lawful falls = absurd within

-- the answer, after which no line is under way
at_answer : (z : Sizes) (line : Line) (rest : List Event) (answer : Answer) → Leads z line rest (by line (Answered line.number answer) ∷ rest)
at_answer z line rest answer stage notes f is lawful falls =
    let kind : EventKind = Answered line.number answer in
    let tells : rest_of z line stage f.facts ≡ answers line answer = told z line stage f.facts answer (allowed z line stage notes f kind is lawful.0).1 in
    record {
      behind = after (by line kind) f;
      reaches = refl;
      shown = sym (ap (λ (xs : List Event). xs ++ without_looks rest) tells);
      facts_are = sym (ap (λ (xs : List Event). facts_after_all xs f.facts) tells);
      idle = λ i. at_end (is_same line.actor i) (under_after kind f.facts (f.under line.actor)) (f.under i) refl (is.at.others i);
      lawful = lawful.1;
      falls = falls.1;
    }

pub whole_line : (z : Sizes) (line : Line) (within rest : List Event) (answer : Answer) → AreWithin line within
    → Leads z line rest (within ++ (by line (Answered line.number answer) ∷ rest))
whole_line z line [] rest answer are = at_answer z line rest answer
whole_line z line (e ∷ es) rest answer are =
    subst (λ (actor : Actor). Leads z line rest (record { actor = actor; kind = e.kind } ∷ (es ++ (by line (Answered line.number answer) ∷ rest)))) (sym are.0)
    (one_event z line rest (es ++ (by line (Answered line.number answer) ∷ rest)) e.kind are.1 (whole_line z line es rest answer are.2))
