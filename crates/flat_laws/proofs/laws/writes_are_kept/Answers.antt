use Rattle.std.proofs.Common.{◌≡◌, ◌⊎◌, inl, inr, ℕ, List, Bool, true, false, refl, ◌||◌}
use Rattle.std.specs.Prelude.{Contains, not}
use Rattle.core_views.specs.Migrations.{is_stopped}
use Rattle.core_views.specs.declared.actor.Actor.{Actor}
use Rattle.core_views.specs.declared.event.Event.{Event}
use Rattle.core_views.specs.Flat.{first_flat}
use Rattle.core_views.specs.Events.{after_all}
use Rattle.core_views.specs.Past.{is_being_written}
use Rattle.flat_laws.specs.Writes.{HasBegunWrite, NoneIsTaken, NoneReadsOut, StaysWithin, WasArmed, WasDue, WasWritten}
use Rattle.flat_laws.proofs.DueFrames.{DueSince, due_since, due_stands}
use Rattle.flat_laws.proofs.Written.{is_written, some_writes}
use Rattle.flat_laws.proofs.WrittenSince.{ArmedSince, WasSince, armed_stands, cause_stands, only_cause, only_recent, recent_stands}
use Rattle.flat_laws.proofs.Writes.{all_of_lines, begun_is_in, begun_or_stood, first_of_lines, none_at_first}
use Rattle.flat_laws.proofs.laws.writes_are_kept.Goals as goal

only_begun : (history : List Event) (actor : Actor) (gfn : ℕ)
    → HasBegunWrite history actor gfn ⊎ (Contains first_flat.past.writes (actor, gfn) × StaysWithin actor history) → HasBegunWrite history actor gfn
only_begun history actor gfn (inl begun) = begun
only_begun history actor gfn (inr stood) = none_at_first actor gfn stood.0

has_begun : (history : List Event) (actor : Actor) (gfn : ℕ) → Contains (after_all history first_flat).past.writes (actor, gfn)
    → HasBegunWrite history actor gfn
has_begun history actor gfn has = only_begun history actor gfn (begun_or_stood actor gfn history first_flat has)

pub returns-clause-begun : goal.returns-clause-begun
returns-clause-begun c history actor gfn = (has_begun history actor gfn, begun_is_in history actor gfn first_flat)

pub returns-clause-under : goal.returns-clause-under
returns-clause-under c z history lawful actor gfn =
    let are = all_of_lines z history first_flat lawful first_of_lines in (are.is_writing actor gfn, are.is_in actor gfn)

-- ---- the frames that were written, in words of the history

written : (Since : List Event → Type 0) (history : List Event) (gfn : ℕ) → WasSince Since gfn history first_flat → WasWritten Since history gfn
written Since history gfn W = record {
  before = W.before;
  since = W.since;
  history_is = W.are;
  actor = W.actor;
  begun = has_begun W.before W.actor gfn W.writes;
  kept = W.kept;
  are_such = W.are_such;
}

was_written : (Since : List Event → Type 0) (history : List Event) (gfn : ℕ) → WasWritten Since history gfn → WasSince Since gfn history first_flat
was_written Since history gfn W = record {
  before = W.before;
  since = W.since;
  are = W.history_is;
  actor = W.actor;
  writes = begun_is_in W.before W.actor gfn first_flat W.begun;
  kept = W.kept;
  are_such = W.are_such;
}

caused : (history : List Event) (gfn : ℕ) → WasSince (NoneReadsOut gfn) gfn history first_flat ⊎ ArmedSince gfn history first_flat
    → WasWritten (NoneReadsOut gfn) history gfn ⊎ WasArmed history gfn
caused history gfn (inl W) = inl (written (NoneReadsOut gfn) history gfn W)
caused history gfn (inr A) =
    inr (record {
      before = A.before;
      actor = A.actor;
      id = A.id;
      since = A.since;
      history_is = A.are;
      there = A.there;
      kept = A.kept;
      left = A.left;
    })

has_cause : (history : List Event) (gfn : ℕ) → WasWritten (NoneReadsOut gfn) history gfn ⊎ WasArmed history gfn
    → (after_all history first_flat).past.causes gfn ≡ true
has_cause history gfn (inl W) =
    cause_stands gfn history first_flat (λ actor has. none_at_first actor gfn has) (was_written (NoneReadsOut gfn) history gfn W)
has_cause history gfn (inr A) =
    armed_stands gfn history first_flat
    (record {
      before = A.before;
      actor = A.actor;
      id = A.id;
      since = A.since;
      are = A.history_is;
      there = A.there;
      kept = A.kept;
      left = A.left;
    })

pub returns-clause-written : goal.returns-clause-written
returns-clause-written c history gfn = (
  (
    λ is. written NoneIsTaken history gfn (only_recent gfn history first_flat (λ e. absurd (cc e)) is),
    λ W. recent_stands gfn history first_flat (λ actor has. none_at_first actor gfn has) (was_written NoneIsTaken history gfn W),
  ),
  (
    λ is. caused history gfn (only_cause gfn history first_flat (λ e. absurd (cc e)) (λ e. absurd (cc e)) is),
    has_cause history gfn,
  ),
)

-- ---- the frames that a reading must not leave out

no_write : (stopped written : Bool) → stopped ≡ false → written ≡ true → (stopped || not written) ≡ true → ⊥
no_write true written goes is open_ = cc goes
no_write false true goes is open_ = cc open_
no_write false false goes is open_ = cc is

due : (history : List Event) (gfn : ℕ) → DueSince gfn history first_flat ⊎ ((first_flat.past.due gfn ≡ true) × NoneIsTaken history) → WasDue history gfn
due history gfn (inl D) = record {
  before = D.before;
  actor = D.actor;
  id = D.id;
  since = D.since;
  history_is = D.are;
  dirty = D.dirty;
  unwritten = λ goes other begun.
      no_write (is_stopped (after_all D.before first_flat).facts.migration) (is_being_written (after_all D.before first_flat).past.writes gfn) goes
      (is_written (after_all D.before first_flat).past.writes other gfn (begun_is_in D.before other gfn first_flat begun)) D.unwritten;
  last = D.last;
}
due history gfn (inr stood) = let there = stood.0 in absurd (cc there)

unwritten : (before : List Event) (gfn : ℕ)
    → (is_stopped (after_all before first_flat).facts.migration ≡ false → (other : Actor) → HasBegunWrite before other gfn → ⊥)
    → (is_stopped (after_all before first_flat).facts.migration || not (is_being_written (after_all before first_flat).past.writes gfn)) ≡ true
unwritten before gfn none = by (is_stopped (after_all before first_flat).facts.migration) (is_being_written writes gfn) refl refl
  where
    writes : List (Actor × ℕ)
    writes = (after_all before first_flat).past.writes

    by : (stopped b : Bool) → is_stopped (after_all before first_flat).facts.migration ≡ stopped → is_being_written writes gfn ≡ b → (stopped || not b) ≡ true
    by true b goes is = refl
    by false false goes is = refl
    by false true goes is = let W = some_writes writes gfn is in absurd (none goes W.actor (has_begun before W.actor gfn W.has))

pub returns-clause-due : goal.returns-clause-due
returns-clause-due c history gfn = (
  λ is. due history gfn (due_since gfn history first_flat is),
  λ D. due_stands gfn history first_flat
      (record {
        before = D.before;
        actor = D.actor;
        id = D.id;
        since = D.since;
        are = D.history_is;
        dirty = D.dirty;
        unwritten = unwritten D.before gfn D.unwritten;
        last = D.last;
      }),
)
