-- The frames that a reading must not leave out: one event at a time, and over a list of events from any state.
use Rattle.std.proofs.Common.{◌≡◌, ◌⊎◌, inl, inr, ℕ, List, [], ◌∷◌, ◌++◌, ◌||◌, true, refl, sym, ap, ◌∙◌}
use Rattle.std.specs.Prelude.{not, Option, Some, None}
use Rattle.core_views.specs.Migrations.{is_stopped}
use Rattle.std.proofs.lemmas.Bool.{and_from, and_parts}
use Rattle.core_views.specs.declared.actor.Actor.{Actor}
use Rattle.core_views.specs.declared.event.Event.{Event}
use Rattle.core_views.specs.declared.event.EventKind.{EventKind}
use Rattle.core_views.specs.declared.event.EventKind.TheVariants.{Begun, Taken}
use Rattle.core_views.specs.Past.{Past, is_being_written, past_begun, written_frame}
use Rattle.core_views.specs.Flat.{Facts, Flat}
use Rattle.core_views.specs.Events.{after, after_all, past_after}
use Rattle.flat_laws.specs.Writes.{IsNoTaking, NoneIsTaken}
use Rattle.flat_laws.proofs.WrittenSince.{after_append}

begun_due : (a : Actor) (frame : Option ℕ) (past : Past) (gfn : ℕ) → (past_begun a frame past).due gfn ≡ past.due gfn
begun_due a None past gfn = refl
begun_due a (Some first) past gfn = refl

-- A log begins to be read with the event, and before it the frame is dirty, and isn't being written, or the guest is stopped.
record Takes (kind : EventKind) (f : Facts) (past : Past) (gfn : ℕ) : Type 0 where
  id : ℕ
  kind_is : kind ≡ Taken id
  dirty : f.pending gfn ≡ true
  unwritten : (is_stopped f.migration || not (is_being_written past.writes gfn)) ≡ true

-- A frame that is due after an event is so by it, or was before and no log begins to be read.
due_was : (a : Actor) (kind : EventKind) (f : Facts) (past : Past) (gfn : ℕ) → (past_after a kind f past).due gfn ≡ true
    → Takes kind f past gfn ⊎ ((past.due gfn ≡ true) × IsNoTaking kind)
due_was a (Begun line) f past gfn is = inr (sym (begun_due a (written_frame line.command) past gfn) ∙ is, tt)
due_was a (Taken id) f past gfn is =
    let both = and_parts (f.pending gfn) (is_stopped f.migration || not (is_being_written past.writes gfn)) is in
    inl (record { id = id; kind_is = refl; dirty = both.0; unwritten = both.1 })
due_was a _ f past gfn is = inr (is, tt)

due_keep : (a : Actor) (kind : EventKind) (f : Facts) (past : Past) (gfn : ℕ) → IsNoTaking kind → past.due gfn ≡ true
    → (past_after a kind f past).due gfn ≡ true
due_keep a (Begun line) f past gfn none is = begun_due a (written_frame line.command) past gfn ∙ is
due_keep a (Taken id) f past gfn none is = absurd none
due_keep a _ f past gfn none is = is

-- As a log last began to be read among these events, the frame was dirty, and it wasn't being written, or the guest was stopped.
pub record DueSince (gfn : ℕ) (es : List Event) (f : Flat) : Type 0 where
  pub before : List Event
  pub actor : Actor
  pub id : ℕ
  pub since : List Event
  pub are : es ≡ before ++ (record { actor = actor; kind = Taken id } ∷ since)
  pub dirty : (after_all before f).facts.pending gfn ≡ true
  pub unwritten : (is_stopped (after_all before f).facts.migration || not (is_being_written (after_all before f).past.writes gfn)) ≡ true
  pub last : NoneIsTaken since

pub due_since : (gfn : ℕ) (es : List Event) (f : Flat) → (after_all es f).past.due gfn ≡ true
    → DueSince gfn es f ⊎ ((f.past.due gfn ≡ true) × NoneIsTaken es)
due_since gfn [] f is = inr (is, tt)
due_since gfn (e ∷ es) f is = by (due_since gfn es (after e f) is)
  where
    of_event : NoneIsTaken es → Takes e.kind f.facts f.past gfn ⊎ ((f.past.due gfn ≡ true) × IsNoTaking e.kind)
        → DueSince gfn (e ∷ es) f ⊎ ((f.past.due gfn ≡ true) × NoneIsTaken (e ∷ es))
    of_event last (inl T) =
        inl (record {
          before = [];
          actor = e.actor;
          id = T.id;
          since = es;
          are = ap (λ (kind : EventKind). record { actor = e.actor; kind = kind } ∷ es) T.kind_is;
          dirty = T.dirty;
          unwritten = T.unwritten;
          last = last;
        })
    of_event last (inr was) = inr (was.0, (was.1, last))

    by : DueSince gfn es (after e f) ⊎ (((after e f).past.due gfn ≡ true) × NoneIsTaken es)
        → DueSince gfn (e ∷ es) f ⊎ ((f.past.due gfn ≡ true) × NoneIsTaken (e ∷ es))
    by (inl D) =
        inl (record {
          before = e ∷ D.before;
          actor = D.actor;
          id = D.id;
          since = D.since;
          are = ap (λ (xs : List Event). e ∷ xs) D.are;
          dirty = D.dirty;
          unwritten = D.unwritten;
          last = D.last;
        })
    by (inr stood) = of_event stood.1 (due_was e.actor e.kind f.facts f.past gfn stood.0)

due_stays : (gfn : ℕ) (es : List Event) (f : Flat) → NoneIsTaken es → f.past.due gfn ≡ true → (after_all es f).past.due gfn ≡ true
due_stays gfn [] f none is = is
due_stays gfn (e ∷ es) f none is = due_stays gfn es (after e f) none.1 (due_keep e.actor e.kind f.facts f.past gfn none.0 is)

pub due_stands : (gfn : ℕ) (es : List Event) (f : Flat) → DueSince gfn es f → (after_all es f).past.due gfn ≡ true
due_stands gfn es f D =
    let taking : Event = record { actor = D.actor; kind = Taken D.id } in
    let first = after_all D.before f in
    ap (λ (xs : List Event). (after_all xs f).past.due gfn) D.are
    ∙ ap (λ (end : Flat). end.past.due gfn) (after_append D.before (taking ∷ D.since) f)
    ∙ due_stays gfn D.since (after taking first) D.last
    (and_from (first.facts.pending gfn) (is_stopped first.facts.migration || not (is_being_written first.past.writes gfn)) D.dirty D.unwritten)
