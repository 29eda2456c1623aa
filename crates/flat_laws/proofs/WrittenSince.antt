-- The frames that were written, over a list of events from any state: those lately, and those with a cause to stand in a log.
use Rattle.std.proofs.Common.{◌≡◌, ◌⊎◌, inl, inr, ℕ, List, [], ◌∷◌, ◌++◌, true, refl, ap, ◌∙◌, subst}
use Rattle.std.specs.Prelude.{Contains}
use Rattle.core_views.specs.declared.actor.Actor.{Actor}
use Rattle.core_views.specs.declared.event.Event.{Event}
use Rattle.core_views.specs.declared.event.EventKind.{EventKind}
use Rattle.core_views.specs.declared.event.EventKind.TheVariants.{Armed, Taken}
use Rattle.core_views.specs.SlotSets.{slot_of_id}
use Rattle.core_views.specs.Past.{has_gfn}
use Rattle.core_views.specs.Flat.{Flat}
use Rattle.core_views.specs.Events.{after, after_all, facts_after}
use Rattle.flat_laws.specs.Writes.{IsNoTaking, KeepsSlot, LeavesFrame, LeavesFrom, NoneIsTaken, NoneReadsOut, NoneTakesOut, SlotKept}
use Rattle.flat_laws.proofs.Written.{Arms, CauseOf, IsArmed, IsInBoth, IsWritten, WasLately, WasThere, WritesNow, armed_there, cause_of, causes_keep}
use Rattle.flat_laws.proofs.Written.{causes_stay, in_both, recent_keep, recent_was}

pub after_append : (xs ys : List Event) (f : Flat) → ◌≡◌ {A = Flat} (after_all (xs ++ ys) f) (after_all ys (after_all xs f))
after_append [] ys f = refl
after_append (x ∷ xs) ys f = after_append xs ys (after x f)

-- ---- what holds of the events since

-- If none of the events takes the frame out of a log, no reading that begins among them does.
none_reads_out : (gfn : ℕ) (es : List Event) → NoneTakesOut gfn es → NoneReadsOut gfn es
none_reads_out gfn [] left = tt
none_reads_out gfn (e ∷ es) left = by e.kind (none_reads_out gfn es left.1)
  where
    by : (kind : EventKind) → NoneReadsOut gfn es → LeavesFrom gfn kind es (NoneReadsOut gfn es)
    by (Taken id) rest = left.1
    by _ rest = rest

-- That stays so with one more event before them, if it begins no reading.
reads_none : (gfn : ℕ) (kind : EventKind) (es : List Event) → IsNoTaking kind → NoneReadsOut gfn es → LeavesFrom gfn kind es (NoneReadsOut gfn es)
reads_none gfn (Taken id) es none rest = absurd none
reads_none gfn _ es none rest = rest

-- If no reading takes it out, either nothing does after the first event, or that event begins no reading and what holds is the same after it.
reads_from : (gfn : ℕ) (kind : EventKind) (es : List Event) → LeavesFrom gfn kind es (NoneReadsOut gfn es)
    → (LeavesFrame gfn kind × NoneTakesOut gfn es) ⊎ (IsNoTaking kind × NoneReadsOut gfn es)
reads_from gfn (Taken id) es left = inl (tt, left)
reads_from gfn _ es left = inr (tt, left)

-- ---- from the state after the events back

-- At some moment among these events the frame was being written, its slot is kept since, and the events since are such.
pub record WasSince (Since : List Event → Type 0) (gfn : ℕ) (es : List Event) (f : Flat) : Type 0 where
  pub before : List Event
  pub since : List Event
  pub are : es ≡ before ++ since
  pub actor : Actor
  pub writes : Contains (after_all before f).past.writes (actor, gfn)
  pub kept : SlotKept gfn (after_all before f).facts since
  pub are_such : Since since

was_later : (Since : List Event → Type 0) (gfn : ℕ) (e : Event) (es : List Event) (f : Flat) → WasSince Since gfn es (after e f)
    → WasSince Since gfn (e ∷ es) f
was_later Since gfn e es f W = record {
  before = e ∷ W.before;
  since = W.since;
  are = ap (λ (xs : List Event). e ∷ xs) W.are;
  actor = W.actor;
  writes = W.writes;
  kept = W.kept;
  are_such = W.are_such;
}

was_now : (Since : List Event → Type 0) (gfn : ℕ) (e : Event) (es : List Event) (f : Flat) → WritesNow (after e f).past.writes gfn
    → SlotKept gfn (after e f).facts es → Since es → WasSince Since gfn (e ∷ es) f
was_now Since gfn e es f W kept such =
    record { before = e ∷ []; since = es; are = refl; actor = W.actor; writes = W.has; kept = kept; are_such = such }

-- The frame was written lately before these events, its slot is kept in them, and they are such.
record StoodLately (Since : List Event → Type 0) (gfn : ℕ) (es : List Event) (f : Flat) : Type 0 where
  is : f.past.recent gfn ≡ true
  kept : SlotKept gfn f.facts es
  are_such : Since es

lately_back : (Since : List Event → Type 0) (gfn : ℕ) (e : Event) (es : List Event) (f : Flat) → (IsNoTaking e.kind → Since es → Since (e ∷ es))
    → StoodLately Since gfn es (after e f) → WasSince Since gfn (e ∷ es) f ⊎ StoodLately Since gfn (e ∷ es) f
lately_back Since gfn e es f goes stood = by (recent_was e.actor e.kind f.facts f.past gfn stood.is)
  where
    by : WritesNow (after e f).past.writes gfn ⊎ ((f.past.recent gfn ≡ true) × KeepsSlot gfn f.facts e.kind × IsNoTaking e.kind)
        → WasSince Since gfn (e ∷ es) f ⊎ StoodLately Since gfn (e ∷ es) f
    by (inl now_) = inl (was_now Since gfn e es f now_ stood.kept stood.are_such)
    by (inr was) = inr (record { is = was.0; kept = (was.1, stood.kept); are_such = goes was.2 stood.are_such })

recent_since : (gfn : ℕ) (es : List Event) (f : Flat) → (after_all es f).past.recent gfn ≡ true
    → WasSince NoneIsTaken gfn es f ⊎ StoodLately NoneIsTaken gfn es f
recent_since gfn [] f is = inr (record { is = is; kept = tt; are_such = tt })
recent_since gfn (e ∷ es) f is = by (recent_since gfn es (after e f) is)
  where
    by : WasSince NoneIsTaken gfn es (after e f) ⊎ StoodLately NoneIsTaken gfn es (after e f)
        → WasSince NoneIsTaken gfn (e ∷ es) f ⊎ StoodLately NoneIsTaken gfn (e ∷ es) f
    by (inl W) = inl (was_later NoneIsTaken gfn e es f W)
    by (inr stood) = lately_back NoneIsTaken gfn e es f (λ none rest. (none, rest)) stood

-- The slot that has the frame was armed among these events with each page dirty, it is kept since, and the frame isn't taken out of the log.
pub record ArmedSince (gfn : ℕ) (es : List Event) (f : Flat) : Type 0 where
  pub before : List Event
  pub actor : Actor
  pub id : ℕ
  pub since : List Event
  pub are : es ≡ before ++ (record { actor = actor; kind = Armed id true } ∷ since)
  pub there : has_gfn (slot_of_id id (after_all before f).facts.slots) gfn ≡ true
  pub kept : SlotKept gfn (facts_after (Armed id true) (after_all before f).facts) since
  pub left : NoneTakesOut gfn since

-- where the cause comes from that the frame has after these events
data CauseSince (gfn : ℕ) (es : List Event) (f : Flat) : Type 0 where
  Written : (W : WasSince (NoneReadsOut gfn) gfn es f) → CauseSince gfn es f
  Arming : (A : ArmedSince gfn es f) → CauseSince gfn es f
  Lately : (stood : StoodLately (NoneReadsOut gfn) gfn es f) → CauseSince gfn es f
  Stood : (is : f.past.causes gfn ≡ true) (kept : SlotKept gfn f.facts es) (left : NoneTakesOut gfn es) → CauseSince gfn es f

lately_cause : (gfn : ℕ) (e : Event) (es : List Event) (f : Flat) → StoodLately (NoneReadsOut gfn) gfn es (after e f) → CauseSince gfn (e ∷ es) f
lately_cause gfn e es f stood = by (lately_back (NoneReadsOut gfn) gfn e es f (reads_none gfn e.kind es) stood)
  where
    by : WasSince (NoneReadsOut gfn) gfn (e ∷ es) f ⊎ StoodLately (NoneReadsOut gfn) gfn (e ∷ es) f → CauseSince gfn (e ∷ es) f
    by (inl W) = Written W
    by (inr was) = Lately was

armed_now : (gfn : ℕ) (e : Event) (es : List Event) (f : Flat) → Arms f.facts e.kind gfn → SlotKept gfn (after e f).facts es → NoneTakesOut gfn es
    → ArmedSince gfn (e ∷ es) f
armed_now gfn e es f A kept left = record {
  before = [];
  actor = e.actor;
  id = A.id;
  since = es;
  are = ap (λ (kind : EventKind). record { actor = e.actor; kind = kind } ∷ es) A.kind_is;
  there = A.there;
  kept = subst (λ (kind : EventKind). SlotKept gfn (facts_after kind f.facts) es) A.kind_is kept;
  left = left;
}

armed_later : (gfn : ℕ) (e : Event) (es : List Event) (f : Flat) → ArmedSince gfn es (after e f) → ArmedSince gfn (e ∷ es) f
armed_later gfn e es f A = record {
  before = e ∷ A.before;
  actor = A.actor;
  id = A.id;
  since = A.since;
  are = ap (λ (xs : List Event). e ∷ xs) A.are;
  there = A.there;
  kept = A.kept;
  left = A.left;
}

cause_since : (gfn : ℕ) (es : List Event) (f : Flat) → (after_all es f).past.causes gfn ≡ true → CauseSince gfn es f
cause_since gfn [] f is = Stood is tt tt
cause_since gfn (e ∷ es) f is = by (cause_since gfn es (after e f) is)
  where
    of_event : SlotKept gfn (after e f).facts es → NoneTakesOut gfn es → CauseOf e.actor e.kind f.facts f.past gfn → CauseSince gfn (e ∷ es) f
    of_event kept left (IsWritten now_) = Written (was_now (NoneReadsOut gfn) gfn e es f now_ kept (none_reads_out gfn es left))
    of_event kept left (IsArmed arms) = Arming (armed_now gfn e es f arms kept left)
    of_event kept left (WasThere was keeps leaves) = Stood was (keeps, kept) (leaves, left)
    of_event kept left (WasLately was keeps none) =
        Lately (record { is = was; kept = (keeps, kept); are_such = reads_none gfn e.kind es none (none_reads_out gfn es left) })

    by : CauseSince gfn es (after e f) → CauseSince gfn (e ∷ es) f
    by (Written W) = Written (was_later (NoneReadsOut gfn) gfn e es f W)
    by (Arming A) = Arming (armed_later gfn e es f A)
    by (Lately stood) = lately_cause gfn e es f stood
    by (Stood there kept left) = of_event kept left (cause_of e.actor e.kind f.facts f.past gfn there)

-- Where the frame was in neither set before the events, it was written or armed among them.
pub only_recent : (gfn : ℕ) (es : List Event) (f : Flat) → (f.past.recent gfn ≡ true → ⊥) → (after_all es f).past.recent gfn ≡ true
    → WasSince NoneIsTaken gfn es f
only_recent gfn es f none is = by (recent_since gfn es f is)
  where
    by : WasSince NoneIsTaken gfn es f ⊎ StoodLately NoneIsTaken gfn es f → WasSince NoneIsTaken gfn es f
    by (inl W) = W
    by (inr stood) = absurd (none stood.is)

pub only_cause : (gfn : ℕ) (es : List Event) (f : Flat) → (f.past.recent gfn ≡ true → ⊥) → (f.past.causes gfn ≡ true → ⊥)
    → (after_all es f).past.causes gfn ≡ true → WasSince (NoneReadsOut gfn) gfn es f ⊎ ArmedSince gfn es f
only_cause gfn es f no_recent no_cause is = by (cause_since gfn es f is)
  where
    by : CauseSince gfn es f → WasSince (NoneReadsOut gfn) gfn es f ⊎ ArmedSince gfn es f
    by (Written W) = inl W
    by (Arming A) = inr A
    by (Lately stood) = absurd (no_recent stood.is)
    by (Stood there kept left) = absurd (no_cause there)

-- ---- from the state before the events on

recent_stays : (gfn : ℕ) (es : List Event) (f : Flat) → SlotKept gfn f.facts es → NoneIsTaken es → f.past.recent gfn ≡ true
    → (after_all es f).past.recent gfn ≡ true
recent_stays gfn [] f kept none is = is
recent_stays gfn (e ∷ es) f kept none is =
    recent_stays gfn es (after e f) kept.1 none.1 (recent_keep e.actor e.kind f.facts f.past gfn kept.0 none.0 is)

causes_stays : (gfn : ℕ) (es : List Event) (f : Flat) → SlotKept gfn f.facts es → NoneTakesOut gfn es → f.past.causes gfn ≡ true
    → (after_all es f).past.causes gfn ≡ true
causes_stays gfn [] f kept left is = is
causes_stays gfn (e ∷ es) f kept left is =
    causes_stays gfn es (after e f) kept.1 left.1 (causes_keep e.actor e.kind f.facts f.past gfn kept.0 left.0 is)

-- A frame in both sets keeps its cause until a reading begins, whatever is taken out, and from then on if it isn't taken out.
both_stay : (gfn : ℕ) (es : List Event) (f : Flat) → SlotKept gfn f.facts es → NoneReadsOut gfn es → (f.past.recent gfn ≡ true) × (f.past.causes gfn ≡ true)
    → (after_all es f).past.causes gfn ≡ true
both_stay gfn [] f kept left both = both.1
both_stay gfn (e ∷ es) f kept left both = by (reads_from gfn e.kind es left) (λ rest both_after. both_stay gfn es (after e f) kept.1 rest both_after)
  where
    by : (LeavesFrame gfn e.kind × NoneTakesOut gfn es) ⊎ (IsNoTaking e.kind × NoneReadsOut gfn es)
        → (NoneReadsOut gfn es → ((after e f).past.recent gfn ≡ true) × ((after e f).past.causes gfn ≡ true)
        → (after_all es (after e f)).past.causes gfn ≡ true)
        → (after_all es (after e f)).past.causes gfn ≡ true
    by (inl out) rest = causes_stays gfn es (after e f) kept.1 out.1 (causes_keep e.actor e.kind f.facts f.past gfn kept.0 out.0 both.1)
    by (inr later) rest =
        rest later.1 (
          recent_keep e.actor e.kind f.facts f.past gfn kept.0 later.0 both.0,
          causes_stay e.actor e.kind f.facts f.past gfn kept.0 both.0 both.1,
        )

all_in_both : (gfn : ℕ) (es : List Event) (f : Flat) → IsInBoth f.past gfn → IsInBoth (after_all es f).past gfn
all_in_both gfn [] f all = all
all_in_both gfn (e ∷ es) f all = all_in_both gfn es (after e f) (in_both e.actor e.kind f.facts f.past gfn all)

-- Where a frame that is being written is in both sets before the events, one that was written among them is there after them.
pub recent_stands : (gfn : ℕ) (es : List Event) (f : Flat) → IsInBoth f.past gfn → WasSince NoneIsTaken gfn es f → (after_all es f).past.recent gfn ≡ true
recent_stands gfn es f all W =
    let first = after_all W.before f in
    let there = all_in_both gfn W.before f all W.actor W.writes in
    ap (λ (xs : List Event). (after_all xs f).past.recent gfn) W.are
    ∙ ap (λ (end : Flat). end.past.recent gfn) (after_append W.before W.since f)
    ∙ recent_stays gfn W.since first W.kept W.are_such there.0

pub cause_stands : (gfn : ℕ) (es : List Event) (f : Flat) → IsInBoth f.past gfn → WasSince (NoneReadsOut gfn) gfn es f
    → (after_all es f).past.causes gfn ≡ true
cause_stands gfn es f all W =
    let first = after_all W.before f in
    ap (λ (xs : List Event). (after_all xs f).past.causes gfn) W.are
    ∙ ap (λ (end : Flat). end.past.causes gfn) (after_append W.before W.since f)
    ∙ both_stay gfn W.since first W.kept W.are_such (all_in_both gfn W.before f all W.actor W.writes)

pub armed_stands : (gfn : ℕ) (es : List Event) (f : Flat) → ArmedSince gfn es f → (after_all es f).past.causes gfn ≡ true
armed_stands gfn es f A =
    let arming : Event = record { actor = A.actor; kind = Armed A.id true } in
    let first = after_all A.before f in
    ap (λ (xs : List Event). (after_all xs f).past.causes gfn) A.are
    ∙ ap (λ (end : Flat). end.past.causes gfn) (after_append A.before (arming ∷ A.since) f)
    ∙ causes_stays gfn A.since (after arming first) A.kept A.left (armed_there A.actor A.id first.facts first.past gfn A.there)
