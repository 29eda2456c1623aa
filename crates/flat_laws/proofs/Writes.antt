-- The writes under way are those of the lines under way: one event at a time.
use Rattle.std.proofs.Common.{◌≡◌, ◌⊎◌, inl, inr, ◌<◌, ℕ, zero, suc, List, [], ◌∷◌, ◌++◌, length, Bool, true, false, cond, refl, sym, ap, ◌∙◌, subst, arith}
use Rattle.std.specs.Prelude.{Contains, filter, not, Option, Some, None, slice_index_or}
use Rattle.std.proofs.lemmas.List.Elements.{All-contains, All-contains_itself, All-filter, filter_passes}
use Rattle.core_views.specs.declared.actor.Actor.{Actor}
use Rattle.core_views.specs.declared.event.Event.{Event}
use Rattle.core_views.specs.declared.event.EventKind.{EventKind}
use Rattle.core_views.specs.declared.event.EventKind.TheVariants.{Begun, SlotChanged, Answered}
use Rattle.core_views.specs.declared.sizes.Sizes.{Sizes}
use Rattle.core_views.specs.declared.trace.Line.{Line}
use Rattle.core_views.specs.Actors.{is_same}
use Rattle.core_views.specs.Past.{Past, of_others, past_begun, written_frame}
use Rattle.core_views.specs.Flat.{Facts, Flat, LineUnderWay, first_flat}
use Rattle.core_views.specs.Events.{after, after_all, under_after, past_after}
use Rattle.core_views.specs.Lawful.{IsAllowed, IsLawful}
use Rattle.core_views.specs.Alone.{IsInside}
use Rattle.flat_laws.specs.Writes.{StaysWithin, HasBegunWrite, IsWriting}
use Rattle.core_views.proofs.SameActor.{is_same_self, same_is}
use Rattle.flat_laws.proofs.StagesGoOn.{is_busy, was_busy}

pub apart_actors : {X : Type 0} (a b : Actor) → is_same a b ≡ false → a ≡ b → X
apart_actors a b apart is = let same : is_same a b ≡ true = ap (is_same a) (sym is) ∙ is_same_self a in absurd (cc (apart, same))

-- What a list has, with one more in front, or filtered.

pub first_in : {X : Type 0} (x : X) (ys : List X) → Contains (x ∷ ys) x
first_in x ys = (0, omega arith, refl)

pub later_in : {X : Type 0} (y : X) (ys : List X) (x : X) → Contains ys x → Contains (y ∷ ys) x
later_in y ys x has = (suc has.0, omega (arith, has.1), has.2)

cons_at : {X : Type 0} (y : X) (ys : List X) (x : X) (k : ℕ) → k < suc (length ys) → slice_index_or (y ∷ ys) k x ≡ x → (y ≡ x) ⊎ Contains ys x
cons_at y ys x zero lt is = inl is
cons_at y ys x (suc k) lt is = inr (k, omega arith, is)

pub cons_cases : {X : Type 0} (y : X) (ys : List X) (x : X) → Contains (y ∷ ys) x → (y ≡ x) ⊎ Contains ys x
cons_cases y ys x has = cons_at y ys x has.0 has.1 has.2

pub filter_in : {X : Type 0} (test : X → Bool) (ys : List X) (x : X) → Contains ys x → test x ≡ true → Contains (filter test ys) x
filter_in test [] x has passes = absurd (omega (arith, has.1))
filter_in test (y ∷ ys) x has passes = by (test y) refl (cons_cases y ys x has) (λ later. filter_in test ys x later passes)
  where
    by : (b : Bool) → test y ≡ b → (y ≡ x) ⊎ Contains ys x → (Contains ys x → Contains (filter test ys) x)
        → Contains (cond b (y ∷ filter test ys) (filter test ys)) x
    by true is (inl e) rest = subst (λ first. Contains (first ∷ filter test ys) x) (sym e) (first_in x (filter test ys))
    by false is (inl e) rest = let fails : test y ≡ true = ap test e ∙ passes in absurd (cc (fails, is))
    by true is (inr later) rest = later_in y (filter test ys) x (rest later)
    by false is (inr later) rest = rest later

pub filtered : {X : Type 0} (test : X → Bool) (ys : List X) (x : X) → Contains (filter test ys) x → Contains ys x × (test x ≡ true)
filtered test ys x has = (
  All-contains (Contains ys) (filter test ys) x (All-filter test (Contains ys) ys (All-contains_itself ys)) has,
  All-contains (λ y. test y ≡ true) (filter test ys) x (filter_passes test ys) has,
)

-- the writes of an actor, among those of the others than another

others_keep : (a actor : Actor) (writes : List (Actor × ℕ)) (gfn : ℕ) → is_same a actor ≡ false → Contains writes (actor, gfn)
    → Contains (of_others a writes) (actor, gfn)
others_keep a actor writes gfn apart has = filter_in (λ write. not (is_same a write.0)) writes (actor, gfn) has (ap not apart)

pub of_another : (a actor : Actor) (writes : List (Actor × ℕ)) (gfn : ℕ) → Contains (of_others a writes) (actor, gfn)
    → Contains writes (actor, gfn) × (is_same a actor ≡ false)
of_another a actor writes gfn has = let both = filtered (λ write. not (is_same a write.0)) writes (actor, gfn) has in (both.0, by (is_same a actor) both.1)
  where
    by : (same : Bool) → not same ≡ true → same ≡ false
    by true e = absurd (cc e)
    by false e = refl

-- whether a write of an actor is under way after an event that is the actor's or not, where it was so or not before
abbrev pub StandsAfter : EventKind → Bool → ℕ → Type 0 → Type 0
StandsAfter (Begun line) true gfn before = written_frame line.command ≡ Some gfn
StandsAfter (Answered number answer) true gfn before = ⊥
StandsAfter _ _ gfn before = before

-- An event of another actor changes nothing in it.
of_other : (kind : EventKind) (gfn : ℕ) (before : Type 0) → StandsAfter kind false gfn before → before
of_other (Begun line) gfn before stands = stands
of_other (Answered number answer) gfn before stands = stands
of_other _ gfn before stands = stands

begun_in : (a actor : Actor) (frame : Option ℕ) (past : Past) (gfn : ℕ) (same : Bool) → is_same a actor ≡ same
    → Contains (past_begun a frame past).writes (actor, gfn)
    → cond same (frame ≡ Some gfn) (Contains past.writes (actor, gfn))
begun_in a actor None past gfn true is has = let apart = (of_another a actor past.writes gfn has).1 in absurd (cc (is, apart))
begun_in a actor None past gfn false is has = (of_another a actor past.writes gfn has).0
begun_in a actor (Some frame) past gfn same is has = by same is (cons_cases (a, frame) (of_others a past.writes) (actor, gfn) has)
  where
    by : (same : Bool) → is_same a actor ≡ same → ◌≡◌ {A = Actor × ℕ} (a, frame) (actor, gfn) ⊎ Contains (of_others a past.writes) (actor, gfn)
        → cond same (Some frame ≡ Some gfn) (Contains past.writes (actor, gfn))
    by true is (inl e) = ap (λ (write : Actor × ℕ). Some write.1) e
    by true is (inr later) = let apart = (of_another a actor past.writes gfn later).1 in absurd (cc (is, apart))
    by false is (inl e) = apart_actors a actor is (ap (λ (write : Actor × ℕ). write.0) e)
    by false is (inr later) = (of_another a actor past.writes gfn later).0

pub stands_after : (a actor : Actor) (kind : EventKind) (f : Facts) (past : Past) (gfn : ℕ) (same : Bool) → is_same a actor ≡ same
    → Contains (past_after a kind f past).writes (actor, gfn) → StandsAfter kind same gfn (Contains past.writes (actor, gfn))
stands_after a actor (Begun line) f past gfn true is has = begun_in a actor (written_frame line.command) past gfn true is has
stands_after a actor (Begun line) f past gfn false is has = begun_in a actor (written_frame line.command) past gfn false is has
stands_after a actor (Answered number answer) f past gfn true is has = let apart = (of_another a actor past.writes gfn has).1 in absurd (cc (is, apart))
stands_after a actor (Answered number answer) f past gfn false is has = (of_another a actor past.writes gfn has).0
stands_after a actor (SlotChanged id slot) f past gfn same is has = has
stands_after a actor _ f past gfn same is has = has

-- A write under way stays so, unless its actor begins a line or is answered.
still_in : (a actor : Actor) (kind : EventKind) (f : Facts) (past : Past) (gfn : ℕ) → (a ≡ actor → IsInside kind) → Contains past.writes (actor, gfn)
    → Contains (past_after a kind f past).writes (actor, gfn)
still_in a actor (Begun line) f past gfn within has = by (is_same a actor) refl (written_frame line.command)
  where
    by : (same : Bool) → is_same a actor ≡ same → (frame : Option ℕ) → Contains (past_begun a frame past).writes (actor, gfn)
    by true is frame = absurd (within (same_is a actor is))
    by false is None = others_keep a actor past.writes gfn is has
    by false is (Some frame) = later_in (a, frame) (of_others a past.writes) (actor, gfn) (others_keep a actor past.writes gfn is has)
still_in a actor (Answered number answer) f past gfn within has = by (is_same a actor) refl
  where
    by : (same : Bool) → is_same a actor ≡ same → Contains (of_others a past.writes) (actor, gfn)
    by true is = absurd (within (same_is a actor is))
    by false is = others_keep a actor past.writes gfn is has
still_in a actor (SlotChanged id slot) f past gfn within has = has
still_in a actor _ f past gfn within has = has

-- the write of a line that begins
pub begins_in : (actor : Actor) (line : Line) (f : Facts) (past : Past) (gfn : ℕ) → written_frame line.command ≡ Some gfn
    → Contains (past_after actor (Begun line) f past).writes (actor, gfn)
begins_in actor line f past gfn writes =
    subst (λ frame. Contains (past_begun actor frame past).writes (actor, gfn)) (sym writes) (first_in (actor, gfn) (of_others actor past.writes))

-- over a list of events, from any state

goes_with : (actor : Actor) (gfn : ℕ) (a : Actor) (kind : EventKind) (es : List Event) (before : Type 0) (same : Bool) → is_same a actor ≡ same
    → StandsAfter kind same gfn before → StaysWithin actor es
    → HasBegunWrite (record { actor = a; kind = kind } ∷ es) actor gfn ⊎ (before × StaysWithin actor (record { actor = a; kind = kind } ∷ es))
goes_with actor gfn a (Begun line) es before true is stands goes =
    inl (record {
      before = [];
      line = line;
      since = es;
      history_is = ap (λ (x : Actor). record { actor = x; kind = Begun line } ∷ es) (same_is a actor is);
      writes = stands;
      within = goes;
    })
goes_with actor gfn a (Begun line) es before false is stands goes = inr (stands, (λ e. apart_actors a actor is e, goes))
goes_with actor gfn a (Answered number answer) es before true is stands goes = absurd stands
goes_with actor gfn a (Answered number answer) es before false is stands goes =
    inr (stands, (λ e. apart_actors a actor is e, goes))
goes_with actor gfn a _ es before same is stands goes = inr (stands, (λ e. tt, goes))

pub begun_or_stood : (actor : Actor) (gfn : ℕ) (es : List Event) (f : Flat) → Contains (after_all es f).past.writes (actor, gfn)
    → HasBegunWrite es actor gfn ⊎ (Contains f.past.writes (actor, gfn) × StaysWithin actor es)
begun_or_stood actor gfn [] f has = inr (has, tt)
begun_or_stood actor gfn (e ∷ es) f has = by (begun_or_stood actor gfn es (after e f) has)
  where
    by : HasBegunWrite es actor gfn ⊎ (Contains (after e f).past.writes (actor, gfn) × StaysWithin actor es)
        → HasBegunWrite (e ∷ es) actor gfn ⊎ (Contains f.past.writes (actor, gfn) × StaysWithin actor (e ∷ es))
    by (inl B) =
        inl (record {
          before = e ∷ B.before;
          line = B.line;
          since = B.since;
          history_is = ap (λ (xs : List Event). e ∷ xs) B.history_is;
          writes = B.writes;
          within = B.within;
        })
    by (inr stood) =
        goes_with actor gfn e.actor e.kind es (Contains f.past.writes (actor, gfn)) (is_same e.actor actor) refl
        (stands_after e.actor actor e.kind f.facts f.past gfn (is_same e.actor actor) refl stood.0) stood.1

stays_in : (actor : Actor) (gfn : ℕ) (es : List Event) (f : Flat) → StaysWithin actor es → Contains f.past.writes (actor, gfn)
    → Contains (after_all es f).past.writes (actor, gfn)
stays_in actor gfn [] f goes has = has
stays_in actor gfn (e ∷ es) f goes has = stays_in actor gfn es (after e f) goes.1 (still_in e.actor actor e.kind f.facts f.past gfn goes.0 has)

begun_stands : (actor : Actor) (gfn : ℕ) (before : List Event) (line : Line) (since : List Event) (f : Flat) → written_frame line.command ≡ Some gfn
    → StaysWithin actor since
    → Contains (after_all (before ++ (record { actor = actor; kind = Begun line } ∷ since)) f).past.writes (actor, gfn)
begun_stands actor gfn [] line since f writes goes =
    stays_in actor gfn since (after (record { actor = actor; kind = Begun line }) f) goes (begins_in actor line f.facts f.past gfn writes)
begun_stands actor gfn (e ∷ es) line since f writes goes = begun_stands actor gfn es line since (after e f) writes goes

pub begun_is_in : (history : List Event) (actor : Actor) (gfn : ℕ) (f : Flat) → HasBegunWrite history actor gfn
    → Contains (after_all history f).past.writes (actor, gfn)
begun_is_in history actor gfn f B =
    subst (λ (es : List Event). Contains (after_all es f).past.writes (actor, gfn)) (sym B.history_is)
    (begun_stands actor gfn B.before B.line B.since f B.writes B.within)

-- The writes are those of the lines under way.
pub record AreOfLines (f : Flat) : Type 0 where
  pub is_writing : (actor : Actor) (gfn : ℕ) → Contains f.past.writes (actor, gfn) → IsWriting (f.under actor) gfn
  pub is_in : (actor : Actor) (gfn : ℕ) → IsWriting (f.under actor) gfn → Contains f.past.writes (actor, gfn)

-- What a lawful event makes of its actor's line, and of whether this is a write under way.
line_writes : (z : Sizes) (f : Facts) (past : Past) (actor : Actor) (u : LineUnderWay) (kind : EventKind) (gfn : ℕ) → IsAllowed z f past actor u kind
    → StandsAfter kind true gfn (IsWriting u gfn) → IsWriting (under_after kind f u) gfn
line_writes z f past actor u (Begun line) gfn may stands = (λ e. absurd (cc e), stands)
line_writes z f past actor u (Answered number answer) gfn may stands = absurd stands
line_writes z f past actor u kind gfn may stands = (is_busy z f past actor u kind tt may stands.0, stands.1)

line_wrote : (z : Sizes) (f : Facts) (past : Past) (actor : Actor) (u : LineUnderWay) (kind : EventKind) (gfn : ℕ) → IsAllowed z f past actor u kind
    → IsWriting (under_after kind f u) gfn → StandsAfter kind true gfn (IsWriting u gfn)
line_wrote z f past actor u (Begun line) gfn may writes = writes.1
line_wrote z f past actor u (Answered number answer) gfn may writes = writes.0 refl
line_wrote z f past actor u kind gfn may writes = (was_busy z f past actor u kind tt may, writes.1)

-- An event of the actor itself: what stands after it is in the list.
stands_in : (a : Actor) (kind : EventKind) (f : Facts) (past : Past) (gfn : ℕ) → StandsAfter kind true gfn (Contains past.writes (a, gfn))
    → Contains (past_after a kind f past).writes (a, gfn)
stands_in a (Begun line) f past gfn stands = begins_in a line f past gfn stands
stands_in a (Answered number answer) f past gfn stands = absurd stands
stands_in a (SlotChanged id slot) f past gfn stands = stands
stands_in a _ f past gfn stands = stands

stands_both : (kind : EventKind) (gfn : ℕ) (first second : Type 0) → (first → second) → StandsAfter kind true gfn first → StandsAfter kind true gfn second
stands_both (Begun line) gfn first second leads stands = stands
stands_both (Answered number answer) gfn first second leads stands = stands
stands_both _ gfn first second leads stands = leads stands

pub are_after : (z : Sizes) (e : Event) (f : Flat) → IsAllowed z f.facts f.past e.actor (f.under e.actor) e.kind → AreOfLines f → AreOfLines (after e f)
are_after z e f may are = record {
  is_writing = λ actor gfn has. writing_by actor gfn (is_same e.actor actor) refl has;
  is_in = λ actor gfn writes. in_by actor gfn (is_same e.actor actor) refl writes;
}
  where
    In : Actor → ℕ → Type 0
    In actor gfn = Contains (past_after e.actor e.kind f.facts f.past).writes (actor, gfn)

    behind : LineUnderWay
    behind = under_after e.kind f.facts (f.under e.actor)

    own_writing : (gfn : ℕ) → In e.actor gfn → IsWriting behind gfn
    own_writing gfn has =
        line_writes z f.facts f.past e.actor (f.under e.actor) e.kind gfn may
        (stands_both e.kind gfn (Contains f.past.writes (e.actor, gfn)) (IsWriting (f.under e.actor) gfn) (are.is_writing e.actor gfn)
        (stands_after e.actor e.actor e.kind f.facts f.past gfn true (is_same_self e.actor) has))

    own_in : (gfn : ℕ) → IsWriting behind gfn → In e.actor gfn
    own_in gfn writes =
        stands_in e.actor e.kind f.facts f.past gfn
        (stands_both e.kind gfn (IsWriting (f.under e.actor) gfn) (Contains f.past.writes (e.actor, gfn)) (are.is_in e.actor gfn)
        (line_wrote z f.facts f.past e.actor (f.under e.actor) e.kind gfn may writes))

    writing_by : (actor : Actor) (gfn : ℕ) (same : Bool) → is_same e.actor actor ≡ same → In actor gfn → IsWriting (cond same behind (f.under actor)) gfn
    writing_by actor gfn true is has = own_writing gfn (subst (λ x. In x gfn) (sym (same_is e.actor actor is)) has)
    writing_by actor gfn false is has =
        are.is_writing actor gfn (of_other e.kind gfn (Contains f.past.writes (actor, gfn)) (stands_after e.actor actor e.kind f.facts f.past gfn false is has))

    in_by : (actor : Actor) (gfn : ℕ) (same : Bool) → is_same e.actor actor ≡ same → IsWriting (cond same behind (f.under actor)) gfn → In actor gfn
    in_by actor gfn true is writes = subst (λ x. In x gfn) (same_is e.actor actor is) (own_in gfn writes)
    in_by actor gfn false is writes = still_in e.actor actor e.kind f.facts f.past gfn (λ same. apart_actors e.actor actor is same) (are.is_in actor gfn writes)

pub all_of_lines : (z : Sizes) (es : List Event) (f : Flat) → IsLawful z f es → AreOfLines f → AreOfLines (after_all es f)
all_of_lines z [] f lawful are = are
all_of_lines z (e ∷ es) f lawful are = all_of_lines z es (after e f) lawful.1 (are_after z e f lawful.0 are)

-- At the start no line is under way.
pub none_at_first : {X : Type 0} (actor : Actor) (gfn : ℕ) → Contains first_flat.past.writes (actor, gfn) → X
none_at_first actor gfn has = absurd (omega (arith, has.1))

pub first_of_lines : AreOfLines first_flat
first_of_lines = record { is_writing = λ actor gfn has. none_at_first actor gfn has; is_in = λ actor gfn writes. absurd (writes.0 refl) }
