-- The accesses of an actor in a lawful history are what lines ask for that it begins in it.
use Rattle.std.proofs.Common.{◌≡◌, inl, inr, ℕ, Bool, true, false, List, [], ◌∷◌, ◌++◌, refl, sym, ap, ◌∙◌, subst}
use Rattle.std.specs.Prelude.{Option, Some, None, if◌then◌else◌}
use Rattle.std.specs.Map.{keys_of}
use Rattle.core_views.specs.declared.actor.Actor.{Actor}
use Rattle.core_views.specs.declared.event.Event.{Event}
use Rattle.core_views.specs.declared.event.EventKind.{EventKind}
use Rattle.core_views.specs.declared.event.EventKind.TheVariants.{Begun, LookedAtPause, LookedAtSlots, LookedAtHost, BroughtIn, Accessed}
use Rattle.core_views.specs.declared.event.EventKind.TheVariants.{Taken, Harvested}
use Rattle.core_views.specs.declared.event.EventKind.TheVariants.{GuestStopped, HostChanged, WordCopied}
use Rattle.core_views.specs.declared.sizes.Sizes.{Sizes}
use Rattle.core_views.specs.declared.trace.Line.{Line}
use Rattle.core_views.specs.Actors.{is_same}
use Rattle.core_views.specs.Events.{after, facts_after, logs_left, stage_copied, stage_read, stage_taken, to_read_or_copy, under_after}
use Rattle.core_views.specs.Flat.{Facts, Flat, Fresh, HasTakenNext, HasToCopy, LineUnderWay, Stage}
use Rattle.core_views.specs.Lawful.{IsAllowed, IsLawful}
use Rattle.core_views.specs.LogCommands.{log_read}
use Rattle.core_views.specs.Past.{Past}
use Rattle.core_views.specs.Whole.{lines_begun, lines_of, or_begun}
use Rattle.core_views.proofs.SameActor.{is_same_self, same_is}
use Rattle.word_laws.specs.Accesses.{AccessesAreAsked, AreAskedBy, Made, accesses_by, made_by}
use Rattle.word_laws.proofs.UnderWay.{other_under, own_under}
use Rattle.core_views.proofs.RunStages.{each_change}

-- the line that may still make its access: one that has done nothing yet
abbrev waiting_at : Line → Stage → List Line
waiting_at line Fresh = line ∷ []
waiting_at line _ = []

abbrev waiting : LineUnderWay → List Line
waiting u = waiting_at u.line u.stage

abbrev begun_by : EventKind → List Line
begun_by (Begun line) = line ∷ []
begun_by _ = []

-- ---- stages at which no line waits

taken_waits : (line : Line) (log : Option ℕ) (left : List ℕ) (id : ℕ) → waiting_at line (stage_taken log left id) ≡ []
taken_waits line None left id = refl
taken_waits line (Some other) left id = refl

next_waits : (line : Line) (ids : List ℕ) (f : Facts) → waiting_at line (to_read_or_copy ids f) ≡ []
next_waits line [] f = refl
next_waits line (id ∷ ids) f = refl

read_waits : (line : Line) (stage : Stage) (frames : List ℕ) (f : Facts) → waiting_at line (stage_read stage frames f) ≡ []
read_waits line (HasTakenNext id ids) frames f = next_waits line ids f
read_waits line _ frames f = refl

copied_waits : (line : Line) (whole : Bool) (frames : List ℕ) (count word : ℕ) → waiting_at line (stage_copied whole (HasToCopy frames count word)) ≡ []
copied_waits line false frames count word = refl
copied_waits line true (frame ∷ frames) count word = refl
copied_waits line true [] count word = refl

-- ---- an event

-- A line that waits needn't make an access.
skips : (line : Line) (stage : Stage) (later : List Line) (made : List Made) → AreAskedBy later made → AreAskedBy (waiting_at line stage ++ later) made
skips line Fresh later made asked = inl asked
skips line _ later made asked = asked

no_longer : (u then_ : LineUnderWay) (later : List Line) (made : List Made) → waiting then_ ≡ [] → AreAskedBy (waiting then_ ++ later) made
    → AreAskedBy (waiting u ++ later) made
no_longer u then_ later made none asked =
    skips u.line u.stage later made (subst (λ (ls : List Line). AreAskedBy (ls ++ later) made) none asked)

own_asked : (z : Sizes) (f : Facts) (past : Past) (actor : Actor) (u : LineUnderWay) (kind : EventKind) (later : List Line) (made : List Made)
    → IsAllowed z f past actor u kind → AreAskedBy (waiting (under_after kind f u) ++ later) made
    → AreAskedBy (waiting u ++ (begun_by kind ++ later)) (made_by u.line kind ++ made)
own_asked z f past actor u (Begun line) later made may asked =
    subst (λ (s : Stage). AreAskedBy (waiting_at u.line s ++ (line ∷ later)) made) (sym may.0) asked
own_asked z f past actor u LookedAtPause later made may asked = asked
own_asked z f past actor u LookedAtSlots later made may asked = asked
own_asked z f past actor u (LookedAtHost page) later made may asked = asked
own_asked z f past actor u (BroughtIn page) later made may asked = asked
own_asked z f past actor u (Accessed gfn word op frame before) later made may asked =
    subst (λ (s : Stage). AreAskedBy (waiting_at u.line s ++ later) (made_by u.line (Accessed gfn word op frame before) ++ made)) (sym may.0)
    (inr (record { line = u.line; gfn = gfn; word = word; op = op; frame = frame; value = before }, made, refl, (refl, may.1), asked))
own_asked z f past actor u (Taken id) later made may asked =
    no_longer u (under_after (Taken id) f u) later made
    (taken_waits u.line (log_read u.line.command) (logs_left f.slots u.line.command u.stage) id) asked
own_asked z f past actor u (Harvested id frames) later made may asked =
    no_longer u (under_after (Harvested id frames) f u) later made (read_waits u.line u.stage frames (facts_after (Harvested id frames) f)) asked
own_asked z f past actor u GuestStopped later made may asked =
    no_longer u (under_after GuestStopped f u) later made (next_waits u.line (keys_of f.slots) (facts_after GuestStopped f)) asked
own_asked z f past actor u (WordCopied gfn page word value whole) later made may asked =
    no_longer u (under_after (WordCopied gfn page word value whole) f u) later made
    (ap (λ (s : Stage). waiting_at u.line (stage_copied whole s)) may.left ∙ copied_waits u.line whole (gfn ∷ may.frames) may.count word) asked
own_asked z f past actor u (HostChanged page entry) later made may asked =
    no_longer u (under_after (HostChanged page entry) f u) later made
    (each_change (λ s. waiting_at u.line s ≡ []) (λ e. refl) (λ p l n. refl) u.line.command f.host u.stage page entry) asked
own_asked z f past actor u _ later made may asked = skips u.line u.stage later made asked

-- The lines that the actor begins with an event, and those that it begins later.
own_begun : (z : Sizes) (f : Facts) (past : Past) (actor : Actor) (u : LineUnderWay) (kind : EventKind) (more : List Line) → IsAllowed z f past actor u kind
    → lines_of actor (or_begun kind more) ≡ begun_by kind ++ lines_of actor more
own_begun z f past actor u (Begun line) more may =
    let same : is_same actor line.actor ≡ true = ap (is_same actor) may.1 ∙ is_same_self actor in
    rw same refl
own_begun z f past actor u _ more may = refl

other_begun : (z : Sizes) (f : Facts) (past : Past) (actor doer : Actor) (u : LineUnderWay) (kind : EventKind) (more : List Line)
    → IsAllowed z f past doer u kind → is_same actor doer ≡ false → lines_of actor (or_begun kind more) ≡ lines_of actor more
other_begun z f past actor doer u (Begun line) more may apart =
    let other : is_same actor line.actor ≡ false = ap (is_same actor) may.1 ∙ apart in
    rw other refl
other_begun z f past actor doer u _ more may apart = refl

-- ---- a history

-- From any state on: the line that may still make its access may ask for the first one.
abbrev Asked : Actor → List Event → Flat → Type 0
Asked actor history f = AreAskedBy (waiting (f.under actor) ++ lines_of actor (lines_begun history)) (accesses_by actor history f)

one_more : (z : Sizes) (actor : Actor) (e : Event) (es : List Event) (f : Flat) → IsLawful z f (e ∷ es) → Asked actor es (after e f) → Asked actor (e ∷ es) f
one_more z actor e es f lawful asked = by (is_same actor e.actor) refl
  where
    by : (b : Bool) → is_same actor e.actor ≡ b
        → AreAskedBy (waiting (f.under actor) ++ lines_of actor (or_begun e.kind (lines_begun es)))
        ((if b then made_by (f.under actor).line e.kind else []) ++ accesses_by actor es (after e f))
    by false apart =
        subst (λ (lines : List Line). AreAskedBy (waiting (f.under actor) ++ lines) (accesses_by actor es (after e f)))
        (sym (other_begun z f.facts f.past actor e.actor (f.under e.actor) e.kind (lines_begun es) lawful.0 apart))
        (subst (λ (u : LineUnderWay). AreAskedBy (waiting u ++ lines_of actor (lines_begun es)) (accesses_by actor es (after e f)))
        (other_under actor e f apart) asked)
    by true is =
        let same : actor ≡ e.actor = same_is actor e.actor is in
        let may : IsAllowed z f.facts f.past actor (f.under actor) e.kind =
        subst (λ (x : Actor). IsAllowed z f.facts f.past x (f.under x) e.kind) (sym same) lawful.0 in
        let asked_then : AreAskedBy (waiting (under_after e.kind f.facts (f.under actor)) ++ lines_of actor (lines_begun es))
        (accesses_by actor es (after e f)) =
        subst (λ (u : LineUnderWay). AreAskedBy (waiting u ++ lines_of actor (lines_begun es)) (accesses_by actor es (after e f)))
        (own_under actor e f same) asked in
        subst (λ (lines : List Line). AreAskedBy (waiting (f.under actor) ++ lines)
        (made_by (f.under actor).line e.kind ++ accesses_by actor es (after e f)))
        (sym (own_begun z f.facts f.past actor (f.under actor) e.kind (lines_begun es) may))
        (own_asked z f.facts f.past actor (f.under actor) e.kind (lines_of actor (lines_begun es)) (accesses_by actor es (after e f)) may asked_then)

all_asked : (z : Sizes) (actor : Actor) (history : List Event) (f : Flat) → IsLawful z f history → Asked actor history f
all_asked z actor [] f lawful = skips (f.under actor).line (f.under actor).stage [] [] refl
all_asked z actor (e ∷ es) f lawful = one_more z actor e es f lawful (all_asked z actor es (after e f) lawful.1)

pub accesses_are_asked : AccessesAreAsked
accesses_are_asked z f history actor lawful idle =
    subst (λ (s : Stage). AreAskedBy (waiting_at (f.under actor).line s ++ lines_of actor (lines_begun history)) (accesses_by actor history f)) idle
    (all_asked z actor history f lawful)
