-- What a line of a migration does next, alone: each event of its own that is allowed is the next one of the flat history.
use Rattle.std.proofs.Common.{◌≡◌, ℕ, zero, suc, List, [], ◌∷◌, ◌++◌, ◌+◌, ◌-◌, Bool, true, false, refl, sym, ap, ◌∙◌, subst, arith}
use Rattle.std.specs.Prelude.{Option, None, nat_le, unwrap_or}
use Rattle.std.specs.Map.{keys_of}
use Rattle.std.proofs.lemmas.Bool.Decides.{nat_tests}
use Rattle.core_views.specs.declared.event.Event.{Event}
use Rattle.core_views.specs.declared.event.EventKind.TheVariants.{Taken, GuestStopped, MigrationStarted, PauseSet, Resumed, WordCopied}
use Rattle.core_views.specs.declared.sizes.Sizes.{Sizes}
use Rattle.core_views.specs.declared.trace.Command.{Command}
use Rattle.core_views.specs.declared.trace.Command.TheVariants.{Access, ChangeHost, ChangeRun, ClearLog, DeleteSlot, GetLog, Migrate, SetLog, SetSlot, Split}
use Rattle.core_views.specs.declared.trace.Line.{Line}
use Rattle.core_views.specs.declared.trace.MigrationCall.TheVariants.{Start, Round, Finish, Resume}
use Rattle.core_views.specs.Past.{Past}
use Rattle.core_views.specs.Flat.{Facts, LineUnderWay, Stage, Fresh, HasTakenNext, HasToCopy, HasToRead}
use Rattle.core_views.specs.Events.{facts_after, facts_after_all, logs_left, stage_copied, stage_taken, to_read_or_copy, under_after}
use Rattle.core_views.specs.Lawful.{HasWork, IsAllowed}
use Rattle.core_views.specs.FlatHistory.{by, copying, copying_page, doing, doing_by, page_copied, reading_logs, reading_next, rest_of, stopping}

-- ---- it reads the logs

pub next_stage : (read : Option ℕ) (left ids : List ℕ) (id : ℕ) → read ≡ None → left ≡ id ∷ ids → stage_taken read left id ≡ HasTakenNext id ids
next_stage read left ids id none is = rw (none, is) refl

-- What is left of it once it has read so many logs.
pub rest_read : (z : Sizes) (line : Line) (ids : List ℕ) (f : Facts) → rest_of z line (to_read_or_copy ids f) f ≡ reading_logs z line line.command ids f
rest_read z line [] f = refl
rest_read z line (id ∷ ids) f = refl

-- a clause for each stage at which it may begin to read one, and for each command
first_next : (z : Sizes) (line : Line) (command : Command) (f : Facts) (id : ℕ) (ids : List ℕ) → line.command ≡ command
    → HasWork z f line.actor command → logs_left f.slots command Fresh ≡ id ∷ ids
    → doing z line command f ≡ by line (Taken id) ∷ reading_next z line command id ids f
first_next z line (Migrate Round) f id ids is works left =
    ap (doing_by z line (Migrate Round) f) works ∙ ap (λ (xs : List ℕ). reading_logs z line (Migrate Round) xs f) left
first_next z line (Migrate Start) f id ids is works left = absurd (cc left)
first_next z line (Migrate Finish) f id ids is works left = absurd (cc left)
first_next z line (Migrate Resume) f id ids is works left = absurd (cc left)
first_next z line (Access gfn word op) f id ids is works left = absurd (cc left)
first_next z line (ChangeHost page change) f id ids is works left = absurd (cc left)
first_next z line (ChangeRun page change) f id ids is works left = absurd (cc left)
first_next z line (SetSlot i slot) f id ids is works left = absurd (cc left)
first_next z line (DeleteSlot i) f id ids is works left = absurd (cc left)
first_next z line (SetLog i on) f id ids is works left = absurd (cc left)
first_next z line (GetLog i) f id ids is works left = absurd (cc left)
first_next z line (ClearLog i first count words) f id ids is works left = absurd (cc left)
first_next z line (Split gfn) f id ids is works left = absurd (cc left)

pub left_next : (z : Sizes) (line : Line) (command : Command) (stage : Stage) (f : Facts) (id : ℕ) (ids : List ℕ) → line.command ≡ command
    → (stage ≡ Fresh → HasWork z f line.actor line.command) → logs_left f.slots line.command stage ≡ id ∷ ids
    → rest_of z line stage f ≡ by line (Taken id) ∷ reading_next z line line.command id ids f
left_next z line command Fresh f id ids is works left = first_next z line line.command f id ids refl (works refl) left
left_next z line command (HasToRead xs) f id ids is works left = ap (λ (ys : List ℕ). reading_logs z line line.command ys f) left
left_next z line command _ f id ids is works left = absurd (cc left)

-- ---- it stops the guest, starts a migration, or ends it

pub stopping_is_next : (z : Sizes) (f : Facts) (past : Past) (u : LineUnderWay) → IsAllowed z f past u.line.actor u GuestStopped
    → rest_of z u.line u.stage f ≡ by u.line GuestStopped ∷ rest_of z u.line (under_after GuestStopped f u).stage (facts_after GuestStopped f)
stopping_is_next z f past u may =
    ap (λ (s : Stage). rest_of z u.line s f) may
    ∙ ap (λ (es : List Event). by u.line GuestStopped ∷ es) (sym (rest_read z u.line (keys_of f.slots) (facts_after GuestStopped f)))

pub starting_is_next : (z : Sizes) (f : Facts) (past : Past) (u : LineUnderWay) → IsAllowed z f past u.line.actor u MigrationStarted
    → rest_of z u.line u.stage f ≡ by u.line MigrationStarted ∷ rest_of z u.line (under_after MigrationStarted f u).stage (facts_after MigrationStarted f)
starting_is_next z f past u may =
    let works = subst (λ (c : Command). HasWork z f u.line.actor c) may.2 may.1 in
    ap (λ (s : Stage). rest_of z u.line s f) may.0
    ∙ (ap (λ (c : Command). doing z u.line c f) may.2 ∙ ap (doing_by z u.line (Migrate Start) f) works)

pub resuming_is_next : (z : Sizes) (f : Facts) (past : Past) (u : LineUnderWay) → IsAllowed z f past u.line.actor u Resumed
    → rest_of z u.line u.stage f ≡ by u.line Resumed ∷ rest_of z u.line (under_after Resumed f u).stage (facts_after Resumed f)
resuming_is_next z f past u may =
    let works = subst (λ (c : Command). HasWork z f u.line.actor c) may.2 may.1 in
    ap (λ (s : Stage). rest_of z u.line s f) may.0
    ∙ (ap (λ (c : Command). doing z u.line c f) may.2 ∙ ap (doing_by z u.line (Migrate Resume) f) works)

pub pausing_is_next : (z : Sizes) (f : Facts) (past : Past) (u : LineUnderWay) → IsAllowed z f past u.line.actor u PauseSet
    → rest_of z u.line u.stage f ≡ by u.line PauseSet ∷ rest_of z u.line (under_after PauseSet f u).stage (facts_after PauseSet f)
pausing_is_next z f past u may =
    let works = subst (λ (c : Command). HasWork z f u.line.actor c) may.2 may.1 in
    ap (λ (s : Stage). rest_of z u.line s f) may.0
    ∙ (ap (λ (c : Command). doing z u.line c f) may.2
    ∙ (ap (doing_by z u.line (Migrate Finish) f) works
    ∙ ap (λ (c : Command). by u.line PauseSet ∷ stopping z u.line c (facts_after PauseSet f)) (sym may.2)))

-- ---- it copies

whole_last : (words word : ℕ) (whole : Bool) → whole ≡ nat_le words (word + 1) → zero ≡ words - (word + 1) → whole ≡ true
whole_last words word whole is none = is ∙ grind (arith, nat_tests)

whole_not : (words word after_ : ℕ) (whole : Bool) → whole ≡ nat_le words (word + 1) → suc after_ ≡ words - (word + 1) → whole ≡ false
whole_not words word after_ whole is some = is ∙ grind (arith, nat_tests)

-- by how many words of the page come after this one
by_words : (z : Sizes) (line : Line) (gfn word : ℕ) (whole : Bool) (frames : List ℕ) (count after_ : ℕ) (f : Facts) → after_ ≡ z.words - (word + 1)
    → whole ≡ nat_le z.words (word + 1)
    → copying_page line gfn (page_copied f gfn) after_ word (f.memory (page_copied f gfn))
    ++ copying z line line.command frames (count + 1) 0
    (facts_after_all (copying_page line gfn (page_copied f gfn) after_ word (f.memory (page_copied f gfn))) f)
    ≡ by line (WordCopied gfn (page_copied f gfn) word (f.memory (page_copied f gfn) word) whole)
    ∷ rest_of z line (stage_copied whole (HasToCopy (gfn ∷ frames) count word))
    (facts_after (WordCopied gfn (page_copied f gfn) word (f.memory (page_copied f gfn) word) whole) f)
by_words z line gfn word whole frames count zero f none is = rw (whole_last z.words word whole is none) refl
by_words z line gfn word whole frames count (suc after_) f some is =
    let less : z.words - (word + 1 + 1) ≡ after_ = omega (arith, some) in rw (whole_not z.words word after_ whole is some, less) refl

-- what is left of it from this event on
abbrev from_copy : Sizes → LineUnderWay → ℕ → ℕ → ℕ → ℕ → Bool → Facts → List Event
from_copy z u gfn page word value whole f =
    by u.line (WordCopied gfn page word value whole) ∷ rest_of z u.line (stage_copied whole u.stage) (facts_after (WordCopied gfn page word value whole) f)

pub copying_is_next : (z : Sizes) (f : Facts) (past : Past) (u : LineUnderWay) (gfn page word value : ℕ) (whole : Bool)
    → IsAllowed z f past u.line.actor u (WordCopied gfn page word value whole)
    → rest_of z u.line u.stage f ≡ by u.line (WordCopied gfn page word value whole)
    ∷ rest_of z u.line (under_after (WordCopied gfn page word value whole) f u).stage (facts_after (WordCopied gfn page word value whole) f)
copying_is_next z f past u gfn page word value whole may =
    let page_is : page_copied f gfn ≡ page = ap (λ (p : Option ℕ). unwrap_or p 0) may.behind in
    ap (λ (s : Stage). rest_of z u.line s f) may.left
    ∙ (by_words z u.line gfn word whole may.frames may.count (z.words - (word + 1)) f refl may.whole_is
    ∙ (ap (λ (s : Stage). by u.line (WordCopied gfn (page_copied f gfn) word (f.memory (page_copied f gfn) word) whole)
    ∷ rest_of z u.line (stage_copied whole s) (facts_after (WordCopied gfn (page_copied f gfn) word (f.memory (page_copied f gfn) word) whole) f))
    (sym may.left)
    ∙ (ap (λ (p : ℕ). from_copy z u gfn p word (f.memory p word) whole f) page_is
    ∙ ap (λ (v : ℕ). from_copy z u gfn page word v whole f) may.value_is)))
