-- A line of a migration alone: it is events of its own and then its answer, and none of them is a look.
use Rattle.std.proofs.Common.{◌≡◌, ℕ, zero, suc, List, [], ◌∷◌, ◌++◌, ◌+◌, ◌-◌, true, false, refl, ap}
use Rattle.std.specs.Prelude.{Option, Some, None}
use Rattle.std.specs.Map.{keys_of}
use Rattle.core_views.specs.declared.answer.Answer.{Answer}
use Rattle.core_views.specs.declared.answer.Answer.TheVariants.{Done}
use Rattle.core_views.specs.declared.event.Event.{Event}
use Rattle.core_views.specs.declared.event.EventKind.{EventKind}
use Rattle.core_views.specs.declared.event.EventKind.TheVariants.{Taken, Harvested, GuestStopped, MigrationStarted, PauseSet, Resumed, WordCopied}
use Rattle.core_views.specs.declared.sizes.Sizes.{Sizes}
use Rattle.core_views.specs.declared.trace.Command.{Command}
use Rattle.core_views.specs.declared.trace.Command.TheVariants.{Migrate}
use Rattle.core_views.specs.declared.trace.Line.{Line}
use Rattle.core_views.specs.declared.trace.MigrationCall.{MigrationCall}
use Rattle.core_views.specs.declared.trace.MigrationCall.TheVariants.{Start, Round, Finish, Resume}
use Rattle.core_views.specs.Migrations.{frames_to_copy}
use Rattle.core_views.specs.Flat.{Facts}
use Rattle.core_views.specs.Events.{facts_after, facts_after_all}
use Rattle.core_views.specs.Lawful.{copied_answer}
use Rattle.core_views.specs.FlatHistory.{answers, by, copying, copying_page, dirty_read, doing_by, migrating, page_copied, reading_logs, words_copied}
use Rattle.core_views.specs.Alone.{AreWithin, IsInside, without_looks}

-- events of the line and then its answer
pub record Closed (line : Line) (es : List Event) : Type 0 where
  pub within : List Event
  pub answer : Answer
  pub are_within : AreWithin line within
  pub events_are : es ≡ within ++ answers line answer

pub closed_more : (line : Line) (kind : EventKind) (es : List Event) → IsInside kind → Closed line es → Closed line (by line kind ∷ es)
closed_more line kind es inside C = record {
  within = by line kind ∷ C.within;
  answer = C.answer;
  are_within = (refl, inside, C.are_within);
  events_are = ap (λ (xs : List Event). by line kind ∷ xs) C.events_are;
}

page_closed : (line : Line) (gfn page after_ word : ℕ) (content : ℕ → ℕ) (rest : List Event) → Closed line rest
    → Closed line (copying_page line gfn page after_ word content ++ rest)
page_closed line gfn page zero word content rest C = closed_more line (WordCopied gfn page word (content word) true) rest tt C
page_closed line gfn page (suc after_) word content rest C =
    closed_more line (WordCopied gfn page word (content word) false) _ tt (page_closed line gfn page after_ (word + 1) content rest C)

copies_closed : (z : Sizes) (line : Line) (command : Command) (frames : List ℕ) (count : ℕ) (f : Facts) → Closed line (copying z line command frames count 0 f)
copies_closed z line command [] count f =
    record { within = []; answer = copied_answer z command count f; are_within = tt; events_are = refl }
copies_closed z line command (gfn ∷ frames) count f =
    page_closed line gfn (page_copied f gfn) (z.words - (0 + 1)) 0 (f.memory (page_copied f gfn)) _
    (copies_closed z line command frames (count + 1) (facts_after_all (words_copied z line gfn 0 f) f))

logs_closed : (z : Sizes) (line : Line) (command : Command) (ids : List ℕ) (f : Facts) → Closed line (reading_logs z line command ids f)
logs_closed z line command [] f = copies_closed z line command (frames_to_copy f.to_copy f.slots) 0 f
logs_closed z line command (id ∷ ids) f =
    closed_more line (Taken id) _ tt
    (closed_more line (Harvested id (dirty_read command id f)) _ tt
    (logs_closed z line command ids (facts_after (Harvested id (dirty_read command id f)) f)))

migrates_closed : (z : Sizes) (line : Line) (call : MigrationCall) (f : Facts) → Closed line (migrating z line call f)
migrates_closed z line Start f =
    closed_more line MigrationStarted (answers line Done) tt (record { within = []; answer = Done; are_within = tt; events_are = refl })
migrates_closed z line Resume f =
    closed_more line Resumed (answers line Done) tt (record { within = []; answer = Done; are_within = tt; events_are = refl })
migrates_closed z line Round f = logs_closed z line (Migrate Round) (keys_of f.slots) f
migrates_closed z line Finish f =
    closed_more line PauseSet _ tt (closed_more line GuestStopped _ tt (logs_closed z line (Migrate Finish) (keys_of f.slots) _))

pub migration_closed : (z : Sizes) (line : Line) (call : MigrationCall) (f : Facts) (answer : Option Answer)
    → Closed line (doing_by z line (Migrate call) f answer)
migration_closed z line call f None = migrates_closed z line call f
migration_closed z line call f (Some answer) = record { within = []; answer = answer; are_within = tt; events_are = refl }

-- ---- all is shown

page_shows : (line : Line) (gfn page after_ word : ℕ) (content : ℕ → ℕ) (rest : List Event) → without_looks rest ≡ rest
    → without_looks (copying_page line gfn page after_ word content ++ rest) ≡ copying_page line gfn page after_ word content ++ rest
page_shows line gfn page zero word content rest is = ap (λ (es : List Event). by line (WordCopied gfn page word (content word) true) ∷ es) is
page_shows line gfn page (suc after_) word content rest is =
    ap (λ (es : List Event). by line (WordCopied gfn page word (content word) false) ∷ es) (page_shows line gfn page after_ (word + 1) content rest is)

copies_show : (z : Sizes) (line : Line) (command : Command) (frames : List ℕ) (count : ℕ) (f : Facts)
    → without_looks (copying z line command frames count 0 f) ≡ copying z line command frames count 0 f
copies_show z line command [] count f = refl
copies_show z line command (gfn ∷ frames) count f =
    page_shows line gfn (page_copied f gfn) (z.words - (0 + 1)) 0 (f.memory (page_copied f gfn)) _
    (copies_show z line command frames (count + 1) (facts_after_all (words_copied z line gfn 0 f) f))

logs_show : (z : Sizes) (line : Line) (command : Command) (ids : List ℕ) (f : Facts)
    → without_looks (reading_logs z line command ids f) ≡ reading_logs z line command ids f
logs_show z line command [] f = copies_show z line command (frames_to_copy f.to_copy f.slots) 0 f
logs_show z line command (id ∷ ids) f =
    ap (λ (es : List Event). by line (Taken id) ∷ by line (Harvested id (dirty_read command id f)) ∷ es)
    (logs_show z line command ids (facts_after (Harvested id (dirty_read command id f)) f))

migrates_show : (z : Sizes) (line : Line) (call : MigrationCall) (f : Facts) → without_looks (migrating z line call f) ≡ migrating z line call f
migrates_show z line Start f = refl
migrates_show z line Resume f = refl
migrates_show z line Round f = logs_show z line (Migrate Round) (keys_of f.slots) f
migrates_show z line Finish f =
    ap (λ (es : List Event). by line PauseSet ∷ by line GuestStopped ∷ es) (logs_show z line (Migrate Finish) (keys_of f.slots) _)

pub migration_shows : (z : Sizes) (line : Line) (call : MigrationCall) (f : Facts) (answer : Option Answer)
    → without_looks (doing_by z line (Migrate call) f answer) ≡ doing_by z line (Migrate call) f answer
migration_shows z line call f None = migrates_show z line call f
migration_shows z line call f (Some answer) = refl
