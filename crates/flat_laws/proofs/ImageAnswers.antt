-- An image is answered only where a line that finishes a migration has copied all.
use Rattle.std.proofs.Common.{◌≡◌, ◌&&◌, ℕ, Bool, true, false, List, [], refl, ap, ◌∙◌, subst}
use Rattle.std.specs.Prelude.{Option, Some, None, if◌then◌else◌}
use Rattle.std.specs.Option.{option_map}
use Rattle.core_views.specs.declared.actor.Actor.{Actor}
use Rattle.core_views.specs.declared.answer.Answer.{Answer}
use Rattle.core_views.specs.declared.answer.Answer.TheVariants.{Copied, Image, Refused}
use Rattle.core_views.specs.declared.answer.Refusal.{Refusal}
use Rattle.core_views.specs.declared.answer.Refusal.TheVariants.{NotLogged, NotStarted}
use Rattle.core_views.specs.declared.host.HostEntry.{HostEntry}
use Rattle.core_views.specs.declared.migration.ImageWord.{ImageWord}
use Rattle.core_views.specs.declared.migration.Migration.{Migration}
use Rattle.core_views.specs.declared.sizes.Sizes.{Sizes}
use Rattle.core_views.specs.declared.trace.Command.{Command}
use Rattle.core_views.specs.declared.trace.Command.TheVariants.{Access, ChangeHost, ChangeRun, ClearLog, DeleteSlot, GetLog, Migrate, SetLog, SetSlot, Split}
use Rattle.core_views.specs.declared.trace.HostChange.TheVariants.{Move}
use Rattle.core_views.specs.declared.trace.MigrationCall.{MigrationCall}
use Rattle.core_views.specs.declared.trace.MigrationCall.TheVariants.{Start, Round, Finish, Resume}
use Rattle.core_views.specs.Flat.{Facts, Fresh, HasAccessed, HasArmed, HasCalled, HasChanged, HasChangedHost, HasToSet, HasLeft, HasRead, HasToCopy}
use Rattle.core_views.specs.Flat.{Notes, Stage}
use Rattle.core_views.specs.HostChanges.{host_answer, host_refusal}
use Rattle.core_views.specs.HostRuns.{run_at_once}
use Rattle.core_views.specs.Lawful.{MayLeave, Tells, answer_at_once, answer_unbarred, copied_answer}
use Rattle.core_views.specs.LogCommands.{read_refusal}
use Rattle.core_views.specs.Migrations.{are_logged, call_answer, has_no_slot, image_words, is_barred, is_migrating, is_running}
use Rattle.core_views.specs.Migrations.{is_stopped, or_barred, round_answer}
use Rattle.core_views.specs.SlotCommands.{change_at_once, refused_or_done}
use Rattle.core_views.specs.SlotSets.{MemorySlots}
use Rattle.flat_laws.specs.MigrationCounts.{tells_copies}

abbrev pub is_image : Answer → Bool
is_image (Image words) = true
is_image _ = false

-- A line that is given up is answered none, nor how many pages it has copied.
pub none_left : (z : Sizes) (f : Facts) (actor : Actor) (command : Command) (notes : Notes) (answer : Answer) → MayLeave z f actor command notes answer
    → tells_copies answer ≡ false
none_left z f actor (Access gfn word op) notes (Image words) may = absurd may
none_left z f actor (ChangeHost page Move) notes (Image words) may = absurd may
none_left z f actor (ChangeHost page change) notes (Image words) may = absurd may
none_left z f actor (ChangeRun page change) notes (Image words) may = absurd may
none_left z f actor (SetSlot id slot) notes (Image words) may = absurd may
none_left z f actor (DeleteSlot id) notes (Image words) may = absurd may
none_left z f actor (SetLog id on) notes (Image words) may = absurd may
none_left z f actor (GetLog id) notes (Image words) may = absurd may
none_left z f actor (ClearLog id first count given) notes (Image words) may = absurd may
none_left z f actor (Migrate call) notes (Image words) may = absurd may
none_left z f actor (Split gfn) notes (Image words) may = absurd may
none_left z f actor (Access gfn word op) notes (Copied pages) may = absurd may
none_left z f actor (ChangeHost page Move) notes (Copied pages) may = absurd may
none_left z f actor (ChangeHost page change) notes (Copied pages) may = absurd may
none_left z f actor (ChangeRun page change) notes (Copied pages) may = absurd may
none_left z f actor (SetSlot id slot) notes (Copied pages) may = absurd may
none_left z f actor (DeleteSlot id) notes (Copied pages) may = absurd may
none_left z f actor (SetLog id on) notes (Copied pages) may = absurd may
none_left z f actor (GetLog id) notes (Copied pages) may = absurd may
none_left z f actor (ClearLog id first count given) notes (Copied pages) may = absurd may
none_left z f actor (Migrate call) notes (Copied pages) may = absurd may
none_left z f actor (Split gfn) notes (Copied pages) may = absurd may
none_left z f actor command notes _ may = refl

pub no_image : (answer : Answer) → tells_copies answer ≡ false → is_image answer ≡ false
no_image (Image words) none = absurd (cc none)
no_image _ none = refl

-- Nor is one that has nothing to do.
abbrev IsNone : Option Answer → Type 0
IsNone None = Unit {0}
IsNone (Some answer) = is_image answer ≡ false

none_refused : (o : Option Refusal) → IsNone (option_map (λ refusal. Refused refusal) o)
none_refused None = tt
none_refused (Some refusal) = refl

none_changed : (o : Option (Option Refusal)) → IsNone (option_map refused_or_done o)
none_changed None = tt
none_changed (Some None) = refl
none_changed (Some (Some refusal)) = refl

none_called : (slots : MemorySlots) (migration : Migration) (call : MigrationCall) → IsNone (call_answer slots migration call)
none_called slots migration Start = by (are_logged slots)
  where
    by : (b : Bool) → IsNone (if b then None else Some (Refused NotLogged))
    by true = tt
    by false = refl
none_called slots migration Round = by (is_running migration) (has_no_slot slots)
  where
    by : (b c : Bool) → IsNone (round_answer b c)
    by true true = refl
    by true false = tt
    by false c = refl
none_called slots migration Finish = by (is_running migration)
  where
    by : (b : Bool) → IsNone (if b then None else Some (Refused NotStarted))
    by true = tt
    by false = refl
none_called slots migration Resume = by (is_stopped migration)
  where
    by : (b : Bool) → IsNone (if b then None else Some (Refused NotStarted))
    by true = tt
    by false = refl

none_unbarred : (z : Sizes) (slots : MemorySlots) (migration : Migration) (actor : Actor) (command : Command)
    → IsNone (answer_unbarred z slots migration actor command)
none_unbarred z slots migration actor (ChangeHost page change) = none_refused (host_refusal z actor page)
none_unbarred z slots migration actor (ChangeRun page change) = none_refused (run_at_once z actor page change)
none_unbarred z slots migration actor (GetLog id) = none_refused (read_refusal (GetLog id) slots)
none_unbarred z slots migration actor (ClearLog id first count words) = none_refused (read_refusal (ClearLog id first count words) slots)
none_unbarred z slots migration actor (Migrate call) = none_called slots migration call
none_unbarred z slots migration actor (Access gfn word op) = tt
none_unbarred z slots migration actor (Split gfn) = refl
none_unbarred z slots migration actor (SetSlot id slot) = none_changed (change_at_once z (SetSlot id slot) slots)
none_unbarred z slots migration actor (DeleteSlot id) = none_changed (change_at_once z (DeleteSlot id) slots)
none_unbarred z slots migration actor (SetLog id on) = none_changed (change_at_once z (SetLog id on) slots)

none_at_once : (z : Sizes) (slots : MemorySlots) (migration : Migration) (actor : Actor) (command : Command)
    → IsNone (answer_at_once z slots migration actor command)
none_at_once z slots migration actor command = by (is_barred command && is_migrating migration) (none_unbarred z slots migration actor command)
  where
    by : (b : Bool) → IsNone (answer_unbarred z slots migration actor command) → IsNone (or_barred b (answer_unbarred z slots migration actor command))
    by true is = refl
    by false is = is

-- ---- what is told

-- The image is that of a line that finishes, and has no frame left to copy.
pub record IsAnswered (z : Sizes) (f : Facts) (command : Command) (stage : Stage) (words : List ImageWord) : Type 0 where
  pub count : ℕ
  pub word : ℕ
  pub copied : stage ≡ HasToCopy [] count word
  pub finishes : command ≡ Migrate Finish
  pub image : words ≡ image_words z.words f.image f.slots

abbrev words_told : Answer → List ImageWord
words_told (Image words) = words
words_told _ = []

none_told : {X : Type 0} (answer other : Answer) → answer ≡ other → is_image answer ≡ true → is_image other ≡ false → X
none_told answer other same is none = let not_ : is_image answer ≡ false = ap is_image same ∙ none in absurd (cc (not_, is))

host_none : (command : Command) (entry : HostEntry) → is_image (host_answer command entry) ≡ false
host_none (ChangeHost page Move) entry = refl
host_none (ChangeHost page change) entry = refl
host_none _ entry = refl

copied_told : (z : Sizes) (f : Facts) (command : Command) (frames : List ℕ) (count word : ℕ) (words : List ImageWord) → frames ≡ []
    → Image words ≡ copied_answer z command count f → IsAnswered z f command (HasToCopy frames count word) words
copied_told z f (Migrate Finish) frames count word words none told = record {
  count = count;
  word = word;
  copied = ap (λ (xs : List ℕ). HasToCopy xs count word) none;
  finishes = refl;
  image = ap words_told told;
}
copied_told z f _ frames count word words none told = absurd (cc told)

pub image_told : (z : Sizes) (f : Facts) (actor : Actor) (command : Command) (stage : Stage) (words : List ImageWord)
    → Tells z f actor command stage (Image words) → ((how : Answer) → stage ≡ HasLeft how → is_image how ≡ false) → IsAnswered z f command stage words
image_told z f actor command (HasToCopy frames count word) words tells left = copied_told z f command frames count word words tells.0 tells.1
image_told z f actor command (HasAccessed frame value) words tells left = none_told _ _ tells refl refl
image_told z f actor command (HasLeft how) words tells left = none_told _ _ tells refl (left how refl)
image_told z f actor command HasChanged words tells left = none_told _ _ tells.0 refl refl
image_told z f actor command HasArmed words tells left = none_told _ _ tells refl refl
image_told z f actor command (HasRead frames) words tells left = none_told _ _ tells refl refl
image_told z f actor command (HasChangedHost entry) words tells left = none_told _ _ tells refl (host_none command entry)
image_told z f actor command (HasToSet page left_ level) words tells left = none_told _ _ tells.1 refl refl
image_told z f actor command HasCalled words tells left = none_told _ _ tells refl refl
image_told z f actor command Fresh words tells left =
    let not_ : is_image (Image words) ≡ false = subst IsNone tells (none_at_once z f.slots f.migration actor command) in absurd (cc not_)
image_told z f actor command _ words tells left = absurd tells
