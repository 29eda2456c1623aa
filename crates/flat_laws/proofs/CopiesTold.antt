-- Which lines are answered how many pages they have copied, or the image: one that has none left to copy, or a round of no slot.
use Rattle.std.proofs.Common.{◌≡◌, ◌⊎◌, inl, inr, ◌&&◌, ℕ, Bool, true, false, List, [], refl, ap, ◌∙◌, subst}
use Rattle.std.specs.Prelude.{Option, Some, None, if◌then◌else◌}
use Rattle.std.specs.Option.{option_map}
use Rattle.core_views.specs.declared.actor.Actor.{Actor}
use Rattle.core_views.specs.declared.answer.Answer.{Answer}
use Rattle.core_views.specs.declared.answer.Answer.TheVariants.{Copied, Refused}
use Rattle.core_views.specs.declared.answer.Refusal.{Refusal}
use Rattle.core_views.specs.declared.answer.Refusal.TheVariants.{NotLogged, NotStarted}
use Rattle.core_views.specs.declared.host.HostEntry.{HostEntry}
use Rattle.core_views.specs.declared.migration.Migration.{Migration}
use Rattle.core_views.specs.declared.sizes.Sizes.{Sizes}
use Rattle.core_views.specs.declared.trace.Command.{Command}
use Rattle.core_views.specs.declared.trace.Command.TheVariants.{Access, ChangeHost, ChangeRun, ClearLog, DeleteSlot, GetLog, Migrate, SetLog, SetSlot, Split}
use Rattle.core_views.specs.declared.trace.HostChange.TheVariants.{Move}
use Rattle.core_views.specs.declared.trace.MigrationCall.{MigrationCall}
use Rattle.core_views.specs.declared.trace.MigrationCall.TheVariants.{Start, Round, Finish, Resume}
use Rattle.core_views.specs.Flat.{Facts, Fresh, HasAccessed, HasArmed, HasCalled, HasChanged, HasChangedHost, HasToSet, HasLeft, HasRead, HasToCopy, Stage}
use Rattle.core_views.specs.HostChanges.{host_answer, host_refusal}
use Rattle.core_views.specs.HostRuns.{run_at_once}
use Rattle.core_views.specs.Lawful.{Tells, answer_at_once, answer_unbarred, copied_answer}
use Rattle.core_views.specs.LogCommands.{read_refusal}
use Rattle.core_views.specs.Migrations.{are_logged, call_answer, is_barred, is_migrating, has_no_slot, is_running, is_stopped, or_barred, round_answer}
use Rattle.core_views.specs.SlotCommands.{change_at_once, refused_or_done}
use Rattle.core_views.specs.SlotSets.{MemorySlots}
use Rattle.flat_laws.specs.MigrationCounts.{tells_copies}

-- Of those that are answered at once it is a round of no slot alone.
abbrev OfNoSlot : Bool → Option Answer → Type 0
OfNoSlot nil None = Unit {0}
OfNoSlot nil (Some answer) = tells_copies answer ≡ true → (nil ≡ true) × (answer ≡ Copied 0)

refused_none : (nil : Bool) (o : Option Refusal) → OfNoSlot nil (option_map (λ refusal. Refused refusal) o)
refused_none nil None = tt
refused_none nil (Some refusal) = λ copies. absurd (cc copies)

changed_none : (nil : Bool) (o : Option (Option Refusal)) → OfNoSlot nil (option_map refused_or_done o)
changed_none nil None = tt
changed_none nil (Some None) = λ copies. absurd (cc copies)
changed_none nil (Some (Some refusal)) = λ copies. absurd (cc copies)

called_none : (slots : MemorySlots) (migration : Migration) (call : MigrationCall) → OfNoSlot (has_no_slot slots) (call_answer slots migration call)
called_none slots migration Start = by (are_logged slots)
  where
    by : (b : Bool) → OfNoSlot (has_no_slot slots) (if b then None else Some (Refused NotLogged))
    by true = tt
    by false = λ copies. absurd (cc copies)
called_none slots migration Round = by (is_running migration) (has_no_slot slots)
  where
    by : (b c : Bool) → OfNoSlot c (round_answer b c)
    by true true = λ copies. (refl, refl)
    by true false = tt
    by false c = λ copies. absurd (cc copies)
called_none slots migration Finish = by (is_running migration)
  where
    by : (b : Bool) → OfNoSlot (has_no_slot slots) (if b then None else Some (Refused NotStarted))
    by true = tt
    by false = λ copies. absurd (cc copies)
called_none slots migration Resume = by (is_stopped migration)
  where
    by : (b : Bool) → OfNoSlot (has_no_slot slots) (if b then None else Some (Refused NotStarted))
    by true = tt
    by false = λ copies. absurd (cc copies)

unbarred_none : (z : Sizes) (slots : MemorySlots) (migration : Migration) (actor : Actor) (command : Command)
    → OfNoSlot (has_no_slot slots) (answer_unbarred z slots migration actor command)
unbarred_none z slots migration actor (ChangeHost page change) = refused_none (has_no_slot slots) (host_refusal z actor page)
unbarred_none z slots migration actor (ChangeRun page change) = refused_none (has_no_slot slots) (run_at_once z actor page change)
unbarred_none z slots migration actor (GetLog id) = refused_none (has_no_slot slots) (read_refusal (GetLog id) slots)
unbarred_none z slots migration actor (ClearLog id first count words) = refused_none (has_no_slot slots) (read_refusal (ClearLog id first count words) slots)
unbarred_none z slots migration actor (Migrate call) = called_none slots migration call
unbarred_none z slots migration actor (Access gfn word op) = tt
unbarred_none z slots migration actor (Split gfn) = λ copies. absurd (cc copies)
unbarred_none z slots migration actor (SetSlot id slot) = changed_none (has_no_slot slots) (change_at_once z (SetSlot id slot) slots)
unbarred_none z slots migration actor (DeleteSlot id) = changed_none (has_no_slot slots) (change_at_once z (DeleteSlot id) slots)
unbarred_none z slots migration actor (SetLog id on) = changed_none (has_no_slot slots) (change_at_once z (SetLog id on) slots)

at_once_none : (z : Sizes) (slots : MemorySlots) (migration : Migration) (actor : Actor) (command : Command)
    → OfNoSlot (has_no_slot slots) (answer_at_once z slots migration actor command)
at_once_none z slots migration actor command = by (is_barred command && is_migrating migration) (unbarred_none z slots migration actor command)
  where
    by : (b : Bool) → OfNoSlot (has_no_slot slots) (answer_unbarred z slots migration actor command)
        → OfNoSlot (has_no_slot slots) (or_barred b (answer_unbarred z slots migration actor command))
    by true is = λ copies. absurd (cc copies)
    by false is = is

-- It has no frame left to copy, and is answered how many it has copied, or the image.
pub record HasCopied (z : Sizes) (f : Facts) (command : Command) (stage : Stage) (answer : Answer) : Type 0 where
  pub count : ℕ
  pub word : ℕ
  pub copied : stage ≡ HasToCopy [] count word
  pub told : answer ≡ copied_answer z command count f

-- There is no slot, and it has done nothing.
pub record CopiesNone (f : Facts) (stage : Stage) (answer : Answer) : Type 0 where
  pub fresh : stage ≡ Fresh
  pub nil : has_no_slot f.slots ≡ true
  pub told : answer ≡ Copied 0

none_told : {X : Type 0} (answer other : Answer) → answer ≡ other → tells_copies answer ≡ true → tells_copies other ≡ false → X
none_told answer other same is none = let not_ : tells_copies answer ≡ false = ap tells_copies same ∙ none in absurd (cc (not_, is))

host_none : (command : Command) (entry : HostEntry) → tells_copies (host_answer command entry) ≡ false
host_none (ChangeHost page Move) entry = refl
host_none (ChangeHost page change) entry = refl
host_none _ entry = refl

pub copies_told : (z : Sizes) (f : Facts) (actor : Actor) (command : Command) (stage : Stage) (answer : Answer)
    → Tells z f actor command stage answer → tells_copies answer ≡ true → ((how : Answer) → stage ≡ HasLeft how → tells_copies how ≡ false)
    → HasCopied z f command stage answer ⊎ CopiesNone f stage answer
copies_told z f actor command (HasToCopy frames count word) answer tells copies left =
    inl (record { count = count; word = word; copied = ap (λ (xs : List ℕ). HasToCopy xs count word) tells.0; told = tells.1 })
copies_told z f actor command (HasAccessed frame value) answer tells copies left = none_told _ _ tells copies refl
copies_told z f actor command (HasLeft how) answer tells copies left = none_told _ _ tells copies (left how refl)
copies_told z f actor command HasChanged answer tells copies left = none_told _ _ tells.0 copies refl
copies_told z f actor command HasArmed answer tells copies left = none_told _ _ tells copies refl
copies_told z f actor command (HasRead frames) answer tells copies left = none_told _ _ tells copies refl
copies_told z f actor command (HasChangedHost entry) answer tells copies left = none_told _ _ tells copies (host_none command entry)
copies_told z f actor command (HasToSet page left_ level) answer tells copies left = none_told _ _ tells.1 copies refl
copies_told z f actor command HasCalled answer tells copies left = none_told _ _ tells copies refl
copies_told z f actor command Fresh answer tells copies left =
    let none = subst (OfNoSlot (has_no_slot f.slots)) tells (at_once_none z f.slots f.migration actor command) copies in
    inr (record { fresh = refl; nil = none.0; told = none.1 })
copies_told z f actor command _ answer tells copies left = absurd tells
