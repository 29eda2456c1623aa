-- What is so after each history in which one actor alone manages: of the facts and of the manager's line. One event at a time.
use Rattle.std.proofs.Common.{◌≡◌, ◌⊎◌, inl, inr, ◌&&◌, ℕ, Bool, true, false, List, [], ◌∷◌, refl, sym, ap, ◌∙◌, subst}
use Rattle.std.specs.Prelude.{Option, Some, None, if◌then◌else◌}
use Rattle.std.specs.Map.{keys_of}
use Rattle.core_views.specs.declared.actor.Actor.{Actor}
use Rattle.core_views.specs.declared.answer.Answer.TheVariants.{Refused}
use Rattle.core_views.specs.declared.answer.Refusal.TheVariants.{NotLogged, NotStarted}
use Rattle.core_views.specs.declared.event.EventKind.{EventKind}
use Rattle.core_views.specs.declared.event.EventKind.TheVariants.{Begun, LookedAtPause, LookedAtSlots, LookedAtHost, BroughtIn, Accessed, Exited, SlotChanged}
use Rattle.core_views.specs.declared.event.EventKind.TheVariants.{HostChanged, Armed, Taken, Harvested, Answered}
use Rattle.core_views.specs.declared.event.EventKind.TheVariants.{GuestStopped, MigrationStarted, PauseSet, Resumed, WordCopied}
use Rattle.core_views.specs.declared.migration.Migration.{Migration}
use Rattle.core_views.specs.declared.migration.Migration.TheVariants.{Unstarted, Running, Pausing, Stopped}
use Rattle.core_views.specs.declared.sizes.Sizes.{Sizes}
use Rattle.core_views.specs.declared.memory_slot.MemorySlot.{MemorySlot}
use Rattle.core_views.specs.declared.trace.Command.{Command}
use Rattle.core_views.specs.declared.trace.Command.TheVariants.{Access, ChangeHost, ChangeRun, ClearLog, GetLog, Migrate, Split}
use Rattle.core_views.specs.declared.trace.MigrationCall.TheVariants.{Finish, Start}
use Rattle.core_views.specs.declared.trace.Op.{Op}
use Rattle.core_views.specs.Events.{facts_after, past_after, under_after}
use Rattle.core_views.specs.Flat.{Facts, HasChanged, HasLeft, HasSetPause, HasTakenNext, HasToCopy, HasToRead, LineUnderWay, Stage}
use Rattle.core_views.specs.Host.{HostMap}
use Rattle.core_views.specs.Lawful.{CopiesNext, HasWork, IsAllowed, Reaches}
use Rattle.core_views.specs.Migrations.{are_logged, is_barred, is_migrating, is_running}
use Rattle.core_views.specs.Past.{Past, past_begun, written_frame}
use Rattle.core_views.specs.SlotCommands.{slot_change}
use Rattle.core_views.specs.Slots.{page_behind}
use Rattle.core_views.specs.SlotSets.{MemorySlots, flat_slots}
use Rattle.core_views.proofs.Barred.{unbarred}
use Rattle.flat_laws.specs.Images.{AreImaged, HasFrameIn}
use Rattle.flat_laws.proofs.GuestLines.{IsGuests, IsOfGuests, guests_tell}
use Rattle.flat_laws.proofs.ImageAnswers.{none_left}
use Rattle.flat_laws.proofs.Images.{AllAreArmed, IsCopied, accessed, copied, dirty_stays, harvested, images_begin, word_accessed}
use Rattle.flat_laws.proofs.LogsArmed.{LogsAreArmed, all_are_armed, own_logs, unarmed}
use Rattle.flat_laws.proofs.ManagerLines.{AreLeft, AtStage, Finishes, copied_at, harvested_at, reads_or_copies, taken_at}
use Rattle.flat_laws.proofs.PendingArmed.{AreArmed, armed_after}
use Rattle.flat_laws.proofs.SlotsCopied.{key_among}
use Rattle.core_views.proofs.RunStages.{each_change}

-- Each slot has a dirty log, and the image is what it is to be.
pub record Migrates (z : Sizes) (f : Facts) : Type 0 where
  pub logged : are_logged f.slots ≡ true
  pub images : AreImaged z f

pub record IsManaged (z : Sizes) (f : Facts) (past : Past) (u : LineUnderWay) : Type 0 where
  pub slots : AreArmed f
  pub logs : LogsAreArmed f u.stage u.line.command
  pub goes : is_migrating f.migration ≡ true → Migrates z f
  pub at : AtStage f past u.line.command u.stage

-- While a migration goes on, no log waits to be armed, and so all slots are armed.
none_waits : (f : Facts) (past : Past) (command : Command) (s : Stage) → AtStage f past command s → is_migrating f.migration ≡ true → unarmed s command ≡ None
none_waits f past command HasChanged at goes = absurd (cc (at, goes))
none_waits f past command _ at goes = refl

all_armed : (z : Sizes) (f : Facts) (past : Past) (u : LineUnderWay) → IsManaged z f past u → is_migrating f.migration ≡ true → AllAreArmed f
all_armed z f past u M goes =
    all_are_armed f u.stage u.line.command M.slots M.logs (none_waits f past u.line.command u.stage M.at goes) (M.goes goes).logged

-- ---- its own events

-- A line that changes a slot is barred.
changes_barred : (slots : MemorySlots) (command : Command) (change : ℕ × Option MemorySlot) → slot_change slots command ≡ Some change → is_barred command ≡ true
changes_barred slots (Access gfn word op) change is = absurd (cc is)
changes_barred slots (ChangeHost page host) change is = absurd (cc is)
changes_barred slots (ChangeRun page host) change is = absurd (cc is)
changes_barred slots (GetLog id) change is = absurd (cc is)
changes_barred slots (ClearLog id first count words) change is = absurd (cc is)
changes_barred slots (Migrate call) change is = absurd (cc is)
changes_barred slots (Split gfn) change is = absurd (cc is)
changes_barred slots _ change is = refl

none_migrates : (z : Sizes) (f : Facts) (actor : Actor) (command : Command) (change : ℕ × Option MemorySlot) → HasWork z f actor command
    → slot_change f.slots command ≡ Some change → is_migrating f.migration ≡ false
none_migrates z f actor command change works is =
    ap (λ (b : Bool). b && is_migrating f.migration) (sym (changes_barred f.slots command change is)) ∙ (unbarred _ _ works).0

-- One that starts a migration finds a log at each slot, and one that finishes it finds it running.
starts_logged : (z : Sizes) (f : Facts) (actor : Actor) (command : Command) → HasWork z f actor command → command ≡ Migrate Start → are_logged f.slots ≡ true
starts_logged z f actor command works is = by (are_logged f.slots) (unbarred _ _ (subst (HasWork z f actor) is works)).1
  where
    by : (b : Bool) → (if b then None else Some (Refused NotLogged)) ≡ None → b ≡ true
    by true e = refl
    by false e = absurd (cc e)

runs : (m : Migration) → is_running m ≡ true → is_migrating m ≡ true
runs Running is = refl
runs Unstarted is = absurd (cc is)
runs Pausing is = absurd (cc is)
runs Stopped is = absurd (cc is)

finishes_running : (z : Sizes) (f : Facts) (actor : Actor) (command : Command) → HasWork z f actor command → command ≡ Migrate Finish
    → is_migrating f.migration ≡ true
finishes_running z f actor command works is =
    runs f.migration (by (is_running f.migration) (subst (HasWork z f actor) is works))
  where
    by : (b : Bool) → (if b then None else Some (Refused NotStarted)) ≡ None → b ≡ true
    by true e = refl
    by false e = absurd (cc e)

module _ (z : Sizes) (f : Facts) (past : Past) (actor : Actor) (u : LineUnderWay) (M : IsManaged z f past u) where
  with_images : (g : Facts) → g.slots ≡ f.slots → is_migrating f.migration ≡ true → AreImaged z g → Migrates z g
  with_images g same goes images = record { logged = ap are_logged same ∙ (M.goes goes).logged; images = images }

  own_copied : (s : Stage) → AtStage f past u.line.command s → is_migrating f.migration ≡ true → (gfn page word value : ℕ) (whole : Bool)
      → CopiesNext z f s gfn page word value whole → IsCopied f s
  own_copied (HasToCopy frames count at) A goes gfn page word value whole may = A.0 goes
  own_copied _ A goes gfn page word value whole may = tt

  own_goes : (kind : EventKind) → IsAllowed z f past actor u kind → is_migrating (facts_after kind f).migration ≡ true → Migrates z (facts_after kind f)
  own_goes (Accessed gfn word op frame before) may goes =
      with_images (facts_after (Accessed gfn word op frame before) f) refl goes
      (accessed f gfn word op may.3.page may.3.behind (all_armed z f past u M goes) z frame before (M.goes goes).images)
  own_goes (SlotChanged id slot) may goes =
      let not_ = none_migrates z f actor u.line.command (id, slot) may.1 may.2 in absurd (cc (goes, not_))
  own_goes (Armed id all) may goes =
      let not_ : is_migrating f.migration ≡ false = subst (AtStage f past u.line.command) may.0 M.at in absurd (cc (goes, not_))
  own_goes (Harvested id frames) may goes =
      with_images (facts_after (Harvested id frames) f) refl goes (harvested z f (M.goes goes).images id frames goes)
  own_goes MigrationStarted may goes = record { logged = starts_logged z f actor u.line.command may.1 may.2; images = images_begin z f }
  own_goes PauseSet may goes =
      let G = M.goes (finishes_running z f actor u.line.command may.1 may.2) in record { logged = G.logged; images = G.images }
  own_goes GuestStopped may goes = let G = M.goes (subst (AtStage f past u.line.command) may M.at) in record { logged = G.logged; images = G.images }
  own_goes (WordCopied gfn page word value whole) may goes =
      with_images (facts_after (WordCopied gfn page word value whole) f) refl goes
      (copied z f (M.goes goes).images u.stage gfn page word value whole may (own_copied u.stage M.at goes gfn page word value whole may))
  own_goes Resumed may goes = absurd (cc goes)
  own_goes (BroughtIn page) may goes = let G = M.goes goes in record { logged = G.logged; images = G.images }
  own_goes (HostChanged page entry) may goes = let G = M.goes goes in record { logged = G.logged; images = G.images }
  own_goes _ may goes = M.goes goes

  stopped_left : Finishes u.line.command → AreLeft (facts_after GuestStopped f) (keys_of f.slots)
  stopped_left is = record {
    stopped = refl;
    dirty = λ gfn dirty.
        let I = M.slots.armed gfn dirty in
        record { id = I.id; slot = I.slot; there = I.there; has = I.has; among = key_among I.id I.slot f.slots I.there };
  }

  own_at : (kind : EventKind) → IsAllowed z f past actor u kind
      → AtStage (facts_after kind f) (past_after actor kind f past) (under_after kind f u).line.command (under_after kind f u).stage
  own_at LookedAtPause may = M.at
  own_at LookedAtSlots may = M.at
  own_at (LookedAtHost page) may = M.at
  own_at (BroughtIn page) may = subst (AtStage (facts_after (BroughtIn page) f) past u.line.command) (sym may.0) tt
  own_at (Exited answer) may = none_left z f actor u.line.command u.notes answer may.1
  own_at (SlotChanged id slot) may = none_migrates z f actor u.line.command (id, slot) may.1 may.2
  own_at (Taken id) may = taken_at z f past actor u id may M.at
  own_at (Harvested id frames) may = harvested_at z f past actor u id frames may M.at
  own_at PauseSet may = refl
  own_at GuestStopped may = reads_or_copies (facts_after GuestStopped f) past u.line.command (keys_of f.slots) stopped_left
  own_at (WordCopied gfn page word value whole) may = copied_at z f past actor u gfn page word value whole may M.at
  own_at (HostChanged page entry) may =
      each_change (AtStage (facts_after (HostChanged page entry) f) past u.line.command) (λ e. tt) (λ p l n. tt) u.line.command f.host u.stage page entry
  own_at _ may = tt

  pub own_managed : (kind : EventKind) → IsAllowed z f past actor u kind
      → IsManaged z (facts_after kind f) (past_after actor kind f past) (under_after kind f u)
  own_managed kind may = record {
    slots = armed_after z f past actor u kind may M.slots;
    logs = own_logs z f past actor u kind may M.logs;
    goes = own_goes kind may;
    at = own_at kind may;
  }

-- ---- the events of others

-- The facts may change for the host alone, and the past but for what is due.
still_left : (f : Facts) (host : HostMap) (ids : List ℕ) → AreLeft f ids → AreLeft (record f { host = host }) ids
still_left f host ids L = record { stopped = L.stopped; dirty = L.dirty }

still_copied : (f : Facts) (host : HostMap) (frames : List ℕ) (count word : ℕ) → IsCopied f (HasToCopy frames count word)
    → IsCopied (record f { host = host }) (HasToCopy frames count word)
still_copied f host [] count word C = tt
still_copied f host (gfn ∷ frames) count word C = C

still_at : (f : Facts) (host : HostMap) (past next : Past) (command : Command) (s : Stage) → ((gfn : ℕ) → past.due gfn ≡ true → next.due gfn ≡ true)
    → AtStage f past command s → AtStage (record f { host = host }) next command s
still_at f host past next command (HasLeft how) due A = A
still_at f host past next command HasChanged due A = A
still_at f host past next command HasSetPause due A = A
still_at f host past next command (HasToRead ids) due A = λ is. still_left f host ids (A is)
still_at f host past next command (HasTakenNext id ids) due A =
    λ is. let D = A is in record { left = still_left f host (id ∷ ids) D.left; due = λ gfn dirty. due gfn (D.due gfn dirty) }
still_at f host past next command (HasToCopy frames count word) due A = (
  λ goes. still_copied f host frames count word (A.0 goes),
  λ is. let L = A.1 is in record { left = still_left f host [] L.left; listed = L.listed },
  A.2,
)
still_at f host past next command _ due A = tt

begun_due : (a : Actor) (frame : Option ℕ) (past : Past) (gfn : ℕ) → past.due gfn ≡ true → (past_begun a frame past).due gfn ≡ true
begun_due a None past gfn is = is
begun_due a (Some first) past gfn is = is

-- An access is made only while the guest isn't stopped. What it changes of a page that is being copied is dirty.
access_copied : (f : Facts) (gfn word : ℕ) (op : Op) (frame before page : ℕ) → page_behind (flat_slots f.slots) gfn op ≡ Some page → AllAreArmed f
    → (frames : List ℕ) (count at : ℕ) → IsCopied f (HasToCopy frames count at)
    → IsCopied (facts_after (Accessed gfn word op frame before) f) (HasToCopy frames count at)
access_copied f gfn word op frame before page behind armed [] count at C = tt
access_copied f gfn word op frame before page behind armed (first ∷ frames) count at C = λ p w behind_too lt. by p w (C p w behind_too lt)
  where
    by : (p w : ℕ) → (f.image p w ≡ f.memory p w) ⊎ HasFrameIn f.slots f.pending p
        → (f.image p w ≡ (facts_after (Accessed gfn word op frame before) f).memory p w)
        ⊎ HasFrameIn f.slots (facts_after (Accessed gfn word op frame before) f).pending p
    by p w (inl is) = word_accessed f gfn word op page behind armed p w is
    by p w (inr D) = inr (dirty_stays f gfn word op page behind armed p D)

access_at : (f : Facts) (past : Past) (gfn word : ℕ) (op : Op) (frame before : ℕ) (command : Command) (s : Stage) → Reaches f gfn word op frame before
    → (is_migrating f.migration ≡ true → AllAreArmed f) → AtStage f past command s → AtStage (facts_after (Accessed gfn word op frame before) f) past command s
access_at f past gfn word op frame before command (HasLeft how) R armed A = A
access_at f past gfn word op frame before command HasChanged R armed A = A
access_at f past gfn word op frame before command HasSetPause R armed A = A
access_at f past gfn word op frame before command (HasToRead ids) R armed A =
    λ is. let L = A is in let on = L.stopped in let off = R.goes in absurd (cc (on, off))
access_at f past gfn word op frame before command (HasTakenNext id ids) R armed A =
    λ is. let D = A is in let on = D.left.stopped in let off = R.goes in absurd (cc (on, off))
access_at f past gfn word op frame before command (HasToCopy frames count at) R armed A = (
  λ goes. access_copied f gfn word op frame before R.page R.behind (armed goes) frames count at (A.0 goes),
  λ is. let L = A.1 is in let on = L.left.stopped in let off = R.goes in absurd (cc (on, off)),
  A.2,
)
access_at f past gfn word op frame before command _ R armed A = tt

module _ (z : Sizes) (f : Facts) (past : Past) (a : Actor) (v u : LineUnderWay) (M : IsManaged z f past u) where
  other_logs : (kind : EventKind) → IsOfGuests kind → LogsAreArmed (facts_after kind f) u.stage u.line.command
  other_logs (Begun line) of = M.logs
  other_logs (Answered number answer) of = M.logs
  other_logs LookedAtPause of = M.logs
  other_logs LookedAtSlots of = M.logs
  other_logs (LookedAtHost page) of = M.logs
  other_logs (BroughtIn page) of = M.logs
  other_logs (Accessed gfn word op frame before) of = M.logs
  other_logs (Exited answer) of = M.logs
  other_logs (HostChanged page entry) of = M.logs
  other_logs _ of = absurd of

  other_goes : (kind : EventKind) → IsOfGuests kind → IsAllowed z f past a v kind → is_migrating (facts_after kind f).migration ≡ true
      → Migrates z (facts_after kind f)
  other_goes (Begun line) of may goes = M.goes goes
  other_goes (Answered number answer) of may goes = M.goes goes
  other_goes LookedAtPause of may goes = M.goes goes
  other_goes LookedAtSlots of may goes = M.goes goes
  other_goes (LookedAtHost page) of may goes = M.goes goes
  other_goes (BroughtIn page) of may goes = let G = M.goes goes in record { logged = G.logged; images = G.images }
  other_goes (Accessed gfn word op frame before) of may goes = record {
    logged = (M.goes goes).logged;
    images = accessed f gfn word op may.3.page may.3.behind (all_armed z f past u M goes) z frame before (M.goes goes).images;
  }
  other_goes (Exited answer) of may goes = M.goes goes
  other_goes (HostChanged page entry) of may goes = let G = M.goes goes in record { logged = G.logged; images = G.images }
  other_goes _ of may goes = absurd of

  other_at : (kind : EventKind) → IsOfGuests kind → IsAllowed z f past a v kind
      → AtStage (facts_after kind f) (past_after a kind f past) u.line.command u.stage
  other_at (Begun line) of may = still_at f f.host past (past_begun a (written_frame line.command) past) u.line.command u.stage (begun_due a _ past) M.at
  other_at (Answered number answer) of may =
      still_at f f.host past (past_after a (Answered number answer) f past) u.line.command u.stage (λ gfn is. is) M.at
  other_at LookedAtPause of may = M.at
  other_at LookedAtSlots of may = M.at
  other_at (LookedAtHost page) of may = M.at
  other_at (BroughtIn page) of may = still_at f (facts_after (BroughtIn page) f).host past past u.line.command u.stage (λ gfn is. is) M.at
  other_at (Accessed gfn word op frame before) of may =
      access_at f past gfn word op frame before u.line.command u.stage may.3 (all_armed z f past u M) M.at
  other_at (Exited answer) of may = M.at
  other_at (HostChanged page entry) of may = still_at f (facts_after (HostChanged page entry) f).host past past u.line.command u.stage (λ gfn is. is) M.at
  other_at _ of may = absurd of

  pub other_managed : (kind : EventKind) → IsAllowed z f past a v kind → IsGuests v → IsManaged z (facts_after kind f) (past_after a kind f past) u
  other_managed kind may G = let of = guests_tell z f past a v kind may G in record {
    slots = armed_after z f past a v kind may M.slots;
    logs = other_logs kind of;
    goes = other_goes kind of may;
    at = other_at kind of may;
  }
