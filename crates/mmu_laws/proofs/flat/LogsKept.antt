-- Each step keeps the dirty logs of flat memory: after it the words and hands have the logs of the flat state that its events leave.
use Rattle.std.proofs.Common.{◌≡◌, ◌++◌, ℕ, refl}
use Rattle.std.specs.Prelude.{Bool, false, true}
use Rattle.core_views.specs.declared.place.AccessPlace.TheVariants as access
use Rattle.core_views.specs.declared.place.Place.{Place}
use Rattle.core_views.specs.declared.place.Place.TheVariants as place
use Rattle.core_views.specs.declared.place.SlotChangePlace.TheVariants as change
use Rattle.core_views.specs.declared.place.WriteProtectPlace.TheVariants as protect
use Rattle.core_views.specs.declared.sizes.Sizes.{Sizes}
use Rattle.core_views.specs.declared.trace.Command.{Command}
use Rattle.core_views.specs.declared.trace.Command.TheVariants.{Access}
use Rattle.core_views.specs.declared.trace.Line.{Line}
use Rattle.core_views.specs.Events.{after_all}
use Rattle.core_views.specs.Flat.{Flat}
use Rattle.core_views.specs.Sizes.{actors_of}
use Rattle.flat_laws.proofs.Caused.{AreCaused}
use Rattle.flat_laws.proofs.Writes.{AreOfLines}
use Rattle.spte_words.specs.declared.area.Area.TheVariants as area
use Rattle.mmu_core.specs.invariant.Invariant.{Invariant}
use Rattle.mmu_core.specs.invariant.TopicsInvariant.{TopicsInvariant}
use Rattle.mmu_core.specs.lines.Forms.{outcome_at, tells_at}
use Rattle.mmu_core.specs.machine.Outcomes.{answering}
use Rattle.mmu_core.specs.machine.Steps.{beginning, task_at}
use Rattle.mmu_core.specs.machine.View.{View, answer_in, stepped}
use Rattle.mmu_core.proofs.forms.access.AccessParts.{AreSmall}
use Rattle.mmu_core.proofs.machine.Stepping.{IsStep}
use Rattle.log_invariant.specs.LogInvariant.{LogInvariant}
use Rattle.log_invariant.proofs.StepPlaces.{publishes}
use Rattle.mmu_laws.specs.flat.FlatInvariant.{FlatInvariant}
use Rattle.mmu_laws.specs.flat.FlatLogs.{FlatLogs}
use Rattle.mmu_laws.proofs.flat.AwaitLogs.{await_logs}
use Rattle.mmu_laws.proofs.flat.FlatKept.{told_events, told_kinds}
use Rattle.mmu_laws.specs.forms.slot_change.GivenLogs.{LogsGiven}
use Rattle.mmu_laws.proofs.forms.log.HarvestLogs.{harvest_logs}
use Rattle.mmu_laws.proofs.flat.LogsStill.{logs_still}
use Rattle.mmu_laws.proofs.forms.slot_change.PublishLogs.{publish_logs}
use Rattle.mmu_laws.proofs.flat.QuietKinds.{answers_quiet, begins_quiet, quiet_append, quiet_told, tells_of_logs}
use Rattle.mmu_laws.proofs.EachForm.{tells_quiet}
use Rattle.mmu_laws.specs.forms.log.ReadSoFar.{Readings}
use Rattle.mmu_laws.proofs.forms.log.TakenStays.{ends_reading, ends_taking}
use Rattle.mmu_laws.proofs.forms.access.TouchLogs.{touch_logs}

-- What holds of a view and its flat state before a step.
pub record ReadyLogs (z : Sizes) (v : View) (f : Flat) : Type 0 where
  pub small : AreSmall v
  pub holds : Invariant z v
  pub topics : TopicsInvariant z v
  pub covered : LogInvariant z v
  pub given : LogsGiven z v
  pub flat : FlatInvariant z v f
  pub lines : AreOfLines f
  pub caused : AreCaused f.facts f.past
  pub logs : FlatLogs z v f
  pub reads : Readings z v f

-- the logs after the step
abbrev pub KeptLogs : Sizes → View → Flat → ℕ → Line → Command → Place → Type 0
KeptLogs z v f a line command p = FlatLogs z (stepped a line command p v) (after_all (told_events v a line command p) f)

-- A step that tells nothing of logs.
quiet_logs : (z : Sizes) (v : View) (f : Flat) (a : ℕ) (line : Line) (command : Command) (p : Place) → IsStep z v a line command p → ReadyLogs z v f
    → tells_of_logs p ≡ false → publishes p ≡ false → ends_taking p command (v.hand a) ≡ false → KeptLogs z v f a line command p
quiet_logs z v f a line command p S R quiet never on =
    let x : ℕ = answer_in (task_at p command (v.hand a)) v.words in
    let behind : View = stepped a line command p v in
    quiet_told (actors_of z) (behind.words area.Log) (behind.words area.Pool) (behind.words area.Slots 0) behind.hand (v.hand a).state.actor
    (beginning (v.hand a).state.place line ++ told_kinds v a line command p) f
    (quiet_append (beginning (v.hand a).state.place line) (told_kinds v a line command p) (begins_quiet (v.hand a).state.place line)
    (quiet_append (tells_at p command (v.hand a) x) (answering (outcome_at p command (v.hand a) x) line) (tells_quiet p command (v.hand a) x quiet on)
    (answers_quiet (outcome_at p command (v.hand a) x) line)))
    (logs_still z v a line command p never R.small S R.holds R.topics R.covered f R.flat R.lines R.caused R.logs on)

touch_kept : (z : Sizes) (v : View) (f : Flat) (a : ℕ) (line : Line) (command : Command) → IsStep z v a line command (place.Access access.Touch)
    → ReadyLogs z v f → KeptLogs z v f a line command (place.Access access.Touch)
touch_kept z v f a line (Access gfn word op) S R =
    touch_logs z v a line gfn word op S R.holds R.covered f R.small R.topics R.flat R.lines R.caused R.logs
touch_kept z v f a line _ S R = absurd S.holds

-- A step that ends no reading.
other_logs : (z : Sizes) (v : View) (f : Flat) (a : ℕ) (line : Line) (command : Command) (p : Place) → IsStep z v a line command p → ReadyLogs z v f
    → Invariant z (stepped a line command p v) → LogInvariant z (stepped a line command p v) → ends_taking p command (v.hand a) ≡ false
    → KeptLogs z v f a line command p
other_logs z v f a line command (place.Access access.Touch) S R kept covered on = touch_kept z v f a line command S R
other_logs z v f a line command (place.SlotChange change.Publish) S R kept covered on =
    publish_logs z v a line command R.small S R.holds R.topics R.covered f kept covered R.flat R.logs
other_logs z v f a line command (place.SlotChange (change.WriteProtect range protect.Await)) S R kept covered on =
    await_logs z v a line command range R.small S R.holds R.topics R.covered R.given f R.flat R.lines R.caused R.logs
other_logs z v f a line command p S R kept covered on = quiet_logs z v f a line command p S R refl refl on

-- Each step, where the invariants hold after it.
pub logs_kept : (z : Sizes) (v : View) (f : Flat) (a : ℕ) (line : Line) (command : Command) (p : Place) → IsStep z v a line command p → ReadyLogs z v f
    → Invariant z (stepped a line command p v) → LogInvariant z (stepped a line command p v) → KeptLogs z v f a line command p
logs_kept z v f a line command p S R kept covered = by (ends_taking p command (v.hand a)) refl
  where
    by : (b : Bool) → ends_taking p command (v.hand a) ≡ b → KeptLogs z v f a line command p
    by true ends =
        let E = ends_reading p command (v.hand a) ends in
        harvest_logs z v a line command p E.0 R.small E.1 S R.holds R.topics R.covered f R.flat R.lines R.caused R.logs R.reads
    by false on = other_logs z v f a line command p S R kept covered on
