-- While the guest is stopped memory stands, until it is resumed.
use Rattle.std.proofs.Common.{◌≡◌, ◌≢◌, Bool, true, false, List, [], ◌∷◌, refl, sym, ◌∙◌, subst}
use Rattle.std.specs.Prelude.{None, Some, if◌then◌else◌}
use Rattle.core_views.specs.declared.actor.Actor.{Actor}
use Rattle.core_views.specs.declared.answer.Answer.TheVariants.{Refused}
use Rattle.core_views.specs.declared.answer.Refusal.TheVariants.{NotStarted}
use Rattle.core_views.specs.declared.event.Event.{Event}
use Rattle.core_views.specs.declared.event.EventKind.{EventKind}
use Rattle.core_views.specs.declared.event.EventKind.TheVariants.{Accessed, GuestStopped, MigrationStarted, PauseSet, Resumed}
use Rattle.core_views.specs.declared.migration.Migration.{Migration}
use Rattle.core_views.specs.declared.migration.Migration.TheVariants.{Unstarted, Running, Pausing, Stopped}
use Rattle.core_views.specs.declared.sizes.Sizes.{Sizes}
use Rattle.core_views.specs.declared.trace.Command.{Command}
use Rattle.core_views.specs.declared.trace.Command.TheVariants.{Migrate}
use Rattle.core_views.specs.declared.trace.MigrationCall.TheVariants.{Finish, Start}
use Rattle.core_views.specs.Events.{after, after_all, facts_after}
use Rattle.core_views.specs.Flat.{Facts, Flat, LineUnderWay, first_flat}
use Rattle.core_views.specs.Lawful.{HasWork, IsAllowed, IsLawful}
use Rattle.core_views.specs.Migrations.{is_migrating, is_running, is_stopped}
use Rattle.core_views.specs.Past.{Past}
use Rattle.core_views.proofs.Barred.{unbarred}
use Rattle.flat_laws.specs.MigrationRules.{NoneResumes, StoppedMemoryStands}
use Rattle.flat_laws.proofs.AloneIsLawful.{lawful_parts}
use Rattle.flat_laws.proofs.WrittenSince.{after_append}

stopped_goes : (m : Migration) → is_stopped m ≡ true → (is_migrating m ≡ true) × (is_running m ≡ false)
stopped_goes Unstarted is = absurd (cc is)
stopped_goes Running is = absurd (cc is)
stopped_goes Pausing is = absurd (cc is)
stopped_goes Stopped is = (refl, refl)

-- No migration is started, and none is finished again.
no_start : (z : Sizes) (f : Facts) (actor : Actor) (command : Command) → HasWork z f actor command → command ≡ Migrate Start → is_stopped f.migration ≡ true → ⊥
no_start z f actor command works is stopped =
    let none : is_migrating f.migration ≡ false = (unbarred _ _ (subst (HasWork z f actor) is works)).0 in
    let goes = (stopped_goes f.migration stopped).0 in cc (none, goes)

no_finish : (z : Sizes) (f : Facts) (actor : Actor) (command : Command) → HasWork z f actor command → command ≡ Migrate Finish
    → is_stopped f.migration ≡ true → ⊥
no_finish z f actor command works is stopped =
    by (is_running f.migration) (stopped_goes f.migration stopped).1 (subst (HasWork z f actor) is works)
  where
    by : (b : Bool) → b ≡ false → (if b then None else Some (Refused NotStarted)) ≡ None → ⊥
    by true goes e = cc goes
    by false goes e = cc e

still_stopped : (z : Sizes) (f : Facts) (past : Past) (actor : Actor) (u : LineUnderWay) (kind : EventKind) → IsAllowed z f past actor u kind → kind ≢ Resumed
    → is_stopped f.migration ≡ true → (is_stopped (facts_after kind f).migration ≡ true) × ((facts_after kind f).memory ≡ f.memory)
still_stopped z f past actor u (Accessed gfn word op frame before) may goes_on stopped = let off = may.3.goes in absurd (cc (off, stopped))
still_stopped z f past actor u MigrationStarted may goes_on stopped = absurd (no_start z f actor u.line.command may.1 may.2 stopped)
still_stopped z f past actor u PauseSet may goes_on stopped = absurd (no_finish z f actor u.line.command may.1 may.2 stopped)
still_stopped z f past actor u GuestStopped may goes_on stopped = (refl, refl)
still_stopped z f past actor u Resumed may goes_on stopped = absurd (goes_on refl)
still_stopped z f past actor u _ may goes_on stopped = (stopped, refl)

stands : (z : Sizes) (es : List Event) (f : Flat) → IsLawful z f es → is_stopped f.facts.migration ≡ true → NoneResumes es
    → ((after_all es f).facts.memory ≡ f.facts.memory) × (is_stopped (after_all es f).facts.migration ≡ true)
stands z [] f lawful stopped none = (refl, stopped)
stands z (e ∷ es) f lawful stopped none =
    let now = still_stopped z f.facts f.past e.actor (f.under e.actor) e.kind lawful.0 none.0 stopped in
    let later = stands z es (after e f) lawful.1 now.0 none.1 in (later.0 ∙ now.1, later.1)

pub stopped_stands : StoppedMemoryStands
stopped_stands z before since lawful stopped none =
    subst (λ (end : Flat). (end.facts.memory ≡ (after_all before first_flat).facts.memory) × (is_stopped end.facts.migration ≡ true))
    (sym (after_append before since first_flat))
    (stands z since (after_all before first_flat) (lawful_parts z before since first_flat lawful).1 stopped none)
