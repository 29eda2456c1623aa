-- The stage of a line after it has changed a host page, and how many pages a run has.
use Rattle.std.proofs.Common.{◌≡◌, ◌⊎◌, inl, inr, ◌+◌, ◌==◌, ℕ, zero, suc, Bool, true, false, refl, sym, ap, ◌∙◌, subst, if◌then◌else◌}
use Rattle.core_views.specs.declared.host.HostEntry.{HostEntry}
use Rattle.core_views.specs.declared.trace.Command.{Command}
use Rattle.core_views.specs.declared.trace.Command.TheVariants.{ChangeHost, ChangeRun}
use Rattle.core_views.specs.declared.trace.HostChange.{HostChange}
use Rattle.core_views.specs.declared.trace.RunChange.{RunChange}
use Rattle.core_views.specs.declared.trace.RunChange.TheVariants.{Huge, Small}
use Rattle.core_views.specs.Events.{stage_changed}
use Rattle.core_views.specs.declared.actor.Actor.{Actor}
use Rattle.core_views.specs.declared.event.EventKind.TheVariants.{HostChanged}
use Rattle.core_views.specs.declared.sizes.Sizes.{Sizes}
use Rattle.core_views.specs.Flat.{Facts, Fresh, HasChangedHost, HasToSet, LineUnderWay, Stage}
use Rattle.core_views.specs.Lawful.{IsAllowed}
use Rattle.core_views.specs.Past.{Past}
use Rattle.core_views.specs.Host.{HostMap}
use Rattle.core_views.specs.HostRuns.{level_set, run_count, run_pages}
use Rattle.core_views.specs.Stages.{set_one}

set_each : (P : Stage → Type 0) → ((page left level : ℕ) → P (HasToSet page left level)) → (page left level : ℕ) → P (set_one page left level)
set_each P more page zero level = more page zero level
set_each P more page (suc left) level = more (page + 1) left level

-- What holds of each stage after such a change holds of the one.
pub each_change : (P : Stage → Type 0) → ((entry : HostEntry) → P (HasChangedHost entry)) → ((page left level : ℕ) → P (HasToSet page left level))
    → (command : Command) (host : HostMap) (stage : Stage) (page : ℕ) (entry : HostEntry) → P (stage_changed command host stage page entry)
each_change P one more command host (HasToSet next left level) page entry = set_each P more next left level
each_change P one more (ChangeRun at change) host _ page entry = set_each P more page (run_count change (host at)) (level_set change)
each_change P one more _ host _ page entry = one entry

-- A run has a page at least.
pub some_pages : (level : ℕ) → (n : ℕ) × (run_pages level ≡ suc n)
some_pages level = by (level == 3) (level == 2)
  where
    by : (largest large : Bool) → (n : ℕ) × ((if largest then 262144 else if large then 512 else 1) ≡ suc n)
    by true large = (262143, refl)
    by false true = (511, refl)
    by false false = (0, refl)

pub some_set : (change : RunChange) (entry : HostEntry) → (n : ℕ) × (run_count change entry ≡ suc n)
some_set (Huge level) entry = some_pages level
some_set Small entry = some_pages entry.level

-- A change is of one page, where it is neither the first nor a later one of a run.
pub only_one : {A B C D : Type 0} → A ⊎ (B ⊎ C) → (A → D) → (B → ⊥) → (C → ⊥) → D
only_one (inl one) goes first later = goes one
only_one (inr (inl set)) goes first later = absurd (first set)
only_one (inr (inr set)) goes first later = absurd (later set)

pub changed_one : (command : Command) (host : HostMap) (stage : Stage) (page : ℕ) (entry : HostEntry) (at : ℕ) (change : HostChange) → stage ≡ Fresh
    → command ≡ ChangeHost at change → stage_changed command host stage page entry ≡ HasChangedHost entry
changed_one command host stage page entry at change fresh asked =
    ap (λ (s : Stage). stage_changed command host s page entry) fresh ∙ ap (λ (c : Command). stage_changed c host Fresh page entry) asked

-- What holds of a line that has done nothing, and of one that has yet to set pages, holds of one that changes a host page.
pub changes_at : (P : Stage → Type 0) → P Fresh → ((page left level : ℕ) → P (HasToSet page left level)) → (z : Sizes) (f : Facts) (past : Past) (actor : Actor)
    (u : LineUnderWay) (page : ℕ) (entry : HostEntry) → IsAllowed z f past actor u (HostChanged page entry) → P u.stage
changes_at P fresh sets z f past actor u page entry (inl may) = subst P (sym may.0) fresh
changes_at P fresh sets z f past actor u page entry (inr (inl may)) = subst P (sym may.0) fresh
changes_at P fresh sets z f past actor u page entry (inr (inr may)) = subst P (sym may.stands) (sets page (suc may.left) (level_set may.change))
