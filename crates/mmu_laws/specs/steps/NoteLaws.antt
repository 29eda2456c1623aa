-- What the notes of steps tell of the ends of their lines.
use Rattle.std.specs.Prelude.{◌≡◌, ◌+◌, ◌⊎◌, ℕ, Bool, true, ◌==◌, ◌&&◌, ◌||◌, not, nat_lt, if◌then◌else◌, Option, None, Some, is_some}
use Rattle.core_views.specs.declared.kind.Kind.{Kind}
use Rattle.core_views.specs.declared.kind.StepKind.TheVariants as kind
use Rattle.core_views.specs.declared.place.Place.{Place}
use Rattle.core_views.specs.declared.sizes.Sizes.{Sizes}
use Rattle.core_views.specs.declared.topics.HostLook.{HostLook}
use Rattle.core_views.specs.declared.topics.HostRow.{HostRow}
use Rattle.core_views.specs.declared.topics.Topics.{Topics}
use Rattle.core_views.specs.declared.trace.Command.TheVariants.{ChangeRun}
use Rattle.core_views.specs.declared.trace.RunChange.{RunChange}
use Rattle.core_views.specs.declared.trace.RunChange.TheVariants.{Small}
use Rattle.core_views.specs.Held.{Held}
use Rattle.core_views.specs.HostRuns.{run_count}
use Rattle.core_views.specs.Kinds.{kind_named}
use Rattle.spte_words.specs.Areas.{place}
use Rattle.core_views.specs.Host.{is_huge}
use Rattle.mmu_core.specs.forms.host.HostSteps.{entry_of}
use Rattle.mmu_core.specs.forms.host_run.HostRunSteps.{fits, wants_small}
use Rattle.mmu_core.specs.declared.outcome.Outcome.{Outcome}
use Rattle.mmu_core.specs.forms.access.AccessSteps.{ends_with}
use Rattle.mmu_core.specs.declared.claim.FreeMap.{FreeMap}
use Rattle.mmu_core.specs.orders.ClaimSteps.{map_area, map_words}
use Rattle.mmu_core.specs.lines.ScanPlaces.{ends_with_claim}
use Rattle.mmu_core.specs.machine.Enabled.{Enabled}
use Rattle.mmu_core.specs.machine.Steps.{has_line, place_at}
use Rattle.part_steps.specs.ControlBits.{has_to_flush}
use Rattle.part_steps.specs.Tasks.{map_of}
use Rattle.part_steps.specs.TopicSteps.{topics_after}
use Rattle.mmu_core.specs.machine.Turns.{line_of, outcome_of}
pub use Rattle.mmu_laws.specs.forms.host.HostNotes.{LooksAtPage}
pub use Rattle.mmu_laws.specs.forms.host_run.HostRunNotes.{LooksInRun}
pub use Rattle.mmu_laws.specs.forms.log.LogNotes.{AwaitsLast}

-- The step of this place loads the last word of the map of what is free, for a claim with which its line may end.
pub record LoadsLastWord (p : Place) (z : Sizes) (k : Kind) : Type 0 where
  pub map : FreeMap
  pub ends : ends_with_claim map p ≡ true
  pub loads : kind_named k.code ≡ kind.Control
  pub last : k.word + 1 ≡ place (map_of z) (map_area map) (map_words map z)

-- The note of a step that found v is 1 where its line is answered with it, and 0 where the line goes on. But that of the load of the last
-- word of a map is 1, and the line is answered with this load exactly where it found 0; that of the look at the last virtual processor is 1, and the line
-- is answered with it exactly where this one has no flush to make; and that of the look at the host page to be changed is 1, and the line is answered with it
-- exactly where the page is part of a large one. What the note of a look at a page of a run tells stands below.
pub record NoteTells (p : Place) (z : Sizes) (k : Kind) (o : Outcome) (v : ℕ) : Type 0 where
  pub tells : (k.note ≡ ends_with o) ⊎ LoadsLastWord p z k ⊎ AwaitsLast p z k ⊎ LooksAtPage p k ⊎ LooksInRun p k
  pub last : LoadsLastWord p z k → (k.note ≡ 1) × (ends_with o ≡ (if v == 0 then 1 else 0))
  pub awaits : AwaitsLast p z k → (k.note ≡ 1) × (ends_with o ≡ (if has_to_flush v then 0 else 1))
  pub looks : LooksAtPage p k → (k.note ≡ 1) × (ends_with o ≡ (if is_huge (entry_of v) then 1 else 0))

-- By what the line has seen of its run, with the look that found v, it is refused: the run is to be one, and this page is part of a large one; or all its pages
-- were looked at, and they can't be mapped as one. It is, too, where it has seen no page.
abbrev pub refuses_run : RunChange → Option HostLook → HostRow → ℕ → Bool
refuses_run change None row v = true
refuses_run change (Some look) row v =
    (wants_small change && is_huge (entry_of v)) || (not (nat_lt row.looked (run_count change (entry_of look.word))) && not (fits change look row))

-- The line is answered with the look exactly where it is refused so. The note is 1; or 0, where the pages of a large one are to be small ones, and then the
-- line goes on where it has seen a page.
pub record RunNoteTells (change : RunChange) (seen : Topics) (k : Kind) (o : Outcome) (v : ℕ) : Type 0 where
  pub note : (k.note ≡ 1) ⊎ ((k.note ≡ 0) × (change ≡ Small))
  pub ends : ends_with o ≡ (if refuses_run change seen.host seen.row v then 1 else 0)
  pub goes : k.note ≡ 0 → is_some seen.host ≡ true → ends_with o ≡ 0

-- So is each look of such a line, by what its actor holds after it.
abbrev pub RunLookTells : Held → Kind → ℕ → Type 0
RunLookTells h k v =
    (page : ℕ) (change : RunChange) → (line_of h).command ≡ ChangeRun page change → LooksInRun (place_at h.state.place h) k
    → RunNoteTells change (topics_after h.state.sizes k h.topics v) k (outcome_of h v) v

-- So are the notes of all lines' steps, whatever they find.
abbrev pub NotesTellEnds : Type 0
NotesTellEnds =
    (h : Held) (k : Kind) (v : ℕ) → Enabled h k → has_line h ≡ true
    → NoteTells (place_at h.state.place h) h.state.sizes k (outcome_of h v) v × RunLookTells h k v
