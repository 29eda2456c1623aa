-- What a line tells at a place, in a few shapes; and all that laws ask of the places of a simple form, in one record, of which each such form has one.
use Rattle.std.proofs.Common.{◌≡◌, ◌≢◌, ◌⊎◌, ℕ, List, [], ◌∷◌, refl}
use Rattle.std.specs.Prelude.{Option, Some, nat_lt, true, false}
use Rattle.part_steps.specs.ControlBits.{has_to_flush}
use Rattle.core_views.specs.declared.answer.Answer.TheVariants.{Refused}
use Rattle.core_views.specs.declared.answer.Refusal.TheVariants.{NoFrame}
use Rattle.core_views.specs.declared.event.EventKind.{EventKind}
use Rattle.core_views.specs.declared.event.EventKind.TheVariants.{Armed, SlotChanged}
use Rattle.core_views.specs.declared.place.AccessPlace.{AccessPlace}
use Rattle.core_views.specs.declared.place.FrameRange.{FrameRange}
use Rattle.core_views.specs.declared.place.HostPlace.{HostPlace}
use Rattle.core_views.specs.declared.place.HostRunPlace.{HostRunPlace}
use Rattle.core_views.specs.declared.place.LogPlace.{LogPlace}
use Rattle.core_views.specs.declared.place.Place.{Place}
use Rattle.core_views.specs.declared.place.Place.TheVariants as place
use Rattle.core_views.specs.declared.place.SlotChangePlace.TheVariants.{WriteProtect}
use Rattle.core_views.specs.declared.place.WriteProtectPlace.TheVariants as protect
use Rattle.core_views.specs.declared.memory_slot.MemorySlot.{MemorySlot}
use Rattle.core_views.specs.declared.trace.Command.{Command}
use Rattle.core_views.specs.declared.trace.Command.TheVariants.{Access, ChangeHost, ChangeRun}
use Rattle.core_views.specs.declared.trace.HostChange.{HostChange}
use Rattle.core_views.specs.declared.trace.RunChange.{RunChange}
use Rattle.core_views.specs.declared.trace.Op.{Op}
use Rattle.core_views.specs.Held.{Held}
use Rattle.part_steps.specs.declared.part_step.PartStep.TheVariants as part
use Rattle.mmu_core.specs.declared.outcome.Outcome.TheVariants.{Ends}
use Rattle.mmu_core.specs.forms.access.AccessSteps.{access_tells, exiting}
use Rattle.mmu_core.specs.lines.Forms.{RestsAt, outcome_at, part_at, tells_at}
use Rattle.mmu_core.specs.forms.host.HostSteps.{host_tells}
use Rattle.mmu_core.specs.forms.host_run.HostRunSteps.{host_run_tells}
use Rattle.mmu_core.specs.forms.log.LogTells.{log_tells}
use Rattle.mmu_core.proofs.lines.LineClaims.{Claims, ClaimsNot, no_claim_between, no_scan_between, to_no_scan}
use Rattle.mmu_core.proofs.machine.PartStepping.{raises}
use Rattle.mmu_core.proofs.lines.LinesKept.{answers_more}
use Rattle.mmu_core.specs.invariant.InvalidationsPart.{has_raised}
use Rattle.mmu_core.specs.machine.Outcomes.{answers_after, place_after}
use Rattle.mmu_core.specs.machine.Sums.{one_if}
use Rattle.mmu_core.specs.declared.outcome.Outcome.{Outcome}
use Rattle.core_views.specs.declared.answer.AnsweredLine.{AnsweredLine}
use Rattle.core_views.specs.declared.trace.Line.{Line}
use Rattle.std.proofs.Common.{◌+◌, ◌≤◌, length, arith}

-- ---- what a step tells

-- At this place, for this command, a step that finds v tells one of these, besides that its line begins or is answered: nothing; an exit, but none for
-- want of a frame; that a log begins, where it publishes, or has awaited the last flush; a slot's change, where it publishes, and then one of these; or what
-- an access, a host line, one that sets a run of host pages or one that reads a dirty log tells.
pub data Told (h : Held) (v : ℕ) : Place → Command → List EventKind → Type 0 where
  Nothing : {p : Place} {c : Command} → Told h v p c []
  Exit : {p : Place} {c : Command} → outcome_at p c h v ≢ Ends (Refused NoFrame) → Told h v p c (exiting (outcome_at p c h v))
  Arms : {p : Place} {c : Command} (id : ℕ) → part_at p c h ≡ Some part.Publish → Told h v p c (Armed id true ∷ [])
  ArmsClean : {c : Command} (range : FrameRange) (id : ℕ) → has_to_flush v ≡ false → nat_lt (h.topics.flush.awaited + 1) h.state.sizes.vcpus ≡ false
      → Told h v (place.SlotChange (WriteProtect range protect.Await)) c (Armed id false ∷ [])
  Change : {p : Place} {c : Command} {more : List EventKind} (id : ℕ) (slot : Option MemorySlot) → part_at p c h ≡ Some part.Publish → Told h v p c more
      → Told h v p c (SlotChanged id slot ∷ more)
  OfAccess : (p : AccessPlace) (gfn word : ℕ) (op : Op) → Told h v (place.Access p) (Access gfn word op) (access_tells p h gfn word op v)
  OfLog : (p : LogPlace) {c : Command} → Told h v (place.Log p) c (log_tells p c h v)
  OfHost : (p : HostPlace) (page : ℕ) (change : HostChange) → Told h v (place.Host p) (ChangeHost page change) (host_tells p page change h v)
  OfHostRun : (p : HostRunPlace) (page : ℕ) (change : RunChange)
      → Told h v (place.HostRun p) (ChangeRun page change) (host_run_tells p page change h v)

-- ---- the sequence number

-- What its step adds to the lines that have raised the number is no less than what it adds to the number.
abbrev pub RaisesOn : Place → Command → Held → ℕ → Type 0
RaisesOn p c h v =
    (line : Line) → length h.answers + one_if (has_raised p) + raises (part_at p c h)
    ≤ length (answers_after (outcome_at p c h v) line h.answers) + one_if (has_raised (place_after (outcome_at p c h v)))

-- Behind a step that doesn't raise it, of a line that hasn't raised it, nothing is taken back.
pub none_raised : (o : Outcome) (line : Line) (answers : List AnsweredLine) (n : ℕ) → n ≡ 0
    → length answers + 0 + n ≤ length (answers_after o line answers) + one_if (has_raised (place_after o))
none_raised o line answers n none = let more = answers_more o line answers in omega (arith, none, more)

-- ---- a place of a simple form

-- A line that stands there tells what it tells, raises the sequence number once at most, and claims a page or a frame or doesn't.
pub record SimplePlace (p : Place) (c : Command) (h : Held) (v : ℕ) : Type 0 where
  pub tells : Told h v p c (tells_at p c h v)
  pub raises : RaisesOn p c h v
  pub claims : RestsAt p c h → Claims p c h v ⊎ ClaimsNot p c h v

-- So it is between lines.
pub between_simple : (c : Command) (h : Held) (v : ℕ) → SimplePlace place.Between c h v
between_simple c h v = record {
  tells = Nothing;
  raises = λ line. none_raised (outcome_at place.Between c h v) line h.answers 0 refl;
  claims = λ R. to_no_scan place.Between c h v no_claim_between (λ map. refl) refl (record { no_scan = no_scan_between; fed = λ map e. cc e });
}
