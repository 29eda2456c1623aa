-- Whether invalidations are open over a guest frame, or were since a snapshot of their sequence number (locking.rst; mmu_invalidate_seq,
-- mmu_invalidate_in_progress and their range).
use Rattle.std.specs.Prelude.{◌≡◌, ◌≢◌, ◌<◌, ◌≤◌, ◌⊎◌, ◌==◌, ℕ, if◌then◌else◌, false, Some, None}
use Rattle.core_views.specs.declared.place.CheckStage.{CheckStage}
use Rattle.core_views.specs.declared.place.CheckStage.TheVariants.{Count, Start, End, Seq}
use Rattle.core_views.specs.declared.topics.Checked.TheVariants as checked
use Rattle.core_views.specs.declared.topics.Invalidations.{Invalidations}
use Rattle.core_views.specs.declared.topics.Topics.{Topics}
use Rattle.spte_words.specs.declared.area.Area.{Area}
use Rattle.spte_words.specs.declared.area.Area.TheVariants as area
use Rattle.part_steps.specs.declared.part_step.PartStep.{PartStep}
use Rattle.part_steps.specs.declared.part_step.PartStep.TheVariants as part
use Rattle.part_steps.specs.PartHoldings.{IsFresh}
use Rattle.step_seats.specs.declared.turn.Turn.{Turn}
use Rattle.step_seats.specs.declared.turn.Turn.TheVariants.{More, Wait, Retry, Done}
use Rattle.invalidate_seq.specs.declared.check.Checked.{Checked}
use Rattle.invalidate_seq.specs.declared.check.Checked.TheVariants.{Fresh, Open, Moved}
use Rattle.mmu_core.specs.machine.View.{word_in}
use Rattle.step_seats.specs.PartTurns.{WherePartMade}
use Rattle.step_seats.specs.Seats.{Seat}

-- The number that was found is kept as the snapshot, with which a look-up begins: no slot set and no host word is held. Nothing else
-- that the actor holds has changed, but how far a check has come.
abbrev pub TakesSnapshot : Turn ℕ → Topics → Topics → Type 0
TakesSnapshot (Done n) before after =
    after ≡ record before {
      search = record before.search { set = None; whole = false };
      host = None;
      invalidations = record before.invalidations { snapshot = Some n; checked = after.invalidations.checked };
    }
TakesSnapshot More before after = ⊥
TakesSnapshot (Wait seen) before after = ⊥
TakesSnapshot (Retry cause) before after = ⊥

-- the step that loads a stage's word, where that word stands, and where it is kept
abbrev pub load_of : CheckStage → PartStep
load_of Count = part.Count
load_of Start = part.RangeStart
load_of End = part.RangeEnd
load_of Seq = part.Seq

abbrev pub area_of : CheckStage → Area
area_of Count = area.Count
area_of Start = area.RangeStart
area_of End = area.RangeEnd
area_of Seq = area.Seq

abbrev pub loaded : CheckStage → Invalidations → ℕ
loaded Count kept = kept.count
loaded Start kept = kept.start
loaded End kept = kept.end
loaded Seq kept = kept.seq

-- The stage's word was loaded, and nothing else that the actor holds has changed, but how far the check has come.
abbrev pub LoadsOnly : CheckStage → Topics → Topics → Type 0
LoadsOnly Count before after =
    after ≡ record before { invalidations = record before.invalidations { count = after.invalidations.count; checked = after.invalidations.checked } }
LoadsOnly Start before after =
    after ≡ record before { invalidations = record before.invalidations { start = after.invalidations.start; checked = after.invalidations.checked } }
LoadsOnly End before after =
    after ≡ record before { invalidations = record before.invalidations { end = after.invalidations.end; checked = after.invalidations.checked } }
LoadsOnly Seq before after =
    after ≡ record before { invalidations = record before.invalidations { seq = after.invalidations.seq; checked = after.invalidations.checked } }

-- Some invalidation is open, and their range contains the guest frame.
abbrev pub IsOpenOver : ℕ → Invalidations → Type 0
IsOpenOver gfn kept = (0 < kept.count) × (kept.start ≤ gfn) × (gfn < kept.end)

-- What the words that were loaded before a stage have told: the range is looked at where some invalidation is open, and the sequence
-- number where none is open, or after a range that doesn't contain the guest frame.
abbrev pub Stands : CheckStage → ℕ → Invalidations → Type 0
Stands Count gfn kept = Unit {0}
Stands Start gfn kept = (kept.checked ≡ checked.Count) × (0 < kept.count)
Stands End gfn kept = (kept.checked ≡ checked.Start) × (0 < kept.count)
Stands Seq gfn kept = ((kept.checked ≡ checked.Count) × (kept.count ≡ 0)) ⊎ ((kept.checked ≡ checked.Range) × ((gfn < kept.start) ⊎ (kept.end ≤ gfn)))

-- The same after the load of the stage's word.
abbrev pub StandsBehind : CheckStage → ℕ → Invalidations → Type 0
StandsBehind Count gfn kept = kept.checked ≡ checked.Count
StandsBehind Start gfn kept = (kept.checked ≡ checked.Start) × (0 < kept.count)
StandsBehind End gfn kept = (kept.checked ≡ checked.Range) × (0 < kept.count)
StandsBehind Seq gfn kept = (kept.checked ≡ checked.All) × ((kept.count ≡ 0) ⊎ (gfn < kept.start) ⊎ (kept.end ≤ gfn))

-- What a turn says by the stage whose word it loaded, and the stage that it leaves the check at: the range comes next exactly where some
-- invalidation is open, and the sequence number where none is, or after a range that doesn't contain the guest frame. A check ends with
-- Open after the range alone, and with Fresh or Moved after the sequence number alone: with Fresh where the look-up is fresh.
abbrev pub ChecksBy : CheckStage → Turn Checked → CheckStage → ℕ → Invalidations → Type 0
ChecksBy Count More next gfn kept = next ≡ (if kept.count == 0 then Seq else Start)
ChecksBy Start More next gfn kept = next ≡ End
ChecksBy End More next gfn kept = (next ≡ Seq) × (IsOpenOver gfn kept → ⊥)
ChecksBy End (Done (Open count start end)) next gfn kept = (next ≡ End) × IsOpenOver gfn kept × (count ≡ kept.count) × (start ≡ kept.start) × (end ≡ kept.end)
ChecksBy Seq (Done Fresh) next gfn kept = (next ≡ Seq) × IsFresh gfn kept
ChecksBy Seq (Done (Moved snapshot seq)) next gfn kept =
    (next ≡ Seq) × (IsOpenOver gfn kept → ⊥) × (kept.snapshot ≡ Some snapshot) × (kept.seq ≡ seq) × (seq ≢ snapshot)
ChecksBy stage answer next gfn kept = ⊥

-- the most turns that are left from a stage on
abbrev pub check_turns : CheckStage → ℕ
check_turns Count = 4
check_turns Start = 3
check_turns End = 2
check_turns Seq = 1

-- The snapshot that is kept was the sequence number where it was loaded.
abbrev pub WasSequence : ℕ → Seat → Seat → Type 0
WasSequence note before after =
    WherePartMade part.Seq note before after (λ w v. after.hand.topics.invalidations.snapshot ≡ Some (word_in before.hand.state.sizes w area.Seq 0))

-- What is kept of the stage was its word where it was loaded.
abbrev pub WasStageWord : CheckStage → ℕ → Seat → Seat → Type 0
WasStageWord stage note before after =
    WherePartMade (load_of stage) note before after
    (λ w v. loaded stage after.hand.topics.invalidations ≡ word_in before.hand.state.sizes w (area_of stage) 0)
