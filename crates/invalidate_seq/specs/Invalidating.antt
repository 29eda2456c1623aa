-- The words of an invalidation's begin and end, each under the lock alone (kvm_main.c, kvm_mmu_invalidate_begin and kvm_mmu_invalidate_end; locking.rst,
-- mmu_invalidate_seq and mmu_invalidate_in_progress): its begin widens the range of the open ones and counts one more, its end raises the sequence number
-- and counts one less.
use Rattle.std.specs.Prelude.{◌≡◌, ◌+◌, ◌-◌, ◌<◌, ◌≤◌, ℕ, ◌==◌, if◌then◌else◌, true, false}
use Rattle.core_views.specs.declared.place.CheckStage.{CheckStage}
use Rattle.core_views.specs.declared.place.CheckStage.TheVariants as word_of
use Rattle.core_views.specs.declared.topics.Invalidations.{Invalidations}
use Rattle.core_views.specs.declared.topics.Topics.{Topics}
use Rattle.part_steps.specs.declared.part_step.PartStep.{PartStep}
use Rattle.part_steps.specs.declared.part_step.PartStep.TheVariants as part
use Rattle.part_steps.specs.InvalidationRange.{end_with, start_with}
use Rattle.mmu_core.specs.machine.View.{word_in}
use Rattle.step_seats.specs.PartTurns.{WherePartMade}
use Rattle.step_seats.specs.Seats.{Seat}
use Rattle.step_seats.specs.declared.turn.Turn.{Turn}
use Rattle.step_seats.specs.declared.turn.Turn.TheVariants.{More, Done}
use Rattle.invalidate_seq.specs.Checks.{LoadsOnly, area_of, loaded}
use Rattle.invalidate_seq.specs.Stored.{count_stored, ended, raised, started}
use Rattle.invalidate_seq.specs.declared.open.Open.{Open}
use Rattle.invalidate_seq.specs.declared.open.OpenStage.{OpenStage}
use Rattle.invalidate_seq.specs.declared.open.OpenStage.TheVariants as opens
use Rattle.invalidate_seq.specs.declared.shut.Shut.{Shut}
use Rattle.invalidate_seq.specs.declared.shut.ShutStage.{ShutStage}
use Rattle.invalidate_seq.specs.declared.shut.ShutStage.TheVariants as shuts

-- ---- its begin

-- the step of each stage
abbrev pub open_at : OpenStage → ℕ → ℕ → Invalidations → PartStep
open_at opens.Count first end_ n = part.Count
open_at opens.RangeStart first end_ n = part.RangeStart
open_at opens.RangeEnd first end_ n = part.RangeEnd
open_at opens.SetStart first end_ n = part.SetStart first (start_with first end_ n)
open_at opens.SetEnd first end_ n = part.SetEnd end_ (end_with first end_ n)
open_at opens.SetCount first end_ n = part.SetCount (n.count + 1)

abbrev pub open_step : Open → Topics → PartStep
open_step job t = open_at job.stage job.first job.end t.invalidations

-- which word it is on
abbrev pub open_word : OpenStage → CheckStage
open_word opens.Count = word_of.Count
open_word opens.RangeStart = word_of.Start
open_word opens.RangeEnd = word_of.End
open_word opens.SetStart = word_of.Start
open_word opens.SetEnd = word_of.End
open_word opens.SetCount = word_of.Count

-- What is held after the stage's step: a load keeps its word, and a store what it stored. With the ends of the range the actor's own invalidation is of the
-- guest frames from `first` up to `end`, and with its start of the host page that was looked at, if one was; with the count, one more than was loaded, it is
-- open, and the sequence number is yet to be raised for it.
abbrev pub Opens : OpenStage → ℕ → ℕ → Topics → Topics → Type 0
Opens opens.Count first end_ before after = LoadsOnly word_of.Count before after
Opens opens.RangeStart first end_ before after = LoadsOnly word_of.Start before after
Opens opens.RangeEnd first end_ before after = LoadsOnly word_of.End before after
Opens opens.SetStart first end_ before after = after ≡ started first (start_with first end_ before.invalidations) before
Opens opens.SetEnd first end_ before after = after ≡ ended end_ (end_with first end_ before.invalidations) before
Opens opens.SetCount first end_ before after = after ≡ count_stored (before.invalidations.count + 1) true before

-- The stage that comes after it, where this number of open ones is known: the range is loaded where some are, and else it is stored at once.
abbrev pub open_after : OpenStage → ℕ → OpenStage
open_after opens.Count count = if count == 0 then opens.SetStart else opens.RangeStart
open_after opens.RangeStart count = opens.RangeEnd
open_after opens.RangeEnd count = opens.SetStart
open_after opens.SetStart count = opens.SetEnd
open_after opens.SetEnd count = opens.SetCount
open_after opens.SetCount count = opens.SetCount

-- It has begun once the count is stored, and not before.
abbrev pub open_turn : OpenStage → Turn (Unit {0})
open_turn opens.SetCount = Done tt
open_turn _ = More

-- the most turns that are left from a stage on
abbrev pub opens_left : OpenStage → ℕ
opens_left opens.Count = 6
opens_left opens.RangeStart = 5
opens_left opens.RangeEnd = 4
opens_left opens.SetStart = 3
opens_left opens.SetEnd = 2
opens_left opens.SetCount = 1

-- ---- its end

abbrev pub shut_at : ShutStage → Invalidations → PartStep
shut_at shuts.Seq n = part.Seq
shut_at shuts.SetSeq n = part.SetSeq (n.seq + 1)
shut_at shuts.Count n = part.Count
shut_at shuts.SetCount n = part.SetCount (n.count - 1)

abbrev pub shut_step : Shut → Topics → PartStep
shut_step job t = shut_at job.stage t.invalidations

abbrev pub shut_word : ShutStage → CheckStage
shut_word shuts.Seq = word_of.Seq
shut_word shuts.SetSeq = word_of.Seq
shut_word shuts.Count = word_of.Count
shut_word shuts.SetCount = word_of.Count

-- The sequence number is raised by one, for the actor's own invalidation, and one less is open: not its own any more.
abbrev pub Shuts : ShutStage → Topics → Topics → Type 0
Shuts shuts.Seq before after = LoadsOnly word_of.Seq before after
Shuts shuts.SetSeq before after = after ≡ raised (before.invalidations.seq + 1) before
Shuts shuts.Count before after = LoadsOnly word_of.Count before after
Shuts shuts.SetCount before after = after ≡ count_stored (before.invalidations.count - 1) false before

abbrev pub shut_after : ShutStage → ShutStage
shut_after shuts.Seq = shuts.SetSeq
shut_after shuts.SetSeq = shuts.Count
shut_after shuts.Count = shuts.SetCount
shut_after shuts.SetCount = shuts.SetCount

abbrev pub shut_turn : ShutStage → Turn (Unit {0})
shut_turn shuts.SetCount = Done tt
shut_turn _ = More

abbrev pub shuts_left : ShutStage → ℕ
shuts_left shuts.Seq = 4
shuts_left shuts.SetSeq = 3
shuts_left shuts.Count = 2
shuts_left shuts.SetCount = 1

-- ---- the words of the machine

-- Where the step was made, what is kept of this word is what the word holds after the step.
abbrev pub KeepsWord : CheckStage → PartStep → ℕ → Seat → Seat → Type 0
KeepsWord stage step note before after =
    WherePartMade step note before after (λ w v. loaded stage after.hand.topics.invalidations ≡ word_in before.hand.state.sizes v (area_of stage) 0)

-- A range from start up to end has the guest frames from `first` up to `end`, if there are any, and the range of the open invalidations, if some are.
pub record IsWidened (first end_ : ℕ) (n : Invalidations) (start end : ℕ) : Type 0 where
  pub frames : first < end_ → (start ≤ first) × (end_ ≤ end)
  pub open_ones : 0 < n.count → (start ≤ n.start) × (n.end ≤ end)
