-- What is so once a line is answered that takes pages out of a dirty log (kvm_main.c, kvm_get_dirty_log_protect; vcpu-requests.rst, KVM_REQ_TLB_FLUSH).
use Rattle.std.specs.Prelude.{◌≡◌, ◌<◌, ℕ, All, List, [], ◌∷◌, ◌++◌, Some, true, false, is_some, length}
use Rattle.core_views.specs.declared.answer.Answer.{Answer}
use Rattle.core_views.specs.declared.answer.Answer.TheVariants.{Bits}
use Rattle.core_views.specs.declared.kind.Kind.{Kind}
use Rattle.core_views.specs.declared.sizes.Sizes.{Sizes}
use Rattle.core_views.specs.declared.topics.Hold.TheVariants.{Loose}
use Rattle.core_views.specs.declared.trace.Line.{Line}
use Rattle.core_views.specs.declared.trace.Slot.{Slot}
use Rattle.core_views.specs.Held.{Held}
use Rattle.core_views.specs.LogCommands.{log_read, takes_out}
use Rattle.core_views.specs.Sizes.{actors_of}
use Rattle.core_views.specs.Slots.{contains}
use Rattle.spte_words.specs.declared.area.Area.TheVariants as area
use Rattle.spte_words.specs.declared.spte_kind.SpteKind.TheVariants.{Leaf}
use Rattle.spte_words.specs.Entries.{can_write, kind_of}
use Rattle.part_steps.specs.ControlBits.{has_to_flush}
use Rattle.log_invariant.specs.Covered.{IsCovered, IsLoggedIn}
use Rattle.mmu_core.specs.alone.Leads.{LeadsTo}
use Rattle.mmu_core.specs.invariant.InvalidatedPart.{may_use}
use Rattle.mmu_core.specs.forms.access.Cached.{covers}
use Rattle.mmu_core.specs.machine.Enabled.{mmu}
use Rattle.mmu_core.specs.machine.Machine.{Legal, Step, World, hand_in, run}
use Rattle.mmu_core.specs.machine.Turns.{IsAnswered, line_of}
use Rattle.mmu_core.specs.machine.View.{word_in}
use Rattle.mmu_core.specs.machine.Worlds.{IsStart}
use Rattle.step_seats.specs.LineTurns.{TurnsLine}
use Rattle.step_seats.specs.Moves.{step_by}
use Rattle.step_seats.specs.Seats.{Seat}
use Rattle.step_seats.specs.declared.turn.Turn.TheVariants.{Done}

-- The published slot with this ID has a dirty log, is this one, and has the guest frame.
pub record IsOfLog (z : Sizes) (w : World Held) (slot : Slot) (gfn : ℕ) : Type 0 where
  pub id : ℕ
  pub logged : IsLoggedIn (word_in z w area.Pool) (word_in z w area.Slots 0) id slot
  pub has : contains gfn slot ≡ true

-- The bit of the guest frame's page is set in the log, or some actor owes a mark for the frame.
abbrev pub IsCoveredIn : Sizes → World Held → Slot → ℕ → Type 0
IsCoveredIn z w slot gfn = IsCovered (actors_of z) (word_in z w area.Log) (λ i. (hand_in mmu w i).topics) slot gfn

-- What allows writes to a guest frame of a slot with a dirty log is of one whose writes are covered: each leaf to which links lead from the root, and each
-- translation that a virtual processor may use of what it has cached.
pub record EachWriteIsCovered (z : Sizes) (w : World Held) : Type 0 where
  pub leaves : (slot : Slot) (gfn at entry : ℕ) → IsOfLog z w slot gfn → LeadsTo (word_in z w area.Pool) 4 (word_in z w area.Root 0) gfn at entry
      → kind_of at entry ≡ Leaf → can_write entry ≡ true → IsCoveredIn z w slot gfn
  pub cached : (v : ℕ) (slot : Slot) (gfn : ℕ) → v < z.vcpus → may_use (word_in z w area.State v) (hand_in mmu w v).topics.stay ≡ true → IsOfLog z w slot gfn
      → All (λ t. can_write t.leaf ≡ true → covers gfn t ≡ true → IsCoveredIn z w slot gfn) (hand_in mmu w v).cached.items

-- The lock is given back. Of the flushes, which count anew since the line got the lock, each virtual processor's was asked for, and awaited; the last one with
-- the step that answers the line, which saw this processor outside of the guest, or without a flush to make.
pub record HasEachFlush (before after : Held) (found : ℕ) : Type 0 where
  pub loose : before.topics.hold ≡ Loose
  pub asked : after.topics.flush.asked ≡ before.state.sizes.vcpus
  pub awaited : after.topics.flush.awaited ≡ before.state.sizes.vcpus
  pub last : has_to_flush found ≡ false

-- A turn answers the hand's line, which reads a log, and the seat told a world before it, to which these steps lead from a start.
pub record AnswersReading (z : Sizes) (lines : List Line) (start : World Held) (ss : List (Step Kind)) (before after : Seat) (answer : Answer) : Type 0 where
  pub is_start : IsStart z lines start
  pub legal : Legal mmu start ss
  pub told : before.tells.world ≡ Some (run mmu start ss)
  pub left : length before.hand.answers < length before.hand.lines
  pub reads : is_some (log_read (line_of before.hand).command) ≡ true
  pub turns : TurnsLine (Done answer) before after
  pub says : IsAnswered (line_of before.hand) answer before.hand after.hand

-- A line that takes out what it reads is answered with that only after each virtual processor was asked for a flush, and awaited, without the lock.
abbrev pub ReadingsHaveFlushes : Type 0
ReadingsHaveFlushes =
    (z : Sizes) (lines : List Line) (start : World Held) (ss : List (Step Kind)) (before after : Seat) (words : List ℕ)
    → takes_out z.mode (line_of before.hand).command ≡ true → (A : AnswersReading z lines start ss before after (Bits words))
    → HasEachFlush before.hand after.hand A.turns.makes.found

-- After a turn that answers a line which reads a log, what allows writes in a slot with a log is of a page that is marked, or for which a mark is owed: so it
-- is
-- of the pages that the line has taken.
abbrev pub AfterReadingsWritesAreCovered : Type 0
AfterReadingsWritesAreCovered =
    (z : Sizes) (lines : List Line) (start : World Held) (ss : List (Step Kind)) (before after : Seat) (answer : Answer)
    → (A : AnswersReading z lines start ss before after answer)
    → EachWriteIsCovered z (run mmu start (ss ++ step_by before.actor A.turns.makes.kind ∷ []))
