-- A line that has taken pages out of a dirty log excuses the use of what is cached of them up to when it has flushed it: its steps keep the excuse.
use Rattle.std.proofs.Common.{ap, arith, inl, inr, refl, subst, sym, ℕ, ◌+◌, ◌<◌, ◌∙◌, ◌≡◌}
use Rattle.std.specs.Int.Bits.{bit_and}
use Rattle.std.specs.Prelude.{Bool, List, None, Option, Some, if◌then◌else◌, nat_lt, not, true, false, ◌||◌}
use Rattle.core_views.specs.declared.place.FrameRange.{FrameRange}
use Rattle.core_views.specs.declared.place.LogPlace.{LogPlace}
use Rattle.core_views.specs.declared.place.LogPlace.TheVariants as log
use Rattle.core_views.specs.declared.topics.Flush.{Flush}
use Rattle.core_views.specs.declared.place.WriteProtectPlace.TheVariants as protect
use Rattle.core_views.specs.declared.topics.Topics.{Topics}
use Rattle.core_views.specs.declared.trace.Command.{Command}
use Rattle.core_views.specs.declared.trace.Slot.{Slot as SlotOf}
use Rattle.core_views.specs.Held.{Held}
use Rattle.spte_words.specs.declared.spte_kind.SpteKind.{SpteKind}
use Rattle.spte_words.specs.declared.spte_kind.SpteKind.TheVariants as entry_kind
use Rattle.spte_words.specs.Entries.{can_write, kind_of}
use Rattle.part_steps.specs.ControlBits.{has_to_flush}
use Rattle.part_steps.specs.PartTopics.{part_topics}
use Rattle.part_steps.specs.SweepTopics.{walk_on}
use Rattle.mmu_core.specs.declared.log_next.LogNext.{LogNext}
use Rattle.mmu_core.specs.declared.log_next.LogNext.TheVariants as next
use Rattle.mmu_core.specs.forms.log.LogKnows.{LogKnows}
use Rattle.mmu_core.specs.forms.log.LogSteps.{after_entry, after_page, log_next, log_part, mask_read, next_page, read_more, reads_last}
use Rattle.mmu_core.specs.forms.log.LogSteps.{slot_asked}
use Rattle.mmu_core.proofs.lines.EitherPlace.{either_place}
use Rattle.log_invariant.specs.Forbidding.{FlushesLater, IsUnflushed}
use Rattle.log_invariant.specs.forms.log.LogReads.{IsRead, taken_by}
use Rattle.mmu_core.proofs.forms.log.ReadingPlaces.{AfterReading}
use Rattle.log_invariant.proofs.forms.log.LogExcuse.{at_hand, taken_next}
use Rattle.log_invariant.proofs.forms.log.ReadFrames.{read_still}
use Rattle.log_invariant.proofs.forms.slot_change.UsesExcused.{ShowsFlush, asked_unflushed, awaited_unflushed}

-- What the state words say, at the places where they say something.
abbrev pub ShowsFlushBy : LogPlace → Topics → ℕ → ℕ → ℕ → ℕ → Type 0
ShowsFlushBy log.Ask t k x state now_ = ShowsFlush protect.Ask t k x state now_
ShowsFlushBy log.Await t k x state now_ = ShowsFlush protect.Await t k x state now_
ShowsFlushBy _ t k x state now_ = Unit {0}

-- a range of no frames
abbrev pub no_frames : FrameRange
no_frames = record { start = 0; end = 0 }

module _ (command : Command) (h : Held) (x : ℕ) (g : Held) (k state now_ gfn : ℕ) (low : k < h.state.sizes.vcpus) where
  abbrev slot : SlotOf
  slot = slot_asked h command

  abbrev t : Topics
  t = h.topics

  -- The flush after the step of a place.
  abbrev FlushesOn : LogPlace → Type 0
  FlushesOn p = g.topics.flush ≡ (part_topics (log_part p h command) t x).flush

  -- It excuses the use, where it comes to this then.
  abbrev Uses : LogNext → Type 0
  Uses n = FlushesLater (taken_next n command g) k now_ gfn

  abbrev UsesAt : LogPlace → Type 0
  UsesAt q = FlushesLater (taken_by q command g) k now_ gfn

  abbrev IsReadThen : Type 0
  IsReadThen = IsRead (slot_asked g command) command g.harvest gfn

  read_then : (words : List ℕ) → g.slots ≡ h.slots → g.harvest ≡ words → IsRead slot command words gfn → IsReadThen
  read_then words slots reads R = at_hand g h.slots words slots reads (λ y. IsRead (slot_asked y command) command y.harvest gfn) R

  -- It goes on to a page, or gives the lock back.
  page_used : (o : Option ℕ) → IsReadThen → UsesAt (after_page o)
  page_used None R = ((refl, R), inl (omega arith))
  page_used (Some page) R = ((refl, R), tt)

  entry_used : (kind : SpteKind) (page : ℕ) (o : Option ℕ) → IsReadThen → UsesAt (after_entry kind page (after_page o) x)
  entry_used (entry_kind.Table below) page o R = ((refl, R), tt)
  entry_used entry_kind.Leaf page o R = either_place UsesAt (can_write x) (log.Protect page) (after_page o) ((refl, R), tt) (page_used o R)
  entry_used entry_kind.Absent page o R = page_used o R
  entry_used entry_kind.Frozen page o R = page_used o R

  -- One is awaited: the line isn't over while this one isn't flushed.
  await_used : LogKnows log.Await command h → AfterReading log.Await command h x g → FlushesOn log.Await → ShowsFlushBy log.Await t k x state now_
      → IsRead slot command h.harvest gfn → IsUnflushed t.flush k state → Uses (log_next log.Await command h x)
  await_used K A flushes T R (inl none) = absurd (let all = K.4 in omega (arith, none, all, low))
  await_used K A flushes T R (inr U) =
      subst Uses (sym goes)
      ((refl, read_then h.harvest A.slots (A.words log.Await goes) R), subst (λ (f : Flush). IsUnflushed f k now_) (sym flushes) on.1)
    where
      same : (b : Bool) → not (not b) ≡ b
      same true = refl
      same false = refl

      on : ((has_to_flush x || nat_lt (t.flush.awaited + 1) h.state.sizes.vcpus) ≡ true)
          × IsUnflushed (part_topics (log_part log.Await h command) t x).flush k now_
      on = awaited_unflushed h.state.sizes no_frames t k x state now_ low (has_to_flush x) refl U.0 U.1 T

      goes : log_next log.Await command h x ≡ next.Goes log.Await
      goes =
          ap (λ (b : Bool). if b then next.Goes log.Await else next.Reads)
          (ap (λ (b : Bool). has_to_flush x || b) (same (nat_lt (t.flush.awaited + 1) h.state.sizes.vcpus)) ∙ on.0)

  -- What it excuses it excuses after its step.
  pub log_used : (p : LogPlace) → LogKnows p command h → AfterReading p command h x g → FlushesOn p → ShowsFlushBy p t k x state now_
      → FlushesLater (taken_by p command h) k state gfn → Uses (log_next p command h x)
  log_used (log.Take true) K A flushes T W =
      either_place UsesAt (reads_last true slot command t) log.Root (log.Take true) ((refl, still), tt) ((refl, still), tt)
    where
      still : IsReadThen
      still =
          read_then (read_more true slot command h x) A.slots (A.words _ refl)
          (read_still slot command h.harvest (bit_and x (mask_read slot command t.next_log_word)) gfn W.0.1)
  log_used (log.Take false) K A flushes T W = absurd (let no = W.0.0 in cc no)
  log_used log.Root K A flushes T W = page_used (next_page slot command h.harvest 0) (read_then h.harvest A.slots (A.words _ refl) W.0.1)
  log_used (log.Walk page) K A flushes T W =
      entry_used (kind_of (walk_on t).level x) page (next_page slot command h.harvest (page + 1)) (read_then h.harvest A.slots (A.words _ refl) W.0.1)
  log_used (log.Protect page) K A flushes T W =
      page_used (next_page slot command h.harvest (page + 1)) (read_then h.harvest A.slots (A.words _ refl) W.0.1)
  log_used log.Release K A flushes T W =
      let none = K.0.unasked in (
        (refl, read_then h.harvest A.slots (A.words _ refl) W.0.1),
        subst (λ (f : Flush). IsUnflushed f k now_) (sym flushes) (inl (omega (arith, none))),
      )
  log_used log.Ask K A flushes T W =
      either_place UsesAt (nat_lt (t.flush.asked + 1) h.state.sizes.vcpus) log.Ask log.Await ((refl, still), asked) ((refl, still), asked)
    where
      still : IsReadThen
      still = read_then h.harvest A.slots (A.words _ refl) W.0.1

      asked : IsUnflushed g.topics.flush k now_
      asked = subst (λ (f : Flush). IsUnflushed f k now_) (sym flushes) (asked_unflushed h.state.sizes no_frames t k x state now_ low W.1 T K.5)
  log_used log.Await K A flushes T W = await_used K A flushes T W.0.1 W.1
  log_used _ K A flushes T W = absurd (let no = W.0.0 in cc no)
