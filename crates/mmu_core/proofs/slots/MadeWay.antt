-- A slot line that has made way for its publication: what it knows of its invalidation, which stays up to the publication, and what follows from it.
use Rattle.std.proofs.Common.{◌≡◌, ◌≤◌, ℕ, Bool, true, false, refl, sym, subst, ap, ◌∙◌, arith}
use Rattle.std.specs.Prelude.{◌==◌, ◌&&◌, not, nat_lt, if◌then◌else◌, Option, Some, None, is_some}
use Rattle.std.proofs.lemmas.Bool.Decides.{nat_tests}
use Rattle.core_views.specs.declared.sizes.Sizes.{Sizes}
use Rattle.core_views.specs.declared.topics.Flush.{Flush}
use Rattle.core_views.specs.declared.topics.Hold.{Hold}
use Rattle.core_views.specs.declared.topics.Hold.TheVariants.{Loose, Exclusive}
use Rattle.core_views.specs.declared.topics.Invalidated.{Invalidated}
use Rattle.core_views.specs.declared.topics.Invalidations.{Invalidations}
use Rattle.core_views.specs.declared.topics.Topics.{Topics}
use Rattle.core_views.specs.declared.trace.Slot.{Slot}
use Rattle.part_steps.specs.declared.invalidations.Target.TheVariants as aim
use Rattle.part_steps.specs.declared.part_step.PartStep.TheVariants as part
use Rattle.part_steps.specs.ControlTopics.{count_checked}
use Rattle.part_steps.specs.InvalidationRange.{IsAimed, run_of_look}
use Rattle.part_steps.specs.LockHoldings.{HasFlushedAll}
use Rattle.part_steps.specs.SetHoldings.{OwnsSet, own_open}
use Rattle.part_steps.specs.PartSteps.{IsFree}
use Rattle.part_steps.specs.PartTopics.{part_topics}
use Rattle.part_steps.specs.StayTopics.{no_flush}
use Rattle.mmu_core.specs.orders.InvalidateKnows.{FramesAre, IsFlushedOut, IsOpen}
use Rattle.mmu_core.specs.lines.LockKnows.{HoldsLock}
use Rattle.mmu_core.specs.lines.PartWaits.{saw_open, was_counted}
use Rattle.mmu_core.specs.forms.slot_change.SlotChangeKnows.{Fits, HasMadeWay}
use Rattle.mmu_core.specs.forms.slot_change.SlotChangeSteps.{slot_or_none}
use Rattle.mmu_core.proofs.pages.Owned.{some_filled}
use Rattle.core_views.specs.declared.trace.Command.{Command}
use Rattle.core_views.specs.SlotCommands.{slot_invalidated}
use Rattle.core_views.specs.SlotSets.{MemorySlots}
use Rattle.mmu_core.specs.invariant.Invariant.{IsLiveIn, RecordPart}
use Rattle.mmu_core.proofs.slots.Changes.{invalidated_live}

-- ---- the slot that is moved

pub some_fits : (z : Sizes) (moved : Option Slot) → ((slot : Slot) → moved ≡ Some slot → Fits z slot) → is_some moved ≡ true
    → Fits z (slot_or_none moved)
some_fits z None each some = absurd (cc some)
some_fits z (Some slot) each some = each slot refl

-- The slot that a line moves or deletes, if it does so, is live.
pub way_live : (pool : ℕ → ℕ) (set : ℕ) (slots : MemorySlots) (command : Command) → RecordPart pool set slots → is_some (slot_invalidated slots command) ≡ true
    → (id : ℕ) × IsLiveIn pool set id (slot_or_none (slot_invalidated slots command))
way_live pool set slots command R some = by (slot_invalidated slots command) refl some
  where
    by : (o : Option Slot) → slot_invalidated slots command ≡ o → is_some o ≡ true → (id : ℕ) × IsLiveIn pool set id (slot_or_none o)
    by None is some = absurd (cc some)
    by (Some slot) is some = invalidated_live pool set slots command slot R is

-- Who owns the page of a slot set may change no host page, and so invalidates a slot.
pub owns_aimed : (slot : Slot) (t : Topics) → OwnsSet t → IsAimed (aim.Slot slot) t
owns_aimed slot t O = (ap (λ (owns : Bool). if owns then None else run_of_look t.host t.row) (some_filled t.owned 513 O.whole (omega arith)), tt)

-- Whoever holds nothing but a page is outside, without the lock, and has no table and no set.
pub free_holds : (t : Topics) → IsFree t → HoldsLock Loose t
free_holds t F = record { outside = F.outside; holds = F.loose; no_table = F.no_table; no_set = F.no_set }

pub holds_free : (t : Topics) → HoldsLock Loose t → IsFree t
holds_free t K = record { outside = K.outside; loose = K.holds; no_table = K.no_table; no_set = K.no_set }

-- ---- it has made way

-- No slot is moved.
pub way_free : (z : Sizes) (moved : Option Slot) (t : Topics) → is_some moved ≡ false → t.invalidations.opened ≡ false → HasMadeWay z moved t
way_free z moved t none closed = record {
  opened = closed ∙ sym none;
  of_no_page = λ is. absurd (cc (is, closed));
  flushed = λ slot is. let some = ap is_some is in absurd (cc (some, none));
}

-- Its invalidation has begun.
pub way_begun : (z : Sizes) (moved : Option Slot) (t : Topics) → is_some moved ≡ true → IsOpen t → t.invalidations.own.pages ≡ None
    → FramesAre (aim.Slot (slot_or_none moved)) t.invalidations.own
    → z.vcpus ≤ t.flush.asked → z.vcpus ≤ t.flush.awaited → HasMadeWay z moved t
way_begun z None t some O none F asked awaited = absurd (cc some)
way_begun z (Some was) t some O none F asked awaited = record {
  opened = O.opened;
  of_no_page = λ is. none;
  flushed = λ slot is. subst (λ s. IsFlushedOut z.vcpus s t) (same is) (record {
    opened = O.opened;
    unraised = O.unraised;
    start = F.0;
    end_ = F.1;
    asked = asked;
    awaited = awaited;
  });
}
  where
    same : {slot : Slot} → Some was ≡ Some slot → was ≡ slot
    same e = cc e

-- It says nothing but of its invalidation, while that is open.
pub way_still : (z : Sizes) (moved : Option Slot) (t u : Topics) → u.invalidations.opened ≡ t.invalidations.opened
    → u.invalidations.raised ≡ t.invalidations.raised → u.invalidations.own ≡ t.invalidations.own
    → (t.invalidations.opened ≡ true → u.flush ≡ t.flush) → HasMadeWay z moved t → HasMadeWay z moved u
way_still z moved t u open_ raised own_ flush W = record {
  opened = open_ ∙ W.opened;
  of_no_page = λ is. ap (λ (o : Invalidated). o.pages) own_ ∙ W.of_no_page (sym open_ ∙ is);
  flushed = λ slot is.
      let F = W.flushed slot is in
      let same = flush F.opened in
      record {
        opened = open_ ∙ F.opened;
        unraised = raised ∙ F.unraised;
        start = ap (λ (o : Invalidated). o.start) own_ ∙ F.start;
        end_ = ap (λ (o : Invalidated). o.end) own_ ∙ F.end_;
        asked = subst (λ (f : Flush). z.vcpus ≤ f.asked) (sym same) F.asked;
        awaited = subst (λ (f : Flush). z.vcpus ≤ f.awaited) (sym same) F.awaited;
      };
}

-- Who tries for the lock alone counts flushes anew only with no invalidation open.
kept_flush : (won open_ : Bool) (flush : Flush) → open_ ≡ true → (if won && not open_ then no_flush else flush) ≡ flush
kept_flush won false flush is = absurd (cc is)
kept_flush true true flush is = refl
kept_flush false true flush is = refl

pub way_tried : (z : Sizes) (moved : Option Slot) (t : Topics) (v : ℕ) → HasMadeWay z moved t → HasMadeWay z moved (part_topics part.Exclude t v)
way_tried z moved t v W =
    way_still z moved t (part_topics part.Exclude t v) refl refl refl (λ is. kept_flush (v == 0) t.invalidations.opened t.flush is) W

-- Where it is open, the sequence number isn't raised for it.
pub way_unraised : (z : Sizes) (moved : Option Slot) (t : Topics) → HasMadeWay z moved t → t.invalidations.opened ≡ true → t.invalidations.raised ≡ false
way_unraised z None t W is = let none = W.opened in absurd (cc (none, is))
way_unraised z (Some slot) t W is = (W.flushed slot refl).unraised

-- And each virtual processor was asked for a flush, and awaited.
pub way_flushed : (z : Sizes) (moved : Option Slot) (t : Topics) → HasMadeWay z moved t → HasFlushedAll z.vcpus t
way_flushed z None t W is = let none = W.opened in absurd (cc (none, is))
way_flushed z (Some slot) t W is = let F = W.flushed slot refl in (F.asked, F.awaited)

-- ---- how many are open

-- Who has the lock alone, and finds more open than its own, saw one of others.
pub sees_others : (t : Topics) (v : ℕ) → HoldsLock Exclusive t → own_open t.invalidations ≤ v → (v == own_open t.invalidations) ≡ false
    → saw_open (part_topics part.Count t v).invalidations ≡ true
sees_others t v K counted more =
    ap (λ (k : Hold). was_counted (count_checked k) && nat_lt (own_open t.invalidations) v) K.holds ∙ above (own_open t.invalidations) counted more
  where
    above : (n : ℕ) → n ≤ v → (v == n) ≡ false → nat_lt n v ≡ true
    above n le ne = grind (arith, nat_tests)

-- Who finds none but its own sees none of others.
pub sees_none : (n : Invalidations) → n.count ≡ own_open n → saw_open n ≡ false
sees_none n only = second_not (was_counted n.checked) (not_less (own_open n) n.count only)
  where
    not_less : (m k : ℕ) → k ≡ m → nat_lt m k ≡ false
    not_less m k same = grind (arith, nat_tests)

    second_not : (a : Bool) {b : Bool} → b ≡ false → (a && b) ≡ false
    second_not true e = e
    second_not false e = refl
