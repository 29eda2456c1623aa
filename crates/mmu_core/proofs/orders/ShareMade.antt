-- What a step of sharing the lock comes to, in each of its cases: the step, the exit, and what is held after it.
use Rattle.std.proofs.Common.{◌≡◌, ◌<◌, ℕ, refl, ap, arith}
use Rattle.std.specs.Prelude.{Bool, true, false, if◌then◌else◌}
use Rattle.std.proofs.lemmas.Bool.Decides.{nat_tests}
use Rattle.core_views.specs.declared.topics.Hold.{Hold}
use Rattle.core_views.specs.declared.topics.Hold.TheVariants.{Loose, Shared, Owing}
use Rattle.core_views.specs.declared.topics.Topics.{Topics}
use Rattle.core_views.specs.Held.{Held}
use Rattle.spte_words.specs.declared.area.Area.{Area}
use Rattle.spte_words.specs.declared.area.Area.TheVariants as area
use Rattle.mmu_core.specs.lines.PartWaits.{part_waits}
use Rattle.part_steps.specs.declared.part_step.PartStep.{PartStep}
use Rattle.part_steps.specs.declared.part_step.PartStep.TheVariants as part
use Rattle.part_steps.specs.PartTasks.{part_task}
use Rattle.part_steps.specs.PartSteps.{PartNeeds, counts}
use Rattle.part_steps.specs.PartTopics.{part_topics}
use Rattle.part_steps.specs.StayTopics.{let_go, unchecked}
use Rattle.part_steps.specs.ControlBits.{has_writer}
use Rattle.mmu_core.specs.declared.share.ShareNext.{ShareNext}
use Rattle.mmu_core.specs.declared.share.ShareNext.TheVariants as shares
use Rattle.mmu_core.specs.lines.PartWaits.{is_owing}
use Rattle.mmu_core.specs.orders.ShareSteps.{is_trying, share_left, share_next, share_part}
use Rattle.mmu_core.specs.machine.View.{answer_in}

pub data ShareMade (t : Topics) (v : ℕ) : PartStep → ShareNext → Topics → Type 0 where
  Got : t.hold ≡ Loose → has_writer v ≡ false → ShareMade t v part.Share shares.Shares (record t { hold = Shared; invalidations = unchecked t.invalidations })
  SawWriter : t.hold ≡ Loose → has_writer v ≡ true
      → ShareMade t v part.Share shares.Tries (record t { hold = Owing v; invalidations = unchecked t.invalidations })
  TakesBack : (word : ℕ) → t.hold ≡ Owing word → ShareMade t v part.Unshare shares.Tries (let_go t)

pub share_made : (t : Topics) (v : ℕ) → is_trying t.hold ≡ true → ShareMade t v (share_part t.hold) (share_next t.hold v) (part_topics (share_part t.hold) t v)
share_made t v try_ = by t.hold refl try_
  where
    tried : (writer : Bool) → has_writer v ≡ writer → t.hold ≡ Loose
        → ShareMade t v part.Share (if writer then shares.Tries else shares.Shares)
        (record t { hold = if writer then Owing v else Shared; invalidations = unchecked t.invalidations })
    tried true is loose = SawWriter loose is
    tried false is loose = Got loose is

    by : (k : Hold) → t.hold ≡ k → is_trying k ≡ true → ShareMade t v (share_part k) (share_next k v) (part_topics (share_part k) t v)
    by Loose is try_ = tried (has_writer v) refl is
    by (Owing word) is try_ = TakesBack word is
    by _ is try_ = absurd (cc try_)

-- What its step needs.
pub share_needs : (k : Hold) (h : Held) → h.topics.hold ≡ k → is_trying k ≡ true → PartNeeds (share_part k) h
share_needs Loose h is try_ = is
share_needs (Owing word) h is try_ = ap (λ (x : Hold). counts x) is
share_needs _ h is try_ = absurd (cc try_)

-- It is one of two steps.
pub share_is : (IsSo : PartStep → Type 0) (k : Hold) → IsSo part.Share → IsSo part.Unshare → IsSo (share_part k)
share_is IsSo (Owing word) shares gives = gives
share_is IsSo _ shares gives = shares

-- the most steps that are left of it after one
abbrev pub share_left_after : ShareNext → Hold → ℕ
share_left_after shares.Tries k = share_left k
share_left_after shares.Shares k = 0

-- A step that doesn't wait leaves fewer.
pub share_falls : (t : Topics) (v : ℕ) (step : PartStep) (next : ShareNext) (u : Topics) → ShareMade t v step next u → part_waits step t v ≡ false
    → share_left_after next u.hold < share_left t.hold
share_falls t v _ _ _ (Got loose is) goes = rw loose (omega arith)
share_falls t v _ _ _ (SawWriter loose is) goes = rw loose (omega arith)
share_falls t v _ _ _ (TakesBack word is) goes = absurd (cc (ap is_owing is, goes))

pub no_writer : (v : ℕ) → v ≡ 0 → has_writer v ≡ false
no_writer v e = grind (arith, nat_tests)

-- Where the lock is free the try is the last step.
pub share_comes : (t : Topics) (words : Area → ℕ → ℕ) (a note : ℕ) (step : PartStep) (next : ShareNext) (u : Topics)
    → ShareMade t (answer_in (part_task step a t note) words) step next u → t.hold ≡ Loose → words area.Lock 0 ≡ 0
    → next ≡ shares.Shares
share_comes t words a note _ _ _ (Got loose is) held free = refl
share_comes t words a note _ _ _ (SawWriter loose is) held free = let none = no_writer (words area.Lock 0) free in absurd (cc (none, is))
share_comes t words a note _ _ _ (TakesBack word is) held free = absurd (cc (is, held))
