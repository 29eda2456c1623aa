-- Which steps of the parts leave it so that no invalidation was seen open, and that a claim has seen no page or frame.
use Rattle.std.proofs.Common.{◌≡◌, ℕ, refl, nat_lt}
use Rattle.std.specs.Prelude.{Bool, true, false, ◌==◌, ◌&&◌, if◌then◌else◌}
use Rattle.core_views.specs.declared.topics.Checked.{Checked}
use Rattle.core_views.specs.declared.topics.Checked.TheVariants as checked
use Rattle.core_views.specs.declared.topics.Topics.{Topics}
use Rattle.part_steps.specs.declared.part_step.PartStep.{PartStep}
use Rattle.part_steps.specs.declared.part_step.PartStep.TheVariants as part
use Rattle.part_steps.specs.PartTopics.{part_topics}
use Rattle.part_steps.specs.ControlTopics.{range_checked, seq_checked, start_checked}
use Rattle.mmu_core.specs.orders.ClaimSteps.{FreeMap, Pages, Frames, claim_over}
use Rattle.mmu_core.specs.lines.PartWaits.{saw_open, was_counted, own_open}
use Rattle.part_steps.specs.StayTopics.{has_lock}
use Rattle.mmu_core.proofs.forms.access.FaultScans.{maps}
use Rattle.part_steps.specs.ControlTopics.{end_known, start_known}

-- After a load of the range or of the sequence number the check is further than the count, or begins anew.
pub start_not_open : (c : Checked) (b : Bool) → (was_counted (start_checked c) && b) ≡ false
start_not_open checked.Count b = refl
start_not_open _ b = refl

pub range_not_open : (c : Checked) (b : Bool) → (was_counted (range_checked c) && b) ≡ false
range_not_open checked.Start b = refl
range_not_open _ b = refl

pub seq_not_open : (locked : Bool) (n : ℕ) (c : Checked) (b : Bool) → (was_counted (seq_checked locked n c) && b) ≡ false
seq_not_open locked n checked.Count b = by (n == 0)
  where
    by : (none : Bool) → (was_counted (if none then checked.All else checked.Nothing) && b) ≡ false
    by true = refl
    by false = refl
seq_not_open locked n checked.Range b = refl
seq_not_open locked n checked.Nothing b = by locked
  where
    by : (has : Bool) → (was_counted (if has then checked.Seq else checked.Nothing) && b) ≡ false
    by true = refl
    by false = refl
seq_not_open locked n _ b = refl

-- After a store of the range it is counted no more than before.
pub start_known_open : (c : Checked) (b : Bool) → (was_counted c && b) ≡ false → (was_counted (start_known c) && b) ≡ false
start_known_open checked.Count b closed = refl
start_known_open _ b closed = closed

pub end_known_open : (c : Checked) (b : Bool) → (was_counted c && b) ≡ false → (was_counted (end_known c) && b) ≡ false
end_known_open checked.Start b closed = refl
end_known_open _ b closed = closed

-- The step loads the count of open invalidations.
abbrev pub counts : PartStep → Bool
counts part.Count = true
counts _ = false

pub closed_on : (step : PartStep) (t : Topics) (v : ℕ) → counts step ≡ false → saw_open t.invalidations ≡ false
    → saw_open (part_topics step t v).invalidations ≡ false
closed_on part.Count t v other closed = absurd (cc other)
closed_on part.RangeStart t v other closed = start_not_open t.invalidations.checked (nat_lt (own_open t.invalidations) t.invalidations.count)
closed_on part.RangeEnd t v other closed = range_not_open t.invalidations.checked (nat_lt (own_open t.invalidations) t.invalidations.count)
closed_on part.Seq t v other closed =
    seq_not_open (has_lock t.hold) t.invalidations.count t.invalidations.checked (nat_lt (own_open t.invalidations) t.invalidations.count)
closed_on (part.SetStart first gfn) t v other closed = start_known_open t.invalidations.checked (nat_lt (own_open t.invalidations) t.invalidations.count) closed
closed_on (part.SetEnd last gfn) t v other closed = end_known_open t.invalidations.checked (nat_lt (own_open t.invalidations) t.invalidations.count) closed
closed_on (part.SetCount count) t v other closed = refl
closed_on (part.SetSeq seq) t v other closed = refl
closed_on part.Enter t v other closed = refl
closed_on part.Leave t v other closed = refl
closed_on part.Begin t v other closed = refl
closed_on part.End t v other closed = refl
closed_on part.Share t v other closed = refl
closed_on part.Unshare t v other closed = refl
closed_on part.Exclude t v other closed = refl
closed_on part.Release t v other closed = refl
closed_on _ t v other closed = closed

-- Without the lock nothing was counted under it, so it stays with each step, whoever makes it.
counted_none : (locked b : Bool) → locked ≡ false → (was_counted (if locked then checked.Count else checked.Nothing) && b) ≡ false
counted_none true b is = absurd (cc is)
counted_none false b is = refl

pub closed_without : (step : PartStep) (t : Topics) (v : ℕ) → (has_lock t.hold ≡ false → saw_open t.invalidations ≡ false)
    → has_lock (part_topics step t v).hold ≡ false
    → saw_open (part_topics step t v).invalidations ≡ false
closed_without part.Count t v closed none = counted_none (has_lock t.hold) (nat_lt (own_open t.invalidations) v) none
closed_without part.Share t v closed none = refl
closed_without part.Unshare t v closed none = refl
closed_without part.Exclude t v closed none = refl
closed_without part.Release t v closed none = refl
closed_without step t v closed none = closed_on step t v refl (closed none)

pub unseen_on : (map : FreeMap) (step : PartStep) (t : Topics) (v : ℕ) → maps map step ≡ false → (claim_over map t).seen ≡ 0
    → (claim_over map (part_topics step t v)).seen ≡ 0
unseen_on Pages (part.Map word) t v other none = absurd (cc other)
unseen_on Pages part.Claim t v other none = absurd (cc other)
unseen_on Pages part.Give t v other none = refl
unseen_on Pages part.GiveOld t v other none = refl
unseen_on Pages _ t v other none = none
unseen_on Frames (part.FrameMap word) t v other none = absurd (cc other)
unseen_on Frames part.Frame t v other none = absurd (cc other)
unseen_on Frames part.GiveFrame t v other none = refl
unseen_on Frames _ t v other none = none
