-- What a line that stands outside holds after steps on the lock, on the count of invalidations and on the sequence number.
use Rattle.std.proofs.lemmas.Bool.Decides.{nat_tests}
use Rattle.std.proofs.Common.{◌≡◌, ◌∙◌, ◌==◌, ℕ, refl, ap, nat_lt, arith}
use Rattle.std.specs.Prelude.{Bool, true, false, ◌&&◌, not, if◌then◌else◌}
use Rattle.core_views.specs.declared.topics.Hold.{Hold}
use Rattle.core_views.specs.declared.topics.Hold.TheVariants.{Loose, Exclusive}
use Rattle.core_views.specs.declared.topics.Stay.{Stay}
use Rattle.core_views.specs.declared.topics.Topics.{Topics}
use Rattle.part_steps.specs.ControlTopics.{count_checked}
use Rattle.part_steps.specs.PartSteps.{IsAtRest}
use Rattle.part_steps.specs.PartTopics.{part_topics, sequenced}
use Rattle.part_steps.specs.StayTopics.{is_loose, is_outside, is_section, kept_search, kept_walk, let_go}
use Rattle.part_steps.specs.declared.part_step.PartStep.TheVariants as part
use Rattle.mmu_core.specs.lines.LockKnows.{HoldsLock}
use Rattle.mmu_core.specs.lines.PartWaits.{saw_open, was_counted}

-- Who gives the lock back holds nothing by it.
pub lock_let_go : (hold : Hold) (t : Topics) → HoldsLock hold t → HoldsLock Loose (let_go t)
lock_let_go hold t K = record {
  outside = K.outside;
  holds = refl;
  no_table = ap (λ (s : Stay). (kept_walk (not (is_outside s)) t.walk).level) K.outside;
  no_set = ap (λ (s : Stay). (kept_search (is_section s) t.search).set) K.outside;
}

-- Who is at rest and loads the sequence number is at rest.
pub rests_by_seq : (t : Topics) (v : ℕ) → IsAtRest t → IsAtRest (part_topics part.Seq t v)
rests_by_seq t v K = by (is_loose t.hold)
  where
    by : (b : Bool) → IsAtRest (sequenced b t v)
    by true = record { outside = K.outside; loose = K.loose; owns_none = K.owns_none; owes_none = K.owes_none; no_table = K.no_table; no_set = refl }
    by false = record { outside = K.outside; loose = K.loose; owns_none = K.owns_none; owes_none = K.owes_none; no_table = K.no_table; no_set = K.no_set }

-- Who publishes a slot set holds it as before.
pub lock_publishes : (hold : Hold) (t : Topics) (v : ℕ) → HoldsLock hold t → HoldsLock hold (part_topics part.Publish t v)
lock_publishes hold t v K = record { outside = K.outside; holds = K.holds; no_table = K.no_table; no_set = refl }

-- Who tries to have the lock alone has it where nobody held it, and else holds what it held.
pub lock_taken : (t : Topics) (v : ℕ) → HoldsLock Loose t → (v == 0) ≡ true → HoldsLock Exclusive (part_topics part.Exclude t v)
lock_taken t v K free =
    record { outside = K.outside; holds = ap (λ (b : Bool). if b then Exclusive else t.hold) free; no_table = K.no_table; no_set = K.no_set }

pub lock_tried : (t : Topics) (v : ℕ) → HoldsLock Loose t → (v == 0) ≡ false → HoldsLock Loose (part_topics part.Exclude t v)
lock_tried t v K held =
    record { outside = K.outside; holds = ap (λ (b : Bool). if b then Exclusive else t.hold) held ∙ K.holds; no_table = K.no_table; no_set = K.no_set }

-- Who has the lock alone, with no invalidation of its own, and finds a count that isn't 0 saw one open.
pub sees_open : (t : Topics) (v : ℕ) → HoldsLock Exclusive t → t.invalidations.opened ≡ false → (v == 0) ≡ false
    → saw_open (part_topics part.Count t v).invalidations ≡ true
sees_open t v K closed some =
    ap (λ (k : Hold). was_counted (count_checked k) && nat_lt (if t.invalidations.opened then 1 else 0) v) K.holds
    ∙ (ap (λ (b : Bool). nat_lt (if b then 1 else 0) v) closed ∙ above)
  where
    above : nat_lt 0 v ≡ true
    above = grind (arith, nat_tests)
