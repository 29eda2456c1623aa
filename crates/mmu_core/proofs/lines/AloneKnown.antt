-- What is known of an actor that tries to have the lock alone, and of one that has it or gives it back.
use Rattle.std.proofs.Common.{◌≡◌, ℕ, Bool, true, false, refl, ap, ◌∙◌}
use Rattle.std.specs.Prelude.{◌==◌, not, if◌then◌else◌}
use Rattle.core_views.specs.declared.topics.Hold.TheVariants.{Exclusive}
use Rattle.core_views.specs.declared.topics.Stay.{Stay}
use Rattle.core_views.specs.declared.topics.Topics.{Topics}
use Rattle.part_steps.specs.declared.part_step.PartStep.TheVariants as part
use Rattle.part_steps.specs.PartSteps.{IsFree}
use Rattle.part_steps.specs.PartTopics.{part_topics}
use Rattle.part_steps.specs.StayTopics.{is_outside, is_section, kept_search, kept_walk, let_go}
use Rattle.mmu_core.specs.orders.InvalidateKnows.{HasLockAlone, IsAloneWith, IsSweeping}
use Rattle.mmu_core.specs.lines.LockKnows.{HoldsLock}

-- Who is free and tries to have the lock alone has it where nobody held it, and else is free still.
pub alone_taken : (opened : Bool) (t : Topics) (v : ℕ) → IsFree t → t.invalidations.opened ≡ opened → (v == 0) ≡ true
    → IsAloneWith opened (part_topics part.Exclude t v)
alone_taken opened t v K is free = record {
  alone = record { outside = K.outside; alone = ap (λ (b : Bool). if b then Exclusive else t.hold) free };
  is = is;
}

pub alone_tried : (t : Topics) (v : ℕ) → IsFree t → (v == 0) ≡ false → IsFree (part_topics part.Exclude t v)
alone_tried t v K held =
    record {
      outside = K.outside;
      loose = ap (λ (b : Bool). if b then Exclusive else t.hold) held ∙ K.loose;
      no_table = K.no_table;
      no_set = K.no_set;
    }

-- Who has it so holds no table and no slot set.
pub alone_holds : (t : Topics) (v : ℕ) → IsFree t → (v == 0) ≡ true → HoldsLock Exclusive (part_topics part.Exclude t v)
alone_holds t v K free = record {
  outside = K.outside;
  holds = ap (λ (b : Bool). if b then Exclusive else t.hold) free;
  no_table = K.no_table;
  no_set = K.no_set;
}

-- Who gives the lock back is free.
pub alone_let_go : (t : Topics) → HasLockAlone t → IsFree (let_go t)
alone_let_go t A = record {
  outside = A.outside;
  loose = refl;
  no_table = ap (λ (s : Stay). (kept_walk (not (is_outside s)) t.walk).level) A.outside;
  no_set = ap (λ (s : Stay). (kept_search (is_section s) t.search).set) A.outside;
}

-- What it knows is of no other topic than these: where they are the same, so is it.
pub same_alone : (opened : Bool) (t u : Topics) → u.stay ≡ t.stay → u.hold ≡ t.hold → u.invalidations.opened ≡ t.invalidations.opened
    → IsAloneWith opened t → IsAloneWith opened u
same_alone opened t u stay hold open_ A =
    record { alone = record { outside = stay ∙ A.alone.outside; alone = hold ∙ A.alone.alone }; is = open_ ∙ A.is }

pub same_sweep : (opened : Bool) (t u : Topics) → u.stay ≡ t.stay → u.hold ≡ t.hold → u.invalidations.opened ≡ t.invalidations.opened
    → u.flush ≡ t.flush → IsSweeping opened t → IsSweeping opened u
same_sweep opened t u stay hold open_ flush S =
    record { with_lock = same_alone opened t u stay hold open_ S.with_lock; unasked = flush ∙ S.unasked }
