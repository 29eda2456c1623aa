-- Which of a part's steps wait, where the step is one of two.
use Rattle.std.proofs.lemmas.Bool.Decides.{nat_tests}
use Rattle.std.proofs.Common.{◌≡◌, ℕ, refl, sym, ap, nat_lt, arith}
use Rattle.std.specs.Prelude.{Bool, true, false, ◌&&◌, if◌then◌else◌}
use Rattle.core_views.specs.declared.topics.Hold.{Hold}
use Rattle.core_views.specs.declared.topics.Hold.TheVariants.{Owing}
use Rattle.core_views.specs.declared.topics.Invalidations.{Invalidations}
use Rattle.core_views.specs.declared.topics.Topics.{Topics}
use Rattle.part_steps.specs.declared.part_step.PartStep.{PartStep}
use Rattle.mmu_core.specs.forms.access.FaultSteps.{share_part}
use Rattle.mmu_core.specs.lines.PartWaits.{is_owing, part_waits, saw_open, was_counted, own_open}

-- A try for the lock waits where it takes itself back.
pub share_waits : (hold : Hold) (t : Topics) (v : ℕ) → t.hold ≡ hold → is_owing hold ≡ part_waits (share_part hold) t v
share_waits (Owing word) t v is = sym (ap is_owing is)
share_waits _ t v is = refl

-- No step waits that is one of two which never wait.
pub neither_waits : (b : Bool) (p q : PartStep) (t : Topics) (v : ℕ) → part_waits p t v ≡ false → part_waits q t v ≡ false
    → part_waits (if b then p else q) t v ≡ false
neither_waits true p q t v one other = one
neither_waits false p q t v one other = other

-- The lock is given back for no invalidation where none was open.
pub none_open : (n : Invalidations) → n.count ≡ 0 → saw_open n ≡ false
none_open n none = by (was_counted n.checked)
  where
    by : (b : Bool) → (b && nat_lt (own_open n) n.count) ≡ false
    by true = grind (arith, none, nat_tests)
    by false = refl
