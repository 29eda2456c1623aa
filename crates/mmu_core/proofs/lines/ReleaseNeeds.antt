-- Who gives back the lock that it has alone leaves nothing half done.
use Rattle.std.proofs.Common.{◌≡◌, ℕ, Bool, true, false, ap, ◌∙◌, arith}
use Rattle.std.specs.Prelude.{Option, None, is_some}
use Rattle.core_views.specs.declared.topics.Hold.TheVariants.{Exclusive}
use Rattle.core_views.specs.Held.{Held}
use Rattle.part_steps.specs.LockHoldings.{HasEndedWhole, HasFlushedAll, MayRelease}
use Rattle.part_steps.specs.SweepTopics.{is_clear}
use Rattle.mmu_core.specs.lines.LockKnows.{HoldsLock}

-- It has no invalidation of its own open, holds no slot set, and is done with the entry that it has loaded last.
pub release_closed : (h : Held) → h.topics.hold ≡ Exclusive → h.topics.invalidations.opened ≡ false → h.topics.search.set ≡ None
    → is_clear false h.topics.walk ≡ true → MayRelease h
release_closed h alone closed none clear = record {
  alone = alone;
  ended = λ opened. absurd (cc (opened, closed));
  flushed = λ opened. absurd (cc (opened, closed));
  opened = λ has holds. absurd (let held = ap (λ (o : Option ℕ). is_some o) none in cc (holds, held));
  done = λ has there. ap (λ (b : Bool). is_clear b h.topics.walk) closed ∙ clear;
}

-- Or it holds no table and no slot set, and what it has open is flushed out, and not ended halfway.
pub release_free : (h : Held) → HoldsLock Exclusive h.topics → HasEndedWhole h.topics.invalidations → HasFlushedAll h.state.sizes.vcpus h.topics → MayRelease h
release_free h K ended flushed = record {
  alone = K.holds;
  ended = ended;
  flushed = flushed;
  opened = λ has holds. absurd (let held = ap (λ (o : Option ℕ). is_some o) K.no_set in cc (holds, held));
  done = λ has there. absurd (let none = K.no_table in omega (arith, there, none));
}
