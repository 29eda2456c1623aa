-- What a step of a part has seen that waits.
use Rattle.std.proofs.Common.{◌≡◌, ◌≢◌, ◌<◌, ℕ, refl, sym, subst, arith, nat_lt}
use Rattle.std.specs.Prelude.{true, ◌==◌, not}
use Rattle.std.proofs.lemmas.Bool.Decides.{nat_tests}
use Rattle.core_views.specs.declared.topics.Hold.{Hold}
use Rattle.core_views.specs.declared.topics.Hold.TheVariants.{Owing}
use Rattle.core_views.specs.declared.topics.Invalidations.{Invalidations}
use Rattle.core_views.specs.Held.{Held}
use Rattle.part_steps.specs.declared.part_step.PartStep.TheVariants as part
use Rattle.part_steps.specs.ControlBits.{has_writer}
use Rattle.part_steps.specs.PageTopics.{is_won}
use Rattle.mmu_core.specs.lines.PartWaits.{WaitsSeeAnother, is_owing, saw_open, was_counted, word_owed, own_open}
use Rattle.mmu_core.proofs.forms.access.FaultSame.{both, is_not}

-- It takes itself out of the lock's readers.
owes : (hold : Hold) (h : Held) → h.topics.hold ≡ hold → is_owing hold ≡ true → ((word : ℕ) → h.topics.hold ≡ Owing word → has_writer word ≡ true)
    → has_writer (word_owed h.topics.hold) ≡ true
owes (Owing word) h holds is saw = subst (λ (x : Hold). has_writer (word_owed x) ≡ true) (sym holds) (saw word holds)
owes _ h holds is saw = absurd (cc is)

some : (n : ℕ) → not (n == 0) ≡ true → n ≢ 0
some n is = grind (arith, nat_tests)

-- It saw invalidations of others open.
pub more : (n : Invalidations) → saw_open n ≡ true → own_open n < n.count
more n is = above (own_open n) n.count (both (was_counted n.checked) (nat_lt (own_open n) n.count) is).1
  where
    above : (own n : ℕ) → nat_lt own n ≡ true → own < n
    above own n is = grind (arith, nat_tests)

pub waits_see_another : WaitsSeeAnother
waits_see_another part.Unshare h v R needs is = (refl, owes h.topics.hold h refl is R.saw_writer)
waits_see_another part.Claim h v R needs is = (refl, needs.1, is_not (is_won h.topics.claim v) is)
waits_see_another part.Frame h v R needs is = (refl, needs.1, is_not (is_won h.topics.frames.claim v) is)
waits_see_another part.Exclude h v R needs is = (refl, some v is)
waits_see_another part.Release h v R needs is = (refl, more h.topics.invalidations is)
waits_see_another (part.Await index) h v R needs is = (refl, is)
waits_see_another (part.Watch index) h v R needs is = (refl, needs.1, is)
waits_see_another _ h v R needs is = absurd (cc is)
