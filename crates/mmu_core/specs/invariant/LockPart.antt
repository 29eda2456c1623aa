-- The MMU lock (locking.rst, mmu_lock): its low bits count the readers, and bit 63 is its writer.
use Rattle.std.specs.Prelude.{◌≡◌, ◌+◌, ◌*◌, ◌^◌, ◌≤◌, ℕ, Bool, true, false}
use Rattle.core_views.specs.declared.topics.Hold.{Hold}
use Rattle.core_views.specs.declared.topics.Hold.TheVariants.{Shared, Owing}
use Rattle.part_steps.specs.PartSteps.{counts}
use Rattle.mmu_core.specs.machine.Sums.{one_if, sum_below}
use Rattle.part_steps.specs.StayTopics.{is_alone}
use Rattle.part_steps.specs.ControlBits.{has_writer}

-- how many actors count as readers; how many have the lock as readers; how many have it alone
abbrev pub readers : ℕ → (ℕ → Hold) → ℕ
readers n hold = sum_below n (λ i. one_if (counts (hold i)))

abbrev pub is_shared : Hold → Bool
is_shared Shared = true
is_shared _ = false

abbrev pub sharers : ℕ → (ℕ → Hold) → ℕ
sharers n hold = sum_below n (λ i. one_if (is_shared (hold i)))

abbrev pub writers : ℕ → (ℕ → Hold) → ℕ
writers n hold = sum_below n (λ i. one_if (is_alone (hold i)))

-- Who has yet to take itself out of the readers saw a word with a writer in it.
abbrev pub SawWriter : Hold → Type 0
SawWriter (Owing word) = has_writer word ≡ true
SawWriter _ = Unit {0}

-- The low bits count the readers, and bit 63 is set exactly where one has the lock alone; then none has it as a reader.
pub record LockPart (n lock : ℕ) (hold : ℕ → Hold) : Type 0 where
  pub word : lock ≡ readers n hold + 2 ^ 63 * writers n hold
  pub one : writers n hold ≤ 1
  pub alone : 1 ≤ writers n hold → sharers n hold ≡ 0
