-- What a command allows is within its bound: the words of a map are no more than its bits, and one.
use Rattle.std.proofs.Common.{◌+◌, ◌*◌, ◌<◌, ◌≤◌, ℕ, arith}
use Rattle.std.proofs.Math.Nat.{div-lt_iff_lt-mul}
use Rattle.std.specs.Prelude.{true, false}
use Rattle.core_views.specs.declared.sizes.Sizes.{Sizes}
use Rattle.core_views.specs.declared.trace.Command.TheVariants.{Access, ChangeHost, ChangeRun, SetLog, GetLog, ClearLog}
use Rattle.spte_words.specs.Areas.{words_of_bits}
use Rattle.mmu_laws.specs.turns.FewSteps.{FewSteps, long_bound}

words_few : (bits : ℕ) → words_of_bits bits ≤ bits + 1
words_few bits =
    let lt : words_of_bits bits < bits + 2 = (div-lt_iff_lt-mul {k = 64} {x = bits + 63} {y = bits + 2} (omega arith)).1 (omega arith) in
    omega (arith, lt)

-- eight for each page, at least
pages_counted : (words pages : ℕ) → 8 * pages ≤ (words + 8) * pages
pages_counted words pages = grind arith

long : (z : Sizes) → 1024 + 5 * z.pages + words_of_bits z.pool + words_of_bits z.pages ≤ long_bound z
long z =
    let product : ℕ = (z.words + 8) * z.pages in
    let eight : 8 * z.pages ≤ product = pages_counted z.words z.pages in
    omega (arith, eight, words_few z.pool, words_few z.pages)

pub few_steps : FewSteps
few_steps z (Access gfn word op) = omega arith
few_steps z (ChangeHost page change) = omega (arith, words_few z.frames)
few_steps z (ChangeRun page change) = omega arith
few_steps z (SetLog id true) = long z
few_steps z (SetLog id false) = omega (arith, words_few z.pool)
few_steps z (GetLog id) = omega (arith, long z)
few_steps z (ClearLog id first count words) = omega (arith, long z)
few_steps z _ = omega (arith, long z)
