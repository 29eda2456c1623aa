-- Content: what the words of the host's pages hold.
use Rattle.std.specs.Prelude.{◌+◌, ◌%◌, ◌^◌, ℕ, ◌==◌, ◌&&◌, if◌then◌else◌}
use Rattle.core_views.specs.declared.trace.Op.{Op}
use Rattle.core_views.specs.declared.trace.Op.TheVariants.{Read, Write, Add}

-- the number in each word of each host page
abbrev pub Memory : Type 0
Memory = ℕ → ℕ → ℕ

abbrev pub all_zero : Memory
all_zero page word = 0

-- the memory in which one word holds this number, and each other what it held
abbrev pub with_word : ℕ → ℕ → ℕ → Memory → Memory
with_word page word x memory p w = if (page == p) && (word == w) then x else memory p w

-- what the word holds after the operation, where it held `before`
abbrev pub word_after_op : Op → ℕ → ℕ
word_after_op Read before = before
word_after_op (Write x) before = x
word_after_op (Add x) before = (before + x) % 2 ^ 64
