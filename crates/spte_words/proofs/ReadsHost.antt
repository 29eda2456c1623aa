-- What host words tell: each reader gives back what the word was made of.
use Rattle.std.proofs.Common.{◌≡◌, ◌+◌, ◌*◌, ◌^◌, ◌<◌, ℕ, arith}
use Rattle.std.specs.Prelude.{Bool}
use Rattle.spte_words.specs.HostWords.{host_word, host_present, host_allows_write, host_level, host_frame}
use Rattle.spte_words.proofs.ReadsBits.{one_if, bit_is, one_small, reads_bit}

-- a host word as a sum of numbers
host_sum : (frame : ℕ) (present writable : Bool) (level : ℕ)
    → host_word frame present writable level ≡ one_if present + one_if writable * 2 + 4 * level + 4096 * frame
unfolding host_word
host_sum frame present writable level = omega (arith, bit_is 0 present, bit_is 1 writable)

-- A host word has 64 bits.
pub host_fits : (frame : ℕ) (present writable : Bool) (level : ℕ) → frame < 2 ^ 52 → level < 4 → host_word frame present writable level < 2 ^ 64
host_fits frame present writable level small within = omega (arith, host_sum frame present writable level, one_small present, one_small writable)

-- its bits: present
pub host_is_present : (frame : ℕ) (present writable : Bool) (level : ℕ) → host_present (host_word frame present writable level) ≡ present
unfolding host_present
host_is_present frame present writable level =
    reads_bit 0 (host_word frame present writable level) 0 (one_if writable + 2 * level + 2048 * frame) present (omega arith)
    (omega (arith, host_sum frame present writable level))

-- writable
pub host_is_writable : (frame : ℕ) (present writable : Bool) (level : ℕ) → host_allows_write (host_word frame present writable level) ≡ writable
unfolding host_allows_write
host_is_writable frame present writable level =
    reads_bit 1 (host_word frame present writable level) (one_if present) (level + 1024 * frame) writable (omega (arith, one_small present))
    (omega (arith, host_sum frame present writable level))

-- its level
pub host_has_level : (frame : ℕ) (present writable : Bool) (level : ℕ) → level < 4 → host_level (host_word frame present writable level) ≡ level
unfolding host_level
host_has_level frame present writable level within = omega (arith, host_sum frame present writable level, one_small present, one_small writable)

-- its frame
pub host_has_frame : (frame : ℕ) (present writable : Bool) (level : ℕ) → level < 4 → host_frame (host_word frame present writable level) ≡ frame
unfolding host_frame
host_has_frame frame present writable level within = omega (arith, host_sum frame present writable level, one_small present, one_small writable)
