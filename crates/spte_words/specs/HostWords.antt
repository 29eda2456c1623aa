-- Host words, one for each host page: bit 0 present, bit 1 writable, bits 2 and 3 the level of its mapping, bits 12 and up its frame.
use Rattle.std.specs.Prelude.{◌+◌, ◌*◌, ◌/◌, ◌%◌, ◌^◌, ℕ, Bool}
use Rattle.spte_words.specs.Bits.{has_bit, bit_if}

unfoldable pub host_word : ℕ → Bool → Bool → ℕ → ℕ
host_word frame present writable level = bit_if 0 present + bit_if 1 writable + 2 ^ 2 * level + 2 ^ 12 * frame

unfoldable pub host_present : ℕ → Bool
host_present word = has_bit 0 word

unfoldable pub host_allows_write : ℕ → Bool
host_allows_write word = has_bit 1 word

unfoldable pub host_level : ℕ → ℕ
host_level word = word / 2 ^ 2 % 2 ^ 2

unfoldable pub host_frame : ℕ → ℕ
host_frame word = word / 2 ^ 12

-- the host word of the same page, to which writes are allowed, or aren't
abbrev pub with_writes : Bool → ℕ → ℕ
with_writes allowed word = host_word (host_frame word) (host_present word) allowed (host_level word)

-- the host word of the same page, at another frame
abbrev pub with_frame : ℕ → ℕ → ℕ
with_frame frame word = host_word frame (host_present word) (host_allows_write word) (host_level word)

-- the host word of the same page, by a mapping of another level
abbrev pub with_level : ℕ → ℕ → ℕ
with_level level word = host_word (host_frame word) (host_present word) (host_allows_write word) level

-- the host word of the same page, which is present, or isn't
abbrev pub with_presence : Bool → ℕ → ℕ
with_presence present word = host_word (host_frame word) present (host_allows_write word) (host_level word)
