-- Memory slots in a pool page (api.rst, KVM_SET_USER_MEMORY_REGION): four words a slot, its base, pages, host page and flags. Flags: bit 0 live, bit
-- 1 read-only, bit 2 logged.
use Rattle.std.specs.Prelude.{◌+◌, ℕ, Bool}
use Rattle.spte_words.specs.Bits.{has_bit, bit_if}

unfoldable pub flags_word : Bool → Bool → Bool → ℕ
flags_word live read_only logged = bit_if 0 live + bit_if 1 read_only + bit_if 2 logged

unfoldable pub flags_live : ℕ → Bool
flags_live word = has_bit 0 word

unfoldable pub flags_read_only : ℕ → Bool
flags_read_only word = has_bit 1 word

unfoldable pub flags_logged : ℕ → Bool
flags_logged word = has_bit 2 word
