-- What a slot's flags tell: each reader gives back what the word was made of.
use Rattle.std.proofs.Common.{◌≡◌, ◌+◌, ◌*◌, ◌^◌, ◌<◌, arith}
use Rattle.std.specs.Prelude.{Bool}
use Rattle.spte_words.specs.Flags.{flags_word, flags_live, flags_read_only, flags_logged}
use Rattle.spte_words.proofs.ReadsBits.{one_if, bit_is, one_small, reads_bit}

-- the flags as a sum of numbers
flags_sum : (live read_only logged : Bool) → flags_word live read_only logged ≡ one_if live + one_if read_only * 2 + one_if logged * 4
unfolding flags_word
flags_sum live read_only logged = omega (arith, bit_is 0 live, bit_is 1 read_only, bit_is 2 logged)

-- Flags have 64 bits.
pub flags_fit : (live read_only logged : Bool) → flags_word live read_only logged < 2 ^ 64
flags_fit live read_only logged = omega (arith, flags_sum live read_only logged, one_small live, one_small read_only, one_small logged)

-- their bits: live
pub flags_are_live : (live read_only logged : Bool) → flags_live (flags_word live read_only logged) ≡ live
unfolding flags_live
flags_are_live live read_only logged =
    reads_bit 0 (flags_word live read_only logged) 0 (one_if read_only + one_if logged * 2) live (omega arith)
    (omega (arith, flags_sum live read_only logged))

-- read-only
pub flags_are_read_only : (live read_only logged : Bool) → flags_read_only (flags_word live read_only logged) ≡ read_only
unfolding flags_read_only
flags_are_read_only live read_only logged =
    reads_bit 1 (flags_word live read_only logged) (one_if live) (one_if logged) read_only (omega (arith, one_small live))
    (omega (arith, flags_sum live read_only logged))

-- logged
pub flags_are_logged : (live read_only logged : Bool) → flags_logged (flags_word live read_only logged) ≡ logged
unfolding flags_logged
flags_are_logged live read_only logged =
    reads_bit 2 (flags_word live read_only logged) (one_if live + one_if read_only * 2) 0 logged (omega (arith, one_small live, one_small read_only))
    (omega (arith, flags_sum live read_only logged))
