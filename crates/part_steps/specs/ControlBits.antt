-- The bits of a lock word and of a state word, and where the words of the machine's control stand.
use Rattle.std.specs.Prelude.{◌^◌, ℕ, Bool, ◌==◌, ◌&&◌, nat_le, nat_lt}
use Rattle.core_views.specs.declared.sizes.Sizes.{Sizes}
use Rattle.spte_words.specs.declared.area.Area.{Area}
use Rattle.spte_words.specs.declared.area.Area.TheVariants as area
use Rattle.spte_words.specs.Areas.{number_of, place}
use Rattle.spte_words.specs.Bits.{has_bit}
use Rattle.part_steps.specs.Tasks.{map_of}

-- Bit 63 of a lock word: a writer has it.
abbrev pub writer : ℕ
writer = 2 ^ 63

abbrev pub has_writer : ℕ → Bool
has_writer v = nat_le writer v

-- Bit 1 of a state word: the actor is in the guest or in a section; with bit 0 it is in the guest.
abbrev pub section_bit : ℕ
section_bit = 2

abbrev pub guest_bits : ℕ
guest_bits = 3

abbrev pub in_section : ℕ → Bool
in_section v = has_bit 1 v

-- Bit 2: a flush is asked for (vcpu-requests.rst, KVM_REQ_TLB_FLUSH).
abbrev pub request_bit : ℕ
request_bit = 4

-- The actor is in the guest, and has yet to make the flush that is asked for.
abbrev pub has_to_flush : ℕ → Bool
has_to_flush v = has_bit 0 v && has_bit 2 v

-- the lone words of the machine's control stand first, each at the number of its area
abbrev pub is_word_of : Area → ℕ → Bool
is_word_of a word = word == number_of a

-- where the words of the pool's map begin, and where they end
abbrev pub map_begins : Sizes → ℕ
map_begins z = place (map_of z) area.PoolMap 0

abbrev pub map_ends : Sizes → ℕ
map_ends z = place (map_of z) area.FrameMap 0

abbrev pub is_pool_map : Sizes → ℕ → Bool
is_pool_map z word = nat_le (map_begins z) word && nat_lt word (map_ends z)

-- where the words of the map of frames begin, and where they end
abbrev pub frames_begin : Sizes → ℕ
frames_begin z = place (map_of z) area.FrameMap 0

abbrev pub frames_end : Sizes → ℕ
frames_end z = place (map_of z) area.Log 0

abbrev pub is_frame_map : Sizes → ℕ → Bool
is_frame_map z word = nat_le (frames_begin z) word && nat_lt word (frames_end z)

-- The word is one of a frame.
abbrev pub is_content : Sizes → ℕ → Bool
is_content z word = nat_le (place (map_of z) area.Content 0) word
