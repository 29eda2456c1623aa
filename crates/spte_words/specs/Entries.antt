-- Second-stage page table entries (Documentation/virt/kvm/mmu.rst, "Shadow pages"): bits 0, 1 and 2 read, write and execute;
-- bit 7 a large leaf; bit 11 present; bits 12 to 51 a frame or a pool page; bit 57 host-writable; bit 58 MMU-writable; all else 0.
use Rattle.std.specs.Prelude.{◌+◌, ◌-◌, ◌*◌, ◌/◌, ◌%◌, ◌^◌, ◌==◌, ℕ, Bool, ◌&&◌, ◌||◌, not, nat_lt, if◌then◌else◌, true, false}
use Rattle.spte_words.specs.declared.spte_kind.SpteKind.{SpteKind}
use Rattle.spte_words.specs.declared.spte_kind.SpteKind.TheVariants.{Absent, Frozen, Leaf, Table}
use Rattle.spte_words.specs.Bits.{has_bit, bit_if}

-- how many pages an entry of the level covers: 1, 512, 262,144, and 134,217,728 at the root
unfoldable pub level_span : ℕ → ℕ
level_span level = 512 ^ (level - 1)

unfoldable pub absent_word : ℕ
absent_word = 0

-- bit 11 is clear
unfoldable pub frozen_word : ℕ
frozen_word = 0x5a0

-- a link to the table in the pool page: read, write, execute, present
unfoldable pub table_word : ℕ → ℕ
table_word page = 2 ^ 0 + 2 ^ 1 + 2 ^ 2 + 2 ^ 11 + 2 ^ 12 * page

-- a leaf of the level and the first frame of its span: read, write where W, execute, large above level 1, present, and the two software bits
unfoldable pub leaf_word : ℕ → ℕ → Bool → Bool → Bool → ℕ
leaf_word level frame w hw mw = 2 ^ 0 + bit_if 1 w + 2 ^ 2 + bit_if 7 (nat_lt 1 level) + 2 ^ 11 + 2 ^ 12 * frame + bit_if 57 hw + bit_if 58 mw

-- bits 12 to 51
unfoldable pub frame_in : ℕ → ℕ
frame_in word = word / 2 ^ 12 % 2 ^ 40

-- the frame of a guest frame that is in the span of a leaf at this level: the leaf's own is that of the span's first
unfoldable pub mapped_frame : ℕ → ℕ → ℕ → ℕ
mapped_frame level leaf gfn = frame_in leaf + gfn % level_span level

-- the bit of write permission
abbrev pub write_bit : ℕ
write_bit = 2

unfoldable pub can_write : ℕ → Bool
can_write word = has_bit 1 word

unfoldable pub host_writable : ℕ → Bool
host_writable word = has_bit 57 word

unfoldable pub mmu_writable : ℕ → Bool
mmu_writable word = has_bit 58 word

-- A present word is a leaf at level 1, a leaf at levels 2 and 3 where bit 7 is set, and else a link.
unfoldable pub is_leaf_at : ℕ → ℕ → Bool
is_leaf_at level word = nat_lt level 2 || (nat_lt level 4 && has_bit 7 word)

-- what the word says at the level; a pool page is a number of 32 bits
unfoldable pub kind_of : ℕ → ℕ → SpteKind
kind_of level word =
    if word == frozen_word then Frozen else
    if has_bit 11 word then (if is_leaf_at level word then Leaf else Table (frame_in word % 2 ^ 32)) else
    Absent

-- the word with bit 1 set
unfoldable pub with_write : ℕ → ℕ
with_write word = word + bit_if 1 (not (can_write word))

-- the word with bit 1 clear
unfoldable pub without_write : ℕ → ℕ
without_write word = word - bit_if 1 (can_write word)

-- the leaf of page i of a large leaf's span, one level down
unfoldable pub child_word : ℕ → ℕ → ℕ → ℕ
child_word level word i = leaf_word (level - 1) (frame_in word + i * level_span (level - 1)) (can_write word) (host_writable word) (mmu_writable word)

-- the one that is over a guest frame of the span
abbrev pub child_over : ℕ → ℕ → ℕ → ℕ
child_over level word gfn = child_word level word (gfn / level_span (level - 1) % 512)

abbrev pub is_leaf : SpteKind → Bool
is_leaf Leaf = true
is_leaf _ = false

-- a leaf over more than one page
abbrev pub is_large_leaf : ℕ → ℕ → Bool
is_large_leaf level word = is_leaf (kind_of level word) && nat_lt 1 level

-- the word of entry i of a table that is linked in this entry's place: the child of a large leaf, and in place of any other entry nothing
abbrev pub word_below : ℕ → ℕ → ℕ → ℕ
word_below level word i = if is_large_leaf level word then child_word level word i else absent_word
