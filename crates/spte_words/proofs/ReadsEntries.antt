-- What the words of entries tell: each reader gives back what the word was made of, and words of different kinds differ.
use Rattle.std.proofs.Common.{◌≡◌, ◌≢◌, ◌+◌, ◌-◌, ◌*◌, ◌%◌, ◌^◌, ◌<◌, ◌≤◌, ℕ, true, false, refl, arith, ap, ◌∙◌, sym, eqb, ne_eqb, ◌⊎◌, inl, inr}
use Rattle.std.specs.Prelude.{Bool, nat_lt, if◌then◌else◌, not}
use Rattle.std.proofs.lemmas.Bool.Decides.{nat_tests, eqb_tells}
use Rattle.spte_words.specs.declared.spte_kind.SpteKind.TheVariants.{Absent, Frozen, Leaf, Table}
use Rattle.spte_words.specs.Bits.{has_bit, bit_if}
use Rattle.spte_words.specs.Entries.{absent_word, frozen_word, table_word, leaf_word, frame_in, can_write, host_writable, mmu_writable, is_leaf_at}
use Rattle.spte_words.specs.Entries.{kind_of, with_write, without_write, child_word, level_span}
use Rattle.spte_words.proofs.ReadsBits.{one_if, bit_is, one_small, reads_bit}

-- a leaf's word as a sum of numbers
leaf_sum : (level frame : ℕ) (w hw mw : Bool) → leaf_word level frame w hw mw
    ≡ 2053 + one_if w * 2 + one_if (nat_lt 1 level) * 128 + 4096 * frame + one_if hw * 144115188075855872 + one_if mw * 288230376151711744
unfolding leaf_word
leaf_sum level frame w hw mw = omega (arith, bit_is 1 w, bit_is 7 (nat_lt 1 level), bit_is 57 hw, bit_is 58 mw)

table_sum : (page : ℕ) → table_word page ≡ 2055 + 4096 * page
unfolding table_word
table_sum page = omega arith

-- The words have 64 bits.
pub leaf_fits : (level frame : ℕ) (w hw mw : Bool) → frame < 2 ^ 41 → leaf_word level frame w hw mw < 2 ^ 64
leaf_fits level frame w hw mw small = omega (arith, leaf_sum level frame w hw mw, one_small w, one_small (nat_lt 1 level), one_small hw, one_small mw)

pub table_fits : (page : ℕ) → page < 2 ^ 32 → table_word page < 2 ^ 64
table_fits page small = omega (arith, table_sum page)

pub absent_fits : absent_word < 2 ^ 64
unfolding absent_word
absent_fits = omega arith

pub frozen_fits : frozen_word < 2 ^ 64
unfolding frozen_word
frozen_fits = omega arith

-- a leaf's bits: write
pub leaf_can_write : (level frame : ℕ) (w hw mw : Bool) → can_write (leaf_word level frame w hw mw) ≡ w
unfolding can_write
leaf_can_write level frame w hw mw =
    reads_bit 1 (leaf_word level frame w hw mw) 1 (513 + one_if (nat_lt 1 level) * 32 + 1024 * frame + one_if hw * 36028797018963968
    + one_if mw * 72057594037927936) w (omega arith) (omega (arith, leaf_sum level frame w hw mw))

-- large, above level 1
leaf_large : (level frame : ℕ) (w hw mw : Bool) → has_bit 7 (leaf_word level frame w hw mw) ≡ nat_lt 1 level
leaf_large level frame w hw mw =
    reads_bit 7 (leaf_word level frame w hw mw) (5 + one_if w * 2) (8 + 16 * frame + one_if hw * 562949953421312 + one_if mw * 1125899906842624)
    (nat_lt 1 level) (omega (arith, one_small w)) (omega (arith, leaf_sum level frame w hw mw))

-- present
leaf_present : (level frame : ℕ) (w hw mw : Bool) → has_bit 11 (leaf_word level frame w hw mw) ≡ true
leaf_present level frame w hw mw =
    reads_bit 11 (leaf_word level frame w hw mw) (5 + one_if w * 2 + one_if (nat_lt 1 level) * 128) (frame + one_if hw * 35184372088832
    + one_if mw * 70368744177664) true (omega (arith, one_small w, one_small (nat_lt 1 level))) (omega (arith, leaf_sum level frame w hw mw))

-- host-writable
pub leaf_host_writable : (level frame : ℕ) (w hw mw : Bool) → frame < 2 ^ 40 → host_writable (leaf_word level frame w hw mw) ≡ hw
unfolding host_writable
leaf_host_writable level frame w hw mw small =
    reads_bit 57 (leaf_word level frame w hw mw) (2053 + one_if w * 2 + one_if (nat_lt 1 level) * 128 + 4096 * frame) (one_if mw) hw
    (omega (arith, one_small w, one_small (nat_lt 1 level))) (omega (arith, leaf_sum level frame w hw mw))

-- MMU-writable
pub leaf_mmu_writable : (level frame : ℕ) (w hw mw : Bool) → frame < 2 ^ 40 → mmu_writable (leaf_word level frame w hw mw) ≡ mw
unfolding mmu_writable
leaf_mmu_writable level frame w hw mw small =
    reads_bit 58 (leaf_word level frame w hw mw) (2053 + one_if w * 2 + one_if (nat_lt 1 level) * 128 + 4096 * frame + one_if hw * 144115188075855872)
    0 mw (omega (arith, one_small w, one_small (nat_lt 1 level), one_small hw)) (omega (arith, leaf_sum level frame w hw mw))

-- a leaf's frame
pub leaf_frame : (level frame : ℕ) (w hw mw : Bool) → frame < 2 ^ 40 → frame_in (leaf_word level frame w hw mw) ≡ frame
unfolding frame_in
leaf_frame level frame w hw mw small = omega (arith, leaf_sum level frame w hw mw, one_small w, one_small (nat_lt 1 level), one_small hw, one_small mw)

-- a link's pool page
pub table_frame : (page : ℕ) → page < 2 ^ 40 → frame_in (table_word page) ≡ page
unfolding frame_in
table_frame page small = omega (arith, table_sum page)

table_present : (page : ℕ) → has_bit 11 (table_word page) ≡ true
table_present page = reads_bit 11 (table_word page) 7 page true (omega arith) (omega (arith, table_sum page))

table_small : (page : ℕ) → has_bit 7 (table_word page) ≡ false
table_small page = reads_bit 7 (table_word page) 7 (8 + 16 * page) false (omega arith) (omega (arith, table_sum page))

-- Words of different kinds differ.
pub absent_not_frozen : absent_word ≢ frozen_word
unfolding absent_word frozen_word
absent_not_frozen e = omega arith

pub leaf_not_absent : (level frame : ℕ) (w hw mw : Bool) → leaf_word level frame w hw mw ≢ absent_word
unfolding absent_word
leaf_not_absent level frame w hw mw e = omega (arith, leaf_sum level frame w hw mw)

pub leaf_not_frozen : (level frame : ℕ) (w hw mw : Bool) → leaf_word level frame w hw mw ≢ frozen_word
unfolding frozen_word
leaf_not_frozen level frame w hw mw e = omega (arith, leaf_sum level frame w hw mw)

pub table_not_absent : (page : ℕ) → table_word page ≢ absent_word
unfolding absent_word
table_not_absent page e = omega (arith, table_sum page)

pub table_not_frozen : (page : ℕ) → table_word page ≢ frozen_word
unfolding frozen_word
table_not_frozen page e = omega (arith, table_sum page)

-- The same of a leaf and a link, above level 1, where links are.
pub leaf_not_table : (level frame page : ℕ) (w hw mw : Bool) → 2 ≤ level → leaf_word level frame w hw mw ≢ table_word page
leaf_not_table level frame page w hw mw from e =
    let large : nat_lt 1 level ≡ true = grind (arith, nat_tests) in
    let both : true ≡ false = sym large ∙ sym (leaf_large level frame w hw mw) ∙ ap (has_bit 7) e ∙ table_small page in
    cc

-- Two links that are one word link one page.
pub same_table : (page other : ℕ) → table_word page ≡ table_word other → page ≡ other
same_table page other e = omega (arith, table_sum page, table_sum other)

-- the kind of a present word
kind_at : (level word : ℕ) (leaf : Bool) → word ≢ frozen_word → has_bit 11 word ≡ true → is_leaf_at level word ≡ leaf
    → kind_of level word ≡ (if leaf then Leaf else Table (frame_in word % 2 ^ 32))
unfolding kind_of
kind_at level word leaf not_frozen present is = rw (ne_eqb word frozen_word not_frozen, present, is) refl

leaf_is_leaf : (level frame : ℕ) (w hw mw : Bool) → 1 ≤ level → level ≤ 3 → is_leaf_at level (leaf_word level frame w hw mw) ≡ true
unfolding is_leaf_at
leaf_is_leaf level frame w hw mw from to = rw (leaf_large level frame w hw mw) (grind (arith, nat_tests))

table_is_none : (level page : ℕ) → 2 ≤ level → is_leaf_at level (table_word page) ≡ false
unfolding is_leaf_at
table_is_none level page from = rw (table_small page) (grind (arith, nat_tests))

-- A leaf's word is a leaf.
pub kind_of_leaf : (level frame : ℕ) (w hw mw : Bool) → 1 ≤ level → level ≤ 3 → kind_of level (leaf_word level frame w hw mw) ≡ Leaf
kind_of_leaf level frame w hw mw from to =
    kind_at level (leaf_word level frame w hw mw) true (leaf_not_frozen level frame w hw mw) (leaf_present level frame w hw mw)
    (leaf_is_leaf level frame w hw mw from to)

-- A link's word is a link.
pub kind_of_table : (level page : ℕ) → 2 ≤ level → page < 2 ^ 32 → kind_of level (table_word page) ≡ Table page
kind_of_table level page from small =
    kind_at level (table_word page) false (table_not_frozen page) (table_present page) (table_is_none level page from)
    ∙ ap Table (omega (arith, table_frame page (omega arith)))

-- It is one of some page, whatever page it links; so it is no leaf.
pub kind_of_link : (level page : ℕ) → 2 ≤ level → kind_of level (table_word page) ≡ Table (frame_in (table_word page) % 2 ^ 32)
kind_of_link level page from =
    kind_at level (table_word page) false (table_not_frozen page) (table_present page) (table_is_none level page from)

pub table_no_leaf : (level page : ℕ) → 2 ≤ level → kind_of level (table_word page) ≢ Leaf
table_no_leaf level page from is = let links = kind_of_link level page from in cc (links, is)

-- The absent word is absent.
pub kind_of_absent : (level : ℕ) → kind_of level absent_word ≡ Absent
unfolding kind_of absent_word frozen_word
kind_of_absent level = refl

-- The frozen word is frozen.
pub kind_of_frozen : (level : ℕ) → kind_of level frozen_word ≡ Frozen
unfolding kind_of frozen_word
kind_of_frozen level = refl

-- Only the frozen word is frozen.
pub frozen_from_kind : (level word : ℕ) → kind_of level word ≡ Frozen → word ≡ frozen_word
unfolding kind_of
frozen_from_kind level word e = test (eqb_tells word frozen_word)
  where
    other : (present leaf : Bool) → (if present then (if leaf then Leaf else Table (frame_in word % 2 ^ 32)) else Absent) ≡ Frozen → word ≡ frozen_word
    other true true f = cc
    other true false f = cc
    other false leaf f = cc

    test : ((eqb word frozen_word ≡ true) × (word ≡ frozen_word)) ⊎ ((eqb word frozen_word ≡ false) × (word ≢ frozen_word)) → word ≡ frozen_word
    test (inl p) = p.1
    test (inr p) = other (has_bit 11 word) (is_leaf_at level word) (rw p.0 at e)

-- A leaf with write set is the leaf that allows it.
pub leaf_with_write : (level frame : ℕ) (w hw mw : Bool) → with_write (leaf_word level frame w hw mw) ≡ leaf_word level frame true hw mw
unfolding with_write
leaf_with_write level frame w hw mw = rw (leaf_can_write level frame w hw mw) (by w)
  where
    by : (w : Bool) → leaf_word level frame w hw mw + bit_if 1 (not w) ≡ leaf_word level frame true hw mw
    by true = omega (arith, leaf_sum level frame true hw mw)
    by false = omega (arith, leaf_sum level frame true hw mw, leaf_sum level frame false hw mw)

-- A leaf with write cleared is the leaf that denies it.
pub leaf_without_write : (level frame : ℕ) (w hw mw : Bool) → without_write (leaf_word level frame w hw mw) ≡ leaf_word level frame false hw mw
unfolding without_write
leaf_without_write level frame w hw mw = rw (leaf_can_write level frame w hw mw) (by w)
  where
    by : (w : Bool) → leaf_word level frame w hw mw - bit_if 1 w ≡ leaf_word level frame false hw mw
    by true = omega (arith, leaf_sum level frame true hw mw, leaf_sum level frame false hw mw)
    by false = omega (arith, leaf_sum level frame false hw mw)

-- a page of a large leaf's span, one level down
pub child_of_leaf : (level frame i : ℕ) (w hw mw : Bool) → frame < 2 ^ 40
    → child_word level (leaf_word level frame w hw mw) i ≡ leaf_word (level - 1) (frame + i * level_span (level - 1)) w hw mw
unfolding child_word
child_of_leaf level frame i w hw mw small = rw (
  leaf_frame level frame w hw mw small,
  leaf_can_write level frame w hw mw,
  leaf_host_writable level frame w hw mw small,
  leaf_mmu_writable level frame w hw mw small,
) refl
