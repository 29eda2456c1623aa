-- The child of a large leaf: a leaf one level down, which says of each guest frame that it is over what the large one says.
use Rattle.std.proofs.Common.{◌≡◌, ◌+◌, ◌-◌, ◌*◌, ◌/◌, ◌%◌, ◌^◌, ◌<◌, ◌≤◌, ℕ, refl, sym, subst, ap, ◌∙◌, arith}
use Rattle.std.proofs.lemmas.Bool.Decides.{nat_tests}
use Rattle.std.specs.Prelude.{Bool, true, false, ◌&&◌, nat_lt, if◌then◌else◌}
use Rattle.spte_words.specs.declared.spte_kind.SpteKind.{SpteKind}
use Rattle.spte_words.specs.declared.spte_kind.SpteKind.TheVariants.{Absent, Leaf}
use Rattle.spte_words.specs.Entries.{absent_word, can_write, child_over, child_word, frame_in, host_writable, kind_of, leaf_word, level_span, mapped_frame}
use Rattle.spte_words.specs.Entries.{is_large_leaf, is_leaf, mmu_writable, word_below}
use Rattle.spte_words.proofs.ReadsEntries.{absent_fits, kind_of_leaf, leaf_can_write, leaf_fits, leaf_frame, leaf_host_writable, leaf_mmu_writable}
use Rattle.spte_words.proofs.Spans.{each_span, span_above}

child_is : (level word i : ℕ) → child_word level word i
    ≡ leaf_word (level - 1) (frame_in word + i * level_span (level - 1)) (can_write word) (host_writable word) (mmu_writable word)
unfolding child_word
child_is level word i = refl

-- It is a leaf, with the permissions of the large one.
pub child_kind : (level word i : ℕ) → 2 ≤ level → level ≤ 4 → kind_of (level - 1) (child_word level word i) ≡ Leaf
child_kind level word i from to =
    ap (kind_of (level - 1)) (child_is level word i)
    ∙ kind_of_leaf (level - 1) (frame_in word + i * level_span (level - 1)) (can_write word) (host_writable word) (mmu_writable word) (omega (arith, from))
    (omega (arith, to))

pub child_can_write : (level word i : ℕ) → can_write (child_word level word i) ≡ can_write word
child_can_write level word i =
    ap can_write (child_is level word i)
    ∙ leaf_can_write (level - 1) (frame_in word + i * level_span (level - 1)) (can_write word) (host_writable word) (mmu_writable word)

module _ (level word i : ℕ) (small : frame_in word + i * level_span (level - 1) < 2 ^ 40) where
  pub child_host_writable : host_writable (child_word level word i) ≡ host_writable word
  child_host_writable =
      ap host_writable (child_is level word i)
      ∙ leaf_host_writable (level - 1) (frame_in word + i * level_span (level - 1)) (can_write word) (host_writable word) (mmu_writable word) small

  pub child_mmu_writable : mmu_writable (child_word level word i) ≡ mmu_writable word
  child_mmu_writable =
      ap mmu_writable (child_is level word i)
      ∙ leaf_mmu_writable (level - 1) (frame_in word + i * level_span (level - 1)) (can_write word) (host_writable word) (mmu_writable word) small

  pub child_frame : frame_in (child_word level word i) ≡ frame_in word + i * level_span (level - 1)
  child_frame =
      ap frame_in (child_is level word i)
      ∙ leaf_frame (level - 1) (frame_in word + i * level_span (level - 1)) (can_write word) (host_writable word) (mmu_writable word) small

-- A guest frame's place in a span: that of its child's span, and its own place there.
abbrev ChildPlaces : ℕ → Type 0
ChildPlaces s = (gfn : ℕ) → gfn % (512 * s) ≡ gfn / s % 512 * s + gfn % s

child_places : (level : ℕ) → 1 ≤ level → level ≤ 4 → ChildPlaces (level_span level)
child_places = each_span ChildPlaces (λ gfn. omega arith) (λ gfn. omega arith) (λ gfn. omega arith) (λ gfn. omega arith)

pub place_in_child : (level gfn : ℕ) → 2 ≤ level → level ≤ 4
    → gfn % level_span level ≡ gfn / level_span (level - 1) % 512 * level_span (level - 1) + gfn % level_span (level - 1)
place_in_child level gfn from to =
    let up_to : level - 1 + 1 ≡ level = omega (arith, from) in
    let span : level_span level ≡ 512 * level_span (level - 1) = ap level_span (sym up_to) ∙ span_above (level - 1) (omega (arith, from)) in
    ap (λ n. gfn % n) span ∙ child_places (level - 1) (omega (arith, from)) (omega (arith, to)) gfn

-- The child over a guest frame leads it where the large leaf does.
pub child_maps : (level word gfn : ℕ) → 2 ≤ level → level ≤ 4 → frame_in word + gfn / level_span (level - 1) % 512 * level_span (level - 1) < 2 ^ 40
    → mapped_frame (level - 1) (child_over level word gfn) gfn ≡ mapped_frame level word gfn
unfolding mapped_frame
child_maps level word gfn from to small =
    let frame = child_frame level word (gfn / level_span (level - 1) % 512) small in
    let place = place_in_child level gfn from to in
    omega (arith, frame, place)

-- ---- what stands in a table that is linked in an entry's place

-- Of a large leaf it is the child, and where nothing is mapped nothing.
pub below_leaf : (level word i : ℕ) → 2 ≤ level → kind_of level word ≡ Leaf → word_below level word i ≡ child_word level word i
below_leaf level word i upper leaf =
    let large : nat_lt 1 level ≡ true = grind (arith, nat_tests) in
    ap (λ (b : Bool). if b then child_word level word i else absent_word) (ap (λ (k : SpteKind). is_leaf k && nat_lt 1 level) leaf ∙ large)

pub below_absent : (level word i : ℕ) → kind_of level word ≡ Absent → word_below level word i ≡ absent_word
below_absent level word i none = ap (λ (k : SpteKind). if is_leaf k && nat_lt 1 level then child_word level word i else absent_word) none

pub frame_small : (word : ℕ) → frame_in word < 2 ^ 40
unfolding frame_in
frame_small word = omega arith

-- It is a word of 64 bits.
pub below_fits : (level word i : ℕ) → level ≤ 4 → i < 512 → word_below level word i < 2 ^ 64
below_fits level word i most low = by (is_large_leaf level word) refl
  where
    by : (b : Bool) → is_large_leaf level word ≡ b → (if b then child_word level word i else absent_word) < 2 ^ 64
    by false is = absent_fits
    by true is =
        let upper : 2 ≤ level = grind (arith, nat_tests) in
        let small = each_span (λ s. i * s < 2 ^ 37) (omega arith) (omega arith) (omega arith) (omega arith)
        (level - 1) (omega (arith, upper)) (omega (arith, most)) in
        subst (λ w. w < 2 ^ 64) (sym (child_is level word i))
        (leaf_fits (level - 1) (frame_in word + i * level_span (level - 1)) (can_write word) (host_writable word) (mmu_writable word)
        (let frame = frame_small word in omega (arith, frame, small)))
