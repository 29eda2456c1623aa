-- The pages whose bits in the pool's map are set, where one bit of one word is cleared or set.
use Rattle.std.proofs.Common.{◌≡◌, ◌≢◌, ◌⊎◌, inl, inr, ◌+◌, ◌*◌, ◌/◌, ◌%◌, ◌^◌, ◌<◌, ℕ, refl, sym, subst, ap, ◌∙◌, arith, bit_and, bit_or, w64}
use Rattle.std.specs.Prelude.{Bool, true, false, ◌==◌}
use Rattle.std.specs.Int.{bit_not}
use Rattle.std.proofs.lemmas.Nat.{one_shl}
use Rattle.std.proofs.lemmas.Nat.Bits.{bit_at_set_same, bit_at_set_other, bit_at_clear_same, bit_at_clear_other}
use Rattle.spte_words.specs.Bits.{has_bit}
use Rattle.mmu_core.specs.invariant.PoolPart.{is_free}
use Rattle.mmu_core.specs.machine.View.{upd}
use Rattle.mmu_core.proofs.machine.Columns.{at_upd, same_or, upd_other, upd_same}

-- a word with the bit at place j cleared, and with it set
pub clears_bit : (w j i : ℕ) → j < 64 → i < 64 → has_bit i (bit_and w (bit_not w64 (2 ^ j))) ≡ upd (λ k. has_bit k w) j false i
clears_bit w j i jl il = subst (λ m. has_bit i (bit_and w (bit_not w64 m)) ≡ upd (λ k. has_bit k w) j false i) (one_shl j 64 jl) (case (same_or i j))
  where
    case : (i ≡ j) ⊎ (i ≢ j) → has_bit i (bit_and w (bit_not w64 (1 * 2 ^ j % 2 ^ 64))) ≡ upd (λ k. has_bit k w) j false i
    case (inl e) =
        subst (λ k. has_bit k (bit_and w (bit_not w64 (1 * 2 ^ j % 2 ^ 64))) ≡ upd (λ k. has_bit k w) j false k) (sym e)
        (ap (λ b. b == 1) (bit_at_clear_same w64 w j jl) ∙ sym (upd_same (λ k. has_bit k w) j false))
    case (inr ne) = ap (λ b. b == 1) (bit_at_clear_other w64 w j jl i il ne) ∙ sym (upd_other (λ k. has_bit k w) j i false ne)

pub sets_bit : (w j i : ℕ) → j < 64 → has_bit i (bit_or w (2 ^ j)) ≡ upd (λ k. has_bit k w) j true i
sets_bit w j i jl = subst (λ m. has_bit i (bit_or w m) ≡ upd (λ k. has_bit k w) j true i) (one_shl j 64 jl) (case (same_or i j))
  where
    case : (i ≡ j) ⊎ (i ≢ j) → has_bit i (bit_or w (1 * 2 ^ j % 2 ^ 64)) ≡ upd (λ k. has_bit k w) j true i
    case (inl e) =
        subst (λ k. has_bit k (bit_or w (1 * 2 ^ j % 2 ^ 64)) ≡ upd (λ k. has_bit k w) j true k) (sym e)
        (ap (λ b. b == 1) (bit_at_set_same w64 w j jl) ∙ sym (upd_same (λ k. has_bit k w) j true))
    case (inr ne) = ap (λ b. b == 1) (bit_at_set_other w64 w j jl i ne) ∙ sym (upd_other (λ k. has_bit k w) j i true ne)

-- The page of bit j of word i.
pub page_free : (map : ℕ → ℕ) (i j : ℕ) → j < 64 → is_free map (64 * i + j) ≡ has_bit j (map i)
page_free map i j jl =
    let low : (64 * i + j) % 64 ≡ j = omega arith in
    let word : (64 * i + j) / 64 ≡ i = omega arith in
    ap (λ b. has_bit b (map ((64 * i + j) / 64))) low ∙ ap (λ x. has_bit j (map x)) word

-- One word of the map is stored, whose bit j became b: the page of that bit is free or not, and each other one is what it was.
pub free_stored : (map : ℕ → ℕ) (i j w : ℕ) (b : Bool) → j < 64 → ((k : ℕ) → k < 64 → has_bit k w ≡ upd (λ p. has_bit p (map i)) j b k) → (k : ℕ)
    → is_free (upd map i w) k ≡ upd (is_free map) (64 * i + j) b k
free_stored map i j w b jl bits k = case (same_or (k / 64) i) (same_or (k % 64) j)
  where
    low : k % 64 < 64
    low = omega arith

    case : (k / 64 ≡ i) ⊎ (k / 64 ≢ i) → (k % 64 ≡ j) ⊎ (k % 64 ≢ j) → is_free (upd map i w) k ≡ upd (is_free map) (64 * i + j) b k
    case (inl p) (inl q) =
        let page : k ≡ 64 * i + j = omega (arith, p, q) in
        ap (λ x. has_bit (k % 64) (upd map i w x)) p ∙ ap (has_bit (k % 64)) (upd_same map i w) ∙ bits (k % 64) low
        ∙ ap (upd (λ x. has_bit x (map i)) j b) q ∙ upd_same (λ x. has_bit x (map i)) j b
        ∙ sym (upd_same (is_free map) (64 * i + j) b) ∙ ap (upd (is_free map) (64 * i + j) b) (sym page)
    case (inl p) (inr q) =
        let apart : k ≢ 64 * i + j = λ e. q (omega (arith, e)) in
        ap (λ x. has_bit (k % 64) (upd map i w x)) p ∙ ap (has_bit (k % 64)) (upd_same map i w) ∙ bits (k % 64) low
        ∙ upd_other (λ x. has_bit x (map i)) j (k % 64) b q
        ∙ ap (λ x. has_bit (k % 64) (map x)) (sym p) ∙ sym (upd_other (is_free map) (64 * i + j) k b apart)
    case (inr p) q =
        let apart : k ≢ 64 * i + j = λ e. p (omega (arith, e, jl)) in
        ap (has_bit (k % 64)) (upd_other map i (k / 64) w p) ∙ sym (upd_other (is_free map) (64 * i + j) k b apart)

-- The map, where the bit of a page is cleared, and where it is set.
pub free_cleared : (map : ℕ → ℕ) (i j : ℕ) → j < 64 → (k : ℕ)
    → is_free (upd map i (bit_and (map i) (bit_not w64 (2 ^ j)))) k ≡ upd (is_free map) (64 * i + j) false k
free_cleared map i j jl = free_stored map i j (bit_and (map i) (bit_not w64 (2 ^ j))) false jl (λ k lt. clears_bit (map i) j k jl lt)

pub free_set : (map : ℕ → ℕ) (i j : ℕ) → j < 64 → (k : ℕ) → is_free (upd map i (bit_or (map i) (2 ^ j))) k ≡ upd (is_free map) (64 * i + j) true k
free_set map i j jl = free_stored map i j (bit_or (map i) (2 ^ j)) true jl (λ k lt. sets_bit (map i) j k jl)

-- A bit that is cleared and wasn't set leaves each page, and one that is set frees its page.
pub free_unclaimed : (map : ℕ → ℕ) (i j : ℕ) → j < 64 → has_bit j (map i) ≡ false → (k : ℕ)
    → is_free (upd map i (bit_and (map i) (bit_not w64 (2 ^ j)))) k ≡ is_free map k
free_unclaimed map i j jl none k =
    free_cleared map i j jl k ∙ at_upd (λ l b. b ≡ is_free map l) (is_free map) (64 * i + j) false (sym (page_free map i j jl ∙ none)) (λ l apart. refl) k

pub free_given : (map : ℕ → ℕ) (i j p : ℕ) → j < 64 → 64 * i + j ≡ p → (k : ℕ) → is_free (upd map i (bit_or (map i) (2 ^ j))) k ≡ upd (is_free map) p true k
free_given map i j p jl at k = free_set map i j jl k ∙ ap (λ q. upd (is_free map) q true k) at
