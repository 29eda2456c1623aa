-- A header's numbers are sizes of a machine.
use Rattle.std.proofs.Common.{◌∙◌, ap, slice_index, length, ◌≡◌, ◌<◌, ◌≤◌, ◌⊎◌, inl, inr, ℕ, zero, suc, [], ◌∷◌, refl, subst, arith, ◌+◌, sym}
use Rattle.std.specs.Prelude.{All, Option, Some, None, slice_get, unwrap_or}
use Rattle.std.proofs.lemmas.Option.{get_or_from_slice_get, slice_get-get_or, slice_get_past, slice_get_within}
use Rattle.core_views.specs.declared.trace.Header.{Header}
use Rattle.core_views.specs.Sizes.{AreSizes, first_page_in, sizes_of}
use Rattle.core_views.specs.Traces.{IsHeader}

one_to_eight : (n : ℕ) → (n ≡ 1) ⊎ (n ≡ 2) ⊎ (n ≡ 4) ⊎ (n ≡ 8) → (1 ≤ n) × (n ≤ 8)
one_to_eight n (inl e) = (omega arith, omega arith)
one_to_eight n (inr (inl e)) = (omega arith, omega arith)
one_to_eight n (inr (inr (inl e))) = (omega arith, omega arith)
one_to_eight n (inr (inr (inr e))) = (omega arith, omega arith)

first_within : (h : Header) → IsHeader h → (host : ℕ) → first_page_in h.hosts h.pages host ≤ h.pages
first_within h is host = by (slice_get h.hosts host) refl
  where
    by : (o : Option ℕ) → slice_get h.hosts host ≡ o → unwrap_or o h.pages ≤ h.pages
    by None e = omega arith
    by (Some page) e =
        let below : page < h.pages =
        subst (λ (x : ℕ). x < h.pages) (get_or_from_slice_get h.hosts host page 0 e) (is.hosts.below host 0 (slice_get_within h.hosts host page e)) in
        omega (arith, below)

-- The first page of a host thread isn't after that of the next one.
first_rising : (h : Header) → IsHeader h → (host : ℕ) → first_page_in h.hosts h.pages host ≤ first_page_in h.hosts h.pages (host + 1)
first_rising h is host = by (slice_get h.hosts host) (slice_get h.hosts (host + 1)) refl refl
  where
    within : first_page_in h.hosts h.pages host ≤ h.pages
    within = first_within h is host

    by : (o p : Option ℕ) → slice_get h.hosts host ≡ o → slice_get h.hosts (host + 1) ≡ p → unwrap_or o h.pages ≤ unwrap_or p h.pages
    by o None e f = subst (λ x. unwrap_or x h.pages ≤ h.pages) e within
    by None (Some page) e f =
        let lt : host + 1 < length h.hosts = slice_get_within h.hosts (host + 1) page f in
        let there = slice_get-get_or h.hosts host 0 (omega (arith, lt)) in
        absurd (let none = sym e ∙ there in cc none)
    by (Some first) (Some page) e f =
        let lt : host + 1 < length h.hosts = slice_get_within h.hosts (host + 1) page f in
        let less = is.hosts.rising host lt in
        let one : slice_index h.hosts host ≡ first = get_or_from_slice_get h.hosts host first 0 e in
        let next : slice_index h.hosts (host + 1) ≡ page = get_or_from_slice_get h.hosts (host + 1) page 0 f in
        omega (arith, less, one, next)

-- So it is of the four first pages that the sizes list.
rising_of : (h : Header) → IsHeader h → (host : ℕ)
    → first_page_in (sizes_of h).first_pages h.pages host ≤ first_page_in (sizes_of h).first_pages h.pages (host + 1)
rising_of h is zero = first_rising h is 0
rising_of h is (suc zero) = first_rising h is 1
rising_of h is (suc (suc zero)) = first_rising h is 2
rising_of h is (suc (suc (suc zero))) = first_within h is 3
rising_of h is (suc (suc (suc (suc n)))) = both_last (past (suc (suc (suc (suc n)))) (omega arith)) (past (suc (suc (suc (suc n))) + 1) (omega arith))
  where
    past : (k : ℕ) → 4 ≤ k → first_page_in (sizes_of h).first_pages h.pages k ≡ h.pages
    past k le = ap (λ o. unwrap_or o h.pages) (slice_get_past (sizes_of h).first_pages k le)

    both_last : {a b : ℕ} → a ≡ h.pages → b ≡ h.pages → a ≤ b
    both_last one other = omega (arith, one, other)

-- What holds of four elements holds of a list of them.
pub four : {X : Type 0} (P : X → Type 0) (a b c d : X) → P a → P b → P c → P d → All P (a ∷ b ∷ c ∷ d ∷ [])
four P a b c d one two three last zero x lt = one
four P a b c d one two three last (suc zero) x lt = two
four P a b c d one two three last (suc (suc zero)) x lt = three
four P a b c d one two three last (suc (suc (suc zero))) x lt = last
four P a b c d one two three last (suc (suc (suc (suc k)))) x lt = absurd (omega (arith, lt))

pub header_sizes : (h : Header) → IsHeader h → AreSizes (sizes_of h)
header_sizes h is = record {
  actors = record { vcpus = is.vcpus.1; hosts = is.hosts.count; workers = is.workers };
  some = is.vcpus.0;
  pages = is.pages;
  frames = is.frames;
  words = one_to_eight h.words is.words;
  content = is.content;
  pool = is.pool;
  cache = is.cache;
  firsts =
      four (λ page. page ≤ h.pages) (first_page_in h.hosts h.pages 0) (first_page_in h.hosts h.pages 1) (first_page_in h.hosts h.pages 2)
      (first_page_in h.hosts h.pages 3) (first_within h is 0) (first_within h is 1) (first_within h is 2) (first_within h is 3);
  rising = record { each = rising_of h is };
}
