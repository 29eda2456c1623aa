-- The frame of a host word, and of the leaf that slots and host give, is one of the machine's.
use Rattle.std.proofs.Common.{◌≡◌, ◌+◌, ◌%◌, ◌^◌, ◌<◌, ◌≤◌, ℕ, sym, subst, ap, ◌∙◌, arith}
use Rattle.std.specs.Prelude.{true, ◌&&◌, nat_le, nat_lt}
use Rattle.std.proofs.lemmas.Bool.Decides.{nat_tests}
use Rattle.core_views.specs.declared.sizes.Sizes.{Sizes}
use Rattle.core_views.specs.declared.trace.Slot.{Slot as SlotOf}
use Rattle.core_views.specs.Sizes.{AreSizes}
use Rattle.spte_words.specs.Entries.{frame_in, level_span, mapped_frame}
use Rattle.spte_words.specs.HostWords.{host_allows_write, host_frame}
use Rattle.spte_words.proofs.ReadsEntries.{leaf_frame}
use Rattle.part_steps.specs.SlotWords.{may_write, page_of}
use Rattle.mmu_core.specs.invariant.CachedPart.{IsLeafFor}
use Rattle.mmu_core.specs.invariant.HostWordsPart.{HostWordsPart}
use Rattle.mmu_core.specs.invariant.SlotSetPart.{SlotSetPart}

-- The first frame of a leaf that slots and host give is a small number.
pub first_small : (pool host : ℕ → ℕ) (set level gfn leaf : ℕ) → (L : IsLeafFor pool host set level gfn leaf) → L.first < 2 ^ 40
first_small pool host set level gfn leaf L = let frame = L.frame in let small = L.small in omega (arith, frame, small)

-- A leaf that slots and host give has the guest frame's frame where the guest frame is in its span.
pub leaf_maps : (pool host : ℕ → ℕ) (set level gfn leaf : ℕ) → (L : IsLeafFor pool host set level gfn leaf)
    → mapped_frame level leaf gfn ≡ host_frame (host (page_of L.slot gfn))
unfolding mapped_frame
leaf_maps pool host set level gfn leaf L =
    let w : ℕ = host (page_of L.slot gfn) in
    let first : frame_in leaf ≡ L.first =
    ap frame_in L.is ∙ leaf_frame level L.first (L.writes && may_write L.slot w) (host_allows_write w) (may_write L.slot w)
    (first_small pool host set level gfn leaf L) in
    ap (λ n. n + gfn % level_span level) first ∙ sym L.frame

-- This is one of the machine.
pub leaf_there : (z : Sizes) (set : ℕ) (role pool host : ℕ → ℕ) (level gfn leaf : ℕ) → AreSizes z → SlotSetPart z set role pool → HostWordsPart z host
    → IsLeafFor pool host set level gfn leaf → mapped_frame level leaf gfn < z.frames
leaf_there z set role pool host level gfn leaf sizes part hosts L =
    subst (λ n. n < z.frames) (sym (leaf_maps pool host set level gfn leaf L)) (hosts (page_of L.slot gfn) page).1
  where
    bounds : (low high : ℕ) → (nat_le low gfn && nat_lt gfn high) ≡ true → (low ≤ gfn) × (gfn < high)
    bounds low high test = (grind (arith, nat_tests), grind (arith, nat_tests))

    page : page_of L.slot gfn < z.pages
    page =
        let fits : L.slot.host + L.slot.pages ≤ z.pages =
        subst (λ (s : SlotOf). s.host + s.pages ≤ z.pages) L.live.is (part.slots.fits L.id L.live.low L.live.live).pages in
        let inside = bounds L.slot.base (L.slot.base + L.slot.pages) L.holds in
        omega (arith, fits, inside.0, inside.1)
