-- What each frame of the host is at the start.
use Rattle.std.proofs.Common.{◌≡◌, ◌≢◌, ◌⊎◌, inl, inr, ◌<◌, ◌≤◌, ℕ, refl, sym, ap, ◌∙◌, arith}
use Rattle.std.proofs.lemmas.Bool.Decides.{nat_tests}
use Rattle.std.specs.Prelude.{Bool, true, false, ◌==◌, nat_le, nat_lt, if◌then◌else◌, Option, None}
use Rattle.core_views.specs.declared.sizes.Sizes.{Sizes}
use Rattle.core_views.specs.declared.topics.OwnedFrame.{OwnedFrame}
use Rattle.spte_words.specs.HostWords.{host_frame}
use Rattle.mmu_core.specs.invariant.AreUsed.{AreUsed}
use Rattle.mmu_core.specs.invariant.FramesPart.{FrameUse, FramesPart, frame_told, is_frame_of, is_frame_use, is_in, names}
use Rattle.mmu_core.specs.invariant.PoolPart.{is_free}
use Rattle.mmu_core.specs.machine.Worlds.{free_bits}
use Rattle.mmu_core.proofs.machine.Columns.{same_or}
use Rattle.mmu_core.proofs.machine.ColumnsTell.{at_none, at_place, is_outside, no_outside, other}
use Rattle.mmu_core.proofs.start.StartWords.{bits_behind, bits_below, bits_inside}

-- The first frames are those of the pages, in their order, and each other one of the machine is free.
abbrev pub use_behind : ℕ → ℕ → FrameUse
use_behind frames k = if nat_le frames k then FrameUse.Outside else FrameUse.Free

abbrev pub start_use : ℕ → ℕ → ℕ → FrameUse
start_use pages frames k = if nat_lt k pages then FrameUse.Page k else use_behind frames k

-- What is so of a use, where it is so of each that a frame may have at the start.
each_start : (pages frames k : ℕ) (IsSo : FrameUse → Type 0) → (k < pages → IsSo (FrameUse.Page k)) → (pages ≤ k → k < frames → IsSo FrameUse.Free)
    → (pages ≤ k → frames ≤ k → IsSo FrameUse.Outside) → IsSo (start_use pages frames k)
each_start pages frames k IsSo page free outside =
    by (nat_lt k pages) (nat_le frames k) (λ e. grind (arith, nat_tests)) (λ e. grind (arith, nat_tests)) (λ e. grind (arith, nat_tests))
    (λ e. grind (arith, nat_tests))
  where
    by : (low past : Bool) → (low ≡ true → k < pages) → (low ≡ false → pages ≤ k) → (past ≡ true → frames ≤ k) → (past ≡ false → k < frames)
        → IsSo (if low then FrameUse.Page k else if past then FrameUse.Outside else FrameUse.Free)
    by true past lt le over under = page (lt refl)
    by false true lt le over under = outside (le refl) (over refl)
    by false false lt le over under = free (le refl) (under refl)

-- So it is by the words and hands of a start: no frame is owned.
pub start_frames : (z : Sizes) (n : ℕ) (map host : ℕ → ℕ) (owned : ℕ → Option OwnedFrame) → z.pages ≤ z.frames
    → ((i : ℕ) → map i ≡ free_bits z.pages z.frames i) → ((p : ℕ) → p < z.pages → host_frame (host p) ≡ p) → ((i : ℕ) → i < n → owned i ≡ None)
    → FramesPart z n map host owned (start_use z.pages z.frames)
start_frames z n map host owned few bits own none = record { told = by }
  where
    not_named : (p k : ℕ) → (p < z.pages → p ≢ k) → names z.pages host p k ≡ false
    not_named p k apart = at_none is_in z.pages host p k (λ lt. ap (λ f. f == k) (own p lt) ∙ other p k (apart lt))

    named : (p k : ℕ) → k < z.pages → (p ≡ k) ⊎ (p ≢ k) → names z.pages host p k ≡ (p == k)
    named p k low (inl e) = let lt : p < z.pages = omega (arith, e, low) in at_place is_in z.pages host p k lt refl ∙ ap (λ f. f == k) (own p lt)
    named p k low (inr ne) = not_named p k (λ lt. ne) ∙ sym (other p k ne)

    by : AreUsed FrameUse is_frame_use (frame_told z n map host owned) (start_use z.pages z.frames)
    by FrameUse.Free k =
        each_start z.pages z.frames k (λ u. is_free map k ≡ is_frame_use FrameUse.Free u) (λ low. bits_below map z.pages z.frames bits k low)
        (λ high lt. bits_inside map z.pages z.frames bits k high lt) (λ high le. bits_behind map z.pages z.frames bits k le)
    by (FrameUse.Page p) k =
        each_start z.pages z.frames k (λ u. names z.pages host p k ≡ is_frame_use (FrameUse.Page p) u) (λ low. named p k low (same_or p k))
        (λ high lt. not_named p k (λ lt e. omega (arith, e, lt, high))) (λ high le. not_named p k (λ lt e. omega (arith, e, lt, high)))
    by (FrameUse.Owned i) k =
        at_none is_frame_of n owned i k (λ lt. ap (λ o. is_frame_of o k) (none i lt))
        ∙ sym (each_start z.pages z.frames k (λ u. is_frame_use (FrameUse.Owned i) u ≡ false) (λ low. refl) (λ high lt. refl) (λ high le. refl))
    by FrameUse.Outside k =
        each_start z.pages z.frames k (λ u. nat_le z.frames k ≡ is_frame_use FrameUse.Outside u) (λ low. no_outside k z.frames (omega (arith, low, few)))
        (λ high lt. no_outside k z.frames lt) (λ high le. is_outside k z.frames le)
