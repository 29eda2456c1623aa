-- What a frame of the host is, it is alone: free, that of one page, or owned by one actor.
use Rattle.std.proofs.Common.{◌≡◌, ◌≢◌, ◌<◌, ℕ, refl, sym, ap, ◌∙◌}
use Rattle.std.specs.Prelude.{true, false, Option, Some}
use Rattle.core_views.specs.declared.sizes.Sizes.{Sizes}
use Rattle.core_views.specs.declared.topics.OwnedFrame.{OwnedFrame}
use Rattle.spte_words.specs.HostWords.{host_frame}
use Rattle.mmu_core.specs.invariant.FramesPart.{FrameUse, FramesPart, is_frame_of, is_frame_use, is_in}
use Rattle.mmu_core.specs.invariant.PoolPart.{is_free}
use Rattle.mmu_core.proofs.machine.ColumnsTell.{HeldAt, at_place, at_tells, held_at, inside_tells, itself, tells}
use Rattle.mmu_core.proofs.pages.Uses.{has_use, told_so}

-- Uses that are found to be one are one.
pub frame_use_is : (u w : FrameUse) → is_frame_use u w ≡ true → w ≡ u
frame_use_is FrameUse.Free FrameUse.Free is = refl
frame_use_is FrameUse.Outside FrameUse.Outside is = refl
frame_use_is (FrameUse.Page p) (FrameUse.Page q) is = ap FrameUse.Page (sym (tells p q is))
frame_use_is (FrameUse.Owned i) (FrameUse.Owned j) is = ap FrameUse.Owned (sym (tells i j is))
frame_use_is _ _ is = absurd (cc is)

module _ {z : Sizes} {n : ℕ} {map host : ℕ → ℕ} {owned : ℕ → Option OwnedFrame} {use_of : ℕ → FrameUse} (U : FramesPart z n map host owned use_of) where
  -- What a frame is, by the words and hands.
  pub free_frame_use : (frame : ℕ) → is_free map frame ≡ true → use_of frame ≡ FrameUse.Free
  free_frame_use frame free = has_use frame_use_is U.told FrameUse.Free frame free

  pub owned_frame_use : (i : ℕ) (o : OwnedFrame) → i < n → owned i ≡ Some o → use_of o.frame ≡ FrameUse.Owned i
  owned_frame_use i o lt is = has_use frame_use_is U.told (FrameUse.Owned i) o.frame (at_place is_frame_of n owned i o.frame lt is ∙ itself o.frame)

  pub page_use : (p : ℕ) → p < z.pages → use_of (host_frame (host p)) ≡ FrameUse.Page p
  page_use p lt =
      has_use frame_use_is U.told (FrameUse.Page p) (host_frame (host p))
      (at_place is_in z.pages host p (host_frame (host p)) lt refl ∙ itself (host_frame (host p)))

  -- And back.
  pub has_frame_owner : (i frame : ℕ) → use_of frame ≡ FrameUse.Owned i → HeldAt OwnedFrame (λ o. o.frame) n owned i frame
  has_frame_owner i frame is =
      held_at (λ (o : OwnedFrame). o.frame) n owned i frame (told_so frame_use_is U.told frame (FrameUse.Owned i) is (FrameUse.Owned i) ∙ itself i)

  pub has_page : (p frame : ℕ) → use_of frame ≡ FrameUse.Page p → (p < z.pages) × (host_frame (host p) ≡ frame)
  has_page p frame is =
      let e = at_tells is_in z.pages host p frame (told_so frame_use_is U.told frame (FrameUse.Page p) is (FrameUse.Page p) ∙ itself p) in
      (e.0, tells (host_frame (host p)) frame e.1)

  -- A frame that is something else than outside is one of the machine's.
  pub is_frame : (frame : ℕ) (u : FrameUse) → use_of frame ≡ u → is_frame_use FrameUse.Outside u ≡ false → frame < z.frames
  is_frame frame u is inside = inside_tells frame z.frames (told_so frame_use_is U.told frame u is FrameUse.Outside ∙ inside)

  pub owned_frame_there : (i : ℕ) (o : OwnedFrame) → i < n → owned i ≡ Some o → o.frame < z.frames
  owned_frame_there i o lt is = is_frame o.frame (FrameUse.Owned i) (owned_frame_use i o lt is) refl

  -- Two pages with one frame are one page.
  pub frames_apart : (p q : ℕ) → p < z.pages → q < z.pages → host_frame (host p) ≡ host_frame (host q) → p ≡ q
  frames_apart p q lt too same = let one = sym (page_use p lt) ∙ ap use_of same ∙ page_use q too in cc one

  -- A frame has one owner at most.
  pub one_frame_owner : (i j : ℕ) (o p : OwnedFrame) → i < n → j < n → owned i ≡ Some o → owned j ≡ Some p → p.frame ≡ o.frame → i ≡ j
  one_frame_owner i j o p lt too is be same = let one = sym (owned_frame_use i o lt is) ∙ ap use_of (sym same) ∙ owned_frame_use j p too be in cc one

  -- A frame that is owned is no page's.
  pub owned_of_no_page : (i : ℕ) (o : OwnedFrame) (p : ℕ) → i < n → owned i ≡ Some o → p < z.pages → host_frame (host p) ≢ o.frame
  owned_of_no_page i o p lt is there e = let one = sym (page_use p there) ∙ ap use_of e ∙ owned_frame_use i o lt is in absurd (cc one)

  -- Nor is it free.
  pub owned_frame_not_free : (i : ℕ) (o : OwnedFrame) → i < n → owned i ≡ Some o → is_free map o.frame ≡ false
  owned_frame_not_free i o lt is = told_so frame_use_is U.told o.frame (FrameUse.Owned i) (owned_frame_use i o lt is) FrameUse.Free
