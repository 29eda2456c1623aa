-- What each frame of the host is, where frames pass from one use to another: by a claim, by a move of a page, or as they are given back.
use Rattle.std.proofs.Common.{◌≡◌, ◌≢◌, ◌+◌, ◌*◌, ◌^◌, ◌<◌, ℕ, refl, sym, ap, ◌∙◌, arith, bit_and, bit_or, w64}
use Rattle.std.specs.Prelude.{Bool, true, false, ◌==◌, if◌then◌else◌, Option, Some, None, ◌&&◌, nat_lt}
use Rattle.std.specs.Int.{bit_not}
use Rattle.std.proofs.lemmas.Bool.Decides.{nat_tests}
use Rattle.core_views.specs.declared.sizes.Sizes.{Sizes}
use Rattle.core_views.specs.declared.topics.OwnedFrame.{OwnedFrame}
use Rattle.spte_words.specs.Bits.{has_bit}
use Rattle.spte_words.specs.HostWords.{host_frame}
use Rattle.mmu_core.specs.invariant.AreUsed.{AreUsed}
use Rattle.mmu_core.specs.invariant.FramesPart.{FrameUse, FramesPart, frame_told, is_frame_of, is_frame_use, is_in}
use Rattle.mmu_core.specs.invariant.PoolPart.{is_free}
use Rattle.mmu_core.specs.machine.View.{upd}
use Rattle.mmu_core.proofs.machine.Columns.{upd_other}
use Rattle.mmu_core.proofs.machine.ColumnsTell.{one_less, one_more, place_comes, place_leaves, place_stays, place_turns, row_after}
use Rattle.mmu_core.proofs.pages.FrameUses.{frame_use_is, free_frame_use, owned_frame_use, owned_of_no_page, page_use}
use Rattle.mmu_core.proofs.pages.Standing.{upd_if}
use Rattle.mmu_core.proofs.pages.Uses.{passes, told_after}
use Rattle.mmu_core.proofs.words.PoolBits.{free_cleared, free_given, free_unclaimed, page_free}

-- the frame of a claim of bit j of word i, which was won or not
abbrev pub new_frame : Bool → ℕ → ℕ → Option OwnedFrame
new_frame won i j = if won then Some (record { frame = 64 * i + j; filled = 0; copied = None }) else None

-- what the frames are where the page was moved to the owned one, or wasn't
abbrev pub moved_use : Bool → ℕ → ℕ → ℕ → Option OwnedFrame → (ℕ → FrameUse) → ℕ → FrameUse
moved_use won page a old None use_of = use_of
moved_use won page a old (Some o) use_of = if won then upd (upd use_of o.frame (FrameUse.Page page)) old (FrameUse.Owned a) else use_of

-- A page that moves names the frame that was owned in place of its old one, and the old one is owned in place of that.
named_for : (old p k : ℕ) → p ≢ old → (p == k) ≡ upd (upd (λ m. old == m) p true) old false k
named_for old p k apart = grind (arith, nat_tests)

owned_for : (old p k : ℕ) → (old == k) ≡ upd (upd (λ m. p == m) p false) old true k
owned_for old p k = grind (arith, nat_tests)

module _ {z : Sizes} {n : ℕ} {map host : ℕ → ℕ} {owned : ℕ → Option OwnedFrame} {use_of : ℕ → FrameUse} (U : FramesPart z n map host owned use_of)
    (a : ℕ) (lt : a < n) where
  -- What is told, but of a frame that has passed from one use to another.
  abbrev passed : ℕ → FrameUse → FrameUse → FrameUse → ℕ → Bool
  passed = told_after is_frame_use (frame_told z n map host owned)

  -- No frame passes, where each host word names the frame that it named.
  pub frames_stay : (bits words : ℕ → ℕ) (new_ : Option OwnedFrame) → ((k : ℕ) → is_free bits k ≡ is_free map k)
      → ((p : ℕ) → host_frame (words p) ≡ host_frame (host p)) → ((k : ℕ) → is_frame_of new_ k ≡ is_frame_of (owned a) k)
      → FramesPart z n bits words (upd owned a new_) use_of
  frames_stay bits words new_ free named same = record { told = by }
    where
      by : AreUsed FrameUse is_frame_use (frame_told z n bits words (upd owned a new_)) use_of
      by FrameUse.Free k = free k ∙ U.told FrameUse.Free k
      by (FrameUse.Page p) k = ap (λ f. nat_lt p z.pages && (f == k)) (named p) ∙ U.told (FrameUse.Page p) k
      by (FrameUse.Owned l) k = place_stays is_frame_of n owned a new_ lt refl same l k ∙ U.told (FrameUse.Owned l) k
      by u k = U.told u k

  pub frame_claim_kept : (i j : ℕ) (won : Bool) → j < 64 → has_bit j (map i) ≡ won → owned a ≡ None
      → FramesPart z n (upd map i (bit_and (map i) (bit_not w64 (2 ^ j)))) host (upd owned a (new_frame won i j))
      (upd_if won use_of (64 * i + j) (FrameUse.Owned a))
  frame_claim_kept i j false low found none =
      frames_stay _ host None (free_unclaimed map i j low found) (λ p. refl) (λ k. sym (ap (λ x. is_frame_of x k) none))
  frame_claim_kept i j true low found none = record { told = by }
    where
      f : ℕ
      f = 64 * i + j

      A : AreUsed FrameUse is_frame_use (passed f FrameUse.Free (FrameUse.Owned a)) (upd use_of f (FrameUse.Owned a))
      A = passes frame_use_is U.told f FrameUse.Free (FrameUse.Owned a) (free_frame_use U f (page_free map i j low ∙ found)) refl

      by : AreUsed FrameUse is_frame_use
          (frame_told z n (upd map i (bit_and (map i) (bit_not w64 (2 ^ j)))) host (upd owned a (new_frame true i j))) (upd use_of f (FrameUse.Owned a))
      by FrameUse.Free k = free_cleared map i j low k ∙ A FrameUse.Free k
      by (FrameUse.Owned l) k = place_comes is_frame_of n owned a (new_frame true i j) lt none f (one_more f) l k ∙ A (FrameUse.Owned l) k
      by u k = A u k

  -- The frame that is owned is given back.
  pub frame_give_kept : (i j : ℕ) (o : OwnedFrame) → j < 64 → 64 * i + j ≡ o.frame → owned a ≡ Some o
      → FramesPart z n (upd map i (bit_or (map i) (2 ^ j))) host (upd owned a None) (upd use_of o.frame FrameUse.Free)
  frame_give_kept i j o low at mine = record { told = by }
    where
      A : AreUsed FrameUse is_frame_use (passed o.frame (FrameUse.Owned a) FrameUse.Free) (upd use_of o.frame FrameUse.Free)
      A = passes frame_use_is U.told o.frame (FrameUse.Owned a) FrameUse.Free (owned_frame_use U a o lt mine) refl

      by : AreUsed FrameUse is_frame_use
          (frame_told z n (upd map i (bit_or (map i) (2 ^ j))) host (upd owned a None)) (upd use_of o.frame FrameUse.Free)
      by FrameUse.Free k = free_given map i j o.frame low at k ∙ A FrameUse.Free k
      by (FrameUse.Owned l) k = place_leaves is_frame_of n owned a None lt mine o.frame (one_less o.frame) l k ∙ A (FrameUse.Owned l) k
      by u k = A u k

  -- The page is moved to the frame that is owned: its old one is owned in place of it.
  pub frame_move_kept : (page new_ : ℕ) (o p : OwnedFrame) → page < z.pages → host_frame new_ ≡ o.frame → p.frame ≡ host_frame (host page)
      → owned a ≡ Some o
      → FramesPart z n map (upd host page new_) (upd owned a (Some p))
      (upd (upd use_of o.frame (FrameUse.Page page)) (host_frame (host page)) (FrameUse.Owned a))
  frame_move_kept page new_ o p there at from mine = record { told = by }
    where
      old : ℕ
      old = host_frame (host page)

      apart : old ≢ o.frame
      apart = owned_of_no_page U a o page lt mine there

      after : ℕ → FrameUse
      after = upd (upd use_of o.frame (FrameUse.Page page)) old (FrameUse.Owned a)

      A : AreUsed FrameUse is_frame_use
          (told_after is_frame_use (passed o.frame (FrameUse.Owned a) (FrameUse.Page page)) old (FrameUse.Page page) (FrameUse.Owned a)) after
      A =
          passes frame_use_is (passes frame_use_is U.told o.frame (FrameUse.Owned a) (FrameUse.Page page) (owned_frame_use U a o lt mine) refl)
          old (FrameUse.Page page) (FrameUse.Owned a) (upd_other use_of o.frame old (FrameUse.Page page) apart ∙ page_use U page there) refl

      by : AreUsed FrameUse is_frame_use (frame_told z n map (upd host page new_) (upd owned a (Some p))) after
      by (FrameUse.Page q) k =
          place_turns is_in z.pages host page new_ there refl (λ b r. row_after b false old (row_after false b o.frame r))
          (λ k. ap (λ f. f == k) at ∙ named_for old o.frame k (λ e. apart (sym e))) (λ r k. refl) q k ∙ A (FrameUse.Page q) k
      by (FrameUse.Owned l) k =
          place_turns is_frame_of n owned a (Some p) lt mine (λ b r. row_after false b old (row_after b false o.frame r))
          (λ k. ap (λ f. f == k) from ∙ owned_for old o.frame k) (λ r k. refl) l k ∙ A (FrameUse.Owned l) k
      by u k = A u k
