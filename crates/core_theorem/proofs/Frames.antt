-- Each frame has one use; what moves have copied is their pages'; and what one actor owns of frames no other one owns, and no page names.
use Rattle.std.proofs.Common.{◌≡◌, ◌≢◌, ◌⊎◌, inl, inr, ◌<◌, ◌≤◌, ℕ, List, refl, sym, subst, ap, ◌∙◌, arith}
use Rattle.std.specs.Prelude.{true, All, Option, Some, None}
use Rattle.core_views.specs.declared.cache.Translation.{Translation}
use Rattle.core_views.specs.declared.sizes.Sizes.{Sizes}
use Rattle.core_views.specs.declared.topics.OwnedFrame.{OwnedFrame}
use Rattle.core_views.specs.declared.topics.Stay.TheVariants.{Outside}
use Rattle.core_views.specs.declared.topics.Topics.{Topics}
use Rattle.core_views.specs.Held.{Held}
use Rattle.core_views.specs.Sizes.{actors_of}
use Rattle.spte_words.specs.declared.area.Area.TheVariants as area
use Rattle.spte_words.specs.Entries.{mapped_frame}
use Rattle.mmu_core.specs.forms.access.Cached.{covers}
use Rattle.spte_words.specs.HostWords.{host_frame}
use Rattle.mmu_core.specs.invariant.FramesPart.{FrameUse, HasFrame, IsNamed, frame_looked, number_owned}
use Rattle.mmu_core.specs.invariant.FramesPart.FrameUse.{Free, Outside, Page, Owned}
use Rattle.mmu_core.specs.invariant.HeldPart.{HoldsOld}
use Rattle.mmu_core.specs.invariant.InvalidatedPart.{may_use}
use Rattle.mmu_core.specs.invariant.Laws.{IsSound}
use Rattle.mmu_core.specs.machine.Enabled.{mmu}
use Rattle.mmu_core.specs.machine.Machine.{World, hand_in, run}
use Rattle.mmu_core.specs.machine.View.{word_in}
use Rattle.mmu_core.proofs.machine.ColumnsTell.{is_outside, outside_tells}
use Rattle.mmu_core.proofs.pages.FrameUses.{frame_use_is, free_frame_use, has_frame_owner, has_page, one_frame_owner, owned_frame_use}
use Rattle.mmu_core.proofs.pages.FrameUses.{owned_of_no_page, page_use}
use Rattle.mmu_core.proofs.pages.Uses.{has_use, told_so}
use Rattle.core_theorem.specs.Frames.{CopiedWordsAreThePages, FramesAreUsed, IsFrameUsedFor}
use Rattle.core_theorem.specs.Frames.{LoadedLeavesAreKept, LooksAtFrame, OwnsFrame, WatchedHoldNoOldFrame}
use Rattle.mmu_laws.specs.leaves.LeafLaws.{LeafAgrees}
use Rattle.mmu_laws.specs.leaves.LoadedLeaves.{HasLeafTo, IsKeptFor, LoadedLeavesPart}
use Rattle.mmu_laws.proofs.leaves.LeafLaws.{cached_leaves_agree}
use Rattle.mmu_laws.proofs.leaves.LoadedRuns.{loaded_leaves_are_kept, present_there}
use Rattle.core_theorem.proofs.Runs.{sound}

module _ (z : Sizes) (u : World Held) (G : IsSound z u) (frame : ℕ) where
  used : (use_ : FrameUse) → G.topics.use_of frame ≡ use_ → IsFrameUsedFor z u frame use_
  used Free is = told_so frame_use_is G.topics.frames.told frame Free is Free
  used (Page page) is = has_page G.topics.frames page frame is
  used (Owned actor) is =
      let O = has_frame_owner G.topics.frames actor frame is in (O.there, record { owned = O.held; is = O.is; of_frame = O.of_number })
  used Outside is = outside_tells frame z.frames (told_so frame_use_is G.topics.frames.told frame Outside is Outside)

  only_so : (use_ : FrameUse) → IsFrameUsedFor z u frame use_ → G.topics.use_of frame ≡ use_
  only_so Free is = free_frame_use G.topics.frames frame is
  only_so (Page page) U = ap G.topics.use_of (sym U.1) ∙ page_use G.topics.frames page U.0
  only_so (Owned actor) U = ap G.topics.use_of (sym U.1.of_frame) ∙ owned_frame_use G.topics.frames actor U.1.owned U.0 U.1.is
  only_so Outside le = has_use frame_use_is G.topics.frames.told Outside frame (is_outside frame z.frames le)

pub frames_are_used : (z : Sizes) (u : World Held) → IsSound z u → FramesAreUsed z u
frames_are_used z u G = record {
  use_of = G.topics.use_of;
  each = λ frame. used z u G frame (G.topics.use_of frame) refl;
  only = λ frame use_ is. only_so z u G frame use_ is;
}

pub copied_words_are_the_pages : CopiedWordsAreThePages
copied_words_are_the_pages z lines w ss R = (sound z lines w ss R).copied

-- A translation that may be used is to a page's frame.
module _ (z : Sizes) (u : World Held) (G : IsSound z u) (frame : ℕ)
    (apart : (page : ℕ) → page < z.pages → host_frame (word_in z u area.Host page) ≢ frame) where
  agreeing_apart : (items : List Translation)
      → All (λ t. (gfn : ℕ) → covers gfn t ≡ true
      → LeafAgrees (word_in z u area.Slots 0) (word_in z u area.Pool) (word_in z u area.Host) t.level gfn t.leaf) items
      → All (λ t. (gfn : ℕ) → covers gfn t ≡ true → mapped_frame t.level t.leaf gfn ≢ frame) items
  agreeing_apart items all k d lt gfn over e =
      let L = all k d lt gfn over in apart L.page (present_there z u L.page L.present) (sym L.frame ∙ e)

  pub unused_frame : (vcpu : ℕ) → vcpu < z.vcpus → may_use (word_in z u area.State vcpu) (hand_in mmu u vcpu).topics.stay ≡ true
      → All (λ t. (gfn : ℕ) → covers gfn t ≡ true → mapped_frame t.level t.leaf gfn ≢ frame) (hand_in mmu u vcpu).cached.items
  unused_frame vcpu low may =
      agreeing_apart (hand_in mmu u vcpu).cached.items ((cached_leaves_agree z u vcpu G (omega (arith, low))).agrees low may)

-- ---- the frames at which actors have looked in their sections

looked_at : (frame : ℕ) (t : Topics) → LooksAtFrame frame t → frame_looked t.host t.stay ≡ Some frame
looked_at frame t L = ap (λ x. frame_looked x t.stay) L.is ∙ ap (frame_looked (Some L.look)) L.section ∙ ap (λ f. Some f) L.of_frame

pub owns_number : (frame : ℕ) (h : Held) → number_owned h.topics.frames.owned ≡ Some frame → OwnsFrame frame h
owns_number frame h = by h.topics.frames.owned refl
  where
    by : (x : Option OwnedFrame) → h.topics.frames.owned ≡ x → number_owned x ≡ Some frame → OwnsFrame frame h
    by None is e = absurd (cc e)
    by (Some o) is e = record { owned = o; is = is; of_frame = cc e }

-- The frame is a page's still, or owned by an actor that hasn't watched this one since.
abbrev pub IsHeldStill : Sizes → World Held → ℕ → ℕ → Type 0
IsHeldStill z u other frame =
    IsNamed z.pages (word_in z u area.Host) frame
    ⊎ HoldsOld HasFrame (actors_of z) (λ i. (hand_in mmu u i).topics) other frame

pub held_look : (z : Sizes) (u : World Held) → IsSound z u → (other frame : ℕ) → other < actors_of z → LooksAtFrame frame (hand_in mmu u other).topics
    → IsHeldStill z u other frame
held_look z u G other frame among L = G.topics.looked_frames other frame among (looked_at frame (hand_in mmu u other).topics L)

-- Nobody that the owner of a frame has watched since it has this has looked at a page there.
pub unwatched_look : (z : Sizes) (u : World Held) → IsSound z u → (actor frame other : ℕ) → actor < actors_of z → other < actors_of z
    → OwnsFrame frame (hand_in mmu u actor) → LooksAtFrame frame (hand_in mmu u other).topics → (hand_in mmu u actor).topics.watched ≤ other
unwatched_look z u G actor frame other there among O L = by (held_look z u G other frame among L)
  where
    by : IsHeldStill z u other frame → (hand_in mmu u actor).topics.watched ≤ other
    by (inl named) = absurd (owned_of_no_page G.topics.frames actor O.owned named.0 there O.is named.1 (named.2 ∙ sym O.of_frame))
    by (inr H) =
        let F = owns_number frame (hand_in mmu u H.by) H.leaves in
        let same = one_frame_owner G.topics.frames H.by actor F.owned O.owned H.there there F.is O.is (O.of_frame ∙ sym F.of_frame) in
        subst (λ i. (hand_in mmu u i).topics.watched ≤ other) same H.unwatched

-- ---- the frames of leaves that actors have loaded

-- So it is of the leaves that walks hold in this world.
abbrev pub LoadedIn : Sizes → World Held → Type 0
LoadedIn z u = LoadedLeavesPart z (word_in z u area.Host) (λ i. (hand_in mmu u i).topics)

pub unwatched_leaf : (z : Sizes) (u : World Held) → IsSound z u → LoadedIn z u → (actor frame other : ℕ) → actor < actors_of z → other < actors_of z
    → OwnsFrame frame (hand_in mmu u actor) → HasLeafTo frame (hand_in mmu u other).topics.walk → (hand_in mmu u actor).topics.watched ≤ other
unwatched_leaf z u G L actor frame other there among O H = by (L other frame among H)
  where
    by : IsNamed z.pages (word_in z u area.Host) frame ⊎ IsKeptFor (actors_of z) (λ i. (hand_in mmu u i).topics) other frame
        → (hand_in mmu u actor).topics.watched ≤ other
    by (inl named) = absurd (owned_of_no_page G.topics.frames actor O.owned named.0 there O.is named.1 (named.2 ∙ sym O.of_frame))
    by (inr K) =
        let F = owns_number frame (hand_in mmu u K.by) K.owns in
        let same = one_frame_owner G.topics.frames K.by actor F.owned O.owned K.there there F.is O.is (O.of_frame ∙ sym F.of_frame) in
        subst (λ i. (hand_in mmu u i).topics.watched ≤ other) same K.unwatched

pub loaded_leaves_kept : LoadedLeavesAreKept
loaded_leaves_kept z lines w ss R = loaded_leaves_are_kept z lines w ss R.start R.legal

pub watched_hold_no_old_frame : WatchedHoldNoOldFrame
watched_hold_no_old_frame z lines w ss R watcher other frame there among O passed = by
  where
    u : World Held
    u = run mmu w ss

    by : LooksAtFrame frame (hand_in mmu u other).topics ⊎ HasLeafTo frame (hand_in mmu u other).topics.walk → ⊥
    by (inl look) = let le = unwatched_look z u (sound z lines w ss R) watcher frame other there among O look in omega (arith, le, passed)
    by (inr leaf) =
        let le = unwatched_leaf z u (sound z lines w ss R) (loaded_leaves_kept z lines w ss R) watcher frame other there among O leaf in
        omega (arith, le, passed)
