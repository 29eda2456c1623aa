-- The words that a move copies and stores are words of frames of the machine.
use Rattle.std.proofs.Common.{◌≡◌, ◌+◌, ◌*◌, ◌<◌, ℕ, refl, subst, sym}
use Rattle.std.specs.Prelude.{Option, Some, None, true, is_some}
use Rattle.core_views.specs.declared.topics.HostLook.{HostLook}
use Rattle.core_views.specs.declared.topics.OwnedFrame.{OwnedFrame}
use Rattle.core_views.specs.Held.{Held}
use Rattle.spte_words.specs.declared.area.Area.TheVariants.{Content}
use Rattle.spte_words.specs.Areas.{content_index, size_of}
use Rattle.spte_words.specs.HostWords.{host_frame}
use Rattle.spte_words.proofs.Indices.{content_within}
use Rattle.part_steps.specs.FrameHoldings.{MayCopy, MayStore}
use Rattle.part_steps.specs.FrameTopics.{copy_held, frame_owned}
use Rattle.part_steps.specs.PartBounds.{PartRests}
use Rattle.part_steps.specs.PartTasks.{word_looked}
use Rattle.part_steps.specs.Tasks.{map_of}

-- The content word of a frame of the machine, with a number below that of its words, is one of the area.
pub word_within : (h : Held) (frame word index : ℕ) → frame < h.state.sizes.frames → word < h.state.sizes.words → index ≡ h.state.sizes.words * frame + word
    → index < size_of (map_of h.state.sizes) Content
unfolding content_index
word_within h frame word index in_frames in_words is =
    subst (λ i. i < size_of (map_of h.state.sizes) Content) (sym is) (content_within (map_of h.state.sizes) frame word in_frames in_words)

-- The page that was looked up, and the frame that is owned, are at frames of the machine.
pub page_frame_within : (h : Held) (host : Option HostLook) → h.topics.host ≡ host → is_some host ≡ true → PartRests h
    → host_frame (word_looked host) < h.state.sizes.frames
page_frame_within h (Some look) is some rests = (rests.looked look is).1
page_frame_within h None is some rests = absurd (cc some)

pub owned_frame_within : (h : Held) (owned : Option OwnedFrame) → h.topics.frames.owned ≡ owned → is_some (copy_held owned) ≡ true → PartRests h
    → frame_owned owned < h.state.sizes.frames
owned_frame_within h (Some o) is some rests = rests.frame o is
owned_frame_within h None is some rests = absurd (cc some)

pub copied_within : (h : Held) (index : ℕ) → PartRests h → MayCopy index h → index < size_of (map_of h.state.sizes) Content
copied_within h index rests may = word_within h _ _ index (page_frame_within h h.topics.host refl may.change.looked rests) may.left may.is

pub stored_within : (h : Held) (index : ℕ) → PartRests h → MayStore index h → index < size_of (map_of h.state.sizes) Content
stored_within h index rests may = word_within h _ _ index (owned_frame_within h h.topics.frames.owned refl may.copied rests) may.left may.is
