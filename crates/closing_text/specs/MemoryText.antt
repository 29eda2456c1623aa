-- Guest memory as the words of the machine have it, and the line that shows it.
use Rattle.std.specs.Prelude.{◌≡◌, ◌<◌, ◌≤◌, ◌+◌, ℕ, List, [], ◌∷◌, ◌++◌, All, codes, length, slice_index}
use Rattle.core_views.specs.declared.migration.ImageWord.{ImageWord}
use Rattle.core_views.specs.declared.sizes.Sizes.{Sizes}
use Rattle.core_views.specs.Memory.{Memory}
use Rattle.core_views.specs.Sizes.{AreSizes}
use Rattle.core_views.specs.SlotSets.{MemorySlots}
use Rattle.core_views.specs.Text.{image_text}
use Rattle.spte_words.specs.Areas.{content_index, place, total}
use Rattle.spte_words.specs.declared.area.Area.TheVariants.{Content, Host}
use Rattle.spte_words.specs.HostWords.{host_frame}
use Rattle.part_steps.specs.Tasks.{map_of}

-- the frame that the host page's word names
abbrev pub frame_in : Sizes → List ℕ → ℕ → ℕ
frame_in z words page = host_frame (slice_index words (place (map_of z) Host page))

-- the number in a word of a frame
abbrev pub content_in : Sizes → List ℕ → ℕ → ℕ → ℕ
content_in z words frame word = slice_index words (place (map_of z) Content (content_index (map_of z) frame word))

-- the number in each word of each host page: the page's frame holds it
abbrev pub memory_in : Sizes → List ℕ → Memory
memory_in z words page word = content_in z words (frame_in z words page) word

-- These are all words of a machine of these sizes, in which each host page has a frame.
pub record AreAllWords (z : Sizes) (words : List ℕ) : Type 0 where
  pub sizes : AreSizes z
  pub count : length words ≡ total (map_of z)
  pub frames : (page : ℕ) → page < z.pages → frame_in z words page < z.frames

-- The pages of each slot are pages of the host.
abbrev pub HaveHostPages : Sizes → MemorySlots → Type 0
HaveHostPages z slots = All (λ entry. entry.1.slot.host + entry.1.slot.pages ≤ z.pages) slots

-- the line that shows these words of guest memory
abbrev pub memory_text : List ImageWord → List ℕ
memory_text words = codes "memory" ++ (image_text words ++ 10 ∷ [])
