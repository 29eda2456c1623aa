-- Indices in the areas Content and Pool: each is of one word of one frame or pool page.
use Rattle.std.proofs.Common.{◌≡◌, ◌/◌, ◌%◌, ◌<◌, ℕ, arith}
use Rattle.std.proofs.Math.Nat.{div-add-mod}
use Rattle.std.proofs.lemmas.Nat.{mul-add-lt, same_from_place}
use Rattle.spte_words.specs.declared.area.Area.TheVariants.{Pool, Content}
use Rattle.spte_words.specs.declared.word_map.WordMap.{WordMap}
use Rattle.spte_words.specs.Areas.{size_of, content_index, pool_index}

-- A word of a frame is a word of the area.
pub content_within : (m : WordMap) (frame word : ℕ) → frame < m.frames → word < m.words → content_index m frame word < size_of m Content
unfolding content_index
content_within m frame word in_frames in_words = omega (arith, mul-add-lt frame m.words word m.frames in_frames in_words)

-- One index is of one frame and word.
pub same_content : (m : WordMap) (frame other word second : ℕ) → word < m.words → second < m.words
    → content_index m frame word ≡ content_index m other second → (frame ≡ other) × (word ≡ second)
unfolding content_index
same_content m frame other word second in_words second_in e = same_from_place frame word other second m.words in_words second_in (omega (arith, e))

-- Each index is of some frame and word.
pub content_parts : (m : WordMap) (i : ℕ) → content_index m (i / m.words) (i % m.words) ≡ i
unfolding content_index
content_parts m i = omega (arith, div-add-mod i m.words)

-- A word of a pool page is a word of the area.
pub pool_within : (m : WordMap) (page i : ℕ) → page < m.pool → i < 512 → pool_index page i < size_of m Pool
unfolding pool_index
pool_within m page i in_pool in_page = omega arith

-- One index is of one pool page and word.
pub same_pool_word : (page other i j : ℕ) → i < 512 → j < 512 → pool_index page i ≡ pool_index other j → (page ≡ other) × (i ≡ j)
unfolding pool_index
same_pool_word page other i j i_in j_in e = (omega arith, omega arith)

-- Each index is of some pool page and word.
pub pool_parts : (n : ℕ) → pool_index (n / 512) (n % 512) ≡ n
unfolding pool_index
pool_parts n = omega arith
