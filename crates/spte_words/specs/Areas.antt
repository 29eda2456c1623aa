-- Where each word of the machine stands: areas that follow one another, and places in them.
use Rattle.std.specs.Prelude.{◌+◌, ◌*◌, ◌/◌, ◌<◌, ◌≤◌, ◌≡◌, ℕ, List, [], ◌∷◌, take}
use Rattle.std.specs.List.{sum_by}
use Rattle.spte_words.specs.declared.area.Area.{Area}
use Rattle.spte_words.specs.declared.area.Area.TheVariants.{Root, Slots, Seq, Count, RangeStart, RangeEnd, Lock, Pause, State, PoolMap, FrameMap, Log}
use Rattle.spte_words.specs.declared.area.Area.TheVariants.{Host, Role, Pool, Content}
use Rattle.spte_words.specs.declared.word_map.WordMap.{WordMap}

-- the bounds of a machine; with them it has fewer than 2 ^ 32 words
pub record IsWordMap (m : WordMap) : Type 0 where
  pub pages : m.pages ≤ 1048576
  pub frames : m.frames ≤ 2097152
  pub content : m.frames * m.words ≤ 8388608
  pub words_least : 1 ≤ m.words
  pub words_most : m.words ≤ 8
  pub pool : m.pool ≤ 16384
  pub actors : m.actors ≤ 25

-- how many words of 64 bits have so many bits
abbrev pub words_of_bits : ℕ → ℕ
words_of_bits bits = (bits + 63) / 64

-- the areas, in their order
abbrev pub areas : List Area
areas = Root ∷ Slots ∷ Seq ∷ Count ∷ RangeStart ∷ RangeEnd ∷ Lock ∷ Pause ∷ State ∷ PoolMap ∷ FrameMap ∷ Log ∷ Host ∷ Role ∷ Pool ∷ Content ∷ []

-- an area's number in that order, the first being 0
abbrev pub number_of : Area → ℕ
number_of Root = 0
number_of Slots = 1
number_of Seq = 2
number_of Count = 3
number_of RangeStart = 4
number_of RangeEnd = 5
number_of Lock = 6
number_of Pause = 7
number_of State = 8
number_of PoolMap = 9
number_of FrameMap = 10
number_of Log = 11
number_of Host = 12
number_of Role = 13
number_of Pool = 14
number_of Content = 15

-- how many words an area has
abbrev pub size_of : WordMap → Area → ℕ
size_of m Root = 1
size_of m Slots = 1
size_of m Seq = 1
size_of m Count = 1
size_of m RangeStart = 1
size_of m RangeEnd = 1
size_of m Lock = 1
size_of m Pause = 1
size_of m State = m.actors
size_of m PoolMap = words_of_bits m.pool
size_of m FrameMap = words_of_bits m.frames
size_of m Log = words_of_bits m.pages
size_of m Host = m.pages
size_of m Role = m.pool
size_of m Pool = 512 * m.pool
size_of m Content = m.words * m.frames

-- word i of an area stands after all words of the areas before it
unfoldable pub place : WordMap → Area → ℕ → ℕ
place m area i = sum_by (size_of m) (take (number_of area) areas) + i

-- how many words there are
unfoldable pub total : WordMap → ℕ
total m = sum_by (size_of m) areas

-- The word is some area's word.
pub record StandsSomewhere (m : WordMap) (word : ℕ) : Type 0 where
  pub area : Area
  pub i : ℕ
  pub within : i < size_of m area
  pub at : place m area i ≡ word

-- word `word` of a frame, in the area Content
unfoldable pub content_index : WordMap → ℕ → ℕ → ℕ
content_index m frame word = m.words * frame + word

-- word i of a pool page, in the area Pool
unfoldable pub pool_index : ℕ → ℕ → ℕ
pool_index page i = 512 * page + i
