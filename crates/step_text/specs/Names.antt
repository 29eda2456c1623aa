-- What words of a machine are called: by their area, and there by actor, by index, or by page and place in the page.
use Rattle.std.specs.Prelude.{◌+◌, ◌-◌, ◌/◌, ◌%◌, ℕ, List, [], ◌++◌, codes, max, nat_lt, if◌then◌else◌}
use Rattle.std.specs.Fmt.{decimal}
use Rattle.core_views.specs.Sizes.{actor_at}
use Rattle.core_views.specs.Text.{actor_name}
use Rattle.core_views.specs.declared.sizes.Sizes.{Sizes}
use Rattle.spte_words.specs.declared.area.Area.{Area}
use Rattle.spte_words.specs.declared.area.Area.TheVariants.{Root, Slots, Seq, Count, RangeStart, RangeEnd, Lock, Pause, State, PoolMap, FrameMap, Log}
use Rattle.spte_words.specs.declared.area.Area.TheVariants.{Host, Role, Pool, Content}
use Rattle.step_text.specs.declared.word_place.WordPlace.{WordPlace}

abbrev pub area_name : Area → List ℕ
area_name Root = codes "root"
area_name Slots = codes "slots"
area_name Seq = codes "seq"
area_name Count = codes "count"
area_name RangeStart = codes "rangestart"
area_name RangeEnd = codes "rangeend"
area_name Lock = codes "lock"
area_name Pause = codes "pause"
area_name State = codes "state"
area_name PoolMap = codes "poolmap"
area_name FrameMap = codes "framemap"
area_name Log = codes "log"
area_name Host = codes "host"
area_name Role = codes "role"
area_name Pool = codes "pool"
area_name Content = codes "content"

-- so many numbers from the first on: two or more as the first and the last with the joint between them, else the first alone
abbrev pub span_text : List ℕ → ℕ → ℕ → List ℕ
span_text joint first count = if nat_lt count 2 then decimal first else decimal first ++ (joint ++ decimal (first + (count - 1)))

abbrev pub bracketed : List ℕ → List ℕ
bracketed text = codes "[" ++ (text ++ codes "]")

-- which of an area's words they are, from the index on
abbrev pub listed_text : ℕ → ℕ → List ℕ
listed_text index count = bracketed (span_text (codes "..") index count)

-- the same of an area that has pages of so many words: the page, and which of its words
abbrev pub paged_text : ℕ → ℕ → ℕ → List ℕ
paged_text words index count = bracketed (decimal (index / words)) ++ bracketed (span_text (codes "..") (index % words) count)

-- which of their area's words they are: by actor, by index, or by page and word there (a frame has one word at least); a lone word needs no index
abbrev pub index_text : Sizes → Area → ℕ → ℕ → List ℕ
index_text z State index count = bracketed (actor_name (actor_at z index))
index_text z PoolMap index count = listed_text index count
index_text z FrameMap index count = listed_text index count
index_text z Log index count = listed_text index count
index_text z Host index count = listed_text index count
index_text z Role index count = listed_text index count
index_text z Pool index count = paged_text 512 index count
index_text z Content index count = paged_text (max z.words 1) index count
index_text z _ index count = []

-- the name of so many words that follow one another, of which the first is at this place
unfoldable pub words_text : Sizes → WordPlace → ℕ → List ℕ
words_text z place count = area_name place.area ++ index_text z place.area place.index count

-- the name of one word
abbrev pub word_text : Sizes → WordPlace → List ℕ
word_text z place = words_text z place 1
