-- What holds of the words and of their places.
use Rattle.std.specs.Prelude.{◌≡◌, ◌≢◌, ◌+◌, ◌-◌, ◌*◌, ◌^◌, ◌<◌, ◌≤◌, ℕ, Bool, true, false, Some, slice_get}
use Rattle.spte_words.specs.declared.area.Area.{Area}
use Rattle.spte_words.specs.declared.area.Area.TheVariants.{Root, Host, Pool, Content}
use Rattle.spte_words.specs.declared.spte_kind.SpteKind.TheVariants.{Absent, Frozen, Leaf, Table}
use Rattle.spte_words.specs.declared.word_map.WordMap.{WordMap}
use Rattle.spte_words.specs.Entries.{absent_word, frozen_word, table_word, leaf_word, frame_in, can_write, host_writable, mmu_writable, kind_of}
use Rattle.spte_words.specs.Entries.{with_write, without_write, child_over, child_word, level_span, mapped_frame}
use Rattle.spte_words.specs.HostWords.{host_word, host_present, host_allows_write, host_level, host_frame}
use Rattle.spte_words.specs.Flags.{flags_word, flags_live, flags_read_only, flags_logged}
use Rattle.spte_words.specs.Areas.{IsWordMap, areas, number_of, size_of, place, total, content_index, pool_index, StandsSomewhere}

-- A leaf's word tells that it is a leaf, its frame and its permissions.
abbrev pub LeavesTell : Type 0
LeavesTell =
    (level frame : ℕ) (w hw mw : Bool)
    → 1 ≤ level → level ≤ 3 → frame < 2 ^ 40
    → (kind_of level (leaf_word level frame w hw mw) ≡ Leaf)
    × (frame_in (leaf_word level frame w hw mw) ≡ frame)
    × (can_write (leaf_word level frame w hw mw) ≡ w)
    × (host_writable (leaf_word level frame w hw mw) ≡ hw)
    × (mmu_writable (leaf_word level frame w hw mw) ≡ mw)
    × (leaf_word level frame w hw mw < 2 ^ 64)

-- A link's word tells the pool page of its table.
abbrev pub LinksTell : Type 0
LinksTell = (level page : ℕ) → 2 ≤ level → level ≤ 4 → page < 2 ^ 32 → (kind_of level (table_word page) ≡ Table page) × (table_word page < 2 ^ 64)

-- The absent word tells that it is absent, at each level; the frozen word alone tells that it is frozen.
abbrev pub OthersTell : Type 0
OthersTell =
    (level : ℕ)
    → (kind_of level absent_word ≡ Absent)
    × (kind_of level frozen_word ≡ Frozen)
    × ((word : ℕ) → kind_of level word ≡ Frozen → word ≡ frozen_word)

-- Absent, frozen, a leaf and a link are four words; of a leaf and a link, at the levels that have links.
abbrev pub KindsDiffer : Type 0
KindsDiffer =
    (level frame page : ℕ) (w hw mw : Bool)
    → (absent_word ≢ frozen_word)
    × (leaf_word level frame w hw mw ≢ absent_word)
    × (leaf_word level frame w hw mw ≢ frozen_word)
    × (table_word page ≢ absent_word)
    × (table_word page ≢ frozen_word)
    × (2 ≤ level → leaf_word level frame w hw mw ≢ table_word page)

-- With write set or cleared it is the leaf that is the same in all else.
abbrev pub WriteIsOneBit : Type 0
WriteIsOneBit =
    (level frame : ℕ) (w hw mw : Bool)
    → (with_write (leaf_word level frame w hw mw) ≡ leaf_word level frame true hw mw)
    × (without_write (leaf_word level frame w hw mw) ≡ leaf_word level frame false hw mw)

-- Child i of a leaf is the leaf one level down, i spans of that level further, with the same permissions.
abbrev pub ChildrenAreLeaves : Type 0
ChildrenAreLeaves =
    (level frame i : ℕ) (w hw mw : Bool)
    → frame < 2 ^ 40
    → child_word level (leaf_word level frame w hw mw) i ≡ leaf_word (level - 1) (frame + i * level_span (level - 1)) w hw mw

-- The child over a guest frame is a leaf that maps it where the large leaf does, with the same permissions.
abbrev pub ChildrenMapAlike : Type 0
ChildrenMapAlike =
    (level word gfn : ℕ) → 2 ≤ level → level ≤ 3 → frame_in word + 2 ^ 18 ≤ 2 ^ 40
    → (kind_of (level - 1) (child_over level word gfn) ≡ Leaf)
    × (mapped_frame (level - 1) (child_over level word gfn) gfn ≡ mapped_frame level word gfn) × (can_write (child_over level word gfn) ≡ can_write word)
    × (host_writable (child_over level word gfn) ≡ host_writable word) × (mmu_writable (child_over level word gfn) ≡ mmu_writable word)

-- A level's span is 512 spans of the level below, and a span of level 1 is one page.
abbrev pub SpansNest : Type 0
SpansNest = (level_span 1 ≡ 1) × ((level : ℕ) → 1 ≤ level → level_span (level + 1) ≡ 512 * level_span level)

-- three entries as numbers: leaves of level 1 and frame 1, all permissions set and then without write, and a link to pool page 3
abbrev pub ExampleEntries : Type 0
ExampleEntries =
    (leaf_word 1 1 true true true ≡ 0x600000000001807)
    × (leaf_word 1 1 false true true ≡ 0x600000000001805)
    × (table_word 3 ≡ 0x3807)

-- A host word tells its frame, its level and its two bits.
abbrev pub HostWordsTell : Type 0
HostWordsTell =
    (frame : ℕ) (present writable : Bool) (level : ℕ)
    → frame < 2 ^ 52 → level < 4
    → (host_frame (host_word frame present writable level) ≡ frame)
    × (host_present (host_word frame present writable level) ≡ present)
    × (host_allows_write (host_word frame present writable level) ≡ writable)
    × (host_level (host_word frame present writable level) ≡ level)
    × (host_word frame present writable level < 2 ^ 64)

-- The first host word of page p: frame p, present, writable, level 1.
abbrev pub FirstHostWords : Type 0
FirstHostWords = (p : ℕ) → host_word p true true 1 ≡ 4096 * p + 7

-- A slot's flags tell its three bits.
abbrev pub FlagsTell : Type 0
FlagsTell =
    (live read_only logged : Bool)
    → (flags_live (flags_word live read_only logged) ≡ live)
    × (flags_read_only (flags_word live read_only logged) ≡ read_only)
    × (flags_logged (flags_word live read_only logged) ≡ logged)
    × (flags_word live read_only logged < 2 ^ 64)

-- The areas follow one another: the first begins at 0, each further one where the one before it ends, and the last ends at the total.
abbrev pub AreasFollow : Type 0
AreasFollow =
    (m : WordMap)
    → ((a : Area) → slice_get areas (number_of a) ≡ Some a)
    × (place m Root 0 ≡ 0)
    × ((a b : Area) → number_of b ≡ number_of a + 1 → place m b 0 ≡ place m a (size_of m a))
    × (place m Content (size_of m Content) ≡ total m)

-- Two places that are one word are one place.
abbrev pub PlacesDiffer : Type 0
PlacesDiffer = (m : WordMap) (a b : Area) (i j : ℕ) → i < size_of m a → j < size_of m b → place m a i ≡ place m b j → (a ≡ b) × (i ≡ j)

-- The places of the areas are all words below the total, and only those.
abbrev pub PlacesFill : Type 0
PlacesFill =
    (m : WordMap)
    → ((a : Area) (i : ℕ) → i < size_of m a → place m a i < total m)
    × ((word : ℕ) → word < total m → StandsSomewhere m word)

-- Words have numbers of 32 bits.
abbrev pub PlacesFit : Type 0
PlacesFit = (m : WordMap) → IsWordMap m → total m < 2 ^ 32

-- Each word of each frame has an index in Content, and none has another's.
abbrev pub ContentIndicesDiffer : Type 0
ContentIndicesDiffer =
    (m : WordMap) (frame other word second : ℕ)
    → word < m.words → second < m.words
    → (frame < m.frames → content_index m frame word < size_of m Content)
    × (content_index m frame word ≡ content_index m other second → (frame ≡ other) × (word ≡ second))

-- Each word of each pool page has an index in Pool, and none has another's.
abbrev pub PoolIndicesDiffer : Type 0
PoolIndicesDiffer =
    (m : WordMap) (page other i j : ℕ)
    → i < 512 → j < 512
    → (page < m.pool → pool_index page i < size_of m Pool)
    × (pool_index page i ≡ pool_index other j → (page ≡ other) × (i ≡ j))

abbrev pub example_map : WordMap
example_map = record { pages = 1024; frames = 1040; words = 1; pool = 64; actors = 5 }

-- 8 lone words, 5 of state, 1, 17 and 16 of bits; then 1,024 host words, 64 roles, 32,768 words of the pool and 1,040 words of content
abbrev pub ExamplePlaces : Type 0
ExamplePlaces = (place example_map Host 0 ≡ 47) × (place example_map Content 0 ≡ 33903) × (total example_map ≡ 34943)
