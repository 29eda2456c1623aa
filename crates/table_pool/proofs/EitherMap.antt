-- What the two steps of a claim need, answer and leave, in either map.
use Rattle.std.proofs.Common.{◌≡◌, ◌+◌, ◌*◌, ◌^◌, ◌<◌, ℕ, Option, Some, None, refl, ap, bit_and, w64}
use Rattle.std.specs.Prelude.{Bool, true, false, ◌==◌, if◌then◌else◌, not}
use Rattle.std.specs.Int.{bit_not}
use Rattle.core_views.specs.declared.topics.MapClaim.{MapClaim}
use Rattle.core_views.specs.declared.topics.Topics.{Topics}
use Rattle.core_views.specs.Held.{Held}
use Rattle.spte_words.specs.declared.area.Area.{Area}
use Rattle.part_steps.specs.PageTopics.{is_won, tried, tried_bit}
use Rattle.part_steps.specs.PartBounds.{PartRests}
use Rattle.part_steps.specs.PartSteps.{PartNeeds}
use Rattle.part_steps.specs.PartTasks.{part_task}
use Rattle.part_steps.specs.PartTopics.{part_topics}
use Rattle.mmu_core.specs.declared.claim.FreeMap.{FreeMap}
use Rattle.mmu_core.specs.declared.claim.FreeMap.TheVariants.{Pages, Frames}
use Rattle.mmu_core.specs.invariant.Scans.{OwnsNone}
use Rattle.mmu_core.specs.orders.ClaimSteps.{claim_over, load_part, map_area, map_words, try_part}
use Rattle.mmu_core.specs.lines.PartWaits.{part_waits}
use Rattle.mmu_core.specs.machine.View.{answer_in, words_after}
use Rattle.mmu_core.proofs.machine.Columns.{upd_same}
use Rattle.table_pool.specs.Maps.{frame_got, got_in, page_got, with_claim, with_got}

-- ---- the hand

-- A try needs something that was seen free, in a word of the map; a load, a word of the map. Neither is made by who owns a page or frame of it.
pub try_seen : (map : FreeMap) (h : Held) → PartNeeds (try_part map) h → 0 < (claim_over map h.topics).seen
try_seen Pages h N = N.1
try_seen Frames h N = N.1

pub try_within : (map : FreeMap) (h : Held) → PartNeeds (try_part map) h → (claim_over map h.topics).at < map_words map h.state.sizes
try_within Pages h N = N.2
try_within Frames h N = N.2

pub try_owns_none : (map : FreeMap) (h : Held) → PartNeeds (try_part map) h → OwnsNone map h.topics
try_owns_none Pages h N = N.0
try_owns_none Frames h N = N.0

pub load_within : (map : FreeMap) (word : ℕ) (h : Held) → PartNeeds (load_part map word) h → word < map_words map h.state.sizes
load_within Pages word h N = N.1
load_within Frames word h N = N.1

pub load_owns_none : (map : FreeMap) (word : ℕ) (h : Held) → PartNeeds (load_part map word) h → OwnsNone map h.topics
load_owns_none Pages word h N = N.0
load_owns_none Frames word h N = N.0

-- What was seen is a word of 64 bits.
pub seen_small : (map : FreeMap) (h : Held) → PartRests h → (claim_over map h.topics).seen < 2 ^ 64
seen_small Pages h R = R.counters.seen
seen_small Frames h R = R.counters.frames.seen

-- ---- what is held after them

pub load_holds : (map : FreeMap) (word : ℕ) (t : Topics) (v : ℕ)
    → part_topics (load_part map word) t v ≡ with_claim map (record { at = word + (if v == 0 then 1 else 0); seen = v }) t
load_holds Pages word t v = refl
load_holds Frames word t v = refl

pub claim_held : (map : FreeMap) (claim : MapClaim) (t : Topics) → claim_over map (with_claim map claim t) ≡ claim
claim_held Pages claim t = refl
claim_held Frames claim t = refl

pub try_claims : (map : FreeMap) (t : Topics) (v : ℕ) → claim_over map (part_topics (try_part map) t v) ≡ tried (claim_over map t) v
try_claims Pages t v = refl
try_claims Frames t v = refl

-- A try waits where it is lost, and a load never does.
pub try_waits : (map : FreeMap) (t : Topics) (v : ℕ) → part_waits (try_part map) t v ≡ not (is_won (claim_over map t) v)
try_waits Pages t v = refl
try_waits Frames t v = refl

pub load_goes : (map : FreeMap) (word : ℕ) (t : Topics) (v : ℕ) → part_waits (load_part map word) t v ≡ false
load_goes Pages word t v = refl
load_goes Frames word t v = refl

-- the page or frame that a try gets, if it is won
abbrev pub got_by : MapClaim → ℕ → Option ℕ
got_by claim v = if is_won claim v then Some (64 * claim.at + tried_bit claim) else None

pub try_gets : (map : FreeMap) (t : Topics) (v : ℕ) → got_in map (part_topics (try_part map) t v) ≡ got_by (claim_over map t) v
try_gets Pages t v = by (is_won t.claim v)
  where
    page : ℕ
    page = 64 * t.claim.at + tried_bit t.claim

    by : (won : Bool)
        → page_got (if won then Some (record { page = page; filled = 0; entry = t.walk.entry; level = t.walk.level; below = true; role = 0 }) else None)
        ≡ (if won then Some page else None)
    by true = refl
    by false = refl
try_gets Frames t v = by (is_won t.frames.claim v)
  where
    frame : ℕ
    frame = 64 * t.frames.claim.at + tried_bit t.frames.claim

    by : (won : Bool) → frame_got (if won then Some (record { frame = frame; filled = 0; copied = None }) else None) ≡ (if won then Some frame else None)
    by true = refl
    by false = refl

-- A try that was won leaves what it got.
pub won_holds : (map : FreeMap) (t : Topics) (v : ℕ) → is_won (claim_over map t) v ≡ true
    → part_topics (try_part map) t v ≡ with_got map (64 * (claim_over map t).at + tried_bit (claim_over map t)) t
won_holds Pages t v won = rw won refl
won_holds Frames t v won = rw won refl

pub got_held : (map : FreeMap) (one : ℕ) (t : Topics) → got_in map (with_got map one t) ≡ Some one
got_held Pages one t = refl
got_held Frames one t = refl

pub none_held : (map : FreeMap) (t : Topics) → OwnsNone map t → got_in map t ≡ None
none_held Pages t none = ap page_got none
none_held Frames t none = ap frame_got none

-- ---- the words

-- Each answers the word of the map that it is at.
pub try_finds : (map : FreeMap) (own note : ℕ) (t : Topics) (words : Area → ℕ → ℕ)
    → answer_in (part_task (try_part map) own t note) words ≡ words (map_area map) (claim_over map t).at
try_finds Pages own note t words = refl
try_finds Frames own note t words = refl

pub load_finds : (map : FreeMap) (word own note : ℕ) (t : Topics) (words : Area → ℕ → ℕ)
    → answer_in (part_task (load_part map word) own t note) words ≡ words (map_area map) word
load_finds Pages word own note t words = refl
load_finds Frames word own note t words = refl

-- A load leaves the words as they are, and a try clears the bit that it tries.
pub load_leaves : (map : FreeMap) (word own note : ℕ) (t : Topics) (words : Area → ℕ → ℕ) (b : Area) (i : ℕ)
    → words_after (part_task (load_part map word) own t note) words b i ≡ words b i
load_leaves Pages word own note t words b i = refl
load_leaves Frames word own note t words b i = refl

pub try_leaves : (map : FreeMap) (own note : ℕ) (t : Topics) (words : Area → ℕ → ℕ)
    → words_after (part_task (try_part map) own t note) words (map_area map) (claim_over map t).at
    ≡ bit_and (words (map_area map) (claim_over map t).at) (bit_not w64 (2 ^ tried_bit (claim_over map t)))
try_leaves Pages own note t words = upd_same (words (map_area Pages)) t.claim.at _
try_leaves Frames own note t words = upd_same (words (map_area Frames)) t.frames.claim.at _
