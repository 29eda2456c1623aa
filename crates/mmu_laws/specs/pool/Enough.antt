-- That a pool of as many pages as a trace needs at most is enough, and what tables are for.
use Rattle.std.specs.Prelude.{◌≡◌, ◌≢◌, ◌⊎◌, ◌^◌, ◌<◌, ◌≤◌, ℕ, Bool, true, false, List, Some, None}
use Rattle.std.specs.List.{list_any}
use Rattle.core_views.specs.declared.kind.Kind.{Kind}
use Rattle.core_views.specs.declared.trace.Header.{Header}
use Rattle.core_views.specs.declared.trace.Line.{Line}
use Rattle.core_views.specs.Held.{Held}
use Rattle.core_views.specs.Need.{need, wants}
use Rattle.core_views.specs.Sizes.{actors_of, sizes_of}
use Rattle.spte_words.specs.declared.area.Area.TheVariants as area
use Rattle.mmu_core.specs.machine.Enabled.{mmu}
use Rattle.mmu_core.specs.invariant.Laws.{IsSound}
use Rattle.mmu_core.specs.machine.Machine.{Legal, Step, World, hand_in, run}
use Rattle.mmu_core.specs.invariant.PoolPart.{is_free, is_retired, is_owned}
use Rattle.mmu_core.specs.invariant.TreePart.{at, stands}
use Rattle.mmu_core.specs.machine.View.{word_in}
use Rattle.mmu_core.specs.machine.Worlds.{IsStart}

-- Some page of the pool is free: its bit in the map is set.
pub record HasFreePage (pages : ℕ) (map : ℕ → ℕ) : Type 0 where
  pub page : ℕ
  pub there : page < pages
  pub free : is_free map page ≡ true

-- Some slot line of the trace, that counts, has a guest frame in the span of guest frames with this index, of those that tables of the level are for.
abbrev pub some_line_wants : Header → List Line → ℕ → ℕ → Bool
some_line_wants h lines level index = list_any (λ line. wants h.pages (512 ^ level) index line.command) lines

-- A page with this role is a table below the root, for a span of guest frames that is wanted.
pub record IsWantedTable (h : Header) (lines : List Line) (role : ℕ) : Type 0 where
  pub below_root : (1 ≤ role) × (role ≤ 3)
  pub index : ℕ
  pub wanted : some_line_wants h lines role index ≡ true

-- Behind every list of steps a pool page that isn't free, that no actor owns or has leave, and that isn't the published slot set is the root, or a
-- table for a span of guest frames that a slot line of the trace wants.
abbrev pub EachTableIsWanted : Type 0
EachTableIsWanted =
    (h : Header) (lines : List Line) (w : World Held) (ss : List (Step Kind)) (k : ℕ) → IsStart (sizes_of h) lines w → Legal mmu w ss → k < h.pool
    → is_free (word_in (sizes_of h) (run mmu w ss) area.PoolMap) k ≡ false
    → ((i : ℕ) → i < actors_of (sizes_of h) → is_owned (hand_in mmu (run mmu w ss) i).topics.owned k ≡ false)
    → ((i : ℕ) → i < actors_of (sizes_of h) → is_retired (hand_in mmu (run mmu w ss) i).topics.retired k ≡ false)
    → k ≢ word_in (sizes_of h) (run mmu w ss) area.Slots 0
    → (k ≡ word_in (sizes_of h) (run mmu w ss) area.Root 0) ⊎ IsWantedTable h lines (word_in (sizes_of h) (run mmu w ss) area.Role k)

-- And wherever a table of a level below the root's stands, it is for its own span of guest frames: a slot line wants this very span, and the
-- page's role is the level.
abbrev pub TablesAreForTheirSpans : Type 0
TablesAreForTheirSpans =
    (h : Header) (lines : List Line) (w : World Held) (ss : List (Step Kind)) → IsStart (sizes_of h) lines w → Legal mmu w ss
    → (sound : IsSound (sizes_of h) (run mmu w ss)) (k level prefix : ℕ) → stands sound.topics.up sound.topics.spot k ≡ Some (at level prefix) → level < 4
    → (some_line_wants h lines level prefix ≡ true) × (word_in (sizes_of h) (run mmu w ss) area.Role k ≡ level)

-- Where the pool has as many pages as the trace needs at most, and no actor owns one, some page is free after every list of steps.
abbrev pub EnoughPages : Type 0
EnoughPages =
    (h : Header) (lines : List Line) (w : World Held) (ss : List (Step Kind)) → IsStart (sizes_of h) lines w → Legal mmu w ss → need h lines ≤ h.pool
    → ((i : ℕ) → i < actors_of (sizes_of h) → (hand_in mmu (run mmu w ss) i).topics.owned ≡ None)
    → HasFreePage h.pool (word_in (sizes_of h) (run mmu w ss) area.PoolMap)
