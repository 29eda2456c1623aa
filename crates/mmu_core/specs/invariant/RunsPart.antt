-- Large host pages (mmu.rst, "Large pages"): the pages of an aligned run that the host maps as one are mapped alike, one after the other. And what open
-- invalidations are of, so that a check of one guest frame is one of each frame of its run.
use Rattle.std.specs.Prelude.{◌≡◌, ◌+◌, ◌*◌, ◌/◌, ◌%◌, ◌<◌, ◌≤◌, ℕ, true, false, Some, None, nat_lt, if◌then◌else◌}
use Rattle.core_views.specs.declared.sizes.Sizes.{Sizes}
use Rattle.core_views.specs.declared.topics.HostLook.{HostLook}
use Rattle.core_views.specs.declared.topics.HostRow.{HostRow}
use Rattle.core_views.specs.declared.topics.Invalidated.{Invalidated}
use Rattle.core_views.specs.declared.topics.PageRun.{PageRun}
use Rattle.core_views.specs.declared.topics.Topics.{Topics}
use Rattle.core_views.specs.declared.trace.Slot.{Slot as SlotOf}
use Rattle.spte_words.specs.Entries.{level_span}
use Rattle.spte_words.specs.HostWords.{host_allows_write, host_frame, host_level, host_present}
use Rattle.part_steps.specs.PageRuns.{IsOnRun, page_next, word_given, word_seen}
use Rattle.mmu_core.specs.invariant.HostWordsPart.{owns_page}
use Rattle.mmu_core.specs.invariant.SearchPart.{IsInvalidating, IsOnPage}
use Rattle.mmu_core.specs.invariant.SlotSetPart.{IsLiveIn}

-- Of pages, or of guest frames: one more of the aligned run that is a span of the level.
abbrev pub IsInRun : ℕ → ℕ → ℕ → Type 0
IsInRun level n other = other / level_span level ≡ n / level_span level

-- Another page of the run is mapped at the same level as this one, with writes where this one allows them, and at a frame as far from this one's as the pages
-- are from one another; and where the run has more than one page, it is present, and the frames are a run of this level, too: page and frame are as far into
-- theirs.
pub record IsOneRun (level : ℕ) (host : ℕ → ℕ) (page other : ℕ) : Type 0 where
  pub same_level : host_level (host other) ≡ host_level (host page)
  pub writes : host_allows_write (host other) ≡ host_allows_write (host page)
  pub frames : host_frame (host other) + page % level_span level ≡ host_frame (host page) + other % level_span level
  pub present : 2 ≤ level → host_present (host other) ≡ true
  pub in_place : 2 ≤ level → host_frame (host page) % level_span level ≡ page % level_span level

-- The owner of a page owns another one too.
abbrev pub HasOwnerOf : Sizes → ℕ → ℕ → Type 0
HasOwnerOf z page other = (i : ℕ) → owns_page z i page ≡ true → owns_page z i other ≡ true

-- So are all pages of a run that is no larger than the level at which the host maps one of them, and they have one owner, unless an invalidation of this one is
-- open that hasn't raised the sequence number yet.
abbrev pub RunsPart : Sizes → ℕ → (ℕ → ℕ) → (ℕ → Topics) → Type 0
RunsPart z n host topics =
    (page level other : ℕ) → page < z.pages → ((j : ℕ) → j < n → IsInvalidating (IsOnPage page) (topics j) → ⊥) → 1 ≤ level
    → level ≤ host_level (host page) → IsInRun level page other → (other < z.pages) × IsOneRun level host page other × HasOwnerOf z page other

-- What an open invalidation is of, if it is of host pages: pages of its actor, none of which the host maps as part of a larger run.
pub record IsOfOwnPages (z : Sizes) (host : ℕ → ℕ) (i : ℕ) (run : PageRun) : Type 0 where
  pub level : (1 ≤ run.level) × (run.level ≤ 3)
  pub owns : (page : ℕ) → IsOnRun page (Some run) → owns_page z i page ≡ true
  pub most : (page : ℕ) → IsOnRun page (Some run) → host_level (host page) ≤ run.level

abbrev pub OwnPagesPart : Sizes → ℕ → (ℕ → ℕ) → (ℕ → Topics) → Type 0
OwnPagesPart z n host topics =
    (i : ℕ) (run : PageRun) → i < n → (topics i).invalidations.opened ≡ true → (topics i).invalidations.own.pages ≡ Some run → IsOfOwnPages z host i run

-- Until the sequence number is raised for it, the pages of a run of several are changed in their order: those that are have the word that is given to them, and
-- the others the one that was seen. They are present; and small ones were looked at from the first one of the run on, at the first frame of such a run.
pub record IsChanging (host : ℕ → ℕ) (run : PageRun) : Type 0 where
  pub few : run.changed ≤ level_span run.level
  pub present : (page : ℕ) → IsOnRun page (Some run) → host_present (word_seen run page) ≡ true
  pub begins : host_level run.word ≡ 1 → (run.first % level_span run.level ≡ 0) × (host_frame run.word % level_span run.level ≡ 0)
  pub words : (page : ℕ) → IsOnRun page (Some run) → host page ≡ (if nat_lt page (page_next run) then word_given run page else word_seen run page)

abbrev pub ChangesPart : ℕ → (ℕ → ℕ) → (ℕ → Topics) → Type 0
ChangesPart n host topics =
    (i : ℕ) (run : PageRun) → i < n → (topics i).invalidations.opened ≡ true → (topics i).invalidations.raised ≡ false
    → (topics i).invalidations.own.pages ≡ Some run → 2 ≤ run.level → IsChanging host run

-- What an owner has seen of pages in a row is so still: those that it looked at have their words. A large page that it looked at was present; and the pages
-- that the host maps as one with it are its own.
pub record IsOwnRow (z : Sizes) (host : ℕ → ℕ) (i : ℕ) (look : HostLook) (row : HostRow) : Type 0 where
  pub words : row.alike ≡ true → host_present look.word ≡ true → (k : ℕ) → k < row.looked → owns_page z i (look.page + k) ≡ true
      → host (look.page + k) ≡ look.word + 4096 * k
  pub owns : (page : ℕ) → IsInRun (host_level look.word) look.page page → owns_page z i page ≡ true
  pub present : 2 ≤ host_level look.word → host_present look.word ≡ true

abbrev pub OwnRowsPart : Sizes → ℕ → (ℕ → ℕ) → (ℕ → Topics) → Type 0
OwnRowsPart z n host topics =
    (i : ℕ) (look : HostLook) → i < n → (topics i).host ≡ Some look → owns_page z i look.page ≡ true → IsOwnRow z host i look (topics i).row

-- The invalidation is of all guest frames of a slot that is live in this set.
pub record IsOfSlot (pool : ℕ → ℕ) (set : ℕ) (own_ : Invalidated) : Type 0 where
  pub id : ℕ
  pub slot : SlotOf
  pub live : IsLiveIn pool set id slot
  pub start : own_.start ≡ slot.base
  pub end_ : own_.end ≡ slot.base + slot.pages

-- So is each open one of no host page, of a published slot, until its actor publishes the set that takes the place of the one with this slot.
abbrev pub SlotScopePart : ℕ → (ℕ → ℕ) → ℕ → (ℕ → Topics) → Type 0
SlotScopePart n pool slots topics =
    (i : ℕ) → i < n → (topics i).invalidations.opened ≡ true → (topics i).invalidations.own.pages ≡ None → (topics i).retired ≡ None
    → IsOfSlot pool slots (topics i).invalidations.own
