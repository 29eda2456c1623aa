-- Translations: what is cached, and what an access uses, agrees with slots and host.
use Rattle.std.specs.Prelude.{◌≡◌, ◌+◌, ◌%◌, ◌<◌, ◌^◌, ℕ, Bool, All, List, true}
use Rattle.core_views.specs.declared.cache.Translation.{Translation}
use Rattle.core_views.specs.declared.sizes.Sizes.{Sizes}
use Rattle.core_views.specs.declared.trace.Slot.{Slot as SlotOf}
use Rattle.core_views.specs.Slots.{contains}
use Rattle.mmu_core.specs.invariant.SlotSetPart.{IsLiveIn}
use Rattle.mmu_core.specs.forms.access.Cached.{covers}
use Rattle.part_steps.specs.PartBounds.{IsAtLeafLevel}
use Rattle.part_steps.specs.RunHoldings.{HasRun}
use Rattle.part_steps.specs.SlotWords.{leaf_at, page_of}
use Rattle.spte_words.specs.Entries.{level_span, mapped_frame}
use Rattle.spte_words.specs.HostWords.{host_frame, host_present}

-- The word is a leaf of this level, of the page that the published slots, in this page, and the host give the guest frame, with write permission, where they
-- allow it, or without. Its first frame is as far before the page's as the first guest frame of its span is before this one, and the first one of a span of
-- frames; the page is present, and the slot has the whole span.
pub record IsLeafFor (pool host : ℕ → ℕ) (set level gfn leaf : ℕ) : Type 0 where
  pub id : ℕ
  pub slot : SlotOf
  pub live : IsLiveIn pool set id slot
  pub holds : contains gfn slot ≡ true
  pub run : HasRun level gfn slot
  pub writes : Bool
  pub first : ℕ
  pub is : leaf ≡ leaf_at level first writes slot (host (page_of slot gfn))
  pub frame : host_frame (host (page_of slot gfn)) ≡ first + gfn % level_span level
  pub in_place : first % level_span level ≡ 0
  pub present : host_present (host (page_of slot gfn)) ≡ true
  pub small : host_frame (host (page_of slot gfn)) < 2 ^ 40

-- The translation is of a level that has leaves, and leads each guest frame that it covers to a frame of the machine.
pub record FitsMachine (z : Sizes) (t : Translation) : Type 0 where
  pub level : IsAtLeafLevel t
  pub there : (gfn : ℕ) → covers gfn t ≡ true → mapped_frame t.level t.leaf gfn < z.frames

-- So is each that is cached.
abbrev pub CachedPart : Sizes → List Translation → Type 0
CachedPart z cached = All (FitsMachine z) cached

-- The translation's leaf is the one of each guest frame that it covers.
abbrev pub IsTranslationFor : (ℕ → ℕ) → (ℕ → ℕ) → ℕ → Translation → Type 0
IsTranslationFor pool host set t = (gfn : ℕ) → covers gfn t ≡ true → IsLeafFor pool host set t.level gfn t.leaf

-- So is each that is cached.
abbrev pub AgreePart : (ℕ → ℕ) → (ℕ → ℕ) → ℕ → List Translation → Type 0
AgreePart pool host set cached = All (IsTranslationFor pool host set) cached
