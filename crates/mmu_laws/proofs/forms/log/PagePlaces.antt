-- Where a line goes on to that forbids writes page by page, as it has read a dirty log: what holds of each such place holds of the next one.
use Rattle.std.specs.Prelude.{ℕ, Option, Some, None}
use Rattle.core_views.specs.declared.place.LogPlace.{LogPlace}
use Rattle.core_views.specs.declared.place.LogPlace.TheVariants.{Walk, Protect, Release}
use Rattle.spte_words.specs.declared.spte_kind.SpteKind.{SpteKind}
use Rattle.spte_words.specs.declared.spte_kind.SpteKind.TheVariants as entry_kind
use Rattle.spte_words.specs.Entries.{can_write}
use Rattle.mmu_core.specs.forms.log.LogSteps.{after_entry, after_page}
use Rattle.mmu_core.proofs.lines.EitherPlace.{either_place}

module _ (P : LogPlace → Type 0) (over : P Release) (walks : (page : ℕ) → P (Walk page)) where
  -- after a page, or before the first one
  pub each_page : (o : Option ℕ) → P (after_page o)
  each_page None = over
  each_page (Some page) = walks page

  -- after an entry on the way to a leaf
  pub each_entry : ((page : ℕ) → P (Protect page)) → (kind : SpteKind) (page : ℕ) (o : Option ℕ) (found : ℕ) → P (after_entry kind page (after_page o) found)
  each_entry protects (entry_kind.Table below) page o found = walks page
  each_entry protects entry_kind.Leaf page o found = either_place P (can_write found) (Protect page) (after_page o) (protects page) (each_page o)
  each_entry protects _ page o found = each_page o
