-- A sweep over the tables for some guest frames, and the change of a leaf that it has come to, which is zapped, or in which writes are forbidden (tdp_iter.c;
-- tdp_mmu.c, kvm_tdp_mmu_unmap_gfn_range, tdp_mmu_zap_leafs and wrprot_gfn_range).
use Rattle.std.specs.Prelude.{◌≡◌, ◌≢◌, ℕ}
use Rattle.std.specs.Int.Bits.{bit_and}
use Rattle.core_views.specs.declared.topics.Topics.{Topics}
use Rattle.core_views.specs.Held.{Held}
use Rattle.spte_words.specs.declared.area.Area.TheVariants as area
use Rattle.spte_words.specs.Areas.{pool_index}
use Rattle.spte_words.specs.Entries.{without_write, write_bit}
use Rattle.part_steps.specs.declared.part_step.PartStep.TheVariants as part
use Rattle.part_steps.specs.PartTasks.{all_but, entry_index, table_page}
use Rattle.part_steps.specs.SweepTopics.{gone_up}
use Rattle.part_steps.specs.WalkTopics.{walked}
use Rattle.mmu_core.specs.machine.Machine.{World}
use Rattle.mmu_core.specs.machine.View.{word_in}
use Rattle.step_seats.specs.PartTurns.{WherePartMade}
use Rattle.step_seats.specs.Seats.{Seat}

-- ---- the next entry

-- The walk has gone up to a table with an entry left, and down again where the entry over the guest frame is a link. Nothing else that the actor holds has
-- changed.
abbrev pub swept : ℕ → ℕ → Topics → Topics
swept gfn found t = record t { walk = walked (gone_up t.walk) (entry_index gfn (gone_up t.walk).level) found }

-- The entry was this word.
abbrev pub LoadsEntry : ℕ → ℕ → Held → World Held → Type 0
LoadsEntry gfn found h w =
    word_in h.state.sizes w area.Pool (pool_index (table_page (gone_up h.topics.walk)) (entry_index gfn (gone_up h.topics.walk).level)) ≡ found

-- It was so where the step was made.
abbrev pub SweepsWhereMade : ℕ → ℕ → ℕ → Seat → Seat → Type 0
SweepsWhereMade gfn found note before after = WherePartMade (part.Sweep gfn) note before after (λ w v. LoadsEntry gfn found before.hand w)

-- ---- the zap

-- The walk stays in its table, and has seen the entry absent. Nothing else that the actor holds has changed.
abbrev pub zapped : ℕ → Topics → Topics
zapped gfn t = record t { walk = record t.walk { index = entry_index gfn t.walk.level; entry = 0 } }

-- where the guest frame's entry stands in the table that the walk has come to
abbrev pub entry_at : ℕ → Topics → ℕ
entry_at gfn t = pool_index (table_page t.walk) (entry_index gfn t.walk.level)

-- The entry was this word before the zap, and is absent after it; each other word of the pool is what it was.
pub record ZapsEntry (gfn found : ℕ) (h : Held) (w v : World Held) : Type 0 where
  pub was : word_in h.state.sizes w area.Pool (entry_at gfn h.topics) ≡ found
  pub absent : word_in h.state.sizes v area.Pool (entry_at gfn h.topics) ≡ 0
  pub others : (i : ℕ) → i ≢ entry_at gfn h.topics → word_in h.state.sizes v area.Pool i ≡ word_in h.state.sizes w area.Pool i

-- It was so where the zap was made.
abbrev pub ZapsWhereMade : ℕ → ℕ → ℕ → Seat → Seat → Type 0
ZapsWhereMade gfn found note before after = WherePartMade (part.Zap gfn) note before after (ZapsEntry gfn found before.hand)

-- ---- the write protection

-- The walk stays in its table, and has seen the entry without its Writable bit. Nothing else that the actor holds has changed.
abbrev pub protected : ℕ → Topics → Topics
protected gfn t = record t { walk = record t.walk { index = entry_index gfn t.walk.level; entry = without_write t.walk.entry } }

-- The entry was this word, and has lost its Writable bit; each other word of the pool is what it was.
pub record ProtectsEntry (gfn found : ℕ) (h : Held) (w v : World Held) : Type 0 where
  pub was : word_in h.state.sizes w area.Pool (entry_at gfn h.topics) ≡ found
  pub loses : word_in h.state.sizes v area.Pool (entry_at gfn h.topics) ≡ bit_and found (all_but write_bit)
  pub others : (i : ℕ) → i ≢ entry_at gfn h.topics → word_in h.state.sizes v area.Pool i ≡ word_in h.state.sizes w area.Pool i

-- It was so where writes were forbidden.
abbrev pub ProtectsWhereMade : ℕ → ℕ → ℕ → Seat → Seat → Type 0
ProtectsWhereMade gfn found note before after = WherePartMade (part.Protect gfn) note before after (ProtectsEntry gfn found before.hand)
