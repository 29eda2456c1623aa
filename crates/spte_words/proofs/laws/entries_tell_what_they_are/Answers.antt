use Rattle.std.proofs.Common.{◌+◌, ◌-◌, ◌*◌, ◌/◌, ◌%◌, ◌^◌, ◌<◌, ◌≤◌, refl, arith}
use Rattle.spte_words.specs.Entries.{frame_in, leaf_word, level_span, table_word}
use Rattle.spte_words.proofs.ChildEntries.{child_can_write, child_host_writable, child_kind, child_maps, child_mmu_writable}
use Rattle.spte_words.proofs.ReadsEntries.{leaf_fits, table_fits, leaf_can_write, leaf_host_writable, leaf_mmu_writable, leaf_frame}
use Rattle.spte_words.proofs.ReadsEntries.{absent_not_frozen, leaf_not_absent, leaf_not_frozen, table_not_absent, table_not_frozen, leaf_not_table}
use Rattle.spte_words.proofs.ReadsEntries.{kind_of_leaf, kind_of_table, kind_of_absent, kind_of_frozen, frozen_from_kind, leaf_with_write}
use Rattle.spte_words.proofs.ReadsEntries.{leaf_without_write, child_of_leaf}
use Rattle.spte_words.proofs.Spans.{child_within, span_1, span_above}
use Rattle.spte_words.proofs.laws.entries_tell_what_they_are.Goals as goal

pub returns-clause-leaves : goal.returns-clause-leaves
returns-clause-leaves c level frame w hw mw from to small = (
  kind_of_leaf level frame w hw mw from to,
  leaf_frame level frame w hw mw small,
  leaf_can_write level frame w hw mw,
  leaf_host_writable level frame w hw mw small,
  leaf_mmu_writable level frame w hw mw small,
  leaf_fits level frame w hw mw (omega (arith, small)),
)

pub returns-clause-links : goal.returns-clause-links
returns-clause-links c level page from to small = (kind_of_table level page from small, table_fits page small)

pub returns-clause-others : goal.returns-clause-others
returns-clause-others c level = (kind_of_absent level, kind_of_frozen level, frozen_from_kind level)

pub returns-clause-differ : goal.returns-clause-differ
returns-clause-differ c level frame page w hw mw = (
  absent_not_frozen,
  leaf_not_absent level frame w hw mw,
  leaf_not_frozen level frame w hw mw,
  table_not_absent page,
  table_not_frozen page,
  leaf_not_table level frame page w hw mw,
)

pub returns-clause-write : goal.returns-clause-write
returns-clause-write c level frame w hw mw = (leaf_with_write level frame w hw mw, leaf_without_write level frame w hw mw)

pub returns-clause-children : goal.returns-clause-children
returns-clause-children c = child_of_leaf

pub returns-clause-children_map : goal.returns-clause-children_map
returns-clause-children_map c level word gfn from to room =
    let small : frame_in word + gfn / level_span (level - 1) % 512 * level_span (level - 1) < 2 ^ 40 =
    let within = child_within level (gfn / level_span (level - 1) % 512) from to (omega arith) in omega (arith, within, room) in
    let most : level ≤ 4 = omega (arith, to) in (
      child_kind level word (gfn / level_span (level - 1) % 512) from most,
      child_maps level word gfn from most small,
      child_can_write level word (gfn / level_span (level - 1) % 512),
      child_host_writable level word (gfn / level_span (level - 1) % 512) small,
      child_mmu_writable level word (gfn / level_span (level - 1) % 512) small,
    )

pub returns-clause-spans : goal.returns-clause-spans
returns-clause-spans c = (span_1, span_above)

pub returns-clause-examples : goal.returns-clause-examples
unfolding leaf_word table_word
returns-clause-examples c = (refl, refl, refl)
