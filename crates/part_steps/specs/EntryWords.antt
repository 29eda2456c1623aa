-- Where an entry stands of the table that a walk has come to, and what is put there.
use Rattle.std.specs.Prelude.{◌/◌, ◌%◌, ℕ, Bool, not, ◌==◌, ◌||◌, if◌then◌else◌}
use Rattle.core_views.specs.declared.topics.TableWalk.{TableWalk}
use Rattle.core_views.specs.declared.topics.Topics.{Topics}
use Rattle.spte_words.specs.Entries.{level_span, table_word, with_write}
use Rattle.part_steps.specs.HeldNumbers.{page_owned, word_looked}
use Rattle.part_steps.specs.SlotWords.{leaf_of}

-- the page of the table that a walk has come to
abbrev pub table_page : TableWalk → ℕ
table_page walk =
    if walk.level == 4 then walk.root else
    if walk.level == 3 then walk.third else
    if walk.level == 2 then walk.second else
    walk.first

-- the place of a guest frame's entry in a table of the level
abbrev pub entry_index : ℕ → ℕ → ℕ
entry_index gfn level = gfn / level_span level % 512

-- A leaf is put with write permission for a write, and where the slot has no dirty log (locking.rst, "Fast page fault").
abbrev pub puts_write : Bool → Topics → Bool
puts_write write t = write || not t.search.logged

-- what a link to the owned page is, and the leaf over the guest frame's run, by the page that was looked up, for an access that writes or doesn't; and the
-- leaf that was seen, which allows writes now
abbrev pub link_written : Topics → ℕ
link_written t = table_word (page_owned t.owned)

abbrev pub leaf_written : ℕ → Bool → Topics → ℕ
leaf_written gfn write t = leaf_of t.walk.level gfn (puts_write write t) t.search.slot (word_looked t.host)

abbrev pub leaf_fixed : Topics → ℕ
leaf_fixed t = with_write t.walk.entry
