-- What an actor holds of a walk: after each load of an entry, and each exchange of one.
use Rattle.std.specs.Prelude.{◌+◌, ◌-◌, ◌*◌, ℕ, Bool, true, false, ◌==◌, ◌&&◌, nat_le, if◌then◌else◌, Option, Some, None}
use Rattle.core_views.specs.declared.topics.OwnedPage.{OwnedPage}
use Rattle.core_views.specs.declared.topics.TableWalk.{TableWalk}
use Rattle.spte_words.specs.declared.spte_kind.SpteKind.{SpteKind}
use Rattle.spte_words.specs.declared.spte_kind.SpteKind.TheVariants as entry_kind
use Rattle.spte_words.specs.Entries.{can_write, kind_of}

-- the pool page that an entry links to, if it is a link
abbrev pub linked_page : SpteKind → Option ℕ
linked_page (entry_kind.Table page) = Some page
linked_page _ = None

-- The walk has come to a table.
abbrev pub is_in_table : TableWalk → Bool
is_in_table walk = nat_le 1 walk.level

-- The entry at an index of the walk's table is v: the walk goes down where this is a link, and else stays.
abbrev pub gone_down : Option ℕ → TableWalk → ℕ → ℕ → TableWalk
gone_down None walk index v = record walk { index = index; entry = v }
gone_down (Some page) walk index v = record {
  level = walk.level - 1;
  prefix = walk.prefix * 512 + index;
  root = walk.root;
  third = if walk.level == 4 then page else walk.third;
  second = if walk.level == 3 then page else walk.second;
  first = if walk.level == 2 then page else walk.first;
  index = 512;
  entry = v;
}

abbrev pub walked : TableWalk → ℕ → ℕ → TableWalk
walked walk index v = gone_down (linked_page (kind_of walk.level v)) walk index v

-- The entry at an index was to be exchanged for a new one, and v was found there: it is the new one where the exchange was won.
abbrev pub swapped : Bool → TableWalk → ℕ → ℕ → ℕ → TableWalk
swapped true walk index new_ v = walked walk index new_
swapped false walk index new_ v = gone_down None walk index v

-- A page that was linked is its owner's no more.
abbrev pub unless_linked : Option ℕ → Option OwnedPage → Option OwnedPage
unless_linked None owned = owned
unless_linked (Some page) owned = None

abbrev pub still_owned : Bool → TableWalk → ℕ → Option OwnedPage → Option OwnedPage
still_owned true walk new_ owned = unless_linked (linked_page (kind_of walk.level new_)) owned
still_owned false walk new_ owned = owned

-- A leaf that allows writes was put into a table of the lowest level, where the slot has a dirty log.
abbrev pub owes_mark : Bool → Bool → TableWalk → ℕ → Bool
owes_mark won logged walk new_ = won && ((walk.level == 1) && (logged && can_write new_))

-- Then a mark is owed for its guest frame (locking.rst, "Fast page fault").
abbrev pub owed_after : Bool → Bool → TableWalk → ℕ → ℕ → Option ℕ → Option ℕ
owed_after won logged walk index new_ owed = if owes_mark won logged walk new_ then Some (walk.prefix * 512 + index) else owed
