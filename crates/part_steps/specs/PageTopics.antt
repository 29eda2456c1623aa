-- What an actor holds of pool pages: its claim, the page that it owns, and the slot set that is retired; and of the search of a slot set.
use Rattle.std.specs.Prelude.{◌+◌, ◌*◌, ℕ, Bool, true, false, ◌==◌, ◌&&◌, ◌||◌, nat_le, if◌then◌else◌, Option, Some, None}
use Rattle.std.specs.Int.{trailing_zeros}
use mir.Syntax.{w64}
use Rattle.core_views.specs.declared.place.SlotField.{SlotField}
use Rattle.core_views.specs.declared.place.SlotField.TheVariants as field
use Rattle.core_views.specs.declared.topics.MapClaim.{MapClaim}
use Rattle.core_views.specs.declared.topics.OwnedPage.{OwnedPage}
use Rattle.core_views.specs.declared.topics.SlotSearch.{SlotSearch}
use Rattle.core_views.specs.declared.topics.TableWalk.{TableWalk}
use Rattle.core_views.specs.declared.topics.Topics.{Topics}
use Rattle.spte_words.specs.Bits.{has_bit}
use Rattle.spte_words.specs.Entries.{word_below}
use Rattle.spte_words.specs.Flags.{flags_live, flags_logged, flags_read_only}
use Rattle.part_steps.specs.StayTopics.{kept_search}

-- A search goes on to the slot's next word, and after the last one, or where the slot isn't live, to the flags of the next slot.
abbrev pub searched_at : SlotField → SlotSearch → ℕ → SlotSearch
searched_at field.Flags search v = record search {
  id = if flags_live v then search.id else search.id + 1;
  next = if flags_live v then field.Base else field.Flags;
  slot = record search.slot { read_only = flags_read_only v };
  logged = flags_logged v;
  whole = false;
}
searched_at field.Base search v = record search { next = field.Pages; slot = record search.slot { base = v } }
searched_at field.Pages search v = record search { next = field.Host; slot = record search.slot { pages = v } }
searched_at field.Host search v = record search { next = field.Flags; id = search.id + 1; slot = record search.slot { host = v }; whole = true }

abbrev pub searched : SlotSearch → ℕ → SlotSearch
searched search v = searched_at search.next search v

-- the bit that a claim tries: the lowest of those seen
abbrev pub tried_bit : MapClaim → ℕ
tried_bit claim = trailing_zeros w64 claim.seen

-- A claim is won where the bit was still there.
abbrev pub is_won : MapClaim → ℕ → Bool
is_won claim v = has_bit (tried_bit claim) v

-- The page is to be filled as a table for the entry that the walk has loaded, or as a slot set.
abbrev pub claimed : TableWalk → MapClaim → ℕ → Option OwnedPage
claimed walk claim v =
    if is_won claim v
    then Some (record { page = 64 * claim.at + tried_bit claim; filled = 0; entry = walk.entry; level = walk.level; below = true; role = 0 })
    else None

-- a claim after its try: over, or with the bits seen now
abbrev pub tried : MapClaim → ℕ → MapClaim
tried claim v = record { at = if is_won claim v then 0 else claim.at; seen = if is_won claim v then 0 else v }

-- a claim that has seen no page yet
abbrev pub unseen : MapClaim → MapClaim
unseen claim = record claim { seen = 0 }

-- One more word of an owned page is filled.
abbrev pub filled_more : Option OwnedPage → ℕ → Option OwnedPage
filled_more None v = None
filled_more (Some o) v = Some (record {
  page = o.page;
  filled = o.filled + 1;
  entry = o.entry;
  level = o.level;
  below = o.below && (nat_le 512 o.filled || v == word_below o.level o.entry o.filled);
  role = if o.filled == 512 then v else o.role;
})

-- What is given back is the page that is owned, and where there is none the one that is retired.
abbrev pub still_retired : Option OwnedPage → Option ℕ → Option ℕ
still_retired None retired = None
still_retired (Some o) retired = retired

-- A page was given back: a claim has yet to see again which pages are free in its word of the map.
abbrev pub given_back : Topics → Topics
given_back t = record t { owned = None; retired = still_retired t.owned t.retired; claim = unseen t.claim }

-- A slot set was published in place of the one in page v, which is retired now: nobody was watched yet, and it is held no more.
abbrev pub published : Topics → ℕ → Topics
published t v = record t { search = kept_search false t.search; owned = None; retired = Some v; watched = 0 }
