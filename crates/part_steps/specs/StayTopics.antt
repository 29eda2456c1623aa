-- Where an actor is and how it holds the lock; what it keeps as it goes in and out of guest, section and lock.
use Rattle.std.specs.Prelude.{Bool, true, false, ◌||◌, not, if◌then◌else◌, None, ◌&&◌}
use Rattle.core_views.specs.declared.topics.Checked.TheVariants as checked
use Rattle.core_views.specs.declared.topics.Flush.{Flush}
use Rattle.core_views.specs.declared.topics.Hold.{Hold}
use Rattle.core_views.specs.declared.topics.Hold.TheVariants.{Loose, Shared, Owing, Exclusive}
use Rattle.core_views.specs.declared.topics.Invalidations.{Invalidations}
use Rattle.core_views.specs.declared.topics.SlotSearch.{SlotSearch}
use Rattle.core_views.specs.declared.topics.Stay.{Stay}
use Rattle.core_views.specs.declared.topics.Stay.TheVariants.{Outside, Guest, Section}
use Rattle.core_views.specs.declared.topics.TableWalk.{TableWalk}
use Rattle.core_views.specs.declared.topics.Topics.{Topics}

-- The actor is outside the guest and outside every section.
abbrev pub is_outside : Stay → Bool
is_outside Outside = true
is_outside Guest = false
is_outside Section = false

abbrev pub is_section : Stay → Bool
is_section Outside = false
is_section Guest = false
is_section Section = true

-- The actor has the lock, as a reader or alone.
abbrev pub has_lock : Hold → Bool
has_lock Loose = false
has_lock Shared = true
has_lock (Owing word) = false
has_lock Exclusive = true

abbrev pub is_alone : Hold → Bool
is_alone Exclusive = true
is_alone _ = false

abbrev pub is_loose : Hold → Bool
is_loose Loose = true
is_loose _ = false

-- A page of tables that is loaded now is held: in the guest, in a section, or under the lock.
abbrev pub may_walk : Stay → Hold → Bool
may_walk stay hold = not (is_outside stay) || has_lock hold

-- A slot set's page that is loaded now is held: in a section, or by who has the lock alone.
abbrev pub may_search : Stay → Hold → Bool
may_search stay hold = is_section stay || is_alone hold

-- A walk and a search, where they are kept; else nothing of them is held.
abbrev pub kept_walk : Bool → TableWalk → TableWalk
kept_walk keeps walk = record walk { level = if keeps then walk.level else 0 }

abbrev pub kept_search : Bool → SlotSearch → SlotSearch
kept_search keeps search = record search { set = if keeps then search.set else None; whole = if keeps then search.whole else false }

-- what was loaded of the invalidations, where the check is to begin anew; and where the look-up is, too
abbrev pub unchecked : Invalidations → Invalidations
unchecked n = record n { checked = checked.Nothing }

abbrev pub forgotten : Invalidations → Invalidations
forgotten n = record n { snapshot = None; checked = checked.Nothing }

-- No virtual processor was asked for a flush yet.
abbrev pub no_flush : Flush
no_flush = record { asked = 0; awaited = 0 }

-- Who has tried for the lock alone counts the flushes anew if it was won, but for those of its own open invalidation.
abbrev pub flush_kept : Bool → Topics → Flush
flush_kept won t = if won && not t.invalidations.opened then no_flush else t.flush

-- what is held where the actor goes into the guest, into a section, or out of them: of tables, slots and look-ups nothing
abbrev pub begun : Stay → Topics → Topics
begun stay t = record t {
  stay = stay;
  walk = kept_walk false t.walk;
  search = kept_search false t.search;
  host = None;
  invalidations = forgotten t.invalidations;
}

-- what is held without the lock: of tables and slots nothing, unless the actor is in the guest or in a section
abbrev pub let_go : Topics → Topics
let_go t = record t {
  hold = Loose;
  walk = kept_walk (not (is_outside t.stay)) t.walk;
  search = kept_search (is_section t.stay) t.search;
  invalidations = unchecked t.invalidations;
}
