-- What an actor holds of each part of the machine before its first step: nothing.
use Rattle.std.specs.Prelude.{false, None}
use Rattle.core_views.specs.declared.place.SlotField.TheVariants.{Flags}
use Rattle.core_views.specs.declared.topics.Checked.TheVariants.{Nothing}
use Rattle.core_views.specs.declared.topics.Hold.TheVariants.{Loose}
use Rattle.core_views.specs.declared.topics.HostRow.{HostRow}
use Rattle.core_views.specs.declared.topics.Invalidations.{Invalidations}
use Rattle.core_views.specs.declared.topics.MapClaim.{MapClaim}
use Rattle.core_views.specs.declared.topics.SlotSearch.{SlotSearch}
use Rattle.core_views.specs.declared.topics.Stay.TheVariants.{Outside}
use Rattle.core_views.specs.declared.topics.TableWalk.{TableWalk}
use Rattle.core_views.specs.declared.topics.Topics.{Topics}
use Rattle.core_views.specs.declared.trace.Slot.{Slot}

abbrev pub no_slot : Slot
no_slot = record { base = 0; pages = 0; host = 0; read_only = false }

abbrev pub no_search : SlotSearch
no_search = record { set = None; id = 0; next = Flags; slot = no_slot; logged = false; whole = false }

abbrev pub no_invalidations : Invalidations
no_invalidations = record {
  snapshot = None;
  count = 0;
  start = 0;
  end = 0;
  seq = 0;
  checked = Nothing;
  opened = false;
  own = record { pages = None; start = 0; end = 0 };
  raised = false;
}

abbrev pub no_walk : TableWalk
no_walk = record { level = 0; prefix = 0; root = 0; third = 0; second = 0; first = 0; index = 512; entry = 0 }

abbrev pub no_claim : MapClaim
no_claim = record { at = 0; seen = 0 }

abbrev pub makes_no_run : HostRow
makes_no_run = record { looked = 0; alike = false; start = 0; end = 0 }

-- what an actor holds of each part of the machine before its first step
abbrev pub first_topics : Topics
first_topics = record {
  stay = Outside;
  hold = Loose;
  search = no_search;
  invalidations = no_invalidations;
  walk = no_walk;
  claim = no_claim;
  owned = None;
  retired = None;
  watched = 0;
  host = None;
  row = makes_no_run;
  pause = 0;
  owed = None;
  flush = record { asked = 0; awaited = 0 };
  frames = record { claim = no_claim; owned = None };
  next_log_word = 0;
}
