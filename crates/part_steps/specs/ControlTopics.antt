-- What words of the machine tell an actor: the lock's, a state word, the pool's map, the root, the published set, the invalidations'.
use Rattle.std.specs.Prelude.{◌+◌, ◌-◌, ℕ, Bool, true, false, ◌==◌, ◌&&◌, ◌||◌, nat_lt, not, if◌then◌else◌, Option, Some, None}
use Rattle.core_views.specs.declared.place.SlotField.TheVariants as field
use Rattle.core_views.specs.declared.sizes.Sizes.{Sizes}
use Rattle.core_views.specs.declared.topics.Checked.{Checked}
use Rattle.core_views.specs.declared.topics.Checked.TheVariants as checked
use Rattle.core_views.specs.declared.topics.Hold.{Hold}
use Rattle.core_views.specs.declared.topics.HostRow.{HostRow}
use Rattle.core_views.specs.declared.topics.Invalidated.{Invalidated}
use Rattle.core_views.specs.declared.topics.Invalidations.{Invalidations}
use Rattle.core_views.specs.declared.topics.MapClaim.{MapClaim}
use Rattle.core_views.specs.declared.topics.PageRun.{PageRun}
use Rattle.core_views.specs.declared.topics.SlotSearch.{SlotSearch}
use Rattle.core_views.specs.declared.topics.TableWalk.{TableWalk}
use Rattle.core_views.specs.declared.topics.Topics.{Topics}
use Rattle.spte_words.specs.declared.area.Area.TheVariants as area
use Rattle.part_steps.specs.StayTopics.{has_lock, is_loose, may_walk, may_search, kept_search}
use Rattle.part_steps.specs.ControlBits.{frames_begin, is_frame_map, is_pool_map, is_word_of, map_begins}

-- The root was loaded: a walk begins at it, where its page is held.
abbrev pub at_root : Bool → TableWalk → ℕ → TableWalk
at_root holds walk v = record walk { level = if holds then 4 else 0; prefix = 0; root = v; index = 512 }

-- Which slot set is published was loaded: a search of it begins, where its page is held.
abbrev pub at_set : Bool → SlotSearch → ℕ → SlotSearch
at_set holds search v = record search { set = if holds then Some v else None; id = 0; next = field.Flags; whole = false }

-- It has collected no guest frames of a run yet.
abbrev pub uncovered : HostRow → HostRow
uncovered row = record row { start = 0; end = 0 }

-- How far the check has come after a load of the count, of the range's start, of its end, and of the sequence number.
abbrev pub count_checked : Hold → Checked
count_checked hold = if has_lock hold then checked.Count else checked.Nothing

abbrev pub start_checked : Checked → Checked
start_checked checked.Count = checked.Start
start_checked _ = checked.Nothing

abbrev pub range_checked : Checked → Checked
range_checked checked.Start = checked.Range
range_checked _ = checked.Nothing

abbrev pub seq_checked : Bool → ℕ → Checked → Checked
seq_checked locked count checked.Count = if count == 0 then checked.All else checked.Nothing
seq_checked locked count checked.Range = checked.All
seq_checked locked count checked.Nothing = if locked then checked.Seq else checked.Nothing
seq_checked locked count _ = checked.Nothing

-- How far the check has come after the load of a control word.
abbrev pub checked_after : ℕ → Hold → Invalidations → Checked
checked_after word hold n =
    if is_word_of area.Count word then count_checked hold else
    if is_word_of area.RangeStart word then start_checked n.checked else
    if is_word_of area.RangeEnd word then range_checked n.checked else
    if is_word_of area.Seq word then seq_checked (has_lock hold) n.count n.checked else
    n.checked

-- A word of the invalidations was loaded; the sequence number is the snapshot where the actor doesn't have the lock.
abbrev pub noted : ℕ → Hold → Invalidations → ℕ → Invalidations
noted word hold n v = record n {
  snapshot = if is_word_of area.Seq word && is_loose hold then Some v else n.snapshot;
  count = if is_word_of area.Count word then v else n.count;
  start = if is_word_of area.RangeStart word then v else n.start;
  end = if is_word_of area.RangeEnd word then v else n.end;
  seq = if is_word_of area.Seq word && not (is_loose hold) then v else n.seq;
  checked = checked_after word hold n;
}

-- What is known of the words after the range's start was stored, and its end: the word itself, too.
abbrev pub start_known : Checked → Checked
start_known checked.Count = checked.Start
start_known c = c

abbrev pub end_known : Checked → Checked
end_known checked.Start = checked.Range
end_known c = c

abbrev pub checked_stored : ℕ → Checked → Checked
checked_stored word c =
    if is_word_of area.Count word || is_word_of area.Seq word then checked.Nothing else
    if is_word_of area.RangeStart word then start_known c else
    if is_word_of area.RangeEnd word then end_known c else
    c

-- What an actor's own invalidation is of, after a store of an end of the range with this end of its own: from the start on of these host pages, if it is of
-- some.
abbrev pub own_stored : ℕ → ℕ → Option PageRun → Invalidated → Invalidated
own_stored word bound pages own = record {
  pages = if is_word_of area.RangeStart word then pages else own.pages;
  start = if is_word_of area.RangeStart word then bound else own.start;
  end = if is_word_of area.RangeEnd word then bound else own.end;
}

-- A word of the invalidations was stored: where it is their count, the actor's own is open from then on if it rose, and the sequence number is raised for its
-- own. What was loaded of count and sequence number before either is stored is known no more.
abbrev pub stored : ℕ → ℕ → Option PageRun → Invalidations → ℕ → Invalidations
stored word bound pages n v = record n {
  count = if is_word_of area.Count word then v else n.count;
  start = if is_word_of area.RangeStart word then v else n.start;
  end = if is_word_of area.RangeEnd word then v else n.end;
  seq = if is_word_of area.Seq word then v else n.seq;
  checked = checked_stored word n.checked;
  opened = if is_word_of area.Count word then nat_lt n.count v else n.opened;
  own = own_stored word bound pages n.own;
  raised = if is_word_of area.Count word then false else if is_word_of area.Seq word then true else n.raised;
}

-- A word was loaded, which is one of a map that begins at this place, if it is: a claim has come to it, or to the next one where it is 0.
abbrev pub at_word : Bool → ℕ → ℕ → MapClaim → ℕ → MapClaim
at_word is begins word claim v = record {
  at = if is then (word - begins) + (if v == 0 then 1 else 0) else claim.at;
  seen = if is then v else claim.seen;
}

-- The load takes the snapshot of a look-up, which begins with it.
abbrev pub takes_snapshot : ℕ → Hold → Bool
takes_snapshot word hold = is_word_of area.Seq word && is_loose hold

-- A word of the machine's control was loaded: each of these words has a topic of its own that keeps what was found. What was looked up
-- before a snapshot is let go.
abbrev pub controlled : Sizes → ℕ → Topics → ℕ → Topics
controlled z word t v = record t {
  walk = if is_word_of area.Root word then at_root (may_walk t.stay t.hold) t.walk v else t.walk;
  search =
      if is_word_of area.Slots word then at_set (may_search t.stay t.hold) t.search v else if takes_snapshot word t.hold
      then kept_search false t.search else t.search;
  host = if takes_snapshot word t.hold then None else t.host;
  row = if is_word_of area.Slots word then uncovered t.row else t.row;
  invalidations = noted word t.hold t.invalidations v;
  claim = at_word (is_pool_map z word) (map_begins z) word t.claim v;
  frames = record t.frames { claim = at_word (is_frame_map z word) (frames_begin z) word t.frames.claim v };
  pause = if is_word_of area.Pause word then v else t.pause;
}
