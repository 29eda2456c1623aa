-- What an actor holds after each step of a part.
use Rattle.std.specs.Prelude.{◌+◌, ℕ, Bool, true, false, ◌==◌, not, if◌then◌else◌, nat_lt, Some, None, is_some}
use Rattle.core_views.specs.declared.topics.Checked.TheVariants as checked
use Rattle.core_views.specs.declared.topics.Hold.TheVariants.{Owing, Shared, Exclusive}
use Rattle.core_views.specs.declared.topics.Stay.TheVariants.{Outside, Guest, Section}
use Rattle.core_views.specs.declared.topics.Topics.{Topics}
use Rattle.part_steps.specs.declared.part_step.PartStep.{PartStep}
use Rattle.part_steps.specs.declared.part_step.PartStep.TheVariants as part
use Rattle.spte_words.specs.Entries.{without_write}
use Rattle.spte_words.specs.HostWords.{host_frame, with_presence}
use Rattle.part_steps.specs.FrameTopics.{frame_after, frame_given, frame_tried, word_copied, word_stored}
use Rattle.part_steps.specs.InvalidationRange.{run_aimed, run_searched}
use Rattle.part_steps.specs.PageRuns.{covering, looked_on, one_look}
use Rattle.part_steps.specs.PartTasks.{entry_index, leaf_fixed, leaf_written, link_written, page_looked, word_looked, word_next}
use Rattle.part_steps.specs.StayTopics.{begun, flush_kept, has_lock, is_loose, kept_search, let_go, may_search, may_walk, unchecked}
use Rattle.part_steps.specs.SweepTopics.{at_top, gone_up}
use Rattle.part_steps.specs.WalkTopics.{gone_down, owed_after, still_owned, swapped, walked}
use Rattle.part_steps.specs.PageTopics.{claimed, filled_more, given_back, published, searched, tried}
use Rattle.part_steps.specs.ControlTopics.{at_root, at_set, count_checked, end_known, range_checked}
use Rattle.part_steps.specs.ControlBits.{has_to_flush, has_writer, in_section}
use Rattle.part_steps.specs.ControlTopics.{seq_checked, start_checked, start_known, uncovered}
use Rattle.part_steps.specs.TopicSteps.{run_changed}

-- The sequence number was loaded: without the lock it is the snapshot, with which a look-up begins; else the check's last word.
abbrev pub sequenced : Bool → Topics → ℕ → Topics
sequenced without_lock t v = record t {
  search = if without_lock then kept_search false t.search else t.search;
  host = if without_lock then None else t.host;
  invalidations = record t.invalidations {
    snapshot = if without_lock then Some v else t.invalidations.snapshot;
    seq = if not without_lock then v else t.invalidations.seq;
    checked = seq_checked (has_lock t.hold) t.invalidations.count t.invalidations.checked;
  };
}

-- The entry at an index was to be exchanged for a new one, and v was found there.
abbrev pub exchanged : Bool → ℕ → ℕ → Topics → ℕ → Topics
exchanged won index new_ t v = record t {
  walk = swapped won t.walk index new_ v;
  owned = still_owned won t.walk new_ t.owned;
  owed = owed_after won t.search.logged t.walk index new_ t.owed;
}

-- The host word that was looked up was to be exchanged for a new one, and v was found there.
abbrev pub exchanged_host : ℕ → Topics → ℕ → Topics
exchanged_host new_ t v =
    record t { host = Some (record { page = page_looked t.host; word = if v == word_looked t.host then new_ else v }); row = one_look }

-- And where the page was moved with it, its old frame is owned, which nobody was watched since.
abbrev pub changed_host : ℕ → Topics → ℕ → Topics
changed_host new_ t v = record t {
  host = Some (record { page = page_looked t.host; word = if v == word_looked t.host then new_ else v });
  row = one_look;
  watched = 0;
  frames = record t.frames { owned = frame_after (v == word_looked t.host) (host_frame (word_looked t.host)) t.frames.owned };
}

-- what is held after the step, which answered v
abbrev pub part_topics : PartStep → Topics → ℕ → Topics
part_topics part.Enter t v = begun Guest t
part_topics part.Leave t v = begun Outside t
part_topics part.Pause t v = record t { pause = v }
part_topics part.Begin t v = begun Section t
part_topics part.End t v = begun Outside t
part_topics part.Share t v = record t { hold = if has_writer v then Owing v else Shared; invalidations = unchecked t.invalidations }
part_topics part.Unshare t v = let_go t
part_topics part.Exclude t v =
    record t { hold = if v == 0 then Exclusive else t.hold; invalidations = unchecked t.invalidations; flush = flush_kept (v == 0) t }
part_topics part.Release t v = let_go t
part_topics (part.Map word) t v = record t { claim = record { at = word + (if v == 0 then 1 else 0); seen = v } }
part_topics part.Claim t v = record t { owned = claimed t.walk t.claim v; claim = tried t.claim v }
part_topics (part.Fill value) t v = record t { owned = filled_more t.owned v }
part_topics (part.Role value) t v = record t { owned = filled_more t.owned v }
part_topics part.Give t v = given_back t
part_topics part.Slots t v = record t { search = at_set (may_search t.stay t.hold) t.search v; row = uncovered t.row }
part_topics part.Slot t v = record t {
  search = if is_some t.search.set then searched t.search v else t.search;
  row = if is_some t.search.set then covering (run_searched t) (searched t.search v) t.row else t.row;
}
part_topics part.Seq t v = sequenced (is_loose t.hold) t v
part_topics part.Count t v = record t { invalidations = record t.invalidations { count = v; checked = count_checked t.hold } }
part_topics part.RangeStart t v = record t { invalidations = record t.invalidations { start = v; checked = start_checked t.invalidations.checked } }
part_topics part.RangeEnd t v = record t { invalidations = record t.invalidations { end = v; checked = range_checked t.invalidations.checked } }
part_topics part.Root t v = record t { walk = at_root (may_walk t.stay t.hold) t.walk v }
part_topics (part.Walk gfn) t v = record t { walk = walked t.walk (entry_index gfn t.walk.level) v }
part_topics (part.Sweep gfn) t v = record t { walk = walked (gone_up t.walk) (entry_index gfn (gone_up t.walk).level) v }
part_topics (part.WalkAnew gfn) t v = record t { walk = walked (at_top t.walk) (entry_index gfn 4) v }
part_topics (part.Link gfn) t v = exchanged (v == t.walk.entry) (entry_index gfn t.walk.level) (link_written t) t v
part_topics (part.Leaf gfn write) t v = exchanged (v == t.walk.entry) (entry_index gfn t.walk.level) (leaf_written gfn write t) t v
part_topics (part.Fix gfn) t v = exchanged (v == t.walk.entry) (entry_index gfn t.walk.level) (leaf_fixed t) t v
part_topics part.Mark t v = record t { owed = None }
part_topics (part.Host page) t v = record t { host = Some (record { page = page; word = v }); row = one_look }
part_topics (part.HostOn page) t v = record t { row = looked_on t.host t.row page v }
part_topics (part.Watch index) t v = record t { watched = index + (if in_section v then 0 else 1) }
part_topics part.Publish t v = published t v
part_topics part.Clear t v = record t { owned = filled_more t.owned v }
part_topics part.GiveOld t v = given_back t
part_topics (part.SetStart first gfn) t v =
    record t {
      invalidations = record t.invalidations {
        start = v;
        checked = start_known t.invalidations.checked;
        own = record { pages = run_aimed t; start = first; end = t.invalidations.own.end };
      };
    }
part_topics (part.SetEnd last gfn) t v =
    record t {
      invalidations = record t.invalidations {
        end = v;
        checked = end_known t.invalidations.checked;
        own = record t.invalidations.own { end = last };
      };
    }
part_topics (part.SetCount count) t v =
    record t { invalidations = record t.invalidations { count = v; checked = checked.Nothing; opened = nat_lt t.invalidations.count v; raised = false } }
part_topics (part.SetSeq seq) t v = record t { invalidations = record t.invalidations { seq = v; checked = checked.Nothing; raised = true } }
part_topics (part.Zap gfn) t v = record t { walk = gone_down None t.walk (entry_index gfn t.walk.level) 0 }
part_topics (part.Ask index) t v = record t { flush = record t.flush { asked = index + 1 } }
part_topics (part.Await index) t v = record t { flush = record t.flush { awaited = index + (if has_to_flush v then 0 else 1) } }
part_topics part.Bring t v = exchanged_host (with_presence true (word_looked t.host)) t v
part_topics (part.Change new_) t v = changed_host new_ t v
part_topics part.ChangeNext t v = run_changed (v == word_next t.invalidations.own.pages) t
part_topics (part.FrameMap word) t v = record t { frames = record t.frames { claim = record { at = word + (if v == 0 then 1 else 0); seen = v } } }
part_topics part.Frame t v = record t { frames = frame_tried t.frames v }
part_topics (part.Copy index) t v = record t { frames = record t.frames { owned = word_copied t.frames.owned v } }
part_topics (part.Store index) t v = record t { frames = record t.frames { owned = word_stored t.frames.owned } }
part_topics part.GiveFrame t v = record t { frames = frame_given t.frames }
part_topics (part.Take word mask) t v = record t { next_log_word = word + 1 }
part_topics (part.Protect gfn) t v = record t { walk = gone_down None t.walk (entry_index gfn t.walk.level) (without_write t.walk.entry) }
part_topics (part.Peek word) t v = record t { next_log_word = word + 1 }
part_topics (part.Arm word bits) t v = record t { next_log_word = word + 1 }
