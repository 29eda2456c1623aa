-- What an actor holds of each part of the machine after a step: a function of the step's numbers, of what it held, and of what the step answered.
use Rattle.std.specs.Prelude.{◌≡◌, ◌<◌, ◌≤◌, ◌+◌, ◌-◌, ◌%◌, ◌^◌, ℕ, Bool, true, ◌==◌, if◌then◌else◌, Some, None, is_some}
use Rattle.core_views.specs.declared.kind.Kind.{Kind}
use Rattle.core_views.specs.declared.kind.StepKind.{StepKind}
use Rattle.core_views.specs.declared.kind.StepKind.TheVariants as kind
use Rattle.core_views.specs.declared.sizes.Sizes.{Sizes}
use Rattle.core_views.specs.declared.topics.Hold.TheVariants.{Shared, Owing, Exclusive}
use Rattle.core_views.specs.declared.topics.OwnedPage.{OwnedPage}
use Rattle.core_views.specs.declared.topics.PageRun.{PageRun}
use Rattle.core_views.specs.declared.topics.Stay.TheVariants.{Outside, Guest, Section}
use Rattle.core_views.specs.declared.topics.Topics.{Topics}
use Rattle.core_views.specs.Kinds.{kind_named}
use Rattle.spte_words.specs.declared.area.Area.TheVariants as area
use Rattle.spte_words.specs.Areas.{number_of, place}
use Rattle.spte_words.specs.Entries.{without_write}
use Rattle.spte_words.specs.HostWords.{host_frame}
use Rattle.part_steps.specs.Tasks.{map_of}
use Rattle.part_steps.specs.InvalidationRange.{run_aimed, run_searched}
use Rattle.part_steps.specs.PageRuns.{changed_more, covering, is_several, looked_on, one_look}
use Rattle.part_steps.specs.SweepTopics.{walk_on}
use Rattle.part_steps.specs.StayTopics.{unchecked, begun, flush_kept, let_go}
use Rattle.part_steps.specs.WalkTopics.{gone_down, is_in_table, owed_after, walked, swapped, still_owned}
use Rattle.part_steps.specs.PageTopics.{searched, claimed, tried, filled_more, given_back, published}
use Rattle.part_steps.specs.FrameTopics.{frame_after, frame_given, frame_tried, word_copied, word_stored, words_moved}
use Rattle.part_steps.specs.ControlTopics.{controlled, stored}
use Rattle.part_steps.specs.ControlBits.{has_to_flush, has_writer, in_section, is_content}

-- where the words of the dirty log begin, the host words, and the words of the pool
abbrev pub log_begins : Sizes → ℕ
log_begins z = place (map_of z) area.Log 0

abbrev pub host_begins : Sizes → ℕ
host_begins z = place (map_of z) area.Host 0

abbrev pub pool_begins : Sizes → ℕ
pool_begins z = place (map_of z) area.Pool 0

-- the place in its page of a word of the pool
abbrev pub index_in_page : Sizes → ℕ → ℕ
index_in_page z word = (word - pool_begins z) % 512

-- A host page was looked at: for itself, or, with a number, after those in a row with it.
abbrev pub host_looked : Sizes → Kind → Topics → ℕ → Topics
host_looked z k t v = record t {
  host = if k.new == 0 then Some (record { page = k.word - host_begins z; word = v }) else t.host;
  row = if k.new == 0 then one_look else looked_on t.host t.row (k.word - host_begins z) v;
}

-- A host word was to be exchanged: it was seen as it is now.
abbrev pub host_exchanged : Sizes → Kind → Topics → ℕ → Topics
host_exchanged z k t v = record t { host = Some (record { page = k.word - host_begins z; word = if v == k.old then k.new else v }); row = one_look }

-- Where it was won, the old frame of a page that was moved is owned, which nobody was watched since.
abbrev pub page_changed : Sizes → Kind → Topics → ℕ → Topics
page_changed z k t v = record t {
  host = Some (record { page = k.word - host_begins z; word = if v == k.old then k.new else v });
  row = one_look;
  watched = 0;
  frames = record t.frames { owned = frame_after (v == k.old) (host_frame k.old) t.frames.owned };
}

-- Or it was the word of a page of a run, of which one more is changed: what was seen of its pages is no more.
abbrev pub run_changed : Bool → Topics → Topics
run_changed won t = record t {
  host = None;
  invalidations = record t.invalidations { own = record t.invalidations.own { pages = changed_more won t.invalidations.own.pages } };
}

abbrev pub host_changed : Sizes → Kind → Topics → ℕ → Topics
host_changed z k t v = if is_several t.invalidations.own.pages then run_changed (v == k.old) t else page_changed z k t v

-- A word was filled: of the frame that is owned, or of the page.
abbrev pub word_filled : Bool → Topics → ℕ → Topics
word_filled of_frame t v = record t {
  owned = if of_frame then t.owned else filled_more t.owned v;
  frames = record t.frames { owned = if of_frame then word_stored t.frames.owned else t.frames.owned };
}

-- what is held after a step of the kind with these numbers, which answered v
abbrev pub topics_by : StepKind → Sizes → Kind → Topics → ℕ → Topics
topics_by kind.Enter z k t v = begun Guest t
topics_by kind.Leave z k t v = begun Outside t
topics_by kind.Begin z k t v = begun Section t
topics_by kind.End z k t v = begun Outside t
topics_by kind.Walk z k t v = record t { walk = if is_in_table t.walk then walked (walk_on t) (index_in_page z k.word) v else t.walk }
topics_by kind.Control z k t v = controlled z k.word t v
topics_by kind.Slot z k t v = record t {
  search = if is_some t.search.set then searched t.search v else t.search;
  row = if is_some t.search.set then covering (run_searched t) (searched t.search v) t.row else t.row;
}
topics_by kind.Host z k t v = host_looked z k t v
topics_by kind.Share z k t v = record t { hold = if has_writer v then Owing v else Shared; invalidations = unchecked t.invalidations }
topics_by kind.Unshare z k t v = let_go t
topics_by kind.Exclude z k t v =
    record t { hold = if v == 0 then Exclusive else t.hold; invalidations = unchecked t.invalidations; flush = flush_kept (v == 0) t }
topics_by kind.Release z k t v = let_go t
topics_by kind.Claim z k t v = record t { owned = claimed t.walk t.claim v; claim = tried t.claim v }
topics_by kind.Fill z k t v = word_filled (is_content z k.word) t v
topics_by kind.Give z k t v = given_back t
topics_by kind.Set z k t v = record t { invalidations = stored k.word k.old (run_aimed t) t.invalidations v }
topics_by kind.Zap z k t v = record t { walk = if is_in_table t.walk then gone_down None t.walk (index_in_page z k.word) 0 else t.walk }
topics_by kind.Ask z k t v = record t { flush = record t.flush { asked = (k.word - number_of area.State) + 1 } }
topics_by kind.Await z k t v = record t { flush = record t.flush { awaited = (k.word - number_of area.State) + (if has_to_flush v then 0 else 1) } }
topics_by kind.Bring z k t v = host_exchanged z k t v
topics_by kind.Change z k t v = host_changed z k t v
topics_by kind.Copy z k t v = record t { frames = record t.frames { owned = word_copied t.frames.owned v } }
topics_by kind.Frame z k t v = record t { frames = frame_tried t.frames v }
topics_by kind.Unframe z k t v = record t { frames = frame_given t.frames }
topics_by kind.Publish z k t v = published t v
topics_by kind.Watch z k t v = record t { watched = (k.word - number_of area.State) + (if in_section v then 0 else 1) }
topics_by kind.Read z k t v = t
topics_by kind.Write z k t v = t
topics_by kind.Add z k t v = t
topics_by kind.Swap z k t v = record t {
  walk = if is_in_table t.walk then swapped (v == k.old) t.walk (index_in_page z k.word) k.new v else t.walk;
  owned = if is_in_table t.walk then still_owned (v == k.old) t.walk k.new t.owned else t.owned;
  owed = if is_in_table t.walk then owed_after (v == k.old) t.search.logged t.walk (index_in_page z k.word) k.new t.owed else t.owed;
}
topics_by kind.Mark z k t v = record t { owed = None }
topics_by kind.Take z k t v = record t { next_log_word = (k.word - log_begins z) + 1 }
topics_by kind.Protect z k t v =
    record t { walk = if is_in_table t.walk then gone_down None t.walk (index_in_page z k.word) (without_write t.walk.entry) else t.walk }
topics_by kind.Peek z k t v = record t { next_log_word = (k.word - log_begins z) + 1 }
topics_by kind.Arm z k t v = record t { next_log_word = (k.word - log_begins z) + 1 }

-- what is held after a step that answered v
unfoldable pub topics_after : Sizes → Kind → Topics → ℕ → Topics
topics_after z k t v = topics_by (kind_named k.code) z k t v

-- What is counted has room for one more: the words of an owned page and of an owned frame, the slots of a set, the words of a map, the changed pages of a run,
-- the spans of a table.
abbrev pub HasRoom : StepKind → Topics → Type 0
HasRoom kind.Fill t = ((o : OwnedPage) → t.owned ≡ Some o → o.filled < 513) × (words_moved t.frames.owned < 2 ^ 32)
HasRoom kind.Slot t = is_some t.search.set ≡ true → t.search.id ≤ 31
HasRoom kind.Claim t = (0 < t.claim.seen) × (t.claim.at < 2 ^ 32)
HasRoom kind.Frame t = (0 < t.frames.claim.seen) × (t.frames.claim.at < 2 ^ 32)
HasRoom kind.Change t = (run : PageRun) → t.invalidations.own.pages ≡ Some run → run.changed < 2 ^ 32
HasRoom kind.Walk t = 1 ≤ t.walk.level → t.walk.prefix < 2 ^ 36
HasRoom kind.Swap t = 1 ≤ t.walk.level → t.walk.prefix < 2 ^ 36
HasRoom _ t = Unit {0}
