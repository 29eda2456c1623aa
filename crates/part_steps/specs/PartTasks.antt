-- Which step of the machine each step of a part is: its kind, its word, what it expects there and what it writes.
use Rattle.std.specs.Prelude.{◌/◌, ◌%◌, ◌^◌, ◌<◌, ℕ, Bool, true, false}
use Rattle.std.specs.Int.{bit_not}
use mir.Syntax.{w64}
use Rattle.core_views.specs.declared.kind.Kind.{Kind}
use Rattle.core_views.specs.declared.kind.StepKind.{StepKind}
use Rattle.core_views.specs.declared.kind.StepKind.TheVariants as kind
use Rattle.core_views.specs.declared.topics.TableWalk.{TableWalk}
use Rattle.core_views.specs.declared.topics.Topics.{Topics}
use Rattle.core_views.specs.Held.{Held}
use Rattle.core_views.specs.Sizes.{index_of}
use Rattle.spte_words.specs.declared.area.Area.{Area}
use Rattle.spte_words.specs.declared.area.Area.TheVariants as area
use Rattle.spte_words.specs.Areas.{pool_index, size_of}
use Rattle.spte_words.specs.Entries.{write_bit}
use Rattle.spte_words.specs.HostWords.{with_presence}
use Rattle.part_steps.specs.declared.task.Task.{Task}
use Rattle.part_steps.specs.declared.part_step.PartStep.{PartStep}
use Rattle.part_steps.specs.declared.part_step.PartStep.TheVariants as part
pub use Rattle.part_steps.specs.HeldNumbers.{is_below, number_or_none, page_retired, page_owned, role_filled, set_held, word_looked, words_filled}
pub use Rattle.part_steps.specs.EntryWords.{entry_index, leaf_fixed, leaf_written, link_written, puts_write, table_page}
pub use Rattle.part_steps.specs.InvalidationRange.{page_looked}
pub use Rattle.part_steps.specs.PageTasks.{changes_next, looks_on, page_to_change, word_next, word_to_give}
use Rattle.part_steps.specs.SlotWords.{page_of, slot_index}
use Rattle.part_steps.specs.Tasks.{kind_of_task, loads, map_of}
use Rattle.part_steps.specs.FrameTopics.{frame_owned, word_held}
use Rattle.part_steps.specs.PageTopics.{tried_bit}
use Rattle.part_steps.specs.ControlBits.{guest_bits, request_bit, section_bit, writer}
use Rattle.part_steps.specs.SweepTopics.{at_top, gone_up}

-- the number that keeps all bits but these
abbrev pub all_but : ℕ → ℕ
all_but bits = bit_not w64 bits

-- the host page behind the guest frame for which a mark is owed
abbrev pub page_owed : Topics → ℕ
page_owed t = page_of t.search.slot (number_or_none t.owed)

-- an exchange of a guest frame's entry in the table that the walk has come to, where it is as it was loaded
abbrev pub entry_task : ℕ → ℕ → TableWalk → ℕ → Task
entry_task gfn new_ walk note = record {
  kind = kind.Swap;
  area = area.Pool;
  index = pool_index (table_page walk) (entry_index gfn walk.level);
  expected = walk.entry;
  written = new_;
  may_end = note;
}

-- a step that stores, or an operation with this number
abbrev pub works : StepKind → Area → ℕ → ℕ → ℕ → Task
works k a index written note = record { kind = k; area = a; index = index; expected = 0; written = written; may_end = note }

-- an exchange of the host word that was looked up
abbrev pub exchanges_host : StepKind → ℕ → Topics → ℕ → Task
exchanges_host k new_ t note =
    record { kind = k; area = area.Host; index = page_looked t.host; expected = word_looked t.host; written = new_; may_end = note }

-- a store of an end of the range of open invalidations, into which this end of the actor's own one went
abbrev pub stores_bound : Area → ℕ → ℕ → ℕ → Task
stores_bound a bound gfn note = record { kind = kind.Set; area = a; index = 0; expected = bound; written = gfn; may_end = note }

-- The step is on the actor's own state word.
abbrev pub is_own_state : PartStep → Bool
is_own_state part.Enter = true
is_own_state part.Leave = true
is_own_state part.Begin = true
is_own_state part.End = true
is_own_state _ = false

-- what the step does for the actor at a place, that holds these topics
abbrev pub part_task : PartStep → ℕ → Topics → ℕ → Task
part_task part.Enter own t note = works kind.Enter area.State own guest_bits note
part_task part.Leave own t note = works kind.Leave area.State own (all_but guest_bits) note
part_task part.Pause own t note = loads kind.Control area.Pause 0 note
part_task part.Begin own t note = works kind.Begin area.State own section_bit note
part_task part.End own t note = works kind.End area.State own (all_but section_bit) note
part_task part.Share own t note = works kind.Share area.Lock 0 1 note
part_task part.Unshare own t note = works kind.Unshare area.Lock 0 1 note
part_task part.Exclude own t note = works kind.Exclude area.Lock 0 writer note
part_task part.Release own t note = works kind.Release area.Lock 0 (all_but writer) note
part_task (part.Map word) own t note = loads kind.Control area.PoolMap word note
part_task part.Claim own t note = works kind.Claim area.PoolMap t.claim.at (all_but (2 ^ tried_bit t.claim)) note
part_task (part.Fill value) own t note = works kind.Fill area.Pool (pool_index (page_owned t.owned) (words_filled t.owned)) value note
part_task (part.Role value) own t note = works kind.Fill area.Role (page_owned t.owned) value note
part_task part.Give own t note = works kind.Give area.PoolMap (page_owned t.owned / 64) (2 ^ (page_owned t.owned % 64)) note
part_task part.Slots own t note = loads kind.Control area.Slots 0 note
part_task part.Slot own t note = loads kind.Slot area.Pool (slot_index (set_held t.search.set) t.search.id t.search.next) note
part_task part.Seq own t note = loads kind.Control area.Seq 0 note
part_task part.Count own t note = loads kind.Control area.Count 0 note
part_task part.RangeStart own t note = loads kind.Control area.RangeStart 0 note
part_task part.RangeEnd own t note = loads kind.Control area.RangeEnd 0 note
part_task part.Root own t note = loads kind.Control area.Root 0 note
part_task (part.Walk gfn) own t note = loads kind.Walk area.Pool (pool_index (table_page t.walk) (entry_index gfn t.walk.level)) note
part_task (part.Sweep gfn) own t note =
    loads kind.Walk area.Pool (pool_index (table_page (gone_up t.walk)) (entry_index gfn (gone_up t.walk).level)) note
part_task (part.WalkAnew gfn) own t note = loads kind.Walk area.Pool (pool_index (table_page (at_top t.walk)) (entry_index gfn 4)) note
part_task (part.Link gfn) own t note = entry_task gfn (link_written t) t.walk note
part_task (part.Leaf gfn write) own t note = entry_task gfn (leaf_written gfn write t) t.walk note
part_task (part.Fix gfn) own t note = entry_task gfn (leaf_fixed t) t.walk note
part_task part.Mark own t note = works kind.Mark area.Log (page_owed t / 64) (2 ^ (page_owed t % 64)) note
part_task (part.Host page) own t note = loads kind.Host area.Host page note
part_task (part.HostOn page) own t note = looks_on page note
part_task (part.Watch index) own t note = loads kind.Watch area.State index note
part_task part.Publish own t note = works kind.Publish area.Slots 0 (page_owned t.owned) note
part_task part.Clear own t note = works kind.Fill area.Role (page_retired t.retired) 0 note
part_task part.GiveOld own t note = works kind.Give area.PoolMap (page_retired t.retired / 64) (2 ^ (page_retired t.retired % 64)) note
part_task (part.SetStart first gfn) own t note = stores_bound area.RangeStart first gfn note
part_task (part.SetEnd last gfn) own t note = stores_bound area.RangeEnd last gfn note
part_task (part.SetCount count) own t note = works kind.Set area.Count 0 count note
part_task (part.SetSeq seq) own t note = works kind.Set area.Seq 0 seq note
part_task (part.Zap gfn) own t note = works kind.Zap area.Pool (pool_index (table_page t.walk) (entry_index gfn t.walk.level)) 0 note
part_task (part.Ask index) own t note = works kind.Ask area.State index request_bit note
part_task (part.Await index) own t note = loads kind.Await area.State index note
part_task part.Bring own t note = exchanges_host kind.Bring (with_presence true (word_looked t.host)) t note
part_task (part.Change new_) own t note = exchanges_host kind.Change new_ t note
part_task part.ChangeNext own t note = changes_next t.invalidations.own.pages note
part_task (part.FrameMap word) own t note = loads kind.Control area.FrameMap word note
part_task part.Frame own t note = works kind.Frame area.FrameMap t.frames.claim.at (all_but (2 ^ tried_bit t.frames.claim)) note
part_task (part.Copy index) own t note = loads kind.Copy area.Content index note
part_task (part.Store index) own t note = works kind.Fill area.Content index (word_held t.frames.owned) note
part_task part.GiveFrame own t note =
    works kind.Unframe area.FrameMap (frame_owned t.frames.owned / 64) (2 ^ (frame_owned t.frames.owned % 64)) note
part_task (part.Take word mask) own t note = works kind.Take area.Log word (all_but mask) note
part_task (part.Protect gfn) own t note =
    works kind.Protect area.Pool (pool_index (table_page t.walk) (entry_index gfn t.walk.level)) (all_but write_bit) note
part_task (part.Peek word) own t note = loads kind.Peek area.Log word note
part_task (part.Arm word bits) own t note = works kind.Arm area.Log word bits note

-- the place of the hand's actor
abbrev pub own_index : Held → ℕ
own_index h = index_of h.state.sizes h.state.actor

-- the step as the words of the machine see it
abbrev pub part_kind : Held → PartStep → ℕ → Kind
part_kind h step note = kind_of_task h.state.sizes (part_task step (own_index h) h.topics note)

-- The step's word is one of its area.
abbrev pub IsWithin : Held → PartStep → Type 0
IsWithin h step = (part_task step (own_index h) h.topics 0).index < size_of (map_of h.state.sizes) (part_task step (own_index h) h.topics 0).area
