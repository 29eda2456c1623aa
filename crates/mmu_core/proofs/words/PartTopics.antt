-- What an actor holds after each step of a part: the topics of the step, written out.
use Rattle.std.proofs.Common.{◌≡◌, ◌+◌, ◌-◌, ◌<◌, ◌≤◌, ℕ, refl, sym, subst, ap, ◌∙◌, arith}
use Rattle.std.specs.Prelude.{not, Bool, true, false, ◌==◌, ◌&&◌, ◌||◌, if◌then◌else◌, Some, None, is_some}
use Rattle.std.proofs.lemmas.Bool.Decides.{nat_tests}
use Rattle.core_views.specs.declared.sizes.Sizes.{Sizes}
use Rattle.core_views.specs.declared.kind.StepKind.TheVariants as kind
use Rattle.core_views.specs.declared.topics.Hold.{Hold}
use Rattle.core_views.specs.declared.topics.Hold.TheVariants.{Exclusive}
use Rattle.core_views.specs.declared.topics.Stay.{Stay}
use Rattle.core_views.specs.declared.topics.Stay.TheVariants.{Outside}
use Rattle.core_views.specs.declared.topics.TableWalk.{TableWalk}
use Rattle.core_views.specs.declared.topics.Topics.{Topics}
use Rattle.core_views.specs.Held.{Held}
use Rattle.spte_words.specs.declared.area.Area.TheVariants as area
use Rattle.spte_words.specs.Areas.{number_of, place, pool_index, words_of_bits}
use Rattle.spte_words.specs.Entries.{without_write}
use Rattle.spte_words.proofs.Indices.{pool_within}
use Rattle.part_steps.specs.declared.task.Task.{Task}
use Rattle.mmu_core.specs.forms.access.Cached.{flushed}
use Rattle.part_steps.specs.declared.part_step.PartStep.{PartStep}
use Rattle.part_steps.specs.declared.part_step.PartStep.TheVariants as part
use Rattle.part_steps.specs.PartTasks.{changes_next, entry_index, entry_task, leaf_written, link_written, part_task, table_page, word_looked, word_next}
use Rattle.part_steps.specs.PartTasks.{page_looked, page_retired, page_owned, words_filled, leaf_fixed}
use Rattle.part_steps.specs.PartSteps.{PartNeeds}
use Rattle.part_steps.specs.PartTopics.{changed_host, exchanged, part_topics, exchanged_host}
use Rattle.mmu_core.specs.machine.Steps.{idle_after}
use Rattle.mmu_core.proofs.words.MapTopics.{filled_topics, frame_map_topics, lone_is, map_topics, stored_topics}
pub use Rattle.mmu_core.proofs.words.MapTopics.{map_end, map_word_at}
use Rattle.part_steps.specs.Tasks.{kind_of_task, loads, map_of}
use Rattle.part_steps.specs.StayTopics.{is_alone, is_outside}
use Rattle.part_steps.specs.SweepTopics.{at_top, gone_up, has_entry, is_sweeping, walk_on, walks_anew}
use Rattle.part_steps.specs.WalkTopics.{is_in_table, still_owned, swapped, walked, gone_down, owed_after}
use Rattle.part_steps.specs.ControlBits.{in_section}
use Rattle.part_steps.specs.ControlBits.{has_to_flush}
use Rattle.part_steps.specs.PageRuns.{is_several, looked_on, one_look}
use Rattle.part_steps.specs.TopicSteps.{host_begins, index_in_page, log_begins, page_changed, run_changed, topics_after}
use Rattle.mmu_core.proofs.words.RunSpans.{several_is}
use Rattle.mmu_core.specs.machine.View.{View, answer_in, part_stepped, upd, words_after}
use Rattle.mmu_core.proofs.machine.PartStepping.{IsPart}
use Rattle.spte_words.specs.HostWords.{with_presence}

-- the word of a map that the step loads, if it does, is there; the page that it fills, or whose role it stores; and the table whose entry it loads,
-- exchanges or zaps, or in which it forbids writes
abbrev pub IsThere : Sizes → Topics → PartStep → Type 0
IsThere z t (part.Map word) = word < words_of_bits z.pool
IsThere z t (part.FrameMap word) = word < words_of_bits z.frames
IsThere z t (part.Fill value) = (page_owned t.owned < z.pool) × (words_filled t.owned < 512)
IsThere z t (part.Role value) = page_owned t.owned < z.pool
IsThere z t part.Clear = page_retired t.retired < z.pool
IsThere z t (part.Walk gfn) = (1 ≤ t.walk.level) × (is_sweeping t ≡ false) × (walks_anew t ≡ false)
IsThere z t (part.WalkAnew gfn) = (1 ≤ t.walk.level) × (is_sweeping t ≡ false) × (walks_anew t ≡ true)
IsThere z t (part.Sweep gfn) = (1 ≤ t.walk.level) × (is_sweeping t ≡ true)
IsThere z t (part.Link gfn) = 1 ≤ t.walk.level
IsThere z t (part.Leaf gfn write) = 1 ≤ t.walk.level
IsThere z t (part.Fix gfn) = 1 ≤ t.walk.level
IsThere z t (part.Zap gfn) = 1 ≤ t.walk.level
IsThere z t (part.Protect gfn) = 1 ≤ t.walk.level
IsThere z t (part.Change new_) = is_several t.invalidations.own.pages ≡ false
IsThere z t part.ChangeNext = is_several t.invalidations.own.pages ≡ true
IsThere z t _ = Unit {0}

state_place : (z : Sizes) (i : ℕ) → place (map_of z) area.State i - number_of area.State ≡ i
unfolding place
state_place z i = omega arith

-- a word of a pool page stands at its own place in the page, and a host word after the first one
in_its_page : (z : Sizes) (page j : ℕ) → j < 512 → index_in_page z (place (map_of z) area.Pool (pool_index page j)) ≡ j
unfolding place pool_index
in_its_page z page j low = omega (arith, low)

behind_log : (z : Sizes) (word : ℕ) → place (map_of z) area.Log word - log_begins z ≡ word
unfolding place
behind_log z word = omega arith

behind_host : (z : Sizes) (page : ℕ) → place (map_of z) area.Host page - host_begins z ≡ page
unfolding place
behind_host z page = omega arith

in_table : (walk : TableWalk) → 1 ≤ walk.level → is_in_table walk ≡ true
in_table walk from = grind (arith, nat_tests)

-- the walk from which the next entry is loaded, by whether the actor sweeps
walks_from : (t : Topics) (b : Bool) → is_sweeping t ≡ b
    → walk_on t ≡ (if b then gone_up t.walk else if walks_anew t then at_top t.walk else t.walk)
walks_from t b is = ap (λ (x : Bool). if x then gone_up t.walk else if walks_anew t then at_top t.walk else t.walk) is

-- a load or an exchange of an entry, where the walk has come to a table
walk_topics : (z : Sizes) (gfn : ℕ) (walk : TableWalk) (t : Topics) (note v : ℕ) → 1 ≤ t.walk.level → walk_on t ≡ walk
    → topics_after z (kind_of_task z (loads kind.Walk area.Pool (pool_index (table_page walk) (entry_index gfn walk.level)) note)) t v
    ≡ record t { walk = walked walk (entry_index gfn walk.level) v }
unfolding topics_after
walk_topics z gfn walk t note v from on =
    ap (λ (b : Bool). record t {
      walk = if b then walked (walk_on t) (index_in_page z (place (map_of z) area.Pool (pool_index (table_page walk) (entry_index gfn walk.level)))) v
          else t.walk;
    }) (in_table t.walk from)
    ∙ ap (λ i. record t { walk = walked (walk_on t) i v }) (in_its_page z (table_page walk) (entry_index gfn walk.level) (omega arith))
    ∙ ap (λ (w : TableWalk). record t { walk = walked w (entry_index gfn walk.level) v }) on

swap_topics : (z : Sizes) (gfn new_ note : ℕ) (t : Topics) (v : ℕ) → 1 ≤ t.walk.level
    → topics_after z (kind_of_task z (entry_task gfn new_ t.walk note)) t v ≡ exchanged (v == t.walk.entry) (entry_index gfn t.walk.level) new_ t v
unfolding topics_after
swap_topics z gfn new_ note t v from =
    ap (λ (b : Bool). record t {
      walk =
          if b then swapped (v == t.walk.entry) t.walk
          (index_in_page z (place (map_of z) area.Pool (pool_index (table_page t.walk) (entry_index gfn t.walk.level)))) new_ v else t.walk;
      owned = if b then still_owned (v == t.walk.entry) t.walk new_ t.owned else t.owned;
      owed =
          if b then owed_after (v == t.walk.entry) t.search.logged t.walk
          (index_in_page z (place (map_of z) area.Pool (pool_index (table_page t.walk) (entry_index gfn t.walk.level)))) new_ t.owed else t.owed;
    }) (in_table t.walk from)
    ∙ ap (λ i. exchanged (v == t.walk.entry) i new_ t v) (in_its_page z (table_page t.walk) (entry_index gfn t.walk.level) (omega arith))

-- an entry that was zapped, or in which writes were forbidden: x stands there
left_topics : (z : Sizes) (gfn x : ℕ) (t : Topics) → 1 ≤ t.walk.level
    → record t {
      walk = if is_in_table t.walk then gone_down None t.walk
          (index_in_page z (place (map_of z) area.Pool (pool_index (table_page t.walk) (entry_index gfn t.walk.level)))) x else t.walk;
    }
    ≡ record t { walk = gone_down None t.walk (entry_index gfn t.walk.level) x }
left_topics z gfn x t from =
    ap (λ (b : Bool). record t {
      walk = if b then gone_down None t.walk
          (index_in_page z (place (map_of z) area.Pool (pool_index (table_page t.walk) (entry_index gfn t.walk.level)))) x else t.walk;
    }) (in_table t.walk from)
    ∙ ap (λ i. record t { walk = gone_down None t.walk i x }) (in_its_page z (table_page t.walk) (entry_index gfn t.walk.level) (omega arith))

host_topics : (z : Sizes) (new_ : ℕ) (t : Topics) (v : ℕ)
    → record t {
      host = Some (record { page = place (map_of z) area.Host (page_looked t.host) - host_begins z; word = if v == word_looked t.host then new_ else v });
      row = one_look;
    }
    ≡ exchanged_host new_ t v
host_topics z new_ t v =
    ap (λ p. record t { host = Some (record { page = p; word = if v == word_looked t.host then new_ else v }); row = one_look })
    (behind_host z (page_looked t.host))

changed_topics : (z : Sizes) (new_ : ℕ) (t : Topics) (v : ℕ) → is_several t.invalidations.own.pages ≡ false
    → (if is_several t.invalidations.own.pages then run_changed (v == word_looked t.host) t else record (changed_host new_ t v) {
      host = Some (record { page = place (map_of z) area.Host (page_looked t.host) - host_begins z; word = if v == word_looked t.host then new_ else v });
    })
    ≡ changed_host new_ t v
changed_topics z new_ t v single =
    ap (λ (b : Bool). if b then run_changed (v == word_looked t.host) t else record (changed_host new_ t v) {
      host = Some (record { page = place (map_of z) area.Host (page_looked t.host) - host_begins z; word = if v == word_looked t.host then new_ else v });
    }) single
    ∙ ap (λ p. record (changed_host new_ t v) { host = Some (record { page = p; word = if v == word_looked t.host then new_ else v }) })
    (behind_host z (page_looked t.host))

-- The topics after a step are those written out above.
pub part_topics_is : (z : Sizes) (step : PartStep) (own : ℕ) (t : Topics) (note v : ℕ) → IsThere z t step
    → topics_after z (kind_of_task z (part_task step own t note)) t v ≡ part_topics step t v
unfolding topics_after place
part_topics_is z part.Pause own t note v there = lone_is z 7 t v (omega arith)
part_topics_is z (part.Map word) own t note v there = map_topics z own word t note v there
part_topics_is z part.Slots own t note v there = lone_is z 1 t v (omega arith)
part_topics_is z part.Seq own t note v there = lone_is z 2 t v (omega arith)
part_topics_is z part.Count own t note v there = lone_is z 3 t v (omega arith)
part_topics_is z part.RangeStart own t note v there = lone_is z 4 t v (omega arith)
part_topics_is z part.RangeEnd own t note v there = lone_is z 5 t v (omega arith)
part_topics_is z part.Root own t note v there = lone_is z 0 t v (omega arith)
part_topics_is z (part.Walk gfn) own t note v there =
    walk_topics z gfn t.walk t note v there.0 (walks_from t false there.1 ∙ ap (λ (b : Bool). if b then at_top t.walk else t.walk) there.2)
part_topics_is z (part.Sweep gfn) own t note v there = walk_topics z gfn (gone_up t.walk) t note v there.0 (walks_from t true there.1)
part_topics_is z (part.WalkAnew gfn) own t note v there =
    walk_topics z gfn (at_top t.walk) t note v there.0 (walks_from t false there.1 ∙ ap (λ (b : Bool). if b then at_top t.walk else t.walk) there.2)
part_topics_is z (part.Link gfn) own t note v there = swap_topics z gfn (link_written t) note t v there
part_topics_is z (part.Leaf gfn write) own t note v there = swap_topics z gfn (leaf_written gfn write t) note t v there
part_topics_is z (part.Fix gfn) own t note v there = swap_topics z gfn (leaf_fixed t) note t v there
part_topics_is z (part.Host page) own t note v there =
    ap (λ p. record t { host = Some (record { page = p; word = v }); row = one_look }) (behind_host z page)
part_topics_is z (part.HostOn page) own t note v there = ap (λ p. record t { row = looked_on t.host t.row p v }) (behind_host z page)
part_topics_is z (part.Watch index) own t note v there = ap (λ i. record t { watched = i + (if in_section v then 0 else 1) }) (state_place z index)
part_topics_is z (part.Zap gfn) own t note v there = left_topics z gfn 0 t there
part_topics_is z (part.Arm word bits) own t note v there = ap (λ i. record t { next_log_word = i + 1 }) (behind_log z word)
part_topics_is z (part.Take word mask) own t note v there = ap (λ i. record t { next_log_word = i + 1 }) (behind_log z word)
part_topics_is z (part.Peek word) own t note v there = ap (λ i. record t { next_log_word = i + 1 }) (behind_log z word)
part_topics_is z (part.Protect gfn) own t note v there = left_topics z gfn (without_write t.walk.entry) t there
part_topics_is z (part.Ask index) own t note v there = ap (λ i. record t { flush = record t.flush { asked = i + 1 } }) (state_place z index)
part_topics_is z (part.Await index) own t note v there = ap (λ i. record t { flush = record t.flush { awaited = i + (if has_to_flush v then 0 else 1) } })
    (state_place z index)
part_topics_is z part.Bring own t note v there = host_topics z (with_presence true (word_looked t.host)) t v
part_topics_is z (part.Change new_) own t note v there = changed_topics z new_ t v there
part_topics_is z part.ChangeNext own t note v there =
    ap (λ (b : Bool). if b then run_changed (v == word_next t.invalidations.own.pages) t
    else page_changed z (kind_of_task z (changes_next t.invalidations.own.pages note)) t v) there
part_topics_is z (part.Fill value) own t note v there =
    filled_topics z area.Pool (pool_index (page_owned t.owned) (words_filled t.owned)) t v (omega arith)
    (pool_within (map_of z) (page_owned t.owned) (words_filled t.owned) there.0 there.1)
part_topics_is z (part.Role value) own t note v there = filled_topics z area.Role (page_owned t.owned) t v (omega arith) there
part_topics_is z part.Clear own t note v there = filled_topics z area.Role (page_retired t.retired) t v (omega arith) there
part_topics_is z (part.FrameMap word) own t note v there = frame_map_topics z own word t note v there
part_topics_is z (part.Store index) own t note v there = stored_topics z index t v
part_topics_is z _ own t note v there = refl

-- the hand after the step, by the actor at this place
abbrev pub part_hand : PartStep → ℕ → ℕ → Held → ℕ → Held
part_hand step own note h v = record {
  state = h.state;
  topics = part_topics step h.topics v;
  cached = flushed (kind_of_task h.state.sizes (part_task step own h.topics note)) h.cached v;
  slots = h.slots;
  harvest = h.harvest;
  lines = h.lines;
  answers = h.answers;
}

-- what the step of actor a makes of the words and hands
abbrev pub part_behind : ℕ → PartStep → ℕ → View → View
part_behind a step note v =
    let t : Task = part_task step a (v.hand a).topics note in
    record { words = words_after t v.words; hand = upd v.hand a (part_hand step a note (v.hand a) (answer_in t v.words)) }

-- the hand of actor a then
abbrev pub stepped_hand : ℕ → PartStep → ℕ → View → Held
stepped_hand a step note v = part_hand step a note (v.hand a) (answer_in (part_task step a (v.hand a).topics note) v.words)

-- Who is in the guest or in a section sweeps nothing.
pub no_sweep : {s : Stay} (t : Topics) → t.stay ≡ s → is_outside s ≡ false → is_sweeping t ≡ false
no_sweep {s} t stay inside =
    ap (λ (x : Stay). is_outside x && (is_alone t.hold && (t.invalidations.opened || is_some t.retired))) stay
    ∙ ap (λ (b : Bool). b && (is_alone t.hold && (t.invalidations.opened || is_some t.retired))) inside

-- Nor does its walk begin anew.
pub no_anew : {s : Stay} (t : Topics) → t.stay ≡ s → is_outside s ≡ false → walks_anew t ≡ false
no_anew {s} t stay inside =
    ap (λ (x : Stay). is_outside x && (is_alone t.hold && (not (t.invalidations.opened || is_some t.retired) && has_entry t.walk))) stay
    ∙ ap (λ (b : Bool). b && (is_alone t.hold && (not (t.invalidations.opened || is_some t.retired) && has_entry t.walk))) inside

-- Who has the lock alone, outside, with none of these: it sweeps nothing; and its walk begins anew once an entry was loaded that leads no further.
pub sweeps_not : (t : Topics) → (t.invalidations.opened || is_some t.retired) ≡ false → is_sweeping t ≡ false
sweeps_not t neither = ap (λ (b : Bool). is_outside t.stay && (is_alone t.hold && b)) neither ∙ none (is_outside t.stay) (is_alone t.hold)
  where
    none : (x y : Bool) → (x && (y && false)) ≡ false
    none true true = refl
    none true false = refl
    none false y = refl

pub begins_anew : (t : Topics) → t.stay ≡ Outside → t.hold ≡ Exclusive → (t.invalidations.opened || is_some t.retired) ≡ false
    → walks_anew t ≡ has_entry t.walk
begins_anew t outside alone neither =
    ap (λ (s : Stay). is_outside s && (is_alone t.hold && (not (t.invalidations.opened || is_some t.retired) && has_entry t.walk))) outside
    ∙ ap (λ (k : Hold). is_alone k && (not (t.invalidations.opened || is_some t.retired) && has_entry t.walk)) alone
    ∙ ap (λ (b : Bool). not b && has_entry t.walk) neither

-- Who has the lock alone, outside, with its own invalidation open or a retired page sweeps.
pub sweeps : (t : Topics) → t.stay ≡ Outside → t.hold ≡ Exclusive → (t.invalidations.opened || is_some t.retired) ≡ true → is_sweeping t ≡ true
sweeps t outside alone either =
    ap (λ (s : Stay). is_outside s && (is_alone t.hold && (t.invalidations.opened || is_some t.retired))) outside
    ∙ ap (λ (k : Hold). is_alone k && (t.invalidations.opened || is_some t.retired)) alone ∙ either

-- The step makes of the words and hands what is written out above.
pub is_there : (step : PartStep) (h : Held) → PartNeeds step h → IsThere h.state.sizes h.topics step
is_there (part.Map word) h N = N.1
is_there (part.FrameMap word) h N = N.1
is_there (part.Fill value) h N = (N.2, N.0.1)
is_there (part.Role value) h N = N.2
is_there part.Clear h N = N.in_pool
is_there (part.Walk gfn) h N = (N.0.there, N.1, N.2)
is_there (part.WalkAnew gfn) h N = (N.there, sweeps_not h.topics N.sweeps_not, begins_anew h.topics N.outside N.alone N.sweeps_not ∙ N.loaded)
is_there (part.Sweep gfn) h N = (N.there, sweeps h.topics N.outside N.alone N.sweeps)
is_there (part.Link gfn) h N = N.0.saw.over.there
is_there (part.Leaf gfn write) h N = N.0.saw.over.there
is_there (part.Fix gfn) h N = N.saw.over.there
is_there (part.Zap gfn) h N = N.saw.over.there
is_there (part.Protect gfn) h N = N.saw.over.there
is_there (part.Change new_) h N = ap is_several N.0.invalid
is_there part.ChangeNext h N = several_is h.topics.invalidations.own.pages N.run N.is N.several
is_there _ h N = tt

pub part_stepped_is : (z : Sizes) (v : View) (a : ℕ) (step : PartStep) (note : ℕ) → IsPart z v a step → part_stepped a step note v ≡ part_behind a step note v
part_stepped_is z v a step note S =
    ap (λ own. record {
      words = words_after (part_task step own (v.hand a).topics note) v.words;
      hand =
          upd v.hand a (idle_after (v.hand a) (kind_of_task (v.hand a).state.sizes (part_task step own (v.hand a).topics note))
          (answer_in (part_task step own (v.hand a).topics note) v.words));
    }) S.own_place
    ∙ ap (λ (t : Topics). record {
      words = words_after (part_task step a (v.hand a).topics note) v.words;
      hand = upd v.hand a (record {
        state = (v.hand a).state;
        topics = t;
        cached =
            flushed (kind_of_task (v.hand a).state.sizes (part_task step a (v.hand a).topics note)) (v.hand a).cached
            (answer_in (part_task step a (v.hand a).topics note) v.words);
        slots = (v.hand a).slots;
        harvest = (v.hand a).harvest;
        lines = (v.hand a).lines;
        answers = (v.hand a).answers;
      });
    }) (part_topics_is (v.hand a).state.sizes step a (v.hand a).topics note (answer_in (part_task step a (v.hand a).topics note) v.words)
    (is_there step (v.hand a) S.needs))

-- what holds after the step as it is written out holds after it
pub behind_step : (P : View → Type 0) (z : Sizes) (v : View) (a : ℕ) (step : PartStep) (note : ℕ) → IsPart z v a step → P (part_behind a step note v)
    → P (part_stepped a step note v)
behind_step P z v a step note S = subst P (sym (part_stepped_is z v a step note S))
