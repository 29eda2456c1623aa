-- At the start what holds of the machine's parts holds.
use Rattle.std.proofs.Common.{◌≡◌, inl, ◌<◌, ◌≤◌, ◌%◌, ℕ, List, refl, sym, subst, ap, ◌∙◌, arith}
use Rattle.std.proofs.lemmas.Bool.Decides.{nat_tests}
use Rattle.std.specs.Prelude.{Bool, true, false, ◌==◌, nat_le, nat_lt, Option, Some, None}
use Rattle.core_views.specs.declared.sizes.Sizes.{Sizes}
use Rattle.core_views.specs.declared.topics.OwnedPage.{OwnedPage}
use Rattle.core_views.specs.declared.topics.Topics.{Topics}
use Rattle.core_views.specs.declared.trace.Line.{Line}
use Rattle.core_views.specs.Held.{Held, first_topics}
use Rattle.core_views.specs.Sizes.{actors_of}
use Rattle.spte_words.specs.declared.area.Area.TheVariants as area
use Rattle.spte_words.specs.declared.spte_kind.SpteKind.TheVariants.{Leaf}
use Rattle.spte_words.specs.Areas.{pool_index}
use Rattle.spte_words.specs.Entries.{absent_word, kind_of}
use Rattle.spte_words.proofs.ReadsEntries.{kind_of_absent}
use Rattle.mmu_core.specs.machine.Enabled.{mmu}
use Rattle.part_steps.specs.PartBounds.{CountersPart}
use Rattle.mmu_core.specs.invariant.AreUsed.{AreUsed}
use Rattle.mmu_core.specs.invariant.FramesPart.{FramesPart, frame_looked}
use Rattle.mmu_core.specs.invariant.HeldPart.{HeldPart, PathPart}
use Rattle.mmu_core.specs.invariant.InvalidationsPart.{CheckedPart, CountPart, KnownRangePart, LoadedPart}
use Rattle.mmu_core.specs.invariant.LockPart.{LockPart, SawWriter, is_shared, readers, sharers, writers}
use Rattle.mmu_core.specs.machine.Machine.{World, hand_in}
use Rattle.part_steps.specs.PartSteps.{IsAtRest, counts}
use Rattle.mmu_core.specs.invariant.PoolPart.{UsePart, is_free, is_retired, is_owned, is_use, page_told}
use Rattle.mmu_core.specs.invariant.SearchPart.{LookPart, SearchPart}
use Rattle.mmu_core.specs.invariant.StatesPart.{stay_bits}
use Rattle.mmu_core.specs.machine.Sums.{one_if, sum_below}
use Rattle.mmu_core.specs.invariant.TopicsInvariant.{TopicsInvariant}
use Rattle.part_steps.specs.StayTopics.{is_alone}
use Rattle.mmu_core.specs.invariant.TreePart.{Position, TreePart, Use, stands}
use Rattle.mmu_core.specs.invariant.TreePart.Use.{Free, OldSet, Outside, Owned, Root, SlotSet, Under}
use Rattle.mmu_core.specs.machine.View.{view, word_in}
use Rattle.mmu_core.specs.machine.Worlds.{IsStart, free_bits}
use Rattle.mmu_core.proofs.held.KeptEmpty.{empty_open}
use Rattle.mmu_core.proofs.start.StartWords.{bits_behind, bits_below, bits_inside, frame_word, hand_is, map_word, pool_word, word_at_start}
use Rattle.mmu_core.proofs.machine.SumsBelow.{sum_none}
use Rattle.mmu_core.proofs.machine.ColumnsTell.{at_none, is_outside, no_outside, other}
use Rattle.mmu_core.specs.invariant.InvalidatedPart.{PassedPart}
use Rattle.spte_words.specs.HostWords.{host_frame}
use Rattle.spte_words.proofs.ReadsHost.{host_has_frame}
use Rattle.core_views.specs.declared.topics.HostLook.{HostLook}
use Rattle.mmu_core.proofs.start.StartFrames.{start_frames, start_use}
use Rattle.mmu_core.proofs.start.StartHosts.{host_at_start, hosts_start, levels_start, small_runs}
use Rattle.mmu_core.proofs.start.StartPages.{each_page, none_under, only_zero, root_only, start_spot, start_up}
use Rattle.part_steps.specs.PartBounds.{IsLowRow}
use Rattle.mmu_core.specs.invariant.InvalidatedPart.{CollectedPart}

-- what actors hold of the parts: nothing
topics_are : (z : Sizes) (lines : List Line) (w : World Held) (i : ℕ) → IsStart z lines w → i < actors_of z → (hand_in mmu w i).topics ≡ first_topics
topics_are z lines w i start lt = ap (λ (h : Held). h.topics) (hand_is z lines w i start lt)

-- how many actors are of a kind of which none is at the start
none_counted : (z : Sizes) (lines : List Line) (w : World Held) (f : Topics → Bool) → IsStart z lines w → f first_topics ≡ false
    → sum_below (actors_of z) (λ i. one_if (f (hand_in mmu w i).topics)) ≡ 0
none_counted z lines w f start none = sum_none (actors_of z) (λ i. one_if (f (hand_in mmu w i).topics))
    (λ i lt. ap (λ (t : Topics). one_if (f t)) (topics_are z lines w i start lt) ∙ ap one_if none)

owns_none : (z : Sizes) (lines : List Line) (w : World Held) (i : ℕ) (o : OwnedPage) → IsStart z lines w → i < actors_of z
    → (hand_in mmu w i).topics.owned ≡ Some o → ⊥
owns_none z lines w i o start lt is =
    let e : (hand_in mmu w i).topics.owned ≡ None = ap (λ (t : Topics). t.owned) (topics_are z lines w i start lt) in absurd (cc (e, is))

retires_none : (z : Sizes) (lines : List Line) (w : World Held) (i k : ℕ) → IsStart z lines w → i < actors_of z → (hand_in mmu w i).topics.retired ≡ Some k → ⊥
retires_none z lines w i k start lt is =
    let e : (hand_in mmu w i).topics.retired ≡ None = ap (λ (t : Topics). t.retired) (topics_are z lines w i start lt) in absurd (cc (e, is))

holds_none : (z : Sizes) (lines : List Line) (w : World Held) (i k : ℕ) → IsStart z lines w → i < actors_of z → (hand_in mmu w i).topics.search.set ≡ Some k → ⊥
holds_none z lines w i k start lt is =
    let e : (hand_in mmu w i).topics.search.set ≡ None = ap (λ (t : Topics). t.search.set) (topics_are z lines w i start lt) in absurd (cc (e, is))

lock_start : (z : Sizes) (lines : List Line) (w : World Held) → IsStart z lines w
    → LockPart (actors_of z) (word_in z w area.Lock 0) (λ i. (hand_in mmu w i).topics.hold)
lock_start z lines w start =
    let lock : word_in z w area.Lock 0 ≡ 0 = word_at_start z w area.Lock 0 0 start.words (λ l. refl) (λ e. refl) in
    let reading : readers (actors_of z) (λ i. (hand_in mmu w i).topics.hold) ≡ 0 = none_counted z lines w (λ t. counts t.hold) start refl in
    let sharing : sharers (actors_of z) (λ i. (hand_in mmu w i).topics.hold) ≡ 0 = none_counted z lines w (λ t. is_shared t.hold) start refl in
    let writing : writers (actors_of z) (λ i. (hand_in mmu w i).topics.hold) ≡ 0 = none_counted z lines w (λ t. is_alone t.hold) start refl in
    record { word = omega (arith, lock, reading, writing); one = omega (arith, writing); alone = λ le. sharing }

state_start : (z : Sizes) (lines : List Line) (w : World Held) (i : ℕ) → IsStart z lines w → i < actors_of z
    → (word_in z w area.State i < 8) × (word_in z w area.State i % 4 ≡ stay_bits (hand_in mmu w i).topics.stay)
state_start z lines w i start lt =
    let word : word_in z w area.State i ≡ 0 = word_at_start z w area.State i 0 start.words (λ l. refl) (λ e. refl) in
    (omega (arith, word), ap (λ n. n % 4) word ∙ ap (λ (t : Topics). stay_bits t.stay) (sym (topics_are z lines w i start lt)))

root_start : (z : Sizes) (lines : List Line) (w : World Held) → IsStart z lines w → word_in z w area.Root 0 ≡ 0
root_start z lines w start = word_at_start z w area.Root 0 0 start.words (λ l. refl) (λ e. refl)

slots_start : (z : Sizes) (lines : List Line) (w : World Held) → IsStart z lines w → word_in z w area.Slots 0 ≡ 1
slots_start z lines w start = word_at_start z w area.Slots 0 1 start.words (λ l. refl) (λ e. absurd (cc e))

uses_start : (z : Sizes) (lines : List Line) (w : World Held) → IsStart z lines w → UsePart (actors_of z) z.pool (word_in z w area.Slots 0)
    (word_in z w area.PoolMap) (λ i. (hand_in mmu w i).topics.owned) (λ i. (hand_in mmu w i).topics.retired) (start_up z.pool)
uses_start z lines w start = record { told = by }
  where
    bits : (i : ℕ) → word_in z w area.PoolMap i ≡ free_bits 2 z.pool i
    bits i = map_word z w i start.sizes start.words

    by : AreUsed Use is_use (page_told (actors_of z) z.pool (word_in z w area.Slots 0) (word_in z w area.PoolMap) (λ i. (hand_in mmu w i).topics.owned)
        (λ i. (hand_in mmu w i).topics.retired) (start_up z.pool)) (start_up z.pool)
    by Free k =
        let map = word_in z w area.PoolMap in
        each_page z.pool k (λ u. is_free map k ≡ is_use Free u) (λ e. bits_below map 2 z.pool bits k (omega (arith, e)))
        (λ e. bits_below map 2 z.pool bits k (omega (arith, e))) (λ low lt. bits_inside map 2 z.pool bits k low lt)
        (λ low le. bits_behind map 2 z.pool bits k le)
    by (Owned i) k =
        at_none is_owned (actors_of z) (λ i. (hand_in mmu w i).topics.owned) i k
        (λ lt. ap (λ (t : Topics). is_owned t.owned k) (topics_are z lines w i start lt))
        ∙ each_page z.pool k (λ u. false ≡ is_use (Owned i) u) (λ e. refl) (λ e. refl) (λ low lt. refl) (λ low le. refl)
    by SlotSet k =
        ap (λ s. s == k) (slots_start z lines w start)
        ∙ each_page z.pool k (λ u. (1 == k) ≡ is_use SlotSet u) (λ e. ap (λ l. 1 == l) e) (λ e. ap (λ l. 1 == l) e)
        (λ low lt. other 1 k (λ e. omega (arith, e, low)))
        (λ low le. other 1 k (λ e. omega (arith, e, low)))
    by (OldSet i) k =
        at_none is_retired (actors_of z) (λ i. (hand_in mmu w i).topics.retired) i k
        (λ lt. ap (λ (t : Topics). is_retired t.retired k) (topics_are z lines w i start lt))
        ∙ each_page z.pool k (λ u. false ≡ is_use (OldSet i) u) (λ e. refl) (λ e. refl) (λ low lt. refl) (λ low le. refl)
    by Outside k =
        let two = start.sizes.pool.0 in
        each_page z.pool k (λ u. nat_le z.pool k ≡ is_use Outside u) (λ e. no_outside k z.pool (omega (arith, e, two)))
        (λ e. no_outside k z.pool (omega (arith, e, two))) (λ low lt. no_outside k z.pool lt) (λ low le. is_outside k z.pool le)
    by Root k = refl
    by (Under page entry) k = refl

absent_is : 0 ≡ absent_word
unfolding absent_word
absent_is = refl

-- The root has the role of level 4, and absent entries.
tree_start : (z : Sizes) (lines : List Line) (w : World Held) → IsStart z lines w
    → TreePart z.pool (word_in z w area.Root 0) (word_in z w area.Role) (word_in z w area.Pool) (start_up z.pool) start_spot
tree_start z lines w start = subst (λ r. TreePart z.pool r (word_in z w area.Role) (word_in z w area.Pool) (start_up z.pool)
    start_spot) (sym (root_start z lines w start)) (record {
      top = refl;
      only = λ k is. only_zero z.pool k is;
      top_at = refl;
      under = λ c k j is. absurd (none_under z.pool c k j is);
      there = λ k p is. let e = root_only z.pool k p is in let level : 4 ≡ p.level = ap (λ (q : Position). q.level) e.1 in
          (omega (arith, e.0, start.sizes.pool.0), omega (arith, level), omega (arith, level));
      roles = λ k p is. let e = root_only z.pool k p is in ap (word_in z w area.Role) (sym e.0) ∙ role ∙ ap (λ (q : Position). q.level) e.1;
      entries = λ k p is j low. inl (pool_word z w (pool_index k j) start.words ∙ absent_is);
    })
  where
    role : word_in z w area.Role 0 ≡ 4
    role = word_at_start z w area.Role 0 4 start.words (λ l. refl) (λ e. absurd (none e))
      where
        none : nat_lt 0 z.pool ≡ false → ⊥
        none e = let is : nat_lt 0 z.pool ≡ true = grind (arith, nat_tests, start.sizes.pool.0) in absurd (cc (e, is))

held_first : (stands : ℕ → Option Position) → HeldPart stands first_topics
held_first stands = record { table = λ from. absurd (omega (arith, from)); no_table = λ e. refl; no_set = λ e. refl }

search_first : (pool : ℕ → ℕ) → SearchPart pool first_topics.search
search_first pool =
    record {
      listed = tt;
      loaded = λ k e. tt;
      whole = λ k e whole. absurd (cc whole);
      held = λ whole. absurd (cc whole);
      before_flags = λ whole. refl;
      flags = λ k e whole. absurd (cc whole);
    }

look_first : (z : Sizes) (n seq : ℕ) (host : ℕ → ℕ) (topics : ℕ → Topics) → LookPart z n seq host topics first_topics
look_first z n seq host topics =
    record { there = λ look e. absurd (cc e); is_word = λ look e. absurd (cc e); still = λ look s e. absurd (cc e); snapshot = λ s e. absurd (cc e) }

frames_start : (z : Sizes) (lines : List Line) (w : World Held) → IsStart z lines w
    → FramesPart z (actors_of z) (word_in z w area.FrameMap) (word_in z w area.Host) (λ i. (hand_in mmu w i).topics.frames.owned)
    (start_use z.pages z.frames)
frames_start z lines w start =
    start_frames z (actors_of z) (word_in z w area.FrameMap) (word_in z w area.Host) (λ i. (hand_in mmu w i).topics.frames.owned) start.sizes.frames.0
    (λ i. frame_word z w i start.sizes start.words)
    (λ p lt. ap host_frame (host_at_start z w p start.words lt) ∙ host_has_frame p true true 1 (omega arith))
    (λ i lt. ap (λ (t : Topics). t.frames.owned) (topics_are z lines w i start lt))

looks_none : (z : Sizes) (lines : List Line) (w : World Held) (i : ℕ) (look : HostLook) → IsStart z lines w → i < actors_of z
    → (hand_in mmu w i).topics.host ≡ Some look → ⊥
looks_none z lines w i look start lt is =
    let none : (hand_in mmu w i).topics.host ≡ None = ap (λ (t : Topics). t.host) (topics_are z lines w i start lt) in cc (none, is)

looked_none : (z : Sizes) (lines : List Line) (w : World Held) (i k : ℕ) → IsStart z lines w → i < actors_of z
    → frame_looked (hand_in mmu w i).topics.host (hand_in mmu w i).topics.stay ≡ Some k → ⊥
looked_none z lines w i k start lt is =
    let none : frame_looked (hand_in mmu w i).topics.host (hand_in mmu w i).topics.stay ≡ None
    = ap (λ (t : Topics). frame_looked t.host t.stay) (topics_are z lines w i start lt) in
    cc (none, is)

counters_first : (z : Sizes) → CountersPart z first_topics
counters_first z = record {
  slots = omega arith;
  claim = omega arith;
  seen = omega arith;
  watched = omega arith;
  span = λ from. absurd (omega (arith, from));
  entry = omega arith;
  counted = omega arith;
  seq = omega arith;
  asked = omega arith;
  range = (omega arith, omega arith);
  frames = record { claim = omega arith; seen = omega arith; filled = omega arith; copied = omega arith };
}

checked_first : (count start end_ seq : ℕ) → CheckedPart count start end_ seq first_topics
checked_first count start end_ seq = record {
  counted = λ lock. absurd (cc lock);
  started = λ lock. absurd (cc lock);
  ended = λ lock. absurd (cc lock);
  numbered = λ lock. absurd (cc lock);
}

loaded_first : (pool : ℕ → ℕ) → LoadedPart pool first_topics
loaded_first pool = λ alone. absurd (cc alone)

-- No invalidation is open, and none has ended.
count_start : (z : Sizes) (lines : List Line) (w : World Held) → IsStart z lines w
    → CountPart (actors_of z) (word_in z w area.Count 0) (λ i. (hand_in mmu w i).topics.invalidations.opened)
count_start z lines w start = word_at_start z w area.Count 0 0 start.words (λ l. refl) (λ e. refl)
    ∙ sym (none_counted z lines w (λ t. t.invalidations.opened) start refl)

pub seq_start : (z : Sizes) (lines : List Line) (w : World Held) → IsStart z lines w → word_in z w area.Seq 0 ≡ 0
seq_start z lines w start = word_at_start z w area.Seq 0 0 start.words (λ l. refl) (λ e. refl)

pub rest_first : IsAtRest first_topics
rest_first = record { outside = refl; loose = refl; owns_none = refl; owes_none = refl; no_table = refl; no_set = refl }

pub none_open_yet : (z : Sizes) (lines : List Line) (w : World Held) (i : ℕ) → IsStart z lines w → i < actors_of z
    → (hand_in mmu w i).topics.invalidations.opened ≡ true → ⊥
none_open_yet z lines w i start lt is =
    let closed : (hand_in mmu w i).topics.invalidations.opened ≡ false = ap (λ (t : Topics). t.invalidations.opened) (topics_are z lines w i start lt) in
    cc (is, closed)

-- Nobody has come to a table.
walks_none : (z : Sizes) (lines : List Line) (w : World Held) (i : ℕ) → IsStart z lines w → i < actors_of z
    → 1 ≤ (hand_in mmu w i).topics.walk.level → ⊥
walks_none z lines w i start lt from =
    let none : (hand_in mmu w i).topics.walk.level ≡ 0 = ap (λ (t : Topics). t.walk.level) (topics_are z lines w i start lt) in omega (arith, none, from)

pub start_topics : (z : Sizes) (lines : List Line) (w : World Held) → IsStart z lines w → TopicsInvariant z (view z w)
start_topics z lines w start = record {
  up = start_up z.pool;
  spot = start_spot;
  use_of = start_use z.pages z.frames;
  lock_part = lock_start z lines w start;
  saw_writer = λ i lt. subst (λ (t : Topics). SawWriter t.hold) (sym (topics_are z lines w i start lt)) tt;
  states_part = λ i lt. state_start z lines w i start lt;
  uses = uses_start z lines w start;
  filled = λ i o lt is. absurd (owns_none z lines w i o start lt is);
  tree = tree_start z lines w start;
  leaves = λ table entry gfn R O leaf. absurd (no_leaf (start_spot table).level table entry leaf);
  held =
      λ i lt. subst (HeldPart (stands (start_up z.pool) start_spot)) (sym (topics_are z lines w i start lt)) (held_first (stands (start_up z.pool) start_spot));
  paths = λ i lt. subst (λ (t : Topics). PathPart (stands (start_up z.pool) start_spot) t.walk) (sym (topics_are z lines w i start lt))
      (λ level from above most. absurd (omega (arith, from)));
  linked = λ i lt alone out level from down most. absurd (walks_none z lines w i start lt from);
  reach = λ k low guest level from. absurd (walks_none z lines w k start (omega (arith, low)) from);
  reach_flushed = λ i k lt low emptied. absurd (none_open_yet z lines w i start lt (empty_open (hand_in mmu w i).topics emptied));
  owed = λ i lt out. ap (λ (t : Topics). t.owed) (topics_are z lines w i start lt);
  sets = λ i k lt is. absurd (holds_none z lines w i k start lt is);
  old_sets = λ i k lt is. absurd (retires_none z lines w i k start lt is);
  held_slots = λ i set gfn id slot lt is. absurd (holds_none z lines w i set start lt is);
  searches = λ i lt. subst (λ (t : Topics). SearchPart (word_in z w area.Pool) t.search) (sym (topics_are z lines w i start lt))
      (search_first (word_in z w area.Pool));
  hosts = hosts_start z lines w start;
  frames = frames_start z lines w start;
  looked_frames = λ i k lt is. absurd (looked_none z lines w i k start lt is);
  looks = λ i lt. subst (LookPart z (actors_of z) (word_in z w area.Seq 0) (word_in z w area.Host) (λ j. (hand_in mmu w j).topics))
      (sym (topics_are z lines w i start lt))
      (look_first z (actors_of z) (word_in z w area.Seq 0) (word_in z w area.Host) (λ j. (hand_in mmu w j).topics));
  own_looks = λ i look lt is. absurd (looks_none z lines w i look start lt is);
  counts = count_start z lines w start;
  checks = λ i lt. subst (CheckedPart (word_in z w area.Count 0) (word_in z w area.RangeStart 0) (word_in z w area.RangeEnd 0) (word_in z w area.Seq 0))
      (sym (topics_are z lines w i start lt)) (checked_first _ _ _ _);
  known = λ i lt. subst (KnownRangePart (word_in z w area.RangeStart 0) (word_in z w area.RangeEnd 0)) (sym (topics_are z lines w i start lt))
      (λ lock. absurd (cc lock));
  loaded = λ i lt. subst (LoadedPart (word_in z w area.Pool)) (sym (topics_are z lines w i start lt)) (loaded_first (word_in z w area.Pool));
  ranges = λ i gfn lt is within. absurd (none_open_yet z lines w i start lt is);
  passed = λ i lt. subst (PassedPart (word_in z w area.Pool)) (sym (topics_are z lines w i start lt)) (λ alone. absurd (cc alone));
  scopes = λ i lt is. absurd (none_open_yet z lines w i start lt is);
  swept = λ i lt alone out is. absurd (none_open_yet z lines w i start lt is);
  zapped = λ i lt emptied asked. absurd (none_open_yet z lines w i start lt (empty_open (hand_in mmu w i).topics emptied));
  slot_scopes = λ i lt is. absurd (none_open_yet z lines w i start lt is);
  runs = small_runs z _ _ _ (levels_start z lines w start);
  own_pages = λ i run lt is. absurd (none_open_yet z lines w i start lt is);
  changes = λ i run lt is. absurd (none_open_yet z lines w i start lt is);
  own_rows = λ i look lt is. absurd (looks_none z lines w i look start lt is);
  collected = λ i lt. subst (CollectedPart (word_in z w area.Pool)) (sym (topics_are z lines w i start lt)) (λ alone. absurd (cc alone));
  low_rows = λ i lt. subst (λ (t : Topics). IsLowRow t.row) (sym (topics_are z lines w i start lt))
      (record { start = omega arith; end_ = omega arith });
  few_ended = let none = seq_start z lines w start in omega (arith, none);
  counters = λ i lt. subst (CountersPart z) (sym (topics_are z lines w i start lt)) (counters_first z);
}
  where
    -- No entry is a leaf.
    no_leaf : (level table entry : ℕ) → kind_of level (word_in z w area.Pool (pool_index table entry)) ≡ Leaf → ⊥
    no_leaf level table entry leaf =
        let none = ap (kind_of level) (pool_word z w (pool_index table entry) start.words ∙ absent_is) ∙ kind_of_absent level in cc (none, leaf)
