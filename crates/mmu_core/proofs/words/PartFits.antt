-- The word of each step of a part is one of its area, and what it writes has 64 bits.
use Rattle.std.proofs.Common.{◌≡◌, ◌<◌, ◌≤◌, ◌^◌, ◌%◌, ◌+◌, ◌-◌, ◌*◌, ℕ, refl, sym, subst, ap, arith, Bool}
use Rattle.std.specs.Prelude.{Bool, true, false, Some, None, is_some, Option, if◌then◌else◌, ◌&&◌, not, ◌-◌, ◌%◌}
use Rattle.std.proofs.Math.Pow.{pow-lt}
use Rattle.core_views.specs.declared.place.SlotField.{SlotField}
use Rattle.core_views.specs.declared.place.SlotField.TheVariants as field
use Rattle.core_views.specs.declared.sizes.Sizes.{Sizes}
use Rattle.core_views.specs.declared.topics.HostLook.{HostLook}
use Rattle.core_views.specs.declared.topics.Topics.{Topics}
use Rattle.core_views.specs.Held.{Held}
use Rattle.core_views.specs.Sizes.{actors_of}
use Rattle.spte_words.specs.declared.area.Area.TheVariants as area
use Rattle.spte_words.specs.Areas.{size_of}
use Rattle.spte_words.specs.HostWords.{host_allows_write, host_frame, host_level, host_present, host_word}
use Rattle.spte_words.proofs.Indices.{pool_within}
use Rattle.spte_words.proofs.ReadsHost.{host_fits}
use Rattle.spte_words.proofs.ReadsEntries.{leaf_fits, table_fits}
use Rattle.part_steps.specs.declared.part_step.PartStep.{PartStep}
use Rattle.part_steps.specs.declared.part_step.PartStep.TheVariants as part
use Rattle.part_steps.specs.PartBounds.{PartRests}
use Rattle.part_steps.specs.SweepTopics.{gone_up}
use Rattle.part_steps.specs.PartTasks.{IsWithin, all_but, leaf_written, link_written, own_index, page_owned, part_kind, part_task, set_held}
use Rattle.part_steps.specs.PartTasks.{table_page, word_looked, words_filled, page_retired, page_looked, number_or_none, page_owed, puts_write}
use Rattle.core_views.specs.declared.topics.OwnedFrame.{OwnedFrame}
use Rattle.core_views.specs.declared.topics.PageRun.{PageRun}
use Rattle.part_steps.specs.PageRuns.{IsOnRun, level_put, page_next, word_given, word_seen}
use Rattle.part_steps.specs.PartTasks.{page_to_change, word_to_give}
use Rattle.part_steps.proofs.PageRuns.{next_on_run}
use Rattle.part_steps.specs.FrameHoldings.{revises}
use Rattle.part_steps.specs.FrameTopics.{frame_owned}
use Rattle.part_steps.proofs.FrameWords.{copied_within, stored_within}
use Rattle.part_steps.specs.InvalidationHoldings.{MayCount}
use Rattle.part_steps.specs.PartHoldings.{LookedUp, OwnsTable, MayMark}
use Rattle.part_steps.specs.SetHoldings.{MayPublish, MayGiveOld}
use Rattle.part_steps.specs.PartSteps.{PartNeeds}
use Rattle.part_steps.specs.SlotWords.{field_number, leaf_of, may_write, slot_index}
use Rattle.part_steps.specs.Tasks.{map_of}
use Rattle.part_steps.specs.PageTopics.{tried_bit}
use Rattle.mmu_core.proofs.pages.Owned.{owned_some, some_filled}
use Rattle.mmu_core.proofs.words.HostStays.{each_revision, put_low}
use Rattle.spte_words.specs.Entries.{can_write, level_span, write_bit}
use Rattle.spte_words.proofs.FixedEntries.{fixed_fits}
use Rattle.mmu_core.proofs.forms.access.FaultSame.{both, is_not, over_it}

pub is_number : (f : SlotField) → field_number f ≤ 3
is_number field.Base = omega arith
is_number _ = omega arith

-- The step's word, where it may end its line with this note, is one of its area.
abbrev pub IsWithinBy : Held → PartStep → ℕ → Type 0
IsWithinBy h step note = (part_task step (own_index h) h.topics note).index < size_of (map_of h.state.sizes) (part_task step (own_index h) h.topics note).area

-- the page that is owned is one of the pool
page_there : (h : Held) → is_some h.topics.owned ≡ true → PartRests h → page_owned h.topics.owned < h.state.sizes.pool
page_there h some R = let o = owned_some h.topics some in rw (ap page_owned o.1) (R.page o.0 o.1)

give_within : (h : Held) (note : ℕ) → is_some h.topics.owned ≡ true → PartRests h → IsWithinBy h part.Give note
give_within h note some R = let page = page_there h some R in omega (arith, page)

slot_within : (h : Held) (note : ℕ) → is_some h.topics.search.set ≡ true → h.topics.search.id ≤ 31 → PartRests h → IsWithinBy h part.Slot note
slot_within h note some low R = by h.topics.search.set refl some
  where
    by : (x : Option ℕ) → h.topics.search.set ≡ x → is_some x ≡ true
        → slot_index (set_held h.topics.search.set) h.topics.search.id h.topics.search.next < size_of (map_of h.state.sizes) area.Pool
    by None is some = absurd (cc some)
    by (Some k) is some =
        let n = is_number h.topics.search.next in
        rw (ap set_held is) (pool_within (map_of h.state.sizes) k (4 * h.topics.search.id + field_number h.topics.search.next) (R.set k is) (omega arith))

-- the page that is retired is one of the pool
left_there : (h : Held) → MayGiveOld h → PartRests h → page_retired h.topics.retired < h.state.sizes.pool
left_there h M R = by h.topics.retired refl M.leaves
  where
    by : (x : Option ℕ) → h.topics.retired ≡ x → is_some x ≡ true → page_retired h.topics.retired < h.state.sizes.pool
    by None is some = absurd (cc some)
    by (Some k) is some = rw (ap page_retired is) (R.left k is)

-- A virtual processor is one of the actors.
vcpu_within : (index : ℕ) (z : Sizes) → index < z.vcpus → index < actors_of z
vcpu_within index z lt = omega (arith, lt)

-- the host page that was looked up is one of the machine's
looked_there : (h : Held) → is_some h.topics.host ≡ true → PartRests h → page_looked h.topics.host < h.state.sizes.pages
looked_there h looked R = by h.topics.host refl looked
  where
    by : (x : Option HostLook) → h.topics.host ≡ x → is_some x ≡ true → page_looked h.topics.host < h.state.sizes.pages
    by None is some = absurd (cc some)
    by (Some look) is some = rw (ap page_looked is) (R.looked look is).0

-- the frame that is owned is one of the machine's
frame_there : (h : Held) → is_some h.topics.frames.owned ≡ true → PartRests h → frame_owned h.topics.frames.owned < h.state.sizes.frames
frame_there h some R = by h.topics.frames.owned refl some
  where
    by : (x : Option OwnedFrame) → h.topics.frames.owned ≡ x → is_some x ≡ true → frame_owned x < h.state.sizes.frames
    by None is some = absurd (cc some)
    by (Some o) is some = R.frame o is

-- The page that is marked is one of the machine's.
page_marked : (h : Held) → MayMark h.topics → PartRests h → page_owed h.topics < h.state.sizes.pages
page_marked h M R =
    let B = over_it h.topics.search.slot.base (number_or_none h.topics.owed) (h.topics.search.slot.base + h.topics.search.slot.pages) M.found.holds in
    let high = R.found M.found.whole in
    omega (arith, B.0, B.1, high)

-- the page of a run that is changed next
next_of : (run : PageRun) → run.level ≤ 3 → 2 ≤ run.level → run.changed < level_span run.level → IsOnRun (page_next run) (Some run)
next_of run most several left = (next_on_run run (omega (arith, several)) (omega (arith, most)) left).0

pub part_within_by : (step : PartStep) (h : Held) (note : ℕ) → PartNeeds step h → PartRests h → IsWithinBy h step note
part_within_by part.Enter h note N R = R.own_place
part_within_by part.Leave h note N R = R.own_place
part_within_by part.Begin h note N R = R.own_place
part_within_by part.End h note N R = R.own_place
part_within_by (part.Map word) h note N R = N.1
part_within_by part.Claim h note N R = N.2
part_within_by (part.Fill value) h note N R =
    pool_within (map_of h.state.sizes) (page_owned h.topics.owned) (words_filled h.topics.owned) (page_there h N.0.0 R) N.0.1
part_within_by (part.Role value) h note N R = page_there h (some_filled h.topics.owned 512 N.0 (omega arith)) R
part_within_by part.Give h note N R = give_within h note N.0 R
part_within_by part.Slot h note N R = slot_within h note N.0 N.1 R
part_within_by (part.Walk gfn) h note N R = pool_within (map_of h.state.sizes) (table_page h.topics.walk) _ (R.table N.0.there) (omega arith)
part_within_by (part.Sweep gfn) h note N R = pool_within (map_of h.state.sizes) (table_page (gone_up h.topics.walk)) _ (R.above N.there) (omega arith)
part_within_by (part.WalkAnew gfn) h note N R = pool_within (map_of h.state.sizes) h.topics.walk.root _ (R.root N.there) (omega arith)
part_within_by (part.Link gfn) h note N R = pool_within (map_of h.state.sizes) (table_page h.topics.walk) _ (R.table N.0.saw.over.there) (omega arith)
part_within_by (part.Leaf gfn write) h note N R =
    pool_within (map_of h.state.sizes) (table_page h.topics.walk) _ (R.table N.0.saw.over.there) (omega arith)
part_within_by (part.Fix gfn) h note N R = pool_within (map_of h.state.sizes) (table_page h.topics.walk) _ (R.table N.saw.over.there) (omega arith)
part_within_by part.Mark h note N R = let low = page_marked h N R in omega (arith, low)
part_within_by (part.Host page) h note N R = N.0
part_within_by (part.Watch index) h note N R = N.0
part_within_by part.Clear h note N R = left_there h N R
part_within_by part.GiveOld h note N R = let at = left_there h N R in omega (arith, at)
part_within_by (part.Zap gfn) h note N R = pool_within (map_of h.state.sizes) (table_page h.topics.walk) _ (R.table N.saw.over.there) (omega arith)
part_within_by (part.Ask index) h note N R = vcpu_within index h.state.sizes N.low
part_within_by (part.Await index) h note N R = vcpu_within index h.state.sizes (let few = R.counters.asked in omega (arith, few, N.0))
part_within_by part.Bring h note N R = looked_there h N.looked R
part_within_by (part.Change new_) h note N R = looked_there h N.0.looked R
part_within_by (part.HostOn page) h note N R = N.0
part_within_by part.ChangeNext h note N R =
    let C = R.changing N.run N.opened N.unraised N.is N.several in
    subst (λ (pages : Option PageRun). page_to_change pages < h.state.sizes.pages) (sym N.is)
    (C.there (page_next N.run) (next_of N.run C.most N.several N.left))
part_within_by (part.FrameMap word) h note N R = N.1
part_within_by part.Frame h note N R = N.2
part_within_by (part.Copy index) h note N R = copied_within h index R N
part_within_by (part.Store index) h note N R = stored_within h index R N
part_within_by part.GiveFrame h note N R = let at = frame_there h N.owns R in omega (arith, at)
part_within_by (part.Take word mask) h note N R = N.reads.there
part_within_by (part.Protect gfn) h note N R = pool_within (map_of h.state.sizes) (table_page h.topics.walk) _ (R.table N.saw.over.there) (omega arith)
part_within_by (part.Peek word) h note N R = N.there
part_within_by (part.Arm word bits) h note N R = N.reads.there
part_within_by _ h note N R = omega arith

pub part_within : (step : PartStep) (h : Held) → PartNeeds step h → PartRests h → IsWithin h step
part_within step h N R = part_within_by step h 0 N R

-- What a step writes has 64 bits.
not_small : (n : ℕ) → all_but n < 2 ^ 64
not_small n = omega arith

bit_small : (t : Topics) → 0 < t.claim.seen → t.claim.seen < 2 ^ 64 → all_but (2 ^ tried_bit t.claim) < 2 ^ 64
bit_small t some small = not_small _

power_small : (k : ℕ) → k < 64 → 2 ^ k < 2 ^ 64
power_small k lt = pow-lt lt

-- A link is to a page of the pool, and a leaf to a frame of the machine.
link_small : (h : Held) → OwnsTable h.topics → PartRests h → link_written h.topics < 2 ^ 64
link_small h O R =
    let page = page_there h (some_filled h.topics.owned 513 O.whole (omega arith)) R in
    table_fits (page_owned h.topics.owned) (omega (arith, page, R.sizes.pool.1))

leaf_small : (gfn : ℕ) (h : Held) (write : Bool) → LookedUp gfn h.topics → PartRests h → leaf_written gfn write h.topics < 2 ^ 64
leaf_small gfn h write U R =
    let looked = R.looked _ U.host in
    subst (λ o. leaf_of h.topics.walk.level gfn (puts_write write h.topics) h.topics.search.slot (word_looked o) < 2 ^ 64) (sym U.host)
    (leaf_fits h.topics.walk.level (host_frame U.word - gfn % level_span h.topics.walk.level)
    (puts_write write h.topics && may_write h.topics.search.slot U.word) (host_allows_write U.word) (may_write h.topics.search.slot U.word)
    (omega (arith, looked.1, R.sizes.frames.1)))

-- A page that is published is one of the pool.
publish_small : (h : Held) → MayPublish h.topics → PartRests h → page_owned h.topics.owned < 2 ^ 64
publish_small h M R = let page = page_there h (some_filled h.topics.owned 513 M.owns.whole (omega arith)) R in omega (arith, page, R.sizes.pool.1)

word_fits : (word frame : ℕ) (present allowed : Bool) → frame ≤ 2097152 → host_word frame present allowed (host_level word) < 2 ^ 64
unfolding host_level
word_fits word frame present allowed few = host_fits frame present allowed (host_level word) (omega (arith, few)) (omega arith)

-- The word of a frame of the machine, with other bits, or at another frame of it, has 64 bits.
word_small : (words : ℕ) (owned : Option OwnedFrame) (word new_ : ℕ) → host_frame word ≤ 2097152 → ((o : OwnedFrame) → owned ≡ Some o → o.frame ≤ 2097152)
    → revises words owned word new_ ≡ true → new_ < 2 ^ 64
word_small words owned word new_ few owned_few is =
    each_revision words owned word new_ (λ n. n < 2 ^ 64) (λ none allowed. word_fits word (host_frame word) (host_present word) allowed few)
    (λ none. word_fits word (host_frame word) false (host_allows_write word) few)
    (λ o at full. word_fits word o.frame (host_present word) (host_allows_write word) (owned_few o at)) is

-- So has the word that is given to a page of a run.
given_small : (run : PageRun) (page frames : ℕ) → run.level ≤ 3 → frames ≤ 2097152 → host_frame (word_seen run page) < frames → word_given run page < 2 ^ 64
given_small run page frames most few low =
    host_fits (host_frame (word_seen run page)) (host_present (word_seen run page)) (host_allows_write (word_seen run page)) (level_put run)
    (omega (arith, few, low)) (put_low run most)

-- The count that is stored is one more or one less than one that was loaded.
count_small : (h : Held) (count : ℕ) → MayCount count h.topics → PartRests h → count < 2 ^ 64
count_small h count M R = rw M.is (by h.topics.invalidations.opened)
  where
    n : ℕ
    n = h.topics.invalidations.count

    few : n ≤ 25
    few = let counted = R.counters.counted in omega (arith, counted, R.sizes.actors.vcpus, R.sizes.actors.hosts, R.sizes.actors.workers)

    by : (b : Bool) → (if b then n - 1 else n + 1) < 2 ^ 64
    by true = omega (arith, few)
    by false = omega (arith, few)

-- The frame of a host word that was looked up is one of the machine's, so the word that is put in its place has 64 bits.
looked_few : (h : Held) → is_some h.topics.host ≡ true → PartRests h → host_frame (word_looked h.topics.host) ≤ 2097152
looked_few h looked R = by h.topics.host refl looked
  where
    by : (x : Option HostLook) → h.topics.host ≡ x → is_some x ≡ true → host_frame (word_looked x) ≤ 2097152
    by None at some = absurd (cc some)
    by (Some look) at some = omega (arith, (R.looked look at).1, R.sizes.frames.1)

pub part_small : (step : PartStep) (h : Held) (note : ℕ) → PartNeeds step h → PartRests h → (part_kind h step note).new < 2 ^ 64
part_small part.Leave h note N R = not_small 3
part_small part.End h note N R = not_small 2
part_small part.Release h note N R = not_small (2 ^ 63)
part_small part.Claim h note N R = not_small (2 ^ tried_bit h.topics.claim)
part_small (part.Fill value) h note N R = N.1
part_small (part.Role value) h note N R = N.1
part_small part.Give h note N R = power_small (page_owned h.topics.owned % 64) (omega arith)
part_small (part.Link gfn) h note N R = link_small h N.1 R
part_small (part.Leaf gfn write) h note N R = leaf_small gfn h write N.0.looked_up R
part_small (part.Fix gfn) h note N R =
    fixed_fits h.topics.walk.entry R.counters.entry (is_not (can_write h.topics.walk.entry) (both (not (can_write h.topics.walk.entry)) _ N.fixable).0)
part_small part.Mark h note N R = power_small (page_owed h.topics % 64) (omega arith)
part_small part.Publish h note N R = publish_small h N R
part_small part.GiveOld h note N R = power_small (page_retired h.topics.retired % 64) (omega arith)
part_small (part.SetStart first gfn) h note N R = N.2
part_small (part.SetEnd last gfn) h note N R = N.2
part_small (part.SetCount count) h note N R = count_small h count N.0 R
part_small (part.SetSeq seq) h note N R = let is = N.1 in let few = R.counters.seq in omega (arith, is, few)
part_small part.Bring h note N R =
    word_fits (word_looked h.topics.host) (host_frame (word_looked h.topics.host)) true (host_allows_write (word_looked h.topics.host))
    (looked_few h N.looked R)
part_small part.ChangeNext h note N R =
    let C = R.changing N.run N.opened N.unraised N.is N.several in
    subst (λ (pages : Option PageRun). word_to_give pages < 2 ^ 64) (sym N.is)
    (given_small N.run (page_next N.run) h.state.sizes.frames C.most R.sizes.frames.1 (C.frames (page_next N.run) (next_of N.run C.most N.several N.left)))
part_small (part.Change new_) h note N R =
    word_small h.state.sizes.words h.topics.frames.owned (word_looked h.topics.host) new_ (looked_few h N.0.looked R)
    (λ o is. let there = R.frame o is in omega (arith, there, R.sizes.frames.1)) N.1
part_small part.Frame h note N R = not_small (2 ^ tried_bit h.topics.frames.claim)
part_small (part.Store index) h note N R = R.counters.frames.copied
part_small part.GiveFrame h note N R = power_small (frame_owned h.topics.frames.owned % 64) (omega arith)
part_small (part.Take word mask) h note N R = not_small mask
part_small (part.Protect gfn) h note N R = not_small write_bit
part_small (part.Arm word bits) h note N R = N.small
part_small _ h note N R = omega arith
