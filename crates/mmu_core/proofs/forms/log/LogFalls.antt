-- Each step of a line that reads a dirty log, and doesn't wait for another actor, leaves it fewer steps.
use Rattle.std.proofs.lemmas.Option.{same_Some}
use Rattle.std.proofs.Common.{◌≡◌, ◌+◌, ◌-◌, ◌*◌, ◌<◌, ◌≤◌, ℕ, zero, suc, Bool, true, false, cond, refl, subst, sym, ap, ◌∙◌, arith, List}
use Rattle.std.specs.Prelude.{◌==◌, ◌||◌, not, nat_lt, find, if◌then◌else◌, is_some, Option, Some, None}
use Rattle.std.specs.List.{range_with_len}
use Rattle.core_views.specs.declared.place.LogPlace.{LogPlace}
use Rattle.core_views.specs.declared.place.LogPlace.TheVariants.{AtOnce, Exclude, Take, Root, Walk, Protect, Release, Ask, Await, Peek}
use Rattle.core_views.specs.declared.sizes.Sizes.{Sizes}
use Rattle.core_views.specs.declared.topics.TableWalk.{TableWalk}
use Rattle.core_views.specs.declared.topics.Topics.{Topics}
use Rattle.core_views.specs.declared.trace.Command.{Command}
use Rattle.core_views.specs.declared.trace.Command.TheVariants.{ClearLog, GetLog}
use Rattle.core_views.specs.Sizes.{AreSizes}
use Rattle.mmu_core.specs.lines.Bounds.{most_steps}
use Rattle.core_views.specs.declared.trace.Slot.{Slot}
use Rattle.core_views.specs.Held.{Held}
use Rattle.core_views.specs.LogCommands.{count_asked, has_bit, log_read, words_asked}
use Rattle.core_views.proofs.Ranges.{found_passes}
use Rattle.spte_words.specs.declared.spte_kind.SpteKind.{SpteKind}
use Rattle.spte_words.specs.declared.spte_kind.SpteKind.TheVariants as entry_kind
use Rattle.spte_words.specs.Areas.{words_of_bits}
use Rattle.spte_words.specs.Entries.{can_write, kind_of}
use Rattle.part_steps.specs.declared.part_step.PartStep.TheVariants as part
use Rattle.part_steps.specs.ControlBits.{has_to_flush}
use Rattle.part_steps.specs.PartBounds.{PartRests}
use Rattle.part_steps.specs.PartTasks.{entry_index}
use Rattle.part_steps.specs.PartTopics.{part_topics}
use Rattle.part_steps.specs.StayTopics.{may_walk}
use Rattle.part_steps.specs.SweepTopics.{at_top, gone_up, has_entry, walk_on, walks_anew}
use Rattle.part_steps.specs.WalkTopics.{gone_down, linked_page}
use Rattle.mmu_core.specs.declared.log_next.LogNext.TheVariants as next
use Rattle.mmu_core.specs.invariant.SlotSetPart.{Fits}
use Rattle.mmu_core.specs.forms.log.LogKnows.{LogKnows, WalksAlone}
use Rattle.mmu_core.specs.forms.log.LogLeft.{log_left, log_left_after, walk_left}
use Rattle.mmu_core.specs.forms.log.LogSteps.{after_entry, after_page, awaits_last, frame_asked, log_next, log_part, next_page, reads_last, slot_asked}
use Rattle.mmu_core.specs.forms.log.LogSteps.{word_read}
use Rattle.mmu_core.specs.lines.PartWaits.{part_waits}
use Rattle.mmu_core.proofs.lines.EitherPlace.{either_place, one_place}
use Rattle.mmu_core.proofs.forms.log.LogNeeds.{count_low, sweeps_neither, word_read_low}
use Rattle.mmu_core.proofs.words.PartTopics.{begins_anew, sweeps_not}

-- ---- the next page

-- What is found in a range is no lower than its first number.
found_from : (a n : ℕ) (test : ℕ → Bool) (x : ℕ) → find test (range_with_len a n) ≡ Some x → a ≤ x
found_from a zero test x is = absurd (cc is)
found_from a (suc n) test x is = by (test a) is (λ e. found_from (a + 1) n test x e)
  where
    by : (b : Bool) → cond b (Some a) (find test (range_with_len (a + 1) n)) ≡ Some x
        → (find test (range_with_len (a + 1) n) ≡ Some x → a + 1 ≤ x) → a ≤ x
    by true e later = let same : a ≡ x = same_Some a x e in omega (arith, same)
    by false e later = let from = later e in omega (arith, from)

-- The next page is one for which the line asks, from this one on, and its bit is set.
pub record IsNextPage (slot : Slot) (command : Command) (words : List ℕ) (from page : ℕ) : Type 0 where
  pub low : from ≤ page
  pub high : page < count_asked command slot
  pub taken : has_bit words page ≡ true

pub next_page_is : (slot : Slot) (command : Command) (words : List ℕ) (from page : ℕ) → next_page slot command words from ≡ Some page
    → IsNextPage slot command words from page
next_page_is slot command words from page is =
    let low = found_from from (count_asked command slot - from) (λ x. has_bit words x) page is in
    let there = found_passes from (count_asked command slot - from) (λ x. has_bit words x) page is in
    let high = there.0 in
    record { low = low; high = omega (arith, low, high); taken = there.1 }

-- ---- the walk to a leaf

walk_few : (t : Topics) → t.walk.level ≤ 4 → walk_left t ≤ 5
walk_few t most = either_place (λ n. n ≤ 5) (has_entry t.walk) 5 (t.walk.level + 1) (omega arith) (omega (arith, most))

-- Before the walk to the leaf of the next page there are fewer left than for all pages from this one on.
next_falls : (slot : Slot) (command : Command) (words : List ℕ) (from : ℕ) (z : Sizes) (u : Topics) → count_asked command slot ≤ z.pages → u.walk.level ≤ 4
    → log_left (after_page (next_page slot command words from)) z u < 2 * z.vcpus + 3 + 5 * (z.pages - from)
next_falls slot command words from z u few most = by (next_page slot command words from) refl
  where
    by : (o : Option ℕ) → next_page slot command words from ≡ o → log_left (after_page o) z u < 2 * z.vcpus + 3 + 5 * (z.pages - from)
    by None is = omega arith
    by (Some page) is =
        let N = next_page_is slot command words from page is in
        let low = N.low in
        let high = N.high in
        let left = walk_few u most in
        omega (arith, low, high, few, left)

-- After an entry that was loaded in this table there are fewer left than before it.
entry_falls : (k : SpteKind) (slot : Slot) (command : Command) (words : List ℕ) (page index v : ℕ) (z : Sizes) (t : Topics) (w : TableWalk)
    → count_asked command slot ≤ z.pages → 1 ≤ w.level → w.level ≤ 4
    → log_left (after_entry k page (after_page (next_page slot command words (page + 1))) v) z (record t { walk = gone_down (linked_page k) w index v })
    < 2 * z.vcpus + 2 + 5 * (z.pages - (page + 1)) + (w.level + 1)
entry_falls (entry_kind.Table below) slot command words page index v z t w few from most = omega (arith, from)
entry_falls entry_kind.Leaf slot command words page index v z t w few from most =
    let less = next_falls slot command words (page + 1) z (record t { walk = gone_down None w index v }) few most in
    either_place (λ p. log_left p z (record t { walk = gone_down None w index v }) < 2 * z.vcpus + 2 + 5 * (z.pages - (page + 1)) + (w.level + 1))
    (can_write v) (Protect page) (after_page (next_page slot command words (page + 1))) (omega (arith, from)) (omega (arith, from, less))
entry_falls entry_kind.Absent slot command words page index v z t w few from most =
    let less = next_falls slot command words (page + 1) z (record t { walk = gone_down None w index v }) few most in omega (arith, from, less)
entry_falls entry_kind.Frozen slot command words page index v z t w few from most =
    let less = next_falls slot command words (page + 1) z (record t { walk = gone_down None w index v }) few most in omega (arith, from, less)

-- Who has the lock alone and sweeps nothing loads the next entry at the root where one was loaded, and else in the table to which the walk has come.
pub walks_on : (t : Topics) → t.retired ≡ None → t.invalidations.opened ≡ false → WalksAlone t
    → walk_on t ≡ (if has_entry t.walk then at_top t.walk else t.walk)
walks_on t none closed W =
    let neither = sweeps_neither t none closed in
    ap (λ (b : Bool). if b then gone_up t.walk else if walks_anew t then at_top t.walk else t.walk) (sweeps_not t neither)
    ∙ ap (λ (b : Bool). if b then at_top t.walk else t.walk) (begins_anew t W.outside W.alone neither)

walk_falls : (page : ℕ) (h : Held) (command : Command) (v : ℕ) → h.topics.retired ≡ None → h.topics.invalidations.opened ≡ false
    → Fits h.state.sizes (slot_asked h command) → PartRests h → LogKnows (Walk page) command h
    → log_left_after (log_next (Walk page) command h v) h.state.sizes (part_topics (log_part (Walk page) h command) h.topics v)
    < log_left (Walk page) h.state.sizes h.topics
walk_falls page h command v none closed F R K = by (has_entry h.topics.walk) (walks_on h.topics none closed K.0)
  where
    slot : Slot
    slot = slot_asked h command

    gfn : ℕ
    gfn = frame_asked slot command page

    by : (has : Bool) → walk_on h.topics ≡ (if has then at_top h.topics.walk else h.topics.walk)
        → log_left (after_entry (kind_of (walk_on h.topics).level v) page (after_page (next_page slot command h.harvest (page + 1))) v) h.state.sizes
        (part_topics (if has then part.WalkAnew gfn else part.Walk gfn) h.topics v)
        < 2 * h.state.sizes.vcpus + 2 + 5 * (h.state.sizes.pages - (page + 1)) + (if has then 5 else h.topics.walk.level + 1)
    by true on =
        subst (λ (w : TableWalk).
        log_left (after_entry (kind_of w.level v) page (after_page (next_page slot command h.harvest (page + 1))) v) h.state.sizes
        (part_topics (part.WalkAnew gfn) h.topics v) < 2 * h.state.sizes.vcpus + 2 + 5 * (h.state.sizes.pages - (page + 1)) + 5)
        (sym on)
        (entry_falls (kind_of 4 v) slot command h.harvest page (entry_index gfn 4) v h.state.sizes h.topics (at_top h.topics.walk)
        (count_low command h F K.2.0) (omega arith) (omega arith))
    by false on =
        subst (λ (w : TableWalk).
        log_left (after_entry (kind_of w.level v) page (after_page (next_page slot command h.harvest (page + 1))) v) h.state.sizes
        (part_topics (part.Walk gfn) h.topics v)
        < 2 * h.state.sizes.vcpus + 2 + 5 * (h.state.sizes.pages - (page + 1)) + (h.topics.walk.level + 1))
        (sym on)
        (entry_falls (kind_of h.topics.walk.level v) slot command h.harvest page (entry_index gfn h.topics.walk.level) v h.state.sizes h.topics h.topics.walk
        (count_low command h F K.2.0) K.0.there R.level)

-- ---- the words

-- A word that is read leaves fewer, whether it is the last one or not.
take_falls : (begun last : Bool) (h : Held) (command : Command)
    → word_read begun (slot_asked h command) command h.topics < words_of_bits h.state.sizes.pages
    → log_left (if last then Root else Take true) h.state.sizes
    (record h.topics { next_log_word = word_read begun (slot_asked h command) command h.topics + 1 })
    < log_left (Take begun) h.state.sizes h.topics
take_falls true true h command low = omega (arith, low)
take_falls true false h command low = omega (arith, low)
take_falls false true h command low = omega (arith, low)
take_falls false false h command low = omega (arith, low)

peek_falls : (begun last : Bool) (h : Held) (command : Command)
    → word_read begun (slot_asked h command) command h.topics < words_of_bits h.state.sizes.pages
    → log_left_after (if last then next.Reads else next.Goes (Peek true)) h.state.sizes
    (record h.topics { next_log_word = word_read begun (slot_asked h command) command h.topics + 1 })
    < log_left (Peek begun) h.state.sizes h.topics
peek_falls true true h command low = omega (arith, low)
peek_falls true false h command low = omega (arith, low)
peek_falls false true h command low = omega (arith, low)
peek_falls false false h command low = omega (arith, low)

-- ---- the lock, and the flushes

exclude_falls : (won some : Bool) (z : Sizes) (u : Topics) → not won ≡ false
    → log_left (if won then (if some then Take false else Root) else Exclude) z u < 2 * z.vcpus + 4 + 5 * z.pages + words_of_bits z.pages
exclude_falls true true z u goes = omega arith
exclude_falls true false z u goes = omega arith
exclude_falls false some z u goes = absurd (cc goes)

await_falls : (waits more : Bool) (z : Sizes) (t : Topics) → waits ≡ false → t.flush.awaited < z.vcpus
    → log_left_after (if waits || more then next.Goes Await else next.Reads) z
    (record t { flush = record t.flush { awaited = t.flush.awaited + (if waits then 0 else 1) } })
    < z.vcpus - t.flush.awaited + 1
await_falls true more z t is lt = absurd (cc is)
await_falls false true z t is lt = omega (arith, lt)
await_falls false false z t is lt = omega (arith, lt)

-- Each step that doesn't wait leaves fewer.
pub log_falls : (p : LogPlace) (h : Held) (command : Command) (v : ℕ) → h.topics.retired ≡ None → h.topics.invalidations.opened ≡ false
    → Fits h.state.sizes (slot_asked h command) → PartRests h → LogKnows p command h → part_waits (log_part p h command) h.topics v ≡ false
    → log_left_after (log_next p command h v) h.state.sizes (part_topics (log_part p h command) h.topics v) < log_left p h.state.sizes h.topics
log_falls (AtOnce refusal) h command v none closed F R K goes = omega arith
log_falls Exclude h command v none closed F R K goes =
    exclude_falls (v == 0) (nat_lt 0 (words_asked command (slot_asked h command))) h.state.sizes (part_topics part.Exclude h.topics v) goes
log_falls (Take begun) h command v none closed F R K goes =
    take_falls begun (reads_last begun (slot_asked h command) command h.topics) h command (word_read_low begun command h F K.2.0 K.3)
log_falls Root h command v none closed F R K goes =
    let few = either_place (λ n. n ≤ 4) (may_walk h.topics.stay h.topics.hold) 4 0 (omega arith) (omega arith) in
    let less =
    next_falls (slot_asked h command) command h.harvest 0 h.state.sizes (part_topics part.Root h.topics v) (count_low command h F K.2.0) few in
    omega (arith, less)
log_falls (Walk page) h command v none closed F R K goes = walk_falls page h command v none closed F R K
log_falls (Protect page) h command v none closed F R K goes =
    next_falls (slot_asked h command) command h.harvest (page + 1) h.state.sizes (part_topics (log_part (Protect page) h command) h.topics v)
    (count_low command h F K.2.0) R.level
log_falls Release h command v none closed F R K goes = omega arith
log_falls Ask h command v none closed F R K goes =
    let lt = K.4 in
    let unawaited = K.5 in
    one_place (λ p. log_left p h.state.sizes (part_topics (part.Ask h.topics.flush.asked) h.topics v)
    < h.state.sizes.vcpus + (h.state.sizes.vcpus - h.topics.flush.asked) + 1)
    (nat_lt (h.topics.flush.asked + 1) h.state.sizes.vcpus) Ask Await (λ e. omega (arith, lt)) (λ e. omega (arith, lt, unawaited))
log_falls Await h command v none closed F R K goes = await_falls (has_to_flush v) (not (awaits_last h)) h.state.sizes h.topics goes K.5
log_falls (Peek begun) h command v none closed F R K goes =
    peek_falls begun (reads_last begun (slot_asked h command) command h.topics) h command (word_read_low begun command h F K.1 K.3)

-- It has few left: five for each page, one for each word of the log, and two for each virtual processor.
pub log_few : (p : LogPlace) (z : Sizes) (t : Topics) → t.walk.level ≤ 4 → log_left p z t ≤ 2 * z.vcpus + 7 + 5 * z.pages + words_of_bits z.pages
log_few (Walk page) z t most = let left = walk_few t most in omega (arith, left)
log_few (Take true) z t most = omega arith
log_few (Take false) z t most = omega arith
log_few (Peek true) z t most = omega arith
log_few (Peek false) z t most = omega arith
log_few _ z t most = omega arith

-- So its command allows.
pub log_allowed : (p : LogPlace) (c : Command) (h : Held) → is_some (log_read c) ≡ true → AreSizes h.state.sizes → h.topics.walk.level ≤ 4
    → log_left p h.state.sizes h.topics ≤ most_steps h.state.sizes c
log_allowed p (GetLog id) h reads S most =
    let few = log_few p h.state.sizes h.topics most in let actors = S.actors in omega (arith, few, actors)
log_allowed p (ClearLog id first count words) h reads S most =
    let few = log_few p h.state.sizes h.topics most in let actors = S.actors in omega (arith, few, actors)
log_allowed p _ h reads S most = absurd (cc reads)

-- At each place it has one.
pub some_log_left : (p : LogPlace) (z : Sizes) (t : Topics) → 0 < log_left p z t
some_log_left (Take true) z t = omega arith
some_log_left (Take false) z t = omega arith
some_log_left (Peek true) z t = omega arith
some_log_left (Peek false) z t = omega arith
some_log_left _ z t = omega arith
