-- Each step of a part keeps the counters of what actors hold within what they count, and so the span of a walk's table.
use Rattle.std.proofs.Common.{◌≡◌, ◌^◌, ◌<◌, ℕ, refl, sym, subst, ap, arith}
use Rattle.std.specs.Prelude.{Bool, true, false, ◌==◌, ◌&&◌, not, if◌then◌else◌, None, is_some}
use Rattle.core_views.specs.declared.sizes.Sizes.{Sizes}
use Rattle.core_views.specs.declared.topics.MapClaim.{MapClaim}
use Rattle.core_views.specs.declared.topics.SlotSearch.{SlotSearch}
use Rattle.core_views.specs.declared.topics.Stay.{Stay}
use Rattle.core_views.specs.declared.topics.Stay.TheVariants.{Outside, Guest, Section}
use Rattle.core_views.specs.declared.topics.TableWalk.{TableWalk}
use Rattle.core_views.specs.declared.topics.Topics.{Topics}
use Rattle.core_views.specs.Held.{Held}
use Rattle.core_views.specs.Sizes.{actors_of}
use Rattle.spte_words.specs.declared.area.Area.TheVariants as area
use Rattle.spte_words.specs.Areas.{pool_index, words_of_bits}
use Rattle.spte_words.specs.Entries.{without_write}
use Rattle.spte_words.proofs.ProtectedEntries.{protected_least}
use Rattle.part_steps.specs.SweepTopics.{at_top, gone_up}
use Rattle.part_steps.specs.declared.part_step.PartStep.{PartStep}
use Rattle.part_steps.specs.declared.part_step.PartStep.TheVariants as part
use Rattle.part_steps.specs.PartBounds.{CountersPart, FrameCountersPart}
use Rattle.part_steps.specs.FrameTopics.{words_moved}
use Rattle.core_views.specs.declared.topics.Frames.{Frames}
use Rattle.spte_words.specs.HostWords.{host_frame}
use Rattle.part_steps.specs.PartTasks.{entry_index, table_page, word_looked}
use Rattle.part_steps.specs.PartHoldings.{IsOver}
use Rattle.mmu_core.specs.invariant.TopicsInvariant.{TopicsInvariant}
use Rattle.part_steps.specs.StayTopics.{begun, is_loose, kept_search, may_walk}
use Rattle.part_steps.specs.WalkTopics.{walked, linked_page}
use Rattle.part_steps.specs.PageTopics.{is_won}
use Rattle.part_steps.specs.ControlBits.{in_section}
use Rattle.mmu_core.specs.machine.View.{View, part_stepped, upd}
use Rattle.mmu_core.proofs.held.FrameCounters.{changed_frames, copied_frames, given_frames, map_frames, stored_frames, tried_frames}
use Rattle.mmu_core.proofs.held.FrameCounters.{flush_few, one_more, one_more_unless, seq_few, tried_at, tried_seen}
use Rattle.mmu_core.proofs.held.InvalidationsKept.{count_few, counts_behind}
use Rattle.mmu_core.proofs.held.WalkSpans.{exchanged_span, gone_span, let_go_span, over_top, root_span, exchanged_entry, gone_entry}
use Rattle.mmu_core.proofs.machine.PartStepping.{IsPart}
use Rattle.mmu_core.proofs.words.PartTopics.{behind_step}
use Rattle.spte_words.specs.declared.area.Area.{Area}
use Rattle.mmu_core.proofs.pages.Standing.{entry_now}
use Rattle.part_steps.specs.PartTopics.{exchanged}
pub use Rattle.mmu_core.proofs.held.CounterTopics.{CountersAt}
use Rattle.mmu_core.proofs.held.CounterTopics.{slot_counts, all_count, walked_counts, same_counts, numbered_counts, other_counts, CountersBehind}

pool_of : (z : Sizes) (v : View) (a : ℕ) (step : PartStep) → IsPart z v a step → words_of_bits (v.hand a).state.sizes.pool ≡ words_of_bits z.pool
pool_of z v a step S = ap (λ (y : Sizes). words_of_bits y.pool) S.sizes

map_counts : (z : Sizes) (v : View) (a note word : ℕ) → CountersBehind z v a note (part.Map word)
map_counts z v a note word S I =
    let C = I.counters a S.there in
    let lt : word < words_of_bits z.pool = subst (λ n. word < n) (pool_of z v a (part.Map word) S) S.needs.1 in
    all_count z v a _ I (other_counts z (v.hand a).topics _ C.slots (one_more (v.words area.PoolMap word == 0) word (words_of_bits z.pool) lt)
    (S.small area.PoolMap word) C.watched refl refl refl C.frames C)

claim_counts : (z : Sizes) (v : View) (a note : ℕ) → CountersBehind z v a note part.Claim
claim_counts z v a note S I =
    let C = I.counters a S.there in
    let claim : MapClaim = (v.hand a).topics.claim in
    let found : ℕ = v.words area.PoolMap claim.at in
    all_count z v a _ I (other_counts z (v.hand a).topics _ C.slots (tried_at (is_won claim found) claim.at (words_of_bits z.pool) C.claim)
    (tried_seen (is_won claim found) found (S.small area.PoolMap claim.at)) C.watched refl refl refl C.frames C)

watch_counts : (z : Sizes) (v : View) (a note index : ℕ) → CountersBehind z v a note (part.Watch index)
watch_counts z v a note index S I =
    let C = I.counters a S.there in
    let lt : index < actors_of z = subst (λ (y : Sizes). index < actors_of y) S.sizes S.needs.0 in
    all_count z v a _ I (other_counts z (v.hand a).topics _ C.slots C.claim C.seen
    (one_more_unless (in_section (v.words area.State index)) index (actors_of z) lt) refl refl refl C.frames C)

pub snapshot_id : (b : Bool) (s : SlotSearch) → (if b then kept_search false s else s).id ≡ s.id
snapshot_id true s = refl
snapshot_id false s = refl

-- who goes in or out of the guest or a section has come to no table
begun_counts : (z : Sizes) (stay : Stay) (t : Topics) → CountersPart z t → CountersPart z (begun stay t)
begun_counts z stay t C = walked_counts z t _ refl refl refl (refl, refl, refl, refl) refl refl (λ from. absurd (omega (arith, from))) C.entry C

-- who only changes what it holds of frames
framed_counts : (z : Sizes) (v : View) (a : ℕ) (h : Held) (f : Frames) → TopicsInvariant z v → a < actors_of z
    → h.topics ≡ record (v.hand a).topics { frames = f } → FrameCountersPart z f → (i : ℕ) → i < actors_of z → CountersPart z (upd v.hand a h i).topics
framed_counts z v a h f I there is F =
    let C = I.counters a there in
    all_count z v a h I (subst (CountersPart z) (sym is)
    (other_counts z (v.hand a).topics (record (v.hand a).topics { frames = f }) C.slots C.claim C.seen C.watched refl refl refl F C))

loaded_counts : (z : Sizes) (v : View) (a gfn : ℕ) (walk : TableWalk) → ((b : Area) (i : ℕ) → v.words b i < 2 ^ 64) → TopicsInvariant z v → a < actors_of z
    → IsOver gfn walk → CountersPart z
    (record (v.hand a).topics {
      walk = walked walk (entry_index gfn walk.level) (v.words area.Pool (pool_index (table_page walk) (entry_index gfn walk.level)));
    })
loaded_counts z v a gfn walk small I lt O =
    walked_counts z (v.hand a).topics _ refl refl refl (refl, refl, refl, refl) refl refl (gone_span gfn _ walk _ O)
    (gone_entry (linked_page _) walk _ _ (small area.Pool _)) (I.counters a lt)

-- an entry was exchanged, for a number of 64 bits
exchanged_counts : (z : Sizes) (v : View) (a gfn new_ : ℕ) → ((b : Area) (i : ℕ) → v.words b i < 2 ^ 64) → TopicsInvariant z v → a < actors_of z
    → IsOver gfn (v.hand a).topics.walk → new_ < 2 ^ 64
    → CountersPart z (exchanged (entry_now gfn (v.hand a).topics v == (v.hand a).topics.walk.entry) (entry_index gfn (v.hand a).topics.walk.level) new_
    (v.hand a).topics (entry_now gfn (v.hand a).topics v))
exchanged_counts z v a gfn new_ small I lt O few =
    walked_counts z (v.hand a).topics _ refl refl refl (refl, refl, refl, refl) refl refl
    (exchanged_span gfn _ new_ (v.hand a).topics.walk _ O) (exchanged_entry _ (v.hand a).topics.walk _ new_ _ few (small area.Pool _)) (I.counters a lt)

counters_behind : (z : Sizes) (v : View) (a note : ℕ) (step : PartStep) → CountersBehind z v a note step
counters_behind z v a note (part.Map word) = map_counts z v a note word
counters_behind z v a note part.Claim = claim_counts z v a note
counters_behind z v a note part.Give = λ S I.
    let C = I.counters a S.there in
    all_count z v a _ I (other_counts z (v.hand a).topics _ C.slots C.claim (omega arith) C.watched refl refl refl C.frames C)
counters_behind z v a note part.GiveOld = λ S I.
    let C = I.counters a S.there in
    all_count z v a _ I (other_counts z (v.hand a).topics _ C.slots C.claim (omega arith) C.watched refl refl refl C.frames C)
counters_behind z v a note (part.Watch index) = watch_counts z v a note index
counters_behind z v a note part.Slots = λ S I.
    let C = I.counters a S.there in
    all_count z v a _ I (other_counts z (v.hand a).topics _ (omega arith) C.claim C.seen C.watched refl refl refl C.frames C)
counters_behind z v a note part.Slot = λ S I.
    let C = I.counters a S.there in
    all_count z v a _ I (other_counts z (v.hand a).topics _ (slot_counts (is_some (v.hand a).topics.search.set)
    (v.hand a).topics.search _ S.needs.1) C.claim C.seen C.watched refl refl refl C.frames C)
counters_behind z v a note part.Enter = λ S I. all_count z v a _ I (begun_counts z Guest (v.hand a).topics (I.counters a S.there))
counters_behind z v a note part.Leave = λ S I. all_count z v a _ I (begun_counts z Outside (v.hand a).topics (I.counters a S.there))
counters_behind z v a note part.Begin = λ S I. all_count z v a _ I (begun_counts z Section (v.hand a).topics (I.counters a S.there))
counters_behind z v a note part.End = λ S I. all_count z v a _ I (begun_counts z Outside (v.hand a).topics (I.counters a S.there))
counters_behind z v a note part.Unshare = λ S I.
    all_count z v a _ I (walked_counts z (v.hand a).topics _ refl refl refl (refl, refl, refl, refl) refl refl
    (let_go_span (v.hand a).topics.stay (v.hand a).topics (I.counters a S.there).span) (I.counters a S.there).entry (I.counters a S.there))
counters_behind z v a note part.Release = λ S I.
    all_count z v a _ I (walked_counts z (v.hand a).topics _ refl refl refl (refl, refl, refl, refl) refl refl
    (let_go_span (v.hand a).topics.stay (v.hand a).topics (I.counters a S.there).span) (I.counters a S.there).entry (I.counters a S.there))
counters_behind z v a note part.Seq = λ S I.
    let t : Topics = (v.hand a).topics in
    let C = I.counters a S.there in
    all_count z v a _ I (numbered_counts z t _ (snapshot_id (is_loose t.hold) t.search) refl refl refl refl
    (C.counted, seq_few (not (is_loose t.hold)) (v.words area.Seq 0) t.invalidations.seq I.few_ended C.seq, C.range) C.asked C)
counters_behind z v a note part.Count = λ S I.
    let C = I.counters a S.there in
    all_count z v a _ I (numbered_counts z (v.hand a).topics _ refl refl refl refl refl (count_few (actors_of z) _ _ I.counts, C.seq, C.range) C.asked C)
counters_behind z v a note part.RangeStart = λ S I.
    let C = I.counters a S.there in
    all_count z v a _ I (numbered_counts z (v.hand a).topics _ refl refl refl refl refl (C.counted, C.seq, (S.small area.RangeStart 0, C.range.1)) C.asked C)
counters_behind z v a note part.RangeEnd = λ S I.
    let C = I.counters a S.there in
    all_count z v a _ I (numbered_counts z (v.hand a).topics _ refl refl refl refl refl (C.counted, C.seq, (C.range.0, S.small area.RangeEnd 0)) C.asked C)
counters_behind z v a note (part.SetStart first gfn) = λ S I.
    let C = I.counters a S.there in
    all_count z v a _ I (numbered_counts z (v.hand a).topics _ refl refl refl refl refl (C.counted, C.seq, (S.needs.2, C.range.1)) C.asked C)
counters_behind z v a note (part.SetEnd last gfn) = λ S I.
    let C = I.counters a S.there in
    all_count z v a _ I (numbered_counts z (v.hand a).topics _ refl refl refl refl refl (C.counted, C.seq, (C.range.0, S.needs.2)) C.asked C)
counters_behind z v a note (part.SetCount count) = λ S I.
    let C = I.counters a S.there in
    all_count z v a _ I (numbered_counts z (v.hand a).topics _ refl refl refl refl refl
    (count_few (actors_of z) _ _ (counts_behind z v a note (part.SetCount count) S I), C.seq, C.range) C.asked C)
counters_behind z v a note (part.SetSeq seq) = λ S I.
    let C = I.counters a S.there in
    all_count z v a _ I (numbered_counts z (v.hand a).topics _ refl refl refl refl refl (C.counted, S.replaces, C.range) C.asked C)
counters_behind z v a note part.Exclude = λ S I.
    let C = I.counters a S.there in
    all_count z v a _ I (numbered_counts z (v.hand a).topics _ refl refl refl refl refl (C.counted, C.seq, C.range)
    (flush_few (v.words area.Lock 0 == 0 && not (v.hand a).topics.invalidations.opened) (v.hand a).topics.flush z.vcpus C.asked) C)
counters_behind z v a note (part.Ask index) = λ S I.
    let C = I.counters a S.there in
    let lt : index < z.vcpus = subst (λ (y : Sizes). index < y.vcpus) S.sizes S.needs.low in
    all_count z v a _ I (numbered_counts z (v.hand a).topics _ refl refl refl refl refl (C.counted, C.seq, C.range) (omega (arith, lt)) C)
counters_behind z v a note (part.Await index) = λ S I.
    let C = I.counters a S.there in all_count z v a _ I (numbered_counts z (v.hand a).topics _ refl refl refl refl refl (C.counted, C.seq, C.range) C.asked C)
counters_behind z v a note (part.Zap gfn) = λ S I.
    all_count z v a _ I (walked_counts z (v.hand a).topics _ refl refl refl (refl, refl, refl, refl) refl refl
    (gone_span gfn 0 (v.hand a).topics.walk None S.needs.saw.over) (omega arith) (I.counters a S.there))
counters_behind z v a note (part.Protect gfn) = λ S I.
    let seen : ℕ = (v.hand a).topics.walk.entry in
    let C = I.counters a S.there in
    let small = C.entry in
    let left : without_write seen < 2 ^ 64 = omega (arith, protected_least seen, small) in
    all_count z v a _ I (walked_counts z (v.hand a).topics _ refl refl refl (refl, refl, refl, refl) refl refl
    (gone_span gfn (without_write seen) (v.hand a).topics.walk None S.needs.saw.over) left C)
counters_behind z v a note part.Publish = λ S I.
    let C = I.counters a S.there in
    all_count z v a _ I (other_counts z (v.hand a).topics _ C.slots C.claim C.seen (omega arith) refl refl refl C.frames C)
counters_behind z v a note (part.Change new_) = λ S I.
    let C = I.counters a S.there in
    all_count z v a _ I (other_counts z (v.hand a).topics _ C.slots C.claim C.seen (omega arith) refl refl refl
    (changed_frames z (v.hand a).topics.frames C.frames _ (host_frame (word_looked (v.hand a).topics.host))) C)
counters_behind z v a note (part.FrameMap word) = λ S I. framed_counts z v a _ _ I S.there refl
    (map_frames z (v.hand a).topics.frames (I.counters a S.there).frames word (v.words area.FrameMap word)
    (subst (λ (y : Sizes). word < words_of_bits y.frames) S.sizes S.needs.1) (S.small area.FrameMap word))
counters_behind z v a note part.Frame = λ S I. framed_counts z v a _ _ I S.there refl
    (tried_frames z (v.hand a).topics.frames (I.counters a S.there).frames _ (S.small area.FrameMap (v.hand a).topics.frames.claim.at))
counters_behind z v a note (part.Copy index) = λ S I. framed_counts z v a _ _ I S.there refl
    (copied_frames z (v.hand a).topics.frames (I.counters a S.there).frames _ (S.small area.Content index))
counters_behind z v a note (part.Store index) = λ S I. framed_counts z v a _ _ I S.there refl
    (stored_frames z (v.hand a).topics.frames (I.counters a S.there).frames
    (subst (λ (y : Sizes). words_moved (v.hand a).topics.frames.owned < y.words) S.sizes S.needs.left))
counters_behind z v a note part.GiveFrame = λ S I. framed_counts z v a _ _ I S.there refl
    (given_frames z (v.hand a).topics.frames (I.counters a S.there).frames)
counters_behind z v a note part.Root = λ S I.
    all_count z v a _ I (walked_counts z (v.hand a).topics _ refl refl refl (refl, refl, refl, refl) refl refl
    (root_span (may_walk (v.hand a).topics.stay (v.hand a).topics.hold) (v.hand a).topics.walk (v.words area.Root 0)) (I.counters a S.there).entry
    (I.counters a S.there))
counters_behind z v a note (part.Walk gfn) = λ S I. all_count z v a _ I (loaded_counts z v a gfn (v.hand a).topics.walk S.small I S.there S.needs.0)
counters_behind z v a note (part.Sweep gfn) = λ S I.
    all_count z v a _ I (loaded_counts z v a gfn (gone_up (v.hand a).topics.walk) S.small I S.there S.needs.over)
counters_behind z v a note (part.WalkAnew gfn) = λ S I.
    all_count z v a _ I (loaded_counts z v a gfn (at_top (v.hand a).topics.walk) S.small I S.there (over_top gfn (v.hand a).topics.walk S.needs.small))
counters_behind z v a note (part.Link gfn) = λ S I.
    all_count z v a _ I (exchanged_counts z v a gfn _ S.small I S.there S.needs.0.saw.over S.written)
counters_behind z v a note (part.Leaf gfn write) = λ S I.
    all_count z v a _ I (exchanged_counts z v a gfn _ S.small I S.there S.needs.0.saw.over S.written)
counters_behind z v a note (part.Fix gfn) = λ S I.
    all_count z v a _ I (exchanged_counts z v a gfn _ S.small I S.there S.needs.saw.over S.written)
counters_behind z v a note _ = λ S I.
    all_count z v a _ I (same_counts z (v.hand a).topics _ refl refl refl (refl, refl, refl, refl) refl refl refl (I.counters a S.there))

pub counters_kept : (z : Sizes) (v : View) (a : ℕ) (step : PartStep) (note : ℕ) → IsPart z v a step → TopicsInvariant z v
    → CountersAt z (part_stepped a step note v)
counters_kept z v a step note S I = behind_step (CountersAt z) z v a step note S (counters_behind z v a note step S I)
