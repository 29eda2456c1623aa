-- The counters of what an actor holds after each step, over plain topics.
use Rattle.std.proofs.Common.{◌≡◌, ◌+◌, ◌^◌, ◌<◌, ◌≤◌, ℕ, sym, subst, arith}
use Rattle.std.specs.Prelude.{Bool, true, false, if◌then◌else◌}
use Rattle.core_views.specs.declared.place.SlotField.{SlotField}
use Rattle.core_views.specs.declared.place.SlotField.TheVariants as field
use Rattle.core_views.specs.declared.sizes.Sizes.{Sizes}
use Rattle.core_views.specs.declared.topics.Invalidations.{Invalidations}
use Rattle.core_views.specs.declared.topics.MapClaim.{MapClaim}
use Rattle.core_views.specs.declared.topics.SlotSearch.{SlotSearch}
use Rattle.core_views.specs.declared.topics.TableWalk.{TableWalk}
use Rattle.core_views.specs.declared.topics.Topics.{Topics}
use Rattle.core_views.specs.Held.{Held}
use Rattle.core_views.specs.Sizes.{actors_of}
use Rattle.spte_words.specs.Areas.{words_of_bits}
use Rattle.spte_words.specs.Flags.{flags_live}
use Rattle.part_steps.specs.declared.part_step.PartStep.{PartStep}
use Rattle.part_steps.specs.PartBounds.{CountersPart, FrameCountersPart}
use Rattle.mmu_core.specs.invariant.TopicsInvariant.{TopicsInvariant}
use Rattle.part_steps.specs.PageTopics.{searched, searched_at}
use Rattle.mmu_core.specs.machine.View.{View, upd}
use Rattle.core_views.specs.declared.topics.Flush.{Flush}
use Rattle.mmu_core.proofs.held.WalkSpans.{SpanFits}
use Rattle.mmu_core.proofs.machine.Columns.{at_upd}
use Rattle.mmu_core.proofs.machine.PartStepping.{IsPart}
use Rattle.mmu_core.proofs.words.PartTopics.{part_behind}

-- of a view
abbrev pub CountersAt : Sizes → View → Type 0
CountersAt z v = (i : ℕ) → i < actors_of z → CountersPart z (v.hand i).topics

pub searched_id : (f : SlotField) (s : SlotSearch) (v : ℕ) → s.id ≤ 31 → (searched_at f s v).id ≤ 32
searched_id field.Flags s v le = by (flags_live v)
  where
    by : (b : Bool) → (if b then s.id else s.id + 1) ≤ 32
    by true = omega (arith, le)
    by false = omega (arith, le)
searched_id _ s v le = omega (arith, le)

pub slot_counts : (b : Bool) (s : SlotSearch) (v : ℕ) → s.id ≤ 31 → (if b then searched s v else s).id ≤ 32
slot_counts true s v le = searched_id s.next s v le
slot_counts false s v le = omega (arith, le)

pub all_count : (z : Sizes) (v : View) (a : ℕ) (h : Held) → TopicsInvariant z v → CountersPart z h.topics → (i : ℕ) → i < actors_of z
    → CountersPart z (upd v.hand a h i).topics
all_count z v a h I here = at_upd (λ i (k : Held). i < actors_of z → CountersPart z k.topics) v.hand a h (λ lt. here) (λ i ne. I.counters i)

-- the numbers that were loaded of the invalidations, or stored: as before; and within what they count
abbrev pub SameNumbers : Invalidations → Invalidations → Type 0
SameNumbers n m = (n.count ≡ m.count) × (n.seq ≡ m.seq) × (n.start ≡ m.start) × (n.end ≡ m.end)

abbrev pub Numbers : Sizes → Invalidations → Type 0
Numbers z n = (n.count ≤ actors_of z) × (n.seq < 2 ^ 40) × ((n.start < 2 ^ 64) × (n.end < 2 ^ 64))

-- a hand that keeps its counters but the walk's
pub walked_counts : (z : Sizes) (t s : Topics) → s.search.id ≡ t.search.id → s.claim ≡ t.claim → s.watched ≡ t.watched
    → SameNumbers s.invalidations t.invalidations → s.flush ≡ t.flush → s.frames ≡ t.frames → SpanFits s.walk → s.walk.entry < 2 ^ 64
    → CountersPart z t → CountersPart z s
walked_counts z t s id claim watched numbers flush frames span entry C = record {
  slots = omega (arith, id, C.slots);
  claim = subst (λ (c : MapClaim). c.at ≤ words_of_bits z.pool) (sym claim) C.claim;
  seen = subst (λ (c : MapClaim). c.seen < 2 ^ 64) (sym claim) C.seen;
  watched = omega (arith, watched, C.watched);
  span = span;
  entry = entry;
  counted = omega (arith, numbers.0, C.counted);
  seq = omega (arith, numbers.1, C.seq);
  range = (omega (arith, numbers.2, C.range.0), omega (arith, numbers.3, C.range.1));
  asked = subst (λ (f : Flush). f.asked ≤ z.vcpus) (sym flush) C.asked;
  frames = subst (FrameCountersPart z) (sym frames) C.frames;
}

-- a hand that keeps its counters
pub same_counts : (z : Sizes) (t s : Topics) → s.search.id ≡ t.search.id → s.claim ≡ t.claim → s.watched ≡ t.watched
    → SameNumbers s.invalidations t.invalidations → s.flush ≡ t.flush → s.frames ≡ t.frames → s.walk ≡ t.walk → CountersPart z t → CountersPart z s
same_counts z t s id claim watched numbers flush frames walk C =
    walked_counts z t s id claim watched numbers flush frames (subst SpanFits (sym walk) C.span)
    (subst (λ (w : TableWalk). w.entry < 2 ^ 64) (sym walk) C.entry) C

-- a hand that keeps its counters but those of the invalidations and of the flush
pub numbered_counts : (z : Sizes) (t s : Topics) → s.search.id ≡ t.search.id → s.claim ≡ t.claim → s.watched ≡ t.watched → s.walk ≡ t.walk
    → s.frames ≡ t.frames → Numbers z s.invalidations → s.flush.asked ≤ z.vcpus → CountersPart z t → CountersPart z s
numbered_counts z t s id claim watched walk frames numbers asked C = record {
  slots = omega (arith, id, C.slots);
  claim = subst (λ (c : MapClaim). c.at ≤ words_of_bits z.pool) (sym claim) C.claim;
  seen = subst (λ (c : MapClaim). c.seen < 2 ^ 64) (sym claim) C.seen;
  watched = omega (arith, watched, C.watched);
  span = subst SpanFits (sym walk) C.span;
  entry = subst (λ (w : TableWalk). w.entry < 2 ^ 64) (sym walk) C.entry;
  counted = numbers.0;
  seq = numbers.1;
  asked = asked;
  range = numbers.2;
  frames = subst (FrameCountersPart z) (sym frames) C.frames;
}

-- a hand that keeps its counters but those of the slots, of the claims, of the watch and of the frame that is owned
pub other_counts : (z : Sizes) (t s : Topics) → s.search.id ≤ 32 → s.claim.at ≤ words_of_bits z.pool → s.claim.seen < 2 ^ 64 → s.watched ≤ actors_of z
    → s.walk ≡ t.walk → s.invalidations ≡ t.invalidations → s.flush ≡ t.flush → FrameCountersPart z s.frames → CountersPart z t → CountersPart z s
other_counts z t s slots claim seen watched walk same flush frames C = record {
  slots = slots;
  claim = claim;
  seen = seen;
  watched = watched;
  span = subst SpanFits (sym walk) C.span;
  entry = subst (λ (w : TableWalk). w.entry < 2 ^ 64) (sym walk) C.entry;
  counted = subst (λ (n : Invalidations). n.count ≤ actors_of z) (sym same) C.counted;
  seq = subst (λ (n : Invalidations). n.seq < 2 ^ 40) (sym same) C.seq;
  asked = subst (λ (f : Flush). f.asked ≤ z.vcpus) (sym flush) C.asked;
  range = subst (λ (n : Invalidations). (n.start < 2 ^ 64) × (n.end < 2 ^ 64)) (sym same) C.range;
  frames = frames;
}

abbrev pub CountersBehind : Sizes → View → ℕ → ℕ → PartStep → Type 0
CountersBehind z v a note step = IsPart z v a step → TopicsInvariant z v → CountersAt z (part_behind a step note v)
