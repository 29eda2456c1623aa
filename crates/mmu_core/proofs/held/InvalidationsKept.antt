-- Each step of a part keeps how many invalidations are open, what actors have loaded of them under the lock, and that few have ended.
use Rattle.std.proofs.Common.{◌≡◌, ◌≢◌, ◌+◌, ◌-◌, ◌^◌, ◌<◌, ◌≤◌, ℕ, refl, sym, ap, ◌∙◌, arith}
use Rattle.std.specs.Prelude.{Bool, true, false, ◌==◌, nat_lt, not, if◌then◌else◌}
use Rattle.std.proofs.lemmas.Bool.Decides.{nat_tests}
use Rattle.core_views.specs.declared.sizes.Sizes.{Sizes}
use Rattle.core_views.specs.declared.topics.Checked.{Checked}
use Rattle.core_views.specs.declared.topics.Checked.TheVariants as checked
use Rattle.core_views.specs.declared.topics.Hold.{Hold}
use Rattle.core_views.specs.declared.topics.Hold.TheVariants.{Loose, Shared, Owing, Exclusive}
use Rattle.core_views.specs.declared.topics.Invalidations.{Invalidations}
use Rattle.core_views.specs.declared.topics.Topics.{Topics}
use Rattle.core_views.specs.Held.{Held}
use Rattle.core_views.specs.Sizes.{actors_of}
use Rattle.spte_words.specs.declared.area.Area.TheVariants as area
use Rattle.part_steps.specs.declared.part_step.PartStep.{PartStep}
use Rattle.part_steps.specs.declared.part_step.PartStep.TheVariants as part
use Rattle.part_steps.specs.ControlTopics.{count_checked, end_known, range_checked, seq_checked, start_checked, start_known}
use Rattle.part_steps.specs.InvalidationHoldings.{knows_count}
use Rattle.part_steps.specs.PartTopics.{part_topics, sequenced}
use Rattle.part_steps.specs.StayTopics.{has_lock, is_alone, is_loose}
use Rattle.mmu_core.specs.invariant.InvalidationsPart.{CheckedPart, CountPart, knows_end, knows_seq, knows_start}
use Rattle.mmu_core.specs.invariant.LockPart.{LockPart, is_shared}
use Rattle.mmu_core.specs.invariant.TopicsInvariant.{TopicsInvariant}
use Rattle.mmu_core.specs.machine.Sums.{one_if}
use Rattle.mmu_core.specs.machine.View.{View, part_stepped, upd}
use Rattle.mmu_core.proofs.machine.Columns.{at_upd}
use Rattle.mmu_core.proofs.machine.PartStepping.{IsPart}
use Rattle.mmu_core.proofs.machine.SumsBelow.{framed, one_small, sum_ge, sum_le, sum_two, sum_upd}
use Rattle.mmu_core.proofs.words.PartTopics.{behind_step, part_behind}

-- ---- Who has the lock while another actor has it alone.

-- Nobody else has it then.
pub alone_holds : (n lock : ℕ) (hold : ℕ → Hold) (a i : ℕ) → a < n → i < n → i ≢ a → LockPart n lock hold → hold a ≡ Exclusive → has_lock (hold i) ≡ false
alone_holds n lock hold a i there lt ne L alone = by (hold i) refl
  where
    mine : one_if (is_alone (hold a)) ≡ 1
    mine = ap (λ x. one_if (is_alone x)) alone

    by : (x : Hold) → hold i ≡ x → has_lock (hold i) ≡ false
    by Loose is = ap has_lock is
    by (Owing word) is = ap has_lock is
    by Shared is =
        let its : one_if (is_shared (hold i)) ≡ 1 = ap (λ x. one_if (is_shared x)) is in
        let ge = sum_ge n (λ j. one_if (is_alone (hold j))) a there in
        let none = L.alone (omega (arith, ge, mine)) in
        absurd (omega (arith, none, its, sum_ge n (λ j. one_if (is_shared (hold j))) i lt))
    by Exclusive is =
        let its : one_if (is_alone (hold i)) ≡ 1 = ap (λ x. one_if (is_alone x)) is in
        absurd (omega (arith, L.one, mine, its, sum_two n (λ j. one_if (is_alone (hold j))) i a lt there ne))

-- ---- How many are open.

abbrev pub CountAt : Sizes → View → Type 0
CountAt z v = CountPart (actors_of z) (v.words area.Count 0) (λ i. (v.hand i).topics.invalidations.opened)

pub count_few : (n count : ℕ) (opened : ℕ → Bool) → CountPart n count opened → count ≤ n
count_few n count opened C = omega (arith, C, sum_le n (λ i. one_if (opened i)) (λ i. one_small (opened i)))

-- One more is open with the actor's own, or one less without it.
counted_on : (n : ℕ) (hand : ℕ → Held) (a : ℕ) (h : Held) (was : Bool) (count now : ℕ) → a < n → (hand a).topics.invalidations.opened ≡ was
    → now ≡ (if was then count - 1 else count + 1)
    → h.topics.invalidations.opened ≡ nat_lt count now → CountPart n count (λ i. (hand i).topics.invalidations.opened)
    → CountPart n now (λ i. (upd hand a h i).topics.invalidations.opened)
counted_on n hand a h true count now lt is now_is opened C =
    let own : one_if (hand a).topics.invalidations.opened ≡ 1 = ap one_if is in
    let less : nat_lt count now ≡ false = grind (arith, nat_tests) in
    let none : one_if h.topics.invalidations.opened ≡ 0 = ap one_if (opened ∙ less) in
    omega (arith, C, own, none, now_is, sum_upd (λ (k : Held). one_if k.topics.invalidations.opened) n hand a h lt)
counted_on n hand a h false count now lt is now_is opened C =
    let own : one_if (hand a).topics.invalidations.opened ≡ 0 = ap one_if is in
    let more : nat_lt count now ≡ true = grind (arith, nat_tests) in
    let one : one_if h.topics.invalidations.opened ≡ 1 = ap one_if (opened ∙ more) in
    omega (arith, C, own, one, now_is, sum_upd (λ (k : Held). one_if k.topics.invalidations.opened) n hand a h lt)

abbrev CountBehind : Sizes → View → ℕ → ℕ → PartStep → Type 0
CountBehind z v a note step = IsPart z v a step → TopicsInvariant z v → CountAt z (part_behind a step note v)

set_counts : (z : Sizes) (v : View) (a note count : ℕ) → CountBehind z v a note (part.SetCount count)
set_counts z v a note count S I =
    let t : Topics = (v.hand a).topics in
    let was : t.invalidations.count ≡ v.words area.Count 0 = (I.checks a S.there).counted (ap has_lock S.needs.0.alone) S.needs.0.knows in
    counted_on (actors_of z) v.hand a _ t.invalidations.opened t.invalidations.count count S.there refl S.needs.0.is refl (was ∙ I.counts)

pub counts_behind : (z : Sizes) (v : View) (a note : ℕ) (step : PartStep) → CountBehind z v a note step
counts_behind z v a note (part.SetCount count) = set_counts z v a note count
counts_behind z v a note _ = λ S I. framed (λ (c : ℕ → Bool). CountPart (actors_of z) (v.words area.Count 0) c)
    (λ (k : Held). k.topics.invalidations.opened) v.hand a _ refl I.counts

pub counts_kept : (z : Sizes) (v : View) (a : ℕ) (step : PartStep) (note : ℕ) → IsPart z v a step → TopicsInvariant z v → CountAt z (part_stepped a step note v)
counts_kept z v a step note S I = behind_step (CountAt z) z v a step note S (counts_behind z v a note step S I)

-- ---- What was loaded under the lock.

-- Nothing is known, or the actor doesn't have the lock.
unknown : (count start end_ seq : ℕ) (t : Topics) → t.invalidations.checked ≡ checked.Nothing → CheckedPart count start end_ seq t
unknown count start end_ seq t is = record {
  counted = λ lock knows. absurd (let none : knows_count t.invalidations.checked ≡ false = ap knows_count is in cc (none, knows));
  started = λ lock knows. absurd (let none : knows_start t.invalidations.checked ≡ false = ap knows_start is in cc (none, knows));
  ended = λ lock knows. absurd (let none : knows_end t.invalidations.checked ≡ false = ap knows_end is in cc (none, knows));
  numbered = λ lock knows. absurd (let none : knows_seq t.invalidations.checked ≡ false = ap knows_seq is in cc (none, knows));
}

without_lock : (count start end_ seq : ℕ) (t : Topics) → has_lock t.hold ≡ false → CheckedPart count start end_ seq t
without_lock count start end_ seq t none = record {
  counted = λ lock knows. absurd (cc (none, lock));
  started = λ lock knows. absurd (cc (none, lock));
  ended = λ lock knows. absurd (cc (none, lock));
  numbered = λ lock knows. absurd (cc (none, lock));
}

-- how far the check has come after each load
abbrev Never : (Checked → Bool) → Checked → Type 0
Never knows c = knows c ≡ true → ⊥

count_only : (b : Bool) → Never knows_start (if b then checked.Count else checked.Nothing)
    × Never knows_end (if b then checked.Count else checked.Nothing) × Never knows_seq (if b then checked.Count else checked.Nothing)
count_only true = (λ e. cc e, λ e. cc e, λ e. cc e)
count_only false = (λ e. cc e, λ e. cc e, λ e. cc e)

start_only : (c : Checked)
    → (knows_count (start_checked c) ≡ true → knows_count c ≡ true) × Never knows_end (start_checked c) × Never knows_seq (start_checked c)
start_only checked.Count = (λ e. refl, λ e. cc e, λ e. cc e)
start_only _ = (λ e. absurd (cc e), λ e. cc e, λ e. cc e)

range_only : (c : Checked) → (knows_count (range_checked c) ≡ true → knows_count c ≡ true)
    × (knows_start (range_checked c) ≡ true → knows_start c ≡ true) × Never knows_seq (range_checked c)
range_only checked.Start = (λ e. refl, λ e. refl, λ e. cc e)
range_only _ = (λ e. absurd (cc e), λ e. absurd (cc e), λ e. cc e)

seq_only : (locked : Bool) (n : ℕ) (c : Checked) → (knows_count (seq_checked locked n c) ≡ true → knows_count c ≡ true)
    × Never knows_start (seq_checked locked n c) × Never knows_end (seq_checked locked n c)
seq_only locked n checked.Count = by (n == 0)
  where
    by : (b : Bool) → (knows_count (if b then checked.All else checked.Nothing) ≡ true → true ≡ true)
        × Never knows_start (if b then checked.All else checked.Nothing) × Never knows_end (if b then checked.All else checked.Nothing)
    by true = (λ e. refl, λ e. cc e, λ e. cc e)
    by false = (λ e. refl, λ e. cc e, λ e. cc e)
seq_only locked n checked.Nothing = by locked
  where
    by : (b : Bool) → (knows_count (if b then checked.Seq else checked.Nothing) ≡ true → false ≡ true)
        × Never knows_start (if b then checked.Seq else checked.Nothing) × Never knows_end (if b then checked.Seq else checked.Nothing)
    by true = (λ e. e, λ e. cc e, λ e. cc e)
    by false = (λ e. e, λ e. cc e, λ e. cc e)
seq_only locked n checked.Range = (λ e. refl, λ e. cc e, λ e. cc e)
seq_only locked n _ = (λ e. absurd (cc e), λ e. cc e, λ e. cc e)

-- and after each store
start_more : (c : Checked) → (knows_count (start_known c) ≡ true → knows_count c ≡ true) × (knows_end (start_known c) ≡ true → knows_end c ≡ true)
    × (knows_seq (start_known c) ≡ true → knows_seq c ≡ true)
start_more checked.Count = (λ e. refl, λ e. cc e, λ e. cc e)
start_more _ = (λ e. e, λ e. e, λ e. e)

end_more : (c : Checked) → (knows_count (end_known c) ≡ true → knows_count c ≡ true) × (knows_start (end_known c) ≡ true → knows_start c ≡ true)
    × (knows_seq (end_known c) ≡ true → knows_seq c ≡ true)
end_more checked.Start = (λ e. refl, λ e. refl, λ e. cc e)
end_more _ = (λ e. e, λ e. e, λ e. e)

not_loose : (h : Hold) → has_lock h ≡ true → is_loose h ≡ false
not_loose Loose lock = absurd (cc lock)
not_loose _ lock = refl

module _ (count start end_ seq : ℕ) (t : Topics) (C : CheckedPart count start end_ seq t) where
  count_loaded : CheckedPart count start end_ seq (record t { invalidations = record t.invalidations { count = count; checked = count_checked t.hold } })
  count_loaded = let only = count_only (has_lock t.hold) in record {
    counted = λ lock knows. refl;
    started = λ lock knows. absurd (only.0 knows);
    ended = λ lock knows. absurd (only.1 knows);
    numbered = λ lock knows. absurd (only.2 knows);
  }

  start_loaded : CheckedPart count start end_ seq (record t {
    invalidations = record t.invalidations {
      start = start;
      checked = start_checked t.invalidations.checked;
    };
  })
  start_loaded = let only = start_only t.invalidations.checked in record {
    counted = λ lock knows. C.counted lock (only.0 knows);
    started = λ lock knows. refl;
    ended = λ lock knows. absurd (only.1 knows);
    numbered = λ lock knows. absurd (only.2 knows);
  }

  end_loaded : CheckedPart count start end_ seq (record t {
    invalidations = record t.invalidations {
      end = end_;
      checked = range_checked t.invalidations.checked;
    };
  })
  end_loaded = let only = range_only t.invalidations.checked in record {
    counted = λ lock knows. C.counted lock (only.0 knows);
    started = λ lock knows. C.started lock (only.1 knows);
    ended = λ lock knows. refl;
    numbered = λ lock knows. absurd (only.2 knows);
  }

  seq_loaded : CheckedPart count start end_ seq (sequenced (is_loose t.hold) t seq)
  seq_loaded = let only = seq_only (has_lock t.hold) t.invalidations.count t.invalidations.checked in record {
    counted = λ lock knows. C.counted lock (only.0 knows);
    started = λ lock knows. absurd (only.1 knows);
    ended = λ lock knows. absurd (only.2 knows);
    numbered = λ lock knows. ap (λ (b : Bool). if not b then seq else t.invalidations.seq) (not_loose t.hold lock);
  }

  start_stored : (first gfn : ℕ) → CheckedPart count gfn end_ seq (part_topics (part.SetStart first gfn) t gfn)
  start_stored first gfn = let more = start_more t.invalidations.checked in record {
    counted = λ lock knows. C.counted lock (more.0 knows);
    started = λ lock knows. refl;
    ended = λ lock knows. C.ended lock (more.1 knows);
    numbered = λ lock knows. C.numbered lock (more.2 knows);
  }

  end_stored : (last gfn : ℕ) → CheckedPart count start gfn seq (part_topics (part.SetEnd last gfn) t gfn)
  end_stored last gfn = let more = end_more t.invalidations.checked in record {
    counted = λ lock knows. C.counted lock (more.0 knows);
    started = λ lock knows. C.started lock (more.1 knows);
    ended = λ lock knows. refl;
    numbered = λ lock knows. C.numbered lock (more.2 knows);
  }

  same_checked : (s : Topics) → s.hold ≡ t.hold → s.invalidations ≡ t.invalidations → CheckedPart count start end_ seq s
  same_checked s hold same = record {
    counted = λ lock knows. ap (λ (n : Invalidations). n.count) same ∙ C.counted (sym (ap has_lock hold) ∙ lock)
        (sym (ap (λ (n : Invalidations). knows_count n.checked) same) ∙ knows);
    started = λ lock knows. ap (λ (n : Invalidations). n.start) same ∙ C.started (sym (ap has_lock hold) ∙ lock)
        (sym (ap (λ (n : Invalidations). knows_start n.checked) same) ∙ knows);
    ended = λ lock knows. ap (λ (n : Invalidations). n.end) same ∙ C.ended (sym (ap has_lock hold) ∙ lock)
        (sym (ap (λ (n : Invalidations). knows_end n.checked) same) ∙ knows);
    numbered = λ lock knows. ap (λ (n : Invalidations). n.seq) same ∙ C.numbered (sym (ap has_lock hold) ∙ lock)
        (sym (ap (λ (n : Invalidations). knows_seq n.checked) same) ∙ knows);
  }

-- of a view
abbrev pub ChecksAt : Sizes → View → Type 0
ChecksAt z v = (i : ℕ) → i < actors_of z → CheckedPart (v.words area.Count 0) (v.words area.RangeStart 0) (v.words area.RangeEnd 0) (v.words area.Seq 0)
    (v.hand i).topics

abbrev ChecksBehind : Sizes → View → ℕ → ℕ → PartStep → Type 0
ChecksBehind z v a note step = IsPart z v a step → TopicsInvariant z v → ChecksAt z (part_behind a step note v)

-- The words stay, and the actor's own hand has loaded what they hold.
all_checked : (z : Sizes) (v : View) (a : ℕ) (h : Held) → TopicsInvariant z v
    → CheckedPart (v.words area.Count 0) (v.words area.RangeStart 0) (v.words area.RangeEnd 0) (v.words area.Seq 0) h.topics
    → ChecksAt z (record { words = v.words; hand = upd v.hand a h })
all_checked z v a h I here =
    at_upd (λ i (k : Held). i < actors_of z → CheckedPart (v.words area.Count 0) (v.words area.RangeStart 0) (v.words area.RangeEnd 0)
    (v.words area.Seq 0) k.topics) v.hand a h (λ lt. here) (λ i ne. I.checks i)

-- A word is stored by who has the lock alone: no other actor has it.
stored_checked : (z : Sizes) (v : View) (a count start end_ seq : ℕ) (h : Held) → a < actors_of z → TopicsInvariant z v
    → (v.hand a).topics.hold ≡ Exclusive → CheckedPart count start end_ seq h.topics
    → (i : ℕ) → i < actors_of z → CheckedPart count start end_ seq (upd v.hand a h i).topics
stored_checked z v a count start end_ seq h there I alone here =
    at_upd (λ i (k : Held). i < actors_of z → CheckedPart count start end_ seq k.topics) v.hand a h (λ lt. here)
    (λ i ne lt. without_lock count start end_ seq (v.hand i).topics (alone_holds (actors_of z) (v.words area.Lock 0)
    (λ j. (v.hand j).topics.hold) a i there lt ne I.lock_part alone))

checks_behind : (z : Sizes) (v : View) (a note : ℕ) (step : PartStep) → ChecksBehind z v a note step
checks_behind z v a note part.Enter = λ S I. all_checked z v a _ I (unknown _ _ _ _ _ refl)
checks_behind z v a note part.Leave = λ S I. all_checked z v a _ I (unknown _ _ _ _ _ refl)
checks_behind z v a note part.Begin = λ S I. all_checked z v a _ I (unknown _ _ _ _ _ refl)
checks_behind z v a note part.End = λ S I. all_checked z v a _ I (unknown _ _ _ _ _ refl)
checks_behind z v a note part.Share = λ S I. all_checked z v a _ I (unknown _ _ _ _ _ refl)
checks_behind z v a note part.Unshare = λ S I. all_checked z v a _ I (unknown _ _ _ _ _ refl)
checks_behind z v a note part.Exclude = λ S I. all_checked z v a _ I (unknown _ _ _ _ _ refl)
checks_behind z v a note part.Release = λ S I. all_checked z v a _ I (unknown _ _ _ _ _ refl)
checks_behind z v a note part.Seq = λ S I. all_checked z v a _ I (seq_loaded _ _ _ _ (v.hand a).topics (I.checks a S.there))
checks_behind z v a note part.Count = λ S I. all_checked z v a _ I (count_loaded _ _ _ _ (v.hand a).topics (I.checks a S.there))
checks_behind z v a note part.RangeStart = λ S I. all_checked z v a _ I (start_loaded _ _ _ _ (v.hand a).topics (I.checks a S.there))
checks_behind z v a note part.RangeEnd = λ S I. all_checked z v a _ I (end_loaded _ _ _ _ (v.hand a).topics (I.checks a S.there))
checks_behind z v a note (part.SetStart first gfn) = λ S I. stored_checked z v a _ gfn _ _ _ S.there I S.needs.0.opening.alone
    (start_stored _ _ _ _ (v.hand a).topics (I.checks a S.there) first gfn)
checks_behind z v a note (part.SetEnd last gfn) = λ S I. stored_checked z v a _ _ gfn _ _ S.there I S.needs.0.opening.alone
    (end_stored _ _ _ _ (v.hand a).topics (I.checks a S.there) last gfn)
checks_behind z v a note (part.SetCount count) = λ S I. stored_checked z v a count _ _ _ _ S.there I S.needs.0.alone (unknown _ _ _ _ _ refl)
checks_behind z v a note (part.SetSeq seq) = λ S I. stored_checked z v a _ _ _ seq _ S.there I S.needs.0.alone (unknown _ _ _ _ _ refl)
checks_behind z v a note part.ChangeNext = λ S I.
    let C = I.checks a S.there in
    all_checked z v a _ I (record { counted = C.counted; started = C.started; ended = C.ended; numbered = C.numbered })
checks_behind z v a note _ = λ S I. all_checked z v a _ I (same_checked _ _ _ _ (v.hand a).topics (I.checks a S.there) _ refl refl)

pub checks_kept : (z : Sizes) (v : View) (a : ℕ) (step : PartStep) (note : ℕ) → IsPart z v a step → TopicsInvariant z v
    → ChecksAt z (part_stepped a step note v)
checks_kept z v a step note S I = behind_step (ChecksAt z) z v a step note S (checks_behind z v a note step S I)

-- ---- The sequence number.

few_behind : (z : Sizes) (v : View) (a note : ℕ) (step : PartStep) → IsPart z v a step → TopicsInvariant z v
    → (part_behind a step note v).words area.Seq 0 < 2 ^ 40
few_behind z v a note (part.SetSeq seq) S I = S.replaces
few_behind z v a note _ S I = I.few_ended

pub few_kept : (z : Sizes) (v : View) (a : ℕ) (step : PartStep) (note : ℕ) → IsPart z v a step → TopicsInvariant z v
    → (part_stepped a step note v).words area.Seq 0 < 2 ^ 40
few_kept z v a step note S I = behind_step (λ (w : View). w.words area.Seq 0 < 2 ^ 40) z v a step note S (few_behind z v a note step S I)
