-- Where a check under the lock has come to its end with invalidations open, the range that was loaded is what its words hold: each step of a part keeps it.
use Rattle.std.proofs.Common.{◌≡◌, ◌<◌, ℕ, refl, ap, arith}
use Rattle.std.specs.Prelude.{Bool, true, false, ◌==◌, if◌then◌else◌}
use Rattle.std.proofs.lemmas.Bool.Decides.{nat_tests}
use Rattle.core_views.specs.declared.sizes.Sizes.{Sizes}
use Rattle.core_views.specs.declared.topics.Checked.{Checked}
use Rattle.core_views.specs.declared.topics.Checked.TheVariants as checked
use Rattle.core_views.specs.declared.topics.Hold.TheVariants.{Exclusive}
use Rattle.core_views.specs.declared.topics.Topics.{Topics}
use Rattle.core_views.specs.Held.{Held}
use Rattle.core_views.specs.Sizes.{actors_of}
use Rattle.spte_words.specs.declared.area.Area.TheVariants as area
use Rattle.part_steps.specs.declared.part_step.PartStep.{PartStep}
use Rattle.part_steps.specs.declared.part_step.PartStep.TheVariants as part
use Rattle.part_steps.specs.ControlTopics.{end_known, range_checked, seq_checked, start_checked, start_known}
use Rattle.part_steps.specs.InvalidationHoldings.{has_counted, has_widened}
use Rattle.part_steps.specs.PartTopics.{sequenced}
use Rattle.part_steps.specs.StayTopics.{has_lock, is_loose}
use Rattle.mmu_core.specs.invariant.InvalidationsPart.{CheckedPart, KnownRangePart, knows_end, knows_start}
use Rattle.mmu_core.specs.invariant.TopicsInvariant.{TopicsInvariant}
use Rattle.mmu_core.specs.machine.View.{View, part_stepped, upd}
use Rattle.mmu_core.proofs.held.InvalidationsKept.{alone_holds}
use Rattle.mmu_core.proofs.machine.Columns.{at_upd}
use Rattle.mmu_core.proofs.machine.PartStepping.{IsPart}
use Rattle.mmu_core.proofs.words.PartTopics.{behind_step, part_behind}

-- ---- Which loads and stores come to the check's end.

-- A load of the count doesn't, nor does one of the range.
count_not_end : (locked : Bool) → ◌≡◌ {A = Checked} (if locked then checked.Count else checked.Nothing) checked.All → ⊥
count_not_end true e = cc e
count_not_end false e = cc e

start_not_end : (c : Checked) → start_checked c ≡ checked.All → ⊥
start_not_end checked.Count e = cc e
start_not_end _ e = cc e

range_not_end : (c : Checked) → range_checked c ≡ checked.All → ⊥
range_not_end checked.Start e = cc e
range_not_end _ e = cc e

-- A load of the sequence number does after the range, or after a count of 0.
seq_at_end : (locked : Bool) (count : ℕ) (c : Checked) → seq_checked locked count c ≡ checked.All → 0 < count → c ≡ checked.Range
seq_at_end locked count checked.Count e some = absurd (by (count == 0) refl e)
  where
    by : (none : Bool) → (count == 0) ≡ none → ◌≡◌ {A = Checked} (if none then checked.All else checked.Nothing) checked.All → ⊥
    by true is at_end = grind (arith, nat_tests)
    by false is at_end = cc at_end
seq_at_end locked count checked.Nothing e some = absurd (by locked e)
  where
    by : (b : Bool) → ◌≡◌ {A = Checked} (if b then checked.Seq else checked.Nothing) checked.All → ⊥
    by true at_end = cc at_end
    by false at_end = cc at_end
seq_at_end locked count checked.Range e some = refl
seq_at_end locked count _ e some = absurd (cc e)

-- Before a store of the range it wasn't there.
start_no_end : (c : Checked) (count : ℕ) → has_counted c count ≡ true → start_known c ≡ checked.All → ⊥
start_no_end checked.All count counted e = cc counted
start_no_end checked.Count count counted e = cc e
start_no_end _ count counted e = cc e

end_no_end : (c : Checked) (count : ℕ) → has_widened c count ≡ true → end_known c ≡ checked.All → ⊥
end_no_end checked.All count widened e = cc widened
end_no_end checked.Start count widened e = cc e
end_no_end _ count widened e = cc e

seq_known : (count start end_ seq v : ℕ) (t : Topics) → CheckedPart count start end_ seq t → KnownRangePart start end_ (sequenced (is_loose t.hold) t v)
seq_known count start end_ seq v t C lock at_end some =
    let is : t.invalidations.checked ≡ checked.Range = seq_at_end (has_lock t.hold) t.invalidations.count t.invalidations.checked at_end some in
    (C.started lock (ap knows_start is), C.ended lock (ap knows_end is))

-- ---- Each step.

-- of a view
abbrev pub KnownRangeAt : Sizes → View → Type 0
KnownRangeAt z v = (i : ℕ) → i < actors_of z → KnownRangePart (v.words area.RangeStart 0) (v.words area.RangeEnd 0) (v.hand i).topics

abbrev KnownBehind : Sizes → View → ℕ → ℕ → PartStep → Type 0
KnownBehind z v a note step = IsPart z v a step → TopicsInvariant z v → KnownRangeAt z v → KnownRangeAt z (part_behind a step note v)

-- The words of the range stay.
all_known : (z : Sizes) (v : View) (a : ℕ) (h : Held) → KnownRangeAt z v → KnownRangePart (v.words area.RangeStart 0) (v.words area.RangeEnd 0) h.topics
    → KnownRangeAt z (record { words = v.words; hand = upd v.hand a h })
all_known z v a h K here =
    at_upd (λ i (k : Held). i < actors_of z → KnownRangePart (v.words area.RangeStart 0) (v.words area.RangeEnd 0) k.topics) v.hand a h (λ lt. here)
    (λ i ne. K i)

-- A word of the range is stored by who has the lock alone: no other actor has it.
stored_known : (z : Sizes) (v : View) (a start end_ : ℕ) (h : Held) → a < actors_of z → TopicsInvariant z v → (v.hand a).topics.hold ≡ Exclusive
    → KnownRangePart start end_ h.topics → (i : ℕ) → i < actors_of z → KnownRangePart start end_ (upd v.hand a h i).topics
stored_known z v a start end_ h there I alone here =
    at_upd (λ i (k : Held). i < actors_of z → KnownRangePart start end_ k.topics) v.hand a h (λ lt. here)
    (λ i ne lt lock.
    let none = alone_holds (actors_of z) (v.words area.Lock 0) (λ j. (v.hand j).topics.hold) a i there lt ne I.lock_part alone in
    absurd (cc (none, lock)))

known_behind : (z : Sizes) (v : View) (a note : ℕ) (step : PartStep) → KnownBehind z v a note step
known_behind z v a note part.Enter = λ S I K. all_known z v a _ K (λ lock at_end. absurd (cc at_end))
known_behind z v a note part.Leave = λ S I K. all_known z v a _ K (λ lock at_end. absurd (cc at_end))
known_behind z v a note part.Begin = λ S I K. all_known z v a _ K (λ lock at_end. absurd (cc at_end))
known_behind z v a note part.End = λ S I K. all_known z v a _ K (λ lock at_end. absurd (cc at_end))
known_behind z v a note part.Share = λ S I K. all_known z v a _ K (λ lock at_end. absurd (cc at_end))
known_behind z v a note part.Unshare = λ S I K. all_known z v a _ K (λ lock at_end. absurd (cc at_end))
known_behind z v a note part.Exclude = λ S I K. all_known z v a _ K (λ lock at_end. absurd (cc at_end))
known_behind z v a note part.Release = λ S I K. all_known z v a _ K (λ lock at_end. absurd (cc at_end))
known_behind z v a note part.Seq = λ S I K. all_known z v a _ K (seq_known _ _ _ _ (v.words area.Seq 0) (v.hand a).topics (I.checks a S.there))
known_behind z v a note part.Count = λ S I K. all_known z v a _ K (λ lock at_end. absurd (count_not_end (has_lock (v.hand a).topics.hold) at_end))
known_behind z v a note part.RangeStart = λ S I K. all_known z v a _ K (λ lock at_end. absurd (start_not_end (v.hand a).topics.invalidations.checked at_end))
known_behind z v a note part.RangeEnd = λ S I K. all_known z v a _ K (λ lock at_end. absurd (range_not_end (v.hand a).topics.invalidations.checked at_end))
known_behind z v a note (part.SetStart first gfn) = λ S I K. stored_known z v a gfn _ _ S.there I S.needs.0.opening.alone
    (λ lock at_end. absurd (start_no_end (v.hand a).topics.invalidations.checked (v.hand a).topics.invalidations.count S.needs.0.counted at_end))
known_behind z v a note (part.SetEnd last gfn) = λ S I K. stored_known z v a _ gfn _ S.there I S.needs.0.opening.alone
    (λ lock at_end. absurd (end_no_end (v.hand a).topics.invalidations.checked (v.hand a).topics.invalidations.count S.needs.0.widened at_end))
known_behind z v a note (part.SetCount count) = λ S I K. all_known z v a _ K (λ lock at_end. absurd (cc at_end))
known_behind z v a note (part.SetSeq seq) = λ S I K. all_known z v a _ K (λ lock at_end. absurd (cc at_end))
known_behind z v a note _ = λ S I K. all_known z v a _ K (K a S.there)

pub known_range_kept : (z : Sizes) (v : View) (a : ℕ) (step : PartStep) (note : ℕ) → IsPart z v a step → TopicsInvariant z v → KnownRangeAt z v
    → KnownRangeAt z (part_stepped a step note v)
known_range_kept z v a step note S I K = behind_step (KnownRangeAt z) z v a step note S (known_behind z v a note step S I K)
