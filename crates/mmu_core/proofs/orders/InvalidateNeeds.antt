-- Each step that begins or ends an invalidation has what it needs.
use Rattle.core_views.specs.declared.topics.Checked.{Checked}
use Rattle.std.proofs.lemmas.Bool.Decides.{nat_tests}
use Rattle.std.proofs.Common.{◌≡◌, ◌+◌, ◌-◌, ◌^◌, ◌<◌, ◌≤◌, ℕ, Bool, true, false, refl, sym, subst, ap, ◌∙◌, arith}
use Rattle.std.specs.Prelude.{◌==◌, if◌then◌else◌, nat_le, nat_lt, ◌&&◌, ◌||◌, Option, is_some}
use Rattle.core_views.specs.declared.place.BeginPlace.{BeginPlace}
use Rattle.core_views.specs.declared.place.BeginPlace.TheVariants as begins
use Rattle.core_views.specs.declared.place.EndPlace.{EndPlace}
use Rattle.core_views.specs.declared.place.EndPlace.TheVariants as ends
use Rattle.core_views.specs.declared.topics.Checked.TheVariants as checked
use Rattle.core_views.specs.declared.topics.Invalidated.{Invalidated}
use Rattle.core_views.specs.declared.topics.PageRun.{PageRun}
use Rattle.core_views.specs.declared.topics.Topics.{Topics}
use Rattle.core_views.specs.Held.{Held}
use Rattle.core_views.specs.Slots.{has_host_page}
use Rattle.part_steps.specs.PartBounds.{IsLowRow, PartRests}
use Rattle.part_steps.specs.FrameTopics.{is_uncopied}
use Rattle.part_steps.specs.declared.invalidations.Target.{Target}
use Rattle.part_steps.specs.declared.invalidations.Target.TheVariants as aim
use Rattle.part_steps.specs.InvalidationHoldings.{MayCount, has_counted, knows_count, IsOpening, OpensOnOwnPages}
use Rattle.part_steps.specs.InvalidationRange.{HasSmallSlot, IsAimed, IsSmall, has_found_looked, has_searched, invalidated_by, is_within_range}
use Rattle.part_steps.specs.InvalidationRange.{is_single, page_looked, run_aimed, run_of}
use Rattle.part_steps.specs.PartSteps.{PartNeeds}
use Rattle.part_steps.specs.SweepHoldings.{MaySweep, MayZap}
use Rattle.part_steps.specs.SweepTopics.{is_clear, swept_to}
use Rattle.mmu_core.proofs.lines.ReleaseNeeds.{release_free}
use Rattle.part_steps.specs.StayTopics.{is_alone}
use Rattle.mmu_core.specs.orders.InvalidateKnows.{BeginKnows, EndKnows, HasSearched, IsAloneWith, IsSweeping}
use Rattle.mmu_core.specs.orders.SweepKnows.{IsAtEntry, IsAtLeaf}
use Rattle.mmu_core.specs.orders.SweepSteps.{range_of}
use Rattle.mmu_core.specs.orders.InvalidateSteps.{begin_part, end_part, gfn_behind, greater, has_found, lesser, range_end, range_start, target_end}
use Rattle.mmu_core.specs.orders.InvalidateSteps.{target_start}
use Rattle.mmu_core.proofs.lines.EitherPlace.{either_place}
use Rattle.mmu_core.proofs.forms.access.FaultSame.{both, over_it}
use Rattle.mmu_core.proofs.orders.RunsAimed.{first_aimed}
use Rattle.mmu_core.proofs.orders.SearchKnown.{not_one}

-- ---- what each step needs

pub found_low : (page : ℕ) (t : Topics) → (t.search.whole ≡ true → t.search.slot.base + t.search.slot.pages ≤ 2 ^ 36) → has_found page t.search ≡ true
    → gfn_behind page t.search.slot < 2 ^ 36
found_low page t frames is =
    let B = both t.search.whole (has_host_page page t.search.slot) is in
    let O = over_it t.search.slot.host page (t.search.slot.host + t.search.slot.pages) B.1 in
    let high = frames B.0 in
    omega (arith, O.0, O.1, high)

lesser_small : (a b : ℕ) → b < 2 ^ 64 → lesser a b < 2 ^ 64
lesser_small a b small = by (nat_le a b) refl
  where
    by : (c : Bool) → nat_le a b ≡ c → (if c then a else b) < 2 ^ 64
    by true is = let le : a ≤ b = grind (arith, nat_tests) in omega (arith, le, small)
    by false is = small

greater_small : (a b : ℕ) → a < 2 ^ 64 → b < 2 ^ 64 → greater a b < 2 ^ 64
greater_small a b one other = either_place (λ x. x < 2 ^ 64) (nat_le a b) b a other one

-- The target's frames are below 2 ^ 36.
pub target_small : (target : Target) (t : Topics) → IsSmall target → HasSmallSlot t.search → IsLowRow t.row
    → (target_start target t.search t.row ≤ 2 ^ 36) × (target_end target t.search t.row ≤ 2 ^ 36)
target_small (aim.Page page) t small frames row = by (has_found page t.search) (found_low page t frames)
  where
    by : (found : Bool) → (found ≡ true → gfn_behind page t.search.slot < 2 ^ 36)
        → ((if found then gfn_behind page t.search.slot else 0) ≤ 2 ^ 36) × ((if found then gfn_behind page t.search.slot + 1 else 0) ≤ 2 ^ 36)
    by true low = let l = low refl in (omega (arith, l), omega (arith, l))
    by false low = (omega arith, omega arith)
target_small (aim.Run run) t small frames row = (row.start, row.end_)
target_small (aim.Slot slot) t small frames row = (omega (arith, small), small)

-- The range that is stored has numbers of 64 bits.
start_small : (target : Target) (t : Topics) → IsSmall target → t.invalidations.start < 2 ^ 64 → HasSmallSlot t.search → IsLowRow t.row
    → range_start target t < 2 ^ 64
start_small target t small start frames row =
    by (nat_lt (target_start target t.search t.row) (target_end target t.search t.row)) (t.invalidations.count == 0) (target_small target t small frames row).0
  where
    by : (some none : Bool) → target_start target t.search t.row ≤ 2 ^ 36
        → (if some then (if none then target_start target t.search t.row else lesser t.invalidations.start (target_start target t.search t.row)) else if none
        then 0 else t.invalidations.start) < 2 ^ 64
    by true true low = omega (arith, low)
    by true false low = lesser_small t.invalidations.start (target_start target t.search t.row) (omega (arith, low))
    by false true low = omega arith
    by false false low = start

end_small : (target : Target) (t : Topics) → IsSmall target → t.invalidations.end < 2 ^ 64 → HasSmallSlot t.search → IsLowRow t.row
    → range_end target t < 2 ^ 64
end_small target t small end_ frames row =
    by (nat_lt (target_start target t.search t.row) (target_end target t.search t.row)) (t.invalidations.count == 0) (target_small target t small frames row).1
  where
    by : (some none : Bool) → target_end target t.search t.row ≤ 2 ^ 36
        → (if some then (if none then target_end target t.search t.row else greater t.invalidations.end (target_end target t.search t.row)) else if none
        then 0 else t.invalidations.end) < 2 ^ 64
    by true true low = omega (arith, low)
    by true false low = greater_small t.invalidations.end (target_end target t.search t.row) end_ (omega (arith, low))
    by false true low = omega arith
    by false false low = end_

counted_known : (c : Checked) (count : ℕ) → has_counted c count ≡ true → knows_count c ≡ true
counted_known checked.Count count C = refl
counted_known checked.Range count C = refl
counted_known checked.Start count C = refl
counted_known checked.All count C = refl
counted_known _ count C = absurd (cc C)

-- Who has searched the slots for its target may open an invalidation of it.
opening : (target : Target) (t : Topics) → IsAimed target t → HasSearched target t → IsOpening target t
opening target t aimed S = record {
  alone = S.searches.sweeping.with_lock.alone.alone;
  outside = S.searches.sweeping.with_lock.alone.outside;
  closed = S.searches.sweeping.with_lock.is;
  holds_set = S.set;
  aimed = aimed;
  searched = S.searched;
}

-- What is stored as the count is as many as were open, and one, or without one.
one_more : (target : Target) (t : Topics) → IsAimed target t → IsSmall target → HasSmallSlot t.search → IsLowRow t.row → HasSearched target t
    → t.invalidations.checked ≡ checked.Range
    → t.invalidations.own ≡ invalidated_by target t.search t.row
    → is_within_range t.invalidations.own t.invalidations ≡ true → is_uncopied t.frames.owned ≡ true → MayCount (t.invalidations.count + 1) t
one_more target t aimed small frames row S known own_ within uncopied = record {
  alone = S.searches.sweeping.with_lock.alone.alone;
  outside = S.searches.sweeping.with_lock.alone.outside;
  knows = ap knows_count known;
  is = sym (ap (λ (b : Bool). if b then t.invalidations.count - 1 else t.invalidations.count + 1) S.searches.sweeping.with_lock.is);
  opens = λ closed. record {
    target = target;
    opening = opening target t aimed S;
    known = known;
    own_ = own_;
    low =
        subst (λ (n : Invalidated). n.end ≤ 2 ^ 36) (sym own_) (target_small target t small frames row).1;
    within = within;
    no_table = S.searches.no_table;
    unasked = S.searches.sweeping.unasked;
    uncopied = uncopied;
  };
  closes = λ opened. absurd (let closed = S.searches.sweeping.with_lock.is in cc (opened, closed));
}

one_less : (t : Topics) → IsAloneWith true t → t.invalidations.checked ≡ checked.Count → t.invalidations.raised ≡ true → MayCount (t.invalidations.count - 1) t
one_less t A known raised = record {
  alone = A.alone.alone;
  outside = A.alone.outside;
  knows = ap knows_count known;
  is = sym (ap (λ (b : Bool). if b then t.invalidations.count - 1 else t.invalidations.count + 1) A.is);
  opens = λ closed. absurd (let opened = A.is in cc (opened, closed));
  closes = λ opened. raised;
}

-- Before its search is over, the slot of the one host page that the actor may change isn't found.
none_found : (target : Target) (t : Topics) → IsAimed target t → has_searched target t.search ≡ false → has_found_looked t ≡ false
none_found (aim.Page page) t aimed is =
    second_not (is_single (run_aimed t))
    (ap (λ p. has_found p t.search) (first_aimed (is_some t.owned) t.host t.row (run_of page) aimed.0)
    ∙ not_one (has_found page t.search) (t.search.id == 32) is)
  where
    second_not : (a : Bool) {b : Bool} → b ≡ false → (a && b) ≡ false
    second_not true e = e
    second_not false e = refl
none_found (aim.Run run) t aimed is =
    ap (λ (o : Option PageRun). is_single o && has_found (page_looked t.host) t.search) aimed.0
    ∙ ap (λ (b : Bool). b && has_found (page_looked t.host) t.search) (not_single run.level aimed.1)
  where
    not_single : (level : ℕ) → 2 ≤ level → nat_le level 1 ≡ false
    not_single level more = grind (arith, nat_tests)
none_found (aim.Slot slot) t aimed is = ap (λ (o : Option PageRun). is_single o && has_found (page_looked t.host) t.search) aimed.0

-- A sweep of the own open invalidation.
may_sweep : (t : Topics) → IsSweeping true t → IsAtEntry true (range_of t.invalidations.own) t.walk
    → MaySweep (swept_to true t.invalidations.own.start t.walk) t
may_sweep t W K = record {
  alone = W.with_lock.alone.alone;
  outside = W.with_lock.alone.outside;
  sweeps = ap (λ (b : Bool). b || is_some t.retired) W.with_lock.is;
  there = K.on.there;
  clear = ap (λ (b : Bool). is_clear b t.walk) W.with_lock.is ∙ K.clear;
  of_own = λ opened. (refl, K.left);
  over = K.on.over K.left;
}

may_zap : (t : Topics) → IsSweeping true t → IsAtLeaf true (range_of t.invalidations.own) t.walk → MayZap (swept_to true t.invalidations.own.start t.walk) t
may_zap t W K = record {
  alone = W.with_lock.alone.alone;
  outside = W.with_lock.alone.outside;
  opened = W.with_lock.is;
  from = K.from;
  to = K.left;
  saw = K.saw;
  leaf = K.leaf;
}

pub begin_needs : (p : BeginPlace) (h : Held) (target : Target) → PartRests h → IsSmall target → IsAimed target h.topics → OpensOnOwnPages h
    → is_uncopied h.topics.frames.owned ≡ true → BeginKnows p h.state.sizes target h.topics → PartNeeds (begin_part p target h.topics) h
begin_needs begins.Exclude h target R small aimed pages none K = K.0.loose
begin_needs (begins.Find true) h target R small aimed pages none K =
    let S = K.1 refl in (S.0, S.1, alone_not (is_alone h.topics.hold) (none_found target h.topics aimed S.2))
  where
    alone_not : {found : Bool} (alone : Bool) → found ≡ false → (alone && found) ≡ false
    alone_not true is = is
    alone_not false is = refl
begin_needs begins.SetStart h target R small aimed pages none K =
    let low = (target_small target h.topics small R.frames R.row).0 in (
      record { target = target; opening = opening target h.topics aimed K.0; counted = K.1; own_ = refl; is = refl },
      omega (arith, low),
      start_small target h.topics small R.counters.range.0 R.frames R.row,
    )
begin_needs begins.SetEnd h target R small aimed pages none K =
    let low = (target_small target h.topics small R.frames R.row).1 in (
      record {
        target = target;
        opening = opening target h.topics aimed K.0;
        widened = K.1;
        pages = K.2;
        start = K.3;
        own_ = refl;
        is = refl;
      },
      omega (arith, low),
      end_small target h.topics small R.counters.range.1 R.frames R.row,
    )
begin_needs begins.SetCount h target R small aimed pages none K = (one_more target h.topics aimed small R.frames R.row K.0 K.1 K.2 K.3 none, pages)
begin_needs (begins.Walk true) h target R small aimed pages none K = may_sweep h.topics K.0.sweeping (K.1 refl)
begin_needs begins.Zap h target R small aimed pages none K = may_zap h.topics K.0.sweeping K.1
begin_needs begins.Ask h target R small aimed pages none K =
    record {
      low = K.2;
      next = refl;
      outside = K.0.alone.outside;
      alone = λ opened. K.0.alone.alone;
      swept = λ opened. K.4;
      loose = λ closed. absurd (let opened = K.0.is in cc (closed, opened));
    }
begin_needs begins.Await h target R small aimed pages none K = (let asked = K.2 in let lt = K.3 in omega (arith, asked, lt), refl, K.0.alone.outside)
begin_needs begins.Release h target R small aimed pages none K =
    record {
      alone = K.0.alone.alone;
      ended = λ opened. K.1.unraised;
      flushed = λ opened. (let asked = K.2 in omega (arith, asked), K.3);
      opened = λ has holds. K.0.is;
      done = λ has there. ap (λ (b : Bool). is_clear b h.topics.walk) K.0.is ∙ K.4;
    }
begin_needs (begins.Find false) h target R small aimed pages none K = tt
begin_needs (begins.Walk false) h target R small aimed pages none K = tt
begin_needs _ h target R small aimed pages none K = tt

pub end_needs : (p : EndPlace) (h : Held) → EndKnows p h.topics → PartNeeds (end_part p h.topics) h
end_needs ends.Exclude h K = K.0.rests.loose
end_needs ends.SetSeq h K =
    (record { alone = K.0.alone.alone; outside = K.0.alone.outside; opened = K.0.is; unraised = K.2; loaded = K.1; all = K.4 }, refl)
end_needs ends.SetCount h K = (one_less h.topics K.0 K.1 K.2, λ closed. absurd (let opened = K.0.is in cc (opened, closed)))
end_needs ends.Release h K =
    let closed = K.0.is in release_free h K.2 (λ opened. absurd (cc (opened, closed))) (λ opened. absurd (cc (opened, closed)))
end_needs _ h K = tt
