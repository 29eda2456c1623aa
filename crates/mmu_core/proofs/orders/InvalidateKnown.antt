-- After each step that begins or ends an invalidation its line knows what its next place asks.
use Rattle.mmu_core.proofs.orders.InvalidateNeeds.{found_low}
use Rattle.core_views.specs.declared.topics.Checked.{Checked}
use Rattle.std.proofs.lemmas.Bool.Decides.{nat_tests}
use Rattle.std.proofs.Common.{◌≡◌, ◌+◌, ◌-◌, ◌^◌, ◌<◌, ◌≤◌, ℕ, Bool, true, false, refl, ap, ◌∙◌, arith, subst, sym}
use Rattle.std.specs.Prelude.{◌==◌, ◌&&◌, ◌||◌, not, if◌then◌else◌, nat_lt, Option, Some, None, is_some, nat_le}
use Rattle.core_views.specs.declared.place.BeginPlace.{BeginPlace}
use Rattle.core_views.specs.declared.place.BeginPlace.TheVariants as begins
use Rattle.core_views.specs.declared.place.EndPlace.{EndPlace}
use Rattle.core_views.specs.declared.place.EndPlace.TheVariants as ends
use Rattle.core_views.specs.declared.sizes.Sizes.{Sizes}
use Rattle.core_views.specs.declared.topics.Checked.TheVariants as checked
use Rattle.core_views.specs.declared.topics.Hold.{Hold}
use Rattle.core_views.specs.declared.topics.Hold.TheVariants.{Exclusive}
use Rattle.core_views.specs.declared.topics.Invalidations.{Invalidations}
use Rattle.core_views.specs.declared.topics.SlotSearch.{SlotSearch}
use Rattle.core_views.specs.declared.topics.Topics.{Topics}
use Rattle.core_views.specs.Sizes.{AreSizes}
use Rattle.part_steps.specs.declared.invalidations.Target.{Target}
use Rattle.part_steps.specs.declared.invalidations.Target.TheVariants as aim
use Rattle.part_steps.specs.declared.part_step.PartStep.TheVariants as part
use Rattle.part_steps.specs.ControlTopics.{at_set, count_checked, range_checked, seq_checked, start_checked, end_known, start_known}
use Rattle.part_steps.specs.ControlBits.{has_to_flush}
use Rattle.part_steps.specs.PartBounds.{IsLowRow}
use Rattle.part_steps.specs.PartSteps.{IsFree}
use Rattle.part_steps.specs.PartTopics.{part_topics}
use Rattle.part_steps.specs.StayTopics.{flush_kept, has_lock, is_loose, kept_search, may_search, may_walk, no_flush}
use Rattle.mmu_core.specs.declared.invalidate.BeginNext.{BeginNext}
use Rattle.mmu_core.specs.declared.invalidate.BeginNext.TheVariants as begins_next
use Rattle.mmu_core.specs.declared.invalidate.EndNext.{EndNext}
use Rattle.mmu_core.specs.declared.invalidate.EndNext.TheVariants as ends_next
use Rattle.mmu_core.specs.forms.access.FaultLaws.{CanAnswer}
use Rattle.mmu_core.specs.orders.InvalidateKnows.{BeginKnows, EndKnows, FramesAre, HasChangedAll, HasSearched, IsAloneWith, IsOfOwn, IsOpen, starts_low}
use Rattle.mmu_core.specs.orders.InvalidateSteps.{begin_next, begin_part, end_next, end_part, gfn_behind, has_found, target_end, target_start}
use Rattle.mmu_core.proofs.lines.EitherPlace.{one_place}
use Rattle.core_views.specs.declared.topics.Invalidated.{Invalidated}
use Rattle.part_steps.specs.InvalidationHoldings.{has_counted, has_widened}
use Rattle.part_steps.specs.InvalidationRange.{HasSmallSlot, IsAimed, IsSmall, end_with, greater, has_searched, invalidated_by, is_within_range}
use Rattle.part_steps.specs.InvalidationRange.{lesser, run_of_target, start_with}
use Rattle.mmu_core.proofs.orders.BeginSweeps.{entry_known, root_begins, zap_known}
use Rattle.mmu_core.proofs.orders.SearchKnown.{may_search_alone, may_walk_alone, none_searched, same_searches, search_known, slots_loaded}
use Rattle.mmu_core.proofs.lines.AloneKnown.{alone_holds, alone_let_go, alone_taken, alone_tried, same_alone}
use Rattle.mmu_core.specs.lines.LockKnows.{HoldsLock}
use Rattle.part_steps.specs.SweepTopics.{is_clear}
use Rattle.core_views.specs.declared.topics.PageRun.{PageRun}

-- ---- what is known after it

-- where the begin goes on to, and what is so where it is over
abbrev pub BeginComes : BeginNext → Sizes → Target → Topics → Type 0
BeginComes (begins_next.Goes p) z target t = BeginKnows p z target t
BeginComes begins_next.Begun z target t =
    IsOpen t × (t.invalidations.own.pages ≡ run_of_target target) × (z.vcpus ≤ t.flush.asked) × (z.vcpus ≤ t.flush.awaited)
    × FramesAre target t.invalidations.own

abbrev pub EndComes : EndNext → Topics → Type 0
EndComes (ends_next.Goes p) t = EndKnows p t
EndComes ends_next.Ended t = IsFree t × (t.invalidations.opened ≡ false)

-- the flush
await_known : (waits : Bool) (z : Sizes) (target : Target) (t : Topics) → IsAloneWith true t → IsOfOwn target t.invalidations → t.flush.asked ≡ z.vcpus
    → t.flush.awaited < z.vcpus → is_clear true t.walk ≡ true
    → BeginKnows (if waits || nat_lt (t.flush.awaited + 1) z.vcpus then begins.Await else begins.Release) z target
    (record t { flush = record t.flush { awaited = t.flush.awaited + (if waits then 0 else 1) } })
await_known true z target t A own_ asked lt clear = (same_alone true t _ refl refl refl A, own_, asked, omega (arith, lt), clear)
await_known false z target t A own_ asked lt clear =
    one_place (λ q. BeginKnows q z target (record t { flush = record t.flush { awaited = t.flush.awaited + 1 } }))
    (nat_lt (t.flush.awaited + 1) z.vcpus) begins.Await begins.Release
    (λ e. (same_alone true t _ refl refl refl A, own_, asked, grind (arith, nat_tests), clear))
    (λ e. (same_alone true t _ refl refl refl A, own_, asked, grind (arith, nat_tests), clear))

some_counted : (n : ℕ) → 0 < n → nat_lt 0 n ≡ true
some_counted n some = grind (arith, nat_tests)

-- What is stored as the count is more, and then its own is open; or it isn't, and then none is.
rises : (n : ℕ) → nat_lt n (n + 1) ≡ true
rises n = grind (arith, nat_tests)

falls : (n : ℕ) → nat_lt n (n - 1) ≡ false
falls n = grind (arith, nat_tests)

same_searched : (target : Target) (t u : Topics) → u.stay ≡ t.stay → u.hold ≡ t.hold
    → u.invalidations.opened ≡ t.invalidations.opened → u.flush ≡ t.flush → u.walk ≡ t.walk → u.search ≡ t.search → HasSearched target t → HasSearched target u
same_searched target t u stay hold open_ flush walk search S = record {
  searches = same_searches t u stay hold open_ flush walk S.searches;
  set = ap (λ (s : SlotSearch). is_some s.set) search ∙ S.set;
  searched = ap (has_searched target) search ∙ S.searched;
}

-- The frames that an invalidation of the target is of.
frames_are : (target : Target) (t : Topics) → IsSmall target → HasSmallSlot t.search → IsLowRow t.row → FramesAre target (invalidated_by target t.search t.row)
frames_are (aim.Page page) t small frames row = by (has_found page t.search) (found_low page t frames)
  where
    by : (found : Bool) → (found ≡ true → gfn_behind page t.search.slot < 2 ^ 36)
        → ((if found then gfn_behind page t.search.slot + 1 else 0) ≤ (if found then gfn_behind page t.search.slot else 0) + 1)
        × ((if found then gfn_behind page t.search.slot + 1 else 0) ≤ 2 ^ 36)
    by true low = let l = low refl in (omega arith, omega (arith, l))
    by false low = (omega arith, omega arith)
frames_are (aim.Run run) t small frames row = row.end_
frames_are (aim.Slot slot) t small frames row = (refl, refl, small)

-- ---- the range

-- What is known after the start was stored, and after the end.
widened_after : (c : Checked) (count : ℕ) → has_counted c count ≡ true → has_widened (start_known c) count ≡ true
widened_after checked.Count count is = is
widened_after checked.Range count is = is
widened_after _ count is = absurd (cc is)

range_after : (c : Checked) (count : ℕ) → has_widened c count ≡ true → end_known c ≡ checked.Range
range_after checked.Start count is = refl
range_after checked.Range count is = refl
range_after _ count is = absurd (cc is)

-- The range starts no higher than the first frame that it is widened to, and ends no lower than the last.
le_itself : (n : ℕ) → nat_le n n ≡ true
le_itself n = grind (arith, nat_tests)

lesser_le : (a b : ℕ) → nat_le (lesser a b) b ≡ true
lesser_le a b = pick (nat_le a b) refl
  where
    pick : (c : Bool) → nat_le a b ≡ c → nat_le (if c then a else b) b ≡ true
    pick true is = is
    pick false is = grind (arith, nat_tests)

le_greater : (a b : ℕ) → nat_le b (greater a b) ≡ true
le_greater a b = pick (nat_le a b) refl
  where
    pick : (c : Bool) → nat_le a b ≡ c → nat_le b (if c then b else a) ≡ true
    pick true is = grind (arith, nat_tests)
    pick false is = grind (arith, nat_tests)

low_enough : (first last : ℕ) (n : Invalidations) → starts_low first last (record n { start = start_with first last n }) ≡ true
low_enough first last n = by (nat_lt first last) (n.count == 0)
  where
    by : (some none : Bool) → (not some || nat_le (if some then (if none then first else lesser n.start first) else if none then 0 else n.start) first) ≡ true
    by false none = refl
    by true true = le_itself first
    by true false = lesser_le n.start first

high_enough : (pages : Option PageRun) (first last : ℕ) (n : Invalidations) → starts_low first last n ≡ true
    → is_within_range (record { pages = pages; start = first; end = last }) (record n { end = end_with first last n }) ≡ true
high_enough pages first last n low = by (nat_lt first last) (n.count == 0) low
  where
    and_then : (a : Bool) {b : Bool} → a ≡ true → b ≡ true → (a && b) ≡ true
    and_then true one other = other
    and_then false one other = absurd (cc one)

    by : (some none : Bool) → (not some || nat_le n.start first) ≡ true
        → (not some || (nat_le n.start first && nat_le last (if some then (if none then last else greater n.end last) else if none then 0 else n.end))) ≡ true
    by false none low = refl
    by true true low = and_then (nat_le n.start first) low (le_itself last)
    by true false low = and_then (nat_le n.start first) low (le_greater n.end last)

-- ---- the begin

pub begin_known : (p : BeginPlace) (z : Sizes) (target : Target) (t : Topics) (v : ℕ) → AreSizes z → IsSmall target → IsAimed target t
    → HasSmallSlot t.search → IsLowRow t.row → t.walk.level ≤ 4 → BeginKnows p z target t → CanAnswer (begin_part p target t) v
    → BeginComes (begin_next p z target t v) z target (part_topics (begin_part p target t) t v)
begin_known begins.Exclude z target t v sizes small aimed frames row most K A =
    one_place (λ q. BeginKnows q z target (part_topics part.Exclude t v)) (v == 0) (begins.Find false) begins.Exclude
    (λ e. (
      record {
        sweeping = record {
          with_lock = alone_taken false t v K.0 K.1 e;
          unasked = ap (λ (b : Bool). flush_kept b t) e ∙ ap (λ (b : Bool). if not b then no_flush else t.flush) K.1;
        };
        no_table = K.0.no_table;
      },
      λ begun. absurd (cc begun),
    ))
    (λ e. (alone_tried t v K.0 e, K.1))
begin_known (begins.Find false) z target t v sizes small aimed frames row most K A =
    let L = slots_loaded (may_search t.stay t.hold) t.search v (may_search_alone t K.0.sweeping.with_lock.alone) in (
      same_searches t _ refl refl refl refl refl K.0,
      λ begun. (L.0, L.1, none_searched target (at_set (may_search t.stay t.hold) t.search v) refl refl),
    )
begin_known (begins.Find true) z target t v sizes small aimed frames row most K A =
    let B = K.1 refl in search_known (is_some t.search.set) z target t v _ B.0 K.0 B.0 B.1
begin_known begins.Count z target t v sizes small aimed frames row most K A =
    let counted : count_checked t.hold ≡ checked.Count = ap count_checked K.searches.sweeping.with_lock.alone.alone in
    one_place (λ q. BeginKnows q z target (part_topics part.Count t v)) (v == 0) begins.SetStart begins.RangeStart
    (λ e. (same_searched target t _ refl refl refl refl refl refl K, ap (λ (c : Checked). has_counted c v) counted ∙ e))
    (λ e. (same_searched target t _ refl refl refl refl refl refl K, counted, grind (arith, nat_tests)))
begin_known begins.RangeStart z target t v sizes small aimed frames row most K A =
    (same_searched target t _ refl refl refl refl refl refl K.0, ap start_checked K.1, K.2)
begin_known begins.RangeEnd z target t v sizes small aimed frames row most K A = (
  same_searched target t _ refl refl refl refl refl refl K.0,
  ap (λ (c : Checked). has_counted (range_checked c) t.invalidations.count) K.1 ∙ some_counted t.invalidations.count K.2,
)
begin_known begins.SetStart z target t v sizes small aimed frames row most K A = (
  same_searched target t _ refl refl refl refl refl refl K.0,
  widened_after t.invalidations.checked t.invalidations.count K.1,
  aimed.0,
  refl,
  ap (λ n. starts_low (target_start target t.search t.row) (target_end target t.search t.row) (record t.invalidations { start = n })) A
      ∙ low_enough (target_start target t.search t.row) (target_end target t.search t.row) t.invalidations,
)
begin_known begins.SetEnd z target t v sizes small aimed frames row most K A =
    let own_ : record t.invalidations.own { end = target_end target t.search t.row } ≡ invalidated_by target t.search t.row =
    ap (λ p. record { pages = p; start = t.invalidations.own.start; end = target_end target t.search t.row }) K.2
    ∙ ap (λ n. record { pages = run_of_target target; start = n; end = target_end target t.search t.row }) K.3 in (
      same_searched target t _ refl refl refl refl refl refl K.0,
      range_after t.invalidations.checked t.invalidations.count K.1,
      own_,
      ap (λ (o : Invalidated). is_within_range o (record t.invalidations { end = v })) own_
          ∙ ap (λ n. is_within_range (invalidated_by target t.search t.row) (record t.invalidations { end = n })) A
          ∙ high_enough (run_of_target target) (target_start target t.search t.row) (target_end target t.search t.row) t.invalidations K.4,
    )
begin_known begins.SetCount z target t v sizes small aimed frames row most K A = (
  record {
    sweeping = record {
      with_lock = record {
        alone = record {
          outside = K.0.searches.sweeping.with_lock.alone.outside;
          alone = K.0.searches.sweeping.with_lock.alone.alone;
        };
        is = ap (nat_lt t.invalidations.count) A ∙ rises t.invalidations.count;
      };
      unasked = K.0.searches.sweeping.unasked;
    };
    of_own = record {
      of_pages = ap (λ (o : Invalidated). o.pages) K.2;
      few = subst (FramesAre target) (sym K.2) (frames_are target t small frames row);
      unraised = refl;
      unchecked = refl;
    };
  },
  λ rooted. absurd (cc rooted),
)
begin_known (begins.Walk false) z target t v sizes small aimed frames row most K A =
    root_begins (may_walk t.stay t.hold) z target t v sizes (may_walk_alone t K.0.sweeping.with_lock.alone) K.0
begin_known (begins.Walk true) z target t v sizes small aimed frames row most K A = entry_known z target t v sizes K.0 (K.1 refl)
begin_known begins.Zap z target t v sizes small aimed frames row most K A = zap_known z target t sizes most K.0 K.1
begin_known begins.Ask z target t v sizes small aimed frames row most K A =
    let some = sizes.some in
    let lt = K.2 in
    let none = K.3 in
    one_place (λ q. BeginKnows q z target (part_topics (part.Ask t.flush.asked) t v)) (nat_lt (t.flush.asked + 1) z.vcpus) begins.Ask begins.Await
    (λ e. (same_alone true t _ refl refl refl K.0, K.1, grind (arith, nat_tests), none, (λ first. absurd (omega (arith, first))), K.5))
    (λ e. (same_alone true t _ refl refl refl K.0, K.1, grind (arith, nat_tests), omega (arith, none, some), K.5))
begin_known begins.Await z target t v sizes small aimed frames row most K A = await_known (has_to_flush v) z target t K.0 K.1 K.2 K.3 K.4
begin_known begins.Release z target t v sizes small aimed frames row most K A =
    (record { rests = alone_let_go t K.0.alone; opened = K.0.is; unraised = K.1.unraised }, K.1.of_pages, let asked = K.2 in omega (arith, asked), K.3, K.1.few)

seq_known : (k : Hold) (t : Topics) (v : ℕ) → k ≡ Exclusive → IsAloneWith true t → t.invalidations.checked ≡ checked.Nothing → t.invalidations.raised ≡ false
    → HoldsLock Exclusive t → HasChangedAll t → EndKnows ends.SetSeq (record t {
      search = if is_loose k then kept_search false t.search else t.search;
      host = if is_loose k then None else t.host;
      invalidations = record t.invalidations {
        snapshot = if is_loose k then Some v else t.invalidations.snapshot;
        seq = if not (is_loose k) then v else t.invalidations.seq;
        checked = seq_checked (has_lock k) t.invalidations.count t.invalidations.checked;
      };
    })
seq_known Exclusive t v is A none first H all = (same_alone true t _ refl refl refl A, ap (seq_checked true t.invalidations.count) none, first, H, all)
seq_known _ t v is A none first H all = absurd (cc is)

pub ending_known : (p : EndPlace) (t : Topics) (v : ℕ) → EndKnows p t → CanAnswer (end_part p t) v → EndComes (end_next p v) (part_topics (end_part p t) t v)
ending_known ends.Exclude t v K A =
    one_place (λ q. EndKnows q (part_topics part.Exclude t v)) (v == 0) ends.Seq ends.Exclude
    (λ e. (alone_taken true t v K.0.rests K.0.opened e, refl, K.0.unraised, alone_holds t v K.0.rests e, K.1))
    (λ e. (record { rests = alone_tried t v K.0.rests e; opened = K.0.opened; unraised = K.0.unraised }, K.1))
ending_known ends.Seq t v K A = seq_known t.hold t v K.0.alone.alone K.0 K.1 K.2 K.3 K.4
ending_known ends.SetSeq t v K A = (same_alone true t _ refl refl refl K.0, refl, K.3)
ending_known ends.Count t v K A =
    (same_alone true t _ refl refl refl K.0, ap count_checked K.0.alone.alone, K.1, K.2)
ending_known ends.SetCount t v K A = (
  record {
    alone = record { outside = K.0.alone.outside; alone = K.0.alone.alone };
    is = ap (nat_lt t.invalidations.count) A ∙ falls t.invalidations.count;
  },
  refl,
  K.3,
)
ending_known ends.Release t v K A = (alone_let_go t K.0.alone, K.0.is)
