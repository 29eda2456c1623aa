-- Each step of the begin of an invalidation that doesn't wait leaves it fewer steps.
use Rattle.std.proofs.Common.{◌≡◌, ◌≢◌, ◌+◌, ◌-◌, ◌*◌, ◌^◌, ◌<◌, ◌≤◌, ℕ, refl, ap, arith}
use Rattle.std.specs.Prelude.{Bool, true, false, ◌==◌, ◌&&◌, ◌||◌, nat_lt, not, is_some, if◌then◌else◌}
use Rattle.std.proofs.lemmas.Bool.Decides.{nat_tests}
use Rattle.core_views.specs.declared.place.BeginPlace.{BeginPlace}
use Rattle.core_views.specs.declared.place.BeginPlace.TheVariants as begins
use Rattle.core_views.specs.declared.place.SlotField.{SlotField}
use Rattle.core_views.specs.declared.place.SlotField.TheVariants as field
use Rattle.core_views.specs.declared.sizes.Sizes.{Sizes}
use Rattle.core_views.specs.declared.topics.HostRow.{HostRow}
use Rattle.core_views.specs.declared.topics.Invalidated.{Invalidated}
use Rattle.core_views.specs.declared.topics.SlotSearch.{SlotSearch}
use Rattle.core_views.specs.declared.topics.Topics.{Topics}
use Rattle.spte_words.specs.Flags.{flags_live}
use Rattle.part_steps.specs.declared.invalidations.Target.{Target}
use Rattle.part_steps.specs.declared.invalidations.Target.TheVariants as aim
use Rattle.part_steps.specs.declared.part_step.PartStep.TheVariants as part
use Rattle.part_steps.specs.ControlBits.{has_to_flush}
use Rattle.part_steps.specs.ControlTopics.{at_set}
use Rattle.part_steps.specs.InvalidationRange.{gfn_behind, has_found, has_searched, target_end, target_start}
use Rattle.part_steps.specs.PageTopics.{searched, searched_at}
use Rattle.part_steps.specs.PartBounds.{IsLowRow}
use Rattle.part_steps.specs.PartTopics.{part_topics}
use Rattle.part_steps.specs.StayTopics.{may_search, may_walk}
use Rattle.mmu_core.specs.declared.invalidate.BeginNext.{BeginNext}
use Rattle.mmu_core.specs.declared.invalidate.BeginNext.TheVariants as begins_next
use Rattle.mmu_core.specs.forms.access.FaultLeft.{find_left}
use Rattle.mmu_core.specs.orders.InvalidateKnows.{BeginKnows}
use Rattle.mmu_core.specs.orders.InvalidateLeft.{begin_left}
use Rattle.mmu_core.specs.orders.InvalidateSteps.{begin_next, begin_part, search_next}
use Rattle.mmu_core.specs.lines.PartWaits.{part_waits}
use Rattle.mmu_core.specs.forms.access.SearchLeft.{look_left}
use Rattle.mmu_core.proofs.lines.EitherPlace.{either_place, one_place}
use Rattle.mmu_core.proofs.forms.access.SearchFalls.{flags_fall}
use Rattle.mmu_core.proofs.forms.host.HostPlaces.{look_some}
use Rattle.mmu_core.proofs.orders.SearchKnown.{may_search_alone, may_walk_alone, not_either}
use Rattle.mmu_core.proofs.orders.BeginSweeps.{frames_low, root_less, swept_falls}
use Rattle.mmu_core.proofs.orders.SweepFalls.{leaf_falls, sweep_falls}
use Rattle.mmu_core.proofs.orders.SweptSteps.{zapped_done}
use Rattle.mmu_core.specs.orders.SweepSteps.{range_of}

-- how many steps the line has left after a step of the begin
abbrev pub begin_left_after : BeginNext → Sizes → ℕ → Topics → ℕ
begin_left_after (begins_next.Goes p) z frames t = begin_left p z frames t
begin_left_after begins_next.Begun z frames t = 0

-- The target has so many guest frames at most; those of a run may lie anywhere.
abbrev pub HasFew : Target → ℕ → Type 0
HasFew (aim.Page page) frames = 1 ≤ frames
HasFew (aim.Run run) frames = 2 ^ 36 ≤ frames
HasFew (aim.Slot slot) frames = slot.pages ≤ frames

target_few : (target : Target) (frames : ℕ) (search : SlotSearch) (row : HostRow) → HasFew target frames → IsLowRow row
    → target_end target search row - target_start target search row ≤ frames
target_few (aim.Page page) frames search row few low = by (has_found page search)
  where
    by : (found : Bool) → (if found then gfn_behind page search.slot + 1 else 0) - (if found then gfn_behind page search.slot else 0) ≤ frames
    by true = omega (arith, few)
    by false = omega arith
target_few (aim.Run run) frames search row few low = let most = low.end_ in omega (arith, few, most)
target_few (aim.Slot slot) frames search row few low = omega (arith, few)

-- the search
look_falls : (f : SlotField) (s : SlotSearch) (v : ℕ) → s.id ≤ 31 → ((searched_at f s v).id == 32) ≡ false
    → 4 * (31 - (searched_at f s v).id) + look_left (searched_at f s v).next < 4 * (31 - s.id) + look_left f
look_falls field.Flags s v low is = flags_fall (flags_live v) s.id low is
look_falls field.Base s v low is = omega arith
look_falls field.Pages s v low is = omega arith
look_falls field.Host s v low is = let lower : s.id + 1 ≢ 32 = grind (arith, nat_tests) in omega (arith, lower)

-- A search that hasn't come to its end has slots left.
some_left : (target : Target) (s : SlotSearch) → has_searched target s ≡ false → (s.id == 32) ≡ false
some_left (aim.Page page) s e = not_either (has_found page s) (s.id == 32) e
some_left (aim.Run run) s e = e
some_left (aim.Slot slot) s e = not_either ((slot.pages == 1) && has_found slot.host s) (s.id == 32) e

find_falls : (b : Bool) (z : Sizes) (frames : ℕ) (target : Target) (t : Topics) (row : HostRow) (v : ℕ) → b ≡ true → t.search.id ≤ 31
    → begin_left (search_next target (searched t.search v)) z frames (record t { search = if b then searched t.search v else t.search; row = row })
    < 2 * z.vcpus + 8 + 5 * frames + find_left true t.search
find_falls false z frames target t row v is low = absurd (cc is)
find_falls true z frames target t row v is low =
    one_place (λ q. begin_left q z frames (record t { search = searched t.search v; row = row }) < 2 * z.vcpus + 8 + 5 * frames + find_left true t.search)
    (has_searched target (searched t.search v)) begins.Count (begins.Find true)
    (λ e. let some = look_some t.search.next in omega (arith, some))
    (λ e. let less = look_falls t.search.next t.search v low (some_left target (searched t.search v) e) in omega (arith, less))

-- the flush
await_falls : (waits : Bool) (z : Sizes) (frames : ℕ) (t : Topics) → waits ≡ false → t.flush.awaited < z.vcpus
    → begin_left (if waits || nat_lt (t.flush.awaited + 1) z.vcpus then begins.Await else begins.Release) z frames
    (record t { flush = record t.flush { awaited = t.flush.awaited + (if waits then 0 else 1) } })
    < 1 + (z.vcpus - t.flush.awaited)
await_falls true z frames t is lt = absurd (cc is)
await_falls false z frames t is lt =
    either_place (λ q. begin_left q z frames (record t { flush = record t.flush { awaited = t.flush.awaited + 1 } }) < 1 + (z.vcpus - t.flush.awaited))
    (nat_lt (t.flush.awaited + 1) z.vcpus) begins.Await begins.Release
    (omega (arith, lt)) (omega (arith, lt))

pub begin_falls : (p : BeginPlace) (z : Sizes) (frames : ℕ) (target : Target) (t : Topics) (v : ℕ) → HasFew target frames → IsLowRow t.row → t.walk.level ≤ 4
    → BeginKnows p z target t → part_waits (begin_part p target t) t v ≡ false
    → begin_left_after (begin_next p z target t v) z frames (part_topics (begin_part p target t) t v) < begin_left p z frames t
begin_falls begins.Exclude z frames target t v few low most K goes =
    one_place (λ q. begin_left q z frames (part_topics part.Exclude t v) < 2 * z.vcpus + 138 + 5 * frames) (v == 0) (begins.Find false) begins.Exclude
    (λ e. omega arith) (λ e. absurd (cc (goes, ap not e)))
begin_falls (begins.Find true) z frames target t v few low most K goes =
    let set = K.1 refl in find_falls (is_some t.search.set) z frames target t (part_topics part.Slot t v).row v set.0 set.1
begin_falls (begins.Find false) z frames target t v few low most K goes =
    slots_fall (may_search t.stay t.hold) (may_search_alone t K.0.sweeping.with_lock.alone)
  where
    slots_fall : (b : Bool) → b ≡ true
        → 2 * z.vcpus + 8 + 5 * frames + find_left true (at_set b t.search v) < 2 * z.vcpus + 8 + 5 * frames + 129
    slots_fall true is = omega arith
    slots_fall false is = absurd (cc is)
begin_falls begins.Count z frames target t v few low most K goes =
    either_place (λ q. begin_left q z frames (part_topics part.Count t v) < 2 * z.vcpus + 8 + 5 * frames) (v == 0) begins.SetStart begins.RangeStart
    (omega arith) (omega arith)
begin_falls begins.SetCount z frames target t v few low most K goes =
    let own_ = ap (λ (o : Invalidated). o.end - o.start) K.2 in
    let less = target_few target frames t.search t.row few low in
    omega (arith, own_, less)
begin_falls (begins.Walk true) z frames target t v few low most K goes =
    swept_falls _ z frames t _ _ (sweep_falls true (range_of t.invalidations.own) t.walk v (frames_low target t.invalidations.own K.0.of_own.few) (K.1 refl))
begin_falls (begins.Walk false) z frames target t v few low most K goes =
    root_less (may_walk t.stay t.hold) z frames t v (may_walk_alone t K.0.sweeping.with_lock.alone)
begin_falls begins.Zap z frames target t v few low most K goes =
    swept_falls _ z frames t _ _
    (leaf_falls true (range_of t.invalidations.own) t.walk 0 (frames_low target t.invalidations.own K.0.of_own.few) most K.1 (zapped_done true t.walk.level))
begin_falls begins.Ask z frames target t v few low most K goes =
    let lt = K.2 in
    one_place (λ q. begin_left q z frames (part_topics (part.Ask t.flush.asked) t v) < z.vcpus + 1 + (z.vcpus - t.flush.asked))
    (nat_lt (t.flush.asked + 1) z.vcpus) begins.Ask begins.Await
    (λ e. omega (arith, lt)) (λ e. omega (arith, lt))
begin_falls begins.Await z frames target t v few low most K goes = await_falls (has_to_flush v) z frames t goes K.3
begin_falls begins.Release z frames target t v few low most K goes = omega arith
begin_falls _ z frames target t v few low most K goes = omega arith
