-- What a store for an invalidation needs holds where there merely is a target for which it does: such a target follows from the numbers that are stored.
use Rattle.std.proofs.Common.{◌≡◌, ◌+◌, ◌-◌, ◌≤◌, ◌^◌, ℕ, zero, suc, refl, sym, subst, ap, ◌∙◌, arith}
use Rattle.std.specs.Prelude.{Bool, true, false, ◌==◌, ◌&&◌, ◌||◌, nat_le, nat_lt, if◌then◌else◌, Option, Some, None}
use Rattle.std.proofs.Math.Logic.{∥∥₁_elim, ∥∥₁_map}
use Rattle.std.proofs.Props.{props}
use Rattle.std.proofs.lemmas.Bool.Decides.{nat_tests}
use Rattle.core_views.specs.declared.topics.Checked.TheVariants as checked
use Rattle.core_views.specs.declared.topics.Invalidated.{Invalidated}
use Rattle.core_views.specs.declared.topics.Invalidations.{Invalidations}
use Rattle.core_views.specs.declared.topics.PageRun.{PageRun}
use Rattle.core_views.specs.declared.topics.SlotSearch.{SlotSearch}
use Rattle.core_views.specs.declared.topics.Topics.{Topics}
use Rattle.core_views.specs.declared.trace.Slot.{Slot}
use Rattle.core_views.specs.Slots.{has_host_page}
use Rattle.part_steps.specs.declared.invalidations.Target.{Target}
use Rattle.part_steps.specs.declared.invalidations.Target.TheVariants as aim
use Rattle.part_steps.specs.FrameTopics.{is_uncopied}
use Rattle.part_steps.specs.InvalidationHoldings.{IsOpening, MayCount, MayOpen, MaySetEnd, MaySetStart, has_counted, has_widened}
use Rattle.part_steps.specs.InvalidationRange.{HasSeveral, has_found, has_searched, invalidated_by, is_within_range, run_aimed, run_of_target}
use Rattle.part_steps.specs.InvalidationRange.{end_with, lesser, range_end, range_start, start_with, target_end, target_start}
use Rattle.part_steps.specs.StayTopics.{no_flush}

-- A slot of so many pages from this base on, with the host pages of the one that was found.
abbrev slot_from : ℕ → ℕ → Slot → Slot
slot_from base pages found = record { base = base; pages = pages; host = found.host; read_only = found.read_only }

-- the target: the host page that the actor may change, or the run of several, or such a slot where it may change none
abbrev target_of_run : Bool → PageRun → Target
target_of_run several run = if several then aim.Run run else aim.Page run.first

abbrev target_of : Option PageRun → ℕ → ℕ → Slot → Target
target_of (Some run) base pages found = target_of_run (nat_lt 1 run.level) run
target_of None base pages found = aim.Slot (slot_from base pages found)

-- the one that the target's own frames tell
abbrev target_told : Option PageRun → Target → Topics → Target
target_told aimed target t =
    target_of aimed (target_start target t.search t.row) (target_end target t.search t.row - target_start target t.search t.row) t.search.slot

or_last : (b last : Bool) → last ≡ true → (b || last) ≡ true
or_last true last is = refl
or_last false last is = is

-- The search for a slot has come to its end for one of as many pages, too.
found_host : (page host pages : ℕ) → (nat_le host page && nat_lt page (host + pages)) ≡ true → (nat_le host host && nat_lt host (host + pages)) ≡ true
found_host page host pages is = grind (arith, nat_tests)

found_too : (page : ℕ) (s : SlotSearch) → has_found page s ≡ true → has_found s.slot.host s ≡ true
found_too page s is = by s.whole is
  where
    by : (b : Bool) → (b && has_host_page page s.slot) ≡ true → (b && has_host_page s.slot.host s.slot) ≡ true
    by true e = found_host page s.slot.host s.slot.pages e
    by false e = absurd (cc e)

searched_too : (slot : Slot) (base pages : ℕ) (s : SlotSearch) → ((slot.pages == 1) ≡ true → (pages == 1) ≡ true) → has_searched (aim.Slot slot) s ≡ true
    → has_searched (aim.Slot (slot_from base pages s.slot)) s ≡ true
searched_too slot base pages s =
    by (slot.pages == 1) (pages == 1) (has_found slot.host s) (has_found s.slot.host s) (s.id == 32) (found_too slot.host s)
  where
    by : (one same found too last : Bool) → (found ≡ true → too ≡ true) → (one ≡ true → same ≡ true) → ((one && found) || last) ≡ true
        → ((same && too) || last) ≡ true
    by true same true too last more alike is = ap (λ (b : Bool). (b && too) || last) (alike refl) ∙ ap (λ (b : Bool). b || last) (more refl)
    by true same false too last more alike is = or_last (same && too) last is
    by false same found too last more alike is = or_last (same && too) last is

aimed_slot : (target : Target) (slot : Slot) (t : Topics) → IsOpening target t → run_of_target target ≡ None → has_searched (aim.Slot slot) t.search ≡ true
    → IsOpening (aim.Slot slot) t
aimed_slot target slot t O none searched =
    record { alone = O.alone; outside = O.outside; closed = O.closed; holds_set = O.holds_set; aimed = (O.aimed.0 ∙ none, tt); searched = searched }

several_prop : (target : Target) → IsProp (HasSeveral target)
several_prop (aim.Page page) = hlevel props
several_prop (aim.Run run) = hlevel props
several_prop (aim.Slot slot) = hlevel props

-- Two targets are of the same, and the search for the second has come to its end.
record IsSame (target other : Target) (t : Topics) : Type 0 where
  opening : IsOpening other t
  start : target_start other t.search t.row ≡ target_start target t.search t.row
  end_ : target_end other t.search t.row ≡ target_end target t.search t.row
  page : run_of_target other ≡ run_of_target target

same_some : {x y : PageRun} → Some x ≡ Some y → x ≡ y
same_some e = cc e

-- So is a target, and the one that is told by the run of its host pages, if it has some.
same_run : (run : PageRun) (target : Target) (t : Topics) → run_aimed t ≡ Some run → IsOpening target t
    → IsSame target (target_of_run (nat_lt 1 run.level) run) t
same_run run (aim.Page page) t is O =
    subst (λ (r : PageRun). IsSame (aim.Page page) (target_of_run (nat_lt 1 r.level) r) t) (sym (same_some (sym is ∙ O.aimed.0)))
    (record { opening = O; start = refl; end_ = refl; page = refl })
same_run run (aim.Run several) t is O =
    subst (λ (r : PageRun). IsSame (aim.Run several) (target_of_run (nat_lt 1 r.level) r) t) (sym (same_some (sym is ∙ O.aimed.0)))
    (subst (λ (b : Bool). IsSame (aim.Run several) (target_of_run b several) t) (sym (more several.level O.aimed.1))
    (record { opening = O; start = refl; end_ = refl; page = refl }))
  where
    more : (level : ℕ) → 2 ≤ level → nat_lt 1 level ≡ true
    more level le = grind (arith, nat_tests)
same_run run (aim.Slot slot) t is O = absurd (let none = sym is ∙ O.aimed.0 in cc none)

-- So is each target, and the one that is told by the run that the actor may change, and by its frames.
same_target : (target : Target) (t : Topics) → IsOpening target t → IsSame target (target_told (run_aimed t) target t) t
same_target target t O = by (run_aimed t) refl target O
  where
    by : (aimed : Option PageRun) → run_aimed t ≡ aimed → (target : Target) → IsOpening target t → IsSame target (target_told aimed target t) t
    by (Some run) is target O = same_run run target t is O
    by None is (aim.Page page) O = absurd (let some = sym is ∙ O.aimed.0 in cc some)
    by None is (aim.Run run) O = absurd (let some = sym is ∙ O.aimed.0 in cc some)
    by None is (aim.Slot slot) O =
        let pages : slot.base + slot.pages - slot.base ≡ slot.pages = omega arith in
        let searched = searched_too slot slot.base slot.pages t.search (λ e. e) O.searched in
        subst (λ n. IsSame (aim.Slot slot) (aim.Slot (slot_from slot.base n t.search.slot)) t) (sym pages)
        (record {
          opening = aimed_slot (aim.Slot slot) (slot_from slot.base slot.pages t.search.slot) t O refl searched;
          start = refl;
          end_ = refl;
          page = refl;
        })

range_starts : (target other : Target) (t : Topics) → IsSame target other t → range_start target t ≡ range_start other t
range_starts target other t S =
    ap (λ n. start_with n (target_end target t.search t.row) t.invalidations) (sym S.start)
    ∙ ap (λ n. start_with (target_start other t.search t.row) n t.invalidations) (sym S.end_)

range_ends : (target other : Target) (t : Topics) → IsSame target other t → range_end target t ≡ range_end other t
range_ends target other t S =
    ap (λ n. end_with n (target_end target t.search t.row) t.invalidations) (sym S.start)
    ∙ ap (λ n. end_with (target_start other t.search t.row) n t.invalidations) (sym S.end_)

-- ---- The end of the range.

abbrev EndOf : Target → ℕ → ℕ → Topics → Type 0
EndOf target last gfn t =
    IsOpening target t × (has_widened t.invalidations.checked t.invalidations.count ≡ true) × (t.invalidations.own.pages ≡ run_of_target target)
    × (t.invalidations.own.start ≡ target_start target t.search t.row) × (last ≡ target_end target t.search t.row) × (gfn ≡ range_end target t)

end_prop : (target : Target) (last gfn : ℕ) (t : Topics) → IsProp (EndOf target last gfn t)
end_prop target last gfn t = hlevel (props, several_prop)

end_of : (last gfn : ℕ) (t : Topics) → MaySetEnd last gfn t
    → EndOf (target_of (run_aimed t) t.invalidations.own.start (last - t.invalidations.own.start) t.search.slot) last gfn t
end_of last gfn t M =
    subst (λ e. EndOf (target_of (run_aimed t) t.invalidations.own.start (e - t.invalidations.own.start) t.search.slot) last gfn t) (sym M.own_)
    (subst (λ s. EndOf (target_of (run_aimed t) s (target_end M.target t.search t.row - s) t.search.slot) last gfn t) (sym M.start)
    (S.opening, M.widened, M.pages ∙ sym S.page, M.start ∙ sym S.start, M.own_ ∙ sym S.end_, M.is ∙ range_ends M.target _ t S))
  where
    S : IsSame M.target (target_told (run_aimed t) M.target t) t
    S = same_target M.target t M.opening

pub end_stays : (last gfn : ℕ) (t : Topics) → ∥ MaySetEnd last gfn t ∥₁ → MaySetEnd last gfn t
end_stays last gfn t x =
    let target : Target = target_of (run_aimed t) t.invalidations.own.start (last - t.invalidations.own.start) t.search.slot in
    let all : EndOf target last gfn t = ∥∥₁_elim x (end_prop target last gfn t) (end_of last gfn t) in
    record { target = target; opening = all.0; widened = all.1; pages = all.2; start = all.3; own_ = all.4; is = all.5 }

-- ---- The count.

abbrev OpenOf : Target → Topics → Type 0
OpenOf target t =
    IsOpening target t × (t.invalidations.checked ≡ checked.Range) × (t.invalidations.own ≡ invalidated_by target t.search t.row)
    × (t.invalidations.own.end ≤ 2 ^ 36) × (is_within_range t.invalidations.own t.invalidations ≡ true) × (t.walk.level ≡ 0) × (t.flush ≡ no_flush)
    × (is_uncopied t.frames.owned ≡ true)

open_prop : (target : Target) (t : Topics) → IsProp (OpenOf target t)
open_prop target t = hlevel (props, several_prop)

open_of : (t : Topics) → MayOpen t
    → OpenOf (target_of (run_aimed t) t.invalidations.own.start (t.invalidations.own.end - t.invalidations.own.start) t.search.slot) t
open_of t M =
    subst (λ (n : Invalidated). OpenOf (target_of (run_aimed t) n.start (n.end - n.start) t.search.slot) t) (sym M.own_)
    (S.opening, M.known, M.own_ ∙ same, M.low, M.within, M.no_table, M.unasked, M.uncopied)
  where
    other : Target
    other = target_told (run_aimed t) M.target t

    S : IsSame M.target other t
    S = same_target M.target t M.opening

    same : invalidated_by M.target t.search t.row ≡ invalidated_by other t.search t.row
    same = λ i. record { pages = sym S.page i; start = sym S.start i; end = sym S.end_ i }

open_stays : (t : Topics) → ∥ MayOpen t ∥₁ → MayOpen t
open_stays t x =
    let target : Target = target_of (run_aimed t) t.invalidations.own.start (t.invalidations.own.end - t.invalidations.own.start) t.search.slot in
    let all : OpenOf target t = ∥∥₁_elim x (open_prop target t) (open_of t) in
    record {
      target = target;
      opening = all.0;
      known = all.1;
      own_ = all.2;
      low = all.3;
      within = all.4;
      no_table = all.5;
      unasked = all.6;
      uncopied = all.7;
    }

pub count_stays : (count : ℕ) (t : Topics) → ∥ MayCount count t ∥₁ → MayCount count t
count_stays count t x = record {
  alone = ∥∥₁_elim x (hlevel props) (λ M. M.alone);
  outside = ∥∥₁_elim x (hlevel props) (λ M. M.outside);
  knows = ∥∥₁_elim x (hlevel props) (λ M. M.knows);
  is = ∥∥₁_elim x (hlevel props) (λ M. M.is);
  opens = λ closed. open_stays t (∥∥₁_map x (λ M. M.opens closed));
  closes = ∥∥₁_elim x (hlevel props) (λ M. M.closes);
}

-- ---- The start of the range: which one is stored doesn't tell how many pages a slot has, but whether it has any, or the search went on to its end.

abbrev StartOf : Target → ℕ → ℕ → Topics → Type 0
StartOf target first gfn t =
    IsOpening target t × (has_counted t.invalidations.checked t.invalidations.count ≡ true) × (first ≡ target_start target t.search t.row)
    × (gfn ≡ range_start target t)

start_prop : (target : Target) (first gfn : ℕ) (t : Topics) → IsProp (StartOf target first gfn t)
start_prop target first gfn t = hlevel (props, several_prop)

-- one page, if so the range starts there, or else none
abbrev pages_told : Bool → ℕ
pages_told one = if one then 1 else 0

-- Where a slot has pages, the range starts as with one.
as_one : (first pages : ℕ) (n : Invalidations) → 1 ≤ pages → start_with first (first + pages) n ≡ start_with first (first + 1) n
as_one first pages n some =
    let any : nat_lt first (first + pages) ≡ true = grind (arith, nat_tests) in
    let one : nat_lt first (first + 1) ≡ true = grind (arith, nat_tests) in
    ap (λ (b : Bool). if b then (if n.count == 0 then first else lesser n.start first) else if n.count == 0 then 0 else n.start) (any ∙ sym one)

told : (first gfn pages : ℕ) (n : Invalidations) (one : Bool) → (gfn == start_with first (first + 1) n) ≡ one → gfn ≡ start_with first (first + pages) n
    → (gfn ≡ start_with first (first + pages_told one) n) × ((pages == 1) ≡ true → (pages_told one == 1) ≡ true)
told first gfn pages n true test is = (grind (arith, nat_tests), λ e. refl)
told first gfn zero n false test is = (is, λ e. absurd (cc e))
told first gfn (suc pages) n false test is =
    let same = is ∙ as_one first (suc pages) n (omega arith) in
    absurd (let yes : (gfn == start_with first (first + 1) n) ≡ true = grind (arith, nat_tests) in cc (yes, test))

start_of : (first gfn : ℕ) (t : Topics) → MaySetStart first gfn t
    → StartOf (target_of (run_aimed t) first (pages_told (gfn == start_with first (first + 1) t.invalidations)) t.search.slot) first gfn t
start_of first gfn t M = by (run_aimed t) refl M.target M.opening M.own_ M.is
  where
    pages : ℕ
    pages = pages_told (gfn == start_with first (first + 1) t.invalidations)

    by : (aimed : Option PageRun) → run_aimed t ≡ aimed → (target : Target) → IsOpening target t → first ≡ target_start target t.search t.row
        → gfn ≡ range_start target t → StartOf (target_of aimed first pages t.search.slot) first gfn t
    by (Some run) may target O own_ is =
        let S = same_run run target t may O in (S.opening, M.counted, own_ ∙ sym S.start, is ∙ range_starts target _ t S)
    by None may (aim.Page page) O own_ is = absurd (let some = sym may ∙ O.aimed.0 in cc some)
    by None may (aim.Run run) O own_ is = absurd (let some = sym may ∙ O.aimed.0 in cc some)
    by None may (aim.Slot slot) O own_ is =
        let T = told first gfn slot.pages t.invalidations (gfn == start_with first (first + 1) t.invalidations) refl
        (is ∙ ap (λ b. start_with b (b + slot.pages) t.invalidations) (sym own_)) in (
          aimed_slot (aim.Slot slot) (slot_from first pages t.search.slot) t O refl (searched_too slot first pages t.search T.1 O.searched),
          M.counted,
          refl,
          T.0,
        )

pub start_stays : (first gfn : ℕ) (t : Topics) → ∥ MaySetStart first gfn t ∥₁ → MaySetStart first gfn t
start_stays first gfn t x =
    let target : Target = target_of (run_aimed t) first (pages_told (gfn == start_with first (first + 1) t.invalidations)) t.search.slot in
    let all : StartOf target first gfn t = ∥∥₁_elim x (start_prop target first gfn t) (start_of first gfn t) in
    record { target = target; opening = all.0; counted = all.1; own_ = all.2; is = all.3 }
