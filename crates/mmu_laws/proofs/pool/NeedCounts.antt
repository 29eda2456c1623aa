-- The need of a trace is four, and one for each span of guest frames in which a slot has pages.
use Rattle.std.proofs.Common.{◌≡◌, ◌≢◌, ◌+◌, ◌*◌, ◌/◌, ◌^◌, ◌<◌, ◌≤◌, ◌&&◌, ℕ, zero, suc, List, [], ◌∷◌, length, get_or}
use Rattle.std.proofs.Common.{refl, sym, subst, ap, ◌∙◌, arith}
use Rattle.std.proofs.Math.Nat.{div-lt_iff_lt-mul}
use Rattle.std.proofs.lemmas.Bool.Decides.{nat_tests}
use Rattle.std.proofs.lemmas.List.Folds.{Any-from_list_any, list_any_at}
use Rattle.std.specs.List.{AllPairs, Contains, list_any}
use Rattle.std.specs.Prelude.{Bool, true, false, nat_le, nat_lt, not, ◌==◌}
use Rattle.core_views.specs.declared.trace.Command.{Command}
use Rattle.core_views.specs.declared.trace.Command.TheVariants.{SetSlot}
use Rattle.core_views.specs.declared.trace.Header.{Header}
use Rattle.core_views.specs.declared.trace.Line.{Line}
use Rattle.core_views.specs.declared.trace.Slot.{Slot}
use Rattle.core_views.specs.Need.{count_below, is_counted, meets, need, wants}
use Rattle.core_views.specs.Slots.{contains}
use Rattle.mmu_laws.specs.pool.NeedCounts.{AreSpans, IsSet, NeedIsCounted, OneSlotNeedsSeven}
use Rattle.mmu_laws.proofs.pool.Pigeonhole.{but_for, count_without, still_passes}
use Rattle.mmu_laws.proofs.pool.WantedSpans.{meets_span}

-- ---- a list without repetition of the numbers below n that pass a test is as long as they are many

count_none : (n : ℕ) (test : ℕ → Bool) → ((i : ℕ) → i < n → test i ≡ false) → count_below n test ≡ 0
unfolding count_below
count_none zero test none = refl
count_none (suc n) test none =
    let before = count_none n test (λ i lt. none i (omega (arith, lt))) in
    let last = none n (omega arith) in
    rw (before, last) refl

abbrev Once : List ℕ → Type 0
Once numbers = AllPairs (λ (one : ℕ) (other : ℕ). one ≢ other) numbers

once_after : (x : ℕ) (xs : List ℕ) → Once (x ∷ xs) → Once xs
once_after x xs once i j d lt low = once (suc i) (suc j) d (omega (arith, lt)) (omega (arith, low))

-- the first one doesn't stand there again
not_again : (x : ℕ) (xs : List ℕ) (i : ℕ) → Once (x ∷ xs) → Contains xs i → x ≢ i
not_again x xs i once has = subst (λ k. x ≢ k) has.2 (once 0 (suc has.0) i (omega arith) (omega (arith, has.1)))

stands_after : (x : ℕ) (xs : List ℕ) (i : ℕ) → x ≢ i → Contains (x ∷ xs) i → Contains xs i
stands_after x xs i ne has = by has.0 has.1 has.2
  where
    by : (k : ℕ) → k < suc (length xs) → get_or (x ∷ xs) k i ≡ i → Contains xs i
    by zero lt is = absurd (ne is)
    by (suc k) lt is = (k, omega (arith, lt), is)

passes_of : (i x : ℕ) (b : Bool) → (b && not (i == x)) ≡ true → (b ≡ true) × (x ≢ i)
passes_of i x true passes = (refl, λ e. apart e)
  where
    apart : x ≡ i → ⊥
    apart e = grind (arith, nat_tests)
passes_of i x false passes = absurd (cc passes)

count_listed : (xs : List ℕ) (n : ℕ) (test : ℕ → Bool) → Once xs → ((i : ℕ) → Contains xs i → (i < n) × (test i ≡ true))
    → ((i : ℕ) → i < n → test i ≡ true → Contains xs i) → count_below n test ≡ length xs
count_listed [] n test once own each = count_none n test (λ i lt. fails i lt (test i) refl)
  where
    fails : (i : ℕ) → i < n → (b : Bool) → test i ≡ b → test i ≡ false
    fails i lt true is = absurd (omega (arith, (each i lt is).1))
    fails i lt false is = is
count_listed (x ∷ xs) n test once own each =
    let first = own x (0, omega arith, refl) in
    let rest = count_listed xs n (but_for x test) (once_after x xs once)
    (λ i has.
    let stands = own i (suc has.0, omega (arith, has.1), has.2) in
    let apart = not_again x xs i once has in
    (stands.0, still_passes i x (test i) stands.1 (λ e. apart (sym e))))
    (λ i lt passes.
    let of = passes_of i x (test i) passes in
    stands_after x xs i of.1 (each i lt of.0)) in
    omega (arith, count_without n x test first.0 first.1, rest)

-- ---- the spans that a slot line wants are those of its guest frames

low : (pages total end : ℕ) → (nat_le 1 pages && nat_le pages total && nat_le end (2 ^ 36)) ≡ true → end ≤ 2 ^ 36
low pages total end counts = grind (arith, nat_tests)

below : (gfn base end : ℕ) → (nat_le base gfn && nat_lt gfn end) ≡ true → gfn < end
below gfn base end holds = grind (arith, nat_tests)

and_both : (a b : Bool) → a ≡ true → b ≡ true → (a && b) ≡ true
and_both true true x y = refl
and_both true false x y = absurd (cc y)
and_both false b x y = absurd (cc x)

and_first : (a b : Bool) → (a && b) ≡ true → (a ≡ true) × (b ≡ true)
and_first true true e = (refl, refl)
and_first true false e = absurd (cc e)
and_first false b e = absurd (cc e)

-- a guest frame of a slot that a span meets, which is in the span
in_both : (from past base pages total : ℕ) → from < past → (nat_le 1 pages && nat_le pages total && nat_le (base + pages) (2 ^ 36)) ≡ true
    → (nat_lt base past && nat_lt from (base + pages)) ≡ true
    → (gfn : ℕ) × (from ≤ gfn) × (gfn < past) × ((nat_le base gfn && nat_lt gfn (base + pages)) ≡ true)
in_both from past base pages total lt counts meets = by (nat_le base from) refl
  where
    by : (b : Bool) → nat_le base from ≡ b → (gfn : ℕ) × (from ≤ gfn) × (gfn < past) × ((nat_le base gfn && nat_lt gfn (base + pages)) ≡ true)
    by true le = (from, omega arith, lt, grind (arith, nat_tests))
    by false le = (base, grind (arith, nat_tests), grind (arith, nat_tests), grind (arith, nat_tests))

span_of : (span gfn index : ℕ) → 0 < span → index * span ≤ gfn → gfn < (index + 1) * span → gfn / span ≡ index
span_of span gfn index pos from past =
    let below : gfn / span < index + 1 = (div-lt_iff_lt-mul {k = span} {x = gfn} {y = index + 1} pos).1 past in
    by (nat_lt (gfn / span) index) refl below
  where
    by : (b : Bool) → nat_lt (gfn / span) index ≡ b → gfn / span < index + 1 → gfn / span ≡ index
    by true less below =
        let lt : gfn / span < index = grind (arith, nat_tests) in
        let back : gfn < index * span = (div-lt_iff_lt-mul {k = span} {x = gfn} {y = index} pos).0 lt in
        absurd (omega (arith, back, from))
    by false less below = grind (arith, nat_tests)

-- What a line wants it sets.
record Sets (pages span index : ℕ) (command : Command) : Type 0 where
  id : ℕ
  slot : Slot
  sets : command ≡ SetSlot id slot
  counts : is_counted pages slot ≡ true
  met : meets span index slot ≡ true

wanted_sets : (pages span index : ℕ) (command : Command) → wants pages span index command ≡ true → Sets pages span index command
wanted_sets pages span index (SetSlot id slot) wanted =
    let both = and_first (is_counted pages slot) (meets span index slot) wanted in
    record { id = id; slot = slot; sets = refl; counts = both.0; met = both.1 }
wanted_sets pages span index _ wanted = absurd (cc wanted)

module _ (h : Header) (lines : List Line) (span total : ℕ) (pos : 0 < span) (whole : total * span ≡ 2 ^ 36) where
  spans_counted : (numbers : List ℕ) → AreSpans h lines span numbers
      → count_below total (λ index. list_any (λ (line : Line). wants h.pages span index line.command) lines) ≡ length numbers
  spans_counted numbers S = count_listed numbers total _ S.once own each
    where
      own : (i : ℕ) → Contains numbers i → (i < total) × (list_any (λ (line : Line). wants h.pages span i line.command) lines ≡ true)
      own i has =
          let one = S.no_other i has in
          let W = one.1 in
          let slot : Slot = W.slot in
          let end : slot.base + slot.pages ≤ 2 ^ 36 = low slot.pages h.pages (slot.base + slot.pages) W.counts in
          let lt : one.0 < slot.base + slot.pages = below one.0 slot.base (slot.base + slot.pages) W.holds in
          let fits : one.0 < total * span = omega (arith, end, lt, whole) in
          let wanted : wants h.pages span i (SetSlot W.id slot) ≡ true =
          and_both (is_counted h.pages slot) (meets span i slot) W.counts (meets_span span one.0 i slot pos one.2 W.holds) in (
            subst (λ k. k < total) one.2 ((div-lt_iff_lt-mul {k = span} {x = one.0} {y = total} pos).1 fits),
            list_any_at (λ (line : Line). wants h.pages span i line.command) lines W.there.0 W.line W.there.1
                (subst (λ (line : Line). wants h.pages span i line.command ≡ true) (sym W.there.2)
                (subst (λ (c : Command). wants h.pages span i c ≡ true) (sym W.sets) wanted)),
          )

      each : (i : ℕ) → i < total → list_any (λ (line : Line). wants h.pages span i line.command) lines ≡ true → Contains numbers i
      each i lt some =
          let A = Any-from_list_any (λ (line : Line). wants h.pages span i line.command) lines some in
          let W = wanted_sets h.pages span i A.1.command A.4 in
          let slot : Slot = W.slot in
          let ends : i * span < (i + 1) * span = later i in
          let F = in_both (i * span) ((i + 1) * span) slot.base slot.pages h.pages ends W.counts W.met in
          let is : F.0 / span ≡ i = span_of span F.0 i pos F.1 F.2 in
          subst (Contains numbers) is (S.has_each F.0 (record {
            line = A.1;
            id = W.id;
            slot = slot;
            there = (A.0, A.2, A.3);
            sets = W.sets;
            counts = W.counts;
            holds = F.3;
          }))
        where
          later : (i : ℕ) → i * span < (i + 1) * span
          later i = grind (arith, nat_tests)

pub need_is_counted : NeedIsCounted
unfolding need
need_is_counted h lines third second first T S F =
    omega (
      arith,
      spans_counted h lines (2 ^ 27) (2 ^ 9) (omega arith) refl third T,
      spans_counted h lines (2 ^ 18) (2 ^ 18) (omega arith) refl second S,
      spans_counted h lines (2 ^ 9) (2 ^ 27) (omega arith) refl first F,
    )

-- ---- one slot in the first span

module _ (h : Header) (line : Line) (id : ℕ) (slot : Slot) (sets : line.command ≡ SetSlot id slot) (counts : is_counted h.pages slot ≡ true)
    (small : slot.base + slot.pages ≤ 512) where
  only_line : (other : Line) → Contains (line ∷ []) other → line ≡ other
  only_line other has = by has.0 has.1 has.2
    where
      by : (k : ℕ) → k < 1 → get_or (line ∷ []) k other ≡ other → line ≡ other
      by zero lt is = is
      by (suc k) lt is = absurd (omega (arith, lt))

  only_zero : (number : ℕ) → Contains (0 ∷ []) number → 0 ≡ number
  only_zero number has = by has.0 has.1 has.2
    where
      by : (k : ℕ) → k < 1 → get_or (0 ∷ []) k number ≡ number → 0 ≡ number
      by zero lt is = is
      by (suc k) lt is = absurd (omega (arith, lt))

  slot_of_command : (id other_id : ℕ) (one other : Slot) → SetSlot id one ≡ SetSlot other_id other → one ≡ other
  slot_of_command id other_id one other e = cc e

  first_held : (base pages total : ℕ) → (nat_le 1 pages && nat_le pages total && nat_le (base + pages) (2 ^ 36)) ≡ true
      → (nat_le base base && nat_lt base (base + pages)) ≡ true
  first_held base pages total counts = grind (arith, nat_tests)

  in_first_span : (span gfn : ℕ) → 512 ≤ span → contains gfn slot ≡ true → gfn / span ≡ 0
  in_first_span span gfn wide holds =
      let lt = below gfn slot.base (slot.base + slot.pages) holds in
      span_of span gfn 0 (omega (arith, wide)) (omega arith) (omega (arith, wide, lt, small))

  one_span : (span : ℕ) → 512 ≤ span → AreSpans h (line ∷ []) span (0 ∷ [])
  one_span span wide = record {
    once = λ i j d lt low. absurd (omega (arith, lt, low));
    has_each = each;
    no_other = other;
  }
    where
      each : (gfn : ℕ) → IsSet h (line ∷ []) gfn → Contains (0 ∷ []) (gfn / span)
      each gfn S =
          let same : slot ≡ S.slot =
          slot_of_command id S.id slot S.slot (sym sets ∙ (ap (λ (l : Line). l.command) (only_line S.line S.there) ∙ S.sets)) in
          let holds = subst (λ (s : Slot). contains gfn s ≡ true) (sym same) S.holds in
          subst (Contains (0 ∷ [])) (sym (in_first_span span gfn wide holds)) (0, omega arith, refl)

      other : (number : ℕ) → Contains (0 ∷ []) number → (gfn : ℕ) × IsSet h (line ∷ []) gfn × (gfn / span ≡ number)
      other number has =
          let holds = first_held slot.base slot.pages h.pages counts in (
            slot.base,
            record {
              line = line;
              id = id;
              slot = slot;
              there = (0, omega arith, refl);
              sets = sets;
              counts = counts;
              holds = holds;
            },
            in_first_span span slot.base wide holds ∙ only_zero number has,
          )

pub one_slot_needs_seven : OneSlotNeedsSeven
one_slot_needs_seven h line id slot sets counts small =
    let spans : (span : ℕ) → 512 ≤ span → AreSpans h (line ∷ []) span (0 ∷ []) = one_span h line id slot sets counts small in
    need_is_counted h (line ∷ []) (0 ∷ []) (0 ∷ []) (0 ∷ []) (spans (2 ^ 27) (omega arith)) (spans (2 ^ 18) (omega arith)) (spans (2 ^ 9) (omega arith))
