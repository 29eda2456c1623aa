-- Where the walk of a sweep goes on: up from the last entry of a table, and at the end of an entry; and the guest frames that an entry is over.
use Rattle.std.proofs.lemmas.Bool.Decides.{nat_tests}
use Rattle.std.proofs.Common.{◌≡◌, ◌+◌, ◌*◌, ◌/◌, ◌%◌, ◌^◌, ◌<◌, ◌≤◌, ℕ, Bool, true, false, refl, ap, ◌∙◌, arith, subst, sym}
use Rattle.std.specs.Prelude.{◌==◌, ◌&&◌, nat_lt, if◌then◌else◌}
use Rattle.core_views.specs.declared.topics.TableWalk.{TableWalk}
use Rattle.spte_words.specs.Entries.{level_span}
use Rattle.spte_words.proofs.Spans.{span_4, span_above}
use Rattle.part_steps.specs.PartHoldings.{IsOver, SawEntry}
use Rattle.part_steps.specs.SweepTopics.{entry_end, entry_start, gone_up, gone_up_once, has_entry}
use Rattle.mmu_core.proofs.orders.SweepSpans.{entry_frames, entry_numbers, next_entry, table_below, table_ends}

-- ---- the walk goes up

-- It has come to the last entry of its table; and goes on in the table above.
abbrev is_at_end : TableWalk → Bool
is_at_end w = (w.index == 511) && nat_lt w.level 4

abbrev raised : TableWalk → TableWalk
raised w = record w { level = w.level + 1; prefix = w.prefix / 512; index = w.prefix % 512 }

stays_once : (w : TableWalk) → is_at_end w ≡ false → gone_up_once w ≡ w
stays_once w is = ap (λ (b : Bool). record w {
  level = if b then w.level + 1 else w.level;
  prefix = if b then w.prefix / 512 else w.prefix;
  index = if b then w.prefix % 512 else w.index;
}) is

goes_once : (w : TableWalk) → is_at_end w ≡ true → gone_up_once w ≡ raised w
goes_once w is = ap (λ (b : Bool). record w {
  level = if b then w.level + 1 else w.level;
  prefix = if b then w.prefix / 512 else w.prefix;
  index = if b then w.prefix % 512 else w.index;
}) is

-- What each step up keeps is so of the walk that has gone up.
up_once : (P : TableWalk → Type 0) → ((w : TableWalk) → is_at_end w ≡ true → P w → P (raised w)) → (w : TableWalk) → P w → P (gone_up_once w)
up_once P step w p = by (is_at_end w) refl
  where
    by : (b : Bool) → is_at_end w ≡ b → P (gone_up_once w)
    by true is = subst P (sym (goes_once w is)) (step w is p)
    by false is = subst P (sym (stays_once w is)) p

up_keeps : (P : TableWalk → Type 0) → ((w : TableWalk) → is_at_end w ≡ true → P w → P (raised w)) → (w : TableWalk) → P w → P (gone_up w)
up_keeps P step w p = up_once P step (gone_up_once (gone_up_once w)) (up_once P step (gone_up_once w) (up_once P step w p))

both_are : (a b : Bool) → (a && b) ≡ true → (a ≡ true) × (b ≡ true)
both_are true b is = (refl, is)
both_are false b is = absurd (cc is)

pub not_second : (a : Bool) {b : Bool} → b ≡ false → (a && b) ≡ false
not_second true is = is
not_second false is = refl

end_is : (w : TableWalk) → is_at_end w ≡ true → (w.index ≡ 511) × (w.level < 4)
end_is w is = let B = both_are (w.index == 511) (nat_lt w.level 4) is in (let a = B.0 in grind (arith, nat_tests), let b = B.1 in grind (arith, nat_tests))

-- It stands at one of the four levels still, no lower, and the table's number is no greater.
pub record UpFrom (level prefix : ℕ) (w : TableWalk) : Type 0 where
  pub there : 1 ≤ w.level
  pub low : w.level ≤ 4
  pub up : level ≤ w.level
  pub within : w.prefix ≤ prefix

pub up_levels : (w : TableWalk) → 1 ≤ w.level → w.level ≤ 4 → UpFrom w.level w.prefix (gone_up w)
up_levels w from to =
    up_keeps (UpFrom w.level w.prefix) step w (record { there = from; low = to; up = omega arith; within = omega arith })
  where
    step : (u : TableWalk) → is_at_end u ≡ true → UpFrom w.level w.prefix u → UpFrom w.level w.prefix (raised u)
    step u is U =
        let E = end_is u is in
        let lt = E.1 in
        let up = U.up in
        let within = U.within in
        record { there = omega arith; low = omega (arith, lt); up = omega (arith, up); within = omega (arith, within) }

-- It stands at the end of no table but the root.
at_top : (w : TableWalk) → 4 ≤ w.level → is_at_end w ≡ false
at_top w top = not_second (w.index == 511) (grind (arith, nat_tests))

up_not_at_end : (w : TableWalk) → 1 ≤ w.level → is_at_end (gone_up w) ≡ false
up_not_at_end w from = by (is_at_end w) refl
  where
    still : (u : TableWalk) → is_at_end u ≡ false → is_at_end (gone_up_once u) ≡ false
    still u is = ap is_at_end (stays_once u is) ∙ is

    third : (u : TableWalk) (c : Bool) → 3 ≤ u.level → is_at_end u ≡ c → is_at_end (gone_up_once u) ≡ false
    third u true up is = ap is_at_end (goes_once u is) ∙ at_top (raised u) (omega (arith, up))
    third u false up is = still u is

    second : (u : TableWalk) (c : Bool) → 2 ≤ u.level → is_at_end u ≡ c → is_at_end (gone_up_once (gone_up_once u)) ≡ false
    second u true up is =
        ap (λ x. is_at_end (gone_up_once x)) (goes_once u is) ∙ third (raised u) (is_at_end (raised u)) (omega (arith, up)) refl
    second u false up is = still (gone_up_once u) (still u is)

    by : (b : Bool) → is_at_end w ≡ b → is_at_end (gone_up w) ≡ false
    by true is =
        ap (λ x. is_at_end (gone_up_once (gone_up_once x))) (goes_once w is) ∙ second (raised w) (is_at_end (raised w)) (omega (arith, from)) refl
    by false is = still (gone_up_once (gone_up_once w)) (still (gone_up_once w) (still w is))

-- Where no entry was loaded yet it stays.
pub stays_without : (w : TableWalk) → has_entry w ≡ false → gone_up w ≡ w
stays_without w none =
    let not_last : (w.index == 511) ≡ false = grind (arith, nat_tests) in
    let stay : is_at_end w ≡ false = ap (λ (b : Bool). b && nat_lt w.level 4) not_last in
    ap (λ x. gone_up_once (gone_up_once x)) (stays_once w stay) ∙ ap gone_up_once (stays_once w stay) ∙ stays_once w stay

-- The table begins no higher than a guest frame that it is over.
pub starts_below : (c : ℕ) (w : TableWalk) → w.level ≤ 4 → has_entry w ≡ false → IsOver c w → entry_start w ≤ c
starts_below c w to none O =
    subst (λ (b : Bool). (w.prefix * 512 + (if b then w.index else 0)) * level_span w.level ≤ c) (sym none) (table_below w.level O.there to c w.prefix O.span)

-- ---- the end of an entry

-- The entry that was loaded last ends at this guest frame.
record EndsAt (c : ℕ) (w : TableWalk) : Type 0 where
  there : 1 ≤ w.level
  low : w.level ≤ 4
  has : w.index < 512
  is : entry_end w ≡ c

ends_above : (c : ℕ) (w : TableWalk) → is_at_end w ≡ true → EndsAt c w → EndsAt c (raised w)
ends_above c w is E =
    let last = end_is w is in
    let lt = last.1 in
    record {
      there = omega arith;
      low = omega (arith, lt);
      has = omega arith;
      is = ap (λ s. (w.prefix / 512 * 512 + w.prefix % 512 + 1) * s) (span_above w.level E.there)
          ∙ table_ends w.level E.there E.low w.prefix w.index last.0
          ∙ E.is;
    }

-- The walk goes on from the end of an entry at the first guest frame of the next one, unless it has come to the end of all.
pub record GoesOnAt (c : ℕ) (u : TableWalk) : Type 0 where
  pub even : c % level_span u.level ≡ 0
  pub over : c < 2 ^ 36 → IsOver c u

pub goes_on : (w : TableWalk) → 1 ≤ w.level → w.level ≤ 4 → has_entry w ≡ true → GoesOnAt (entry_end w) (gone_up w)
goes_on w from to has = record { even = N.0; over = λ low. record { small = low; there = U.there; span = N.1 (more low) } }
  where
    U : EndsAt (entry_end w) (gone_up w)
    U = up_keeps (EndsAt (entry_end w)) (ends_above (entry_end w)) w (record { there = from; low = to; has = grind (arith, nat_tests); is = refl })

    N : (entry_end w % level_span (gone_up w).level ≡ 0)
        × ((gone_up w).index + 1 < 512 → entry_end w / level_span (gone_up w).level / 512 ≡ (gone_up w).prefix)
    N = next_entry (gone_up w).level U.there U.low (entry_end w) (gone_up w).prefix (gone_up w).index U.is

    not_last : (i p level c : ℕ) → i < 512 → level ≤ 4 → ((i == 511) && nat_lt level 4) ≡ false → (p * 512 + i + 1) * level_span level ≡ c → c < 2 ^ 36
        → i + 1 < 512
    not_last i p level c has most not_end is low = by (i == 511) (nat_lt level 4) refl refl not_end
      where
        by : (a b : Bool) → (i == 511) ≡ a → nat_lt level 4 ≡ b → (a && b) ≡ false → i + 1 < 512
        by true true last lt no_ = absurd (cc no_)
        by true false last top no_ =
            let e : level ≡ 4 = grind (arith, nat_tests) in
            let l : i ≡ 511 = grind (arith, nat_tests) in
            let at : (p * 512 + i + 1) * 134217728 ≡ c = sym (ap (λ s. (p * 512 + i + 1) * s) (ap level_span e ∙ span_4)) ∙ is in
            absurd (omega (arith, l, at, low))
        by false b other any no_ = grind (arith, nat_tests)

    more : entry_end w < 2 ^ 36 → (gone_up w).index + 1 < 512
    more low = not_last (gone_up w).index (gone_up w).prefix (gone_up w).level (entry_end w) U.has U.low (up_not_at_end w from) U.is low

-- ---- the entry over a guest frame

-- It begins no higher, ends above, and no higher than all guest frames.
pub record EntryOver (c : ℕ) (w : TableWalk) : Type 0 where
  pub has : has_entry w ≡ true
  pub from : entry_start w ≤ c
  pub to : c < entry_end w
  pub small : entry_end w ≤ 2 ^ 36
  pub even : c % level_span w.level ≡ 0 → entry_start w ≡ c

pub saw_entry : (c : ℕ) (w : TableWalk) → w.level ≤ 4 → SawEntry c w → EntryOver c w
saw_entry c w to S =
    let N = entry_numbers w.level S.over.there to c w.prefix w.index S.over.small S.over.span S.loaded in
    record { has = has; from = subst (λ e. e ≤ c) (sym start) N.0; to = N.1; small = N.2; even = λ even. start ∙ N.3 even }
  where
    has : has_entry w ≡ true
    has = let at = S.loaded in let low : w.index < 512 = omega (arith, at) in grind (arith, nat_tests)

    start : entry_start w ≡ (w.prefix * 512 + w.index) * level_span w.level
    start = ap (λ (b : Bool). (w.prefix * 512 + (if b then w.index else 0)) * level_span w.level) has

-- Each guest frame from there on up to its end is one of the entry's.
pub saw_each : (c g : ℕ) (w : TableWalk) → w.level ≤ 4 → SawEntry c w → entry_start w ≤ g → g < entry_end w → SawEntry g w
saw_each c g w to S from below =
    let E = saw_entry c w to S in
    let small = E.small in
    let low : w.index < 512 = let at = S.loaded in omega (arith, at) in
    let start = ap (λ (b : Bool). (w.prefix * 512 + (if b then w.index else 0)) * level_span w.level) E.has in
    let N = entry_frames w.level S.over.there to g w.prefix w.index low (subst (λ e. e ≤ g) start from) below in
    record { over = record { small = omega (arith, below, small); there = S.over.there; span = N.0 }; loaded = N.1 }
