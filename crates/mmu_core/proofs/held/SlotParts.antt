-- The part that a slot has of a run of host pages: the guest frames that it gives to them.
use Rattle.std.proofs.Common.{◌≡◌, ◌⊎◌, inl, inr, ◌+◌, ◌-◌, ◌^◌, ◌<◌, ◌≤◌, ℕ, refl, subst, ap, arith}
use Rattle.std.specs.Prelude.{Bool, true, false, if◌then◌else◌, nat_le, nat_lt, Some}
use Rattle.std.proofs.lemmas.Bool.{cases_lt}
use Rattle.std.proofs.lemmas.Bool.Decides.{nat_tests}
use Rattle.core_views.specs.declared.topics.PageRun.{PageRun}
use Rattle.core_views.specs.declared.trace.Slot.{Slot as SlotOf}
use Rattle.core_views.specs.Slots.{has_host_page}
use Rattle.spte_words.specs.Entries.{level_span}
use Rattle.spte_words.proofs.Spans.{span_positive}
use Rattle.part_steps.specs.InvalidationRange.{gfn_behind}
use Rattle.part_steps.specs.PageRuns.{IsOnRun, capped, greater, has_part, lesser, part_end, part_start, run_end, run_start}
use Rattle.mmu_core.specs.invariant.InvalidatedPart.{GivesOne}
use Rattle.mmu_core.specs.invariant.SlotSetPart.{IsLiveIn}
use Rattle.mmu_core.proofs.forms.access.FaultSame.{both, over_it}
use Rattle.part_steps.proofs.PageRuns.{stays_in}
use Rattle.mmu_core.proofs.words.RunSpans.{on_run}

-- ---- the lesser and the greater

pub record IsLesser (a b : ℕ) : Type 0 where
  pub first : lesser a b ≤ a
  pub second : lesser a b ≤ b
  pub is : (lesser a b ≡ a) ⊎ (lesser a b ≡ b)

pub is_lesser : (a b : ℕ) → IsLesser a b
is_lesser a b = by (nat_le a b) refl
  where
    by : (t : Bool) → nat_le a b ≡ t → IsLesser a b
    by true e =
        let le : a ≤ b = grind (arith, nat_tests) in
        let is : lesser a b ≡ a = ap (λ (t : Bool). if t then a else b) e in
        record { first = omega (arith, is); second = omega (arith, is, le); is = inl is }
    by false e =
        let gt : b < a = grind (arith, nat_tests) in
        let is : lesser a b ≡ b = ap (λ (t : Bool). if t then a else b) e in
        record { first = omega (arith, is, gt); second = omega (arith, is); is = inr is }

pub record IsGreater (a b : ℕ) : Type 0 where
  pub first : a ≤ greater a b
  pub second : b ≤ greater a b
  pub is : (greater a b ≡ a) ⊎ (greater a b ≡ b)

pub is_greater : (a b : ℕ) → IsGreater a b
is_greater a b = by (nat_le a b) refl
  where
    by : (t : Bool) → nat_le a b ≡ t → IsGreater a b
    by true e =
        let le : a ≤ b = grind (arith, nat_tests) in
        let is : greater a b ≡ b = ap (λ (t : Bool). if t then b else a) e in
        record { first = omega (arith, is, le); second = omega (arith, is); is = inr is }
    by false e =
        let gt : b < a = grind (arith, nat_tests) in
        let is : greater a b ≡ a = ap (λ (t : Bool). if t then b else a) e in
        record { first = omega (arith, is); second = omega (arith, is, gt); is = inl is }

pub capped_low : (n : ℕ) → n ≤ 2 ^ 36 → capped n ≡ n
capped_low n low = by (is_lesser n (2 ^ 64 - 1)).is
  where
    by : (capped n ≡ n) ⊎ (capped n ≡ 2 ^ 64 - 1) → capped n ≡ n
    by (inl is) = is
    by (inr is) = absurd (let le = (is_lesser n (2 ^ 64 - 1)).first in omega (arith, is, le, low))

-- ---- the part of a slot: it has the guest frames that the slot gives to pages of the run, and of these the first and the last

pub record IsPartOf (pool : ℕ → ℕ) (set : ℕ) (run : PageRun) (slot : SlotOf) : Type 0 where
  pub most : part_end run slot ≤ slot.base + slot.pages
  pub some : part_start run slot < part_end run slot
  pub first : (id : ℕ) → IsLiveIn pool set id slot → GivesOne pool set (Some run) (part_start run slot)
  pub last : (id : ℕ) → IsLiveIn pool set id slot → GivesOne pool set (Some run) (part_end run slot - 1)

module _ (pool : ℕ → ℕ) (set : ℕ) (run : PageRun) (from : 1 ≤ run.level) (to : run.level ≤ 3) (slot : SlotOf) where
  span : 1 ≤ level_span run.level
  span = span_positive run.level from (omega (arith, to))

  -- A page of the run that the slot has.
  given : (id page gfn : ℕ) → IsLiveIn pool set id slot → run_start run ≤ page → page < run_end run → slot.host ≤ page → page < slot.host + slot.pages
      → gfn ≡ gfn_behind page slot → GivesOne pool set (Some run) gfn
  given id page gfn L low high above below is = (
    page,
    subst (λ p. IsOnRun p (Some run)) (let all : run_start run + (page - run_start run) ≡ page = omega (arith, low) in all)
        (stays_in run.level from (omega (arith, to)) run.first (page - run_start run) (omega (arith, low, high))).0,
    record {
      id = id;
      slot = slot;
      live = L;
      has = (let one : slot.host ≤ page = above in let two : page < slot.host + slot.pages = below in grind (arith, nat_tests));
      is = is;
    },
  )

  pub has_it : has_part run slot ≡ true → IsPartOf pool set run slot
  has_it has = record {
    most = let le = M.second in omega (arith, le);
    some = by_least M.is;
    first = λ id L. from_first id L (cases_lt (run_start run) slot.host);
    last = λ id L. from_last id L M.is;
  }
    where
      B : (nat_lt slot.host (run_end run) ≡ true) × (nat_lt (run_start run - slot.host) slot.pages ≡ true)
      B = both (nat_lt slot.host (run_end run)) (nat_lt (run_start run - slot.host) slot.pages) has

      before : slot.host < run_end run
      before = let e = B.0 in grind (arith, nat_tests)

      within : run_start run - slot.host < slot.pages
      within = let e = B.1 in grind (arith, nat_tests)

      M : IsLesser (run_end run - slot.host) slot.pages
      M = is_lesser (run_end run - slot.host) slot.pages

      by_least : (lesser (run_end run - slot.host) slot.pages ≡ run_end run - slot.host) ⊎ (lesser (run_end run - slot.host) slot.pages ≡ slot.pages)
          → part_start run slot < part_end run slot
      by_least (inl is) = omega (arith, is, before, span)
      by_least (inr is) = omega (arith, is, within)

      from_first : (id : ℕ) → IsLiveIn pool set id slot → (run_start run < slot.host) ⊎ (slot.host ≤ run_start run)
          → GivesOne pool set (Some run) (part_start run slot)
      from_first id L (inl less) =
          given id slot.host _ L (omega (arith, less)) before (omega arith) (omega (arith, within)) (omega (arith, less))
      from_first id L (inr more) =
          given id (run_start run) _ L (omega arith) (omega (arith, span)) more (omega (arith, within, more)) (omega (arith, more))

      from_last : (id : ℕ) → IsLiveIn pool set id slot
          → (lesser (run_end run - slot.host) slot.pages ≡ run_end run - slot.host) ⊎ (lesser (run_end run - slot.host) slot.pages ≡ slot.pages)
          → GivesOne pool set (Some run) (part_end run slot - 1)
      from_last id L (inl is) =
          let least : lesser (run_end run - slot.host) slot.pages ≤ slot.pages = M.second in
          given id (run_end run - 1) _ L (omega (arith, span)) (omega (arith, span)) (omega (arith, before)) (omega (arith, before, is, least))
          (omega (arith, is, before))
      from_last id L (inr is) =
          let least : lesser (run_end run - slot.host) slot.pages ≤ run_end run - slot.host = M.first in
          given id (slot.host + slot.pages - 1) _ L (omega (arith, within)) (omega (arith, is, least, before, within)) (omega (arith, within))
          (omega (arith, within)) (omega (arith, is, within))

  -- Each page of the run that the slot has is in the part.
  pub in_part : (page : ℕ) → IsOnRun page (Some run) → has_host_page page slot ≡ true
      → (has_part run slot ≡ true) × (part_start run slot ≤ gfn_behind page slot) × (gfn_behind page slot < part_end run slot)
  in_part page on has =
      let R = on_run run page from (omega (arith, to)) on in
      let H = over_it slot.host page (slot.host + slot.pages) has in
      let low : run_start run ≤ page = R.0 in
      let high : page < run_end run = R.1 in
      let above : slot.host ≤ page = H.0 in
      let below : page < slot.host + slot.pages = H.1 in
      let one : slot.host < run_end run = omega (arith, above, high) in
      let two : run_start run - slot.host < slot.pages = omega (arith, low, above, below) in
      (grind (arith, nat_tests, one, two), omega (arith, low), under low high above below (is_lesser (run_end run - slot.host) slot.pages).is)
    where
      under : run_start run ≤ page → page < run_end run → slot.host ≤ page → page < slot.host + slot.pages
          → (lesser (run_end run - slot.host) slot.pages ≡ run_end run - slot.host) ⊎ (lesser (run_end run - slot.host) slot.pages ≡ slot.pages)
          → gfn_behind page slot < part_end run slot
      under low high above below (inl is) = omega (arith, is, high, above)
      under low high above below (inr is) = omega (arith, is, above, below)
