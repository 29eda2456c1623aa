-- A load of the next word of a slot keeps that a search for a run of several pages has collected the guest frames of the slots that it has passed.
use Rattle.std.proofs.Common.{◌≡◌, ◌⊎◌, inl, inr, ◌+◌, ◌-◌, ◌^◌, ◌<◌, ◌≤◌, ℕ, refl, sym, subst, ap, ◌∙◌, arith}
use Rattle.std.specs.Prelude.{Bool, true, false, ◌&&◌, if◌then◌else◌, nat_lt, Some}
use Rattle.std.proofs.lemmas.Bool.{cases_lt}
use Rattle.std.proofs.lemmas.Bool.Decides.{nat_tests}
use Rattle.core_views.specs.declared.place.SlotField.{SlotField}
use Rattle.core_views.specs.declared.place.SlotField.TheVariants as field
use Rattle.core_views.specs.declared.sizes.Sizes.{Sizes}
use Rattle.core_views.specs.declared.topics.HostRow.{HostRow}
use Rattle.core_views.specs.declared.topics.PageRun.{PageRun}
use Rattle.core_views.specs.declared.topics.SlotSearch.{SlotSearch}
use Rattle.core_views.specs.declared.trace.Slot.{Slot as SlotOf}
use Rattle.core_views.specs.Slots.{has_host_page}
use Rattle.spte_words.specs.Flags.{flags_live}
use Rattle.part_steps.specs.InvalidationRange.{gfn_behind}
use Rattle.part_steps.specs.PageRuns.{IsOnRun, capped, covering, greater, has_part, lesser, part_end, part_start, widened}
use Rattle.part_steps.specs.PageTopics.{searched_at}
use Rattle.part_steps.specs.SlotWords.{live_at, slot_at, slot_index}
use Rattle.mmu_core.specs.invariant.InvalidatedPart.{GivesOne, HasCollected}
use Rattle.mmu_core.specs.invariant.SearchPart.{SearchPart}
use Rattle.mmu_core.specs.invariant.SlotSetPart.{AreSlots, Fits, IsLiveIn}
use Rattle.mmu_core.proofs.held.SearchKept.{searched_part}
use Rattle.mmu_core.proofs.held.SlotParts.{IsGreater, IsPartOf, capped_low, has_it, in_part, is_greater, is_lesser}

module _ (z : Sizes) (pool : ℕ → ℕ) (set : ℕ) (run : PageRun) (from : 2 ≤ run.level) (to : run.level ≤ 3) (row : HostRow) where
  abbrev After : SlotSearch → Type 0
  After s = HasCollected pool set s.id run (covering (Some run) s row)

  -- The row stays, where no slot was loaded whole.
  same_row : (id : ℕ) (start end_ : ℕ) → HasCollected pool set id run row → HasCollected pool set id run (widened false start end_ row)
  same_row id start end_ C = record { covers = C.covers; first = C.first; last = C.last }

  one_more : (id n : ℕ) → id < n + 1 → (id < n) ⊎ (id ≡ n)
  one_more x n lt = by_order (cases_lt x n)
    where
      by_order : (x < n) ⊎ (n ≤ x) → (x < n) ⊎ (x ≡ n)
      by_order (inl less) = inl less
      by_order (inr more) = inr (omega (arith, more, lt))

  -- A slot that isn't live has none of its pages.
  passed_dead : (id : ℕ) → live_at pool set id ≡ false → HasCollected pool set id run row → HasCollected pool set (id + 1) run row
  passed_dead id dead C = record {
    covers = λ i page slot L lt on has. by i page slot L on has (one_more i id lt);
    first = C.first;
    last = C.last;
  }
    where
      by : (i page : ℕ) (slot : SlotOf) → IsLiveIn pool set i slot → IsOnRun page (Some run) → has_host_page page slot ≡ true → (i < id) ⊎ (i ≡ id)
          → (row.start ≤ gfn_behind page slot) × (gfn_behind page slot < row.end)
      by i page slot L on has (inl less) = C.covers i page slot L less on has
      by i page slot L on has (inr same) = absurd (let live : live_at pool set id ≡ true = ap (live_at pool set) (sym same) ∙ L.live in cc (live, dead))

  -- A slot that is loaded whole: the row is widened by its part.
  module _ (id : ℕ) (slot : SlotOf) (L : IsLiveIn pool set id slot) (small : slot.base + slot.pages ≤ 2 ^ 36) (C : HasCollected pool set id run row) where
    abbrev wide : Bool → HostRow
    wide has = widened has (capped (part_start run slot)) (capped (part_end run slot)) row

    without : has_part run slot ≡ false → HasCollected pool set (id + 1) run (wide false)
    without none = record {
      covers = λ i page other live lt on has. by i page other live on has (one_more i id lt);
      first = C.first;
      last = C.last;
    }
      where
        by : (i page : ℕ) (other : SlotOf) → IsLiveIn pool set i other → IsOnRun page (Some run) → has_host_page page other ≡ true → (i < id) ⊎ (i ≡ id)
            → (row.start ≤ gfn_behind page other) × (gfn_behind page other < row.end)
        by i page other live on has (inl less) = C.covers i page other live less on has
        by i page other live on has (inr same) =
            let is : other ≡ slot = sym live.is ∙ (ap (slot_at pool set) same ∙ L.is) in
            let part_ = (in_part pool set run (omega (arith, from)) to slot page on (subst (λ (s : SlotOf). has_host_page page s ≡ true) is has)).0 in
            absurd (cc (part_, none))

    with_part : has_part run slot ≡ true → HasCollected pool set (id + 1) run (wide true)
    with_part has = record {
      covers = λ i page other live lt on had. by i page other live on had (one_more i id lt);
      first = λ some. from_first (nat_lt row.start row.end) refl;
      last = λ some. from_last G.is;
    }
      where
        P : IsPartOf pool set run slot
        P = has_it pool set run (omega (arith, from)) to slot has

        starts : capped (part_start run slot) ≡ part_start run slot
        starts = capped_low (part_start run slot) (let most = P.most in let some = P.some in omega (arith, most, some, small))

        ends : capped (part_end run slot) ≡ part_end run slot
        ends = capped_low (part_end run slot) (let most = P.most in omega (arith, most, small))

        G : IsGreater row.end (capped (part_end run slot))
        G = is_greater row.end (capped (part_end run slot))

        -- It begins no later than the part, and than the row did.
        begins : (t : Bool) → nat_lt row.start row.end ≡ t
            → ((wide true).start ≤ part_start run slot) × (row.start < row.end → (wide true).start ≤ row.start)
        begins true e =
            let M = is_lesser row.start (capped (part_start run slot)) in
            let is : (wide true).start ≡ lesser row.start (capped (part_start run slot)) =
            ap (λ (t : Bool). if t then lesser row.start (capped (part_start run slot)) else capped (part_start run slot)) e in
            let one = M.first in
            let two = M.second in
            (omega (arith, is, two, starts), λ some. omega (arith, is, one))
        begins false e =
            let is : (wide true).start ≡ capped (part_start run slot) =
            ap (λ (t : Bool). if t then lesser row.start (capped (part_start run slot)) else capped (part_start run slot)) e in
            let empty : row.end ≤ row.start = grind (arith, nat_tests) in
            (omega (arith, is, starts), λ some. absurd (omega (arith, some, empty)))

        by : (i page : ℕ) (other : SlotOf) → IsLiveIn pool set i other → IsOnRun page (Some run) → has_host_page page other ≡ true → (i < id) ⊎ (i ≡ id)
            → ((wide true).start ≤ gfn_behind page other) × (gfn_behind page other < (wide true).end)
        by i page other live on had (inl less) =
            let B = C.covers i page other live less on had in
            let low = (begins (nat_lt row.start row.end) refl).1 (let one = B.0 in let two = B.1 in omega (arith, one, two)) in
            let high = G.first in
            let one = B.0 in
            let two = B.1 in
            (omega (arith, low, one), omega (arith, high, two))
        by i page other live on had (inr same) =
            let is : other ≡ slot = sym live.is ∙ (ap (slot_at pool set) same ∙ L.is) in
            let B = in_part pool set run (omega (arith, from)) to slot page on (subst (λ (s : SlotOf). has_host_page page s ≡ true) is had) in
            let behind : gfn_behind page other ≡ gfn_behind page slot = ap (gfn_behind page) is in
            let low = (begins (nat_lt row.start row.end) refl).0 in
            let high = G.second in
            let one = B.1 in
            let two = B.2 in
            (omega (arith, low, one, behind), omega (arith, high, two, ends, behind))

        from_first : (t : Bool) → nat_lt row.start row.end ≡ t → GivesOne pool set (Some run) (wide true).start
        from_first true e =
            subst (λ (t : Bool). GivesOne pool set (Some run) (if t then lesser row.start (capped (part_start run slot)) else capped (part_start run slot)))
            (sym e) (least (is_lesser row.start (capped (part_start run slot))).is)
          where
            least : (lesser row.start (capped (part_start run slot)) ≡ row.start)
                ⊎ (lesser row.start (capped (part_start run slot)) ≡ capped (part_start run slot))
                → GivesOne pool set (Some run) (lesser row.start (capped (part_start run slot)))
            least (inl is) = subst (GivesOne pool set (Some run)) (sym is) (C.first (grind (arith, nat_tests)))
            least (inr is) = subst (GivesOne pool set (Some run)) (sym (is ∙ starts)) (P.first id L)
        from_first false e =
            subst (λ (t : Bool). GivesOne pool set (Some run) (if t then lesser row.start (capped (part_start run slot)) else capped (part_start run slot)))
            (sym e) (subst (GivesOne pool set (Some run)) (sym starts) (P.first id L))

        from_last : (greater row.end (capped (part_end run slot)) ≡ row.end) ⊎ (greater row.end (capped (part_end run slot)) ≡ capped (part_end run slot))
            → GivesOne pool set (Some run) (greater row.end (capped (part_end run slot)) - 1)
        from_last (inl is) =
            subst (λ n. GivesOne pool set (Some run) (n - 1)) (sym is)
            (C.last (let more = G.second in let some = P.some in omega (arith, is, more, ends, some)))
        from_last (inr is) = subst (λ n. GivesOne pool set (Some run) (n - 1)) (sym (is ∙ ends)) (P.last id L)

    pub whole_loaded : HasCollected pool set (id + 1) run
        (widened (nat_lt 1 run.level && has_part run slot) (capped (part_start run slot)) (capped (part_end run slot)) row)
    whole_loaded =
        subst (λ (t : Bool). HasCollected pool set (id + 1) run (wide (t && has_part run slot)))
        (let more : true ≡ nat_lt 1 run.level = grind (arith, nat_tests) in more) (by (has_part run slot) refl)
      where
        by : (has : Bool) → has_part run slot ≡ has → HasCollected pool set (id + 1) run (wide (has_part run slot))
        by true e = subst (λ (t : Bool). HasCollected pool set (id + 1) run (wide t)) (sym e) (with_part e)
        by false e = subst (λ (t : Bool). HasCollected pool set (id + 1) run (wide t)) (sym e) (without e)

  -- Where a word after the flags is next, no slot is loaded whole.
  half : (b : Bool) (s : SlotSearch) → s.whole ≡ b → (slot : SlotOf) → (s.whole ≡ true → ⊥) → HasCollected pool set s.id run row
      → HasCollected pool set s.id run
      (widened (s.whole && (nat_lt 1 run.level && has_part run slot)) (capped (part_start run slot)) (capped (part_end run slot)) row)
  half true s is slot never C = absurd (never is)
  half false s is slot never C =
      subst (λ (b : Bool). HasCollected pool set s.id run
      (widened (b && (nat_lt 1 run.level && has_part run slot)) (capped (part_start run slot)) (capped (part_end run slot)) row)) (sym is)
      (same_row s.id (capped (part_start run slot)) (capped (part_end run slot)) C)

  -- Flags were loaded: a slot that isn't live is passed.
  flagged : (id : ℕ) (live : Bool) (slot : SlotOf) → live_at pool set id ≡ live → HasCollected pool set id run row
      → HasCollected pool set (if live then id else id + 1) run (widened false (capped (part_start run slot)) (capped (part_end run slot)) row)
  flagged id true slot e C = same_row id (capped (part_start run slot)) (capped (part_end run slot)) C
  flagged id false slot e C = same_row (id + 1) (capped (part_start run slot)) (capped (part_end run slot)) (passed_dead id e C)

  -- The word that is next was loaded.
  pub loaded_next : (f : SlotField) (s : SlotSearch) → s.next ≡ f → s.set ≡ Some set → s.id ≤ 31 → SearchPart pool s → AreSlots z pool set
      → HasCollected pool set s.id run row → After (searched_at f s (pool (slot_index set s.id f)))
  loaded_next field.Flags s at own low P A C =
      flagged s.id (flags_live (pool (slot_index set s.id field.Flags))) (searched_at field.Flags s (pool (slot_index set s.id field.Flags))).slot refl C
  loaded_next field.Base s at own low P A C =
      half s.whole s refl (searched_at field.Base s (pool (slot_index set s.id field.Base))).slot
      (λ whole. let next = P.before_flags whole in cc (next, at)) C
  loaded_next field.Pages s at own low P A C =
      half s.whole s refl (searched_at field.Pages s (pool (slot_index set s.id field.Pages))).slot
      (λ whole. let next = P.before_flags whole in cc (next, at)) C
  loaded_next field.Host s at own low P A C =
      let W = ((searched_part field.Host pool set s at own low P).whole set own refl).1 in
      let same : s.id + 1 - 1 ≡ s.id = omega arith in
      let live : IsLiveIn pool set s.id (searched_at field.Host s (pool (slot_index set s.id field.Host))).slot =
      subst (λ n. IsLiveIn pool set n (searched_at field.Host s (pool (slot_index set s.id field.Host))).slot) same W in
      whole_loaded s.id (searched_at field.Host s (pool (slot_index set s.id field.Host))).slot live
      (subst (Fits z) live.is (A.fits s.id live.low live.live)).frames C
