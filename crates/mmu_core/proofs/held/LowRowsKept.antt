-- Each step of a part keeps that the guest frames that a search has collected lie below 2 ^ 36.
use Rattle.std.proofs.Common.{◌≡◌, ◌⊎◌, inl, inr, ◌+◌, ◌-◌, ◌^◌, ◌<◌, ◌≤◌, ℕ, refl, sym, subst, ◌∙◌, arith}
use Rattle.std.specs.Prelude.{Bool, true, false, ◌&&◌, if◌then◌else◌, nat_lt, Option, Some, None, is_some}
use Rattle.std.proofs.lemmas.Bool.Decides.{nat_tests}
use Rattle.core_views.specs.declared.sizes.Sizes.{Sizes}
use Rattle.core_views.specs.declared.topics.HostLook.{HostLook}
use Rattle.core_views.specs.declared.topics.HostRow.{HostRow}
use Rattle.core_views.specs.declared.topics.PageRun.{PageRun}
use Rattle.core_views.specs.declared.topics.SlotSearch.{SlotSearch}
use Rattle.core_views.specs.declared.topics.Topics.{Topics}
use Rattle.core_views.specs.declared.trace.Slot.{Slot as SlotOf}
use Rattle.core_views.specs.Held.{Held}
use Rattle.core_views.specs.Sizes.{actors_of}
use Rattle.spte_words.specs.declared.area.Area.TheVariants as area
use Rattle.part_steps.specs.declared.part_step.PartStep.{PartStep}
use Rattle.part_steps.specs.declared.part_step.PartStep.TheVariants as part
use Rattle.part_steps.specs.InvalidationRange.{run_searched}
use Rattle.part_steps.specs.PageRuns.{capped, covering, greater, has_part, looked_on, part_end, part_start, run_end, run_start, widened}
use Rattle.part_steps.specs.PageTopics.{searched}
use Rattle.part_steps.specs.PartBounds.{IsLowRow}
use Rattle.part_steps.specs.PartTasks.{set_held}
use Rattle.part_steps.specs.SlotWords.{slot_index}
use Rattle.mmu_core.specs.invariant.SearchPart.{SearchPart}
use Rattle.mmu_core.specs.invariant.SlotSetPart.{AreSlots, Fits}
use Rattle.mmu_core.specs.invariant.TopicsInvariant.{TopicsInvariant}
use Rattle.mmu_core.specs.machine.View.{View, part_stepped}
use Rattle.mmu_core.proofs.forms.access.FaultSame.{both}
use Rattle.mmu_core.proofs.held.HeldTopics.{searched_set}
use Rattle.mmu_core.proofs.held.Invalidating.{topics_now}
use Rattle.mmu_core.proofs.held.OldSets.{held_are_slots}
use Rattle.mmu_core.proofs.held.SearchKept.{searched_part}
use Rattle.mmu_core.proofs.held.SlotParts.{capped_low, is_greater, is_lesser}
use Rattle.mmu_core.proofs.machine.Columns.{at_upd}
use Rattle.mmu_core.proofs.machine.PartStepping.{IsPart}
use Rattle.mmu_core.proofs.words.PartTopics.{behind_step}

either_low : (b : Bool) (x y most : ℕ) → x ≤ most → y ≤ most → (if b then x else y) ≤ most
either_low true x y most one other = one
either_low false x y most one other = other

-- A slot below 2 ^ 36 has its part of a run there.
part_low : (run : PageRun) (slot : SlotOf) → slot.base + slot.pages ≤ 2 ^ 36 → has_part run slot ≡ true
    → (capped (part_start run slot) ≤ 2 ^ 36) × (capped (part_end run slot) ≤ 2 ^ 36)
part_low run slot small has =
    let e : nat_lt (run_start run - slot.host) slot.pages ≡ true =
    (both (nat_lt slot.host (run_end run)) (nat_lt (run_start run - slot.host) slot.pages) has).1 in
    let within : run_start run - slot.host < slot.pages = nat_within (run_start run - slot.host) slot.pages e in
    let le = (is_lesser (run_end run - slot.host) slot.pages).second in
    let one = capped_low (part_start run slot) (omega (arith, within, small)) in
    let two = capped_low (part_end run slot) (omega (arith, le, small)) in
    (omega (arith, one, within, small), omega (arith, two, le, small))
  where
    nat_within : (a b : ℕ) → nat_lt a b ≡ true → a < b
    nat_within a b e = grind (arith, nat_tests)

widened_low : (run : PageRun) (slot : SlotOf) (row : HostRow) (b : Bool) → slot.base + slot.pages ≤ 2 ^ 36 → (b ≡ true → has_part run slot ≡ true)
    → IsLowRow row → IsLowRow (widened b (capped (part_start run slot)) (capped (part_end run slot)) row)
widened_low run slot row false small has R = record { start = R.start; end_ = R.end_ }
widened_low run slot row true small has R =
    let P = part_low run slot small (has refl) in record {
      start =
          either_low (nat_lt row.start row.end) _ _ _
          (let le = (is_lesser row.start (capped (part_start run slot))).first in let low = R.start in omega (arith, le, low)) P.0;
      end_ = by (is_greater row.end (capped (part_end run slot))).is P.1;
    }
  where
    by : (greater row.end (capped (part_end run slot)) ≡ row.end) ⊎ (greater row.end (capped (part_end run slot)) ≡ capped (part_end run slot))
        → capped (part_end run slot) ≤ 2 ^ 36 → greater row.end (capped (part_end run slot)) ≤ 2 ^ 36
    by (inl is) low = let was = R.end_ in omega (arith, is, was)
    by (inr is) low = omega (arith, is, low)

covering_low : (run : Option PageRun) (s : SlotSearch) (row : HostRow) → (s.whole ≡ true → s.slot.base + s.slot.pages ≤ 2 ^ 36) → IsLowRow row
    → IsLowRow (covering run s row)
covering_low None s row small R = R
covering_low (Some run) s row small R = by s.whole refl
  where
    by : (b : Bool) → s.whole ≡ b → IsLowRow (covering (Some run) s row)
    by true e =
        widened_low run s.slot row (s.whole && (nat_lt 1 run.level && has_part run s.slot)) (small e)
        (λ is. (both (nat_lt 1 run.level) (has_part run s.slot) (both s.whole _ is).1).1) R
    by false e =
        subst (λ (b : Bool). IsLowRow (widened (b && (nat_lt 1 run.level && has_part run s.slot))
        (capped (part_start run s.slot)) (capped (part_end run s.slot)) row))
        (sym e) (record { start = R.start; end_ = R.end_ })

-- ---- after each step

slot_low : (z : Sizes) (pool : ℕ → ℕ) (t : Topics) → t.search.id ≤ 31 → SearchPart pool t.search → ((set : ℕ) → t.search.set ≡ Some set → AreSlots z pool set)
    → IsLowRow t.row
    → IsLowRow (if is_some t.search.set
    then covering (run_searched t) (searched t.search (pool (slot_index (set_held t.search.set) t.search.id t.search.next))) t.row
    else t.row)
slot_low z pool t low P A R = by t.search.set refl
  where
    by : (held : Option ℕ) → t.search.set ≡ held
        → IsLowRow (if is_some held
        then covering (run_searched t) (searched t.search (pool (slot_index (set_held held) t.search.id t.search.next))) t.row
        else t.row)
    by None e = R
    by (Some set) e =
        covering_low (run_searched t) (searched t.search (pool (slot_index set t.search.id t.search.next))) t.row (λ whole.
        let S = searched_part t.search.next pool set t.search refl e low P in
        let own = searched_set t.search.next t.search (pool (slot_index set t.search.id t.search.next)) ∙ e in
        let L = (S.whole set own whole).1 in
        (subst (Fits z) L.is ((A set e).fits _ L.low L.live)).frames) R

looked_low : (t : Topics) (page v : ℕ) → IsLowRow t.row → IsLowRow (looked_on t.host t.row page v)
looked_low t page v R = by t.host
  where
    by : (host : Option HostLook) → IsLowRow (looked_on host t.row page v)
    by None = R
    by (Some look) = record { start = R.start; end_ = R.end_ }

own_low_row : (z : Sizes) (v : View) (a note : ℕ) (step : PartStep) → IsPart z v a step → TopicsInvariant z v → IsLowRow (topics_now v a note step).row
own_low_row z v a note part.Slots S I = record { start = omega arith; end_ = omega arith }
own_low_row z v a note part.Slot S I =
    slot_low z (v.words area.Pool) (v.hand a).topics S.needs.1 (I.searches a S.there) (λ set held. held_are_slots z v a set S.there I S.slots held)
    (I.low_rows a S.there)
own_low_row z v a note (part.Host page) S I = record { start = omega arith; end_ = omega arith }
own_low_row z v a note (part.HostOn page) S I = looked_low (v.hand a).topics page _ (I.low_rows a S.there)
own_low_row z v a note part.Bring S I = record { start = omega arith; end_ = omega arith }
own_low_row z v a note (part.Change new_) S I = record { start = omega arith; end_ = omega arith }
own_low_row z v a note step S I = I.low_rows a S.there

abbrev LowIn : Sizes → View → Type 0
LowIn z v = (i : ℕ) → i < actors_of z → IsLowRow (v.hand i).topics.row

pub low_rows_kept : (z : Sizes) (v : View) (a : ℕ) (step : PartStep) (note : ℕ) → IsPart z v a step → TopicsInvariant z v → LowIn z (part_stepped a step note v)
low_rows_kept z v a step note S I =
    behind_step (LowIn z) z v a step note S
    (at_upd (λ j (k : Held). j < actors_of z → IsLowRow k.topics.row) v.hand a _ (λ there. own_low_row z v a note step S I) (λ j ne. I.low_rows j))
