-- What is known after each step of an invalidation's search of the slots.
use Rattle.std.proofs.lemmas.Bool.Decides.{nat_tests}
use Rattle.std.proofs.Common.{◌≡◌, ◌+◌, ◌≤◌, ℕ, Bool, true, false, refl, ap, ◌∙◌, arith}
use Rattle.std.specs.Prelude.{◌==◌, ◌&&◌, ◌||◌, not, if◌then◌else◌, is_some}
use Rattle.core_views.specs.declared.place.BeginPlace.TheVariants as begins
use Rattle.core_views.specs.declared.place.SlotField.{SlotField}
use Rattle.core_views.specs.declared.place.SlotField.TheVariants as field
use Rattle.core_views.specs.declared.sizes.Sizes.{Sizes}
use Rattle.core_views.specs.declared.topics.Hold.{Hold}
use Rattle.core_views.specs.declared.topics.HostRow.{HostRow}
use Rattle.core_views.specs.declared.topics.SlotSearch.{SlotSearch}
use Rattle.core_views.specs.declared.topics.Stay.{Stay}
use Rattle.core_views.specs.declared.topics.TableWalk.{TableWalk}
use Rattle.core_views.specs.declared.topics.Topics.{Topics}
use Rattle.core_views.specs.Slots.{has_host_page}
use Rattle.spte_words.specs.Flags.{flags_live}
use Rattle.part_steps.specs.ControlTopics.{at_set}
use Rattle.part_steps.specs.PageTopics.{searched, searched_at}
use Rattle.part_steps.specs.PartHoldings.{HoldsSet}
use Rattle.part_steps.specs.StayTopics.{has_lock, is_alone, is_outside, is_section, may_search, may_walk}
use Rattle.mmu_core.specs.orders.InvalidateKnows.{BeginKnows, HasLockAlone, Searches}
use Rattle.mmu_core.specs.orders.InvalidateSteps.{has_found, search_next}
use Rattle.mmu_core.proofs.lines.EitherPlace.{either_place, one_place}
use Rattle.part_steps.specs.declared.invalidations.Target.{Target}
use Rattle.part_steps.specs.declared.invalidations.Target.TheVariants as aim
use Rattle.part_steps.specs.InvalidationRange.{has_searched}
use Rattle.mmu_core.proofs.lines.AloneKnown.{same_sweep}
use Rattle.mmu_core.proofs.orders.SweepWalks.{not_second}

pub may_search_alone : (t : Topics) → HasLockAlone t → may_search t.stay t.hold ≡ true
may_search_alone t A = ap (λ (s : Stay). is_section s || is_alone t.hold) A.outside ∙ ap (λ (k : Hold). is_alone k) A.alone

pub may_walk_alone : (t : Topics) → HasLockAlone t → may_walk t.stay t.hold ≡ true
may_walk_alone t A = ap (λ (s : Stay). not (is_outside s) || has_lock t.hold) A.outside ∙ ap (λ (k : Hold). has_lock k) A.alone

-- the search
pub slots_loaded : (b : Bool) (search : SlotSearch) (v : ℕ) → b ≡ true → (is_some (at_set b search v).set ≡ true) × ((at_set b search v).id ≤ 31)
slots_loaded true search v is = (refl, omega arith)
slots_loaded false search v is = absurd (cc is)

search_low : (f : SlotField) (s : SlotSearch) (v : ℕ) → s.id ≤ 31 → (searched_at f s v).id ≤ 32
search_low field.Flags s v low = either_place (λ x. x ≤ 32) (flags_live v) s.id (s.id + 1) (omega (arith, low)) (omega (arith, low))
search_low field.Base s v low = omega (arith, low)
search_low field.Pages s v low = omega (arith, low)
search_low field.Host s v low = omega (arith, low)

search_held : (f : SlotField) (s : SlotSearch) (v : ℕ) → (searched_at f s v).set ≡ s.set
search_held field.Flags s v = refl
search_held field.Base s v = refl
search_held field.Pages s v = refl
search_held field.Host s v = refl

pub not_either : (a b : Bool) → (a || b) ≡ false → b ≡ false
not_either true b is = absurd (cc is)
not_either false b is = is

pub not_one : (a b : Bool) → (a || b) ≡ false → a ≡ false
not_one true b is = absurd (cc is)
not_one false b is = refl

neither : (a b : Bool) → a ≡ false → b ≡ false → (a || b) ≡ false
neither true b one other = absurd (cc one)
neither false b one other = other

-- The search that isn't over has slots left.
not_over : (target : Target) (s : SlotSearch) → has_searched target s ≡ false → (s.id == 32) ≡ false
not_over (aim.Page page) s is = not_either (has_found page s) (s.id == 32) is
not_over (aim.Run run) s is = is
not_over (aim.Slot slot) s is = not_either ((slot.pages == 1) && has_found slot.host s) (s.id == 32) is

-- Before a slot is loaded whole nothing is found.
not_found : (page : ℕ) (s : SlotSearch) → s.whole ≡ false → has_found page s ≡ false
not_found page s none = ap (λ (b : Bool). b && has_host_page page s.slot) none

pub none_searched : (target : Target) (s : SlotSearch) → s.whole ≡ false → (s.id == 32) ≡ false → has_searched target s ≡ false
none_searched (aim.Page page) s none left = neither (has_found page s) (s.id == 32) (not_found page s none) left
none_searched (aim.Run run) s none left = left
none_searched (aim.Slot slot) s none left =
    neither ((slot.pages == 1) && has_found slot.host s) (s.id == 32) (not_second (slot.pages == 1) (not_found slot.host s none)) left

-- What it knows that searches is of no other topics than these.
pub same_searches : (t u : Topics) → u.stay ≡ t.stay → u.hold ≡ t.hold → u.invalidations.opened ≡ t.invalidations.opened
    → u.flush ≡ t.flush → u.walk ≡ t.walk → Searches t → Searches u
same_searches t u stay hold open_ flush walk S = record {
  sweeping = same_sweep false t u stay hold open_ flush S.sweeping;
  no_table = ap (λ (w : TableWalk). w.level) walk ∙ S.no_table;
}

-- It goes on whatever it has collected of guest frames.
pub search_known : (b : Bool) (z : Sizes) (target : Target) (t : Topics) (v : ℕ) (row : HostRow) → b ≡ true → Searches t → HoldsSet t → t.search.id ≤ 31
    → BeginKnows (search_next target (searched t.search v)) z target (record t { search = if b then searched t.search v else t.search; row = row })
search_known false z target t v row is S set low = absurd (cc is)
search_known true z target t v row is S set low =
    one_place (λ q. BeginKnows q z target (record t { search = searched t.search v; row = row })) (has_searched target (searched t.search v)) begins.Count
    (begins.Find true)
    (λ e. record { searches = same_searches t _ refl refl refl refl refl S; set = held; searched = e })
    (λ e. (
      same_searches t _ refl refl refl refl refl S,
      λ begun. (
        held,
        let other = not_over target (searched t.search v) e in let most = search_low t.search.next t.search v low in grind (arith, nat_tests),
        e,
      ),
    ))
  where
    held : is_some (searched t.search v).set ≡ true
    held = ap is_some (search_held t.search.next t.search v) ∙ set
