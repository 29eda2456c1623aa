-- Each word of a search of the slots leaves a fault fewer steps, fast or whole: where the slot is found, where none has the guest frame, and where the
-- search goes on.
use Rattle.std.proofs.Common.{◌≡◌, ◌≢◌, ◌+◌, ◌-◌, ◌*◌, ◌<◌, ◌≤◌, ℕ, refl, arith}
use Rattle.std.specs.Prelude.{Bool, true, false, ◌==◌, if◌then◌else◌}
use Rattle.std.proofs.lemmas.Bool.Decides.{nat_tests}
use Rattle.core_views.specs.declared.place.FaultPlace.{FaultPlace}
use Rattle.core_views.specs.declared.place.SlotField.{SlotField}
use Rattle.core_views.specs.declared.place.SlotField.TheVariants as field
use Rattle.core_views.specs.declared.sizes.Sizes.{Sizes}
use Rattle.core_views.specs.declared.topics.Topics.{Topics}
use Rattle.core_views.specs.Slots.{contains}
use Rattle.spte_words.specs.Flags.{flags_live}
use Rattle.mmu_core.specs.forms.access.FaultLeft.{fault_left, find_left}
use Rattle.mmu_core.specs.forms.access.FaultSteps.{search_next}
use Rattle.mmu_core.specs.forms.access.SearchLeft.{look_left}
use Rattle.part_steps.specs.PageTopics.{searched, searched_at}
use Rattle.core_views.specs.declared.topics.HostRow.{HostRow}

-- Where a search leads to, with so many steps left after it: it has fewer where it ends, and where it goes on those of the words still to be loaded.
pub record Leads (z : Sizes) (c : ℕ) (has none more : FaultPlace) : Type 0 where
  pub found : (u : Topics) → fault_left has z u < c + 1
  pub ends : (u : Topics) → fault_left none z u < c + 1
  pub goes_on : (u : Topics) → fault_left more z u ≡ c + find_left true u.search

search_falls : (b : Bool) (z : Sizes) (c : ℕ) (has none more : FaultPlace) (u : Topics) (n : ℕ) → Leads z c has none more → (u.search.id == 32) ≡ b → 1 ≤ n
    → (b ≡ false → 4 * (31 - u.search.id) + look_left u.search.next < n) → fault_left (if b then none else more) z u < c + n
search_falls true z c has none more u n L is from less = let ends = L.ends u in omega (arith, ends, from)
search_falls false z c has none more u n L is from less = let few = less refl in let on = L.goes_on u in omega (arith, few, on)

pub flags_fall : (live : Bool) (id : ℕ) → id ≤ 31 → ((if live then id else id + 1) == 32) ≡ false
    → 4 * (31 - (if live then id else id + 1)) + look_left (if live then field.Base else field.Flags) < 4 * (31 - id) + 4
flags_fall true id low is = omega arith
flags_fall false id low is = let lower : id + 1 ≢ 32 = grind (arith, nat_tests) in omega (arith, lower)

found_falls : (holds : Bool) (z : Sizes) (c : ℕ) (has none more : FaultPlace) (u : Topics) (id : ℕ) → Leads z c has none more → id ≤ 31
    → u.search.id ≡ id + 1 → look_left u.search.next ≡ 4
    → fault_left (if holds then has else if u.search.id == 32 then none else more) z u < c + (4 * (31 - id) + 1)
found_falls true z c has none more u id L low is next = let found = L.found u in omega (arith, found)
found_falls false z c has none more u id L low is next =
    search_falls (u.search.id == 32) z c has none more u (4 * (31 - id) + 1) L refl (omega arith)
    (λ e. let lower : u.search.id ≢ 32 = grind (arith, nat_tests) in omega (arith, lower))

find_falls : (f : SlotField) (z : Sizes) (c : ℕ) (has none more : FaultPlace) (gfn : ℕ) (t : Topics) (v : ℕ) → Leads z c has none more → t.search.id ≤ 31
    → fault_left (search_next has none more gfn f (searched_at f t.search v)) z (record t { search = searched_at f t.search v })
    < c + (4 * (31 - t.search.id) + look_left f)
find_falls field.Flags z c has none more gfn t v L low =
    search_falls ((searched_at field.Flags t.search v).id == 32) z c has none more (record t { search = searched_at field.Flags t.search v })
    (4 * (31 - t.search.id) + 4) L refl (omega arith) (λ e. flags_fall (flags_live v) t.search.id low e)
find_falls field.Base z c has none more gfn t v L low =
    search_falls (t.search.id == 32) z c has none more (record t { search = searched_at field.Base t.search v }) (4 * (31 - t.search.id) + 3) L refl
    (omega arith) (λ e. omega arith)
find_falls field.Pages z c has none more gfn t v L low =
    search_falls (t.search.id == 32) z c has none more (record t { search = searched_at field.Pages t.search v }) (4 * (31 - t.search.id) + 2) L refl
    (omega arith) (λ e. omega arith)
find_falls field.Host z c has none more gfn t v L low =
    found_falls (contains gfn (searched_at field.Host t.search v).slot) z c has none more (record t { search = searched_at field.Host t.search v })
    t.search.id L low refl refl

pub slot_falls : (b : Bool) (z : Sizes) (c : ℕ) (has none more : FaultPlace) (gfn : ℕ) (t : Topics) (row : HostRow) (v : ℕ) → Leads z c has none more
    → b ≡ true → t.search.id ≤ 31
    → fault_left (search_next has none more gfn t.search.next (searched t.search v)) z
    (record t { search = if b then searched t.search v else t.search; row = row })
    < c + (4 * (31 - t.search.id) + look_left t.search.next)
slot_falls true z c has none more gfn t row v L is low = find_falls t.search.next z c has none more gfn (record t { row = row }) v L low
slot_falls false z c has none more gfn t row v L is low = absurd (cc is)
