-- How far a run of host pages reaches, and who owns it.
use Rattle.std.proofs.Common.{◌≡◌, ◌<◌, ◌≤◌, ◌==◌, ◌+◌, ◌-◌, ◌*◌, ◌/◌, ◌^◌, ◌&&◌, nat_le, nat_lt, ℕ, Bool, true, false}
use Rattle.std.proofs.Common.{refl, ap, arith, ◌∙◌, if◌then◌else◌}
use Rattle.std.proofs.lemmas.Bool.{and_from, and_parts}
use Rattle.std.proofs.lemmas.Bool.Decides.{nat_tests}
use Rattle.core_views.specs.declared.actor.Actor.{Actor}
use Rattle.core_views.specs.declared.actor.Actor.TheVariants.{Host, Manager, Vcpu, Worker}
use Rattle.core_views.specs.declared.sizes.Sizes.{Sizes}
use Rattle.core_views.specs.declared.trace.RunChange.{RunChange}
use Rattle.core_views.specs.declared.trace.RunChange.TheVariants.{Huge, Small}
use Rattle.core_views.specs.HostRuns.{owns_run, run_pages}
use Rattle.core_views.specs.Sizes.{first_page_in, is_threads}
use Rattle.flat_model.proofs.HostFrames.{same_tests}

-- how many pages the run has, by whether it is of the largest level, or of the one below
abbrev pages_by : Bool → Bool → ℕ
pages_by largest large = if largest then 262144 else if large then 512 else 1

-- The run that has a page with a number of 64 bits ends at such a page.
pub run_ends : (level page : ℕ) → page < 2 ^ 64 → page / run_pages level * run_pages level + run_pages level ≤ 2 ^ 64
run_ends level page lt = by (level == 3) (level == 2)
  where
    by : (largest large : Bool) → page / pages_by largest large * pages_by largest large + pages_by largest large ≤ 2 ^ 64
    by true large = omega (arith, lt)
    by false true = omega (arith, lt)
    by false false = omega (arith, lt)

within : (low end page : ℕ) → (nat_le low page && nat_lt page end) ≡ true → (low ≤ page) × (page < end)
within low end page is = (grind (arith, nat_tests), grind (arith, nat_tests))

is_within : (low end page : ℕ) → low ≤ page → page < end → (nat_le low page && nat_lt page end) ≡ true
is_within low end page le lt = grind (arith, nat_tests)

at_most : (a b : ℕ) → nat_le a b ≡ true → a ≤ b
at_most a b is = grind (arith, nat_tests)

is_at_most : (a b : ℕ) → a ≤ b → nat_le a b ≡ true
is_at_most a b le = grind (arith, nat_tests)

-- So many pages are within bounds, from one on that is, where the last of them is.
fit : (low end page count : ℕ) → 1 ≤ count → (nat_le low page && nat_lt page end) ≡ true
    → nat_le count (end - page)
    ≡ ((nat_le low page && nat_lt page end) && (nat_le low (page + (count - 1)) && nat_lt (page + (count - 1)) end))
fit low end page count some own = same_tests _ _ there back
  where
    first : (low ≤ page) × (page < end)
    first = within low end page own

    there : nat_le count (end - page) ≡ true
        → ((nat_le low page && nat_lt page end) && (nat_le low (page + (count - 1)) && nat_lt (page + (count - 1)) end)) ≡ true
    there is =
        let le = at_most count (end - page) is in
        and_from _ _ own (is_within low end (page + (count - 1)) (omega (arith, first.0)) (omega (arith, le, some, first.1)))

    back : ((nat_le low page && nat_lt page end) && (nat_le low (page + (count - 1)) && nat_lt (page + (count - 1)) end)) ≡ true
        → nat_le count (end - page) ≡ true
    back is =
        let last = within low end (page + (count - 1)) (and_parts (nat_le low page && nat_lt page end) _ is).1 in
        is_at_most count (end - page) (omega (arith, last.1, some))

-- The thread owns a run whose first page it owns, where the run ends before the next thread's pages.
pub owned : (z : Sizes) (host page end count level : ℕ) → end ≡ first_page_in z.first_pages z.pages (host + 1) → count ≡ run_pages level → 1 ≤ count
    → is_threads z host page ≡ true → nat_le count (end - page) ≡ owns_run z (Host host) page (Huge level)
owned z host page end count level end_is count_is some own =
    ap (λ (e : ℕ). nat_le count (e - page)) end_is
    ∙ fit (first_page_in z.first_pages z.pages host) (first_page_in z.first_pages z.pages (host + 1)) page count some own
    ∙ ap (λ (n : ℕ). is_threads z host page && is_threads z host (page + (n - 1))) count_is

-- Other actors than host threads own none.
pub nobodys : (z : Sizes) (actor : Actor) (page : ℕ) (change : RunChange) → ((host : ℕ) → actor ≡ Host host → ⊥)
    → false ≡ owns_run z actor page change
nobodys z (Host host) page change none = absurd (none host refl)
nobodys z (Vcpu n) page (Huge level) none = refl
nobodys z (Vcpu n) page Small none = refl
nobodys z Manager page (Huge level) none = refl
nobodys z Manager page Small none = refl
nobodys z (Worker n) page (Huge level) none = refl
nobodys z (Worker n) page Small none = refl
