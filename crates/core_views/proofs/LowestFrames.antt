-- Which frames the machine's pages name, and the lowest that none does: a move takes it.
use Rattle.std.proofs.Common.{◌≡◌, ◌<◌, ◌==◌, not, ℕ, Bool, true, false, refl, ap, arith}
use Rattle.std.proofs.lemmas.Bool.{eq-eqb, eqb-true}
use Rattle.std.specs.Prelude.{Some, None}
use Rattle.core_views.specs.declared.sizes.Sizes.{Sizes}
use Rattle.core_views.specs.Host.{HostMap}
use Rattle.core_views.specs.HostChanges.{is_taken, lowest_free}
use Rattle.core_views.proofs.Ranges.{any_passes, first_found, found_passes, none_found, passing}

-- The page's frame is taken.
pub taken_by : (pages : ℕ) (host : HostMap) (page frame : ℕ) → page < pages → (host page).frame ≡ frame → is_taken pages host frame ≡ true
taken_by pages host page frame lt is = any_passes 0 pages (λ p. (host p).frame == frame) page (omega arith) (omega arith) (eq-eqb (host page).frame frame is)

-- Some page has a frame that is taken.
pub taker : (pages : ℕ) (host : HostMap) (frame : ℕ) → is_taken pages host frame ≡ true → (page : ℕ) × (page < pages) × ((host page).frame ≡ frame)
taker pages host frame is =
    let there = passing 0 pages (λ p. (host p).frame == frame) is in
    (there.0, omega (arith, there.1), eqb-true (host there.0).frame frame there.2)

pub is_not : (b : Bool) → not b ≡ true → b ≡ false
is_not true e = absurd (cc e)
is_not false e = refl

-- A frame that none of the pages has isn't taken.
pub untaken : (pages : ℕ) (host : HostMap) (frame : ℕ) → ((page : ℕ) → page < pages → (host page).frame ≡ frame → ⊥) → is_taken pages host frame ≡ false
untaken pages host frame none = by (is_taken pages host frame) (λ is. let there = taker pages host frame is in none there.0 there.1 there.2)
  where
    by : (b : Bool) → (b ≡ true → ⊥) → b ≡ false
    by true never = absurd (never refl)
    by false never = refl

-- The lowest free frame is this one, if it isn't taken and each lower one is.
pub lowest_is : (z : Sizes) (host : HostMap) (frame : ℕ) → frame < z.frames → is_taken z.pages host frame ≡ false
    → ((lower : ℕ) → lower < frame → is_taken z.pages host lower ≡ true) → lowest_free z host ≡ Some frame
lowest_is z host frame lt is lower =
    first_found 0 z.frames (λ x. not (is_taken z.pages host x)) frame (omega arith) (omega arith) (ap not is) (λ y below. ap not (lower y below))

-- No frame is free where each is taken.
pub none_left : (z : Sizes) (host : HostMap) → ((frame : ℕ) → frame < z.frames → is_taken z.pages host frame ≡ true) → lowest_free z host ≡ None
none_left z host each = none_found 0 z.frames (λ x. not (is_taken z.pages host x)) (λ y lt. ap not (each y (omega arith)))

-- The lowest free frame is one of the machine's that isn't taken.
pub free_is : (z : Sizes) (host : HostMap) (frame : ℕ) → lowest_free z host ≡ Some frame → (frame < z.frames) × (is_taken z.pages host frame ≡ false)
free_is z host frame is =
    let found = found_passes 0 z.frames (λ x. not (is_taken z.pages host x)) frame is in
    (omega (arith, found.0), is_not (is_taken z.pages host frame) found.1)
