-- The frames for which a line asks of a log: which they are, and that they rise.
use Rattle.std.proofs.Common.{◌≡◌, ◌+◌, ◌-◌, ◌<◌, ◌≤◌, ◌==◌, ◌&&◌, inl, inr, ℕ, zero, suc, Bool, true, false, refl, ap, arith, sym}
use Rattle.std.proofs.Common.{◌∙◌}
use Rattle.std.proofs.lemmas.Bool.{eq-eqb, eqb-true}
use Rattle.std.proofs.lemmas.Bool.Decides.{nat_tests}
use Rattle.std.proofs.lemmas.List.FromFn.{get_or-range_with_len, length-range_with_len}
use Rattle.std.proofs.lemmas.List.Kept.{IsStrictlyIncreasing-filter}
use Rattle.std.proofs.lemmas.Map.Views.{any-filter_same}
use Rattle.std.specs.List.{range_with_len}
use Rattle.std.specs.List.Sorted.{IsStrictlyIncreasing}
use Rattle.core_views.specs.declared.memory_slot.MemorySlot.{MemorySlot}
use Rattle.core_views.specs.declared.trace.Command.{Command}
use Rattle.core_views.specs.LogCommands.{asked_frames, asks_for, is_among}
use Rattle.core_views.specs.Past.{FrameSet}
use Rattle.core_views.specs.Slots.{contains}
use Rattle.core_views.proofs.Ranges.{any_passes, by_test}
use Rattle.std.specs.Prelude.{Some}

-- A number of a range is from its first on.
pub in_range : (a n gfn : ℕ) → is_among gfn (range_with_len a n) ≡ true → (a ≤ gfn) × (gfn < a + n)
in_range a zero gfn is = absurd (cc is)
in_range a (suc n) gfn is = elim (by_test (a == gfn) (is_among gfn (range_with_len (a + 1) n)) is) [
  | inl here ↦ let same = eqb-true a gfn here in (omega (arith, same), omega (arith, same))
  | inr later ↦ let there = in_range (a + 1) n gfn later in (omega (arith, there.0), omega (arith, there.1))
]

-- such a frame is one of the slot for which the line asks, and is in the set
pub record IsAsked (frames : FrameSet) (command : Command) (slot : MemorySlot) (gfn : ℕ) : Type 0 where
  pub inside : contains gfn slot.slot ≡ true
  pub asked : asks_for command (gfn - slot.slot.base) ≡ true
  pub held : frames gfn ≡ true

both : (b c : Bool) → (b && c) ≡ true → (b ≡ true) × (c ≡ true)
both true c is = (refl, is)
both false c is = absurd (cc is)

among_is : (frames : FrameSet) (command : Command) (slot : MemorySlot) (gfn : ℕ) → is_among gfn (asked_frames frames command (Some slot))
    ≡ ((asks_for command (gfn - slot.slot.base) && frames gfn) && is_among gfn (range_with_len slot.slot.base slot.slot.pages))
among_is frames command slot gfn =
    any-filter_same (λ frame. frame == gfn) (λ frame. asks_for command (frame - slot.slot.base) && frames frame) _
    (λ frame same. ap (λ (n : ℕ). asks_for command (n - slot.slot.base) && frames n) (eqb-true frame gfn same))
    (range_with_len slot.slot.base slot.slot.pages)

pub asked_is : (frames : FrameSet) (command : Command) (slot : MemorySlot) (gfn : ℕ) → is_among gfn (asked_frames frames command (Some slot)) ≡ true
    → IsAsked frames command slot gfn
asked_is frames command slot gfn is =
    let parts = both _ _ (sym (among_is frames command slot gfn) ∙ is) in
    let first = both _ _ parts.0 in
    let within = in_range slot.slot.base slot.slot.pages gfn parts.1 in
    record { inside = grind (arith, nat_tests, within.0, within.1); asked = first.0; held = first.1 }

pub asked_has : (frames : FrameSet) (command : Command) (slot : MemorySlot) (gfn : ℕ) → IsAsked frames command slot gfn
    → is_among gfn (asked_frames frames command (Some slot)) ≡ true
asked_has frames command slot gfn is =
    among_is frames command slot gfn
    ∙ rw (is.asked, is.held)
    (any_passes slot.slot.base slot.slot.pages (λ frame. frame == gfn) gfn (grind (arith, nat_tests, is.inside)) (grind (arith, nat_tests, is.inside))
    (eq-eqb gfn gfn refl))

pub range_rises : (a n : ℕ) → IsStrictlyIncreasing (range_with_len a n)
range_rises a n k lt =
    let long = length-range_with_len a n in
    let here = get_or-range_with_len a n k 0 (omega (arith, long, lt)) in
    let there = get_or-range_with_len a n (k + 1) 0 (omega (arith, long, lt)) in
    omega (arith, here, there)

pub asked_rise : (frames : FrameSet) (command : Command) (slot : MemorySlot) → IsStrictlyIncreasing (asked_frames frames command (Some slot))
asked_rise frames command slot = IsStrictlyIncreasing-filter _ (range_with_len slot.slot.base slot.slot.pages) (range_rises slot.slot.base slot.slot.pages)
