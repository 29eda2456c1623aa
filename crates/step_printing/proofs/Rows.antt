-- The row of a turn is that of the step which its hand allows.
use Rattle.std.proofs.Common.{◌≡◌, ℕ, refl, sym, subst, ◌∙◌}
use Rattle.std.specs.Prelude.{true, slice_index}
use Rattle.core_views.specs.declared.actor.Actor.{Actor}
use Rattle.core_views.specs.declared.kind.Kind.{Kind}
use Rattle.core_views.specs.declared.sizes.Sizes.{Sizes}
use Rattle.core_views.specs.Held.{Held}
use Rattle.core_views.specs.Kinds.{after}
use Rattle.part_steps.specs.Tasks.{map_of}
use Rattle.mmu_core.specs.machine.Enabled.{Enabled, mmu}
use Rattle.mmu_core.specs.machine.Machine.{World, hand_in}
use Rattle.mmu_core.specs.machine.Steps.{has_line}
use Rattle.mmu_core.proofs.machine.Which.{is_next}
use Rattle.step_seats.specs.Moves.{step_by}
use Rattle.step_text.specs.declared.word_place.WordPlace.{WordPlace}
use Rattle.step_printing.specs.Rows.{place_in, role_shown, row_of}

-- A hand with a line allows one step.
pub one_step : (h : Held) (k l : Kind) → has_line h ≡ true → Enabled h k → Enabled h l → k ≡ l
one_step h k l left first second = (is_next h k first left).is ∙ sym (is_next h l second left).is

-- A row with what was found is that of the step.
pub row_made : (z : Sizes) (number : ℕ) (w : World Held) (index : ℕ) (k : Kind) (actor : Actor) (at : WordPlace) (role seen left : ℕ)
    → actor ≡ (hand_in mmu w index).state.actor → at ≡ place_in (map_of z) k.word → role ≡ role_shown z w k.code at → seen ≡ slice_index w.words k.word
    → left ≡ after k seen
    → record { first = number; count = 1; actor = actor; code = k.code; place = at; role = role; found = seen; left = left }
    ≡ row_of z number w (step_by index k)
row_made z number w index k actor at role seen left a p r f l = rw (a, l, r, p, f) refl

pub row_is : (z : Sizes) (number : ℕ) (w : World Held) (index : ℕ) (k l : Kind) → has_line (hand_in mmu w index) ≡ true
    → Enabled (hand_in mmu w index) k → Enabled (hand_in mmu w index) l → row_of z number w (step_by index k) ≡ row_of z number w (step_by index l)
row_is z number w index k l left first second =
    subst (λ (x : Kind). row_of z number w (step_by index k) ≡ row_of z number w (step_by index x)) (one_step (hand_in mmu w index) k l left first second)
    refl
