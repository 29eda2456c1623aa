-- A line that is under way keeps the room that was taken for it.
use Rattle.std.proofs.Common.{◌≡◌, ◌≢◌, ◌<◌, ◌+◌, ◌∙◌, ℕ, List, length, Result, Ok, Err, ap, refl, sym, subst, arith}
use Rattle.std.specs.Prelude.{Bool, true, false, ◌==◌, OnErr, OnOk, slice_set}
use Rattle.std.proofs.lemmas.Bool.Decides.{nat_tests}
use Rattle.std.proofs.lemmas.List.{get_or-set_other, get_or-set_same, length-set}
use Rattle.core_views.specs.declared.answer.AnsweredLine.{AnsweredLine}
use Rattle.core_views.specs.declared.kind.Kind.{Kind}
use Rattle.core_views.specs.declared.place.Place.{Place}
use Rattle.core_views.specs.declared.place.Place.TheVariants as place
use Rattle.core_views.specs.declared.trace.Line.{Line}
use Rattle.core_views.specs.Held.{Held, Handful}
use Rattle.mmu_core.specs.declared.outcome.Outcome.{Outcome}
use Rattle.mmu_core.specs.declared.outcome.Outcome.TheVariants.{Goes, Ends}
use Rattle.mmu_core.specs.lines.Rests.{IsUnderWay}
use Rattle.mmu_core.specs.machine.Steps.{has_line, next}
use Rattle.mmu_core.specs.machine.Turns.{Comes, line_of, outcome_of}
use Rattle.mmu_core.proofs.machine.HandAfter.{next_comes}
use Rattle.mmu_core.proofs.machine.Which.{next_of_part}
use Rattle.step_seats.specs.Moves.{EachHasRoom, HasItsRoom, handful_in, no_hand}

pub is_under_way : (p : Place) → (p ≡ place.Between → ⊥) → IsUnderWay p
is_under_way place.Between other = absurd (other refl)
is_under_way _ other = tt

-- A step that leaves a line under way gives no answer.
under_way : (o : Outcome) (line : Line) (h g : Held) → Comes o line h g → IsUnderWay g.state.place → g.answers ≡ h.answers
under_way (Goes p) line h g goes under = goes.answers
under_way (Ends answer) line h g ends under = absurd (subst IsUnderWay ends.between under)

no_answer : (h : Held) (k : Kind) (v : ℕ) → IsUnderWay (next h k v).state.place → (next h k v).answers ≡ h.answers
no_answer h k v under = by (has_line h) refl
  where
    by : (b : Bool) → has_line h ≡ b → (next h k v).answers ≡ h.answers
    by true has =
        let left : length h.answers < length h.lines = grind (arith, nat_tests) in
        under_way (outcome_of h v) (line_of h) h (next h k v) (next_comes h k v left) under
    by false none = ap (λ (x : Held). x.answers) (next_of_part h k v none)

-- So it keeps the line's room.
pub next_has_room : (h g : Held) (k : Kind) (v before after : ℕ) → g ≡ next h k v → length g.answers + after ≡ length h.answers + before → 0 < before
    → HasItsRoom g after
next_has_room h g k v before after is keeps some = λ under.
    let same : g.answers ≡ h.answers =
    ap (λ (x : Held). x.answers) is ∙ no_answer h k v (subst (λ (x : Held). IsUnderWay x.state.place) is under) in
    let count = ap (λ (xs : List AnsweredLine). length xs) same in
    omega (arith, keeps, count, some)

-- Room that is asked for is there then, and where it is refused, what was there before.
pub reserve_has_room : {E : Type 0} (r : Result (Unit {0}) E) (before after : Handful) → after.core ≡ before.core → OnOk r (0 < after.room)
    → OnErr r (after ≡ before)
    → HasItsRoom before.core before.room → HasItsRoom after.core after.room
reserve_has_room (Ok u) before after core some refused has = λ under. some
reserve_has_room (Err e) before after core some refused has = subst (λ (x : Handful). HasItsRoom x.core x.room) (sym refused) has

-- Each hand has its room still where one is changed that has its own.
pub set_has_room : (hands : List Handful) (i : ℕ) (h : Handful) → i < length hands → EachHasRoom hands → HasItsRoom h.core h.room
    → EachHasRoom (slice_set hands i h)
set_has_room hands i h there each own =
    λ j within. by j (j == i) (λ e. grind (arith, nat_tests)) (λ e. grind (arith, nat_tests)) (subst (λ n. j < n) (length-set hands i h) within)
  where
    by : (j : ℕ) (b : Bool) → (b ≡ true → i ≡ j) → (b ≡ false → j ≢ i) → j < length hands
        → HasItsRoom (handful_in (slice_set hands i h) j).core (handful_in (slice_set hands i h) j).room
    by j true same other within =
        subst (λ k. HasItsRoom (handful_in (slice_set hands i h) k).core (handful_in (slice_set hands i h) k).room) (same refl)
        (subst (λ (x : Handful). HasItsRoom x.core x.room) (sym (get_or-set_same hands i h no_hand there)) own)
    by j false same other within =
        subst (λ (x : Handful). HasItsRoom x.core x.room) (sym (get_or-set_other hands i j h no_hand (other refl))) (each j within)
