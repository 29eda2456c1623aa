-- A call of the table for each operation.
use Rattle.std.proofs.Common.{◌≡◌, ℕ, ◌<◌, true, length, ap, refl, ◌∙◌, subst}
use Rattle.std.specs.Prelude.{Bool, false, if◌then◌else◌}
use prog.Atomic.{either}
use Rattle.atomic_table.specs.Table.{Allows, Me, State}
use Rattle.core_views.specs.declared.kind.Kind.{Kind}
use Rattle.core_views.specs.declared.kind.Operation.{Operation}
use Rattle.core_views.specs.Held.{Held}
use Rattle.core_views.specs.Kinds.{after, answer, operation_of_code, word_after, word_answered}
use Rattle.mmu_core.specs.machine.Enabled.{Enabled, mmu}
use Rattle.mmu_core.specs.machine.Machine.{World}
use Rattle.table_seats.specs.Rule.{Acted, Holds, Kept}
use Rattle.table_seats.specs.Passes.{Known}
use Rattle.table_seats.proofs.KeepsSteps.{steps}

after-is : (k : Kind) (o : Operation) → o ≡ operation_of_code k.code → (n : ℕ) → word_after o k.old k.new n ≡ after k n
unfolding after
after-is k o e n = ap (λ (p : Operation). word_after p k.old k.new n) e

answer-is : (k : Kind) (o : Operation) → o ≡ operation_of_code k.code → (n : ℕ) → word_answered o k.new n ≡ answer k n
unfolding answer
answer-is k o e n = ap (λ (p : Operation). word_answered p k.new n) e

-- the table's own word for a compare-exchange
pub either-is : (b : Bool) (x y : ℕ) → either b x y ≡ if b then x else y
either-is true x y = refl
either-is false x y = refl

-- A call that leaves f of the number found, and answers t of it, as the operation says, may be made for the step.
pub calls : (start : World Held) (slots id : ℕ) (me : Me (Unit {0}) Known) → me.0.live ≡ true → (a : ℕ) (h : Held) → Holds me.0.held a h
    → (k j : Kind) → k ≡ j → Enabled h k → k.word < length start.words → (o : Operation) → o ≡ operation_of_code k.code
    → (f t : ℕ → ℕ) → ((n : ℕ) → f n ≡ word_after o k.old k.new n) → ((n : ℕ) → t n ≡ word_answered o k.new n)
    → Allows (λ (s : State (Unit {0}) Known). Kept mmu start s.words s.views) slots id me k.word f (λ n m. Acted mmu a h j me.0 (t n) m.0 × (m.1 ≡ me.1))
calls start slots id me live a h has k j same may inside o e f t is says =
    subst
    (λ (z : Kind). Allows (λ (s : State (Unit {0}) Known). Kept mmu start s.words s.views) slots id me k.word f
    (λ n m. Acted mmu a h z me.0 (t n) m.0 × (m.1 ≡ me.1))) same
    (steps mmu start slots id me live a h has k may inside f t (λ n. is n ∙ after-is k o e n) (λ n. says n ∙ answer-is k o e n))
