-- What a seat tells of its steps, as a line makes more of them.
use Rattle.std.proofs.Common.{◌≡◌, ℕ, List, [], ◌∷◌, ◌++◌, Option, Some, None, IfSome, sym, ap, ◌∙◌, subst, append_assoc}
use Rattle.std.proofs.lemmas.List.{append-nil}
use Rattle.core_views.specs.declared.kind.Kind.{Kind}
use Rattle.mmu_core.specs.machine.Machine.{Step}
use Rattle.step_seats.specs.Moves.{Adds, step_by}

-- None at first.
pub adds_none : (told : Option (List (Step Kind))) → IfSome told (λ ss. told ≡ Some (ss ++ []))
adds_none None = tt
adds_none (Some ss) = ap (λ (xs : List (Step Kind)). Some xs) (sym (append-nil ss))

-- One step more.
pub adds_on : (told mid tells : Option (List (Step Kind))) (actor : ℕ) (steps : List (Step Kind)) (k : Kind)
    → IfSome told (λ ss. mid ≡ Some (ss ++ steps)) → Adds mid actor k tells
    → IfSome told (λ ss. tells ≡ Some (ss ++ (steps ++ step_by actor k ∷ [])))
adds_on None mid tells actor steps k part adds = tt
adds_on (Some ss) mid tells actor steps k part adds =
    subst (λ (m : Option (List (Step Kind))). Adds m actor k tells) part adds
    ∙ ap (λ (xs : List (Step Kind)). Some xs) (append_assoc ss steps (step_by actor k ∷ []))
