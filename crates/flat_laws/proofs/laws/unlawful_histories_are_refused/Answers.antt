use Rattle.std.proofs.Common.{◌≡◌, ℕ, true, refl, subst, sym, ap, ◌∙◌, arith}
use Rattle.std.proofs.lemmas.Option.{same_Some}
use Rattle.std.specs.Prelude.{Option, Some, None}
use Rattle.core_views.specs.declared.trace.Op.{Op}
use Rattle.core_views.specs.declared.trace.Op.TheVariants.{Read}
use Rattle.core_views.specs.declared.trace.Command.{Command}
use Rattle.core_views.specs.declared.trace.Command.TheVariants.{ChangeHost}
use Rattle.core_views.specs.declared.trace.HostChange.{HostChange}
use Rattle.core_views.specs.declared.trace.HostChange.TheVariants.{Move}
use Rattle.core_views.specs.Host.{own_frames}
use Rattle.core_views.specs.HostChanges.{Changes}
use Rattle.flat_laws.specs.HostExamples.{host_sizes}
use Rattle.core_views.specs.Slots.{Slots, page_behind}
use Rattle.core_views.proofs.RunStages.{only_one}
use Rattle.flat_laws.proofs.laws.unlawful_histories_are_refused.Goals as goal

-- The slot line is begun, sets its slot, and is answered; then the other line begins.

pub returns-clause-starved : goal.returns-clause-starved
returns-clause-starved c lawful = absurd (cc lawful.1.1.1.1.0.1)

pub returns-clause-unchanged : goal.returns-clause-unchanged
returns-clause-unchanged c lawful = absurd (cc lawful.1.1.1.1.0.1)

no_page : (slots noted : Slots) (gfn page : ℕ) (op : Op) → page_behind slots gfn op ≡ None → Some slots ≡ Some noted → page_behind noted gfn op ≡ Some page → ⊥
no_page slots noted gfn page op none is behind =
    let same : slots ≡ noted = same_Some slots noted is in
    let other = sym none ∙ ap (λ (xs : Slots). page_behind xs gfn op) same ∙ behind in
    absurd (cc other)

pub returns-clause-no_page : goal.returns-clause-no_page
returns-clause-no_page c lawful = let saw = lawful.1.1.1.1.1.1.1.0.1.1 in no_page _ saw.slots 4 saw.page Read refl saw.noted saw.behind

pub returns-clause-unpaused : goal.returns-clause-unpaused
returns-clause-unpaused c lawful = let saw = lawful.1.1.1.1.1.1.0.1.1 in absurd (cc saw.runs)

pub returns-clause-no_host : goal.returns-clause-no_host
returns-clause-no_host c lawful = let saw = lawful.1.1.1.1.1.1.0.1.1 in absurd (cc saw.looked)

pub returns-clause-pause : goal.returns-clause-pause
returns-clause-pause c lawful = absurd (cc lawful.1.1.1.1.1.1.0.2)

other_frame : ◌≡◌ {A = Option ℕ} (Some 65) (Some 66) → ⊥
other_frame e = let is : 65 ≡ 66 = same_Some 65 66 e in absurd (omega (arith, is))

pub returns-clause-frame : goal.returns-clause-frame
returns-clause-frame c lawful = other_frame lawful.1.1.1.1.1.1.1.0.3.named

pub returns-clause-outside : goal.returns-clause-outside
returns-clause-outside c lawful = absurd (cc lawful.1.1.1.1.1.1.0.3.named)

pub returns-clause-exit : goal.returns-clause-exit
returns-clause-exit c lawful = absurd (cc lawful.1.1.1.1.1.0.1.runs)

-- Lines run alone; then the other line begins.

pub returns-clause-present : goal.returns-clause-present
returns-clause-present c lawful = absurd (cc lawful.1.1.1.1.1.1.1.0.1.absent)

pub returns-clause-absent : goal.returns-clause-absent
returns-clause-absent c lawful = absurd (cc lawful.1.1.1.1.1.1.1.1.1.1.1.0.3.named)

pub returns-clause-denied : goal.returns-clause-denied
returns-clause-denied c lawful = absurd (cc lawful.1.1.1.1.1.1.1.1.1.1.1.1.1.1.1.0.1.allows)

asked_change : Command → HostChange
asked_change (ChangeHost page change) = change
asked_change _ = Move

-- Frame 2 is named by page 2.
no_move : (change : HostChange) → ChangeHost 1 Move ≡ ChangeHost 1 change
    → Changes host_sizes own_frames 1 change (record { frame = 2; present = true; writable = true; level = 1 }) → ⊥
unfolding asked_change
no_move change asked is =
    let taken =
    subst (λ (x : HostChange). Changes host_sizes own_frames 1 x (record { frame = 2; present = true; writable = true; level = 1 }))
    (sym (ap asked_change asked)) is in
    absurd (cc taken.2)

pub returns-clause-named : goal.returns-clause-named
returns-clause-named c lawful =
    only_one lawful.1.1.0 (λ may. no_move may.1.change may.1.asked may.1.changes)
    (λ may. let asked = may.1.asked in cc asked) (λ may. let is = may.stands in cc is)

pub returns-clause-others : goal.returns-clause-others
returns-clause-others c lawful =
    only_one lawful.1.1.0 (λ may. let works = may.1.works in cc works) (λ may. let asked = may.1.asked in cc asked) (λ may. let is = may.stands in cc is)

pub returns-clause-unseen : goal.returns-clause-unseen
returns-clause-unseen c lawful =
    only_one lawful.1.1.0 (λ may. let looked = may.1.looked in cc looked) (λ may. let asked = may.1.asked in cc asked) (λ may. let is = may.stands in cc is)
