-- What is left of a line that sets a run of host pages, and runs alone, begins with its next event.
use Rattle.std.proofs.Common.{◌≡◌, ◌∷◌, ◌+◌, ℕ, suc, true, refl, sym, ap, ap₂, ◌∙◌, subst}
use Rattle.std.specs.Prelude.{Option, Some}
use Rattle.core_views.specs.declared.answer.Answer.TheVariants.{Refused}
use Rattle.core_views.specs.declared.answer.Refusal.{Refusal}
use Rattle.core_views.specs.declared.answer.Refusal.TheVariants.{IsHuge, NotAligned}
use Rattle.core_views.specs.declared.event.EventKind.{EventKind}
use Rattle.core_views.specs.declared.event.EventKind.TheVariants.{Exited, HostChanged}
use Rattle.core_views.specs.declared.host.HostEntry.{HostEntry}
use Rattle.core_views.specs.declared.sizes.Sizes.{Sizes}
use Rattle.core_views.specs.declared.trace.Command.{Command}
use Rattle.core_views.specs.declared.trace.Command.TheVariants.{ChangeRun}
use Rattle.core_views.specs.declared.trace.Line.{Line}
use Rattle.core_views.specs.declared.trace.RunChange.{RunChange}
use Rattle.core_views.specs.declared.trace.RunChange.TheVariants.{Huge, Small}
use Rattle.core_views.specs.Events.{facts_after, stage_changed}
use Rattle.core_views.specs.Flat.{Facts, Fresh, HasToSet, LineUnderWay, Notes, Stage}
use Rattle.core_views.specs.FlatHistory.{answers, by, doing, doing_by, rest_of, setting_kind, setting_run, unless_refused}
use Rattle.core_views.specs.HostRuns.{level_set, run_count, run_first, run_pages, run_refusal}
use Rattle.core_views.specs.Lawful.{HasWork, MaySetNext, MaySetRun, SawHugeOne, SawUnaligned}
use Rattle.core_views.specs.Stages.{set_one}
use Rattle.flat_laws.proofs.Exact.{AreExact, IsNext, size_noted}
use Rattle.core_views.proofs.RunStages.{some_set}
use Rattle.flat_laws.proofs.RunsAgree.{first_alike, fits_now, one_is_huge, refused_alike, refused_huge}

-- A run has a first page to set.
first_set : (z : Sizes) (line : Line) (page count level : ℕ) (f : Facts) → (n : ℕ) × (count ≡ suc n) → setting_run line page count level f
    ≡ by line (setting_kind page level f) ∷ rest_of z line (set_one page count level) (facts_after (setting_kind page level f) f)
first_set z line page count level f some = rw some.1 refl

pub setting_is_next : (z : Sizes) (f : Facts) (u : LineUnderWay) (page : ℕ) (entry : HostEntry) → u.stage ≡ Fresh
    → MaySetRun z f u.line.actor u.line.command u.notes page entry → IsNext z f u (HostChanged page entry)
setting_is_next z f u page entry fresh may =
    let at : ℕ = may.at in
    let change : RunChange = may.change in
    let level : ℕ = level_set change in
    let first : ℕ = run_first change at (f.host at) in
    let count : ℕ = run_count change (f.host at) in
    let first_is : first ≡ page = sym (may.first ∙ first_alike change at (may.seen at) (f.host at) may.agrees.2) in
    let kind_is : setting_kind first level f ≡ HostChanged page entry =
    ap (λ (p : ℕ). setting_kind p level f) first_is ∙ ap (HostChanged page) (sym may.entry_is) in
    let stage_is : set_one first count level ≡ stage_changed u.line.command f.host u.stage page entry =
    ap (λ (p : ℕ). set_one p count level) first_is
    ∙ sym (ap (λ (s : Stage). stage_changed u.line.command f.host s page entry) fresh
    ∙ ap (λ (c : Command). stage_changed c f.host Fresh page entry) may.asked) in
    ap (λ (s : Stage). rest_of z u.line s f) fresh
    ∙ (ap (λ (c : Command). doing z u.line c f) may.asked
    ∙ (ap (doing_by z u.line (ChangeRun at change) f) (works u.line.command may.asked may.works)
    ∙ (ap (λ (o : Option Refusal). unless_refused u.line o (setting_run u.line first count level f)) (fits_now may.seen f.host at change may.agree may.fits)
    ∙ (first_set z u.line first count level f (some_set change (f.host at))
    ∙ ap₂ (λ (k : EventKind) (s : Stage). by u.line k ∷ rest_of z u.line s (facts_after k f)) kind_is stage_is))))
  where
    works : (c : Command) → c ≡ ChangeRun may.at may.change → HasWork z f u.line.actor c → HasWork z f u.line.actor (ChangeRun may.at may.change)
    works c asked does = subst (HasWork z f u.line.actor) asked does

pub setting_on_is_next : (z : Sizes) (f : Facts) (u : LineUnderWay) (page : ℕ) (entry : HostEntry) → MaySetNext f u.line.command u.stage page entry
    → IsNext z f u (HostChanged page entry)
setting_on_is_next z f u page entry may =
    let kind_is : setting_kind page (level_set may.change) f ≡ HostChanged page entry = ap (HostChanged page) (sym may.entry_is) in
    let stage_is : HasToSet (page + 1) may.left (level_set may.change) ≡ stage_changed u.line.command f.host u.stage page entry =
    sym (ap (λ (s : Stage). stage_changed u.line.command f.host s page entry) may.stands) in
    ap (λ (s : Stage). rest_of z u.line s f) may.stands
    ∙ ap₂ (λ (k : EventKind) (s : Stage). by u.line k ∷ rest_of z u.line s (facts_after k f)) kind_is stage_is

-- It is refused as it was noted.
refused_so : (z : Sizes) (line : Line) (page : ℕ) (change : RunChange) (f : Facts) (refusal : Refusal) → HasWork z f line.actor (ChangeRun page change)
    → run_refusal f.host page change ≡ Some refusal
    → doing z line (ChangeRun page change) f ≡ by line (Exited (Refused refusal)) ∷ answers line (Refused refusal)
refused_so z line page change f refusal works is =
    ap (doing_by z line (ChangeRun page change) f) works
    ∙ ap (λ (o : Option Refusal). unless_refused line o
    (setting_run line (run_first change page (f.host page)) (run_count change (f.host page)) (level_set change) f)) is

pub left_huge : (z : Sizes) (line : Line) (page : ℕ) (change : RunChange) (f : Facts) (command : Command) (notes : Notes) → AreExact f command notes
    → HasWork z f line.actor (ChangeRun page change) → SawHugeOne notes page change
    → doing z line (ChangeRun page change) f ≡ by line (Exited (Refused IsHuge)) ∷ answers line (Refused IsHuge)
left_huge z line page (Huge level) f command notes exact works saw =
    refused_so z line page (Huge level) f IsHuge works
    (refused_huge f.host page level
    (one_is_huge f.host page (run_pages level) saw.0 saw.1 (size_noted f command notes saw.0 saw.2.entry true exact saw.2.looked saw.2.huge)))
left_huge z line page Small f command notes exact works saw = absurd saw

pub left_unaligned : (z : Sizes) (line : Line) (page : ℕ) (change : RunChange) (f : Facts) (notes : Notes) → AreExact f (ChangeRun page change) notes
    → HasWork z f line.actor (ChangeRun page change) → SawUnaligned notes page change
    → doing z line (ChangeRun page change) f ≡ by line (Exited (Refused NotAligned)) ∷ answers line (Refused NotAligned)
left_unaligned z line page change f notes exact works saw =
    refused_so z line page change f NotAligned works
    (sym (refused_alike saw.seen f.host page change (λ other among. exact.whole other (saw.seen other) (saw.saw.looked other among) refl)) ∙ saw.refused)
