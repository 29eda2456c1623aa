-- While an access is under way no step of its own actor takes an entry of the tables away.
use Rattle.std.proofs.Common.{◌≡◌, ◌<◌, ℕ, refl, sym, subst, ap, ◌∙◌}
use Rattle.std.specs.Prelude.{Bool, true}
use Rattle.core_views.specs.declared.kind.Kind.{Kind}
use Rattle.core_views.specs.declared.kind.StepKind.{StepKind}
use Rattle.core_views.specs.declared.kind.StepKind.TheVariants as kind
use Rattle.core_views.specs.declared.place.AccessPlace.{AccessPlace}
use Rattle.core_views.specs.declared.place.AccessPlace.TheVariants.{Enter, Pause, Root, Walk, Touch, Leave, Fault}
use Rattle.core_views.specs.declared.place.CheckStage.{CheckStage}
use Rattle.core_views.specs.declared.place.CheckStage.TheVariants as stage
use Rattle.core_views.specs.declared.place.FaultPlace.{FaultPlace}
use Rattle.core_views.specs.declared.place.FaultPlace.TheVariants as fault
use Rattle.core_views.specs.declared.place.Place.{Place}
use Rattle.core_views.specs.declared.place.Place.TheVariants as place
use Rattle.core_views.specs.declared.sizes.Sizes.{Sizes}
use Rattle.core_views.specs.declared.topics.Hold.{Hold}
use Rattle.core_views.specs.declared.topics.Hold.TheVariants.{Owing}
use Rattle.core_views.specs.declared.topics.Topics.{Topics}
use Rattle.core_views.specs.declared.trace.Command.{Command}
use Rattle.core_views.specs.declared.trace.Command.TheVariants.{Access}
use Rattle.core_views.specs.declared.trace.Op.{Op}
use Rattle.core_views.specs.declared.trace.Op.TheVariants.{Read, Write, Add}
use Rattle.core_views.specs.Held.{Held}
use Rattle.core_views.specs.Kinds.{code_of, kind_named}
use Rattle.core_views.specs.Sizes.{actors_of}
use Rattle.part_steps.specs.declared.part_step.PartStep.{PartStep}
use Rattle.part_steps.specs.declared.part_step.PartStep.TheVariants as part
use Rattle.part_steps.specs.PartTasks.{part_task}
use Rattle.mmu_core.specs.forms.access.AccessSteps.{touch_of}
use Rattle.mmu_core.specs.orders.ClaimSteps.{map_word, tries_one}
use Rattle.mmu_core.specs.forms.access.FaultSteps.{check_part, fault_part, share_part}
use Rattle.mmu_core.specs.invariant.Invariant.{UnderWay}
use Rattle.mmu_core.specs.invariant.Laws.{IsSound}
use Rattle.mmu_core.specs.machine.Enabled.{mmu}
use Rattle.mmu_core.specs.machine.Machine.{May, Step, World, hand_in}
use Rattle.mmu_core.specs.machine.Steps.{has_line, line_at, place_at, task_at, task_of}
use Rattle.mmu_core.proofs.lines.EitherPlace.{either_place}
use Rattle.mmu_core.proofs.machine.Which.{has_line_is, is_next}
use Rattle.mmu_laws.specs.turns.Breaking.{Breaks, TakesAway}
use Rattle.mmu_laws.specs.turns.Removal.{StandsAt}
use Rattle.mmu_laws.proofs.turns.LeadsStay.{takes_entries}

-- ---- no step of an access takes an entry away

abbrev NeverTakes : PartStep → Type 0
NeverTakes step = (own_ note : ℕ) (t : Topics) → takes_entries (part_task step own_ t note).kind ≡ true → ⊥

check_never : (at_ : CheckStage) → NeverTakes (check_part at_)
check_never stage.Count own_ note t e = cc e
check_never stage.Start own_ note t e = cc e
check_never stage.End own_ note t e = cc e
check_never stage.Seq own_ note t e = cc e

share_never : (k : Hold) → NeverTakes (share_part k)
share_never (Owing word) own_ note t e = cc e
share_never _ own_ note t e = cc e

fault_never : (p : FaultPlace) (gfn : ℕ) (t : Topics) → NeverTakes (fault_part p gfn t)
fault_never (fault.Find begun) gfn t = either_place NeverTakes begun part.Slot part.Slots (λ own_ note u e. cc e) (λ own_ note u e. cc e)
fault_never (fault.Check at_) gfn t = check_never at_
fault_never fault.Share gfn t = share_never t.hold
fault_never (fault.Walk rooted) gfn t = either_place NeverTakes rooted (part.Walk gfn) part.Root (λ own_ note u e. cc e) (λ own_ note u e. cc e)
fault_never (fault.Claim begun) gfn t =
    either_place NeverTakes (tries_one begun t.claim) part.Claim (part.Map (map_word begun t.claim)) (λ own_ note u e. cc e) (λ own_ note u e. cc e)
fault_never (fault.FastFind begun) gfn t = either_place NeverTakes begun part.Slot part.Slots (λ own_ note u e. cc e) (λ own_ note u e. cc e)
fault_never (fault.FastWalk rooted) gfn t = either_place NeverTakes rooted (part.Walk gfn) part.Root (λ own_ note u e. cc e) (λ own_ note u e. cc e)
fault_never _ gfn t = λ own_ note u e. cc e

touch_never : (op : Op) (index : ℕ) → takes_entries (touch_of op index).kind ≡ true → ⊥
touch_never Read index e = cc e
touch_never (Write x) index e = cc e
touch_never (Add x) index e = cc e

access_never : (p : AccessPlace) (gfn word : ℕ) (op : Op) (h : Held) → takes_entries (task_at (place.Access p) (Access gfn word op) h).kind ≡ true → ⊥
access_never (Enter again) gfn word op h e = cc e
access_never (Pause again) gfn word op h e = cc e
access_never (Root again) gfn word op h e = cc e
access_never (Walk again) gfn word op h e = cc e
access_never Touch gfn word op h e = touch_never op _ e
access_never (Leave how) gfn word op h e = cc e
access_never (Fault p) gfn word op h e = fault_never p gfn h.topics _ _ h.topics e

-- ---- nor takes one away

breaks_by : (k : StepKind) (z : Sizes) (gfn : ℕ) (write : Bool) (w : World Held) (s : Step Kind) → TakesAway k z gfn write w s → takes_entries k ≡ true
breaks_by kind.Zap z gfn write w s takes_ = refl
breaks_by kind.Protect z gfn write w s takes_ = refl
breaks_by _ z gfn write w s takes_ = absurd takes_

named : (k : StepKind) → kind_named (code_of k) ≡ k
named kind.Enter = refl
named _ = refl

-- The line is an access, at some place.
module _ (is_such : AccessPlace → Bool) (gfn : ℕ) (write : Bool) where
  stands_never : (q : Place) (h : Held) → StandsAt is_such q h.state.line.command gfn write
      → takes_entries (task_at (place_at q h) (line_at q h).command h).kind ≡ true → ⊥
  stands_never (place.Access p) h S e = by h.state.line.command S e
    where
      by : (c : Command) → StandsAt is_such (place.Access p) c gfn write → takes_entries (task_at (place.Access p) c h).kind ≡ true → ⊥
      by (Access of_line word op) at f = access_never p of_line word op h f
      by _ at f = absurd at
  stands_never _ h S e = absurd S

  has_begun : (q : Place) (h : Held) → StandsAt is_such q h.state.line.command gfn write → UnderWay q h → has_line h ≡ true
  has_begun (place.Access p) h S under = has_line_is h under.1
  has_begun _ h S under = absurd S

  pub own_takes_none : (z : Sizes) (w : World Held) (s : Step Kind) (frame : ℕ) → IsSound z w → May mmu w s
      → StandsAt is_such (hand_in mmu w s.actor).state.place (hand_in mmu w s.actor).state.line.command gfn write → Breaks z frame write w s → ⊥
  own_takes_none z w s frame G may S breaks =
      let h : Held = hand_in mmu w s.actor in
      let there : s.actor < actors_of z = subst (λ n. s.actor < n) G.hands may.there in
      let has = has_begun h.state.place h S (G.holds.lines s.actor there).under in
      let code : s.kind.code ≡ code_of (task_of h).kind = ap (λ (k : Kind). k.code) (is_next h s.kind may.enabled has).is in
      let is : takes_entries (task_of h).kind ≡ true = ap takes_entries (sym (named (task_of h).kind) ∙ sym (ap kind_named code))
      ∙ breaks_by (kind_named s.kind.code) z frame write w s breaks in
      stands_never h.state.place h S is
