-- Which steps of a line publish a slot set, put or fix a leaf, mark a page, or take bits of the log: at most of its places it makes no such step.
use Rattle.std.proofs.Common.{◌≡◌, ℕ, refl, sym, ap, ◌∙◌}
use Rattle.std.specs.Prelude.{Bool, true, false, Option, Some, None}
use Rattle.core_views.specs.declared.place.AccessPlace.{AccessPlace}
use Rattle.core_views.specs.declared.place.AccessPlace.TheVariants as access
use Rattle.core_views.specs.declared.place.BeginPlace.{BeginPlace}
use Rattle.core_views.specs.declared.place.BeginPlace.TheVariants as begins
use Rattle.core_views.specs.declared.place.CheckStage.TheVariants as stage
use Rattle.core_views.specs.declared.place.EndPlace.{EndPlace}
use Rattle.core_views.specs.declared.place.EndPlace.TheVariants as ends
use Rattle.core_views.specs.declared.place.FaultPlace.{FaultPlace}
use Rattle.core_views.specs.declared.place.FaultPlace.TheVariants as fault
use Rattle.core_views.specs.declared.place.FrameRange.{FrameRange}
use Rattle.core_views.specs.declared.place.HostPlace.{HostPlace}
use Rattle.core_views.specs.declared.place.HostPlace.TheVariants as host
use Rattle.core_views.specs.declared.place.LogPlace.{LogPlace}
use Rattle.core_views.specs.declared.place.LogPlace.TheVariants as log
use Rattle.core_views.specs.declared.place.Place.{Place}
use Rattle.core_views.specs.declared.place.Place.TheVariants as place
use Rattle.core_views.specs.declared.place.SlotChangePlace.{SlotChangePlace}
use Rattle.core_views.specs.declared.place.SlotChangePlace.TheVariants as change
use Rattle.core_views.specs.declared.place.SplitPlace.{SplitPlace}
use Rattle.core_views.specs.declared.place.SplitPlace.TheVariants as split
use Rattle.core_views.specs.declared.place.WriteProtectPlace.{WriteProtectPlace}
use Rattle.mmu_core.specs.forms.split.SplitSteps.{split_part}
use Rattle.core_views.specs.declared.place.WriteProtectPlace.TheVariants as protect
use Rattle.core_views.specs.declared.topics.Topics.{Topics}
use Rattle.core_views.specs.declared.trace.Command.{Command}
use Rattle.core_views.specs.declared.trace.Command.TheVariants.{Access, ChangeHost, ChangeRun, Split}
use Rattle.core_views.specs.declared.trace.HostChange.{HostChange}
use Rattle.core_views.specs.Held.{Held}
use Rattle.core_views.specs.HostChanges.{is_own}
use Rattle.part_steps.specs.declared.invalidations.Target.{Target}
use Rattle.part_steps.specs.declared.part_step.PartStep.{PartStep}
use Rattle.part_steps.specs.declared.part_step.PartStep.TheVariants as part
use Rattle.part_steps.specs.SweepTopics.{has_entry}
use Rattle.mmu_core.specs.declared.claim.FreeMap.TheVariants as free
use Rattle.mmu_core.specs.forms.access.AccessSteps.{access_part}
use Rattle.mmu_core.specs.forms.access.FaultSteps.{fault_part}
use Rattle.mmu_core.specs.lines.Forms.{part_at}
use Rattle.mmu_core.specs.forms.log.LogSteps.{log_part}
use Rattle.mmu_core.specs.forms.host.HostSteps.{host_part}
use Rattle.mmu_core.specs.orders.InvalidateSteps.{begin_part, end_part}
use Rattle.mmu_core.specs.forms.slot_change.SlotChangeSteps.{slot_change_part, slot_target}
use Rattle.mmu_core.specs.orders.WriteProtectSteps.{protect_part}
use Rattle.mmu_core.proofs.orders.ClaimMade.{claim_is}
use Rattle.mmu_core.proofs.machine.PartStepping.{is_publish}
use Rattle.mmu_core.proofs.lines.EitherPlace.{either_place}
use Rattle.mmu_core.proofs.orders.ShareMade.{share_is}
use Rattle.core_views.specs.declared.place.HostRunPlace.{HostRunPlace}
use Rattle.core_views.specs.declared.place.HostRunPlace.TheVariants as run
use Rattle.core_views.specs.declared.trace.RunChange.{RunChange}
use Rattle.core_views.specs.HostRuns.{owns_run}
use Rattle.part_steps.specs.PageRuns.{is_several}
use Rattle.mmu_core.specs.forms.host_run.HostRunSteps.{host_run_part}

-- The step puts or fixes a leaf, marks a page, takes bits of the log, or publishes a slot set.
abbrev pub is_special : PartStep → Bool
is_special (part.Leaf gfn write) = true
is_special (part.Fix gfn) = true
is_special part.Mark = true
is_special (part.Take word mask) = true
is_special part.Publish = true
is_special _ = false

-- It takes bits of the log.
abbrev pub takes_bits : PartStep → Bool
takes_bits (part.Take word mask) = true
takes_bits _ = false

-- The place is none of those of a special step.
abbrev pub is_usual_fault : FaultPlace → Bool
is_usual_fault (fault.Leaf writes) = false
is_usual_fault fault.Fix = false
is_usual_fault (fault.Mark fast) = false
is_usual_fault _ = true

abbrev pub is_usual : Place → Bool
is_usual (place.Access (access.Fault p)) = is_usual_fault p
is_usual (place.SlotChange change.Publish) = false
is_usual (place.Log (log.Take begun)) = false
is_usual _ = true

abbrev IsUsual : PartStep → Type 0
IsUsual step = is_special step ≡ false

-- ---- so each other place makes a usual one

usual_in_fault : (p : FaultPlace) (gfn : ℕ) (t : Topics) → is_usual_fault p ≡ true → IsUsual (fault_part p gfn t)
usual_in_fault (fault.Leaf writes) gfn t usual = absurd (cc usual)
usual_in_fault fault.Fix gfn t usual = absurd (cc usual)
usual_in_fault (fault.Mark fast) gfn t usual = absurd (cc usual)
usual_in_fault (fault.Find begun) gfn t usual = either_place IsUsual begun part.Slot part.Slots refl refl
usual_in_fault fault.Share gfn t usual = share_is IsUsual t.hold refl refl
usual_in_fault (fault.Check stage.Count) gfn t usual = refl
usual_in_fault (fault.Check stage.Start) gfn t usual = refl
usual_in_fault (fault.Check stage.End) gfn t usual = refl
usual_in_fault (fault.Check stage.Seq) gfn t usual = refl
usual_in_fault (fault.Walk rooted) gfn t usual = either_place IsUsual rooted (part.Walk gfn) part.Root refl refl
usual_in_fault (fault.FastFind begun) gfn t usual = either_place IsUsual begun part.Slot part.Slots refl refl
usual_in_fault (fault.FastWalk rooted) gfn t usual = either_place IsUsual rooted (part.Walk gfn) part.Root refl refl
usual_in_fault (fault.Claim begun) gfn t usual = claim_is IsUsual free.Pages begun t.claim refl (λ word. refl)
usual_in_fault _ gfn t usual = refl

usual_in_begin : (p : BeginPlace) (target : Target) (t : Topics) → IsUsual (begin_part p target t)
usual_in_begin (begins.Find begun) target t = either_place IsUsual begun part.Slot part.Slots refl refl
usual_in_begin (begins.Walk rooted) target t = either_place IsUsual rooted (part.Sweep _) part.Root refl refl
usual_in_begin _ target t = refl

usual_in_end : (p : EndPlace) (t : Topics) → IsUsual (end_part p t)
usual_in_end ends.Exclude t = refl
usual_in_end _ t = refl

usual_in_protect : (p : WriteProtectPlace) (range : FrameRange) (t : Topics) → IsUsual (protect_part p range t)
usual_in_protect (protect.Walk rooted) range t = either_place IsUsual rooted (part.Sweep _) part.Root refl refl
usual_in_protect _ range t = refl

usual_in_change : (p : SlotChangePlace) (h : Held) (command : Command) → is_usual (place.SlotChange p) ≡ true → IsUsual (slot_change_part p h command)
usual_in_change change.Publish h command usual = absurd (cc usual)
usual_in_change (change.Claim begun) h command usual = claim_is IsUsual free.Pages begun h.topics.claim refl (λ word. refl)
usual_in_change (change.Begin p) h command usual = usual_in_begin p (slot_target h command) h.topics
usual_in_change (change.End p) h command usual = usual_in_end p h.topics
usual_in_change (change.WriteProtect range p) h command usual = usual_in_protect p range h.topics
usual_in_change _ h command usual = refl

usual_in_host : (p : HostPlace) (page : ℕ) (change : HostChange) (h : Held) → IsUsual (host_part p page change h)
usual_in_host (host.Look moves) page change h = either_place IsUsual (is_own h.state.sizes h.state.actor page) (part.Host page) part.Seq refl refl
usual_in_host (host.Claim begun) page change h = claim_is IsUsual free.Frames begun h.topics.frames.claim refl (λ word. refl)
usual_in_host (host.Begin p) page change h = usual_in_begin p _ h.topics
usual_in_host (host.End p) page change h = usual_in_end p h.topics
usual_in_host _ page change h = refl

usual_in_run : (p : HostRunPlace) (page : ℕ) (change : RunChange) (h : Held) → IsUsual (host_run_part p page change h)
usual_in_run run.Look page change h =
    either_place IsUsual (owns_run h.state.sizes h.state.actor page change) (part.Host page) part.Seq refl refl
usual_in_run run.LookOn page change h = refl
usual_in_run (run.Begin p) page change h = usual_in_begin p _ h.topics
usual_in_run run.Change page change h = either_place IsUsual (is_several h.topics.invalidations.own.pages) part.ChangeNext (part.Change _) refl refl
usual_in_run (run.End p) page change h = usual_in_end p h.topics

usual_in_split : (p : SplitPlace) (gfn : ℕ) (t : Topics) → IsUsual (split_part p gfn t)
usual_in_split split.Share gfn t = share_is IsUsual t.hold refl refl
usual_in_split (split.Walk rooted) gfn t = either_place IsUsual rooted (part.Walk gfn) part.Root refl refl
usual_in_split (split.Claim begun) gfn t = claim_is IsUsual free.Pages begun t.claim refl (λ word. refl)
usual_in_split _ gfn t = refl

usual_in_log : (p : LogPlace) (h : Held) (command : Command) → is_usual (place.Log p) ≡ true → IsUsual (log_part p h command)
usual_in_log (log.Take begun) h command usual = absurd (cc usual)
usual_in_log (log.Walk page) h command usual = either_place IsUsual (has_entry h.topics.walk) (part.WalkAnew _) (part.Walk _) refl refl
usual_in_log _ h command usual = refl

abbrev pub special_by : Option PartStep → Bool
special_by None = false
special_by (Some step) = is_special step

usual_in_access : (p : AccessPlace) (gfn : ℕ) (t : Topics) → is_usual (place.Access p) ≡ true → special_by (access_part p gfn t) ≡ false
usual_in_access (access.Fault p) gfn t usual = usual_in_fault p gfn t usual
usual_in_access _ gfn t usual = refl

pub usual_by : (p : Place) (command : Command) (h : Held) → is_usual p ≡ true → special_by (part_at p command h) ≡ false
usual_by (place.Access p) (Access gfn word op) h usual = usual_in_access p gfn h.topics usual
usual_by (place.SlotChange p) command h usual = usual_in_change p h command usual
usual_by (place.Host p) (ChangeHost page change) h usual = usual_in_host p page change h
usual_by (place.HostRun p) (ChangeRun page change) h usual = usual_in_run p page change h
usual_by (place.Log p) command h usual = usual_in_log p h command usual
usual_by (place.Split p) (Split gfn) h usual = usual_in_split p gfn h.topics
usual_by _ _ h usual = refl

-- What no step is that isn't special, none is at such a place.
abbrev pub by_test : (PartStep → Bool) → Option PartStep → Bool
by_test test None = false
by_test test (Some step) = test step

pub none_usual : (test : PartStep → Bool) → ((step : PartStep) → is_special step ≡ false → test step ≡ false) → (p : Place) (command : Command) (h : Held)
    → is_usual p ≡ true → by_test test (part_at p command h) ≡ false
none_usual test never p command h usual = by (part_at p command h) (usual_by p command h usual)
  where
    by : (s : Option PartStep) → special_by s ≡ false → by_test test s ≡ false
    by None e = refl
    by (Some step) e = never step e

-- ---- a line publishes a slot set at one place alone

abbrev pub publishes : Place → Bool
publishes (place.SlotChange change.Publish) = true
publishes _ = false

none_published : (step : PartStep) → is_special step ≡ false → is_publish step ≡ false
none_published part.Publish usual = absurd (cc usual)
none_published _ usual = refl

publishes_at : (p : Place) (command : Command) (h : Held) → publishes p ≡ false → by_test is_publish (part_at p command h) ≡ false
publishes_at (place.Access (access.Fault (fault.Leaf writes))) (Access gfn word op) h other = refl
publishes_at (place.Access (access.Fault (fault.Leaf writes))) command h other = refl
publishes_at (place.Access (access.Fault fault.Fix)) (Access gfn word op) h other = refl
publishes_at (place.Access (access.Fault fault.Fix)) command h other = refl
publishes_at (place.Access (access.Fault (fault.Mark fast))) (Access gfn word op) h other = refl
publishes_at (place.Access (access.Fault (fault.Mark fast))) command h other = refl
publishes_at (place.SlotChange change.Publish) command h other = absurd (cc other)
publishes_at (place.Log (log.Take begun)) command h other = refl
publishes_at p command h other = none_usual is_publish none_published p command h refl

pub publishes_none : (p : Place) (command : Command) (h : Held) (step : PartStep) → publishes p ≡ false → part_at p command h ≡ Some step
    → is_publish step ≡ false
publishes_none p command h step other is = sym (ap (by_test is_publish) is) ∙ publishes_at p command h other

-- ---- it puts or fixes a leaf at two places of a fault

abbrev pub puts_leaf : PartStep → Bool
puts_leaf (part.Leaf gfn write) = true
puts_leaf (part.Fix gfn) = true
puts_leaf _ = false

abbrev pub puts_there : Place → Bool
puts_there (place.Access (access.Fault (fault.Leaf writes))) = true
puts_there (place.Access (access.Fault fault.Fix)) = true
puts_there _ = false

none_put : (step : PartStep) → is_special step ≡ false → puts_leaf step ≡ false
none_put (part.Leaf gfn write) usual = absurd (cc usual)
none_put (part.Fix gfn) usual = absurd (cc usual)
none_put _ usual = refl

pub puts_at : (p : Place) (command : Command) (h : Held) → puts_there p ≡ false → by_test puts_leaf (part_at p command h) ≡ false
puts_at (place.Access (access.Fault (fault.Leaf writes))) command h other = absurd (cc other)
puts_at (place.Access (access.Fault fault.Fix)) command h other = absurd (cc other)
puts_at (place.Access (access.Fault (fault.Mark fast))) (Access gfn word op) h other = refl
puts_at (place.Access (access.Fault (fault.Mark fast))) command h other = refl
puts_at (place.SlotChange change.Publish) command h other = refl
puts_at (place.Log (log.Take begun)) command h other = refl
puts_at p command h other = none_usual puts_leaf none_put p command h refl
