-- The step of a line, by its form: a step of a part is one that its actor may make, and the invariant holds after it.
use Rattle.std.proofs.Common.{◌≡◌, ℕ, refl, subst, sym, ◌<◌}
use Rattle.std.specs.Prelude.{Some}
use Rattle.core_views.specs.declared.actor.Actor.TheVariants.{Manager}
use Rattle.core_views.specs.Held.{Held}
use Rattle.core_views.specs.declared.place.Place.{Place}
use Rattle.core_views.specs.declared.place.Place.TheVariants as place
use Rattle.core_views.specs.declared.sizes.Sizes.{Sizes}
use Rattle.core_views.specs.declared.trace.Command.{Command}
use Rattle.core_views.specs.declared.trace.Line.{Line}
use Rattle.mmu_core.specs.lines.Forms.{outcome_at}
use Rattle.mmu_core.specs.invariant.Invariant.{Invariant, KnowsPart, RetiresPart, OwnLines}
use Rattle.mmu_core.specs.invariant.TopicsInvariant.{TopicsInvariant}
use Rattle.mmu_core.specs.machine.View.{View, stepped, hand_after, answer_in}
use Rattle.mmu_core.proofs.lines.KnowsKept.{KnowsBehind, NeedsAt, knows_after}
pub use Rattle.mmu_core.proofs.invariant.QuietKept.{MakesAt}
use Rattle.mmu_core.proofs.forms.slot_change.SlotChangeKept.{change_hand}
use Rattle.mmu_core.proofs.machine.Stepping.{IsStep}
use Rattle.mmu_core.proofs.forms.access.AccessParts.{AreSmall}
use Rattle.mmu_core.proofs.machine.Columns.{at_upd}
use Rattle.core_views.specs.Sizes.{actors_of}
use Rattle.mmu_core.specs.machine.Outcomes.{place_after}
use Rattle.mmu_core.specs.machine.Steps.{task_at}
use Rattle.mmu_core.proofs.forms.access.AccessKept.{access_keeps}
use Rattle.mmu_core.proofs.forms.host.HostKept.{host_keeps}
use Rattle.mmu_core.proofs.forms.host_run.HostRunKept.{host_run_keeps}
use Rattle.mmu_core.proofs.forms.log.LogKept.{log_keeps}
use Rattle.mmu_core.proofs.forms.slot_change.SlotChangeKeeps.{slot_change_keeps}
pub use Rattle.mmu_core.proofs.forms.slot_change.SlotChangeKeeps.{makes_slot_change}
use Rattle.mmu_core.proofs.forms.split.SplitKept.{split_keeps}
use Rattle.mmu_core.proofs.invariant.FormKept.{FormKept}

-- what the invariant asks of each place
keeps_at : (p : Place) (c : Command) → FormKept p c
keeps_at place.Between c = record {
  needs = λ z v a line S I P. tt;
  knows = λ z v a line S I P there. absurd S.begun;
  makes = λ z v a line small S I P. absurd S.begun;
  kept = λ z v a line S I P makes knows. absurd S.begun;
}
keeps_at (place.Access p) c = access_keeps p c
keeps_at (place.SlotChange p) c = slot_change_keeps p c
keeps_at (place.Host p) c = host_keeps p c
keeps_at (place.HostRun p) c = host_run_keeps p c
keeps_at (place.Log p) c = log_keeps p c
keeps_at (place.Split p) c = split_keeps p c

-- The step of a line has what it needs.
pub needs_at : (z : Sizes) (v : View) (a : ℕ) (line : Line) (command : Command) (p : Place) → IsStep z v a line command p → Invariant z v
    → TopicsInvariant z v → NeedsAt p command (v.hand a)
needs_at z v a line command p S I P = (keeps_at p command).needs z v a line S I P

-- The step of a line leaves its actor with what its next place asks, or at rest where the line is answered.
pub line_knows : (z : Sizes) (v : View) (a : ℕ) (line : Line) (command : Command) (p : Place) → IsStep z v a line command p → Invariant z v
    → TopicsInvariant z v → a < actors_of z
    → KnowsBehind (outcome_at p command (v.hand a) (answer_in (task_at p command (v.hand a)) v.words)) command
    (hand_after line command p (v.hand a) (answer_in (task_at p command (v.hand a)) v.words))
line_knows z v a line command p S I P there = (keeps_at p command).knows z v a line S I P there

-- Each step of a line leaves each actor with what its place asks.
pub knows_behind : (z : Sizes) (v : View) (a : ℕ) (line : Line) (command : Command) (p : Place) → IsStep z v a line command p → Invariant z v
    → TopicsInvariant z v → (i : ℕ) → i < actors_of z
    → KnowsPart ((stepped a line command p v).hand i).state.place ((stepped a line command p v).hand i).state.line.command ((stepped a line command p v).hand i)
knows_behind z v a line command p S I P =
    at_upd (λ i (h : Held). i < actors_of z → KnowsPart h.state.place h.state.line.command h) v.hand a
    (hand_after line command p (v.hand a) (answer_in (task_at p command (v.hand a)) v.words))
    (λ there. subst (λ c. KnowsPart (place_after (outcome_at p command (v.hand a) (answer_in (task_at p command (v.hand a)) v.words))) c
    (hand_after line command p (v.hand a) (answer_in (task_at p command (v.hand a)) v.words))) (sym S.command_is)
    (knows_after (outcome_at p command (v.hand a) (answer_in (task_at p command (v.hand a)) v.words)) command
    (hand_after line command p (v.hand a) (answer_in (task_at p command (v.hand a)) v.words)) (line_knows z v a line command p S I P there)))
    (λ i ne. I.knows i)

-- Its step of a part is one that its actor may make.
pub makes_at : (z : Sizes) (v : View) (a : ℕ) (line : Line) (command : Command) (p : Place) → AreSmall v → IsStep z v a line command p → Invariant z v
    → TopicsInvariant z v → MakesAt z v a p command
makes_at z v a line command p small S I P = (keeps_at p command).makes z v a line small S I P

-- Each step keeps the invariant.
pub step_kept : (z : Sizes) (v : View) (a : ℕ) (line : Line) (command : Command) (p : Place) → AreSmall v → IsStep z v a line command p
    → Invariant z v → TopicsInvariant z v → Invariant z (stepped a line command p v)
step_kept z v a line command p small S I P =
    (keeps_at p command).kept z v a line S I P (makes_at z v a line command p small S I P) (knows_behind z v a line command p S I P)

-- The hand that has retired a page is the manager's.
pub manager_retires : (z : Sizes) (i k : ℕ) (h : Held) → OwnLines z i h → KnowsPart h.state.place h.state.line.command h → RetiresPart h.state.place h.topics
    → h.topics.retired ≡ Some k → h.state.actor ≡ Manager
manager_retires z i k h O K L leaves = by h.state.place h.state.line.command refl refl K L
  where
    by : (p : Place) (c : Command) → h.state.place ≡ p → h.state.line.command ≡ c → KnowsPart p c h → RetiresPart p h.topics → h.state.actor ≡ Manager
    by (place.SlotChange p) command at is K L = change_hand z i h p command O at is K.0
    by _ c at is K L = let none = L.leaves refl in absurd (cc (none, leaves))
