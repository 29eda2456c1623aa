-- Each step of an access that is no delay leaves it fewer steps, by what its hand holds alone, whatever the step finds.
use Rattle.std.proofs.Common.{◌≡◌, ◌+◌, ◌^◌, ◌<◌, ◌≤◌, ℕ, refl, ap, arith}
use Rattle.std.specs.Prelude.{Bool, true, false, ◌&&◌, ◌||◌, Option, Some, None}
use Rattle.core_views.specs.declared.cache.Translation.{Translation}
use Rattle.core_views.specs.declared.place.AccessPlace.{AccessPlace}
use Rattle.core_views.specs.declared.place.AccessPlace.TheVariants.{Enter, Pause, Root, Walk, Touch, Leave, Fault}
use Rattle.core_views.specs.declared.place.FaultEnd.{FaultEnd}
use Rattle.core_views.specs.declared.place.FaultEnd.TheVariants as end_of
use Rattle.core_views.specs.declared.place.FaultNext.{FaultNext}
use Rattle.core_views.specs.declared.place.FaultNext.TheVariants as next_of
use Rattle.core_views.specs.declared.place.FaultPlace.{FaultPlace}
use Rattle.core_views.specs.declared.place.FaultPlace.TheVariants as fault
use Rattle.core_views.specs.declared.place.Leaving.TheVariants as leaving
use Rattle.core_views.specs.declared.place.Place.TheVariants as place
use Rattle.core_views.specs.declared.sizes.Sizes.{Sizes}
use Rattle.core_views.specs.declared.topics.Stay.{Stay}
use Rattle.core_views.specs.declared.topics.Topics.{Topics}
use Rattle.core_views.specs.declared.trace.Command.{Command}
use Rattle.core_views.specs.declared.trace.Command.TheVariants.{Access}
use Rattle.core_views.specs.declared.trace.Op.{Op}
use Rattle.core_views.specs.Held.{Held}
use Rattle.core_views.specs.Slots.{is_write}
use Rattle.spte_words.specs.declared.spte_kind.SpteKind.{SpteKind}
use Rattle.spte_words.specs.declared.spte_kind.SpteKind.TheVariants as entry_kind
use Rattle.spte_words.specs.Entries.{kind_of}
use Rattle.mmu_core.specs.declared.outcome.Outcome.{Outcome}
use Rattle.mmu_core.specs.declared.outcome.Outcome.TheVariants.{Goes}
use Rattle.mmu_core.specs.forms.access.AccessSteps.{access_outcome, access_part, behind_fault, pause_next, stay_next}
use Rattle.mmu_core.specs.lines.Bounds.{access_left, stay_left}
use Rattle.mmu_core.specs.forms.access.Cached.{first_usable}
use Rattle.mmu_core.specs.lines.Delays.{begins_anew, is_delay, leaves_to_fault, walks_again}
use Rattle.mmu_core.specs.forms.access.FaultLeft.{fault_left, next_left}
use Rattle.mmu_core.specs.forms.access.FaultSteps.{allows_access, fault_next, fault_part}
use Rattle.mmu_core.specs.forms.access.AccessKnows.{AccessKnows}
use Rattle.mmu_core.specs.lines.PartWaits.{part_waits}
use Rattle.part_steps.specs.PartBounds.{PartRests}
use Rattle.part_steps.specs.PartTasks.{entry_index}
use Rattle.part_steps.specs.PartTopics.{part_topics}
use Rattle.part_steps.specs.StayTopics.{may_walk}
use Rattle.part_steps.specs.WalkTopics.{gone_down, linked_page}
use Rattle.part_steps.specs.ControlTopics.{at_root}
use Rattle.mmu_core.proofs.forms.access.FaultFalls.{fault_falls}
pub use Rattle.mmu_laws.proofs.turns.Nearer.{Nearer}
use Rattle.mmu_core.proofs.forms.access.WalkKnown.{above_lowest}
use Rattle.mmu_core.proofs.forms.access.AccessLeft.{two_left}
use Rattle.mmu_core.proofs.machine.PartStepping.{behind_part}

-- what is no delay
pub first_of_none : (a b : Bool) → (a || b) ≡ false → a ≡ false
first_of_none true b is = absurd (cc is)
first_of_none false b is = refl

second_of_none : (a b : Bool) → (a || b) ≡ false → b ≡ false
second_of_none true b is = absurd (cc is)
second_of_none false b is = is

-- ---- the stay in the guest

pause_nearer : (c : Command) (used : Option Translation) (again : Bool) (y : Sizes) (t u : Topics)
    → Nearer (Goes (place.Access (pause_next again used))) c y u (6 + stay_left again y t)
pause_nearer c None again y t u = let same : stay_left again y u ≡ stay_left again y t = refl in omega (arith, same)
pause_nearer c (Some used) again y t u = omega arith

root_nearer : (c : Command) (again holds : Bool) (y : Sizes) (t : Topics) (v : ℕ) → holds ≡ true
    → Nearer (Goes (place.Access (Walk again))) c y (record t { walk = at_root holds t.walk v }) (5 + stay_left again y t)
root_nearer c again true y t v is = let same : stay_left again y (record t { walk = at_root true t.walk v }) ≡ stay_left again y t = refl in omega (arith, same)
root_nearer c again false y t v is = absurd (cc is)

-- It leaves for a fault in the first stay alone, but for a delay.
leaves_nearer : (c : Command) (again fast : Bool) (level : ℕ) (y : Sizes) (t u : Topics) → (again && true) ≡ false → 1 ≤ level
    → Nearer (Goes (place.Access (Leave (leaving.Faults fast)))) c y u (level + stay_left again y t)
leaves_nearer c true fast level y t u on from = absurd (cc on)
leaves_nearer c false fast level y t u on from =
    let same : fault_left fault.FastBegin y u ≡ fault_left fault.FastBegin y t = refl in omega (arith, same, from)

walk_nearer : (c : Command) (k : SpteKind) (allowed again : Bool) (gfn : ℕ) (y : Sizes) (t : Topics) (v : ℕ) → kind_of t.walk.level v ≡ k → 1 ≤ t.walk.level
    → (again && leaves_to_fault (Goes (place.Access (stay_next again k allowed)))) ≡ false
    → Nearer (Goes (place.Access (stay_next again k allowed))) c y (record t {
      walk =
          gone_down (linked_page k) t.walk (entry_index gfn t.walk.level) v;
    }) (t.walk.level + stay_left again y t)
walk_nearer c (entry_kind.Table page) allowed again gfn y t v is from on =
    let same : stay_left again y (record t { walk = gone_down (Some page) t.walk (entry_index gfn t.walk.level) v }) ≡ stay_left again y t = refl in
    let upper : 2 ≤ t.walk.level = above_lowest t.walk.level v page from is in
    omega (arith, same, upper)
walk_nearer c entry_kind.Leaf true again gfn y t v is from on = let two = two_left again y t in omega (arith, from, two)
walk_nearer c entry_kind.Leaf false again gfn y t v is from on =
    leaves_nearer c again true t.walk.level y t (record t { walk = gone_down None t.walk (entry_index gfn t.walk.level) v }) on from
walk_nearer c _ _ again gfn y t v is from on =
    leaves_nearer c again false t.walk.level y t (record t { walk = gone_down None t.walk (entry_index gfn t.walk.level) v }) on from

-- ---- the fault

abbrev NotAnew : FaultNext → Type 0
NotAnew (next_of.Ends (end_of.Retry fast cause)) = ⊥
NotAnew _ = Unit {0}

ends_not_anew : (e : FaultEnd) → begins_anew (place.Access (Fault (fault.End e))) ≡ false → NotAnew (next_of.Ends e)
ends_not_anew (end_of.Retry fast cause) is = absurd (cc is)
ends_not_anew _ is = tt

not_anew : (p : FaultPlace) (z : Sizes) (gfn : ℕ) (write : Bool) (t : Topics) (v : ℕ) → begins_anew (place.Access (Fault p)) ≡ false
    → NotAnew (fault_next p z gfn write t v)
not_anew (fault.End e) z gfn write t v is = ends_not_anew e is
not_anew _ z gfn write t v is = tt

fault_nearer : (c : Command) (n : FaultNext) (y : Sizes) (u : Topics) (left : ℕ) → NotAnew n → next_left n y u < left → Nearer (behind_fault n) c y u (left + 9)
fault_nearer c (next_of.Goes p) y u left on less = omega (arith, less)
fault_nearer c (next_of.Ends end_of.Installed) y u left on less = omega (arith, less)
fault_nearer c (next_of.Ends end_of.Mmio) y u left on less = tt
fault_nearer c (next_of.Ends end_of.HostFault) y u left on less = tt
fault_nearer c (next_of.Ends end_of.Starved) y u left on less = tt
fault_nearer c (next_of.Ends (end_of.Fixed marked)) y u left on less = omega (arith, less)
fault_nearer c (next_of.Ends (end_of.NotFast seen)) y u left on less = omega (arith, less)
fault_nearer c (next_of.Ends (end_of.Retry fast cause)) y u left on less = absurd on

-- ---- each place

module _ (h : Held) (gfn word : ℕ) (op : Op) (v : ℕ) (small : gfn < 2 ^ 36) (R : PartRests h) where
  pub access_nearer : (p : AccessPlace) → AccessKnows p gfn (is_write op) h
      → is_delay (place.Access p) (Access gfn word op) h (access_outcome p h gfn op v) v ≡ false
      → Nearer (access_outcome p h gfn op v) (Access gfn word op) h.state.sizes (behind_part (access_part p gfn h.topics) h.topics v)
      (access_left p h.state.sizes h.topics)
  access_nearer (Enter again) K on =
      let same : stay_left again h.state.sizes (behind_part (access_part (Enter again) gfn h.topics) h.topics v)
      ≡ stay_left again h.state.sizes h.topics =
      refl in
      omega (arith, same)
  access_nearer (Pause again) K on = pause_nearer (Access gfn word op) (first_usable gfn (is_write op) h.cached.items) again h.state.sizes h.topics _
  access_nearer (Root again) K on =
      root_nearer (Access gfn word op) again (may_walk h.topics.stay h.topics.hold) h.state.sizes h.topics v
      (ap (λ (s : Stay). may_walk s h.topics.hold) K.guest)
  access_nearer (Walk again) K on =
      walk_nearer (Access gfn word op) (kind_of h.topics.walk.level v) (allows_access (is_write op) v) again gfn h.state.sizes h.topics v refl K.1.there on
  access_nearer Touch K on = omega arith
  access_nearer (Leave (leaving.Reached frame value)) K on = tt
  access_nearer (Leave (leaving.Faults true)) K on =
      let u : Topics = behind_part (access_part (Leave (leaving.Faults true)) gfn h.topics) h.topics v in
      let same : fault_left fault.FastBegin h.state.sizes u ≡ fault_left fault.FastBegin h.state.sizes h.topics = refl in
      omega (arith, same)
  access_nearer (Leave (leaving.Faults false)) K on =
      let u : Topics = behind_part (access_part (Leave (leaving.Faults false)) gfn h.topics) h.topics v in
      let same : fault_left fault.Begin h.state.sizes u ≡ fault_left fault.Begin h.state.sizes h.topics = refl in
      omega (arith, same)
  access_nearer (Fault p) K on =
      let o : Outcome = access_outcome (Fault p) h gfn op v in
      let goes =
      first_of_none (part_waits (fault_part p gfn h.topics) h.topics v)
      (begins_anew (place.Access (Fault p)) || (walks_again (place.Access (Fault p)) && leaves_to_fault o)) on in
      let more =
      second_of_none (part_waits (fault_part p gfn h.topics) h.topics v)
      (begins_anew (place.Access (Fault p)) || (walks_again (place.Access (Fault p)) && leaves_to_fault o)) on in
      fault_nearer (Access gfn word op) (fault_next p h.state.sizes gfn (is_write op) h.topics v) h.state.sizes
      (part_topics (fault_part p gfn h.topics) h.topics v)
      (fault_left p h.state.sizes h.topics)
      (not_anew p h.state.sizes gfn (is_write op) h.topics v (first_of_none (begins_anew (place.Access (Fault p)))
      (walks_again (place.Access (Fault p)) && leaves_to_fault o) more)) (fault_falls p h gfn v (is_write op) small R K goes)
