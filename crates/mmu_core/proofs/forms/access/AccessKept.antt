-- The steps of an access keep the invariant.
use Rattle.mmu_core.proofs.lines.OpenedStays.{access_opens_none, access_owns_none}
use Rattle.std.proofs.Common.{ℕ, refl, ◌<◌}
use Rattle.core_views.specs.declared.place.AccessPlace.{AccessPlace}
use Rattle.core_views.specs.declared.place.AccessPlace.TheVariants.{Leave, Fault}
use Rattle.core_views.specs.declared.place.FaultEnd.TheVariants as end_of
use Rattle.core_views.specs.declared.place.FaultNext.{FaultNext}
use Rattle.core_views.specs.declared.place.FaultNext.TheVariants as next_of
use Rattle.core_views.specs.declared.place.Leaving.TheVariants as leaving
use Rattle.core_views.specs.declared.place.Place.TheVariants as place
use Rattle.core_views.specs.declared.sizes.Sizes.{Sizes}
use Rattle.core_views.specs.declared.trace.Command.TheVariants.{Access}
use Rattle.core_views.specs.declared.trace.Line.{Line}
use Rattle.core_views.specs.declared.trace.Op.{Op}
use Rattle.core_views.specs.Held.{Held}
use Rattle.core_views.specs.Slots.{is_write}
use Rattle.spte_words.specs.declared.area.Area.TheVariants as area
use Rattle.mmu_core.specs.forms.access.AccessSteps.{access_outcome, access_task, behind_fault}
use Rattle.mmu_core.specs.forms.access.FaultSteps.{fault_next}
use Rattle.mmu_core.specs.forms.access.AccessKnows.{AccessKnows}
use Rattle.mmu_core.specs.machine.Outcomes.{place_after}
use Rattle.mmu_core.specs.invariant.TopicsInvariant.{TopicsInvariant}
use Rattle.mmu_core.specs.machine.View.{View, answer_in, hand_after, stepped}
use Rattle.mmu_core.proofs.forms.access.CachedKept.{cached_kept, vcpu_below}
use Rattle.mmu_core.proofs.machine.Stepping.{IsStep}
use Rattle.mmu_core.specs.invariant.Invariant.{Holds, Invariant}
use Rattle.mmu_core.proofs.slots.LiveStays.{MakesParts}
use Rattle.mmu_core.proofs.invariant.QuietKept.{access_sets_stay, quiet_kept}
use Rattle.mmu_core.proofs.slots.SlotsStay.{AllKnow}
use Rattle.mmu_core.proofs.held.OthersStay.{access_leaves_none}
use Rattle.mmu_core.proofs.lines.KnowsKept.{step_leaves}
use Rattle.mmu_core.proofs.forms.access.UsedTranslations.{caches_room}
use Rattle.std.proofs.Common.{subst}
use Rattle.core_views.specs.declared.trace.Command.{Command}
use Rattle.core_views.specs.Traces.{IsCommandFor}
use Rattle.mmu_core.proofs.forms.access.AccessParts.{makes_parts}
use Rattle.mmu_core.proofs.invariant.FormKept.{FormKept}
use Rattle.mmu_core.proofs.invariant.PartBounded.{part_rests_at}
use Rattle.mmu_core.proofs.lines.KnowsKept.{access_vcpu, own_access, step_knows}

-- An access has loaded nothing that its places speak of.
fault_holds : (z : Sizes) (pool : ℕ → ℕ) (set : ℕ) (n : FaultNext) (gfn word : ℕ) (op : Op) (g : Held)
    → Holds z pool set (place_after (behind_fault n)) (Access gfn word op) g
fault_holds z pool set (next_of.Goes q) gfn word op g = tt
fault_holds z pool set (next_of.Ends end_of.Installed) gfn word op g = tt
fault_holds z pool set (next_of.Ends end_of.Mmio) gfn word op g = tt
fault_holds z pool set (next_of.Ends end_of.HostFault) gfn word op g = tt
fault_holds z pool set (next_of.Ends end_of.Starved) gfn word op g = tt
fault_holds z pool set (next_of.Ends (end_of.Fixed marked)) gfn word op g = tt
fault_holds z pool set (next_of.Ends (end_of.NotFast seen)) gfn word op g = tt
fault_holds z pool set (next_of.Ends (end_of.Retry fast cause)) gfn word op g = tt

access_holds : (z : Sizes) (pool : ℕ → ℕ) (set : ℕ) (p : AccessPlace) (h : Held) (gfn word : ℕ) (op : Op) (x : ℕ) (g : Held)
    → Holds z pool set (place_after (access_outcome p h gfn op x)) (Access gfn word op) g
access_holds z pool set (Leave (leaving.Reached frame value)) h gfn word op x g = tt
access_holds z pool set (Leave (leaving.Faults fast)) h gfn word op x g = tt
access_holds z pool set (Fault q) h gfn word op x g = fault_holds z pool set (fault_next q h.state.sizes gfn (is_write op) h.topics x) gfn word op g
access_holds z pool set _ h gfn word op x g = tt

-- The invariant after each step of an access, where each actor knows after it what its place asks.
pub access_kept : (z : Sizes) (v : View) (a : ℕ) (line : Line) (p : AccessPlace) (gfn word : ℕ) (op : Op)
    → IsStep z v a line (Access gfn word op) (place.Access p) → Invariant z v → TopicsInvariant z v
    → AccessKnows p gfn (is_write op) (v.hand a) → MakesParts z v a p gfn → AllKnow z (stepped a line (Access gfn word op) (place.Access p) v).hand
    → Invariant z (stepped a line (Access gfn word op) (place.Access p) v)
access_kept z v a line p gfn word op S I P K makes knows =
    quiet_kept z v a line (Access gfn word op) (place.Access p) S I (access_sets_stay z v a p gfn word op makes P) (record {
      same = refl;
      room = caches_room p h gfn op x;
      leaves =
          let L = step_leaves z v a line (Access gfn word op) (place.Access p) S I in
          record {
            leaves = λ may. access_leaves_none h p gfn word op x (L.leaves refl);
            opens = λ may. access_opens_none h p gfn word op x (λ step is. (makes step is).needs) (L.opens refl);
            frames = λ may. access_owns_none h p gfn word op x (λ step is. (makes step is).needs) (L.frames refl);
          };
      holds = access_holds z _ (v.words area.Slots 0) p h gfn word op x (hand_after line (Access gfn word op) (place.Access p) h x);
      cached = cached_kept z v a line p gfn word op low I P K;
    }) knows
  where
    h : Held
    h = v.hand a

    x : ℕ
    x = answer_in (access_task p h gfn word op) v.words

    low : a < z.vcpus
    low = subst (λ i. i < z.vcpus) (I.lines a S.there).index
        (vcpu_below z h.state.actor gfn word op (subst (λ actor. IsCommandFor z actor (Access gfn word op)) S.own S.allowed))

-- ---- all of it

pub access_keeps : (p : AccessPlace) (c : Command) → FormKept (place.Access p) c
access_keeps p (Access gfn word op) = record {
  needs = λ z v a line S I P. tt;
  knows = λ z v a line S I P there.
      let V = access_vcpu z (v.hand a).state.actor gfn word op (subst (λ x. IsCommandFor z x (Access gfn word op)) S.own S.allowed) in
      own_access p line (v.hand a) gfn word op v.words V.0 V.1 (part_rests_at z v a I P there)
      (step_knows z v a line (Access gfn word op) (place.Access p) S I);
  makes = λ z v a line small S I P. makes_parts z v a line p gfn word op small S I P;
  kept = λ z v a line S I P makes knows.
      access_kept z v a line p gfn word op S I P (step_knows z v a line (Access gfn word op) (place.Access p) S I) makes knows;
}
access_keeps p _ = record {
  needs = λ z v a line S I P. tt;
  knows = λ z v a line S I P there. absurd S.holds;
  makes = λ z v a line small S I P. absurd S.holds;
  kept = λ z v a line S I P makes knows. absurd S.holds;
}
