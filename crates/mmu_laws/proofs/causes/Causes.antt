-- Each fault that begins anew has its cause in the steps of its section.
use Rattle.std.proofs.Common.{◌≡◌, ◌<◌, ◌≤◌, ℕ, zero, suc, List, [], ◌∷◌, length, refl, subst, ap, arith}
use Rattle.std.specs.Prelude.{Bool, true, false, nat_lt, slice_index_or}
use Rattle.std.proofs.lemmas.Bool.Decides.{nat_tests}
use Rattle.core_views.specs.declared.kind.Kind.{Kind}
use Rattle.core_views.specs.declared.place.AccessPlace.{AccessPlace}
use Rattle.core_views.specs.declared.place.AccessPlace.TheVariants.{Fault}
use Rattle.core_views.specs.declared.place.Cause.{Cause}
use Rattle.core_views.specs.declared.place.Cause.TheVariants.{Open, Moved, Entry}
use Rattle.core_views.specs.declared.place.FaultEnd.TheVariants.{Retry}
use Rattle.core_views.specs.declared.place.FaultPlace.TheVariants.{End}
use Rattle.core_views.specs.declared.place.Place.TheVariants as place
use Rattle.core_views.specs.declared.sizes.Sizes.{Sizes}
use Rattle.core_views.specs.Held.{Held}
use Rattle.mmu_laws.specs.causes.Causes.{FaultsBeginAnewByCause, IsCaused}
use Rattle.mmu_core.specs.machine.Enabled.{mmu}
use Rattle.mmu_core.specs.invariant.Laws.{IsSound}
use Rattle.mmu_core.specs.machine.Machine.{Step, World, hand_in, run}
use Rattle.mmu_core.specs.machine.Steps.{nobody}
use Rattle.mmu_laws.proofs.forms.access.CauseOwn.{own_saw}
use Rattle.mmu_laws.proofs.forms.access.CausePlaces.{CauseSaw, FaultSaw, others_saw}
use Rattle.mmu_laws.proofs.forms.access.EachFault.{AreSeen, each_fault}
use Rattle.mmu_laws.proofs.forms.access.Entries.{IsOfFrame, cause_of_frame}
use Rattle.mmu_core.proofs.machine.Worlds.{good_run}

causes_seen : (z : Sizes) (w : World Held) → AreSeen z w (λ actor. FaultSaw z actor w)
causes_seen z w = record {
  begins = λ actor gfn t ss u. (tt, tt);
  own = λ ss s G may p gfn write M K S. own_saw z w ss s G may p gfn write M K S;
  others = λ actor p gfn t ss s may other S. others_saw z actor w p gfn t ss s may other S;
}

-- The cause is what was seen, and where it is an entry, this is one of the guest frame.
caused : (cause : Cause) (z : Sizes) (actor gfn : ℕ) (w : World Held) (ss : List (Step Kind)) → CauseSaw cause z actor gfn w ss
    → IsOfFrame cause z gfn (hand_in mmu (run mmu w ss) actor).topics → IsCaused cause z actor gfn w ss
caused (Open count start end_ at) z actor gfn w ss S F = S
caused (Moved old_ now_) z actor gfn w ss S F = S
caused (Entry word read seen) z actor gfn w ss S F = (F, S)

-- Whose line is under way is an actor of the machine.
beyond : {X : Type 0} (xs : List X) (i : ℕ) (none : X) → length xs ≤ i → slice_index_or xs i none ≡ none
beyond [] i none le = refl
beyond (x ∷ xs) zero none le = absurd (omega (arith, le))
beyond (x ∷ xs) (suc i) none le = beyond xs i none (omega (arith, le))

under_way_is_there : (u : World Held) (actor : ℕ) (p : AccessPlace) → (hand_in mmu u actor).state.place ≡ place.Access p → actor < length u.hands
under_way_is_there u actor p stands = by (nat_lt actor (length u.hands)) refl
  where
    by : (b : Bool) → nat_lt actor (length u.hands) ≡ b → actor < length u.hands
    by true is = grind (arith, nat_tests)
    by false is =
        let le : length u.hands ≤ actor = grind (arith, nat_tests) in
        let idle : (hand_in mmu u actor).state.place ≡ place.Between = ap (λ (h : Held). h.state.place) (beyond u.hands actor nobody le) in
        absurd (cc (idle, stands))

pub faults_begin_anew_by_cause : FaultsBeginAnewByCause
faults_begin_anew_by_cause z w ss actor gfn word op fast cause G legal idle ends command =
    let sound : IsSound z (run mmu w ss) = good_run z w ss G legal in
    caused cause z actor gfn w ss
    (each_fault z w (λ actor. FaultSaw z actor w) (causes_seen z w) ss actor gfn word op (End (Retry fast cause)) G legal idle ends command)
    (cause_of_frame z (run mmu w ss) actor gfn word op fast cause sound
    (subst (λ n. actor < n) sound.hands (under_way_is_there (run mmu w ss) actor (Fault (End (Retry fast cause))) ends)) ends command)
