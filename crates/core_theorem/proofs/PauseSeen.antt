-- An access that is about to touch has looked at the pause in this stay in the guest.
use Rattle.std.proofs.Common.{◌≡◌, ◌≢◌, ℕ, List, [], ◌∷◌, ◌++◌, refl, sym, subst, ap, ◌∙◌, arith}
use Rattle.std.specs.Prelude.{Bool, true, false, Option, Some, None, slice_index}
use Rattle.core_views.specs.declared.cache.Translation.{Translation}
use Rattle.core_views.specs.declared.kind.Kind.{Kind}
use Rattle.core_views.specs.declared.kind.StepKind.TheVariants as kind
use Rattle.core_views.specs.declared.place.AccessPlace.{AccessPlace}
use Rattle.core_views.specs.declared.place.AccessPlace.TheVariants.{Pause, Root, Walk, Touch, Leave, Fault}
use Rattle.core_views.specs.declared.place.FaultEnd.{FaultEnd}
use Rattle.core_views.specs.declared.place.FaultEnd.TheVariants.{Fixed, Installed, NotFast, Retry}
use Rattle.core_views.specs.declared.place.FaultNext.{FaultNext}
use Rattle.core_views.specs.declared.place.FaultNext.TheVariants as next_of
use Rattle.core_views.specs.declared.place.Leaving.TheVariants as leaving
use Rattle.core_views.specs.declared.place.Place.{Place}
use Rattle.core_views.specs.declared.place.Place.TheVariants as place
use Rattle.core_views.specs.declared.sizes.Sizes.{Sizes}
use Rattle.core_views.specs.declared.topics.Stay.TheVariants.{Guest}
use Rattle.core_views.specs.declared.trace.Command.{Command}
use Rattle.core_views.specs.declared.trace.Command.TheVariants.{Access}
use Rattle.core_views.specs.declared.trace.Op.{Op}
use Rattle.core_views.specs.Held.{Held}
use Rattle.core_views.specs.Kinds.{code_of}
use Rattle.core_views.specs.Slots.{is_write}
use Rattle.core_views.specs.SlotSets.{MemorySlots}
use Rattle.spte_words.specs.declared.spte_kind.SpteKind.{SpteKind}
use Rattle.spte_words.specs.declared.spte_kind.SpteKind.TheVariants as entry_kind
use Rattle.spte_words.specs.Entries.{kind_of}
use Rattle.part_steps.specs.declared.part_step.PartStep.TheVariants as part
use Rattle.mmu_core.specs.forms.access.AccessSteps.{access_outcome, behind_fault, pause_next, stay_next}
use Rattle.mmu_core.specs.forms.access.Cached.{first_usable}
use Rattle.mmu_laws.specs.causes.Causes.{HasMade}
use Rattle.mmu_core.specs.machine.Enabled.{mmu}
use Rattle.mmu_core.specs.forms.access.FaultSteps.{allows_access, fault_next}
use Rattle.mmu_core.specs.invariant.Laws.{IsSound}
use Rattle.mmu_core.specs.machine.Machine.{May, Step, World, answered, hand_in, run}
use Rattle.mmu_core.specs.machine.Outcomes.{place_after}
use Rattle.mmu_core.specs.declared.outcome.Outcome.{Outcome}
use Rattle.mmu_core.specs.declared.outcome.Outcome.TheVariants.{Goes, Ends}
use Rattle.mmu_core.specs.lines.Forms.{first_place, outcome_at}
use Rattle.mmu_laws.proofs.causes.Changes.{made_longer, made_now}
use Rattle.mmu_laws.proofs.causes.EachLine.{IsStepAt, LineSights, LinesSee, each_line}
use Rattle.mmu_laws.proofs.causes.MadeSteps.{Makes, word_on}
use Rattle.mmu_core.proofs.lines.Forms.{outcome_apart}
use Rattle.mmu_core.proofs.machine.GoesOn.{GoesToNoAccess}
use Rattle.mmu_core.proofs.start.Starts.{hand_is, start_good}
use Rattle.core_theorem.specs.Stays.{FindsNoPause, PauseIsSeenInStay, StaysInGuest}

-- The actor has looked at the pause in the stay in which the steps end.
abbrev Saw : Sizes → World Held → ℕ → List (Step Kind) → Type 0
Saw z w actor ss = HasMade (FindsNoPause z actor) (StaysInGuest actor) w ss

-- So it has from there on up to the touch.
abbrev AccessSaw : Sizes → World Held → ℕ → AccessPlace → List (Step Kind) → Type 0
AccessSaw z w actor (Root again) ss = Saw z w actor ss
AccessSaw z w actor (Walk again) ss = Saw z w actor ss
AccessSaw z w actor Touch ss = Saw z w actor ss
AccessSaw z w actor _ ss = Unit {0}

abbrev PlaceSaw : Sizes → World Held → ℕ → Place → List (Step Kind) → Type 0
PlaceSaw z w actor (place.Access p) ss = AccessSaw z w actor p ss
PlaceSaw z w actor _ ss = Unit {0}

abbrev LineSaw : Sizes → World Held → LineSights
LineSaw z w actor p c t ss u = PlaceSaw z w actor p ss

module _ (z : Sizes) (w : World Held) (ss : List (Step Kind)) (s : Step Kind) (G : IsSound z (run mmu w ss)) (may : May mmu (run mmu w ss) s) where
  abbrev a : ℕ
  a = s.actor

  abbrev u : World Held
  u = run mmu w ss

  abbrev h : Held
  h = hand_in mmu u s.actor

  abbrev v : ℕ
  v = answered mmu u s.kind

  -- what the line has seen after its step
  abbrev SawNow : Place → Type 0
  SawNow p = PlaceSaw z w a p (ss ++ s ∷ [])

  -- The step loads the pause, which isn't set.
  looks : Makes h s part.Pause → h.topics.stay ≡ Guest → Saw z w a (ss ++ s ∷ [])
  looks M guest =
      made_now (FindsNoPause z a) (StaysInGuest a) w ss s (record {
        loads = ap (λ (k : Kind). k.code) M.is;
        finds = record {
          by_actor = refl;
          on = word_on z u s G may part.Pause M;
          finds = ap (λ i. slice_index u.words i) (word_on z u s G may part.Pause M) ∙ G.no_pause;
        };
        inside = guest;
      })

  looked : (again : Bool) (found : Option Translation) → Saw z w a (ss ++ s ∷ []) → AccessSaw z w a (pause_next again found) (ss ++ s ∷ [])
  looked again None saw = saw
  looked again (Some found) saw = saw

  walked : (again : Bool) (k : SpteKind) (allowed : Bool) → Saw z w a (ss ++ s ∷ []) → AccessSaw z w a (stay_next again k allowed) (ss ++ s ∷ [])
  walked again (entry_kind.Table page) allowed saw = saw
  walked again entry_kind.Leaf true saw = saw
  walked again entry_kind.Leaf false saw = tt
  walked again _ allowed saw = tt

  -- A fault leads to no place of a stay before it enters the guest.
  ends_saw : (e : FaultEnd) → SawNow (place_after (behind_fault (next_of.Ends e)))
  ends_saw Installed = tt
  ends_saw (Retry fast cause) = tt
  ends_saw (Fixed marked) = tt
  ends_saw (NotFast found) = tt
  ends_saw _ = tt

  fault_saw : (n : FaultNext) → SawNow (place_after (behind_fault n))
  fault_saw (next_of.Goes p) = tt
  fault_saw (next_of.Ends e) = ends_saw e

  longer : (code : ℕ) → s.kind.code ≡ code → code ≢ code_of kind.Enter → code ≢ code_of kind.Leave → Saw z w a ss → Saw z w a (ss ++ s ∷ [])
  longer code is enters leaves saw = made_longer (FindsNoPause z a) (StaysInGuest a) w ss s (λ mine. (λ e. enters (sym is ∙ e), λ e. leaves (sym is ∙ e))) saw

  access_saw : (p : AccessPlace) (gfn word : ℕ) (op : Op) → IsStepAt h s (place.Access p) (Access gfn word op) → AccessSaw z w a p ss
      → SawNow (place_after (access_outcome p h gfn op v))
  access_saw (Pause again) gfn word op K S =
      looked again (first_usable gfn (is_write op) h.cached.items) (looks (record { note = 0; is = K.is; needs = K.rests }) K.knows.guest)
  access_saw (Root again) gfn word op K S =
      longer (code_of kind.Control) (ap (λ (k : Kind). k.code) K.is) (λ e. absurd (omega (arith, e))) (λ e. absurd (omega (arith, e))) S
  access_saw (Walk again) gfn word op K S =
      walked again (kind_of h.topics.walk.level v) (allows_access (is_write op) v)
      (longer (code_of kind.Walk) (ap (λ (k : Kind). k.code) K.is) (λ e. absurd (omega (arith, e))) (λ e. absurd (omega (arith, e))) S)
  access_saw (Leave (leaving.Reached frame value)) gfn word op K S = tt
  access_saw (Leave (leaving.Faults true)) gfn word op K S = tt
  access_saw (Leave (leaving.Faults false)) gfn word op K S = tt
  access_saw (Fault p) gfn word op K S = fault_saw (fault_next p h.state.sizes gfn (is_write op) h.topics v)
  access_saw _ gfn word op K S = tt

  -- A line of another form goes to no place of a stay.
  other_saw : (o : Outcome) → GoesToNoAccess o → SawNow (place_after o)
  other_saw (Goes (place.Access p)) other = absurd other
  other_saw (Goes _) other = tt
  other_saw (Ends answer) other = tt

  line_saw : (p : Place) (c : Command) → IsStepAt h s p c → PlaceSaw z w a p ss → SawNow (place_after (outcome_at p c h v))
  line_saw (place.Access p) (Access gfn word op) K S = access_saw p gfn word op K S
  line_saw (place.Access p) _ K S = absurd K.knows
  line_saw p c K S = other_saw (outcome_at p c h v) (outcome_apart p c h v tt)

module _ (z : Sizes) (w : World Held) where
  first_saw : (actor : ℕ) (y : Sizes) (slots : MemorySlots) (c : Command) (ss : List (Step Kind)) → PlaceSaw z w actor (first_place y slots c) ss
  first_saw actor y slots (Access gfn word op) ss = tt
  first_saw actor y slots _ ss = tt

  -- No other actor's step ends the stay.
  others_access : (actor : ℕ) (p : AccessPlace) (ss : List (Step Kind)) (s : Step Kind) → s.actor ≢ actor → AccessSaw z w actor p ss
      → AccessSaw z w actor p (ss ++ s ∷ [])
  others_access actor p ss s other S = by p S
    where
      more : Saw z w actor ss → Saw z w actor (ss ++ s ∷ [])
      more saw = made_longer (FindsNoPause z actor) (StaysInGuest actor) w ss s (λ mine. absurd (other mine)) saw

      by : (q : AccessPlace) → AccessSaw z w actor q ss → AccessSaw z w actor q (ss ++ s ∷ [])
      by (Root again) saw = more saw
      by (Walk again) saw = more saw
      by Touch saw = more saw
      by _ saw = tt

  others_saw : (actor : ℕ) (p : Place) (ss : List (Step Kind)) (s : Step Kind) → s.actor ≢ actor → PlaceSaw z w actor p ss → PlaceSaw z w actor p (ss ++ s ∷ [])
  others_saw actor (place.Access p) ss s other S = others_access actor p ss s other S
  others_saw actor _ ss s other S = tt

  lines_see : LinesSee z w (LineSaw z w)
  lines_see = record {
    between = λ actor c t ss x. tt;
    first = λ actor y slots c t ss x. first_saw actor y slots c ss;
    own = λ ss s G may p c K S. line_saw z w ss s G may p c K S;
    others = λ actor p c t ss s may other S. others_saw actor p ss s other S;
  }

pub pause_is_seen_in_stay : PauseIsSeenInStay
pause_is_seen_in_stay z lines w ss R actor there touches =
    subst (λ (p : Place). PlaceSaw z w actor p ss) touches
    (each_line z w (LineSaw z w) (lines_see z w) ss actor (start_good z lines w R.start) R.legal
    (ap (λ (h : Held). h.state.place) (hand_is z lines w actor R.start there)))
