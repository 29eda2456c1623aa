-- What a fault has seen at its place, whoever made which steps: what is so of its first place, after its own step, and after those of others.
use Rattle.std.proofs.Common.{◌≡◌, ◌≢◌, ℕ, List, [], ◌∷◌, ◌++◌, refl, sym, subst}
use Rattle.std.specs.Prelude.{Bool, true, Option, Some, None, false}
use Rattle.core_views.specs.declared.cache.Translation.{Translation}
use Rattle.core_views.specs.declared.kind.Kind.{Kind}
use Rattle.core_views.specs.declared.place.AccessPlace.{AccessPlace}
use Rattle.core_views.specs.declared.place.AccessPlace.TheVariants as access
use Rattle.core_views.specs.declared.place.FaultEnd.TheVariants.{Installed, Mmio, HostFault, Starved, Fixed, Retry, NotFast}
use Rattle.core_views.specs.declared.place.FaultNext.{FaultNext}
use Rattle.core_views.specs.declared.place.FaultNext.TheVariants as next_of
use Rattle.core_views.specs.declared.place.FaultPlace.{FaultPlace}
use Rattle.core_views.specs.declared.place.FaultPlace.TheVariants.{Begin, FastBegin}
use Rattle.core_views.specs.declared.place.Leaving.TheVariants as leaving
use Rattle.core_views.specs.declared.place.Place.{Place}
use Rattle.core_views.specs.declared.place.Place.TheVariants as place
use Rattle.core_views.specs.declared.sizes.Sizes.{Sizes}
use Rattle.core_views.specs.declared.topics.Topics.{Topics}
use Rattle.core_views.specs.declared.trace.Command.{Command}
use Rattle.core_views.specs.declared.trace.Command.TheVariants.{Access}
use Rattle.core_views.specs.declared.trace.Op.{Op}
use Rattle.core_views.specs.Held.{Held}
use Rattle.core_views.specs.SlotSets.{MemorySlots}
use Rattle.core_views.specs.Slots.{is_write}
use Rattle.spte_words.specs.declared.spte_kind.SpteKind.{SpteKind}
use Rattle.spte_words.specs.declared.spte_kind.SpteKind.TheVariants as entry_kind
use Rattle.spte_words.specs.Entries.{kind_of}
use Rattle.mmu_core.proofs.lines.Forms.{other_knows}
use Rattle.mmu_core.specs.forms.access.AccessSteps.{access_note, access_outcome, behind_fault, pause_next, stay_next}
use Rattle.mmu_core.specs.forms.access.Cached.{first_usable}
use Rattle.mmu_core.specs.machine.Enabled.{IsNext, mmu}
use Rattle.mmu_core.specs.forms.access.FaultKnows.{FaultKnows}
use Rattle.mmu_core.specs.forms.access.FaultSteps.{allows_access, fault_next, fault_part}
use Rattle.mmu_core.specs.lines.Forms.{KnowsPart, first_place, outcome_at}
use Rattle.mmu_core.specs.invariant.Laws.{IsSound}
use Rattle.mmu_core.specs.machine.Machine.{Legal, May, Step, World, answered, effect, hand_in, run}
use Rattle.part_steps.specs.PartTopics.{part_topics}
use Rattle.mmu_core.specs.machine.Outcomes.{place_after}
use Rattle.part_steps.specs.TopicSteps.{topics_after}
use Rattle.mmu_laws.proofs.causes.EachLine.{IsStepAt, LineSights, LinesSee, each_line, step_there}
use Rattle.mmu_laws.proofs.causes.MadeSteps.{Makes, made_topics, own_sizes}

-- What faults have seen: of the actor, the place of its fault, the guest frame, what the actor holds, the steps so far and the world after them.
abbrev pub Sights : Type 1
Sights = ℕ → FaultPlace → ℕ → Topics → List (Step Kind) → World Held → Type 0

-- and after a step of the fault
abbrev pub NextIs : Sights → ℕ → FaultNext → ℕ → Topics → List (Step Kind) → World Held → Type 0
NextIs Saw actor (next_of.Goes p) gfn t ss u = Saw actor p gfn t ss u
NextIs Saw actor (next_of.Ends e) gfn t ss u = Unit {0}

-- A fault that begins has seen it; after each own step it has seen it; and no other actor's step takes it away.
pub record AreSeen (z : Sizes) (w : World Held) (Saw : Sights) : Type 0 where
  pub begins : (actor gfn : ℕ) (t : Topics) (ss : List (Step Kind)) (u : World Held) → Saw actor Begin gfn t ss u × Saw actor FastBegin gfn t ss u
  pub own : (ss : List (Step Kind)) (s : Step Kind) → IsSound z (run mmu w ss) → May mmu (run mmu w ss) s → (p : FaultPlace) (gfn : ℕ) (write : Bool)
      → Makes (hand_in mmu (run mmu w ss) s.actor) s (fault_part p gfn (hand_in mmu (run mmu w ss) s.actor).topics)
      → FaultKnows p z gfn write (hand_in mmu (run mmu w ss) s.actor).topics
      → Saw s.actor p gfn (hand_in mmu (run mmu w ss) s.actor).topics ss (run mmu w ss)
      → NextIs Saw s.actor (fault_next p z gfn write (hand_in mmu (run mmu w ss) s.actor).topics (answered mmu (run mmu w ss) s.kind)) gfn
      (part_topics (fault_part p gfn (hand_in mmu (run mmu w ss) s.actor).topics) (hand_in mmu (run mmu w ss) s.actor).topics
      (answered mmu (run mmu w ss) s.kind)) (ss ++ s ∷ []) (effect mmu (run mmu w ss) s)
  pub others : (actor : ℕ) (p : FaultPlace) (gfn : ℕ) (t : Topics) (ss : List (Step Kind)) (s : Step Kind) → May mmu (run mmu w ss) s → s.actor ≢ actor
      → Saw actor p gfn t ss (run mmu w ss) → Saw actor p gfn t (ss ++ s ∷ []) (effect mmu (run mmu w ss) s)

-- what a line has seen at its place, if this is one of a fault
abbrev AccessSaw : Sights → ℕ → Place → ℕ → Topics → List (Step Kind) → World Held → Type 0
AccessSaw Saw actor (place.Access (access.Fault p)) gfn t ss u = Saw actor p gfn t ss u
AccessSaw Saw actor _ gfn t ss u = Unit {0}

abbrev PlaceSaw : Sights → ℕ → Command → Place → Topics → List (Step Kind) → World Held → Type 0
PlaceSaw Saw actor (Access gfn word op) p t ss u = AccessSaw Saw actor p gfn t ss u
PlaceSaw Saw actor _ p t ss u = Unit {0}

abbrev LineSaw : Sights → LineSights
LineSaw Saw actor p c t ss u = PlaceSaw Saw actor c p t ss u

module _ (z : Sizes) (w : World Held) (Saw : Sights) (A : AreSeen z w Saw) (ss : List (Step Kind)) (s : Step Kind) (G : IsSound z (run mmu w ss))
    (may : May mmu (run mmu w ss) s) where
  abbrev u : World Held
  u = run mmu w ss

  abbrev h : Held
  h = hand_in mmu u s.actor

  abbrev v : ℕ
  v = answered mmu u s.kind

  abbrev behind : Topics
  behind = topics_after h.state.sizes s.kind h.topics v

  -- what the line has seen after its step
  abbrev SawNow : Place → Command → Topics → Type 0
  SawNow p command t = LineSaw Saw s.actor p command t (ss ++ s ∷ []) (effect mmu u s)

  same : h.state.sizes ≡ z
  same = own_sizes z u s G may

  over_saw : (n : FaultNext) (gfn word : ℕ) (op : Op) (t : Topics) → NextIs Saw s.actor n gfn t (ss ++ s ∷ []) (effect mmu u s)
      → SawNow (place_after (behind_fault n)) (Access gfn word op) t
  over_saw (next_of.Goes p) gfn word op t S = S
  over_saw (next_of.Ends Installed) gfn word op t S = tt
  over_saw (next_of.Ends Mmio) gfn word op t S = tt
  over_saw (next_of.Ends HostFault) gfn word op t S = tt
  over_saw (next_of.Ends Starved) gfn word op t S = tt
  over_saw (next_of.Ends (Fixed marked)) gfn word op t S = tt
  over_saw (next_of.Ends (NotFast seen)) gfn word op t S = (A.begins s.actor gfn t (ss ++ s ∷ []) (effect mmu u s)).0
  over_saw (next_of.Ends (Retry fast cause)) gfn word op t S = tt

  fault_saw : (p : FaultPlace) (gfn word : ℕ) (op : Op) → IsStepAt h s (place.Access (access.Fault p)) (Access gfn word op) → Saw s.actor p gfn h.topics ss u
      → SawNow (place_after (behind_fault (fault_next p h.state.sizes gfn (is_write op) h.topics v))) (Access gfn word op) behind
  fault_saw p gfn word op K S =
      over_saw (fault_next p h.state.sizes gfn (is_write op) h.topics v) gfn word op behind
      (subst (λ (t : Topics). NextIs Saw s.actor (fault_next p h.state.sizes gfn (is_write op) h.topics v) gfn t (ss ++ s ∷ []) (effect mmu u s))
      (sym (made_topics h s v (fault_part p gfn h.topics) made))
      (subst (λ y. NextIs Saw s.actor (fault_next p y gfn (is_write op) h.topics v) gfn (part_topics (fault_part p gfn h.topics) h.topics v)
      (ss ++ s ∷ []) (effect mmu u s)) (sym same)
      (A.own ss s G may p gfn (is_write op) made (subst (λ y. FaultKnows p y gfn (is_write op) h.topics) same K.knows) S)))
    where
      made : Makes h s (fault_part p gfn h.topics)
      made = record { note = access_note (access.Fault p); is = K.is; needs = K.rests }

  -- ---- no other place has anything to have seen

  pause_saw : (again : Bool) (f : Option Translation) (gfn word : ℕ) (op : Op) (t : Topics) → SawNow (place.Access (pause_next again f)) (Access gfn word op) t
  pause_saw again None gfn word op t = tt
  pause_saw again (Some x) gfn word op t = tt

  stay_saw : (again : Bool) (k : SpteKind) (allowed : Bool) (gfn word : ℕ) (op : Op) (t : Topics)
      → SawNow (place.Access (stay_next again k allowed)) (Access gfn word op) t
  stay_saw again (entry_kind.Table page) allowed gfn word op t = tt
  stay_saw again entry_kind.Leaf true gfn word op t = tt
  stay_saw again _ _ gfn word op t = tt

  access_saw : (p : AccessPlace) (gfn word : ℕ) (op : Op) → IsStepAt h s (place.Access p) (Access gfn word op)
      → LineSaw Saw s.actor (place.Access p) (Access gfn word op) h.topics ss u
      → SawNow (place_after (access_outcome p h gfn op v)) (Access gfn word op) behind
  access_saw (access.Pause again) gfn word op K S = pause_saw again (first_usable gfn (is_write op) h.cached.items) gfn word op behind
  access_saw (access.Walk again) gfn word op K S = stay_saw again (kind_of h.topics.walk.level v) (allows_access (is_write op) v) gfn word op behind
  access_saw (access.Leave (leaving.Reached frame value)) gfn word op K S = tt
  access_saw (access.Leave (leaving.Faults true)) gfn word op K S = (A.begins s.actor gfn behind (ss ++ s ∷ []) (effect mmu u s)).1
  access_saw (access.Leave (leaving.Faults false)) gfn word op K S = (A.begins s.actor gfn behind (ss ++ s ∷ []) (effect mmu u s)).0
  access_saw (access.Fault p) gfn word op K S = fault_saw p gfn word op K S
  access_saw _ gfn word op K S = tt

  line_saw : (p : Place) (c : Command) → IsStepAt h s p c → LineSaw Saw s.actor p c h.topics ss u → SawNow (place_after (outcome_at p c h v)) c behind
  line_saw (place.Access p) (Access gfn word op) K S = access_saw p gfn word op K S
  line_saw place.Between (Access gfn word op) K S = tt
  line_saw p (Access gfn word op) K S = absurd (other_knows p gfn word op h tt tt K.knows)
  line_saw _ _ K S = tt

module _ (z : Sizes) (w : World Held) (Saw : Sights) where
  between_saw : (actor : ℕ) (c : Command) (t : Topics) (ss : List (Step Kind)) (u : World Held) → LineSaw Saw actor place.Between c t ss u
  between_saw actor (Access gfn word op) t ss u = tt
  between_saw actor _ t ss u = tt

  first_saw : (actor : ℕ) (y : Sizes) (slots : MemorySlots) (c : Command) (t : Topics) (ss : List (Step Kind)) (u : World Held)
      → LineSaw Saw actor (first_place y slots c) c t ss u
  first_saw actor y slots (Access gfn word op) t ss u = tt
  first_saw actor y slots _ t ss u = tt

  others_saw : AreSeen z w Saw → (actor : ℕ) (p : Place) (c : Command) (t : Topics) (ss : List (Step Kind)) (s : Step Kind) → May mmu (run mmu w ss) s
      → s.actor ≢ actor
      → LineSaw Saw actor p c t ss (run mmu w ss) → LineSaw Saw actor p c t (ss ++ s ∷ []) (effect mmu (run mmu w ss) s)
  others_saw A actor (place.Access (access.Fault p)) (Access gfn word op) t ss s may other S = A.others actor p gfn t ss s may other S
  others_saw A actor _ (Access gfn word op) t ss s may other S = tt
  others_saw A actor _ _ t ss s may other S = tt

  lines_see : AreSeen z w Saw → LinesSee z w (LineSaw Saw)
  lines_see A = record { between = between_saw; first = first_saw; own = λ ss s G may p c K S. line_saw z w Saw A ss s G may p c K S; others = others_saw A }

-- From every sound world in which no line of the actor is under way: wherever its fault stands after some steps, it has seen it.
pub each_fault : (z : Sizes) (w : World Held) (Saw : Sights) → AreSeen z w Saw
    → (ss : List (Step Kind)) (actor gfn word : ℕ) (op : Op) (p : FaultPlace) → IsSound z w → Legal mmu w ss
    → (hand_in mmu w actor).state.place ≡ place.Between → (hand_in mmu (run mmu w ss) actor).state.place ≡ place.Access (access.Fault p)
    → (hand_in mmu (run mmu w ss) actor).state.line.command ≡ Access gfn word op
    → Saw actor p gfn (hand_in mmu (run mmu w ss) actor).topics ss (run mmu w ss)
each_fault z w Saw A ss actor gfn word op p G legal idle stands command =
    subst (λ (q : Place). LineSaw Saw actor q (Access gfn word op) (hand_in mmu (run mmu w ss) actor).topics ss (run mmu w ss)) stands
    (subst (λ (c : Command). LineSaw Saw actor (hand_in mmu (run mmu w ss) actor).state.place c (hand_in mmu (run mmu w ss) actor).topics ss
    (run mmu w ss)) command
    (each_line z w (LineSaw Saw) (lines_see z w Saw A) ss actor G legal idle))

-- ---- the step of a fault

-- The line at a fault's place is an access.
pub record IsAccess (h : Held) : Type 0 where
  pub gfn : ℕ
  pub word : ℕ
  pub op : Op
  pub command : h.state.line.command ≡ Access gfn word op

pub is_access : (h : Held) (q : AccessPlace) → h.state.place ≡ place.Access q → KnowsPart h.state.place h.state.line.command h → IsAccess h
is_access h q stands K = by h.state.line.command refl (subst (λ (p : Place). KnowsPart p h.state.line.command h) stands K)
  where
    by : (c : Command) → h.state.line.command ≡ c → KnowsPart (place.Access q) c h → IsAccess h
    by (Access gfn word op) e K = record { gfn = gfn; word = word; op = op; command = e }
    by _ e K = absurd K

-- The next step of a line at a fault's place is the step of this place.
pub fault_makes : (h : Held) (s : Step Kind) (p : FaultPlace) (gfn word : ℕ) (op : Op) → IsNext h s.kind
    → h.state.place ≡ place.Access (access.Fault p) → h.state.line.command ≡ Access gfn word op → Makes h s (fault_part p gfn h.topics)
fault_makes h s p gfn word op N stands command =
    let S = step_there h s (place.Access (access.Fault p)) (Access gfn word op) N stands command tt in
    record { note = access_note (access.Fault p); is = S.0; needs = S.1 }
