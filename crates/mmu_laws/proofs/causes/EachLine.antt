-- What lines have seen at their places, whoever made which steps: what is so where a line begins, after its own step, and after those of others.
use Rattle.std.proofs.Common.{◌≡◌, ◌≢◌, ◌⊎◌, inl, inr, ◌<◌, ℕ, List, [], ◌∷◌, ◌++◌, refl, sym, subst, ◌∙◌}
use Rattle.std.specs.Prelude.{Bool, true, false}
use Rattle.core_views.specs.declared.kind.Kind.{Kind}
use Rattle.core_views.specs.declared.place.Place.{Place}
use Rattle.core_views.specs.declared.place.Place.TheVariants as place
use Rattle.core_views.specs.declared.sizes.Sizes.{Sizes}
use Rattle.core_views.specs.declared.topics.Topics.{Topics}
use Rattle.core_views.specs.declared.trace.Command.{Command}
use Rattle.core_views.specs.Held.{Held}
use Rattle.core_views.specs.Sizes.{actors_of}
use Rattle.core_views.specs.SlotSets.{MemorySlots}
use Rattle.mmu_core.specs.machine.Enabled.{IsNext, mmu}
use Rattle.mmu_core.specs.lines.Forms.{KnowsPart, RestsAt, first_place, outcome_at}
use Rattle.mmu_core.specs.invariant.Laws.{IsSound}
use Rattle.mmu_core.specs.invariant.LinesPart.{UnderWay}
use Rattle.mmu_core.specs.machine.Machine.{Legal, May, Step, World, answered, effect, hand_in, run}
use Rattle.mmu_core.specs.lines.Rests.{IsUnderWay}
use Rattle.mmu_core.specs.machine.Steps.{has_line, line_at, next, place_at, task_at}
use Rattle.part_steps.specs.Tasks.{kind_of_task}
use Rattle.mmu_core.specs.machine.Outcomes.{place_after}
use Rattle.part_steps.specs.TopicSteps.{topics_after}
use Rattle.mmu_core.specs.machine.View.{view}
use Rattle.mmu_laws.proofs.causes.Changes.{of_each_list}
use Rattle.mmu_core.proofs.machine.Columns.{same_or}
use Rattle.mmu_core.proofs.lines.KnowsKept.{knows_at}
use Rattle.mmu_core.proofs.machine.LineRuns.{own_hand}
use Rattle.mmu_core.proofs.held.ClaimGoes.{others_hand}
use Rattle.mmu_core.proofs.machine.Which.{has_line_is, is_next, next_of_line, next_of_part}

-- What lines have seen: of the actor, the place and the command of its line, what the actor holds, the steps so far and the world after them.
abbrev pub LineSights : Type 1
LineSights = ℕ → Place → Command → Topics → List (Step Kind) → World Held → Type 0

-- The step is the one of a line with this command at this place: the line knows what the place asks, and the hand holds what the step needs.
pub record IsStepAt (h : Held) (s : Step Kind) (p : Place) (c : Command) : Type 0 where
  pub is : s.kind ≡ kind_of_task h.state.sizes (task_at p c h)
  pub knows : KnowsPart p c h
  pub rests : RestsAt p c h

-- Between lines and where a line begins nothing is to be seen; after its own step a line has seen it; and no other actor's step takes it away.
pub record LinesSee (z : Sizes) (w : World Held) (Saw : LineSights) : Type 0 where
  pub between : (actor : ℕ) (c : Command) (t : Topics) (ss : List (Step Kind)) (u : World Held) → Saw actor place.Between c t ss u
  pub first : (actor : ℕ) (y : Sizes) (slots : MemorySlots) (c : Command) (t : Topics) (ss : List (Step Kind)) (u : World Held)
      → Saw actor (first_place y slots c) c t ss u
  pub own : (ss : List (Step Kind)) (s : Step Kind) → IsSound z (run mmu w ss) → May mmu (run mmu w ss) s → (p : Place) (c : Command)
      → IsStepAt (hand_in mmu (run mmu w ss) s.actor) s p c
      → Saw s.actor p c (hand_in mmu (run mmu w ss) s.actor).topics ss (run mmu w ss)
      → Saw s.actor (place_after (outcome_at p c (hand_in mmu (run mmu w ss) s.actor) (answered mmu (run mmu w ss) s.kind))) c
      (topics_after (hand_in mmu (run mmu w ss) s.actor).state.sizes s.kind (hand_in mmu (run mmu w ss) s.actor).topics
      (answered mmu (run mmu w ss) s.kind)) (ss ++ s ∷ []) (effect mmu (run mmu w ss) s)
  pub others : (actor : ℕ) (p : Place) (c : Command) (t : Topics) (ss : List (Step Kind)) (s : Step Kind) → May mmu (run mmu w ss) s → s.actor ≢ actor
      → Saw actor p c t ss (run mmu w ss) → Saw actor p c t (ss ++ s ∷ []) (effect mmu (run mmu w ss) s)

-- what the actor's line has seen at its place
abbrev pub HandSaw : LineSights → ℕ → List (Step Kind) → World Held → Type 0
HandSaw Saw actor ss u = Saw actor (hand_in mmu u actor).state.place (hand_in mmu u actor).state.line.command (hand_in mmu u actor).topics ss u

module _ (z : Sizes) (w : World Held) (Saw : LineSights) (L : LinesSee z w Saw) (ss : List (Step Kind)) (s : Step Kind) (G : IsSound z (run mmu w ss))
    (may : May mmu (run mmu w ss) s) where
  abbrev u : World Held
  u = run mmu w ss

  abbrev h : Held
  h = hand_in mmu u s.actor

  abbrev v : ℕ
  v = answered mmu u s.kind

  -- what the line has seen after its step
  abbrev SawNow : Place → Command → Topics → Type 0
  SawNow p c t = Saw s.actor p c t (ss ++ s ∷ []) (effect mmu u s)

  there : s.actor < actors_of z
  there = subst (λ n. s.actor < n) G.hands may.there

  -- where its step is made: at its first place, where it begins
  stood_saw : (q : Place) → Saw s.actor q h.state.line.command h.topics ss u → Saw s.actor (place_at q h) (line_at q h).command h.topics ss u
  stood_saw place.Between S = L.first s.actor h.state.sizes h.slots (line_at place.Between h).command h.topics ss u
  stood_saw _ S = S

  -- Who has no line left has none under way.
  idle_saw : (p : Place) (c : Command) (t : Topics) → has_line h ≡ false → UnderWay p h → SawNow p c t
  idle_saw place.Between c t none U = L.between s.actor c t (ss ++ s ∷ []) (effect mmu u s)
  idle_saw _ c t none U = let has = has_line_is h U.1 in absurd (cc (none, has))

  own_step : HandSaw Saw s.actor ss u → HandSaw Saw s.actor (ss ++ s ∷ []) (effect mmu u s)
  own_step S = by (has_line h) refl
    where
      to : (x : Held) → next h s.kind v ≡ x → SawNow x.state.place x.state.line.command x.topics → HandSaw Saw s.actor (ss ++ s ∷ []) (effect mmu u s)
      to x is P = subst (λ (y : Held). SawNow y.state.place y.state.line.command y.topics) (sym (own_hand u s may.there ∙ is)) P

      of_line : has_line h ≡ true → IsNext h s.kind → HandSaw Saw s.actor (ss ++ s ∷ []) (effect mmu u s)
      of_line has N =
          to _ (next_of_line h s.kind v has)
          (L.own ss s G may (place_at h.state.place h) (line_at h.state.place h).command
          (record { is = N.is; knows = knows_at z (view z u) s.actor G.holds there N.left; rests = N.rests.at }) (stood_saw h.state.place S))

      by : (b : Bool) → has_line h ≡ b → HandSaw Saw s.actor (ss ++ s ∷ []) (effect mmu u s)
      by true has = of_line has (is_next h s.kind may.enabled has)
      by false none =
          to _ (next_of_part h s.kind v none)
          (idle_saw h.state.place h.state.line.command (topics_after h.state.sizes s.kind h.topics v) none (G.holds.lines s.actor there).under)

  one_more : (actor : ℕ) → HandSaw Saw actor ss u → HandSaw Saw actor (ss ++ s ∷ []) (effect mmu u s)
  one_more actor S = by (same_or actor s.actor)
    where
      by : (actor ≡ s.actor) ⊎ (actor ≢ s.actor) → HandSaw Saw actor (ss ++ s ∷ []) (effect mmu u s)
      by (inl own) = subst (λ i. HandSaw Saw i (ss ++ s ∷ []) (effect mmu u s)) (sym own) (own_step (subst (λ i. HandSaw Saw i ss u) own S))
      by (inr apart) =
          subst (λ (x : Held). Saw actor x.state.place x.state.line.command x.topics (ss ++ s ∷ []) (effect mmu u s)) (sym (others_hand u s actor apart))
          (L.others actor (hand_in mmu u actor).state.place (hand_in mmu u actor).state.line.command (hand_in mmu u actor).topics ss s may
          (λ e. apart (sym e)) S)

-- From every sound world in which no line of the actor is under way: wherever its line stands after some steps, it has seen it.
pub each_line : (z : Sizes) (w : World Held) (Saw : LineSights) → LinesSee z w Saw → (ss : List (Step Kind)) (actor : ℕ) → IsSound z w
    → Legal mmu w ss → (hand_in mmu w actor).state.place ≡ place.Between
    → HandSaw Saw actor ss (run mmu w ss)
each_line z w Saw L ss actor G legal idle =
    of_each_list z w (HandSaw Saw actor) (λ ts s sound may S. one_more z w Saw L ts s sound may actor S) ss G legal
    (subst (λ (q : Place). Saw actor q (hand_in mmu w actor).state.line.command (hand_in mmu w actor).topics [] w) (sym idle)
    (L.between actor (hand_in mmu w actor).state.line.command (hand_in mmu w actor).topics [] w))

-- ---- the step of a line that is under way

abbrev IsStepOf : Held → Step Kind → Place → Command → Type 0
IsStepOf h s p c = (s.kind ≡ kind_of_task h.state.sizes (task_at p c h)) × RestsAt p c h

abbrev IsStepFrom : Held → Step Kind → Place → Type 0
IsStepFrom h s p = IsStepOf h s (place_at p h) (line_at p h).command

-- It is the step of the line's place.
pub step_there : (h : Held) (s : Step Kind) (q : Place) (c : Command) → IsNext h s.kind → h.state.place ≡ q → h.state.line.command ≡ c → IsUnderWay q
    → IsStepOf h s q c
step_there h s q c N stands command under = subst (IsStepOf h s q) command (by q under (subst (IsStepFrom h s) stands (N.is, N.rests.at)))
  where
    by : (p : Place) → IsUnderWay p → IsStepFrom h s p → IsStepOf h s p h.state.line.command
    by place.Between begun is = absurd begun
    by _ begun is = is
