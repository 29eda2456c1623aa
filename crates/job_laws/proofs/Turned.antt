-- The step of a turn of a line's job, in the world that the seat told before it, whatever steps led there.
use Rattle.std.proofs.Common.{◌≡◌, ◌⊎◌, inl, inr, ◌<◌, ℕ, List, [], ◌∷◌, ◌++◌, length, refl, sym, ap, ◌∙◌, subst}
use Rattle.std.specs.Prelude.{Bool, true, false, Option, Some}
use Rattle.core_views.specs.declared.answer.Answer.{Answer}
use Rattle.core_views.specs.declared.kind.Kind.{Kind}
use Rattle.core_views.specs.declared.place.AccessPlace.TheVariants.{Fault}
use Rattle.core_views.specs.declared.place.Place.{Place}
use Rattle.core_views.specs.declared.place.Place.TheVariants as place
use Rattle.core_views.specs.declared.sizes.Sizes.{Sizes}
use Rattle.core_views.specs.declared.trace.Command.{Command}
use Rattle.core_views.specs.declared.trace.Command.TheVariants.{Access}
use Rattle.core_views.specs.declared.trace.Line.{Line}
use Rattle.core_views.specs.Held.{Held}
use Rattle.core_views.specs.Sizes.{actors_of, index_of}
use Rattle.core_views.specs.Traces.{IsCommandFor}
use Rattle.part_steps.specs.TopicSteps.{topics_after}
use Rattle.mmu_core.specs.declared.outcome.Outcome.{Outcome}
use Rattle.mmu_core.specs.declared.outcome.Outcome.TheVariants.{Ends, Goes}
use Rattle.mmu_core.specs.invariant.Laws.{IsSound}
use Rattle.mmu_core.specs.lines.Forms.{KnowsPart, outcome_at, part_at}
use Rattle.mmu_core.specs.machine.Enabled.{IsNext, mmu}
use Rattle.mmu_core.specs.machine.Machine.{Legal, Step, World, answered, hand_in, run}
use Rattle.mmu_core.specs.machine.Steps.{next, place_at}
use Rattle.mmu_core.specs.machine.Turns.{line_of}
use Rattle.mmu_core.specs.machine.View.{view}
use Rattle.mmu_core.specs.machine.Worlds.{IsStart}
use Rattle.mmu_core.proofs.lines.KnowsKept.{knows_at}
use Rattle.mmu_core.proofs.lines.StepTopics.{topics_of_step}
use Rattle.mmu_core.proofs.machine.LineRuns.{legal_one_more, own_hand, run_one_more}
use Rattle.mmu_core.proofs.machine.NextTopics.{next_topics}
use Rattle.mmu_core.proofs.machine.PartStepping.{behind_part}
use Rattle.mmu_core.proofs.machine.Stepping.{IsStep}
use Rattle.mmu_core.proofs.machine.Which.{has_line_is, is_next}
use Rattle.mmu_core.proofs.machine.Worlds.{Takes, TakesPart, good_run, takes}
use Rattle.mmu_core.proofs.start.Starts.{start_good}
use Rattle.step_seats.specs.LineTurns.{MakesLine, line_turn, turn_of}
use Rattle.step_seats.specs.Moves.{step_by}
use Rattle.step_seats.specs.Seats.{Seat}
use Rattle.step_seats.specs.declared.turn.Turn.TheVariants.{Done}
use Rattle.step_seats.specs.Where.{IsMadeIn, OfWorld}

-- Of a line that is no access the turn answers what its step comes to.
abbrev pub is_access : Command → Bool
is_access (Access gfn word op) = true
is_access _ = false

turn_is : (p : Place) (command : Command) (h : Held) (v : ℕ) → is_access command ≡ false → line_turn p command h v ≡ turn_of (outcome_at p command h v)
turn_is (place.Access (Fault q)) (Access gfn word op) h v other = absurd (cc other)
turn_is (place.Access (Fault q)) _ h v other = refl
turn_is _ command h v other = refl

ends_so : (o : Outcome) (answer : Answer) → Done answer ≡ turn_of o → o ≡ Ends answer
ends_so (Goes p) answer e = absurd (cc e)
ends_so (Ends other) answer e = let same : answer ≡ other = cc e in ap Ends (sym same)

-- Where the turn answers the line, so does its step.
pub ends_of : (p : Place) (command : Command) (h : Held) (v : ℕ) (answer : Answer) → is_access command ≡ false → Done answer ≡ line_turn p command h v
    → outcome_at p command h v ≡ Ends answer
ends_of p command h v answer other told = ends_so (outcome_at p command h v) answer (told ∙ turn_is p command h v other)

-- ---- the step, in its world

module _ (z : Sizes) (lines : List Line) (start : World Held) (ss : List (Step Kind)) (before after : Seat) (is_start : IsStart z lines start)
    (legal : Legal mmu start ss) (world : before.tells.world ≡ Some (run mmu start ss)) (left : length before.hand.answers < length before.hand.lines)
    (M : MakesLine before after) where
  abbrev h : Held
  h = before.hand

  abbrev s : Step Kind
  s = step_by before.actor M.kind

  pub made : IsMadeIn M.kind before.actor h after.hand (run mmu start ss) × (answered mmu (run mmu start ss) M.kind ≡ M.found)
  made =
      subst (λ (o : Option (World Held)). OfWorld o (λ w. IsMadeIn M.kind before.actor h after.hand w × (answered mmu w M.kind ≡ M.found))) world
      M.answers

  pub sound : IsSound z (run mmu start ss)
  sound = good_run z start ss (start_good z lines start is_start) legal

  pub there : before.actor < actors_of z
  there = subst (λ n. before.actor < n) sound.hands made.0.has.there

  left_there : length (hand_in mmu (run mmu start ss) before.actor).answers < length (hand_in mmu (run mmu start ss) before.actor).lines
  left_there = subst (λ (g : Held). length g.answers < length g.lines) (sym made.0.has.is) left

  step_is : IsStep z (view z (run mmu start ss)) before.actor (line_of (hand_in mmu (run mmu start ss) before.actor))
      (line_of (hand_in mmu (run mmu start ss) before.actor)).command
      (place_at (hand_in mmu (run mmu start ss) before.actor).state.place (hand_in mmu (run mmu start ss) before.actor))
  step_is = by (takes z (run mmu start ss) s sound made.0.may)
    where
      by : Takes z (run mmu start ss) s (hand_in mmu (run mmu start ss) before.actor)
          ⊎ TakesPart z (run mmu start ss) s (hand_in mmu (run mmu start ss) before.actor)
          → IsStep z (view z (run mmu start ss)) before.actor (line_of (hand_in mmu (run mmu start ss) before.actor))
          (line_of (hand_in mmu (run mmu start ss) before.actor)).command
          (place_at (hand_in mmu (run mmu start ss) before.actor).state.place (hand_in mmu (run mmu start ss) before.actor))
      by (inl T) = T.is_step
      by (inr T) =
          absurd (let none = T.none_left in let has = has_line_is (hand_in mmu (run mmu start ss) before.actor) left_there in cc (none, has))

  pub own : (line_of h).actor ≡ h.state.actor
  own = subst (λ (g : Held). (line_of g).actor ≡ g.state.actor) made.0.has.is step_is.own

  pub index : index_of z h.state.actor ≡ before.actor
  index = subst (λ (g : Held). index_of z g.state.actor ≡ before.actor) made.0.has.is (sound.holds.lines before.actor there).index

  pub allowed : IsCommandFor z (line_of h).actor (line_of h).command
  allowed = subst (λ (g : Held). IsCommandFor z (line_of g).actor (line_of g).command) made.0.has.is step_is.allowed

  pub same_sizes : h.state.sizes ≡ z
  same_sizes = ap (λ (g : Held). g.state.sizes) (sym made.0.has.is) ∙ (sound.holds.lines before.actor there).sizes

  pub knows : KnowsPart (place_at h.state.place h) (line_of h).command h
  knows =
      subst (λ (g : Held). KnowsPart (place_at g.state.place g) (line_of g).command g) made.0.has.is
      (knows_at z (view z (run mmu start ss)) before.actor sound.holds there left_there)

  -- The hand after it holds what the line's next step leaves.
  pub topics : after.hand.topics ≡ behind_part (part_at (place_at h.state.place h) (line_of h).command h) h.topics M.found
  topics =
      let N : IsNext h M.kind = is_next h M.kind M.enabled (has_line_is h left) in
      ap (λ (g : Held). g.topics) M.hand ∙ next_topics h M.kind M.found ∙ ap (λ (k : Kind). topics_after h.state.sizes k h.topics M.found) N.is
      ∙ topics_of_step (place_at h.state.place h) (line_of h).command h M.found N.rests.at

  -- The world after it is sound, and has the hand after it.
  pub sound_after : IsSound z (run mmu start (ss ++ s ∷ []))
  sound_after = good_run z start (ss ++ s ∷ []) (start_good z lines start is_start) (legal_one_more start ss s legal made.0.may)

  pub hand_after : hand_in mmu (run mmu start (ss ++ s ∷ [])) before.actor ≡ after.hand
  hand_after =
      ap (λ (w : World Held). hand_in mmu w before.actor) (run_one_more start ss s) ∙ own_hand (run mmu start ss) s made.0.has.there
      ∙ ap (λ (g : Held). next g M.kind (answered mmu (run mmu start ss) M.kind)) made.0.has.is ∙ sym made.0.hand
