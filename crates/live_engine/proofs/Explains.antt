-- One list of steps explains all words and hands that workers leave: the lines above `go`, and what came after the first split.
use Rattle.std.proofs.Common.{◌≡◌, ◌<◌, ◌∙◌, ℕ, zero, suc, List, [], ◌∷◌, ◌++◌, Option, Some, None, true, false}
use Rattle.std.proofs.Common.{append_assoc, ap, arith, length, map, refl, subst, sym}
use Rattle.std.proofs.Math.ListN.{length-map}
use Rattle.std.specs.Prelude.{Bool, if◌then◌else◌, take}
use Rattle.std.proofs.lemmas.List.{append-nil}
use Rattle.core_views.specs.declared.actor.Actor.{Actor}
use Rattle.core_views.specs.declared.kind.Kind.{Kind}
use Rattle.core_views.specs.declared.place.Place.{Place}
use Rattle.core_views.specs.declared.place.Place.TheVariants.{Between}
use Rattle.core_views.specs.declared.sizes.Sizes.{Sizes}
use Rattle.core_views.specs.declared.trace.Trace.{Trace}
use Rattle.core_views.specs.Events.{after_all}
use Rattle.core_views.specs.Flat.{Idle, LineUnderWay, first_flat}
use Rattle.core_views.specs.Held.{Handful, Held}
use Rattle.core_views.specs.Lawful.{IsLawful}
use Rattle.core_views.specs.Sizes.{actor_at, actors_of, sizes_of}
use Rattle.core_theorem.proofs.DelayCauses.{delays_have_causes}
use Rattle.mmu_core.specs.machine.Enabled.{mmu}
use Rattle.mmu_core.specs.machine.Machine.{Legal, Step, World, hand_in, run}
use Rattle.mmu_core.specs.machine.Steps.{has_line}
use Rattle.mmu_core.specs.invariant.LinesPart.{UnderWay}
use Rattle.mmu_core.specs.machine.View.{word_in}
use Rattle.mmu_core.specs.machine.Worlds.{history}
use Rattle.mmu_core.proofs.machine.Extend.{legal-append, run-append}
use Rattle.mmu_core.proofs.machine.Which.{has_line_is}
use Rattle.mmu_core.proofs.machine.Worlds.{good_run}
use Rattle.mmu_core.proofs.start.Starts.{start_good}
use Rattle.mmu_laws.specs.flat.FlatInvariant.{UnderIs}
use Rattle.mmu_laws.specs.flat.Histories.{answers_by}
use Rattle.spte_words.specs.declared.area.Area.TheVariants as area
use Rattle.word_laws.specs.Accesses.{Told, accesses_by, open_at, told as told_of, told_in}
use Rattle.word_laws.proofs.AccessCounts.{accesses_are_answered}
use Rattle.mmu_laws.proofs.causes.StarvedScan.{legal_parts}
use Rattle.mmu_laws.proofs.flat.EveryAnswer.{answers_are_told, ends_whole, start_follows}
use Rattle.mmu_laws.proofs.flat.EveryHistory.{every_flat, every_history}
use Rattle.step_seats.specs.Moves.{handful_in, world_of}
use Rattle.step_seats.proofs.Worlds.{core_at}
use Rattle.table_seats.specs.Boards.{BoardView, Explained, begun}
use Rattle.table_seats.specs.Passes.{PassView}
use Rattle.table_seats.specs.Rule.{Holds}
use Rattle.turn_loops.specs.Replays.{RunsLines}
use Rattle.turn_loops.specs.Weaves.{lines_above}
use Rattle.turn_loops.proofs.BeforeSteps.{few_answers, no_line_all}
use Rattle.weave_engine.proofs.StarvedScans.{starved_scan}
use Rattle.live_workers.specs.Crews.{IsCollected}
use Rattle.live_engine.specs.Lives.{DelaysAreCaused, Lives}

holds_own : (hands : List Handful) (i : ℕ) → i < length hands → Holds (map Some hands) i (handful_in hands i)
holds_own [] i lt = absurd (omega (arith, lt))
holds_own (h ∷ hs) zero lt = refl
holds_own (h ∷ hs) (suc i) lt = holds_own hs i (omega (arith, lt))

-- A hand with no line left has none under way.
between_of : (p : Place) (h : Held) → UnderWay p h → has_line h ≡ false → p ≡ Between
between_of Between h u none = refl
between_of _ h u none = let has = has_line_is h u.1 in absurd (cc (has, none))

past_of : (alone : Bool) (past other : List (Step Kind)) → (if alone then None else Some past) ≡ Some other → past ≡ other
past_of true past other e = absurd (cc e)
past_of false past other e = cc e

module _ (trace : Trace) (b : BoardView) (t : PassView) (C : IsCollected trace b t) (words : List ℕ) (hands : List Handful) (same : map Some hands ≡ t.hands)
    (E : Explained (begun b.start) t.knows.past words hands) where
  abbrev z : Sizes
  z = sizes_of trace.header

  abbrev closing : World Held
  closing = world_of words hands

  abbrev start : World Held
  start = C.begun.start

  abbrev above : RunsLines z start (take (lines_above trace.go) trace.lines) (run mmu (begun b.start) C.past)
  above = C.begun.alone

  abbrev steps : List (Step Kind)
  steps = above.steps ++ E.more

  past_is : t.knows.past ≡ C.past
  past_is = past_of t.knows.alone t.knows.past C.past C.split

  legal : Legal mmu start steps
  legal =
      legal-append mmu start above.steps E.more above.legal
      (subst (λ (w : World Held). Legal mmu w E.more) (sym above.ends)
      (legal_parts (begun b.start) C.past E.more (subst (λ (ss : List (Step Kind)). Legal mmu (begun b.start) (ss ++ E.more)) past_is E.legal)).1)

  ends : run mmu start steps ≡ closing
  ends =
      run-append mmu start above.steps E.more
      ∙ (ap (λ (w : World Held). run mmu w E.more) above.ends
      ∙ (sym (run-append mmu (begun b.start) C.past E.more)
      ∙ (ap (λ (ss : List (Step Kind)). run mmu (begun b.start) (ss ++ E.more)) (sym past_is) ∙ E.ends)))

  -- No actor has a line left.
  none_left : (i : ℕ) → i < actors_of z → has_line (hand_in mmu (run mmu start steps) i) ≡ false
  none_left i lt =
      let wide : length t.hands ≡ length hands = ap (λ (l : List (Option Handful)). length l) (sym same) ∙ length-map hands Some in
      let there : i < length hands = omega (arith, lt, wide, C.count) in
      let done = C.done i (handful_in hands i) (subst (λ (l : List (Option Handful)). Holds l i (handful_in hands i)) same (holds_own hands i there)) in
      subst (λ (w : World Held). has_line (hand_in mmu w i) ≡ false) (sym ends)
      (subst (λ (h : Held). has_line h ≡ false) (core_at words hands i) done)

  lawful : IsLawful z first_flat (history start steps)
  lawful = every_history z trace.lines start steps C.begun.is_start legal

  hands_told : (i : ℕ) → i < actors_of z → (hand_in mmu closing i).answers ≡ answers_by (actor_at z i) (history start steps)
  hands_told i lt = ap (λ (w : World Held). (hand_in mmu w i).answers) (sym ends) ∙ answers_are_told z trace.lines start steps i C.begun.is_start legal lt

  -- No line is under way at the end.
  idle : (i : ℕ) → i < actors_of z → ((after_all (history start steps) first_flat).under (actor_at z i)).stage ≡ Idle
  idle i lt =
      let sound = good_run z start steps (start_good z trace.lines start C.begun.is_start) legal in
      let h : Held = hand_in mmu (run mmu start steps) i in
      let between : h.state.place ≡ Between = between_of h.state.place h (sound.holds.lines i lt).under (none_left i lt) in
      let whose : h.state.actor ≡ actor_at z i = (start_follows z trace.lines start steps i C.begun.is_start legal lt).actor in
      let F = every_flat z trace.lines start steps C.begun.is_start legal in
      subst (λ (a : Actor). ((after_all (history start steps) first_flat).under a).stage ≡ Idle) whose
      (subst (λ (p : Place). UnderIs z (word_in z (run mmu start steps) area.Pool) p h.state.line.command h
      ((after_all (history start steps) first_flat).under h.state.actor)) between (F.under i lt))

  accesses_told : (i : ℕ) → i < actors_of z
      → map told_of (accesses_by (actor_at z i) (history start steps) first_flat) ≡ told_in (hand_in mmu closing i).answers
  accesses_told i lt =
      let u : LineUnderWay = (after_all (history start steps) first_flat).under (actor_at z i) in
      accesses_are_answered z first_flat (history start steps) (actor_at z i) lawful refl
      ∙ (ap (λ (more : List Told). told_in (answers_by (actor_at z i) (history start steps)) ++ more) (ap (open_at u.line.number) (idle i lt))
      ∙ (append-nil (told_in (answers_by (actor_at z i) (history start steps))) ∙ ap told_in (sym (hands_told i lt))))

  delays_caused : DelaysAreCaused z start steps
  delays_caused earlier own later s are idle left delay =
      let regroup : (earlier ++ (own ++ s ∷ [])) ++ later ≡ earlier ++ (own ++ s ∷ later) =
      append_assoc earlier (own ++ s ∷ []) later ∙ ap (λ (ss : List (Step Kind)). earlier ++ ss) (append_assoc own (s ∷ []) later) in
      delays_have_causes z trace.lines start earlier own s (record {
        start = C.begun.is_start;
        legal = (legal_parts start (earlier ++ (own ++ s ∷ [])) later (subst (Legal mmu start) (are ∙ sym regroup) legal)).0;
      }) idle left delay

  pub explains : Lives trace closing
  explains = record {
    start = start;
    is_start = C.begun.is_start;
    at_go = run mmu (begun b.start) C.past;
    alone = above;
    beside = E.more;
    legal = legal;
    ends = ends;
    lawful = lawful;
    whole = ends_whole z trace.lines start steps C.begun.is_start legal (λ i lt.
        no_line_all (hand_in mmu (run mmu start steps) i) (few_answers z trace.lines start steps i C.begun.is_start legal lt) (none_left i lt));
    hands = hands_told;
    accesses = accesses_told;
    starved = starved_scan z trace.lines start steps C.begun.is_start legal;
    delays = delays_caused;
  }
