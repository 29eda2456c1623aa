-- Lines that run one after another, each alone, by computation: so many turns of each.
use Rattle.std.proofs.Common.{◌≡◌, ◌<◌, ◌+◌, ℕ, List, [], ◌∷◌, ◌++◌, get_or, length, refl, sym, subst, ap, ◌∙◌, arith}
use Rattle.std.proofs.lemmas.List.{append-nil, append_assoc}
use Rattle.std.proofs.lemmas.Option.{slice_get_within}
use Rattle.std.specs.Prelude.{Bool, true, ◌&&◌, nat_lt}
use Rattle.core_views.specs.declared.answer.Answer.{Answer}
use Rattle.core_views.specs.declared.event.Event.{Event}
use Rattle.core_views.specs.declared.sizes.Sizes.{Sizes}
use Rattle.core_views.specs.declared.trace.Line.{Line}
use Rattle.core_views.specs.Flat.{no_line}
use Rattle.core_views.specs.Held.{Held}
use Rattle.core_views.specs.Sizes.{index_of}
use Rattle.core_views.specs.Text.{line_text}
use Rattle.mmu_core.specs.invariant.Laws.{IsSound}
use Rattle.mmu_core.specs.machine.Enabled.{mmu}
use Rattle.mmu_core.specs.machine.Machine.{World, hand_in, run}
use Rattle.mmu_core.specs.machine.View.{View, view}
use Rattle.mmu_core.specs.machine.Worlds.{IsStart, history}
use Rattle.mmu_core.proofs.machine.LineRuns.{history_append}
use Rattle.mmu_laws.specs.steps.ExampleRaces.{in_turn}
use Rattle.mmu_laws.specs.steps.ExampleSteps.{turns_of}
use Rattle.mmu_laws.proofs.alone.AloneRuns.{begins_alone}
use Rattle.mmu_laws.proofs.steps.FoldedRuns.{steps_of, turns}
use Rattle.mmu_laws.proofs.steps.ViewRuns.{below, both}
use Rattle.turn_loops.specs.Replays.{RanOn}
use Rattle.turn_loops.specs.Turning.{EndsWithAnswer}
use Rattle.turn_loops.proofs.LinesRun.{IsBetween, between_at_start, between_more, none_ran, sound_between}
use Rattle.turn_loops.proofs.ReadyLines.{is_ready}
use Rattle.turn_loops.proofs.TurnsAlone.{NextAlone}
use Rattle.weave_laws.proofs.LinesGoThrough.{goes_through}
use Rattle.weave_laws.proofs.OrderRuns.{turns_both}
use Rattle.weave_laws.proofs.SameLines.{one_line, same_line}
use Rattle.weave_laws.proofs.ComputedLines.{LineMade, line_fits, line_lead, line_made, line_order, line_tale}

-- The first lines of a trace have run in turns of this order, which lead to these words and hands, and tell this.
pub record AboveRun (z : Sizes) (lines : List Line) (start : World Held) (i : ℕ) (order : List ℕ) (v : View) (events : List Event) : Type 0 where
  pub world : World Held
  pub printed : List ℕ
  pub between : IsBetween z lines i start world printed
  pub steps_are : between.ran.steps ≡ turns_of z start order
  pub sees : ◌≡◌ {A = View} (view z world) v
  pub tells : history start between.ran.steps ≡ events

module _ (z : Sizes) (lines : List Line) where
  -- whose line it is
  abbrev whose : ℕ → ℕ
  whose i = index_of z (get_or lines i no_line).actor

  -- The turns of the lines from this one on, so many of each and one more; where they lead, what they tell, and that they are all that each line has.
  abbrev pub above_order : List ℕ → ℕ → List ℕ
  above_order [] i = []
  above_order (n ∷ ns) i = line_order (whose i) n ++ above_order ns (i + 1)

  abbrev pub above_lead : List ℕ → ℕ → View → View
  above_lead [] i v = v
  above_lead (n ∷ ns) i v = above_lead ns (i + 1) (line_lead (whose i) n v)

  abbrev pub above_tale : List ℕ → ℕ → View → List Event
  above_tale [] i v = []
  above_tale (n ∷ ns) i v = line_tale (whose i) n v ++ above_tale ns (i + 1) (line_lead (whose i) n v)

  abbrev pub above_fits : List ℕ → ℕ → View → Bool
  above_fits [] i v = true
  above_fits (n ∷ ns) i v = (nat_lt i (length lines) && line_fits z (whose i) n v) && above_fits ns (i + 1) (line_lead (whose i) n v)

module _ (z : Sizes) (lines : List Line) (start : World Held) (is_start : IsStart z lines start) where
  pub above_none : AboveRun z lines start 0 [] (view z start) []
  above_none =
      let none = none_ran z lines start is_start in
      record {
        world = start;
        printed = [];
        between = between_at_start z lines start is_start;
        steps_are = none;
        sees = refl;
        tells = ap (history start) none;
      }

  above_more : (i n : ℕ) (order : List ℕ) (v : View) (events : List Event) → AboveRun z lines start i order v events → i < length lines
      → line_fits z (whose z lines i) n v ≡ true
      → AboveRun z lines start (i + 1) (order ++ line_order (whose z lines i) n) (line_lead (whose z lines i) n v) (events ++ line_tale (whose z lines i) n v)
  above_more i n order v events A lt fits = record {
    world = ran.1;
    printed = A.printed ++ line_text line.number line.actor ran.0;
    between = more.0;
    steps_are = more.2 ∙ (λ k. A.steps_are k ++ turns_are_those k) ∙ sym (turns_both z start order own);
    sees = ap (view z) (sym ran.2.ends ∙ ap (run mmu w) same) ∙ L.leads ∙ ap (line_lead a n) A.sees;
    tells = ap (history start) more.2 ∙ history_append start A.between.ran.steps ran.2.steps
        ∙ (λ k. A.tells k ++ history (A.between.ran.ends k) (same k))
        ∙ ap (λ (es : List Event). events ++ es) (L.told ∙ ap (line_tale a n) A.sees);
  }
    where
      w : World Held
      w = A.world

      a : ℕ
      a = whose z lines i

      line : Line
      line = get_or lines i no_line

      own : List ℕ
      own = line_order a n

      G : IsSound z w
      G = sound_between z lines i start w A.printed is_start A.between

      L : LineMade z w a n
      L = line_made z w a n G (subst (λ (x : View). line_fits z a n x ≡ true) (sym A.sees) fits)

      N : NextAlone z line a w
      N =
          let R = is_ready z lines i w lt (is_start.allowed i no_line lt) A.between.behind in
          record {
            idle = R.idle;
            next = R.next;
            own = R.own;
            alone = (begins_alone z w a G (λ j there apart. A.between.rest j there) R.there
                (slice_get_within (hand_in mmu w a).lines (length (hand_in mmu w a).answers) line R.next) R.idle).0;
            reached = record {
              sizes = z;
              lines = lines;
              start = start;
              is_start = is_start;
              leads = record { steps = A.between.ran.steps; legal = A.between.ran.legal; ends = A.between.ran.ends };
            };
          }

      ran : (answer : Answer) × (u : World Held) × RanOn z line answer a w u
      ran = goes_through z line a w N

      same : ran.2.steps ≡ turns_of z w own
      same = same_line a w ran.2.steps (turns_of z w own) (one_line z a line ran.0 ran.2.steps w ran.2.alone) L.one

      more : (more : IsBetween z lines (i + 1) start ran.1 (A.printed ++ line_text line.number line.actor ran.0)) × EndsWithAnswer start more.ran.steps
          × (more.ran.steps ≡ A.between.ran.steps ++ ran.2.steps)
      more = between_more z lines i start w ran.1 A.printed ran.0 lt (is_start.allowed i no_line lt) ran.2 A.between

      from : run mmu start (turns_of z start order) ≡ w
      from = ap (run mmu start) (sym A.steps_are) ∙ A.between.ran.ends

      turns_are_those : ran.2.steps ≡ turns_of z (run mmu start (turns_of z start order)) own
      turns_are_those = same ∙ ap (λ (x : World Held). turns_of z x own) (sym from)

  pub above_all : (ns : List ℕ) (i : ℕ) (order : List ℕ) (v : View) (events : List Event) → AboveRun z lines start i order v events
      → above_fits z lines ns i v ≡ true → (j : ℕ) × (j ≡ i + length ns) × AboveRun z lines start j (order ++ above_order z lines ns i)
      (above_lead z lines ns i v) (events ++ above_tale z lines ns i v)
  above_all [] i order v events A fits = (
    i,
    omega arith,
    subst (λ (o : List ℕ). AboveRun z lines start i o v (events ++ [])) (sym (append-nil order))
        (subst (λ (es : List Event). AboveRun z lines start i order v es) (sym (append-nil events)) A),
  )
  above_all (n ∷ ns) i order v events A fits =
      let a : ℕ = whose z lines i in
      let next : View = line_lead a n v in
      let halves = both (nat_lt i (length lines) && line_fits z a n v) (above_fits z lines ns (i + 1) next) fits in
      let here = both (nat_lt i (length lines)) (line_fits z a n v) halves.0 in
      let rest =
      above_all ns (i + 1) (order ++ line_order a n) next (events ++ line_tale a n v)
      (above_more i n order v events A (below i (length lines) here.0) here.1) halves.1 in (
        rest.0,
        let e = rest.1 in omega (arith, e),
        subst (λ (o : List ℕ). AboveRun z lines start rest.0 o (above_lead z lines ns (i + 1) next) (events ++ (line_tale a n v
            ++ above_tale z lines ns (i + 1) next))) (append_assoc order (line_order a n) (above_order z lines ns (i + 1)))
            (subst (λ (es : List Event). AboveRun z lines start rest.0 ((order ++ line_order a n) ++ above_order z lines ns (i + 1))
            (above_lead z lines ns (i + 1) next) es) (append_assoc events (line_tale a n v) (above_tale z lines ns (i + 1) next)) rest.2),
      )
