-- How the replay of a trace is printed, from the lines that ran: lawful, whole, and flat where the pool is large enough.
use Rattle.std.proofs.Common.{◌≡◌, ◌≢◌, ◌<◌, ◌≤◌, inl, inr, ℕ, List, [], ◌∷◌, ◌++◌, Result, Ok, Err, length, take, refl, sym, ap, subst, ◌∙◌}
use Rattle.std.proofs.Math.Seq.{take-length}
use Rattle.std.specs.declared.option.Option.{Option}
use Rattle.std.specs.Prelude.{All, IfOk, OnErr, Some, None}
use Rattle.std.proofs.lemmas.List.Elements.{All-take}
use Rattle.core_views.specs.declared.answer.Answer.{Answer}
use Rattle.core_views.specs.declared.answer.Answer.TheVariants.{Starved}
use Rattle.core_views.specs.declared.event.Event.{Event}
use Rattle.core_views.specs.declared.kind.Kind.{Kind}
use Rattle.core_views.specs.declared.no_memory.NoMemory.{NoMemory as Refused}
use Rattle.core_views.specs.declared.sizes.Sizes.{Sizes}
use Rattle.core_views.specs.declared.trace.Line.{Line}
use Rattle.core_views.specs.declared.trace.Trace.{Trace}
use Rattle.core_views.specs.Alone.{NoneStarved, TakeLowest}
use Rattle.flat_laws.proofs.FallsAsFlat.{all_fall}
use Rattle.core_views.specs.Traces.{IsCommandFor}
use Rattle.core_views.specs.Flat.{first_flat}
use Rattle.core_views.specs.Held.{Held}
use Rattle.core_views.specs.Lawful.{IsLawful}
use Rattle.core_views.specs.Need.{need}
use Rattle.core_views.specs.Sizes.{index_of, sizes_of}
use Rattle.core_views.specs.Text.{text}
use Rattle.core_views.specs.Traces.{IsTrace}
use Rattle.flat_laws.proofs.AloneIsFlat.{goes_as_flat}
use Rattle.flat_laws.proofs.AloneIsWhole.{stands_whole}
use Rattle.core_views.proofs.HeaderSizes.{header_sizes}
use Rattle.spte_words.specs.declared.area.Area.TheVariants as area
use Rattle.mmu_core.specs.declared.claim.FreeMap.TheVariants.{Pages}
use Rattle.mmu_core.specs.machine.Enabled.{mmu}
use Rattle.mmu_laws.specs.forms.log.ReadingsAlone.{ReadsExactly}
use Rattle.mmu_laws.specs.pool.Enough.{HasFreePage}
use Rattle.mmu_core.specs.machine.Machine.{Legal, Step, World, hand_in, run}
use Rattle.mmu_core.specs.machine.View.{word_in}
use Rattle.mmu_core.specs.machine.Worlds.{IsStart, history}
use Rattle.mmu_laws.proofs.alone.AloneEnough.{none_free}
use Rattle.mmu_laws.proofs.pool.Enough.{enough_pages}
use Rattle.mmu_laws.proofs.flat.EveryHistory.{every_history}
use Rattle.mmu_core.proofs.machine.Extend.{legal-append, run-append}
use Rattle.mmu_core.proofs.machine.LineRuns.{history_append}
use Rattle.mmu_core.proofs.start.Starts.{start_good}
use Rattle.mmu_core.proofs.start.StartViews.{a_start}
use Rattle.mmu_core.proofs.machine.Worlds.{good_run}
use Rattle.tdp_io.specs.declared.sink.Stop.{Stop}
use Rattle.tdp_io.specs.declared.sink.Stop.TheVariants.{Failed, NoMemory}
use Rattle.turn_loops.specs.Marks.{Mark, Over, turns_from}
use Rattle.turn_loops.specs.Printed.{PrintsLines}
use Rattle.weave_engine.specs.Printed.{PrintsReplayOn, PrintsReplayed, ReplayPrinted}
use Rattle.turn_loops.specs.Replays.{EachRunsAlone, Replays, RunsAlone, RunsAsFlat, RunsLines}
use Rattle.weave_engine.specs.Woven.{how_ended}
use Rattle.weave_engine.specs.declared.ran.OpenLine.{OpenLine}
use Rattle.weave_engine.specs.declared.ran.How.{How}
use Rattle.weave_engine.specs.declared.ran.How.TheVariants.{Done, WriteFault}
use Rattle.turn_loops.proofs.Fed.{fed_append}
use Rattle.turn_loops.proofs.Coming.{Printing}
use Rattle.turn_loops.proofs.LinesRun.{between_at_start, none_ran}
use Rattle.weave_engine.proofs.LowestAlone.{lines_take_lowest}
use Rattle.turn_loops.proofs.ReadsAlone.{lines_read_exactly}

-- Lines that run alone, after steps from a trace's start, aren't starved where the pool has as many pages as the trace needs.
module _ (trace : Trace) (start : World Held) (is_start : IsStart (sizes_of trace.header) trace.lines start)
    (enough : need trace.header trace.lines ≤ trace.header.pool) where
  abbrev z : Sizes
  z = sizes_of trace.header

  not_starved : (ss own : List (Step Kind)) (line : Line) (answer : Answer) → Legal mmu start ss
      → RunsAlone z (index_of z line.actor) line answer own (run mmu start ss) → answer ≢ Starved
  not_starved ss own line answer legal ran starved =
      let both : run mmu start (ss ++ own) ≡ run mmu (run mmu start ss) own = run-append mmu start ss own in
      let all : Legal mmu start (ss ++ own) = legal-append mmu start ss own legal ran.runs.legal in
      let sound = good_run z start (ss ++ own) (start_good z trace.lines start is_start) all in
      let F : HasFreePage trace.header.pool (word_in z (run mmu start (ss ++ own)) area.PoolMap) =
      enough_pages trace.header trace.lines start (ss ++ own) is_start all enough
      (λ i lt. subst (λ (w : World Held). (hand_in mmu w i).topics.owned ≡ None) (sym both)
      (ran.rest i (subst (λ (w : World Held). i < length w.hands) both (subst (λ n. i < n) (sym sound.hands) lt))).rests.owns_none) in
      none_free trace.header.pool (word_in z (run mmu (run mmu start ss) own) area.PoolMap) (ran.none_free Pages starved)
      (subst (λ (w : World Held). HasFreePage trace.header.pool (word_in z w area.PoolMap)) both F)

  each_fed : (done : List (Step Kind)) (lines : List Line) (ss : List (Step Kind)) → Legal mmu start done
      → EachRunsAlone z (run mmu start done) lines ss → NoneStarved (history (run mmu start done) ss)
  each_fed done [] ss legal none = subst (λ (l : List (Step Kind)). NoneStarved (history (run mmu start done) l)) (sym none) tt
  each_fed done (line ∷ lines) ss legal (own, rest, answer, are, ran, each) =
      let w : World Held = run mmu start done in
      let both : run mmu start (done ++ own) ≡ run mmu w own = run-append mmu start done own in
      let later : NoneStarved (history (run mmu w own) rest) =
      subst (λ (x : World Held). NoneStarved (history x rest)) both
      (each_fed (done ++ own) lines rest (legal-append mmu start done own legal ran.runs.legal)
      (subst (λ (x : World Held). EachRunsAlone z x lines rest) (sym both) each)) in
      subst (λ (es : List Event). NoneStarved es) (sym (ap (history w) are ∙ history_append w own rest))
      (fed_append (history w own) (history (run mmu w own) rest) (ran.none_starved (not_starved done own line answer legal ran)) later)

-- Lines that ran alone from a trace's start are a replay of them.
pub replays : (trace : Trace) (lines : List Line) (start end_ : World Held) (printed : List ℕ) → IsStart (sizes_of trace.header) trace.lines start
    → (r : RunsLines (sizes_of trace.header) start lines end_) → printed ≡ text (history start r.steps) → Replays trace lines printed end_
replays trace lines start end_ printed is_start r prints =
    let z : Sizes = sizes_of trace.header in
    let lawful = every_history z trace.lines start r.steps is_start r.legal in
    record {
      start = start;
      is_start = is_start;
      runs = r;
      lawful = lawful;
      whole = stands_whole lines (history start r.steps) r.alone;
      prints = prints;
      lowest = lowest;
      exact = exact;
      flat = λ enough. as_flat lawful (each_fed trace start is_start enough [] lines r.steps tt r.each);
    }
  where
    lowest : TakeLowest (sizes_of trace.header) first_flat (history start r.steps)
    lowest = lines_take_lowest (sizes_of trace.header) trace.lines start is_start lines r.steps r.each

    exact : ReadsExactly (sizes_of trace.header) start r.steps
    exact = lines_read_exactly (sizes_of trace.header) trace.lines start is_start lines r.steps r.each

    as_flat : IsLawful (sizes_of trace.header) first_flat (history start r.steps) → NoneStarved (history start r.steps)
        → RunsAsFlat (sizes_of trace.header) lines printed (history start r.steps)
    as_flat lawful fed =
        let G = goes_as_flat (sizes_of trace.header) lines (history start r.steps) first_flat (λ i. refl) lawful r.alone
        (all_fall (sizes_of trace.header) first_flat (history start r.steps) fed lowest exact.reads) in
        record { none_starved = fed; same = G.shown; prints = prints ∙ G.prints }

-- No line of a trace has run.
pub none_replayed : (trace : Trace) → IsTrace trace
    → (closing : World Held) × (R : Replays trace (take 0 trace.lines) [] closing) × (R.runs.steps ≡ [])
unfolding replays
none_replayed trace good =
    let z : Sizes = sizes_of trace.header in
    let made = a_start z trace.lines (header_sizes trace.header good.header) good.lines good.few in
    let B = between_at_start z trace.lines made.0 made.1 in
    (made.0, replays trace (take 0 trace.lines) made.0 made.0 [] made.1 B.ran B.prints, none_ran z trace.lines made.0 made.1)

module _ {V : Type 0} (prints : V → List Mark → V → Type 0) (stops : V → List Mark → Stop → V → Type 0) (L : Printing prints stops) (trace : Trace) where
  -- The machine of a trace wasn't made: nothing ran, and nothing was printed.
  pub no_replay : (p q : V) → IsTrace trace → stops p [] NoMemory q
      → (closing : World Held) × PrintsReplayed prints stops trace closing p q (Err NoMemory)
  no_replay p q good none =
      let N = none_replayed trace good in
      let stopped = subst (λ (ss : List (Step Kind)). stops p (turns_from N.1.start ss) NoMemory q) (sym N.2) none in
      (N.0, inl (0, [], N.1, stopped))

  module _ (z : Sizes) (lines : List Line) (start end_ : World Held) (p q : V) (sizes : z ≡ sizes_of trace.header) (are : lines ≡ trace.lines)
      (is_start : IsStart (sizes_of trace.header) trace.lines start) where
    of_trace : (count : ℕ) (r : Result (Unit {0}) Stop) → PrintsLines prints stops z start lines count end_ p q r
        → PrintsLines prints stops (sizes_of trace.header) start trace.lines count end_ p q r
    of_trace count r puts =
        subst (λ (ls : List Line). PrintsLines prints stops (sizes_of trace.header) start ls count end_ p q r) are
        (subst (λ (y : Sizes). PrintsLines prints stops y start lines count end_ p q r) sizes puts)

    -- It stopped at a line.
    pub replay_stopped : (count : ℕ) (stop : Stop) → PrintsLines prints stops z start lines count end_ p q (Err stop)
        → PrintsReplayed prints stops trace end_ p q (Err stop)
    unfolding replays
    replay_stopped count stop puts = first (of_trace count (Err stop) puts)
      where
        first : PrintsLines prints stops (sizes_of trace.header) start trace.lines count end_ p q (Err stop)
            → PrintsReplayed prints stops trace end_ p q (Err stop)
        first (ran, few, r, most) =
            inl (
              ran,
              text (history start r.steps),
              replays trace (take ran trace.lines) start end_ (text (history start r.steps)) is_start r refl,
              most,
            )

    -- all lines, from the first ones that are all
    all_lines : (count : ℕ) → count ≡ length lines → PrintsLines prints stops z start lines count end_ p q (Ok tt)
        → (r : RunsLines (sizes_of trace.header) start trace.lines end_) × prints p (turns_from start r.steps) q
    all_lines count whole puts =
        subst (λ (ls : List Line). (r : RunsLines (sizes_of trace.header) start ls end_) × prints p (turns_from start r.steps) q)
        (ap (λ (n : ℕ). take n trace.lines) (whole ∙ ap (λ (ls : List Line). length ls) are) ∙ take-length trace.lines) (of_trace count (Ok tt) puts)

    -- All lines ran, and the end is printed, or that stopped.
    pub replay_over : (count : ℕ) (v : V) → count ≡ length lines → PrintsLines prints stops z start lines count end_ p q (Ok tt)
        → prints q (Over None ∷ []) v → PrintsReplayed prints stops trace end_ p v (Ok None)
    unfolding replays
    replay_over count v whole puts put =
        let A = all_lines count whole puts in (
          text (history start A.0.steps),
          replays trace trace.lines start end_ (text (history start A.0.steps)) is_start A.0 refl,
          L.both p q v (turns_from start A.0.steps) (Over None ∷ []) A.1 put,
        )

    pub replay_stopped_over : (count : ℕ) (v : V) (stop : Stop) → count ≡ length lines → PrintsLines prints stops z start lines count end_ p q (Ok tt)
        → stops q (Over None ∷ []) stop v → PrintsReplayed prints stops trace end_ p v (Err stop)
    unfolding replays
    replay_stopped_over count v stop whole puts most =
        let A = all_lines count whole puts in inr (
          text (history start A.0.steps),
          replays trace trace.lines start end_ (text (history start A.0.steps)) is_start A.0 refl,
          L.stopped p q v (turns_from start A.0.steps) (Over None ∷ []) stop A.1 most,
        )

  -- How a replay ended says how it was printed.
  module _ (closing : World Held) (p q : V) where
    pub replay_refused : (came : Result (Option OpenLine) Stop) → how_ended came ≡ None → PrintsReplayed prints stops trace closing p q came
        → PrintsReplayed prints stops trace closing p q (Err NoMemory)
    replay_refused (Ok None) is puts = absurd (cc is)
    replay_refused (Ok (Some line)) is puts = absurd puts
    replay_refused (Err Failed) is puts = absurd (cc is)
    replay_refused (Err NoMemory) is puts = puts

    pub replays_by : (came : Result (Option OpenLine) Stop) (how : How) → how_ended came ≡ Some how → PrintsReplayed prints stops trace closing p q came
        → ReplayPrinted prints stops trace closing p q how
    replays_by (Ok None) how is puts = let e : Done ≡ how = cc is in subst (ReplayPrinted prints stops trace closing p q) e puts
    replays_by (Ok (Some line)) how is puts = absurd puts
    replays_by (Err Failed) how is puts = let e : WriteFault ≡ how = cc is in subst (ReplayPrinted prints stops trace closing p q) e puts
    replays_by (Err NoMemory) how is puts = absurd (cc is)

    pub replay_ends : (came : Result (Option OpenLine) Stop) (r : Result How Refused) → IfOk r (λ how. how_ended came ≡ Some how)
        → OnErr r (how_ended came ≡ None) → PrintsReplayed prints stops trace closing p q came → PrintsReplayOn prints stops trace closing p q r
    replay_ends came (Ok how) ran refused puts = replays_by came how ran puts
    replay_ends came (Err e) ran refused puts = replay_refused came refused puts
