-- How a weave is printed, from how its phases are: the lines above `go`, the items, the rounds, and the line that is open.
use Rattle.std.proofs.Common.{◌≡◌, ◌⊎◌, inl, inr, ◌<◌, ◌≤◌, ℕ, List, [], ◌∷◌, ◌++◌, Ok, Err, append_assoc, length, refl, sym, ap, subst, ◌∙◌, arith}
use Rattle.std.proofs.lemmas.List.{append-nil}
use Rattle.std.specs.Option.{option_map}
use Rattle.std.specs.Prelude.{Some, None, map, take}
use Rattle.std.specs.declared.option.Option.{Option}
use Rattle.std.specs.List.Sorted.{IsStrictlyIncreasing}
use Rattle.core_views.specs.declared.kind.Kind.{Kind}
use Rattle.core_views.specs.declared.sizes.Sizes.{Sizes}
use Rattle.core_views.specs.declared.trace.Line.{Line}
use Rattle.core_views.specs.declared.trace.Trace.{Trace}
use Rattle.core_views.specs.Held.{Held}
use Rattle.core_views.specs.Sizes.{actors_of, sizes_of}
use Rattle.core_views.specs.Text.{text}
use Rattle.core_views.specs.Traces.{IsTrace}
use Rattle.core_views.specs.Whole.{IsWholeSoFar}
use Rattle.core_views.proofs.HeaderSizes.{header_sizes}
use Rattle.mmu_core.specs.machine.Enabled.{mmu}
use Rattle.mmu_laws.specs.flat.Histories.{answered_in, begun_in}
use Rattle.mmu_core.specs.machine.Machine.{Step, World, hand_in, run}
use Rattle.mmu_core.specs.machine.Worlds.{IsStart, history}
use Rattle.mmu_laws.proofs.flat.EveryAnswer.{ends_whole}
use Rattle.mmu_laws.proofs.flat.EveryHistory.{every_history}
use Rattle.mmu_core.proofs.start.StartViews.{a_start}
use Rattle.mmu_laws.proofs.flat.WholeSoFar.{stays_whole}
use Rattle.tdp_io.specs.declared.sink.Stop.{Stop}
use Rattle.tdp_io.specs.declared.sink.Stop.TheVariants.{NoMemory as Full}
use Rattle.turn_loops.specs.Marks.{Mark, Rounds, Over, PrintsMarks, turns_from}
use Rattle.turn_loops.specs.Printed.{PrintsLines}
use Rattle.weave_engine.specs.Printed.{PrintsUntil, PrintsWoven}
use Rattle.turn_loops.specs.Replays.{RunsLines}
use Rattle.turn_loops.specs.Turned.{ComesTo, PrintsRun}
use Rattle.turn_loops.specs.Rounds.{AllAnswered}
use Rattle.turn_loops.specs.Turning.{AreMarkedAfter, HasNoLineLeft, RunsItems, RunsItemsSoFar}
use Rattle.turn_loops.specs.Weaves.{FollowsBoth, FollowsSoFar, RunsAllRounds, RunsSomeRounds, Weaves, WeavesAll, WeavesPart, WeavesSoFar, lines_above}
use Rattle.turn_loops.specs.FirstOpen.{FirstOpen, IsFirstOpen}
use Rattle.weave_engine.specs.Woven.{open_of}
use Rattle.weave_engine.proofs.Beside.{turns_delayed}
use Rattle.turn_loops.proofs.Coming.{Printing, comes_then}
use Rattle.weave_engine.proofs.FirstInFile.{first_in_file}
use Rattle.turn_loops.proofs.FirstLines.{absurd_line}
use Rattle.turn_loops.proofs.ItemLists.{all_so_far}
use Rattle.turn_loops.proofs.LinesRun.{between_at_start, none_ran}
use Rattle.weave_engine.proofs.LowestAlone.{lines_take_lowest}
use Rattle.turn_loops.proofs.ReadsAlone.{lines_read_exactly}
use Rattle.weave_engine.proofs.StarvedScans.{starved_scan}
use Rattle.turn_loops.proofs.BeforeSteps.{few_answers, no_line_all, no_rounds, none_so_far}

module _ (trace : Trace) (limit : ℕ) (start : World Held) (is_start : IsStart (sizes_of trace.header) trace.lines start) where
  abbrev z : Sizes
  z = sizes_of trace.header

  -- Steps that follow the trace so far weave it so far.
  weaves_so_far : (ss : List (Step Kind)) (t : World Held) (bytes : List ℕ) → ComesTo start ss t bytes → FollowsSoFar trace limit start ss
      → WeavesSoFar trace limit bytes t
  weaves_so_far ss t bytes C F = record {
    start = start;
    is_start = is_start;
    steps = ss;
    legal = C.legal;
    ends = C.ends;
    follows = F;
    lawful = every_history z trace.lines start ss is_start C.legal;
    whole = subst (λ (x : World Held). IsWholeSoFar (history start ss) trace.lines (begun_in z x) (answered_in z x)) C.ends
        (stays_whole z trace.lines start ss is_start C.legal);
    starved = starved_scan z trace.lines start ss is_start C.legal;
    prints = C.prints;
    lowest = lines_take_lowest z trace.lines start is_start (take F.above trace.lines) F.alone.steps F.alone.each;
    exact = lines_read_exactly z trace.lines start is_start (take F.above trace.lines) F.alone.steps F.alone.each;
  }

  -- Some lines above `go` ran, and nothing more.
  lines_follow : (above : ℕ) → above ≤ lines_above trace.go → (w : World Held) (r : RunsLines z start (take above trace.lines) w)
      → FollowsSoFar trace limit start r.steps
  lines_follow above few w r = record {
    above = above;
    few_above = few;
    behind = w;
    alone = r;
    scheduled = [];
    rounds = [];
    are = sym (append-nil r.steps);
    item_marks = [];
    items = none_so_far z trace.items w;
    after_go = inl (refl, refl);
    in_rounds = no_rounds z limit w;
    round_marks = [];
    after_items = inl (refl, refl);
    marks = turns_from start r.steps;
    marks_are = sym (append-nil (turns_from start r.steps));
  }

  module _ {V : Type 0} (prints : V → List Mark → V → Type 0) (stops : V → List Mark → Stop → V → Type 0) (L : Printing prints stops) where
    -- Nothing has run.
    pub nothing_ran : (p q : V) → stops p [] Full q → PrintsUntil prints stops Full trace limit start p q
    unfolding weaves_so_far lines_follow
    nothing_ran p q none =
        let B = between_at_start z trace.lines start is_start in
        inl (
          [],
          weaves_so_far B.ran.steps start [] (record { legal = B.ran.legal; ends = B.ran.ends; prints = B.prints })
              (lines_follow 0 (omega arith) start B.ran),
          subst (λ (ss : List (Step Kind)). stops p (turns_from start ss) Full q) (sym (none_ran z trace.lines start is_start)) none,
        )

    -- It stopped among the lines above `go`.
    pub stopped_in_lines : (t : World Held) (p q : V) (stop : Stop) → PrintsLines prints stops z start trace.lines (lines_above trace.go) t p q (Err stop)
        → PrintsUntil prints stops stop trace limit t p q
    unfolding weaves_so_far lines_follow
    stopped_in_lines t p q stop (above, few, r, most) = inl (
      text (history start r.steps),
      weaves_so_far r.steps t (text (history start r.steps)) (record { legal = r.legal; ends = r.ends; prints = refl }) (lines_follow above few t r),
      most,
    )

    -- The lines above `go` are answered, and their turns were printed.
    module _ (w : World Held) (p q : V) (A : PrintsLines prints stops z start trace.lines (lines_above trace.go) w p q (Ok tt)) where
      abbrev printed : List ℕ
      printed = text (history start A.0.steps)

      abbrev early : List Mark
      early = turns_from start A.0.steps

      few_above : lines_above trace.go ≤ lines_above trace.go
      few_above = omega arith

      -- the steps of these lines, and more
      from_start : (t : World Held) (ss : List (Step Kind)) (bytes : List ℕ) → ComesTo w ss t bytes → ComesTo start (A.0.steps ++ ss) t (printed ++ bytes)
      from_start t ss bytes C = comes_then start w t A.0.steps ss printed bytes (record { legal = A.0.legal; ends = A.0.ends; prints = refl }) C

      items_follow : (ss : List (Step Kind)) (marks : List Mark) → RunsItemsSoFar z trace.items w ss marks
          → FollowsSoFar trace limit start (A.0.steps ++ ss)
      items_follow ss marks some = record {
        above = lines_above trace.go;
        few_above = few_above;
        behind = w;
        alone = A.0;
        scheduled = ss;
        rounds = [];
        are = ap (λ (l : List (Step Kind)). A.0.steps ++ l) (sym (append-nil ss));
        item_marks = marks;
        items = some;
        after_go = inr refl;
        in_rounds = no_rounds z limit (run mmu w ss);
        round_marks = [];
        after_items = inl (refl, refl);
        marks = early ++ marks;
        marks_are = ap (λ (ms : List Mark). early ++ ms) (sym (append-nil marks));
      }

      -- It stopped among the items.
      pub stopped_in_items : (t : World Held) (r : V) (stop : Stop)
          → PrintsRun prints stops (RunsItems z trace.items) (RunsItemsSoFar z trace.items) w t q r (Err stop)
          → PrintsUntil prints stops stop trace limit t p r
      unfolding weaves_so_far items_follow
      stopped_in_items t r stop (ss, bytes, marks, some, C, most) = inl (
        printed ++ bytes,
        weaves_so_far (A.0.steps ++ ss) t (printed ++ bytes) (from_start t ss bytes C) (items_follow ss marks some),
        L.stopped p q r early marks stop A.1 most,
      )

      -- The items are over too.
      module _ (u : World Held) (r : V) (I : PrintsRun prints stops (RunsItems z trace.items) (RunsItemsSoFar z trace.items) w u q r (Ok tt)) where
        items_put : prints p (early ++ I.2) r
        items_put = L.both p q r early I.2 A.1 I.5

        comes_both : (t : World Held) (ss : List (Step Kind)) (bytes : List ℕ) → ComesTo u ss t bytes
            → ComesTo start (A.0.steps ++ (I.0 ++ ss)) t (printed ++ (I.1 ++ bytes))
        comes_both t ss bytes C = from_start t (I.0 ++ ss) (I.1 ++ bytes) (comes_then w u t I.0 ss I.1 bytes I.4 C)

        -- Turns in rounds follow all lines above `go` and all items.
        follows : (ss : List (Step Kind)) (marks : List Mark) → AreMarkedAfter Rounds (RunsSomeRounds z limit) u ss marks
            → FollowsSoFar trace limit start (A.0.steps ++ (I.0 ++ ss))
        follows ss marks R = record {
          above = lines_above trace.go;
          few_above = few_above;
          behind = w;
          alone = A.0;
          scheduled = I.0;
          rounds = ss;
          are = refl;
          item_marks = I.2;
          items = all_so_far z trace.items w I.0 I.2 I.3;
          after_go = inr refl;
          in_rounds = subst (λ (x : World Held). RunsSomeRounds z limit x ss) (sym I.4.ends) R.0;
          round_marks = marks;
          after_items = inr (I.3, there ss marks R.1);
          marks = early ++ (I.2 ++ marks);
          marks_are = refl;
        }
          where
            there : (ss : List (Step Kind)) (marks : List Mark) → marks ≡ Rounds ∷ turns_from u ss → marks ≡ Rounds ∷ turns_from (run mmu w I.0) ss
            there ss marks are = are ∙ ap (λ (x : World Held). Rounds ∷ turns_from x ss) (sym I.4.ends)

        follows_both : (ss : List (Step Kind)) (marks : List Mark) (R : AreMarkedAfter Rounds (RunsSomeRounds z limit) u ss marks)
            → FollowsBoth trace limit start (A.0.steps ++ (I.0 ++ ss)) (follows ss marks R)
        unfolding follows
        follows_both ss marks R =
            record { all_above = refl; all_items = (I.3, R.1 ∙ ap (λ (x : World Held). Rounds ∷ turns_from x ss) (sym I.4.ends)) }

        -- It stopped in the rounds.
        pub stopped_in_rounds : (t : World Held) (v : V) (stop : Stop)
            → PrintsRun prints stops (AreMarkedAfter Rounds (RunsAllRounds z limit)) (AreMarkedAfter Rounds (RunsSomeRounds z limit)) u t r v (Err stop)
            → PrintsUntil prints stops stop trace limit t p v
        unfolding weaves_so_far follows
        stopped_in_rounds t v stop (ss, bytes, marks, some, C, most) = inl (
          printed ++ (I.1 ++ bytes),
          weaves_so_far (A.0.steps ++ (I.0 ++ ss)) t (printed ++ (I.1 ++ bytes)) (comes_both t ss bytes C) (follows ss marks some),
          subst (λ (ms : List Mark). stops p ms stop v) (append_assoc early I.2 marks) (L.stopped p r v (early ++ I.2) marks stop items_put most),
        )

        -- The rounds are over.
        module _ (t : World Held) (v : V)
            (R : PrintsRun prints stops (AreMarkedAfter Rounds (RunsAllRounds z limit)) (AreMarkedAfter Rounds (RunsSomeRounds z limit)) u t r v (Ok tt)) where
          abbrev all_text : List ℕ
          all_text = printed ++ (I.1 ++ R.1)

          abbrev all_steps : List (Step Kind)
          all_steps = A.0.steps ++ (I.0 ++ R.0)

          abbrev all_marks : List Mark
          all_marks = early ++ (I.2 ++ R.2)

          all_put : prints p all_marks v
          all_put = subst (λ (ms : List Mark). prints p ms v) (append_assoc early I.2 R.2) (L.both p r v (early ++ I.2) R.2 items_put R.5)

          all_come : ComesTo start all_steps t all_text
          all_come = comes_both t R.0 R.1 R.4

          abbrev some_rounds : AreMarkedAfter Rounds (RunsSomeRounds z limit) u R.0 R.2
          some_rounds = (R.3.0.some, R.3.1)

          woven : Weaves trace limit all_text t
          unfolding weaves_so_far
          woven = record {
            so_far = weaves_so_far all_steps t all_text all_come (follows R.0 R.2 some_rounds);
            follows = follows_both R.0 R.2 some_rounds;
          }

          -- Each line is answered.
          all_answered : AllAnswered z t → WeavesAll trace limit all_text t
          unfolding woven weaves_so_far
          all_answered all = record {
            weaves = woven;
            all = all;
            whole = ends_whole z trace.lines start all_steps is_start all_come.legal answered_;
          }
            where
              answered_ : (i : ℕ) → i < actors_of z
                  → length (hand_in mmu (run mmu start all_steps) i).answers ≡ length (hand_in mmu (run mmu start all_steps) i).lines
              answered_ i lt =
                  let few = few_answers z trace.lines start all_steps i is_start all_come.legal lt in
                  let none : HasNoLineLeft i (run mmu start all_steps) = subst (λ (x : World Held). HasNoLineLeft i x) (sym all_come.ends) (all i lt) in
                  no_line_all (hand_in mmu (run mmu start all_steps) i) few none

          -- This is the first line that isn't.
          used_up : IsStrictlyIncreasing (map (λ (l : Line). l.number) trace.lines) → (line : Line) → IsFirstOpen z t line
              → WeavesPart trace limit all_text t line
          unfolding woven follows weaves_so_far
          used_up up line open_ = record {
            weaves = woven;
            used_up = by R.3.0.over;
            open_ = open_;
            delayed = turns_delayed trace limit woven.so_far.start woven.so_far.steps woven.so_far.is_start woven.so_far.legal woven.so_far.follows
                woven.follows (by R.3.0.over);
            first_in_file = first_in_file z trace.lines start all_steps is_start all_come.legal up line
                (subst (λ (x : World Held). IsFirstOpen z x line) (sym all_come.ends) open_);
          }
            where
              by : (length R.0 ≡ limit) ⊎ AllAnswered z (run mmu u R.0) → length R.0 ≡ limit
              by (inl e) = e
              by (inr all) =
                  absurd (absurd_line t open_.actor open_.left
                  (subst (λ (x : World Held). HasNoLineLeft open_.actor x) R.4.ends (all open_.actor open_.there)))

          -- The end is printed: each line is answered, or this is the first that isn't.
          pub ends_open : IsStrictlyIncreasing (map (λ (l : Line). l.number) trace.lines) → (open_ : Option Line) (x : V) → FirstOpen z t open_
              → PrintsMarks prints stops (Over open_ ∷ []) v x (Ok tt) → PrintsWoven prints stops trace limit t p x (Ok (option_map open_of open_))
          unfolding all_answered used_up woven follows weaves_so_far
          ends_open up None x none put = (all_text, all_answered none, L.both p v x all_marks (Over None ∷ []) all_put put)
          ends_open up (Some line) x open_ put =
              (line, refl, all_text, used_up up line open_, L.both p v x all_marks (Over (Some line) ∷ []) all_put put)

          -- The printing stopped after all turns.
          pub stops_open : IsStrictlyIncreasing (map (λ (l : Line). l.number) trace.lines) → (stop : Stop) (open_ : Option Line) (x : V)
              → FirstOpen z t open_ → PrintsMarks prints stops (Over open_ ∷ []) v x (Err stop) → PrintsUntil prints stops stop trace limit t p x
          unfolding all_answered used_up woven follows weaves_so_far
          stops_open up stop None x none most =
              inr (inl (all_text, all_answered none, L.stopped p v x all_marks (Over None ∷ []) stop all_put most))
          stops_open up stop (Some line) x open_ most =
              inr (inr (all_text, line, used_up up line open_, L.stopped p v x all_marks (Over (Some line) ∷ []) stop all_put most))

-- No machine was made: nothing ran.
pub no_machine : {V : Type 0} (prints : V → List Mark → V → Type 0) (stops : V → List Mark → Stop → V → Type 0) → Printing prints stops → (trace : Trace)
    (limit : ℕ) (p q : V) → IsTrace trace → stops p [] Full q → (closing : World Held) × PrintsUntil prints stops Full trace limit closing p q
no_machine prints stops L trace limit p q good none =
    let made = a_start (sizes_of trace.header) trace.lines (header_sizes trace.header good.header) good.lines good.few in
    (made.0, nothing_ran trace limit made.0 made.1 prints stops L p q none)
