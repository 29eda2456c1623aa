-- Turns in an order that follow a trace, and leave no line without an answer, are a weave of it.
use Rattle.std.proofs.Common.{◌≡◌, ◌+◌, ◌<◌, ◌≤◌, inl, inr, ℕ, List, [], ◌∷◌, ◌++◌, length, refl, sym, subst, ap, ◌∙◌, arith}
use Rattle.std.specs.Prelude.{All, Bool, true, ◌&&◌, take}
use Rattle.core_views.specs.declared.event.Event.{Event}
use Rattle.core_views.specs.declared.kind.Kind.{Kind}
use Rattle.core_views.specs.declared.sizes.Sizes.{Sizes}
use Rattle.core_views.specs.declared.trace.Item.{Item}
use Rattle.core_views.specs.declared.trace.Trace.{Trace}
use Rattle.core_views.specs.Held.{Held}
use Rattle.core_views.specs.Sizes.{AreSizes, actors_of, sizes_of}
use Rattle.core_views.specs.Text.{text}
use Rattle.mmu_core.specs.invariant.Laws.{IsSound}
use Rattle.mmu_core.specs.machine.Enabled.{mmu}
use Rattle.mmu_core.specs.machine.Machine.{Legal, Step, World, hand_in, run}
use Rattle.mmu_core.specs.machine.View.{View, view}
use Rattle.mmu_core.specs.machine.Worlds.{IsStart, history}
use Rattle.mmu_core.proofs.machine.Extend.{legal-append, run-append}
use Rattle.mmu_core.proofs.machine.LineRuns.{history_append}
use Rattle.mmu_core.proofs.start.StartViews.{a_start, start_view, start_view_is}
use Rattle.mmu_laws.specs.steps.ExampleSteps.{turns_of}
use Rattle.mmu_laws.proofs.flat.EveryAnswer.{ends_whole}
use Rattle.mmu_laws.proofs.flat.EveryHistory.{every_history}
use Rattle.mmu_laws.proofs.flat.WholeSoFar.{stays_whole}
use Rattle.mmu_laws.proofs.steps.ComputedRuns.{May}
use Rattle.mmu_laws.proofs.steps.ViewRuns.{HaveLines, both, have_lines, have_lines_by, tale, turned_all, turns_are, turns_lead}
use Rattle.turn_loops.specs.Marks.{Mark, Rounds, turns_from}
use Rattle.turn_loops.specs.Rounds.{AllAnswered, RunsRounds}
use Rattle.turn_loops.specs.Turning.{RunsItems}
use Rattle.turn_loops.specs.Weaves.{FollowsSoFar, WeavesAll, lines_above}
use Rattle.turn_loops.proofs.BeforeSteps.{few_answers, no_line_all}
use Rattle.turn_loops.proofs.ItemLists.{all_so_far}
use Rattle.turn_loops.proofs.LinesRun.{sound_between}
use Rattle.weave_engine.proofs.LowestAlone.{lines_take_lowest}
use Rattle.turn_loops.proofs.ReadsAlone.{lines_read_exactly}
use Rattle.weave_engine.proofs.StarvedScans.{starved_scan}
use Rattle.weave_laws.specs.Determined.{FollowsAll}
use Rattle.weave_laws.specs.ExampleWeave.{WeavesInOrder}
use Rattle.weave_laws.proofs.AboveRuns.{AboveRun, above_all, above_fits, above_lead, above_none, above_order, above_tale}
use Rattle.weave_laws.proofs.OrderRuns.{all_answered, all_turns, have_parts, items_fit, items_run, none_left, rounds_fit, rounds_run, turns_both, turns_count}
use Rattle.weave_laws.proofs.SameWeaves.{texts_are_determined}

-- From these words and hands on the turns can be made: those of the items, and those in rounds, after which no line is left.
abbrev below_fits : Sizes → List Item → List (List ℕ) → List ℕ → View → Bool
below_fits z items orders round_order v =
    (have_lines z v (all_turns orders ++ round_order) && items_fit z items orders v)
    && (rounds_fit z 0 round_order (turned_all v (all_turns orders)) && none_left (actors_of z) (turned_all v (all_turns orders ++ round_order)))

-- So many turns of each line above `go`, and then those.
abbrev pub whole_fits : Trace → List ℕ → List (List ℕ) → List ℕ → Bool
whole_fits t counts orders round_order =
    above_fits (sizes_of t.header) t.lines counts 0 (start_view (sizes_of t.header) t.lines)
    && below_fits (sizes_of t.header) t.items orders round_order
    (above_lead (sizes_of t.header) t.lines counts 0 (start_view (sizes_of t.header) t.lines))

-- all turns, and what they tell
abbrev pub whole_order : Trace → List ℕ → List (List ℕ) → List ℕ → List ℕ
whole_order t counts orders round_order = above_order (sizes_of t.header) t.lines counts 0 ++ (all_turns orders ++ round_order)

abbrev pub whole_tale : Trace → List ℕ → List (List ℕ) → List ℕ → List Event
whole_tale t counts orders round_order =
    above_tale (sizes_of t.header) t.lines counts 0 (start_view (sizes_of t.header) t.lines)
    ++ tale (above_lead (sizes_of t.header) t.lines counts 0 (start_view (sizes_of t.header) t.lines)) (all_turns orders ++ round_order)

-- What is computed of such turns.
pub record OrderFits (trace : Trace) (counts : List ℕ) (orders : List (List ℕ)) (round_order : List ℕ) (events : List Event) : Type 0 where
  pub sizes : AreSizes (sizes_of trace.header)
  pub allowed : All (May (sizes_of trace.header)) trace.lines
  pub few : length trace.lines ≤ 1000000
  pub above : length counts ≡ lines_above trace.go
  pub fits : whole_fits trace counts orders round_order ≡ true
  pub tells : whole_tale trace counts orders round_order ≡ events

module _ (trace : Trace) (limit : ℕ) (counts : List ℕ) (orders : List (List ℕ)) (round_order : List ℕ) (events : List Event) (bytes : List ℕ)
    (O : OrderFits trace counts orders round_order events) (room : length round_order ≤ limit) (is_text : text events ≡ bytes)
    (start : World Held) (is_start : IsStart (sizes_of trace.header) trace.lines start) where
  abbrev z : Sizes
  z = sizes_of trace.header

  abbrev begun : View
  begun = start_view z trace.lines

  abbrev behind_above : View
  behind_above = above_lead z trace.lines counts 0 begun

  abbrev first : List ℕ
  first = all_turns orders

  abbrev order : List ℕ
  order = first ++ round_order

  fit_both : (above_fits z trace.lines counts 0 begun ≡ true) × (below_fits z trace.items orders round_order behind_above ≡ true)
  fit_both = both (above_fits z trace.lines counts 0 begun) (below_fits z trace.items orders round_order behind_above) O.fits

  fit_halves : ((have_lines z behind_above order && items_fit z trace.items orders behind_above) ≡ true)
      × ((rounds_fit z 0 round_order (turned_all behind_above first) && none_left (actors_of z) (turned_all behind_above order)) ≡ true)
  fit_halves =
      both (have_lines z behind_above order && items_fit z trace.items orders behind_above)
      (rounds_fit z 0 round_order (turned_all behind_above first) && none_left (actors_of z) (turned_all behind_above order)) fit_both.1

  fit_items : (have_lines z behind_above order ≡ true) × (items_fit z trace.items orders behind_above ≡ true)
  fit_items = both (have_lines z behind_above order) (items_fit z trace.items orders behind_above) fit_halves.0

  fit_rounds :
      (rounds_fit z 0 round_order (turned_all behind_above first) ≡ true) × (none_left (actors_of z) (turned_all behind_above order) ≡ true)
  fit_rounds =
      both (rounds_fit z 0 round_order (turned_all behind_above first)) (none_left (actors_of z) (turned_all behind_above order)) fit_halves.1

  -- ---- the lines above `go`

  ran : (j : ℕ) × (j ≡ 0 + length counts)
      × AboveRun z trace.lines start j ([] ++ above_order z trace.lines counts 0) behind_above ([] ++ above_tale z trace.lines counts 0 begun)
  ran =
      above_all z trace.lines start is_start counts 0 [] begun []
      (subst (λ (v : View). AboveRun z trace.lines start 0 [] v []) (start_view_is z trace.lines start is_start)
      (above_none z trace.lines start is_start)) fit_both.0

  abbrev A : AboveRun z trace.lines start ran.0 (above_order z trace.lines counts 0) behind_above (above_tale z trace.lines counts 0 begun)
  A = ran.2

  abbrev w : World Held
  w = A.world

  abbrev above : List (Step Kind)
  above = A.between.ran.steps

  count_above : ran.0 ≡ lines_above trace.go
  count_above = let e = ran.1 in let f = O.above in omega (arith, e, f)

  good : IsSound z w
  good = sound_between z trace.lines ran.0 start w A.printed is_start A.between

  -- ---- the turns below it

  have : HaveLines z (view z w) order
  have = subst (λ (v : View). HaveLines z v order) (sym A.sees) (have_lines_by z behind_above order fit_items.0)

  abbrev scheduled : List (Step Kind)
  scheduled = turns_of z w first

  abbrev behind : World Held
  behind = run mmu w scheduled

  abbrev later : List (Step Kind)
  later = turns_of z behind round_order

  abbrev steps : List (Step Kind)
  steps = above ++ turns_of z w order

  parts : HaveLines z (view z w) first × IsSound z behind × HaveLines z (view z behind) round_order
  parts = have_parts z w first round_order good have

  made : Legal mmu w (turns_of z w order) × (history w (turns_of z w order) ≡ tale (view z w) order)
  made = turns_are z w order good have

  items : (marks : List Mark) × RunsItems z trace.items w scheduled marks
  items = items_run z trace.items orders w good parts.0 (subst (λ (v : View). items_fit z trace.items orders v ≡ true) (sym A.sees) fit_items.1)

  there : ◌≡◌ {A = View} (view z behind) (turned_all behind_above first)
  there = turns_lead z w first good parts.0 ∙ ap (λ (v : View). turned_all v first) A.sees

  in_rounds : (next : ℕ) × RunsRounds z 0 next behind later
  in_rounds = rounds_run z 0 behind round_order parts.1 parts.2 (subst (λ (v : View). rounds_fit z 0 round_order v ≡ true) (sym there) fit_rounds.0)

  few_later : length later ≤ limit
  few_later = let count = turns_count z behind round_order in omega (arith, count, room)

  -- ---- all steps

  legal : Legal mmu start steps
  legal =
      legal-append mmu start above (turns_of z w order) A.between.ran.legal
      (subst (λ (x : World Held). Legal mmu x (turns_of z w order)) (sym A.between.ran.ends) made.0)

  ends : run mmu start steps ≡ run mmu w (turns_of z w order)
  ends = run-append mmu start above (turns_of z w order) ∙ ap (λ (x : World Held). run mmu x (turns_of z w order)) A.between.ran.ends

  all : AllAnswered z (run mmu start steps)
  all =
      all_answered z (run mmu start steps)
      (subst (λ (v : View). none_left (actors_of z) v ≡ true)
      (sym (ap (view z) ends ∙ turns_lead z w order good have ∙ ap (λ (v : View). turned_all v order) A.sees)) fit_rounds.1)

  told : history start steps ≡ events
  told =
      history_append start above (turns_of z w order)
      ∙ (λ i. A.tells i ++ history (A.between.ran.ends i) (turns_of z w order))
      ∙ ap (λ (es : List Event). above_tale z trace.lines counts 0 begun ++ es) (made.1 ∙ ap (λ (v : View). tale v order) A.sees) ∙ O.tells

  abbrev so_far : FollowsSoFar trace limit start steps
  so_far = record {
    above = ran.0;
    few_above = let e = count_above in omega (arith, e);
    behind = w;
    alone = A.between.ran;
    scheduled = scheduled;
    rounds = later;
    are = ap (λ (ss : List (Step Kind)). above ++ ss) (turns_both z w first round_order);
    item_marks = items.0;
    items = all_so_far z trace.items w scheduled items.0 items.1;
    after_go = inr count_above;
    in_rounds = record { next = in_rounds.0; rounds = in_rounds.1; few = few_later };
    round_marks = Rounds ∷ turns_from behind later;
    after_items = inr (items.1, refl);
    marks = turns_from start above ++ (items.0 ++ (Rounds ∷ turns_from behind later));
    marks_are = refl;
  }

  abbrev follows : FollowsAll trace limit start steps
  follows = record { so_far = so_far; both = record { all_above = count_above; all_items = (items.1, refl) }; over = inr all }

  answered_ : (i : ℕ) → i < actors_of z → length (hand_in mmu (run mmu start steps) i).answers ≡ length (hand_in mmu (run mmu start steps) i).lines
  answered_ i lt = no_line_all (hand_in mmu (run mmu start steps) i) (few_answers z trace.lines start steps i is_start legal lt) (all i lt)

  abbrev weaves : WeavesAll trace limit bytes (run mmu start steps)
  weaves = record {
    weaves = record {
      so_far = record {
        start = start;
        is_start = is_start;
        steps = steps;
        legal = legal;
        ends = refl;
        follows = so_far;
        lawful = every_history z trace.lines start steps is_start legal;
        whole = stays_whole z trace.lines start steps is_start legal;
        starved = starved_scan z trace.lines start steps is_start legal;
        prints = sym (ap text told ∙ is_text);
        lowest = lines_take_lowest z trace.lines start is_start (take ran.0 trace.lines) above A.between.ran.each;
        exact = lines_read_exactly z trace.lines start is_start (take ran.0 trace.lines) above A.between.ran.each;
      };
      follows = follows.both;
    };
    all = all;
    whole = ends_whole z trace.lines start steps is_start legal answered_;
  }

  steps_are : steps ≡ turns_of z start (whole_order trace counts orders round_order)
  steps_are =
      (λ i. A.steps_are i ++ turns_of z (from i) order) ∙ sym (turns_both z start (above_order z trace.lines counts 0) order)
    where
      from : w ≡ run mmu start (turns_of z start (above_order z trace.lines counts 0))
      from = sym A.between.ran.ends ∙ ap (run mmu start) A.steps_are

  from_start : WeavesInOrder trace limit (whole_order trace counts orders round_order) bytes
  from_start = record {
    closing = run mmu start steps;
    weaves = weaves;
    steps = steps_are;
    only = λ other text_ W. (texts_are_determined trace limit other (run mmu start steps) text_ bytes W (inl weaves)).1;
  }

pub weaves_in_order : (trace : Trace) (limit : ℕ) (counts : List ℕ) (orders : List (List ℕ)) (round_order : List ℕ) (events : List Event) (bytes : List ℕ)
    → OrderFits trace counts orders round_order events → length round_order ≤ limit → text events ≡ bytes
    → WeavesInOrder trace limit (whole_order trace counts orders round_order) bytes
weaves_in_order trace limit counts orders round_order events bytes O room is_text =
    let s = a_start (sizes_of trace.header) trace.lines O.sizes O.allowed O.few in
    from_start trace limit counts orders round_order events bytes O room is_text s.0 s.1
