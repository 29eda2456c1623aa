-- The changes of a line that changes a run of host pages: a series of steps, all but the first and the last one.
use Rattle.std.proofs.Common.{◌≡◌, ◌≢◌, ◌⊎◌, inl, inr, ◌+◌, ◌-◌, ◌^◌, ◌<◌, ℕ, suc, List, [], ◌∷◌, ◌++◌, length, refl, sym, ap, ◌∙◌, arith}
use Rattle.std.specs.Prelude.{Bool, true, false, ◌&&◌, ◌||◌, ◌==◌, nat_le, nat_lt, Some, None, if◌then◌else◌}
use Rattle.std.proofs.lemmas.Bool.Decides.{nat_tests}
use Rattle.core_views.specs.declared.event.EventKind.{EventKind}
use Rattle.core_views.specs.declared.event.EventKind.TheVariants.{HostChanged}
use Rattle.core_views.specs.declared.place.EndPlace.TheVariants as ends
use Rattle.core_views.specs.declared.place.HostRunPlace.{HostRunPlace}
use Rattle.core_views.specs.declared.place.HostRunPlace.TheVariants as run_place
use Rattle.core_views.specs.declared.place.Place.TheVariants as place
use Rattle.core_views.specs.declared.topics.PageRun.{PageRun}
use Rattle.core_views.specs.declared.topics.Topics.{Topics}
use Rattle.core_views.specs.declared.trace.Command.TheVariants.{ChangeRun}
use Rattle.core_views.specs.declared.trace.RunChange.{RunChange}
use Rattle.core_views.specs.Held.{Held}
use Rattle.spte_words.specs.declared.area.Area.{Area}
use Rattle.spte_words.specs.declared.area.Area.TheVariants as area
use Rattle.spte_words.specs.Areas.{number_of}
use Rattle.spte_words.specs.Entries.{level_span}
use Rattle.part_steps.specs.declared.part_step.PartStep.TheVariants as part
use Rattle.part_steps.specs.PageRuns.{page_next, word_given, word_seen}
use Rattle.part_steps.specs.declared.task.Task.{Task}
use Rattle.part_steps.specs.declared.part_step.PartStep.{PartStep}
use Rattle.part_steps.specs.PartTasks.{own_index, part_task, word_looked}
use Rattle.part_steps.specs.TopicSteps.{run_changed, topics_after}
use Rattle.part_steps.specs.Tasks.{kind_of_task}
use Rattle.mmu_core.specs.declared.outcome.Outcome.TheVariants.{Goes}
use Rattle.mmu_core.specs.forms.access.Cached.{flushed}
use Rattle.mmu_core.specs.forms.host.HostSteps.{entry_of}
use Rattle.mmu_core.specs.forms.host_run.HostRunSteps.{after_page, as_it_is, page_changed}
use Rattle.mmu_core.specs.lines.Delays.{delays_counted, one_more, steps_counted, waits_by}
use Rattle.mmu_core.specs.machine.View.{answer_in, upd, words_after}
use Rattle.mmu_core.proofs.machine.Columns.{same_or, upd_other, upd_same}
use Rattle.mmu_core.proofs.words.PartTopics.{part_topics_is}
use Rattle.mmu_laws.proofs.flat.Told.{told}
use Rattle.mmu_laws.proofs.steps.PageFillers.{one_step_more}
use Rattle.mmu_laws.proofs.steps.Series.{MakesNext, Series}
use Rattle.mmu_laws.proofs.steps.LookSeries.{hand_by}

-- i is one of the n numbers from this one on
abbrev pub is_among : ℕ → ℕ → ℕ → Bool
is_among from n i = nat_le from i && nat_lt i (from + n)

-- the words with n pages of the run changed, from the next one on
abbrev pub changed_words : PageRun → ℕ → (Area → ℕ → ℕ) → Area → ℕ → ℕ
changed_words run n words b i =
    if number_of b == number_of area.Host && is_among (page_next run) n i then word_given run i else words b i

one_more_changed : (given old : ℕ → ℕ) (from k here x i : ℕ) → here ≡ from + k → x ≡ given here
    → upd (λ j. if is_among from k j then given j else old j) here x i ≡ (if is_among from (suc k) i then given i else old i)
one_more_changed given old from k here x i at is = by (same_or i here)
  where
    column : ℕ → ℕ
    column = λ j. if is_among from k j then given j else old j

    last : i ≡ here → is_among from (suc k) i ≡ true
    last e = grind (arith, nat_tests)

    same : i ≢ here → is_among from k i ≡ is_among from (suc k) i
    same ne = grind (arith, nat_tests)

    by : (i ≡ here) ⊎ (i ≢ here) → upd column here x i ≡ (if is_among from (suc k) i then given i else old i)
    by (inl e) =
        ap (upd column here x) e ∙ upd_same column here x ∙ is ∙ ap given (sym e)
        ∙ sym (ap (λ (b : Bool). if b then given i else old i) (last e))
    by (inr ne) = upd_other column here i x ne ∙ ap (λ (b : Bool). if b then given i else old i) (same ne)

module _ (page : ℕ) (change : RunChange) (run : PageRun) (words : Area → ℕ → ℕ) (h : Held) where
  -- the run after so many changes more, and the page that is changed next
  abbrev pub run_after : ℕ → PageRun
  run_after k = record run { changed = run.changed + k }

  abbrev pub page_after_changes : ℕ → ℕ
  page_after_changes k = page_next (run_after k)

  abbrev pub topics_changed : ℕ → Topics
  topics_changed k = record h.topics {
    host = None;
    invalidations = record h.topics.invalidations { own = record h.topics.invalidations.own { pages = Some (run_after k) } };
  }

  abbrev pub changes_series : Series
  changes_series = record {
    hand = λ k. hand_by (Goes (place.HostRun run_place.Change)) page change (h.state.steps + k) (topics_changed k) h;
    words = λ k. changed_words run k words;
    tells = λ k. record {
      actor = h.state.actor;
      kind = HostChanged (page_after_changes k) (entry_of (word_given run (page_after_changes k)));
    } ∷ [];
  }

  -- The change is not the last one of its run, and the page's word is as it was seen.
  pub record Changes (k : ℕ) : Type 0 where
    pub several : nat_lt 1 run.level ≡ true
    pub seen : words area.Host (page_after_changes k) ≡ word_seen run (page_after_changes k)
    pub more : nat_lt (run.changed + k + 1) (level_span run.level) ≡ true
    pub few : h.state.steps + k < 2 ^ 64 - 1
    pub line : length h.answers < length h.lines

  module _ (k : ℕ) (C : Changes k) where
    next_page : page_after_changes k ≡ page_next run + k
    next_page = omega arith

    -- The word that is found is the one that was seen.
    abbrev found : ℕ
    found = changed_words run k words area.Host (page_after_changes k)

    found_is : found ≡ word_seen run (page_after_changes k)
    found_is =
        let past : is_among (page_next run) k (page_after_changes k) ≡ false = grind (arith, nat_tests, next_page) in
        ap (λ (b : Bool). if b then word_given run (page_after_changes k) else words area.Host (page_after_changes k)) past ∙ C.seen

    won : (found == word_seen run (page_after_changes k)) ≡ true
    won = grind (arith, nat_tests, found_is)

    left_there : (b : Bool) → b ≡ true → (if b then word_given run (page_after_changes k) else found) ≡ word_given run (page_after_changes k)
    left_there b e = ap (λ (x : Bool). if x then word_given run (page_after_changes k) else found) e

    -- the step, where the run has several pages
    abbrev part_by : Bool → PartStep
    part_by b = if b then part.ChangeNext else part.Change (as_it_is (word_looked None))

    abbrev task_of_change : Bool → Task
    task_of_change b = part_task (part_by b) (own_index h) (topics_changed k) 0

    abbrev left : ℕ
    left = if found == word_seen run (page_after_changes k) then word_given run (page_after_changes k) else found

    words_next : (b : Area) (i : ℕ) → words_after (task_of_change true) (changed_words run k words) b i ≡ changed_words run (suc k) words b i
    words_next b i = by (number_of b == number_of area.Host)
      where
        by : (is : Bool)
            → (if is then upd (λ j. if is && is_among (page_next run) k j then word_given run j else words b j) (page_after_changes k) left else
            (λ j. if is && is_among (page_next run) k j then word_given run j else words b j)) i
            ≡ (if is && is_among (page_next run) (suc k) i then word_given run i else words b i)
        by true =
            one_more_changed (word_given run) (words b) (page_next run) k (page_after_changes k) left i next_page
            (left_there (found == word_seen run (page_after_changes k)) won)
        by false = refl

    abbrev answer : Bool → ℕ
    answer b = answer_in (task_of_change b) (changed_words run k words)

    abbrev waits : Bool → Bool
    waits b = waits_by (Some (part_by b)) (topics_changed k) (answer b) || false

    -- after a change that found v
    abbrev place_by : Bool → ℕ → HostRunPlace
    place_by b v =
        if b then (if v == word_seen run (page_after_changes k) then after_page (Some (run_after k)) else run_place.Change) else
        if v == word_looked None then run_place.End ends.Exclude else
        run_place.Change

    abbrev hand_by_test : Bool → Held
    hand_by_test b = record {
      state = record h.state {
        place = place.HostRun (place_by b (answer b));
        line = record h.state.line { command = ChangeRun page change };
        steps = steps_counted (waits b) (h.state.steps + k);
        delays = delays_counted (waits b) h.state.delays;
      };
      topics = topics_after h.state.sizes (kind_of_task h.state.sizes (task_of_change b)) (topics_changed k) (answer b);
      cached = flushed (kind_of_task h.state.sizes (task_of_change b)) h.cached (answer b);
      slots = h.slots;
      harvest = h.harvest;
      lines = h.lines;
      answers = h.answers;
    }

    stays : place_by true found ≡ run_place.Change
    stays =
        ap (λ (b : Bool). if b then after_page (Some (run_after k)) else run_place.Change) won
        ∙ ap (λ (b : Bool). if b then run_place.Change else run_place.End ends.Exclude) C.more

    topics_next : topics_after h.state.sizes (kind_of_task h.state.sizes (task_of_change true)) (topics_changed k) found ≡ topics_changed (suc k)
    topics_next =
        let sum : run.changed + k + 1 ≡ run.changed + suc k = omega arith in
        part_topics_is h.state.sizes part.ChangeNext (own_index h) (topics_changed k) 0 found C.several
        ∙ (ap (λ (b : Bool). run_changed b (topics_changed k)) won
        ∙ ap (λ n. record (topics_changed k) {
          invalidations = record h.topics.invalidations {
            own = record h.topics.invalidations.own { pages = Some (record run { changed = n }) };
          };
        }) sum)

    hand_next : hand_by_test true ≡ changes_series.hand (suc k)
    unfolding flushed
    hand_next =
        let sum : h.state.steps + k + 1 ≡ h.state.steps + suc k = omega arith in
        let steps : one_more (h.state.steps + k) ≡ h.state.steps + suc k = one_step_more (h.state.steps + k) C.few ∙ sum in
        λ s. hand_by (Goes (place.HostRun (stays s))) page change (steps s) (topics_next s) h

    pub changes_next_one : MakesNext changes_series k
    changes_next_one = record {
      words_go = λ b i. ap (λ (x : Bool). words_after (task_of_change x) (changed_words run k words) b i) C.several ∙ words_next b i;
      hand_goes = ap hand_by_test C.several ∙ hand_next;
      tells_it =
          ap (λ (b : Bool). told h.state.actor (tells_by b (answer b) ++ [])) C.several
          ∙ ap (λ (b : Bool). told h.state.actor ((if b then page_changed (Some (run_after k)) else []) ++ [])) won;
      has_line = C.line;
    }
      where
        tells_by : Bool → ℕ → List EventKind
        tells_by b v =
            if b then (if v == word_seen run (page_after_changes k) then page_changed (Some (run_after k)) else []) else
            if v == word_looked None then HostChanged page (entry_of (as_it_is (word_looked None))) ∷ [] else
            []
