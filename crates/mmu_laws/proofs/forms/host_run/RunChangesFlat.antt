-- What the changes of a run of several pages owe flat memory: each page is given the level for which the line asks, in its order, and memory stays.
use Rattle.std.proofs.Common.{◌≡◌, ◌⊎◌, inl, inr, ◌+◌, ◌-◌, ◌/◌, ◌<◌, ◌≤◌, ℕ, suc, [], ◌∷◌, refl, sym, subst, ap, ◌∙◌, arith}
use Rattle.std.specs.Option.{IfSome}
use Rattle.std.specs.Prelude.{Bool, true, false, ◌==◌, if◌then◌else◌, nat_lt, Option, Some}
use Rattle.std.proofs.lemmas.Bool.Decides.{nat_tests}
use Rattle.core_views.specs.declared.event.EventKind.TheVariants.{HostChanged}
use Rattle.core_views.specs.declared.host.HostEntry.{HostEntry}
use Rattle.core_views.specs.declared.place.EndPlace.TheVariants as ends
use Rattle.core_views.specs.declared.place.HostRunPlace.TheVariants.{Change, End}
use Rattle.core_views.specs.declared.place.Place.TheVariants as place
use Rattle.core_views.specs.declared.sizes.Sizes.{Sizes}
use Rattle.core_views.specs.declared.topics.PageRun.{PageRun}
use Rattle.core_views.specs.declared.topics.Topics.{Topics}
use Rattle.core_views.specs.declared.trace.Command.{Command}
use Rattle.core_views.specs.declared.trace.Command.TheVariants.{ChangeRun}
use Rattle.core_views.specs.declared.trace.Line.{Line}
use Rattle.core_views.specs.declared.trace.RunChange.{RunChange}
use Rattle.core_views.specs.Events.{under_after}
use Rattle.core_views.specs.Flat.{Facts, Fresh, HasToSet, LineUnderWay, Stage}
use Rattle.core_views.specs.Host.{HostMap, mapping}
use Rattle.core_views.specs.HostRuns.{IsAmong, level_set, run_count, run_first}
use Rattle.core_views.specs.Lawful.{HasWork, IsAllowed}
use Rattle.core_views.specs.Past.{Past}
use Rattle.core_views.specs.SeenRuns.{MaySetRun}
use Rattle.core_views.specs.Stages.{set_one, stage_changed}
use Rattle.spte_words.specs.declared.area.Area.TheVariants as area
use Rattle.spte_words.specs.Areas.{content_index}
use Rattle.spte_words.specs.Entries.{level_span}
use Rattle.spte_words.specs.HostWords.{host_allows_write, host_frame, host_level, host_present}
use Rattle.spte_words.proofs.ReadsHost.{host_has_frame}
use Rattle.part_steps.specs.declared.part_step.PartStep.TheVariants as part
use Rattle.part_steps.specs.declared.task.Task.{Task}
use Rattle.part_steps.specs.PageRuns.{IsOnRun, changed_more, is_several, level_put, page_next, run_start, word_given, word_in_row, word_seen}
use Rattle.part_steps.specs.PartTasks.{own_index, page_to_change, part_task, word_next, word_to_give}
use Rattle.part_steps.specs.Tasks.{map_of}
use Rattle.mmu_core.specs.forms.host.HostSteps.{entry_of, maps_large}
use Rattle.mmu_core.specs.forms.host_run.HostRunKnows.{ChangesRun}
use Rattle.mmu_core.specs.forms.host_run.HostRunSteps.{after_page}
use Rattle.mmu_core.specs.invariant.RunsPart.{IsChanging}
use Rattle.mmu_core.specs.invariant.TopicsInvariant.{TopicsInvariant}
use Rattle.mmu_core.specs.machine.View.{View, answer_in, upd}
use Rattle.mmu_core.proofs.held.NextPages.{next_changing, next_found, next_is_won, next_own, next_there}
use Rattle.mmu_core.proofs.held.OwnPages.{owner_within}
use Rattle.mmu_core.proofs.lines.EitherPlace.{one_place}
use Rattle.mmu_core.proofs.machine.PartStepping.{IsPart}
use Rattle.mmu_core.proofs.words.HostStays.{put_low}
use Rattle.mmu_core.proofs.words.PartTopics.{is_there, part_topics_is}
use Rattle.mmu_core.proofs.words.RunSpans.{on_run}
use Rattle.mmu_laws.specs.flat.FlatInvariant.{HostRunUnder}
use Rattle.mmu_laws.specs.forms.host_run.HostRunStages.{ChangesUnder, HasSeenRun, RunUnder, seen_row}
use Rattle.mmu_laws.proofs.flat.FlatSteps.{GoesBy, Ready, RefinesBy, topics_by}
use Rattle.mmu_laws.proofs.forms.host.ExchangeFlat.{memory_stays, won_maps}
use Rattle.mmu_laws.proofs.forms.host.HostEntries.{same_agree}
use Rattle.mmu_laws.proofs.forms.host_run.RunNotes.{own_among}
use Rattle.mmu_laws.proofs.forms.host_run.SetRuns.{IsSetRun, set_run}
use Rattle.mmu_laws.proofs.forms.host_run.SeenRows.{all_looked, same_level, seen_own}
use Rattle.mmu_laws.proofs.steps.AllowedWords.{entry_made}

module _ (z : Sizes) (v : View) (a : ℕ) (line : Line) (page : ℕ) (change : RunChange) (facts : Facts) (past : Past) (u : LineUnderWay)
    (M : IsPart z v a part.ChangeNext) (P : TopicsInvariant z v)
    (R : Ready z v line (ChangeRun page change) (place.HostRun Change) (v.hand a).topics facts u)
    (own : u.line ≡ line) (asked : u.line.command ≡ ChangeRun page change)
    (works : HasWork z facts (v.hand a).state.actor u.line.command) (C : ChangesRun page change M.needs.run) (under : RunUnder page change u M.needs.run) where
  abbrev command : Command
  command = ChangeRun page change

  abbrev t : Topics
  t = (v.hand a).topics

  abbrev host : ℕ → ℕ
  host = v.words area.Host

  abbrev run : PageRun
  run = M.needs.run

  abbrev next : ℕ
  next = page_next run

  abbrev given : ℕ
  given = word_given run next

  abbrev pub next_task : Task
  next_task = part_task part.ChangeNext (own_index (v.hand a)) t 0

  changing : IsChanging host run
  changing = next_changing z v a M P

  -- ---- the page's entry

  entry_now : facts.host next ≡ entry_of (word_seen run next)
  entry_now = R.refines.host next (next_there z v a M P) ∙ ap entry_of (next_found z v a M P)

  entry_then : entry_of given ≡ record (facts.host next) { level = level_set change }
  entry_then =
      entry_made (host_frame (word_seen run next)) (host_present (word_seen run next)) (host_allows_write (word_seen run next)) (level_put run)
      (put_low run (next_own z v a M P).level.1)
      ∙ (ap (λ (l : ℕ). record (entry_of (word_seen run next)) { level = l }) under.0
      ∙ ap (λ (e : HostEntry). record e { level = level_set change }) (sym entry_now))

  -- ---- the words after it

  abbrev facts_then : Facts
  facts_then = record facts { host = mapping next (entry_of given) facts.host }

  refines_then : RefinesBy z v next_task facts_then
  refines_then = record {
    slots = R.refines.slots;
    host = λ p lt.
        subst (λ (o : Option PageRun). mapping next (entry_of given) facts.host p
        ≡ entry_of (upd host (page_to_change o) (if host (page_to_change o) == word_next o then word_to_give o else host (page_to_change o)) p))
        (sym M.needs.is) (won_maps z host facts.host R.refines.host next (word_seen run next) given (entry_of given) (next_found z v a M P) refl p lt);
    memory = λ p j low below.
        subst (λ (o : Option PageRun). facts.memory p j ≡ v.words area.Content (content_index (map_of z) (host_frame
        (upd host (page_to_change o) (if host (page_to_change o) == word_next o then word_to_give o else host (page_to_change o)) p)) j)) (sym M.needs.is)
        (memory_stays z host facts.host R.refines.host next (word_seen run next) given facts.memory (v.words area.Content)
        same_frame R.refines.memory p j low below);
    paused = R.refines.paused;
    idle = R.refines.idle;
  }
    where
      same_frame : host_frame given ≡ host_frame (word_seen run next)
      same_frame =
          host_has_frame (host_frame (word_seen run next)) (host_present (word_seen run next)) (host_allows_write (word_seen run next)) (level_put run)
          (put_low run (next_own z v a M P).level.1)

  -- ---- that it may be changed so

  module _ (none : run.changed ≡ 0) (saw : HasSeenRun page change run.word u.notes) where
    unchanged_word : (other : ℕ) → IsOnRun other (Some run) → host other ≡ word_seen run other
    unchanged_word other on = changing.words other on ∙ not_yet (nat_lt other next) refl
      where
        low : run_start run ≤ other
        low = (on_run run other (let from = C.level.0 in omega (arith, from)) (let most = C.level.1 in omega (arith, most)) on).0

        not_yet : (b : Bool) → nat_lt other next ≡ b → (if b then word_given run other else word_seen run other) ≡ word_seen run other
        not_yet true e = absurd (let before : other < next = grind (arith, nat_tests) in let from = low in omega (arith, before, from, none))
        not_yet false e = refl

    word_now : host run.first ≡ run.word
    word_now = unchanged_word run.first refl ∙ (let same : word_in_row run.word run.first run.first ≡ run.word = omega arith in same)

    own_there : run.first < z.pages
    own_there = owner_within z M.is_sizes a run.first ((next_own z v a M P).owns run.first refl)

    level_1 : maps_large run.word ≡ false → host_level run.word ≡ 1
    level_1 small =
        let least = subst (λ w. 1 ≤ host_level w) word_now (P.hosts run.first own_there).2 in
        same_level (host_level run.word) 1 least small (omega arith) refl

    Q : IsSetRun page change run
    Q = set_run page change run C (λ small. (changing.begins (level_1 small)).0)

    abbrev seen : HostMap
    seen = seen_row run.word page

    own_is : seen page ≡ entry_of run.word
    own_is = seen_own run.word page

    -- Each page of the run is mapped as it was seen.
    unchanged : (other : ℕ) → IsOnRun other (Some run) → seen other ≡ facts.host other
    unchanged other on =
        ap entry_of (ap (λ p. word_in_row run.word p other) (sym C.first) ∙ sym (unchanged_word other on))
        ∙ sym (R.refines.host other (owner_within z M.is_sizes a other ((next_own z v a M P).owns other on)))

    own_on : IsOnRun page (Some run)
    own_on = subst (λ p. p / level_span run.level ≡ run.first / level_span run.level) C.first refl

    -- What holds of the pages that the line sets, as it saw its own.
    among_is : (other : ℕ) → IsAmong (run_first change page (seen page)) (run_count change (seen page)) other
        → IsAmong (run_first change page (entry_of run.word)) (run_count change (entry_of run.word)) other
    among_is other among = subst (λ (e : HostEntry). IsAmong (run_first change page e) (run_count change e) other) own_is among

    first_set : MaySetRun z facts (v.hand a).state.actor u.line.command u.notes next (entry_of given)
    first_set = record {
      at = page;
      change = change;
      asked = asked;
      works = works;
      seen = seen;
      saw = record {
        own = saw.row page (inl refl);
        looked = λ other among.
            saw.row other (all_looked (run_first change page (entry_of run.word)) (run_count change (entry_of run.word)) page other
            (own_among change page (entry_of run.word)) (among_is other among));
      };
      fits = saw.fits;
      agrees = same_agree (seen page) (facts.host page) (unchanged page own_on);
      agree = λ other among. same_agree (seen other) (facts.host other) (unchanged other (Q.on other (among_is other among)));
      first =
          (let same : next ≡ run_start run = omega (arith, none) in same) ∙ (Q.first ∙ ap (run_first change page) (sym own_is));
      entry_is = entry_then;
    }

    first_stage : u.stage ≡ Fresh → stage_changed u.line.command facts.host u.stage next (entry_of given)
        ≡ set_one next (level_span run.level - run.changed) (level_set change)
    first_stage fresh =
        ap (λ (s : Stage). stage_changed u.line.command facts.host s next (entry_of given)) fresh
        ∙ (ap (λ (c : Command). stage_changed c facts.host Fresh next (entry_of given)) asked
        ∙ ap (λ n. set_one next n (level_set change))
        (ap (run_count change) (sym (unchanged page own_on) ∙ own_is)
        ∙ (Q.count ∙ (let same : level_span run.level ≡ level_span run.level - run.changed = omega (arith, none) in same))))

  -- The page may be changed so: it is the first one of the run, or a later one.
  may_set : IsAllowed z facts past (v.hand a).state.actor u (HostChanged next (entry_of given))
  may_set = by under.1
    where
      by : ((run.changed ≡ 0) × (u.stage ≡ Fresh) × HasSeenRun page change run.word u.notes)
          ⊎ (u.stage ≡ HasToSet next (level_span run.level - run.changed) (level_set change))
          → IsAllowed z facts past (v.hand a).state.actor u (HostChanged next (entry_of given))
      by (inl F) = inr (inl (F.1, first_set F.0 F.2))
      by (inr stands) = inr (inr (record {
        at = page;
        change = change;
        asked = asked;
        left = level_span run.level - run.changed - 1;
        stands = stands ∙ ap (λ n. HasToSet next n (level_set change)) (let left = C.left in omega (arith, left));
        entry_is = entry_then;
      }))

  stage_then : stage_changed u.line.command facts.host u.stage next (entry_of given)
      ≡ HasToSet (next + 1) (level_span run.level - (run.changed + 1)) (level_set change)
  stage_then = by under.1 ∙ (ap (λ n. set_one next n (level_set change)) one_less ∙ ap (λ n. HasToSet (next + 1) n (level_set change)) rest)
    where
      one_less : level_span run.level - run.changed ≡ suc (level_span run.level - (run.changed + 1))
      one_less = let left = C.left in omega (arith, left)

      rest : level_span run.level - (run.changed + 1) ≡ level_span run.level - (run.changed + 1)
      rest = refl

      by : ((run.changed ≡ 0) × (u.stage ≡ Fresh) × HasSeenRun page change run.word u.notes)
          ⊎ (u.stage ≡ HasToSet next (level_span run.level - run.changed) (level_set change))
          → stage_changed u.line.command facts.host u.stage next (entry_of given) ≡ set_one next (level_span run.level - run.changed) (level_set change)
      by (inl F) = first_stage F.0 F.2 F.1
      by (inr stands) = ap (λ (s : Stage). stage_changed u.line.command facts.host s next (entry_of given)) stands

  -- ---- the step

  -- the line under way after it
  abbrev u_then : LineUnderWay
  u_then = under_after (HostChanged next (entry_of given)) facts u

  abbrev run_then : PageRun
  run_then = record run { changed = run.changed + 1 }

  pages_then : (topics_by v a next_task).invalidations.own.pages ≡ Some run_then
  pages_then =
      ap (λ (x : Topics). x.invalidations.own.pages)
      (part_topics_is (v.hand a).state.sizes part.ChangeNext (own_index (v.hand a)) t 0 (answer_in next_task v.words)
      (is_there part.ChangeNext (v.hand a) M.needs))
      ∙ (ap (λ (b : Bool). changed_more b t.invalidations.own.pages) (next_is_won z v a M P) ∙ ap (changed_more true) M.needs.is)

  under_then : HostRunUnder (after_page (Some run)) page change (topics_by v a next_task) u_then
  under_then =
      one_place (λ q. HostRunUnder q page change (topics_by v a next_task) u_then) (nat_lt (run.changed + 1) (level_span run.level)) Change (End ends.Exclude)
      (λ more. subst (λ b. ChangesUnder b page change (topics_by v a next_task) u_then) (sym several)
      (subst (λ (o : Option PageRun). IfSome o (RunUnder page change u_then)) (sym pages_then) (
        under.0,
        inr (stage_then ∙ ap (λ n. HasToSet n (level_span run.level - (run.changed + 1)) (level_set change)) further),
      )))
      (λ last. (next + 1, level_set change, stage_then ∙ ap (λ n. HasToSet (next + 1) n (level_set change)) (all_set last)))
    where
      all_set : nat_lt (run.changed + 1) (level_span run.level) ≡ false → level_span run.level - (run.changed + 1) ≡ 0
      all_set last =
          let left = C.left in
          let all : level_span run.level ≤ run.changed + 1 = grind (arith, nat_tests) in
          omega (arith, all)

      further : next + 1 ≡ page_next run_then
      further = omega arith

      several : is_several (topics_by v a next_task).invalidations.own.pages ≡ true
      several = ap is_several pages_then ∙ (let from = C.level.0 in let test : nat_lt 1 run.level ≡ true = grind (arith, nat_tests) in test)

  pub next_flat : GoesBy z v a line command next_task (place.HostRun (after_page (Some run))) (HostChanged next (entry_of given) ∷ []) facts past u
  next_flat = record { allowed = (may_set, tt); refines = refines_then; under = (own, under_then) }
