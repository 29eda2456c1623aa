-- What the change of one small page owes flat memory, which is a run by itself: it stays as it is, and so does memory.
use Rattle.std.proofs.Common.{◌≡◌, inl, inr, ◌+◌, ◌*◌, ◌/◌, ◌<◌, ◌≤◌, ℕ, [], ◌∷◌, refl, sym, subst, ap, ◌∙◌, arith}
use Rattle.std.specs.Prelude.{Bool, false, ◌==◌, if◌then◌else◌, Some}
use Rattle.core_views.specs.declared.event.EventKind.TheVariants.{HostChanged}
use Rattle.core_views.specs.declared.host.HostEntry.{HostEntry}
use Rattle.core_views.specs.declared.place.EndPlace.TheVariants as ends
use Rattle.core_views.specs.declared.place.HostRunPlace.TheVariants.{Change, End}
use Rattle.core_views.specs.declared.place.Place.TheVariants as place
use Rattle.core_views.specs.declared.sizes.Sizes.{Sizes}
use Rattle.core_views.specs.declared.topics.Topics.{Topics}
use Rattle.core_views.specs.declared.trace.Command.{Command}
use Rattle.core_views.specs.declared.trace.Command.TheVariants.{ChangeRun}
use Rattle.core_views.specs.declared.trace.Line.{Line}
use Rattle.core_views.specs.declared.trace.RunChange.TheVariants.{Small}
use Rattle.core_views.specs.Flat.{Facts, Fresh, HasToSet, LineUnderWay, Stage}
use Rattle.core_views.specs.Host.{mapping}
use Rattle.core_views.specs.HostChanges.{Agree}
use Rattle.core_views.specs.HostRuns.{run_pages}
use Rattle.core_views.specs.Lawful.{HasWork}
use Rattle.core_views.specs.Past.{Past}
use Rattle.core_views.specs.SeenRuns.{MaySetRun}
use Rattle.core_views.specs.Stages.{set_one, stage_changed}
use Rattle.spte_words.specs.declared.area.Area.TheVariants as area
use Rattle.spte_words.specs.HostWords.{host_allows_write, host_frame, host_level, host_present}
use Rattle.part_steps.specs.declared.part_step.PartStep.TheVariants as part
use Rattle.part_steps.specs.declared.task.Task.{Task}
use Rattle.part_steps.specs.PageRuns.{is_several, run_of}
use Rattle.part_steps.specs.PartTasks.{own_index, page_looked, part_task, word_looked}
use Rattle.part_steps.specs.PartTopics.{part_topics}
use Rattle.mmu_core.specs.forms.host.HostSteps.{entry_of}
use Rattle.mmu_core.specs.forms.host_run.HostRunSteps.{as_it_is}
use Rattle.mmu_core.specs.invariant.TopicsInvariant.{TopicsInvariant}
use Rattle.mmu_core.specs.machine.View.{View, answer_in, upd}
use Rattle.mmu_core.proofs.forms.host.HostMakes.{page_finds}
use Rattle.mmu_core.proofs.machine.PartStepping.{IsPart}
use Rattle.mmu_core.proofs.words.HostStays.{same_frame}
use Rattle.mmu_core.proofs.words.PartTopics.{is_there, part_topics_is}
use Rattle.mmu_laws.specs.forms.host.HostStages.{HasNoted}
use Rattle.mmu_laws.specs.forms.host_run.HostRunStages.{ChangesUnder}
use Rattle.mmu_laws.proofs.flat.FlatSteps.{GoesBy, Ready, goes_by, topics_by}
use Rattle.mmu_laws.proofs.forms.host.ExchangeFlat.{lost_maps, memory_stays, won_maps}
use Rattle.mmu_laws.proofs.forms.host.HostEntries.{still_agree}
use Rattle.mmu_laws.proofs.steps.AllowedWords.{words_tell}

-- A small page is a run of one.
one_page : (level page other : ℕ) → level ≡ 1 → page / run_pages level * run_pages level ≤ other
    → other < page / run_pages level * run_pages level + run_pages level → other ≡ page
one_page level page other one =
    subst (λ l. page / run_pages l * run_pages l ≤ other → other < page / run_pages l * run_pages l + run_pages l → other ≡ page) (sym one)
    (λ low high. omega (arith, low, high))

module _ (z : Sizes) (v : View) (a : ℕ) (line : Line) (page : ℕ) (facts : Facts) (past : Past) (u : LineUnderWay)
    (M : IsPart z v a (part.Change (as_it_is (word_looked (v.hand a).topics.host)))) (P : TopicsInvariant z v)
    (R : Ready z v line (ChangeRun page Small) (place.HostRun Change) (v.hand a).topics facts u) (own : u.line ≡ line)
    (asked : u.line.command ≡ ChangeRun page Small) (works : HasWork z facts (v.hand a).state.actor u.line.command) (low : page < z.pages)
    (at : page_looked (v.hand a).topics.host ≡ page) (is : (v.hand a).topics.invalidations.own.pages ≡ Some (run_of page)) (fresh : u.stage ≡ Fresh)
    (N : HasNoted page (v.hand a).topics u.notes) where
  abbrev command : Command
  command = ChangeRun page Small

  abbrev t : Topics
  t = (v.hand a).topics

  abbrev host : ℕ → ℕ
  host = v.words area.Host

  abbrev looked : ℕ
  looked = word_looked t.host

  abbrev at_page : ℕ
  at_page = page_looked t.host

  abbrev put : ℕ
  put = as_it_is looked

  abbrev pub page_task : Task
  page_task = part_task (part.Change put) (own_index (v.hand a)) t 0

  stays_frame : host_frame put ≡ host_frame looked
  stays_frame = same_frame looked (host_present looked) (host_allows_write looked)

  -- The page's entry stays as it is.
  put_entry : entry_of put ≡ entry_of looked
  put_entry = (words_tell (host_allows_write looked) 0 looked).writes

  after_is : topics_by v a page_task ≡ part_topics (part.Change put) t (answer_in page_task v.words)
  after_is =
      part_topics_is (v.hand a).state.sizes (part.Change put) (own_index (v.hand a)) t 0 (answer_in page_task v.words)
      (is_there (part.Change put) (v.hand a) M.needs)

  -- ---- where it is won

  module _ (won : host at_page ≡ looked) where
    entry_now : facts.host page ≡ entry_of looked
    entry_now = R.refines.host page low ∙ ap entry_of (ap host (sym at) ∙ won)

    level_1 : host_level looked ≡ 1
    level_1 = let level = N.2.2 in let one = N.3 in omega (arith, level, one)

    may_set : MaySetRun z facts (v.hand a).state.actor u.line.command u.notes page (entry_of put)
    may_set = record {
      at = page;
      change = Small;
      asked = asked;
      works = works;
      seen = λ p. N.0;
      saw = record {
        own = N.1;
        looked = λ other among. ap u.notes.host (one_page N.0.level page other N.3 among.0 among.1) ∙ N.1;
      };
      fits = refl;
      agrees = subst (Agree N.0) (sym entry_now) N.2;
      agree = λ other among.
          subst (Agree N.0) (sym (ap facts.host (one_page N.0.level page other N.3 among.0 among.1) ∙ entry_now)) N.2;
      first = subst (λ l. page ≡ page / run_pages l * run_pages l) (sym N.3) (omega arith);
      entry_is = put_entry ∙ ap (λ (l : ℕ). record (entry_of looked) { level = l }) level_1 ∙ ap (λ (e : HostEntry). record e { level = 1 }) (sym entry_now);
    }

    stage_then : stage_changed u.line.command facts.host u.stage page (entry_of put) ≡ HasToSet (page + 1) 0 1
    stage_then =
        ap (λ (s : Stage). stage_changed u.line.command facts.host s page (entry_of put)) fresh
        ∙ (ap (λ (c : Command). stage_changed c facts.host Fresh page (entry_of put)) asked
        ∙ ap (λ n. set_one page n 1) (ap (λ (e : HostEntry). run_pages e.level) entry_now ∙ ap run_pages level_1))

    pub page_won : GoesBy z v a line command page_task (place.HostRun (End ends.Exclude)) (HostChanged page (entry_of put) ∷ []) facts past u
    page_won = record {
      allowed = (inr (inl (fresh, may_set)), tt);
      refines = record {
        slots = R.refines.slots;
        host = λ p lt. subst (λ q. mapping q (entry_of put) facts.host p
            ≡ entry_of (upd host at_page (if host at_page == looked then put else host at_page) p)) at
            (won_maps z host facts.host R.refines.host at_page looked put (entry_of put) won refl p lt);
        memory = memory_stays z host facts.host R.refines.host at_page looked put facts.memory (v.words area.Content) stays_frame R.refines.memory;
        paused = R.refines.paused;
        idle = R.refines.idle;
      };
      under = (own, (page + 1, 1, stage_then));
    }

  -- ---- where the page was brought in meanwhile

  pub page_lost : (host at_page == looked) ≡ false → GoesBy z v a line command page_task (place.HostRun Change) [] facts past u
  page_lost lost =
      goes_by z v a line command page_task facts past u (record {
        slots = R.refines.slots;
        host = lost_maps z host facts.host R.refines.host at_page looked put lost;
        memory = memory_stays z host facts.host R.refines.host at_page looked put facts.memory (v.words area.Content) stays_frame R.refines.memory;
        paused = R.refines.paused;
        idle = R.refines.idle;
      }) (place.HostRun Change) (
        own,
        subst (λ b. ChangesUnder b page Small (topics_by v a page_task) u) (sym one) (
          fresh,
          (
            N.0,
            N.1,
            subst (λ w. Agree N.0 (entry_of w)) (sym looked_now) (still_agree N.0 looked (host at_page) N.2 (page_finds z v a put P M)),
            N.3,
          ),
        ),
      )
    where
      one : is_several (topics_by v a page_task).invalidations.own.pages ≡ false
      one = ap (λ (x : Topics). is_several x.invalidations.own.pages) after_is ∙ ap is_several is

      looked_now : word_looked (topics_by v a page_task).host ≡ host at_page
      looked_now = ap (λ (x : Topics). word_looked x.host) after_is ∙ ap (λ (b : Bool). if b then put else host at_page) lost
