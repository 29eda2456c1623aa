-- What the step with which a fault brings its page in owes flat memory.
use Rattle.std.proofs.Common.{◌≡◌, ◌<◌, ℕ, [], ◌∷◌, ◌++◌, refl, sym, subst, ap, ◌∙◌, eqb-true}
use Rattle.std.specs.Prelude.{Bool, true, false, ◌==◌, if◌then◌else◌, Some}
use Rattle.core_views.specs.declared.event.EventKind.TheVariants.{BroughtIn}
use Rattle.core_views.specs.declared.host.HostEntry.{HostEntry}
use Rattle.core_views.specs.declared.place.AccessPlace.TheVariants.{Fault}
use Rattle.core_views.specs.declared.place.Cause.TheVariants.{Entry}
use Rattle.core_views.specs.declared.place.FaultEnd.TheVariants.{Retry}
use Rattle.core_views.specs.declared.place.FaultPlace.{FaultPlace}
use Rattle.core_views.specs.declared.place.FaultPlace.TheVariants.{Bring, End, Share}
use Rattle.core_views.specs.declared.place.Place.TheVariants as place
use Rattle.core_views.specs.declared.sizes.Sizes.{Sizes}
use Rattle.core_views.specs.declared.topics.Topics.{Topics}
use Rattle.core_views.specs.declared.trace.Command.TheVariants.{Access}
use Rattle.core_views.specs.declared.trace.Line.{Line}
use Rattle.core_views.specs.declared.trace.Op.{Op}
use Rattle.core_views.specs.Flat.{Facts, LineUnderWay}
use Rattle.core_views.specs.Host.{brought_in, is_denied}
use Rattle.core_views.specs.Lawful.{BringsIn, SawPage}
use Rattle.core_views.specs.Past.{Past}
use Rattle.core_views.specs.Slots.{is_write}
use Rattle.spte_words.specs.declared.area.Area.TheVariants as area
use Rattle.spte_words.specs.HostWords.{with_presence, host_frame, host_allows_write}
use Rattle.part_steps.specs.declared.part_step.PartStep.TheVariants as part
use Rattle.part_steps.specs.declared.task.Task.{Task}
use Rattle.part_steps.specs.PartTasks.{page_looked, word_looked}
use Rattle.mmu_core.specs.invariant.TopicsInvariant.{TopicsInvariant}
use Rattle.mmu_core.specs.forms.access.AccessSteps.{access_task}
use Rattle.mmu_core.specs.forms.access.FaultKnows.{FaultKnows}
use Rattle.mmu_core.specs.forms.access.FaultSteps.{host_word_at}
use Rattle.mmu_core.specs.forms.host.HostSteps.{entry_of}
use Rattle.mmu_core.specs.machine.View.{View}
use Rattle.mmu_core.proofs.held.LooksKept.{page_there}
use Rattle.mmu_core.proofs.machine.PartStepping.{IsPart}
use Rattle.mmu_laws.specs.flat.FlatInvariant.{NotedLook}
use Rattle.mmu_laws.proofs.forms.host.ExchangeFlat.{lost_maps, won_maps, left, memory_stays}
use Rattle.mmu_laws.proofs.flat.FlatSteps.{GoesBy, Ready, StepGoes, goes_by}
use Rattle.mmu_laws.proofs.steps.AllowedWords.{words_tell}
use Rattle.spte_words.specs.Areas.{content_index}
use Rattle.part_steps.specs.Tasks.{map_of}
use Rattle.mmu_core.proofs.words.HostStays.{same_frame}

module _ (z : Sizes) (v : View) (a : ℕ) (line : Line) (gfn word : ℕ) (op : Op) (facts : Facts) (past : Past) (u : LineUnderWay) where
  abbrev held : Topics
  held = (v.hand a).topics

  abbrev task : Task
  task = access_task (Fault Bring) (v.hand a) gfn word op

  abbrev page : ℕ
  page = page_looked held.host

  abbrev looked : ℕ
  looked = word_looked held.host

  abbrev ReadyHere : Type 0
  ReadyHere = Ready z v line (Access gfn word op) (place.Access (Fault Bring)) held facts u

  -- It saw the page that it looked at.
  saw_look : u.notes.paused ≡ Some false → NotedLook u.notes held.host gfn op → SawPage u.notes gfn op
  saw_look runs N = record {
    runs = runs;
    slots = N.slots;
    noted = N.noted;
    page = page;
    behind = N.behind;
    entry = entry_of looked;
    looked = N.looked;
    allows = N.allows;
  }

  -- where it goes on, won or lost
  abbrev lost : FaultPlace
  lost = End (Retry false (Entry (host_word_at (v.hand a).state.sizes held.host) looked (v.words area.Host page)))

  abbrev GoesOn : Bool → Type 0
  GoesOn won =
      GoesBy z v a line (Access gfn word op) task (place.Access (Fault (if won then Share else lost))) ((if won then BroughtIn page ∷ [] else []) ++ [])
      facts past u

  -- The frame stays, and so does memory.
  same_memory : (R : ReadyHere) → (p j : ℕ) → p < z.pages → j < z.words → facts.memory p j
      ≡ v.words area.Content (content_index (map_of z)
      (host_frame (left z (v.words area.Host) facts.host R.refines.host page looked (with_presence true looked) p)) j)
  same_memory R =
      memory_stays z (v.words area.Host) facts.host R.refines.host page looked (with_presence true looked) facts.memory (v.words area.Content)
      (same_frame looked true (host_allows_write looked)) R.refines.memory

  -- Where it is lost, it tells nothing.
  loses : ReadyHere → (v.words area.Host page == looked) ≡ false → GoesOn false
  loses R is =
      goes_by z v a line (Access gfn word op) task facts past u (record {
        slots = R.refines.slots;
        host = lost_maps z (v.words area.Host) facts.host R.refines.host page looked (with_presence true looked) is;
        memory = same_memory R;
        paused = R.refines.paused;
        idle = R.refines.idle;
      }) (place.Access (Fault lost)) (R.under.0, (R.under.1.0, tt))

  -- Where it is won, it brings the page in, which is as it looked at it.
  wins : line.command ≡ Access gfn word op → FaultKnows Bring (v.hand a).state.sizes gfn (is_write op) held → page < z.pages → ReadyHere
      → (v.words area.Host page == looked) ≡ true → GoesOn true
  wins is K low R won = record {
    allowed = ((R.under.1.0.0, may), tt);
    refines = record {
      slots = R.refines.slots;
      host = won_maps z (v.words area.Host) facts.host R.refines.host page looked (with_presence true looked) (brought_in (facts.host page)) found
          (ap brought_in now_ ∙ sym (words_tell true 0 looked).presence);
      memory = same_memory R;
      paused = R.refines.paused;
      idle = R.refines.idle;
    };
    under = (R.under.0, (R.under.1.0, saw_look R.under.1.0.1 R.under.1.1));
  }
    where
      found : v.words area.Host page ≡ looked
      found = eqb-true (v.words area.Host page) looked won

      now_ : facts.host page ≡ entry_of looked
      now_ = R.refines.host page low ∙ ap entry_of found

      may : BringsIn facts u.line.command u.notes page
      may = subst (λ c. BringsIn facts c u.notes page) (sym (ap (λ (l : Line). l.command) R.under.0 ∙ is)) (record {
        runs = R.under.1.0.1;
        slots = R.under.1.1.slots;
        noted = R.under.1.1.noted;
        behind = R.under.1.1.behind;
        looked = R.under.1.1.looked ∙ ap Some (sym now_);
        absent = ap (λ (e : HostEntry). e.present) now_ ∙ K.1.presence;
        allows = ap (is_denied op) now_ ∙ R.under.1.1.allows;
      })

  pub brings : line.command ≡ Access gfn word op → FaultKnows Bring (v.hand a).state.sizes gfn (is_write op) held → IsPart z v a part.Bring
      → TopicsInvariant z v → ReadyHere → StepGoes z v a line (Access gfn word op) (place.Access (Fault Bring)) facts past u
  brings is K S P R = by (v.words area.Host page == looked) refl
    where
      by : (won : Bool) → (v.words area.Host page == looked) ≡ won → GoesOn won
      by true won = wins is K (page_there z v a P S.there S.needs.looked) R won
      by false is_lost = loses R is_lost
