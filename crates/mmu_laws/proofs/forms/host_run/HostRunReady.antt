-- What each step of a line that maps a run of host pages as one, or its pages by themselves, owes flat memory that tells nothing, and what is so at each of its
-- places.
use Rattle.std.proofs.Common.{◌≡◌, ◌<◌, ℕ, [], Bool, true, false, sym, ap, ◌∙◌}
use Rattle.core_views.specs.declared.place.HostRunPlace.{HostRunPlace}
use Rattle.core_views.specs.declared.place.Place.TheVariants as place
use Rattle.core_views.specs.declared.sizes.Sizes.{Sizes}
use Rattle.core_views.specs.declared.topics.Topics.{Topics}
use Rattle.core_views.specs.declared.trace.Command.TheVariants.{ChangeRun}
use Rattle.core_views.specs.declared.trace.Line.{Line}
use Rattle.core_views.specs.declared.trace.RunChange.{RunChange}
use Rattle.core_views.specs.Flat.{Facts, LineUnderWay}
use Rattle.core_views.specs.Held.{Held}
use Rattle.core_views.specs.HostChanges.{is_own}
use Rattle.core_views.specs.HostRuns.{owns_run}
use Rattle.core_views.specs.Lawful.{answer_at_once}
use Rattle.core_views.specs.Past.{Past}
use Rattle.core_views.specs.Sizes.{actors_of}
use Rattle.core_views.proofs.HostLines.{owned_answer}
use Rattle.part_steps.specs.declared.task.Task.{Task}
use Rattle.part_steps.specs.PartTasks.{own_index, part_task}
use Rattle.part_steps.specs.PartTopics.{part_topics}
use Rattle.mmu_core.specs.forms.host_run.HostRunSteps.{host_run_note, host_run_part}
use Rattle.mmu_core.specs.invariant.Invariant.{Invariant}
use Rattle.mmu_core.specs.invariant.TopicsInvariant.{TopicsInvariant}
use Rattle.mmu_core.specs.machine.View.{View, answer_in}
use Rattle.mmu_core.proofs.forms.host.HostNeeds.{own_low}
use Rattle.mmu_core.proofs.forms.host_run.HostRunKept.{host_run_never, host_run_quiet, is_change}
use Rattle.mmu_core.proofs.machine.PartStepping.{IsPart}
use Rattle.mmu_core.proofs.machine.Stepping.{IsStep}
use Rattle.mmu_core.proofs.words.PartTopics.{is_there, part_topics_is}
use Rattle.mmu_laws.specs.flat.FlatInvariant.{HostRunUnder}
use Rattle.mmu_laws.proofs.flat.FlatSteps.{GoesBy, Ready, RefinesBy, goes_by, part_refines, topics_by}

module _ (z : Sizes) (v : View) (a : ℕ) (line : Line) (page : ℕ) (change : RunChange) (facts : Facts) (past : Past) (u : LineUnderWay) where
  abbrev h : Held
  h = v.hand a

  abbrev pub RunTask : HostRunPlace → Task
  RunTask p = part_task (host_run_part p page change h) (own_index h) h.topics (host_run_note p change)

  abbrev pub ReadyRun : HostRunPlace → Type 0
  ReadyRun p = Ready z v line (ChangeRun page change) (place.HostRun p) h.topics facts u

  -- what is held after the step of a place
  abbrev pub run_after : HostRunPlace → Topics
  run_after p = topics_by v a (RunTask p)

  -- After each of its steps but a change the words stand for the same facts.
  pub run_still : (p : HostRunPlace) → is_change p ≡ false → IsPart z v a (host_run_part p page change h) → TopicsInvariant z v → ReadyRun p
      → RefinesBy z v (RunTask p) facts
  run_still p other S P R =
      part_refines z v a (host_run_part p page change h) (host_run_note p change) facts S P (host_run_never p page change h)
      (host_run_quiet p page change h other) R.refines

  -- It tells nothing, where it goes on at this place.
  pub run_tells_none : (p next : HostRunPlace) → is_change p ≡ false → IsPart z v a (host_run_part p page change h) → TopicsInvariant z v → ReadyRun p
      → (u.line ≡ line) × HostRunUnder next page change (run_after p) u
      → GoesBy z v a line (ChangeRun page change) (RunTask p) (place.HostRun next) [] facts past u
  run_tells_none p next other S P R under =
      goes_by z v a line (ChangeRun page change) (RunTask p) facts past u (run_still p other S P R) (place.HostRun next) under

  -- What its actor holds after it, written out.
  pub run_after_is : (p : HostRunPlace) → IsPart z v a (host_run_part p page change h)
      → run_after p ≡ part_topics (host_run_part p page change h) h.topics (answer_in (RunTask p) v.words)
  run_after_is p S =
      part_topics_is h.state.sizes (host_run_part p page change h) (own_index h) h.topics (host_run_note p change) (answer_in (RunTask p) v.words)
      (is_there (host_run_part p page change h) h S.needs)

  -- What the line is answered at once, by whether the run is its actor's own.
  pub run_at_once : (p : HostRunPlace) (own : Bool) → IsStep z v a line (ChangeRun page change) (place.HostRun p) → Invariant z v → u.line ≡ line
      → owns_run h.state.sizes h.state.actor page change ≡ own → answer_at_once z facts.slots facts.migration h.state.actor u.line.command ≡ owned_answer own
  run_at_once p own S I under is =
      ap (answer_at_once z facts.slots facts.migration h.state.actor) (ap (λ (l : Line). l.command) under ∙ S.command_is)
      ∙ ap owned_answer (ap (λ (y : Sizes). owns_run y h.state.actor page change) (sym (I.lines a S.there).sizes) ∙ is)

  -- A page of its own is one of the machine's.
  pub run_page_low : (other : ℕ) → Invariant z v → a < actors_of z → is_own h.state.sizes h.state.actor other ≡ true → other < z.pages
  run_page_low other I there own_ =
      own_low z h.state.actor other I.sizes (ap (λ (y : Sizes). is_own y h.state.actor other) (sym (I.lines a there).sizes) ∙ own_)
