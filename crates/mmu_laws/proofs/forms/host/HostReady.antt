-- What each step of a host line owes flat memory that tells nothing, and what is so at each of its places.
use Rattle.std.proofs.Common.{◌≡◌, ◌<◌, ℕ, [], Bool, true, false, sym, subst, ap, ◌∙◌}
use Rattle.core_views.specs.declared.place.HostPlace.{HostPlace}
use Rattle.core_views.specs.declared.place.Place.TheVariants as place
use Rattle.core_views.specs.declared.sizes.Sizes.{Sizes}
use Rattle.core_views.specs.declared.topics.Topics.{Topics}
use Rattle.core_views.specs.declared.trace.Command.TheVariants.{ChangeHost}
use Rattle.core_views.specs.declared.trace.HostChange.{HostChange}
use Rattle.core_views.specs.declared.trace.Line.{Line}
use Rattle.core_views.specs.Flat.{Facts, Fresh, LineUnderWay}
use Rattle.core_views.specs.Held.{Held}
use Rattle.core_views.specs.HostChanges.{Agree, is_own}
use Rattle.core_views.specs.Lawful.{answer_at_once}
use Rattle.core_views.specs.Past.{Past}
use Rattle.core_views.specs.Sizes.{actors_of}
use Rattle.core_views.proofs.HostLines.{owned_answer}
use Rattle.part_steps.specs.declared.task.Task.{Task}
use Rattle.part_steps.specs.PartTasks.{own_index, part_task, word_looked}
use Rattle.part_steps.specs.PartTopics.{part_topics}
use Rattle.mmu_core.specs.invariant.Invariant.{Invariant}
use Rattle.mmu_core.specs.invariant.TopicsInvariant.{TopicsInvariant}
use Rattle.mmu_core.specs.forms.host.HostSteps.{entry_of, host_note, host_part}
use Rattle.mmu_core.specs.machine.View.{View, answer_in}
use Rattle.mmu_core.proofs.forms.host.HostKept.{host_never, host_quiet, is_change}
use Rattle.mmu_core.proofs.forms.host.HostNeeds.{own_low}
use Rattle.mmu_core.proofs.machine.PartStepping.{IsPart}
use Rattle.mmu_core.proofs.machine.Stepping.{IsStep}
use Rattle.mmu_core.proofs.words.PartTopics.{is_there, part_topics_is}
use Rattle.mmu_laws.specs.flat.FlatInvariant.{HasNoted, HostUnder}
use Rattle.mmu_laws.proofs.flat.FlatSteps.{GoesBy, Ready, RefinesBy, goes_by, part_refines, topics_by}

-- The line has looked at its page, which is small, and has done nothing yet.
abbrev pub HasLooked : ℕ → Topics → LineUnderWay → Type 0
HasLooked page t u = (u.stage ≡ Fresh) × HasNoted page t u.notes

module _ (z : Sizes) (v : View) (a : ℕ) (line : Line) (page : ℕ) (change : HostChange) (facts : Facts) (past : Past) (u : LineUnderWay) where
  abbrev h : Held
  h = v.hand a

  abbrev pub HostTask : HostPlace → Task
  HostTask p = part_task (host_part p page change h) (own_index h) h.topics (host_note p page h)

  abbrev pub ReadyHost : HostPlace → Type 0
  ReadyHost p = Ready z v line (ChangeHost page change) (place.Host p) h.topics facts u

  -- what is held after the step of a place
  abbrev pub host_after : HostPlace → Topics
  host_after p = topics_by v a (HostTask p)

  -- After each of its steps but its change the words stand for the same facts.
  pub host_still : (p : HostPlace) → is_change p ≡ false → IsPart z v a (host_part p page change h) → TopicsInvariant z v → ReadyHost p
      → RefinesBy z v (HostTask p) facts
  host_still p other S P R =
      part_refines z v a (host_part p page change h) (host_note p page h) facts S P (host_never p page change h) (host_quiet p page change h other) R.refines

  -- It tells nothing, where it goes on at this place.
  pub host_tells_none : (p next : HostPlace) → is_change p ≡ false → IsPart z v a (host_part p page change h) → TopicsInvariant z v → ReadyHost p
      → (u.line ≡ line) × HostUnder next page (host_after p) u
      → GoesBy z v a line (ChangeHost page change) (HostTask p) (place.Host next) [] facts past u
  host_tells_none p next other S P R under =
      goes_by z v a line (ChangeHost page change) (HostTask p) facts past u (host_still p other S P R) (place.Host next) under

  -- What its actor holds after it, written out.
  pub host_after_is : (p : HostPlace) → IsPart z v a (host_part p page change h)
      → host_after p ≡ part_topics (host_part p page change h) h.topics (answer_in (HostTask p) v.words)
  host_after_is p S =
      part_topics_is h.state.sizes (host_part p page change h) (own_index h) h.topics (host_note p page h) (answer_in (HostTask p) v.words)
      (is_there (host_part p page change h) h S.needs)

  -- The word that was looked at stays, where it is none of the topics of the step.
  pub looked_still : (p : HostPlace) → IsPart z v a (host_part p page change h)
      → (part_topics (host_part p page change h) h.topics (answer_in (HostTask p) v.words)).host ≡ h.topics.host
      → word_looked (host_after p).host ≡ word_looked h.topics.host
  looked_still p S same = ap (λ (t : Topics). word_looked t.host) (host_after_is p S) ∙ ap word_looked same

  -- So what the line has noted of its page stays.
  pub noted_still : (p : HostPlace) → word_looked (host_after p).host ≡ word_looked h.topics.host → HasLooked page h.topics u → HasLooked page (host_after p) u
  noted_still p same L = (L.0, (L.1.0, L.1.1, subst (λ w. Agree L.1.0 (entry_of w)) (sym same) L.1.2, L.1.3))

  -- What the line is answered at once, by whether the page is its actor's own.
  pub host_at_once : (p : HostPlace) (own : Bool) → IsStep z v a line (ChangeHost page change) (place.Host p) → Invariant z v → u.line ≡ line
      → is_own h.state.sizes h.state.actor page ≡ own → answer_at_once z facts.slots facts.migration h.state.actor u.line.command ≡ owned_answer own
  host_at_once p own S I under is =
      ap (answer_at_once z facts.slots facts.migration h.state.actor) (ap (λ (l : Line). l.command) under ∙ S.command_is)
      ∙ ap owned_answer (ap (λ (y : Sizes). is_own y h.state.actor page) (sym (I.lines a S.there).sizes) ∙ is)

  -- Its page is one of the machine's.
  pub host_page_low : Invariant z v → a < actors_of z → is_own h.state.sizes h.state.actor page ≡ true → page < z.pages
  host_page_low I there own_ = own_low z h.state.actor page I.sizes (ap (λ (y : Sizes). is_own y h.state.actor page) (sym (I.lines a there).sizes) ∙ own_)
