-- Each event that a line tells which maps a run of host pages as one, or its pages by themselves, is of the word of its step, and of what this
-- finds and leaves.
use Rattle.std.proofs.Common.{◌≡◌, eqb-true, ℕ, [], ◌∷◌, refl, ap}
use Rattle.std.proofs.lemmas.List.Elements.{All-cons}
use Rattle.std.specs.Prelude.{Bool, true, false, ◌==◌, if◌then◌else◌, Option, None, Some}
use Rattle.core_views.specs.declared.answer.Answer.TheVariants.{Refused}
use Rattle.core_views.specs.declared.answer.Refusal.TheVariants.{OutOfRange}
use Rattle.core_views.specs.declared.event.EventKind.TheVariants.{HostChanged, LookedAtHost}
use Rattle.core_views.specs.declared.kind.Kind.{Kind}
use Rattle.core_views.specs.declared.place.HostRunPlace.{HostRunPlace}
use Rattle.core_views.specs.declared.place.HostRunPlace.TheVariants.{Change, Look, LookOn}
use Rattle.core_views.specs.declared.place.Place.TheVariants as place
use Rattle.core_views.specs.declared.sizes.Sizes.{Sizes}
use Rattle.core_views.specs.declared.topics.PageRun.{PageRun}
use Rattle.core_views.specs.declared.trace.Command.{Command}
use Rattle.core_views.specs.declared.trace.Command.TheVariants.{ChangeRun}
use Rattle.core_views.specs.declared.trace.RunChange.{RunChange}
use Rattle.core_views.specs.Held.{Held}
use Rattle.core_views.specs.HostRuns.{owns_run}
use Rattle.spte_words.specs.Areas.{place as place_of}
use Rattle.spte_words.specs.declared.area.Area.TheVariants as area
use Rattle.part_steps.specs.declared.part_step.PartStep.TheVariants as part
use Rattle.part_steps.specs.PageRuns.{is_several, one_look}
use Rattle.part_steps.specs.PartTasks.{changes_next, own_index, page_looked, part_task, word_looked, word_next}
use Rattle.part_steps.specs.Tasks.{kind_of_task, map_of}
use Rattle.mmu_core.specs.declared.outcome.Outcome.{Outcome}
use Rattle.mmu_core.specs.declared.outcome.Outcome.TheVariants.{Ends}
use Rattle.mmu_core.specs.forms.access.AccessSteps.{exiting}
use Rattle.mmu_core.specs.forms.host.HostSteps.{entry_of}
use Rattle.mmu_core.specs.forms.host_run.HostRunKnows.{ChangesPages, HostRunKnows}
use Rattle.mmu_core.specs.forms.host_run.HostRunSteps.{after_run_look, as_it_is, host_run_note, host_run_outcome, page_after, page_changed}
use Rattle.mmu_core.specs.lines.Forms.{outcome_at, tells_at}
use Rattle.mmu_core.specs.machine.Steps.{task_at}
use Rattle.mmu_laws.specs.steps.EventLaws.{MayTellOf}
use Rattle.mmu_laws.proofs.steps.MayTells.{AllMay, exits_so, none, one}

module _ (h : Held) (v : ℕ) where
  abbrev z : Sizes
  z = h.state.sizes

  abbrev pages : Option PageRun
  pages = h.topics.invalidations.own.pages

  abbrev word : ℕ
  word = word_looked h.topics.host

  -- the first look
  look_told : (own : Bool) (page : ℕ) (command : Command) (o : Outcome)
      → AllMay z h v command (if own then o else Ends (Refused OutOfRange))
      (kind_of_task z (part_task (if own then part.Host page else part.Seq) (own_index h) h.topics 1))
      (if own then LookedAtHost page ∷ exiting (if own then o else Ends (Refused OutOfRange)) else [])
  look_told true page command o =
      let k : Kind = kind_of_task z (part_task (part.Host page) (own_index h) h.topics 1) in
      All-cons (MayTellOf z h command o k v) (LookedAtHost page) _ (record { kind_is = refl; on = refl }) (exits_so z h v command k o)
  look_told false page command o = none z h v _ _ _

  -- the change of the next page of a run, and of one page
  next_told : (command : Command) (o : Outcome) (run : Option PageRun) (won : Bool) → (v == word_next run) ≡ won
      → AllMay z h v command o (kind_of_task z (changes_next run 0)) (if won then page_changed run else [])
  next_told command o None won is = nothing won
    where
      nothing : (b : Bool) → AllMay z h v command o (kind_of_task z (changes_next None 0)) (if b then [] else [])
      nothing true = none z h v _ _ _
      nothing false = none z h v _ _ _
  next_told command o (Some run) true is =
      one z h v _ _ _ _ (record { at = record { kind_is = refl; on = refl }; won = eqb-true v (word_next (Some run)) is; leaves = refl })
  next_told command o (Some run) false is = none z h v _ _ _

  page_told : (command : Command) (o : Outcome) (page : ℕ) (won : Bool) → (v == word) ≡ won → page_looked h.topics.host ≡ page
      → AllMay z h v command o (kind_of_task z (part_task (part.Change (as_it_is word)) (own_index h) h.topics 0))
      (if won then HostChanged page (entry_of (as_it_is word)) ∷ [] else [])
  page_told command o page true is at =
      one z h v _ _ _ _ (record {
        at = record { kind_is = refl; on = ap (λ (i : ℕ). place_of (map_of z) area.Host i) at };
        won = eqb-true v word is;
        leaves = refl;
      })
  page_told command o page false is at = none z h v _ _ _

  change_told : (several : Bool) (page : ℕ) (change : RunChange) (o : Outcome) → ChangesPages several page change h
      → AllMay z h v (ChangeRun page change) o
      (kind_of_task z (part_task (if several then part.ChangeNext else part.Change (as_it_is word)) (own_index h) h.topics 0))
      (if several then (if v == word_next pages then page_changed pages else []) else
      if v == word then HostChanged page (entry_of (as_it_is word)) ∷ [] else [])
  change_told true page change o K = next_told (ChangeRun page change) o pages (v == word_next pages) refl
  change_told false page change o K = page_told (ChangeRun page change) o page (v == word) refl K.looks.at

  pub host_run_told : (p : HostRunPlace) (page : ℕ) (change : RunChange) → HostRunKnows p page change h
      → AllMay z h v (ChangeRun page change) (outcome_at (place.HostRun p) (ChangeRun page change) h v)
      (kind_of_task z (task_at (place.HostRun p) (ChangeRun page change) h)) (tells_at (place.HostRun p) (ChangeRun page change) h v)
  host_run_told Look page change K =
      look_told (owns_run z h.state.actor page change) page (ChangeRun page change) (after_run_look change (record { page = page; word = v }) one_look v)
  host_run_told LookOn page change K =
      let other : ℕ = page_after page change h.topics in
      let o : Outcome = host_run_outcome LookOn page change h v in
      let k : Kind = kind_of_task z (part_task (part.HostOn other) (own_index h) h.topics (host_run_note LookOn change)) in
      All-cons (MayTellOf z h (ChangeRun page change) o k v) (LookedAtHost other) _ (record { kind_is = refl; on = refl })
      (exits_so z h v (ChangeRun page change) k o)
  host_run_told Change page change K =
      change_told (is_several pages) page change (outcome_at (place.HostRun Change) (ChangeRun page change) h v) K.2
  host_run_told _ page change K = none z h v _ _ _
