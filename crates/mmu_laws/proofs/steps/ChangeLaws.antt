-- What a hand holds that changes a host word: its own invalidation is open of a run that has the page, which is the next one to be changed.
use Rattle.std.proofs.Common.{◌≡◌, ◌≤◌, ℕ, refl, sym, subst, ap, ◌∙◌, arith}
use Rattle.std.specs.Prelude.{true, Option}
use Rattle.core_views.specs.declared.actor.Actor.{Actor}
use Rattle.core_views.specs.declared.actor.Actor.TheVariants.{Host}
use Rattle.core_views.specs.declared.kind.Kind.{Kind}
use Rattle.core_views.specs.declared.kind.StepKind.TheVariants as kind
use Rattle.core_views.specs.declared.sizes.Sizes.{Sizes}
use Rattle.core_views.specs.declared.topics.Topics.{Topics}
use Rattle.core_views.specs.declared.topics.PageRun.{PageRun}
use Rattle.core_views.specs.Held.{Held}
use Rattle.core_views.specs.HostChanges.{is_own}
use Rattle.core_views.specs.Sizes.{index_of}
use Rattle.spte_words.specs.declared.area.Area.TheVariants as area
use Rattle.spte_words.specs.Areas.{place as place_of}
use Rattle.part_steps.specs.declared.part_step.PartStep.{PartStep}
use Rattle.part_steps.specs.declared.part_step.PartStep.TheVariants as part
use Rattle.part_steps.specs.PageRuns.{page_next, run_of}
use Rattle.part_steps.specs.PartSteps.{needs_line}
use Rattle.part_steps.specs.PartTasks.{own_index, page_looked, page_to_change, part_task}
use Rattle.part_steps.specs.Tasks.{map_of}
use Rattle.mmu_core.specs.invariant.Laws.{IsSound}
use Rattle.mmu_core.specs.invariant.HostWordsPart.{owns_page}
use Rattle.mmu_core.specs.machine.Enabled.{mmu}
use Rattle.mmu_core.specs.machine.Machine.{May, Step, World, hand_in}
use Rattle.mmu_core.specs.machine.Steps.{place_at}
use Rattle.mmu_core.specs.machine.Turns.{line_of}
use Rattle.mmu_core.proofs.held.OwnPages.{thread_owns}
use Rattle.mmu_laws.specs.steps.InvalidationLaws.{ChangesAreInvalidated, ChangesOwnPage}
use Rattle.part_steps.proofs.PageRuns.{next_on_run}
use Rattle.mmu_core.proofs.words.RunSpans.{this_next}
use Rattle.spte_words.proofs.Spans.{spans}
use Rattle.mmu_laws.proofs.EachForm.{next_is_runs}
use Rattle.mmu_laws.proofs.forms.host_run.RunChangers.{setter_is_host}
use Rattle.mmu_laws.proofs.causes.MadeSteps.{Makes, in_machine, own_sizes, word_on}
use Rattle.mmu_laws.proofs.steps.KindLaws.{TakesStep, made, no_touch}

module _ (z : Sizes) (w : World Held) (s : Step Kind) (G : IsSound z w) (may : May mmu w s) where
  abbrev h : Held
  h = hand_in mmu w s.actor

  abbrev t : Topics
  t = h.topics

  changes_page : (new_ : ℕ) → Makes h s (part.Change new_) → ChangesOwnPage z w s
  changes_page new_ M =
      let N = M.needs.0 in
      let same = own_sizes z w s G may in
      record {
        page = page_looked t.host;
        on = word_on z w s G may (part.Change new_) M;
        own_ = subst (λ (y : Sizes). is_own y h.state.actor (page_looked t.host) ≡ true) same N.own_;
        opened = N.opened;
        unraised = N.unraised;
        run = run_of (page_looked t.host);
        invalid = N.invalid;
        on_run = refl;
        next = this_next (page_looked t.host);
        left = grind (arith, spans);
        asked = subst (λ (y : Sizes). y.vcpus ≤ t.flush.asked) same N.asked;
        awaited = subst (λ (y : Sizes). y.vcpus ≤ t.flush.awaited) same N.awaited;
      }

  -- The next page of a run of several.
  changes_next : Makes h s part.ChangeNext → TakesStep z w s G may part.ChangeNext → ChangesOwnPage z w s
  changes_next M L =
      let N = M.needs in
      let same = own_sizes z w s G may in
      let there = in_machine z w s G may in
      let own_ = G.topics.own_pages s.actor N.run there N.opened N.is in
      let on = (next_on_run N.run own_.level.0 (let most = own_.level.1 in omega (arith, most)) N.left).0 in
      record {
        page = page_next N.run;
        on = word_on z w s G may part.ChangeNext M ∙ ap (λ (pages : Option PageRun). place_of (map_of z) area.Host (page_to_change pages)) N.is;
        own_ = setter_owns (setter_is_host z (line_of h).actor (line_of h).command L.takes_.is_step.allowed
            (next_is_runs (place_at h.state.place h) (line_of h).command h L.at))
            (own_.owns (page_next N.run) on);
        opened = N.opened;
        unraised = N.unraised;
        run = N.run;
        invalid = N.is;
        on_run = on;
        next = refl;
        left = N.left;
        asked = subst (λ (y : Sizes). y.vcpus ≤ t.flush.asked) same N.asked;
        awaited = subst (λ (y : Sizes). y.vcpus ≤ t.flush.awaited) same N.awaited;
      }
    where
      setter_owns : (thread : ℕ) × ((line_of h).actor ≡ Host thread) → owns_page z s.actor (page_next M.needs.run) ≡ true
          → is_own z h.state.actor (page_next M.needs.run) ≡ true
      setter_owns T owns =
          let actor : h.state.actor ≡ Host T.0 = sym L.takes_.is_step.own ∙ T.1 in
          let index : index_of z (Host T.0) ≡ s.actor = ap (index_of z) (sym actor) ∙ (G.holds.lines s.actor (in_machine z w s G may)).index in
          ap (λ (x : Actor). is_own z x (page_next M.needs.run)) actor ∙ thread_owns z s.actor (page_next M.needs.run) T.0 index owns

  changing : (step : PartStep) (M : Makes h s step) → (needs_line step ≡ true → TakesStep z w s G may step)
      → (part_task step (own_index h) t M.note).kind ≡ kind.Change → ChangesOwnPage z w s
  changing (part.Change new_) M L is = changes_page new_ M
  changing part.ChangeNext M L is = changes_next M (L refl)
  changing (part.Fill value) M L is = absurd (cc is)
  changing _ M L is = absurd (cc is)

pub changes_are_invalidated : ChangesAreInvalidated
changes_are_invalidated z w s G may named =
    let M = made z w s G may kind.Change (no_touch kind.Change refl) named in changing z w s G may M.step M.makes M.of_line M.kind_is
