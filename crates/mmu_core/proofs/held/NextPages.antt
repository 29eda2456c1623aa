-- The page of a run that is changed next: it is on the run, is the actor's own, and has the word that was seen of it.
use Rattle.std.proofs.Common.{◌≡◌, ◌<◌, ℕ, sym, subst, ap, ◌∙◌, arith}
use Rattle.std.specs.Prelude.{Bool, true, ◌==◌, if◌then◌else◌, Option, Some}
use Rattle.std.proofs.lemmas.Bool.Decides.{nat_tests}
use Rattle.core_views.specs.declared.sizes.Sizes.{Sizes}
use Rattle.core_views.specs.declared.topics.PageRun.{PageRun}
use Rattle.core_views.specs.declared.topics.Topics.{Topics}
use Rattle.spte_words.specs.declared.area.Area.TheVariants as area
use Rattle.part_steps.specs.declared.part_step.PartStep.TheVariants as part
use Rattle.part_steps.specs.PageRuns.{IsOnRun, page_next, word_given, word_seen}
use Rattle.part_steps.specs.PartTasks.{page_to_change, word_next, word_to_give}
use Rattle.mmu_core.specs.invariant.HostWordsPart.{owns_page}
use Rattle.mmu_core.specs.invariant.RunsPart.{IsChanging, IsOfOwnPages}
use Rattle.mmu_core.specs.invariant.SearchPart.{IsInvalidating, IsOnPage}
use Rattle.mmu_core.specs.invariant.TopicsInvariant.{TopicsInvariant}
use Rattle.mmu_core.specs.machine.View.{View, part_stepped, upd}
use Rattle.mmu_core.proofs.held.NextSeen.{seen_changing, seen_on, seen_own, seen_there}
use Rattle.mmu_core.proofs.held.OwnPages.{owner_within}
use Rattle.mmu_core.proofs.machine.PartStepping.{IsPart}
use Rattle.mmu_core.proofs.words.PartTopics.{part_behind}

module _ (z : Sizes) (v : View) (a : ℕ) (S : IsPart z v a part.ChangeNext) (I : TopicsInvariant z v) where
  abbrev t : Topics
  t = (v.hand a).topics

  abbrev host : ℕ → ℕ
  host = v.words area.Host

  abbrev run : PageRun
  run = S.needs.run

  abbrev pub next_page : ℕ
  next_page = page_next run

  pub next_own : IsOfOwnPages z host a run
  next_own = seen_own z v a I S.there S.needs

  pub next_changing : IsChanging host run
  next_changing = seen_changing z v a I S.there S.needs

  pub next_on : IsOnRun next_page (Some run)
  next_on = seen_on z v a I S.there S.needs

  pub next_on_own : IsOnRun next_page t.invalidations.own.pages
  next_on_own = subst (IsOnRun next_page) (sym S.needs.is) next_on

  pub next_under : IsInvalidating (IsOnPage next_page) t
  next_under = record { opened = S.needs.opened; unraised = S.needs.unraised; of_it = next_on_own }

  pub next_owned : owns_page z a next_page ≡ true
  next_owned = next_own.owns next_page next_on

  pub next_there : next_page < z.pages
  next_there = owner_within z S.is_sizes a next_page next_owned

  -- It isn't changed yet.
  pub next_found : host next_page ≡ word_seen run next_page
  next_found = seen_there z v a I S.there S.needs

  next_won : (host next_page == word_seen run next_page) ≡ true
  next_won = let found = next_found in grind (arith, nat_tests)

  -- So its word is the one that is given to it, after the step.
  pub next_words : (note : ℕ) → (part_stepped a part.ChangeNext note v).words area.Host ≡ upd host next_page (word_given run next_page)
  next_words note =
      ap (λ (pages : Option PageRun). upd host (page_to_change pages)
      (if host (page_to_change pages) == word_next pages then word_to_give pages else host (page_to_change pages))) S.needs.is
      ∙ ap (λ (b : Bool). upd host next_page (if b then word_given run next_page else host next_page)) next_won

  pub next_words_behind : (note : ℕ) → (part_behind a part.ChangeNext note v).words area.Host ≡ upd host next_page (word_given run next_page)
  next_words_behind note = next_words note

  -- The step finds the word that it expects.
  pub next_is_won : (host (page_to_change t.invalidations.own.pages) == word_next t.invalidations.own.pages) ≡ true
  next_is_won = ap (λ (pages : Option PageRun). host (page_to_change pages) == word_next pages) S.needs.is ∙ next_won
