-- What the owner of a run has seen of the page that it changes next is the page's word still.
use Rattle.std.proofs.Common.{◌≡◌, ◌<◌, ℕ, sym, ap, ◌∙◌, arith}
use Rattle.std.specs.Prelude.{Bool, false, if◌then◌else◌, nat_lt, Option, Some}
use Rattle.std.proofs.lemmas.Bool.Decides.{nat_tests}
use Rattle.core_views.specs.declared.sizes.Sizes.{Sizes}
use Rattle.core_views.specs.declared.topics.PageRun.{PageRun}
use Rattle.core_views.specs.Held.{Held}
use Rattle.core_views.specs.Sizes.{actors_of, index_of}
use Rattle.spte_words.specs.declared.area.Area.TheVariants as area
use Rattle.part_steps.specs.InvalidationHoldings.{MayChangeNext}
use Rattle.part_steps.specs.PageRuns.{IsOnRun, page_next, word_given, word_seen}
use Rattle.part_steps.specs.PartTasks.{page_to_change, word_next}
use Rattle.mmu_core.specs.invariant.RunsPart.{IsChanging, IsOfOwnPages}
use Rattle.mmu_core.specs.invariant.TopicsInvariant.{TopicsInvariant}
use Rattle.mmu_core.specs.machine.View.{View}
use Rattle.mmu_core.proofs.held.OwnPages.{OwnWords, own_words}
use Rattle.part_steps.proofs.PageRuns.{next_on_run}

-- The word of the page that is changed next is the one that was seen of it.
abbrev pub NextSeen : Held → (ℕ → ℕ) → Type 0
NextSeen h host =
    MayChangeNext h → host (page_to_change h.topics.invalidations.own.pages) ≡ word_next h.topics.invalidations.own.pages

-- What a hand has seen of its actor's own pages is their words still: of the one that it looked up, and of the one that it changes next.
pub record SeesOwn (h : Held) (host : ℕ → ℕ) : Type 0 where
  pub looked : OwnWords h host
  pub next : NextSeen h host

-- An actor that may change the next page of a run.
module _ (z : Sizes) (v : View) (a : ℕ) (I : TopicsInvariant z v) (there : a < actors_of z) (N : MayChangeNext (v.hand a)) where
  abbrev host : ℕ → ℕ
  host = v.words area.Host

  abbrev page : ℕ
  page = page_next N.run

  pub seen_own : IsOfOwnPages z host a N.run
  seen_own = I.own_pages a N.run there N.opened N.is

  pub seen_changing : IsChanging host N.run
  seen_changing = I.changes a N.run there N.opened N.unraised N.is N.several

  pub seen_on : IsOnRun page (Some N.run)
  seen_on = (next_on_run N.run seen_own.level.0 (let most = seen_own.level.1 in omega (arith, most)) N.left).0

  -- It isn't changed yet.
  pub seen_there : host page ≡ word_seen N.run page
  seen_there = seen_changing.words page seen_on ∙ ap (λ (b : Bool). if b then word_given N.run page else word_seen N.run page) (not_before page)
    where
      not_before : (n : ℕ) → nat_lt n n ≡ false
      not_before n = grind (arith, nat_tests)

pub next_seen : (z : Sizes) (v : View) (a : ℕ) → TopicsInvariant z v → a < actors_of z → NextSeen (v.hand a) (v.words area.Host)
next_seen z v a I there N =
    ap (λ (pages : Option PageRun). v.words area.Host (page_to_change pages)) N.is
    ∙ (seen_there z v a I there N ∙ ap (λ (pages : Option PageRun). word_next pages) (sym N.is))

pub sees_own : (z : Sizes) (v : View) (a : ℕ) → TopicsInvariant z v → a < actors_of z → (v.hand a).state.sizes ≡ z → index_of z (v.hand a).state.actor ≡ a
    → SeesOwn (v.hand a) (v.words area.Host)
sees_own z v a I there sizes at = record { looked = own_words z v a I there sizes at; next = next_seen z v a I there }
