-- What is so of the entry at which a walk stands: what a load of it can find, and that it is in no page that the actor fills.
use Rattle.std.proofs.Common.{◌≡◌, ◌≢◌, inr, ◌<◌, ◌≤◌, ℕ, sym, subst, ap, ◌∙◌, arith}
use Rattle.core_views.specs.declared.kind.Kind.{Kind}
use Rattle.core_views.specs.declared.sizes.Sizes.{Sizes}
use Rattle.core_views.specs.declared.topics.Topics.{Topics}
use Rattle.core_views.specs.Held.{Held}
use Rattle.core_views.specs.Sizes.{actors_of}
use Rattle.spte_words.specs.declared.area.Area.TheVariants as area
use Rattle.spte_words.specs.declared.spte_kind.SpteKind.TheVariants as entry_kind
use Rattle.spte_words.specs.Areas.{pool_index}
use Rattle.spte_words.specs.Entries.{kind_of}
use Rattle.spte_words.proofs.Indices.{same_pool_word}
use Rattle.part_steps.specs.declared.part_step.PartStep.{PartStep}
use Rattle.part_steps.specs.declared.part_step.PartStep.TheVariants as part
use Rattle.mmu_core.specs.machine.Enabled.{mmu}
use Rattle.mmu_core.specs.invariant.Laws.{IsSound}
use Rattle.mmu_core.specs.machine.Machine.{May, Step, World, answered, hand_in}
use Rattle.part_steps.specs.PartTasks.{entry_index, page_owned, table_page, words_filled}
use Rattle.part_steps.specs.PartHoldings.{HasToFill}
use Rattle.mmu_core.specs.invariant.TreePart.{EntryPart, at}
use Rattle.mmu_core.specs.machine.View.{view, word_in}
use Rattle.mmu_core.proofs.invariant.AloneLaws.{part_found}
use Rattle.mmu_laws.proofs.causes.CauseSteps.{Spares, entry_unfrozen}
use Rattle.mmu_laws.proofs.causes.MadeSteps.{Makes, in_machine}
use Rattle.mmu_core.proofs.words.PartWords.{walks_unowned}
use Rattle.mmu_core.proofs.pages.Owned.{owned_some}

module _ (z : Sizes) (u : World Held) (s : Step Kind) (G : IsSound z u) (may : May mmu u s) where
  abbrev a : ℕ
  a = s.actor

  abbrev h : Held
  h = hand_in mmu u s.actor

  abbrev t : Topics
  t = h.topics

  -- what the step answers
  abbrev v : ℕ
  v = answered mmu u s.kind

  there : a < actors_of z
  there = in_machine z u s G may

  abbrev Made : PartStep → Type 0
  Made step = Makes h s step

  abbrev entry_at : ℕ → ℕ
  entry_at gfn = pool_index (table_page t.walk) (entry_index gfn t.walk.level)

  pub low : (gfn : ℕ) → entry_index gfn t.walk.level < 512
  low gfn = omega arith

  -- the entry that a walk loads isn't frozen
  pub unfrozen : (gfn : ℕ) (M : Made (part.Walk gfn)) → kind_of t.walk.level v ≢ entry_kind.Frozen
  unfrozen gfn M =
      let from : 1 ≤ t.walk.level = M.needs.0.there in
      let is : v ≡ word_in z u area.Pool (entry_at gfn) = ap (answered mmu u) M.is ∙ part_found z u a (part.Walk gfn) M.note G there M.needs in
      let most = G.holds.sizes.pool.1 in
      let at_page = (G.topics.held a there).table from in
      entry_unfrozen G.topics.tree (table_page t.walk) (at t.walk.level t.walk.prefix) (entry_index gfn t.walk.level) v (omega (arith, most)) at_page
      (subst (EntryPart G.topics.up (table_page t.walk) (at t.walk.level t.walk.prefix) (entry_index gfn t.walk.level)) (sym is)
      (G.topics.tree.entries (table_page t.walk) (at t.walk.level t.walk.prefix) at_page (entry_index gfn t.walk.level) (low gfn)))

  pub fill_spares : (gfn value note : ℕ) → HasToFill t → 1 ≤ t.walk.level → Spares area.Pool (entry_at gfn) h (part.Fill value) note
  fill_spares gfn value note F from = inr (λ e here.
      let o = owned_some t F.0 in
      let P = same_pool_word (page_owned t.owned) (table_page t.walk) (words_filled t.owned) (entry_index gfn t.walk.level) F.1 (low gfn) here in
      walks_unowned z (view z u) a there G.topics from a o.0 there o.1 (sym (ap page_owned o.1) ∙ P.0))
