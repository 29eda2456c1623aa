-- Behind every run the tables that a walk has gone through are tables, where the walk says.
use Rattle.std.proofs.Common.{◌≡◌, ◌⊎◌, ◌<◌, ◌≤◌, ℕ, arith, inl, inr, refl, subst, sym, ap, ◌∙◌}
use Rattle.std.proofs.lemmas.Bool.{cases_lt}
use Rattle.std.specs.Prelude.{Some}
use Rattle.core_views.specs.declared.sizes.Sizes.{Sizes}
use Rattle.core_views.specs.Held.{Held}
use Rattle.core_views.specs.Sizes.{actors_of}
use Rattle.spte_words.specs.declared.area.Area.TheVariants as area
use Rattle.mmu_core.specs.invariant.AllOver.{AllOver, LeavesSay}
use Rattle.mmu_core.specs.machine.Enabled.{mmu}
use Rattle.mmu_core.specs.invariant.Laws.{IsSound}
use Rattle.mmu_core.specs.machine.Machine.{World, hand_in, run}
use Rattle.mmu_core.specs.invariant.TreePart.{HangsBelow, Position, at, stands}
use Rattle.mmu_core.specs.machine.View.{view, word_in}
use Rattle.mmu_laws.proofs.leaves.LeadsDown.{leads_linked}
use Rattle.mmu_laws.proofs.leaves.LeafLaws.{leaves_agree, leaves_say}
use Rattle.mmu_core.proofs.pages.TreePlaces.{root_stands}
use Rattle.mmu_core.proofs.pages.Linked.{path_linked, walk_linked}
use Rattle.mmu_core.proofs.pages.Paths.{whole_path}
use Rattle.core_theorem.specs.Leaves.{HeldLeavesAgree}
use Rattle.core_theorem.specs.Pages.{PagesAreUsed}
use Rattle.core_theorem.specs.Walks.{HoldsAt, PagesAreHeld, WalksHoldTables, span_at, table_at, walk_of}
use Rattle.core_theorem.proofs.Pages.{pages_are_used}
use Rattle.core_theorem.proofs.Runs.{sound}
use Rattle.core_theorem.proofs.SamePages.{over_in_both, same_places}

-- The tables that a walk holds stand at their levels.
pub stands_at : (z : Sizes) (u : World Held) (G : IsSound z u) (actor level : ℕ) → actor < actors_of z → HoldsAt level (walk_of u actor)
    → stands G.topics.up G.topics.spot (table_at level (walk_of u actor)) ≡ Some (at level (span_at level (walk_of u actor)))
stands_at z u G actor level there H =
    whole_path (stands G.topics.up G.topics.spot) (hand_in mmu u actor).topics (G.topics.held actor there) (G.topics.paths actor there) level
    H.some H.down H.up

-- And they are linked.
linked_at : (z : Sizes) (u : World Held) (G : IsSound z u) (actor level : ℕ) → actor < actors_of z → HoldsAt level (walk_of u actor)
    → HangsBelow G.topics.up (word_in z u area.Root 0) (table_at level (walk_of u actor))
linked_at z u G actor level there H = by (cases_lt (walk_of u actor).level level)
  where
    by : ((walk_of u actor).level < level) ⊎ (level ≤ (walk_of u actor).level)
        → HangsBelow G.topics.up (word_in z u area.Root 0) (table_at level (walk_of u actor))
    by (inl above) = path_linked z (view z u) G.topics actor level there H.some above H.up
    by (inr below) =
        let down = H.down in
        let same : (walk_of u actor).level ≡ level = omega (arith, down, below) in
        subst (λ n. HangsBelow G.topics.up (word_in z u area.Root 0) (table_at n (walk_of u actor))) same (walk_linked z (view z u) G.topics actor there H.some)

-- So they do in any account of the pages, since it agrees with the one that the sound world gives; and leaves say in it what they say in that one.
module _ (z : Sizes) (u : World Held) (G : IsSound z u) (pages : PagesAreUsed z u) where
  abbrev says : ℕ → ℕ → ℕ → Type 0
  says = LeavesSay (word_in z u area.Pool) (word_in z u area.Host) (word_in z u area.Slots 0)

  says_below : (k : ℕ) (p : Position) → HangsBelow G.topics.up (word_in z u area.Root 0) k → stands G.topics.up G.topics.spot k ≡ Some p
      → AllOver pages.up pages.spot (word_in z u area.Pool) k says
  says_below k p R at_k = over_in_both z u (pages_are_used z u G) pages says k p at_k (leaves_say z u G k R)

  holds_tables : PagesAreHeld z u pages
  holds_tables = record {
    walks = λ actor level there H. sym (same_places z u (pages_are_used z u G) pages _) ∙ stands_at z u G actor level there H;
    linked = says_below _ _ (0, refl) (root_stands G.topics.tree);
    reached = λ actor level there H. says_below _ _ (linked_at z u G actor level there H) (stands_at z u G actor level there H);
  }

pub walks_hold_tables : WalksHoldTables
walks_hold_tables z lines w ss R pages = holds_tables z (run mmu w ss) (sound z lines w ss R) pages

-- Links that lead on from them lead from the root through them.
pub held_leaves_are_linked : HeldLeavesAgree
held_leaves_are_linked z lines w ss R actor level gfn low entry there H small run_ leads leaf =
    let u : World Held = run mmu w ss in
    let G = sound z lines w ss R in
    let same =
    leads_linked z u gfn (table_at level (walk_of u actor)) level low entry G (linked_at z u G actor level there H)
    (stands_at z u G actor level there H ∙ ap (λ r. Some (at level r)) (sym run_)) in
    leaves_agree z u gfn low entry G small (same.above leads) leaf
