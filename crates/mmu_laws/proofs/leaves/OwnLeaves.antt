-- A leaf that an actor's walk has loaded, in a section or stay: its own step has loaded it, and it stands in its table, or it has held it before.
use Rattle.std.proofs.Common.{◌≡◌, ◌⊎◌, inl, inr, ◌<◌, ℕ, refl, subst, ap, arith}
use Rattle.std.specs.Prelude.{Bool, true, false, ◌==◌, not, if◌then◌else◌, Option, Some, None}
use Rattle.core_views.specs.declared.sizes.Sizes.{Sizes}
use Rattle.core_views.specs.declared.topics.Stay.TheVariants.{Outside}
use Rattle.core_views.specs.declared.topics.TableWalk.{TableWalk}
use Rattle.core_views.specs.declared.topics.Topics.{Topics}
use Rattle.spte_words.specs.declared.area.Area.TheVariants as area
use Rattle.spte_words.specs.Areas.{pool_index}
use Rattle.spte_words.specs.Entries.{kind_of}
use Rattle.part_steps.specs.declared.part_step.PartStep.{PartStep}
use Rattle.part_steps.specs.declared.part_step.PartStep.TheVariants as part
use Rattle.part_steps.specs.PartTasks.{entry_index, table_page}
use Rattle.part_steps.specs.StayTopics.{is_outside, kept_walk}
use Rattle.part_steps.specs.WalkTopics.{gone_down, linked_page, swapped}
use Rattle.mmu_core.specs.machine.View.{View, upd}
use Rattle.mmu_core.proofs.machine.Columns.{upd_same}
use Rattle.mmu_core.proofs.machine.PartStepping.{IsPart}
use Rattle.mmu_core.proofs.words.PartTopics.{part_behind, stepped_hand}
use Rattle.mmu_laws.specs.leaves.LoadedLeaves.{HasLeafTo}

-- The entry that its walk has loaded is the one that stands in its table.
abbrev pub StandsThere : (ℕ → ℕ) → TableWalk → Type 0
StandsThere pool walk = pool (pool_index (table_page walk) walk.index) ≡ walk.entry

-- An entry was loaded: the walk stays where it is no link, and goes down to a table of which it has loaded none yet.
pub gone_found : (pool : ℕ → ℕ) (walk : TableWalk) (j w : ℕ) (o : Option ℕ) → pool (pool_index (table_page walk) j) ≡ w → (gone_down o walk j w).index < 512
    → StandsThere pool (gone_down o walk j w)
gone_found pool walk j w None is low = is
gone_found pool walk j w (Some page) is low = absurd (omega (arith, low))

swap_found : (pool : ℕ → ℕ) (walk : TableWalk) (j new_ : ℕ) (won : Bool)
    → (swapped won walk j new_ (pool (pool_index (table_page walk) j))).index < 512
    → StandsThere (upd pool (pool_index (table_page walk) j) (if won then new_ else pool (pool_index (table_page walk) j)))
    (swapped won walk j new_ (pool (pool_index (table_page walk) j)))
swap_found pool walk j new_ true low =
    gone_found (upd pool (pool_index (table_page walk) j) new_) walk j new_ (linked_page (kind_of walk.level new_))
    (upd_same pool (pool_index (table_page walk) j) new_) low
swap_found pool walk j new_ false low =
    let here : ℕ = pool (pool_index (table_page walk) j) in
    gone_found (upd pool (pool_index (table_page walk) j) here) walk j here None (upd_same pool (pool_index (table_page walk) j) here) low

-- A leaf that the actor's walk holds after the step, in a section or stay, it has held before, there; or it stands in its table.
abbrev pub OwnLeaf : View → ℕ → ℕ → PartStep → Type 0
OwnLeaf v a note step =
    (frame : ℕ) → is_outside (stepped_hand a step note v).topics.stay ≡ false → HasLeafTo frame (stepped_hand a step note v).topics.walk
    → (HasLeafTo frame (v.hand a).topics.walk × (is_outside (v.hand a).topics.stay ≡ false))
    ⊎ StandsThere ((part_behind a step note v).words area.Pool) (stepped_hand a step note v).topics.walk

let_go_leaf : (t : Topics) (frame : ℕ) → is_outside t.stay ≡ false → HasLeafTo frame (kept_walk (not (is_outside t.stay)) t.walk) → HasLeafTo frame t.walk
let_go_leaf t frame inside H = subst (λ (b : Bool). HasLeafTo frame (kept_walk (not b) t.walk)) inside H

-- Who is outside holds none there.
pub never : {X : Type 0} (t : Topics) → t.stay ≡ Outside → is_outside t.stay ≡ false → X
never t out inside = let is : is_outside t.stay ≡ true = ap is_outside out in absurd (cc (is, inside))

pub own_leaf : (z : Sizes) (v : View) (a note : ℕ) (step : PartStep) → IsPart z v a step → OwnLeaf v a note step
own_leaf z v a note part.Enter S frame inside H = let from = H.from in absurd (omega (arith, from))
own_leaf z v a note part.Leave S frame inside H = let from = H.from in absurd (omega (arith, from))
own_leaf z v a note part.Begin S frame inside H = let from = H.from in absurd (omega (arith, from))
own_leaf z v a note part.End S frame inside H = let from = H.from in absurd (omega (arith, from))
own_leaf z v a note part.Unshare S frame inside H = inl (let_go_leaf (v.hand a).topics frame inside H, inside)
own_leaf z v a note part.Release S frame inside H = inl (let_go_leaf (v.hand a).topics frame inside H, inside)
own_leaf z v a note part.Root S frame inside H = let low = H.loaded in absurd (omega (arith, low))
own_leaf z v a note (part.Walk gfn) S frame inside H =
    let walk : TableWalk = (v.hand a).topics.walk in
    let w : ℕ = v.words area.Pool (pool_index (table_page walk) (entry_index gfn walk.level)) in
    inr (gone_found (v.words area.Pool) walk (entry_index gfn walk.level) w (linked_page (kind_of walk.level w)) refl H.loaded)
own_leaf z v a note (part.Sweep gfn) S frame inside H = never (v.hand a).topics S.needs.outside inside
own_leaf z v a note (part.WalkAnew gfn) S frame inside H = never (v.hand a).topics S.needs.outside inside
own_leaf z v a note (part.Zap gfn) S frame inside H = never (v.hand a).topics S.needs.outside inside
own_leaf z v a note (part.Protect gfn) S frame inside H = never (v.hand a).topics S.needs.outside inside
own_leaf z v a note (part.Link gfn) S frame inside H =
    let walk : TableWalk = (v.hand a).topics.walk in
    inr (swap_found (v.words area.Pool) walk (entry_index gfn walk.level) _
    (v.words area.Pool (pool_index (table_page walk) (entry_index gfn walk.level)) == walk.entry) H.loaded)
own_leaf z v a note (part.Leaf gfn write) S frame inside H =
    let walk : TableWalk = (v.hand a).topics.walk in
    inr (swap_found (v.words area.Pool) walk (entry_index gfn walk.level) _
    (v.words area.Pool (pool_index (table_page walk) (entry_index gfn walk.level)) == walk.entry) H.loaded)
own_leaf z v a note (part.Fix gfn) S frame inside H =
    let walk : TableWalk = (v.hand a).topics.walk in
    inr (swap_found (v.words area.Pool) walk (entry_index gfn walk.level) _
    (v.words area.Pool (pool_index (table_page walk) (entry_index gfn walk.level)) == walk.entry) H.loaded)
own_leaf z v a note _ S frame inside H = inl (H, inside)
