-- What an open invalidation makes sure of its guest frames, from the invariant.
use Rattle.std.proofs.Common.{◌≡◌, ◌+◌, ◌*◌, ◌/◌, ◌^◌, ◌<◌, ◌≤◌, ℕ, sym, subst, ap, ◌∙◌, arith}
use Rattle.std.specs.Prelude.{Some, true, Option, is_some}
use Rattle.core_views.specs.declared.sizes.Sizes.{Sizes}
use Rattle.core_views.specs.Held.{Held}
use Rattle.core_views.specs.Sizes.{actors_of}
use Rattle.spte_words.specs.declared.area.Area.TheVariants as area
use Rattle.spte_words.specs.declared.spte_kind.SpteKind.TheVariants as entry_kind
use Rattle.spte_words.specs.Areas.{pool_index}
use Rattle.spte_words.specs.Entries.{kind_of, level_span}
use Rattle.part_steps.specs.PartTasks.{entry_index}
use Rattle.mmu_core.specs.alone.FaultAlone.{LeadsTo}
use Rattle.mmu_core.specs.invariant.InvalidatedPart.{IsClean, IsIn, IsNoLeafIn, IsOfPages, may_use}
use Rattle.mmu_core.specs.invariant.Laws.{IsSound}
use Rattle.mmu_core.specs.invariant.TreePart.{Position}
use Rattle.mmu_core.specs.machine.Enabled.{mmu}
use Rattle.mmu_core.specs.machine.Machine.{World, hand_in}
use Rattle.mmu_core.specs.machine.View.{word_in}
use Rattle.mmu_core.proofs.pages.NoneBelow.{over_frame}
use Rattle.mmu_core.proofs.pages.Standing.{spot_of}
use Rattle.mmu_laws.specs.leaves.OpenFrames.{KeepsEmpty, HasOpen, flush_of, own_of}
use Rattle.mmu_core.proofs.held.KeptEmpty.{empty_open}
use Rattle.mmu_laws.proofs.leaves.LeafLaws.{from_root}
use Rattle.core_views.specs.declared.topics.PageRun.{PageRun}

pub open_frames_are_recorded : (z : Sizes) (w : World Held) (actor gfn : ℕ) → IsSound z w → actor < actors_of z → HasOpen w actor → IsIn (own_of w actor) gfn
    → (word_in z w area.RangeStart 0 ≤ gfn) × (gfn < word_in z w area.RangeEnd 0) × (gfn < 2 ^ 36)
open_frames_are_recorded z w actor gfn sound lt opened is_in = sound.topics.ranges actor gfn lt opened is_in

pub open_frames_are_of_the_pages : (z : Sizes) (w : World Held) (actor : ℕ) (run : PageRun) → IsSound z w → actor < actors_of z → HasOpen w actor
    → (own_of w actor).pages ≡ Some run → IsOfPages (word_in z w area.Pool) (word_in z w area.Slots 0) (own_of w actor)
open_frames_are_of_the_pages z w actor run sound lt opened is =
    sound.topics.scopes actor lt opened (ap (λ (o : Option PageRun). is_some o) is)

pub open_frames_are_zapped : (z : Sizes) (w : World Held) (actor gfn low entry : ℕ) → IsSound z w → actor < actors_of z → KeepsEmpty w actor
    → 1 ≤ (flush_of w actor).asked → IsIn (own_of w actor) gfn → LeadsTo (word_in z w area.Pool) 4 (word_in z w area.Root 0) gfn low entry
    → kind_of low entry ≡ entry_kind.Leaf → ⊥
open_frames_are_zapped z w actor gfn low entry sound lt emptied asked is_in leads leaf =
    let I = sound.topics in
    let small = (I.ranges actor gfn lt (empty_open (hand_in mmu w actor).topics emptied) is_in).2 in
    let end_ = from_root I.tree (let most = sound.holds.sizes.pool.1 in omega (arith, most)) gfn low entry small leads in
    let here : I.spot end_.0 ≡ over_frame low gfn = (spot_of I.up I.spot end_.0 _ end_.1).1 in
    subst (λ (p : Position). IsNoLeafIn (own_of w actor) p.level gfn (word_in z w area.Pool (pool_index end_.0 (entry_index gfn low)))) here
    (I.zapped actor lt emptied asked end_.0 (entry_index gfn low) gfn end_.3
    (omega arith, subst (λ (p : Position). gfn / level_span p.level ≡ p.prefix * 512 + entry_index gfn low) (sym here) (omega arith)))
    is_in (ap (kind_of low) end_.2 ∙ leaf)

pub open_frames_are_flushed : (z : Sizes) (w : World Held) (actor v : ℕ) → IsSound z w → actor < actors_of z → KeepsEmpty w actor → v < z.vcpus
    → v < (flush_of w actor).awaited → may_use (word_in z w area.State v) (hand_in mmu w v).topics.stay ≡ true
    → IsClean (own_of w actor) (hand_in mmu w v).cached.items
open_frames_are_flushed z w actor v sound lt emptied there awaited may =
    let F = sound.flushes actor v lt there emptied in
    let order = F.order in
    F.awaits (omega (arith, order, awaited)) awaited may
