-- The host look-up of a fault that runs alone: where the word that it finds forbids the access, so does the host word of the page that the slots have for it.
use Rattle.std.proofs.Common.{◌≡◌, ◌⊎◌, inl, inr, ◌-◌, ◌<◌, ℕ, refl, sym, subst, ap, ◌∙◌}
use Rattle.std.specs.Prelude.{Bool, true, false, ◌&&◌, not, Some}
use Rattle.core_views.specs.declared.place.FaultPlace.TheVariants.{Host}
use Rattle.core_views.specs.declared.sizes.Sizes.{Sizes}
use Rattle.core_views.specs.declared.topics.Topics.{Topics}
use Rattle.core_views.specs.Held.{Held}
use Rattle.spte_words.specs.declared.area.Area.TheVariants as area
use Rattle.spte_words.specs.HostWords.{host_allows_write}
use Rattle.part_steps.specs.PartHoldings.{FoundSlot}
use Rattle.part_steps.specs.SlotWords.{page_of}
use Rattle.mmu_core.specs.alone.FaultAlone.{FaultRunsAlone, HostForbidsPage}
use Rattle.core_views.specs.Sizes.{actors_of}
use Rattle.mmu_core.specs.alone.OthersRest.{OthersRest}
use Rattle.mmu_core.specs.invariant.HeldPart.{HasRetired, HoldsOld}
use Rattle.mmu_core.specs.invariant.Laws.{IsSound}
use Rattle.mmu_core.specs.invariant.SlotSetPart.{IsLiveIn}
use Rattle.mmu_core.specs.machine.Enabled.{mmu}
use Rattle.mmu_core.specs.machine.Machine.{World, hand_in}
use Rattle.mmu_core.specs.machine.View.{word_in}
use Rattle.mmu_core.proofs.forms.access.FaultSame.{both}

-- While the others rest, the slot set that a fault holds is the published one.
held_published : (z : Sizes) (w : World Held) (a k : ℕ) → a < actors_of z → IsSound z w → OthersRest a w → (hand_in mmu w a).topics.search.set ≡ Some k
    → k ≡ word_in z w area.Slots 0
held_published z w a k there G others held = by (G.topics.sets a k there held)
  where
    by : (k ≡ word_in z w area.Slots 0) ⊎ HoldsOld HasRetired (actors_of z) (λ i. (hand_in mmu w i).topics) a k → k ≡ word_in z w area.Slots 0
    by (inl e) = e
    by (inr H) = absurd (let none = (others H.by (subst (λ n. H.by < n) (sym G.hands) H.there) H.other).retires_none in let some = H.leaves in cc (none, some))

is_not : (b : Bool) → not b ≡ true → b ≡ false
is_not true e = absurd (cc e)
is_not false e = refl

pub host_forbids : (z : Sizes) (w : World Held) (a gfn : ℕ) (write : Bool) → FaultRunsAlone z w a Host gfn write
    → (write && not (host_allows_write (word_in z w area.Host (page_of (hand_in mmu w a).topics.search.slot gfn)))) ≡ true
    → HostForbidsPage (word_in z w area.Slots 0) (word_in z w area.Pool) (word_in z w area.Host) gfn write
host_forbids z w a gfn write R is =
    let t : Topics = (hand_in mmu w a).topics in
    let found : FoundSlot gfn t = R.knows.1 in
    let allowed : Bool = host_allows_write (word_in z w area.Host (page_of t.search.slot gfn)) in
    let B = both write (not allowed) is in
    let S = R.sound.topics.searches a R.there in
    let held = S.held found.whole in
    record {
      writes = B.0;
      id = t.search.id - 1;
      slot = t.search.slot;
      live =
          subst (λ k. IsLiveIn (word_in z w area.Pool) k (t.search.id - 1) t.search.slot)
          (held_published z w a held.0 R.there R.sound R.others held.1) (S.whole held.0 held.1 found.whole).1;
      holds = found.holds;
      slot_allows = ap (λ (b : Bool). b && t.search.slot.read_only) (sym B.0) ∙ R.knows.2;
      forbids = is_not allowed B.1;
    }
