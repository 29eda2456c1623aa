-- What an access has found: a host page of the machine that the slots give, at its frame.
use Rattle.std.proofs.Common.{◌≡◌, ◌+◌, ◌<◌, ◌≤◌, ℕ, refl, subst, ap, ◌∙◌, arith}
use Rattle.std.specs.Prelude.{Bool, true, false, ◌&&◌, ◌||◌, not, Some, nat_le, nat_lt, ◌^◌}
use Rattle.std.proofs.lemmas.Bool.Decides.{nat_tests}
use Rattle.core_views.specs.declared.actor.Actor.{Actor}
use Rattle.core_views.specs.declared.actor.Actor.TheVariants.{Vcpu}
use Rattle.core_views.specs.declared.sizes.Sizes.{Sizes}
use Rattle.core_views.specs.declared.trace.Command.TheVariants.{Access}
use Rattle.core_views.specs.declared.trace.Op.{Op}
use Rattle.core_views.specs.declared.trace.Slot.{Slot}
use Rattle.core_views.specs.Sizes.{AreSizes}
use Rattle.core_views.specs.Slots.{Slots, contains, is_write, page_behind, page_in, slot_of}
use Rattle.core_views.specs.Traces.{IsCommandFor}
use Rattle.spte_words.specs.Entries.{can_write}
use Rattle.spte_words.specs.HostWords.{host_allows_write, host_frame}
use Rattle.spte_words.proofs.ReadsEntries.{leaf_can_write}
use Rattle.mmu_core.specs.forms.access.FaultSteps.{allows_access}
use Rattle.mmu_core.specs.invariant.Invariant.{IsLiveIn, SlotSetPart}
use Rattle.mmu_core.specs.invariant.HostWordsPart.{HostWordsPart}
use Rattle.part_steps.specs.SlotWords.{leaf_at, may_write, page_of, slot_at, slots_below}
use Rattle.mmu_core.proofs.words.SlotLists.{only_one_holds, page_allowed}

pub contains_bounds : (gfn : ℕ) (slot : Slot) → contains gfn slot ≡ true → (slot.base ≤ gfn) × (gfn < slot.base + slot.pages)
contains_bounds gfn slot holds = bounds slot.base (slot.base + slot.pages) holds
  where
    bounds : (low high : ℕ) → (nat_le low gfn && nat_lt gfn high) ≡ true → (low ≤ gfn) × (gfn < high)
    bounds low high test = (grind (arith, nat_tests), grind (arith, nat_tests))

-- The word of an access is one of a page.
pub word_in_page : (z : Sizes) (actor : Actor) (gfn word : ℕ) (op : Op) → IsCommandFor z actor (Access gfn word op) → word < z.words
word_in_page z (Vcpu n) gfn word op may = may.2
word_in_page z _ gfn word op may = absurd may

-- The page found is one of the machine's.
pub page_in_machine : (z : Sizes) (set : ℕ) (role pool : ℕ → ℕ) (id gfn : ℕ) (slot : Slot) → SlotSetPart z set role pool → IsLiveIn pool set id slot
    → contains gfn slot ≡ true → page_of slot gfn < z.pages
page_in_machine z set role pool id gfn slot P L holds =
    let fits : slot.host + slot.pages ≤ z.pages = subst (λ (t : Slot). t.host + t.pages ≤ z.pages) L.is ((P.slots.fits id L.low L.live).pages) in
    let bounds : (slot.base ≤ gfn) × (gfn < slot.base + slot.pages) = contains_bounds gfn slot holds in
    omega arith

-- The frame of a page is one of the machine's, and its leaf names it.
pub frame_small : (z : Sizes) (host : ℕ → ℕ) (page : ℕ) → AreSizes z → HostWordsPart z host → page < z.pages → host_frame (host page) < 2 ^ 40
frame_small z host page sizes P lt = omega (arith, (P page lt).1, sizes.frames.1)

-- A leaf that allows the access is of a slot that allows it, and of a host word that does.
not_denied : (write writes host read_only : Bool) → (not write || (writes && (host && not read_only))) ≡ true
    → ((write && read_only) ≡ false) × ((write && not host) ≡ false)
not_denied true true true true e = absurd (cc e)
not_denied true true true false e = (refl, refl)
not_denied true true false read_only e = absurd (cc e)
not_denied true false host read_only e = absurd (cc e)
not_denied false writes host read_only e = (refl, refl)

pub leaf_allows : (op : Op) (level first : ℕ) (writes : Bool) (slot : Slot) (host leaf : ℕ) → leaf ≡ leaf_at level first writes slot host
    → allows_access (is_write op) leaf ≡ true
    → ((is_write op && slot.read_only) ≡ false) × ((is_write op && not (host_allows_write host)) ≡ false)
leaf_allows op level first writes slot host leaf is allows =
    not_denied (is_write op) writes (host_allows_write host) slot.read_only
    (subst (λ b. (not (is_write op) || b) ≡ true)
    (ap can_write is ∙ leaf_can_write level first (writes && may_write slot host) (host_allows_write host) (may_write slot host)) allows)

-- The slots give the guest frame the page that was found.
pub page_is_behind : (z : Sizes) (set : ℕ) (role pool : ℕ → ℕ) (id gfn : ℕ) (slot : Slot) (op : Op) (now_ : Slots) → SlotSetPart z set role pool
    → IsLiveIn pool set id slot → contains gfn slot ≡ true → (is_write op && slot.read_only) ≡ false
    → now_ ≡ slots_below pool set 32 → page_behind now_ gfn op ≡ Some (page_of slot gfn)
page_is_behind z set role pool id gfn slot op now_ P L in_slot allows is =
    let holds : contains gfn (slot_at pool set id) ≡ true = ap (contains gfn) L.is ∙ in_slot in
    ap (page_in gfn op)
    (ap (λ (xs : Slots). slot_of xs gfn) is
    ∙ only_one_holds gfn pool set id 32 (omega (arith, L.low)) L.live holds
    (λ i lt live too. P.slots.guest_apart gfn i id (omega arith) L.low live L.live too holds)
    ∙ ap Some L.is)
    ∙ page_allowed slot gfn op allows
