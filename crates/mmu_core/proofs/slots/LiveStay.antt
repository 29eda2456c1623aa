-- Where each live slot stays live, and the same, what is cached agrees still.
use Rattle.std.proofs.Common.{◌≡◌, ◌≤◌, ℕ, List, refl, subst, ap, ◌∙◌}
use Rattle.std.proofs.lemmas.List.Elements.{All-weaker}
use Rattle.std.specs.Prelude.{true}
use Rattle.core_views.specs.declared.cache.Translation.{Translation}
use Rattle.core_views.specs.declared.sizes.Sizes.{Sizes}
use Rattle.core_views.specs.declared.trace.Slot.{Slot as SlotOf}
use Rattle.core_views.specs.Slots.{contains, has_host_page}
use Rattle.mmu_core.specs.invariant.Invariant.{IsLeafFor, IsLiveIn, SlotSetPart}
use Rattle.part_steps.specs.SetWords.{set_role}
use Rattle.mmu_core.specs.invariant.SlotSetPart.{AreSlots, Fits}
use Rattle.part_steps.specs.SlotWords.{live_at, slot_at}
use Rattle.mmu_core.specs.invariant.CachedPart.{AgreePart, IsTranslationFor}

-- A leaf that one slot set gives is one that another gives, in which its slot is live, too.
pub leaf_lives : (before host : ℕ → ℕ) (set level gfn leaf : ℕ) (L : IsLeafFor before host set level gfn leaf) (after : ℕ → ℕ) (other : ℕ)
    → IsLiveIn after other L.id L.slot → IsLeafFor after host other level gfn leaf
leaf_lives before host set level gfn leaf L after other live = record {
  id = L.id;
  slot = L.slot;
  live = live;
  holds = L.holds;
  run = L.run;
  writes = L.writes;
  first = L.first;
  is = L.is;
  frame = L.frame;
  in_place = L.in_place;
  present = L.present;
  small = L.small;
}

-- Each slot that is live in one slot set is live in another one, and the same.
abbrev pub StayLive : (ℕ → ℕ) → ℕ → (ℕ → ℕ) → ℕ → Type 0
StayLive before set after other = (id : ℕ) (slot : SlotOf) → IsLiveIn before set id slot → IsLiveIn after other id slot

module _ (before : ℕ → ℕ) (set : ℕ) (after : ℕ → ℕ) (other : ℕ) (stay : StayLive before set after other) where
  pub live_stays : (id : ℕ) → id ≤ 31 → live_at before set id ≡ true → live_at after other id ≡ true
  live_stays id low live = (stay id (slot_at before set id) (record { low = low; live = live; is = refl })).live

  pub slot_stays : (id : ℕ) → id ≤ 31 → live_at before set id ≡ true → slot_at after other id ≡ slot_at before set id
  slot_stays id low live = (stay id (slot_at before set id) (record { low = low; live = live; is = refl })).is

  pub leaf_stays : (host : ℕ → ℕ) (level gfn leaf : ℕ) → IsLeafFor before host set level gfn leaf → IsLeafFor after host other level gfn leaf
  leaf_stays host level gfn leaf L = leaf_lives before host set level gfn leaf L after other (stay L.id L.slot L.live)

  pub translations_stay : (host : ℕ → ℕ) (ts : List Translation) → AgreePart before host set ts → AgreePart after host other ts
  translations_stay host ts each =
      All-weaker (IsTranslationFor before host set) (IsTranslationFor after host other)
      (λ t is gfn over. leaf_stays host t.level gfn t.leaf (is gfn over)) ts each

-- Each live slot was live, and the same: they are slots of a set still.
pub slots_stay : (z : Sizes) (before : ℕ → ℕ) (set : ℕ) (after : ℕ → ℕ) (other : ℕ) → StayLive after other before set → AreSlots z before set
    → AreSlots z after other
slots_stay z before set after other was part = record {
  fits =
      λ id low live. subst (Fits z) (slot_stays after other before set was id low live)
      (part.fits id low (live_stays after other before set was id low live));
  guest_apart = λ gfn i j low under live more holds too.
      part.guest_apart gfn i j low under (live_stays after other before set was i low live) (live_stays after other before set was j under more)
      (ap (contains gfn) (slot_stays after other before set was i low live) ∙ holds)
      (ap (contains gfn) (slot_stays after other before set was j under more) ∙ too);
  host_apart = λ page i j low under live more has too.
      part.host_apart page i j low under (live_stays after other before set was i low live) (live_stays after other before set was j under more)
      (ap (has_host_page page) (slot_stays after other before set was i low live) ∙ has)
      (ap (has_host_page page) (slot_stays after other before set was j under more) ∙ too);
}

pub set_stays : (z : Sizes) (role behind before : ℕ → ℕ) (set : ℕ) (after : ℕ → ℕ) (other : ℕ) → StayLive after other before set
    → behind other ≡ set_role → SlotSetPart z set role before → SlotSetPart z other behind after
set_stays z role behind before set after other was role_is part = record { role_is = role_is; slots = slots_stay z before set after other was part.slots }
