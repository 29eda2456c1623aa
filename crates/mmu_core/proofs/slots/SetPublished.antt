-- A page with the slots of the published set, and with one put at its ID, is a slot set, too, where that slot may be set; and so is one without a slot.
use Rattle.std.proofs.Common.{◌≡◌, ◌≢◌, ◌⊎◌, inl, inr, ◌≤◌, ℕ, sym, subst, ap, ◌∙◌}
use Rattle.std.specs.Prelude.{Bool, true, false}
use Rattle.core_views.specs.declared.sizes.Sizes.{Sizes}
use Rattle.core_views.specs.declared.trace.Slot.{Slot}
use Rattle.core_views.specs.Slots.{contains, has_host_page}
use Rattle.mmu_core.specs.invariant.Invariant.{SlotSetPart}
use Rattle.part_steps.specs.SetWords.{set_role}
use Rattle.mmu_core.specs.invariant.SlotSetPart.{Fits}
use Rattle.part_steps.specs.SlotWords.{live_at, slot_at}
use Rattle.mmu_core.proofs.slots.Accepted.{MayBeSet}
use Rattle.mmu_core.proofs.machine.Columns.{same_or}

module _ (z : Sizes) (pool : ℕ → ℕ) (set page id : ℕ) (slot : Slot) (may : MayBeSet z pool set id slot) (new_slot : slot_at pool page id ≡ slot)
    (others_live : (i : ℕ) → i ≤ 31 → i ≢ id → live_at pool page i ≡ live_at pool set i)
    (others_same : (i : ℕ) → i ≤ 31 → i ≢ id → live_at pool set i ≡ true → slot_at pool page i ≡ slot_at pool set i) where
  -- what is live in the page and isn't the new slot was live, and the same
  was_live : (j : ℕ) → j ≤ 31 → j ≢ id → live_at pool page j ≡ true → live_at pool set j ≡ true
  was_live j below ne live = sym (others_live j below ne) ∙ live

  was_same : (j : ℕ) → j ≤ 31 → j ≢ id → live_at pool page j ≡ true → slot_at pool page j ≡ slot_at pool set j
  was_same j below ne live = others_same j below ne (was_live j below ne live)

  new_same : (j : ℕ) → j ≡ id → slot_at pool page j ≡ slot
  new_same j e = ap (slot_at pool page) e ∙ new_slot

  one_fits : (j : ℕ) → j ≤ 31 → live_at pool page j ≡ true → ((i : ℕ) → i ≤ 31 → live_at pool set i ≡ true → Fits z (slot_at pool set i))
      → Fits z (slot_at pool page j)
  one_fits j below live each = by (same_or j id)
    where
      by : (j ≡ id) ⊎ (j ≢ id) → Fits z (slot_at pool page j)
      by (inl e) = subst (Fits z) (sym (new_same j e)) may.fits
      by (inr ne) = subst (Fits z) (sym (was_same j below ne live)) (each j below (was_live j below ne live))

  -- what has two live slots with different IDs, has the new one and one that was live, or two that were
  apart_still : (test : Slot → Bool) (i j : ℕ) → i ≤ 31 → j ≤ 31 → live_at pool page i ≡ true → live_at pool page j ≡ true
      → ((k : ℕ) → k ≤ 31 → k ≢ id → live_at pool set k ≡ true → test (slot_at pool set k) ≡ true → test slot ≡ true → ⊥)
      → (live_at pool set i ≡ true → live_at pool set j ≡ true → test (slot_at pool set i) ≡ true → test (slot_at pool set j) ≡ true → i ≡ j)
      → test (slot_at pool page i) ≡ true → test (slot_at pool page j) ≡ true → i ≡ j
  apart_still test i j low below live more new_ old holds too = by (same_or i id) (same_or j id)
    where
      by : (i ≡ id) ⊎ (i ≢ id) → (j ≡ id) ⊎ (j ≢ id) → i ≡ j
      by (inl e) (inl f) = e ∙ sym f
      by (inl e) (inr ne) =
          absurd (new_ j below ne (was_live j below ne more) (ap test (sym (was_same j below ne more)) ∙ too) (ap test (sym (new_same i e)) ∙ holds))
      by (inr ne) (inl e) =
          absurd (new_ i low ne (was_live i low ne live) (ap test (sym (was_same i low ne live)) ∙ holds) (ap test (sym (new_same j e)) ∙ too))
      by (inr ne) (inr nf) =
          old (was_live i low ne live) (was_live j below nf more) (ap test (sym (was_same i low ne live)) ∙ holds)
          (ap test (sym (was_same j below nf more)) ∙ too)

  pub set_with : (role behind : ℕ → ℕ) → behind page ≡ set_role → SlotSetPart z set role pool → SlotSetPart z page behind pool
  set_with role behind role_is part = record {
    role_is = role_is;
    slots = record {
      fits = λ j below live. one_fits j below live part.slots.fits;
      guest_apart =
          λ gfn i j low below live more holds too. apart_still (contains gfn) i j low below live more (may.guest_apart gfn)
          (part.slots.guest_apart gfn i j low below) holds too;
      host_apart =
          λ page i j low below live more has too. apart_still (has_host_page page) i j low below live more (may.host_apart page)
          (part.slots.host_apart page i j low below) has too;
    };
  }

-- The slot with the ID is taken away.
module _ (z : Sizes) (pool : ℕ → ℕ) (set page id : ℕ) (gone : live_at pool page id ≡ false)
    (others_live : (i : ℕ) → i ≤ 31 → i ≢ id → live_at pool page i ≡ live_at pool set i)
    (others_same : (i : ℕ) → i ≤ 31 → i ≢ id → live_at pool set i ≡ true → slot_at pool page i ≡ slot_at pool set i) where
  is_other : (j : ℕ) → live_at pool page j ≡ true → j ≢ id
  is_other j live e = let none = ap (live_at pool page) e ∙ gone in absurd (cc (live, none))

  had_live : (j : ℕ) → j ≤ 31 → live_at pool page j ≡ true → live_at pool set j ≡ true
  had_live j below live = sym (others_live j below (is_other j live)) ∙ live

  had_same : (j : ℕ) → j ≤ 31 → live_at pool page j ≡ true → slot_at pool page j ≡ slot_at pool set j
  had_same j below live = others_same j below (is_other j live) (had_live j below live)

  pub set_without : (role behind : ℕ → ℕ) → behind page ≡ set_role → SlotSetPart z set role pool → SlotSetPart z page behind pool
  set_without role behind role_is part = record {
    role_is = role_is;
    slots = record {
      fits = λ j below live. subst (Fits z) (sym (had_same j below live)) (part.slots.fits j below (had_live j below live));
      guest_apart = λ gfn i j low below live more holds too.
          part.slots.guest_apart gfn i j low below (had_live i low live) (had_live j below more)
          (ap (contains gfn) (sym (had_same i low live)) ∙ holds) (ap (contains gfn) (sym (had_same j below more)) ∙ too);
      host_apart = λ page i j low below live more has too.
          part.slots.host_apart page i j low below (had_live i low live) (had_live j below more)
          (ap (has_host_page page) (sym (had_same i low live)) ∙ has) (ap (has_host_page page) (sym (had_same j below more)) ∙ too);
    };
  }
