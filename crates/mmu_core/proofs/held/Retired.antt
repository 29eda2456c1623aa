-- What sections may hold still of what other actors have taken out of use, where one hand changes.
use Rattle.std.proofs.Common.{◌≡◌, ◌≢◌, ◌⊎◌, inl, inr, ◌<◌, ◌≤◌, ℕ, sym, subst, ap, ◌∙◌}
use Rattle.std.specs.Prelude.{false}
use Rattle.core_views.specs.declared.topics.Topics.{Topics}
use Rattle.core_views.specs.Held.{Held}
use Rattle.mmu_core.specs.invariant.HeldPart.{HeldStill, HoldsOld}
use Rattle.part_steps.specs.StayTopics.{is_outside}
use Rattle.mmu_core.specs.machine.View.{upd}
use Rattle.mmu_core.proofs.machine.Columns.{at_upd, same_or, upd_other, upd_same}

-- Actor a, of n, gets this hand. `Holds` says what an actor holds, and `Takes` what it has taken out of use.
module _ (Holds Takes : Topics → ℕ → Type 0) (n : ℕ) (hand : ℕ → Held) (a : ℕ) (h : Held) where
  abbrev before : ℕ → Topics
  before i = (hand i).topics

  abbrev after : ℕ → Topics
  after i = (upd hand a h i).topics

  -- An actor with these topics has taken k out of use, and hasn't watched actor i since.
  abbrev Retires : ℕ → ℕ → Topics → Type 0
  Retires i k t = Takes t k × (t.watched ≤ i)

  -- What the actor holds is in use then, or it has held it before, in the same stay.
  abbrev pub OwnStays : (ℕ → Type 0) → Type 0
  OwnStays Now = (k : ℕ) → Holds h.topics k → Now k ⊎ (Holds (before a) k) × (h.topics.stay ≡ (before a).stay)

  -- What it holds and was in use is in use.
  abbrev pub OwnUseStays : (ℕ → Type 0) → (ℕ → Type 0) → Type 0
  OwnUseStays Current Now = (k : ℕ) → Holds h.topics k → Current k → Now k

  -- What another one holds and was in use is in use; or an actor has taken it out of use that hasn't watched this one since.
  abbrev pub UseStays : (ℕ → Type 0) → (ℕ → Type 0) → Type 0
  UseStays Current Now = (i k : ℕ) → i ≢ a → i < n → Holds (before i) k → Current k → Now k ⊎ HoldsOld Takes n after i k

  -- What the actor had taken out of use before is in use; or it has it out of use still, and hasn't watched actor i, which is inside, since.
  abbrev pub OldStays : (ℕ → Type 0) → Type 0
  OldStays Now =
      (i k : ℕ) → i ≢ a → i < n → is_outside (before i).stay ≡ false → Takes (before a) k → (before a).watched ≤ i → Now k ⊎ Retires i k h.topics

  -- What the actor has taken out of use now, another one may hold still that it has yet to watch.
  pub retired_now : (i k : ℕ) → a < n → i ≢ a → is_outside (before i).stay ≡ false → Retires i k h.topics → HoldsOld Takes n after i k
  retired_now i k there ne inside R =
      let now = subst (λ (g : Held). Retires i k g.topics) (sym (upd_same hand a h)) R in
      record {
        inside = ap (λ (g : Held). is_outside g.topics.stay) (upd_other hand a i h ne) ∙ inside;
        by = a;
        there = there;
        other = λ same. ne (sym same);
        leaves = now.0;
        unwatched = now.1;
      }

  old_after : (Now : ℕ → Type 0) (i k : ℕ) → is_outside (after i).stay ≡ false → (H : HoldsOld Takes n before i k)
      → (H.by ≡ a → Now k ⊎ Retires i k h.topics) → Now k ⊎ HoldsOld Takes n after i k
  old_after Now i k inside H mine = by (same_or H.by a)
    where
      still : Retires i k (after H.by) → Now k ⊎ HoldsOld Takes n after i k
      still R = inr (record { inside = inside; by = H.by; there = H.there; other = H.other; leaves = R.0; unwatched = R.1 })

      here : H.by ≡ a → Now k ⊎ Retires i k h.topics → Now k ⊎ HoldsOld Takes n after i k
      here e (inl used) = inl used
      here e (inr R) =
          still (subst (λ j. Retires i k (after j)) (sym e) (subst (λ (g : Held). Retires i k g.topics) (sym (upd_same hand a h)) R))

      by : (H.by ≡ a) ⊎ (H.by ≢ a) → Now k ⊎ HoldsOld Takes n after i k
      by (inl e) = here e (mine e)
      by (inr ne) = still (subst (λ (g : Held). Retires i k g.topics) (sym (upd_other hand a H.by h ne)) (H.leaves, H.unwatched))

  -- So it is known of what actors hold after the step, where it was known before it.
  pub held_still : (Current Now : ℕ → Type 0) → OwnStays Now → OwnUseStays Current Now → UseStays Current Now → OldStays Now
      → HeldStill Holds Takes n Current before → HeldStill Holds Takes n Now after
  held_still Current Now own own_use use_ old P i k lt is =
      at_upd (λ j (g : Held). j < n → Holds g.topics k → Now k ⊎ HoldsOld Takes n after j k) hand a h mine theirs i lt is
    where
      mine : a < n → Holds h.topics k → Now k ⊎ HoldsOld Takes n after a k
      mine there is = by (own k is)
        where
          was : h.topics.stay ≡ (before a).stay → Current k ⊎ HoldsOld Takes n before a k → Now k ⊎ HoldsOld Takes n after a k
          was stays (inl used) = inl (own_use k is used)
          was stays (inr H) =
              old_after Now a k (ap (λ (g : Held). is_outside g.topics.stay) (upd_same hand a h) ∙ ap is_outside stays ∙ H.inside) H (λ e. absurd (H.other e))

          by : Now k ⊎ (Holds (before a) k) × (h.topics.stay ≡ (before a).stay) → Now k ⊎ HoldsOld Takes n after a k
          by (inl used) = inl used
          by (inr held) = was held.1 (P a k there held.0)

      theirs : (j : ℕ) → j ≢ a → j < n → Holds (before j) k → Now k ⊎ HoldsOld Takes n after j k
      theirs j ne low is = by (P j k low is)
        where
          by : Current k ⊎ HoldsOld Takes n before j k → Now k ⊎ HoldsOld Takes n after j k
          by (inl used) = use_ j k ne low is used
          by (inr H) =
              old_after Now j k (ap (λ (g : Held). is_outside g.topics.stay) (upd_other hand a j h ne) ∙ H.inside) H
              (λ e. old j k ne low H.inside (subst (λ l. Takes (before l) k) e H.leaves) (subst (λ l. (before l).watched ≤ j) e H.unwatched))

  -- What is in use stays the same.
  pub held_same : (Current : ℕ → Type 0) → OwnStays Current → OldStays Current → HeldStill Holds Takes n Current before
      → HeldStill Holds Takes n Current after
  held_same Current own old = held_still Current Current own (λ k is used. used) (λ i k ne lt is used. inl used) old

  -- And so does what the actor has taken out of use, and whom it has watched since.
  pub held_quiet : (Current : ℕ → Type 0) → OwnStays Current → ((k : ℕ) → Takes (before a) k → Takes h.topics k) → h.topics.watched ≡ (before a).watched
      → HeldStill Holds Takes n Current before → HeldStill Holds Takes n Current after
  held_quiet Current own retired watched =
      held_same Current own (λ i k ne lt inside left unwatched. inr (retired k left, subst (λ w. w ≤ i) (sym watched) unwatched))
