-- What was a table stays the same table after each step of a part.
use Rattle.std.proofs.Common.{◌≡◌, ◌≢◌, ◌⊎◌, inl, inr, ◌+◌, ◌*◌, ℕ, refl, sym, ap, ◌∙◌}
use Rattle.std.specs.Prelude.{Bool, true, false, ◌==◌, if◌then◌else◌, Option, Some, None}
use Rattle.std.proofs.lemmas.Nat.Bits.{bit_at-trailing_zeros}
use Rattle.core_views.specs.declared.sizes.Sizes.{Sizes}
use Rattle.core_views.specs.declared.topics.Topics.{Topics}
use Rattle.spte_words.specs.declared.area.Area.TheVariants as area
use Rattle.std.proofs.Common.{w64, ◌<◌}
use Rattle.part_steps.specs.declared.part_step.PartStep.{PartStep}
use Rattle.part_steps.specs.declared.part_step.PartStep.TheVariants as part
use Rattle.part_steps.specs.PartTasks.{entry_index, page_retired, page_owned, table_page}
use Rattle.part_steps.specs.PageTopics.{is_won, tried_bit}
use Rattle.mmu_core.specs.invariant.TopicsInvariant.{TopicsInvariant}
use Rattle.mmu_core.specs.invariant.TreePart.{Position, Use, is_table, stands}
use Rattle.mmu_core.specs.invariant.TreePart.Use.{Free, OldSet, Owned, SlotSet, Under}
use Rattle.mmu_core.specs.machine.View.{View, upd}
use Rattle.mmu_core.proofs.machine.Columns.{at_upd, same_or, upd_other, upd_same}
use Rattle.mmu_core.proofs.machine.PartStepping.{IsPart}
use Rattle.mmu_core.proofs.words.PoolBits.{page_free}
use Rattle.mmu_core.proofs.pages.Owned.{owned_some, set_owned, table_owned}
use Rattle.mmu_core.proofs.machine.ColumnsTell.{some_is}
use Rattle.mmu_core.proofs.pages.PoolPages.{free_use, retired_use, owned_use, set_use}
use Rattle.mmu_core.proofs.pages.Standing.{entry_now, position_below, spot_after, spot_of, up_after, upd_if}
use Rattle.mmu_core.proofs.pages.TreeStored.{TablesStay, all_stay, still_stands}

-- A page is what it was, or it was no table and is none.
abbrev pub SameTable : Use → Use → Type 0
SameTable u w = (w ≡ u) ⊎ ((is_table u ≡ false) × (is_table w ≡ false))

abbrev pub SameTables : (ℕ → Use) → (ℕ → Use) → Type 0
SameTables up more = (k : ℕ) → SameTable (up k) (more k)

-- One page turns that was no table and is none.
one_turned : (up : ℕ → Use) (p : ℕ) (w : Use) → is_table (up p) ≡ false → is_table w ≡ false → SameTables up (upd up p w)
one_turned up p w was is = at_upd (λ k u. SameTable (up k) u) up p w (inr (was, is)) (λ k apart. inl refl)

-- and a second one
two_turned : (up more : ℕ → Use) (p : ℕ) (w : Use) → SameTables up more → is_table (up p) ≡ false → is_table w ≡ false → SameTables up (upd more p w)
two_turned up more p w before was is = at_upd (λ k u. SameTable (up k) u) more p w (inr (was, is)) (λ k apart. before k)

-- The step may put a page below a table.
abbrev pub is_link : PartStep → Bool
is_link (part.Link gfn) = true
is_link _ = false

-- The page that was tried is claimed where it was free.
claimed : (won : Bool) (up : ℕ → Use) (p a : ℕ) → (won ≡ true → is_table (up p) ≡ false) → SameTables up (upd_if won up p (Owned a))
claimed true up p a was = one_turned up p (Owned a) (was refl) refl
claimed false up p a was = λ k. inl refl

-- All steps but a link turn pages only that are no tables.
pub same_tables : (z : Sizes) (v : View) (a : ℕ) (step : PartStep) → IsPart z v a step → (I : TopicsInvariant z v) → is_link step ≡ false
    → SameTables I.up (up_after step a (v.hand a).topics v I.up)
same_tables z v a part.Claim S I never =
    let t : Topics = (v.hand a).topics in
    let low : tried_bit t.claim < 64 = (bit_at-trailing_zeros w64 t.claim.seen S.needs.1 (I.counters a S.there).seen).0 in
    claimed (is_won t.claim (v.words area.PoolMap t.claim.at)) I.up (64 * t.claim.at + tried_bit t.claim) a
    (λ won. ap is_table (free_use I.uses (64 * t.claim.at + tried_bit t.claim) (page_free (v.words area.PoolMap) t.claim.at (tried_bit t.claim) low ∙ won)))
same_tables z v a part.Give S I never =
    let o = owned_some (v.hand a).topics S.needs.0 in
    one_turned I.up (page_owned (v.hand a).topics.owned) Free
    (ap (λ x. is_table (I.up (page_owned x))) o.1 ∙ ap is_table (owned_use I.uses a o.0 S.there o.1)) refl
same_tables z v a part.GiveOld S I never =
    let k = some_is (v.hand a).topics.retired S.needs.leaves in
    one_turned I.up (page_retired (v.hand a).topics.retired) Free
    (ap (λ x. is_table (I.up (page_retired x))) k.1 ∙ ap is_table (retired_use I.uses a k.0 S.there k.1)) refl
same_tables z v a part.Publish S I never =
    let O = set_owned (v.hand a).topics S.needs.owns in
    two_turned I.up (upd I.up (v.words area.Slots 0) (OldSet a)) (page_owned (v.hand a).topics.owned) SlotSet
    (one_turned I.up (v.words area.Slots 0) (OldSet a) (ap is_table (set_use I.uses)) refl)
    (ap (λ x. is_table (I.up (page_owned x))) O.is ∙ ap is_table (owned_use I.uses a O.owned S.there O.is)) refl
same_tables z v a (part.Link gfn) S I never = absurd (cc never)
same_tables z v a _ S I never = λ k. inl refl

-- Where tables are the same, what stands before stands after, and the other way round.
pub stay_same : (up more : ℕ → Use) (spot : ℕ → Position) → SameTables up more → TablesStay up more spot spot
stay_same up more spot same = record { use_ = λ k table. by k table (same k); place_ = λ k table. refl }
  where
    by : (k : ℕ) → is_table (up k) ≡ true → SameTable (up k) (more k) → more k ≡ up k
    by k table (inl e) = e
    by k table (inr none) = let was = none.0 in absurd (cc (was, table))

pub stood_same : (up more : ℕ → Use) (spot : ℕ → Position) → SameTables up more → (k : ℕ) (p : Position) → stands more spot k ≡ Some p
    → stands up spot k ≡ Some p
stood_same up more spot same k p at_k = by (same k)
  where
    by : SameTable (up k) (more k) → stands up spot k ≡ Some p
    by (inl e) = sym (ap (λ u. if is_table u then Some (spot k) else None) e) ∙ at_k
    by (inr none) = let nowhere : stands more spot k ≡ None = ap (λ (b : Bool). if b then Some (spot k) else None) none.1 in absurd (cc (nowhere, at_k))

-- A page that is linked was owned, so it was no table.
linked_stay : (won : Bool) (up : ℕ → Use) (spot : ℕ → Position) (page : ℕ) (w : Use) (p : Position) → is_table (up page) ≡ false
    → TablesStay up (upd_if won up page w) spot (upd_if won spot page p)
linked_stay false up spot page w p none = all_stay up spot
linked_stay true up spot page w p none = record {
  use_ = at_upd (λ k u. is_table (up k) ≡ true → u ≡ up k) up page w (λ table. absurd (cc (none, table))) (λ k apart table. refl);
  place_ = at_upd (λ k q. is_table (up k) ≡ true → q ≡ spot k) spot page p (λ table. absurd (cc (none, table))) (λ k apart table. refl);
}

-- Each table stays what it is, where it is.
pub tables_stay : (z : Sizes) (v : View) (a : ℕ) (step : PartStep) → IsPart z v a step → (I : TopicsInvariant z v)
    → TablesStay I.up (up_after step a (v.hand a).topics v I.up) I.spot (spot_after step (v.hand a).topics v I.spot)
tables_stay z v a (part.Link gfn) S I =
    let t : Topics = (v.hand a).topics in
    let O = table_owned t S.needs.1 in
    linked_stay (entry_now gfn t v == t.walk.entry) I.up I.spot (page_owned t.owned) (Under (table_page t.walk) (entry_index gfn t.walk.level))
    (position_below gfn t)
    (ap (λ x. is_table (I.up (page_owned x))) O.is ∙ ap is_table (owned_use I.uses a O.owned S.there O.is))
tables_stay z v a step S I = stay_same I.up (up_after step a (v.hand a).topics v I.up) I.spot (same_tables z v a step S I refl)

-- So it stands where it stood.
abbrev pub StaysStanding : (ℕ → Option Position) → (ℕ → Option Position) → Type 0
StaysStanding before after = (k : ℕ) (p : Position) → before k ≡ Some p → after k ≡ Some p

pub stays_standing : (z : Sizes) (v : View) (a : ℕ) (step : PartStep) → IsPart z v a step → (I : TopicsInvariant z v)
    → StaysStanding (stands I.up I.spot) (stands (up_after step a (v.hand a).topics v I.up) (spot_after step (v.hand a).topics v I.spot))
stays_standing z v a step S I =
    still_stands I.up (up_after step a (v.hand a).topics v I.up) I.spot (spot_after step (v.hand a).topics v I.spot) (tables_stay z v a step S I)

-- The step wins its exchange, and puts a table at this place.
abbrev pub IsLinkedAt : PartStep → Topics → View → Position → Type 0
IsLinkedAt (part.Link gfn) t v p = ((entry_now gfn t v == t.walk.entry) ≡ true) × (position_below gfn t ≡ p)
IsLinkedAt _ t v p = ⊥

linked_or_stood : (won : Bool) (up : ℕ → Use) (spot : ℕ → Position) (page : ℕ) (w : Use) (q : Position) (k : ℕ) (p : Position)
    → stands (upd_if won up page w) (upd_if won spot page q) k ≡ Some p → (stands up spot k ≡ Some p) ⊎ ((won ≡ true) × (q ≡ p))
linked_or_stood false up spot page w q k p is = inl is
linked_or_stood true up spot page w q k p is = by (same_or k page)
  where
    by : (k ≡ page) ⊎ (k ≢ page) → (stands up spot k ≡ Some p) ⊎ ((true ≡ true) × (q ≡ p))
    by (inl e) = inr (refl, sym (upd_same spot page q) ∙ ap (upd spot page q) (sym e) ∙ (spot_of (upd up page w) (upd spot page q) k p is).1)
    by (inr ne) =
        inl (sym (ap (λ u. if is_table u then Some (upd spot page q k) else None) (upd_other up page k w ne)
        ∙ ap (λ x. if is_table (up k) then Some x else None) (upd_other spot page k q ne)) ∙ is)

-- What stands after a step stood there before, or where the step puts a table.
pub stood_or_linked : (z : Sizes) (v : View) (a : ℕ) (step : PartStep) → IsPart z v a step → (I : TopicsInvariant z v) → (k : ℕ) (p : Position)
    → stands (up_after step a (v.hand a).topics v I.up) (spot_after step (v.hand a).topics v I.spot) k ≡ Some p
    → (stands I.up I.spot k ≡ Some p) ⊎ IsLinkedAt step (v.hand a).topics v p
stood_or_linked z v a (part.Link gfn) S I k p is =
    let t : Topics = (v.hand a).topics in
    linked_or_stood (entry_now gfn t v == t.walk.entry) I.up I.spot (page_owned t.owned) (Under (table_page t.walk) (entry_index gfn t.walk.level))
    (position_below gfn t) k p is
stood_or_linked z v a step S I k p is =
    inl (stood_same I.up (up_after step a (v.hand a).topics v I.up) I.spot (same_tables z v a step S I refl) k p is)
