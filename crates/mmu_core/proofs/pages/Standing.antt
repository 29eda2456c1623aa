-- What the pages of the pool are, and where the tables stand, after a step of a part.
use Rattle.std.proofs.Common.{◌≡◌, ℕ, refl, ap, ◌∙◌}
use Rattle.std.specs.Prelude.{Bool, true, false, ◌+◌, ◌-◌, ◌*◌, ◌==◌, if◌then◌else◌, Some, None}
use Rattle.core_views.specs.declared.topics.Topics.{Topics}
use Rattle.spte_words.specs.declared.area.Area.TheVariants as area
use Rattle.spte_words.specs.Areas.{pool_index}
use Rattle.part_steps.specs.declared.part_step.PartStep.{PartStep}
use Rattle.part_steps.specs.declared.part_step.PartStep.TheVariants as part
use Rattle.part_steps.specs.PartTasks.{entry_index, page_retired, page_owned, table_page}
use Rattle.part_steps.specs.PageTopics.{is_won, tried_bit}
use Rattle.mmu_core.specs.invariant.TreePart.{Position, Use, at, is_table, stands}
use Rattle.mmu_core.specs.invariant.TreePart.Use.{Free, OldSet, Owned, SlotSet, Under}
use Rattle.mmu_core.specs.machine.View.{View, upd}

-- a column with another value at one place, if it was won
abbrev pub upd_if : {X : Type 0} → Bool → (ℕ → X) → ℕ → X → ℕ → X
upd_if won f k x = if won then upd f k x else f

-- where the entry of a guest frame in the walk's table leads
abbrev pub position_below : ℕ → Topics → Position
position_below gfn t = at (t.walk.level - 1) (t.walk.prefix * 512 + entry_index gfn t.walk.level)

-- the entry that an exchange would find
abbrev pub entry_now : ℕ → Topics → View → ℕ
entry_now gfn t v = v.words area.Pool (pool_index (table_page t.walk) (entry_index gfn t.walk.level))

-- what the pages are after a step of actor a: who wins a claim owns the page; a page that is given back is free; a slot set that
-- is published takes the place of the one before it, which is retired; and a link that was stored puts the page that was owned under its entry
abbrev pub up_after : PartStep → ℕ → Topics → View → (ℕ → Use) → ℕ → Use
up_after part.Claim a t v up = upd_if (is_won t.claim (v.words area.PoolMap t.claim.at)) up (64 * t.claim.at + tried_bit t.claim) (Owned a)
up_after part.Give a t v up = upd up (page_owned t.owned) Free
up_after part.GiveOld a t v up = upd up (page_retired t.retired) Free
up_after part.Publish a t v up = upd (upd up (v.words area.Slots 0) (OldSet a)) (page_owned t.owned) SlotSet
up_after (part.Link gfn) a t v up =
    upd_if (entry_now gfn t v == t.walk.entry) up (page_owned t.owned) (Under (table_page t.walk) (entry_index gfn t.walk.level))
up_after _ a t v up = up

-- where the tables stand after it: the page that was linked stands below the walk's table
abbrev pub spot_after : PartStep → Topics → View → (ℕ → Position) → ℕ → Position
spot_after (part.Link gfn) t v spot = upd_if (entry_now gfn t v == t.walk.entry) spot (page_owned t.owned) (position_below gfn t)
spot_after _ t v spot = spot

-- ---- Where a page stands, by what it is.

pub one_position : {p q : Position} → Some p ≡ Some q → p ≡ q
one_position e = cc e

-- A page that is no table stands nowhere.
pub nowhere : (up : ℕ → Use) (spot : ℕ → Position) (k : ℕ) (u : Use) → up k ≡ u → is_table u ≡ false → stands up spot k ≡ None
nowhere up spot k u is none = ap (λ w. if is_table w then Some (spot k) else None) is ∙ ap (λ (b : Bool). if b then Some (spot k) else None) none

pub no_table : (up : ℕ → Use) (spot : ℕ → Position) (k : ℕ) (p : Position) (u : Use) → up k ≡ u → is_table u ≡ false → stands up spot k ≡ Some p → ⊥
no_table up spot k p u is none at = let nowhere_ = nowhere up spot k u is none in absurd (cc (nowhere_, at))

-- A table stands at its position.
pub at_spot : (up : ℕ → Use) (spot : ℕ → Position) (k : ℕ) (u : Use) → up k ≡ u → is_table u ≡ true → stands up spot k ≡ Some (spot k)
at_spot up spot k u is table = ap (λ w. if is_table w then Some (spot k) else None) is ∙ ap (λ (b : Bool). if b then Some (spot k) else None) table

pub spot_of : (up : ℕ → Use) (spot : ℕ → Position) (k : ℕ) (p : Position) → stands up spot k ≡ Some p → (is_table (up k) ≡ true) × (spot k ≡ p)
spot_of up spot k p at = by (is_table (up k)) at
  where
    by : (b : Bool) → (if b then Some (spot k) else None) ≡ Some p → (b ≡ true) × (spot k ≡ p)
    by true is = (refl, one_position is)
    by false is = absurd (cc is)
