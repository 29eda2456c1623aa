use Rattle.std.proofs.Common.{◌≡◌, ℕ, suc, inl, inr, refl, arith}
use Rattle.core_views.specs.declared.trace.RunChange.TheVariants.{Small}
use Rattle.core_views.specs.Flat.{HasToSet}
use Rattle.slot_laws.proofs.laws.runs_are_set_in_order.Goals as goal

pub returns-clause-whole : goal.returns-clause-whole
returns-clause-whole c = (
  inr (inr (record { at = 0; change = Small; asked = refl; left = 1; stands = refl; entry_is = refl })),
  (inr (inr (record { at = 0; change = Small; asked = refl; left = 0; stands = refl; entry_is = refl })), ((refl, (refl, refl)), tt)),
)

pub returns-clause-left : goal.returns-clause-left
returns-clause-left c lawful = absurd (cc lawful.1.0.1.0)

-- The next page to set is another one.
other_page : (left level : ℕ) → HasToSet 510 2 1 ≡ HasToSet 511 left level → ⊥
other_page left level stands = let page : ◌≡◌ {A = ℕ} 510 511 = cc stands in omega (arith, page)

pub returns-clause-order : goal.returns-clause-order
returns-clause-order c (inl may, later) = absurd (cc may.0)
returns-clause-order c (inr (inl may), later) = absurd (cc may.0)
returns-clause-order c (inr (inr may), later) = absurd (other_page (suc may.left) _ may.stands)
