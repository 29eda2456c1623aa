-- What the line holds after it has filled one more word of its page, or stored the page's role.
use Rattle.std.proofs.Common.{◌≡◌, ◌+◌, ◌<◌, ◌≤◌, ◌∙◌, ℕ, ap, arith}
use Rattle.std.specs.Prelude.{true, false, nat_lt}
use Rattle.std.proofs.lemmas.Bool.Decides.{nat_tests}
use Rattle.core_views.specs.declared.topics.Topics.{Topics}
use Rattle.part_steps.specs.PageTopics.{filled_more}
use Rattle.part_steps.specs.PartHoldings.{HasRoleToSet, HasToFill}
use Rattle.part_steps.specs.SetHoldings.{OwnsSet}
use Rattle.part_steps.specs.PartTasks.{role_filled, words_filled}
use Rattle.part_steps.specs.SetWords.{set_role}
use Rattle.mmu_core.proofs.pages.Owned.{more_filled, more_role, more_some, some_filled}

-- Another word comes next.
pub fill_goes : (t : Topics) (v : ℕ) → HasToFill t → nat_lt (words_filled t.owned + 1) 512 ≡ true → HasToFill (record t { owned = filled_more t.owned v })
fill_goes t v F more =
    let few : words_filled t.owned + 1 < 512 = grind (arith, nat_tests) in
    (more_some t.owned v F.0, omega (arith, few, more_filled t.owned v F.0))

-- The role comes next.
pub fill_ends : (t : Topics) (v : ℕ) → HasToFill t → nat_lt (words_filled t.owned + 1) 512 ≡ false → HasRoleToSet (record t { owned = filled_more t.owned v })
fill_ends t v F all =
    let whole : 512 ≤ words_filled t.owned + 1 = grind (arith, nat_tests) in
    omega (arith, whole, F.1, more_filled t.owned v F.0)

-- The page is filled whole.
pub whole_filled : (t : Topics) (v : ℕ) → HasRoleToSet t → words_filled (filled_more t.owned v) ≡ 513
whole_filled t v full = omega (arith, full, more_filled t.owned v (some_filled t.owned 512 full (omega arith)))

-- It is filled whole as a slot set.
pub set_whole : (t : Topics) (v : ℕ) → HasRoleToSet t → v ≡ set_role → OwnsSet (record t { owned = filled_more t.owned v })
set_whole t v full is = record { whole = whole_filled t v full; role = more_role t.owned v full ∙ is }

-- It is owned still after a step that leaves the page.
pub same_set : (t u : Topics) → u.owned ≡ t.owned → OwnsSet t → OwnsSet u
same_set t u same O = record { whole = ap words_filled same ∙ O.whole; role = ap role_filled same ∙ O.role }
