-- Where the entries of tables lead to.
use Rattle.std.proofs.Common.{◌≡◌, inl, inr, ◌+◌, ◌-◌, ◌*◌, ◌^◌, ◌<◌, ◌≤◌, ℕ, sym, subst, ap, ◌∙◌, arith}
use Rattle.std.specs.Prelude.{Option, Some, None}
use Rattle.spte_words.specs.Entries.{kind_of, table_word}
use Rattle.spte_words.proofs.ReadsEntries.{kind_of_absent, kind_of_table}
use Rattle.part_steps.specs.WalkTopics.{linked_page}
use Rattle.mmu_core.specs.invariant.TreePart.{EntryPart, Position, TreePart, Use, at, stands}
use Rattle.mmu_core.proofs.pages.TreePlaces.{link_stands}

-- What an entry links to, if it is a link, stands one level below.
abbrev pub LeadsDown : (ℕ → Option Position) → Position → ℕ → Option ℕ → Type 0
LeadsDown stands p j None = Unit {0}
LeadsDown stands p j (Some page) = (2 ≤ p.level) × (stands page ≡ Some (at (p.level - 1) (p.prefix * 512 + j)))

-- A link leads to its page.
pub link_leads_down : (stands : ℕ → Option Position) (p : Position) (j page : ℕ) → 2 ≤ p.level → page < 2 ^ 32
    → stands page ≡ Some (at (p.level - 1) (p.prefix * 512 + j)) → LeadsDown stands p j (linked_page (kind_of p.level (table_word page)))
link_leads_down stands p j page upper small below = subst (LeadsDown stands p j) (sym (ap linked_page (kind_of_table p.level page upper small))) (upper, below)

pub entry_leads_down : {pages root : ℕ} {role pool : ℕ → ℕ} {up : ℕ → Use} {spot : ℕ → Position} (T : TreePart pages root role pool up spot) (k : ℕ)
    (p : Position) (j w : ℕ) → pages ≤ 2 ^ 32 → stands up spot k ≡ Some p → EntryPart up k p j w
    → LeadsDown (stands up spot) p j (linked_page (kind_of p.level w))
entry_leads_down {up = up} {spot = spot} T k p j w small at_k (inl absent) =
    subst (LeadsDown (stands up spot) p j) (sym (ap (λ x. linked_page (kind_of p.level x)) absent ∙ ap linked_page (kind_of_absent p.level))) tt
entry_leads_down {up = up} {spot = spot} T k p j w small at_k (inr (inl link)) =
    let below = link_stands T k p j w at_k link in
    let there = T.there link.page (at (p.level - 1) (p.prefix * 512 + j)) below in
    subst (λ x. LeadsDown (stands up spot) p j (linked_page (kind_of p.level x))) (sym link.is)
    (link_leads_down (stands up spot) p j link.page link.upper (omega (arith, small, there.0)) below)
entry_leads_down {up = up} {spot = spot} T k p j w small at_k (inr (inr leaf)) = subst (LeadsDown (stands up spot) p j) (sym (ap linked_page leaf)) tt
