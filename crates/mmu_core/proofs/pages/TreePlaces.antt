-- Where tables stand: the root at the top, each other one below the entry that links it, and no two at one place; and any two accounts agree.
use Rattle.std.proofs.Common.{◌≡◌, ◌⊎◌, inl, inr, ◌+◌, ◌*◌, ◌/◌, ◌%◌, ◌<◌, ◌≤◌, ℕ, zero, suc, refl, sym, subst, ap, ◌∙◌, arith}
use Rattle.std.specs.Prelude.{true, ◌-◌, Some}
use Rattle.spte_words.specs.Areas.{pool_index}
use Rattle.spte_words.specs.Entries.{kind_of, table_word}
use Rattle.spte_words.proofs.ReadsEntries.{same_table, table_no_leaf, table_not_absent}
use Rattle.mmu_core.specs.invariant.TreePart.{EntryPart, IsUnder, LinksTo, Position, TreePart, Below, HangsBelow, Use, at, is_table, stands, through}
use Rattle.mmu_core.specs.invariant.TreePart.Use.{Free, OldSet, Outside, Owned, Root, SlotSet, Under}
use Rattle.mmu_core.proofs.pages.Standing.{at_spot, one_position, spot_of}

pub same_position : (p q : Position) → p.level ≡ q.level → p.prefix ≡ q.prefix → p ≡ q
same_position p q level prefix = λ t. record { level = level t; prefix = prefix t }

-- A table that hangs by one link more than this below the root: the entry of its span in the table one level above, which it is under.
pub record IsLinked (pool : ℕ → ℕ) (up : ℕ → Use) (spot : ℕ → Position) (root links k : ℕ) (p : Position) : Type 0 where
  pub lower : p.level < 4
  pub parent : ℕ
  pub chain : Below up root links parent
  pub above : stands up spot parent ≡ Some (at (p.level + 1) (p.prefix / 512))
  pub link : pool (pool_index parent (p.prefix % 512)) ≡ table_word k

module _ {pages root : ℕ} {role pool : ℕ → ℕ} {up : ℕ → Use} {spot : ℕ → Position} (T : TreePart pages root role pool up spot) where
  pub root_stands : stands up spot root ≡ Some (at 4 0)
  root_stands = at_spot up spot root Root T.top refl ∙ ap Some T.top_at

  -- what a table is under, where it stands
  under_at : (k m j : ℕ) (p : Position) → stands up spot k ≡ Some p → up k ≡ Under m j → IsUnder pool up spot k p m j
  under_at k m j p at_k e = subst (λ q. IsUnder pool up spot k q m j) (spot_of up spot k p at_k).1 (T.under k m j e)

  linked_by : (links k : ℕ) (p : Position) → Below up root (suc links) k → stands up spot k ≡ Some p → IsLinked pool up spot root links k p
  linked_by links k p hangs at_k = by (up k) refl hangs
    where
      under : (m j : ℕ) → Below up root links m → IsUnder pool up spot k p m j → IsLinked pool up spot root links k p
      under m j chain V = record { lower = V.lower; parent = m; chain = chain; above = V.above; link = ap (λ i. pool (pool_index m i)) V.index ∙ V.link }

      by : (u : Use) → up k ≡ u → through u (Below up root links) → IsLinked pool up spot root links k p
      by (Under m j) e chain = under m j chain (under_at k m j p at_k e)
      by Root e chain = absurd chain
      by Free e chain = absurd chain
      by SlotSet e chain = absurd chain
      by Outside e chain = absurd chain
      by (Owned i) e chain = absurd chain
      by (OldSet i) e chain = absurd chain

  -- A table that the root reaches is the root, or linked.
  pub linked : (k : ℕ) (p : Position) → HangsBelow up root k → stands up spot k ≡ Some p → (k ≡ root) ⊎ ((links : ℕ) × IsLinked pool up spot root links k p)
  linked k p R at_k = by R.0 R.1
    where
      by : (links : ℕ) → Below up root links k → (k ≡ root) ⊎ ((links : ℕ) × IsLinked pool up spot root links k p)
      by zero e = inl e
      by (suc links) hangs = inr (links, linked_by links k p hangs at_k)

  -- What an entry links to stands one level below, at the span of the entry.
  pub link_stands : (k : ℕ) (p : Position) (j w : ℕ) → stands up spot k ≡ Some p → (L : LinksTo up k p j w)
      → stands up spot L.page ≡ Some (at (p.level - 1) (p.prefix * 512 + j))
  link_stands k p j w at_k L =
      let V = T.under L.page k j L.below in
      let same : p ≡ at ((spot L.page).level + 1) ((spot L.page).prefix / 512) = one_position (sym at_k ∙ V.above) in
      let level : p.level ≡ (spot L.page).level + 1 = ap (λ (q : Position). q.level) same in
      let prefix : p.prefix ≡ (spot L.page).prefix / 512 = ap (λ (q : Position). q.prefix) same in
      let index = V.index in
      at_spot up spot L.page (Under k j) L.below refl
      ∙ ap Some (same_position (spot L.page) (at (p.level - 1) (p.prefix * 512 + j)) (omega (arith, level)) (omega (arith, prefix, index)))

  -- No two tables that the root reaches stand at one place.
  at_root : (k : ℕ) (p : Position) → stands up spot k ≡ Some p → k ≡ root → p.level < 4 → ⊥
  at_root k p at_k e lower =
      let top : p.level ≡ 4 = ap (λ (q : Position). q.level) (one_position (sym at_k ∙ ap (stands up spot) e ∙ root_stands)) in
      omega (arith, top, lower)

  one_chain : (links more k l : ℕ) (p : Position) → Below up root links k → Below up root more l → stands up spot k ≡ Some p → stands up spot l ≡ Some p → k ≡ l
  one_chain zero zero k l p e d at_k at_l = e ∙ sym d
  one_chain zero (suc more) k l p e hangs at_k at_l = absurd (at_root k p at_k e (linked_by more l p hangs at_l).lower)
  one_chain (suc links) zero k l p hangs d at_k at_l = absurd (at_root l p at_l d (linked_by links k p hangs at_k).lower)
  one_chain (suc links) (suc more) k l p hangs other at_k at_l =
      let L = linked_by links k p hangs at_k in
      let M = linked_by more l p other at_l in
      let parents : L.parent ≡ M.parent = one_chain links more L.parent M.parent (at (p.level + 1) (p.prefix / 512)) L.chain M.chain L.above M.above in
      same_table k l (sym L.link ∙ ap (λ m. pool (pool_index m (p.prefix % 512))) parents ∙ M.link)

  pub one_place : (k l : ℕ) (p : Position) → HangsBelow up root k → HangsBelow up root l → stands up spot k ≡ Some p → stands up spot l ≡ Some p → k ≡ l
  one_place k l p R Q = one_chain R.0 Q.0 k l p R.1 Q.1

  -- The root reaches each table.
  pub table_or : {X : Type 0} (k : ℕ) (p : Position) → stands up spot k ≡ Some p → (up k ≡ Root → X)
      → ((m j : ℕ) → up k ≡ Under m j → IsUnder pool up spot k p m j → X) → X
  table_or {X} k p at_k at_top linked_so = by (up k) refl (spot_of up spot k p at_k).0
    where
      by : (u : Use) → up k ≡ u → is_table u ≡ true → X
      by Root e table = at_top e
      by (Under m j) e table = linked_so m j e (under_at k m j p at_k e)
      by Free e table = absurd (cc table)
      by SlotSet e table = absurd (cc table)
      by Outside e table = absurd (cc table)
      by (Owned i) e table = absurd (cc table)
      by (OldSet i) e table = absurd (cc table)

  reached_within : (n k : ℕ) (p : Position) → 4 ≤ p.level + n → stands up spot k ≡ Some p → HangsBelow up root k
  reached_within zero k p near at_k = table_or k p at_k (λ e. (0, T.only k e)) (λ m j e V. absurd (let lower = V.lower in omega (arith, near, lower)))
  reached_within (suc n) k p near at_k =
      table_or k p at_k (λ e. (0, T.only k e)) (λ m j e V.
      let R : HangsBelow up root m = reached_within n m (at (p.level + 1) (p.prefix / 512)) (omega (arith, near)) V.above in
      (suc R.0, subst (λ u. through u (Below up root R.0)) (sym e) R.1))

  pub all_reached : (k : ℕ) (p : Position) → stands up spot k ≡ Some p → HangsBelow up root k
  all_reached k p = reached_within 4 k p (omega arith)

-- What stands at a place in one account of the words stands there in any other one.
module _ {pages root : ℕ} {role pool : ℕ → ℕ} {up more : ℕ → Use} {spot place : ℕ → Position} (T : TreePart pages root role pool up spot)
    (N : TreePart pages root role pool more place) where
  root_in_both : (k : ℕ) (p : Position) → stands up spot k ≡ Some p → up k ≡ Root → stands more place k ≡ Some p
  root_in_both k p at_k is =
      let e = T.only k is in
      ap (stands more place) e ∙ root_stands N ∙ sym (root_stands T) ∙ sym (ap (stands up spot) e) ∙ at_k

  -- Where the table above stands in the second, what it links to stands below it, under the same entry.
  linked_in_both : (k m j : ℕ) (p : Position) → stands up spot k ≡ Some p → IsUnder pool up spot k p m j
      → stands more place m ≡ Some (at (p.level + 1) (p.prefix / 512)) → (stands more place k ≡ Some p) × (more k ≡ Under m j)
  linked_in_both k m j p at_k V above = by (N.entries m (at (p.level + 1) (p.prefix / 512)) above j (let index = V.index in omega (arith, index)))
    where
      by : EntryPart more m (at (p.level + 1) (p.prefix / 512)) j (pool (pool_index m j)) → (stands more place k ≡ Some p) × (more k ≡ Under m j)
      by (inl absent) = absurd (table_not_absent k (sym V.link ∙ absent))
      by (inr (inl L)) =
          let index = V.index in
          let same : k ≡ L.page = same_table k L.page (sym V.link ∙ L.is) in (
            ap (stands more place) same
                ∙ link_stands N m (at (p.level + 1) (p.prefix / 512)) j (pool (pool_index m j)) above L
                ∙ ap Some (same_position _ p (omega arith) (omega (arith, index))),
            ap more same ∙ L.below,
          )
      by (inr (inr leaf)) =
          let least = (T.there k p at_k).1 in
          absurd (table_no_leaf (p.level + 1) k (omega (arith, least)) (ap (kind_of (p.level + 1)) (sym V.link) ∙ leaf))

  stands_within : (n k : ℕ) (p : Position) → 4 ≤ p.level + n → stands up spot k ≡ Some p → stands more place k ≡ Some p
  stands_within zero k p near at_k =
      table_or T k p at_k (root_in_both k p at_k) (λ m j is V. absurd (let lower = V.lower in omega (arith, near, lower)))
  stands_within (suc n) k p near at_k =
      table_or T k p at_k (root_in_both k p at_k) (λ m j is V.
      (linked_in_both k m j p at_k V (stands_within n m (at (p.level + 1) (p.prefix / 512)) (omega (arith, near)) V.above)).0)

  pub stands_in_both : (k : ℕ) (p : Position) → stands up spot k ≡ Some p → stands more place k ≡ Some p
  stands_in_both k p = stands_within 4 k p (omega arith)

  -- A table hangs below another one in the second account, too, by as many links, and stands there at its place in the first.
  abbrev pub HangsInBoth : ℕ → ℕ → ℕ → Type 0
  HangsInBoth m links k = Below more m links k × (stands up spot k ≡ Some (spot k)) × (stands more place k ≡ Some (spot k))

  under_in_both : (m links k l j : ℕ) → up k ≡ Under l j → HangsInBoth m links l → HangsInBoth m (suc links) k
  under_in_both m links k l j is above =
      let V = T.under k l j is in
      let at_k : stands up spot k ≡ Some (spot k) = at_spot up spot k (Under l j) is refl in
      let next = linked_in_both k l j (spot k) at_k V (above.2 ∙ sym above.1 ∙ V.above) in
      (subst (λ u. through u (Below more m links)) (sym next.1) above.0, at_k, next.0)

  -- So does what hangs in the first below a table that stands at one place in both.
  pub below_in_both : (m : ℕ) (p : Position) → stands up spot m ≡ Some p → stands more place m ≡ Some p → (links k : ℕ) → Below up m links k
      → HangsInBoth m links k
  below_in_both m p at_m there zero k e =
      let same : p ≡ spot k = sym (spot_of up spot m p at_m).1 ∙ ap spot (sym e) in
      (e, ap (stands up spot) e ∙ at_m ∙ ap Some same, ap (stands more place) e ∙ there ∙ ap Some same)
  below_in_both m p at_m there (suc links) k hangs = by (up k) refl hangs (below_in_both m p at_m there links)
    where
      by : (u : Use) → up k ≡ u → through u (Below up m links) → ((l : ℕ) → Below up m links l → HangsInBoth m links l) → HangsInBoth m (suc links) k
      by (Under l j) is chain above = under_in_both m links k l j is (above l chain)
      by Root is chain above = absurd chain
      by Free is chain above = absurd chain
      by SlotSet is chain above = absurd chain
      by Outside is chain above = absurd chain
      by (Owned i) is chain above = absurd chain
      by (OldSet i) is chain above = absurd chain
