-- The tables after a step that leaves each of their words, or stores one entry, or links one more table.
use Rattle.std.proofs.Common.{◌≡◌, ◌≢◌, ◌⊎◌, inl, inr, ◌+◌, ◌*◌, ◌/◌, ◌<◌, ◌≤◌, ℕ, refl, sym, subst, ap, ◌∙◌, arith}
use Rattle.std.specs.Prelude.{true, false, ◌-◌, if◌then◌else◌, Some, None}
use Rattle.spte_words.specs.Areas.{pool_index}
use Rattle.spte_words.specs.declared.spte_kind.SpteKind.TheVariants.{Leaf}
use Rattle.spte_words.specs.Entries.{absent_word, kind_of, table_word}
use Rattle.spte_words.proofs.Indices.{same_pool_word}
use Rattle.spte_words.proofs.ReadsEntries.{table_no_leaf, table_not_absent}
use Rattle.part_steps.specs.PartHoldings.{IsEnd}
use Rattle.mmu_core.specs.invariant.TreePart.{EntryPart, IsUnder, Position, TreePart, Use, at, is_table, stands}
use Rattle.mmu_core.specs.invariant.TreePart.Use.{Root, Under}
use Rattle.mmu_core.specs.machine.View.{upd}
use Rattle.mmu_core.proofs.machine.Columns.{same_or, upd_other, upd_same}
use Rattle.mmu_core.proofs.pages.Standing.{at_spot, one_position, spot_of}
use Rattle.mmu_core.proofs.pages.TreePlaces.{same_position}

-- Each table stays what it was, where it was.
pub record TablesStay (up more : ℕ → Use) (spot place : ℕ → Position) : Type 0 where
  pub use_ : (k : ℕ) → is_table (up k) ≡ true → more k ≡ up k
  pub place_ : (k : ℕ) → is_table (up k) ≡ true → place k ≡ spot k

pub still_stands : (up more : ℕ → Use) (spot place : ℕ → Position) → TablesStay up more spot place → (k : ℕ) (p : Position)
    → stands up spot k ≡ Some p → stands more place k ≡ Some p
still_stands up more spot place S k p at_k =
    let is = spot_of up spot k p at_k in
    at_spot more place k (up k) (S.use_ k is.0) is.0 ∙ ap Some (S.place_ k is.0 ∙ is.1)

-- The entry links to nothing: it is absent, or a leaf of its table's level.
abbrev pub LinksNone : ℕ → ℕ → Type 0
LinksNone level w = (w ≡ absent_word) ⊎ (kind_of level w ≡ Leaf)

pub links_none_ends : (level w : ℕ) → LinksNone level w → IsEnd level w
links_none_ends level w (inl none) page upper is = table_not_absent page (sym is ∙ none)
links_none_ends level w (inr leaf) page upper is = table_no_leaf level page upper (ap (kind_of level) (sym is) ∙ leaf)

-- One more table: linked, and without a table below it.
pub record IsNew (pages : ℕ) (role pool : ℕ → ℕ) (up : ℕ → Use) (spot : ℕ → Position) (k : ℕ) (p : Position) : Type 0 where
  pub there : (k < pages) × (1 ≤ p.level) × (p.level ≤ 4)
  pub role_is : role k ≡ p.level
  pub parent : ℕ
  pub entry : ℕ
  pub below : up k ≡ Under parent entry
  pub under : IsUnder pool up spot k p parent entry
  pub entries : (j : ℕ) → j < 512 → LinksNone p.level (pool (pool_index k j))

-- What was stored in an entry makes it what it should be, and what was there was no link.
pub record IsStored (up : ℕ → Use) (k : ℕ) (p : Position) (j old new_ : ℕ) : Type 0 where
  pub entry : EntryPart up k p j new_
  pub no_link : IsEnd p.level old

-- What is said of an entry holds where the tables stay.
entry_stays : (up more : ℕ → Use) (spot place : ℕ → Position) (k : ℕ) (p : Position) (j w : ℕ) → TablesStay up more spot place → EntryPart up k p j w
    → EntryPart more k p j w
entry_stays up more spot place k p j w S (inl e) = inl e
entry_stays up more spot place k p j w S (inr (inl L)) =
    inr (inl (record { page = L.page; upper = L.upper; is = L.is; below = S.use_ L.page (ap is_table L.below) ∙ L.below }))
entry_stays up more spot place k p j w S (inr (inr L)) = inr (inr L)

links_none : {up : ℕ → Use} (k : ℕ) (p : Position) (j w : ℕ) → LinksNone p.level w → EntryPart up k p j w
links_none k p j w (inl none) = inl none
links_none k p j w (inr leaf) = inr (inr leaf)

-- Tables are kept where each stays that stands, each other one is new, and each entry stays or is stored as it should be.
module _ {pages root : ℕ} {role pool : ℕ → ℕ} {up : ℕ → Use} {spot : ℕ → Position} (T : TreePart pages root role pool up spot)
    (other after : ℕ → ℕ) (more : ℕ → Use) (place : ℕ → Position)
    (S : TablesStay up more spot place)
    (news : (k : ℕ) (p : Position) → stands more place k ≡ Some p → (stands up spot k ≡ Some p) ⊎ IsNew pages other after more place k p)
    (roles : (k : ℕ) (p : Position) → stands up spot k ≡ Some p → other k ≡ role k)
    (words : (k : ℕ) (p : Position) → stands up spot k ≡ Some p → (j : ℕ) → j < 512
    → (after (pool_index k j) ≡ pool (pool_index k j)) ⊎ IsStored more k p j (pool (pool_index k j)) (after (pool_index k j))) where
  abbrev Now : ℕ → Position → Type 0
  Now k p = (stands up spot k ≡ Some p) ⊎ IsNew pages other after more place k p

  there : (k : ℕ) (p : Position) → Now k p → (k < pages) × (1 ≤ p.level) × (p.level ≤ 4)
  there k p (inl is) = T.there k p is
  there k p (inr N) = N.there

  role_is : (k : ℕ) (p : Position) → Now k p → other k ≡ p.level
  role_is k p (inl is) = roles k p is ∙ T.roles k p is
  role_is k p (inr N) = N.role_is

  entry : (k : ℕ) (p : Position) (j : ℕ) → j < 512 → Now k p → EntryPart more k p j (after (pool_index k j))
  entry k p j low (inr N) = links_none k p j _ (N.entries j low)
  entry k p j low (inl is) = by (words k p is j low)
    where
      by : (after (pool_index k j) ≡ pool (pool_index k j)) ⊎ IsStored more k p j (pool (pool_index k j)) (after (pool_index k j))
          → EntryPart more k p j (after (pool_index k j))
      by (inl same) = subst (EntryPart more k p j) (sym same) (entry_stays up more spot place k p j (pool (pool_index k j)) S (T.entries k p is j low))
      by (inr stored) = stored.entry

  still : (c : ℕ) (p : Position) (k j : ℕ) → 1 ≤ p.level → IsUnder pool up spot c p k j → IsUnder after more place c p k j
  still c p k j from V = record {
    lower = V.lower;
    above = still_stands up more spot place S k (at (p.level + 1) (p.prefix / 512)) V.above;
    index = V.index;
    link = by (words k (at (p.level + 1) (p.prefix / 512)) V.above j low);
  }
    where
      low : j < 512
      low = let index = V.index in omega (arith, index)

      by : (after (pool_index k j) ≡ pool (pool_index k j)) ⊎ IsStored more k (at (p.level + 1) (p.prefix / 512)) j (pool (pool_index k j)) (after
          (pool_index k j)) → after (pool_index k j) ≡ table_word c
      by (inl same) = same ∙ V.link
      by (inr stored) = absurd (stored.no_link c (omega (arith, from)) V.link)

  -- what stood before is under the entry that it was under
  was_under : (c k j : ℕ) → more c ≡ Under k j → stands up spot c ≡ Some (place c) → IsUnder after more place c (place c) k j
  was_under c k j is at_c =
      let was = spot_of up spot c (place c) at_c in
      still c (place c) k j (T.there c (place c) at_c).1 (subst (λ p. IsUnder pool up spot c p k j) was.1 (T.under c k j (sym (S.use_ c was.0) ∙ is)))

  new_under : (c k j : ℕ) → more c ≡ Under k j → IsNew pages other after more place c (place c) → IsUnder after more place c (place c) k j
  new_under c k j is N =
      let same : Under N.parent N.entry ≡ Under k j = sym N.below ∙ is in
      let parent : N.parent ≡ k = cc same in
      let index : N.entry ≡ j = cc same in
      subst (λ m. IsUnder after more place c (place c) m j) parent (subst (IsUnder after more place c (place c) N.parent) index N.under)

  under : (c k j : ℕ) → more c ≡ Under k j → IsUnder after more place c (place c) k j
  under c k j is = by (news c (place c) (at_spot more place c (Under k j) is refl))
    where
      by : Now c (place c) → IsUnder after more place c (place c) k j
      by (inl at_c) = was_under c k j is at_c
      by (inr N) = new_under c k j is N

  only : (k : ℕ) → more k ≡ Root → k ≡ root
  only k is = by (news k (place k) (at_spot more place k Root is refl))
    where
      by : Now k (place k) → k ≡ root
      by (inl at_k) = T.only k (sym (S.use_ k (spot_of up spot k (place k) at_k).0) ∙ is)
      by (inr N) = let both = sym N.below ∙ is in absurd (cc both)

  pub tree_moved : TreePart pages root other after more place
  tree_moved = record {
    top = S.use_ root (ap is_table T.top) ∙ T.top;
    only = only;
    top_at = S.place_ root (ap is_table T.top) ∙ T.top_at;
    under = under;
    there = λ k p is. there k p (news k p is);
    roles = λ k p is. role_is k p (news k p is);
    entries = λ k p is j low. entry k p j low (news k p is);
  }

-- One entry of a table is stored.
stored_words : (pool : ℕ → ℕ) (up more : ℕ → Use) (spot : ℕ → Position) (k : ℕ) (p : Position) (j w : ℕ) → stands up spot k ≡ Some p → j < 512
    → IsStored more k p j (pool (pool_index k j)) w → (l : ℕ) (q : Position) → stands up spot l ≡ Some q → (i : ℕ) → i < 512
    → (upd pool (pool_index k j) w (pool_index l i) ≡ pool (pool_index l i))
    ⊎ IsStored more l q i (pool (pool_index l i)) (upd pool (pool_index k j) w (pool_index l i))
stored_words pool up more spot k p j w at_k low S l q at_l i small = by (same_or (pool_index l i) (pool_index k j))
  where
    after : ℕ → ℕ
    after = upd pool (pool_index k j) w

    by : (pool_index l i ≡ pool_index k j) ⊎ (pool_index l i ≢ pool_index k j)
        → (after (pool_index l i) ≡ pool (pool_index l i)) ⊎ IsStored more l q i (pool (pool_index l i)) (after (pool_index l i))
    by (inr ne) = inl (upd_other pool (pool_index k j) (pool_index l i) w ne)
    by (inl e) =
        let s = same_pool_word l k i j small low e in
        let same : p ≡ q = one_position (sym at_k ∙ ap (stands up spot) (sym s.0) ∙ at_l) in
        inr (subst (λ m. IsStored more l q i (pool m) (after m)) (sym e)
        (subst (λ x. IsStored more l q i (pool (pool_index k j)) x) (sym (upd_same pool (pool_index k j) w))
        (subst (λ m. IsStored more m q i (pool (pool_index k j)) w) (sym s.0)
        (subst (λ m. IsStored more k q m (pool (pool_index k j)) w) (sym s.1)
        (subst (λ x. IsStored more k x j (pool (pool_index k j)) w) same S)))))

pub all_stay : (up : ℕ → Use) (spot : ℕ → Position) → TablesStay up up spot spot
all_stay up spot = record { use_ = λ k table. refl; place_ = λ k table. refl }

pub entry_stored : {pages root : ℕ} {role pool : ℕ → ℕ} {up : ℕ → Use} {spot : ℕ → Position} (T : TreePart pages root role pool up spot)
    (k : ℕ) (p : Position) (j w : ℕ) → stands up spot k ≡ Some p → j < 512
    → IsStored up k p j (pool (pool_index k j)) w
    → TreePart pages root role (upd pool (pool_index k j) w) up spot
entry_stored {pages} {root} {role} {pool} {up} {spot} T k p j w at_k low S =
    tree_moved T role (upd pool (pool_index k j) w) up spot (all_stay up spot) (λ l q is. inl is) (λ l q is. refl)
    (stored_words pool up up spot k p j w at_k low S)

-- A table is linked by an entry of a table one level above, which is absent or a leaf.
module _ {pages root : ℕ} {role pool : ℕ → ℕ} {up : ℕ → Use} {spot : ℕ → Position} (T : TreePart pages root role pool up spot)
    (k level prefix j page : ℕ) (at_k : stands up spot k ≡ Some (at level prefix)) (upper : 2 ≤ level) (low : j < 512)
    (was : LinksNone level (pool (pool_index k j))) (none : is_table (up page) ≡ false) where
  -- the words, what the pages are and where the tables stand, after the link
  abbrev linked_words : ℕ → ℕ
  linked_words = upd pool (pool_index k j) (table_word page)

  abbrev below : Position
  below = at (level - 1) (prefix * 512 + j)

  abbrev more : ℕ → Use
  more = upd up page (Under k j)

  abbrev place : ℕ → Position
  place = upd spot page below

  top : level ≤ 4
  top = (T.there k (at level prefix) at_k).2

  -- a table is another page
  differs : (l : ℕ) → is_table (up l) ≡ true → l ≢ page
  differs l table e = let both = sym none ∙ ap (λ m. is_table (up m)) (sym e) ∙ table in absurd (cc both)

  grow : TablesStay up more spot place
  grow = record { use_ = λ l table. upd_other up page l (Under k j) (differs l table); place_ = λ l table. upd_other spot page l below (differs l table) }

  is_under : IsUnder linked_words more place page below k j
  is_under = record {
    lower = omega (arith, top, upper);
    above =
        still_stands up more spot place grow k (at level prefix) at_k
        ∙ ap Some (same_position (at level prefix) (at (level - 1 + 1) ((prefix * 512 + j) / 512)) (omega (arith, upper)) (omega (arith, low)));
    index = omega (arith, low);
    link = upd_same pool (pool_index k j) (table_word page);
  }

  pub table_linked : page < pages → role page ≡ level - 1 → ((i : ℕ) → i < 512 → LinksNone (level - 1) (pool (pool_index page i)))
      → TreePart pages root role linked_words more place
  table_linked there role_is entries =
      tree_moved T role linked_words more place grow news (λ l p is. refl)
      (stored_words pool up more spot k (at level prefix) j (table_word page) at_k low stored)
    where
      apart : k ≢ page
      apart = differs k (spot_of up spot k (at level prefix) at_k).0

      new_one : IsNew pages role linked_words more place page below
      new_one = record {
        there = (there, omega (arith, upper), omega (arith, top));
        role_is = role_is;
        parent = k;
        entry = j;
        below = upd_same up page (Under k j);
        under = is_under;
        entries =
            λ i small. subst (LinksNone (level - 1)) (sym (upd_other pool (pool_index k j) (pool_index page i) (table_word page)
            (λ e. apart (sym (same_pool_word page k i j small low e).0)))) (entries i small);
      }

      at_page : stands more place page ≡ Some below
      at_page = at_spot more place page (Under k j) (upd_same up page (Under k j)) refl ∙ ap Some (upd_same spot page below)

      same_elsewhere : (l : ℕ) → l ≢ page → stands more place l ≡ stands up spot l
      same_elsewhere l ne =
          ap (λ u. if is_table u then Some (place l) else None) (upd_other up page l (Under k j) ne)
          ∙ ap (λ p. if is_table (up l) then Some p else None) (upd_other spot page l below ne)

      news : (l : ℕ) (p : Position) → stands more place l ≡ Some p → (stands up spot l ≡ Some p) ⊎ IsNew pages role linked_words more place l p
      news l p is = by (same_or l page)
        where
          by : (l ≡ page) ⊎ (l ≢ page) → (stands up spot l ≡ Some p) ⊎ IsNew pages role linked_words more place l p
          by (inr ne) = inl (sym (same_elsewhere l ne) ∙ is)
          by (inl e) =
              let same : below ≡ p = one_position (sym at_page ∙ ap (stands more place) (sym e) ∙ is) in
              inr (subst (λ m. IsNew pages role linked_words more place m p) (sym e)
              (subst (IsNew pages role linked_words more place page) same new_one))

      stored : IsStored more k (at level prefix) j (pool (pool_index k j)) (table_word page)
      stored = record {
        entry = inr (inl (record { page = page; upper = upper; is = refl; below = upd_same up page (Under k j) }));
        no_link = links_none_ends level _ was;
      }
