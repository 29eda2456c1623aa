-- What is said of all entries below a table stays so after each step of a part, if it says nothing of what is no leaf, and holds of the leaf that is put.
use Rattle.std.proofs.Common.{◌≡◌, ◌≢◌, ◌⊎◌, inl, inr, ◌-◌, ◌^◌, ◌<◌, ◌≤◌, ℕ, zero, suc, refl, sym, subst, ap, ◌∙◌}
use Rattle.std.specs.Prelude.{Bool, true, false, if◌then◌else◌}
use Rattle.spte_words.specs.Areas.{pool_index}
use Rattle.spte_words.specs.declared.spte_kind.SpteKind.TheVariants.{Leaf}
use Rattle.spte_words.specs.Entries.{absent_word, child_over, kind_of, table_word}
use Rattle.spte_words.proofs.Indices.{same_pool_word}
use Rattle.mmu_core.specs.invariant.AllOver.{AllOver, IsEntryOver}
use Rattle.mmu_core.specs.invariant.TreePart.{Below, Position, HangsBelow, TreePart, Use, is_table, through}
use Rattle.mmu_core.specs.invariant.TreePart.Use.{Free, OldSet, Outside, Owned, Root, SlotSet, Under}
use Rattle.mmu_core.specs.machine.View.{upd}
use Rattle.mmu_core.proofs.machine.Columns.{same_or, upd_other, upd_same}
use Rattle.mmu_core.proofs.pages.Standing.{spot_of, upd_if}
use Rattle.mmu_core.proofs.machine.SumsBelow.{upd_id}
use Rattle.mmu_core.proofs.pages.UsesStay.{SameTable, SameTables}

pub absent_is : 0 ≡ absent_word
unfolding absent_word
absent_is = refl

-- A claim that says nothing of an absent entry and of a link.
pub record IsLight (IsSo : ℕ → ℕ → ℕ → Type 0) : Type 0 where
  pub absent : (level gfn : ℕ) → IsSo level gfn absent_word
  pub link : (level gfn page : ℕ) → 2 ≤ level → page < 2 ^ 32 → IsSo level gfn (table_word page)

-- A claim that the child of a large leaf inherits, of each guest frame that the child is over.
abbrev pub IsInherited : (ℕ → ℕ → ℕ → Type 0) → Type 0
IsInherited IsSo =
    (level gfn leaf : ℕ) → 2 ≤ level → level ≤ 4 → kind_of level leaf ≡ Leaf → IsSo level gfn leaf
    → IsSo (level - 1) gfn (child_over level leaf gfn)

pub over_weaker : (up : ℕ → Use) (spot : ℕ → Position) (pool : ℕ → ℕ) (m : ℕ) (IsSo IsThen : ℕ → ℕ → ℕ → Type 0)
    → ((level gfn w : ℕ) → IsSo level gfn w → IsThen level gfn w) → AllOver up spot pool m IsSo → AllOver up spot pool m IsThen
over_weaker up spot pool m IsSo IsThen weaker A table entry gfn R O = weaker (spot table).level gfn (pool (pool_index table entry)) (A table entry gfn R O)

-- What the chain from a table goes through are tables.
pub reached_table : (up : ℕ → Use) (m l : ℕ) → is_table (up m) ≡ true → HangsBelow up m l → is_table (up l) ≡ true
reached_table up m l table R = by R.0 R.1
  where
    by_use : (u : Use) (P : ℕ → Type 0) → through u P → is_table u ≡ true
    by_use (Under page entry) P hangs = refl
    by_use Free P hangs = absurd hangs
    by_use Root P hangs = absurd hangs
    by_use SlotSet P hangs = absurd hangs
    by_use Outside P hangs = absurd hangs
    by_use (Owned i) P hangs = absurd hangs
    by_use (OldSet i) P hangs = absurd hangs

    by : (links : ℕ) → Below up m links l → is_table (up l) ≡ true
    by zero e = ap (λ k. is_table (up k)) e ∙ table
    by (suc links) hangs = by_use (up l) (Below up m links) hangs

-- What is under an entry hangs by one link more than the table of this entry.
pub through_of : (u : Use) (P : ℕ → Type 0) → through u P → (page entry : ℕ) × (u ≡ Under page entry) × P page
through_of (Under page entry) P hangs = (page, entry, refl, hangs)
through_of Free P hangs = absurd hangs
through_of Root P hangs = absurd hangs
through_of SlotSet P hangs = absurd hangs
through_of Outside P hangs = absurd hangs
through_of (Owned i) P hangs = absurd hangs
through_of (OldSet i) P hangs = absurd hangs

pub hangs_by : (up : ℕ → Use) (m l k j links : ℕ) → up l ≡ Under k j → Below up m links k → Below up m (suc links) l
hangs_by up m l k j links is chain = subst (λ u. through u (Below up m links)) (sym is) chain

-- Who reaches what is reached reaches it.
pub reaches_on : (up : ℕ → Use) (root m l : ℕ) → HangsBelow up root m → HangsBelow up m l → HangsBelow up root l
reaches_on up root m l R Q = on Q.0 l Q.1
  where
    on : (links l : ℕ) → Below up m links l → HangsBelow up root l
    on zero l e = subst (HangsBelow up root) (sym e) R
    on (suc links) l hangs =
        let T = through_of (up l) (Below up m links) hangs in
        let above = on links T.0 T.3 in
        (suc above.0, hangs_by up root l T.0 T.1 above.0 T.2 above.1)

-- Where tables are the same, so is what one of them reaches.
pub same_below : (up more : ℕ → Use) (m : ℕ) → SameTables up more → (links l : ℕ) → Below more m links l → Below up m links l
same_below up more m same zero l e = e
same_below up more m same (suc links) l hangs =
    let T = through_of (more l) (Below more m links) hangs in
    hangs_by up m l T.0 T.1 links (by T.0 T.1 T.2 (same l)) (same_below up more m same links T.0 T.3)
  where
    by : (k j : ℕ) → more l ≡ Under k j → SameTable (up l) (more l) → up l ≡ Under k j
    by k j is (inl e) = sym e ∙ is
    by k j is (inr none) = let no = none.1 in let yes = ap is_table is in absurd (cc (no, yes))

-- Where one table more is below a table, what is reached was reached, or is this table.
module _ {pages root : ℕ} {role pool : ℕ → ℕ} {up : ℕ → Use} {spot : ℕ → Position} (T : TreePart pages root role pool up spot) (page : ℕ)
    (use_ : Use) (none : is_table (up page) ≡ false) (m : ℕ) where
  pub more_below : (links l : ℕ) → Below (upd up page use_) m links l → Below up m links l ⊎ (l ≡ page)
  more_below zero l e = inl e
  more_below (suc links) l hangs = by (same_or l page) (λ k. more_below links k)
    where
      above : (k j : ℕ) → up l ≡ Under k j → Below up m links k ⊎ (k ≡ page) → Below up m (suc links) l ⊎ (l ≡ page)
      above k j is (inl chain) = inl (hangs_by up m l k j links is chain)
      above k j is (inr e) =
          let V = T.under l k j is in
          let yes = (spot_of up spot k _ V.above).0 in
          let no = ap (λ n. is_table (up n)) e ∙ none in
          absurd (cc (no, yes))

      by : (l ≡ page) ⊎ (l ≢ page) → ((k : ℕ) → Below (upd up page use_) m links k → Below up m links k ⊎ (k ≡ page)) → Below up m (suc links) l ⊎ (l ≡ page)
      by (inl e) again = inr e
      by (inr ne) again =
          let U = through_of (upd up page use_ l) (Below (upd up page use_) m links) hangs in
          above U.0 U.1 (sym (upd_other up page l use_ ne) ∙ U.2) (again U.0 U.3)

-- ---- What is stored.

module _ (up : ℕ → Use) (spot : ℕ → Position) (pool : ℕ → ℕ) (m : ℕ) (IsSo : ℕ → ℕ → ℕ → Type 0) (table : is_table (up m) ≡ true)
    (A : AllOver up spot pool m IsSo) where
  -- The words of tables stay.
  pub over_words : (after : ℕ → ℕ) → ((k j : ℕ) → is_table (up k) ≡ true → j < 512 → after (pool_index k j) ≡ pool (pool_index k j))
      → AllOver up spot after m IsSo
  over_words after same k j gfn R O = subst (IsSo (spot k).level gfn) (sym (same k j (reached_table up m k table R) O.0)) (A k j gfn R O)

  -- One entry is stored, of which it is said so.
  pub over_stored : (k j w : ℕ) → j < 512 → ((gfn : ℕ) → HangsBelow up m k → IsEntryOver (spot k) j gfn → IsSo (spot k).level gfn w)
      → AllOver up spot (upd pool (pool_index k j) w) m IsSo
  over_stored k j w low stored l i gfn R O = by (same_or (pool_index l i) (pool_index k j))
    where
      by : (pool_index l i ≡ pool_index k j) ⊎ (pool_index l i ≢ pool_index k j) → IsSo (spot l).level gfn (upd pool (pool_index k j) w (pool_index l i))
      by (inr ne) = subst (IsSo (spot l).level gfn) (sym (upd_other pool (pool_index k j) (pool_index l i) w ne)) (A l i gfn R O)
      by (inl e) =
          let s = same_pool_word l k i j O.0 low e in
          subst (IsSo (spot l).level gfn) (sym (ap (upd pool (pool_index k j) w) e ∙ upd_same pool (pool_index k j) w))
          (subst (λ n. IsSo (spot n).level gfn w) (sym s.0)
          (stored gfn (subst (HangsBelow up m) s.0 R) (subst (λ n. IsEntryOver (spot n) j gfn) s.0 (subst (λ n. IsEntryOver (spot l) n gfn) s.1 O))))

  pub over_exchanged : (k j w : ℕ) (won : Bool) → j < 512 → (won ≡ true → (gfn : ℕ) → HangsBelow up m k → IsEntryOver (spot k) j gfn
      → IsSo (spot k).level gfn w)
      → AllOver up spot (upd pool (pool_index k j) (if won then w else pool (pool_index k j))) m IsSo
  over_exchanged k j w true low stored = over_stored k j w low (stored refl)
  over_exchanged k j w false low stored = subst (λ (words : ℕ → ℕ). AllOver up spot words m IsSo) (sym (upd_id pool (pool_index k j))) A

-- A table without entries is linked.
pub over_grown : {pages root : ℕ} {role words : ℕ → ℕ} {up : ℕ → Use} {spot : ℕ → Position} (T : TreePart pages root role words up spot)
    (pool : ℕ → ℕ) (m : ℕ) (IsSo : ℕ → ℕ → ℕ → Type 0) → is_table (up m) ≡ true → IsLight IsSo
    → (won : Bool) (page : ℕ) (use_ : Use) (p : Position) → is_table (up page) ≡ false
    → (won ≡ true → (j : ℕ) → j < 512 → pool (pool_index page j) ≡ absent_word)
    → AllOver up spot pool m IsSo → AllOver (upd_if won up page use_) (upd_if won spot page p) pool m IsSo
over_grown T pool m IsSo table light false page use_ p none absent A l i gfn R O = A l i gfn R O
over_grown {up = up} {spot = spot} T pool m IsSo table light true page use_ p none absent A l i gfn R O = by (more_below T page use_ none m R.0 l R.1)
  where
    old : l ≢ page → Below up m R.0 l → IsSo (upd spot page p l).level gfn (pool (pool_index l i))
    old ne chain =
        let same : upd spot page p l ≡ spot l = upd_other spot page l p ne in
        subst (λ q. IsSo q.level gfn (pool (pool_index l i))) (sym same) (A l i gfn (R.0, chain) (subst (λ q. IsEntryOver q i gfn) same O))

    differs : Below up m R.0 l → l ≢ page
    differs chain e =
        let yes = reached_table up m l table (R.0, chain) in
        let no = ap (λ k. is_table (up k)) e ∙ none in
        cc (yes, no)

    by : Below up m R.0 l ⊎ (l ≡ page) → IsSo (upd spot page p l).level gfn (pool (pool_index l i))
    by (inl chain) = old (differs chain) chain
    by (inr e) =
        subst (IsSo (upd spot page p l).level gfn) (sym (ap (λ k. pool (pool_index k i)) e ∙ absent refl i O.0))
        (light.absent (upd spot page p l).level gfn)
