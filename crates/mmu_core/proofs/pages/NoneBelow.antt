-- Where the entry of a table over a guest frame leads nowhere, no links lead to a leaf over this frame.
use Rattle.std.proofs.Math.Nat.{div-div-eq-div-mul}
use Rattle.std.proofs.Common.{◌≡◌, ◌⊎◌, inl, inr, ◌+◌, ◌-◌, ◌/◌, ◌%◌, ◌<◌, ◌≤◌, ℕ, zero, suc, refl, sym, subst, ap, ◌∙◌, arith}
use Rattle.std.specs.Prelude.{Bool, true, false, Some}
use Rattle.std.proofs.lemmas.Bool.{cases_lt}
use Rattle.spte_words.specs.declared.spte_kind.SpteKind.TheVariants as entry_kind
use Rattle.spte_words.specs.Areas.{pool_index}
use Rattle.spte_words.specs.Entries.{kind_of, level_span, table_word}
use Rattle.spte_words.proofs.ReadsEntries.{kind_of_link, table_no_leaf}
use Rattle.spte_words.proofs.Spans.{span_above}
use Rattle.part_steps.specs.PartHoldings.{IsEnd}
use Rattle.part_steps.specs.PartTasks.{entry_index}
use Rattle.part_steps.specs.SweepTopics.{has_done}
use Rattle.spte_words.specs.declared.spte_kind.SpteKind.{SpteKind}
use Rattle.mmu_core.specs.invariant.AllOver.{AllOver, IsEntryOver}
use Rattle.mmu_core.specs.invariant.TreePart.{Position, HangsBelow, TreePart, Use, at, is_table, stands}
use Rattle.mmu_core.proofs.pages.AllOver.{reached_table}
use Rattle.mmu_core.proofs.pages.Standing.{at_spot, one_position}
use Rattle.mmu_core.proofs.pages.TreePlaces.{IsLinked, linked, one_place, root_stands}

-- The entry is a link or a leaf.
abbrev pub leads_on : SpteKind → Bool
leads_on (entry_kind.Table page) = true
leads_on entry_kind.Leaf = true
leads_on entry_kind.Absent = false
leads_on entry_kind.Frozen = false

-- A sweep that zaps leaves has done what there is to do just where it is neither.
pub done_leads : (writes : Bool) (k : SpteKind) → has_done true writes k ≡ true → leads_on k ≡ false
done_leads writes (entry_kind.Table page) is = absurd (cc is)
done_leads writes entry_kind.Leaf is = absurd (cc is)
done_leads writes entry_kind.Absent is = refl
done_leads writes entry_kind.Frozen is = refl

-- the span of a guest frame, one level up
pub span_up : (gfn level : ℕ) → 1 ≤ level → gfn / level_span level / 512 ≡ gfn / level_span (level + 1)
span_up gfn level from = div-div-eq-div-mul gfn (level_span level) 512 ∙ ap (λ n. gfn / n) (let up = span_above level from in omega (arith, up))

-- where a table of the level stands that is over the guest frame
abbrev pub over_frame : ℕ → ℕ → Position
over_frame level gfn = at level (gfn / level_span level / 512)

-- The entry of a table of the level over the guest frame is a link.
record LinksAt (root : ℕ) (pool : ℕ → ℕ) (up : ℕ → Use) (spot : ℕ → Position) (gfn level : ℕ) : Type 0 where
  table : ℕ
  chain : HangsBelow up root table
  here : stands up spot table ≡ Some (over_frame level gfn)
  page : ℕ
  link : pool (pool_index table (entry_index gfn level)) ≡ table_word page

-- A leaf is no link; nor is what leads nowhere.
pub leaf_ends : (level w : ℕ) → kind_of level w ≡ entry_kind.Leaf → IsEnd level w
leaf_ends level w leaf page upper is = table_no_leaf level page upper (ap (kind_of level) (sym is) ∙ leaf)

pub nowhere_ends : (level w : ℕ) → leads_on (kind_of level w) ≡ false → IsEnd level w
nowhere_ends level w nowhere page upper is =
    let leads : leads_on (kind_of level w) ≡ true = ap (λ x. leads_on (kind_of level x)) is ∙ ap leads_on (kind_of_link level page upper) in
    cc (leads, nowhere)

module _ {pages root : ℕ} {role pool : ℕ → ℕ} {up : ℕ → Use} {spot : ℕ → Position} (T : TreePart pages root role pool up spot) where
  -- Above a linked table over the guest frame there is one over it whose entry is a link.
  links_above : (k gfn level : ℕ) → level < 4 → HangsBelow up root k → stands up spot k ≡ Some (over_frame level gfn)
      → LinksAt root pool up spot gfn (level + 1)
  links_above k gfn level lower R at_k = by (linked T k (over_frame level gfn) R at_k)
    where
      from : 1 ≤ level
      from = (T.there k (over_frame level gfn) at_k).1

      span : gfn / level_span level / 512 ≡ gfn / level_span (level + 1)
      span = span_up gfn level from

      by : (k ≡ root) ⊎ ((links : ℕ) × IsLinked pool up spot root links k (over_frame level gfn)) → LinksAt root pool up spot gfn (level + 1)
      by (inl e) =
          let top : level ≡ 4 = ap (λ (p : Position). p.level) (one_position (sym at_k ∙ ap (stands up spot) e ∙ root_stands T)) in
          absurd (omega (arith, top, lower))
      by (inr found) =
          let K = found.1 in
          record {
            table = K.parent;
            chain = (found.0, K.chain);
            here = K.above ∙ ap (λ r. Some (at (level + 1) (r / 512))) span;
            page = k;
            link = sym (ap (λ r. pool (pool_index K.parent (r % 512))) span) ∙ K.link;
          }

  -- So there is one of each level above.
  links_up : (n k gfn level : ℕ) → level + suc n ≤ 4 → HangsBelow up root k → stands up spot k ≡ Some (over_frame level gfn)
      → LinksAt root pool up spot gfn (level + suc n)
  links_up zero k gfn level most R at_k = subst (LinksAt root pool up spot gfn) (omega arith) (links_above k gfn level (omega (arith, most)) R at_k)
  links_up (suc n) k gfn level most R at_k =
      let L = links_above k gfn level (omega (arith, most)) R at_k in
      subst (LinksAt root pool up spot gfn) (omega arith) (links_up n L.table gfn (level + 1) (omega (arith, most)) L.chain L.here)

  -- Where a linked table over the guest frame has an entry that is no link, no linked one over it stands below.
  none_lower : (k l gfn level lower : ℕ) → HangsBelow up root k → HangsBelow up root l → stands up spot k ≡ Some (over_frame level gfn)
      → stands up spot l ≡ Some (over_frame lower gfn) → lower < level → IsEnd level (pool (pool_index k (entry_index gfn level))) → ⊥
  none_lower k l gfn level lower R Q at_k at_l lt ends =
      ends L.page (omega (arith, lt, least)) (ap (λ m. pool (pool_index m (entry_index gfn level))) one ∙ L.link)
    where
      least : 1 ≤ lower
      least = (T.there l (over_frame lower gfn) at_l).1

      most : level ≤ 4
      most = (T.there k (over_frame level gfn) at_k).2

      L : LinksAt root pool up spot gfn level
      L = subst (LinksAt root pool up spot gfn) (omega (arith, lt)) (links_up (level - lower - 1) l gfn lower (omega (arith, lt, most)) Q at_l)

      one : k ≡ L.table
      one = one_place T k L.table (over_frame level gfn) R L.chain at_k L.here

  -- Over a guest frame one entry at most of linked tables is no link.
  pub one_end : (k l gfn level other : ℕ) → HangsBelow up root k → HangsBelow up root l → stands up spot k ≡ Some (over_frame level gfn)
      → stands up spot l ≡ Some (over_frame other gfn) → IsEnd level (pool (pool_index k (entry_index gfn level)))
      → IsEnd other (pool (pool_index l (entry_index gfn other))) → (level ≡ other) × (k ≡ l)
  one_end k l gfn level other R Q at_k at_l ends too = by (cases_lt level other) (cases_lt other level)
    where
      by : (level < other) ⊎ (other ≤ level) → (other < level) ⊎ (level ≤ other) → (level ≡ other) × (k ≡ l)
      by (inl lt) _ = absurd (none_lower l k gfn other level Q R at_l at_k lt too)
      by _ (inl lt) = absurd (none_lower k l gfn level other R Q at_k at_l lt ends)
      by (inr le) (inr ge) =
          let same : other ≡ level = omega (arith, le, ge) in
          let here : stands up spot l ≡ Some (over_frame level gfn) = at_l ∙ ap (λ n. Some (over_frame n gfn)) same in
          (sym same, one_place T k l (over_frame level gfn) R Q at_k here)

  -- An entry of a table that is reached, over a guest frame, is the table's own entry of this frame.
  pub entry_over : (l j gfn : ℕ) → HangsBelow up root l → IsEntryOver (spot l) j gfn
      → (stands up spot l ≡ Some (over_frame (spot l).level gfn)) × (j ≡ entry_index gfn (spot l).level)
  entry_over l j gfn R O =
      let low = O.0 in
      let over = O.1 in
      let prefix : (spot l).prefix ≡ gfn / level_span (spot l).level / 512 = omega (arith, low, over) in (
        at_spot up spot l (up l) refl (reached_table up root l (ap is_table T.top) R) ∙ ap (λ r. Some (at (spot l).level r)) prefix,
        omega (arith, low, over),
      )

  -- Where the entry of this linked table over a guest frame leads nowhere, none over the frame is a leaf.
  pub none_below : (k gfn level : ℕ) → HangsBelow up root k → stands up spot k ≡ Some (over_frame level gfn)
      → leads_on (kind_of level (pool (pool_index k (entry_index gfn level)))) ≡ false
      → AllOver up spot pool root (λ below other w. other ≡ gfn → kind_of below w ≡ entry_kind.Leaf → ⊥)
  none_below k gfn level Q at_k nowhere l j other R O same leaf = absurd (cc (leads, nowhere))
    where
      here : (stands up spot l ≡ Some (over_frame (spot l).level gfn)) × (j ≡ entry_index gfn (spot l).level)
      here = entry_over l j gfn R (subst (IsEntryOver (spot l) j) same O)

      met : kind_of (spot l).level (pool (pool_index l (entry_index gfn (spot l).level))) ≡ entry_kind.Leaf
      met = ap (λ i. kind_of (spot l).level (pool (pool_index l i))) (sym here.1) ∙ leaf

      one : (level ≡ (spot l).level) × (k ≡ l)
      one = one_end k l gfn level (spot l).level Q R at_k here.0 (nowhere_ends level _ nowhere) (leaf_ends (spot l).level _ met)

      leads : leads_on (kind_of level (pool (pool_index k (entry_index gfn level)))) ≡ true
      leads =
          ap (λ n. leads_on (kind_of n (pool (pool_index k (entry_index gfn n))))) one.0
          ∙ ap (λ m. leads_on (kind_of (spot l).level (pool (pool_index m (entry_index gfn (spot l).level))))) one.1 ∙ ap leads_on met
