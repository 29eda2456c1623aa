-- Links lead from the root to an entry exactly where they do so from a table that stands over the guest frame; and what they come to next.
use Rattle.std.proofs.Common.{◌≡◌, ◌⊎◌, inl, inr, ◌+◌, ◌-◌, ◌*◌, ◌/◌, ◌%◌, ◌^◌, ◌<◌, ◌≤◌, ℕ, zero, suc, refl, sym, subst, ap, ◌∙◌, arith}
use Rattle.std.specs.Prelude.{Bool, true, false, ◌==◌, Some, None}
use Rattle.std.proofs.lemmas.Bool.Decides.{nat_tests}
use Rattle.core_views.specs.declared.topics.TableWalk.{TableWalk}
use Rattle.spte_words.specs.declared.spte_kind.SpteKind.TheVariants as entry_kind
use Rattle.mmu_core.specs.forms.access.FaultSteps.{allows_access}
use Rattle.core_views.specs.declared.sizes.Sizes.{Sizes}
use Rattle.core_views.specs.Held.{Held}
use Rattle.spte_words.specs.declared.area.Area.TheVariants as area
use Rattle.spte_words.specs.declared.spte_kind.SpteKind.{SpteKind}
use Rattle.spte_words.specs.Areas.{pool_index}
use Rattle.spte_words.specs.Entries.{kind_of, level_span}
use Rattle.spte_words.proofs.ReadsEntries.{kind_of_absent, kind_of_table}
use Rattle.mmu_core.specs.alone.FaultAlone.{LeadSame, LeadsTo, LeadsToLeaf, LinksOn}
use Rattle.mmu_core.specs.invariant.Laws.{IsSound}
use Rattle.mmu_core.specs.machine.Machine.{World}
use Rattle.part_steps.specs.PartTasks.{entry_index, table_page}
use Rattle.part_steps.specs.WalkTopics.{gone_down, linked_page}
use Rattle.mmu_core.specs.invariant.TreePart.{Below, EntryPart, HangsBelow, LinksTo, Position, TreePart, Use, at, stands, through}
use Rattle.mmu_core.specs.machine.View.{word_in}
use Rattle.mmu_core.proofs.pages.Standing.{one_position}
use Rattle.mmu_core.proofs.pages.TreePlaces.{IsLinked, all_reached, link_stands, linked, root_stands}
use Rattle.mmu_core.proofs.pages.NoneBelow.{over_frame, span_up}

pub same_page : {k l : ℕ} → Some k ≡ Some l → k ≡ l
same_page e = cc e

-- ---- one level down

-- Behind a link links lead from the table below to where they lead from this one.
leads_below : (pool : ℕ → ℕ) (level page gfn low e below : ℕ) → LinksOn pool (suc level) page gfn below → LeadsTo pool (suc level) page gfn low e
    → LeadsTo pool level below gfn low e
leads_below pool level page gfn low e below link (inl E) =
    let none : linked_page (kind_of (suc level) (pool (pool_index page (entry_index gfn (suc level))))) ≡ None =
    ap (λ w. linked_page (kind_of (suc level) w)) E.is ∙ E.no_link in
    absurd (cc (none, link))
leads_below pool level page gfn low e below link (inr down) =
    subst (λ k. LeadsTo pool level k gfn low e) (same_page (sym down.1 ∙ link)) down.2

-- To a leaf of this table they lead.
pub leads_at : (pool : ℕ → ℕ) (level page gfn e : ℕ) → 1 ≤ level → pool (pool_index page (entry_index gfn level)) ≡ e → kind_of level e ≡ entry_kind.Leaf
    → LeadsTo pool level page gfn level e
leads_at pool zero page gfn e from is leaf = absurd (omega (arith, from))
leads_at pool (suc level) page gfn e from is leaf = inl (record { here = refl; is = is; no_link = ap (λ (k : SpteKind). linked_page k) leaf })

module _ {pages root : ℕ} {role pool : ℕ → ℕ} {up : ℕ → Use} {spot : ℕ → Position} (T : TreePart pages root role pool up spot)
    (few : pages ≤ 2 ^ 32) (gfn : ℕ) where
  -- An entry behind which a page is linked is the link to it.
  link_of : {X : Type 0} (p : Position) (page j word below : ℕ) → stands up spot page ≡ Some p → linked_page (kind_of p.level word) ≡ Some below
      → EntryPart up page p j word → ((L : LinksTo up page p j word) → L.page ≡ below → X) → X
  link_of p page j word below at_page link (inl e) so =
      let none : linked_page (kind_of p.level word) ≡ None =
      ap (λ n. linked_page (kind_of p.level n)) e ∙ ap (λ (k : SpteKind). linked_page k) (kind_of_absent p.level) in
      absurd (cc (none, link))
  link_of p page j word below at_page link (inr (inl L)) so =
      let low = (T.there L.page _ (link_stands T page p j word at_page L)).0 in
      let links : linked_page (kind_of p.level word) ≡ Some L.page =
      ap (λ n. linked_page (kind_of p.level n)) L.is
      ∙ ap (λ (k : SpteKind). linked_page k) (kind_of_table p.level L.page L.upper (omega (arith, low, few))) in
      so L (same_page (sym links ∙ link))
  link_of p page j word below at_page link (inr (inr leaf)) so =
      let none : linked_page (kind_of p.level word) ≡ None = ap (λ (k : SpteKind). linked_page k) leaf in absurd (cc (none, link))

  -- Behind a link of a table stands a table, one level below, at the span of this entry.
  pub below_stands : (level prefix page below : ℕ) → stands up spot page ≡ Some (at level prefix) → LinksOn pool level page gfn below
      → stands up spot below ≡ Some (at (level - 1) (prefix * 512 + entry_index gfn level))
  below_stands level prefix page below at_page link = by (T.entries page (at level prefix) at_page j (omega arith))
    where
      j : ℕ
      j = entry_index gfn level

      word : ℕ
      word = pool (pool_index page j)

      by : EntryPart up page (at level prefix) j word → stands up spot below ≡ Some (at (level - 1) (prefix * 512 + j))
      by E = link_of (at level prefix) page j word below at_page link E (λ L same. ap (stands up spot) (sym same)
          ∙ link_stands T page (at level prefix) j word at_page L)

  -- So behind a link of a table over the guest frame stands a table over it.
  pub one_below : (level page below : ℕ) → stands up spot page ≡ Some (over_frame level gfn) → LinksOn pool level page gfn below
      → stands up spot below ≡ Some (over_frame (level - 1) gfn)
  one_below level page below at_page link = stood ∙ ap (λ n. Some (at (level - 1) n)) span
    where
      stood : stands up spot below ≡ Some (at (level - 1) (gfn / level_span level / 512 * 512 + entry_index gfn level))
      stood = below_stands level (gfn / level_span level / 512) page below at_page link

      least : 1 ≤ level - 1
      least = (T.there below _ stood).1

      span : gfn / level_span level / 512 * 512 + entry_index gfn level ≡ gfn / level_span (level - 1) / 512
      span =
          let next : gfn / level_span (level - 1) / 512 ≡ gfn / level_span level =
          span_up gfn (level - 1) least ∙ ap (λ n. gfn / level_span n) (omega (arith, least)) in
          omega (arith, next)

  -- And it is linked, where the table is.
  pub link_below : (level prefix page below : ℕ) → HangsBelow up root page → stands up spot page ≡ Some (at level prefix) → LinksOn pool level page gfn below
      → HangsBelow up root below
  link_below level prefix page below R at_page link = by (T.entries page (at level prefix) at_page j (omega arith))
    where
      j : ℕ
      j = entry_index gfn level

      word : ℕ
      word = pool (pool_index page j)

      by : EntryPart up page (at level prefix) j word → HangsBelow up root below
      by E = link_of (at level prefix) page j word below at_page link E (λ L same. subst (HangsBelow up root) same
          (suc R.0, subst (λ u. through u (Below up root R.0)) (sym L.below) R.1))

-- ---- from the root

module _ {pages root : ℕ} {role pool : ℕ → ℕ} {up : ℕ → Use} {spot : ℕ → Position} (T : TreePart pages root role pool up spot)
    (few : pages ≤ 2 ^ 32) (gfn low entry : ℕ) where
  -- The table that is linked by an entry leads on where it is the guest frame's.
  one_down : (level page below : ℕ) → LinksOn pool (suc level) page gfn below → LeadSame pool root (suc level) page gfn low entry
      → LeadSame pool root level below gfn low entry
  one_down level page below link S = record {
    below = λ from. leads_below pool level page gfn low entry below link (S.below from);
    above = λ leads. S.above (inr (below, link, leads));
  }

  -- So it is with each table over the guest frame, from the top level down.
  leads_at_root : (level page : ℕ) → stands up spot page ≡ Some (over_frame level gfn) → page ≡ root → LeadSame pool root level page gfn low entry
  leads_at_root level page at_page e =
      let top : level ≡ 4 = ap (λ (p : Position). p.level) (one_position (sym at_page ∙ ap (stands up spot) e ∙ root_stands T)) in
      subst (λ l. LeadSame pool root l page gfn low entry) (sym top)
      (subst (λ k. LeadSame pool root 4 k gfn low entry) (sym e) (record { below = λ leads. leads; above = λ leads. leads }))

  -- The table's parent stands over the guest frame too, and its entry there is the link.
  parent_over : (level page links : ℕ) (L : IsLinked pool up spot root links page (over_frame (suc level) gfn))
      → stands up spot L.parent ≡ Some (over_frame (suc (suc level)) gfn)
  parent_over level page links L =
      let one : suc level + 1 ≡ suc (suc level) = omega arith in
      let span : gfn / level_span (suc level) / 512 ≡ gfn / level_span (suc (suc level)) =
      span_up gfn (suc level) (omega arith) ∙ ap (λ n. gfn / level_span n) one in
      L.above ∙ ap (λ n. Some (at n (gfn / level_span (suc level) / 512 / 512))) one ∙ ap (λ n. Some (at (suc (suc level)) (n / 512))) span

  parent_links : (level page links : ℕ) → stands up spot page ≡ Some (over_frame (suc level) gfn)
      → (L : IsLinked pool up spot root links page (over_frame (suc level) gfn)) → LinksOn pool (suc (suc level)) L.parent gfn page
  parent_links level page links at_page L =
      let one : suc level + 1 ≡ suc (suc level) = omega arith in
      let span : gfn / level_span (suc (suc level)) ≡ gfn / level_span (suc level) / 512 =
      sym (span_up gfn (suc level) (omega arith) ∙ ap (λ n. gfn / level_span n) one) in
      ap (λ n. linked_page (kind_of (suc (suc level)) (pool (pool_index L.parent (n % 512))))) span
      ∙ ap (λ w. linked_page (kind_of (suc (suc level)) w)) L.link
      ∙ ap (λ (k : SpteKind). linked_page k)
      (kind_of_table (suc (suc level)) page (omega arith) (let lt = (T.there page _ at_page).0 in omega (arith, lt, few)))

  -- The table is the root, or linked.
  leads_from : (level page : ℕ) → HangsBelow up root page → stands up spot page ≡ Some (over_frame (suc level) gfn)
      → ((k : ℕ) → suc level < 4 → HangsBelow up root k → stands up spot k ≡ Some (over_frame (suc (suc level)) gfn)
      → LeadSame pool root (suc (suc level)) k gfn low entry) → LeadSame pool root (suc level) page gfn low entry
  leads_from level page R at_page over = by (linked T page _ R at_page)
    where
      by : (page ≡ root) ⊎ ((links : ℕ) × IsLinked pool up spot root links page (over_frame (suc level) gfn))
          → LeadSame pool root (suc level) page gfn low entry
      by (inl e) = leads_at_root (suc level) page at_page e
      by (inr found) =
          let L = found.1 in
          one_down (suc level) L.parent page (parent_links level page found.0 at_page L)
          (over L.parent L.lower (found.0, L.chain) (parent_over level page found.0 L))

  leads_by : (above level page : ℕ) → level + above ≡ 3 → HangsBelow up root page → stands up spot page ≡ Some (over_frame (suc level) gfn)
      → LeadSame pool root (suc level) page gfn low entry
  leads_by zero level page levels R at_page = leads_from level page R at_page (λ k lower reached at_k. absurd (omega (arith, levels, lower)))
  leads_by (suc n) level page levels R at_page =
      leads_from level page R at_page (λ k lower reached at_k. leads_by n (suc level) k (omega (arith, levels)) reached at_k)

  pub leads_same : (level page : ℕ) → HangsBelow up root page → stands up spot page ≡ Some (over_frame level gfn)
      → LeadSame pool root level page gfn low entry
  leads_same zero page R at_page = absurd (let least = (T.there page _ at_page).1 in omega (arith, least))
  leads_same (suc level) page R at_page = leads_by (3 - level) level page (let most = (T.there page _ at_page).2 in omega (arith, most)) R at_page

pub leads_linked : (z : Sizes) (w : World Held) (gfn page level low entry : ℕ) (sound : IsSound z w)
    → HangsBelow sound.topics.up (word_in z w area.Root 0) page
    → stands sound.topics.up sound.topics.spot page ≡ Some (at level (gfn / level_span level / 512))
    → LeadSame (word_in z w area.Pool) (word_in z w area.Root 0) level page gfn low entry
leads_linked z w gfn page level low entry sound R at_page =
    let I = sound.topics in
    leads_same I.tree (let most = sound.holds.sizes.pool.1 in omega (arith, most)) gfn low entry level page R at_page

pub leads_down : (z : Sizes) (w : World Held) (gfn page level low entry : ℕ) (sound : IsSound z w)
    → stands sound.topics.up sound.topics.spot page ≡ Some (at level (gfn / level_span level / 512))
    → LeadSame (word_in z w area.Pool) (word_in z w area.Root 0) level page gfn low entry
leads_down z w gfn page level low entry sound at_page =
    leads_linked z w gfn page level low entry sound (all_reached sound.topics.tree page _ at_page) at_page

-- ---- the next entry on the way

-- through a link, one level down
pub leaf_below : (pool : ℕ → ℕ) (level page gfn below : ℕ) (write : Bool) → 2 ≤ level → LinksOn pool level page gfn below
    → LeadsToLeaf pool level page gfn write → LeadsToLeaf pool (level - 1) below gfn write
leaf_below pool zero page gfn below write upper link L = absurd (omega (arith, upper))
leaf_below pool (suc level) page gfn below write upper link L =
    let down : level ≡ suc level - 1 = omega arith in
    record {
      at = L.at;
      entry = L.entry;
      leads = subst (λ l. LeadsTo pool l below gfn L.at L.entry) down (leads_below pool level page gfn L.at L.entry below link L.leads);
      leaf = L.leaf;
      allows = L.allows;
    }

-- an entry that is no link is the one to which links lead
leads_here : (pool : ℕ → ℕ) (level page gfn low e v : ℕ) → pool (pool_index page (entry_index gfn level)) ≡ v → linked_page (kind_of level v) ≡ None
    → LeadsTo pool level page gfn low e → (level ≡ low) × (v ≡ e)
leads_here pool zero page gfn low e v here none leads = absurd leads
leads_here pool (suc level) page gfn low e v here none (inl E) = (sym E.here, sym here ∙ E.is)
leads_here pool (suc level) page gfn low e v here none (inr down) =
    let some : Some down.0 ≡ None = sym down.1 ∙ ap (λ n. linked_page (kind_of (suc level) n)) here ∙ none in
    absurd (cc some)

pub is_leaf_here : (pool : ℕ → ℕ) (level page gfn v : ℕ) (write : Bool) (k : SpteKind) → pool (pool_index page (entry_index gfn level)) ≡ v
    → kind_of level v ≡ k → linked_page k ≡ None
    → LeadsToLeaf pool level page gfn write → (k ≡ entry_kind.Leaf) × (allows_access write v ≡ true)
is_leaf_here pool level page gfn v write k here is none L =
    let E = leads_here pool level page gfn L.at L.entry v here (ap (λ (x : SpteKind). linked_page x) is ∙ none) L.leads in
    (sym is ∙ ap (λ l. kind_of l v) E.0 ∙ ap (kind_of L.at) E.1 ∙ L.leaf, ap (allows_access write) E.1 ∙ L.allows)

-- the page of the table one level down
pub down_page : (page v index : ℕ) (walk : TableWalk) → 2 ≤ walk.level → walk.level ≤ 4 → table_page (gone_down (Some page) walk index v) ≡ page
down_page page v index walk from most = by (walk.level == 2) (walk.level == 3) refl refl
  where
    by : (two three : Bool) → (walk.level == 2) ≡ two → (walk.level == 3) ≡ three → table_page (gone_down (Some page) walk index v) ≡ page
    by true three is other = let e : walk.level ≡ 2 = grind (arith, nat_tests) in rw e refl
    by false true is other = let e : walk.level ≡ 3 = grind (arith, nat_tests) in rw e refl
    by false false is other = let e : walk.level ≡ 4 = grind (arith, nat_tests) in rw e refl
