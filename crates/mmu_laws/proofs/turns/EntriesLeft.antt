-- What the exchanges of parts leave in the entries of tables: an entry that isn't absent stays as it is, but that a leaf may allow writes from then on,
-- or that a table of its children takes its place.
use Rattle.spte_words.proofs.Indices.{same_pool_word}
use Rattle.std.proofs.Common.{◌≡◌, ◌≢◌, ◌⊎◌, inl, inr, ◌<◌, ◌≤◌, ℕ, refl, sym, subst, ap, ◌∙◌, arith}
use Rattle.std.specs.Prelude.{Bool, true, false, ◌==◌, if◌then◌else◌, Some, not}
use Rattle.std.proofs.lemmas.Bool.Decides.{nat_tests}
use Rattle.core_views.specs.declared.sizes.Sizes.{Sizes}
use Rattle.core_views.specs.declared.topics.Topics.{Topics}
use Rattle.spte_words.specs.declared.area.Area.TheVariants as area
use Rattle.spte_words.specs.declared.spte_kind.SpteKind.TheVariants as entry_kind
use Rattle.spte_words.specs.Areas.{pool_index}
use Rattle.spte_words.specs.Entries.{absent_word, child_word, kind_of, can_write, without_write}
use Rattle.mmu_core.proofs.pages.ProtectedLeaf.{denied_same, found_leaf, left_leaf}
use Rattle.part_steps.specs.declared.part_step.PartStep.TheVariants as part
use Rattle.mmu_core.specs.invariant.Invariant.{Invariant}
use Rattle.part_steps.specs.PartHoldings.{IsEnd}
use Rattle.part_steps.specs.PartTasks.{entry_index, leaf_written, link_written, page_owned, table_page, part_task, leaf_fixed}
use Rattle.mmu_core.specs.invariant.TopicsInvariant.{TopicsInvariant}
use Rattle.mmu_core.specs.invariant.TreePart.{EntryPart, Position, at, stands}
use Rattle.mmu_core.specs.machine.View.{View, upd}
use Rattle.mmu_core.proofs.machine.Columns.{same_or, upd_other, upd_same}
use Rattle.mmu_core.proofs.machine.PartStepping.{IsPart}
use Rattle.mmu_core.proofs.pages.Standing.{entry_now}
use Rattle.mmu_core.proofs.machine.SumsBelow.{upd_id}
use Rattle.mmu_core.proofs.pages.NewLeaves.{fixed_is_leaf, leaf_is}
use Rattle.mmu_core.proofs.pages.LinkMade.{LinksPage, link_was, links_page, takes_one}
use Rattle.mmu_core.proofs.pages.TreeStored.{LinksNone}
use Rattle.spte_words.proofs.ChildEntries.{below_leaf}
use Rattle.spte_words.proofs.ReadsEntries.{kind_of_table}
use Rattle.part_steps.specs.WalkTopics.{linked_page}
use Rattle.part_steps.specs.declared.task.Task.{Task}
use Rattle.mmu_core.proofs.forms.access.FaultSame.{both, is_not}
use Rattle.spte_words.proofs.FixedEntries.{fixed_can_write}
use Rattle.mmu_core.proofs.pages.EntryStill.{still_leaf}
use Rattle.core_views.specs.Sizes.{actors_of}
pub use Rattle.mmu_laws.proofs.turns.LeadsStay.{EntriesStay, EntryStays, IsLeafStill, IsProtected, IsSplit, IsTakenAway, IsZapped, LinksStay, TakesEntry}
pub use Rattle.mmu_laws.proofs.turns.LeadsStay.{taken_kind}
pub use Rattle.mmu_laws.proofs.turns.LeadsStay.{takes_entries}

-- ---- what a step stores

-- an exchange leaves each entry, or it found an absent one, or a leaf, in whose place it puts one: so an access, which is a write or none, sees it
abbrev Exchanges : Bool → ℕ → ℕ → ℕ → Type 0
Exchanges access level was is = (is ≡ was) ⊎ (was ≡ absent_word) ⊎ IsLeafStill access level was is

exchange_stays : (access : Bool) (level : ℕ) (pool : ℕ → ℕ) (here new_ : ℕ) (won : Bool) → (won ≡ true → Exchanges access level (pool here) new_)
    → (i : ℕ) → ((i ≢ here) ⊎ (i ≡ here)) → (is_there : ℕ) → (i ≡ here → is_there ≡ level)
    → Exchanges access is_there (pool i) (upd pool here (if won then new_ else pool here) i)
exchange_stays access level pool here new_ won was i (inl ne) l same = inl (upd_other pool here i _ ne)
exchange_stays access level pool here new_ false was i (inr e) l same = inl (ap (λ (f : ℕ → ℕ). f i) (upd_id pool here))
exchange_stays access level pool here new_ true was i (inr e) l same =
    subst (λ n. Exchanges access n (pool i) (upd pool here new_ i)) (sym (same e))
    (subst (λ n. Exchanges access level (pool i) n) (sym (ap (upd pool here new_) e ∙ upd_same pool here new_))
    (subst (λ n. Exchanges access level (pool n) new_) (sym e) (was refl)))

module _ (access : Bool) (z : Sizes) (v : View) (a gfn : ℕ) (J : Invariant z v) (I : TopicsInvariant z v) where
  abbrev t : Topics
  t = (v.hand a).topics

  abbrev pool : ℕ → ℕ
  pool = v.words area.Pool

  abbrev index : ℕ
  index = entry_index gfn t.walk.level

  abbrev pub here : ℕ
  here = pool_index (table_page t.walk) index

  tells : (n m : ℕ) → (n == m) ≡ true → n ≡ m
  tells n m e = grind (arith, nat_tests)

  -- Where an entry that is no link isn't absent it is a leaf.
  end_was : a < actors_of z → 1 ≤ t.walk.level → IsEnd t.walk.level (pool here)
      → (pool here ≡ absent_word) ⊎ (kind_of t.walk.level (pool here) ≡ entry_kind.Leaf)
  end_was lt there ends = by (I.tree.entries (table_page t.walk) (at t.walk.level t.walk.prefix) ((I.held a lt).table there) index (omega arith))
    where
      by : EntryPart I.up (table_page t.walk) (at t.walk.level t.walk.prefix) index (pool here)
          → (pool here ≡ absent_word) ⊎ (kind_of t.walk.level (pool here) ≡ entry_kind.Leaf)
      by (inl e) = inl e
      by (inr (inl L)) = absurd (ends L.page L.upper L.is)
      by (inr (inr leaf)) = inr leaf

  -- A leaf is put where none was, or in place of one that allows no writes.
  pub leaf_was : (write : Bool) → IsPart z v a (part.Leaf gfn write) → (entry_now gfn t v == t.walk.entry) ≡ true
      → Exchanges access t.walk.level (pool here) (leaf_written gfn write t)
  leaf_was write S won = by (end_was S.there S.needs.0.saw.over.there (subst (IsEnd t.walk.level) (sym found) S.needs.3))
    where
      found : pool here ≡ t.walk.entry
      found = tells (entry_now gfn t v) t.walk.entry won

      by : (pool here ≡ absent_word) ⊎ (kind_of t.walk.level (pool here) ≡ entry_kind.Leaf)
          → Exchanges access t.walk.level (pool here) (leaf_written gfn write t)
      by (inl none) = inr (inl none)
      by (inr leaf) =
          let denies : can_write (pool here) ≡ false = ap can_write found ∙ S.needs.2 (ap (kind_of t.walk.level) (sym found) ∙ leaf) in
          let puts : kind_of t.walk.level (leaf_written gfn write t) ≡ entry_kind.Leaf = leaf_is gfn write t S.needs.0.saw.over.there S.needs.1.most in
          inr (inr (record { was_leaf = leaf; is_leaf = puts; writes = λ is w. absurd (cc (w, denies)) }))

  -- Writes are allowed in a leaf.
  pub fix_was : IsPart z v a (part.Fix gfn) → (entry_now gfn t v == t.walk.entry) ≡ true → Exchanges access t.walk.level (pool here) (leaf_fixed t)
  fix_was S won =
      let found : pool here ≡ t.walk.entry = tells (entry_now gfn t v) t.walk.entry won in
      inr (inr (record {
        was_leaf = ap (kind_of t.walk.level) found ∙ S.needs.leaf;
        is_leaf = fixed_is_leaf t S.needs;
        writes = λ is w. fixed_can_write t.walk.entry (is_not (can_write t.walk.entry) (both (not (can_write t.walk.entry)) _ S.needs.fixable).0);
      }))

  -- Which table's entry an exchange is in, and of which level.
  level_here : a < actors_of z → 1 ≤ t.walk.level → (k : ℕ) (p : Position) (j : ℕ) → j < 512 → stands I.up I.spot k ≡ Some p → pool_index k j ≡ here
      → p.level ≡ t.walk.level
  level_here lt there k p j low at_k e =
      let page : k ≡ table_page t.walk = (same_pool_word k (table_page t.walk) j index low (omega arith) e).0 in
      let both : Some p ≡ Some (at t.walk.level t.walk.prefix) = sym at_k ∙ ap (stands I.up I.spot) page ∙ (I.held a lt).table there in
      let is : p ≡ at t.walk.level t.walk.prefix = cc both in
      ap (λ (q : Position). q.level) is

  pub put_stays : (task : Task) (new_ : ℕ) → a < actors_of z → 1 ≤ t.walk.level
      → ((entry_now gfn t v == t.walk.entry) ≡ true → Exchanges access t.walk.level (pool here) new_)
      → (k : ℕ) (p : Position) → stands I.up I.spot k ≡ Some p → (j : ℕ) → j < 512
      → EntryStays access task pool (upd pool here (if entry_now gfn t v == t.walk.entry then new_ else entry_now gfn t v)) k p j
  put_stays task new_ lt there was k p at_k j low =
      stays (exchange_stays access t.walk.level pool here new_ (entry_now gfn t v == t.walk.entry) was (pool_index k j)
      (turn (same_or (pool_index k j) here)) p.level (level_here lt there k p j low at_k))
    where
      after : ℕ → ℕ
      after = upd pool here (if entry_now gfn t v == t.walk.entry then new_ else entry_now gfn t v)

      turn : (pool_index k j ≡ here) ⊎ (pool_index k j ≢ here) → (pool_index k j ≢ here) ⊎ (pool_index k j ≡ here)
      turn (inl e) = inr e
      turn (inr ne) = inl ne

      stays : Exchanges access p.level (pool (pool_index k j)) (after (pool_index k j)) → EntryStays access task pool after k p j
      stays (inl same) = inl same
      stays (inr (inl none)) = inr (inl none)
      stays (inr (inr K)) = inr (inr (inr (inl K)))

  -- A table is linked where nothing was mapped, or takes the place of a large leaf.
  pub link_stays : (S : IsPart z v a (part.Link gfn)) (task : Task) (k : ℕ) (p : Position) (j : ℕ) → j < 512 → stands I.up I.spot k ≡ Some p
      → EntryStays access task pool (upd pool here (if entry_now gfn t v == t.walk.entry then link_written t else entry_now gfn t v)) k p j
  link_stays S task k p j low at_k = by (same_or (pool_index k j) here) (entry_now gfn t v == t.walk.entry) refl
    where
      page : LinksPage z v a I
      page = links_page z v a gfn I S

      split : (entry_now gfn t v == t.walk.entry) ≡ true → kind_of t.walk.level t.walk.entry ≡ entry_kind.Leaf
          → IsSplit t.walk.level (pool here) (upd pool here (link_written t) here) (upd pool here (link_written t))
      split is leaf =
          let found : entry_now gfn t v ≡ t.walk.entry = tells (entry_now gfn t v) t.walk.entry is in
          record {
            upper = S.needs.0.upper;
            was_leaf = ap (kind_of t.walk.level) found ∙ leaf;
            page = page_owned t.owned;
            links =
                ap (λ w. linked_page (kind_of t.walk.level w)) (upd_same pool here (link_written t))
                ∙ ap (λ x. linked_page x) (kind_of_table t.walk.level (page_owned t.owned) S.needs.0.upper page.small);
            children =
                λ i small. upd_other pool here (pool_index (page_owned t.owned) i) (link_written t)
                (λ e. page.apart (sym (same_pool_word (page_owned t.owned) (table_page t.walk) i index small (omega arith) e).0))
                ∙ page.words i small ∙ below_leaf t.walk.level t.walk.entry i S.needs.0.upper leaf
                ∙ ap (λ w. child_word t.walk.level w i) (sym found);
          }

      there : (won : Bool) → (entry_now gfn t v == t.walk.entry) ≡ won → pool_index k j ≡ here
          → EntryStays access task pool (upd pool here (if won then link_written t else entry_now gfn t v)) k p j
      there false is e = inl (ap (λ (f : ℕ → ℕ). f (pool_index k j)) (upd_id pool here))
      there true is e = one (takes_one _ S.needs.0.takes)
        where
          level : p.level ≡ t.walk.level
          level = level_here S.there S.needs.0.saw.over.there k p j low at_k e

          one : (kind_of t.walk.level t.walk.entry ≡ entry_kind.Absent) ⊎ (kind_of t.walk.level t.walk.entry ≡ entry_kind.Leaf)
              → EntryStays access task pool (upd pool here (link_written t)) k p j
          one (inl none) = absent (link_was z v a gfn I S (tells (entry_now gfn t v) t.walk.entry is))
            where
              absent : LinksNone t.walk.level (pool here) → EntryStays access task pool (upd pool here (link_written t)) k p j
              absent (inl nothing) = inr (inl (ap pool e ∙ nothing))
              absent (inr leaf) =
                  let found : kind_of t.walk.level (pool here) ≡ kind_of t.walk.level t.walk.entry =
                  ap (kind_of t.walk.level) (tells (entry_now gfn t v) t.walk.entry is) in
                  absurd (cc (found, leaf, none))
          one (inr leaf) =
              inr (inr (inr (inr (subst (λ l. IsSplit l (pool (pool_index k j)) (upd pool here (link_written t) (pool_index k j))
              (upd pool here (link_written t)))
              (sym level) (subst (λ n. IsSplit t.walk.level (pool n) (upd pool here (link_written t) n) (upd pool here (link_written t))) (sym e)
              (split is leaf))))))

      by : (pool_index k j ≡ here) ⊎ (pool_index k j ≢ here) → (won : Bool) → (entry_now gfn t v == t.walk.entry) ≡ won
          → EntryStays access task pool (upd pool here (if won then link_written t else entry_now gfn t v)) k p j
      by (inr ne) won is = inl (upd_other pool here (pool_index k j) (if won then link_written t else entry_now gfn t v) ne)
      by (inl e) won is = there won is e

  -- The entry that is zapped was loaded under the lock that the actor has alone: it is a leaf of the level that the walk has come to.
  pub zapped : (S : IsPart z v a (part.Zap gfn)) (own_ note k : ℕ) (p : Position) (j : ℕ) → j < 512 → stands I.up I.spot k ≡ Some p → pool_index k j ≡ here
      → IsZapped (part_task (part.Zap gfn) own_ t note) pool k p j
  zapped S own_ note k p j low at_k e =
      let over = S.needs.saw.over in
      let page : k ≡ table_page t.walk = (same_pool_word k (table_page t.walk) j index low (omega arith) e).0 in
      let there : stands I.up I.spot (table_page t.walk) ≡ Some (at t.walk.level t.walk.prefix) = (I.held a S.there).table over.there in
      let both : Some p ≡ Some (at t.walk.level t.walk.prefix) = sym at_k ∙ ap (stands I.up I.spot) page ∙ there in
      let is : p ≡ at t.walk.level t.walk.prefix = cc both in
      let loaded = S.needs.saw.loaded in
      let leaf : kind_of t.walk.level (pool here) ≡ entry_kind.Leaf =
      ap (λ i. kind_of t.walk.level (pool (pool_index (table_page t.walk) i))) (sym loaded)
      ∙ still_leaf t.walk.level _ t.walk.entry (I.loaded a S.there S.needs.alone S.needs.outside over.there (omega (arith, loaded))) S.needs.leaf in
      record {
        kind_is = refl;
        area_is = refl;
        index_is = sym e;
        writes = refl;
        leaf = ap (λ (q : Position). kind_of q.level (pool (pool_index k j))) is ∙ ap (λ i. kind_of t.walk.level (pool i)) e ∙ leaf;
      }

  -- So it is where writes are forbidden; where none were allowed the entry stays.
  pub protected_stays : (S : IsPart z v a (part.Protect gfn)) (own_ note k : ℕ) (p : Position) (j : ℕ) → j < 512 → stands I.up I.spot k ≡ Some p
      → EntryStays access (part_task (part.Protect gfn) own_ t note) pool (upd pool here (without_write (entry_now gfn t v))) k p j
  protected_stays S own_ note k p j low at_k = by (same_or (pool_index k j) here) (can_write (pool here)) refl access refl
    where
      -- the leaf that was there, as it is read at this place
      was_leaf : pool_index k j ≡ here → kind_of p.level (pool (pool_index k j)) ≡ entry_kind.Leaf
      was_leaf e =
          ap (λ l. kind_of l (pool (pool_index k j))) (level_here S.there S.needs.saw.over.there k p j low at_k e)
          ∙ ap (λ i. kind_of t.walk.level (pool i)) e ∙ found_leaf z v a gfn S I

      after : ℕ → ℕ
      after = upd pool here (without_write (pool here))

      by : (pool_index k j ≡ here) ⊎ (pool_index k j ≢ here) → (b : Bool) → can_write (pool here) ≡ b → (c : Bool) → access ≡ c
          → EntryStays access (part_task (part.Protect gfn) own_ t note) pool after k p j
      by (inr ne) b writes c is = inl (upd_other pool here (pool_index k j) (without_write (pool here)) ne)
      by (inl e) false none c is =
          inl (ap after e ∙ upd_same pool here (without_write (pool here)) ∙ denied_same (pool here) none ∙ sym (ap pool e))
      by (inl e) true writes false is = inr (inr (inr (inl (record {
        was_leaf = was_leaf e;
        is_leaf =
            ap (λ l. kind_of l (after (pool_index k j))) (level_here S.there S.needs.saw.over.there k p j low at_k e)
            ∙ ap (kind_of t.walk.level) (ap after e ∙ upd_same pool here (without_write (pool here))) ∙ left_leaf z v a gfn S I;
        writes = λ writes_. absurd (cc (is, writes_));
      }))))
      by (inl e) true writes true is = inr (inr (inl (inr (
        is,
        record {
          kind_is = refl;
          area_is = refl;
          index_is = sym e;
          writes = refl;
          leaf = was_leaf e;
          allowed = ap (λ i. can_write (pool i)) e ∙ writes;
        },
      ))))
