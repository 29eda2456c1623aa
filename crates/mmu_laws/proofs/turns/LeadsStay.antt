-- Where links lead from the root to a leaf, they lead to one that allows as much where each entry of a table stays that isn't absent, but that a leaf
-- may allow writes from then on; or the step takes an entry of the guest frame away.
use Rattle.core_views.specs.declared.kind.StepKind.{StepKind}
use Rattle.core_views.specs.declared.kind.StepKind.TheVariants as kind
use Rattle.std.proofs.Common.{◌≡◌, ◌⊎◌, inl, inr, ◌+◌, ◌*◌, ◌^◌, ◌<◌, ◌≤◌, ℕ, zero, suc, refl, sym, ap, ◌∙◌, arith}
use Rattle.std.specs.Prelude.{Bool, true, false, Option, Some, None}
use Rattle.spte_words.specs.declared.area.Area.{Area}
use Rattle.spte_words.specs.declared.area.Area.TheVariants as area
use Rattle.spte_words.specs.declared.spte_kind.SpteKind.{SpteKind}
use Rattle.spte_words.specs.declared.spte_kind.SpteKind.TheVariants as entry_kind
use Rattle.spte_words.specs.Areas.{pool_index}
use Rattle.spte_words.specs.Entries.{absent_word, child_word, kind_of, can_write, write_bit}
use Rattle.spte_words.proofs.ChildEntries.{child_can_write, child_kind}
use Rattle.spte_words.proofs.ReadsEntries.{kind_of_absent}
use Rattle.mmu_core.specs.alone.FaultAlone.{EndsHere, LeadsTo, LinksOn}
use Rattle.part_steps.specs.PartTasks.{all_but, entry_index}
use Rattle.part_steps.specs.WalkTopics.{linked_page}
use Rattle.mmu_core.specs.invariant.TreePart.{Position, TreePart, at, Use, stands}
use Rattle.mmu_laws.proofs.leaves.LeadsDown.{below_stands, leads_at}
use Rattle.part_steps.specs.declared.task.Task.{Task}

-- The step zaps a leaf in an entry of the table that stands there, and leaves the entry absent.
pub record IsZapped (task : Task) (before : ℕ → ℕ) (k : ℕ) (p : Position) (j : ℕ) : Type 0 where
  pub kind_is : task.kind ≡ kind.Zap
  pub area_is : task.area ≡ area.Pool
  pub index_is : task.index ≡ pool_index k j
  pub writes : task.written ≡ 0
  pub leaf : kind_of p.level (before (pool_index k j)) ≡ entry_kind.Leaf

-- It forbids the writes that a leaf there allows.
pub record IsProtected (task : Task) (before : ℕ → ℕ) (k : ℕ) (p : Position) (j : ℕ) : Type 0 where
  pub kind_is : task.kind ≡ kind.Protect
  pub area_is : task.area ≡ area.Pool
  pub index_is : task.index ≡ pool_index k j
  pub writes : task.written ≡ all_but write_bit
  pub leaf : kind_of p.level (before (pool_index k j)) ≡ entry_kind.Leaf
  pub allowed : can_write (before (pool_index k j)) ≡ true

-- It takes the leaf from an access, which is a write or none.
abbrev pub IsTakenAway : Bool → Task → (ℕ → ℕ) → ℕ → Position → ℕ → Type 0
IsTakenAway write task before k p j = IsZapped task before k p j ⊎ ((write ≡ true) × IsProtected task before k p j)

-- A step of one of these kinds does so.
abbrev pub takes_entries : StepKind → Bool
takes_entries kind.Zap = true
takes_entries kind.Protect = true
takes_entries _ = false

pub taken_kind : (write : Bool) (task : Task) (before : ℕ → ℕ) (k : ℕ) (p : Position) (j : ℕ) → IsTakenAway write task before k p j
    → takes_entries task.kind ≡ true
taken_kind write task before k p j (inl zaps) = ap takes_entries zaps.kind_is
taken_kind write task before k p j (inr forbids) = ap takes_entries forbids.1.kind_is

-- A leaf was there, and one is that allows writes if it did, where it is of an access that writes.
pub record IsLeafStill (write : Bool) (level was is : ℕ) : Type 0 where
  pub was_leaf : kind_of level was ≡ entry_kind.Leaf
  pub is_leaf : kind_of level is ≡ entry_kind.Leaf
  pub writes : write ≡ true → can_write was ≡ true → can_write is ≡ true

-- A large leaf was there, and now a link to a table of its children is.
pub record IsSplit (level was is : ℕ) (after : ℕ → ℕ) : Type 0 where
  pub upper : 2 ≤ level
  pub was_leaf : kind_of level was ≡ entry_kind.Leaf
  pub page : ℕ
  pub links : linked_page (kind_of level is) ≡ Some page
  pub children : (i : ℕ) → i < 512 → after (pool_index page i) ≡ child_word level was i

-- What was in an entry of a table is there still, or it was absent, or the step takes it away, or both are leaves, or the leaf was split; and the root is the
-- same.
abbrev pub EntryStays : Bool → Task → (ℕ → ℕ) → (ℕ → ℕ) → ℕ → Position → ℕ → Type 0
EntryStays write task before after k p j =
    (after (pool_index k j) ≡ before (pool_index k j)) ⊎ (before (pool_index k j) ≡ absent_word) ⊎ IsTakenAway write task before k p j
    ⊎ IsLeafStill write p.level (before (pool_index k j)) (after (pool_index k j))
    ⊎ IsSplit p.level (before (pool_index k j)) (after (pool_index k j)) after

abbrev pub EntriesStay : Bool → Task → (ℕ → Option Position) → (ℕ → ℕ) → (ℕ → ℕ) → Type 0
EntriesStay write task stands before after =
    (k : ℕ) (p : Position) → stands k ≡ Some p → (j : ℕ) → j < 512 → EntryStays write task before after k p j

pub record LinksStay (write : Bool) (task : Task) (stands : ℕ → Option Position) (before after : Area → ℕ → ℕ) : Type 0 where
  pub entries : EntriesStay write task stands (before area.Pool) (after area.Pool)
  pub root : after area.Root 0 ≡ before area.Root 0

-- The step takes an entry of the guest frame from the access.
pub record TakesEntry (write : Bool) (task : Task) (stands : ℕ → Option Position) (before : ℕ → ℕ) (gfn : ℕ) : Type 0 where
  pub level : ℕ
  pub prefix : ℕ
  pub page : ℕ
  pub at_page : stands page ≡ Some (at level prefix)
  pub takes : IsTakenAway write task before page (at level prefix) (entry_index gfn level)

-- ---- where links lead

module _ {pages root : ℕ} {role before : ℕ → ℕ} {up : ℕ → Use} {spot : ℕ → Position} (T : TreePart pages root role before up spot) (after : ℕ → ℕ)
    (few : pages ≤ 2 ^ 32) (write : Bool) (task : Task)
    (stay : EntriesStay write task (stands up spot) before after) (gfn low entry : ℕ) where
  abbrev Takes : Type 0
  Takes = TakesEntry write task (stands up spot) before gfn

  -- Links lead to a leaf that allows writes if the one before did, where the access writes.
  pub record LeadsOn (level page : ℕ) : Type 0 where
    pub at_level : ℕ
    pub leaf : ℕ
    pub leads : LeadsTo after level page gfn at_level leaf
    pub is_leaf : kind_of at_level leaf ≡ entry_kind.Leaf
    pub writes : write ≡ true → can_write entry ≡ true → can_write leaf ≡ true

  -- where they end
  end_stays : (level prefix page : ℕ) → kind_of low entry ≡ entry_kind.Leaf → stands up spot page ≡ Some (at (suc level) prefix)
      → EndsHere before (suc level) page gfn low entry → LeadsOn (suc level) page ⊎ Takes
  end_stays level prefix page leaf at_page E = by (stay page (at (suc level) prefix) at_page j (omega arith))
    where
      j : ℕ
      j = entry_index gfn (suc level)

      by : EntryStays write task before after page (at (suc level) prefix) j → LeadsOn (suc level) page ⊎ Takes
      by (inl same) = inl (record {
        at_level = low;
        leaf = entry;
        leads = inl (record { here = E.here; is = same ∙ E.is; no_link = E.no_link });
        is_leaf = leaf;
        writes = λ is w. w;
      })
      by (inr (inl was)) =
          let absent : kind_of low entry ≡ entry_kind.Absent = ap (kind_of low) (sym E.is ∙ was) ∙ kind_of_absent low in absurd (cc (absent, leaf))
      by (inr (inr (inl Z))) = inr (record { level = suc level; prefix = prefix; page = page; at_page = at_page; takes = Z })
      by (inr (inr (inr (inl K)))) = inl (record {
        at_level = low;
        leaf = after (pool_index page j);
        leads = inl (record { here = E.here; is = refl; no_link = ap (λ (k : SpteKind). linked_page k) K.is_leaf });
        is_leaf = ap (λ n. kind_of n (after (pool_index page j))) E.here ∙ K.is_leaf;
        writes = λ is w. K.writes is (ap can_write E.is ∙ w);
      })
      by (inr (inr (inr (inr K)))) =
          let upper = K.upper in
          let to : suc level ≤ 4 = (T.there page (at (suc level) prefix) at_page).2 in
          let child : after (pool_index K.page (entry_index gfn level)) ≡ child_word (suc level) (before (pool_index page j)) (entry_index gfn level) =
          K.children (entry_index gfn level) (omega arith) in
          let kind : kind_of level (child_word (suc level) (before (pool_index page j)) (entry_index gfn level)) ≡ entry_kind.Leaf =
          ap (λ l. kind_of l (child_word (suc level) (before (pool_index page j)) (entry_index gfn level))) (omega arith)
          ∙ child_kind (suc level) (before (pool_index page j)) (entry_index gfn level) upper to in
          inl (record {
            at_level = level;
            leaf = child_word (suc level) (before (pool_index page j)) (entry_index gfn level);
            leads = inr (K.page, K.links, leads_at after level K.page gfn _ (omega (arith, upper)) child kind);
            is_leaf = kind;
            writes = λ is w. child_can_write (suc level) (before (pool_index page j)) (entry_index gfn level) ∙ ap can_write E.is ∙ w;
          })

  -- a link on the way
  link_stays : (level prefix page below : ℕ) → stands up spot page ≡ Some (at level prefix) → LinksOn before level page gfn below
      → LinksOn after level page gfn below ⊎ Takes
  link_stays level prefix page below at_page link = by (stay page (at level prefix) at_page j (omega arith))
    where
      j : ℕ
      j = entry_index gfn level

      by : EntryStays write task before after page (at level prefix) j → LinksOn after level page gfn below ⊎ Takes
      by (inl same) = inl (ap (λ n. linked_page (kind_of level n)) same ∙ link)
      by (inr (inl was)) =
          let none : linked_page (kind_of level (before (pool_index page j))) ≡ None = ap (λ n. linked_page (kind_of level n)) was
          ∙ ap (λ (k : SpteKind). linked_page k) (kind_of_absent level) in
          absurd (cc (none, link))
      by (inr (inr (inl Z))) = inr (record { level = level; prefix = prefix; page = page; at_page = at_page; takes = Z })
      by (inr (inr (inr (inl K)))) =
          let none : linked_page (kind_of level (before (pool_index page j))) ≡ None = ap (λ (k : SpteKind). linked_page k) K.was_leaf in
          absurd (cc (none, link))
      by (inr (inr (inr (inr K)))) =
          let none : linked_page (kind_of level (before (pool_index page j))) ≡ None = ap (λ (k : SpteKind). linked_page k) K.was_leaf in
          absurd (cc (none, link))

  pub leads_stay : (level prefix page : ℕ) → kind_of low entry ≡ entry_kind.Leaf → stands up spot page ≡ Some (at level prefix)
      → LeadsTo before level page gfn low entry → LeadsOn level page ⊎ Takes
  leads_stay zero prefix page leaf at_page leads = absurd leads
  leads_stay (suc level) prefix page leaf at_page (inl E) = end_stays level prefix page leaf at_page E
  leads_stay (suc level) prefix page leaf at_page (inr down) =
      both (link_stays (suc level) prefix page down.0 at_page down.1)
      (leads_stay level (prefix * 512 + entry_index gfn (suc level)) down.0 leaf
      (below_stands T few gfn (suc level) prefix page down.0 at_page down.1
      ∙ ap (λ n. Some (at n (prefix * 512 + entry_index gfn (suc level)))) (omega arith)) down.2)
    where
      both : LinksOn after (suc level) page gfn down.0 ⊎ Takes → LeadsOn level down.0 ⊎ Takes → LeadsOn (suc level) page ⊎ Takes
      both (inl link) (inl below) =
          inl (record { at_level = below.at_level; leaf = below.leaf; leads = inr (down.0, link, below.leads); is_leaf = below.is_leaf; writes = below.writes })
      both (inl link) (inr Z) = inr Z
      both (inr Z) more = inr Z
