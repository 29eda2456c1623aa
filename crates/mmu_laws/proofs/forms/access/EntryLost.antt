-- Whether an installed entry, after which an access stands, was taken away: this is told by following the links. Where it wasn't, the walk finds it.
use Rattle.std.proofs.Common.{◌≡◌, inl, inr, ◌<◌, ℕ, zero, suc, refl, sym, ap, ◌∙◌, arith}
use Rattle.std.specs.Prelude.{Bool, true, false, ◌&&◌, not, Some}
use Rattle.core_views.specs.declared.place.AccessPlace.TheVariants.{Enter, Pause, Root, Walk, Touch, Leave, Fault}
use Rattle.core_views.specs.declared.place.Leaving.TheVariants as leaving
use Rattle.core_views.specs.declared.place.Place.{Place}
use Rattle.core_views.specs.declared.place.Place.TheVariants as place
use Rattle.core_views.specs.declared.sizes.Sizes.{Sizes}
use Rattle.core_views.specs.declared.topics.Topics.{Topics}
use Rattle.core_views.specs.declared.trace.Command.{Command}
use Rattle.core_views.specs.declared.trace.Command.TheVariants.{Access}
use Rattle.core_views.specs.Held.{Held}
use Rattle.core_views.specs.Sizes.{actors_of}
use Rattle.core_views.specs.SlotSets.{MemorySlots}
use Rattle.core_views.specs.Slots.{is_write}
use Rattle.spte_words.specs.declared.area.Area.{Area}
use Rattle.spte_words.specs.declared.area.Area.TheVariants as area
use Rattle.spte_words.specs.declared.spte_kind.SpteKind.{SpteKind}
use Rattle.spte_words.specs.declared.spte_kind.SpteKind.TheVariants as entry_kind
use Rattle.spte_words.specs.Areas.{pool_index}
use Rattle.spte_words.specs.Entries.{kind_of}
use Rattle.part_steps.specs.PartTasks.{entry_index}
use Rattle.part_steps.specs.WalkTopics.{linked_page}
use Rattle.mmu_core.specs.alone.FaultAlone.{LeadsTo, LeadsToLeaf, LinksOn}
use Rattle.mmu_core.specs.invariant.Laws.{IsSound}
use Rattle.mmu_core.specs.forms.access.FaultSteps.{allows_access}
use Rattle.mmu_core.specs.lines.Forms.{KnowsPart, first_place}
use Rattle.mmu_core.specs.machine.Enabled.{mmu}
use Rattle.mmu_core.specs.machine.Machine.{World, hand_in}
use Rattle.mmu_core.specs.machine.Steps.{line_at, next_line, place_at}
use Rattle.mmu_core.specs.machine.View.{word_in}
use Rattle.mmu_laws.specs.turns.Removal.{WalksInstalled, is_installed}
use Rattle.mmu_laws.proofs.leaves.LeadsDown.{leads_at}
use Rattle.mmu_laws.proofs.forms.access.EntryLeads.{Leads, walks_installed}
use Rattle.mmu_laws.proofs.forms.access.OwnServed.{Served}

-- ---- whether links lead to a leaf

-- An entry of this kind is a leaf that allows the access, or links on to where this finds one.
abbrev found_by : SpteKind → Bool → (ℕ → Bool) → Bool
found_by (entry_kind.Table below) allowed finds = finds below
found_by entry_kind.Leaf allowed finds = allowed
found_by _ allowed finds = false

-- They lead the guest frame from this table to a leaf that allows the access.
abbrev pub finds_leaf : (ℕ → ℕ) → ℕ → ℕ → ℕ → Bool → Bool
finds_leaf pool zero page gfn write = false
finds_leaf pool (suc level) page gfn write =
    found_by (kind_of (suc level) (pool (pool_index page (entry_index gfn (suc level)))))
    (allows_access write (pool (pool_index page (entry_index gfn (suc level))))) (λ below. finds_leaf pool level below gfn write)

links_to : (k : SpteKind) (below : ℕ) → linked_page k ≡ Some below → k ≡ entry_kind.Table below
links_to (entry_kind.Table page) below is = let same : page ≡ below = cc is in ap entry_kind.Table same
links_to _ below is = absurd (cc is)

module _ (pool : ℕ → ℕ) (gfn : ℕ) (write : Bool) where
  found_leads : (level page : ℕ) → finds_leaf pool level page gfn write ≡ true → LeadsToLeaf pool level page gfn write
  found_leads zero page is = absurd (cc is)
  found_leads (suc level) page is = by (kind_of (suc level) entry) refl is (λ below e. found_leads level below e)
    where
      entry : ℕ
      entry = pool (pool_index page (entry_index gfn (suc level)))

      by : (k : SpteKind) → kind_of (suc level) entry ≡ k → found_by k (allows_access write entry) (λ below. finds_leaf pool level below gfn write) ≡ true
          → ((below : ℕ) → finds_leaf pool level below gfn write ≡ true → LeadsToLeaf pool level below gfn write)
          → LeadsToLeaf pool (suc level) page gfn write
      by (entry_kind.Table below) at_k e lower =
          let L = lower below e in
          let links : LinksOn pool (suc level) page gfn below = ap (λ (x : SpteKind). linked_page x) at_k in
          record { at = L.at; entry = L.entry; leads = inr (below, links, L.leads); leaf = L.leaf; allows = L.allows }
      by entry_kind.Leaf at_k e lower =
          record { at = suc level; entry = entry; leads = leads_at pool (suc level) page gfn entry (omega arith) refl at_k; leaf = at_k; allows = e }
      by entry_kind.Absent at_k e lower = absurd (cc e)
      by entry_kind.Frozen at_k e lower = absurd (cc e)

  leads_found : (low entry level page : ℕ) → kind_of low entry ≡ entry_kind.Leaf → allows_access write entry ≡ true
      → LeadsTo pool level page gfn low entry → finds_leaf pool level page gfn write ≡ true
  leads_found low entry zero page leaf allows leads = absurd leads
  leads_found low entry (suc level) page leaf allows (inl E) =
      let found : ℕ = pool (pool_index page (entry_index gfn (suc level))) in
      let is : kind_of (suc level) found ≡ entry_kind.Leaf = ap (kind_of (suc level)) E.is ∙ ap (λ l. kind_of l entry) (sym E.here) ∙ leaf in
      ap (λ (k : SpteKind). found_by k (allows_access write found) (λ below. finds_leaf pool level below gfn write)) is ∙ ap (allows_access write) E.is ∙ allows
  leads_found low entry (suc level) page leaf allows (inr down) =
      let found : ℕ = pool (pool_index page (entry_index gfn (suc level))) in
      ap (λ (k : SpteKind). found_by k (allows_access write found) (λ below. finds_leaf pool level below gfn write))
      (links_to (kind_of (suc level) found) down.0 down.1) ∙ leads_found low entry level down.0 leaf allows down.2

-- ---- whether an installed entry is lost

-- The access stands after an installed entry, and links don't lead to it.
abbrev pub is_lost : Place → Command → (Area → ℕ → ℕ) → Bool
is_lost (place.Access p) (Access gfn word op) words = is_installed p && not (finds_leaf (words area.Pool) 4 (words area.Root 0) gfn (is_write op))
is_lost _ _ words = false

not_lost : (again found : Bool) → (again && not found) ≡ false → again ≡ true → found ≡ true
not_lost true true none is = refl
not_lost true false none is = absurd (cc none)
not_lost false found none is = absurd (cc is)

pub served_of : (q : Place) (c : Command) (words : Area → ℕ → ℕ) → is_lost q c words ≡ false → Served q c (Leads words)
served_of (place.Access p) (Access gfn word op) words none =
    λ is. found_leads (words area.Pool) gfn (is_write op) 4 (words area.Root 0)
    (not_lost (is_installed p) (finds_leaf (words area.Pool) 4 (words area.Root 0) gfn (is_write op)) none is)
served_of _ _ words none = tt

pub none_lost : (q : Place) (c : Command) (words : Area → ℕ → ℕ) → Served q c (Leads words) → is_lost q c words ≡ false
none_lost (place.Access p) (Access gfn word op) words S = by (is_installed p) S
  where
    by : (b : Bool) → (b ≡ true → Leads words gfn (is_write op)) → (b && not (finds_leaf (words area.Pool) 4 (words area.Root 0) gfn (is_write op))) ≡ false
    by true S =
        let L = S refl in
        ap (λ (b : Bool). not b) (leads_found (words area.Pool) gfn (is_write op) L.at L.entry 4 (words area.Root 0) L.leaf L.allows L.leads)
    by false S = refl
none_lost _ _ words S = refl

-- Where it is lost the line is under way; where the line leaves for a fault it isn't.
pub lost_line : (q : Place) (h : Held) (c : Command) (words : Area → ℕ → ℕ) → is_lost q c words ≡ true → line_at q h ≡ h.state.line
lost_line place.Between h c words is = absurd (cc is)
lost_line _ h c words is = refl

pub faults_lost : (fast : Bool) (c : Command) (words : Area → ℕ → ℕ) → is_lost (place.Access (Leave (leaving.Faults fast))) c words ≡ false
faults_lost fast (Access gfn word op) words = refl
faults_lost fast _ words = refl

-- Where it isn't, the walk finds a leaf.
module _ (z : Sizes) (w : World Held) (actor : ℕ) (G : IsSound z w) (there : actor < actors_of z) where
  pub walks_served : (q : Place) (c : Command) → KnowsPart q c (hand_in mmu w actor) → Served q c (Leads (word_in z w))
      → WalksInstalled q c (word_in z w) (hand_in mmu w actor).topics
  walks_served (place.Access (Walk again)) (Access gfn word op) K S =
      λ is. walks_installed (place.Access (Walk again)) (Access gfn word op) z w actor gfn (is_write op) G there K (is, refl, refl) (S is) is
  walks_served (place.Access (Walk again)) _ K S = tt
  walks_served (place.Access (Enter again)) c K S = tt
  walks_served (place.Access (Pause again)) c K S = tt
  walks_served (place.Access (Root again)) c K S = tt
  walks_served (place.Access Touch) c K S = tt
  walks_served (place.Access (Leave how)) c K S = tt
  walks_served (place.Access (Fault p)) c K S = tt
  walks_served _ c K S = tt

first_walks : (y : Sizes) (slots : MemorySlots) (c : Command) (words : Area → ℕ → ℕ) (t : Topics) → WalksInstalled (first_place y slots c) c words t
first_walks y slots (Access gfn word op) words t = tt
first_walks y slots _ words t = tt

pub standing_walk : (q : Place) (h : Held) (words : Area → ℕ → ℕ) → WalksInstalled q h.state.line.command words h.topics
    → WalksInstalled (place_at q h) (line_at q h).command words h.topics
standing_walk place.Between h words W = first_walks h.state.sizes h.slots (next_line h).command words h.topics
standing_walk _ h words W = W
