-- In a sound world links lead from the root to the entry that a fault has installed, once its line has seen it, and so from the table of its walk.
use Rattle.std.proofs.Common.{◌≡◌, ◌/◌, ◌<◌, ℕ, sym, subst, ap, ◌∙◌}
use Rattle.std.specs.Prelude.{Bool, true, Some}
use Rattle.core_views.specs.declared.kind.Kind.{Kind}
use Rattle.core_views.specs.declared.place.AccessPlace.TheVariants.{Enter, Pause, Root, Walk, Touch, Leave, Fault}
use Rattle.core_views.specs.declared.place.FaultEnd.{FaultEnd}
use Rattle.core_views.specs.declared.place.FaultEnd.TheVariants as end_of
use Rattle.core_views.specs.declared.place.FaultPlace.{FaultPlace}
use Rattle.core_views.specs.declared.place.FaultPlace.TheVariants as fault
use Rattle.core_views.specs.declared.place.Place.{Place}
use Rattle.core_views.specs.declared.place.Place.TheVariants as place
use Rattle.core_views.specs.declared.sizes.Sizes.{Sizes}
use Rattle.core_views.specs.declared.topics.TableWalk.{TableWalk}
use Rattle.core_views.specs.declared.topics.Topics.{Topics}
use Rattle.core_views.specs.declared.trace.Command.{Command}
use Rattle.core_views.specs.declared.trace.Command.TheVariants.{Access}
use Rattle.core_views.specs.declared.trace.Line.{Line}
use Rattle.core_views.specs.Held.{Held}
use Rattle.core_views.specs.Sizes.{actors_of}
use Rattle.core_views.specs.Slots.{is_write}
use Rattle.spte_words.specs.declared.area.Area.{Area}
use Rattle.spte_words.specs.declared.area.Area.TheVariants as area
use Rattle.spte_words.specs.Entries.{level_span}
use Rattle.mmu_core.specs.machine.Enabled.{mmu}
use Rattle.mmu_core.specs.alone.FaultAlone.{EntryStands, LeadsToLeaf}
use Rattle.mmu_core.specs.forms.access.FaultKnows.{FaultEndKnows, FaultKnows, HasEntry}
use Rattle.mmu_core.specs.lines.Forms.{KnowsPart}
use Rattle.mmu_core.specs.invariant.Laws.{IsSound}
use Rattle.mmu_core.specs.machine.Machine.{May, Step, World, effect, hand_in}
use Rattle.part_steps.specs.PartTasks.{table_page}
use Rattle.part_steps.specs.PartHoldings.{IsOver}
use Rattle.mmu_core.specs.machine.Steps.{line_at, place_at, task_at}
use Rattle.mmu_core.specs.invariant.TreePart.{at, stands}
use Rattle.mmu_laws.specs.turns.Removal.{StandsAt, WalksInstalled, ends_installed, has_installed, is_installed}
use Rattle.mmu_core.specs.machine.View.{View, answer_in, hand_after, view, word_in, words_after}
use Rattle.mmu_laws.proofs.alone.GoesAlone.{topics_at}
use Rattle.mmu_core.proofs.machine.Columns.{upd_same}
use Rattle.mmu_laws.proofs.leaves.LeadsDown.{leads_at, leads_linked}
use Rattle.mmu_laws.proofs.forms.access.OwnServed.{Makes}
use Rattle.mmu_core.proofs.machine.Worlds.{Takes, good_step}
use Rattle.mmu_core.proofs.pages.Linked.{walk_linked}

-- links lead to a leaf that allows the access
abbrev pub Leads : (Area → ℕ → ℕ) → ℕ → Bool → Type 0
Leads words gfn write = LeadsToLeaf (words area.Pool) 4 (words area.Root 0) gfn write

-- ---- in a sound world

-- where the walk's table stands
over_stands : (z : Sizes) (w : World Held) (a gfn : ℕ) (G : IsSound z w) → a < actors_of z → IsOver gfn (hand_in mmu w a).topics.walk
    → stands G.topics.up G.topics.spot (table_page (hand_in mmu w a).topics.walk) ≡ Some
    (at (hand_in mmu w a).topics.walk.level (gfn / level_span (hand_in mmu w a).topics.walk.level / 512))
over_stands z w a gfn G there over =
    let walk : TableWalk = (hand_in mmu w a).topics.walk in
    (G.topics.held a there).table over.there ∙ ap (λ n. Some (at walk.level n)) (sym over.span)

has_entry : (e : FaultEnd) (y : Sizes) (gfn : ℕ) (write : Bool) (t : Topics) → has_installed e ≡ true → FaultEndKnows e y gfn write t → HasEntry gfn write t
has_entry end_of.Installed y gfn write t is K = K
has_entry (end_of.Fixed marked) y gfn write t is K = K.entry
has_entry _ y gfn write t is K = absurd (cc is)

entry_known : (q : FaultPlace) (y : Sizes) (gfn : ℕ) (write : Bool) (t : Topics) → ends_installed q ≡ true → FaultKnows q y gfn write t → HasEntry gfn write t
entry_known (fault.Give e) y gfn write t is K = has_entry e y gfn write t is K.4
entry_known (fault.Unshare e) y gfn write t is K = has_entry e y gfn write t is K.2
entry_known (fault.End e) y gfn write t is K = has_entry e y gfn write t is K.2
entry_known (fault.Mark fast) y gfn write t is K = K.entry
entry_known _ y gfn write t is K = absurd (cc is)

-- Links lead from the root to the entry that the walk saw.
entry_leads : (z : Sizes) (w : World Held) (a gfn : ℕ) (write : Bool) → IsSound z w → a < actors_of z → HasEntry gfn write (hand_in mmu w a).topics
    → EntryStands (word_in z w area.Pool) gfn (hand_in mmu w a).topics → Leads (word_in z w) gfn write
entry_leads z w a gfn write G there H stands =
    let walk : TableWalk = (hand_in mmu w a).topics.walk in
    let pool : ℕ → ℕ = word_in z w area.Pool in
    record {
      at = walk.level;
      entry = walk.entry;
      leads = (leads_linked z w gfn (table_page walk) walk.level walk.level walk.entry G (walk_linked z (view z w) G.topics a there H.saw.over.there)
          (over_stands z w a gfn G there H.saw.over)).above
          (leads_at pool walk.level (table_page walk) gfn walk.entry H.saw.over.there stands H.leaf);
      leaf = H.leaf;
      allows = H.allows;
    }

-- From the table of a walk links lead where they do from the root.
pub walks_installed : (q : Place) (c : Command) (z : Sizes) (w : World Held) (a gfn : ℕ) (write : Bool) → IsSound z w → a < actors_of z
    → KnowsPart q c (hand_in mmu w a) → StandsAt is_installed q c gfn write → Leads (word_in z w) gfn write
    → WalksInstalled q c (word_in z w) (hand_in mmu w a).topics
walks_installed (place.Access (Walk again)) (Access of_line word op) z w a gfn write G there K stands_ leads =
    let walk : TableWalk = (hand_in mmu w a).topics.walk in
    let L : Leads (word_in z w) of_line (is_write op) = subst (λ n. Leads (word_in z w) n (is_write op)) (sym stands_.1)
    (subst (Leads (word_in z w) gfn) (sym stands_.2) leads) in
    λ is. record {
      at = L.at;
      entry = L.entry;
      leads = (leads_linked z w of_line (table_page walk) walk.level L.at L.entry G (walk_linked z (view z w) G.topics a there K.1.there)
          (over_stands z w a of_line G there K.1)).below L.leads;
      leaf = L.leaf;
      allows = L.allows;
    }
walks_installed (place.Access (Walk again)) _ z w a gfn write G there K stands_ leads = tt
walks_installed (place.Access (Enter again)) c z w a gfn write G there K stands_ leads = tt
walks_installed (place.Access (Pause again)) c z w a gfn write G there K stands_ leads = tt
walks_installed (place.Access (Root again)) c z w a gfn write G there K stands_ leads = tt
walks_installed (place.Access Touch) c z w a gfn write G there K stands_ leads = tt
walks_installed (place.Access (Leave how)) c z w a gfn write G there K stands_ leads = tt
walks_installed (place.Access (Fault p)) c z w a gfn write G there K stands_ leads = tt
walks_installed _ c z w a gfn write G there K stands_ leads = tt

-- ---- after a step

-- Where a step of a line comes to a place after an installed entry from which it has just seen the entry, links lead to it.
module _ (z : Sizes) (u : World Held) (s : Step Kind) (G : IsSound z u) (may : May mmu u s) (T : Takes z u s (hand_in mmu u s.actor)) where
  abbrev h : Held
  h = hand_in mmu u s.actor

  abbrev line : Line
  line = line_at h.state.place h

  abbrev stood : Place
  stood = place_at h.state.place h

  abbrev words : Area → ℕ → ℕ
  words = word_in z u

  abbrev after : Held
  after = hand_after line line.command stood h (answer_in (task_at stood line.command h) words)

  abbrev behind : Area → ℕ → ℕ
  behind = words_after (task_at stood line.command h) words

  pub hand_there : hand_in mmu (effect mmu u s) s.actor ≡ after
  hand_there = ap (λ (v : View). v.hand s.actor) T.leads ∙ upd_same (hand_in mmu u) s.actor after

  pub makes_leads : (gfn : ℕ) (write : Bool)
      → Makes h.state.sizes (behind area.Pool) gfn write (topics_at stood line.command h words) (Leads (word_in z (effect mmu u s)) gfn write)
  makes_leads gfn write q is K stands_ =
      let next : World Held = effect mmu u s in
      let same : after.topics ≡ (hand_in mmu next s.actor).topics = sym (ap (λ (x : Held). x.topics) hand_there) in
      let here : EntryStands (word_in z next area.Pool) gfn (hand_in mmu next s.actor).topics =
      subst (λ (t : Topics). EntryStands (word_in z next area.Pool) gfn t) same
      (subst (λ (ws : Area → ℕ → ℕ). EntryStands (ws area.Pool) gfn after.topics) (sym (ap (λ (v : View). v.words) T.leads)) stands_) in
      entry_leads z next s.actor gfn write (good_step z u s G may) T.is_step.there
      (subst (HasEntry gfn write) same (entry_known q h.state.sizes gfn write after.topics is K)) here
