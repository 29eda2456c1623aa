-- What actors have looked up of slots and host is so still, while the sequence number is the one that they took before; and from a fault's check under the lock
-- up to the exchange of its leaf.
use Rattle.std.proofs.Common.{◌≡◌, ◌<◌, ◌-◌, ◌∙◌, ℕ, ap, refl, subst, sym}
use Rattle.std.specs.Prelude.{Bool, true, Some}
use Rattle.core_views.specs.declared.place.AccessPlace.TheVariants.{Fault}
use Rattle.core_views.specs.declared.place.FaultPlace.{FaultPlace}
use Rattle.core_views.specs.declared.place.FaultPlace.TheVariants.{Walk, Claim, Fill, Role, Link, Leaf}
use Rattle.core_views.specs.declared.place.Place.{Place}
use Rattle.core_views.specs.declared.place.Place.TheVariants as place
use Rattle.core_views.specs.declared.sizes.Sizes.{Sizes}
use Rattle.core_views.specs.declared.topics.Topics.{Topics}
use Rattle.core_views.specs.declared.trace.Command.{Command}
use Rattle.core_views.specs.declared.trace.Command.TheVariants.{Access}
use Rattle.core_views.specs.declared.trace.Op.{Op}
use Rattle.core_views.specs.declared.trace.Slot.{Slot as SlotOf}
use Rattle.core_views.specs.Held.{Held}
use Rattle.core_views.specs.Sizes.{actors_of}
use Rattle.core_views.specs.Slots.{is_write}
use Rattle.spte_words.specs.declared.area.Area.TheVariants as area
use Rattle.spte_words.specs.HostWords.{host_allows_write, host_present}
use Rattle.part_steps.specs.PartHoldings.{LookedUp}
use Rattle.part_steps.specs.PartTasks.{word_looked}
use Rattle.part_steps.specs.SlotWords.{page_of}
use Rattle.part_steps.specs.StayTopics.{has_lock}
use Rattle.mmu_core.specs.invariant.InvalidatedPart.{IsIn, SlotGives}
use Rattle.mmu_core.specs.invariant.InvalidationsPart.{knows_seq}
use Rattle.mmu_core.specs.invariant.Laws.{IsSound}
use Rattle.mmu_core.specs.invariant.SearchPart.{IsInvalidating, IsOnPage}
use Rattle.mmu_core.specs.invariant.SlotSetPart.{IsLiveIn}
use Rattle.mmu_core.specs.forms.access.FaultHolds.{Entering}
use Rattle.mmu_core.specs.forms.access.FaultKnows.{FaultKnows}
use Rattle.mmu_core.specs.lines.Forms.{KnowsPart}
use Rattle.mmu_core.specs.machine.Enabled.{mmu}
use Rattle.mmu_core.specs.machine.Machine.{World, hand_in, run}
use Rattle.mmu_core.specs.machine.View.{view, word_in}
use Rattle.mmu_core.proofs.held.FreshFrames.{behind_it, fresh_in_none}
use Rattle.mmu_core.proofs.held.OldSets.{held_are_slots}
use Rattle.mmu_core.proofs.words.HostStays.{still_present}
use Rattle.core_theorem.specs.LookUps.{FoundSlotsAreHeld, FreshLookUpsAreTrue, HeldSlotsStand, IsTrueLookUp, LookedUpPagesStand, has_checked}
use Rattle.core_theorem.proofs.Runs.{sound}
use Rattle.mmu_core.proofs.held.PageRuns.{some_run}

pub found_slots_are_held : FoundSlotsAreHeld
found_slots_are_held z lines w ss R actor there whole =
    let G = sound z lines w ss R in
    let S = G.topics.searches actor there in
    let held = S.held whole in
    record {
      set = held.0;
      held = held.1;
      slots = held_are_slots z (view z (run mmu w ss)) actor held.0 there G.topics G.holds.set_part.slots held.1;
      live = (S.whole held.0 held.1 whole).1;
    }

pub held_slots_stand : HeldSlotsStand
held_slots_stand z lines w ss R = (sound z lines w ss R).topics.held_slots

pub looked_up_pages_stand : LookedUpPagesStand
looked_up_pages_stand z lines w ss R actor look there is taken none =
    ((sound z lines w ss R).topics.looks actor there).still look (word_in z (run mmu w ss) area.Seq 0) is taken refl none

-- ---- after a check under the lock

-- At each of these places the fault shares the lock, with a fresh look-up.
is_entering : (p : FaultPlace) (z : Sizes) (gfn : ℕ) (write : Bool) (t : Topics) → has_checked p ≡ true → FaultKnows p z gfn write t → Entering gfn write t
is_entering (Walk rooted) z gfn write t is K = K.0
is_entering (Claim begun) z gfn write t is K = K.0
is_entering Fill z gfn write t is K = K.0
is_entering Role z gfn write t is K = K.0
is_entering Link z gfn write t is K = K.0
is_entering (Leaf writes) z gfn write t is K = K.0
is_entering _ z gfn write t is K = absurd (cc is)

pub knows_fault : (h : Held) (q : Place) (c : Command) (p : FaultPlace) (gfn word : ℕ) (op : Op) → q ≡ place.Access (Fault p) → c ≡ Access gfn word op
    → KnowsPart q c h → FaultKnows p h.state.sizes gfn (is_write op) h.topics
knows_fault h q c p gfn word op at is knows =
    subst (λ (d : Command). KnowsPart (place.Access (Fault p)) d h) is (subst (λ (r : Place). KnowsPart r c h) at knows)

module _ (z : Sizes) (w : World Held) (a gfn : ℕ) (write : Bool) (G : IsSound z w) (there : a < actors_of z)
    (E : Entering gfn write (hand_in mmu w a).topics) where
  abbrev t : Topics
  t = (hand_in mmu w a).topics

  abbrev slot : SlotOf
  slot = t.search.slot

  abbrev page : ℕ
  page = page_of slot gfn

  abbrev host : ℕ → ℕ
  host = word_in z w area.Host

  abbrev L : LookedUp gfn t
  L = E.sharing.looked.looked_up

  locked : has_lock t.hold ≡ true
  locked = ap has_lock E.sharing.shares

  numbered : t.invalidations.seq ≡ word_in z w area.Seq 0
  numbered = (G.topics.checks a there).numbered locked (ap knows_seq E.fresh.checked_all)

  none_over : (i : ℕ) → i < actors_of z → (hand_in mmu w i).topics.invalidations.opened ≡ true → IsIn (hand_in mmu w i).topics.invalidations.own gfn → ⊥
  none_over i low opened is_in = fresh_in_none z (view z w) a i gfn G.topics there low locked E.fresh opened is_in

  live : IsLiveIn (word_in z w area.Pool) (word_in z w area.Slots 0) (t.search.id - 1) slot
  live =
      let S = G.topics.searches a there in
      let held = S.held L.found.whole in
      G.topics.held_slots a held.0 gfn (t.search.id - 1) slot there held.1 (E.fresh.still ∙ ap Some numbered)
      (λ i low U. none_over i low U.opened U.of_it) (S.whole held.0 held.1 L.found.whole).1 L.found.holds

  none_on : (i : ℕ) → i < actors_of z → IsInvalidating (IsOnPage page) (hand_in mmu w i).topics → ⊥
  none_on i low U =
      let B = behind_it slot gfn L.found.holds in
      let given : SlotGives (word_in z w area.Pool) (word_in z w area.Slots 0) page gfn =
      record { id = t.search.id - 1; slot = slot; live = live; has = B.0; is = B.1 } in
      none_over i low U.opened
      ((G.topics.scopes i low U.opened (some_run page (hand_in mmu w i).topics.invalidations.own.pages U.of_it)).covers page gfn U.of_it given)

  same_word : L.word ≡ host page
  same_word =
      still_present L.word (host page)
      ((G.topics.looks a there).still (record { page = page; word = L.word }) t.invalidations.seq L.host E.fresh.still numbered none_on)
      (sym (ap (λ o. host_present (word_looked o)) L.host) ∙ E.sharing.looked.presence)

  pub true_look_up : IsTrueLookUp z w a gfn write
  true_look_up = record {
    shares = E.sharing.shares;
    none_over = none_over;
    holds = L.found.holds;
    live = live;
    page = page;
    is_behind = refl;
    seen = L.host ∙ ap (λ (n : ℕ). Some (record { page = page; word = n })) same_word;
    present = ap host_present (sym same_word) ∙ (sym (ap (λ o. host_present (word_looked o)) L.host) ∙ E.sharing.looked.presence);
    allowed = λ is. ((E.sharing.looked.allowed is).0, ap host_allows_write (sym same_word) ∙ (E.sharing.looked.allowed is).1);
  }

pub fresh_look_ups_are_true : FreshLookUpsAreTrue
fresh_look_ups_are_true z lines w ss R actor there gfn word op p checked stands command =
    let G = sound z lines w ss R in
    let h : Held = hand_in mmu (run mmu w ss) actor in
    true_look_up z (run mmu w ss) actor gfn (is_write op) G there
    (is_entering p h.state.sizes gfn (is_write op) h.topics checked
    (knows_fault h h.state.place h.state.line.command p gfn word op stands command (G.holds.knows actor there)))
