-- The publication of a slot set, by a line that is alone: the bits of its logs are of dirty guest frames. A log that begins with it has no bit set, or a bit
-- for each page, and each is dirty.
use Rattle.std.proofs.Common.{◌≡◌, ◌≢◌, ◌⊎◌, inl, inr, ◌<◌, ◌++◌, [], ◌∷◌, List, ℕ, refl, sym, subst, ap, ◌∙◌}
use Rattle.std.specs.Prelude.{Bool, true, false, not, ◌||◌, ◌&&◌, if◌then◌else◌, Option, Some, None}
use Rattle.core_views.specs.declared.event.Event.{Event}
use Rattle.core_views.specs.declared.event.EventKind.{EventKind}
use Rattle.core_views.specs.declared.event.EventKind.TheVariants.{Armed, SlotChanged}
use Rattle.core_views.specs.declared.place.Place.{Place}
use Rattle.core_views.specs.declared.place.Place.TheVariants as place
use Rattle.core_views.specs.declared.place.SlotChangePlace.TheVariants as change
use Rattle.core_views.specs.declared.sizes.Sizes.{Sizes}
use Rattle.core_views.specs.declared.memory_slot.MemorySlot.{MemorySlot}
use Rattle.core_views.specs.declared.trace.Command.{Command}
use Rattle.core_views.specs.declared.trace.Line.{Line}
use Rattle.core_views.specs.declared.trace.Slot.{Slot as SlotOf}
use Rattle.core_views.specs.Events.{after_all}
use Rattle.core_views.specs.Flat.{Facts, Flat}
use Rattle.core_views.specs.Held.{Held}
use Rattle.core_views.specs.LogCommands.{is_all_set}
use Rattle.core_views.specs.Past.{has_gfn}
use Rattle.core_views.specs.Sizes.{actors_of}
use Rattle.core_views.specs.SlotCommands.{after_change, arms, slots_after}
use Rattle.core_views.specs.Slots.{contains}
use Rattle.core_views.specs.SlotSets.{MemorySlots, changed_slots, slot_of_id}
use Rattle.spte_words.specs.declared.area.Area.TheVariants as area
use Rattle.part_steps.specs.PartTasks.{page_owned}
use Rattle.part_steps.specs.SlotWords.{page_of}
use Rattle.mmu_core.specs.invariant.Invariant.{Invariant, RecordPart}
use Rattle.mmu_core.specs.invariant.SlotSetPart.{AreSlots, IsLiveIn}
use Rattle.mmu_core.specs.machine.View.{View, stepped}
use Rattle.mmu_core.proofs.machine.Columns.{same_or}
use Rattle.mmu_core.proofs.slots.SetFilled.{recorded_live}
use Rattle.log_invariant.specs.Covered.{IsLoggedIn, is_marked}
use Rattle.log_invariant.proofs.LogRecords.{with_log}
use Rattle.log_invariant.proofs.PublishedLogs.{logged_recorded, recorded_logged}
use Rattle.log_invariant.proofs.StepPlaces.{of_hand}
use Rattle.mmu_laws.specs.forms.log.ReadingsAlone.{WritesLater, WritesLaterAt}
use Rattle.mmu_laws.proofs.forms.log.LoneReadingSteps.{StepsAlone}
use Rattle.mmu_laws.proofs.flat.BeginningsKept.{told_later}
use Rattle.mmu_laws.proofs.flat.ChangedSlots.{ChangeOf}
use Rattle.mmu_laws.proofs.flat.FlatKept.{told_events}
use Rattle.mmu_laws.proofs.forms.slot_change.PublishLogs.{C, N, R, kinds_are, none_set}
use Rattle.mmu_laws.proofs.flat.Told.{facts_behind, told, told_facts}

-- A guest frame of another slot isn't in this one.
not_in : (z : Sizes) (pool : ℕ → ℕ) (set : ℕ) (slots : MemorySlots) (i id gfn : ℕ) (slot : SlotOf) → RecordPart pool set slots → AreSlots z pool set → i ≢ id
    → IsLiveIn pool set i slot → contains gfn slot ≡ true → has_gfn (slot_of_id id slots) gfn ≡ false
not_in z pool set slots i id gfn slot R A apart L has = by (slot_of_id id slots) refl
  where
    none : (b : Bool) → (b ≡ true → ⊥) → b ≡ false
    none true not_so = absurd (not_so refl)
    none false not_so = refl

    by : (o : Option MemorySlot) → slot_of_id id slots ≡ o → has_gfn o gfn ≡ false
    by None is = refl
    by (Some m) is =
        let M = recorded_live pool set id slots m R is in
        none (contains gfn m.slot)
        (λ too. apart (A.guest_apart gfn i id L.low M.low L.live M.live (ap (contains gfn) L.is ∙ has) (ap (contains gfn) M.is ∙ too)))

module _ (z : Sizes) (v : View) (f : Flat) (a : ℕ) (line : Line) (X : StepsAlone z v f a line (place.SlotChange change.Publish))
    (kept : Invariant z (stepped a line line.command (place.SlotChange change.Publish) v)) where
  abbrev p : Place
  p = place.SlotChange change.Publish

  abbrev h : Held
  h = v.hand a

  abbrev command : Command
  command = line.command

  abbrev pool : ℕ → ℕ
  pool = v.words area.Pool

  abbrev set : ℕ
  set = v.words area.Slots 0

  abbrev page : ℕ
  page = page_owned h.topics.owned

  abbrev log : ℕ → ℕ
  log = v.words area.Log

  abbrev next : MemorySlots
  next = slots_after command h.slots

  abbrev behind : Flat
  behind = after_all (told_events v a line command p) f

  abbrev own : ChangeOf h.slots command
  own = C z v a line command X.ready.small X.step X.ready.holds X.ready.topics X.ready.covered

  abbrev before : RecordPart pool set h.slots
  before = R z v a line command X.ready.small X.step X.ready.holds X.ready.topics X.ready.covered

  abbrev later : RecordPart pool page next
  later = N z v a line command X.ready.small X.step X.ready.holds X.ready.topics X.ready.covered

  same : f.facts.slots ≡ h.slots
  same = X.ready.flat.refines.slots ∙ sym before.same

  -- ---- the facts after it

  abbrev arming : List EventKind
  arming = if is_all_set h.state.sizes.mode then (if arms command then Armed own.id true ∷ [] else []) else []

  facts_are : behind.facts ≡ facts_behind (SlotChanged own.id own.slot ∷ (arming ++ [])) f.facts
  facts_are =
      ap (λ (es : List Event). (after_all es f).facts)
      (told_later z v a line command p X.step refl
      ∙ ap (told h.state.actor) (kinds_are z v a line command X.ready.small X.step X.ready.holds X.ready.topics X.ready.covered))
      ∙ told_facts h.state.actor (SlotChanged own.id own.slot ∷ (arming ++ [])) f

  -- Dirty frames of other slots stay dirty.
  elsewhere : (gfn : ℕ) → has_gfn (slot_of_id own.id f.facts.slots) gfn ≡ false → has_gfn own.slot gfn ≡ false → f.facts.pending gfn ≡ true
      → behind.facts.pending gfn ≡ true
  elsewhere gfn out too is =
      ap (λ (y : Facts). y.pending gfn) facts_are ∙ by (is_all_set h.state.sizes.mode) (arms command)
    where
      stays : (b c d : Bool) → b ≡ false → c ≡ false → d ≡ true → (not (b || c) && d) ≡ true
      stays false false true none neither so = refl
      stays false false false none neither so = absurd (cc so)
      stays false true d none neither so = absurd (cc neither)
      stays true c d none neither so = absurd (cc none)

      unlogged : (not (has_gfn (slot_of_id own.id f.facts.slots) gfn || has_gfn own.slot gfn) && f.facts.pending gfn) ≡ true
      unlogged = stays (has_gfn (slot_of_id own.id f.facts.slots) gfn) (has_gfn own.slot gfn) (f.facts.pending gfn) out too is

      one : (b c : Bool) → c ≡ true → (if b then true else c) ≡ true
      one true c so = refl
      one false c so = so

      by : (all on : Bool) → (facts_behind (SlotChanged own.id own.slot ∷ ((if all then (if on then Armed own.id true ∷ [] else []) else []) ++ []))
          f.facts).pending gfn ≡ true
      by true true = one (has_gfn (slot_of_id own.id (changed_slots own.id own.slot f.facts.slots)) gfn) _ unlogged
      by true false = unlogged
      by false on = unlogged

  -- Where each page of the slot is dirty as its log begins, so are its frames.
  here : (gfn : ℕ) (slot : SlotOf) → IsLoggedIn pool page own.id slot → contains gfn slot ≡ true → is_all_set h.state.sizes.mode ≡ true
      → arms command ≡ true → behind.facts.pending gfn ≡ true
  here gfn slot M has all on =
      ap (λ (y : Facts). y.pending gfn) facts_are
      ∙ ap (λ b. (facts_behind (SlotChanged own.id own.slot ∷ ((if b then (if arms command then Armed own.id true ∷ [] else []) else []) ++ []))
      f.facts).pending gfn) all
      ∙ ap (λ b. (facts_behind (SlotChanged own.id own.slot ∷ ((if b then Armed own.id true ∷ [] else []) ++ [])) f.facts).pending gfn) on
      ∙ ap (λ b. if b then true else (facts_behind (SlotChanged own.id own.slot ∷ []) f.facts).pending gfn) inside
    where
      there : slot_of_id own.id (changed_slots own.id own.slot f.facts.slots) ≡ Some (with_log true slot)
      there =
          ap (λ (s : MemorySlots). slot_of_id own.id (changed_slots own.id own.slot s)) same
          ∙ ap (λ (c : Option (ℕ × Option MemorySlot)). slot_of_id own.id (after_change c h.slots)) (sym own.is)
          ∙ logged_recorded pool page own.id next slot later M

      inside : has_gfn (slot_of_id own.id (changed_slots own.id own.slot f.facts.slots)) gfn ≡ true
      inside = ap (λ (o : Option MemorySlot). has_gfn o gfn) there ∙ has

  -- ---- the bits

  abbrev IsSaid : ℕ → Type 0
  IsSaid gfn =
      (behind.facts.pending gfn ≡ true)
      ⊎ ((i : ℕ) × (i < actors_of z) × WritesLater ((stepped a line command p v).hand i) gfn)

  no_writer : (i gfn : ℕ) → i < actors_of z → WritesLater (v.hand i) gfn → ⊥
  no_writer i gfn lt W = by (same_or i a)
    where
      by : (i ≡ a) ⊎ (i ≢ a) → ⊥
      by (inl e) =
          of_hand z v a line command p X.step (λ q c. WritesLaterAt q c gfn) (λ sizes slots c none. absurd none)
          (subst (λ j. WritesLater (v.hand j) gfn) e W)
      by (inr ne) = subst (λ q. WritesLaterAt q (v.hand i).state.line.command gfn) (X.idle i lt ne) W

  other_bits : (id gfn : ℕ) (slot : SlotOf) → id ≢ own.id → IsLoggedIn pool page id slot → contains gfn slot ≡ true
      → is_marked log (page_of slot gfn) ≡ true → IsSaid gfn
  other_bits id gfn slot apart M has marked = by (X.exact.bits id gfn slot was has marked)
    where
      was : IsLoggedIn pool set id slot
      was = recorded_logged pool set id h.slots slot before (sym (own.others id apart) ∙ logged_recorded pool page id next slot later M)

      out : has_gfn (slot_of_id own.id f.facts.slots) gfn ≡ false
      out =
          ap (λ (s : MemorySlots). has_gfn (slot_of_id own.id s) gfn) same
          ∙ not_in z pool set h.slots id own.id gfn slot before X.ready.holds.set_part.slots apart was.live has

      too : has_gfn own.slot gfn ≡ false
      too = ap (λ (o : Option MemorySlot). has_gfn o gfn) (sym own.here)
          ∙ not_in z pool page next id own.id gfn slot later kept.set_part.slots apart M.live has

      by : (f.facts.pending gfn ≡ true) ⊎ ((i : ℕ) × (i < actors_of z) × WritesLater (v.hand i) gfn) → IsSaid gfn
      by (inl is) = inl (elsewhere gfn out too is)
      by (inr (i, lt, W)) = absurd (no_writer i gfn lt W)

  own_bits : (gfn : ℕ) (slot : SlotOf) → IsLoggedIn pool page own.id slot → contains gfn slot ≡ true → is_marked log (page_of slot gfn) ≡ true
      → behind.facts.pending gfn ≡ true
  own_bits gfn slot M has marked = by (is_all_set h.state.sizes.mode) (arms command) refl refl
    where
      none : (is_all_set h.state.sizes.mode ≡ false) ⊎ (arms command ≡ false) → ⊥
      none not_both = none_set z v a line command X.ready.small X.step X.ready.holds X.ready.topics X.ready.covered not_both gfn slot M has marked

      by : (all on : Bool) → is_all_set h.state.sizes.mode ≡ all → arms command ≡ on → behind.facts.pending gfn ≡ true
      by true true all on = here gfn slot M has all on
      by false on clean is = absurd (none (inl clean))
      by true false all off = absurd (none (inr off))

  pub bits_published : (id gfn : ℕ) (slot : SlotOf) → IsLoggedIn pool page id slot → contains gfn slot ≡ true → is_marked log (page_of slot gfn) ≡ true
      → IsSaid gfn
  bits_published id gfn slot M has marked = by (same_or id own.id)
    where
      by : (id ≡ own.id) ⊎ (id ≢ own.id) → IsSaid gfn
      by (inl e) = inl (own_bits gfn slot (subst (λ k. IsLoggedIn pool page k slot) e M) has marked)
      by (inr apart) = other_bits id gfn slot apart M has marked
