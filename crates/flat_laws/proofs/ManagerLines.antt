-- What is so of the manager's line, by its stage: what it has copied of a page, and what a line that finishes has yet to read and to copy.
use Rattle.std.proofs.Common.{◌≡◌, ◌⊎◌, inl, inr, ◌<◌, ◌+◌, ◌==◌, ◌&&◌, ◌||◌, ℕ, Bool, true, false, not, List, [], ◌∷◌, refl, sym, ap, ◌∙◌, subst, arith}
use Rattle.std.specs.Prelude.{Option, Some, None, is_some, if◌then◌else◌}
use Rattle.std.proofs.lemmas.Bool.{and_parts, eq-eqb, eqb-true}
use Rattle.std.proofs.lemmas.Bool.Decides.{nat_tests}
use Rattle.std.proofs.lemmas.Option.{same_Some}
use Rattle.core_views.specs.declared.actor.Actor.{Actor}
use Rattle.core_views.specs.declared.event.EventKind.TheVariants.{Harvested, Taken, WordCopied}
use Rattle.core_views.specs.declared.sizes.Sizes.{Sizes}
use Rattle.core_views.specs.declared.memory_slot.MemorySlot.{MemorySlot}
use Rattle.core_views.specs.declared.trace.Command.{Command}
use Rattle.core_views.specs.declared.trace.Command.TheVariants.{Migrate}
use Rattle.core_views.specs.declared.trace.MigrationCall.TheVariants.{Finish}
use Rattle.core_views.specs.Events.{facts_after, logs_left, past_after, stage_copied, stage_read, stage_taken, to_read_or_copy, under_after}
use Rattle.core_views.specs.Flat.{Facts, Fresh, HasChanged, HasLeft, HasSetPause, HasTaken, HasTakenNext, HasToCopy, HasToRead, LineUnderWay, Stage}
use Rattle.core_views.specs.Harvests.{IsHarvest}
use Rattle.core_views.specs.Lawful.{CopiesNext, IsAllowed}
use Rattle.core_views.specs.LogCommands.{is_among, log_read}
use Rattle.core_views.specs.Migrations.{frames_to_copy, is_migrating, is_stopped}
use Rattle.core_views.specs.Past.{Past, is_being_written}
use Rattle.core_views.specs.Slots.{contains}
use Rattle.core_views.specs.SlotSets.{MemorySlots, slot_holding, slot_of_id}
use Rattle.flat_laws.specs.Images.{HasFrameIn}
use Rattle.flat_laws.specs.MigrationCounts.{tells_copies}
use Rattle.flat_laws.proofs.Images.{IsCopied}
use Rattle.flat_laws.proofs.SlotsCopied.{slots_are_copied}

-- A slot with one of these IDs has the frame.
pub record IsLeft (slots : MemorySlots) (ids : List ℕ) (gfn : ℕ) : Type 0 where
  pub id : ℕ
  pub slot : MemorySlot
  pub there : slot_of_id id slots ≡ Some slot
  pub has : contains gfn slot.slot ≡ true
  pub among : is_among id ids ≡ true

-- The guest is stopped, and what is dirty is of these slots.
pub record AreLeft (f : Facts) (ids : List ℕ) : Type 0 where
  pub stopped : is_stopped f.migration ≡ true
  pub dirty : (gfn : ℕ) → f.pending gfn ≡ true → IsLeft f.slots ids gfn

-- So it is, and the reading that has begun must not leave it out.
pub record AreDue (f : Facts) (past : Past) (ids : List ℕ) : Type 0 where
  pub left : AreLeft f ids
  pub due : (gfn : ℕ) → f.pending gfn ≡ true → past.due gfn ≡ true

-- What is to be copied of slots is among these frames.
abbrev pub AreNamed : Facts → List ℕ → Type 0
AreNamed f frames = (gfn : ℕ) → f.to_copy gfn ≡ true → is_some (slot_holding gfn f.slots) ≡ true → is_among gfn frames ≡ true

-- So it is, and nothing is dirty.
pub record AreListed (f : Facts) (frames : List ℕ) : Type 0 where
  pub left : AreLeft f []
  pub listed : AreNamed f frames

abbrev pub Finishes : Command → Type 0
Finishes command = command ≡ Migrate Finish

abbrev pub AtStage : Facts → Past → Command → Stage → Type 0
AtStage f past command (HasLeft how) = tells_copies how ≡ false
AtStage f past command HasChanged = is_migrating f.migration ≡ false
AtStage f past command HasSetPause = is_migrating f.migration ≡ true
AtStage f past command (HasToRead ids) = Finishes command → AreLeft f ids
AtStage f past command (HasTakenNext id ids) = Finishes command → AreDue f past (id ∷ ids)
AtStage f past command (HasToCopy frames count word) =
    (is_migrating f.migration ≡ true → IsCopied f (HasToCopy frames count word)) × (Finishes command → AreListed f frames) × AreNamed f frames
AtStage f past command _ = Unit {0}

-- With these logs left it reads the next one, or copies.
pub reads_or_copies : (f : Facts) (past : Past) (command : Command) (ids : List ℕ) → (Finishes command → AreLeft f ids)
    → AtStage f past command (to_read_or_copy ids f)
reads_or_copies f past command [] left = (
  λ goes. none_yet (frames_to_copy f.to_copy f.slots),
  λ is. record { left = left is; listed = slots_are_copied f.to_copy f.slots },
  slots_are_copied f.to_copy f.slots,
)
  where
    none_yet : (frames : List ℕ) → IsCopied f (HasToCopy frames 0 0)
    none_yet [] = tt
    none_yet (gfn ∷ frames) = λ page at behind lt. absurd (omega (arith, lt))
reads_or_copies f past command (id ∷ ids) left = left

-- ---- its readings

-- As it begins to read a log, what is dirty is due.
reads_next : (f : Facts) (past : Past) (actor : Actor) (command : Command) (stage : Stage) (id : ℕ) (ids : List ℕ)
    → logs_left f.slots command stage ≡ id ∷ ids → AtStage f past command stage → Finishes command
    → AreDue f (past_after actor (Taken id) f past) (id ∷ ids)
reads_next f past actor command (HasToRead xs) id ids left A is = record {
  left = L;
  due = λ gfn dirty.
      ap (λ (b : Bool). b && (is_stopped f.migration || not (is_being_written past.writes gfn))) dirty
      ∙ ap (λ (b : Bool). b || not (is_being_written past.writes gfn)) L.stopped;
}
  where
    L : AreLeft f (id ∷ ids)
    L = subst (AreLeft f) left (A is)
reads_next f past actor command Fresh id ids left A is =
    let none : [] ≡ id ∷ ids = ap (λ (c : Command). logs_left f.slots c Fresh) (sym is) ∙ left in absurd (cc none)
reads_next f past actor command _ id ids left A is = absurd (cc left)

pub taken_at : (z : Sizes) (f : Facts) (past : Past) (actor : Actor) (u : LineUnderWay) (id : ℕ) → IsAllowed z f past actor u (Taken id)
    → AtStage f past u.line.command u.stage
    → AtStage f (past_after actor (Taken id) f past) u.line.command (under_after (Taken id) f u).stage
taken_at z f past actor u id (inl may) A =
    subst (λ (o : Option ℕ). AtStage f (past_after actor (Taken id) f past) u.line.command (stage_taken o (logs_left f.slots u.line.command u.stage) id))
    (sym may.2) tt
taken_at z f past actor u id (inr may) A =
    subst (AtStage f (past_after actor (Taken id) f past) u.line.command) (sym then_)
    (reads_next f past actor u.line.command u.stage id may.ids may.left A)
  where
    then_ : stage_taken (log_read u.line.command) (logs_left f.slots u.line.command u.stage) id ≡ HasTakenNext id may.ids
    then_ = ap (λ (c : Command). stage_taken (log_read c) (logs_left f.slots u.line.command u.stage) id) may.asked
        ∙ ap (λ (ids : List ℕ). stage_taken None ids id) may.left

-- What was dirty of the log is read, so what is dirty still is of the slots that are left.
read_left : (f : Facts) (past : Past) (command : Command) (id : ℕ) (ids frames : List ℕ) → IsHarvest f past command id frames → Finishes command
    → AreDue f past (id ∷ ids) → AreLeft (facts_after (Harvested id frames) f) ids
read_left f past command id ids frames harvest is D = record { stopped = D.left.stopped; dirty = left }
  where
    H : IsHarvest f past (Migrate Finish) id frames
    H = subst (λ (c : Command). IsHarvest f past c id frames) is harvest

    left : (gfn : ℕ) → (not (is_among gfn frames) && f.pending gfn) ≡ true → IsLeft f.slots ids gfn
    left gfn dirty = by (id == L.id) refl L.among
      where
        parts : (not (is_among gfn frames) ≡ true) × (f.pending gfn ≡ true)
        parts = and_parts (not (is_among gfn frames)) (f.pending gfn) dirty

        L : IsLeft f.slots (id ∷ ids) gfn
        L = D.left.dirty gfn parts.1

        by : (b : Bool) → (id == L.id) ≡ b → (b || is_among L.id ids) ≡ true → IsLeft f.slots ids gfn
        by false apart among = record { id = L.id; slot = L.slot; there = L.there; has = L.has; among = among }
        by true same among =
            let slot_is : L.slot ≡ H.slot =
            same_Some L.slot H.slot (sym L.there ∙ ap (λ (n : ℕ). slot_of_id n f.slots) (sym (eqb-true id L.id same)) ∙ H.there) in
            let read : is_among gfn frames ≡ true =
            H.complete gfn (ap (λ (m : MemorySlot). contains gfn m.slot) (sym slot_is) ∙ L.has) refl (D.due gfn parts.1) in
            let not_ = parts.0 in absurd (cc (read, not_))

pub harvested_at : (z : Sizes) (f : Facts) (past : Past) (actor : Actor) (u : LineUnderWay) (id : ℕ) (frames : List ℕ)
    → IsAllowed z f past actor u (Harvested id frames) → AtStage f past u.line.command u.stage
    → AtStage (facts_after (Harvested id frames) f) (past_after actor (Harvested id frames) f past) u.line.command
    (under_after (Harvested id frames) f u).stage
harvested_at z f past actor u id frames (inl may) A =
    let then_ : stage_read u.stage frames (facts_after (Harvested id frames) f) ≡ stage_read (HasTaken id) frames (facts_after (Harvested id frames) f) =
    ap (λ (s : Stage). stage_read s frames (facts_after (Harvested id frames) f)) may.begun in
    subst (AtStage (facts_after (Harvested id frames) f) (past_after actor (Harvested id frames) f past) u.line.command) (sym then_) tt
harvested_at z f past actor u id frames (inr may) A =
    let then_ : stage_read u.stage frames (facts_after (Harvested id frames) f) ≡ to_read_or_copy may.ids (facts_after (Harvested id frames) f) =
    ap (λ (s : Stage). stage_read s frames (facts_after (Harvested id frames) f)) may.begun in
    subst (AtStage (facts_after (Harvested id frames) f) (past_after actor (Harvested id frames) f past) u.line.command) (sym then_)
    (reads_or_copies (facts_after (Harvested id frames) f) (past_after actor (Harvested id frames) f past) u.line.command may.ids
    (λ is. read_left f past u.line.command id may.ids frames may.harvest is (subst (AtStage f past u.line.command) may.begun A is)))

-- ---- its copies

copied_word : (z : Sizes) (f : Facts) (u : LineUnderWay) (gfn page word value : ℕ) (whole : Bool) (may : CopiesNext z f u.stage gfn page word value whole)
    → IsCopied f (HasToCopy (gfn ∷ may.frames) may.count word)
    → IsCopied (facts_after (WordCopied gfn page word value whole) f) (HasToCopy (gfn ∷ may.frames) may.count (word + 1))
copied_word z f u gfn page word value whole may C p w behind lt = by_word (word == w) refl lt
  where
    page_is : page ≡ p
    page_is = same_Some page p (sym may.behind ∙ behind)

    earlier : (word == w) ≡ false → w < word + 1 → w < word
    earlier apart lt = grind (arith, nat_tests, apart, lt)

    Is : ℕ → Type 0
    Is x = (x ≡ f.memory p w) ⊎ HasFrameIn f.slots f.pending p

    by_word : (b : Bool) → (word == w) ≡ b → w < word + 1 → Is ((facts_after (WordCopied gfn page word value whole) f).image p w)
    by_word true at_it lt =
        inl (ap (λ (b : Bool). if b && (word == w) then value else f.image p w) (eq-eqb page p page_is)
        ∙ ap (λ (b : Bool). if b then value else f.image p w) at_it
        ∙ sym may.value_is ∙ ap (λ (q : ℕ). f.memory q word) page_is ∙ ap (f.memory p) (eqb-true word w at_it))
    by_word false apart lt =
        subst Is (sym (ap (λ (b : Bool). if b && (word == w) then value else f.image p w) (eq-eqb page p page_is)
        ∙ ap (λ (b : Bool). if b then value else f.image p w) apart)) (C p w behind (earlier apart lt))

still_named : (f : Facts) (gfn page word value : ℕ) (frames : List ℕ) → AreNamed f (gfn ∷ frames)
    → AreNamed (facts_after (WordCopied gfn page word value true) f) frames
still_named f gfn page word value frames named other held there = by (gfn == other) refl
  where
    by : (b : Bool) → (gfn == other) ≡ b → is_among other frames ≡ true
    by true same =
        let none : not (gfn == other) ≡ false = ap not same in
        let parts = and_parts (not (gfn == other)) (f.to_copy other) held in let not_ = parts.0 in absurd (cc (none, not_))
    by false apart =
        let parts = and_parts (not (gfn == other)) (f.to_copy other) held in
        ap (λ (b : Bool). b || is_among other frames) (sym apart) ∙ named other parts.1 there

pub copied_at : (z : Sizes) (f : Facts) (past : Past) (actor : Actor) (u : LineUnderWay) (gfn page word value : ℕ) (whole : Bool)
    → CopiesNext z f u.stage gfn page word value whole → AtStage f past u.line.command u.stage
    → AtStage (facts_after (WordCopied gfn page word value whole) f) past u.line.command (under_after (WordCopied gfn page word value whole) f u).stage
copied_at z f past actor u gfn page word value whole may A =
    subst (λ (s : Stage). AtStage (facts_after (WordCopied gfn page word value whole) f) past u.line.command (stage_copied whole s)) (sym may.left)
    (by whole (copied_word z f u gfn page word value whole may))
  where
    at : AtStage f past u.line.command (HasToCopy (gfn ∷ may.frames) may.count word)
    at = subst (AtStage f past u.line.command) may.left A

    none_yet : (g : Facts) (frames : List ℕ) → IsCopied g (HasToCopy frames (may.count + 1) 0)
    none_yet g [] = tt
    none_yet g (other ∷ frames) = λ p w behind lt. absurd (omega (arith, lt))

    by : (b : Bool)
        → (IsCopied f (HasToCopy (gfn ∷ may.frames) may.count word)
        → IsCopied (facts_after (WordCopied gfn page word value b) f) (HasToCopy (gfn ∷ may.frames) may.count (word + 1)))
        → AtStage (facts_after (WordCopied gfn page word value b) f) past u.line.command (stage_copied b (HasToCopy (gfn ∷ may.frames) may.count word))
    by true more = (
      λ goes. none_yet (facts_after (WordCopied gfn page word value true) f) may.frames,
      λ is.
          let L = at.1 is in record {
            left = record { stopped = L.left.stopped; dirty = L.left.dirty };
            listed = still_named f gfn page word value may.frames L.listed;
          },
      still_named f gfn page word value may.frames at.2,
    )
    by false more = (
      λ goes. more (at.0 goes),
      λ is. let L = at.1 is in record { left = record { stopped = L.left.stopped; dirty = L.left.dirty }; listed = L.listed },
      at.2,
    )
