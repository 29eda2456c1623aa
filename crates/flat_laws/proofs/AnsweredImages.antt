-- After each history in which one actor alone manages, a migration's image is what it is to be, and one that is answered is the guest's memory.
use Rattle.std.proofs.Common.{◌≡◌, ◌⊎◌, inl, inr, ◌<◌, ℕ, Bool, true, false, List, [], ◌∷◌, refl, sym, ap, ◌∙◌, subst}
use Rattle.std.specs.Prelude.{◌↔◌, Contains, Some, if◌then◌else◌, is_some}
use Rattle.core_views.specs.declared.actor.Actor.{Actor}
use Rattle.core_views.specs.declared.answer.Answer.TheVariants.{Image}
use Rattle.core_views.specs.declared.event.Event.{Event}
use Rattle.core_views.specs.declared.event.EventKind.TheVariants.{Answered}
use Rattle.core_views.specs.declared.migration.ImageWord.{ImageWord}
use Rattle.core_views.specs.declared.migration.Migration.{Migration}
use Rattle.core_views.specs.declared.migration.Migration.TheVariants.{Unstarted, Running, Pausing, Stopped}
use Rattle.core_views.specs.declared.sizes.Sizes.{Sizes}
use Rattle.core_views.specs.declared.trace.Op.TheVariants.{Read}
use Rattle.core_views.specs.Actors.{is_same}
use Rattle.core_views.specs.Events.{after, after_all, facts_after, past_after, under_after}
use Rattle.core_views.specs.Flat.{Facts, Flat, HasToCopy, LineUnderWay, first_flat}
use Rattle.core_views.specs.Lawful.{IsAllowed, IsLawful, Tells}
use Rattle.core_views.specs.Migrations.{image_words, is_migrating, has_no_slot, is_stopped}
use Rattle.core_views.specs.Past.{Past}
use Rattle.core_views.specs.Slots.{page_behind}
use Rattle.core_views.specs.SlotSets.{MemorySlots, flat_slots, slot_holding}
use Rattle.core_views.proofs.SameActor.{same_is}
use Rattle.flat_laws.specs.Images.{AnsweredImagesAreMemory, AnsweredWordsAreInOrder, AnsweredWordsAreMemory, AreImaged, AreInOrder, HasFrameIn}
use Rattle.flat_laws.specs.Images.{IsOfMemory, LeavesManaging, MigrationsAreImaged, OnlyManages}
use Rattle.flat_laws.specs.MigrationCounts.{NoneIsLeftToCopy, answered}
use Rattle.flat_laws.proofs.AloneIsLawful.{lawful_parts}
use Rattle.flat_laws.proofs.CopiesTold.{CopiesNone, HasCopied, copies_told}
use Rattle.flat_laws.proofs.GuestLines.{IsGuests, stays_guests}
use Rattle.flat_laws.proofs.ImageAnswers.{IsAnswered, image_told, no_image}
use Rattle.flat_laws.proofs.ImageContents.{holds_memory}
use Rattle.flat_laws.proofs.ImageOrder.{image_in_order}
use Rattle.flat_laws.proofs.ImageWords.{same_image}
use Rattle.flat_laws.proofs.ManagedFacts.{IsManaged, other_managed, own_managed}
use Rattle.flat_laws.proofs.ManagerLines.{AreListed, AtStage}
use Rattle.flat_laws.proofs.PendingArmed.{first_armed}
use Rattle.flat_laws.proofs.SlotsCopied.{page_held}
use Rattle.flat_laws.proofs.Writes.{apart_actors}

-- ---- over histories

record AreManaged (z : Sizes) (migrator : Actor) (f : Flat) : Type 0 where
  own : IsManaged z f.facts f.past (f.under migrator)
  others : (other : Actor) → is_same other migrator ≡ false → IsGuests (f.under other)

managed_after : (z : Sizes) (migrator : Actor) (e : Event) (f : Flat) → IsAllowed z f.facts f.past e.actor (f.under e.actor) e.kind
    → LeavesManaging migrator e.actor e.kind → AreManaged z migrator f → AreManaged z migrator (after e f)
managed_after z migrator e f may leaves A = record {
  own = own (is_same e.actor migrator) refl;
  others = λ other apart. each other apart (is_same e.actor other) refl;
}
  where
    each : (other : Actor) → is_same other migrator ≡ false → (b : Bool) → is_same e.actor other ≡ b
        → IsGuests (if b then under_after e.kind f.facts (f.under e.actor) else f.under other)
    each other apart false is = A.others other apart
    each other apart true is =
        let apart_too : is_same e.actor migrator ≡ false = ap (λ (x : Actor). is_same x migrator) (same_is e.actor other is) ∙ apart in
        stays_guests z f.facts f.past migrator e.actor (f.under e.actor) e.kind may leaves (λ mine. apart_actors e.actor migrator apart_too mine)
        (A.others e.actor apart_too)

    own : (b : Bool) → is_same e.actor migrator ≡ b
        → IsManaged z (facts_after e.kind f.facts) (past_after e.actor e.kind f.facts f.past)
        (if b then under_after e.kind f.facts (f.under e.actor) else f.under migrator)
    own true is =
        own_managed z f.facts f.past e.actor (f.under e.actor)
        (subst (λ (x : Actor). IsManaged z f.facts f.past (f.under x)) (sym (same_is e.actor migrator is)) A.own) e.kind may
    own false is = other_managed z f.facts f.past e.actor (f.under e.actor) (f.under migrator) A.own e.kind may (A.others e.actor is)

managed_then : (z : Sizes) (migrator : Actor) (es : List Event) (f : Flat) → AreManaged z migrator f → IsLawful z f es → OnlyManages migrator es
    → AreManaged z migrator (after_all es f)
managed_then z migrator [] f A lawful only = A
managed_then z migrator (e ∷ es) f A lawful only =
    managed_then z migrator es (after e f) (managed_after z migrator e f lawful.0 only.0 A) lawful.1 only.1

managed_first : (z : Sizes) (migrator : Actor) → AreManaged z migrator first_flat
managed_first z migrator = record {
  own = record { slots = first_armed; logs = λ id slot there logged. absurd (cc there); goes = λ goes. absurd (cc goes); at = tt };
  others = λ other apart. inl refl;
}

pub migrations_are_imaged : MigrationsAreImaged
migrations_are_imaged z history migrator lawful only goes =
    ((managed_then z migrator history first_flat (managed_first z migrator) lawful only).own.goes goes).images

-- ---- at the answer

stopped_migrates : (migration : Migration) → is_stopped migration ≡ true → is_migrating migration ≡ true
stopped_migrates Unstarted is = absurd (cc is)
stopped_migrates Running is = absurd (cc is)
stopped_migrates Pausing is = absurd (cc is)
stopped_migrates Stopped is = refl

-- Where nothing is dirty or to be copied, each word is memory's.
all_copied : (z : Sizes) (f : Facts) → AreImaged z f → AreListed f []
    → (page gfn word : ℕ) → page_behind (flat_slots f.slots) gfn Read ≡ Some page → word < z.words → f.image page word ≡ f.memory page word
all_copied z f A L page gfn word behind lt = by (A page gfn word behind lt)
  where
    by : (f.image page word ≡ f.memory page word) ⊎ (HasFrameIn f.slots f.pending page ⊎ HasFrameIn f.slots f.to_copy page)
        → f.image page word ≡ f.memory page word
    by (inl is) = is
    by (inr (inl D)) = let none = (L.left.dirty D.gfn D.among).among in absurd (cc none)
    by (inr (inr C)) = let none = L.listed C.gfn C.among (page_held f.slots C.gfn page C.behind) in absurd (cc none)

image_answered : (z : Sizes) (f : Facts) (past : Past) (actor : Actor) (u : LineUnderWay) (words : List ImageWord) → IsManaged z f past u
    → Tells z f actor u.line.command u.stage (Image words) → words ≡ image_words z.words f.memory f.slots
image_answered z f past actor u words M tells =
    I.image ∙ same_image z.words f.image f.memory f.slots M.slots.rising M.slots.apart
    (all_copied z f (M.goes (stopped_migrates f.migration L.left.stopped)).images L)
  where
    I : IsAnswered z f u.line.command u.stage words
    I = image_told z f actor u.line.command u.stage words tells (λ how left. no_image how (subst (AtStage f past u.line.command) left M.at))

    L : AreListed f []
    L = let at : AtStage f past u.line.command (HasToCopy [] I.count I.word) = subst (AtStage f past u.line.command) I.copied M.at in at.1 I.finishes

pub answered_images_are_memory : AnsweredImagesAreMemory
answered_images_are_memory z history migrator number words lawful only =
    let parts = lawful_parts z history (record { actor = migrator; kind = Answered number (Image words) } ∷ []) first_flat lawful in
    let f : Flat = after_all history first_flat in
    image_answered z f.facts f.past migrator (f.under migrator) words
    (managed_then z migrator history first_flat (managed_first z migrator) parts.0 only).own parts.1.0.1

pub answered_words_are_memory : AnsweredWordsAreMemory
answered_words_are_memory z history migrator number words at lawful only =
    let parts = lawful_parts z history (record { actor = migrator; kind = Answered number (Image words) } ∷ []) first_flat lawful in
    let f : Flat = after_all history first_flat in
    let is = answered_images_are_memory z history migrator number words lawful only in
    let M = (managed_then z migrator history first_flat (managed_first z migrator) parts.0 only).own in
    subst (λ (xs : List ImageWord). Contains xs at ↔ IsOfMemory z.words f.facts.memory f.facts.slots at) (sym is)
    (holds_memory z.words f.facts.memory f.facts.slots at M.slots.rising)

pub answered_words_are_in_order : AnsweredWordsAreInOrder
answered_words_are_in_order z history migrator number words lawful only =
    let parts = lawful_parts z history (record { actor = migrator; kind = Answered number (Image words) } ∷ []) first_flat lawful in
    let f : Flat = after_all history first_flat in
    let is = answered_images_are_memory z history migrator number words lawful only in
    let M = (managed_then z migrator history first_flat (managed_first z migrator) parts.0 only).own in
    subst AreInOrder (sym is) (image_in_order z.words f.facts.memory f.facts.slots M.slots.rising)

-- ---- what is left

nil_holds : {X : Type 0} (slots : MemorySlots) (gfn : ℕ) → has_no_slot slots ≡ true → is_some (slot_holding gfn slots) ≡ true → X
nil_holds [] gfn nil there = absurd (cc there)
nil_holds (e ∷ es) gfn nil there = absurd (cc nil)

pub none_is_left_to_copy : NoneIsLeftToCopy
none_is_left_to_copy z history migrator number answer lawful only copies gfn held there =
    by (copies_told z f.facts migrator u.line.command u.stage answer parts.1.0.1 copies
    (λ how left. subst (AtStage f.facts f.past u.line.command) left M.at))
  where
    f : Flat
    f = after_all history first_flat

    u : LineUnderWay
    u = f.under migrator

    parts : IsLawful z first_flat history × IsLawful z f (answered migrator number answer ∷ [])
    parts = lawful_parts z history (answered migrator number answer ∷ []) first_flat lawful

    M : IsManaged z f.facts f.past u
    M = (managed_then z migrator history first_flat (managed_first z migrator) parts.0 only).own

    by : HasCopied z f.facts u.line.command u.stage answer ⊎ CopiesNone f.facts u.stage answer → ⊥
    by (inl H) =
        let at : AtStage f.facts f.past u.line.command (HasToCopy [] H.count H.word) = subst (AtStage f.facts f.past u.line.command) H.copied M.at in
        let none = at.2 gfn held there in cc none
    by (inr N) = nil_holds f.facts.slots gfn N.nil there
