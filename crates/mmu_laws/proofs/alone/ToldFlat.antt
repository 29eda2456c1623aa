-- What the events of a step leave of what is dirty, and of what a reading must not leave out; and which of them are no readings of a log.
use Rattle.std.proofs.Common.{◌≡◌, ℕ, List, [], ◌∷◌, ◌++◌, refl, ap, ◌∙◌}
use Rattle.std.specs.Prelude.{Option, Some, None}
use Rattle.core_views.specs.declared.actor.Actor.{Actor}
use Rattle.core_views.specs.declared.event.Event.{Event}
use Rattle.core_views.specs.declared.event.EventKind.{EventKind}
use Rattle.core_views.specs.declared.event.EventKind.TheVariants.{Accessed, Armed, Harvested, Shown, SlotChanged}
use Rattle.core_views.specs.declared.place.Place.{Place}
use Rattle.core_views.specs.declared.place.Place.TheVariants as place
use Rattle.core_views.specs.declared.sizes.Sizes.{Sizes}
use Rattle.core_views.specs.declared.trace.Line.{Line}
use Rattle.core_views.specs.Alone.{ReadDirty}
use Rattle.core_views.specs.Events.{after, after_all, facts_after}
use Rattle.core_views.specs.Flat.{Facts, Flat}
use Rattle.core_views.specs.Lawful.{IsLawful}
use Rattle.core_views.specs.Past.{Past, past_begun, written_frame}
use Rattle.mmu_core.specs.declared.outcome.Outcome.{Outcome}
use Rattle.mmu_core.specs.declared.outcome.Outcome.TheVariants.{Goes, Ends}
use Rattle.mmu_core.specs.machine.Outcomes.{answering}
use Rattle.mmu_core.specs.machine.Steps.{beginning}
use Rattle.mmu_laws.proofs.flat.QuietKinds.{AreQuiet, IsQuiet}
use Rattle.mmu_laws.proofs.flat.Told.{facts_behind, told, told_facts}

-- ---- lists of events

pub told_more : (actor : Actor) (kinds more : List EventKind) (f : Flat)
    → after_all (told actor (kinds ++ more)) f ≡ after_all (told actor more) (after_all (told actor kinds) f)
told_more actor [] more f = refl
told_more actor (kind ∷ kinds) more f = told_more actor kinds more (after (record { actor = actor; kind = kind }) f)

pub lawful_more : (z : Sizes) (actor : Actor) (kinds more : List EventKind) (f : Flat) → IsLawful z f (told actor (kinds ++ more))
    → IsLawful z f (told actor kinds) × IsLawful z (after_all (told actor kinds) f) (told actor more)
lawful_more z actor [] more f lawful = (tt, lawful)
lawful_more z actor (kind ∷ kinds) more f lawful =
    let parts = lawful_more z actor kinds more (after (record { actor = actor; kind = kind }) f) lawful.1 in ((lawful.0, parts.0), parts.1)

pub reads_append : (xs ys : List Event) (f : Flat) → ReadDirty f xs → ReadDirty (after_all xs f) ys → ReadDirty f (xs ++ ys)
reads_append [] ys f first then_ = then_
reads_append (x ∷ xs) ys f first then_ = (first.0, reads_append xs ys (after x f) first.1 then_)

pub reads_more : (actor : Actor) (kinds more : List EventKind) (f : Flat) → ReadDirty f (told actor kinds)
    → ReadDirty (after_all (told actor kinds) f) (told actor more) → ReadDirty f (told actor (kinds ++ more))
reads_more actor [] more f first then_ = then_
reads_more actor (kind ∷ kinds) more f first then_ =
    (first.0, reads_more actor kinds more (after (record { actor = actor; kind = kind }) f) first.1 then_)

-- ---- no readings

abbrev pub IsNoReading : EventKind → Type 0
IsNoReading (Harvested id frames) = ⊥
IsNoReading (Shown id frames) = ⊥
IsNoReading _ = Unit {0}

abbrev pub AreNoReadings : List EventKind → Type 0
AreNoReadings [] = Unit {0}
AreNoReadings (kind ∷ kinds) = IsNoReading kind × AreNoReadings kinds

pub none_append : (kinds more : List EventKind) → AreNoReadings kinds → AreNoReadings more → AreNoReadings (kinds ++ more)
none_append [] more are rest = rest
none_append (kind ∷ kinds) more are rest = (are.0, none_append kinds more are.1 rest)

none_dirty : (actor : Actor) (kind : EventKind) (kinds : List EventKind) (f : Flat) → IsNoReading kind
    → ReadDirty (after (record { actor = actor; kind = kind }) f) (told actor kinds) → ReadDirty f (told actor (kind ∷ kinds))
none_dirty actor (Harvested id frames) kinds f none rest = absurd none
none_dirty actor (Shown id frames) kinds f none rest = absurd none
none_dirty actor _ kinds f none rest = (tt, rest)

pub none_read_dirty : (actor : Actor) (kinds : List EventKind) (f : Flat) → AreNoReadings kinds → ReadDirty f (told actor kinds)
none_read_dirty actor [] f are = tt
none_read_dirty actor (kind ∷ kinds) f are =
    none_dirty actor kind kinds f are.0 (none_read_dirty actor kinds (after (record { actor = actor; kind = kind }) f) are.1)

pub begin_none : (p : Place) (line : Line) → AreNoReadings (beginning p line)
begin_none place.Between line = (tt, tt)
begin_none _ line = tt

pub answer_none : (o : Outcome) (line : Line) → AreNoReadings (answering o line)
answer_none (Goes p) line = tt
answer_none (Ends answer) line = (tt, tt)

-- ---- what events leave of what is dirty

-- With a line's begin nothing changes of what is dirty, nor of what a reading must not leave out.
pub begin_pending : (actor : Actor) (p : Place) (line : Line) (f : Flat) → (after_all (told actor (beginning p line)) f).facts.pending ≡ f.facts.pending
begin_pending actor place.Between line f = refl
begin_pending actor _ line f = refl

due_begun : (actor : Actor) (o : Option ℕ) (past : Past) → (past_begun actor o past).due ≡ past.due
due_begun actor None past = refl
due_begun actor (Some gfn) past = refl

pub begin_due : (actor : Actor) (p : Place) (line : Line) (f : Flat) → (after_all (told actor (beginning p line)) f).past.due ≡ f.past.due
begin_due actor place.Between line f = due_begun actor (written_frame line.command) f.past
begin_due actor _ line f = refl

-- Nor does it with each event but an access, a change of a slot, the begin of a log, and a reading that takes pages out.
abbrev pub IsHarmless : EventKind → Type 0
IsHarmless (Accessed gfn word op frame before) = ⊥
IsHarmless (SlotChanged id slot) = ⊥
IsHarmless (Armed id all) = ⊥
IsHarmless (Harvested id frames) = ⊥
IsHarmless _ = Unit {0}

abbrev pub AreHarmless : List EventKind → Type 0
AreHarmless [] = Unit {0}
AreHarmless (kind ∷ kinds) = IsHarmless kind × AreHarmless kinds

pub harmless_append : (kinds more : List EventKind) → AreHarmless kinds → AreHarmless more → AreHarmless (kinds ++ more)
harmless_append [] more are rest = rest
harmless_append (kind ∷ kinds) more are rest = (are.0, harmless_append kinds more are.1 rest)

harmless_one : (kind : EventKind) → IsQuiet kind → IsHarmless kind
harmless_one (Accessed gfn word op frame before) quiet = quiet
harmless_one (SlotChanged id slot) quiet = quiet
harmless_one (Armed id all) quiet = quiet
harmless_one (Harvested id frames) quiet = quiet
harmless_one _ quiet = tt

pub quiet_harmless : (kinds : List EventKind) → AreQuiet kinds → AreHarmless kinds
quiet_harmless [] are = tt
quiet_harmless (kind ∷ kinds) are = (harmless_one kind are.0, quiet_harmless kinds are.1)

harmless_by : (kind : EventKind) (kinds : List EventKind) (facts : Facts) → IsHarmless kind
    → (facts_behind kinds (facts_after kind facts)).pending ≡ (facts_after kind facts).pending
    → (facts_behind (kind ∷ kinds) facts).pending ≡ facts.pending
harmless_by (Accessed gfn word op frame before) kinds facts harmless rest = absurd harmless
harmless_by (SlotChanged id slot) kinds facts harmless rest = absurd harmless
harmless_by (Armed id all) kinds facts harmless rest = absurd harmless
harmless_by (Harvested id frames) kinds facts harmless rest = absurd harmless
harmless_by _ kinds facts harmless rest = rest

pub harmless_pending : (kinds : List EventKind) (facts : Facts) → AreHarmless kinds → (facts_behind kinds facts).pending ≡ facts.pending
harmless_pending [] facts are = refl
harmless_pending (kind ∷ kinds) facts are = harmless_by kind kinds facts are.0 (harmless_pending kinds (facts_after kind facts) are.1)

-- ---- a step's events, but for its begin and its answer

pub facts_more : (kinds more : List EventKind) (facts : Facts) → facts_behind (kinds ++ more) facts ≡ facts_behind more (facts_behind kinds facts)
facts_more [] more facts = refl
facts_more (kind ∷ kinds) more facts = facts_more kinds more (facts_after kind facts)

begin_facts : (p : Place) (line : Line) (facts : Facts) → facts_behind (beginning p line) facts ≡ facts
begin_facts place.Between line facts = refl
begin_facts _ line facts = refl

answer_facts : (o : Outcome) (line : Line) (facts : Facts) → facts_behind (answering o line) facts ≡ facts
answer_facts (Goes p) line facts = refl
answer_facts (Ends answer) line facts = refl

-- They make the facts that the step leaves.
pub step_facts : (actor : Actor) (p : Place) (line : Line) (kinds : List EventKind) (o : Outcome) (f : Flat)
    → (after_all (told actor (beginning p line ++ (kinds ++ answering o line))) f).facts ≡ facts_behind kinds f.facts
step_facts actor p line kinds o f =
    told_facts actor (beginning p line ++ (kinds ++ answering o line)) f
    ∙ facts_more (beginning p line) (kinds ++ answering o line) f.facts
    ∙ ap (facts_behind (kinds ++ answering o line)) (begin_facts p line f.facts)
    ∙ facts_more kinds (answering o line) f.facts ∙ answer_facts o line (facts_behind kinds f.facts)
