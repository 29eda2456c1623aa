-- Which frames are dirty: a dirty frame stays so until an event makes it clean, and is in a slot whose writes are logged.
use Rattle.std.proofs.Common.{◌≡◌, ◌⊎◌, inl, inr, ◌==◌, ◌&&◌, ◌||◌, ℕ, Bool, true, false, not, List, [], ◌∷◌, ◌++◌, refl, ap, ◌∙◌}
use Rattle.std.proofs.lemmas.Bool.{and_from, eq-eqb, or_left, or_right}
use Rattle.std.specs.Prelude.{if◌then◌else◌}
use Rattle.core_views.specs.declared.event.Event.{Event}
use Rattle.core_views.specs.declared.event.EventKind.{EventKind}
use Rattle.core_views.specs.declared.event.EventKind.TheVariants.{Accessed, Armed, Harvested, SlotChanged}
use Rattle.core_views.specs.declared.trace.Op.{Op}
use Rattle.core_views.specs.Slots.{is_write}
use Rattle.core_views.specs.SlotSets.{slot_of_id}
use Rattle.core_views.specs.LogCommands.{is_among}
use Rattle.core_views.specs.Past.{has_gfn}
use Rattle.core_views.specs.Flat.{Facts, Flat}
use Rattle.core_views.specs.Events.{after, after_all, facts_after, is_armed, marked}
use Rattle.log_laws.specs.HarvestLaws.{CleanIsNotDirty, MakesClean}

-- A dirty frame is made clean by the event, or is dirty after it.
pub stays_dirty : (kind : EventKind) (f : Facts) (gfn : ℕ) → f.pending gfn ≡ true → ((facts_after kind f).pending gfn ≡ true) ⊎ MakesClean gfn f kind
stays_dirty (Accessed g word op frame before) f gfn is = inl (or_right ((is_armed f.slots f.armed g && is_write op) && (g == gfn)) (f.pending gfn) is)
stays_dirty (SlotChanged id slot) f gfn is = by (has_gfn (slot_of_id id f.slots) gfn || has_gfn slot gfn) refl
  where
    by : (b : Bool) → (has_gfn (slot_of_id id f.slots) gfn || has_gfn slot gfn) ≡ b
        → ((not b && f.pending gfn) ≡ true) ⊎ ((has_gfn (slot_of_id id f.slots) gfn || has_gfn slot gfn) ≡ true)
    by true e = inr e
    by false e = inl is
stays_dirty (Armed id all) f gfn is = by (has_gfn (slot_of_id id f.slots) gfn) all refl refl
  where
    by : (b on : Bool) → has_gfn (slot_of_id id f.slots) gfn ≡ b → all ≡ on
        → ((if b then on else f.pending gfn) ≡ true) ⊎ ((has_gfn (slot_of_id id f.slots) gfn ≡ true) × (all ≡ false))
    by true true has is_on = inl refl
    by true false has is_on = inr (has, is_on)
    by false on has is_on = inl is
stays_dirty (Harvested id frames) f gfn is = by (is_among gfn frames) refl
  where
    by : (b : Bool) → is_among gfn frames ≡ b → ((not b && f.pending gfn) ≡ true) ⊎ (is_among gfn frames ≡ true)
    by true e = inr e
    by false e = inl is
stays_dirty _ f gfn is = inl is

-- over a list of events, from any state
pub record Cleaned (f : Flat) (since : List Event) (gfn : ℕ) : Type 0 where
  pub before : List Event
  pub event : Event
  pub rest : List Event
  pub since_is : since ≡ before ++ (event ∷ rest)
  pub cleans : MakesClean gfn (after_all before f).facts event.kind

pub dirty_until : (since : List Event) (f : Flat) (gfn : ℕ) → f.facts.pending gfn ≡ true
    → ((after_all since f).facts.pending gfn ≡ true) ⊎ Cleaned f since gfn
dirty_until [] f gfn is = inl is
dirty_until (e ∷ es) f gfn is = by (stays_dirty e.kind f.facts gfn is) (λ dirty. dirty_until es (after e f) gfn dirty)
  where
    later : ((after_all es (after e f)).facts.pending gfn ≡ true) ⊎ Cleaned (after e f) es gfn
        → ((after_all es (after e f)).facts.pending gfn ≡ true) ⊎ Cleaned f (e ∷ es) gfn
    later (inl dirty) = inl dirty
    later (inr C) =
        inr (record {
          before = e ∷ C.before;
          event = C.event;
          rest = C.rest;
          since_is = ap (λ (xs : List Event). e ∷ xs) C.since_is;
          cleans = C.cleans;
        })

    by : ((after e f).facts.pending gfn ≡ true) ⊎ MakesClean gfn f.facts e.kind
        → ((after e f).facts.pending gfn ≡ true → ((after_all es (after e f)).facts.pending gfn ≡ true) ⊎ Cleaned (after e f) es gfn)
        → ((after_all es (after e f)).facts.pending gfn ≡ true) ⊎ Cleaned f (e ∷ es) gfn
    by (inl dirty) rest = later (rest dirty)
    by (inr cleans) rest = inr (record { before = []; event = e; rest = es; since_is = refl; cleans = cleans })

-- A write of a slot whose writes are logged makes its frame dirty.
pub write_marks : (gfn : ℕ) (logged : Bool) (op : Op) (f : Facts) → logged ≡ true → is_write op ≡ true → marked logged gfn op f.pending gfn ≡ true
write_marks gfn logged op f on writes = or_left ((logged && is_write op) && (gfn == gfn)) (f.pending gfn)
    (and_from (logged && is_write op) (gfn == gfn) (and_from logged (is_write op) on writes) (eq-eqb gfn gfn refl))

-- An event that makes a frame clean leaves it clean.
pub makes_clean : CleanIsNotDirty
makes_clean gfn f (Harvested id frames) cleans = ap (λ b. not b && f.pending gfn) cleans
makes_clean gfn f (SlotChanged id slot) cleans = ap (λ b. not b && f.pending gfn) cleans
makes_clean gfn f (Armed id all) cleans = ap (λ b. if b then all else f.pending gfn) cleans.0 ∙ cleans.1
makes_clean gfn f _ cleans = absurd cleans
