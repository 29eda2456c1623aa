-- A frame that is written while the writes of its slot are logged stays dirty, where one actor alone manages, until a reading takes it out or its slot's log
-- ends.
use Rattle.std.proofs.Common.{◌≡◌, ◌⊎◌, inl, inr, ℕ, Bool, true, false, List, [], ◌∷◌, ◌++◌, refl, sym, ap, ◌∙◌, subst}
use Rattle.std.specs.Option.{option_map}
use Rattle.std.specs.Prelude.{None, Option, Some}
use Rattle.std.proofs.lemmas.Option.{same_Some}
use Rattle.core_views.specs.declared.actor.Actor.{Actor}
use Rattle.core_views.specs.declared.event.Event.{Event}
use Rattle.core_views.specs.declared.event.EventKind.{EventKind}
use Rattle.core_views.specs.declared.event.EventKind.TheVariants.{Accessed, Armed, Harvested, SlotChanged}
use Rattle.core_views.specs.declared.memory_slot.MemorySlot.{MemorySlot}
use Rattle.core_views.specs.declared.sizes.Sizes.{Sizes}
use Rattle.core_views.specs.declared.trace.Command.TheVariants.{SetLog}
use Rattle.core_views.specs.Events.{after, after_all}
use Rattle.core_views.specs.Flat.{Flat, first_flat}
use Rattle.core_views.specs.Lawful.{IsAllowed, IsLawful}
use Rattle.core_views.specs.Past.{has_gfn}
use Rattle.core_views.specs.SlotCommands.{slot_change}
use Rattle.core_views.specs.Slots.{contains}
use Rattle.core_views.specs.SlotSets.{slot_of_id}
use Rattle.flat_laws.specs.Images.{OnlyManages}
use Rattle.flat_laws.proofs.AloneIsLawful.{lawful_parts}
use Rattle.flat_laws.proofs.PendingArmed.{IsInArmed, found_armed}
use Rattle.flat_laws.proofs.WrittenSince.{after_append}
use Rattle.log_laws.specs.HarvestLaws.{MakesClean, made_by}
use Rattle.log_laws.specs.LoggedWrites.{IsLogEnded, IsTakenOut, LoggedSlotsStand, LoggedWritesAreKept, LogsBeginOnce}
use Rattle.log_laws.proofs.LoggedSlots.{KeepsLogs, begins_once, ends_log, own_slot, keeps_after, keeps_first, keeps_then}
use Rattle.log_laws.proofs.Pending.{stays_dirty, write_marks}

-- The logging of the frame's slot ends over these events, from any state.
record EndsOver (f : Flat) (since : List Event) (gfn : ℕ) : Type 0 where
  before : List Event
  actor : Actor
  id : ℕ
  slot : MemorySlot
  rest : List Event
  since_is : since ≡ before ++ (made_by actor (SlotChanged id (Some (record slot { logged = false }))) ∷ rest)
  off : ((after_all before f).under actor).line.command ≡ SetLog id false
  there : slot_of_id id (after_all before f).facts.slots ≡ Some slot
  has : contains gfn slot.slot ≡ true

-- An event that makes the frame clean is a reading, or such an end.
module _ (z : Sizes) (migrator : Actor) (f : Flat) (K : KeepsLogs migrator f) (gfn : ℕ) (dirty : f.facts.pending gfn ≡ true) where
  I : IsInArmed f.facts gfn
  I = K.own.slots.armed gfn dirty

  log_ends : (actor : Actor) (id : ℕ) (slot : Option MemorySlot) (rest : List Event) → IsAllowed z f.facts f.past actor (f.under actor) (SlotChanged id slot)
      → MakesClean gfn f.facts (SlotChanged id slot) → EndsOver f (made_by actor (SlotChanged id slot) ∷ rest) gfn
  log_ends actor id slot rest may cleans = record {
    before = [];
    actor = actor;
    id = id;
    slot = I.slot;
    rest = rest;
    since_is = ap (λ (o : Option MemorySlot). made_by actor (SlotChanged id o) ∷ rest) (sym slot_is);
    off = off;
    there = there;
    has = I.has;
  }
    where
      off : (f.under actor).line.command ≡ SetLog id false
      off = ends_log z migrator actor f K id slot gfn may I cleans

      same : I.id ≡ id
      same = own_slot z migrator actor f K id slot gfn may I cleans

      there : slot_of_id id f.facts.slots ≡ Some I.slot
      there = subst (λ j. slot_of_id j f.facts.slots ≡ Some I.slot) same I.there

      change : ◌≡◌ {A = Option (ℕ × Option MemorySlot)}
          (Some (id, option_map (λ was. record { slot = was.slot; logged = false }) (slot_of_id id f.facts.slots))) (Some (id, slot))
      change = ap (slot_change f.facts.slots) (sym off) ∙ may.2

      slot_is : Some (record I.slot { logged = false }) ≡ slot
      slot_is =
          sym (ap (option_map (λ was. record { slot = was.slot; logged = false })) there)
          ∙ ap (λ (p : ℕ × Option MemorySlot). p.1) (same_Some _ _ change)

  no_begin : (actor : Actor) (id : ℕ) (all : Bool) → IsAllowed z f.facts f.past actor (f.under actor) (Armed id all)
      → has_gfn (slot_of_id id f.facts.slots) gfn ≡ true → ⊥
  no_begin actor id all may has = by (slot_of_id id f.facts.slots) refl has
    where
      by : (o : Option MemorySlot) → slot_of_id id f.facts.slots ≡ o → has_gfn o gfn ≡ true → ⊥
      by None there has_it = cc has_it
      by (Some m) there has_it =
          let same : I.id ≡ id = K.own.slots.apart gfn I.id id I.slot m I.there there I.has has_it in
          let on : f.facts.armed id ≡ true = subst (λ j. f.facts.armed j ≡ true) same I.armed in
          let off : f.facts.armed id ≡ false = begins_once z migrator actor f K id all may in cc (on, off)

  made_clean : (actor : Actor) (kind : EventKind) (rest : List Event) → IsAllowed z f.facts f.past actor (f.under actor) kind
      → MakesClean gfn f.facts kind → IsTakenOut (made_by actor kind ∷ rest) gfn ⊎ EndsOver f (made_by actor kind ∷ rest) gfn
  made_clean actor (Harvested id frames) rest may cleans =
      inl (record { before = []; actor = actor; id = id; frames = frames; rest = rest; since_is = refl; has = cleans })
  made_clean actor (SlotChanged id slot) rest may cleans = inr (log_ends actor id slot rest may cleans)
  made_clean actor (Armed id all) rest may cleans = absurd (no_begin actor id all may cleans.0)
  made_clean actor _ rest may cleans = absurd cleans

kept_until : (z : Sizes) (migrator : Actor) (since : List Event) (f : Flat) (gfn : ℕ) → KeepsLogs migrator f → IsLawful z f since → OnlyManages migrator since
    → f.facts.pending gfn ≡ true → ((after_all since f).facts.pending gfn ≡ true) ⊎ (IsTakenOut since gfn ⊎ EndsOver f since gfn)
kept_until z migrator [] f gfn K lawful only dirty = inl dirty
kept_until z migrator (e ∷ es) f gfn K lawful only dirty =
    by (stays_dirty e.kind f.facts gfn dirty)
    (λ still. kept_until z migrator es (after e f) gfn (keeps_after z migrator e f lawful.0 only.0 K) lawful.1 only.1 still)
  where
    later : ((after_all es (after e f)).facts.pending gfn ≡ true) ⊎ (IsTakenOut es gfn ⊎ EndsOver (after e f) es gfn)
        → ((after_all es (after e f)).facts.pending gfn ≡ true) ⊎ (IsTakenOut (e ∷ es) gfn ⊎ EndsOver f (e ∷ es) gfn)
    later (inl still) = inl still
    later (inr (inl T)) =
        inr (inl (record {
          before = e ∷ T.before;
          actor = T.actor;
          id = T.id;
          frames = T.frames;
          rest = T.rest;
          since_is = ap (λ (xs : List Event). e ∷ xs) T.since_is;
          has = T.has;
        }))
    later (inr (inr E)) =
        inr (inr (record {
          before = e ∷ E.before;
          actor = E.actor;
          id = E.id;
          slot = E.slot;
          rest = E.rest;
          since_is = ap (λ (xs : List Event). e ∷ xs) E.since_is;
          off = E.off;
          there = E.there;
          has = E.has;
        }))

    by : ((after e f).facts.pending gfn ≡ true) ⊎ MakesClean gfn f.facts e.kind
        → ((after e f).facts.pending gfn ≡ true
        → ((after_all es (after e f)).facts.pending gfn ≡ true) ⊎ (IsTakenOut es gfn ⊎ EndsOver (after e f) es gfn))
        → ((after_all es (after e f)).facts.pending gfn ≡ true) ⊎ (IsTakenOut (e ∷ es) gfn ⊎ EndsOver f (e ∷ es) gfn)
    by (inl still) rest = later (rest still)
    by (inr cleans) rest = inr (made_clean z migrator f K gfn dirty e.actor e.kind es lawful.0 cleans)

-- ---- of whole histories

managing_parts : (migrator : Actor) (xs ys : List Event) → OnlyManages migrator (xs ++ ys) → OnlyManages migrator xs × OnlyManages migrator ys
managing_parts migrator [] ys only = (tt, only)
managing_parts migrator (x ∷ xs) ys only = let rest = managing_parts migrator xs ys only.1 in ((only.0, rest.0), rest.1)

-- the state after a history, with what it keeps, and the event after it
keeps_at : (z : Sizes) (before : List Event) (migrator : Actor) (rest : List Event) → IsLawful z first_flat (before ++ rest) → OnlyManages migrator before
    → KeepsLogs migrator (after_all before first_flat) × IsLawful z (after_all before first_flat) rest
keeps_at z before migrator rest lawful only =
    let parts = lawful_parts z before rest first_flat lawful in (keeps_then z migrator before first_flat (keeps_first migrator) parts.0 only, parts.1)

pub logged_writes_are_kept : LoggedWritesAreKept
logged_writes_are_kept z before since migrator actor gfn word op frame value lawful only writes armed =
    by (kept_until z migrator since (after access f) gfn (keeps_after z migrator access f at.1.0 who.1.0 at.0) at.1.1 who.1.1
    (write_marks gfn _ op f.facts armed writes))
  where
    access : Event
    access = made_by actor (Accessed gfn word op frame value)

    f : Flat
    f = after_all before first_flat

    who : OnlyManages migrator before × OnlyManages migrator (access ∷ since)
    who = managing_parts migrator before (access ∷ since) only

    at : KeepsLogs migrator f × IsLawful z f (access ∷ since)
    at = keeps_at z before migrator (access ∷ since) lawful who.0

    here : (until : List Event) → ◌≡◌ {A = Flat} (after_all ((before ++ (access ∷ [])) ++ until) first_flat) (after_all until (after access f))
    here until =
        after_append (before ++ (access ∷ [])) until first_flat ∙ ap (after_all until) (after_append before (access ∷ []) first_flat)

    by : ((after_all since (after access f)).facts.pending gfn ≡ true) ⊎ (IsTakenOut since gfn ⊎ EndsOver (after access f) since gfn)
        → ((after_all (before ++ (access ∷ since)) first_flat).facts.pending gfn ≡ true)
        ⊎ (IsTakenOut since gfn ⊎ IsLogEnded (before ++ (access ∷ [])) since gfn)
    by (inl still) = inl (ap (λ (g : Flat). g.facts.pending gfn) (after_append before (access ∷ since) first_flat) ∙ still)
    by (inr (inl T)) = inr (inl T)
    by (inr (inr E)) =
        inr (inr (record {
          before = E.before;
          actor = E.actor;
          id = E.id;
          slot = E.slot;
          rest = E.rest;
          since_is = E.since_is;
          off = ap (λ (g : Flat). (g.under E.actor).line.command) (here E.before) ∙ E.off;
          there = ap (λ (g : Flat). slot_of_id E.id g.facts.slots) (here E.before) ∙ E.there;
          has = E.has;
        }))

pub logged_slots_stand : LoggedSlotsStand
logged_slots_stand z before migrator actor id slot gfn lawful only armed has =
    let at = keeps_at z before migrator (made_by actor (SlotChanged id slot) ∷ []) lawful only in
    let f : Flat = after_all before first_flat in
    ends_log z migrator actor f at.0 id slot gfn at.1.0 (found_armed f.facts gfn at.0.own.slots.rising armed) has

pub logs_begin_once : LogsBeginOnce
logs_begin_once z before migrator actor id all lawful only =
    let at = keeps_at z before migrator (made_by actor (Armed id all) ∷ []) lawful only in
    begins_once z migrator actor (after_all before first_flat) at.0 id all at.1.0
