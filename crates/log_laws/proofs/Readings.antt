-- A reading of a log holds what it must, and no more, from what is kept of the history before it.
use Rattle.std.proofs.Common.{◌≡◌, ◌⊎◌, inl, inr, ◌-◌, ℕ, Bool, true, false, List, [], ◌∷◌, ◌++◌, append_assoc, refl, sym, ◌∙◌, subst}
use Rattle.std.proofs.lemmas.Option.{same_Some}
use Rattle.core_views.specs.declared.actor.Actor.{Actor}
use Rattle.core_views.specs.declared.event.Event.{Event}
use Rattle.core_views.specs.declared.event.EventKind.TheVariants.{Taken}
use Rattle.core_views.specs.declared.sizes.Sizes.{Sizes}
use Rattle.core_views.specs.declared.memory_slot.MemorySlot.{MemorySlot}
use Rattle.core_views.specs.Slots.{contains}
use Rattle.core_views.specs.Harvests.{IsHarvest}
use Rattle.core_views.specs.LogCommands.{asks_for, is_among}
use Rattle.core_views.specs.Past.{Past}
use Rattle.core_views.specs.Flat.{Facts, Flat, LineUnderWay, first_flat}
use Rattle.core_views.specs.FlatHistory.{harvest}
use Rattle.core_views.specs.Events.{after_all}
use Rattle.core_views.specs.Lawful.{IsAllowed, IsLawful}
use Rattle.core_views.specs.Migrations.{is_stopped}
use Rattle.flat_laws.specs.Writes.{DueFramesAreKept, WritesAreRecorded}
use Rattle.flat_laws.proofs.AloneIsLawful.{lawful_parts}
use Rattle.log_laws.specs.HarvestLaws.{IsAskedFor, IsStoppedAfter, NobodyWrites, ReadingsAreCaused, ReadingsAreComplete, made_by}

-- Either kind of reading is a harvest.
is_harvest : (z : Sizes) (f : Facts) (past : Past) (actor : Actor) (u : LineUnderWay) (id : ℕ) (takes : Bool) (frames : List ℕ)
    → IsAllowed z f past actor u (harvest takes id frames) → IsHarvest f past u.line.command id frames
is_harvest z f past actor u id true frames (inl may) = may.harvest
is_harvest z f past actor u id true frames (inr may) = may.harvest
is_harvest z f past actor u id false frames may = may.harvest

last_read : (z : Sizes) (history : List Event) (actor : Actor) (id : ℕ) (takes : Bool) (frames : List ℕ)
    → IsLawful z first_flat (history ++ (made_by actor (harvest takes id frames) ∷ []))
    → IsHarvest (after_all history first_flat).facts (after_all history first_flat).past ((after_all history first_flat).under actor).line.command id frames
last_read z history actor id takes frames lawful =
    let f = after_all history first_flat in
    is_harvest z f.facts f.past actor (f.under actor) id takes frames
    (lawful_parts z history (made_by actor (harvest takes id frames) ∷ []) first_flat lawful).1.0

-- The slot of the harvest is the one that has the frame.
must_hold : (f : Flat) (actor : Actor) (id gfn : ℕ) (frames : List ℕ) → IsHarvest f.facts f.past (f.under actor).line.command id frames
    → IsAskedFor f actor id gfn → f.past.due gfn ≡ true → is_among gfn frames ≡ true
must_hold f actor id gfn frames H A due =
    let same : A.slot ≡ H.slot = same_Some A.slot H.slot (sym A.there ∙ H.there) in
    H.complete gfn (subst (λ (m : MemorySlot). contains gfn m.slot ≡ true) same A.has)
    (subst (λ (m : MemorySlot). asks_for (f.under actor).line.command (gfn - m.slot.base) ≡ true) same A.asked) due

pub complete : DueFramesAreKept → ReadingsAreComplete
complete kept z before between actor id takes frames lawful none gfn dirty nobody asked =
    let taken : Event = made_by actor (Taken id) in
    let history : List Event = before ++ (taken ∷ between) in
    let last : List Event = made_by actor (harvest takes id frames) ∷ [] in
    let whole : IsLawful z first_flat (history ++ last) =
    subst (IsLawful z first_flat) (sym (append_assoc before (taken ∷ between) last)) lawful in
    must_hold (after_all history first_flat) actor id gfn frames (last_read z history actor id takes frames whole) asked
    ((kept history gfn).1
    (record {
      before = before;
      actor = actor;
      id = id;
      since = between;
      history_is = refl;
      dirty = dirty;
      unwritten = λ goes. unwritten goes nobody;
      last = none;
    }))
  where
    unwritten : is_stopped (after_all before first_flat).facts.migration ≡ false → NobodyWrites before gfn ⊎ IsStoppedAfter before → NobodyWrites before gfn
    unwritten goes (inl nobody_) = nobody_
    unwritten goes (inr stopped) = absurd (cc (goes, stopped))

pub caused : WritesAreRecorded → ReadingsAreCaused
caused kept z before actor id takes frames lawful gfn among =
    let H = last_read z before actor id takes frames lawful in (
      (kept before gfn).1.0 (H.caused gfn among),
      record { slot = H.slot; there = H.there; has = (H.asked gfn among).0; asked = (H.asked gfn among).1 },
    )
