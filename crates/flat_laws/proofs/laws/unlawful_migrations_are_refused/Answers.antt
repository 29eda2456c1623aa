use Rattle.std.proofs.Common.{◌≡◌, ◌⊎◌, inl, inr, ◌∷◌, ℕ, List, [], true, refl, arith}
use Rattle.std.specs.Prelude.{None, Some}
use Rattle.core_views.specs.declared.actor.Actor.TheVariants.{Manager}
use Rattle.core_views.specs.Flat.{Facts, LineUnderWay, Stage, Fresh, HasSetPause, HasToCopy}
use Rattle.core_views.specs.declared.sizes.LogMode.TheVariants.{Automatic}
use Rattle.core_views.specs.declared.sizes.Sizes.{Sizes}
use Rattle.core_views.specs.Events.{logs_left}
use Rattle.core_views.specs.Lawful.{HasWork, MayReadNext}
use Rattle.core_views.specs.LogCommands.{log_read}
use Rattle.flat_laws.specs.Migrations.{migration_sizes, paged_sizes}
use Rattle.flat_laws.specs.SlotLines.{open_slot}
use Rattle.flat_laws.proofs.LateWrites.{none_left_out, takes_all}
use Rattle.flat_laws.proofs.laws.unlawful_migrations_are_refused.Goals as goal

-- A slot is set, its log begins, and a migration starts, in ten events; then the other line begins.

pub returns-clause-copy : goal.returns-clause-copy
returns-clause-copy c lawful = absurd (cc lawful.1.1.1.1.1.1.1.1.1.1.1.0.left)

pub returns-clause-left : goal.returns-clause-left
returns-clause-left c lawful = absurd (cc lawful.1.1.1.1.1.1.1.1.1.1.1.1.1.0.1.0)

pub returns-clause-memory : goal.returns-clause-memory
returns-clause-memory c lawful = let is = lawful.1.1.1.1.1.1.1.1.1.1.1.1.1.0.value_is in absurd (cc is)

-- Where the pause is set and the guest not stopped yet no log is read.
none_taken : (f : Facts) (u : LineUnderWay) → u.stage ≡ HasSetPause
    → ((u.stage ≡ Fresh) × HasWork migration_sizes f Manager u.line.command × (log_read u.line.command ≡ Some 0))
    ⊎ MayReadNext migration_sizes f Manager u 0 → ⊥
none_taken f u at (inl may) = let is = may.0 in cc (is, at)
none_taken f u at (inr may) = none_left u.stage at may.left
  where
    none_left : (s : Stage) → s ≡ HasSetPause → logs_left f.slots u.line.command s ≡ 0 ∷ may.ids → ⊥
    none_left HasSetPause e left = cc left
    none_left _ e left = cc e

pub returns-clause-stops : goal.returns-clause-stops
returns-clause-stops c lawful = none_taken _ _ refl lawful.1.1.1.1.1.1.1.1.1.1.1.1.0

pub returns-clause-stopped : goal.returns-clause-stopped
returns-clause-stopped c lawful = absurd (cc lawful.1.1.1.1.1.1.1.1.1.1.1.1.1.1.1.1.1.0.3.goes)

pub returns-clause-all : goal.returns-clause-all
returns-clause-all c lawful = takes_all _ _ _ 0 (record { slot = open_slot 0 1 0; logged = true }) refl refl refl lawful.1.1.1.1.1.1.1.1.1.1.1.1.1.1.1.1.1.1.1.0

pub returns-clause-late : goal.returns-clause-late
returns-clause-late c lawful = none_left_out lawful

-- Slots are set, their logs begin, and a migration starts, in 17 events; then the round begins.

-- No log is read but that of the slot that is first in the order.
none_before : (z : Sizes) (f : Facts) (u : LineUnderWay) (id other : ℕ) (ids : List ℕ) → log_read u.line.command ≡ None
    → logs_left f.slots u.line.command u.stage ≡ id ∷ ids → ((u.stage ≡ Fresh) × HasWork z f Manager u.line.command × (log_read u.line.command ≡ Some other))
    ⊎ MayReadNext z f Manager u other → id ≡ other
none_before z f u id other ids none left (inl may) = let is = may.2 in absurd (cc (is, none))
none_before z f u id other ids none left (inr may) = let is = may.left in cc (is, left)

pub returns-clause-first_log : goal.returns-clause-first_log
returns-clause-first_log c lawful =
    let is : 1 ≡ 5 = none_before (paged_sizes Automatic) _ _ 1 5 (5 ∷ []) refl refl lawful.1.1.1.1.1.1.1.1.1.1.1.1.1.1.1.1.1.1.0 in absurd (omega (arith, is))

pub returns-clause-logs : goal.returns-clause-logs
returns-clause-logs c lawful = absurd (cc lawful.1.1.1.1.1.1.1.1.1.1.1.1.1.1.1.1.1.1.1.1.0.left)

-- The next page or word is another one.
next_is : (frame gfn count done word at : ℕ) (rest frames : List ℕ) → HasToCopy (frame ∷ rest) done at ≡ HasToCopy (gfn ∷ frames) count word
    → (frame ≡ gfn) × (at ≡ word)
next_is frame gfn count done word at rest frames is = (cc is, cc is)

pub returns-clause-slots : goal.returns-clause-slots
returns-clause-slots c lawful =
    let C = lawful.1.1.1.1.1.1.1.1.1.1.1.1.1.1.1.1.1.1.1.1.1.1.0 in
    let is = (next_is 32 8 C.count 0 0 0 (33 ∷ 34 ∷ 8 ∷ 9 ∷ []) C.frames C.left).0 in absurd (omega (arith, is))

pub returns-clause-pages : goal.returns-clause-pages
returns-clause-pages c lawful =
    let C = lawful.1.1.1.1.1.1.1.1.1.1.1.1.1.1.1.1.1.1.1.1.1.1.0 in
    let is = (next_is 32 33 C.count 0 0 0 (33 ∷ 34 ∷ 8 ∷ 9 ∷ []) C.frames C.left).0 in absurd (omega (arith, is))

pub returns-clause-words : goal.returns-clause-words
returns-clause-words c lawful =
    let C = lawful.1.1.1.1.1.1.1.1.1.1.1.1.1.1.1.1.1.1.1.1.1.1.0 in
    let is = (next_is 32 32 C.count 0 1 0 (33 ∷ 34 ∷ 8 ∷ 9 ∷ []) C.frames C.left).1 in absurd (omega (arith, is))

-- The line that finishes begins and sets the pause; then the other line begins.

pub returns-clause-paused : goal.returns-clause-paused
returns-clause-paused c lawful = absurd (cc lawful.1.1.1.1.1.1.1.1.1.1.1.1.1.1.1.1.0.2)

pub returns-clause-looks : goal.returns-clause-looks
returns-clause-looks c lawful = absurd (cc lawful.1.1.1.1.1.1.1.1.1.1.1.1.1.1.0.1)
