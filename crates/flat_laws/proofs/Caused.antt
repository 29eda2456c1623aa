-- Each dirty frame has a cause to stand in its log: one event at a time.
use Rattle.std.proofs.Common.{◌≡◌, ◌⊎◌, inl, inr, ℕ, List, [], ◌∷◌, Bool, true, false, refl, ap, ◌∙◌, subst, ◌&&◌, ◌||◌, not}
use Rattle.std.specs.Prelude.{◌==◌, Option, Some, None, if◌then◌else◌}
use Rattle.std.proofs.lemmas.Bool.{and_parts, eqb-true, or_cases, or_right}
use Rattle.core_views.specs.declared.actor.Actor.{Actor}
use Rattle.core_views.specs.declared.event.Event.{Event}
use Rattle.core_views.specs.declared.event.EventKind.{EventKind}
use Rattle.core_views.specs.declared.event.EventKind.TheVariants.{Begun, Accessed, SlotChanged, Armed, Harvested}
use Rattle.core_views.specs.declared.sizes.Sizes.{Sizes}
use Rattle.core_views.specs.declared.trace.Op.{Op}
use Rattle.core_views.specs.Events.{after, after_all, facts_after, marked, past_after}
use Rattle.core_views.specs.Flat.{Facts, Flat, first_flat}
use Rattle.core_views.specs.Lawful.{IsAllowed, IsLawful}
use Rattle.core_views.specs.LogCommands.{is_among}
use Rattle.core_views.specs.Past.{FrameSet, Past, has_gfn, past_begun, written_frame}
use Rattle.core_views.specs.Slots.{is_write}
use Rattle.core_views.specs.SlotSets.{slot_of_id}
use Rattle.flat_laws.proofs.Writes.{AreOfLines, are_after, none_at_first}
use Rattle.flat_laws.proofs.Written.{IsInBoth, in_both}

-- each frame that is being written is among those, and each dirty one has a cause
pub record AreCaused (facts : Facts) (past : Past) : Type 0 where
  pub written : (gfn : ℕ) → IsInBoth past gfn
  pub pending : (gfn : ℕ) → facts.pending gfn ≡ true → past.causes gfn ≡ true

-- an access makes its frame dirty, if it writes, and only if a line that writes it is under way
abbrev pub HasCause : EventKind → Past → Type 0
HasCause (Accessed gfn word op frame before) past = is_write op ≡ true → past.causes gfn ≡ true
HasCause _ past = Unit {0}

begun_more : (a : Actor) (frame : Option ℕ) (past : Past) (gfn : ℕ) → past.causes gfn ≡ true → (past_begun a frame past).causes gfn ≡ true
begun_more a None past gfn is = is
begun_more a (Some first) past gfn is = or_right (first == gfn) (past.causes gfn) is

caused_marked : (logged : Bool) (gfn : ℕ) (op : Op) (past : Past) (pending : FrameSet) (other : ℕ) → (is_write op ≡ true → past.causes gfn ≡ true)
    → (pending other ≡ true → past.causes other ≡ true) → marked logged gfn op pending other ≡ true → past.causes other ≡ true
caused_marked logged gfn op past pending other has old is = by (or_cases ((logged && is_write op) && (gfn == other)) (pending other) is)
  where
    by : (((logged && is_write op) && (gfn == other)) ≡ true) ⊎ (pending other ≡ true) → past.causes other ≡ true
    by (inl here) =
        let parts = and_parts (logged && is_write op) (gfn == other) here in
        subst (λ n. past.causes n ≡ true) (eqb-true gfn other parts.1) (has (and_parts logged (is_write op) parts.0).1)
    by (inr there) = old there

caused_changed : (b pending writing cause : Bool) → (pending ≡ true → cause ≡ true) → (not b && pending) ≡ true → (if b then writing else cause) ≡ true
caused_changed true pending writing cause old is = absurd (cc is)
caused_changed false pending writing cause old is = old is

caused_armed : (all inside pending cause : Bool) → (pending ≡ true → cause ≡ true) → (if inside then all else pending) ≡ true
    → ((all && inside) || cause) ≡ true
caused_armed true true pending cause old is = refl
caused_armed false true pending cause old is = absurd (cc is)
caused_armed all false pending cause old is = or_right (all && false) cause (old is)

-- the dirty frames after an event
pending_after : (a : Actor) (kind : EventKind) (f : Facts) (past : Past) → HasCause kind past → AreCaused f past
    → (gfn : ℕ) → (facts_after kind f).pending gfn ≡ true → (past_after a kind f past).causes gfn ≡ true
pending_after a (Begun line) f past has are gfn is = begun_more a (written_frame line.command) past gfn (are.pending gfn is)
pending_after a (Accessed gfn word op frame before) f past has are other is = caused_marked _ gfn op past f.pending other has (are.pending other) is
pending_after a (SlotChanged id slot) f past has are gfn is = caused_changed _ (f.pending gfn) _ _ (are.pending gfn) is
pending_after a (Armed id all) f past has are gfn is =
    caused_armed all (has_gfn (slot_of_id id f.slots) gfn) (f.pending gfn) (past.causes gfn) (are.pending gfn) is
pending_after a (Harvested id frames) f past has are gfn is = caused_changed (is_among gfn frames) (f.pending gfn) _ _ (are.pending gfn) is
pending_after a _ f past has are gfn is = are.pending gfn is

pub caused_after : (a : Actor) (kind : EventKind) (f : Facts) (past : Past) → HasCause kind past → AreCaused f past
    → AreCaused (facts_after kind f) (past_after a kind f past)
caused_after a kind f past has are =
    record { written = λ gfn. in_both a kind f past gfn (are.written gfn); pending = λ gfn is. pending_after a kind f past has are gfn is }

-- A lawful access is of its line, which is under way.
pub has_cause : (z : Sizes) (a : Actor) (kind : EventKind) (f : Flat) → IsAllowed z f.facts f.past a (f.under a) kind → AreOfLines f → AreCaused f.facts f.past
    → HasCause kind f.past
has_cause z a (Accessed gfn word op frame before) f may lines are =
    λ writes. (are.written gfn a (lines.is_in a gfn (
      (λ idle. let fresh = may.0 in absurd (cc (fresh, idle))),
      ap written_frame may.1 ∙ ap (λ b. if b then Some gfn else None) writes,
    ))).1
has_cause z a _ f may lines are = tt

pub all_caused : (z : Sizes) (es : List Event) (f : Flat) → IsLawful z f es → AreOfLines f → AreCaused f.facts f.past
    → AreCaused (after_all es f).facts (after_all es f).past
all_caused z [] f lawful lines are = are
all_caused z (e ∷ es) f lawful lines are =
    all_caused z es (after e f) lawful.1 (are_after z e f lawful.0 lines)
    (caused_after e.actor e.kind f.facts f.past (has_cause z e.actor e.kind f lawful.0 lines are) are)

pub first_caused : AreCaused first_flat.facts first_flat.past
first_caused = record { written = λ gfn actor has. none_at_first actor gfn has; pending = λ gfn is. absurd (cc is) }
