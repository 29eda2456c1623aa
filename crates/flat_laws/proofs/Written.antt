-- The frames that were written, one event at a time: where a frame of the past's sets comes from, and which events leave it there.
use Rattle.std.proofs.Common.{◌≡◌, ◌⊎◌, inl, inr, ℕ, List, [], ◌∷◌, Bool, true, false, refl, sym, ap, ◌∙◌, subst, arith}
use Rattle.std.specs.Prelude.{Contains, ◌==◌, ◌&&◌, ◌||◌, Option, Some, None, if◌then◌else◌}
use Rattle.std.proofs.lemmas.Bool.{and_parts, eq-eqb, eqb-true, or_cases, or_from, or_left, or_parts, or_right}
use Rattle.core_views.specs.declared.actor.Actor.{Actor}
use Rattle.core_views.specs.declared.event.EventKind.{EventKind}
use Rattle.core_views.specs.declared.event.EventKind.TheVariants.{Begun, SlotChanged, Armed, Taken, Harvested, Answered}
use Rattle.core_views.specs.declared.memory_slot.MemorySlot.{MemorySlot}
use Rattle.core_views.specs.SlotSets.{slot_of_id}
use Rattle.core_views.specs.LogCommands.{is_among}
use Rattle.core_views.specs.Past.{FrameSet, Past, counted_anew, is_being_written, has_gfn, of_others, past_begun, with_guest_frame, written_frame}
use Rattle.core_views.specs.Flat.{Facts}
use Rattle.core_views.specs.Events.{past_after}
use Rattle.flat_laws.specs.Writes.{IsNoTaking, IsOutside, KeepsSlot, LeavesFrame}
use Rattle.flat_laws.proofs.Writes.{cons_cases, first_in, later_in, of_another}

-- An actor has a write of the frame under way.
pub record WritesNow (writes : List (Actor × ℕ)) (gfn : ℕ) : Type 0 where
  pub actor : Actor
  pub has : Contains writes (actor, gfn)

pub some_writes : (writes : List (Actor × ℕ)) (gfn : ℕ) → is_being_written writes gfn ≡ true → WritesNow writes gfn
some_writes [] gfn is = absurd (cc is)
some_writes (write ∷ writes) gfn is = by (or_cases (write.1 == gfn) (is_being_written writes gfn) is) (λ later. some_writes writes gfn later)
  where
    by : (write.1 == gfn ≡ true) ⊎ (is_being_written writes gfn ≡ true) → (is_being_written writes gfn ≡ true → WritesNow writes gfn)
        → WritesNow (write ∷ writes) gfn
    by (inl here) rest =
        record { actor = write.0; has = subst (λ n. Contains (write ∷ writes) (write.0, n)) (eqb-true write.1 gfn here) (first_in write writes) }
    by (inr later) rest = let W = rest later in record { actor = W.actor; has = later_in write writes (W.actor, gfn) W.has }

pub is_written : (writes : List (Actor × ℕ)) (actor : Actor) (gfn : ℕ) → Contains writes (actor, gfn) → is_being_written writes gfn ≡ true
is_written [] actor gfn has = absurd (omega (arith, has.1))
is_written (write ∷ writes) actor gfn has = by (cons_cases write writes (actor, gfn) has) (λ later. is_written writes actor gfn later)
  where
    by : (write ≡ (actor, gfn)) ⊎ Contains writes (actor, gfn) → (Contains writes (actor, gfn) → is_being_written writes gfn ≡ true)
        → is_being_written (write ∷ writes) gfn ≡ true
    by (inl e) rest = or_left (write.1 == gfn) (is_being_written writes gfn) (eq-eqb write.1 gfn (ap (λ (w : Actor × ℕ). w.1) e))
    by (inr later) rest = or_right (write.1 == gfn) (is_being_written writes gfn) (rest later)

-- ---- a line that begins

abbrev pub begun_frames : Option ℕ → FrameSet → FrameSet
begun_frames None frames = frames
begun_frames (Some gfn) frames = with_guest_frame gfn frames

begun_recent : (a : Actor) (frame : Option ℕ) (past : Past) (gfn : ℕ) → (past_begun a frame past).recent gfn ≡ begun_frames frame past.recent gfn
begun_recent a None past gfn = refl
begun_recent a (Some first) past gfn = refl

begun_causes : (a : Actor) (frame : Option ℕ) (past : Past) (gfn : ℕ) → (past_begun a frame past).causes gfn ≡ begun_frames frame past.causes gfn
begun_causes a None past gfn = refl
begun_causes a (Some first) past gfn = refl

begun_keep : (frame : Option ℕ) (frames : FrameSet) (gfn : ℕ) → frames gfn ≡ true → begun_frames frame frames gfn ≡ true
begun_keep None frames gfn is = is
begun_keep (Some first) frames gfn is = or_right (first == gfn) (frames gfn) is

begun_was : (a : Actor) (frame : Option ℕ) (past : Past) (frames : FrameSet) (gfn : ℕ) → begun_frames frame frames gfn ≡ true
    → WritesNow (past_begun a frame past).writes gfn ⊎ (frames gfn ≡ true)
begun_was a None past frames gfn is = inr is
begun_was a (Some first) past frames gfn is = by (or_cases (first == gfn) (frames gfn) is)
  where
    by : (first == gfn ≡ true) ⊎ (frames gfn ≡ true) → WritesNow (past_begun a (Some first) past).writes gfn ⊎ (frames gfn ≡ true)
    by (inl same) =
        inl (record { actor = a; has = subst (λ n. Contains (past_begun a (Some first) past).writes (a, n)) (eqb-true first gfn same) (first_in (a, first) _) })
    by (inr there) = inr there

begun_written : (a : Actor) (frame : Option ℕ) (past : Past) (frames : FrameSet) (gfn : ℕ) (actor : Actor)
    → (Contains past.writes (actor, gfn) → frames gfn ≡ true) → Contains (past_begun a frame past).writes (actor, gfn)
    → begun_frames frame frames gfn ≡ true
begun_written a None past frames gfn actor all has = all (of_another a actor past.writes gfn has).0
begun_written a (Some first) past frames gfn actor all has = by (cons_cases (a, first) _ (actor, gfn) has)
  where
    by : ◌≡◌ {A = Actor × ℕ} (a, first) (actor, gfn) ⊎ Contains (of_others a past.writes) (actor, gfn) → with_guest_frame first frames gfn ≡ true
    by (inl e) = or_left (first == gfn) (frames gfn) (eq-eqb first gfn (ap (λ (w : Actor × ℕ). w.1) e))
    by (inr later) = or_right (first == gfn) (frames gfn) (all (of_another a actor past.writes gfn later).0)

-- ---- a slot that is changed

out_is : (slot : Option MemorySlot) (gfn : ℕ) → IsOutside gfn slot → has_gfn slot gfn ≡ false
out_is None gfn out = refl
out_is (Some slot) gfn out = out

is_out : (slot : Option MemorySlot) (gfn : ℕ) → has_gfn slot gfn ≡ false → IsOutside gfn slot
is_out None gfn is = tt
is_out (Some slot) gfn is = is

counted_keep : (was slot : Option MemorySlot) (writes : List (Actor × ℕ)) (frames : FrameSet) (gfn : ℕ) → IsOutside gfn was × IsOutside gfn slot
    → frames gfn ≡ true → counted_anew was slot writes frames gfn ≡ true
counted_keep was slot writes frames gfn keeps is =
    let none = or_from (has_gfn was gfn) (has_gfn slot gfn) (out_is was gfn keeps.0) (out_is slot gfn keeps.1) in
    ap (λ b. if b then is_being_written writes gfn else frames gfn) none ∙ is

counted_was : (was slot : Option MemorySlot) (writes : List (Actor × ℕ)) (frames : FrameSet) (gfn : ℕ) → counted_anew was slot writes frames gfn ≡ true
    → WritesNow writes gfn ⊎ ((frames gfn ≡ true) × (IsOutside gfn was × IsOutside gfn slot))
counted_was was slot writes frames gfn is = by (has_gfn was gfn || has_gfn slot gfn) refl is
  where
    by : (b : Bool) → (has_gfn was gfn || has_gfn slot gfn) ≡ b → (if b then is_being_written writes gfn else frames gfn) ≡ true
        → WritesNow writes gfn ⊎ ((frames gfn ≡ true) × (IsOutside gfn was × IsOutside gfn slot))
    by true holds is = inl (some_writes writes gfn is)
    by false apart is =
        let both = or_parts (has_gfn was gfn) (has_gfn slot gfn) apart in inr (is, (is_out was gfn both.0, is_out slot gfn both.1))

counted_written : (was slot : Option MemorySlot) (writes : List (Actor × ℕ)) (frames : FrameSet) (gfn : ℕ) (actor : Actor)
    → (Contains writes (actor, gfn) → frames gfn ≡ true) → Contains writes (actor, gfn) → counted_anew was slot writes frames gfn ≡ true
counted_written was slot writes frames gfn actor all has = by (has_gfn was gfn || has_gfn slot gfn)
  where
    by : (b : Bool) → (if b then is_being_written writes gfn else frames gfn) ≡ true
    by true = is_written writes actor gfn has
    by false = all has

-- ---- any event, and the frames written lately

-- The frame stays, where its slot does and no log begins to be read.
pub recent_keep : (a : Actor) (kind : EventKind) (f : Facts) (past : Past) (gfn : ℕ) → KeepsSlot gfn f kind → IsNoTaking kind → past.recent gfn ≡ true
    → (past_after a kind f past).recent gfn ≡ true
recent_keep a (Begun line) f past gfn keeps none is =
    let frame = written_frame line.command in begun_recent a frame past gfn ∙ begun_keep frame past.recent gfn is
recent_keep a (SlotChanged id slot) f past gfn keeps none is = counted_keep (slot_of_id id f.slots) slot past.writes past.recent gfn keeps is
recent_keep a (Taken id) f past gfn keeps none is = absurd none
recent_keep a _ f past gfn keeps none is = is

-- It was there, or a write of it is under way.
pub recent_was : (a : Actor) (kind : EventKind) (f : Facts) (past : Past) (gfn : ℕ) → (past_after a kind f past).recent gfn ≡ true
    → WritesNow (past_after a kind f past).writes gfn ⊎ ((past.recent gfn ≡ true) × KeepsSlot gfn f kind × IsNoTaking kind)
recent_was a (Begun line) f past gfn is = by (begun_was a frame past past.recent gfn (sym (begun_recent a frame past gfn) ∙ is))
  where
    frame : Option ℕ
    frame = written_frame line.command

    by : WritesNow (past_begun a frame past).writes gfn ⊎ (past.recent gfn ≡ true)
        → WritesNow (past_begun a frame past).writes gfn ⊎ ((past.recent gfn ≡ true) × Unit {0} × Unit {0})
    by (inl now_) = inl now_
    by (inr there) = inr (there, tt, tt)
recent_was a (SlotChanged id slot) f past gfn is = by (counted_was (slot_of_id id f.slots) slot past.writes past.recent gfn is)
  where
    by : WritesNow past.writes gfn ⊎ ((past.recent gfn ≡ true) × KeepsSlot gfn f (SlotChanged id slot))
        → WritesNow past.writes gfn ⊎ ((past.recent gfn ≡ true) × KeepsSlot gfn f (SlotChanged id slot) × Unit {0})
    by (inl now_) = inl now_
    by (inr there) = inr (there.0, there.1, tt)
recent_was a (Taken id) f past gfn is = inl (some_writes past.writes gfn is)
recent_was a _ f past gfn is = inr (is, tt, tt)

-- ---- any event, and the frames with a cause

-- The frame stays, where its slot does and it isn't taken out of a log.
pub causes_keep : (a : Actor) (kind : EventKind) (f : Facts) (past : Past) (gfn : ℕ) → KeepsSlot gfn f kind → LeavesFrame gfn kind → past.causes gfn ≡ true
    → (past_after a kind f past).causes gfn ≡ true
causes_keep a (Begun line) f past gfn keeps left is =
    let frame = written_frame line.command in begun_causes a frame past gfn ∙ begun_keep frame past.causes gfn is
causes_keep a (SlotChanged id slot) f past gfn keeps left is = counted_keep (slot_of_id id f.slots) slot past.writes past.causes gfn keeps is
causes_keep a (Armed id all) f past gfn keeps left is = or_right (all && has_gfn (slot_of_id id f.slots) gfn) (past.causes gfn) is
causes_keep a (Harvested id frames) f past gfn keeps left is = ap (λ b. if b then past.recent gfn else past.causes gfn) left ∙ is
causes_keep a _ f past gfn keeps left is = is

-- One that was also written lately stays even then.
pub causes_stay : (a : Actor) (kind : EventKind) (f : Facts) (past : Past) (gfn : ℕ) → KeepsSlot gfn f kind → past.recent gfn ≡ true → past.causes gfn ≡ true
    → (past_after a kind f past).causes gfn ≡ true
causes_stay a (Harvested id frames) f past gfn keeps lately is = by (is_among gfn frames)
  where
    by : (b : Bool) → (if b then past.recent gfn else past.causes gfn) ≡ true
    by true = lately
    by false = is
causes_stay a kind f past gfn keeps lately is = causes_keep a kind f past gfn keeps tt is

-- The event begins the log of the frame's slot, with each of its pages dirty.
pub record Arms (f : Facts) (kind : EventKind) (gfn : ℕ) : Type 0 where
  pub id : ℕ
  pub kind_is : kind ≡ Armed id true
  pub there : has_gfn (slot_of_id id f.slots) gfn ≡ true

-- where the cause of a frame comes from that has one after the event
pub data CauseOf (a : Actor) (kind : EventKind) (f : Facts) (past : Past) (gfn : ℕ) : Type 0 where
  IsWritten : (now_ : WritesNow (past_after a kind f past).writes gfn) → CauseOf a kind f past gfn
  IsArmed : (arms : Arms f kind gfn) → CauseOf a kind f past gfn
  WasThere : (is : past.causes gfn ≡ true) (keeps : KeepsSlot gfn f kind) (left : LeavesFrame gfn kind) → CauseOf a kind f past gfn
  WasLately : (is : past.recent gfn ≡ true) (keeps : KeepsSlot gfn f kind) (none : IsNoTaking kind) → CauseOf a kind f past gfn

pub cause_of : (a : Actor) (kind : EventKind) (f : Facts) (past : Past) (gfn : ℕ) → (past_after a kind f past).causes gfn ≡ true
    → CauseOf a kind f past gfn
cause_of a (Begun line) f past gfn is = by (begun_was a frame past past.causes gfn (sym (begun_causes a frame past gfn) ∙ is))
  where
    frame : Option ℕ
    frame = written_frame line.command

    by : WritesNow (past_begun a frame past).writes gfn ⊎ (past.causes gfn ≡ true) → CauseOf a (Begun line) f past gfn
    by (inl now_) = IsWritten now_
    by (inr there) = WasThere there tt tt
cause_of a (SlotChanged id slot) f past gfn is = by (counted_was (slot_of_id id f.slots) slot past.writes past.causes gfn is)
  where
    by : WritesNow past.writes gfn ⊎ ((past.causes gfn ≡ true) × KeepsSlot gfn f (SlotChanged id slot)) → CauseOf a (SlotChanged id slot) f past gfn
    by (inl now_) = IsWritten now_
    by (inr there) = WasThere there.0 there.1 tt
cause_of a (Armed id all) f past gfn is = by (or_cases (all && has_gfn (slot_of_id id f.slots) gfn) (past.causes gfn) is)
  where
    by : ((all && has_gfn (slot_of_id id f.slots) gfn) ≡ true) ⊎ (past.causes gfn ≡ true) → CauseOf a (Armed id all) f past gfn
    by (inl both) =
        let parts = and_parts all (has_gfn (slot_of_id id f.slots) gfn) both in
        IsArmed (record { id = id; kind_is = ap (λ (b : Bool). Armed id b) parts.0; there = parts.1 })
    by (inr there) = WasThere there tt tt
cause_of a (Harvested id frames) f past gfn is = by (is_among gfn frames) refl is
  where
    by : (b : Bool) → is_among gfn frames ≡ b → (if b then past.recent gfn else past.causes gfn) ≡ true → CauseOf a (Harvested id frames) f past gfn
    by true holds is = WasLately is tt tt
    by false left is = WasThere is tt left
cause_of a _ f past gfn is = WasThere is tt tt

-- the frame that an arming adds
pub armed_there : (a : Actor) (id : ℕ) (f : Facts) (past : Past) (gfn : ℕ) → has_gfn (slot_of_id id f.slots) gfn ≡ true
    → (past_after a (Armed id true) f past).causes gfn ≡ true
armed_there a id f past gfn there = or_left (true && has_gfn (slot_of_id id f.slots) gfn) (past.causes gfn) there

-- ---- any event, and a frame that is being written

-- The frame, while it is being written, is among both.
abbrev pub IsInBoth : Past → ℕ → Type 0
IsInBoth past gfn = (actor : Actor) → Contains past.writes (actor, gfn) → (past.recent gfn ≡ true) × (past.causes gfn ≡ true)

pub in_both : (a : Actor) (kind : EventKind) (f : Facts) (past : Past) (gfn : ℕ) → IsInBoth past gfn → IsInBoth (past_after a kind f past) gfn
in_both a (Begun line) f past gfn all actor has =
    let frame = written_frame line.command in (
      begun_recent a frame past gfn ∙ begun_written a frame past past.recent gfn actor (λ was. (all actor was).0) has,
      begun_causes a frame past gfn ∙ begun_written a frame past past.causes gfn actor (λ was. (all actor was).1) has,
    )
in_both a (Answered number answer) f past gfn all actor has = all actor (of_another a actor past.writes gfn has).0
in_both a (SlotChanged id slot) f past gfn all actor has = (
  counted_written (slot_of_id id f.slots) slot past.writes past.recent gfn actor (λ was. (all actor was).0) has,
  counted_written (slot_of_id id f.slots) slot past.writes past.causes gfn actor (λ was. (all actor was).1) has,
)
in_both a (Armed id all_dirty) f past gfn all actor has =
    ((all actor has).0, or_right (all_dirty && has_gfn (slot_of_id id f.slots) gfn) (past.causes gfn) (all actor has).1)
in_both a (Taken id) f past gfn all actor has = (is_written past.writes actor gfn has, (all actor has).1)
in_both a (Harvested id frames) f past gfn all actor has =
    ((all actor has).0, causes_stay a (Harvested id frames) f past gfn tt (all actor has).0 (all actor has).1)
in_both a _ f past gfn all actor has = all actor has
