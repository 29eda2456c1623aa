-- Which frames are dirty after one is added, one is removed again, and those are left that pass a test.
use Rattle.std.proofs.Common.{◌≡◌, ◌-◌, ◌&&◌, ◌||◌, not, ℕ, List, [], ◌∷◌, Bool, true, false, cond, refl, sym, ap, ◌∙◌}
use Rattle.std.proofs.lemmas.Bool.{eq-eqb, eqb-true}
use Rattle.std.proofs.lemmas.Map.Views.{any-filter_same}
use Rattle.std.specs.BTreeMap.{is_at}
use Rattle.std.specs.BTreeSet.{insert_key}
use Rattle.std.specs.Bool.{OnTrue}
use Rattle.std.specs.Ordering.{match_ordering, nat_cmp}
use Rattle.std.specs.Prelude.{Some, filter}
use Rattle.std.specs.Set.{remove_key}
use Rattle.std.specs.declared.cmp.Ordering.{Ordering}
use Rattle.std.specs.declared.cmp.Ordering.TheVariants.{Less, Equal, Greater}
use Rattle.core_views.specs.declared.memory_slot.MemorySlot.{MemorySlot}
use Rattle.core_views.specs.declared.trace.Command.{Command}
use Rattle.core_views.specs.LogCommands.{asked_frames, asks_for, is_among}
use Rattle.core_views.specs.Past.{FrameSet}
use Rattle.core_views.specs.Slots.{contains}
use Rattle.core_views.proofs.AskedFrames.{asked_has, asked_is}
use Rattle.flat_model.specs.Dirty.{is_dirty}
use Rattle.flat_model.proofs.Frames.{is_at_is}
use Rattle.flat_model.proofs.HostFrames.{same_tests}

-- Those are left that pass.
pub left : (p : ℕ → Bool) (gfn : ℕ) (frames : List ℕ) → is_dirty (filter p frames) gfn ≡ (p gfn && is_dirty frames gfn)
left p gfn frames =
    any-filter_same (is_at (nat_cmp gfn)) p (p gfn) (λ frame same. ap p (eqb-true frame gfn (sym (is_at_is gfn frame) ∙ same))) frames

here : (gfn : ℕ) → is_at (nat_cmp gfn) gfn ≡ true
here gfn = is_at_is gfn gfn ∙ eq-eqb gfn gfn refl

when : (b : Bool) (xs ys : List ℕ) → b ≡ true → cond b xs ys ≡ xs
when true xs ys e = refl
when false xs ys e = absurd (cc e)

unless : (b : Bool) (xs ys : List ℕ) → b ≡ false → cond b xs ys ≡ ys
unless true xs ys e = absurd (cc e)
unless false xs ys e = refl

neither : (b c : Bool) → (b || c) ≡ false → (b ≡ false) × (c ≡ false)
neither true c e = absurd (cc e)
neither false c e = (refl, e)

-- A frame that was clean is added and removed again.
undone : (gfn : ℕ) (frames : List ℕ) → is_dirty frames gfn ≡ false → remove_key (is_at (nat_cmp gfn)) (insert_key nat_cmp frames gfn) ≡ frames
undone gfn [] clean = when (is_at (nat_cmp gfn) gfn) [] (gfn ∷ []) (here gfn)
undone gfn (x ∷ xs) clean = by (nat_cmp gfn x) refl (undone gfn xs (neither _ _ clean).1)
  where
    by : (o : Ordering) → nat_cmp gfn x ≡ o → remove_key (is_at (nat_cmp gfn)) (insert_key nat_cmp xs gfn) ≡ xs
        → remove_key (is_at (nat_cmp gfn)) (match_ordering o (gfn ∷ x ∷ xs) (x ∷ xs) (x ∷ insert_key nat_cmp xs gfn)) ≡ x ∷ xs
    by Less e later = when (is_at (nat_cmp gfn) gfn) (x ∷ xs) _ (here gfn)
    by Equal e later =
        let at : is_at (nat_cmp gfn) x ≡ true = rw e refl in
        let clean_here = (neither (is_at (nat_cmp gfn) x) (is_dirty xs gfn) clean).0 in
        absurd (cc (at, clean_here))
    by Greater e later =
        unless (is_at (nat_cmp gfn) x) (insert_key nat_cmp xs gfn) _ (neither _ _ clean).0 ∙ ap (λ (ys : List ℕ). x ∷ ys) later

pub undone_if : (added : Bool) (gfn : ℕ) (frames after : List ℕ) → added ≡ not (is_dirty frames gfn) → after ≡ insert_key nat_cmp frames gfn
    → OnTrue added (remove_key (is_at (nat_cmp gfn)) after ≡ frames)
undone_if false gfn frames after was now = tt
undone_if true gfn frames after was now =
    ap (remove_key (is_at (nat_cmp gfn))) now ∙ undone gfn frames (clean (is_dirty frames gfn) was)
  where
    clean : (b : Bool) → true ≡ not b → b ≡ false
    clean true e = absurd (cc e)
    clean false e = refl

split : (a b c : Bool) → a ≡ (b && c) → (not a && c) ≡ (not b && c)
split a true true e = rw e refl
split a false true e = rw e refl
split a true false e = rw e refl
split a false false e = rw e refl

both : (b c : Bool) → (b && c) ≡ true → (b ≡ true) × (c ≡ true)
both true c is = (refl, is)
both false c is = absurd (cc is)

joined : (b c : Bool) → b ≡ true → c ≡ true → (b && c) ≡ true
joined true c is e = e
joined false c is e = absurd (cc is)

-- A frame is among those for which a line asks exactly if it is one of the slot for which it asks, and in the set.
pub among : (frames : FrameSet) (command : Command) (slot : MemorySlot) (gfn : ℕ)
    → is_among gfn (asked_frames frames command (Some slot)) ≡ ((contains gfn slot.slot && asks_for command (gfn - slot.slot.base)) && frames gfn)
among frames command slot gfn = same_tests _ _
    (λ is. let a = asked_is frames command slot gfn is in
    joined _ _ (joined _ _ a.inside a.asked) a.held)
    (λ is. let p = both _ _ is in let q = both _ _ p.0 in
    asked_has frames command slot gfn (record { inside = q.0; asked = q.1; held = p.1 }))

-- Those are left for which a line doesn't ask.
pub left_of_asked : (frames : List ℕ) (command : Command) (slot : MemorySlot) (gfn : ℕ)
    → (not (contains gfn slot.slot && asks_for command (gfn - slot.slot.base)) && is_dirty frames gfn)
    ≡ (not (is_among gfn (asked_frames (is_dirty frames) command (Some slot))) && is_dirty frames gfn)
left_of_asked frames command slot gfn =
    sym (split (is_among gfn (asked_frames (is_dirty frames) command (Some slot))) _ (is_dirty frames gfn) (among (is_dirty frames) command slot gfn))
