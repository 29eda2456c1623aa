-- What arming does, whole words, and which frames may be read.
use Rattle.std.proofs.Common.{◌≡◌, ◌⊎◌, inl, inr, ◌+◌, ◌%◌, ◌==◌, ◌&&◌, ◌||◌, ℕ, List, Bool, true, false, not, refl, ap, sym, arith}
use Rattle.std.specs.Prelude.{nat_lt, if◌then◌else◌}
use Rattle.std.proofs.lemmas.Bool.{eq-eqb, eqb-true, ltb-false, ne_eqb, or_from, or_parts}
use Rattle.std.proofs.lemmas.Bool.Decides.{nat_tests}
use Rattle.core_views.specs.declared.event.Event.{Event}
use Rattle.core_views.specs.declared.memory_slot.MemorySlot.{MemorySlot}
use Rattle.core_views.specs.declared.trace.Command.{Command}
use Rattle.core_views.specs.Events.{after_all}
use Rattle.core_views.specs.Flat.{Flat, first_flat}
use Rattle.core_views.specs.FlatHistory.{harvest}
use Rattle.core_views.specs.Harvests.{IsHarvest}
use Rattle.core_views.specs.Lawful.{IsAllowed, MayRead}
use Rattle.core_views.specs.LogCommands.{is_bad_range}
use Rattle.flat_laws.specs.Writes.{DueFramesAreKept, WritesAreRecorded}
use Rattle.log_laws.specs.LogRules.{ArmingArms, AreWholeWords, BadRangesAreTold, MayHold, SuchMayBeRead, SuchMayBeReadNext}

pub arming : ArmingArms
arming id all f = record {
  armed = ap (λ (b : Bool). b || f.armed id) (eq-eqb id id refl);
  others = λ other apart. ap (λ (b : Bool). b || f.armed other) (ne_eqb id other (λ e. apart (sym e)));
  inside = λ gfn is. ap (λ (b : Bool). if b then all else f.pending gfn) is;
  outside = λ gfn is. ap (λ (b : Bool). if b then all else f.pending gfn) is;
}

holds : (b : Bool) → not b ≡ false → b ≡ true
holds true e = refl
holds false e = absurd (cc e)

either_ends : (a b : Bool) → (not a && not b) ≡ false → (a ≡ true) ⊎ (b ≡ true)
either_ends true b e = inl refl
either_ends false true e = inr refl
either_ends false false e = absurd (cc e)

ended : (a b : Bool) → (a ≡ true) ⊎ (b ≡ true) → (not a && not b) ≡ false
ended true b e = refl
ended false true e = refl
ended false false (inl e) = absurd (cc e)
ended false false (inr e) = absurd (cc e)

pub ranges : BadRangesAreTold
ranges pages first count = (told, back)
  where
    told : is_bad_range pages first count ≡ false → AreWholeWords pages first count
    told e =
        let one = or_parts (not (first % 64 == 0)) _ e in
        let two = or_parts (nat_lt pages (first + count)) _ one.1 in
        record {
          begins = eqb-true (first % 64) 0 (holds (first % 64 == 0) one.0);
          inside = ltb-false pages (first + count) two.0;
          ends = either (either_ends (count % 64 == 0) (first + count == pages) two.1);
        }
      where
        either : (count % 64 == 0 ≡ true) ⊎ (first + count == pages ≡ true) → (count % 64 ≡ 0) ⊎ (first + count ≡ pages)
        either (inl a) = inl (eqb-true (count % 64) 0 a)
        either (inr b) = inr (eqb-true (first + count) pages b)

    back : AreWholeWords pages first count → is_bad_range pages first count ≡ false
    back W =
        or_from (not (first % 64 == 0)) _ (ap not (eq-eqb (first % 64) 0 W.begins))
        (or_from (nat_lt pages (first + count)) _ (grind (arith, nat_tests, W.inside)) (ended (count % 64 == 0) (first + count == pages) (either W.ends)))
      where
        either : (count % 64 ≡ 0) ⊎ (first + count ≡ pages) → (count % 64 == 0 ≡ true) ⊎ (first + count == pages ≡ true)
        either (inl a) = inl (eq-eqb (count % 64) 0 a)
        either (inr b) = inr (eq-eqb (first + count) pages b)

harvest_of : DueFramesAreKept → WritesAreRecorded → (h : List Event) (command : Command) (id : ℕ) (slot : MemorySlot) (frames : List ℕ)
    → MayHold h command id slot frames → IsHarvest (after_all h first_flat).facts (after_all h first_flat).past command id frames
harvest_of due written h command id slot frames M = record {
  slot = slot;
  there = M.there;
  rising = M.rising;
  asked = M.asked;
  complete = λ gfn inside asked was. M.complete gfn inside asked ((due h gfn).0 was);
  caused = λ gfn among. ((written h gfn).1).1 (M.caused gfn among);
}

pub such_may : DueFramesAreKept → WritesAreRecorded → SuchMayBeRead
such_may due written z h actor id takes slot frames begun reads is M =
    by takes (record { begun = begun; reads = reads; takes = is; harvest = harvest_of due written h (state.under actor).line.command id slot frames M })
  where
    state : Flat
    state = after_all h first_flat

    by : (out : Bool) → MayRead z state.facts state.past (state.under actor).line.command (state.under actor).stage id frames out
        → IsAllowed z state.facts state.past actor (state.under actor) (harvest out id frames)
    by true may = inl may
    by false may = may

pub such_may_next : DueFramesAreKept → WritesAreRecorded → SuchMayBeReadNext
such_may_next due written z h actor id ids slot frames begun M =
    inr (record {
      ids = ids;
      begun = begun;
      harvest = harvest_of due written h ((after_all h first_flat).under actor).line.command id slot frames M;
    })
