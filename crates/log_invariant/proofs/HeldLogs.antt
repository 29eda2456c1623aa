-- Slot sets that are held: what has a dirty log in the published set has it in the one that is held, or a line stands before the end of the watch with which
-- this log begins; and what has one in the held set is live in the published one.
use Rattle.std.proofs.Common.{◌≡◌, ◌⊎◌, ◌<◌, ℕ, inl, inr, sym, subst, ap, ◌∙◌, ◌-◌, refl}
use Rattle.std.specs.Prelude.{Some, true, None}
use Rattle.core_views.specs.Held.{Held}
use Rattle.core_views.specs.declared.place.Place.{Place}
use Rattle.core_views.specs.declared.place.Place.TheVariants as place
use Rattle.core_views.specs.declared.place.SlotChangePlace.{SlotChangePlace}
use Rattle.core_views.specs.declared.place.SlotChangePlace.TheVariants as change
use Rattle.core_views.specs.declared.place.AccessPlace.TheVariants as access
use Rattle.core_views.specs.declared.place.FaultPlace.TheVariants as fault
use Rattle.core_views.specs.declared.place.SlotField.TheVariants.{Flags}
use Rattle.core_views.specs.declared.topics.SlotSearch.{SlotSearch}
use Rattle.core_views.specs.declared.trace.Command.{Command}
use Rattle.core_views.specs.declared.trace.Command.TheVariants.{Access}
use Rattle.core_views.specs.SlotCommands.{slot_armed}
use Rattle.core_views.specs.declared.sizes.Sizes.{Sizes}
use Rattle.core_views.specs.declared.trace.Slot.{Slot as SlotOf}
use Rattle.core_views.specs.Sizes.{actors_of, index_of}
use Rattle.core_views.specs.Slots.{contains}
use Rattle.spte_words.specs.declared.area.Area.TheVariants as area
use Rattle.part_steps.specs.PartHoldings.{FoundSlot}
use Rattle.part_steps.specs.SetHoldings.{MayGiveOld}
use Rattle.mmu_core.specs.invariant.Invariant.{Invariant, KnowsPart, RetiresPart}
use Rattle.mmu_core.specs.invariant.SlotSetPart.{IsLiveIn}
use Rattle.mmu_core.specs.invariant.TopicsInvariant.{TopicsInvariant}
use Rattle.mmu_core.specs.machine.View.{View}
use Rattle.log_invariant.specs.Covered.{IsLoggedIn}
use Rattle.log_invariant.specs.forms.slot_change.LogBegins.{LogIsUnwatched, LogIsUnwatchedAt, is_unwatched}
use Rattle.log_invariant.specs.LogInvariant.{LogInvariant, KeepsLogs, IsMarkingAt}
use Rattle.mmu_core.specs.invariant.HeldPart.{HasRetired, HoldsOld}
use Rattle.mmu_core.specs.invariant.SearchPart.{SearchPart}
use Rattle.mmu_core.specs.forms.slot_change.SlotChangeKnows.{SlotChangeKnows}
use Rattle.spte_words.specs.Flags.{flags_logged}
use Rattle.part_steps.specs.SlotWords.{slot_at, slot_index}
use Rattle.mmu_core.proofs.held.InSection.{all_passed}
use Rattle.mmu_core.proofs.held.OldSets.{held_are_slots}
use Rattle.mmu_core.proofs.slots.SlotsStay.{is_live_was, word_stays, SetStays}

-- The slot has a dirty log in the published set.
abbrev pub IsLoggedNow : View → ℕ → SlotOf → Type 0
IsLoggedNow v id slot = IsLoggedIn (v.words area.Pool) (v.words area.Slots 0) id slot

-- A slot with a log has it still where the words of its set stay, and had it.
pub set_logged_was : (set : ℕ) (before after : ℕ → ℕ) (id : ℕ) (slot : SlotOf) → SetStays set before after → IsLoggedIn after set id slot
    → IsLoggedIn before set id slot
set_logged_was set before after id slot stays L = record {
  live = is_live_was set before after stays id slot L.live;
  logged = sym (ap flags_logged (word_stays set before after stays id Flags L.live.low)) ∙ L.logged;
}

-- The line of some hand begins the log of a slot with the guest frame, and others may not know of it yet.
abbrev pub SomeLogIsUnwatched : Sizes → View → ℕ → Type 0
SomeLogIsUnwatched z v gfn = (j : ℕ) × (j < actors_of z) × LogIsUnwatched (v.hand j) gfn

-- A slot set is as said of the published one.
pub record HeldLogs (z : Sizes) (v : View) (set : ℕ) : Type 0 where
  pub had : (id gfn : ℕ) (slot : SlotOf) → IsLoggedNow v id slot → contains gfn slot ≡ true
      → IsLoggedIn (v.words area.Pool) set id slot ⊎ SomeLogIsUnwatched z v gfn
  pub stays : (id : ℕ) (slot : SlotOf) → IsLoggedIn (v.words area.Pool) set id slot → IsLiveIn (v.words area.Pool) (v.words area.Slots 0) id slot

-- Who has retired a page and hasn't watched all others since stands before the end of its watch.
module _ (h : Held) (set gfn : ℕ) (slot : SlotOf) (leaves : h.topics.retired ≡ Some set) (unwatched : MayGiveOld h → ⊥) where
  not_both : h.topics.retired ≡ None → ⊥
  not_both none = cc (none, leaves)

  opening : (p : SlotChangePlace) (command : Command) → SlotChangeKnows p command h → RetiresPart (place.SlotChange p) h.topics → is_unwatched p ≡ true
  opening change.Release command K L = refl
  opening (change.End p) command K L = refl
  opening change.Watch command K L = refl
  opening (change.WriteProtect range p) command K L = absurd (unwatched K.0)
  opening change.Clear command K L = absurd (unwatched K.1)
  opening change.Give command K L = absurd (unwatched K.1)
  opening _ command K L = absurd (not_both (L.leaves refl))

  opens_log : (p : Place) (command : Command) → KnowsPart p command h → RetiresPart p h.topics → slot_armed h.slots command ≡ Some slot
      → contains gfn slot ≡ true → LogIsUnwatchedAt p command h gfn
  opens_log (place.SlotChange p) command K L begins holds = (opening p command K.1 L, slot, begins, holds)
  opens_log _ command K L begins holds = absurd (not_both (L.leaves refl))

-- So is each that an actor holds.
pub held_logs : (z : Sizes) (v : View) (i set : ℕ) → i < actors_of z → Invariant z v → TopicsInvariant z v → LogInvariant z v
    → (v.hand i).topics.search.set ≡ Some set → HeldLogs z v set
held_logs z v i set lt I P G held = by (P.sets i set lt held)
  where
    by : (set ≡ v.words area.Slots 0) ⊎ HoldsOld HasRetired (actors_of z) (λ j. (v.hand j).topics) i set → HeldLogs z v set
    by (inl e) = record {
      had = λ id gfn slot logged holds. inl (subst (λ s. IsLoggedIn (v.words area.Pool) s id slot) (sym e) logged);
      stays = λ id slot logged. subst (λ s. IsLiveIn (v.words area.Pool) s id slot) e logged.live;
    }
    by (inr H) = record { had = λ id gfn slot logged holds. known id gfn slot holds (K.had id slot logged); stays = K.stays }
      where
        h : Held
        h = v.hand H.by

        K : KeepsLogs (v.words area.Pool) set (v.words area.Slots 0) (slot_armed h.slots h.state.line.command)
        K = G.old_logs H.by set H.there H.leaves

        unwatched : MayGiveOld h → ⊥
        unwatched may =
            let O = I.lines H.by H.there in
            all_passed z h H.by i O.sizes (ap (λ y. index_of y h.state.actor) O.sizes ∙ O.index) may.watched lt (λ e. H.other (sym e)) H.unwatched

        known : (id gfn : ℕ) (slot : SlotOf) → contains gfn slot ≡ true
            → IsLoggedIn (v.words area.Pool) set id slot ⊎ (slot_armed h.slots h.state.line.command ≡ Some slot)
            → IsLoggedIn (v.words area.Pool) set id slot ⊎ SomeLogIsUnwatched z v gfn
        known id gfn slot holds (inl had) = inl had
        known id gfn slot holds (inr begins) =
            inr (
              H.by,
              H.there,
              opens_log h set gfn slot H.leaves unwatched h.state.place h.state.line.command (I.knows H.by H.there) (I.leaves H.by H.there)
                  begins holds,
            )

-- Who has found a slot with a guest frame that is in a published slot with a log has found this slot, and that it is logged; or the log is opening.
pub found_is_logged : (z : Sizes) (v : View) (i gfn id : ℕ) (slot : SlotOf) → i < actors_of z → Invariant z v → TopicsInvariant z v → LogInvariant z v
    → FoundSlot gfn (v.hand i).topics → IsLoggedNow v id slot → contains gfn slot ≡ true
    → (((v.hand i).topics.search.slot ≡ slot) × ((v.hand i).topics.search.logged ≡ true)) ⊎ SomeLogIsUnwatched z v gfn
found_is_logged z v i gfn id slot lt I P G found logged holds = by ((held_logs z v i set lt I P G held).had id gfn slot logged holds)
  where
    pool : ℕ → ℕ
    pool = v.words area.Pool

    s : SlotSearch
    s = (v.hand i).topics.search

    S : SearchPart pool s
    S = P.searches i lt

    set : ℕ
    set = (S.held found.whole).0

    held : s.set ≡ Some set
    held = (S.held found.whole).1

    L : IsLiveIn pool set (s.id - 1) s.slot
    L = (S.whole set held found.whole).1

    by : IsLoggedIn pool set id slot ⊎ SomeLogIsUnwatched z v gfn → ((s.slot ≡ slot) × (s.logged ≡ true)) ⊎ SomeLogIsUnwatched z v gfn
    by (inr begins) = inr begins
    by (inl had) =
        let same : s.id - 1 ≡ id =
        (held_are_slots z v i set lt P I.set_part.slots held).guest_apart gfn (s.id - 1) id L.low had.live.low L.live had.live.live
        (ap (contains gfn) L.is ∙ found.holds) (ap (contains gfn) had.live.is ∙ holds) in
        inl (
          sym L.is ∙ ap (slot_at pool set) same ∙ had.live.is,
          S.flags set held found.whole ∙ ap (λ k. flags_logged (pool (slot_index set k Flags))) same ∙ had.logged,
        )

-- Who owes a mark has found a slot with the guest frame, which is live in the published set.
pub record FoundLive (v : View) (i gfn : ℕ) : Type 0 where
  pub id : ℕ
  pub live : IsLiveIn (v.words area.Pool) (v.words area.Slots 0) id (v.hand i).topics.search.slot
  pub found : FoundSlot gfn (v.hand i).topics

-- It has found that the slot has a log.
marks_logged : (p : Place) (command : Command) (h : Held) (gfn : ℕ) → KnowsPart p command h → IsMarkingAt p command gfn
    → FoundSlot gfn h.topics × (h.topics.search.logged ≡ true)
marks_logged (place.Access (access.Fault (fault.Mark fast))) (Access at word op) h gfn K M = (subst (λ k. FoundSlot k h.topics) M.0 K.found, K.logged)
marks_logged _ command h gfn K M = absurd M

pub marked_is_live : (z : Sizes) (v : View) (i gfn : ℕ) → i < actors_of z → Invariant z v → TopicsInvariant z v → LogInvariant z v
    → (v.hand i).topics.owed ≡ Some gfn → FoundLive v i gfn
marked_is_live z v i gfn lt I P G owed = record {
  id = s.id - 1;
  live = (held_logs z v i set lt I P G held).stays (s.id - 1) s.slot (record { live = (S.whole set held marks.0.whole).1; logged = logged });
  found = marks.0;
}
  where
    s : SlotSearch
    s = (v.hand i).topics.search

    S : SearchPart (v.words area.Pool) s
    S = P.searches i lt

    marks : FoundSlot gfn (v.hand i).topics × (s.logged ≡ true)
    marks = marks_logged (v.hand i).state.place (v.hand i).state.line.command (v.hand i) gfn (I.knows i lt) (G.marks i gfn lt owed)

    set : ℕ
    set = (S.held marks.0.whole).0

    held : s.set ≡ Some set
    held = (S.held marks.0.whole).1

    logged : flags_logged (v.words area.Pool (slot_index set (s.id - 1) Flags)) ≡ true
    logged = sym (S.flags set held marks.0.whole) ∙ marks.1
