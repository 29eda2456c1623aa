-- A hand that stands where the words of a log that is to begin are set, or some of them: it is the manager's, and no slot set is retired.
use Rattle.core_views.specs.Held.{Held}
use Rattle.core_views.specs.Sizes.{actors_of}
use Rattle.core_views.specs.SlotCommands.{arms, change_at_once, changes_slot}
use Rattle.core_views.specs.declared.actor.Actor.TheVariants.{Manager}
use Rattle.core_views.specs.declared.place.Place.TheVariants as place
use Rattle.core_views.specs.declared.place.Place.{Place}
use Rattle.core_views.specs.declared.place.SlotChangePlace.TheVariants as change
use Rattle.core_views.specs.declared.place.SlotField.TheVariants.{Flags}
use Rattle.core_views.specs.declared.sizes.Sizes.{Sizes}
use Rattle.core_views.specs.declared.trace.Command.{Command}
use Rattle.core_views.specs.declared.trace.Slot.{Slot as SlotOf}
use Rattle.log_invariant.proofs.LogRecords.{ArmedAt, armed_at}
use Rattle.log_invariant.proofs.WordsApart.{words_apart}
use Rattle.log_invariant.specs.Covered.{IsLoggedIn}
use Rattle.log_invariant.specs.LogInvariant.{HasArmedWordsAt}
use Rattle.mmu_core.proofs.invariant.Kept.{manager_retires}
use Rattle.mmu_core.proofs.lines.LinesKept.{one_manager}
use Rattle.mmu_core.proofs.forms.slot_change.SlotChangeKept.{change_hand}
use Rattle.mmu_core.specs.invariant.Invariant.{Holds, Invariant, KnowsPart, RetiresPart}
use Rattle.mmu_core.specs.forms.slot_change.ArmKnows.{IsInLog}
use Rattle.mmu_core.specs.forms.slot_change.SlotTargets.{log_target, slot_or_none}
use Rattle.mmu_core.specs.machine.View.{View}
use Rattle.part_steps.specs.SlotWords.{slot_index}
use Rattle.spte_words.specs.Flags.{flags_logged}
use Rattle.spte_words.specs.declared.area.Area.TheVariants as area
use Rattle.std.proofs.Common.{ap, refl, subst, sym, ℕ, ◌<◌, ◌∙◌, ◌≡◌, ◌≢◌}
use Rattle.std.specs.Prelude.{Bool, None, Some, false, true}

-- Words of the log are set there.
abbrev pub is_arming : Place → Bool
is_arming (place.SlotChange (change.Arm begun)) = begun
is_arming (place.SlotChange change.Exclude) = true
is_arming (place.SlotChange change.Count) = true
is_arming (place.SlotChange change.Close) = true
is_arming (place.SlotChange change.Publish) = true
is_arming _ = false

-- They are set still where each word of the log is as it was.
pub sets_same : (p : Place) (command : Command) (h : Held) (log other : ℕ → ℕ)
    → (is_arming p ≡ true → arms command ≡ true → (word : ℕ) → IsInLog (log_target h command) word → other word ≡ log word)
    → KnowsPart p command h → HasArmedWordsAt p command h log → HasArmedWordsAt p command h other
sets_same (place.SlotChange (change.Arm true)) command h log other same K W = λ word in_log lt. same refl K.1.3.arms word in_log ∙ W word in_log lt
sets_same (place.SlotChange change.Exclude) command h log other same K W = λ is word in_log lt. same refl is word in_log ∙ W is word in_log lt
sets_same (place.SlotChange change.Count) command h log other same K W = λ is word in_log lt. same refl is word in_log ∙ W is word in_log lt
sets_same (place.SlotChange change.Close) command h log other same K W = λ is word in_log lt. same refl is word in_log ∙ W is word in_log lt
sets_same (place.SlotChange change.Publish) command h log other same K W = λ is word in_log lt. same refl is word in_log ∙ W is word in_log lt
sets_same _ command h log other same K W = tt

-- A line that changes no slot sets none.
pub sets_none : (p : Place) (command : Command) (h : Held) (log : ℕ → ℕ) → KnowsPart p command h → changes_slot command ≡ false
    → HasArmedWordsAt p command h log
sets_none (place.SlotChange (change.Arm true)) command h log K none = let some = K.0 in absurd (cc (some, none))
sets_none (place.SlotChange change.Exclude) command h log K none = let some = K.0 in absurd (cc (some, none))
sets_none (place.SlotChange change.Count) command h log K none = let some = K.0 in absurd (cc (some, none))
sets_none (place.SlotChange change.Close) command h log K none = let some = K.0 in absurd (cc (some, none))
sets_none (place.SlotChange change.Publish) command h log K none = let some = K.0 in absurd (cc (some, none))
sets_none _ command h log K none = tt

module _ (z : Sizes) (v : View) (j : ℕ) (there : j < actors_of z) (I : Invariant z v) (is : is_arming (v.hand j).state.place ≡ true) where
  abbrev h : Held
  h = v.hand j

  -- The hand is the manager's.
  pub arming_manager : h.state.actor ≡ Manager
  arming_manager = by h.state.place h.state.line.command refl refl is (I.knows j there)
    where
      by : (p : Place) (c : Command) → h.state.place ≡ p → h.state.line.command ≡ c → is_arming p ≡ true → KnowsPart p c h → h.state.actor ≡ Manager
      by (place.SlotChange p) c at said on K = change_hand z j h p c (I.lines j there) at said K.0
      by _ c at said on K = absurd (cc on)

  -- Its line has something to do.
  arming_works : change_at_once z h.state.line.command h.slots ≡ None
  arming_works = by h.state.place h.state.line.command is (I.loads j there)
    where
      by : (p : Place) (c : Command) → is_arming p ≡ true → Holds z (v.words area.Pool) (v.words area.Slots 0) p c h → change_at_once z c h.slots ≡ None
      by (place.SlotChange (change.Arm begun)) c on loads = loads.works
      by (place.SlotChange change.Exclude) c on loads = loads.works
      by (place.SlotChange change.Count) c on loads = loads.works
      by (place.SlotChange change.Close) c on loads = loads.works
      by (place.SlotChange change.Publish) c on loads = loads.works
      by _ c on loads = absurd (cc on)

  arming_holds_set : h.topics.retired ≡ None
  arming_holds_set = by h.state.place is (I.leaves j there)
    where
      by : (p : Place) → is_arming p ≡ true → RetiresPart p h.topics → h.topics.retired ≡ None
      by (place.SlotChange (change.Arm begun)) on L = L.leaves refl
      by (place.SlotChange change.Exclude) on L = L.leaves refl
      by (place.SlotChange change.Count) on L = L.leaves refl
      by (place.SlotChange change.Close) on L = L.leaves refl
      by (place.SlotChange change.Publish) on L = L.leaves refl
      by _ on L = absurd (cc on)

  -- Nobody has retired a slot set.
  pub none_retired : (i k : ℕ) → i < actors_of z → (v.hand i).topics.retired ≡ Some k → ⊥
  none_retired i k lt leaves =
      let manager = manager_retires z i k (v.hand i) (I.lines i lt) (I.knows i lt) (I.leaves i lt) leaves in
      let same = one_manager z i j (v.hand i) h (I.lines i lt) (I.lines j there) manager arming_manager in
      let none : (v.hand i).topics.retired ≡ None = ap (λ k. (v.hand k).topics.retired) same ∙ arming_holds_set in
      absurd (cc (none, leaves))

  -- Where it begins a log, no word of this log is one of a log in the published set.
  pub arming_apart : arms h.state.line.command ≡ true → (id : ℕ) (slot : SlotOf)
      → IsLoggedIn (v.words area.Pool) (v.words area.Slots 0) id slot → (word : ℕ)
      → IsInLog (log_target h h.state.line.command) word → IsInLog slot word → ⊥
  arming_apart on id slot logged word in_log other =
      words_apart z v j I there arming_manager A.id id A.slot slot differ A.live logged.live word
      (subst (λ s. IsInLog s word) (ap slot_or_none A.is) in_log) other
    where
      A : ArmedAt (v.words area.Pool) (v.words area.Slots 0) h.state.line.command h.slots
      A = armed_at z (v.words area.Pool) (v.words area.Slots 0) h.state.line.command h.slots (I.recorded j there arming_manager) on arming_works

      flags : ℕ → Bool
      flags k = flags_logged (v.words area.Pool (slot_index (v.words area.Slots 0) k Flags))

      differ : A.id ≢ id
      differ e =
          let none : flags id ≡ false = ap flags (sym e) ∙ A.unlogged in
          let has : flags id ≡ true = logged.logged in
          absurd (cc (none, has))
