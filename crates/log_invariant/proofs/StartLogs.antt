-- At a start what holds of dirty logs holds: no slot is live, nobody owes a mark, all hands are between lines, and no entry is a leaf.
use Rattle.core_views.specs.Held.{Held}
use Rattle.core_views.specs.Sizes.{actor_at, actors_of}
use Rattle.core_views.specs.declared.actor.Actor.TheVariants.{Manager}
use Rattle.core_views.specs.declared.place.Place.TheVariants as place
use Rattle.core_views.specs.declared.sizes.Sizes.{Sizes}
use Rattle.core_views.specs.declared.trace.Line.{Line}
use Rattle.core_views.specs.declared.trace.Slot.{Slot as SlotOf}
use Rattle.log_invariant.proofs.WithinKept.{manager_there}
use Rattle.log_invariant.specs.Covered.{IsLoggedIn}
use Rattle.log_invariant.specs.Excuses.{ExcusesCached}
use Rattle.log_invariant.specs.forms.slot_change.LogBegins.{LogIsUnwatchedAt}
use Rattle.log_invariant.specs.LogInvariant.{AreGuarded, FastWritesAt, IsGuardedIn, LogInvariant, HasArmedWordsAt, UseIsGuarded}
use Rattle.mmu_core.proofs.pages.AllOver.{absent_is}
use Rattle.mmu_core.proofs.start.StartWords.{pool_word}
use Rattle.mmu_core.proofs.start.Starts.{hand_is, none_live}
use Rattle.mmu_core.specs.machine.Enabled.{mmu}
use Rattle.mmu_core.specs.machine.Machine.{World, hand_in}
use Rattle.mmu_core.specs.machine.View.{view, word_in}
use Rattle.mmu_core.specs.machine.Worlds.{IsStart}
use Rattle.spte_words.proofs.ReadsEntries.{kind_of_absent}
use Rattle.spte_words.specs.Areas.{pool_index}
use Rattle.spte_words.specs.Entries.{kind_of}
use Rattle.spte_words.specs.declared.area.Area.TheVariants as area
use Rattle.spte_words.specs.declared.spte_kind.SpteKind.TheVariants.{Absent, Leaf}
use Rattle.std.proofs.Common.{List, ap, arith, subst, sym, ℕ, ◌+◌, ◌<◌, ◌∙◌, ◌≡◌}
use Rattle.std.proofs.lemmas.Bool.Decides.{nat_tests}
use Rattle.std.proofs.lemmas.List.Elements.{All-nil}
use Rattle.std.specs.Prelude.{None, Some}

manager_at : (z : Sizes) → actor_at z (z.vcpus + z.hosts) ≡ Manager
manager_at z = grind (arith, nat_tests)

module _ (z : Sizes) (lines : List Line) (w : World Held) (start : IsStart z lines w) where
  abbrev h : ℕ → Held
  h = hand_in mmu w

  abbrev pool : ℕ → ℕ
  pool = word_in z w area.Pool

  -- No slot has a log.
  none_logged : (set id : ℕ) (slot : SlotOf) → IsLoggedIn pool set id slot → ⊥
  none_logged set id slot logged = let none = none_live z w set id start.words in let live = logged.live.live in cc (none, live)

  -- No entry is a leaf.
  no_leaf : (level i : ℕ) → kind_of level (pool i) ≡ Leaf → ⊥
  no_leaf level i leaf =
      let absent : kind_of level (pool i) ≡ Absent = ap (kind_of level) (pool_word z w i start.words ∙ absent_is) ∙ kind_of_absent level in
      cc (absent, leaf)

  -- A hand owes nothing, has retired nothing, has cached nothing, and is between lines.
  place_at_start : (i : ℕ) → i < actors_of z → (h i).state.place ≡ place.Between
  place_at_start i lt = ap (λ (x : Held). x.state.place) (hand_is z lines w i start lt)

  owes_none : (i gfn : ℕ) → i < actors_of z → (h i).topics.owed ≡ Some gfn → ⊥
  owes_none i gfn lt owed = let none : (h i).topics.owed ≡ None = ap (λ (x : Held). x.topics.owed) (hand_is z lines w i start lt) in cc (none, owed)

  retires_none : (i set : ℕ) → i < actors_of z → (h i).topics.retired ≡ Some set → ⊥
  retires_none i set lt leaves =
      let none : (h i).topics.retired ≡ None = ap (λ (x : Held). x.topics.retired) (hand_is z lines w i start lt) in cc (none, leaves)

  abbrev Guarded : ℕ → ℕ → Type 0
  Guarded v = IsGuardedIn (actors_of z) (word_in z w area.Log) pool (word_in z w area.Slots 0) h (ExcusesCached v (word_in z w area.State v))

  -- So what holds of dirty logs holds.
  pub start_logs : LogInvariant z (view z w)
  start_logs = record {
    manager = ap (λ (x : Held). x.state.actor) (hand_is z lines w (z.vcpus + z.hosts) start (manager_there z)) ∙ manager_at z;
    marks = λ i gfn lt owed. absurd (owes_none i gfn lt owed);
    fast = λ i lt. subst (λ p. FastWritesAt p (h i).state.line.command) (sym (place_at_start i lt)) tt;
    old_logs = λ j set lt leaves. absurd (retires_none j set lt leaves);
    armed_words = λ j lt. subst (λ p. HasArmedWordsAt p (h j).state.line.command (h j) (word_in z w area.Log)) (sym (place_at_start j lt)) tt;
    all_marked = λ j gfn slot lt mode opens is.
        absurd (subst (λ p. LogIsUnwatchedAt p (h j).state.line.command (h j) gfn) (place_at_start j lt) opens);
    within = λ id page slot logged. absurd (none_logged (word_in z w area.Slots 0) id slot logged);
    leaves = λ up spot T table entry gfn hangs over leaf. absurd (no_leaf (spot table).level (pool_index table entry) leaf);
    cached = λ v low may.
        subst (AreGuarded (Guarded v)) (sym (ap (λ (x : Held). x.cached.items) (hand_is z lines w v start (omega (arith, low)))))
        (All-nil (UseIsGuarded (Guarded v)));
    reach = λ up spot T v low H K guest level from down most table entry gfn hangs over leaf.
        absurd (no_leaf (spot table).level (pool_index table entry) leaf);
  }
