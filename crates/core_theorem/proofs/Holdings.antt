-- What actors hold is not free, and what one of them owns no other one holds.
use Rattle.std.proofs.Common.{◌≡◌, ◌⊎◌, inl, inr, ◌≢◌, ◌<◌, ℕ, refl, sym, subst, ap, ◌∙◌, arith, ◌≤◌}
use Rattle.std.specs.Prelude.{false, Option, Some}
use Rattle.core_views.specs.declared.sizes.Sizes.{Sizes}
use Rattle.core_views.specs.declared.topics.OwnedPage.{OwnedPage}
use Rattle.core_views.specs.Held.{Held}
use Rattle.core_views.specs.Sizes.{actors_of, index_of}
use Rattle.spte_words.specs.declared.area.Area.TheVariants as area
use Rattle.mmu_core.specs.machine.Enabled.{mmu}
use Rattle.mmu_core.specs.invariant.Laws.{IsSound}
use Rattle.mmu_core.specs.machine.Machine.{May, World, effect, hand_in, run}
use Rattle.mmu_core.specs.invariant.PoolPart.{is_free}
use Rattle.mmu_core.specs.machine.View.{word_in}
use Rattle.mmu_core.specs.invariant.HeldPart.{HasRetired, HoldsOld}
use Rattle.mmu_core.proofs.pages.PoolPages.{retired_no_table, retired_not_free, retired_not_owned, retired_not_slots, not_free, one_retires, one_owner}
use Rattle.mmu_core.proofs.pages.PoolPages.{owned_not_free, owned_not_slots, set_use, table_not_free, table_not_owned}
use Rattle.mmu_core.proofs.held.ClaimGoes.{others_hand}
use Rattle.mmu_core.proofs.held.InSection.{all_passed}
use Rattle.mmu_core.proofs.machine.Worlds.{good_step}
use Rattle.core_theorem.specs.Holdings.{HeldSetsAreKnown, NoneHoldsFreePages, NoOtherHolds, WatchedHoldNoOldSet, OfEachHeld, PagesAreReusedAlone}
use Rattle.core_theorem.specs.Pages.{Owns}
use Rattle.core_theorem.specs.Runs.{IsRun}
use Rattle.core_theorem.proofs.SetsGiven.{gives_old}
use Rattle.core_theorem.proofs.Runs.{before, last_actor, may_last, sound}
use Rattle.core_theorem.proofs.WalksKept.{stands_at}
use Rattle.core_theorem.specs.Walks.{table_at, walk_of}
use Rattle.mmu_core.specs.invariant.TreePart.{stands}
use Rattle.mmu_core.specs.invariant.TreePart.Use.{SlotSet}
use Rattle.part_steps.specs.PartTasks.{own_index}
use Rattle.part_steps.specs.SetHoldings.{MayGiveOld}
use Rattle.core_views.specs.Kinds.{code_of}
use Rattle.core_views.specs.declared.kind.StepKind.TheVariants as kind

module _ (z : Sizes) (u : World Held) (G : IsSound z u) where
  abbrev map : ℕ → ℕ
  map = word_in z u area.PoolMap

  abbrev slots : ℕ
  slots = word_in z u area.Slots 0

  abbrev owned : ℕ → Option OwnedPage
  owned i = (hand_in mmu u i).topics.owned

  abbrev retired : ℕ → Option ℕ
  retired i = (hand_in mmu u i).topics.retired

  -- The page is the published slot set, or an older one that is retired, which the actor may hold still.
  abbrev IsSet : ℕ → ℕ → Type 0
  IsSet actor page = (page ≡ slots) ⊎ HoldsOld HasRetired (actors_of z) (λ i. (hand_in mmu u i).topics) actor page

  -- The published slot set isn't free.
  set_not_free : is_free map slots ≡ false
  set_not_free = not_free G.topics.uses slots SlotSet (set_use G.topics.uses) refl

  -- Nor is an older one that is retired.
  set_held : {actor : ℕ} (page : ℕ) → IsSet actor page → is_free map page ≡ false
  set_held page (inl e) = subst (λ k. is_free map k ≡ false) (sym e) set_not_free
  set_held page (inr H) = retired_not_free G.topics.uses H.by page H.there H.leaves

  none_free : (actor : ℕ) → actor < actors_of z → OfEachHeld (λ page. is_free map page ≡ false) (hand_in mmu u actor).topics
  none_free actor there = record {
    tables = λ level H. table_not_free G.topics.uses G.topics.spot (table_at level (walk_of u actor)) _ (stands_at z u G actor level there H);
    set = λ page is. set_held page (G.topics.sets actor page there is);
    owned = λ o is. owned_not_free G.topics.uses actor o there is;
  }

  -- A page that an actor owns no other actor holds.
  no_other : (actor page : ℕ) → actor < actors_of z → Owns page (hand_in mmu u actor) → NoOtherHolds z actor page u
  no_other actor page there O other among apart = record {
    tables =
        λ level H e. table_not_owned G.topics.uses G.topics.spot (table_at level (walk_of u other)) _ (stands_at z u G other level among H) actor
        O.owned there O.is (O.of_page ∙ sym e);
    set = λ k is e. not_set k (G.topics.sets other k among is) (O.of_page ∙ sym e);
    owned = λ o is e. apart (one_owner G.topics.uses other actor o O.owned among there is O.is (O.of_page ∙ sym e));
  }
    where
      not_set : {i : ℕ} (k : ℕ) → IsSet i k → O.owned.page ≢ k
      not_set k (inl e) same = owned_not_slots G.topics.uses actor O.owned there O.is (same ∙ e)
      not_set k (inr H) same = retired_not_owned G.topics.uses H.by k H.there H.leaves actor O.owned there O.is same

  -- An old slot set that is retired by an actor which has watched all others since, no other actor holds.
  none_holds_old : (actor page : ℕ) → actor < actors_of z → MayGiveOld (hand_in mmu u actor) → retired actor ≡ Some page → NoOtherHolds z actor page u
  none_holds_old actor page there M left other among apart = record {
    tables =
        λ level H e. retired_no_table G.topics.uses G.topics.spot actor page _ there left
        (ap (stands G.topics.up G.topics.spot) (sym e) ∙ stands_at z u G other level among H);
    set = λ k is e. not_set k (G.topics.sets other k among is) e;
    owned = λ o is e. retired_not_owned G.topics.uses actor page there left other o among is e;
  }
    where
      own : own_index (hand_in mmu u actor) ≡ actor
      own = ap (λ (y : Sizes). index_of y (hand_in mmu u actor).state.actor) (G.holds.lines actor there).sizes ∙ (G.holds.lines actor there).index

      not_set : (k : ℕ) → IsSet other k → k ≢ page
      not_set k (inl e) same = retired_not_slots G.topics.uses actor page there left (sym same ∙ e)
      not_set k (inr H) same =
          let by_is : H.by ≡ actor = one_retires G.topics.uses H.by actor page H.there there (H.leaves ∙ ap Some same) left in
          all_passed z (hand_in mmu u actor) actor other (G.holds.lines actor there).sizes own M.watched among apart
          (subst (λ i. (hand_in mmu u i).topics.watched ≤ other) by_is H.unwatched)

  -- Whom the watch has passed doesn't hold it.
  watched_hold_none : (watcher other page : ℕ) → watcher < actors_of z → other < actors_of z → retired watcher ≡ Some page
      → other < (hand_in mmu u watcher).topics.watched → (hand_in mmu u other).topics.search.set ≢ Some page
  watched_hold_none watcher other page there among left passed is = by (G.topics.sets other page among is)
    where
      by : IsSet other page → ⊥
      by (inl e) = retired_not_slots G.topics.uses watcher page there left e
      by (inr H) =
          let by_is : H.by ≡ watcher = one_retires G.topics.uses H.by watcher page H.there there H.leaves left in
          let not_yet : (hand_in mmu u watcher).topics.watched ≤ other = subst (λ i. (hand_in mmu u i).topics.watched ≤ other) by_is H.unwatched in
          omega (arith, not_yet, passed)

pub none_holds_free_pages : NoneHoldsFreePages
none_holds_free_pages z lines w ss R actor there = none_free z (run mmu w ss) (sound z lines w ss R) actor there

pub pages_are_reused_alone : PagesAreReusedAlone
pages_are_reused_alone z lines w ss s R page = (
  λ W other among apart. subst (λ (h : Held). OfEachHeld (λ held. held ≢ page) h.topics) (others_hand u s other apart)
      (no_other z (effect mmu u s) (good_step z u s G may) s.actor page there W.owns other among apart),
  λ W. given W.gives W.had,
)
  where
    u : World Held
    u = run mmu w ss

    R_before : IsRun z lines w ss
    R_before = before z lines w ss s R

    G : IsSound z u
    G = sound z lines w ss R_before

    may : May mmu u s
    may = may_last z lines w ss s R

    there : s.actor < actors_of z
    there = last_actor z lines w ss s R

    given : s.kind.code ≡ code_of kind.Give → Owns page (hand_in mmu u s.actor) ⊎ ((hand_in mmu u s.actor).topics.retired ≡ Some page)
        → NoOtherHolds z s.actor page u
    given gives (inl O) = no_other z u G s.actor page there O
    given gives (inr left) = none_holds_old z u G s.actor page there (gives_old z u G s page there may gives left).1 left

pub held_sets_are_known : HeldSetsAreKnown
held_sets_are_known z lines w ss R = (sound z lines w ss R).topics.sets

pub watched_hold_no_old_set : WatchedHoldNoOldSet
watched_hold_no_old_set z lines w ss R watcher other page there among left passed =
    watched_hold_none z (run mmu w ss) (sound z lines w ss R) watcher other page there among left passed
