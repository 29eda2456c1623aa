-- Each step keeps it that what a virtual processor may use of what it has cached, and which allows writes, is guarded.
use Rattle.std.proofs.Common.{arith, inl, inr, refl, subst, sym, ℕ, ◌*◌, ◌+◌, ◌/◌, ◌<◌, ◌≡◌}
use Rattle.std.specs.Prelude.{Bool, List, false, if◌then◌else◌, true}
use Rattle.std.proofs.lemmas.Bool.Decides.{nat_tests}
use Rattle.core_views.specs.declared.cache.Translation.{Translation}
use Rattle.core_views.specs.declared.place.AccessPlace.TheVariants.{Walk}
use Rattle.core_views.specs.declared.place.AccessPlace.{AccessPlace}
use Rattle.core_views.specs.declared.place.Place.TheVariants as place
use Rattle.core_views.specs.declared.place.Place.{Place}
use Rattle.core_views.specs.declared.sizes.Sizes.{Sizes}
use Rattle.core_views.specs.declared.topics.Flush.{Flush}
use Rattle.core_views.specs.declared.topics.Stay.TheVariants.{Guest}
use Rattle.core_views.specs.declared.topics.TableWalk.{TableWalk}
use Rattle.core_views.specs.declared.trace.Command.TheVariants.{Access}
use Rattle.core_views.specs.declared.trace.Command.{Command}
use Rattle.core_views.specs.declared.trace.Op.{Op}
use Rattle.core_views.specs.Held.{Held}
use Rattle.core_views.specs.Sizes.{actors_of}
use Rattle.core_views.specs.Slots.{is_write}
use Rattle.spte_words.specs.declared.area.Area.TheVariants as area
use Rattle.spte_words.specs.Areas.{pool_index}
use Rattle.spte_words.specs.Entries.{kind_of, level_span}
use Rattle.part_steps.specs.declared.part_step.PartStep.TheVariants as part
use Rattle.part_steps.specs.PartHoldings.{IsOver}
use Rattle.part_steps.specs.PartTasks.{entry_index, table_page}
use Rattle.mmu_core.specs.invariant.InvalidatedPart.{may_use}
use Rattle.mmu_core.specs.invariant.TopicsInvariant.{TopicsInvariant}
use Rattle.mmu_core.specs.invariant.TreePart.{Position, at}
use Rattle.mmu_core.specs.forms.access.AccessKnows.{AccessKnows}
use Rattle.mmu_core.specs.forms.access.AccessSteps.{access_caches, access_task, is_found}
use Rattle.mmu_core.specs.forms.access.Cached.{with_leaf}
use Rattle.mmu_core.specs.forms.access.FaultSteps.{allows_access}
use Rattle.mmu_core.specs.lines.Forms.{KnowsPart, caches_at}
use Rattle.mmu_core.specs.lines.PartAt.{task_at}
use Rattle.mmu_core.specs.machine.View.{View, answer_in}
use Rattle.mmu_core.proofs.invariant.QuietKept.{MakesAt}
use Rattle.mmu_core.proofs.forms.access.CachedKept.{found_is_leaf, with_leaf_all}
use Rattle.mmu_core.proofs.machine.PartStepping.{IsPart}
use Rattle.mmu_core.proofs.pages.Standing.{spot_of}
use Rattle.log_invariant.specs.Excuses.{ExcusesCached, forbidding}
use Rattle.log_invariant.specs.Forbidding.{PassedTo, FlushesLater, Forbidding, HowFar, IsUnflushed, MayHaveCached, PassedAll}
use Rattle.log_invariant.specs.LogInvariant.{AreGuarded, LeafIsGuarded, LogInvariant, UseIsGuarded}
use Rattle.log_invariant.proofs.CachesCarried.{AsksStill}
use Rattle.log_invariant.proofs.CoveredKept.{AllGuarded, IsGuardedNow}

-- So it is in a view.
abbrev pub CachedNow : Sizes → View → Type 0
CachedNow z v = (k : ℕ) → k < z.vcpus → may_use (v.words area.State k) (v.hand k).topics.stay ≡ true
    → AreGuarded (AllGuarded z v (ExcusesCached k (v.words area.State k))) (v.hand k).cached.items

-- ---- excuses

-- What is guarded by one excuse is guarded by a weaker one.
pub guarded_by : (z : Sizes) (v : View) (Less More : Held → ℕ → Type 0) (gfn : ℕ) → ((h : Held) → Less h gfn → More h gfn) → AllGuarded z v Less gfn
    → AllGuarded z v More gfn
guarded_by z v Less More gfn more guarded id slot logged holds = by (guarded id slot logged holds)
  where
    by : IsGuardedNow z v Less slot gfn → IsGuardedNow z v More slot gfn
    by (inl covered) = inl covered
    by (inr excuse) = inr (excuse.0, excuse.1, more (v.hand excuse.0) excuse.2)

-- An excuse stays where the state word asks for a flush still.
still_asked : (flush : Flush) (k state now_ : ℕ) → AsksStill state now_ → IsUnflushed flush k state → IsUnflushed flush k now_
still_asked flush k state now_ still (inl le) = inl le
still_asked flush k state now_ still (inr U) = inr (U.0, still U.1)

still_flushes : (f : Forbidding) (k state now_ gfn : ℕ) → AsksStill state now_ → FlushesLater f k state gfn → FlushesLater f k now_ gfn
still_flushes f k state now_ gfn still later = (later.0, by f.how_far later.1)
  where
    by : (far : HowFar) → MayHaveCached far k state → MayHaveCached far k now_
    by (PassedTo frame) any = tt
    by (PassedAll flush) U = still_asked flush k state now_ still U

pub still_excused : (k state now_ : ℕ) (h : Held) (gfn : ℕ) → AsksStill state now_ → ExcusesCached k state h gfn → ExcusesCached k now_ h gfn
still_excused k state now_ h gfn still (inl opens) = inl opens
still_excused k state now_ h gfn still (inr F) = inr (still_flushes (forbidding h) k state now_ gfn still F)

-- ---- what an access caches

module _ (z : Sizes) (v : View) (a : ℕ) (P : TopicsInvariant z v) (G : LogInvariant z v) (low : a < z.vcpus) where
  abbrev h : Held
  h = v.hand a

  abbrev walk : TableWalk
  walk = h.topics.walk

  -- the entry of the guest frame in the walk's table
  abbrev entry : ℕ → ℕ
  entry gfn = v.words area.Pool (pool_index (table_page walk) (entry_index gfn walk.level))

  there : a < actors_of z
  there = omega (arith, low)

  -- What is said of the guest frames of what it has cached.
  abbrev GuardedUse : ℕ → Type 0
  GuardedUse = AllGuarded z v (ExcusesCached a (v.words area.State a))

  -- A leaf that its walk finds in the guest is guarded.
  entry_guarded : (gfn other : ℕ) → h.topics.stay ≡ Guest → IsOver gfn walk → other / level_span walk.level ≡ gfn / level_span walk.level
      → LeafIsGuarded GuardedUse walk.level other (entry gfn)
  entry_guarded gfn other guest over same =
      let at_walk = (P.held a there).table over.there in
      let here : P.spot (table_page walk) ≡ at walk.level walk.prefix = (spot_of P.up P.spot (table_page walk) (at walk.level walk.prefix) at_walk).1 in
      let span = over.span in
      subst (λ (p : Position). LeafIsGuarded GuardedUse p.level other (entry gfn)) here
      (G.reach P.up P.spot P.tree a low (P.held a there) (P.paths a there) guest walk.level over.there (omega arith) (P.tree.there _ _ at_walk).2
      (table_page walk) (entry_index gfn walk.level) other (0, refl) (
        omega arith,
        subst (λ (p : Position). other / level_span p.level ≡ p.prefix * 512 + entry_index gfn walk.level) (sym here)
            (omega (arith, span, same)),
      ))

  -- The use of it is guarded, and so is that of each translation that is cached then.
  abbrev Guarded : List Translation → Type 0
  Guarded items = AreGuarded GuardedUse items

  walk_guarded : (gfn : ℕ) (allowed : Bool) → h.topics.stay ≡ Guest → IsPart z v a (part.Walk gfn) → Guarded h.cached.items
      → Guarded (if is_found (kind_of walk.level (entry gfn)) allowed then with_leaf gfn walk.level (entry gfn) h.cached else h.cached).items
  walk_guarded gfn allowed guest S each = by (is_found (kind_of walk.level (entry gfn)) allowed) refl
    where
      by : (b : Bool) → is_found (kind_of walk.level (entry gfn)) allowed ≡ b
          → Guarded (if b then with_leaf gfn walk.level (entry gfn) h.cached else h.cached).items
      by false is = each
      by true is =
          let found = found_is_leaf (kind_of walk.level (entry gfn)) allowed is in
          with_leaf_all (UseIsGuarded GuardedUse) gfn walk.level (entry gfn) h.cached
          (λ writes other covered.
          let same : other / level_span walk.level ≡ gfn / level_span walk.level = grind (arith, nat_tests) in
          entry_guarded gfn other guest S.needs.0 same found writes) each

  access_guarded : (p : AccessPlace) (gfn word : ℕ) (op : Op) → AccessKnows p gfn (is_write op) h → MakesAt z v a (place.Access p) (Access gfn word op)
      → Guarded h.cached.items → Guarded (access_caches p h gfn op (answer_in (access_task p h gfn word op) v.words)).items
  access_guarded (Walk again) gfn word op K makes each =
      walk_guarded gfn (allows_access (is_write op) (entry gfn)) K.0.guest (makes (part.Walk gfn) refl) each
  access_guarded _ gfn word op K makes each = each

  -- No other step caches anything.
  pub line_guarded : (p : Place) (command : Command) → KnowsPart p command h → MakesAt z v a p command → Guarded h.cached.items
      → Guarded (caches_at p command h (answer_in (task_at p command h) v.words)).items
  line_guarded (place.Access p) (Access gfn word op) K makes each = access_guarded p gfn word op K makes each
  line_guarded _ _ K makes each = each
