-- What a fault has seen at each of its places, and that it has seen it after its own step.
use Rattle.std.proofs.Common.{◌≡◌, ◌≢◌, ℕ, List, [], ◌∷◌, ◌++◌, Option}
use Rattle.core_views.specs.declared.kind.Kind.{Kind}
use Rattle.core_views.specs.declared.place.Cause.{Cause}
use Rattle.core_views.specs.declared.place.Cause.TheVariants.{Open, Moved, Entry}
use Rattle.core_views.specs.declared.place.CheckStage.{CheckStage}
use Rattle.core_views.specs.declared.place.CheckStage.TheVariants as stage
use Rattle.core_views.specs.declared.place.FaultEnd.{FaultEnd}
use Rattle.core_views.specs.declared.place.FaultEnd.TheVariants.{Retry, Mmio, NotFast}
use Rattle.core_views.specs.declared.place.FaultPlace.{FaultPlace}
use Rattle.core_views.specs.declared.place.FaultPlace.TheVariants.{Begin, Snapshot, Find, Host, Bring, Share, Check, Walk, Claim, Fill, Role, Link, Give, Leaf}
use Rattle.core_views.specs.declared.place.FaultPlace.TheVariants.{Unshare, End, FastBegin, FastFind, FastWalk, Fix, Mark}
use Rattle.core_views.specs.declared.sizes.Sizes.{Sizes}
use Rattle.core_views.specs.declared.topics.HostLook.{HostLook}
use Rattle.core_views.specs.declared.topics.Invalidations.{Invalidations}
use Rattle.core_views.specs.declared.topics.TableWalk.{TableWalk}
use Rattle.core_views.specs.declared.topics.Topics.{Topics}
use Rattle.core_views.specs.Held.{Held}
use Rattle.spte_words.specs.declared.area.Area.{Area}
use Rattle.spte_words.specs.declared.area.Area.TheVariants as area
use Rattle.spte_words.specs.Areas.{place as place_of}
use Rattle.mmu_laws.specs.causes.Causes.{Finds, HasMade, SawChange, SawOpen, StaysInSection}
use Rattle.mmu_core.specs.machine.Enabled.{mmu}
use Rattle.mmu_core.specs.forms.access.FaultSteps.{entry_word, host_word_at, snapshot_taken, after_share, find_next, found_next, is_last_word, put_next}
use Rattle.mmu_core.specs.forms.access.FaultSteps.{fast_find_next, over_next}
use Rattle.mmu_core.specs.machine.Machine.{May, Step, World, effect, run}
use Rattle.part_steps.specs.PartTasks.{word_looked}
use Rattle.part_steps.specs.Tasks.{map_of}
use Rattle.mmu_laws.proofs.causes.Changes.{Knows, made_longer, knows_longer, saw_longer}
use Rattle.std.specs.Prelude.{Bool, true, false, ◌&&◌, ◌==◌, if◌then◌else◌}
use Rattle.core_views.specs.declared.place.SlotField.{SlotField}
use Rattle.core_views.specs.declared.topics.SlotSearch.{SlotSearch}
use Rattle.core_views.specs.Slots.{contains}
use Rattle.mmu_core.specs.declared.share.ShareNext.{ShareNext}
use Rattle.mmu_core.specs.declared.share.ShareNext.TheVariants as shares

-- what a fault has seen that begins anew, by its cause
abbrev pub CauseSaw : Cause → Sizes → ℕ → ℕ → World Held → List (Step Kind) → Type 0
CauseSaw (Open count start end_ at) z actor gfn w ss = (at ≡ gfn) × SawOpen z actor gfn count start end_ w ss
CauseSaw (Moved old_ now_) z actor gfn w ss = SawChange actor (place_of (map_of z) area.Seq 0) old_ now_ w ss
CauseSaw (Entry word read seen) z actor gfn w ss = SawChange actor word read seen w ss

module _ (z : Sizes) (actor : ℕ) (w : World Held) where
  -- The snapshot, the words of the check, the host word and the entry seen are what the fault found in these words, or they were changed since.
  abbrev KnowsSeq : Invalidations → List (Step Kind) → World Held → Type 0
  KnowsSeq n ss u = Knows (StaysInSection actor) actor (place_of (map_of z) area.Seq 0) (snapshot_taken n.snapshot) w ss u

  abbrev pub KnowsEntry : ℕ → TableWalk → List (Step Kind) → World Held → Type 0
  KnowsEntry gfn walk ss u = Knows (StaysInSection actor) actor (entry_word z gfn walk) walk.entry w ss u

  abbrev pub KnowsHostWord : Option HostLook → List (Step Kind) → World Held → Type 0
  KnowsHostWord host ss u = Knows (StaysInSection actor) actor (host_word_at z host) (word_looked host) w ss u

  abbrev FoundWord : Area → ℕ → List (Step Kind) → Type 0
  FoundWord a number ss = HasMade (Finds actor (place_of (map_of z) a 0) number) (StaysInSection actor) w ss

  abbrev CheckSaw : CheckStage → Invalidations → List (Step Kind) → Type 0
  CheckSaw stage.Start n ss = FoundWord area.Count n.count ss
  CheckSaw stage.End n ss = FoundWord area.Count n.count ss × FoundWord area.RangeStart n.start ss
  CheckSaw _ n ss = Unit {0}

  abbrev pub EndSaw : FaultEnd → ℕ → List (Step Kind) → Type 0
  EndSaw (Retry fast cause) gfn ss = CauseSaw cause z actor gfn w ss
  EndSaw _ gfn ss = Unit {0}

  abbrev pub FaultSaw : FaultPlace → ℕ → Topics → List (Step Kind) → World Held → Type 0
  FaultSaw (Find begun) gfn t ss u = KnowsSeq t.invalidations ss u
  FaultSaw Host gfn t ss u = KnowsSeq t.invalidations ss u
  FaultSaw Bring gfn t ss u = KnowsSeq t.invalidations ss u × KnowsHostWord t.host ss u
  FaultSaw Share gfn t ss u = KnowsSeq t.invalidations ss u
  FaultSaw (Check at) gfn t ss u = KnowsSeq t.invalidations ss u × CheckSaw at t.invalidations ss
  FaultSaw (Claim begun) gfn t ss u = KnowsEntry gfn t.walk ss u
  FaultSaw Fill gfn t ss u = KnowsEntry gfn t.walk ss u
  FaultSaw Role gfn t ss u = KnowsEntry gfn t.walk ss u
  FaultSaw Link gfn t ss u = KnowsEntry gfn t.walk ss u
  FaultSaw (Leaf writes) gfn t ss u = KnowsEntry gfn t.walk ss u
  FaultSaw Fix gfn t ss u = KnowsEntry gfn t.walk ss u
  FaultSaw (Give e) gfn t ss u = EndSaw e gfn ss
  FaultSaw (Unshare e) gfn t ss u = EndSaw e gfn ss
  FaultSaw (End e) gfn t ss u = EndSaw e gfn ss
  FaultSaw _ gfn t ss u = Unit {0}

  -- ---- a step longer

  module _ (ss : List (Step Kind)) (s : Step Kind) (so : StaysInSection actor s) where
    check_longer : (at : CheckStage) (n : Invalidations) → CheckSaw at n ss → CheckSaw at n (ss ++ s ∷ [])
    check_longer stage.Start n C = made_longer (Finds actor _ n.count) (StaysInSection actor) w ss s so C
    check_longer stage.End n C = (
      made_longer (Finds actor _ n.count) (StaysInSection actor) w ss s so C.0,
      made_longer (Finds actor _ n.start) (StaysInSection actor) w ss s so C.1,
    )
    check_longer _ n C = tt

    caused_longer : (cause : Cause) (gfn : ℕ) → CauseSaw cause z actor gfn w ss → CauseSaw cause z actor gfn w (ss ++ s ∷ [])
    caused_longer (Open count start end_ at) gfn C = (
      C.0,
      record {
        some = C.1.some;
        from = C.1.from;
        to = C.1.to;
        counted = made_longer (Finds actor _ count) (StaysInSection actor) w ss s so C.1.counted;
        began = made_longer (Finds actor _ start) (StaysInSection actor) w ss s so C.1.began;
        ended = made_longer (Finds actor _ end_) (StaysInSection actor) w ss s so C.1.ended;
      },
    )
    caused_longer (Moved old_ now_) gfn C = saw_longer actor _ old_ now_ w ss s so C
    caused_longer (Entry word read seen) gfn C = saw_longer actor word read seen w ss s so C

    pub end_longer : (e : FaultEnd) (gfn : ℕ) → EndSaw e gfn ss → EndSaw e gfn (ss ++ s ∷ [])
    end_longer (Retry fast cause) gfn C = caused_longer cause gfn C
    end_longer _ gfn C = tt

  -- Another actor's step takes nothing away.
  pub others_saw : (p : FaultPlace) (gfn : ℕ) (t : Topics) (ss : List (Step Kind)) (s : Step Kind) → May mmu (run mmu w ss) s → s.actor ≢ actor
      → FaultSaw p gfn t ss (run mmu w ss) → FaultSaw p gfn t (ss ++ s ∷ []) (effect mmu (run mmu w ss) s)
  others_saw p gfn t ss s may other S = by p S
    where
      so : StaysInSection actor s
      so mine = absurd (other mine)

      longer : (word number : ℕ) → Knows (StaysInSection actor) actor word number w ss (run mmu w ss)
          → Knows (StaysInSection actor) actor word number w (ss ++ s ∷ []) (effect mmu (run mmu w ss) s)
      longer word number K = knows_longer (StaysInSection actor) actor word number w ss s may so (λ mine. absurd (other mine)) K

      by : (q : FaultPlace) → FaultSaw q gfn t ss (run mmu w ss) → FaultSaw q gfn t (ss ++ s ∷ []) (effect mmu (run mmu w ss) s)
      by Begin K = tt
      by Snapshot K = tt
      by Bring K = (longer _ _ K.0, longer _ _ K.1)
      by (Check at) K = (longer _ _ K.0, check_longer ss s so at t.invalidations K.1)
      by (Walk rooted) K = tt
      by FastBegin K = tt
      by (FastFind begun) K = tt
      by (FastWalk rooted) K = tt
      by (Mark fast) K = tt
      by (Give e) K = end_longer ss s so e gfn K
      by (Unshare e) K = end_longer ss s so e gfn K
      by (End e) K = end_longer ss s so e gfn K
      by _ K = longer _ _ K

-- ---- the next places

module _ (z : Sizes) (a : ℕ) (w : World Held) (ss : List (Step Kind)) (u : World Held) (gfn : ℕ) (t : Topics) where
  pub either_saw : (b : Bool) (p q : FaultPlace) → FaultSaw z a w p gfn t ss u → FaultSaw z a w q gfn t ss u
      → FaultSaw z a w (if b then p else q) gfn t ss u
  either_saw true p q one other = one
  either_saw false p q one other = other

  pub find_saw : (write : Bool) (f : SlotField) (so_far : SlotSearch) → KnowsSeq z a w t.invalidations ss u
      → FaultSaw z a w (find_next gfn write f so_far) gfn t ss u
  find_saw write f so_far K =
      either_saw (is_last_word f && contains gfn so_far.slot) (found_next write so_far) (if so_far.id == 32 then End Mmio else Find true)
      (either_saw (write && so_far.slot.read_only) (End Mmio) Host tt K) (either_saw (so_far.id == 32) (End Mmio) (Find true) tt K)

  pub fast_find_saw : (f : SlotField) (so_far : SlotSearch) → FaultSaw z a w (fast_find_next gfn f so_far) gfn t ss u
  fast_find_saw f so_far =
      either_saw (is_last_word f && contains gfn so_far.slot) (FastWalk false) (if so_far.id == 32 then End (NotFast 0) else FastFind true) tt
      (either_saw (so_far.id == 32) (End (NotFast 0)) (FastFind true) tt tt)

  pub over_saw : (fast marked : Bool) → FaultSaw z a w (over_next fast marked) gfn t ss u
  over_saw true marked = tt
  over_saw false marked = tt

  pub put_saw : (fast marks : Bool) → FaultSaw z a w (put_next fast marks) gfn t ss u
  put_saw fast true = tt
  put_saw fast false = over_saw fast false

  pub tried_saw : (next : ShareNext) → KnowsSeq z a w t.invalidations ss u → FaultSaw z a w (after_share next) gfn t ss u
  tried_saw shares.Tries K = K
  tried_saw shares.Shares K = (K, tt)
