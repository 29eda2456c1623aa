-- What a fault has seen at each of its places it has seen after its own step.
use Rattle.std.proofs.Common.{◌≡◌, ◌≢◌, inl, inr, ◌<◌, ◌≤◌, ℕ, List, [], ◌∷◌, ◌++◌, refl, sym, subst, ap, ◌∙◌, arith, ◌+◌}
use Rattle.std.specs.Prelude.{Bool, true, false, ◌==◌, ◌&&◌, nat_le, nat_lt, not, if◌then◌else◌, slice_index, Some, None, Option}
use Rattle.std.proofs.lemmas.Bool.{eqb-false}
use Rattle.core_views.specs.declared.kind.Kind.{Kind}
use Rattle.core_views.specs.declared.place.Cause.TheVariants.{Open, Moved, Entry}
use Rattle.core_views.specs.declared.place.CheckStage.{CheckStage}
use Rattle.core_views.specs.declared.place.CheckStage.TheVariants as stage
use Rattle.core_views.specs.declared.place.FaultEnd.TheVariants.{Installed, HostFault, Retry, NotFast}
use Rattle.core_views.specs.declared.place.FaultPlace.{FaultPlace}
use Rattle.core_views.specs.declared.place.FaultPlace.TheVariants.{Snapshot, Find, Host, Bring, Share, Check, Walk, Claim, Fill, Role, Link, Give, Leaf}
use Rattle.core_views.specs.declared.place.FaultPlace.TheVariants.{Unshare, End, FastFind, FastWalk, Fix, Mark}
use Rattle.core_views.specs.declared.sizes.Sizes.{Sizes}
use Rattle.core_views.specs.declared.topics.Hold.{Hold}
use Rattle.core_views.specs.declared.topics.Hold.TheVariants.{Loose, Owing}
use Rattle.core_views.specs.declared.topics.Topics.{Topics}
use Rattle.core_views.specs.Held.{Held}
use Rattle.core_views.specs.Kinds.{after}
use Rattle.core_views.specs.Sizes.{actors_of}
use Rattle.spte_words.specs.declared.area.Area.{Area}
use Rattle.spte_words.specs.declared.area.Area.TheVariants as area
use Rattle.spte_words.specs.declared.spte_kind.SpteKind.{SpteKind}
use Rattle.spte_words.specs.declared.spte_kind.SpteKind.TheVariants as entry_kind
use Rattle.spte_words.specs.Areas.{place as place_of, pool_index, size_of}
use Rattle.spte_words.specs.Entries.{kind_of, word_below}
use Rattle.spte_words.specs.HostWords.{host_allows_write, host_present}
use Rattle.spte_words.proofs.Indices.{pool_within}
use Rattle.part_steps.specs.declared.part_step.PartStep.{PartStep}
use Rattle.part_steps.specs.declared.part_step.PartStep.TheVariants as part
use Rattle.mmu_laws.specs.causes.Causes.{Finds, HasMade, SawChange, StaysInSection}
use Rattle.mmu_core.specs.machine.Enabled.{mmu}
use Rattle.mmu_core.specs.declared.claim.ClaimNext.{ClaimNext}
use Rattle.mmu_core.specs.declared.claim.ClaimNext.TheVariants as claims
use Rattle.mmu_core.specs.forms.access.FaultKnows.{CheckKnows, FaultKnows, is_trying}
use Rattle.mmu_core.specs.forms.access.FaultSteps.{after_claim, after_share, allows_access, check_next, check_part, entry_word, fault_next, host_word_at}
use Rattle.mmu_core.specs.forms.access.FaultSteps.{fault_part, end_next}
use Rattle.mmu_core.specs.forms.access.FaultSteps.{share_next, share_part, snapshot_taken, walk_next, exchange_lost, fast_walk_next, put_next}
use Rattle.mmu_core.specs.declared.claim.FreeMap.TheVariants.{Pages}
use Rattle.mmu_core.specs.orders.ClaimSteps.{claim_next, map_word, tries_one}
use Rattle.mmu_core.specs.invariant.Laws.{IsSound}
use Rattle.mmu_core.specs.machine.Machine.{May, Step, World, answered, effect, found, hand_in, run}
use Rattle.part_steps.specs.PartBounds.{PartRests}
use Rattle.part_steps.specs.PartTasks.{entry_index, table_page, word_looked, words_filled}
use Rattle.part_steps.specs.PartTopics.{part_topics, sequenced}
use Rattle.part_steps.specs.SlotWords.{page_of}
use Rattle.part_steps.specs.Tasks.{map_of}
use Rattle.part_steps.specs.StayTopics.{is_loose}
use Rattle.part_steps.specs.WalkTopics.{gone_down, linked_page}
use Rattle.part_steps.specs.PageTopics.{searched}
use Rattle.mmu_laws.proofs.forms.access.CausePlaces.{FaultSaw, KnowsEntry, KnowsHostWord, end_longer, EndSaw, either_saw, find_saw, fast_find_saw}
use Rattle.mmu_laws.proofs.forms.access.CausePlaces.{over_saw, put_saw, tried_saw}
use Rattle.mmu_laws.proofs.causes.CauseSteps.{IsAmid, IsExchange, IsLoad, Spares, spared}
use Rattle.mmu_laws.proofs.causes.Changes.{Knows, knows_longer, knows_now, made_longer, made_now, saw_now, was_changed}
use Rattle.mmu_core.proofs.orders.ClaimMade.{claim_made, claim_walk}
use Rattle.mmu_laws.proofs.forms.access.EachFault.{NextIs}
use Rattle.mmu_core.proofs.forms.access.FaultSame.{over_it}
use Rattle.mmu_laws.proofs.causes.MadeSteps.{Makes, exchange_finds, in_machine, load_finds, load_keeps, own_rests, own_sizes, stays_in, word_on}
use Rattle.mmu_laws.proofs.causes.EntryLoaded.{fill_spares, low, unfrozen}
use Rattle.core_views.specs.declared.place.FaultEnd.{FaultEnd}
use Rattle.part_steps.specs.PartHoldings.{is_fixable, one_mark_tells}
use Rattle.part_steps.specs.RunHoldings.{maps_run}

module _ (z : Sizes) (w : World Held) (ss : List (Step Kind)) (s : Step Kind) (G : IsSound z (run mmu w ss)) (may : May mmu (run mmu w ss) s) where
  abbrev a : ℕ
  a = s.actor

  abbrev u : World Held
  u = run mmu w ss

  abbrev more : List (Step Kind)
  more = ss ++ s ∷ []

  abbrev behind : World Held
  behind = effect mmu u s

  abbrev h : Held
  h = hand_in mmu u s.actor

  abbrev t : Topics
  t = h.topics

  -- what the step answers, and the number that it finds
  abbrev v : ℕ
  v = answered mmu u s.kind

  abbrev n : ℕ
  n = found mmu u s.kind

  abbrev So : Step Kind → Type 0
  So = StaysInSection a

  there : a < actors_of z
  there = in_machine z u s G may

  same : h.state.sizes ≡ z
  same = own_sizes z u s G may

  rests : PartRests h
  rests = own_rests z u s G may

  abbrev Made : PartStep → Type 0
  Made step = Makes h s step

  -- What is known of a word that the step spares.
  longer : (b : Area) (i number : ℕ) (step : PartStep) (M : Made step) → IsAmid step → i < size_of (map_of z) b → Spares b i h step M.note
      → Knows So a (place_of (map_of z) b i) number w ss u → Knows So a (place_of (map_of z) b i) number w more behind
  longer b i number step M is inside spares K =
      knows_longer So a (place_of (map_of z) b i) number w ss s may (stays_in z u s G may step M is)
      (λ mine here. ap (λ k. after k n) M.is ∙ spared z b i h step M.note n same inside M.needs rests spares (sym (ap (λ (k : Kind). k.word) M.is) ∙ here)) K

  -- What is known of a word that it loads.
  loads_now : (step : PartStep) (word : ℕ) → IsLoad step → (M : Made step) → s.kind.word ≡ word → Knows So a word v w more behind
  loads_now step word is M here =
      knows_now So a word v w ss s may (record { by_actor = refl; on = here; leaves = load_keeps z u s G may step M is })

  -- ---- the snapshot

  abbrev SeqIs : ℕ → List (Step Kind) → World Held → Type 0
  SeqIs number ts x = Knows So a (place_of (map_of z) area.Seq 0) number w ts x

  seq_longer : (number : ℕ) (step : PartStep) (M : Made step) → IsAmid step → Spares area.Seq 0 h step M.note → SeqIs number ss u → SeqIs number more behind
  seq_longer number step M is spares K = longer area.Seq 0 number step M is (omega arith) spares K

  either : (b : Bool) (p q : FaultPlace) (gfn : ℕ) (t_ : Topics) → FaultSaw z a w p gfn t_ more behind → FaultSaw z a w q gfn t_ more behind
      → FaultSaw z a w (if b then p else q) gfn t_ more behind
  either b p q gfn t_ one other = either_saw z a w more behind gfn t_ b p q one other

  snapshot_saw : (gfn : ℕ) (hold : Hold) → hold ≡ Loose → Made part.Seq → FaultSaw z a w (Find false) gfn (sequenced (is_loose hold) t v) more behind
  snapshot_saw gfn Loose loose M = loads_now part.Seq (place_of (map_of z) area.Seq 0) tt M (word_on z u s G may part.Seq M)
  snapshot_saw gfn _ loose M = absurd (cc loose)

  -- ---- the search, the lock and the check

  share_saw : (hold : Hold) (gfn : ℕ) → is_trying hold ≡ true → Made (share_part hold) → SeqIs (snapshot_taken t.invalidations.snapshot) ss u
      → FaultSaw z a w (after_share (share_next hold v)) gfn (part_topics (share_part hold) t v) more behind
  share_saw Loose gfn try_ M K =
      tried_saw z a w more behind gfn (part_topics part.Share t v) (share_next Loose v) (seq_longer _ part.Share M tt (inr (λ e. absurd (cc e))) K)
  share_saw (Owing word) gfn try_ M K = seq_longer _ part.Unshare M tt (inr (λ e. absurd (cc e))) K
  share_saw _ gfn try_ M K = absurd (cc try_)

  found_it : (step : PartStep) (b : Area) (M : Made step) → IsLoad step → s.kind.word ≡ place_of (map_of z) b 0
      → HasMade (Finds a (place_of (map_of z) b 0) v) So w more
  found_it step b M is here =
      made_now (Finds a (place_of (map_of z) b 0) v) So w ss s (record { by_actor = refl; on = here; finds = load_finds z u s G may step M is })

  range_saw : (gfn : ℕ) (b : Bool) → (nat_le t.invalidations.start gfn && nat_lt gfn v) ≡ b → Made part.RangeEnd → CheckKnows stage.End gfn t.invalidations
      → FaultSaw z a w (Check stage.End) gfn t ss u → FaultSaw z a w
      (if b then Unshare (Retry false (Open t.invalidations.count t.invalidations.start v gfn)) else Check stage.Seq) gfn
      (part_topics part.RangeEnd t v) more behind
  range_saw gfn true is M C K =
      let O = over_it t.invalidations.start gfn v is in
      let counted = made_longer (Finds a _ t.invalidations.count) So w ss s (stays_in z u s G may part.RangeEnd M tt) K.1.0 in
      let began = made_longer (Finds a _ t.invalidations.start) So w ss s (stays_in z u s G may part.RangeEnd M tt) K.1.1 in
      let ended = found_it part.RangeEnd area.RangeEnd M tt (word_on z u s G may part.RangeEnd M) in
      (refl, record { some = C.1; from = O.0; to = O.1; counted = counted; began = began; ended = ended })
  range_saw gfn false is M C K = (seq_longer _ part.RangeEnd M tt (inl tt) K.0, tt)

  -- Where a word holds another number than the one that was known, its change was seen.
  saw : (step : PartStep) (word number : ℕ) (M : Made step) → IsAmid step → s.kind.word ≡ word → n ≡ v → Knows So a word number w ss u → v ≢ number
      → SawChange a word number v w more
  saw step word number M is here finds K differs =
      saw_now a word number v w ss s (stays_in z u s G may step M is) (was_changed So a word number w ss u K
      (λ e. differs (sym finds ∙ ap (slice_index u.words) here ∙ e))) (record { by_actor = refl; on = here; finds = finds }) differs

  seq_saw : (gfn : ℕ) (b : Bool) → (v == snapshot_taken t.invalidations.snapshot) ≡ b → Made part.Seq → SeqIs (snapshot_taken t.invalidations.snapshot) ss u
      → FaultSaw z a w (if b then Walk false else Unshare (Retry false (Moved (snapshot_taken t.invalidations.snapshot) v))) gfn
      (part_topics part.Seq t v) more behind
  seq_saw gfn true is M K = tt
  seq_saw gfn false is M K = saw part.Seq _ (snapshot_taken t.invalidations.snapshot) M tt (word_on z u s G may part.Seq M)
      (load_finds z u s G may part.Seq M tt) K (eqb-false v (snapshot_taken t.invalidations.snapshot) is)

  check_saw : (stage_ : CheckStage) (gfn : ℕ) → Made (check_part stage_) → CheckKnows stage_ gfn t.invalidations → FaultSaw z a w (Check stage_) gfn t ss u
      → FaultSaw z a w (check_next stage_ gfn t v) gfn (part_topics (check_part stage_) t v) more behind
  check_saw stage.Count gfn M C K =
      let K_ = seq_longer _ part.Count M tt (inl tt) K.0 in
      either (v == 0) (Check stage.Seq) (Check stage.Start) gfn (part_topics part.Count t v) (K_, tt)
      (K_, found_it part.Count area.Count M tt (word_on z u s G may part.Count M))
  check_saw stage.Start gfn M C K =
      let counted = made_longer (Finds a _ t.invalidations.count) So w ss s (stays_in z u s G may part.RangeStart M tt) K.1 in
      (seq_longer _ part.RangeStart M tt (inl tt) K.0, (counted, found_it part.RangeStart area.RangeStart M tt (word_on z u s G may part.RangeStart M)))
  check_saw stage.End gfn M C K = range_saw gfn (nat_le t.invalidations.start gfn && nat_lt gfn v) refl M C K
  check_saw stage.Seq gfn M C K = seq_saw gfn (v == snapshot_taken t.invalidations.snapshot) refl M K.0

  -- ---- the entry

  abbrev entry_at : ℕ → ℕ
  entry_at gfn = pool_index (table_page t.walk) (entry_index gfn t.walk.level)

  abbrev EntryIs : ℕ → ℕ → List (Step Kind) → World Held → Type 0
  EntryIs gfn number ts x = Knows So a (entry_word z gfn t.walk) number w ts x

  entry_longer : (gfn : ℕ) (step : PartStep) (M : Made step) → 1 ≤ t.walk.level → IsAmid step → Spares area.Pool (entry_at gfn) h step M.note
      → EntryIs gfn t.walk.entry ss u → EntryIs gfn t.walk.entry more behind
  entry_longer gfn step M from is spares K =
      longer area.Pool (entry_at gfn) t.walk.entry step M is (pool_within (map_of z) (table_page t.walk) (entry_index gfn t.walk.level)
      (subst (λ (y : Sizes). table_page t.walk < y.pool) same (rests.table from)) (low z u s G may gfn)) spares K

  entry_now : (gfn : ℕ) → Made (part.Walk gfn) → EntryIs gfn v more behind
  entry_now gfn M = loads_now (part.Walk gfn) (entry_word z gfn t.walk) tt M (word_on z u s G may (part.Walk gfn) M)

  abbrev gone : ℕ → SpteKind → Topics
  gone gfn k = record t { walk = gone_down (linked_page k) t.walk (entry_index gfn t.walk.level) v }

  end_saw : (gfn : ℕ) (write : Bool) (k : SpteKind) → linked_page k ≡ None → Made (part.Walk gfn)
      → FaultSaw z a w (end_next gfn write t) gfn (gone gfn k) more behind
  end_saw gfn write k none M =
      subst (λ (x : Option ℕ). FaultSaw z a w (end_next gfn write t) gfn (record t { walk = gone_down x t.walk (entry_index gfn t.walk.level) v }) more behind)
      (sym none) (either (maps_run t.walk.level gfn t) (Leaf write) (Claim false) gfn (gone gfn entry_kind.Absent) (entry_now gfn M) (entry_now gfn M))

  walk_saw : (gfn : ℕ) (write : Bool) (k : SpteKind) → kind_of t.walk.level v ≡ k → Made (part.Walk gfn)
      → FaultSaw z a w (walk_next k z gfn write t v) gfn (gone gfn k) more behind
  walk_saw gfn write (entry_kind.Table page) is M = tt
  walk_saw gfn write entry_kind.Leaf is M =
      either (allows_access write v) (Unshare Installed) (end_next gfn write t) gfn (gone gfn entry_kind.Leaf) tt (end_saw gfn write entry_kind.Leaf refl M)
  walk_saw gfn write entry_kind.Absent is M = end_saw gfn write entry_kind.Absent refl M
  walk_saw gfn write entry_kind.Frozen is M = absurd (unfrozen z u s G may gfn M is)

  claim_longer : (gfn : ℕ) (tries : Bool) (word : ℕ) → Made (if tries then part.Claim else part.Map word) → 1 ≤ t.walk.level → EntryIs gfn t.walk.entry ss u
      → EntryIs gfn t.walk.entry more behind
  claim_longer gfn true word M from K = entry_longer gfn part.Claim M from tt (inr (λ e. absurd (cc e))) K
  claim_longer gfn false word M from K = entry_longer gfn (part.Map word) M from tt (inl tt) K

  claim_saw : (gfn : ℕ) (next : ClaimNext) (t_ : Topics) → t_.walk ≡ t.walk → EntryIs gfn t.walk.entry more behind
      → FaultSaw z a w (after_claim next) gfn t_ more behind
  claim_saw gfn claims.Empty t_ walk K = tt
  claim_saw gfn _ t_ walk K = subst (λ x. KnowsEntry z a w gfn x more behind) (sym walk) K

  -- An exchange that is lost saw that the entry was changed.
  exchange_saw : (fast : Bool) (has : FaultPlace) (gives : FaultEnd → FaultPlace) (gfn : ℕ) (b : Bool) (step : PartStep) (t_ : Topics) (M : Made step)
      → IsAmid step → IsExchange step → s.kind.word ≡ entry_word z gfn t.walk → EntryIs gfn t.walk.entry ss u → (v == t.walk.entry) ≡ b
      → FaultSaw z a w has gfn t_ more behind → ((e : FaultEnd) → EndSaw z a w e gfn more → FaultSaw z a w (gives e) gfn t_ more behind)
      → FaultSaw z a w (if b then has else gives (exchange_lost fast z gfn t.walk v)) gfn t_ more behind
  exchange_saw fast has gives gfn true step t_ M is ex here K won so lost = so
  exchange_saw fast has gives gfn false step t_ M is ex here K won so lost =
      lost (exchange_lost fast z gfn t.walk v) (saw step (entry_word z gfn t.walk) t.walk.entry M is here (exchange_finds z u s G may step M ex) K
      (eqb-false v t.walk.entry won))

  fast_saw : (gfn : ℕ) (k : SpteKind) → Made (part.Walk gfn) → FaultSaw z a w (fast_walk_next k t.walk.level t.search.logged v) gfn (gone gfn k) more behind
  fast_saw gfn (entry_kind.Table page) M = tt
  fast_saw gfn entry_kind.Leaf M =
      either (one_mark_tells t.walk.level t.search.logged && is_fixable v) Fix (End (NotFast v)) gfn (gone gfn entry_kind.Leaf) (entry_now gfn M) tt
  fast_saw gfn entry_kind.Absent M = tt
  fast_saw gfn entry_kind.Frozen M = tt

  -- ---- the host word

  host_now : (gfn : ℕ) → Made (fault_part Host gfn t) → KnowsHostWord z a w (Some (record { page = page_of t.search.slot gfn; word = v })) more behind
  host_now gfn M = loads_now (fault_part Host gfn t) (place_of (map_of z) area.Host (page_of t.search.slot gfn)) tt M
      (word_on z u s G may (fault_part Host gfn t) M)

  -- A lost exchange saw that the page's word was changed.
  bring_saw : (gfn : ℕ) (b : Bool) → (v == word_looked t.host) ≡ b → Made part.Bring → FaultSaw z a w Bring gfn t ss u
      → FaultSaw z a w (if b then Share else End (Retry false (Entry (host_word_at z t.host) (word_looked t.host) v))) gfn (part_topics part.Bring t v) more
      behind
  bring_saw gfn true is M K = seq_longer _ part.Bring M tt (inr (λ e. absurd (cc e))) K.0
  bring_saw gfn false is M K =
      saw part.Bring (host_word_at z t.host) (word_looked t.host) M tt (word_on z u s G may part.Bring M) (exchange_finds z u s G may part.Bring M tt) K.1
      (eqb-false v (word_looked t.host) is)

  -- ---- each place

  pub own_saw : (p : FaultPlace) (gfn : ℕ) (write : Bool) → Made (fault_part p gfn t) → FaultKnows p z gfn write t → FaultSaw z a w p gfn t ss u
      → NextIs (λ actor. FaultSaw z actor w) a (fault_next p z gfn write t v) gfn (part_topics (fault_part p gfn t) t v) more behind
  own_saw Snapshot gfn write M K S = snapshot_saw gfn t.hold K.1 M
  own_saw (Find true) gfn write M K S =
      find_saw z a w more behind gfn (part_topics part.Slot t v) write t.search.next (searched t.search v) (seq_longer _ part.Slot M tt (inl tt) S)
  own_saw (Find false) gfn write M K S = seq_longer _ part.Slots M tt (inl tt) S
  own_saw Host gfn write M K S =
      let K_ = seq_longer _ (fault_part Host gfn t) M tt (inl tt) S in
      either (write && not (host_allows_write v)) (End HostFault) (if host_present v then Share else Bring) gfn _ tt
      (either (host_present v) Share Bring gfn _ K_ (K_, host_now gfn M))
  own_saw Bring gfn write M K S = bring_saw gfn (v == word_looked t.host) refl M S
  own_saw Share gfn write M K S = share_saw t.hold gfn K.1 M S
  own_saw (Check stage_) gfn write M K S = check_saw stage_ gfn M K.2 S
  own_saw (Walk true) gfn write M K S = walk_saw gfn write (kind_of t.walk.level v) refl M
  own_saw (Walk false) gfn write M K S = tt
  own_saw (Claim begun) gfn write M K S =
      let up = K.2.upper in
      claim_saw gfn (claim_next Pages begun z t.claim v) _ (claim_walk z Pages begun t v _ _ _ (claim_made z Pages begun t v))
      (claim_longer gfn (tries_one begun t.claim) (map_word begun t.claim) M (omega (arith, up)) S)
  own_saw Fill gfn write M K S =
      let from : 1 ≤ t.walk.level = let up = K.1.upper in omega (arith, up) in
      let K_ = entry_longer gfn (fault_part Fill gfn t) M from tt (fill_spares z u s G may gfn (word_below t.walk.level t.walk.entry (words_filled t.owned))
      M.note K.2 from) S in
      either (nat_lt (words_filled t.owned + 1) 512) Fill Role gfn _ K_ K_
  own_saw Role gfn write M K S = let up = K.1.upper in entry_longer gfn (fault_part Role gfn t) M (omega (arith, up)) tt (inr (λ e. absurd (cc e))) S
  own_saw Link gfn write M K S =
      exchange_saw false (Walk true) Give gfn (v == t.walk.entry) (part.Link gfn) _ M tt tt (word_on z u s G may (part.Link gfn) M) S refl tt (λ e E. E)
  own_saw (Give e) gfn write M K S = end_longer z a w ss s (stays_in z u s G may part.Give M tt) e gfn S
  own_saw (Leaf writes) gfn write M K S =
      exchange_saw false (put_next false (writes && t.search.logged)) Unshare gfn (v == t.walk.entry) (part.Leaf gfn writes) _ M tt tt
      (word_on z u s G may (part.Leaf gfn writes) M) S refl (put_saw z a w more behind gfn _ false (writes && t.search.logged)) (λ e E. E)
  own_saw Fix gfn write M K S =
      exchange_saw true (put_next true t.search.logged) End gfn (v == t.walk.entry) (part.Fix gfn) _ M tt tt (word_on z u s G may (part.Fix gfn) M) S refl
      (put_saw z a w more behind gfn _ true t.search.logged) (λ e E. E)
  own_saw (Mark fast) gfn write M K S = over_saw z a w more behind gfn _ fast true
  own_saw (FastFind true) gfn write M K S = fast_find_saw z a w more behind gfn _ t.search.next (searched t.search v)
  own_saw (FastWalk true) gfn write M K S = fast_saw gfn (kind_of t.walk.level v) M
  own_saw (Unshare e) gfn write M K S = end_longer z a w ss s (stays_in z u s G may part.Unshare M tt) e gfn S
  own_saw _ gfn write M K S = tt
