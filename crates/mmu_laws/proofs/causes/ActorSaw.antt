-- What each actor has seen that waits for another one, in every list of steps from a world in which it has seen nothing, whatever it does: of the lock the
-- writer that it found, of the open invalidations their count, and of each map of what is free the word that its claim has come to.
use Rattle.part_steps.specs.StayTopics.{has_lock}
use Rattle.std.proofs.Common.{◌≡◌, ◌≢◌, ◌⊎◌, inl, inr, ◌<◌, ◌≤◌, ℕ, List, [], ◌∷◌, ◌++◌, refl, sym, subst, ap, ◌∙◌, arith, nat_lt}
use Rattle.std.specs.Prelude.{Bool, true, false, ◌&&◌, ◌==◌, if◌then◌else◌}
use Rattle.core_views.specs.declared.kind.Kind.{Kind}
use Rattle.core_views.specs.declared.sizes.Sizes.{Sizes}
use Rattle.core_views.specs.declared.topics.Checked.{Checked}
use Rattle.core_views.specs.declared.topics.Checked.TheVariants as checked
use Rattle.core_views.specs.declared.topics.Hold.TheVariants.{Loose, Shared, Owing, Exclusive}
use Rattle.core_views.specs.declared.topics.Topics.{Topics}
use Rattle.core_views.specs.Held.{Held}
use Rattle.spte_words.specs.declared.area.Area.{Area}
use Rattle.spte_words.specs.declared.area.Area.TheVariants as area
use Rattle.spte_words.specs.Areas.{number_of, place, size_of}
use Rattle.spte_words.proofs.Places.{areas_apart, place_at, places_apart}
use Rattle.part_steps.specs.declared.part_step.PartStep.{PartStep}
use Rattle.part_steps.specs.declared.part_step.PartStep.TheVariants as part
use Rattle.part_steps.specs.PartTasks.{own_index, part_task}
use Rattle.part_steps.specs.PartTopics.{part_topics}
use Rattle.part_steps.specs.Tasks.{map_of}
use Rattle.part_steps.specs.PageTopics.{is_won}
use Rattle.part_steps.specs.ControlTopics.{end_known, start_known}
use Rattle.part_steps.specs.ControlBits.{has_writer}
use Rattle.part_steps.specs.TopicSteps.{topics_after}
use Rattle.mmu_laws.specs.causes.Causes.{Finds}
use Rattle.mmu_core.specs.declared.claim.FreeMap.{FreeMap}
use Rattle.mmu_core.specs.declared.claim.FreeMap.TheVariants.{Frames, Pages}
use Rattle.mmu_core.specs.orders.ClaimSteps.{claim_over, map_area, map_words}
use Rattle.mmu_core.specs.machine.Enabled.{mmu}
use Rattle.mmu_core.specs.invariant.Laws.{IsSound}
use Rattle.mmu_core.specs.machine.Machine.{Legal, May, Step, World, answered, effect, hand_in, run}
use Rattle.mmu_core.specs.lines.PartWaits.{is_owing, saw_open, own_open, was_counted}
use Rattle.mmu_laws.specs.causes.Waits.{FindsWriter, FoundCount, FoundWriter, IsOffLockAndCount, IsOffWord, LoadsCount, SawNothing, count_word}
use Rattle.mmu_laws.specs.causes.Waits.{lock_word, word_of_map}
use Rattle.mmu_laws.proofs.causes.Changes.{knows_longer, made_longer, made_now, of_each_list}
use Rattle.mmu_laws.proofs.causes.ClaimSeen.{KnowsWord, mapped_low, mapped_saw, tried_low, tried_saw, word_inside}
use Rattle.mmu_core.proofs.machine.Columns.{same_or}
use Rattle.mmu_laws.proofs.causes.FindsOthers.{writer_found}
use Rattle.mmu_core.proofs.machine.LineParts.{IsPartKind, IsQuiet, step_kind}
use Rattle.mmu_core.proofs.machine.LineRuns.{own_hand}
use Rattle.mmu_laws.proofs.causes.MadeSteps.{Makes, load_finds, made_topics, own_rests, own_sizes, word_on}
use Rattle.mmu_core.proofs.machine.NextTopics.{next_topics}
use Rattle.mmu_core.proofs.lines.NotOpen.{range_not_open, seq_not_open, start_not_open}
use Rattle.mmu_core.proofs.words.PartFits.{part_within_by}
use Rattle.mmu_core.proofs.held.ClaimGoes.{others_hand}

pub record ActorSaw (z : Sizes) (w : World Held) (actor : ℕ) (t : Topics) (ss : List (Step Kind)) (u : World Held) : Type 0 where
  pub owing : (word : ℕ) → t.hold ≡ Owing word → FoundWriter z actor word w ss
  pub counted : saw_open t.invalidations ≡ true → FoundCount z actor t.hold t.invalidations.count w ss
  pub claim : (map : FreeMap) → 0 < (claim_over map t).seen → KnowsWord z w actor map (claim_over map t).at (claim_over map t).seen ss u
  pub alone : (map : FreeMap) → 0 < (claim_over map t).seen → (claim_over map t).at < map_words map z

-- What is counted after a store of the range was counted before it.
start_counted : (c : Checked) (b : Bool) → (was_counted (start_known c) && b) ≡ true → (was_counted c && b) ≡ true
start_counted checked.Count b is = absurd (cc is)
start_counted _ b is = is

end_counted : (c : Checked) (b : Bool) → (was_counted (end_known c) && b) ≡ true → (was_counted c && b) ≡ true
end_counted checked.Start b is = absurd (cc is)
end_counted _ b is = is

module _ (z : Sizes) (w : World Held) (ss : List (Step Kind)) (s : Step Kind) (G : IsSound z (run mmu w ss)) (may : May mmu (run mmu w ss) s) where
  abbrev a : ℕ
  a = s.actor

  abbrev u : World Held
  u = run mmu w ss

  abbrev h : Held
  h = hand_in mmu u s.actor

  abbrev t : Topics
  t = h.topics

  abbrev v : ℕ
  v = answered mmu u s.kind

  abbrev Made : PartStep → Type 0
  Made step = Makes h s step

  abbrev SeesHere : Topics → Type 0
  SeesHere t_ = ActorSaw z w a t_ ss u

  abbrev Behind : List (Step Kind)
  Behind = ss ++ s ∷ []

  -- ---- a step on another area

  off_word : (step : PartStep) (M : Made step) (b : Area) (i : ℕ) → i < size_of (map_of z) b → ((part_task step (own_index h) t M.note).area ≡ b → ⊥)
      → s.kind.word ≢ place (map_of z) b i
  off_word step M b i inside apart at =
      let same : h.state.sizes ≡ z = own_sizes z u s G may in
      let here : (part_task step (own_index h) t M.note).index < size_of (map_of z) (part_task step (own_index h) t M.note).area =
      subst (λ (y : Sizes). (part_task step (own_index h) t M.note).index < size_of (map_of y) (part_task step (own_index h) t M.note).area) same
      (part_within_by step h M.note M.needs (own_rests z u s G may)) in
      apart (places_apart (map_of z) (part_task step (own_index h) t M.note).area b (part_task step (own_index h) t M.note).index i here inside
      (sym (word_on z u s G may step M) ∙ at)).0

  lock_off : (step : PartStep) (M : Made step) → ((part_task step (own_index h) t M.note).area ≡ area.Lock → ⊥) → IsOffWord a (lock_word z) s
  lock_off step M apart mine = off_word step M area.Lock 0 (omega arith) apart

  count_off : (step : PartStep) (M : Made step) → ((part_task step (own_index h) t M.note).area ≡ area.Count → ⊥) → IsOffWord a (count_word z) s
  count_off step M apart mine = off_word step M area.Count 0 (omega arith) apart

  lock_longer : (step : PartStep) (M : Made step) → ((part_task step (own_index h) t M.note).area ≡ area.Lock → ⊥) → SeesHere t → (word : ℕ)
      → t.hold ≡ Owing word → FoundWriter z a word w Behind
  lock_longer step M apart S word is = made_longer (FindsWriter z a word) (IsOffWord a (lock_word z)) w ss s (lock_off step M apart) (S.owing word is)

  count_longer : (step : PartStep) (M : Made step) → ((part_task step (own_index h) t M.note).area ≡ area.Lock → ⊥)
      → ((part_task step (own_index h) t M.note).area ≡ area.Count → ⊥) → SeesHere t → saw_open t.invalidations ≡ true
      → FoundCount z a t.hold t.invalidations.count w Behind
  count_longer step M no_lock no_count S is =
      made_longer (LoadsCount z a t.hold t.invalidations.count) (IsOffLockAndCount z a) w ss s (lock_off step M no_lock, count_off step M no_count)
      (S.counted is)

  abbrev ClaimSaw : FreeMap → ℕ → ℕ → Type 0
  ClaimSaw map at seen = KnowsWord z w a map at seen Behind (effect mmu u s)

  claim_longer : (map : FreeMap) (step : PartStep) (M : Made step) → ((part_task step (own_index h) t M.note).area ≡ map_area map → ⊥) → SeesHere t
      → 0 < (claim_over map t).seen → ClaimSaw map (claim_over map t).at (claim_over map t).seen
  claim_longer map step M apart S some =
      let word : ℕ = word_of_map z map (claim_over map t).at in
      let off : s.kind.word ≢ word = off_word step M (map_area map) (claim_over map t).at (word_inside z map (claim_over map t).at (S.alone map some)) apart in
      knows_longer (IsOffWord a word) a word (claim_over map t).seen w ss s may (λ mine. off) (λ mine at. absurd (off at)) (S.claim map some)

  -- ---- what an actor has seen after a step of a part

  shared_saw : (found_one : Bool) → has_writer v ≡ found_one → Made part.Share → (word : ℕ) → (if found_one then Owing v else Shared) ≡ Owing word
      → FoundWriter z a word w Behind
  shared_saw true tells M word is =
      let same : v ≡ word = cc is in
      subst (λ m. FoundWriter z a m w Behind) same (made_now (FindsWriter z a v) (IsOffWord a (lock_word z)) w ss s (writer_found z u s G may M tells))
  shared_saw false tells M word is = absurd (cc is)

  excluded_saw : (free : Bool) → t.hold ≡ Loose → (word : ℕ) → (if free then Exclusive else t.hold) ≡ Owing word → FoundWriter z a word w Behind
  excluded_saw true loose word is = absurd (cc is)
  excluded_saw false loose word is = absurd (cc (loose, is))

  owing_saw : (step : PartStep) → Made step → SeesHere t → (word : ℕ) → (part_topics step t v).hold ≡ Owing word → FoundWriter z a word w Behind
  owing_saw part.Share M S word is = shared_saw (has_writer v) refl M word is
  owing_saw part.Exclude M S word is = excluded_saw (v == 0) M.needs word is
  owing_saw part.Unshare M S word is = absurd (cc is)
  owing_saw part.Release M S word is = absurd (cc is)
  owing_saw step M S word is = lock_longer step M (λ e. cc e) S word is

  counted_saw : (step : PartStep) → Made step → SeesHere t → saw_open (part_topics step t v).invalidations ≡ true
      → FoundCount z a (part_topics step t v).hold (part_topics step t v).invalidations.count w Behind
  counted_saw part.Count M S is =
      let finds : Finds a (count_word z) v u s =
      record { by_actor = refl; on = word_on z u s G may part.Count M; finds = load_finds z u s G may part.Count M tt } in
      made_now (LoadsCount z a t.hold v) (IsOffLockAndCount z a) w ss s (record { loads = ap (λ (k : Kind). k.code) M.is; finds = finds; under = refl })
  counted_saw part.RangeStart M S is =
      let none = start_not_open t.invalidations.checked (nat_lt (own_open t.invalidations) t.invalidations.count) in absurd (cc (none, is))
  counted_saw part.RangeEnd M S is =
      let none = range_not_open t.invalidations.checked (nat_lt (own_open t.invalidations) t.invalidations.count) in absurd (cc (none, is))
  counted_saw part.Seq M S is =
      let none =
      seq_not_open (has_lock t.hold) t.invalidations.count t.invalidations.checked (nat_lt (own_open t.invalidations) t.invalidations.count) in
      absurd (cc (none, is))
  counted_saw (part.SetStart first gfn) M S is =
      count_longer (part.SetStart first gfn) M (λ e. cc e) (λ e. cc e) S
      (start_counted t.invalidations.checked (nat_lt (own_open t.invalidations) t.invalidations.count) is)
  counted_saw (part.SetEnd last gfn) M S is =
      count_longer (part.SetEnd last gfn) M (λ e. cc e) (λ e. cc e) S
      (end_counted t.invalidations.checked (nat_lt (own_open t.invalidations) t.invalidations.count) is)
  counted_saw (part.SetCount count) M S is = absurd (cc is)
  counted_saw (part.SetSeq seq) M S is = absurd (cc is)
  counted_saw part.Enter M S is = absurd (cc is)
  counted_saw part.Leave M S is = absurd (cc is)
  counted_saw part.Begin M S is = absurd (cc is)
  counted_saw part.End M S is = absurd (cc is)
  counted_saw part.Share M S is = absurd (cc is)
  counted_saw part.Unshare M S is = absurd (cc is)
  counted_saw part.Exclude M S is = absurd (cc is)
  counted_saw part.Release M S is = absurd (cc is)
  counted_saw step M S is = count_longer step M (λ e. cc e) (λ e. cc e) S is

  claim_saw : (map : FreeMap) (step : PartStep) → Made step → SeesHere t → 0 < (claim_over map (part_topics step t v)).seen
      → ClaimSaw map (claim_over map (part_topics step t v)).at (claim_over map (part_topics step t v)).seen
  claim_saw Pages (part.Map word) M S some = mapped_saw z w ss s G may Pages (v == 0) word refl M some
  claim_saw Pages part.Claim M S some = tried_saw z w ss s G may Pages (is_won t.claim v) refl M some
  claim_saw Pages part.Give M S some = absurd (omega (arith, some))
  claim_saw Pages part.GiveOld M S some = absurd (omega (arith, some))
  claim_saw Pages step M S some = claim_longer Pages step M (λ e. cc e) S some
  claim_saw Frames (part.FrameMap word) M S some = mapped_saw z w ss s G may Frames (v == 0) word refl M some
  claim_saw Frames part.Frame M S some = tried_saw z w ss s G may Frames (is_won t.frames.claim v) refl M some
  claim_saw Frames part.GiveFrame M S some = absurd (omega (arith, some))
  claim_saw Frames step M S some = claim_longer Frames step M (λ e. cc e) S some

  low_saw : (map : FreeMap) (step : PartStep) → Made step → SeesHere t → 0 < (claim_over map (part_topics step t v)).seen
      → (claim_over map (part_topics step t v)).at < map_words map z
  low_saw Pages (part.Map word) M S some = mapped_low z w ss s G may Pages (v == 0) word refl M some
  low_saw Pages part.Claim M S some = tried_low z w ss s G may Pages (is_won t.claim v) M some
  low_saw Pages part.Give M S some = absurd (omega (arith, some))
  low_saw Pages part.GiveOld M S some = absurd (omega (arith, some))
  low_saw Pages _ M S some = S.alone Pages some
  low_saw Frames (part.FrameMap word) M S some = mapped_low z w ss s G may Frames (v == 0) word refl M some
  low_saw Frames part.Frame M S some = tried_low z w ss s G may Frames (is_won t.frames.claim v) M some
  low_saw Frames part.GiveFrame M S some = absurd (omega (arith, some))
  low_saw Frames _ M S some = S.alone Frames some

  abbrev SeesBehind : Topics → Type 0
  SeesBehind t_ = ActorSaw z w a t_ Behind (effect mmu u s)

  part_saw : (step : PartStep) → Made step → SeesHere t → SeesBehind (part_topics step t v)
  part_saw step M S = record {
    owing = owing_saw step M S;
    counted = counted_saw step M S;
    claim = λ map. claim_saw map step M S;
    alone = λ map. low_saw map step M S;
  }

  -- ---- and after a touch, and another actor's step

  far : (b : Area) (i : ℕ) → number_of b < number_of area.Content → i < size_of (map_of z) b → place (map_of z) area.Content 0 ≤ s.kind.word
      → s.kind.word ≢ place (map_of z) b i
  far b i before inside from at =
      let ends = areas_apart (map_of z) b area.Content before in
      let here = place_at (map_of z) b i in
      let last = place_at (map_of z) b (size_of (map_of z) b) in
      omega (arith, ends, here, last, inside, from, at)

  map_far : (map : FreeMap) (i : ℕ) → i < map_words map z → place (map_of z) area.Content 0 ≤ s.kind.word → s.kind.word ≢ word_of_map z map i
  map_far Pages i low from = far area.PoolMap i (omega arith) low from
  map_far Frames i low from = far area.FrameMap i (omega arith) low from

  same_saw : (actor : ℕ) (t_ : Topics) → ((word : ℕ) → word ≡ lock_word z → IsOffWord actor word s) → IsOffWord actor (count_word z) s
      → ((map : FreeMap) (i : ℕ) → i < map_words map z → IsOffWord actor (word_of_map z map i) s)
      → ActorSaw z w actor t_ ss u → ActorSaw z w actor t_ Behind (effect mmu u s)
  same_saw actor t_ lock count off S = record {
    owing = λ word is. made_longer (FindsWriter z actor word) (IsOffWord actor (lock_word z)) w ss s (lock (lock_word z) refl) (S.owing word is);
    counted =
        λ is. made_longer (LoadsCount z actor t_.hold t_.invalidations.count) (IsOffLockAndCount z actor) w ss s (lock (lock_word z) refl, count)
        (S.counted is);
    claim = λ map some. let word : ℕ = word_of_map z map (claim_over map t_).at in
        let away : IsOffWord actor word s = off map (claim_over map t_).at (S.alone map some) in
        knows_longer (IsOffWord actor word) actor word (claim_over map t_).seen w ss s may away (λ mine at. absurd (away mine at)) (S.claim map some);
    alone = S.alone;
  }

  others_saw : (actor : ℕ) (t_ : Topics) → s.actor ≢ actor → ActorSaw z w actor t_ ss u → ActorSaw z w actor t_ Behind (effect mmu u s)
  others_saw actor t_ other S = same_saw actor t_ (λ word is mine. absurd (other mine)) (λ mine. absurd (other mine)) (λ map i low mine. absurd (other mine)) S

  touch_saw : place (map_of z) area.Content 0 ≤ s.kind.word → SeesHere t → SeesBehind t
  touch_saw from S =
      same_saw a t (λ word is mine at. far area.Lock 0 (omega arith) (omega arith) from (at ∙ is))
      (λ mine. far area.Count 0 (omega arith) (omega arith) from) (λ map i low mine. map_far map i low from) S

  -- ---- after each step

  abbrev HandSaw : ℕ → List (Step Kind) → World Held → Type 0
  HandSaw actor ts x = ActorSaw z w actor (hand_in mmu x actor).topics ts x

  own_saw : HandSaw a ss u → HandSaw a Behind (effect mmu u s)
  own_saw S = by (step_kind h s.kind may.enabled)
    where
      behind : (hand_in mmu (effect mmu u s) a).topics ≡ topics_after h.state.sizes s.kind t v
      behind = ap (λ (x : Held). x.topics) (own_hand u s may.there) ∙ next_topics h s.kind v

      by : IsPartKind h s.kind ⊎ IsQuiet h.state.sizes t s.kind → HandSaw a Behind (effect mmu u s)
      by (inl N) =
          let M : Made N.step = record { note = N.note; is = N.is; needs = N.needs } in
          subst SeesBehind (sym (behind ∙ made_topics h s v N.step M)) (part_saw N.step M S)
      by (inr Q) =
          subst SeesBehind (sym (behind ∙ Q.topics v))
          (touch_saw (subst (λ (y : Sizes). place (map_of y) area.Content 0 ≤ s.kind.word) (own_sizes z u s G may) Q.content) S)

  saw_more : (actor : ℕ) → HandSaw actor ss u → HandSaw actor Behind (effect mmu u s)
  saw_more actor S = by (same_or actor s.actor)
    where
      by : (actor ≡ s.actor) ⊎ (actor ≢ s.actor) → HandSaw actor Behind (effect mmu u s)
      by (inl own) = subst (λ i. HandSaw i Behind (effect mmu u s)) (sym own) (own_saw (subst (λ i. HandSaw i ss u) own S))
      by (inr apart) =
          subst (λ (x : Held). ActorSaw z w actor x.topics Behind (effect mmu u s)) (sym (others_hand u s actor apart))
          (others_saw actor (hand_in mmu u actor).topics (λ e. apart (sym e)) S)

first_saw : (z : Sizes) (w : World Held) (actor : ℕ) (t_ : Topics) → SawNothing t_ → ActorSaw z w actor t_ [] w
first_saw z w actor t_ N = record {
  owing = λ word is. let owes = ap is_owing is in absurd (cc (N.owes, owes));
  counted = λ is. absurd (cc (N.closed, is));
  claim = λ map some. let none = N.claims map in absurd (omega (arith, some, none));
  alone = λ map some. let none = N.claims map in absurd (omega (arith, some, none));
}

-- From every sound world in which the actor has seen nothing: what it has seen after every list of steps.
pub actor_saw : (z : Sizes) (w : World Held) (ss : List (Step Kind)) (actor : ℕ) → IsSound z w → Legal mmu w ss → SawNothing (hand_in mmu w actor).topics
    → ActorSaw z w actor (hand_in mmu (run mmu w ss) actor).topics ss (run mmu w ss)
actor_saw z w ss actor G legal N =
    of_each_list z w (λ (ts : List (Step Kind)) (x : World Held). ActorSaw z w actor (hand_in mmu x actor).topics ts x)
    (λ ts s sound may S. saw_more z w ts s sound may actor S) ss G legal
    (first_saw z w actor (hand_in mmu w actor).topics N)
