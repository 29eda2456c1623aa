-- A claim of a page or a frame has seen each word of its map that it has gone past, since it began.
use Rattle.std.proofs.Common.{◌≡◌, ◌≢◌, ◌⊎◌, inl, inr, ◌<◌, ℕ, zero, suc, List, [], ◌∷◌, ◌++◌, refl, sym, subst, ap, ◌∙◌, arith, ◌≤◌}
use Rattle.std.specs.Prelude.{All, Bool, true, false, ◌==◌, if◌then◌else◌}
use Rattle.std.proofs.lemmas.Bool.Decides.{nat_tests}
use Rattle.std.proofs.lemmas.List.{append-nil, append_assoc}
use Rattle.std.proofs.lemmas.List.Elements.{All-append}
use Rattle.core_views.specs.declared.kind.Kind.{Kind}
use Rattle.core_views.specs.declared.kind.StepKind.TheVariants as kind
use Rattle.core_views.specs.declared.sizes.Sizes.{Sizes}
use Rattle.core_views.specs.declared.topics.MapClaim.{MapClaim}
use Rattle.core_views.specs.declared.topics.Topics.{Topics}
use Rattle.core_views.specs.Held.{Held, first_held}
use Rattle.core_views.specs.Kinds.{code_of}
use Rattle.core_views.specs.Sizes.{actor_at, actors_of}
use Rattle.core_views.specs.Whole.{lines_of}
use Rattle.core_views.specs.declared.trace.Line.{Line}
use Rattle.spte_words.specs.Areas.{place}
use Rattle.mmu_core.specs.machine.Enabled.{mmu}
use Rattle.mmu_core.specs.invariant.Laws.{IsSound}
use Rattle.mmu_core.specs.machine.Machine.{Legal, May, Step, World, answered, effect, hand_in, run}
use Rattle.mmu_core.specs.invariant.Scans.{ClaimsScanOnce, ClaimsSeeEachWord, EndsWithScan, FindsNoneFree, LoadsMap, OwnsNone, SawNoneFree}
use Rattle.mmu_core.specs.orders.ClaimSteps.{FreeMap, Pages, Frames, claim_over, map_area, map_words}
use Rattle.part_steps.specs.Tasks.{map_of}
use Rattle.part_steps.specs.TopicSteps.{topics_after}
use Rattle.mmu_core.proofs.machine.Columns.{same_or}
use Rattle.mmu_core.proofs.machine.Extend.{run-append}
use Rattle.mmu_core.proofs.machine.LineRuns.{own_hand}
use Rattle.mmu_core.proofs.start.Starts.{start_good}
use Rattle.mmu_core.proofs.start.StartWords.{hand_is}
use Rattle.mmu_core.proofs.machine.Worlds.{good_step}
use Rattle.mmu_core.proofs.orders.ClaimMade.{words_there}
use Rattle.mmu_core.proofs.held.ClaimGoes.{loaded_first, next_topics, at_in, GoesTo, goes, first_owns_none}

-- ---- scans, a step longer

module _ (z : Sizes) (map : FreeMap) (actor : ℕ) where
  saw_longer : (word : ℕ) (w : World Held) (ss ts : List (Step Kind)) → SawNoneFree z map actor word w ss → SawNoneFree z map actor word w (ss ++ ts)
  saw_longer word w [] ts saw = absurd saw
  saw_longer word w (s ∷ ss) ts (inl here) = inl here
  saw_longer word w (s ∷ ss) ts (inr later) = inr (saw_longer word (effect mmu w s) ss ts later)

  saw_last : (word : ℕ) (w : World Held) (ss : List (Step Kind)) (s : Step Kind) → FindsNoneFree z map actor word (run mmu w ss) s
      → SawNoneFree z map actor word w (ss ++ s ∷ [])
  saw_last word w [] s finds = inl finds
  saw_last word w (x ∷ ss) s finds = inr (saw_last word (effect mmu w x) ss s finds)

  -- no load of word 0
  abbrev IsOther : Step Kind → Type 0
  IsOther s = LoadsMap z map actor 0 s → ⊥

  one_other : (s : Step Kind) → IsOther s → All IsOther (s ∷ [])
  one_other s other zero d lt = other
  one_other s other (suc k) d lt = absurd (omega (arith, lt))

  no_others : All IsOther []
  no_others k d lt = absurd (omega (arith, lt))

  longer : (at behind : ℕ) (w : World Held) (ss : List (Step Kind)) (s : Step Kind) → EndsWithScan z map actor at w ss → IsOther s
      → ((word : ℕ) → word < behind → (word < at) ⊎ FindsNoneFree z map actor word (run mmu w ss) s) → EndsWithScan z map actor behind w (ss ++ s ∷ [])
  longer at behind w ss s S other seen = record {
    earlier = S.earlier;
    first = S.first;
    later = S.later ++ s ∷ [];
    are = ap (λ (l : List (Step Kind)). l ++ s ∷ []) S.are ∙ append_assoc S.earlier (S.first ∷ S.later) (s ∷ []);
    begins = S.begins;
    latest = All-append IsOther S.later (s ∷ []) S.latest (one_other s other);
    each = λ word lt. by word (seen word lt);
  }
    where
      u : World Held
      u = run mmu w S.earlier

      here : run mmu w ss ≡ run mmu u (S.first ∷ S.later)
      here = ap (run mmu w) S.are ∙ run-append mmu w S.earlier (S.first ∷ S.later)

      by : (word : ℕ) → (word < at) ⊎ FindsNoneFree z map actor word (run mmu w ss) s → SawNoneFree z map actor word u (S.first ∷ (S.later ++ s ∷ []))
      by word (inl below) = saw_longer word u (S.first ∷ S.later) (s ∷ []) (S.each word below)
      by word (inr last) = saw_last word u (S.first ∷ S.later) s (subst (λ (x : World Held). FindsNoneFree z map actor word x s) here last)

  -- Up to an earlier word too.
  pub shorter : (at before : ℕ) (w : World Held) (ss : List (Step Kind)) → before ≤ at → EndsWithScan z map actor at w ss → EndsWithScan z map actor before w ss
  shorter at before w ss le S = record {
    earlier = S.earlier;
    first = S.first;
    later = S.later;
    are = S.are;
    begins = S.begins;
    latest = S.latest;
    each = λ word lt. S.each word (omega (arith, lt, le));
  }

  -- the actor's load of word 0, or another step
  is_first : (s : Step Kind) → LoadsMap z map actor 0 s ⊎ IsOther s
  is_first s = by (same_or s.actor actor) (same_or s.kind.code (code_of kind.Control)) (same_or s.kind.word (place (map_of z) (map_area map) 0))
    where
      by : (s.actor ≡ actor) ⊎ (s.actor ≢ actor) → (s.kind.code ≡ code_of kind.Control) ⊎ (s.kind.code ≢ code_of kind.Control)
          → (s.kind.word ≡ place (map_of z) (map_area map) 0) ⊎ (s.kind.word ≢ place (map_of z) (map_area map) 0) → LoadsMap z map actor 0 s ⊎ IsOther s
      by (inl a) (inl b) (inl c) = inl (record { by_actor = a; loads = b; at = c })
      by (inr a) b c = inr (λ l. a l.by_actor)
      by (inl a) (inr b) c = inr (λ l. b l.loads)
      by (inl a) (inl b) (inr c) = inr (λ l. c l.at)

  -- A load of word 0 begins a scan.
  pub begins_scan : (w : World Held) (ss : List (Step Kind)) (s : Step Kind) → IsSound z (run mmu w ss) → May mmu (run mmu w ss) s → LoadsMap z map actor 0 s
      → EndsWithScan z map actor (at_in map actor (effect mmu (run mmu w ss) s)) w (ss ++ s ∷ [])
  begins_scan w ss s G may L = scan (v == 0) at_is (λ e. grind (arith, nat_tests))
    where
      u : World Held
      u = run mmu w ss

      h : Held
      h = hand_in mmu u s.actor

      v : ℕ
      v = answered mmu u s.kind

      there : s.actor < actors_of z
      there = subst (λ n. s.actor < n) G.hands may.there

      same : h.state.sizes ≡ z
      same = (G.holds.lines s.actor there).sizes

      words : 0 < map_words map z
      words = words_there map z G.holds.sizes

      at_is : at_in map actor (effect mmu u s) ≡ (if v == 0 then 1 else 0)
      at_is =
          ap (λ i. at_in map i (effect mmu u s)) (sym L.by_actor) ∙ ap (λ (x : Held). (claim_over map x.topics).at) (own_hand u s may.there)
          ∙ ap (λ (t : Topics). (claim_over map t).at) (next_topics h s.kind v)
          ∙ ap (λ (y : Sizes). (claim_over map (topics_after y s.kind h.topics v)).at) same
          ∙ ap (λ (c : MapClaim). c.at) (loaded_first z map s.kind h.topics v L.loads L.at words)

      owns_none : OwnsNone map (hand_in mmu u actor).topics
      owns_none = subst (λ i. OwnsNone map (hand_in mmu u i).topics) L.by_actor (first_owns_none z map h s.kind same words may.enabled L.loads L.at)

      none_before : v ≡ 0 → (word : ℕ) → word < 1 → SawNoneFree z map actor word u (s ∷ [])
      none_before none word lt = inl (record { load = subst (λ j. LoadsMap z map actor j s) (omega (arith, lt)) L; none_free = none; owns_none = owns_none })

      begun_at : (at : ℕ) → ((word : ℕ) → word < at → SawNoneFree z map actor word u (s ∷ [])) → EndsWithScan z map actor at w (ss ++ s ∷ [])
      begun_at at each = record { earlier = ss; first = s; later = []; are = refl; begins = L; latest = no_others; each = each }

      scan : (b : Bool) → at_in map actor (effect mmu u s) ≡ (if b then 1 else 0) → (b ≡ true → v ≡ 0)
          → EndsWithScan z map actor (at_in map actor (effect mmu u s)) w (ss ++ s ∷ [])
      scan true one none = subst (λ n. EndsWithScan z map actor n w (ss ++ s ∷ [])) (sym one) (begun_at 1 (none_before (none refl)))
      scan false zero_ none = subst (λ n. EndsWithScan z map actor n w (ss ++ s ∷ [])) (sym zero_) (begun_at 0 (λ word lt. absurd (omega (arith, lt))))

  -- It goes on with every other step.
  goes_on : (w : World Held) (ss : List (Step Kind)) (s : Step Kind) → IsOther s → EndsWithScan z map actor (at_in map actor (run mmu w ss)) w ss
      → (behind : ℕ) → GoesTo z map actor (run mmu w ss) s (at_in map actor (run mmu w ss)) behind → EndsWithScan z map actor behind w (ss ++ s ∷ [])
  goes_on w ss s other S behind (inl same) = longer (at_in map actor (run mmu w ss)) behind w ss s S other (λ word lt. inl (omega (arith, same, lt)))
  goes_on w ss s other S behind (inr (inl over)) = longer (at_in map actor (run mmu w ss)) behind w ss s S other (λ word lt. absurd (omega (arith, over, lt)))
  goes_on w ss s other S behind (inr (inr next_)) = longer at behind w ss s S other (λ word lt. seen word lt (same_or word at))
    where
      at : ℕ
      at = at_in map actor (run mmu w ss)

      seen : (word : ℕ) → word < behind → (word ≡ at) ⊎ (word ≢ at) → (word < at) ⊎ FindsNoneFree z map actor word (run mmu w ss) s
      seen word lt (inl e) = inr (subst (λ j. FindsNoneFree z map actor j (run mmu w ss) s) (sym e) next_.1)
      seen word lt (inr ne) = let b = next_.0 in inl (omega (arith, lt, ne, b))

  -- Once begun, the scan is there after each step, or a later one.
  pub scan_kept : (w : World Held) (ss : List (Step Kind)) (s : Step Kind) → IsSound z (run mmu w ss) → May mmu (run mmu w ss) s
      → EndsWithScan z map actor (at_in map actor (run mmu w ss)) w ss
      → EndsWithScan z map actor (at_in map actor (effect mmu (run mmu w ss) s)) w (ss ++ s ∷ [])
  scan_kept w ss s G may S = by (is_first s)
    where
      by : LoadsMap z map actor 0 s ⊎ IsOther s → EndsWithScan z map actor (at_in map actor (effect mmu (run mmu w ss) s)) w (ss ++ s ∷ [])
      by (inl L) = begins_scan w ss s G may L
      by (inr other) = goes_on w ss s other S (at_in map actor (effect mmu (run mmu w ss) s)) (goes z map actor (run mmu w ss) s G may other)

  -- what is shown of each list of steps
  abbrev Scans : World Held → List (Step Kind) → World Held → Type 0
  Scans w ss u = 0 < at_in map actor u → EndsWithScan z map actor (at_in map actor u) w ss

  -- A claim that is past word 0 was so before the step, where this is no load of word 0.
  was_past : (u : World Held) (s : Step Kind) (at behind : ℕ) → IsOther s → GoesTo z map actor u s at behind → 0 < behind → 0 < at
  was_past u s at behind other (inl same) past = omega (arith, same, past)
  was_past u s at behind other (inr (inl over)) past = absurd (omega (arith, over, past))
  was_past u s at behind other (inr (inr next_)) past = by (same_or at 0)
    where
      by : (at ≡ 0) ⊎ (at ≢ 0) → 0 < at
      by (inl first) = absurd (other (subst (λ j. LoadsMap z map actor j s) first next_.1.load))
      by (inr more) = omega (arith, more)

  one_more : (w : World Held) (ss : List (Step Kind)) (s : Step Kind) → IsSound z (run mmu w ss) → May mmu (run mmu w ss) s
      → Scans w ss (run mmu w ss) → Scans w (ss ++ s ∷ []) (effect mmu (run mmu w ss) s)
  one_more w ss s G may S past = by (is_first s)
    where
      by : LoadsMap z map actor 0 s ⊎ IsOther s → EndsWithScan z map actor (at_in map actor (effect mmu (run mmu w ss) s)) w (ss ++ s ∷ [])
      by (inl L) = begins_scan w ss s G may L
      by (inr other) =
          let to : GoesTo z map actor (run mmu w ss) s (at_in map actor (run mmu w ss)) (at_in map actor (effect mmu (run mmu w ss) s)) =
          goes z map actor (run mmu w ss) s G may other in
          goes_on w ss s other (S (was_past (run mmu w ss) s (at_in map actor (run mmu w ss)) (at_in map actor (effect mmu (run mmu w ss) s)) other to past))
          (at_in map actor (effect mmu (run mmu w ss) s)) to

  all_more : (w : World Held) (ss ts : List (Step Kind)) → IsSound z (run mmu w ss) → Legal mmu (run mmu w ss) ts → Scans w ss (run mmu w ss)
      → Scans w (ss ++ ts) (run mmu w (ss ++ ts))
  all_more w ss [] G legal S = subst (λ (l : List (Step Kind)). Scans w l (run mmu w l)) (sym (append-nil ss)) S
  all_more w ss (s ∷ ts) G legal S =
      let here : run mmu w (ss ++ s ∷ []) ≡ effect mmu (run mmu w ss) s = run-append mmu w ss (s ∷ []) in
      subst (λ (l : List (Step Kind)). Scans w l (run mmu w l)) (append_assoc ss (s ∷ []) ts)
      (all_more w (ss ++ s ∷ []) ts (subst (IsSound z) (sym here) (good_step z (run mmu w ss) s G legal.0))
      (subst (λ (x : World Held). Legal mmu x ts) (sym here) legal.1)
      (subst (Scans w (ss ++ s ∷ [])) (sym here) (one_more w ss s G legal.0 S)))

-- No claim has begun at the start.
at_start : (z : Sizes) (map : FreeMap) (actor : ℕ) (lines : List Line)
    → (claim_over map (first_held z (actor_at z actor) (lines_of (actor_at z actor) lines)).topics).at ≡ 0
at_start z Pages actor lines = refl
at_start z Frames actor lines = refl

-- A claim has seen each word of the map that it has gone past, since it began.
pub claims_scan_once : ClaimsScanOnce
claims_scan_once z lines w ss start legal map actor there =
    let first : at_in map actor w ≡ 0 = ap (λ (h : Held). (claim_over map h.topics).at) (hand_is z lines w actor start there) ∙ at_start z map actor lines in
    all_more z map actor w [] ss (start_good z lines w start) legal (λ some. absurd (omega (arith, first, some)))

saw_behind : (z : Sizes) (map : FreeMap) (actor word : ℕ) (w : World Held) (ss ts : List (Step Kind)) → SawNoneFree z map actor word (run mmu w ss) ts
    → SawNoneFree z map actor word w (ss ++ ts)
saw_behind z map actor word w [] ts saw = saw
saw_behind z map actor word w (s ∷ ss) ts saw = inr (saw_behind z map actor word (effect mmu w s) ss ts saw)

pub claims_see_each_word : ClaimsSeeEachWord
claims_see_each_word z lines w ss start legal map actor there word past =
    let S = claims_scan_once z lines w ss start legal map actor there (omega (arith, past)) in
    subst (SawNoneFree z map actor word w) (sym S.are) (saw_behind z map actor word w S.earlier (S.first ∷ S.later) (S.each word past))
