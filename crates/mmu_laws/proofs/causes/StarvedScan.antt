-- A line is answered for want of a page or a frame only where its own claim saw each word of the map with nothing free.
use Rattle.std.proofs.Common.{◌≡◌, ◌≢◌, ◌⊎◌, inl, inr, ◌<◌, ◌≤◌, ℕ, List, [], ◌∷◌, ◌++◌, length, refl, sym, subst, append_assoc}
use Rattle.std.specs.Prelude.{Option, Some, None, slice_get, unwrap_or}
use Rattle.std.proofs.lemmas.List.{append-nil}
use Rattle.std.proofs.lemmas.Option.{slice_get_within}
use Rattle.core_views.specs.declared.kind.Kind.{Kind}
use Rattle.core_views.specs.declared.place.Place.{Place}
use Rattle.core_views.specs.declared.place.Place.TheVariants as place
use Rattle.core_views.specs.declared.sizes.Sizes.{Sizes}
use Rattle.core_views.specs.Held.{Held}
use Rattle.core_views.specs.Sizes.{actors_of}
use Rattle.mmu_core.specs.declared.outcome.Outcome.TheVariants.{Ends}
use Rattle.mmu_core.specs.machine.Enabled.{IsNext, mmu}
use Rattle.mmu_core.specs.invariant.Laws.{IsSound}
use Rattle.mmu_core.specs.invariant.LinesPart.{UnderWay}
use Rattle.mmu_core.specs.machine.Machine.{Legal, May, Step, World, answered, effect, hand_in, run}
use Rattle.mmu_core.specs.invariant.Scans.{EndsWithScan, LoadsMap, StarvedLinesScan}
use Rattle.mmu_core.specs.lines.Forms.{first_place, outcome_at}
use Rattle.mmu_core.specs.machine.Steps.{line_at, place_at, task_of}
use Rattle.part_steps.specs.Tasks.{kind_of_task}
use Rattle.part_steps.specs.TopicSteps.{topics_after}
use Rattle.mmu_core.specs.machine.Turns.{outcome_of}
use Rattle.mmu_core.proofs.machine.Columns.{same_or}
use Rattle.mmu_core.specs.machine.View.{view}
use Rattle.mmu_core.proofs.lines.KnowsKept.{knows_at}
use Rattle.mmu_core.proofs.machine.LineRuns.{run_one_more}
use Rattle.mmu_core.proofs.held.ClaimGoes.{at_behind, at_in, others_hand}
use Rattle.mmu_core.proofs.held.Scanned.{begins_scan, scan_kept, shorter}
use Rattle.mmu_core.proofs.machine.Which.{has_line_is, is_next}
use Rattle.mmu_core.proofs.machine.Worlds.{good_run, good_step}
use Rattle.core_views.specs.declared.trace.Line.{Line}
use Rattle.core_views.specs.Flat.{no_line}
use Rattle.mmu_core.specs.declared.claim.FreeMap.{FreeMap}
use Rattle.mmu_core.specs.orders.ClaimSteps.{claim_over, map_words}
use Rattle.mmu_core.specs.lines.ScanPlaces.{HasScan, answer_without}
use Rattle.mmu_core.proofs.lines.LineClaims.{no_scan_between}
use Rattle.mmu_laws.proofs.causes.ScanPlaces.{IsStarved, own_scans, stands_or_loads, starved_by}

-- ---- what is shown of each list of steps

module _ (z : Sizes) (map : FreeMap) (actor : ℕ) where
  -- Where the actor's line stands at such a place, the steps end with the scan of its claim.
  abbrev ScanAtPlace : World Held → List (Step Kind) → World Held → Type 0
  ScanAtPlace w ss u = HasScan (hand_in mmu u actor).state.place map → EndsWithScan z map actor (at_in map actor u) w ss

  one_more : (w : World Held) (ss : List (Step Kind)) (s : Step Kind) → IsSound z (run mmu w ss) → May mmu (run mmu w ss) s
      → ScanAtPlace w ss (run mmu w ss) → ScanAtPlace w (ss ++ s ∷ []) (effect mmu (run mmu w ss) s)
  one_more w ss s G may S scan = by (same_or actor s.actor)
    where
      u : World Held
      u = run mmu w ss

      of_own : actor ≡ s.actor → HasScan (hand_in mmu u s.actor).state.place map ⊎ LoadsMap z map s.actor 0 s
          → EndsWithScan z map actor (at_in map actor (effect mmu u s)) w (ss ++ s ∷ [])
      of_own own (inl before) = scan_kept z map actor w ss s G may (S (subst (λ i. HasScan (hand_in mmu u i).state.place map) (sym own) before))
      of_own own (inr L) = begins_scan z map actor w ss s G may (subst (λ i. LoadsMap z map i 0 s) (sym own) L)

      by : (actor ≡ s.actor) ⊎ (actor ≢ s.actor) → EndsWithScan z map actor (at_in map actor (effect mmu u s)) w (ss ++ s ∷ [])
      by (inl own) = of_own own (own_scans z map u s G may (subst (λ i. HasScan (hand_in mmu (effect mmu u s) i).state.place map) own scan))
      by (inr apart) = scan_kept z map actor w ss s G may (S (subst (λ (x : Held). HasScan x.state.place map) (others_hand u s actor apart) scan))

  all_more : (w : World Held) (ss ts : List (Step Kind)) → IsSound z (run mmu w ss) → Legal mmu (run mmu w ss) ts → ScanAtPlace w ss (run mmu w ss)
      → ScanAtPlace w (ss ++ ts) (run mmu w (ss ++ ts))
  all_more w ss [] G legal S = subst (λ (l : List (Step Kind)). ScanAtPlace w l (run mmu w l)) (sym (append-nil ss)) S
  all_more w ss (s ∷ ts) G legal S =
      let here : run mmu w (ss ++ s ∷ []) ≡ effect mmu (run mmu w ss) s = run_one_more w ss s in
      subst (λ (l : List (Step Kind)). ScanAtPlace w l (run mmu w l)) (append_assoc ss (s ∷ []) ts)
      (all_more w (ss ++ s ∷ []) ts (subst (IsSound z) (sym here) (good_step z (run mmu w ss) s G legal.0))
      (subst (λ (x : World Held). Legal mmu x ts) (sym here) legal.1)
      (subst (ScanAtPlace w (ss ++ s ∷ [])) (sym here) (one_more w ss s G legal.0 S)))

-- ---- where a line is answered for want of a page or a frame

-- A hand whose step answers a line so has a line left.
has_left : (map : FreeMap) (p : Place) (h : Held) (v : ℕ) → UnderWay p h
    → outcome_at (place_at p h) (line_at p h).command h v ≡ Ends (answer_without map) → length h.answers < length h.lines
has_left map place.Between h v U e = by (slice_get h.lines (length h.answers)) refl e
  where
    by : (o : Option Line) → slice_get h.lines (length h.answers) ≡ o
        → outcome_at (first_place h.state.sizes h.slots (unwrap_or o no_line).command) (unwrap_or o no_line).command h v ≡ Ends (answer_without map)
        → length h.answers < length h.lines
    by None is e = absurd (cc e)
    by (Some line) is e = slice_get_within h.lines (length h.answers) line is
has_left map _ h v U e = U.1

pub legal_parts : (w : World Held) (ss ts : List (Step Kind)) → Legal mmu w (ss ++ ts) → Legal mmu w ss × Legal mmu (run mmu w ss) ts
legal_parts w [] ts legal = (tt, legal)
legal_parts w (s ∷ ss) ts legal = let more = legal_parts (effect mmu w s) ss ts legal.1 in ((legal.0, more.0), more.1)

-- The step that answers a line so ends the scan of its claim.
last_scan : (z : Sizes) (map : FreeMap) (w : World Held) (ss : List (Step Kind)) (s : Step Kind) → IsSound z (run mmu w ss) → May mmu (run mmu w ss) s
    → outcome_of (hand_in mmu (run mmu w ss) s.actor) (answered mmu (run mmu w ss) s.kind) ≡ Ends (answer_without map)
    → ScanAtPlace z map s.actor w ss (run mmu w ss) → EndsWithScan z map s.actor (map_words map z) w (ss ++ s ∷ [])
last_scan z map w ss s G may starved S =
    shorter z map s.actor (at_in map s.actor (effect mmu u s)) (map_words map z) w (ss ++ s ∷ []) past (scan (stands_or_loads z map s h same N is.scans))
  where
    u : World Held
    u = run mmu w ss

    h : Held
    h = hand_in mmu u s.actor

    v : ℕ
    v = answered mmu u s.kind

    there : s.actor < actors_of z
    there = subst (λ n. s.actor < n) G.hands may.there

    same : h.state.sizes ≡ z
    same = (G.holds.lines s.actor there).sizes

    left : length h.answers < length h.lines
    left = has_left map h.state.place h v (G.holds.lines s.actor there).under starved

    N : IsNext h s.kind
    N = is_next h s.kind may.enabled (has_line_is h left)

    is : IsStarved map (place_at h.state.place h) (task_of h) h v
    is =
        starved_by map (place_at h.state.place h) (line_at h.state.place h).command h v starved (knows_at z (view z u) s.actor G.holds there left)
        N.rests.at

    past : map_words map z ≤ at_in map s.actor (effect mmu u s)
    past =
        subst (λ n. map_words map z ≤ n) (sym (at_behind map u s may.there))
        (subst (λ (k : Kind). map_words map z ≤ (claim_over map (topics_after h.state.sizes k h.topics v)).at) (sym N.is)
        (subst (λ (y : Sizes). map_words map y ≤ (claim_over map (topics_after h.state.sizes (kind_of_task h.state.sizes (task_of h)) h.topics v)).at) same
        is.past))

    scan : HasScan h.state.place map ⊎ LoadsMap z map s.actor 0 s → EndsWithScan z map s.actor (at_in map s.actor (effect mmu u s)) w (ss ++ s ∷ [])
    scan (inl before) = scan_kept z map s.actor w ss s G may (S before)
    scan (inr L) = begins_scan z map s.actor w ss s G may L

pub starved_lines_scan : StarvedLinesScan
starved_lines_scan z map w ss s G legal idle starved =
    let parts = legal_parts w ss (s ∷ []) legal in
    last_scan z map w ss s (good_run z w ss G parts.0) parts.1.0 starved
    (all_more z map s.actor w [] ss G parts.0 (λ scan. absurd (no_scan_between map (subst (λ (q : Place). HasScan q map) idle scan))))
