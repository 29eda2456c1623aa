-- Between its lines an actor has seen nothing that a step waits for.
use Rattle.std.proofs.Common.{◌≡◌, ◌≢◌, ◌⊎◌, inl, inr, ◌+◌, ◌<◌, ℕ, List, refl, sym, subst, ap, ◌∙◌, arith, ◌≤◌}
use Rattle.std.specs.Prelude.{Bool, true, false, ◌==◌, if◌then◌else◌, Option, Some, None}
use Rattle.std.proofs.lemmas.Bool.Decides.{nat_tests}
use Rattle.core_views.specs.declared.kind.Kind.{Kind}
use Rattle.core_views.specs.declared.place.Place.{Place}
use Rattle.core_views.specs.declared.place.Place.TheVariants as place
use Rattle.core_views.specs.declared.sizes.Sizes.{Sizes}
use Rattle.core_views.specs.declared.topics.MapClaim.{MapClaim}
use Rattle.core_views.specs.declared.topics.Topics.{Topics}
use Rattle.core_views.specs.declared.trace.Command.{Command}
use Rattle.core_views.specs.declared.trace.Line.{Line}
use Rattle.core_views.specs.Held.{Held, first_topics}
use Rattle.core_views.specs.Sizes.{actors_of}
use Rattle.core_views.specs.SlotSets.{MemorySlots}
use Rattle.spte_words.specs.declared.area.Area.{Area}
use Rattle.part_steps.specs.declared.part_step.PartStep.{PartStep}
use Rattle.part_steps.specs.PartSteps.{PartNeeds}
use Rattle.part_steps.specs.PartTopics.{part_topics}
use Rattle.mmu_core.specs.machine.Enabled.{mmu}
use Rattle.mmu_core.specs.declared.claim.ClaimNext.{ClaimNext}
use Rattle.mmu_core.specs.declared.claim.ClaimNext.TheVariants as claims
use Rattle.mmu_core.specs.declared.claim.FreeMap.{FreeMap}
use Rattle.mmu_core.specs.declared.claim.FreeMap.TheVariants.{Frames, Pages}
use Rattle.mmu_core.specs.orders.ClaimSteps.{claim_next, claim_over, claim_part, load_part, map_word, map_words, word_after_load}
use Rattle.mmu_core.proofs.orders.ClaimMade.{ClaimMade, claim_made, claim_seen, won_over}
use Rattle.mmu_core.proofs.orders.ClaimMade as made
use Rattle.mmu_core.specs.lines.Forms.{KnowsPart, outcome_at, part_at, RestsAt}
use Rattle.mmu_core.specs.invariant.Laws.{IsSound}
use Rattle.mmu_core.specs.machine.Machine.{Legal, May, Step, World, effect, hand_in, run}
use Rattle.mmu_core.specs.machine.Outcomes.{place_after}
use Rattle.mmu_core.specs.lines.PartWaits.{is_owing, saw_open}
use Rattle.mmu_core.specs.machine.Steps.{has_line, line_at, next, place_at, standing, task_at}
use Rattle.mmu_core.specs.machine.View.{answer_in, word_in}
use Rattle.mmu_core.specs.lines.ScanPlaces.{claim_at}
use Rattle.mmu_core.specs.declared.outcome.Outcome.{Outcome}
use Rattle.part_steps.specs.StayTopics.{has_lock}
use Rattle.mmu_core.proofs.lines.ByStep.{step_needs}
use Rattle.mmu_core.proofs.lines.ClaimPlaces.{claims_or_not}
use Rattle.mmu_core.proofs.forms.access.FaultScans.{frame_maps_not, maps, page_maps_not}
use Rattle.mmu_core.proofs.lines.LineClaims.{Claims, ClaimsNot, LeadsFromClaim, maps_by, no_claim_between, one_claim}
use Rattle.mmu_core.proofs.machine.PartStepping.{behind_part}
use Rattle.mmu_core.proofs.lines.NotOpen.{closed_without, unseen_on}
use Rattle.mmu_core.proofs.lines.StepIn.{topics_of_step}
use Rattle.mmu_laws.specs.causes.Waits.{BetweenLinesSawNothing, SawNothing, StartsSawNothing}
use Rattle.mmu_core.specs.machine.Worlds.{IsStart}
use Rattle.mmu_laws.proofs.alone.GoesAlone.{topics_at}
use Rattle.mmu_laws.proofs.causes.Changes.{of_each_list}
use Rattle.mmu_core.proofs.machine.Columns.{same_or}
use Rattle.mmu_core.proofs.machine.LineRuns.{own_hand}
use Rattle.mmu_core.proofs.held.ClaimGoes.{others_hand}
use Rattle.mmu_core.proofs.start.StartWords.{hand_is}
use Rattle.mmu_core.proofs.start.Starts.{reached_good, start_good}
use Rattle.mmu_laws.proofs.turns.TurnsNearer.{hand_behind}
use Rattle.mmu_core.proofs.machine.Which.{is_next, next_of_part}
use Rattle.mmu_core.proofs.machine.Worlds.{Takes, takes_line}

-- But at its claim the line has seen nothing free; and without the lock the actor has seen no invalidation of others open.
pub record SawNothingAt (p : Place) (t : Topics) : Type 0 where
  pub claims : (map : FreeMap) → claim_at map p ≡ None → (claim_over map t).seen ≡ 0
  pub closed : has_lock t.hold ≡ false → saw_open t.invalidations ≡ false

none_where : (q : Place) (y : Sizes) (slots : MemorySlots) (c : Command) (t : Topics) → SawNothingAt q t → SawNothingAt (standing q y slots c) t
none_where place.Between y slots c t S = record { claims = λ map is. S.claims map (no_claim_between map); closed = S.closed }
none_where _ y slots c t S = S

-- ---- the claim

-- After a load with which no word of the map is left, it was found 0.
last_word : (none : Bool) (word n v : ℕ) → (v == 0) ≡ none → n ≤ word + (if none then 1 else 0) → word < n → v ≡ 0
last_word true word n v zero_ over inside = grind (arith, nat_tests)
last_word false word n v zero_ over inside = absurd (omega (arith, over, inside))

-- Where a claim ends with its step, it has seen nothing free: its try was won, or the last word of the map was found 0.
won_unseen : (map : FreeMap) (t : Topics) → (claim_over map (won_over map t)).seen ≡ 0
won_unseen Pages t = refl
won_unseen Frames t = refl

over_unseen : (z : Sizes) (map : FreeMap) (begun : Bool) (t : Topics) (v : ℕ) (step : PartStep) (next : ClaimNext) (u : Topics)
    → ClaimMade z map begun t v step next u → ((word : ℕ) → step ≡ load_part map word → word < map_words map z) → next ≢ claims.Goes
    → (claim_over map u).seen ≡ 0
over_unseen z map begun t v _ _ _ (made.Won tries b some is) low over = won_unseen map t
over_unseen z map begun t v _ _ _ (made.SawNone not_ le) low over =
    let word : ℕ = map_word begun (claim_over map t) in
    ap (λ (c : MapClaim). c.seen) (claim_seen map t (word_after_load begun (claim_over map t) v) v)
    ∙ last_word (v == 0) word (map_words map z) v refl le (low word refl)
over_unseen z map begun t v _ _ _ (made.Lost tries b some is) low over = absurd (over refl)
over_unseen z map begun t v _ _ _ (made.Saw not_ lt) low over = absurd (over refl)

word_low : (map : FreeMap) (h : Held) (word : ℕ) → PartNeeds (load_part map word) h → word < map_words map h.state.sizes
word_low Pages h word N = N.1
word_low Frames h word N = N.1

claims_nothing : (h : Held) (map : FreeMap) (begun : Bool) (v : ℕ) → PartNeeds (claim_part map begun (claim_over map h.topics)) h
    → claim_next map begun h.state.sizes (claim_over map h.topics) v ≢ claims.Goes
    → (claim_over map (part_topics (claim_part map begun (claim_over map h.topics)) h.topics v)).seen ≡ 0
claims_nothing h map begun v N over =
    over_unseen h.state.sizes map begun h.topics v _ _ _ (claim_made h.state.sizes map begun h.topics v)
    (λ word is. word_low map h word (subst (λ s. PartNeeds s h) is N)) over

-- A claim that goes on is one at the next place too.
goes_not : (map : FreeMap) (next : ClaimNext) (o : Outcome) → LeadsFromClaim map next o → claim_at map (place_after o) ≡ None → next ≢ claims.Goes
goes_not map claims.Goes o leads is e = cc (leads, is)
goes_not map claims.Got o leads is e = cc e
goes_not map claims.Empty o leads is e = cc e

-- ---- one map and the other one

same_map : (map other : FreeMap) → (map ≡ other) ⊎ (map ≢ other)
same_map Pages Pages = inl refl
same_map Pages Frames = inr (λ e. cc e)
same_map Frames Pages = inr (λ e. cc e)
same_map Frames Frames = inl refl

-- A claim in one map makes no step on the other one, and its line has no claim there.
maps_other : (map other : FreeMap) (begun : Bool) (claim : MapClaim) → map ≢ other → maps other (claim_part map begun claim) ≡ false
maps_other Pages Pages begun claim apart = absurd (apart refl)
maps_other Pages Frames begun claim apart = page_maps_not begun claim
maps_other Frames Pages begun claim apart = frame_maps_not begun claim
maps_other Frames Frames begun claim apart = absurd (apart refl)

no_other_claim : (p : Place) (map other : FreeMap) (begun : Bool) → claim_at map p ≡ Some begun → map ≢ other → claim_at other p ≡ None
no_other_claim p map other begun at apart = by (claim_at other p) refl
  where
    by : (o : Option Bool) → claim_at other p ≡ o → claim_at other p ≡ None
    by None is = is
    by (Some b) is = absurd (apart (one_claim p map other begun b at is))

-- ---- each line

unseen_by : (map : FreeMap) (s : Option PartStep) (t : Topics) (v : ℕ) → maps_by map s ≡ false → (claim_over map t).seen ≡ 0
    → (claim_over map (behind_part s t v)).seen ≡ 0
unseen_by map None t v other none = none
unseen_by map (Some step) t v other none = unseen_on map step t v other none

closed_by : (s : Option PartStep) (t : Topics) (v : ℕ) → (has_lock t.hold ≡ false → saw_open t.invalidations ≡ false)
    → has_lock (behind_part s t v).hold ≡ false → saw_open (behind_part s t v).invalidations ≡ false
closed_by None t v closed none = closed none
closed_by (Some step) t v closed none = closed_without step t v closed none

module _ (p : Place) (c : Command) (h : Held) (v : ℕ) (R : RestsAt p c h) (S : SawNothingAt p h.topics) where
  abbrev NoneBehind : FreeMap → Type 0
  NoneBehind map = (claim_over map (behind_part (part_at p c h) h.topics v)).seen ≡ 0

  own_none : (C : Claims p c h v) → claim_at C.map (place_after (outcome_at p c h v)) ≡ None → NoneBehind C.map
  own_none C is =
      subst (λ (s : Option PartStep). (claim_over C.map (behind_part s h.topics v)).seen ≡ 0) (sym C.step)
      (claims_nothing h C.map C.begun v (step_needs p c h (claim_part C.map C.begun (claim_over C.map h.topics)) R C.step)
      (goes_not C.map (claim_next C.map C.begun h.state.sizes (claim_over C.map h.topics) v) (outcome_at p c h v) C.leads is))

  other_none : (C : Claims p c h v) (map : FreeMap) → C.map ≢ map → NoneBehind map
  other_none C map apart =
      unseen_by map (part_at p c h) h.topics v
      (ap (maps_by map) C.step ∙ maps_other C.map map C.begun (claim_over C.map h.topics) apart)
      (S.claims map (no_other_claim p C.map map C.begun C.at apart))

  claims_none : Claims p c h v ⊎ ClaimsNot p c h v → (map : FreeMap) → claim_at map (place_after (outcome_at p c h v)) ≡ None → NoneBehind map
  claims_none (inl C) map is = by (same_map C.map map)
    where
      by : (C.map ≡ map) ⊎ (C.map ≢ map) → NoneBehind map
      by (inl same) = subst NoneBehind same (own_none C (subst (λ m. claim_at m (place_after (outcome_at p c h v)) ≡ None) (sym same) is))
      by (inr apart) = other_none C map apart
  claims_none (inr N) map is = unseen_by map (part_at p c h) h.topics v (N.step map) (S.claims map (N.at map))

  none_after : SawNothingAt (place_after (outcome_at p c h v)) (behind_part (part_at p c h) h.topics v)
  none_after = record { claims = claims_none (claims_or_not p c h v R); closed = closed_by (part_at p c h) h.topics v S.closed }

place_none : (p : Place) (c : Command) (h : Held) (words : Area → ℕ → ℕ) → RestsAt p c h → SawNothingAt p h.topics
    → SawNothingAt (place_after (outcome_at p c h (answer_in (task_at p c h) words))) (topics_at p c h words)
place_none p c h words R S =
    let v : ℕ = answer_in (task_at p c h) words in
    subst (SawNothingAt (place_after (outcome_at p c h v))) (sym (topics_of_step p c h v R)) (none_after p c h v R S)

-- While an actor has a line left, its steps are those of its lines.
had_line : (h : Held) (k : Kind) (v : ℕ) (b : Bool) → has_line h ≡ b → has_line (next h k v) ≡ true → has_line h ≡ true
had_line h k v true is has = is
had_line h k v false is has = sym (ap has_line (next_of_part h k v is)) ∙ has

abbrev HandNone : Held → Type 0
HandNone h = has_line h ≡ true → SawNothingAt h.state.place h.topics

module _ (z : Sizes) (w : World Held) (s : Step Kind) (G : IsSound z w) (may : May mmu w s) where
  abbrev h : Held
  h = hand_in mmu w s.actor

  of_line : has_line h ≡ true → SawNothingAt h.state.place h.topics → HandNone (hand_in mmu (effect mmu w s) s.actor)
  of_line has S =
      let T : Takes z w s h = takes_line z w s G may (is_next h s.kind may.enabled has) in
      let I = T.is_step in
      let stood : Place = place_at h.state.place h in
      let line : Line = line_at h.state.place h in
      subst HandNone (sym (hand_behind z w s G may has))
      (λ left. place_none stood line.command h (word_in z w) (is_next h s.kind may.enabled has).rests.at
      (none_where h.state.place h.state.sizes h.slots line.command h.topics S))

  pub line_was_left : (actor : ℕ) → has_line (hand_in mmu (effect mmu w s) actor) ≡ true → has_line (hand_in mmu w actor) ≡ true
  line_was_left actor has = by (same_or actor s.actor)
    where
      by : (actor ≡ s.actor) ⊎ (actor ≢ s.actor) → has_line (hand_in mmu w actor) ≡ true
      by (inl own) =
          ap (λ i. has_line (hand_in mmu w i)) own ∙ had_line h s.kind _ (has_line h) refl
          (sym (ap has_line (own_hand w s may.there)) ∙ sym (ap (λ i. has_line (hand_in mmu (effect mmu w s) i)) own) ∙ has)
      by (inr apart) = sym (ap has_line (others_hand w s actor apart)) ∙ has

  none_more : (actor : ℕ) → HandNone (hand_in mmu w actor) → HandNone (hand_in mmu (effect mmu w s) actor)
  none_more actor S has = by (same_or actor s.actor)
    where
      had : has_line (hand_in mmu w actor) ≡ true
      had = line_was_left actor has

      by : (actor ≡ s.actor) ⊎ (actor ≢ s.actor) → SawNothingAt (hand_in mmu (effect mmu w s) actor).state.place (hand_in mmu (effect mmu w s) actor).topics
      by (inl own) =
          subst (λ i. SawNothingAt (hand_in mmu (effect mmu w s) i).state.place (hand_in mmu (effect mmu w s) i).topics) (sym own)
          (of_line (subst (λ i. has_line (hand_in mmu w i) ≡ true) own had)
          (subst (λ i. SawNothingAt (hand_in mmu w i).state.place (hand_in mmu w i).topics) own (S had))
          (subst (λ i. has_line (hand_in mmu (effect mmu w s) i) ≡ true) own has))
      by (inr apart) = subst (λ (x : Held). SawNothingAt x.state.place x.topics) (sym (others_hand w s actor apart)) (S had)

-- An actor that has a line left had one before.
pub line_left_before : (z : Sizes) (w : World Held) (ss : List (Step Kind)) (actor : ℕ) → IsSound z w → Legal mmu w ss
    → has_line (hand_in mmu (run mmu w ss) actor) ≡ true → has_line (hand_in mmu w actor) ≡ true
line_left_before z w ss actor G legal =
    of_each_list z w (λ (ts : List (Step Kind)) (x : World Held). has_line (hand_in mmu x actor) ≡ true → has_line (hand_in mmu w actor) ≡ true)
    (λ ts s sound may had has. had (line_was_left z (run mmu w ts) s sound may actor has)) ss G legal (λ has. has)

-- ---- at a start, and between lines

first_unseen : (map : FreeMap) → (claim_over map first_topics).seen ≡ 0
first_unseen Pages = refl
first_unseen Frames = refl

pub starts_saw_nothing : StartsSawNothing
starts_saw_nothing z lines w actor start there =
    subst (λ (h : Held). SawNothing h.topics) (sym (hand_is z lines w actor start there)) (record { owes = refl; closed = refl; claims = first_unseen })

run_none : (z : Sizes) (lines : List Line) (w : World Held) (ss : List (Step Kind)) (actor : ℕ) → IsStart z lines w → Legal mmu w ss
    → actor < actors_of z → HandNone (hand_in mmu (run mmu w ss) actor)
run_none z lines w ss actor start legal there =
    of_each_list z w (λ (ts : List (Step Kind)) (x : World Held). HandNone (hand_in mmu x actor))
    (λ ts s sound may S. none_more z (run mmu w ts) s sound may actor S) ss (start_good z lines w start) legal
    (let N = starts_saw_nothing z lines w actor start there in λ has. record { claims = λ map is. N.claims map; closed = λ none. N.closed })

pub between_lines_saw_nothing : BetweenLinesSawNothing
between_lines_saw_nothing w actor R there has idle =
    let G : IsSound R.sizes w = reached_good w R in
    let inside : actor < actors_of R.sizes = subst (λ n. actor < n) G.hands there in
    let S =
    subst (λ (x : World Held). HandNone (hand_in mmu x actor)) R.leads.ends
    (run_none R.sizes R.lines R.start R.leads.steps actor R.is_start R.leads.legal inside) has in
    let here : SawNothingAt place.Between (hand_in mmu w actor).topics = subst (λ (q : Place). SawNothingAt q (hand_in mmu w actor).topics) idle S in
    let rests = subst (λ (q : Place). KnowsPart q (hand_in mmu w actor).state.line.command (hand_in mmu w actor)) idle (G.holds.knows actor inside) has in
    record { owes = ap is_owing rests.loose; closed = here.closed (ap has_lock rests.loose); claims = λ map. here.claims map (no_claim_between map) }
