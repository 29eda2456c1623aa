-- What one step makes of where its actor's claim is in the map of the pool's pages, and in that of frames.
use Rattle.std.proofs.Common.{◌≡◌, ◌≢◌, ◌⊎◌, inl, inr, ◌+◌, ◌<◌, ℕ, refl, sym, subst, ap, ◌∙◌, arith, length}
use Rattle.std.specs.Prelude.{Bool, true, false, ◌==◌, if◌then◌else◌}
use Rattle.std.proofs.lemmas.Bool.Decides.{nat_tests}
use Rattle.std.proofs.lemmas.List.{get_or-set_other}
use Rattle.core_views.specs.declared.kind.Kind.{Kind}
use Rattle.core_views.specs.declared.kind.StepKind.TheVariants as kind
use Rattle.core_views.specs.declared.sizes.Sizes.{Sizes}
use Rattle.core_views.specs.declared.topics.MapClaim.{MapClaim}
use Rattle.core_views.specs.declared.topics.Topics.{Topics}
use Rattle.core_views.specs.Held.{Held}
use Rattle.core_views.specs.Kinds.{code_of, kind_named}
use Rattle.core_views.specs.Sizes.{actors_of}
use Rattle.spte_words.specs.Areas.{place}
use Rattle.part_steps.specs.declared.part_step.PartStep.{PartStep}
use Rattle.part_steps.specs.declared.part_step.PartStep.TheVariants as part
use Rattle.mmu_core.specs.machine.Enabled.{Enabled, mmu}
use Rattle.mmu_core.specs.invariant.Laws.{IsSound}
use Rattle.mmu_core.specs.machine.Machine.{May, Step, World, answered, effect, hand_in}
use Rattle.part_steps.specs.PartTasks.{part_kind}
use Rattle.part_steps.specs.PartSteps.{GoesOnToWord, PartNeeds}
use Rattle.part_steps.specs.PartTopics.{part_topics}
use Rattle.mmu_core.specs.invariant.Scans.{FindsNoneFree, LoadsMap, OwnsNone}
use Rattle.mmu_core.specs.orders.ClaimSteps.{FreeMap, Pages, Frames, claim_over, load_part, map_area, map_words}
use Rattle.mmu_core.specs.machine.Steps.{has_line, next, next_by, nobody}
use Rattle.part_steps.specs.Tasks.{map_of}
use Rattle.part_steps.specs.PageTopics.{is_won, tried, unseen}
use Rattle.part_steps.specs.ControlTopics.{controlled}
use Rattle.part_steps.specs.TopicSteps.{topics_after, topics_by}
use Rattle.mmu_core.proofs.machine.Columns.{same_or}
use Rattle.mmu_core.proofs.machine.LineRuns.{own_hand}
use Rattle.mmu_core.proofs.machine.LineParts.{IsPartKind, IsQuiet, step_kind}
use Rattle.mmu_core.proofs.machine.NextTopics.{topics_behind}
use Rattle.mmu_core.proofs.words.PartTopics.{part_topics_is}

-- ---- what one step makes of a claim

-- the claim over the map after a step of a part
abbrev claim_behind : FreeMap → PartStep → MapClaim → ℕ → MapClaim
claim_behind Pages (part.Map word) c v = record { at = word + (if v == 0 then 1 else 0); seen = v }
claim_behind Pages part.Claim c v = tried c v
claim_behind Pages part.Give c v = unseen c
claim_behind Pages part.GiveOld c v = unseen c
claim_behind Pages _ c v = c
claim_behind Frames (part.FrameMap word) c v = record { at = word + (if v == 0 then 1 else 0); seen = v }
claim_behind Frames part.Frame c v = tried c v
claim_behind Frames part.GiveFrame c v = unseen c
claim_behind Frames _ c v = c

claim_is : (map : FreeMap) (step : PartStep) (t : Topics) (v : ℕ) → claim_over map (part_topics step t v) ≡ claim_behind map step (claim_over map t) v
claim_is Pages (part.Map word) t v = refl
claim_is Pages part.Claim t v = refl
claim_is Pages part.Give t v = refl
claim_is Pages part.GiveOld t v = refl
claim_is Pages _ t v = refl
claim_is Frames (part.FrameMap word) t v = refl
claim_is Frames part.Frame t v = refl
claim_is Frames part.GiveFrame t v = refl
claim_is Frames _ t v = refl

-- the claim after a load of word 0, whoever makes it
pub loaded_first : (z : Sizes) (map : FreeMap) (k : Kind) (t : Topics) (v : ℕ) → k.code ≡ code_of kind.Control
    → k.word ≡ place (map_of z) (map_area map) 0 → 0 < map_words map z
    → claim_over map (topics_after z k t v) ≡ record { at = if v == 0 then 1 else 0; seen = v }
unfolding topics_after
loaded_first z Pages k t v code at there =
    ap (λ c. (topics_by (kind_named c) z k t v).claim) code ∙ ap (λ word. (controlled z word t v).claim) at
    ∙ ap (λ (x : Topics). x.claim) (part_topics_is z (part.Map 0) 0 t 0 v there) ∙ ap (λ n. record { at = n; seen = v }) (omega arith)
loaded_first z Frames k t v code at there =
    ap (λ c. (topics_by (kind_named c) z k t v).frames.claim) code ∙ ap (λ word. (controlled z word t v).frames.claim) at
    ∙ ap (λ (x : Topics). x.frames.claim) (part_topics_is z (part.FrameMap 0) 0 t 0 v there) ∙ ap (λ n. record { at = n; seen = v }) (omega arith)

pub next_topics : (h : Held) (k : Kind) (v : ℕ) → (next h k v).topics ≡ topics_after h.state.sizes k h.topics v
unfolding next
next_topics h k v = by (has_line h)
  where
    by : (b : Bool) → (next_by b h k v).topics ≡ topics_after h.state.sizes k h.topics v
    by true = refl
    by false = refl

-- Another actor's step leaves the hand.
pub others_hand : (w : World Held) (s : Step Kind) (actor : ℕ) → actor ≢ s.actor → hand_in mmu (effect mmu w s) actor ≡ hand_in mmu w actor
unfolding effect
others_hand w s actor apart = get_or-set_other w.hands s.actor actor (next (hand_in mmu w s.actor) s.kind (answered mmu w s.kind)) nobody apart

-- how far the actor's claim has come
abbrev pub at_in : FreeMap → ℕ → World Held → ℕ
at_in map actor w = (claim_over map (hand_in mmu w actor).topics).at

-- its own step as it sees it
pub at_behind : (map : FreeMap) (w : World Held) (s : Step Kind) → s.actor < length w.hands
    → at_in map s.actor (effect mmu w s)
    ≡ (claim_over map (topics_after (hand_in mmu w s.actor).state.sizes s.kind (hand_in mmu w s.actor).topics (answered mmu w s.kind))).at
at_behind map w s there =
    ap (λ (x : Held). (claim_over map x.topics).at) (own_hand w s there)
    ∙ ap (λ (t : Topics). (claim_over map t).at) (next_topics (hand_in mmu w s.actor) s.kind (answered mmu w s.kind))

-- A claim has come as far as before, or is over, or is after a word that the step found 0.
abbrev pub GoesTo : Sizes → FreeMap → ℕ → World Held → Step Kind → ℕ → ℕ → Type 0
GoesTo z map actor w s at behind = (behind ≡ at) ⊎ ((behind ≡ 0) ⊎ ((behind ≡ at + 1) × FindsNoneFree z map actor at w s))

-- The load of a word of the map, as the words of the machine see it.
load_code : (map : FreeMap) (h : Held) (word note : ℕ) → (part_kind h (load_part map word) note).code ≡ code_of kind.Control
load_code Pages h word note = refl
load_code Frames h word note = refl

load_word : (map : FreeMap) (h : Held) (word note : ℕ) → (part_kind h (load_part map word) note).word ≡ place (map_of h.state.sizes) (map_area map) word
load_word Pages h word note = refl
load_word Frames h word note = refl

-- A step of a part that is no load of word 0, of an actor whose claim this is.
module _ (z : Sizes) (map : FreeMap) (actor : ℕ) (w : World Held) (s : Step Kind) (c : MapClaim) where
  load_goes : (h : Held) (word note : ℕ) → s.actor ≡ actor → OwnsNone map (hand_in mmu w actor).topics → h.state.sizes ≡ z
      → s.kind ≡ part_kind h (load_part map word) note → GoesOnToWord word c → (LoadsMap z map actor 0 s → ⊥)
      → GoesTo z map actor w s c.at (word + (if answered mmu w s.kind == 0 then 1 else 0))
  load_goes h word note own none same is on no_ = by on
    where
      v : ℕ
      v = answered mmu w s.kind

      loads_ : (j : ℕ) → word ≡ j → LoadsMap z map actor j s
      loads_ j e = record {
        by_actor = own;
        loads = ap (λ (k : Kind). k.code) is ∙ load_code map h word note;
        at =
            ap (λ (k : Kind). k.word) is ∙ load_word map h word note
            ∙ (ap (λ (y : Sizes). place (map_of y) (map_area map) word) same ∙ ap (place (map_of z) (map_area map)) e);
      }

      found : word ≡ c.at → (b : Bool) → (b ≡ true → v ≡ 0) → GoesTo z map actor w s c.at (word + (if b then 1 else 0))
      found e true zero_ = inr (inr (ap (λ n. n + 1) e, record { load = loads_ c.at e; none_free = zero_ refl; owns_none = none }))
      found e false zero_ = inl (omega (arith, e))

      by : GoesOnToWord word c → GoesTo z map actor w s c.at (word + (if v == 0 then 1 else 0))
      by (inl first) = absurd (no_ (loads_ 0 first))
      by (inr going) = found going.0 (v == 0) (λ e. grind (arith, nat_tests))

  try_goes : (b : Bool) → GoesTo z map actor w s c.at (if b then 0 else c.at)
  try_goes true = inr (inl refl)
  try_goes false = inl refl

module _ (z : Sizes) (actor : ℕ) (w : World Held) (s : Step Kind) (h : Held) where
  part_goes : (map : FreeMap) (step : PartStep) (note : ℕ) → s.actor ≡ actor → h.topics ≡ (hand_in mmu w actor).topics → h.state.sizes ≡ z
      → s.kind ≡ part_kind h step note → PartNeeds step h → (LoadsMap z map actor 0 s → ⊥)
      → GoesTo z map actor w s (claim_over map h.topics).at (claim_behind map step (claim_over map h.topics) (answered mmu w s.kind)).at
  part_goes Pages (part.Map word) note own hand same is N no_ =
      load_goes z Pages actor w s h.topics.claim h word note own (subst (OwnsNone Pages) hand N.0) same is N.2 no_
  part_goes Pages part.Claim note own hand same is N no_ = try_goes z Pages actor w s h.topics.claim (is_won h.topics.claim (answered mmu w s.kind))
  part_goes Pages part.Give note own hand same is N no_ = inl refl
  part_goes Pages part.GiveOld note own hand same is N no_ = inl refl
  part_goes Pages _ note own hand same is N no_ = inl refl
  part_goes Frames (part.FrameMap word) note own hand same is N no_ =
      load_goes z Frames actor w s h.topics.frames.claim h word note own (subst (OwnsNone Frames) hand N.0) same is N.2 no_
  part_goes Frames part.Frame note own hand same is N no_ =
      try_goes z Frames actor w s h.topics.frames.claim (is_won h.topics.frames.claim (answered mmu w s.kind))
  part_goes Frames part.GiveFrame note own hand same is N no_ = inl refl
  part_goes Frames _ note own hand same is N no_ = inl refl

-- Any step that isn't the actor's load of word 0.
pub goes : (z : Sizes) (map : FreeMap) (actor : ℕ) (w : World Held) (s : Step Kind) → IsSound z w → May mmu w s → (LoadsMap z map actor 0 s → ⊥)
    → GoesTo z map actor w s (at_in map actor w) (at_in map actor (effect mmu w s))
goes z map actor w s G may no_ = by (same_or actor s.actor)
  where
    h : Held
    h = hand_in mmu w s.actor

    v : ℕ
    v = answered mmu w s.kind

    there : s.actor < actors_of z
    there = subst (λ n. s.actor < n) G.hands may.there

    of_own : s.actor ≡ actor → IsPartKind h s.kind ⊎ IsQuiet h.state.sizes h.topics s.kind
        → GoesTo z map actor w s (claim_over map h.topics).at (at_in map s.actor (effect mmu w s))
    of_own own (inl N) =
        let at_is : at_in map s.actor (effect mmu w s) ≡ (claim_behind map N.step (claim_over map h.topics) v).at =
        ap (λ (x : Held). (claim_over map x.topics).at) (own_hand w s may.there) ∙ ap (λ (k : Kind). (claim_over map (next h k v).topics).at) N.is
        ∙ ap (λ (t : Topics). (claim_over map t).at) (topics_behind h N.step N.note v N.needs)
        ∙ ap (λ (c : MapClaim). c.at) (claim_is map N.step h.topics v) in
        subst (GoesTo z map actor w s (claim_over map h.topics).at) (sym at_is) (part_goes z actor w s h map N.step N.note own
        (ap (λ i. (hand_in mmu w i).topics) own) (G.holds.lines s.actor there).sizes N.is N.needs no_)
    of_own own (inr Q) = inl (at_behind map w s may.there ∙ ap (λ (t : Topics). (claim_over map t).at) (Q.topics v))

    mine : s.actor ≡ actor → GoesTo z map actor w s (claim_over map h.topics).at (at_in map s.actor (effect mmu w s))
    mine own = of_own own (step_kind h s.kind may.enabled)

    by : (actor ≡ s.actor) ⊎ (actor ≢ s.actor) → GoesTo z map actor w s (at_in map actor w) (at_in map actor (effect mmu w s))
    by (inl own) = subst (λ i. GoesTo z map actor w s (at_in map i w) (at_in map i (effect mmu w s))) (sym own) (mine (sym own))
    by (inr apart) = inl (ap (λ (x : Held). (claim_over map x.topics).at) (others_hand w s actor apart))

-- A step that leaves in the claim whatever it found is a load of the map or a try, and so owns no page or frame.
two_numbers : {A : Type 0} (n : ℕ) → n ≡ 0 → n ≡ 1 → A
two_numbers n none one = absurd (omega (arith, none, one))

sees_owns_none : (map : FreeMap) (h : Held) (step : PartStep) → PartNeeds step h
    → ((v : ℕ) → (claim_behind map step (claim_over map h.topics) v).seen ≡ v) → OwnsNone map h.topics
sees_owns_none Pages h (part.Map word) N sees = N.0
sees_owns_none Pages h part.Claim N sees = N.0
sees_owns_none Pages h part.Give N sees = two_numbers 0 refl (sees 1)
sees_owns_none Pages h part.GiveOld N sees = two_numbers 0 refl (sees 1)
sees_owns_none Pages h _ N sees = two_numbers h.topics.claim.seen (sees 0) (sees 1)
sees_owns_none Frames h (part.FrameMap word) N sees = N.0
sees_owns_none Frames h part.Frame N sees = N.0
sees_owns_none Frames h part.GiveFrame N sees = two_numbers 0 refl (sees 1)
sees_owns_none Frames h _ N sees = two_numbers h.topics.frames.claim.seen (sees 0) (sees 1)

-- Who loads word 0 of the map owns no page, or no frame.
pub first_owns_none : (z : Sizes) (map : FreeMap) (h : Held) (k : Kind) → h.state.sizes ≡ z → 0 < map_words map z → Enabled h k
    → k.code ≡ code_of kind.Control → k.word ≡ place (map_of z) (map_area map) 0 → OwnsNone map h.topics
first_owns_none z map h k same words enabled code at = by (step_kind h k enabled)
  where
    seen_in : Topics → ℕ
    seen_in t = (claim_over map t).seen

    seen_is : (v : ℕ) → seen_in (topics_after h.state.sizes k h.topics v) ≡ v
    seen_is v = ap (λ (y : Sizes). seen_in (topics_after y k h.topics v)) same ∙ ap (λ (c : MapClaim). c.seen) (loaded_first z map k h.topics v code at words)

    by : IsPartKind h k ⊎ IsQuiet h.state.sizes h.topics k → OwnsNone map h.topics
    by (inl N) =
        sees_owns_none map h N.step N.needs
        (λ v. ap (λ (c : MapClaim). c.seen) (sym (claim_is map N.step h.topics v)) ∙ ap seen_in
        (sym (topics_behind h N.step N.note v N.needs)) ∙ ap (λ (x : Kind). seen_in (next h x v).topics) (sym N.is)
        ∙ ap seen_in (next_topics h k v) ∙ seen_is v)
    by (inr Q) =
        two_numbers (seen_in h.topics) (ap seen_in (sym (Q.topics 0)) ∙ seen_is 0) (ap seen_in (sym (Q.topics 1)) ∙ seen_is 1)
