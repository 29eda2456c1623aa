-- The note of a step tells whether its line ends with it; but that of the load of a map's last word, with which a claim may end, and that of the look at the
-- last virtual processor, with which a line may end that reads a dirty log.
use Rattle.std.proofs.Common.{◌≡◌, ◌∙◌, ◌≢◌, ◌⊎◌, inl, inr, ◌<◌, ◌≤◌, ℕ, refl, sym, ap, arith, subst}
use Rattle.std.specs.Prelude.{Bool, true, false, ◌+◌, ◌==◌, if◌then◌else◌, Option, Some, None, is_some}
use Rattle.std.proofs.lemmas.Bool.Decides.{nat_tests}
use Rattle.core_views.specs.declared.kind.Kind.{Kind}
use Rattle.core_views.specs.declared.kind.StepKind.TheVariants as kind
use Rattle.core_views.specs.declared.place.HostPlace.TheVariants.{Look}
use Rattle.core_views.specs.declared.place.HostRunPlace.TheVariants as run
use Rattle.core_views.specs.declared.place.Place.{Place}
use Rattle.core_views.specs.declared.place.Place.TheVariants as place
use Rattle.core_views.specs.declared.sizes.Sizes.{Sizes}
use Rattle.core_views.specs.declared.topics.Topics.{Topics}
use Rattle.core_views.specs.declared.trace.Command.{Command}
use Rattle.core_views.specs.Held.{Held}
use Rattle.core_views.specs.Kinds.{kind_named}
use Rattle.spte_words.specs.Areas.{place as word_place}
use Rattle.spte_words.proofs.Places.{place_at as word_place_at}
use Rattle.part_steps.specs.declared.part_step.PartStep.{PartStep}
use Rattle.part_steps.specs.declared.task.Task.{Task}
use Rattle.part_steps.specs.PartSteps.{PartNeeds}
use Rattle.part_steps.specs.PartTasks.{own_index, part_task}
use Rattle.part_steps.specs.Tasks.{kind_of_task, map_of}
use Rattle.mmu_core.specs.declared.claim.ClaimNext.{ClaimNext}
use Rattle.mmu_core.specs.declared.outcome.Outcome.{Outcome}
use Rattle.mmu_core.specs.forms.access.AccessSteps.{ends_with, task_by}
use Rattle.mmu_core.specs.declared.claim.FreeMap.{FreeMap}
use Rattle.mmu_core.specs.declared.claim.FreeMap.TheVariants.{Frames, Pages}
use Rattle.mmu_core.specs.orders.ClaimSteps.{claim_next, claim_over, claim_part, load_part, loads_last_word, map_area, map_word, map_words}
use Rattle.mmu_core.specs.orders.ClaimSteps.{tries_one, try_part}
use Rattle.mmu_core.specs.lines.Forms.{note_at, part_at, RestsAt, outcome_at}
use Rattle.mmu_core.specs.lines.PartAt.{touch_at}
use Rattle.mmu_core.specs.lines.ScanPlaces.{claim_at, ends_with_claim}
use Rattle.mmu_core.specs.machine.Steps.{place_at, task_at}
use Rattle.mmu_core.specs.machine.Turns.{line_of, outcome_of}
use Rattle.mmu_core.proofs.machine.ColumnsTell.{some_is}
use Rattle.mmu_core.proofs.invariant.QuietKept.{touched}
use Rattle.mmu_core.proofs.lines.ByStep.{step_needs}
use Rattle.mmu_core.proofs.orders.ClaimMade.{ClaimMade, claim_made}
use Rattle.mmu_core.proofs.orders.ClaimMade as made
use Rattle.mmu_core.proofs.lines.ClaimPlaces.{claims_or_not}
use Rattle.mmu_core.proofs.lines.LineClaims.{Claims, ClaimsNot, HasNote, MayEnd, ends_after, note_by, one_claim, IsLook}
use Rattle.mmu_core.proofs.machine.Which.{is_next}
use Rattle.mmu_laws.specs.steps.NoteLaws.{AwaitsLast, LoadsLastWord, LooksAtPage, NoteTells, NotesTellEnds, RunLookTells}
use Rattle.mmu_laws.proofs.forms.log.AwaitNotes.{IsAwait, await_claims_none, awaits_or_not, each_await_tells, may_end_awaits}
use Rattle.mmu_laws.proofs.steps.StepLaws.{tells_part, tells_touch}
use Rattle.mmu_laws.proofs.forms.host.LookNotes.{looks_without}
use Rattle.mmu_laws.proofs.forms.host_run.RunLookNotes.{each_look_tells, look_claims_none, run_look_tells}

-- ---- the map of a claim

-- The load of a word of a map is on this word, and a try loads none.
load_word : (map : FreeMap) (z : Sizes) (word own : ℕ) (t : Topics) (note : ℕ)
    → (kind_of_task z (part_task (load_part map word) own t note)).word ≡ word_place (map_of z) (map_area map) word
load_word Pages z word own t note = refl
load_word Frames z word own t note = refl

load_kind : (map : FreeMap) (z : Sizes) (word own : ℕ) (t : Topics) (note : ℕ)
    → kind_named (kind_of_task z (part_task (load_part map word) own t note)).code ≡ kind.Control
load_kind Pages z word own t note = refl
load_kind Frames z word own t note = refl

tries_no_load : (map : FreeMap) (z : Sizes) (own : ℕ) (t : Topics) (note : ℕ)
    → kind_named (kind_of_task z (part_task (try_part map) own t note)).code ≡ kind.Control → ⊥
tries_no_load Pages z own t note e = cc e
tries_no_load Frames z own t note e = cc e

-- A line with which it may end claims in one map.
claims_there : (map : FreeMap) (p : Place) → ends_with_claim map p ≡ true → is_some (claim_at map p) ≡ true
claims_there map (place.Access p) e = absurd (cc e)
claims_there map (place.Split p) e = absurd (cc e)
claims_there map p e = e

one_map : (p : Place) (map other : FreeMap) (begun : Bool) → claim_at map p ≡ Some begun → ends_with_claim other p ≡ true → other ≡ map
one_map p map other begun at ends =
    let there = some_is (claim_at other p) (claims_there other p ends) in
    one_claim p other map there.0 begun there.1 at

-- ---- a claim with which its line may end

module _ (p : Place) (map : FreeMap) (may_end : ends_with_claim map p ≡ true) (z : Sizes) (begun : Bool) (at : claim_at map p ≡ Some begun) (t : Topics)
    (v own : ℕ) (o : Outcome) where
  abbrev word : ℕ
  word = map_word begun (claim_over map t)

  abbrev words : ℕ
  words = map_words map z

  abbrev kind_for : PartStep → ℕ → Kind
  kind_for step note = kind_of_task z (part_task step own t note)

  abbrev Tells : PartStep → Bool → Type 0
  Tells step last = NoteTells p z (kind_for step (if last then 1 else 0)) o v

  -- Where it may end with its claim, it awaits nobody.
  awaits_none : (k : Kind) → AwaitsLast p z k → ⊥
  awaits_none k A = let none = await_claims_none p A.at map in cc (none, at)

  noted : (step : PartStep) (note : ℕ) → (kind_for step note).note ≡ note
  noted step note = (tells_part step own t note).note_is

  -- the load's word is the last one exactly where it stands right before the end of the map
  last_word : word + 1 ≡ words → LoadsLastWord p z (kind_for (load_part map word) 1)
  last_word one = record {
    map = map;
    ends = may_end;
    loads = load_kind map z word own t 1;
    last =
        let there = load_word map z word own t 1 in
        let first = word_place_at (map_of z) (map_area map) word in
        let end = word_place_at (map_of z) (map_area map) words in
        omega (arith, there, first, end, one);
  }

  at_end : (note : ℕ) → LoadsLastWord p z (kind_for (load_part map word) note) → word + 1 ≡ words
  at_end note L =
      let last = subst (λ m. (kind_for (load_part map word) note).word + 1 ≡ word_place (map_of z) (map_area m) (map_words m z))
      (one_map p map L.map begun at L.ends) L.last in
      let there = load_word map z word own t note in
      let first = word_place_at (map_of z) (map_area map) word in
      let end = word_place_at (map_of z) (map_area map) words in
      omega (arith, there, first, end, last)

  looks_none : (k : Kind) → LooksAtPage p k → ⊥
  looks_none k K = let none = ap (claim_at map) K.at ∙ looks_without K.moves map in cc (none, at)

  -- The claim goes on after the load of a word: of the last one, in which it saw something free, or of another one.
  goes_on : (last zero_ : Bool) → (word + 1 == words) ≡ last → (v == 0) ≡ zero_ → word + (if zero_ then 1 else 0) < words → ends_with o ≡ 0
      → Tells (load_part map word) last
  goes_on true true last zero_ lt goes = absurd (let one : word + 1 ≡ words = grind (arith, nat_tests) in omega (arith, lt, one))
  goes_on true false last zero_ lt goes =
      let one : word + 1 ≡ words = grind (arith, nat_tests) in
      record {
        tells = inr (inl (last_word one));
        awaits = λ A. absurd (awaits_none _ A);
        looks = λ K. absurd (looks_none _ K);
        last = λ L. (noted (load_part map word) 1, goes ∙ ap (λ (b : Bool). if b then 1 else 0) (sym zero_));
      }
  goes_on false _ last zero_ lt goes =
      record {
        tells = inl (noted (load_part map word) 0 ∙ sym goes);
        awaits = λ A. absurd (awaits_none _ A);
        looks = λ K. absurd (looks_none _ K);
        last = λ L. absurd (let one = at_end 0 L in grind (arith, nat_tests));
      }

  -- It ends with the load of the last word, in which it saw none.
  ends : (last zero_ : Bool) → (word + 1 == words) ≡ last → (v == 0) ≡ zero_ → word < words → words ≤ word + (if zero_ then 1 else 0) → ends_with o ≡ 1
      → Tells (load_part map word) last
  ends true true last zero_ lt le over = record {
    tells = inl (noted (load_part map word) 1 ∙ sym over);
    awaits = λ A. absurd (awaits_none _ A);
    looks = λ K. absurd (looks_none _ K);
    last = λ L. (noted (load_part map word) 1, over ∙ ap (λ (b : Bool). if b then 1 else 0) (sym zero_));
  }
  ends false true last zero_ lt le over = absurd (let other : word + 1 ≢ words = grind (arith, nat_tests) in omega (arith, lt, le, other))
  ends _ false last zero_ lt le over = absurd (omega (arith, lt, le))

  -- It tries what it saw.
  tries_so : ends_with o ≡ 0 → Tells (try_part map) false
  tries_so goes = record {
    tells = inl (noted (try_part map) 0 ∙ sym goes);
    awaits = λ A. absurd (awaits_none _ A);
    looks = λ K. absurd (looks_none _ K);
    last = λ L. absurd (tries_no_load map z own t 0 L.loads);
  }

  pub claim_notes : (step : PartStep) (next : ClaimNext) (u : Topics) → ClaimMade z map begun t v step next u
      → (tries_one begun (claim_over map t) ≡ false → word < words) → ends_with o ≡ ends_after next
      → Tells step (loads_last_word map begun z (claim_over map t))
  claim_notes _ _ _ (made.Won tries b some is) low goes = rw tries (tries_so goes)
  claim_notes _ _ _ (made.Lost tries b some is) low goes = rw tries (tries_so goes)
  claim_notes _ _ _ (made.Saw not_ lt) low goes = rw not_ (goes_on (word + 1 == words) (v == 0) refl refl lt goes)
  claim_notes _ _ _ (made.SawNone not_ le) low over = rw not_ (ends (word + 1 == words) (v == 0) refl refl (low not_) le over)

-- ---- each line

-- The line may not end with the load of a last word, nor with the look at the last virtual processor, nor with that at its page.
record EndsWithNone (p : Place) : Type 0 where
  no_claim : (map : FreeMap) → ends_with_claim map p ≡ true → ⊥
  no_await : IsAwait p → ⊥
  no_look : IsLook p → ⊥

looks_or_not : (p : Place) → IsLook p ⊎ (IsLook p → ⊥)
looks_or_not (place.Host (Look moves)) = inl tt
looks_or_not (place.HostRun run.Look) = inl tt
looks_or_not (place.HostRun run.LookOn) = inl tt
looks_or_not _ = inr (λ look. look)

-- So the note is 1 exactly where it ends.
tells_exactly : (p : Place) (z : Sizes) (t : Task) (o : Outcome) (v : ℕ) → t.may_end ≡ ends_with o → EndsWithNone p → NoteTells p z (kind_of_task z t) o v
tells_exactly p z t o v is E = record {
  tells = inl is;
  last = λ L. absurd (E.no_claim L.map L.ends);
  awaits = λ A. absurd (E.no_await A.at);
  looks = λ L. absurd (E.no_look (subst IsLook (sym L.at) tt));
}

note_is : (s : Option PartStep) (h : Held) (note : ℕ) (touch : Task) → (s ≡ None → touch.may_end ≡ 0) → (task_by s h note touch).may_end ≡ note_by s note
note_is None h note touch none = none refl
note_is (Some step) h note touch none = (tells_part step (own_index h) h.topics note).note_is

touch_note : (p : Place) (command : Command) (h : Held) → part_at p command h ≡ None → (touch_at command h).may_end ≡ 0
touch_note p command h at = let T = touched p command h at in ap (λ (t : Task). t.may_end) T.2 ∙ (tells_touch T.0 T.1).note_is

-- The claim loads a word of its map.
word_inside : (map : FreeMap) (tries : Bool) (h : Held) (word : ℕ) → PartNeeds (if tries then try_part map else load_part map word) h → tries ≡ false
    → word < map_words map h.state.sizes
word_inside map true h word N is = absurd (cc is)
word_inside Pages false h word N is = N.1
word_inside Frames false h word N is = N.1

-- ---- a step of each form

module _ (p : Place) (command : Command) (h : Held) (v : ℕ) (R : RestsAt p command h) where
  abbrev outcome : Outcome
  outcome = outcome_at p command h v

  abbrev note : ℕ
  note = note_at p command h

  abbrev TellsOf : Task → Type 0
  TellsOf t = NoteTells p h.state.sizes (kind_of_task h.state.sizes t) outcome v

  -- the step of the claim
  abbrev step_of : Claims p command h v → PartStep
  step_of C = claim_part C.map C.begun (claim_over C.map h.topics)

  claim_tells : (C : Claims p command h v) (b : Bool) → ends_with_claim C.map p ≡ b
      → HasNote b (loads_last_word C.map C.begun h.state.sizes (claim_over C.map h.topics))
      (claim_next C.map C.begun h.state.sizes (claim_over C.map h.topics) v) note outcome
      → TellsOf (part_task (step_of C) (own_index h) h.topics note)
  claim_tells C true may_end N =
      subst (λ n. TellsOf (part_task (step_of C) (own_index h) h.topics n)) (sym N.0)
      (claim_notes p C.map may_end h.state.sizes C.begun C.at h.topics v (own_index h) outcome _ _ _ (claim_made h.state.sizes C.map C.begun h.topics v)
      (word_inside C.map (tries_one C.begun (claim_over C.map h.topics)) h (map_word C.begun (claim_over C.map h.topics))
      (step_needs p command h (step_of C) R C.step)) N.1)
  claim_tells C false never N =
      tells_exactly p h.state.sizes (part_task (step_of C) (own_index h) h.topics note) outcome v
      ((tells_part (step_of C) (own_index h) h.topics note).note_is ∙ N) (record {
        no_claim = λ map e. let here = subst (λ m. ends_with_claim m p ≡ true) (one_map p C.map map C.begun C.at e) e in cc (never, here);
        no_await = λ is. let none = await_claims_none p is C.map in let at = C.at in cc (none, at);
        no_look = λ look. let none = look_claims_none p look C.map in let at = C.at in cc (none, at);
      })

  -- Each other step tells it, but the look at the last virtual processor, and that at a host page.
  other_tells : ClaimsNot p command h v → (IsAwait p → ⊥) → (IsLook p → ⊥) → TellsOf (task_at p command h)
  other_tells N apart never = by N.note
    where
      by : (note_by (part_at p command h) note ≡ ends_with outcome) ⊎ MayEnd p command h v ⊎ IsLook p → TellsOf (task_at p command h)
      by (inl is) =
          tells_exactly p h.state.sizes (task_at p command h) outcome v
          (note_is (part_at p command h) h note (touch_at command h) (touch_note p command h) ∙ is) (record {
            no_claim = λ map e. let some = claims_there map p e in let at = N.at map in cc (some, at);
            no_await = apart;
            no_look = never;
          })
      by (inr (inl M)) = absurd (apart (may_end_awaits p command h v R M))
      by (inr (inr look)) = absurd (never look)

line_tells : (p : Place) (command : Command) (h : Held) (v : ℕ) → RestsAt p command h → IsAwait p ⊎ (IsAwait p → ⊥)
    → IsLook p ⊎ (IsLook p → ⊥) → Claims p command h v ⊎ ClaimsNot p command h v
    → NoteTells p h.state.sizes (kind_of_task h.state.sizes (task_at p command h)) (outcome_at p command h v) v
line_tells p command h v R (inl is) looks C = each_await_tells p is command h v
line_tells p command h v R (inr apart) (inl look) C = each_look_tells p look command h v R
line_tells p command h v R (inr apart) (inr never) (inl C) =
    subst (λ (s : Option PartStep). NoteTells p h.state.sizes (kind_of_task h.state.sizes (task_by s h (note_at p command h) (touch_at command h)))
    (outcome_at p command h v) v) (sym C.step) (claim_tells p command h v R C (ends_with_claim C.map p) refl C.note)
line_tells p command h v R (inr apart) (inr never) (inr N) = other_tells p command h v R N apart never

pub notes_tell_ends : NotesTellEnds
notes_tell_ends h k v enabled has =
    let N = is_next h k enabled has in
    let p : Place = place_at h.state.place h in
    let command : Command = (line_of h).command in
    subst (λ (x : Kind). NoteTells p h.state.sizes x (outcome_of h v) v × RunLookTells h x v) (sym N.is) (
      line_tells p command h v N.rests.at (awaits_or_not p) (looks_or_not p) (claims_or_not p command h v N.rests.at),
      run_look_tells h v p command N.rests.at,
    )
