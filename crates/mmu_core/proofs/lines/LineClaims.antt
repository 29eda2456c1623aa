-- The step of a line is one of its claim of a page or a frame, or another one; and what follows of its scan of the map, whatever its form is.
use Rattle.std.proofs.Common.{◌≡◌, ◌≢◌, ◌⊎◌, inl, inr, ◌≤◌, ℕ, refl, sym, subst, ap, ◌∙◌}
use Rattle.std.specs.Prelude.{Bool, true, false, Option, Some, None, is_some, if◌then◌else◌}
use Rattle.core_views.specs.declared.answer.Answer.{Answer}
use Rattle.core_views.specs.declared.place.HostPlace.TheVariants as host
use Rattle.core_views.specs.declared.place.HostRunPlace.TheVariants as run
use Rattle.core_views.specs.declared.place.Place.{Place}
use Rattle.core_views.specs.declared.place.Place.TheVariants as place
use Rattle.core_views.specs.declared.sizes.Sizes.{Sizes}
use Rattle.core_views.specs.declared.topics.MapClaim.{MapClaim}
use Rattle.core_views.specs.declared.topics.Topics.{Topics}
use Rattle.core_views.specs.declared.trace.Command.{Command}
use Rattle.core_views.specs.Held.{Held}
use Rattle.core_views.specs.LogCommands.{log_read}
use Rattle.part_steps.specs.declared.part_step.PartStep.{PartStep}
use Rattle.mmu_core.specs.declared.outcome.Outcome.{Outcome}
use Rattle.mmu_core.specs.declared.outcome.Outcome.TheVariants.{Ends}
use Rattle.mmu_core.specs.declared.claim.ClaimNext.{ClaimNext}
use Rattle.mmu_core.specs.declared.claim.ClaimNext.TheVariants as claims
use Rattle.mmu_core.specs.orders.ClaimSteps.{FreeMap, Pages, Frames, claim_next, claim_outcome, claim_over, claim_part, loads_last_word, map_words}
use Rattle.mmu_core.specs.orders.ClaimSteps.{try_part, word_after_load}
use Rattle.mmu_core.specs.lines.Delays.{line_waits}
use Rattle.mmu_core.specs.lines.Forms.{note_at, part_at, KnowsPart, outcome_at}
use Rattle.mmu_core.specs.forms.access.AccessSteps.{ends_with}
use Rattle.mmu_core.specs.lines.ScanPlaces.{answer_without, ends_with_claim, HasScan, claim_at}
use Rattle.mmu_core.specs.machine.Outcomes.{place_after}
use Rattle.mmu_core.proofs.orders.ClaimMade.{ClaimMade, claim_made}
use Rattle.mmu_core.proofs.orders.ClaimMade as made
use Rattle.mmu_core.proofs.forms.access.FaultScans.{KeepsScan, claim_keeps, claim_tries, maps, try_maps}
use Rattle.mmu_core.proofs.machine.PartStepping.{behind_part}

-- The step of the line keeps its scan of the map, or begins one.
abbrev pub KeepsAt : FreeMap → Place → Option PartStep → Type 0
KeepsAt map p None = HasScan p map
KeepsAt map p (Some step) = KeepsScan map (HasScan p map) step

-- The step loads a word of the map, or tries for a page or a frame there.
abbrev pub maps_by : FreeMap → Option PartStep → Bool
maps_by map None = false
maps_by map (Some step) = maps map step

-- With this outcome the line comes to no scan, and isn't answered for want of a page or a frame.
pub record HasNoScan (o : Outcome) : Type 0 where
  pub no_scan : (map : FreeMap) → HasScan (place_after o) map → ⊥
  pub fed : (map : FreeMap) → o ≢ Ends (answer_without map)

-- Where a step of a claim leads to: with its scan it goes on, and the line is answered for want of a page only with no page, and so with frames.
abbrev pub LeadsFromClaim : FreeMap → ClaimNext → Outcome → Type 0
LeadsFromClaim map claims.Goes o = claim_at map (place_after o) ≡ Some true
LeadsFromClaim map claims.Got o = HasNoScan o
LeadsFromClaim map claims.Empty o = (other : FreeMap) → o ≡ Ends (answer_without other) → other ≡ map

-- the note that the step of a place has: the touch has 0
abbrev pub note_by : Option PartStep → ℕ → ℕ
note_by None note = 0
note_by (Some step) note = note

-- No line has a scan between lines, nor is it answered for want of a frame where it wants a page.
pub no_scan_between : (map : FreeMap) → HasScan place.Between map → ⊥
no_scan_between Pages S = S
no_scan_between Frames S = S

pub is_answered : (answer : Answer) → ((map : FreeMap) → Ends answer ≢ Ends (answer_without map)) → HasNoScan (Ends answer)
is_answered answer fed = record { no_scan = no_scan_between; fed = fed }

pub no_claim_between : (map : FreeMap) → claim_at map place.Between ≡ None
no_claim_between Pages = refl
no_claim_between Frames = refl

one_answer : (map other : FreeMap) → Ends (answer_without map) ≡ Ends (answer_without other) → other ≡ map
one_answer Pages Pages e = refl
one_answer Pages Frames e = absurd (cc e)
one_answer Frames Pages e = absurd (cc e)
one_answer Frames Frames e = refl

-- So does a step of a claim with which the line is answered where nothing is free in its map.
pub claim_leads : (map : FreeMap) (on got : Place) (next : ClaimNext) → claim_at map on ≡ Some true → ((other : FreeMap) → HasScan got other → ⊥)
    → LeadsFromClaim map next (claim_outcome on got (answer_without map) next)
claim_leads map on got claims.Goes at none = at
claim_leads map on got claims.Got at none = record { no_scan = none; fed = λ other e. cc e }
claim_leads map on got claims.Empty at none = one_answer map

-- And it comes to a scan of no other map.
pub claim_scans : (map : FreeMap) (on got : Place) (next : ClaimNext) → ((other : FreeMap) → HasScan on other → other ≡ map)
    → ((other : FreeMap) → HasScan got other → ⊥) → (other : FreeMap)
    → HasScan (place_after (claim_outcome on got (answer_without map) next)) other → other ≡ map
claim_scans map on got claims.Goes one none other S = one other S
claim_scans map on got claims.Got one none other S = absurd (none other S)
claim_scans map on got claims.Empty one none other S = absurd (no_scan_between other S)

-- 1 where a claim ends with no page
abbrev pub ends_after : ClaimNext → ℕ
ends_after claims.Empty = 1
ends_after _ = 0

pub claim_notes : (on got : Place) (without : Answer) (next : ClaimNext) → ends_with (claim_outcome on got without next) ≡ ends_after next
claim_notes on got without claims.Empty = refl
claim_notes on got without _ = refl

-- The note of a step of a claim: where the line may end with it 1 at the last word of the map, and else 1 where the line ends.
abbrev pub HasNote : Bool → Bool → ClaimNext → ℕ → Outcome → Type 0
HasNote true last next note o = (note ≡ (if last then 1 else 0)) × (ends_with o ≡ ends_after next)
HasNote false last next note o = note ≡ ends_with o

-- The line makes a step of its claim in this map.
pub record Claims (p : Place) (c : Command) (h : Held) (v : ℕ) : Type 0 where
  pub map : FreeMap
  pub begun : Bool
  pub at : claim_at map p ≡ Some begun
  pub step : part_at p c h ≡ Some (claim_part map begun (claim_over map h.topics))
  pub scan : begun ≡ true → HasScan p map
  pub one : (other : FreeMap) → HasScan (place_after (outcome_at p c h v)) other → other ≡ map
  pub leads : LeadsFromClaim map (claim_next map begun h.state.sizes (claim_over map h.topics) v) (outcome_at p c h v)
  pub note :
      let claim : MapClaim = claim_over map h.topics in
      HasNote (ends_with_claim map p) (loads_last_word map begun h.state.sizes claim) (claim_next map begun h.state.sizes claim v) (note_at p c h)
      (outcome_at p c h v)

-- The claim over this map has come after its last word after the step.
abbrev pub ComesToEnd : FreeMap → Option PartStep → Held → ℕ → Type 0
ComesToEnd map s h v = map_words map h.state.sizes ≤ (claim_over map (behind_part s h.topics v)).at

-- A line that reads a dirty log may end with its look at the last virtual processor, and waits there.
pub record MayEnd (p : Place) (c : Command) (h : Held) (v : ℕ) : Type 0 where
  pub reads : is_some (log_read c) ≡ true
  pub note : note_by (part_at p c h) (note_at p c h) ≡ 1
  pub goes : ends_with (outcome_at p c h v) ≡ 0
  pub waits : line_waits p c h v ≡ true

-- A line that changes host pages may end with a look at one: it is refused where the page is part of a large one, or its run can't be mapped as one.
abbrev pub IsLook : Place → Type 0
IsLook (place.Host (host.Look moves)) = Unit {0}
IsLook (place.HostRun run.Look) = Unit {0}
IsLook (place.HostRun run.LookOn) = Unit {0}
IsLook _ = ⊥

-- Or it makes another step: with it the line comes to no scan but its own, and is answered for want of a page or a frame only after one.
pub record ClaimsNot (p : Place) (c : Command) (h : Held) (v : ℕ) : Type 0 where
  pub at : (map : FreeMap) → claim_at map p ≡ None
  pub step : (map : FreeMap) → maps_by map (part_at p c h) ≡ false
  pub note : (note_by (part_at p c h) (note_at p c h) ≡ ends_with (outcome_at p c h v)) ⊎ MayEnd p c h v ⊎ IsLook p
  pub keeps : KnowsPart p c h → (map : FreeMap) → HasScan (place_after (outcome_at p c h v)) map → KeepsAt map p (part_at p c h)
  pub starved : KnowsPart p c h → (map : FreeMap) → outcome_at p c h v ≡ Ends (answer_without map)
      → KeepsAt map p (part_at p c h) × ComesToEnd map (part_at p c h) h v

-- With most such steps it comes to no scan, and isn't starved.
pub to_no_scan_noted : (p : Place) (c : Command) (h : Held) (v : ℕ) → ((map : FreeMap) → claim_at map p ≡ None)
    → ((map : FreeMap) → maps_by map (part_at p c h) ≡ false)
    → (note_by (part_at p c h) (note_at p c h) ≡ ends_with (outcome_at p c h v)) ⊎ MayEnd p c h v ⊎ IsLook p → HasNoScan (outcome_at p c h v)
    → Claims p c h v ⊎ ClaimsNot p c h v
to_no_scan_noted p c h v at step note N = inr (record {
  at = at;
  step = step;
  note = note;
  keeps = λ K map S. absurd (N.no_scan map S);
  starved = λ K map e. absurd (N.fed map e);
})

pub to_no_scan : (p : Place) (c : Command) (h : Held) (v : ℕ) → ((map : FreeMap) → claim_at map p ≡ None)
    → ((map : FreeMap) → maps_by map (part_at p c h) ≡ false) → note_by (part_at p c h) (note_at p c h) ≡ ends_with (outcome_at p c h v)
    → HasNoScan (outcome_at p c h v) → Claims p c h v ⊎ ClaimsNot p c h v
to_no_scan p c h v at step note N = to_no_scan_noted p c h v at step (inl note) N

-- ---- what follows

-- A line tries a page or a frame only with a scan.
pub tries_with_scan : (p : Place) (c : Command) (h : Held) (v : ℕ) → Claims p c h v ⊎ ClaimsNot p c h v → (map : FreeMap)
    → part_at p c h ≡ Some (try_part map) → HasScan p map
tries_with_scan p c h v (inl C) map is =
    let step = C.step in
    let T = claim_tries C.map map C.begun (claim_over C.map h.topics) (cc (step, is)) in
    subst (HasScan p) T.0 (C.scan T.1)
tries_with_scan p c h v (inr N) map is =
    let tries = ap (maps_by map) is in
    let is_one = try_maps map in
    let none = N.step map in
    absurd (cc (none, tries, is_one))

-- It comes to a scan with a step that keeps it or begins it.
claim_keeps_at : (p : Place) (c : Command) (h : Held) (v : ℕ) (C : Claims p c h v) → KeepsAt C.map p (part_at p c h)
claim_keeps_at p c h v C =
    subst (KeepsAt C.map p) (sym C.step) (claim_keeps C.map C.begun (claim_over C.map h.topics) (HasScan p C.map) C.scan)

pub keeps_scan : (p : Place) (c : Command) (h : Held) (v : ℕ) → Claims p c h v ⊎ ClaimsNot p c h v → KnowsPart p c h → (map : FreeMap)
    → HasScan (place_after (outcome_at p c h v)) map → KeepsAt map p (part_at p c h)
keeps_scan p c h v (inl C) K map S = subst (λ m. KeepsAt m p (part_at p c h)) (sym (C.one map S)) (claim_keeps_at p c h v C)
keeps_scan p c h v (inr N) K map S = N.keeps K map S

-- So it is where it is answered for want of a page or a frame, and its claim has come to the end of the map.
goes_not_end : (map : FreeMap) (o : Outcome) (answer : Answer) → claim_at map (place_after o) ≡ Some true → o ≡ Ends answer → ⊥
goes_not_end map o answer at e =
    let none : claim_at map (place_after o) ≡ None = ap (λ (x : Outcome). claim_at map (place_after x)) e ∙ no_claim_between map in
    cc (at, none)

claim_ends : (y : Sizes) (map : FreeMap) (begun : Bool) (t : Topics) (v : ℕ) (step : PartStep) (next : ClaimNext) (u : Topics) (o : Outcome)
    → ClaimMade y map begun t v step next u → LeadsFromClaim map next o → (other : FreeMap) → o ≡ Ends (answer_without other)
    → (other ≡ map) × (map_words map y ≤ (claim_over map u).at)
claim_ends y map begun t v _ _ _ o (made.SawNone not_ le) L other e =
    let at_is = ap (λ (x : MapClaim). x.at) (made.claim_seen map t (word_after_load begun (claim_over map t) v) v) in
    (L other e, subst (λ n. map_words map y ≤ n) (sym at_is) le)
claim_ends y map begun t v _ _ _ o (made.Won tries b some is) L other e = absurd (L.fed other e)
claim_ends y map begun t v _ _ _ o (made.Lost tries b some is) L other e = absurd (goes_not_end map o (answer_without other) L e)
claim_ends y map begun t v _ _ _ o (made.Saw not_ lt) L other e = absurd (goes_not_end map o (answer_without other) L e)

pub starves : (p : Place) (c : Command) (h : Held) (v : ℕ) → Claims p c h v ⊎ ClaimsNot p c h v → KnowsPart p c h → (map : FreeMap)
    → outcome_at p c h v ≡ Ends (answer_without map) → KeepsAt map p (part_at p c h) × ComesToEnd map (part_at p c h) h v
starves p c h v (inl C) K map e =
    let E = claim_ends h.state.sizes C.map C.begun h.topics v _ _ _ (outcome_at p c h v)
    (claim_made h.state.sizes C.map C.begun h.topics v) C.leads map e in
    subst (λ m. KeepsAt m p (part_at p c h) × ComesToEnd m (part_at p c h) h v) (sym E.0)
    (claim_keeps_at p c h v C, subst (λ (s : Option PartStep). ComesToEnd C.map s h v) (sym C.step) E.1)
starves p c h v (inr N) K map e = N.starved K map e

-- ---- one map

-- A line claims in one map at a time.
pub one_claim : (p : Place) (map other : FreeMap) (b c : Bool) → claim_at map p ≡ Some b → claim_at other p ≡ Some c → map ≡ other
one_claim p Pages Pages b c at is = refl
one_claim p Frames Frames b c at is = refl
one_claim (place.Host q) Pages Frames b c at is = absurd (cc at)
one_claim _ Pages Frames b c at is = absurd (cc is)
one_claim (place.Host q) Frames Pages b c at is = absurd (cc is)
one_claim _ Frames Pages b c at is = absurd (cc at)
