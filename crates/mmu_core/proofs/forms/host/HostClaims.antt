-- A line that changes a host page claims no page of the pool; one that moves it claims a frame.
use Rattle.std.proofs.Common.{◌≡◌, ◌≢◌, ◌⊎◌, inl, ◌+◌, ◌==◌, ℕ, Bool, true, false, refl, inr}
use Rattle.std.specs.Prelude.{None, if◌then◌else◌, nat_lt}
use Rattle.core_views.specs.declared.answer.Answer.TheVariants.{Done, Moved, Refused}
use Rattle.core_views.specs.declared.answer.Refusal.TheVariants.{OutOfRange, IsHuge}
use Rattle.core_views.specs.declared.place.BeginPlace.TheVariants as begins
use Rattle.core_views.specs.declared.place.EndPlace.TheVariants as ends
use Rattle.core_views.specs.declared.place.HostPlace.{HostPlace}
use Rattle.core_views.specs.declared.place.HostPlace.TheVariants.{Look, Claim, Begin, Copy, Store, Change, End, Watch, Free}
use Rattle.core_views.specs.declared.place.Place.TheVariants as place
use Rattle.core_views.specs.declared.trace.Command.TheVariants.{ChangeHost}
use Rattle.core_views.specs.declared.trace.HostChange.{HostChange}
use Rattle.core_views.specs.Held.{Held}
use Rattle.core_views.specs.HostChanges.{is_own}
use Rattle.spte_words.specs.HostWords.{host_frame}
use Rattle.part_steps.specs.declared.invalidations.Target.TheVariants as aim
use Rattle.part_steps.specs.declared.part_step.PartStep.TheVariants as part
use Rattle.part_steps.specs.FrameTopics.{words_moved}
use Rattle.part_steps.specs.PartTasks.{word_looked}
use Rattle.mmu_core.specs.declared.claim.ClaimNext.{ClaimNext}
use Rattle.mmu_core.specs.declared.invalidate.BeginNext.{BeginNext}
use Rattle.mmu_core.specs.declared.invalidate.BeginNext.TheVariants as begins_next
use Rattle.mmu_core.specs.declared.outcome.Outcome.TheVariants.{Goes, Ends}
use Rattle.mmu_core.specs.forms.access.AccessSteps.{ends_with}
use Rattle.mmu_core.specs.orders.ClaimSteps.{FreeMap, Pages, Frames, claim_next}
use Rattle.mmu_core.specs.forms.host.HostSteps.{after_begin, host_note, host_outcome, host_part, moves, after_look, maps_large}
use Rattle.mmu_core.specs.orders.InvalidateSteps.{begin_next}
use Rattle.mmu_core.specs.lines.ScanPlaces.{HasScan, answer_without, claim_at}
use Rattle.mmu_core.specs.orders.WatchSteps.{watch_next}
use Rattle.mmu_core.proofs.lines.EitherPlace.{each_map, each_watch, either_place}
use Rattle.mmu_core.proofs.forms.access.FaultScans.{maps}
use Rattle.mmu_core.proofs.lines.LineClaims.{to_no_scan_noted, Claims, ClaimsNot, HasNoScan, claim_leads, claim_notes, claim_scans, is_answered, IsLook}

abbrev is_claim : HostPlace → Bool
is_claim (Claim begun) = true
is_claim _ = false

-- ---- the other steps

no_claim : (p : HostPlace) → is_claim p ≡ false → (map : FreeMap) → claim_at map (place.Host p) ≡ None
no_claim p other Pages = refl
no_claim (Claim begun) other Frames = absurd (cc other)
no_claim _ other Frames = refl

host_maps_not : (map : FreeMap) (p : HostPlace) (page : ℕ) (change : HostChange) (h : Held) → is_claim p ≡ false → maps map (host_part p page change h) ≡ false
host_maps_not map (Claim begun) page change h other = absurd (cc other)
host_maps_not map (Look moves) page change h other =
    either_place (λ s. maps map s ≡ false) (is_own h.state.sizes h.state.actor page) (part.Host page) part.Seq refl refl
host_maps_not map (Begin (begins.Find begun)) page change h other = either_place (λ s. maps map s ≡ false) begun part.Slot part.Slots refl refl
host_maps_not map (Begin (begins.Walk rooted)) page change h other = either_place (λ s. maps map s ≡ false) rooted (part.Sweep _) part.Root refl refl
host_maps_not map (Begin _) page change h other = refl
host_maps_not map (End ends.Exclude) page change h other = refl
host_maps_not map (End _) page change h other = refl
host_maps_not map _ page change h other = refl

note_by_end : (b : Bool) → (if b then 0 else 1) ≡ ends_with (if b then Goes (place.Host Watch) else Ends Done)
note_by_end true = refl
note_by_end false = refl

host_notes : (p : HostPlace) (page : ℕ) (h : Held) (v : ℕ) → is_claim p ≡ false
    → (host_note p page h ≡ ends_with (host_outcome p page h v)) ⊎ IsLook (place.Host p)
host_notes (Claim begun) page h v other = absurd (cc other)
host_notes (Look to_move) page h v other = inr tt
host_notes (End ends.Release) page h v other = inl (note_by_end (moves h.topics))
host_notes (End _) page h v other = inl refl
host_notes _ page h v other = inl refl

or_look : {A B C : Type 0} → A ⊎ C → A ⊎ B ⊎ C
or_look (inl is) = inl is
or_look (inr look) = inr (inr look)

-- ---- none of them leads to a scan

abbrev NoScan : HostPlace → Type 0
NoScan p = HasNoScan (Goes (place.Host p))

goes_on : (p : HostPlace) → (HasScan (place.Host p) Frames → ⊥) → NoScan p
goes_on p none = record { no_scan = each_map (λ map. HasScan (place.Host p) map → ⊥) (λ S. S) none; fed = λ map e. cc e }

by_begin : (moves : Bool) (next : BeginNext) → NoScan (after_begin moves next)
by_begin moves (begins_next.Goes p) = goes_on (Begin p) (λ S. S)
by_begin true begins_next.Begun = goes_on Copy (λ S. S)
by_begin false begins_next.Begun = goes_on Change (λ S. S)

scans_none : (p : HostPlace) (page : ℕ) (h : Held) (v : ℕ) → is_claim p ≡ false → HasNoScan (host_outcome p page h v)
scans_none (Claim begun) page h v other = absurd (cc other)
scans_none (Look to_move) page h v other =
    either_place HasNoScan (is_own h.state.sizes h.state.actor page) (after_look to_move v) (Ends (Refused OutOfRange))
    (either_place HasNoScan (maps_large v) (Ends (Refused IsHuge)) (Goes (place.Host (if to_move then Claim false else Begin begins.Exclude)))
    (is_answered (Refused IsHuge) (each_map (λ map. Ends (Refused IsHuge) ≢ Ends (answer_without map)) (λ e. cc e) (λ e. cc e)))
    (either_place NoScan to_move (Claim false) (Begin begins.Exclude) (goes_on (Claim false) (λ S. cc S)) (goes_on (Begin begins.Exclude) (λ S. S))))
    (is_answered (Refused OutOfRange) (each_map (λ map. Ends (Refused OutOfRange) ≢ Ends (answer_without map)) (λ e. cc e) (λ e. cc e)))
scans_none (Begin p) page h v other = by_begin (moves h.topics) (begin_next p h.state.sizes (aim.Page page) h.topics v)
scans_none Copy page h v other = goes_on Store (λ S. S)
scans_none Store page h v other =
    either_place NoScan (nat_lt (words_moved h.topics.frames.owned + 1) h.state.sizes.words) Copy Change (goes_on Copy (λ S. S)) (goes_on Change (λ S. S))
scans_none Change page h v other =
    either_place NoScan (v == word_looked h.topics.host) (End ends.Exclude) Change (goes_on (End ends.Exclude) (λ S. S)) (goes_on Change (λ S. S))
scans_none (End ends.Release) page h v other =
    either_place HasNoScan (moves h.topics) (Goes (place.Host Watch)) (Ends Done) (goes_on Watch (λ S. S))
    (is_answered Done (each_map (λ map. Ends Done ≢ Ends (answer_without map)) (λ e. cc e) (λ e. cc e)))
scans_none (End ends.Exclude) page h v other = goes_on (End (if v == 0 then ends.Seq else ends.Exclude)) (λ S. S)
scans_none (End ends.Seq) page h v other = goes_on (End ends.SetSeq) (λ S. S)
scans_none (End ends.SetSeq) page h v other = goes_on (End ends.Count) (λ S. S)
scans_none (End ends.Count) page h v other = goes_on (End ends.SetCount) (λ S. S)
scans_none (End ends.SetCount) page h v other = goes_on (End ends.Release) (λ S. S)
scans_none Watch page h v other = each_watch NoScan (watch_next h v) Watch Free (goes_on Watch (λ S. S)) (goes_on Free (λ S. S))
scans_none Free page h v other =
    let frame : ℕ = host_frame (word_looked h.topics.host) in
    is_answered (Moved frame) (each_map (λ map. Ends (Moved frame) ≢ Ends (answer_without map)) (λ e. cc e) (λ e. cc e))

-- ---- those of its claim

scans_frames : (map : FreeMap) → HasScan (place.Host (Claim true)) map → map ≡ Frames
scans_frames Pages S = absurd S
scans_frames Frames S = refl

module _ (page : ℕ) (change : HostChange) (h : Held) (v : ℕ) where
  abbrev OfHost : HostPlace → Type 0
  OfHost p = Claims (place.Host p) (ChangeHost page change) h v ⊎ ClaimsNot (place.Host p) (ChangeHost page change) h v

  other_step : (p : HostPlace) → is_claim p ≡ false → OfHost p
  other_step p other =
      to_no_scan_noted (place.Host p) (ChangeHost page change) h v (no_claim p other) (λ map. host_maps_not map p page change h other)
      (or_look (host_notes p page h v other)) (scans_none p page h v other)

  pub host_claims_or_not : (p : HostPlace) → OfHost p
  host_claims_or_not (Claim begun) =
      let next : ClaimNext = claim_next Frames begun h.state.sizes h.topics.frames.claim v in
      let on = place.Host (Claim true) in
      let got = place.Host (Begin begins.Exclude) in
      let none = (goes_on (Begin begins.Exclude) (λ S. S)).no_scan in
      inl (record {
        map = Frames;
        begun = begun;
        at = refl;
        step = refl;
        scan = λ b. b;
        one = claim_scans Frames on got next scans_frames none;
        leads = claim_leads Frames on got next refl none;
        note = (refl, claim_notes on got (answer_without Frames) next);
      })
  host_claims_or_not p = other_step p refl

-- It begins with no scan.
pub host_begins_without : (to_move : Bool) (map : FreeMap) → HasScan (place.Host (Look to_move)) map → ⊥
host_begins_without to_move Pages S = S
host_begins_without to_move Frames S = S
