-- Which steps of an access claim: those of its fault's claim; it is starved only after one.
use Rattle.std.proofs.Common.{◌≡◌, ◌≢◌, ◌⊎◌, inl, inr, ◌≤◌, ℕ, refl}
use Rattle.std.specs.Prelude.{Bool, true, false, Option, Some, None, if◌then◌else◌}
use Rattle.core_views.specs.declared.answer.Answer.TheVariants.{Reached, Starved}
use Rattle.core_views.specs.declared.cache.Translation.{Translation}
use Rattle.core_views.specs.declared.place.AccessPlace.{AccessPlace}
use Rattle.core_views.specs.declared.place.AccessPlace.TheVariants as access
use Rattle.core_views.specs.declared.place.FaultEnd.TheVariants as end_of
use Rattle.core_views.specs.declared.place.FaultNext.{FaultNext}
use Rattle.core_views.specs.declared.place.FaultNext.TheVariants as next_of
use Rattle.core_views.specs.declared.place.FaultPlace.{FaultPlace}
use Rattle.core_views.specs.declared.place.FaultPlace.TheVariants as fault
use Rattle.core_views.specs.declared.place.Leaving.TheVariants as leaving
use Rattle.core_views.specs.declared.place.Place.TheVariants as place
use Rattle.core_views.specs.declared.trace.Command.TheVariants.{Access}
use Rattle.core_views.specs.declared.sizes.Sizes.{Sizes}
use Rattle.core_views.specs.declared.topics.Topics.{Topics}
use Rattle.core_views.specs.declared.trace.Op.{Op}
use Rattle.core_views.specs.Held.{Held}
use Rattle.core_views.specs.Slots.{is_write}
use Rattle.spte_words.specs.declared.spte_kind.SpteKind.{SpteKind}
use Rattle.spte_words.specs.declared.spte_kind.SpteKind.TheVariants as entry_kind
use Rattle.spte_words.specs.Areas.{words_of_bits}
use Rattle.spte_words.specs.Entries.{kind_of}
use Rattle.part_steps.specs.declared.part_step.PartStep.TheVariants as part
use Rattle.part_steps.specs.PartTopics.{part_topics}
use Rattle.mmu_core.specs.declared.outcome.Outcome.TheVariants.{Goes, Ends}
use Rattle.mmu_core.specs.declared.claim.ClaimNext.{ClaimNext}
use Rattle.mmu_core.specs.declared.claim.ClaimNext.TheVariants as claims
use Rattle.mmu_core.specs.forms.access.AccessSteps.{access_note, access_outcome, ends_with, behind_fault, pause_next, stay_next}
use Rattle.mmu_core.specs.forms.access.Cached.{first_usable, frame_used}
use Rattle.mmu_core.specs.orders.ClaimSteps.{FreeMap, Pages, Frames, claim_next}
use Rattle.mmu_core.specs.forms.access.FaultSteps as fault_steps
use Rattle.mmu_core.specs.forms.access.FaultSteps.{allows_access, fault_next, fault_part}
use Rattle.mmu_core.specs.lines.Forms.{KnowsPart}
use Rattle.mmu_core.specs.lines.ScanPlaces.{BegunNext, HasBegun, HasScan, answer_without, claim_at}
use Rattle.mmu_core.specs.machine.Outcomes.{place_after}
use Rattle.mmu_core.proofs.lines.EitherPlace.{each_map}
use Rattle.mmu_core.proofs.forms.access.FaultScans.{KeepsScan, fault_keeps, fault_maps_not, is_claim}
use Rattle.mmu_core.proofs.forms.access.FaultScans as scans
use Rattle.mmu_core.proofs.lines.LineClaims.{Claims, ClaimsNot, ComesToEnd, HasNoScan, KeepsAt, LeadsFromClaim, is_answered, to_no_scan}

fault_at : (p : FaultPlace) → is_claim p ≡ false → (map : FreeMap) → claim_at map (place.Access (access.Fault p)) ≡ None
fault_at p is Frames = refl
fault_at (fault.Claim begun) is Pages = absurd (cc is)
fault_at _ is Pages = refl

-- An access has no scan of the map of frames.
scans_pages : (p : FaultPlace) (map : FreeMap) → HasScan (place.Access (access.Fault p)) map → map ≡ Pages
scans_pages p Pages S = refl
scans_pages p Frames S = absurd S

fault_leads : (next : ClaimNext) → LeadsFromClaim Pages next (behind_fault (next_of.Goes (fault_steps.after_claim next)))
fault_leads claims.Goes = refl
fault_leads claims.Got = record { no_scan = each_map (λ map. HasScan (place.Access (access.Fault fault.Fill)) map → ⊥) (λ S. S) (λ S. S); fed = λ map e. cc e }
fault_leads claims.Empty = λ map e. absurd (cc e)

-- Where its fault is over an access has no scan, and it is never refused a frame.
no_frames : (n : FaultNext) → (HasScan (place_after (behind_fault n)) Frames → ⊥) × (behind_fault n ≢ Ends (answer_without Frames))
no_frames (next_of.Goes p) = (λ S. S, λ e. cc e)
no_frames (next_of.Ends end_of.Installed) = (λ S. S, λ e. cc e)
no_frames (next_of.Ends end_of.Mmio) = (λ S. S, λ e. cc e)
no_frames (next_of.Ends end_of.HostFault) = (λ S. S, λ e. cc e)
no_frames (next_of.Ends end_of.Starved) = (λ S. S, λ e. cc e)
no_frames (next_of.Ends (end_of.Fixed marked)) = (λ S. S, λ e. cc e)
no_frames (next_of.Ends (end_of.NotFast seen)) = (λ S. S, λ e. cc e)
no_frames (next_of.Ends (end_of.Retry fast cause)) = (λ S. S, λ e. cc e)

over_begun : (n : FaultNext) → HasScan (place_after (behind_fault n)) Pages → BegunNext n
over_begun (next_of.Goes p) S = S
over_begun (next_of.Ends end_of.Installed) S = absurd S
over_begun (next_of.Ends end_of.Mmio) S = absurd S
over_begun (next_of.Ends end_of.HostFault) S = absurd S
over_begun (next_of.Ends end_of.Starved) S = absurd S
over_begun (next_of.Ends (end_of.Fixed marked)) S = absurd S
over_begun (next_of.Ends (end_of.NotFast seen)) S = absurd S
over_begun (next_of.Ends (end_of.Retry fast cause)) S = absurd S

-- The note of an access is 1 where it is answered.
fault_note : (p : FaultPlace) (z : Sizes) (gfn : ℕ) (write : Bool) (t : Topics) (v : ℕ)
    → access_note (access.Fault p) ≡ ends_with (behind_fault (fault_next p z gfn write t v))
fault_note (fault.End e) z gfn write t v = refl
fault_note _ z gfn write t v = refl

starved_at : (p : FaultPlace) (h : Held) (gfn : ℕ) (op : Op) (v : ℕ) → KnowsPart (place.Access (access.Fault p)) (Access gfn 0 op) h
    → behind_fault (fault_next p h.state.sizes gfn (is_write op) h.topics v) ≡ Ends Starved
    → KeepsScan Pages (HasBegun p) (fault_part p gfn h.topics)
    × (words_of_bits h.state.sizes.pool ≤ (part_topics (fault_part p gfn h.topics) h.topics v).claim.at)
starved_at (fault.End end_of.Starved) h gfn op v K e = (scans.Keeps part.End tt refl, K.2)
starved_at (fault.End end_of.Installed) h gfn op v K e = absurd (cc e)
starved_at (fault.End end_of.Mmio) h gfn op v K e = absurd (cc e)
starved_at (fault.End end_of.HostFault) h gfn op v K e = absurd (cc e)
starved_at (fault.End (end_of.Fixed marked)) h gfn op v K e = absurd (cc e)
starved_at (fault.End (end_of.Retry fast cause)) h gfn op v K e = absurd (cc e)
starved_at _ h gfn op v K e = absurd (cc e)

-- Another place of an access leads to no scan.
abbrev is_fault : AccessPlace → Bool
is_fault (access.Fault p) = true
is_fault _ = false

no_claim : (p : AccessPlace) → is_fault p ≡ false → (map : FreeMap) → claim_at map (place.Access p) ≡ None
no_claim (access.Fault p) other map = absurd (cc other)
no_claim _ other Pages = refl
no_claim _ other Frames = refl

goes_on : (p : AccessPlace) → is_fault p ≡ false → HasNoScan (Goes (place.Access p))
goes_on (access.Fault p) other = absurd (cc other)
goes_on p other = record { no_scan = each_map (λ map. HasScan (place.Access p) map → ⊥) (λ S. S) (λ S. S); fed = λ map e. cc e }

faults : (fast : Bool) → HasNoScan (Goes (place.Access (access.Fault (if fast then fault.FastBegin else fault.Begin))))
faults true = record { no_scan = each_map (λ map. HasScan (place.Access (access.Fault fault.FastBegin)) map → ⊥) (λ S. S) (λ S. S); fed = λ map e. cc e }
faults false = record { no_scan = each_map (λ map. HasScan (place.Access (access.Fault fault.Begin)) map → ⊥) (λ S. S) (λ S. S); fed = λ map e. cc e }

answers : (frame value : ℕ) → HasNoScan (Ends (Reached frame value))
answers frame value = is_answered (Reached frame value) (each_map (λ map. Ends (Reached frame value) ≢ Ends (answer_without map)) (λ e. cc e) (λ e. cc e))

not_by_pause : (again : Bool) (f : Option Translation) → HasNoScan (Goes (place.Access (pause_next again f)))
not_by_pause again None = goes_on (access.Root again) refl
not_by_pause again (Some t) = goes_on access.Touch refl

not_by_stay : (again : Bool) (k : SpteKind) (allowed : Bool) → HasNoScan (Goes (place.Access (stay_next again k allowed)))
not_by_stay again (entry_kind.Table page) allowed = goes_on (access.Walk again) refl
not_by_stay again entry_kind.Leaf true = goes_on access.Touch refl
not_by_stay again entry_kind.Leaf false = goes_on (access.Leave (leaving.Faults true)) refl
not_by_stay again _ _ = goes_on (access.Leave (leaving.Faults false)) refl

module _ (gfn word : ℕ) (op : Op) (h : Held) (v : ℕ) where
  abbrev OfAccess : AccessPlace → Type 0
  OfAccess p = Claims (place.Access p) (Access gfn word op) h v ⊎ ClaimsNot (place.Access p) (Access gfn word op) h v

  fault_claims_or_not : (p : FaultPlace) → OfAccess (access.Fault p)
  fault_claims_or_not (fault.Claim begun) = inl (record {
    map = Pages;
    begun = begun;
    at = refl;
    step = refl;
    scan = λ b. b;
    one = scans_pages (fault_steps.after_claim (claim_next Pages begun h.state.sizes h.topics.claim v));
    leads = fault_leads (claim_next Pages begun h.state.sizes h.topics.claim v);
    note = refl;
  })
  fault_claims_or_not p =
      let n : FaultNext = fault_next p h.state.sizes gfn (is_write op) h.topics v in
      inr (record {
        at = fault_at p refl;
        step = λ map. fault_maps_not map p gfn h.topics refl;
        note = inl (fault_note p h.state.sizes gfn (is_write op) h.topics v);
        keeps = λ K.
            each_map (λ map. HasScan (place_after (behind_fault n)) map → KeepsAt map (place.Access (access.Fault p)) (Some (fault_part p gfn h.topics)))
            (λ S. fault_keeps p h.state.sizes gfn (is_write op) h.topics v K (over_begun n S)) (λ S. absurd ((no_frames n).0 S));
        starved = λ K.
            each_map
            (λ map. behind_fault n ≡ Ends (answer_without map) → KeepsAt map (place.Access (access.Fault p)) (Some (fault_part p gfn h.topics))
            × ComesToEnd map (Some (fault_part p gfn h.topics)) h v)
            (λ e. starved_at p h gfn op v K e) (λ e. absurd ((no_frames n).1 e));
      })

  other_step : (p : AccessPlace) → is_fault p ≡ false → HasNoScan (access_outcome p h gfn op v) → OfAccess p
  other_step (access.Fault p) other N = absurd (cc other)
  other_step (access.Leave (leaving.Reached frame value)) other N =
      to_no_scan (place.Access (access.Leave (leaving.Reached frame value))) (Access gfn word op) h v (no_claim _ refl) (λ map. refl) refl N
  other_step (access.Leave (leaving.Faults fast)) other N =
      to_no_scan (place.Access (access.Leave (leaving.Faults fast))) (Access gfn word op) h v (no_claim _ refl) (λ map. refl) refl N
  other_step p other N = to_no_scan (place.Access p) (Access gfn word op) h v (no_claim p refl) (λ map. refl) refl N

  pub access_claims_or_not : (p : AccessPlace) → OfAccess p
  access_claims_or_not (access.Enter again) = other_step (access.Enter again) refl (goes_on (access.Pause again) refl)
  access_claims_or_not (access.Pause again) =
      other_step (access.Pause again) refl (not_by_pause again (first_usable gfn (is_write op) h.cached.items))
  access_claims_or_not (access.Root again) = other_step (access.Root again) refl (goes_on (access.Walk again) refl)
  access_claims_or_not (access.Walk again) =
      other_step (access.Walk again) refl (not_by_stay again (kind_of h.topics.walk.level v) (allows_access (is_write op) v))
  access_claims_or_not access.Touch = other_step access.Touch refl (goes_on (access.Leave (leaving.Reached (frame_used gfn h.state) v)) refl)
  access_claims_or_not (access.Leave (leaving.Reached frame value)) =
      other_step (access.Leave (leaving.Reached frame value)) refl (answers frame value)
  access_claims_or_not (access.Leave (leaving.Faults fast)) = other_step (access.Leave (leaving.Faults fast)) refl (faults fast)
  access_claims_or_not (access.Fault p) = fault_claims_or_not p
