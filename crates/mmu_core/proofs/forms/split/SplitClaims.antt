-- Which steps of a line that splits a large leaf claim: those of its claim; it is starved only after one.
use Rattle.std.proofs.Common.{◌≡◌, ◌≢◌, ◌⊎◌, inl, inr, ◌+◌, ℕ, refl}
use Rattle.std.specs.Prelude.{true, false, ◌==◌, nat_le, nat_lt, Some, None}
use Rattle.core_views.specs.declared.place.Place.TheVariants as place
use Rattle.core_views.specs.declared.place.SplitEnd.{SplitEnd}
use Rattle.core_views.specs.declared.place.SplitEnd.TheVariants as end_of
use Rattle.core_views.specs.declared.place.SplitPlace.{SplitPlace}
use Rattle.core_views.specs.declared.place.SplitPlace.TheVariants.{Begin, Share, Walk, Claim, Fill, Role, Link, Give, Unshare, End}
use Rattle.core_views.specs.declared.sizes.Sizes.{Sizes}
use Rattle.core_views.specs.declared.topics.Topics.{Topics}
use Rattle.core_views.specs.declared.trace.Command.TheVariants as command
use Rattle.core_views.specs.Held.{Held}
use Rattle.spte_words.specs.declared.spte_kind.SpteKind.{SpteKind}
use Rattle.spte_words.specs.declared.spte_kind.SpteKind.TheVariants as entry_kind
use Rattle.spte_words.specs.Entries.{kind_of}
use Rattle.part_steps.specs.declared.part_step.PartStep.TheVariants as part
use Rattle.part_steps.specs.PartTasks.{words_filled}
use Rattle.mmu_core.specs.declared.claim.ClaimNext.{ClaimNext}
use Rattle.mmu_core.specs.declared.claim.ClaimNext.TheVariants as claims
use Rattle.mmu_core.specs.declared.outcome.Outcome.TheVariants.{Goes, Ends}
use Rattle.mmu_core.specs.declared.share.ShareNext.{ShareNext}
use Rattle.mmu_core.specs.declared.share.ShareNext.TheVariants as shares
use Rattle.mmu_core.specs.forms.access.AccessSteps.{ends_with}
use Rattle.mmu_core.specs.forms.split.SplitKnows.{IsChanged, SplitKnows}
use Rattle.mmu_core.specs.forms.split.SplitSteps.{after_claim, after_share, entry_next, split_note, split_outcome, split_part}
use Rattle.mmu_core.specs.lines.ScanPlaces.{HasBegunSplit, HasScan, IsStarvedSplit, answer_without, claim_at}
use Rattle.mmu_core.specs.machine.Outcomes.{place_after}
use Rattle.mmu_core.specs.orders.ClaimSteps.{FreeMap, Pages, Frames, claim_next}
use Rattle.mmu_core.specs.orders.ShareSteps.{share_next}
use Rattle.mmu_core.proofs.forms.access.FaultScans.{KeepsScan, claim_keeps}
use Rattle.mmu_core.proofs.forms.access.FaultScans as scans
use Rattle.mmu_core.proofs.forms.split.SplitPlaces.{is_claim, split_maps_not}
use Rattle.mmu_core.proofs.lines.EitherPlace.{each_map, either_place}
use Rattle.mmu_core.proofs.lines.LineClaims.{Claims, ClaimsNot, ComesToEnd, KeepsAt, LeadsFromClaim}

-- It has no scan of the map of frames, and claims nowhere else.
scans_pages : (p : SplitPlace) (map : FreeMap) → HasScan (place.Split p) map → map ≡ Pages
scans_pages p Pages S = refl
scans_pages p Frames S = absurd S

no_claim : (p : SplitPlace) → is_claim p ≡ false → (map : FreeMap) → claim_at map (place.Split p) ≡ None
no_claim (Claim begun) other map = absurd (cc other)
no_claim _ other Pages = refl
no_claim _ other Frames = refl

-- ---- which places lead to one with a scan

abbrev NotBegun : SplitPlace → Type 0
NotBegun p = HasBegunSplit p → ⊥

not_by_share : (next : ShareNext) → NotBegun (after_share next)
not_by_share shares.Tries = λ S. S
not_by_share shares.Shares = λ S. S

not_by_entry : (k : SpteKind) (level v : ℕ) → NotBegun (entry_next k level v)
not_by_entry (entry_kind.Table page) level v = λ S. S
not_by_entry entry_kind.Leaf level v = either_place NotBegun (nat_le 2 level) (Claim false) (Unshare (end_of.Nothing v)) (λ S. absurd (cc S)) (λ S. S)
not_by_entry entry_kind.Absent level v = λ S. S
not_by_entry entry_kind.Frozen level v = λ S. S

changed_starves_not : (e : SplitEnd) → IsChanged e → IsStarvedSplit e → ⊥
changed_starves_not end_of.Starved changed starved = changed
changed_starves_not _ changed starved = starved

-- A step to a place with a scan keeps the scan, or begins it.
keeps : (p : SplitPlace) (z : Sizes) (gfn : ℕ) (t : Topics) (v : ℕ) → SplitKnows p z gfn t → HasScan (place_after (split_outcome p z t v)) Pages
    → KeepsScan Pages (HasBegunSplit p) (split_part p gfn t)
keeps Begin z gfn t v K S = absurd S
keeps Share z gfn t v K S = absurd (not_by_share (share_next t.hold v) S)
keeps (Walk rooted) z gfn t v K S =
    absurd (either_place NotBegun rooted (entry_next (kind_of t.walk.level v) t.walk.level v) (Walk true)
    (not_by_entry (kind_of t.walk.level v) t.walk.level v) (λ S. S) S)
keeps (Claim begun) z gfn t v K S = claim_keeps Pages begun t.claim (begun ≡ true) (λ b. b)
keeps Fill z gfn t v K S = absurd (either_place NotBegun (nat_lt (words_filled t.owned + 1) 512) Fill Role (λ S. S) (λ S. S) S)
keeps Role z gfn t v K S = absurd S
keeps Link z gfn t v K S =
    absurd (either_place NotBegun (v == t.walk.entry) (Unshare end_of.Split) (Give (end_of.Changed v)) (λ S. S) (λ S. S) S)
keeps (Give e) z gfn t v K S = absurd (changed_starves_not e K.5 S)
keeps (Unshare e) z gfn t v K S = scans.Keeps part.Unshare S refl
keeps (End e) z gfn t v K S = absurd S

no_frames : (p : SplitPlace) (z : Sizes) (t : Topics) (v : ℕ) → HasScan (place_after (split_outcome p z t v)) Frames → ⊥
no_frames (End e) z t v S = S
no_frames _ z t v S = S

-- ---- how it ends

notes : (p : SplitPlace) (z : Sizes) (t : Topics) (v : ℕ) → split_note p ≡ ends_with (split_outcome p z t v)
notes (End e) z t v = refl
notes _ z t v = refl

module _ (gfn : ℕ) (h : Held) (v : ℕ) where
  abbrev Keeps : SplitPlace → FreeMap → Type 0
  Keeps p map = KeepsAt map (place.Split p) (Some (split_part p gfn h.topics))

  -- It is starved only with its last step, after a claim that has come to the end of the map.
  starved_at : (p : SplitPlace) (map : FreeMap) → SplitKnows p h.state.sizes gfn h.topics
      → split_outcome p h.state.sizes h.topics v ≡ Ends (answer_without map) → Keeps p map × ComesToEnd map (Some (split_part p gfn h.topics)) h v
  starved_at (End end_of.Starved) Pages K e = (scans.Keeps part.End tt refl, K.2)
  starved_at (End end_of.Starved) Frames K e = absurd (cc e)
  starved_at (End end_of.Split) map K e = absurd (done_not map e)
    where
      done_not : (m : FreeMap) → split_outcome (End end_of.Split) h.state.sizes h.topics v ≢ Ends (answer_without m)
      done_not Pages e = cc e
      done_not Frames e = cc e
  starved_at (End (end_of.Nothing word)) map K e = absurd (done_not map e)
    where
      done_not : (m : FreeMap) → split_outcome (End (end_of.Nothing word)) h.state.sizes h.topics v ≢ Ends (answer_without m)
      done_not Pages e = cc e
      done_not Frames e = cc e
  starved_at (End (end_of.Changed seen)) map K e = absurd (done_not map e)
    where
      done_not : (m : FreeMap) → split_outcome (End (end_of.Changed seen)) h.state.sizes h.topics v ≢ Ends (answer_without m)
      done_not Pages e = cc e
      done_not Frames e = cc e
  starved_at _ map K e = absurd (cc e)

  abbrev OfSplit : SplitPlace → Type 0
  OfSplit p = Claims (place.Split p) (command.Split gfn) h v ⊎ ClaimsNot (place.Split p) (command.Split gfn) h v

  leads : (next : ClaimNext) → LeadsFromClaim Pages next (Goes (place.Split (after_claim next)))
  leads claims.Goes = refl
  leads claims.Got = record { no_scan = each_map (λ map. HasScan (place.Split Fill) map → ⊥) (λ S. S) (λ S. S); fed = λ map e. cc e }
  leads claims.Empty = λ map e. absurd (cc e)

  other_step : (p : SplitPlace) → is_claim p ≡ false → OfSplit p
  other_step p other = inr (record {
    at = no_claim p other;
    step = λ map. split_maps_not map p gfn h.topics other;
    note = inl (notes p h.state.sizes h.topics v);
    keeps = λ K.
        each_map (λ map. HasScan (place_after (split_outcome p h.state.sizes h.topics v)) map → Keeps p map)
        (λ S. keeps p h.state.sizes gfn h.topics v K S) (λ S. absurd (no_frames p h.state.sizes h.topics v S));
    starved = λ K map e. starved_at p map K e;
  })

  pub split_claims_or_not : (p : SplitPlace) → OfSplit p
  split_claims_or_not (Claim begun) = inl (record {
    map = Pages;
    begun = begun;
    at = refl;
    step = refl;
    scan = λ b. b;
    one = scans_pages (after_claim (claim_next Pages begun h.state.sizes h.topics.claim v));
    leads = leads (claim_next Pages begun h.state.sizes h.topics.claim v);
    note = refl;
  })
  split_claims_or_not p = other_step p refl

-- It begins with no scan.
pub split_begins_without : (map : FreeMap) → HasScan (place.Split Begin) map → ⊥
split_begins_without Pages S = S
split_begins_without Frames S = S
