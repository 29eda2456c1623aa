-- What the line of a fault has noted where each of its steps leads.
use Rattle.std.proofs.Common.{◌≡◌, ℕ, refl}
use Rattle.std.proofs.lemmas.Bool.{eq-eqb}
use Rattle.std.specs.Prelude.{Bool, true, false, ◌==◌, ◌&&◌, nat_le, nat_lt, not, if◌then◌else◌, Some}
use Rattle.core_views.specs.declared.place.Cause.TheVariants.{Open, Moved}
use Rattle.core_views.specs.declared.place.CheckStage.{CheckStage}
use Rattle.core_views.specs.declared.place.CheckStage.TheVariants as stage
use Rattle.core_views.specs.declared.place.FaultEnd.TheVariants.{Installed, HostFault, Retry, NotFast}
use Rattle.core_views.specs.declared.place.FaultPlace.{FaultPlace}
use Rattle.core_views.specs.declared.place.FaultPlace.TheVariants.{Bring, Share, Check, Walk, Claim}
use Rattle.core_views.specs.declared.place.FaultPlace.TheVariants.{Leaf, Unshare, End, FastFind, FastWalk, Fix}
use Rattle.core_views.specs.declared.sizes.Sizes.{Sizes}
use Rattle.core_views.specs.declared.topics.Topics.{Topics}
use Rattle.core_views.specs.declared.trace.Op.{Op}
use Rattle.core_views.specs.Flat.{Notes}
use Rattle.core_views.specs.declared.host.HostEntry.{HostEntry}
use Rattle.core_views.specs.Host.{HostNotes, with_entry}
use Rattle.core_views.specs.Lawful.{SawPage, SawForbidden}
use Rattle.spte_words.specs.declared.spte_kind.SpteKind.{SpteKind}
use Rattle.spte_words.specs.declared.spte_kind.SpteKind.TheVariants as entry_kind
use Rattle.spte_words.specs.HostWords.{host_allows_write, host_present}
use Rattle.mmu_core.specs.declared.claim.ClaimNext.{ClaimNext}
use Rattle.mmu_core.specs.declared.claim.ClaimNext.TheVariants as claims
use Rattle.mmu_core.specs.declared.share.ShareNext.{ShareNext}
use Rattle.mmu_core.specs.declared.share.ShareNext.TheVariants as shares
use Rattle.mmu_core.specs.forms.access.FaultSteps.{after_claim, after_share, allows_access, check_next, end_next}
use Rattle.mmu_core.specs.forms.access.FaultSteps.{page_next, snapshot_taken, walk_next, fast_walk_next, over_next, put_next}
use Rattle.mmu_laws.specs.flat.FlatInvariant.{NotedAt, NotedLook}
use Rattle.mmu_core.proofs.lines.EitherPlace.{either_place}
use Rattle.part_steps.specs.PartHoldings.{is_fixable, one_mark_tells}
use Rattle.part_steps.specs.RunHoldings.{maps_run}

-- Where a fault stands after most of its steps the line has noted nothing, up to its look at the host, and from there on that it saw a page.
module _ (pool : ℕ → ℕ) (gfn : ℕ) (op : Op) (t : Topics) (notes : Notes) where
  abbrev pub Noted : FaultPlace → Type 0
  Noted p = NotedAt pool p gfn op t notes

  pub share_noted : SawPage notes gfn op → (next : ShareNext) → Noted (after_share next)
  share_noted saw shares.Tries = saw
  share_noted saw _ = saw

  pub check_noted : SawPage notes gfn op → (at : CheckStage) (h : Topics) (x : ℕ) → Noted (check_next at gfn h x)
  check_noted saw stage.Count h x = either_place Noted (x == 0) (Check stage.Seq) (Check stage.Start) saw saw
  check_noted saw stage.Start h x = saw
  check_noted saw stage.End h x =
      either_place Noted (nat_le h.invalidations.start gfn && nat_lt gfn x) (Unshare (Retry false (Open h.invalidations.count h.invalidations.start x gfn)))
      (Check stage.Seq) tt saw
  check_noted saw stage.Seq h x =
      either_place Noted (x == snapshot_taken h.invalidations.snapshot) (Walk false)
      (Unshare (Retry false (Moved (snapshot_taken h.invalidations.snapshot) x))) saw tt

  end_noted : SawPage notes gfn op → (write : Bool) (h : Topics) → Noted (end_next gfn write h)
  end_noted saw write h = either_place Noted (maps_run h.walk.level gfn h) (Leaf write) (Claim false) saw saw

  pub walk_noted : SawPage notes gfn op → (k : SpteKind) (z : Sizes) (write : Bool) (h : Topics) (x : ℕ) → Noted (walk_next k z gfn write h x)
  walk_noted saw entry_kind.Leaf z write h x =
      either_place Noted (allows_access write x) (Unshare Installed) (end_next gfn write h) tt (end_noted saw write h)
  walk_noted saw entry_kind.Absent z write h x = end_noted saw write h
  walk_noted saw (entry_kind.Table page) z write h x = saw
  walk_noted saw entry_kind.Frozen z write h x = tt

  pub over_noted : (fast marked : Bool) → Noted (over_next fast marked)
  over_noted true marked = tt
  over_noted false marked = tt

  pub put_noted : (fast marks : Bool) → Noted (put_next fast marks)
  put_noted fast true = tt
  put_noted fast false = over_noted fast false

  pub fast_walk_noted : (k : SpteKind) (level : ℕ) (logged : Bool) (x : ℕ) → Noted (fast_walk_next k level logged x)
  fast_walk_noted (entry_kind.Table page) level logged x = tt
  fast_walk_noted entry_kind.Leaf level logged x = either_place Noted (one_mark_tells level logged && is_fixable x) Fix (End (NotFast x)) tt tt
  fast_walk_noted entry_kind.Absent level logged x = tt
  fast_walk_noted entry_kind.Frozen level logged x = tt

  pub fast_find_noted : (found none : Bool) → Noted (if found then FastWalk false else if none then End (NotFast 0) else FastFind true)
  fast_find_noted true none = tt
  fast_find_noted false true = tt
  fast_find_noted false false = tt

  pub claim_noted : SawPage notes gfn op → (next : ClaimNext) → Noted (after_claim next)
  claim_noted saw claims.Goes = saw
  claim_noted saw _ = saw

  -- The host allows the access, or forbids the write.
  pub host_noted : (write : Bool) (x : ℕ) → ((write && not (host_allows_write x)) ≡ false → SawPage notes gfn op)
      → ((write && not (host_allows_write x)) ≡ true → SawForbidden notes gfn op)
      → ((write && not (host_allows_write x)) ≡ false → NotedLook notes t.host gfn op) → Noted (page_next write x)
  host_noted write x saw denied looked = by (write && not (host_allows_write x)) refl
    where
      by : (b : Bool) → (write && not (host_allows_write x)) ≡ b → Noted (if b then End HostFault else if host_present x then Share else Bring)
      by true is = denied is
      by false is = either_place Noted (host_present x) Share Bring (saw is) (looked is)

pub entry_noted : (page : ℕ) (entry : HostEntry) (host : HostNotes) → with_entry page entry host page ≡ Some entry
entry_noted page entry host = rw (eq-eqb page page refl) refl
