-- An access that has marked its page, or has found it writable, goes on to its touch where it is alone.
use Rattle.std.proofs.Common.{◌≡◌, ◌≢◌, ℕ, refl, subst, ap}
use Rattle.std.specs.Prelude.{Bool, true, false, ◌&&◌, Option, Some, None}
use Rattle.core_views.specs.declared.cache.Translation.{Translation}
use Rattle.core_views.specs.declared.place.AccessPlace.{AccessPlace}
use Rattle.core_views.specs.declared.place.AccessPlace.TheVariants.{Enter, Pause, Root, Walk, Touch, Leave, Fault}
use Rattle.core_views.specs.declared.place.FaultEnd.TheVariants.{Fixed, Installed}
use Rattle.core_views.specs.declared.place.FaultPlace.TheVariants as fault
use Rattle.core_views.specs.declared.place.Place.{Place}
use Rattle.core_views.specs.declared.place.Place.TheVariants as place
use Rattle.core_views.specs.declared.trace.Command.{Command}
use Rattle.core_views.specs.declared.trace.Command.TheVariants.{Access}
use Rattle.core_views.specs.declared.trace.Op.{Op}
use Rattle.core_views.specs.Held.{Held}
use Rattle.core_views.specs.Slots.{is_write}
use Rattle.spte_words.specs.declared.spte_kind.SpteKind.{SpteKind}
use Rattle.spte_words.specs.declared.spte_kind.SpteKind.TheVariants as entry_kind
use Rattle.spte_words.specs.Entries.{kind_of}
use Rattle.mmu_core.specs.declared.outcome.Outcome.TheVariants.{Goes}
use Rattle.mmu_core.specs.forms.access.AccessSteps.{access_outcome, pause_next, stay_next}
use Rattle.mmu_core.specs.forms.access.Cached.{first_usable}
use Rattle.mmu_core.specs.lines.Delays.{leaves_to_fault, walks_again}
use Rattle.mmu_core.specs.forms.access.FaultSteps.{allows_access}
use Rattle.mmu_core.specs.lines.Forms.{outcome_at}
use Rattle.mmu_core.specs.machine.Outcomes.{place_after}
use Rattle.log_invariant.specs.LogInvariant.{IsMarkingAt}
use Rattle.mmu_laws.specs.forms.log.ReadingsAlone.{WritesLaterAt, comes_to_touch}

paused_on : (used : Option Translation) → comes_to_touch (pause_next true used) ≡ true
paused_on None = refl
paused_on (Some t) = refl

walked_on : (k : SpteKind) (allowed : Bool) → leaves_to_fault (Goes (place.Access (stay_next true k allowed))) ≡ false
    → comes_to_touch (stay_next true k allowed) ≡ true
walked_on (entry_kind.Table page) allowed finds = refl
walked_on entry_kind.Leaf true finds = refl
walked_on entry_kind.Leaf false finds = absurd (cc finds)
walked_on entry_kind.Absent allowed finds = absurd (cc finds)
walked_on entry_kind.Frozen allowed finds = absurd (cc finds)

module _ (h : Held) (gfn word : ℕ) (op : Op) (v : ℕ) where
  abbrev GoesOn : AccessPlace → Type 0
  GoesOn p = WritesLaterAt (place_after (access_outcome p h gfn op v)) (Access gfn word op) gfn

  access_on : (p : AccessPlace) → comes_to_touch p ≡ true → is_write op ≡ true → p ≢ Touch
      → (walks_again (place.Access p) && leaves_to_fault (access_outcome p h gfn op v)) ≡ false → GoesOn p
  access_on (Enter true) comes writes other finds = (refl, refl, writes)
  access_on (Pause true) comes writes other finds = (paused_on (first_usable gfn (is_write op) h.cached.items), refl, writes)
  access_on (Root true) comes writes other finds = (refl, refl, writes)
  access_on (Walk true) comes writes other finds =
      (walked_on (kind_of h.topics.walk.level v) (allows_access (is_write op) v) finds, refl, writes)
  access_on (Enter false) comes writes other finds = absurd (cc comes)
  access_on (Pause false) comes writes other finds = absurd (cc comes)
  access_on (Root false) comes writes other finds = absurd (cc comes)
  access_on (Walk false) comes writes other finds = absurd (cc comes)
  access_on (Fault (fault.Unshare Installed)) comes writes other finds = (refl, refl, writes)
  access_on (Fault (fault.End Installed)) comes writes other finds = (refl, refl, writes)
  access_on (Fault (fault.End (Fixed marked))) comes writes other finds = (refl, refl, writes)
  access_on Touch comes writes other finds = absurd (other refl)
  access_on (Fault (fault.Unshare _)) comes writes other finds = absurd (cc comes)
  access_on (Fault (fault.End _)) comes writes other finds = absurd (cc comes)
  access_on (Fault _) comes writes other finds = absurd (cc comes)
  access_on (Leave how) comes writes other finds = absurd (cc comes)

-- So it goes on, but with its touch, where its stay finds the leaf.
pub writes_on : (p : Place) (command : Command) (h : Held) (v gfn : ℕ) → WritesLaterAt p command gfn → p ≢ place.Access Touch
    → (walks_again p && leaves_to_fault (outcome_at p command h v)) ≡ false → WritesLaterAt (place_after (outcome_at p command h v)) command gfn
writes_on (place.Access p) (Access at word op) h v gfn W other finds =
    subst (λ g. WritesLaterAt (place_after (access_outcome p h at op v)) (Access at word op) g) W.1
    (access_on h at word op v p W.0 W.2 (λ e. other (ap (λ q. place.Access q) e)) finds)
writes_on (place.Access p) _ h v gfn W other finds = absurd W
writes_on _ command h v gfn W other finds = absurd W

-- Who marks is such an access after it.
marked_fast : (fast : Bool) (h : Held) (gfn word : ℕ) (op : Op) (v : ℕ) → is_write op ≡ true
    → WritesLaterAt (place_after (access_outcome (Fault (fault.Mark fast)) h gfn op v)) (Access gfn word op) gfn
marked_fast true h gfn word op v writes = (refl, refl, writes)
marked_fast false h gfn word op v writes = (refl, refl, writes)

pub marks_on : (p : Place) (command : Command) (h : Held) (v gfn : ℕ) → IsMarkingAt p command gfn
    → WritesLaterAt (place_after (outcome_at p command h v)) command gfn
marks_on (place.Access (Fault (fault.Mark fast))) (Access at word op) h v gfn M =
    subst (λ g. WritesLaterAt (place_after (access_outcome (Fault (fault.Mark fast)) h at op v)) (Access at word op) g) M.0
    (marked_fast fast h at word op v M.1)
marks_on _ _ h v gfn M = absurd M
