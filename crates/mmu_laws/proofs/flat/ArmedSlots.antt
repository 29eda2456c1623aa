-- What allows writes in a slot of which flat memory logs them is covered: no line excuses it any more.
use Rattle.std.proofs.Common.{◌≡◌, ◌⊎◌, ◌<◌, inl, inr, ℕ}
use Rattle.std.specs.Prelude.{true}
use Rattle.core_views.specs.declared.sizes.Sizes.{Sizes}
use Rattle.core_views.specs.declared.place.Place.{Place}
use Rattle.core_views.specs.declared.place.Place.TheVariants as place
use Rattle.core_views.specs.declared.trace.Command.{Command}
use Rattle.core_views.specs.Events.{after_all}
use Rattle.core_views.specs.Flat.{Flat, first_flat}
use Rattle.core_views.specs.Held.{Held}
use Rattle.core_views.specs.Sizes.{actors_of}
use Rattle.spte_words.specs.declared.area.Area.TheVariants as area
use Rattle.mmu_core.specs.machine.Enabled.{mmu}
use Rattle.mmu_core.specs.machine.Machine.{run}
use Rattle.mmu_core.specs.machine.View.{View, view}
use Rattle.mmu_core.specs.machine.Worlds.{history}
use Rattle.log_invariant.specs.Excuses.{ExcusesCached, ExcusesLeaf, forbidding_at}
use Rattle.log_invariant.specs.Forbidding.{FlushesLater, ForbidsLater}
use Rattle.log_invariant.specs.forms.slot_change.LogBegins.{begun_at}
use Rattle.log_invariant.specs.forms.log.LogReads.{taken_at, taken_out}
use Rattle.log_invariant.specs.LogInvariant.{IsGuarded, IsGuardedIn, LogInvariant}
use Rattle.log_invariant.proofs.LogRuns.{writes_are_covered}
use Rattle.mmu_laws.specs.flat.ArmedSlots.{ArmedSlotsAreCovered, IsCoveredOf, IsCoveredSlot}
use Rattle.mmu_laws.specs.flat.FlatLogs.{FlatLogs, IsArmedIn, IsBeginning}
use Rattle.mmu_laws.proofs.flat.EveryLog.{every_log}
use Rattle.mmu_laws.proofs.forms.access.TouchLogs.{use_begins}

-- Whose line may still allow writes to a guest frame is to begin a log of its slot, or has taken the frame out of it.
forbids_taken : (p : Place) (command : Command) (h : Held) (gfn : ℕ) → ForbidsLater (forbidding_at p command h) gfn
    → (begun_at p h.topics).Has gfn ⊎ ForbidsLater (taken_at p command h) gfn
forbids_taken (place.SlotChange q) command h gfn later = inl later.0
forbids_taken _ command h gfn later = inr later

allow_begins : (h : Held) (gfn : ℕ) → ExcusesLeaf h gfn → IsBeginning h gfn ⊎ ForbidsLater (taken_out h) gfn
allow_begins h gfn (inl opens) = inl (inl opens)
allow_begins h gfn (inr later) = by (forbids_taken h.state.place h.state.line.command h gfn later)
  where
    by : (begun_at h.state.place h.topics).Has gfn ⊎ ForbidsLater (taken_out h) gfn → IsBeginning h gfn ⊎ ForbidsLater (taken_out h) gfn
    by (inl begins) = inl (inr begins)
    by (inr taken) = inr taken

-- So where none is to begin it, what is guarded is covered, or taken.
all_covered : (z : Sizes) (v : View) (id gfn : ℕ) (A : IsArmedIn (actors_of z) (v.words area.Pool) (v.words area.Slots 0) v.hand id)
    (Excuses Taken : Held → ℕ → Type 0) → ((h : Held) → Excuses h gfn → IsBeginning h gfn ⊎ Taken h gfn)
    → IsGuardedIn (actors_of z) (v.words area.Log) (v.words area.Pool) (v.words area.Slots 0) v.hand Excuses gfn → IsCoveredOf z v Taken A.slot gfn
all_covered z v id gfn A Excuses Taken begins guarded has = by (guarded id A.slot A.logged has)
  where
    Covered : Type 0
    Covered = IsGuarded (actors_of z) (v.words area.Log) v.hand Taken A.slot gfn

    excused : (j : ℕ) → j < actors_of z → IsBeginning (v.hand j) gfn ⊎ Taken (v.hand j) gfn → Covered
    excused j lt (inl B) = absurd (A.begun j gfn lt has B)
    excused j lt (inr taken) = inr (j, lt, taken)

    by : IsGuarded (actors_of z) (v.words area.Log) v.hand Excuses A.slot gfn → Covered
    by (inl covered) = inl covered
    by (inr (j, lt, may)) = excused j lt (begins (v.hand j) may)

pub covered_slot : (z : Sizes) (v : View) (f : Flat) (id : ℕ) → LogInvariant z v → FlatLogs z v f → f.facts.armed id ≡ true → IsCoveredSlot z v id
covered_slot z v f id G L on =
    let A = L.armed id on in record {
      slot = A.slot;
      logged = A.logged;
      leaves = λ up spot T table entry gfn hangs over leaf allows.
          all_covered z v id gfn A ExcusesLeaf (λ h. ForbidsLater (taken_out h)) (λ h. allow_begins h gfn) (G.leaves up spot T table entry gfn hangs over leaf
          allows);
      cached = λ k low may i d lt allows gfn over.
          all_covered z v id gfn A (ExcusesCached k (v.words area.State k)) (λ h. FlushesLater (taken_out h) k (v.words area.State k))
          (λ h. use_begins k (v.words area.State k) h gfn) (G.cached k low may i d lt allows gfn over);
    }

pub armed_slots_are_covered : ArmedSlotsAreCovered
armed_slots_are_covered z lines w ss id start legal on =
    covered_slot z (view z (run mmu w ss)) (after_all (history w ss) first_flat) id (writes_are_covered z lines w ss start legal).holds
    (every_log z lines w ss start legal) on
