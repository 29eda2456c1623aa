-- What stands is there still after a list of steps, or one of the steps broke it.
use Rattle.std.proofs.Common.{◌≡◌, ◌⊎◌, inl, inr, ℕ, List, [], ◌∷◌, ◌++◌, refl, sym, subst, ap, ◌∙◌, append_assoc}
use Rattle.std.specs.Prelude.{Bool, true}
use Rattle.core_views.specs.declared.kind.Kind.{Kind}
use Rattle.core_views.specs.declared.place.AccessPlace.{AccessPlace}
use Rattle.core_views.specs.declared.place.AccessPlace.TheVariants.{Fault}
use Rattle.core_views.specs.declared.place.Place.{Place}
use Rattle.core_views.specs.declared.place.Place.TheVariants as place
use Rattle.core_views.specs.declared.trace.Command.{Command}
use Rattle.core_views.specs.declared.trace.Command.TheVariants.{Access}
use Rattle.core_views.specs.declared.sizes.Sizes.{Sizes}
use Rattle.core_views.specs.Held.{Held}
use Rattle.mmu_core.specs.machine.Enabled.{mmu}
use Rattle.mmu_core.specs.machine.Machine.{Legal, May, Step, World, effect, hand_in, run}
use Rattle.mmu_laws.specs.turns.Breaking.{Breaks, WasBroken}
use Rattle.mmu_laws.specs.turns.Removal.{LostEntry, StandsAt, StandsInstalled, StandsSinceFault, Throughout, is_installed, is_since_fault}
use Rattle.mmu_core.proofs.machine.Extend.{run-append}
use Rattle.mmu_core.proofs.machine.LineRuns.{run_one_more}

-- Each step keeps what is good, and what stands, or breaks it: so do lists of steps.
module _ (Good P : World Held → Type 0) (IsSuch : World Held → Step Kind → Type 0)
    (keeps : (u : World Held) (s : Step Kind) → Good u → May mmu u s → Good (effect mmu u s))
    (each : (u : World Held) (s : Step Kind) → Good u → May mmu u s → P u → P (effect mmu u s) ⊎ IsSuch u s) where
  pub stands_or_broken : (w : World Held) (ss : List (Step Kind)) → Good w → Legal mmu w ss → P w → P (run mmu w ss) ⊎ WasBroken IsSuch w ss
  stands_or_broken w [] good legal stands = inl stands
  stands_or_broken w (s ∷ ss) good legal stands =
      by (each w s good legal.0 stands) (λ still. stands_or_broken (effect mmu w s) ss (keeps w s good legal.0) legal.1 still)
    where
      later : P (run mmu w (s ∷ ss)) ⊎ WasBroken IsSuch (effect mmu w s) ss → P (run mmu w (s ∷ ss)) ⊎ WasBroken IsSuch w (s ∷ ss)
      later (inl still) = inl still
      later (inr B) = inr (record { earlier = s ∷ B.earlier; breaks = B.breaks; later = B.later; are = ap (λ (l : List (Step Kind)). s ∷ l) B.are; is = B.is })

      by : P (effect mmu w s) ⊎ IsSuch w s → (P (effect mmu w s) → P (run mmu w (s ∷ ss)) ⊎ WasBroken IsSuch (effect mmu w s) ss)
          → P (run mmu w (s ∷ ss)) ⊎ WasBroken IsSuch w (s ∷ ss)
      by (inl still) more = later (more still)
      by (inr such) more = inr (record { earlier = []; breaks = s; later = ss; are = refl; is = such })

broken_longer : (IsSuch : World Held → Step Kind → Type 0) (w : World Held) (ss : List (Step Kind)) (s : Step Kind) → WasBroken IsSuch w ss
    → WasBroken IsSuch w (ss ++ s ∷ [])
broken_longer IsSuch w ss s B =
    record {
      earlier = B.earlier;
      breaks = B.breaks;
      later = B.later ++ s ∷ [];
      are = ap (λ (l : List (Step Kind)). l ++ s ∷ []) B.are
          ∙ append_assoc B.earlier (B.breaks ∷ B.later) (s ∷ []);
      is = B.is;
    }

throughout_longer : (IsSo : World Held → Type 0) (w : World Held) (ss : List (Step Kind)) (s : Step Kind) → Throughout IsSo w ss
    → IsSo (run mmu w (ss ++ s ∷ [])) → Throughout IsSo w (ss ++ s ∷ [])
throughout_longer IsSo w [] s T now_ = (T, now_)
throughout_longer IsSo w (x ∷ ss) s T now_ = (T.0, throughout_longer IsSo (effect mmu w x) ss s T.1 now_)

-- Where the line stands after an installed entry, it stands in its fault or in the stay after it.
since_fault : (p : AccessPlace) → is_installed p ≡ true → is_since_fault p ≡ true
since_fault (Fault p) is = refl
since_fault _ is = is

stands_since : (q : Place) (c : Command) (gfn : ℕ) (write : Bool) → StandsAt is_installed q c gfn write → StandsAt is_since_fault q c gfn write
stands_since (place.Access p) (Access of_line word op) gfn write S = (since_fault p S.0, S.1, S.2)
stands_since _ _ gfn write S = absurd S

stands_since_fault : (actor gfn : ℕ) (write : Bool) (u : World Held) → StandsInstalled actor gfn write u → StandsSinceFault actor gfn write u
stands_since_fault actor gfn write u S = stands_since (hand_in mmu u actor).state.place (hand_in mmu u actor).state.line.command gfn write S

-- A step that took an entry away since the fault began did so after one more step, too, while the line stands there.
module _ (z : Sizes) (actor gfn : ℕ) (write : Bool) (w : World Held) (ss : List (Step Kind)) (s : Step Kind)
    (stands : StandsInstalled actor gfn write (effect mmu (run mmu w ss) s)) where
  pub lost_longer : LostEntry z actor gfn write w ss → LostEntry z actor gfn write w (ss ++ s ∷ [])
  lost_longer L =
      let u : World Held = run mmu w L.earlier in
      let here : run mmu u (L.later ++ s ∷ []) ≡ effect mmu (run mmu w ss) s = run_one_more u L.later s
      ∙ ap (λ (x : World Held). effect mmu x s) (sym (ap (run mmu w) L.are ∙ run-append mmu w L.earlier L.later)) in
      record {
        earlier = L.earlier;
        later = L.later ++ s ∷ [];
        are = ap (λ (l : List (Step Kind)). l ++ s ∷ []) L.are ∙ append_assoc L.earlier L.later (s ∷ []);
        stood =
            throughout_longer (StandsSinceFault actor gfn write) u L.later s L.stood
            (subst (StandsSinceFault actor gfn write) (sym here) (stands_since_fault actor gfn write (effect mmu (run mmu w ss) s) stands));
        broken = broken_longer (Breaks z gfn write) u L.later s L.broken;
      }

  pub lost_now : StandsInstalled actor gfn write (run mmu w ss) → Breaks z gfn write (run mmu w ss) s → LostEntry z actor gfn write w (ss ++ s ∷ [])
  lost_now stood breaks = record {
    earlier = ss;
    later = s ∷ [];
    are = refl;
    stood = (stands_since_fault actor gfn write (run mmu w ss) stood, stands_since_fault actor gfn write (effect mmu (run mmu w ss) s) stands);
    broken = record { earlier = []; breaks = s; later = []; are = refl; is = breaks };
  }
