-- A stay misses an installed entry only where another actor took an entry of the guest frame away since its fault began.
use Rattle.std.proofs.Common.{◌≡◌, ◌⊎◌, inl, inr, ℕ, List, [], ◌∷◌, ◌++◌, sym, subst, ap, ◌∙◌, append_assoc}
use Rattle.std.specs.Prelude.{Bool, true}
use Rattle.core_views.specs.declared.kind.Kind.{Kind}
use Rattle.core_views.specs.declared.kind.StepKind.{StepKind}
use Rattle.core_views.specs.declared.kind.StepKind.TheVariants as kind
use Rattle.core_views.specs.declared.sizes.Sizes.{Sizes}
use Rattle.core_views.specs.Held.{Held}
use Rattle.core_views.specs.Kinds.{kind_named}
use Rattle.core_views.specs.Slots.{is_write}
use Rattle.mmu_core.specs.machine.Enabled.{mmu}
use Rattle.mmu_core.specs.invariant.Laws.{IsSound}
use Rattle.mmu_core.specs.machine.Machine.{Legal, Step, World, effect, run}
use Rattle.mmu_core.proofs.machine.Extend.{run-append}
use Rattle.mmu_core.proofs.machine.Worlds.{good_run}
use Rattle.mmu_laws.specs.turns.Breaking.{ForbidsWrites, TakesAway, TakesLeaf}
use Rattle.mmu_laws.specs.turns.Removal.{LostEntry, StandsSinceFault, StayMisses, Throughout, is_since_fault}
use Rattle.mmu_laws.proofs.causes.StarvedScan.{legal_parts}
use Rattle.mmu_laws.proofs.forms.access.OwnTakesNone.{own_takes_none}
use Rattle.core_theorem.specs.Delays.{MissesEntry, WasTakenAway}

taken_leaf : (k : StepKind) (z : Sizes) (gfn : ℕ) (write : Bool) (w : World Held) (s : Step Kind) → TakesAway k z gfn write w s
    → TakesLeaf z gfn w s ⊎ ((write ≡ true) × ForbidsWrites z gfn w s)
taken_leaf kind.Zap z gfn write w s takes_ = inl takes_
taken_leaf kind.Protect z gfn write w s takes_ = inr takes_
taken_leaf _ z gfn write w s takes_ = absurd takes_

-- What is so throughout some steps is so throughout the later ones.
throughout_later : (IsSo : World Held → Type 0) (w : World Held) (ss ts : List (Step Kind)) → Throughout IsSo w (ss ++ ts) → Throughout IsSo (run mmu w ss) ts
throughout_later IsSo w [] ts T = T
throughout_later IsSo w (s ∷ ss) ts T = throughout_later IsSo (effect mmu w s) ss ts T.1

module _ (z : Sizes) (actor gfn : ℕ) (write : Bool) (w : World Held) (ss : List (Step Kind)) (G : IsSound z w) (legal : Legal mmu w ss) where
  was_taken : LostEntry z actor gfn write w ss → WasTakenAway z actor gfn write w ss
  was_taken L = record {
    earlier = before;
    takes = takes;
    later = L.broken.later;
    are = are;
    by_other = λ own.
        own_takes_none is_since_fault gfn write z u takes gfn (good_run z w before G parts.0) parts.1.0
        (subst (λ i. StandsSinceFault i gfn write u) (sym own) stood.0) breaks;
    is = taken_leaf (kind_named takes.kind.code) z gfn write u takes breaks;
    stood = stood;
  }
    where
      before : List (Step Kind)
      before = L.earlier ++ L.broken.earlier

      takes : Step Kind
      takes = L.broken.breaks

      rest : List (Step Kind)
      rest = takes ∷ L.broken.later

      u : World Held
      u = run mmu w before

      are : ss ≡ before ++ rest
      are = L.are ∙ ap (λ (l : List (Step Kind)). L.earlier ++ l) L.broken.are ∙ sym (append_assoc L.earlier L.broken.earlier rest)

      parts : Legal mmu w before × Legal mmu u rest
      parts = legal_parts w before rest (subst (Legal mmu w) are legal)

      same : run mmu (run mmu w L.earlier) L.broken.earlier ≡ u
      same = sym (run-append mmu w L.earlier L.broken.earlier)

      stood : Throughout (StandsSinceFault actor gfn write) u rest
      stood =
          subst (λ (x : World Held). Throughout (StandsSinceFault actor gfn write) x rest) same
          (throughout_later (StandsSinceFault actor gfn write) (run mmu w L.earlier) L.broken.earlier rest
          (subst (Throughout (StandsSinceFault actor gfn write) (run mmu w L.earlier)) L.broken.are L.stood))

      breaks : TakesAway (kind_named takes.kind.code) z gfn write u takes
      breaks = subst (λ (x : World Held). TakesAway (kind_named takes.kind.code) z gfn write x takes) same L.broken.is

pub misses_entry : (z : Sizes) (w : World Held) (ss : List (Step Kind)) (s : Step Kind) → IsSound z w → Legal mmu w ss → StayMisses z w ss s
    → MissesEntry z w ss s
misses_entry z w ss s G legal M =
    record {
      gfn = M.gfn;
      word = M.word;
      op = M.op;
      fast = M.fast;
      at = M.at;
      access_is = M.access_is;
      misses = M.misses;
      taken = was_taken z s.actor M.gfn
          (is_write M.op) w ss G legal M.lost;
    }
