-- Who makes a mark has found the slot of the page, which has a dirty log in the slot set that is held: so in the published one, while no set is retired.
use Rattle.core_views.specs.Held.{Held}
use Rattle.core_views.specs.Sizes.{actors_of}
use Rattle.core_views.specs.Slots.{has_host_page}
use Rattle.core_views.specs.declared.place.AccessPlace.TheVariants as access
use Rattle.core_views.specs.declared.place.FaultPlace.TheVariants as fault
use Rattle.core_views.specs.declared.place.Place.TheVariants as place
use Rattle.core_views.specs.declared.place.Place.{Place}
use Rattle.core_views.specs.declared.sizes.Sizes.{Sizes}
use Rattle.core_views.specs.declared.trace.Command.TheVariants.{Access}
use Rattle.core_views.specs.declared.trace.Command.{Command}
use Rattle.log_invariant.specs.Covered.{IsLoggedIn}
use Rattle.log_invariant.specs.LogInvariant.{IsMarkingAt, LogInvariant}
use Rattle.mmu_core.proofs.held.FreshFrames.{behind_it}
use Rattle.mmu_core.proofs.machine.ColumnsTell.{some_is}
use Rattle.mmu_core.proofs.machine.PartStepping.{IsPart}
use Rattle.mmu_core.specs.invariant.HeldPart.{HasRetired, HoldsOld}
use Rattle.mmu_core.specs.invariant.Invariant.{Invariant, KnowsPart}
use Rattle.mmu_core.specs.invariant.TopicsInvariant.{TopicsInvariant}
use Rattle.mmu_core.specs.machine.View.{View}
use Rattle.part_steps.specs.HeldNumbers.{number_or_none}
use Rattle.part_steps.specs.PartTasks.{page_owed}
use Rattle.part_steps.specs.declared.part_step.PartStep.TheVariants as part
use Rattle.spte_words.specs.declared.area.Area.TheVariants as area
use Rattle.std.proofs.Common.{inl, inr, subst, sym, ℕ, ◌-◌, ◌<◌, ◌∙◌, ◌≡◌, ◌⊎◌}
use Rattle.std.specs.Prelude.{Some, true}

-- The slot that was found has a log in the slot set that is held, and the marked page.
pub record MarksIn (v : View) (h : Held) : Type 0 where
  pub set : ℕ
  pub held : h.topics.search.set ≡ Some set
  pub logged : IsLoggedIn (v.words area.Pool) set (h.topics.search.id - 1) h.topics.search.slot
  pub gfn : ℕ
  pub owed : h.topics.owed ≡ Some gfn
  pub has : has_host_page (page_owed h.topics) h.topics.search.slot ≡ true

module _ (z : Sizes) (v : View) (a : ℕ) (S : IsPart z v a part.Mark) (I : Invariant z v) (P : TopicsInvariant z v) (G : LogInvariant z v) where
  abbrev h : Held
  h = v.hand a

  knows_logged : (gfn : ℕ) → h.topics.owed ≡ Some gfn → h.topics.search.logged ≡ true
  knows_logged gfn owed = by h.state.place h.state.line.command (G.marks a gfn S.there owed) (I.knows a S.there)
    where
      by : (p : Place) (c : Command) → IsMarkingAt p c gfn → KnowsPart p c h → h.topics.search.logged ≡ true
      by (place.Access (access.Fault (fault.Mark fast))) (Access at word op) M K = K.logged
      by _ _ M K = absurd M

  -- Such is the slot of a mark.
  pub marks_in : MarksIn v h
  marks_in =
      let owed = some_is h.topics.owed S.needs.owes in
      let held = (P.searches a S.there).held S.needs.found.whole in
      let whole = (P.searches a S.there).whole held.0 held.1 S.needs.found.whole in
      record {
        set = held.0;
        held = held.1;
        logged = record {
          live = whole.1;
          logged = sym ((P.searches a S.there).flags held.0 held.1 S.needs.found.whole) ∙ knows_logged owed.0 owed.1;
        };
        gfn = owed.0;
        owed = owed.1;
        has = (behind_it h.topics.search.slot (number_or_none h.topics.owed) S.needs.found.holds).0;
      }

  -- While nobody has retired a set, the held one is the published one.
  pub marks_published : ((i : ℕ) (k : ℕ) → i < actors_of z → (v.hand i).topics.retired ≡ Some k → ⊥)
      → IsLoggedIn (v.words area.Pool) (v.words area.Slots 0) (h.topics.search.id - 1) h.topics.search.slot
  marks_published none =
      subst (λ set. IsLoggedIn (v.words area.Pool) set (h.topics.search.id - 1) h.topics.search.slot)
      (by (P.sets a marks_in.set S.there marks_in.held)) marks_in.logged
    where
      by : (marks_in.set ≡ v.words area.Slots 0) ⊎ HoldsOld HasRetired (actors_of z) (λ i. (v.hand i).topics) a marks_in.set
          → marks_in.set ≡ v.words area.Slots 0
      by (inl same) = same
      by (inr old_) = absurd (none old_.by marks_in.set old_.there old_.leaves)
