-- Where a slot line is about to give the old slot set's page back, the page's role is cleared.
use Rattle.std.proofs.Common.{◌≡◌, ◌≢◌, ◌⊎◌, inl, inr, ◌<◌, ℕ, List, sym, subst, ap, ◌∙◌}
use Rattle.std.specs.Prelude.{false}
use Rattle.core_views.specs.declared.kind.Kind.{Kind}
use Rattle.core_views.specs.declared.place.Place.{Place}
use Rattle.core_views.specs.declared.place.Place.TheVariants as place
use Rattle.core_views.specs.declared.place.SlotChangePlace.TheVariants.{Give}
use Rattle.core_views.specs.declared.sizes.Sizes.{Sizes}
use Rattle.core_views.specs.declared.topics.Topics.{Topics}
use Rattle.core_views.specs.declared.trace.Line.{Line}
use Rattle.core_views.specs.Held.{Held}
use Rattle.core_views.specs.Sizes.{actors_of}
use Rattle.spte_words.specs.declared.area.Area.TheVariants as area
use Rattle.part_steps.specs.declared.task.Task.{Task}
use Rattle.part_steps.specs.PartTasks.{own_index, page_retired, part_task}
use Rattle.mmu_core.specs.machine.Enabled.{mmu}
use Rattle.mmu_core.specs.invariant.Invariant.{Invariant, UnderWay}
use Rattle.mmu_core.specs.invariant.Laws.{IsSound}
use Rattle.mmu_core.specs.machine.Machine.{May, Step, World, effect, hand_in, run}
use Rattle.mmu_core.specs.lines.PartAt.{task_at}
use Rattle.mmu_core.specs.machine.Steps.{has_line, line_at, place_at}
use Rattle.mmu_core.specs.machine.View.{View, part_stepped, stepped, view, word_in}
use Rattle.mmu_laws.proofs.causes.Changes.{of_each_list}
use Rattle.mmu_core.proofs.machine.Columns.{same_or, upd_same}
use Rattle.mmu_core.proofs.start.Starts.{hand_is, start_good}
use Rattle.mmu_core.proofs.lines.StepIn.{StepIn, Makes, step_in}
use Rattle.mmu_core.proofs.machine.Which.{has_line_is}
use Rattle.mmu_core.proofs.machine.Worlds.{Takes, TakesPart, good_step, takes, are_small}
use Rattle.core_theorem.specs.Holdings.{ReturnedSetsAreCleared}
use Rattle.core_theorem.specs.Runs.{IsRun}
use Rattle.core_theorem.proofs.Runs.{before, last_actor, may_last, sound}
use Rattle.core_theorem.proofs.SetsGiven.{gives_old}
use Rattle.core_theorem.proofs.SetsCleared.{PlaceCleared, HeldCleared, HandCleared, own_cleared, others_cleared}

-- Who has no line left stands at no place of a slot line.
idle_cleared : (role : ℕ → ℕ) (p : Place) (h : Held) (t : Topics) → has_line h ≡ false → UnderWay p h → PlaceCleared role p t
idle_cleared role (place.SlotChange p) h t none U = let has = has_line_is h U.1 in absurd (cc (none, has))
idle_cleared role _ h t none U = tt

module _ (z : Sizes) (u : World Held) (s : Step Kind) (G : IsSound z u) (may : May mmu u s) (i : ℕ) (lt : i < actors_of z) (C : HandCleared (view z u) i) where
  abbrev h : Held
  h = hand_in mmu u s.actor

  line_step : Takes z u s h → HandCleared (view z (effect mmu u s)) i
  line_step T = subst (λ (v : View). HandCleared v i) (sym T.leads) (by (same_or i s.actor))
    where
      line : Line
      line = line_at h.state.place h

      p : Place
      p = place_at h.state.place h

      after : View
      after = stepped s.actor line line.command p (view z u)

      makes : StepIn z (view z u) s.actor (task_at p line.command h)
      makes = step_in z (view z u) s.actor line line.command p (are_small z u G) T.is_step G.holds G.topics

      by : (i ≡ s.actor) ⊎ (i ≢ s.actor) → HandCleared after i
      by (inl own) =
          subst (HandCleared after) (sym own)
          (own_cleared z (view z u) s.actor line line.command p T.is_step (subst (Invariant z) T.leads (good_step z u s G may).holds))
      by (inr ne) = others_cleared z (view z u) s.actor i G.holds G.topics lt ne _ (task_at p line.command h) makes C

  part_step : TakesPart z u s h → HandCleared (view z (effect mmu u s)) i
  part_step T = subst (λ (v : View). HandCleared v i) (sym T.leads) (by (same_or i s.actor))
    where
      after : View
      after = part_stepped s.actor T.step T.note (view z u)

      by : (i ≡ s.actor) ⊎ (i ≢ s.actor) → HandCleared after i
      by (inl own) =
          subst (HandCleared after) (sym own) (subst (HeldCleared (after.words area.Role)) (sym (upd_same (hand_in mmu u) s.actor _))
          (idle_cleared (after.words area.Role) h.state.place h _ T.none_left (G.holds.lines s.actor T.is_part.there).under))
      by (inr ne) =
          let task : Task = part_task T.step (own_index h) h.topics T.note in
          others_cleared z (view z u) s.actor i G.holds G.topics lt ne _ task (Makes T.step T.note T.is_part) C

  one_more : HandCleared (view z (effect mmu u s)) i
  one_more = by (takes z u s G may)
    where
      by : Takes z u s h ⊎ TakesPart z u s h → HandCleared (view z (effect mmu u s)) i
      by (inl T) = line_step T
      by (inr T) = part_step T

each_cleared : (z : Sizes) (lines : List Line) (w : World Held) (ss : List (Step Kind)) → IsRun z lines w ss → (i : ℕ) → i < actors_of z
    → HandCleared (view z (run mmu w ss)) i
each_cleared z lines w ss R i lt =
    of_each_list z w (λ ts u. HandCleared (view z u) i) (λ ts s G may C. one_more z (run mmu w ts) s G may i lt C) ss (start_good z lines w R.start) R.legal
    (subst (HeldCleared (word_in z w area.Role)) (sym (hand_is z lines w i R.start lt)) tt)

pub returned_sets_are_cleared : ReturnedSetsAreCleared
returned_sets_are_cleared z lines w ss s R page gives left = ap (λ l. word_in z u area.Role (page_retired l)) (sym left)
    ∙ subst (λ p. PlaceCleared (word_in z u area.Role) p h.topics) at (each_cleared z lines w ss earlier s.actor there)
  where
    u : World Held
    u = run mmu w ss

    h : Held
    h = hand_in mmu u s.actor

    earlier : IsRun z lines w ss
    earlier = before z lines w ss s R

    there : s.actor < actors_of z
    there = last_actor z lines w ss s R

    at : h.state.place ≡ place.SlotChange Give
    at = (gives_old z u (sound z lines w ss earlier) s page there (may_last z lines w ss s R) gives.gives left).0
