-- The words stand for flat memory at the start, and after each step of an actor with no line left; and events after events.
use Rattle.std.proofs.Common.{◌≡◌, ◌<◌, ℕ, List, [], ◌∷◌, ◌++◌, refl, sym, subst, ap, ◌∙◌, true, nat_lt, arith}
use Rattle.std.specs.Prelude.{◌==◌, false, not}
use Rattle.core_views.specs.declared.event.Event.{Event}
use Rattle.core_views.specs.declared.place.Place.{Place}
use Rattle.core_views.specs.declared.place.Place.TheVariants as place
use Rattle.core_views.specs.declared.sizes.Sizes.{Sizes}
use Rattle.core_views.specs.declared.trace.Line.{Line}
use Rattle.core_views.specs.Events.{after, after_all}
use Rattle.core_views.specs.Flat.{Flat, first_flat}
use Rattle.core_views.specs.Held.{Held}
use Rattle.core_views.specs.Sizes.{actors_of}
use Rattle.spte_words.specs.declared.area.Area.{Area}
use Rattle.spte_words.specs.declared.area.Area.TheVariants as area
use Rattle.part_steps.specs.declared.task.Task.{Task}
use Rattle.part_steps.specs.declared.part_step.PartStep.{PartStep}
use Rattle.mmu_laws.specs.flat.FlatInvariant.{FlatInvariant, UnderIs}
use Rattle.mmu_core.specs.invariant.Invariant.{Invariant, UnderWay}
use Rattle.mmu_core.specs.machine.Machine.{World}
use Rattle.part_steps.specs.PartTasks.{own_index, part_task}
use Rattle.part_steps.specs.PartSteps.{needs_line}
use Rattle.mmu_core.specs.machine.Steps.{has_line, idle_after}
use Rattle.part_steps.specs.SlotWords.{live_at, memory_slot_at}
use Rattle.part_steps.specs.Tasks.{kind_of_task}
use Rattle.mmu_core.specs.invariant.TopicsInvariant.{TopicsInvariant}
use Rattle.mmu_core.specs.machine.View.{View, answer_in, part_stepped, view, word_in, words_after}
use Rattle.mmu_core.specs.machine.Worlds.{IsStart}
use Rattle.mmu_core.proofs.machine.Columns.{at_upd}
use Rattle.mmu_laws.proofs.flat.FlatSteps.{Leaves, part_leaves, refines_stay}
use Rattle.mmu_core.proofs.words.SlotLists.{none_below}
use Rattle.mmu_core.proofs.start.Starts.{hand_is, none_live, word_at_start}
use Rattle.mmu_core.proofs.machine.Which.{has_line_is}
use Rattle.mmu_laws.proofs.flat.FlatStill.{others_held, under_still}
use Rattle.mmu_core.proofs.machine.PartStepping.{IsPart, idle_never, idle_quiet}
use Rattle.mmu_core.specs.forms.host.HostSteps.{entry_of}
use Rattle.core_views.specs.Host.{own_frames}
use Rattle.spte_words.specs.HostWords.{host_word}
use Rattle.std.proofs.lemmas.Bool.Decides.{nat_tests}
use Rattle.mmu_laws.proofs.steps.AllowedWords.{entry_made}

-- A hand with no line left has none under way.
pub none_under : (p : Place) (h : Held) → UnderWay p h → has_line h ≡ false → p ≡ place.Between
none_under place.Between h under none = refl
none_under _ h under none = let has = has_line_is h under.1 in absurd (cc (none, has))

-- A step of a part tells nothing, and the words still stand for the same facts.
pub part_keeps_flat : (z : Sizes) (v : View) (f : Flat) (a : ℕ) (step : PartStep) (note : ℕ) → IsPart z v a step → needs_line step ≡ false
    → has_line (v.hand a) ≡ false → Invariant z v → TopicsInvariant z v → FlatInvariant z v f → FlatInvariant z (part_stepped a step note v) f
part_keeps_flat z v f a step note S free none I P F = record {
  refines = refines_stay z v.words words f.facts L F.refines;
  under = at_upd (λ i (g : Held). i < actors_of z → UnderIs z (words area.Pool) g.state.place g.state.line.command g (f.under g.state.actor)) v.hand a behind
      (λ lt. subst (λ q. UnderIs z (words area.Pool) q h.state.line.command behind (f.under h.state.actor)) (sym (idle lt))
      (subst (λ q. UnderIs z (v.words area.Pool) q h.state.line.command h (f.under h.state.actor)) (idle lt) (F.under a lt)))
      (λ i ne lt. under_still z (v.words area.Pool) (words area.Pool) (v.hand i).state.place (v.hand i).state.line.command (v.hand i)
      (f.under (v.hand i).state.actor) (λ k held. others_held z v a step note S P i k lt ne held) (F.under i lt));
}
  where
    h : Held
    h = v.hand a

    task : Task
    task = part_task step (own_index h) h.topics note

    words : Area → ℕ → ℕ
    words = words_after task v.words

    behind : Held
    behind = idle_after h (kind_of_task h.state.sizes task) (answer_in task v.words)

    L : Leaves z v.words words
    L = part_leaves z v a step note S P (idle_never step free) (idle_quiet step free)

    idle : a < actors_of z → h.state.place ≡ place.Between
    idle lt = none_under h.state.place h (I.lines a lt).under none

-- ---- events after events

pub after_append : (xs ys : List Event) (f : Flat) → ◌≡◌ {A = Flat} (after_all (xs ++ ys) f) (after_all ys (after_all xs f))
after_append [] ys f = refl
after_append (x ∷ xs) ys f = after_append xs ys (after x f)

-- ---- the start

-- Each page is mapped to its own frame, and may be written.
entry_at_start : (z : Sizes) (lines : List Line) (w : World Held) → IsStart z lines w → (p : ℕ) → p < z.pages
    → entry_of (word_in z w area.Host p) ≡ own_frames p
entry_at_start z lines w start p lt =
    let is = word_at_start z w area.Host p (host_word p true true 1) start.words (λ l. refl)
    (λ e. absurd (let low : nat_lt p z.pages ≡ true = grind (arith, nat_tests) in cc (e, low))) in
    ap entry_of is ∙ entry_made p true true 1 (omega arith)

-- The start stands for the first flat state.
pub start_flat : (z : Sizes) (lines : List Line) (w : World Held) → IsStart z lines w → FlatInvariant z (view z w) first_flat
start_flat z lines w start = record {
  refines = record {
    slots =
        sym (none_below (live_at (word_in z w area.Pool) (word_in z w area.Slots 0))
        (memory_slot_at (word_in z w area.Pool) (word_in z w area.Slots 0)) 32 (λ id low. none_live z w (word_in z w area.Slots 0) id start.words));
    host = λ p lt. sym (entry_at_start z lines w start p lt);
    memory = λ p j lt below. sym (word_at_start z w area.Content _ 0 start.words (λ l. refl) (λ e. refl));
    paused = ap (λ n. not (n == 0)) (sym (word_at_start z w area.Pause 0 0 start.words (λ l. refl) (λ e. refl)));
    idle = refl;
  };
  under =
      λ i lt. subst (λ (h : Held). UnderIs z (word_in z w area.Pool) h.state.place h.state.line.command h (first_flat.under h.state.actor))
      (sym (hand_is z lines w i start lt)) refl;
}
