-- The marks of steps: more steps have the marks of all, and what follows a trace has those of its steps.
use Rattle.std.proofs.Common.{◌≡◌, ◌⊎◌, inl, inr, ℕ, List, [], ◌∷◌, ◌++◌, append_assoc, refl, sym, ap, subst, ◌∙◌}
use Rattle.core_views.specs.declared.kind.Kind.{Kind}
use Rattle.core_views.specs.declared.sizes.Sizes.{Sizes}
use Rattle.core_views.specs.declared.trace.Item.{Item}
use Rattle.core_views.specs.declared.trace.Trace.{Trace}
use Rattle.core_views.specs.Held.{Held}
use Rattle.core_views.specs.Sizes.{sizes_of}
use Rattle.mmu_core.specs.machine.Enabled.{mmu}
use Rattle.mmu_core.specs.machine.Machine.{Step, World, effect, run}
use Rattle.turn_loops.specs.Marks.{Mark, Made, Begins, Rounds, Over, turns_from}
use Rattle.turn_loops.specs.Turning.{RunsItemsSoFar}
use Rattle.turn_loops.specs.Weaves.{AreInRounds, FollowsSoFar}

pub turns_append : (w : World Held) (ss ts : List (Step Kind)) → turns_from w (ss ++ ts) ≡ turns_from w ss ++ turns_from (run mmu w ss) ts
turns_append w [] ts = refl
turns_append w (s ∷ ss) ts = ap (λ (ms : List Mark). Made w s ∷ ms) (turns_append (effect mmu w s) ss ts)

-- The marks after some first ones are those of the turns.
pub marks_append : (front marks more : List Mark) (w t : World Held) (ss ts : List (Step Kind)) → marks ≡ front ++ turns_from w ss → run mmu w ss ≡ t
    → more ≡ turns_from t ts → marks ++ more ≡ front ++ turns_from w (ss ++ ts)
marks_append front marks more w t ss ts are ends same =
    ap (λ (ms : List Mark). ms ++ more) are ∙ append_assoc front (turns_from w ss) more
    ∙ ap (λ (ms : List Mark). front ++ (turns_from w ss ++ ms)) (same ∙ ap (λ (x : World Held). turns_from x ts) (sym ends))
    ∙ ap (λ (ms : List Mark). front ++ ms) (sym (turns_append w ss ts))

-- The marks are those of steps made from this world on, with marks of items and of rounds between them.
abbrev pub AreOf : World Held → List (Step Kind) → List Mark → Type 0
AreOf w ss [] = ss ≡ []
AreOf w ss (Made u s ∷ ms) = (rest : List (Step Kind)) × (ss ≡ s ∷ rest) × (u ≡ w) × AreOf (effect mmu w s) rest ms
AreOf w ss (Begins item ∷ ms) = AreOf w ss ms
AreOf w ss (Rounds ∷ ms) = AreOf w ss ms
AreOf w ss (Over open_ ∷ ms) = ⊥

pub turns_are : (w : World Held) (ss : List (Step Kind)) → AreOf w ss (turns_from w ss)
turns_are w [] = refl
turns_are w (s ∷ ss) = (ss, refl, refl, turns_are (effect mmu w s) ss)

pub are_append : (w : World Held) (ss ts : List (Step Kind)) (ms ns : List Mark) → AreOf w ss ms → AreOf (run mmu w ss) ts ns → AreOf w (ss ++ ts) (ms ++ ns)
are_append w ss ts [] ns none more = subst (λ (l : List (Step Kind)). AreOf w (l ++ ts) ns) (sym none)
    (subst (λ (l : List (Step Kind)). AreOf (run mmu w l) ts ns) none more)
are_append w ss ts (Made u s ∷ ms) ns (rest, are, same, of) more = (
  rest ++ ts,
  ap (λ (l : List (Step Kind)). l ++ ts) are,
  same,
  are_append (effect mmu w s) rest ts ms ns of (subst (λ (l : List (Step Kind)). AreOf (run mmu w l) ts ns) are more),
)
are_append w ss ts (Begins item ∷ ms) ns of more = are_append w ss ts ms ns of more
are_append w ss ts (Rounds ∷ ms) ns of more = are_append w ss ts ms ns of more
are_append w ss ts (Over open_ ∷ ms) ns of more = absurd of

items_are : (z : Sizes) (items : List Item) (w : World Held) (ss : List (Step Kind)) (marks : List Mark) → RunsItemsSoFar z items w ss marks → AreOf w ss marks
items_are z [] w ss marks none = subst (λ (ms : List Mark). AreOf w ss ms) (sym none.1) none.0
items_are z (item ∷ items) w ss marks (inl none) = subst (λ (ms : List Mark). AreOf w ss ms) (sym none.1) none.0
items_are z (item ∷ items) w ss marks (inr (inl some)) = subst (λ (ms : List Mark). AreOf w ss ms) (sym some.1) (turns_are w ss)
items_are z (item ∷ items) w ss marks (inr (inr (own, rest, first, later, are, marked, one, each))) =
    subst (λ (ms : List Mark). AreOf w ss ms) (sym marked)
    (subst (λ (l : List (Step Kind)). AreOf w l (first ++ later)) (sym are)
    (are_append w own rest first later (subst (λ (ms : List Mark). AreOf w own ms) (sym one.1) (turns_are w own))
    (items_are z items (run mmu w own) rest later each)))

-- What follows a trace has the marks of its steps.
pub follows_are : (trace : Trace) (limit : ℕ) (start : World Held) (steps : List (Step Kind)) (F : FollowsSoFar trace limit start steps)
    → AreOf start steps F.marks
follows_are trace limit start steps F =
    subst (λ (ms : List Mark). AreOf start steps ms) (sym F.marks_are)
    (subst (λ (l : List (Step Kind)). AreOf start l (turns_from start F.alone.steps ++ (F.item_marks ++ F.round_marks))) (sym F.are)
    (are_append start F.alone.steps (F.scheduled ++ F.rounds) (turns_from start F.alone.steps) (F.item_marks ++ F.round_marks)
    (turns_are start F.alone.steps)
    (subst (λ (x : World Held). AreOf x (F.scheduled ++ F.rounds) (F.item_marks ++ F.round_marks)) (sym F.alone.ends)
    (are_append F.behind F.scheduled F.rounds F.item_marks F.round_marks
    (items_are (sizes_of trace.header) trace.items F.behind F.scheduled F.item_marks F.items) (by F.after_items)))))
  where
    by : ((F.rounds ≡ []) × (F.round_marks ≡ []))
        ⊎ AreInRounds (sizes_of trace.header) trace.items F.behind F.scheduled F.item_marks F.rounds F.round_marks
        → AreOf (run mmu F.behind F.scheduled) F.rounds F.round_marks
    by (inl none) = subst (λ (ms : List Mark). AreOf (run mmu F.behind F.scheduled) F.rounds ms) (sym none.1) none.0
    by (inr some) =
        subst (λ (ms : List Mark). AreOf (run mmu F.behind F.scheduled) F.rounds ms) (sym some.1) (turns_are (run mmu F.behind F.scheduled) F.rounds)
