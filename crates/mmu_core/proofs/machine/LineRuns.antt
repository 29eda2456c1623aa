-- A list of steps of one actor, and one step more.
use Rattle.std.proofs.Common.{◌≡◌, ◌<◌, List, [], ◌∷◌, ◌++◌, length, refl, sym, ap, ◌∙◌, append_assoc}
use Rattle.std.proofs.lemmas.List.{append-nil, get_or-set_same}
use Rattle.core_views.specs.declared.event.Event.{Event}
use Rattle.core_views.specs.declared.kind.Kind.{Kind}
use Rattle.core_views.specs.Held.{Held}
use Rattle.mmu_core.specs.machine.Enabled.{mmu}
use Rattle.mmu_core.specs.machine.Machine.{Legal, May, Step, World, answered, effect, hand_in, run}
use Rattle.mmu_core.specs.machine.Steps.{events_of, next, nobody}
use Rattle.mmu_core.specs.machine.Worlds.{history}

pub run_one_more : (w : World Held) (ss : List (Step Kind)) (s : Step Kind) → run mmu w (ss ++ s ∷ []) ≡ effect mmu (run mmu w ss) s
run_one_more w [] s = refl
run_one_more w (x ∷ ss) s = run_one_more (effect mmu w x) ss s

pub legal_one_more : (w : World Held) (ss : List (Step Kind)) (s : Step Kind) → Legal mmu w ss → May mmu (run mmu w ss) s → Legal mmu w (ss ++ s ∷ [])
legal_one_more w [] s legal may = (may, tt)
legal_one_more w (x ∷ ss) s legal may = (legal.0, legal_one_more (effect mmu w x) ss s legal.1 may)

-- what the last step tells
abbrev pub told_last : World Held → Step Kind → List Event
told_last w s = events_of (hand_in mmu w s.actor) (answered mmu w s.kind)

pub history_one_more : (w : World Held) (ss : List (Step Kind)) (s : Step Kind) → history w (ss ++ s ∷ []) ≡ history w ss ++ told_last (run mmu w ss) s
history_one_more w [] s = append-nil (told_last w s)
history_one_more w (x ∷ ss) s =
    ap (λ (es : List Event). told_last w x ++ es) (history_one_more (effect mmu w x) ss s)
    ∙ sym (append_assoc (told_last w x) (history (effect mmu w x) ss) (told_last (run mmu (effect mmu w x) ss) s))

-- the actor's own hand after its step
pub own_hand : (w : World Held) (s : Step Kind) → s.actor < length w.hands
    → hand_in mmu (effect mmu w s) s.actor ≡ next (hand_in mmu w s.actor) s.kind (answered mmu w s.kind)
unfolding effect
own_hand w s there = get_or-set_same w.hands s.actor (next (hand_in mmu w s.actor) s.kind (answered mmu w s.kind)) nobody there

-- what two lists of steps tell, one after the other
pub history_append : (w : World Held) (ss ts : List (Step Kind)) → history w (ss ++ ts) ≡ history w ss ++ history (run mmu w ss) ts
history_append w [] ts = refl
history_append w (s ∷ ss) ts =
    ap (λ (es : List Event). told_last w s ++ es) (history_append (effect mmu w s) ss ts)
    ∙ sym (append_assoc (told_last w s) (history (effect mmu w s) ss) (history (run mmu (effect mmu w s) ss) ts))
