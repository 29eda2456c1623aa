-- A list of steps goes on by one step, or by another list; and it keeps the numbers of words and of hands.
use Rattle.std.proofs.Common.{◌≡◌, List, [], ◌∷◌, ◌++◌, length, refl, ◌∙◌, ap, subst, sym}
use Rattle.std.proofs.lemmas.List.{length-set}
use Rattle.mmu_core.specs.machine.Machine.{Core, World, Step, effect, run, May, Legal, Leads}

module _ {H K : Type 0} (C : Core H K) where
  pub run-append : (w : World H) (ss ts : List (Step K)) → run C w (ss ++ ts) ≡ run C (run C w ss) ts
  run-append w [] ts = refl
  run-append w (s ∷ ss) ts = run-append (effect C w s) ss ts

  pub legal-append : (w : World H) (ss ts : List (Step K)) → Legal C w ss → Legal C (run C w ss) ts → Legal C w (ss ++ ts)
  legal-append w [] ts first more = more
  legal-append w (s ∷ ss) ts first more = (first.0, legal-append (effect C w s) ss ts first.1 more)

  -- Nothing was done.
  pub stays : (w : World H) → Leads C w w
  stays w = record { steps = []; legal = tt; ends = refl }

  -- Each list of steps leads to the world that it ends in.
  pub leads_to_end : (w : World H) (ss : List (Step K)) → Legal C w ss → Leads C w (run C w ss)
  leads_to_end w ss legal = record { steps = ss; legal = legal; ends = refl }

  -- One list of steps is followed by another.
  pub then : (w t u : World H) → Leads C w t → Leads C t u → Leads C w u
  then w t u l m = record {
    steps = l.steps ++ m.steps;
    legal = legal-append w l.steps m.steps l.legal (subst (λ x. Legal C x m.steps) (sym l.ends) m.legal);
    ends = run-append w l.steps m.steps ∙ (ap (λ x. run C x m.steps) l.ends ∙ m.ends);
  }

  -- One step more is made.
  pub goes_on : (w t : World H) (s : Step K) → Leads C w t → May C t s → Leads C w (effect C t s)
  goes_on w t s l may = then w t (effect C t s) l (leads_to_end t (s ∷ []) (may, tt))

  pub words_of_effect : (w : World H) (s : Step K) → length (effect C w s).words ≡ length w.words
  unfolding effect
  words_of_effect w s = length-set w.words _ _

  pub hands_of_effect : (w : World H) (s : Step K) → length (effect C w s).hands ≡ length w.hands
  unfolding effect
  hands_of_effect w s = length-set w.hands _ _

  words_of_run : (w : World H) (ss : List (Step K)) → length (run C w ss).words ≡ length w.words
  words_of_run w [] = refl
  words_of_run w (s ∷ ss) = words_of_run (effect C w s) ss ∙ words_of_effect w s

  hands_of_run : (w : World H) (ss : List (Step K)) → length (run C w ss).hands ≡ length w.hands
  hands_of_run w [] = refl
  hands_of_run w (s ∷ ss) = hands_of_run (effect C w s) ss ∙ hands_of_effect w s

  -- A world that steps lead to has as many words and hands as the one that they began in.
  pub as_many_words : (w t : World H) → Leads C w t → length t.words ≡ length w.words
  as_many_words w t l = ap (λ x. length x.words) (sym l.ends) ∙ words_of_run w l.steps

  pub as_many_hands : (w t : World H) → Leads C w t → length t.hands ≡ length w.hands
  as_many_hands w t l = ap (λ x. length x.hands) (sym l.ends) ∙ hands_of_run w l.steps
