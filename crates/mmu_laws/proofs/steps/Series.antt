-- Series of steps of one actor, each of a known shape: what they make of words and hands, and tell, all of them at once.
use Rattle.std.proofs.Common.{◌≡◌, ◌<◌, ◌≤◌, ◌+◌, ℕ, zero, suc, List, [], ◌∷◌, ◌++◌, length, refl, sym, subst, ap, ◌∙◌, arith}
use Rattle.core_views.specs.declared.event.Event.{Event}
use Rattle.core_views.specs.declared.sizes.Sizes.{Sizes}
use Rattle.core_views.specs.Held.{Held}
use Rattle.core_views.specs.Sizes.{actors_of}
use Rattle.spte_words.specs.declared.area.Area.{Area}
use Rattle.part_steps.specs.declared.task.Task.{Task}
use Rattle.mmu_core.specs.machine.Steps.{line_at, place_at, task_at}
use Rattle.mmu_core.specs.machine.View.{View, answer_in, hand_after, upd, words_after}
use Rattle.mmu_core.proofs.machine.Columns.{upd_same}
use Rattle.mmu_laws.specs.steps.ExampleRaces.{in_turn}
use Rattle.mmu_laws.proofs.steps.FilledPages.{nothing_stored, stored_again}
use Rattle.mmu_laws.proofs.steps.PageFillers.{tells_as, turned_as}
use Rattle.mmu_laws.proofs.steps.ViewRuns.{HaveLines, Runs, tale, turned, turned_all}

-- the hand and the words after so many steps, and what the step after them tells
pub record Series : Type 0 where
  pub hand : ℕ → Held
  pub words : ℕ → Area → ℕ → ℕ
  pub tells : ℕ → List Event

-- words and hands after so many steps of the actor, and what n steps tell after these
abbrev pub after_steps : Series → ℕ → (ℕ → Held) → ℕ → View
after_steps S a others k = record { words = S.words k; hand = upd others a (S.hand k) }

abbrev pub series_tells : Series → ℕ → ℕ → List Event
series_tells S k zero = []
series_tells S k (suc n) = S.tells k ++ series_tells S (suc k) n

-- what the hand's next step is to do, and the hand after it
abbrev pub task_as : Held → Task
task_as h = task_at (place_at h.state.place h) (line_at h.state.place h).command h

abbrev pub hand_as : Held → (Area → ℕ → ℕ) → Held
hand_as h words =
    hand_after (line_at h.state.place h) (line_at h.state.place h).command (place_at h.state.place h) h (answer_in (task_as h) words)

-- The hand after so many steps makes the next one.
pub record MakesNext (S : Series) (k : ℕ) : Type 0 where
  pub words_go : (b : Area) (i : ℕ) → words_after (task_as (S.hand k)) (S.words k) b i ≡ S.words (suc k) b i
  pub hand_goes : hand_as (S.hand k) (S.words k) ≡ S.hand (suc k)
  pub tells_it : tells_as (S.hand k) (S.words k) ≡ S.tells k
  pub has_line : length (S.hand k).answers < length (S.hand k).lines

next_of : (S : Series) (a k : ℕ) (others : ℕ → Held) → MakesNext S k
    → ◌≡◌ {A = View} (turned (after_steps S a others k) a) (after_steps S a others (suc k))
next_of S a k others M =
    ap (λ (held : Held). turned_as held a (after_steps S a others k)) (upd_same others a (S.hand k)) ∙ stored
  where
    stored : ◌≡◌ {A = View} (turned_as (S.hand k) a (after_steps S a others k)) (after_steps S a others (suc k))
    stored = λ s. record {
      words = λ b i. M.words_go b i s;
      hand = λ i. stored_again others a i (S.hand k) (hand_as (S.hand k) (S.words k)) (S.hand (suc k)) M.hand_goes s;
    }

-- one step, and n after it
one_and_more : (z : Sizes) (S : Series) (a n k : ℕ) (others : ℕ → Held) → a < actors_of z → MakesNext S k
    → Runs z (after_steps S a others (suc k)) (in_turn n (a ∷ [])) (after_steps S a others (suc k + n)) (series_tells S (suc k) n)
    → Runs z (after_steps S a others k) (in_turn (suc n) (a ∷ [])) (after_steps S a others (k + suc n)) (series_tells S k (suc n))
one_and_more z S a n k others there M rest = record {
  have = (
    there,
    subst (λ (h : Held). length h.answers < length h.lines) (sym here) M.has_line,
    subst (λ (w : View). HaveLines z w (in_turn n (a ∷ []))) (sym goes) rest.have,
  );
  leads = ap (λ (w : View). turned_all w (in_turn n (a ∷ []))) goes ∙ (rest.leads ∙ ap (λ j. after_steps S a others j) more);
  tells_them =
      ap (λ (h : Held). tells_as h (S.words k) ++ tale (turned v a) (in_turn n (a ∷ []))) here
      ∙ (ap (λ (es : List Event). es ++ tale (turned v a) (in_turn n (a ∷ []))) M.tells_it
      ∙ ap (λ (es : List Event). S.tells k ++ es) (ap (λ (w : View). tale w (in_turn n (a ∷ []))) goes ∙ rest.tells_them));
}
  where
    v : View
    v = after_steps S a others k

    here : v.hand a ≡ S.hand k
    here = upd_same others a (S.hand k)

    goes : ◌≡◌ {A = View} (turned v a) (after_steps S a others (suc k))
    goes = next_of S a k others M

    more : suc k + n ≡ k + suc n
    more = omega arith

steps_run : (z : Sizes) (S : Series) (a n k : ℕ) (others : ℕ → Held) → a < actors_of z → ((j : ℕ) → k ≤ j → j < k + n → MakesNext S j)
    → Runs z (after_steps S a others k) (in_turn n (a ∷ [])) (after_steps S a others (k + n)) (series_tells S k n)
steps_run z S a zero k others there each =
    let none : k ≡ k + 0 = omega arith in
    record { have = tt; leads = ap (λ j. after_steps S a others j) none; tells_them = refl }
steps_run z S a (suc n) k others there each =
    one_and_more z S a n k others there (each k (omega arith) (omega arith))
    (steps_run z S a n (suc k) others there (λ j from to. each j (omega (arith, from)) (omega (arith, to))))

-- n steps of a series, from its begin
pub series_run : (z : Sizes) (S : Series) (a n : ℕ) (v : View) → a < actors_of z → v.hand a ≡ S.hand 0
    → ((b : Area) (i : ℕ) → v.words b i ≡ S.words 0 b i) → ((j : ℕ) → j < n → MakesNext S j)
    → Runs z v (in_turn n (a ∷ [])) (after_steps S a v.hand n) (series_tells S 0 n)
series_run z S a n v there is words each =
    let sum : 0 + n ≡ n = omega arith in
    subst (λ (w : View). Runs z w (in_turn n (a ∷ [])) (after_steps S a v.hand n) (series_tells S 0 n)) (sym begins)
    (subst (λ m. Runs z (after_steps S a v.hand 0) (in_turn n (a ∷ [])) (after_steps S a v.hand m) (series_tells S 0 n)) sum
    (steps_run z S a n 0 v.hand there (λ j from to. each j (omega (arith, to)))))
  where
    begins : ◌≡◌ {A = View} v (after_steps S a v.hand 0)
    begins = λ s. record { words = λ b i. words b i s; hand = λ i. nothing_stored v.hand a i (S.hand 0) is s }
