-- The rows of the table for a host thread's lines: what they give is what the words say, or why they say nothing.
use Rattle.std.proofs.Common.{◌≡◌, ℕ, List, ◌∷◌, Bool, true, false, refl, subst}
use Rattle.std.specs.Prelude.{codes}
use Rattle.std.specs.Str.{bytes_eq}
use Rattle.core_views.specs.Text.{actor_name}
use Rattle.core_views.specs.declared.actor.Actor.{Actor}
use Rattle.core_views.specs.declared.trace.HostChange.TheVariants.{Allow, Evict, Move, Protect}
use Rattle.core_views.specs.declared.trace.Header.{Header}
use Rattle.trace_reader.specs.HostForms.{by_host}
use Rattle.trace_reader.specs.Grammar.{IsCommandForm}
use Rattle.trace_reader.proofs.HostLines.{IsHost, change_judged, small_judged}
use Rattle.trace_reader.proofs.HugeLines.{huge_judged}
use Rattle.trace_reader.proofs.Judged.{AreTwo, IsOne, Judged, none, row}
use Rattle.trace_reader.proofs.Results.{other_word}

-- The first of two, or the second.
abbrev pub Either : Bool → Type 0 → Type 0 → Type 0
Either true A B = A
Either false A B = B

-- Who makes the command of this word, and which words stand after it.
abbrev pub IsHostRow : List ℕ → Actor → List (List ℕ) → Type 0
IsHostRow command a rest =
    Either (bytes_eq command (codes "move")) (IsHost a × IsOne rest) (
    Either (bytes_eq command (codes "evict")) (IsHost a × IsOne rest) (
    Either (bytes_eq command (codes "protect")) (IsHost a × IsOne rest) (
    Either (bytes_eq command (codes "allow")) (IsHost a × IsOne rest) (
    Either (bytes_eq command (codes "huge")) (IsHost a × AreTwo rest) (
    Either (bytes_eq command (codes "small")) (IsHost a × IsOne rest) ⊥)))))

-- With this command's word a form is one of these rows.
abbrev pub OnlyHostRows : List ℕ → List ℕ → List (List ℕ) → Type 0
OnlyHostRows who command rest = (a : Actor) → IsCommandForm (who ∷ command ∷ rest) a → (who ≡ actor_name a) × IsHostRow command a rest

same_only : (who command word : List ℕ) (rest : List (List ℕ)) → command ≡ word → OnlyHostRows who command rest → OnlyHostRows who word rest
same_only who command word rest is only = subst (λ (c : List ℕ). OnlyHostRows who c rest) is only

pub by_host_judged : (h : Header) (who command : List ℕ) (rest : List (List ℕ)) → OnlyHostRows who command rest
    → Judged h (who ∷ command ∷ rest) (by_host h who command rest)
unfolding by_host
by_host_judged h who command rest only =
    row (Judged h (who ∷ command ∷ rest)) command (codes "move") _ _ _ refl
    (λ is. rw is (change_judged h who (codes "move") Move rest refl (same_only who command (codes "move") rest is only))) (λ moves.
    row (Judged h (who ∷ command ∷ rest)) command (codes "evict") _ _ _ refl
    (λ is. rw is (change_judged h who (codes "evict") Evict rest refl (same_only who command (codes "evict") rest is only))) (λ evict.
    row (Judged h (who ∷ command ∷ rest)) command (codes "protect") _ _ _ refl
    (λ is. rw is (change_judged h who (codes "protect") Protect rest refl (same_only who command (codes "protect") rest is only))) (λ protect.
    row (Judged h (who ∷ command ∷ rest)) command (codes "allow") _ _ _ refl
    (λ is. rw is (change_judged h who (codes "allow") Allow rest refl (same_only who command (codes "allow") rest is only))) (λ allow.
    row (Judged h (who ∷ command ∷ rest)) command (codes "huge") _ _ _ refl
    (λ is. rw is (huge_judged h who rest (same_only who command (codes "huge") rest is only))) (λ huge.
    row (Judged h (who ∷ command ∷ rest)) command (codes "small") _ _ _ refl
    (λ is. rw is (small_judged h who rest (same_only who command (codes "small") rest is only))) (λ small.
    none h (who ∷ command ∷ rest) (λ a form.
    let no : ⊥ = rw (
      other_word command (codes "move") moves,
      other_word command (codes "evict") evict,
      other_word command (codes "protect") protect,
      other_word command (codes "allow") allow,
      other_word command (codes "huge") huge,
      other_word command (codes "small") small,
    ) at (only a form).1 in no)))))))
