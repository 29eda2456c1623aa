-- What a host line does alone: when it is answered at once, and the entry of a page that was mapped.
use Rattle.std.proofs.Common.{◌≡◌, ◌==◌, ℕ, Bool, true, false, not, cond, refl, sym, ap}
use Rattle.std.specs.Prelude.{Option, [], ◌∷◌}
use Rattle.std.proofs.lemmas.Bool.{eq-eqb, eqb-true}
use Rattle.core_views.specs.declared.host.HostEntry.{HostEntry}
use Rattle.std.specs.Option.{option_map}
use Rattle.core_views.specs.declared.answer.Answer.{Answer}
use Rattle.core_views.specs.declared.answer.Answer.TheVariants.{Refused}
use Rattle.core_views.specs.declared.answer.Refusal.TheVariants.{OutOfRange}
use Rattle.core_views.specs.Slots.{first_of}
use Rattle.core_views.specs.Host.{HostMap, brought_in, mapping}

-- what a host line is answered at once, by whether the page is the actor's own
abbrev pub owned_answer : Bool → Option Answer
owned_answer own = option_map (λ refusal. Refused refusal) (first_of ((not own, OutOfRange) ∷ []))

pub mapped : (page : ℕ) (entry : HostEntry) (host : HostMap) → mapping page entry host page ≡ entry
mapped page entry host = rw (eq-eqb page page refl) refl

-- The two allow the same, and are of one level.
abbrev pub IsAlike : HostEntry → HostEntry → Type 0
IsAlike entry other = (entry.writable ≡ other.writable) × (entry.level ≡ other.level)

-- A page that is brought in allows what it allowed, and is of its level, and so is each other.
pub still_alike : (host : HostMap) (page other : ℕ) → IsAlike (host other) (mapping page (brought_in (host page)) host other)
still_alike host page other = by_page (page == other) (eqb-true page other)
  where
    by_page : (b : Bool) → (b ≡ true → page ≡ other) → IsAlike (host other) (cond b (brought_in (host page)) (host other))
    by_page true same = (ap (λ (p : ℕ). (host p).writable) (sym (same refl)), ap (λ (p : ℕ). (host p).level) (sym (same refl)))
    by_page false same = (refl, refl)
