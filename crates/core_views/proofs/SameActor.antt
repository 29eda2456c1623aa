-- When two actors are one; and the map from actors, at the actor that changed.
use Rattle.std.proofs.Common.{◌≡◌, ◌==◌, ℕ, true, refl, ap, arith}
use Rattle.std.proofs.lemmas.Bool.Decides.{Decides-eqb, nat_tests}
use Rattle.core_views.specs.declared.actor.Actor.{Actor}
use Rattle.core_views.specs.declared.actor.Actor.TheVariants.{Vcpu, Host, Manager, Worker}
use Rattle.core_views.specs.Actors.{is_same, changed_at}

same_number : (n : ℕ) → (n == n) ≡ true
same_number n = grind (arith, nat_tests)

pub is_same_self : (actor : Actor) → is_same actor actor ≡ true
is_same_self (Vcpu n) = same_number n
is_same_self (Host n) = same_number n
is_same_self Manager = refl
is_same_self (Worker n) = same_number n

pub same_is : (a b : Actor) → is_same a b ≡ true → a ≡ b
same_is (Vcpu m) (Vcpu n) e = ap Vcpu ((Decides-eqb m n).0 e)
same_is (Host m) (Host n) e = ap Host ((Decides-eqb m n).0 e)
same_is Manager Manager e = refl
same_is (Worker m) (Worker n) e = ap Worker ((Decides-eqb m n).0 e)
same_is _ _ e = absurd (cc)

pub changed_here : {X : Type 0} (actor : Actor) (x : X) (map : Actor → X) → changed_at actor x map actor ≡ x
changed_here actor x map = rw (is_same_self actor) refl
