-- The place of an actor among all of a machine.
use Rattle.std.proofs.Common.{◌≡◌, ◌≢◌, ◌<◌, ◌≤◌, ◌+◌, ◌-◌, ℕ, refl, sym, ap, ◌∙◌, arith}
use Rattle.std.proofs.lemmas.Bool.Decides.{Decides-eqb, nat_tests}
use Rattle.std.specs.Prelude.{Bool, true, false, ◌==◌, nat_lt, if◌then◌else◌}
use Rattle.core_views.specs.declared.actor.Actor.{Actor}
use Rattle.core_views.specs.declared.actor.Actor.TheVariants.{Vcpu, Host, Manager, Worker}
use Rattle.core_views.specs.declared.sizes.Sizes.{Sizes}
use Rattle.core_views.specs.Actors.{is_same}
use Rattle.core_views.specs.Sizes.{actor_at, actors_of, index_of}
use Rattle.core_views.specs.Traces.{HasActor}
use Rattle.core_views.proofs.SameActor.{same_is}

pub place_there : (z : Sizes) (actor : Actor) → HasActor z actor → index_of z actor < actors_of z
place_there z (Vcpu n) has = omega (arith, has)
place_there z (Host n) has = omega (arith, has)
place_there z Manager has = omega arith
place_there z (Worker n) has = omega (arith, has)

pub actor_there : (z : Sizes) (actor : Actor) → HasActor z actor → actor_at z (index_of z actor) ≡ actor
actor_there z (Vcpu n) has = let here : nat_lt n z.vcpus ≡ true = grind (arith, nat_tests) in rw here refl
actor_there z (Host n) has =
    let same : z.vcpus + n - z.vcpus ≡ n = omega arith in
    let past : nat_lt (z.vcpus + n) z.vcpus ≡ false = grind (arith, nat_tests) in
    let here : nat_lt (z.vcpus + n - z.vcpus) z.hosts ≡ true = grind (arith, same, has, nat_tests) in
    rw (past, here) (ap Host same)
actor_there z Manager has =
    let past : nat_lt (z.vcpus + z.hosts) z.vcpus ≡ false = grind (arith, nat_tests) in
    let behind : nat_lt (z.vcpus + z.hosts - z.vcpus) z.hosts ≡ false = grind (arith, nat_tests) in
    let here : (z.vcpus + z.hosts == z.vcpus + z.hosts) ≡ true = grind (arith, nat_tests) in
    rw (past, behind, here) refl
actor_there z (Worker n) has =
    let i : ℕ = z.vcpus + z.hosts + 1 + n in
    let same : i - z.vcpus - z.hosts - 1 ≡ n = omega arith in
    let past : nat_lt i z.vcpus ≡ false = grind (arith, nat_tests) in
    let behind : nat_lt (i - z.vcpus) z.hosts ≡ false = grind (arith, nat_tests) in
    let further : (i == z.vcpus + z.hosts) ≡ false = grind (arith, nat_tests) in
    rw (past, behind, further) (ap Worker same)

place_of_actor : (z : Sizes) (i : ℕ) → i < actors_of z → index_of z (actor_at z i) ≡ i
place_of_actor z i lt =
    by (nat_lt i z.vcpus) (nat_lt (i - z.vcpus) z.hosts) (i == z.vcpus + z.hosts) (λ e. grind (arith, nat_tests)) (λ e. grind (arith, nat_tests))
    (λ e. (Decides-eqb i (z.vcpus + z.hosts)).0 e) (λ e. grind (arith, nat_tests))
  where
    by : (v h m : Bool) → (v ≡ false → z.vcpus ≤ i) → (h ≡ false → z.hosts ≤ i - z.vcpus) → (m ≡ true → i ≡ z.vcpus + z.hosts)
        → (m ≡ false → i ≢ z.vcpus + z.hosts)
        → index_of z (if v then Vcpu i else if h then Host (i - z.vcpus) else if m then Manager else Worker (i - z.vcpus - z.hosts - 1)) ≡ i
    by true h m past behind is not = refl
    by false true m past behind is not = let p = past refl in omega (arith, p)
    by false false true past behind is not = sym (is refl)
    by false false false past behind is not = let p = past refl in let q = behind refl in let r = not refl in grind (arith, p, q, r)

-- The actor at another place is another one.
pub other_there : (z : Sizes) (i : ℕ) (actor : Actor) → i < actors_of z → (i ≡ index_of z actor → ⊥) → is_same (actor_at z i) actor ≡ false
other_there z i actor lt ne = by (is_same (actor_at z i) actor) refl
  where
    by : (b : Bool) → is_same (actor_at z i) actor ≡ b → is_same (actor_at z i) actor ≡ false
    by true e = absurd (ne (sym (place_of_actor z i lt) ∙ ap (index_of z) (same_is (actor_at z i) actor e)))
    by false e = e
