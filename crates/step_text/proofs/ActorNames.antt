-- The name of an actor tells its place among all actors.
use Rattle.std.specs.Prelude.{◌==◌, Bool, true, false, if◌then◌else◌}
use Rattle.std.proofs.Common.{◌≡◌, ◌≢◌, ◌≤◌, ◌<◌, ◌+◌, ◌-◌, ◌^◌, ℕ, List, [], ◌∷◌, drop, get_or, nat_lt, arith, refl, sym, ap, ◌∙◌}
use Rattle.std.proofs.lemmas.Bool.Decides.{nat_tests}
use Rattle.std.proofs.lemmas.Fmt.{decimal_is_IsNumeral}
use Rattle.std.specs.Char.{digit_value}
use Rattle.std.specs.Fmt.{decimal}
use Rattle.std.specs.Str.Parse.{AllDigits, digits_value}
use Rattle.core_views.specs.Sizes.{actor_at, index_of}
use Rattle.core_views.specs.Text.{actor_name}
use Rattle.core_views.specs.declared.actor.Actor.{Actor}
use Rattle.core_views.specs.declared.actor.Actor.TheVariants.{Vcpu, Host, Manager, Worker}
use Rattle.core_views.specs.declared.sizes.Sizes.{Sizes}
use Rattle.step_text.proofs.Numbers.{wide}

-- the actor that has this name
named : List ℕ → Actor
named text =
    if get_or text 0 0 == 104 then Host (digits_value 10 (drop 1 text)) else
    if get_or text 0 0 == 119 then Worker (digits_value 10 (drop 1 text)) else
    if get_or text 1 0 == 109 then Manager else
    Vcpu (digits_value 10 (drop 1 text))

-- The actor's number has 64 bits.
abbrev HasNumber : Actor → Type 0
HasNumber (Vcpu n) = n < 2 ^ 64
HasNumber (Host n) = n < 2 ^ 64
HasNumber Manager = Unit {0}
HasNumber (Worker n) = n < 2 ^ 64

-- `m` is no digit.
no_m : (ds : List ℕ) → AllDigits 10 ds → (get_or ds 0 0 == 109) ≡ false
no_m [] all = refl
no_m (d ∷ ds) all = other (d == 109) (λ e. grind (arith, nat_tests))
  where
    other : (b : Bool) → (b ≡ true → d ≡ 109) → b ≡ false
    other true is = let m = is refl in let same : digit_value d ≡ digit_value 109 = ap digit_value m in absurd (omega (arith, same, all.0))
    other false is = refl

named_by : (a : Actor) → HasNumber a → named (actor_name a) ≡ a
unfolding named
named_by (Vcpu n) b = let d = decimal_is_IsNumeral n b in rw (no_m (decimal n) d.0.1) (ap Vcpu d.1)
named_by (Host n) b = ap Host (decimal_is_IsNumeral n b).1
named_by Manager b = refl
named_by (Worker n) b = ap Worker (decimal_is_IsNumeral n b).1

-- The actor at an index has a number that isn't above it.
at_small : (z : Sizes) (i : ℕ) → i < 2 ^ 64 → HasNumber (actor_at z i)
at_small z i b = by (nat_lt i z.vcpus) (nat_lt (i - z.vcpus) z.hosts) (i == z.vcpus + z.hosts)
  where
    by : (v h m : Bool) → HasNumber (if v then Vcpu i else if h then Host (i - z.vcpus) else if m then Manager else Worker (i - z.vcpus - z.hosts - 1))
    by true h m = b
    by false true m = omega (arith, b)
    by false false true = tt
    by false false false = omega (arith, b)

-- The place of the actor at an index is that index.
at_index : (z : Sizes) (i : ℕ) → index_of z (actor_at z i) ≡ i
at_index z i =
    by (nat_lt i z.vcpus) (nat_lt (i - z.vcpus) z.hosts) (i == z.vcpus + z.hosts) (λ e. grind (arith, nat_tests)) (λ e. grind (arith, nat_tests))
    (λ e. grind (arith, nat_tests)) (λ e. grind (arith, nat_tests))
  where
    by : (v h m : Bool) → (v ≡ false → z.vcpus ≤ i) → (h ≡ false → z.hosts ≤ i - z.vcpus) → (m ≡ true → i ≡ z.vcpus + z.hosts)
        → (m ≡ false → i ≢ z.vcpus + z.hosts)
        → index_of z (if v then Vcpu i else if h then Host (i - z.vcpus) else if m then Manager else Worker (i - z.vcpus - z.hosts - 1)) ≡ i
    by true h m past after is not = refl
    by false true m past after is not = let p = past refl in omega (arith, p)
    by false false true past after is not = sym (is refl)
    by false false false past after is not = let p = past refl in let q = after refl in let r = not refl in grind (arith, p, q, r)

pub actor_tells : (z : Sizes) (i j : ℕ) → i < 2 ^ 32 → j < 2 ^ 32 → actor_name (actor_at z i) ≡ actor_name (actor_at z j) → i ≡ j
actor_tells z i j ib jb e =
    let same : actor_at z i ≡ actor_at z j =
    sym (named_by (actor_at z i) (at_small z i (wide i ib))) ∙ ap named e ∙ named_by (actor_at z j) (at_small z j (wide j jb)) in
    sym (at_index z i) ∙ ap (index_of z) same ∙ at_index z j
