-- Which steps are a line's, and which a part's.
use Rattle.std.proofs.Common.{◌≡◌, ◌<◌, inl, inr, ℕ, [], length, ap, arith}
use Rattle.std.specs.Prelude.{true, false}
use Rattle.std.proofs.lemmas.Bool.Decides.{nat_tests}
use Rattle.core_views.specs.declared.kind.Kind.{Kind}
use Rattle.core_views.specs.Held.{Held}
use Rattle.mmu_core.specs.machine.Enabled.{Enabled, IsNext, IsPartStep}
use Rattle.mmu_core.specs.machine.Steps.{events_by, events_of, has_line, held_after, idle_after, line_at, next, next_by, place_at}

pub has_line_is : (h : Held) → length h.answers < length h.lines → has_line h ≡ true
has_line_is h left = grind (arith, nat_tests)

-- an enabled step is its line's next one, where a line is left, and else a step of a part
pub is_next : (h : Held) (k : Kind) → Enabled h k → has_line h ≡ true → IsNext h k
unfolding Enabled
is_next h k (inl e) has = e
is_next h k (inr e) has = let none = e.none_left in absurd (cc (none, has))

pub is_part : (h : Held) (k : Kind) → Enabled h k → has_line h ≡ false → IsPartStep h k
unfolding Enabled
is_part h k (inl e) none = let has = has_line_is h e.left in absurd (cc (none, has))
is_part h k (inr e) none = e

pub enabled_is : (h : Held) (k : Kind) → IsNext h k → Enabled h k
unfolding Enabled
enabled_is h k e = inl e

-- the hand after a step, by whether a line is left
pub next_of_line : (h : Held) (k : Kind) (v : ℕ) → has_line h ≡ true → next h k v ≡ held_after (line_at h.state.place h) (place_at h.state.place h) h k v
unfolding next
next_of_line h k v has = ap (λ b. next_by b h k v) has

pub next_of_part : (h : Held) (k : Kind) (v : ℕ) → has_line h ≡ false → next h k v ≡ idle_after h k v
unfolding next
next_of_part h k v none = ap (λ b. next_by b h k v) none

-- what a step tells, by the same
pub events_of_line : (h : Held) (v : ℕ) → has_line h ≡ true → events_of h v ≡ events_by true h v
unfolding events_of
events_of_line h v has = ap (λ b. events_by b h v) has

pub events_of_part : (h : Held) (v : ℕ) → has_line h ≡ false → events_of h v ≡ []
unfolding events_of
events_of_part h v none = ap (λ b. events_by b h v) none
