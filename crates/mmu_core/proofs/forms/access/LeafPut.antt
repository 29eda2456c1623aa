-- What an actor holds after it has put a leaf: that a mark is owed where the slot has a dirty log, and the leaf allows writes.
use Rattle.std.proofs.Common.{◌≡◌, ◌+◌, ◌*◌, ◌/◌, ◌%◌, ◌≤◌, ℕ, refl, subst, ap, ◌∙◌, arith}
use Rattle.std.specs.Prelude.{Bool, true, false, ◌==◌, ◌&&◌, nat_le, if◌then◌else◌, Option, Some, None}
use Rattle.std.proofs.lemmas.Bool.Decides.{nat_tests}
use Rattle.core_views.specs.declared.topics.TableWalk.{TableWalk}
use Rattle.core_views.specs.declared.topics.Topics.{Topics}
use Rattle.spte_words.specs.declared.spte_kind.SpteKind.{SpteKind}
use Rattle.spte_words.specs.declared.spte_kind.SpteKind.TheVariants as entry_kind
use Rattle.spte_words.specs.Entries.{can_write, kind_of, level_span}
use Rattle.spte_words.proofs.Spans.{span_1}
use Rattle.mmu_core.specs.forms.access.FaultKnows.{HasEntry}
use Rattle.mmu_core.specs.forms.access.FaultSteps.{allows_access}
use Rattle.part_steps.specs.PartHoldings.{IsOver, MapsRun}
use Rattle.part_steps.specs.PartTasks.{entry_index}
use Rattle.part_steps.specs.PartTopics.{exchanged}
use Rattle.part_steps.specs.WalkTopics.{gone_down, linked_page, owed_after, unless_linked}
use Rattle.mmu_core.proofs.forms.access.FaultSame.{both}
use Rattle.mmu_core.proofs.forms.access.WalkKnown.{saw_it}

-- An entry above the lowest level owes no mark.
pub upper_owes_none : (won : Bool) (t : Topics) (index new_ : ℕ) → 2 ≤ t.walk.level → owed_after won t.search.logged t.walk index new_ t.owed ≡ t.owed
upper_owes_none won t index new_ upper = ap (λ (b : Bool). if b then Some (t.walk.prefix * 512 + index) else t.owed) (none won)
  where
    above : (t.walk.level == 1) ≡ false
    above = grind (arith, nat_tests)

    none : (b : Bool) → (b && ((t.walk.level == 1) && (t.search.logged && can_write new_))) ≡ false
    none true = ap (λ (x : Bool). x && (t.search.logged && can_write new_)) above
    none false = refl

-- A leaf of a slot with a dirty log is of the lowest level.
pub logged_lowest : (gfn : ℕ) (t : Topics) → MapsRun gfn t → 1 ≤ t.walk.level → t.search.logged ≡ true → t.walk.level ≡ 1
logged_lowest gfn t maps from logged = by (nat_le 2 t.walk.level) refl
  where
    by : (b : Bool) → nat_le 2 t.walk.level ≡ b → t.walk.level ≡ 1
    by true upper = absurd (let none = maps.no_log (grind (arith, nat_tests)) in cc (logged, none))
    by false upper = grind (arith, nat_tests)

-- One of the lowest level is over one guest frame.
pub lowest_frame : (gfn : ℕ) (walk : TableWalk) → IsOver gfn walk → walk.level ≡ 1 → walk.prefix * 512 + entry_index gfn walk.level ≡ gfn
lowest_frame gfn walk O low = by span index
  where
    one : level_span walk.level ≡ 1
    one = ap (λ (l : ℕ). level_span l) low ∙ span_1

    span : gfn / 1 / 512 ≡ walk.prefix
    span = subst (λ (n : ℕ). gfn / n / 512 ≡ walk.prefix) one O.span

    index : entry_index gfn walk.level ≡ gfn / 1 % 512
    index = ap (λ (n : ℕ). gfn / n % 512) one

    by : gfn / 1 / 512 ≡ walk.prefix → entry_index gfn walk.level ≡ gfn / 1 % 512 → walk.prefix * 512 + entry_index gfn walk.level ≡ gfn
    by is at = omega (arith, is, at)

-- A mark is owed where the leaf allows writes, in a slot with a dirty log.
pub owed_is : (gfn new_ : ℕ) (logged marks : Bool) (t : Topics) → IsOver gfn t.walk → (logged ≡ true → t.walk.level ≡ 1) → (logged && can_write new_) ≡ marks
    → t.owed ≡ None → owed_after true logged t.walk (entry_index gfn t.walk.level) new_ t.owed ≡ (if marks then Some gfn else None)
owed_is gfn new_ logged marks t O low is none = by marks is
  where
    lowest : t.walk.level ≡ 1 → (t.walk.level == 1) ≡ true
    lowest e = grind (arith, nat_tests)

    no_mark : (b : Bool) → (b && false) ≡ false
    no_mark true = refl
    no_mark false = refl

    by : (m : Bool) → (logged && can_write new_) ≡ m
        → owed_after true logged t.walk (entry_index gfn t.walk.level) new_ t.owed ≡ (if m then Some gfn else None)
    by true owes =
        let one = low (both logged (can_write new_) owes).0 in
        ap (λ (b : Bool). if b && (logged && can_write new_) then Some (t.walk.prefix * 512 + entry_index gfn t.walk.level) else t.owed) (lowest one)
        ∙ ap (λ (b : Bool). if b then Some (t.walk.prefix * 512 + entry_index gfn t.walk.level) else t.owed) owes
        ∙ ap (λ (n : ℕ). Some n) (lowest_frame gfn t.walk O one)
    by false owes =
        ap (λ (b : Bool). if (t.walk.level == 1) && b then Some (t.walk.prefix * 512 + entry_index gfn t.walk.level) else t.owed) owes
        ∙ ap (λ (b : Bool). if b then Some (t.walk.prefix * 512 + entry_index gfn t.walk.level) else t.owed) (no_mark (t.walk.level == 1)) ∙ none

-- A leaf was put that allows the access, at the lowest level where the slot has a dirty log.
pub record IsPut (gfn : ℕ) (write : Bool) (t : Topics) (new_ : ℕ) : Type 0 where
  pub over : IsOver gfn t.walk
  pub low : t.search.logged ≡ true → t.walk.level ≡ 1
  pub leaf : kind_of t.walk.level new_ ≡ entry_kind.Leaf
  pub allows : allows_access write new_ ≡ true
  pub owes_none : t.owed ≡ None

abbrev pub put_at : ℕ → ℕ → ℕ → Bool → Topics → Topics
put_at gfn new_ v marks t = record t {
  walk = gone_down None t.walk (entry_index gfn t.walk.level) new_;
  owed = if marks then Some gfn else None;
}

-- what is held after it
pub put_is : (gfn new_ v : ℕ) (write marks : Bool) (t : Topics) → IsPut gfn write t new_ → (t.search.logged && can_write new_) ≡ marks
    → exchanged true (entry_index gfn t.walk.level) new_ t v ≡ put_at gfn new_ v marks t
put_is gfn new_ v write marks t P is =
    ap (λ (k : SpteKind). record t {
      walk = gone_down (linked_page k) t.walk (entry_index gfn t.walk.level) new_;
      owned = unless_linked (linked_page k) t.owned;
      owed = owed_after true t.search.logged t.walk (entry_index gfn t.walk.level) new_ t.owed;
    }) P.leaf
    ∙ ap (λ (o : Option ℕ). record t { walk = gone_down None t.walk (entry_index gfn t.walk.level) new_; owed = o })
    (owed_is gfn new_ t.search.logged marks t P.over P.low is P.owes_none)

pub has_entry : (gfn new_ v : ℕ) (write marks : Bool) (t : Topics) → IsPut gfn write t new_ → HasEntry gfn write (put_at gfn new_ v marks t)
has_entry gfn new_ v write marks t P = record { saw = saw_it gfn new_ t.walk P.over; leaf = P.leaf; allows = P.allows }
