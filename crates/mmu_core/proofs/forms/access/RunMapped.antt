-- What the hand's test says of a leaf's run: that a leaf of the level maps it, or that the level isn't the lowest one.
use Rattle.std.proofs.Common.{◌≡◌, ◌⊎◌, inl, inr, ◌+◌, ◌%◌, ◌≤◌, ℕ, refl, ap, ◌∙◌, arith}
use Rattle.std.specs.Prelude.{Bool, true, false, ◌&&◌, ◌||◌, nat_le, not}
use Rattle.std.proofs.lemmas.Bool.Decides.{nat_tests}
use Rattle.core_views.specs.declared.topics.Topics.{Topics}
use Rattle.core_views.specs.declared.trace.Slot.{Slot}
use Rattle.spte_words.specs.Entries.{kind_of, level_span}
use Rattle.spte_words.specs.HostWords.{host_level}
use Rattle.spte_words.proofs.ReadsEntries.{kind_of_link}
use Rattle.part_steps.specs.PartHoldings.{IsEnd, takes_table}
use Rattle.part_steps.specs.PartTasks.{word_looked}
use Rattle.part_steps.specs.RunHoldings.{HasRun, MapsRun, has_run, maps_run}
use Rattle.mmu_core.proofs.forms.access.FaultSame.{both, is_not}
use Rattle.mmu_core.proofs.words.HostStays.{level_low}

-- An entry in whose place a table may be linked is no link.
pub takes_ends : (level w : ℕ) → takes_table (kind_of level w) ≡ true → IsEnd level w
takes_ends level w takes page upper is =
    let none : takes_table (kind_of level w) ≡ false = ap (λ x. takes_table (kind_of level x)) is ∙ ap takes_table (kind_of_link level page upper) in
    cc (takes, none)

-- The slot has the run.
run_of : (level gfn : ℕ) (slot : Slot) → has_run level gfn slot ≡ true → HasRun level gfn slot
run_of level gfn slot is =
    let first = both (nat_le (slot.base + gfn % level_span level) gfn) _ is in
    let rest = both (nat_le (gfn + level_span level) (slot.base + slot.pages + gfn % level_span level)) _ first.1 in
    record {
      from = grind (arith, nat_tests);
      to = grind (arith, nat_tests);
      alike = grind (arith, nat_tests);
    }

either : (a b : Bool) → (a || b) ≡ true → (a ≡ true) ⊎ (b ≡ true)
either true b is = inl refl
either false b is = inr is

neither : (a b : Bool) → (a || b) ≡ false → a ≡ false
neither true b is = absurd (cc is)
neither false b is = refl

pub maps_of : (gfn : ℕ) (t : Topics) → maps_run t.walk.level gfn t ≡ true → MapsRun gfn t
maps_of gfn t is = by (either (nat_le t.walk.level 1) _ is)
  where
    by : (nat_le t.walk.level 1 ≡ true)
        ⊎ ((nat_le t.walk.level (host_level (word_looked t.host)) && (not t.search.logged && has_run t.walk.level gfn t.search.slot)) ≡ true) → MapsRun gfn t
    by (inl low) =
        let lowest : t.walk.level ≤ 1 = grind (arith, nat_tests) in
        record {
          most = omega (arith, lowest);
          run = λ upper. absurd (omega (arith, upper, lowest));
          large = λ upper. absurd (omega (arith, upper, lowest));
          no_log = λ upper. absurd (omega (arith, upper, lowest));
        }
    by (inr all) =
        let first = both (nat_le t.walk.level (host_level (word_looked t.host))) _ all in
        let rest = both (not t.search.logged) _ first.1 in
        let level : t.walk.level ≤ host_level (word_looked t.host) = (let test = first.0 in grind (arith, nat_tests)) in
        record {
          most = let few = level_low (word_looked t.host) in omega (arith, few, level);
          run = λ upper. run_of t.walk.level gfn t.search.slot rest.1;
          large = λ upper. level;
          no_log = λ upper. is_not t.search.logged rest.0;
        }

pub maps_upper : (gfn : ℕ) (t : Topics) → maps_run t.walk.level gfn t ≡ false → 2 ≤ t.walk.level
maps_upper gfn t is = let above = neither (nat_le t.walk.level 1) _ is in grind (arith, nat_tests)
