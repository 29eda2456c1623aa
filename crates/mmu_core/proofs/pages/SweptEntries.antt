-- How far a sweep has come, by the entry that it has loaded last: up to there no links lead to a leaf of its frames.
use Rattle.std.proofs.Math.Nat.{div-mul-le_self, div-lt_iff_lt-mul, le-div_iff_mul-le}
use Rattle.std.proofs.Common.{◌≡◌, ◌⊎◌, inl, inr, ◌+◌, ◌-◌, ◌*◌, ◌/◌, ◌%◌, ◌<◌, ◌≤◌, ℕ, refl, sym, subst, ap, ◌∙◌, arith}
use Rattle.std.specs.Prelude.{Bool, true, false, ◌&&◌, nat_le, nat_lt, if◌then◌else◌, Option, Some, None}
use Rattle.std.proofs.lemmas.Bool.{cases_lt}
use Rattle.std.proofs.lemmas.Bool.Decides.{nat_tests}
use Rattle.core_views.specs.declared.topics.Invalidated.{Invalidated}
use Rattle.core_views.specs.declared.topics.TableWalk.{TableWalk}
use Rattle.spte_words.specs.Areas.{pool_index}
use Rattle.spte_words.specs.Entries.{can_write, kind_of, level_span}
use Rattle.spte_words.proofs.Spans.{span_above, span_positive}
use Rattle.part_steps.specs.PartTasks.{entry_index, table_page}
use Rattle.part_steps.specs.SweepTopics.{entry_end, entry_start, has_entry, is_done, swept_to}
use Rattle.part_steps.specs.WalkTopics.{gone_down}
use Rattle.mmu_core.specs.invariant.AllOver.{AllOver}
use Rattle.mmu_core.specs.invariant.InvalidatedPart.{IsNoLeafBelow}
use Rattle.mmu_core.specs.invariant.TreePart.{HangsBelow, Position, TreePart, Use, at, stands}
use Rattle.mmu_core.proofs.pages.NoneBelow.{done_leads, leads_on, none_below}

-- A guest frame of a sweep that lies below lies below the end of an entry at which there is nothing to do, or below the entry.
pub below_swept : (zaps : Bool) (from : ℕ) (walk : TableWalk) (gfn : ℕ) → from ≤ gfn → gfn < swept_to zaps from walk
    → (((has_entry walk && is_done zaps walk) ≡ true) × (gfn < entry_end walk)) ⊎ (gfn < entry_start walk)
below_swept zaps from walk gfn at_least below =
    by (has_entry walk && is_done zaps walk) (nat_le from (entry_start walk)) (entry_end walk) (entry_start walk) below
  where
    by : (done later : Bool) (end_ start : ℕ) → gfn < (if done then end_ else if later then start else from)
        → ((done ≡ true) × (gfn < end_)) ⊎ (gfn < start)
    by true later end_ start lt = inl (refl, lt)
    by false true end_ start lt = inr lt
    by false false end_ start lt = absurd (omega (arith, at_least, lt))

-- It has come to the entry that was loaded last, where this leads on.
pub comes_to : (from : ℕ) (walk : TableWalk) → is_done true walk ≡ false → entry_start walk ≤ swept_to true from walk
comes_to from walk leads = by (has_entry walk) (is_done true walk) leads (nat_le from (entry_start walk)) (entry_start walk) (entry_end walk) refl
  where
    by : (some none : Bool) → none ≡ false → (later : Bool) (start end_ : ℕ) → nat_le from start ≡ later
        → start ≤ (if some && none then end_ else if later then start else from)
    by some true is later start end_ e = absurd (cc is)
    by true false is true start end_ e = omega arith
    by true false is false start end_ e = let lt : start < from = grind (arith, nat_tests) in omega (arith, lt)
    by false false is true start end_ e = omega arith
    by false false is false start end_ e = let lt : start < from = grind (arith, nat_tests) in omega (arith, lt)

pub both_true : (x y : Bool) → (x && y) ≡ true → (x ≡ true) × (y ≡ true)
both_true true true e = (refl, refl)
both_true true false e = absurd (cc e)
both_true false y e = absurd (cc e)

-- The entry of a guest frame begins no higher than it.
pub entry_below : (gfn level prefix : ℕ) → gfn / level_span level / 512 ≡ prefix → (prefix * 512 + entry_index gfn level) * level_span level ≤ gfn
entry_below gfn level prefix over =
    let same : prefix * 512 + entry_index gfn level ≡ gfn / level_span level = omega (arith, over) in
    subst (λ n. n * level_span level ≤ gfn) (sym same) (div-mul-le_self gfn (level_span level))

pub regrouped : (n span : ℕ) → (n * 512 + 0) * span ≡ n * (512 * span)
regrouped n span = omega arith

below_512 : (n : ℕ) → nat_lt (n % 512) 512 ≡ true
below_512 n = grind (arith, nat_tests)

-- where the entry of this guest frame starts, once it was loaded
pub starts_at : (walk : TableWalk) (gfn v : ℕ)
    → entry_start (gone_down None walk (entry_index gfn walk.level) v) ≡ (walk.prefix * 512 + entry_index gfn walk.level) * level_span walk.level
starts_at walk gfn v =
    ap (λ (b : Bool). (walk.prefix * 512 + (if b then entry_index gfn walk.level else 0)) * level_span walk.level) (below_512 (gfn / level_span walk.level))

-- What lies in an entry is over it.
pub in_entry : (gfn entry span : ℕ) → 0 < span → entry * span ≤ gfn → gfn < (entry + 1) * span → gfn / span ≡ entry
in_entry gfn entry span some low high =
    let from : entry ≤ gfn / span = (le-div_iff_mul-le some).1 low in
    let to : gfn / span < entry + 1 = (div-lt_iff_lt-mul some).1 high in
    omega (arith, from, to)

module _ {pages root : ℕ} {role pool : ℕ → ℕ} {up : ℕ → Use} {spot : ℕ → Position} (T : TreePart pages root role pool up spot)
    (own_ : Invalidated) (walk : TableWalk) (linked : HangsBelow up root (table_page walk))
    (at_walk : stands up spot (table_page walk) ≡ Some (at walk.level walk.prefix)) where
  abbrev pub k : ℕ
  k = table_page walk

  -- Where an entry leads nowhere there is no leaf below its end, if there is none below a guest frame that isn't before it.
  pub past_entry : (index to : ℕ) → index < 512 → leads_on (kind_of walk.level (pool (pool_index k index))) ≡ false
      → (walk.prefix * 512 + index) * level_span walk.level ≤ to → AllOver up spot pool root (IsNoLeafBelow own_ to)
      → AllOver up spot pool root (IsNoLeafBelow own_ ((walk.prefix * 512 + index + 1) * level_span walk.level))
  past_entry index to low nowhere start A l j gfn R O is_in below leaf = by (cases_lt gfn to)
    where
      by : (gfn < to) ⊎ (to ≤ gfn) → ⊥
      by (inl before) = A l j gfn R O is_in before leaf
      by (inr behind) =
          let there = T.there k _ at_walk in
          let over : gfn / level_span walk.level ≡ walk.prefix * 512 + index =
          in_entry gfn (walk.prefix * 512 + index) (level_span walk.level) (span_positive walk.level there.1 there.2) (omega (arith, start, behind)) below in
          let prefix : walk.prefix ≡ gfn / level_span walk.level / 512 = omega (arith, over, low) in
          let same : index ≡ entry_index gfn walk.level = omega (arith, over, low) in
          none_below T k gfn walk.level linked (at_walk ∙ ap (λ r. Some (at walk.level r)) prefix)
          (ap (λ i. leads_on (kind_of walk.level (pool (pool_index k i)))) (sym same) ∙ nowhere) l j gfn R O refl leaf

  -- the walk after a load of the entry of this guest frame
  abbrev pub on : Option ℕ → ℕ → TableWalk
  on o gfn = gone_down o walk (entry_index gfn walk.level) (pool (pool_index k (entry_index gfn walk.level)))

  -- The entry was loaded of the guest frame to which a sweep had come.
  pub loaded_swept : (gfn : ℕ) (o : Option ℕ) → gfn / level_span walk.level / 512 ≡ walk.prefix → AllOver up spot pool root (IsNoLeafBelow own_ gfn)
      → 1 ≤ (on o gfn).level → AllOver up spot pool root (IsNoLeafBelow own_ (swept_to true own_.start (on o gfn)))
  loaded_swept gfn o over A from l j other R O is_in below leaf = by o from (below_swept true own_.start (on o gfn) other is_in.0 below)
    where
      index : ℕ
      index = entry_index gfn walk.level

      start : (walk.prefix * 512 + index) * level_span walk.level ≤ gfn
      start = entry_below gfn walk.level walk.prefix over

      by : (o : Option ℕ) → 1 ≤ (on o gfn).level
          → (((has_entry (on o gfn) && is_done true (on o gfn)) ≡ true) × (other < entry_end (on o gfn))) ⊎ (other < entry_start (on o gfn)) → ⊥
      by (Some page) level (inl none) =
          absurd (let e = (both_true (has_entry (on (Some page) gfn)) (is_done true (on (Some page) gfn)) none.0).0 in cc e)
      by (Some page) level (inr lt) =
          let up_to : walk.level - 1 + 1 ≡ walk.level = omega (arith, level) in
          let span : level_span walk.level ≡ 512 * level_span (walk.level - 1) = ap level_span (sym up_to) ∙ span_above (walk.level - 1) level in
          let least = subst (λ s. (walk.prefix * 512 + index) * s ≤ gfn) span start in
          let same = regrouped (walk.prefix * 512 + index) (level_span (walk.level - 1)) in
          A l j other R O is_in (omega (arith, lt, least, same)) leaf
      by None level (inl none) =
          let nowhere = done_leads (can_write (on None gfn).entry) (kind_of (on None gfn).level (on None gfn).entry)
          (both_true (has_entry (on None gfn)) (is_done true (on None gfn)) none.0).1 in
          past_entry index gfn (omega arith) nowhere start A l j other R O is_in none.1 leaf
      by None level (inr lt) =
          let same = starts_at walk gfn (pool (pool_index k index)) in
          A l j other R O is_in (omega (arith, lt, start, same)) leaf
