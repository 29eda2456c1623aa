-- How far a sweep has come after its next entry, and after the change of a leaf.
use Rattle.std.proofs.lemmas.Bool.Decides.{nat_tests}
use Rattle.std.proofs.Common.{◌≡◌, ◌⊎◌, inl, inr, ◌+◌, ◌-◌, ◌*◌, ◌%◌, ◌^◌, ◌<◌, ◌≤◌, ℕ, Bool, true, false, refl, ap, ◌∙◌, arith, subst, sym}
use Rattle.std.specs.Prelude.{◌==◌, ◌&&◌, ◌||◌, not, nat_le, if◌then◌else◌, Some, None}
use Rattle.core_views.specs.declared.place.FrameRange.{FrameRange}
use Rattle.core_views.specs.declared.topics.TableWalk.{TableWalk}
use Rattle.spte_words.specs.declared.spte_kind.SpteKind.{SpteKind}
use Rattle.spte_words.specs.declared.spte_kind.SpteKind.TheVariants as entry_kind
use Rattle.spte_words.specs.Entries.{absent_word, can_write, kind_of, level_span, without_write}
use Rattle.spte_words.proofs.ProtectedEntries.{protected_denies, protected_kind}
use Rattle.spte_words.proofs.ReadsEntries.{kind_of_absent}
use Rattle.spte_words.proofs.Spans.{span_above}
use Rattle.part_steps.specs.PartHoldings.{IsOver, SawEntry}
use Rattle.part_steps.specs.PartTasks.{entry_index}
use Rattle.part_steps.specs.SweepTopics.{entry_end, entry_start, gone_up, has_done, has_entry, is_done, swept_to}
use Rattle.part_steps.specs.WalkTopics.{gone_down, linked_page}
use Rattle.mmu_core.specs.orders.SweepKnows.{SweepsOn, begins_entry}
use Rattle.mmu_core.specs.orders.SweepSteps.{swept_on}
use Rattle.mmu_core.proofs.forms.access.WalkKnown.{above_lowest, gone_over}
use Rattle.mmu_core.proofs.orders.SweepSpans.{begins_below, table_begins}
use Rattle.mmu_core.proofs.orders.SweepWalks.{EntryOver, GoesOnAt, UpFrom, goes_on, not_second, saw_entry, stays_without, up_levels}

-- ---- what is so after a step

-- It has come to a table, over the guest frame to which it had come.
pub record ComesDown (zaps : Bool) (range : FrameRange) (c : ℕ) (u w : TableWalk) : Type 0 where
  pub on : SweepsOn zaps range w
  pub still : swept_to zaps range.start w ≡ c
  pub below : w.level + 1 ≡ u.level
  pub none : has_entry w ≡ false
  pub over : IsOver c w

-- It has come to a leaf there, which is to be changed.
pub record FindsLeaf (zaps : Bool) (range : FrameRange) (c : ℕ) (u w : TableWalk) : Type 0 where
  pub still : swept_to zaps range.start w ≡ c
  pub level : w.level ≡ u.level
  pub saw : SawEntry c w
  pub leaf : kind_of w.level w.entry ≡ entry_kind.Leaf
  pub to_do : is_done zaps w ≡ false
  pub leads : (has_entry w && not (is_done zaps w)) ≡ true

-- It has come to the end of an entry at which there is nothing to do.
pub record GoesPast (zaps : Bool) (range : FrameRange) (c : ℕ) (u w : TableWalk) : Type 0 where
  pub on : SweepsOn zaps range w
  pub past : swept_to zaps range.start w ≡ entry_end w
  pub more : c < swept_to zaps range.start w
  pub small : swept_to zaps range.start w ≤ 2 ^ 36
  pub level : w.level ≡ u.level
  pub saw : SawEntry c w
  pub done : is_done zaps w ≡ true

pub data SweptStep (zaps : Bool) (range : FrameRange) (c : ℕ) (u : TableWalk) (v : ℕ) (w : TableWalk) : Type 0 where
  Down : (page : ℕ) → kind_of u.level v ≡ entry_kind.Table page → ComesDown zaps range c u w → SweptStep zaps range c u v w
  Found : kind_of u.level v ≡ entry_kind.Leaf → has_done zaps (can_write v) entry_kind.Leaf ≡ false → FindsLeaf zaps range c u w → SweptStep zaps range c u v w
  Past : has_done zaps (can_write v) (kind_of u.level v) ≡ true → GoesPast zaps range c u w → SweptStep zaps range c u v w

-- The guest frame after the entry is the one to which it has come.
past_entry : (zaps : Bool) (range : FrameRange) (c : ℕ) (u w : TableWalk) → range.end ≤ 2 ^ 36 → w.level ≤ 4 → w.level ≡ u.level → range.start ≤ c
    → SawEntry c w
    → is_done zaps w ≡ true → GoesPast zaps range c u w
past_entry zaps range c u w most to level from S done = record {
  on = record {
    there = S.over.there;
    low = to;
    from = subst (λ n. range.start ≤ n) (sym past) (let lt = E.to in omega (arith, from, lt));
    even = either_is (swept_to zaps range.start w == range.start) (is_zero _ (ap (λ n. n % level_span (gone_up w).level) past ∙ G.even));
    over = λ left. subst (λ n. IsOver n (gone_up w)) (sym past)
        (G.over (subst (λ n. n < 2 ^ 36) past (omega (arith, left, most))));
  };
  past = past;
  more = subst (λ n. c < n) (sym past) E.to;
  small = subst (λ n. n ≤ 2 ^ 36) (sym past) E.small;
  level = level;
  saw = S;
  done = done;
}
  where
    E : EntryOver c w
    E = saw_entry c w to S

    G : GoesOnAt (entry_end w) (gone_up w)
    G = goes_on w S.over.there to E.has

    past : swept_to zaps range.start w ≡ entry_end w
    past =
        let start : ℕ = if nat_le range.start (entry_start w) then entry_start w else range.start in
        ap (λ (b : Bool). if b && is_done zaps w then entry_end w else start) E.has ∙ ap (λ (b : Bool). if b then entry_end w else start) done

    either_is : (a : Bool) {b : Bool} → b ≡ true → (a || b) ≡ true
    either_is true is = refl
    either_is false is = is

    is_zero : (n : ℕ) → n ≡ 0 → (n == 0) ≡ true
    is_zero n is = grind (arith, nat_tests)

-- Where it has come to the first guest frame of all, or of an entry, what begins there begins no lower.
pub begins_at : (from c e : ℕ) → e ≤ c → from ≤ c → (c ≡ from) ⊎ (e ≡ c) → (if nat_le from e then e else from) ≡ c
begins_at from c e below low at = by (nat_le from e) refl at
  where
    by : (b : Bool) → nat_le from e ≡ b → (c ≡ from) ⊎ (e ≡ c) → (if b then e else from) ≡ c
    by true le (inl same) = let le : from ≤ e = grind (arith, nat_tests) in omega (arith, le, same, below)
    by true le (inr same) = same
    by false gt (inl same) = sym same
    by false gt (inr same) = let gt : e < from = grind (arith, nat_tests) in absurd (omega (arith, gt, same, low))

-- A table begins where the entry begins that links to it.
span_of : (level : ℕ) → 2 ≤ level → level_span level ≡ 512 * level_span (level - 1)
span_of level high =
    let up : level - 1 + 1 ≡ level = omega (arith, high) in ap level_span (sym up) ∙ span_above (level - 1) (omega (arith, high))

pub starts_same : (page c : ℕ) (u : TableWalk) (v : ℕ) → 2 ≤ u.level → u.level ≤ 4 → SawEntry c (gone_down None u (entry_index c u.level) v)
    → entry_start (gone_down (Some page) u (entry_index c u.level) v) ≡ entry_start (gone_down None u (entry_index c u.level) v)
starts_same page c u v high low saw =
    let i : ℕ = entry_index c u.level in
    let has = (saw_entry c (gone_down None u i v) low saw).has in
    table_begins (u.level - 1) (omega (arith, high)) (omega (arith, low)) c u.prefix i
    ∙ sym (ap (λ s. (u.prefix * 512 + i) * s) (span_of u.level high))
    ∙ sym (ap (λ (b : Bool). (u.prefix * 512 + (if b then i else 0)) * level_span u.level) has)

nat_same : (m n : ℕ) → (m == n) ≡ true → m ≡ n
nat_same m n e = grind (arith, nat_tests)

-- The next entry begins at the guest frame to which it has come, or below the first of all.
next_begins : (zaps : Bool) (range : FrameRange) (w : TableWalk) → begins_entry zaps range w ≡ true
    → (swept_to zaps range.start w ≡ range.start) ⊎ (swept_to zaps range.start w % level_span (gone_up w).level ≡ 0)
next_begins zaps range w is = by (swept_to zaps range.start w == range.start) refl is
  where
    by : (a : Bool) → (swept_to zaps range.start w == range.start) ≡ a → (a || (swept_to zaps range.start w % level_span (gone_up w).level == 0)) ≡ true
        → (swept_to zaps range.start w ≡ range.start) ⊎ (swept_to zaps range.start w % level_span (gone_up w).level ≡ 0)
    by true same any = inl (nat_same _ _ same)
    by false other any = inr (nat_same _ _ any)

-- Each load of the sweep, in which the next entry is v.
module _ (zaps : Bool) (range : FrameRange) (w : TableWalk) (v : ℕ) (most : range.end ≤ 2 ^ 36) (S : SweepsOn zaps range w)
    (left : swept_to zaps range.start w < range.end) where
  abbrev c : ℕ
  c = swept_to zaps range.start w

  abbrev u : TableWalk
  u = gone_up w

  abbrev i : ℕ
  i = entry_index c u.level

  O : IsOver c u
  O = S.over left

  U : UpFrom w.level w.prefix u
  U = up_levels w S.there S.low

  -- the entry, where it is no link
  abbrev stood : TableWalk
  stood = gone_down None u i v

  saw : SawEntry c stood
  saw = record { over = record { small = O.small; there = O.there; span = O.span }; loaded = refl }

  E : EntryOver c stood
  E = saw_entry c stood U.low saw

  -- It begins where the sweep has come to, or below the first guest frame of all.
  begins : (c ≡ range.start) ⊎ (entry_start stood ≡ c)
  begins = by (next_begins zaps range w S.even)
    where
      by : (c ≡ range.start) ⊎ (c % level_span u.level ≡ 0) → (c ≡ range.start) ⊎ (entry_start stood ≡ c)
      by (inl same) = inl same
      by (inr even) = inr (E.even even)

  kept : (if nat_le range.start (entry_start stood) then entry_start stood else range.start) ≡ c
  kept = begins_at range.start c (entry_start stood) E.from S.from begins

  finds_leaf : kind_of u.level v ≡ entry_kind.Leaf → has_done zaps (can_write v) entry_kind.Leaf ≡ false → FindsLeaf zaps range c u stood
  finds_leaf is some = record {
    still = ap (λ (b : Bool). if b then entry_end stood else kept_from) (not_second (has_entry stood) to_do) ∙ kept;
    level = refl;
    saw = saw;
    leaf = is;
    to_do = to_do;
    leads = ap (λ (b : Bool). b && not (is_done zaps stood)) E.has ∙ ap not to_do;
  }
    where
      kept_from : ℕ
      kept_from = if nat_le range.start (entry_start stood) then entry_start stood else range.start

      to_do : is_done zaps stood ≡ false
      to_do = ap (has_done zaps (can_write v)) is ∙ some

  goes_past : has_done zaps (can_write v) (kind_of u.level v) ≡ true → GoesPast zaps range c u stood
  goes_past is = past_entry zaps range c u stood most U.low refl S.from saw is

  comes_down : (page : ℕ) → kind_of u.level v ≡ entry_kind.Table page → ComesDown zaps range c u (gone_down (Some page) u i v)
  comes_down page is = record {
    on = record {
      there = down.there;
      low = omega (arith, low);
      from = subst (λ n. range.start ≤ n) (sym still) S.from;
      even = even;
      over = λ less. subst (IsOver (swept_to zaps range.start below)) (sym stays) (subst (λ n. IsOver n below) (sym still) down);
    };
    still = still;
    below = omega (arith, high);
    none = refl;
    over = down;
  }
    where
      below : TableWalk
      below = gone_down (Some page) u i v

      high : 2 ≤ u.level
      high = above_lowest u.level v page U.there is

      low : u.level ≤ 4
      low = U.low

      down : IsOver c below
      down = gone_over c page v u high low O

      stays : gone_up below ≡ below
      stays = stays_without below refl

      still : swept_to zaps range.start below ≡ c
      still = ap (λ e. if nat_le range.start e then e else range.start) (starts_same page c u v high low saw) ∙ kept

      even : begins_entry zaps range below ≡ true
      even = by (next_begins zaps range w S.even)
        where
          same : (m n : ℕ) → m ≡ n → (m == n) ≡ true
          same m n e = grind (arith, nat_tests)

          first : (a b : Bool) → a ≡ true → (a || b) ≡ true
          first true b e = refl
          first false b e = absurd (cc e)

          second : (a b : Bool) → b ≡ true → (a || b) ≡ true
          second true b e = refl
          second false b e = e

          by : (c ≡ range.start) ⊎ (c % level_span u.level ≡ 0) → begins_entry zaps range below ≡ true
          by (inl at) = first _ _ (same (swept_to zaps range.start below) range.start (still ∙ at))
          by (inr at) = second _ _ (same _ 0 (
              ap (λ (x : TableWalk). swept_to zaps range.start below % level_span x.level) stays
              ∙ ap (λ n. n % level_span (u.level - 1)) still
              ∙ begins_below (u.level - 1) (omega (arith, high)) (omega (arith, low)) c (sym (ap (λ s. c % s) (span_of u.level high)) ∙ at)
              ))

  -- It comes down to a table, finds a leaf, or goes past an entry at which there is nothing to do.
  pub swept_step : SweptStep zaps range c u v (swept_on c w v)
  swept_step = by (kind_of u.level v) refl
    where
      on : (k : SpteKind) → kind_of u.level v ≡ k → SweptStep zaps range c u v (gone_down (linked_page k) u i v) → SweptStep zaps range c u v (swept_on c w v)
      on k is = subst (λ (x : SpteKind). SweptStep zaps range c u v (gone_down (linked_page x) u i v)) (sym is)

      past : (k : SpteKind) → kind_of u.level v ≡ k → has_done zaps (can_write v) k ≡ true → SweptStep zaps range c u v (gone_down None u i v)
      past k is done = let so = ap (has_done zaps (can_write v)) is ∙ done in Past so (goes_past so)

      leaf : (b : Bool) → has_done zaps (can_write v) entry_kind.Leaf ≡ b → kind_of u.level v ≡ entry_kind.Leaf
          → SweptStep zaps range c u v (gone_down None u i v)
      leaf true done is = past entry_kind.Leaf is done
      leaf false some is = Found is some (finds_leaf is some)

      by : (k : SpteKind) → kind_of u.level v ≡ k → SweptStep zaps range c u v (swept_on c w v)
      by (entry_kind.Table page) is = on (entry_kind.Table page) is (Down page is (comes_down page is))
      by entry_kind.Leaf is = on entry_kind.Leaf is (leaf (has_done zaps (can_write v) entry_kind.Leaf) refl is)
      by entry_kind.Absent is = on entry_kind.Absent is (past entry_kind.Absent is refl)
      by entry_kind.Frozen is = on entry_kind.Frozen is (past entry_kind.Frozen is refl)

-- ---- the change of a leaf

-- After it the sweep has come to the end of the entry, where there is nothing left to do at what is left there.
pub swept_leaf : (zaps : Bool) (range : FrameRange) (c left : ℕ) (w : TableWalk) → range.end ≤ 2 ^ 36 → w.level ≤ 4 → range.start ≤ c → SawEntry c w
    → has_done zaps (can_write left) (kind_of w.level left) ≡ true → GoesPast zaps range c w (gone_down None w (entry_index c w.level) left)
swept_leaf zaps range c left w most to from S done =
    past_entry zaps range c w (gone_down None w (entry_index c w.level) left) most to refl from
    (record { over = record { small = S.over.small; there = S.over.there; span = S.over.span }; loaded = refl }) done

-- What stands where a leaf was zapped is absent.
absent_is : 0 ≡ absent_word
unfolding absent_word
absent_is = refl

pub zero_absent : (level : ℕ) → kind_of level 0 ≡ entry_kind.Absent
zero_absent level = ap (kind_of level) absent_is ∙ kind_of_absent level

pub zapped_done : (zaps : Bool) (level : ℕ) → has_done zaps (can_write 0) (kind_of level 0) ≡ true
zapped_done zaps level = ap (has_done zaps (can_write 0)) (zero_absent level)

-- A leaf that forbids writes is done where no leaf is zapped.
pub protected_done : (level w : ℕ) → kind_of level w ≡ entry_kind.Leaf
    → has_done false (can_write (without_write w)) (kind_of level (without_write w)) ≡ true
protected_done level w leaf =
    ap (has_done false (can_write (without_write w))) (protected_kind level w leaf) ∙ ap (λ (b : Bool). not b) (protected_denies w)
