-- The pool that a trace needs at most is enough: the tables of a level stand at different spans of guest frames that are wanted.
use Rattle.std.proofs.Common.{◌≡◌, ◌≢◌, ◌⊎◌, inl, inr, ◌+◌, ◌/◌, ◌^◌, ◌<◌, ◌≤◌, ◌==◌, ℕ, List, refl, sym, subst, ap, ◌∙◌, arith}
use Rattle.std.proofs.lemmas.Bool.Decides.{nat_tests, Decides-eqb}
use Rattle.std.specs.Prelude.{Bool, true, false, Option, Some, None, is_some}
use Rattle.core_views.specs.declared.kind.Kind.{Kind}
use Rattle.core_views.specs.declared.sizes.Sizes.{Sizes}
use Rattle.core_views.specs.declared.topics.OwnedPage.{OwnedPage}
use Rattle.core_views.specs.declared.trace.Header.{Header}
use Rattle.core_views.specs.declared.trace.Line.{Line}
use Rattle.core_views.specs.Held.{Held}
use Rattle.core_views.specs.Need.{count_below, need}
use Rattle.core_views.specs.Sizes.{sizes_of}
use Rattle.spte_words.specs.declared.area.Area.TheVariants as area
use Rattle.mmu_core.specs.machine.Enabled.{mmu}
use Rattle.mmu_laws.specs.pool.Enough.{EachTableIsWanted, EnoughPages, IsWantedTable, TablesAreForTheirSpans, some_line_wants}
use Rattle.mmu_core.specs.invariant.Laws.{IsSound}
use Rattle.mmu_core.specs.machine.Machine.{Legal, Step, World, run}
use Rattle.mmu_core.specs.invariant.PoolPart.{UsePart, is_free, is_retired, is_owned}
use Rattle.mmu_core.specs.machine.Sums.{one_if, sum_below}
use Rattle.mmu_core.specs.invariant.TreePart.{Position, TreePart, Use, at, stands}
use Rattle.mmu_core.specs.invariant.TreePart.Use.{Free, OldSet, Outside, Owned, Root, SlotSet, Under}
use Rattle.mmu_core.specs.machine.View.{word_in}
use Rattle.mmu_core.specs.machine.Worlds.{IsStart}
use Rattle.mmu_laws.proofs.pool.TablesWanted.{AreWanted, tables_are_wanted}
use Rattle.mmu_laws.proofs.pool.WantedSpans.{IsWantedSpan}
use Rattle.mmu_core.proofs.machine.Columns.{same_or}
use Rattle.mmu_laws.proofs.pool.Pigeonhole.{count_le, pigeonhole, sum_each, sum_plus, sum_some}
use Rattle.mmu_core.proofs.start.Starts.{start_good}
use Rattle.mmu_core.proofs.machine.SumsBelow.{sum_mono}
use Rattle.mmu_core.proofs.machine.Worlds.{good_run}
use Rattle.mmu_laws.proofs.pool.RetiredPages.{is_old, one_left, one_number}
use Rattle.mmu_core.proofs.machine.ColumnsTell.{at_none, itself, no_outside, tells}
use Rattle.mmu_core.proofs.pages.PoolPages.{has_owner, use_is}
use Rattle.mmu_core.proofs.pages.Uses.{told_so}
use Rattle.mmu_core.proofs.pages.Standing.{at_spot}
use Rattle.mmu_core.proofs.pages.TreePlaces.{all_reached, one_place, root_stands, same_position}

-- A table of this level stands there; and at which span of guest frames.
abbrev stands_at : ℕ → Option Position → Bool
stands_at level None = false
stands_at level (Some p) = p.level == level

abbrev span_of : Option Position → ℕ
span_of None = 0
span_of (Some p) = p.prefix

abbrev level_of : Option Position → ℕ
level_of None = 0
level_of (Some p) = p.level

stands_where : (level : ℕ) (o : Option Position) → stands_at level o ≡ true → (p : Position) × (o ≡ Some p) × (p.level ≡ level)
stands_where level None is = absurd (cc is)
stands_where level (Some p) is = (p, refl, (Decides-eqb p.level level).0 is)

-- A table is of one of the four levels.
one_level : (o : Option Position) → ((p : Position) → o ≡ Some p → (1 ≤ p.level) × (p.level ≤ 4))
    → one_if (is_some o) ≤ one_if (stands_at 4 o) + (one_if (stands_at 3 o) + (one_if (stands_at 2 o) + one_if (stands_at 1 o)))
one_level None low = omega arith
one_level (Some p) low = let there = low p refl in of_four p.level there.0 there.1
  where
    of_four : (level : ℕ) → 1 ≤ level → level ≤ 4 → 1 ≤ one_if (level == 4) + (one_if (level == 3) + (one_if (level == 2) + one_if (level == 1)))
    of_four level some most = grind (arith, nat_tests)

module _ (h : Header) (lines : List Line) {root : ℕ} {role pool : ℕ → ℕ} {up : ℕ → Use} {spot : ℕ → Position}
    (T : TreePart h.pool root role pool up spot) (A : AreWanted h lines root (stands up spot)) where
  -- No two tables of a level stand at one span.
  one_run : (level k l : ℕ) → stands_at level (stands up spot k) ≡ true → stands_at level (stands up spot l) ≡ true
      → span_of (stands up spot k) ≡ span_of (stands up spot l) → k ≡ l
  one_run level k l is be same =
      let x = stands_where level (stands up spot k) is in
      let y = stands_where level (stands up spot l) be in
      let run_same : x.0.prefix ≡ y.0.prefix = sym (ap span_of x.1) ∙ same ∙ ap span_of y.1 in
      one_place T k l x.0 (all_reached T k x.0 x.1) (all_reached T l y.0 y.1) x.1 (y.1 ∙ ap Some (same_position y.0 x.0 (y.2 ∙ sym x.2) (sym run_same)))

  -- the tables of a level below the root's
  few_of_level : (level : ℕ) → level ≤ 3
      → sum_below h.pool (λ k. one_if (stands_at level (stands up spot k))) ≤ count_below (2 ^ 36 / 512 ^ level) (some_line_wants h lines level)
  few_of_level level below =
      pigeonhole h.pool (2 ^ 36 / 512 ^ level) (λ k. stands_at level (stands up spot k)) (λ k. span_of (stands up spot k))
      (some_line_wants h lines level) (λ k lt is. at k is) (one_run level)
    where
      at : (k : ℕ) → stands_at level (stands up spot k) ≡ true
          → (span_of (stands up spot k) < 2 ^ 36 / 512 ^ level) × (some_line_wants h lines level (span_of (stands up spot k)) ≡ true)
      at k is = by (A k x.0 x.1)
        where
          x : (p : Position) × (stands up spot k ≡ Some p) × (p.level ≡ level)
          x = stands_where level (stands up spot k) is

          by : (k ≡ root) ⊎ IsWantedSpan h lines x.0
              → (span_of (stands up spot k) < 2 ^ 36 / 512 ^ level) × (some_line_wants h lines level (span_of (stands up spot k)) ≡ true)
          by (inl e) =
              let top : 4 ≡ level = ap level_of (sym (root_stands T) ∙ sym (ap (stands up spot) e) ∙ x.1) ∙ x.2 in
              absurd (omega (arith, top, below))
          by (inr R) =
              let run_is : x.0.prefix ≡ span_of (stands up spot k) = sym (ap span_of x.1) in (
                subst (λ i. i < 2 ^ 36 / 512 ^ level) run_is (subst (λ n. x.0.prefix < 2 ^ 36 / 512 ^ n) x.2 R.below),
                subst (λ i. some_line_wants h lines level i ≡ true) run_is (subst (λ n. some_line_wants h lines n x.0.prefix ≡ true) x.2 R.wanted),
              )

  -- The root stands alone at its level.
  few_roots : sum_below h.pool (λ k. one_if (stands_at 4 (stands up spot k))) ≤ 1
  few_roots = omega (
    arith,
    pigeonhole h.pool 1 (λ k. stands_at 4 (stands up spot k)) (λ k. span_of (stands up spot k)) (λ index. true) (λ k lt is. (at k is, refl))
        (one_run 4),
    count_le 1 (λ index. true),
  )
    where
      at : (k : ℕ) → stands_at 4 (stands up spot k) ≡ true → span_of (stands up spot k) < 1
      at k is = by (A k x.0 x.1)
        where
          x : (p : Position) × (stands up spot k ≡ Some p) × (p.level ≡ 4)
          x = stands_where 4 (stands up spot k) is

          by : (k ≡ root) ⊎ IsWantedSpan h lines x.0 → span_of (stands up spot k) < 1
          by (inl e) = let first : span_of (stands up spot k) ≡ 0 = ap span_of (ap (stands up spot) e ∙ root_stands T) in omega (arith, first)
          by (inr R) =
              let run_is : x.0.prefix ≡ span_of (stands up spot k) = sym (ap span_of x.1) in
              subst (λ i. i < 1) run_is (subst (λ n. x.0.prefix < 2 ^ 36 / 512 ^ n) x.2 R.below)

  -- the tables altogether, by level
  abbrev of_level : ℕ → ℕ
  of_level level = sum_below h.pool (λ k. one_if (stands_at level (stands up spot k)))

  by_level : sum_below h.pool (λ k. one_if (is_some (stands up spot k))) ≤ of_level 4 + (of_level 3 + (of_level 2 + of_level 1))
  by_level =
      let each =
      sum_mono h.pool (λ k. one_if (is_some (stands up spot k))) (λ k. one_if (stands_at 4 (stands up spot k))
      + (one_if (stands_at 3 (stands up spot k)) + (one_if (stands_at 2 (stands up spot k)) + one_if (stands_at 1 (stands up spot k)))))
      (λ k. one_level (stands up spot k) (λ p is. let there = T.there k p is in (there.1, there.2))) in
      let a =
      sum_plus h.pool (λ k. one_if (stands_at 4 (stands up spot k)))
      (λ k. one_if (stands_at 3 (stands up spot k)) + (one_if (stands_at 2 (stands up spot k)) + one_if (stands_at 1 (stands up spot k)))) in
      let b =
      sum_plus h.pool (λ k. one_if (stands_at 3 (stands up spot k)))
      (λ k. one_if (stands_at 2 (stands up spot k)) + one_if (stands_at 1 (stands up spot k))) in
      let c = sum_plus h.pool (λ k. one_if (stands_at 2 (stands up spot k))) (λ k. one_if (stands_at 1 (stands up spot k))) in
      omega (arith, each, a, b, c)

-- Four pages more than there are tables below the root: enough for the root, the slot set, one that is retired, and a free page.
room : (pool need_ upper middle lower free tables sets left roots third second first : ℕ) → 4 + upper + middle + lower ≡ need_ → need_ ≤ pool
    → pool ≤ free + (tables + (sets + left)) → sets ≤ 1 → left ≤ 1
    → tables ≤ roots + (third + (second + first)) → roots ≤ 1 → third ≤ upper → second ≤ middle → first ≤ lower → 1 ≤ free
room pool need_ upper middle lower free tables sets left roots third second first is most all one gone levels a b c d = omega arith

need_is : (h : Header) (lines : List Line) → 4 + count_below (2 ^ 36 / 512 ^ 3) (some_line_wants h lines 3)
    + count_below (2 ^ 36 / 512 ^ 2) (some_line_wants h lines 2) + count_below (2 ^ 36 / 512 ^ 1) (some_line_wants h lines 1) ≡ need h lines
unfolding need
need_is h lines = refl

-- Where no actor owns a page, each page is free, a table, the published slot set, or leaves.
module _ {n pages slots : ℕ} {map : ℕ → ℕ} {owned : ℕ → Option OwnedPage} {retired : ℕ → Option ℕ} {up : ℕ → Use}
    (U : UsePart n pages slots map owned retired up) (spot : ℕ → Position) (none : (i : ℕ) → i < n → owned i ≡ None) where
  is_one : (k : ℕ) → k < pages → (u : Use) → up k ≡ u
      → 1 ≤ one_if (is_free map k) + (one_if (is_some (stands up spot k)) + (one_if (slots == k) + one_if (is_old (up k))))
  is_one k lt Free is = let free : one_if (is_free map k) ≡ 1 = ap one_if (told_so use_is U.told k Free is Free) in omega (arith, free)
  is_one k lt Root is =
      let table : one_if (is_some (stands up spot k)) ≡ 1 = ap (λ (x : Option Position). one_if (is_some x)) (at_spot up spot k Root is refl) in
      omega (arith, table)
  is_one k lt (Under page entry) is =
      let table : one_if (is_some (stands up spot k)) ≡ 1 =
      ap (λ (x : Option Position). one_if (is_some x)) (at_spot up spot k (Under page entry) is refl) in
      omega (arith, table)
  is_one k lt SlotSet is = let set : one_if (slots == k) ≡ 1 = ap one_if (told_so use_is U.told k SlotSet is SlotSet) in omega (arith, set)
  is_one k lt (OldSet i) is = let old : one_if (is_old (up k)) ≡ 1 = ap (λ u. one_if (is_old u)) is in omega (arith, old)
  is_one k lt (Owned i) is = let O = has_owner U i k is in let owns_none = none i O.there in let owns_one = O.is in absurd (cc (owns_none, owns_one))
  is_one k lt Outside is = absurd (let inside = no_outside k pages lt in let outside = told_so use_is U.told k Outside is Outside in cc (inside, outside))

  free_or_not : pages ≤ sum_below pages (λ k. one_if (is_free map k)) + (sum_below pages (λ k. one_if (is_some (stands up spot k)))
      + (sum_below pages (λ k. one_if (slots == k)) + sum_below pages (λ k. one_if (is_old (up k)))))
  free_or_not =
      let each =
      sum_each pages (λ k. one_if (is_free map k) + (one_if (is_some (stands up spot k)) + (one_if (slots == k) + one_if (is_old (up k)))))
      (λ k lt. is_one k lt (up k) refl) in
      let a = sum_plus pages (λ k. one_if (is_free map k)) (λ k. one_if (is_some (stands up spot k)) + (one_if (slots == k) + one_if (is_old (up k)))) in
      let b = sum_plus pages (λ k. one_if (is_some (stands up spot k))) (λ k. one_if (slots == k) + one_if (is_old (up k))) in
      let c = sum_plus pages (λ k. one_if (slots == k)) (λ k. one_if (is_old (up k))) in
      omega (arith, each, a, b, c)

-- A page that isn't free, owned, retired or the slot set is a table.
module _ {n pages slots : ℕ} {map : ℕ → ℕ} {owned : ℕ → Option OwnedPage} {retired : ℕ → Option ℕ} {up : ℕ → Use}
    (U : UsePart n pages slots map owned retired up) (spot : ℕ → Position) (k : ℕ) where
  is_table_there : k < pages → is_free map k ≡ false → ((i : ℕ) → i < n → is_owned (owned i) k ≡ false)
      → ((i : ℕ) → i < n → is_retired (retired i) k ≡ false) → k ≢ slots → (p : Position) × (stands up spot k ≡ Some p)
  is_table_there lt taken none stays ne = by (up k) refl
    where
      by : (u : Use) → up k ≡ u → (p : Position) × (stands up spot k ≡ Some p)
      by Root is = (spot k, at_spot up spot k Root is refl)
      by (Under page entry) is = (spot k, at_spot up spot k (Under page entry) is refl)
      by Free is = absurd (let free = told_so use_is U.told k Free is Free in cc (free, taken))
      by SlotSet is = absurd (ne (sym (tells slots k (told_so use_is U.told k SlotSet is SlotSet))))
      by Outside is = absurd (let inside = no_outside k pages lt in let outside = told_so use_is U.told k Outside is Outside in cc (inside, outside))
      by (Owned i) is =
          absurd (let owns_it = told_so use_is U.told k (Owned i) is (Owned i) ∙ itself i in
          let owns_none = at_none is_owned n owned i k (none i) in cc (owns_it, owns_none))
      by (OldSet i) is =
          absurd (let leaves_it = told_so use_is U.told k (OldSet i) is (OldSet i) ∙ itself i in
          let retires_none = at_none is_retired n retired i k (stays i) in cc (leaves_it, retires_none))

-- what is known of each table after a list of steps, in any account of the pages
wanted_after : (h : Header) (lines : List Line) (w : World Held) (ss : List (Step Kind)) → IsStart (sizes_of h) lines w → Legal mmu w ss
    → (G : IsSound (sizes_of h) (run mmu w ss))
    → AreWanted h lines (word_in (sizes_of h) (run mmu w ss) area.Root 0) (stands G.topics.up G.topics.spot)
wanted_after h lines w ss start legal G = tables_are_wanted h lines w ss start legal G.topics.up G.topics.spot G.topics.tree

-- A table below the root's level isn't the root.
below_root : (root k level prefix : ℕ) (stands : ℕ → Option Position) → stands root ≡ Some (at 4 0) → stands k ≡ Some (at level prefix) → level < 4
    → k ≡ root → ⊥
below_root root k level prefix stands top is low e = let same : 4 ≡ level = ap level_of (sym top ∙ sym (ap stands e) ∙ is) in omega (arith, same, low)

pub tables_are_for_their_spans : TablesAreForTheirSpans
tables_are_for_their_spans h lines w ss start legal G k level prefix is low =
    (by (wanted_after h lines w ss start legal G k (at level prefix) is), G.topics.tree.roles k (at level prefix) is)
  where
    by : (k ≡ word_in (sizes_of h) (run mmu w ss) area.Root 0) ⊎ IsWantedSpan h lines (at level prefix) → some_line_wants h lines level prefix ≡ true
    by (inl e) =
        absurd (below_root (word_in (sizes_of h) (run mmu w ss) area.Root 0) k level prefix (stands G.topics.up G.topics.spot)
        (root_stands G.topics.tree) is low e)
    by (inr R) = R.wanted

pub enough_pages : EnoughPages
enough_pages h lines w ss start legal most none =
    let z : Sizes = sizes_of h in
    let u : World Held = run mmu w ss in
    let G : IsSound z u = good_run z w ss (start_good z lines w start) legal in
    let A = wanted_after h lines w ss start legal G in
    let T = G.topics.tree in
    let set : ℕ = word_in z u area.Slots 0 in
    let few = few_of_level h lines T A in
    let some = room h.pool (need h lines) _ _ _ _ _ _ _ _ _ _ _ (need_is h lines) most
    (free_or_not G.topics.uses G.topics.spot none) (one_number h.pool set) (one_left z u G)
    (by_level h lines T A) (few_roots h lines T A)
    (few 3 (omega arith)) (few 2 (omega arith)) (few 1 (omega arith)) in
    let found = sum_some h.pool (λ k. is_free (word_in z u area.PoolMap) k) some in
    record { page = found.0; there = found.1; free = found.2 }

-- A table for a span that is wanted is the root, or stands below it, where its role says.
wanted_below : (h : Header) (lines : List Line) {root : ℕ} {role pool : ℕ → ℕ} {up : ℕ → Use} {spot : ℕ → Position}
    (T : TreePart h.pool root role pool up spot) (k : ℕ) (p : Position) → stands up spot k ≡ Some p
    → IsWantedSpan h lines p → (p.level ≡ 4) ⊎ (p.level ≢ 4) → (k ≡ root) ⊎ IsWantedTable h lines (role k)
wanted_below h lines T k p is R (inl e) =
    let first : p.prefix < 1 = subst (λ n. p.prefix < 2 ^ 36 / 512 ^ n) e R.below in
    inl (one_place T k _ p (all_reached T k p is) (all_reached T _ _ (root_stands T)) is
    (root_stands T ∙ ap Some (same_position (at 4 0) p (sym e) (omega (arith, first)))))
wanted_below h lines T k p is R (inr ne) =
    let there = T.there k p is in
    inr (subst (IsWantedTable h lines) (sym (T.roles k p is))
    (record { below_root = (there.1, omega (arith, there.2, ne)); index = p.prefix; wanted = R.wanted }))

pub each_table_is_wanted : EachTableIsWanted
each_table_is_wanted h lines w ss k start legal there taken none stays ne = by (wanted_after h lines w ss start legal G k table.0 table.1)
  where
    z : Sizes
    z = sizes_of h

    u : World Held
    u = run mmu w ss

    G : IsSound z u
    G = good_run z w ss (start_good z lines w start) legal

    table : (p : Position) × (stands G.topics.up G.topics.spot k ≡ Some p)
    table = is_table_there G.topics.uses G.topics.spot k there taken none stays ne

    by : (k ≡ word_in z u area.Root 0) ⊎ IsWantedSpan h lines table.0 → (k ≡ word_in z u area.Root 0) ⊎ IsWantedTable h lines (word_in z u area.Role k)
    by (inl e) = inl e
    by (inr R) = wanted_below h lines G.topics.tree k table.0 table.1 R (same_or table.0.level 4)
