-- A large leaf, in whose place a table of its children is linked: each child says of its guest frames what the leaf said.
use Rattle.std.proofs.Common.{◌≡◌, ◌≢◌, ◌⊎◌, inl, inr, ◌+◌, ◌-◌, ◌*◌, ◌/◌, ◌%◌, ◌^◌, ◌<◌, ◌≤◌, ℕ, zero, suc, sym, subst, ap, ◌∙◌, arith}
use Rattle.std.specs.Prelude.{true, false, ◌&&◌, Some}
use Rattle.std.proofs.Math.Nat.{div-div-eq-div-mul}
use Rattle.core_views.specs.declared.trace.Slot.{Slot as SlotOf}
use Rattle.spte_words.specs.declared.spte_kind.SpteKind.TheVariants.{Leaf}
use Rattle.spte_words.specs.Areas.{pool_index}
use Rattle.spte_words.specs.Entries.{child_over, child_word, kind_of, level_span, table_word}
use Rattle.spte_words.specs.HostWords.{host_allows_write}
use Rattle.spte_words.proofs.ChildEntries.{place_in_child}
use Rattle.spte_words.proofs.Indices.{same_pool_word}
use Rattle.spte_words.proofs.ReadsEntries.{child_of_leaf}
use Rattle.spte_words.proofs.Spans.{each_span, span_above}
use Rattle.part_steps.specs.PartTasks.{entry_index}
use Rattle.part_steps.specs.RunHoldings.{HasRun}
use Rattle.part_steps.specs.SlotWords.{may_write, page_of}
use Rattle.mmu_core.specs.invariant.AllOver.{AllOver, IsEntryOver, LeafIsFor}
use Rattle.mmu_core.specs.invariant.CachedPart.{IsLeafFor}
use Rattle.mmu_core.specs.invariant.TreePart.{Below, HangsBelow, Position, TreePart, Use, at, is_table, stands}
use Rattle.mmu_core.specs.invariant.TreePart.Use.{Under}
use Rattle.mmu_core.specs.machine.View.{upd}
use Rattle.mmu_core.proofs.machine.Columns.{same_or, upd_other, upd_same}
use Rattle.mmu_core.proofs.pages.AllOver.{IsInherited, IsLight, more_below, reached_table, through_of}
use Rattle.mmu_core.proofs.pages.Standing.{spot_of}
use Rattle.mmu_core.proofs.words.HostFrames.{first_small}

-- A slot that has the whole span of a level has that of the level below.
abbrev HasLess : ℕ → Type 0
HasLess s =
    (gfn base pages page : ℕ) → base + gfn % (512 * s) ≤ gfn → gfn + 512 * s ≤ base + pages + gfn % (512 * s) → page % (512 * s) ≡ gfn % (512 * s)
    → (base + gfn % s ≤ gfn) × (gfn + s ≤ base + pages + gfn % s) × (page % s ≡ gfn % s)

has_less : (level : ℕ) → 1 ≤ level → level ≤ 4 → HasLess (level_span level)
has_less =
    each_span HasLess (λ g b n p from to at. (omega (arith, from), omega (arith, to), omega (arith, at)))
    (λ g b n p from to at. (omega (arith, from), omega (arith, to), omega (arith, at)))
    (λ g b n p from to at. (omega (arith, from), omega (arith, to), omega (arith, at)))
    (λ g b n p from to at. (omega (arith, from), omega (arith, to), omega (arith, at)))

child_run : (level gfn : ℕ) (slot : SlotOf) → 2 ≤ level → level ≤ 4 → HasRun level gfn slot → HasRun (level - 1) gfn slot
child_run level gfn slot upper most R =
    let span : level_span level ≡ 512 * level_span (level - 1) =
    ap level_span (let up : level ≡ level - 1 + 1 = omega (arith, upper) in up) ∙ span_above (level - 1) (omega (arith, upper)) in
    let less = has_less (level - 1) (omega (arith, upper)) (omega (arith, most)) gfn slot.base slot.pages (page_of slot gfn)
    (subst (λ s. slot.base + gfn % s ≤ gfn) span R.from) (subst (λ s. gfn + s ≤ slot.base + slot.pages + gfn % s) span R.to)
    (subst (λ s. page_of slot gfn % s ≡ gfn % s) span R.alike) in
    record { from = less.0; to = less.1; alike = less.2 }

-- Its first frame begins a span, as the leaf's does.
abbrev HasMultiples : ℕ → Type 0
HasMultiples s = (first i : ℕ) → first % (512 * s) ≡ 0 → (first + i * s) % s ≡ 0

has_multiples : (level : ℕ) → 1 ≤ level → level ≤ 4 → HasMultiples (level_span level)
has_multiples =
    each_span HasMultiples (λ first i is. omega (arith, is)) (λ first i is. omega (arith, is)) (λ first i is. omega (arith, is))
    (λ first i is. omega (arith, is))

child_place : (level first i : ℕ) → 2 ≤ level → level ≤ 4 → first % level_span level ≡ 0
    → (first + i * level_span (level - 1)) % level_span (level - 1) ≡ 0
child_place level first i upper most is =
    let span : level_span level ≡ 512 * level_span (level - 1) =
    ap level_span (let up : level ≡ level - 1 + 1 = omega (arith, upper) in up) ∙ span_above (level - 1) (omega (arith, upper)) in
    has_multiples (level - 1) (omega (arith, upper)) (omega (arith, most)) first i (subst (λ s. first % s ≡ 0) span is)

-- The child of a leaf that slots and host give is one that they give.
pub child_leaf : (pool host : ℕ → ℕ) (set level gfn leaf : ℕ) → 2 ≤ level → level ≤ 4 → IsLeafFor pool host set level gfn leaf
    → IsLeafFor pool host set (level - 1) gfn (child_over level leaf gfn)
child_leaf pool host set level gfn leaf upper most L = record {
  id = L.id;
  slot = L.slot;
  live = L.live;
  holds = L.holds;
  run = child_run level gfn L.slot upper most L.run;
  writes = L.writes;
  first = L.first + i * level_span (level - 1);
  is =
      ap (λ w. child_word level w i) L.is
      ∙ child_of_leaf level L.first i (L.writes && may_write L.slot word) (host_allows_write word) (may_write L.slot word)
      (first_small pool host set level gfn leaf L);
  frame = L.frame ∙ (let place = place_in_child level gfn upper most in omega (arith, place));
  in_place = child_place level L.first i upper most L.in_place;
  present = L.present;
  small = L.small;
}
  where
    i : ℕ
    i = entry_index gfn (level - 1)

    word : ℕ
    word = host (page_of L.slot gfn)

pub leaves_inherited : (pool host : ℕ → ℕ) (set : ℕ) → IsInherited (LeafIsFor pool host set)
leaves_inherited pool host set level gfn leaf upper most is so = λ child. child_leaf pool host set level gfn leaf upper most (so is)

-- A table of a leaf's children is linked in the leaf's place: what is said of all entries is so after it.
module _ {pages root : ℕ} {role words : ℕ → ℕ} {up : ℕ → Use} {spot : ℕ → Position} (T : TreePart pages root role words up spot) (m : ℕ)
    (IsSo : ℕ → ℕ → ℕ → Type 0) (table : is_table (up m) ≡ true) (light : IsLight IsSo) (heirs : IsInherited IsSo) (k level prefix j page : ℕ)
    (at_k : stands up spot k ≡ Some (at level prefix)) (low : j < 512) (upper : 2 ≤ level) (small : page < 2 ^ 32)
    (leaf : kind_of level (words (pool_index k j)) ≡ Leaf) (none : is_table (up page) ≡ false)
    (children : (i : ℕ) → i < 512 → words (pool_index page i) ≡ child_word level (words (pool_index k j)) i) where
  abbrev after : ℕ → ℕ
  after = upd words (pool_index k j) (table_word page)

  abbrev more : ℕ → Use
  more = upd up page (Under k j)

  abbrev below : Position
  below = at (level - 1) (prefix * 512 + j)

  abbrev place : ℕ → Position
  place = upd spot page below

  here : spot k ≡ at level prefix
  here = (spot_of up spot k (at level prefix) at_k).1

  table_apart : (l : ℕ) → is_table (up l) ≡ true → l ≢ page
  table_apart l stood e = let no = ap (λ n. is_table (up n)) e ∙ none in cc (stood, no)

  -- An entry of another table is as it was, or is the link.
  old : AllOver up spot words m IsSo → (l i gfn links : ℕ) → Below up m links l → IsEntryOver (place l) i gfn
      → IsSo (place l).level gfn (after (pool_index l i))
  old A l i gfn links chain O = by (same_or (pool_index l i) (pool_index k j))
    where
      same : place l ≡ spot l
      same = upd_other spot page l below (table_apart l (reached_table up m l table (links, chain)))

      by : (pool_index l i ≡ pool_index k j) ⊎ (pool_index l i ≢ pool_index k j) → IsSo (place l).level gfn (after (pool_index l i))
      by (inl e) =
          let one : l ≡ k = (same_pool_word l k i j O.0 low e).0 in
          let at_level : (place l).level ≡ level = ap (λ (p : Position). p.level) (same ∙ ap spot one ∙ here) in
          subst (IsSo (place l).level gfn) (sym (ap after e ∙ upd_same words (pool_index k j) (table_word page)))
          (light.link (place l).level gfn page (omega (arith, at_level, upper)) small)
      by (inr ne) =
          subst (IsSo (place l).level gfn) (sym (upd_other words (pool_index k j) (pool_index l i) (table_word page) ne))
          (subst (λ (q : Position). IsSo q.level gfn (words (pool_index l i))) (sym same)
          (A l i gfn (links, chain) (subst (λ (q : Position). IsEntryOver q i gfn) same O)))

  -- An entry of the new table is a child: what is said of its guest frames was said of the leaf.
  new_ : AllOver up spot words m IsSo → HangsBelow up m k → (i gfn : ℕ) → IsEntryOver below i gfn → IsSo (level - 1) gfn (words (pool_index page i))
  new_ A reached i gfn O =
      let less = O.0 in
      let over = O.1 in
      let most = (T.there k (at level prefix) at_k).2 in
      let up_to : level - 1 + 1 ≡ level = omega (arith, upper) in
      let span : level_span level ≡ level_span (level - 1) * 512 =
      ap level_span (sym up_to) ∙ (let above = span_above (level - 1) (omega (arith, upper)) in omega (arith, above)) in
      let own : gfn / level_span level ≡ prefix * 512 + j =
      ap (λ n. gfn / n) span ∙ sym (div-div-eq-div-mul gfn (level_span (level - 1)) 512) ∙ omega (arith, over, less) in
      let said : IsSo level gfn (words (pool_index k j)) =
      subst (λ (p : Position). IsSo p.level gfn (words (pool_index k j))) here
      (A k j gfn reached (low, subst (λ (p : Position). gfn / level_span p.level ≡ p.prefix * 512 + j) (sym here) own)) in
      let index : i ≡ entry_index gfn (level - 1) = omega (arith, over, less) in
      subst (IsSo (level - 1) gfn) (sym (children i less))
      (subst (λ n. IsSo (level - 1) gfn (child_word level (words (pool_index k j)) n)) (sym index) (heirs level gfn _ upper most leaf said))

  -- The new table is reached where the leaf's own is.
  parent : (links : ℕ) → Below more m links page → HangsBelow up m k
  parent zero e = absurd (table_apart m table (sym e))
  parent (suc links) hangs =
      let through = through_of (more page) (Below more m links) hangs in
      let is : Under k j ≡ Under through.0 through.1 = sym (upd_same up page (Under k j)) ∙ through.2 in
      let of_page : k ≡ through.0 = cc is in
      by links (more_below T page (Under k j) none m links k (subst (Below more m links) (sym of_page) through.3))
    where
      by : (n : ℕ) → Below up m n k ⊎ (k ≡ page) → HangsBelow up m k
      by n (inl chain) = (n, chain)
      by n (inr e) = absurd (table_apart k (spot_of up spot k (at level prefix) at_k).0 e)

  pub over_split : AllOver up spot words m IsSo → AllOver more place after m IsSo
  over_split A l i gfn R O = by (more_below T page (Under k j) none m R.0 l R.1)
    where
      by : Below up m R.0 l ⊎ (l ≡ page) → IsSo (place l).level gfn (after (pool_index l i))
      by (inl chain) = old A l i gfn R.0 chain O
      by (inr e) =
          let same : place l ≡ below = ap place e ∙ upd_same spot page below in
          let stays : after (pool_index l i) ≡ words (pool_index page i) =
          ap (λ n. after (pool_index n i)) e
          ∙ upd_other words (pool_index k j) (pool_index page i) (table_word page)
          (λ one. table_apart k (spot_of up spot k (at level prefix) at_k).0 (sym (same_pool_word page k i j O.0 low one).0)) in
          subst (λ (q : Position). IsSo q.level gfn (after (pool_index l i))) (sym same)
          (subst (IsSo (level - 1) gfn) (sym stays)
          (new_ A (parent R.0 (subst (Below more m R.0) e R.1)) i gfn (subst (λ (q : Position). IsEntryOver q i gfn) same O)))
