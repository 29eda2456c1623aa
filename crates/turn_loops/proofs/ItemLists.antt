-- The turns of items, one item after another.
use Rattle.std.proofs.Common.{◌≡◌, inl, inr, ◌<◌, ◌+◌, ℕ, suc, List, [], ◌∷◌, ◌++◌, Result, Ok, Err, append_assoc, length, take, drop, get_or, refl, sym, ap}
use Rattle.std.proofs.Common.{subst, ◌∙◌, add-one}
use Rattle.std.proofs.Math.Seq.{drop-cons, take-suc}
use Rattle.std.proofs.lemmas.List.{append-nil, take-append-drop}
use Rattle.core_views.specs.declared.kind.Kind.{Kind}
use Rattle.core_views.specs.declared.sizes.Sizes.{Sizes}
use Rattle.core_views.specs.declared.actor.Actor.TheVariants.{Vcpu}
use Rattle.core_views.specs.declared.trace.Item.{Item}
use Rattle.core_views.specs.declared.trace.Until.{Until}
use Rattle.core_views.specs.declared.trace.Until.TheVariants.{Turns}
use Rattle.core_views.specs.Held.{Held}
use Rattle.core_views.specs.Sizes.{index_of}
use Rattle.mmu_core.specs.machine.Enabled.{mmu}
use Rattle.mmu_core.specs.machine.Machine.{Step, World, run}
use Rattle.mmu_core.proofs.machine.Extend.{run-append}
use Rattle.tdp_io.specs.declared.sink.Stop.{Stop}
use Rattle.turn_loops.specs.Marks.{Mark, Begins}
use Rattle.turn_loops.specs.Turned.{PrintsRun}
use Rattle.turn_loops.specs.Turning.{AreMarked, AreMarkedAfter, RunsBy, RunsBySoFar, RunsItem, RunsItemSoFar, RunsItems, RunsItemsSoFar}
use Rattle.turn_loops.proofs.Coming.{Printing, SoFar, run_stopped_after, so_far_then}

-- the turns of an item after the mark that says that they begin, and those of one that may have more to come
abbrev pub MarksItem : Sizes → Item → World Held → List (Step Kind) → List Mark → Type 0
MarksItem z item = AreMarkedAfter (Begins item) (RunsItem z item)

abbrev pub MarksItemSoFar : Sizes → Item → World Held → List (Step Kind) → List Mark → Type 0
MarksItemSoFar z item = AreMarkedAfter (Begins item) (RunsItemSoFar z item)

module _ (z : Sizes) where
  -- One item more has had its turns.
  items_then : (w : World Held) (done : List Item) (ss : List (Step Kind)) (marks : List Mark) (item : Item) (own : List (Step Kind)) (more : List Mark)
      → RunsItems z done w ss marks → MarksItem z item (run mmu w ss) own more → RunsItems z (done ++ item ∷ []) w (ss ++ own) (marks ++ more)
  items_then w [] ss marks item own more (none, unmarked) ran = (
    own,
    [],
    more,
    [],
    ap (λ (l : List (Step Kind)). l ++ own) none ∙ sym (append-nil own),
    ap (λ (l : List Mark). l ++ more) unmarked ∙ sym (append-nil more),
    subst (λ (l : List (Step Kind)). MarksItem z item (run mmu w l) own more) none ran,
    (refl, refl),
  )
  items_then w (first ∷ done) ss marks item own more (front, rest, early, later, are, marked, one, each) ran = (
    front,
    rest ++ own,
    early,
    later ++ more,
    ap (λ (l : List (Step Kind)). l ++ own) are ∙ append_assoc front rest own,
    ap (λ (l : List Mark). l ++ more) marked ∙ append_assoc early later more,
    one,
    items_then (run mmu w front) done rest later item own more each
        (subst (λ (x : World Held). MarksItem z item x own more) (ap (run mmu w) are ∙ run-append mmu w front rest) ran),
  )

  -- One more has had some of its turns.
  items_stop : (w : World Held) (done : List Item) (ss : List (Step Kind)) (marks : List Mark) (item : Item) (others : List Item) (own : List (Step Kind))
      (more : List Mark) → RunsItems z done w ss marks → MarksItemSoFar z item (run mmu w ss) own more
      → RunsItemsSoFar z (done ++ item ∷ others) w (ss ++ own) (marks ++ more)
  items_stop w [] ss marks item others own more (none, unmarked) ran =
      inr (inl (subst (λ (l : List (Step Kind)). MarksItemSoFar z item w (l ++ own) (marks ++ more)) (sym none)
      (subst (λ (m : List Mark). MarksItemSoFar z item w own (m ++ more)) (sym unmarked)
      (subst (λ (l : List (Step Kind)). MarksItemSoFar z item (run mmu w l) own more) none ran))))
  items_stop w (first ∷ done) ss marks item others own more (front, rest, early, later, are, marked, one, each) ran = inr (inr (
    front,
    rest ++ own,
    early,
    later ++ more,
    ap (λ (l : List (Step Kind)). l ++ own) are ∙ append_assoc front rest own,
    ap (λ (l : List Mark). l ++ more) marked ∙ append_assoc early later more,
    one,
    items_stop (run mmu w front) done rest later item others own more each
        (subst (λ (x : World Held). MarksItemSoFar z item x own more) (ap (run mmu w) are ∙ run-append mmu w front rest) ran),
  ))

  module _ (items : List Item) (i : ℕ) (d : Item) (lt : i < length items) (w : World Held) (ss own : List (Step Kind)) (marks more : List Mark)
      (done : RunsItems z (take i items) w ss marks) where
    pub one_item_more : MarksItem z (get_or items i d) (run mmu w ss) own more → RunsItems z (take (i + 1) items) w (ss ++ own) (marks ++ more)
    one_item_more ran =
        subst (λ (l : List Item). RunsItems z l w (ss ++ own) (marks ++ more)) (sym (rw add-one (take-suc items i d lt)))
        (items_then w (take i items) ss marks (get_or items i d) own more done ran)

    pub stops_in_item : MarksItemSoFar z (get_or items i d) (run mmu w ss) own more → RunsItemsSoFar z items w (ss ++ own) (marks ++ more)
    stops_in_item ran =
        let all : take i items ++ get_or items i d ∷ drop (suc i) items ≡ items =
        ap (λ (l : List Item). take i items ++ l) (sym (drop-cons items i d lt)) ∙ take-append-drop i items in
        subst (λ (l : List Item). RunsItemsSoFar z l w (ss ++ own) (marks ++ more)) all
        (items_stop w (take i items) ss marks (get_or items i d) (drop (suc i) items) own more done ran)

  -- Items that had all their turns have had them so far.
  pub all_so_far : (items : List Item) (w : World Held) (ss : List (Step Kind)) (marks : List Mark) → RunsItems z items w ss marks
      → RunsItemsSoFar z items w ss marks
  all_so_far [] w ss marks none = none
  all_so_far (item ∷ items) w ss marks (own, rest, early, later, are, marked, one, each) =
      inr (inr (own, rest, early, later, are, marked, one, all_so_far items (run mmu w own) rest later each))

-- An item's turns were printed after the mark that says that they begin.
pub item_printed : {V : Type 0} (prints : V → List Mark → V → Type 0) (stops : V → List Mark → Stop → V → Type 0) → Printing prints stops → (z : Sizes)
    (item : Item) (until : Until) (index : ℕ) → until ≡ item.until → index ≡ index_of z item.actor → (w t : World Held) (p q r : V)
    → prints p (Begins item ∷ []) q → (res : Result (Unit {0}) Stop)
    → PrintsRun prints stops (AreMarked (RunsBy until index)) (AreMarked (RunsBySoFar until index)) w t q r res
    → PrintsRun prints stops (MarksItem z item) (MarksItemSoFar z item) w t p r res
item_printed prints stops L z item until index same at w t p q r put (Ok u) (ss, bytes, marks, ran, comes, more) = (
  ss,
  bytes,
  Begins item ∷ marks,
  (
    subst (λ (n : ℕ). RunsBy item.until n w ss) at (subst (λ (x : Until). RunsBy x index w ss) same ran.0),
    ap (λ (ms : List Mark). Begins item ∷ ms) ran.1,
  ),
  comes,
  L.both p q r (Begins item ∷ []) marks put more,
)
item_printed prints stops L z item until index same at w t p q r put (Err stop) (ss, bytes, marks, ran, comes, more) = (
  ss,
  bytes,
  Begins item ∷ marks,
  (
    subst (λ (n : ℕ). RunsBySoFar item.until n w ss) at (subst (λ (x : Until). RunsBySoFar x index w ss) same ran.0),
    ap (λ (ms : List Mark). Begins item ∷ ms) ran.1,
  ),
  comes,
  L.stopped p q r (Begins item ∷ []) marks stop put more,
)

-- stands where there is no item
abbrev pub no_item : Item
no_item = record { actor = Vcpu 0; until = Turns 0 }

-- What was printed of the items before one, and of this one.
module _ {V : Type 0} (prints : V → List Mark → V → Type 0) (stops : V → List Mark → Stop → V → Type 0) (L : Printing prints stops) (z : Sizes)
    (items : List Item) (i : ℕ) (lt : i < length items) (w t u : World Held) (p q r : V) (F : SoFar prints (RunsItems z (take i items)) w t p q) where
  pub item_more : PrintsRun prints stops (MarksItem z (get_or items i no_item)) (MarksItemSoFar z (get_or items i no_item)) t u q r (Ok tt)
      → SoFar prints (RunsItems z (take (i + 1) items)) w u p r
  item_more (own, bytes, more, ran, comes, put) =
      so_far_then prints stops L (RunsItems z (take i items)) w t u p q r F (RunsItems z (take (i + 1) items)) own bytes more comes put
      (one_item_more z items i no_item lt w F.steps own F.marks more F.holds
      (subst (λ (x : World Held). MarksItem z (get_or items i no_item) x own more) (sym F.comes.ends) ran))

  pub item_stops : (stop : Stop)
      → PrintsRun prints stops (MarksItem z (get_or items i no_item)) (MarksItemSoFar z (get_or items i no_item)) t u q r (Err stop)
      → PrintsRun prints stops (RunsItems z items) (RunsItemsSoFar z items) w u p r (Err stop)
  item_stops stop (own, bytes, more, ran, comes, most) =
      run_stopped_after prints stops L (RunsItems z (take i items)) w t u p q r F (RunsItems z items) (RunsItemsSoFar z items) stop own bytes more comes
      most
      (stops_in_item z items i no_item lt w F.steps own F.marks more F.holds
      (subst (λ (x : World Held). MarksItemSoFar z (get_or items i no_item) x own more) (sym F.comes.ends) ran))
