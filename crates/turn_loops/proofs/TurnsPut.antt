-- A line that is printed turn by turn, and where the printing stops.
use Rattle.std.proofs.Common.{◌≡◌, ◌⊎◌, inl, inr, ◌<◌, ℕ, suc, List, [], ◌∷◌, ◌++◌, Ok, Err, Some, None, length, slice_get, refl, sym, ap, subst, ◌∙◌, arith}
use Rattle.std.proofs.lemmas.List.{append-nil}
use Rattle.std.specs.Prelude.{Bool, true, false, Option, Result, IfOk, OnErr}
use Rattle.core_views.specs.declared.no_memory.NoMemory.{NoMemory}
use Rattle.core_views.specs.declared.place.Place.{Place}
use Rattle.core_views.specs.declared.place.Place.TheVariants as place
use Rattle.core_views.specs.declared.sizes.Sizes.{Sizes}
use Rattle.core_views.specs.declared.trace.Line.{Line}
use Rattle.core_views.specs.Held.{Held}
use Rattle.core_views.specs.Sizes.{index_of}
use Rattle.mmu_core.specs.alone.LineAlone.{LineAlone, hand_left}
use Rattle.mmu_core.specs.lines.Rests.{IsUnderWay}
use Rattle.mmu_core.specs.machine.Enabled.{mmu}
use Rattle.mmu_core.specs.machine.Machine.{World, hand_in}
use Rattle.mmu_core.specs.machine.Steps.{has_line}
use Rattle.mmu_core.specs.machine.Worlds.{Reachable}
use Rattle.mmu_core.proofs.machine.Which.{has_line_is}
use Rattle.step_seats.specs.Machines.{Machine, world_in}
use Rattle.step_seats.specs.Moves.{handful_in}
use Rattle.step_seats.proofs.Worlds.{core_at}
use Rattle.tdp_io.specs.declared.sink.Stop.{Stop}
use Rattle.turn_loops.specs.Marks.{Mark, Made, turns_from}
use Rattle.turn_loops.specs.Turned.{MakesTurn, PrintsTurn, TurnedOn}
use Rattle.turn_loops.specs.Turning.{HasNoLineLeft}
use Rattle.turn_loops.specs.declared.turning.TurnMade.{TurnMade}
use Rattle.turn_loops.specs.declared.turning.Turned.TheVariants.{Went, Stopped}
use Rattle.turn_loops.proofs.Coming.{Printing}
use Rattle.turn_loops.proofs.TurnsAlone.{ComesAlone, NextAlone, RanAll, comes_none, ends_alone, goes_alone, line_left}

-- What a run of the next line begins with, by the hands of the machine.
pub next_alone : (m : Machine) (line : Line) (actor : ℕ) → actor ≡ index_of m.sizes line.actor
    → (handful_in m.hands (index_of m.sizes line.actor)).core.state.place ≡ place.Between
    → slice_get (handful_in m.hands (index_of m.sizes line.actor)).core.lines (length (handful_in m.hands (index_of m.sizes line.actor)).core.answers)
    ≡ Some line
    → line.actor ≡ (handful_in m.hands (index_of m.sizes line.actor)).core.state.actor
    → LineAlone m.sizes (world_in m) (index_of m.sizes line.actor) → Reachable (world_in m) → NextAlone m.sizes line actor (world_in m)
next_alone m line actor at idle next own alone reached =
    let is : (handful_in m.hands (index_of m.sizes line.actor)).core ≡ hand_in mmu (world_in m) actor =
    core_at m.words m.hands (index_of m.sizes line.actor) ∙ ap (λ (i : ℕ). hand_in mmu (world_in m) i) (sym at) in
    record {
      idle = subst (λ (h : Held). h.state.place ≡ place.Between) is idle;
      next = subst (λ (h : Held). slice_get h.lines (length h.answers) ≡ Some line) is next;
      own = subst (λ (h : Held). line.actor ≡ h.state.actor) is own;
      alone = subst (λ (i : ℕ). LineAlone m.sizes (world_in m) i) (sym at) alone;
      reached = reached;
    }

-- how many turns may be left until no line is under way
abbrev left_by : Place → ℕ → ℕ
left_by place.Between n = 0
left_by _ n = suc n

abbrev pub left_under_way : Held → ℕ
left_under_way h = left_by h.state.place (hand_left h)

less_under_way : (p q : Place) (m n : ℕ) → IsUnderWay p → IsUnderWay q → m < n → left_by p m < left_by q n
less_under_way place.Between q m n from to less = absurd from
less_under_way _ place.Between m n from to less = absurd to
less_under_way _ _ m n from to less = omega (arith, less)

none_under_way : (p q : Place) (m n : ℕ) → p ≡ place.Between → IsUnderWay q → left_by p m < left_by q n
none_under_way p place.Between m n is under = absurd under
none_under_way p _ m n is under = rw is (omega arith)

not_between : (p : Place) → IsUnderWay p → p ≡ place.Between → ⊥
not_between p under is = subst IsUnderWay is under

-- The line has come so far, and the marks of its turns were printed; it is under way, or no turn was made.
pub record TurnsPut {V : Type 0} (prints : V → List Mark → V → Type 0) (line : Line) (actor : ℕ) (w t : World Held) (p q : V) : Type 0 where
  pub so_far : ComesAlone (λ ms. prints p ms q) line actor w t
  pub begun : ((t ≡ w) × (so_far.part.steps ≡ [])) ⊎ IsUnderWay (hand_in mmu t actor).state.place

-- The printing stopped, and the line has not begun, or is answered.
abbrev pub StopsOver : {V : Type 0} → (V → List Mark → Stop → V → Type 0) → Sizes → Line → ℕ → World Held → World Held → V → Stop → V → Type 0
StopsOver stops z line actor w t p stop q = ((t ≡ w) × stops p [] stop q) ⊎ RanAll (λ ms. stops p ms stop q) z line actor w t

-- Or it is under way.
abbrev pub StopsIn : {V : Type 0} → (V → List Mark → Stop → V → Type 0) → Sizes → Line → ℕ → World Held → World Held → V → Stop → V → Type 0
StopsIn stops z line actor w t p stop q =
    StopsOver stops z line actor w t p stop q
    ⊎ (ComesAlone (λ ms. stops p ms stop q) line actor w t × IsUnderWay (hand_in mmu t actor).state.place)

module _ {V : Type 0} (prints : V → List Mark → V → Type 0) (stops : V → List Mark → Stop → V → Type 0) (L : Printing prints stops) (z : Sizes)
    (line : Line) (actor : ℕ) (w : World Held) (N : NextAlone z line actor w) (p : V) where
  pub none_put : prints p [] p → TurnsPut prints line actor w w p p
  none_put nothing =
      let F = comes_none (λ ms. prints p ms p) z line actor w N nothing in
      record { so_far = F.0; begun = inl (refl, F.1) }

  over_rests : (t : World Held) (stop : Stop) (q : V) → StopsOver stops z line actor w t p stop q → (hand_in mmu t actor).state.place ≡ place.Between
  over_rests t stop q (inl (same, none)) = subst (λ (x : World Held). (hand_in mmu x actor).state.place ≡ place.Between) (sym same) N.idle
  over_rests t stop q (inr (answer, ran, all)) = ran.answered.between

  -- Where no line is under way, it is over.
  pub over_there : (t : World Held) (stop : Stop) (q : V) → (IsUnderWay (hand_in mmu t actor).state.place → ⊥) → StopsIn stops z line actor w t p stop q
      → StopsOver stops z line actor w t p stop q
  over_there t stop q none (inl over) = over
  over_there t stop q none (inr going) = absurd (none going.1)

  module _ (t u : World Held) (q r : V) (F : TurnsPut prints line actor w t p q) where
    -- A line is left.
    pub some_left : HasNoLineLeft actor t → ⊥
    some_left none =
        let has : has_line (hand_in mmu t actor) ≡ true =
        has_line_is (hand_in mmu t actor) (line_left (λ ms. prints p ms q) line actor w t F.so_far) in
        absurd (cc (none, has))

    -- One turn more.
    pub went_on : PrintsTurn prints stops actor t u q r (Ok Went)
        → TurnsPut prints line actor w u p r × (hand_left (hand_in mmu u actor) < hand_left (hand_in mmu t actor))
    went_on (bytes, M, put) =
        let on =
        goes_alone (λ ms. prints p ms q) (λ ms. prints p ms r) z line actor w t u N F.so_far false bytes M
        (λ ms done. L.both p q r ms (Made t M.step ∷ []) done put) refl in
        (record { so_far = on.0; begun = inr on.1 }, on.2)

    -- The last one.
    pub answered : PrintsTurn prints stops actor t u q r (Ok Stopped) → RanAll (λ ms. prints p ms r) z line actor w u
    answered (bytes, M, put) =
        ends_alone (λ ms. prints p ms q) (λ ms. prints p ms r) z line actor w t u N F.so_far true bytes M
        (λ ms done. L.both p q r ms (Made t M.step ∷ []) done put) refl

    -- The printing stops.
    pub stopped_in : (stop : Stop) → PrintsTurn prints stops actor t u q r (Err stop) → StopsIn stops z line actor w u p stop r
    stopped_in stop (inl (same, most)) = by F.begun
      where
        all : stops p (turns_from w F.so_far.part.steps ++ []) stop r
        all = L.stopped p q r (turns_from w F.so_far.part.steps) [] stop F.so_far.holds most

        by : ((t ≡ w) × (F.so_far.part.steps ≡ [])) ⊎ IsUnderWay (hand_in mmu t actor).state.place → StopsIn stops z line actor w u p stop r
        by (inl (is, none)) = inl (inl (same ∙ is, subst (λ ss. stops p (turns_from w ss ++ []) stop r) none all))
        by (inr under) =
            inr (subst (λ (x : World Held). ComesAlone (λ ms. stops p ms stop r) line actor w x × IsUnderWay (hand_in mmu x actor).state.place) (sym same) (
              record {
                part = F.so_far.part;
                holds = subst (λ (ms : List Mark). stops p ms stop r) (append-nil (turns_from w F.so_far.part.steps)) all;
              },
              under,
            ))
    stopped_in stop (inr (bytes, line_stops, M, most)) = by line_stops refl
      where
        more : (ms : List Mark) → prints p ms q → stops p (ms ++ Made t M.step ∷ []) stop r
        more ms done = L.stopped p q r ms (Made t M.step ∷ []) stop done most

        by : (b : Bool) → line_stops ≡ b → StopsIn stops z line actor w u p stop r
        by true ends =
            inl (inr (ends_alone (λ ms. prints p ms q) (λ ms. stops p ms stop r) z line actor w t u N F.so_far line_stops bytes M more ends))
        by false goes =
            let on = goes_alone (λ ms. prints p ms q) (λ ms. stops p ms stop r) z line actor w t u N F.so_far line_stops bytes M more goes in
            inr (on.0, on.1)

  -- A turn that is made after the printing stopped.
  module _ (part : (p q : V) (marks more : List Mark) (stop : Stop) → stops p marks stop q → stops p (marks ++ more) stop q) (stop : Stop) (q : V) where
    unprinted : (t u : World Held) (line_stops : Bool) (bytes : List ℕ) → MakesTurn actor t u line_stops bytes
        → ComesAlone (λ ms. stops p ms stop q) line actor w t → IsUnderWay (hand_in mmu t actor).state.place
        → StopsIn stops z line actor w u p stop q × (left_under_way (hand_in mmu u actor) < left_under_way (hand_in mmu t actor))
    unprinted t u line_stops bytes M F under = by line_stops refl
      where
        more : (ms : List Mark) → stops p ms stop q → stops p (ms ++ Made t M.step ∷ []) stop q
        more ms most = part p q ms (Made t M.step ∷ []) stop most

        by : (b : Bool) → line_stops ≡ b
            → StopsIn stops z line actor w u p stop q × (left_under_way (hand_in mmu u actor) < left_under_way (hand_in mmu t actor))
        by true ends =
            let ran = ends_alone (λ ms. stops p ms stop q) (λ ms. stops p ms stop q) z line actor w t u N F line_stops bytes M more ends in (
              inl (inr ran),
              none_under_way (hand_in mmu u actor).state.place (hand_in mmu t actor).state.place (hand_left (hand_in mmu u actor))
                  (hand_left (hand_in mmu t actor)) ran.1.answered.between under,
            )
        by false goes =
            let on = goes_alone (λ ms. stops p ms stop q) (λ ms. stops p ms stop q) z line actor w t u N F line_stops bytes M more goes in (
              inr (on.0, on.1),
              less_under_way (hand_in mmu u actor).state.place (hand_in mmu t actor).state.place (hand_left (hand_in mmu u actor))
                  (hand_left (hand_in mmu t actor)) on.1 under on.2,
            )

    pub turned_unprinted : (m : Machine) (u : World Held) (made : Result (Option TurnMade) NoMemory) → IfOk made (λ x. TurnedOn x actor (world_in m) u)
        → OnErr made ((handful_in m.hands actor).core.state.place ≡ place.Between) → IsUnderWay (hand_in mmu (world_in m) actor).state.place
        → StopsIn stops z line actor w (world_in m) p stop q
        → StopsIn stops z line actor w u p stop q × (left_under_way (hand_in mmu u actor) < left_under_way (hand_in mmu (world_in m) actor))
    turned_unprinted m u made turned begins under (inl over) =
        absurd (not_between (hand_in mmu (world_in m) actor).state.place under (over_rests (world_in m) stop q over))
    turned_unprinted m u (Err e) turned begins under (inr going) =
        absurd (not_between (hand_in mmu (world_in m) actor).state.place under
        (subst (λ (h : Held). h.state.place ≡ place.Between) (core_at m.words m.hands actor) begins))
    turned_unprinted m u (Ok None) turned begins under (inr going) =
        let has : has_line (hand_in mmu (world_in m) actor) ≡ true =
        has_line_is (hand_in mmu (world_in m) actor) (line_left (λ ms. stops p ms stop q) line actor w (world_in m) going.0) in
        let none : has_line (hand_in mmu (world_in m) actor) ≡ false = turned.0 in
        absurd (cc (none, has))
    turned_unprinted m u (Ok (Some made)) turned begins under (inr going) = unprinted (world_in m) u _ _ turned.makes going.0 under
