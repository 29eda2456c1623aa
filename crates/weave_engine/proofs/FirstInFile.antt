-- Where the numbers of a trace's lines rise, the first line that has no answer is the first one of the file.
use Rattle.std.proofs.Common.{◌≡◌, ◌<◌, ◌≤◌, ℕ, suc, List, ◌∷◌, ◌++◌, length, take, drop, get_or, refl, sym, ap, subst, ◌∙◌, arith}
use Rattle.std.proofs.Math.Seq.{drop-cons}
use Rattle.std.proofs.lemmas.Bool.Decides.{nat_tests}
use Rattle.std.proofs.lemmas.List.{get_or-map, get_or-take, length-map, length-take, length-take-le, take-append-drop}
use Rattle.std.proofs.lemmas.List.Elements.{All-contains_itself, All-filter, All-from_get_or, All-get_or, All-map, All-take, Contains-append_right}
use Rattle.std.proofs.lemmas.List.Elements.{Contains-get_or, filter-append, filter_passes}
use Rattle.std.proofs.lemmas.List.Kept.{AllPairs-filter, AllPairs-from_increasing}
use Rattle.std.proofs.lemmas.Option.{slice_get-get_or, slice_get_within}
use Rattle.std.specs.List.{AllPairs, Contains}
use Rattle.std.specs.List.Sorted.{IsStrictlyIncreasing}
use Rattle.std.specs.Prelude.{Bool, true, false, All, Some, filter, map, nat_lt, slice_get, unwrap_or}
use Rattle.std.specs.declared.option.Option.{Option}
use Rattle.core_views.specs.declared.actor.Actor.{Actor}
use Rattle.core_views.specs.declared.answer.Answer.TheVariants.{Done}
use Rattle.core_views.specs.declared.answer.AnsweredLine.{AnsweredLine}
use Rattle.core_views.specs.declared.event.Event.{Event}
use Rattle.core_views.specs.declared.kind.Kind.{Kind}
use Rattle.core_views.specs.declared.sizes.Sizes.{Sizes}
use Rattle.core_views.specs.declared.trace.Line.{Line}
use Rattle.core_views.specs.Actors.{is_same}
use Rattle.core_views.specs.Flat.{no_line}
use Rattle.core_views.specs.Held.{Held}
use Rattle.core_views.specs.Sizes.{actor_at, actors_of, index_of}
use Rattle.core_views.specs.Text.{answers_of}
use Rattle.core_views.specs.Traces.{IsCommandFor}
use Rattle.core_views.specs.Whole.{lines_of}
use Rattle.core_views.proofs.SameActor.{is_same_self}
use Rattle.mmu_core.specs.machine.Enabled.{mmu}
use Rattle.mmu_laws.specs.flat.Histories.{answered_in, answers_by}
use Rattle.mmu_core.specs.machine.Machine.{Legal, Step, World, hand_in, run}
use Rattle.mmu_core.specs.machine.Steps.{next_line}
use Rattle.mmu_core.specs.machine.Turns.{with_answer}
use Rattle.mmu_core.specs.machine.Worlds.{IsStart, history}
use Rattle.mmu_laws.proofs.flat.EveryAnswer.{start_follows}
use Rattle.mmu_core.proofs.start.Starts.{same_actor}
use Rattle.mmu_laws.proofs.flat.WholeSoFar.{stays_whole}
use Rattle.turn_loops.specs.Turning.{HasLineLeft}
use Rattle.turn_loops.specs.FirstOpen.{IsFirstInFile, IsFirstOpen, numbers_answered}
use Rattle.turn_loops.proofs.FileOrder.{maker_is, maker_there, next_is}

-- Each line has a number below those of all later ones.
abbrev Rise : List Line → Type 0
Rise lines = AllPairs (λ (x : Line) (y : Line). x.number < y.number) lines

rise : (lines : List Line) → IsStrictlyIncreasing (map (λ (l : Line). l.number) lines) → Rise lines
rise lines up i j d lt below =
    let n = length-map lines (λ (l : Line). l.number) in
    let at_i = get_or-map (λ (l : Line). l.number) lines i d d.number (omega arith) in
    let at_j = get_or-map (λ (l : Line). l.number) lines j d d.number below in
    let less = AllPairs-from_increasing (map (λ (l : Line). l.number) lines) up i j d.number lt (omega (arith, n)) in
    omega (arith, at_i, at_j, less)

-- A list has the elements of which a test holds in what it keeps, and its elements' images among their images.
kept : {X : Type 0} (p : X → Bool) (x : X) (xs : List X) → p x ≡ true → filter p (x ∷ xs) ≡ x ∷ filter p xs
kept p x xs is = rw is refl

has_kept : {X : Type 0} (p : X → Bool) (xs : List X) (k : ℕ) (d : X) → k < length xs → p (get_or xs k d) ≡ true → Contains (filter p xs) (get_or xs k d)
has_kept {X} p xs k d lt is =
    let x : X = get_or xs k d in
    let front : List X = filter p (take k xs) in
    let back : List X = filter p (drop (suc k) xs) in
    let whole : filter p xs ≡ front ++ x ∷ back =
    ap (filter p) (sym (take-append-drop k xs)) ∙ filter-append p (take k xs) (drop k xs)
    ∙ ap (λ (ys : List X). front ++ filter p ys) (drop-cons xs k d lt) ∙ ap (λ (ys : List X). front ++ ys) (kept p x (drop (suc k) xs) is) in
    subst (λ (ys : List X). Contains ys x) (sym whole) (Contains-append_right front (x ∷ back) x (0, omega arith, refl))

has_image : {X : Type 0} (f : X → ℕ) (xs : List X) (x : X) → Contains xs x → Contains (map f xs) (f x)
has_image f xs x C = let n = length-map xs f in let lt = C.1 in (C.0, omega (arith, n, lt), get_or-map f xs C.0 x (f x) C.1 ∙ ap f C.2)

-- What a list's images have is the image of an element.
record IsImage {X : Type 0} (f : X → ℕ) (xs : List X) (n : ℕ) (d : X) : Type 0 where
  k : ℕ
  below : k < length xs
  is : f (get_or xs k d) ≡ n

of_image : {X : Type 0} (f : X → ℕ) (xs : List X) (n : ℕ) (d : X) → Contains (map f xs) n → IsImage f xs n d
of_image f xs n d C =
    let size = length-map xs f in
    let lt = C.1 in
    let below : C.0 < length xs = omega (arith, size, lt) in
    record { k = C.0; below = below; is = sym (get_or-map f xs C.0 d n below) ∙ C.2 }

any_default : (lines : List Line) (k : ℕ) (d e : Line) → k < length lines → get_or lines k d ≡ get_or lines k e
any_default lines k d e lt =
    let same : Some (get_or lines k d) ≡ Some (get_or lines k e) = sym (slice_get-get_or lines k d lt) ∙ slice_get-get_or lines k e lt in
    ap (λ (o : Option Line). unwrap_or o d) same

module _ (z : Sizes) (lines : List Line) (start : World Held) (ss : List (Step Kind)) (is_start : IsStart z lines start) (legal : Legal mmu start ss)
    (up : IsStrictlyIncreasing (map (λ (l : Line). l.number) lines)) where
  abbrev told : List Event
  told = history start ss

  abbrev hand : ℕ → Held
  hand i = hand_in mmu (run mmu start ss) i

  abbrev own : ℕ → List Line
  own i = lines_of (actor_at z i) lines

  abbrev done : ℕ → ℕ
  done i = length (hand i).answers

  own_lines : (i : ℕ) → i < actors_of z → (hand i).lines ≡ own i
  own_lines i i_in = (start_follows z lines start ss i is_start legal i_in).lines

  own_numbers : (i : ℕ) → i < actors_of z
      → map (λ (x : AnsweredLine). x.number) (answers_by (actor_at z i) told) ≡ map (λ (l : Line). l.number) (take (done i) (own i))
  own_numbers i i_in =
      let F = start_follows z lines start ss i is_start legal i_in in
      ap (map (λ (x : AnsweredLine). x.number)) (sym F.answers) ∙ F.numbers refl
      ∙ ap (λ (ls : List Line). map (λ (l : Line). l.number) (take (done i) ls)) F.lines

  own_rise : (i : ℕ) → Rise (own i)
  own_rise i = AllPairs-filter (λ (x : Line) (y : Line). x.number < y.number) (λ (l : Line). is_same (actor_at z i) l.actor) lines (rise lines up)

  -- The actor's first lines are answered.
  every : All (λ (x : AnsweredLine). Contains (numbers_answered told) x.number) (answers_of told)
  every k d lt =
      let n = length-map (answers_of told) (λ (x : AnsweredLine). x.number) in
      subst (Contains (numbers_answered told)) (get_or-map (λ (x : AnsweredLine). x.number) (answers_of told) k d d.number lt)
      (Contains-get_or (numbers_answered told) k d.number (omega (arith, n, lt)))

  first_told : (i p : ℕ) (d : Line) → i < actors_of z → p < done i → p < length (own i) → Contains (numbers_answered told) (get_or (own i) p d).number
  first_told i p d i_in few below =
      let each : All (Contains (numbers_answered told)) (map (λ (x : AnsweredLine). x.number) (answers_by (actor_at z i) told)) =
      All-map (Contains (numbers_answered told)) (λ (x : AnsweredLine). x.number) (answers_by (actor_at z i) told)
      (All-filter (λ (x : AnsweredLine). is_same (actor_at z i) x.actor) (λ (x : AnsweredLine). Contains (numbers_answered told) x.number)
      (answers_of told) every) in let taken : List Line = take (done i) (own i) in let n = length-map taken (λ (l : Line). l.number) in let m =
      length-take (done i) (own i) in let there : p < length taken = omega (arith, m, few, below) in
      let at : get_or (map (λ (l : Line). l.number) taken) p 0 ≡ (get_or (own i) p d).number =
      get_or-map (λ (l : Line). l.number) taken p d 0 there ∙ ap (λ (l : Line). l.number) (get_or-take (done i) (own i) p d few) in
      subst (Contains (numbers_answered told)) at
      (All-get_or (Contains (numbers_answered told)) (map (λ (l : Line). l.number) taken) p 0 (omega (arith, n, there))
      (subst (λ (ns : List ℕ). All (Contains (numbers_answered told)) ns) (own_numbers i i_in) each))

  -- The actor's next line is the one after them.
  next_own : (i : ℕ) (d : Line) → i < actors_of z → done i < length (own i) → next_line (hand i) ≡ get_or (own i) (done i) d
  next_own i d i_in lt = ap (λ (ls : List Line). unwrap_or (slice_get ls (done i)) no_line) (own_lines i i_in)
      ∙ ap (λ (o : Option Line). unwrap_or o no_line) (slice_get-get_or (own i) (done i) d lt)

  has_own : (i : ℕ) → i < actors_of z → done i < length (own i) → HasLineLeft i (run mmu start ss)
  has_own i i_in lt = let e = ap (λ (ls : List Line). length ls) (own_lines i i_in) in let below : done i < length (hand i).lines =
      omega (arith, e, lt) in grind (arith, nat_tests)

  few_own : (i : ℕ) → i < actors_of z → HasLineLeft i (run mmu start ss) → done i < length (own i)
  few_own i i_in has = let e = ap (λ (ls : List Line). length ls) (own_lines i i_in) in let below : done i < length (hand i).lines =
      grind (arith, nat_tests) in omega (arith, e, below)

  not_above : (i n p : ℕ) (d : Line) → n ≤ p → p < length (own i) → (get_or (own i) n d).number ≤ (get_or (own i) p d).number
  not_above i n p d le below = by (nat_lt n p) refl
    where
      by : (b : Bool) → nat_lt n p ≡ b → (get_or (own i) n d).number ≤ (get_or (own i) p d).number
      by true e = let lt : n < p = grind (arith, nat_tests) in let less = own_rise i n p d lt below in omega (arith, less)
      by false e = let ge : p ≤ n = grind (arith, nat_tests) in let same : n ≡ p = omega (arith, ge, le) in let is =
          ap (λ (k : ℕ). (get_or (own i) k d).number) same in omega (arith, is)

  -- Two lines of one number are one.
  one_line : (x y : Line) → Contains lines x → Contains lines y → x.number ≡ y.number → x ≡ y
  one_line x y X Y same = by (nat_lt X.0 Y.0) (nat_lt Y.0 X.0) refl refl
    where
      x_at : (get_or lines X.0 x).number ≡ x.number
      x_at = ap (λ (l : Line). l.number) X.2

      y_at : (get_or lines Y.0 x).number ≡ y.number
      y_at = ap (λ (l : Line). l.number) (any_default lines Y.0 x y Y.1 ∙ Y.2)

      by : (b c : Bool) → nat_lt X.0 Y.0 ≡ b → nat_lt Y.0 X.0 ≡ c → x ≡ y
      by true c e f = let lt : X.0 < Y.0 = grind (arith, nat_tests) in let less = rise lines up X.0 Y.0 x lt Y.1 in let a = x_at in let b = y_at in
          absurd (omega (arith, less, a, b, same))
      by false true e f = let lt : Y.0 < X.0 = grind (arith, nat_tests) in let less = rise lines up Y.0 X.0 x lt X.1 in let a = x_at in let b =
          y_at in absurd (omega (arith, less, a, b, same))
      by false false e f =
          let ge : Y.0 ≤ X.0 = grind (arith, nat_tests) in
          let le : X.0 ≤ Y.0 = grind (arith, nat_tests) in
          let at : X.0 ≡ Y.0 = omega (arith, ge, le) in
          sym X.2 ∙ ap (λ (k : ℕ). get_or lines k x) at ∙ any_default lines Y.0 x y Y.1 ∙ Y.2

  module _ (line : Line) (open_ : IsFirstOpen z (run mmu start ss) line) where
    left : done open_.actor < length (own open_.actor)
    left = few_own open_.actor open_.there open_.left

    own_is : get_or (own open_.actor) (done open_.actor) line ≡ line
    own_is = sym (next_own open_.actor line open_.there left) ∙ open_.is

    -- where it stands in the file
    stands : Contains lines line
    stands = subst (Contains lines) own_is (All-get_or (Contains lines) (own open_.actor) (done open_.actor) line left
        (All-filter (λ (l : Line). is_same (actor_at z open_.actor) l.actor) (Contains lines) lines (All-contains_itself lines)))

    its_actor : line.actor ≡ actor_at z open_.actor
    its_actor = same_actor (actor_at z open_.actor) line.actor (subst (λ (l : Line). is_same (actor_at z open_.actor) l.actor ≡ true) own_is
        (All-get_or (λ (l : Line). is_same (actor_at z open_.actor) l.actor ≡ true) (own open_.actor) (done open_.actor) line left
        (filter_passes (λ (l : Line). is_same (actor_at z open_.actor) l.actor) lines)))

    -- A line before it is answered, or its actor's next one would be before it.
    earlier : (m : ℕ) → m < stands.0 → Contains (numbers_answered told) (get_or lines m line).number
    earlier m lt = by (nat_lt p (done j)) refl
      where
        m_in : m < length lines
        m_in = let below = stands.1 in omega (arith, lt, below)

        may : IsCommandFor z (get_or lines m line).actor (get_or lines m line).command
        may = All-get_or (λ (l : Line). IsCommandFor z l.actor l.command) lines m line m_in is_start.allowed

        j : ℕ
        j = index_of z (get_or lines m line).actor

        j_in : j < actors_of z
        j_in = maker_there z (get_or lines m line).actor (get_or lines m line).command may

        p : ℕ
        p = length (lines_of (actor_at z j) (take m lines))

        here : slice_get (own j) p ≡ Some (get_or lines m line)
        here = next_is (actor_at z j) lines m line m_in (maker_is z (get_or lines m line).actor (get_or lines m line).command may)

        p_in : p < length (own j)
        p_in = slice_get_within (own j) p (get_or lines m line) here

        p_is : get_or (own j) p line ≡ get_or lines m line
        p_is = let same : Some (get_or (own j) p line) ≡ Some (get_or lines m line) = sym (slice_get-get_or (own j) p line p_in) ∙ here in
            ap (λ (o : Option Line). unwrap_or o line) same

        by : (b : Bool) → nat_lt p (done j) ≡ b → Contains (numbers_answered told) (get_or lines m line).number
        by true e = let few : p < done j = grind (arith, nat_tests) in
            subst (λ (l : Line). Contains (numbers_answered told) l.number) p_is (first_told j p line j_in few p_in)
        by false e =
            let ge : done j ≤ p = grind (arith, nat_tests) in
            let p_lt = p_in in
            let more : done j < length (own j) = omega (arith, ge, p_lt) in
            let first = open_.first j j_in (has_own j j_in more) in
            let next = ap (λ (l : Line). l.number) (next_own j line j_in more) in
            let up_to = not_above j (done j) p line ge p_in in
            let is = ap (λ (l : Line). l.number) p_is in
            let before = rise lines up m stands.0 line lt stands.1 in
            let at = ap (λ (l : Line). l.number) stands.2 in
            absurd (omega (arith, first, next, up_to, is, before, at))

    -- It is not answered: all answers of its number would be of its actor, which has answered only lines before it.
    never_own : Contains (map (λ (x : AnsweredLine). x.number) (answers_by (actor_at z open_.actor) told)) line.number → ⊥
    never_own C =
        let i : ℕ = open_.actor in
        let I = of_image (λ (l : Line). l.number) (take (done i) (own i)) line.number line (subst (λ (ns : List ℕ). Contains ns line.number)
        (own_numbers i open_.there) C) in let k_lt = I.below in let m = length-take (done i) (own i) in let few : I.k < done i =
        omega (arith, k_lt, m) in let k_is = I.is in let same = ap (λ (l : Line). l.number) (get_or-take (done i) (own i) I.k line few) in let less =
        own_rise i I.k (done i) line few left in let at = ap (λ (l : Line). l.number) own_is in omega (arith, k_is, same, less, at)

    never : Contains (numbers_answered told) line.number → ⊥
    never C = never_own (subst (λ (a : Actor). Contains (map (λ (x : AnsweredLine). x.number) (answers_by a told)) line.number) whose by_it)
      where
        I : IsImage (λ (x : AnsweredLine). x.number) (answers_of told) line.number (with_answer line Done)
        I = of_image (λ (x : AnsweredLine). x.number) (answers_of told) line.number (with_answer line Done) C

        x : AnsweredLine
        x = get_or (answers_of told) I.k (with_answer line Done)

        by_it : Contains (map (λ (y : AnsweredLine). y.number) (answers_by x.actor told)) line.number
        by_it = subst (Contains (map (λ (y : AnsweredLine). y.number) (answers_by x.actor told))) I.is
            (has_image (λ (y : AnsweredLine). y.number) (answers_by x.actor told) x
            (has_kept (λ (y : AnsweredLine). is_same x.actor y.actor) (answers_of told) I.k (with_answer line Done) I.below (is_same_self x.actor)))

        theirs : List Line
        theirs = take (answered_in z (run mmu start ss) x.actor) (lines_of x.actor lines)

        L : IsImage (λ (l : Line). l.number) theirs line.number line
        L = of_image (λ (l : Line). l.number) theirs line.number line
            (subst (λ (ns : List ℕ). Contains ns line.number) ((stays_whole z lines start ss is_start legal).answered x.actor) by_it)

        l_there : Contains lines (get_or theirs L.k line)
        l_there = All-get_or (Contains lines) theirs L.k line L.below (All-take (Contains lines) _ (lines_of x.actor lines)
            (All-filter (λ (l : Line). is_same x.actor l.actor) (Contains lines) lines (All-contains_itself lines)))

        l_whose : is_same x.actor (get_or theirs L.k line).actor ≡ true
        l_whose = All-get_or (λ (l : Line). is_same x.actor l.actor ≡ true) theirs L.k line L.below (All-take
            (λ (l : Line). is_same x.actor l.actor ≡ true) _ (lines_of x.actor lines) (filter_passes (λ (l : Line). is_same x.actor l.actor) lines))

        whose : x.actor ≡ actor_at z open_.actor
        whose = sym (same_actor x.actor line.actor
            (subst (λ (l : Line). is_same x.actor l.actor ≡ true) (one_line (get_or theirs L.k line) line l_there stands L.is) l_whose)) ∙ its_actor

    pub first_in_file : IsFirstInFile told lines line
    first_in_file = record {
      before = stands.0;
      is = slice_get-get_or lines stands.0 line stands.1 ∙ ap (λ (l : Line). Some l) stands.2;
      answered = All-from_get_or (λ (l : Line). Contains (numbers_answered told) l.number) (take stands.0 lines) line in_front;
      open_ = never;
    }
      where
        in_front : (k : ℕ) → k < length (take stands.0 lines) → Contains (numbers_answered told) (get_or (take stands.0 lines) k line).number
        in_front k k_in =
            let below = stands.1 in
            let n = length-take-le stands.0 lines (omega (arith, below)) in
            let lt : k < stands.0 = omega (arith, k_in, n) in
            subst (λ (l : Line). Contains (numbers_answered told) l.number) (sym (get_or-take stands.0 lines k line lt)) (earlier k lt)
