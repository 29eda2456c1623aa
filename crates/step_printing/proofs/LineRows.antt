-- The lines of a run tell its turns one for one.
use Rattle.std.proofs.Common.{◌≡◌, ◌+◌, ℕ, zero, suc, List, [], ◌∷◌, ◌++◌, refl, sym, ap, subst, ◌∙◌, arith}
use Rattle.std.specs.Prelude.{Bool, true, false, ◌==◌, ◌||◌, if◌then◌else◌}
use Rattle.core_views.specs.declared.actor.Actor.{Actor}
use Rattle.core_views.specs.declared.answer.Answer.{Answer}
use Rattle.core_views.specs.declared.kind.StepKind.TheVariants.{Fill}
use Rattle.core_views.specs.declared.kind.Kind.{Kind}
use Rattle.core_views.specs.declared.sizes.Sizes.{Sizes}
use Rattle.core_views.specs.Actors.{is_same}
use Rattle.core_views.specs.Held.{Held}
use Rattle.core_views.specs.Kinds.{code_of}
use Rattle.mmu_core.proofs.start.Starts.{same_actor}
use Rattle.mmu_core.specs.machine.Machine.{Step, World}
use Rattle.part_steps.specs.Tasks.{map_of}
use Rattle.spte_words.specs.declared.area.Area.{Area}
use Rattle.spte_words.specs.declared.area.Area.TheVariants as area
use Rattle.spte_words.specs.Areas.{number_of}
use Rattle.step_seats.specs.declared.turn.Turn.{Turn}
use Rattle.step_seats.specs.declared.turn.Turn.TheVariants.{More, Wait, Retry, Done}
use Rattle.step_text.specs.declared.fold.Fold.{Fold}
use Rattle.step_text.specs.declared.row.Row.{Row}
use Rattle.step_text.specs.Rows.{item_text, rounds_text}
use Rattle.turn_loops.specs.Marks.{Mark, Made, Begins, Rounds, Over}
use Rattle.step_printing.specs.Laws.{LinesTellTurns, each_turn, next_of, rows_made, rows_told, whole_view}
use Rattle.step_printing.specs.Lines.{Entry, Shared, Ended, Text, both_of, entries, fold_by, goes_on, is_next_word, joined, made_of, placed, shares}
use Rattle.step_printing.specs.Lines.{turn_entry, with_more}
use Rattle.step_printing.specs.Rows.{place_in, role_shown, row_of, turn_in}
use Rattle.step_printing.specs.Views.{after_go, after_turn, shows, shows_item, shows_rounds}
use Rattle.step_printing.specs.declared.view.MadeTurn.{MadeTurn}
use Rattle.step_printing.specs.declared.view.Reach.{Reach}
use Rattle.step_printing.specs.declared.view.View.{View}
use Rattle.step_printing.proofs.Fills.{both, equal}

abbrev area_by : ℕ → Area
area_by n =
    if n == 0 then area.Root else
    if n == 1 then area.Slots else
    if n == 2 then area.Seq else
    if n == 3 then area.Count else
    if n == 4 then area.RangeStart else
    if n == 5 then area.RangeEnd else
    if n == 6 then area.Lock else
    if n == 7 then area.Pause else
    if n == 8 then area.State else
    if n == 9 then area.PoolMap else
    if n == 10 then area.FrameMap else
    if n == 11 then area.Log else
    if n == 12 then area.Host else
    if n == 13 then area.Role else
    if n == 14 then area.Pool else area.Content

area_is : (a : Area) → area_by (number_of a) ≡ a
area_is area.Root = refl
area_is area.Slots = refl
area_is area.Seq = refl
area_is area.Count = refl
area_is area.RangeStart = refl
area_is area.RangeEnd = refl
area_is area.Lock = refl
area_is area.Pause = refl
area_is area.State = refl
area_is area.PoolMap = refl
area_is area.FrameMap = refl
area_is area.Log = refl
area_is area.Host = refl
area_is area.Role = refl
area_is area.Pool = refl
area_is area.Content = refl

-- the row with these numbers, of one turn
abbrev row_by : ℕ → Actor → ℕ → Area → ℕ → ℕ → ℕ → ℕ → Row
row_by first actor code at index role found left = record {
  first = first;
  count = 1;
  actor = actor;
  code = code;
  place = record { area = at; index = index };
  role = role;
  found = found;
  left = left;
}

-- How many turns its own line has doesn't matter to what is told of so many.
each_as_one : (n : ℕ) (row : Row) → each_turn n row ≡ each_turn n (record row { count = 1 })
each_as_one zero row = refl
each_as_one (suc n) row =
    ap (λ (rows : List Row). record row { count = 1 } ∷ rows) (each_as_one n (next_of row) ∙ sym (each_as_one n (next_of (record row { count = 1 }))))

-- The first line is of turns from this number on, and tells no role of stores, unless no other turn shares it.
abbrev Heads : ℕ → List Entry → Type 0
Heads number [] = Unit {0}
Heads number (Shared fold ∷ rest) = (fold.row.first ≡ number) × (fold.row.code ≡ code_of Fill → fold.row.role ≡ 0)
Heads number (Ended row ended ∷ rest) = Unit {0}
Heads number (Text text ∷ rest) = Unit {0}

abbrev v : View
v = whole_view

abbrev at_number : ℕ → Bool → Reach
at_number number begun = record { number = number; begun = begun; over = false }

-- All turns are shown.
all_shown : (number : ℕ) (begun : Bool) (m : MadeTurn) → shows v (at_number number begun) m ≡ true
all_shown number true m = refl
all_shown number false m = refl

-- What shares a line are stores that go on.
stores : (z : Sizes) (x y : Bool) (a b : Row) (la lb : ℕ)
    → shares v z (record { row = a; last = la; waits = x }) (record { row = b; last = lb; waits = y }) ≡ true → goes_on z a b ≡ true
stores z false false a b la lb e = e
stores z false true a b la lb e = absurd (cc e)
stores z true false a b la lb e = absurd (cc e)
stores z true true a b la lb e = absurd (cc e)

module _ (z : Sizes) where
  shared_heads : (number : ℕ) (fold : Fold) (rest : List Entry) → fold.row.first ≡ number → (fold.row.code ≡ code_of Fill → fold.row.role ≡ 0)
      → Heads number (joined v z (Shared fold) rest)
  shared_heads number fold [] is none = (is, none)
  shared_heads number fold (Text text ∷ rest) is none = (is, none)
  shared_heads number fold (Ended row ended ∷ rest) is none = (is, none)
  shared_heads number fold (Shared b ∷ rest) is none = by (shares v z fold b)
    where
      by : (t : Bool) → Heads number (if t then Shared (both_of fold b) ∷ rest else Shared fold ∷ (Shared b ∷ rest))
      by true = (is, none)
      by false = (is, none)

  turn_heads : (number : ℕ) (row : Row) (told : Turn Answer) (rest : List Entry) → row.first ≡ number → (row.code ≡ code_of Fill → row.role ≡ 0)
      → Heads number (joined v z (turn_entry z row told) rest)
  turn_heads number row More rest is none = shared_heads number (fold_by row false) rest is none
  turn_heads number row (Wait seen) rest is none = shared_heads number (fold_by row true) rest is none
  turn_heads number row (Retry cause) rest is none = tt
  turn_heads number row (Done answer) rest is none = tt

  no_role : (number : ℕ) (w : World Held) (s : Step Kind) → s.kind.code ≡ code_of Fill → (row_of z number w s).role ≡ 0
  no_role number w s e = subst (λ (c : ℕ). role_shown z w c (place_in (map_of z) s.kind.word) ≡ 0) (sym e) refl

  text_heads : (number : ℕ) (t : Bool) (text : List ℕ) (rest : List Entry) → Heads number rest → Heads number (placed v z t (Text text) rest)
  text_heads number true text rest h = tt
  text_heads number false text rest h = h

  heads : (number : ℕ) (begun : Bool) (marks : List Mark) → Heads number (entries v z (at_number number begun) marks)
  heads number begun [] = tt
  heads number begun (Made w s ∷ more) =
      let r = at_number number begun in
      let m = made_of z number w s in
      let rest = entries v z (after_turn v r m) more in
      subst (λ (t : Bool). Heads number (placed v z t (turn_entry z (row_of z number w s) (turn_in w s)) rest)) (sym (all_shown number begun m))
      (turn_heads number (row_of z number w s) (turn_in w s) rest refl (no_role number w s))
  heads number begun (Begins item ∷ more) =
      let r = at_number number begun in
      text_heads number (shows_item v r item) (item_text item) (entries v z (after_go v r) more) (heads number (begun || true) more)
  heads number begun (Rounds ∷ more) =
      let r = at_number number begun in
      text_heads number (shows_rounds v r) rounds_text (entries v z (after_go v r) more) (heads number (begun || true) more)
  heads number begun (Over open_ ∷ more) = tt

  -- What goes on with a store is the turn after it.
  is_next : (a b : Row) → a.count ≡ 1 → goes_on z a b ≡ true → b.first ≡ a.first + 1 → (a.code ≡ code_of Fill → a.role ≡ 0)
      → (b.code ≡ code_of Fill → b.role ≡ 0) → record (next_of a) { count = 1 } ≡ record b { count = 1 }
  is_next a b once e after none_a none_b =
      let one = both (a.code == code_of Fill) _ e in
      let two = both (b.code == code_of Fill) _ one.1 in
      let three = both (is_same a.actor b.actor) _ two.1 in
      let four = both (is_next_word z a b) _ three.1 in
      let five = both (a.found == b.found) _ four.1 in
      let six = both (number_of a.place.area == number_of b.place.area) _ four.0 in
      let seven = both (a.place.index + a.count == b.place.index) _ six.1 in
      let a_fills = equal a.code (code_of Fill) one.0 in
      let b_fills = equal b.code (code_of Fill) two.0 in
      let actor = sym (same_actor a.actor b.actor three.0) in
      let at = sym (area_is a.place.area) ∙ ap area_by (equal (number_of a.place.area) (number_of b.place.area) six.0) ∙ area_is b.place.area in
      let index = ap (λ (n : ℕ). a.place.index + n) (sym once) ∙ equal (a.place.index + a.count) b.place.index seven.0 in
      let role = none_a a_fills ∙ sym (none_b b_fills) in
      ap (λ (x : ℕ). row_by x a.actor a.code a.place.area (a.place.index + 1) a.role a.found a.left) (sym after)
      ∙ ap (λ (x : Actor). row_by b.first x a.code a.place.area (a.place.index + 1) a.role a.found a.left) actor
      ∙ ap (λ (x : ℕ). row_by b.first b.actor x a.place.area (a.place.index + 1) a.role a.found a.left) (a_fills ∙ sym b_fills)
      ∙ ap (λ (x : Area). row_by b.first b.actor b.code x (a.place.index + 1) a.role a.found a.left) at
      ∙ ap (λ (x : ℕ). row_by b.first b.actor b.code b.place.area x a.role a.found a.left) index
      ∙ ap (λ (x : ℕ). row_by b.first b.actor b.code b.place.area b.place.index x a.found a.left) role
      ∙ ap (λ (x : ℕ). row_by b.first b.actor b.code b.place.area b.place.index b.role x a.left) (equal a.found b.found five.0)
      ∙ ap (λ (x : ℕ). row_by b.first b.actor b.code b.place.area b.place.index b.role b.found x) (equal a.left b.left five.1)

  -- One turn before these lines is told before what they tell.
  shared_tells : (a : Row) (waits : Bool) (rest : List Entry) → a.count ≡ 1 → Heads (a.first + 1) rest → (a.code ≡ code_of Fill → a.role ≡ 0)
      → rows_told (joined v z (Shared (fold_by a waits)) rest) ≡ each_turn 1 a ++ rows_told rest
  shared_tells a waits [] once head none = ap (λ (n : ℕ). each_turn n a ++ []) once
  shared_tells a waits (Text text ∷ rest) once head none = ap (λ (n : ℕ). each_turn n a ++ rows_told rest) once
  shared_tells a waits (Ended b ended ∷ rest) once head none = ap (λ (n : ℕ). each_turn n a ++ (each_turn b.count b ++ rows_told rest)) once
  shared_tells a waits (Shared f ∷ rest) once head none = by (shares v z (fold_by a waits) f) refl
    where
      by : (t : Bool) → shares v z (fold_by a waits) f ≡ t
          → rows_told (if t then Shared (both_of (fold_by a waits) f) ∷ rest else Shared (fold_by a waits) ∷ (Shared f ∷ rest))
          ≡ each_turn 1 a ++ (each_turn f.row.count f.row ++ rows_told rest)
      by false t = ap (λ (n : ℕ). each_turn n a ++ (each_turn f.row.count f.row ++ rows_told rest)) once
      by true t =
          let b = f.row in
          let goes = stores z waits f.waits a b a.first f.last t in
          let sum : a.count + b.count ≡ suc b.count = omega (arith, once) in
          let same = each_as_one b.count (next_of (with_more a b.count)) ∙ ap (each_turn b.count) (is_next a b once goes head.0 none head.1)
          ∙ sym (each_as_one b.count b) in
          ap (λ (n : ℕ). each_turn n (with_more a b.count) ++ rows_told rest) sum
          ∙ ap (λ (rows : List Row). (record a { count = 1 } ∷ rows) ++ rows_told rest) same

  turn_tells : (a : Row) (told : Turn Answer) (rest : List Entry) → a.count ≡ 1 → Heads (a.first + 1) rest → (a.code ≡ code_of Fill → a.role ≡ 0)
      → rows_told (joined v z (turn_entry z a told) rest) ≡ each_turn 1 a ++ rows_told rest
  turn_tells a More rest once head none = shared_tells a false rest once head none
  turn_tells a (Wait seen) rest once head none = shared_tells a true rest once head none
  turn_tells a (Retry cause) rest once head none = ap (λ (n : ℕ). each_turn n a ++ rows_told rest) once
  turn_tells a (Done answer) rest once head none = ap (λ (n : ℕ). each_turn n a ++ rows_told rest) once

  text_tells : (t : Bool) (text : List ℕ) (rest : List Entry) → rows_told (placed v z t (Text text) rest) ≡ rows_told rest
  text_tells true text rest = refl
  text_tells false text rest = refl

  tell : (number : ℕ) (begun : Bool) (marks : List Mark) → rows_told (entries v z (at_number number begun) marks) ≡ rows_made z number marks
  tell number begun [] = refl
  tell number begun (Made w s ∷ more) =
      let r = at_number number begun in
      let m = made_of z number w s in
      let rest = entries v z (after_turn v r m) more in
      ap (λ (t : Bool). rows_told (placed v z t (turn_entry z (row_of z number w s) (turn_in w s)) rest)) (all_shown number begun m)
      ∙ turn_tells (row_of z number w s) (turn_in w s) rest refl (heads (number + 1) (begun || true) more) (no_role number w s)
      ∙ ap (λ (rows : List Row). row_of z number w s ∷ rows) (tell (number + 1) (begun || true) more)
  tell number begun (Begins item ∷ more) =
      let r = at_number number begun in
      text_tells (shows_item v r item) (item_text item) (entries v z (after_go v r) more) ∙ tell number (begun || true) more
  tell number begun (Rounds ∷ more) =
      let r = at_number number begun in
      text_tells (shows_rounds v r) rounds_text (entries v z (after_go v r) more) ∙ tell number (begun || true) more
  tell number begun (Over open_ ∷ more) = tell number begun more

pub lines_tell : LinesTellTurns
lines_tell z number begun marks = tell z number begun marks
