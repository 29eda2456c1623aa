-- What a pass tells of the hands that it keeps, before a step and after it.
use Rattle.std.proofs.Common.{◌≡◌, ◌<◌, ◌+◌, ◌∙◌, ⊎_elim, ℕ, List, ◌++◌, ◌∷◌, [], Option, Some, None, ap, length, length-set, map, refl, set, set-set}
use Rattle.std.proofs.Common.{subst, sym}
use Rattle.std.specs.Prelude.{Bool, IfSome, OnErr, Result, Ok, Err, false, if◌then◌else◌, true}
use Rattle.std.proofs.lemmas.Grind.{merely}
use Rattle.std.proofs.lemmas.List.{map-set}
use Rattle.atomic_table.specs.Seated.{TableId}
use Rattle.core_views.specs.declared.kind.Kind.{Kind}
use Rattle.core_views.specs.Held.{Held, Handful}
use Rattle.mmu_core.specs.machine.Enabled.{Enabled, mmu}
use Rattle.mmu_core.specs.machine.Machine.{Leads, May, Step, World, answered, run}
use Rattle.mmu_core.specs.machine.Steps.{next}
use Rattle.mmu_core.specs.machine.Worlds.{HandReached, Reachable}
use Rattle.mmu_core.proofs.machine.Extend.{as_many_words, leads_to_end, then}
use Rattle.mmu_core.proofs.machine.Sized.{enabled_inside}
use Rattle.step_seats.specs.Acts.{Acts}
use Rattle.step_seats.specs.Moves.{Adds, HasItsRoom, KeepsRoom, ToldBy}
use Rattle.step_seats.specs.Seats.{Seat}
use Rattle.step_seats.specs.Where.{HasHand, IsMadeIn, OfWorld}
use Rattle.step_seats.proofs.Rooms.{next_has_room}
use Rattle.table_seats.specs.Boards.{BoardView, Fits, around}
use Rattle.table_seats.specs.Rule.{Acted, Holds, moved, step_of}
use Rattle.table_seats.specs.Passes.{IsPass, Keeps, Known, PassView, PutsHand, core_in, hand_at, seat_of, steps_before_split, steps_told, world_told}
use Rattle.atomic_table.proofs.Lists.{set_here}
use Rattle.table_seats.proofs.HandLists.{at_below, put_held}
use Rattle.table_seats.proofs.Runs.{has_is, run-snoc}
use Rattle.table_seats.proofs.Sits.{sits_after}
use Rattle.table_seats.proofs.Places.{cores_at, hand_is, hand_put, held_put, keeps_held, kept, set-same}

pub reachable_of : (s w : World Held) → Reachable s → Leads mmu s w → Reachable w
reachable_of s w r l = record { sizes = r.sizes; lines = r.lines; start = r.start; is_start = r.is_start; leads = (then) mmu r.start s w r.leads l }

module _ (v : Known) (hands : List (Option Handful)) (p : IsPass v hands) (a : ℕ) (h : Handful) (holds : Holds hands a h) where
  pub holds_core : Holds v.held a h.core
  holds_core = subst (λ (l : List (Option Held)). Holds l a h.core) p.cores (cores_at hands a h holds)

  pub pass_reached : HandReached h.core
  pass_reached =
      let s = p.sits.each a h.core holds_core in
      record {
        world = s.0;
        actor = a;
        reached = reachable_of v.start s.0 p.start s.1;
        there = at_below s.0.hands a h.core s.2;
        has = has_is mmu s.0 a h.core s.2;
      }

  has_by : (b : Bool) → v.alone ≡ b → IfSome (if b then Some (run mmu v.start v.past) else None) (HasHand a h.core)
  has_by true is =
      let w : World Held = run mmu v.start v.past in
      let has = p.sits.told is a h.core holds_core in
      record {
        reached = merely (reachable_of v.start w p.start (leads_to_end mmu v.start v.past (p.sits.legal is)));
        there = at_below w.hands a h.core has;
        is = has_is mmu w a h.core has;
      }
  has_by false is = tt

  pub pass_has : IfSome (world_told v) (HasHand a h.core)
  pass_has = has_by v.alone refl

  -- The step that a hand of the pass allows is on a word.
  pub pass_inside : (k : Kind) → Enabled h.core k → k.word < length v.start.words
  pass_inside k enabled =
      let s = p.sits.each a h.core holds_core in
      let has = has_is mmu s.0 a h.core s.2 in
      let inside = enabled_inside s.0 (reachable_of v.start s.0 p.start s.1) a k (at_below s.0.hands a h.core s.2)
      (subst (λ (x : Held). Enabled x k) (sym has) enabled) in
      subst (λ n. k.word < n) (as_many_words mmu v.start s.0 s.1) inside

-- ## A step

module _ (v : Known) (hands : List (Option Handful)) (p : IsPass v hands) (a : ℕ) (h : Handful) (holds : Holds hands a h)
    (k : Kind) (n : ℕ) (w : Known) (g : Handful) (acted : Acted mmu a h.core k v n w) (is : g.core ≡ next h.core k n)
    (room : length g.core.answers + g.room ≡ length h.core.answers + h.room) (some_room : 0 < h.room) where
  abbrev hands' : List (Option Handful)
  hands' = set hands a (Some g)

  cores_after : map core_in hands' ≡ w.held
  cores_after =
      map-set core_in hands a (Some g)
      ∙ ((λ i. set (p.cores i) a (Some (is i))) ∙ ap (λ (x : Known). x.held) (sym acted.view))

  rooms_after : (b : ℕ) (f : Handful) → Holds hands' b f → HasItsRoom f.core f.room
  rooms_after b f hold = ⊎_elim
      (λ t. subst (λ (x : Handful). HasItsRoom x.core x.room) t.1 (next_has_room h.core g.core k n h.room g.room is room some_room))
      (λ t. p.rooms b f t.1)
      (put_held hands a b g f hold)

  pub pass_after : IsPass w hands'
  pass_after = record {
    live = ap (λ (x : Known). x.live) acted.view ∙ p.live;
    cores = cores_after;
    sits = sits_after mmu a h.core k v n w acted (holds_core v hands p a h holds) p.sits;
    start = subst (λ (x : Known). Reachable x.start) (sym acted.view) p.start;
    rooms = rooms_after;
  }

  pub holds_after : Holds hands' a g
  holds_after = set_here hands a (Some g) (at_below hands a (Some h) holds)

  made_in : IsMadeIn k a h.core g.core acted.at
  made_in =
      let has = has_is mmu acted.at a h.core acted.has in
      record {
        has = record {
          reached = merely (reachable_of v.start acted.at p.start acted.leads);
          there = at_below acted.at.hands a h.core acted.has;
          is = has;
        };
        may = acted.may;
        hand = is ∙ ap (next h.core k) (sym acted.answers);
      }

  world_by : (b : Bool) → v.alone ≡ b
      → ToldBy (if b then Some (run mmu v.start v.past) else None) a k n
      (if b then Some (run mmu v.start (if b then v.past ++ step_of a k ∷ [] else v.past)) else None)
  world_by true al =
      let e = acted.told al in (
        subst (λ (x : World Held). May mmu x (step_of a k)) e acted.may,
        ap (λ (x : World Held). answered mmu x k) (sym e) ∙ acted.answers,
        ap (λ (x : World Held). Some x) (run-snoc mmu v.start v.past (step_of a k)),
      )
  world_by false al = refl

  steps_by : (b : Bool) → Adds (if b then Some v.past else None) a k (if b then Some (if b then v.past ++ step_of a k ∷ [] else v.past) else None)
  steps_by true = refl
  steps_by false = refl

  answers_by : (b : Bool) → v.alone ≡ b
      → OfWorld (if b then Some (run mmu v.start v.past) else None) (λ x. IsMadeIn k a h.core g.core x × (answered mmu x k ≡ n))
  answers_by true al = subst (λ (x : World Held). IsMadeIn k a h.core g.core x × (answered mmu x k ≡ n)) (acted.told al) (made_in, acted.answers)
  answers_by false al = merely (acted.at, (made_in, acted.answers))

  abbrev seat_now : Handful → Known → Seat
  seat_now x y = record { actor = a; hand = x.core; room = x.room; tells = record { world = world_told y; steps = steps_told y } }

  acts_now : Acts k n (seat_now h v) (seat_now g w)
  acts_now = record {
    hand = is;
    world = subst (λ (x : Known). ToldBy (world_told v) a k n (world_told x)) (sym acted.view) (world_by v.alone refl);
    steps = subst (λ (x : Known). Adds (steps_told v) a k (steps_told x)) (sym acted.view) (steps_by v.alone);
    answers = answers_by v.alone refl;
    has = pass_has w hands' pass_after a g holds_after;
  }

  -- What the step did, as the seat of the pass tells it.
  seat_before : (id : TableId) → seat_now h v ≡ seat_of (record { table = id; knows = v; hands = hands }) a
  seat_before id = λ i. seat_now (sym (hand_is hands a h holds) i) v

  seat_after : (id : TableId) → seat_now g w ≡ seat_of (record { table = id; knows = w; hands = hands' }) a
  seat_after id = λ i. seat_now (sym (hand_is hands' a g holds_after) i) w

  pub acts_of : (id : TableId)
      → Acts k n (seat_of (record { table = id; knows = v; hands = hands }) a) (seat_of (record { table = id; knows = w; hands = hands' }) a)
  acts_of id = subst (λ (x : Seat × Seat). Acts k n x.0 x.1) (λ i. (seat_before id i, seat_after id i)) acts_now

  pub keeps_room : (id : TableId)
      → KeepsRoom (seat_of (record { table = id; knows = v; hands = hands }) a) (seat_of (record { table = id; knows = w; hands = hands' }) a)
  keeps_room id = subst (λ (x : Seat × Seat). KeepsRoom x.0 x.1) (λ i. (seat_before id i, seat_after id i)) room

-- ## Room

module _ (v : Known) (hands : List (Option Handful)) (p : IsPass v hands) (a : ℕ) (h : Handful) (holds : Holds hands a h)
    (g : Handful) (same : g.core ≡ h.core) where
  pub pass_reserved : HasItsRoom g.core g.room → IsPass v (set hands a (Some g))
  pass_reserved room = record {
    live = p.live;
    cores = set-same hands a h g holds same ∙ p.cores;
    sits = p.sits;
    start = p.start;
    rooms = λ b f hold. ⊎_elim
        (λ t. subst (λ (x : Handful). HasItsRoom x.core x.room) t.1 room)
        (λ t. p.rooms b f t.1)
        (put_held hands a b g f hold);
  }

-- Where room was refused, the hand is the one that it was.
pub room_refused : {E : Type 0} (r : Result (Unit {0}) E) (h g before after : Handful) → before ≡ h → after ≡ g → OnErr r (g ≡ h) → OnErr r (after ≡ before)
room_refused (Ok u) h g before after was is same = tt
room_refused (Err e) h g before after was is same = is ∙ (same ∙ sym was)

-- ## What a pass with a hand put into it is

module _ (before after : PassView) (a : ℕ) (put : PutsHand before after a) where
  pub put_fits : (b : BoardView) → Fits b before → Fits b after
  put_fits b fits = record {
    table = put.table ∙ fits.table;
    start = put.start ∙ fits.start;
    wide = ap (λ (l : List (Option Handful)). length l) put.hands ∙ (length-set before.hands a (Some (hand_at after.hands a)) ∙ fits.wide);
  }

  pub put_keeps : Keeps before a → Keeps after a
  put_keeps keeps =
      keeps_held after.hands a (hand_at after.hands a)
      (subst (λ (l : List (Option Handful)). Holds l a (hand_at after.hands a)) (sym put.hands)
      (held_put before.hands a (hand_at before.hands a) (hand_at after.hands a) (kept before.hands a keeps)))

  -- Nothing else has changed, where it is told of the same steps before the first split.
  pub put_others : (b : BoardView) → steps_before_split after.knows ≡ steps_before_split before.knows → around b after a ≡ around b before a
  put_others b split =
      let none : Option Handful = None in
      let others = ap (λ (l : List (Option Handful)). set l a none) put.hands ∙ set-set before.hands a (Some (hand_at after.hands a)) none in
      λ i. record { board = b; others = others i; split = split i }

-- A step leaves the steps before the first split as they are.
step_after_split : (alone : Bool) (past more : List (Step Kind))
    → (if alone then None else Some (if alone then more else past)) ≡ (if alone then None else Some past)
step_after_split true past more = refl
step_after_split false past more = refl

pub moved_split : (a : ℕ) (h : Held) (k : Kind) (n : ℕ) (v : Known) → steps_before_split (moved mmu a h k n v) ≡ steps_before_split v
moved_split a h k n v = step_after_split v.alone v.past (v.past ++ step_of a k ∷ [])

-- The hand of an actor is put in its place.
pub puts : (before after : PassView) (a : ℕ) (hands : List (Option Handful)) (h g : Handful) → after.table ≡ before.table
    → after.knows.start ≡ before.knows.start
    → hands ≡ before.hands → Holds hands a h → after.hands ≡ set hands a (Some g) → PutsHand before after a
puts before after a hands h g table start inside hold is =
    let own : g ≡ hand_at after.hands a = sym (ap (λ (l : List (Option Handful)). hand_at l a) is ∙ hand_put hands a h g hold) in
    record { table = table; start = start; hands = is ∙ (λ i. set (inside i) a (Some (own i))) }
