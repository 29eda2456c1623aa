-- The rule of a table whose words, and the hands in whose views, are the words and hands of a machine; for any machine.
use Rattle.std.specs.Prelude.{◌≡◌, ℕ, zero, suc, Bool, true, false, List, [], ◌∷◌, ◌++◌, length, map, slice_set, if◌then◌else◌, Option, Some, None}
use mathlib.Core.Option.{some}
use lib.ListN.{get_elem?}
use Rattle.mmu_core.specs.machine.Machine.{Core, Leads, Legal, May, Step, World, answered, effect, run}

-- What a seat knows: the machine's start, the steps made before the first split, and the hands that are its own, each at the place of its actor.
-- It is alone until the first split, and it is spent once it has been joined to another.
pub record View (H K : Type 0) : Type 0 where
  pub live : Bool
  pub alone : Bool
  pub start : World H
  pub past : List (Step K)
  pub held : List (Option H)

abbrev pub step_of : {K : Type 0} → ℕ → K → Step K
step_of actor kind = record { actor = actor; kind = kind }

module _ {H : Type 0} where
  -- The actor's hand is among these.
  abbrev pub Holds : List (Option H) → ℕ → H → Type 0
  Holds held a h = get_elem? held a ≡ some (Some h)

  abbrev pub world : List ℕ → List H → World H
  world words hands = record { words = words; hands = hands }

  abbrev pub nones : List (Option H) → List (Option H)
  nones [] = []
  nones (x ∷ xs) = None ∷ nones xs

  -- the actor's hand and no other
  abbrev pub only : List (Option H) → ℕ → List (Option H)
  only [] a = []
  only (h ∷ hs) zero = h ∷ nones hs
  only (h ∷ hs) (suc a) = None ∷ only hs a

  abbrev pub either_hand : Option H → Option H → Option H
  either_hand x None = x
  either_hand x (Some h) = Some h

  -- the hands of both
  abbrev pub overlay : List (Option H) → List (Option H) → List (Option H)
  overlay [] ys = []
  overlay (x ∷ xs) [] = x ∷ xs
  overlay (x ∷ xs) (y ∷ ys) = either_hand x y ∷ overlay xs ys

module _ {H K : Type 0} where
  -- the first seat's
  abbrev pub first_view : World H → View H K
  first_view w = record { live = true; alone = true; start = w; past = []; held = map Some w.hands }

  -- the view without the actor's hand, and the one with nothing else
  abbrev pub without : ℕ → View H K → View H K
  without a v = record { live = v.live; alone = false; start = v.start; past = v.past; held = slice_set v.held a None }

  abbrev pub with_only : ℕ → View H K → View H K
  with_only a v = record { live = v.live; alone = false; start = v.start; past = v.past; held = only v.held a }

  abbrev pub joined : View H K → View H K → View H K
  joined v w = record { live = v.live; alone = false; start = v.start; past = v.past; held = overlay v.held w.held }

  abbrev pub spent : View H K
  spent = record { live = false; alone = false; start = record { words = []; hands = [] }; past = []; held = [] }

  module _ (C : Core H K) where
    -- The worlds to which the steps of `past` lead, and then any steps that are enabled.
    pub data Reached (start : World H) (past : List (Step K)) : World H → Type 0 where
      at_past : Legal C start past → Reached start past (run C start past)
      stepped : {w : World H} (s : Step K) → Reached start past w → May C w s → Reached start past (effect C w s)

    -- Between any two steps the words, and the hands in the views, each actor's once, are such a world.
    pub record Kept (start : World H) (words : List ℕ) (views : List (View H K)) : Type 0 where
      pub past : List (Step K)
      pub hands : List H
      pub reached : Reached start past (world words hands)
      pub alone : (id : ℕ) (v : View H K) → get_elem? views id ≡ some v → v.alone ≡ true
          → (world words hands ≡ run C start past) × Legal C start past × (length views ≡ 1)
      pub keeps : (id : ℕ) (v : View H K) → get_elem? views id ≡ some v → v.live ≡ true
          → (v.past ≡ past) × (v.start ≡ start) × (length v.held ≡ length start.hands)
      pub owns : (id : ℕ) (v : View H K) (a : ℕ) (h : H) → get_elem? views id ≡ some v → Holds v.held a h → get_elem? hands a ≡ some h
      pub once : (i j : ℕ) (v w : View H K) (a : ℕ) (g h : H) → get_elem? views i ≡ some v → get_elem? views j ≡ some w
          → Holds v.held a g → Holds w.held a h → i ≡ j
      pub somewhere : (a : ℕ) (h : H) → get_elem? hands a ≡ some h → (id : ℕ) × (v : View H K) × (get_elem? views id ≡ some v) × Holds v.held a h

    -- the view after a step of the actor, whose hand was h, that answered n
    abbrev pub moved : ℕ → H → K → ℕ → View H K → View H K
    moved a h k n v = record {
      live = v.live;
      alone = v.alone;
      start = v.start;
      past = if v.alone then v.past ++ step_of a k ∷ [] else v.past;
      held = slice_set v.held a (Some (C.next h k n));
    }

    -- What a step tells: the view after it, and a world in which it may be made and answers so; before the first split this is the world to
    -- which the steps so far lead.
    pub record Acted (a : ℕ) (h : H) (k : K) (v : View H K) (n : ℕ) (w : View H K) : Type 0 where
      pub view : w ≡ moved a h k n v
      pub at : World H
      pub leads : Leads C v.start at
      pub has : get_elem? at.hands a ≡ some h
      pub may : May C at (step_of a k)
      pub answers : answered C at k ≡ n
      pub told : v.alone ≡ true → at ≡ run C v.start v.past

    -- Some world to which steps lead has this hand.
    abbrev pub Stands : World H → ℕ → H → Type 0
    Stands start a h = (w : World H) × Leads C start w × (get_elem? w.hands a ≡ some h)

    -- What a view tells of its hands: each is one of a world to which steps lead, before the first split of the one to which the steps so far lead.
    pub record Sits (v : View H K) : Type 0 where
      pub legal : v.alone ≡ true → Legal C v.start v.past
      pub told : v.alone ≡ true → (a : ℕ) (h : H) → Holds v.held a h → get_elem? (run C v.start v.past).hands a ≡ some h
      pub each : (a : ℕ) (h : H) → Holds v.held a h → Stands v.start a h
