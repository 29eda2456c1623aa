-- After a fault that has installed an entry, links lead from the root to a leaf that allows the access, or a step since it began took an entry away, whatever
-- the other actors do.
use Rattle.mmu_laws.proofs.forms.access.EntryLeads.{Leads, hand_there, makes_leads, walks_installed}
use Rattle.std.proofs.Common.{◌≡◌, ◌≢◌, ◌⊎◌, inl, inr, ◌<◌, ℕ, List, [], ◌∷◌, ◌++◌, sym, subst, ap, ◌∙◌}
use Rattle.std.specs.Prelude.{Bool}
use Rattle.core_views.specs.declared.kind.Kind.{Kind}
use Rattle.core_views.specs.declared.place.Place.{Place}
use Rattle.core_views.specs.declared.place.Place.TheVariants as place
use Rattle.core_views.specs.declared.sizes.Sizes.{Sizes}
use Rattle.core_views.specs.declared.trace.Line.{Line}
use Rattle.core_views.specs.Held.{Held}
use Rattle.core_views.specs.Sizes.{actors_of}
use Rattle.core_views.specs.Traces.{IsCommandFor}
use Rattle.spte_words.specs.declared.area.Area.{Area}
use Rattle.mmu_core.specs.machine.Enabled.{mmu}
use Rattle.mmu_core.specs.invariant.Laws.{IsSound}
use Rattle.mmu_core.specs.machine.Machine.{Legal, May, Step, World, effect, hand_in, run}
use Rattle.mmu_core.specs.machine.Steps.{line_at, place_at}
use Rattle.mmu_laws.specs.turns.Breaking.{Breaks}
use Rattle.mmu_laws.specs.turns.Removal.{InstalledEntriesServe, LeadsFromRoot, LeadsFromWalk, LostEntry, StandsInstalled, WalksInstalled}
use Rattle.mmu_core.specs.machine.View.{View, view, word_in}
use Rattle.mmu_core.proofs.machine.Columns.{same_or, upd_same}
use Rattle.mmu_core.proofs.lines.KnowsKept.{knows_at}
use Rattle.mmu_laws.proofs.causes.Changes.{of_each_list}
use Rattle.mmu_laws.proofs.turns.EntriesTaken.{leaf_stays_or_breaks}
use Rattle.mmu_laws.proofs.turns.Removal.{lost_longer, lost_now}
use Rattle.mmu_core.proofs.held.ClaimGoes.{others_hand}
use Rattle.mmu_core.proofs.invariant.PartBounded.{part_rests_at}
use Rattle.mmu_core.proofs.start.Starts.{start_good}
use Rattle.mmu_core.proofs.start.StartWords.{hand_is}
use Rattle.mmu_laws.proofs.forms.access.OwnServed.{Served, own_served, served_on, served_there, standing_served}
use Rattle.mmu_core.proofs.machine.Worlds.{Takes, TakesPart, good_run, takes}

-- ---- from world to world

-- An actor whose line stands after an installed entry is led to a leaf, or a step since its fault began took an entry away.
abbrev LedOrLost : Sizes → World Held → ℕ → List (Step Kind) → World Held → ℕ → Bool → Type 0
LedOrLost z w actor ss u gfn write = Leads (word_in z u) gfn write ⊎ LostEntry z actor gfn write w ss

abbrev HandServed : Sizes → World Held → ℕ → List (Step Kind) → World Held → Type 0
HandServed z w actor ss u = Served (hand_in mmu u actor).state.place (hand_in mmu u actor).state.line.command (LedOrLost z w actor ss u)

module _ (z : Sizes) (w : World Held) (ss : List (Step Kind)) (s : Step Kind) (G : IsSound z (run mmu w ss)) (may : May mmu (run mmu w ss) s) where
  abbrev u : World Held
  u = run mmu w ss

  abbrev a : ℕ
  a = s.actor

  abbrev h : Held
  h = hand_in mmu u a

  abbrev line : Line
  line = line_at h.state.place h

  abbrev stood : Place
  stood = place_at h.state.place h

  abbrev words : Area → ℕ → ℕ
  words = word_in z u

  abbrev next_world : World Held
  next_world = effect mmu u s

  -- before the step, and after it whether or not the line stands there still
  abbrev Before : ℕ → ℕ → Bool → Type 0
  Before actor gfn write = StandsInstalled actor gfn write u × LedOrLost z w actor ss u gfn write

  abbrev After : ℕ → ℕ → Bool → Type 0
  After actor gfn write =
      Leads (word_in z next_world) gfn write ⊎ LostEntry z actor gfn write w ss ⊎ (StandsInstalled actor gfn write u × Breaks z gfn write u s)

  goes_on : (actor gfn : ℕ) (write : Bool) → Before actor gfn write → After actor gfn write
  goes_on actor gfn write B = by B.1
    where
      still : Leads (word_in z next_world) gfn write ⊎ Breaks z gfn write u s → After actor gfn write
      still (inl leads) = inl leads
      still (inr breaks) = inr (inr (B.0, breaks))

      by : LedOrLost z w actor ss u gfn write → After actor gfn write
      by (inl led) = still (leaf_stays_or_breaks z u s gfn write G may led)
      by (inr lost) = inr (inl lost)

  ends : (actor gfn : ℕ) (write : Bool) → StandsInstalled actor gfn write next_world → After actor gfn write
      → LedOrLost z w actor (ss ++ s ∷ []) next_world gfn write
  ends actor gfn write there (inl leads) = inl leads
  ends actor gfn write there (inr (inl lost)) = inr (lost_longer z actor gfn write w ss s there lost)
  ends actor gfn write there (inr (inr B)) = inr (lost_now z actor gfn write w ss s there B.0 B.1)

  before : (actor : ℕ) → HandServed z w actor ss u → Served (hand_in mmu u actor).state.place (hand_in mmu u actor).state.line.command (Before actor)
  before actor S =
      served_on (hand_in mmu u actor).state.place (hand_in mmu u actor).state.line.command (LedOrLost z w actor ss u) (Before actor)
      (λ gfn write there x. (there, x)) S

  abbrev ServedAfter : ℕ → Held → Type 0
  ServedAfter actor g = Served g.state.place g.state.line.command (After actor)

  after_is : (actor : ℕ) → ServedAfter actor (hand_in mmu next_world actor) → HandServed z w actor (ss ++ s ∷ []) next_world
  after_is actor S =
      served_on (hand_in mmu next_world actor).state.place (hand_in mmu next_world actor).state.line.command (After actor)
      (LedOrLost z w actor (ss ++ s ∷ []) next_world) (ends actor) S

  same_place : (actor : ℕ) → HandServed z w actor ss u → ServedAfter actor (hand_in mmu u actor)
  same_place actor S =
      served_on (hand_in mmu u actor).state.place (hand_in mmu u actor).state.line.command (Before actor) (After actor)
      (λ gfn write there x. goes_on actor gfn write x) (before actor S)

  line_served : Takes z u s h → HandServed z w a ss u → HandServed z w a (ss ++ s ∷ []) next_world
  line_served T S =
      let I = T.is_step in
      after_is a (subst (ServedAfter a) (sym (hand_there z u s G may T))
      (own_served stood line.command z h words (Before a) (After a) I.begun (subst (λ x. IsCommandFor z x line.command) I.own I.allowed)
      (part_rests_at z (view z u) a G.holds G.topics I.there) (knows_at z (view z u) a G.holds I.there I.left)
      (standing_served h.state.place h.state.sizes h.slots h (Before a) (before a S)) (goes_on a)
      (λ gfn write q is K stands_. inl (makes_leads z u s G may T gfn write q is K stands_))))

  part_served : TakesPart z u s h → HandServed z w a ss u → HandServed z w a (ss ++ s ∷ []) next_world
  part_served T S = after_is a (subst (ServedAfter a) (sym (ap (λ (v : View). v.hand a) T.leads ∙ upd_same (hand_in mmu u) a _)) (same_place a S))

  served_more : (actor : ℕ) → HandServed z w actor ss u → HandServed z w actor (ss ++ s ∷ []) next_world
  served_more actor S = by (same_or actor a)
    where
      own : Takes z u s h ⊎ TakesPart z u s h → HandServed z w a ss u → HandServed z w a (ss ++ s ∷ []) next_world
      own (inl T) P = line_served T P
      own (inr T) P = part_served T P

      by : (actor ≡ a) ⊎ (actor ≢ a) → HandServed z w actor (ss ++ s ∷ []) next_world
      by (inl is) = subst (λ i. HandServed z w i (ss ++ s ∷ []) next_world) (sym is) (own (takes z u s G may) (subst (λ i. HandServed z w i ss u) is S))
      by (inr apart) = after_is actor (subst (ServedAfter actor) (sym (others_hand u s actor apart)) (same_place actor S))

-- From any moment on at which no line of the actor is under way.
hand_served : (z : Sizes) (w : World Held) (ss : List (Step Kind)) (a : ℕ) → IsSound z w → (hand_in mmu w a).state.place ≡ place.Between → Legal mmu w ss
    → HandServed z w a ss (run mmu w ss)
hand_served z w ss a G idle legal =
    of_each_list z w (HandServed z w a) (λ ts s G_ may S. served_more z w ts s G_ may a S) ss G legal
    (subst (λ (q : Place). Served q (hand_in mmu w a).state.line.command (LedOrLost z w a [] w)) (sym idle) tt)

pub installed_since : (z : Sizes) (w : World Held) (ss : List (Step Kind)) (a gfn : ℕ) (write : Bool) → IsSound z w
    → (hand_in mmu w a).state.place ≡ place.Between → Legal mmu w ss → a < actors_of z → StandsInstalled a gfn write (run mmu w ss)
    → (LeadsFromRoot z (run mmu w ss) gfn write × LeadsFromWalk z (run mmu w ss) a) ⊎ LostEntry z a gfn write w ss
installed_since z w ss a gfn write good idle legal there stands_ =
    by (served_there h.state.place h.state.line.command (LedOrLost z w a ss u) gfn write stands_ (hand_served z w ss a good idle legal))
  where
    u : World Held
    u = run mmu w ss

    h : Held
    h = hand_in mmu u a

    G : IsSound z u
    G = good_run z w ss good legal

    by : LedOrLost z w a ss u gfn write
        → (LeadsFromRoot z u gfn write × WalksInstalled h.state.place h.state.line.command (word_in z u) h.topics) ⊎ LostEntry z a gfn write w ss
    by (inl leads) = inl (leads, walks_installed h.state.place h.state.line.command z u a gfn write G there (G.holds.knows a there) stands_ leads)
    by (inr lost) = inr lost

pub installed_serve : InstalledEntriesServe
installed_serve z lines start ss a gfn write is legal there stands_ =
    installed_since z start ss a gfn write (start_good z lines start is)
    (ap (λ (h : Held). h.state.place) (hand_is z lines start a is there)) legal there stands_
