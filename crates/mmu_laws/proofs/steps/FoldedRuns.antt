-- Rounds of actors, with the fills of pages, and the looks and changes of runs of host pages, made at once: where they lead and what they tell, by
-- computation over some hundred steps where a run has two thousand.
use Rattle.std.proofs.Common.{◌≡◌, ◌≢◌, ◌+◌, ◌-◌, ◌^◌, ◌≤◌, ℕ, zero, suc, List, [], ◌∷◌, ◌++◌, refl, sym, subst, ap, ◌∙◌, arith}
use Rattle.std.specs.Prelude.{Bool, true, false, ◌&&◌, ◌==◌, not, nat_le, nat_lt, Option, Some, None}
use Rattle.std.proofs.lemmas.Bool.Decides.{nat_tests}
use Rattle.std.proofs.lemmas.List.{append-nil, append_assoc}
use Rattle.core_views.specs.declared.event.Event.{Event}
use Rattle.core_views.specs.declared.sizes.Sizes.{Sizes}
use Rattle.core_views.specs.Held.{Held}
use Rattle.mmu_core.specs.machine.View.{View}
use Rattle.mmu_laws.specs.steps.ExampleRaces.{in_turn}
use Rattle.mmu_laws.proofs.steps.FilledPages.{Filler, at_fill, filled}
use Rattle.mmu_laws.proofs.steps.FilledRounds.{CanFill, can_run, rounds_run}
use Rattle.mmu_laws.proofs.steps.PageFillers.{Fills, filler_at, filler_fills}
use Rattle.mmu_laws.proofs.steps.RunFolds.{Fold, fold_fits, fold_of, fold_runs, most_of, series_of}
use Rattle.mmu_laws.proofs.steps.Series.{after_steps, series_tells}
use Rattle.mmu_laws.proofs.steps.ViewRuns.{HaveLines, Runs, below, both, have_lines, have_lines_by, no_turns, run_on, tale, turned_all}

-- The next rounds of some actors: one; or so many fills of the only one, or of both; or so many looks or changes of the only one.
pub data Leap : Type 0 where
  Once : Leap
  Fill : Filler → ℕ → Leap
  BothFill : Filler → Filler → ℕ → Leap
  Many : Fold → ℕ → Leap

-- as many fills as are left of these rounds and of the page
abbrev fewer : Bool → ℕ → ℕ → ℕ
fewer true m n = m
fewer false m n = n

abbrev left_of : Filler → ℕ → ℕ
left_of F count = fewer (nat_le count (512 - F.owned.filled)) count (512 - F.owned.filled)

abbrev many_or_once : Fold → ℕ → Leap
many_or_once fold zero = Once
many_or_once fold (suc n) = Many fold (suc n)

abbrev leap_by : Option Filler → Held → ℕ → Leap
leap_by None h count = many_or_once (fold_of h) (fewer (nat_le count (most_of (fold_of h) h)) count (most_of (fold_of h) h))
leap_by (Some F) h count = Fill F (left_of F count)

abbrev leap_by_both : Option Filler → Option Filler → ℕ → Leap
leap_by_both (Some F) (Some G) count = BothFill F G (left_of F (left_of G count))
leap_by_both _ _ count = Once

abbrev filler_of : Held → Option Filler
filler_of h = filler_at h.state.place h.state.line.command h.topics.owned h

abbrev leap : View → List ℕ → ℕ → Leap
leap v (a ∷ []) count = leap_by (filler_of (v.hand a)) (v.hand a) count
leap v (a ∷ b ∷ []) count = leap_by_both (filler_of (v.hand a)) (filler_of (v.hand b)) count
leap v _ count = Once

-- the words and hands after them, what they tell, and how many rounds they are
abbrev leapt : Leap → List ℕ → View → View
leapt (Fill F n) (a ∷ []) v = filled F n (v.hand a).state.steps (v.hand a) a v
leapt (BothFill F G n) (a ∷ b ∷ []) v =
    filled G n (v.hand b).state.steps (v.hand b) b (filled F n (v.hand a).state.steps (v.hand a) a v)
leapt (Many fold n) (a ∷ []) v = after_steps (series_of fold v.words (v.hand a)) a v.hand n
leapt _ actors v = turned_all v actors

abbrev leap_tells : Leap → List ℕ → View → List Event
leap_tells Once actors v = tale v actors
leap_tells (Many fold n) (a ∷ []) v = series_tells (series_of fold v.words (v.hand a)) 0 n
leap_tells _ actors v = []

abbrev rounds_in : Leap → ℕ
rounds_in Once = 1
rounds_in (Fill F n) = n
rounds_in (BothFill F G n) = n
rounds_in (Many fold n) = n

-- The actor has a line left; its fills are of a page of the pool, none comes after the page's last word, and the count of steps has room for them.
abbrev fills_fit : Sizes → Filler → ℕ → ℕ → View → Bool
fills_fit z F n a v =
    (have_lines z v (a ∷ []) && nat_lt F.owned.filled 512)
    && (nat_le (F.owned.filled + n) 512 && (nat_lt F.owned.page (v.hand a).state.sizes.pool && nat_le ((v.hand a).state.steps + n) (2 ^ 64 - 1)))

-- The rounds can be made, and are no more than so many. Two actors that fill are two, and so are their pages.
abbrev leap_fits : Sizes → Leap → List ℕ → ℕ → View → Bool
leap_fits z Once actors count v = have_lines z v actors && nat_le 1 count
leap_fits z (Fill F n) (a ∷ []) count v = fills_fit z F n a v && nat_le n count
leap_fits z (BothFill F G n) (a ∷ b ∷ []) count v =
    (fills_fit z F n a v && fills_fit z G n b v) && ((not (a == b) && not (F.owned.page == G.owned.page)) && nat_le n count)
leap_fits z (Many fold n) (a ∷ []) count v = (have_lines z v (a ∷ []) && fold_fits fold n v.words (v.hand a)) && nat_le n count
leap_fits z _ actors count v = false

-- ---- so many rounds of some actors, with fuel

abbrev leads_on : ℕ → List ℕ → ℕ → View → View
leads_on zero actors count v = v
leads_on (suc fuel) actors zero v = v
leads_on (suc fuel) actors (suc n) v = let l : Leap = leap v actors (suc n) in leads_on fuel actors (suc n - rounds_in l) (leapt l actors v)

abbrev tells_on : ℕ → List ℕ → ℕ → View → List Event
tells_on zero actors count v = []
tells_on (suc fuel) actors zero v = []
tells_on (suc fuel) actors (suc n) v =
    let l : Leap = leap v actors (suc n) in leap_tells l actors v ++ tells_on fuel actors (suc n - rounds_in l) (leapt l actors v)

abbrev fits_on : Sizes → ℕ → List ℕ → ℕ → View → Bool
fits_on z zero actors zero v = true
fits_on z zero actors (suc n) v = false
fits_on z (suc fuel) actors zero v = true
fits_on z (suc fuel) actors (suc n) v =
    let l : Leap = leap v actors (suc n) in
    leap_fits z l actors (suc n) v && fits_on z fuel actors (suc n - rounds_in l) (leapt l actors v)

-- ---- rounds after rounds: how many, and of which actors

-- so many steps of one actor
abbrev pub steps_of : ℕ → ℕ → ℕ × List ℕ
steps_of count actor = (count, actor ∷ [])

-- the actors, one after another
abbrev pub turns : List (ℕ × List ℕ) → List ℕ
turns [] = []
turns (r ∷ rs) = in_turn r.0 r.1 ++ turns rs

-- the words and hands after them, what they tell, and that they can be made
abbrev pub leads_all : List (ℕ × List ℕ) → View → View
leads_all [] v = v
leads_all (r ∷ rs) v = leads_all rs (leads_on r.0 r.1 r.0 v)

abbrev pub tells_all : List (ℕ × List ℕ) → View → List Event
tells_all [] v = []
tells_all (r ∷ rs) v = tells_on r.0 r.1 r.0 v ++ tells_all rs (leads_on r.0 r.1 r.0 v)

abbrev pub fits_all : Sizes → List (ℕ × List ℕ) → View → Bool
fits_all z [] v = true
fits_all z (r ∷ rs) v = fits_on z r.0 r.1 r.0 v && fits_all z rs (leads_on r.0 r.1 r.0 v)

-- ---- They are rounds of single steps.

within : (a b : ℕ) → nat_le a b ≡ true → a ≤ b
within a b e = grind (arith, nat_tests)

differ : (a b : ℕ) → not (a == b) ≡ true → a ≢ b
differ a b e = λ same. grind (arith, nat_tests)

once_runs : (z : Sizes) (v : View) (actors : List ℕ) (count : ℕ) → leap_fits z Once actors count v ≡ true
    → Runs z v (in_turn 1 actors) (turned_all v actors) (tale v actors) × (1 ≤ count)
once_runs z v actors count fits =
    let halves = both (have_lines z v actors) (nat_le 1 count) fits in
    let R : Runs z v actors (turned_all v actors) (tale v actors) =
    record { have = have_lines_by z v actors halves.0; leads = refl; tells_them = refl } in (
      subst (λ (xs : List ℕ). Runs z v xs (turned_all v actors) (tale v actors)) (sym (append-nil actors)) R,
      within 1 count halves.1,
    )

can_fill : (z : Sizes) (F : Filler) (n a : ℕ) (v : View) → filler_of (v.hand a) ≡ Some F → fills_fit z F n a v ≡ true
    → CanFill z F n a (v.hand a).state.steps (v.hand a) v
can_fill z F n a v is fits = record {
  fills_one = S.fills_one;
  there = has.0;
  line = has.1;
  is = S.is_there ∙ ap (λ b. at_fill (F.place b) F.command F.owned h.state.steps h) (sym first.1);
  room = within (F.owned.filled + n) 512 next.0;
  page = below F.owned.page h.state.sizes.pool last.0;
  few = within (h.state.steps + n) (2 ^ 64 - 1) last.1;
}
  where
    h : Held
    h = v.hand a

    S : Fills F h
    S = filler_fills h.state.place h.state.line.command h.topics.owned h F refl refl refl is

    halves : ((have_lines z v (a ∷ []) && nat_lt F.owned.filled 512) ≡ true)
        × ((nat_le (F.owned.filled + n) 512 && (nat_lt F.owned.page h.state.sizes.pool && nat_le (h.state.steps + n) (2 ^ 64 - 1))) ≡ true)
    halves = both (have_lines z v (a ∷ []) && nat_lt F.owned.filled 512)
        (nat_le (F.owned.filled + n) 512 && (nat_lt F.owned.page h.state.sizes.pool && nat_le (h.state.steps + n) (2 ^ 64 - 1))) fits

    first : (have_lines z v (a ∷ []) ≡ true) × (nat_lt F.owned.filled 512 ≡ true)
    first = both (have_lines z v (a ∷ [])) (nat_lt F.owned.filled 512) halves.0

    next : (nat_le (F.owned.filled + n) 512 ≡ true) × ((nat_lt F.owned.page h.state.sizes.pool && nat_le (h.state.steps + n) (2 ^ 64 - 1)) ≡ true)
    next = both (nat_le (F.owned.filled + n) 512) (nat_lt F.owned.page h.state.sizes.pool && nat_le (h.state.steps + n) (2 ^ 64 - 1)) halves.1

    last : (nat_lt F.owned.page h.state.sizes.pool ≡ true) × (nat_le (h.state.steps + n) (2 ^ 64 - 1) ≡ true)
    last = both (nat_lt F.owned.page h.state.sizes.pool) (nat_le (h.state.steps + n) (2 ^ 64 - 1)) next.1

    has : HaveLines z v (a ∷ [])
    has = have_lines_by z v (a ∷ []) first.0

-- what a leap is of
abbrev Leaps : Sizes → View → List ℕ → ℕ → Leap → Type 0
Leaps z v actors count l = Runs z v (in_turn (rounds_in l) actors) (leapt l actors v) (leap_tells l actors v) × (rounds_in l ≤ count)

many_leap : (z : Sizes) (v : View) (a count n : ℕ) → leap_fits z (many_or_once (fold_of (v.hand a)) n) (a ∷ []) count v ≡ true
    → Leaps z v (a ∷ []) count (many_or_once (fold_of (v.hand a)) n)
many_leap z v a count zero fits = once_runs z v (a ∷ []) count fits
many_leap z v a count (suc n) fits =
    let h : Held = v.hand a in
    let halves = both (have_lines z v (a ∷ []) && fold_fits (fold_of h) (suc n) v.words h) (nat_le (suc n) count) fits in
    let rest = both (have_lines z v (a ∷ [])) (fold_fits (fold_of h) (suc n) v.words h) halves.0 in (
      fold_runs z a (suc n) v h.state.place h.state.line.command h.topics.host h.topics.invalidations.own.pages refl refl refl refl rest.0 rest.1,
      within (suc n) count halves.1,
    )

one_leaps : (z : Sizes) (v : View) (a count : ℕ) (x : Option Filler) → filler_of (v.hand a) ≡ x
    → leap_fits z (leap_by x (v.hand a) count) (a ∷ []) count v ≡ true → Leaps z v (a ∷ []) count (leap_by x (v.hand a) count)
one_leaps z v a count None is fits =
    many_leap z v a count (fewer (nat_le count (most_of (fold_of (v.hand a)) (v.hand a))) count (most_of (fold_of (v.hand a)) (v.hand a))) fits
one_leaps z v a count (Some F) is fits =
    let n : ℕ = left_of F count in
    let halves = both (fills_fit z F n a v) (nat_le n count) fits in
    (can_run z F n a (v.hand a).state.steps (v.hand a) v (can_fill z F n a v is halves.0), within n count halves.1)

both_leap : (z : Sizes) (v : View) (a b count : ℕ) (x y : Option Filler) → filler_of (v.hand a) ≡ x → filler_of (v.hand b) ≡ y
    → leap_fits z (leap_by_both x y count) (a ∷ b ∷ []) count v ≡ true → Leaps z v (a ∷ b ∷ []) count (leap_by_both x y count)
both_leap z v a b count (Some F) (Some G) is that fits =
    let n : ℕ = left_of F (left_of G count) in
    let halves =
    both (fills_fit z F n a v && fills_fit z G n b v) ((not (a == b) && not (F.owned.page == G.owned.page)) && nat_le n count) fits in
    let fills = both (fills_fit z F n a v) (fills_fit z G n b v) halves.0 in
    let rest = both (not (a == b) && not (F.owned.page == G.owned.page)) (nat_le n count) halves.1 in
    let apart = both (not (a == b)) (not (F.owned.page == G.owned.page)) rest.0 in (
      rounds_run z F G n a b (v.hand a).state.steps (v.hand b).state.steps (v.hand a) (v.hand b) v (differ a b apart.0)
          (differ F.owned.page G.owned.page apart.1) (can_fill z F n a v is fills.0) (can_fill z G n b v that fills.1),
      within n count rest.1,
    )
both_leap z v a b count None y is that fits = once_runs z v (a ∷ b ∷ []) count fits
both_leap z v a b count (Some F) None is that fits = once_runs z v (a ∷ b ∷ []) count fits

leaps : (z : Sizes) (v : View) (actors : List ℕ) (count : ℕ) → leap_fits z (leap v actors count) actors count v ≡ true
    → Leaps z v actors count (leap v actors count)
leaps z v [] count fits = once_runs z v [] count fits
leaps z v (a ∷ []) count fits = one_leaps z v a count (filler_of (v.hand a)) refl fits
leaps z v (a ∷ b ∷ []) count fits = both_leap z v a b count (filler_of (v.hand a)) (filler_of (v.hand b)) refl refl fits
leaps z v (a ∷ b ∷ c ∷ actors) count fits = once_runs z v (a ∷ b ∷ c ∷ actors) count fits

rounds_sum : (m n : ℕ) (actors : List ℕ) → in_turn m actors ++ in_turn n actors ≡ in_turn (m + n) actors
rounds_sum zero n actors = let none : n ≡ 0 + n = omega arith in ap (λ k. in_turn k actors) none
rounds_sum (suc m) n actors =
    let more : suc (m + n) ≡ suc m + n = omega arith in
    append_assoc actors (in_turn m actors) (in_turn n actors)
    ∙ (ap (λ (xs : List ℕ). actors ++ xs) (rounds_sum m n actors) ∙ ap (λ k. in_turn k actors) more)

rounds_fold : (z : Sizes) (fuel : ℕ) (actors : List ℕ) (count : ℕ) (v : View) → fits_on z fuel actors count v ≡ true
    → Runs z v (in_turn count actors) (leads_on fuel actors count v) (tells_on fuel actors count v)
rounds_fold z zero actors zero v e = no_turns z v
rounds_fold z zero actors (suc n) v e = absurd (cc e)
rounds_fold z (suc fuel) actors zero v e = no_turns z v
rounds_fold z (suc fuel) actors (suc n) v e =
    subst (λ (xs : List ℕ). Runs z v xs (leads_on (suc fuel) actors (suc n) v) (tells_on (suc fuel) actors (suc n) v)) whole
    (run_on z v (leapt l actors v) (leads_on fuel actors rest (leapt l actors v)) (in_turn (rounds_in l) actors) (in_turn rest actors)
    (leap_tells l actors v) (tells_on fuel actors rest (leapt l actors v)) first.0 (rounds_fold z fuel actors rest (leapt l actors v) halves.1))
  where
    l : Leap
    l = leap v actors (suc n)

    rest : ℕ
    rest = suc n - rounds_in l

    halves : (leap_fits z l actors (suc n) v ≡ true) × (fits_on z fuel actors rest (leapt l actors v) ≡ true)
    halves = both (leap_fits z l actors (suc n) v) (fits_on z fuel actors rest (leapt l actors v)) e

    first : Leaps z v actors (suc n) l
    first = leaps z v actors (suc n) halves.0

    sum : (k m : ℕ) → k ≤ m → k + (m - k) ≡ m
    sum k m le = omega (arith, le)

    whole : in_turn (rounds_in l) actors ++ in_turn rest actors ≡ in_turn (suc n) actors
    whole = rounds_sum (rounds_in l) rest actors ∙ ap (λ k. in_turn k actors) (sum (rounds_in l) (suc n) first.1)

pub all_fold : (z : Sizes) (rs : List (ℕ × List ℕ)) (v : View) → fits_all z rs v ≡ true → Runs z v (turns rs) (leads_all rs v) (tells_all rs v)
all_fold z [] v e = no_turns z v
all_fold z (r ∷ rs) v e =
    let halves = both (fits_on z r.0 r.1 r.0 v) (fits_all z rs (leads_on r.0 r.1 r.0 v)) e in
    run_on z v (leads_on r.0 r.1 r.0 v) (leads_all rs (leads_on r.0 r.1 r.0 v)) (in_turn r.0 r.1) (turns rs) (tells_on r.0 r.1 r.0 v)
    (tells_all rs (leads_on r.0 r.1 r.0 v)) (rounds_fold z r.0 r.1 r.0 v halves.0) (all_fold z rs (leads_on r.0 r.1 r.0 v) halves.1)
