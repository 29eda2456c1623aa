-- What was noted of a run of host pages, and what is: where the two agree, the run is refused alike.
use Rattle.std.proofs.Common.{◌≡◌, ◌≢◌, ◌+◌, ◌*◌, ◌/◌, ◌==◌, ◌&&◌, ◌||◌, ◌%◌, ℕ, zero, suc, Bool, true, false, not, refl, sym, ap, ◌∙◌, arith, subst}
use Rattle.std.proofs.lemmas.Bool.{eq-eqb, eqb-true}
use Rattle.std.specs.Prelude.{Some, None, [], ◌∷◌, if◌then◌else◌, nat_lt}
use Rattle.core_views.specs.declared.answer.Refusal.TheVariants.{IsHuge, NotAligned}
use Rattle.core_views.specs.declared.host.HostEntry.{HostEntry}
use Rattle.core_views.specs.declared.trace.RunChange.{RunChange}
use Rattle.core_views.specs.declared.trace.RunChange.TheVariants.{Huge, Small}
use Rattle.core_views.specs.Host.{HostMap, is_huge}
use Rattle.core_views.specs.HostChanges.{Agree}
use Rattle.core_views.specs.HostRuns.{IsAmong, are_in_a_row, continues, is_aligned, is_any_huge, run_count, run_first, run_pages, run_refusal}
use Rattle.core_views.specs.Slots.{first_of}
use Rattle.core_views.proofs.RunStages.{some_pages}

pub first_among : (page n : ℕ) → IsAmong page (suc n) page
first_among page n = (omega arith, omega arith)

pub later_among : (page n other : ℕ) → IsAmong (page + 1) n other → IsAmong page (suc n) other
later_among page n other is = let low = is.0 in let high = is.1 in (omega (arith, low), omega (arith, high))

pub both : (a b : Bool) → (a && b) ≡ true → (a ≡ true) × (b ≡ true)
both true b e = (refl, e)
both false b e = absurd (cc e)

joined : (a b : Bool) → a ≡ true → b ≡ true → (a && b) ≡ true
joined true b here there = there
joined false b here there = absurd (cc here)

-- ---- whether a page of them is part of a large one

pub huge_alike : (seen now_ : HostMap) (page n : ℕ) → ((other : ℕ) → IsAmong page n other → (seen other).level ≡ (now_ other).level)
    → is_any_huge seen page n ≡ is_any_huge now_ page n
huge_alike seen now_ page zero same = refl
huge_alike seen now_ page (suc n) same =
    ap (λ (level : ℕ). nat_lt 1 level || is_any_huge seen (page + 1) n) (same page (first_among page n))
    ∙ ap (λ (b : Bool). is_huge (now_ page) || b) (huge_alike seen now_ (page + 1) n (λ other is. same other (later_among page n other is)))

pub one_is_huge : (host : HostMap) (page n other : ℕ) → IsAmong page n other → is_huge (host other) ≡ true → is_any_huge host page n ≡ true
one_is_huge host page zero other is huge = absurd (let low = is.0 in let high = is.1 in omega (arith, low, high))
one_is_huge host page (suc n) other is huge =
    by (page == other) (is_huge (host page)) refl refl (λ among. one_is_huge host (page + 1) n other among huge)
  where
    by : (same here : Bool) → (page == other) ≡ same → is_huge (host page) ≡ here
        → (IsAmong (page + 1) n other → is_any_huge host (page + 1) n ≡ true) → (here || is_any_huge host (page + 1) n) ≡ true
    by same true at is_here later = refl
    by true false at is_here later =
        let is_page : page ≡ other = eqb-true page other at in
        let not_ : is_huge (host other) ≡ false = ap (λ (p : ℕ). is_huge (host p)) (sym is_page) ∙ is_here in
        absurd (cc (huge, not_))
    by false false at is_here later =
        let low = is.0 in
        let high = is.1 in
        let apart : page ≢ other = λ e. absurd (let same = eq-eqb page other e in cc (at, same)) in
        later (grind (arith, low, apart), omega (arith, high))

-- ---- whether they are in a row

continues_now : (frame : ℕ) (writable : Bool) (seen now_ : HostEntry) → Agree seen now_ → continues frame writable seen ≡ true
    → continues frame writable now_ ≡ true
continues_now frame writable seen now_ agrees is =
    let parts = both seen.present _ is in
    joined now_.present _ (agrees.3 parts.0)
    (ap (λ (f : ℕ). (f == frame) && (if writable then now_.writable else not now_.writable)) (sym agrees.0)
    ∙ (ap (λ (b : Bool). (seen.frame == frame) && (if writable then b else not b)) (sym agrees.1) ∙ parts.1))

row_now : (seen now_ : HostMap) (frame : ℕ) (writable : Bool) (page n : ℕ) → ((other : ℕ) → IsAmong page n other → Agree (seen other) (now_ other))
    → are_in_a_row seen frame writable page n ≡ true → are_in_a_row now_ frame writable page n ≡ true
row_now seen now_ frame writable page zero agree is = refl
row_now seen now_ frame writable page (suc n) agree is =
    let parts = both (continues frame writable (seen page)) _ is in
    joined (continues frame writable (now_ page)) _
    (continues_now frame writable (seen page) (now_ page) (agree page (first_among page n)) parts.0)
    (row_now seen now_ (frame + 1) writable (page + 1) n (λ other among. agree other (later_among page n other among)) parts.1)

row_alike : (seen now_ : HostMap) (frame : ℕ) (writable : Bool) (page n : ℕ) → ((other : ℕ) → IsAmong page n other → seen other ≡ now_ other)
    → are_in_a_row seen frame writable page n ≡ are_in_a_row now_ frame writable page n
row_alike seen now_ frame writable page zero same = refl
row_alike seen now_ frame writable page (suc n) same =
    ap (λ (e : HostEntry). continues frame writable e && are_in_a_row seen (frame + 1) writable (page + 1) n) (same page (first_among page n))
    ∙ ap (λ (b : Bool). continues frame writable (now_ page) && b)
    (row_alike seen now_ (frame + 1) writable (page + 1) n (λ other among. same other (later_among page n other among)))

-- ---- the refusal

pub rows_none : (huge aligned : Bool) → first_of ((huge, IsHuge) ∷ (not aligned, NotAligned) ∷ []) ≡ None → (huge ≡ false) × (aligned ≡ true)
rows_none true aligned e = absurd (cc e)
rows_none false true e = (refl, refl)
rows_none false false e = absurd (cc e)

none_rows : (huge aligned : Bool) → huge ≡ false → aligned ≡ true → first_of ((huge, IsHuge) ∷ (not aligned, NotAligned) ∷ []) ≡ None
none_rows true aligned small row = absurd (cc small)
none_rows false true small row = refl
none_rows false false small row = absurd (cc row)

-- Where the host maps the page of a line at the same level as it was noted, the run has the same first page.
pub first_alike : (change : RunChange) (page : ℕ) (seen now_ : HostEntry) → seen.level ≡ now_.level → run_first change page seen ≡ run_first change page now_
first_alike (Huge level) page seen now_ same = refl
first_alike Small page seen now_ same = ap (λ (l : ℕ). page / run_pages l * run_pages l) same

-- A run that isn't refused as it was noted isn't as it is.
pub fits_now : (seen now_ : HostMap) (page : ℕ) (change : RunChange)
    → ((other : ℕ) → IsAmong (run_first change page (seen page)) (run_count change (seen page)) other → Agree (seen other) (now_ other))
    → run_refusal seen page change ≡ None → run_refusal now_ page change ≡ None
fits_now seen now_ page Small agree fits = refl
fits_now seen now_ page (Huge level) agree fits =
    let span : ℕ = run_pages level in
    let rows = rows_none (is_any_huge seen page span) (is_aligned seen page level) fits in
    let n = some_pages level in
    let here : Agree (seen page) (now_ page) = agree page (subst (λ (m : ℕ). IsAmong page m page) (sym n.1) (first_among page n.0)) in
    let parts = both (page % span == 0) _ rows.1 in
    let inner = both ((seen page).frame % span == 0) _ parts.1 in
    none_rows (is_any_huge now_ page span) (is_aligned now_ page level)
    (sym (huge_alike seen now_ page span (λ other among. (agree other among).2)) ∙ rows.0)
    (joined (page % span == 0) _ parts.0
    (joined ((now_ page).frame % span == 0) _ (ap (λ (f : ℕ). f % span == 0) (sym here.0) ∙ inner.0)
    (ap (λ (f : ℕ). are_in_a_row now_ f (now_ page).writable page span) (sym here.0)
    ∙ (ap (λ (b : Bool). are_in_a_row now_ (seen page).frame b page span) (sym here.1)
    ∙ row_now seen now_ (seen page).frame (seen page).writable page span agree inner.1))))

-- One that was noted just as it is is refused alike.
pub refused_alike : (seen now_ : HostMap) (page : ℕ) (change : RunChange)
    → ((other : ℕ) → IsAmong (run_first change page (seen page)) (run_count change (seen page)) other → seen other ≡ now_ other)
    → run_refusal seen page change ≡ run_refusal now_ page change
refused_alike seen now_ page Small same = refl
refused_alike seen now_ page (Huge level) same =
    let span : ℕ = run_pages level in
    let n = some_pages level in
    let here : seen page ≡ now_ page = same page (subst (λ (m : ℕ). IsAmong page m page) (sym n.1) (first_among page n.0)) in
    let row : is_aligned seen page level ≡ is_aligned now_ page level =
    ap (λ (e : HostEntry). (page % span == 0) && ((e.frame % span == 0) && are_in_a_row seen e.frame e.writable page span)) here
    ∙ ap (λ (b : Bool). (page % span == 0) && (((now_ page).frame % span == 0) && b))
    (row_alike seen now_ (now_ page).frame (now_ page).writable page span same) in
    ap (λ (b : Bool). first_of ((b, IsHuge) ∷ (not (is_aligned seen page level), NotAligned) ∷ []))
    (huge_alike seen now_ page span (λ other among. ap (λ (e : HostEntry). e.level) (same other among)))
    ∙ ap (λ (b : Bool). first_of ((is_any_huge now_ page span, IsHuge) ∷ (not b, NotAligned) ∷ [])) row

-- A run with a page that is part of a large one is refused so.
pub refused_huge : (host : HostMap) (page level : ℕ) → is_any_huge host page (run_pages level) ≡ true → run_refusal host page (Huge level) ≡ Some IsHuge
refused_huge host page level huge = ap (λ (b : Bool). first_of ((b, IsHuge) ∷ (not (is_aligned host page level), NotAligned) ∷ [])) huge
