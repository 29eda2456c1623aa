-- A run that may become large stands together: it begins where such runs begin, and its pages are alike, one after the other.
use Rattle.std.proofs.Common.{◌≡◌, ◌+◌, ◌==◌, ◌%◌, ◌<◌, ℕ, zero, suc, Bool, true, false, not, refl, sym, subst, arith}
use Rattle.std.proofs.lemmas.Bool.{eqb-true}
use Rattle.std.specs.Prelude.{if◌then◌else◌, None}
use Rattle.core_views.specs.declared.host.HostEntry.{HostEntry}
use Rattle.core_views.specs.declared.trace.RunChange.TheVariants.{Huge}
use Rattle.core_views.specs.Host.{HostMap, is_huge}
use Rattle.core_views.specs.HostRuns.{are_in_a_row, continues, is_aligned, is_any_huge, run_pages, run_refusal}
use Rattle.flat_laws.specs.LargePages.{IsPageOfRun, StandsTogether}
use Rattle.flat_laws.proofs.RunsAgree.{both, one_is_huge, rows_none}

same_writes : (writable allows : Bool) → (if writable then allows else not allows) ≡ true → allows ≡ writable
same_writes true allows is = is
same_writes false false is = refl
same_writes false true is = absurd (cc is)

of_row : (frame : ℕ) (writable : Bool) (entry : HostEntry) → continues frame writable entry ≡ true → IsPageOfRun frame writable entry
of_row frame writable entry is =
    let one = both entry.present _ is in
    let two = both (entry.frame == frame) _ one.1 in
    record { present = one.0; at_frame = eqb-true entry.frame frame two.0; writes = same_writes writable entry.writable two.1 }

each_of_row : (host : HostMap) (frame : ℕ) (writable : Bool) (page n k : ℕ) → k < n → are_in_a_row host frame writable page n ≡ true
    → IsPageOfRun (frame + k) writable (host (page + k))
each_of_row host frame writable page zero k lt is = absurd (omega (arith, lt))
each_of_row host frame writable page (suc n) zero lt is =
    let here = (both (continues frame writable (host page)) _ is).0 in
    let at : page + 0 ≡ page = omega arith in
    let first : frame + 0 ≡ frame = omega arith in
    subst (λ f. IsPageOfRun f writable (host (page + 0))) (sym first)
    (subst (λ p. IsPageOfRun frame writable (host p)) (sym at) (of_row frame writable (host page) here))
each_of_row host frame writable page (suc n) (suc k) lt is =
    let later = (both (continues frame writable (host page)) _ is).1 in
    let at : page + 1 + k ≡ page + suc k = omega arith in
    let next : frame + 1 + k ≡ frame + suc k = omega arith in
    subst (λ f. IsPageOfRun f writable (host (page + suc k))) next
    (subst (λ p. IsPageOfRun (frame + 1 + k) writable (host p)) at (each_of_row host (frame + 1) writable (page + 1) n k (omega (arith, lt)) later))

each_is_small : (host : HostMap) (page n k : ℕ) → k < n → is_any_huge host page n ≡ false → is_huge (host (page + k)) ≡ false
each_is_small host page n k lt none = by (is_huge (host (page + k))) refl
  where
    by : (huge : Bool) → is_huge (host (page + k)) ≡ huge → huge ≡ false
    by false is = refl
    by true is = let any = one_is_huge host page n (page + k) (omega arith, omega (arith, lt)) is in absurd (cc (any, none))

pub stands_together : (host : HostMap) (page level : ℕ) → run_refusal host page (Huge level) ≡ None → StandsTogether host page level
stands_together host page level fits =
    let n : ℕ = run_pages level in
    let rows = rows_none (is_any_huge host page n) (is_aligned host page level) fits in
    let one = both (page % n == 0) _ rows.1 in
    let two = both ((host page).frame % n == 0) _ one.1 in
    record {
      page_begins = eqb-true (page % n) 0 one.0;
      frame_begins = eqb-true ((host page).frame % n) 0 two.0;
      pages = λ k lt. each_of_row host (host page).frame (host page).writable page n k lt two.1;
      small = λ k lt. each_is_small host page n k lt rows.0;
    }
