-- What the passes at the three spans give together.
use Rattle.std.proofs.Common.{◌≡◌, ◌≤◌, ◌+◌, ◌*◌, ◌^◌, ℕ, List, arith, refl, ap, ◌∙◌}
use Rattle.std.specs.List.{list_any, All}
use Rattle.std.proofs.lemmas.List.Elements.{All-weaker, All-same}
use Rattle.core_views.specs.declared.trace.Header.{Header}
use Rattle.core_views.specs.declared.trace.Line.{Line}
use Rattle.core_views.specs.Need.{count_below, wants, tables_of, need}
use Rattle.trace_reader.specs.declared.pool.FrameRange.{FrameRange}
use Rattle.trace_reader.specs.Ranges.{any_covers, IsFrameRange, EndBy}
use Rattle.trace_reader.proofs.NeedCounts.{count-same, count-le}

-- guest frames are below 2 ^ 36
end_by : (bound : ℕ) (ranges : List FrameRange) → 2 ^ 36 ≤ bound → All IsFrameRange ranges → EndBy bound ranges
end_by bound ranges le all = All-weaker IsFrameRange (λ (r : FrameRange). r.end ≤ bound) (λ r h. omega (arith, h.1, le)) ranges all

-- The count at one span is of the tables that some line wants.
pub wanted : (n span count pages : ℕ) (lines given : List Line) (ranges seen : List FrameRange) → 2 ^ 36 ≤ n * span → given ≡ lines → seen ≡ ranges
    → All IsFrameRange ranges → ((m : ℕ) → EndBy (m * span) seen → count ≡ count_below m (any_covers span seen)) → ((s i : ℕ) → any_covers s ranges i
    ≡ list_any (λ line. wants pages s i line.command) given) → count ≡ count_below n (λ i. list_any (λ line. wants pages span i line.command) lines)
wanted n span count pages lines given ranges seen le g e all counted same =
    counted n (end_by (n * span) seen le (All-same IsFrameRange seen ranges e all))
    ∙ count-same n _ _ (λ i. ap (λ l. any_covers span l i) e ∙ same span i ∙ ap (list_any (λ line. wants pages span i line.command)) g)

-- It is no more than all tables.
pub few : (n span count : ℕ) (ranges seen : List FrameRange) → 2 ^ 36 ≤ n * span → seen ≡ ranges → All IsFrameRange ranges
    → ((m : ℕ) → EndBy (m * span) seen → count ≡ count_below m (any_covers span seen)) → count ≤ n
few n span count ranges seen le e all counted =
    omega (arith, counted n (end_by (n * span) seen le (All-same IsFrameRange seen ranges e all)), count-le n (any_covers span seen))

-- Four, and the tables of the three spans.
pub total : (h : Header) (lines : List Line) (upper middle lower : ℕ) → upper ≡ tables_of h.pages lines (2 ^ 27)
    → middle ≡ tables_of h.pages lines (2 ^ 18) → lower ≡ tables_of h.pages lines (2 ^ 9) → 4 + upper + middle + lower ≡ need h lines
unfolding need
total h lines upper middle lower a b c = rw (a, b, c) refl
