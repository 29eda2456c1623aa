-- A run of host pages: whether it may be one large page, as far as it was looked at, and what it is once its pages are at a level.
use Rattle.std.proofs.Common.{◌≡◌, ◌<◌, ◌≤◌, ◌==◌, ◌+◌, ◌-◌, ◌*◌, ◌/◌, ◌&&◌, ◌||◌, not, ℕ, zero, suc, Bool, true, false, cond}
use Rattle.std.proofs.Common.{refl, sym, ap, ap₂, arith, subst, ◌∙◌}
use Rattle.std.proofs.lemmas.Bool.{eqb-true}
use Rattle.std.specs.Map.{lookup}
use Rattle.std.specs.Prelude.{Option, unwrap_or, [], ◌∷◌}
use Rattle.core_views.specs.declared.answer.Answer.TheVariants.{Done, Refused}
use Rattle.core_views.specs.declared.answer.Refusal.{Refusal}
use Rattle.core_views.specs.declared.answer.Refusal.TheVariants.{IsHuge, NotAligned}
use Rattle.core_views.specs.declared.host.HostEntry.{HostEntry}
use Rattle.core_views.specs.declared.trace.RunChange.TheVariants.{Huge, Small}
use Rattle.core_views.specs.Host.{HostMap, is_huge, mapping, own_frames}
use Rattle.core_views.specs.HostRuns.{are_in_a_row, continues, is_aligned, is_any_huge, run_pages}
use Rattle.core_views.specs.Slots.{first_of}
use Rattle.flat_model.specs.Frames.{Frames}
use Rattle.flat_model.specs.HostPages.{AreFree, Changed, Maps, SetsRun, SetsUnless, at_level, host_of, with_levels}
use Rattle.flat_model.proofs.HostFrames.{frames_alike}

-- ---- whether its pages go on as they should, up to one of them

module _ (first count done : ℕ) where
  next_page : first + (done + 1) ≡ first + done + 1
  next_page = omega arith

  one_less : done < count → count - done ≡ suc (count - (done + 1))
  one_less lt = omega (arith, lt)

  none_left : count ≤ done → count - done ≡ 0
  none_left le = omega (arith, le)

  module _ (host : HostMap) (entry : HostEntry) (b : Bool) where
    -- A page that is part of a large one is found; else the pages after it are looked at.
    pub huge_found : done < count → entry ≡ host (first + done) → is_huge entry ≡ true
        → is_any_huge host (first + done) (count - done) ≡ b → true ≡ b
    huge_found lt is huge so_far =
        sym (ap (λ (x : Bool). x || is_any_huge host (first + done + 1) (count - (done + 1))) (ap is_huge (sym is) ∙ huge))
        ∙ sym (ap (is_any_huge host (first + done)) (one_less lt)) ∙ so_far

    pub huge_next : done < count → entry ≡ host (first + done) → is_huge entry ≡ false
        → is_any_huge host (first + done) (count - done) ≡ b → is_any_huge host (first + (done + 1)) (count - (done + 1)) ≡ b
    huge_next lt is small so_far =
        ap (λ (page : ℕ). is_any_huge host page (count - (done + 1))) next_page
        ∙ sym (ap (λ (x : Bool). x || is_any_huge host (first + done + 1) (count - (done + 1))) (ap is_huge (sym is) ∙ small))
        ∙ sym (ap (is_any_huge host (first + done)) (one_less lt)) ∙ so_far

    -- A page that doesn't go on with the row breaks it.
    pub row_broken : (frame : ℕ) (writable : Bool) → done < count → entry ≡ host (first + done) → continues (frame + done) writable entry ≡ false
        → are_in_a_row host (frame + done) writable (first + done) (count - done) ≡ b → false ≡ b
    row_broken frame writable lt is breaks so_far =
        sym (ap (λ (x : Bool). x && are_in_a_row host (frame + done + 1) writable (first + done + 1) (count - (done + 1)))
        (ap (continues (frame + done) writable) (sym is) ∙ breaks))
        ∙ sym (ap (are_in_a_row host (frame + done) writable (first + done)) (one_less lt)) ∙ so_far

    pub row_next : (frame : ℕ) (writable : Bool) → done < count → entry ≡ host (first + done) → continues (frame + done) writable entry ≡ true
        → are_in_a_row host (frame + done) writable (first + done) (count - done) ≡ b
        → are_in_a_row host (frame + (done + 1)) writable (first + (done + 1)) (count - (done + 1)) ≡ b
    row_next frame writable lt is goes so_far =
        ap₂ (λ (f page : ℕ). are_in_a_row host f writable page (count - (done + 1))) next_frame next_page
        ∙ sym (ap (λ (x : Bool). x && are_in_a_row host (frame + done + 1) writable (first + done + 1) (count - (done + 1)))
        (ap (continues (frame + done) writable) (sym is) ∙ goes))
        ∙ sym (ap (are_in_a_row host (frame + done) writable (first + done)) (one_less lt)) ∙ so_far
      where
        next_frame : frame + (done + 1) ≡ frame + done + 1
        next_frame = omega arith

  -- All of them were looked at.
  pub huge_nowhere : (host : HostMap) (b : Bool) → count ≤ done → is_any_huge host (first + done) (count - done) ≡ b → false ≡ b
  huge_nowhere host b le so_far = sym (ap (is_any_huge host (first + done)) (none_left le)) ∙ so_far

  pub row_whole : (host : HostMap) (frame : ℕ) (writable b : Bool) → count ≤ done
      → are_in_a_row host (frame + done) writable (first + done) (count - done) ≡ b → true ≡ b
  row_whole host frame writable b le so_far = sym (ap (are_in_a_row host (frame + done) writable (first + done)) (none_left le)) ∙ so_far

  -- ---- its pages are set, up to one of them

  pub level_next : (level : ℕ) (host : HostMap) (was : HostEntry) (before after : Changed) → done < count → was ≡ host_of before (first + done)
      → Maps (first + done) (at_level level was) before after
      → with_levels (first + done) (count - done) level (host_of before) ≡ host
      → with_levels (first + (done + 1)) (count - (done + 1)) level (host_of after) ≡ host
  level_next level host was before after lt is maps so_far =
      ap (λ (page : ℕ). with_levels page (count - (done + 1)) level (host_of after)) next_page
      ∙ ap (with_levels (first + done + 1) (count - (done + 1)) level) set
      ∙ sym (ap (λ (n : ℕ). with_levels (first + done) n level (host_of before)) (one_less lt)) ∙ so_far
    where
      set : host_of after ≡ mapping (first + done) (at_level level (host_of before (first + done))) (host_of before)
      set = (λ i page. maps page i) ∙ ap (λ (e : HostEntry). mapping (first + done) (at_level level e) (host_of before)) is

  pub levels_set : (level : ℕ) (host now : HostMap) → count ≤ done → with_levels (first + done) (count - done) level now ≡ host → now ≡ host
  levels_set level host now le so_far = sym (ap (λ (n : ℕ). with_levels (first + done) n level now) (none_left le)) ∙ so_far

-- None of them was looked at, or set.
plus_none : (n : ℕ) → n + 0 ≡ n
plus_none n = omega arith

less_none : (n : ℕ) → n - 0 ≡ n
less_none n = omega arith

pub huge_first : (first count : ℕ) (host : HostMap) → is_any_huge host (first + 0) (count - 0) ≡ is_any_huge host first count
huge_first first count host = ap₂ (is_any_huge host) (plus_none first) (less_none count)

pub row_first : (first count frame : ℕ) (host : HostMap) (writable : Bool)
    → are_in_a_row host (frame + 0) writable (first + 0) (count - 0) ≡ are_in_a_row host frame writable first count
row_first first count frame host writable =
    ap (λ (f : ℕ). are_in_a_row host f writable (first + 0) (count - 0)) (plus_none frame)
    ∙ ap₂ (are_in_a_row host frame writable) (plus_none first) (less_none count)

pub level_first : (first count level : ℕ) (host : HostMap) → with_levels (first + 0) (count - 0) level host ≡ with_levels first count level host
level_first first count level host = ap₂ (λ (page n : ℕ). with_levels page n level host) (plus_none first) (less_none count)

-- ---- what it is then

-- Entries in another order are those of the same map.
pub same_map : (before after : Changed) → ((q : ℕ) → lookup (λ other. q == other) after ≡ lookup (λ other. q == other) before) → host_of after ≡ host_of before
same_map before after same = λ i page. unwrap_or (same page i) (own_frames page)

-- Each page keeps its frame.
same_frames : (page n level : ℕ) (host : HostMap) (q : ℕ) → (with_levels page n level host q).frame ≡ (host q).frame
same_frames page zero level host q = refl
same_frames page (suc n) level host q =
    same_frames (page + 1) n level (mapping page (at_level level (host page)) host) q ∙ by (page == q) (eqb-true page q)
  where
    by : (b : Bool) → (b ≡ true → page ≡ q) → (cond b (at_level level (host page)) (host q)).frame ≡ (host q).frame
    by true same = ap (λ (p : ℕ). (host p).frame) (same refl)
    by false same = refl

pub levels_free : (pages first count level : ℕ) (before after : Changed) (frames : Frames)
    → host_of after ≡ with_levels first count level (host_of before) → AreFree pages (host_of before) frames → AreFree pages (host_of after) frames
levels_free pages first count level before after frames set is =
    frames_alike pages (host_of before) (host_of after) frames frames
    (λ page lt. ap (λ (h : HostMap). (h page).frame) set ∙ same_frames first count level (host_of before) page) (λ frame. refl) is

-- ---- what its line is answered

-- why the run is refused, by whether one of its pages is part of a large one, and whether they can be mapped as one
abbrev refusal_by : Bool → Bool → Option Refusal
refusal_by huge aligned = first_of ((huge, IsHuge) ∷ (not aligned, NotAligned) ∷ [])

judged : (P : Option Refusal → Type 0) (huge aligned h a : Bool) → h ≡ huge → a ≡ aligned → P (refusal_by h a) → P (refusal_by huge aligned)
judged P huge aligned h a same_huge same_aligned holds =
    subst (λ (b : Bool). P (refusal_by huge b)) same_aligned (subst (λ (b : Bool). P (refusal_by b a)) same_huge holds)

module _ (page level count : ℕ) (before : Changed) (is : count ≡ run_pages level) where
  abbrev huge : Bool
  huge = is_any_huge (host_of before) page (run_pages level)

  abbrev aligned : Bool
  aligned = is_aligned (host_of before) page level

  of_run : (b : Bool) → is_any_huge (host_of before) page count ≡ b → b ≡ huge
  of_run b looked = sym looked ∙ ap (is_any_huge (host_of before) page) is

  pub kept_huge : is_any_huge (host_of before) page count ≡ true → SetsRun page (Huge level) before before (Refused IsHuge)
  kept_huge looked =
      judged (SetsUnless page (run_pages level) level before before (Refused IsHuge)) huge aligned true aligned (of_run true looked) refl (refl, refl)

  pub kept_unaligned : is_any_huge (host_of before) page count ≡ false → is_aligned (host_of before) page level ≡ false
      → SetsRun page (Huge level) before before (Refused NotAligned)
  kept_unaligned looked unlike =
      judged (SetsUnless page (run_pages level) level before before (Refused NotAligned)) huge aligned false false (of_run false looked) (sym unlike)
      (refl, refl)

  pub made_huge : (after : Changed) → is_any_huge (host_of before) page count ≡ false → is_aligned (host_of before) page level ≡ true
      → host_of after ≡ with_levels page count level (host_of before) → SetsRun page (Huge level) before after Done
  made_huge after looked like set =
      judged (SetsUnless page (run_pages level) level before after Done) huge aligned false true (of_run false looked) (sym like)
      (refl, set ∙ ap (λ (n : ℕ). with_levels page n level (host_of before)) is)

pub made_small : (page count : ℕ) (entry : HostEntry) (before after : Changed) → count ≡ run_pages entry.level → entry ≡ host_of before page
    → host_of after ≡ with_levels (page / count * count) count 1 (host_of before) → SetsRun page Small before after Done
made_small page count entry before after is same set =
    (refl, set ∙ ap (λ (n : ℕ). with_levels (page / n * n) n 1 (host_of before)) (is ∙ ap (λ (e : HostEntry). run_pages e.level) same))
