-- Which frames are free as pages are changed: at the start, where no page's frame changes, and where a page is moved.
use Rattle.std.proofs.Common.{◌≡◌, ◌<◌, ◌≤◌, ◌==◌, ◌&&◌, ◌||◌, ◌⊎◌, inl, inr, not, nat_le, ℕ, Bool, true, false, cond, refl, sym, ap, arith, ◌∙◌}
use Rattle.std.proofs.lemmas.Bool.{eq-eqb, eqb-true}
use Rattle.std.proofs.lemmas.Bool.Decides.{eqb_tells, nat_tests}
use Rattle.std.specs.Prelude.{Some, None, []}
use Rattle.core_views.specs.declared.sizes.Sizes.{Sizes}
use Rattle.core_views.specs.Host.{HostMap, own_frames}
use Rattle.core_views.specs.HostChanges.{is_taken, lowest_free}
use Rattle.flat_model.specs.Frames.{Frames, is_spare}
use Rattle.flat_model.specs.HostPages.{AreFree}
use Rattle.core_views.proofs.LowestFrames.{is_not, lowest_is, none_left, taken_by, taker}
use Rattle.core_views.proofs.Ranges.{alike, by_test}

pub same_tests : (a b : Bool) → (a ≡ true → b ≡ true) → (b ≡ true → a ≡ true) → a ≡ b
same_tests true b there back = sym (there refl)
same_tests false true there back = absurd (let e = back refl in cc)
same_tests false false there back = refl

is_false : (b : Bool) → (b ≡ true → ⊥) → b ≡ false
is_false true = λ unlike. absurd (unlike refl)
is_false false = λ unlike. refl

split : (a b c : Bool) → (not a && (b || c)) ≡ true → (a ≡ false) × ((b ≡ true) ⊎ (c ≡ true))
split true b c e = absurd (cc e)
split false b c e = (refl, by_test b c e)

joined : (a b c : Bool) → a ≡ false → (b ≡ false → c ≡ true) → (not a && (b || c)) ≡ true
joined true b c e later = absurd (cc e)
joined false true c e later = refl
joined false false c e later = later refl

-- What isn't free is taken.
taken_where : (pages : ℕ) (host : HostMap) (frames : Frames) (frame : ℕ) → AreFree pages host frames → is_spare frames frame ≡ false
    → is_taken pages host frame ≡ true
taken_where pages host frames frame is unlike = by (is_taken pages host frame) (sym (is.free frame) ∙ unlike)
  where
    by : (b : Bool) → not b ≡ false → b ≡ true
    by true e = refl
    by false e = absurd (cc e)

pub frames_alike : (pages : ℕ) (host then_ : HostMap) (frames after : Frames) → ((page : ℕ) → page < pages → (then_ page).frame ≡ (host page).frame)
    → ((frame : ℕ) → is_spare after frame ≡ is_spare frames frame) → AreFree pages host frames → AreFree pages then_ after
frames_alike pages host then_ frames after same free is = record {
  free = λ frame. free frame ∙ is.free frame
      ∙ ap not (sym (alike 0 pages (λ p. (then_ p).frame == frame) (λ p. (host p).frame == frame) (λ p lt. ap (λ x. x == frame) (same p (omega (arith, lt))))));
  apart = λ page other lt below e. is.apart page other lt below (sym (same page lt) ∙ e ∙ same other below);
}

-- At the start all frames from the number of pages on are free.
pub first_free : (pages : ℕ) → AreFree pages own_frames (record { given_up = []; unused = pages })
first_free pages = record {
  free = λ frame. same_tests (nat_le pages frame) (not (is_taken pages own_frames frame))
      (λ is. ap not (is_false (is_taken pages own_frames frame)
      (λ taken. let t = taker pages own_frames frame taken in let lt : frame < pages = omega (arith, t.1, t.2) in
      absurd (grind (arith, nat_tests, lt, is)))))
      (λ is. below frame (nat_le pages frame) refl (is_not (is_taken pages own_frames frame) is));
  apart = λ page other lt below e. e;
}
  where
    below : (frame : ℕ) (b : Bool) → nat_le pages frame ≡ b → is_taken pages own_frames frame ≡ false → b ≡ true
    below frame true e unlike = refl
    below frame false e unlike = let lt : frame < pages = grind (arith, nat_tests, e) in let yes = taken_by pages own_frames frame frame lt refl in cc

-- The lowest free number is the lowest free frame, if it is a frame.
pub lowest_frame : (z : Sizes) (host : HostMap) (frames : Frames) (x : ℕ) → AreFree z.pages host frames → is_spare frames x ≡ true
    → ((frame : ℕ) → frame < x → is_spare frames frame ≡ false) → x < z.frames → lowest_free z host ≡ Some x
lowest_frame z host frames x is free lowest lt =
    lowest_is z host x lt (is_not (is_taken z.pages host x) (sym (is.free x) ∙ free)) (λ y below. taken_where z.pages host frames y is (lowest y below))

pub none_free : (z : Sizes) (host : HostMap) (frames : Frames) (x : ℕ) → AreFree z.pages host frames → ((frame : ℕ) → frame < x → is_spare frames frame ≡ false)
    → z.frames ≤ x → lowest_free z host ≡ None
none_free z host frames x is lowest le = none_left z host (λ y lt. taken_where z.pages host frames y is (lowest y (omega (arith, lt))))

-- No page's frame is free.
pub own_not_free : (pages : ℕ) (host : HostMap) (frames : Frames) (page : ℕ) → AreFree pages host frames → page < pages
    → is_spare frames (host page).frame ≡ false
own_not_free pages host frames page is lt = is.free (host page).frame ∙ ap not (taken_by pages host page (host page).frame lt refl)

-- A page is moved to a free frame, which is taken then, and its own one is given up.
pub record Moves (pages : ℕ) (host then_ : HostMap) (frames after : Frames) (page x : ℕ) : Type 0 where
  pub is : AreFree pages host frames
  pub below : page < pages
  pub free : is_spare frames x ≡ true
  pub new : (other : ℕ) → (then_ other).frame ≡ cond (page == other) x (host other).frame
  pub gives : (frame : ℕ) → is_spare after frame ≡ (not (frame == x) && ((frame == (host page).frame) || is_spare frames frame))

module _ (pages : ℕ) (host then_ : HostMap) (frames after : Frames) (page x : ℕ) (m : Moves pages host then_ frames after page x) where
  at_page : (then_ page).frame ≡ x
  at_page = m.new page ∙ ap (λ (b : Bool). cond b x (host page).frame) (eq-eqb page page refl)

  at_other : (q : ℕ) → (page == q) ≡ false → (then_ q).frame ≡ (host q).frame
  at_other q unlike = m.new q ∙ ap (λ (b : Bool). cond b x (host q).frame) unlike

  -- A frame that is free then is named by none.
  freed : (frame : ℕ) → is_spare after frame ≡ true → is_taken pages then_ frame ≡ false
  freed frame e = is_false (is_taken pages then_ frame) (λ taken. let q = taker pages then_ frame taken in
      by q.0 q.1 q.2 (split (frame == x) (frame == (host page).frame) (is_spare frames frame) (sym (m.gives frame) ∙ e)))
    where
      by : (q : ℕ) → q < pages → (then_ q).frame ≡ frame → ((frame == x) ≡ false) × (((frame == (host page).frame) ≡ true) ⊎ (is_spare frames frame ≡ true)) → ⊥
      by q lt names how = elim (eqb_tells page q) [
        | inl same ↦ let e : frame ≡ x = sym names ∙ ap (λ (p : ℕ). (then_ p).frame) (sym same.1) ∙ at_page in let is = eq-eqb frame x e in
            absurd (cc (is, how.0))
        | inr unlike ↦ let old : (host q).frame ≡ frame = sym (at_other q unlike.0) ∙ names in elim how.1 [
          | inl own ↦ unlike.1 (m.is.apart page q m.below lt (sym (eqb-true frame (host page).frame own) ∙ sym old))
          | inr free ↦
              let not_free = own_not_free pages host frames q m.is lt in let as_free = ap (is_spare frames) old in absurd (cc (not_free, as_free, free))
        ]
      ]

  -- A frame that none names then is free.
  unnamed : (frame : ℕ) → is_taken pages then_ frame ≡ false → is_spare after frame ≡ true
  unnamed frame unlike = m.gives frame ∙ joined (frame == x) (frame == (host page).frame) (is_spare frames frame) other_than
      (λ own. m.is.free frame ∙ ap not (is_false (is_taken pages host frame) (untaken own)))
    where
      other_than : (frame == x) ≡ false
      other_than = is_false (frame == x) (λ e. let yes = taken_by pages then_ page frame m.below (at_page ∙ sym (eqb-true frame x e)) in
          absurd (cc (yes, unlike)))

      untaken : (frame == (host page).frame) ≡ false → is_taken pages host frame ≡ true → ⊥
      untaken own taken = let q = taker pages host frame taken in elim (eqb_tells page q.0) [
        | inl same ↦ let yes = eq-eqb frame (host page).frame (sym q.2 ∙ ap (λ (p : ℕ). (host p).frame) (sym same.1)) in absurd (cc (yes, own))
        | inr apart ↦ let yes = taken_by pages then_ q.0 frame q.1 (at_other q.0 apart.0 ∙ q.2) in absurd (cc (yes, unlike))
      ]

  -- No other page names the frame that was free.
  not_moved_there : (q : ℕ) → q < pages → x ≡ (host q).frame → ⊥
  not_moved_there q lt e = let not_free = own_not_free pages host frames q m.is lt in let as_free = ap (is_spare frames) e in let free = m.free in cc

  still_apart : (p q : ℕ) → p < pages → q < pages → (then_ p).frame ≡ (then_ q).frame → p ≡ q
  still_apart p q lt below e = elim (eqb_tells page p) [
    | inl same ↦ elim (eqb_tells page q) [
      | inl too ↦ sym same.1 ∙ too.1
      | inr unlike ↦ absurd (not_moved_there q below (sym at_page ∙ ap (λ (r : ℕ). (then_ r).frame) same.1 ∙ e ∙ at_other q unlike.0))
    ]
    | inr not_p ↦ elim (eqb_tells page q) [
      | inl same ↦ absurd (not_moved_there p lt (sym at_page ∙ ap (λ (r : ℕ). (then_ r).frame) same.1 ∙ sym e ∙ at_other p not_p.0))
      | inr unlike ↦ m.is.apart p q lt below (sym (at_other p not_p.0) ∙ e ∙ at_other q unlike.0)
    ]
  ]

  pub moved : AreFree pages then_ after
  moved = record {
    free = λ frame. same_tests (is_spare after frame) (not (is_taken pages then_ frame)) (λ e. ap not (freed frame e))
        (λ e. unnamed frame (is_not (is_taken pages then_ frame) e));
    apart = still_apart;
  }
