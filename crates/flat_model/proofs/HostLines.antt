-- What a change of a host page makes of the entries that are kept, and of the frames that are free.
use Rattle.std.proofs.Common.{◌≡◌, ◌<◌, ◌≤◌, ◌==◌, ◌&&◌, ◌||◌, not, nat_le, ℕ, Bool, true, false, cond, refl, sym, ap, arith, subst, ◌∙◌, inl, inr}
use Rattle.std.proofs.lemmas.Bool.{eqb-true}
use Rattle.std.proofs.lemmas.Bool.Decides.{eqb_tells, nat_tests}
use Rattle.std.specs.BTreeMap.{is_at}
use Rattle.std.specs.List.{list_any}
use Rattle.std.specs.Map.{lookup}
use Rattle.std.specs.Option.{option_map}
use Rattle.std.specs.Ordering.{nat_cmp}
use Rattle.std.specs.Prelude.{Some, None, Option, unwrap_or}
use Rattle.core_views.specs.declared.answer.Answer.TheVariants.{Done, Moved, Refused}
use Rattle.core_views.specs.declared.answer.Refusal.TheVariants.{NoFrame}
use Rattle.core_views.specs.declared.host.HostEntry.{HostEntry}
use Rattle.core_views.specs.declared.sizes.Sizes.{Sizes}
use Rattle.core_views.specs.declared.trace.Command.TheVariants.{ChangeHost}
use Rattle.core_views.specs.declared.trace.HostChange.{HostChange}
use Rattle.core_views.specs.declared.trace.HostChange.TheVariants.{Move}
use Rattle.core_views.specs.Host.{brought_in, own_frames}
use Rattle.core_views.specs.HostChanges.{host_answer}
use Rattle.flat_model.specs.Frames.{Frames, is_spare}
use Rattle.flat_model.specs.HostPages.{AreFree, Changed, ChangesEntries, ChangesTo, Maps, entry_after, host_of}
use Rattle.flat_model.proofs.HostFrames.{frames_alike, lowest_frame, moved, none_free, own_not_free}

value_at : (b : Bool) (entry own : HostEntry) (o : Option HostEntry) → unwrap_or (cond b (Some entry) o) own ≡ cond b entry (unwrap_or o own)
value_at true entry own o = refl
value_at false entry own o = refl

-- The entry that is put at a page is the page's, and each other page has its own.
pub put : (page : ℕ) (entry : HostEntry) (before after : Changed)
    → ((q : ℕ) → lookup (λ other. q == other) after ≡ cond (page == q) (Some entry) (lookup (λ other. q == other) before)) → Maps page entry before after
put page entry before after updates q =
    ap (λ (o : Option HostEntry). unwrap_or o (record { frame = q; present = true; writable = true; level = 1 })) (updates q)
    ∙ value_at (page == q) entry (record { frame = q; present = true; writable = true; level = 1 }) (lookup (λ other. q == other) before)

-- A page that no line has changed is present, so to bring it in changes nothing.
pub unchanged : (page : ℕ) (before : Changed) → lookup (λ other. page == other) before ≡ None
    → Maps page (brought_in (host_of before page)) before before
unchanged page before none other = elim (eqb_tells page other) [
  | inl same ↦ sym (ap (λ (b : Bool). cond b (brought_in (host_of before page)) (host_of before other)) same.0
      ∙ (ap (λ (o : Option HostEntry). brought_in (unwrap_or o (own_frames page))) none
      ∙ (sym (ap (λ (o : Option HostEntry). unwrap_or o (own_frames page)) none) ∙ ap (host_of before) same.1)))
  | inr unlike ↦ sym (ap (λ (b : Bool). cond b (brought_in (host_of before page)) (host_of before other)) unlike.0)
]

-- Where a page keeps its frame, or isn't one of the machine's, the same frames are free.
pub same_frame : (pages page : ℕ) (entry : HostEntry) (before after : Changed) (frames : Frames) → (page < pages → entry.frame ≡ (host_of before page).frame)
    → Maps page entry before after → AreFree pages (host_of before) frames → AreFree pages (host_of after) frames
same_frame pages page entry before after frames keeps maps is = frames_alike pages (host_of before) (host_of after) frames frames at (λ frame. refl) is
  where
    at : (p : ℕ) → p < pages → (host_of after p).frame ≡ (host_of before p).frame
    at p lt = ap (λ (e : HostEntry). e.frame) (maps p) ∙ elim (eqb_tells page p) [
      | inl same ↦ ap (λ (b : Bool). (cond b entry (host_of before p)).frame) same.0 ∙ keeps (omega (arith, same.1))
          ∙ ap (λ (q : ℕ). (host_of before q).frame) same.1
      | inr unlike ↦ ap (λ (b : Bool). (cond b entry (host_of before p)).frame) unlike.0
    ]

unless : (b c : Bool) → (b ≡ true → c ≡ false) → (not b && (b || c)) ≡ c
unless true c e = sym (e refl)
unless false c e = refl

-- A frame that some page has named lies below the first that none has.
below_unused : (frames : Frames) (frame : ℕ) → is_spare frames frame ≡ false → frame < frames.unused
below_unused frames frame is = by (list_any (is_at (nat_cmp frame)) frames.given_up) is
  where
    by : (b : Bool) → (b || nat_le frames.unused frame) ≡ false → frame < frames.unused
    by true e = absurd (cc e)
    by false e = grind (arith, nat_tests, e)

frame_at : (b : Bool) (entry other : HostEntry) → (cond b entry other).frame ≡ cond b entry.frame other.frame
frame_at true entry other = refl
frame_at false entry other = refl

-- a page of the machine, with its entry
pub record IsAt (pages page : ℕ) (was : HostEntry) (before : Changed) (frames : Frames) : Type 0 where
  pub below : page < pages
  pub was_is : was ≡ host_of before page
  pub is : AreFree pages (host_of before) frames

module _ (pages page : ℕ) (was : HostEntry) (before : Changed) (frames : Frames) (at : IsAt pages page was before frames) where
  own_not_free_here : is_spare frames was.frame ≡ false
  own_not_free_here = ap (λ (e : HostEntry). is_spare frames e.frame) at.was_is ∙ own_not_free pages (host_of before) frames page at.is at.below

  -- Its frame lies below the first that no page has named.
  pub below_first : was.frame < frames.unused
  below_first = below_unused frames was.frame own_not_free_here

  module _ (given taken : Frames) (gives : (frame : ℕ) → is_spare given frame ≡ ((frame == was.frame) || is_spare frames frame)) where
    -- Its frame is given up and taken again.
    pub undone : (after : Changed) → after ≡ before → ((frame : ℕ) → is_spare taken frame ≡ (not (frame == was.frame) && is_spare given frame))
        → AreFree pages (host_of after) taken
    undone after same takes = subst (λ (c : Changed). AreFree pages (host_of c) taken) (sym same)
        (frames_alike pages (host_of before) (host_of before) frames taken (λ p lt. refl)
        (λ frame. takes frame ∙ ap (λ (b : Bool). not (frame == was.frame) && b) (gives frame)
        ∙ unless (frame == was.frame) (is_spare frames frame) (λ own. ap (is_spare frames) (eqb-true frame was.frame own) ∙ own_not_free_here)) at.is)

    -- Its frame is given up, and the page has a free one.
    pub given_up : (x : ℕ) (after : Changed) → is_spare frames x ≡ true → Maps page (record was { frame = x }) before after
        → ((frame : ℕ) → is_spare taken frame ≡ (not (frame == x) && is_spare given frame)) → AreFree pages (host_of after) taken
    given_up x after free maps takes = moved pages (host_of before) (host_of after) frames taken page x (record {
      is = at.is;
      below = at.below;
      free = free;
      new = λ other. ap (λ (e : HostEntry). e.frame) (maps other) ∙ frame_at (page == other) (record was { frame = x }) (host_of before other);
      gives = λ frame. takes frame ∙ ap (λ (b : Bool). not (frame == x) && b) (gives frame)
          ∙ ap (λ (e : HostEntry). not (frame == x) && ((frame == e.frame) || is_spare frames frame)) at.was_is;
    })

-- A move finds no frame.
pub no_frame : (z : Sizes) (page x : ℕ) (changed : Changed) (frames : Frames) → AreFree z.pages (host_of changed) frames
    → ((frame : ℕ) → frame < x → is_spare frames frame ≡ false) → z.frames ≤ x → ChangesEntries z page Move changed changed (Refused NoFrame)
no_frame z page x changed frames is lowest le =
    subst (λ (o : Option ℕ). ChangesTo page Move changed changed (Refused NoFrame) (option_map (λ frame. record (host_of changed page) { frame = frame }) o))
    (sym (none_free z (host_of changed) frames x is lowest le)) (refl, refl)

-- A move takes the lowest free frame.
pub to_lowest : (z : Sizes) (page x : ℕ) (was : HostEntry) (before after : Changed) (frames : Frames) → was ≡ host_of before page
    → AreFree z.pages (host_of before) frames
    → is_spare frames x ≡ true → ((frame : ℕ) → frame < x → is_spare frames frame ≡ false) → x < z.frames → Maps page (record was { frame = x }) before after
    → ChangesEntries z page Move before after (Moved x)
to_lowest z page x was before after frames was_is is free lowest lt maps =
    subst (λ (o : Option ℕ). ChangesTo page Move before after (Moved x) (option_map (λ frame. record (host_of before page) { frame = frame }) o))
    (sym (lowest_frame z (host_of before) frames x is free lowest lt))
    (refl, subst (λ (e : HostEntry). Maps page (record e { frame = x }) before after) was_is maps)

-- A change that leaves the page its frame is done.
pub keeping : (z : Sizes) (page : ℕ) (change : HostChange) (entry : HostEntry) (before after : Changed)
    → entry_after z (host_of before) page change ≡ Some entry
    → host_answer (ChangeHost page change) entry ≡ Done → Maps page entry before after → ChangesEntries z page change before after Done
keeping z page change entry before after becomes done maps = subst (ChangesTo page change before after Done) (sym becomes) (sym done, maps)
