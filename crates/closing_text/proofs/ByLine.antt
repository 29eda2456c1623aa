-- The answers that are put of the first lines, and one more.
use Rattle.std.proofs.Common.{◌≡◌, ◌⊎◌, inl, inr, ◌<◌, ◌≤◌, ◌+◌, ℕ, List, [], ◌∷◌, ◌++◌, Bool, true, false, length, take, set, refl, sym, ap, subst, ◌∙◌}
use Rattle.std.proofs.Common.{arith, length-append}
use Rattle.std.proofs.lemmas.Bool.{cases_eq}
use Rattle.std.proofs.lemmas.List.{append-nil, get_or-replicate, get_or-set_other, get_or-set_same, length-map, length-replicate, length-set}
use Rattle.std.proofs.lemmas.List.{map-append, take_all}
use Rattle.std.proofs.lemmas.Option.{get_or_from_slice_get, same_Some, slice_get-map, slice_get_within}
use Rattle.std.proofs.Math.ListN.{replicate}
use Rattle.std.specs.Option.{option_map}
use Rattle.std.specs.Prelude.{Some, filter, map, slice_get, slice_index}
use Rattle.core_views.specs.declared.actor.Actor.{Actor}
use Rattle.core_views.specs.declared.answer.AnsweredLine.{AnsweredLine}
use Rattle.core_views.specs.declared.sizes.Sizes.{Sizes}
use Rattle.core_views.specs.declared.trace.Line.{Line}
use Rattle.core_views.specs.Actors.{is_same}
use Rattle.core_views.specs.Held.{Handful}
use Rattle.core_views.specs.Sizes.{actor_at, actors_of, index_of}
use Rattle.core_views.specs.Traces.{HasActor}
use Rattle.core_views.specs.Whole.{lines_of}
use Rattle.core_views.proofs.SameActor.{is_same_self}
use Rattle.closing_text.specs.ByLine.{AllHaveAnswered, AreByLine, HasAnsweredAll, IsAnswerAt, IsToPut}
use Rattle.closing_text.proofs.Actors.{actor_there, other_there, place_there}
use Rattle.closing_text.proofs.Prefixes.{one_more, passing_more, passing_next, pushed}

-- These are the answers of so many lines, where so many of each actor's are put.
pub record ArePut (z : Sizes) (lines : List Line) (hands : List Handful) (done : ℕ) (put : List ℕ) (answers : List AnsweredLine) : Type 0 where
  pub count : length put ≡ actors_of z
  pub numbers : map (λ x. x.number) answers ≡ map (λ line. line.number) (take done lines)
  pub actors : map (λ x. x.actor) answers ≡ map (λ line. line.actor) (take done lines)
  pub so_many : (i : ℕ) → i < actors_of z → slice_index put i ≡ length (lines_of (actor_at z i) (take done lines))
  pub each : (i : ℕ) (h : Handful) → slice_get hands i ≡ Some h
      → filter (λ x. is_same (actor_at z i) x.actor) answers ≡ take (slice_index put i) h.core.answers

-- None is put before the first line.
pub none_put : (z : Sizes) (lines : List Line) (hands : List Handful) (put : List ℕ) → AllHaveAnswered z lines hands
    → put ≡ replicate (actors_of z) 0 → ArePut z lines hands 0 put []
none_put z lines hands put all is =
    let zero_at : (i : ℕ) → i < actors_of z → slice_index put i ≡ 0 = λ i lt.
    ap (λ (xs : List ℕ). slice_index xs i) is ∙ get_or-replicate (actors_of z) i 0 0 lt in
    record {
      count = ap length is ∙ length-replicate (actors_of z) 0;
      numbers = refl;
      actors = refl;
      so_many = zero_at;
      each = λ i h at. let low = slice_get_within hands i h at in
          ap (λ (n : ℕ). take n h.core.answers) (sym (zero_at i (omega (arith, low, all.count))));
    }

-- A hand has as many answers as its actor has lines.
as_many : (actor : Actor) (lines : List Line) (answers : List AnsweredLine) → HasAnsweredAll actor lines answers
    → length answers ≡ length (lines_of actor lines)
as_many actor lines answers own =
    sym (length-map answers (λ x. x.number)) ∙ ap length own.numbers ∙ length-map (lines_of actor lines) (λ line. line.number)

-- What is known of a line: its actor is the machine's, and stands at its place.
pub record IsLineAt (z : Sizes) (lines : List Line) (done : ℕ) (line : Line) : Type 0 where
  pub at : slice_get lines done ≡ Some line
  pub low : index_of z line.actor < actors_of z
  pub who : actor_at z (index_of z line.actor) ≡ line.actor
  pub own : is_same (actor_at z (index_of z line.actor)) line.actor ≡ true

pub line_at : (z : Sizes) (lines : List Line) (hands : List Handful) (done : ℕ) (line : Line) → AllHaveAnswered z lines hands
    → slice_get lines done ≡ Some line → IsLineAt z lines done line
line_at z lines hands done line all at =
    let has : HasActor z line.actor = subst (λ (x : Line). HasActor z x.actor) (get_or_from_slice_get lines done line line at)
    (all.actors done line (slice_get_within lines done line at)) in
    record {
      at = at;
      low = place_there z line.actor has;
      who = actor_there z line.actor has;
      own = subst (λ (x : Actor). is_same x line.actor ≡ true) (sym (actor_there z line.actor has)) (is_same_self line.actor);
    }

-- The next line of its actor, after those that are put, is this one.
line_next : (z : Sizes) (lines : List Line) (hands : List Handful) (done : ℕ) (put : List ℕ) (answers : List AnsweredLine) (line : Line)
    → IsLineAt z lines done line → ArePut z lines hands done put answers
    → slice_get (lines_of (actor_at z (index_of z line.actor)) lines) (slice_index put (index_of z line.actor)) ≡ Some line
line_next z lines hands done put answers line is so_far =
    let who : Actor = actor_at z (index_of z line.actor) in
    ap (slice_get (lines_of who lines)) (so_far.so_many (index_of z line.actor) is.low)
    ∙ passing_next (λ (x : Line). is_same who x.actor) lines done line is.at is.own

-- So the line's answer is there.
pub to_put : (z : Sizes) (lines : List Line) (hands : List Handful) (done : ℕ) (put : List ℕ) (answers : List AnsweredLine) (line : Line)
    → AllHaveAnswered z lines hands → IsLineAt z lines done line → ArePut z lines hands done put answers → IsToPut hands put (index_of z line.actor)
to_put z lines hands done put answers line all is so_far =
    let p : ℕ = index_of z line.actor in
    let low : p < actors_of z = is.low in
    let who : Actor = actor_at z p in
    let within = slice_get_within (lines_of who lines) (slice_index put p) line (line_next z lines hands done put answers line is so_far) in
    record {
      counted = omega (arith, low, so_far.count);
      hand = omega (arith, low, all.count);
      left = λ h at. let many = as_many who lines h.core.answers (all.each p h at) in omega (arith, within, many);
    }

-- The answer is of the line's number, and of its actor.
told_number : (actor : Actor) (lines : List Line) (answers : List AnsweredLine) (n : ℕ) (line : Line) (told : AnsweredLine) → HasAnsweredAll actor lines answers
    → slice_get (lines_of actor lines) n ≡ Some line → slice_get answers n ≡ Some told → told.number ≡ line.number
told_number actor lines answers n line told own next is =
    same_Some told.number line.number
    (sym (slice_get-map (λ (x : AnsweredLine). x.number) answers n ∙ ap (option_map (λ (x : AnsweredLine). x.number)) is)
    ∙ ap (λ (xs : List ℕ). slice_get xs n) own.numbers
    ∙ (slice_get-map (λ (x : Line). x.number) (lines_of actor lines) n ∙ ap (option_map (λ (x : Line). x.number)) next))

told_actor : (actor : Actor) (lines : List Line) (answers : List AnsweredLine) (n : ℕ) (told : AnsweredLine) → HasAnsweredAll actor lines answers
    → slice_get answers n ≡ Some told → told.actor ≡ actor
told_actor actor lines answers n told own is =
    subst (λ (x : AnsweredLine). x.actor ≡ actor) (get_or_from_slice_get answers n told told is) (own.own n told (slice_get_within answers n told is))

-- What the answers tell is what the lines tell, with one more of each, where those tell the same.
alike_more : {A : Type 0} → (of_answer : AnsweredLine → A) (of_line : Line → A) (lines : List Line) (done : ℕ) (answers : List AnsweredLine) (line : Line)
    (told : AnsweredLine) → slice_get lines done ≡ Some line → of_answer told ≡ of_line line → map of_answer answers ≡ map of_line (take done lines)
    → map of_answer (answers ++ told ∷ []) ≡ map of_line (take (done + 1) lines)
alike_more of_answer of_line lines done answers line told at same before =
    map-append of_answer answers (told ∷ []) ∙ ap (λ xs. xs ++ of_answer told ∷ []) before
    ∙ ap (λ x. map of_line (take done lines) ++ x ∷ []) same ∙ sym (map-append of_line (take done lines) (line ∷ []))
    ∙ sym (ap (map of_line) (one_more lines done line at))

-- so many answers, with the one more of the actor at this place
abbrev pub with_one : List ℕ → ℕ → List ℕ
with_one put place = set put place (slice_index put place + 1)

so_many_more : (z : Sizes) (lines : List Line) (done : ℕ) (put : List ℕ) (line : Line) (i : ℕ) → IsLineAt z lines done line → length put ≡ actors_of z
    → ((j : ℕ) → j < actors_of z → slice_index put j ≡ length (lines_of (actor_at z j) (take done lines))) → i < actors_of z
    → slice_index (with_one put (index_of z line.actor)) i ≡ length (lines_of (actor_at z i) (take (done + 1) lines))
so_many_more z lines done put line i is count so_many lt = by (cases_eq i (index_of z line.actor))
  where
    here : slice_index (with_one put (index_of z line.actor)) (index_of z line.actor)
        ≡ length (lines_of (actor_at z (index_of z line.actor)) (take (done + 1) lines))
    here =
        let p : ℕ = index_of z line.actor in
        let low : p < actors_of z = is.low in
        let front : List Line = lines_of (actor_at z p) (take done lines) in
        let more = ap length (passing_more (λ (x : Line). is_same (actor_at z p) x.actor) lines done line true is.at is.own)
        ∙ length-append front (line ∷ []) in
        get_or-set_same put p (slice_index put p + 1) 0 (omega (arith, low, count)) ∙ ap (λ (n : ℕ). n + 1) (so_many p low) ∙ sym more

    by : (i ≡ index_of z line.actor) ⊎ (i ≡ index_of z line.actor → ⊥)
        → slice_index (with_one put (index_of z line.actor)) i ≡ length (lines_of (actor_at z i) (take (done + 1) lines))
    by (inl e) =
        subst (λ (j : ℕ). slice_index (with_one put (index_of z line.actor)) j ≡ length (lines_of (actor_at z j) (take (done + 1) lines))) (sym e) here
    by (inr ne) =
        let p : ℕ = index_of z line.actor in
        let front : List Line = lines_of (actor_at z i) (take done lines) in
        get_or-set_other put p i (slice_index put p + 1) 0 ne ∙ so_many i lt
        ∙ sym (ap length (passing_more (λ (x : Line). is_same (actor_at z i) x.actor) lines done line false is.at (other_there z i line.actor lt ne))
        ∙ ap length (append-nil front))

each_more : (z : Sizes) (put : List ℕ) (answers : List AnsweredLine) (told : AnsweredLine) (actor : Actor) (i : ℕ) (own own_there : List AnsweredLine)
    → index_of z actor < length put → i < actors_of z → is_same (actor_at z (index_of z actor)) actor ≡ true → told.actor ≡ actor
    → slice_get own (slice_index put (index_of z actor)) ≡ Some told → (i ≡ index_of z actor → own_there ≡ own)
    → filter (λ x. is_same (actor_at z i) x.actor) answers ≡ take (slice_index put i) own_there
    → filter (λ x. is_same (actor_at z i) x.actor) (answers ++ told ∷ []) ≡ take (slice_index (with_one put (index_of z actor)) i) own_there
each_more z put answers told actor i own own_there low lt self tells next same before = by (cases_eq i (index_of z actor))
  where
    by : (i ≡ index_of z actor) ⊎ (i ≡ index_of z actor → ⊥)
        → filter (λ x. is_same (actor_at z i) x.actor) (answers ++ told ∷ []) ≡ take (slice_index (with_one put (index_of z actor)) i) own_there
    by (inl e) =
        let p : ℕ = index_of z actor in
        let n : ℕ = slice_index put p in
        let is : is_same (actor_at z i) told.actor ≡ true =
        ap (λ (j : ℕ). is_same (actor_at z j) told.actor) e ∙ ap (λ (x : Actor). is_same (actor_at z p) x) tells ∙ self in
        let first : take (slice_index put i) own_there ≡ take n own = ap (λ (j : ℕ). take (slice_index put j) own_there) e ∙ ap (take n) (same e) in
        let last : take (slice_index (with_one put p) i) own_there ≡ take (n + 1) own =
        ap (λ (j : ℕ). take (slice_index (with_one put p) j) own_there) e ∙ ap (λ (k : ℕ). take k own_there) (get_or-set_same put p (n + 1) 0 low)
        ∙ ap (take (n + 1)) (same e) in
        pushed (λ (x : AnsweredLine). is_same (actor_at z i) x.actor) answers told true is
        ∙ ap (λ (xs : List AnsweredLine). xs ++ told ∷ []) (before ∙ first) ∙ sym (one_more own n told next) ∙ sym last
    by (inr ne) =
        let p : ℕ = index_of z actor in
        let P : AnsweredLine → Bool = λ x. is_same (actor_at z i) x.actor in
        let is : is_same (actor_at z i) told.actor ≡ false = ap (is_same (actor_at z i)) tells ∙ other_there z i actor lt ne in
        pushed P answers told false is ∙ append-nil (filter P answers) ∙ before
        ∙ ap (λ (k : ℕ). take k own_there) (sym (get_or-set_other put p i (slice_index put p + 1) 0 ne))

-- One more line's answer is put.
pub put_more : (z : Sizes) (lines : List Line) (hands : List Handful) (done : ℕ) (put : List ℕ) (answers : List AnsweredLine) (line : Line)
    (told : AnsweredLine) → AllHaveAnswered z lines hands → IsLineAt z lines done line → ArePut z lines hands done put answers
    → IsAnswerAt hands put (index_of z line.actor) told → ArePut z lines hands (done + 1) (with_one put (index_of z line.actor)) (answers ++ told ∷ [])
put_more z lines hands done put answers line told all is so_far answer =
    let p : ℕ = index_of z line.actor in
    let low : p < actors_of z = is.low in
    let h : Handful = answer.hand in
    let own : HasAnsweredAll (actor_at z p) lines h.core.answers = all.each p h answer.there in
    let next = line_next z lines hands done put answers line is so_far in
    let number : told.number ≡ line.number = told_number (actor_at z p) lines h.core.answers (slice_index put p) line told own next answer.is in
    let tells : told.actor ≡ line.actor = told_actor (actor_at z p) lines h.core.answers (slice_index put p) told own answer.is ∙ is.who in
    record {
      count = length-set put p (slice_index put p + 1) ∙ so_far.count;
      numbers = alike_more (λ x. x.number) (λ x. x.number) lines done answers line told is.at number so_far.numbers;
      actors = alike_more (λ x. x.actor) (λ x. x.actor) lines done answers line told is.at tells so_far.actors;
      so_many = λ i lt. so_many_more z lines done put line i is so_far.count so_far.so_many lt;
      each = λ i g at.
          let within = slice_get_within hands i g at in
          let one : i ≡ p → g ≡ h = λ e. same_Some g h (sym at ∙ ap (slice_get hands) e ∙ answer.there) in
          each_more z put answers told line.actor i h.core.answers g.core.answers (omega (arith, low, so_far.count)) (omega (arith, within, all.count)) is.own
          tells answer.is (λ e. ap (λ (x : Handful). x.core.answers) (one e)) (so_far.each i g at);
    }

-- All lines' answers are put.
pub all_put : (z : Sizes) (lines : List Line) (hands : List Handful) (done : ℕ) (put : List ℕ) (answers : List AnsweredLine) → AllHaveAnswered z lines hands
    → length lines ≤ done → ArePut z lines hands done put answers → AreByLine z lines hands answers
all_put z lines hands done put answers all le so_far = record {
  numbers = so_far.numbers ∙ ap (map (λ (x : Line). x.number)) (take_all done lines le);
  actors = so_far.actors ∙ ap (map (λ (x : Line). x.actor)) (take_all done lines le);
  each = λ i h at.
      let low = slice_get_within hands i h at in
      let many = as_many (actor_at z i) lines h.core.answers (all.each i h at) in
      let count = so_far.so_many i (omega (arith, low, all.count)) ∙ ap (λ (xs : List Line). length (lines_of (actor_at z i) xs)) (take_all done lines le) in
      so_far.each i h at ∙ take_all (slice_index put i) h.core.answers (omega (arith, many, count));
}
