-- What the guest's operation on a word comes to, from what an act says of it.
use Rattle.std.proofs.Common.{◌≡◌, ◌<◌, ℕ, Some, refl, subst}
use Rattle.core_views.specs.declared.kind.Kind.{Kind}
use Rattle.core_views.specs.declared.trace.Op.{Op}
use Rattle.core_views.specs.declared.trace.Op.TheVariants.{Read}
use Rattle.step_seats.specs.Acts.{Acts}
use Rattle.step_seats.specs.Seats.{Seat}
use Rattle.step_seats.proofs.Where.{where_answered}
use Rattle.host_map.specs.Touching.{LeavesWords, Touches, touch_kind}
use Rattle.host_map.proofs.ContentWords.{content_behind, content_found, words_stay}

module _ (frame word note answer : ℕ) (before after : Seat) (frame_in : frame < before.hand.state.sizes.frames)
    (word_below : word < before.hand.state.sizes.words) where
  pub touches : (op : Op) (k : Kind) → k ≡ touch_kind before.hand.state.sizes frame word op note → Acts k answer before after
      → Touches frame word op note answer before after
  touches op k is acts =
      let A : Acts (touch_kind before.hand.state.sizes frame word op note) answer before after = subst (λ (x : Kind). Acts x answer before after) is acts in
      record {
        acts = A;
        found = where_answered (touch_kind before.hand.state.sizes frame word op note) answer before after A.answers
            (λ w there finds. content_found before.hand.state.sizes frame word frame_in word_below op note (Some w) (Some _) before.actor answer
            (there.may, finds, refl));
        leaves = where_answered (touch_kind before.hand.state.sizes frame word op note) answer before after A.answers
            (λ w there finds. content_behind before.hand.state.sizes frame word frame_in word_below op note (Some w) (Some _) before.actor answer
            (there.may, finds, refl));
      }

  pub reads : Touches frame word Read note answer before after → LeavesWords frame word note before after
  reads T = where_answered (touch_kind before.hand.state.sizes frame word Read note) answer before after T.acts.answers
      (λ w there finds. words_stay before.hand.state.sizes frame word frame_in word_below note (Some w) (Some _) before.actor answer (there.may, finds, refl))
