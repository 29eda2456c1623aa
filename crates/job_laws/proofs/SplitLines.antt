-- What the end of a split makes sure of, whatever steps led there.
use Rattle.std.proofs.Common.{◌≡◌, ◌≢◌, ◌⊎◌, inl, inr, ◌<◌, ℕ, List, [], ◌∷◌, length, refl, sym, ap, ◌∙◌, subst}
use Rattle.std.specs.Prelude.{true, Some}
use Rattle.core_views.specs.declared.answer.Answer.{Answer}
use Rattle.core_views.specs.declared.kind.Kind.{Kind}
use Rattle.core_views.specs.declared.place.Place.{Place}
use Rattle.core_views.specs.declared.place.Place.TheVariants as place
use Rattle.core_views.specs.declared.place.SplitEnd.{SplitEnd}
use Rattle.core_views.specs.declared.place.SplitEnd.TheVariants as end_of
use Rattle.core_views.specs.declared.place.SplitPlace.TheVariants.{End}
use Rattle.core_views.specs.declared.sizes.Sizes.{Sizes}
use Rattle.core_views.specs.declared.trace.Command.{Command}
use Rattle.core_views.specs.declared.trace.Command.TheVariants as command
use Rattle.core_views.specs.declared.trace.Line.{Line}
use Rattle.core_views.specs.Held.{Held}
use Rattle.mmu_core.specs.forms.split.SplitKnows.{SplitEndKnows}
use Rattle.mmu_core.specs.invariant.Laws.{IsSound}
use Rattle.mmu_core.specs.lines.Forms.{KnowsPart}
use Rattle.mmu_core.specs.machine.Enabled.{mmu}
use Rattle.mmu_core.specs.machine.Machine.{Legal, Step, World, effect, hand_in, run}
use Rattle.mmu_core.specs.machine.Steps.{line_at, place_at}
use Rattle.mmu_core.specs.machine.Turns.{line_of}
use Rattle.mmu_core.specs.machine.Worlds.{IsStart}
use Rattle.mmu_core.proofs.machine.Worlds.{good_step}
use Rattle.mmu_core.proofs.start.Starts.{start_good}
use Rattle.mmu_core.proofs.start.StartWords.{hand_is}
use Rattle.step_seats.specs.LineTurns.{TurnsLine}
use Rattle.step_seats.specs.Seats.{Seat}
use Rattle.step_seats.specs.declared.turn.Turn.TheVariants.{Done}
use Rattle.job_laws.proofs.SplitSteps.{Before, IsOf, Stands, ToEnd, step_back, tells_exchange}
use Rattle.job_laws.proofs.Turned as turned
use Rattle.job_laws.specs.Splits.{HasExchanged, SplitsTellWhatTheyFound}

-- ---- a run

module _ (e : SplitEnd) (exchange : tells_exchange e ≡ true) where
  -- It stood there before all the steps, and has been answered nothing since; or one of them is the exchange.
  abbrev pub Came : ℕ → ℕ → World Held → List (Step Kind) → Type 0
  Came gfn a w ss =
      (Stands e exchange gfn (hand_in mmu w a) × (length (hand_in mmu w a).answers ≡ length (hand_in mmu (run mmu w ss) a).answers))
      ⊎ ((read : ℕ) × (found : ℕ) × IsOf e read found × HasExchanged gfn read found a w ss)

  pub run_back : (z : Sizes) (w : World Held) (ss : List (Step Kind)) (gfn a : ℕ) → IsSound z w → Legal mmu w ss
      → Stands e exchange gfn (hand_in mmu (run mmu w ss) a) → Came gfn a w ss
  run_back z w [] gfn a G legal S = inl (S, refl)
  run_back z w (s ∷ ss) gfn a G legal S = by (run_back z (effect mmu w s) ss gfn a (good_step z w s G legal.0) legal.1 S)
    where
      by_first : (length (hand_in mmu (effect mmu w s) a).answers ≡ length (hand_in mmu (run mmu w (s ∷ ss)) a).answers)
          → Before e exchange gfn w s a → Came gfn a w (s ∷ ss)
      by_first same (inl S_before, kept) = inl (S_before, kept ∙ same)
      by_first same (inr (read, found, of, own, X), kept) =
          inr (
            read,
            found,
            of,
            record {
              earlier = [];
              one = s;
              later = ss;
              are = refl;
              by_actor = own;
              exchanges = X;
              since = kept ∙ same;
            },
          )

      by : Came gfn a (effect mmu w s) ss → Came gfn a w (s ∷ ss)
      by (inl (S_there, same)) = by_first same (step_back e exchange z w s G legal.0 gfn a S_there)
      by (inr (read, found, of, X)) =
          inr (
            read,
            found,
            of,
            record {
              earlier = s ∷ X.earlier;
              one = X.one;
              later = X.later;
              are = ap (λ xs. s ∷ xs) X.are;
              by_actor = X.by_actor;
              exchanges = X.exchanges;
              since = X.since;
            },
          )

-- ---- its end

module _ (z : Sizes) (lines : List Line) (start : World Held) (ss : List (Step Kind)) (before after : Seat) (answer : Answer) (e : SplitEnd) (gfn : ℕ)
    (is_start : IsStart z lines start) (legal : Legal mmu start ss) (world : before.tells.world ≡ Some (run mmu start ss))
    (left : length before.hand.answers < length before.hand.lines) (splits : (line_of before.hand).command ≡ command.Split gfn)
    (T : TurnsLine (Done answer) before after) (ends : before.hand.state.place ≡ place.Split (End e)) where
  abbrev h : Held
  h = before.hand

  here : hand_in mmu (run mmu start ss) before.actor ≡ h
  here = (turned.made z lines start ss before after is_start legal world left T.makes).0.has.is

  command_is : h.state.line.command ≡ command.Split gfn
  command_is = subst (λ (q : Place). (line_at q h).command ≡ command.Split gfn) ends splits

  -- What it knows at its last step.
  pub knows_end : SplitEndKnows e h.state.sizes gfn h.topics
  knows_end =
      (subst (λ (c : Command). KnowsPart (place.Split (End e)) c h) command_is
      (subst (λ (q : Place). KnowsPart (place_at q h) (line_at q h).command h) ends
      (turned.knows z lines start ss before after is_start legal world left T.makes))).2

  -- At the start no line stands anywhere.
  pub exchanged : tells_exchange e ≡ true → (read : ℕ) × (found : ℕ) × IsOf e read found × HasExchanged gfn read found before.actor start ss
  exchanged tells =
      by (run_back e tells z start ss gfn before.actor (start_good z lines start is_start) legal
      (subst (Stands e tells gfn) (sym here) (record { at = subst (ToEnd e) (sym ends) refl; command_is = command_is })))
    where
      by : Came e tells gfn before.actor start ss → (read : ℕ) × (found : ℕ) × IsOf e read found × HasExchanged gfn read found before.actor start ss
      by (inl (S, same)) =
          absurd (subst (ToEnd e)
          (ap (λ (x : Held). x.state.place)
          (hand_is z lines start before.actor is_start (turned.there z lines start ss before after is_start legal world left T.makes))) S.at)
      by (inr X) = X

pub splits_tell : SplitsTellWhatTheyFound
splits_tell z lines start ss before after answer end_of.Split gfn is_start legal world left splits T ends =
    won (exchanged z lines start ss before after answer end_of.Split gfn is_start legal world left splits T ends refl)
  where
    won : (read : ℕ) × (found : ℕ) × (found ≡ read) × HasExchanged gfn read found before.actor start ss
        → (read : ℕ) × HasExchanged gfn read read before.actor start ss
    won (read, found, same, X) = (read, subst (λ n. HasExchanged gfn read n before.actor start ss) same X)
splits_tell z lines start ss before after answer (end_of.Nothing word) gfn is_start legal world left splits T ends =
    knows_end z lines start ss before after answer (end_of.Nothing word) gfn is_start legal world left splits T ends
splits_tell z lines start ss before after answer (end_of.Changed seen) gfn is_start legal world left splits T ends =
    lost (exchanged z lines start ss before after answer (end_of.Changed seen) gfn is_start legal world left splits T ends refl)
  where
    lost : (read : ℕ) × (found : ℕ) × ((found ≡ seen) × (read ≢ found)) × HasExchanged gfn read found before.actor start ss
        → (read : ℕ) × (read ≢ seen) × HasExchanged gfn read seen before.actor start ss
    lost (read, found, (is, other), X) =
        (read, subst (λ n. read ≢ n) is other, subst (λ n. HasExchanged gfn read n before.actor start ss) is X)
splits_tell z lines start ss before after answer end_of.Starved gfn is_start legal world left splits T ends =
    knows_end z lines start ss before after answer end_of.Starved gfn is_start legal world left splits T ends
