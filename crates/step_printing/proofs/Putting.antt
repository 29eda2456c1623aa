-- What is put of marks that are shown, and of those that aren't.
use Rattle.std.proofs.Common.{◌≡◌, ℕ, List, ◌∷◌, ◌++◌, refl, sym, ap, ◌∙◌}
use Rattle.std.specs.Prelude.{Bool, true, false, None}
use Rattle.std.specs.declared.option.Option.{Option}
use Rattle.core_views.specs.declared.answer.Answer.{Answer}
use Rattle.core_views.specs.declared.sizes.Sizes.{Sizes}
use Rattle.step_seats.specs.declared.turn.Turn.{Turn}
use Rattle.step_text.specs.declared.fold.Fold.{Fold}
use Rattle.turn_loops.specs.Marks.{Mark}
use Rattle.step_printing.specs.Coming.{PutsEntry, PutsMark, PutsTurn, after_kept, kept_text}
use Rattle.step_printing.specs.Lines.{Entry, Text, entries, joined, lines_text, placed, turn_entry}
use Rattle.step_printing.specs.Views.{after_turn, shows}
use Rattle.step_printing.specs.declared.lines.Lines.{Lines}
use Rattle.step_printing.specs.declared.view.MadeTurn.{MadeTurn}
use Rattle.step_printing.specs.declared.view.Reach.{Reach}
use Rattle.step_printing.specs.declared.view.View.{View}
use Rattle.step_printing.proofs.Sharing.{text_puts}

module _ (l : Lines) (before : List ℕ) where
  abbrev v : View
  v = l.view

  abbrev z : Sizes
  z = l.sizes

  module _ (m : MadeTurn) (told : Turn Answer) (reach : Reach) (reach_is : reach ≡ after_turn v l.reach m) where
    abbrev whole : Bool → List Entry → List ℕ
    whole t rest = before ++ lines_text z (after_kept v z l.kept (placed v z t (turn_entry z m.row told) rest))

    pub hidden_turn : shows v l.reach m ≡ false → PutsTurn l before m told (record l { reach = reach }) before
    hidden_turn hidden =
        record { sizes = refl; view = refl; reach = reach_is; puts = λ rest. ap (λ (t : Bool). whole t rest) (sym hidden) }

    pub shown_turn : (kept : Option Fold) (text : List ℕ) → shows v l.reach m ≡ true
        → PutsEntry v z l.kept before (turn_entry z m.row told) kept text → PutsTurn l before m told (record l { reach = reach; kept = kept }) text
    shown_turn kept text shown puts = record {
      sizes = refl;
      view = refl;
      reach = reach_is;
      puts = λ rest. puts rest ∙ ap (λ (t : Bool). whole t rest) (sym shown);
    }

  module _ (mark : Mark) (reach : Reach) where
    pub hidden_mark : ((more : List Mark) → entries v z l.reach (mark ∷ more) ≡ entries v z reach more)
        → PutsMark l before mark (record l { reach = reach }) before
    hidden_mark is = record {
      sizes = refl;
      puts = λ more. ap (λ (es : List Entry). before ++ lines_text z (after_kept v z l.kept es)) (sym (is more));
    }

    pub shown_mark : (mid text put : List ℕ) → ((more : List Mark) → entries v z l.reach (mark ∷ more) ≡ joined v z (Text put) (entries v z reach more))
        → mid ≡ before ++ kept_text z l.kept → text ≡ mid ++ put → PutsMark l before mark (record l { reach = reach; kept = None }) text
    shown_mark mid text put is mid_is are = record {
      sizes = refl;
      puts = λ more. text_puts v z l.kept before mid text put mid_is are (entries v z reach more)
          ∙ ap (λ (es : List Entry). before ++ lines_text z (after_kept v z l.kept es)) (sym (is more));
    }
