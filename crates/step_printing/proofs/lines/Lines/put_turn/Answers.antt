use Rattle.std.proofs.Common.{◌≡◌, string_bytes, sym, ◌∙◌}
use Rattle.std.specs.Prelude.{true, false}
use Rattle.step_printing.specs.Views.{shows}
use Rattle.step_printing.proofs.Putting.{hidden_turn, shown_turn}
use Rattle.step_printing.proofs.lines.Lines.put_turn.Goals as goal

pub returns-then-not-shows : goal.returns-then-not-shows
returns-then-not-shows c = λ told tells.
    let l = c.args.self.now in
    let m = c.args.made.now in
    let hidden : shows l.view l.reach m ≡ false = sym c.shows.ensures ∙ c.if-not-shows.true in
    hidden_turn l (string_bytes c.args.text.now) m told c.after_turn-reach.result c.after_turn-reach.ensures hidden

pub returns : goal.returns
returns c = λ told tells.
    let l = c.args.self.now in
    let m = c.args.made.now in
    let shown : shows l.view l.reach m ≡ true = sym c.shows.ensures ∙ c.if-not-shows.false in
    shown_turn l (string_bytes c.args.text.now) m told c.after_turn-reach.result c.after_turn-reach.ensures c.in_ok-kept.kept
    (string_bytes c.put_made.new.text) shown (c.in_ok-kept.ensures told tells)
