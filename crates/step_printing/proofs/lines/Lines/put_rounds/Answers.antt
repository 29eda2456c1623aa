use Rattle.std.proofs.Common.{◌≡◌, ap, string_bytes, sym, ◌∙◌}
use Rattle.std.specs.Prelude.{Bool, true, false}
use Rattle.step_text.specs.Rows.{rounds_text}
use Rattle.turn_loops.specs.Marks.{Rounds}
use Rattle.step_printing.specs.Lines.{Text, entries, joined, placed}
use Rattle.step_printing.specs.Views.{after_go, shows_rounds}
use Rattle.step_printing.specs.declared.view.Reach.{Reach}
use Rattle.step_printing.proofs.Putting.{hidden_mark, shown_mark}
use Rattle.step_printing.proofs.lines.Lines.put_rounds.Goals as goal

pub returns-then-not-shows_rounds : goal.returns-then-not-shows_rounds
returns-then-not-shows_rounds c =
    let l = c.args.self.now in
    let hidden : shows_rounds l.view l.reach ≡ false = sym c.shows_rounds.ensures ∙ c.if-not-shows_rounds.true in
    hidden_mark l (string_bytes c.args.text.now) Rounds c.after_go-reach.result
    (λ more. ap (λ (t : Bool). placed l.view l.sizes t (Text rounds_text) (entries l.view l.sizes (after_go l.view l.reach) more)) hidden
    ∙ ap (λ (r : Reach). entries l.view l.sizes r more) (sym c.after_go-reach.ensures))

pub returns : goal.returns
returns c =
    let l = c.args.self.now in
    let shown : shows_rounds l.view l.reach ≡ true = sym c.shows_rounds.ensures ∙ c.if-not-shows_rounds.false in
    shown_mark l (string_bytes c.args.text.now) Rounds c.after_go-reach.result (string_bytes c.flush.new.text) (string_bytes c.push_rounds.new.text)
    rounds_text
    (λ more. ap (λ (t : Bool). placed l.view l.sizes t (Text rounds_text) (entries l.view l.sizes (after_go l.view l.reach) more)) shown
    ∙ ap (λ (r : Reach). joined l.view l.sizes (Text rounds_text) (entries l.view l.sizes r more)) (sym c.after_go-reach.ensures))
    c.in_ok-flush.ensures c.in_ok-push_rounds.ensures
