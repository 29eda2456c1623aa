use Rattle.std.proofs.Common.{◌≡◌, ap, string_bytes, sym, ◌∙◌}
use Rattle.std.specs.Prelude.{Bool, true, false}
use Rattle.step_text.specs.Rows.{item_text}
use Rattle.turn_loops.specs.Marks.{Begins}
use Rattle.step_printing.specs.Lines.{Text, entries, joined, placed}
use Rattle.step_printing.specs.Views.{after_go, shows_item}
use Rattle.step_printing.specs.declared.view.Reach.{Reach}
use Rattle.step_printing.proofs.Putting.{hidden_mark, shown_mark}
use Rattle.step_printing.proofs.lines.Lines.put_item.Goals as goal

pub returns-then-not-shows_item : goal.returns-then-not-shows_item
returns-then-not-shows_item c =
    let l = c.args.self.now in
    let item = c.args.item.now in
    let hidden : shows_item l.view l.reach item ≡ false = sym c.shows_item.ensures ∙ c.if-not-shows_item.true in
    hidden_mark l (string_bytes c.args.text.now) (Begins item) c.after_go-reach.result
    (λ more. ap (λ (t : Bool). placed l.view l.sizes t (Text (item_text item)) (entries l.view l.sizes (after_go l.view l.reach) more)) hidden
    ∙ ap (λ (r : Reach). entries l.view l.sizes r more) (sym c.after_go-reach.ensures))

pub returns : goal.returns
returns c =
    let l = c.args.self.now in
    let item = c.args.item.now in
    let shown : shows_item l.view l.reach item ≡ true = sym c.shows_item.ensures ∙ c.if-not-shows_item.false in
    shown_mark l (string_bytes c.args.text.now) (Begins item) c.after_go-reach.result (string_bytes c.flush.new.text) (string_bytes c.push_item.new.text)
    (item_text item)
    (λ more. ap (λ (t : Bool). placed l.view l.sizes t (Text (item_text item)) (entries l.view l.sizes (after_go l.view l.reach) more)) shown
    ∙ ap (λ (r : Reach). joined l.view l.sizes (Text (item_text item)) (entries l.view l.sizes r more)) (sym c.after_go-reach.ensures))
    c.in_ok-flush.ensures c.in_ok-push_item.ensures
