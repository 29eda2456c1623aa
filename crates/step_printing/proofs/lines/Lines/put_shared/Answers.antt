use Rattle.std.proofs.Common.{◌++◌, ap, inr, string_bytes, sym, ◌∙◌}
use Rattle.std.specs.declared.option.Option.{Option}
use Rattle.step_text.specs.declared.fold.Fold.{Fold}
use Rattle.step_printing.specs.Coming.{kept_text}
use Rattle.step_printing.specs.Lines.{fold_by}
use Rattle.step_printing.proofs.Sharing.{put_after, put_with}
use Rattle.step_printing.proofs.lines.Lines.put_shared.Goals as goal

pub returns-in-Some-checked_add : goal.returns-in-Some-checked_add
returns-in-Some-checked_add c =
    let l = c.args.self.now in
    put_with l.view l.sizes l.kept c.in-Some.fold (fold_by c.args.row c.args.waits) c.in-Some-checked_add.count (string_bytes c.args.text.now) c.in-Some.is
    c.in-Some-checked_add.ensures.1 (sym c.shares.ensures ∙ c.if-shares.true)

pub returns : goal.returns
returns c =
    let l = c.args.self.now in
    put_after l.view l.sizes l.kept (fold_by c.args.row c.args.waits) (string_bytes c.args.text.now) (string_bytes c.push_fold.new.text)
    (inr (c.in-Some.fold, c.in-Some.is, sym c.shares.ensures ∙ c.if-shares.false))
    (c.in_ok-push_fold.ensures ∙ ap (λ (o : Option Fold). string_bytes c.args.text.now ++ kept_text l.sizes o) (sym c.in-Some.is))
