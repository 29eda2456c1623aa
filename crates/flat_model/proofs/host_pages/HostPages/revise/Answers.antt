use Rattle.std.proofs.Common.{◌≡◌, ◌∙◌, Some, sym, ap, false, true}
use Rattle.core_views.specs.declared.host.HostEntry.{HostEntry}
use Rattle.core_views.specs.declared.trace.Command.TheVariants.{ChangeHost}
use Rattle.core_views.specs.declared.trace.HostChange.{HostChange}
use Rattle.core_views.specs.HostChanges.{host_answer}
use Rattle.flat_model.specs.HostPages.{entry_after, host_of}
use Rattle.flat_model.proofs.HostLines.{keeping, put, same_frame}
use Rattle.flat_model.proofs.host_pages.HostPages.revise.Goals as goal
use Rattle.flat_model.proofs.host_pages.HostPages.revise.Goals.{in-Evict, in-Protect, in-Allow}

-- The page keeps its frame.
same : (c : goal.In_ok-insert) → c.match-change.entry.frame ≡ (host_of c.self.inside.changed.entries c.args.page).frame
same c =
    let was : c.entry_of-was.result ≡ host_of c.self.inside.changed.entries c.args.page = rw (← c.self.view_is) at c.entry_of-was.ensures in
    let frame = λ (e : HostEntry). e.frame in
    elim c.match-change.branch [
      | in-Evict w ↦ ap frame w.entry-is ∙ ap frame was
      | in-Protect w ↦ ap frame w.entry-is ∙ ap frame was
      | in-Allow w ↦ ap frame w.entry-is ∙ ap frame was
    ]

pub invariant_of-self-2 : goal.invariant_of-self-2
invariant_of-self-2 c =
    same_frame c.self.inside.sizes.pages c.args.page c.match-change.entry c.self.inside.changed.entries c.insert.new.self.entries c.self.inside.free
    (λ _. same c)
    (put c.args.page c.match-change.entry c.self.inside.changed.entries c.insert.new.self.entries c.in_ok-insert.ensures.updates.0) c.self.invariant

pub returns-clause-changes : goal.returns-clause-changes
returns-clause-changes c =
    let z = c.self.inside.sizes in
    let before = c.self.inside.changed.entries in
    let page = c.args.page in
    let entry = c.match-change.entry in
    let was : c.entry_of-was.result ≡ host_of before page = rw (← c.self.view_is) at c.entry_of-was.ensures in
    let maps = put page entry before c.insert.new.self.entries c.in_ok-insert.ensures.updates.0 in
    let answer = λ (change : HostChange). host_answer (ChangeHost page change) entry in
    rw (← c.self.view_is) (elim c.match-change.branch [
      | in-Evict w ↦ keeping z page c.args.change entry before c.insert.new.self.entries
          (ap (entry_after z (host_of before) page) w.in-Evict.is
          ∙ ap (λ (e : HostEntry). Some (let r : HostEntry = record e { present = false } in r)) (sym was) ∙ ap Some (sym w.entry-is))
          (ap answer w.in-Evict.is) maps
      | in-Protect w ↦ keeping z page c.args.change entry before c.insert.new.self.entries
          (ap (entry_after z (host_of before) page) w.in-Protect.is
          ∙ ap (λ (e : HostEntry). Some (let r : HostEntry = record e { writable = false } in r)) (sym was) ∙ ap Some (sym w.entry-is))
          (ap answer w.in-Protect.is) maps
      | in-Allow w ↦ keeping z page c.args.change entry before c.insert.new.self.entries
          (ap (entry_after z (host_of before) page) w.in-Allow.is
          ∙ ap (λ (e : HostEntry). Some (let r : HostEntry = record e { writable = true } in r)) (sym was) ∙ ap Some (sym w.entry-is))
          (ap answer w.in-Allow.is) maps
    ])
