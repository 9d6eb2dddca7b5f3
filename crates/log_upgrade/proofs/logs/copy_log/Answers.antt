use Rattle.std.proofs.Common.{◌≡◌, List, ◌++◌, [], ◌∷◌, sym, ap, ap₂, ◌∙◌, arith, take}
use Rattle.std.proofs.lemmas.List.{take_all}
use Rattle.deriv_log.specs.declared.entry.Entry.{Entry}
use Rattle.log_upgrade.proofs.Walking.{front_is}
use Rattle.log_upgrade.proofs.logs.copy_log.Goals as goal

pub loop-entry-preserved : goal.loop-entry-preserved
loop-entry-preserved c =
    let list = c.as_slice-list.result.now in
    let i = c.loop-entry.entry-index in
    c.in_ok-push.ensures.ok
    ∙ ap₂ (λ (es : List Entry) (e : Entry). es ++ e ∷ []) c.loop-entry.invariant c.in_ok-copy.ensures
    ∙ sym (front_is list i c.entry-item.result c.loop-entry-test.true c.entry-item.is)

pub returns : goal.returns
returns c =
    c.loop-entry.invariant ∙ take_all c.loop-entry.entry-index c.as_slice-list.result.now c.loop-entry-test.false ∙ c.as_slice-list.ensures.items
