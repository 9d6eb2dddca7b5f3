use Rattle.std.proofs.Common.{◌≡◌, ℕ, List, sym, ap, ◌∙◌, IfOk, Result, Ok, Err}
use Rattle.src_sink.specs.declared.items.NoMemory.{NoMemory}
use Rattle.deriv_log.specs.Laws.{IsTextOf}
use Rattle.deriv_log.specs.declared.entry.Entry.{Entry}
use Rattle.log_versions.specs.Plain.{is_version_2}
use Rattle.log_versions.specs.Upgrade.{upgraded}
use Rattle.log_upgrade.specs.Walk.{IsWholeText}
use Rattle.log_upgrade.proofs.Whole.{text_of_first}
use Rattle.log_upgrade.proofs.upgrade_text.Goals as goal

told : (r : Result (List ℕ) NoMemory) (P Q : List ℕ → Type 0) → ((text : List ℕ) → P text → Q text) → IfOk r P → IfOk r Q
told (Ok text) P Q f p = f text p
told (Err e) P Q f p = tt

pub returns-else-is_second : goal.returns-else-is_second
returns-else-is_second c =
    let q = c.args.problem.now.objs in
    let all = c.args.entries.now in
    let first = ap is_version_2 (sym c.as_slice.ensures.items) ∙ sym c.if-is_second.ensures in
    told c.make_upgrade_text.result (IsWholeText q all) (λ text. IsTextOf text (upgraded q all)) (λ text w. text_of_first q all text c.requires.log first w)
    c.make_upgrade_text.ensures
