use Rattle.std.proofs.Common.{◌≡◌, ◌≤◌, ℕ, List, sym, subst, length, true}
use Rattle.std.specs.List.{list_all}
use Rattle.deriv_log.specs.Formed.{is_formed}
use Rattle.word_lines.specs.Parts.{is_short}
use Rattle.deriv_log.specs.declared.entry.Entry.{Entry}
use Rattle.deriv_log.specs.declared.entry.Entry.TheVariants.{AddHints}
use Rattle.word_lines.specs.declared.part.LogPair.{LogPair}
use Rattle.log_upgrade.proofs.WrittenEntries.{hints_written}
use Rattle.log_upgrade.proofs.walk.add_with_hints.Goals as goal

pub returns-clause-formed : goal.returns-clause-formed
returns-clause-formed c =
    let few : length c.args.hints ≤ 4294967294 =
    subst (λ (ks : List ℕ). length ks ≤ 4294967294) c.as_slice.ensures.items c.as_slice.ensures.bound in
    let each : list_all is_short c.args.hints ≡ true =
    subst (λ (ks : List ℕ). list_all is_short ks ≡ true) c.as_slice.ensures.items c.are_short.ensures in
    subst (λ (ps : List LogPair). is_formed (AddHints c.args.cut ps c.args.hints) ≡ true) (sym c.in_ok-copy_list.ensures)
    (hints_written c.args.cut c.args.pairs.now c.args.hints c.requires few each)
