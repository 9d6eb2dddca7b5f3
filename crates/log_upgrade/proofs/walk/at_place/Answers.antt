use Rattle.std.proofs.Common.{◌≡◌, List, refl, sym, subst, true, ap, arith}
use Rattle.std.proofs.Math.Facts.{Fits-lt-pow}
use Rattle.std.proofs.lemmas.Bool.{and_from}
use Rattle.frac128.specs.declared.vectors.Spot.{Spot}
use Rattle.deriv_log.specs.Formed.{is_formed}
use Rattle.deriv_log.specs.declared.entry.Entry.{Entry}
use Rattle.deriv_log.specs.declared.entry.Entry.TheVariants.{Share}
use Rattle.log_upgrade.proofs.WrittenEntries.{vector_written, naming_written}
use Rattle.log_upgrade.proofs.walk.at_place.Goals as goal

pub returns-in_ok-name_vector-in-First-clause-formed : goal.returns-in_ok-name_vector-in-First-clause-formed
returns-in_ok-name_vector-in-First-clause-formed c =
    let vector = c.in_ok-copy_list-in-First.field-0 in
    let other = c.in_ok-name_vector-in-First.field-0 in
    and_from (is_formed (Share vector)) _
    (subst (λ (u : List Spot). is_formed (Share u) ≡ true) (sym c.in_ok-copy_list-in-First.ensures)
    (vector_written c.args.entry.now c.args.vector.now c.requires.vector c.requires.formed))
    (and_from (is_formed other) true
    (subst (λ (e : Entry). is_formed e ≡ true) (sym c.in_ok-name_vector-in-First.ensures) (naming_written c.in-First.share c.args.entry.now (omega arith) c.requires.formed)) refl)
