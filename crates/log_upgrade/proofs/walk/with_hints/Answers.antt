use Rattle.std.proofs.Common.{◌≡◌, List, sym, subst, ap, ◌∙◌, true}
use Rattle.deriv_log.specs.Formed.{is_formed}
use Rattle.deriv_log.specs.declared.entry.Entry.{Entry}
use Rattle.deriv_log.specs.declared.entry.Entry.TheVariants.{Add, AddHints}
use Rattle.word_lines.specs.declared.part.LogPair.{LogPair}
use Rattle.cert_check.specs.StandsFor.{PassesAdd}
use Rattle.log_versions.specs.Plain.{plain}
use Rattle.log_upgrade.proofs.Steps.{hints_at, formed_next, passes_add, hinted_step, same_step}
use Rattle.log_upgrade.proofs.walk.with_hints.Goals as goal

pub least_hints-requires : goal.least_hints-requires
least_hints-requires c =
    let r = c.requires.next in
    let checker = c.args.checker.now in (
      r.0,
      r.2,
      subst (λ (ps : List LogPair). PassesAdd r.0 r.2 c.in-Add.cut ps checker) (sym c.as_slice.ensures.items)
          (passes_add r.0 r.1 r.2 r.3 c.args.entry.now r.4 checker r.5 r.6 c.in-Add.cut c.in-Add.pairs c.in-Add.is),
    )

pub add_with_hints-requires : goal.add_with_hints-requires
add_with_hints-requires c =
    let r = c.requires.next in
    subst (λ (ps : List LogPair). is_formed (Add c.in-Add.cut ps) ≡ true) (sym c.as_slice-in-Add.ensures.items)
    (ap is_formed (sym c.in-Add.is) ∙ formed_next r.0 r.1 r.2 r.3 c.args.entry.now r.4 c.args.checker.now r.5 r.6)

pub returns-in_ok-add_with_hints-in-Add : goal.returns-in_ok-add_with_hints-in-Add
returns-in_ok-add_with_hints-in-Add c file all before vectors after repeats n =
    let e = c.args.entry.now in
    let checker = c.args.checker.now in
    let cut = c.in-Add.cut in
    let ps = c.in-Add.pairs in
    let hints = c.in_ok-hints-in-Add.hints in
    let passes = passes_add file all before vectors e after checker repeats n cut ps c.in-Add.is in
    let listed = c.as_slice.ensures.items in
    hinted_step file all before vectors e after checker repeats n cut ps hints c.in_ok-add_with_hints-in-Add.field-0 c.in-Add.is
    (c.in_ok-hints-in-Add.ensures file before (subst (λ (l : List LogPair). PassesAdd file before cut l checker) (sym listed) passes)
    ∙ ap (hints_at file.objs (plain before) cut) listed)
    (c.in_ok-add_with_hints-in-Add.ensures.is ∙ ap (λ (l : List LogPair). AddHints cut l hints) c.as_slice-in-Add.ensures.items) c.in_ok-add_with_hints-in-Add.ensures.formed

pub returns-in_default : goal.returns-in_default
returns-in_default c file all before vectors after repeats n =
    same_step file.objs all before vectors c.args.entry.now c.requires.none
    (λ k e. c.in_default.not-Version k e, λ cut ps e. c.in_default.not-Add cut ps e)
    (formed_next file all before vectors c.args.entry.now after c.args.checker.now repeats n)
