use Rattle.std.proofs.Common.{List, sym, ◌∙◌, subst}
use Rattle.exact_field.specs.Rational.{ℚ}
use Rattle.rep_conv.specs.Giving.{IsGiven}
use Rattle.rep_conv.specs.Live.{state}
use Rattle.rep_convert.proofs.Ended.{no_rows, short_conversion, short_given, short_log}
use Rattle.rep_convert.proofs.conversion.convert_without_rows.Goals as goal

pub other_rep-requires-clause-some : goal.other_rep-requires-clause-some
other_rep-requires-clause-some c = sym (no_rows c.args.rep.now c.requires)

pub other_rep-requires-clause-given : goal.other_rep-requires-clause-given
other_rep-requires-clause-given c =
    let rep = c.args.rep.now in (
      short_log rep c.requires,
      subst (λ (p : List (List ℚ) × List (List ℚ)). IsGiven rep.width (state rep (short_log rep c.requires)) p.0 p.1)
          (λ i. (sym (c.as_slice.ensures.items ∙ c.new-none.ensures) i, sym (c.as_slice-2.ensures.items ∙ c.new-none.ensures) i))
          (short_given rep c.requires),
    )

pub returns : goal.returns
returns c =
    let rep = c.args.rep.now in
    short_conversion rep c.requires c.in_ok-log.log c.in_ok-log.ensures c.in_ok-found.found
    (c.in_ok-found.ensures (short_log rep c.requires)
    (subst (λ (p : List (List ℚ) × List (List ℚ)). IsGiven rep.width (state rep (short_log rep c.requires)) p.0 p.1)
    (λ i. (sym (c.as_slice.ensures.items ∙ c.new-none.ensures) i, sym (c.as_slice-2.ensures.items ∙ c.new-none.ensures) i))
    (short_given rep c.requires)))
