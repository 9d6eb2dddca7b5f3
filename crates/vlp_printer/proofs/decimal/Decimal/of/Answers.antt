use Rattle.std.proofs.Common.{◌≡◌, true, None, Some, ℤ, to_z, of_z, arith, ◌^◌, ap, sym, ◌∙◌}
use Rattle.std.specs.Int.{w128}
use Rattle.std.specs.Prelude.{unsigned_abs}
use Rattle.std.proofs.lemmas.Bool.{and_from, cond-true, lt-ltb}
use Rattle.frac128.specs.Held.{is_held}
use Rattle.vlp_printer.specs.Decimal.{decimal_at, is_short, mantissa, places}
use Rattle.vlp_printer.proofs.Short.{short_fits}
use Rattle.vlp_printer.proofs.decimal.Decimal.of.Goals as goal

pub returns-clause-value : goal.returns-clause-value
returns-clause-value c =
    let q = c.args.number in
    let k = c.in_ok-places.places in
    let m : ℤ = c.in_ok-mantissa.mantissa in
    let held : is_held q ≡ true = and_from _ _ (lt-ltb (unsigned_abs q.num) (2 ^ 120) (omega (arith, c.well_formed))) (lt-ltb q.den (2 ^ 120) (omega (arith, c.well_formed))) in
    let same : to_z w128 (of_z w128 m) ≡ mantissa q k = short_fits m c.in_ok-mantissa.ensures.0 ∙ c.in_ok-mantissa.ensures.1 in
    let short : is_short (mantissa q k) ≡ true = ap is_short (sym c.in_ok-mantissa.ensures.1) ∙ c.in_ok-mantissa.ensures.0 in
    ap (λ (n : ℤ). Some (record { mantissa = n; places = k })) same
    ∙ sym (cond-true (is_held q) (decimal_at q (places q)) None held ∙ ap (decimal_at q) (sym c.in_ok-places.ensures.value) ∙ cond-true (is_short (mantissa q k)) _ None short)
