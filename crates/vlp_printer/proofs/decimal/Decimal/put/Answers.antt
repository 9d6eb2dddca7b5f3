use Rattle.std.proofs.Common.{sym, to_z, of_z, ◌∙◌, ◌≡◌, ◌++◌, ◌==◌, ap, codes, decimal, List, ℕ, Some}
use Rattle.std.specs.Int.{w128}
use Rattle.std.specs.Fmt.{signed_decimal}
use Rattle.std.proofs.lemmas.Bool.{cond-false, ne_eqb}
use Rattle.vlp_printer.specs.Decimal.{decimal_of, decimal_text}
use Rattle.vlp_printer.proofs.Short.{short_fits}
use Rattle.vlp_printer.proofs.WordByWord.{part_more}
use Rattle.vlp_printer.proofs.decimal.Decimal.put.Goals as goal

pub returns : goal.returns
returns c =
    let into = c.args.into.now in
    let d = c.in-Some.decimal in
    let mantissa_is : to_z w128 (of_z w128 d.mantissa) ≡ d.mantissa = short_fits d.mantissa c.in-Some.ensures.short in
    let whole = signed_decimal d.mantissa in
    let form : decimal_of c.args.number ≡ Some d = sym c.of.ensures.value ∙ c.in-Some.is in
    let first : c.append.new.self ≡ into ++ whole = c.in_ok-append.ensures.ok ∙ ap (λ (l : List ℕ). into ++ l) (c.as_bytes.ensures.value ∙ c.format.ensures.text ∙ ap signed_decimal mantissa_is) in
    let second : c.append-2.new.self ≡ c.append.new.self ++ codes "e-" = c.in_ok-append-2.ensures.ok ∙ ap (λ (l : List ℕ). c.append.new.self ++ l) c.as_slice.ensures in
    let third : c.append-3.new.self ≡ c.append-2.new.self ++ decimal d.places = c.in_ok-append-3.ensures.ok ∙ ap (λ (l : List ℕ). c.append-2.new.self ++ l) (c.as_bytes-2.ensures.value ∙ c.format-2.ensures.text) in
    part_more into c.append-2.new.self c.append-3.new.self (whole ++ codes "e-") (decimal d.places) (part_more into c.append.new.self c.append-2.new.self whole (codes "e-") first second) third
    ∙ ap (λ (l : List ℕ). into ++ l) (sym (ap decimal_text form ∙ cond-false (d.places == 0) _ _ (ne_eqb d.places 0 c.if-decimal-eq0.false)))
