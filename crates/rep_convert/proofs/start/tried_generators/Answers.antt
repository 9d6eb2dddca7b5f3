use Rattle.std.proofs.Common.{◌≡◌, List, [], All, length, map, slice_index_or, sym, subst, ap, ◌∙◌}
use Rattle.exact_field.specs.Rational.{ℚ}
use Rattle.frac128.specs.Held.{is_held}
use Rattle.lineality.specs.Without.{with_zeros}
use Rattle.lin_rows.specs.Sums.{AreHeld}
use Rattle.lin_rows.proofs.Errors.{err_holds}
use Rattle.polyhedra.specs.LiveList.{vectors}
use Rattle.rep_convert.specs.Licensed.{AreMultiplied, IsConvLeft}
use Rattle.rep_convert.proofs.Calls.{named_long, named_multiplied, started}
use Rattle.rep_convert.proofs.start.tried_generators.Goals as goal

pub try_products-requires : goal.try_products-requires
try_products-requires c =
    let gens = c.in_ok-gens.gens in
    let named = c.in_ok-named.named in
    record {
      same =
          subst (λ (vs : List (List ℚ)). All (λ (r : List ℚ). All (λ (v : List ℚ). length r ≡ length v) vs) c.as_slice.result.now) (sym c.as_slice-2.ensures.items)
          (subst (All (λ (r : List ℚ). All (λ (v : List ℚ). length r ≡ length v) gens)) (sym c.as_slice.ensures.items)
          (named_long c.args.rep.now c.args.lines.now c.requires.lines c.args.picks.now c.requires.starts c.args.dd.now c.requires.start gens named
          (c.in_ok-gens.ensures ∙ ap (λ bs. map (with_zeros bs) (vectors c.args.dd.now.list.live)) c.requires.places)
          (c.in_ok-named.ensures ∙ ap (λ (rows : List (List ℚ)). map (λ k. slice_index_or rows k []) c.args.picks.now) c.requires.rows)));
    }

pub returns-in_err-try_products-clause-left : goal.returns-in_err-try_products-clause-left
returns-in_err-try_products-clause-left c =
    let rep = c.args.rep.now in
    let gens = c.in_ok-gens.gens in
    let named = c.in_ok-named.named in
    err_holds c.from_residual-in_err-try_products.result c.in_err-try_products.field-0.0 (IsConvLeft is_held rep)
    c.from_residual-in_err-try_products.ensures.1
    (c.in_err-try_products.ensures.left rep
    (subst (λ (vs : List (List ℚ)). All (λ (r : List ℚ). All (AreMultiplied rep r) vs) c.as_slice.result.now) (sym c.as_slice-2.ensures.items)
    (subst (All (λ (r : List ℚ). All (AreMultiplied rep r) gens)) (sym c.as_slice.ensures.items)
    (named_multiplied rep c.args.lines.now c.requires.lines c.args.picks.now c.requires.starts c.args.dd.now c.requires.start gens named
    (c.in_ok-gens.ensures ∙ ap (λ bs. map (with_zeros bs) (vectors c.args.dd.now.list.live)) c.requires.places)
    (c.in_ok-named.ensures ∙ ap (λ (rows : List (List ℚ)). map (λ k. slice_index_or rows k []) c.args.picks.now) c.requires.rows)))))

pub returns-clause-started : goal.returns-clause-started
returns-clause-started c =
    let gens = c.in_ok-gens.gens in
    let named = c.in_ok-named.named in
    started c.args.rep.now c.args.lines.now c.requires.lines c.args.picks.now c.requires.starts c.args.dd.now c.requires.start gens named
    (c.in_ok-gens.ensures ∙ ap (λ bs. map (with_zeros bs) (vectors c.args.dd.now.list.live)) c.requires.places)
    (c.in_ok-named.ensures ∙ ap (λ (rows : List (List ℚ)). map (λ k. slice_index_or rows k []) c.args.picks.now) c.requires.rows)
    (subst (All (λ (r : List ℚ). All (λ (v : List ℚ). AreHeld is_held r v (length r)) gens)) c.as_slice.ensures.items
    (subst (λ (vs : List (List ℚ)). All (λ (r : List ℚ). All (λ (v : List ℚ). AreHeld is_held r v (length r)) vs) c.as_slice.result.now) c.as_slice-2.ensures.items
    c.in_ok-try_products.ensures.held))
