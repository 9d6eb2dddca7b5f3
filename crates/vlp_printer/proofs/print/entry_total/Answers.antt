use Rattle.std.proofs.Common.{sym, subst, get_or, ◌<◌, ◌∙◌, ◌≡◌, ◌+◌, ap, length, take, not, arith, sum_by, count_by, List, ℕ}
use Rattle.std.proofs.lemmas.List.Sums.{sum_by_more}
use Rattle.exact_field.specs.Rational.{ℚ}
use Rattle.frac128.specs.Sparse.{is_zero}
use Rattle.vlp_printer.proofs.print.entry_total.Goals as goal

pub loop-vector-preserved : goal.loop-vector-preserved
loop-vector-preserved c =
    let i = c.loop-vector.vector-index in
    let item = c.vector-item.result in
    let within = subst (λ (l : List (List ℚ)). i < length l) c.as_slice-vector-items.ensures.items c.loop-vector-test.true in
    let is : item ≡ get_or c.args.vectors.now i item = c.vector-item.is ∙ ap (λ (l : List (List ℚ)). get_or l i item) c.as_slice-vector-items.ensures.items in
    let bound = c.loop-vector.invariant.bound in
    let fits = c.count_nonzero.type_inv in
    record {
      value =
          ap (λ (n : ℕ). n + c.count_nonzero.result) c.loop-vector.invariant.value
          ∙ ap (λ (n : ℕ). sum_by (λ v. count_by (λ q. not (is_zero q)) v) (take i c.args.vectors.now) + n)
          (c.count_nonzero.ensures.value ∙ ap (λ (v : List ℚ). count_by (λ q. not (is_zero q)) v) is)
          ∙ sym (sum_by_more (λ v. count_by (λ q. not (is_zero q)) v) c.args.vectors.now i item within);
      bound = omega arith;
    }
