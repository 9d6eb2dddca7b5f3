use Rattle.std.proofs.Common.{ℕ, List, [], ◌∷◌, ◌++◌, ◌+◌, ◌-◌, ◌≡◌, ap, ap₂, sym, ◌∙◌, arith, slice_index_or}
use Rattle.tableaux.specs.Dictionary.{basic_column}
use Rattle.lin_rows.proofs.Lists.{listed-push}
use Rattle.overflows.proofs.licences.basis_of.Goals as goal

pub loop-i-preserved : goal.loop-i-preserved
loop-i-preserved c =
    let basis = c.args.basis in
    let i = c.loop-i.i in
    let back : i + 1 - 1 ≡ i = omega arith in
    let column : c.column_at.result ≡ basic_column basis (i + 1) =
    c.column_at.ensures ∙ ap (λ (b : List ℕ). slice_index_or b i 0) c.as_slice.ensures.items ∙ ap (λ (k : ℕ). slice_index_or basis k 0) (sym back) in
    c.in_ok-push.ensures.ok ∙ ap₂ (λ (before : List ℕ) (x : ℕ). before ++ x ∷ []) c.loop-i.invariant column ∙ sym (listed-push i (basic_column basis))
