use Rattle.std.proofs.Common.{◌≡◌, drop, ℕ}
use Rattle.lin_rows.specs.Lines.{entries, Rises}
use Rattle.exact_simplex.specs.Ratios.{ratios}
use Rattle.tableaux.specs.Lex.{lex_less}
use Rattle.exact_simplex.proofs.ratio.is_before.Given as goal

abbrev pub invariant-loop-column : goal.invariant-loop-column
invariant-loop-column g l =
    let value = g.F.Field.value in
    let us = ratios (value l.p) (entries value l.u) l.columns in
    let vs = ratios (value l.r) (entries value l.v) l.columns in
    (n : ℕ) → Rises n 0 (entries value l.u) → Rises n 0 (entries value l.v) → lex_less (drop l.column-index us) (drop l.column-index vs) ≡ lex_less us vs
