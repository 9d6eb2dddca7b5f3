use Rattle.std.proofs.Common.{◌≡◌, ◌∙◌, ap, ℕ, sym, take, map, arith}
use Rattle.tableaux.specs.Dictionary.{ray}
use Rattle.tableaux.specs.Elimination.{ray_of}
use Rattle.tableaux.proofs.Ends.{ends_are_right}
use Rattle.lin_rows.specs.System.{system_of}
use Rattle.exact_simplex.proofs.Programs.{system_ok, equation_count_is, unknown_count_is}
use Rattle.exact_simplex.proofs.EndsRead.{unbounded_read}
use Rattle.exact_simplex.proofs.reading.read_unbounded.Goals as goal

pub ray-requires-clause-high : goal.ray-requires-clause-high
ray-requires-clause-high g c = omega (arith, c.requires.high, c.requires.feasible.held.width)

pub returns-clause-read_off : goal.returns-clause-read_off
returns-clause-read_off g c =
    let value = g.F.Field.value in
    let p = c.args.system.now in
    let s = system_of value p in
    let t = c.args.tableau.now in
    let col : ℕ = c.args.col in
    let columns = c.in_ok-basis.ensures ∙ ap (λ k. take k t.basis) (sym (equation_count_is value p c.requires.lengths)) in
    let along : map value c.in_ok-ray.ray ≡ ray s t.basis t.table col =
    c.in_ok-ray.ensures ∙ ap (λ k. ray_of k t.basis t.table col) (sym (unknown_count_is value p c.requires.lengths)) in (
      t.table,
      col,
      unbounded_read value s t c.in_ok-basis.basis columns (map value c.in_ok-x.x) (map value c.in_ok-ray.ray) col c.requires.feasible c.requires.idle c.requires.low
          c.requires.high c.requires.betters c.requires.unlimited c.in_ok-x.ensures along,
    )

pub returns-clause-certified : goal.returns-clause-certified
returns-clause-certified g c =
    let value = g.F.Field.value in
    let p = c.args.system.now in
    let read = returns-clause-read_off g c in
    ends_are_right.unbounded (system_of value p) c.in_ok-basis.basis read.0 read.1 (map value c.in_ok-x.x) (map value c.in_ok-ray.ray) (system_ok value p c.requires.lengths) read.2
