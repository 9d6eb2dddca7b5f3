use Rattle.std.proofs.Common.{List, map, subst, sym, ap, ◌∙◌, refl, rules, length}
use Rattle.exact_field.specs.Rational.{ℚ}
use Rattle.exact_field.specs.Vector.{dot}
use Rattle.vlp_problem.specs.Sides.{side_bounds}
use Rattle.lp_form.specs.declared.name.LpName.{LpName}
use Rattle.lp_form.specs.Reading.{AreParts, HasColumns}
use Rattle.overflows.specs.Products.{IsBaseU}
use Rattle.benson_program.proofs.Made.{made}
use Rattle.benson_program.proofs.Read.{base_u, columns_in, sides_in, wide_in}
use Rattle.benson_program.proofs.cut.cut_of.Goals as goal

pub parts-requires : goal.parts-requires
parts-requires g c =
    let F = g.row.F.Denot in
    let value = g.F.Field.value in
    let form = c.args.form.now in
    let some = c.requires.stands in
    let o = c.requires.optimum some.0 some.1 in
    record {
      columns = subst (λ (n : LpName F). HasColumns value form n c.args.z.now) (sym c.in_ok-name.ensures)
          (columns_in value form some.0 some.1 c.args.c.now c.args.v.now c.args.z.now c.args.t o.0 o.1 c.requires.c c.requires.v o.2);
    }

pub bound_of-requires : goal.bound_of-requires
bound_of-requires g c =
    let F = g.row.F.Denot in
    let value = g.F.Field.value in
    let form = c.args.form.now in
    let some = c.requires.stands in
    let o = c.requires.optimum some.0 some.1 in
    let read = subst (λ (n : LpName F). AreParts value some.0 n (map value c.args.z.now) c.in_ok-read.read) c.in_ok-name.ensures (c.in_ok-read.ensures some.0 some.1) in
    ap length c.as_slice.ensures.items
    ∙ sides_in value form some.0 some.1 c.args.c.now c.args.v.now c.args.z.now c.args.t o.0 o.1 c.requires.c c.requires.v o.2 c.in_ok-read.read.u read.u

pub returns-in_err-gamma-clause-left : goal.returns-in_err-gamma-clause-left
returns-in_err-gamma-clause-left g c = λ s stands known.
    let F = g.row.F.Denot in
    let value = g.F.Field.value in
    let form = c.args.form.now in
    let o = c.requires.optimum s.file stands in
    let read = subst (λ (n : LpName F). AreParts value s.file n (map value c.args.z.now) c.in_ok-read.read) c.in_ok-name.ensures (c.in_ok-read.ensures s.file stands) in
    let u_is = ap (map value) c.as_slice.ensures.items ∙ read.u in
    let base = base_u s.file (map value c.args.c.now) (map value c.args.v.now) c.args.t o.0 (map value c.args.z.now) o.1
    (wide_in value form s.file stands c.args.c.now c.requires.c) (wide_in value form s.file stands c.args.v.now c.requires.v) o.2 s refl known in
    let h = c.in_err-gamma.ensures.left s stands (subst (λ (u : List ℚ). IsBaseU s u) (sym u_is) base) in
    search (rules, h)

pub returns-clause-ok : goal.returns-clause-ok
returns-clause-ok g c = λ file stands.
    let F = g.row.F.Denot in
    let value = g.F.Field.value in
    let form = c.args.form.now in
    let o = c.requires.optimum file stands in
    let read = subst (λ (n : LpName F). AreParts value file n (map value c.args.z.now) c.in_ok-read.read) c.in_ok-name.ensures (c.in_ok-read.ensures file stands) in
    made value file (map value c.args.c.now) (map value c.args.v.now) c.args.t o.0 (map value c.args.z.now) o.1
    (wide_in value form file stands c.args.c.now c.requires.c) (wide_in value form file stands c.args.v.now c.requires.v) o.2
    record { w = c.in_ok-read.read.w; gamma = c.in_ok-gamma.gamma; u = c.in_ok-read.read.u; v = c.in_ok-read.read.v } read.u read.w read.v
    (c.in_ok-gamma.ensures.ok file stands ∙ ap (λ (l : List F). dot (side_bounds file) (map value l)) c.as_slice.ensures.items)
