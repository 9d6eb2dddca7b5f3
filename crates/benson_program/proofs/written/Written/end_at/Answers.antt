use Rattle.std.proofs.Common.{◌∙◌, map}
use Rattle.tableaux.specs.Table.{System}
use Rattle.exact_simplex.specs.Keeping.{IsCosted}
use Rattle.lp_form.specs.Programs.{benson_system}
use Rattle.benson_program.proofs.Renewed.{benson_costed}
use Rattle.benson_program.proofs.written.Written.end_at.Goals as goal
use Rattle.benson_program.proofs.written.Written.end_at.Goals.{in-Ok, in-Err}

pub solve_lp_with_cost-requires : goal.solve_lp_with_cost-requires
solve_lp_with_cost-requires g c =
    let value = g.F.Field.value in
    let file = c.requires.stands.0 in
    let stands = c.requires.stands.1 in (
      benson_system file (map value c.args.c.now) (map value c.args.v.now) c.args.t,
      benson_costed g.F.Field.value file c.args.form.now c.self.inside.form c.args.c.now c.self.inside.c c.args.v.now c.args.t c.in_ok-cost.cost c.self.inside.program c.self.invariant
          (c.is_same_data.ensures c.if-not-is_same_data.false) (c.is_same_vector.ensures c.if-not-is_same_vector.false ∙ c.as_slice.ensures.items) stands c.requires.v
          (c.in_ok-cost.ensures file (map g.F.Field.value c.args.c.now) stands),
    )

pub returns-clause-certified : goal.returns-clause-certified
returns-clause-certified g c = λ file stands.
    let value = g.F.Field.value in
    let s : System = benson_system file (map value c.args.c.now) (map value c.args.v.now) c.args.t in
    let costed : IsCosted value c.in_ok-cost.cost c.self.inside.program s =
    benson_costed g.F.Field.value file c.args.form.now c.self.inside.form c.args.c.now c.self.inside.c c.args.v.now c.args.t c.in_ok-cost.cost c.self.inside.program c.self.invariant
    (c.is_same_data.ensures c.if-not-is_same_data.false) (c.is_same_vector.ensures c.if-not-is_same_vector.false ∙ c.as_slice.ensures.items) stands c.requires.v
    (c.in_ok-cost.ensures file (map g.F.Field.value c.args.c.now) stands) in
    elim c.match-solve_lp_with_cost.branch [
      | in-Ok w ↦ rw w.result-is (w.in-Ok.ensures.certified s costed)
      | in-Err w ↦ rw w.result-is tt
    ]

pub returns-clause-read_off : goal.returns-clause-read_off
returns-clause-read_off g c = λ file stands.
    let value = g.F.Field.value in
    let s : System = benson_system file (map value c.args.c.now) (map value c.args.v.now) c.args.t in
    let costed : IsCosted value c.in_ok-cost.cost c.self.inside.program s =
    benson_costed g.F.Field.value file c.args.form.now c.self.inside.form c.args.c.now c.self.inside.c c.args.v.now c.args.t c.in_ok-cost.cost c.self.inside.program c.self.invariant
    (c.is_same_data.ensures c.if-not-is_same_data.false) (c.is_same_vector.ensures c.if-not-is_same_vector.false ∙ c.as_slice.ensures.items) stands c.requires.v
    (c.in_ok-cost.ensures file (map g.F.Field.value c.args.c.now) stands) in
    elim c.match-solve_lp_with_cost.branch [
      | in-Ok w ↦ rw w.result-is (w.in-Ok.ensures.read_off s costed)
      | in-Err w ↦ rw w.result-is tt
    ]

pub returns-clause-left : goal.returns-clause-left
returns-clause-left g c = λ file stands.
    let value = g.F.Field.value in
    let s : System = benson_system file (map value c.args.c.now) (map value c.args.v.now) c.args.t in
    let costed : IsCosted value c.in_ok-cost.cost c.self.inside.program s =
    benson_costed g.F.Field.value file c.args.form.now c.self.inside.form c.args.c.now c.self.inside.c c.args.v.now c.args.t c.in_ok-cost.cost c.self.inside.program c.self.invariant
    (c.is_same_data.ensures c.if-not-is_same_data.false) (c.is_same_vector.ensures c.if-not-is_same_vector.false ∙ c.as_slice.ensures.items) stands c.requires.v
    (c.in_ok-cost.ensures file (map g.F.Field.value c.args.c.now) stands) in
    elim c.match-solve_lp_with_cost.branch [
      | in-Ok w ↦ rw w.result-is tt
      | in-Err w ↦ rw w.result-is (w.in-Err.ensures.left s costed)
    ]
