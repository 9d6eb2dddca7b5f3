use Rattle.std.proofs.Common.{◌<◌, ◌∙◌, sym, refl, map, length, below_more, arith}
use Rattle.exact_field.specs.Rational.{zero_ℚ}
use Rattle.polyhedra.specs.Sparse.{value_at}
use Rattle.upper_image.specs.Spots.{entry_of}
use Rattle.projection.proofs.Fronts.{same_entries, each_entry, not_true, at_is, not_same, is_same}
use Rattle.projection.proofs.levels.begins_with.Goals as goal

pub returns-then-ne : goal.returns-then-ne
returns-then-ne c =
    let f = value_at (map entry_of c.args.spots.now) in
    let within : c.loop-before.before < length c.args.vector.now = omega (arith, c.loop-before-test.true, c.requires) in (
      λ t. absurd (not_true t),
      λ e. absurd (not_same c.index-vector-before.result c.entry_at.result c.ne.result c.ne.ensures c.if-ne.true
          (sym (at_is c.args.vector.now c.loop-before.before c.index-vector-before.result zero_ℚ within c.index-vector-before.is)
          ∙ each_entry f c.args.vector.now c.args.k c.requires e c.loop-before.before c.loop-before-test.true ∙ sym c.entry_at.ensures)),
    )

pub loop-before-preserved : goal.loop-before-preserved
loop-before-preserved c =
    let within : c.loop-before.before < length c.args.vector.now = omega (arith, c.loop-before-test.true, c.requires) in
    below_more _ _ c.loop-before.invariant
    (at_is c.args.vector.now c.loop-before.before c.index-vector-before.result zero_ℚ within c.index-vector-before.is
    ∙ is_same c.index-vector-before.result c.entry_at.result c.ne.result c.ne.ensures c.if-ne.false ∙ c.entry_at.ensures)

pub returns : goal.returns
returns c = (
  λ t. same_entries (value_at (map entry_of c.args.spots.now)) c.args.vector.now c.args.k c.requires
      (λ i l. c.loop-before.invariant i (omega (arith, l, c.loop-before-test.false))),
  λ e. refl,
)
