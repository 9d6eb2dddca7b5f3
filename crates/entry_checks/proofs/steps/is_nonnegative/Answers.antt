use Rattle.std.proofs.Common.{rules, ◌≡◌, sym, ap, ◌∙◌, ℤ, pos, of_z, to_z}
use mir.Syntax.{w128}
use Rattle.std.specs.Prelude.{int_le}
use Rattle.exact_field.proofs.Inequalities.{nonnegative_num}
use Rattle.entry_checks.proofs.steps.is_nonnegative.Goals as goal

pub returns : goal.returns
returns c =
    let kept : to_z w128 (of_z w128 c.num.result) ≡ c.num.result = search rules in
    ap (λ (z : ℤ). int_le (pos 0) z) (kept ∙ c.num.ensures.part) ∙ sym (nonnegative_num c.args.a)
