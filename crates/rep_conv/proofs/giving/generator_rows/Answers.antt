use Rattle.std.proofs.Common.{◌≡◌, ◌++◌, Bool, if◌then◌else◌, [], map, take, length, sym, ap, ◌∙◌, subst, arith}
use Rattle.std.proofs.lemmas.Bool.{eq-eqb, ne_eqb}
use Rattle.exact_field.specs.Rational.{ℚ}
use Rattle.log_rules.specs.Proves.{IsSorting}
use Rattle.rep_conv.specs.Converted.{as_rows, at_height}
use Rattle.rep_text.specs.declared.rep.RepKind.TheVariants.{Line, Point, Direction}
use Rattle.rep_conv.proofs.GivenRows.{line_fronts, three_kinds}
use Rattle.rep_conv.proofs.giving.generator_rows.Goals as goal

pub returns-then-len-eq0 : goal.returns-then-len-eq0
returns-then-len-eq0 c width s h =
    let many = c.len.ensures.value in
    let none : length c.in_ok-points.points ≡ 0 = omega (arith, many) in
    record {
      points = c.in_ok-points.points;
      directions = c.in_ok-directions.directions;
      points_are = subst (λ (t : ℚ). IsSorting (λ v. v) (at_height width t s) c.in_ok-points.points) c.from.ensures (c.in_ok-points.ensures width s c.args.lines.now h);
      directions_are = subst (λ (t : ℚ). IsSorting (λ v. v) (at_height width t s) c.in_ok-directions.directions) c.from-2.ensures (c.in_ok-directions.ensures width s c.args.lines.now h);
      all = c.new-rows.ensures ∙ sym (ap (λ (b : Bool). if b then [] else as_rows Line (map (take width) s.lines) ++ (as_rows Point c.in_ok-points.points ++ as_rows Direction c.in_ok-directions.directions))
          (eq-eqb (length c.in_ok-points.points) 0 none));
    }

pub returns : goal.returns
returns c width s h =
    let many = c.len.ensures.value in
    record {
      points = c.in_ok-points.points;
      directions = c.in_ok-directions.directions;
      points_are = subst (λ (t : ℚ). IsSorting (λ v. v) (at_height width t s) c.in_ok-points.points) c.from.ensures (c.in_ok-points.ensures width s c.args.lines.now h);
      directions_are = subst (λ (t : ℚ). IsSorting (λ v. v) (at_height width t s) c.in_ok-directions.directions) c.from-2.ensures (c.in_ok-directions.ensures width s c.args.lines.now h);
      all = three_kinds c.new-rows.result c.push_as.new.rows c.push_as-2.new.rows c.push_as-3.new.rows c.as_slice.result.now c.as_slice-2.result.now c.as_slice-3.result.now
          (map (take width) s.lines) c.in_ok-points.points c.in_ok-directions.directions
          c.new-rows.ensures c.in_ok-push_as.ensures c.in_ok-push_as-2.ensures c.in_ok-push_as-3.ensures
          (c.as_slice.ensures.items ∙ c.in_ok-line_fronts.ensures ∙ line_fronts width s c.args.lines.now c.args.generators.now h) c.as_slice-2.ensures.items c.as_slice-3.ensures.items
          ∙ sym (ap (λ (b : Bool). if b then [] else as_rows Line (map (take width) s.lines) ++ (as_rows Point c.in_ok-points.points ++ as_rows Direction c.in_ok-directions.directions))
          (ne_eqb (length c.in_ok-points.points) 0 (λ e. omega (arith, many, e))));
    }
