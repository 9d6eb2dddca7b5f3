use Rattle.std.proofs.Common.{◌≡◌, ◌∙◌, ◌++◌, ◌∷◌, [], codes, decimal, length, ap}
use Rattle.log_rules.specs.Report.{facet_line, section}
use Rattle.sol_writer.specs.Lines.{lines_text}
use Rattle.sol_writer.proofs.Written.{first_line, then_lines, then_each}
use Rattle.weighing.specs.Sets.{weight_sets}
use Rattle.weighing.specs.Text.{sets_lines, sets_of}
use Rattle.weighing.proofs.Numbers.{as_many_sets}
use Rattle.weighing.proofs.text.put_image.Goals as goal

pub put_sets-requires : goal.put_sets-requires
put_sets-requires c = ap length (c.as_slice.ensures.items ∙ c.in_ok-sets.ensures) ∙ as_many_sets c.in_ok-lists.lists (length c.args.points.now)

pub returns : goal.returns
returns c =
    let points = c.args.points.now in
    let facets = c.args.facets.now in
    let sets_are : c.as_slice.result.now ≡ sets_of points facets =
    c.as_slice.ensures.items ∙ c.in_ok-sets.ensures ∙ ap (λ lists. weight_sets lists (length points)) c.in_ok-lists.ensures in
    (then_lines (section (codes "facets") facet_line facets)
    (then_lines (sets_lines points (sets_of points facets)) (first_line (codes "points" ∷ decimal (length points) ∷ []) c.in_ok-put_counted.ensures)
    (c.in_ok-put_sets.ensures ∙ ap (λ sets. c.put_counted.new.into ++ lines_text (sets_lines points sets)) sets_are))
    (then_each facet_line facets (first_line (codes "facets" ∷ decimal (length facets) ∷ []) c.in_ok-put_counted-2.ensures) c.in_ok-put_facet_lines.ensures).text).text
