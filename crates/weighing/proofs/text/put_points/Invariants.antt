use Rattle.std.proofs.Common.{◌≡◌, ◌++◌, drop, codes}
use Rattle.std.specs.List.{flat_map}
use Rattle.src_sink.specs.Texts.{line_text}
use Rattle.log_rules.specs.Report.{vector_line}
use Rattle.weighing.specs.Weighing.{point_at}
use Rattle.weighing.proofs.text.put_points.Given as goal

-- what is appended so far and what is left make the whole
abbrev pub invariant-loop-number : goal.invariant-loop-number
invariant-loop-number l =
    l.into ++ flat_map (λ k. line_text (vector_line (codes "1") (point_at l.points k))) (drop l.number-index l.numbers)
    ≡ l.initial.into ++ flat_map (λ k. line_text (vector_line (codes "1") (point_at l.points k))) l.numbers
