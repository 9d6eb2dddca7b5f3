use Rattle.std.proofs.Common.{◌∷◌, [], decimal, codes}
use Rattle.sol_writer.proofs.Written.{first_line, then_line}
use Rattle.replies.proofs.lines.lines_of_counts.Goals as goal

pub returns : goal.returns
returns c = (then_line (codes "facets" ∷ decimal c.args.facets ∷ [])
    (then_line (codes "directions" ∷ decimal c.args.directions ∷ [])
    (then_line (codes "points" ∷ decimal c.args.points ∷ [])
    (then_line (codes "answer" ∷ codes "solved" ∷ [])
    (first_line {old = []} (codes "sample" ∷ decimal c.args.number ∷ []) (rw c.new-text.ensures at c.in_ok-put_counted.ensures)) c.in_ok-append.ensures.ok)
    c.in_ok-put_counted-2.ensures) c.in_ok-put_counted-3.ensures) c.in_ok-put_counted-4.ensures).text
