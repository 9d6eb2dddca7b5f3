use Rattle.std.proofs.Common.{refl, ◌∙◌, ap, List, Option, get_or, None}
use Rattle.vlp_problem.specs.declared.problem.Bound.{Bound}
use Rattle.vlp_reader.proofs.Drafts.{has_begun, by_matrix, by_axis, nothing_at}
use Rattle.vlp_reader.proofs.draft.Draft.new.Goals as goal

pub returns-clause-has : goal.returns-clause-has
returns-clause-has c = has_begun _ c.args.sizes refl
    (by_matrix _ c.new.ensures.given c.new-2.ensures.given c.new-3.ensures.given c.new-4.ensures.given)
    (by_matrix _ c.new.ensures.count c.new-2.ensures.count c.new-3.ensures.count c.new-4.ensures.count)
    (by_axis _
    (λ k. ap (λ (l : List (Option Bound)). get_or l k None) c.in_ok-no_bounds.ensures ∙ nothing_at c.args.sizes.rows k)
    (λ k. ap (λ (l : List (Option Bound)). get_or l k None) c.in_ok-no_bounds-2.ensures ∙ nothing_at c.args.sizes.cols k))
