use Rattle.std.proofs.Common.{rules, ◌≡◌, ◌≢◌, List, sym, subst, AllPairs}
use Rattle.std.specs.List.Sorted.{IsSortedBy}
use Rattle.std.specs.Ordering.{is_lt}
use Rattle.std.proofs.lemmas.Fn.{always_returns_same}
use Rattle.std.proofs.lemmas.List.Sorted.{ranks_by}
use Rattle.exact_field.specs.Rational.{ℚ}
use Rattle.log_rules.specs.Proves.{IsSorting}
use Rattle.log_answer.proofs.RisingSorts.{sorting_of}
use Rattle.log_answer.proofs.VectorOrder.{compared, compared_total}
use Rattle.rep_conv.proofs.giving.sort_vectors.Goals as goal

pub returns : goal.returns
returns c h =
    let old = c.into_vec-list.result.items in
    let new = c.sort_unstable_by.new.self.items in
    let sorted : IsSortedBy (λ (a b : List ℚ). is_lt (compared a b)) new =
    c.sort_unstable_by.ensures.sorted (λ a b. is_lt (compared a b)) (ranks_by compared_total (λ (v : List ℚ). v))
    (always_returns_same _ (λ a r. is_lt r ≡ is_lt (compared a.0.now a.1.0.now)) _ (λ a r q k. (search rules, search rules))) in
    subst (λ (xs : List (List ℚ)). IsSorting (λ (v : List ℚ). v) xs c.from_vec.result) c.into_vec-list.ensures.items
    (subst (λ (xs : List (List ℚ)). IsSorting (λ (v : List ℚ). v) old xs) (sym c.from_vec.ensures)
    (sorting_of (λ (v : List ℚ). v) old new c.sort_unstable_by.ensures.permutation sorted
    (subst (λ (xs : List (List ℚ)). AllPairs (λ a b. a ≢ b) xs) (sym c.into_vec-list.ensures.items) h)))
