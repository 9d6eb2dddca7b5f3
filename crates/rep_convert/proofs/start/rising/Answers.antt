use Rattle.std.proofs.Common.{◌≢◌, ◌<◌, ℕ, List, AllPairs, sym, subst}
use Rattle.std.specs.List.Sorted.{IsPermutation}
use Rattle.rep_convert.proofs.Ordered.{once_permuted, rises_sorted}
use Rattle.rep_convert.proofs.start.rising.Goals as goal

pub returns-clause-rise : goal.returns-clause-rise
returns-clause-rise c =
    let old = c.into_vec-list.result.items in
    let new = c.sort_unstable.new.self.items in
    let once = subst (AllPairs (λ (j k : ℕ). j ≢ k)) (sym c.into_vec-list.ensures.items) c.requires in
    subst (AllPairs (λ (j k : ℕ). j < k)) (sym c.from_vec.ensures)
    (rises_sorted new c.sort_unstable.ensures.sorted (once_permuted old new c.sort_unstable.ensures.permutation once))

pub returns-clause-same : goal.returns-clause-same
returns-clause-same c =
    subst (λ (xs : List ℕ). IsPermutation xs c.from_vec.result) c.into_vec-list.ensures.items
    (subst (IsPermutation c.into_vec-list.result.items) (sym c.from_vec.ensures) c.sort_unstable.ensures.permutation)
