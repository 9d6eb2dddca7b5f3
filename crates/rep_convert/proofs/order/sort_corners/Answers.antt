use Rattle.std.proofs.lemmas.List.Sorted.{IsPermutation-trans}
use Rattle.rep_convert.proofs.order.sort_corners.Goals as goal

pub returns : goal.returns
returns c =
    IsPermutation-trans c.args.order.now.items c.sort_by_cached_key.new.self.items c.sort_by_cached_key-2.new.self.items
    c.in_ok-sort_by_cached_key.ensures.permutation c.in_ok-sort_by_cached_key-2.ensures.permutation
