use Rattle.std.proofs.Common.{◌≡◌, ◌<◌, ◌&&◌, Some, length, ap, ap₂, ◌∙◌, subst, arith}
use Rattle.incid_sets.specs.Marks.{has, IsNextFrom}
use Rattle.double_descr.specs.ByRow.{set_of}
use Rattle.double_descr.proofs.ByRow.{set_read}
use Rattle.double_descr.proofs.by_row.keep_common.Goals as goal

pub loop-r-preserved : goal.loop-r-preserved
loop-r-preserved c =
    let sets = c.args.sets.now in
    let r = c.in-Some.r in
    let found : IsNextFrom c.args.common.now c.loop-r.from (Some r) = subst (λ o. IsNextFrom c.args.common.now c.loop-r.from o) c.in-Some.is c.next_from.ensures in
    let inside : r < length sets = omega (arith, found.1, c.requires.inside) in
    let is : c.index-sets-r.result ≡ set_of sets r = set_read sets r c.index-sets-r.result inside c.index-sets-r.is in
    record {
      bound = c.keep.ensures.bound ∙ c.loop-r.invariant.bound;
      kept = λ place tight holds within had.
          c.keep.ensures.common place ∙ ap₂ (λ x y. x && y) (c.loop-r.invariant.kept place tight holds within had)
          (ap (λ s. has s place) is ∙ holds r found.2 (within r found.2));
    }
