use Rattle.std.proofs.Common.{rules, ◌≡◌, List, [], ◌∷◌, ◌++◌, Bool, sym, subst}
use Rattle.std.proofs.lemmas.Bool.{lt-ltb}
use Rattle.deriv_log.specs.declared.entry.Entry.{Entry as EntryOf}
use Rattle.deriv_log.specs.declared.entry.Entry.TheVariants as entry_of
use Rattle.overflows.proofs.Formed.{sparse_written}
use Rattle.overflows.proofs.Sparse.{on_ok}
use Rattle.outer_approx.specs.Preimages.{IsReached}
use Rattle.outer_approx.specs.Standing.{HasPreimageMore, IsOpenTrail}
use Rattle.outer_approx.proofs.Pushed.{point_more, point_open, ray_more, ray_open, sparse_of}
use Rattle.outer_approx.proofs.log.push_preimage.Goals as goal

pub returns-then-t-clause-trail : goal.returns-then-t-clause-trail
returns-then-t-clause-trail g c =
    let value = g.F.Field.value in
    let parts = c.args.parts.now in
    let k = c.args.g in
    let x = c.in_ok-x.x in
    let m = c.in_ok-m.m in
    let old = c.args.trail.now in
    let new = c.push.new.self in
    on_ok c.push.result (new ≡ old ++ entry_of.Point k x m ∷ []) (IsOpenTrail g.task new)
    (λ h. subst (λ (es : List EntryOf). IsOpenTrail g.task es) (sym h)
    (point_open value g.task old k parts c.requires.1.0 c.requires.1.1.0 x m
    (sparse_of value parts.x c.as_slice.result.now x c.as_slice.ensures.items c.in_ok-x.ensures.vector c.in_ok-x.ensures.numbers)
    (sparse_of value parts.m c.as_slice-2.result.now m c.as_slice-2.ensures.items c.in_ok-m.ensures.vector c.in_ok-m.ensures.numbers)
    (lt-ltb k 4294967296 (search rules))
    (sparse_written x c.as_slice-3.result.now c.as_slice-3.ensures.items c.as_slice-3.ensures.bound c.spots_are_written.ensures c.in_ok-x.ensures.vector.sparse)
    (sparse_written m c.as_slice-4.result.now c.as_slice-4.ensures.items c.as_slice-4.ensures.bound c.spots_are_written-2.ensures c.in_ok-m.ensures.vector.sparse)
    (subst (λ (t : Bool). IsReached value g.task old k t parts) c.if-t.true c.requires.1.1.1)))
    c.push.ensures.ok

pub returns-then-t-clause-more : goal.returns-then-t-clause-more
returns-then-t-clause-more g c =
    let k = c.args.g in
    let x = c.in_ok-x.x in
    let m = c.in_ok-m.m in
    let old = c.args.trail.now in
    let new = c.push.new.self in
    on_ok c.push.result (new ≡ old ++ entry_of.Point k x m ∷ []) (HasPreimageMore g.task k old new)
    (λ h. subst (λ (es : List EntryOf). HasPreimageMore g.task k old es) (sym h) (point_more g.task old k x m c.requires.1.1.1.fresh))
    c.push.ensures.ok

pub returns-else-t-clause-trail : goal.returns-else-t-clause-trail
returns-else-t-clause-trail g c =
    let value = g.F.Field.value in
    let parts = c.args.parts.now in
    let k = c.args.g in
    let x = c.in_ok-x.x in
    let m = c.in_ok-m.m in
    let old = c.args.trail.now in
    let new = c.push-else-t.new.self in
    on_ok c.push-else-t.result (new ≡ old ++ entry_of.Ray k x m ∷ []) (IsOpenTrail g.task new)
    (λ h. subst (λ (es : List EntryOf). IsOpenTrail g.task es) (sym h)
    (ray_open value g.task old k parts c.requires.1.0 c.requires.1.1.0 x m
    (sparse_of value parts.x c.as_slice.result.now x c.as_slice.ensures.items c.in_ok-x.ensures.vector c.in_ok-x.ensures.numbers)
    (sparse_of value parts.m c.as_slice-2.result.now m c.as_slice-2.ensures.items c.in_ok-m.ensures.vector c.in_ok-m.ensures.numbers)
    (lt-ltb k 4294967296 (search rules))
    (sparse_written x c.as_slice-3.result.now c.as_slice-3.ensures.items c.as_slice-3.ensures.bound c.spots_are_written.ensures c.in_ok-x.ensures.vector.sparse)
    (sparse_written m c.as_slice-4.result.now c.as_slice-4.ensures.items c.as_slice-4.ensures.bound c.spots_are_written-2.ensures c.in_ok-m.ensures.vector.sparse)
    (subst (λ (t : Bool). IsReached value g.task old k t parts) c.if-t.false c.requires.1.1.1)))
    c.push-else-t.ensures.ok

pub returns-else-t-clause-more : goal.returns-else-t-clause-more
returns-else-t-clause-more g c =
    let k = c.args.g in
    let x = c.in_ok-x.x in
    let m = c.in_ok-m.m in
    let old = c.args.trail.now in
    let new = c.push-else-t.new.self in
    on_ok c.push-else-t.result (new ≡ old ++ entry_of.Ray k x m ∷ []) (HasPreimageMore g.task k old new)
    (λ h. subst (λ (es : List EntryOf). HasPreimageMore g.task k old es) (sym h) (ray_more g.task old k x m c.requires.1.1.1.fresh))
    c.push-else-t.ensures.ok
