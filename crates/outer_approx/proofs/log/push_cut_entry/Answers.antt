use Rattle.std.proofs.Common.{◌≡◌, [], ◌∷◌, ◌++◌, map, ap, ◌∙◌}
use Rattle.deriv_log.specs.declared.entry.Entry.{Entry as EntryOf}
use Rattle.deriv_log.specs.declared.entry.Entry.TheVariants as entry_of
use Rattle.overflows.proofs.Formed.{sparse_written, vector_written}
use Rattle.overflows.proofs.Sparse.{on_ok}
use Rattle.outer_approx.specs.Cuts.{SaysCut}
use Rattle.outer_approx.proofs.Pushed.{cut_written, says_cut, sparse_of}
use Rattle.outer_approx.proofs.log.push_cut_entry.Goals as goal

pub returns-clause-ok : goal.returns-clause-ok
returns-clause-ok g c =
    let value = g.F.Field.value in
    let cut = c.args.cut.now in
    let w = c.in_ok-w.w in
    let u = c.in_ok-u.u in
    let v = c.in_ok-v.v in
    let gamma = c.frac_of-gamma.result in
    let e : EntryOf = entry_of.Cut w gamma u v in
    let says : SaysCut value cut e = says_cut value cut w gamma u v (c.in_ok-w.ensures.same ∙ ap (map value) c.as_slice.ensures.items) c.frac_of-gamma.ensures
    (sparse_of value cut.u c.as_slice-2.result.now u c.as_slice-2.ensures.items c.in_ok-u.ensures.vector c.in_ok-u.ensures.numbers)
    (sparse_of value cut.v c.as_slice-3.result.now v c.as_slice-3.ensures.items c.in_ok-v.ensures.vector c.in_ok-v.ensures.numbers)
    (cut_written w gamma u v
    (vector_written w c.as_slice-4.result.now c.as_slice-4.ensures.items c.as_slice-4.ensures.bound c.fractions_are_written.ensures)
    c.num-num.ensures.held
    (sparse_written u c.as_slice-5.result.now c.as_slice-5.ensures.items c.as_slice-5.ensures.bound c.spots_are_written.ensures c.in_ok-u.ensures.vector.sparse)
    (sparse_written v c.as_slice-6.result.now c.as_slice-6.ensures.items c.as_slice-6.ensures.bound c.spots_are_written-2.ensures c.in_ok-v.ensures.vector.sparse)) in
    on_ok c.push.result (c.push.new.self ≡ c.args.entries.now ++ e ∷ []) ((x : EntryOf) × SaysCut value cut x × (c.push.new.self ≡ c.args.entries.now ++ x ∷ []))
    (λ same. (e, says, same)) c.push.ensures.ok
