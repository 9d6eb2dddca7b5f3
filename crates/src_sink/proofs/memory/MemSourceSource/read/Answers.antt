use Rattle.std.proofs.Common.{◌≡◌, ◌+◌, ◌-◌, ◌≤◌, ℕ, List, ◌++◌, length, take, drop, arith, sym, ◌∙◌}
use Rattle.std.proofs.lemmas.List.{take_at, take-append-drop, drop-drop, take_rest, length-take-le}
use Rattle.src_sink.proofs.memory.MemSourceSource.read.Goals as goal

-- a front that was copied, and what follows it, make up the list from there on
moved : (all slice piece old : List ℕ) (at n : ℕ) → slice ≡ all → n ≤ length old → length piece ≡ length (take n old)
    → piece ≡ take n (take (length slice - at) (drop at slice)) → drop at all ≡ take n (piece ++ drop n old) ++ drop (at + n) all
moved all slice piece old at n same fits full copied =
    let size : length piece ≡ n = full ∙ length-take-le n old fits in
    let front : piece ≡ take n (drop at all) = rw (take_rest slice at, same) at copied in
    rw (take_at piece (drop n old) n size, front, ← drop-drop n at all) (sym (take-append-drop n (drop at all)))

pub returns-clause-taken : goal.returns-clause-taken
returns-clause-taken c =
    rw (← c.self.view_is) (moved c.self.inside.contents c.as_slice-2.result.now c.copy_from_slice.new.self c.args.buf.now c.self.inside.taken c.min-count.result
    c.as_slice-2.ensures.items (omega arith) c.copy_from_slice.ensures.len c.copy_from_slice.ensures.after)
