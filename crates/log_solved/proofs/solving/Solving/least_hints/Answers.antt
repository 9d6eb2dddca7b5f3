use Rattle.std.proofs.Common.{arith}
use Rattle.log_rules.specs.Live.{state}
use Rattle.log_solved.proofs.Adding.{passes_at, usable_at}
use Rattle.log_solved.proofs.solving.Solving.least_hints.Goals as goal

pub overflow_sub-cut : goal.overflow_sub-cut
overflow_sub-cut c =
    let r = c.requires in
    let can = usable_at r.0 r.1 c.args.self.now c.args.cut c.args.pairs.now r.2 in
    can.low

pub index-row-requires : goal.index-row-requires
index-row-requires c =
    let r = c.requires in
    let can = usable_at r.0 r.1 c.args.self.now c.args.cut c.args.pairs.now r.2 in
    let low = can.low in
    let high = can.high in
    omega (arith, low, high)

pub least_hints-requires : goal.least_hints-requires
least_hints-requires c =
    let r = c.requires in (
      r.0,
      state r.0.objs r.1,
      c.args.cut,
      passes_at r.0 r.1 c.args.self.now c.args.cut c.args.pairs.now r.2 c.index-row.result.now
          c.as_slice.result.now c.index-row.ensures c.as_slice.ensures.items,
    )

pub returns : goal.returns
returns c file before h =
    c.least_hints.ensures file (state file.objs before) c.args.cut
    (passes_at file before c.args.self.now c.args.cut c.args.pairs.now h c.index-row.result.now
    c.as_slice.result.now c.index-row.ensures c.as_slice.ensures.items)
