use Rattle.std.proofs.Common.{rules, ◌≡◌, ◌+◌, ◌*◌, List, [], Contains, arith, length, slice_index_or, subst, sym}
use Rattle.polyhedra.specs.LiveList.{live_pairs}
use Rattle.rep_conv.specs.Events.{pair_of}
use Rattle.entry_checks.proofs.Going.{Passed, Stopped, at-end, at-more, at-start, at-stop, stopped-after, stopped-in}
use Rattle.std.proofs.lemmas.List.{get_or_default}
use Rattle.log_live.specs.Adding.{AreNew}
use Rattle.log_live.specs.Live.{live_of}
use Rattle.log_live.specs.declared.generator.Generator.{Generator}
use Rattle.rep_conv.proofs.Between.{few_of_pair}
use Rattle.log_live.proofs.LivePairs.{all_made, made_more, none_made, pair_at}
use Rattle.rep_conv.proofs.adding.new_generators.Goals as goal

pub returns-in_err-number : goal.returns-in_err-number
returns-in_err-number c width rows row a at_row e =
    let f = pair_of row (live_of c.args.generators.now) in
    let P = pair_at rows (live_of c.args.generators.now) row c.args.pairs.now c.loop-i.i e (omega arith) in
    let x = slice_index_or c.args.pairs.now c.loop-i.i record { plus = 0; minus = 0 } in
    let own : x ≡ slice_index_or c.args.pairs.now c.loop-i.i x = get_or_default c.args.pairs.now c.loop-i.i record { plus = 0; minus = 0 } x (omega arith) in
    let listed : Contains (live_pairs rows (live_of c.args.generators.now) row) P.named = (c.loop-i.i, P.inside, P.at P.named) in
    let here = c.loop-i.invariant.here width rows row a at_row e in
    let none : Stopped [] c.loop-i.counter.taken c.in_err-number.field-0.0 = record { at = c.in_err-number.ensures.runs c.loop-i.counter.taken } in
    let stopped = at-stop f c.args.pairs.now c.args.counter.now.taken c.loop-i.i c.loop-i.counter.taken x c.in_err-number.field-0.0 (omega arith) own here (stopped-in (f x) none).at in
    search (stopped, rules)

pub new_generator-requires-clause-pair : goal.new_generator-requires-clause-pair
new_generator-requires-clause-pair c =
    let P = pair_at c.requires.pairs.1 (live_of c.args.generators.now) c.requires.pairs.2 c.args.pairs.now c.loop-i.i c.requires.pairs.5 (omega arith) in
    (c.requires.pairs.0, c.requires.pairs.1, c.requires.pairs.2, P.named, c.requires.pairs.3, c.requires.pairs.4, (c.loop-i.i, P.inside, P.at P.named), P.is _)

pub new_generator-requires-clause-room : goal.new_generator-requires-clause-room
new_generator-requires-clause-room c =
    let few = c.in_ok-number.ensures.few in
    let room = c.requires.room in
    let taken = c.loop-i.invariant.room in
    omega (arith, few, room, taken)

pub returns-in_err-generator : goal.returns-in_err-generator
returns-in_err-generator c width rows row a at_row e =
    let f = pair_of row (live_of c.args.generators.now) in
    let P = pair_at rows (live_of c.args.generators.now) row c.args.pairs.now c.loop-i.i e (omega arith) in
    let x = slice_index_or c.args.pairs.now c.loop-i.i record { plus = 0; minus = 0 } in
    let own : x ≡ slice_index_or c.args.pairs.now c.loop-i.i x = get_or_default c.args.pairs.now c.loop-i.i record { plus = 0; minus = 0 } x (omega arith) in
    let listed : Contains (live_pairs rows (live_of c.args.generators.now) row) P.named = (c.loop-i.i, P.inside, P.at P.named) in
    let here = c.loop-i.invariant.here width rows row a at_row e in
    let stopped = at-stop f c.args.pairs.now c.args.counter.now.taken c.loop-i.i c.loop-i.counter.taken x c.in_err-generator.field-0.0 (omega arith) own here
    (c.in_err-generator.ensures width rows row P.named a at_row listed (P.is _)) in
    search (stopped, rules)

pub returns-in_err-append : goal.returns-in_err-append
returns-in_err-append c width rows row a at_row e =
    let f = pair_of row (live_of c.args.generators.now) in
    let P = pair_at rows (live_of c.args.generators.now) row c.args.pairs.now c.loop-i.i e (omega arith) in
    let x = slice_index_or c.args.pairs.now c.loop-i.i record { plus = 0; minus = 0 } in
    let own : x ≡ slice_index_or c.args.pairs.now c.loop-i.i x = get_or_default c.args.pairs.now c.loop-i.i record { plus = 0; minus = 0 } x (omega arith) in
    let listed : Contains (live_pairs rows (live_of c.args.generators.now) row) P.named = (c.loop-i.i, P.inside, P.at P.named) in
    let here = c.loop-i.invariant.here width rows row a at_row e in
    let ran = c.in_ok-generator.ensures width rows row P.named a at_row listed (P.is _) in
    let came : Passed (f x) c.loop-i.counter.taken c.new_generator.new.counter.taken = record { none = ran.0; count = ran.1 } in
    let none : Stopped [] c.new_generator.new.counter.taken c.in_err-append.field-0.0 = record { at = c.in_err-append.ensures c.new_generator.new.counter.taken } in
    let stopped = at-stop f c.args.pairs.now c.args.counter.now.taken c.loop-i.i c.loop-i.counter.taken x c.in_err-append.field-0.0 (omega arith) own here (stopped-after came none).at in
    search (stopped, rules)

pub loop-i-init : goal.loop-i-init
loop-i-init c = record {
  room = omega arith;
  here = λ width rows row a at_row e. at-start (pair_of row (live_of c.args.generators.now)) c.args.pairs.now c.args.counter.now.taken;
  made = λ width rows row a at_row e. none_made rows row (live_pairs rows (live_of c.args.generators.now) row) c.args.next c.new-made.result c.new-made.ensures;
}

pub loop-i-preserved : goal.loop-i-preserved
loop-i-preserved c =
    record {
      room =
          let P = pair_at c.requires.pairs.1 (live_of c.args.generators.now) c.requires.pairs.2 c.args.pairs.now c.loop-i.i c.requires.pairs.5 (omega arith) in
          let ran = c.in_ok-generator.ensures c.requires.pairs.0 c.requires.pairs.1 c.requires.pairs.2 P.named c.requires.pairs.3 c.requires.pairs.4 (c.loop-i.i, P.inside, P.at P.named) (P.is _) in
          let count = ran.1 in
          let few = few_of_pair c.requires.pairs.0 c.requires.pairs.1 c.requires.pairs.2 c.args.generators.now c.args.values.now c.requires.pairs.3 c.requires.pairs.4 P.named (c.loop-i.i, P.inside, P.at P.named) _ (P.is record { plus = 0; minus = 0 }) in
          let taken = c.loop-i.invariant.room in
          let split : (c.loop-i.i + 1) * 400000 ≡ c.loop-i.i * 400000 + 400000 = omega arith in
          omega (arith, count, few, taken, split);
      here = λ width rows row a at_row e.
          let f = pair_of row (live_of c.args.generators.now) in
          let P = pair_at rows (live_of c.args.generators.now) row c.args.pairs.now c.loop-i.i e (omega arith) in
          let x = slice_index_or c.args.pairs.now c.loop-i.i record { plus = 0; minus = 0 } in
          let own : x ≡ slice_index_or c.args.pairs.now c.loop-i.i x = get_or_default c.args.pairs.now c.loop-i.i record { plus = 0; minus = 0 } x (omega arith) in
          let listed : Contains (live_pairs rows (live_of c.args.generators.now) row) P.named = (c.loop-i.i, P.inside, P.at P.named) in
          let here = c.loop-i.invariant.here width rows row a at_row e in
          let ran = c.in_ok-generator.ensures width rows row P.named a at_row listed (P.is _) in
          at-more f c.args.pairs.now c.args.counter.now.taken c.loop-i.i c.loop-i.counter.taken c.new_generator.new.counter.taken x (omega arith) own here record { none = ran.0; count = ran.1 };
      made = λ width rows row a at_row e.
          let f = pair_of row (live_of c.args.generators.now) in
          let P = pair_at rows (live_of c.args.generators.now) row c.args.pairs.now c.loop-i.i e (omega arith) in
          let x = slice_index_or c.args.pairs.now c.loop-i.i record { plus = 0; minus = 0 } in
          let own : x ≡ slice_index_or c.args.pairs.now c.loop-i.i x = get_or_default c.args.pairs.now c.loop-i.i record { plus = 0; minus = 0 } x (omega arith) in
          let listed : Contains (live_pairs rows (live_of c.args.generators.now) row) P.named = (c.loop-i.i, P.inside, P.at P.named) in
          let here = c.loop-i.invariant.here width rows row a at_row e in
          let ran = c.in_ok-generator.ensures width rows row P.named a at_row listed (P.is _) in
          made_more rows row (live_pairs rows (live_of c.args.generators.now) row) c.args.next c.loop-i.i c.in_ok-number.number c.loop-i.made c.append.new.list P.named c.in_ok-generator.generator
          P.inside P.at (c.in_ok-number.ensures.runs 0).2 (c.loop-i.invariant.made width rows row a at_row e) ran.2 (c.in_ok-append.ensures 0).2;
    }

pub returns : goal.returns
returns c width rows row a at_row e =
    let over : c.loop-i.i ≡ length c.args.pairs.now = omega arith in
    let done = at-end (pair_of row (live_of c.args.generators.now)) c.args.pairs.now c.args.counter.now.taken c.loop-i.i c.loop-i.counter.taken over (c.loop-i.invariant.here width rows row a at_row e) in
    let are : AreNew rows row (live_of c.args.generators.now) c.args.next c.loop-i.made =
    all_made rows (live_of c.args.generators.now) row c.args.pairs.now c.args.next c.loop-i.i c.loop-i.made e over (c.loop-i.invariant.made width rows row a at_row e) in
    (done.none, done.count, subst (λ (gs : List Generator). AreNew rows row (live_of c.args.generators.now) c.args.next gs) (sym c.into_vec.ensures.items) are)
