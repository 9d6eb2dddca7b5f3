use Rattle.std.proofs.Common.{rules, ◌≡◌, ℕ, suc, ◌+◌, ◌-◌, ◌*◌, ◌<◌, List, length, slice_index_or, take, drop, sym, ap, ◌∙◌, subst, arith}
use Rattle.std.specs.List.{enumerate_from}
use Rattle.exact_field.specs.Rational.{ℚ}
use Rattle.frac128.specs.Held.{is_held}
use Rattle.upper_image.specs.Spots.{pieces}
use Rattle.log_rules.specs.Events.{Event}
use Rattle.log_rules.specs.Runs.{Stops, steps}
use Rattle.entry_checks.proofs.Going.{Passed, at-room, at-stop, at-more, at-end}
use Rattle.entry_checks.proofs.RisingNumbers.{numbered-next, length-numbered, length-pieces, pieces-at}
use Rattle.rep_conv.specs.Events.{generator_events}
use Rattle.rep_conv.proofs.start.check_generators.Goals as goal

piece : (w j : ℕ) (gens : List ℚ) → take (j * (w + 1) + (w + 1) - j * (w + 1)) (drop (j * (w + 1)) gens) ≡ take (suc w) (drop (j * suc w) gens)
piece w j gens = ap (λ (n : ℕ). take (j * n + n - j * n) (drop (j * n) gens)) (one w) ∙ ap (λ (k : ℕ). take k (drop (j * suc w) gens)) (long j (suc w))
  where
    one : (n : ℕ) → n + 1 ≡ suc n
    one n = omega arith

    long : (i n : ℕ) → i * n + n - i * n ≡ n
    long i n = omega arith

next : (n w j : ℕ) (gens : List ℚ) → j < n → (j + 1, take (suc w) (drop (j * suc w) gens)) ≡ slice_index_or (enumerate_from 1 (pieces n (suc w) gens)) j (j + 1, take (suc w) (drop (j * suc w) gens))
next n w j gens l =
    let many = length-pieces n (suc w) gens in
    numbered-next (pieces n (suc w) gens) j (take (suc w) (drop (j * suc w) gens)) (omega (arith, l, many)) (sym (pieces-at n (suc w) j gens (take (suc w) (drop (j * suc w) gens)) l))

pub check_generator-requires-clause-room : goal.check_generator-requires-clause-room
check_generator-requires-clause-room c =
    let w = c.args.rep.now.width in
    let long = length-numbered 1 (pieces (length c.args.named.now) (suc w) c.args.gens.now) in
    let many = length-pieces (length c.args.named.now) (suc w) c.args.gens.now in
    let most = at-room (generator_events c.args.rep.now c.args.lines.now c.args.named.now) (enumerate_from 1 (pieces (length c.args.named.now) (suc w) c.args.gens.now)) c.args.counter.now.taken c.loop-j.j c.loop-j.counter.taken
    (c.loop-j.j + 1, take (suc w) (drop (c.loop-j.j * suc w) c.args.gens.now)) (omega (arith, long, many)) (next (length c.args.named.now) w c.loop-j.j c.args.gens.now (omega arith)) c.loop-j.invariant in
    let same = ap steps (ap (λ (v : List ℚ). generator_events c.args.rep.now c.args.lines.now c.args.named.now (c.loop-j.j + 1, v)) (piece w c.loop-j.j c.args.gens.now)) in
    let room = c.requires.room in
    omega (arith, most, same, room)

pub returns-in_err-check_generator : goal.returns-in_err-check_generator
returns-in_err-check_generator c =
    let w = c.args.rep.now.width in
    let long = length-numbered 1 (pieces (length c.args.named.now) (suc w) c.args.gens.now) in
    let many = length-pieces (length c.args.named.now) (suc w) c.args.gens.now in
    let stopped = at-stop (generator_events c.args.rep.now c.args.lines.now c.args.named.now) (enumerate_from 1 (pieces (length c.args.named.now) (suc w) c.args.gens.now)) c.args.counter.now.taken c.loop-j.j c.loop-j.counter.taken
    (c.loop-j.j + 1, take (suc w) (drop (c.loop-j.j * suc w) c.args.gens.now)) c.in_err-check_generator.field-0.0 (omega (arith, long, many)) (next (length c.args.named.now) w c.loop-j.j c.args.gens.now (omega arith)) c.loop-j.invariant
    (subst (λ (es : List Event). Stops is_held es c.loop-j.counter.taken c.in_err-check_generator.field-0.0)
    (ap (λ (v : List ℚ). generator_events c.args.rep.now c.args.lines.now c.args.named.now (c.loop-j.j + 1, v)) (piece w c.loop-j.j c.args.gens.now)) c.in_err-check_generator.ensures) in
    search (stopped, rules)

pub loop-j-preserved : goal.loop-j-preserved
loop-j-preserved c =
    let w = c.args.rep.now.width in
    let long = length-numbered 1 (pieces (length c.args.named.now) (suc w) c.args.gens.now) in
    let many = length-pieces (length c.args.named.now) (suc w) c.args.gens.now in
    at-more (generator_events c.args.rep.now c.args.lines.now c.args.named.now) (enumerate_from 1 (pieces (length c.args.named.now) (suc w) c.args.gens.now)) c.args.counter.now.taken c.loop-j.j c.loop-j.counter.taken c.check_generator.new.counter.taken
    (c.loop-j.j + 1, take (suc w) (drop (c.loop-j.j * suc w) c.args.gens.now)) (omega (arith, long, many)) (next (length c.args.named.now) w c.loop-j.j c.args.gens.now (omega arith)) c.loop-j.invariant
    (subst (λ (es : List Event). Passed es c.loop-j.counter.taken c.check_generator.new.counter.taken)
    (ap (λ (v : List ℚ). generator_events c.args.rep.now c.args.lines.now c.args.named.now (c.loop-j.j + 1, v)) (piece w c.loop-j.j c.args.gens.now))
    record { none = c.in_ok-check_generator.ensures.0; count = c.in_ok-check_generator.ensures.1 })

pub returns : goal.returns
returns c =
    let w = c.args.rep.now.width in
    let long = length-numbered 1 (pieces (length c.args.named.now) (suc w) c.args.gens.now) in
    let many = length-pieces (length c.args.named.now) (suc w) c.args.gens.now in
    let done = at-end (generator_events c.args.rep.now c.args.lines.now c.args.named.now) (enumerate_from 1 (pieces (length c.args.named.now) (suc w) c.args.gens.now)) c.args.counter.now.taken c.loop-j.j c.loop-j.counter.taken (omega (arith, long, many)) c.loop-j.invariant in
    (done.none, done.count, tt)
