use Rattle.std.proofs.Common.{◌≡◌, ℕ, ◌+◌, ◌<◌, List, length, Bool, refl, sym, ap, ◌∙◌, subst}
use Rattle.exact_field.specs.Rational.{ℚ}
use Rattle.double_descr.specs.Making.{Addition, IsAddition, IsTried}
use Rattle.double_descr.proofs.made.try_pair.Goals as goal
use Rattle.polyhedra.specs.DoubleDescription.{normed}
use Rattle.polyhedra.specs.LiveList.{is_uncovered_live}
use Rattle.lin_rows.proofs.Errors.{err_holds}
use Rattle.double_descr.specs.Steps.{between, values}
use Rattle.double_descr.specs.State.{AreTwoLive, live_of, pair_of}
use Rattle.double_descr.specs.Adding.{block_of}
use Rattle.double_descr.specs.declared.generator.Generator.{Generator}
use Rattle.double_descr.proofs.MadePairs.{bound_of, pair_fault, wide_of}

module _ {F : Type 0} (value : F → ℚ) (d : Addition) (gens : List (Generator F)) (p m : Generator F) (two : AreTwoLive value (length d.row) d.rows gens p m)
    (narrow : length d.row < 4294967296) where
  abbrev over : Addition
  over = record { rows = d.rows; row = d.row; first = two.next }

  ctx : IsAddition value over gens
  ctx = record { live = two.live; tight = two.tight; narrow = narrow }

  plus_wide : length p.vector.items ≡ length d.row
  plus_wide = wide_of value over gens ctx p two.plus_listed

  minus_wide : length m.vector.items ≡ length d.row
  minus_wide = wide_of value over gens ctx m two.minus_listed

  plus_bound : length p.tight ≡ length d.rows
  plus_bound = bound_of value over gens ctx p two.plus_listed

  minus_bound : length m.tight ≡ length d.rows
  minus_bound = bound_of value over gens ctx m two.minus_listed

pub set_meet-requires-clause-first : goal.set_meet-requires-clause-first
set_meet-requires-clause-first g c = c.requires.1.1.1.1.0
    ∙ sym (plus_bound g.F.Field.value g.addition c.args.generators.now c.args.plus.now c.args.minus.now c.requires.1.0 c.requires.1.1.0)

pub set_meet-requires-clause-second : goal.set_meet-requires-clause-second
set_meet-requires-clause-second g c = c.requires.1.1.1.1.0
    ∙ sym (minus_bound g.F.Field.value g.addition c.args.generators.now c.args.plus.now c.args.minus.now c.requires.1.0 c.requires.1.1.0)

pub make_between-requires-clause-same : goal.make_between-requires-clause-same
make_between-requires-clause-same g c = plus_wide g.F.Field.value g.addition c.args.generators.now c.args.plus.now c.args.minus.now c.requires.1.0 c.requires.1.1.0
    ∙ sym (minus_wide g.F.Field.value g.addition c.args.generators.now c.args.plus.now c.args.minus.now c.requires.1.0 c.requires.1.1.0)

pub make_between-requires-clause-narrow : goal.make_between-requires-clause-narrow
make_between-requires-clause-narrow g c = subst (λ (n : ℕ). n < 4294967296)
    (sym (plus_wide g.F.Field.value g.addition c.args.generators.now c.args.plus.now c.args.minus.now c.requires.1.0 c.requires.1.1.0)) c.requires.1.1.0

pub make_between-requires-clause-bounds : goal.make_between-requires-clause-bounds
make_between-requires-clause-bounds g c = plus_bound g.F.Field.value g.addition c.args.generators.now c.args.plus.now c.args.minus.now c.requires.1.0 c.requires.1.1.0
    ∙ sym (minus_bound g.F.Field.value g.addition c.args.generators.now c.args.plus.now c.args.minus.now c.requires.1.0 c.requires.1.1.0)

pub make_between-requires-clause-room : goal.make_between-requires-clause-room
make_between-requires-clause-room g c = subst (λ (n : ℕ). n + 1 < 4294967296)
    (sym (plus_bound g.F.Field.value g.addition c.args.generators.now c.args.plus.now c.args.minus.now c.requires.1.0 c.requires.1.1.0)) c.requires.1.1.1.0

pub returns-clause-ok : goal.returns-clause-ok
returns-clause-ok g c =
    let two = c.requires.1.0 in
    let value = g.F.Field.value in
    subst (λ (t : Bool). IsTried value g.F.Field.holds t c.args.plus.now c.args.minus.now (value c.args.at_plus) (value c.args.at_minus) c.args.so_far.now
    record { pairs = c.push-2.new.self; generators = c.push.new.self; common = c.set_meet.new.self; last = c.are_adjacent.new.last; first_new = c.args.so_far.now.first_new })
    (sym c.if-not-is_pair.false ∙ c.in_ok-is_pair.ensures (length g.addition.row) g.addition.rows two c.set_meet.ensures)
    (record {
      pair = c.in_ok-push-2.ensures.ok;
      generator = c.in_ok-generator.generator;
      added = c.in_ok-push.ensures.ok;
      is = c.in_ok-generator.ensures.new ∙ ap (λ n. record {
        number = n;
        vector = normed (between (value c.args.at_plus) (value c.args.at_minus)
            (values value c.args.plus.now.vector.items) (values value c.args.minus.now.vector.items));
      }) (ap (λ n. c.args.so_far.now.first_new + n) c.len-2.ensures.value);
      common = c.in_ok-generator.ensures.tight.0;
      meet = c.in_ok-generator.ensures.tight.1;
      tight = c.in_ok-generator.ensures.tight.2;
      held = c.in_ok-generator.ensures.held;
    })

pub returns-then-not-is_pair-clause-ok : goal.returns-then-not-is_pair-clause-ok
returns-then-not-is_pair-clause-ok g c =
    let two = c.requires.1.0 in
    let value = g.F.Field.value in
    subst (λ (t : Bool). IsTried value g.F.Field.holds t c.args.plus.now c.args.minus.now (value c.args.at_plus) (value c.args.at_minus) c.args.so_far.now
    record { pairs = c.args.so_far.now.pairs; generators = c.args.so_far.now.generators; common = c.set_meet.new.self; last = c.are_adjacent.new.last; first_new = c.args.so_far.now.first_new })
    (sym c.if-not-is_pair.true ∙ c.in_ok-is_pair.ensures (length g.addition.row) g.addition.rows two c.set_meet.ensures) (refl, refl)

pub returns-in_err-generator-clause-left : goal.returns-in_err-generator-clause-left
returns-in_err-generator-clause-left g c =
    let two = c.requires.1.0 in
    let value = g.F.Field.value in
    err_holds c.from_residual-in_err-generator.result c.in_err-generator.field-0.0 _ c.from_residual-in_err-generator.ensures.1
    (pair_fault value g.F.Field.holds (is_uncovered_live g.addition.rows (live_of value c.args.generators.now) (pair_of value c.args.plus.now c.args.minus.now))
    (block_of value c.args.plus.now c.args.minus.now (value c.args.at_plus) (value c.args.at_minus)) c.in_err-generator.field-0.0
    (sym (c.in_ok-is_pair.ensures (length g.addition.row) g.addition.rows two c.set_meet.ensures) ∙ c.if-not-is_pair.false) c.in_err-generator.ensures.left)
