use Rattle.std.proofs.Common.{rules, subst, arith, ◌≡◌, [], ◌∷◌, length}
use Rattle.exact_field.specs.Rational.{ℚ, ◌-ℚ◌}
use Rattle.exact_field.specs.Vector.{dot}
use Rattle.frac128.specs.Held.{is_held}
use Rattle.log_rules.specs.Events.{dot_steps}
use Rattle.log_rules.specs.Events.Event.{step}
use Rattle.log_rules.specs.Runs.{Runs}
use Rattle.log_rules.proofs.Failures.{steps-append}
use Rattle.upper_image.specs.Spots.{dense}
use Rattle.entry_checks.proofs.Going.{Passed, Stopped, stopped-in, Ran, ran-after, room-in}
use Rattle.exact_field.specs.declared.op.Op.TheVariants as op
use Rattle.entry_checks.proofs.image.difference.Goals as goal

pub sparse_dot-requires-clause-room : goal.sparse_dot-requires-clause-room
sparse_dot-requires-clause-room c =
    room-in (dot_steps (dense (length c.args.x.now) c.args.row.now) c.args.x.now) (step op.Sub c.args.entry (dot (dense (length c.args.x.now) c.args.row.now) c.args.x.now) ∷ []) c.args.counter.now.taken _ c.requires.room

pub returns-in_err-product : goal.returns-in_err-product
returns-in_err-product c =
    let here : Stopped (dot_steps (dense (length c.args.x.now) c.args.row.now) c.args.x.now) c.args.counter.now.taken c.in_err-product.field-0.0 = record { at = c.in_err-product.ensures } in
    let stopped = (stopped-in (step op.Sub c.args.entry (dot (dense (length c.args.x.now) c.args.row.now) c.args.x.now) ∷ []) here).at in
    search (stopped, rules)

pub sub-requires : goal.sub-requires
sub-requires c =
    let both = steps-append (dot_steps (dense (length c.args.x.now) c.args.row.now) c.args.x.now) (step op.Sub c.args.entry (dot (dense (length c.args.x.now) c.args.row.now) c.args.x.now) ∷ []) in
    let count = c.in_ok-product.ensures.1 in
    let room = c.requires.room in
    omega (arith, both, count, room)

pub returns : goal.returns
returns c =
    let came0 : Passed (dot_steps (dense (length c.args.x.now) c.args.row.now) c.args.x.now) c.args.counter.now.taken c.sparse_dot.new.self.taken = record { none = c.in_ok-product.ensures.0; count = c.in_ok-product.ensures.1 } in
    let last : Ran {X = ℚ} (step op.Sub c.args.entry (dot (dense (length c.args.x.now) c.args.row.now) c.args.x.now) ∷ []) c.sparse_dot.new.self.taken c.sub.new.self.taken (λ v. v ≡ c.args.entry -ℚ dot (dense (length c.args.x.now) c.args.row.now) c.args.x.now) c.sub.result = record { runs = subst (λ (z : ℚ). Runs {X = ℚ} is_held (step op.Sub c.args.entry z ∷ []) c.sparse_dot.new.self.taken c.sub.new.self.taken (λ v. v ≡ c.args.entry -ℚ z) c.sub.result) c.in_ok-product.ensures.2 c.sub.ensures } in
    (ran-after came0 last).runs
