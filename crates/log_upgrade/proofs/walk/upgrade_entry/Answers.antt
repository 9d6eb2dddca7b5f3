use Rattle.std.proofs.Common.{◌≡◌, List, sym, ap, ◌∙◌, IsTrue, Result, Ok, Err, IfOk}
use Rattle.std.specs.List.{list_all}
use Rattle.std.specs.Option.{option_copied}
use Rattle.frac128.specs.declared.vectors.Spot.{Spot}
use Rattle.src_sink.specs.declared.items.NoMemory.{NoMemory}
use Rattle.deriv_log.specs.Formed.{is_formed}
use Rattle.deriv_log.specs.declared.entry.Entry.{Entry}
use Rattle.log_upgrade.specs.Walk.{in_place, placed, IsUpgraded}
use Rattle.log_upgrade.specs.declared.walk.Upgraded.{Upgraded}
use Rattle.log_upgrade.proofs.Steps.{formed_next, placed_step}
use Rattle.log_upgrade.proofs.walk.upgrade_entry.Goals as goal

pub at_place-requires-clause-formed : goal.at_place-requires-clause-formed
at_place-requires-clause-formed c =
    let r = c.requires in
    formed_next r.0 r.1 r.2 r.3 c.args.entry.now r.4 c.args.checker.now c.args.repeats.now r.5

both : (r : Result Upgraded NoMemory) (P Q S : Upgraded → Type 0) → ((x : Upgraded) → P x → Q x → S x) → IfOk r P → IfOk r Q → IfOk r S
both (Ok x) P Q S f p q = f x p q
both (Err e) P Q S f p q = tt

pub returns-in_ok-place-in-Some-clause-is : goal.returns-in_ok-place-in-Some-clause-is
returns-in_ok-place-in-Some-clause-is c file all before vectors after n =
    let e = c.args.entry.now in
    let u = c.in-Some.vector.now in
    let place = c.in_ok-place-in-Some.place in
    both c.at_place.result (λ (x : Upgraded). in_place e x ≡ placed u e place) (λ (x : Upgraded). IsTrue (list_all is_formed (in_place e x)))
    (IsUpgraded file.objs all before vectors e)
    (λ x i k. placed_step file.objs all before vectors e u place x (sym c.vector_of.ensures ∙ ap option_copied c.in-Some.is)
    (c.in_ok-place-in-Some.ensures.place all vectors n.standings) i k)
    c.at_place.ensures.is c.at_place.ensures.formed

pub returns-in-None-clause-is : goal.returns-in-None-clause-is
returns-in-None-clause-is c file all before vectors after n =
    c.with_hints.ensures file all before vectors after c.args.repeats.now n
