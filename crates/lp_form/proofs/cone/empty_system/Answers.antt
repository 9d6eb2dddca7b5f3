use Rattle.std.proofs.Common.{map, ap}
use Rattle.lp_form.specs.Programs.{empty_system}
use Rattle.lp_form.proofs.Systems.{empty_ok}
use Rattle.lp_form.proofs.cone.empty_system.Goals as goal

pub returns : goal.returns
returns g c =
    let value = g.F.Field.value in
    c.system.ensures empty_system empty_ok (ap (map value) c.new.ensures) (ap (map value) c.new-2.ensures) (ap (map value) c.new-3.ensures)
