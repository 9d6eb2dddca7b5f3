use Rattle.std.proofs.Common.{◌≡◌, map, sym, ap, ap₂, ◌∙◌, subst}
use Rattle.lp_form.specs.Building.{IsWritten}
use Rattle.lp_form.specs.Data.{cone_of, duality_of}
use Rattle.lp_form.specs.Programs.{interior_system, pointed_system, named_system}
use Rattle.lp_form.proofs.Figures.{objective_number}
use Rattle.std.specs.Result.{IfOk}
use Rattle.lp_form.specs.Names.{named}
use Rattle.lp_form.proofs.programs.program.Goals as goal

pub returns-in-Interior : goal.returns-in-Interior
returns-in-Interior g c = λ file stands.
    let value = g.F.Field.value in
    let form = c.args.form.now in
    let q_is : c.len-q.result ≡ file.objs = c.len-q.ensures.value ∙ objective_number value file form stands in
    subst (λ s. IfOk c.interior_system.result (IsWritten value s))
    (ap (λ n. interior_system n (cone_of value form.cone) (duality_of value form.duality)) q_is ∙ ap₂ (interior_system file.objs) stands.cone stands.duality
    ∙ sym (ap (λ n. named_system file (map value c.args.c.now) (named value n)) c.in-Interior.is)) c.interior_system.ensures

pub returns-in-Pointed : goal.returns-in-Pointed
returns-in-Pointed g c = λ file stands.
    let value = g.F.Field.value in
    let form = c.args.form.now in
    let q_is : c.len-q.result ≡ file.objs = c.len-q.ensures.value ∙ objective_number value file form stands in
    subst (λ s. IfOk c.pointed_system.result (IsWritten value s))
    (ap₂ pointed_system q_is stands.cone ∙ sym (ap (λ n. named_system file (map value c.args.c.now) (named value n)) c.in-Pointed.is)) c.pointed_system.ensures
