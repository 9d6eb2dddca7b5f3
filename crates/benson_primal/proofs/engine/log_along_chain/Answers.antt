use Rattle.std.proofs.Common.{rules, ◌≡◌, ◌∙◌, All, subst, sym, arith}
use Rattle.std.proofs.lemmas.List.{nil_from_length}
use Rattle.lp_form.proofs.Figures.{objective_number}
use Rattle.outer_approx.specs.Cuts.{IsCutFor}
use Rattle.benson_primal.proofs.engine.log_along_chain.Goals as goal

pub chain_of-requires : goal.chain_of-requires
chain_of-requires g c κs within =
    let value = g.F.Field.value in
    let first = c.requires.1.1.1 in
    let q : c.len.result ≡ g.task.file.objs = c.len.ensures.value ∙ objective_number value g.task.file c.args.form.now c.requires.1.0.stands in (
      search rules,
      (
        c.requires.1.0,
        (
          sym q ∙ c.if-len-ne2.false,
          subst (IsCutFor value g.task) (sym c.index-cuts-0.is) (first.each 0 c.index-cuts-0.result (omega (arith, first.some))),
        ),
      ),
    )

pub chain_log-requires : goal.chain_log-requires
chain_log-requires g c κs within =
    let value = g.F.Field.value in
    let q : c.len.result ≡ g.task.file.objs = c.len.ensures.value ∙ objective_number value g.task.file c.args.form.now c.requires.1.0.stands in (
      search rules,
      (
        c.requires.1.0,
        (
          c.requires.1.1.0,
          (
            c.requires.1.1.1,
            (
              sym q ∙ c.if-len-ne2.false,
              (
                nil_from_length c.args.lines.now c.if-lines-ne0.false,
                subst (λ l. All (IsCutFor value g.task) l) (sym c.deref.ensures.value) c.in_ok-chain.ensures,
              ),
            ),
          ),
        ),
      ),
    )
