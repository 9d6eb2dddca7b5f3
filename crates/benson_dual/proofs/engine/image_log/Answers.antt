use Rattle.std.proofs.Common.{rules, List, arith, map, subst, sym}
use Rattle.overflows.specs.Base.{IsBaseChoice}
use Rattle.benson_dual.proofs.engine.image_log.Goals as goal

pub overflow_cast-lines : goal.overflow_cast-lines
overflow_cast-lines g c =
    let many = c.requires.1.0.first.many in
    let most = g.task.file.objs_bounded in
    omega (arith, many, most)

pub all_facets-requires : goal.all_facets-requires
all_facets-requires g c κs within =
    let value = g.F.Field.value in
    let h = c.requires.1.0 in (
      search rules,
      (
        h.known.stands,
        (
          h.known.c_is,
          (
            h.known.fitting,
            (c.requires.1.1, subst (λ (x : List _). IsBaseChoice g.task.file (map value x)) (sym c.as_slice.ensures.items) h.first.choice),
          ),
        ),
      ),
    )
