use Rattle.double_descr.specs.Making.{addition_of}
use Rattle.double_descr.proofs.dd.Dd.add.Given as goal

abbrev pub ghost-next_list : goal.ghost-next_list
ghost-next_list g a = addition_of g.F.Field.value a.rows.now a.row.now a.first_new
