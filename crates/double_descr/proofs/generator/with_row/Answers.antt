use Rattle.double_descr.proofs.generator.with_row.Goals as goal

pub returns : goal.returns
returns c = (c.in_ok-marks.marks, c.in_ok-marks.ensures, c.in_ok-widen.ensures.ok)
