-- The names in fault lines.
use Rattle.std.specs.Prelude.{ℕ, Bool, true, false, List, codes}
use Rattle.exact_field.specs.declared.op.Op.{Op}
use Rattle.exact_field.specs.declared.op.Op.TheVariants as op
use Rattle.deriv_log.specs.declared.licence.Family.{Family}
use Rattle.deriv_log.specs.declared.licence.Family.TheVariants as family

-- the source that a limit speaks of
abbrev pub source_name : Bool → List ℕ
source_name false = codes "problem"
source_name true = codes "log"

-- the name of an operation
abbrev pub operation_name : Op → List ℕ
operation_name op.Add = codes "add"
operation_name op.Sub = codes "sub"
operation_name op.Mul = codes "mul"
operation_name op.Div = codes "div"

-- the name of a family of rows
abbrev pub family_name : Family → List ℕ
family_name family.Image = codes "image"
family_name family.Exchanged = codes "exchanged"
family_name family.ConeRows = codes "cone"
family_name family.Rep = codes "rep"
