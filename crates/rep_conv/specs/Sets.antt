-- The set of a representation.
use Rattle.std.specs.Prelude.{◌≡◌, ◌-◌, Bool, true, false, List, map, length, take, filter, All}
use Rattle.exact_field.specs.Rational.{ℚ, ◌≤ℚ◌}
use Rattle.exact_field.specs.Vector.{dot, entry}
use Rattle.polyhedra.specs.Hull.{IsInHull}
use Rattle.rep_text.specs.declared.rep.Rep.{Rep}
use Rattle.rep_text.specs.declared.rep.RepKind.{RepKind}
use Rattle.rep_text.specs.declared.rep.RepKind.TheVariants.{Side, Equal, Line, Point, Direction}
use Rattle.rep_text.specs.declared.rep.RepRow.{RepRow}

-- the normal and the bound of an inequality or equation, whose last entry is its bound
abbrev pub normal_of : RepRow → List ℚ
normal_of row = take (length row.v - 1) row.v

abbrev pub bound_of : RepRow → ℚ
bound_of row = entry row.v (length row.v)

-- z meets an inequality or equation
abbrev pub MeetsRow : List ℚ → RepRow → RepKind → Type 0
MeetsRow z row Side = bound_of row ≤ℚ dot (normal_of row) z
MeetsRow z row Equal = dot (normal_of row) z ≡ bound_of row
MeetsRow z row _ = ⊥

-- two kinds are the same
abbrev pub is_kind : RepKind → RepKind → Bool
is_kind Side Side = true
is_kind Equal Equal = true
is_kind Line Line = true
is_kind Point Point = true
is_kind Direction Direction = true
is_kind _ _ = false

-- the vectors of the rows of one kind, in their order
abbrev pub vectors_of : RepKind → Rep → List (List ℚ)
vectors_of kind rep = map (λ row. row.v) (filter (λ row. is_kind kind row.kind) rep.rows)

-- z has full width and meets all inequalities and equations
pub record MeetsAllRows (rep : Rep) (z : List ℚ) : Type 0 where
  pub wide : length z ≡ rep.width
  pub meets : All (λ row. MeetsRow z row row.kind) rep.rows

-- the set by points, directions and lines, or by inequalities and equations
abbrev pub IsInSet : Bool → Rep → List ℚ → Type 0
IsInSet true rep z =
    IsInHull rep.width (vectors_of Point rep) (vectors_of Direction rep) (vectors_of Line rep) z
IsInSet false rep z = MeetsAllRows rep z

-- z is in the set of the representation: it meets all inequalities and equations, or is in the hull
-- of the points, directions and lines, which is empty where there is no point
abbrev pub IsMember : Rep → List ℚ → Type 0
IsMember rep z = IsInSet rep.gens rep z
