-- Points and directions as rows over dual vectors.
use Rattle.std.specs.Prelude.{◌-◌, ◌∷◌, ◌++◌, [], List, length, take, Bool, if◌then◌else◌}
use Rattle.exact_field.specs.Rational.{ℚ, zero_ℚ, one_ℚ, neg_ℚ}
use Rattle.exact_field.specs.Vector.{entry}
use Rattle.polyhedra.specs.Vectors.{scaled}
use Rattle.tableaux.specs.Table.{minus}

-- the row of a point or of a direction y over dual vectors (w_1, .., w_(q-1), gamma, w . c): its
-- value there is w . y - gamma for a point, and w . y for a direction
abbrev pub exchange_row : List ℚ → List ℚ → Bool → List ℚ
exchange_row c y t =
    let last = entry y (length y) in
    minus (take (length y - 1) y) (scaled last (take (length c - 1) c))
    ++ (if t then neg_ℚ one_ℚ else zero_ℚ) ∷ last ∷ []
