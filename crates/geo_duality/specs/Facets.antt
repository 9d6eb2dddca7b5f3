-- The rows that are facets: the first for each largest set of tight generators, apart from row 0.
use Rattle.std.specs.Prelude.{ℕ, ◌-◌, List, [], map, filter, length, Bool, not, ◌&&◌, ◌||◌, slice_index_or}
use Rattle.std.specs.List.{list_all, range_with_len}
use Rattle.exact_field.specs.Rational.{ℚ, zero_ℚ}
use Rattle.exact_field.specs.Vector.{dot}
use Rattle.polyhedra.specs.DoubleDescription.{is_zero}
use Rattle.polyhedra.specs.FirstNamed.{firsts, tight_lies_in}
use Rattle.polyhedra.specs.Inequality.{Inequality}

-- the generators that are tight at a row, as tests of the generators in their order
abbrev pub tight_places : List (List ℚ) → List ℚ → List Bool
tight_places generators row = map (λ g. is_zero (dot row g)) generators

-- row k
abbrev pub row_at : List (List ℚ) → ℕ → List ℚ
row_at rows k = slice_index_or rows k []

-- whether a row's tight generators are no subset of those of row 0, and of those of another row only where both have the same
abbrev pub may_be_facet : List (List ℚ) → List (List ℚ) → List ℚ → Bool
may_be_facet generators rows row = not (tight_lies_in generators row (row_at rows 0))
    && list_all (λ r. not (tight_lies_in generators row r) || tight_lies_in generators r row) rows

-- whether the same generators are tight at rows j and k
abbrev pub same_at : List (List ℚ) → List (List ℚ) → ℕ → ℕ → Bool
same_at generators rows j k = tight_lies_in generators (row_at rows j) (row_at rows k) && tight_lies_in generators (row_at rows k) (row_at rows j)

-- of the numbers of the rows other than row 0 that may be facets, the first for each set of tight generators
abbrev pub facet_rows : List (List ℚ) → List (List ℚ) → List ℕ
facet_rows generators rows = firsts (same_at generators rows)
    (filter (λ k. may_be_facet generators rows (row_at rows k)) (range_with_len 1 (length rows - 1)))

-- the cut of row k, where row 0 is that of t ≥ 0 and the others those of the cuts
abbrev pub cut_at : List Inequality → ℕ → Inequality
cut_at cuts k = slice_index_or cuts (k - 1) (record { normal = []; bound = zero_ℚ })
