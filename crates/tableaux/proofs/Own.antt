-- A dictionary is the dictionary of itself at its own basis: its matrix is the unit matrix.
use Rattle.std.proofs.Common.{◌≡◌, ℕ, List, [], length, refl, sym, ap, ◌∙◌, arith, ◌≤◌, ◌<◌, ◌+◌, ◌-◌, inl, inr, slice_index_or}
use Rattle.std.specs.Prelude.{◌==◌}
use Rattle.exact_field.specs.Rational.{zero_ℚ}
use Rattle.polyhedra.specs.Vectors.{combination}
use Rattle.polyhedra.proofs.Linear.{dot_comm, dot-combination_left, length-combination, same_wide}
use Rattle.tableaux.specs.Table.{Table, row_of, at, listed, unit}
use Rattle.tableaux.specs.Dictionary.{basic_column, IsDictionary}
use Rattle.tableaux.proofs.Places.{length-list_from, list_from-place, listed-place, row-wide, same_or_other, if_true, if_false, delta}
use Rattle.tableaux.proofs.Definition.{unit_entry, unit_value, dictionary_of}

module _ (width : ℕ) (t : Table) (basis : List ℕ) (d : Table) (h : IsDictionary width t basis d) where
  abbrev units : Table
  units = listed (length d) (unit (length d))

  unit_row : (i : ℕ) → 1 ≤ i → i ≤ length d → row_of units i ≡ unit (length d) i
  unit_row i l u = listed-place (length d) (unit (length d)) i [] l u

  units_long : length units ≡ length d
  units_long = length-list_from 1 (length d) (unit (length d))

  rows : (i : ℕ) → 1 ≤ i → i ≤ length d → row_of d i ≡ combination width (row_of units i) d
  rows i l u =
      same_wide width (row_of d i) (combination width (unit (length d) i) d) (row-wide width d i h.wide l u) (length-combination width (unit (length d) i) d h.wide)
      (λ r. dot_comm r (row_of d i) ∙ sym (unit_value d r i l u) ∙ sym (dot-combination_left width (unit (length d) i) d r)
      ∙ dot_comm (combination width (unit (length d) i) d) r)
      ∙ ap (λ v. combination width v d) (sym (unit_row i l u))

  pub own_dictionary : IsDictionary width d basis d
  own_dictionary =
      dictionary_of width d basis d units h.wide
      record {
        d_many = refl;
        m_many = units_long;
        d_wide = h.wide;
        m_wide = record {
          wide = λ k e l. let inside : k < length d = omega (arith, l, units_long) in
              ap length (list_from-place 1 (length d) (unit (length d)) k e inside) ∙ length-list_from 1 (length d) (λ j. delta j (1 + k));
        };
        rows = rows;
        tests = λ i k l u a b. elim (same_or_other (basic_column basis k) 0) [
          | inl s ↦ if_true (basic_column basis k == 0) (at units i k) (at d i (basic_column basis k)) s.1
              ∙ ap (λ v. slice_index_or v (k - 1) zero_ℚ) (unit_row i l u) ∙ unit_entry (length d) i k a b
          | inr o ↦ if_false (basic_column basis k == 0) (at units i k) (at d i (basic_column basis k)) o.1
              ∙ h.unit_columns i k l (omega (arith, u, h.one_each)) a (omega (arith, b, h.one_each)) o.0
        ];
      }
