-- The widths of the rows of a representation.
use Rattle.std.proofs.Common.{◌≡◌, ℕ, suc, ◌-◌, ◌≤◌, Bool, true, false, cond, List, [], ◌∷◌, length, ◌∙◌, arith, ◌==◌}
use Rattle.std.specs.List.{list_all, flat_map}
use Rattle.std.proofs.lemmas.Bool.{eqb-true}
use Rattle.std.proofs.lemmas.List.{length-take-le}
use Rattle.std.proofs.lemmas.List.Elements.{All-append}
use Rattle.exact_field.specs.Rational.{ℚ, zero_ℚ, one_ℚ, neg_ℚ}
use Rattle.polyhedra.specs.Vectors.{AreWide, zeros}
use Rattle.polyhedra.specs.Exactness.{homogenised, level}
use Rattle.polyhedra.specs.Negatives.{negated}
use Rattle.polyhedra.proofs.Linear.{length-zeros}
use Rattle.polyhedra.proofs.Lists.{HasWidth, wide-nil, wide-cons}
use Rattle.polyhedra.proofs.Tests.{both_true}
use Rattle.polyhedra.proofs.Homogenised.{length-homogenised}
use Rattle.lineality.proofs.Lineality.{length-negated}
use Rattle.rep_text.specs.Fits.{row_fits, kind_fits, row_length}
use Rattle.rep_conv.specs.Sets.{normal_of, bound_of}
use Rattle.rep_conv.specs.Rows.{side_row, both_signs, rows_of_kind, rows_from, text_rows, rows_under, has_point}
use Rattle.rep_text.specs.declared.rep.Rep.{Rep}
use Rattle.rep_text.specs.declared.rep.RepKind.{RepKind}
use Rattle.rep_text.specs.declared.rep.RepKind.TheVariants.{Side, Equal, Line, Point, Direction}
use Rattle.rep_text.specs.declared.rep.RepRow.{RepRow}

pub length-normal : (w : ℕ) (row : RepRow) → length row.v ≡ suc w → length (normal_of row) ≡ w
length-normal w row h = length-take-le (length row.v - 1) row.v (less (length row.v)) ∙ one_less (length row.v) w h
  where
    less : (m : ℕ) → m - 1 ≤ m
    less m = omega arith

    one_less : (m n : ℕ) → m ≡ suc n → m - 1 ≡ n
    one_less m n e = omega arith

both_wide : (n : ℕ) (r : List ℚ) → length r ≡ n → AreWide n (both_signs r)
both_wide n r h = wide-cons n r (negated r ∷ []) h (wide-cons n (negated r) [] (length-negated r ∙ h) (wide-nil n))

one_wide : (w : ℕ) (kind : RepKind) (row : RepRow) → length row.v ≡ row_length w kind → AreWide (suc w) (rows_of_kind kind row)
one_wide w Side row h = wide-cons (suc w) (side_row row) [] (length-homogenised w (normal_of row) (neg_ℚ (bound_of row)) (length-normal w row h)) (wide-nil (suc w))
one_wide w Equal row h = both_wide (suc w) (side_row row) (length-homogenised w (normal_of row) (neg_ℚ (bound_of row)) (length-normal w row h))
one_wide w Line row h = both_wide (suc w) (homogenised row.v zero_ℚ) (length-homogenised w row.v zero_ℚ h)
one_wide w Point row h = wide-cons (suc w) (homogenised row.v (neg_ℚ one_ℚ)) [] (length-homogenised w row.v (neg_ℚ one_ℚ) h) (wide-nil (suc w))
one_wide w Direction row h = wide-cons (suc w) (homogenised row.v zero_ℚ) [] (length-homogenised w row.v zero_ℚ h) (wide-nil (suc w))

all_wide : (gens : Bool) (w : ℕ) (rows : List RepRow) → list_all (row_fits gens w) rows ≡ true → AreWide (suc w) (flat_map (λ row. rows_of_kind row.kind row) rows)
all_wide gens w [] h = wide-nil (suc w)
all_wide gens w (row ∷ rows) h =
    let parts = both_true (row_fits gens w row) (list_all (row_fits gens w) rows) h in
    let fits = both_true (kind_fits gens row.kind) (length row.v == row_length w row.kind) parts.0 in
    record {
      wide = All-append (HasWidth (suc w)) (rows_of_kind row.kind row) (flat_map (λ r. rows_of_kind r.kind r) rows)
          (one_wide w row.kind row (eqb-true (length row.v) (row_length w row.kind) fits.1)).wide (all_wide gens w rows parts.1).wide;
    }

pub text_rows_wide : (rep : Rep) → AreWide (suc rep.width) (text_rows rep)
text_rows_wide rep = go rep.gens
  where
    from : AreWide (suc rep.width) (rows_from rep)
    from = all_wide rep.gens rep.width rep.rows rep.fitting

    pick : (b : Bool) → AreWide (suc rep.width) (cond b (rows_from rep) [])
    pick true = from
    pick false = wide-nil (suc rep.width)

    go : (b : Bool) → AreWide (suc rep.width) (rows_under b rep)
    go true = pick (has_point rep)
    go false = wide-cons (suc rep.width) (level rep.width) (rows_from rep) (length-homogenised rep.width (zeros rep.width) one_ℚ (length-zeros rep.width)) from
