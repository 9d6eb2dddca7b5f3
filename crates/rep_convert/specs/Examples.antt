-- Worked licences of a conversion, beside near ones that are none: each example would fail if a
-- definition were wrong.
use Rattle.std.specs.Prelude.{pos, negsuc, false, not, Bool, List, [], ◌∷◌, ℕ, refl}
use Rattle.std.proofs.Math.Dec.{lit≤}
use Rattle.exact_field.specs.Order.{same_ℚ}
use Rattle.exact_field.specs.Rational.{ℚ, whole}
use Rattle.exact_field.specs.declared.op.Op.TheVariants.{Mul, Div}
use Rattle.exact_field.specs.declared.op.Left.{Left as Operation}
use Rattle.polyhedra.specs.Examples.{wholes}
use Rattle.deriv_log.specs.declared.entry.Entry.{Entry}
use Rattle.deriv_log.specs.declared.entry.Entry.TheVariants.{Version}
use Rattle.deriv_log.specs.declared.licence.Family.TheVariants.{Image, Rep as RowsOfRep}
use Rattle.deriv_log.specs.declared.licence.Place.{Place}
use Rattle.deriv_log.specs.declared.licence.Place.TheVariants.{Elim, Pair, Scale}
use Rattle.overflows.specs.Steps.{operation}
use Rattle.rep_text.specs.declared.rep.Rep.{Rep}
use Rattle.rep_text.specs.declared.rep.RepKind.TheVariants.{Side}
use Rattle.rep_conv.specs.Examples.{row}
use Rattle.rep_convert.specs.Licensed.{IsConvLicensed}

-- the whole number k
abbrev pub n : ℕ → ℚ
n k = whole (pos k)

-- z ≥ 0 and -3 z ≥ -6
abbrev pub segment : Rep
unfolding whole
segment = record {
  gens = false;
  width = 1;
  rows = row Side (pos 1 ∷ pos 0 ∷ []) ∷ row Side (negsuc 2 ∷ negsuc 5 ∷ []) ∷ [];
  some_entry = lit≤ tt;
  few_entries = lit≤ tt;
  fitting = refl;
}

-- its rows
abbrev pub first : List ℚ
first = wholes (pos 0 ∷ pos 1 ∷ [])

abbrev pub second : List ℚ
second = wholes (pos 1 ∷ pos 0 ∷ [])

abbrev pub third : List ℚ
third = wholes (negsuc 2 ∷ pos 6 ∷ [])

-- another row
abbrev pub other : List ℚ
other = wholes (pos 5 ∷ pos 6 ∷ [])

-- all numbers but this one are held
abbrev pub all_but : ℕ → ℚ → Bool
all_but k q = not (same_ℚ q (n k))

-- an overflow of the segment's conversion, where 6 is not held
abbrev pub IsLicensedWith : ℕ → Place → Operation ℚ → List Entry → Type 0
IsLicensedWith k place left trail =
    IsConvLicensed (all_but k) segment (record { place = place; left = left; trail = trail })

-- the addition of a row after the first two, at the value of the first generator
abbrev pub adding : List ℚ → Place
adding last = Pair RowsOfRep (first ∷ second ∷ last ∷ []) 1 0 1

-- 6 times 1
abbrev pub six : Operation ℚ
six = operation Mul (n 6) (n 1)

-- operations that are licensed for the segment's conversion, and others
pub record LicenceExamples : Type 0 where
  -- the value of the third row at (0, 1) begins with 6 times 1
  pub value : IsLicensedWith 6 (adding third) six []
  -- where 6 is held, after an entry, for rows of another family, at another place, and for a row
  -- that the segment does not have, it is no licence
  pub held : IsLicensedWith 7 (adding third) six [] → ⊥
  pub after_entry : IsLicensedWith 6 (adding third) six (Version 1 ∷ []) → ⊥
  pub of_image :
      IsLicensedWith 6 (Pair Image (first ∷ second ∷ third ∷ []) 1 0 1) six [] → ⊥
  pub at_scale : IsLicensedWith 6 (Scale third 2) six [] → ⊥
  pub not_its_row : IsLicensedWith 6 (adding other) six [] → ⊥
  -- a row in use is multiplied by a live generator: 1 by 1 at their second places; nothing has a
  -- column then, and there is no fourth step
  pub product : IsLicensedWith 1 (Elim [] [] 0 2 2) (operation Mul (n 1) (n 1)) []
  pub with_basis : IsLicensedWith 1 (Elim [] (1 ∷ []) 0 2 2) (operation Mul (n 1) (n 1)) [] → ⊥
  pub no_step : IsLicensedWith 1 (Elim [] [] 0 2 4) (operation Mul (n 1) (n 1)) [] → ⊥
  -- an elimination of the whole rows may begin with the pivot -3: 6 by -3 is -2, which is not held
  -- here; and neither with a place for a fourth row, nor with a row that the segment does not have
  pub whole_rows : IsConvLicensed (λ q. not (same_ℚ q (whole (negsuc 1)))) segment (record {
    place = Elim (first ∷ second ∷ third ∷ []) (0 ∷ 0 ∷ 0 ∷ []) 3 1 1;
    left = operation Div (n 6) (whole (negsuc 2));
    trail = [];
  })
  pub longer_basis : IsConvLicensed (λ q. not (same_ℚ q (whole (negsuc 1)))) segment (record {
    place = Elim (first ∷ second ∷ third ∷ []) (0 ∷ 0 ∷ 0 ∷ 0 ∷ []) 3 1 1;
    left = operation Div (n 6) (whole (negsuc 2));
    trail = [];
  }) → ⊥
  pub other_rows : IsLicensedWith 6 (Elim (other ∷ []) (0 ∷ []) 1 1 1)
      (operation Div (n 6) (n 1)) [] → ⊥
  -- a quotient by 0 has no result, at any place
  pub by_zero : (place : Place) →
      IsLicensedWith 6 place (operation Div (n 6) (n 0)) [] → ⊥
