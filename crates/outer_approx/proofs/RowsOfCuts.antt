-- The row t ≥ 0 and those of cuts, one after the other, without the entries at the places of lines.
use Rattle.std.proofs.Common.{◌≡◌, ℕ, suc, List, [], ◌∷◌, ◌++◌, map, length, Bool, sym, ap, ap₂, ◌∙◌}
use Rattle.std.proofs.lemmas.List.{map-append}
use Rattle.exact_field.specs.Rational.{ℚ, neg_ℚ, one_ℚ}
use Rattle.polyhedra.specs.Exactness.{level, row_of, rows_of}
use Rattle.polyhedra.specs.Inequality.{Inequality}
use Rattle.polyhedra.specs.Vectors.{zeros}
use Rattle.polyhedra.proofs.Homogenised.{length-homogenised}
use Rattle.polyhedra.proofs.Linear.{length-zeros}
use Rattle.lineality.specs.Without.{open_count, without}
use Rattle.lineality.proofs.Masks.{length-without, without-level, without-row}
use Rattle.lin_rows.specs.Read.{numbers}

-- how many entries a row of a cut has without those at the places
pub length-row : (bs : List Bool) (e : Inequality) → length e.normal ≡ length bs → length (without bs (row_of e)) ≡ suc (open_count bs)
length-row bs e wide =
    ap (λ (v : List ℚ). length v) (without-row bs e wide)
    ∙ length-homogenised (open_count bs) (without bs e.normal) (neg_ℚ e.bound) (length-without bs e.normal wide)

-- the row t ≥ 0
pub length-level : (n : ℕ) → length (level n) ≡ suc n
length-level n = length-homogenised n (zeros n) one_ℚ (length-zeros n)

module _ {F : Type 0} (value : F → ℚ) (bs : List Bool) where
  pub rows_begin : (n : ℕ) (row : List F) (none rows : List (List F)) → n ≡ open_count bs → map value row ≡ level n → none ≡ [] → rows ≡ none ++ row ∷ [] →
      numbers value rows ≡ map (without bs) (rows_of (length bs) [])
  rows_begin n row none rows count row_is empty pushed =
      ap (numbers value) (pushed ∙ ap (λ (rs : List (List F)). rs ++ row ∷ []) empty)
      ∙ ap (λ (r : List ℚ). r ∷ []) (row_is ∙ ap level count ∙ sym (without-level bs))

  pub rows_more : (said more : List Inequality) (e : Inequality) (old new : List (List F)) (row : List F) → more ≡ said ++ e ∷ [] →
      map value row ≡ without bs (row_of e) → new ≡ old ++ row ∷ [] → numbers value old ≡ map (without bs) (rows_of (length bs) said) →
      numbers value new ≡ map (without bs) (rows_of (length bs) more)
  rows_more said more e old new row more_is row_is pushed so_far =
      ap (numbers value) pushed ∙ map-append (λ (r : List F). map value r) old (row ∷ [])
      ∙ ap₂ (λ (rs : List (List ℚ)) (r : List ℚ). rs ++ r ∷ []) so_far row_is
      ∙ sym (map-append (without bs) (rows_of (length bs) said) (row_of e ∷ []))
      ∙ ap (λ (rs : List (List ℚ)). map (without bs) (level (length bs) ∷ rs)) (sym (map-append row_of said (e ∷ [])))
      ∙ ap (λ (es : List Inequality). map (without bs) (rows_of (length bs) es)) (sym more_is)
