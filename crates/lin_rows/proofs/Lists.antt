-- Lists of n values, one more.
use Rattle.std.proofs.Common.{◌≡◌, ℕ, zero, suc, List, [], ◌∷◌, ◌++◌, length, map, take, sym, ap, ap₂, ◌∙◌, arith, ◌<◌, ◌≤◌, ◌+◌, ◌-◌, slice_index_or}
use Rattle.std.specs.Prelude.{◌==◌, if◌then◌else◌}
use Rattle.std.proofs.lemmas.List.{map_push, take_more, get_or-map, length-map}
use Rattle.exact_field.specs.Rational.{ℚ, zero_ℚ, one_ℚ, neg_ℚ}
use Rattle.exact_field.specs.Vector.{entry}
use Rattle.tableaux.specs.Table.{Table, column_of, list_from, listed}
use Rattle.tableaux.specs.Dictionary.{value_of_column}
use Rattle.tableaux.specs.Elimination.{ray_of}
use Rattle.tableaux.proofs.Places.{listed-place}
use Rattle.tableaux.proofs.Found.{list_from-same}
use Rattle.tableaux.proofs.Ties.{column_entry}
use Rattle.lin_rows.specs.Read.{numbers}
use Rattle.lin_rows.proofs.Building.{numbers_long}

list_from-push : {A : Type 0} (k n : ℕ) (f : ℕ → A) → list_from k (suc n) f ≡ list_from k n f ++ f (k + n) ∷ []
list_from-push k zero f = let start : k ≡ k + 0 = omega arith in ap (λ j. f j ∷ []) start
list_from-push k (suc n) f =
    let same : suc k + n ≡ k + suc n = omega arith in
    ap (λ xs. f k ∷ xs) (list_from-push (suc k) n f) ∙ ap (λ j. f k ∷ (list_from (suc k) n f ++ f j ∷ [])) same

pub listed-push : {A : Type 0} (n : ℕ) (f : ℕ → A) → listed (n + 1) f ≡ listed n f ++ f (n + 1) ∷ []
listed-push n f =
    let more : n + 1 ≡ suc n = omega arith in
    let last : 1 + n ≡ n + 1 = omega arith in
    ap (λ m. list_from 1 m f) more ∙ list_from-push 1 n f ∙ ap (λ j. list_from 1 n f ++ f j ∷ []) last

-- one value more
pub mapped_more : {F A : Type 0} (value : F → A) (old new : List F) (x : F) (n : ℕ) (f : ℕ → A) → new ≡ old ++ x ∷ [] → map value old ≡ listed n f → value x ≡ f (n + 1) →
    map value new ≡ listed (n + 1) f
mapped_more value old new x n f e is own =
    ap (map value) e ∙ map_push value old x ∙ ap₂ (λ a b. a ++ b ∷ []) is own ∙ sym (listed-push n f)

-- the ray from the values of its column
pub ray_is : (n : ℕ) (basis : List ℕ) (d : Table) (c : ℕ) (values : List ℚ) → values ≡ listed n (value_of_column basis (column_of d c)) →
    listed n (λ j. if j == c then one_ℚ else neg_ℚ (entry values j)) ≡ ray_of n basis d c
ray_is n basis d c values e =
    list_from-same 1 n (λ j. if j == c then one_ℚ else neg_ℚ (entry values j)) (λ j. if j == c then one_ℚ else neg_ℚ (value_of_column basis (column_of d c) j))
    (λ j l u. ap (λ q. if j == c then one_ℚ else neg_ℚ q)
    (ap (λ v. entry v j) e ∙ listed-place n (value_of_column basis (column_of d c)) j zero_ℚ l (omega arith)))

module _ {F : Type 0} (value : F → ℚ) where
  -- entry j of one row more
  pub column_more : (list : List (List F)) (row : List F) (j k : ℕ) (x : F) (old new : List F) → 1 ≤ j → k < length list → row ≡ slice_index_or list (k + 1 - 1) [] → j ≤ length row →
      x ≡ slice_index_or row (j - 1) x → new ≡ old ++ x ∷ [] → map value old ≡ take k (column_of (numbers value list) j) →
      map value new ≡ take (k + 1) (column_of (numbers value list) j)
  column_more list row j k x old new low inside row_is wide x_is pushed is =
      let t : Table = numbers value list in
      let t_long : length t ≡ length list = numbers_long value list in
      let same : k + 1 - 1 ≡ k = omega arith in
      let own : slice_index_or (column_of t j) k zero_ℚ ≡ value x =
      column_entry t j k (omega (arith, inside, t_long))
      ∙ ap (λ r. entry r j) (get_or-map (map value) list k [] [] inside ∙ ap (map value) (sym (row_is ∙ ap (λ m. slice_index_or list m []) same)))
      ∙ get_or-map value row (j - 1) x zero_ℚ (omega arith) ∙ ap value (sym x_is) in
      ap (map value) pushed ∙ map_push value old x ∙ ap₂ (λ a b. a ++ b ∷ []) is (sym own)
      ∙ sym (take_more (column_of t j) k zero_ℚ (omega (arith, inside, t_long, length-map t (λ r. entry r j))))

  pub rows_more : (old new : List (List F)) (row : List F) (n : ℕ) (f : ℕ → List ℚ) → new ≡ old ++ row ∷ [] → numbers value old ≡ listed n f → map value row ≡ f (n + 1) →
      numbers value new ≡ listed (n + 1) f
  rows_more old new row n f e is own = mapped_more (map value) old new row n f e is own
