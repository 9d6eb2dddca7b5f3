-- A loop that appends: one element more.
use Rattle.std.proofs.Common.{◌≡◌, ℕ, zero, suc, arith, List, [], ◌∷◌, ◌++◌, ◌+◌, ◌-◌, ◌<◌, map, length, take, sym, ap, ap₂, ◌∙◌, slice_index_or, Bool, true, false, true≢false, refl, IsTrue}
use Rattle.std.specs.Prelude.{◌&&◌, ◌↔◌}
use Rattle.std.specs.List.{flat_map, list_all}
use Rattle.exact_field.specs.Rational.{ℚ, zero_ℚ, whole}
use Rattle.frac128.specs.Sparse.{is_zero}
use Rattle.vlp_problem.proofs.Zero.{zero_is}
use Rattle.tableaux.specs.Table.{row_of}
use Rattle.lin_rows.specs.Read.{numbers}
use Rattle.lin_rows.proofs.Building.{number_row}
use Rattle.polyhedra.proofs.Tests.{both_true}
use Rattle.std.proofs.lemmas.List.{map_push, take_more, append_assoc}
use Rattle.vlp_problem.proofs.Pieces.{flat_map_take}

pub take_next : {X : Type 0} (xs : List X) (i : ℕ) (x : X) → i < length xs → x ≡ slice_index_or xs i x → take (i + 1) xs ≡ take i xs ++ x ∷ []
take_next xs i x h e = take_more xs i x h ∙ ap (λ y. take i xs ++ y ∷ []) (sym e)

-- what passes for all passes for one
pub each_passes : {X : Type 0} (p : X → Bool) (xs : List X) (i : ℕ) (x : X) → list_all p xs ≡ true → i < length xs → x ≡ slice_index_or xs i x → p x ≡ true
each_passes p [] i x h l e = absurd (omega arith)
each_passes p (y ∷ ys) zero x h l e = ap p e ∙ (both_true (p y) (list_all p ys) h).0
each_passes p (y ∷ ys) (suc i) x h l e = each_passes p ys i x (both_true (p y) (list_all p ys) h).1 (omega arith) e

-- an element that stands for a value is appended
pub value_pushed : {F Y : Type 0} (value : F → Y) (old new : List F) (y : F) (q : Y) → new ≡ old ++ y ∷ [] → value y ≡ q → map value new ≡ map value old ++ q ∷ []
value_pushed value old new y q e is = ap (map value) e ∙ map_push value old y ∙ ap (λ b. map value old ++ b ∷ []) is

pub taken_more : {X Y : Type 0} (h : X → Y) (start old new : List Y) (xs : List X) (i : ℕ) (x : X) → i < length xs → x ≡ slice_index_or xs i x → old ≡ start ++ map h (take i xs) →
    new ≡ old ++ h x ∷ [] → new ≡ start ++ map h (take (i + 1) xs)
taken_more h start old new xs i x inside e is more =
    more ∙ ap (λ l. l ++ h x ∷ []) is ∙ append_assoc start (map h (take i xs)) (h x ∷ [])
    ∙ ap (λ l. start ++ l) (sym (ap (map h) (take_next xs i x inside e) ∙ map_push h (take i xs) x))

pub flat_more : {X Y : Type 0} (f : X → List Y) (start old new : List Y) (xs : List X) (i : ℕ) (x : X) → i < length xs → x ≡ slice_index_or xs i x → old ≡ start ++ flat_map f (take i xs) →
    new ≡ old ++ f x → new ≡ start ++ flat_map f (take (i + 1) xs)
flat_more f start old new xs i x inside e is more =
    more ∙ ap (λ l. l ++ f x) is ∙ append_assoc start (flat_map f (take i xs)) (f x) ∙ ap (λ l. start ++ l) (sym (flat_map_take f xs i x inside e))

pub prefix_more : {X : Type 0} (old new xs : List X) (i : ℕ) (x : X) → i < length xs → x ≡ slice_index_or xs i x → old ≡ take i xs → new ≡ old ++ x ∷ [] → new ≡ take (i + 1) xs
prefix_more old new xs i x inside e is more = more ∙ ap (λ l. l ++ x ∷ []) is ∙ sym (take_next xs i x inside e)

-- one that fails is enough
pub one_fails : {X : Type 0} (p : X → Bool) (xs : List X) (i : ℕ) (x : X) → i < length xs → x ≡ slice_index_or xs i x → p x ≡ false → list_all p xs ≡ false
one_fails p xs i x l e h = by_test (list_all p xs) refl
  where
    by_test : (b : Bool) → list_all p xs ≡ b → b ≡ false
    by_test false q = refl
    by_test true q = absurd (true≢false (sym (each_passes p xs i x q l e) ∙ h))

module _ {F : Type 0} (value : F → ℚ) where
  -- a row in numbers
  pub row_at : (rows : List (List F)) (g : ℕ) (x : List F) → g < length rows → x ≡ slice_index_or rows g x → map value x ≡ row_of (numbers value rows) (g + 1)
  row_at rows g x l e =
      let back : g + 1 - 1 ≡ g = omega arith in
      ap (map value) (e ∙ ap (λ k. slice_index_or rows k x) (sym back)) ∙ sym (number_row value rows (g + 1) x (omega arith) (omega arith))

-- a number is 0 where its test says so
pub nought : (q : ℚ) (b : Bool) → IsTrue b ↔ (q ≡ zero_ℚ) → b ≡ true → is_zero q ≡ true
unfolding whole
nought q b h e = ap is_zero (h.0 e)

pub not_nought : (q : ℚ) (b : Bool) → IsTrue b ↔ (q ≡ zero_ℚ) → b ≡ false → is_zero q ≡ false
not_nought q b h e = by_test (is_zero q) refl
  where
    by_test : (t : Bool) → is_zero q ≡ t → t ≡ false
    by_test false s = refl
    by_test true s = absurd (true≢false (sym (h.1 (zero_is q s)) ∙ e))

pub all_more : {F : Type 0} (value : F → ℚ) (xs : List F) (i : ℕ) (x : F) → i < length xs → x ≡ slice_index_or xs i x → list_all is_zero (map value (take i xs)) ≡ true → is_zero (value x) ≡ true →
    list_all is_zero (map value (take (i + 1) xs)) ≡ true
all_more value xs i x l e before own =
    ap (λ ys. list_all is_zero (map value ys)) (take_next xs i x l e) ∙ ap (list_all is_zero) (map_push value (take i xs) x)
    ∙ all_push is_zero (map value (take i xs)) (value x) before own
  where
    all_push : (p : ℚ → Bool) (ys : List ℚ) (y : ℚ) → list_all p ys ≡ true → p y ≡ true → list_all p (ys ++ y ∷ []) ≡ true
    all_push p [] y b o = ap (λ t. t && true) o
    all_push p (z ∷ ys) y b o = let both = both_true (p z) (list_all p ys) b in ap₂ (λ s t. s && t) both.0 (all_push p ys y both.1 o)
