-- The product of two vectors, from a total on and place by place.
use Rattle.std.specs.Prelude.{◌≡◌, ℕ, ◌+◌, ◌<◌, ◌≤◌, Bool, IsTrue, List, [], ◌∷◌, length, map, drop, get_or, Option, Some, None, IfSome}
use Rattle.std.proofs.Common.{sym, ap, ◌∙◌, subst}
use Rattle.std.proofs.lemmas.List.{at_drop_more, drop_all, drop-map}
use Rattle.exact_field.specs.Field.{AreSumsHeld, IsShortDot}
use Rattle.exact_field.specs.Rational.{ℚ, zero_ℚ, ◌+ℚ◌, ◌*ℚ◌}
use Rattle.exact_field.specs.Vector.{dot}
use Rattle.exact_field.proofs.Rationals.{add_assoc_ℚ, zero-add_ℚ, add-zero_ℚ}

-- with the product of what is left from place i, the total is the product of the vectors, and all that comes before it
-- is held where all from here is
pub record IsDotFrom (holds : ℚ → Bool) (xs ys : List ℚ) (i : ℕ) (total : ℚ) : Type 0 where
  pub rest : total +ℚ dot (drop i xs) (drop i ys) ≡ dot xs ys
  pub held : AreSumsHeld holds total (drop i xs) (drop i ys) → AreSumsHeld holds zero_ℚ xs ys

pub dot_start : (holds : ℚ → Bool) (xs ys : List ℚ) (total : ℚ) → total ≡ zero_ℚ → IsDotFrom holds xs ys 0 total
dot_start holds xs ys total e =
    record {
      rest = ap (λ (z : ℚ). z +ℚ dot xs ys) e ∙ zero-add_ℚ (dot xs ys);
      held = λ h. subst (λ (z : ℚ). AreSumsHeld holds z xs ys) e h;
    }

-- one more place, where the vectors go on with x and y
pub dot_on : (holds : ℚ → Bool) (xs ys : List ℚ) (i : ℕ) (x y total next : ℚ) → drop i xs ≡ x ∷ drop (i + 1) xs → drop i ys ≡ y ∷ drop (i + 1) ys → IsDotFrom holds xs ys i total → next ≡ total +ℚ x *ℚ y → IsTrue (holds (x *ℚ y)) → IsTrue (holds next) → IsDotFrom holds xs ys (i + 1) next
dot_on holds xs ys i x y total next ex ey from e product_held next_held =
    let split : total +ℚ dot (drop i xs) (drop i ys) ≡ total +ℚ (x *ℚ y +ℚ dot (drop (i + 1) xs) (drop (i + 1) ys)) =
    ap (λ (zs : List ℚ). total +ℚ dot zs (drop i ys)) ex ∙ ap (λ (zs : List ℚ). total +ℚ dot (x ∷ drop (i + 1) xs) zs) ey in
    record {
      rest =
          ap (λ (z : ℚ). z +ℚ dot (drop (i + 1) xs) (drop (i + 1) ys)) e
          ∙ add_assoc_ℚ total (x *ℚ y) (dot (drop (i + 1) xs) (drop (i + 1) ys))
          ∙ sym split ∙ from.rest;
      held =
          λ h.
          from.held
          (subst (λ (zs : List ℚ). AreSumsHeld holds total zs (drop i ys)) (sym ex)
          (subst (λ (zs : List ℚ). AreSumsHeld holds total (x ∷ drop (i + 1) xs) zs) (sym ey)
          (product_held, subst (λ (z : ℚ). IsTrue (holds z)) e next_held, subst (λ (z : ℚ). AreSumsHeld holds z (drop (i + 1) xs) (drop (i + 1) ys)) e h)));
    }

-- the numbers of a list from a place on
pub left_at : {F : Type 0} (value : F → ℚ) (xs : List F) (i : ℕ) (x : F) → i < length xs → x ≡ get_or xs i x → drop i (map value xs) ≡ value x ∷ drop (i + 1) (map value xs)
left_at value xs i x within is =
    drop-map value i xs
    ∙ at_drop_more (map value) xs i x within
    ∙ ap (λ z. value z ∷ map value (drop (i + 1) xs)) (sym is)
    ∙ ap (λ zs. value x ∷ zs) (sym (drop-map value (i + 1) xs))

pub dot_end : {F : Type 0} (value : F → ℚ) (holds : ℚ → Bool) (xs ys : List ℚ) (i : ℕ) (total : ℚ) (o : Option F) → length xs ≤ i → IsDotFrom holds xs ys i total → IfSome o (λ q. value q ≡ total) → IsShortDot value holds xs ys o
dot_end value holds xs ys i total None over from answer = tt
dot_end value holds xs ys i total (Some q) over from answer =
    let none : drop i xs ≡ [] = drop_all i xs over in
    let all : total ≡ dot xs ys = sym (add-zero_ℚ total) ∙ ap (λ (zs : List ℚ). total +ℚ dot zs (drop i ys)) (sym none) ∙ from.rest in
    (answer ∙ all, from.held (subst (λ (zs : List ℚ). AreSumsHeld holds total zs (drop i ys)) (sym none) tt))
