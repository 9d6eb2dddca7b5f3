-- Digits without the zeros at their ends.
use Rattle.std.proofs.Common.{◌≡◌, refl, ℕ, ◌+◌, ◌-◌, ◌<◌, ◌≤◌, Bool, true, false, not, ◌&&◌, if◌then◌else◌, List, [], ◌∷◌, ◌++◌, length, get_or, take, arith, ap, sym, ◌∙◌, subst, inl, inr}
use Rattle.std.specs.List.{list_all, list_any, position_or_len}
use Rattle.std.proofs.lemmas.Bool.{cond-true, cond-false, cond_both, cases_Bool, eq-eqb, ne_eqb, or_from, or_left, or_right}
use Rattle.std.proofs.lemmas.List.{take_more}
use Rattle.vlp_reader.specs.Number.{is_nought, without_leading_zeros, without_trailing_zeros}

pub leading-append_some : (xs ys : List ℕ) → 0 < length (without_leading_zeros xs) → without_leading_zeros (xs ++ ys) ≡ without_leading_zeros xs ++ ys
leading-append_some [] ys h = absurd (omega arith)
leading-append_some (x ∷ xs) ys h = elim (cases_Bool (is_nought x)) [
  | inl zero_digit ↦
      cond-true (is_nought x) _ _ zero_digit
      ∙ leading-append_some xs ys (subst (λ (l : List ℕ). 0 < length l) (cond-true (is_nought x) (without_leading_zeros xs) (x ∷ xs) zero_digit) h)
      ∙ ap (λ (l : List ℕ). l ++ ys) (sym (cond-true (is_nought x) (without_leading_zeros xs) (x ∷ xs) zero_digit))
  | inr other ↦ cond-false (is_nought x) _ _ other ∙ ap (λ (l : List ℕ). l ++ ys) (sym (cond-false (is_nought x) (without_leading_zeros xs) (x ∷ xs) other))
]

pub leading-append_none : (xs ys : List ℕ) → length (without_leading_zeros xs) ≡ 0 → without_leading_zeros (xs ++ ys) ≡ without_leading_zeros ys
leading-append_none [] ys h = refl
leading-append_none (x ∷ xs) ys h = elim (cases_Bool (is_nought x)) [
  | inl zero_digit ↦
      cond-true (is_nought x) _ _ zero_digit
      ∙ leading-append_none xs ys (ap length (sym (cond-true (is_nought x) (without_leading_zeros xs) (x ∷ xs) zero_digit)) ∙ h)
  | inr other ↦
      let same : length (if is_nought x then without_leading_zeros xs else x ∷ xs) ≡ length (x ∷ xs) = ap length (cond-false (is_nought x) (without_leading_zeros xs) (x ∷ xs) other) in
      absurd (omega (arith, same, h))
]

pub leading-none : (x : ℕ) (xs : List ℕ) → is_nought x ≡ false → without_leading_zeros (x ∷ xs) ≡ x ∷ xs
leading-none x xs h = cond-false (is_nought x) _ _ h

all-append_true : (xs ys : List ℕ) → list_all is_nought ys ≡ true → list_all is_nought (xs ++ ys) ≡ list_all is_nought xs
all-append_true [] ys h = h
all-append_true (x ∷ xs) ys h = ap (λ b. is_nought x && b) (all-append_true xs ys h)

and_false : (a : Bool) → (a && false) ≡ false
and_false true = refl
and_false false = refl

all-append_false : (xs ys : List ℕ) → list_all is_nought ys ≡ false → list_all is_nought (xs ++ ys) ≡ false
all-append_false [] ys h = h
all-append_false (x ∷ xs) ys h = ap (λ b. is_nought x && b) (all-append_false xs ys h) ∙ and_false (is_nought x)

-- where only zeros follow
trailing-zeros : (xs ys : List ℕ) → list_all is_nought ys ≡ true → without_trailing_zeros ys ≡ [] → without_trailing_zeros (xs ++ ys) ≡ without_trailing_zeros xs
trailing-zeros [] ys h k = k
trailing-zeros (x ∷ xs) ys h k =
    ap (λ b. if b then [] else x ∷ without_trailing_zeros (xs ++ ys)) (ap (λ b. is_nought x && b) (all-append_true xs ys h))
    ∙ ap (λ (l : List ℕ). if is_nought x && list_all is_nought xs then [] else x ∷ l) (trailing-zeros xs ys h k)

trailing-others : (xs ys : List ℕ) → list_all is_nought ys ≡ false → without_trailing_zeros (xs ++ ys) ≡ xs ++ without_trailing_zeros ys
trailing-others [] ys h = refl
trailing-others (x ∷ xs) ys h =
    cond-false (is_nought x && list_all is_nought (xs ++ ys)) _ _ (all-append_false (x ∷ xs) ys h) ∙ ap (λ (l : List ℕ). x ∷ l) (trailing-others xs ys h)

all_zeros : (ys : List ℕ) → length (without_trailing_zeros ys) ≡ 0 → list_all is_nought ys ≡ true
all_zeros [] h = refl
all_zeros (y ∷ ys) h = elim (cases_Bool (list_all is_nought (y ∷ ys))) [
  | inl all ↦ all
  | inr some ↦
      let same : length (if list_all is_nought (y ∷ ys) then [] else y ∷ without_trailing_zeros ys) ≡ length (y ∷ without_trailing_zeros ys) =
      ap length (cond-false (list_all is_nought (y ∷ ys)) [] (y ∷ without_trailing_zeros ys) some) in
      absurd (omega (arith, same, h))
]

not_all : (ys : List ℕ) → 0 < length (without_trailing_zeros ys) → list_all is_nought ys ≡ false
not_all [] h = absurd (omega arith)
not_all (y ∷ ys) h = elim (cases_Bool (list_all is_nought (y ∷ ys))) [
  | inl all ↦
      let same : length (if list_all is_nought (y ∷ ys) then [] else y ∷ without_trailing_zeros ys) ≡ 0 =
      ap length (cond-true (list_all is_nought (y ∷ ys)) [] (y ∷ without_trailing_zeros ys) all) in
      absurd (omega (arith, same, h))
  | inr some ↦ some
]

pub nothing : (xs : List ℕ) → length xs ≡ 0 → xs ≡ []
nothing [] h = refl
nothing (x ∷ xs) h = absurd (omega arith)

pub trailing-append_none : (xs ys : List ℕ) → length (without_trailing_zeros ys) ≡ 0 → without_trailing_zeros (xs ++ ys) ≡ without_trailing_zeros xs
trailing-append_none xs ys h = trailing-zeros xs ys (all_zeros ys h) (nothing (without_trailing_zeros ys) h)

pub trailing-append_some : (xs ys : List ℕ) → 0 < length (without_trailing_zeros ys) → without_trailing_zeros (xs ++ ys) ≡ xs ++ without_trailing_zeros ys
trailing-append_some xs ys h = trailing-others xs ys (not_all ys h)

-- a digit at the end
pub trailing-zero : (xs : List ℕ) (y : ℕ) → y ≡ 48 → without_trailing_zeros (xs ++ y ∷ []) ≡ without_trailing_zeros xs
trailing-zero xs y h =
    let all : list_all is_nought (y ∷ []) ≡ true = ap (λ b. b && true) (eq-eqb y 48 h) in
    trailing-zeros xs (y ∷ []) all (cond-true (list_all is_nought (y ∷ [])) [] (y ∷ []) all)

pub trailing-other : (xs : List ℕ) (y : ℕ) → (y ≡ 48 → ⊥) → without_trailing_zeros (xs ++ y ∷ []) ≡ xs ++ y ∷ []
trailing-other xs y h =
    let some : list_all is_nought (y ∷ []) ≡ false = ap (λ b. b && true) (ne_eqb y 48 h) in
    trailing-others xs (y ∷ []) some ∙ ap (λ (l : List ℕ). xs ++ l) (cond-false (list_all is_nought (y ∷ [])) [] (y ∷ []) some)

-- whether an element passes, by the place of the first that does
pub any-none : (p : ℕ → Bool) (xs : List ℕ) → position_or_len p xs ≡ length xs → list_any p xs ≡ false
any-none p [] h = refl
any-none p (x ∷ xs) h = elim (cases_Bool (p x)) [
  | inl passes ↦ absurd (omega (arith, sym (cond-false (not (p x)) (1 + position_or_len p xs) 0 (ap not passes)), h))
  | inr fails ↦
      or_from (p x) (list_any p xs) fails (any-none p xs (let e : position_or_len p (x ∷ xs) ≡ 1 + position_or_len p xs = cond-true (not (p x)) (1 + position_or_len p xs) 0 (ap not fails) in omega arith))
]

pub any-some : (p : ℕ → Bool) (xs : List ℕ) → position_or_len p xs < length xs → list_any p xs ≡ true
any-some p [] h = absurd (omega arith)
any-some p (x ∷ xs) h = elim (cases_Bool (p x)) [
  | inl passes ↦ or_left (p x) (list_any p xs) passes
  | inr fails ↦
      or_right (p x) (list_any p xs) (any-some p xs (let e : position_or_len p (x ∷ xs) ≡ 1 + position_or_len p xs = cond-true (not (p x)) (1 + position_or_len p xs) 0 (ap not fails) in omega arith))
]

pub length-trailing : (xs : List ℕ) → length (without_trailing_zeros xs) ≤ length xs
length-trailing [] = omega arith
length-trailing (x ∷ xs) =
    let more = length-trailing xs in
    cond_both (list_all is_nought (x ∷ xs)) [] (x ∷ without_trailing_zeros xs) (λ (l : List ℕ). length l ≤ length (x ∷ xs)) (λ _. omega arith) (λ _. omega arith)

pub trailing-step : (xs : List ℕ) (n : ℕ) → 0 < n → n ≤ length xs → get_or xs (n - 1) 0 ≡ 48 → without_trailing_zeros (take (n - 1) xs) ≡ without_trailing_zeros (take n xs)
trailing-step xs n some within zero_digit =
    let split : take n xs ≡ take (n - 1) xs ++ get_or xs (n - 1) 0 ∷ [] = ap (λ k. take k xs) (omega arith) ∙ take_more xs (n - 1) 0 (omega arith) in
    sym (ap without_trailing_zeros split ∙ trailing-zero (take (n - 1) xs) (get_or xs (n - 1) 0) zero_digit)

pub trailing-stop : (xs : List ℕ) (n : ℕ) → 0 < n → n ≤ length xs → (get_or xs (n - 1) 0 ≡ 48 → ⊥) → without_trailing_zeros (take n xs) ≡ take n xs
trailing-stop xs n some within other =
    let split : take n xs ≡ take (n - 1) xs ++ get_or xs (n - 1) 0 ∷ [] = ap (λ k. take k xs) (omega arith) ∙ take_more xs (n - 1) 0 (omega arith) in
    ap without_trailing_zeros split ∙ trailing-other (take (n - 1) xs) (get_or xs (n - 1) 0) other ∙ sym split

pub trailing-empty : (xs : List ℕ) (n : ℕ) → n ≡ 0 → without_trailing_zeros (take n xs) ≡ take n xs
trailing-empty xs n h = subst (λ (k : ℕ). without_trailing_zeros (take k xs) ≡ take k xs) (sym h) refl
