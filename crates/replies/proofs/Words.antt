-- The numbers of an associated problem have words where those of the file have: the others are 1
-- and -1.
use Rattle.std.proofs.Common.{◌≡◌, ℕ, suc, List, [], ◌∷◌, ◌++◌, Option, None, codes, map, All, Err, Result, MatchResult, refl, sym, subst, pos, negsuc}
use Rattle.std.specs.List.{flat_map}
use Rattle.std.proofs.lemmas.List.Elements.{All-append, All-cons, All-head, All-map, All-nil, All-tail}
use Rattle.exact_field.specs.Rational.{ℚ, one_ℚ, neg_ℚ, whole}
use Rattle.exact_field.proofs.RationalLaws.{whole-neg}
use Rattle.polyhedra.proofs.Members.{all_of_members}
use Rattle.projection.specs.Associated.{associated_cells, cell, IsAssociated}
use Rattle.vlp_printer.specs.Printing.{HasWord, IsFirstWithoutWord, Prints, RefusesText}
use Rattle.vlp_printer.specs.declared.fault.PrintFault.{PrintFault}
use Rattle.vlp_printer.specs.declared.fault.PrintFault.TheVariants.{NotDecimal}
use Rattle.vlp_problem.specs.Sides.{numbers_from}
use Rattle.vlp_problem.specs.Values.{bound_numbers, cone_vectors, duality_entries, printed_numbers}
use Rattle.vlp_problem.specs.declared.problem.Bound.{Bound}
use Rattle.vlp_problem.specs.declared.problem.Cell.{Cell}
use Rattle.vlp_problem.specs.declared.problem.Cone.{Cone}
use Rattle.vlp_problem.specs.declared.problem.Cone.TheVariants.{Orthant}
use Rattle.vlp_problem.specs.declared.problem.Problem.{Problem}

front : (xs ys : List ℚ) → All HasWord (xs ++ ys) → All HasWord xs
front [] ys h = All-nil HasWord
front (x ∷ xs) ys h =
    All-cons HasWord x xs (All-head HasWord x (xs ++ ys) h)
    (front xs ys (All-tail HasWord x (xs ++ ys) h))

back : (xs ys : List ℚ) → All HasWord (xs ++ ys) → All HasWord ys
back [] ys h = h
back (x ∷ xs) ys h = back xs ys (All-tail HasWord x (xs ++ ys) h)

one_word : HasWord one_ℚ
unfolding whole
one_word = (codes "1", refl)

whole_minus_one_word : HasWord (whole (negsuc 0))
unfolding whole
whole_minus_one_word = (codes "-1", refl)

minus_one_word : HasWord (neg_ℚ one_ℚ)
minus_one_word = subst HasWord (sym (whole-neg (pos 1))) whole_minus_one_word

-- the objectives
cells_words : (k : ℕ) → All (λ c. HasWord c.value) (associated_cells k)
cells_words k =
    let P : Cell → Type 0 = λ c. HasWord c.value in
    let js : List ℕ = numbers_from 1 k in
    let unit : ℕ → Cell = λ j. cell j j one_ℚ in
    let last : ℕ → Cell = λ j. cell (suc k) j (neg_ℚ one_ℚ) in
    All-append P (map unit js) (map last js)
    (All-map P unit js (all_of_members (λ j. P (unit j)) js (λ j m. one_word)))
    (All-map P last js (all_of_members (λ j. P (last j)) js (λ j m. minus_one_word)))

-- the numbers of parts, in the order of printing
abbrev numbers_in : List Cell → List Cell → Option (List ℚ) → Cone → List Bound → List Bound → List ℚ
numbers_in a o duality cone rows cols =
    map (λ c. c.value) a ++ (map (λ c. c.value) o
    ++ (duality_entries duality ++ (flat_map (λ v. v) (cone_vectors cone)
    ++ (flat_map bound_numbers rows ++ flat_map bound_numbers cols))))

pub associated_words : (k : ℕ) (file made : Problem) → IsAssociated k file made →
    All HasWord (printed_numbers file) → All HasWord (printed_numbers made)
associated_words k file made s h =
    let entries : List ℚ = map (λ c. c.value) file.a in
    let objectives : List ℚ = map (λ c. c.value) file.o in
    let given : List ℚ = duality_entries file.duality in
    let vectors : List ℚ = flat_map (λ v. v) (cone_vectors file.cone) in
    let bounds : List ℚ = flat_map bound_numbers file.row_bounds ++ flat_map bound_numbers file.col_bounds in
    let bounds_words : All HasWord bounds =
    back vectors bounds (back given (vectors ++ bounds) (back objectives (given ++ (vectors ++ bounds))
    (back entries (objectives ++ (given ++ (vectors ++ bounds))) h))) in
    let made_words : All HasWord (numbers_in file.a (associated_cells k) None Orthant file.row_bounds file.col_bounds) =
    All-append HasWord entries (map (λ c. c.value) (associated_cells k) ++ bounds)
    (front entries (objectives ++ (given ++ (vectors ++ bounds))) h)
    (All-append HasWord (map (λ c. c.value) (associated_cells k)) bounds
    (All-map HasWord (λ c. c.value) (associated_cells k) (cells_words k)) bounds_words) in
    subst (λ (x : List Cell). All HasWord (numbers_in x made.o made.duality made.cone made.row_bounds made.col_bounds)) (sym s.a)
    (subst (λ (x : List Cell). All HasWord (numbers_in file.a x made.duality made.cone made.row_bounds made.col_bounds)) (sym s.o)
    (subst (λ (x : Option (List ℚ)). All HasWord (numbers_in file.a (associated_cells k) x made.cone made.row_bounds made.col_bounds)) (sym s.duality)
    (subst (λ (x : Cone). All HasWord (numbers_in file.a (associated_cells k) None x made.row_bounds made.col_bounds)) (sym s.cone)
    (subst (λ (x : List Bound). All HasWord (numbers_in file.a (associated_cells k) None Orthant x made.col_bounds)) (sym s.row_bounds)
    (subst (λ (x : List Bound). All HasWord (numbers_in file.a (associated_cells k) None Orthant file.row_bounds x)) (sym s.col_bounds) made_words)))))

-- a problem, all of whose numbers have words, is printed
pub decimal_of : (made : Problem) (x : Result (List ℕ) PrintFault) →
    MatchResult x (Prints made) (RefusesText made) → All HasWord (printed_numbers made) →
    (f : PrintFault) → x ≡ Err f → (q : ℚ) → f ≡ NotDecimal q → ⊥
decimal_of made x h words f is q same =
    let refused : RefusesText made f =
    subst (λ (y : Result (List ℕ) PrintFault). MatchResult y (Prints made) (RefusesText made)) is h in
    let first : IsFirstWithoutWord (printed_numbers made) q = subst (RefusesText made) same refused in
    first.no_word
    (All-head HasWord q first.after
    (back first.before (q ∷ first.after) (subst (All HasWord) first.place words)))
