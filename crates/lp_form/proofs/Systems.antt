-- The named programs are systems: each equation has a coefficient for each unknown, and a right side.
use Rattle.std.proofs.Common.{◌≡◌, ℕ, zero, suc, List, [], ◌∷◌, ◌++◌, length, replicate, refl, sym, ap, ap₂, ◌∙◌, subst, arith, ◌<◌, ◌≤◌, ◌+◌, Bool, true, false, None, Some}
use Rattle.std.specs.Prelude.{if◌then◌else◌, ⊤}
use Rattle.std.proofs.Math.ListN.{length-append, length-replicate}
use Rattle.std.proofs.lemmas.List.{length-map}
use Rattle.std.proofs.lemmas.List.Elements.{All-append}
use Rattle.exact_field.specs.Rational.{ℚ, zero_ℚ, one_ℚ, neg_ℚ}
use Rattle.exact_field.specs.Vector.{entry}
use Rattle.polyhedra.specs.Negatives.{negated}
use Rattle.polyhedra.specs.Vectors.{AreWide, zeros}
use Rattle.polyhedra.proofs.Lists.{HasWidth, wide-nil, wide-cons}
use Rattle.tableaux.specs.Table.{Table, IsSystem, row_of, column_of, list_from, listed, unit}
use Rattle.tableaux.proofs.Places.{length-list_from, row-wide}
use Rattle.vlp_problem.specs.Sides.{sides, side_column, side_bounds, numbers_from}
use Rattle.vlp_problem.specs.Cones.{cone_fits}
use Rattle.vlp_problem.specs.declared.problem.Problem.{Problem}
use Rattle.vlp_problem.specs.declared.problem.Cone.{Cone}
use Rattle.vlp_problem.specs.declared.problem.Cone.TheVariants.{Orthant, Gens, Dual}
use Rattle.vlp_problem.proofs.Numbers.{length-numbers}
use Rattle.upper_image.specs.UpperImage.{objective_column}
use Rattle.upper_image.proofs.Widths.{vectors_wide}
use Rattle.lp_form.specs.Programs.{on_parts, balances, dual_members, dual_unknowns, dual_equations, weight_members, weight_unknowns, weight_equations, side_total, feasible_system, benson_system, weight_system, generator_gaps, dual_gaps, interior_of_generators, interior_of_dual, zero_combination, empty_system}

-- ---- tables
wide_append : (n : ℕ) (s t : Table) → AreWide n s → AreWide n t → AreWide n (s ++ t)
wide_append n s t h k = record { wide = All-append (HasWidth n) s t h.wide k.wide }

wide_from : (n k count : ℕ) (f : ℕ → List ℚ) → ((i : ℕ) → k ≤ i → i < k + count → length (f i) ≡ n) → AreWide n (list_from k count f)
wide_from n k zero f h = wide-nil n
wide_from n k (suc count) f h =
    wide-cons n (f k) (list_from (suc k) count f) (h k (omega arith) (omega arith)) (wide_from n (suc k) count f (λ i low high. h i (omega arith) (omega arith)))

wide_listed : (n count : ℕ) (f : ℕ → List ℚ) → ((i : ℕ) → 1 ≤ i → i ≤ count → length (f i) ≡ n) → AreWide n (listed count f)
wide_listed n count f h = wide_from n 1 count f (λ i low high. h i low (omega arith))

wide_one : (n : ℕ) (v : List ℚ) → length v ≡ n → AreWide n (v ∷ [])
wide_one n v h = wide-cons n v [] h (wide-nil n)

length-listed : {A : Type 0} (n : ℕ) (f : ℕ → A) → length (listed n f) ≡ n
length-listed n f = length-list_from 1 n f

pub length-zeros : (n : ℕ) → length (zeros n) ≡ n
length-zeros n = length-replicate n zero_ℚ

pub length-unit : (n k : ℕ) → length (unit n k) ≡ n
length-unit n k = length-list_from 1 n _

pub length-negated : (v : List ℚ) (n : ℕ) → length v ≡ n → length (negated v) ≡ n
length-negated v n h = length-map v neg_ℚ ∙ h

pub length-column : (t : Table) (j : ℕ) → length (column_of t j) ≡ length t
length-column t j = length-map t (λ r. entry r j)

length-three : (u v w : List ℚ) (a b c : ℕ) → length u ≡ a → length v ≡ b → length w ≡ c → length (u ++ v ++ w) ≡ a + b + c
length-three u v w a b c h k l = length-append (u ++ v) w ∙ ap₂ (λ x y. x + y) (length-append u v ∙ ap₂ (λ x y. x + y) h k) l

length-four : (t u v w : List ℚ) (z a b c : ℕ) → length t ≡ z → length u ≡ a → length v ≡ b → length w ≡ c → length (t ++ u ++ v ++ w) ≡ z + a + b + c
length-four t u v w z a b c g h k l = length-append (t ++ u ++ v) w ∙ ap₂ (λ x y. x + y) (length-three t u v z a b g h k) l

length-parts : (u w after : List ℚ) (m q more : ℕ) → length u ≡ m → length w ≡ q → length after ≡ more → length (on_parts u w after) ≡ m + q + q + more
length-parts u w after m q more h k l = length-four u w (negated w) after m q q more h k (length-negated w q k) l

-- ---- the programs of the sides
pub length-side_column : (file : Problem) (j : ℕ) → length (side_column file j) ≡ side_total file
length-side_column file j = length-map (sides file) _

pub length-side_bounds : (file : Problem) → length (side_bounds file) ≡ side_total file
length-side_bounds file = length-map (sides file) _

length-objectives : (file : Problem) (j : ℕ) → length (objective_column file j) ≡ file.objs
length-objectives file j = length-map (numbers_from 1 file.objs) _ ∙ length-numbers 1 file.objs

pub feasible_ok : (file : Problem) → IsSystem (feasible_system file)
feasible_ok file =
    record {
      wide = wide_listed _ file.cols (side_column file) (λ j low high. length-side_column file j ∙ sym (length-side_bounds file));
      right_each = length-zeros file.cols ∙ sym (length-listed file.cols (side_column file));
    }

-- a list of vectors of q entries each, where the cone is given by one
abbrev pub IsWideCone : ℕ → Cone → Type 0
IsWideCone q Orthant = ⊤
IsWideCone q (Gens vectors) = AreWide q vectors
IsWideCone q (Dual vectors) = AreWide q vectors

pub cone_wide : (q : ℕ) (cone : Cone) → cone_fits q cone ≡ true → IsWideCone q cone
cone_wide q Orthant h = tt
cone_wide q (Gens vectors) h = vectors_wide q vectors h
cone_wide q (Dual vectors) h = vectors_wide q vectors h

members_wide : (m q : ℕ) (cone : Cone) → IsWideCone q cone → AreWide (m + q + q + dual_unknowns q cone) (dual_members m q cone)
members_wide m q Orthant h =
    wide_listed _ q _ (λ i low high. length-parts (zeros m) (unit q i) (negated (unit q i)) m q q (length-zeros m) (length-unit q i) (length-negated (unit q i) q (length-unit q i)))
members_wide m q (Gens vectors) h =
    let n = length vectors in
    wide_listed _ n _
    (λ g low high. length-parts (zeros m) (row_of vectors g) (negated (unit n g)) m q n (length-zeros m) (row-wide q vectors g h low high) (length-negated (unit n g) n (length-unit n g)))
members_wide m q (Dual vectors) h =
    let n = length vectors in
    wide_listed _ q _
    (λ i low high. length-parts (zeros m) (unit q i) (negated (column_of vectors i)) m q n (length-zeros m) (length-unit q i) (length-negated (column_of vectors i) n (length-column vectors i)))

members_many : (m q : ℕ) (cone : Cone) → length (dual_members m q cone) ≡ dual_equations q cone
members_many m q Orthant = length-listed q _
members_many m q (Gens vectors) = length-listed (length vectors) _
members_many m q (Dual vectors) = length-listed q _

weight_wide : (m q : ℕ) (cone : Cone) → IsWideCone q cone → AreWide (m + q + q + weight_unknowns cone) (weight_members m q cone)
weight_wide m q Orthant h = wide-nil _
weight_wide m q (Gens vectors) h = wide-nil _
weight_wide m q (Dual vectors) h = members_wide m q (Dual vectors) h

weight_many : (m q : ℕ) (cone : Cone) → length (weight_members m q cone) ≡ weight_equations q cone
weight_many m q Orthant = refl
weight_many m q (Gens vectors) = refl
weight_many m q (Dual vectors) = members_many m q (Dual vectors)

balances_wide : (file : Problem) (more : ℕ) → AreWide (side_total file + file.objs + file.objs + more) (balances file more)
balances_wide file more =
    wide_listed _ file.cols _
    (λ j low high. length-parts (side_column file j) (negated (objective_column file j)) (zeros more) (side_total file) file.objs more (length-side_column file j)
    (length-negated (objective_column file j) file.objs (length-objectives file j)) (length-zeros more))

side_costs : (file : Problem) (t : Bool) → length (if t then side_bounds file else zeros (side_total file)) ≡ side_total file
side_costs file true = length-side_bounds file
side_costs file false = length-zeros (side_total file)

-- how many unknowns Benson's program has, at each start vector
pub length-benson_cost : (file : Problem) (c v : List ℚ) (t : Bool) → length v ≡ file.objs →
    length (benson_system file c v t).cost ≡ side_total file + file.objs + file.objs + dual_unknowns file.objs file.cone
length-benson_cost file c v t v_long =
    let more = dual_unknowns file.objs file.cone in
    length-parts _ (negated v) (zeros more) (side_total file) file.objs more (side_costs file t) (length-negated v file.objs v_long) (length-zeros more)

pub benson_ok : (file : Problem) (c v : List ℚ) (t : Bool) → length c ≡ file.objs → length v ≡ file.objs → IsSystem (benson_system file c v t)
benson_ok file c v t c_long v_long =
    let m = side_total file in
    let q = file.objs in
    let more = dual_unknowns q file.cone in
    let members = dual_members m q file.cone in
    let last = on_parts (zeros m) c (zeros more) in
    let s = benson_system file c v t in
    let cost : length s.cost ≡ m + q + q + more = length-benson_cost file c v t v_long in
    record {
      wide = subst (λ (n : ℕ). AreWide n s.equations) (sym cost)
          (wide_append _ (balances file more ++ members) (last ∷ [])
          (wide_append _ (balances file more) members (balances_wide file more) (members_wide m q file.cone (cone_wide q file.cone file.cone_vectors)))
          (wide_one _ last (length-parts (zeros m) c (zeros more) m q more (length-zeros m) c_long (length-zeros more))));
      right_each =
          length-append (zeros (file.cols + dual_equations q file.cone)) (one_ℚ ∷ []) ∙ ap (λ n. n + 1) (length-zeros (file.cols + dual_equations q file.cone))
          ∙ omega (arith, length-append (balances file more ++ members) (last ∷ []), length-append (balances file more) members, length-listed file.cols (λ j. on_parts (side_column file j) (negated (objective_column file j)) (zeros more)), members_many m q file.cone);
    }

pub weight_ok : (file : Problem) (w : List ℚ) → length w ≡ file.objs → IsSystem (weight_system file w)
weight_ok file w w_long =
    let m = side_total file in
    let q = file.objs in
    let more = weight_unknowns file.cone in
    let members = weight_members m q file.cone in
    let fixed = λ (i : ℕ). on_parts (zeros m) (unit q i) (zeros more) in
    let s = weight_system file w in
    let cost : length s.cost ≡ m + q + q + more = length-parts (side_bounds file) (zeros q) (zeros more) m q more (length-side_bounds file) (length-zeros q) (length-zeros more) in
    record {
      wide = subst (λ (n : ℕ). AreWide n s.equations) (sym cost)
          (wide_append _ (balances file more ++ listed q fixed) members
          (wide_append _ (balances file more) (listed q fixed) (balances_wide file more)
          (wide_listed _ q fixed (λ i low high. length-parts (zeros m) (unit q i) (zeros more) m q more (length-zeros m) (length-unit q i) (length-zeros more))))
          (weight_wide m q file.cone (cone_wide q file.cone file.cone_vectors)));
      right_each =
          length-three (zeros file.cols) w (zeros (weight_equations q file.cone)) file.cols q (weight_equations q file.cone) (length-zeros file.cols) w_long (length-zeros (weight_equations q file.cone))
          ∙ sym (length-append (balances file more ++ listed q fixed) members ∙ ap₂ (λ a b. a + b)
          (length-append (balances file more) (listed q fixed) ∙ ap₂ (λ a b. a + b) (length-listed file.cols _) (length-listed q fixed)) (weight_many m q file.cone));
    }

-- ---- the programs of the cone
pub empty_ok : IsSystem empty_system
empty_ok = record { wide = wide-nil 0; right_each = refl }

gaps_wide : (n more : ℕ) → AreWide (n + n + suc more) (generator_gaps n more)
gaps_wide n more =
    wide_listed _ n _
    (λ g low high. length-three (unit n g) (negated (unit n g)) (neg_ℚ one_ℚ ∷ zeros more) n n (suc more) (length-unit n g) (length-negated (unit n g) n (length-unit n g)) (ap suc (length-zeros more)))

-- zeros and one number, or two
length-one : (n : ℕ) (x : ℚ) → length (zeros n ++ x ∷ []) ≡ n + 1
length-one n x = length-append (zeros n) (x ∷ []) ∙ ap (λ k. k + 1) (length-zeros n)

length-two : (n : ℕ) (x y : ℚ) → length (zeros n ++ x ∷ y ∷ []) ≡ n + 2
length-two n x y = length-append (zeros n) (x ∷ y ∷ []) ∙ ap (λ k. k + 2) (length-zeros n)

pub given_ok : (q : ℕ) (vectors : List (List ℚ)) (f : List ℚ) → length f ≡ q → IsSystem (interior_of_generators q vectors (Some f))
given_ok q vectors f long =
    let n = length vectors in
    let columns = λ (i : ℕ). column_of vectors i ++ zeros (suc n) in
    let cost : length (zeros (n + n) ++ one_ℚ ∷ []) ≡ n + n + 1 = length-one (n + n) one_ℚ in
    record {
      wide = subst (λ (k : ℕ). AreWide k (generator_gaps n 0 ++ listed q columns)) (sym cost)
          (wide_append _ (generator_gaps n 0) (listed q columns) (gaps_wide n 0)
          (wide_listed _ q columns (λ i low high. length-append (column_of vectors i) (zeros (suc n)) ∙ ap₂ (λ a b. a + b) (length-column vectors i) (length-zeros (suc n)) ∙ omega arith)));
      right_each =
          length-append (zeros n) f ∙ ap₂ (λ a b. a + b) (length-zeros n) long
          ∙ sym (length-append (generator_gaps n 0) (listed q columns) ∙ ap₂ (λ a b. a + b) (length-listed n _) (length-listed q columns));
    }

pub found_ok : (q : ℕ) (vectors : List (List ℚ)) → IsSystem (interior_of_generators q vectors None)
found_ok q vectors =
    let n = length vectors in
    let last = column_of vectors q ++ zeros (n + 2) in
    let sum = zeros (n + n) ++ one_ℚ ∷ one_ℚ ∷ [] in
    let cost : length (zeros (n + n) ++ one_ℚ ∷ zero_ℚ ∷ []) ≡ n + n + 2 = length-two (n + n) one_ℚ zero_ℚ in
    record {
      wide = subst (λ (k : ℕ). AreWide k (generator_gaps n 1 ++ last ∷ sum ∷ [])) (sym cost)
          (wide_append _ (generator_gaps n 1) (last ∷ sum ∷ []) (gaps_wide n 1)
          (wide-cons _ last (sum ∷ []) (length-append (column_of vectors q) (zeros (n + 2)) ∙ ap₂ (λ a b. a + b) (length-column vectors q) (length-zeros (n + 2)) ∙ omega arith)
          (wide_one _ sum (length-two (n + n) one_ℚ one_ℚ))));
      right_each =
          length-two n one_ℚ one_ℚ
          ∙ sym (length-append (generator_gaps n 1) (last ∷ sum ∷ []) ∙ ap (λ a. a + 2) (length-listed n _));
    }

pub dual_ok : (q : ℕ) (vectors : List (List ℚ)) → AreWide q vectors → IsSystem (interior_of_dual q vectors)
dual_ok q vectors h =
    let n = length vectors in
    let last = unit q q ++ negated (unit q q) ++ zeros (n + 2) in
    let sum = zeros (q + q + n) ++ one_ℚ ∷ one_ℚ ∷ [] in
    let cost : length (zeros (q + q + n) ++ one_ℚ ∷ zero_ℚ ∷ []) ≡ q + q + n + 2 = length-two (q + q + n) one_ℚ zero_ℚ in
    let rows : AreWide (q + q + n + 2) (dual_gaps vectors) =
    wide_listed _ n _
    (λ d low high. length-four (row_of vectors d) (negated (row_of vectors d)) (negated (unit n d)) (neg_ℚ one_ℚ ∷ zero_ℚ ∷ []) q q n 2 (row-wide q vectors d h low high)
    (length-negated (row_of vectors d) q (row-wide q vectors d h low high)) (length-negated (unit n d) n (length-unit n d)) refl) in
    record {
      wide = subst (λ (k : ℕ). AreWide k (dual_gaps vectors ++ last ∷ sum ∷ [])) (sym cost)
          (wide_append _ (dual_gaps vectors) (last ∷ sum ∷ []) rows
          (wide-cons _ last (sum ∷ [])
          (length-three (unit q q) (negated (unit q q)) (zeros (n + 2)) q q (n + 2) (length-unit q q) (length-negated (unit q q) q (length-unit q q)) (length-zeros (n + 2)) ∙ omega arith)
          (wide_one _ sum (length-two (q + q + n) one_ℚ one_ℚ))));
      right_each =
          length-two n one_ℚ one_ℚ
          ∙ sym (length-append (dual_gaps vectors) (last ∷ sum ∷ []) ∙ ap (λ a. a + 2) (length-listed n _));
    }

pub combination_ok : (q : ℕ) (vectors : List (List ℚ)) → IsSystem (zero_combination q vectors)
combination_ok q vectors =
    let n = length vectors in
    let ones = replicate n one_ℚ in
    record {
      wide = subst (λ (k : ℕ). AreWide k (listed q (column_of vectors) ++ ones ∷ [])) (sym (length-zeros n))
          (wide_append _ (listed q (column_of vectors)) (ones ∷ []) (wide_listed _ q (column_of vectors) (λ i low high. length-column vectors i))
          (wide_one _ ones (length-replicate n one_ℚ)));
      right_each = length-one q one_ℚ ∙ sym (length-append (listed q (column_of vectors)) (ones ∷ []) ∙ ap (λ a. a + 1) (length-listed q (column_of vectors)));
    }
