-- The program of an interior vector of generators where the vector f is given.
use Rattle.std.proofs.Common.{◌≡◌, ◌≢◌, ℕ, suc, List, [], ◌∷◌, ◌++◌, length, take, drop, All, refl, sym, ap, ap₂, ◌∙◌, subst, arith, ◌≤◌, ◌+◌, Some, append_assoc}
use Rattle.std.proofs.Math.ListN.{length-append, length-replicate}
use Rattle.std.proofs.lemmas.List.{length-drop}
use Rattle.std.proofs.lemmas.List.Elements.{All-take, All-drop, All-replicate}
use Rattle.exact_field.specs.Rational.{ℚ, zero_ℚ, one_ℚ, ◌+ℚ◌, ◌*ℚ◌, neg_ℚ, ◌≤ℚ◌, ◌<ℚ◌}
use Rattle.exact_field.specs.Vector.{entry, dot}
use Rattle.polyhedra.specs.Vectors.{AreWide, AtLeastZero, zeros, values, combination}
use Rattle.polyhedra.proofs.Algebra.{zero_add, zero_mul, one_mul, mul_zero}
use Rattle.polyhedra.proofs.Laws.{add_zero, le_refl, le_of_lt, mul_one, zero_lt_one}
use Rattle.polyhedra.proofs.Linear.{dot-zeros, dot-combination, length-zeros}
use Rattle.polyhedra.proofs.Lists.{Nonneg}
use Rattle.polyhedra.proofs.Order.{lt_irrefl, add_positive_right}
use Rattle.tableaux.specs.Table.{Table, System, column_of, listed, unit}
use Rattle.tableaux.specs.Simplex.{IsOptimal, IsInfeasible, IsUnbounded}
use Rattle.tableaux.proofs.Definition.{unit_value}
use Rattle.tableaux.proofs.Inverse.{dot-append}
use Rattle.tableaux.proofs.Places.{length-list_from}
use Rattle.vlp_problem.specs.declared.problem.Cone.TheVariants.{Gens}
use Rattle.lp_form.specs.Programs.{generator_gaps, interior_of_generators}
use Rattle.lp_form.proofs.Systems.{given_ok, length-unit}
use Rattle.cone_rules.specs.Faults.{HasInterior, HasNoLine, ShowsOutside}
use Rattle.cone_rules.specs.Laws.{GivenProgram, IsPositiveCombination}
use Rattle.cone_rules.proofs.Parts.{ones, append_parts, zeros-append, all_entries, all_at, all_rows, nonneg_at, dot_parts_at, dot-zeros_left, values-append, values_columns_led, optimal_at, infeasible_at}
use Rattle.cone_rules.proofs.Gaps.{gap, gap_long, gap_value, gap_product, gaps_values, gap_none, gap_first, gap_second, gap_third, no_number, front_long, middle_long, three_parts}
use Rattle.cone_rules.proofs.Lineality.{whole_or_zero}
use Rattle.cone_rules.proofs.Ranks.{unit_nonneg}
use Rattle.cone_rules.proofs.Rows.{no_spot}

pub nonneg_zeros : (n : ℕ) → AtLeastZero (zeros n)
nonneg_zeros n = All-replicate Nonneg n zero_ℚ (le_refl zero_ℚ)

pub nonneg_ones : (n : ℕ) → AtLeastZero (ones n)
nonneg_ones n = All-replicate Nonneg n one_ℚ (le_of_lt zero_ℚ one_ℚ zero_lt_one)

pub ones_long : (n : ℕ) → length (ones n) ≡ n
ones_long n = length-replicate n one_ℚ

pub nonneg_three : (a b c : List ℚ) → AtLeastZero a → AtLeastZero b → AtLeastZero c → AtLeastZero (a ++ (b ++ c))
nonneg_three a b c h k l = Rattle.std.proofs.lemmas.List.Elements.All-append Nonneg a (b ++ c) h (Rattle.std.proofs.lemmas.List.Elements.All-append Nonneg b c k l)

-- ---- what the multipliers of generators say: u on the vectors, p on the gaps
module _ (n : ℕ) (vectors : Table) (p u : List ℚ) (bound : ℚ) (many : length vectors ≡ n)
    (low : (a b : List ℚ) (e : ℚ) → length a ≡ n → length b ≡ n → AtLeastZero a → AtLeastZero b → zero_ℚ ≤ℚ e →
    bound *ℚ e ≤ℚ gap_value n p a b e +ℚ dot a (values vectors u)) where
  first : (a : List ℚ) → length a ≡ n → AtLeastZero a → zero_ℚ ≤ℚ dot p a +ℚ dot a (values vectors u)
  first a long h =
      subst (λ (x : ℚ). x ≤ℚ dot p a +ℚ dot a (values vectors u)) (mul_zero bound)
      (subst (λ (x : ℚ). bound *ℚ zero_ℚ ≤ℚ x +ℚ dot a (values vectors u)) (gap_first n p a)
      (low a (zeros n) zero_ℚ long (length-zeros n) h (nonneg_zeros n) (le_refl zero_ℚ)))

  second : (b : List ℚ) → length b ≡ n → AtLeastZero b → zero_ℚ ≤ℚ neg_ℚ (dot p b)
  second b long h =
      subst (λ (x : ℚ). x ≤ℚ neg_ℚ (dot p b)) (mul_zero bound)
      (subst (λ (x : ℚ). bound *ℚ zero_ℚ ≤ℚ x)
      (ap₂ (λ x y. x +ℚ y) (gap_second n p b) (dot-zeros_left n (values vectors u)) ∙ add_zero (neg_ℚ (dot p b)))
      (low (zeros n) b zero_ℚ (length-zeros n) long (nonneg_zeros n) h (le_refl zero_ℚ)))

  third : bound ≤ℚ neg_ℚ (dot p (ones n))
  third =
      subst (λ (x : ℚ). x ≤ℚ neg_ℚ (dot p (ones n))) (mul_one bound)
      (subst (λ (x : ℚ). bound *ℚ one_ℚ ≤ℚ x)
      (ap₂ (λ x y. x +ℚ y) (gap_third n p) (dot-zeros_left n (values vectors u)) ∙ add_zero (neg_ℚ (dot p (ones n))))
      (low (zeros n) (zeros n) one_ℚ (length-zeros n) (length-zeros n) (nonneg_zeros n) (nonneg_zeros n) (le_of_lt zero_ℚ one_ℚ zero_lt_one)))

  pub rows_nonneg : All (λ v. zero_ℚ ≤ℚ dot v u) vectors
  rows_nonneg = all_rows (λ v. zero_ℚ ≤ℚ dot v u) vectors
      (λ g l h. subst (λ (x : ℚ). zero_ℚ ≤ℚ x) (unit_value vectors u g l h)
      (subst (λ (k : ℕ). zero_ℚ ≤ℚ dot (unit k g) (values vectors u)) (sym many)
      (nonneg_at (dot p (unit n g)) (dot (unit n g) (values vectors u)) (second (unit n g) (length-unit n g) (unit_nonneg n g))
      (first (unit n g) (length-unit n g) (unit_nonneg n g)))))

  pub not_all_zero : (q : ℕ) → bound ≡ one_ℚ → u ≢ zeros q
  not_all_zero q e z =
      no_number (dot p (ones n))
      (subst (λ (x : ℚ). zero_ℚ ≤ℚ x)
      (ap (λ x. dot p (ones n) +ℚ x) (ap (λ v. dot (ones n) (values vectors v)) z ∙ no_values (ones n) vectors q) ∙ add_zero (dot p (ones n)))
      (first (ones n) (ones_long n) (nonneg_ones n)))
      (subst (λ (x : ℚ). x ≤ℚ neg_ℚ (dot p (ones n))) e third)
    where
      no_values : (a : List ℚ) (vs : Table) (k : ℕ) → dot a (values vs (zeros k)) ≡ zero_ℚ
      no_values [] vs k = refl
      no_values (x ∷ a) [] k = refl
      no_values (x ∷ a) (v ∷ vs) k = ap₂ (λ y z. y +ℚ z) (ap (λ y. x *ℚ y) (dot-zeros v k) ∙ mul_zero x) (no_values a vs k) ∙ add_zero zero_ℚ

module _ (q : ℕ) (vectors : List (List ℚ)) (f : List ℚ) (w : AreWide q vectors) (f_long : length f ≡ q) where
  abbrev n : ℕ
  n = length vectors

  abbrev s : System
  s = interior_of_generators q vectors (Some f)

  given_values : (a b : List ℚ) (e : ℚ) → length a ≡ n → length b ≡ n → values s.equations (a ++ (b ++ e ∷ [])) ≡ gap n a b e ++ combination q a vectors
  given_values a b e h k =
      values-append (generator_gaps n 0) (listed q (λ i. column_of vectors i ++ zeros (suc n))) (a ++ (b ++ e ∷ []))
      ∙ ap₂ (λ x y. x ++ y) (gaps_values n 0 a b [] e h k) (values_columns_led q (suc n) vectors a (b ++ e ∷ []) w h)

  said : (y a b : List ℚ) (e : ℚ) → length a ≡ n → length b ≡ n →
      dot y (values s.equations (a ++ (b ++ e ∷ []))) ≡ gap_value n (take n y) a b e +ℚ dot a (values vectors (drop n y))
  said y a b e h k =
      ap (λ v. dot y v) (given_values a b e h k) ∙ dot_parts_at n y (gap n a b e) (combination q a vectors) (gap_long n a b e h k)
      ∙ ap₂ (λ x z. x +ℚ z) (gap_product n (take n y) a b e) (dot-combination q (drop n y) a vectors)

  cost_is : (a b : List ℚ) (e : ℚ) → length a ≡ n → length b ≡ n → dot s.cost (a ++ (b ++ e ∷ [])) ≡ e
  cost_is a b e h k =
      ap (λ v. dot s.cost v) (sym (append_assoc a b (e ∷ [])))
      ∙ dot-append (zeros (n + n)) (one_ℚ ∷ []) (a ++ b) (e ∷ []) (length-zeros (n + n) ∙ sym (length-append a b ∙ ap₂ (λ x y. x + y) h k))
      ∙ ap₂ (λ x y. x +ℚ y) (dot-zeros_left (n + n) (a ++ b)) (add_zero (one_ℚ *ℚ e) ∙ one_mul e) ∙ zero_add e

  unknowns : length s.cost ≡ n + n + 1
  unknowns = length-append (zeros (n + n)) (one_ℚ ∷ []) ∙ ap (λ k. k + 1) (length-zeros (n + n))

  equations_many : length s.equations ≡ n + q
  equations_many =
      length-append (generator_gaps n 0) (listed q (λ i. column_of vectors i ++ zeros (suc n)))
      ∙ ap₂ (λ x y. x + y) (length-list_from 1 n _) (length-list_from 1 q _)

  part_long : (a b : List ℚ) (e : ℚ) → length a ≡ n → length b ≡ n → length (a ++ (b ++ e ∷ [])) ≡ length s.cost
  part_long a b e h k = omega (arith, length-append a (b ++ e ∷ []), length-append b (e ∷ []), unknowns, h, k)

  one_nonneg : (e : ℚ) → zero_ℚ ≤ℚ e → AtLeastZero (e ∷ [])
  one_nonneg e h = Rattle.polyhedra.proofs.Lists.nonneg-cons e [] h Rattle.polyhedra.proofs.Lists.nonneg-nil

  right_is : (y : List ℚ) → dot y s.right ≡ dot (drop n y) f
  right_is y =
      dot_parts_at n y (zeros n) f (length-zeros n) ∙ ap (λ x. x +ℚ dot (drop n y) f) (dot-zeros (take n y) n) ∙ zero_add (dot (drop n y) f)

  -- a vector of at least 0 in its parts
  solved : (z r : List ℚ) → length z ≡ n + n + 1 → values s.equations z ≡ zeros n ++ r →
      (gap n (take n z) (take n (drop n z)) (entry z (suc (n + n))) ≡ zeros n) × (combination q (take n z) vectors ≡ r)
  solved z r long h =
      let front : length (take n z) ≡ n = front_long n 1 z long in
      let middle : length (take n (drop n z)) ≡ n = middle_long n 1 z long in
      append_parts (gap n (take n z) (take n (drop n z)) (entry z (suc (n + n)))) (combination q (take n z) vectors) (zeros n) r
      (gap_long n (take n z) (take n (drop n z)) (entry z (suc (n + n))) front middle ∙ sym (length-zeros n))
      (sym (given_values (take n z) (take n (drop n z)) (entry z (suc (n + n))) front middle) ∙ ap (λ v. values s.equations v) (sym (three_parts n z long)) ∙ h)

  all_positive : (z r : List ℚ) → length z ≡ n + n + 1 → AtLeastZero z → values s.equations z ≡ zeros n ++ r → zero_ℚ <ℚ entry z (suc (n + n)) →
      IsPositiveCombination q vectors (take n z) r
  all_positive z r long h e p =
      record {
        one_each = front_long n 1 z long;
        sign = all_entries (λ x. zero_ℚ <ℚ x) (take n z)
            (λ g l u. let high : g ≤ n = omega (arith, u, front_long n 1 z long) in
            subst (λ (x : ℚ). zero_ℚ <ℚ x) (sym (gap_none n (take n z) (take n (drop n z)) (entry z (suc (n + n))) g (solved z r long e).0 l high))
            (add_positive_right (entry (take n (drop n z)) g) (entry z (suc (n + n)))
            (all_at Nonneg (take n (drop n z)) g (All-take Nonneg n (drop n z) (All-drop Nonneg n z h)) l (omega (arith, high, middle_long n 1 z long))) p));
        combined = (solved z r long e).1;
      }

  cost_at : (z : List ℚ) → length z ≡ n + n + 1 → dot s.cost z ≡ entry z (suc (n + n))
  cost_at z long =
      ap (λ v. dot s.cost v) (three_parts n z long) ∙ cost_is (take n z) (take n (drop n z)) (entry z (suc (n + n))) (front_long n 1 z long) (middle_long n 1 z long)

  inside : (x dual : List ℚ) → IsOptimal s x dual → zero_ℚ <ℚ entry x (suc (n + n)) → IsPositiveCombination q vectors (take n x) f
  inside x dual h p = all_positive x f (h.wide ∙ unknowns) h.solves.at_least_zero h.solves.equal p

  optimal_low : (x y a b : List ℚ) (e : ℚ) → IsOptimal s x y → length a ≡ n → length b ≡ n → AtLeastZero a → AtLeastZero b → zero_ℚ ≤ℚ e →
      one_ℚ *ℚ e ≤ℚ gap_value n (take n y) a b e +ℚ dot a (values vectors (drop n y))
  optimal_low x y a b e h a_long b_long i j k =
      subst (λ (r : ℚ). one_ℚ *ℚ e ≤ℚ r) (said y a b e a_long b_long)
      (subst (λ (r : ℚ). r ≤ℚ dot y (values s.equations (a ++ (b ++ e ∷ [])))) (cost_is a b e a_long b_long ∙ sym (one_mul e))
      (optimal_at s x y (a ++ (b ++ e ∷ [])) (given_ok q vectors f f_long) h (part_long a b e a_long b_long) (nonneg_three a b (e ∷ []) i j (one_nonneg e k))))

  infeasible_low : (y a b : List ℚ) (e : ℚ) → IsInfeasible s y → length a ≡ n → length b ≡ n → AtLeastZero a → AtLeastZero b → zero_ℚ ≤ℚ e →
      zero_ℚ *ℚ e ≤ℚ gap_value n (take n y) a b e +ℚ dot a (values vectors (drop n y))
  infeasible_low y a b e h a_long b_long i j k =
      subst (λ (r : ℚ). zero_ℚ *ℚ e ≤ℚ r) (said y a b e a_long b_long)
      (subst (λ (r : ℚ). r ≤ℚ dot y (values s.equations (a ++ (b ++ e ∷ [])))) (sym (zero_mul e))
      (infeasible_at s y (a ++ (b ++ e ∷ [])) (given_ok q vectors f f_long) h (part_long a b e a_long b_long) (nonneg_three a b (e ∷ []) i j (one_nonneg e k))))

  after_long : (y : List ℚ) → length y ≡ length s.equations → length (drop n y) ≡ q
  after_long y h = length-drop n y ∙ omega (arith, h, equations_many)

  optimal_outside : (x dual : List ℚ) → IsOptimal s x dual → entry x (suc (n + n)) ≤ℚ zero_ℚ → ShowsOutside q (Gens vectors) f (drop n dual) []
  optimal_outside x dual h e =
      record {
        lengths = after_long dual h.one_each;
        vector = no_spot 0;
        not_zero = not_all_zero n vectors (take n dual) (drop n dual) one_ℚ refl (λ a b r i j k l m. optimal_low x dual a b r h i j k l m) q refl;
        cone = record {
          lengths = refl;
          cone = rows_nonneg n vectors (take n dual) (drop n dual) one_ℚ refl (λ a b r i j k l m. optimal_low x dual a b r h i j k l m);
        };
        sign = subst (λ (r : ℚ). r ≤ℚ zero_ℚ) (sym (cost_at x (h.wide ∙ unknowns)) ∙ h.equal ∙ right_is dual) e;
      }

  infeasible_outside : (y : List ℚ) → IsInfeasible s y → ShowsOutside q (Gens vectors) f (drop n y) []
  infeasible_outside y h =
      let below : dot (drop n y) f <ℚ zero_ℚ = subst (λ (r : ℚ). r <ℚ zero_ℚ) (right_is y) h.below in
      record {
        lengths = after_long y h.one_each;
        vector = no_spot 0;
        not_zero = λ z. lt_irrefl zero_ℚ (subst (λ (r : ℚ). r <ℚ zero_ℚ) (ap (λ v. dot v f) z ∙ dot-zeros_left q f) below);
        cone = record {
          lengths = refl;
          cone = rows_nonneg n vectors (take n y) (drop n y) zero_ℚ refl (λ a b r i j k l m. infeasible_low y a b r h i j k l m);
        };
        sign = le_of_lt (dot (drop n y) f) zero_ℚ below;
      }

  never_unbounded : (x ray : List ℚ) → 1 ≤ q → HasInterior q (Gens vectors) → HasNoLine q (Gens vectors) → IsUnbounded s x ray → ⊥
  never_unbounded x ray some solid pointed h =
      let long : length ray ≡ n + n + 1 = h.ray_wide ∙ unknowns in
      let mu : IsPositiveCombination q vectors (take n ray) (zeros q) =
      all_positive ray (zeros q) long h.along.at_least_zero (h.along.equal ∙ ap zeros equations_many ∙ zeros-append n q)
      (subst (λ (r : ℚ). zero_ℚ <ℚ r) (cost_at ray long) h.rises) in
      whole_or_zero q vectors (take n ray) w mu some solid pointed

pub given_program : GivenProgram
given_program =
    record {
      inside = λ q vectors f x dual w l h p. inside q vectors f w l x dual h p;
      optimal = λ q vectors f x dual w l h e. optimal_outside q vectors f w l x dual h e;
      infeasible = λ q vectors f y w l h. infeasible_outside q vectors f w l y h;
      bounded = λ q vectors f x ray w l some solid pointed h. never_unbounded q vectors f w l x ray some solid pointed h;
    }
