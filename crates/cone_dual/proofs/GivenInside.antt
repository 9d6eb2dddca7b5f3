-- What the ends of the program of an interior vector say of generators and the vector that is
-- given, in a field.
use Rattle.std.proofs.Common.{◌≡◌, ℕ, suc, List, [], length, map, take, drop, sym, ap, subst, ◌∙◌, ◌+◌, ◌<◌, ◌≤◌, arith, Bool, Option, Some, slice_index_or}
use Rattle.std.proofs.lemmas.List.{length-map}
use Rattle.exact_field.specs.Rational.{ℚ, zero_ℚ, ◌≤ℚ◌, ◌<ℚ◌}
use Rattle.exact_field.specs.Vector.{entry}
use Rattle.tableaux.specs.Table.{System}
use Rattle.tableaux.specs.Simplex.{IsOptimal, IsInfeasible, IsUnbounded}
use Rattle.lin_rows.specs.Read.{numbers}
use Rattle.lin_rows.proofs.Summing.{entry_read}
use Rattle.vlp_problem.specs.declared.problem.Cone.{Cone}
use Rattle.vlp_problem.specs.declared.problem.Cone.TheVariants as cone
use Rattle.lp_form.specs.declared.data.ConeOf.TheVariants.{Gens}
use Rattle.lp_form.specs.declared.data.Data.{Data}
use Rattle.lp_form.specs.Data.{cone_of, duality_of}
use Rattle.lp_form.specs.Programs.{interior_of_generators, interior_system}
use Rattle.cone_rules.specs.Faults.{HasInterior, HasNoLine, IsGivenOutside, ShowsOutside}
use Rattle.cone_rules.specs.Laws.{IsPositiveCombination}
use Rattle.cone_rules.proofs.Given.{given_program}
use Rattle.cone_dual.proofs.ByVectors.{given_farkas, given_is, given_multipliers, given_unknowns, wide}
use Rattle.cone_dual.proofs.Standing.{as_cone, as_duality, given_long, of_cone}

module _ {F : Type 0} (value : F → ℚ) (form : Data F) (vectors : List (List F)) (gens : form.cone ≡ Gens vectors) (f : List F) (dual : form.duality ≡ Some f) where
  abbrev q : ℕ
  q = length form.p

  abbrev n : ℕ
  n = length vectors

  abbrev V : List (List ℚ)
  V = numbers value vectors

  abbrev target : List ℚ
  target = map value f

  abbrev S : System
  S = interior_system (length form.p) (cone_of value form.cone) (duality_of value form.duality)

  many : length V ≡ n
  many = length-map vectors (map value)

  long : length target ≡ q
  long = length-map f value ∙ given_long value form f dual

  optimal : (x d : List ℚ) → IsOptimal S x d → IsOptimal (interior_of_generators q V (Some target)) x d
  optimal x d h = subst (λ (s : System). IsOptimal s x d) (given_is value form vectors gens f dual) h

  infeasible : (d : List ℚ) → IsInfeasible S d → IsInfeasible (interior_of_generators q V (Some target)) d
  infeasible d h = subst (λ (s : System). IsInfeasible s d) (given_is value form vectors gens f dual) h

  at_last : suc (length V + length V) ≡ n + n + 1
  at_last = omega (arith, many)

  lifted : (w : List ℚ) → ShowsOutside q (cone.Gens V) target w [] → IsGivenOutside q (cone_of value form.cone) (duality_of value form.duality) w []
  lifted w h =
      as_cone value form (Gens vectors) gens (λ (k : Cone). IsGivenOutside q k (duality_of value form.duality) w [])
      (as_duality value form (Some f) dual (λ (d : Option (List ℚ)). IsGivenOutside q (cone.Gens V) d w []) h)

  pub optimal_outside : (x d y : List ℚ) → y ≡ d → IsOptimal S x d → entry x (n + n + 1) ≤ℚ zero_ℚ →
      IsGivenOutside q (cone_of value form.cone) (duality_of value form.duality) (drop n y) []
  optimal_outside x d y same h low =
      let law = given_program.optimal q V target x d (wide value form vectors gens) long (optimal x d h) (subst (λ (k : ℕ). entry x k ≤ℚ zero_ℚ) (sym at_last) low) in
      lifted (drop n y)
      (subst (λ (k : ℕ). ShowsOutside q (cone.Gens V) target (drop k y) []) many (subst (λ (z : List ℚ). ShowsOutside q (cone.Gens V) target (drop (length V) z) []) (sym same) law))

  pub infeasible_outside : (d y : List ℚ) → y ≡ d → IsInfeasible S d → IsGivenOutside q (cone_of value form.cone) (duality_of value form.duality) (drop n y) []
  infeasible_outside d y same h =
      let law = given_program.infeasible q V target d (wide value form vectors gens) long (infeasible d h) in
      lifted (drop n y)
      (subst (λ (k : ℕ). ShowsOutside q (cone.Gens V) target (drop k y) []) many (subst (λ (z : List ℚ). ShowsOutside q (cone.Gens V) target (drop (length V) z) []) (sym same) law))

  pub optimal_inside : (x d : List ℚ) → IsOptimal S x d → zero_ℚ <ℚ entry x (n + n + 1) → IsPositiveCombination q V (take n x) target
  optimal_inside x d h high =
      subst (λ (k : ℕ). IsPositiveCombination q V (take k x) target) many
      (given_program.inside q V target x d (wide value form vectors gens) long (optimal x d h) (subst (λ (k : ℕ). zero_ℚ <ℚ entry x k) (sym at_last) high))

  pub unknowns : (x d : List ℚ) → IsOptimal S x d → length x ≡ n + n + 1
  unknowns x d h = given_unknowns q V target x d (optimal x d h) ∙ omega (arith, many)

  -- the last unknown as it is read from a slice of them
  pub last_read : (holds : ℚ → Bool) (xs slice : List F) (d : List ℚ) (r : F) → IsOptimal S (map value xs) d → slice ≡ xs →
      r ≡ slice_index_or slice (n + n) r → entry (map value xs) (n + n + 1) ≡ value r
  last_read holds xs slice d r h same is =
      let counted : length (map value xs) ≡ n + n + 1 = unknowns (map value xs) d h in
      let inside : n + n < length slice = omega (arith, counted, length-map xs value, ap length same) in
      ap (λ (v : List ℚ). entry v (n + n + 1)) (sym (ap (map value) same)) ∙ entry_read value holds slice (n + n) r inside is

  pub multipliers_long : (x d : List ℚ) → IsOptimal S x d → n ≤ length d
  multipliers_long x d h = omega (arith, many, given_multipliers q V target x d (optimal x d h))

  pub farkas_long : (d : List ℚ) → IsInfeasible S d → n ≤ length d
  farkas_long d h = omega (arith, many, given_farkas q V target d (infeasible d h))

  pub bounded : (x ray : List ℚ) → HasInterior q (cone_of value form.cone) → HasNoLine q (cone_of value form.cone) → IsUnbounded S x ray → ⊥
  bounded x ray solid pointed h =
      let some = form.some_objective in
      given_program.bounded q V target x ray (wide value form vectors gens) long (omega (arith, some))
      (of_cone value form (Gens vectors) gens (λ (k : Cone). HasInterior q k) solid) (of_cone value form (Gens vectors) gens (λ (k : Cone). HasNoLine q k) pointed)
      (subst (λ (s : System). IsUnbounded s x ray) (given_is value form vectors gens f dual) h)
