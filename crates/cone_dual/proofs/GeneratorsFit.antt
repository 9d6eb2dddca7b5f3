-- What is found of a cone that is given by generators fits the file.
use Rattle.std.proofs.Common.{◌≡◌, ℕ, List, length, map, take, refl, sym, ap, subst, ◌∙◌, Bool, Option, None, Some, inl}
use Rattle.std.proofs.lemmas.List.{length-map}
use Rattle.exact_field.specs.Rational.{ℚ, zero_ℚ, one_ℚ, inverse_ℚ, ◌<ℚ◌}
use Rattle.exact_field.specs.Vector.{entry}
use Rattle.polyhedra.specs.Vectors.{combination, scaled}
use Rattle.tableaux.specs.Table.{System, Table, row_of}
use Rattle.tableaux.specs.Elimination.{AreIndependent, AreInverse, columns_of}
use Rattle.lin_rows.specs.Read.{numbers}
use Rattle.vlp_problem.specs.declared.problem.Problem.{Problem}
use Rattle.vlp_problem.specs.declared.problem.Cone.{Cone}
use Rattle.vlp_problem.specs.declared.problem.Cone.TheVariants as cone
use Rattle.upper_image.specs.Shows.{ShowsFitting}
use Rattle.vlp_problem.specs.declared.program.Program.TheVariants.{Interior}
use Rattle.lp_form.specs.Building.{joined}
use Rattle.lp_form.specs.Data.{IsDataOf, cone_of, duality_of}
use Rattle.lp_form.specs.Programs.{interior_of_generators, interior_system}
use Rattle.lp_form.specs.declared.data.ConeOf.TheVariants.{Gens}
use Rattle.lp_form.specs.declared.data.Data.{Data}
use Rattle.lp_form.proofs.Figures.{objective_number}
use Rattle.overflows.specs.Base.{IsSolutionOff}
use Rattle.overflows.specs.Quotients.{IsScaled}
use Rattle.overflows.specs.Trails.{IsMuOff}
use Rattle.cone_rules.specs.Faults.{HasInterior, HasNoLine, IsPointed, IsSolid}
use Rattle.cone_rules.specs.Laws.{IsPositiveCombination, at_last_one}
use Rattle.cone_rules.proofs.Fitting.{fitting_laws}
use Rattle.cone_rules.proofs.Ranks.{rank_laws}
use Rattle.cone_dual.specs.Fitting.{CombinesToLastOne, IsDualityOf, IsMade}
use Rattle.cone_dual.specs.declared.duality.Duality.{Duality}
use Rattle.cone_dual.proofs.Asked.{interior_same}
use Rattle.cone_dual.proofs.ByVectors.{cone_at, found_is, given_is, wide}
use Rattle.cone_dual.proofs.Fits.{base_as, made_fits}
use Rattle.cone_dual.proofs.Picks.{full_rank}
use Rattle.cone_dual.proofs.Standing.{as_cone, at_file, before, given_long, given_to}

module _ {F : Type 0} (value : F → ℚ) (form : Data F) (vectors : List (List F)) (gens : form.cone ≡ Gens vectors) where
  abbrev q : ℕ
  q = length form.p

  abbrev V : List (List ℚ)
  V = numbers value vectors

  pub solid : (picks : List ℕ) → AreIndependent q V picks → HasInterior (length form.p) (cone_of value form.cone)
  solid picks independent =
      as_cone value form (Gens vectors) gens (λ (k : Cone). HasInterior q k) (rank_laws.solid q V (wide value form vectors gens) (full_rank q V picks independent))

  module _ (holds : ℚ → Bool) (file : Problem) (stands : IsDataOf value file form) where
    objs : q ≡ file.objs
    objs = objective_number value file form stands

    solid_at : (picks : List ℕ) → AreIndependent q V picks → IsSolid file
    solid_at picks independent = at_file value form file stands (λ (n : ℕ) (k : Cone) (d : Option (List ℚ)). HasInterior n k) (solid picks independent)

    pointed_at : HasNoLine q (cone_of value form.cone) → IsPointed file
    pointed_at pointed = at_file value form file stands (λ (n : ℕ) (k : Cone) (d : Option (List ℚ)). HasNoLine n k) pointed

    -- the program of the file
    asked : (d : Option (List ℚ)) → interior_system q (cone_of value form.cone) (duality_of value form.duality) ≡ interior_of_generators q V d →
        interior_of_generators q V d ≡ interior_system file.objs file.cone file.duality
    asked d is = sym is ∙ interior_same value holds form file stands

    -- a solution of the program gives the multipliers
    mu_off : (d : Option (List ℚ)) → interior_system q (cone_of value form.cone) (duality_of value form.duality) ≡ interior_of_generators q V d →
        (z mu : List ℚ) → IsSolutionOff (interior_of_generators q V d) z → mu ≡ take (length vectors) z → IsMuOff file (length V) mu
    mu_off d is z mu read mu_is = (
      z,
      subst (λ (s : System). IsSolutionOff s z) (asked d is) read,
      mu_is ∙ ap (λ (n : ℕ). take n z) (sym (length-map vectors (map value))),
    )

    pub found_off : form.duality ≡ None → (z mu : List ℚ) → IsSolutionOff (interior_of_generators q V None) z → mu ≡ take (length vectors) z →
        IsMuOff file (length V) mu
    found_off none z mu read mu_is = mu_off None (found_is value form vectors gens none) z mu read mu_is

    module _ (f : List F) (dual : form.duality ≡ Some f) where
      abbrev target : List ℚ
      target = map value f

      -- a solution is a vector that may be divided
      pub read_scaled : (z : List ℚ) → IsSolutionOff (interior_of_generators q V (Some target)) z → IsScaled (before file) z
      read_scaled z read =
          IsScaled.read
          (record {
            program = Interior;
            allowed = tt;
            whole = z;
            read = inl (subst (λ (s : System). IsSolutionOff s z) (asked (Some target) (given_is value form vectors gens f dual)) read);
            same = inl refl;
          })

      pub given_fits : (c weights : List F) (picks : List ℕ) (entries z : List ℚ) (inverse : Table) (d : Duality F) → HasNoLine q (cone_of value form.cone) →
          AreIndependent q V picks → zero_ℚ <ℚ entry target q → IsPositiveCombination q V (take (length vectors) z) target →
          IsSolutionOff (interior_of_generators q V (Some target)) z → map value c ≡ at_last_one q target →
          map value weights ≡ scaled (inverse_ℚ (entry target q)) (take (length vectors) z) → AreInverse q (map (row_of V) picks) inverse →
          entries ≡ joined (columns_of q inverse) → IsMade value holds c weights picks entries d → IsDualityOf value holds file d
      given_fits c weights picks entries z inverse d pointed independent positive combined read c_is weights_is inverts entries_is made =
          let mu : List ℚ = take (length vectors) z in
          let P : ℕ → Type 0 = λ n.
          (zero_ℚ <ℚ entry target n) × IsPositiveCombination n V mu target × AreIndependent n V picks × AreInverse n (map (row_of V) picks) inverse
          × (map value c ≡ at_last_one n target) × (map value weights ≡ scaled (inverse_ℚ (entry target n)) mu) × (entries ≡ joined (columns_of n inverse)) in
          let p : P file.objs = subst P objs (positive, combined, independent, inverts, c_is, weights_is, entries_is) in
          let long : q ≡ length target = sym (length-map f value ∙ given_long value form f dual) in
          let at : file.cone ≡ cone.Gens V = cone_at value form vectors gens file stands in
          let dual_at : file.duality ≡ Some target = given_to value form file stands f dual in
          let law = fitting_laws.generators_given file V target mu picks inverse at dual_at p.0 p.1 p.2 p.3 in
          made_fits value holds file c weights picks entries d
          (subst (λ (a : List ℚ). ShowsFitting file a (map value weights) picks entries) (sym p.4)
          (subst (λ (b : List ℚ). ShowsFitting file (at_last_one file.objs target) b picks entries) (sym p.5)
          (subst (λ (e : List ℚ). ShowsFitting file (at_last_one file.objs target) (scaled (inverse_ℚ (entry target file.objs)) mu) picks e) (sym p.6) law)))
          (base_as file (cone.Gens V) (Some target) (map value c) (map value weights) at dual_at (
            c_is ∙ ap (λ (n : ℕ). at_last_one n target) long,
            (mu, mu_off (Some target) (given_is value form vectors gens f dual) z mu read refl, weights_is ∙ ap (λ (n : ℕ). scaled (inverse_ℚ (entry target n)) mu) long),
          ))
          (solid_at picks independent) (pointed_at pointed) made

    pub found_fits : (c mu : List F) (picks : List ℕ) (entries z : List ℚ) (inverse : Table) (d : Duality F) → form.duality ≡ None →
        HasNoLine q (cone_of value form.cone) → AreIndependent q V picks → CombinesToLastOne q V (map value mu) →
        IsSolutionOff (interior_of_generators q V None) z → map value mu ≡ take (length vectors) z → map value c ≡ combination q (map value mu) V →
        AreInverse q (map (row_of V) picks) inverse → entries ≡ joined (columns_of q inverse) → IsMade value holds c mu picks entries d → IsDualityOf value holds file d
    found_fits c mu picks entries z inverse d none pointed independent combines read mu_is c_is inverts entries_is made =
        let m : List ℚ = map value mu in
        let P : ℕ → Type 0 = λ n.
        (entry (map value c) n ≡ one_ℚ) × IsPositiveCombination n V m (map value c) × AreIndependent n V picks × AreInverse n (map (row_of V) picks) inverse
        × (entries ≡ joined (columns_of n inverse)) in
        let last : entry (map value c) q ≡ one_ℚ = ap (λ (v : List ℚ). entry v q) c_is ∙ combines.last in
        let combined : IsPositiveCombination q V m (map value c) = subst (λ (v : List ℚ). IsPositiveCombination q V m v) (sym c_is) combines.positive in
        let p : P file.objs = subst P objs (last, combined, independent, inverts, entries_is) in
        let at : file.cone ≡ cone.Gens V = cone_at value form vectors gens file stands in
        let none_at : file.duality ≡ None = sym stands.duality ∙ ap (duality_of value) none in
        let law = fitting_laws.generators_found file V (map value c) m picks inverse at none_at p.0 p.1 p.2 p.3 in
        made_fits value holds file c mu picks entries d
        (subst (λ (e : List ℚ). ShowsFitting file (map value c) m picks e) (sym p.4) law)
        (base_as file (cone.Gens V) None (map value c) m at none_at (found_off none z m read mu_is))
        (solid_at picks independent) (pointed_at pointed) made
