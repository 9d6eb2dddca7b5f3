-- Directions that span the ordering cone: the unit vectors, generators without those that are 0, and the generators of a dual form.
use Rattle.std.proofs.Common.{◌≡◌, ◌∙◌, ℕ, List, All, Contains, length, map, refl, sym, ap, subst, ◌⊎◌, inl, inr, Result, Ok, Err}
use Rattle.std.specs.Prelude.{IfOk}
use Rattle.std.proofs.lemmas.List.{length-map}
use Rattle.std.proofs.lemmas.List.Elements.{All-contains_itself}
use Rattle.exact_field.specs.Rational.{ℚ, zero_ℚ, neg_ℚ, ◌≤ℚ◌}
use Rattle.exact_field.specs.Vector.{dot}
use Rattle.polyhedra.specs.Cone.{HasFullRank, IsInCone}
use Rattle.polyhedra.specs.Hull.{IsExtremeDirection}
use Rattle.polyhedra.specs.LiveList.{LiveList, vectors}
use Rattle.polyhedra.specs.LiveSteps.{IsLive}
use Rattle.polyhedra.specs.Negatives.{negated}
use Rattle.polyhedra.specs.Vectors.{AreWide, zeros}
use Rattle.polyhedra.proofs.Algebra.{neg_zero}
use Rattle.polyhedra.proofs.Laws.{le_refl}
use Rattle.polyhedra.proofs.Linear.{dot_comm, dot-zeros}
use Rattle.polyhedra.proofs.Members.{Contains-filter_source, all_of_members, member_of}
use Rattle.polyhedra.proofs.Lists.{HasWidth}
use Rattle.polyhedra.proofs.Negatives.{dot-negated}
use Rattle.tableaux.specs.Table.{listed, unit}
use Rattle.lin_rows.specs.Read.{numbers}
use Rattle.vlp_problem.specs.declared.problem.Problem.{Problem}
use Rattle.vlp_problem.specs.declared.problem.Cone.{Cone}
use Rattle.vlp_problem.specs.declared.problem.Cone.TheVariants as cone
use Rattle.lp_form.specs.Data.{IsDataOf, cone_of}
use Rattle.lp_form.specs.Programs.{nonzero_vectors}
use Rattle.lp_form.specs.declared.data.ConeOf.{ConeOf}
use Rattle.lp_form.specs.declared.data.ConeOf.TheVariants.{Orthant, Gens, Dual}
use Rattle.lp_form.specs.declared.data.Data.{Data}
use Rattle.lp_form.proofs.Figures.{objective_number}
use Rattle.overflows.specs.Base.{IsConeDirection, IsDirectionOf, IsGeneratorOf}
use Rattle.overflows.specs.Generators.{IsMadeOver}
use Rattle.overflows.proofs.Making.{generator_laws}
use Rattle.cone_rules.specs.Faults.{HasNoLine, IsPointed}
use Rattle.cone_rules.proofs.Rows.{kept, kept_or_zero, kept_wide}
use Rattle.cone_dual.specs.Generators.{AreConeRows, AreGenerators, AreMadeInOrder, begun_with}
use Rattle.cone_dual.proofs.Reordered.{IsPlace, begun_listed, picked_places, rows_begun}
use Rattle.lower_image.specs.Lower.{AreSpanning}
use Rattle.lower_image.proofs.Start.{lower_start}

-- what two facts of a result say together
pub ok_both : {T E : Type 0} {P Q R : T → Type 0} (r : Result T E) → IfOk r P → IfOk r Q → ((x : T) → P x → Q x → R x) → IfOk r R
ok_both (Ok x) h k f = f x h k
ok_both (Err e) h k f = tt

-- ---- vectors without those that are 0
module _ (q : ℕ) (vs : List (List ℚ)) (wide : AreWide q vs) where
  pub kept_in : (v : List ℚ) → Contains (kept vs) v → Contains vs v
  kept_in v k = (Contains-filter_source _ vs v k).0

  kept_or : (v : List ℚ) → Contains vs v → Contains (kept vs) v ⊎ (v ≡ zeros q)
  kept_or v k = member_of (λ u. Contains (kept vs) u ⊎ (u ≡ zeros q)) vs v (kept_or_zero q (Contains (kept vs)) vs wide (All-contains_itself (kept vs))) k

  pub kept_all : (v : List ℚ) → Contains vs v → (v ≡ zeros q → ⊥) → Contains (kept vs) v
  kept_all v k other = elim (kept_or v k) [ inl c ↦ c | inr none ↦ absurd (other none) ]

  nothing : (v z : List ℚ) → v ≡ zeros q → dot v z ≡ zero_ℚ
  nothing v z none = ap (λ (u : List ℚ). dot u z) none ∙ dot_comm (zeros q) z ∙ dot-zeros z q

  -- the vectors that are not 0 have full rank where the cone of all contains no line
  pub kept_rank : HasNoLine q (cone.Dual vs) → HasFullRank q (kept vs)
  kept_rank no_line z long flat = no_line z inside (record {
    wide = length-map z neg_ℚ ∙ long;
    within = all_of_members (λ r. zero_ℚ ≤ℚ dot r (negated z)) vs
        (λ r k. subst (λ (a : ℚ). zero_ℚ ≤ℚ a) (sym (dot-negated r z ∙ ap neg_ℚ (all_flat r k) ∙ neg_zero)) (le_refl zero_ℚ));
  })
    where
      all_flat : (r : List ℚ) → Contains vs r → dot r z ≡ zero_ℚ
      all_flat r k = elim (kept_or r k) [ inl c ↦ member_of (λ v. dot v z ≡ zero_ℚ) (kept vs) r flat c | inr none ↦ nothing r z none ]

      inside : IsInCone q vs z
      inside = record {
        wide = long;
        within = all_of_members (λ r. zero_ℚ ≤ℚ dot r z) vs (λ r k. subst (λ (a : ℚ). zero_ℚ ≤ℚ a) (sym (all_flat r k)) (le_refl zero_ℚ));
      }

  in_all : (z : List ℚ) → IsInCone q (kept vs) z → IsInCone q vs z
  in_all z h = record {
    wide = h.wide;
    within = all_of_members (λ r. zero_ℚ ≤ℚ dot r z) vs (λ r k. elim (kept_or r k) [
      | inl c ↦ member_of (λ r. zero_ℚ ≤ℚ dot r z) (kept vs) r h.within c
      | inr none ↦ subst (λ (a : ℚ). zero_ℚ ≤ℚ a) (sym (nothing r z none)) (le_refl zero_ℚ)
    ]);
  }

  in_kept : (z : List ℚ) → IsInCone q vs z → IsInCone q (kept vs) z
  in_kept z h = record {
    wide = h.wide;
    within = all_of_members (λ r. zero_ℚ ≤ℚ dot r z) (kept vs) (λ r k. member_of (λ r. zero_ℚ ≤ℚ dot r z) vs r h.within (kept_in r k));
  }

  pub generator_of_all : (g : List ℚ) → IsGeneratorOf q (kept vs) g → IsGeneratorOf q vs g
  generator_of_all g h = record {
    pointed = λ z long flat. h.pointed z long (all_of_members (λ v. dot v z ≡ zero_ℚ) (kept vs) (λ v k. member_of (λ v. dot v z ≡ zero_ℚ) vs v flat (kept_in v k)));
    extreme = record {
      member = in_all g h.extreme.member;
      not_zero = h.extreme.not_zero;
      no_sum = λ a b k l e. h.extreme.no_sum a b (in_kept a k) (in_kept b l) e;
    };
    normed = h.normed;
  }

-- ---- directions
module _ {F : Type 0} (value : F → ℚ) (file : Problem) (form : Data F) (stands : IsDataOf value file form) where
  cone_is : (of : ConeOf F) → form.cone ≡ of → file.cone ≡ cone_of value of
  cone_is of e = sym stands.cone ∙ ap (cone_of value) e

  many : length form.p ≡ file.objs
  many = objective_number value file form stands

  pub units_span : (rows : List (List ℚ)) → form.cone ≡ Orthant → rows ≡ listed (length form.p) (unit (length form.p)) → AreSpanning file rows
  units_span rows given same =
      subst (AreSpanning file) (sym (same ∙ ap (λ (n : ℕ). listed n (unit n)) many)) (lower_start.units file (cone_is Orthant given))

  pub generators_span : (vs : List (List F)) (rows : List (List ℚ)) → form.cone ≡ Gens vs → AreWide (length form.p) (numbers value vs) →
      rows ≡ kept (numbers value vs) → AreSpanning file rows
  generators_span vs rows given wide same =
      let all : List (List ℚ) = numbers value vs in
      let at : AreWide file.objs all = subst (λ (n : ℕ). AreWide n all) many wide in
      subst (AreSpanning file) (sym same)
      (lower_start.generators file all (kept all) (cone_is (Gens vs) given) (kept_in file.objs all at) (kept_all file.objs all at))

  pub pointed_rank : (vs : List (List F)) → form.cone ≡ Dual vs → IsPointed file → AreWide (length form.p) (numbers value vs) →
      HasFullRank (length form.p) (kept (numbers value vs))
  pointed_rank vs given pointed wide =
      kept_rank (length form.p) (numbers value vs) wide
      (subst (λ (n : ℕ). HasNoLine n (cone.Dual (numbers value vs))) (sym many)
      (subst (λ (k : Cone). HasNoLine file.objs k) (cone_is (Dual vs) given) pointed))

  pub cone_rows : (vs : List (List F)) (rows : List (List ℚ)) → form.cone ≡ Dual vs → rows ≡ kept (numbers value vs) →
      AreConeRows file (length form.p) rows
  cone_rows vs rows given same = record {
    width = sym many;
    listed = subst (λ (k : Cone). All (Contains (nonzero_vectors k)) rows) (sym (cone_is (Dual vs) given))
        (subst (λ (rs : List (List ℚ)). All (Contains (kept (numbers value vs))) rs) (sym same) (All-contains_itself (kept (numbers value vs))));
  }

  module _ (vs : List (List F)) (gens : List (List ℚ)) (given : form.cone ≡ Dual vs) (wide : AreWide file.objs (numbers value vs))
      (are : AreGenerators file.objs (kept (numbers value vs)) gens) (order : AreMadeInOrder file.objs (kept (numbers value vs)) gens) where
    abbrev all : List (List ℚ)
    all = numbers value vs

    abbrev begun : List (List ℚ)
    begun = begun_with order.picks (kept (numbers value vs))

    places : All (IsPlace (length (kept (numbers value vs)))) order.picks
    places = picked_places file.objs (kept all) order.picks order.independent

    begun_in : (r : List ℚ) → Contains begun r → Contains (kept all) r
    begun_in r k = begun_listed (kept all) order.picks places r k

    begun_wide : AreWide file.objs begun
    begun_wide = record {
      wide = all_of_members (HasWidth file.objs) begun
          (λ r k. member_of (HasWidth file.objs) (kept all) r (kept_wide file.objs all wide).wide (begun_in r k));
    }

    each : All (IsConeDirection file) (vectors order.list.live)
    each = all_of_members (IsConeDirection file) (vectors order.list.live) (λ g k.
        subst (λ (k : Cone). IsDirectionOf file.objs k g) (sym (cone_is (Dual vs) given))
        (generator_of_all file.objs all wide g ((are.each g).0 (subst (λ (gs : List (List ℚ)). Contains gs g) (sym order.same) k))))

    dual_spans : AreSpanning file gens
    dual_spans = subst (AreSpanning file) (sym order.same)
        (lower_start.dual_form file all begun order.list (cone_is (Dual vs) given)
        (generator_laws.live file.objs begun order.list begun_wide order.made)
        (λ r k. kept_in file.objs all wide r (begun_in r k))
        (λ v k other. member_of (Contains begun) (kept all) v (rows_begun (kept all) order.picks places) (kept_all file.objs all wide v k other)) each)

  pub dual_form_spans : (vs : List (List F)) (rows gens : List (List ℚ)) → form.cone ≡ Dual vs → AreWide (length form.p) (numbers value vs) →
      rows ≡ kept (numbers value vs) → AreGenerators (length form.p) rows gens → AreMadeInOrder (length form.p) rows gens → AreSpanning file gens
  dual_form_spans vs rows gens given wide same are order =
      dual_spans vs gens given (subst (λ (n : ℕ). AreWide n (numbers value vs)) many wide)
      (subst (λ (n : ℕ). AreGenerators n (kept (numbers value vs)) gens) many (subst (λ (rs : List (List ℚ)). AreGenerators (length form.p) rs gens) same are))
      (subst (λ (n : ℕ). AreMadeInOrder n (kept (numbers value vs)) gens) many (subst (λ (rs : List (List ℚ)). AreMadeInOrder (length form.p) rs gens) same order))
