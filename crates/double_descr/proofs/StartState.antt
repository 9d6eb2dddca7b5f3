-- The state that a double description starts with.
use Rattle.std.proofs.Common.{◌≡◌, ℕ, ◌+◌, ◌<◌, List, [], ◌∷◌, ◌++◌, map, take, drop, length, All, Bool, slice_index_or, zero, suc, refl, sym, ap, ◌∙◌, subst, arith}
use Rattle.std.proofs.lemmas.List.{length-map, map-append, take_more, length-take-le}
use Rattle.exact_field.specs.Rational.{ℚ}
use Rattle.polyhedra.specs.Dependence.{AreCorners}
use Rattle.polyhedra.specs.DoubleDescription.{normed}
use Rattle.polyhedra.specs.LiveList.{numbered, starting}
use Rattle.polyhedra.specs.LiveSteps.{IsLive}
use Rattle.polyhedra.proofs.Corners.{start}
use Rattle.polyhedra.proofs.LiveSteps.{are_live}
use Rattle.polyhedra.proofs.LiveList.{length-numbered, numbered_push}
use Rattle.lin_rows.specs.Read.{numbers as table}
use Rattle.lin_rows.specs.declared.fault.RowFault.TheVariants.{Left as Stopped, NoMemory as Want}
use Rattle.double_descr.specs.Starting.{IsStart, IsNormingFault, AreNotNormed, norming_steps}
use Rattle.double_descr.specs.State.{HasTightSet, IsKept, live_of, list_of}
use Rattle.double_descr.specs.Steps.{IsHeld, values}
use Rattle.double_descr.specs.declared.generator.Generator.{Generator}
use Rattle.double_descr.specs.declared.fault.DdFault.{DdFault}
use Rattle.double_descr.specs.declared.fault.DdFault.TheVariants.{Elim, Left as Stuck, NoMemory}
use Rattle.double_descr.proofs.MadePairs.{numbers_are}
use Rattle.double_descr.proofs.NormedCorners.{normed_corners, normed_all}

-- a list around one of its places
pub around : {A : Type 0} (xs : List A) (i : ℕ) (d : A) → i < length xs → xs ≡ take i xs ++ slice_index_or xs i d ∷ drop (suc i) xs
around [] i d h = absurd (omega arith)
around (x ∷ xs) zero d h = refl
around (x ∷ xs) (suc i) d h = ap (λ ys. x ∷ ys) (around xs i d (omega arith))

-- one more vector, normed, under the next number
pub one_more_normed : (vs : List (List ℚ)) (j : ℕ) (v : List ℚ) → j < length vs → v ≡ slice_index_or vs j [] →
    numbered 1 (map normed (take j vs)) ++ record { number = j + 1; vector = normed v } ∷ [] ≡ numbered 1 (map normed (take (j + 1) vs))
one_more_normed vs j v h e = ap (λ n. numbered 1 (map normed (take j vs)) ++ record { number = n; vector = normed v } ∷ []) number
    ∙ sym (numbered_push 1 (map normed (take j vs)) (normed v)) ∙ ap (numbered 1) (sym (map-append normed (take j vs) (v ∷ []))
    ∙ ap (map normed) (ap (λ w. take j vs ++ w ∷ []) e ∙ sym (take_more vs j [] h)))
  where
    number : j + 1 ≡ 1 + length (map normed (take j vs))
    number = let l : length (map normed (take j vs)) ≡ length (take j vs) = length-map (take j vs) normed in
        let m : length (take j vs) ≡ j = length-take-le j vs (omega arith) in omega arith

-- the first vector that cannot be normed
pub first_norming : {F : Type 0} (value : F → ℚ) (holds : ℚ → Bool) (vectors before after : List (List ℚ)) (vector : List ℚ) (fault : DdFault F) →
    vectors ≡ before ++ vector ∷ after → All (λ v. All (IsHeld holds) (norming_steps v)) before → IsNormingFault value holds vector fault →
    AreNotNormed value holds vectors fault
first_norming value holds vectors before after vector (Elim (Stopped basis row col step left)) e h k =
    record { before = before; vector = vector; after = after; split = e; held = h; here = k }
first_norming value holds vectors before after vector (Elim Want) e h k = absurd k
first_norming value holds vectors before after vector (Stuck first second step left) e h k = absurd k
first_norming value holds vectors before after vector NoMemory e h k = tt

module _ {F : Type 0} (value : F → ℚ) (n : ℕ) (rows : List (List F)) (vectors : List (List ℚ)) (c : AreCorners n (table value rows) vectors)
    (gens : List (Generator F)) (live : live_of value gens ≡ numbered 1 (map normed vectors)) where
  many : length gens ≡ n
  many = sym (length-map gens _) ∙ ap length live ∙ length-numbered 1 (map normed vectors) ∙ length-map vectors normed ∙ c.vectors_many

  pub list_is : list_of value gens (length gens + 1) ≡ starting 1 (map normed vectors)
  list_is = λ i. record { live = live i; next = next i }
    where
      next : length gens + 1 ≡ 1 + length (map normed vectors)
      next = let m : length gens ≡ n = many in let v : length (map normed vectors) ≡ n = length-map vectors normed ∙ c.vectors_many in omega arith

  pub kept_start : (nums : List ℕ) → nums ≡ map (λ (g : Generator F). g.number) gens → All (HasTightSet value (table value rows)) gens → n < 4294967296 →
      IsKept value n rows nums gens (length gens + 1)
  kept_start nums e tight narrow = record {
    live = subst (IsLive n (table value rows)) (sym list_is)
        (are_live.start n 1 (table value rows) (map normed vectors) (start n (table value rows) (map normed vectors) (normed_corners n (table value rows) vectors c))
        (normed_all n (table value rows) vectors c));
    numbers_are = e ∙ numbers_are value gens;
    tight = tight;
    narrow = narrow;
  }

  pub is_start : IsStart n (table value rows) (record { width = n; rows = map (values value) rows; list = list_of value gens (length gens + 1) })
  is_start = record {
    width = refl;
    rows_are = refl;
    vectors = map normed vectors;
    corners = normed_corners n (table value rows) vectors c;
    normed = normed_all n (table value rows) vectors c;
    list_is = list_is;
  }
