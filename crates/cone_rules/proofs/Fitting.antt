-- What shows that a duality vector fits a file: the parts of a duality entry.
use Rattle.std.proofs.Common.{◌≡◌, ◌≢◌, ℕ, zero, suc, List, [], ◌∷◌, ◌++◌, length, map, take, drop, replicate, All, refl, sym, ap, ap₂, ◌∙◌, subst, arith, ◌<◌, ◌≤◌, ◌+◌, ◌-◌, ◌*◌, ◌⊎◌, inl, inr, Option, None, Some, true}
use Rattle.std.specs.Prelude.{slice_index_or}
use Rattle.std.proofs.Math.ListN.{length-append, length-replicate}
use Rattle.std.proofs.Math.Seq.{take-append_seam, drop-append_seam}
use Rattle.std.proofs.lemmas.Bool.{eqb-true}
use Rattle.std.proofs.lemmas.List.Elements.{All-replicate, All-weaker}
use Rattle.exact_field.specs.Rational.{ℚ, zero_ℚ, one_ℚ, inverse_ℚ, ◌<ℚ◌}
use Rattle.exact_field.specs.Vector.{entry, dot}
use Rattle.polyhedra.specs.Vectors.{AreWide, zeros, scaled}
use Rattle.polyhedra.proofs.Laws.{mul_comm, mul_inverse, zero_lt_one}
use Rattle.polyhedra.proofs.Linear.{dot-scaled, length-scaled}
use Rattle.polyhedra.proofs.Lists.{wide-head, wide-tail, wide-nil, wide-cons}
use Rattle.polyhedra.proofs.Order.{inverse_positive, mul_positive}
use Rattle.tableaux.specs.Table.{Table, row_of, column_of, list_from}
use Rattle.tableaux.specs.Elimination.{AreIndependent, AreInverse, columns_of}
use Rattle.tableaux.proofs.Matrix.{combination-scaled}
use Rattle.tableaux.proofs.Places.{length-list_from, list_from-place, entry-scaled, delta-same, delta-other}
use Rattle.tableaux.proofs.Unique.{column-long}
use Rattle.vlp_problem.specs.Cones.{cone_fits, duality_fits}
use Rattle.vlp_problem.specs.declared.problem.Problem.{Problem}
use Rattle.vlp_problem.specs.declared.problem.Cone.{Cone}
use Rattle.vlp_problem.specs.declared.problem.Cone.TheVariants.{Orthant, Gens, Dual}
use Rattle.upper_image.specs.OrderingCone.{FollowsFile}
use Rattle.upper_image.specs.Shows.{AreEmpty, ShowsSolid, ShowsInterior, ShowsFitting}
use Rattle.upper_image.specs.Spots.{pieces}
use Rattle.upper_image.proofs.Widths.{vectors_wide}
use Rattle.lp_form.specs.Building.{joined}
use Rattle.cone_rules.specs.Laws.{FittingLaws, IsPositiveCombination, at_last_one}
use Rattle.cone_rules.proofs.Excluding.{quotients}
use Rattle.cone_rules.proofs.Parts.{all_entries, all_at, entry-ones}
use Rattle.cone_rules.proofs.Rows.{kept, kept_or_zero}

-- ---- the columns of an inverse, joined and cut again
pieces_joined : (n q : ℕ) (rows : Table) → length rows ≡ n → AreWide q rows → pieces n q (joined rows) ≡ rows
pieces_joined zero q [] h w = refl
pieces_joined zero q (r ∷ rows) h w = absurd (omega arith)
pieces_joined (suc n) q [] h w = absurd (omega arith)
pieces_joined (suc n) q (r ∷ rows) h w =
    let long : length r ≡ q = wide-head q r rows w in
    ap₂ (λ a b. a ∷ b)
    (ap (λ k. take k (r ++ joined rows)) (sym long) ∙ take-append_seam r (joined rows))
    (ap (λ v. pieces n q v) (ap (λ k. drop k (r ++ joined rows)) (sym long) ∙ drop-append_seam r (joined rows))
    ∙ pieces_joined n q rows (omega arith) (wide-tail q r rows w))

joined_long : (n q : ℕ) (rows : Table) → length rows ≡ n → AreWide q rows → length (joined rows) ≡ n * q
joined_long zero q [] h w = omega arith
joined_long zero q (r ∷ rows) h w = absurd (omega arith)
joined_long (suc n) q [] h w = absurd (omega arith)
joined_long (suc n) q (r ∷ rows) h w =
    let long : length r ≡ q = wide-head q r rows w in
    let more : length (joined rows) ≡ n * q = joined_long n q rows (omega arith) (wide-tail q r rows w) in
    length-append r (joined rows) ∙ ap₂ (λ a b. a + b) long more ∙ omega arith

columns_wide : (k n q : ℕ) (b : Table) → length b ≡ q → AreWide q (list_from k n (λ j. column_of b j))
columns_wide k zero q b h = wide-nil q
columns_wide k (suc n) q b h = wide-cons q (column_of b k) (list_from (suc k) n (λ j. column_of b j)) (column-long b k ∙ h) (columns_wide (suc k) n q b h)

-- ---- multiples
scaled_positive : (c : ℚ) (v : List ℚ) → zero_ℚ <ℚ c → All (λ x. zero_ℚ <ℚ x) v → All (λ x. zero_ℚ <ℚ x) (scaled c v)
scaled_positive c v p h =
    all_entries (λ x. zero_ℚ <ℚ x) (scaled c v)
    (λ j l u. subst (λ (x : ℚ). zero_ℚ <ℚ x) (sym (entry-scaled c v j))
    (mul_positive c (entry v j) p (all_at (λ x. zero_ℚ <ℚ x) v j h l (omega (arith, u, length-scaled c v)))))

last_one : (q : ℕ) (f : List ℚ) → zero_ℚ <ℚ entry f q → entry (at_last_one q f) q ≡ one_ℚ
last_one q f p = entry-scaled (inverse_ℚ (entry f q)) f q ∙ mul_comm (inverse_ℚ (entry f q)) (entry f q) ∙ mul_inverse (entry f q) p

none_needed : AreEmpty [] [] []
none_needed = record { weights_none = refl; picks_none = refl; inverse_none = refl }

-- ---- an interior vector, by the cone
rows_inside : (q : ℕ) (vectors : List (List ℚ)) (c : List ℚ) → AreWide q vectors → All (λ v. zero_ℚ <ℚ dot v c) (kept vectors) →
    All (λ v. v ≢ zeros q → zero_ℚ <ℚ dot v c) vectors
rows_inside q vectors c w h =
    All-weaker (λ v. (zero_ℚ <ℚ dot v c) ⊎ (v ≡ zeros q)) (λ v. v ≢ zeros q → zero_ℚ <ℚ dot v c) by vectors (kept_or_zero q (λ v. zero_ℚ <ℚ dot v c) vectors w h)
  where
    by : (v : List ℚ) → (zero_ℚ <ℚ dot v c) ⊎ (v ≡ zeros q) → v ≢ zeros q → zero_ℚ <ℚ dot v c
    by v (inl p) other = p
    by v (inr e) other = absurd (other e)

solid_shown : (q : ℕ) (vectors : List (List ℚ)) (mu c : List ℚ) (picks : List ℕ) (inverse : Table) → IsPositiveCombination q vectors mu c → AreIndependent q vectors picks →
    AreInverse q (map (row_of vectors) picks) inverse → ShowsSolid q vectors c mu picks (joined (columns_of q inverse))
solid_shown q vectors mu c picks inverse h i b =
    record {
      weight_each = h.one_each;
      picks_many = i.many;
      inverse_many = joined_long q q (columns_of q inverse) long wide;
      sign = h.sign;
      combined = h.combined;
      rise = i.rising;
      exist = λ k d l. (i.from_one k d l, i.to_end k d l);
      ones = λ a l. product a a l l ∙ delta-same (suc a) (suc a) refl;
      zeros_elsewhere = λ a e l u other. product e a u l ∙ delta-other (suc e) (suc a) (λ same. omega (arith, same, other));
    }
  where
    long : length (columns_of q inverse) ≡ q
    long = length-list_from 1 q (λ j. column_of inverse j)

    wide : AreWide q (columns_of q inverse)
    wide = columns_wide 1 q q inverse b.many

    -- the product of the row at place a with the column at place e
    product : (a e : ℕ) → a < q → e < q →
        dot (slice_index_or (map (row_of vectors) picks) a []) (slice_index_or (pieces q q (joined (columns_of q inverse))) e []) ≡ Rattle.tableaux.proofs.Places.delta (suc a) (suc e)
    product a e l u =
        let here : a ≡ suc a - 1 = omega arith in
        ap₂ (λ i v. dot (slice_index_or (map (row_of vectors) picks) i []) v) here
        (ap (λ rows. slice_index_or rows e []) (pieces_joined q q (columns_of q inverse) long wide) ∙ list_from-place 1 q (λ j. column_of inverse j) e [] u
        ∙ ap (λ j. column_of inverse j) (omega arith))
        ∙ b.right (suc a) (suc e) (omega arith) (omega (arith, l)) (omega arith) (omega (arith, u))

scaled_combination : (q : ℕ) (vectors : List (List ℚ)) (mu f : List ℚ) (a : ℚ) → AreWide q vectors → zero_ℚ <ℚ a → IsPositiveCombination q vectors mu f →
    IsPositiveCombination q vectors (scaled a mu) (scaled a f)
scaled_combination q vectors mu f a w p h =
    record {
      one_each = length-scaled a mu ∙ h.one_each;
      sign = scaled_positive a mu p h.sign;
      combined = combination-scaled q a mu vectors w ∙ ap (λ v. scaled a v) h.combined;
    }

-- ---- a file
module _ (file : Problem) where
  abbrev q : ℕ
  q = file.objs

  some : 1 ≤ q
  some = let one : 0 < file.objs = file.some_objective in omega (arith, one)

  given_long : (f : List ℚ) → file.duality ≡ Some f → length f ≡ file.objs
  given_long f e = eqb-true (length f) file.objs (subst (λ (o : Option (List ℚ)). duality_fits file.objs o ≡ true) e file.duality_entries)

  generators_wide : (vectors : List (List ℚ)) → file.cone ≡ Gens vectors → AreWide file.objs vectors
  generators_wide vectors e = vectors_wide file.objs vectors (subst (λ (c : Cone). cone_fits file.objs c ≡ true) e file.cone_vectors)

  rows_wide : (vectors : List (List ℚ)) → file.cone ≡ Dual vectors → AreWide file.objs vectors
  rows_wide vectors e = vectors_wide file.objs vectors (subst (λ (c : Cone). cone_fits file.objs c ≡ true) e file.cone_vectors)

  follows_given : (cone : Cone) (f : List ℚ) → zero_ℚ <ℚ entry f file.objs → FollowsFile file.objs cone (Some f) (at_last_one file.objs f)
  follows_given Orthant f p = (p, sym (quotients (entry f file.objs) f))
  follows_given (Gens vectors) f p = (p, sym (quotients (entry f file.objs) f))
  follows_given (Dual vectors) f p = (p, sym (quotients (entry f file.objs) f))

  -- with f, once the cone's test is shown
  given : (f weights : List ℚ) (picks : List ℕ) (inverse : List ℚ) → file.duality ≡ Some f → zero_ℚ <ℚ entry f file.objs →
      ShowsInterior file.objs file.cone (at_last_one file.objs f) weights picks inverse → ShowsFitting file (at_last_one file.objs f) weights picks inverse
  given f weights picks inverse e p h =
      record {
        lengths = length-scaled (inverse_ℚ (entry f file.objs)) f ∙ given_long f e;
        scaled = last_one file.objs f p;
        follows = subst (λ (o : Option (List ℚ)). FollowsFile file.objs file.cone o (at_last_one file.objs f)) (sym e) (follows_given file.cone f p);
        interior = h;
      }

  orthant_given : (f : List ℚ) → file.cone ≡ Orthant → file.duality ≡ Some f → All (λ x. zero_ℚ <ℚ x) f → ShowsFitting file (at_last_one file.objs f) [] [] []
  orthant_given f c e h =
      let last : zero_ℚ <ℚ entry f file.objs = all_at (λ x. zero_ℚ <ℚ x) f file.objs h some (omega (arith, given_long f e)) in
      given f [] [] [] e last
      (subst (λ (k : Cone). ShowsInterior file.objs k (at_last_one file.objs f) [] [] []) (sym c)
      (none_needed, scaled_positive (inverse_ℚ (entry f file.objs)) f (inverse_positive (entry f file.objs) last) h))

  orthant : file.cone ≡ Orthant → file.duality ≡ None → ShowsFitting file (replicate file.objs one_ℚ) [] [] []
  orthant c e =
      record {
        lengths = length-replicate file.objs one_ℚ;
        scaled = entry-ones file.objs file.objs some (omega arith);
        follows = subst (λ (k : Cone). FollowsFile file.objs k file.duality (replicate file.objs one_ℚ)) (sym c)
            (subst (λ (o : Option (List ℚ)). FollowsFile file.objs Orthant o (replicate file.objs one_ℚ)) (sym e) refl);
        interior = subst (λ (k : Cone). ShowsInterior file.objs k (replicate file.objs one_ℚ) [] [] []) (sym c)
            (none_needed, All-replicate (λ x. zero_ℚ <ℚ x) file.objs one_ℚ zero_lt_one);
      }

  generators_given : (vectors : List (List ℚ)) (f mu : List ℚ) (picks : List ℕ) (inverse : Table) → file.cone ≡ Gens vectors → file.duality ≡ Some f →
      zero_ℚ <ℚ entry f file.objs → IsPositiveCombination file.objs vectors mu f → AreIndependent file.objs vectors picks →
      AreInverse file.objs (map (row_of vectors) picks) inverse →
      ShowsFitting file (at_last_one file.objs f) (scaled (inverse_ℚ (entry f file.objs)) mu) picks (joined (columns_of file.objs inverse))
  generators_given vectors f mu picks inverse c e p h i b =
      given f (scaled (inverse_ℚ (entry f file.objs)) mu) picks (joined (columns_of file.objs inverse)) e p
      (subst (λ (k : Cone). ShowsInterior file.objs k (at_last_one file.objs f) (scaled (inverse_ℚ (entry f file.objs)) mu) picks (joined (columns_of file.objs inverse))) (sym c)
      (solid_shown file.objs vectors (scaled (inverse_ℚ (entry f file.objs)) mu) (at_last_one file.objs f) picks inverse
      (scaled_combination file.objs vectors mu f (inverse_ℚ (entry f file.objs)) (generators_wide vectors c) (inverse_positive (entry f file.objs) p) h) i b))

  generators_found : (vectors : List (List ℚ)) (c mu : List ℚ) (picks : List ℕ) (inverse : Table) → file.cone ≡ Gens vectors → file.duality ≡ None →
      entry c file.objs ≡ one_ℚ → IsPositiveCombination file.objs vectors mu c → AreIndependent file.objs vectors picks →
      AreInverse file.objs (map (row_of vectors) picks) inverse → ShowsFitting file c mu picks (joined (columns_of file.objs inverse))
  generators_found vectors c mu picks inverse k e one h i b =
      record {
        lengths = ap length (sym h.combined) ∙ Rattle.polyhedra.proofs.Linear.length-combination file.objs mu vectors (generators_wide vectors k);
        scaled = one;
        follows = subst (λ (o : Cone). FollowsFile file.objs o file.duality c) (sym k)
            (subst (λ (o : Option (List ℚ)). FollowsFile file.objs (Gens vectors) o c) (sym e) tt);
        interior = subst (λ (o : Cone). ShowsInterior file.objs o c mu picks (joined (columns_of file.objs inverse))) (sym k)
            (solid_shown file.objs vectors mu c picks inverse h i b);
      }

  rows_given : (vectors : List (List ℚ)) (f : List ℚ) → file.cone ≡ Dual vectors → file.duality ≡ Some f → zero_ℚ <ℚ entry f file.objs →
      All (λ v. zero_ℚ <ℚ dot v f) (kept vectors) → ShowsFitting file (at_last_one file.objs f) [] [] []
  rows_given vectors f c e p h =
      given f [] [] [] e p
      (subst (λ (k : Cone). ShowsInterior file.objs k (at_last_one file.objs f) [] [] []) (sym c) (
        none_needed,
        rows_inside file.objs vectors (at_last_one file.objs f) (rows_wide vectors c)
            (All-weaker (λ v. zero_ℚ <ℚ dot v f) (λ v. zero_ℚ <ℚ dot v (at_last_one file.objs f))
            (λ v k. subst (λ (x : ℚ). zero_ℚ <ℚ x) (sym (dot-scaled v (inverse_ℚ (entry f file.objs)) f))
            (mul_positive (inverse_ℚ (entry f file.objs)) (dot v f) (inverse_positive (entry f file.objs) p) k)) (kept vectors) h),
      ))

  rows_found : (vectors : List (List ℚ)) (c : List ℚ) → file.cone ≡ Dual vectors → file.duality ≡ None → length c ≡ file.objs → entry c file.objs ≡ one_ℚ →
      All (λ v. zero_ℚ <ℚ dot v c) (kept vectors) → ShowsFitting file c [] [] []
  rows_found vectors c k e long one h =
      record {
        lengths = long;
        scaled = one;
        follows = subst (λ (o : Cone). FollowsFile file.objs o file.duality c) (sym k)
            (subst (λ (o : Option (List ℚ)). FollowsFile file.objs (Dual vectors) o c) (sym e) tt);
        interior = subst (λ (o : Cone). ShowsInterior file.objs o c [] [] []) (sym k) (none_needed, rows_inside file.objs vectors c (rows_wide vectors k) h);
      }

pub fitting_laws : FittingLaws
fitting_laws =
    record {
      orthant_given = orthant_given;
      orthant = orthant;
      generators_given = generators_given;
      generators_found = generators_found;
      rows_given = rows_given;
      rows_found = rows_found;
    }
