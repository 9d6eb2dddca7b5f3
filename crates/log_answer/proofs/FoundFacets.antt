-- The named cuts with their places are the facets of the log, and no two have one key.
use Rattle.std.proofs.Common.{◌≡◌, ◌≢◌, ℕ, zero, suc, ◌<◌, ◌-◌, ◌==◌, List, [], ◌∷◌, ◌++◌, sym, ap, ap₂, ◌∙◌, subst, refl, arith, map, filter, length, get_or, slice_index, slice_index_or, Bool, true, true≢false, not, All, AllPairs, Contains}
use Rattle.std.specs.List.{zip}
use Rattle.std.proofs.lemmas.Bool.{ne_eqb}
use Rattle.std.proofs.lemmas.List.{same_from_push, get_or-map, map-append, length-map}
use Rattle.std.proofs.lemmas.List.Elements.{All-map}
use Rattle.std.proofs.lemmas.Slice.Zip.{get_or-zip}
use Rattle.exact_field.specs.Rational.{ℚ, zero_ℚ}
use Rattle.exact_field.specs.Order.{same_ℚ}
use Rattle.exact_field.specs.Vector.{dot, front}
use Rattle.incid_sets.specs.Marks.{has}
use Rattle.polyhedra.specs.DoubleDescription.{is_zero}
use Rattle.polyhedra.specs.Exactness.{SameMembers, row_of}
use Rattle.polyhedra.specs.Inequality.{Inequality}
use Rattle.polyhedra.proofs.Lists.{Contains-here, Contains-there}
use Rattle.polyhedra.proofs.Members.{all_of_members, member_of, Contains-map, Contains-map_source, Contains-filter, Contains-filter_source, pairs-map, pairs-filter, pairs-weaker}
use Rattle.upper_image.specs.UpperImage.{signed}
use Rattle.vlp_problem.specs.declared.problem.Dir.{Dir}
use Rattle.vlp_problem.specs.declared.problem.Problem.{Problem}
use Rattle.deriv_log.specs.declared.entry.Entry.{Entry}
use Rattle.log_rules.specs.Live.{Stated, State, state, rows_in_use, cut_row, inequality, cut_at, named}
use Rattle.log_rules.specs.declared.answer.LineGen.{LineGen}
use Rattle.log_rules.specs.Proves.{PlainProves, IsSorting, facet_of, named_facets, shown_lines}
use Rattle.log_rules.specs.Right.{key, places_from, tight_numbers}
use Rattle.log_rules.specs.Right as right
use Rattle.log_rules.specs.declared.answer.Answer.TheVariants.{Solved}
use Rattle.log_rules.specs.declared.answer.Facet.{Facet}
use Rattle.log_rules.specs.declared.answer.Gen.{Gen}
use Rattle.log_rules.proofs.CutsStay.{Exists, cut_of}
use Rattle.log_rules.proofs.NamedCuts.{named_stand}
use Rattle.entry_checks.specs.Cuts.{stated}
use Rattle.entry_checks.specs.declared.corner.Cut.{Cut}
use Rattle.vlp_matrices.proofs.Lists.{length-zip}
use Rattle.std.proofs.lemmas.List.{get_or_default}
use Rattle.log_live.specs.Live.{HasTightSet}
use Rattle.log_live.specs.Tight.{row_at}
use Rattle.log_live.specs.declared.generator.Generator.{Generator}
use Rattle.log_live.proofs.Columns.{tight_test}
use Rattle.log_answer.specs.Facets.{numbers_at, facet_at, facets_at}
use Rattle.log_answer.specs.Members.{is_point, member, shown_of, points_of, directions_of}
use Rattle.log_answer.specs.Places.{IsFacetPlace, AreFacetPlaces}
use Rattle.log_answer.specs.Supplies.{Supplies}
use Rattle.log_answer.specs.declared.members.Member.{Member}
use Rattle.log_answer.proofs.FoundMembers.{points_found, directions_found, shown_sorting, shown-ys}
use Rattle.log_rules.proofs.NamedOnce.{named_once}
use Rattle.log_answer.proofs.Supplied.{holds, front_wide, point_whole, direction_whole}
use Rattle.log_answer.proofs.TightRows.{point_tight, direction_tight, signed-same}

-- an element of a list that is long enough
some_at : {X : Type 0} (xs : List X) (i : ℕ) → i < length xs → (x : X) × (get_or xs i x ≡ x)
some_at [] i l = absurd (omega (arith, l))
some_at (x ∷ xs) zero l = (x, refl)
some_at (x ∷ xs) (suc i) l = some_at xs i (omega (arith, l))

-- a map through another one, where both give the same of each element
map_through : {X Y Z : Type 0} (f : X → Z) (g : Y → Z) (y : X → Y) (xs : List X) → ((x : X) → Contains xs x → f x ≡ g (y x)) → map f xs ≡ map g (map y xs)
map_through f g y [] h = refl
map_through f g y (x ∷ xs) h =
    ap₂ (λ z zs. z ∷ zs) (h x (Contains-here x xs x refl))
    (map_through f g y xs (λ w c. h w (Contains-there x xs w c)))

-- whether a pair of a cut and a place has a place other than 0
abbrev has_place : Cut × ℕ → Bool
has_place p = not (p.1 == 0)

module _ (file : Problem) (entries : List Entry) (dir : Dir) (c : List ℚ) (generators : List Generator) (cuts : List Cut) (used facets : List ℕ)
    (h : Supplies file entries dir c generators cuts used facets) where
  abbrev s : State
  s = state file.objs entries

  -- ---- the row of a place
  row_is : (i k : ℕ) → i < length used → slice_index used i ≡ k → row_at (rows_in_use file.objs s) (suc i) ≡ cut_row s k
  row_is i k l e =
      let ineq : ℕ → Inequality = λ k. inequality (cut_at s.cuts k) in
      let many : i < length s.used = subst (λ (ks : List ℕ). i < length ks) h.used l in
      let rows : i < length (map ineq s.used) = let m = length-map s.used ineq in omega (arith, many, m) in
      get_or-map row_of (map ineq s.used) i (ineq 0) [] rows
      ∙ ap row_of (get_or-map ineq s.used i 0 (ineq 0) many)
      ∙ ap (cut_row s) (ap (λ (ks : List ℕ). slice_index ks i) (sym h.used) ∙ e)

  is_row : (i : ℕ) → i < length used → suc i < length (rows_in_use file.objs s)
  is_row i l =
      let ineq : ℕ → Inequality = λ k. inequality (cut_at s.cuts k) in
      let many : i < length s.used = subst (λ (ks : List ℕ). i < length ks) h.used l in
      let m = length-map s.used ineq in
      let n = length-map (map ineq s.used) row_of in
      omega (arith, many, m, n)

  module _ (i k : ℕ) (l : i < length used) (e : slice_index used i ≡ k) (wide : length (cut_at s.cuts k).w ≡ file.objs) where
    abbrev cut : Stated
    cut = cut_at s.cuts k

    at_row : (g : Generator) → Contains generators g → has g.tight (suc i) ≡ is_zero (dot (row_of (inequality cut)) g.vector)
    at_row g m =
        tight_test (rows_in_use file.objs s) g (suc i) (member_of (HasTightSet (rows_in_use file.objs s)) generators g h.tight m) (is_row i l)
        ∙ ap (λ (r : List ℚ). is_zero (dot r g.vector)) (row_is i k l e)

    at_point : (m : Member) → Contains (points_of dir generators) m → has m.tight (suc i) ≡ same_ℚ (dot cut.w m.y) (signed dir cut.gamma)
    at_point m a =
        let x : (g : Generator) × Contains (filter is_point generators) g × (member dir g ≡ m) = Contains-map_source (member dir) (filter is_point generators) m a in
        let y : Contains generators x.0 × (is_point x.0 ≡ true) = Contains-filter_source is_point generators x.0 x.1 in
        subst (λ (m : Member). has m.tight (suc i) ≡ same_ℚ (dot cut.w m.y) (signed dir cut.gamma)) x.2
        (at_row x.0 y.0
        ∙ ap (λ (v : List ℚ). is_zero (dot (row_of (inequality cut)) v)) (point_whole file entries dir c generators cuts used facets h x.0 y.0 y.1)
        ∙ point_tight dir (inequality cut) (front x.0.vector) (wide ∙ sym (front_wide file entries dir c generators cuts used facets h x.0 y.0)))

    at_direction : (m : Member) → Contains (directions_of dir generators) m → has m.tight (suc i) ≡ is_zero (dot cut.w m.y)
    at_direction m a =
        let x : (g : Generator) × Contains (filter (λ g. not (is_point g)) generators) g × (member dir g ≡ m) =
        Contains-map_source (member dir) (filter (λ g. not (is_point g)) generators) m a in
        let y : Contains generators x.0 × (not (is_point x.0) ≡ true) = Contains-filter_source (λ g. not (is_point g)) generators x.0 x.1 in
        subst (λ (m : Member). has m.tight (suc i) ≡ is_zero (dot cut.w m.y)) x.2
        (at_row x.0 y.0
        ∙ ap (λ (v : List ℚ). is_zero (dot (row_of (inequality cut)) v)) (direction_whole file entries dir c generators cuts used facets h x.0 y.0 y.1)
        ∙ direction_tight dir (inequality cut) (front x.0.vector) (wide ∙ sym (front_wide file entries dir c generators cuts used facets h x.0 y.0)))

  -- ---- a cut with the place of its row
  -- the pair number i, of which the cut is named
  record IsNamedPair (i : ℕ) (p : Cut × ℕ) : Type 0 where
    pub cut : stated p.0 ≡ cut_at s.cuts (suc i)
    pub wide : length p.0.w ≡ file.objs
    pub named : Contains facets (suc i)
    pub row : ℕ
    pub place : p.1 ≡ suc row
    pub below : row < length used
    pub number : slice_index used row ≡ suc i

  module _ (places : List ℕ) (are : AreFacetPlaces used facets (length cuts) places) where
    abbrev pairs : List (Cut × ℕ)
    pairs = zip cuts places

    pairs_many : length pairs ≡ length cuts
    pairs_many = length-zip cuts places (sym are.many)

    cut_is : (i : ℕ) (d : Cut) → i < length cuts → stated (get_or cuts i d) ≡ cut_at s.cuts (suc i)
    cut_is i d l =
        let back : i ≡ suc i - 1 = omega arith in
        sym (get_or-map stated cuts i d (record { w = []; gamma = zero_ℚ; u = [] }) l)
        ∙ ap (λ (xs : List Stated). slice_index_or xs i (record { w = []; gamma = zero_ℚ; u = [] })) h.stands
        ∙ ap (λ (n : ℕ). slice_index_or s.cuts n (record { w = []; gamma = zero_ℚ; u = [] })) back

    exists : (i : ℕ) → i < length cuts → Exists s.cuts (suc i)
    exists i l =
        let m = length-map cuts stated in
        let n = ap (λ (xs : List Stated). length xs) h.stands in
        (omega arith, omega (arith, l, m, n))

    wide_at : (i : ℕ) → i < length cuts → length (cut_at s.cuts (suc i)).w ≡ file.objs
    wide_at i l = cut_of (λ (x : Stated). length x.w ≡ file.objs) s.cuts (holds file entries dir c generators cuts used facets h).wide (suc i) (exists i l)

    at_pair : (i : ℕ) (d : Cut × ℕ) → i < length cuts → has_place (get_or pairs i d) ≡ true → IsNamedPair i (get_or pairs i d)
    at_pair i d l t =
        subst (IsNamedPair i) (sym split)
        (go (slice_index places i) (are.each i l) (sym (ap (λ (p : Cut × ℕ). not (p.1 == 0)) split ∙ ap (λ (n : ℕ). not (n == 0)) same) ∙ t) same)
      where
        room : i < length places
        room = let m = are.many in omega (arith, l, m)

        split : get_or pairs i d ≡ (get_or cuts i d.0, get_or places i d.1)
        split = get_or-zip cuts places i d l room

        same : get_or places i d.1 ≡ slice_index places i
        same = get_or_default places i d.1 0 room

        go : (n : ℕ) → IsFacetPlace used facets (suc i) n → not (n == 0) ≡ true → get_or places i d.1 ≡ n → IsNamedPair i (get_or cuts i d.0, get_or places i d.1)
        go zero f u e = absurd (true≢false (sym u))
        go (suc j) f u e = record {
          cut = cut_is i d.0 l;
          wide = ap (λ (x : Stated). length x.w) (cut_is i d.0 l) ∙ wide_at i l;
          named = f.0;
          row = j;
          place = e;
          below = f.1;
          number = f.2;
        }

    module _ (points directions : List Member) (from_points : (m : Member) → Contains points m → Contains (points_of dir generators) m)
        (from_directions : (m : Member) → Contains directions m → Contains (directions_of dir generators) m) where
      abbrev ys : List (List ℚ)
      ys = map (λ (m : Member). m.y) points

      abbrev ds : List (List ℚ)
      ds = map (λ (m : Member). m.y) directions

      facet_same : (i : ℕ) (p : Cut × ℕ) → IsNamedPair i p → facet_at dir points directions p.0 p.1 ≡ facet_of file ys ds (cut_at s.cuts (suc i))
      facet_same i p n =
          let tight : numbers_at points directions p.1 ≡ tight_numbers ys ds (record { normal = (stated p.0).w; bound = signed dir (stated p.0).gamma }) =
          ap (numbers_at points directions) n.place
          ∙ ap (places_from 1) (map-append (λ (m : Member). has m.tight (suc n.row)) points directions
          ∙ ap₂ (λ a b. a ++ b)
          (map_through (λ (m : Member). has m.tight (suc n.row)) (λ y. same_ℚ (dot p.0.w y) (signed dir p.0.gamma)) (λ (m : Member). m.y) points
          (λ m a. subst (λ (x : Stated). has m.tight (suc n.row) ≡ same_ℚ (dot x.w m.y) (signed dir x.gamma)) (sym n.cut)
          (at_point n.row (suc i) n.below n.number (ap (λ (x : Stated). length x.w) (sym n.cut) ∙ n.wide) m (from_points m a))))
          (map_through (λ (m : Member). has m.tight (suc n.row)) (λ y. is_zero (dot p.0.w y)) (λ (m : Member). m.y) directions
          (λ m a. subst (λ (x : Stated). has m.tight (suc n.row) ≡ is_zero (dot x.w m.y)) (sym n.cut)
          (at_direction n.row (suc i) n.below n.number (ap (λ (x : Stated). length x.w) (sym n.cut) ∙ n.wide) m (from_directions m a))))) in
          ap (λ (t : List ℕ). record { w = p.0.w; gamma = signed dir p.0.gamma; u = p.0.u; tight = t }) tight
          ∙ ap (λ (d : Dir). record {
            w = p.0.w;
            gamma = signed d p.0.gamma;
            u = p.0.u;
            tight = tight_numbers ys ds (record { normal = p.0.w; bound = signed d p.0.gamma });
          }) h.direction
          ∙ ap (facet_of file ys ds) n.cut

      -- ---- the facets
      abbrev found : List Facet
      found = facets_at dir points directions cuts places

      abbrev facet_of_pair : Cut × ℕ → Facet
      facet_of_pair p = facet_at dir points directions p.0 p.1

      record IsPair (p : Cut × ℕ) : Type 0 where
        pub index : ℕ
        pub below : index < length cuts
        pub named_pair : IsNamedPair index p

      of_pair : (p : Cut × ℕ) → Contains (filter (λ p. not (p.1 == 0)) pairs) p → IsPair p
      of_pair p m =
          let a : Contains pairs p × (not (p.1 == 0) ≡ true) = Contains-filter_source (λ (p : Cut × ℕ). not (p.1 == 0)) pairs p m in
          let i = a.0.0 in
          let l : i < length cuts = let b = a.0.1 in let n = pairs_many in omega (arith, b, n) in
          record {
            index = i;
            below = l;
            named_pair = subst (IsNamedPair i) a.0.2 (at_pair i p l (ap (λ (p : Cut × ℕ). not (p.1 == 0)) a.0.2 ∙ a.1));
          }

      from_named : (k : ℕ) → Contains (named entries) k → Contains found (facet_of file ys ds (cut_at s.cuts k))
      from_named k m = go k (member_of (Exists s.cuts) (named entries) k (named_stand file entries h.meet).exist m) (subst (λ (ks : List ℕ). Contains ks k) (sym h.names) m)
        where
          go : (k : ℕ) → Exists s.cuts k → Contains facets k → Contains found (facet_of file ys ds (cut_at s.cuts k))
          go zero x a = absurd (let b = x.0 in omega (arith, b))
          go (suc i) x a =
              let l : i < length cuts = let b = x.1 in let m = length-map cuts stated in let n = ap (λ (xs : List Stated). length xs) h.stands in omega (arith, b, m, n) in
              let room : i < length pairs = let n = pairs_many in omega (arith, l, n) in
              let p : (p : Cut × ℕ) × (get_or pairs i p ≡ p) = some_at pairs i room in
              let t : not (p.0.1 == 0) ≡ true = placed i l a p.0 p.1 in
              subst (Contains found) (facet_same i p.0 (subst (IsNamedPair i) p.1 (at_pair i p.0 l (ap (λ (p : Cut × ℕ). not (p.1 == 0)) p.1 ∙ t))))
              (Contains-map facet_of_pair (filter (λ p. not (p.1 == 0)) pairs) p.0
              (Contains-filter (λ (p : Cut × ℕ). not (p.1 == 0)) pairs p.0 (i, room, p.1) t))
            where
              placed : (i : ℕ) → i < length cuts → Contains facets (suc i) → (p : Cut × ℕ) → get_or pairs i p ≡ p → not (p.1 == 0) ≡ true
              placed i l a p e =
                  let room : i < length places = let m = are.many in omega (arith, l, m) in
                  let same : slice_index places i ≡ p.1 =
                  sym (get_or_default places i p.1 0 room) ∙ sym (ap (λ (p : Cut × ℕ). p.1) (get_or-zip cuts places i p l room)) ∙ ap (λ (p : Cut × ℕ). p.1) e in
                  subst (λ (n : ℕ). not (n == 0) ≡ true) same (positive (slice_index places i) (are.each i l))
                where
                  positive : (n : ℕ) → IsFacetPlace used facets (suc i) n → not (n == 0) ≡ true
                  positive zero f = absurd (f a)
                  positive (suc n) f = ap not (ne_eqb (suc n) 0 (omega arith))

      pub same_facets : SameMembers (named_facets file entries ys ds) found
      same_facets f = (
        λ m. let a : (k : ℕ) × Contains (named entries) k × (facet_of file ys ds (cut_at s.cuts k) ≡ f) =
            Contains-map_source (λ k. facet_of file ys ds (cut_at s.cuts k)) (named entries) f m in
            subst (Contains found) a.2 (from_named a.0 a.1),
        λ m. let a : (p : Cut × ℕ) × Contains (filter (λ p. not (p.1 == 0)) pairs) p × (facet_of_pair p ≡ f) =
            Contains-map_source facet_of_pair (filter (λ p. not (p.1 == 0)) pairs) f m in
            let b : IsPair a.0 = of_pair a.0 a.1 in
            subst (Contains (named_facets file entries ys ds)) (sym (facet_same b.index a.0 b.named_pair) ∙ a.2)
            (Contains-map (λ k. facet_of file ys ds (cut_at s.cuts k)) (named entries) (suc b.index)
            (subst (λ (ks : List ℕ). Contains ks (suc b.index)) h.names b.named_pair.named)),
      )

      pub wide_facets : All (λ f. length f.w ≡ file.objs) found
      wide_facets = All-map (λ (f : Facet). length f.w ≡ file.objs) facet_of_pair (filter (λ p. not (p.1 == 0)) pairs)
          (all_of_members (λ (p : Cut × ℕ). length p.0.w ≡ file.objs) (filter (λ p. not (p.1 == 0)) pairs) (λ p m. (of_pair p m).named_pair.wide))

      -- two named cuts with one key have one number
      one_number : (i j : ℕ) (p q : Cut × ℕ) → IsNamedPair i p → IsNamedPair j q → key (right.stated (facet_of_pair p)) ≡ key (right.stated (facet_of_pair q)) → i ≡ j
      one_number i j p q a b e =
          let parts : (p.0.w ≡ q.0.w) × (signed dir p.0.gamma ≡ signed dir q.0.gamma) = same_from_push p.0.w q.0.w (signed dir p.0.gamma) (signed dir q.0.gamma) e in
          let gamma : p.0.gamma ≡ q.0.gamma = signed-same dir p.0.gamma q.0.gamma parts.1 in
          let both : inequality (stated p.0) ≡ inequality (stated q.0) = ap₂ (λ w g. record { normal = w; bound = g }) parts.0 gamma in
          let number : suc i ≡ suc j = (named_once file entries h.meet).once (suc i) (suc j) (subst (λ (ks : List ℕ). Contains ks (suc i)) h.names a.named)
          (subst (λ (ks : List ℕ). Contains ks (suc j)) h.names b.named) (ap inequality (sym a.cut) ∙ both ∙ ap inequality b.cut) in
          omega (arith, number)

      pub differ : AllPairs (λ f g. key (right.stated f) ≢ key (right.stated g)) found
      differ =
          pairs-map (λ (f g : Facet). key (right.stated f) ≢ key (right.stated g)) facet_of_pair (filter (λ p. not (p.1 == 0)) pairs)
          (pairs-weaker (λ (p q : Cut × ℕ). has_place p ≡ true → has_place q ≡ true → key (right.stated (facet_of_pair p)) ≢ key (right.stated (facet_of_pair q)))
          (λ (p q : Cut × ℕ). key (right.stated (facet_of_pair p)) ≢ key (right.stated (facet_of_pair q))) (filter (λ p. not (p.1 == 0)) pairs)
          (λ p q m n r. r (Contains-filter_source (λ (p : Cut × ℕ). not (p.1 == 0)) pairs p m).1 (Contains-filter_source (λ (p : Cut × ℕ). not (p.1 == 0)) pairs q n).1)
          (pairs-filter (λ (p q : Cut × ℕ). has_place p ≡ true → has_place q ≡ true → key (right.stated (facet_of_pair p)) ≢ key (right.stated (facet_of_pair q)))
          (λ (p : Cut × ℕ). not (p.1 == 0)) pairs
          (λ i j d a b t u e.
          let n = pairs_many in
          let lower : i < length cuts = omega (arith, a, b, n) in
          let upper : j < length cuts = omega (arith, b, n) in
          let same = one_number i j (get_or pairs i d) (get_or pairs j d) (at_pair i d lower t) (at_pair j d upper u) e in
          omega (arith, a, same))))

      -- ---- the answer
      pub given : (ls : List LineGen) → ls ≡ shown_lines file entries → (fs : List Facet) → IsSorting (λ (m : Member). m.y) (points_of dir generators) points →
          IsSorting (λ (m : Member). m.y) (directions_of dir generators) directions → IsSorting (λ f. key (right.stated f)) found fs →
          PlainProves file entries (Solved c ls (map shown_of points) (map shown_of directions) fs)
      given ls told fs a b f = record {
        log = h.log;
        meet = h.meet;
        gives = (
          h.ended,
          record {
            c_given = h.scale;
            lines_are = told;
            points_are = subst (λ (gs : List Gen). IsSorting (λ (g : Gen). g.y) gs (map shown_of points)) (sym (points_found file entries dir c generators cuts used facets h)) (shown_sorting (points_of dir generators) points a);
            directions_are = subst (λ (gs : List Gen). IsSorting (λ (g : Gen). g.y) gs (map shown_of directions)) (sym (directions_found file entries dir c generators cuts used facets h)) (shown_sorting (directions_of dir generators) directions b);
            facets_are = subst (λ (vs : List (List ℚ)). IsSorting (λ f. key (right.stated f)) (named_facets file entries vs (map (λ (g : Gen). g.y) (map shown_of directions))) fs) (sym (shown-ys points))
                (subst (λ (vs : List (List ℚ)). IsSorting (λ f. key (right.stated f)) (named_facets file entries ys vs) fs) (sym (shown-ys directions)) (record {
                  same = λ x. (λ m. (f.same x).0 ((same_facets x).0 m), λ m. (same_facets x).1 ((f.same x).1 m));
                  rise = f.rise;
                }));
          },
        );
      }

-- the answer of what was found and sorted
pub answer_given : (file : Problem) (entries : List Entry) (dir : Dir) (c : List ℚ) (generators : List Generator) (cuts : List Cut) (used facets : List ℕ) →
    Supplies file entries dir c generators cuts used facets → (ls : List LineGen) → ls ≡ shown_lines file entries → (points directions : List Member) (places : List ℕ) (made fs : List Facet) →
    IsSorting (λ (m : Member). m.y) (points_of dir generators) points → IsSorting (λ (m : Member). m.y) (directions_of dir generators) directions →
    AreFacetPlaces used facets (length cuts) places → made ≡ facets_at dir points directions cuts places →
    ((width : ℕ) → All (λ f. length f.w ≡ width) made → AllPairs (λ f g. key (right.stated f) ≢ key (right.stated g)) made → IsSorting (λ f. key (right.stated f)) made fs) →
    PlainProves file entries (Solved c ls (map shown_of points) (map shown_of directions) fs)
answer_given file entries dir c generators cuts used facets h ls told points directions places made fs p d are e sort =
    let from_points : (m : Member) → Contains points m → Contains (points_of dir generators) m = λ m a. (p.same m).1 a in
    let from_directions : (m : Member) → Contains directions m → Contains (directions_of dir generators) m = λ m a. (d.same m).1 a in
    given file entries dir c generators cuts used facets h places are points directions from_points from_directions ls told fs p d
    (subst (λ (gs : List Facet). IsSorting (λ f. key (right.stated f)) gs fs) e
    (sort file.objs
    (subst (λ (gs : List Facet). All (λ f. length f.w ≡ file.objs) gs) (sym e)
    (wide_facets file entries dir c generators cuts used facets h places are points directions from_points from_directions))
    (subst (λ (gs : List Facet). AllPairs (λ f g. key (right.stated f) ≢ key (right.stated g)) gs) (sym e)
    (differ file entries dir c generators cuts used facets h places are points directions from_points from_directions))))
