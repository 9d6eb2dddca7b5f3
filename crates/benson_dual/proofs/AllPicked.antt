-- All facets of an image, picked in an order, end with first cuts of the image.
use Rattle.std.proofs.Common.{◌≡◌, ℕ, zero, suc, ◌+◌, ◌-◌, ◌<◌, ◌≤◌, List, [], ◌∷◌, ◌++◌, map, length, All, Bool, refl, sym, ap₂, ◌∙◌, subst, arith, ◌⊎◌, inl, inr, true, false, slice_index_or}
use Rattle.std.proofs.Math.Dec.{leb}
use Rattle.std.proofs.lemmas.Bool.Decides.{leb_tells}
use Rattle.std.proofs.lemmas.List.{length-append, length-map, map-append}
use Rattle.std.proofs.lemmas.List.Elements.{All-append, All-map, All-nil, All-push}
use Rattle.std.proofs.lemmas.List.Sorted.{IsPermutation-sym, All-permutation}
use Rattle.std.proofs.lemmas.Simd.{map-map}
use Rattle.exact_field.specs.Rational.{ℚ, zero_ℚ}
use Rattle.exact_field.specs.Vector.{dot}
use Rattle.polyhedra.specs.Cone.{HasFullRank}
use Rattle.polyhedra.specs.Hull.{IsValidAt}
use Rattle.polyhedra.specs.Inequality.{Inequality}
use Rattle.polyhedra.proofs.Lists.{all_from_map, all_front}
use Rattle.polyhedra.proofs.Members.{all_of_members, member_of}
use Rattle.lineality.specs.Lines.{IsInLineality}
use Rattle.lineality.specs.Without.{marks, open_count, without}
use Rattle.lineality.proofs.Level.{IsLevel}
use Rattle.lineality.proofs.Marks.{length-marks}
use Rattle.lin_rows.specs.Complement.{AreComplement}
use Rattle.upper_image.specs.UpperImage.{IsInWorkingImage, IsWorkingDirection}
use Rattle.upper_image.proofs.WorkingImage.{cut_valid}
use Rattle.overflows.specs.Base.{IsSide}
use Rattle.lp_form.specs.declared.shown.Cut.{Cut}
use Rattle.outer_approx.specs.Cuts.{IsCutFor, said_by}
use Rattle.outer_approx.specs.Lines.{told_by}
use Rattle.outer_approx.specs.Task.{Task}
use Rattle.outer_approx.specs.declared.log.Line.{Line}
use Rattle.recession.specs.First.{AreFirstCuts}
use Rattle.recession.specs.Further.{normals_of}
use Rattle.recession.proofs.Asking_ends.{sparse_there}
use Rattle.recession.proofs.Free.{HasFree}
use Rattle.recession.proofs.Grown.{cut_level}
use Rattle.recession.proofs.Tail.{all_sides}
use Rattle.recession.proofs.Whole.{complement_by_rank, full_rank_without, many_together}
use Rattle.lower_image.specs.Facets.{AreFacetCuts}
use Rattle.lower_image.proofs.FromAllFacets.{all_facets}
use Rattle.benson_dual.specs.Order.{IsOrder}
use Rattle.benson_dual.specs.Picking.{ArePicked, IsWithin}
use Rattle.benson_dual.proofs.Counted.{free_of}
use Rattle.benson_dual.proofs.Picked.{normals_wide, picked_none}
use Rattle.benson_dual.proofs.Permuted.{facets_permuted, taken_in_order}

module _ {F : Type 0} (value : F → ℚ) where
  -- ---- all facets
  module _ (task : Task) where
    -- the inequality that a cut says is valid
    valid_cuts : (cuts : List (Cut F)) → All (IsCutFor value task) cuts →
        All (IsValidAt task.file.objs (IsInWorkingImage task.file) task.c) (map (said_by value) cuts)
    valid_cuts cuts h = All-map (IsValidAt task.file.objs (IsInWorkingImage task.file) task.c) (said_by value) cuts
        (all_of_members (λ (k : Cut F). IsValidAt task.file.objs (IsInWorkingImage task.file) task.c (said_by value k)) cuts
        (λ k c.
        let u = sparse_there value k.u in
        let v = sparse_there value k.v in
        cut_valid task.file task.c (map value k.w) (value k.gamma) u.0 v.0 ((member_of (IsCutFor value task) cuts k h c).shown u.0 v.0 u.1 v.1)))

    said_normals : (cuts : List (Cut F)) → map (λ (e : Inequality). e.normal) (map (said_by value) cuts) ≡ normals_of value cuts
    said_normals cuts = map-map (λ (e : Inequality). e.normal) (said_by value) cuts

    module _ (x : List F) (ls : List (Line F)) (found cuts : List (Cut F)) (f : AreFirstCuts value task x ls found) (facets : AreFacetCuts value task cuts) where
      abbrev q : ℕ
      q = task.file.objs

      abbrev ds : List (List ℚ)
      ds = map (told_by value) ls

      abbrev bs : List Bool
      bs = marks task.file.objs (map (told_by value) ls)

      -- the normals of cuts are level along the lines
      level_cuts : (some : List (Cut F)) → All (IsCutFor value task) some → All (IsLevel ds) (normals_of value some)
      level_cuts some h = All-map (IsLevel ds) (λ (k : Cut F). map value k.w) some
          (all_of_members (λ (k : Cut F). IsLevel ds (map value k.w)) some
          (λ k c. all_of_members (λ d. dot (map value k.w) d ≡ zero_ℚ) ds
          (λ d m. cut_level value task k (member_of (IsCutFor value task) some k h c) d
          (member_of (IsInLineality (IsWorkingDirection task.file)) ds d f.lines_are.along.each m))))

      across_lines : (some : List (Cut F)) → All (IsCutFor value task) some → All (λ d. All (λ n. dot n d ≡ zero_ℚ) (normals_of value some)) ds
      across_lines some h = all_of_members (λ d. All (λ n. dot n d ≡ zero_ℚ) (normals_of value some)) ds
          (λ d m. all_of_members (λ n. dot n d ≡ zero_ℚ) (normals_of value some)
          (λ n c. member_of (λ d. dot n d ≡ zero_ℚ) ds d (member_of (IsLevel ds) (normals_of value some) n (level_cuts some h) c) m))

      -- without the places of the lines those of all facets have full rank, as those of the first cuts have
      rank_all : HasFullRank (open_count bs) (map (without bs) (normals_of value cuts))
      rank_all = subst (λ (ns : List (List ℚ)). HasFullRank (open_count bs) (map (without bs) ns)) (said_normals cuts)
          (all_facets.rank task.file task.c bs (map (said_by value) cuts) (map (said_by value) found) facets.all (length-marks q ds) (valid_cuts found f.each)
          (subst (λ (ns : List (List ℚ)). HasFullRank (open_count bs) (map (without bs) ns)) (sym (said_normals found)) f.rank))

      whole_all : AreComplement q (normals_of value cuts) ds
      whole_all = complement_by_rank q ds f.shown.echelon (normals_of value cuts) (level_cuts cuts facets.each) rank_all (across_lines cuts facets.each)

      module _ (most : ℕ) (first others : List (Cut F)) (most_is : most ≡ q - length ls) (h : ArePicked value q most cuts first others) where
        each_all : All (IsCutFor value task) (first ++ others)
        each_all = All-permutation (IsCutFor value task) cuts (first ++ others) h.same facets.each

        each_first : All (IsCutFor value task) first
        each_first = all_front (IsCutFor value task) first others each_all

        free : HasFree q (normals_of value first)
        free = free_of q (normals_of value first) (normals_wide value task first each_first) h.free

        -- what is across the first ones is across all, where they are fewer
        across_all : length first < most → (y : List ℚ) → length y ≡ q → All (λ n. dot n y ≡ zero_ℚ) (normals_of value first) →
            All (λ n. dot n y ≡ zero_ℚ) (normals_of value cuts)
        across_all fewer y wide across =
            let P : Cut F → Type 0 = λ k. dot (map value k.w) y ≡ zero_ℚ in
            let one : All P first = all_from_map (λ n. dot n y ≡ zero_ℚ) (λ (k : Cut F). map value k.w) first across in
            let two : All P others = all_of_members P others
            (λ k c. member_of (λ (k : Cut F). IsWithin q (normals_of value first) (map value k.w)) others k (h.within fewer) c y wide across) in
            All-map (λ n. dot n y ≡ zero_ℚ) (λ (k : Cut F). map value k.w) cuts
            (All-permutation P (first ++ others) cuts (IsPermutation-sym cuts (first ++ others) h.same) (All-append P first others one two))

        enough : length first < most → ⊥
        enough fewer = many_together q (normals_of value first) ds (record {
          echelon = f.shown.echelon;
          orthogonal = across_lines first each_first;
          spans = λ y wide across. whole_all.spans y wide (across_all fewer y wide across);
        }) (let a = length-map first (λ (k : Cut F). map value k.w) in let b = length-map ls (told_by value) in omega (arith, fewer, most_is, a, b))

        many : length first + length ls ≡ q
        many = go (leb_tells most (length first))
          where
            go : ((leb most (length first) ≡ true) × (most ≤ length first)) ⊎ ((leb most (length first) ≡ false) × (length first < most)) →
                length first + length ls ≡ q
            go (inl (l, m)) = let a = h.few in let b = f.many in omega (arith, m, a, b, most_is)
            go (inr (l, m)) = absurd (enough m)

        rank : HasFullRank (open_count bs) (map (without bs) (normals_of value first))
        rank = full_rank_without q ds f.shown.echelon (normals_of value first) (level_cuts first each_first) free
            (let a = length-map first (λ (k : Cut F). map value k.w) in let b = length-map ls (told_by value) in let m = many in omega (arith, m, a, b))

        whole : AreComplement q (normals_of value first) ds
        whole = complement_by_rank q ds f.shown.echelon (normals_of value first) (level_cuts first each_first) rank (across_lines first each_first)

        pub first_again : AreFirstCuts value task x ls first
        first_again = record {
          choice = f.choice;
          shown = record {
            sides = all_from_map (IsSide q (normals_of value first)) (told_by value) ls (all_sides q (normals_of value first) ds whole);
            both_ways = f.shown.both_ways;
            echelon = f.shown.echelon;
          };
          lines_are = f.lines_are;
          each = each_first;
          some = let m = many in let a = f.many in let b = f.some in omega (arith, m, a, b);
          many = many;
          rank = rank;
        }

  -- ---- in an order
  -- those at these places of a list were seen
  pub record ArePickedAt (task : Task) (most : ℕ) (cuts : List (Cut F)) (places : List ℕ) (first others : List (Cut F)) : Type 0 where
    pub seen : List (Cut F)
    pub long : length seen ≡ length places
    pub are : (d : Cut F) → seen ≡ map (λ k. slice_index_or cuts k d) places
    pub each : All (IsCutFor value task) seen
    pub picked : ArePicked value task.file.objs most seen first others

  pub at_none : (task : Task) (most : ℕ) (cuts : List (Cut F)) → ArePickedAt task most cuts [] [] []
  at_none task most cuts = record {
    seen = [];
    long = refl;
    are = λ d. refl;
    each = All-nil (IsCutFor value task);
    picked = picked_none value task.file.objs most;
  }

  pub at_more : (task : Task) (most : ℕ) (cuts : List (Cut F)) (places : List ℕ) (first others first' others' : List (Cut F)) (k : ℕ) (cut : Cut F)
      (h : ArePickedAt task most cuts places first others) → k < length cuts → slice_index_or cuts k cut ≡ cut → IsCutFor value task cut →
      ArePicked value task.file.objs most (h.seen ++ cut ∷ []) first' others' → ArePickedAt task most cuts (places ++ k ∷ []) first' others'
  at_more task most cuts places first others first' others' k cut h low is one picked = record {
    seen = h.seen ++ cut ∷ [];
    long = let a = length-append h.seen (cut ∷ []) in let b = length-append places (k ∷ []) in let l = h.long in omega (arith, a, b, l);
    are = λ d. ap₂ (λ (xs : List (Cut F)) (x : Cut F). xs ++ x ∷ []) (h.are d) (sym is ∙ any_default cuts k cut d low)
        ∙ sym (map-append (λ k. slice_index_or cuts k d) places (k ∷ []));
    each = All-push (IsCutFor value task) h.seen cut h.each one;
    picked = picked;
  }
    where
      any_default : {X : Type 0} (xs : List X) (k : ℕ) (d e : X) → k < length xs → slice_index_or xs k d ≡ slice_index_or xs k e
      any_default [] k d e low = absurd (omega (arith, low))
      any_default (x ∷ xs) zero d e low = refl
      any_default (x ∷ xs) (suc k) d e low = any_default xs k d e (omega (arith, low))

  pub first_each : (task : Task) (most : ℕ) (cuts : List (Cut F)) (places : List ℕ) (first others : List (Cut F)) →
      ArePickedAt task most cuts places first others → All (IsCutFor value task) first
  first_each task most cuts places first others h =
      all_front (IsCutFor value task) first others (All-permutation (IsCutFor value task) h.seen (first ++ others) h.picked.same h.each)

  module _ (task : Task) (most : ℕ) (cuts : List (Cut F)) (order : List ℕ) (first others : List (Cut F)) (is_order : IsOrder (length cuts) order)
      (facets : AreFacetCuts value task cuts) (h : ArePickedAt task most cuts order first others) where
    seen_facets : AreFacetCuts value task h.seen
    seen_facets = facets_permuted value task cuts h.seen (taken_in_order cuts h.seen order is_order h.long h.are) facets

    pub facets_at_end : AreFacetCuts value task (first ++ others)
    facets_at_end = facets_permuted value task h.seen (first ++ others) h.picked.same seen_facets

    pub first_at_end : (x : List F) (ls : List (Line F)) (found : List (Cut F)) → most ≡ task.file.objs - length ls → AreFirstCuts value task x ls found →
        AreFirstCuts value task x ls first
    first_at_end x ls found most_is f = first_again task x ls found h.seen f seen_facets most first others most_is h.picked
