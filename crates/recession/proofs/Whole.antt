-- Lines that with the cuts are as many as there are entries: without the entries at their places the
-- normals have full rank, and what is across all normals is a combination of the lines.
use Rattle.std.proofs.Common.{◌≡◌, ℕ, ◌+◌, ◌<◌, List, map, length, All, Bool, sym, ap, ◌∙◌, subst, arith}
use Rattle.std.proofs.lemmas.List.{length-map}
use Rattle.std.proofs.lemmas.List.Elements.{All-map}
use Rattle.exact_field.specs.Rational.{ℚ, zero_ℚ, ◌+ℚ◌}
use Rattle.exact_field.specs.Vector.{dot, entry}
use Rattle.polyhedra.specs.Cone.{HasFullRank}
use Rattle.polyhedra.specs.Vectors.{AreWide, zeros, combination, values}
use Rattle.polyhedra.proofs.Algebra.{zero_add}
use Rattle.polyhedra.proofs.Dependence.{null_vector}
use Rattle.polyhedra.proofs.Linear.{dot_comm, dot-plus, dot-zeros, dot-combination_left, length-zeros, length-combination, same_wide}
use Rattle.polyhedra.proofs.Lists.{HasWidth, all_from_map}
use Rattle.polyhedra.proofs.Members.{all_of_members, member_of}
use Rattle.lineality.specs.Lines.{AreEchelon, AreLines, IsCombined, IsInLineality, IsReduced, leading_place, reduction}
use Rattle.lineality.specs.Without.{marks, open_count, with_zeros, without}
use Rattle.lineality.proofs.Echelon.{IsEchelon, echelon_of, flat_is_zero}
use Rattle.lineality.proofs.Erased.{erased_wide, filled_reduced, filled_wide, kept, long, same_product}
use Rattle.lineality.proofs.Level.{IsLevel, same_level}
use Rattle.lineality.proofs.Masks.{dot-without, with-zeros, without-combination, without-with, without-zeros}
use Rattle.lineality.proofs.OpenPlaces.{open_places}
use Rattle.lineality.proofs.Reduction.{entries_at, flat_of, length-reduction, level_reduction, parted, reduction_flat}
use Rattle.lin_rows.specs.Complement.{AreComplement}
use Rattle.recession.proofs.Free.{HasFree, has_free-rank, values_across}

module _ (q : ℕ) (ls : List (List ℚ)) (echelon : AreEchelon q ls) where
  form : IsEchelon q ls
  form = echelon_of q ls echelon

  abbrev bs : List Bool
  bs = marks q ls

  -- ---- where all normals are level, and have full rank without the places
  module _ (normals : List (List ℚ)) (level : All (IsLevel ls) normals) where
    pub combined_by_rank : HasFullRank (open_count (marks q ls)) (map (without (marks q ls)) normals) → (y : List ℚ) → length y ≡ q →
        All (λ n. dot n y ≡ zero_ℚ) normals → IsCombined q ls y
    combined_by_rank rank y wide across =
        let z : List ℚ = reduction q ls y in
        let z_wide : length z ≡ q = length-reduction q ls y form.wide wide in
        let flat : IsReduced ls z = reduction_flat q ls y form in
        let short : without bs z ≡ zeros (open_count bs) = rank (without bs z) (erased_wide q ls form z z_wide)
        (All-map (λ v. dot v (without bs z) ≡ zero_ℚ) (without bs) normals
        (all_of_members (λ n. dot (without bs n) (without bs z) ≡ zero_ℚ) normals
        (λ n c. same_product q ls form n z z_wide flat ∙ level_reduction q ls n y (member_of (IsLevel ls) normals n level c)
        ∙ member_of (λ n. dot n y ≡ zero_ℚ) normals n across c))) in
        let none : z ≡ zeros q = sym (kept q ls form z z_wide flat) ∙ ap (with_zeros bs) short ∙ with-zeros bs ∙ ap zeros (long q ls form) in
        let sum : List ℚ = combination q (entries_at ls y) ls in
        record {
          multipliers = entries_at ls y;
          one_each = length-map ls (λ v. entry y (leading_place v));
          combined = same_wide q y sum wide (length-combination q (entries_at ls y) ls form.wide)
              (λ r. ap (dot r) (parted q ls y form.wide wide) ∙ dot-plus r z sum ∙ ap (λ a. a +ℚ dot r sum) (ap (dot r) none ∙ dot-zeros r q) ∙ zero_add (dot r sum));
        }

    -- so the lines are those of each set at whose lineality space all normals are 0
    pub lines_by_rank : (Directions : List ℚ → Type 0) → HasFullRank (open_count (marks q ls)) (map (without (marks q ls)) normals) →
        All (IsInLineality Directions) ls → ((d : List ℚ) → IsInLineality Directions d → length d ≡ q) →
        ((d : List ℚ) → IsInLineality Directions d → All (λ n. dot n d ≡ zero_ℚ) normals) → AreLines q Directions ls
    lines_by_rank Directions rank each wide across = record {
      along = record { echelon = echelon; each = each };
      spans = λ d h. combined_by_rank rank d (wide d h) (across d h);
    }

    -- and they are the complement of the normals
    pub complement_by_rank : HasFullRank (open_count (marks q ls)) (map (without (marks q ls)) normals) →
        All (λ v. All (λ n. dot n v ≡ zero_ℚ) normals) ls → AreComplement q normals ls
    complement_by_rank rank orthogonal = record { echelon = echelon; orthogonal = orthogonal; spans = combined_by_rank rank }

    -- ---- free normals are free without the places
    module _ (free : HasFree q normals) where
      rows_level : All (IsLevel ls) free.rows
      rows_level = all_of_members (IsLevel ls) free.rows (λ r c. all_of_members (λ d. dot r d ≡ zero_ℚ) ls
          (λ d k. member_of (λ r. dot r d ≡ zero_ℚ) free.rows r
          (free.within d (all_of_members (λ n. dot n d ≡ zero_ℚ) normals (λ n m. member_of (λ d. dot n d ≡ zero_ℚ) ls d (member_of (IsLevel ls) normals n level m) k))) c))

      -- a combination of the rows
      module _ (ms : List ℚ) (none : (z : List ℚ) → dot ms (values (map (without bs) free.rows) z) ≡ zero_ℚ) where
        sum : List ℚ
        sum = combination q ms free.rows

        sum_wide : length sum ≡ q
        unfolding sum
        sum_wide = length-combination q ms free.rows free.wide

        sum_level : IsLevel ls sum
        unfolding sum
        sum_level = all_of_members (λ d. dot sum d ≡ zero_ℚ) ls
            (λ d k. dot-combination_left q ms free.rows d
            ∙ values_across free.rows ms d (all_of_members (λ r. dot r d ≡ zero_ℚ) free.rows (λ r c. member_of (λ d. dot r d ≡ zero_ℚ) ls d (member_of (IsLevel ls) free.rows r rows_level c) k)))

        zeros_level : IsLevel ls (zeros q)
        zeros_level = all_of_members (λ d. dot (zeros q) d ≡ zero_ℚ) ls (λ d k. dot_comm (zeros q) d ∙ dot-zeros d q)

        short_sum : without bs sum ≡ combination (open_count bs) ms (map (without bs) free.rows)
        unfolding sum
        short_sum = ap (λ n. without bs (combination n ms free.rows)) (sym (long q ls form))
            ∙ without-combination bs ms free.rows (subst (λ (n : ℕ). AreWide n free.rows) (sym (long q ls form)) free.wide)

        short_zeros : without bs (zeros q) ≡ zeros (open_count bs)
        short_zeros = ap (λ n. without bs (zeros n)) (sym (long q ls form)) ∙ without-zeros bs

        short_none : without bs sum ≡ without bs (zeros q)
        short_none = same_wide (open_count bs) (without bs sum) (without bs (zeros q)) (erased_wide q ls form sum sum_wide) (erased_wide q ls form (zeros q) (length-zeros q))
            (λ z. dot_comm z (without bs sum) ∙ ap (λ v. dot v z) short_sum ∙ dot-combination_left (open_count bs) ms (map (without bs) free.rows) z ∙ none z
            ∙ sym (ap (dot z) short_zeros ∙ dot-zeros z (open_count bs)))

        sum_none : (r : List ℚ) → dot ms (values free.rows r) ≡ zero_ℚ
        unfolding sum
        sum_none r = sym (dot-combination_left q ms free.rows r)
            ∙ ap (λ v. dot v r) (same_level q ls form sum (zeros q) sum_wide (length-zeros q) sum_level zeros_level short_none) ∙ dot_comm (zeros q) r ∙ dot-zeros r q

      pub free_without : HasFree (open_count (marks q ls)) (map (without (marks q ls)) normals)
      free_without = record {
        rows = map (without bs) free.rows;
        are_free = record { free = λ ms one_each none. free.are_free.free ms (one_each ∙ length-map free.rows (without bs)) (sum_none ms none) };
        wide = record {
          wide = All-map (HasWidth (open_count bs)) (without bs) free.rows
              (all_of_members (λ r. length (without bs r) ≡ open_count bs) free.rows (λ r c. erased_wide q ls form r (member_of (HasWidth q) free.rows r free.wide.wide c)));
        };
        many = length-map free.rows (without bs) ∙ free.many ∙ sym (length-map normals (without bs));
        within = λ z h.
            let P : List ℚ → Type 0 = λ n. dot n (with_zeros bs z) ≡ zero_ℚ in
            let across : All P normals = all_of_members P normals
            (λ n c. sym (dot-without bs n z) ∙ member_of (λ n. dot (without bs n) z ≡ zero_ℚ) normals n (all_from_map (λ v. dot v z ≡ zero_ℚ) (without bs) normals h) c) in
            All-map (λ r. dot r z ≡ zero_ℚ) (without bs) free.rows (all_of_members (λ r. dot (without bs r) z ≡ zero_ℚ) free.rows
            (λ r c. dot-without bs r z ∙ member_of P free.rows r (free.within (with_zeros bs z) across) c));
      }

      pub full_rank_without : length normals + length ls ≡ q → HasFullRank (open_count (marks q ls)) (map (without (marks q ls)) normals)
      full_rank_without many = has_free-rank (open_count bs) (map (without bs) normals)
          (length-map normals (without bs) ∙ (let o = open_places q ls echelon in omega (arith, many, o))) free_without

-- ---- a complement
-- without the places of its vectors the normals have full rank
pub rank_of_complement : (q : ℕ) (normals vs : List (List ℚ)) → AreComplement q normals vs →
    HasFullRank (open_count (marks q vs)) (map (without (marks q vs)) normals)
rank_of_complement q normals vs h z wide flat =
    let bs : List Bool = marks q vs in
    let form : IsEchelon q vs = echelon_of q vs h.echelon in
    let full : List ℚ = with_zeros bs z in
    let full_wide : length full ≡ q = filled_wide q vs form z wide in
    let across : All (λ n. dot n full ≡ zero_ℚ) normals = all_of_members (λ n. dot n full ≡ zero_ℚ) normals
    (λ n c. sym (dot-without bs n z) ∙ member_of (λ n. dot (without bs n) z ≡ zero_ℚ) normals n (all_from_map (λ v. dot v z ≡ zero_ℚ) (without bs) normals flat) c) in
    let none : full ≡ zeros q = flat_is_zero q vs full form (h.spans full full_wide across) (flat_of vs full (filled_reduced q vs form z)) in
    sym (without-with bs z) ∙ ap (without bs) (none ∙ ap zeros (sym (long q vs form))) ∙ without-zeros bs

-- so there are no fewer normals than places beside those
pub many_together : (q : ℕ) (normals vs : List (List ℚ)) → AreComplement q normals vs → length normals + length vs < q → ⊥
many_together q normals vs h few =
    let bs : List Bool = marks q vs in
    let o : open_count bs + length vs ≡ q = open_places q vs h.echelon in
    let w = null_vector (open_count bs) (map (without bs) normals) (omega (arith, few, o, length-map normals (without bs))) in
    w.1.other (rank_of_complement q normals vs h w.0 w.1.wide w.1.tight)
