-- Corners of vectors without the entries at the places of lines are corners of vectors with zeros there.
use Rattle.std.proofs.Common.{◌≡◌, ℕ, ◌+◌, ◌<◌, List, [], map, length, All, sym, ap, ap₂, ◌∙◌, subst, arith, Bool, slice_index_or}
use Rattle.std.proofs.lemmas.List.{length-map, get_or-map}
use Rattle.std.proofs.lemmas.List.Elements.{All-map, All-weaker}
use Rattle.std.proofs.lemmas.Simd.{map-map}
use Rattle.exact_field.specs.Rational.{ℚ, zero_ℚ, ◌<ℚ◌}
use Rattle.exact_field.specs.Vector.{dot}
use Rattle.polyhedra.specs.Exactness.{IsCornerOf}
use Rattle.polyhedra.specs.Inequality.{Inequality}
use Rattle.polyhedra.proofs.Lists.{HasWidth, all_from_map}
use Rattle.lineality.specs.Lines.{AreEchelon, IsReduced}
use Rattle.lineality.specs.Steps.{IsCornerAlong}
use Rattle.lineality.specs.Without.{marks, open_count, without, with_zeros}
use Rattle.lineality.proofs.Echelon.{IsEchelon, echelon_of}
use Rattle.lineality.proofs.Erased.{filled_reduced, filled_wide}
use Rattle.lineality.proofs.Masks.{dot-without, inequality_without}
use Rattle.lineality.proofs.OpenPlaces.{open_places}

no_cut : Inequality
no_cut = record { normal = []; bound = zero_ℚ }

module _ (n : ℕ) (lines : List (List ℚ)) (echelon : AreEchelon n lines) (cuts : List Inequality) (wide : All (λ e. length e.normal ≡ n) cuts)
    (point : List ℚ) (directions : List (List ℚ))
    (h : IsCornerOf (open_count (marks n lines)) (map (inequality_without (marks n lines)) cuts) point directions) where
  abbrev bs : List Bool
  bs = marks n lines

  abbrev m : ℕ
  m = open_count (marks n lines)

  abbrev form : IsEchelon n lines
  form = echelon_of n lines echelon

  many : length cuts ≡ m
  many = sym (length-map cuts (inequality_without bs)) ∙ h.cuts_many

  normal_at : (i : ℕ) → i < length cuts →
      slice_index_or (map (λ (e : Inequality). e.normal) (map (inequality_without bs) cuts)) i [] ≡ without bs (slice_index_or cuts i no_cut).normal
  normal_at i l =
      ap (λ (vs : List (List ℚ)). slice_index_or vs i []) (map-map (λ (e : Inequality). e.normal) (inequality_without bs) cuts)
      ∙ get_or-map (λ (e : Inequality). without bs e.normal) cuts i no_cut [] l

  -- the products are the same
  value : (i j : ℕ) → i < length cuts → j < length cuts →
      dot (slice_index_or (map (λ (e : Inequality). e.normal) cuts) i []) (slice_index_or (map (with_zeros bs) directions) j [])
      ≡ dot (slice_index_or (map (λ (e : Inequality). e.normal) (map (inequality_without bs) cuts)) i []) (slice_index_or directions j [])
  value i j l k =
      let within : j < length directions = let a = h.directions_many in let b = many in omega (arith, a, b, k) in
      ap₂ dot (get_or-map (λ (e : Inequality). e.normal) cuts i no_cut [] l) (get_or-map (with_zeros bs) directions j [] [] within)
      ∙ sym (dot-without bs (slice_index_or cuts i no_cut).normal (slice_index_or directions j []))
      ∙ ap (λ (v : List ℚ). dot v (slice_index_or directions j [])) (sym (normal_at i l))

  pub lifted : IsCornerAlong n lines cuts (with_zeros bs point) (map (with_zeros bs) directions)
  lifted = record {
    normals_wide = wide;
    point_wide = filled_wide n lines form point h.point_wide;
    directions_wide = record {
      wide = All-map (HasWidth n) (with_zeros bs) directions
          (All-weaker (HasWidth m) (λ z. HasWidth n (with_zeros bs z)) (λ z w. filled_wide n lines form z w) directions h.directions_wide.wide);
    };
    cuts_many = ap (λ (k : ℕ). k + length lines) many ∙ open_places n lines echelon;
    directions_many = length-map directions (with_zeros bs) ∙ h.directions_many ∙ sym many;
    point_reduced = filled_reduced n lines form point;
    directions_reduced = All-map (IsReduced lines) (with_zeros bs) directions (λ i d l. filled_reduced n lines form (slice_index_or directions i d));
    tight = All-weaker (λ (e : Inequality). dot (without bs e.normal) point ≡ e.bound) (λ (e : Inequality). dot e.normal (with_zeros bs point) ≡ e.bound)
        (λ e t. sym (dot-without bs e.normal point) ∙ t) cuts (all_from_map (λ (e : Inequality). dot e.normal point ≡ e.bound) (inequality_without bs) cuts h.tight);
    grows = λ i l. let a = many in subst (λ x. zero_ℚ <ℚ x) (sym (value i i l l)) (h.grows i (omega (arith, a, l)));
    stays = λ i j l k other. let a = many in value i j l k ∙ h.stays i j (omega (arith, a, l)) (omega (arith, a, k)) other;
  }
