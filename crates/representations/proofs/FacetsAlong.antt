-- The named inequalities of a solved set generate each valid one and cut out the set: by those of the
-- set without the entries at the places of its lines, since valid inequalities are level along them.
use Rattle.std.proofs.Common.{◌≡◌, ℕ, suc, List, [], ◌∷◌, map, length, Contains, refl, sym, ap, ap₂, ◌∙◌, subst}
use Rattle.std.proofs.lemmas.List.{length-map}
use Rattle.std.proofs.lemmas.List.Elements.{All-cons, All-map}
use Rattle.exact_field.specs.Rational.{ℚ, one_ℚ, ◌+ℚ◌, ◌*ℚ◌, neg_ℚ, ◌≤ℚ◌}
use Rattle.exact_field.specs.Vector.{dot}
use Rattle.polyhedra.specs.Vectors.{AreWide, zeros, values, combination}
use Rattle.polyhedra.specs.Cone.{IsGenerated}
use Rattle.polyhedra.specs.Inequality.{Inequality}
use Rattle.polyhedra.specs.Hull.{IsValid, IsValidAt}
use Rattle.polyhedra.specs.Exactness.{homogenised, level, row_of, rows_of, IsNamed}
use Rattle.polyhedra.proofs.Linear.{dot_comm, dot-combination, length-zeros, length-combination}
use Rattle.polyhedra.proofs.Lists.{HasWidth}
use Rattle.polyhedra.proofs.Members.{all_of_members, member_of}
use Rattle.polyhedra.proofs.Generated.{generated_value}
use Rattle.polyhedra.proofs.Homogenised.{IsHomogenised, unhomogenised, length-homogenised, level_value, row_value}
use Rattle.lineality.specs.Lines.{reduction}
use Rattle.lineality.specs.Without.{marks, open_count, without, with_zeros}
use Rattle.lineality.specs.Exactness.{IsSolvedAlong}
use Rattle.lineality.proofs.Echelon.{IsEchelon, echelon_of}
use Rattle.lineality.proofs.Masks.{dot-without, inequality_without}
use Rattle.lineality.proofs.Reduction.{entries_at, length-reduction, reduction_flat, parted, along_in}
use Rattle.lineality.proofs.Erased.{IsErased, erased_wide, kept, solved_erased}
use Rattle.lineality.proofs.Level.{IsLevel, level_product}
use Rattle.lineality.proofs.ExactAlong.{level_of}
use Rattle.representations.specs.Facets.{MeetsAll, FacetsGenerate, FacetsCutOut}
use Rattle.representations.proofs.Facets as erased
use Rattle.representations.proofs.Places.{same_by_wide}

module _ (n : ℕ) (Set Directions : List ℚ → Type 0) (c : List ℚ) (lines : List (List ℚ)) (cuts : List Inequality) (gens points directions : List (List ℚ))
    (named : List Inequality) (s : IsSolvedAlong n Set Directions c lines cuts gens points directions named) where
  abbrev form : IsEchelon n lines
  form = echelon_of n lines s.enclosed.along.echelon

  abbrev W : List ℚ → List ℚ
  W = without (marks n lines)

  abbrev m : ℕ
  m = open_count (marks n lines)

  abbrev cut' : Inequality → Inequality
  cut' = inequality_without (marks n lines)

  abbrev Set' : List ℚ → Type 0
  Set' = IsErased n lines form Set

  abbrev Directions' : List ℚ → Type 0
  Directions' = IsErased n lines form Directions

  abbrev short : List ℚ → List ℚ
  short v = W (reduction n lines v)

  pub named_valid : (f : Inequality) → Contains named f → IsValidAt n Set c f
  named_valid f k = member_of (IsValidAt n Set c) cuts f s.cuts_valid (member_of (IsNamed n cuts gens) named f s.names k).cut

  named_level : (f : Inequality) → Contains named f → IsLevel lines f.normal
  named_level f k = level_of n Set Directions c lines cuts gens points directions named s f (named_valid f k).valid

  short_wide : (v : List ℚ) → length v ≡ n → length (short v) ≡ m
  short_wide v w = erased_wide n lines form (reduction n lines v) (length-reduction n lines v form.wide w)

  -- the value of a level row
  row_same : (e : Inequality) (v : List ℚ) (t : ℚ) → length e.normal ≡ n → IsLevel lines e.normal → length v ≡ n →
      dot (row_of (cut' e)) (homogenised (short v) t) ≡ dot (row_of e) (homogenised v t)
  row_same e v t w flat l = row_value (cut' e) (short v) t (erased_wide n lines form e.normal w ∙ sym (short_wide v l))
      ∙ ap (λ x. x +ℚ neg_ℚ e.bound *ℚ t) (level_product n lines form e.normal v flat l)
      ∙ sym (row_value e v t (w ∙ sym l))

  rows_same : (v : List ℚ) (t : ℚ) → length v ≡ n →
      values (rows_of m (map cut' named)) (homogenised (short v) t) ≡ values (rows_of n named) (homogenised v t)
  rows_same v t l = ap₂ (λ x xs. x ∷ xs) (level_value m (short v) t (short_wide v l) ∙ sym (level_value n v t l)) (go named (λ f k. k))
    where
      go : (fs : List Inequality) → ((f : Inequality) → Contains fs f → Contains named f) →
          values (map row_of (map cut' fs)) (homogenised (short v) t) ≡ values (map row_of fs) (homogenised v t)
      go [] h = refl
      go (f ∷ fs) h =
          let k : Contains named f = h f (Rattle.polyhedra.proofs.Lists.Contains-here f fs f refl) in
          ap₂ (λ x xs. x ∷ xs) (row_same f v t (named_valid f k).wide (named_level f k) l)
          (go fs (λ g j. h g (Rattle.polyhedra.proofs.Lists.Contains-there f fs g j)))

  rows_wide : AreWide (suc n) (rows_of n named)
  rows_wide = record {
    wide = All-cons (HasWidth (suc n)) (level n) (map row_of named) (length-homogenised n (zeros n) one_ℚ (length-zeros n))
        (All-map (HasWidth (suc n)) row_of named (all_of_members (λ f. length (row_of f) ≡ suc n) named
        (λ f k. length-homogenised n f.normal (neg_ℚ f.bound) (named_valid f k).wide)));
  }

  -- ---- valid inequalities
  module _ (e : Inequality) (v : IsValid n Set e) where
    valid' : IsValid m Set' (cut' e)
    valid' = record {
      wide = erased_wide n lines form e.normal v.wide;
      holds = λ z k. subst (λ (x : ℚ). e.bound ≤ℚ x) (sym (dot-without (marks n lines) e.normal z)) (v.holds (with_zeros (marks n lines) z) k.member);
    }

    generated' : IsGenerated (suc m) (rows_of m (map cut' named)) (row_of (cut' e))
    generated' = erased.valid_generated m Set' Directions' (short c) (map cut' cuts) (map W gens) (map W points) (map W directions) (map cut' named)
        (solved_erased n Set Directions c lines cuts gens points directions named s) (cut' e) valid'

    pub valid_generated : IsGenerated (suc n) (rows_of n named) (row_of e)
    valid_generated = record {
      multipliers = generated'.multipliers;
      one_each = generated'.one_each ∙ ap suc (length-map (map cut' named) row_of ∙ length-map named cut' ∙ sym (length-map named row_of));
      at_least_zero = generated'.at_least_zero;
      combined = same_by_wide (suc n) (row_of e) (combination (suc n) generated'.multipliers (rows_of n named)) (length-homogenised n e.normal (neg_ℚ e.bound) v.wide)
          (length-combination (suc n) generated'.multipliers (rows_of n named) rows_wide)
          (λ r w. at r (unhomogenised n r w));
    }
      where
        at : (r : List ℚ) → IsHomogenised n r → dot r (row_of e) ≡ dot r (combination (suc n) generated'.multipliers (rows_of n named))
        at r u =
            let r' : List ℚ = homogenised (short u.front) u.last in
            ap (λ x. dot x (row_of e)) u.same ∙ dot_comm (homogenised u.front u.last) (row_of e)
            ∙ sym (row_same e u.front u.last v.wide (level_of n Set Directions c lines cuts gens points directions named s e v) u.wide)
            ∙ dot_comm (row_of (cut' e)) r' ∙ generated_value (suc m) (rows_of m (map cut' named)) (row_of (cut' e)) generated' r'
            ∙ ap (dot generated'.multipliers) (rows_same u.front u.last u.wide ∙ ap (values (rows_of n named)) (sym u.same))
            ∙ sym (dot-combination (suc n) r generated'.multipliers (rows_of n named))

  -- ---- a vector that meets the named inequalities
  pub in_meets : (y : List ℚ) → Set y → MeetsAll named y
  in_meets y h = all_of_members (λ e. e.bound ≤ℚ dot e.normal y) named (λ f k. (named_valid f k).holds y h)

  meets_short : (y : List ℚ) → length y ≡ n → MeetsAll named y → MeetsAll (map cut' named) (short y)
  meets_short y w h = All-map (λ e. e.bound ≤ℚ dot e.normal (short y)) cut' named (all_of_members (λ f. f.bound ≤ℚ dot (W f.normal) (short y)) named
      (λ f k. subst (λ (x : ℚ). f.bound ≤ℚ x) (sym (level_product n lines form f.normal y (named_level f k) w)) (member_of (λ e. e.bound ≤ℚ dot e.normal y) named f h k)))

  pub meets_in : (y : List ℚ) → length y ≡ n → MeetsAll named y → Set y
  meets_in y w h =
      let z : List ℚ = reduction n lines y in
      let z_in : Set' (short y) = erased.meets_in m Set' Directions' (short c) (map cut' cuts) (map W gens) (map W points) (map W directions) (map cut' named)
      (solved_erased n Set Directions c lines cuts gens points directions named s) (short y) (short_wide y w) (meets_short y w h) in
      subst Set (sym (parted n lines y form.wide w))
      (s.convex.recedes z (combination n (entries_at lines y) lines)
      (subst Set (kept n lines form z (length-reduction n lines y form.wide w) (reduction_flat n lines y form)) z_in.member)
      (along_in n Set Directions lines s.convex s.along (entries_at lines y)))

pub facets_generate : (Set Directions : List ℚ → Type 0) → FacetsGenerate Set Directions
facets_generate Set Directions n c lines cuts gens points directions named s e v = valid_generated n Set Directions c lines cuts gens points directions named s e v

pub facets_cut_out : (Set Directions : List ℚ → Type 0) → FacetsCutOut Set Directions
facets_cut_out Set Directions n c lines cuts gens points directions named s y width =
    (in_meets n Set Directions c lines cuts gens points directions named s y, meets_in n Set Directions c lines cuts gens points directions named s y width)
