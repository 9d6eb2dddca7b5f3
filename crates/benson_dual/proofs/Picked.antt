-- Facets as they are picked.
use Rattle.std.proofs.Common.{◌≡◌, ℕ, ◌<◌, List, [], ◌∷◌, ◌++◌, map, length, All, sym, ◌∙◌, subst, arith, append_assoc}
use Rattle.std.specs.List.Sorted.{IsPermutation}
use Rattle.std.proofs.lemmas.List.{length-append, length-map, map-append}
use Rattle.std.proofs.lemmas.List.Elements.{All-map, All-nil, All-push}
use Rattle.std.proofs.lemmas.List.Sorted.{IsPermutation-append_left, IsPermutation-middle, IsPermutation-push_more, IsPermutation-refl, IsPermutation-sym}
use Rattle.exact_field.specs.Rational.{ℚ, zero_ℚ}
use Rattle.exact_field.specs.Vector.{dot}
use Rattle.polyhedra.proofs.Lists.{HasWidth, all_front}
use Rattle.polyhedra.proofs.Members.{all_of_members, member_of}
use Rattle.lp_form.specs.declared.shown.Cut.{Cut}
use Rattle.outer_approx.specs.Cuts.{IsCutFor}
use Rattle.outer_approx.specs.Task.{Task}
use Rattle.recession.specs.Further.{IsOffAcross, normals_of}
use Rattle.benson_dual.specs.Picking.{ArePicked, EachOffAcross, IsWithin}
use Rattle.benson_dual.proofs.Counted.{off_more, off_none}

module _ {F : Type 0} (value : F → ℚ) where
  pub normals-more : (cuts : List (Cut F)) (cut : Cut F) → normals_of value (cuts ++ cut ∷ []) ≡ normals_of value cuts ++ map value cut.w ∷ []
  normals-more cuts cut = map-append (λ (k : Cut F). map value k.w) cuts (cut ∷ [])

  -- ---- as they are picked
  pub picked_none : (q most : ℕ) → ArePicked value q most [] [] []
  picked_none q most = record {
    same = IsPermutation-refl [];
    free = off_none q;
    few = omega arith;
    within = λ l. All-nil (λ (cut : Cut F). IsWithin q [] (map value cut.w));
  }

  module _ (q most : ℕ) (seen first others : List (Cut F)) (cut : Cut F) (h : ArePicked value q most seen first others) where
    -- one of the first
    pub picked_first : length first < most → IsOffAcross q (normals_of value first) (map value cut.w) →
        ArePicked value q most (seen ++ cut ∷ []) (first ++ cut ∷ []) others
    picked_first fewer off = record {
      same = IsPermutation-push_more seen (first ++ others) ((first ++ cut ∷ []) ++ others) cut h.same
          (subst (IsPermutation (cut ∷ (first ++ others))) (sym (append_assoc first (cut ∷ []) others))
          (IsPermutation-sym (first ++ cut ∷ others) (cut ∷ (first ++ others)) (IsPermutation-middle first cut others)));
      free = subst (EachOffAcross q) (sym (normals-more first cut)) (off_more q (normals_of value first) (map value cut.w) h.free off);
      few = let l = length-append first (cut ∷ []) in omega (arith, fewer, l);
      within = λ l. all_of_members (λ (k : Cut F). IsWithin q (normals_of value (first ++ cut ∷ [])) (map value k.w)) others
          (λ k c y wide across. member_of (λ (k : Cut F). IsWithin q (normals_of value first) (map value k.w)) others k (h.within fewer) c y wide
          (all_front (λ v. dot v y ≡ zero_ℚ) (normals_of value first) (map value cut.w ∷ [])
          (subst (All (λ v. dot v y ≡ zero_ℚ)) (normals-more first cut) across)));
    }

    -- one of the others
    pub picked_other : (length first < most → IsWithin q (normals_of value first) (map value cut.w)) →
        ArePicked value q most (seen ++ cut ∷ []) first (others ++ cut ∷ [])
    picked_other within = record {
      same = subst (IsPermutation (seen ++ cut ∷ [])) (append_assoc first others (cut ∷ []))
          (IsPermutation-append_left (cut ∷ []) seen (first ++ others) h.same);
      free = h.free;
      few = h.few;
      within = λ l. All-push (λ (k : Cut F). IsWithin q (normals_of value first) (map value k.w)) others cut (h.within l) (within l);
    }

  pub normals_wide : (task : Task) (cuts : List (Cut F)) → All (IsCutFor value task) cuts → All (HasWidth task.file.objs) (normals_of value cuts)
  normals_wide task cuts h = All-map (HasWidth task.file.objs) (λ (k : Cut F). map value k.w) cuts
      (all_of_members (λ (k : Cut F). length (map value k.w) ≡ task.file.objs) cuts
      (λ k c. length-map k.w value ∙ (member_of (IsCutFor value task) cuts k h c).wide))
