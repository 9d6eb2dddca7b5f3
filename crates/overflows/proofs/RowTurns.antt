-- A turn of the dual engine: where the image of a choice or a ray lies below what a generator says,
-- its exchange row is new, so fewer are left.
use Rattle.std.proofs.Common.{◌≡◌, List, [], ◌∷◌, ◌++◌, length, take, All, sym, ap, ◌∙◌, subst, arith, ◌<◌, ◌≤◌, ◌-◌, true, false, ◌⊎◌, inl, inr}
use Rattle.std.proofs.Math.ListN.{length-append, length-map}
use Rattle.std.proofs.Math.Seq.{take-append_seam}
use Rattle.exact_field.specs.Rational.{ℚ, zero_ℚ, one_ℚ, ◌-ℚ◌, ◌≤ℚ◌, ◌<ℚ◌}
use Rattle.exact_field.specs.Vector.{dot}
use Rattle.exact_field.proofs.Inequalities.{le_from_difference}
use Rattle.polyhedra.proofs.Order.{le_or_lt, not_lt_of_le}
use Rattle.vlp_problem.specs.declared.problem.Problem.{Problem}
use Rattle.vlp_problem.specs.Sides.{numbers_from}
use Rattle.vlp_problem.proofs.Numbers.{length-numbers}
use Rattle.upper_image.specs.UpperImage.{objective, objectives}
use Rattle.lp_form.specs.Programs.{weight_system, choice_of}
use Rattle.overflows.specs.Base.{AreMultipliersOff, AreFirstMultipliersOff, image_of, weight_of}
use Rattle.overflows.specs.Turns.{said_exchange, IsRowTurn, RowTurnsEnd}
use Rattle.overflows.proofs.Exchanges.{rows_left, choice_falls, ray_falls}
use Rattle.overflows.proofs.ExchangeValues.{exchange_value}
use Rattle.lp_form.proofs.Systems.{weight_ok}

below_zero : (a b : ℚ) → a <ℚ b → a -ℚ b <ℚ zero_ℚ
below_zero a b h = go (le_or_lt zero_ℚ (a -ℚ b))
  where
    go : (zero_ℚ ≤ℚ (a -ℚ b)) ⊎ ((a -ℚ b) <ℚ zero_ℚ) → a -ℚ b <ℚ zero_ℚ
    go (inl up) = absurd (not_lt_of_le b a (le_from_difference b a up) h)
    go (inr low) = low

module _ (file : Problem) (c front : List ℚ) (gamma : ℚ) (y : List ℚ) (rows : List (List ℚ)) (some : 1 ≤ file.objs) (c_long : length c ≡ file.objs)
    (front_long : length front ≡ file.objs - 1) (holds : All (λ a. zero_ℚ ≤ℚ dot a (front ++ gamma ∷ one_ℚ ∷ [])) rows) where
  abbrev g : List ℚ
  g = front ++ gamma ∷ one_ℚ ∷ []

  abbrev w : List ℚ
  w = weight_of c g

  w_long : length w ≡ file.objs
  w_long =
      ap (λ v. length (v ++ (one_ℚ -ℚ dot (take (length c - 1) c) v) ∷ [])) (ap (λ n. take n g) (omega (arith, c_long, front_long)) ∙ take-append_seam front (gamma ∷ one_ℚ ∷ []))
      ∙ omega (arith, length-append front ((one_ℚ -ℚ dot (take (length c - 1) c) front) ∷ []), front_long)

  image_long : (x : List ℚ) → length (image_of file x) ≡ length c
  image_long x = length-map (objectives file) (λ r. dot r x) ∙ length-map (numbers_from 1 file.objs) (objective file) ∙ length-numbers 1 file.objs ∙ sym c_long

  pub choice_turn : AreMultipliersOff (weight_system file w) y → dot w (image_of file (choice_of file y)) <ℚ gamma →
      rows_left file c (rows ++ said_exchange file c y true ∷ []) < rows_left file c rows
  choice_turn h below =
      let x : List ℚ = image_of file (choice_of file y) in
      choice_falls file c w y rows g (weight_ok file w w_long) w_long holds h
      (subst (λ (q : ℚ). q <ℚ zero_ℚ)
      (sym (exchange_value c x front gamma true (omega (arith, c_long)) (image_long (choice_of file y)) (omega (arith, c_long, front_long))))
      (below_zero (dot w x) gamma below))

  pub ray_turn : AreFirstMultipliersOff (weight_system file w) y → dot w (image_of file (choice_of file y)) <ℚ zero_ℚ →
      rows_left file c (rows ++ said_exchange file c y false ∷ []) < rows_left file c rows
  ray_turn h below =
      let x : List ℚ = image_of file (choice_of file y) in
      ray_falls file c w y rows g (weight_ok file w w_long) w_long holds h
      (subst (λ (q : ℚ). q <ℚ zero_ℚ)
      (sym (exchange_value c x front gamma false (omega (arith, c_long)) (image_long (choice_of file y)) (omega (arith, c_long, front_long))))
      (below_zero (dot w x) zero_ℚ below))

pub row_turns_end : RowTurnsEnd
row_turns_end file c = (rows_left file c, λ rows row h. falls rows row h h.read)
  where
    falls : (rows : List (List ℚ)) (row : List ℚ) (h : IsRowTurn file c rows row) →
        (AreMultipliersOff (weight_system file (weight_of c (h.front ++ h.gamma ∷ one_ℚ ∷ []))) h.y
        × (dot (weight_of c (h.front ++ h.gamma ∷ one_ℚ ∷ [])) (image_of file (choice_of file h.y)) <ℚ h.gamma) × (row ≡ said_exchange file c h.y true))
        ⊎ (AreFirstMultipliersOff (weight_system file (weight_of c (h.front ++ h.gamma ∷ one_ℚ ∷ []))) h.y
        × (dot (weight_of c (h.front ++ h.gamma ∷ one_ℚ ∷ [])) (image_of file (choice_of file h.y)) <ℚ zero_ℚ) × (row ≡ said_exchange file c h.y false)) →
        rows_left file c (rows ++ row ∷ []) < rows_left file c rows
    falls rows row h (inl r) = subst (λ (x : List ℚ). rows_left file c (rows ++ x ∷ []) < rows_left file c rows) (sym r.2)
        (choice_turn file c h.front h.gamma h.y rows file.some_objective h.c_wide h.front_wide h.holds r.0 r.1)
    falls rows row h (inr r) = subst (λ (x : List ℚ). rows_left file c (rows ++ x ∷ []) < rows_left file c rows) (sym r.2)
        (ray_turn file c h.front h.gamma h.y rows file.some_objective h.c_wide h.front_wide h.holds r.0 r.1)
