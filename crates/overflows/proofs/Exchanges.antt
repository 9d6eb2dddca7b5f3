-- The multipliers of the program of a weight depend on the signs of the weight alone, so the
-- exchange rows read off them are finitely many: the measure of the dual engine's turns.
use Rattle.std.proofs.Common.{◌≡◌, ℕ, zero, suc, List, [], ◌∷◌, ◌++◌, length, map, flat_map, All, Contains, Option, None, Some, refl, sym, ap, ◌∙◌, subst, ◌<◌, Bool, true, false}
use Rattle.std.specs.Prelude.{if◌then◌else◌}
use Rattle.exact_field.specs.Rational.{ℚ, zero_ℚ, one_ℚ, neg_ℚ, lt_ℚ, ◌≤ℚ◌, ◌<ℚ◌}
use Rattle.exact_field.specs.Vector.{dot}
use Rattle.polyhedra.specs.Vectors.{zeros}
use Rattle.polyhedra.proofs.Lists.{Contains-here, Contains-there}
use Rattle.polyhedra.proofs.Members.{Contains-map}
use Rattle.tableaux.specs.Table.{System, IsSystem, artificial_sign}
use Rattle.overflows.proofs.Candidates.{bases_of, columns_of, columns_full, columns_listed}
use Rattle.overflows.proofs.Multipliers.{multipliers_at, first_multipliers_at, multipliers_found, first_multipliers_found, signs_twice, right_ok, right_changes}
use Rattle.tableaux.proofs.Remaining.{contains_append_left, contains_append_right, contains_flat}
use Rattle.overflows.proofs.Uses.{unused, unused-falls}
use Rattle.vlp_problem.specs.declared.problem.Problem.{Problem}
use Rattle.lp_form.specs.Programs.{weight_system, weight_equations}
use Rattle.overflows.specs.Base.{AreMultipliersOff, AreFirstMultipliersOff}
use Rattle.overflows.specs.Turns.{said_exchange}

-- ---- signs
abbrev pub signs_of : List ℚ → List ℚ
signs_of w = map artificial_sign w

abbrev signed : List ℚ → List (List ℚ)
signed s = (one_ℚ ∷ s) ∷ ((neg_ℚ one_ℚ ∷ s) ∷ [])

-- all lists of n signs
abbrev pub all_signs : ℕ → List (List ℚ)
all_signs zero = [] ∷ []
all_signs (suc n) = flat_map signed (all_signs n)

pub signs_listed : (w : List ℚ) → Contains (all_signs (length w)) (signs_of w)
signs_listed [] = Contains-here [] [] [] refl
signs_listed (x ∷ w) =
    contains_flat signed (all_signs (length w)) (signs_of w) (signs_of (x ∷ w)) (signs_listed w) (here (lt_ℚ x zero_ℚ) (signs_of w))
  where
    here : (b : Bool) (s : List ℚ) → Contains (signed s) ((if b then neg_ℚ one_ℚ else one_ℚ) ∷ s)
    here true s = Contains-there (one_ℚ ∷ s) ((neg_ℚ one_ℚ ∷ s) ∷ []) (neg_ℚ one_ℚ ∷ s) (Contains-here (neg_ℚ one_ℚ ∷ s) [] (neg_ℚ one_ℚ ∷ s) refl)
    here false s = Contains-here (one_ℚ ∷ s) ((neg_ℚ one_ℚ ∷ s) ∷ []) (one_ℚ ∷ s) refl

signs_appended : (a b : List ℚ) → signs_of (a ++ b) ≡ signs_of a ++ signs_of b
signs_appended [] b = refl
signs_appended (x ∷ a) b = ap (λ s. artificial_sign x ∷ s) (signs_appended a b)

signs_within : (a w b : List ℚ) → signs_of (a ++ signs_of w ++ b) ≡ signs_of (a ++ w ++ b)
signs_within a w b =
    signs_appended (a ++ signs_of w) b ∙ ap (λ s. s ++ signs_of b) (signs_appended a (signs_of w) ∙ ap (λ s. signs_of a ++ s) (signs_twice w) ∙ sym (signs_appended a w))
    ∙ sym (signs_appended (a ++ w) b)

-- ---- the program with the signs of a weight in its place
module _ (file : Problem) (w : List ℚ) (ok : IsSystem (weight_system file w)) where
  abbrev right : List ℚ
  right = zeros file.cols ++ signs_of w ++ zeros (weight_equations file.objs file.cone)

  same_signs : signs_of right ≡ signs_of (zeros file.cols ++ w ++ zeros (weight_equations file.objs file.cone))
  same_signs = signs_within (zeros file.cols) w (zeros (weight_equations file.objs file.cone))

  pub signs_ok : IsSystem (weight_system file (signs_of w))
  signs_ok = right_ok (weight_system file w) right ok same_signs

  pub multipliers_move : (y : List ℚ) → AreMultipliersOff (weight_system file w) y → AreMultipliersOff (weight_system file (signs_of w)) y
  multipliers_move y h =
      let moved = right_changes (weight_system file w) right ok same_signs h.basis h.dictionary h.full in
      record { basis = h.basis; dictionary = moved.0; full = moved.1; reads = h.reads ∙ sym moved.2 }

  pub first_multipliers_move : (y : List ℚ) → AreFirstMultipliersOff (weight_system file w) y → AreFirstMultipliersOff (weight_system file (signs_of w)) y
  first_multipliers_move y h =
      let moved = right_changes (weight_system file w) right ok same_signs h.basis h.dictionary h.full in
      record { basis = h.basis; dictionary = moved.0; full = moved.1; reads = h.reads ∙ sym moved.3 }

-- ---- candidates: the row of a choice, or of a ray, at a list of columns and a list of signs
pub record Stand : Type 0 where
  pub of_choice : Bool
  pub signs : List ℚ
  pub basis : List ℕ

abbrev stands_at : Problem → Bool → List ℚ → List Stand
stands_at file of_choice signs = map (λ b. record { of_choice = of_choice; signs = signs; basis = b }) (bases_of (weight_system file signs))

abbrev stands_of : Problem → Bool → List Stand
stands_of file of_choice = flat_map (stands_at file of_choice) (all_signs file.objs)

abbrev pub stands : Problem → List Stand
stands file = flat_map (stands_of file) (true ∷ (false ∷ []))

abbrev row_if : (List ℚ → List ℚ) → Option (List ℚ) → Option (List ℚ)
row_if f None = None
row_if f (Some y) = Some (f y)

abbrev row_by : Problem → List ℚ → Bool → List ℚ → List ℕ → Option (List ℚ)
row_by file c true signs basis = row_if (λ z. said_exchange file c z true) (multipliers_at (weight_system file signs) basis)
row_by file c false signs basis = row_if (λ z. said_exchange file c z false) (first_multipliers_at (weight_system file signs) basis)

abbrev pub exchange_row_at : Problem → List ℚ → Stand → Option (List ℚ)
exchange_row_at file c x = row_by file c x.of_choice x.signs x.basis

-- how many candidate rows are not in use
abbrev pub rows_left : Problem → List ℚ → List (List ℚ) → ℕ
rows_left file c rows = unused (exchange_row_at file c) (stands file) rows

stand_listed : (file : Problem) (of_choice : Bool) (w : List ℚ) (b : List ℕ) → length w ≡ file.objs → Contains (bases_of (weight_system file (signs_of w))) b →
    Contains (stands file) (record { of_choice = of_choice; signs = signs_of w; basis = b })
stand_listed file of_choice w b long there =
    contains_flat (stands_of file) (true ∷ (false ∷ [])) of_choice x (either of_choice)
    (contains_flat (stands_at file of_choice) (all_signs file.objs) (signs_of w) x
    (subst (λ (n : ℕ). Contains (all_signs n) (signs_of w)) long (signs_listed w))
    (Contains-map (λ b. record { of_choice = of_choice; signs = signs_of w; basis = b }) (bases_of (weight_system file (signs_of w))) b there))
  where
    x : Stand
    x = record { of_choice = of_choice; signs = signs_of w; basis = b }

    either : (o : Bool) → Contains (true ∷ (false ∷ [])) o
    either true = Contains-here true (false ∷ []) true refl
    either false = Contains-there true (false ∷ []) false (Contains-here false [] false refl)

-- fewer are left after a row that is negative where no row in use is
module _ (file : Problem) (c w : List ℚ) (y : List ℚ) (rows : List (List ℚ)) (g : List ℚ) (ok : IsSystem (weight_system file w)) (long : length w ≡ file.objs)
    (holds : All (λ a. zero_ℚ ≤ℚ dot a g) rows) where
  falls : (x : Stand) (r : List ℚ) → Contains (stands file) x → exchange_row_at file c x ≡ Some r → dot r g <ℚ zero_ℚ →
      rows_left file c (rows ++ r ∷ []) < rows_left file c rows
  falls x r there found below =
      unused-falls (exchange_row_at file c) (stands file) rows (rows ++ r ∷ []) x r g there found (λ a h. contains_append_left rows (r ∷ []) a h)
      (contains_append_right rows (r ∷ []) r (Contains-here r [] r refl)) holds below

  pub choice_falls : AreMultipliersOff (weight_system file w) y → dot (said_exchange file c y true) g <ℚ zero_ℚ →
      rows_left file c (rows ++ said_exchange file c y true ∷ []) < rows_left file c rows
  choice_falls h below =
      let s : System = weight_system file (signs_of w) in
      let k = multipliers_move file w ok y h in
      let columns : List ℕ = columns_of s k.basis in
      falls (record { of_choice = true; signs = signs_of w; basis = columns }) (said_exchange file c y true)
      (stand_listed file true w columns long (columns_listed s k.basis k.dictionary (signs_ok file w ok) k.full))
      (ap (row_if (λ z. said_exchange file c z true)) (multipliers_found s columns k.dictionary (signs_ok file w ok) (columns_full s k.basis k.dictionary (signs_ok file w ok) k.full))
      ∙ ap (λ z. Some (said_exchange file c z true)) (sym k.reads))
      below

  pub ray_falls : AreFirstMultipliersOff (weight_system file w) y → dot (said_exchange file c y false) g <ℚ zero_ℚ →
      rows_left file c (rows ++ said_exchange file c y false ∷ []) < rows_left file c rows
  ray_falls h below =
      let s : System = weight_system file (signs_of w) in
      let k = first_multipliers_move file w ok y h in
      let columns : List ℕ = columns_of s k.basis in
      falls (record { of_choice = false; signs = signs_of w; basis = columns }) (said_exchange file c y false)
      (stand_listed file false w columns long (columns_listed s k.basis k.dictionary (signs_ok file w ok) k.full))
      (ap (row_if (λ z. said_exchange file c z false)) (first_multipliers_found s columns k.dictionary (signs_ok file w ok) (columns_full s k.basis k.dictionary (signs_ok file w ok) k.full))
      ∙ ap (λ z. Some (said_exchange file c z false)) (sym k.reads))
      below
