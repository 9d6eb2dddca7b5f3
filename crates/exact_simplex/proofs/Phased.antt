-- A phase in a tableau of a system.
use Rattle.std.proofs.Common.{◌≡◌, ◌≢◌, ℕ, zero, suc, List, [], ◌∷◌, length, take, sym, ap, ◌∙◌, subst, arith, ◌<◌, ◌≤◌, ◌+◌, ◌-◌, inl, inr, refl, Bool, false, true≢false, not, ◌&&◌, ◌||◌, slice_index_or, All}
use Rattle.std.proofs.lemmas.List.{get_or-take, length-take-le}
use Rattle.exact_field.specs.Rational.{ℚ, zero_ℚ, le_ℚ, ◌≤ℚ◌}
use Rattle.exact_field.specs.Vector.{entry}
use Rattle.polyhedra.specs.Vectors.{zeros}
use Rattle.polyhedra.proofs.Order.{le_or_lt}
use Rattle.polyhedra.proofs.Laws.{le_of_lt}
use Rattle.tableaux.specs.Table.{Table, System, IsSystem, row_of, at, equation_count, unknown_count, right_column}
use Rattle.tableaux.specs.Dictionary.{basic_column, IsDictionaryOf, IsBasisOf}
use Rattle.tableaux.specs.Lex.{lex_less, IsLexPositive, entries_at}
use Rattle.tableaux.proofs.Entries.{table-long, table-wide}
use Rattle.tableaux.proofs.Lexicographic.{not_le_of_lt}
use Rattle.tableaux.proofs.Definition.{same_default}
use Rattle.tableaux.proofs.Own.{own_dictionary}
use Rattle.lin_rows.specs.declared.fault.RowFault.{RowFault}
use Rattle.lin_rows.specs.declared.fault.RowFault.TheVariants.{Left, NoMemory}
use Rattle.lin_rows.specs.Tableau.{Dictionary}
use Rattle.exact_simplex.specs.Ends.{IsSystemFault}
use Rattle.exact_simplex.specs.Phase.{AreColumns, AreEntered, IsEquationBasis, IsMoved, IsPhaseFault, IsStart, IsTurn}
use Rattle.exact_simplex.specs.Program.{IsIdle, IsPrimal}
use Rattle.exact_simplex.proofs.Beginning.{AreCompared, start_positive}
use Rattle.exact_simplex.proofs.Pivots.{basis_many}

-- ---- lists
all_by_place : (n : ℕ) (xs : List ℕ) → ((i : ℕ) → i < length xs → slice_index_or xs i 0 ≤ n) → All (λ c. c ≤ n) xs
all_by_place n xs h = λ i e l. subst (λ (c : ℕ). c ≤ n) (same_default xs i 0 e l) (h i l)

are_columns : (n m : ℕ) (xs : List ℕ) → ((i : ℕ) → i < m → i < length xs → (1 ≤ slice_index_or xs i 0) × (slice_index_or xs i 0 ≤ n)) → AreColumns n (take m xs)
are_columns n zero xs h = tt
are_columns n (suc m) [] h = tt
are_columns n (suc m) (x ∷ xs) h = let first = h 0 (omega arith) (omega arith) in (first.0, first.1, are_columns n m xs (λ i l u. h (suc i) (omega arith) (omega arith)))

place : (b : List ℕ) (i : ℕ) → basic_column b (i + 1) ≡ slice_index_or b i 0
place b i = let same : i + 1 - 1 ≡ i = omega arith in ap (λ k. slice_index_or b k 0) same

-- ---- the first entry of a positive vector
first_nonnegative : (x : ℚ) (v : List ℚ) → IsLexPositive (x ∷ v) → zero_ℚ ≤ℚ x
first_nonnegative x v h =
    elim (le_or_lt zero_ℚ x) [
      | inl up ↦ up
      | inr down ↦ absurd (true≢false (sym h
          ∙ ap (λ a. not (le_ℚ x zero_ℚ) || (not (not a) && lex_less (zeros (length v)) v)) (not_le_of_lt x zero_ℚ down)
          ∙ ap (λ a. not a || (not (not false) && false)) (le_of_lt x zero_ℚ down) ∙ refl))
    ]

module _ {F : Type 0} (value : F → ℚ) (s : System) (ok : IsSystem s) (t : Dictionary) (h : IsPrimal s t) where
  abbrev n : ℕ
  n = right_column s

  abbrev m : ℕ
  m = equation_count s

  abbrev d : Table
  d = t.table

  abbrev basis : List ℕ
  basis = t.basis

  dictionary : IsDictionaryOf s basis d
  dictionary = h.held.dictionary

  many : length basis ≡ m + 2
  many = basis_many value s ok t h.held

  d_many : length d ≡ m + 2
  d_many = omega (arith, dictionary.dictionary.one_each, table-long s ok)

  abbrev columns : List ℕ
  columns = n ∷ take m basis

  w_is : t.width ≡ n
  w_is = h.held.width

  low_column : (i : ℕ) → slice_index_or basis i 0 < n
  low_column i = let next : 1 ≤ i + 1 = omega arith in subst (λ (c : ℕ). c < n) (place basis i) (dictionary.columns.within (i + 1) next)

  full_basis : IsEquationBasis n m basis
  full_basis = record {
    full = λ i l. h.full (i + 1) (omega arith) (omega arith);
    only = λ i l. dictionary.columns.equations_only i l;
    high = all_by_place n basis (λ i l. let low = low_column i in omega arith);
  }

  -- it as it stands, with the width that the system says
  abbrev here : Dictionary
  here = record { width = n; table = d; basis = basis }

  here_is : here ≡ t
  here_is = ap (λ w. record { width = w; table = d; basis = basis }) (sym w_is)

  phase_start : IsStart m columns here
  phase_start = record {
    own = own_dictionary n _ basis d dictionary.dictionary;
    inside = omega (arith, d_many);
    full = full_basis;
    placed = (
      omega arith,
      omega arith,
      are_columns n m basis (λ i l u. (let some : slice_index_or basis i 0 ≢ 0 = λ none. h.full (i + 1) (omega arith) (omega arith) (place basis i ∙ none) in omega arith, let low = low_column i in omega arith)),
    );
    compared = λ k l u.
        (suc (k - 1), omega (arith, length-take-le m basis (omega (arith, many))), get_or-take m basis (k - 1) 0 (omega arith));
  }

  phase_compared : AreCompared n m basis columns
  phase_compared zero l = inl refl
  phase_compared (suc j) l =
      let inside : j < m = omega (arith, l, length-take-le m basis (omega (arith, many))) in
      inr (j + 1, omega arith, omega arith, get_or-take m basis j 0 inside ∙ sym (place basis j))

  phase_turn : IsTurn m columns here here
  phase_turn = record {
    width = refl;
    one_each = h.held.one_each;
    dictionary = λ x w y. y;
    full = full_basis;
    positive = start_positive m n columns here phase_start phase_compared (λ i l. h.right (i + 1) (omega arith) (omega arith));
  }

  -- what run_phase asks
  pub start_at : (k : ℕ) (cs : List ℕ) → k ≡ m → cs ≡ t.width ∷ take k basis → IsStart k cs t
  start_at k cs e is =
      subst (λ (l : List ℕ). IsStart k l t) (sym is)
      (subst (λ (j : ℕ). IsStart j (t.width ∷ take j basis) t) (sym e)
      (subst (λ (x : Dictionary). IsStart m (x.width ∷ take m basis) x) here_is phase_start))

  pub turn_at : (k : ℕ) (cs : List ℕ) → k ≡ m → cs ≡ t.width ∷ take k basis → IsTurn k cs t t
  turn_at k cs e is =
      subst (λ (l : List ℕ). IsTurn k l t t) (sym is)
      (subst (λ (j : ℕ). IsTurn j (t.width ∷ take j basis) t t) (sym e)
      (subst (λ (x : Dictionary). IsTurn m (x.width ∷ take m basis) x x) here_is phase_turn))

  within_after : (b : List ℕ) → AreEntered (unknown_count s) basis b → (i : ℕ) → 1 ≤ i → basic_column b i < n
  within_after b entered i l = elim (entered i l) [ inl same ↦ subst (λ (c : ℕ). c < n) (sym same) (dictionary.columns.within i l) | inr unknown ↦ omega (arith, unknown) ]

  basis_after : (b : List ℕ) → AreEntered (unknown_count s) basis b → IsEquationBasis n m b → IsBasisOf s b
  basis_after b entered full = record { within = within_after b entered; equations_only = full.only }

  -- ---- what it gives
  module _ (t' : Dictionary) (turn : IsTurn m columns here t') (moved : IsMoved m (unknown_count s) here t') where
    abbrev e : Table
    e = t'.table

    right_after : (i : ℕ) → 1 ≤ i → i ≤ m → zero_ℚ ≤ℚ at e i n
    right_after i l u =
        let back : i - 1 + 1 ≡ i = omega arith in
        subst (λ (k : ℕ). zero_ℚ ≤ℚ at e k n) back
        (first_nonnegative (entry (row_of e (i - 1 + 1)) n) (entries_at (take m basis) (row_of e (i - 1 + 1))) (turn.positive (i - 1) (omega arith)))

    primal_after : IsPrimal s t'
    primal_after = record {
      held = record {
        width = turn.width;
        one_each = turn.one_each;
        dictionary = record {
          columns = basis_after t'.basis moved.entered turn.full;
          dictionary = turn.dictionary _ (table-wide s ok) dictionary.dictionary;
        };
      };
      full = λ i l u. let back : i - 1 + 1 ≡ i = omega arith in
          subst (λ (k : ℕ). basic_column t'.basis k ≢ 0) back (turn.full.full (i - 1) (omega arith));
      right = right_after;
    }

    idle_after : IsIdle s t → IsIdle s t'
    idle_after idle =
        let was : (i : ℕ) → 1 ≤ i → unknown_count s < basic_column t'.basis i → unknown_count s < basic_column basis i =
        λ i l over. elim (moved.entered i l) [ inl same ↦ subst (λ (c : ℕ). unknown_count s < c) same over | inr unknown ↦ absurd (omega (arith, over, unknown)) ] in
        let stays : (i : ℕ) → 1 ≤ i → i ≤ m → unknown_count s < basic_column t'.basis i → row_of e i ≡ row_of d i =
        λ i l u over.
        let back : i - 1 + 1 ≡ i = omega arith in
        let same : row_of e (i - 1 + 1) ≡ row_of d (i - 1 + 1) =
        moved.rows (i - 1) (omega arith) (λ j a b. ap (λ k. at d k j) back ∙ idle.unknown i j l u (was i l over) a b) in
        sym (ap (row_of e) back) ∙ same ∙ ap (row_of d) back in
        record {
          unknown = λ i j l u over a b. ap (λ r. entry r j) (stays i l u over) ∙ idle.unknown i j l u (was i l over) a b;
          right = λ i l u over. ap (λ r. entry r n) (stays i l u over) ∙ idle.right i l u (was i l over);
        }

  -- the same of what run_phase says
  module _ (t' : Dictionary) (k u : ℕ) (cs : List ℕ) (k_is : k ≡ m) (u_is : u ≡ unknown_count s) (is : cs ≡ t.width ∷ take k basis)
      (turn : IsTurn k cs t t') (moved : IsMoved k u t t') where
    turn_is : IsTurn m columns here t'
    turn_is =
        subst (λ (x : Dictionary). IsTurn m (x.width ∷ take m basis) x t') (sym here_is)
        (subst (λ (j : ℕ). IsTurn j (t.width ∷ take j basis) t t') k_is
        (subst (λ (l : List ℕ). IsTurn k l t t') is turn))

    moved_is : IsMoved m (unknown_count s) here t'
    moved_is =
        subst (λ (x : Dictionary). IsMoved m (unknown_count s) x t') (sym here_is)
        (subst (λ (j : ℕ). IsMoved m j t t') u_is
        (subst (λ (j : ℕ). IsMoved j u t t') k_is moved))

    pub phase_primal : IsPrimal s t'
    phase_primal = primal_after t' turn_is moved_is

    pub phase_idle : IsIdle s t → IsIdle s t'
    phase_idle = idle_after t' turn_is moved_is

  pub phase_fault : (holds : ℚ → Bool) (k u : ℕ) → k ≡ m → u ≡ unknown_count s → (fault : RowFault F) → IsPhaseFault value holds k u t fault → IsSystemFault value holds s fault
  phase_fault holds k u k_is u_is fault stuck =
      in_system fault
      (subst (λ (x : Dictionary). IsPhaseFault value holds m (unknown_count s) x fault) (sym here_is)
      (subst (λ (j : ℕ). IsPhaseFault value holds m j t fault) u_is
      (subst (λ (j : ℕ). IsPhaseFault value holds j u t fault) k_is stuck)))
    where
      in_system : (fault : RowFault F) → IsPhaseFault value holds m (unknown_count s) here fault → IsSystemFault value holds s fault
      in_system (Left b row col step left) h = (
        h.0,
        record { columns = basis_after b h.3 h.2; dictionary = h.1 _ (table-wide s ok) dictionary.dictionary },
        inl (h.4, h.5, h.6, (let high : col ≤ unknown_count s = h.7 in omega (arith, high)), h.8),
      )
      in_system NoMemory h = tt
