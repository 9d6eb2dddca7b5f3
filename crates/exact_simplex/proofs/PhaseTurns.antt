-- One turn of a phase, as the rows of its tableau are read.
use Rattle.std.proofs.Common.{◌≡◌, ◌≢◌, ℕ, List, [], length, refl, sym, ap, ◌∙◌, subst, arith, ◌<◌, ◌≤◌, ◌+◌, Bool, None, Some, slice_index_or}
use Rattle.std.specs.declared.alloc.Global.{Global}
use Rattle.std.specs.declared.vec.Vec.{Vec}
use Rattle.exact_field.specs.Rational.{ℚ, zero_ℚ, ◌≤ℚ◌, ◌<ℚ◌}
use Rattle.exact_field.specs.declared.op.Left.{Left}
use Rattle.tableaux.specs.Table.{Table, row_of, at}
use Rattle.tableaux.specs.Dictionary.{IsDictionary}
use Rattle.tableaux.specs.Lex.{entries_at}
use Rattle.tableaux.proofs.Eliminated.{exchanged}
use Rattle.tableaux.proofs.Remaining.{remaining, cost_at, all_lists}
use Rattle.lin_rows.specs.declared.spots.Spot.{Spot}
use Rattle.lin_rows.specs.declared.fault.RowFault.{RowFault}
use Rattle.lin_rows.specs.Lines.{AreLines, Rises, entries, lines}
use Rattle.lin_rows.specs.Pivot.{AreTableau, IsGivenUp, IsPivotFault, IsPivotStep, table_of}
use Rattle.lin_rows.specs.Tableau.{Dictionary, exchange}
use Rattle.lin_rows.proofs.ManyLines.{length-lines}
use Rattle.lin_rows.proofs.Views.{rows_count}
use Rattle.exact_simplex.specs.Phase.{IsMoved, IsPhaseEnd, IsPhaseFault, IsStart, IsTurn}
use Rattle.exact_simplex.specs.Ratios.{IsEntering, IsLeaving, IsTestLeft}
use Rattle.exact_simplex.proofs.Moved.{moved_more, given_up_fault, pivot_given_up}
use Rattle.exact_simplex.proofs.PhaseReads.{entering_betters, entering_none, without_limit, test_step}
use Rattle.exact_simplex.proofs.Testing.{own, rises}
use Rattle.exact_simplex.proofs.Turn as turns

module _ {F : Type 0} (value : F → ℚ) (equations cost unknowns : ℕ) (columns : List ℕ) (from now : Dictionary) (start : IsStart equations columns from) (turn : IsTurn equations columns from now)
    (after_equations : equations ≤ cost) (cost_in : cost < length from.table) (fits : unknowns ≤ from.width) where
  own_dictionary : IsDictionary from.width from.table now.basis now.table
  own_dictionary = turn.dictionary from.table start.own.wide start.own

  pub count_kept : length now.table ≡ length from.table
  count_kept = own_dictionary.one_each

  module _ (rows : List (Vec (Spot F) Global)) (are : AreTableau now.width (lines value rows) now.basis) (table : table_of now.width (lines value rows) ≡ now.table) where
    lines_rise : AreLines from.width (lines value rows)
    lines_rise = subst (λ (w : ℕ). AreLines w (lines value rows)) turn.width are.lines

    table_here : table_of from.width (lines value rows) ≡ now.table
    table_here = ap (λ w. table_of w (lines value rows)) (sym turn.width) ∙ table

    pub cost_there : cost < length rows
    cost_there = omega (arith, cost_in, count_kept, rows_count value now rows are table)

    -- the cost row is read
    module _ (spots : List (Spot F)) (v : Vec (Spot F) Global) (spots_are : spots ≡ v.items) (read : v ≡ slice_index_or rows cost v) where
      line_is : entries value spots ≡ slice_index_or (lines value rows) cost []
      line_is = own value rows from.width 0 columns lines_rise cost cost_there spots v spots_are read

      pub line_rises : Rises from.width 0 (entries value spots)
      line_rises = rises value rows from.width 0 columns lines_rise cost cost_there spots v spots_are read

      cost_in_lines : cost < length (lines value rows)
      cost_in_lines = omega (arith, cost_there, length-lines value rows)

      pub no_column : IsEntering (entries value spots) unknowns None → IsPhaseEnd equations cost unknowns now.table None
      no_column none =
          subst (λ (t : Table). IsPhaseEnd equations cost unknowns t None) table_here
          (entering_none from.width (lines value rows) lines_rise equations cost unknowns (entries value spots) cost_in_lines fits line_is none)

      pub column_betters : (col : ℕ) → IsEntering (entries value spots) unknowns (Some col) → (1 ≤ col) × (col ≤ unknowns) × (at now.table (cost + 1) col <ℚ zero_ℚ)
      column_betters col found =
          let betters = entering_betters from.width (lines value rows) lines_rise cost unknowns col (entries value spots) cost_in_lines fits line_is found in
          (betters.0, betters.1, subst (λ (t : Table). at t (cost + 1) col <ℚ zero_ℚ) table_here betters.2)

    -- the rows are compared
    module _ (col : ℕ) (betters : (1 ≤ col) × (col ≤ unknowns) × (at now.table (cost + 1) col <ℚ zero_ℚ)) where
      col_high : col ≤ from.width
      col_high = omega (arith, betters.1, fits)

      pub no_row : IsLeaving (lines value rows) col columns equations None → IsPhaseEnd equations cost unknowns now.table (Some col)
      no_row none = (
        betters.0,
        betters.1,
        betters.2,
        subst (λ (t : Table). (i : ℕ) → i < equations → at t (i + 1) col ≤ℚ zero_ℚ) table_here
            (without_limit from.width (lines value rows) lines_rise col equations columns betters.0 col_high
            (omega (arith, after_equations, cost_in, count_kept, rows_count value now rows are table, length-lines value rows)) none),
      )

      pub test_inside : (row : ℕ) → row < equations → row < length now.table
      test_inside row l = omega (arith, l, after_equations, cost_in, count_kept)

      pub test_fault : (moved : IsMoved equations unknowns from now) (holds : ℚ → Bool) (row : ℕ) (left : Left F) (fault : RowFault F) → row < equations →
          IsTestLeft value holds (lines value rows) col columns row left → IsGivenUp now.basis (row + 1) col 1 left fault → IsPhaseFault value holds equations unknowns from fault
      test_fault moved holds row left fault l stuck given =
          let step : IsPivotStep value holds from.width now.table (row + 1) col 1 left =
          subst (λ (t : Table). IsPivotStep value holds from.width t (row + 1) col 1 left) table_here
          (test_step from.width (lines value rows) lines_rise value holds col row columns left betters.0 col_high start.placed stuck) in
          given_up_fault value holds equations unknowns from now.table now.basis row col turn.dictionary turn.full moved.entered l betters.0 betters.1 1 left fault step given

      module _ (row : ℕ) (found : IsLeaving (lines value rows) col columns equations (Some row)) where
        pub pivot_inside : row < length now.table
        pivot_inside = test_inside row found.0

        pub pivot_high : col ≤ now.width
        pivot_high = omega (arith, col_high, turn.width)

        pub pivot_not_zero : at now.table (row + 1) col ≢ zero_ℚ
        pivot_not_zero = turns.pivot_not_zero equations columns from now start turn (lines value rows) lines_rise table_here row col betters.0 col_high found

        pub pivot_fault : (moved : IsMoved equations unknowns from now) (holds : ℚ → Bool) (fault : RowFault F) →
            IsPivotFault value holds now.width now.table now.basis (row + 1) col fault → IsPhaseFault value holds equations unknowns from fault
        pivot_fault moved holds fault stuck =
            pivot_given_up value holds equations unknowns from now.table now.basis row col turn.dictionary turn.full moved.entered found.0 betters.0 betters.1 fault
            (subst (λ (w : ℕ). IsPivotFault value holds w now.table now.basis (row + 1) col fault) turn.width stuck)

        module _ (after : Dictionary) (is : after ≡ exchange now row col) where
          pub turn_more : IsTurn equations columns from after
          turn_more = turns.turn_more equations columns from now start turn (lines value rows) lines_rise table_here row col betters.0 col_high found after is

          pub turn_moved : IsMoved equations unknowns from now → IsMoved equations unknowns from after
          turn_moved moved =
              subst (IsMoved equations unknowns from) (sym is)
              (moved_more from.width equations unknowns from now row col own_dictionary.wide (omega (arith, after_equations, cost_in, count_kept)) moved found.0 betters.0 betters.1
              pivot_not_zero (exchanged now.basis row col (omega (arith, pivot_inside, turn.one_each))))

          pub turn_falls : remaining (cost_at from.width from.table (cost + 1) columns) (all_lists (length from.table) from.width) (entries_at columns (row_of after.table (cost + 1)))
              < remaining (cost_at from.width from.table (cost + 1) columns) (all_lists (length from.table) from.width) (entries_at columns (row_of now.table (cost + 1)))
          turn_falls =
              turns.turn_falls equations columns from now start turn (lines value rows) lines_rise table_here row col betters.0 col_high found after is cost (length from.table)
              after_equations cost_in refl betters.2
