-- What the calls of a start hand on, by the rows of the text.
use Rattle.std.proofs.Common.{◌≡◌, ◌≢◌, ℕ, suc, ◌-◌, ◌<◌, List, [], map, length, All, AllPairs, Contains, slice_index_or, refl, sym, ap, ◌∙◌, subst, true}
use Rattle.std.specs.List.Sorted.{IsPermutation}
use Rattle.std.proofs.lemmas.List.{length-map}
use Rattle.exact_field.specs.Rational.{ℚ}
use Rattle.frac128.specs.Held.{is_held}
use Rattle.polyhedra.specs.Cone.{HasFullRank}
use Rattle.polyhedra.specs.LiveList.{vectors}
use Rattle.polyhedra.proofs.Members.{all_of_members}
use Rattle.lineality.specs.Without.{with_zeros, without}
use Rattle.lin_rows.specs.Complement.{AreComplement}
use Rattle.lin_rows.specs.Eliminate.{IsElimFault}
use Rattle.lin_rows.specs.Read.{numbers}
use Rattle.lin_rows.specs.Sums.{AreHeld}
use Rattle.lin_rows.specs.declared.fault.RowFault.{RowFault}
use Rattle.tableaux.specs.Elimination.{AreIndependent, IsSpanning}
use Rattle.tableaux.specs.Table.{Table}
use Rattle.double_descr.specs.Starting.{IsStart, IsStartFault}
use Rattle.double_descr.specs.State.{State as Description}
use Rattle.double_descr.specs.declared.fault.DdFault.{DdFault}
use Rattle.rep_text.specs.declared.rep.Rep.{Rep}
use Rattle.rep_conv.specs.Rows.{has_rows, row_at, text_rows}
use Rattle.rep_conv.proofs.TextRows.{text_rows_wide}
use Rattle.rep_convert.specs.Licensed.{AreMultiplied, AreShort, IsElimTable}
use Rattle.rep_convert.specs.Lines.{AreLinesOf, marks_of, rows_without, width_without}
use Rattle.rep_convert.specs.Started.{AreStarts, IsStarted, picked_without}
use Rattle.rep_convert.proofs.LicensedFaults.{same_numbers}
use Rattle.rep_convert.proofs.Starting.{gens_long, multiplied, named_once, none_orthogonal, picked_is, picked_short, rows_long, same_widths, short_table, starts_among, starts_are}

-- ---- whole rows
pub complement_here : (n w : ℕ) (rows text got list : List (List ℚ)) → n ≡ w → rows ≡ text → list ≡ got →
    AreComplement n (numbers (λ (q : ℚ). q) rows) (numbers (λ (q : ℚ). q) got) → AreComplement w text list
complement_here n w rows text got list e f g h =
    subst (λ (k : ℕ). AreComplement k text list) e
    (subst (λ (t : List (List ℚ)). AreComplement n t list) (same_numbers rows ∙ f)
    (subst (AreComplement n (numbers (λ (q : ℚ). q) rows)) (same_numbers got ∙ sym g) h))

pub whole_table : (rep : Rep) (rows : List (List ℚ)) → rows ≡ text_rows rep → IsElimTable rep rows rows (suc rep.width)
whole_table rep rows same = IsElimTable.whole (subst (λ (t : List (List ℚ)). All (Contains t) rows) same (all_of_members (Contains rows) rows (λ r c. c))) refl

pub fault_here : (n w : ℕ) (rows : List (List ℚ)) (fault : RowFault ℚ) → n ≡ w → IsElimFault (λ (q : ℚ). q) is_held n (numbers (λ (q : ℚ). q) rows) fault →
    IsElimFault (λ (q : ℚ). q) is_held w rows fault
fault_here n w rows fault e h =
    subst (λ (k : ℕ). IsElimFault (λ (q : ℚ). q) is_held k rows fault) e
    (subst (λ (t : Table). IsElimFault (λ (q : ℚ). q) is_held n t fault) (same_numbers rows) h)

-- a row and a line of the text
pub lines_multiplied : (rep : Rep) (lines : List (List ℚ)) → AreLinesOf rep lines → All (λ r. All (AreMultiplied rep r) lines) (text_rows rep)
lines_multiplied rep lines are = all_of_members (λ r. All (AreMultiplied rep r) lines) (text_rows rep) (λ r c.
    all_of_members (AreMultiplied rep r) lines (λ d k. AreMultiplied.line lines are c k))

pub lines_long : (rep : Rep) (lines : List (List ℚ)) → AreLinesOf rep lines → All (λ r. All (λ d. length r ≡ length d) lines) (text_rows rep)
lines_long rep lines are = same_widths (suc rep.width) (text_rows rep) lines (text_rows_wide rep).wide are.echelon.wide.wide

-- ---- rows without the places
module _ (rep : Rep) (lines : List (List ℚ)) (are : AreLinesOf rep lines) (n : ℕ) (rows : List (List ℚ)) (width : n ≡ width_without rep lines)
    (rows_are : rows ≡ rows_without rep lines) where
  pub short_here : IsElimTable rep rows rows (width_without rep lines)
  short_here = subst (λ (t : List (List ℚ)). IsElimTable rep t t (width_without rep lines)) (sym rows_are) (short_table rep lines are)

  pub none_here : has_rows rep ≡ true → (z : List ℚ) → IsSpanning n (numbers (λ (q : ℚ). q) rows) (map (λ (q : ℚ). q) z) → ⊥
  none_here some z h = none_orthogonal rep lines are some (map (λ (q : ℚ). q) z)
      (subst (λ (k : ℕ). IsSpanning k (rows_without rep lines) (map (λ (q : ℚ). q) z)) width
      (subst (λ (t : Table). IsSpanning n t (map (λ (q : ℚ). q) z)) (same_numbers rows ∙ rows_are) h))

  pub starts_here : (ks picks : List ℕ) → AreIndependent n (numbers (λ (q : ℚ). q) rows) ks → picks ≡ map (λ k. k - 1) ks → AreStarts rep lines picks
  starts_here ks picks h same =
      subst (AreStarts rep lines) (sym same) (starts_are rep lines are ks
      (subst (λ (k : ℕ). AreIndependent k (rows_without rep lines) ks) width
      (subst (λ (t : Table). AreIndependent n t ks) (same_numbers rows ∙ rows_are) h)))

  -- ---- independent rows among those of these numbers, in any order
  module _ (first : List ℕ) (once : AllPairs (λ j k. j ≢ k) first) (exist : All (λ k. k < length rows) first) (m : ℕ) (some_of : List (List ℚ)) (same_width : m ≡ n)
      (are_some : some_of ≡ map (λ k. slice_index_or rows k []) first) (ks : List ℕ) (h : AreIndependent m (numbers (λ (q : ℚ). q) some_of) ks) where
    abbrev named : List ℕ
    named = map (λ i. slice_index_or first (i - 1) 0) ks

    exist_here : All (λ k. k < length (text_rows rep)) first
    exist_here = subst (λ (k : ℕ). All (λ j. j < k) first) (ap (λ (t : List (List ℚ)). length t) rows_are ∙ length-map (text_rows rep) (without (marks_of rep lines))) exist

    independent : AreIndependent (width_without rep lines) (map (λ j. slice_index_or (rows_without rep lines) j []) first) ks
    independent =
        subst (λ (k : ℕ). AreIndependent k (map (λ j. slice_index_or (rows_without rep lines) j []) first) ks) (same_width ∙ width)
        (subst (λ (t : Table). AreIndependent m t ks) (same_numbers some_of ∙ are_some ∙ ap (λ (t : List (List ℚ)). map (λ j. slice_index_or t j []) first) rows_are) h)

    pub named_once_here : AllPairs (λ j k. j ≢ k) named
    named_once_here = named_once rep lines are first once exist_here ks independent

    pub starts_among_here : (picks : List ℕ) → IsPermutation named picks → AllPairs (λ j k. j < k) picks → AreStarts rep lines picks
    starts_among_here = starts_among rep lines are first once exist_here ks independent

  -- ---- picked rows
  module _ (picks : List ℕ) (starts : AreStarts rep lines picks) (m : ℕ) (picked : List (List ℚ)) (picked_width : m ≡ n)
      (picked_are : picked ≡ map (λ k. slice_index_or rows k []) picks) where
    pub as_picked : picked ≡ picked_without rep lines picks
    as_picked = picked_are ∙ ap (λ (t : List (List ℚ)). map (λ k. slice_index_or t k []) picks) rows_are ∙ picked_is rep lines are picks starts.exist

    pub picked_many : length picked ≡ width_without rep lines
    picked_many = ap (λ (t : List (List ℚ)). length t) picked_are ∙ length-map picks (λ k. slice_index_or rows k []) ∙ starts.many

    pub picked_rank : HasFullRank m (numbers (λ (q : ℚ). q) picked)
    picked_rank =
        subst (λ (k : ℕ). HasFullRank k (numbers (λ (q : ℚ). q) picked)) (sym (picked_width ∙ width))
        (subst (HasFullRank (width_without rep lines)) (sym (same_numbers picked ∙ as_picked)) starts.rank)

    pub start_here : (dd : Description) → IsStart m (numbers (λ (q : ℚ). q) picked) dd → IsStart (width_without rep lines) (picked_without rep lines picks) dd
    start_here dd h =
        subst (λ (k : ℕ). IsStart k (picked_without rep lines picks) dd) (picked_width ∙ width)
        (subst (λ (t : Table). IsStart m t dd) (same_numbers picked ∙ as_picked) h)

    pub short_picked : AreShort rep picked lines
    short_picked = subst (λ (t : List (List ℚ)). AreShort rep t lines) (sym as_picked) (picked_short rep lines are picks starts.exist)

    pub start_fault_here : (fault : DdFault ℚ) → IsStartFault (λ (q : ℚ). q) is_held m (numbers (λ (q : ℚ). q) picked) fault →
        IsStartFault (λ (q : ℚ). q) is_held (width_without rep lines) picked fault
    start_fault_here fault h =
        subst (λ (k : ℕ). IsStartFault (λ (q : ℚ). q) is_held k picked fault) (picked_width ∙ width)
        (subst (λ (t : Table). IsStartFault (λ (q : ℚ). q) is_held m t fault) (same_numbers picked) h)

-- ---- first generators
module _ (rep : Rep) (lines : List (List ℚ)) (are : AreLinesOf rep lines) (picks : List ℕ) (starts : AreStarts rep lines picks) (dd : Description)
    (start : IsStart (width_without rep lines) (picked_without rep lines picks) dd) (gens named : List (List ℚ))
    (filled : gens ≡ map (with_zeros (marks_of rep lines)) (vectors dd.list.live)) (named_are : named ≡ map (row_at rep) picks) where
  pub named_long : All (λ r. All (λ g. length r ≡ length g) gens) named
  named_long = subst (All (λ r. All (λ g. length r ≡ length g) gens)) (sym named_are)
      (same_widths (suc rep.width) (map (row_at rep) picks) gens (rows_long rep lines are picks starts dd start gens filled) (gens_long rep lines are picks starts dd start gens filled))

  pub named_multiplied : All (λ r. All (AreMultiplied rep r) gens) named
  named_multiplied = subst (All (λ r. All (AreMultiplied rep r) gens)) (sym named_are) (multiplied rep lines are picks starts dd start gens filled)

  pub started : All (λ r. All (λ g. AreHeld is_held r g (length r)) gens) named → IsStarted rep lines picks gens dd
  started held = record {
    starts = starts;
    start = start;
    filled = filled;
    held = subst (All (λ r. All (λ g. AreHeld is_held r g (length r)) gens)) named_are held;
  }
