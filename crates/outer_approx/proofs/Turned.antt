-- What stands after one more cut and the entry that brings it into use.
use Rattle.std.proofs.Common.{◌≡◌, ℕ, suc, ◌+◌, ◌≤◌, List, [], ◌∷◌, ◌++◌, map, length, Contains, sym, ap, ap₂, ◌∙◌, subst, arith, append-nil, length-append}
use Rattle.std.specs.List.{range_with_len}
use Rattle.std.proofs.lemmas.List.{length-map, map-append}
use Rattle.exact_field.specs.Rational.{ℚ}
use Rattle.polyhedra.specs.Exactness.{row_of, rows_of, level}
use Rattle.polyhedra.specs.Inequality.{Inequality}
use Rattle.polyhedra.specs.LiveList.{LiveList, step}
use Rattle.vlp_problem.specs.declared.problem.Problem.{Problem}
use Rattle.word_lines.specs.declared.part.LogPair.{LogPair}
use Rattle.deriv_log.specs.declared.entry.Entry.TheVariants.{Add}
use Rattle.log_rules.specs.Live.{State, after, inequality, cut_row, in_use, rows_in_use, required_pairs}
use Rattle.log_rules.specs.Meets.{MeetsAdd}
use Rattle.outer_approx.proofs.Used.{range_more, in_range, first_used, next_row}

-- all cuts of the first state are in use in their order, and in the second state one more stands after them
pub record IsAfter (s t : State) (e : Inequality) : Type 0 where
  pub all_used : s.used ≡ range_with_len 1 (length s.cuts)
  pub cuts : map inequality t.cuts ≡ map inequality s.cuts ++ e ∷ []
  pub used : t.used ≡ s.used
  pub list : t.list ≡ s.list

module _ (q : ℕ) (s t : State) (e : Inequality) (h : IsAfter s t e) where
  abbrev said : List Inequality
  said = map inequality s.cuts

  many : length said ≡ length s.cuts
  many = length-map s.cuts inequality

  used_said : s.used ≡ range_with_len 1 (length said)
  used_said = h.all_used ∙ ap (range_with_len 1) (sym many)

  used_before : in_use s ≡ said
  used_before = first_used s said [] (sym (append-nil said)) used_said

  used_here : in_use t ≡ said
  used_here = first_used t said (e ∷ []) h.cuts (h.used ∙ used_said)

  -- the rows in use are the same
  pub rows_stay : rows_in_use q t ≡ rows_in_use q s
  rows_stay = ap (rows_of q) (used_here ∙ sym used_before)

  -- as many as there are cuts, and row 0
  pub row_number : length (rows_in_use q s) ≡ length s.cuts + 1
  row_number =
      let rows : length (rows_in_use q s) ≡ suc (length (map row_of said)) = ap (λ (es : List Inequality). length (rows_of q es)) used_before in
      let all = length-map said row_of in
      omega (arith, rows, all, many)

  pub cut_number : length t.cuts ≡ length s.cuts + 1
  cut_number =
      let all : length (map inequality t.cuts) ≡ length (said ++ e ∷ []) = ap (λ (es : List Inequality). length es) h.cuts in
      let own = length-map t.cuts inequality in
      let more = length-append said (e ∷ []) in
      omega (arith, all, own, more, many)

  module _ (k : ℕ) (number : k ≡ length (rows_in_use q s)) where
    last : k ≡ length s.cuts + 1
    last = number ∙ row_number

    -- the number is that of the new cut
    pub new_exists : (1 ≤ k) × (k ≤ length t.cuts)
    new_exists = (omega (arith, last), omega (arith, last, cut_number))

    pub new_row : cut_row t k ≡ row_of e
    new_row = ap (cut_row t) (last ∙ ap (λ (n : ℕ). n + 1) (sym many)) ∙ next_row t said [] e h.cuts

    new_unused : Contains t.used k → ⊥
    new_unused c =
        let low = in_range (length s.cuts) k (subst (λ (ks : List ℕ). Contains ks k) (h.used ∙ h.all_used) c) in
        omega (arith, low, last)

    -- what it meets that comes into use with the required pairs
    pub meets_add : (file : Problem) (pairs : List LogPair) → file.objs ≡ q →
        pairs ≡ required_pairs (rows_in_use q s) s.list.live (row_of e) → MeetsAdd file t k pairs
    meets_add file pairs same is = record {
      exists = new_exists;
      unused = new_unused;
      exactly = is ∙ sym (ap (λ (rows : List (List ℚ)). required_pairs rows t.list.live (cut_row t k)) (ap (λ (n : ℕ). rows_in_use n t) same ∙ rows_stay)
          ∙ ap₂ (λ (list : LiveList) (row : List ℚ). required_pairs (rows_in_use q s) list.live row) h.list new_row);
    }

    module _ (pairs : List LogPair) where
      abbrev next : State
      next = after q t (Add k pairs)

      pub next_used : next.used ≡ range_with_len 1 (length next.cuts)
      next_used =
          ap₂ (λ (ks : List ℕ) (j : ℕ). ks ++ j ∷ []) (h.used ∙ h.all_used) last
          ∙ sym (range_more (length s.cuts)) ∙ ap (range_with_len 1) (sym cut_number)

      pub next_rows : rows_in_use q next ≡ rows_in_use q s ++ row_of e ∷ []
      next_rows =
          let all = said ++ e ∷ [] in
          let long : length next.cuts ≡ length all = sym (length-map t.cuts inequality) ∙ ap (λ (es : List Inequality). length es) h.cuts in
          ap (rows_of q) (first_used next all [] (h.cuts ∙ sym (append-nil all)) (next_used ∙ ap (range_with_len 1) long))
          ∙ ap (λ (rows : List (List ℚ)). level q ∷ rows) (map-append row_of said (e ∷ []))
          ∙ ap (λ (es : List Inequality). rows_of q es ++ row_of e ∷ []) (sym used_before)

      pub next_list : next.list ≡ step (rows_in_use q s) s.list (row_of e)
      next_list =
          ap₂ (λ (rows : List (List ℚ)) (list : LiveList). step rows list (cut_row t k)) rows_stay h.list
          ∙ ap (step (rows_in_use q s) s.list) new_row
