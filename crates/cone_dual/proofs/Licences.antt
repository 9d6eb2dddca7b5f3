-- Licences before a duality vector is known, from what eliminations, starts and additions tell.
use Rattle.std.proofs.Common.{◌≡◌, ℕ, ◌+◌, List, [], ◌∷◌, ◌++◌, Bool, IsTrue, refl, sym, ◌∙◌, subst, None, inl, inr}
use Rattle.std.specs.Prelude.{Contains}
use Rattle.std.specs.Prelude.{All}
use Rattle.std.proofs.lemmas.List.Elements.{All-contains_itself, All-weaker, Contains-append_cases, Contains-append_left, Contains-append_right}
use Rattle.exact_field.specs.Field.{IsLeftOf, exact}
use Rattle.exact_field.specs.Rational.{ℚ, zero_ℚ}
use Rattle.exact_field.specs.declared.op.Left.{Left as Operation}
use Rattle.exact_field.specs.declared.op.Op.{Op}
use Rattle.polyhedra.specs.LiveList.{LiveList}
use Rattle.polyhedra.proofs.Lists.{Contains-cases, Contains-here, Contains-nil}
use Rattle.polyhedra.proofs.Members.{Contains-filter_source, all_of_members, member_of}
use Rattle.tableaux.specs.Table.{Table, beside_unit}
use Rattle.lin_rows.specs.Eliminate.{IsElimFault}
use Rattle.lin_rows.specs.declared.fault.RowFault.{RowFault}
use Rattle.lin_rows.specs.declared.fault.RowFault.TheVariants as elimination
use Rattle.double_descr.specs.Adding.{Block, IsAddFault}
use Rattle.double_descr.specs.Starting.{IsStartFault}
use Rattle.double_descr.specs.declared.fault.DdFault.{DdFault}
use Rattle.double_descr.specs.declared.fault.DdFault.TheVariants as description
use Rattle.vlp_problem.specs.declared.problem.Problem.{Problem}
use Rattle.vlp_problem.specs.Values.{cone_vectors}
use Rattle.deriv_log.specs.declared.entry.Entry.{Entry}
use Rattle.deriv_log.specs.declared.licence.Family.{Family}
use Rattle.deriv_log.specs.declared.licence.Family.TheVariants.{ConeRows}
use Rattle.deriv_log.specs.declared.licence.Licence.{Licence}
use Rattle.deriv_log.specs.declared.licence.Place.{Place}
use Rattle.deriv_log.specs.declared.licence.Place.TheVariants.{Elim, Pair}
use Rattle.lp_form.specs.Programs.{nonzero_vectors}
use Rattle.overflows.specs.Dictionaries.{AreStartRows}
use Rattle.overflows.specs.Generators.{IsMadeOver, IsAddition}
use Rattle.overflows.specs.Licence.{LicensedWithout}
use Rattle.overflows.specs.Settings.{Setting}
use Rattle.overflows.specs.Steps.{IsNotHeld, in_numbers}
use Rattle.overflows.proofs.Given.{not_held, same_exact, step_not_held, still}
use Rattle.overflows.specs.Faults.{IsEliminationLeft, OnLicence, Overflows}
use Rattle.overflows.specs.declared.fault.SolveFault.{SolveFault}
use Rattle.overflows.specs.declared.fault.SolveFault.TheVariants.{Left as Stuck, NoMemory}
use Rattle.overflows.proofs.Starts.{AlwaysOverflows}
use Rattle.overflows.specs.Told.{IsAdditionLeft, IsStartLeft}
use Rattle.cone_dual.specs.Generators.{AreConeRows, IsAlone, IsOver, MayDescribe}

-- some of such rows are such rows
pub cone_rows-front : (file : Problem) (n : ℕ) (rows more : List (List ℚ)) → AreConeRows file n (rows ++ more) → AreConeRows file n rows
cone_rows-front file n rows more c = record {
  width = c.width;
  listed = all_of_members (Contains (nonzero_vectors file.cone)) rows
      (λ r k. member_of (Contains (nonzero_vectors file.cone)) (rows ++ more) r c.listed (Contains-append_left rows more r k));
}

-- a list of one has no other
Contains-one : (last r : List ℚ) → Contains (last ∷ []) r → last ≡ r
Contains-one last r k = elim (Contains-cases last [] r k) [ inl e ↦ e | inr none ↦ absurd (Contains-nil r none) ]

-- before a duality vector is known
abbrev pub setting : Problem → Setting
setting file = record { file = file; c = None; weights = []; trail = [] }

-- such rows may be eliminated, and added
pub elim_rows : (file : Problem) (n : ℕ) (rows : List (List ℚ)) → AreConeRows file n rows → AreStartRows (setting file) rows n
elim_rows file n rows c = subst (λ (m : ℕ). AreStartRows (setting file) rows m) c.width
    (AreStartRows.of_cone (All-weaker (Contains (nonzero_vectors file.cone)) (Contains (cone_vectors file.cone))
    (λ r k. (Contains-filter_source _ (cone_vectors file.cone) r k).0) rows c.listed))

pub cone_addition : (file : Problem) (n : ℕ) (before : List (List ℚ)) (last : List ℚ) (list : LiveList) → AreConeRows file n (before ++ last ∷ []) →
    IsMadeOver n before list → IsAddition (setting file) before last list ConeRows
cone_addition file n before last list c made =
    IsAddition.of_cone (cone_rows-front file n before (last ∷ []) c).listed
    (member_of (Contains (nonzero_vectors file.cone)) (before ++ last ∷ []) last c.listed
    (Contains-append_right before (last ∷ []) last (Contains-here last [] last refl)))
    (subst (λ (m : ℕ). IsMadeOver m before list) (sym c.width) made)

pub cone_describes : (file : Problem) (n : ℕ) (rows : List (List ℚ)) → AreConeRows file n rows → MayDescribe (setting file) ConeRows n rows
cone_describes file n rows c = record {
  eliminated = λ some all. elim_rows file n some (members some all);
  added = λ before last list all here made.
      cone_addition file n before last list (members (before ++ last ∷ [])
      (all_of_members (Contains rows) (before ++ last ∷ []) (λ r k. elim (Contains-append_cases before (last ∷ []) r k) [
        | inl a ↦ member_of (Contains rows) before r all a
        | inr b ↦ subst (Contains rows) (Contains-one last r b) here
      ]))) made;
}
  where
    members : (some : List (List ℚ)) → All (Contains rows) some → AreConeRows file n some
    members some all = record {
      width = c.width;
      listed = all_of_members (Contains (nonzero_vectors file.cone)) some
          (λ r k. member_of (Contains (nonzero_vectors file.cone)) rows r c.listed (member_of (Contains rows) some r all k));
    }

module _ (holds : ℚ → Bool) (file : Problem) where
  -- an overflow there, with no entries, is licensed
  pub overflow_licensed : (trail : List Entry) (told : SolveFault) → trail ≡ [] → Overflows holds (setting file) trail told → OnLicence told (LicensedWithout holds file)
  overflow_licensed trail (Stuck licence) none h = record { trail = h.0 ∙ none; overflow = h.1 }
  overflow_licensed trail NoMemory none h = tt

-- ---- places
-- of the elimination of rows, of a start, and of an addition
pub elimination_over : {F : Type 0} (value : F → ℚ) (family : Family) (rows : List (List ℚ)) (trail : List Entry) (fault : RowFault F) (told : SolveFault) →
    IsEliminationLeft value rows trail fault told → OnLicence told (λ licence. IsOver family rows licence.place)
elimination_over value family rows trail (elimination.Left basis row col step left) (Stuck licence) h =
    subst (λ (l : Licence). IsOver family rows l.place) (sym h) (All-contains_itself rows)
elimination_over value family rows trail (elimination.Left basis row col step left) NoMemory h = tt
elimination_over value family rows trail elimination.NoMemory told h =
    subst (λ (f : SolveFault). OnLicence f (λ licence. IsOver family rows licence.place)) (sym h) tt

pub start_over : {F : Type 0} (value : F → ℚ) (holds : ℚ → Bool) (family : Family) (n : ℕ) (rows : List (List ℚ)) (fault : DdFault F) (told : SolveFault) →
    IsStartFault value holds n rows fault → IsStartLeft value rows fault told → OnLicence told (λ licence. IsOver family rows licence.place)
start_over value holds family n rows (description.Elim fault) told s h = elimination_over value family rows [] fault told h
start_over value holds family n rows (description.Left first second step left) told s h = absurd s
start_over value holds family n rows description.NoMemory told s h = subst (λ (f : SolveFault). OnLicence f (λ licence. IsOver family rows licence.place)) (sym h) tt

pub addition_over : {F : Type 0} (value : F → ℚ) (holds : ℚ → Bool) (family : Family) (blocks : List Block) (before : List (List ℚ)) (last : List ℚ) (fault : DdFault F)
    (told : SolveFault) → IsAddFault value holds blocks fault → IsAdditionLeft value family before last fault told →
    OnLicence told (λ licence. IsOver family (before ++ last ∷ []) licence.place)
addition_over value holds family blocks before last (description.Left first second step left) (Stuck licence) s h =
    subst (λ (l : Licence). IsOver family (before ++ last ∷ []) l.place) (sym h) (refl, All-contains_itself (before ++ last ∷ []))
addition_over value holds family blocks before last (description.Left first second step left) NoMemory s h = tt
addition_over value holds family blocks before last (description.Elim fault) told s h = absurd s
addition_over value holds family blocks before last description.NoMemory told s h =
    subst (λ (f : SolveFault). OnLicence f (λ licence. IsOver family (before ++ last ∷ []) licence.place)) (sym h) tt

-- ---- operations
-- what is told of an elimination, of a start and of an addition is not held
module _ {F : Type 0} (value : F → ℚ) (holds : ℚ → Bool) (zero : IsTrue (holds zero_ℚ)) where
  operation_not_held : (o : Op) (a b : ℚ) (left : Operation F) → IsLeftOf value holds o a b left → IsNotHeld holds (in_numbers value left)
  operation_not_held o a b left h =
      not_held holds (in_numbers value left) zero
      (still holds (exact left.op (value left.a) (value left.b)) (exact o a b) (same_exact left.op o (value left.a) a (value left.b) b h.0 h.1 h.2) h.3)

  none_alone : (told : SolveFault) → told ≡ NoMemory → OnLicence told (IsAlone holds)
  none_alone told h = subst (λ (f : SolveFault). OnLicence f (IsAlone holds)) (sym h) tt

  pub elimination_alone : (rows : List (List ℚ)) (trail : List Entry) (columns : ℕ) (t : Table) (fault : RowFault F) (told : SolveFault) → trail ≡ [] →
      IsElimFault value holds columns t fault → IsEliminationLeft value rows trail fault told → OnLicence told (IsAlone holds)
  elimination_alone rows trail columns t (elimination.Left basis row col step left) (Stuck licence) none (d, is, h, row_low, row_high, col_low, col_high) told =
      subst (IsAlone holds) (sym told)
      (record { trail = none; not_held = not_held holds (in_numbers value left) zero (step_not_held holds columns d row col step (in_numbers value left) h) })
  elimination_alone rows trail columns t (elimination.Left basis row col step left) NoMemory none h told = tt
  elimination_alone rows trail columns t elimination.NoMemory told none h is = none_alone told is

  pub start_alone : (n : ℕ) (rows : List (List ℚ)) (fault : DdFault F) (told : SolveFault) →
      IsStartFault value holds n rows fault → IsStartLeft value rows fault told → OnLicence told (IsAlone holds)
  start_alone n rows (description.Elim (elimination.Left basis row col step left)) told (inl h) is =
      elimination_alone rows [] (n + n) (beside_unit rows) (elimination.Left basis row col step left) told refl h is
  start_alone n rows (description.Elim (elimination.Left basis row col step left)) (Stuck licence) (inr h) is =
      subst (IsAlone holds) (sym is) (record { trail = refl; not_held = operation_not_held _ _ _ left h.3.left_is })
  start_alone n rows (description.Elim (elimination.Left basis row col step left)) NoMemory (inr h) is = tt
  start_alone n rows (description.Elim elimination.NoMemory) told h is = absurd h
  start_alone n rows (description.Left first second step left) told h is = absurd h
  start_alone n rows description.NoMemory told h is = none_alone told is

  pub addition_alone : (family : Family) (blocks : List Block) (before : List (List ℚ)) (last : List ℚ) (fault : DdFault F) (told : SolveFault) →
      IsAddFault value holds blocks fault → IsAdditionLeft value family before last fault told → OnLicence told (IsAlone holds)
  addition_alone family blocks before last (description.Left first second step left) (Stuck licence) h is =
      let at = h.here.2 in
      subst (IsAlone holds) (sym is) (record { trail = refl; not_held = operation_not_held at.step.op at.step.a at.step.b left at.left_is })
  addition_alone family blocks before last (description.Left first second step left) NoMemory h is = tt
  addition_alone family blocks before last (description.Elim fault) told h is = absurd h
  addition_alone family blocks before last description.NoMemory told h is = none_alone told is

-- a place over some rows is one over more
over_more : (family : Family) (some all : List (List ℚ)) → All (Contains all) some → (p : Place) → IsOver family some p → IsOver family all p
over_more family some all h (Elim rows basis row col step) k = All-weaker (Contains some) (Contains all) (λ r c. member_of (Contains all) some r h c) rows k
over_more family some all h (Pair given rows first second step) k =
    (k.0, All-weaker (Contains some) (Contains all) (λ r c. member_of (Contains all) some r h c) rows k.1)
over_more family some all h p k = absurd k

pub told_more : (family : Family) (some all : List (List ℚ)) → All (Contains all) some → (told : SolveFault) →
    OnLicence told (λ licence. IsOver family some licence.place) → OnLicence told (λ licence. IsOver family all licence.place)
told_more family some all h (Stuck licence) k = over_more family some all h licence.place k
told_more family some all h NoMemory k = tt

-- some of rows that may be described may be described
pub may_among : (s : Setting) (family : Family) (n : ℕ) (some rows : List (List ℚ)) → All (Contains rows) some → MayDescribe s family n rows →
    MayDescribe s family n some
may_among s family n some rows among h = record {
  eliminated = λ xs all. h.eliminated xs (still xs all);
  added = λ before last list all here made. h.added before last list (still before all) (member_of (Contains rows) some last among here) made;
}
  where
    still : (xs : List (List ℚ)) → All (Contains some) xs → All (Contains rows) xs
    still xs all = All-weaker (Contains some) (Contains rows) (λ r k. member_of (Contains rows) some r among k) xs all

-- the front of a list has its rows
pub front_listed : (rows more : List (List ℚ)) → All (Contains (rows ++ more)) rows
front_listed rows more = all_of_members (Contains (rows ++ more)) rows (λ r c. Contains-append_left rows more r c)
