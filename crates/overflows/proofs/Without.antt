-- A licence that needs no duality vector is one with each that is possible: what stands after no
-- entries stands after a `version` and a `duality` entry, and nothing that a duality vector enters
-- is told.
use Rattle.std.proofs.Common.{◌≡◌, ◌≢◌, ℕ, ◌≤◌, Bool, true, false, List, [], ◌∷◌, refl, sym, ap, ◌∙◌, subst, true≢false, ◌⊎◌, inl, inr, None, Some, Option}
use Rattle.exact_field.specs.Rational.{ℚ, zero_ℚ}
use Rattle.exact_field.specs.declared.op.Left.{Left}
use Rattle.polyhedra.specs.LiveList.{LiveList}
use Rattle.polyhedra.proofs.Lists.{Contains-nil}
use Rattle.tableaux.specs.Table.{Table, System, at, equation_count}
use Rattle.tableaux.specs.Dictionary.{IsDictionaryOf}
use Rattle.exact_simplex.specs.Ends.{IsSystemStep}
use Rattle.vlp_problem.specs.declared.problem.Problem.{Problem}
use Rattle.deriv_log.specs.declared.entry.Entry.{Entry}
use Rattle.deriv_log.specs.declared.entry.Entry.TheVariants.{Version, Duality}
use Rattle.vlp_problem.specs.declared.program.Program.{Program}
use Rattle.vlp_problem.specs.declared.program.Program.TheVariants.{Feasible, Benson, Weight, Interior, Pointed}
use Rattle.deriv_log.specs.declared.licence.Family.{Family}
use Rattle.deriv_log.specs.declared.licence.Family.TheVariants.{Image, Exchanged, ConeRows, Rep}
use Rattle.deriv_log.specs.declared.licence.Place.{Place}
use Rattle.deriv_log.specs.declared.licence.Place.TheVariants.{Pivot, Elim, Pair, Exchange, Scale, Step}
use Rattle.overflows.specs.Base.{IsSolutionOff, AreMultipliersOff, AreFirstMultipliersOff, IsRayOff, IsBaseStart}
use Rattle.overflows.specs.Dictionaries.{system_in, IsAllowed, IsProgramStep, AreStartRows, AreElimRows, IsElimTable, IsElimDictionary, IsElimStep}
use Rattle.overflows.specs.Generators.{IsAddition, filled, IsGenerator}
use Rattle.overflows.specs.Laws.{LicenceLaws}
use Rattle.overflows.specs.Licence.{IsAt, opening, Completes}
use Rattle.overflows.specs.Products.{IsBaseU, IsTrailEntry, IsBaseX, AreBaseShares, IsGeneratorY, IsBesideCone, IsRowOrWeight, IsStartOrGenerator, AreMultiplied, IsListStep}
use Rattle.overflows.specs.Quotients.{IsNormingStep, IsReadVector, IsOrthogonalOff, IsScaled, IsDivisor}
use Rattle.overflows.specs.Settings.{Setting}

is_known : {A : Type 0} → Option A → Bool
is_known None = false
is_known (Some x) = true

pub unknown : {A : Type 0} (x : A) → None ≡ Some x → ⊥
unfolding is_known
unknown x h = true≢false (sym (ap is_known h))

module _ (holds : ℚ → Bool) (file : Problem) (c weights : List ℚ) (picks : List ℕ) (inverse : List ℚ) where
  abbrev without : Setting
  without = record { file = file; c = None; weights = []; trail = [] }

  abbrev with : Setting
  with = record { file = file; c = Some c; weights = weights; trail = opening c weights picks inverse }

  -- ---- programs
  allowed : (p : Program) → IsAllowed without p → IsAllowed with p
  allowed Feasible h = tt
  allowed (Benson v t) h = absurd (unknown h.0 h.1)
  allowed (Weight w) (inl h) = absurd (unknown h.0 h.1)
  allowed (Weight w) (inr h) = inr h
  allowed Interior h = tt
  allowed Pointed h = tt

  same_system : (p : Program) → IsAllowed without p → system_in without p ≡ system_in with p
  same_system Feasible h = refl
  same_system (Benson v t) h = absurd (unknown h.0 h.1)
  same_system (Weight w) h = refl
  same_system Interior h = refl
  same_system Pointed h = refl

  program_step : (p : Program) (basis : List ℕ) (row col number : ℕ) (left : Left ℚ) → IsProgramStep holds without p basis row col number left →
      IsProgramStep holds with p basis row col number left
  program_step p basis row col number left h =
      let e = same_system p h.allowed in
      record {
        allowed = allowed p h.allowed;
        dictionary = h.dictionary;
        is = subst (λ (s : System). IsDictionaryOf s basis h.dictionary) e h.is;
        operands = subst (λ (s : System). IsSystemStep (λ q. q) holds s h.dictionary row col number left) e h.operands;
        pivot = subst (λ (s : System). row ≤ equation_count s → at h.dictionary row col ≢ zero_ℚ) e h.pivot;
      }

  -- ---- eliminations and double description
  start_rows : (rows : List (List ℚ)) (width : ℕ) → AreStartRows without rows width → AreStartRows with rows width
  start_rows rows width (AreStartRows.of_image cuts all many rank e) = AreStartRows.of_image cuts all many rank e
  start_rows rows width (AreStartRows.of_cone all) = AreStartRows.of_cone all
  start_rows rows width (AreStartRows.of_base d known all) = absurd (unknown d known)

  elim_rows : (rows : List (List ℚ)) (width : ℕ) → AreElimRows without rows width → AreElimRows with rows width
  elim_rows rows width (AreElimRows.of_normals e) = AreElimRows.of_normals e
  elim_rows rows width (AreElimRows.of_start w h) = AreElimRows.of_start w (start_rows rows w h)

  elim_table : (rows : List (List ℚ)) (width columns : ℕ) (t : Table) → IsElimTable without rows width t columns → IsElimTable with rows width t columns
  elim_table rows width columns t (IsElimTable.alone h e f) = IsElimTable.alone (elim_rows rows width h) e f
  elim_table rows width columns t (IsElimTable.beside h square e f) = IsElimTable.beside (start_rows rows width h) square e f

  elim_dictionary : (rows : List (List ℚ)) (width columns : ℕ) (basis : List ℕ) (d : Table) → IsElimDictionary without rows width columns basis d →
      IsElimDictionary with rows width columns basis d
  elim_dictionary rows width columns basis d h =
      record { table = h.table; of_rows = elim_table rows width columns h.table h.of_rows; is = h.is }

  elim_step : (rows : List (List ℚ)) (basis : List ℕ) (row col number : ℕ) (left : Left ℚ) → IsElimStep holds without rows basis row col number left →
      IsElimStep holds with rows basis row col number left
  elim_step rows basis row col number left h =
      record {
        width = h.width;
        columns = h.columns;
        dictionary = h.dictionary;
        is = elim_dictionary rows h.width h.columns basis h.dictionary h.is;
        one_each = h.one_each;
        row_from_one = h.row_from_one;
        col_from_one = h.col_from_one;
        operands = h.operands;
        pivot = h.pivot;
      }

  norming_step : (rows : List (List ℚ)) (col number : ℕ) (left : Left ℚ) → IsNormingStep without rows col number left →
      IsNormingStep with rows col number left
  norming_step rows col number left h =
      record {
        allowed = start_rows rows _ h.allowed;
        inverse = h.inverse;
        is = h.is;
        corner = h.corner;
        corner_from_one = h.corner_from_one;
        corner_to_end = h.corner_to_end;
        from_one = h.from_one;
        to_end = h.to_end;
        first = h.first;
        same = h.same;
      }

  addition : (before : List (List ℚ)) (last : List ℚ) (list : LiveList) (family : Family) → IsAddition without before last list family →
      IsAddition with before last list family
  addition before last list family (IsAddition.of_image cut low high a b e) = IsAddition.of_image cut low high a b e
  addition before last list family (IsAddition.of_base d known all row made) = absurd (unknown d known)
  addition before last list family (IsAddition.of_cone all row made) = IsAddition.of_cone all row made

  -- ---- sums
  start : (v : List ℚ) (t : Bool) → IsBaseStart file.objs without.trail v t → IsBaseStart file.objs with.trail v t
  start v t (IsBaseStart.origin e f) = IsBaseStart.origin e f
  start v t (IsBaseStart.live g live e) = IsBaseStart.live g live e
  start v t (IsBaseStart.side side e) = IsBaseStart.side side e
  start v t (IsBaseStart.other_side d side e f) = IsBaseStart.other_side d side e f

  base_u : (u : List ℚ) → IsBaseU without u → IsBaseU with u
  base_u u (inl h) = absurd (unknown h.0 h.4)
  base_u u (inr h) = inr h

  no_entry : (e : Entry) → IsTrailEntry without e → ⊥
  no_entry e (IsTrailEntry.there h) = Contains-nil e h
  no_entry e (IsTrailEntry.next d known h) = unknown d known

  base_x : (x : List ℚ) → IsBaseX without x → IsBaseX with x
  base_x x (IsBaseX.choice h) = IsBaseX.choice h
  base_x x (IsBaseX.ray h) = IsBaseX.ray h
  base_x x (IsBaseX.of_entry e h is) = absurd (no_entry e h)

  shares : (m : List ℚ) → AreBaseShares without m → AreBaseShares with m
  shares m (AreBaseShares.of_entry e h is) = absurd (no_entry e h)
  shares m (AreBaseShares.of_cut d w u v known h e) = absurd (unknown d known)
  shares m (AreBaseShares.mu h f) = AreBaseShares.mu h f

  same_filled : (family : Family) (v : List ℚ) → filled without family v ≡ filled with family v
  same_filled Image v = refl
  same_filled Exchanged v = refl
  same_filled ConeRows v = refl
  same_filled Rep v = refl

  generator : (v : List ℚ) → IsGenerator without v → IsGenerator with v
  generator v (inl h) = inl h
  generator v (inr (before, last, family, list, g, h, live, e)) =
      inr (before, last, family, list, g, addition before last list family h, live, e ∙ same_filled family g.vector)

  generator_y : (y : List ℚ) → IsGeneratorY without y → IsGeneratorY with y
  generator_y y (IsGeneratorY.live g h e) = IsGeneratorY.live g h e
  generator_y y (IsGeneratorY.of_cone before last list g h live e) = IsGeneratorY.of_cone before last list g (addition before last list ConeRows h) live e

  beside_cone : (y : List ℚ) → IsBesideCone without y → IsBesideCone with y
  beside_cone y (IsBesideCone.given e) = IsBesideCone.given e
  beside_cone y (IsBesideCone.duality known) = absurd (unknown y known)
  beside_cone y (IsBesideCone.weight h) = absurd (unknown h.0 h.1)
  beside_cone y (IsBesideCone.generator h) = IsBesideCone.generator (generator_y y h)

  row_or_weight : (row : List ℚ) → IsRowOrWeight without row → IsRowOrWeight with row
  row_or_weight row (IsRowOrWeight.weight h) = absurd (unknown h.0 h.1)
  row_or_weight row (IsRowOrWeight.of_trail h) = IsRowOrWeight.of_trail h
  row_or_weight row (IsRowOrWeight.in_use h) = IsRowOrWeight.in_use h

  start_or_generator : (v : List ℚ) → IsStartOrGenerator without v → IsStartOrGenerator with v
  start_or_generator v (IsStartOrGenerator.start t h) = IsStartOrGenerator.start t (start v t h)
  start_or_generator v (IsStartOrGenerator.generator h) = IsStartOrGenerator.generator (generator v h)

  multiplied : (xs ys : List ℚ) → AreMultiplied without xs ys → AreMultiplied with xs ys
  multiplied xs ys (AreMultiplied.bounds e h) = AreMultiplied.bounds e (base_u ys h)
  multiplied xs ys (AreMultiplied.duality known h) = absurd (unknown xs known)
  multiplied xs ys (AreMultiplied.last_weight d g rows known all is e f) = absurd (unknown d known)
  multiplied xs ys (AreMultiplied.side h x) = AreMultiplied.side h (base_x ys x)
  multiplied xs ys (AreMultiplied.of_objective h x) = AreMultiplied.of_objective h (base_x ys x)
  multiplied xs ys (AreMultiplied.cone h y) = AreMultiplied.cone h (beside_cone ys y)
  multiplied xs ys (AreMultiplied.shares i low high e h) = AreMultiplied.shares i low high e (shares ys h)
  multiplied xs ys (AreMultiplied.across h y) = AreMultiplied.across (row_or_weight xs h) (start_or_generator ys y)

  list_step : (rows : List (List ℚ)) (col number : ℕ) (left : Left ℚ) → IsListStep without rows col number left → IsListStep with rows col number left
  list_step rows col number left (IsListStep.normed h) = IsListStep.normed (norming_step rows col number left h)
  list_step rows col number left (IsListStep.forward xs ys none m h) = IsListStep.forward xs ys none (multiplied xs ys m) h
  list_step rows col number left (IsListStep.backward xs ys none m h) = IsListStep.backward xs ys none (multiplied ys xs m) h
  list_step rows col number left (IsListStep.share none h) = absurd (unknown h.read.c h.read.known)

  -- ---- norming
  read_vector : (v : List ℚ) → IsReadVector without v → IsReadVector with v
  read_vector v h =
      record {
        program = h.program;
        allowed = allowed h.program h.allowed;
        whole = h.whole;
        read = subst (λ (s : System). IsSolutionOff s h.whole ⊎ (AreMultipliersOff s h.whole ⊎ (AreFirstMultipliersOff s h.whole ⊎ IsRayOff s h.whole)))
            (same_system h.program h.allowed) h.read;
        same = h.same;
      }

  orthogonal : (v : List ℚ) → IsOrthogonalOff without v → IsOrthogonalOff with v
  orthogonal v h =
      record {
        rows = h.rows;
        width = h.width;
        columns = h.columns;
        basis = h.basis;
        dictionary = h.dictionary;
        is = elim_dictionary h.rows h.width h.columns h.basis h.dictionary h.is;
        col = h.col;
        from_one = h.from_one;
        to_end = h.to_end;
        within = h.within;
        free = h.free;
        clear = h.clear;
        same = h.same;
      }

  scaled : (v : List ℚ) → IsScaled without v → IsScaled with v
  scaled v (IsScaled.given e) = IsScaled.given e
  scaled v (IsScaled.direction h) = IsScaled.direction h
  scaled v (IsScaled.image r h e) = IsScaled.image r h e
  scaled v (IsScaled.read h) = IsScaled.read (read_vector v h)
  scaled v (IsScaled.orthogonal h) = IsScaled.orthogonal (orthogonal v h)

  divisor : (v : List ℚ) (by : ℚ) → IsDivisor without v by → IsDivisor with v by
  divisor v by (IsDivisor.own k low high e) = IsDivisor.own k low high e
  divisor v by (IsDivisor.given f e h) = IsDivisor.given f e h
  divisor v by (IsDivisor.ray h e) = IsDivisor.ray h e

  -- ---- places
  at_place : (place : Place) (left : Left ℚ) → IsAt holds without place left → IsAt holds with place left
  at_place (Pivot p basis row col number) left h = program_step p basis row col number left h
  at_place (Elim rows basis row col number) left (inl h) = inl (elim_step rows basis row col number left h)
  at_place (Elim rows basis row col number) left (inr h) = inr (h.0, h.1, list_step rows col number left h.2)
  at_place (Pair family rows first second number) left h =
      record {
        before = h.before;
        last = h.last;
        parted = h.parted;
        list = h.list;
        allowed = addition h.before h.last h.list family h.allowed;
        operands = h.operands;
      }
  at_place (Exchange y t number) left h = absurd (unknown h.c h.known)
  at_place (Scale v k) left h =
      record {
        vector = scaled v h.vector;
        from_one = h.from_one;
        to_end = h.to_end;
        by = h.by;
        divisor = divisor v h.by h.divisor;
        same = h.same;
      }
  at_place (Step number k) left h = h

pub licence_laws : LicenceLaws
licence_laws = record {
  licensed = λ holds file c weights whole licence stands overflow. inl (record { weights = weights; whole = whole; stands = stands; overflow = overflow });
  checked = λ holds file c weights licence possible base overflow. inr (record { weights = weights; possible = possible; base = base; overflow = overflow });
  without = λ holds file c weights licence possible h. inl (record {
    weights = weights;
    whole = opening c weights possible.picks possible.inverse;
    stands = record {
      possible = possible;
      completes = Completes.after_opening possible.picks possible.inverse possible.held
          (ap (λ (trail : List Entry). Version 1 ∷ Duality c weights possible.picks possible.inverse ∷ trail) (sym h.trail));
      base = possible.trail;
    };
    overflow = record {
      not_held = h.overflow.not_held;
      operands = at_place holds file c weights possible.picks possible.inverse licence.place licence.left h.overflow.operands;
    };
  });
}
