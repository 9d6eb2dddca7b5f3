-- What a double description keeps, after one more row.
use Rattle.std.proofs.Common.{◌≡◌, ℕ, ◌<◌, List, [], ◌∷◌, ◌++◌, map, length, All, sym, ap, ◌∙◌, subst}
use Rattle.std.proofs.lemmas.List.{map-append, length-map}
use Rattle.exact_field.specs.Rational.{ℚ}
use Rattle.exact_field.specs.Vector.{dot}
use Rattle.polyhedra.specs.LiveList.{LiveList, Numbered, numbers, staying, step}
use Rattle.polyhedra.specs.LiveSteps.{IsLive}
use Rattle.polyhedra.proofs.Lists.{wide-nil, wide-cons}
use Rattle.polyhedra.proofs.LiveSteps.{are_live}
use Rattle.double_descr.specs.Making.{Addition, AreNextSets, AreSetsFor, AreValuesAt, IsAddition, IsMoving, IsNext, addition_of}
use Rattle.double_descr.specs.Steps.{values}
use Rattle.double_descr.specs.State.{State, list_of, live_of, HasTightSet, IsKept}
use Rattle.double_descr.specs.declared.generator.Generator.{Generator}
use Rattle.double_descr.specs.declared.next.Next.{Next}
use Rattle.double_descr.proofs.NextLists.{list_after, one_each, sets_fit}

module _ {F : Type 0} (value : F → ℚ) (width : ℕ) (rows : List (List F)) (nums : List ℕ) (gens : List (Generator F)) (next : ℕ)
    (k : IsKept value width rows nums gens next) (row : List F) (w : length row ≡ width) where
  wide : length (values value row) ≡ width
  wide = length-map row value ∙ w

  -- the row may be added to generators that are the kept ones
  pub is_addition : (listed : List (Generator F)) → listed ≡ gens → IsAddition value (addition_of value rows row next) listed
  is_addition listed e = subst (IsAddition value (addition_of value rows row next)) (sym e) (record {
    live = subst (λ (n : ℕ). IsLive n (map (values value) rows) (list_of value gens next)) (sym wide) k.live;
    tight = k.tight;
    narrow = subst (λ (n : ℕ). n < 4294967296) (sym wide) k.narrow;
  })

  pub rows_is : (after : List (List F)) → after ≡ rows ++ row ∷ [] → map (values value) after ≡ map (values value) rows ++ values value row ∷ []
  rows_is after e = ap (map (values value)) e ∙ map-append (values value) rows (row ∷ [])

  -- what is kept of generators that are the live list after the row
  pub kept_next : (after : List (List F)) → after ≡ rows ++ row ∷ [] → (now : List (Generator F)) (next' : ℕ) →
      list_of value now next' ≡ step (map (values value) rows) (list_of value gens next) (values value row) →
      (nums' : List ℕ) → nums' ≡ numbers (step (map (values value) rows) (list_of value gens next) (values value row)).live →
      All (HasTightSet value (map (values value) rows ++ values value row ∷ [])) now →
      IsKept value width after nums' now next'
  kept_next after e now next' is nums' ns tight = record {
    live = subst (λ (p : List (List ℚ) × LiveList). IsLive width p.0 p.1) (λ i. (sym (rows_is after e) i, sym is i))
        (are_live.after width (map (values value) rows) (list_of value gens next) (values value row ∷ []) (wide-cons width (values value row) [] wide (wide-nil width)) k.live);
    numbers_are = ns ∙ ap (λ (l : LiveList). numbers l.live) (sym is);
    tight = subst (λ (rs : List (List ℚ)). All (HasTightSet value rs) now) (sym (rows_is after e)) tight;
    narrow = k.narrow;
  }

  -- the state with the row, from any state
  abbrev pub with_row : State → State
  with_row s = record { width = s.width; rows = s.rows ++ values value row ∷ []; list = step s.rows s.list (values value row) }

  abbrev pub state_of : List (List F) → LiveList → State
  state_of rs list = record { width = width; rows = map (values value) rs; list = list }

  pub view_next : (after : List (List F)) → after ≡ rows ++ row ∷ [] → (now : List (Generator F)) (next' : ℕ) →
      list_of value now next' ≡ step (map (values value) rows) (list_of value gens next) (values value row) →
      (old : State) → state_of rows (list_of value gens next) ≡ old → state_of after (list_of value now next') ≡ with_row old
  view_next after e now next' is old h = same ∙ ap with_row h
    where
      same : state_of after (list_of value now next') ≡ with_row (state_of rows (list_of value gens next))
      same = λ i. record { width = width; rows = rows_is after e i; list = is i }

  -- generators that were moved, from what was made aside
  module _ (made : Next F) (m : IsNext value (addition_of value rows row next) gens made) (before : List (Generator F)) (same : before ≡ gens) (vals : List F)
      (read : vals ≡ made.values) (now : List (Generator F)) where
    at_row : AreValuesAt value (values value row) before vals
    at_row = ap (map value) read ∙ m.at_row ∙ ap (λ gs. map (λ (g : Numbered). dot (values value row) g.vector) (live_of value gs)) (sym same)

    moving : IsMoving value (addition_of value rows row next) before vals made.sets
    moving = record {
      at_row = at_row;
      tight = subst (λ (gs : List (Generator F)). All (HasTightSet value (map (values value) rows)) gs) (sym same) k.tight;
      next = subst (λ (gs : List (Generator F)). AreNextSets value (addition_of value rows row next) gs made.sets) (sym same) m.sets;
    }

    pub moved_list : ((a : Addition) → IsMoving value a before vals made.sets →
        live_of value now ≡ staying a.row (live_of value before) ++ live_of value made.generators) →
        list_of value now made.next ≡ step (map (values value) rows) (list_of value gens next) (values value row)
    moved_list h = list_after value (addition_of value rows row next) gens made m now
        (h (addition_of value rows row next) moving ∙ ap (λ gs. staying (values value row) (live_of value gs) ++ live_of value made.generators) same)

    pub moved_tight : ((a : Addition) → IsMoving value a before vals made.sets → All (HasTightSet value (a.rows ++ a.row ∷ [])) made.generators →
        All (HasTightSet value (a.rows ++ a.row ∷ [])) now) →
        All (HasTightSet value (map (values value) rows ++ values value row ∷ [])) now
    moved_tight h = h (addition_of value rows row next) moving m.tight

    pub many_values : length vals ≡ length before
    many_values = one_each value (values value row) before vals at_row

    pub sets_for : AreSetsFor before made.sets
    sets_for = sets_fit value (addition_of value rows row next) before made.sets moving.next
