-- Overflows of the addition of a row to a double description of rows of the text.
use Rattle.std.proofs.Common.{◌≡◌, ℕ, suc, ◌+◌, ◌-◌, ◌<◌, List, [], ◌∷◌, ◌++◌, length, map, All, Bool, Contains, refl, sym, ap, ap₂, ◌∙◌, subst, arith, ◌⊎◌, inl, inr, slice_get, Some}
use Rattle.std.specs.Prelude.{IsFalse}
use Rattle.std.proofs.lemmas.List.{length-map, map-append}
use Rattle.std.proofs.lemmas.List.Elements.{Contains-append_cases, Contains-append_right, Contains-get_or}
use Rattle.exact_field.specs.Field.{exact}
use Rattle.exact_field.specs.Rational.{ℚ}
use Rattle.exact_field.specs.declared.op.Op.{Op}
use Rattle.exact_field.specs.declared.op.Left.{Left}
use Rattle.frac128.specs.Held.{is_held, held_zero}
use Rattle.polyhedra.specs.LiveList.{LiveList, live_pairs}
use Rattle.polyhedra.proofs.Lists.{Contains-here}
use Rattle.polyhedra.proofs.Members.{Contains-map_source, all_of_members, member_of}
use Rattle.lineality.specs.Without.{without}
use Rattle.double_descr.specs.Adding.{Block, IsAddFault, IsFault, add_blocks, pair_block, pair_blocks, value_block}
use Rattle.double_descr.specs.State.{State as Description}
use Rattle.double_descr.specs.Steps.{IsFirst, Step}
use Rattle.double_descr.specs.declared.fault.DdFault.{DdFault}
use Rattle.double_descr.specs.declared.fault.DdFault.TheVariants as description
use Rattle.deriv_log.specs.declared.licence.Family.TheVariants.{Rep as RowsOfRep}
use Rattle.deriv_log.specs.declared.licence.Licence.{Licence}
use Rattle.deriv_log.specs.declared.licence.Place.TheVariants.{Pair}
use Rattle.log_rules.specs.Events.{Event}
use Rattle.log_rules.specs.Events.Event.{step}
use Rattle.overflows.specs.Generators.{IsMadeOver, IsPairStep}
use Rattle.overflows.specs.Steps.{IsNumbered, in_numbers, operation, pair_steps, value_steps}
use Rattle.overflows.proofs.Given.{not_held}
use Rattle.overflows.specs.Told.{IsAdditionLeft}
use Rattle.overflows.specs.declared.fault.SolveFault.{SolveFault}
use Rattle.overflows.specs.declared.fault.SolveFault.TheVariants as solving
use Rattle.overflows.proofs.Events.{event_of, pair_events, value_events}
use Rattle.rep_conv.specs.Live.{rows_in_use, state}
use Rattle.rep_conv.specs.Rows.{row_at, text_rows}
use Rattle.rep_text.specs.declared.conv.ConvEntry.{ConvEntry}
use Rattle.rep_text.specs.declared.rep.Rep.{Rep}
use Rattle.rep_convert.specs.Licensed.{AreInUse, IsAdditionStep, IsConvLeft, IsFaultOf}
use Rattle.rep_convert.specs.Standing.{StandsAt, line_places}
use Rattle.rep_convert.specs.declared.fault.ConvFault.{ConvFault}
use Rattle.rep_convert.specs.declared.fault.ConvFault.TheVariants as converting

-- ---- steps by their numbers
same_operation : (o o' : Op) (a a' b b' : ℚ) → o ≡ o' → a ≡ a' → b ≡ b' → operation o a b ≡ operation o' a' b'
same_operation o o' a a' b b' e f g = cc

event_after : (done rest : List Event) (e : Event) → slice_get (done ++ e ∷ rest) (length done) ≡ Some e
event_after [] rest e = refl
event_after (d ∷ done) rest e = event_after done rest e

numbered : (steps done rest : List Event) (o : Op) (a b : ℚ) → steps ≡ done ++ step o a b ∷ rest → IsNumbered steps (suc (length done)) (operation o a b)
numbered steps done rest o a b same = record {
  from_one = omega arith;
  there =
      let place : suc (length done) - 1 ≡ length done = omega arith in
      ap (slice_get steps) place ∙ ap (λ (es : List Event). slice_get es (length done)) same ∙ event_after done rest (step o a b);
}

module _ {F : Type 0} (value : F → ℚ) (holds : ℚ → Bool) where
  -- the first step of a block that is not held, as an event
  record IsEventLeft (events : List Event) (number : ℕ) (left : Left F) : Type 0 where
    is_numbered : IsNumbered events number (in_numbers value left)
    fails : IsFalse (holds (exact left.op (value left.a) (value left.b)))

  event_left : (steps : List Step) (number : ℕ) (left : Left F) (events : List Event) → map event_of steps ≡ events → IsFirst value holds steps number left →
      IsEventLeft events number left
  event_left steps number left events same h =
      let here : in_numbers value left ≡ operation h.step.op h.step.a h.step.b =
      same_operation left.op h.step.op (value left.a) h.step.a (value left.b) h.step.b h.left_is.0 h.left_is.1 h.left_is.2 in
      let long : length (map event_of h.before) ≡ length h.before = length-map h.before event_of in
      let count : suc (length (map event_of h.before)) ≡ number = let k : number ≡ length h.before + 1 = h.numbered in omega (arith, k, long) in
      let is : IsNumbered events (suc (length (map event_of h.before))) (operation h.step.op h.step.a h.step.b) =
      numbered events (map event_of h.before) (map event_of h.after) h.step.op h.step.a h.step.b
      (sym same ∙ ap (map event_of) h.split ∙ map-append event_of h.before (h.step ∷ h.after)) in
      record {
        is_numbered = subst (λ (n : ℕ). IsNumbered events n (in_numbers value left)) count
            (subst (λ (l : Left ℚ). IsNumbered events (suc (length (map event_of h.before))) l) (sym here) is);
        fails = subst (λ (l : Left ℚ). IsFalse (holds (exact l.op l.a l.b))) (sym here) h.left_is.3;
      }

  module _ (before : List (List ℚ)) (last : List ℚ) (list : LiveList) (first second number : ℕ) (left : Left F) where
    -- a step of the addition that is not held
    record IsLeftStep : Type 0 where
      pub operands : IsPairStep before last list first second number (in_numbers value left)
      pub fails : IsFalse (holds (exact left.op (value left.a) (value left.b)))

    of_block : (block : Block) → Contains (map (value_block last) list.live) block ⊎ Contains (pair_blocks before list.live last) block →
        IsFault value holds block (description.Left first second number left) → IsLeftStep
    of_block block (inl listed) fault =
        let g = Contains-map_source (value_block last) list.live block listed in
        let h : IsFault value holds (value_block last g.0) (description.Left first second number left) =
        subst (λ (b : Block). IsFault value holds b (description.Left first second number left)) (sym g.2) fault in
        let e = event_left (value_block last g.0).steps number left (value_steps last g.0.vector) (value_events last g.0.vector) h.2 in
        record { operands = IsPairStep.value g.0 g.1 h.0 h.1 e.is_numbered; fails = e.fails }
    of_block block (inr listed) fault =
        let pair = Contains-map_source (pair_block last) (live_pairs before list.live last) block listed in
        let h : IsFault value holds (pair_block last pair.0) (description.Left first second number left) =
        subst (λ (b : Block). IsFault value holds b (description.Left first second number left)) (sym pair.2) fault in
        let e = event_left (pair_block last pair.0).steps number left (pair_steps last pair.0.plus_side.vector pair.0.minus_side.vector)
        (pair_events last pair.0.plus_side.vector pair.0.minus_side.vector) h.2 in
        record { operands = IsPairStep.pair pair.0 pair.1 h.0 h.1 e.is_numbered; fails = e.fails }

    left_step : IsAddFault value holds (add_blocks before list.live last) (description.Left first second number left) → IsLeftStep
    left_step h = of_block h.block
        (Contains-append_cases (map (value_block last) list.live) (pair_blocks before list.live last) h.block
        (subst (λ (bs : List Block). Contains bs h.block) (sym h.split)
        (Contains-append_right h.before (h.block ∷ h.after) h.block (Contains-here h.block h.after h.block refl))))
        h.here

-- ---- rows of the text
row_listed : (rep : Rep) (k : ℕ) → k < length (text_rows rep) → Contains (text_rows rep) (row_at rep k)
row_listed rep k l = Contains-get_or (text_rows rep) k [] l

module _ (rep : Rep) (log : List ConvEntry) (dd : Description) (h : StandsAt rep log dd) (used_exist : All (λ k. k < length (text_rows rep)) (state rep log).used)
    (k : ℕ) (exists : k < length (text_rows rep)) (short : List ℚ) (short_is : short ≡ without (line_places rep log) (row_at rep k)) where
  abbrev bs : List Bool
  bs = line_places rep log

  abbrev used_rows : List (List ℚ)
  used_rows = rows_in_use rep (state rep log)

  used_listed : All (Contains (text_rows rep)) used_rows
  used_listed = all_of_members (Contains (text_rows rep)) used_rows (λ r c.
      let source = Contains-map_source (row_at rep) (state rep log).used r c in
      subst (Contains (text_rows rep)) source.2
      (row_listed rep source.0 (member_of (λ j. j < length (text_rows rep)) (state rep log).used source.0 used_exist source.1)))

  in_use : AreInUse rep (state rep log).lines used_rows dd.list
  in_use = record {
    lines_are = h.lines;
    of_text = used_listed;
    made = subst (λ (n : ℕ). IsMadeOver n (map (without bs) used_rows) dd.list) h.width
        (subst (λ (rows : List (List ℚ)). IsMadeOver dd.width rows dd.list) h.rows h.made);
  }

  module _ {F : Type 0} (value : F → ℚ) (first second number : ℕ) (left : Left F)
      (fault : IsAddFault value is_held (add_blocks dd.rows dd.list.live short) (description.Left first second number left)) where
    is_left : IsLeftStep value is_held dd.rows short dd.list first second number left
    is_left = left_step value is_held dd.rows short dd.list first second number left fault

    addition : IsAdditionStep rep (dd.rows ++ short ∷ []) first second number (in_numbers value left)
    addition = record {
      lines = (state rep log).lines;
      used = used_rows;
      list = dd.list;
      in_use = in_use;
      row = row_at rep k;
      added = row_listed rep k exists;
      rows_are = ap₂ (λ (rows : List (List ℚ)) (r : List ℚ). rows ++ r ∷ []) h.rows short_is;
      operands = subst (λ (r : List ℚ). IsPairStep (map (without bs) used_rows) r dd.list first second number (in_numbers value left)) short_is
          (subst (λ (rows : List (List ℚ)). IsPairStep rows short dd.list first second number (in_numbers value left)) h.rows is_left.operands);
    }

    licensed : (licence : Licence) →
        licence ≡ record { place = Pair RowsOfRep (dd.rows ++ short ∷ []) first second number; left = in_numbers value left; trail = [] } →
        IsConvLeft is_held rep (converting.Left licence)
    licensed licence is = subst (λ (l : Licence). IsConvLeft is_held rep (converting.Left l)) (sym is) (record {
      trail = refl;
      not_held = not_held is_held (in_numbers value left) held_zero is_left.fails;
      operands = addition;
    })

  -- the addition of a row of the text that is given up has a licence
  pub addition_left : {F : Type 0} (value : F → ℚ) (fault : DdFault F) (told : SolveFault) (c : ConvFault) →
      IsAddFault value is_held (add_blocks dd.rows dd.list.live short) fault → IsAdditionLeft value RowsOfRep dd.rows short fault told → IsFaultOf told c →
      IsConvLeft is_held rep c
  addition_left value (description.Left first second number left) (solving.Left licence) c f t e =
      subst (IsConvLeft is_held rep) (sym e) (licensed value first second number left f licence t)
  addition_left value (description.Left first second number left) solving.NoMemory c f t e = subst (IsConvLeft is_held rep) (sym e) tt
  addition_left value (description.Elim fault) told c f t e = absurd f
  addition_left value description.NoMemory told c f t e =
      subst (IsConvLeft is_held rep) (sym (subst (λ (s : SolveFault). IsFaultOf s c) t e)) tt
