-- Overflows of additions of rows, in any setting where the rows may be added.
use Rattle.std.proofs.Common.{◌≡◌, ℕ, suc, ◌+◌, List, [], ◌∷◌, ◌++◌, length, map, Bool, IsTrue, refl, sym, ap, ◌∙◌, subst, arith, ◌⊎◌, inl, inr}
use Rattle.std.specs.Prelude.{IsFalse, Contains}
use Rattle.std.proofs.lemmas.List.{length-map, map-append}
use Rattle.std.proofs.lemmas.List.Elements.{Contains-append_cases, Contains-append_right}
use Rattle.exact_field.specs.Field.{exact}
use Rattle.exact_field.specs.Rational.{ℚ, zero_ℚ}
use Rattle.exact_field.specs.declared.op.Op.{Op}
use Rattle.exact_field.specs.declared.op.Left.{Left}
use Rattle.polyhedra.specs.LiveList.{Numbered, LiveList, LivePair, live_pairs}
use Rattle.polyhedra.proofs.Lists.{Contains-here}
use Rattle.polyhedra.proofs.Members.{Contains-map_source}
use Rattle.double_descr.specs.Adding.{Block, IsAddFault, IsFault, add_blocks, value_block, pair_block, pair_blocks}
use Rattle.double_descr.specs.Steps.{Step, IsFirst}
use Rattle.double_descr.specs.declared.fault.DdFault.TheVariants.{Left as Adding}
use Rattle.deriv_log.specs.declared.licence.Family.{Family}
use Rattle.deriv_log.specs.declared.licence.Place.TheVariants.{Pair}
use Rattle.log_rules.specs.Events.{Event}
use Rattle.log_rules.specs.Events.Event.{step}
use Rattle.overflows.specs.Generators.{IsAddition}
use Rattle.overflows.specs.Licence.{IsOverflow}
use Rattle.overflows.specs.Settings.{Setting}
use Rattle.overflows.specs.Steps.{in_numbers, operation, value_steps, pair_steps}
use Rattle.overflows.proofs.Given.{overflow_laws, same_operation}
use Rattle.overflows.specs.Faults.{IsLeftAt, Overflows}
use Rattle.overflows.specs.declared.fault.SolveFault.{SolveFault}
use Rattle.overflows.proofs.Events.{event_of, value_events, pair_events}
use Rattle.overflows.proofs.Starts.{left_overflows}

module _ {F : Type 0} (value : F → ℚ) (holds : ℚ → Bool) (zero : IsTrue (holds zero_ℚ)) (s : Setting) (family : Family) where
  abbrev over : (rows : List (List ℚ)) → ℕ → ℕ → ℕ → Left ℚ → Type 0
  over rows first second number left = IsOverflow holds s (Pair family rows first second number) left

  moved : (rows : List (List ℚ)) (first second number first' second' number' : ℕ) (left left' : Left ℚ) → first ≡ first' → second ≡ second' →
      number ≡ number' → left ≡ left' → over rows first' second' number' left' → over rows first second number left
  moved rows first second number first' second' number' left left' e f g h o =
      subst (λ (k : ℕ). over rows k second number left) (sym e)
      (subst (λ (k : ℕ). over rows first' k number left) (sym f)
      (subst (λ (k : ℕ). over rows first' second' k left) (sym g)
      (subst (λ (l : Left ℚ). over rows first' second' number' l) (sym h) o)))

  -- the first step of a block that is not held, as an event
  pub record IsEventLeft (events : List Event) (number : ℕ) (left : Left F) : Type 0 where
    pub done : List Event
    pub rest : List Event
    pub op : Op
    pub a : ℚ
    pub b : ℚ
    pub split : events ≡ done ++ step op a b ∷ rest
    pub not_held : IsFalse (holds (exact op a b))
    pub numbered : number ≡ suc (length done)
    pub same : in_numbers value left ≡ operation op a b

  event_left : (steps : List Step) (number : ℕ) (left : Left F) (events : List Event) → map event_of steps ≡ events → IsFirst value holds steps number left →
      IsEventLeft events number left
  event_left steps number left events same h = record {
    done = map event_of h.before;
    rest = map event_of h.after;
    op = h.step.op;
    a = h.step.a;
    b = h.step.b;
    split = sym same ∙ ap (map event_of) h.split ∙ map-append event_of h.before (h.step ∷ h.after);
    not_held = h.left_is.3;
    numbered = let long : length (map event_of h.before) ≡ length h.before = length-map h.before event_of in
        let k : number ≡ length h.before + 1 = h.numbered in omega arith;
    same = same_operation left.op h.step.op (value left.a) h.step.a (value left.b) h.step.b h.left_is.0 h.left_is.1 h.left_is.2;
  }

  module _ (before : List (List ℚ)) (last : List ℚ) (list : LiveList) (addition : IsAddition s before last list family) where
    abbrev rows : List (List ℚ)
    rows = before ++ last ∷ []

    of_value : (g : Numbered) (first second number : ℕ) (left : Left F) → Contains list.live g → IsFault value holds (value_block last g) (Adding first second number left) →
        over rows first second number (in_numbers value left)
    of_value g first second number left live h =
        let e = event_left (value_block last g).steps number left (value_steps last g.vector) (value_events last g.vector) h.2 in
        moved rows first second number g.number 0 (suc (length e.done)) (in_numbers value left) (operation e.op e.a e.b) h.0 h.1 e.numbered e.same
        (overflow_laws.value holds s family before last list g e.done e.rest e.op e.a e.b zero addition live e.split e.not_held)

    of_pair : (pair : LivePair) (first second number : ℕ) (left : Left F) → Contains (live_pairs before list.live last) pair →
        IsFault value holds (pair_block last pair) (Adding first second number left) → over rows first second number (in_numbers value left)
    of_pair pair first second number left live h =
        let e = event_left (pair_block last pair).steps number left (pair_steps last pair.plus_side.vector pair.minus_side.vector)
        (pair_events last pair.plus_side.vector pair.minus_side.vector) h.2 in
        moved rows first second number pair.plus_side.number pair.minus_side.number (suc (length e.done)) (in_numbers value left) (operation e.op e.a e.b) h.0 h.1 e.numbered e.same
        (overflow_laws.pair holds s family before last list pair e.done e.rest e.op e.a e.b zero addition live e.split e.not_held)

    of_block : (block : Block) (first second number : ℕ) (left : Left F) → Contains (map (value_block last) list.live) block ⊎ Contains (pair_blocks before list.live last) block →
        IsFault value holds block (Adding first second number left) → over rows first second number (in_numbers value left)
    of_block block first second number left (inl listed) h =
        let g = Contains-map_source (value_block last) list.live block listed in
        of_value g.0 first second number left g.1 (subst (λ (b : Block). IsFault value holds b (Adding first second number left)) (sym g.2) h)
    of_block block first second number left (inr listed) h =
        let pair = Contains-map_source (pair_block last) (live_pairs before list.live last) block listed in
        of_pair pair.0 first second number left pair.1 (subst (λ (b : Block). IsFault value holds b (Adding first second number left)) (sym pair.2) h)

    addition_over : (first second number : ℕ) (left : Left F) → IsAddFault value holds (add_blocks before list.live last) (Adding first second number left) →
        over rows first second number (in_numbers value left)
    addition_over first second number left h = of_block h.block first second number left
        (Contains-append_cases (map (value_block last) list.live) (pair_blocks before list.live last) h.block
        (subst (λ (bs : List Block). Contains bs h.block) (sym h.split) (Contains-append_right h.before (h.block ∷ h.after) h.block (Contains-here h.block h.after h.block refl))))
        h.here

    -- of the addition of a row to a double description
    pub addition_overflows : (first second number : ℕ) (left : Left F) (told : SolveFault) →
        IsAddFault value holds (add_blocks before list.live last) (Adding first second number left) →
        IsLeftAt (Pair family rows first second number) (in_numbers value left) [] told → Overflows holds s [] told
    addition_overflows first second number left told h is =
        left_overflows holds s (Pair family rows first second number) (in_numbers value left) [] told is (addition_over first second number left h)
