-- Generators that are sifted in place: those of the first places at which a row is not below 0 stand at the front, in their order.
use Rattle.std.proofs.Common.{◌≡◌, ℕ, ◌+◌, ◌<◌, ◌≤◌, List, [], ◌∷◌, ◌++◌, length, take, drop, get_or, All, Bool, true, false, cond, refl, sym, ap, ◌∙◌, subst, arith}
use Rattle.std.specs.Prelude.{not}
use Rattle.std.specs.List.{swap}
use Rattle.std.proofs.lemmas.List.{append-nil, drop_all, length-map, map-append}
use Rattle.std.proofs.lemmas.List.Edits.{length-swap}
use Rattle.std.proofs.lemmas.List.Elements.{All-nil, All-cons, All-append}
use Rattle.std.proofs.lemmas.Grind.{drop_more_same}
use Rattle.exact_field.specs.Rational.{ℚ, zero_ℚ, lt_ℚ}
use Rattle.exact_field.specs.Vector.{dot}
use Rattle.polyhedra.specs.LiveList.{Numbered, staying}
use Rattle.polyhedra.proofs.Lists.{drop_value}
use Rattle.polyhedra.proofs.Members.{listed}
use Rattle.double_descr.specs.Making.{AreValuesAt}
use Rattle.double_descr.specs.State.{HasTightSet, live_of, numbered_of}
use Rattle.double_descr.specs.Steps.{values}
use Rattle.double_descr.specs.declared.generator.Generator.{Generator}
use Rattle.double_descr.proofs.InPlace.{drop_swapped, here_is, item_here, swapped}
use Rattle.double_descr.proofs.MadePairs.{staying_on, value_at_index}
use Rattle.double_descr.proofs.SignTests.{at_least}

goes : (row : List ℚ) (m : Numbered) → lt_ℚ (dot row m.vector) zero_ℚ ≡ true → staying row (m ∷ []) ≡ []
goes row m h = ap (λ c. cond c (m ∷ []) []) (at_least (dot row m.vector) ∙ ap not h)

stays : (row : List ℚ) (m : Numbered) → lt_ℚ (dot row m.vector) zero_ℚ ≡ false → staying row (m ∷ []) ≡ m ∷ []
stays row m h = ap (λ c. cond c (m ∷ []) []) (at_least (dot row m.vector) ∙ ap not h)

-- of the generators at the start those of the first places are sifted, to so many that are kept
pub record IsSifted {F : Type 0} (value : F → ℚ) (vals : List F) (first now : List (Generator F)) (kept i : ℕ) : Type 0 where
  pub within : kept ≤ i
  pub many : length now ≡ length first
  pub rest : drop i now ≡ drop i first
  pub live : (row : List ℚ) → AreValuesAt value row first vals →
      live_of value (take kept now) ++ staying row (drop i (live_of value first)) ≡ staying row (live_of value first)
  pub tight : (rows : List (List ℚ)) → All (HasTightSet value rows) first → All (HasTightSet value rows) (take kept now)

module _ {F : Type 0} (value : F → ℚ) (vals : List F) (first : List (Generator F)) where
  pub none_sifted : IsSifted value vals first first 0 0
  none_sifted = record {
    within = omega arith;
    many = refl;
    rest = refl;
    live = λ row at. refl;
    tight = λ rows all. All-nil (HasTightSet value rows);
  }

  module _ (now : List (Generator F)) (kept i : ℕ) (h : IsSifted value vals first now kept i) where
    module _ (l : i < length first) (lv : i < length vals) (x : F) (read : x ≡ get_or vals i x) where
      -- the generator at the place is of the start, and has this value
      module _ (m : Generator F) (e : drop i first ≡ m ∷ drop (i + 1) first) where
        is : m ≡ get_or first i m
        is = here_is first i m l e

        in_numbers : drop i (live_of value first) ≡ numbered_of value m ∷ drop (i + 1) (live_of value first)
        in_numbers = drop_value (numbered_of value) first i m l is

        at_row : (row : List ℚ) → AreValuesAt value row first vals → (b : Bool) → lt_ℚ (value x) zero_ℚ ≡ b → lt_ℚ (dot row (values value m.vector.items)) zero_ℚ ≡ b
        at_row row at b t = ap (λ q. lt_ℚ q zero_ℚ) (sym (value_at_index value row first vals at i x m lv l read is)) ∙ t

        on : (row : List ℚ) → AreValuesAt value row first vals → (now' : List Numbered) →
            now' ≡ live_of value (take kept now) ++ staying row (numbered_of value m ∷ []) →
            now' ++ staying row (drop (i + 1) (live_of value first)) ≡ staying row (live_of value first)
        on row at now' n = staying_on row (numbered_of value m) (drop i (live_of value first)) (drop (i + 1) (live_of value first)) (live_of value (take kept now)) now'
            (staying row (live_of value first)) in_numbers n (h.live row at)

      pub one_kept : lt_ℚ (value x) zero_ℚ ≡ false → IsSifted value vals first (swap now kept i) (kept + 1) (i + 1)
      one_kept t =
          let inside : i < length now = omega (arith, h.many, l) in
          let item = swapped now kept i h.within inside in
          let m = item.0 in
          let e : drop i first ≡ m ∷ drop (i + 1) first = sym h.rest ∙ item.1 ∙ ap (λ r. m ∷ r) (drop_more_same now first i h.rest) in
          record {
            within = omega (arith, h.within);
            many = length-swap now kept i ∙ h.many;
            rest = drop_swapped now kept i h.within ∙ drop_more_same now first i h.rest;
            live = λ row at. on m e row at (live_of value (take (kept + 1) (swap now kept i)))
                (ap (live_of value) item.2 ∙ map-append (numbered_of value) (take kept now) (m ∷ [])
                ∙ ap (λ r. live_of value (take kept now) ++ r) (sym (stays row (numbered_of value m) (at_row m e row at false t))));
            tight = λ rows all. subst (λ (gs : List (Generator F)). All (HasTightSet value rows) gs) (sym item.2)
                (All-append (HasTightSet value rows) (take kept now) (m ∷ []) (h.tight rows all)
                (All-cons (HasTightSet value rows) m [] (listed (HasTightSet value rows) first i m all l (is m e)) (All-nil (HasTightSet value rows))));
          }

      pub one_dropped : lt_ℚ (value x) zero_ℚ ≡ true → IsSifted value vals first now kept (i + 1)
      one_dropped t =
          let item = item_here first i l in
          let m = item.0 in
          record {
            within = omega (arith, h.within);
            many = h.many;
            rest = drop_more_same now first i h.rest;
            live = λ row at. on m item.1 row at (live_of value (take kept now))
                (sym (ap (λ r. live_of value (take kept now) ++ r) (goes row (numbered_of value m) (at_row m item.1 row at true t)) ∙ append-nil (live_of value (take kept now))));
            tight = h.tight;
          }

    pub all_sifted : length first ≤ i → (row : List ℚ) → AreValuesAt value row first vals → live_of value (take kept now) ≡ staying row (live_of value first)
    all_sifted end row at =
        let none : drop i (live_of value first) ≡ [] = drop_all i (live_of value first) (omega (arith, end, length-map first (numbered_of value))) in
        sym (append-nil (live_of value (take kept now))) ∙ ap (λ r. live_of value (take kept now) ++ staying row r) (sym none) ∙ h.live row at
