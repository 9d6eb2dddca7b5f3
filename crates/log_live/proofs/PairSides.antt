-- The two generators of a live pair, as they are found by their numbers.
use Rattle.std.proofs.Common.{◌≡◌, ◌≢◌, ℕ, ◌<◌, List, sym, ap, ◌∙◌, subst, AllPairs, Contains, Some}
use Rattle.std.proofs.lemmas.Option.{same_Some}
use Rattle.exact_field.specs.Rational.{ℚ, zero_ℚ, neg_ℚ, ◌<ℚ◌}
use Rattle.exact_field.specs.Vector.{dot}
use Rattle.polyhedra.specs.LiveList.{Numbered, LivePair, vectors, live_pairs}
use Rattle.polyhedra.proofs.Members.{Contains-map, pairs-map}
use Rattle.polyhedra.proofs.Order.{neg_positive, not_zero_of_positive}
use Rattle.word_lines.specs.declared.part.LogPair.{LogPair}
use Rattle.log_rules.specs.Live.{find}
use Rattle.log_rules.proofs.Kept.{Earlier, find_is}
use Rattle.log_live.specs.Adding.{pair_named}
use Rattle.log_live.specs.Live.{numbered_of, live_of}
use Rattle.log_live.specs.declared.generator.Generator.{Generator}
use Rattle.log_live.proofs.LivePairs.{IsParted, parted}

-- the negative of a negative number is not 0
pub negative_is_not : (x y : ℚ) → x <ℚ zero_ℚ → y ≡ x → neg_ℚ y ≢ zero_ℚ
negative_is_not x y down is e = not_zero_of_positive (neg_ℚ x) (neg_positive x down) (sym (ap neg_ℚ is) ∙ e)

pub vector_listed : (gens : List Generator) (h : Generator) → Contains gens h → Contains (vectors (live_of gens)) h.vector
vector_listed gens h c = Contains-map (λ (n : Numbered). n.vector) (live_of gens) (numbered_of h) (Contains-map numbered_of gens h c)

-- a live generator is found
is_found : (gens : List Generator) → AllPairs (λ g h. g.number < h.number) gens → (g : Numbered) (k : ℕ) → Contains (live_of gens) g → k ≡ g.number →
    find (live_of gens) k ≡ Some g
is_found gens rises g k c e = find_is (live_of gens) k g (pairs-map Earlier numbered_of gens rises) c (sym e)

-- the two are those of the pair: the row is positive at the first, and negative at the second
pub record AreSides (row : List ℚ) (named : LivePair) (g m : Generator) : Type 0 where
  pub plus_is : numbered_of g ≡ named.plus_side
  pub minus_is : numbered_of m ≡ named.minus_side
  pub up : zero_ℚ <ℚ dot row g.vector
  pub down : dot row m.vector <ℚ zero_ℚ

module _ (rows : List (List ℚ)) (row : List ℚ) (gens : List Generator) (rises : AllPairs (λ g h. g.number < h.number) gens)
    (named : LivePair) (listed : Contains (live_pairs rows (live_of gens) row) named) (pair : LogPair) (named_is : pair ≡ pair_named named) where
  pub two : IsParted (live_of gens) row named
  two = parted rows (live_of gens) row named listed

  pub find_plus : find (live_of gens) pair.plus ≡ Some named.plus_side
  find_plus = is_found gens rises named.plus_side pair.plus two.plus (ap (λ (p : LogPair). p.plus) named_is)

  pub find_minus : find (live_of gens) pair.minus ≡ Some named.minus_side
  find_minus = is_found gens rises named.minus_side pair.minus two.minus (ap (λ (p : LogPair). p.minus) named_is)

  -- the generators that were read at the places that were found
  pub sides : (g m : Generator) → find (live_of gens) pair.plus ≡ Some (numbered_of g) → find (live_of gens) pair.minus ≡ Some (numbered_of m) →
      AreSides row named g m
  sides g m g_is m_is =
      let plus_is : numbered_of g ≡ named.plus_side = same_Some (numbered_of g) named.plus_side (sym g_is ∙ find_plus) in
      let minus_is : numbered_of m ≡ named.minus_side = same_Some (numbered_of m) named.minus_side (sym m_is ∙ find_minus) in
      record {
        plus_is = plus_is;
        minus_is = minus_is;
        up = subst (λ (h : Numbered). zero_ℚ <ℚ dot row h.vector) (sym plus_is) two.up;
        down = subst (λ (h : Numbered). dot row h.vector <ℚ zero_ℚ) (sym minus_is) two.down;
      }
