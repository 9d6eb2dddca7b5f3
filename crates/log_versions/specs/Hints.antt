-- Hints: for each opposite pair that an `addh` entry does not list, a third live generator that
-- covers it.
use Rattle.std.specs.Prelude.{◌≡◌, ℕ, ◌≤◌, ◌==◌, Bool, true, false, not, ◌&&◌, ◌||◌, nat_eq, nat_lt, IsTrue, List, [], ◌∷◌, map, filter, length, All, AllPairs, Contains, None, Some}
use Rattle.std.specs.List.{list_all, list_any}
use Rattle.exact_field.specs.Rational.{ℚ, zero_ℚ, lt_ℚ}
use Rattle.polyhedra.specs.DoubleDescription.{covers}
use Rattle.polyhedra.specs.LiveList.{Numbered, LivePair, products}
use Rattle.vlp_problem.specs.declared.problem.Problem.{Problem}
use Rattle.word_lines.specs.declared.part.LogPair.{LogPair}
use Rattle.log_rules.specs.Live.{State, value, find, cut_row, rows_in_use, required_pairs, log_pair}

-- each live generator with a positive value with each with a negative one, by rising plus and then
-- by rising minus
abbrev pub opposite_pairs : List Numbered → List ℚ → List LivePair
opposite_pairs live row =
    products (filter (λ g. lt_ℚ zero_ℚ (value row g)) live)
    (filter (λ g. lt_ℚ (value row g) zero_ℚ) live)

-- the numbers of a pair
abbrev pub named_pair : LivePair → LogPair
named_pair pair = log_pair (pair.plus_side.number, pair.minus_side.number)

-- whether two pairs are one
abbrev pub same_pair : LogPair → LogPair → Bool
same_pair p r = p.plus == r.plus && p.minus == r.minus

-- the log lists the pair
abbrev pub lists : List LogPair → LogPair → Bool
lists pairs pair = list_any (same_pair pair) pairs

-- the opposite pairs that are not listed
abbrev pub unlisted : List Numbered → List ℚ → List LogPair → List LivePair
unlisted live row pairs =
    filter (λ pair. not (lists pairs (named_pair pair))) (opposite_pairs live row)

-- the first pair comes before the second
abbrev pub pair_before : LogPair → LogPair → Bool
pair_before p r = nat_lt p.plus r.plus || p.plus == r.plus && nat_lt p.minus r.minus

-- the pairs rise
abbrev pub pairs_rise : List LogPair → Bool
pairs_rise [] = true
pairs_rise (p ∷ ps) = list_all (pair_before p) ps && pairs_rise ps

-- the generator number k is a live one other than the two, and covers them
abbrev pub is_hint : List (List ℚ) → List Numbered → LivePair → ℕ → Bool
is_hint rows live pair k =
    elim (find live k) [
      | Some g ↦ not (nat_eq g.number pair.plus_side.number)
          && not (nat_eq g.number pair.minus_side.number)
          && covers rows pair.plus_side.vector pair.minus_side.vector g.vector
      | None ↦ false
    ]

-- as many hints as pairs, each for its own
abbrev pub are_hints : List (List ℚ) → List Numbered → List LivePair → List ℕ → Bool
are_hints rows live [] [] = true
are_hints rows live [] (k ∷ hints) = false
are_hints rows live (pair ∷ pairs) [] = false
are_hints rows live (pair ∷ pairs) (k ∷ hints) =
    is_hint rows live pair k && are_hints rows live pairs hints

-- the least generator that covers a pair, as hints have it; 0 where none does
abbrev pub first_cover : List (List ℚ) → LivePair → List Numbered → ℕ
first_cover rows pair [] = 0
first_cover rows pair (g ∷ live) =
    elim (not (nat_eq g.number pair.plus_side.number)
    && not (nat_eq g.number pair.minus_side.number)
    && covers rows pair.plus_side.vector pair.minus_side.vector g.vector) [
      | true ↦ g.number
      | false ↦ first_cover rows pair live
    ]

-- the hints that an upgrade gives: for each opposite pair that is not listed the least generator
-- that covers it
abbrev pub least_hints : List (List ℚ) → List Numbered → List ℚ → List LogPair → List ℕ
least_hints rows live row pairs = map (λ pair. first_cover rows pair live) (unlisted live row pairs)

-- ---- the rules of `addh`
-- a cut that comes into use, with pairs that are required, and a hint for each opposite pair that
-- is not listed
pub record MeetsAddHints
    (file : Problem) (s : State) (cut : ℕ) (pairs : List LogPair) (hints : List ℕ) : Type 0 where
  pub exists : (1 ≤ cut) × (cut ≤ length s.cuts)
  pub unused : Contains s.used cut → ⊥
  pub rise : AllPairs (λ p r. IsTrue (pair_before p r)) pairs
  pub required : All (λ pair.
      Contains (required_pairs (rows_in_use file.objs s) s.list.live (cut_row s cut)) pair) pairs
  pub covered : are_hints (rows_in_use file.objs s) s.list.live
      (unlisted s.list.live (cut_row s cut) pairs) hints ≡ true
