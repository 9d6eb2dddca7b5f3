-- One walk along the opposite pairs tells whether the listed pairs are right, and whether the hints
-- are.
use Rattle.std.specs.Prelude.{◌≡◌, ℕ, Bool, true, false, ◌&&◌, if◌then◌else◌, List, [], ◌∷◌, drop, Option, None, Some}
use Rattle.std.specs.List.{list_all}
use Rattle.exact_field.specs.Rational.{ℚ}
use Rattle.polyhedra.specs.LiveList.{Numbered, LiveList, LivePair, IsRising, is_uncovered_live}
use Rattle.word_lines.specs.declared.part.LogPair.{LogPair}
use Rattle.log_rules.specs.Live.{required_pairs}
use Rattle.log_versions.specs.Hints.{opposite_pairs, named_pair, same_pair, lists, unlisted, pairs_rise, is_hint, are_hints}

-- what is left of the pairs and of the hints, and whether the hints were right so far
pub record Walked : Type 0 where
  pub pairs : List LogPair
  pub hints : List ℕ
  pub right : Bool

-- the pair is the next listed one
abbrev pub is_next : List LogPair → LogPair → Bool
is_next [] pair = false
is_next (p ∷ pairs) pair = same_pair p pair

-- the next hint is one for the pair
abbrev pub next_covers : List (List ℚ) → List Numbered → LivePair → List ℕ → Bool
next_covers rows live pair [] = false
next_covers rows live pair (k ∷ hints) = is_hint rows live pair k

-- along some opposite pairs: a listed one must be covered by no third generator, or the walk ends;
-- each other one takes a hint
abbrev pub walk :
    List (List ℚ) → List Numbered → List LivePair → List LogPair → List ℕ → Bool → Option Walked
walk rows live [] pairs hints right = Some (record { pairs = pairs; hints = hints; right = right })
walk rows live (o ∷ opposite) pairs hints right =
    if is_next pairs (named_pair o)
    then (if is_uncovered_live rows live o
    then walk rows live opposite (drop 1 pairs) hints right else None)
    else walk rows live opposite pairs (drop 1 hints) (right && next_covers rows live o hints)

-- no pair is left
abbrev pub all_listed : Option Walked → Bool
all_listed None = false
all_listed (Some w) = elim w.pairs [ [] ↦ true | p ∷ ps ↦ false ]

-- no hint is left, and all were right
abbrev pub all_hinted : Option Walked → Bool
all_hinted None = false
all_hinted (Some w) = w.right && elim w.hints [ [] ↦ true | k ∷ ks ↦ false ]

-- the walk tells whether the pairs rise and are required, and where they are, whether each pair
-- that is not listed has its hint
pub record Decides
    (rows : List (List ℚ)) (live : List Numbered) (row : List ℚ) (pairs : List LogPair)
    (hints : List ℕ) : Type 0 where
  pub listed : all_listed (walk rows live (opposite_pairs live row) pairs hints true)
      ≡ (pairs_rise pairs && list_all (lists (required_pairs rows live row)) pairs)
  pub hinted : all_listed (walk rows live (opposite_pairs live row) pairs hints true) ≡ true →
      all_hinted (walk rows live (opposite_pairs live row) pairs hints true)
      ≡ are_hints rows live (unlisted live row pairs) hints

-- so it does where the numbers of the live generators rise
abbrev pub WalkDecides : Type 0
WalkDecides = (rows : List (List ℚ)) (list : LiveList) (row : List ℚ) (pairs : List LogPair)
    (hints : List ℕ) → IsRising list → Decides rows list.live row pairs hints
