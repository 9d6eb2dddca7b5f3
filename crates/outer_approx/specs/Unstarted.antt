-- Logs of the two answers that need no start.
use Rattle.std.specs.Prelude.{◌≡◌, ℕ, List, [], ◌∷◌}
use Rattle.exact_field.specs.Rational.{ℚ}
use Rattle.frac128.specs.declared.vectors.Spot.{Spot}
use Rattle.vlp_problem.specs.declared.problem.Problem.{Problem}
use Rattle.upper_image.specs.Shows.{ShowsFitting}
use Rattle.upper_image.specs.Spots.{dense}
use Rattle.word_lines.specs.declared.part.EndKind.TheVariants as kind
use Rattle.deriv_log.specs.declared.entry.Entry.{Entry}
use Rattle.deriv_log.specs.declared.entry.Entry.TheVariants.{Version, Duality, Farkas, Whole, End}
use Rattle.log_rules.specs.Meets.{MeetsWhole}
use Rattle.overflows.specs.Base.{IsBaseChoice}
use Rattle.overflows.specs.Trails.{IsBaseDuality, IsBaseWhole}

-- a log that no point is feasible, by these multipliers of the sides
abbrev pub infeasible_entries : List Spot → List Entry
infeasible_entries u = Version 1 ∷ Farkas u ∷ End kind.Infeasible ∷ []

-- a log that the image is everything, by a feasible point and a pre-image of the direction -c, where `opening` is the duality entry
abbrev pub whole_entries : (opening : Entry) (x ray m : List Spot) → List Entry
whole_entries opening x ray m = Version 1 ∷ opening ∷ Whole x ray m ∷ End kind.Whole ∷ []

-- opening is a duality entry of c and the weights that fits the file, and x, ray and m meet the rules of `whole` at c
pub record ShowsWhole (file : Problem) (c weights : List ℚ) (opening : Entry) (x ray m : List Spot) : Type 0 where
  pub picks : List ℕ
  pub inverse : List ℚ
  pub opens : opening ≡ Duality c weights picks inverse
  pub fits : ShowsFitting file c weights picks inverse
  pub rules : MeetsWhole file c x ray m

-- c and the weights, x, and ray with m are those of a base trail
pub record IsReadWhole (file : Problem) (c weights : List ℚ) (x ray m : List Spot) : Type 0 where
  pub duality : IsBaseDuality file file.cone file.duality c weights
  pub choice : IsBaseChoice file (dense file.cols x)
  pub whole : IsBaseWhole file c ray m
