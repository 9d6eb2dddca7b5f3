-- The first live generators, and the entry that names them.
use Rattle.std.specs.Prelude.{ℕ, suc, ◌*◌, ◌≡◌, Bool, List, [], ◌∷◌, ◌++◌, map, length, take, IsTrue}
use Rattle.std.specs.List.{range_with_len}
use Rattle.exact_field.specs.Rational.{ℚ}
use Rattle.lineality.specs.Without.{open_count, with_zeros}
use Rattle.polyhedra.specs.LiveList.{LiveList, starting, vectors}
use Rattle.polyhedra.specs.Vectors.{AreWide}
use Rattle.upper_image.specs.Spots.{pieces}
use Rattle.deriv_log.specs.Formed.{is_formed}
use Rattle.deriv_log.specs.declared.entry.Entry.{Entry}
use Rattle.deriv_log.specs.declared.entry.Entry.TheVariants.{Start}

-- n + 1 live generators of n + 1 entries, under the numbers from 1 on
pub record AreFirst (n : ℕ) (list : LiveList) : Type 0 where
  pub is : list ≡ starting 1 (vectors list.live)
  pub many : length (vectors list.live) ≡ suc n
  pub wide : AreWide (suc n) (vectors list.live)

-- the entries of a generator but its last one, with zeros at the places of lines
abbrev pub front_with : List Bool → List ℚ → List ℚ
front_with bs v = take (length bs) (with_zeros bs v)

-- one more entry, which can be written: a `start` with as many cuts from the first on as places are
-- open, and with the entries of these vectors but their last ones, and zeros at the other places, as
-- its point and its directions
pub record HasStart (bs : List Bool) (vs : List (List ℚ)) (old new : List Entry) : Type 0 where
  pub point : List ℚ
  pub directions : List ℚ
  pub appended : new ≡ old ++ Start (range_with_len 1 (open_count bs)) point directions ∷ []
  pub written : IsTrue (is_formed (Start (range_with_len 1 (open_count bs)) point directions))
  pub long : length directions ≡ open_count bs * length bs
  pub fronts : point ∷ pieces (open_count bs) (length bs) directions ≡ map (front_with bs) vs
