-- What is found after some cuts and lines, fewer than there are objectives: one more cut, whose
-- normal is independent of theirs, or one more line.
use Rattle.std.specs.Prelude.{ℕ, ◌≡◌, ◌≢◌, ◌<◌, ◌≤◌, ⊤, List, [], ◌∷◌, map, length, All}
use Rattle.exact_field.specs.Rational.{ℚ, zero_ℚ}
use Rattle.exact_field.specs.Vector.{dot, entry}
use Rattle.lineality.specs.Lines.{AreEchelon, IsCombined, leading_place}
use Rattle.deriv_log.specs.declared.entry.Entry.{Entry}
use Rattle.overflows.specs.Base.{IsSide}
use Rattle.lp_form.specs.declared.shown.Cut.{Cut as CutOf}
use Rattle.outer_approx.specs.Cuts.{IsCutFor, SaysCut}
use Rattle.outer_approx.specs.Lines.{RunsBothWays, told_by}
use Rattle.outer_approx.specs.Task.{Task}
use Rattle.outer_approx.specs.declared.log.Line.{Line as LineOf}
use Rattle.recession.specs.declared.further.Next.{Next}
use Rattle.recession.specs.declared.further.Next.TheVariants.{Cut, Line}

-- the normals of cuts, in their order
abbrev pub normals_of : {F : Type 0} → (F → ℚ) → List (CutOf F) → List (List ℚ)
normals_of value cuts = map (λ cut. map value cut.w) cuts

-- w is not 0 at some vector at which each of the normals is
pub record IsOffAcross (q : ℕ) (normals : List (List ℚ)) (w : List ℚ) : Type 0 where
  pub d : List ℚ
  pub wide : length d ≡ q
  pub across : All (λ n. dot n d ≡ zero_ℚ) normals
  pub off : dot w d ≢ zero_ℚ

-- the first entries of y up to the place before k are 0
abbrev pub IsZeroBefore : ℕ → List ℚ → Type 0
IsZeroBefore k y = (i : ℕ) → 1 ≤ i → i < k → entry y i ≡ zero_ℚ

-- the vectors are the last ones of the complement of the normals: they are in reduced echelon form
-- and have the product 0 with each normal, and each vector that has, and is 0 before the first
-- one's place, is a combination of them
pub record AreTail (q : ℕ) (normals vs : List (List ℚ)) : Type 0 where
  pub echelon : AreEchelon q vs
  pub orthogonal : All (λ v. All (λ n. dot n v ≡ zero_ℚ) normals) vs
  pub spans : (d : List ℚ) (others : List (List ℚ)) → vs ≡ d ∷ others → (y : List ℚ) → length y ≡ q →
      All (λ n. dot n y ≡ zero_ℚ) normals → IsZeroBefore (leading_place d) y → IsCombined q vs y

-- d is the vector of the complement of the normals that stands before the last ones, vs: with it
-- these are the last ones again, and it is a side of the normals
pub record IsNextSide (q : ℕ) (normals vs : List (List ℚ)) (d : List ℚ) : Type 0 where
  pub side : IsSide q normals d
  pub tail : AreTail q normals (d ∷ vs)

-- lines that were found after cuts with these normals
pub record AreFound {F : Type 0} (value : F → ℚ) (task : Task) (normals : List (List ℚ)) (ls : List (LineOf F)) : Type 0 where
  pub both_ways : All (RunsBothWays value task) ls
  pub tail : AreTail task.file.objs normals (map (told_by value) ls)

-- one more cut, or one more line, before the others
abbrev pub IsNext : {F : Type 0} → (F → ℚ) → Task → List (CutOf F) → List (LineOf F) → Next F → Type 0
IsNext value task cuts ls (Cut cut) = IsCutFor value task cut × IsOffAcross task.file.objs (normals_of value cuts) (map value cut.w)
IsNext value task cuts ls (Line line) = AreFound value task (normals_of value cuts) (line ∷ ls)

-- the entries say the cuts, one each, in their order
abbrev pub SayCuts : {F : Type 0} → (F → ℚ) → List (CutOf F) → List Entry → Type 0
SayCuts value [] [] = ⊤
SayCuts value (cut ∷ cuts) (e ∷ entries) = SaysCut value cut e × SayCuts value cuts entries
SayCuts value _ _ = ⊥
