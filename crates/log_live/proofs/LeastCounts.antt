-- The places at which some generator is not 0 are at most those that are not marked.
use Rattle.std.proofs.Common.{◌≡◌, ℕ, zero, suc, ◌<◌, ◌≤◌, List, [], ◌∷◌, length, map, take, refl, sym, ap, ◌∙◌, arith, Bool, true, false, true≢false, Contains, slice_index_or}
use Rattle.std.specs.Prelude.{◌==◌}
use Rattle.std.proofs.lemmas.List.{take_all}
use Rattle.exact_field.specs.Rational.{ℚ, zero_ℚ}
use Rattle.frac128.specs.Sparse.{is_zero}
use Rattle.incid_sets.specs.Marks.{has}
use Rattle.polyhedra.specs.LiveList.{Numbered, vectors}
use Rattle.polyhedra.proofs.Lists.{HasWidth}
use Rattle.polyhedra.proofs.Members.{member_of, Contains-map}
use Rattle.lineality.specs.Without.{open_count, without, with_zeros}
use Rattle.lineality.specs.Steps.{IsClear}
use Rattle.lineality.proofs.Masks.{length-short}
use Rattle.log_rules.proofs.PassedTests.{zero_passes}
use Rattle.log_live.specs.Adding.{AreDescribed}
use Rattle.log_live.specs.Live.{live_of, numbered_of}
use Rattle.log_live.specs.declared.generator.Generator.{Generator}

pub some_there : {X : Type 0} (xs : List X) → (length xs == 0) ≡ false → 0 < length xs
some_there [] h = absurd (true≢false h)
some_there (x ∷ xs) h = omega arith

-- ---- marked places
head_is : (x y : ℚ) (xs ys : List ℚ) → x ∷ xs ≡ y ∷ ys → x ≡ y
head_is x y xs ys e = cc

tail_is : (x y : ℚ) (xs ys : List ℚ) → x ∷ xs ≡ y ∷ ys → xs ≡ ys
tail_is x y xs ys e = cc

-- a vector that is 0 at the marked places
clear_at : (bs : List Bool) (v : List ℚ) (k : ℕ) → with_zeros bs (without bs v) ≡ v →
    has bs k ≡ true → slice_index_or v k zero_ℚ ≡ zero_ℚ
clear_at [] v k c h = absurd (true≢false (sym h))
clear_at (b ∷ bs) [] k c h = refl
clear_at (true ∷ bs) (x ∷ v) zero c h = sym (head_is zero_ℚ x (with_zeros bs (without bs v)) v c)
clear_at (false ∷ bs) (x ∷ v) zero c h = absurd (true≢false (sym h))
clear_at (true ∷ bs) (x ∷ v) (suc k) c h = clear_at bs v k
    (tail_is zero_ℚ x (with_zeros bs (without bs v)) v c) h
clear_at (false ∷ bs) (x ∷ v) (suc k) c h = clear_at bs v k
    (tail_is x x (with_zeros bs (without bs v)) v c) h

-- ---- how many are open so far
open_more : (bs : List Bool) (k : ℕ) → k < length bs → has bs k ≡ false →
    open_count (take (suc k) bs) ≡ suc (open_count (take k bs))
open_more [] k l h = absurd (omega arith)
open_more (true ∷ bs) zero l h = absurd (true≢false h)
open_more (false ∷ bs) zero l h = refl
open_more (true ∷ bs) (suc k) l h = open_more bs k (omega arith) h
open_more (false ∷ bs) (suc k) l h = ap suc (open_more bs k (omega arith) h)

pub open_most : (bs : List Bool) (k : ℕ) → open_count (take k bs) ≤ open_count (take (suc k) bs)
open_most [] zero = omega arith
open_most [] (suc k) = omega arith
open_most (true ∷ bs) zero = omega arith
open_most (false ∷ bs) zero = omega arith
open_most (true ∷ bs) (suc k) = open_most bs k
open_most (false ∷ bs) (suc k) = let h = open_most bs k in omega (arith, h)

module _ (q : ℕ) (rows : List (List ℚ)) (gens : List Generator)
    (d : AreDescribed q rows (vectors (live_of gens))) (g : Generator)
    (listed : Contains gens g) where
  vector_listed : Contains (vectors (live_of gens)) g.vector
  vector_listed = Contains-map (λ (h : Numbered). h.vector) (live_of gens) (numbered_of g)
      (Contains-map numbered_of gens g listed)

  pub wide_of : length g.vector ≡ suc q
  wide_of = member_of (HasWidth (suc (length d.marks))) (vectors (live_of gens)) g.vector
      d.wide.wide vector_listed ∙ ap suc d.many

  -- a place at which a generator is not 0 is open
  pub opens : (place : ℕ) → place < q → is_zero (slice_index_or g.vector place zero_ℚ) ≡ false →
      open_count (take (suc place) d.marks) ≡ suc (open_count (take place d.marks))
  opens place l other = open_more d.marks place (let m = d.many in omega (arith, l, m))
      (go (has d.marks place) refl)
    where
      go : (b : Bool) → has d.marks place ≡ b → has d.marks place ≡ false
      go true e = absurd (true≢false (sym (zero_passes (slice_index_or g.vector place zero_ℚ)
          (clear_at d.marks g.vector place
          (member_of (IsClear d.marks) (vectors (live_of gens)) g.vector d.clear vector_listed) e))
          ∙ other))
      go false e = e

  -- the width without the marked places
  pub open_width : d.open_places ≡ suc (open_count d.marks)
  open_width =
      sym (member_of (HasWidth d.open_places) (map (without d.marks) (vectors (live_of gens)))
      (without d.marks g.vector) d.described.generators_wide.wide
      (Contains-map (without d.marks) (vectors (live_of gens)) g.vector vector_listed))
      ∙ length-short d.marks g.vector
      (member_of (HasWidth (suc (length d.marks))) (vectors (live_of gens)) g.vector d.wide.wide
      vector_listed)

  pub open_all : (places : ℕ) → places ≡ q → open_count (take places d.marks) ≡ open_count d.marks
  open_all places e = ap open_count
      (take_all places d.marks (let m = d.many in omega (arith, e, m)))
