-- The generators of a `start`, with their sets.
use Rattle.std.proofs.Common.{◌≡◌, ℕ, suc, ◌+◌, ◌<◌, List, [], ◌∷◌, ◌++◌, map, length, take, All, slice_index_or, refl, sym, ap, ap₂, ◌∙◌, subst, arith}
use Rattle.std.proofs.lemmas.List.{length-map, map-append, take_more}
use Rattle.std.proofs.lemmas.List.Elements.{All-nil, All-cons, All-append, All-weaker}
use Rattle.exact_field.specs.Rational.{ℚ}
use Rattle.exact_field.specs.Vector.{dot}
use Rattle.polyhedra.specs.LiveList.{Numbered, numbered, starting, tight_set}
use Rattle.polyhedra.proofs.Order.{not_zero_of_positive}
use Rattle.polyhedra.proofs.LiveList.{numbered_push}
use Rattle.upper_image.specs.Spots.{pieces}
use Rattle.entry_checks.proofs.RisingNumbers.{length-pieces}
use Rattle.log_live.specs.Live.{AreLive, HasTightSet, live_of, numbered_of}
use Rattle.incid_sets.specs.Marks.{IsAllBut}
use Rattle.log_live.specs.declared.generator.Generator.{Generator}
use Rattle.log_live.proofs.FirstGenerators.{all_but_tight}
use Rattle.log_live.proofs.LivePairs.{length-take_to, take_all_of}
use Rattle.rep_conv.specs.Live.{State}
use Rattle.rep_conv.specs.Meets.{MeetsStart}
use Rattle.rep_conv.specs.Rows.{row_at}
use Rattle.rep_conv.specs.Starting.{IsFirst}
use Rattle.rep_text.specs.declared.rep.Rep.{Rep}

-- a generator at one of these places, with the vector of this place
pub record IsPlaced (count : ℕ) (vectors : List (List ℚ)) (g : Generator) : Type 0 where
  pub place : ℕ
  pub inside : place < count
  pub first : IsFirst count place (slice_index_or vectors place []) g

-- the first j of them
pub record AreFirst (count j : ℕ) (vectors : List (List ℚ)) (gens : List Generator) : Type 0 where
  pub are : live_of gens ≡ numbered 1 (take j vectors)
  pub each : All (IsPlaced count vectors) gens

pub none_first : (count : ℕ) (vectors : List (List ℚ)) (gens : List Generator) → gens ≡ [] → AreFirst count 0 vectors gens
none_first count vectors gens e = subst (λ (gs : List Generator). AreFirst count 0 vectors gs) (sym e)
    record { are = refl; each = All-nil (IsPlaced count vectors) }

pub one_first : (count j : ℕ) (vectors : List (List ℚ)) (old new : List Generator) (g : Generator) → length vectors ≡ count → j < count → AreFirst count j vectors old →
    IsFirst count j (slice_index_or vectors j []) g → new ≡ old ++ g ∷ [] → AreFirst count (j + 1) vectors new
one_first count j vectors old new g many l h f e = subst (λ (gs : List Generator). AreFirst count (j + 1) vectors gs) (sym e)
    record {
      are = map-append numbered_of old (g ∷ [])
          ∙ ap₂ (λ (xs : List Numbered) (x : Numbered). xs ++ x ∷ []) h.are (ap₂ (λ n u. record { number = n; vector = u })
          (f.number ∙ (let k = length-take_to j vectors (omega (arith, l, many)) in let s : suc j ≡ 1 + length (take j vectors) = omega (arith, k) in s)) f.vector)
          ∙ sym (numbered_push 1 (take j vectors) (slice_index_or vectors j []))
          ∙ ap (numbered 1) (sym (take_more vectors j [] (omega (arith, l, many))));
      each = All-append (IsPlaced count vectors) old (g ∷ []) h.each
          (All-cons (IsPlaced count vectors) g [] record { place = j; inside = l; first = f } (All-nil (IsPlaced count vectors)));
    }

-- all of them
module _ (rep : Rep) (s : State) (rows : List ℕ) (gens : List ℚ) (m : MeetsStart rep s rows gens) (list : List Generator)
    (h : AreFirst (length rows) (length rows) (pieces (length rows) (suc rep.width) gens) list) where
  many : length (pieces (length rows) (suc rep.width) gens) ≡ length rows
  many = length-pieces (length rows) (suc rep.width) gens

  rows_many : length (map (row_at rep) rows) ≡ length rows
  rows_many = length-map rows (row_at rep)

  tight : (g : Generator) → IsPlaced (length rows) (pieces (length rows) (suc rep.width) gens) g → HasTightSet (map (row_at rep) rows) g
  tight g p =
      all_but_tight (map (row_at rep) rows) (slice_index_or (pieces (length rows) (suc rep.width) gens) p.place []) p.place g.tight
      (subst (λ (n : ℕ). IsAllBut n p.place g.tight) (sym rows_many) p.first.tight)
      (λ z. not_zero_of_positive (dot (slice_index_or (map (row_at rep) rows) p.place []) (slice_index_or (pieces (length rows) (suc rep.width) gens) p.place [])) (m.positive p.place p.inside) z)
      (λ k l o. m.zero_elsewhere k p.place (let n = rows_many in omega (arith, l, n)) p.inside o)
      ∙ ap (tight_set (map (row_at rep) rows)) (sym p.first.vector)

  live : AreLive (map (row_at rep) rows) (starting 1 (pieces (length rows) (suc rep.width) gens)) list (suc (length rows))
  live = record {
    live = h.are ∙ ap (numbered 1) (take_all_of (length rows) (pieces (length rows) (suc rep.width) gens) (sym many));
    next_is = let n = many in omega (arith, n);
    tight = All-weaker (IsPlaced (length rows) (pieces (length rows) (suc rep.width) gens)) (HasTightSet (map (row_at rep) rows)) tight list h.each;
  }

pub first_live : (rep : Rep) (s : State) (rows : List ℕ) (gens : List ℚ) (count places : ℕ) (list : List Generator) → suc rep.width ≡ places → length rows ≡ count → MeetsStart rep s rows gens →
    AreFirst count count (pieces count places gens) list → AreLive (map (row_at rep) rows) (starting 1 (pieces count places gens)) list (suc count)
first_live rep s rows gens count places list w n m h =
    subst (λ (p : ℕ × ℕ). AreLive (map (row_at rep) rows) (starting 1 (pieces p.0 p.1 gens)) list (suc p.0)) (λ i. (n i, w i))
    (live rep s rows gens m list (subst (λ (p : ℕ × ℕ). AreFirst p.0 p.0 (pieces p.0 p.1 gens) list) (λ i. (sym n i, sym w i)) h))
