-- How the least hints of an addition are told, block by block.
use Rattle.std.proofs.Common.{◌≡◌, ℕ, ◌+◌, List, [], ◌∷◌, ◌++◌, refl, sym, ap, ◌∙◌, Bool, true, false, true≢false, not, ◌&&◌, ◌||◌, drop, append_assoc, if◌then◌else◌}
use Rattle.std.specs.Prelude.{nat_eq}
use Rattle.std.proofs.lemmas.List.{append-nil}
use Rattle.exact_field.specs.Rational.{ℚ}
use Rattle.polyhedra.specs.DoubleDescription.{covers}
use Rattle.polyhedra.specs.LiveList.{Numbered, LivePair}
use Rattle.word_lines.specs.declared.part.LogPair.{LogPair}
use Rattle.log_versions.specs.Hints.{first_cover, named_pair}
use Rattle.log_versions.specs.Walk.{is_next}
use Rattle.log_live.specs.Hinting.{Tells, hints_along}
use Rattle.log_live.specs.declared.telling.Telling.{Telling}
use Rattle.log_live.proofs.Hintings.{drop_one}

-- ---- the first generator that covers
-- the test of the code is that of the rules
covers_is : (a b c r : Bool) → not r ≡ (a || b || not c) → (not a && not b && c) ≡ r
covers_is true b c true h = absurd (true≢false (sym h))
covers_is true b c false h = refl
covers_is false true c true h = absurd (true≢false (sym h))
covers_is false true c false h = refl
covers_is false false true true h = refl
covers_is false false true false h = absurd (true≢false h)
covers_is false false false true h = absurd (true≢false (sym h))
covers_is false false false false h = refl

module _ (rows : List (List ℚ)) (o : LivePair) (g : Numbered) (live rest : List Numbered)
    (first : live ≡ g ∷ rest) (r : Bool)
    (tested : not r ≡ (nat_eq g.number o.plus_side.number || nat_eq g.number o.minus_side.number
    || not (covers rows o.plus_side.vector o.minus_side.vector g.vector))) where
  abbrev Chosen : Bool → ℕ
  Chosen b = elim b [ true ↦ g.number | false ↦ first_cover rows o rest ]

  stepped : first_cover rows o live ≡ Chosen r
  stepped = ap (first_cover rows o) first
      ∙ ap Chosen
      (covers_is (nat_eq g.number o.plus_side.number) (nat_eq g.number o.minus_side.number)
      (covers rows o.plus_side.vector o.minus_side.vector g.vector) r tested)

  pub cover_here : r ≡ true → first_cover rows o live ≡ g.number
  cover_here e = stepped ∙ ap Chosen e

  pub cover_later : r ≡ false → first_cover rows o live ≡ first_cover rows o rest
  cover_later e = stepped ∙ ap Chosen e

-- ---- one step
module _ (rows : List (List ℚ)) (live : List Numbered) (pairs : List LogPair) (o : LivePair)
    (old new : Telling) where
  pub tells-listed : is_next (drop old.listed pairs) (named_pair o) ≡ true →
      new.listed ≡ old.listed + 1 → new.hints ≡ old.hints →
      Tells rows live pairs old new (o ∷ [])
  tells-listed next listed hints more =
      ap (λ (b : Bool). old.hints ++
      (if b then hints_along rows live more (drop 1 (drop old.listed pairs))
      else first_cover rows o live ∷ hints_along rows live more (drop old.listed pairs))) next
      ∙ ap (λ (ps : List LogPair). old.hints ++ hints_along rows live more ps)
      (drop_one pairs old.listed ∙ ap (λ (l : ℕ). drop l pairs) (sym listed))
      ∙ ap (λ (hs : List ℕ). hs ++ hints_along rows live more (drop new.listed pairs)) (sym hints)

  pub tells-hint : (k : ℕ) → is_next (drop old.listed pairs) (named_pair o) ≡ false →
      k ≡ first_cover rows o live → new.listed ≡ old.listed →
      new.hints ≡ old.hints ++ k ∷ [] → Tells rows live pairs old new (o ∷ [])
  tells-hint k next is listed hints more =
      ap (λ (b : Bool). old.hints ++
      (if b then hints_along rows live more (drop 1 (drop old.listed pairs))
      else first_cover rows o live ∷ hints_along rows live more (drop old.listed pairs))) next
      ∙ ap (λ (h : ℕ). old.hints ++ h ∷ hints_along rows live more (drop old.listed pairs)) (sym is)
      ∙ sym (append_assoc old.hints (k ∷ []) (hints_along rows live more (drop old.listed pairs)))
      ∙ ap (λ (hs : List ℕ). hs ++ hints_along rows live more (drop old.listed pairs)) (sym hints)
      ∙ ap (λ (l : ℕ). new.hints ++ hints_along rows live more (drop l pairs)) (sym listed)

-- ---- blocks
module _ (rows : List (List ℚ)) (live : List Numbered) (pairs : List LogPair) where
  pub tells-then : (a b c : Telling) (X Y : List LivePair) → Tells rows live pairs a b X →
      Tells rows live pairs b c Y → Tells rows live pairs a c (X ++ Y)
  tells-then a b c X Y h k more =
      ap (λ (os : List LivePair). a.hints ++ hints_along rows live os (drop a.listed pairs))
      (append_assoc X Y more) ∙ h (Y ++ more) ∙ k more

  pub told : (a b : Telling) (all : List LivePair) → a.listed ≡ 0 → a.hints ≡ [] →
      Tells rows live pairs a b all → b.hints ≡ hints_along rows live all pairs
  told a b all listed none h =
      sym (append-nil b.hints) ∙ sym (h [])
      ∙ ap (λ (os : List LivePair). a.hints ++ hints_along rows live os (drop a.listed pairs))
      (append-nil all)
      ∙ ap (λ (l : ℕ). a.hints ++ hints_along rows live all (drop l pairs)) listed
      ∙ ap (λ (hs : List ℕ). hs ++ hints_along rows live all pairs) none
