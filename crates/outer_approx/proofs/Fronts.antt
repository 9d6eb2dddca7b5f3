-- The entries of first generators but their last ones, and the lists that they make.
use Rattle.std.proofs.Common.{◌≡◌, ℕ, suc, ◌+◌, ◌-◌, ◌*◌, ◌<◌, ◌≤◌, List, [], ◌∷◌, ◌++◌, map, length, take, drop, Bool, Contains, true, IsTrue, refl, sym, ap, ap₂, ◌∙◌, subst, arith, slice_index_or, min, length-append}
use Rattle.std.specs.List.{range_with_len}
use Rattle.std.proofs.lemmas.Grind.{get_or_after_one}
use Rattle.std.proofs.lemmas.List.{length-drop, length-map, length-take, map_push, take_more}
use Rattle.exact_field.specs.Rational.{ℚ}
use Rattle.polyhedra.specs.LiveList.{LiveList, Numbered, numbered, numbers, vectors}
use Rattle.polyhedra.proofs.Members.{Contains-map}
use Rattle.polyhedra.proofs.Tests.{both_hold}
use Rattle.lineality.specs.Without.{open_count, with_zeros}
use Rattle.lineality.proofs.Masks.{length-filled}
use Rattle.upper_image.specs.Spots.{pieces}
use Rattle.deriv_log.specs.Formed.{is_formed}
use Rattle.word_lines.specs.Parts.{is_formed_part}
use Rattle.word_lines.specs.Parts.{naturals, vector}
use Rattle.deriv_log.specs.declared.entry.Entry.{Entry}
use Rattle.deriv_log.specs.declared.entry.Entry.TheVariants.{Start}
use Rattle.outer_approx.specs.First.{AreFirst, HasStart, front_with}
use Rattle.outer_approx.proofs.Numbers.{numbered_at}
use Rattle.outer_approx.proofs.Pieces.{pieces_more}

-- ---- a generator by its number
module _ (q : ℕ) (list : LiveList) (f : AreFirst q list) (g : ℕ) (low : 1 ≤ g) (high : g ≤ suc q) where
  abbrev here : Numbered
  here = record { number = g; vector = slice_index_or (vectors list.live) (g - 1) [] }

  inside : g - 1 < length (vectors list.live)
  inside = let m = f.many in omega (arith, m, low, high)

  live_here : Contains list.live here
  live_here =
      let number : 1 + (g - 1) ≡ g = omega (arith, low) in
      subst (λ (l : LiveList). Contains l.live here) (sym f.is)
      (subst (λ (k : ℕ). Contains (numbered 1 (vectors list.live)) (record { number = k; vector = slice_index_or (vectors list.live) (g - 1) [] }))
      number (numbered_at 1 (vectors list.live) (g - 1) inside))

  pub number_listed : Contains (numbers list.live) g
  number_listed = Contains-map (λ (h : Numbered). h.number) list.live here live_here

  pub wide_here : length (slice_index_or (vectors list.live) (g - 1) []) ≡ suc q
  wide_here = f.wide.wide (g - 1) [] inside

  module _ {F : Type 0} (value : F → ℚ) (entries : List F)
      (only : (v : List ℚ) → Contains list.live (record { number = g; vector = v }) → map value entries ≡ v) where
    pub entries_are : map value entries ≡ slice_index_or (vectors list.live) (g - 1) []
    entries_are = only (slice_index_or (vectors list.live) (g - 1) []) live_here

    pub entries_long : length entries ≡ suc q
    entries_long = sym (length-map entries value) ∙ ap length entries_are ∙ wide_here

-- ---- the entries of a generator but its last one, with zeros at the places of lines
pub length-front : (bs : List Bool) (v : List ℚ) → length v ≡ suc (open_count bs) → length (front_with bs v) ≡ length bs
length-front bs v wide =
    let filled : length (with_zeros bs v) ≡ suc (length bs) = length-filled bs v wide in
    let cut : length (take (length bs) (with_zeros bs v)) ≡ min (length bs) (length (with_zeros bs v)) = length-take (length bs) (with_zeros bs v) in
    omega (arith, cut, filled)

-- ---- one more direction
module _ (bs : List Bool) (n : ℕ) (count : n ≡ open_count bs) (list : LiveList) (f : AreFirst n list) (k : ℕ) (l : k < n) (old new front piece : List ℚ)
    (pushed : new ≡ old ++ piece) (same : piece ≡ front) (front_is : front ≡ front_with bs (slice_index_or (vectors list.live) (k + 2 - 1) []))
    (long : length old ≡ k * length bs) where
  pushed_by : new ≡ old ++ front
  pushed_by = pushed ∙ ap (λ (p : List ℚ). old ++ p) same

  front_long : length front ≡ length bs
  front_long =
      let v = slice_index_or (vectors list.live) (k + 2 - 1) [] in
      let wide : length v ≡ suc n = let m = f.many in f.wide.wide (k + 2 - 1) [] (omega (arith, m, l)) in
      ap length front_is ∙ length-front bs v (wide ∙ ap suc count)

  pub longer : length new ≡ (k + 1) * length bs
  longer =
      let both : length (old ++ front) ≡ length old + length front = length-append old front in
      ap length pushed_by ∙ omega (arith, both, long, front_long)

  pub pieces_longer : pieces k (length bs) old ≡ map (front_with bs) (take k (drop 1 (vectors list.live))) →
      pieces (k + 1) (length bs) new ≡ map (front_with bs) (take (k + 1) (drop 1 (vectors list.live)))
  pieces_longer so_far =
      let vs = drop 1 (vectors list.live) in
      let m : length (vectors list.live) ≡ suc n = f.many in
      let within : k < length (drop 1 (vectors list.live)) = let d = length-drop 1 (vectors list.live) in omega (arith, d, m, l) in
      let next : k + 1 ≡ suc k = omega arith in
      let place : 1 + k ≡ k + 2 - 1 = omega arith in
      let read : slice_index_or vs k [] ≡ slice_index_or (vectors list.live) (k + 2 - 1) [] =
      get_or_after_one (vectors list.live) k [] ∙ ap (λ (j : ℕ). slice_index_or (vectors list.live) j []) place in
      ap₂ (λ (j : ℕ) (xs : List ℚ). pieces j (length bs) xs) next pushed_by ∙ pieces_more k (length bs) old front long front_long
      ∙ ap₂ (λ (a : List (List ℚ)) (b : List ℚ). a ++ b ∷ []) so_far (front_is ∙ ap (front_with bs) (sym read))
      ∙ sym (map_push (front_with bs) (take k vs) (slice_index_or vs k [])) ∙ ap (map (front_with bs)) (sym (take_more vs k [] within))

-- ---- the entry
pub start_written : (ks : List ℕ) (point directions : List ℚ) → is_formed_part (naturals ks) ≡ true → is_formed_part (vector point) ≡ true →
    is_formed_part (vector directions) ≡ true → IsTrue (is_formed (Start ks point directions))
start_written ks point directions h k l =
    both_hold (is_formed_part (naturals ks)) _ h (both_hold (is_formed_part (vector point)) _ k (both_hold (is_formed_part (vector directions)) true l refl))

pub has_start : (bs : List Bool) (n : ℕ) → n ≡ open_count bs → (vs : List (List ℚ)) (old new : List Entry) (ks : List ℕ) (point directions : List ℚ) →
    length vs ≡ suc n → ks ≡ range_with_len 1 n → point ≡ front_with bs (slice_index_or vs (1 - 1) []) → length directions ≡ n * length bs →
    pieces n (length bs) directions ≡ map (front_with bs) (drop 1 vs) → IsTrue (is_formed (Start ks point directions)) →
    new ≡ old ++ Start ks point directions ∷ [] → HasStart bs vs old new
has_start bs n count [] old new ks point directions many ks_are point_is long ds written pushed = absurd (omega (arith, many))
has_start bs n count (v ∷ vs) old new ks point directions many ks_are point_is long ds written pushed =
    let named : ks ≡ range_with_len 1 (open_count bs) = ks_are ∙ ap (range_with_len 1) count in
    record {
      point = point;
      directions = directions;
      appended = pushed ∙ ap (λ (ns : List ℕ). old ++ Start ns point directions ∷ []) named;
      written = subst (λ (ns : List ℕ). IsTrue (is_formed (Start ns point directions))) named written;
      long = long ∙ ap (λ (k : ℕ). k * length bs) count;
      fronts = ap₂ (λ (a : List ℚ) (b : List (List ℚ)). a ∷ b) point_is (ap (λ (k : ℕ). pieces k (length bs) directions) (sym count) ∙ ds);
    }
