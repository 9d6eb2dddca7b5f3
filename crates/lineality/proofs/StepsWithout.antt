-- One step of double description with and without entries that are 0 in all generators.
use Rattle.std.proofs.Common.{◌≡◌, ℕ, suc, ◌+◌, List, [], ◌∷◌, ◌++◌, map, length, filter, All, Contains, Bool, true, false, not, ◌||◌, cond, refl, sym, ap, ap₂, ◌∙◌, subst, ◌-◌}
use Rattle.std.specs.Prelude.{nat_eq}
use Rattle.std.proofs.lemmas.List.{length-map, map-append}
use Rattle.std.proofs.lemmas.List.Elements.{All-nil, All-head, All-tail, All-map, All-append}
use Rattle.std.proofs.lemmas.Simd.{map-map}
use Rattle.exact_field.specs.Rational.{ℚ, zero_ℚ, ◌/ℚ◌, neg_ℚ, inverse_ℚ, le_ℚ, lt_ℚ}
use Rattle.exact_field.specs.Vector.{dot, entry}
use Rattle.polyhedra.specs.Vectors.{plus, scaled}
use Rattle.polyhedra.specs.DoubleDescription.{Pair, is_zero, magnitude, leading, norming, normed, meeting, covers, made}
use Rattle.polyhedra.specs.Exactness.{homogenised}
use Rattle.polyhedra.specs.LiveList.{Numbered, LiveList, vectors, numbered, LivePair, without_numbers, products, is_uncovered_live, staying, live_pairs, pairs, new_vectors, step}
use Rattle.polyhedra.proofs.Homogenised.{IsHomogenised, unhomogenised, length-homogenised, last-homogenised}
use Rattle.polyhedra.proofs.Linear.{length-plus, length-scaled}
use Rattle.polyhedra.proofs.Lists.{HasWidth}
use Rattle.polyhedra.proofs.Members.{all_of_members, member_of, Contains-map, Contains-filter_source}
use Rattle.polyhedra.proofs.Tests.{list_all_same}
use Rattle.lineality.specs.Without.{open_count, without, with_zeros}
use Rattle.lineality.specs.Steps.{IsClear, numbered_without, list_without, StepsWithout}
use Rattle.lineality.proofs.Masks.{length-without, dot-without, without-plus, without-scaled, with-plus, with-scaled, leading-with, without-homogenised}

-- ---- lists
filter-map : {X Y : Type 0} (f : X → Y) (p : X → Bool) (r : Y → Bool) (xs : List X) → All (λ x. p x ≡ r (f x)) xs → filter r (map f xs) ≡ map f (filter p xs)
filter-map f p r [] h = refl
filter-map f p r (x ∷ xs) h =
    ap (λ b. cond b (f x ∷ filter r (map f xs)) (filter r (map f xs))) (sym (All-head (λ x. p x ≡ r (f x)) x xs h))
    ∙ ap (λ ys. cond (p x) (f x ∷ ys) ys) (filter-map f p r xs (All-tail (λ x. p x ≡ r (f x)) x xs h))
    ∙ both (p x)
  where
    both : (b : Bool) → cond b (f x ∷ map f (filter p xs)) (map f (filter p xs)) ≡ map f (cond b (x ∷ filter p xs) (filter p xs))
    both true = refl
    both false = refl

map-same : {X Y : Type 0} (f g : X → Y) (xs : List X) → All (λ x. f x ≡ g x) xs → map f xs ≡ map g xs
map-same f g [] h = refl
map-same f g (x ∷ xs) h = ap₂ (λ a b. a ∷ b) (All-head (λ x. f x ≡ g x) x xs h) (map-same f g xs (All-tail (λ x. f x ≡ g x) x xs h))

module _ (bs : List Bool) where
  abbrev W : List ℚ → List ℚ
  W = without bs

  abbrev less : Numbered → Numbered
  less = numbered_without bs

  abbrev less_pair : LivePair → LivePair
  less_pair pair = record { plus_side = less pair.plus_side; minus_side = less pair.minus_side }

  -- a vector of the width of generators that is 0 at the marked places
  pub record IsGood (v : List ℚ) : Type 0 where
    pub wide : length v ≡ suc (length bs)
    pub clear : IsClear bs v

  pub same_dot : (r v : List ℚ) → IsGood v → dot (W r) (W v) ≡ dot r v
  same_dot r v h = dot-without bs r (W v) ∙ ap (dot r) h.clear

  pub numbered-less : (k : ℕ) (vs : List (List ℚ)) → numbered k (map W vs) ≡ map less (numbered k vs)
  numbered-less k [] = refl
  numbered-less k (v ∷ vs) = ap (λ gs. record { number = k; vector = W v } ∷ gs) (numbered-less (suc k) vs)

  pub vectors-numbered : (k : ℕ) (vs : List (List ℚ)) → vectors (numbered k vs) ≡ vs
  vectors-numbered k [] = refl
  vectors-numbered k (v ∷ vs) = ap (λ ws. v ∷ ws) (vectors-numbered (suc k) vs)

  -- ---- norming
  pub norming-same : (v : List ℚ) → IsGood v → norming (W v) ≡ norming v
  norming-same v h = go (unhomogenised (length bs) v h.wide)
    where
      go : IsHomogenised (length bs) v → norming (W v) ≡ norming v
      go u =
          let parts : W v ≡ homogenised (W u.front) u.last = ap W u.same ∙ without-homogenised bs u.front u.last u.wide in
          let left : entry (W v) (length (W v)) ≡ u.last = ap (λ w. entry w (length w)) parts ∙ last-homogenised (W u.front) u.last in
          let right : entry v (length v) ≡ u.last = ap (λ w. entry w (length w)) u.same ∙ last-homogenised u.front u.last in
          let leads : leading (W v) ≡ leading v = sym (leading-with bs (W v)) ∙ ap leading h.clear in
          ap₂ (λ a b. cond (is_zero a) b a) (left ∙ sym right) leads

  pub normed-same : (v : List ℚ) → IsGood v → normed (W v) ≡ W (normed v)
  normed-same v h = ap (λ a. scaled (inverse_ℚ (magnitude a)) (W v)) (norming-same v h) ∙ sym (without-scaled bs (inverse_ℚ (magnitude (norming v))) v)

  pub good-scaled : (c : ℚ) (v : List ℚ) → IsGood v → IsGood (scaled c v)
  good-scaled c v h = record {
    wide = length-scaled c v ∙ h.wide;
    clear = ap (with_zeros bs) (without-scaled bs c v) ∙ with-scaled bs c (W v) ∙ ap (scaled c) h.clear;
  }

  same_widths : (u v : List ℚ) → IsGood u → IsGood v → length (W u) ≡ length (W v)
  same_widths u v h k = even (unhomogenised (length bs) u h.wide) (unhomogenised (length bs) v k.wide)
    where
      even : IsHomogenised (length bs) u → IsHomogenised (length bs) v → length (W u) ≡ length (W v)
      even a b = ap length (ap W a.same ∙ without-homogenised bs a.front a.last a.wide)
          ∙ length-homogenised (open_count bs) (W a.front) a.last (length-without bs a.front a.wide)
          ∙ sym (ap length (ap W b.same ∙ without-homogenised bs b.front b.last b.wide)
          ∙ length-homogenised (open_count bs) (W b.front) b.last (length-without bs b.front b.wide))

  pub good-plus : (u v : List ℚ) → IsGood u → IsGood v → IsGood (plus u v)
  good-plus u v h k = record {
    wide = length-plus (suc (length bs)) u v h.wide k.wide;
    clear = ap (with_zeros bs) (without-plus bs u v (h.wide ∙ sym k.wide)) ∙ with-plus bs (W u) (W v) (same_widths u v h k) ∙ ap₂ (λ a b. plus a b) h.clear k.clear;
  }

  module _ (rows : List (List ℚ)) (list : LiveList) (row : List ℚ) (good : (g : Numbered) → Contains list.live g → IsGood g.vector) where
    abbrev factor : LivePair → ℚ
    factor pair = dot row pair.plus_side.vector /ℚ neg_ℚ (dot row pair.minus_side.vector)

    abbrev meeting_of : LivePair → List ℚ
    meeting_of pair = meeting row pair.plus_side.vector pair.minus_side.vector

    -- both generators of a pair are live
    pub record IsLivePair (pair : LivePair) : Type 0 where
      pub plus_live : Contains list.live pair.plus_side
      pub minus_live : Contains list.live pair.minus_side

    meeting-good : (pair : LivePair) → IsLivePair pair → IsGood (meeting_of pair)
    meeting-good pair h = good-plus pair.plus_side.vector (scaled (factor pair) pair.minus_side.vector) (good pair.plus_side h.plus_live)
        (good-scaled (factor pair) pair.minus_side.vector (good pair.minus_side h.minus_live))

    meeting-same : (pair : LivePair) → IsLivePair pair → meeting (W row) (W pair.plus_side.vector) (W pair.minus_side.vector) ≡ W (meeting_of pair)
    meeting-same pair h =
        let p : List ℚ = pair.plus_side.vector in
        let r : List ℚ = pair.minus_side.vector in
        let p_good : IsGood p = good pair.plus_side h.plus_live in
        let r_good : IsGood r = good pair.minus_side h.minus_live in
        ap₂ (λ a b. plus (W p) (scaled (a /ℚ neg_ℚ b) (W r))) (same_dot row p p_good) (same_dot row r r_good)
        ∙ ap (λ v. plus (W p) v) (sym (without-scaled bs (factor pair) r))
        ∙ sym (without-plus bs p (scaled (factor pair) r) (p_good.wide ∙ sym (length-scaled (factor pair) r ∙ r_good.wide)))

    -- ---- the pairs
    products-less : (ps ms : List Numbered) → products (map less ps) (map less ms) ≡ map less_pair (products ps ms)
    products-less [] ms = refl
    products-less (p ∷ ps) ms =
        ap₂ (λ a b. a ++ b) (map-map (λ (x : Numbered). record { plus_side = less p; minus_side = x }) less ms
        ∙ sym (map-map less_pair (λ (x : Numbered). record { plus_side = p; minus_side = x }) ms)) (products-less ps ms)
        ∙ sym (map-append less_pair (map (λ (x : Numbered). record { plus_side = p; minus_side = x }) ms) (products ps ms))

    products-live : (ps ms : List Numbered) → All (Contains list.live) ps → All (Contains list.live) ms → All IsLivePair (products ps ms)
    products-live [] ms h k = All-nil IsLivePair
    products-live (p ∷ ps) ms h k = All-append IsLivePair (map (λ (x : Numbered). record { plus_side = p; minus_side = x }) ms) (products ps ms)
        (All-map IsLivePair (λ (x : Numbered). record { plus_side = p; minus_side = x }) ms
        (all_of_members (λ (x : Numbered). IsLivePair (record { plus_side = p; minus_side = x })) ms
        (λ x c. record { plus_live = All-head (Contains list.live) p ps h; minus_live = member_of (Contains list.live) ms x k c })))
        (products-live ps ms (All-tail (Contains list.live) p ps h) k)

    signs : (p : ℚ → Bool) → All (λ (g : Numbered). p (dot row g.vector) ≡ p (dot (W row) (W g.vector))) list.live
    signs p = all_of_members (λ (g : Numbered). p (dot row g.vector) ≡ p (dot (W row) (W g.vector))) list.live (λ g c. ap p (sym (same_dot row g.vector (good g c))))

    select : (p : ℚ → Bool) → filter (λ (g : Numbered). p (dot (W row) g.vector)) (map less list.live) ≡ map less (filter (λ (g : Numbered). p (dot row g.vector)) list.live)
    select p = filter-map less (λ (g : Numbered). p (dot row g.vector)) (λ (g : Numbered). p (dot (W row) g.vector)) list.live (signs p)

    covers-same : (a b g : Numbered) → Contains list.live a → Contains list.live b → Contains list.live g →
        covers rows a.vector b.vector g.vector ≡ covers (map W rows) (W a.vector) (W b.vector) (W g.vector)
    covers-same a b g ca cb cg =
        list_all_same W (λ r. not (is_zero (dot r a.vector)) || not (is_zero (dot r b.vector)) || is_zero (dot r g.vector))
        (λ r. not (is_zero (dot r (W a.vector))) || not (is_zero (dot r (W b.vector))) || is_zero (dot r (W g.vector))) rows
        (all_of_members (λ r. (not (is_zero (dot r a.vector)) || not (is_zero (dot r b.vector)) || is_zero (dot r g.vector))
        ≡ (not (is_zero (dot (W r) (W a.vector))) || not (is_zero (dot (W r) (W b.vector))) || is_zero (dot (W r) (W g.vector)))) rows
        (λ r _. three (sym (same_dot r a.vector (good a ca))) (sym (same_dot r b.vector (good b cb))) (sym (same_dot r g.vector (good g cg)))))
      where
        three : {x x' y y' z z' : ℚ} → x ≡ x' → y ≡ y' → z ≡ z' → (not (is_zero x) || not (is_zero y) || is_zero z) ≡ (not (is_zero x') || not (is_zero y') || is_zero z')
        three {x} {x'} {y} {y'} {z} {z'} e f g = ap (λ a. not (is_zero a) || not (is_zero y) || is_zero z) e ∙ ap (λ a. not (is_zero x') || not (is_zero a) || is_zero z) f
            ∙ ap (λ a. not (is_zero x') || not (is_zero y') || is_zero a) g

    uncovered-same : (pair : LivePair) → IsLivePair pair → is_uncovered_live rows list.live pair ≡ is_uncovered_live (map W rows) (map less list.live) (less_pair pair)
    uncovered-same pair h =
        list_all_same less
        (λ (g : Numbered). nat_eq g.number pair.plus_side.number || nat_eq g.number pair.minus_side.number || not (covers rows pair.plus_side.vector pair.minus_side.vector g.vector))
        (λ (g : Numbered). nat_eq g.number pair.plus_side.number || nat_eq g.number pair.minus_side.number
        || not (covers (map W rows) (W pair.plus_side.vector) (W pair.minus_side.vector) g.vector)) list.live
        (all_of_members (λ (g : Numbered).
        (nat_eq g.number pair.plus_side.number || nat_eq g.number pair.minus_side.number || not (covers rows pair.plus_side.vector pair.minus_side.vector g.vector))
        ≡ (nat_eq g.number pair.plus_side.number || nat_eq g.number pair.minus_side.number
        || not (covers (map W rows) (W pair.plus_side.vector) (W pair.minus_side.vector) (W g.vector)))) list.live
        (λ g c. ap (λ b. nat_eq g.number pair.plus_side.number || nat_eq g.number pair.minus_side.number || not b) (covers-same pair.plus_side pair.minus_side g h.plus_live h.minus_live c)))

    abbrev above : List Numbered
    above = filter (λ (g : Numbered). lt_ℚ zero_ℚ (dot row g.vector)) list.live

    abbrev below : List Numbered
    below = filter (λ (g : Numbered). lt_ℚ (dot row g.vector) zero_ℚ) list.live

    all_live : (p : Numbered → Bool) → All (Contains list.live) (filter p list.live)
    all_live p = all_of_members (Contains list.live) (filter p list.live) (λ g c. (Contains-filter_source p list.live g c).0)

    products_all : All IsLivePair (products above below)
    products_all = products-live above below (all_live (λ (g : Numbered). lt_ℚ zero_ℚ (dot row g.vector))) (all_live (λ (g : Numbered). lt_ℚ (dot row g.vector) zero_ℚ))

    pairs_all : All IsLivePair (live_pairs rows list.live row)
    pairs_all = all_of_members IsLivePair (live_pairs rows list.live row)
        (λ pair c. member_of IsLivePair (products above below) pair products_all (Contains-filter_source (is_uncovered_live rows list.live) (products above below) pair c).0)

    live_pairs-same : live_pairs (map W rows) (map less list.live) (W row) ≡ map less_pair (live_pairs rows list.live row)
    live_pairs-same =
        ap₂ (λ ps ms. filter (is_uncovered_live (map W rows) (map less list.live)) (products ps ms)) (select (λ a. lt_ℚ zero_ℚ a)) (select (λ a. lt_ℚ a zero_ℚ))
        ∙ ap (filter (is_uncovered_live (map W rows) (map less list.live))) (products-less above below)
        ∙ filter-map less_pair (is_uncovered_live rows list.live) (is_uncovered_live (map W rows) (map less list.live)) (products above below)
        (all_of_members (λ pair. is_uncovered_live rows list.live pair ≡ is_uncovered_live (map W rows) (map less list.live) (less_pair pair)) (products above below)
        (λ pair c. uncovered-same pair (member_of IsLivePair (products above below) pair products_all c)))

    pairs-same : pairs rows list.live row ≡ pairs (map W rows) (map less list.live) (W row)
    pairs-same = sym (ap (map (λ (pair : LivePair). (pair.plus_side.number, pair.minus_side.number))) live_pairs-same
        ∙ map-map (λ (pair : LivePair). (pair.plus_side.number, pair.minus_side.number)) less_pair (live_pairs rows list.live row))

    -- ---- the new generators
    abbrev new_of : LivePair → List ℚ
    new_of pair = normed (meeting_of pair)

    new-vectors : (ps : List LivePair) → made row (map without_numbers ps) ≡ map new_of ps
    new-vectors ps = map-map (λ (pair : Pair). normed (meeting row pair.plus_side pair.minus_side)) without_numbers ps

    new-less : (ps : List LivePair) → All IsLivePair ps → made (W row) (map without_numbers (map less_pair ps)) ≡ map W (made row (map without_numbers ps))
    new-less ps h =
        map-map (λ (pair : Pair). normed (meeting (W row) pair.plus_side pair.minus_side)) without_numbers (map less_pair ps)
        ∙ map-map (λ (pair : LivePair). normed (meeting (W row) pair.plus_side.vector pair.minus_side.vector)) less_pair ps
        ∙ map-same (λ (pair : LivePair). normed (meeting (W row) (W pair.plus_side.vector) (W pair.minus_side.vector))) (λ pair. W (new_of pair)) ps
        (all_of_members (λ (pair : LivePair). normed (meeting (W row) (W pair.plus_side.vector) (W pair.minus_side.vector)) ≡ W (new_of pair)) ps
        (λ pair c. ap normed (meeting-same pair (member_of IsLivePair ps pair h c)) ∙ normed-same (meeting_of pair) (meeting-good pair (member_of IsLivePair ps pair h c))))
        ∙ sym (map-map W new_of ps) ∙ ap (map W) (sym (new-vectors ps))

    step-same : list_without bs (step rows list row) ≡ step (map W rows) (list_without bs list) (W row)
    step-same =
        let ps : List LivePair = live_pairs rows list.live row in
        ap₂ (λ gs k. record { live = gs; next = k })
        (map-append less (staying row list.live) (numbered list.next (new_vectors rows list.live row))
        ∙ ap₂ (λ a b. a ++ b) (sym (select (λ a. le_ℚ zero_ℚ a)))
        (sym (ap (numbered list.next) (ap (λ qs. made (W row) (map without_numbers qs)) live_pairs-same ∙ new-less ps pairs_all) ∙ numbered-less list.next (new_vectors rows list.live row))))
        (sym (ap (λ qs. list.next + length qs) live_pairs-same ∙ ap (λ k. list.next + k) (length-map ps less_pair)))

    good-next : All IsGood (vectors (step rows list row).live)
    good-next =
        subst (λ (vs : List (List ℚ)). All IsGood vs) (sym (map-append (λ (g : Numbered). g.vector) (staying row list.live) (numbered list.next (new_vectors rows list.live row))))
        (All-append IsGood (vectors (staying row list.live)) (vectors (numbered list.next (new_vectors rows list.live row)))
        (All-map IsGood (λ (g : Numbered). g.vector) (staying row list.live)
        (all_of_members (λ (g : Numbered). IsGood g.vector) (staying row list.live)
        (λ g c. good g (Contains-filter_source (λ (x : Numbered). le_ℚ zero_ℚ (dot row x.vector)) list.live g c).0)))
        (subst (λ (vs : List (List ℚ)). All IsGood vs) (sym (vectors-numbered list.next (new_vectors rows list.live row) ∙ new-vectors (live_pairs rows list.live row)))
        (All-map IsGood new_of (live_pairs rows list.live row)
        (all_of_members (λ pair. IsGood (new_of pair)) (live_pairs rows list.live row)
        (λ pair c. good-scaled (inverse_ℚ (magnitude (norming (meeting_of pair)))) (meeting_of pair)
        (meeting-good pair (member_of IsLivePair (live_pairs rows list.live row) pair pairs_all c)))))))

pub steps_without : StepsWithout
steps_without bs rows list row wide clear =
    record {
      wide = record { wide = all_of_members (HasWidth (suc (length bs))) (vectors (step rows list row).live) (λ v c. (member_of (IsGood bs) (vectors (step rows list row).live) v (good-next bs rows list row good) c).wide) };
      clear = all_of_members (IsClear bs) (vectors (step rows list row).live) (λ v c. (member_of (IsGood bs) (vectors (step rows list row).live) v (good-next bs rows list row good) c).clear);
      same = step-same bs rows list row good;
      same_pairs = pairs-same bs rows list row good;
    }
  where
    good : (g : Numbered) → Contains list.live g → IsGood bs g.vector
    good g c = record {
      wide = member_of (HasWidth (suc (length bs))) (vectors list.live) g.vector wide.wide (Contains-map (λ (x : Numbered). x.vector) list.live g c);
      clear = member_of (IsClear bs) (vectors list.live) g.vector clear (Contains-map (λ (x : Numbered). x.vector) list.live g c);
    }
