-- What a conversion gives, from the parts that the calls go through.
use Rattle.std.proofs.Common.{◌≡◌, ◌≢◌, ℕ, suc, ◌-◌, ◌<◌, ◌==◌, Bool, true, false, cond, not, if◌then◌else◌, replicate, List, [], ◌∷◌, ◌++◌, map, filter, length, take, All, AllPairs, refl, sym, ap, ap₂, ◌∙◌, subst, arith, length-append, append_assoc}
use Rattle.std.specs.List.{flat_map, list_all}
use Rattle.std.proofs.lemmas.Bool.{eq-eqb}
use Rattle.std.proofs.lemmas.List.{length-replicate}
use Rattle.std.proofs.lemmas.List.Elements.{All-head, All-tail, All-map, All-nil, All-cons, All-weaker}
use Rattle.exact_field.specs.Rational.{ℚ, zero_ℚ, one_ℚ}
use Rattle.exact_field.specs.Order.{same_ℚ}
use Rattle.exact_field.specs.Vector.{entry}
use Rattle.exact_field.proofs.Comparison.{same_ℚ-is}
use Rattle.polyhedra.specs.DoubleDescription as double
use Rattle.polyhedra.specs.Exactness.{homogenised}
use Rattle.polyhedra.specs.LiveList.{Numbered, vectors}
use Rattle.polyhedra.specs.TightSets.{AreApart, IsTight, LiesIn}
use Rattle.polyhedra.proofs.Members.{all_of_members, member_of, pairs-filter, pairs-map, pairs-nil, pairs-weaker, Contains-filter_source}
use Rattle.polyhedra.proofs.Tests.{both_hold, both_true}
use Rattle.log_rules.specs.Proves.{IsSorting}
use Rattle.log_live.specs.Live.{live_of}
use Rattle.log_live.specs.declared.generator.Generator.{Generator}
use Rattle.log_live.proofs.NewVectors.{same_zero}
use Rattle.rep_conv.specs.Converted.{as_rows, at_height, with_normal, GivesGenerators, GivesInequalities, GivesRows}
use Rattle.rep_conv.specs.Giving.{IsGiven, front_at, side_of}
use Rattle.representations.specs.Lined.{pinned}
use Rattle.rep_conv.specs.Laws.{Stands, readers}
use Rattle.rep_conv.specs.Live.{State, state, rows_in_use}
use Rattle.rep_conv.specs.Progress.{StandsAfter}
use Rattle.rep_conv.specs.declared.progress.Standing.{Standing}
use Rattle.rep_text.specs.declared.rep.Rep.{Rep}
use Rattle.rep_text.specs.declared.conv.ConvEntry.{ConvEntry}
use Rattle.rep_text.specs.Fits.{kind_fits, row_length, row_fits}
use Rattle.rep_text.specs.declared.rep.RepKind.{RepKind}
use Rattle.rep_text.specs.declared.rep.RepKind.TheVariants.{Side, Equal, Line, Point, Direction}
use Rattle.rep_text.specs.declared.rep.RepRow.{RepRow}
use Rattle.rep_conv.proofs.Ends.{by_parts, front_width}

abbrev IsWide : ℕ → List ℚ → Type 0
IsWide width v = length v ≡ suc width

-- ---- the lists
module _ (width : ℕ) (t : ℚ) where
  abbrev At : List ℚ → Bool
  At v = same_ℚ (entry v (suc width)) t

  pub heights_are : (vs : List (List ℚ)) → All (λ v. length v ≡ suc width) vs →
      flat_map (front_at t) vs ≡ map (take width) (filter (λ v. same_ℚ (entry v (suc width)) t) vs)
  heights_are [] h = refl
  heights_are (v ∷ vs) h =
      let here : length v ≡ suc width = All-head (IsWide width) v vs h in
      ap₂ (λ (n k : ℕ). (if same_ℚ (entry v n) t then take k v ∷ [] else []) ++ flat_map (front_at t) vs) here (let e : length v - 1 ≡ width = omega (arith, here) in e)
      ∙ go (same_ℚ (entry v (suc width)) t) (heights_are vs (All-tail (IsWide width) v vs h))
    where
      go : (b : Bool) → flat_map (front_at t) vs ≡ map (take width) (filter (λ u. same_ℚ (entry u (suc width)) t) vs) →
          (if b then take width v ∷ [] else []) ++ flat_map (front_at t) vs
          ≡ map (take width) (cond b (v ∷ filter (λ u. same_ℚ (entry u (suc width)) t) vs) (filter (λ u. same_ℚ (entry u (suc width)) t) vs))
      go true e = ap (λ us. take width v ∷ us) e
      go false e = e

  pub heights_differ : (vs : List (List ℚ)) → All (λ v. length v ≡ suc width) vs → AllPairs (λ a b. a ≢ b) vs →
      AllPairs (λ a b. a ≢ b) (map (take width) (filter (λ v. same_ℚ (entry v (suc width)) t) vs))
  heights_differ vs wide apart =
      pairs-map (λ a b. a ≢ b) (take width) (filter (λ v. same_ℚ (entry v (suc width)) t) vs)
      (pairs-weaker (λ a b. a ≢ b) (λ a b. take width a ≢ take width b) (filter (λ v. same_ℚ (entry v (suc width)) t) vs)
      (λ a b a_in b_in r e.
      let ka = Contains-filter_source (λ v. same_ℚ (entry v (suc width)) t) vs a a_in in
      let kb = Contains-filter_source (λ v. same_ℚ (entry v (suc width)) t) vs b b_in in
      r (by_parts width a (member_of (λ v. length v ≡ suc width) vs a wide ka.0)
      ∙ ap₂ homogenised e ((same_ℚ-is (entry a (suc width)) t).0 ka.1 ∙ sym ((same_ℚ-is (entry b (suc width)) t).0 kb.1))
      ∙ sym (by_parts width b (member_of (λ v. length v ≡ suc width) vs b wide kb.0))))
      (pairs-filter (λ a b. a ≢ b) (λ v. same_ℚ (entry v (suc width)) t) vs apart))

pub sides_are : (width : ℕ) (vs : List (List ℚ)) → All (λ v. length v ≡ suc width) vs →
    flat_map side_of vs ≡ filter (λ v. not (list_all double.is_zero (take width v))) vs
sides_are width [] h = refl
sides_are width (v ∷ vs) h =
    let here : length v ≡ suc width = All-head (IsWide width) v vs h in
    ap₂ (λ (k : ℕ) (z : ℚ → Bool). (if list_all z (take k v) then [] else v ∷ []) ++ flat_map side_of vs)
    (let e : length v - 1 ≡ width = omega (arith, here) in e) (λ i x. same_zero x i)
    ∙ go (list_all double.is_zero (take width v)) (sides_are width vs (All-tail (IsWide width) v vs h))
  where
    go : (b : Bool) → flat_map side_of vs ≡ filter (λ u. not (list_all double.is_zero (take width u))) vs →
        (if b then [] else v ∷ []) ++ flat_map side_of vs
        ≡ cond (not b) (v ∷ filter (λ u. not (list_all double.is_zero (take width u))) vs) (filter (λ u. not (list_all double.is_zero (take width u))) vs)
    go true e = e
    go false e = ap (λ us. v ∷ us) e

pub fronts_are : (width : ℕ) (vs : List (List ℚ)) → All (λ v. length v ≡ suc width) vs → map (λ v. take (length v - 1) v) vs ≡ map (take width) vs
fronts_are width [] h = refl
fronts_are width (v ∷ vs) h =
    let here : length v ≡ suc width = All-head (λ u. length u ≡ suc width) v vs h in
    ap₂ (λ (k : ℕ) (us : List (List ℚ)). take k v ∷ us) (let e : length v - 1 ≡ width = omega (arith, here) in e) (fronts_are width vs (All-tail (λ u. length u ≡ suc width) v vs h))

-- ---- rows that fit
fits_as : (gens : Bool) (width : ℕ) (kind : RepKind) (vs : List (List ℚ)) → kind_fits gens kind ≡ true → All (λ v. length v ≡ row_length width kind) vs →
    list_all (row_fits gens width) (as_rows kind vs) ≡ true
fits_as gens width kind [] k h = refl
fits_as gens width kind (v ∷ vs) k h =
    both_hold (row_fits gens width record { kind = kind; v = v }) (list_all (row_fits gens width) (as_rows kind vs))
    (both_hold (kind_fits gens kind) (length v == row_length width kind) k (eq-eqb (length v) (row_length width kind) (All-head (λ u. length u ≡ row_length width kind) v vs h)))
    (fits_as gens width kind vs k (All-tail (λ u. length u ≡ row_length width kind) v vs h))

fits_both : (gens : Bool) (width : ℕ) (xs ys : List RepRow) → list_all (row_fits gens width) xs ≡ true → list_all (row_fits gens width) ys ≡ true → list_all (row_fits gens width) (xs ++ ys) ≡ true
fits_both gens width [] ys a b = b
fits_both gens width (x ∷ xs) ys a b =
    let h = both_true (row_fits gens width x) (list_all (row_fits gens width) xs) a in
    both_hold (row_fits gens width x) (list_all (row_fits gens width) (xs ++ ys)) h.0 (fits_both gens width xs ys h.1 b)

all_sorted : (P : List ℚ → Type 0) (found listed : List (List ℚ)) → IsSorting (λ v. v) found listed → All P found → All P listed
all_sorted P found listed s h = all_of_members P listed (λ v c. member_of P found v h ((s.same v).1 c))

module _ (width : ℕ) (s : State) (lines_wide : All (λ v. length v ≡ suc width) s.lines) (wide : All (λ v. length v ≡ suc width) (vectors s.list.live)) where
  height_wide : (t : ℚ) → All (λ v. length v ≡ width) (at_height width t s)
  height_wide t = All-map (λ v. length v ≡ width) (take width) (filter (λ g. same_ℚ (entry g (suc width)) t) (vectors s.list.live))
      (all_of_members (λ v. length (take width v) ≡ width) (filter (λ g. same_ℚ (entry g (suc width)) t) (vectors s.list.live)) (λ v c.
      front_width width v (member_of (λ u. length u ≡ suc width) (vectors s.list.live) v wide (Contains-filter_source (λ g. same_ℚ (entry g (suc width)) t) (vectors s.list.live) v c).0)))

  front_lines : All (λ v. length v ≡ width) (map (take width) s.lines)
  front_lines = All-map (λ v. length v ≡ width) (take width) s.lines (all_of_members (λ v. length (take width v) ≡ width) s.lines (λ v c.
      front_width width v (member_of (λ u. length u ≡ suc width) s.lines v lines_wide c)))

  pub generators_fit : (rows : List RepRow) → GivesGenerators width s rows → list_all (row_fits true width) rows ≡ true
  generators_fit rows g = ap (list_all (row_fits true width)) g.all ∙ go (length g.points == 0)
    where
      go : (b : Bool) → list_all (row_fits true width) (if b then [] else as_rows Line (map (take width) s.lines) ++ (as_rows Point g.points ++ as_rows Direction g.directions)) ≡ true
      go true = refl
      go false = fits_both true width (as_rows Line (map (take width) s.lines)) (as_rows Point g.points ++ as_rows Direction g.directions)
          (fits_as true width Line (map (take width) s.lines) refl front_lines)
          (fits_both true width (as_rows Point g.points) (as_rows Direction g.directions)
          (fits_as true width Point g.points refl (all_sorted (λ v. length v ≡ width) (at_height width one_ℚ s) g.points g.points_are (height_wide one_ℚ)))
          (fits_as true width Direction g.directions refl (all_sorted (λ v. length v ≡ width) (at_height width zero_ℚ s) g.directions g.directions_are (height_wide zero_ℚ))))

  pub inequalities_fit : (rows : List RepRow) → GivesInequalities width s rows → list_all (row_fits false width) rows ≡ true
  inequalities_fit rows g = ap (list_all (row_fits false width)) g.all
      ∙ fits_both false width (as_rows Equal s.lines) (as_rows Side g.sides) (fits_as false width Equal s.lines refl lines_wide)
      (fits_as false width Side g.sides refl (all_sorted (λ v. length v ≡ suc width) (with_normal width s) g.sides g.sides_are
      (all_of_members (λ v. length v ≡ suc width) (with_normal width s) (λ v c.
      member_of (λ u. length u ≡ suc width) (vectors s.list.live) v wide (Contains-filter_source (λ u. not (list_all double.is_zero (take width u))) (vectors s.list.live) v c).0))))

-- ---- from the lines and live generators that stand
module _ (width : ℕ) (s : State) (lines vs : List (List ℚ)) (h : IsGiven width s lines vs) where
  pub height_sorted : (t : ℚ) (list listed : List (List ℚ)) → list ≡ flat_map (front_at t) vs →
      (AllPairs (λ a b. a ≢ b) list → IsSorting (λ v. v) list listed) → IsSorting (λ v. v) (at_height width t s) listed
  height_sorted t list listed e sort =
      let found : list ≡ map (take width) (filter (λ v. same_ℚ (entry v (suc width)) t) vs) = e ∙ heights_are width t vs h.wide in
      subst (λ (us : List (List ℚ)). IsSorting (λ v. v) us listed)
      (found ∙ ap (λ (us : List (List ℚ)). map (take width) (filter (λ v. same_ℚ (entry v (suc width)) t) us)) h.live_are)
      (sort (subst (λ (us : List (List ℚ)). AllPairs (λ a b. a ≢ b) us) (sym found) (heights_differ width t vs h.wide h.apart)))

  pub side_sorted : (list listed : List (List ℚ)) → list ≡ flat_map side_of vs →
      (AllPairs (λ a b. a ≢ b) list → IsSorting (λ v. v) list listed) → IsSorting (λ v. v) (with_normal width s) listed
  side_sorted list listed e sort =
      let found : list ≡ filter (λ v. not (list_all double.is_zero (take width v))) vs = e ∙ sides_are width vs h.wide in
      subst (λ (us : List (List ℚ)). IsSorting (λ v. v) us listed)
      (found ∙ ap (λ (us : List (List ℚ)). filter (λ v. not (list_all double.is_zero (take width v))) us) h.live_are)
      (sort (subst (λ (us : List (List ℚ)). AllPairs (λ a b. a ≢ b) us) (sym found)
      (pairs-filter (λ a b. a ≢ b) (λ v. not (list_all double.is_zero (take width v))) vs h.apart)))

  pub line_fronts : map (λ v. take (length v - 1) v) lines ≡ map (take width) s.lines
  line_fronts = fronts_are width lines h.lines_wide ∙ ap (λ vs. map (take width) vs) h.lines_are

  pub some_entries : All (λ v. 0 < length v) vs
  some_entries = All-weaker (λ v. length v ≡ suc width) (λ v. 0 < length v) (λ v e. omega (arith, e)) vs h.wide

  pub line_entries : All (λ v. 0 < length v) lines
  line_entries = All-weaker (λ v. length v ≡ suc width) (λ v. 0 < length v) (λ v e. omega (arith, e)) lines h.lines_wide

  pub rows_fit : (gens_given some : Bool) (rows : List RepRow) → GivesRows gens_given some width s rows → list_all (row_fits (not gens_given) width) rows ≡ true
  rows_fit true true rows g = inequalities_fit width s (subst (λ (ls : List (List ℚ)). All (λ v. length v ≡ suc width) ls) h.lines_are h.lines_wide)
      (subst (λ (us : List (List ℚ)). All (λ v. length v ≡ suc width) us) h.live_are h.wide) rows g
  rows_fit true false rows g = ap (list_all (row_fits false width)) g
      ∙ fits_as false width Side ((replicate width zero_ℚ ++ one_ℚ ∷ []) ∷ []) refl
      (All-cons (λ v. length v ≡ suc width) (replicate width zero_ℚ ++ one_ℚ ∷ []) [] (long width) (All-nil (λ v. length v ≡ suc width)))
    where
      long : (n : ℕ) → length (replicate n zero_ℚ ++ one_ℚ ∷ []) ≡ suc n
      long n = let a = length-append (replicate n zero_ℚ) (one_ℚ ∷ []) in let b = length-replicate n zero_ℚ in omega (arith, a, b)
  rows_fit false true rows g = generators_fit width s (subst (λ (ls : List (List ℚ)). All (λ v. length v ≡ suc width) ls) h.lines_are h.lines_wide)
      (subst (λ (us : List (List ℚ)). All (λ v. length v ≡ suc width) us) h.live_are h.wide) rows g
  rows_fit false false rows g = generators_fit width s (subst (λ (ls : List (List ℚ)). All (λ v. length v ≡ suc width) ls) h.lines_are h.lines_wide)
      (subst (λ (us : List (List ℚ)). All (λ v. length v ≡ suc width) us) h.live_are h.wide) rows g

-- rows that are listed one kind after the other
pub three_kinds : (r0 r1 r2 r3 : List RepRow) (a b d A B D : List (List ℚ)) → r0 ≡ [] → r1 ≡ r0 ++ as_rows Line a → r2 ≡ r1 ++ as_rows Point b → r3 ≡ r2 ++ as_rows Direction d →
    a ≡ A → b ≡ B → d ≡ D → r3 ≡ as_rows Line A ++ (as_rows Point B ++ as_rows Direction D)
three_kinds r0 r1 r2 r3 a b d A B D e0 e1 e2 e3 f1 f2 f3 =
    e3 ∙ ap₂ (λ (r : List RepRow) (v : List (List ℚ)). r ++ as_rows Direction v)
    (e2 ∙ ap₂ (λ (r : List RepRow) (v : List (List ℚ)). r ++ as_rows Point v) (e1 ∙ ap₂ (λ (r : List RepRow) (v : List (List ℚ)). r ++ as_rows Line v) e0 f1) f2) f3
    ∙ append_assoc (as_rows Line A) (as_rows Point B) (as_rows Direction D)

pub two_kinds : (r0 r1 r2 : List RepRow) (a b A B : List (List ℚ)) → r0 ≡ [] → r1 ≡ r0 ++ as_rows Equal a → r2 ≡ r1 ++ as_rows Side b → a ≡ A → b ≡ B → r2 ≡ as_rows Equal A ++ as_rows Side B
two_kinds r0 r1 r2 a b A B e0 e1 e2 f1 f2 =
    e2 ∙ ap₂ (λ (r : List RepRow) (v : List (List ℚ)). r ++ as_rows Side v) (e1 ∙ ap₂ (λ (r : List RepRow) (v : List (List ℚ)). r ++ as_rows Equal v) e0 f1) f2

-- ---- so it is after all entries
module _ (rep : Rep) (s : State) (started : Bool) (stands : Stands rep s started) (early : started ≡ false → s.list.live ≡ []) where
  vectors_wide : (b : Bool) → started ≡ b → All (λ v. length v ≡ suc rep.width) (vectors s.list.live)
  vectors_wide true e = (stands.begun e).live.described.generators_wide.wide
  vectors_wide false e = subst (λ (l : List Numbered). All (λ v. length v ≡ suc rep.width) (vectors l)) (sym (early e)) (All-nil (λ v. length v ≡ suc rep.width))

  vectors_apart : (b : Bool) → started ≡ b → AllPairs (λ a c. a ≢ c) (vectors s.list.live)
  vectors_apart true e =
      pairs-weaker (AreApart (pinned (readers rep s) (rows_in_use rep s))) (λ a c. a ≢ c) (vectors s.list.live)
      (λ a c a_in c_in two same. two.first (subst (λ (v : List ℚ). LiesIn (pinned (readers rep s) (rows_in_use rep s)) a v) same
      (all_of_members (λ r. IsTight r a → IsTight r a) (pinned (readers rep s) (rows_in_use rep s)) (λ r k t. t)))) (stands.begun e).live.described.apart
  vectors_apart false e = subst (λ (l : List Numbered). AllPairs (λ a c. a ≢ c) (vectors l)) (sym (early e)) (pairs-nil (λ a c. a ≢ c))

  pub given : IsGiven rep.width s s.lines (vectors s.list.live)
  given = record {
    lines_are = refl;
    live_are = refl;
    lines_wide = stands.lines.echelon.wide.wide;
    wide = vectors_wide started refl;
    apart = vectors_apart started refl;
  }

-- the vectors of the generators that are kept
pub kept_vectors : (gens : List Generator) → map (λ (g : Generator). g.vector) gens ≡ vectors (live_of gens)
kept_vectors [] = refl
kept_vectors (g ∷ gens) = ap (λ vs. g.vector ∷ vs) (kept_vectors gens)

pub given_after : (rep : Rep) (entries : List ConvEntry) (standing : Standing) → StandsAfter rep entries standing → (vs : List (List ℚ)) →
    vs ≡ map (λ (g : Generator). g.vector) standing.generators.items → IsGiven rep.width (state rep entries) standing.lines vs
given_after rep entries standing h vs e =
    let s : State = state rep entries in
    subst (λ (p : List (List ℚ) × List (List ℚ)). IsGiven rep.width s p.0 p.1)
    (λ i. (sym h.holds.keeps.lines i, sym (e ∙ kept_vectors standing.generators.items ∙ ap vectors h.holds.keeps.list.live) i))
    (given rep s standing.started h.holds.stands h.early)
