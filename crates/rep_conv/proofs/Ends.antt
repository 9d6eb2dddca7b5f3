-- Vectors by their last entry, and members of lists of rows.
use Rattle.std.proofs.Common.{◌≡◌, ℕ, zero, suc, ◌-◌, ◌<◌, Bool, true, false, cond, List, [], ◌∷◌, ◌++◌, map, length, take, filter, Contains, slice_index_or, refl, sym, ap, ap₂, ◌∙◌, subst, arith, ◌⊎◌, inl, inr}
use Rattle.std.specs.List.{flat_map}
use Rattle.std.proofs.lemmas.List.{length-take-le}
use Rattle.std.proofs.lemmas.List.Elements.{Contains-append_left, Contains-append_right, Contains-append_cases}
use Rattle.exact_field.specs.Rational.{ℚ, zero_ℚ, neg_ℚ}
use Rattle.exact_field.specs.Vector.{entry}
use Rattle.polyhedra.specs.Exactness.{homogenised}
use Rattle.polyhedra.specs.Negatives.{negated}
use Rattle.polyhedra.proofs.Algebra.{neg_zero}
use Rattle.polyhedra.proofs.Lists.{Contains-here, Contains-there, Contains-cases, Contains-nil}
use Rattle.polyhedra.proofs.Members.{Contains-map, Contains-map_source, Contains-filter, Contains-filter_source}
use Rattle.polyhedra.proofs.Homogenised.{IsHomogenised, unhomogenised}
use Rattle.rep_conv.specs.Sets.{is_kind, normal_of, bound_of}
use Rattle.rep_conv.specs.Converted.{as_rows}
use Rattle.rep_text.specs.declared.rep.RepKind.{RepKind}
use Rattle.rep_text.specs.declared.rep.RepRow.{RepRow}

-- ---- the last entry
pub take_front : (k : ℕ) (f : List ℚ) (t : ℚ) → length f ≡ k → take k (homogenised f t) ≡ f
take_front zero [] t h = refl
take_front zero (x ∷ f) t h = absurd (omega arith)
take_front (suc k) [] t h = absurd (omega arith)
take_front (suc k) (x ∷ f) t h = ap (λ w. x ∷ w) (take_front k f t (omega arith))

at_end : (f : List ℚ) (t : ℚ) (k : ℕ) → length f ≡ k → slice_index_or (homogenised f t) k zero_ℚ ≡ t
at_end [] t zero h = refl
at_end [] t (suc k) h = absurd (omega arith)
at_end (x ∷ f) t zero h = absurd (omega arith)
at_end (x ∷ f) t (suc k) h = at_end f t k (omega arith)

pub entry_last : (k : ℕ) (f : List ℚ) (t : ℚ) → length f ≡ k → entry (homogenised f t) (suc k) ≡ t
entry_last k f t h = ap (λ (n : ℕ). slice_index_or (homogenised f t) n zero_ℚ) (less k) ∙ at_end f t k h
  where
    less : (m : ℕ) → suc m - 1 ≡ m
    less m = omega arith

-- a vector by its front and its last entry
pub by_parts : (k : ℕ) (v : List ℚ) → length v ≡ suc k → v ≡ homogenised (take k v) (entry v (suc k))
by_parts k v h = go (unhomogenised k v h)
  where
    go : IsHomogenised k v → v ≡ homogenised (take k v) (entry v (suc k))
    go u = u.same ∙ ap₂ homogenised (sym (ap (take k) u.same ∙ take_front k u.front u.last u.wide)) (sym (ap (λ w. entry w (suc k)) u.same ∙ entry_last k u.front u.last u.wide))

pub front_width : (k : ℕ) (v : List ℚ) → length v ≡ suc k → length (take k v) ≡ k
front_width k v h = length-take-le k v (omega arith)

-- the normal and the bound of a row of so many entries
pub normal_is : (k : ℕ) (row : RepRow) → length row.v ≡ suc k → normal_of row ≡ take k row.v
normal_is k row h = ap (λ (n : ℕ). take n row.v) (less (length row.v) k h)
  where
    less : (m n : ℕ) → m ≡ suc n → m - 1 ≡ n
    less m n e = omega arith

pub bound_is : (k : ℕ) (row : RepRow) → length row.v ≡ suc k → bound_of row ≡ entry row.v (suc k)
bound_is k row h = ap (entry row.v) h

pub negated_homogenised : (y : List ℚ) → homogenised (negated y) zero_ℚ ≡ negated (homogenised y zero_ℚ)
negated_homogenised [] = ap (λ x. x ∷ []) (sym neg_zero)
negated_homogenised (x ∷ y) = ap (λ w. neg_ℚ x ∷ w) (negated_homogenised y)

-- ---- places
pub same_place : {X : Type 0} (xs : List X) (k : ℕ) (d e : X) → k < length xs → slice_index_or xs k d ≡ slice_index_or xs k e
same_place [] k d e h = absurd (omega arith)
same_place (x ∷ xs) zero d e h = refl
same_place (x ∷ xs) (suc k) d e h = same_place xs k d e (omega arith)

-- ---- members of rows made of rows
pub flat_source : {X : Type 0} (f : X → List (List ℚ)) (xs : List X) (r : List ℚ) → Contains (flat_map f xs) r → (x : X) × Contains xs x × Contains (f x) r
flat_source f [] r c = absurd (Contains-nil r c)
flat_source {X} f (x ∷ xs) r c = go (Contains-append_cases (f x) (flat_map f xs) r c) (λ k. flat_source f xs r k)
  where
    go : Contains (f x) r ⊎ Contains (flat_map f xs) r → (Contains (flat_map f xs) r → (y : X) × Contains xs y × Contains (f y) r) → (y : X) × Contains (x ∷ xs) y × Contains (f y) r
    go (inl k) again = (x, Contains-here x xs x refl, k)
    go (inr k) again = let a = again k in (a.0, Contains-there x xs a.0 a.1, a.2)

pub flat_member : {X : Type 0} (f : X → List (List ℚ)) (xs : List X) (x : X) (r : List ℚ) → Contains xs x → Contains (f x) r → Contains (flat_map f xs) r
flat_member f [] x r c k = absurd (Contains-nil x c)
flat_member {X} f (y ∷ xs) x r c k = go (Contains-cases y xs x c) (λ m. flat_member f xs x r m k)
  where
    go : (y ≡ x) ⊎ Contains xs x → (Contains xs x → Contains (flat_map f xs) r) → Contains (flat_map f (y ∷ xs)) r
    go (inl e) again = Contains-append_left (f y) (flat_map f xs) r (subst (λ (u : X). Contains (f u) r) (sym e) k)
    go (inr m) again = Contains-append_right (f y) (flat_map f xs) r (again m)

-- the vectors of the rows of a kind
abbrev pub vectors_in : RepKind → List RepRow → List (List ℚ)
vectors_in kind rows = map (λ row. row.v) (filter (λ row. is_kind kind row.kind) rows)

pub vector_source : (kind : RepKind) (rows : List RepRow) (v : List ℚ) → Contains (vectors_in kind rows) v → (row : RepRow) × Contains rows row × (is_kind kind row.kind ≡ true) × (row.v ≡ v)
vector_source kind rows v c =
    let s : (row : RepRow) × Contains (filter (λ r. is_kind kind r.kind) rows) row × (row.v ≡ v) = Contains-map_source (λ r. r.v) (filter (λ r. is_kind kind r.kind) rows) v c in
    let f = Contains-filter_source (λ r. is_kind kind r.kind) rows s.0 s.1 in
    (s.0, f.0, f.1, s.2)

pub vector_member : (kind : RepKind) (rows : List RepRow) (row : RepRow) → Contains rows row → is_kind kind row.kind ≡ true → Contains (vectors_in kind rows) row.v
vector_member kind rows row c e = Contains-map (λ r. r.v) (filter (λ r. is_kind kind r.kind) rows) row (Contains-filter (λ r. is_kind kind r.kind) rows row c e)

-- ---- rows of one kind
pub vectors-append : (kind : RepKind) (xs ys : List RepRow) → vectors_in kind (xs ++ ys) ≡ vectors_in kind xs ++ vectors_in kind ys
vectors-append kind [] ys = refl
vectors-append kind (x ∷ xs) ys = go (is_kind kind x.kind) (vectors-append kind xs ys)
  where
    go : (b : Bool) → vectors_in kind (xs ++ ys) ≡ vectors_in kind xs ++ vectors_in kind ys →
        map (λ row. row.v) (cond b (x ∷ filter (λ row. is_kind kind row.kind) (xs ++ ys)) (filter (λ row. is_kind kind row.kind) (xs ++ ys)))
        ≡ map (λ row. row.v) (cond b (x ∷ filter (λ row. is_kind kind row.kind) xs) (filter (λ row. is_kind kind row.kind) xs)) ++ vectors_in kind ys
    go true e = ap (λ w. x.v ∷ w) e
    go false e = e

pub vectors_same : (kind other : RepKind) (vs : List (List ℚ)) → is_kind kind other ≡ true → vectors_in kind (as_rows other vs) ≡ vs
vectors_same kind other [] e = refl
vectors_same kind other (v ∷ vs) e =
    ap (λ b. map (λ row. row.v) (cond b (record { kind = other; v = v } ∷ filter (λ row. is_kind kind row.kind) (as_rows other vs)) (filter (λ row. is_kind kind row.kind) (as_rows other vs)))) e
    ∙ ap (λ w. v ∷ w) (vectors_same kind other vs e)

pub vectors_none : (kind other : RepKind) (vs : List (List ℚ)) → is_kind kind other ≡ false → vectors_in kind (as_rows other vs) ≡ []
vectors_none kind other [] e = refl
vectors_none kind other (v ∷ vs) e =
    ap (λ b. map (λ row. row.v) (cond b (record { kind = other; v = v } ∷ filter (λ row. is_kind kind row.kind) (as_rows other vs)) (filter (λ row. is_kind kind row.kind) (as_rows other vs)))) e
    ∙ vectors_none kind other vs e
