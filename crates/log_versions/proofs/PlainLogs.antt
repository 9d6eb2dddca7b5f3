-- The plain log, entry by entry.
use Rattle.std.proofs.Common.{◌≡◌, ℕ, zero, suc, ◌-◌, List, [], ◌∷◌, ◌++◌, refl, sym, ap, ◌∙◌, append_assoc, append-nil, Bool, true, false, true≢false, not, ◌==◌, if◌then◌else◌, slice_index_or}
use Rattle.std.specs.List.{list_all}
use Rattle.std.proofs.lemmas.Bool.{and_parts, and_from}
use Rattle.std.proofs.lemmas.List.Elements.{filter_map-append}
use Rattle.frac128.specs.declared.vectors.Spot.{Spot}
use Rattle.deriv_log.specs.Formed.{is_formed, is_end, ends_once, IsLog}
use Rattle.word_lines.specs.Parts.{is_formed_part}
use Rattle.word_lines.specs.Parts.{vector, number, sparse, natural, pairs}
use Rattle.deriv_log.specs.declared.entry.Entry.{Entry}
use Rattle.deriv_log.specs.declared.entry.Entry.TheVariants.{Version, Duality, Cut, Start, Add, Point, Ray, Farkas, Whole, Line, Facet, End, Share, CutOf, PointOf, RayOf, AddHints}
use Rattle.log_versions.specs.Plain.{share_in, shares, shared, plain_entry, plain_after, plain}

-- ---- one more entry
shares-more : (vectors : List (List Spot)) (e : Entry) (entries : List Entry) → (vectors ++ shares (e ∷ [])) ++ shares entries ≡ vectors ++ shares (e ∷ entries)
shares-more vectors e entries =
    append_assoc vectors (shares (e ∷ [])) (shares entries) ∙ ap (λ (vs : List (List Spot)). vectors ++ vs) (sym (filter_map-append share_in (e ∷ []) entries))

plain_after-append : (vectors : List (List Spot)) (front back : List Entry) →
    plain_after vectors (front ++ back) ≡ plain_after vectors front ++ plain_after (vectors ++ shares front) back
plain_after-append vectors [] back = ap (λ vs. plain_after vs back) (sym (append-nil vectors))
plain_after-append vectors (e ∷ front) back =
    ap (λ es. plain_entry vectors e ++ es) (plain_after-append (vectors ++ shares (e ∷ [])) front back
    ∙ ap (λ vs. plain_after (vectors ++ shares (e ∷ [])) front ++ plain_after vs back) (shares-more vectors e front))
    ∙ sym (append_assoc (plain_entry vectors e) (plain_after (vectors ++ shares (e ∷ [])) front) (plain_after (vectors ++ shares (e ∷ front)) back))

pub plain-push : (before : List Entry) (e : Entry) → plain (before ++ e ∷ []) ≡ plain before ++ plain_entry (shares before) e
plain-push before e =
    plain_after-append [] before (e ∷ []) ∙ ap (λ es. plain before ++ es) (append-nil (plain_entry (shares before) e))

-- ---- the plain log is a log where the log is
formed_sparse : List Spot → Bool
formed_sparse v = is_formed_part (sparse v)

shared_formed : (vectors : List (List Spot)) (k : ℕ) → list_all formed_sparse vectors ≡ true → is_formed_part (sparse (shared vectors k)) ≡ true
unfolding formed_sparse
shared_formed vectors k h = at vectors (k - 1) h
  where
    at : (vs : List (List Spot)) (i : ℕ) → list_all formed_sparse vs ≡ true → is_formed_part (sparse (slice_index_or vs i [])) ≡ true
    at [] i g = refl
    at (v ∷ vs) zero g = (and_parts (formed_sparse v) (list_all formed_sparse vs) g).0
    at (v ∷ vs) (suc i) g = at vs i (and_parts (formed_sparse v) (list_all formed_sparse vs) g).1

-- an entry of a log as it stands in the plain log
formed_entry : (vectors : List (List Spot)) (e : Entry) → list_all formed_sparse vectors ≡ true → is_formed e ≡ true →
    list_all is_formed (plain_entry vectors e) ≡ true
formed_entry vectors (Version n) h k = go (n == 2) k
  where
    go : (b : Bool) → is_formed (Version n) ≡ true → list_all is_formed (Version (if b then 1 else n) ∷ []) ≡ true
    go true i = refl
    go false i = and_from (is_formed (Version n)) true i refl
formed_entry vectors (Share v) h k = refl
formed_entry vectors (CutOf w gamma share v) h k =
    let a = and_parts (is_formed_part (vector w)) _ k in
    let b = and_parts (is_formed_part (number gamma)) _ a.1 in
    let c = and_parts (is_formed_part (natural share)) _ b.1 in
    and_from _ true (and_from (is_formed_part (vector w)) _ a.0 (and_from (is_formed_part (number gamma)) _ b.0
    (and_from (is_formed_part (sparse (shared vectors share))) _ (shared_formed vectors share h) c.1))) refl
formed_entry vectors (PointOf generator share m) h k =
    let a = and_parts (is_formed_part (natural generator)) _ k in
    let b = and_parts (is_formed_part (natural share)) _ a.1 in
    and_from _ true (and_from (is_formed_part (natural generator)) _ a.0
    (and_from (is_formed_part (sparse (shared vectors share))) _ (shared_formed vectors share h) b.1)) refl
formed_entry vectors (RayOf generator share m) h k =
    let a = and_parts (is_formed_part (natural generator)) _ k in
    let b = and_parts (is_formed_part (natural share)) _ a.1 in
    and_from _ true (and_from (is_formed_part (natural generator)) _ a.0
    (and_from (is_formed_part (sparse (shared vectors share))) _ (shared_formed vectors share h) b.1)) refl
formed_entry vectors (AddHints cut ps hints) h k =
    let a = and_parts (is_formed_part (natural cut)) _ k in
    let b = and_parts (is_formed_part (pairs ps)) _ a.1 in
    and_from _ true (and_from (is_formed_part (natural cut)) _ a.0 (and_from (is_formed_part (pairs ps)) true b.0 refl)) refl
formed_entry vectors (Duality c weights picks inverse) h k = and_from (is_formed (Duality c weights picks inverse)) true k refl
formed_entry vectors (Cut w gamma u v) h k = and_from (is_formed (Cut w gamma u v)) true k refl
formed_entry vectors (Start cuts point directions) h k = and_from (is_formed (Start cuts point directions)) true k refl
formed_entry vectors (Add cut ps) h k = and_from (is_formed (Add cut ps)) true k refl
formed_entry vectors (Point generator x m) h k = and_from (is_formed (Point generator x m)) true k refl
formed_entry vectors (Ray generator x m) h k = and_from (is_formed (Ray generator x m)) true k refl
formed_entry vectors (Farkas u) h k = and_from (is_formed (Farkas u)) true k refl
formed_entry vectors (Whole x ray m) h k = and_from (is_formed (Whole x ray m)) true k refl
formed_entry vectors (Line d x ray m back n) h k = and_from (is_formed (Line d x ray m back n)) true k refl
formed_entry vectors (Facet cut) h k = and_from (is_formed (Facet cut)) true k refl
formed_entry vectors (End j) h k = and_from (is_formed (End j)) true k refl

all_append : {X : Type 0} (test : X → Bool) (xs ys : List X) → list_all test xs ≡ true → list_all test ys ≡ true → list_all test (xs ++ ys) ≡ true
all_append test [] ys h k = k
all_append test (x ∷ xs) ys h k =
    let p = and_parts (test x) (list_all test xs) h in and_from (test x) (list_all test (xs ++ ys)) p.0 (all_append test xs ys p.1 k)

more_formed : (vectors : List (List Spot)) (e : Entry) → list_all formed_sparse vectors ≡ true → is_formed e ≡ true →
    list_all formed_sparse (vectors ++ shares (e ∷ [])) ≡ true
unfolding formed_sparse
more_formed vectors e h k = all_append formed_sparse vectors (shares (e ∷ [])) h (own e k)
  where
    own : (d : Entry) → is_formed d ≡ true → list_all formed_sparse (shares (d ∷ [])) ≡ true
    own (Share v) i = i
    own (Version n) i = refl
    own (Duality c weights picks inverse) i = refl
    own (Cut w gamma u v) i = refl
    own (Start cuts point directions) i = refl
    own (Add cut ps) i = refl
    own (Point generator x m) i = refl
    own (Ray generator x m) i = refl
    own (Farkas u) i = refl
    own (Whole x ray m) i = refl
    own (Line d x ray m back n) i = refl
    own (Facet cut) i = refl
    own (End j) i = refl
    own (CutOf w gamma share v) i = refl
    own (PointOf generator share m) i = refl
    own (RayOf generator share m) i = refl
    own (AddHints cut ps hints) i = refl

plain_formed : (vectors : List (List Spot)) (entries : List Entry) → list_all formed_sparse vectors ≡ true → list_all is_formed entries ≡ true →
    list_all is_formed (plain_after vectors entries) ≡ true
plain_formed vectors [] h k = refl
plain_formed vectors (e ∷ entries) h k =
    let p = and_parts (is_formed e) (list_all is_formed entries) k in
    all_append is_formed (plain_entry vectors e) (plain_after (vectors ++ shares (e ∷ [])) entries) (formed_entry vectors e h p.0)
    (plain_formed (vectors ++ shares (e ∷ [])) entries (more_formed vectors e h p.0) p.1)

-- where an entry ends
ends_more : (e : Entry) (entries : List Entry) → is_end e ≡ false → ends_once entries ≡ true → ends_once (e ∷ entries) ≡ true
ends_more e [] h k = absurd (true≢false (sym k))
ends_more e (d ∷ entries) h k = and_from (not (is_end e)) (ends_once (d ∷ entries)) (ap not h) k

ends_after : (vectors : List (List Spot)) (e : Entry) (entries : List Entry) → is_end e ≡ false → ends_once entries ≡ true →
    ends_once (plain_entry vectors e ++ entries) ≡ true
ends_after vectors (Share v) entries h k = k
ends_after vectors (Version n) entries h k = ends_more (Version (if n == 2 then 1 else n)) entries refl k
ends_after vectors (CutOf w gamma share v) entries h k = ends_more (Cut w gamma (shared vectors share) v) entries refl k
ends_after vectors (PointOf generator share m) entries h k = ends_more (Point generator (shared vectors share) m) entries refl k
ends_after vectors (RayOf generator share m) entries h k = ends_more (Ray generator (shared vectors share) m) entries refl k
ends_after vectors (AddHints cut ps hints) entries h k = ends_more (Add cut ps) entries refl k
ends_after vectors (Duality c weights picks inverse) entries h k = ends_more (Duality c weights picks inverse) entries refl k
ends_after vectors (Cut w gamma u v) entries h k = ends_more (Cut w gamma u v) entries refl k
ends_after vectors (Start cuts point directions) entries h k = ends_more (Start cuts point directions) entries refl k
ends_after vectors (Add cut ps) entries h k = ends_more (Add cut ps) entries refl k
ends_after vectors (Point generator x m) entries h k = ends_more (Point generator x m) entries refl k
ends_after vectors (Ray generator x m) entries h k = ends_more (Ray generator x m) entries refl k
ends_after vectors (Farkas u) entries h k = ends_more (Farkas u) entries refl k
ends_after vectors (Whole x ray m) entries h k = ends_more (Whole x ray m) entries refl k
ends_after vectors (Line d x ray m back n) entries h k = ends_more (Line d x ray m back n) entries refl k
ends_after vectors (Facet cut) entries h k = ends_more (Facet cut) entries refl k
ends_after vectors (End j) entries h k = absurd (true≢false h)

ends_alone : (vectors : List (List Spot)) (e : Entry) → is_end e ≡ true → ends_once (plain_entry vectors e ++ []) ≡ true
ends_alone vectors (End j) h = refl
ends_alone vectors (Share v) h = absurd (true≢false (sym h))
ends_alone vectors (Version n) h = absurd (true≢false (sym h))
ends_alone vectors (CutOf w gamma share v) h = absurd (true≢false (sym h))
ends_alone vectors (PointOf generator share m) h = absurd (true≢false (sym h))
ends_alone vectors (RayOf generator share m) h = absurd (true≢false (sym h))
ends_alone vectors (AddHints cut ps hints) h = absurd (true≢false (sym h))
ends_alone vectors (Duality c weights picks inverse) h = absurd (true≢false (sym h))
ends_alone vectors (Cut w gamma u v) h = absurd (true≢false (sym h))
ends_alone vectors (Start cuts point directions) h = absurd (true≢false (sym h))
ends_alone vectors (Add cut ps) h = absurd (true≢false (sym h))
ends_alone vectors (Point generator x m) h = absurd (true≢false (sym h))
ends_alone vectors (Ray generator x m) h = absurd (true≢false (sym h))
ends_alone vectors (Farkas u) h = absurd (true≢false (sym h))
ends_alone vectors (Whole x ray m) h = absurd (true≢false (sym h))
ends_alone vectors (Line d x ray m back n) h = absurd (true≢false (sym h))
ends_alone vectors (Facet cut) h = absurd (true≢false (sym h))

not_is : (b : Bool) → not b ≡ true → b ≡ false
not_is true h = sym h
not_is false h = refl

plain_ends : (vectors : List (List Spot)) (entries : List Entry) → ends_once entries ≡ true → ends_once (plain_after vectors entries) ≡ true
plain_ends vectors [] h = h
plain_ends vectors (e ∷ []) h = ends_alone vectors e h
plain_ends vectors (e ∷ next ∷ entries) h =
    let p = and_parts (not (is_end e)) (ends_once (next ∷ entries)) h in
    ends_after vectors e (plain_after (vectors ++ shares (e ∷ [])) (next ∷ entries)) (not_is (is_end e) p.0)
    (plain_ends (vectors ++ shares (e ∷ [])) (next ∷ entries) p.1)

pub plain_log : (entries : List Entry) → IsLog entries → IsLog (plain entries)
plain_log entries h = record { formed = plain_formed [] entries refl h.formed; ends = plain_ends [] entries h.ends }
