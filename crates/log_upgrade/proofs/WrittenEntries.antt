-- The entries of an upgrade can be written.
use Rattle.std.proofs.Common.{◌≡◌, ℕ, zero, suc, ◌+◌, ◌<◌, ◌≤◌, ◌^◌, List, [], ◌∷◌, refl, sym, ap, ◌∙◌, arith, length, get_or, Bool, true, false, ◌&&◌, lt-ltb, Option, None, Some}
use Rattle.std.specs.List.{list_all}
use Rattle.std.proofs.lemmas.Bool.{and_parts, and_from}
use Rattle.frac128.specs.declared.vectors.Spot.{Spot}
use Rattle.deriv_log.specs.Formed.{is_formed}
use Rattle.word_lines.specs.Parts.{is_formed_part, is_short}
use Rattle.word_lines.specs.Parts.{natural, number, vector, naturals, sparse, pairs}
use Rattle.deriv_log.specs.declared.entry.Entry.{Entry}
use Rattle.deriv_log.specs.declared.entry.Entry.TheVariants.{Version, Duality, Cut, Start, Add, Point, Ray, Farkas, Whole, Line, Facet, End, Share, CutOf, PointOf, RayOf, AddHints}
use Rattle.word_lines.specs.declared.part.LogPair.{LogPair}
use Rattle.log_versions.specs.Upgrade.{body, naming}

-- ---- hints
pub short_each : (ks : List ℕ) → ((i : ℕ) → get_or ks i 0 < 2 ^ 32) → list_all is_short ks ≡ true
short_each [] h = refl
short_each (k ∷ ks) h = and_from (is_short k) (list_all is_short ks) (lt-ltb k 4294967296 (h 0)) (short_each ks (λ i. h (suc i)))

pub hints_written : (cut : ℕ) (ps : List LogPair) (hints : List ℕ) → is_formed (Add cut ps) ≡ true → length hints ≤ 4294967294 →
    list_all is_short hints ≡ true → is_formed (AddHints cut ps hints) ≡ true
hints_written cut ps hints h few each =
    let p = and_parts (is_short cut) (is_formed_part (pairs ps) && true) h in
    let r = and_parts (is_formed_part (pairs ps)) true p.1 in
    let s : is_formed_part (naturals hints) ≡ true =
    and_from (is_short (length hints)) (list_all is_short hints) (lt-ltb (length hints) 4294967296 (omega arith)) each in
    and_from (is_short cut) (is_formed_part (pairs ps) && (is_formed_part (naturals hints) && true)) p.0
    (and_from (is_formed_part (pairs ps)) (is_formed_part (naturals hints) && true) r.0 (and_from (is_formed_part (naturals hints)) true s refl))

-- ---- shared vectors
second : (a b c : Bool) → (a && (b && (c && true))) ≡ true → b ≡ true
second a b c h = (and_parts b (c && true) ((and_parts a (b && (c && true)) h).1)).0

third : (a b c d : Bool) → (a && (b && (c && (d && true)))) ≡ true → c ≡ true
third a b c d h = second b c d (and_parts a (b && (c && (d && true))) h).1

abbrev one : Option (List Spot) → Bool
one (Some u) = is_formed_part (sparse u)
one None = true

pub vector_written : (e : Entry) (u : List Spot) → body e ≡ Some u → is_formed e ≡ true → is_formed (Share u) ≡ true
vector_written (Cut w gamma v x) u i h =
    and_from (is_formed_part (sparse u)) true
    (ap (λ (o : Option (List Spot)). one o) (sym i) ∙ third (is_formed_part (vector w)) (is_formed_part (number gamma)) (is_formed_part (sparse v)) (is_formed_part (sparse x)) h) refl
vector_written (Point g x m) u i h =
    and_from (is_formed_part (sparse u)) true
    (ap (λ (o : Option (List Spot)). one o) (sym i) ∙ second (is_formed_part (natural g)) (is_formed_part (sparse x)) (is_formed_part (sparse m)) h) refl
vector_written (Ray g x m) u i h =
    and_from (is_formed_part (sparse u)) true
    (ap (λ (o : Option (List Spot)). one o) (sym i) ∙ second (is_formed_part (natural g)) (is_formed_part (sparse x)) (is_formed_part (sparse m)) h) refl
vector_written (Version n) u i h = absurd cc
vector_written (Duality c weights picks inverse) u i h = absurd cc
vector_written (Start cuts point directions) u i h = absurd cc
vector_written (Add cut ps) u i h = absurd cc
vector_written (Farkas v) u i h = absurd cc
vector_written (Whole x ray m) u i h = absurd cc
vector_written (Line d x ray m back n) u i h = absurd cc
vector_written (Facet cut) u i h = absurd cc
vector_written (End k) u i h = absurd cc
vector_written (Share v) u i h = absurd cc
vector_written (CutOf w gamma share v) u i h = absurd cc
vector_written (PointOf g share m) u i h = absurd cc
vector_written (RayOf g share m) u i h = absurd cc
vector_written (AddHints cut ps hints) u i h = absurd cc

-- an entry that names a shared vector
generator_written : (g k : ℕ) (x m : List Spot) → k < 2 ^ 32 → list_all is_formed_part (natural g ∷ sparse x ∷ sparse m ∷ []) ≡ true →
    list_all is_formed_part (natural g ∷ natural k ∷ sparse m ∷ []) ≡ true
generator_written g k x m b h =
    let a = and_parts (is_short g) (is_formed_part (sparse x) && (is_formed_part (sparse m) && true)) h in
    let r = and_parts (is_formed_part (sparse x)) (is_formed_part (sparse m) && true) a.1 in
    and_from (is_short g) (is_short k && (is_formed_part (sparse m) && true)) a.0 (and_from (is_short k) (is_formed_part (sparse m) && true) (lt-ltb k 4294967296 b) r.1)

pub naming_written : (k : ℕ) (e : Entry) → k < 2 ^ 32 → is_formed e ≡ true → is_formed (naming k e) ≡ true
naming_written k (Cut w gamma u v) b h =
    let a = and_parts (is_formed_part (vector w)) _ h in
    let r = and_parts (is_formed_part (number gamma)) _ a.1 in
    let s = and_parts (is_formed_part (sparse u)) (is_formed_part (sparse v) && true) r.1 in
    and_from (is_formed_part (vector w)) _ a.0
    (and_from (is_formed_part (number gamma)) _ r.0 (and_from (is_short k) (is_formed_part (sparse v) && true) (lt-ltb k 4294967296 b) s.1))
naming_written k (Point g x m) b h = generator_written g k x m b h
naming_written k (Ray g x m) b h = generator_written g k x m b h
naming_written k (Version n) b h = h
naming_written k (Duality c weights picks inverse) b h = h
naming_written k (Start cuts point directions) b h = h
naming_written k (Add cut ps) b h = h
naming_written k (Farkas v) b h = h
naming_written k (Whole x ray m) b h = h
naming_written k (Line d x ray m back n) b h = h
naming_written k (Facet cut) b h = h
naming_written k (End kind) b h = h
naming_written k (Share v) b h = h
naming_written k (CutOf w gamma share v) b h = h
naming_written k (PointOf g share m) b h = h
naming_written k (RayOf g share m) b h = h
naming_written k (AddHints cut ps hints) b h = h
