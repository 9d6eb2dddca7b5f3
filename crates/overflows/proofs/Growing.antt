-- Trails entry by entry.
use Rattle.std.proofs.Common.{◌≡◌, ℕ, List, [], ◌∷◌, ◌++◌, length, refl, sym, ap, ap₂, ◌∙◌, Bool, subst, arith, append_assoc, true≢false, IsTrue, ◌⊎◌, inl, inr, drop, slice_index_or}
use Rattle.exact_field.specs.Rational.{ℚ}
use Rattle.frac128.specs.declared.vectors.Spot.{Spot}
use Rattle.vlp_problem.specs.declared.problem.Problem.{Problem}
use Rattle.upper_image.specs.Shows.{ShowsFitting, ShowsCut}
use Rattle.deriv_log.specs.declared.entry.Entry.{Entry}
use Rattle.deriv_log.specs.declared.entry.Entry.TheVariants.{Version, Duality, Cut}
use Rattle.polyhedra.proofs.Tests.{both_hold}
use Rattle.log_rules.specs.Live.{duality_vector}
use Rattle.log_rules.specs.Meets.{Meets}
use Rattle.log_rules.specs.Order.{has, in_order}
use Rattle.log_rules.specs.Order as order
use Rattle.log_rules.proofs.Entries.{meets_front}
use Rattle.overflows.specs.Base.{IsBaseCut}
use Rattle.overflows.specs.Laws.{TrailLaws}
use Rattle.overflows.specs.Licence.{opening, IsHeldDuality, IsPossible, Completes, StandsFor}
use Rattle.overflows.specs.Trails.{IsBaseDuality, IsBaseEntry, AllBase, IsBaseTrail}

-- ---- what holds of each entry after those before it
abbrev Each : (List Entry → Entry → Type 0) → List Entry → Type 0
Each P trail = (before : List Entry) (e : Entry) (after : List Entry) → trail ≡ before ++ e ∷ after → P before e

no_entry : (before : List Entry) (e : Entry) (after : List Entry) → [] ≡ before ++ e ∷ after → ⊥
no_entry [] e after h = let same : 0 ≡ length (e ∷ after) = ap (λ (es : List Entry). length es) h in omega (arith, same)
no_entry (d ∷ before) e after h = let same : 0 ≡ length (d ∷ before ++ e ∷ after) = ap (λ (es : List Entry). length es) h in omega (arith, same)

head : (x y : Entry) (xs ys : List Entry) → x ∷ xs ≡ y ∷ ys → x ≡ y
head x y xs ys h = ap (λ (es : List Entry). slice_index_or es 0 x) h

tail : (x y : Entry) (xs ys : List Entry) → x ∷ xs ≡ y ∷ ys → xs ≡ ys
tail x y xs ys h = ap (λ (es : List Entry). drop 1 es) h

-- an entry of a trail with one more is the last, or is one of the trail
abbrev Splits : List Entry → Entry → List Entry → Entry → Type 0
Splits trail d before e = ((trail ≡ before) × (d ≡ e)) ⊎ ((rest : List Entry) × (trail ≡ before ++ e ∷ rest))

split : (trail : List Entry) (d : Entry) (before : List Entry) (e : Entry) (after : List Entry) → trail ++ d ∷ [] ≡ before ++ e ∷ after →
    Splits trail d before e
split [] d [] e after h = inl (refl, head d e [] after h)
split [] d (x ∷ before) e after h = absurd (no_entry before e after (tail d x [] (before ++ e ∷ after) h))
split (t ∷ trail) d [] e after h = inr (trail, ap (λ (x : Entry). x ∷ trail) (head t e (trail ++ d ∷ []) after h))
split (t ∷ trail) d (x ∷ before) e after h =
    go (split trail d before e after (tail t x (trail ++ d ∷ []) (before ++ e ∷ after) h))
  where
    same : t ≡ x
    same = head t x (trail ++ d ∷ []) (before ++ e ∷ after) h

    go : Splits trail d before e → Splits (t ∷ trail) d (x ∷ before) e
    go (inl s) = inl (ap₂ (λ (y : Entry) (es : List Entry). y ∷ es) same s.0, s.1)
    go (inr s) = inr (s.0, ap₂ (λ (y : Entry) (es : List Entry). y ∷ es) same s.1)

each_more : (P : List Entry → Entry → Type 0) (trail : List Entry) (d : Entry) → Each P trail → P trail d → Each P (trail ++ d ∷ [])
each_more P trail d all last before e after h = go (split trail d before e after h)
  where
    go : Splits trail d before e → P before e
    go (inl s) = subst (λ (es : List Entry). P es e) s.0 (subst (λ (x : Entry). P trail x) s.1 last)
    go (inr s) = all before e s.0 s.1

each_front : (P : List Entry → Entry → Type 0) (before rest : List Entry) → Each P (before ++ rest) → Each P before
each_front P before rest all b e a same = all b e (a ++ rest) (ap (λ (es : List Entry). es ++ rest) same ∙ append_assoc b (e ∷ a) rest)

-- ---- base trails
pub none : (file : Problem) (c weights : List ℚ) → IsBaseTrail file c weights []
none file c weights =
    record { meet = λ before e after h. absurd (no_entry before e after h); base = λ before e after h. absurd (no_entry before e after h) }

pub grows : (file : Problem) (c weights : List ℚ) (trail : List Entry) (e : Entry) → IsBaseTrail file c weights trail → Meets file trail e →
    IsBaseEntry file c weights trail e → IsBaseTrail file c weights (trail ++ e ∷ [])
grows file c weights trail e t m b =
    record { meet = each_more (Meets file) trail e t.meet m; base = each_more (IsBaseEntry file c weights) trail e t.base b }

pub front : (file : Problem) (c weights : List ℚ) (before rest : List Entry) → IsBaseTrail file c weights (before ++ rest) →
    IsBaseTrail file c weights before
front file c weights before rest t =
    record { meet = meets_front file before rest t.meet; base = each_front (IsBaseEntry file c weights) before rest t.base }

pub opened : (file : Problem) (c weights : List ℚ) (picks : List ℕ) (inverse : List ℚ) → ShowsFitting file c weights picks inverse →
    IsBaseDuality file file.cone file.duality c weights → IsBaseTrail file c weights (opening c weights picks inverse)
opened file c weights picks inverse fits base =
    let first : IsBaseTrail file c weights (Version 1 ∷ []) = grows file c weights [] (Version 1) (none file c weights) (record { order = refl; rules = refl }) tt in
    grows file c weights (Version 1 ∷ []) (Duality c weights picks inverse) first (record { order = refl; rules = fits }) (refl, refl, base)

-- ---- the duality vector
vector_is : (file : Problem) (c weights : List ℚ) (before rest : List Entry) → AllBase file c weights (before ++ rest) →
    IsTrue (has order.duality rest) → duality_vector rest ≡ c
vector_is file c weights before [] all h = absurd (true≢false (sym h))
vector_is file c weights before (Duality d w p i ∷ rest) all h = (all before (Duality d w p i) rest refl).0
vector_is file c weights before (e ∷ rest) all h =
    vector_is file c weights (before ++ e ∷ []) rest (subst (λ (es : List Entry). AllBase file c weights es) (sym (append_assoc before (e ∷ []) rest)) all) h

pub cut_in_order : (trail : List Entry) → IsTrue (has order.duality trail) → IsTrue (in_order trail order.cut)
cut_in_order [] h = absurd (true≢false (sym h))
cut_in_order (t ∷ trail) h = both_hold _ _ (both_hold _ _ (both_hold _ _ h refl) refl) refl

cut : (file : Problem) (c weights : List ℚ) (trail : List Entry) (w : List ℚ) (gamma : ℚ) (u v : List Spot) → IsBaseTrail file c weights trail →
    IsTrue (has order.duality trail) → ShowsCut file c w gamma u v → IsBaseCut file c w u v →
    IsBaseTrail file c weights (trail ++ Cut w gamma u v ∷ [])
cut file c weights trail w gamma u v t given shown base =
    let same : duality_vector trail ≡ c = vector_is file c weights [] trail t.base given in
    grows file c weights trail (Cut w gamma u v) t
    (record { order = cut_in_order trail given; rules = subst (λ (d : List ℚ). ShowsCut file d w gamma u v) (sym same) shown }) base

-- ---- what a trail stands for
possible : (holds : ℚ → Bool) (file : Problem) (c weights : List ℚ) (picks : List ℕ) (inverse : List ℚ) → IsHeldDuality holds c weights inverse →
    ShowsFitting file c weights picks inverse → IsBaseDuality file file.cone file.duality c weights → IsPossible holds file c weights
possible holds file c weights picks inverse held fits base =
    record { picks = picks; inverse = inverse; held = held; trail = opened file c weights picks inverse fits base }

goes_on : (holds : ℚ → Bool) (file : Problem) (c weights : List ℚ) (trail whole : List Entry) (e : Entry) →
    StandsFor holds file c weights trail whole → Meets file whole e → IsBaseEntry file c weights whole e →
    StandsFor holds file c weights (trail ++ e ∷ []) (whole ++ e ∷ [])
goes_on holds file c weights trail whole e s m b =
    record { possible = s.possible; completes = go s.completes; base = grows file c weights whole e s.base m b }
  where
    go : Completes holds c weights trail whole → Completes holds c weights (trail ++ e ∷ []) (whole ++ e ∷ [])
    go (Completes.itself h) = Completes.itself (ap (λ (es : List Entry). es ++ e ∷ []) h)
    go (Completes.after_opening picks inverse held h) = Completes.after_opening picks inverse held (ap (λ (es : List Entry). es ++ e ∷ []) h)

pub trail_laws : TrailLaws
trail_laws = record {
  none = none;
  opened = opened;
  grows = grows;
  front = front;
  duality = λ file c weights trail t given. vector_is file c weights [] trail t.base given;
  cut = cut;
  begins = λ holds file c weights picks inverse held fits base. record {
    possible = possible holds file c weights picks inverse held fits base;
    completes = Completes.after_opening picks inverse held refl;
    base = opened file c weights picks inverse fits base;
  };
  own = λ holds file c weights picks inverse held fits base. record {
    possible = possible holds file c weights picks inverse held fits base;
    completes = Completes.itself refl;
    base = opened file c weights picks inverse fits base;
  };
  goes_on = goes_on;
}
