-- Sparse vectors that are written place by place.
use Rattle.std.proofs.Common.{◌≡◌, ℕ, List, [], ◌∷◌, map, ◌++◌, refl, sym, ap₂, subst, ◌≤◌, true, All, IsTrue, not, Result, Ok, Err}
use Rattle.std.specs.Prelude.{◌&&◌, OnOk}
use Rattle.std.proofs.lemmas.Bool.{lt-ltb}
use Rattle.std.proofs.lemmas.List.Elements.{All-nil, All-cons, All-head, All-tail, All-append}
use Rattle.frac128.specs.Sparse.{is_zero, rises_above}
use Rattle.frac128.specs.declared.vectors.Spot.{Spot}
use Rattle.lin_rows.specs.Lines.{Rises}
use Rattle.upper_image.specs.Spots.{entry_of, IsVector}

-- no value is 0
abbrev pub AreKept : List Spot → Type 0
AreKept spots = All (λ s. IsTrue (not (is_zero s.value))) spots

rises : (n low : ℕ) (spots : List Spot) → Rises n low (map entry_of spots) → AreKept spots → rises_above low spots ≡ true
rises n low [] h k = refl
rises n low (s ∷ spots) h k =
    ap₂ (λ a b. a && b) (lt-ltb low s.at h.0)
    (ap₂ (λ a b. a && b) (All-head (λ s. IsTrue (not (is_zero s.value))) s spots k)
    (rises n s.at spots h.2 (All-tail (λ s. IsTrue (not (is_zero s.value))) s spots k)))

places : (n low : ℕ) (spots : List Spot) → Rises n low (map entry_of spots) → All (λ s. s.at ≤ n) spots
places n low [] h = All-nil (λ s. s.at ≤ n)
places n low (s ∷ spots) h = All-cons (λ s. s.at ≤ n) s spots h.1 (places n s.at spots h.2)

pub vector_of : (n : ℕ) (spots : List Spot) → Rises n 0 (map entry_of spots) → AreKept spots → IsVector n spots
vector_of n spots h k = record { sparse = rises n 0 spots h k; places = places n 0 spots h }

-- what follows where a call succeeds
pub on_ok : {T E : Type 0} (r : Result T E) (P Q : Type 0) → (P → Q) → OnOk r P → OnOk r Q
on_ok (Ok x) P Q f h = f h
on_ok (Err e) P Q f h = tt

pub kept_more : (old new : List Spot) (s : Spot) → new ≡ old ++ s ∷ [] → IsTrue (not (is_zero s.value)) → AreKept old → AreKept new
kept_more old new s pushed own kept =
    let P : Spot → Type 0 = λ s. IsTrue (not (is_zero s.value)) in
    subst AreKept (sym pushed) (All-append P old (s ∷ []) kept (All-cons P s [] own (All-nil P)))
