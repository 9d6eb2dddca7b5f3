-- The two points on either side of a member, towards and away from one of its summands.
use Rattle.std.proofs.Common.{◌≡◌, ℕ, List, length, refl, sym, ap, ap₂, ◌∙◌, pos, [], ◌∷◌}
use Rattle.exact_field.specs.Rational.{ℚ, zero_ℚ, one_ℚ, ◌+ℚ◌, ◌*ℚ◌, neg_ℚ, ◌<ℚ◌}
use Rattle.exact_field.specs.Vector.{dot}
use Rattle.exact_field.specs.Ring.{v0, v1, v2, ◌⊕◌, ◌⊗◌, ◌⊝◌, num}
use Rattle.exact_field.proofs.RingTool.{ring}
use Rattle.exact_field.proofs.Rationals.{rationals, same_from_difference}
use Rattle.polyhedra.specs.Vectors.{plus, scaled}
use Rattle.polyhedra.proofs.Order.{product_zero}
use Rattle.polyhedra.proofs.Linear.{dot-plus, dot-scaled, length-plus, length-scaled, same_wide}

-- y moved towards g by the share l
abbrev pub towards : ℚ → List ℚ → List ℚ → List ℚ
towards l y g = plus (scaled (one_ℚ +ℚ neg_ℚ l) y) (scaled l g)

-- y = l g + others, moved away from g by the share l
abbrev pub away : ℚ → List ℚ → List ℚ → List ℚ
away l g others = plus (scaled (l *ℚ l) g) (scaled (one_ℚ +ℚ l) others)

pub towards_value : (l : ℚ) (y g r : List ℚ) → dot r (towards l y g) ≡ (one_ℚ +ℚ neg_ℚ l) *ℚ dot r y +ℚ l *ℚ dot r g
towards_value l y g r = dot-plus r (scaled (one_ℚ +ℚ neg_ℚ l) y) (scaled l g) ∙ ap₂ (λ a b. a +ℚ b) (dot-scaled r (one_ℚ +ℚ neg_ℚ l) y) (dot-scaled r l g)

pub away_value : (l : ℚ) (g others r : List ℚ) → dot r (away l g others) ≡ (l *ℚ l) *ℚ dot r g +ℚ (one_ℚ +ℚ l) *ℚ dot r others
away_value l g others r = dot-plus r (scaled (l *ℚ l) g) (scaled (one_ℚ +ℚ l) others) ∙ ap₂ (λ a b. a +ℚ b) (dot-scaled r (l *ℚ l) g)
    (dot-scaled r (one_ℚ +ℚ l) others)

pub towards_width : (n : ℕ) (l : ℚ) (y g : List ℚ) → length y ≡ n → length g ≡ n → length (towards l y g) ≡ n
towards_width n l y g h k = length-plus n (scaled (one_ℚ +ℚ neg_ℚ l) y) (scaled l g) (length-scaled (one_ℚ +ℚ neg_ℚ l) y ∙ h) (length-scaled l g ∙ k)

pub away_width : (n : ℕ) (l : ℚ) (g others : List ℚ) → length g ≡ n → length others ≡ n → length (away l g others) ≡ n
away_width n l g others h k = length-plus n (scaled (l *ℚ l) g) (scaled (one_ℚ +ℚ l) others) (length-scaled (l *ℚ l) g ∙ h)
    (length-scaled (one_ℚ +ℚ l) others ∙ k)

-- the member is their midpoint
pub two_sides : (n : ℕ) (l : ℚ) (y g others : List ℚ) → length y ≡ n → length g ≡ n → length others ≡ n → y ≡ plus (scaled l g) others →
    plus y y ≡ plus (towards l y g) (away l g others)
two_sides n l y g others h k m e =
    same_wide n (plus y y) (plus (towards l y g) (away l g others)) (length-plus n y y h h)
    (length-plus n (towards l y g) (away l g others) (towards_width n l y g h k) (away_width n l g others k m))
    (λ r.
    let v : dot r y ≡ l *ℚ dot r g +ℚ dot r others = ap (λ w. dot r w) e ∙ dot-plus r (scaled l g) others ∙ ap (λ a. a +ℚ dot r others) (dot-scaled r l g) in
    dot-plus r y y ∙ ap₂ (λ a b. a +ℚ b) v v
    ∙ ring rationals (l ∷ dot r g ∷ dot r others ∷ []) ((v0 ⊗ v1 ⊕ v2) ⊕ (v0 ⊗ v1 ⊕ v2))
    (((num (pos 1) ⊝ v0) ⊗ (v0 ⊗ v1 ⊕ v2) ⊕ v0 ⊗ v1) ⊕ ((v0 ⊗ v0) ⊗ v1 ⊕ (num (pos 1) ⊕ v0) ⊗ v2)) refl
    ∙ sym (dot-plus r (towards l y g) (away l g others)
    ∙ ap₂ (λ a b. a +ℚ b) (towards_value l y g r ∙ ap (λ a. (one_ℚ +ℚ neg_ℚ l) *ℚ a +ℚ l *ℚ dot r g) v) (away_value l g others r)))

-- a member that moves nowhere is what it moves towards
pub towards_same : (n : ℕ) (l : ℚ) (y g : List ℚ) → zero_ℚ <ℚ l → length y ≡ n → length g ≡ n → towards l y g ≡ y → g ≡ y
towards_same n l y g p h k e = same_wide n g y k h (λ r.
    same_from_difference (dot r g) (dot r y)
    (product_zero l (dot r g +ℚ neg_ℚ (dot r y)) p
    (ring rationals (l ∷ dot r y ∷ dot r g ∷ []) (v0 ⊗ (v2 ⊝ v1)) (((num (pos 1) ⊝ v0) ⊗ v1 ⊕ v0 ⊗ v2) ⊝ v1) refl
    ∙ ap (λ a. a +ℚ neg_ℚ (dot r y)) (sym (towards_value l y g r) ∙ ap (λ w. dot r w) e)
    ∙ Rattle.exact_field.proofs.Rationals.difference_self (dot r y))))
