-- Tables whose rows stand one after the other in one list.
use Rattle.std.proofs.Common.{◌≡◌, ℕ, suc, List, [], ◌∷◌, ◌++◌, length, map, take, drop, refl, sym, ap, ap₂, ◌∙◌, subst, arith, ◌+◌, ◌-◌, ◌*◌}
use Rattle.std.specs.List.{slice_range}
use Rattle.std.proofs.Math.ListN.{length-append}
use Rattle.std.proofs.lemmas.List.{append_assoc, append-nil, length-map, map-append, take-map, drop-map}
use Rattle.std.proofs.Math.Seq.{drop-append_seam, take-append_seam}
use Rattle.std.proofs.lemmas.Grind.{flat_map-append}
use Rattle.exact_field.specs.Rational.{ℚ}
use Rattle.polyhedra.specs.Vectors.{AreWide}
use Rattle.polyhedra.proofs.Lists.{wide-head, wide-tail}
use Rattle.tableaux.specs.Table.{Table, System, IsSystem, list_from, listed}
use Rattle.lin_rows.proofs.Lists.{listed-push}
use Rattle.tableaux.proofs.Found.{list_from-same}
use Rattle.vlp_problem.proofs.Pieces.{flat_map-one}
use Rattle.lin_rows.specs.declared.system.System.{System as Program}
use Rattle.lin_rows.specs.System.{coefficients_of}
use Rattle.polyhedra.specs.Negatives.{negated}
use Rattle.lp_form.specs.Programs.{on_parts}
use Rattle.lp_form.specs.Building.{joined, IsWritten}

-- a system by its parts, as one that has equal parts
unfoldable pub system : Table → List ℚ → List ℚ → System
system equations right cost = record { equations = equations; right = right; cost = cost }

pub same_parts : {a b : Table} {r s c d : List ℚ} → a ≡ b → r ≡ s → c ≡ d → system a r c ≡ system b s d
same_parts e f g = cc

-- one row more
pub joined_more : (start before after row : List ℚ) (n : ℕ) (f : ℕ → List ℚ) → before ≡ start ++ joined (listed n f) → after ≡ before ++ row → row ≡ f (n + 1) →
    after ≡ start ++ joined (listed (n + 1) f)
joined_more start before after row n f is more own =
    more ∙ ap₂ (λ a b. a ++ b) is own ∙ append_assoc start (joined (listed n f)) (f (n + 1))
    ∙ ap (λ l. start ++ l) (sym (ap joined (listed-push n f) ∙ flat_map-one (λ r. r) (listed n f) (f (n + 1))))

-- none yet
pub joined_none : (start : List ℚ) (f : ℕ → List ℚ) → start ≡ start ++ joined (listed 0 f)
joined_none start f = sym (append-nil start)

pub joined-append : (s t : Table) → joined (s ++ t) ≡ joined s ++ joined t
joined-append s t = flat_map-append (λ r. r) s t

pub joined-one : (r : List ℚ) → joined (r ∷ []) ≡ r
joined-one r = append-nil r

length-joined : (cols : ℕ) (rows : Table) → AreWide cols rows → length (joined rows) ≡ length rows * cols
length-joined cols [] wide = omega arith
length-joined cols (r ∷ rows) wide =
    length-append r (joined rows) ∙ ap₂ (λ a b. a + b) (wide-head cols r rows wide) (length-joined cols rows (wide-tail cols r rows wide)) ∙ omega arith

-- a row that stands after others is cut out
cut_row : (front r more : List ℚ) (start width : ℕ) → length front ≡ start → length r ≡ width → slice_range (front ++ (r ++ more)) start (start + width) ≡ r
cut_row front r more start width long wide =
    let same : start + width - start ≡ length r = omega arith in
    ap (λ n. take n (drop start (front ++ (r ++ more)))) same
    ∙ ap (take (length r)) (ap (λ n. drop n (front ++ (r ++ more))) (sym long) ∙ drop-append_seam front (r ++ more))
    ∙ take-append_seam r more

cut_rows : (cols k : ℕ) (front : List ℚ) (rows : Table) → AreWide cols rows → length front ≡ k * cols →
    list_from (suc k) (length rows) (λ i. slice_range (front ++ joined rows) ((i - 1) * cols) ((i - 1) * cols + cols)) ≡ rows
cut_rows cols k front [] wide long = refl
cut_rows cols k front (r ∷ rows) wide long =
    let own : length r ≡ cols = wide-head cols r rows wide in
    let rest : Table = rows in
    let next : length (front ++ r) ≡ suc k * cols = length-append front r ∙ ap₂ (λ a b. a + b) long own ∙ omega arith in
    let back : suc k - 1 ≡ k = omega arith in
    ap₂ (λ a b. a ∷ b)
    (ap (λ j. slice_range (front ++ (r ++ joined rows)) (j * cols) (j * cols + cols)) back ∙ cut_row front r (joined rows) (k * cols) cols long own)
    (ap (λ l. list_from (suc (suc k)) (length rows) (λ i. slice_range l ((i - 1) * cols) ((i - 1) * cols + cols))) (sym (append_assoc front r (joined rows)))
    ∙ cut_rows cols (suc k) (front ++ r) rows (wide-tail cols r rows wide) next)

module _ {F : Type 0} (value : F → ℚ) where
  pub slice-map : (xs : List F) (i j : ℕ) → map value (slice_range xs i j) ≡ slice_range (map value xs) i j
  slice-map xs i j = sym (ap (take (j - i)) (drop-map value i xs) ∙ take-map value (j - i) (drop i xs))

  -- lists that are a system's, its equations one after the other, are a program that is this system in numbers
  pub written : (s : System) (p : Program F) → IsSystem s → map value p.a ≡ joined s.equations → map value p.b ≡ s.right → map value p.cost ≡ s.cost →
      p.rows ≡ length p.b → p.cols ≡ length p.cost → IsWritten value s p
  unfolding system
  written s p ok a b cost rows cols =
      let many : p.rows ≡ length s.equations = rows ∙ sym (length-map p.b value) ∙ ap length b ∙ ok.right_each in
      let width : p.cols ≡ length s.cost = cols ∙ sym (length-map p.cost value) ∙ ap length cost in
      let wide : AreWide p.cols s.equations = subst (λ (n : ℕ). AreWide n s.equations) (sym width) ok.wide in
      let equations : listed p.rows (λ i. map value (coefficients_of p i)) ≡ s.equations =
      list_from-same 1 p.rows (λ i. map value (coefficients_of p i)) (λ i. slice_range (joined s.equations) ((i - 1) * p.cols) ((i - 1) * p.cols + p.cols))
      (λ i low high. slice-map p.a ((i - 1) * p.cols) ((i - 1) * p.cols + p.cols) ∙ ap (λ l. slice_range l ((i - 1) * p.cols) ((i - 1) * p.cols + p.cols)) a)
      ∙ ap (λ n. listed n (λ i. slice_range (joined s.equations) ((i - 1) * p.cols) ((i - 1) * p.cols + p.cols))) many
      ∙ cut_rows p.cols 0 [] s.equations wide (omega arith) in
      record {
        lengths = record {
          coefficients = sym (length-map p.a value) ∙ ap length a ∙ length-joined p.cols s.equations wide ∙ ap (λ n. n * p.cols) (sym many);
          right = sym rows;
          cost = sym cols;
        };
        numbers = same_parts equations b cost;
      }

-- ---- pieces after an empty list
module _ {F : Type 0} (value : F → ℚ) where
  pub one_piece : (start a : List F) (p : List ℚ) → start ≡ [] → map value a ≡ map value start ++ p → map value a ≡ p
  one_piece start a p e h = h ∙ ap (λ l. map value l ++ p) e

  pub two_pieces : (start a b : List F) (p q : List ℚ) → start ≡ [] → map value a ≡ map value start ++ p → map value b ≡ map value a ++ q → map value b ≡ p ++ q
  two_pieces start a b p q e h k = k ∙ ap (λ l. l ++ q) (one_piece start a p e h)

  pub three_pieces : (start a b c : List F) (p q r : List ℚ) → start ≡ [] → map value a ≡ map value start ++ p → map value b ≡ map value a ++ q → map value c ≡ map value b ++ r →
      map value c ≡ p ++ q ++ r
  three_pieces start a b c p q r e h k l = l ∙ ap (λ s. s ++ r) (two_pieces start a b p q e h k)

  pub four_pieces : (start a b c d : List F) (p q r s : List ℚ) → start ≡ [] → map value a ≡ map value start ++ p → map value b ≡ map value a ++ q → map value c ≡ map value b ++ r →
      map value d ≡ map value c ++ s → map value d ≡ p ++ q ++ r ++ s
  four_pieces start a b c d p q r s e h k l m =
      m ∙ ap (λ t. t ++ s) (three_pieces start a b c p q r e h k l)

  -- a list that is appended as it stands
  pub appended : (old new more : List F) → new ≡ old ++ more → map value new ≡ map value old ++ map value more
  appended old new more h = ap (map value) h ∙ map-append value old more

-- ---- pieces after a list
pub pushed2 : {A : Type 0} (l0 l1 l2 u v : List A) → l1 ≡ l0 ++ u → l2 ≡ l1 ++ v → l2 ≡ l0 ++ (u ++ v)
pushed2 l0 l1 l2 u v h k = k ∙ ap (λ x. x ++ v) h ∙ append_assoc l0 u v

pub pushed3 : {A : Type 0} (l0 l1 l2 l3 u v w : List A) → l1 ≡ l0 ++ u → l2 ≡ l1 ++ v → l3 ≡ l2 ++ w → l3 ≡ l0 ++ (u ++ v ++ w)
pushed3 l0 l1 l2 l3 u v w h k l = pushed2 l0 l2 l3 (u ++ v) w (pushed2 l0 l1 l2 u v h k) l

pub pushed4 : {A : Type 0} (l0 l1 l2 l3 l4 u v w x : List A) → l1 ≡ l0 ++ u → l2 ≡ l1 ++ v → l3 ≡ l2 ++ w → l4 ≡ l3 ++ x → l4 ≡ l0 ++ (u ++ v ++ w ++ x)
pushed4 l0 l1 l2 l3 l4 u v w x h k l m = pushed2 l0 l3 l4 (u ++ v ++ w) x (pushed3 l0 l1 l2 l3 u v w h k l) m

-- an equation on u, w and what stands after them, piece by piece
pub parts_pushed : (l0 l1 l2 l3 u w after : List ℚ) → l1 ≡ l0 ++ u → l2 ≡ (l1 ++ w) ++ negated w → l3 ≡ l2 ++ after → l3 ≡ l0 ++ on_parts u w after
parts_pushed l0 l1 l2 l3 u w after h k l = pushed4 l0 l1 (l1 ++ w) l2 l3 u w (negated w) after h refl k l

-- two rows after others
pub joined_two : (t : Table) (r s : List ℚ) → joined (t ++ r ∷ s ∷ []) ≡ (joined t ++ r) ++ s
joined_two t r s = joined-append t (r ∷ s ∷ []) ∙ ap (λ x. joined t ++ (r ++ x)) (append-nil s) ∙ sym (append_assoc (joined t) r s)
