-- The words of parts: none is empty, and none has a blank or a line feed.
use Rattle.std.proofs.Common.{◌≡◌, refl, ℕ, suc, ◌^◌, ◌<◌, true, false, ◌||◌, nat_lt, eqb, ◌==◌, cond, Bool, IsTrue, List, [], ◌∷◌, ◌++◌, length, map, arith, ap, ◌∙◌, decimal, codes, ℤ, pos, negsuc, unsigned_abs, ne_eqb}
use Rattle.std.specs.Fmt.{signed_decimal}
use Rattle.std.specs.List.{AllByRecursion, list_all, list_any, flat_map}
use Rattle.std.proofs.lemmas.Bool.{and_parts, ltb-true}
use Rattle.std.proofs.lemmas.Fmt.{decimal_is_IsNumeral_wide}
use Rattle.std.proofs.lemmas.List.Elements.{All-append, All-cons, All-nil}
use Rattle.exact_field.specs.Rational.{ℚ}
use Rattle.frac128.specs.Held.{is_held, held_small}
use Rattle.frac128.specs.Text.{frac_text}
use Rattle.frac128.specs.declared.vectors.Spot.{Spot}
use Rattle.word_lines.specs.Parts.{Part, natural, number, vector, naturals, sparse, pairs, kind, part_words, spot_words, pair_words, end_word, is_short, is_formed_part, is_formed_pair, is_formed_spot}
use Rattle.word_lines.specs.declared.part.LogPair.{LogPair}
use Rattle.word_lines.specs.declared.part.EndKind.{EndKind}
use Rattle.word_lines.specs.declared.part.EndKind.TheVariants.{Infeasible, Whole as WholeEnd, NoVertex, Solved}
use Rattle.word_lines.proofs.Cutting.{Lacks, digits_lack, letters_lack}
use Rattle.word_lines.proofs.Numerals.{decimal_leads}
use Rattle.word_lines.proofs.Forms.{Words}

-- a word that is not empty, and has no blank and no line feed
pub record IsPrinted (w : List ℕ) : Type 0 where
  pub some : 0 < length w
  pub no_blank : Lacks 32 w
  pub no_feed : Lacks 10 w

pub printed_natural : (n : ℕ) → n < 10 ^ 64 → IsPrinted (decimal n)
printed_natural n h =
    let digits = (decimal_is_IsNumeral_wide n h).0.1 in
    record { some = (decimal_leads n h).0; no_blank = digits_lack 32 (decimal n) (omega arith) digits; no_feed = digits_lack 10 (decimal n) (omega arith) digits }

lacks_sign : (c : ℕ) (z : ℤ) → c < 45 → unsigned_abs z < 2 ^ 120 → Lacks c (signed_decimal z)
lacks_sign c (pos n) low h = digits_lack c (decimal n) (omega arith) (decimal_is_IsNumeral_wide n (omega arith)).0.1
lacks_sign c (negsuc n) low h = All-cons (λ b. eqb b c ≡ false) 45 (decimal (suc n)) (ne_eqb 45 c (omega arith)) (digits_lack c (decimal (suc n)) (omega arith) (decimal_is_IsNumeral_wide (suc n) (omega arith)).0.1)

lacks_den : (c d : ℕ) (b : Bool) → c < 45 → d < 2 ^ 120 → Lacks c (cond b [] (47 ∷ decimal d))
lacks_den c d true low h = All-nil (λ b. eqb b c ≡ false)
lacks_den c d false low h = All-cons (λ b. eqb b c ≡ false) 47 (decimal d) (ne_eqb 47 c (omega arith)) (digits_lack c (decimal d) (omega arith) (decimal_is_IsNumeral_wide d (omega arith)).0.1)

some_sign : (z : ℤ) (rest : List ℕ) → unsigned_abs z < 2 ^ 120 → 0 < length (signed_decimal z ++ rest)
some_sign (pos n) rest h = by (decimal n) (decimal_leads n (omega arith)).0
  where
    by : (w : List ℕ) → 0 < length w → 0 < length (w ++ rest)
    by [] k = absurd (omega arith)
    by (x ∷ w) k = omega arith
some_sign (negsuc n) rest h = omega arith

pub printed_number : (q : ℚ) → is_held q ≡ true → IsPrinted (frac_text q)
printed_number q h =
    let small = held_small q h in
    let lacks : (c : ℕ) → c < 45 → Lacks c (frac_text q) =
    λ c low. All-append (λ b. eqb b c ≡ false) (signed_decimal q.num) _ (lacks_sign c q.num low small.num_small) (lacks_den c q.den (eqb q.den 1) low small.den_small) in
    record { some = some_sign q.num _ small.num_small; no_blank = lacks 32 (omega arith); no_feed = lacks 10 (omega arith) }

pub printed_letters : (w : List ℕ) → 0 < length w → IsTrue (list_all (nat_lt 44) w) → IsPrinted w
printed_letters w some h = record { some = some; no_blank = letters_lack 32 w (omega arith) h; no_feed = letters_lack 10 w (omega arith) h }

abbrev pub Printed : Words → Type 0
Printed ws = AllByRecursion IsPrinted ws

pub printed_append : (v w : Words) → Printed v → Printed w → Printed (v ++ w)
printed_append [] w h k = k
printed_append (x ∷ v) w h k = (h.0, printed_append v w h.1 k)

pub printed_short : (n : ℕ) → is_short n ≡ true → IsPrinted (decimal n)
printed_short n h = let low = ltb-true n (2 ^ 32) h in printed_natural n (omega arith)

pub printed_each : {X : Type 0} (f : X → Words) (good : X → Bool) → ((x : X) → good x ≡ true → Printed (f x)) → (xs : List X) → list_all good xs ≡ true → Printed (flat_map f xs)
printed_each f good g [] h = tt
printed_each f good g (x ∷ xs) h =
    let p = and_parts (good x) (list_all good xs) h in
    printed_append (f x) (flat_map f xs) (g x p.0) (printed_each f good g xs p.1)

pub printed_map : {X : Type 0} (f : X → List ℕ) (good : X → Bool) → ((x : X) → good x ≡ true → IsPrinted (f x)) → (xs : List X) → list_all good xs ≡ true → Printed (map f xs)
printed_map f good g [] h = tt
printed_map f good g (x ∷ xs) h = let p = and_parts (good x) (list_all good xs) h in (g x p.0, printed_map f good g xs p.1)

pub printed_spot : (s : Spot) → is_formed_spot s ≡ true → Printed (spot_words s)
printed_spot s h = let p = and_parts (is_short s.at) (is_held s.value) h in (printed_short s.at p.0, (printed_number s.value p.1, tt))

printed_pair : (p : LogPair) → is_formed_pair p ≡ true → Printed (pair_words p)
printed_pair p h = let k = and_parts (is_short p.plus) (is_short p.minus) h in (printed_short p.plus k.0, (printed_short p.minus k.1, tt))

printed_kind : (k : EndKind) → IsPrinted (end_word k)
printed_kind Infeasible = printed_letters (codes "infeasible") (omega arith) refl
printed_kind WholeEnd = printed_letters (codes "whole") (omega arith) refl
printed_kind NoVertex = printed_letters (codes "novertex") (omega arith) refl
printed_kind Solved = printed_letters (codes "solved") (omega arith) refl

pub printed_part : (p : Part) → is_formed_part p ≡ true → Printed (part_words p)
printed_part (natural n) h = (printed_short n h, tt)
printed_part (number q) h = (printed_number q h, tt)
printed_part (vector v) h = let p = and_parts (is_short (length v)) (list_all is_held v) h in (printed_short (length v) p.0, printed_map frac_text is_held printed_number v p.1)
printed_part (naturals ns) h = let p = and_parts (is_short (length ns)) (list_all is_short ns) h in (printed_short (length ns) p.0, printed_map decimal is_short printed_short ns p.1)
printed_part (sparse u) h =
    let p = and_parts (is_short (length u)) _ h in
    let q = and_parts _ (list_all is_formed_spot u) p.1 in
    (printed_short (length u) p.0, printed_each spot_words is_formed_spot printed_spot u q.1)
printed_part (pairs ps) h = let p = and_parts (is_short (length ps)) (list_all is_formed_pair ps) h in (printed_short (length ps) p.0, printed_each pair_words is_formed_pair printed_pair ps p.1)
printed_part (kind k) h = (printed_kind k, tt)

pub no_blanks : (ws : Words) → Printed ws → AllByRecursion (Lacks 32) ws
no_blanks [] h = tt
no_blanks (w ∷ ws) h = (h.0.no_blank, no_blanks ws h.1)

pub no_feeds : (ws : Words) → Printed ws → AllByRecursion (Lacks 10) ws
no_feeds [] h = tt
no_feeds (w ∷ ws) h = (h.0.no_feed, no_feeds ws h.1)

pub none_empty : (ws : Words) → Printed ws → list_any (λ w. length w == 0) ws ≡ false
none_empty [] h = refl
none_empty (w ∷ ws) h =
    let some = h.0.some in
    ap (λ b. b || list_any (λ v. length v == 0) ws) (ne_eqb (length w) 0 (omega arith)) ∙ none_empty ws h.1
