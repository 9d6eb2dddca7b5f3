-- The words of a part pass its tests and leave what stands after them, and words that pass the tests of a
-- form begin with those of a part.
use Rattle.std.proofs.Common.{◌≡◌, refl, ℕ, zero, suc, ◌^◌, ◌<◌, true, false, not, ◌&&◌, ◌||◌, nat_lt, cond, Bool, List, [], ◌∷◌, ◌++◌, length, map, arith, ap, sym, ◌∙◌, decimal, codes, None, Some, Option, if◌then◌else◌, Ok, Err, append_assoc}
use Rattle.std.specs.List.{list_all, flat_map}
use Rattle.std.specs.Option.{option_or}
use Rattle.std.specs.Str.Parse.{digits_value}
use Rattle.std.proofs.lemmas.Bool.{and_parts, and_from, lt-ltb, ltb-true}
use Rattle.exact_field.specs.Rational.{ℚ}
use Rattle.frac128.specs.Held.{is_held}
use Rattle.frac128.specs.Sparse.{is_zero, rises_above}
use Rattle.frac128.specs.Text.{frac_text}
use Rattle.frac128.specs.declared.vectors.Spot.{Spot}
use Rattle.word_lines.specs.Parts.{is_short, is_formed_part, is_formed_pair, is_formed_spot}
use Rattle.word_lines.specs.LineFault.{Form, form_of, Left, unless, and_then, word, times, counted, value_fault, place_fault, spots, kind_fault, pair, left_after, left_after_all}
use Rattle.word_lines.specs.LineFault as form
use Rattle.word_lines.specs.Parts.{Part, natural, number, vector, naturals, sparse, pairs, kind, part_words, spot_words, pair_words, end_word}
use Rattle.word_lines.specs.Numerals.{same_word, natural_fault, number_fault}
use Rattle.word_lines.specs.declared.part.LogPair.{LogPair}
use Rattle.word_lines.specs.declared.part.EndKind.{EndKind}
use Rattle.word_lines.specs.declared.part.EndKind.TheVariants.{Infeasible, Whole as WholeEnd, NoVertex, Solved}
use Rattle.word_lines.specs.declared.fault.LogKind.{LogKind}
use Rattle.word_lines.specs.declared.fault.LogKind.TheVariants.{BadLine, BadNumber, OutOfRange}
use Rattle.word_lines.proofs.Numerals.{same_word-true, natural_passes, natural_text, value_of_decimal}
use Rattle.word_lines.proofs.Fractions.{number_passes, number_text, same_as_zero}

abbrev pub Words : Type 0
Words = List (List ℕ)

-- one word

pub word_passes : (test : List ℕ → Option LogKind) (w : List ℕ) (rest : Words) → test w ≡ None → word test (w ∷ rest) ≡ Ok rest
word_passes test w rest h = ap (λ o. unless o (Ok rest)) h

unless_ok : (o : Option LogKind) (l : Left) (rest : Words) → unless o l ≡ Ok rest → (o ≡ None) × (l ≡ Ok rest)
unless_ok None l rest h = (refl, h)
unless_ok (Some k) l rest h = cc

and_then_ok : (l : Left) (next : Words → Left) (rest : Words) → and_then l next ≡ Ok rest → (words : Words) × (l ≡ Ok words) × (next words ≡ Ok rest)
and_then_ok (Ok words) next rest h = (words, refl, h)
and_then_ok (Err k) next rest h = cc

-- a word that passes a test stands first
pub word_read : (test : List ℕ → Option LogKind) (words rest : Words) → word test words ≡ Ok rest → (w : List ℕ) × (test w ≡ None) × (words ≡ w ∷ rest)
word_read test [] rest h = cc
word_read test (w ∷ words) rest h = let k = unless_ok (test w) (Ok words) rest h in (w, k.0, cc)

-- parts of one form, one after the other

-- what the words of an item are, and that they are read and read back
pub record Reads (X : Type 0) : Type 0 where
  pub step : Words → Left
  pub words_of : X → Words
  pub is_good : X → Bool
  pub passes : (x : X) (rest : Words) → is_good x ≡ true → step (words_of x ++ rest) ≡ Ok rest
  pub found : (words rest : Words) → step words ≡ Ok rest → (x : X) × (is_good x ≡ true) × (words ≡ words_of x ++ rest)

module _ {X : Type 0} (r : Reads X) where
  pub times_pass : (xs : List X) (rest : Words) → list_all r.is_good xs ≡ true → times r.step (length xs) (flat_map r.words_of xs ++ rest) ≡ Ok rest
  times_pass [] rest h = refl
  times_pass (x ∷ xs) rest h =
      let p = and_parts (r.is_good x) (list_all r.is_good xs) h in
      ap (λ ws. and_then (r.step ws) (times r.step (length xs))) (append_assoc (r.words_of x) (flat_map r.words_of xs) rest)
      ∙ ap (λ l. and_then l (times r.step (length xs))) (r.passes x (flat_map r.words_of xs ++ rest) p.0)
      ∙ times_pass xs rest p.1

  pub times_found : (n : ℕ) (words rest : Words) → times r.step n words ≡ Ok rest → (xs : List X) × (length xs ≡ n) × (list_all r.is_good xs ≡ true) × (words ≡ flat_map r.words_of xs ++ rest)
  times_found zero words rest h = ([], refl, refl, cc)
  times_found (suc n) words rest h =
      let k = and_then_ok (r.step words) (times r.step n) rest h in
      let first = r.found words k.0 k.1 in
      let more = times_found n k.0 rest k.2 in (
        first.0 ∷ more.0,
        ap suc more.1,
        and_from (r.is_good first.0) _ first.1 more.2,
        first.2 ∙ ap (λ ws. r.words_of first.0 ++ ws) more.3 ∙ sym (append_assoc (r.words_of first.0) (flat_map r.words_of more.0) rest),
      )

-- after a count

pub counted_passes : (items : ℕ → Words → Left) (n : ℕ) (words rest : Words) → n < 2 ^ 32 → items n words ≡ Ok rest → counted items (decimal n ∷ words) ≡ Ok rest
counted_passes items n words rest low h =
    ap (λ o. unless o (items (digits_value 10 (decimal n)) words)) (natural_passes n low) ∙ ap (λ m. items m words) (value_of_decimal n (omega arith)) ∙ h

pub counted_found : (items : ℕ → Words → Left) (words rest : Words) → counted items words ≡ Ok rest → (n : ℕ) × (ws : Words) × (n < 2 ^ 32) × (words ≡ decimal n ∷ ws) × (items n ws ≡ Ok rest)
counted_found items [] rest h = cc
counted_found items (w ∷ words) rest h =
    let k = unless_ok (natural_fault w) (items (digits_value 10 w) words) rest h in
    let text = natural_text w k.0 in
    (digits_value 10 w, words, text.0, ap (λ v. v ∷ words) (sym text.1), k.1)

-- the items of lists

natural_found : (words rest : Words) → word natural_fault words ≡ Ok rest → (n : ℕ) × (is_short n ≡ true) × (words ≡ (decimal n ∷ []) ++ rest)
natural_found words rest h =
    let k = word_read natural_fault words rest h in
    let text = natural_text k.0 k.1 in
    (digits_value 10 k.0, lt-ltb (digits_value 10 k.0) (2 ^ 32) text.0, k.2 ∙ ap (λ v. v ∷ rest) (sym text.1))

pub reads_naturals_pass : (n : ℕ) (rest : Words) → is_short n ≡ true → word natural_fault ((decimal n ∷ []) ++ rest) ≡ Ok rest
reads_naturals_pass n rest h = word_passes natural_fault (decimal n) rest (natural_passes n (ltb-true n (2 ^ 32) h))

reads_naturals : Reads ℕ
reads_naturals = record {
  step = word natural_fault;
  words_of = λ n. decimal n ∷ [];
  is_good = is_short;
  passes = reads_naturals_pass;
  found = natural_found;
}

number_found : (words rest : Words) → word number_fault words ≡ Ok rest → (q : ℚ) × (is_held q ≡ true) × (words ≡ (frac_text q ∷ []) ++ rest)
number_found words rest h =
    let k = word_read number_fault words rest h in
    let text = number_text k.0 k.1 in
    (text.0, text.1, k.2 ∙ ap (λ v. v ∷ rest) text.2)

pub reads_numbers_pass : (q : ℚ) (rest : Words) → is_held q ≡ true → word number_fault ((frac_text q ∷ []) ++ rest) ≡ Ok rest
reads_numbers_pass q rest h = word_passes number_fault (frac_text q) rest (number_passes q h)

reads_numbers : Reads ℚ
reads_numbers = record {
  step = word number_fault;
  words_of = λ q. frac_text q ∷ [];
  is_good = is_held;
  passes = reads_numbers_pass;
  found = number_found;
}

pub pair_passes : (p : LogPair) (rest : Words) → is_formed_pair p ≡ true → pair (pair_words p ++ rest) ≡ Ok rest
pair_passes p rest h =
    let k = and_parts (is_short p.plus) (is_short p.minus) h in
    ap (λ l. and_then l (word natural_fault)) (word_passes natural_fault (decimal p.plus) (decimal p.minus ∷ rest) (natural_passes p.plus (ltb-true p.plus (2 ^ 32) k.0)))
    ∙ word_passes natural_fault (decimal p.minus) rest (natural_passes p.minus (ltb-true p.minus (2 ^ 32) k.1))

pair_found : (words rest : Words) → pair words ≡ Ok rest → (p : LogPair) × (is_formed_pair p ≡ true) × (words ≡ pair_words p ++ rest)
pair_found words rest h =
    let k = and_then_ok (word natural_fault words) (word natural_fault) rest h in
    let first = natural_found words k.0 k.1 in
    let second = natural_found k.0 rest k.2 in
    (record { plus = first.0; minus = second.0 }, and_from (is_short first.0) (is_short second.0) first.1 second.1, first.2 ∙ ap (λ ws. decimal first.0 ∷ ws) second.2)

reads_pairs : Reads LogPair
reads_pairs = record { step = pair; words_of = pair_words; is_good = is_formed_pair; passes = pair_passes; found = pair_found }

-- places and values

pub value_passes : (q : ℚ) → is_held q ≡ true → not (is_zero q) ≡ true → value_fault (frac_text q) ≡ None
value_passes q held some = by (is_zero q) some (same_as_zero q held)
  where
    by : (b : Bool) → not b ≡ true → same_word (frac_text q) (codes "0") ≡ b → value_fault (frac_text q) ≡ None
    by true h e = cc
    by false h e = ap (λ b. cond b (Some BadNumber) (number_fault (frac_text q))) e ∙ number_passes q held

value_read : (w : List ℕ) → value_fault w ≡ None → (q : ℚ) × (is_held q ≡ true) × (not (is_zero q) ≡ true) × (w ≡ frac_text q)
value_read w h = by (same_word w (codes "0")) refl h
  where
    by : (b : Bool) → same_word w (codes "0") ≡ b → (if b then Some BadNumber else number_fault w) ≡ None → (q : ℚ) × (is_held q ≡ true) × (not (is_zero q) ≡ true) × (w ≡ frac_text q)
    by true e k = cc
    by false e k =
        let text = number_text w k in
        (text.0, text.1, ap not (sym (same_as_zero text.0 text.1) ∙ ap (λ v. same_word v (codes "0")) (sym text.2) ∙ e), text.2)

place_tests : (o : Option LogKind) (b : Bool) → option_or o (if b then None else Some OutOfRange) ≡ None → (o ≡ None) × (b ≡ true)
place_tests None true h = (refl, refl)
place_tests None false h = cc
place_tests (Some k) b h = cc

pub place_passes : (last n : ℕ) → n < 2 ^ 32 → nat_lt last n ≡ true → place_fault last (decimal n) ≡ None
place_passes last n low above =
    ap (λ o. option_or o (if nat_lt last (digits_value 10 (decimal n)) then None else Some OutOfRange)) (natural_passes n low)
    ∙ ap (λ m. if nat_lt last m then None else Some OutOfRange) (value_of_decimal n (omega arith))
    ∙ ap (λ b. if b then None else Some OutOfRange) above

pub spots_pass : (last : ℕ) (u : List Spot) (rest : Words) → rises_above last u ≡ true → list_all is_formed_spot u ≡ true → spots last (length u) (flat_map spot_words u ++ rest) ≡ Ok rest
spots_pass last [] rest h k = refl
spots_pass last (s ∷ u) rest h k =
    let p = and_parts (nat_lt last s.at) _ h in
    let q = and_parts (not (is_zero s.value)) (rises_above s.at u) p.1 in
    let r = and_parts (is_formed_spot s) (list_all is_formed_spot u) k in
    let t = and_parts (is_short s.at) (is_held s.value) r.0 in
    let low = ltb-true s.at (2 ^ 32) t.0 in
    let more : Words = flat_map spot_words u ++ rest in
    ap (λ o. unless o (and_then (word value_fault (frac_text s.value ∷ more)) (spots (digits_value 10 (decimal s.at)) (length u)))) (place_passes last s.at low p.0)
    ∙ ap (λ l. and_then l (spots (digits_value 10 (decimal s.at)) (length u))) (word_passes value_fault (frac_text s.value) more (value_passes s.value t.1 q.0))
    ∙ ap (λ n. spots n (length u) more) (value_of_decimal s.at (omega arith))
    ∙ spots_pass s.at u rest q.1 r.1

pub spots_found : (last n : ℕ) (words rest : Words) → spots last n words ≡ Ok rest → (u : List Spot) × (length u ≡ n) × (rises_above last u ≡ true) × (list_all is_formed_spot u ≡ true) × (words ≡ flat_map spot_words u ++ rest)
spots_found last zero words rest h = ([], refl, refl, refl, cc)
spots_found last (suc n) [] rest h = cc
spots_found last (suc n) (at ∷ words) rest h =
    let k = unless_ok (place_fault last at) _ rest h in
    let place = place_tests (natural_fault at) (nat_lt last (digits_value 10 at)) k.0 in
    let text = natural_text at place.0 in
    let m = and_then_ok (word value_fault words) (spots (digits_value 10 at) n) rest k.1 in
    let value = word_read value_fault words m.0 m.1 in
    let q = value_read value.0 value.1 in
    let more = spots_found (digits_value 10 at) n m.0 rest m.2 in
    let s : Spot = record { at = digits_value 10 at; value = q.0 } in (
      s ∷ more.0,
      ap suc more.1,
      and_from (nat_lt last s.at) _ place.1 (and_from (not (is_zero s.value)) _ q.2 more.2),
      and_from (is_formed_spot s) _ (and_from (is_short s.at) (is_held s.value) (lt-ltb s.at (2 ^ 32) text.0) q.1) more.3,
      (λ i. sym text.1 i ∷ value.2 i) ∙ (λ i. decimal s.at ∷ q.3 i ∷ more.4 i),
    )

-- the words of a list of numbers, one for each
pub one_each : {X : Type 0} (f : X → List ℕ) (xs : List X) → flat_map (λ x. f x ∷ []) xs ≡ map f xs
one_each f [] = refl
one_each f (x ∷ xs) = ap (λ ws. f x ∷ ws) (one_each f xs)

list_passes : {X : Type 0} (r : Reads X) (xs : List X) (rest : Words) → is_short (length xs) ≡ true → list_all r.is_good xs ≡ true → counted (times r.step) (decimal (length xs) ∷ (flat_map r.words_of xs ++ rest)) ≡ Ok rest
list_passes r xs rest short h = counted_passes (times r.step) (length xs) (flat_map r.words_of xs ++ rest) rest (ltb-true (length xs) (2 ^ 32) short) (times_pass r xs rest h)

list_found : {X : Type 0} (r : Reads X) (words rest : Words) → counted (times r.step) words ≡ Ok rest → (xs : List X) × (is_short (length xs) ≡ true) × (list_all r.is_good xs ≡ true) × (words ≡ decimal (length xs) ∷ (flat_map r.words_of xs ++ rest))
list_found r words rest h =
    let k = counted_found (times r.step) words rest h in
    let xs = times_found r k.0 k.1 rest k.4 in
    (xs.0, ap (λ n. nat_lt n (2 ^ 32)) xs.1 ∙ lt-ltb k.0 (2 ^ 32) k.2, xs.2, k.3 ∙ (λ i. decimal (sym xs.1 i) ∷ xs.3 i))

-- kinds of ends

kind_passes : (k : EndKind) → kind_fault (end_word k) ≡ None
kind_passes Infeasible = refl
kind_passes WholeEnd = refl
kind_passes NoVertex = refl
kind_passes Solved = refl

kind_read : (w : List ℕ) → kind_fault w ≡ None → (k : EndKind) × (w ≡ end_word k)
kind_read w h = first (same_word w (codes "infeasible")) refl h
  where
    fourth : (b : Bool) → same_word w (codes "solved") ≡ b → (if b then None else Some BadLine) ≡ None → (k : EndKind) × (w ≡ end_word k)
    fourth true e k = (Solved, same_word-true w (codes "solved") e)
    fourth false e k = cc

    third : (b : Bool) → same_word w (codes "novertex") ≡ b → (if b || same_word w (codes "solved") then None else Some BadLine) ≡ None → (k : EndKind) × (w ≡ end_word k)
    third true e k = (NoVertex, same_word-true w (codes "novertex") e)
    third false e k = fourth (same_word w (codes "solved")) refl k

    second : (b : Bool) → same_word w (codes "whole") ≡ b → (if b || (same_word w (codes "novertex") || same_word w (codes "solved")) then None else Some BadLine) ≡ None → (k : EndKind) × (w ≡ end_word k)
    second true e k = (WholeEnd, same_word-true w (codes "whole") e)
    second false e k = third (same_word w (codes "novertex")) refl k

    first : (b : Bool) → same_word w (codes "infeasible") ≡ b → (if b || (same_word w (codes "whole") || (same_word w (codes "novertex") || same_word w (codes "solved"))) then None else Some BadLine) ≡ None → (k : EndKind) × (w ≡ end_word k)
    first true e k = (Infeasible, same_word-true w (codes "infeasible") e)
    first false e k = second (same_word w (codes "whole")) refl k

-- the words of a part pass the tests of its form, and leave what stands after them
pub part_passes : (p : Part) (rest : Words) → is_formed_part p ≡ true → left_after (form_of p) (part_words p ++ rest) ≡ Ok rest
unfolding reads_numbers reads_naturals reads_pairs
part_passes (natural n) rest h = word_passes natural_fault (decimal n) rest (natural_passes n (ltb-true n (2 ^ 32) h))
part_passes (number q) rest h = word_passes number_fault (frac_text q) rest (number_passes q h)
part_passes (vector v) rest h =
    let p = and_parts (is_short (length v)) (list_all is_held v) h in
    ap (λ ws. counted (times (word number_fault)) (decimal (length v) ∷ (ws ++ rest))) (sym (one_each frac_text v)) ∙ list_passes reads_numbers v rest p.0 p.1
part_passes (naturals ns) rest h =
    let p = and_parts (is_short (length ns)) (list_all is_short ns) h in
    ap (λ ws. counted (times (word natural_fault)) (decimal (length ns) ∷ (ws ++ rest))) (sym (one_each decimal ns)) ∙ list_passes reads_naturals ns rest p.0 p.1
part_passes (sparse u) rest h =
    let p = and_parts (is_short (length u)) (rises_above 0 u && list_all is_formed_spot u) h in
    let q = and_parts (rises_above 0 u) (list_all is_formed_spot u) p.1 in
    counted_passes (spots 0) (length u) (flat_map spot_words u ++ rest) rest (ltb-true (length u) (2 ^ 32) p.0) (spots_pass 0 u rest q.0 q.1)
part_passes (pairs ps) rest h =
    let p = and_parts (is_short (length ps)) (list_all is_formed_pair ps) h in
    list_passes reads_pairs ps rest p.0 p.1
part_passes (kind k) rest h = word_passes kind_fault (end_word k) rest (kind_passes k)

-- a part of a form that stands first
abbrev pub Found : Form → Words → Words → Type 0
Found f words rest = (p : Part) × (form_of p ≡ f) × (is_formed_part p ≡ true) × (words ≡ part_words p ++ rest)

-- words that pass the tests of a form begin with those of a part of this form
pub part_found : (f : Form) (words rest : Words) → left_after f words ≡ Ok rest → Found f words rest
unfolding reads_numbers reads_naturals reads_pairs
part_found form.natural words rest h = let k = natural_found words rest h in (natural k.0, refl, k.1, k.2)
part_found form.number words rest h = let k = number_found words rest h in (number k.0, refl, k.1, k.2)
part_found form.vector words rest h =
    let k = list_found reads_numbers words rest h in
    (vector k.0, refl, and_from (is_short (length k.0)) _ k.1 k.2, k.3 ∙ ap (λ ws. decimal (length k.0) ∷ (ws ++ rest)) (one_each frac_text k.0))
part_found form.naturals words rest h =
    let k = list_found reads_naturals words rest h in
    (naturals k.0, refl, and_from (is_short (length k.0)) _ k.1 k.2, k.3 ∙ ap (λ ws. decimal (length k.0) ∷ (ws ++ rest)) (one_each decimal k.0))
part_found form.sparse words rest h =
    let k = counted_found (spots 0) words rest h in
    let u = spots_found 0 k.0 k.1 rest k.4 in (
      sparse u.0,
      refl,
      and_from (is_short (length u.0)) _ (ap (λ n. nat_lt n (2 ^ 32)) u.1 ∙ lt-ltb k.0 (2 ^ 32) k.2) (and_from (rises_above 0 u.0) _ u.2 u.3),
      k.3 ∙ (λ i. decimal (sym u.1 i) ∷ u.4 i),
    )
part_found form.pairs words rest h =
    let k = list_found reads_pairs words rest h in
    (pairs k.0, refl, and_from (is_short (length k.0)) _ k.1 k.2, k.3)
part_found form.kind words rest h =
    let k = word_read kind_fault words rest h in
    let e = kind_read k.0 k.1 in
    (kind e.0, refl, refl, k.2 ∙ ap (λ w. w ∷ rest) e.1)

-- and so for parts one after the other
pub parts_pass : (ps : List Part) (rest : Words) → list_all is_formed_part ps ≡ true → left_after_all (map form_of ps) (flat_map part_words ps ++ rest) ≡ Ok rest
parts_pass [] rest h = refl
parts_pass (p ∷ ps) rest h =
    let k = and_parts (is_formed_part p) (list_all is_formed_part ps) h in
    ap (λ ws. and_then (left_after (form_of p) ws) (left_after_all (map form_of ps))) (append_assoc (part_words p) (flat_map part_words ps) rest)
    ∙ ap (λ l. and_then l (left_after_all (map form_of ps))) (part_passes p (flat_map part_words ps ++ rest) k.0)
    ∙ parts_pass ps rest k.1

pub parts_found : (fs : List Form) (words rest : Words) → left_after_all fs words ≡ Ok rest → (ps : List Part) × (map form_of ps ≡ fs) × (list_all is_formed_part ps ≡ true) × (words ≡ flat_map part_words ps ++ rest)
parts_found [] words rest h = ([], refl, refl, cc)
parts_found (f ∷ fs) words rest h =
    let k = and_then_ok (left_after f words) (left_after_all fs) rest h in
    let p = part_found f words k.0 k.1 in
    let ps = parts_found fs k.0 rest k.2 in (
      p.0 ∷ ps.0,
      (λ i. p.1 i ∷ ps.1 i),
      and_from (is_formed_part p.0) _ p.2 ps.2,
      p.3 ∙ ap (λ ws. part_words p.0 ++ ws) ps.3 ∙ sym (append_assoc (part_words p.0) (flat_map part_words ps.0) rest),
    )
