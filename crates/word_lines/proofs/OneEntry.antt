-- The words of parts are those of no others, nor are those of an entry.
use Rattle.std.proofs.Common.{◌≡◌, refl, ℕ, ◌^◌, true, ◌==◌, Bool, List, [], ◌∷◌, ◌++◌, length, map, arith, ap, sym, ◌∙◌, decimal, Some}
use Rattle.std.specs.List.{list_all, flat_map, slice_split}
use Rattle.std.proofs.lemmas.Bool.{and_parts, ltb-true}
use Rattle.std.proofs.lemmas.Fmt.{decimal_injective}
use Rattle.std.proofs.lemmas.List.{append_assoc}
use Rattle.frac128.specs.Held.{is_held}
use Rattle.frac128.specs.Text.{frac_text}
use Rattle.frac128.proofs.TextLaw.{one_number_per_text}
use Rattle.word_lines.specs.Grammar.{Grammar, is_formed, entry_words, entry_text}
use Rattle.word_lines.specs.LineFault.{Form, form_of}
use Rattle.word_lines.specs.Parts.{Part, natural, number, vector, naturals, sparse, pairs, kind, part_words, spot_words, pair_words, end_word, is_short, is_formed_part, is_formed_pair, is_formed_spot}
use Rattle.word_lines.specs.declared.part.EndKind.{EndKind}
use Rattle.word_lines.specs.declared.part.EndKind.TheVariants.{Infeasible, Whole as WholeEnd, NoVertex, Solved}
use Rattle.word_lines.proofs.Forms.{Words, one_each}
use Rattle.word_lines.proofs.Entries.{cut_entry}
use Rattle.word_lines.proofs.Written.{IsComplete}

pub same_short : (m n : ℕ) → is_short m ≡ true → is_short n ≡ true → decimal m ≡ decimal n → m ≡ n
same_short m n h k e =
    let low = ltb-true m (2 ^ 32) h in
    let low_other = ltb-true n (2 ^ 32) k in
    decimal_injective m n (omega arith) (omega arith) e

-- items of which the words tell which they are, whatever stands after them
abbrev pub Told : {X : Type 0} → (X → Words) → (X → Bool) → Type 0
Told {X} words_of good = (x y : X) (r s : Words) → good x ≡ true → good y ≡ true → words_of x ++ r ≡ words_of y ++ s → (x ≡ y) × (r ≡ s)

-- lists of them of one length
told_each : {X : Type 0} (words_of : X → Words) (good : X → Bool) → Told words_of good → (xs ys : List X) (r s : Words) → length xs ≡ length ys → list_all good xs ≡ true → list_all good ys ≡ true → flat_map words_of xs ++ r ≡ flat_map words_of ys ++ s → (xs ≡ ys) × (r ≡ s)
told_each words_of good told [] [] r s n h k e = (refl, e)
told_each words_of good told [] (y ∷ ys) r s n h k e = absurd (omega arith)
told_each words_of good told (x ∷ xs) [] r s n h k e = absurd (omega arith)
told_each words_of good told (x ∷ xs) (y ∷ ys) r s n h k e =
    let p = and_parts (good x) (list_all good xs) h in
    let q = and_parts (good y) (list_all good ys) k in
    let first = told x y (flat_map words_of xs ++ r) (flat_map words_of ys ++ s) p.0 q.0
    (sym (append_assoc (words_of x) (flat_map words_of xs) r) ∙ e ∙ append_assoc (words_of y) (flat_map words_of ys) s) in
    let rest = told_each words_of good told xs ys r s (omega arith) p.1 q.1 first.1 in
    ((λ i. first.0 i ∷ rest.0 i), rest.1)

told_natural : Told (λ n. decimal n ∷ []) is_short
told_natural m n r s h k e = (same_short m n h k cc, cc)

told_number : Told (λ q. frac_text q ∷ []) is_held
told_number p q r s h k e = (one_number_per_text p q h k cc, cc)

pub told_spot : Told spot_words is_formed_spot
told_spot x y r s h k e =
    let p = and_parts (is_short x.at) (is_held x.value) h in
    let q = and_parts (is_short y.at) (is_held y.value) k in
    let at : x.at ≡ y.at = same_short x.at y.at p.0 q.0 cc in
    let value : x.value ≡ y.value = one_number_per_text x.value y.value p.1 q.1 cc in
    ((λ i. record { at = at i; value = value i }), cc)

told_pair : Told pair_words is_formed_pair
told_pair x y r s h k e =
    let p = and_parts (is_short x.plus) (is_short x.minus) h in
    let q = and_parts (is_short y.plus) (is_short y.minus) k in
    let plus : x.plus ≡ y.plus = same_short x.plus y.plus p.0 q.0 cc in
    let minus : x.minus ≡ y.minus = same_short x.minus y.minus p.1 q.1 cc in
    ((λ i. record { plus = plus i; minus = minus i }), cc)

same_kind : (k l : EndKind) → end_word k ≡ end_word l → k ≡ l
same_kind Infeasible Infeasible e = refl
same_kind Infeasible _ e = cc
same_kind WholeEnd WholeEnd e = refl
same_kind WholeEnd _ e = cc
same_kind NoVertex NoVertex e = refl
same_kind NoVertex _ e = cc
same_kind Solved Solved e = refl
same_kind Solved _ e = cc

-- lists after their counts
pub told_list : {X : Type 0} (words_of : X → Words) (good : X → Bool) → Told words_of good → (xs ys : List X) (r s : Words) → is_short (length xs) ≡ true → is_short (length ys) ≡ true → list_all good xs ≡ true → list_all good ys ≡ true → decimal (length xs) ∷ (flat_map words_of xs ++ r) ≡ decimal (length ys) ∷ (flat_map words_of ys ++ s) → (xs ≡ ys) × (r ≡ s)
told_list words_of good told xs ys r s n m h k e = told_each words_of good told xs ys r s (same_short (length xs) (length ys) n m cc) h k cc

-- parts of one form, of which the words tell which they are
abbrev pub SamePart : Part → Words → Part → Words → Type 0
SamePart p r q s = (p ≡ q) × (r ≡ s)

told_part : (p q : Part) (r s : Words) → form_of p ≡ form_of q → is_formed_part p ≡ true → is_formed_part q ≡ true → part_words p ++ r ≡ part_words q ++ s → SamePart p r q s
told_part (natural m) (natural n) r s f h k e = let t = told_natural m n r s h k e in (ap natural t.0, t.1)
told_part (natural m) _ r s f h k e = cc
told_part (number p) (number q) r s f h k e = let t = told_number p q r s h k e in (ap number t.0, t.1)
told_part (number p) _ r s f h k e = cc
told_part (vector v) (vector w) r s f h k e =
    let p = and_parts (is_short (length v)) (list_all is_held v) h in
    let q = and_parts (is_short (length w)) (list_all is_held w) k in
    let t = told_list (λ x. frac_text x ∷ []) is_held told_number v w r s p.0 q.0 p.1 q.1
    (ap (λ ws. decimal (length v) ∷ (ws ++ r)) (one_each frac_text v) ∙ e ∙ ap (λ ws. decimal (length w) ∷ (ws ++ s)) (sym (one_each frac_text w))) in
    (ap vector t.0, t.1)
told_part (vector v) _ r s f h k e = cc
told_part (naturals v) (naturals w) r s f h k e =
    let p = and_parts (is_short (length v)) (list_all is_short v) h in
    let q = and_parts (is_short (length w)) (list_all is_short w) k in
    let t = told_list (λ x. decimal x ∷ []) is_short told_natural v w r s p.0 q.0 p.1 q.1
    (ap (λ ws. decimal (length v) ∷ (ws ++ r)) (one_each decimal v) ∙ e ∙ ap (λ ws. decimal (length w) ∷ (ws ++ s)) (sym (one_each decimal w))) in
    (ap naturals t.0, t.1)
told_part (naturals v) _ r s f h k e = cc
told_part (sparse u) (sparse v) r s f h k e =
    let p = and_parts (is_short (length u)) _ h in
    let q = and_parts (is_short (length v)) _ k in
    let t = told_list spot_words is_formed_spot told_spot u v r s p.0 q.0 (and_parts _ (list_all is_formed_spot u) p.1).1 (and_parts _ (list_all is_formed_spot v) q.1).1 e in
    (ap sparse t.0, t.1)
told_part (sparse u) _ r s f h k e = cc
told_part (pairs u) (pairs v) r s f h k e =
    let p = and_parts (is_short (length u)) (list_all is_formed_pair u) h in
    let q = and_parts (is_short (length v)) (list_all is_formed_pair v) k in
    let t = told_list pair_words is_formed_pair told_pair u v r s p.0 q.0 p.1 q.1 e in
    (ap pairs t.0, t.1)
told_part (pairs u) _ r s f h k e = cc
told_part (kind l) (kind m) r s f h k e = (ap kind (same_kind l m cc), cc)
told_part (kind l) _ r s f h k e = cc

pub told_parts : (ps qs : List Part) → map form_of ps ≡ map form_of qs → list_all is_formed_part ps ≡ true → list_all is_formed_part qs ≡ true → flat_map part_words ps ≡ flat_map part_words qs → ps ≡ qs
told_parts [] [] f h k e = refl
told_parts [] (q ∷ qs) f h k e = cc
told_parts (p ∷ ps) [] f h k e = cc
told_parts (p ∷ ps) (q ∷ qs) f h k e =
    let a = and_parts (is_formed_part p) (list_all is_formed_part ps) h in
    let b = and_parts (is_formed_part q) (list_all is_formed_part qs) k in
    let first = told_part p q (flat_map part_words ps) (flat_map part_words qs) (cc) a.0 b.0 e in
    let rest = told_parts ps qs (cc) a.1 b.1 first.1 in
    λ i. first.0 i ∷ rest i

same_forms : (fs gs : List Form) → Some fs ≡ Some gs → fs ≡ gs
same_forms fs gs e = cc

module _ {E : Type 0} (g : Grammar E) (complete : IsComplete g) where
  same_words : (e o : E) → is_formed g e ≡ true → is_formed g o ≡ true → entry_words g e ≡ entry_words g o → e ≡ o
  same_words e o h k same =
      let names : g.name_of e ≡ g.name_of o = cc in
      let tails : flat_map part_words (g.parts_of e) ≡ flat_map part_words (g.parts_of o) = cc in
      let forms = same_forms _ _ (sym (g.known e) ∙ ap g.forms_of names ∙ g.known o) in
      complete.one e o names (told_parts (g.parts_of e) (g.parts_of o) forms h k tails)

  -- entries with one line are one
  pub same_entry : (e o : E) → is_formed g e ≡ true → is_formed g o ≡ true → entry_text g e ≡ entry_text g o → e ≡ o
  same_entry e o h k same = same_words e o h k (sym (cut_entry g e h) ∙ ap (slice_split (λ b. b == 32)) same ∙ cut_entry g o k)
