-- A report tells its answer.
use Rattle.std.proofs.Common.{◌≡◌, refl, sym, ap, ◌∙◌, arith, ℕ, zero, suc, ◌-◌, ◌==◌, Bool, true, List, [], ◌∷◌, ◌++◌, length, map, take, drop, replicate, count_by, codes, decimal, append_assoc, append-nil}
use Rattle.std.specs.List.{list_all, flat_map, slice_split, join_with_byte, AllByRecursion}
use Rattle.std.proofs.lemmas.Bool.{and_parts, and_from}
use Rattle.std.proofs.lemmas.List.{same_from_push, length-map}
use Rattle.std.proofs.lemmas.List.Folds.{list_all-append}
use Rattle.std.proofs.lemmas.List.Splits.{join_with_byte-slice_split, slice_split_at}
use Rattle.std.proofs.lemmas.List.Sums.{count_by-le-length}
use Rattle.src_sink.specs.Texts.{words_text, line_text}
use Rattle.exact_field.specs.Rational.{ℚ}
use Rattle.frac128.specs.Held.{is_held}
use Rattle.frac128.specs.Text.{frac_text}
use Rattle.frac128.specs.declared.vectors.Spot.{Spot}
use Rattle.frac128.proofs.TextLaw.{one_number_per_text}
use Rattle.vlp_problem.specs.Sides.{is_unsaid}
use Rattle.vlp_problem.specs.declared.problem.Dir.{Dir}
use Rattle.vlp_problem.specs.declared.problem.Dir.TheVariants.{Min, Max}
use Rattle.vlp_problem.specs.declared.problem.Problem.{Problem}
use Rattle.word_lines.specs.Parts.{is_short, is_formed_spot}
use Rattle.word_lines.specs.Parts.{spot_words, sparse_words}
use Rattle.word_lines.proofs.Cutting.{Lacks, Lacks-join, slice_split-join}
use Rattle.word_lines.proofs.PrintedWords.{IsPrinted, Printed, printed_natural, printed_number, printed_letters, printed_append, printed_short, printed_each, printed_map, printed_spot, no_blanks, no_feeds}
use Rattle.word_lines.proofs.Forms.{Words}
use Rattle.word_lines.proofs.OneEntry.{same_short, told_spot, told_list}
use Rattle.log_rules.specs.Report.{vector_line, sparse_line, line_lines, facet_line, dual_line, downward, dual_direction_line, incidence_line, section, answer_name, head_lines, image_lines, witness_lines, report_lines}
use Rattle.log_rules.specs.declared.answer.Answer.{Answer}
use Rattle.log_rules.specs.declared.answer.Answer.TheVariants.{Infeasible, Whole, Solved}
use Rattle.log_rules.specs.declared.answer.Facet.{Facet}
use Rattle.log_rules.specs.declared.answer.Gen.{Gen}
use Rattle.log_rules.specs.declared.answer.LineGen.{LineGen}
use Rattle.sol_writer.specs.OneReport.{is_short_list, is_held_sparse, is_held_line, is_held_gen, is_held_facet, is_held_answer, OneAnswerToAReport}

-- ---- lines of a text
-- a line has a word, and no word of it is empty or has a blank or a line feed
abbrev IsLine : Words → Type 0
IsLine [] = ⊥
IsLine (w ∷ ws) = Printed (w ∷ ws)

cut_line : (ws : Words) → IsLine ws → slice_split (λ b. b == 32) (words_text ws) ≡ ws
cut_line [] h = absurd h
cut_line (w ∷ ws) h = let lacks = no_blanks (w ∷ ws) h in slice_split-join 32 w ws lacks.0 lacks.1

no_feed : (ws : Words) → IsLine ws → Lacks 10 (words_text ws)
no_feed [] h = absurd h
no_feed (w ∷ ws) h = Lacks-join 10 32 (w ∷ ws) (λ x. absurd (omega (arith, x))) (no_feeds (w ∷ ws) h)

-- the first line of a text and the rest
cut_first : (ws : Words) (r : List ℕ) → IsLine ws → slice_split (λ b. b == 10) (line_text ws ++ r) ≡ words_text ws ∷ slice_split (λ b. b == 10) r
cut_first ws r h =
    ap (slice_split (λ b. b == 10)) (append_assoc (words_text ws) (10 ∷ []) r) ∙ slice_split_at (λ b. b == 10) (words_text ws) 10 r (no_feed ws h) refl

same_first : (v w : Words) (r s : List ℕ) → IsLine v → IsLine w → line_text v ++ r ≡ line_text w ++ s → (v ≡ w) × (r ≡ s)
same_first v w r s h k e =
    let cuts : words_text v ∷ slice_split (λ b. b == 10) r ≡ words_text w ∷ slice_split (λ b. b == 10) s =
    sym (cut_first v r h) ∙ ap (slice_split (λ b. b == 10)) e ∙ cut_first w s k in
    let first : words_text v ≡ words_text w = cc in
    let rest : slice_split (λ b. b == 10) r ≡ slice_split (λ b. b == 10) s = cc in (
      sym (cut_line v h) ∙ ap (slice_split (λ b. b == 32)) first ∙ cut_line w k,
      sym (join_with_byte-slice_split 10 r) ∙ ap (join_with_byte 10) rest ∙ join_with_byte-slice_split 10 s,
    )

no_line : (v : List ℕ) (r : List ℕ) → [] ≡ (v ++ 10 ∷ []) ++ r → ⊥
no_line [] r e = cc
no_line (x ∷ v) r e = cc

-- a text has its lines only
same_lines : (ls ks : List Words) → AllByRecursion IsLine ls → AllByRecursion IsLine ks → flat_map line_text ls ≡ flat_map line_text ks → ls ≡ ks
same_lines [] [] h k e = refl
same_lines [] (w ∷ ks) h k e = absurd (no_line (words_text w) (flat_map line_text ks) e)
same_lines (v ∷ ls) [] h k e = absurd (no_line (words_text v) (flat_map line_text ls) (sym e))
same_lines (v ∷ ls) (w ∷ ks) h k e =
    let first = same_first v w (flat_map line_text ls) (flat_map line_text ks) h.0 k.0 e in
    let rest = same_lines ls ks h.1 k.1 first.1 in
    λ i. first.0 i ∷ rest i

-- ---- the lines of a report are lines
lines_append : (ls ks : List Words) → AllByRecursion IsLine ls → AllByRecursion IsLine ks → AllByRecursion IsLine (ls ++ ks)
lines_append [] ks h k = k
lines_append (l ∷ ls) ks h k = (h.0, lines_append ls ks h.1 k)

lines_map : {X : Type 0} (line : X → Words) (good : X → Bool) → ((x : X) → good x ≡ true → IsLine (line x)) → (xs : List X) → list_all good xs ≡ true → AllByRecursion IsLine (map line xs)
lines_map line good g [] h = tt
lines_map line good g (x ∷ xs) h = let p = and_parts (good x) (list_all good xs) h in (g x p.0, lines_map line good g xs p.1)

vector_is_line : (first : List ℕ) (v : List ℚ) → IsPrinted first → list_all is_held v ≡ true → IsLine (vector_line first v)
vector_is_line first v h k = (h, printed_map frac_text is_held printed_number v k)

sparse_is_line : (first : List ℕ) (u : List Spot) → IsPrinted first → is_held_sparse u ≡ true → IsLine (sparse_line first u)
sparse_is_line first u h k =
    let p = and_parts (is_short (length u)) (list_all is_formed_spot u) k in
    (h, (printed_short (length u) p.0, printed_each spot_words is_formed_spot printed_spot u p.1))

held_push : (v : List ℚ) (q : ℚ) → list_all is_held v ≡ true → is_held q ≡ true → list_all is_held (v ++ q ∷ []) ≡ true
held_push v q h k = list_all-append is_held v (q ∷ []) ∙ and_from (list_all is_held v) _ h (and_from (is_held q) true k refl)

held_front : (n : ℕ) (v : List ℚ) → list_all is_held v ≡ true → list_all is_held (take n v) ≡ true
held_front zero v h = refl
held_front (suc n) [] h = refl
held_front (suc n) (q ∷ v) h = let p = and_parts (is_held q) (list_all is_held v) h in and_from (is_held q) _ p.0 (held_front n v p.1)

word_1 : IsPrinted (codes "1")
word_1 = printed_letters (codes "1") (omega arith) refl

word_0 : IsPrinted (codes "0")
word_0 = printed_letters (codes "0") (omega arith) refl

record FacetParts (f : Facet) : Type 0 where
  pub w_held : list_all is_held f.w ≡ true
  pub gamma_held : is_held f.gamma ≡ true
  pub u_held : is_held_sparse f.u ≡ true
  pub tight_held : is_short_list is_short f.tight ≡ true

facet_parts : (f : Facet) → is_held_facet f ≡ true → FacetParts f
facet_parts f h =
    let p = and_parts (list_all is_held f.w) _ h in
    let q = and_parts (is_held f.gamma) _ p.1 in
    let r = and_parts (is_held_sparse f.u) (is_short_list is_short f.tight) q.1 in
    record { w_held = p.0; gamma_held = q.0; u_held = r.0; tight_held = r.1 }

facet_is_line : (f : Facet) → FacetParts f → IsLine (facet_line f)
facet_is_line f p =
    vector_is_line (codes "f") (f.w ++ f.gamma ∷ []) (printed_letters (codes "f") (omega arith) refl) (held_push f.w f.gamma p.w_held p.gamma_held)

dual_is_line : (n : ℕ) (f : Facet) → FacetParts f → IsLine (dual_line n f)
dual_is_line n f p =
    vector_is_line (codes "1") (take (n - 1) f.w ++ f.gamma ∷ []) word_1 (held_push (take (n - 1) f.w) f.gamma (held_front (n - 1) f.w p.w_held) p.gamma_held)

printed_zeros : (n : ℕ) → Printed (replicate n (codes "0"))
printed_zeros zero = tt
printed_zeros (suc n) = (word_0, printed_zeros n)

printed_downward : (d : Dir) → IsPrinted (downward d)
printed_downward Min = printed_letters (codes "-1") (omega arith) refl
printed_downward Max = word_1

direction_is_line : (f : Problem) → IsLine (dual_direction_line f)
direction_is_line f = (word_0, printed_append (replicate (f.objs - 1) (codes "0")) (downward f.dir ∷ []) (printed_zeros (f.objs - 1)) (printed_downward f.dir, tt))

incidence_is_line : (f : Facet) → is_short_list is_short f.tight ≡ true → IsLine (incidence_line f)
incidence_is_line f h =
    let p = and_parts (is_short (length f.tight)) (list_all is_short f.tight) h in
    (printed_letters (codes "n") (omega arith) refl, (printed_short (length f.tight) p.0, printed_map decimal is_short printed_short f.tight p.1))

section_is_lines : {X : Type 0} (name : List ℕ) (line : X → Words) (good : X → Bool) → IsPrinted name → ((x : X) → good x ≡ true → IsLine (line x)) → (xs : List X) →
    is_short_list good xs ≡ true → AllByRecursion IsLine (section name line xs)
section_is_lines name line good n g xs h =
    let p = and_parts (is_short (length xs)) (list_all good xs) h in
    ((n, (printed_short (length xs) p.0, tt)), lines_map line good g xs p.1)

gen_parts : (g : Gen) → is_held_gen g ≡ true → (list_all is_held g.y ≡ true) × (is_held_sparse g.pre ≡ true)
gen_parts g h = and_parts (list_all is_held g.y) (is_held_sparse g.pre) h

record LineParts (l : LineGen) : Type 0 where
  pub d_held : list_all is_held l.d ≡ true
  pub ray_held : is_held_sparse l.ray ≡ true
  pub back_held : is_held_sparse l.back ≡ true

line_parts : (l : LineGen) → is_held_line l ≡ true → LineParts l
line_parts l h =
    let p = and_parts (list_all is_held l.d) _ h in
    let q = and_parts (is_held_sparse l.ray) (is_held_sparse l.back) p.1 in
    record { d_held = p.0; ray_held = q.0; back_held = q.1 }

name_is_word : (a : Answer) → IsPrinted (answer_name a)
name_is_word (Infeasible u) = printed_letters (codes "infeasible") (omega arith) refl
name_is_word (Whole c x ray) = printed_letters (codes "whole") (omega arith) refl
name_is_word (Solved c ls points directions facets) = printed_letters (codes "solved") (omega arith) refl

head_is_lines : (f : Problem) (a : Answer) → AllByRecursion IsLine (head_lines f a)
head_is_lines f a = (
  (printed_letters (codes "report") (omega arith) refl, (word_1, tt)),
  (
    (printed_letters (codes "answer") (omega arith) refl, (name_is_word a, tt)),
    (
      (
        printed_letters (codes "free") (omega arith) refl,
        (
          printed_natural (count_by is_unsaid f.row_bounds) (omega (arith, count_by-le-length is_unsaid f.row_bounds, f.row_count, f.rows_bounded)),
          (printed_natural (count_by is_unsaid f.col_bounds) (omega (arith, count_by-le-length is_unsaid f.col_bounds, f.col_count, f.cols_bounded)), tt),
        ),
      ),
      tt,
    ),
  ),
)

record SolvedParts (c : List ℚ) (ls : List LineGen) (points directions : List Gen) (facets : List Facet) : Type 0 where
  pub c_held : list_all is_held c ≡ true
  pub lines_held : is_short_list is_held_line ls ≡ true
  pub points_held : is_short_list is_held_gen points ≡ true
  pub directions_held : is_short_list is_held_gen directions ≡ true
  pub facets_held : is_short_list is_held_facet facets ≡ true

solved_parts : (c : List ℚ) (ls : List LineGen) (points directions : List Gen) (facets : List Facet) → is_held_answer (Solved c ls points directions facets) ≡ true →
    SolvedParts c ls points directions facets
solved_parts c ls points directions facets h =
    let o = and_parts (list_all is_held c) _ h in
    let p = and_parts (is_short_list is_held_line ls) _ o.1 in
    let q = and_parts (is_short_list is_held_gen points) _ p.1 in
    let r = and_parts (is_short_list is_held_gen directions) (is_short_list is_held_facet facets) q.1 in
    record { c_held = o.0; lines_held = p.0; points_held = q.0; directions_held = r.0; facets_held = r.1 }

all_of : {X : Type 0} (good : X → Bool) (xs : List X) → is_short_list good xs ≡ true → list_all good xs ≡ true
all_of good xs h = (and_parts (is_short (length xs)) (list_all good xs) h).1

-- the line of a line, and those of its two pre-images
abbrev line_of : LineGen → Words
line_of l = vector_line (codes "l") l.d

abbrev ways : LineGen → List Words
ways l = sparse_line (codes "r") l.ray ∷ sparse_line (codes "r") l.back ∷ []

word_r : IsPrinted (codes "r")
word_r = printed_letters (codes "r") (omega arith) refl

lines_are_lines : (ls : List LineGen) → is_short_list is_held_line ls ≡ true → AllByRecursion IsLine (line_lines ls)
lines_are_lines [] h = tt
lines_are_lines (l ∷ ls) h = section_is_lines (codes "lines") line_of is_held_line (printed_letters (codes "lines") (omega arith) refl)
    (λ k g. vector_is_line (codes "l") k.d (printed_letters (codes "l") (omega arith) refl) (line_parts k g).d_held) (l ∷ ls) h

ways_are_lines : (ls : List LineGen) → list_all is_held_line ls ≡ true → AllByRecursion IsLine (flat_map ways ls)
ways_are_lines [] h = tt
ways_are_lines (l ∷ ls) h =
    let p = and_parts (is_held_line l) (list_all is_held_line ls) h in
    let parts = line_parts l p.0 in
    (sparse_is_line (codes "r") l.ray word_r parts.ray_held, (sparse_is_line (codes "r") l.back word_r parts.back_held, ways_are_lines ls p.1))

image_is_lines : (f : Problem) (a : Answer) → is_held_answer a ≡ true → AllByRecursion IsLine (image_lines f a)
image_is_lines f (Infeasible u) h = tt
image_is_lines f (Whole c x ray) h = (vector_is_line (codes "c") c (printed_letters (codes "c") (omega arith) refl) (and_parts (list_all is_held c) _ h).0, tt)
image_is_lines f (Solved c ls points directions facets) h =
    let p = solved_parts c ls points directions facets h in
    let c_line = vector_is_line (codes "c") c (printed_letters (codes "c") (omega arith) refl) p.c_held in
    let one = section_is_lines (codes "points") (λ g. vector_line (codes "1") g.y) is_held_gen (printed_letters (codes "points") (omega arith) refl)
    (λ g k. vector_is_line (codes "1") g.y word_1 (gen_parts g k).0) points p.points_held in
    let two = section_is_lines (codes "directions") (λ g. vector_line (codes "0") g.y) is_held_gen (printed_letters (codes "directions") (omega arith) refl)
    (λ g k. vector_is_line (codes "0") g.y word_0 (gen_parts g k).0) directions p.directions_held in
    let three = section_is_lines (codes "facets") facet_line is_held_facet (printed_letters (codes "facets") (omega arith) refl)
    (λ x k. facet_is_line x (facet_parts x k)) facets p.facets_held in
    let four = section_is_lines (codes "dual") (dual_line f.objs) is_held_facet (printed_letters (codes "dual") (omega arith) refl)
    (λ x k. dual_is_line f.objs x (facet_parts x k)) facets p.facets_held in
    let five = section_is_lines (codes "incidence") incidence_line is_held_facet (printed_letters (codes "incidence") (omega arith) refl)
    (λ x k. incidence_is_line x (facet_parts x k).tight_held) facets p.facets_held in
    let first : AllByRecursion IsLine (vector_line (codes "c") c ∷ line_lines ls) = (c_line, lines_are_lines ls p.lines_held) in
    let last : AllByRecursion IsLine (dual_direction_line f ∷ section (codes "incidence") incidence_line facets) = (direction_is_line f, five) in
    let k : List Words = vector_line (codes "c") c ∷ line_lines ls in
    let a : List Words = section (codes "points") (λ g. vector_line (codes "1") g.y) points in
    let b : List Words = section (codes "directions") (λ g. vector_line (codes "0") g.y) directions in
    let e : List Words = section (codes "facets") facet_line facets in
    let d : List Words = section (codes "dual") (dual_line f.objs) facets in
    let z : List Words = dual_direction_line f ∷ section (codes "incidence") incidence_line facets in
    lines_append ((((k ++ a) ++ b) ++ e) ++ d) z
    (lines_append (((k ++ a) ++ b) ++ e) d (lines_append ((k ++ a) ++ b) e (lines_append (k ++ a) b (lines_append k a first one) two) three) four) last

witness_is_lines : (a : Answer) → is_held_answer a ≡ true → AllByRecursion IsLine (witness_lines a)
witness_is_lines (Infeasible u) h = (sparse_is_line (codes "u") u (printed_letters (codes "u") (omega arith) refl) h, tt)
witness_is_lines (Whole c x ray) h =
    let p = and_parts (list_all is_held c) _ h in
    let q = and_parts (is_held_sparse x) (is_held_sparse ray) p.1 in
    (sparse_is_line (codes "x") x (printed_letters (codes "x") (omega arith) refl) q.0, (sparse_is_line (codes "r") ray word_r q.1, tt))
witness_is_lines (Solved c ls points directions facets) h =
    let p = solved_parts c ls points directions facets h in
    let one = lines_map (λ g. sparse_line (codes "x") g.pre) is_held_gen (λ g k. sparse_is_line (codes "x") g.pre (printed_letters (codes "x") (omega arith) refl) (gen_parts g k).1) points
    (all_of is_held_gen points p.points_held) in
    let two = lines_map (λ g. sparse_line (codes "r") g.pre) is_held_gen (λ g k. sparse_is_line (codes "r") g.pre word_r (gen_parts g k).1) directions
    (all_of is_held_gen directions p.directions_held) in
    let three = lines_map (λ x. sparse_line (codes "u") x.u) is_held_facet (λ x k. sparse_is_line (codes "u") x.u (printed_letters (codes "u") (omega arith) refl) (facet_parts x k).u_held) facets
    (all_of is_held_facet facets p.facets_held) in
    let k : List Words = flat_map ways ls in
    let a : List Words = map (λ g. sparse_line (codes "x") g.pre) points in
    let b : List Words = map (λ g. sparse_line (codes "r") g.pre) directions in
    lines_append ((k ++ a) ++ b) (map (λ x. sparse_line (codes "u") x.u) facets)
    (lines_append (k ++ a) b (lines_append k a (ways_are_lines ls (all_of is_held_line ls p.lines_held)) one) two) three

report_is_lines : (f : Problem) (a : Answer) → is_held_answer a ≡ true → AllByRecursion IsLine (report_lines f a)
report_is_lines f a h =
    let last : AllByRecursion IsLine ((codes "witnesses" ∷ []) ∷ witness_lines a) = ((printed_letters (codes "witnesses") (omega arith) refl, tt), witness_is_lines a h) in
    lines_append (head_lines f a ++ image_lines f a) ((codes "witnesses" ∷ []) ∷ witness_lines a)
    (lines_append (head_lines f a) (image_lines f a) (head_is_lines f a) (image_is_lines f a h)) last

-- ---- what a line tells
same_each : {X Y : Type 0} (f : X → Y) (good : X → Bool) → ((x y : X) → good x ≡ true → good y ≡ true → f x ≡ f y → x ≡ y) → (xs ys : List X) → list_all good xs ≡ true → list_all good ys ≡ true →
    map f xs ≡ map f ys → xs ≡ ys
same_each f good g [] [] h k e = refl
same_each f good g [] (y ∷ ys) h k e = cc
same_each f good g (x ∷ xs) [] h k e = cc
same_each f good g (x ∷ xs) (y ∷ ys) h k e =
    let p = and_parts (good x) (list_all good xs) h in
    let q = and_parts (good y) (list_all good ys) k in
    let first : f x ≡ f y = cc in
    let rest : map f xs ≡ map f ys = cc in
    let heads = g x y p.0 q.0 first in
    let tails = same_each f good g xs ys p.1 q.1 rest in
    λ i. heads i ∷ tails i

same_vector : (first first' : List ℕ) (v w : List ℚ) → list_all is_held v ≡ true → list_all is_held w ≡ true → vector_line first v ≡ vector_line first' w → v ≡ w
same_vector first first' v w h k e =
    let entries : map frac_text v ≡ map frac_text w = cc in
    same_each frac_text is_held one_number_per_text v w h k entries

same_sparse : (first first' : List ℕ) (u v : List Spot) → is_held_sparse u ≡ true → is_held_sparse v ≡ true → sparse_line first u ≡ sparse_line first' v → u ≡ v
same_sparse first first' u v h k e =
    let p = and_parts (is_short (length u)) (list_all is_formed_spot u) h in
    let q = and_parts (is_short (length v)) (list_all is_formed_spot v) k in
    let words : sparse_words u ≡ sparse_words v = cc in
    (told_list spot_words is_formed_spot told_spot u v [] [] p.0 q.0 p.1 q.1
    (ap (λ ws. decimal (length u) ∷ ws) (append-nil (flat_map spot_words u)) ∙ words ∙ ap (λ ws. decimal (length v) ∷ ws) (sym (append-nil (flat_map spot_words v))))).0

same_facet_line : (f g : Facet) → FacetParts f → FacetParts g → facet_line f ≡ facet_line g → (f.w ≡ g.w) × (f.gamma ≡ g.gamma)
same_facet_line f g p q e =
    same_from_push f.w g.w f.gamma g.gamma
    (same_vector (codes "f") (codes "f") (f.w ++ f.gamma ∷ []) (g.w ++ g.gamma ∷ []) (held_push f.w f.gamma p.w_held p.gamma_held) (held_push g.w g.gamma q.w_held q.gamma_held) e)

same_incidence : (f g : Facet) → is_short_list is_short f.tight ≡ true → is_short_list is_short g.tight ≡ true → incidence_line f ≡ incidence_line g → f.tight ≡ g.tight
same_incidence f g h k e =
    let words : map decimal f.tight ≡ map decimal g.tight = cc in
    same_each decimal is_short same_short f.tight g.tight (all_of is_short f.tight h) (all_of is_short g.tight k) words

-- ---- what sections tell
same_fronts : {X : Type 0} (xs ys r s : List X) → length xs ≡ length ys → xs ++ r ≡ ys ++ s → (xs ≡ ys) × (r ≡ s)
same_fronts [] [] r s n e = (refl, e)
same_fronts [] (y ∷ ys) r s n e = absurd (omega (arith, n))
same_fronts (x ∷ xs) [] r s n e = absurd (omega (arith, n))
same_fronts (x ∷ xs) (y ∷ ys) r s n e =
    let first : x ≡ y = cc in
    let rest = same_fronts xs ys r s (omega (arith, n)) (cc) in
    ((λ i. first i ∷ rest.0 i), rest.1)

same_maps : {X Y : Type 0} (f g : X → Y) (xs ys : List X) (r s : List Y) → length xs ≡ length ys → map f xs ++ r ≡ map g ys ++ s → (map f xs ≡ map g ys) × (r ≡ s)
same_maps f g xs ys r s n e = same_fronts (map f xs) (map g ys) r s (length-map xs f ∙ n ∙ sym (length-map ys g)) e

record SameSection {X : Type 0} (line line' : X → Words) (xs ys : List X) (r s : List Words) : Type 0 where
  pub count : length xs ≡ length ys
  pub lines : map line xs ≡ map line' ys
  pub rest : r ≡ s

same_section : {X : Type 0} (name : List ℕ) (line line' : X → Words) (good : X → Bool) (xs ys : List X) (r s : List Words) → is_short_list good xs ≡ true → is_short_list good ys ≡ true →
    section name line xs ++ r ≡ section name line' ys ++ s → SameSection line line' xs ys r s
same_section name line line' good xs ys r s h k e =
    let p = and_parts (is_short (length xs)) (list_all good xs) h in
    let q = and_parts (is_short (length ys)) (list_all good ys) k in
    let count : decimal (length xs) ≡ decimal (length ys) = cc in
    let same = same_short (length xs) (length ys) p.0 q.0 count in
    let rests : map line xs ++ r ≡ map line' ys ++ s = cc in
    let maps = same_maps line line' xs ys r s same rests in
    record { count = same; lines = maps.0; rest = maps.1 }

same_gen : (g h : Gen) → g.y ≡ h.y → g.pre ≡ h.pre → g ≡ h
same_gen g h y pre = λ i. record { y = y i; pre = pre i }

same_gens : (first first' sparse sparse' : List ℕ) (xs ys : List Gen) → list_all is_held_gen xs ≡ true → list_all is_held_gen ys ≡ true →
    map (λ g. vector_line first g.y) xs ≡ map (λ g. vector_line first' g.y) ys → map (λ g. sparse_line sparse g.pre) xs ≡ map (λ g. sparse_line sparse' g.pre) ys → xs ≡ ys
same_gens first first' sparse sparse' [] [] h k e d = refl
same_gens first first' sparse sparse' [] (y ∷ ys) h k e d = cc
same_gens first first' sparse sparse' (x ∷ xs) [] h k e d = cc
same_gens first first' sparse sparse' (x ∷ xs) (y ∷ ys) h k e d =
    let p = and_parts (is_held_gen x) (list_all is_held_gen xs) h in
    let q = and_parts (is_held_gen y) (list_all is_held_gen ys) k in
    let line : vector_line first x.y ≡ vector_line first' y.y = cc in
    let pre : sparse_line sparse x.pre ≡ sparse_line sparse' y.pre = cc in
    let lines : map (λ g. vector_line first g.y) xs ≡ map (λ g. vector_line first' g.y) ys = cc in
    let pres : map (λ g. sparse_line sparse g.pre) xs ≡ map (λ g. sparse_line sparse' g.pre) ys = cc in
    let heads = same_gen x y
    (same_vector first first' x.y y.y (gen_parts x p.0).0 (gen_parts y q.0).0 line)
    (same_sparse sparse sparse' x.pre y.pre (gen_parts x p.0).1 (gen_parts y q.0).1 pre) in
    let tails = same_gens first first' sparse sparse' xs ys p.1 q.1 lines pres in
    λ i. heads i ∷ tails i

same_facet : (f g : Facet) → f.w ≡ g.w → f.gamma ≡ g.gamma → f.u ≡ g.u → f.tight ≡ g.tight → f ≡ g
same_facet f g w gamma u tight = λ i. record { w = w i; gamma = gamma i; u = u i; tight = tight i }

same_facets : (xs ys : List Facet) → list_all is_held_facet xs ≡ true → list_all is_held_facet ys ≡ true → map facet_line xs ≡ map facet_line ys → map incidence_line xs ≡ map incidence_line ys →
    map (λ f. sparse_line (codes "u") f.u) xs ≡ map (λ f. sparse_line (codes "u") f.u) ys → xs ≡ ys
same_facets [] [] h k e d c = refl
same_facets [] (y ∷ ys) h k e d c = cc
same_facets (x ∷ xs) [] h k e d c = cc
same_facets (x ∷ xs) (y ∷ ys) h k e d c =
    let p = and_parts (is_held_facet x) (list_all is_held_facet xs) h in
    let q = and_parts (is_held_facet y) (list_all is_held_facet ys) k in
    let line : facet_line x ≡ facet_line y = cc in
    let incidence : incidence_line x ≡ incidence_line y = cc in
    let dual : sparse_line (codes "u") x.u ≡ sparse_line (codes "u") y.u = cc in
    let lines : map facet_line xs ≡ map facet_line ys = cc in
    let incidences : map incidence_line xs ≡ map incidence_line ys = cc in
    let duals : map (λ f. sparse_line (codes "u") f.u) xs ≡ map (λ f. sparse_line (codes "u") f.u) ys = cc in
    let one = facet_parts x p.0 in
    let two = facet_parts y q.0 in
    let stated = same_facet_line x y one two line in
    let heads = same_facet x y stated.0 stated.1
    (same_sparse (codes "u") (codes "u") x.u y.u one.u_held two.u_held dual)
    (same_incidence x y one.tight_held two.tight_held incidence) in
    let tails = same_facets xs ys p.1 q.1 lines incidences duals in
    λ i. heads i ∷ tails i

-- the lines of an image, of which there may be none, before a line with another first word
same_line_lines : (ls ls' : List LineGen) (name name' : Words) (r s : List Words) → is_short_list is_held_line ls ≡ true → is_short_list is_held_line ls' ≡ true →
    line_lines ls ++ ((codes "points" ∷ name) ∷ r) ≡ line_lines ls' ++ ((codes "points" ∷ name') ∷ s) →
    SameSection line_of line_of ls ls' ((codes "points" ∷ name) ∷ r) ((codes "points" ∷ name') ∷ s)
same_line_lines [] [] name name' r s h k e = record { count = refl; lines = refl; rest = e }
same_line_lines [] (l ∷ ls) name name' r s h k e = cc
same_line_lines (l ∷ ls) [] name name' r s h k e = cc
same_line_lines (l ∷ ls) (m ∷ ms) name name' r s h k e = same_section (codes "lines") line_of line_of is_held_line (l ∷ ls) (m ∷ ms) _ _ h k e

same_gen_of_line : (l m : LineGen) → l.d ≡ m.d → l.ray ≡ m.ray → l.back ≡ m.back → l ≡ m
same_gen_of_line l m d ray back = λ i. record { d = d i; ray = ray i; back = back i }

same_ways : (ls ls' : List LineGen) (r s : List Words) → list_all is_held_line ls ≡ true → list_all is_held_line ls' ≡ true → map line_of ls ≡ map line_of ls' →
    flat_map ways ls ++ r ≡ flat_map ways ls' ++ s → (ls ≡ ls') × (r ≡ s)
same_ways [] [] r s h k e d = (refl, d)
same_ways [] (m ∷ ms) r s h k e d = cc
same_ways (l ∷ ls) [] r s h k e d = cc
same_ways (l ∷ ls) (m ∷ ms) r s h k e d =
    let p = and_parts (is_held_line l) (list_all is_held_line ls) h in
    let q = and_parts (is_held_line m) (list_all is_held_line ms) k in
    let one = line_parts l p.0 in
    let two = line_parts m q.0 in
    let both : sparse_line (codes "r") l.ray ∷ (sparse_line (codes "r") l.back ∷ (flat_map ways ls ++ r)) ≡ sparse_line (codes "r") m.ray ∷ (sparse_line (codes "r") m.back ∷ (flat_map ways ms ++ s)) = d in
    let line : line_of l ≡ line_of m = cc in
    let lines : map line_of ls ≡ map line_of ms = cc in
    let ray : sparse_line (codes "r") l.ray ≡ sparse_line (codes "r") m.ray = cc in
    let back : sparse_line (codes "r") l.back ≡ sparse_line (codes "r") m.back = cc in
    let rests : flat_map ways ls ++ r ≡ flat_map ways ms ++ s = cc in
    let heads = same_gen_of_line l m
    (same_vector (codes "l") (codes "l") l.d m.d one.d_held two.d_held line)
    (same_sparse (codes "r") (codes "r") l.ray m.ray one.ray_held two.ray_held ray)
    (same_sparse (codes "r") (codes "r") l.back m.back one.back_held two.back_held back) in
    let tails = same_ways ls ms r s p.1 q.1 lines rests in
    ((λ i. heads i ∷ tails.0 i), tails.1)

-- ---- what a report tells
nested : {X : Type 0} (k a b c d e w : List X) (x : X) →
    (((((k ++ a) ++ b) ++ c) ++ d) ++ (x ∷ e)) ++ w ≡ k ++ (a ++ (b ++ (c ++ (d ++ (x ∷ (e ++ w))))))
nested k a b c d e w x =
    append_assoc ((((k ++ a) ++ b) ++ c) ++ d) (x ∷ e) w
    ∙ append_assoc (((k ++ a) ++ b) ++ c) d (x ∷ (e ++ w))
    ∙ append_assoc ((k ++ a) ++ b) c (d ++ (x ∷ (e ++ w)))
    ∙ append_assoc (k ++ a) b (c ++ (d ++ (x ∷ (e ++ w))))
    ∙ append_assoc k a (b ++ (c ++ (d ++ (x ∷ (e ++ w)))))

nested_four : {X : Type 0} (k a b c : List X) → ((k ++ a) ++ b) ++ c ≡ k ++ (a ++ (b ++ c))
nested_four k a b c = append_assoc (k ++ a) b c ∙ append_assoc k a (b ++ c)

-- the lines of a solution after that of c
abbrev solution_lines : Problem → List LineGen → List Gen → List Gen → List Facet → List Words
solution_lines f ls points directions facets =
    line_lines ls
    ++ (section (codes "points") (λ g. vector_line (codes "1") g.y) points
    ++ (section (codes "directions") (λ g. vector_line (codes "0") g.y) directions
    ++ (section (codes "facets") facet_line facets
    ++ (section (codes "dual") (dual_line f.objs) facets
    ++ (dual_direction_line f
    ∷ (section (codes "incidence") incidence_line facets
    ++ ((codes "witnesses" ∷ []) ∷ witness_lines (Solved [] ls points directions facets))))))))

record SameSolution (ls ls' : List LineGen) (points points' directions directions' : List Gen) (facets facets' : List Facet) : Type 0 where
  pub lines_same : ls ≡ ls'
  pub points_same : points ≡ points'
  pub directions_same : directions ≡ directions'
  pub facets_same : facets ≡ facets'

same_solution : (f g : Problem) (c c' : List ℚ) (ls ls' : List LineGen) (points points' directions directions' : List Gen) (facets facets' : List Facet) →
    SolvedParts c ls points directions facets → SolvedParts c' ls' points' directions' facets' →
    solution_lines f ls points directions facets ≡ solution_lines g ls' points' directions' facets' → SameSolution ls ls' points points' directions directions' facets facets'
same_solution f g c c' ls ls' points points' directions directions' facets facets' p q e =
    let zero = same_line_lines ls ls' _ _ _ _ p.lines_held q.lines_held e in
    let one = same_section (codes "points") (λ x. vector_line (codes "1") x.y) (λ x. vector_line (codes "1") x.y) is_held_gen points points' _ _ p.points_held q.points_held zero.rest in
    let two = same_section (codes "directions") (λ x. vector_line (codes "0") x.y) (λ x. vector_line (codes "0") x.y) is_held_gen directions directions' _ _ p.directions_held q.directions_held one.rest in
    let three = same_section (codes "facets") facet_line facet_line is_held_facet facets facets' _ _ p.facets_held q.facets_held two.rest in
    let four = same_section (codes "dual") (dual_line f.objs) (dual_line g.objs) is_held_facet facets facets' _ _ p.facets_held q.facets_held three.rest in
    let last = tail_of _ _ _ _ four.rest in
    let five = same_section (codes "incidence") incidence_line incidence_line is_held_facet facets facets' _ _ p.facets_held q.facets_held last in
    let witnesses = sym (nested_four (flat_map ways ls) (map (λ x. sparse_line (codes "x") x.pre) points) (map (λ x. sparse_line (codes "r") x.pre) directions) (map (λ x. sparse_line (codes "u") x.u) facets))
    ∙ tail_of _ _ _ _ five.rest
    ∙ nested_four (flat_map ways ls') (map (λ x. sparse_line (codes "x") x.pre) points') (map (λ x. sparse_line (codes "r") x.pre) directions') (map (λ x. sparse_line (codes "u") x.u) facets') in
    let shown = same_ways ls ls' _ _ (all_of is_held_line ls p.lines_held) (all_of is_held_line ls' q.lines_held) zero.lines witnesses in
    let six = same_maps (λ x. sparse_line (codes "x") x.pre) (λ x. sparse_line (codes "x") x.pre) points points' _ _ one.count shown.1 in
    let seven = same_maps (λ x. sparse_line (codes "r") x.pre) (λ x. sparse_line (codes "r") x.pre) directions directions' _ _ two.count six.1 in
    record {
      lines_same = shown.0;
      points_same = same_gens (codes "1") (codes "1") (codes "x") (codes "x") points points' (all_of is_held_gen points p.points_held) (all_of is_held_gen points' q.points_held) one.lines six.0;
      directions_same = same_gens (codes "0") (codes "0") (codes "r") (codes "r") directions directions' (all_of is_held_gen directions p.directions_held) (all_of is_held_gen directions' q.directions_held) two.lines seven.0;
      facets_same = same_facets facets facets' (all_of is_held_facet facets p.facets_held) (all_of is_held_facet facets' q.facets_held) three.lines five.lines seven.1;
    }
  where
    tail_of : (v w : Words) (r s : List Words) → v ∷ r ≡ w ∷ s → r ≡ s
    tail_of v w r s e = cc

-- they are what stands after its first four lines
solution_from : (f : Problem) (c : List ℚ) (ls : List LineGen) (points directions : List Gen) (facets : List Facet) →
    drop 4 (report_lines f (Solved c ls points directions facets)) ≡ solution_lines f ls points directions facets
solution_from f c ls points directions facets =
    nested (line_lines ls) (section (codes "points") (λ g. vector_line (codes "1") g.y) points) (section (codes "directions") (λ g. vector_line (codes "0") g.y) directions)
    (section (codes "facets") facet_line facets) (section (codes "dual") (dual_line f.objs) facets) (section (codes "incidence") incidence_line facets)
    ((codes "witnesses" ∷ []) ∷ witness_lines (Solved c ls points directions facets)) (dual_direction_line f)

same_by_lines : (f g : Problem) (a b : Answer) → is_held_answer a ≡ true → is_held_answer b ≡ true → report_lines f a ≡ report_lines g b → a ≡ b
same_by_lines f g (Infeasible u) (Infeasible v) h k e =
    let line : sparse_line (codes "u") u ≡ sparse_line (codes "u") v = cc in
    ap Infeasible (same_sparse (codes "u") (codes "u") u v h k line)
same_by_lines f g (Infeasible u) (Whole c x ray) h k e = cc
same_by_lines f g (Infeasible u) (Solved c ls points directions facets) h k e = cc
same_by_lines f g (Whole c x ray) (Infeasible u) h k e = cc
same_by_lines f g (Whole c x ray) (Whole c' x' ray') h k e =
    let p = and_parts (list_all is_held c) _ h in
    let q = and_parts (is_held_sparse x) (is_held_sparse ray) p.1 in
    let r = and_parts (list_all is_held c') _ k in
    let s = and_parts (is_held_sparse x') (is_held_sparse ray') r.1 in
    let line_c : vector_line (codes "c") c ≡ vector_line (codes "c") c' = cc in
    let line_x : sparse_line (codes "x") x ≡ sparse_line (codes "x") x' = cc in
    let line_r : sparse_line (codes "r") ray ≡ sparse_line (codes "r") ray' = cc in
    let same_c = same_vector (codes "c") (codes "c") c c' p.0 r.0 line_c in
    let same_x = same_sparse (codes "x") (codes "x") x x' q.0 s.0 line_x in
    let same_r = same_sparse (codes "r") (codes "r") ray ray' q.1 s.1 line_r in
    λ i. Whole (same_c i) (same_x i) (same_r i)
same_by_lines f g (Whole c x ray) (Solved c' ls points directions facets) h k e = cc
same_by_lines f g (Solved c ls points directions facets) (Infeasible u) h k e = cc
same_by_lines f g (Solved c ls points directions facets) (Whole c' x ray) h k e = cc
same_by_lines f g (Solved c ls points directions facets) (Solved c' ls' points' directions' facets') h k e =
    let p = solved_parts c ls points directions facets h in
    let q = solved_parts c' ls' points' directions' facets' k in
    let line_c : vector_line (codes "c") c ≡ vector_line (codes "c") c' = cc in
    let same_c = same_vector (codes "c") (codes "c") c c' p.c_held q.c_held line_c in
    let same = same_solution f g c c' ls ls' points points' directions directions' facets facets' p q
    (sym (solution_from f c ls points directions facets) ∙ ap (drop 4) e ∙ solution_from g c' ls' points' directions' facets') in
    λ i. Solved (same_c i) (same.lines_same i) (same.points_same i) (same.directions_same i) (same.facets_same i)

pub one_answer_to_a_report : OneAnswerToAReport
one_answer_to_a_report f g a b h k e = same_by_lines f g a b h k (same_lines (report_lines f a) (report_lines g b) (report_is_lines f a h) (report_is_lines g b k) e)
