-- Words that are written one after the other.
use Rattle.std.proofs.Common.{◌≡◌, refl, ℕ, ◌+◌, ◌<◌, List, [], ◌∷◌, ◌++◌, length, take, get_or, ap, sym, ◌∙◌, append_assoc}
use Rattle.std.specs.List.{flat_map}
use Rattle.std.proofs.lemmas.List.{append-nil, take_more}
use Rattle.src_sink.specs.Texts.{words_text}
use Rattle.word_lines.specs.Parts.{Part, part_words}
use Rattle.word_lines.specs.Printing.{spaced}

pub spaced-append : (v w : List (List ℕ)) → spaced (v ++ w) ≡ spaced v ++ spaced w
spaced-append [] w = refl
spaced-append (x ∷ v) w = ap (λ r. (32 ∷ x) ++ r) (spaced-append v w) ∙ sym (append_assoc (32 ∷ x) (spaced v) (spaced w))

flat-append : {X : Type 0} (f : X → List (List ℕ)) (xs ys : List X) → flat_map f (xs ++ ys) ≡ flat_map f xs ++ flat_map f ys
flat-append f [] ys = refl
flat-append f (x ∷ xs) ys = ap (λ r. f x ++ r) (flat-append f xs ys) ∙ sym (append_assoc (f x) (flat_map f xs) (flat_map f ys))

-- one item more
pub item_put : {X : Type 0} (f : X → List (List ℕ)) (xs : List X) (i : ℕ) (x d : X) (old now next : List ℕ) → i < length xs → x ≡ get_or xs i d → now ≡ old ++ spaced (flat_map f (take i xs)) → next ≡ now ++ spaced (f x) → next ≡ old ++ spaced (flat_map f (take (i + 1) xs))
item_put f xs i x d old now next low is h k =
    k ∙ ap (λ r. r ++ spaced (f x)) h ∙ append_assoc old (spaced (flat_map f (take i xs))) (spaced (f x))
    ∙ ap (λ r. old ++ r) (sym (spaced-append (flat_map f (take i xs)) (f x)))
    ∙ ap (λ r. old ++ spaced r) (ap (λ r. flat_map f (take i xs) ++ r) (ap f is ∙ sym (append-nil (f (get_or xs i d)))) ∙ sym (flat-append f (take i xs) (get_or xs i d ∷ [])) ∙ ap (flat_map f) (sym (take_more xs i d low)))

-- a line is its first word and the others, a blank before each
pub line_of_words : (w : List ℕ) (ws : List (List ℕ)) → words_text (w ∷ ws) ≡ w ++ spaced ws
line_of_words w [] = sym (append-nil w)
line_of_words w (x ∷ ws) = ap (λ r. w ++ 32 ∷ r) (line_of_words x ws)

-- this name and these parts are written
pub record Written (old : List ℕ) (name : List ℕ) (ps : List Part) (now : List ℕ) : Type 0 where
  pub text : now ≡ old ++ (name ++ spaced (flat_map part_words ps))

pub named : (old name now : List ℕ) → now ≡ old ++ name → Written old name [] now
named old name now h = record { text = h ∙ ap (λ r. old ++ r) (sym (append-nil name)) }

-- one part more
pub then_part : {old name now next : List ℕ} {ps : List Part} (p : Part) → Written old name ps now → next ≡ now ++ spaced (part_words p) → Written old name (ps ++ p ∷ []) next
then_part {old} {name} {now} {next} {ps} p w h = record {
  text =
      h ∙ ap (λ r. r ++ spaced (part_words p)) w.text ∙ append_assoc old (name ++ spaced (flat_map part_words ps)) (spaced (part_words p))
      ∙ ap (λ r. old ++ r) (append_assoc name (spaced (flat_map part_words ps)) (spaced (part_words p)) ∙ ap (λ r. name ++ r) (sym (spaced-append (flat_map part_words ps) (part_words p))
      ∙ ap spaced (ap (λ r. flat_map part_words ps ++ r) (sym (append-nil (part_words p))) ∙ sym (flat-append part_words ps (p ∷ [])))));
}

-- the words of a line are written
pub whole_text : {old name now : List ℕ} {ps : List Part} → Written old name ps now → now ≡ old ++ words_text (name ∷ flat_map part_words ps)
whole_text {old} {name} {now} {ps} w = w.text ∙ ap (λ r. old ++ r) (sym (line_of_words name (flat_map part_words ps)))
