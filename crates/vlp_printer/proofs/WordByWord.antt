-- Texts that are appended word by word.
use Rattle.std.proofs.Common.{◌≡◌, ℕ, List, [], ◌∷◌, ◌++◌, ap, sym, ◌∙◌}
use Rattle.std.proofs.lemmas.Grind.{flat_map-append}
use Rattle.std.proofs.lemmas.List.{append-nil, append_assoc}
use Rattle.src_sink.specs.Texts.{words_text, line_text}
use Rattle.vlp_printer.specs.Printing.{after_blanks}
use Rattle.vlp_problem.proofs.Pieces.{flat_map-one}

words_after : (w : List ℕ) (ws : List (List ℕ)) → words_text (w ∷ ws) ≡ w ++ after_blanks ws
words_after w [] = sym (append-nil w)
words_after w (v ∷ ws) = ap (λ (r : List ℕ). w ++ 32 ∷ r) (words_after v ws)

-- a text, and then words of a line
abbrev pub Has : (into text w : List ℕ) (ws : List (List ℕ)) → Type 0
Has into text w ws = text ≡ into ++ (w ++ after_blanks ws)

pub first_word : (into t w : List ℕ) → t ≡ into ++ w → Has into t w []
first_word into t w e = e ∙ ap (λ (l : List ℕ). into ++ l) (sym (append-nil w))

pub more_words : (into t u w : List ℕ) (ws vs : List (List ℕ)) → Has into t w ws → u ≡ t ++ after_blanks vs → Has into u w (ws ++ vs)
more_words into t u w ws vs e f =
    f ∙ ap (λ (l : List ℕ). l ++ after_blanks vs) e ∙ append_assoc into (w ++ after_blanks ws) (after_blanks vs)
    ∙ ap (λ (l : List ℕ). into ++ l) (append_assoc w (after_blanks ws) (after_blanks vs) ∙ ap (λ (l : List ℕ). w ++ l) (sym (flat_map-append (λ (v : List ℕ). 32 ∷ v) ws vs)))

pub next_word : (into t u w : List ℕ) (ws : List (List ℕ)) (v : List ℕ) → Has into t w ws → u ≡ t ++ 32 ∷ v → Has into u w (ws ++ v ∷ [])
next_word into t u w ws v e f =
    f ∙ ap (λ (l : List ℕ). l ++ 32 ∷ v) e ∙ append_assoc into (w ++ after_blanks ws) (32 ∷ v)
    ∙ ap (λ (l : List ℕ). into ++ l) (append_assoc w (after_blanks ws) (32 ∷ v) ∙ ap (λ (l : List ℕ). w ++ l) (sym (flat_map-one (λ (x : List ℕ). 32 ∷ x) ws v)))

pub ended_line : (into t u w : List ℕ) (ws : List (List ℕ)) → Has into t w ws → u ≡ t ++ 10 ∷ [] → u ≡ into ++ line_text (w ∷ ws)
ended_line into t u w ws e f =
    f ∙ ap (λ (l : List ℕ). l ++ 10 ∷ []) e ∙ append_assoc into (w ++ after_blanks ws) (10 ∷ [])
    ∙ ap (λ (l : List ℕ). into ++ (l ++ 10 ∷ [])) (sym (words_after w ws))

-- parts that are appended one by one
pub part_more : (into t u xs ys : List ℕ) → t ≡ into ++ xs → u ≡ t ++ ys → u ≡ into ++ (xs ++ ys)
part_more into t u xs ys e f = f ∙ ap (λ (l : List ℕ). l ++ ys) e ∙ append_assoc into xs ys
