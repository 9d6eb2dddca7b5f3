-- Fault lines as texts.
use Rattle.std.proofs.Common.{◌≡◌, ℕ, List, [], ◌∷◌, ◌++◌, ap, sym, ◌∙◌, append_assoc, append-nil, codes, decimal}
use Rattle.word_lines.specs.Printing.{spaced}
use Rattle.sol_writer.proofs.Written.{Line}

-- a fault line with two numbers and a name
pub numbered : (front between : List ℕ) (n kind kind' : ℕ) (name name' text : List ℕ) → kind ≡ kind' → name ≡ name' →
    text ≡ front ++ (decimal n ++ (between ++ (decimal kind ++ (codes " " ++ (name ++ codes "\n"))))) →
    text ≡ (front ++ (decimal n ++ (between ++ (decimal kind' ++ (32 ∷ name'))))) ++ 10 ∷ []
numbered front between n kind kind' name name' text same_kind same_name parts =
    parts ∙ rw (same_kind, same_name) (regrouped front between (decimal n) (decimal kind') name')
  where
    regrouped : (front between number kind name : List ℕ) →
        front ++ (number ++ (between ++ (kind ++ (codes " " ++ (name ++ codes "\n"))))) ≡ (front ++ (number ++ (between ++ (kind ++ (32 ∷ name))))) ++ 10 ∷ []
    regrouped front between number kind name = simp append_assoc

-- the first two words of a fault line are written
pub fault_begun : {now : List ℕ} (status : List ℕ) → now ≡ codes "fault " ++ status → Line [] (codes "fault") (status ∷ []) now
fault_begun status h = record { text = h ∙ ap (λ r. codes "fault " ++ r) (sym (append-nil status)) }

-- words are written, a blank before each
pub words_put : {old now : List ℕ} (words : List (List ℕ)) → now ≡ old ++ spaced words → Line old [] words now
words_put words h = record { text = h }
