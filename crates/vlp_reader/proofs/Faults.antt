-- Each file has a first fault or none, and one alone.
use Rattle.std.proofs.Common.{◌≡◌, refl, ℕ, zero, suc, ◌<◌, ◌≤◌, ◌⊎◌, inl, inr, List, length, Option, None, Some, unwrap_or, arith, ap, sym, ◌∙◌, subst}
use Rattle.std.proofs.lemmas.Option.{none-some}
use Rattle.vlp_reader.specs.FirstFault.{file_lines, fault_at, Passes, fault_after, closing_line, FailsOnLine, FirstFault, HasNoFault, Reads}
use Rattle.vlp_reader.specs.declared.fault.FileKind.{FileKind}
use Rattle.vlp_problem.specs.declared.problem.Problem.{Problem}
use Rattle.vlp_reader.proofs.Readings.{le_cases}

next_line : (lines : List (List ℕ)) (n : ℕ) → n < length lines → Passes lines n → (o : Option FileKind) → fault_at lines n ≡ o
    → Passes lines (suc n) ⊎ ((line : ℕ) × (kind : FileKind) × FailsOnLine lines line kind)
next_line lines n h pass None e = inl (λ k lt. elim (le_cases k n (omega arith)) [ inl below ↦ pass k below | inr same ↦ subst (λ (m : ℕ). fault_at lines m ≡ None) (sym same) e ])
next_line lines n h pass (Some kind) e = inr (suc n, kind, record { place = n; number = refl; within = h; before = pass; fails = e })

-- the first n lines pass, or one of the lines is the first that fails
first_of : (lines : List (List ℕ)) (n : ℕ) → n ≤ length lines → Passes lines n ⊎ ((line : ℕ) × (kind : FileKind) × FailsOnLine lines line kind)
first_of lines zero h = inl (λ k lt. absurd (omega arith))
first_of lines (suc n) h = elim (first_of lines n (omega arith)) [
  | inr found ↦ inr found
  | inl pass ↦ next_line lines n (omega arith) pass (fault_at lines n) refl
]

closing_of : (bytes : List ℕ) → Passes (file_lines bytes) (length (file_lines bytes)) → (o : Option FileKind) → fault_after (file_lines bytes) ≡ o
    → HasNoFault (file_lines bytes) ⊎ ((line : ℕ) × (kind : FileKind) × FirstFault bytes line kind)
closing_of bytes pass None e = inl (record { pass = pass; closed = e })
closing_of bytes pass (Some kind) e = inr (closing_line (file_lines bytes), kind, inr (record { pass = pass; fails = e; number = refl }))

pub fault_or_none : (bytes : List ℕ) → HasNoFault (file_lines bytes) ⊎ ((line : ℕ) × (kind : FileKind) × FirstFault bytes line kind)
fault_or_none bytes = elim (first_of (file_lines bytes) (length (file_lines bytes)) (omega arith)) [
  | inr found ↦ inr (found.0, found.1, inl found.2)
  | inl pass ↦ closing_of bytes pass (fault_after (file_lines bytes)) refl
]

none_or_fault : (bytes : List ℕ) (line : ℕ) (kind : FileKind) → HasNoFault (file_lines bytes) → FirstFault bytes line kind → ⊥
none_or_fault bytes line kind none (inl f) = none-some kind (sym (none.pass f.place f.within) ∙ f.fails)
none_or_fault bytes line kind none (inr f) = none-some kind (sym none.closed ∙ f.fails)

pub never_both : (bytes : List ℕ) (problem : Problem) (line : ℕ) (kind : FileKind) → Reads bytes problem → FirstFault bytes line kind → ⊥
never_both bytes problem line kind reads fault = none_or_fault bytes line kind reads.sound fault

three : (m n : ℕ) → (m < n) ⊎ ((m ≡ n) ⊎ (n < m))
three zero zero = inr (inl refl)
three zero (suc n) = inl (omega arith)
three (suc m) zero = inr (inr (omega arith))
three (suc m) (suc n) = elim (three m n) [ inl l ↦ inl (omega arith) | inr (inl e) ↦ inr (inl (ap suc e)) | inr (inr l) ↦ inr (inr (omega arith)) ]

on_lines : (lines : List (List ℕ)) (m n : ℕ) (k l : FileKind) → FailsOnLine lines m k → FailsOnLine lines n l → (m ≡ n) × (k ≡ l)
on_lines lines m n k l f g = elim (three f.place g.place) [
  | inl less ↦ absurd (none-some k (sym (g.before f.place less) ∙ f.fails))
  | inr (inl same) ↦ (f.number ∙ ap suc same ∙ sym g.number, ap (λ o. unwrap_or o k) (sym f.fails ∙ ap (fault_at lines) same ∙ g.fails))
  | inr (inr more) ↦ absurd (none-some l (sym (f.before g.place more) ∙ g.fails))
]

pub one_fault : (bytes : List ℕ) (m n : ℕ) (k l : FileKind) → FirstFault bytes m k → FirstFault bytes n l → (m ≡ n) × (k ≡ l)
one_fault bytes m n k l (inl f) (inl g) = on_lines (file_lines bytes) m n k l f g
one_fault bytes m n k l (inl f) (inr g) = absurd (none-some k (sym (g.pass f.place f.within) ∙ f.fails))
one_fault bytes m n k l (inr f) (inl g) = absurd (none-some l (sym (f.pass g.place g.within) ∙ g.fails))
one_fault bytes m n k l (inr f) (inr g) = (f.number ∙ sym g.number, ap (λ o. unwrap_or o k) (sym f.fails ∙ g.fails))
