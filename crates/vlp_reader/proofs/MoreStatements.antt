-- What statements give when one more stands after them.
use Rattle.std.proofs.Common.{◌≡◌, refl, ◌+◌, Bool, true, false, ◌&&◌, if◌then◌else◌, List, [], ◌∷◌, ◌++◌, count_by, Option, None, Some, zero-add, arith, ap, ◌∙◌}
use Rattle.std.specs.List.{list_all}
use Rattle.std.specs.Option.{option_or}
use Rattle.std.proofs.lemmas.List.Sums.{sum_by-append}
use Rattle.std.proofs.lemmas.Bool.{and_parts, and_from, false≢true}
use Rattle.vlp_reader.specs.Drafts.{is_silent}
use Rattle.vlp_reader.specs.Grammar.{first_given}
use Rattle.vlp_reader.specs.declared.statement.Statement.{Statement}
use Rattle.vlp_reader.specs.declared.statement.Statement.TheVariants.{Silent, Heading, Entry, Limit, End}

pub silent_from : (s : Statement) → is_silent s ≡ true → s ≡ Silent
silent_from Silent h = refl
silent_from (Heading x) h = absurd (false≢true h)
silent_from (Entry m i j number) h = absurd (false≢true h)
silent_from (Limit axis n bound) h = absurd (false≢true h)
silent_from End h = absurd (false≢true h)

pub option_or_none : {A : Type 0} (o : Option A) → option_or o None ≡ o
option_or_none None = refl
option_or_none (Some x) = refl

option_or_assoc : {A : Type 0} (o p q : Option A) → option_or o (option_or p q) ≡ option_or (option_or o p) q
option_or_assoc None p q = refl
option_or_assoc (Some x) p q = refl

pub first_given-push : {A : Type 0} (f : Statement → Option A) (statements : List Statement) (s : Statement) → first_given f (statements ++ s ∷ []) ≡ option_or (first_given f statements) (f s)
first_given-push f [] s = option_or_none (f s)
first_given-push f (first ∷ statements) s =
    ap (option_or (f first)) (first_given-push f statements s) ∙ option_or_assoc (f first) (first_given f statements) (f s)

-- where the last one gives nothing
pub first_given-same : {A : Type 0} (f : Statement → Option A) (statements : List Statement) (s : Statement) → f s ≡ None → first_given f (statements ++ s ∷ []) ≡ first_given f statements
first_given-same f statements s h = first_given-push f statements s ∙ ap (option_or (first_given f statements)) h ∙ option_or_none (first_given f statements)

pub first_given-kept : {A : Type 0} (f : Statement → Option A) (statements : List Statement) (s : Statement) (x : A) → first_given f statements ≡ Some x → first_given f (statements ++ s ∷ []) ≡ Some x
first_given-kept f statements s x h = first_given-push f statements s ∙ ap (λ o. option_or o (f s)) h

pub first_given-new : {A : Type 0} (f : Statement → Option A) (statements : List Statement) (s : Statement) → first_given f statements ≡ None → first_given f (statements ++ s ∷ []) ≡ f s
first_given-new f statements s h = first_given-push f statements s ∙ ap (λ o. option_or o (f s)) h

pub count-push : (test : Statement → Bool) (statements : List Statement) (s : Statement) → count_by test (statements ++ s ∷ []) ≡ count_by test statements + (if test s then 1 else 0)
count-push test statements s = sum_by-append (λ x. if test x then 1 else 0) statements (s ∷ []) ∙ omega arith

-- statements that say nothing give nothing
pub silent_gives : {A : Type 0} (f : Statement → Option A) → f Silent ≡ None → (statements : List Statement) → list_all is_silent statements ≡ true → first_given f statements ≡ None
silent_gives f h [] k = refl
silent_gives f h (s ∷ statements) k =
    let parts = and_parts (is_silent s) (list_all is_silent statements) k in
    ap (λ x. option_or (f x) (first_given f statements)) (silent_from s parts.0) ∙ ap (λ o. option_or o (first_given f statements)) h ∙ silent_gives f h statements parts.1

pub silent_counts : (test : Statement → Bool) → test Silent ≡ false → (statements : List Statement) → list_all is_silent statements ≡ true → count_by test statements ≡ 0
silent_counts test h [] k = refl
silent_counts test h (s ∷ statements) k =
    let parts = and_parts (is_silent s) (list_all is_silent statements) k in
    let rest = silent_counts test h statements parts.1 in
    sum_by-append (λ x. if test x then 1 else 0) (s ∷ []) statements
    ∙ ap (λ (b : Bool). 0 + (if b then 1 else 0) + count_by test statements) (ap test (silent_from s parts.0) ∙ h) ∙ zero-add (count_by test statements) ∙ rest

pub silent_push : (statements : List Statement) (s : Statement) → list_all is_silent statements ≡ true → s ≡ Silent → list_all is_silent (statements ++ s ∷ []) ≡ true
silent_push [] s k h = ap (λ x. is_silent x && true) h
silent_push (first ∷ statements) s k h =
    let parts = and_parts (is_silent first) (list_all is_silent statements) k in
    and_from (is_silent first) (list_all is_silent (statements ++ s ∷ [])) parts.0 (silent_push statements s parts.1 h)
