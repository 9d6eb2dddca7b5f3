-- Reading a file line by line.
use Rattle.std.proofs.Common.{◌≡◌, refl, ℕ, zero, suc, ◌+◌, ◌<◌, ◌≤◌, ◌⊎◌, inl, inr, Bool, true, false, ◌||◌, if◌then◌else◌, List, [], ◌∷◌, ◌++◌, length, map, take, get_or, Option, None, Result, Ok, Err, MatchResult, arith, ap, sym, ◌∙◌, subst}
use Rattle.std.specs.List.{list_any}
use Rattle.std.proofs.lemmas.Bool.{cond-true, cond-false, or_parts}
use Rattle.std.proofs.lemmas.List.{append-nil, append_assoc, length-append, map-append, take-append-le}
use Rattle.std.proofs.Math.Seq.{take-append_seam}
use Rattle.vlp_reader.specs.Drafts.{HasRead}
use Rattle.vlp_reader.specs.Ends.{ComesFrom, end_at}
use Rattle.vlp_reader.specs.FirstFault.{ends, looked_at, file_lines, fault_at, Passes, closing_line, FailsOnLine, FailsAfter, HasNoFault, Reads}
use Rattle.vlp_reader.specs.Grammar.{first_given, given_sizes, line_fault, Gives}
use Rattle.vlp_reader.specs.Lines.{lines_of}
use Rattle.vlp_reader.specs.Reading.{TakesLine, ClosesOr, HasCome, EndsReading}
use Rattle.vlp_reader.specs.Statements.{statement_on}
use Rattle.vlp_reader.specs.declared.draft.Draft.{Draft}
use Rattle.vlp_reader.specs.declared.fault.LineEnd.{LineEnd}
use Rattle.vlp_reader.specs.declared.fault.LineEnd.TheVariants.{Kind, NoMemory}
use Rattle.vlp_reader.specs.declared.fault.VlpEnd.{VlpEnd}
use Rattle.vlp_problem.specs.declared.problem.Problem.{Problem}
use Rattle.vlp_reader.specs.declared.statement.Statement.{Statement}

-- ---- lists
get_or-front : {A : Type 0} (xs ys : List A) (k : ℕ) (d : A) → k < length xs → get_or (xs ++ ys) k d ≡ get_or xs k d
get_or-front [] ys k d h = absurd (omega arith)
get_or-front (x ∷ xs) ys zero d h = refl
get_or-front (x ∷ xs) ys (suc k) d h = get_or-front xs ys k d (omega arith)

get_or-seam : {A : Type 0} (xs ys : List A) (y d : A) → get_or (xs ++ y ∷ ys) (length xs) d ≡ y
get_or-seam [] ys y d = refl
get_or-seam (x ∷ xs) ys y d = get_or-seam xs ys y d

pub any-push : (xs : List (List ℕ)) (x : List ℕ) → list_any ends xs ≡ false → list_any ends (xs ++ x ∷ []) ≡ ends x
any-push [] x h = or_false (ends x)
  where
    or_false : (b : Bool) → (b || false) ≡ b
    or_false true = refl
    or_false false = refl
any-push (first ∷ xs) x h =
    let parts = or_parts (ends first) (list_any ends xs) h in
    ap (λ b. b || list_any ends (xs ++ x ∷ [])) parts.0 ∙ any-push xs x parts.1

-- ---- lines
pub looked_at-append : (xs ys : List (List ℕ)) → list_any ends xs ≡ false → looked_at (xs ++ ys) ≡ xs ++ looked_at ys
looked_at-append [] ys h = refl
looked_at-append (x ∷ xs) ys h =
    let parts = or_parts (ends x) (list_any ends xs) h in
    ap (λ l. x ∷ l) (cond-false (ends x) [] (looked_at (xs ++ ys)) parts.0 ∙ looked_at-append xs ys parts.1)

pub looked_at-end : (line : List ℕ) (lines : List (List ℕ)) → ends line ≡ true → looked_at (line ∷ lines) ≡ line ∷ []
looked_at-end line lines h = ap (λ l. line ∷ l) (cond-true (ends line) [] (looked_at lines) h)

fault_at-front : (xs ys : List (List ℕ)) (k : ℕ) → k < length xs → fault_at (xs ++ ys) k ≡ fault_at xs k
fault_at-front xs ys k h =
    ap (λ l. line_fault (map statement_on l) (get_or (xs ++ ys) k [])) (take-append-le k xs ys (omega arith))
    ∙ ap (line_fault (map statement_on (take k xs))) (get_or-front xs ys k [] h)

fault_at-seam : (xs ys : List (List ℕ)) (x : List ℕ) → fault_at (xs ++ x ∷ ys) (length xs) ≡ line_fault (map statement_on xs) x
fault_at-seam xs ys x =
    ap (λ l. line_fault (map statement_on l) (get_or (xs ++ x ∷ ys) (length xs) [])) (take-append_seam xs (x ∷ ys))
    ∙ ap (line_fault (map statement_on xs)) (get_or-seam xs ys x [])

passes-front : (xs ys : List (List ℕ)) → Passes xs (length xs) → Passes (xs ++ ys) (length xs)
passes-front xs ys pass k h = fault_at-front xs ys k h ∙ pass k h

pub le_cases : (k m : ℕ) → k ≤ m → (k < m) ⊎ (k ≡ m)
le_cases zero zero h = inr refl
le_cases zero (suc m) h = inl (omega arith)
le_cases (suc k) zero h = absurd (omega arith)
le_cases (suc k) (suc m) h = elim (le_cases k m (omega arith)) [ inl l ↦ inl (omega arith) | inr e ↦ inr (ap suc e) ]

pub passes-push : (xs : List (List ℕ)) (x : List ℕ) → Passes xs (length xs) → line_fault (map statement_on xs) x ≡ None → Passes (xs ++ x ∷ []) (length (xs ++ x ∷ []))
passes-push xs x pass fault k h = elim (le_cases k (length xs) (omega (arith, length-append xs (x ∷ [])))) [
  | inl less ↦ passes-front xs (x ∷ []) pass k less
  | inr same ↦ ap (fault_at (xs ++ x ∷ [])) same ∙ fault_at-seam xs [] x ∙ fault
]

pub map-push : (xs : List (List ℕ)) (x : List ℕ) → map statement_on (xs ++ x ∷ []) ≡ map statement_on xs ++ statement_on x ∷ []
map-push xs x = map-append statement_on xs (x ∷ [])

length-push : (xs : List (List ℕ)) (x : List ℕ) → length (xs ++ x ∷ []) ≡ length xs + 1
length-push xs x = length-append xs (x ∷ []) ∙ refl

-- ---- how far reading has come
pub come_start : (bytes : List ℕ) → HasCome bytes bytes 0 None
come_start bytes = record { done = []; lines = refl; unended = refl; pass = λ k h. absurd (omega arith); has = refl; count = refl; within = omega arith }

pub come_more : (bytes rest next line : List ℕ) (number : ℕ) (old new : Option Draft) → (h : HasCome bytes rest number old) → lines_of rest ≡ line ∷ lines_of next → length next < length rest
    → TakesLine line (map statement_on h.done) new false → HasCome bytes next (number + 1) new
come_more bytes rest next line number old new h split less takes =
    let within : number + length rest ≤ length bytes = h.within in
    record {
      done = h.done ++ line ∷ [];
      lines = h.lines ∙ ap (λ l. h.done ++ l) split ∙ sym (append_assoc h.done (line ∷ []) (lines_of next));
      unended = any-push h.done line h.unended ∙ sym takes.end;
      pass = passes-push h.done line h.pass takes.passes;
      has = subst (λ (l : List Statement). HasRead new l) (sym (map-push h.done line)) takes.has;
      count = ap (λ n. n + 1) h.count ∙ sym (length-push h.done line);
      within = omega arith;
    }

-- the lines that are looked at where one more is
come_lines : (bytes rest next line : List ℕ) (number : ℕ) (old : Option Draft) → (h : HasCome bytes rest number old) → lines_of rest ≡ line ∷ lines_of next
    → file_lines bytes ≡ h.done ++ line ∷ (if ends line then [] else looked_at (lines_of next))
come_lines bytes rest next line number old h split = ap looked_at (h.lines ∙ ap (λ l. h.done ++ l) split) ∙ looked_at-append h.done (line ∷ lines_of next) h.unended

-- a line has a fault
pub come_fault : (bytes rest next line : List ℕ) (number : ℕ) (old : Option Draft) → (h : HasCome bytes rest number old) → lines_of rest ≡ line ∷ lines_of next
    → (end : LineEnd) → ComesFrom (line_fault (map statement_on h.done) line) end → EndsReading bytes (end_at (number + 1) end)
come_fault bytes rest next line number old h split (Kind kind) fault =
    let more = if ends line then [] else looked_at (lines_of next) in
    let all = h.done ++ line ∷ more in
    inl (subst (λ (l : List (List ℕ)). FailsOnLine l (number + 1) kind) (sym (come_lines bytes rest next line number old h split))
    (record {
      place = length h.done;
      number = omega (arith, h.count);
      within = omega (arith, length-append h.done (line ∷ more));
      before = passes-front h.done (line ∷ more) h.pass;
      fails = fault_at-seam h.done more line ∙ fault;
    }))
come_fault bytes rest next line number old h split NoMemory fault = tt

-- ---- the end
closes : (bytes : List ℕ) (all : List (List ℕ)) (number : ℕ) (result : Result Problem LineEnd) → file_lines bytes ≡ all → Passes all (length all) → number ≡ closing_line all
    → ClosesOr (map statement_on all) result → MatchResult result (Reads bytes) (λ end. EndsReading bytes (end_at number end))
closes bytes all number (Ok problem) is pass line c =
    record {
      sound = subst HasNoFault (sym is) (record { pass = pass; closed = c.passes });
      sizes = c.sizes;
      given = ap (λ l. first_given given_sizes (map statement_on l)) is ∙ c.given;
      gives = subst (λ (l : List (List ℕ)). Gives (map statement_on l) c.sizes problem) (sym is) c.gives;
    }
closes bytes all number (Err (Kind kind)) is pass line c =
    inr (subst (λ (l : List (List ℕ)). FailsAfter l number kind) (sym is) (record { pass = pass; fails = c; number = line }))
closes bytes all number (Err NoMemory) is pass line c = tt

-- at an `e` line
pub come_end : (bytes rest next line : List ℕ) (number : ℕ) (old new : Option Draft) (result : Result Problem LineEnd) → (h : HasCome bytes rest number old) → lines_of rest ≡ line ∷ lines_of next
    → TakesLine line (map statement_on h.done) new true → ((statements : List Statement) → HasRead new statements → ClosesOr statements result)
    → MatchResult result (Reads bytes) (λ end. EndsReading bytes (end_at (number + 1) end))
come_end bytes rest next line number old new result h split takes closing =
    let all = h.done ++ line ∷ [] in
    let is : file_lines bytes ≡ all = come_lines bytes rest next line number old h split ∙ ap (λ l. h.done ++ line ∷ l) (cond-true (ends line) [] (looked_at (lines_of next)) (sym takes.end)) in
    closes bytes all (number + 1) result is (passes-push h.done line h.pass takes.passes)
    (ap (λ n. n + 1) h.count ∙ sym (length-push h.done line) ∙ sym (cond-true (list_any ends all) (length all) (length all + 1) (any-push h.done line h.unended ∙ sym takes.end)))
    (closing (map statement_on all) (subst (λ (l : List Statement). HasRead new l) (sym (map-push h.done line)) takes.has))

-- after the last line
pub come_last : (bytes rest : List ℕ) (number : ℕ) (draft : Option Draft) (result : Result Problem LineEnd) → HasCome bytes rest number draft → lines_of rest ≡ []
    → ((statements : List Statement) → HasRead draft statements → ClosesOr statements result)
    → MatchResult result (Reads bytes) (λ end. EndsReading bytes (end_at (number + 1) end))
come_last bytes rest number draft result h none closing =
    let is : file_lines bytes ≡ h.done = ap looked_at (h.lines ∙ ap (λ l. h.done ++ l) none) ∙ looked_at-append h.done [] h.unended ∙ append-nil h.done in
    closes bytes h.done (number + 1) result is h.pass
    (ap (λ n. n + 1) h.count ∙ sym (cond-false (list_any ends h.done) (length h.done) (length h.done + 1) h.unended))
    (closing (map statement_on h.done) h.has)

-- what closing gave, on its line
pub ended_as : (bytes : List ℕ) (number : ℕ) (closed : Result Problem LineEnd) (result : Result Problem VlpEnd)
    → MatchResult closed (λ problem. result ≡ Ok problem) (λ end. result ≡ Err (end_at number end)) → MatchResult closed (Reads bytes) (λ end. EndsReading bytes (end_at number end))
    → MatchResult result (Reads bytes) (EndsReading bytes)
ended_as bytes number (Ok problem) result is h = subst (λ (r : Result Problem VlpEnd). MatchResult r (Reads bytes) (EndsReading bytes)) (sym is) h
ended_as bytes number (Err end) result is h = subst (λ (r : Result Problem VlpEnd). MatchResult r (Reads bytes) (EndsReading bytes)) (sym is) h
