-- Steps that are done and steps that are left.
use Rattle.std.proofs.Common.{◌≡◌, ℕ, suc, ◌+◌, ◌≤◌, List, [], ◌∷◌, ◌++◌, length, map, All, Bool, true, false, cond, refl, sym, ap, ap₂, ◌∙◌, subst, arith, ◌||◌, ◌⊎◌, inl, inr, append_assoc, length-append}
use Rattle.std.specs.Prelude.{IsFalse}
use Rattle.std.proofs.lemmas.List.{append-nil, map-append}
use Rattle.exact_field.specs.declared.op.Op.TheVariants.{Add, Mul, Div}
use Rattle.std.proofs.lemmas.List.Elements.{All-nil, All-cons, All-append}
use Rattle.exact_field.specs.Field.{AreSumsHeld, exact}
use Rattle.exact_field.specs.Rational.{ℚ}
use Rattle.exact_field.specs.declared.op.Left.{Left}
use Rattle.exact_field.specs.Rational.{zero_ℚ, ◌+ℚ◌, ◌*ℚ◌}
use Rattle.polyhedra.specs.Vectors.{plus, scaled}
use Rattle.polyhedra.specs.DoubleDescription.{is_zero, leading}
use Rattle.polyhedra.proofs.Tests.{either_true, zero_of_test}
use Rattle.exact_field.specs.Vector.{dot}
use Rattle.polyhedra.proofs.Laws.{add_assoc}
use Rattle.std.proofs.Common.{Result, Ok, Err}
use Rattle.std.specs.Prelude.{IsErrAnd, IfOk, IfErr, OnOk, MatchResult}
use Rattle.double_descr.specs.declared.steps.Stop.{Stop}
use Rattle.double_descr.specs.Steps.{Runs, StopsAt, combination_steps, quotient_steps, multiple_steps, product_steps, term_steps, Step, IsHeld, IsFirst, IsSoFar}
use Rattle.polyhedra.proofs.Algebra.{zero_mul, mul_zero}
use Rattle.polyhedra.proofs.Laws.{add_zero}

pub start : (holds : ℚ → Bool) (steps : List Step) → IsSoFar holds steps steps 0
start holds steps = record { before = []; split = refl; held = All-nil (IsHeld holds); counted = refl }

pub one_more : (holds : ℚ → Bool) (steps : List Step) (s : Step) (left : List Step) (n : ℕ) → IsSoFar holds steps (s ∷ left) n → IsHeld holds s →
    IsSoFar holds steps left (n + 1)
one_more holds steps s left n h k = record {
  before = h.before ++ s ∷ [];
  split = h.split ∙ sym (append_assoc h.before (s ∷ []) left);
  held = All-append (IsHeld holds) h.before (s ∷ []) h.held (All-cons (IsHeld holds) s [] k (All-nil (IsHeld holds)));
  counted = length-append h.before (s ∷ []) ∙ ap (λ m. m + 1) h.counted;
}

pub two_more : (holds : ℚ → Bool) (steps : List Step) (s t : Step) (left : List Step) (n : ℕ) → IsSoFar holds steps (s ∷ t ∷ left) n → IsHeld holds s → IsHeld holds t →
    IsSoFar holds steps left (n + 2)
two_more holds steps s t left n h k l = subst (λ (m : ℕ). IsSoFar holds steps left m) (omega arith)
    (one_more holds steps t left (n + 1) (one_more holds steps s (t ∷ left) n h k) l)

pub at_last : (holds : ℚ → Bool) (steps : List Step) (n : ℕ) → IsSoFar holds steps [] n → All (IsHeld holds) steps
at_last holds steps n h = subst (λ (ss : List Step). All (IsHeld holds) ss) (sym (h.split ∙ append-nil h.before)) h.held

pub same_left : (holds : ℚ → Bool) (steps a b : List Step) (n : ℕ) → a ≡ b → IsSoFar holds steps a n → IsSoFar holds steps b n
same_left holds steps a b n e h = subst (λ (ss : List Step). IsSoFar holds steps ss n) e h

pub stopped : {F : Type 0} (value : F → ℚ) (holds : ℚ → Bool) (steps : List Step) (s : Step) (left : List Step) (n : ℕ) (operands : Left F) →
    IsSoFar holds steps (s ∷ left) n → IsFalse (holds (exact s.op s.a s.b)) → operands.op ≡ s.op → value operands.a ≡ s.a → value operands.b ≡ s.b →
    IsFirst value holds steps (n + 1) operands
stopped value holds steps s left n operands h k o a b = record {
  before = h.before;
  step = s;
  after = left;
  split = h.split;
  held = h.held;
  numbered = ap (λ m. m + 1) (sym h.counted);
  left_is = (o, a, b, k);
}

pub stopped_second : {F : Type 0} (value : F → ℚ) (holds : ℚ → Bool) (steps : List Step) (s : Step) (left : List Step) (n : ℕ) (operands : Left F) →
    IsSoFar holds steps (s ∷ left) (n + 1) → IsFalse (holds (exact s.op s.a s.b)) → operands.op ≡ s.op → value operands.a ≡ s.a → value operands.b ≡ s.b →
    IsFirst value holds steps (n + 2) operands
stopped_second value holds steps s left n operands h k o a b = subst (λ (m : ℕ). IsFirst value holds steps m operands) (omega arith)
    (stopped value holds steps s left (n + 1) operands h k o a b)

pub at_number : (holds : ℚ → Bool) (steps left : List Step) (n m : ℕ) → n ≡ m → IsSoFar holds steps left n → IsSoFar holds steps left m
at_number holds steps left n m e h = subst (λ (k : ℕ). IsSoFar holds steps left k) e h

-- ---- the steps of a term
pub no_term : (total x y : ℚ) → (is_zero x || is_zero y) ≡ true → term_steps total x y ≡ []
no_term total x y e = ap (λ b. cond b [] (multiple_steps total x y)) e

pub a_term : (total x y : ℚ) → (is_zero x || is_zero y) ≡ false → term_steps total x y ≡ multiple_steps total x y
a_term total x y e = ap (λ b. cond b [] (multiple_steps total x y)) e

-- where one factor is 0 the total stays
pub no_product : (total x y : ℚ) → (is_zero x || is_zero y) ≡ true → total ≡ total +ℚ x *ℚ y
no_product total x y e = sym (add_zero total) ∙ ap (λ a. total +ℚ a) (sym (go (either_true (is_zero x) (is_zero y) e)))
  where
    go : (is_zero x ≡ true) ⊎ (is_zero y ≡ true) → x *ℚ y ≡ zero_ℚ
    go (inl h) = ap (λ a. a *ℚ y) (zero_of_test x h) ∙ zero_mul y
    go (inr h) = ap (λ a. x *ℚ a) (zero_of_test y h) ∙ mul_zero x

-- ---- the steps of a product
pub product_at : (holds : ℚ → Bool) (steps : List Step) (total x y : ℚ) (row vector row' vector' : List ℚ) (n : ℕ) → row ≡ x ∷ row' → vector ≡ y ∷ vector' →
    IsSoFar holds steps (product_steps total row vector) n → IsSoFar holds steps (term_steps total x y ++ product_steps (total +ℚ x *ℚ y) row' vector') n
product_at holds steps total x y row vector row' vector' n e f h = same_left holds steps (product_steps total row vector)
    (term_steps total x y ++ product_steps (total +ℚ x *ℚ y) row' vector') n (ap₂ (product_steps total) e f) h

pub sum_at_term : (total x y s : ℚ) (row vector row' vector' : List ℚ) → row ≡ x ∷ row' → vector ≡ y ∷ vector' → total +ℚ dot row vector ≡ s →
    (total +ℚ x *ℚ y) +ℚ dot row' vector' ≡ s
sum_at_term total x y s row vector row' vector' e f h = add_assoc total (x *ℚ y) (dot row' vector') ∙ ap (λ a. total +ℚ a) (sym (ap₂ dot e f)) ∙ h

pub product_done : (holds : ℚ → Bool) (steps : List Step) (total s : ℚ) (row vector : List ℚ) (n : ℕ) → row ≡ [] →
    IsSoFar holds steps (product_steps total row vector) n → total +ℚ dot row vector ≡ s → All (IsHeld holds) steps × (total ≡ s)
product_done holds steps total s row vector n e h k = (
  at_last holds steps n (same_left holds steps (product_steps total row vector) [] n (ap (λ r. product_steps total r vector) e) h),
  sym (add_zero total) ∙ ap (λ r. total +ℚ dot r vector) (sym e) ∙ k,
)

-- a product whose every term and sum is held takes no step that is not
pub either_way : (holds : ℚ → Bool) (steps : List Step) (b : Bool) → All (IsHeld holds) steps → All (IsHeld holds) (cond b [] steps)
either_way holds steps true h = All-nil (IsHeld holds)
either_way holds steps false h = h

pub short_steps : (holds : ℚ → Bool) (total : ℚ) (xs ys : List ℚ) → AreSumsHeld holds total xs ys → All (IsHeld holds) (product_steps total xs ys)
short_steps holds total [] ys h = All-nil (IsHeld holds)
short_steps holds total (x ∷ xs) [] h = All-nil (IsHeld holds)
short_steps holds total (x ∷ xs) (y ∷ ys) (term, sum, rest) =
    let mul : Step = record { op = Mul; a = x; b = y } in
    let add : Step = record { op = Add; a = total; b = x *ℚ y } in
    All-append (IsHeld holds) (term_steps total x y) (product_steps (total +ℚ x *ℚ y) xs ys)
    (either_way holds (multiple_steps total x y) (is_zero x || is_zero y)
    (All-cons (IsHeld holds) mul (add ∷ []) term (All-cons (IsHeld holds) add [] sum (All-nil (IsHeld holds)))))
    (short_steps holds (total +ℚ x *ℚ y) xs ys rest)

-- ---- what a `?` hands on
pub stop_runs : {T F : Type 0} (value : F → ℚ) (holds : ℚ → Bool) (steps : List Step) (r : Result T (Stop F)) (stop : Stop F) (Right : T → Type 0) →
    IsErrAnd r (λ e. e ≡ stop) → StopsAt value holds steps stop → Runs value holds steps r Right
stop_runs value holds steps (Ok x) stop Right h k = absurd h
stop_runs value holds steps (Err e) stop Right h k = subst (λ (s : Stop _). StopsAt value holds steps s) (sym h) k

-- ---- a list that is written from the front
pub write_on : {A B : Type 0} (f : A → B) (out : List A) (r : A) (q : B) (rest whole : List B) (new : List A) → new ≡ out ++ r ∷ [] → f r ≡ q →
    map f out ++ q ∷ rest ≡ whole → map f new ++ rest ≡ whole
write_on f out r q rest whole new n e h = ap (λ xs. map f xs ++ rest) n ∙ ap (λ xs. xs ++ rest) (map-append f out (r ∷ []) ∙ ap (λ y. map f out ++ y ∷ []) e)
    ∙ append_assoc (map f out) (q ∷ []) rest ∙ h

pub written_all : {A B : Type 0} (f : A → B) (out : List A) (rest whole : List B) → rest ≡ [] → map f out ++ rest ≡ whole → map f out ≡ whole
written_all f out rest whole e h = sym (append-nil (map f out)) ∙ ap (λ r. map f out ++ r) (sym e) ∙ h

-- ---- the steps of a combination and of quotients
pub combination_at : (k x y : ℚ) (p m p' m' : List ℚ) (left : List Step) → p ≡ x ∷ p' → m ≡ y ∷ m' →
    combination_steps k p m ++ left ≡ multiple_steps x k y ++ (combination_steps k p' m' ++ left)
combination_at k x y p m p' m' left e f = ap (λ ss. ss ++ left) (ap₂ (combination_steps k) e f) ∙ append_assoc (multiple_steps x k y) (combination_steps k p' m') left

pub combination_end : (k : ℚ) (p m : List ℚ) (left : List Step) → p ≡ [] → combination_steps k p m ++ left ≡ left
combination_end k p m left e = ap (λ q. combination_steps k q m ++ left) e

pub quotients_at : (by x : ℚ) (v v' : List ℚ) (left : List Step) → v ≡ x ∷ v' →
    quotient_steps by v ++ left ≡ record { op = Div; a = x; b = by } ∷ (quotient_steps by v' ++ left)
quotients_at by x v v' left e = ap (λ w. quotient_steps by w ++ left) e

pub quotients_end : (by : ℚ) (v : List ℚ) (left : List Step) → v ≡ [] → quotient_steps by v ++ left ≡ left
quotients_end by v left e = ap (λ w. quotient_steps by w ++ left) e

-- the answer of a call within that was given up
pub match_stop : {T F : Type 0} (value : F → ℚ) (holds : ℚ → Bool) (steps : List Step) (r : Result T (Stop F)) (stop : Stop F) (Right : T → Type 0) →
    IsErrAnd r (λ e. e ≡ stop) → StopsAt value holds steps stop → MatchResult r Right (λ s. StopsAt value holds steps s)
match_stop value holds steps (Ok x) stop Right h k = absurd h
match_stop value holds steps (Err e) stop Right h k = subst (λ (s : Stop _). StopsAt value holds steps s) (sym h) k

pub plus_end : (p m : List ℚ) (k : ℚ) → p ≡ [] → m ≡ [] → plus p (scaled k m) ≡ []
plus_end p m k e f = ap₂ (λ u v. plus u (scaled k v)) e f

-- the answer of the last call
pub finish : {T F : Type 0} (value : F → ℚ) (holds : ℚ → Bool) (steps : List Step) (n : ℕ) (r : Result T (Stop F)) (P Right : T → Type 0) →
    MatchResult r (λ z. IsSoFar holds steps [] n) (λ s. StopsAt value holds steps s) → IfOk r P → ((z : T) → P z → Right z) → Runs value holds steps r Right
finish value holds steps n (Ok z) P Right h k f = (at_last holds steps n h, f z k)
finish value holds steps n (Err s) P Right h k f = h

-- the number of a step is at most how many there are
pub first_within : {F : Type 0} (value : F → ℚ) (holds : ℚ → Bool) (steps : List Step) (number : ℕ) (left : Left F) → IsFirst value holds steps number left → number ≤ length steps
first_within value holds steps number left h =
    let e : length steps ≡ length h.before + length (h.step ∷ h.after) = ap length h.split ∙ length-append h.before (h.step ∷ h.after) in
    let k : number ≡ length h.before + 1 = h.numbered in
    let l : length (h.step ∷ h.after) ≡ suc (length h.after) = refl in omega arith

-- ---- the entry that leads
pub leading_at : (v v' : List ℚ) (x : ℚ) → v ≡ x ∷ v' → is_zero x ≡ true → leading v' ≡ leading v
leading_at v v' x e h = sym (ap leading e ∙ ap (λ b. cond b (leading v') x) h)

pub leading_here : (v v' : List ℚ) (x : ℚ) → v ≡ x ∷ v' → is_zero x ≡ false → x ≡ leading v
leading_here v v' x e h = sym (ap leading e ∙ ap (λ b. cond b (leading v') x) h)

-- ---- answers that are handed on
pub on_ok_map : {T E : Type 0} (r : Result T E) (P Q : Type 0) → OnOk r P → (P → Q) → OnOk r Q
on_ok_map (Ok x) P Q h f = f h
on_ok_map (Err e) P Q h f = tt

pub if_err_map : {T E : Type 0} (r : Result T E) (P Q : E → Type 0) → IfErr r P → ((e : E) → P e → Q e) → IfErr r Q
if_err_map (Ok x) P Q h f = tt
if_err_map (Err e) P Q h f = f e h

pub if_ok_map : {T E : Type 0} (r : Result T E) (P Q : T → Type 0) → IfOk r P → ((x : T) → P x → Q x) → IfOk r Q
if_ok_map (Ok x) P Q h f = f x h
if_ok_map (Err e) P Q h f = tt
