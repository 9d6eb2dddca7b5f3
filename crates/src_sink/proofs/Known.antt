-- For callers: what the clauses of reading and writing say of bytes that are told, and of counts.
use Rattle.std.proofs.Common.{◌≡◌, ℕ, ◌+◌, ◌≤◌, List, [], ◌++◌, Option, None, Some, length, drop, arith, sym, ap, ◌∙◌, length-append, inl, inr, append-nil, refl}
use Rattle.std.proofs.lemmas.List.{drop_at}
use Rattle.src_sink.specs.Outside.{Consumes, Appends, IsAtEnd, Rose, NeverFalls}
use Rattle.src_sink.specs.Ends.{TakesCount, Explains}
use Rattle.src_sink.specs.declared.whole.ReadEnd.{ReadEnd}
use Rattle.src_sink.specs.declared.whole.ReadEnd.TheVariants.{Fault, TooLong, NoMemory}

-- bytes that are told begin with those that were taken, and the rest is left
pub Consumes-known : (a b : Option (List ℕ)) (xs bs : List ℕ) → a ≡ Some xs → Consumes a b bs → (xs ≡ bs ++ drop (length bs) xs) × (b ≡ Some (drop (length bs) xs))
Consumes-known None b xs bs told h = absurd (cc told)
Consumes-known (Some x) None xs bs told h = absurd h
Consumes-known (Some x) (Some y) xs bs told h =
    let whole : xs ≡ bs ++ y = cc in
    let rest : drop (length bs) xs ≡ y = rw whole (drop_at bs y (length bs) refl) in
    (rw rest whole, ap (λ l. Some l) (sym rest))

-- all bytes that are told were taken, and none is left
pub Consumes-to_end : (a b : Option (List ℕ)) (xs bs : List ℕ) → a ≡ Some xs → Consumes a b bs → IsAtEnd b → (bs ≡ xs) × (b ≡ Some [])
Consumes-to_end None b xs bs told h end = absurd (cc told)
Consumes-to_end (Some x) None xs bs told h end = absurd h
Consumes-to_end (Some x) (Some y) xs bs told h end =
    let whole : x ≡ bs ++ [] = rw end at h in
    (let all : x ≡ bs = whole ∙ append-nil bs in cc, ap (λ l. Some l) end)

-- of bytes that are told the first k were taken, and the others are left
pub TakesCount-known : (a b : Option (List ℕ)) (xs : List ℕ) (k : ℕ) → a ≡ Some xs → TakesCount a b k → (k ≤ length xs) × (b ≡ Some (drop k xs))
TakesCount-known a b xs k told (front, taken, count) =
    let h = Consumes-known a b xs front told taken in
    let size : length xs ≡ length front + length (drop (length front) xs) = ap length h.0 ∙ length-append front (drop (length front) xs) in
    (omega arith, rw count at h.1)

-- bytes that are told are held and then those that were written
pub Appends-known : (a b : Option (List ℕ)) (xs bs : List ℕ) → a ≡ Some xs → Appends a b bs → b ≡ Some (xs ++ bs)
Appends-known None b xs bs told h = absurd (cc told)
Appends-known (Some x) None xs bs told h = absurd h
Appends-known (Some x) (Some y) xs bs told h = let same : x ≡ xs = cc in ap (λ l. Some l) (rw same at h)

-- a count that rose in a later call rose
pub Rose-before : (old mid new : ℕ) → old ≤ mid → Rose mid new → Rose old new
Rose-before old mid new first (inl more) = inl (omega arith)
Rose-before old mid new first (inr top) = inr top

-- a count that rose in an earlier call rose
pub Rose-after : (old mid new : ℕ) → Rose old mid → NeverFalls mid new → Rose old new
Rose-after old mid new (inl more) falls = inl (omega arith)
Rose-after old mid new (inr top) falls = inr (omega arith)

-- a source whose count did not rise, and whose bytes are told and within the limit, is read to its end
-- unless there is no memory
pub Explains-honest : (e : ReadEnd) (limit : ℕ) (a b : Option (List ℕ)) (f f' : ℕ) (xs : List ℕ) → a ≡ Some xs → length xs ≤ limit → (Rose f f' → ⊥) → Explains e limit a b f f' → e ≡ NoMemory
Explains-honest Fault limit a b f f' xs told fits steady h = absurd (steady h.0)
Explains-honest (TooLong k) limit a b f f' xs told fits steady h =
    let most = (TakesCount-known a b xs k told h.1).0 in absurd (omega (arith, h.0))
Explains-honest NoMemory limit a b f f' xs told fits steady h = refl
