-- Short mantissas.
use Rattle.std.proofs.Common.{◌≡◌, refl, ℕ, ℤ, ◌<◌, ◌^◌, ◌%◌, ◌==◌, ◌&&◌, ◌||◌, ◌⊎◌, inl, inr, Bool, true, false, arith, to_z, of_z, nat_lt}
use Rattle.std.specs.Int.{w128}
use Rattle.std.specs.Prelude.{unsigned_abs}
use Rattle.std.proofs.lemmas.Int.{ints}
use Rattle.std.proofs.lemmas.Bool.{and_parts, ltb-true}
use Rattle.vlp_printer.specs.Decimal.{is_short}

-- one of at most 37 digits fits 128 bits
below : (m : ℤ) → unsigned_abs m < 10 ^ 37 → to_z w128 (of_z w128 m) ≡ m
below m h = omega (arith, ints)

one_of : (a b : Bool) → (a || b) ≡ true → (a ≡ true) ⊎ (b ≡ true)
one_of true b h = inl refl
one_of false b h = inr h

size : (n : ℕ) → (nat_lt n (10 ^ 36) ≡ true) ⊎ ((n % 10 == 0 && nat_lt n (10 ^ 37)) ≡ true) → n < 10 ^ 37
size n (inl small) = let less = ltb-true n (10 ^ 36) small in omega arith
size n (inr long) = ltb-true n (10 ^ 37) (and_parts (n % 10 == 0) (nat_lt n (10 ^ 37)) long).1

pub short_fits : (m : ℤ) → is_short m ≡ true → to_z w128 (of_z w128 m) ≡ m
short_fits m h = below m (size (unsigned_abs m) (one_of (nat_lt (unsigned_abs m) (10 ^ 36)) (unsigned_abs m % 10 == 0 && nat_lt (unsigned_abs m) (10 ^ 37)) h))
