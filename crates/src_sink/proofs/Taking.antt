-- What two reads or two writes do, one after the other.
use Rattle.std.proofs.Common.{ℕ, ◌+◌, ◌-◌, ◌≤◌, List, ◌++◌, Option, length, take, drop, arith, length-append}
use Rattle.std.proofs.Math.Seq.{take-add}
use Rattle.std.proofs.lemmas.List.{length-take-le, take_rest}
use Rattle.std.proofs.KnownBytes.{Consumes-trans, Appends-trans}
use Rattle.src_sink.specs.Outside.{Consumes, Appends}
use Rattle.src_sink.specs.Ends.{TakesCount, TakesAtMost}

-- what was read before and the front of a piece are a front of what was left
pub TakesCount-more : (a b c : Option (List ℕ)) (bytes piece : List ℕ) (k : ℕ) → Consumes a b bytes → k ≤ length piece → Consumes b c (take k piece)
    → TakesCount a c (length bytes + k)
TakesCount-more a b c bytes piece k before fits now =
    (bytes ++ take k piece, Consumes-trans a b c bytes (take k piece) before now, omega (arith, length-append bytes (take k piece), length-take-le k piece fits))

pub TakesAtMost-from_count : (a b : Option (List ℕ)) (k limit : ℕ) → k ≤ limit → TakesCount a b k → TakesAtMost a b limit
TakesAtMost-from_count a b k limit fits (front, taken, count) = (front, taken, omega arith)

-- the bytes before a place and those that were written from there on
pub Appends-more : (a b c : Option (List ℕ)) (bytes : List ℕ) (sent k : ℕ) → Appends a b (take sent bytes) → Appends b c (take k (take (length bytes - sent) (drop sent bytes)))
    → Appends a c (take (sent + k) bytes)
Appends-more a b c bytes sent k before now =
    let rest : Appends b c (take k (drop sent bytes)) = rw (take_rest bytes sent) at now in
    rw (take-add sent k bytes) (Appends-trans a b c (take sent bytes) (take k (drop sent bytes)) before rest)
