-- How a reply is written.
use Rattle.std.specs.Prelude.{◌≡◌, ℕ, ◌⊎◌, Bool, true, false, List, Option, Some, None}
use Rattle.commands.specs.declared.reply.Reply.{Reply}
use Rattle.commands.specs.declared.status.Status.{Status}
use Rattle.commands.specs.declared.status.Status.TheVariants.{WriteFault}
use Rattle.bensolve_main.specs.World.{Channel, World, Uncalled, Written, PartlyWritten}

-- an output (that of the log, or the other one) failed after a front of a text, and the result
-- says so
abbrev pub Fails : Bool → List ℕ → Status → Channel → Channel → Type 0
Fails log text result old new =
    (sent : ℕ) × (result ≡ WriteFault log sent) × PartlyWritten sent text old new

-- a text was written whole to an output and the result is this status, or the output failed
abbrev pub Sends : Bool → List ℕ → Status → Status → Channel → Channel → Type 0
Sends log text status result old new =
    ((result ≡ status) × Written text old new) ⊎ Fails log text result old new

-- the text goes to `out`, then the log, where there is one, to `log_out`
abbrev pub DeliversWith : Option (List ℕ) → Status → List ℕ → Status → World → World → Type 0
DeliversWith None status text result old new =
    Sends false text status result old.out new.out × Uncalled old.log_out new.log_out
DeliversWith (Some log) status text result old new =
    (Written text old.out new.out × Sends true log status result old.log_out new.log_out)
    ⊎ (Fails false text result old.out new.out × Uncalled old.log_out new.log_out)

-- the reply was written whole and the result is its status, or an output failed and how far it was
-- written
abbrev pub Delivers : Reply → Status → World → World → Type 0
Delivers r result old new = DeliversWith r.log r.status r.text result old new
