-- What contracts see of a source or a sink over std's reader or writer.
use Rattle.std.specs.Prelude.{ℕ, Bool}

-- whether there is no reader or writer, and how many calls failed
pub record Edge : Type 0 where
  pub missing : Bool
  pub faults : ℕ
