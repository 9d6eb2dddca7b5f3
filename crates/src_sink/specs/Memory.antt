-- What contracts see of a source and of a sink in memory.
use Rattle.std.specs.Prelude.{◌≡◌, ℕ, ◌<◌, List, length}

-- a source in memory: the bytes left, the most that a call gives, the numbers of the calls that fail,
-- how many calls there were, and how many of them failed
pub record Supply : Type 0 where
  pub left : List ℕ
  pub most : ℕ
  pub fails : List ℕ
  pub calls : ℕ
  pub faults : ℕ

-- a sink in memory: the bytes held, the room for bytes, the most that a call takes, the numbers of the
-- calls that fail, how many calls there were, and how many of them failed
pub record Store : Type 0 where
  pub held : List ℕ
  pub room : ℕ
  pub most : ℕ
  pub fails : List ℕ
  pub calls : ℕ
  pub faults : ℕ

-- there is something to write, and no room for it
abbrev pub IsFullFor : Store → List ℕ → Type 0
IsFullFor sink bytes = (0 < length bytes) × (length sink.held ≡ sink.room)
