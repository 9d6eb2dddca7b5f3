-- The outside of a run: four channels, and what becomes of them.
use Rattle.std.specs.Prelude.{◌≡◌, ℕ, ◌<◌, ◌≤◌, List, length, take, Option}
use Rattle.src_sink.specs.Outside.{Appends, Rose}
use Rattle.src_sink.specs.Ends.{TakesAtMost, TakesCount}

-- what a channel tells: the bytes that are left in a source, or held by an output, and how many
-- calls failed
pub record Channel : Type 0 where
  pub bytes : Option (List ℕ)
  pub faults : ℕ

-- a channel by its parts
abbrev pub channel : Option (List ℕ) → ℕ → Channel
channel bytes faults = record { bytes = bytes; faults = faults }

-- the four channels: two sources and two outputs
pub record World : Type 0 where
  pub problem : Channel
  pub log_in : Channel
  pub out : Channel
  pub log_out : Channel

-- the same of all four
abbrev pub world : Channel → Channel → Channel → Channel → World
world problem log_in out log_out = record {
  problem = problem;
  log_in = log_in;
  out = out;
  log_out = log_out;
}

-- the two sources
pub record Sources : Type 0 where
  pub problem : Channel
  pub log_in : Channel

-- the same of the two sources
abbrev pub sources : Channel → Channel → Sources
sources problem log_in = record { problem = problem; log_in = log_in }

-- the two sources of the four channels
abbrev pub sources_of : World → Sources
sources_of w = sources w.problem w.log_in

-- a channel was not called
pub record Uncalled (old new : Channel) : Type 0 where
  pub bytes : new.bytes ≡ old.bytes
  pub faults : new.faults ≡ old.faults

-- more bytes were taken than the limit, and so many
pub record ReadPast (old new : Channel) (limit read : ℕ) : Type 0 where
  pub above : limit < read
  pub taken : TakesCount old.bytes new.bytes read

-- a source failed, before the limit was passed
pub record ReadFailed (old new : Channel) (limit : ℕ) : Type 0 where
  pub within : TakesAtMost old.bytes new.bytes limit
  pub rose : Rose old.faults new.faults

-- the whole text was written
pub record Written (text : List ℕ) (old new : Channel) : Type 0 where
  pub appended : Appends old.bytes new.bytes text
  pub counted : old.faults ≤ new.faults

-- the output failed after the first `sent` bytes of the text that was to be written
pub record PartlyWritten (sent : ℕ) (text : List ℕ) (old new : Channel) : Type 0 where
  pub part : sent < length text
  pub appended : Appends old.bytes new.bytes (take sent text)
  pub rose : Rose old.faults new.faults

-- no count of faults fell
pub record NoCountFell (old new : World) : Type 0 where
  pub problem : old.problem.faults ≤ new.problem.faults
  pub log_in : old.log_in.faults ≤ new.log_in.faults
  pub out : old.out.faults ≤ new.out.faults
  pub log_out : old.log_out.faults ≤ new.log_out.faults
