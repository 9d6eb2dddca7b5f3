use Rattle.polyhedra.proofs.Generators.{tight_at_meeting}
use Rattle.polyhedra.proofs.tight_at_meeting.Goals as goal

pub returns : goal.returns
returns c = tight_at_meeting
