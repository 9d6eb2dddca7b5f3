-- What the outcome of a command of the code says of the shape of its words.
use Rattle.std.proofs.Common.{◌≡◌, Option, Some, None, IfSome, true≢false, ap, ◌∙◌, subst}
use Rattle.std.specs.Option.{is_some, option_map}
use Rattle.commands.specs.Seen.{shape_seen}
use Rattle.commands.specs.Tasks.{Shape}
use Rattle.commands.specs.declared.command.Command.{Command}
use Rattle.commands.specs.declared.status.Status.{Status}
use Rattle.commands.specs.declared.status.Status.TheVariants.{Words}
use Rattle.bensolve_main.specs.Accepted.{Accepted}
use Rattle.bensolve_main.specs.Answerable.{Completes, Honest}
use Rattle.bensolve_main.specs.Outcome.{Outcome}
use Rattle.bensolve_main.specs.World.{World}
use Rattle.bensolve_main.proofs.Checkers.{accepts}
use Rattle.bensolve_main.proofs.Complete.{completes}
use Rattle.bensolve_main.proofs.Fits.{seen}
use Rattle.bensolve_main.proofs.Outcomes.{never_words}

pub words_of : (o : Option Command) (k : Command) (s : Option Shape) (result : Status) (v w : World) → option_map shape_seen o ≡ s → o ≡ Some k → Outcome (shape_seen k) result v w →
    (result ≡ Words → s ≡ None) × (s ≡ None → result ≡ Words)
words_of o k s result v w shaped is outcome = (
  λ words. absurd (never_words (shape_seen k) v w (subst (λ (r : Status). Outcome (shape_seen k) r v w) words outcome)),
  λ none. absurd (true≢false (ap (λ (x : Option Shape). is_some x) (seen o k s shaped is ∙ none))),
)

pub outcome_of : (o : Option Command) (k : Command) (s : Option Shape) (result : Status) (v w : World) → option_map shape_seen o ≡ s → o ≡ Some k → Outcome (shape_seen k) result v w →
    IfSome s (λ shape. Outcome shape result v w)
outcome_of o k s result v w shaped is outcome = subst (λ (x : Option Shape). IfSome x (λ shape. Outcome shape result v w)) (seen o k s shaped is) outcome

pub complete_of : (o : Option Command) (k : Command) (s : Option Shape) (result : Status) (v w : World) → option_map shape_seen o ≡ s → o ≡ Some k → Outcome (shape_seen k) result v w →
    IfSome s (λ shape. Honest shape v w → Completes result)
complete_of o k s result v w shaped is outcome =
    subst (λ (x : Option Shape). IfSome x (λ shape. Honest shape v w → Completes result)) (seen o k s shaped is)
    (λ honest. completes (shape_seen k) result v w honest outcome)

pub accepted_of : (o : Option Command) (k : Command) (s : Option Shape) (result : Status) (v w : World) → option_map shape_seen o ≡ s → o ≡ Some k → Outcome (shape_seen k) result v w →
    IfSome s (λ shape. Accepted shape result v w)
accepted_of o k s result v w shaped is outcome =
    subst (λ (x : Option Shape). IfSome x (λ shape. Accepted shape result v w)) (seen o k s shaped is)
    (accepts (shape_seen k) result v w outcome)
